-- a port at work asks something, and says a message under its next number

use Rattle.std.proofs.Common.{◌≡◌, Bool, true, List, [], ◌∷◌, ◌++◌, None, Some, refl, ap, length}
use Rattle.law_port_facts.specs.port_model.ifmp_wire.declared.message.Message.{Message}
use Rattle.law_port_facts.proofs.Keyed.{on_both, every_more}
use Rattle.law_label_line.specs.Cells as lines
use Rattle.law_label_line.specs.Cells.{Role, Downstream, Upstream, Cell, ToSwitch, frame}
use Rattle.law_label_line.specs.Line.{Line}
use Rattle.law_label_line.specs.Moves.{Lose}
use Rattle.law_port_facts.specs.port_model.declared.action.Action.{Action}
use Rattle.law_port_facts.specs.port_model.declared.action.Action.TheVariants.{Say, Reset}
use Rattle.law_port_facts.specs.port_model.Words.{Work, halts, is_spent, halts_if_spent}
use Rattle.law_port_facts.specs.port_model.Port.{with_action}
use Rattle.law_port_views.specs.Link.{LinkLabel, other}
use Rattle.law_port_views.specs.Heard.{heard_by, framed, is_own, IsOwn, asked}
use Rattle.law_port_views.specs.Shown.{Shown}
use Rattle.law_port_views.specs.Reaching.{ReachesFrom}
use Rattle.law_port_views.proofs.Reach.{begins}
use Rattle.law_port_views.proofs.Lists.{sent_none, sent_said}
use Rattle.law_port_views.proofs.Queues.{sends, sends_rest, sent_by, unsaid}

-- what a port asks that says nothing to the line
pub record IsQuiet (role : Role) (link : LinkLabel) (action : Action) : Type 0 where
  pub none : asked role link.label action ≡ []
  pub own : IsOwn (link.address (other role)) action

module _ (link : LinkLabel) (like : Type 0) (queued : List Cell) where
  asks_down : (w : Work) (action : Action) (line : Line) → IsQuiet Downstream link action → Shown Downstream link like queued w line
      → Shown Downstream link like queued (record w { actions = w.actions ++ action ∷ [] }) line
  asks_down w action line q s = record {
    side = s.side;
    session = s.session;
    label = s.label;
    flow = s.flow;
    number = s.number;
    unspent = s.unspent;
    known = s.known;
    reassembled = s.reassembled;
    drawn = s.drawn;
    own = every_more (IsOwn (link.address Upstream)) w.actions action s.own q.own;
    sent = sent_none Downstream link.label queued line.to_upstream.to_switch w.actions action q.none s.sent;
  }

  asks_up : (w : Work) (action : Action) (line : Line) → IsQuiet Upstream link action → Shown Upstream link like queued w line
      → Shown Upstream link like queued (record w { actions = w.actions ++ action ∷ [] }) line
  asks_up w action line q s = record {
    side = s.side;
    session = s.session;
    grant = s.grant;
    once = s.once;
    lent = s.lent;
    expected = s.expected;
    drawn = s.drawn;
    own = every_more (IsOwn (link.address Downstream)) w.actions action s.own q.own;
    sent = sent_none Upstream link.label queued line.to_downstream.to_switch w.actions action q.none s.sent;
  }

  asks_quiet : (role : Role) (w : Work) (action : Action) (line : Line) → IsQuiet role link action → Shown role link like queued w line
      → Shown role link like queued (record w { actions = w.actions ++ action ∷ [] }) line
  asks_quiet Downstream w action line q s = asks_down w action line q s
  asks_quiet Upstream w action line q s = asks_up w action line q s

  -- halted or not, the line stays
  halted_too : (role : Role) (w : Work) (b : Bool) (line : Line) → Shown role link like queued w line → Shown role link like queued (record w { halted = b }) line
  halted_too Downstream w b line s = record {
    side = s.side;
    session = s.session;
    label = s.label;
    flow = s.flow;
    number = s.number;
    unspent = s.unspent;
    known = s.known;
    reassembled = s.reassembled;
    drawn = s.drawn;
    own = s.own;
    sent = s.sent;
  }
  halted_too Upstream w b line s = record {
    side = s.side;
    session = s.session;
    grant = s.grant;
    once = s.once;
    lent = s.lent;
    expected = s.expected;
    drawn = s.drawn;
    own = s.own;
    sent = s.sent;
  }

  pub acts_quiet : (role : Role) (w : Work) (action : Action) (line : Line) → IsQuiet role link action → Shown role link like queued w line
      → Shown role link like queued (with_action w action) line
  acts_quiet role w action line q s = on_both (λ (v : Work). Shown role link like queued v line) w.halted w (record w { actions = w.actions ++ action ∷ [] })
      s (asks_quiet role w action line q s)

  reset_quiet : (role : Role) → IsQuiet role link Reset
  reset_quiet role = record { none = refl; own = tt }

  pub halts_shown : (role : Role) (w : Work) (line : Line) → Shown role link like queued w line → Shown role link like queued (halts w) line
  halts_shown role w line s = halted_too role (with_action w Reset) true line (acts_quiet role w Reset line (reset_quiet role) s)

  pub closes_shown : (role : Role) (w : Work) (line : Line) → Shown role link like queued w line → Shown role link like queued (halts_if_spent w) line
  closes_shown role w line s = on_both (λ (v : Work). Shown role link like queued v line) (is_spent w.port.session) (halts w) w (halts_shown role w line s) s

  -- *It says a message*
  says_down : (w : Work) (message : Message) (said : lines.Message) (line : Line) → heard_by Downstream link.label message ≡ Some said
      → is_own (link.address Upstream) message ≡ true → Shown Downstream link like queued w line
      → Shown Downstream link like queued (record w { actions = w.actions ++ Say message ∷ [] }) (sends Downstream line (frame said))
  says_down w message said line e own s = record {
    side = s.side;
    session = s.session;
    label = s.label;
    flow = s.flow;
    number = s.number;
    unspent = s.unspent;
    known = s.known;
    reassembled = s.reassembled;
    drawn = s.drawn;
    own = every_more (IsOwn (link.address Upstream)) w.actions (Say message) s.own own;
    sent = sent_said Downstream link.label queued line.to_upstream.to_switch w.actions message said e s.sent;
  }

  says_up : (w : Work) (message : Message) (said : lines.Message) (line : Line) → heard_by Upstream link.label message ≡ Some said
      → is_own (link.address Downstream) message ≡ true → Shown Upstream link like queued w line
      → Shown Upstream link like queued (record w { actions = w.actions ++ Say message ∷ [] }) (sends Upstream line (frame said))
  says_up w message said line e own s = record {
    side = s.side;
    session = s.session;
    grant = s.grant;
    once = s.once;
    lent = s.lent;
    expected = s.expected;
    drawn = s.drawn;
    own = every_more (IsOwn (link.address Downstream)) w.actions (Say message) s.own own;
    sent = sent_said Upstream link.label queued line.to_downstream.to_switch w.actions message said e s.sent;
  }

  said_shown : (role : Role) (w : Work) (message : Message) (said : lines.Message) (line : Line) → heard_by role link.label message ≡ Some said
      → is_own (link.address (other role)) message ≡ true → Shown role link like queued w line
      → Shown role link like queued (record w { actions = w.actions ++ Say message ∷ [] }) (sends role line (frame said))
  said_shown Downstream w message said line e own s = says_down w message said line e own s
  said_shown Upstream w message said line e own s = says_up w message said line e own s

  -- from the line that says it: where the port doesn't say it, it is lost at once
  pub lost_again : (role : Role) (w : Work) (said : lines.Message) (line : Line) → Shown role link like queued w line
      → ReachesFrom role link like queued w (sends role line (frame said)) line
  lost_again role w said line s = record {
    moves = Lose (other role) ToSwitch (length (sent_by role line)) ∷ [];
    after = line;
    is = unsaid role line said;
    shown = s;
    rest = refl;
  }

  pub acts_said : (role : Role) (w : Work) (message : Message) (said : lines.Message) (line : Line) → heard_by role link.label message ≡ Some said
      → is_own (link.address (other role)) message ≡ true → Shown role link like queued w line
      → ReachesFrom role link like queued (with_action w (Say message)) (sends role line (frame said)) line
  acts_said role w message said line e own s =
      on_both (λ (v : Work). ReachesFrom role link like queued v (sends role line (frame said)) line) w.halted w (record w { actions = w.actions ++ Say message ∷ [] })
      (lost_again role w said line s)
      (begins role link like queued (record w { actions = w.actions ++ Say message ∷ [] }) (sends role line (frame said)) line
      (said_shown role w message said line e own s) (sends_rest role line (frame said)))

  -- one that doesn't bear on the label
  pub acts_unheard : (role : Role) (w : Work) (message : Message) (line : Line) → heard_by role link.label message ≡ None
      → is_own (link.address (other role)) message ≡ true → Shown role link like queued w line
      → Shown role link like queued (with_action w (Say message)) line
  acts_unheard role w message line e own s = acts_quiet role w (Say message) line (record { none = ap framed e; own = own }) s
