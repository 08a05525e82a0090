-- joins that a tick enters, as moves of the line of a label: once its grant is lent, an input may be joined to it

use Rattle.std.proofs.Common.{◌≡◌, ℕ, Bool, true, false, List, [], ◌∷◌, ◌++◌, Option, None, Some, refl, sym, ◌∙◌, ap, subst, arith, fold, ◌⊎◌, inl, inr, if◌then◌else◌}
use Rattle.std.specs.Prelude.{◌&&◌}
use Rattle.std.specs.Option.{option_map}
use Rattle.world_model.specs.Words.{PortNo, End as ChannelEnd, label_channel_of, number_of_channel, best, FlowId, next_hop_of, flow_destination, same_flow, MoveBranch, at, put, Setup, home_of, label_end, Label, Grant, ByController, grant_label, grant_for, is_by_controller, Work, label_at, Linked, port_key, linked_at, begins, with_work, works, asks, port_by, join_through, join_by, join_for, may_join, enters_grant, enters_label, joins, tries_label, label_on, tries_join}
use Rattle.law_label_events.specs.ordered_lists.Ordered.{Every}
use Rattle.law_label_events.specs.law_port_facts.Port.{IsLabelEnd}
use Rattle.law_label_events.proofs.law_port_facts.Keyed.{by_eq, at_put_same, apart_at}
use Rattle.law_label_events.proofs.law_port_facts.Found.{find_passes}
use Rattle.law_label_events.proofs.law_port_facts.Rules.{and_first}
use Rattle.law_label_events.proofs.law_port_facts.Instances.{joined_gave, lent_gave}
use Rattle.law_label_events.specs.law_label_line.Cells as lines
use Rattle.law_label_events.specs.law_label_line.Cells.{Role, Upstream}
use Rattle.law_label_events.specs.law_label_line.Line.{Line}
use Rattle.law_label_events.specs.law_label_line.Moves.{run}
use Rattle.law_label_events.proofs.law_label_steps.Joins.{lent_more}
use Rattle.world_model.specs.port_model.Joins as port_joins
use Rattle.law_label_events.specs.law_port_views.Link.{LinkLabel, other}
use Rattle.law_label_events.specs.law_port_views.Shown.{Part, part_of, ShownAt}
use Rattle.law_label_events.specs.law_port_views.Reaching.{Reaches}
use Rattle.law_label_events.proofs.law_port_views.Answering.{joined_leads, lent_leads}
use Rattle.law_label_events.proofs.law_port_views.Reach.{run_join}
use Rattle.world_model.specs.Controller.{Acted}
use Rattle.world_model.specs.Joins.{Join, output_joined}
use Rattle.law_label_events.proofs.law_controller_facts.Moves.{HasPorts, found_at_own, found_port, moves_ports}
use Rattle.law_label_events.proofs.law_controller_facts.Entering.{by_controller, tries_join_goes}
use Rattle.law_label_events.specs.law_shown_cells.Seen.{IsUnmade}
use Rattle.law_label_events.specs.law_shown_cells.Label.{OnControl, ShowsCells}
use Rattle.law_label_events.specs.law_controller_views.Ends.{working, End, EndGoes, EndLeads}
use Rattle.law_label_events.specs.law_controller_views.Lifted.{IsProper, IsLifted}
use Rattle.law_label_events.proofs.law_controller_views.Parts.{kept_chain, grows_self, grows_on, shown_less, end_stays, end_then}
use Rattle.law_label_events.proofs.law_controller_views.Works.{linked_is, port_is, own_grows, asks_leads}
use Rattle.law_label_events.proofs.law_controller_views.AtPort.{at_port_leads}
use Rattle.law_label_events.proofs.law_controller_lifts.Lifts.{joined_says, lent_says}
use Rattle.law_lasting_joins.specs.law_quiet_controllers.Quiet.{entered_for, entered, Enters, here, later}
use Rattle.law_label_worlds.specs.Enters.{EntersTo}
use Rattle.law_run_facts.proofs.law_controller_bindings.Lasts.{some_same}

-- *More may be joined* behind than before: from every line that is shown with the one, moves lead to one that is shown with
-- the other
abbrev pub Turns : LinkLabel → (like more : Type 0) → Role → (a b : Acted) → Type 0
Turns link like more role a b = IsUnmade a.numbers.controls a.notes.frames → (line : Line)
    → End link like role a.notes.frames a.numbers.instances a.controller [] line → EndGoes link more role a b [] line

module _ (link : LinkLabel) (role : Role) where
  pub turns_on : (like mid more : Type 0) (a b c : Acted) → Turns link like mid role a b → Turns link mid more role b c → Turns link like more role a c
  turns_on like mid more a b c f g unmade line e =
      let first : EndGoes link mid role a b [] line = f unmade line e in
      let second : EndGoes link more role b c [] first.after = g (first.grows.unmade unmade) first.after first.end in
      record {
        moves = first.moves ++ second.moves;
        after = second.after;
        is = run_join line first.moves second.moves ∙ (ap (λ (z : Line). run z second.moves) first.is ∙ second.is);
        end = second.end;
        rest = second.rest ∙ first.rest;
        grows = grows_on first.grows second.grows;
      }

  -- less may be joined
  pub turns_less : (like less : Type 0) (a : Acted) → (less → like) → Turns link like less role a a
  turns_less like less a f unmade line e = record {
    moves = [];
    after = line;
    is = refl;
    end = record {
      linked = e.linked;
      found = e.found;
      port = e.port;
      address = e.address;
      port_address = e.port_address;
      queued = e.queued;
      queue = e.queue;
      shown = shown_less link less like role e.queued (working e.linked [] a.numbers.instances) (part_of role line) f e.shown;
      taken = e.taken;
    };
    rest = refl;
    grows = grows_self a;
  }

-- *A grant is lent* at the port of the label
module _ (link : LinkLabel) (proper : IsProper link) (like more : Type 0) where
  shown_as : (queued : List lines.Cell) (w : Work) (part : Part) → ShownAt Upstream link more queued w part
      → ShownAt Upstream link more queued (record { port = w.port; actions = w.actions; halted = false; instances = w.instances }) part
  shown_as queued w part s = record {
    side = s.side;
    session = s.session;
    grant = s.grant;
    once = s.once;
    lent = s.lent;
    expected = s.expected;
    drawn = s.drawn;
    own = s.own;
    sent = s.sent;
  }

  lends_own : (a : Acted) (linked : Linked) (grant : Grant) (input : ChannelEnd) → linked_at a.controller (link.port Upstream) ≡ Some linked → at grant_label grant.label linked.port.grants ≡ Some grant
      → grant.state ≡ ByController → grant.label ≡ link.label → Turns link like more Upstream a (with_work a linked (port_joins.lent (begins a linked) grant input))
  lends_own a linked grant input found granted sending label unmade line e =
      let is : linked ≡ e.linked = linked_is linked e.linked (sym found ∙ e.found) in
      let w : Work = port_joins.lent (begins a e.linked) grant input in
      let new : Linked = record e.linked { port = w.port } in
      let r : Reaches Upstream link more e.queued w line = lent_more link like e.queued more (begins a e.linked) grant input refl
      (subst (λ (z : Linked). at grant_label grant.label z.port.grants ≡ Some grant) is granted) sending label line e.shown in
      let key : port_key new ≡ (link.port Upstream).0 = ap (λ (p : PortNo). p.0) e.port in
      subst (λ (z : Linked). EndGoes link more Upstream a (with_work a z (port_joins.lent (begins a z) grant input)) [] line) (sym is)
      (record {
        moves = r.moves;
        after = r.after;
        is = r.is;
        end = record {
          linked = new;
          found = subst (λ (n : ℕ). at port_key n (put port_key new a.controller.ports) ≡ Some new) key
              (at_put_same port_key new a.controller.ports e.linked (subst (λ (n : ℕ). at port_key n a.controller.ports ≡ Some e.linked) (sym key) e.found));
          port = e.port;
          address = e.address;
          port_address = e.port_address;
          queued = e.queued;
          queue = e.queue;
          shown = shown_as e.queued w (part_of Upstream r.after) r.shown;
          taken = subst (ShowsCells (OnControl (link.port Upstream)) (other Upstream) link a.notes.frames e.linked.reassembly.chain) (sym (kept_chain Upstream Upstream r.after line r.rest)) e.taken;
        };
        rest = r.rest;
        grows = own_grows link proper like Upstream a new a.notes a.numbers.instances refl (omega arith);
      })

-- *A join that is entered*: a grant that the controller sends under is found for it
pub record IsEntering (a : Acted) (input : ChannelEnd) (join : Join) : Type 0 where
  linked : Linked
  grant : Grant
  found : linked_at a.controller linked.setup.port ≡ Some linked
  granted : at grant_label grant.label linked.port.grants ≡ Some grant
  sending : grant.state ≡ ByController
  is : record { input = input; port = linked.setup.port; grant = grant } ≡ join

tries_by : (a : Acted) (input : ChannelEnd) (label : Label) (b : Bool) → (if b then joins a (join_for a.controller input label.flow) else a) ≡ joins a (if b then join_for a.controller input label.flow else None)
tries_by a input label true = refl
tries_by a input label false = refl

pub tries_is : (a : Acted) (input : ChannelEnd) (o : Option Label) → tries_label a input o ≡ joins a (entered_for a.controller input o)
tries_is a input None = refl
tries_is a input (Some label) = tries_by a input label (may_join a.controller input label)

module _ (setups : List Setup) where
  entering_by : (a : Acted) (input : ChannelEnd) → HasPorts setups a → (o : Option PortNo) (next : Option FlowId) (join : Join) → join_by a.controller input o next ≡ Some join → IsEntering a input join
  entering_by a input h None next join e = absurd (cc e)
  entering_by a input h (Some port) None join e = absurd (cc e)
  entering_by a input h (Some port) (Some next) join e = by_found (linked_at a.controller port) refl e
    where
      by_grant : (linked : Linked) → linked_at a.controller port ≡ Some linked → (o : Option Grant) → grant_for linked.port.grants next ≡ o
          → option_map (λ grant. record { input = input; port = linked.setup.port; grant = grant }) o ≡ Some join → IsEntering a input join
      by_grant linked found None is e = absurd (cc e)
      by_grant linked found (Some grant) is e =
          let passes = find_passes (λ (g : Grant). is_by_controller g.state && same_flow g.flow next) linked.port.grants grant is in
          record {
            linked = linked;
            grant = grant;
            found = found_at_own setups a linked port found;
            granted = apart_at grant_label (λ (g : Grant). is_by_controller g.state && same_flow g.flow next) linked.port.grants grant (found_port setups a linked port h found).apart is;
            sending = by_controller grant.state (and_first (is_by_controller grant.state) (same_flow grant.flow next) passes);
            is = some_same (record { input = input; port = linked.setup.port; grant = grant }) join e;
          }

      by_found : (o : Option Linked) → linked_at a.controller port ≡ o → join_through input next o ≡ Some join → IsEntering a input join
      by_found None found e = absurd (cc e)
      by_found (Some linked) found e = by_grant linked found (grant_for linked.port.grants next) refl e

  pub entering : (a : Acted) (input : ChannelEnd) → HasPorts setups a → (join : Join) → (o : Option Label) → entered_for a.controller input o ≡ Some join → IsEntering a input join
  entering a input h join None e = absurd (cc e)
  entering a input h join (Some label) e = by (may_join a.controller input label) e
    where
      by : (b : Bool) → (if b then join_for a.controller input label.flow else None) ≡ Some join → IsEntering a input join
      by true e = entering_by a input h (port_by (best a.controller.table (flow_destination label.flow))) (next_hop_of label.flow) join e
      by false e = absurd (cc e)

  module _ (link : LinkLabel) (proper : IsProper link) (like : Type 0) (role : Role) where
    lent_lifted : (a : Acted) (linked : Linked) (grant : Grant) (input : ChannelEnd) → linked_at a.controller linked.setup.port ≡ Some linked → at grant_label grant.label linked.port.grants ≡ Some grant
        → grant.state ≡ ByController → IsLifted link like role a linked.setup.port (λ setup desk w. port_joins.lent w grant input)
    lent_lifted a linked grant input found granted sending = record {
      drawn = λ other there. (let same = lent_gave a.numbers.instances (begins a other) grant input refl in omega (arith, same));
      reads = λ other there same. lent_says (link.address role) (begins a other) grant input tt;
      leads = λ other there same queued.
          (let is : other ≡ linked = cc (sym there ∙ found) in
          lent_leads link like queued role (begins a other) grant input (subst (λ (x : Linked). at grant_label grant.label x.port.grants ≡ Some grant) (sym is) granted) sending);
    }

    joined_lifted : (a : Acted) (q : PortNo) (number : ℕ) (output : ChannelEnd) → IsLifted link like role a q (λ setup desk w. port_joins.joined w number output)
    joined_lifted a q number output = record {
      drawn = λ linked found. (let same = joined_gave a.numbers.instances (begins a linked) number output refl in omega (arith, same));
      reads = λ linked found same. joined_says (link.address role) (begins a linked) (Some output) (label_at linked.port number) tt;
      leads = λ linked found same queued. joined_leads link like queued role (begins a linked) number output;
    }

    -- the label, and the request, behind the grant
    enters_behind : (a : Acted) (join : Join) → EndLeads link like role a [] (asks (enters_label a join) (MoveBranch join.input (home_of join.input) (output_joined join))) []
    enters_behind a join = end_then link like role a (enters_label a join) (asks (enters_label a join) (MoveBranch join.input (home_of join.input) (output_joined join))) [] [] []
        (at_port_leads link proper like role a join.input.port (λ setup desk w. port_joins.joined w (number_of_channel join.input.channel) (output_joined join)) (joined_lifted a join.input.port (number_of_channel join.input.channel) (output_joined join)))
        (asks_leads link proper like role (enters_label a join) (MoveBranch join.input (home_of join.input) (output_joined join)) [])

    grant_leads : (a : Acted) (input : ChannelEnd) (join : Join) → IsEntering a input join → EndLeads link like role a [] (enters_grant a join) []
    grant_leads a input join e = subst (λ (j : Join). EndLeads link like role a [] (enters_grant a j) []) e.is
        (at_port_leads link proper like role a e.linked.setup.port (λ setup desk w. port_joins.lent w e.grant input) (lent_lifted a e.linked e.grant input e.found e.granted e.sending))

    pub join_leads : (a : Acted) (input : ChannelEnd) (join : Join) → IsEntering a input join → EndLeads link like role a [] (joins a (Some join)) []
    join_leads a input join e = end_then link like role a (enters_grant a join) (joins a (Some join)) [] [] [] (grant_leads a input join e) (enters_behind (enters_grant a join) join)

  -- *Each input in turn*, at the end that may send under the label
  number_is : (n : ℕ) → number_of_channel (label_channel_of n) ≡ n
  number_is n = omega arith

  module _ (link : LinkLabel) (proper : IsProper link) where
    abbrev output : ChannelEnd
    output = label_end (link.port Upstream) link.label

    join_turns : (like more : Type 0) (a : Acted) (input : ChannelEnd) (join : Join) → IsEntering a input join → join.port.0 ≡ (link.port Upstream).0 → join.grant.label ≡ link.label
        → Turns link like more Upstream a (joins a (Some join))
    join_turns like more a input join e port label = turns_on link Upstream like more more a (enters_grant a join) (joins a (Some join))
        (subst (λ (j : Join). Turns link like more Upstream a (enters_grant a j)) e.is
        (subst (λ (o : Option Linked). Turns link like more Upstream a (works a (λ setup desk w. port_joins.lent w e.grant input) o)) (sym e.found)
        (lends_own link proper like more a e.linked e.grant input there e.granted e.sending (ap (λ (j : Join). j.grant.label) e.is ∙ label))))
        (enters_behind link proper more Upstream (enters_grant a join) join)
      where
        there : linked_at a.controller (link.port Upstream) ≡ Some e.linked
        there = subst (λ (p : PortNo). linked_at a.controller p ≡ Some e.linked) (port_is e.linked.setup.port (link.port Upstream) (ap (λ (j : Join). j.port.0) e.is ∙ port)) e.found

    same_output : (join : Join) → output_joined join ≡ output → (join.port.0 ≡ (link.port Upstream).0) × (join.grant.label ≡ link.label)
    same_output join e = (
      ap (λ (x : ChannelEnd). x.port.0) e,
      sym (number_is join.grant.label) ∙ (ap (λ (x : ChannelEnd). number_of_channel x.channel) e ∙ number_is link.label),
    )

    -- none was entered here
    behind_one : (like more : Type 0) (a : Acted) (input : ChannelEnd) (inputs : List ChannelEnd)
        → ((join : Join) → entered a.controller input ≡ Some join → output_joined join ≡ output → ⊥)
        → (more → like ⊎ EntersTo output a (input ∷ inputs)) → more → like ⊎ EntersTo output (tries_join a input) inputs
    behind_one like more a input inputs none f m = by (f m)
      where
        by_entered : (i : ChannelEnd) → Enters i output a (input ∷ inputs) → like ⊎ EntersTo output (tries_join a input) inputs
        by_entered i (here b rest join is to) = absurd (none join is to)
        by_entered i (later b tried rest e) = inr (record { input = i; enters = e })

        by : like ⊎ EntersTo output a (input ∷ inputs) → like ⊎ EntersTo output (tries_join a input) inputs
        by (inl l) = inl l
        by (inr e) = by_entered e.input e.enters

    pub never : (a : Acted) → EntersTo output a [] → ⊥
    never a e = by_none e.input a [] refl e.enters
      where
        by_none : (i : ChannelEnd) (b : Acted) (inputs : List ChannelEnd) → inputs ≡ [] → Enters i output b inputs → ⊥
        by_none i b inputs is (here c rest join found to) = absurd (cc is)
        by_none i b inputs is (later c tried rest e) = absurd (cc is)

    -- one input, with the rest as it is tried behind it, where this label is joined and where it isn't
    module _ (like more : Type 0) (a : Acted) (input : ChannelEnd) (inputs : List ChannelEnd) where
      next_is : (o : Option Join) → entered a.controller input ≡ o → joins a o ≡ tries_join a input
      next_is o is = ap (λ (x : Option Join). joins a x) (sym is) ∙ sym (tries_is a input (label_on a.controller input))

      not_none : (join : Join) → None ≡ Some join → ⊥
      not_none join e = absurd (cc e)

      one_turn : HasPorts setups a → (more → like ⊎ EntersTo output a (input ∷ inputs)) → (o : Option Join) → entered a.controller input ≡ o
          → ((more → like ⊎ EntersTo output (tries_join a input) inputs) → Turns link like more Upstream (tries_join a input) (fold tries_join (tries_join a input) inputs))
          → Turns link more more Upstream (tries_join a input) (fold tries_join (tries_join a input) inputs)
          → Turns link like more Upstream a (fold tries_join (tries_join a input) inputs)
      one_turn h f None is rest joined = turns_on link Upstream like like more a (tries_join a input) (fold tries_join (tries_join a input) inputs)
          (subst (λ (b : Acted). EndLeads link like Upstream a [] b []) (next_is None is) (end_stays link like Upstream a []))
          (rest (behind_one like more a input inputs (λ join found to. not_none join (sym is ∙ found)) f))
      one_turn h f (Some join) is rest joined =
          let e : IsEntering a input join = entering a input h join (label_on a.controller input) is in
          let elsewhere : ((join.port.0 ≡ (link.port Upstream).0) × (join.grant.label ≡ link.label) → ⊥) → Turns link like more Upstream a (fold tries_join (tries_join a input) inputs) =
          λ other. turns_on link Upstream like like more a (tries_join a input) (fold tries_join (tries_join a input) inputs)
          (subst (λ (b : Acted). EndLeads link like Upstream a [] b []) (next_is (Some join) is) (join_leads link proper like Upstream a input join e))
          (rest (behind_one like more a input inputs (λ other_join found to. other (subst (λ (j : Join). (j.port.0 ≡ (link.port Upstream).0) × (j.grant.label ≡ link.label))
          (some_same other_join join (sym found ∙ is)) (same_output other_join to))) f)) in
          by_eq join.port.0 (link.port Upstream).0
          (λ port t. by_eq join.grant.label link.label
          (λ label u. turns_on link Upstream like more more a (tries_join a input) (fold tries_join (tries_join a input) inputs)
          (subst (λ (b : Acted). Turns link like more Upstream a b) (next_is (Some join) is) (join_turns like more a input join e port label)) joined)
          (λ other u. elsewhere (λ found. other found.1)))
          (λ other t. elsewhere (λ found. other found.0))

    pub tries_turn : (inputs : List ChannelEnd) (like more : Type 0) (a : Acted) → Every (IsLabelEnd setups) inputs → HasPorts setups a → (more → like ⊎ EntersTo output a inputs)
        → Turns link like more Upstream a (fold tries_join a inputs)
    tries_turn [] like more a ends h f = turns_less link Upstream like more a (λ m. by (f m))
      where
        by : like ⊎ EntersTo output a [] → like
        by (inl l) = l
        by (inr e) = absurd (never a e)
    tries_turn (input ∷ inputs) like more a ends h f = one_turn like more a input inputs h f (entered a.controller input) refl
        (tries_turn inputs like more (tries_join a input) ends.1 (moves_ports setups (tries_join_goes setups a input h ends.0) h))
        (tries_turn inputs more more (tries_join a input) ends.1 (moves_ports setups (tries_join_goes setups a input h ends.0) h) (λ m. inl m))
