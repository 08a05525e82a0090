-- a port at work is put back, and what it asks is done: for the line at its link, and for the lines of other ports

use Rattle.std.proofs.Common.{◌≡◌, ◌≢◌, ℕ, ◌≤◌, Bool, false, List, [], ◌∷◌, ◌++◌, Option, None, Some, refl, sym, ◌∙◌, ap, subst, arith, append-nil, fold, if◌then◌else◌}
use Rattle.std.specs.Prelude.{◌==◌}
use Rattle.law_controller_facts.specs.world_model.Words.{PortNo, End as ChannelEnd, next_control, is_estab, Request, MoveBranch, Cell, Frame, Record, payload_of, Journal, Reassembly, nothing_taken, cut, at, put, Desk, withdrawn, is_led_home, last_transaction, Action, Say, Ask, Note, CutChain, TakeBack, Withdraw, Setup, home_of, Work, resets, restarts, closing, Linked, port_key, linked_at, with_linked, with_desk, chain_of, chains_with, default_channel, default_home, says_gsmp, says_ifmp, cuts_of, cuts_label, begins, with_work, closes_by, port_restarts_as, port_restarts_of, port_restarts, resets_gsmp, node_resets, asks_next, asks, takes_back, withdraws_input, does, does_in_estab, resets_as, resets_of, resets_port, performs, performs_in_estab}
use Rattle.law_controller_facts.specs.world_model.gsmp_wire.declared.message.Message.{Message as GsmpMessage}
use Rattle.law_controller_facts.specs.world_model.gsmp_wire.Layout.{octets_of as gsmp_octets}
use Rattle.law_controller_facts.specs.world_model.ifmp_wire.declared.message.Message.{Message}
use Rattle.law_controller_facts.specs.ordered_lists.Ordered.{Every}
use Rattle.law_controller_facts.proofs.ordered_lists.Every.{every_left}
use Rattle.law_controller_facts.proofs.law_port_facts.Keyed.{by_eq, on_both, at_key, at_put_same, at_put_other}
use Rattle.law_shown_cells.specs.law_label_line.Cells as lines
use Rattle.law_shown_cells.specs.law_label_line.Cells.{Role, Downstream, Upstream}
use Rattle.law_shown_cells.specs.law_label_line.Line.{Line}
use Rattle.law_controller_facts.specs.world_model.port_model.Desk.{asked as desk_asked, message_at}
use Rattle.law_controller_facts.specs.world_model.port_model.declared.action.Action.TheVariants.{Reset}
use Rattle.law_controller_facts.specs.world_model.port_model.Port.{Port}
use Rattle.law_shown_cells.proofs.law_port_views.Resets.{resetting}
use Rattle.law_controller_facts.specs.world_model.Controller.{Acted, ports_of, note}
use Rattle.law_shown_cells.specs.law_port_views.Link.{LinkLabel, other}
use Rattle.law_shown_cells.specs.law_port_views.Heard.{IsOwn, asked_all}
use Rattle.law_shown_cells.specs.law_port_views.Shown.{Part, part_of, rest_of, ShownAt, Shown}
use Rattle.law_shown_cells.specs.law_port_views.Reaching.{Reaches}
use Rattle.law_shown_cells.proofs.law_port_views.Resets.{IsUnsaid, unsaid_all, asked_join, closing_unsaid, resetting_unsaid, resets_reach, restarts_reach}
use Rattle.law_shown_cells.specs.Seen.{IsUnmade, Extends}
use Rattle.law_shown_cells.specs.Label.{OnControl, ShowsCells}
use Rattle.law_shown_cells.proofs.Frames.{frame_elsewhere}
use Rattle.law_shown_cells.proofs.Tested.{cut_frames}
use Rattle.law_controller_views.specs.Ends.{way_to, working, End, Grows, EndGoes, EndLeads, Quietly}
use Rattle.law_controller_views.specs.Lifted.{IsProper, payload_by, IsReadableAction}
use Rattle.law_controller_views.proofs.Parts.{kept_chain, end_stays, end_then, quiet_leads, quietly_on}
use Rattle.law_controller_views.proofs.Sends.{sends_quietly, gsmp_default, gsmp_label, port_default, port_label, says_leads, undone_leads}

-- *The same frames*
pub same_extends : (old new : List Frame) → new ≡ old → Extends old new
same_extends old new e = record { kept = λ mark payload k. ap (λ (frames : List Frame). payload_of frames mark) e ∙ k }

pub same_unmade : (controls : ℕ) (old new : List Frame) → new ≡ old → IsUnmade controls old → IsUnmade controls new
same_unmade controls old new e h k less = ap (λ (frames : List Frame). payload_of frames (record { packet = 0; frame = k })) e ∙ h k less

pub linked_is : (x y : Linked) → Some x ≡ Some y → x ≡ y
linked_is x y e = cc

pub port_is : (p q : PortNo) → p.0 ≡ q.0 → p ≡ q
port_is p q e = ap (λ (n : ℕ). record { 0 = n }) e

module _ (link : LinkLabel) (proper : IsProper link) (like : Type 0) (role : Role) where
  abbrev EndOf : Acted → List Action → Line → Type 0
  EndOf a out line = End link like role a.notes.frames a.numbers.instances a.controller out line

  abbrev Goes : Acted → Acted → List Action → Line → Type 0
  Goes a b out line = EndGoes link like role a b out line

  abbrev pub To : Acted → List Action → Acted → List Action → Type 0
  To a before b after = EndLeads link like role a before b after

  -- *Another port* is put in its place
  pub quiet_put : (a : Acted) (new : Linked) (notes : Journal) (instances : ℕ) → notes.frames ≡ a.notes.frames → a.numbers.instances ≤ instances
      → new.setup.port.0 ≢ (link.port role).0
      → Quietly link role a (with_linked (record a { notes = notes; numbers = record a.numbers { instances = instances } }) new)
  quiet_put a new notes instances frames drawn n = record {
    grows = λ u. record { extends = same_extends a.notes.frames notes.frames frames; instances = drawn; unmade = λ v. same_unmade a.numbers.controls a.notes.frames notes.frames frames v };
    found = at_put_other port_key new (link.port role).0 a.controller.ports n;
    address = refl;
    queue = λ u words s. subst (λ (z : List Frame). ShowsCells (OnControl (link.port role)) role link z a.controller.queue words) (sym frames) s;
  }

  -- *The port itself* is put in its place: it shows these words now
  pub own_put : (a : Acted) (new : Linked) (notes : Journal) (instances : ℕ) (before after : List Action) (line : Line) → notes.frames ≡ a.notes.frames → a.numbers.instances ≤ instances
      → (e : EndOf a before line) → new.setup ≡ e.linked.setup → new.reassembly ≡ e.linked.reassembly
      → (r : (moved : Line) × ShownAt role link like e.queued (working new after instances) (part_of role moved) × (rest_of role moved ≡ rest_of role line) × ((way_to role moved).chain ≡ (way_to role line).chain))
      → EndOf (with_linked (record a { notes = notes; numbers = record a.numbers { instances = instances } }) new) after r.0
  own_put a new notes instances before after line frames drawn e setup reassembly r =
      let key : port_key new ≡ (link.port role).0 = ap (λ (s : Setup). s.port.0) setup ∙ ap (λ (q : PortNo). q.0) e.port in
      record {
        linked = new;
        found = subst (λ (n : ℕ). at port_key n (put port_key new a.controller.ports) ≡ Some new) key
            (at_put_same port_key new a.controller.ports e.linked (subst (λ (n : ℕ). at port_key n a.controller.ports ≡ Some e.linked) (sym key) e.found));
        port = ap (λ (s : Setup). s.port) setup ∙ e.port;
        address = e.address;
        port_address = ap (λ (s : Setup). s.address) setup ∙ e.port_address;
        queued = e.queued;
        queue = subst (λ (z : List Frame). ShowsCells (OnControl (link.port role)) role link z a.controller.queue e.queued) (sym frames) e.queue;
        shown = r.1;
        taken = subst (λ (z : List Frame). ShowsCells (OnControl (link.port role)) (other role) link z new.reassembly.chain (way_to role r.0).chain) (sym frames)
            (subst (λ (z : List lines.Cell). ShowsCells (OnControl (link.port role)) (other role) link a.notes.frames new.reassembly.chain z) (sym r.3)
            (subst (λ (z : Reassembly). ShowsCells (OnControl (link.port role)) (other role) link a.notes.frames z.chain (way_to role line).chain) (sym reassembly) e.taken));
      }

  pub own_grows : (a : Acted) (new : Linked) (notes : Journal) (instances : ℕ) → notes.frames ≡ a.notes.frames → a.numbers.instances ≤ instances
      → Grows a (with_linked (record a { notes = notes; numbers = record a.numbers { instances = instances } }) new)
  own_grows a new notes instances frames drawn = record {
    extends = same_extends a.notes.frames notes.frames frames;
    instances = drawn;
    unmade = λ v. same_unmade a.numbers.controls a.notes.frames notes.frames frames v;
  }

  -- *What a port keeps beside its port* is another: its chains
  reworked : (queued : List lines.Cell) (linked new : Linked) (asked : List Action) (n : ℕ) (part : Part) (r : Role) → new.port ≡ linked.port
      → ShownAt r link like queued (working linked asked n) part → ShownAt r link like queued (working new asked n) part
  reworked queued linked new asked n part r e s = subst (λ (port : Port). ShownAt r link like queued (record { port = port; actions = asked; halted = false; instances = n }) part) (sym e) s

  pub relinked_leads : (a : Acted) (q : PortNo) (linked new : Linked) (notes : Journal) (out : List Action) → linked_at a.controller q ≡ Some linked
      → new.setup ≡ linked.setup → new.port ≡ linked.port → new.reassembly ≡ linked.reassembly → notes.frames ≡ a.notes.frames
      → To a out (with_linked (record a { notes = notes }) new) out
  relinked_leads a q linked new notes out found setup port reassembly frames unmade line e =
      by_eq q.0 (link.port role).0
      (λ same t.
      let is : linked ≡ e.linked = linked_is linked e.linked (sym found ∙ (ap (λ (n : ℕ). at port_key n a.controller.ports) same ∙ e.found)) in
      record {
        moves = [];
        after = line;
        is = refl;
        end = own_put a new notes a.numbers.instances out out line frames (omega arith) e (setup ∙ ap (λ (z : Linked). z.setup) is) (reassembly ∙ ap (λ (z : Linked). z.reassembly) is)
            (line, reworked e.queued e.linked new out a.numbers.instances (part_of role line) role (port ∙ ap (λ (z : Linked). z.port) is) e.shown, refl, refl);
        rest = refl;
        grows = own_grows a new notes a.numbers.instances frames (omega arith);
      })
      (λ differ t. quiet_leads link like role a (with_linked (record a { notes = notes }) new) out
      (quiet_put a new notes a.numbers.instances frames (omega arith)
      (λ k. differ (sym (at_key port_key q.0 a.controller.ports linked found) ∙ (sym (ap (λ (s : Setup). s.port.0) setup) ∙ k)))) unmade line e)

  -- *What is nothing to the line*: notes, the desk, numbers given out
  pub quiet_same : (a b : Acted) → b.notes.frames ≡ a.notes.frames → a.numbers.instances ≤ b.numbers.instances → b.numbers.controls ≡ a.numbers.controls
      → linked_at b.controller (link.port role) ≡ linked_at a.controller (link.port role) → b.controller.address ≡ a.controller.address
      → b.controller.queue ≡ a.controller.queue → Quietly link role a b
  quiet_same a b frames drawn controls found address queue = record {
    grows = λ u. record {
      extends = same_extends a.notes.frames b.notes.frames frames;
      instances = drawn;
      unmade = λ v. subst (λ (n : ℕ). IsUnmade n b.notes.frames) (sym controls) (same_unmade a.numbers.controls a.notes.frames b.notes.frames frames v);
    };
    found = found;
    address = address;
    queue = λ u words s. subst (λ (z : List Frame). ShowsCells (OnControl (link.port role)) role link z b.controller.queue words) (sym frames)
        (subst (λ (z : List Cell). ShowsCells (OnControl (link.port role)) role link a.notes.frames z words) (sym queue) s);
  }

  pub quiet_note : (a : Acted) (item : Record) → Quietly link role a (note a item)
  quiet_note a item = quiet_same a (note a item) refl (omega arith) refl refl refl refl

  pub quiet_desk : (a : Acted) (desk : Desk) → Quietly link role a (with_desk a desk)
  quiet_desk a desk = quiet_same a (with_desk a desk) refl (omega arith) refl refl refl refl

  pub quiet_gsmp : (a : Acted) (message : GsmpMessage) → Quietly link role a (says_gsmp a message)
  quiet_gsmp a message = sends_quietly link role a default_channel (gsmp_octets message)
      (λ frames made. frame_elsewhere (OnControl (link.port role)) role link frames default_channel (next_control a.numbers) (gsmp_octets message)
      (gsmp_default link proper role) (gsmp_label link proper role))

  pub quiet_ifmp : (a : Acted) (q : PortNo) (message : Message) → q ≢ link.port role → Quietly link role a (says_ifmp q a message)
  quiet_ifmp a q message n = sends_quietly link role a (default_home q).channel (payload_by a.controller.address message)
      (λ frames made. frame_elsewhere (OnControl (link.port role)) role link frames (default_home q).channel (next_control a.numbers) (payload_by a.controller.address message)
      (port_default link proper role q default_channel n (omega arith)) (port_label link proper role q default_channel n (omega arith)))

  -- *Chains are cut*
  cuts_of_leads : (a : Acted) (q : PortNo) (label : ℕ) (o : Option Linked) (out : List Action) → linked_at a.controller q ≡ o → To a out (cuts_of a label o) out
  cuts_of_leads a q label None out found = end_stays link like role a out
  cuts_of_leads a q label (Some linked) out found = relinked_leads a q linked (record linked { chains = chains_with linked.chains label nothing_taken })
      (cut a.notes (chain_of linked.chains label)) out found refl refl refl (cut_frames a.notes (chain_of linked.chains label))

  pub cuts_leads : (a : Acted) (q : PortNo) (label : ℕ) (out : List Action) → To a out (cuts_label q a label) out
  cuts_leads a q label out = cuts_of_leads a q label (linked_at a.controller q) out refl

  -- *A fold* of steps that each lead
  pub leads_fold : {A : Type 0} (f : Acted → A → Acted) (out : List Action) → ((a : Acted) (x : A) → To a out (f a x) out) → (xs : List A) (a : Acted) → To a out (fold f a xs) out
  leads_fold f out each [] a = end_stays link like role a out
  leads_fold f out each (x ∷ xs) a = end_then link like role a (f a x) (fold f (f a x) xs) out out out (each a x) (leads_fold f out each xs (f a x))

  pub leads_fold_of : {A : Type 0} (P : A → Type 0) (f : Acted → A → Acted) (out : List Action) → ((a : Acted) (x : A) → P x → To a out (f a x) out) → (xs : List A) → Every P xs
      → (a : Acted) → To a out (fold f a xs) out
  leads_fold_of P f out each [] all a = end_stays link like role a out
  leads_fold_of P f out each (x ∷ xs) all a = end_then link like role a (f a x) (fold f (f a x) xs) out out out (each a x all.0) (leads_fold_of P f out each xs all.1 (f a x))

  -- *A port restarts, or is reset*: the line restarts at this end
  fewer : (queued : List lines.Cell) (port : Port) (halted : Bool) (out more : List Action) (n : ℕ) (part : Part) (r : Role) → Every IsUnsaid more
      → ShownAt r link like queued (record { port = port; actions = out ++ more; halted = halted; instances = n }) part
      → ShownAt r link like queued (record { port = port; actions = out; halted = false; instances = n }) part
  fewer queued port halted out more n part Downstream unsaid s = record {
    side = s.side;
    session = s.session;
    label = s.label;
    flow = s.flow;
    number = s.number;
    unspent = s.unspent;
    known = s.known;
    reassembled = s.reassembled;
    drawn = s.drawn;
    own = every_left (IsOwn (link.address Upstream)) out more s.own;
    sent = s.sent ∙ ap (λ (z : List lines.Cell). queued ++ z) (asked_join Downstream link.label out more
        ∙ (ap (λ (z : List lines.Cell). asked_all Downstream link.label out ++ z) (unsaid_all Downstream link.label more unsaid) ∙ append-nil (asked_all Downstream link.label out)));
  }
  fewer queued port halted out more n part Upstream unsaid s = record {
    side = s.side;
    session = s.session;
    grant = s.grant;
    once = s.once;
    lent = s.lent;
    expected = s.expected;
    drawn = s.drawn;
    own = every_left (IsOwn (link.address Downstream)) out more s.own;
    sent = s.sent ∙ ap (λ (z : List lines.Cell). queued ++ z) (asked_join Upstream link.label out more
        ∙ (ap (λ (z : List lines.Cell). asked_all Upstream link.label out ++ z) (unsaid_all Upstream link.label more unsaid) ∙ append-nil (asked_all Upstream link.label out)));
  }

  -- a port is put back as it left its work, in which it asked more that isn't said
  anew_leads : (a : Acted) (q : PortNo) (linked : Linked) (rule : Setup → Work → Work) (more : Linked → List Action) (out : List Action)
      → linked_at a.controller q ≡ Some linked → a.numbers.instances ≤ (rule linked.setup (begins a linked)).instances
      → ((own : Linked) → Every IsUnsaid (more own))
      → ((own : Linked) → rule own.setup (working own out a.numbers.instances)
      ≡ record { port = (rule own.setup (begins a own)).port; actions = out ++ more own; halted = false; instances = (rule own.setup (begins a own)).instances })
      → ((own : Linked) (queued : List lines.Cell) (line : Line) → own.setup.address ≡ link.address role → Shown role link like queued (working own out a.numbers.instances) line
      → Reaches role link like queued (rule own.setup (working own out a.numbers.instances)) line)
      → To a out (with_work a linked (rule linked.setup (begins a linked))) out
  anew_leads a q linked rule more out found drawn unsaid alike reach unmade line e =
      by_eq q.0 (link.port role).0
      (λ same t.
      let is : linked ≡ e.linked = linked_is linked e.linked (sym found ∙ (ap (λ (n : ℕ). at port_key n a.controller.ports) same ∙ e.found)) in
      let r : Reaches role link like e.queued (rule e.linked.setup (working e.linked out a.numbers.instances)) line = reach e.linked e.queued line e.port_address e.shown in
      let w : Work = rule e.linked.setup (begins a e.linked) in
      subst (λ (z : Linked). Goes a (with_work a z (rule z.setup (begins a z))) out line) (sym is)
      (record {
        moves = r.moves;
        after = r.after;
        is = r.is;
        end = own_put a (record e.linked { port = w.port }) a.notes w.instances out out line refl (subst (λ (z : Linked). a.numbers.instances ≤ (rule z.setup (begins a z)).instances) is drawn)
            e refl refl (
              r.after,
              fewer e.queued w.port false out (more e.linked) w.instances (part_of role r.after) role (unsaid e.linked)
                  (subst (λ (v : Work). Shown role link like e.queued v r.after) (alike e.linked) r.shown),
              r.rest,
              kept_chain role role r.after line r.rest,
            );
        rest = r.rest;
        grows = own_grows a (record e.linked { port = w.port }) a.notes w.instances refl (subst (λ (z : Linked). a.numbers.instances ≤ (rule z.setup (begins a z)).instances) is drawn);
      }))
      (λ differ t. quiet_leads link like role a (with_work a linked (rule linked.setup (begins a linked))) out
      (quiet_put a (record linked { port = (rule linked.setup (begins a linked)).port }) a.notes (rule linked.setup (begins a linked)).instances refl drawn
      (λ k. differ (sym (at_key port_key q.0 a.controller.ports linked found) ∙ k))) unmade line e)

  closes_leads : (q : PortNo) (a : Acted) (action : Action) (out : List Action) → To a out (closes_by q a action) out
  closes_leads q a (Say message) out = end_stays link like role a out
  closes_leads q a (Ask request needed) out = end_stays link like role a out
  closes_leads q a (Note item) out = quiet_leads link like role a (note a item) out (quiet_note a item)
  closes_leads q a (CutChain label) out = cuts_leads a q label out
  closes_leads q a (TakeBack input output) out = end_stays link like role a out
  closes_leads q a (Withdraw input) out = end_stays link like role a out
  closes_leads q a Reset out = end_stays link like role a out

  port_restarts_leads : (a : Acted) (q : PortNo) (out : List Action) → To a out (port_restarts a q) out
  port_restarts_leads a q out = by (linked_at a.controller q) refl
    where
      by : (o : Option Linked) → linked_at a.controller q ≡ o → To a out (port_restarts_of a o) out
      by None found = end_stays link like role a out
      by (Some linked) found =
          let w : Work = restarts linked.setup (begins a linked) in
          end_then link like role a (with_work a linked w) (port_restarts_as a linked w) out out out
          (anew_leads a q linked restarts (λ own. closing own.setup own.port.session) out found (omega arith) (λ own. closing_unsaid own.setup own.port.session) (λ own. refl)
          (λ own queued line address s. restarts_reach link like queued role own.setup (working own out a.numbers.instances) line address s))
          (leads_fold (closes_by linked.setup.port) out (λ b action. closes_leads linked.setup.port b action out) w.actions (with_work a linked w))

  -- *A node reset*
  pub node_resets_leads : (a : Acted) (out : List Action) → To a out (node_resets a) out
  node_resets_leads a out = end_then link like role a (resets_gsmp a) (node_resets a) out out out
      (quiet_leads link like role a (resets_gsmp a) out (quiet_same a (resets_gsmp a) refl (omega arith) refl refl refl refl))
      (leads_fold port_restarts out (λ b q. port_restarts_leads b q out) (ports_of a.controller) (resets_gsmp a))

  -- *A request* is asked, or the node is reset for want of numbers
  pub asks_leads : (a : Acted) (request : Request) (out : List Action) → To a out (asks a request) out
  asks_leads a request out = on_both (λ (b : Acted). To a out b out) (is_estab a.controller.adjacency.state) (if a.controller.desk.next == last_transaction then node_resets a else asks_next a request) a
      (on_both (λ (b : Acted). To a out b out) (a.controller.desk.next == last_transaction) (node_resets a) (asks_next a request) (node_resets_leads a out)
      (quiet_leads link like role a (asks_next a request) out
      (quietly_on link role a (with_desk a (desk_asked a.controller.desk request)) (asks_next a request) (quiet_desk a (desk_asked a.controller.desk request))
      (quiet_gsmp (with_desk a (desk_asked a.controller.desk request)) (message_at (desk_asked a.controller.desk request) (record { number = a.controller.desk.next; request = request }))))))
      (end_stays link like role a out)

  pub takes_back_leads : (a : Acted) (input output : ChannelEnd) (out : List Action) → To a out (takes_back a input output) out
  takes_back_leads a input output out = on_both (λ (b : Acted). To a out b out) (is_led_home a.controller.desk input (home_of input)) a (asks a (MoveBranch input output (home_of input)))
      (end_stays link like role a out) (asks_leads a (MoveBranch input output (home_of input)) out)

  -- *What isn't said* leads on, whatever port asks it
  pub does_leads : (q : PortNo) (a : Acted) (action : Action) (out : List Action) → IsUnsaid action → To a out (does q a action) out
  does_leads q a (Say message) out h = absurd h
  does_leads q a (Ask request needed) out h = asks_leads a request out
  does_leads q a (Note item) out h = quiet_leads link like role a (note a item) out (quiet_note a item)
  does_leads q a (CutChain label) out h = cuts_leads a q label out
  does_leads q a (TakeBack input output) out h = takes_back_leads a input output out
  does_leads q a (Withdraw input) out h = quiet_leads link like role a (withdraws_input a input) out (quiet_desk a (withdrawn a.controller.desk input))
  does_leads q a Reset out h = end_stays link like role a out

  done_leads : (q : PortNo) (a : Acted) (action : Action) (out : List Action) → IsUnsaid action → To a out (does_in_estab q a action) out
  done_leads q a action out h = on_both (λ (b : Acted). To a out b out) (is_estab a.controller.adjacency.state) (does q a action) a (does_leads q a action out h) (end_stays link like role a out)

  -- *A port reset*
  pub resets_port_leads : (a : Acted) (q : PortNo) (out : List Action) → To a out (resets_port a q) out
  resets_port_leads a q out = by (linked_at a.controller q) refl
    where
      by : (o : Option Linked) → linked_at a.controller q ≡ o → To a out (resets_of a o) out
      by None found = end_stays link like role a out
      by (Some linked) found =
          let w : Work = resets linked.setup (begins a linked) in
          end_then link like role a (with_work a linked w) (resets_as a linked w) out out out
          (anew_leads a q linked resets (λ own. resetting own.setup own.port) out found (omega arith) (λ own. resetting_unsaid own.setup own.port) (λ own. refl)
          (λ own queued line address s. resets_reach link like queued role own.setup (working own out a.numbers.instances) line address s))
          (leads_fold_of IsUnsaid (does_in_estab linked.setup.port) out (λ b action h. done_leads linked.setup.port b action out h) w.actions (resetting_unsaid linked.setup linked.port) (with_work a linked w))

  -- *Another port's work* is done
  performs_away : (q : PortNo) (a : Acted) (action : Action) (out : List Action) → q ≢ link.port role → To a out (performs q a action) out
  performs_away q a (Say message) out n = quiet_leads link like role a (says_ifmp q a message) out (quiet_ifmp a q message n)
  performs_away q a (Ask request needed) out n = does_leads q a (Ask request needed) out tt
  performs_away q a (Note item) out n = does_leads q a (Note item) out tt
  performs_away q a (CutChain label) out n = does_leads q a (CutChain label) out tt
  performs_away q a (TakeBack input output) out n = does_leads q a (TakeBack input output) out tt
  performs_away q a (Withdraw input) out n = does_leads q a (Withdraw input) out tt
  performs_away q a Reset out n = resets_port_leads a q out

  pub performed_away : (q : PortNo) (actions : List Action) (a : Acted) (out : List Action) → q ≢ link.port role → To a out (fold (performs_in_estab q) a actions) out
  performed_away q actions a out n = leads_fold (performs_in_estab q) out
      (λ b action. on_both (λ (c : Acted). To b out c out) (is_estab b.controller.adjacency.state) (performs q b action) b (performs_away q b action out n) (end_stays link like role b out)) actions a

  -- *The port's own work* is done, in order
  performs_own : (q : PortNo) (a : Acted) (action : Action) (out : List Action) → q ≡ link.port role → IsReadableAction (link.address role) action
      → To a (action ∷ out) (performs q a action) out
  performs_own q a (Say message) out same reads = says_leads link like role a q message out same reads
  performs_own q a (Ask request needed) out same reads = end_then link like role a a (does q a (Ask request needed)) (Ask request needed ∷ out) out out (undone_leads link like role a (Ask request needed) out) (does_leads q a (Ask request needed) out tt)
  performs_own q a (Note item) out same reads = end_then link like role a a (does q a (Note item)) (Note item ∷ out) out out (undone_leads link like role a (Note item) out) (does_leads q a (Note item) out tt)
  performs_own q a (CutChain label) out same reads = end_then link like role a a (does q a (CutChain label)) (CutChain label ∷ out) out out (undone_leads link like role a (CutChain label) out) (does_leads q a (CutChain label) out tt)
  performs_own q a (TakeBack input output) out same reads = end_then link like role a a (does q a (TakeBack input output)) (TakeBack input output ∷ out) out out (undone_leads link like role a (TakeBack input output) out) (does_leads q a (TakeBack input output) out tt)
  performs_own q a (Withdraw input) out same reads = end_then link like role a a (does q a (Withdraw input)) (Withdraw input ∷ out) out out (undone_leads link like role a (Withdraw input) out) (does_leads q a (Withdraw input) out tt)
  performs_own q a Reset out same reads = end_then link like role a a (resets_port a q) (Reset ∷ out) out out (undone_leads link like role a Reset out) (resets_port_leads a q out)

  pub performed_own : (q : PortNo) (actions : List Action) (a : Acted) → q ≡ link.port role → Every (IsReadableAction (link.address role)) actions
      → To a actions (fold (performs_in_estab q) a actions) []
  performed_own q [] a same reads = end_stays link like role a []
  performed_own q (action ∷ actions) a same reads = end_then link like role a (performs_in_estab q a action) (fold (performs_in_estab q) (performs_in_estab q a action) actions) (action ∷ actions) actions []
      (on_both (λ (b : Acted). To a (action ∷ actions) b actions) (is_estab a.controller.adjacency.state) (performs q a action) a
      (performs_own q a action actions same reads.0) (undone_leads link like role a action actions))
      (performed_own q actions (performs_in_estab q a action) same reads.1)
