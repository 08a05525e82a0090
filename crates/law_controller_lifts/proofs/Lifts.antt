-- each rule of a port of a controller that is ready leads the line, and says what can be read

use Rattle.std.proofs.Common.{◌≡◌, ℕ, ◌<◌, Bool, true, List, [], ◌∷◌, Option, None, Some, Result, refl, sym, ◌∙◌, ap, subst, arith, if◌then◌else◌}
use Rattle.std.specs.Prelude.{◌^◌, ◌==◌, drop}
use Rattle.std.specs.Option.{option_map, option_and_then}
use Rattle.law_arrival_views.specs.world_model.Words.{PortNo, Addr, End, ifmp_packet_of, protocol_of, source_of, EncapsFault, FlowId, FitsFields, Request, Redirect, Reclaim, ReclaimAck, LabelRange, Error, InRange, FitsMessage, at, put, empty_desk, Action, Say, Ask, Note, CutChain, TakeBack, Withdraw, Setup, Label, Grant, ByInput, grant_label, Session, Work, with_session, label_at, counts, packet_flow, used_label, used, joins_label, parted, lent, given_back, Linked, port_key, linked_at, begins}
use Rattle.law_arrival_views.specs.world_model.ifmp_wire.declared.message.Message.{Message}
use Rattle.law_arrival_views.specs.world_model.ifmp_wire.declared.message.Message.TheVariants.{Adjacency}
use Rattle.law_arrival_views.specs.world_model.ifmp_wire.declared.reader.Fault.{Fault}
use Rattle.law_arrival_views.specs.world_model.ifmp_wire.Message.{octets_of}
use Rattle.law_arrival_views.specs.world_model.ifmp_wire.Fields.{decoded}
use Rattle.law_arrival_views.proofs.law_wire.Ifmp.{read_back}
use Rattle.law_arrival_views.proofs.law_wire.Packets.{protocol_is, source_is, message_is, unwrapped_again}
use Rattle.law_label_steps.specs.ordered_lists.Ordered.{Every}
use Rattle.law_label_steps.specs.law_port_facts.Port.{setup_port, IsPort, IsWork, HasFlows, IsSayable, IsRanged, IsHeard}
use Rattle.law_label_steps.proofs.law_port_facts.Keyed.{on_both, at_key, at_every}
use Rattle.law_label_steps.proofs.law_port_facts.Instances.{goes_gave, parted_gave, joined_gave, given_back_gave}
use Rattle.law_label_steps.proofs.law_port_facts.Rules.{used_goes, counts_goes, done_goes}
use Rattle.law_label_steps.proofs.law_port_facts.Hearings.{hears_goes, ticks_goes}
use Rattle.law_label_steps.specs.law_port_facts.Port as facts
use Rattle.law_label_steps.specs.law_label_line.Cells.{Role}
use Rattle.law_arrival_views.specs.world_model.port_model.declared.action.Action.TheVariants.{Reset}
use Rattle.law_arrival_views.specs.world_model.port_model.Answers.{done}
use Rattle.law_arrival_views.specs.world_model.port_model.Ticks.{ticks}
use Rattle.law_arrival_views.specs.world_model.port_model.Joins.{joined}
use Rattle.law_arrival_views.specs.world_model.Controller.{Acted}
use Rattle.law_arrival_views.specs.law_controller_facts.Said.{HasFlowsAt, IsAtWork}
use Rattle.law_arrival_views.proofs.law_controller_facts.Moves.{found_setup, begun}
use Rattle.law_arrival_views.proofs.law_controller_facts.Laws.{has_ports}
use Rattle.law_arrival_views.proofs.law_controller_facts.Flows.{says_in_range}
use Rattle.law_arrival_views.specs.world_model.Ways.{ok_of}
use Rattle.law_label_steps.specs.law_port_views.Link.{LinkLabel}
use Rattle.law_label_steps.proofs.law_port_views.Refreshing.{ticks_lead}
use Rattle.law_label_steps.proofs.law_port_views.Answering.{used_leads, joined_leads, parted_leads, done_leads}
use Rattle.law_label_steps.proofs.Counting.{counts_follow}
use Rattle.law_label_steps.proofs.Joins.{given_back_leads}
use Rattle.law_arrival_views.specs.law_port_widths.Widths.{FitsAction, FitsWork}
use Rattle.law_arrival_views.proofs.law_port_widths.Rules.{hears_fit, counts_fit, used_fit, done_fit, ticks_fit, joined_fit, parted_fit, given_back_fit}
use Rattle.law_arrival_views.proofs.law_port_widths.Keeping.{found_grant}
use Rattle.law_arrival_views.specs.law_shown_cells.Label.{told_in}
use Rattle.law_arrival_views.specs.law_controller_views.Lifted.{IsProper, IsReadable, IsReadableAction, IsLifted}
use Rattle.law_arrival_views.specs.Cells.{heard_work, CanHear}
use Rattle.law_arrival_views.specs.law_controller_views.Ready.{IsReadyPort, IsReady, FitsLink}

-- *What is said can be read*
pub readable : (address : Addr) (message : Message) → address.0 < 2 ^ 32 → InRange message → FitsMessage message → IsReadable address message
readable address message small range fits =
    let packet : List ℕ = ifmp_packet_of address (octets_of message) in
    let protocol : (protocol_of packet == 101) ≡ true = ap (λ (n : ℕ). n == 101) (protocol_is address (octets_of message)) ∙ refl in
    ap (λ (r : Result (List ℕ) EncapsFault). option_and_then told_in (ok_of r)) (unwrapped_again packet)
    ∙ (ap (λ (b : Bool). option_map (λ (m : Message). record { source = source_of packet; message = m }) (if b then ok_of (decoded (drop 20 packet)) else None)) protocol
    ∙ (ap (λ (octets : List ℕ). option_map (λ (m : Message). record { source = source_of packet; message = m }) (ok_of (decoded octets))) (message_is address (octets_of message))
    ∙ (ap (λ (r : Result Message Fault). option_map (λ (m : Message). record { source = source_of packet; message = m }) (ok_of r)) (read_back message range fits)
    ∙ ap (λ (source : Addr). Some (record { source = source; message = message })) (source_is address (octets_of message) small))))

readable_action : (address : Addr) (action : Action) → address.0 < 2 ^ 32 → IsSayable action → FitsAction action → IsReadableAction address action
readable_action address (Say message) small range fits = readable address message small range fits
readable_action address (Ask request needed) small range fits = tt
readable_action address (Note item) small range fits = tt
readable_action address (CutChain label) small range fits = tt
readable_action address (TakeBack input output) small range fits = tt
readable_action address (Withdraw input) small range fits = tt
readable_action address Reset small range fits = tt

pub readable_all : (address : Addr) (actions : List Action) → address.0 < 2 ^ 32 → Every IsSayable actions → Every FitsAction actions → Every (IsReadableAction address) actions
readable_all address [] small range fits = tt
readable_all address (action ∷ actions) small range fits = (readable_action address action small range.0 fits.0, readable_all address actions small range.1 fits.1)

-- a message in range is one that may be heard
pub heard_any : (message : Message) → InRange message → IsHeard facts.AnyChannel message
heard_any (Adjacency hello) r = tt
heard_any (Redirect sender peer number lifetime channel flow) r = (omega (arith, r.0), tt, r.2)
heard_any (Reclaim sender peer number channel flow) r = (tt, r.1)
heard_any (ReclaimAck sender peer number channel flow) r = tt
heard_any (LabelRange sender peer number least greatest) r = tt
heard_any (Error sender peer number code channel) r = tt

-- *A port that says nothing*
same_actions : (w : Work) (change : Session → Session) → (with_session w change).actions ≡ w.actions
same_actions w change = on_both (λ (v : Work). v.actions ≡ w.actions) w.halted w (record w { port = record w.port { session = option_map change w.port.session } }) refl refl

joins_says : (w : Work) (join : Option End) (o : Option Label) → Every IsSayable w.actions → Every IsSayable (joins_label w join o).actions
joins_says w join None h = h
joins_says w join (Some x) h = subst (Every IsSayable) (sym (same_actions w _)) h

used_says : (w : Work) (o : Option Label) → Every IsSayable w.actions → Every IsSayable (used_label w o).actions
used_says w None h = h
used_says w (Some x) h = subst (Every IsSayable) (sym (same_actions w _)) h

-- a label that is joined and a grant that is lent say nothing, so all of it can be read
pub joined_says : (address : Addr) (w : Work) (join : Option End) (o : Option Label) → Every (IsReadableAction address) w.actions → Every (IsReadableAction address) (joins_label w join o).actions
joined_says address w join None h = h
joined_says address w join (Some x) h = subst (Every (IsReadableAction address)) (sym (same_actions w _)) h

pub lent_says : (address : Addr) (w : Work) (grant : Grant) (input : End) → Every (IsReadableAction address) w.actions → Every (IsReadableAction address) (lent w grant input).actions
lent_says address w grant input h = on_both (λ (v : Work). Every (IsReadableAction address) v.actions) w.halted w
    (record w { port = record w.port { grants = put grant_label (record grant { state = ByInput input }) w.port.grants } }) h h

module _ (setups : List Setup) (a : Acted) (ready : IsReady setups a.controller) where
  -- *A port of a controller that is ready*
  pub ready_port : (q : PortNo) (linked : Linked) → linked_at a.controller q ≡ Some linked → IsReadyPort linked
  ready_port q linked found = at_every port_key IsReadyPort q.0 a.controller.ports linked ready.ports found

  setup_there : (q : PortNo) (linked : Linked) → linked_at a.controller q ≡ Some linked → at setup_port linked.setup.port.0 setups ≡ Some linked.setup
  setup_there q linked found =
      let there : at setup_port q.0 setups ≡ Some linked.setup = found_setup setups a linked q (has_ports setups a ready.sound) found in
      subst (λ (n : ℕ). at setup_port n setups ≡ Some linked.setup) (sym (at_key setup_port q.0 setups linked.setup there)) there

  pub at_work : (q : PortNo) (linked : Linked) → linked_at a.controller q ≡ Some linked → IsAtWork setups linked.setup (begins a linked)
  at_work q linked found = record {
    linked = setup_there q linked found;
    ranged = at_every setup_port IsRanged linked.setup.port.0 setups linked.setup ready.ranged (setup_there q linked found);
    kept = begun setups a linked q (has_ports setups a ready.sound) found;
    flows = at_every port_key HasFlowsAt q.0 a.controller.ports linked ready.flows found;
    live = refl;
    said = tt;
  }

  pub fits_there : (q : PortNo) (linked : Linked) → linked_at a.controller q ≡ Some linked → FitsWork (begins a linked)
  fits_there q linked found = record { port = (ready_port q linked found).fits; said = tt }

  -- *Each rule* says what can be read
  module _ (link : LinkLabel) (proper : IsProper link) (fit : FitsLink link) (like : Type 0) (role : Role) where
    pub can_hear : (q : PortNo) (linked : Linked) (source : Addr) (message : Message) → linked_at a.controller q ≡ Some linked → source.0 < 2 ^ 32 → InRange message → FitsMessage message
        → CanHear link role a linked source message
    can_hear q linked source message found small range fits = record {
      unspent = (ready_port q linked found).unspent;
      drawn = (let same = goes_gave a.numbers.instances linked.setup a.controller.desk (begins a linked) (heard_work a linked source message) (hears_goes linked.setup a.controller.desk (begins a linked) source message refl (heard_any message range)) refl in omega (arith, same));
      reads = readable_all (link.address role) (heard_work a linked source message).actions (fit role)
          (says_in_range.hears setups linked.setup a.controller.desk (begins a linked) source message (at_work q linked found) range)
          (hears_fit linked.setup a.controller.desk (ready_port q linked found).setup (begins a linked) source message small fits (fits_there q linked found)).said;
    }

    pub ticks_lifted : (q : PortNo) → IsLifted link like role a q ticks
    ticks_lifted q = record {
      drawn = λ linked found. (let same = goes_gave a.numbers.instances linked.setup a.controller.desk (begins a linked) (ticks linked.setup a.controller.desk (begins a linked)) (ticks_goes linked.setup a.controller.desk (begins a linked) refl) refl in omega (arith, same));
      reads = λ linked found same. readable_all (link.address role) (ticks linked.setup a.controller.desk (begins a linked)).actions (fit role)
          (says_in_range.ticks setups linked.setup a.controller.desk (begins a linked) (at_work q linked found))
          (ticks_fit linked.setup a.controller.desk (ready_port q linked found).setup (begins a linked) (fits_there q linked found)).said;
      leads = λ linked found same queued. ticks_lead link like queued role linked.setup a.controller.desk (begins a linked) (λ live. (ready_port q linked found).unspent) proper.label;
    }

    pub counts_lifted : (q : PortNo) (packet : List ℕ) → ((flow : FlowId) → packet_flow packet ≡ Some flow → FitsFields flow) → IsLifted link like role a q (λ setup desk w. counts setup desk w packet)
    counts_lifted q packet fits = record {
      drawn = λ linked found. (let same = goes_gave a.numbers.instances linked.setup a.controller.desk (begins a linked) (counts linked.setup a.controller.desk (begins a linked) packet) (counts_goes linked.setup a.controller.desk (begins a linked) packet (at_work q linked found).kept.port.ascend) refl in omega (arith, same));
      reads = λ linked found same. readable_all (link.address role) (counts linked.setup a.controller.desk (begins a linked) packet).actions (fit role)
          (says_in_range.counts setups linked.setup a.controller.desk (begins a linked) packet (at_work q linked found))
          (counts_fit linked.setup a.controller.desk (ready_port q linked found).setup (begins a linked) packet fits (fits_there q linked found)).said;
      leads = λ linked found same queued. (counts_follow link like queued linked.setup a.controller.desk role (begins a linked) packet (at_work q linked found).kept.port.ascend).1;
    }

    pub done_lifted : (q : PortNo) (request : Request) → IsLifted link like role a q (λ setup desk w. done setup w request)
    done_lifted q request = record {
      drawn = λ linked found. (let same = goes_gave a.numbers.instances linked.setup empty_desk (begins a linked) (done linked.setup (begins a linked) request) (done_goes linked.setup empty_desk (begins a linked) request (λ t. tt)) refl in omega (arith, same));
      reads = λ linked found same. readable_all (link.address role) (done linked.setup (begins a linked) request).actions (fit role)
          (says_in_range.done setups linked.setup (begins a linked) request (at_work q linked found))
          (done_fit linked.setup (ready_port q linked found).setup (begins a linked) request (fits_there q linked found)).said;
      leads = λ linked found same queued. done_leads link like queued role linked.setup (begins a linked) request (λ live. (ready_port q linked found).unspent) proper.label;
    }

    pub used_lifted : (q : PortNo) (number : ℕ) → IsLifted link like role a q (λ setup desk w. used w number)
    used_lifted q number = record {
      drawn = λ linked found. (let same = goes_gave a.numbers.instances linked.setup a.controller.desk (begins a linked) (used (begins a linked) number) (used_goes linked.setup a.controller.desk (begins a linked) number) refl in omega (arith, same));
      reads = λ linked found same. readable_all (link.address role) (used (begins a linked) number).actions (fit role) (used_says (begins a linked) (label_at linked.port number) tt)
          (used_fit (begins a linked) number (fits_there q linked found)).said;
      leads = λ linked found same queued. used_leads link like queued role (begins a linked) number;
    }

    pub joined_lifted : (q : PortNo) (number : ℕ) (output : End) → IsLifted link like role a q (λ setup desk w. joined w number output)
    joined_lifted q number output = record {
      drawn = λ linked found. (let same = joined_gave a.numbers.instances (begins a linked) number output refl in omega (arith, same));
      reads = λ linked found same. readable_all (link.address role) (joined (begins a linked) number output).actions (fit role) (joins_says (begins a linked) (Some output) (label_at linked.port number) tt)
          (joined_fit (begins a linked) number output (fits_there q linked found)).said;
      leads = λ linked found same queued. joined_leads link like queued role (begins a linked) number output;
    }

    pub parted_lifted : (q : PortNo) (number : ℕ) → IsLifted link like role a q (λ setup desk w. parted w number)
    parted_lifted q number = record {
      drawn = λ linked found. (let same = parted_gave a.numbers.instances (begins a linked) number refl in omega (arith, same));
      reads = λ linked found same. readable_all (link.address role) (parted (begins a linked) number).actions (fit role) (joins_says (begins a linked) None (label_at linked.port number) tt)
          (parted_fit (begins a linked) number (fits_there q linked found)).said;
      leads = λ linked found same queued. parted_leads link like queued role (begins a linked) number;
    }

    -- a grant is given back, where no join of its label is left
    pub given_back_lifted : (q : PortNo) (grant : Grant) → ((linked : Linked) → linked_at a.controller q ≡ Some linked → at grant_label grant.label linked.port.grants ≡ Some grant)
        → (q ≡ link.port role → grant.label ≡ link.label → like → ⊥) → IsLifted link like role a q (λ setup desk w. given_back w grant)
    given_back_lifted q grant granted unlike = record {
      drawn = λ linked found. (let same = given_back_gave a.numbers.instances (begins a linked) grant refl in omega (arith, same));
      reads = λ linked found same. readable_all (link.address role) (given_back (begins a linked) grant).actions (fit role)
          (says_in_range.given_back setups linked.setup (begins a linked) grant (granted linked found) (at_work q linked found))
          (given_back_fit (begins a linked) grant (found_grant (begins a linked) grant.label grant (granted linked found) (fits_there q linked found)) (fits_there q linked found)).said;
      leads = λ linked found same queued. given_back_leads link like queued proper.label role (begins a linked) grant (granted linked found) (unlike same);
    }
