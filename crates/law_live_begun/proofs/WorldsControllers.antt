-- a controller before the first packet enters: a cell comes to it, and it ticks

use Rattle.std.proofs.Common.{◌≡◌, ℕ, Bool, true, false, List, [], ◌∷◌, ◌++◌, Option, None, Some, refl, sym, ◌∙◌, ap, subst, if◌then◌else◌, append-nil}
use Rattle.std.specs.Prelude.{nat_lt}
use Rattle.std.specs.Option.{option_and_then, option_map_or}
use Rattle.world_model.specs.Words.{Channel, Mark, Cell, Loss, Unbound, Journal, last_mark, payload_in, tested_by, at, put, Reassembly, Setup, Label, label_number, label_number_of, label_at, labels_of, is_clearing, awaits_nothing, Session, Controller, Linked, linked_at, port_key, default_channel, same_channel, port_on, on_link, ForGsmp, ForDefault, ForLabel, taker_of, taker_at, label_taker, reassembly_of, with_reassembly, frame_holds, takes_cell}
use Rattle.world_model.specs.port_model.Port.{Port}
use Rattle.world_model.specs.frame_model.Frame.{octets_of}
use Rattle.world_model.specs.frame_model.Reassembly.{Taken}
use Rattle.world_model.specs.Controller.{Acted, free_slots, note}
use Rattle.world_model.specs.Cells.{Taker, after_test, ends_frame, cell_comes}
use Rattle.world_model.specs.Ticks.{ticks}
use Rattle.law_link_parties.proofs.law_link_met.law_port_facts.Keyed.{at_key, at_every, put_every, map_put}
use Rattle.law_link_parties.specs.law_run_facts.law_controller_facts.Sound.{IsSound}
use Rattle.law_link_parties.proofs.law_run_facts.law_controller_facts.Moves.{gathering, moves_to}
use Rattle.law_link_parties.proofs.law_run_facts.law_controller_facts.Laws.{moves_sound}
use Rattle.law_link_parties.specs.law_run_facts.law_controller.Order.{IsOrderly}
use Rattle.law_link_parties.proofs.law_run_facts.law_controller.Holding.{Holds, chained_holds}
use Rattle.law_link_parties.specs.law_run_facts.ordered_lists.Ordered.{Every}
use Rattle.law_link_parties.proofs.law_run_facts.law_shown_cells.Tested.{tested_frames, taken_frames}
use Rattle.law_live_ease.specs.law_live_control.Calm.{Says}
use Rattle.law_link_parties.proofs.law_link_met.law_live_tables.law_live_control_links.Controllers.{taken_up}
use Rattle.law_live_begun.specs.First.{Start, FitsStart, AreFirstFrames, IsFirstPort, IsFirstController, IsFirstDown, IsReady}
use Rattle.law_live_begun.specs.Controllers.{IsFirstHeard, GoesOn, StaysReady, ControllersGoOn, ControllersStayReady}

-- *Whom a cell is for*: the switch, or the peer at a port; no label is held
abbrev pub IsTaking : Controller → Taker → Type 0
IsTaking c ForGsmp = Unit {0}
IsTaking c (ForDefault linked) = linked_at c linked.setup.port ≡ Some linked
IsTaking c (ForLabel linked label) = ⊥

no_labels : (port : Port) → IsFirstPort port → labels_of port ≡ []
no_labels port first = by port.session refl
  where
    by : (o : Option Session) → port.session ≡ o → option_map_or (λ (s : Session). s.labels) o [] ≡ []
    by None is = refl
    by (Some s) is = (first.session s is).labels

some_taker : (x y : Taker) → Some x ≡ Some y → x ≡ y
some_taker x y e = cc e

pub takes : (c : Controller) (channel : Channel) (taker : Taker) → Every (λ (linked : Linked). IsFirstPort linked.port) c.ports → taker_of c channel ≡ Some taker
    → IsTaking c taker
takes c channel taker firsts e = by_gsmp (same_channel channel default_channel) e
  where
    by_label : (linked : Linked) → IsFirstPort linked.port → (o : Option ℕ) → label_taker linked (option_and_then (label_at linked.port) o) ≡ Some taker → ⊥
    by_label linked first None e = cc e
    by_label linked first (Some number) e = cc (sym (ap (λ (labels : List Label). label_taker linked (at label_number number labels)) (no_labels linked.port first)) ∙ e)

    by_default : (linked : Linked) → linked_at c (port_on channel) ≡ Some linked → (b : Bool)
        → (if b then Some (ForDefault linked) else label_taker linked (option_and_then (label_at linked.port) (label_number_of (on_link channel)))) ≡ Some taker
        → IsTaking c taker
    by_default linked found true e = subst (IsTaking c) (some_taker (ForDefault linked) taker e)
        (subst (λ (k : ℕ). at port_key k c.ports ≡ Some linked) (sym (at_key port_key (port_on channel).0 c.ports linked found)) found)
    by_default linked found false e = absurd (by_label linked (at_every port_key (λ (l : Linked). IsFirstPort l.port) (port_on channel).0 c.ports linked firsts found) (label_number_of (on_link channel)) e)

    by_port : (o : Option Linked) → linked_at c (port_on channel) ≡ o → taker_at o (on_link channel) ≡ Some taker → IsTaking c taker
    by_port None found e = absurd (cc e)
    by_port (Some linked) found e = by_default linked found (same_channel (on_link channel) default_channel) e

    by_gsmp : (b : Bool) → (if b then Some ForGsmp else taker_at (linked_at c (port_on channel)) (on_link channel)) ≡ Some taker → IsTaking c taker
    by_gsmp true e = subst (IsTaking c) (some_taker ForGsmp taker e) tt
    by_gsmp false e = by_port (linked_at c (port_on channel)) refl e

-- *It is so* whatever it has gathered on the GSMP channel, and whatever waits for its switch
module _ (start : Start) (c : Controller) (r : Reassembly) (queue : List Cell) where
  pub first_with : IsFirstController start c → IsFirstController start (record c { reassembly = r; queue = queue })
  first_with h = record {
    ports_are = h.ports_are;
    ports = h.ports;
    waiting = h.waiting;
    standing = h.standing;
    room = h.room;
    below = h.below;
    waits = h.waits;
    met = h.met;
    known = h.known;
    unmet = h.unmet;
  }

  pub ready_with : IsReady c → IsReady (record c { reassembly = r; queue = queue })
  ready_with h = record { meeting = h.meeting; clearing = h.clearing }

-- and at a port
module _ (start : Start) (c : Controller) (linked : Linked) (r : Reassembly) (found : linked_at c linked.setup.port ≡ Some linked) where
  abbrev after : Linked
  after = record linked { reassembly = r }

  abbrev chained : Controller
  chained = record c { ports = put port_key after c.ports }

  each : (P : Linked → Type 0) → (P linked → P after) → Every P c.ports → Every P chained.ports
  each P same h = put_every port_key P after c.ports (same (at_every port_key P linked.setup.port.0 c.ports linked h found)) h

  first_chained : IsFirstController start c → IsFirstController start chained
  first_chained h = record {
    ports_are = map_put port_key (λ (l : Linked). l.setup.port) after c.ports linked found refl ∙ h.ports_are;
    ports = each (λ (l : Linked). IsFirstPort l.port) (λ p. p) h.ports;
    waiting = h.waiting;
    standing = h.standing;
    room = h.room;
    below = h.below;
    waits = h.waits;
    met = h.met;
    known = h.known;
    unmet = λ unmet. each (λ (l : Linked). is_clearing l.port.adjacency.state ≡ true) (λ p. p) (h.unmet unmet);
  }

  ready_chained : IsReady c → IsReady chained
  ready_chained h = record {
    meeting = h.meeting;
    clearing = λ met. each (λ (l : Linked). is_clearing l.port.adjacency.state ≡ true → awaits_nothing c l.setup.port ≡ false) (λ p. p) (h.clearing met);
  }

-- *What an event leaves* of a controller
pub record Leaves (start : Start) (a after : Acted) : Type 0 where
  pub controller : IsFirstController start after.controller
  pub ready : IsReady after.controller
  pub says : Says (IsFirstDown start) a after
  pub frames : AreFirstFrames a.notes.frames → AreFirstFrames after.notes.frames

-- one that is so, of the same node, and with the same queue
record IsBase (start : Start) (setups : List Setup) (c d : Controller) : Type 0 where
  first : IsFirstController start d
  ready : IsReady d
  sound : IsSound setups d
  order : IsOrderly d
  node : d.node ≡ c.node
  queue : d.queue ≡ c.queue

module _ (go : ControllersGoOn) (stay : ControllersStayReady) (start : Start) (setups : List Setup) (fits : FitsStart start) (a : Acted)
    (begins : IsFirstController start a.controller)
    (ready : IsReady a.controller) (sound : IsSound setups a.controller) (order : IsOrderly a.controller) where
  -- *A tick*
  pub tick_leaves : Leaves start a (ticks a)
  tick_leaves =
      let g : GoesOn start a (ticks a) = go.ticks start a fits begins in
      let s : StaysReady a (ticks a) = stay.ticks start setups a fits sound order begins ready in
      record { controller = g.controller; ready = s.ready; says = g.says; frames = g.frames }

  abbrev Base : Controller → Type 0
  Base d = IsBase start setups a.controller d

  quiet : (b : Acted) → Base b.controller → b.notes.frames ≡ a.notes.frames → Leaves start a b
  quiet b base same = record {
    controller = base.first;
    ready = base.ready;
    says = record { node = base.node; later = []; queue = base.queue ∙ sym (append-nil a.controller.queue); calm = tt };
    frames = λ h. subst AreFirstFrames (sym same) h;
  }

  -- *A frame* acts
  frame : (b : Acted) → Base b.controller → b.notes.frames ≡ a.notes.frames → (taker : Taker) (mark : Mark) (payload : List ℕ) → IsFirstHeard start taker payload
      → Leaves start a (frame_holds b taker mark payload)
  frame b base same taker mark payload heard =
      let g : GoesOn start b (frame_holds b taker mark payload) = go.frames start b taker mark payload fits base.first heard in
      let s : StaysReady b (frame_holds b taker mark payload) = stay.frames start setups b taker mark payload fits base.sound base.order base.first heard base.ready in
      record {
        controller = g.controller;
        ready = s.ready;
        says = record { node = g.says.node ∙ base.node; later = g.says.later; queue = g.says.queue ∙ ap (λ (q : List Cell). q ++ g.says.later) base.queue; calm = g.says.calm };
        frames = λ h. g.frames (subst AreFirstFrames (sym same) h);
      }

  -- *A chain ends*
  tests : (b : Acted) → Base b.controller → b.notes.frames ≡ a.notes.frames → (taker : Taker) (mark : Mark) (cells : List Cell) (o : Option (List ℕ))
      → ((payload : List ℕ) → o ≡ Some payload → IsFirstHeard start taker payload) → Leaves start a (after_test b taker mark (tested_by b.notes cells o))
  tests b base same taker mark cells None heard = quiet (record b { notes = (tested_by b.notes cells None).notes }) base (tested_frames b.notes cells None ∙ same)
  tests b base same taker mark cells (Some payload) heard =
      frame (record b { notes = (tested_by b.notes cells (Some payload)).notes }) base (tested_frames b.notes cells (Some payload) ∙ same) taker mark payload
      (heard payload refl)

  abbrev pub EndsHeard : Taker → List Cell → Type 0
  EndsHeard taker cells = (first : Cell) (rest : List Cell) (payload : List ℕ) → cells ≡ first ∷ rest → payload_in (octets_of (first ∷ rest)) ≡ Some payload
      → IsFirstHeard start taker payload

  ends : (b : Acted) → Base b.controller → b.notes.frames ≡ a.notes.frames → (taker : Taker) (cells : List Cell) → EndsHeard taker cells
      → Leaves start a (ends_frame b taker cells)
  ends b base same taker [] heard = quiet b base same
  ends b base same taker (first ∷ rest) heard = tests b base same taker (last_mark (first ∷ rest)) (first ∷ rest) (payload_in (octets_of (first ∷ rest)))
      (λ payload is. heard first rest payload refl is)

  -- *A cell* is gathered
  abbrev gathered : Journal → Taker → Reassembly → Acted
  gathered notes taker r = with_reassembly (record a { notes = notes }) taker r

  base_with : (notes : Journal) (taker : Taker) (r : Reassembly) → IsTaking a.controller taker → Base (gathered notes taker r).controller
  base_with notes ForGsmp r taking = record {
    first = first_with start a.controller r a.controller.queue begins;
    ready = ready_with start a.controller r a.controller.queue ready;
    sound = moves_sound setups (record a { notes = notes }) (gathered notes ForGsmp r) (moves_to (gathering (record a { notes = notes }) r)) sound;
    order = order;
    node = refl;
    queue = refl;
  }
  base_with notes (ForDefault linked) r found =
      let h : Holds setups (gathered notes (ForDefault linked) r) =
      chained_holds setups (record a { notes = notes }) linked (record linked { reassembly = r }) found refl refl (record { sound = sound; order = order }) in
      record {
        first = first_chained start a.controller linked r found begins;
        ready = ready_chained start a.controller linked r found ready;
        sound = h.sound;
        order = h.order;
        node = refl;
        queue = refl;
      }
  base_with notes (ForLabel linked label) r taking = absurd taking

  same_frames : (notes : Journal) (taker : Taker) (r : Reassembly) → (gathered notes taker r).notes.frames ≡ notes.frames
  same_frames notes ForGsmp r = refl
  same_frames notes (ForDefault linked) r = refl
  same_frames notes (ForLabel linked label) r = refl

  pub cell_leaves : (cell : Cell) → ((taker : Taker) → taker_of a.controller cell.header.channel ≡ Some taker → IsTaking a.controller taker → EndsHeard taker (taken_up a cell taker).ended) → Leaves start a (cell_comes a cell)
  cell_leaves cell heard = by (taker_of a.controller cell.header.channel) refl
    where
      by : (o : Option Taker) → taker_of a.controller cell.header.channel ≡ o → Leaves start a (takes_cell a cell o)
      by None found = quiet (note a (Loss cell.mark Unbound)) (record { first = begins; ready = ready; sound = sound; order = order; node = refl; queue = refl }) refl
      by (Some taker) found =
          let t : Taken = taken_up a cell taker in
          let taking : IsTaking a.controller taker = takes a.controller cell.header.channel taker begins.ports found in
          ends (gathered t.notes taker t.reassembly) (base_with t.notes taker t.reassembly taking)
          (same_frames t.notes taker t.reassembly ∙ taken_frames a.notes (nat_lt 0 (free_slots a.controller)) (reassembly_of a.controller taker) cell) taker t.ended (heard taker found taking)
