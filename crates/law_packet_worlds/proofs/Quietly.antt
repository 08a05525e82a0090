-- what a controller does besides keeps a world good; and it sends nothing on labels, or binds none

use Rattle.std.proofs.Common.{◌≡◌, ℕ, true, false, List, [], ◌∷◌, ◌++◌, length, None, refl, sym, ◌∙◌, ap, subst, arith}
use Rattle.std.specs.Prelude.{nat_le, ◌||◌}
use Rattle.std.specs.List.{list_any}
use Rattle.law_arrival_views.specs.world_model.Words.{NodeId, PortNo, Down, Channel, Mark, next_control, with_control, Cell, Record, Loss, PoolFull, noted, made, frame_cells, is_fate_of, Controller, default_channel, default_home, same_channel, on_link, Past, is_bind}
use Rattle.law_arrival_views.specs.world_model.gsmp_wire.Layout.{octets_of as gsmp_octets}
use Rattle.law_arrival_views.specs.world_model.link_model.declared.record.Record.TheVariants as records
use Rattle.law_arrival_views.specs.world_model.frame_model.Sending.{Sender}
use Rattle.law_arrival_views.specs.ordered_lists.Ordered.{Every}
use Rattle.law_arrival_views.proofs.ordered_lists.Every.{every_join, every_map}
use Rattle.law_arrival_views.proofs.law_port_facts.Keyed.{on_both}
use Rattle.law_packet_worlds.proofs.Lists.{none_join, count_by-skip}
use Rattle.law_arrival_views.specs.world_model.Controller.{Acted, free_slots}
use Rattle.law_arrival_views.specs.world_model.Sending.{with_cells, sends}
use Rattle.law_arrival_views.specs.law_controller_views.Lifted.{payload_by}
use Rattle.law_arrival_views.specs.world_model.Topology.{peer_of}
use Rattle.law_packet_worlds.proofs.Quiet.{is_fate, Allows}
use Rattle.law_unused_labels.proofs.law_causes.Noting.{AllowsBinding}
use Rattle.law_packet_worlds.proofs.Walk.{IsAlike, Kept}
use Rattle.law_packet_worlds.proofs.Records.{AllowsFates, records_kept}
use Rattle.law_packet_worlds.proofs.Cut.{IsCut, IsEarly, frame_is_cut}
use Rattle.law_packet_worlds.proofs.Good.{Turn, Now, IsTrueRecord, IsGood, good_noted}
use Rattle.law_packet_worlds.proofs.Headings.{link_is}
use Rattle.law_packet_worlds.proofs.Sends.{now_of, good_told, good_said}

-- *A record of no fate*
fateless : (base : Past) (time : ℕ) (item : Record) → is_fate item ≡ false → IsTrueRecord base time item
fateless base time (records.Delivered node packet octets) e = absurd (cc e)
fateless base time (records.Dropped node packet cause) e = absurd (cc e)
fateless base time (records.Refused node packet name) e = tt
fateless base time (records.Loss mark cause) e = tt
fateless base time (records.Chance mark) e = tt
fateless base time (records.Bad node layer name) e = tt
fateless base time (records.Opened node port) e = tt
fateless base time (records.Closed node port) e = tt
fateless base time (records.Bind node port vci flow) e = tt
fateless base time (records.Free node port vci) e = tt
fateless base time (records.Join node port vci to_port to_vci) e = tt
fateless base time (records.Part node port vci) e = tt
fateless base time (records.Routes node changes) e = tt
fateless base time (records.Forged place) e = tt

nobodys : (k : ℕ) (item : Record) → is_fate item ≡ false → is_fate_of k item ≡ false
nobodys k (records.Delivered node packet octets) e = absurd (cc e)
nobodys k (records.Dropped node packet cause) e = absurd (cc e)
nobodys k (records.Refused node packet name) e = refl
nobodys k (records.Loss mark cause) e = refl
nobodys k (records.Chance mark) e = refl
nobodys k (records.Bad node layer name) e = refl
nobodys k (records.Opened node port) e = refl
nobodys k (records.Closed node port) e = refl
nobodys k (records.Bind node port vci flow) e = refl
nobodys k (records.Free node port vci) e = refl
nobodys k (records.Join node port vci to_port to_vci) e = refl
nobodys k (records.Part node port vci) e = refl
nobodys k (records.Routes node changes) e = refl
nobodys k (records.Forged place) e = refl

pub good_quiet : (t : Turn) (hand : ℕ → ℕ) (n : Now) (item : Record) → is_fate item ≡ false → IsGood t hand n → IsGood t hand (record n { notes = noted n.notes item })
good_quiet t hand n item quiet good =
    good_noted t hand hand n item (fateless t.base t.time item quiet) (λ k some. omega (arith, count_by-skip (is_fate_of k) item [] (nobodys k item quiet))) good

-- *No label is bound*
abbrev pub BindsNone : List Record → Type 0
BindsNone items = list_any is_bind items ≡ false

abbrev pub NoBind : Record → Type 0
NoBind item = is_bind item ≡ false

pub push_none : (items : List Record) (item : Record) → NoBind item → BindsNone items → BindsNone (items ++ item ∷ [])
push_none items item none h = none_join is_bind items (item ∷ []) h (ap (λ b. b || false) none)

pub fate_none : AllowsFates NoBind
fate_none (records.Delivered node packet octets) e = refl
fate_none (records.Dropped node packet cause) e = refl
fate_none (records.Refused node packet name) e = absurd (cc e)
fate_none (records.Loss mark cause) e = refl
fate_none (records.Chance mark) e = refl
fate_none (records.Bad node layer name) e = refl
fate_none (records.Opened node port) e = refl
fate_none (records.Closed node port) e = refl
fate_none (records.Bind node port vci flow) e = absurd (cc e)
fate_none (records.Free node port vci) e = refl
fate_none (records.Join node port vci to_port to_vci) e = refl
fate_none (records.Part node port vci) e = refl
fate_none (records.Routes node changes) e = refl
fate_none (records.Forged place) e = refl

-- *No cell is put on a label*: P holds of all that stood in the queue, and of cells of default channels
abbrev pub IsOnDefault : Cell → Type 0
IsOnDefault cell = same_channel (on_link cell.header.channel) default_channel ≡ true

abbrev pub AllowsDefault : (Cell → Type 0) → Type 0
AllowsDefault P = (cell : Cell) → IsOnDefault cell → P cell

abbrev pub AreFew : (Cell → Type 0) → Acted → Type 0
AreFew P a = Every P a.controller.queue

module _ (P : Cell → Type 0) (others : AllowsDefault P) where
  frame_few : (channel : Channel) (mark : Mark) (payload : List ℕ) → same_channel (on_link channel) default_channel ≡ true → Every P (frame_cells channel mark payload)
  frame_few channel mark payload default =
      let cut : IsCut channel mark payload (frame_cells channel mark payload) = frame_is_cut channel mark payload in
      let on : (cell : Cell) → cell.header.channel ≡ channel → P cell = λ cell same. others cell (ap (λ c. same_channel (on_link c) default_channel) same ∙ default) in
      subst (Every P) (sym cut.whole) (every_join P cut.front (cut.final ∷ []) (every_map (IsEarly channel mark) P cut.front (λ c e. on c e.2) cut.early) (on cut.final cut.goes, tt))

  sends_few : (a : Acted) (channel : Channel) (mark : Mark) (payload : List ℕ) → same_channel (on_link channel) default_channel ≡ true → AreFew P a → AreFew P (sends a channel mark payload)
  sends_few a channel mark payload default h = on_both (λ (s : Sender Controller). Every P s.queues.queue) (nat_le (length (frame_cells channel mark payload)) (free_slots a.controller))
      (record { queues = with_cells a.controller (frame_cells channel mark payload); notes = made a.notes mark payload })
      (record { queues = a.controller; notes = noted (made a.notes mark payload) (Loss mark PoolFull) })
      (every_join P a.controller.queue (frame_cells channel mark payload) h (frame_few channel mark payload default)) h

  default_there : (port : PortNo) → same_channel (on_link (default_home port).channel) default_channel ≡ true
  default_there port = ap (λ c. same_channel c default_channel) (link_is port default_channel (omega arith))

  pub few_kept : (Q : Record → Type 0) → Kept Q (AreFew P)
  few_kept Q = record {
    alike = λ a b same h. subst (Every P) (sym same.queue) h;
    noted = λ a item q h. h;
    told = λ a message h. sends_few (record a { numbers = with_control a.numbers }) default_channel (next_control a.numbers) (gsmp_octets message) refl h;
    said = λ port a message h. sends_few (record a { numbers = with_control a.numbers }) (default_home port).channel (next_control a.numbers) (payload_by a.controller.address message) (default_there port) h;
  }

-- *Both*: what two sets of changes keep
pub both_kept : (Q : Record → Type 0) (P S : Acted → Type 0) → Kept Q P → Kept Q S → Kept Q (λ a. P a × S a)
both_kept Q P S p s = record {
  alike = λ a b same h. (p.alike a b same h.0, s.alike a b same h.1);
  noted = λ a item q h. (p.noted a item q h.0, s.noted a item q h.1);
  told = λ a message h. (p.told a message h.0, s.told a message h.1);
  said = λ port a message h. (p.said port a message h.0, s.said port a message h.1);
}

-- *What is good stays so*
module _ (t : Turn) (node : NodeId) (here : t.place ≡ Down node) (apart : peer_of t.base.topology node (record { 0 = 0 }) ≡ None) (hand : ℕ → ℕ) where
  abbrev pub IsGoodNow : Acted → Type 0
  IsGoodNow a = IsGood t hand (now_of a)

  alike_good : (a b : Acted) → IsAlike a b → IsGoodNow a → IsGoodNow b
  alike_good a b same h = (
      let now : now_of a ≡ now_of b = λ i. (let n : Now = record { cells = sym same.queue i; notes = sym same.notes i; controls = sym same.controls i } in n) in
      subst (IsGood t hand) now h)

  pub good_kept : (Q : Record → Type 0) → ((item : Record) → Q item → is_fate item ≡ false) → Kept Q IsGoodNow
  good_kept Q quiet = record {
    alike = alike_good;
    noted = λ a item q h. good_quiet t hand (now_of a) item (quiet item q) h;
    told = λ a message h. good_told t node here apart hand a message h;
    said = λ port a message h. good_said t node here hand port a message h;
  }

-- *All records but fates*, and all but fates and bindings
abbrev pub IsQuiet : Record → Type 0
IsQuiet item = is_fate item ≡ false

pub may_quiet : Allows IsQuiet
may_quiet item fate bind = fate

pub bind_quiet : AllowsBinding IsQuiet
bind_quiet node port label flow = refl

abbrev pub IsSilent : Record → Type 0
IsSilent item = (is_fate item ≡ false) × (is_bind item ≡ false)

pub may_silent : Allows IsSilent
may_silent item fate bind = (fate, bind)

pub none_kept : Kept IsSilent (λ a. BindsNone a.notes.records)
none_kept = records_kept BindsNone IsSilent may_silent (λ items item q h. push_none items item q.1 h)
