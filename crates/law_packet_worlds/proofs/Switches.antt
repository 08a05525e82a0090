-- what a switch does with its own messages keeps a world good, and a cell that goes on or is lost

use Rattle.std.proofs.Common.{◌≡◌, ℕ, ◌<◌, ◌+◌, ◌==◌, ◌&&◌, Bool, true, false, cond, List, [], ◌∷◌, ◌++◌, length, None, Some, refl, sym, ◌∙◌, ap, subst, arith, slice_set, slice_index_or}
use Rattle.std.specs.Prelude.{nat_le}
use Rattle.law_arrival_views.specs.world_model.Words.{NodeId, Place, Up, End, Mark, next_control, with_control, Cell, queue_of, sent, on_channel_of, Frame, Record, Loss, Cause, PoolFull, Journal, noted, made, frame_cells, Switch, control_port, gsmp_channel, Past}
use Rattle.law_arrival_views.specs.world_model.gsmp_wire.declared.message.Message.{Message}
use Rattle.law_arrival_views.specs.world_model.gsmp_wire.Layout.{octets_of}
use Rattle.law_arrival_views.specs.world_model.frame_model.Sending.{Sender}
use Rattle.law_arrival_views.proofs.ordered_lists.Every.{every_join}
use Rattle.law_packet_worlds.proofs.Lists.{count_by-append}
use Rattle.law_arrival_views.proofs.law_port_facts.Keyed.{on_both}
use Rattle.law_arrival_views.specs.world_model.Switch.{ActedSwitch, free_slots}
use Rattle.law_arrival_views.specs.world_model.Conduct.{with_cells, says}
use Rattle.law_arrival_views.proofs.world_model.Lists.{index_here, length_set}
use Rattle.law_run_facts.specs.law_world_views.Marks.{Heading, heading_at, Means, early, control, local, plain, labelled, ends}
use Rattle.law_packet_worlds.proofs.Ledger.{entered}
use Rattle.law_packet_worlds.proofs.Cut.{one}
use Rattle.law_packet_worlds.proofs.Meant.{in_frames, IsProper, default_proper, MeansAt}
use Rattle.law_packet_worlds.proofs.Good.{Turn, Now, IsGood, nothing, good_set, good_loss, good_without}
use Rattle.law_packet_worlds.proofs.Frames.{in_hand, few_in_hand, one_none, good_put, good_full, good_controls, new_control, own_control}
use Rattle.law_packet_worlds.proofs.Quietly.{good_quiet, BindsNone, push_none, IsSilent}
use Rattle.law_way_words.proofs.Switching.{IsNoted, is_lost, is_bad, is_chance, Kept}

-- *A cell that goes nowhere* is no last one of a packet
zero_packet : (c : Cell) (k : ℕ) → c.mark.packet ≡ 0 → 0 < k → in_hand c k ≡ 0
zero_packet c k z some =
    elim c.header.last as (λ (v : Bool). ◌≡◌ {A = ℕ} (cond (v && (c.mark.packet == k)) 1 0) 0) [ true ↦ ap (λ p. one p k) z ∙ one_none k some | false ↦ refl ]

pub gone_hand : (past : Past) (to : Heading) (c : Cell) → to.end ≡ None → Means past to c.header.last c.mark → (k : ℕ) → 0 < k → in_hand c k ≡ nothing k
gone_hand past to c none (early d e other) k some = ap (λ (v : Bool). cond (v && (c.mark.packet == k)) 1 0) e
gone_hand past to c none (control d z source message is) k some = zero_packet c k z some
gone_hand past to c none (local d e z) k some = zero_packet c k z some
gone_hand past to c none (plain d e far led packet is come newest) k some = (let clash : None ≡ Some far = sym none ∙ led in absurd (cc clash))
gone_hand past to c none (labelled d far led flow bound payload packet is carried come newest) k some = (let clash : None ≡ Some far = sym none ∙ led in absurd (cc clash))

module _ (t : Turn) where
  -- *A cell goes on* by a branch
  pub good_out : (n : Now) (c : Cell) (output : End) → Means (in_frames t.base n.notes.frames) (heading_at t.base.topology t.place output.channel) c.header.last c.mark
      → IsProper t.base.topology (heading_at t.base.topology t.place output.channel)
      → IsGood t (in_hand c) n → IsGood t nothing (record n { cells = n.cells ++ on_channel_of c output ∷ [] })
  good_out n c output m proper good =
      let on : Cell = on_channel_of c output in
      good_set t (in_hand c) nothing n (n.cells ++ on ∷ []) (every_join (MeansAt t.base n.notes.frames t.place) n.cells (on ∷ []) good.meant.here ((m, proper), tt))
      (λ k some. omega (arith, count_by-append (ends k) n.cells (on ∷ []))) good

  pub good_lost : (n : Now) (c : Cell) (cause : Cause) → IsGood t (in_hand c) n → IsGood t nothing (record n { notes = noted n.notes (Loss c.mark cause) })
  good_lost n c cause good = good_without t c.mark.packet (in_hand c) (record n { notes = noted n.notes (Loss c.mark cause) }) (λ k some. few_in_hand c k) (entered n.notes.entries c.mark cause)
      (good_loss t (in_hand c) n c.mark cause good)

-- *A switch at work*: its queue to the controller
abbrev pub switch_now : ActedSwitch → Now
switch_now a = record { cells = queue_of a.switch.crossbar control_port; notes = a.notes; controls = a.numbers.controls }

-- all other queues are as they were first
pub record Crosses (t : Turn) (first : List (List Cell)) (a : ActedSwitch) : Type 0 where
  pub good : IsGood t nothing (switch_now a)
  pub queues : length a.switch.crossbar.queues ≡ 9
  pub only : a.switch.crossbar.queues ≡ slice_set first 0 (queue_of a.switch.crossbar control_port)
  pub none : BindsNone a.notes.records

set_again : (queues : List (List Cell)) (one other : List Cell) → slice_set (slice_set queues 0 one) 0 other ≡ slice_set queues 0 other
set_again [] one other = refl
set_again (x ∷ xs) one other = refl

pub set_same : (queues : List (List Cell)) → queues ≡ slice_set queues 0 (slice_index_or queues 0 [])
set_same [] = refl
set_same (x ∷ xs) = refl

-- what a switch notes of its own messages is no fate, and binds nothing
noted_silent : (item : Record) → IsNoted item → IsSilent item
noted_silent _ (is_lost mark cause) = (refl, refl)
noted_silent _ (is_bad node layer name) = (refl, refl)
noted_silent _ (is_chance mark) = (refl, refl)

module _ (t : Turn) (node : NodeId) (here : t.place ≡ Up node) (first : List (List Cell)) where
  answer_means : (frames : List Frame) (mark : Mark) → mark.packet ≡ 0 → Means (in_frames t.base frames) (heading_at t.base.topology t.place gsmp_channel) true mark
  answer_means frames mark zero = subst (λ (p : Place). Means (in_frames t.base frames) (heading_at t.base.topology p gsmp_channel) true mark) (sym here) (local refl refl zero)

  says_crosses : (a : ActedSwitch) (message : Message) → Crosses t first a → Crosses t first (says a message)
  says_crosses a message h =
      let mark : Mark = next_control a.numbers in
      let payload : List ℕ = octets_of message in
      let cells : List Cell = frame_cells gsmp_channel mark payload in
      let n : Now = record (switch_now a) { controls = a.numbers.controls + 1 } in
      let new = new_control t nothing (switch_now a) gsmp_channel payload h.good (answer_means (made a.notes mark payload).frames mark refl)
      (subst (λ (p : Place). IsProper t.base.topology (heading_at t.base.topology p gsmp_channel)) (sym here) (default_proper t.base.topology (heading_at t.base.topology (Up node) gsmp_channel) refl)) in
      let own = own_control t mark nothing refl in
      let counted : IsGood t nothing n = good_controls t nothing (switch_now a) h.good in
      let there : queue_of (sent a.switch.crossbar control_port cells) control_port ≡ queue_of a.switch.crossbar control_port ++ cells =
      index_here a.switch.crossbar.queues 0 (queue_of a.switch.crossbar control_port ++ cells) [] (omega (arith, h.queues)) in
      let put : IsGood t nothing (record n { cells = n.cells ++ cells; notes = made a.notes mark payload }) = good_put t nothing nothing n gsmp_channel mark payload new own counted in
      on_both (λ (s : Sender Switch). Crosses t first (record a { switch = s.queues; notes = s.notes; numbers = with_control a.numbers })) (nat_le (length cells) (free_slots a.switch))
      (record { queues = with_cells a.switch control_port cells; notes = made a.notes mark payload })
      (record { queues = a.switch; notes = noted (made a.notes mark payload) (Loss mark PoolFull) })
      (record {
        good = subst (λ (cs : List Cell). IsGood t nothing (record n { cells = cs; notes = made a.notes mark payload })) (sym there) put;
        queues = length_set a.switch.crossbar.queues 0 (queue_of a.switch.crossbar control_port ++ cells) ∙ h.queues;
        only = ap (λ (qs : List (List Cell)). slice_set qs 0 (queue_of a.switch.crossbar control_port ++ cells)) h.only
            ∙ (set_again first (queue_of a.switch.crossbar control_port) (queue_of a.switch.crossbar control_port ++ cells) ∙ ap (slice_set first 0) (sym there));
        none = h.none;
      })
      (record {
        good = good_full t nothing nothing n gsmp_channel mark payload new own counted;
        queues = h.queues;
        only = h.only;
        none = push_none a.notes.records (Loss mark PoolFull) refl h.none;
      })

  pub crosses_kept : Kept (Crosses t first)
  crosses_kept = record {
    alike = λ a b queues notes controls h. (
        let now : switch_now a ≡ switch_now b = λ i. (let n : Now = record { cells = slice_index_or (sym queues i) 0 []; notes = sym notes i; controls = sym controls i } in n) in
        record { good = subst (IsGood t nothing) now h.good; queues = ap length queues ∙ h.queues; only = subst (λ (qs : List (List Cell)). qs ≡ slice_set first 0 (slice_index_or qs 0 [])) (sym queues) h.only; none = subst (λ (n : Journal). BindsNone n.records) (sym notes) h.none });
    noted = λ a item is h. record {
      good = good_quiet t nothing (switch_now a) item (noted_silent item is).0 h.good;
      queues = h.queues;
      only = h.only;
      none = push_none a.notes.records item (noted_silent item is).1 h.none;
    };
    said = says_crosses;
  }
