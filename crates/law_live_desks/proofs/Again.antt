-- a controller that has met its switch sends what stands at its desk again in a tick

use Rattle.std.proofs.Common.{◌≡◌, ℕ, ◌+◌, ◌≤◌, ◌<◌, Bool, true, List, [], ◌∷◌, ◌++◌, append_assoc, append-nil, length, refl, sym, ◌∙◌, ap, subst, arith, fold, if◌then◌else◌}
use Rattle.std.specs.Prelude.{nat_le}
use Rattle.world_model.specs.Words.{Mark, Party, Side, Cell, Loss, PoolFull, noted, made, frame_cells, next_control, with_control, Desk, Standing, sent_again, is_estab, Controller, default_channel, says_gsmp, sends_request, sends_again}
use Rattle.world_model.specs.adjacency_table.Table.{silence_limit}
use Rattle.world_model.specs.adjacency_table.Side.{Step}
use Rattle.world_model.specs.gsmp_wire.declared.message.Message.{Message}
use Rattle.world_model.specs.gsmp_wire.Layout.{octets_of}
use Rattle.world_model.specs.port_model.Desk.{message_at}
use Rattle.world_model.specs.frame_model.Sending.{Sender}
use Rattle.world_model.specs.Controller.{Acted, free_slots}
use Rattle.world_model.specs.Sending.{with_cells}
use Rattle.world_model.specs.Ticks.{ticks, ticks_with}
use Rattle.law_port_facts.specs.ordered_lists.Ordered.{Every}
use Rattle.law_port_facts.proofs.ordered_lists.Every.{every_join, every_map}
use Rattle.law_port_facts.proofs.Keyed.{on_both}
use Rattle.live_model.specs.Met.{HaveMet}
use Rattle.law_live_control.specs.Calm.{ack, aged}
use Rattle.law_live_control.proofs.Since.{with_frame}
use Rattle.law_live_control.proofs.Sides.{tick_acked}
use Rattle.law_live_desks.proofs.Standing.{IsThere, same_control, there_more, there_now, Kept}
use Rattle.law_live_desks.proofs.Ledger.{AtLeast, one_longer}
use Rattle.law_live_desks.proofs.Walks.{ports_kept}
use Rattle.law_live_desks.proofs.Sites.{SameDesk, sends_desk}

-- the desk and the side of the adjacency are as they were
asks_desk : (a : Acted) (s : Standing) → SameDesk a (sends_request a s)
asks_desk a s = sends_desk (record a { numbers = with_control a.numbers }) default_channel (next_control a.numbers) (octets_of (message_at a.controller.desk s))

all_desk : (standing : List Standing) (a : Acted) → SameDesk a (fold sends_request a standing)
all_desk [] a = refl
all_desk (s ∷ standing) a = all_desk standing (sends_request a s) ∙ asks_desk a s

module _ (Old : Standing → Type 0) (entries : ℕ) where
  -- *The frames of these requests* stand in the queue, if the ledger has no more entries than it had
  pub record AreSent (standing : List Standing) (a : Acted) : Type 0 where
    pub grown : entries ≤ length a.notes.entries
    pub each : length a.notes.entries ≡ entries → Every (IsThere Old a.controller.desk.rows a.controller.queue a.notes.frames a.numbers.controls) standing

  sent_more : (standing : List Standing) (a : Acted) (s : Standing) → AreSent standing a → AreSent (standing ++ s ∷ []) (sends_request a s)
  sent_more standing a s h = on_both (λ (x : Sender Controller). AreSent (standing ++ s ∷ []) (record a { controller = x.queues; notes = x.notes; numbers = with_control a.numbers }))
      (nat_le (length cells) (free_slots a.controller))
      (record { queues = with_cells a.controller cells; notes = made a.notes mark octets })
      (record { queues = a.controller; notes = noted (made a.notes mark octets) (Loss mark PoolFull) })
      (record {
        grown = h.grown;
        each = λ e. every_join Now standing (s ∷ []) (every_map Then Now standing (there_more Old desk.rows a.controller.queue cells a.notes.frames (with_frame a.notes.frames mark octets) a.numbers.controls (a.numbers.controls + 1) (omega arith)
            (same_control a.notes.frames a.numbers.controls octets)) (h.each e)) (there_now Old desk.rows a.controller.queue a.notes.frames a.numbers.controls s, tt);
      })
      (record { grown = omega (arith, h.grown, longer); each = λ e. absurd (omega (arith, e, h.grown, longer)) })
    where
      desk : Desk
      desk = a.controller.desk

      octets : List ℕ
      octets = octets_of (message_at desk s)

      mark : Mark
      mark = next_control a.numbers

      cells : List Cell
      cells = frame_cells default_channel mark octets

      Then : Standing → Type 0
      Then other = IsThere Old desk.rows a.controller.queue a.notes.frames a.numbers.controls other

      Now : Standing → Type 0
      Now other = IsThere Old desk.rows (a.controller.queue ++ cells) (with_frame a.notes.frames mark octets) (a.numbers.controls + 1) other

      longer : length a.notes.entries < length (a.notes.entries ++ record { mark = mark; cause = PoolFull } ∷ [])
      longer = one_longer a.notes.entries (record { mark = mark; cause = PoolFull })

  all_sent : (before standing : List Standing) (a : Acted) → AreSent before a → AreSent (before ++ standing) (fold sends_request a standing)
  all_sent before [] a h = subst (λ (xs : List Standing). AreSent xs a) (sym (append-nil before)) h
  all_sent before (s ∷ standing) a h = subst (λ (xs : List Standing). AreSent xs (fold sends_request (sends_request a s) standing)) (append_assoc before (s ∷ []) standing)
      (all_sent (before ++ s ∷ []) standing (sends_request a s) (sent_more before a s h))

  again_kept : (a : Acted) → is_estab a.controller.adjacency.state ≡ true → sent_again a.controller.desk ≡ a.controller.desk.standing → AtLeast entries a.notes → Kept Old entries (sends_again a)
  again_kept a up all more = subst (λ (b : Bool). Kept Old entries (if b then fold sends_request a (sent_again a.controller.desk) else a)) (sym up)
      (subst (λ (standing : List Standing). Kept Old entries (fold sends_request a standing)) (sym all) each)
    where
      h : AreSent a.controller.desk.standing (fold sends_request a a.controller.desk.standing)
      h = all_sent [] a.controller.desk.standing a (record { grown = more; each = λ e. tt })

      each : Kept Old entries (fold sends_request a a.controller.desk.standing)
      each = (let b : Acted = fold sends_request a a.controller.desk.standing in record {
        grown = h.grown;
        each = λ e. subst (λ (d : Desk). Every (IsThere Old b.controller.desk.rows b.controller.queue b.notes.frames b.numbers.controls) d.standing) (sym (all_desk a.controller.desk.standing a)) (h.each e);
      })

  -- *In a tick* behind its ACK
  says_same : (b : Acted) (message : Message) → AtLeast entries b.notes → let c : Acted = says_gsmp b message in
      (c.controller.desk ≡ b.controller.desk) × (c.controller.adjacency ≡ b.controller.adjacency) × AtLeast entries c.notes
  says_same b message more =
      let mark : Mark = next_control b.numbers in
      let cells : List Cell = frame_cells default_channel mark (octets_of message) in
      on_both (λ (x : Sender Controller). (x.queues.desk ≡ b.controller.desk) × (x.queues.adjacency ≡ b.controller.adjacency) × AtLeast entries x.notes) (nat_le (length cells) (free_slots b.controller))
      (record { queues = with_cells b.controller cells; notes = made b.notes mark (octets_of message) })
      (record { queues = b.controller; notes = noted (made b.notes mark (octets_of message)) (Loss mark PoolFull) })
      (refl, refl, more) (refl, refl, omega (arith, more, one_longer b.notes.entries (record { mark = mark; cause = PoolFull })))

  pub tick_sends : (a : Acted) (switch : Side Party) → HaveMet a.controller.adjacency switch → a.controller.adjacency.silence < silence_limit
      → sent_again a.controller.desk ≡ a.controller.desk.standing → AtLeast entries a.notes → Kept Old entries (ticks a)
  tick_sends a switch met low all more = subst (λ (step : Step Party). Kept Old entries (ticks_with a step)) (sym (tick_acked a.controller.adjacency switch.own met.one_is_up met.one_knows low))
      (ports_kept Old entries (sends_again greeted) (again_kept greeted up (subst (λ (d : Desk). sent_again d ≡ d.standing) (sym same.0) all) same.2))
    where
      older : Acted
      older = record a { controller = record a.controller { adjacency = aged a.controller.adjacency } }

      greeted : Acted
      greeted = says_gsmp older (ack a.controller.adjacency.own switch.own)

      same : (greeted.controller.desk ≡ a.controller.desk) × (greeted.controller.adjacency ≡ aged a.controller.adjacency) × AtLeast entries greeted.notes
      same = says_same older (ack a.controller.adjacency.own switch.own) more

      up : is_estab greeted.controller.adjacency.state ≡ true
      up = ap (λ (side : Side Party). is_estab side.state) same.1 ∙ ap (λ (state : _). is_estab state) met.one_is_up
