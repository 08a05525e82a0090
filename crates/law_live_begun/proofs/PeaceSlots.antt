-- where a tick enters nothing into the ledger a slot was free for its greeting, unless it reset for its silence

use Rattle.std.proofs.Common.{◌≡◌, ◌≢◌, ℕ, suc, ◌+◌, ◌<◌, ◌≤◌, Bool, true, false, List, [], ◌∷◌, length, fold, refl, sym, ap, subst, arith, if◌then◌else◌}
use Rattle.std.specs.Prelude.{nat_le, nat_lt}
use Rattle.std.proofs.lemmas.Bool.Decides.{nat_tests}
use Rattle.world_model.specs.Words.{State, Clearing, SynSent, SynRcvd, Estab, Syn, Synack, Ack, HelloKind, Party, Side, Step, Reply, Says, Resets, followed_tick, said, greeting_of, tick_reply, is_estab, Channel, Mark, Cell, Standing, sent_again, Loss, PoolFull, noted, frame_cells, made, next_control, Controller, Switch, control_port, default_channel, gsmp_channel, says_gsmp, sends_request, sends_again, ticks_ports, tries_joins, tick_comes}
use Rattle.world_model.specs.adjacency_table.Side.{counted}
use Rattle.world_model.specs.adjacency_table.Table.{silence_limit}
use Rattle.world_model.specs.gsmp_wire.declared.message.Message.{Message}
use Rattle.world_model.specs.gsmp_wire.declared.message.Message.TheVariants.{Adjacency}
use Rattle.world_model.specs.gsmp_wire.Layout.{octets_of}
use Rattle.world_model.specs.port_model.Desk.{message_at}
use Rattle.world_model.specs.frame_model.Sending.{Sender}
use Rattle.world_model.specs.Controller.{Acted, free_slots}
use Rattle.world_model.specs.Switch as switches
use Rattle.world_model.specs.Switch.{ActedSwitch}
use Rattle.world_model.specs.Sending.{with_cells}
use Rattle.world_model.specs.Conduct as conduct
use Rattle.world_model.specs.Conduct.{says, steps}
use Rattle.world_model.specs.Ticks.{ticks, ticks_with}
use Rattle.law_link_parties.proofs.law_link_met.law_port_facts.Keyed.{on_both, on_each}
use Rattle.law_link_parties.proofs.law_run_facts.ordered_lists.Every.{every_all}
use Rattle.law_link_parties.proofs.law_run_facts.law_shown_cells.Frames.{IsCut, frame_is_cut}
use Rattle.law_link_parties.specs.law_live_rested.law_live_waking.Beats.{IsSuchSide}
use Rattle.law_live_ease.proofs.law_live_desks.Ledger.{one_longer}
use Rattle.law_live_ease.proofs.law_live_desks.Standing.{each_begins}
use Rattle.law_live_ease.proofs.law_live_desks.Walks.{Goes, control_kept, ports_kept}

-- *A frame has a cell*
some_cell : (channel : Channel) (mark : Mark) (payload : List ℕ) → 0 < length (frame_cells channel mark payload)
some_cell channel mark payload =
    let cut : IsCut channel mark (frame_cells channel mark payload) = frame_is_cut channel mark payload in
    subst (λ (cells : List Cell). 0 < length cells) (sym cut.whole) (omega (arith, one_longer cut.front cut.final))

none_fits : (n free : ℕ) → 0 < n → nat_lt 0 free ≡ false → nat_le n free ≡ true → ⊥
none_fits n free some none fits = grind (arith, nat_tests, some, none, fits)

-- *In a tick* a side greets, unless it waits to be cleared or was silent too long
record Greets (reply : Reply) : Type 0 where
  kind : HelloKind
  is : reply ≡ Says kind

not_over : (silence : ℕ) → silence < silence_limit → nat_lt silence_limit (silence + 1) ≡ false
not_over silence low = grind (arith, nat_tests, low)

greets : (state : State) (silence : ℕ) → state ≢ Clearing → silence < silence_limit → Greets (tick_reply state (counted state silence))
greets Clearing silence clear low = absurd (clear refl)
greets SynSent silence clear low = record { kind = Syn; is = refl }
greets SynRcvd silence clear low = record { kind = Synack; is = refl }
greets Estab silence clear low = record { kind = Ack; is = ap (λ (b : Bool). if b then Resets else Says Ack) (not_over silence low) }

-- *The ledger only grows* in the rest of a controller's tick
module _ (entries : ℕ) where
  abbrev Any : Standing → Type 0
  Any s = Unit {0}

  abbrev Grown : Acted → Type 0
  Grown a = Goes Any entries a

  grown : (a : Acted) → entries ≤ length a.notes.entries → Grown a
  grown a more = record {
    grown = more;
    each = λ e. each_begins Any a.controller.desk a.controller.queue a.notes.frames a.numbers.controls (every_all Any a.controller.desk.standing (λ s. tt));
  }

  all_grown : (standing : List Standing) (a : Acted) → Grown a → Grown (fold sends_request a standing)
  all_grown [] a h = h
  all_grown (s ∷ standing) a h = all_grown standing (sends_request a s) (control_kept Any entries a default_channel (octets_of (message_at a.controller.desk s)) h)

  rest_grown : (a : Acted) → entries ≤ length a.notes.entries → Grown (tries_joins (ticks_ports (sends_again a)))
  rest_grown a more = ports_kept Any entries (sends_again a)
      (on_both Grown (is_estab a.controller.adjacency.state) (fold sends_request a (sent_again a.controller.desk)) a (all_grown (sent_again a.controller.desk) a (grown a more)) (grown a more))

-- *What finds no slot* is entered
says_lost : (a : Acted) (message : Message) → nat_lt 0 (free_slots a.controller) ≡ false → length a.notes.entries < length (says_gsmp a message).notes.entries
says_lost a message none = on_each (λ (s : Sender Controller). length a.notes.entries < length s.notes.entries) (nat_le (length cells) (free_slots a.controller))
    (record { queues = with_cells a.controller cells; notes = made a.notes mark (octets_of message) })
    (record { queues = a.controller; notes = noted (made a.notes mark (octets_of message)) (Loss mark PoolFull) })
    (λ fits. absurd (none_fits (length cells) (free_slots a.controller) (some_cell default_channel mark (octets_of message)) none fits))
    (λ lost. one_longer a.notes.entries (record { mark = mark; cause = PoolFull }))
  where
    mark : Mark
    mark = next_control a.numbers

    cells : List Cell
    cells = frame_cells default_channel mark (octets_of message)

switch_says_lost : (a : ActedSwitch) (message : Message) → nat_lt 0 (switches.free_slots a.switch) ≡ false → length a.notes.entries < length (says a message).notes.entries
switch_says_lost a message none = on_each (λ (s : Sender Switch). length a.notes.entries < length s.notes.entries) (nat_le (length cells) (switches.free_slots a.switch))
    (record { queues = conduct.with_cells a.switch control_port cells; notes = made a.notes mark (octets_of message) })
    (record { queues = a.switch; notes = noted (made a.notes mark (octets_of message)) (Loss mark PoolFull) })
    (λ fits. absurd (none_fits (length cells) (switches.free_slots a.switch) (some_cell gsmp_channel mark (octets_of message)) none fits))
    (λ lost. one_longer a.notes.entries (record { mark = mark; cause = PoolFull }))
  where
    mark : Mark
    mark = next_control a.numbers

    cells : List Cell
    cells = frame_cells gsmp_channel mark (octets_of message)

pub tick_has_slot : (a : Acted) → IsSuchSide a.controller.adjacency → a.controller.adjacency.silence < silence_limit
    → length (ticks a).notes.entries ≤ length a.notes.entries → nat_lt 0 (free_slots a.controller) ≡ true
tick_has_slot a such low same = by (nat_lt 0 (free_slots a.controller)) refl
  where
    side : Side Party
    side = a.controller.adjacency

    says_so : Greets (tick_reply side.state (counted side.state side.silence))
    says_so = greets side.state side.silence such.clear low

    step : Step Party
    step = followed_tick side (Says says_so.kind)

    older : Acted
    older = record a { controller = record a.controller { adjacency = step.side } }

    message : Message
    message = Adjacency (greeting_of (said side says_so.kind))

    same_so : length (ticks_with a step).notes.entries ≤ length a.notes.entries
    same_so = subst (λ (reply : Reply). length (ticks_with a (followed_tick side reply)).notes.entries ≤ length a.notes.entries) says_so.is same

    by : (b : Bool) → nat_lt 0 (free_slots a.controller) ≡ b → nat_lt 0 (free_slots a.controller) ≡ true
    by true e = e
    by false e = (let more = rest_grown (suc (length a.notes.entries)) (says_gsmp older message) (omega (arith, says_lost older message e)) in absurd (omega (arith, same_so, more.grown)))

pub switch_tick_has_slot : (a : ActedSwitch) → IsSuchSide a.switch.adjacency → a.switch.adjacency.silence < silence_limit
    → length (tick_comes a).notes.entries ≤ length a.notes.entries → nat_lt 0 (switches.free_slots a.switch) ≡ true
switch_tick_has_slot a such low same = by (nat_lt 0 (switches.free_slots a.switch)) refl
  where
    side : Side Party
    side = a.switch.adjacency

    says_so : Greets (tick_reply side.state (counted side.state side.silence))
    says_so = greets side.state side.silence such.clear low

    step : Step Party
    step = followed_tick side (Says says_so.kind)

    older : ActedSwitch
    older = record a { switch = record a.switch { adjacency = step.side } }

    same_so : length (steps a step).notes.entries ≤ length a.notes.entries
    same_so = subst (λ (reply : Reply). length (steps a (followed_tick side reply)).notes.entries ≤ length a.notes.entries) says_so.is same

    by : (b : Bool) → nat_lt 0 (switches.free_slots a.switch) ≡ b → nat_lt 0 (switches.free_slots a.switch) ≡ true
    by true e = e
    by false e = absurd (omega (arith, same_so, switch_says_lost older (Adjacency (greeting_of (said side says_so.kind))) e))
