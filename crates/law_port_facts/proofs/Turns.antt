-- what a message or a tick makes of the side of a port

use Rattle.std.proofs.Common.{◌≡◌, ℕ, Bool, true, false, Option, refl, arith, if◌then◌else◌}
use Rattle.std.specs.Prelude.{nat_lt, ◌+◌}
use Rattle.std.specs.Option.{option_map_or}
use Rattle.std.proofs.lemmas.Bool.Decides.{nat_tests}
use Rattle.port_model.specs.Words.{HelloKind, Ack, Rstack, State, Clearing, SynSent, SynRcvd, Estab, Heard, Silent, Says, Resets, Row, stays, silence_limit, Side, Step, IsSide, is_estab, is_open, followed, received, followed_tick, ticked}
use Rattle.port_model.proofs.adjacency_table.Rows.{Rows, by_row}

-- what follows a message or a tick: the side knows its peer from SynRcvd on; the answer opens exactly on entering
-- Estab; a side in Clearing stays in it
pub record IsTurned {P : Type 0} (before : Side P) (step : Step P) : Type 0 where
  pub side : IsSide step.side
  pub entered : is_open step.answer ≡ true → is_estab step.side.state ≡ true
  pub before_entry : is_open step.answer ≡ true → is_estab before.state ≡ false
  pub stayed : is_open step.answer ≡ false → is_estab step.side.state ≡ is_estab before.state
  pub clearing : before.state ≡ Clearing → step.side.state ≡ Clearing
  pub again : step.side.state ≡ Clearing → before.state ≡ Clearing

module _ {P : Type 0} (a : Side P) (m : Heard P) where
  abbrev in_state : State → Side P
  in_state state = record { state = state; own = a.own; stored = a.stored; silence = a.silence }

  abbrev Follows : State → HelloKind → Bool → Bool → Row → Type 0
  Follows state kind meant known r = IsSide (in_state state) → IsTurned (in_state state) (followed (in_state state) m r)

  quiet : (state : State) (kind : HelloKind) (meant known : Bool) → Follows state kind meant known (stays state Silent)
  quiet Clearing kind meant known h = record { side = record { peer = h.peer; silence = h.silence }; entered = λ e. absurd (cc e); before_entry = λ e. refl; stayed = λ e. refl; clearing = λ e. refl; again = λ e. refl }
  quiet SynSent kind meant known h = record { side = record { peer = h.peer; silence = h.silence }; entered = λ e. absurd (cc e); before_entry = λ e. refl; stayed = λ e. refl; clearing = λ e. absurd (cc e); again = λ e. absurd (cc e) }
  quiet SynRcvd kind meant known h = record { side = record { peer = h.peer; silence = h.silence }; entered = λ e. absurd (cc e); before_entry = λ e. refl; stayed = λ e. refl; clearing = λ e. absurd (cc e); again = λ e. absurd (cc e) }
  quiet Estab kind meant known h = record { side = record { peer = h.peer; silence = h.silence }; entered = λ e. absurd (cc e); before_entry = λ e. absurd (cc e); stayed = λ e. refl; clearing = λ e. absurd (cc e); again = λ e. absurd (cc e) }

  says_stays : (state : State) (kind answer : HelloKind) (meant known : Bool) → Follows state kind meant known (stays state (Says answer))
  says_stays Clearing kind answer meant known h = record { side = record { peer = h.peer; silence = h.silence }; entered = λ e. absurd (cc e); before_entry = λ e. refl; stayed = λ e. refl; clearing = λ e. refl; again = λ e. refl }
  says_stays SynSent kind answer meant known h = record { side = record { peer = h.peer; silence = h.silence }; entered = λ e. absurd (cc e); before_entry = λ e. refl; stayed = λ e. refl; clearing = λ e. absurd (cc e); again = λ e. absurd (cc e) }
  says_stays SynRcvd kind answer meant known h = record { side = record { peer = h.peer; silence = h.silence }; entered = λ e. absurd (cc e); before_entry = λ e. refl; stayed = λ e. refl; clearing = λ e. absurd (cc e); again = λ e. absurd (cc e) }
  says_stays Estab kind answer meant known h = record { side = record { peer = h.peer; silence = h.silence }; entered = λ e. absurd (cc e); before_entry = λ e. absurd (cc e); stayed = λ e. refl; clearing = λ e. absurd (cc e); again = λ e. absurd (cc e) }

  resets_stays : (state : State) (kind : HelloKind) (meant known : Bool) → Follows state kind meant known (stays state Resets)
  resets_stays Clearing kind meant known h = record { side = record { peer = h.peer; silence = h.silence }; entered = λ e. absurd (cc e); before_entry = λ e. refl; stayed = λ e. refl; clearing = λ e. refl; again = λ e. refl }
  resets_stays SynSent kind meant known h = record { side = record { peer = h.peer; silence = h.silence }; entered = λ e. absurd (cc e); before_entry = λ e. refl; stayed = λ e. refl; clearing = λ e. absurd (cc e); again = λ e. absurd (cc e) }
  resets_stays SynRcvd kind meant known h = record { side = record { peer = h.peer; silence = h.silence }; entered = λ e. absurd (cc e); before_entry = λ e. refl; stayed = λ e. refl; clearing = λ e. absurd (cc e); again = λ e. absurd (cc e) }
  resets_stays Estab kind meant known h = record { side = record { peer = h.peer; silence = h.silence }; entered = λ e. absurd (cc e); before_entry = λ e. absurd (cc e); stayed = λ e. refl; clearing = λ e. absurd (cc e); again = λ e. absurd (cc e) }

  rows : Rows Follows
  rows = record {
    quiet = quiet;
    denies = λ state kind meant known. says_stays state kind Rstack meant known;
    confirms = λ kind meant known. says_stays Estab kind Ack meant known;
    stores_first = λ meant known h. record { side = record { peer = refl; silence = h.silence }; entered = λ e. absurd (cc e); before_entry = λ e. refl; stayed = λ e. refl; clearing = λ e. absurd (cc e); again = λ e. absurd (cc e) };
    stores_next = λ meant known h. record { side = record { peer = refl; silence = h.silence }; entered = λ e. absurd (cc e); before_entry = λ e. refl; stayed = λ e. refl; clearing = λ e. absurd (cc e); again = λ e. absurd (cc e) };
    enters_first = λ known h. record { side = record { peer = refl; silence = omega arith }; entered = λ e. refl; before_entry = λ e. refl; stayed = λ e. absurd (cc e); clearing = λ e. absurd (cc e); again = λ e. absurd (cc e) };
    enters_next = λ known h. record { side = record { peer = refl; silence = omega arith }; entered = λ e. refl; before_entry = λ e. refl; stayed = λ e. absurd (cc e); clearing = λ e. absurd (cc e); again = λ e. absurd (cc e) };
    enters_confirmed = λ h. record { side = record { peer = h.peer; silence = omega arith }; entered = λ e. refl; before_entry = λ e. refl; stayed = λ e. absurd (cc e); clearing = λ e. absurd (cc e); again = λ e. absurd (cc e) };
    hears_good = λ h. record { side = record { peer = h.peer; silence = omega arith }; entered = λ e. refl; before_entry = λ e. absurd (cc e); stayed = λ e. refl; clearing = λ e. absurd (cc e); again = λ e. absurd (cc e) };
    resets = resets_stays;
  }

  pub received_turns : (same : P → P → Bool) → IsSide a → IsTurned a (received same a m)
  received_turns same h = by_row Follows rows a.state m.kind (same m.receiver a.own) (option_map_or (same m.sender) a.stored false) h

-- at a tick the state stays, and nothing opens
module _ {P : Type 0} where
  aged : (own : P) (stored : Option P) (silence : ℕ) (state : State) → IsSide (record { state = state; own = own; stored = stored; silence = silence })
      → IsTurned (record { state = state; own = own; stored = stored; silence = silence }) (ticked (record { state = state; own = own; stored = stored; silence = silence }))
  aged own stored silence Clearing h = record { side = record { peer = h.peer; silence = h.silence }; entered = λ e. absurd (cc e); before_entry = λ e. refl; stayed = λ e. refl; clearing = λ e. refl; again = λ e. refl }
  aged own stored silence SynSent h = record { side = record { peer = h.peer; silence = h.silence }; entered = λ e. absurd (cc e); before_entry = λ e. refl; stayed = λ e. refl; clearing = λ e. absurd (cc e); again = λ e. absurd (cc e) }
  aged own stored silence SynRcvd h = record { side = record { peer = h.peer; silence = h.silence }; entered = λ e. absurd (cc e); before_entry = λ e. refl; stayed = λ e. refl; clearing = λ e. absurd (cc e); again = λ e. absurd (cc e) }
  aged own stored silence Estab h = elim (nat_lt silence_limit (silence + 1)) as (λ t. nat_lt silence_limit (silence + 1) ≡ t
      → IsTurned (record { state = Estab; own = own; stored = stored; silence = silence }) (followed_tick (record { state = Estab; own = own; stored = stored; silence = silence }) (if t then Resets else Says Ack))) [
        | true ↦ λ t. record { side = record { peer = h.peer; silence = h.silence }; entered = λ e. absurd (cc e); before_entry = λ e. absurd (cc e); stayed = λ e. refl; clearing = λ e. absurd (cc e); again = λ e. absurd (cc e) }
        | false ↦ λ t. record { side = record { peer = h.peer; silence = grind (arith, nat_tests) }; entered = λ e. absurd (cc e); before_entry = λ e. absurd (cc e); stayed = λ e. refl; clearing = λ e. absurd (cc e); again = λ e. absurd (cc e) }
      ] refl

  pub ticked_turns : (a : Side P) → IsSide a → IsTurned a (ticked a)
  ticked_turns a h = aged a.own a.stored a.silence a.state h
