-- how long a side of an adjacency was silent: a tick adds one, in Estab alone, and nothing else does

use Rattle.std.proofs.Common.{◌≡◌, ℕ, zero, suc, ◌+◌, ◌<◌, ◌≤◌, false, refl, sym, subst, arith}
use Rattle.world_model.specs.Words.{State, Clearing, SynSent, SynRcvd, Estab, Greeting, Party, Side, Reply, Silent, Says, Resets, fresh, followed_tick, gsmp_received, is_estab, tick_reply, ticked}
use Rattle.world_model.specs.adjacency_table.Side.{counted}
use Rattle.world_model.specs.adjacency_table.Table.{silence_limit}
use Rattle.law_link_parties.proofs.law_run_facts.law_controller_facts.law_port_facts.Keyed.{on_both}

-- *A young side* isn't in Estab, and wasn't silent
pub record IsYoung (side : Side Party) : Type 0 where
  pub closed : is_estab side.state ≡ false
  pub silence : side.silence ≤ 0

-- *Behind so many beats* it was silent for one tick less at most
abbrev pub Age : ℕ → Side Party → Type 0
Age zero side = IsYoung side
Age (suc n) side = side.silence ≤ n

pub begun_young : (own : Party) → IsYoung (fresh SynSent own)
begun_young own = record { closed = refl; silence = omega arith }

-- *A greeting* may end its silence
pub heard_lately : (n : ℕ) (side : Side Party) (greeting : Greeting) → side.silence ≤ n → (gsmp_received side greeting).side.silence ≤ n
heard_lately n side greeting low = by (gsmp_received side greeting).side.silence refl
  where
    by : (silence : ℕ) → (gsmp_received side greeting).side.silence ≡ silence → silence ≤ n
    by silence e = subst (λ (k : ℕ). k ≤ n) e (on_both (λ (k : ℕ). k ≤ n) _ 0 side.silence (omega arith) low)

-- *A tick* adds one at most, and none out of Estab
counted_more : (state : State) (silence : ℕ) → counted state silence ≤ silence + 1
counted_more Clearing silence = omega arith
counted_more SynSent silence = omega arith
counted_more SynRcvd silence = omega arith
counted_more Estab silence = omega arith

counted_closed : (state : State) (silence : ℕ) → is_estab state ≡ false → counted state silence ≡ silence
counted_closed Clearing silence closed = refl
counted_closed SynSent silence closed = refl
counted_closed SynRcvd silence closed = refl
counted_closed Estab silence closed = absurd (cc closed)

ticked_by : (n : ℕ) (side : Side Party) (reply : Reply) → side.silence ≤ n → counted side.state side.silence ≤ n → (followed_tick side reply).side.silence ≤ n
ticked_by n side Silent low more = more
ticked_by n side (Says kind) low more = more
ticked_by n side Resets low more = low

-- *A side of this age* is below the limit, and is older behind its tick
pub record Ages (IsSo : Side Party → Type 0) (n : ℕ) : Type 0 where
  pub less : (side : Side Party) → IsSo side → side.silence < silence_limit
  pub more : (side : Side Party) → IsSo side → side.silence ≤ n
  pub turn : (side : Side Party) → IsSo side → (ticked side).side.silence ≤ n

pub ages : (n : ℕ) → n ≤ 3 → Ages (Age n) n
ages zero few = record {
  less = λ side young. omega (arith, young.silence);
  more = λ side young. young.silence;
  turn = λ side young. ticked_by 0 side (tick_reply side.state (counted side.state side.silence)) young.silence
      (subst (λ (k : ℕ). k ≤ 0) (sym (counted_closed side.state side.silence young.closed)) young.silence);
}
ages (suc n) few = record {
  less = λ side low. omega (arith, few, low);
  more = λ side low. omega (arith, low);
  turn = λ side low. ticked_by (suc n) side (tick_reply side.state (counted side.state side.silence)) (omega (arith, low)) (omega (arith, low, counted_more side.state side.silence));
}
