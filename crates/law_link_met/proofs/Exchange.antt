-- two ports that have met before and behind an exchange have heard each other in it

use Rattle.std.proofs.Common.{◌≡◌, ℕ, ◌+◌, ◌&&◌, ◌==◌, nat_lt, Bool, true, false, [], ◌∷◌, Option, None, Some, inl, refl, sym, subst, arith, if◌then◌else◌}
use Rattle.std.specs.Prelude.{◌≢◌}
use Rattle.std.proofs.lemmas.Bool.{eq-eqb}
use Rattle.world_model.specs.Words.{Peer, Ack, State, Clearing, SynSent, Estab, Side, Step, Says, Resets, fresh, followed_tick, same_peer}
use Rattle.world_model.specs.adjacency_table.Table.{silence_limit}
use Rattle.live_model.specs.Met.{HaveMet}
use Rattle.law_link_woken.specs.law_live_meetings.Exchange.{ifmp, Ends, swapped, side_after, said_in, cleared_state, Exchange, behind, IsAtRest}
use Rattle.law_link_woken.proofs.law_live_meetings.Turns.{pair, Along, flips, rests}
use Rattle.law_link_woken.proofs.law_live_meetings.Greetings.{full, ack, met_again, full_and_begun}

both : (x y : Bool) → x ≡ true → y ≡ true → (x && y) ≡ true
both true y p q = q
both false y p q = absurd (cc p)

pub peer_itself : (x : Peer) → same_peer x x ≡ true
peer_itself x = both (x.instance.0 == x.instance.0) (x.address.0 == x.address.0) (eq-eqb x.instance.0 x.instance.0 refl) (eq-eqb x.address.0 x.address.0 refl)

-- *Each has heard the other* since it ticked
pub record HaveHeard (ends : Ends Peer) : Type 0 where
  pub one : ends.one.side.silence ≡ 0
  pub other : ends.other.side.silence ≡ 0

abbrev pub HeardIfMet : Ends Peer → Type 0
HeardIfMet ends = HaveMet ends.one.side ends.other.side → HaveHeard ends

-- *Where both go on* each hears what the other said at its tick
met_rests : (a b : Peer) → Along ifmp HeardIfMet (pair (full a b 0) [] (full b a 0) [])
met_rests a b = rests ifmp HeardIfMet Estab a (Some b) 0 Estab b (Some a) 0 (λ k k' le le' met. record { one = omega (arith, le); other = omega (arith, le') })

-- *Where one begins anew* they haven't met: of what holds wherever the other end, which began anew, isn't in Estab
module _ (C : Ends Peer → Type 0) (unmet : (ends : Ends Peer) → ends.other.side.state ≢ Estab → C ends) where
  beside_begun : (s : State) (own : Peer) (stored : Option Peer) (n : ℕ) (t : State) (d : Peer) → cleared_state t ≢ Estab
      → Along ifmp C (pair (record { state = s; own = own; stored = stored; silence = n }) [] (fresh t d) [])
  beside_begun s own stored n t d apart = rests ifmp C s own stored n t d None 0 (λ k k' le le'. unmet _ apart)

  other_begins : (a b d : Peer) (n : ℕ) → Along ifmp C (pair (full a b n) [] (fresh Clearing d) (ack a b ∷ []))
  other_begins a b d n = full_and_begun ifmp peer_itself C (inl refl) a b d n (λ own. beside_begun Clearing own None 0 SynSent d (λ e. cc e))
      (beside_begun Estab a (Some b) n Clearing d (λ e. cc e))

-- *As the ticks go*, in each of the four ways
abbrev ticks_so : (a b : Peer) (n : ℕ) → Bool → Step Peer
ticks_so a b n out = followed_tick (full a b n) (if out then Resets else Says Ack)

abbrev both_so : Step Peer → Step Peer → (d d' : Peer) → Ends Peer
both_so step step' d d' = pair (side_after (fresh Clearing d) step.answer step.side) (said_in step'.answer) (side_after (fresh Clearing d') step'.answer step'.side) (said_in step.answer)

by_ticks : (a b : Peer) (n m : ℕ) (out out' : Bool) (d d' : Peer) → Along ifmp HeardIfMet (both_so (ticks_so a b n out) (ticks_so b a m out') d d')
by_ticks a b n m false false d d' = met_again ifmp peer_itself HeardIfMet a b (n + 1) (m + 1) (met_rests a b)
by_ticks a b n m false true d d' = other_begins HeardIfMet (λ ends apart met. absurd (apart met.other_is_up)) a b d' (n + 1)
by_ticks a b n m true false d d' = flips ifmp HeardIfMet (pair (fresh Clearing d) (ack b a ∷ []) (full b a (m + 1)) [])
    (other_begins (λ e. HeardIfMet (swapped e)) (λ ends apart met. absurd (apart met.one_is_up)) b a d (m + 1))
by_ticks a b n m true true d d' = beside_begun HeardIfMet (λ ends apart met. absurd (apart met.other_is_up)) Clearing d None 0 Clearing d' (λ e. cc e)

fulls_hear : (a b : Peer) (n m : ℕ) (exchange : Exchange Peer) → IsAtRest (behind ifmp (pair (full a b n) [] (full b a m) []) exchange)
    → HeardIfMet (behind ifmp (pair (full a b n) [] (full b a m) []) exchange)
fulls_hear a b n m exchange =
    by_ticks a b n m (nat_lt silence_limit (n + 1)) (nat_lt silence_limit (m + 1)) exchange.drawn_by_one exchange.drawn_by_other exchange.then_come

-- *Two sides that have met* are in Estab, each with the other stored
pub met_full : (side far : Side Peer) → side.state ≡ Estab → side.stored ≡ Some far.own → side ≡ full side.own far.own side.silence
met_full side far up knows = λ i. record { state = up i; own = side.own; stored = knows i; silence = side.silence }

pub heard_in_exchange : (side far : Side Peer) → HaveMet side far → (exchange : Exchange Peer) → IsAtRest (behind ifmp (pair side [] far []) exchange)
    → HeardIfMet (behind ifmp (pair side [] far []) exchange)
heard_in_exchange side far met exchange =
    let a : Side Peer = full side.own far.own side.silence in
    let b : Side Peer = full far.own side.own far.silence in
    subst (λ (s : Side Peer). IsAtRest (behind ifmp (pair s [] far []) exchange) → HeardIfMet (behind ifmp (pair s [] far []) exchange)) (sym (met_full side far met.one_is_up met.one_knows))
    (subst (λ (s : Side Peer). IsAtRest (behind ifmp (pair a [] s []) exchange) → HeardIfMet (behind ifmp (pair a [] s []) exchange)) (sym (met_full far side met.other_is_up met.other_knows))
    (fulls_hear side.own far.own side.silence far.silence exchange))
