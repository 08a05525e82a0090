-- four exchanges are enough, from any two states

use Rattle.std.proofs.Common.{◌≡◌, ℕ, ◌≤◌, true, List, [], ◌∷◌, fold, length, Option, None, Some, is_some, refl, sym, subst, arith}
use Rattle.std.specs.Prelude.{◌≢◌}
use Rattle.live_model.specs.world_model.Words.{State, Clearing, SynSent, SynRcvd, Estab, Side, knows_peer}
use Rattle.live_model.specs.Met.{HaveMet}
use Rattle.law_live_meetings.specs.Exchange.{Protocol, Ends, swapped, Exchange, behind, IsAtRest}
use Rattle.law_live_meetings.specs.Law.{ComeToRest, EndsComeToMeet, StrangersComeToMeet}
use Rattle.law_live_meetings.proofs.Turns.{pair}
use Rattle.law_live_meetings.proofs.Greetings.{young, half, full, IsFirst}
use Rattle.law_live_meetings.proofs.Levels.{Next, flip_next, Known, known, unknown, is_known, young_next, young_half_next, halves_next, strangers_next, young_full_next, half_full_next, met_next, fulls_next}
use Rattle.law_live_meetings.proofs.Knowing.{BothKnow, exchange_keeps}

module _ {P : Type 0} (protocol : Protocol P) (itself : (x : P) → protocol.same x x ≡ true) (is_one : (x y : P) → protocol.same x y ≡ true → x ≡ y)
    (begins : IsFirst protocol.first) where
  -- *From now on* they have met
  record StillMet (ends : Ends P) : Type 0 where
    one : P
    other : P
    n : ℕ
    m : ℕ
    one_lately : n ≤ 2
    other_lately : m ≤ 2
    are : ends ≡ pair (full one other n) [] (full other one m) []

  still_met : (a b : P) (n m : ℕ) → n ≤ 2 → m ≤ 2 → StillMet (pair (full a b n) [] (full b a m) [])
  still_met a b n m le le' = record { one = a; other = b; n = n; m = m; one_lately = le; other_lately = le'; are = refl }

  still_next : (ends : Ends P) → StillMet ends → Next protocol StillMet ends
  still_next ends s = subst (λ (e : Ends P). Next protocol StillMet e) (sym s.are)
      (met_next protocol itself is_one begins StillMet still_met s.one s.other s.n s.m s.one_lately s.other_lately)

  abbrev AlwaysMet : Ends P → Type 0
  AlwaysMet ends = (exchanges : List (Exchange P)) → ComeToRest protocol ends exchanges
      → HaveMet (fold (behind protocol) ends exchanges).one.side (fold (behind protocol) ends exchanges).other.side

  always : (exchanges : List (Exchange P)) (ends : Ends P) → StillMet ends → ComeToRest protocol ends exchanges
      → HaveMet (fold (behind protocol) ends exchanges).one.side (fold (behind protocol) ends exchanges).other.side
  always [] ends s r = subst (λ (e : Ends P). HaveMet e.one.side e.other.side) (sym s.are) (record { one_is_up = refl; other_is_up = refl; one_knows = refl; other_knows = refl })
  always (e ∷ es) ends s r = always es (behind protocol ends e) (still_next ends s e r.0) r.1

  abbrev InOne : Ends P → Type 0
  InOne = Next protocol AlwaysMet

  abbrev InTwo : Ends P → Type 0
  InTwo = Next protocol InOne

  abbrev InThree : Ends P → Type 0
  InThree = Next protocol InTwo

  abbrev InFour : Ends P → Type 0
  InFour = Next protocol InThree

  one_later : (ends : Ends P) → AlwaysMet ends → InOne ends
  one_later ends h e r es rs = h (e ∷ es) (r, rs)

  later : (C D : Ends P → Type 0) → ((ends : Ends P) → C ends → D ends) → (ends : Ends P) → Next protocol C ends → Next protocol D ends
  later C D f ends h e r = f (behind protocol ends e) (h e r)

  two_later : (ends : Ends P) → InOne ends → InTwo ends
  two_later = later AlwaysMet InOne one_later

  three_later : (ends : Ends P) → InTwo ends → InThree ends
  three_later = later InOne InTwo two_later

  four_later : (ends : Ends P) → InThree ends → InFour ends
  four_later = later InTwo InThree three_later

  -- *None*
  met0 : (a b : P) (n m : ℕ) → n ≤ 2 → m ≤ 2 → AlwaysMet (pair (full a b n) [] (full b a m) [])
  met0 a b n m le le' es r = always es (pair (full a b n) [] (full b a m) []) (still_met a b n m le le') r

  -- *One*: where neither is in Estab, and one of them knows nobody or its peer
  met1 : (a b : P) (n m : ℕ) → n ≤ 2 → m ≤ 2 → InOne (pair (full a b n) [] (full b a m) [])
  met1 a b n m le le' = one_later (pair (full a b n) [] (full b a m) []) (met0 a b n m le le')

  young1 : (a b : P) (n m : ℕ) → InOne (pair (young a n) [] (young b m) [])
  young1 = young_next protocol itself is_one begins AlwaysMet met0

  young_half1 : (a b y : P) (n m : ℕ) → InOne (pair (young a n) [] (half b y m) [])
  young_half1 = young_half_next protocol itself is_one begins AlwaysMet met0

  half_young1 : (a y b : P) (n m : ℕ) → InOne (pair (half a y n) [] (young b m) [])
  half_young1 a y b n m = flip_next protocol AlwaysMet (pair (half a y n) [] (young b m) [])
      (young_half_next protocol itself is_one begins (λ e. AlwaysMet (swapped e)) (λ c d k l le le'. met0 d c l k le' le) b a y m n)

  known_half1 : (a b y : P) (n m : ℕ) → InOne (pair (half a y n) [] (half b a m) [])
  known_half1 = halves_next protocol itself is_one begins AlwaysMet met0

  half_known1 : (a b x : P) (n m : ℕ) → InOne (pair (half a b n) [] (half b x m) [])
  half_known1 a b x n m = flip_next protocol AlwaysMet (pair (half a b n) [] (half b x m) [])
      (halves_next protocol itself is_one begins (λ e. AlwaysMet (swapped e)) (λ c d k l le le'. met0 d c l k le' le) b a x m n)

  -- *Two*: where neither is in Estab, or the other one knows nobody
  met2 : (a b : P) (n m : ℕ) → n ≤ 2 → m ≤ 2 → InTwo (pair (full a b n) [] (full b a m) [])
  met2 a b n m le le' = two_later (pair (full a b n) [] (full b a m) []) (met1 a b n m le le')

  young2 : (a b : P) (n m : ℕ) → InTwo (pair (young a n) [] (young b m) [])
  young2 a b n m = two_later (pair (young a n) [] (young b m) []) (young1 a b n m)

  halves2 : (a y b x : P) (n m : ℕ) → InTwo (pair (half a y n) [] (half b x m) [])
  halves2 a y b x n m = by (is_known protocol itself is_one begins x a) (is_known protocol itself is_one begins y b)
    where
      by : Known protocol itself is_one begins x a → Known protocol itself is_one begins y b → InTwo (pair (half a y n) [] (half b x m) [])
      by (known e) k = subst (λ (w : P). InTwo (pair (half a y n) [] (half b w m) [])) (sym e) (two_later (pair (half a y n) [] (half b a m) []) (known_half1 a b y n m))
      by (unknown e f) (known g) = subst (λ (z : P). InTwo (pair (half a z n) [] (half b x m) [])) (sym g) (two_later (pair (half a b n) [] (half b x m) []) (half_known1 a b x n m))
      by (unknown e f) (unknown g h) = strangers_next protocol itself is_one begins InOne young1 a y b x n m e g

  young_full2 : (a b x : P) (n m : ℕ) → InTwo (pair (young a n) [] (full b x m) [])
  young_full2 = young_full_next protocol itself is_one begins InOne met1 young1

  full_young2 : (a y b : P) (n m : ℕ) → InTwo (pair (full a y n) [] (young b m) [])
  full_young2 a y b n m = flip_next protocol InOne (pair (full a y n) [] (young b m) [])
      (young_full_next protocol itself is_one begins (λ e. InOne (swapped e)) (λ c d k l le le'. met1 d c l k le' le) (λ c d k l. young1 d c l k) b a y m n)

  -- *Three*: both are in Estab
  fulls3 : (a y b x : P) (n m : ℕ) → InThree (pair (full a y n) [] (full b x m) [])
  fulls3 = fulls_next protocol itself is_one begins InTwo met2 young2 full_young2 (λ c d k l. young2 d c l k) (λ c z d k l. young_full2 d c z l k)

  met3 : (a b : P) (n m : ℕ) → n ≤ 2 → m ≤ 2 → InThree (pair (full a b n) [] (full b a m) [])
  met3 a b n m le le' = fulls3 a b b a n m

  young3 : (a b : P) (n m : ℕ) → InThree (pair (young a n) [] (young b m) [])
  young3 a b n m = three_later (pair (young a n) [] (young b m) []) (young2 a b n m)

  half_young3 : (a y b : P) (n m : ℕ) → InThree (pair (half a y n) [] (young b m) [])
  half_young3 a y b n m = three_later (pair (half a y n) [] (young b m) []) (two_later (pair (half a y n) [] (young b m) []) (half_young1 a y b n m))

  young_half3 : (a b y : P) (n m : ℕ) → InThree (pair (young a n) [] (half b y m) [])
  young_half3 a b y n m = three_later (pair (young a n) [] (half b y m) []) (two_later (pair (young a n) [] (half b y m) []) (young_half1 a b y n m))

  -- *Four*: one is in Estab, and the other one has stored a peer
  half_full4 : (a y b x : P) (n m : ℕ) → InFour (pair (half a y n) [] (full b x m) [])
  half_full4 = half_full_next protocol itself is_one begins InThree met3 young3 half_young3 fulls3

  full_half4 : (a y b x : P) (n m : ℕ) → InFour (pair (full a y n) [] (half b x m) [])
  full_half4 a y b x n m = flip_next protocol InThree (pair (full a y n) [] (half b x m) [])
      (half_full_next protocol itself is_one begins (λ e. InThree (swapped e)) (λ c d k l le le'. met3 d c l k le' le) (λ c d k l. young3 d c l k)
      (λ c z d k l. young_half3 d c z l k) (λ c z d w k l. fulls3 d w c z l k) b x a y m n)

  -- *Any two sides* that wait for no port
  data Shape (a : Side P) : Type 0 where
    is_young : (own : P) (n : ℕ) → a ≡ young own n → Shape a
    is_half : (own stored : P) (n : ℕ) → a ≡ half own stored n → Shape a
    is_full : (own stored : P) (n : ℕ) → a ≡ full own stored n → Shape a

  shape_of : (s : State) (own : P) (stored : Option P) (n : ℕ) → is_some stored ≡ knows_peer s → s ≢ Clearing → Shape (record { state = s; own = own; stored = stored; silence = n })
  shape_of Clearing own stored n k up = absurd (up refl)
  shape_of SynSent own None n k up = is_young own n refl
  shape_of SynSent own (Some y) n k up = absurd (cc k)
  shape_of SynRcvd own None n k up = absurd (cc k)
  shape_of SynRcvd own (Some y) n k up = is_half own y n refl
  shape_of Estab own None n k up = absurd (cc k)
  shape_of Estab own (Some y) n k up = is_full own y n refl

  as_pair : (a b c d : Side P) → a ≡ c → b ≡ d → InFour (pair c [] d []) → InFour (pair a [] b [])
  as_pair a b c d e f h = subst (λ (s : Side P). InFour (pair s [] b [])) (sym e) (subst (λ (s : Side P). InFour (pair c [] s [])) (sym f) h)

  each : (a b : Side P) → Shape a → Shape b → InFour (pair a [] b [])
  each a b (is_young own n e) (is_young own' n' f) = as_pair a b (young own n) (young own' n') e f
      (four_later (pair (young own n) [] (young own' n') []) (young3 own own' n n'))
  each a b (is_young own n e) (is_half own' y' n' f) = as_pair a b (young own n) (half own' y' n') e f
      (four_later (pair (young own n) [] (half own' y' n') []) (young_half3 own own' y' n n'))
  each a b (is_young own n e) (is_full own' y' n' f) = as_pair a b (young own n) (full own' y' n') e f
      (four_later (pair (young own n) [] (full own' y' n') []) (three_later (pair (young own n) [] (full own' y' n') []) (young_full2 own own' y' n n')))
  each a b (is_half own y n e) (is_young own' n' f) = as_pair a b (half own y n) (young own' n') e f
      (four_later (pair (half own y n) [] (young own' n') []) (half_young3 own y own' n n'))
  each a b (is_half own y n e) (is_half own' y' n' f) = as_pair a b (half own y n) (half own' y' n') e f
      (four_later (pair (half own y n) [] (half own' y' n') []) (three_later (pair (half own y n) [] (half own' y' n') []) (halves2 own y own' y' n n')))
  each a b (is_half own y n e) (is_full own' y' n' f) = as_pair a b (half own y n) (full own' y' n') e f (half_full4 own y own' y' n n')
  each a b (is_full own y n e) (is_young own' n' f) = as_pair a b (full own y n) (young own' n') e f
      (four_later (pair (full own y n) [] (young own' n') []) (three_later (pair (full own y n) [] (young own' n') []) (full_young2 own y own' n n')))
  each a b (is_full own y n e) (is_half own' y' n' f) = as_pair a b (full own y n) (half own' y' n') e f (full_half4 own y own' y' n n')
  each a b (is_full own y n e) (is_full own' y' n' f) = as_pair a b (full own y n) (full own' y' n') e f
      (four_later (pair (full own y n) [] (full own' y' n') []) (fulls3 own y own' y' n n'))

  any_ends : (ends : Ends P) → BothKnow ends → IsAtRest ends → InFour ends
  any_ends ends k r =
      let a : Side P = ends.one.side in
      let b : Side P = ends.other.side in
      subst InFour (λ i. pair a (sym r.one_has_heard i) b (sym r.other_has_heard i))
      (each a b (shape_of a.state a.own a.stored a.silence k.one r.one_is_clear) (shape_of b.state b.own b.stored b.silence k.other r.other_is_clear))

  -- *Four exchanges or more*
  behind_four : (ends : Ends P) (exchanges : List (Exchange P)) → InFour ends → ComeToRest protocol ends exchanges → 4 ≤ length exchanges
      → HaveMet (fold (behind protocol) ends exchanges).one.side (fold (behind protocol) ends exchanges).other.side
  behind_four ends [] h r long = absurd (omega (arith, long))
  behind_four ends (e ∷ []) h r long = absurd (omega (arith, long))
  behind_four ends (e ∷ f ∷ []) h r long = absurd (omega (arith, long))
  behind_four ends (e ∷ f ∷ g ∷ []) h r long = absurd (omega (arith, long))
  behind_four ends (e ∷ f ∷ g ∷ k ∷ es) h r long = h e r.0 f r.1.0 g r.1.1.0 k r.1.1.1.0 es r.1.1.1.1

  pub ends_meet : EndsComeToMeet protocol
  ends_meet ends exchanges one other rest runs long = behind_four ends exchanges (any_ends ends (record { one = one.peer; other = other.peer }) rest) runs long

  pub strangers_meet : StrangersComeToMeet protocol
  strangers_meet ends [] one other runs long = absurd (omega (arith, long))
  strangers_meet ends (e ∷ es) one other runs long = behind_four (behind protocol ends e) es
      (any_ends (behind protocol ends e) (exchange_keeps protocol begins ends e (record { one = one.peer; other = other.peer })) runs.0) runs.1 (omega (arith, long))
