-- how many exchanges it takes at most, from each pair of states

use Rattle.std.proofs.Common.{◌≡◌, ℕ, ◌+◌, ◌≤◌, ◌&&◌, Bool, true, false, nat_lt, [], ◌∷◌, ◌⊎◌, inl, inr, Option, None, Some, refl, sym, subst, ap, arith, if◌then◌else◌}
use Rattle.live_model.specs.world_model.Words.{Ack, State, Clearing, SynSent, SynRcvd, Estab, Send, Side, Step, Says, Resets, enters_by_ack, stays, Rstack, followed_tick, fresh, ticked}
use Rattle.live_model.specs.world_model.adjacency_table.Table.{silence_limit}
use Rattle.live_model.specs.world_model.adjacency_table.declared.message.Answer.TheVariants.{Reset}
use Rattle.law_live_meetings.specs.Exchange.{Protocol, Ends, swapped, side_after, said_in, cleared_state, Exchange, both_tick, behind, IsAtRest}
use Rattle.law_live_meetings.proofs.Turns.{pair, Along, flips, rests, still}
use Rattle.law_live_meetings.proofs.Greetings.{young, half, full, syn, synack, ack, if_not_first, if_not_second, IsFirst, by_first, met_again, halves_meet, young_meet, known_meet, unknown_meet, half_meet, confirmed_meet, halves_begin, fulls_begin, full_begins_by_young, full_begins_by_half, young_and_begun, half_and_begun, full_and_begun}

module _ {P : Type 0} (protocol : Protocol P) where
  -- *Behind one exchange more*
  abbrev pub Next : (C : Ends P → Type 0) → Ends P → Type 0
  Next C ends = (exchange : Exchange P) → IsAtRest (behind protocol ends exchange) → C (behind protocol ends exchange)

  pub flip_next : (C : Ends P → Type 0) (ends : Ends P) → Next (λ e. C (swapped e)) (swapped ends) → Next C ends
  flip_next C ends holds exchange = flips protocol C (both_tick protocol ends exchange.drawn_by_one exchange.drawn_by_other)
      (λ ts. holds (record { drawn_by_one = exchange.drawn_by_other; drawn_by_other = exchange.drawn_by_one; then_come = ts })) exchange.then_come

  -- both have ticked, as the steps say
  abbrev ticking : Step P → Step P → (d d' : P) → Ends P
  ticking step step' d d' = pair (side_after (fresh protocol.first d) step.answer step.side) (said_in step'.answer)
      (side_after (fresh protocol.first d') step'.answer step'.side) (said_in step.answer)

  next_by : (C : Ends P → Type 0) (a b : Side P) (step step' : Step P) → ticked a ≡ step → ticked b ≡ step'
      → ((d d' : P) → Along protocol C (ticking step step' d d')) → Next C (pair a [] b [])
  next_by C a b step step' is is' holds exchange =
      subst (λ (s : Step P). Along protocol C (ticking s (ticked b) exchange.drawn_by_one exchange.drawn_by_other)) (sym is)
      (subst (λ (s : Step P). Along protocol C (ticking step s exchange.drawn_by_one exchange.drawn_by_other)) (sym is')
      (holds exchange.drawn_by_one exchange.drawn_by_other)) exchange.then_come

  -- *A tick in Estab* goes on, or finds the silence too long
  abbrev goes_on : (a y : P) (n : ℕ) → Step P
  goes_on a y n = record { side = full a y (n + 1); answer = Send (ack a y) }

  abbrev goes_out : (a y : P) (n : ℕ) → Step P
  goes_out a y n = record { side = full a y n; answer = Reset }

  ticks_by : (a y : P) (n : ℕ) (b : Bool) → nat_lt silence_limit (n + 1) ≡ b → ticked (full a y n) ≡ followed_tick (full a y n) (if b then Resets else Says Ack)
  ticks_by a y n b e = ap (λ (c : Bool). followed_tick (full a y n) (if c then Resets else Says Ack)) e

  data Ticks (a y : P) (n : ℕ) : Type 0 where
    on : ticked (full a y n) ≡ goes_on a y n → Ticks a y n
    out : ticked (full a y n) ≡ goes_out a y n → Ticks a y n

  how_it_ticks : (a y : P) (n : ℕ) → Ticks a y n
  how_it_ticks a y n = by (nat_lt silence_limit (n + 1)) refl
    where
      by : (b : Bool) → nat_lt silence_limit (n + 1) ≡ b → Ticks a y n
      by true e = out (ticks_by a y n true e)
      by false e = on (ticks_by a y n false e)

  heard_lately : (n : ℕ) → n ≤ 2 → nat_lt silence_limit (n + 1) ≡ false
  heard_lately n le = grind arith

  module _ (itself : (x : P) → protocol.same x x ≡ true) (is_one : (x y : P) → protocol.same x y ≡ true → x ≡ y) (begins : IsFirst protocol.first) where
    -- *Two parties are one, or not*
    pub data Known (x y : P) : Type 0 where
      known : x ≡ y → Known x y
      unknown : protocol.same x y ≡ false → protocol.same y x ≡ false → Known x y

    unlike : (x y : P) → protocol.same x y ≡ false → (b : Bool) → protocol.same y x ≡ b → protocol.same y x ≡ false
    unlike x y e true f = absurd (cc (subst (λ (z : P). protocol.same x z ≡ false) (is_one y x f) e, itself x))
    unlike x y e false f = f

    pub is_known : (x y : P) → Known x y
    is_known x y = by (protocol.same x y) refl
      where
        by : (b : Bool) → protocol.same x y ≡ b → Known x y
        by true e = known (is_one x y e)
        by false e = unknown e (unlike x y e (protocol.same y x) refl)

    test_of : (x y : P) → Known x y → (x ≡ y) ⊎ (protocol.same x y ≡ false)
    test_of x y (known e) = inl e
    test_of x y (unknown e f) = inr e

    -- *What C holds of* at rest: two that have met and heard one another lately, and sides that have begun anew
    module _ (C : Ends P → Type 0) where
      abbrev pub HoldsOfMet : Type 0
      HoldsOfMet = (a b : P) (n m : ℕ) → n ≤ 2 → m ≤ 2 → C (pair (full a b n) [] (full b a m) [])

      abbrev pub HoldsOfYoung : Type 0
      HoldsOfYoung = (a b : P) (n m : ℕ) → C (pair (young a n) [] (young b m) [])

      abbrev pub HoldsOfHalf : Type 0
      HoldsOfHalf = (a y b : P) (n m : ℕ) → C (pair (half a y n) [] (young b m) [])

      abbrev pub HoldsOfFull : Type 0
      HoldsOfFull = (a y b : P) (n m : ℕ) → C (pair (full a y n) [] (young b m) [])

      abbrev pub HoldsOfFulls : Type 0
      HoldsOfFulls = (a y b x : P) (n m : ℕ) → C (pair (full a y n) [] (full b x m) [])

      pub met_at_rest : HoldsOfMet → (a b : P) → Along protocol C (pair (full a b 0) [] (full b a 0) [])
      met_at_rest met a b = rests protocol C Estab a (Some b) 0 Estab b (Some a) 0 (λ k k' le le'. met a b k k' (omega (arith, le)) (omega (arith, le')))

      -- a side, and one that began anew
      begun_at_rest : (s : State) (own : P) (stored : Option P) (n : ℕ) → ((d : P) (k k' : ℕ) → C (pair (still protocol C (cleared_state s) own stored k) [] (young d k') []))
          → (state : State) → IsFirst state → (d : P) → Along protocol C (pair (still protocol C s own stored n) [] (fresh state d) [])
      begun_at_rest s own stored n holds state is d = by_first (λ t. Along protocol C (pair (still protocol C s own stored n) [] (fresh t d) [])) state is
          (rests protocol C s own stored n Clearing d None 0 (λ k k' le le'. holds d k k'))
          (rests protocol C s own stored n SynSent d None 0 (λ k k' le le'. holds d k k'))

      both_begun : HoldsOfYoung → (state : State) → IsFirst state → (state' : State) → IsFirst state' → (d d' : P) → Along protocol C (pair (fresh state d) [] (fresh state' d') [])
      both_begun ofyoung state is state' is' d d' = by_first (λ t. Along protocol C (pair (fresh t d) [] (fresh state' d') [])) state is
          (begun_at_rest Clearing d None 0 (λ e k k'. ofyoung d e k k') state' is' d') (begun_at_rest SynSent d None 0 (λ e k k'. ofyoung d e k k') state' is' d')

      -- *Neither is in Estab*
      pub young_next : HoldsOfMet → (a b : P) (n m : ℕ) → Next C (pair (young a n) [] (young b m) [])
      young_next met a b n m = next_by C (young a n) (young b m) (record { side = young a n; answer = Send (syn a) }) (record { side = young b m; answer = Send (syn b) }) refl refl
          (λ d d'. young_meet protocol itself C a b n m (met_at_rest met a b))

      pub young_half_next : HoldsOfMet → (a b y : P) (n m : ℕ) → Next C (pair (young a n) [] (half b y m) [])
      young_half_next met a b y n m = next_by C (young a n) (half b y m) (record { side = young a n; answer = Send (syn a) }) (record { side = half b y m; answer = Send (synack b y) }) refl refl
          (λ d d'. by (is_known y a))
        where
          by : Known y a → Along protocol C (pair (young a n) (synack b y ∷ []) (half b y m) (syn a ∷ []))
          by (known e) = subst (λ (z : P). Along protocol C (pair (young a n) (synack b z ∷ []) (half b z m) (syn a ∷ []))) (sym e) (known_meet protocol itself C a b n m (met_at_rest met a b))
          by (unknown e f) = unknown_meet protocol itself C a b y n m e (met_at_rest met a b)

      pub halves_next : HoldsOfMet → (a b y : P) (n m : ℕ) → Next C (pair (half a y n) [] (half b a m) [])
      halves_next met a b y n m = next_by C (half a y n) (half b a m) (record { side = half a y n; answer = Send (synack a y) }) (record { side = half b a m; answer = Send (synack b a) }) refl refl
          (λ d d'. by (is_known y b))
        where
          by : Known y b → Along protocol C (pair (half a y n) (synack b a ∷ []) (half b a m) (synack a y ∷ []))
          by (known e) = subst (λ (z : P). Along protocol C (pair (half a z n) (synack b a ∷ []) (half b a m) (synack a z ∷ []))) (sym e) (halves_meet protocol itself C a b n m (met_at_rest met a b))
          by (unknown e f) = half_meet protocol itself C a b y n m e (met_at_rest met a b)

      pub strangers_next : HoldsOfYoung → (a y b x : P) (n m : ℕ) → protocol.same x a ≡ false → protocol.same y b ≡ false → Next C (pair (half a y n) [] (half b x m) [])
      strangers_next ofyoung a y b x n m e f = next_by C (half a y n) (half b x m) (record { side = half a y n; answer = Send (synack a y) }) (record { side = half b x m; answer = Send (synack b x) }) refl refl
          (λ d d'. halves_begin protocol itself C a y b x n m e f (both_begun ofyoung protocol.first begins protocol.first begins))

      -- *One is in Estab*
      pub young_full_next : HoldsOfMet → HoldsOfYoung → (a b x : P) (n m : ℕ) → Next C (pair (young a n) [] (full b x m) [])
      young_full_next met ofyoung a b x n m = by (how_it_ticks b x m)
        where
          begun : (state : State) → IsFirst state → (d : P) → Along protocol C (pair (young a n) [] (fresh state d) [])
          begun = begun_at_rest SynSent a None n (λ d k k'. ofyoung a d k k')

          by : Ticks b x m → Next C (pair (young a n) [] (full b x m) [])
          by (on is) = next_by C (young a n) (full b x m) (record { side = young a n; answer = Send (syn a) }) (goes_on b x m) refl is
              (λ d d'. full_begins_by_young protocol itself C begins a b x n (m + 1) begun)
          by (out is) = next_by C (young a n) (full b x m) (record { side = young a n; answer = Send (syn a) }) (goes_out b x m) refl is
              (λ d d'. young_and_begun protocol itself C begins a d' n (met_at_rest met a d') (begun Clearing (inl refl) d'))

      -- an ACK that isn't good
      abbrev Strays : State → (own stored sender receiver : P) → Type 0
      Strays state own stored sender receiver =
          (if protocol.same receiver own && protocol.same sender stored then enters_by_ack else stays state (Says Rstack)) ≡ stays state (Says Rstack)

      strays_by_receiver : (state : State) (own stored sender receiver : P) → protocol.same receiver own ≡ false → Strays state own stored sender receiver
      strays_by_receiver state own stored sender receiver e = if_not_first (protocol.same receiver own) (protocol.same sender stored) enters_by_ack (stays state (Says Rstack)) e

      strays_by_sender : (state : State) (own stored sender receiver : P) → protocol.same sender stored ≡ false → Strays state own stored sender receiver
      strays_by_sender state own stored sender receiver e = if_not_second (protocol.same receiver own) (protocol.same sender stored) enters_by_ack (stays state (Says Rstack)) e

      -- as the other one in Estab goes on: it begins anew, or they meet, with its silence as it is
      half_full_on : HoldsOfHalf → (a y b x : P) (n m : ℕ) → ticked (full b x m) ≡ goes_on b x m → Strays SynRcvd a y b x → Next C (pair (half a y n) [] (full b x m) [])
      half_full_on ofhalf a y b x n m is strays = next_by C (half a y n) (full b x m) (record { side = half a y n; answer = Send (synack a y) }) (goes_on b x m) refl is
          (λ d d'. full_begins_by_half protocol itself C begins a y b x n (m + 1) strays
          (begun_at_rest SynRcvd a (Some y) n (λ e k k'. ofhalf a y e k k')))

      half_full_meet : HoldsOfFulls → (a b : P) (n m : ℕ) → ticked (full b a m) ≡ goes_on b a m → Next C (pair (half a b n) [] (full b a m) [])
      half_full_meet offulls a b n m is = next_by C (half a b n) (full b a m) (record { side = half a b n; answer = Send (synack a b) }) (goes_on b a m) refl is
          (λ d d'. confirmed_meet protocol itself C a b n (m + 1) (rests protocol C Estab a (Some b) 0 Estab b (Some a) (m + 1) (λ k k' le le'. offulls a b b a k k')))

      half_full_out : HoldsOfMet → HoldsOfYoung → HoldsOfHalf → (a y b x : P) (n m : ℕ) → ticked (full b x m) ≡ goes_out b x m → Next C (pair (half a y n) [] (full b x m) [])
      half_full_out met ofyoung ofhalf a y b x n m is = next_by C (half a y n) (full b x m) (record { side = half a y n; answer = Send (synack a y) }) (goes_out b x m) refl is
          (λ d d'. half_and_begun protocol itself C begins a y d' n (test_of y d' (is_known y d')) (met_at_rest met a d')
          (λ own. both_begun ofyoung protocol.first begins SynSent (inr refl) own d')
          (begun_at_rest SynRcvd a (Some y) n (λ e k k'. ofhalf a y e k k') Clearing (inl refl) d'))

      pub half_full_next : HoldsOfMet → HoldsOfYoung → HoldsOfHalf → HoldsOfFulls → (a y b x : P) (n m : ℕ) → Next C (pair (half a y n) [] (full b x m) [])
      half_full_next met ofyoung ofhalf offulls a y b x n m = by (how_it_ticks b x m)
        where
          meet : x ≡ a → y ≡ b → ticked (full b x m) ≡ goes_on b x m → Next C (pair (half a y n) [] (full b x m) [])
          meet e f = subst (λ (w : P). ticked (full b w m) ≡ goes_on b w m → Next C (pair (half a y n) [] (full b w m) [])) (sym e)
              (subst (λ (z : P). ticked (full b a m) ≡ goes_on b a m → Next C (pair (half a z n) [] (full b a m) [])) (sym f) (half_full_meet offulls a b n m))

          by_names : ticked (full b x m) ≡ goes_on b x m → Known x a → Known y b → Next C (pair (half a y n) [] (full b x m) [])
          by_names is (known e) (known f) = meet e f is
          by_names is (known e) (unknown f g) = half_full_on ofhalf a y b x n m is (strays_by_sender SynRcvd a y b x g)
          by_names is (unknown e g) k = half_full_on ofhalf a y b x n m is (strays_by_receiver SynRcvd a y b x e)

          by : Ticks b x m → Next C (pair (half a y n) [] (full b x m) [])
          by (on is) = by_names is (is_known x a) (is_known y b)
          by (out is) = half_full_out met ofyoung ofhalf a y b x n m is

      -- *Both are in Estab*
      fulls_on : HoldsOfMet → HoldsOfYoung → (a y b x : P) (n m : ℕ) → ticked (full a y n) ≡ goes_on a y n → ticked (full b x m) ≡ goes_on b x m
          → Next C (pair (full a y n) [] (full b x m) [])
      fulls_on met ofyoung a y b x n m is is' = next_by C (full a y n) (full b x m) (goes_on a y n) (goes_on b x m) is is' (λ d d'. by (is_known x a) (is_known y b))
        where
          Behind : P → P → Type 0
          Behind z w = Along protocol C (pair (full a z (n + 1)) (ack b w ∷ []) (full b w (m + 1)) (ack a z ∷ []))

          begin : Strays Estab a y b x → Strays Estab b x a y → Along protocol C (pair (full a y (n + 1)) (ack b x ∷ []) (full b x (m + 1)) (ack a y ∷ []))
          begin e f = fulls_begin protocol itself C a y b x (n + 1) (m + 1) e f (both_begun ofyoung protocol.first begins protocol.first begins)

          by : Known x a → Known y b → Along protocol C (pair (full a y (n + 1)) (ack b x ∷ []) (full b x (m + 1)) (ack a y ∷ []))
          by (known e) (known f) =
              subst (λ (w : P). Along protocol C (pair (full a y (n + 1)) (ack b w ∷ []) (full b w (m + 1)) (ack a y ∷ []))) (sym e)
              (subst (λ (z : P). Along protocol C (pair (full a z (n + 1)) (ack b a ∷ []) (full b a (m + 1)) (ack a z ∷ []))) (sym f)
              (met_again protocol itself C a b (n + 1) (m + 1) (met_at_rest met a b)))
          by (known e) (unknown f g) = begin (strays_by_sender Estab a y b x g) (strays_by_receiver Estab b x a y f)
          by (unknown e g) (known f) = begin (strays_by_receiver Estab a y b x e) (strays_by_sender Estab b x a y g)
          by (unknown e g) (unknown f h) = begin (strays_by_receiver Estab a y b x e) (strays_by_receiver Estab b x a y f)

      fulls_out : HoldsOfYoung → HoldsOfFull → (a y b x : P) (n m : ℕ) → ticked (full a y n) ≡ goes_on a y n → ticked (full b x m) ≡ goes_out b x m
          → Next C (pair (full a y n) [] (full b x m) [])
      fulls_out ofyoung offull a y b x n m is is' = next_by C (full a y n) (full b x m) (goes_on a y n) (goes_out b x m) is is'
          (λ d d'. full_and_begun protocol itself C begins a y d' (n + 1) (λ own. both_begun ofyoung protocol.first begins SynSent (inr refl) own d')
          (begun_at_rest Estab a (Some y) (n + 1) (λ e k k'. offull a y e k k') Clearing (inl refl) d'))

      fulls_both_out : HoldsOfYoung → (a y b x : P) (n m : ℕ) → ticked (full a y n) ≡ goes_out a y n → ticked (full b x m) ≡ goes_out b x m
          → Next C (pair (full a y n) [] (full b x m) [])
      fulls_both_out ofyoung a y b x n m is is' = next_by C (full a y n) (full b x m) (goes_out a y n) (goes_out b x m) is is'
          (both_begun ofyoung protocol.first begins protocol.first begins)

      -- *Two that have met* stay so, where they heard one another lately
      pub met_next : HoldsOfMet → (a b : P) (n m : ℕ) → n ≤ 2 → m ≤ 2 → Next C (pair (full a b n) [] (full b a m) [])
      met_next met a b n m le le' = next_by C (full a b n) (full b a m) (goes_on a b n) (goes_on b a m)
          (ticks_by a b n false (heard_lately n le)) (ticks_by b a m false (heard_lately m le'))
          (λ d d'. met_again protocol itself C a b (n + 1) (m + 1) (met_at_rest met a b))

    pub fulls_next : (C : Ends P → Type 0) → HoldsOfMet C → HoldsOfYoung C → HoldsOfFull C → HoldsOfYoung (λ e. C (swapped e)) → HoldsOfFull (λ e. C (swapped e))
        → (a y b x : P) (n m : ℕ) → Next C (pair (full a y n) [] (full b x m) [])
    fulls_next C met ofyoung offull ofyoung' offull' a y b x n m = by (how_it_ticks a y n) (how_it_ticks b x m)
      where
        by : Ticks a y n → Ticks b x m → Next C (pair (full a y n) [] (full b x m) [])
        by (on is) (on is') = fulls_on C met ofyoung a y b x n m is is'
        by (on is) (out is') = fulls_out C ofyoung offull a y b x n m is is'
        by (out is) (on is') = flip_next C (pair (full a y n) [] (full b x m) []) (fulls_out (λ e. C (swapped e)) ofyoung' offull' b x a y m n is' is)
        by (out is) (out is') = fulls_both_out C ofyoung a y b x n m is is'
