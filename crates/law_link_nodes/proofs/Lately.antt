-- two ends that have come to meet have heard one another lately: else one exchange more would leave them strangers

use Rattle.std.proofs.Common.{◌≡◌, ℕ, suc, ◌+◌, ◌<◌, ◌≤◌, ◌&&◌, Bool, true, false, nat_lt, List, [], ◌∷◌, ◌++◌, length, fold, Some, refl, sym, ◌∙◌, ap, subst, arith, if◌then◌else◌}
use Rattle.world_model.specs.Words.{Party, Said, Ack, Rstack, SynSent, Estab, Send, Side, IsSide, Step, Row, Silent, Says, Resets, fresh, followed, followed_tick, received, same_party, stays, ticked}
use Rattle.world_model.specs.adjacency_table.Table.{silence_limit}
use Rattle.world_model.specs.adjacency_table.declared.message.Answer.TheVariants.{Reset}
use Rattle.live_model.specs.Met.{HaveMet}
use Rattle.law_link_names.specs.law_live_meetings.Exchange.{gsmp, heard, Ends, swapped, side_after, said_in, stepped, Hears, Turn, AtOne, AtOther, turns, Exchange, behind, IsAtRest}
use Rattle.law_link_names.specs.law_live_meetings.Law.{ComeToRest}
use Rattle.law_link_names.proofs.law_live_meetings.Turns.{pair}
use Rattle.law_link_names.proofs.law_live_meetings.Greetings.{young, full, ack, rstack, if_both}
use Rattle.law_link_names.proofs.law_live_meetings.Names.{switches_meet}
use Rattle.law_link_nodes.proofs.Acks.{party_itself, AreQuiet}

-- *A tick in Estab* goes on, or finds the silence too long
data Ticks (a b : Party) (n : ℕ) : Type 0 where
  on : n < silence_limit → ticked (full a b n) ≡ record { side = full a b (n + 1); answer = Send (ack a b) } → Ticks a b n
  out : ticked (full a b n) ≡ record { side = full a b n; answer = Reset } → Ticks a b n

low_enough : (n : ℕ) → nat_lt silence_limit (n + 1) ≡ false → n < silence_limit
low_enough n e = grind arith

how_it_ticks : (a b : Party) (n : ℕ) → Ticks a b n
how_it_ticks a b n = by (nat_lt silence_limit (n + 1)) refl
  where
    by : (c : Bool) → nat_lt silence_limit (n + 1) ≡ c → Ticks a b n
    by true e = out (ap (λ (d : Bool). followed_tick (full a b n) (if d then Resets else Says Ack)) e)
    by false e = on (low_enough n e) (ap (λ (d : Bool). followed_tick (full a b n) (if d then Resets else Says Ack)) e)

-- *An RSTACK of its peer* resets it
hears_rstack : (a b : Party) (n : ℕ) → received gsmp.same (full a b n) (heard gsmp (rstack b a)) ≡ followed (full a b n) (heard gsmp (rstack b a)) (stays Estab Resets)
hears_rstack a b n = ap (λ (r : Row). followed (full a b n) (heard gsmp (rstack b a)) r)
    (ap (stays Estab) (if_both (same_party a a) (same_party b b) Resets Silent (party_itself a) (party_itself b)))

-- *The exchange* that makes them strangers
record MadeStrangers (ends : Ends Party) : Type 0 where
  exchange : Exchange Party
  a : Party
  b : Party
  are : behind gsmp ends exchange ≡ pair (young a 0) [] (young b 0) []

abbrev ticking : Step Party → Step Party → (a b : Party) → Ends Party
ticking step step' a b = pair (side_after (fresh SynSent a) step.answer step.side) (said_in step'.answer) (side_after (fresh SynSent b) step'.answer step'.side) (said_in step.answer)

abbrev exchange_of : (a b : Party) → List (Turn Party) → Exchange Party
exchange_of a b come = record { drawn_by_one = a; drawn_by_other = b; then_come = come }

module _ (a b : Party) (n m : ℕ) where
  abbrev resting : Ends Party
  resting = pair (full a b n) [] (full b a m) []

  steps : (come : List (Turn Party)) (step step' : Step Party) → ticked (full a b n) ≡ step → ticked (full b a m) ≡ step'
      → behind gsmp resting (exchange_of a b come) ≡ fold (turns gsmp) (ticking step step' a b) come
  steps come step step' is is' = λ i. fold (turns gsmp) (ticking (is i) (is' i) a b) come

  -- both reset, or one
  both_out : ticked (full a b n) ≡ record { side = full a b n; answer = Reset } → ticked (full b a m) ≡ record { side = full b a m; answer = Reset } → MadeStrangers resting
  both_out e f = record { exchange = exchange_of a b []; a = a; b = b; are = steps [] _ _ e f }

  one_out : ticked (full a b n) ≡ record { side = full a b n; answer = Reset } → ticked (full b a m) ≡ record { side = full b a (m + 1); answer = Send (ack b a) } → MadeStrangers resting
  one_out e f = record {
    exchange = exchange_of a b (AtOne (Hears a) ∷ AtOther (Hears b) ∷ []);
    a = a;
    b = b;
    are = steps (AtOne (Hears a) ∷ AtOther (Hears b) ∷ []) _ _ e f
        ∙ ap (λ (s : Step Party). swapped (stepped gsmp (pair (full b a (m + 1)) (rstack a b ∷ []) (young a 0) []) b [] s)) (hears_rstack b a (m + 1));
  }

  other_out : ticked (full a b n) ≡ record { side = full a b (n + 1); answer = Send (ack a b) } → ticked (full b a m) ≡ record { side = full b a m; answer = Reset } → MadeStrangers resting
  other_out e f = record {
    exchange = exchange_of a b (AtOther (Hears b) ∷ AtOne (Hears a) ∷ []);
    a = a;
    b = b;
    are = steps (AtOther (Hears b) ∷ AtOne (Hears a) ∷ []) _ _ e f
        ∙ ap (λ (s : Step Party). stepped gsmp (pair (full a b (n + 1)) (rstack b a ∷ []) (young b 0) []) a [] s) (hears_rstack a b (n + 1));
  }

-- *Exchanges*, and one more
last_rests : (exchanges : List (Exchange Party)) (ends : Ends Party) → IsAtRest ends → ComeToRest gsmp ends exchanges → IsAtRest (fold (behind gsmp) ends exchanges)
last_rests [] ends rest runs = rest
last_rests (e ∷ es) ends rest runs = last_rests es (behind gsmp ends e) runs.0 runs.1

one_more : (exchanges : List (Exchange Party)) (ends : Ends Party) (more : Exchange Party) → ComeToRest gsmp ends exchanges
    → IsAtRest (behind gsmp (fold (behind gsmp) ends exchanges) more) → ComeToRest gsmp ends (exchanges ++ more ∷ [])
one_more [] ends more runs rest = (rest, tt)
one_more (e ∷ es) ends more runs rest = (runs.0, one_more es (behind gsmp ends e) more runs.1 rest)

fold_more : (exchanges : List (Exchange Party)) (ends : Ends Party) (more : Exchange Party)
    → fold (behind gsmp) ends (exchanges ++ more ∷ []) ≡ behind gsmp (fold (behind gsmp) ends exchanges) more
fold_more [] ends more = refl
fold_more (e ∷ es) ends more = fold_more es (behind gsmp ends e) more

length_more : (exchanges : List (Exchange Party)) (more : Exchange Party) → length (exchanges ++ more ∷ []) ≡ length exchanges + 1
length_more [] more = refl
length_more (e ∷ es) more = omega (arith, length_more es more)

young_rests : (a b : Party) → IsAtRest (pair (young a 0) [] (young b 0) [])
young_rests a b = record { one_has_heard = refl; other_has_heard = refl; one_is_clear = λ e. cc e; other_is_clear = λ e. cc e }

-- a side in Estab
pub side_is : (side : Side Party) (own stored : Party) → side.state ≡ Estab → side.own ≡ own → side.stored ≡ Some stored → side ≡ full own stored side.silence
side_is side own stored up is knows = λ i. record { state = up i; own = is i; stored = knows i; silence = side.silence }

module _ (ends : Ends Party) (exchanges : List (Exchange Party)) (one_side : IsSide ends.one.side) (other_side : IsSide ends.other.side) (rest : IsAtRest ends)
    (runs : ComeToRest gsmp ends exchanges) (long : 4 ≤ length exchanges) where
  abbrev come : Ends Party
  come = fold (behind gsmp) ends exchanges

  met : HaveMet come.one.side come.other.side
  met = switches_meet ends exchanges one_side other_side rest runs long

  no_strangers : MadeStrangers come → ⊥
  no_strangers made =
      let rests : IsAtRest (behind gsmp come made.exchange) = subst IsAtRest (sym made.are) (young_rests made.a made.b) in
      let all : List (Exchange Party) = exchanges ++ made.exchange ∷ [] in
      let met_then : HaveMet (fold (behind gsmp) ends all).one.side (fold (behind gsmp) ends all).other.side =
      switches_meet ends all one_side other_side rest (one_more exchanges ends made.exchange runs rests) (omega (arith, long, length_more exchanges made.exchange)) in
      let young_then : (fold (behind gsmp) ends all).one.side.state ≡ SynSent =
      ap (λ (e : Ends Party). e.one.side.state) (fold_more exchanges ends made.exchange ∙ made.are) in
      cc (met_then.one_is_up, young_then)

  quiet_by : (a b : Party) (n m : ℕ) → come ≡ pair (full a b n) [] (full b a m) [] → Ticks a b n → Ticks b a m → AreQuiet a b come
  quiet_by a b n m are (on low e) (on other_low f) = record { n = n; m = m; lately = low; other_lately = other_low; are = are }
  quiet_by a b n m are (on low e) (out f) = absurd (no_strangers (subst MadeStrangers (sym are) (other_out a b n m e f)))
  quiet_by a b n m are (out e) (on low f) = absurd (no_strangers (subst MadeStrangers (sym are) (one_out a b n m e f)))
  quiet_by a b n m are (out e) (out f) = absurd (no_strangers (subst MadeStrangers (sym are) (both_out a b n m e f)))

  -- *They have*
  pub lately : AreQuiet come.one.side.own come.other.side.own come
  lately =
      let one : Side Party = come.one.side in
      let other : Side Party = come.other.side in
      let at_rest : IsAtRest come = last_rests exchanges ends rest runs in
      let is_one : one ≡ full one.own other.own one.silence = side_is one one.own other.own met.one_is_up refl met.one_knows in
      let is_other : other ≡ full other.own one.own other.silence = side_is other other.own one.own met.other_is_up refl met.other_knows in
      quiet_by one.own other.own one.silence other.silence (λ i. pair (is_one i) (at_rest.one_has_heard i) (is_other i) (at_rest.other_has_heard i))
      (how_it_ticks one.own other.own one.silence) (how_it_ticks other.own one.own other.silence)
