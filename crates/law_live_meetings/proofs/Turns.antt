-- what comes behind any turns is what comes where an end hears first: hearings at the two ends commute

use Rattle.std.proofs.Common.{◌≡◌, ℕ, ◌≤◌, Bool, true, false, List, [], ◌∷◌, ◌++◌, map, fold, Option, refl, sym, subst, ◌∙◌, ap, arith}
use Rattle.std.specs.Prelude.{◌≢◌}
use Rattle.std.specs.Option.{option_map_or}
use Rattle.live_model.specs.world_model.Words.{Said, Heard, Syn, Synack, Rstack, Ack, State, Clearing, SynSent, SynRcvd, Estab, Answer, Quiet, Send, Open, Side, Step, Row, Reply, Silent, Says, Resets, followed, fresh, received, row}
use Rattle.live_model.specs.world_model.adjacency_table.declared.message.Answer.TheVariants.{Reset}
use Rattle.law_live_meetings.specs.Exchange.{Protocol, heard, Ends, swapped, side_after, said_in, stepped, Hears, IsCleared, HearsElse, cleared_state, acts, Turn, AtOne, AtOther, turns, IsAtRest}

-- two ends, by their parts
abbrev pub pair : {P : Type 0} → Side P → List (Said P) → Side P → List (Said P) → Ends P
pair a to_one b to_other = record {
  one = record { side = a; comes = to_one };
  other = record { side = b; comes = to_other };
}

-- *C holds at rest*, behind any turns
abbrev pub Along : {P : Type 0} → Protocol P → (C : Ends P → Type 0) → Ends P → Type 0
Along protocol C ends = (ts : List (Turn _)) → IsAtRest (fold (turns protocol) ends ts) → C (fold (turns protocol) ends ts)

abbrev pub calm : {P : Type 0} → Side P → Side P
calm a = record a { silence = 0 }

-- a side that isn't in Clearing stays, and one that hears in another way goes on as it would
kept_state : (s : State) → s ≢ Clearing → cleared_state s ≡ s
kept_state Clearing up = absurd (up refl)
kept_state SynSent up = refl
kept_state SynRcvd up = refl
kept_state Estab up = refl

once_cleared : (s : State) → cleared_state (cleared_state s) ≡ cleared_state s
once_cleared Clearing = refl
once_cleared SynSent = refl
once_cleared SynRcvd = refl
once_cleared Estab = refl

module _ {P : Type 0} where
  kept : (a : Side P) → a.state ≢ Clearing → a ≡ record a { state = cleared_state a.state }
  kept a up = λ i. record a { state = sym (kept_state a.state up) i }

  calm_parts : (a : Side P) (m : Heard P) (next : State) (stores clears : Bool) (reply : Reply)
      → (record {
        side = calm (followed a m (record { next = next; stores = stores; clears_silence = clears; reply = reply })).side;
        answer = (followed a m (record { next = next; stores = stores; clears_silence = clears; reply = reply })).answer;
      })
      ≡ followed (calm a) m (record { next = next; stores = stores; clears_silence = clears; reply = reply })
  calm_parts a m next stores true Silent = refl
  calm_parts a m next stores true (Says Syn) = refl
  calm_parts a m next stores true (Says Synack) = refl
  calm_parts a m next stores true (Says Rstack) = refl
  calm_parts a m next stores true (Says Ack) = refl
  calm_parts a m next stores true Resets = refl
  calm_parts a m next stores false Silent = refl
  calm_parts a m next stores false (Says Syn) = refl
  calm_parts a m next stores false (Says Synack) = refl
  calm_parts a m next stores false (Says Rstack) = refl
  calm_parts a m next stores false (Says Ack) = refl
  calm_parts a m next stores false Resets = refl

  calm_after : (first : State) (drawn : P) (answer : Answer (Said P) P) (side : Side P)
      → side_after (fresh first drawn) answer (calm side) ≡ calm (side_after (fresh first drawn) answer side)
  calm_after first drawn Quiet side = refl
  calm_after first drawn (Send m) side = refl
  calm_after first drawn (Open m own) side = refl
  calm_after first drawn Reset side = refl

module _ {P : Type 0} (protocol : Protocol P) where
  -- *Either end*
  abbrev other_way : Turn P → Turn P
  other_way (AtOne act) = AtOther act
  other_way (AtOther act) = AtOne act

  turned : (ts : List (Turn P)) (ends : Ends P) → fold (turns protocol) (swapped ends) (map other_way ts) ≡ swapped (fold (turns protocol) ends ts)
  turned [] ends = refl
  turned (AtOne act ∷ ts) ends = turned ts (acts protocol ends act)
  turned (AtOther act ∷ ts) ends = turned ts (turns protocol ends (AtOther act))

  rest_swapped : (ends : Ends P) → IsAtRest ends → IsAtRest (swapped ends)
  rest_swapped ends r = record {
    one_has_heard = r.other_has_heard;
    other_has_heard = r.one_has_heard;
    one_is_clear = r.other_is_clear;
    other_is_clear = r.one_is_clear;
  }

  pub flips : (C : Ends P → Type 0) (ends : Ends P) → Along protocol (λ e. C (swapped e)) (swapped ends) → Along protocol C ends
  flips C ends holds ts r = subst (λ (e : Ends P). IsAtRest e → C (swapped e)) (turned ts ends) (holds (map other_way ts))
      (rest_swapped (fold (turns protocol) ends ts) r)

  module _ (C : Ends P → Type 0) where
    -- *One hears first*
    abbrev hearing : Side P → Said P → List (Said P) → Side P → List (Said P) → (drawn : P) → Row → Ends P
    hearing a m later b to_other drawn found =
        stepped protocol (pair a (m ∷ later) b to_other) drawn later (followed a (heard protocol m) found)

    abbrev row_of : Side P → Said P → Row
    row_of a m = row a.state m.kind (protocol.same (heard protocol m).receiver a.own) (option_map_or (protocol.same m.sender) a.stored false)

    calm_hearing : (a : Side P) (m : Said P) (later : List (Said P)) (b : Side P) (to_other : List (Said P)) (drawn : P) (found : Row)
        → acts protocol (hearing a m later b to_other drawn found) HearsElse ≡ hearing (calm a) m later b to_other drawn found
    calm_hearing a m later b to_other drawn found =
        let step : Step P = followed a (heard protocol m) found in
        (λ i. pair (sym (calm_after protocol.first drawn step.answer step.side) i) later b (to_other ++ said_in step.answer))
        ∙ ap (λ (s : Step P). stepped protocol (pair a (m ∷ later) b to_other) drawn later s)
        (calm_parts a (heard protocol m) found.next found.stores found.clears_silence found.reply)

    hears_next : (a : Side P) (m : Said P) (later : List (Said P)) (b : Side P) (to_other : List (Said P)) → a.state ≢ Clearing
        → ((drawn : P) → Along protocol C (hearing a m later b to_other drawn (row_of a m))) → Along protocol C (pair a (m ∷ later) b to_other)
    hears_next a m later b to_other up next [] r = absurd (cc (r.one_has_heard))
    hears_next a m later b to_other up next (AtOne (Hears drawn) ∷ ts) r = next drawn ts r
    hears_next a m later b to_other up next (AtOne IsCleared ∷ ts) r =
        subst (λ (s : Side P). IsAtRest (fold (turns protocol) (pair s (m ∷ later) b to_other) ts) → C (fold (turns protocol) (pair s (m ∷ later) b to_other) ts))
        (kept a up) (hears_next a m later b to_other up next ts) r
    hears_next a m later b to_other up next (AtOne HearsElse ∷ ts) r = hears_next (calm a) m later b to_other up
        (λ drawn. subst (λ (e : Ends P). Along protocol C e) (calm_hearing a m later b to_other drawn (row_of a m)) (λ us. next drawn (AtOne HearsElse ∷ us))) ts r
    hears_next a m later b [] up next (AtOther (Hears drawn) ∷ ts) r = hears_next a m later b [] up next ts r
    hears_next a m later b (n ∷ others) up next (AtOther (Hears drawn) ∷ ts) r =
        let step : Step P = received protocol.same b (heard protocol n) in
        hears_next a m (later ++ said_in step.answer) (side_after (fresh protocol.first drawn) step.answer step.side) others up
        (λ own us. next own (AtOther (Hears drawn) ∷ us)) ts r
    hears_next a m later b to_other up next (AtOther IsCleared ∷ ts) r =
        hears_next a m later (record b { state = cleared_state b.state }) to_other up (λ own us. next own (AtOther IsCleared ∷ us)) ts r
    hears_next a m later b to_other up next (AtOther HearsElse ∷ ts) r =
        hears_next a m later (calm b) to_other up (λ own us. next own (AtOther HearsElse ∷ us)) ts r

    pub one_hears : (a : Side P) (m : Said P) (later : List (Said P)) (b : Side P) (to_other : List (Said P)) → a.state ≢ Clearing
        → (found : Row) → row_of a m ≡ found
        → ((drawn : P) → Along protocol C (hearing a m later b to_other drawn found)) → Along protocol C (pair a (m ∷ later) b to_other)
    one_hears a m later b to_other up found is next = hears_next a m later b to_other up
        (λ drawn. subst (λ (r : Row). Along protocol C (hearing a m later b to_other drawn r)) (sym is) (next drawn))

    -- *In Clearing* it hears nothing, or is cleared before
    pub one_waits : (own : P) (m : Said P) (later : List (Said P)) (b : Side P) (to_other : List (Said P))
        → Along protocol C (pair (fresh Clearing own) later b (to_other ++ [])) → Along protocol C (pair (fresh SynSent own) (m ∷ later) b to_other)
        → Along protocol C (pair (fresh Clearing own) (m ∷ later) b to_other)
    one_waits own m later b to_other drops clears [] r = absurd (cc (r.one_has_heard))
    one_waits own m later b to_other drops clears (AtOne (Hears drawn) ∷ ts) r = drops ts r
    one_waits own m later b to_other drops clears (AtOne IsCleared ∷ ts) r = clears ts r
    one_waits own m later b to_other drops clears (AtOne HearsElse ∷ ts) r = one_waits own m later b to_other drops clears ts r
    one_waits own m later b [] drops clears (AtOther (Hears drawn) ∷ ts) r = one_waits own m later b [] drops clears ts r
    one_waits own m later b (n ∷ others) drops clears (AtOther (Hears drawn) ∷ ts) r =
        let step : Step P = received protocol.same b (heard protocol n) in
        one_waits own m (later ++ said_in step.answer) (side_after (fresh protocol.first drawn) step.answer step.side) others
        (λ us. drops (AtOther (Hears drawn) ∷ us)) (λ us. clears (AtOther (Hears drawn) ∷ us)) ts r
    one_waits own m later b to_other drops clears (AtOther IsCleared ∷ ts) r =
        one_waits own m later (record b { state = cleared_state b.state }) to_other (λ us. drops (AtOther IsCleared ∷ us)) (λ us. clears (AtOther IsCleared ∷ us)) ts r
    one_waits own m later b to_other drops clears (AtOther HearsElse ∷ ts) r =
        one_waits own m later (calm b) to_other (λ us. drops (AtOther HearsElse ∷ us)) (λ us. clears (AtOther HearsElse ∷ us)) ts r

    -- *Nothing is on the way*: a port may be cleared, and a silence end
    abbrev pub still : (state : State) (own : P) (stored : Option P) (silence : ℕ) → Side P
    still state own stored silence = record { state = state; own = own; stored = stored; silence = silence }

    pub rests : (s : State) (own : P) (stored : Option P) (n : ℕ) (s' : State) (own' : P) (stored' : Option P) (n' : ℕ)
        → ((k k' : ℕ) → k ≤ n → k' ≤ n' → C (pair (still (cleared_state s) own stored k) [] (still (cleared_state s') own' stored' k') []))
        → Along protocol C (pair (still s own stored n) [] (still s' own' stored' n') [])
    rests s own stored n s' own' stored' n' holds [] r =
        subst (λ (t : State). C (pair (still t own stored n) [] (still s' own' stored' n') [])) (kept_state s r.one_is_clear)
        (subst (λ (t : State). C (pair (still (cleared_state s) own stored n) [] (still t own' stored' n') [])) (kept_state s' r.other_is_clear)
        (holds n n' (omega arith) (omega arith)))
    rests s own stored n s' own' stored' n' holds (AtOne (Hears drawn) ∷ ts) r = rests s own stored n s' own' stored' n' holds ts r
    rests s own stored n s' own' stored' n' holds (AtOne IsCleared ∷ ts) r = rests (cleared_state s) own stored n s' own' stored' n'
        (λ k k' le le'. subst (λ (t : State). C (pair (still t own stored k) [] (still (cleared_state s') own' stored' k') [])) (sym (once_cleared s)) (holds k k' le le')) ts r
    rests s own stored n s' own' stored' n' holds (AtOne HearsElse ∷ ts) r = rests s own stored 0 s' own' stored' n'
        (λ k k' le le'. holds k k' (omega (arith, le)) le') ts r
    rests s own stored n s' own' stored' n' holds (AtOther (Hears drawn) ∷ ts) r = rests s own stored n s' own' stored' n' holds ts r
    rests s own stored n s' own' stored' n' holds (AtOther IsCleared ∷ ts) r = rests s own stored n (cleared_state s') own' stored' n'
        (λ k k' le le'. subst (λ (t : State). C (pair (still (cleared_state s) own stored k) [] (still t own' stored' k') [])) (sym (once_cleared s')) (holds k k' le le')) ts r
    rests s own stored n s' own' stored' n' holds (AtOther HearsElse ∷ ts) r = rests s own stored n s' own' stored' 0
        (λ k k' le le'. holds k k' le (omega (arith, le'))) ts r

  -- *The other one*
  module _ (C : Ends P → Type 0) where
    pub other_hears : (a : Side P) (to_one : List (Said P)) (b : Side P) (m : Said P) (later : List (Said P)) → b.state ≢ Clearing
        → (found : Row) → row_of C b m ≡ found
        → ((drawn : P) → Along protocol C (swapped (hearing C b m later a to_one drawn found))) → Along protocol C (pair a to_one b (m ∷ later))
    other_hears a to_one b m later up found is next = flips C (pair a to_one b (m ∷ later))
        (one_hears (λ e. C (swapped e)) b m later a to_one up found is
        (λ drawn. flips (λ e. C (swapped e)) (hearing C b m later a to_one drawn found) (next drawn)))

    pub other_waits : (a : Side P) (to_one : List (Said P)) (own : P) (m : Said P) (later : List (Said P))
        → Along protocol C (pair a (to_one ++ []) (fresh Clearing own) later) → Along protocol C (pair a to_one (fresh SynSent own) (m ∷ later))
        → Along protocol C (pair a to_one (fresh Clearing own) (m ∷ later))
    other_waits a to_one own m later drops clears = flips C (pair a to_one (fresh Clearing own) (m ∷ later))
        (one_waits (λ e. C (swapped e)) own m later a to_one
        (flips (λ e. C (swapped e)) (pair (fresh Clearing own) later a (to_one ++ [])) drops)
        (flips (λ e. C (swapped e)) (pair (fresh SynSent own) (m ∷ later) a to_one) clears))
