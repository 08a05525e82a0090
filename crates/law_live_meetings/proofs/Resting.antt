-- turns come to rest, since what is answered to a message is lighter than it

use Rattle.std.proofs.Common.{◌≡◌, ℕ, zero, suc, ◌+◌, ◌≤◌, Bool, true, false, List, [], ◌∷◌, ◌++◌, fold, refl, sym, subst, ap, arith, if◌then◌else◌}
use Rattle.std.specs.Option.{option_map_or}
use Rattle.live_model.specs.world_model.Words.{Said, Heard, HelloKind, Syn, Synack, Rstack, Ack, State, Clearing, SynSent, SynRcvd, Estab, Answer, Side, Row, Reply, Silent, Says, Resets, answer_of, answer_to, followed, is_entry, row, received}
use Rattle.live_model.specs.world_model.adjacency_table.Side.{answer_opened}
use Rattle.law_live_meetings.specs.Exchange.{Protocol, heard, Ends, swapped, said_in, hears_first, Hears, IsCleared, cleared_state, AtOne, AtOther, turns, IsAtRest}
use Rattle.law_live_meetings.specs.Law.{ComesToRest, TurnsComeToRest}

abbrev weight : HelloKind → ℕ
weight Syn = 4
weight Synack = 3
weight Ack = 2
weight Rstack = 1

abbrev reply_weight : Reply → ℕ
reply_weight Silent = 0
reply_weight (Says kind) = weight kind
reply_weight Resets = 0

row_lighter : (state : State) (kind : HelloKind) (meant known : Bool) → suc (reply_weight (row state kind meant known).reply) ≤ weight kind
row_lighter Clearing Syn meant known = omega arith
row_lighter Clearing Synack meant known = omega arith
row_lighter Clearing Ack meant known = omega arith
row_lighter Clearing Rstack meant known = omega arith
row_lighter SynSent Syn meant known = omega arith
row_lighter SynSent Synack true known = omega arith
row_lighter SynSent Synack false known = omega arith
row_lighter SynSent Ack meant known = omega arith
row_lighter SynSent Rstack meant known = omega arith
row_lighter SynRcvd Syn meant known = omega arith
row_lighter SynRcvd Synack true known = omega arith
row_lighter SynRcvd Synack false known = omega arith
row_lighter SynRcvd Ack true true = omega arith
row_lighter SynRcvd Ack true false = omega arith
row_lighter SynRcvd Ack false known = omega arith
row_lighter SynRcvd Rstack true true = omega arith
row_lighter SynRcvd Rstack true false = omega arith
row_lighter SynRcvd Rstack false known = omega arith
row_lighter Estab Syn meant known = omega arith
row_lighter Estab Synack meant known = omega arith
row_lighter Estab Ack true true = omega arith
row_lighter Estab Ack true false = omega arith
row_lighter Estab Ack false known = omega arith
row_lighter Estab Rstack true true = omega arith
row_lighter Estab Rstack true false = omega arith
row_lighter Estab Rstack false known = omega arith

module _ {P : Type 0} where
  abbrev weights : List (Said P) → ℕ
  weights [] = 0
  weights (m ∷ ms) = weight m.kind + weights ms

  weights-append : (xs ys : List (Said P)) → weights (xs ++ ys) ≡ weights xs + weights ys
  weights-append [] ys = omega arith
  weights-append (m ∷ xs) ys = omega (arith, weights-append xs ys)

  -- what a row makes an end say
  said_weight : (a : Side P) (m : Heard P) (reply : Reply) (enters : Bool)
      → weights (said_in (if enters then answer_opened a.own (answer_of (answer_to a m) reply) else answer_of (answer_to a m) reply)) ≡ reply_weight reply
  said_weight a m Silent true = refl
  said_weight a m Silent false = refl
  said_weight a m (Says Syn) true = refl
  said_weight a m (Says Syn) false = refl
  said_weight a m (Says Synack) true = refl
  said_weight a m (Says Synack) false = refl
  said_weight a m (Says Rstack) true = refl
  said_weight a m (Says Rstack) false = refl
  said_weight a m (Says Ack) true = refl
  said_weight a m (Says Ack) false = refl
  said_weight a m Resets true = refl
  said_weight a m Resets false = refl

module _ {P : Type 0} (protocol : Protocol P) where
  abbrev all_weights : Ends P → ℕ
  all_weights ends = weights ends.one.comes + weights ends.other.comes

  answer_lighter : (a : Side P) (m : Said P) → suc (weights (said_in (received protocol.same a (heard protocol m)).answer)) ≤ weight m.kind
  answer_lighter a m =
      let found : Row = row a.state m.kind (protocol.same (heard protocol m).receiver a.own) (option_map_or (protocol.same m.sender) a.stored false) in
      let side : Side P = (followed a (heard protocol m) found).side in
      subst (λ (n : ℕ). suc n ≤ weight m.kind) (sym (said_weight side (heard protocol m) found.reply (is_entry a.state found.next)))
      (row_lighter a.state m.kind (protocol.same (heard protocol m).receiver a.own) (option_map_or (protocol.same m.sender) a.stored false))

  -- a hearing makes what is on the way lighter
  lighter : (ends : Ends P) (drawn : P) (m : Said P) (later : List (Said P)) → ends.one.comes ≡ m ∷ later
      → suc (all_weights (hears_first protocol ends drawn (m ∷ later))) ≤ all_weights ends
  lighter ends drawn m later is =
      let answer : Answer (Said P) P = (received protocol.same ends.one.side (heard protocol m)).answer in
      let whole : weights ends.one.comes ≡ weight m.kind + weights later = ap weights is in
      omega (arith, whole, weights-append ends.other.comes (said_in answer), answer_lighter ends.one.side m)

  -- what comes to one first
  behind_one : (ends : Ends P) (drawn : P) (m : Said P) (later : List (Said P)) → ends.one.comes ≡ m ∷ later
      → ComesToRest protocol (hears_first protocol ends drawn (m ∷ later)) → ComesToRest protocol ends
  behind_one ends drawn m later is c = record {
    then_come = AtOne (Hears drawn) ∷ c.then_come;
    rests = subst (λ (comes : List (Said P)). IsAtRest (fold (turns protocol) (hears_first protocol ends drawn comes) c.then_come)) (sym is) c.rests;
  }

  behind_other : (ends : Ends P) (drawn : P) (m : Said P) (later : List (Said P)) → ends.other.comes ≡ m ∷ later
      → ComesToRest protocol (swapped (hears_first protocol (swapped ends) drawn (m ∷ later))) → ComesToRest protocol ends
  behind_other ends drawn m later is c = record {
    then_come = AtOther (Hears drawn) ∷ c.then_come;
    rests = subst (λ (comes : List (Said P)). IsAtRest (fold (turns protocol) (swapped (hears_first protocol (swapped ends) drawn comes)) c.then_come)) (sym is) c.rests;
  }

  is_cleared : (s : State) → cleared_state s ≡ Clearing → ⊥
  is_cleared Clearing e = cc e
  is_cleared SynSent e = cc e
  is_cleared SynRcvd e = cc e
  is_cleared Estab e = cc e

  nothing_comes : (ends : Ends P) → ends.one.comes ≡ [] → ends.other.comes ≡ [] → ComesToRest protocol ends
  nothing_comes ends e f = record {
    then_come = AtOne IsCleared ∷ AtOther IsCleared ∷ [];
    rests = record {
      one_has_heard = e;
      other_has_heard = f;
      one_is_clear = is_cleared ends.one.side.state;
      other_is_clear = is_cleared ends.other.side.state;
    };
  }

  -- one hearing, as lighter ends come to rest
  by_comes : (ends : Ends P) → ((next : Ends P) → suc (all_weights next) ≤ all_weights ends → ComesToRest protocol next)
      → (to_one : List (Said P)) → ends.one.comes ≡ to_one → (to_other : List (Said P)) → ends.other.comes ≡ to_other → ComesToRest protocol ends
  by_comes ends falls [] e [] f = nothing_comes ends e f
  by_comes ends falls (m ∷ later) e to_other f = behind_one ends m.sender m later e
      (falls (hears_first protocol ends m.sender (m ∷ later)) (lighter ends m.sender m later e))
  by_comes ends falls [] e (m ∷ later) f = behind_other ends m.sender m later f
      (falls (swapped (hears_first protocol (swapped ends) m.sender (m ∷ later))) (omega (arith, lighter (swapped ends) m.sender m later f)))

  by_weight : (n : ℕ) (ends : Ends P) → suc (all_weights ends) ≤ n → ComesToRest protocol ends
  by_weight zero ends le = absurd (omega (arith, le))
  by_weight (suc n) ends le = by_comes ends (λ next lighter. by_weight n next (omega (arith, le, lighter))) ends.one.comes refl ends.other.comes refl

  pub turns_come_to_rest : TurnsComeToRest protocol
  turns_come_to_rest ends = by_weight (suc (all_weights ends)) ends (omega arith)
