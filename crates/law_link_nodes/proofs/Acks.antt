-- two ends that have met say nothing but ACKs to each other, and each of these is heard as one

use Rattle.std.proofs.Common.{◌≡◌, ℕ, zero, suc, ◌+◌, ◌<◌, ◌&&◌, Bool, true, false, nat_lt, List, [], ◌∷◌, ◌++◌, fold, append-nil, refl, sym, ◌∙◌, ap, subst, arith, if◌then◌else◌}
use Rattle.std.specs.Prelude.{◌==◌, bytes_eq}
use Rattle.std.proofs.lemmas.Bool.{eq-eqb}
use Rattle.std.proofs.lemmas.Slice.Eq.{bytes_eq-Decides}
use Rattle.world_model.specs.Words.{Party, Said, Ack, Rstack, Estab, Quiet, Send, Side, Step, Says, Resets, enters_by_ack, stays, followed, followed_tick, received, same_party, ticked}
use Rattle.world_model.specs.adjacency_table.Table.{silence_limit}
use Rattle.law_link_names.specs.law_live_meetings.Exchange.{gsmp, heard, End, Ends, swapped, ticks, stepped, hears_first, Act, Hears, IsCleared, HearsElse, cleared_state, acts, Turn, AtOne, AtOther, turns}
use Rattle.law_link_names.proofs.law_live_meetings.Turns.{pair}
use Rattle.law_link_names.proofs.law_live_meetings.Greetings.{full, ack, if_both}

-- a party is itself
both : (x y : Bool) → x ≡ true → y ≡ true → (x && y) ≡ true
both true y p q = q
both false y p q = absurd (cc p)

pub party_itself : (x : Party) → same_party x x ≡ true
party_itself x = both (bytes_eq x.name x.name) ((x.port == x.port) && (x.instance.0 == x.instance.0)) ((bytes_eq-Decides x.name x.name).1 refl)
    (both (x.port == x.port) (x.instance.0 == x.instance.0) (eq-eqb x.port x.port refl) (eq-eqb x.instance.0 x.instance.0 refl))

-- *ACKs*, and an end that has met
abbrev pub AreAcks : (own stored : Party) → List (Said Party) → Type 0
AreAcks own stored [] = Unit {0}
AreAcks own stored (m ∷ ms) = (m ≡ ack own stored) × AreAcks own stored ms

pub record IsMetEnd (own stored : Party) (end : End Party) : Type 0 where
  pub silence : ℕ
  pub side : end.side ≡ full own stored silence
  pub acks : AreAcks stored own end.comes
  pub lately : end.comes ≡ [] → silence ≡ 0

-- *Both have met*, and where nothing comes to one any more it has just heard the other
abbrev pub AreMet : (a b : Party) → Ends Party → Type 0
AreMet a b ends = IsMetEnd a b ends.one × IsMetEnd b a ends.other

-- *An ACK is heard*
hears_ack : (a b : Party) (n : ℕ) → received gsmp.same (full a b n) (heard gsmp (ack b a)) ≡ record { side = full a b 0; answer = Quiet }
hears_ack a b n = ap (followed (full a b n) (heard gsmp (ack b a)))
    (if_both (same_party a a) (same_party b b) enters_by_ack (stays Estab (Says Rstack)) (party_itself a) (party_itself b))

nothing_more : (a b : Party) (end : End Party) → IsMetEnd a b end → IsMetEnd a b (record { side = end.side; comes = end.comes ++ [] })
nothing_more a b end met = subst (λ (comes : List (Said Party)). IsMetEnd a b (record { side = end.side; comes = comes })) (sym (append-nil end.comes))
    (record { silence = met.silence; side = met.side; acks = met.acks; lately = met.lately })

heard_met : (a b : Party) (ends : Ends Party) (drawn : Party) (comes : List (Said Party)) → AreAcks b a comes → AreMet a b ends → AreMet a b (hears_first gsmp ends drawn comes)
heard_met a b ends drawn [] acks met = met
heard_met a b ends drawn (m ∷ later) acks met =
    let step : received gsmp.same ends.one.side (heard gsmp m) ≡ record { side = full a b 0; answer = Quiet } =
    ap (λ (s : Side Party). received gsmp.same s (heard gsmp m)) met.0.side
    ∙ (ap (λ (said : Said Party). received gsmp.same (full a b met.0.silence) (heard gsmp said)) acks.0 ∙ hears_ack a b met.0.silence) in
    subst (λ (s : Step Party). AreMet a b (stepped gsmp ends drawn later s)) (sym step)
    (record { silence = 0; side = refl; acks = acks.1; lately = λ e. refl }, nothing_more b a ends.other met.1)

acts_met : (a b : Party) (ends : Ends Party) (act : Act Party) → AreMet a b ends → AreMet a b (acts gsmp ends act)
acts_met a b ends (Hears drawn) met = heard_met a b ends drawn ends.one.comes met.0.acks met
acts_met a b ends IsCleared met = (
  record {
    silence = met.0.silence;
    side = ap (λ (s : Side Party). record s { state = cleared_state s.state }) met.0.side;
    acks = met.0.acks;
    lately = met.0.lately;
  },
  met.1,
)
acts_met a b ends HearsElse met = (
  record {
    silence = 0;
    side = ap (λ (s : Side Party). record s { silence = 0 }) met.0.side;
    acks = met.0.acks;
    lately = λ e. refl;
  },
  met.1,
)

turns_met : (a b : Party) (ends : Ends Party) (turn : Turn Party) → AreMet a b ends → AreMet a b (turns gsmp ends turn)
turns_met a b ends (AtOne act) met = acts_met a b ends act met
turns_met a b ends (AtOther act) met = let h : AreMet b a (acts gsmp (swapped ends) act) = acts_met b a (swapped ends) act (met.1, met.0) in (h.1, h.0)

-- *Behind any turns*
pub all_met : (a b : Party) (come : List (Turn Party)) (ends : Ends Party) → AreMet a b ends → AreMet a b (fold (turns gsmp) ends come)
all_met a b [] ends met = met
all_met a b (turn ∷ come) ends met = all_met a b come (turns gsmp ends turn) (turns_met a b ends turn met)

-- *At rest*, each heard the other lately
pub record AreQuiet (a b : Party) (ends : Ends Party) : Type 0 where
  pub n : ℕ
  pub m : ℕ
  pub lately : n < silence_limit
  pub other_lately : m < silence_limit
  pub are : ends ≡ pair (full a b n) [] (full b a m) []

-- and one has ticked
pub record HasTicked (a b : Party) (ends : Ends Party) : Type 0 where
  pub n : ℕ
  pub m : ℕ
  pub other_lately : m < silence_limit
  pub are : ends ≡ pair (full a b n) [] (full b a m) (ack a b ∷ [])

-- *A tick* of one that heard lately
not_out : (n : ℕ) → n < silence_limit → nat_lt silence_limit (n + 1) ≡ false
not_out n low = grind arith

ticks_on : (a b : Party) (n : ℕ) → n < silence_limit → ticked (full a b n) ≡ record { side = full a b (n + 1); answer = Send (ack a b) }
ticks_on a b n low = ap (λ (c : Bool). followed_tick (full a b n) (if c then Resets else Says Ack)) (not_out n low)

pub one_ticks : (a b : Party) (ends : Ends Party) (drawn : Party) → AreQuiet a b ends → HasTicked a b (ticks gsmp ends drawn)
one_ticks a b ends drawn quiet = record {
  n = quiet.n + 1;
  m = quiet.m;
  other_lately = quiet.other_lately;
  are = ap (λ (e : Ends Party). ticks gsmp e drawn) quiet.are
      ∙ ap (λ (s : Step Party). stepped gsmp (pair (full a b quiet.n) [] (full b a quiet.m) []) drawn [] s) (ticks_on a b quiet.n quiet.lately);
}

pub other_ticks : (a b : Party) (ends : Ends Party) (drawn : Party) → HasTicked a b ends → AreMet a b (swapped (ticks gsmp (swapped ends) drawn))
other_ticks a b ends drawn ticked_one =
    let n : ℕ = ticked_one.n in
    let m : ℕ = ticked_one.m in
    let are : swapped (ticks gsmp (swapped ends) drawn) ≡ pair (full a b n) (ack b a ∷ []) (full b a (m + 1)) (ack a b ∷ []) =
    ap (λ (e : Ends Party). swapped (ticks gsmp (swapped e) drawn)) ticked_one.are
    ∙ ap (λ (s : Step Party). swapped (stepped gsmp (pair (full b a m) (ack a b ∷ []) (full a b n) []) drawn (ack a b ∷ []) s)) (ticks_on b a m ticked_one.other_lately) in
    subst (AreMet a b) (sym are) (
      record { silence = n; side = refl; acks = (refl, tt); lately = λ e. absurd (cc e) },
      record { silence = m + 1; side = refl; acks = (refl, tt); lately = λ e. absurd (cc e) },
    )

-- *It comes to rest* again
pub rest_again : (a b : Party) (ends : Ends Party) → AreMet a b ends → ends.one.comes ≡ [] → ends.other.comes ≡ [] → AreQuiet a b ends
rest_again a b ends met empty other_empty = record {
  n = met.0.silence;
  m = met.1.silence;
  lately = subst (λ (k : ℕ). k < silence_limit) (sym (met.0.lately empty)) (omega arith);
  other_lately = subst (λ (k : ℕ). k < silence_limit) (sym (met.1.lately other_empty)) (omega arith);
  are = λ i. pair (met.0.side i) (empty i) (met.1.side i) (other_empty i);
}
