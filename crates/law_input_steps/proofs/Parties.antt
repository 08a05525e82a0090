-- greetings of GSMP between a controller and its switch, by instances alone

use Rattle.std.proofs.Common.{◌≡◌, ℕ, Bool, true, false, refl, sym, ◌∙◌, ap, ap₂, arith, if◌then◌else◌}
use Rattle.std.specs.Prelude.{◌&&◌, ◌==◌}
use Rattle.std.specs.Str.{bytes_eq}
use Rattle.std.proofs.lemmas.Bool.Decides.{nat_tests}
use Rattle.std.proofs.lemmas.Slice.Eq.{bytes_eq-Decides}
use Rattle.law_input_views.specs.world_model.Words.{Greeting, Party, HelloKind, Syn, Synack, Rstack, Ack, Answer, Reply, answer_of, SideByInstances, greeting, said_by, same_party, nobody, greeting_of, gsmp_answer}
use Rattle.law_input_views.specs.world_model.adjacency_table.Side.{answer_opened}
use Rattle.law_input_views.specs.law_shown_cells.Seen.{Word, Unknown}
use Rattle.law_input_views.specs.Words.{is_party, names_far, is_own_greeting, seen_greeting}
pub use Rattle.law_input_steps.specs.Hearing.{Reads}

-- *Parties*
nat_is : (a b : ℕ) → (a == b) ≡ true → a ≡ b
nat_is a b e = grind (arith, nat_tests)

nat_self : (a : ℕ) → (a == a) ≡ true
nat_self a = grind (arith, nat_tests)

both_true : (a b : Bool) → (a && b) ≡ true → (a ≡ true) × (b ≡ true)
both_true true b e = (refl, e)
both_true false b e = absurd (cc e)

all_three : {x y z : Bool} → x ≡ true → y ≡ true → z ≡ true → (x && (y && z)) ≡ true
all_three p q r = (λ i. p i && (q i && r i))

party_is : (x y : Party) → same_party x y ≡ true → x ≡ y
party_is x y e =
    let p : (bytes_eq x.name y.name ≡ true) × (((x.port == y.port) && (x.instance.0 == y.instance.0)) ≡ true) = both_true _ _ e in
    let q : ((x.port == y.port) ≡ true) × ((x.instance.0 == y.instance.0) ≡ true) = both_true _ _ p.1 in
    let name : x.name ≡ y.name = (bytes_eq-Decides x.name y.name).0 p.0 in
    λ i. record { name = name i; port = nat_is x.port y.port q.0 i; instance = record { 0 = nat_is x.instance.0 y.instance.0 q.1 i } }

pub party_self : (x : Party) → same_party x x ≡ true
party_self x = all_three ((bytes_eq-Decides x.name x.name).1 refl) (nat_self x.port) (nat_self x.instance.0)

-- *A greeting in its sender's own words* is one that the sender says
module _ (own far : ℕ → Party) where
  receiver_is : (g : Greeting) (kind : HelloKind) → names_far far g kind ≡ true
      → g.receiver ≡ (greeting_of (said_by own far kind g.sender.instance.0 g.receiver.instance.0)).receiver
  receiver_is g Syn h = party_is g.receiver nobody h
  receiver_is g Synack h = party_is g.receiver (far g.receiver.instance.0) h
  receiver_is g Rstack h = party_is g.receiver (far g.receiver.instance.0) h
  receiver_is g Ack h = party_is g.receiver (far g.receiver.instance.0) h

  sender_of : (kind : HelloKind) (s r : ℕ) → (greeting_of (said_by own far kind s r)).sender ≡ own s
  sender_of Syn s r = refl
  sender_of Synack s r = refl
  sender_of Rstack s r = refl
  sender_of Ack s r = refl

  kind_of : (kind : HelloKind) (s r : ℕ) → (greeting_of (said_by own far kind s r)).kind ≡ kind
  kind_of Syn s r = refl
  kind_of Synack s r = refl
  kind_of Rstack s r = refl
  kind_of Ack s r = refl

  pub greeting_is : (g : Greeting) → is_own_greeting own far g ≡ true
      → g ≡ greeting_of (said_by own far g.kind g.sender.instance.0 g.receiver.instance.0)
  greeting_is g h =
      let tests : (is_party own g.sender ≡ true) × (names_far far g g.kind ≡ true) = both_true _ _ h in
      let sender : g.sender ≡ (greeting_of (said_by own far g.kind g.sender.instance.0 g.receiver.instance.0)).sender =
      party_is g.sender (own g.sender.instance.0) tests.0 ∙ sym (sender_of g.kind g.sender.instance.0 g.receiver.instance.0) in
      let receiver : g.receiver ≡ (greeting_of (said_by own far g.kind g.sender.instance.0 g.receiver.instance.0)).receiver = receiver_is g g.kind tests.1 in
      let kind : g.kind ≡ (greeting_of (said_by own far g.kind g.sender.instance.0 g.receiver.instance.0)).kind = sym (kind_of g.kind g.sender.instance.0 g.receiver.instance.0) in
      λ i. record { kind = kind i; sender = sender i; receiver = receiver i }

  -- and what a side says is in its own words
  module _ (own_number : (n : ℕ) → (own n).instance.0 ≡ n) (far_number : (n : ℕ) → (far n).instance.0 ≡ n) where
    own_party : (n : ℕ) → is_party own (own n) ≡ true
    own_party n = ap (λ (m : ℕ). same_party (own n) (own m)) (own_number n) ∙ party_self (own n)

    far_party : (n : ℕ) → is_party far (far n) ≡ true
    far_party n = ap (λ (m : ℕ). same_party (far n) (far m)) (far_number n) ∙ party_self (far n)

    said_seen : {W : Type 0} (word : HelloKind → (sender receiver : ℕ) → W) (kind : HelloKind) (s r : ℕ)
        → is_own_greeting own far (greeting_of (said_by own far kind s r)) ≡ true
    said_seen word Syn s r = ap₂ (λ (a b : Bool). a && b) (own_party s) (party_self nobody)
    said_seen word Synack s r = ap₂ (λ (a b : Bool). a && b) (own_party s) (far_party r)
    said_seen word Rstack s r = ap₂ (λ (a b : Bool). a && b) (own_party s) (far_party r)
    said_seen word Ack s r = ap₂ (λ (a b : Bool). a && b) (own_party s) (far_party r)

    seen_if : {W : Type 0} (b : Bool) (w v : W) → b ≡ true → w ≡ v → (if b then Word w else Unknown) ≡ Word v
    seen_if b w v h is = ap (λ (t : Bool). if t then Word w else Unknown) h ∙ ap (λ (z : _). Word z) is

    pub greeting_seen : {W : Type 0} (word : HelloKind → (sender receiver : ℕ) → W) (side : SideByInstances) (kind : HelloKind) (s r : ℕ)
        → seen_greeting word own far true (greeting_of (greeting (said_by own far) side kind s r)) ≡ Word (greeting word side kind s r)
    greeting_seen word side Syn s r = seen_if _ _ _ (said_seen word Syn side.own 0) (λ i. word Syn (own_number side.own i) 0)
    greeting_seen word side Synack s r = seen_if _ _ _ (said_seen word Synack side.own side.stored) (λ i. word Synack (own_number side.own i) (far_number side.stored i))
    greeting_seen word side Rstack s r = seen_if _ _ _ (said_seen word Rstack r s) (λ i. word Rstack (own_number r i) (far_number s i))
    greeting_seen word side Ack s r = seen_if _ _ _ (said_seen word Ack side.own side.stored) (λ i. word Ack (own_number side.own i) (far_number side.stored i))

-- the answer of a side at a row or a tick
abbrev pub answer_at : (own far : ℕ → Party) → (enters : Bool) → Party → SideByInstances → Reply → (sender receiver : ℕ) → Answer Greeting Party
answer_at own far enters key after found s r =
    let answer = answer_of (λ kind. greeting (said_by own far) after kind s r) found in
    gsmp_answer (if enters then answer_opened key answer else answer)
