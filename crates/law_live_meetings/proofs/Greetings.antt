-- what two ends come to as they greet each other, from each pair of states

use Rattle.std.proofs.Common.{◌≡◌, ℕ, ◌&&◌, Bool, true, false, [], ◌∷◌, ◌⊎◌, inl, inr, None, Some, refl, sym, subst, ap, if◌then◌else◌}
use Rattle.std.specs.Prelude.{◌≢◌}
use Rattle.live_model.specs.world_model.Words.{Said, Syn, Synack, Rstack, Ack, State, Clearing, SynSent, SynRcvd, Estab, Side, Silent, Says, fresh, stays, stores_and, enters_by_ack, enters_by_synack, Resets}
use Rattle.law_live_meetings.specs.Exchange.{Protocol, Ends}
use Rattle.law_live_meetings.proofs.Turns.{pair, Along, one_hears, other_hears, other_waits}

-- *Sides* by their states, and messages by their kinds
module _ {P : Type 0} where
  abbrev pub young : (own : P) (silence : ℕ) → Side P
  young own silence = record { state = SynSent; own = own; stored = None; silence = silence }

  abbrev pub half : (own stored : P) (silence : ℕ) → Side P
  half own stored silence = record { state = SynRcvd; own = own; stored = Some stored; silence = silence }

  abbrev pub full : (own stored : P) (silence : ℕ) → Side P
  full own stored silence = record { state = Estab; own = own; stored = Some stored; silence = silence }

  abbrev pub syn : P → Said P
  syn own = record { kind = Syn; sender = own; receiver = None }

  abbrev pub synack : (own stored : P) → Said P
  synack own stored = record { kind = Synack; sender = own; receiver = Some stored }

  abbrev pub ack : (own stored : P) → Said P
  ack own stored = record { kind = Ack; sender = own; receiver = Some stored }

  abbrev pub rstack : (sender receiver : P) → Said P
  rstack sender receiver = record { kind = Rstack; sender = sender; receiver = Some receiver }

-- *Tests*
pub if_true : {A : Type 0} (b : Bool) (x y : A) → b ≡ true → (if b then x else y) ≡ x
if_true b x y e = ap (λ (c : Bool). if c then x else y) e

pub if_false : {A : Type 0} (b : Bool) (x y : A) → b ≡ false → (if b then x else y) ≡ y
if_false b x y e = ap (λ (c : Bool). if c then x else y) e

pub if_both : {A : Type 0} (b c : Bool) (x y : A) → b ≡ true → c ≡ true → (if b && c then x else y) ≡ x
if_both true c x y e f = if_true c x y f
if_both false c x y e f = absurd (cc e)

pub if_not_first : {A : Type 0} (b c : Bool) (x y : A) → b ≡ false → (if b && c then x else y) ≡ y
if_not_first false c x y e = refl
if_not_first true c x y e = absurd (cc e)

pub if_not_second : {A : Type 0} (b c : Bool) (x y : A) → c ≡ false → (if b && c then x else y) ≡ y
if_not_second false c x y e = refl
if_not_second true c x y e = if_false c x y e

sent_is_up : SynSent ≢ Clearing
sent_is_up e = cc e

half_is_up : SynRcvd ≢ Clearing
half_is_up e = cc e

full_is_up : Estab ≢ Clearing
full_is_up e = cc e

-- a state in which a side begins
abbrev pub IsFirst : State → Type 0
IsFirst state = (state ≡ Clearing) ⊎ (state ≡ SynSent)

pub by_first : (D : State → Type 0) (state : State) → IsFirst state → D Clearing → D SynSent → D state
by_first D state (inl e) clearing sent = subst D (sym e) clearing
by_first D state (inr e) clearing sent = subst D (sym e) sent

module _ {P : Type 0} (protocol : Protocol P) (itself : (x : P) → protocol.same x x ≡ true) (C : Ends P → Type 0) where
  -- *Rows of what an end hears that its peer says to it*
  synack_enters : (own : P) (state : State) → (if protocol.same own own then enters_by_synack else stays state (Says Rstack)) ≡ enters_by_synack
  synack_enters own state = if_true (protocol.same own own) enters_by_synack (stays state (Says Rstack)) (itself own)

  ack_enters : (own stored : P) (state : State)
      → (if protocol.same own own && protocol.same stored stored then enters_by_ack else stays state (Says Rstack)) ≡ enters_by_ack
  ack_enters own stored state = if_both (protocol.same own own) (protocol.same stored stored) enters_by_ack (stays state (Says Rstack)) (itself own) (itself stored)

  rstack_resets : (own stored : P) (state : State)
      → stays state (if protocol.same own own && protocol.same stored stored then Resets else Silent) ≡ stays state Resets
  rstack_resets own stored state = ap (stays state) (if_both (protocol.same own own) (protocol.same stored stored) Resets Silent (itself own) (itself stored))

  -- *Both know each other*
  abbrev Met : (a b : P) → Type 0
  Met a b = Along protocol C (pair (full a b 0) [] (full b a 0) [])

  pub met_again : (a b : P) (n m : ℕ) → Met a b → Along protocol C (pair (full a b n) (ack b a ∷ []) (full b a m) (ack a b ∷ []))
  met_again a b n m end =
      one_hears protocol C (full a b n) (ack b a) [] (full b a m) (ack a b ∷ []) full_is_up enters_by_ack (ack_enters a b Estab) (λ d.
      other_hears protocol C (full a b 0) [] (full b a m) (ack a b) [] full_is_up enters_by_ack (ack_enters b a Estab) (λ d'. end))

  pub halves_meet : (a b : P) (n m : ℕ) → Met a b → Along protocol C (pair (half a b n) (synack b a ∷ []) (half b a m) (synack a b ∷ []))
  halves_meet a b n m end =
      one_hears protocol C (half a b n) (synack b a) [] (half b a m) (synack a b ∷ []) half_is_up enters_by_synack (synack_enters a SynRcvd) (λ d.
      other_hears protocol C (full a b 0) [] (half b a m) (synack a b) (ack a b ∷ []) half_is_up enters_by_synack (synack_enters b SynRcvd) (λ d'.
      met_again a b 0 0 end))

  pub young_meet : (a b : P) (n m : ℕ) → Met a b → Along protocol C (pair (young a n) (syn b ∷ []) (young b m) (syn a ∷ []))
  young_meet a b n m end =
      one_hears protocol C (young a n) (syn b) [] (young b m) (syn a ∷ []) sent_is_up (stores_and SynRcvd Synack) refl (λ d.
      other_hears protocol C (half a b n) [] (young b m) (syn a) (synack a b ∷ []) sent_is_up (stores_and SynRcvd Synack) refl (λ d'.
      halves_meet a b n m end))

  pub asked_meet : (a b : P) (n m : ℕ) → Met a b → Along protocol C (pair (young a n) (synack b a ∷ []) (half b a m) [])
  asked_meet a b n m end =
      one_hears protocol C (young a n) (synack b a) [] (half b a m) [] sent_is_up enters_by_synack (synack_enters a SynSent) (λ d.
      other_hears protocol C (full a b 0) [] (half b a m) (ack a b) [] half_is_up enters_by_ack (ack_enters b a SynRcvd) (λ d'. end))

  -- *One knows nobody*, the other knows it
  pub known_meet : (a b : P) (n m : ℕ) → Met a b → Along protocol C (pair (young a n) (synack b a ∷ []) (half b a m) (syn a ∷ []))
  known_meet a b n m end =
      one_hears protocol C (young a n) (synack b a) [] (half b a m) (syn a ∷ []) sent_is_up enters_by_synack (synack_enters a SynSent) (λ d.
      other_hears protocol C (full a b 0) [] (half b a m) (syn a) (ack a b ∷ []) half_is_up (stores_and SynRcvd Synack) refl (λ d.
      other_hears protocol C (full a b 0) (synack b a ∷ []) (half b a m) (ack a b) [] half_is_up enters_by_ack (ack_enters b a SynRcvd) (λ d.
      one_hears protocol C (full a b 0) (synack b a) [] (full b a 0) [] full_is_up (stays Estab (Says Ack)) refl (λ d.
      other_hears protocol C (full a b 0) [] (full b a 0) (ack a b) [] full_is_up enters_by_ack (ack_enters b a Estab) (λ d'. end)))))

  -- or somebody else
  pub unknown_meet : (a b y : P) (n m : ℕ) → protocol.same y a ≡ false → Met a b
      → Along protocol C (pair (young a n) (synack b y ∷ []) (half b y m) (syn a ∷ []))
  unknown_meet a b y n m apart end =
      one_hears protocol C (young a n) (synack b y) [] (half b y m) (syn a ∷ []) sent_is_up (stays SynSent (Says Rstack))
      (if_false (protocol.same y a) enters_by_synack (stays SynSent (Says Rstack)) apart) (λ d.
      other_hears protocol C (young a n) [] (half b y m) (syn a) (rstack y b ∷ []) half_is_up (stores_and SynRcvd Synack) refl (λ d.
      other_hears protocol C (young a n) (synack b a ∷ []) (half b a m) (rstack y b) [] half_is_up (stays SynRcvd Silent)
      (ap (stays SynRcvd) (if_not_second (protocol.same b b) (protocol.same y a) Resets Silent apart)) (λ d.
      asked_meet a b n m end)))

  -- *One knows somebody else*, the other knows it
  pub half_meet : (a b y : P) (n m : ℕ) → protocol.same y b ≡ false → Met a b
      → Along protocol C (pair (half a y n) (synack b a ∷ []) (half b a m) (synack a y ∷ []))
  half_meet a b y n m apart end =
      one_hears protocol C (half a y n) (synack b a) [] (half b a m) (synack a y ∷ []) half_is_up enters_by_synack (synack_enters a SynRcvd) (λ d.
      other_hears protocol C (full a b 0) [] (half b a m) (synack a y) (ack a b ∷ []) half_is_up (stays SynRcvd (Says Rstack))
      (if_false (protocol.same y b) enters_by_synack (stays SynRcvd (Says Rstack)) apart) (λ d.
      one_hears protocol C (full a b 0) (rstack y a) [] (half b a m) (ack a b ∷ []) full_is_up (stays Estab Silent)
      (ap (stays Estab) (if_not_second (protocol.same a a) (protocol.same y b) Resets Silent apart)) (λ d.
      other_hears protocol C (full a b 0) [] (half b a m) (ack a b) [] half_is_up enters_by_ack (ack_enters b a SynRcvd) (λ d'. end))))

  -- *The other one is in Estab* already, and keeps its silence
  pub confirmed_meet : (a b : P) (n m : ℕ) → Along protocol C (pair (full a b 0) [] (full b a m) [])
      → Along protocol C (pair (half a b n) (ack b a ∷ []) (full b a m) (synack a b ∷ []))
  confirmed_meet a b n m end =
      one_hears protocol C (half a b n) (ack b a) [] (full b a m) (synack a b ∷ []) half_is_up enters_by_ack (ack_enters a b SynRcvd) (λ d.
      other_hears protocol C (full a b 0) [] (full b a m) (synack a b) [] full_is_up (stays Estab (Says Ack)) refl (λ d.
      one_hears protocol C (full a b 0) (ack b a) [] (full b a m) [] full_is_up enters_by_ack (ack_enters a b Estab) (λ d'. end)))

  -- *Both begin anew*
  abbrev BothBegin : Type 0
  BothBegin = (d d' : P) → Along protocol C (pair (fresh protocol.first d) [] (fresh protocol.first d') [])

  pub halves_begin : (a y b x : P) (n m : ℕ) → protocol.same x a ≡ false → protocol.same y b ≡ false → BothBegin
      → Along protocol C (pair (half a y n) (synack b x ∷ []) (half b x m) (synack a y ∷ []))
  halves_begin a y b x n m one_apart other_apart end =
      one_hears protocol C (half a y n) (synack b x) [] (half b x m) (synack a y ∷ []) half_is_up (stays SynRcvd (Says Rstack))
      (if_false (protocol.same x a) enters_by_synack (stays SynRcvd (Says Rstack)) one_apart) (λ d.
      other_hears protocol C (half a y n) [] (half b x m) (synack a y) (rstack x b ∷ []) half_is_up (stays SynRcvd (Says Rstack))
      (if_false (protocol.same y b) enters_by_synack (stays SynRcvd (Says Rstack)) other_apart) (λ d.
      one_hears protocol C (half a y n) (rstack y a) [] (half b x m) (rstack x b ∷ []) half_is_up (stays SynRcvd Resets) (rstack_resets a y SynRcvd) (λ drawn.
      other_hears protocol C (fresh protocol.first drawn) [] (half b x m) (rstack x b) [] half_is_up (stays SynRcvd Resets) (rstack_resets b x SynRcvd) (λ drawn'.
      end drawn drawn'))))

  -- an ACK that isn't good is answered by RSTACK
  abbrev Strays : State → (own stored sender receiver : P) → Type 0
  Strays state own stored sender receiver =
      (if protocol.same receiver own && protocol.same sender stored then enters_by_ack else stays state (Says Rstack)) ≡ stays state (Says Rstack)

  pub fulls_begin : (a y b x : P) (n m : ℕ) → Strays Estab a y b x → Strays Estab b x a y → BothBegin
      → Along protocol C (pair (full a y n) (ack b x ∷ []) (full b x m) (ack a y ∷ []))
  fulls_begin a y b x n m one_strays other_strays end =
      one_hears protocol C (full a y n) (ack b x) [] (full b x m) (ack a y ∷ []) full_is_up (stays Estab (Says Rstack)) one_strays (λ d.
      other_hears protocol C (full a y n) [] (full b x m) (ack a y) (rstack x b ∷ []) full_is_up (stays Estab (Says Rstack)) other_strays (λ d.
      one_hears protocol C (full a y n) (rstack y a) [] (full b x m) (rstack x b ∷ []) full_is_up (stays Estab Resets) (rstack_resets a y Estab) (λ drawn.
      other_hears protocol C (fresh protocol.first drawn) [] (full b x m) (rstack x b) [] full_is_up (stays Estab Resets) (rstack_resets b x Estab) (λ drawn'.
      end drawn drawn'))))

  -- *The other one begins anew*: in either of the states in which it may, with nothing on the way
  module _ (begins : IsFirst protocol.first) where
    abbrev Begins : Side P → Type 0
    Begins a = (state : State) → IsFirst state → (d : P) → Along protocol C (pair a [] (fresh state d) [])

    -- it forgets an RSTACK that still comes
    forgets : (a : Side P) (x b d : P) → Begins a → Along protocol C (pair a [] (fresh protocol.first d) (rstack x b ∷ []))
    forgets a x b d end = by_first (λ s. Along protocol C (pair a [] (fresh s d) (rstack x b ∷ []))) protocol.first begins
        (other_waits protocol C a [] d (rstack x b) [] (end Clearing (inl refl) d) sent) sent
      where
        sent : Along protocol C (pair a [] (fresh SynSent d) (rstack x b ∷ []))
        sent = other_hears protocol C a [] (fresh SynSent d) (rstack x b) [] sent_is_up (stays SynSent Silent) refl (λ d'. end SynSent (inr refl) d)

    pub full_begins_by_young : (a b x : P) (n m : ℕ) → Begins (young a n)
        → Along protocol C (pair (young a n) (ack b x ∷ []) (full b x m) (syn a ∷ []))
    full_begins_by_young a b x n m end =
        one_hears protocol C (young a n) (ack b x) [] (full b x m) (syn a ∷ []) sent_is_up (stays SynSent (Says Rstack)) refl (λ d.
        other_hears protocol C (young a n) [] (full b x m) (syn a) (rstack x b ∷ []) full_is_up (stays Estab (Says Ack)) refl (λ d.
        one_hears protocol C (young a n) (ack b x) [] (full b x m) (rstack x b ∷ []) sent_is_up (stays SynSent (Says Rstack)) refl (λ d.
        other_hears protocol C (young a n) [] (full b x m) (rstack x b) (rstack x b ∷ []) full_is_up (stays Estab Resets) (rstack_resets b x Estab) (λ drawn.
        forgets (young a n) x b drawn end))))

    pub full_begins_by_half : (a y b x : P) (n m : ℕ) → Strays SynRcvd a y b x → Begins (half a y n)
        → Along protocol C (pair (half a y n) (ack b x ∷ []) (full b x m) (synack a y ∷ []))
    full_begins_by_half a y b x n m strays end =
        one_hears protocol C (half a y n) (ack b x) [] (full b x m) (synack a y ∷ []) half_is_up (stays SynRcvd (Says Rstack)) strays (λ d.
        other_hears protocol C (half a y n) [] (full b x m) (synack a y) (rstack x b ∷ []) full_is_up (stays Estab (Says Ack)) refl (λ d.
        one_hears protocol C (half a y n) (ack b x) [] (full b x m) (rstack x b ∷ []) half_is_up (stays SynRcvd (Says Rstack)) strays (λ d.
        other_hears protocol C (half a y n) [] (full b x m) (rstack x b) (rstack x b ∷ []) full_is_up (stays Estab Resets) (rstack_resets b x Estab) (λ drawn.
        forgets (half a y n) x b drawn end))))

    -- *The other one began anew at its tick*, and hears what one said
    pub young_and_begun : (a d : P) (n : ℕ) → Met a d → Along protocol C (pair (young a n) [] (fresh Clearing d) [])
        → Along protocol C (pair (young a n) [] (fresh protocol.first d) (syn a ∷ []))
    young_and_begun a d n met dropped = by_first (λ s. Along protocol C (pair (young a n) [] (fresh s d) (syn a ∷ []))) protocol.first begins
        (other_waits protocol C (young a n) [] d (syn a) [] dropped sent) sent
      where
        sent : Along protocol C (pair (young a n) [] (fresh SynSent d) (syn a ∷ []))
        sent = other_hears protocol C (young a n) [] (fresh SynSent d) (syn a) [] sent_is_up (stores_and SynRcvd Synack) refl (λ d'. asked_meet a d n 0 met)

    -- one begins anew too
    abbrev BeginsToo : P → Type 0
    BeginsToo d = (own : P) → Along protocol C (pair (fresh protocol.first own) [] (fresh SynSent d) [])

    its_own : (a d : P) (n : ℕ) → Met a d → Along protocol C (pair (half a d n) [] (fresh SynSent d) (synack a d ∷ []))
    its_own a d n met =
        other_hears protocol C (half a d n) [] (fresh SynSent d) (synack a d) [] sent_is_up enters_by_synack (synack_enters d SynSent) (λ d'.
        one_hears protocol C (half a d n) (ack d a) [] (full d a 0) [] half_is_up enters_by_ack (ack_enters a d SynRcvd) (λ d''. met))

    anothers : (a y d : P) (n : ℕ) → protocol.same y d ≡ false → BeginsToo d → Along protocol C (pair (half a y n) [] (fresh SynSent d) (synack a y ∷ []))
    anothers a y d n apart both =
        other_hears protocol C (half a y n) [] (fresh SynSent d) (synack a y) [] sent_is_up (stays SynSent (Says Rstack))
        (if_false (protocol.same y d) enters_by_synack (stays SynSent (Says Rstack)) apart) (λ d'.
        one_hears protocol C (half a y n) (rstack y a) [] (fresh SynSent d) [] half_is_up (stays SynRcvd Resets) (rstack_resets a y SynRcvd) both)

    pub half_and_begun : (a y d : P) (n : ℕ) → (y ≡ d) ⊎ (protocol.same y d ≡ false) → Met a d → BeginsToo d
        → Along protocol C (pair (half a y n) [] (fresh Clearing d) [])
        → Along protocol C (pair (half a y n) [] (fresh protocol.first d) (synack a y ∷ []))
    half_and_begun a y d n known met both dropped = by_first (λ s. Along protocol C (pair (half a y n) [] (fresh s d) (synack a y ∷ []))) protocol.first begins
        (other_waits protocol C (half a y n) [] d (synack a y) [] dropped (sent known)) (sent known)
      where
        sent : (y ≡ d) ⊎ (protocol.same y d ≡ false) → Along protocol C (pair (half a y n) [] (fresh SynSent d) (synack a y ∷ []))
        sent (inl e) = subst (λ (z : P). Along protocol C (pair (half a z n) [] (fresh SynSent d) (synack a z ∷ []))) (sym e) (its_own a d n met)
        sent (inr apart) = anothers a y d n apart both

    pub full_and_begun : (a y d : P) (n : ℕ) → BeginsToo d → Along protocol C (pair (full a y n) [] (fresh Clearing d) [])
        → Along protocol C (pair (full a y n) [] (fresh protocol.first d) (ack a y ∷ []))
    full_and_begun a y d n both dropped = by_first (λ s. Along protocol C (pair (full a y n) [] (fresh s d) (ack a y ∷ []))) protocol.first begins
        (other_waits protocol C (full a y n) [] d (ack a y) [] dropped sent) sent
      where
        sent : Along protocol C (pair (full a y n) [] (fresh SynSent d) (ack a y ∷ []))
        sent = other_hears protocol C (full a y n) [] (fresh SynSent d) (ack a y) [] sent_is_up (stays SynSent (Says Rstack)) refl (λ d'.
            one_hears protocol C (full a y n) (rstack y a) [] (fresh SynSent d) [] full_is_up (stays Estab Resets) (rstack_resets a y Estab) both)
