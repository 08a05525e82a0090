-- What octets that no test refuses are, and no others

use Rattle.std.proofs.Common.{◌≡◌, ℕ, ◌+◌, ◌≤◌, ◌==◌, not, Bool, true, false, cond, List, [], ◌∷◌, ◌++◌, length, take, drop, zero, suc, refl, sym, ◌∙◌, ap, subst, arith, Option, Some, None, Result, Ok}
use Rattle.std.specs.Prelude.{nat_lt, slice_index, All, if◌then◌else◌}
use Rattle.std.specs.Str.{bytes_eq}
use Rattle.std.specs.List.{find}
use Rattle.std.proofs.lemmas.Bool.{eqb-true}
use Rattle.std.proofs.lemmas.Grind.{get_or_default_zero}
use Rattle.std.proofs.lemmas.List.{get_or-drop, length-drop, length-take, take-append-drop}
use Rattle.std.proofs.lemmas.Slice.Eq.{bytes_eq-Decides}
use Rattle.gsmp_wire.specs.declared.fault.Fault.{Fault}
use Rattle.gsmp_wire.specs.declared.fault.Fault.TheVariants as faults
use Rattle.gsmp_wire.specs.declared.message.BranchKind.TheVariants.{Add, Delete, Verify, DeleteAll}
use Rattle.gsmp_wire.specs.declared.message.MessageType.{MessageType}
use Rattle.gsmp_wire.specs.declared.message.MessageType.TheVariants as kinds
use Rattle.gsmp_wire.specs.declared.message.Message.{Message}
use Rattle.gsmp_wire.specs.Fields.{channel_in, message_in, party_in, rows_in}
use Rattle.gsmp_wire.specs.Layout.{octets_of, snap_header, type_number}
use Rattle.gsmp_wire.specs.Range.{Bits, Fits, FitsChannel, FitsParty, FitsRows, IsInRange}
use Rattle.gsmp_wire.specs.Refusal.{has_fields, has_size, is_code, is_result, refusal, refusal_at, refusal_by, type_of}
use Rattle.octet_fields.specs.Fields.{u16_at}
use Rattle.gsmp_wire.proofs.Places.{AreOctets, behind, front, number16_fits, number32_fits}
use Rattle.gsmp_wire.proofs.Reading.{kind_of, read_again, type_again, type_at}
use Rattle.gsmp_wire.proofs.Spelling.{IsMessage, length-rows_in, rows_in_message, spelled}

-- a test that refuses nothing was passed
passed : (b : Bool) (fault : Fault) (next : Option Fault) → (if not b then Some fault else next) ≡ None → (b ≡ true) × (next ≡ None)
passed true fault next h = (refl, h)
passed false fault next h = absurd (cc h)

not_short : (b : Bool) (fault : Fault) (next : Option Fault) → (if b then Some fault else next) ≡ None → next ≡ None
not_short true fault next h = absurd (cc h)
not_short false fault next h = h

inside : (x y : MessageType) → ◌≡◌ {A = Option MessageType} (Some x) (Some y) → x ≡ y
inside x y h = cc h

found_by : (b : Bool) (x : MessageType) (next : Option MessageType) (n : ℕ) (kind : MessageType) → (type_number x == n) ≡ b → cond b (Some x) next ≡ Some kind → (next ≡ Some kind → n ≡ type_number kind) → n ≡ type_number kind
found_by true x next n kind test h later = sym (eqb-true (type_number x) n test) ∙ ap type_number (inside x kind h)
found_by false x next n kind test h later = later h

found : (xs : List MessageType) (n : ℕ) (kind : MessageType) → find (λ x. type_number x == n) xs ≡ Some kind → n ≡ type_number kind
found [] n kind h = absurd (cc h)
found (x ∷ xs) n kind h = found_by (type_number x == n) x (find (λ y. type_number y == n) xs) n kind refl h (found xs n kind)

pub type_found : (n : ℕ) (kind : MessageType) → type_of n ≡ Some kind → n ≡ type_number kind
type_found n kind h =
    found (kinds.Adjacency ∷ kinds.Branch Add ∷ kinds.Branch Delete ∷ kinds.Branch Verify ∷ kinds.Branch DeleteAll ∷ kinds.Move ∷ kinds.Port ∷ kinds.AllPorts ∷ []) n kind h

-- octets that no test refuses
pub record IsAccepted (kind : MessageType) (o : List ℕ) : Type 0 where
  pub header : take 8 o ≡ snap_header
  pub message : IsMessage kind (drop 8 o)

pub accepted : (o : List ℕ) (kind : MessageType) → AreOctets o → refusal o ≡ None → type_of (slice_index o 9) ≡ Some kind → IsAccepted kind o
accepted o kind octets none typed =
    let m = drop 8 o in
    let long = not_short (nat_lt (length o) 12) faults.Short _ none in
    let snap = passed (bytes_eq (take 8 o) snap_header) faults.Snap _ long in
    let version = passed (slice_index o 8 == 1) faults.Version _ snap.1 in
    let at_kind : refusal_at kind (drop 8 o) ≡ None = subst (λ (k : Option MessageType). refusal_by k (drop 8 o) ≡ None) typed version.1 in
    let results = passed (is_result kind (slice_index (drop 8 o) 2)) faults.Result _ at_kind in
    let code = passed (is_code kind (slice_index (drop 8 o) 2) (slice_index (drop 8 o) 3)) faults.Code _ results.1 in
    let size = passed (has_size kind (drop 8 o)) faults.Size _ code.1 in
    let fields = passed (has_fields kind (drop 8 o)) faults.Reserved _ size.1 in
    record {
      header = (bytes_eq-Decides (take 8 o) snap_header).0 snap.0;
      message = record {
        octets = behind 8 o octets;
        version = get_or-drop 8 o 0 0 ∙ eqb-true (slice_index o 8) 1 version.0;
        has_type = get_or-drop 8 o 1 0 ∙ type_found (slice_index o 9) kind typed;
        has_result = results.0;
        has_code = code.0;
        has_its_size = size.0;
        has_its_fields = fields.0;
      };
    }

octets_fit : (xs : List ℕ) → AreOctets xs → All (Bits 8) xs
octets_fit xs octets = λ k d inside_it. rw (get_or_default_zero xs k d inside_it) (octets.each k)

party_fits : (name port instance : ℕ) (m : List ℕ) → AreOctets m → name + 6 ≤ length m → FitsParty (party_in name port instance m)
party_fits name port instance m octets room = record {
  name = octets_fit (take 6 (drop name m)) (front 6 (drop name m) (behind name m octets));
  name_length = omega (arith, length-take 6 (drop name m), length-drop name m);
  port = number32_fits port m octets;
  instance = number32_fits instance m octets;
}

channel_fits : (place : ℕ) (m : List ℕ) → AreOctets m → FitsChannel (channel_in place m)
channel_fits place m octets = record { vpi = number16_fits place m octets; vci = number16_fits (place + 2) m octets }

rows_fit : (n : ℕ) (r : List ℕ) → AreOctets r → FitsRows (rows_in n r)
rows_fit zero r octets = tt
rows_fit (suc n) r octets = (
  record { port = number32_fits 0 r octets; session = number32_fits 4 r octets; least = number16_fits 10 r octets; greatest = number16_fits 12 r octets },
  rows_fit n (drop 16 r) (behind 16 r octets),
)

pub fits : (kind : MessageType) (m : List ℕ) → IsMessage kind m → Fits (message_in kind m)
fits kinds.Adjacency m is =
    let size : length m ≡ 32 = eqb-true (length m) 32 is.has_its_size in
    (party_fits 4 16 24 m is.octets (omega arith), party_fits 10 20 28 m is.octets (omega arith))
fits (kinds.Branch kind) m is =
    let o = is.octets in
    (o.each 2, o.each 3, number32_fits 4 m o, number32_fits 8 m o, number32_fits 12 m o, channel_fits 16 m o, number32_fits 20 m o, channel_fits 24 m o, number16_fits 28 m o, o.each 31)
fits kinds.Move m is =
    let o = is.octets in
    (o.each 2, o.each 3, number32_fits 4 m o, number32_fits 8 m o, number32_fits 12 m o, channel_fits 16 m o, number32_fits 20 m o, channel_fits 24 m o, number32_fits 32 m o, channel_fits 36 m o, number16_fits 28 m o, o.each 31)
fits kinds.Port m is =
    let o = is.octets in
    (o.each 2, o.each 3, number32_fits 4 m o, number32_fits 8 m o, number32_fits 12 m o, o.each 16)
fits kinds.AllPorts m is =
    let o = is.octets in
    let few : length (rows_in (u16_at m 8) (drop 12 m)) ≤ 9 = omega (arith, (rows_in_message m is).0, length-rows_in (u16_at m 8) (drop 12 m)) in
    (o.each 2, o.each 3, number32_fits 4 m o, few, rows_fit (u16_at m 8) (drop 12 m) (behind 12 m o))

-- octets that no test refuses are those of the message that is read
pub spelled_whole : (o : List ℕ) (kind : MessageType) → IsAccepted kind o → octets_of (message_in kind (drop 8 o)) ≡ o
spelled_whole o kind is =
    ap (λ (m : List ℕ). snap_header ++ m) (spelled kind (drop 8 o) is.message) ∙ ap (λ (h : List ℕ). h ++ drop 8 o) (sym is.header) ∙ take-append-drop 8 o

pub in_range : (o : List ℕ) (kind : MessageType) → IsAccepted kind o → refusal o ≡ None → IsInRange (message_in kind (drop 8 o))
in_range o kind is none = record {
  fits = fits kind (drop 8 o) is.message;
  accepted = subst (λ (octets : List ℕ). refusal octets ≡ None) (sym (spelled_whole o kind is)) none;
}

-- a message in range is read back from its octets
pub read_whole : (m : Message) (o : List ℕ) (kind : MessageType) → Fits m → o ≡ octets_of m → type_of (slice_index o 9) ≡ Some kind → message_in kind (drop 8 o) ≡ m
read_whole m o kind range is typed =
    let number : slice_index o 9 ≡ type_number (kind_of m) = ap (λ (octets : List ℕ). slice_index octets 9) is ∙ type_at m in
    let kinds_are : kind ≡ kind_of m = inside kind (kind_of m) (sym typed ∙ ap type_of number ∙ type_again (kind_of m)) in
    ap (λ (k : MessageType). message_in k (drop 8 o)) kinds_are ∙ ap (λ (octets : List ℕ). message_in (kind_of m) (drop 8 octets)) is ∙ read_again m range

taken_out : (x y : Message) → ◌≡◌ {A = Result Message Fault} (Ok x) (Ok y) → x ≡ y
taken_out x y h = cc h

pub exact : (o : List ℕ) (kind : MessageType) (x : Message) → AreOctets o → refusal o ≡ None → type_of (slice_index o 9) ≡ Some kind → x ≡ message_in kind (drop 8 o)
    → (m : Message)
    → (◌≡◌ {A = Result Message Fault} (Ok x) (Ok m) → IsInRange m × (o ≡ octets_of m))
    × (IsInRange m × (o ≡ octets_of m) → ◌≡◌ {A = Result Message Fault} (Ok x) (Ok m))
exact o kind x octets none typed is m =
    let whole = accepted o kind octets none typed in
    let answer : Message → Result Message Fault = λ y. Ok y in (
      λ h.
          let same : message_in kind (drop 8 o) ≡ m = sym is ∙ taken_out x m h in
          (subst IsInRange same (in_range o kind whole none), sym (spelled_whole o kind whole) ∙ ap octets_of same),
      λ h. ap answer (is ∙ read_whole m o kind h.0.fits h.1 typed),
    )

-- octets have at most one message
pub one_message : (x y : Message) → IsInRange x → IsInRange y → octets_of x ≡ octets_of y → x ≡ y
one_message x y x_range y_range same =
    let typed : type_of (slice_index (octets_of x) 9) ≡ Some (kind_of x) = ap type_of (type_at x) ∙ type_again (kind_of x) in
    sym (read_whole x (octets_of x) (kind_of x) x_range.fits refl typed) ∙ read_whole y (octets_of x) (kind_of x) y_range.fits same typed
