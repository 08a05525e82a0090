-- The octets at a place of a list, and the field that they spell

use Rattle.std.proofs.Common.{◌≡◌, ℕ, ◌+◌, ◌*◌, ◌<◌, ◌≤◌, ◌^◌, ◌&&◌, ◌==◌, Bool, true, false, List, [], ◌∷◌, ◌++◌, length, get_or, take, drop, replicate, refl, sym, ◌∙◌, ap, arith, add-one, inl, inr}
use Rattle.std.specs.Int.{w16, w32, to_be_bytes}
use Rattle.std.specs.List.{list_all}
use Rattle.std.proofs.Math.Seq.{drop-cons}
use Rattle.std.proofs.lemmas.Bool.{eqb-true}
use Rattle.std.proofs.lemmas.Bool.Decides.{leb_tells}
use Rattle.std.proofs.lemmas.List.{drop-drop, get_or-drop, get_or-take, get_or_past, length-drop, length-take, take-append-drop}
use Rattle.std.proofs.lemmas.Nat.{be_bytes_2, be_bytes_4}
use Rattle.octet_fields.specs.Fields.{u16_at, u32_at}
use Rattle.gsmp_wire.specs.Refusal.{are_zero}

-- every element is an octet
pub record AreOctets (m : List ℕ) : Type 0 where
  pub each : (k : ℕ) → get_or m k 0 < 256

pub behind : (i : ℕ) (m : List ℕ) → AreOctets m → AreOctets (drop i m)
behind i m octets = record { each = λ k. rw (get_or-drop i m k 0) (octets.each (i + k)) }

front_at : (n : ℕ) (m : List ℕ) (k : ℕ) → get_or m k 0 < 256 → get_or (take n m) k 0 < 256
front_at n m k octet =
    elim (leb_tells (k + 1) n) [
      | inl (_, before) ↦ let lt : k < n = omega (arith, before) in rw (get_or-take n m k 0 lt) octet
      | inr (_, after) ↦ let past : length (take n m) ≤ k = omega (arith, after, length-take n m) in rw (get_or_past (take n m) k 0 past) (omega arith)
    ]

pub front : (n : ℕ) (m : List ℕ) → AreOctets m → AreOctets (take n m)
front n m octets = record { each = λ k. front_at n m k (octets.each k) }

pub both : (a b : Bool) → (a && b) ≡ true → (a ≡ true) × (b ≡ true)
both true b h = (refl, h)
both false b h = absurd (cc h)

part_rest : (i n : ℕ) (m : List ℕ) → take n (drop i m) ++ drop (i + n) m ≡ drop i m
part_rest i n m = rw (← drop-drop n i m) (take-append-drop n (drop i m))

-- a part and the rest behind it
pub part_at : (i n : ℕ) (m part rest : List ℕ) → part ≡ take n (drop i m) → rest ≡ drop (i + n) m → part ++ rest ≡ drop i m
part_at i n m part rest is behind_it = rw (is, behind_it) (part_rest i n m)

pub octet_at : (i : ℕ) (m rest : List ℕ) → i < length m → rest ≡ drop (i + 1) m → get_or m i 0 ∷ rest ≡ drop i m
octet_at i m rest inside is = ap (λ (xs : List ℕ). get_or m i 0 ∷ xs) (is ∙ rw add-one refl) ∙ sym (drop-cons m i 0 inside)

pub number16_at : (i : ℕ) (m rest : List ℕ) → AreOctets m → i + 2 ≤ length m → rest ≡ drop (i + 2) m → to_be_bytes w16 (u16_at m i) ++ rest ≡ drop i m
number16_at i m rest octets room is =
    let size : length (take 2 (drop i m)) ≡ 2 = omega (arith, length-take 2 (drop i m), length-drop i m) in
    part_at i 2 m (to_be_bytes w16 (u16_at m i)) rest (be_bytes_2 (take 2 (drop i m)) (u16_at m i) size (front 2 (drop i m) (behind i m octets)).each refl) is

pub number32_at : (i : ℕ) (m rest : List ℕ) → AreOctets m → i + 4 ≤ length m → rest ≡ drop (i + 4) m → to_be_bytes w32 (u32_at m i) ++ rest ≡ drop i m
number32_at i m rest octets room is =
    let size : length (take 4 (drop i m)) ≡ 4 = omega (arith, length-take 4 (drop i m), length-drop i m) in
    part_at i 4 m (to_be_bytes w32 (u32_at m i)) rest (be_bytes_4 (take 4 (drop i m)) (u32_at m i) size (front 4 (drop i m) (behind i m octets)).each refl) is

zeros : (xs : List ℕ) → list_all (λ x. x == 0) xs ≡ true → replicate (length xs) 0 ≡ xs
zeros [] h = refl
zeros (x ∷ xs) h =
    let here : x ≡ 0 = eqb-true x 0 (both (x == 0) (list_all (λ y. y == 0) xs) h).0 in
    let there = zeros xs (both (x == 0) (list_all (λ y. y == 0) xs) h).1 in
    λ i. sym here i ∷ there i

pub zeros_at : (i n : ℕ) (m rest : List ℕ) → are_zero i n m ≡ true → i + n ≤ length m → rest ≡ drop (i + n) m → replicate n 0 ++ rest ≡ drop i m
zeros_at i n m rest zero room is =
    let size : length (take n (drop i m)) ≡ n = omega (arith, length-take n (drop i m), length-drop i m) in
    part_at i n m (replicate n 0) rest (ap (λ (k : ℕ). replicate k 0) (sym size) ∙ zeros (take n (drop i m)) zero) is

-- a number of four octets has 32 bits, and one of two has 16
four : (a b c d : ℕ) → a < 256 → b < 256 → c < 256 → d < 256 → a * 256 ^ 3 + b * 256 ^ 2 + c * 256 ^ 1 + d < 2 ^ 32
four a b c d ha hb hc hd = omega arith

two : (a b : ℕ) → a < 256 → b < 256 → a * 256 ^ 1 + b < 2 ^ 16
two a b ha hb = omega arith

pub number32_fits : (i : ℕ) (m : List ℕ) → AreOctets m → u32_at m i < 2 ^ 32
number32_fits i m octets = let each = (front 4 (drop i m) (behind i m octets)).each in four _ _ _ _ (each 0) (each 1) (each 2) (each 3)

pub number16_fits : (i : ℕ) (m : List ℕ) → AreOctets m → u16_at m i < 2 ^ 16
number16_fits i m octets = let each = (front 2 (drop i m) (behind i m octets)).each in two _ _ (each 0) (each 1)
