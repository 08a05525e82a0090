-- a list of octets, told field by field

use Rattle.std.proofs.Common.{◌≡◌, ℕ, zero, suc, ◌+◌, ◌^◌, ◌≤◌, ◌<◌, List, [], ◌∷◌, ◌++◌, length, take, drop, get_or, refl, ap, sym, ◌∙◌, arith, add-one, append_assoc, length-append}
use Rattle.std.proofs.lemmas.List.{length-drop, length-take, length-take-le, take-append-drop, drop-drop, drop_all, get_or-drop}
use Rattle.std.proofs.lemmas.Nat.{be_bytes_2, be_bytes_4}
use Rattle.std.proofs.Math.Seq.{drop-append-add, drop-cons, take-append_seam}
use Rattle.std.specs.Int.{w16, w32, to_be_bytes}
use Rattle.octet_fields.specs.Fields.{u16_at, u32_at, written}

-- each is an octet
abbrev pub AreOctets : List ℕ → Type 0
AreOctets octets = (place : ℕ) → get_or octets place 0 < 256

pub AreOctets-drop : (octets : List ℕ) (place : ℕ) → AreOctets octets → AreOctets (drop place octets)
AreOctets-drop octets place small i = rw get_or-drop (small (place + i))

pub AreOctets-take : (octets : List ℕ) (size : ℕ) → AreOctets octets → AreOctets (take size octets)
AreOctets-take octets zero small i = omega arith
AreOctets-take [] (suc size) small i = omega arith
AreOctets-take (octet ∷ octets) (suc size) small zero = small 0
AreOctets-take (octet ∷ octets) (suc size) small (suc i) = AreOctets-take octets size (λ (j : ℕ). small (suc j)) i

pub length-part : (octets : List ℕ) (place size : ℕ) → place + size ≤ length octets → length (take size (drop place octets)) ≡ size
length-part octets place size room = length-take-le size (drop place octets) (rw length-drop (omega arith))

pub u16_at-fits : (octets : List ℕ) (place : ℕ) → AreOctets octets → u16_at octets place < 2 ^ 16
u16_at-fits octets place small =
    let part = AreOctets-take (drop place octets) 2 (AreOctets-drop octets place small) in
    omega (arith, part 0, part 1)

pub u32_at-fits : (octets : List ℕ) (place : ℕ) → AreOctets octets → u32_at octets place < 2 ^ 32
u32_at-fits octets place small =
    let part = AreOctets-take (drop place octets) 4 (AreOctets-drop octets place small) in
    omega (arith, part 0, part 1, part 2, part 3)

-- what stands from a place on, where it is known what stands behind its first field
pub octet-then : (octets : List ℕ) (place : ℕ) (rest : List ℕ) → place + 1 ≤ length octets → drop (place + 1) octets ≡ rest → drop place octets ≡ get_or octets place 0 ∷ rest
octet-then octets place rest room behind =
    let inside : place < length octets = omega arith in
    drop-cons octets place 0 inside ∙ ap (λ (tail : List ℕ). get_or octets place 0 ∷ tail) (rw add-one at behind)

pub u16-then : (octets : List ℕ) (place : ℕ) (rest : List ℕ) → AreOctets octets → place + 2 ≤ length octets → drop (place + 2) octets ≡ rest → drop place octets ≡ to_be_bytes w16 (u16_at octets place) ++ rest
u16-then octets place rest small room behind =
    let field = be_bytes_2 (take 2 (drop place octets)) (u16_at octets place) (length-part octets place 2 room) (AreOctets-take (drop place octets) 2 (AreOctets-drop octets place small)) refl in
    let parts : take 2 (drop place octets) ++ drop (place + 2) octets ≡ drop place octets = rw drop-drop at (take-append-drop 2 (drop place octets)) in
    sym parts ∙ ap (λ (tail : List ℕ). take 2 (drop place octets) ++ tail) behind ∙ ap (λ (front : List ℕ). front ++ rest) (sym field)

pub u32-then : (octets : List ℕ) (place : ℕ) (rest : List ℕ) → AreOctets octets → place + 4 ≤ length octets → drop (place + 4) octets ≡ rest → drop place octets ≡ to_be_bytes w32 (u32_at octets place) ++ rest
u32-then octets place rest small room behind =
    let field = be_bytes_4 (take 4 (drop place octets)) (u32_at octets place) (length-part octets place 4 room) (AreOctets-take (drop place octets) 4 (AreOctets-drop octets place small)) refl in
    let parts : take 4 (drop place octets) ++ drop (place + 4) octets ≡ drop place octets = rw drop-drop at (take-append-drop 4 (drop place octets)) in
    sym parts ∙ ap (λ (tail : List ℕ). take 4 (drop place octets) ++ tail) behind ∙ ap (λ (front : List ℕ). front ++ rest) (sym field)

pub nothing-then : (octets : List ℕ) (size : ℕ) → length octets ≡ size → drop size octets ≡ []
nothing-then octets size same = drop_all size octets (omega arith)

-- a write right behind another
pub written_then : (place j : ℕ) (xs ys old : List ℕ) → j ≡ place + length xs → place + length xs ≤ length old → written (written old place xs) j ys ≡ written old place (xs ++ ys)
written_then place j xs ys old here room =
    let size : length (take place old ++ xs) ≡ j = omega (arith, length-append (take place old) xs, length-take place old) in
    let whole : written old place xs ≡ (take place old ++ xs) ++ drop (place + length xs) old = sym (append_assoc (take place old) xs (drop (place + length xs) old)) in
    let front : take j (written old place xs) ≡ take place old ++ xs =
    ap (take j) whole ∙ ap (λ (n : ℕ). take n ((take place old ++ xs) ++ drop (place + length xs) old)) (sym size) ∙ take-append_seam (take place old ++ xs) (drop (place + length xs) old) in
    let far : place + length xs + length ys ≡ place + length (xs ++ ys) = omega (arith, length-append xs ys) in
    let back : drop (j + length ys) (written old place xs) ≡ drop (place + length (xs ++ ys)) old =
    ap (drop (j + length ys)) whole ∙ ap (λ (n : ℕ). drop (n + length ys) ((take place old ++ xs) ++ drop (place + length xs) old)) (sym size)
    ∙ drop-append-add (take place old ++ xs) (drop (place + length xs) old) (length ys) ∙ drop-drop (length ys) (place + length xs) old ∙ ap (λ (n : ℕ). drop n old) far in
    (λ i. front i ++ (ys ++ back i))
    ∙ append_assoc (take place old) xs (ys ++ drop (place + length (xs ++ ys)) old)
    ∙ ap (λ (rest : List ℕ). take place old ++ rest) (sym (append_assoc xs ys (drop (place + length (xs ++ ys)) old)))
