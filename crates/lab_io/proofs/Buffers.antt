-- Parts of a buffer

use Rattle.std.proofs.Common.{◌≡◌, ◌∙◌, ℕ, ◌+◌, ◌-◌, ◌≤◌, List, ◌++◌, length, take, drop, Option, refl, sym, ap, arith}
use Rattle.std.specs.Io.KnownBytes.{Consumes}
use Rattle.std.proofs.Math.Seq.{take-add}
use Rattle.std.proofs.lemmas.List.{drop-take, drop-drop, take-append-le, take_all}
use Rattle.lab_io.specs.Reading.{Saw}

-- a part of a buffer is what stands in its front
part_of_front : (octets : List ℕ) (start end : ℕ) → start ≤ end → take (end - start) (drop start octets) ≡ drop start (take end octets)
part_of_front octets start end order =
    let whole : start + (end - start) ≡ end = omega arith in
    sym (drop-take start (end - start) octets) ∙ ap (λ n. drop start (take n octets)) whole

-- a part and what was put behind it, where the front is as it was
pub part_more : (old new : List ℕ) (start end count : ℕ) → start ≤ end → take end new ≡ take end old
    → take (end + count - start) (drop start new) ≡ take (end - start) (drop start old) ++ take count (drop end new)
part_more old new start end count order front =
    let sum : end + count - start ≡ (end - start) + count = omega arith in
    let whole : start + (end - start) ≡ end = omega arith in
    rw (sum, take-add, drop-drop, whole, part_of_front new start end order, front, ← part_of_front old start end order) refl

-- a part without its front
pub part_behind : (octets : List ℕ) (start end count : ℕ) → start + count ≤ end
    → take (end - (start + count)) (drop (start + count) octets) ≡ drop count (take (end - start) (drop start octets))
part_behind octets start end count order =
    let sum : end - start ≡ count + (end - (start + count)) = omega arith in
    rw (sum, drop-take, drop-drop) refl

-- a whole slice that was written back
pub written_back : (new old : List ℕ) (len : ℕ) → length new ≡ len → take len (new ++ drop (length new) old) ≡ new
written_back new old len whole =
    rw (← whole, take-append-le (length new) new (drop (length new) old) (omega arith), take_all (length new) new (omega arith)) refl

-- what is held after a read behind it
pub filled : (held items moved read : List ℕ) (start end place count : ℕ) (left_old left_new : Option (List ℕ))
    → take (end - start) (drop start items) ≡ held
    → take (end - start) (drop place moved) ≡ take (end - start) (drop start items)
    → take (place + (end - start)) read ≡ take (place + (end - start)) moved
    → Consumes left_old left_new (take count (drop (place + (end - start)) read))
    → Saw held left_old left_new (take (place + (end - start) + count - place) (drop place read))
filled held items moved read start end place count left_old left_new is same front consumed =
    let span : place + (end - start) - place ≡ end - start = omega arith in
    let all = part_more moved read place (place + (end - start)) count (omega arith) front in
    record {
      read = take count (drop (place + (end - start)) read);
      consumed = consumed;
      behind = all ∙ ap (λ xs. xs ++ take count (drop (place + (end - start)) read)) (rw span (same ∙ is));
    }

-- what is held after a read that failed
pub unfilled : (held items moved read : List ℕ) (start end place : ℕ)
    → take (end - start) (drop start items) ≡ held
    → take (end - start) (drop place moved) ≡ take (end - start) (drop start items)
    → take (place + (end - start)) read ≡ take (place + (end - start)) moved
    → take (place + (end - start) - place) (drop place read) ≡ held
unfilled held items moved read start end place is same front =
    let span : place + (end - start) - place ≡ end - start = omega arith in
    part_of_front read place (place + (end - start)) (omega arith)
    ∙ ap (drop place) front
    ∙ sym (part_of_front moved place (place + (end - start)) (omega arith))
    ∙ rw span (same ∙ is)
