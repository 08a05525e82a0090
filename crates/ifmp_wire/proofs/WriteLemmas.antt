-- a part written behind a front

use Rattle.std.proofs.Common.{◌≡◌, ℕ, ◌+◌, ◌-◌, List, [], ◌++◌, length, take, drop, ap, ◌∙◌, arith, append-nil}
use Rattle.std.proofs.lemmas.List.{drop-drop, drop_all, take_all, length-drop}
use Rattle.ipv4_packet.proofs.MessageLemmas.{take-front, drop-front}
use borrow.Rule.Slice.PartMut.{post_of, mid_of}

-- the part of a list behind so many, as a borrow of it shows it
pub mid_of-behind : (place : ℕ) (whole : List ℕ) → mid_of place (length whole - place) whole ≡ drop place whole
mid_of-behind place whole = take_all (length whole - place) (drop place whole) (rw length-drop (omega arith))

pub written-behind : (place : ℕ) (front out whole tail field : List ℕ) (size : ℕ) → length front ≡ place → size ≡ length field → whole ≡ front ++ drop place out → tail ≡ field ++ drop size (mid_of place (length whole - place) whole)
    → take place whole ++ (tail ++ post_of place (length whole - place) whole) ≡ front ++ (field ++ drop (place + size) out)
written-behind place front out whole tail field size place_is size_is whole_is tail_is =
    let start : take place whole ≡ front = rw whole_is (take-front front (drop place out) place place_is) in
    let rest : drop place whole ≡ drop place out = rw whole_is (drop-front front (drop place out) place place_is) in
    let behind : drop size (drop place out) ≡ drop (place + size) out = drop-drop size place out in
    let none : post_of place (length whole - place) whole ≡ [] = drop_all (length whole - place) (drop place whole) (rw length-drop (omega arith)) in
    let tail_told : tail ≡ field ++ drop (place + size) out = tail_is ∙ ap (λ (part : List ℕ). field ++ drop size part) (mid_of-behind place whole ∙ rest) ∙ ap (λ (part : List ℕ). field ++ part) behind in
    ap (λ (part : List ℕ). part ++ (tail ++ post_of place (length whole - place) whole)) start
    ∙ ap (λ (part : List ℕ). front ++ (tail ++ part)) none
    ∙ ap (λ (part : List ℕ). front ++ part) (append-nil tail ∙ tail_told)
