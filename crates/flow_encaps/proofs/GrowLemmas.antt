-- a front that grows by one field after another

use Rattle.std.proofs.Common.{◌≡◌, ℕ, ◌+◌, List, [], ◌++◌, length, take, drop, refl, ap, sym, ◌∙◌, length-append, append_assoc}
use Rattle.std.proofs.lemmas.List.{drop-drop}
use Rattle.octet_fields.specs.Fields.{written}
use Rattle.ipv4_packet.proofs.MessageLemmas.{take-front, drop-front}

-- the front of a list is new up to a place, and old from there on
pub record IsGrown (old now front : List ℕ) (place : ℕ) : Type 0 where
  pub is : now ≡ front ++ drop place old
  pub size : length front ≡ place

pub grown_none : (old : List ℕ) → IsGrown old old [] 0
grown_none old = record { is = refl; size = refl }

pub grown_by : (old now front field new : List ℕ) (place next : ℕ) → IsGrown old now front place → place + length field ≡ next → new ≡ written now place field → IsGrown old new (front ++ field) next
grown_by old now front field new place next known size new_is =
    let start : take place now ≡ front = rw known.is (take-front front (drop place old) place known.size) in
    let rest : drop place now ≡ drop place old = rw known.is (drop-front front (drop place old) place known.size) in
    let behind : drop (place + length field) now ≡ drop next old =
    sym (drop-drop (length field) place now) ∙ ap (λ (part : List ℕ). drop (length field) part) rest ∙ drop-drop (length field) place old ∙ ap (λ (n : ℕ). drop n old) size in
    record {
      is = new_is ∙ ap (λ (part : List ℕ). part ++ (field ++ drop (place + length field) now)) start ∙ ap (λ (part : List ℕ). front ++ (field ++ part)) behind ∙ sym (append_assoc front field (drop next old));
      size = length-append front field ∙ ap (λ (n : ℕ). n + length field) known.size ∙ size;
    }
