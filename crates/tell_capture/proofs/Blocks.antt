-- The interfaces of some queues and of one more

use Rattle.std.proofs.Common.{◌≡◌, ℕ, zero, suc, ◌+◌, List, [], ◌∷◌, ◌++◌, append_assoc, map, take, Option, None, Some, slice_get, refl, sym, ap, ap₂, ◌∙◌, arith}
use Rattle.std.specs.Option.{option_map_or}
use Rattle.net_types.specs.declared.node.Place.{Place}
use Rattle.world_model.specs.Topology.{Topology}
use Rattle.pcapng_blocks.specs.Blocks.{block_octets, file_octets}
use Rattle.tell_capture.specs.Capture.{interface_of}

append_nil : {A : Type 0} (xs : List A) → xs ++ [] ≡ xs
append_nil [] = refl
append_nil (x ∷ xs) = ap (λ ys. x ∷ ys) (append_nil xs)

-- what a place of a list holds
held : (d one other : Place) → Some one ≡ Some other → one ≡ other
held d one other same = ap (λ (o : Option Place). option_map_or (λ p. p) o d) same

pub blocks_more : (t : Topology) (queues : List Place) (index : ℕ) (place : Place) → slice_get queues index ≡ Some place
    → file_octets (map (interface_of t) (take (suc index) queues)) ≡ file_octets (map (interface_of t) (take index queues)) ++ block_octets (interface_of t place)
blocks_more t [] index place found = absurd (cc found)
blocks_more t (queue ∷ queues) zero place found =
    append_nil (block_octets (interface_of t queue)) ∙ ap (λ p. block_octets (interface_of t p)) (held queue queue place found)
blocks_more t (queue ∷ queues) (suc index) place found =
    ap (λ octets. block_octets (interface_of t queue) ++ octets) (blocks_more t queues index place found)
    ∙ sym (append_assoc (block_octets (interface_of t queue)) (file_octets (map (interface_of t) (take index queues))) (block_octets (interface_of t place)))

pub blocks_step : (t : Topology) (queues : List Place) (index : ℕ) (place : Place) (head now next : List ℕ) → slice_get queues index ≡ Some place
    → now ≡ head ++ file_octets (map (interface_of t) (take index queues)) → next ≡ now ++ block_octets (interface_of t place)
    → next ≡ head ++ file_octets (map (interface_of t) (take (index + 1) queues))
blocks_step t queues index place head now next found before more =
    let front = file_octets (map (interface_of t) (take index queues)) in
    let one : suc index ≡ index + 1 = omega arith in
    more
    ∙ ap (λ octets. octets ++ block_octets (interface_of t place)) before
    ∙ append_assoc head front (block_octets (interface_of t place))
    ∙ ap (λ octets. head ++ octets) (sym (blocks_more t queues index place found))
    ∙ ap (λ k. head ++ file_octets (map (interface_of t) (take k queues))) one

pub map_more : {A : Type 0} (f : Place → A) (queues : List Place) (index : ℕ) (place : Place) → slice_get queues index ≡ Some place
    → map f (take (suc index) queues) ≡ map f (take index queues) ++ f place ∷ []
map_more f [] index place found = absurd (cc found)
map_more f (queue ∷ queues) zero place found = ap (λ p. f p ∷ []) (held queue queue place found)
map_more f (queue ∷ queues) (suc index) place found = ap (λ xs. f queue ∷ xs) (map_more f queues index place found)

pub map_step : {A : Type 0} (f : Place → A) (queues : List Place) (index : ℕ) (place : Place) (now next : List A) (value : A) → slice_get queues index ≡ Some place
    → now ≡ map f (take index queues) → next ≡ now ++ value ∷ [] → value ≡ f place → next ≡ map f (take (index + 1) queues)
map_step f queues index place now next value found before more is =
    let one : suc index ≡ index + 1 = omega arith in
    more
    ∙ ap₂ (λ xs x. xs ++ x ∷ []) before is
    ∙ sym (map_more f queues index place found)
    ∙ ap (λ k. map f (take k queues)) one
