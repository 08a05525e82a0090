use Rattle.std.proofs.Common.{◌≡◌, ◌+◌, ◌-◌, ◌<◌, ◌++◌, ◌∙◌, ℕ, List, [], min, length, take, drop, arith, ap, sym, length-take, length-drop}
use Rattle.std.proofs.lemmas.List.{take-append-drop, drop-drop, nil_from_length, take_rest}
use Rattle.lab_io.proofs.sure.SureSourceSource.read.Goals as goal

-- what was left is what was given and then what is left
given_and_left : (items buffer : List ℕ) (at count : ℕ)
    → take count buffer ≡ take count (take (length items - at) (drop at items))
    → drop at items ≡ take count buffer ++ drop (at + count) items
given_and_left items buffer at count given =
    rw (given, take_rest, ← drop-drop) (sym (take-append-drop count (drop at items)))

-- nothing was given, though there was room for it, so nothing is left
none_left : (items : List ℕ) (at piece room count : ℕ)
    → count ≡ length (take (min piece room) (take (length items - at) (drop at items)))
    → 0 < piece → 0 < room → count ≡ 0 → drop (at + count) items ≡ []
none_left items at piece room count counted some_piece some_room none =
    let is : count ≡ min (min piece room) (length items - at) = rw (take_rest, length-take, length-drop) at counted in
    nil_from_length _ (rw length-drop (omega arith))

pub returns-clause-octets : goal.returns-clause-octets
returns-clause-octets c =
    let front = rw c.deref.ensures.value at c.give-count.ensures.front in
    let counted = rw c.deref.ensures.value at c.give-count.ensures.count in (
      ap (λ s. s.left) (sym c.self.view_is) ∙ given_and_left c.self.inside.octets.items _ c.self.inside.at _ front,
      λ none room. none_left c.self.inside.octets.items c.self.inside.at _ _ _ counted c.self.invariant.1 (omega arith) none,
    )
