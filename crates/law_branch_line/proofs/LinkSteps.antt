-- what the link does keeps the invariant

use Rattle.std.proofs.Common.{◌≡◌, ℕ, List, [], ◌∷◌, ◌++◌, map, remove, append_assoc}
use Rattle.ordered_lists.proofs.Parts.{IsPart, part_whole, part_join, part_removed}
use Rattle.law_branch_line.specs.Words.{ToSwitch, ToController}
use Rattle.law_branch_line.specs.Line.{Line, way_to_switch, way_to_controller}
use Rattle.law_branch_line.specs.Moves.{carry_to_switch, carry_to_controller}
use Rattle.law_branch_line.proofs.Trip.{Up, Down, Last, here}
use Rattle.law_branch_line.proofs.Kept.{IsKeptAs, IsKept, with_trip}
use Rattle.law_branch_line.proofs.Stretches.{on_the_way}

pub carry_to_switch_kept : (w : Line) (messages : List ToSwitch) → w.to_switch ≡ messages → IsKept w
    → IsKept (carry_to_switch w messages)
carry_to_switch_kept w [] e kept = kept
carry_to_switch_kept w (m ∷ rest) e kept =
    with_trip w.controller w.fresh _ _ kept (rw append_assoc (rw e at kept.good))

pub carry_to_controller_kept : (w : Line) (messages : List ToController) → w.to_controller ≡ messages
    → IsKept w → IsKept (carry_to_controller w messages)
carry_to_controller_kept w [] e kept = kept
carry_to_controller_kept w (m ∷ rest) e kept =
    with_trip w.controller w.fresh _ _ kept (rw append_assoc (rw e at kept.good))

-- a message of one of the four lists is lost
module _ (w : Line) (place : ℕ) (before : IsKept w) where
  less : (up : List ToController) (down : List ToSwitch) → IsPart up (way_to_controller w)
      → IsPart down (way_to_switch w)
      → IsKeptAs w.controller w.fresh (map Up up ++ (here w.switch ∷ (map Down down ++ (Last ∷ []))))
  less up down p q = with_trip w.controller w.fresh _ _ before (on_the_way w.controller w up down p q before.good)

  pub lose_to_switch_kept : IsKept (record w { to_switch = remove w.to_switch place })
  lose_to_switch_kept = less _ _ (part_whole (way_to_controller w))
      (part_join (part_whole w.at_switch) (part_removed w.to_switch place))

  pub lose_at_switch_kept : IsKept (record w { at_switch = remove w.at_switch place })
  lose_at_switch_kept = less _ _ (part_whole (way_to_controller w))
      (part_join (part_removed w.at_switch place) (part_whole w.to_switch))

  pub lose_to_controller_kept : IsKept (record w { to_controller = remove w.to_controller place })
  lose_to_controller_kept = less _ _ (part_join (part_whole w.at_controller) (part_removed w.to_controller place))
      (part_whole (way_to_switch w))

  pub lose_at_controller_kept : IsKept (record w { at_controller = remove w.at_controller place })
  lose_at_controller_kept = less _ _ (part_join (part_removed w.at_controller place) (part_whole w.to_controller))
      (part_whole (way_to_switch w))
