-- Branches, taken one by one

use Rattle.std.proofs.Common.{◌≡◌, ℕ, suc, List, [], ◌∷◌, ◌++◌, length, map, Option, None, Some, refl, ◌∙◌, ap, flat_map}
use Rattle.std.proofs.lemmas.List.Concat.{flat_map-cons}
use Rattle.std.proofs.lemmas.List.Folds.{flat_map-map}
use Rattle.std.specs.FinMap.{entries}
use Rattle.net_types.specs.declared.channel.End.{End}
use Rattle.net_types.specs.declared.node.NodeId.{NodeId}
use Rattle.crossbar_model.specs.declared.branch.Branch.{Branch}
use Rattle.crossbar_model.specs.Crossbar.{Branches}
use Rattle.fabric.specs.Following.{branch_behind}
use Rattle.fabric.proofs.Behind.{behind_all, behind_end, behind_next, branches_behind}
use Rattle.world_model.specs.Topology.{Topology}
use Rattle.show_text.specs.Switch.{branch_line, branch_lines}

abbrev pub pair_line : Topology → NodeId → End × End → List ℕ
pair_line t node b = branch_line t node b.0 b.1

-- the lines of the branches behind an input
abbrev pub lines_behind : Topology → NodeId → Branches → Option End → List ℕ
lines_behind t node m after = flat_map (pair_line t node) (branches_behind m after)

module _ (t : Topology) (node : NodeId) (m : Branches) where
  pub all_lines : lines_behind t node m None ≡ branch_lines t node m
  all_lines = ap (flat_map (pair_line t node)) (behind_all m) ∙ flat_map-map (pair_line t node) (λ (e : End × Branch). (e.0, e.1.output)) (entries m)

  pub next_branch : (after : Option End) (b : End × End) → branch_behind m after ≡ Some b → lines_behind t node m after ≡ pair_line t node b ++ lines_behind t node m (Some b.0)
  next_branch after b found = ap (flat_map (pair_line t node)) (behind_next m after b found) ∙ flat_map-cons (pair_line t node) b (branches_behind m (Some b.0))

  pub no_branch : (after : Option End) → branch_behind m after ≡ None → lines_behind t node m after ≡ []
  no_branch after none = ap (flat_map (pair_line t node)) (behind_end m after none)

length_mapped : {A B : Type 0} (f : A → B) (xs : List A) → length (map f xs) ≡ length xs
length_mapped f [] = refl
length_mapped f (x ∷ xs) = ap suc (length_mapped f xs)

module _ (m : Branches) where
  pub all_counted : length (branches_behind m None) ≡ length (entries m)
  all_counted = ap length (behind_all m) ∙ length_mapped (λ (e : End × Branch). (e.0, e.1.output)) (entries m)

  pub next_counted : (after : Option End) (b : End × End) → branch_behind m after ≡ Some b → length (branches_behind m after) ≡ suc (length (branches_behind m (Some b.0)))
  next_counted after b found = ap length (behind_next m after b found)

  pub none_counted : (after : Option End) → branch_behind m after ≡ None → length (branches_behind m after) ≡ 0
  none_counted after none = ap length (behind_end m after none)
