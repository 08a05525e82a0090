-- Changes that wait: the first alone can be begun

use Rattle.std.proofs.Common.{◌≡◌, ℕ, zero, suc, ◌+◌, ◌==◌, ◌&&◌, Bool, true, false, List, [], ◌∷◌, ◌++◌, append_assoc, append-nil, length, slice_get, take, Some, refl, sym, ◌∙◌, ap, arith}
use Rattle.std.proofs.lemmas.Bool.Decides.{nat_tests}
use Rattle.net_types.specs.declared.node.NodeId.{NodeId}
use Rattle.ipv4_forward.specs.declared.change.RouteChange.{RouteChange}
use Rattle.world_model.specs.Topology.{Topology}
use Rattle.show_text.specs.Node.{waiting_line, waiting_lines}
use Rattle.tell_show.proofs.Along.{take_push, take_whole}

module _ (t : Topology) (node : NodeId) where
  and_true : (b : Bool) → (b && true) ≡ b
  and_true true = refl
  and_true false = refl

  and_false : (b : Bool) → (b && false) ≡ false
  and_false true = refl
  and_false false = refl

  not_first : (n : ℕ) → (suc n == 0) ≡ false
  not_first n = grind (arith, nat_tests)

  push : (b : Bool) (xs : List RouteChange) (x : RouteChange) → waiting_lines t node b (xs ++ x ∷ []) ≡ waiting_lines t node b xs ++ waiting_line t node (b && (length xs == 0)) x
  push b [] x = append-nil (waiting_line t node b x) ∙ ap (λ (c : Bool). waiting_line t node c x) (sym (and_true b))
  push b (y ∷ xs) x =
      ap (λ rest. waiting_line t node b y ++ rest) (push false xs x)
      ∙ sym (append_assoc (waiting_line t node b y) (waiting_lines t node false xs) (waiting_line t node false x))
      ∙ ap (λ (c : Bool). (waiting_line t node b y ++ waiting_lines t node false xs) ++ waiting_line t node c x) (sym (ap (λ (d : Bool). b && d) (not_first (length xs)) ∙ and_false b))

  so_far : (xs : List RouteChange) (i : ℕ) (x : RouteChange) → slice_get xs i ≡ Some x → length (take i xs) ≡ i
  so_far [] i x e = absurd (cc e)
  so_far (y ∷ xs) zero x e = refl
  so_far (y ∷ xs) (suc i) x e = ap suc (so_far xs i x e)

  -- one line more, and all of them
  pub wait_put : (b : Bool) (xs : List RouteChange) (i : ℕ) (x : RouteChange) (old before new : List ℕ) → slice_get xs i ≡ Some x
      → before ≡ old ++ waiting_lines t node b (take i xs) → new ≡ before ++ waiting_line t node (b && (i == 0)) x → new ≡ old ++ waiting_lines t node b (take (i + 1) xs)
  wait_put b xs i x old before new e were puts =
      puts ∙ ap (λ ys. ys ++ waiting_line t node (b && (i == 0)) x) were
      ∙ append_assoc old (waiting_lines t node b (take i xs)) (waiting_line t node (b && (i == 0)) x)
      ∙ ap (λ (n : ℕ). old ++ (waiting_lines t node b (take i xs) ++ waiting_line t node (b && (n == 0)) x)) (sym (so_far xs i x e))
      ∙ ap (λ ys. old ++ ys) (sym (push b (take i xs) x) ∙ ap (waiting_lines t node b) (sym (take_push xs i x e)))

  pub waits_put : (b : Bool) (xs : List RouteChange) (i : ℕ) (old now : List ℕ) → i ≡ length xs → now ≡ old ++ waiting_lines t node b (take i xs) → now ≡ old ++ waiting_lines t node b xs
  waits_put b xs i old now all were = were ∙ ap (λ ys. old ++ waiting_lines t node b ys) (take_whole xs i all)
