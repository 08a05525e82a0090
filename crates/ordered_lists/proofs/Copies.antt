-- an element is copied to an earlier place

use Rattle.std.proofs.Common.{List, ◌∷◌, ◌++◌}
use Rattle.ordered_lists.specs.Ordered.{Every, InOrder, Holds}
use Rattle.ordered_lists.proofs.Every.{every_left, every_right, every_join, every_map}
use Rattle.ordered_lists.proofs.InOrder.{order_left, order_right, order_across, order_join}

module _ {A : Type 0} (P : A → Type 0) (R : A → A → Type 0) where
  -- x may stand before itself and before all between its copy and its place
  pub copy_back : (a : List A) (x : A) (b c : List A) → R x x → Every (R x) b → Holds P R (a ++ (b ++ (x ∷ c)))
      → Holds P R (a ++ (x ∷ (b ++ (x ∷ c))))
  copy_back a x b c self between h =
      let tail : Every P (b ++ (x ∷ c)) = every_right P a (b ++ (x ∷ c)) h.each in
      let rest : InOrder R (b ++ (x ∷ c)) = order_right R a (b ++ (x ∷ c)) h.order in
      let across : Every (λ z. Every (R z) (x ∷ (b ++ (x ∷ c)))) a =
      every_map (λ z. Every (R z) (b ++ (x ∷ c))) (λ z. Every (R z) (x ∷ (b ++ (x ∷ c)))) a
      (λ z k. ((every_right (R z) b (x ∷ c) k).0, k)) (order_across R a (b ++ (x ∷ c)) h.order) in
      let from_copy : Every (R x) (b ++ (x ∷ c)) =
      every_join (R x) b (x ∷ c) between (self, (order_right R b (x ∷ c) rest).0) in
      record {
        each = every_join P a (x ∷ (b ++ (x ∷ c))) (every_left P a (b ++ (x ∷ c)) h.each)
            ((every_right P b (x ∷ c) tail).0, tail);
        order = order_join R a (x ∷ (b ++ (x ∷ c))) (order_left R a (b ++ (x ∷ c)) h.order) across (from_copy, rest);
      }
