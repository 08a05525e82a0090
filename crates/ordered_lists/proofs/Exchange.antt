-- one stretch of a list is exchanged for another, while the property and the relation change

use Rattle.std.proofs.Common.{List, [], ◌++◌}
use Rattle.ordered_lists.specs.Ordered.{Every, InOrder, Holds}
use Rattle.ordered_lists.proofs.Every.{every_left, every_right, every_join, every_map, every_map2, every_zip3, every_swap, every_pairs_left, every_pairs_right, every_pairs_join, every_pairs_map}
use Rattle.ordered_lists.proofs.InOrder.{order_left, order_right, order_across, order_join, order_map}

-- what has to hold where P and R held, P' and R' are to hold, and xs takes the place of ys
pub record Blocks {A : Type 0} (P P' : A → Type 0) (R R' : A → A → Type 0) (ys xs : List A) : Type 0 where
  pub earlier : (z : A) → P z → Every (R z) ys → P' z
  pub later : (z : A) → P z → Every (λ y. R y z) ys → P' z
  pub both_earlier : (z w : A) → P z → P w → P' z → P' w → Every (R z) ys → Every (R w) ys → R z w → R' z w
  pub around : (z w : A) → P z → P w → P' z → P' w → Every (R z) ys → Every (λ y. R y w) ys → R z w → R' z w
  pub both_later : (z w : A) → P z → P w → P' z → P' w → Every (λ y. R y z) ys → Every (λ y. R y w) ys → R z w
      → R' z w
  pub before : (z : A) → P z → P' z → Every (R z) ys → Every (R' z) xs
  pub after : (z : A) → P z → P' z → Every (λ y. R y z) ys → Every (λ x. R' x z) xs
  pub inside : Holds P' R' xs

-- the same where nothing stands before the stretch
pub record Heads {A : Type 0} (P P' : A → Type 0) (R R' : A → A → Type 0) (ys xs : List A) : Type 0 where
  pub later : (z : A) → P z → Every (λ y. R y z) ys → P' z
  pub both_later : (z w : A) → P z → P w → P' z → P' w → Every (λ y. R y z) ys → Every (λ y. R y w) ys → R z w
      → R' z w
  pub after : (z : A) → P z → P' z → Every (λ y. R y z) ys → Every (λ x. R' x z) xs
  pub inside : Holds P' R' xs

-- and where nothing stands behind it
pub record Tails {A : Type 0} (P P' : A → Type 0) (R R' : A → A → Type 0) (ys xs : List A) : Type 0 where
  pub earlier : (z : A) → P z → Every (R z) ys → P' z
  pub both_earlier : (z w : A) → P z → P w → P' z → P' w → Every (R z) ys → Every (R w) ys → R z w → R' z w
  pub before : (z : A) → P z → P' z → Every (R z) ys → Every (R' z) xs
  pub inside : Holds P' R' xs

module _ {A : Type 0} where
  -- nothing but the stretch changes
  pub steady : (P : A → Type 0) (R : A → A → Type 0) (ys xs : List A)
      → ((z : A) → P z → Every (R z) ys → Every (R z) xs)
      → ((z : A) → P z → Every (λ y. R y z) ys → Every (λ x. R x z) xs)
      → Holds P R xs
      → Blocks P P R R ys xs
  steady P R ys xs before after inside = record {
    earlier = λ z p r. p;
    later = λ z p r. p;
    both_earlier = λ z w p q p' q' r s t. t;
    around = λ z w p q p' q' r s t. t;
    both_later = λ z w p q p' q' r s t. t;
    before = λ z p p' r. before z p r;
    after = λ z p p' r. after z p r;
    inside = inside;
  }

  -- a stretch of a list holds what the list does
  pub holds_stretch : (P : A → Type 0) (R : A → A → Type 0) (a ys c : List A) → Holds P R (a ++ (ys ++ c))
      → Holds P R ys
  holds_stretch P R a ys c h = record {
    each = every_left P ys c (every_right P a (ys ++ c) h.each);
    order = order_left R ys c (order_right R a (ys ++ c) h.order);
  }

  -- z stands before all of ys, or behind it
  abbrev Ahead : (A → A → Type 0) → List A → A → Type 0
  Ahead R ys z = Every (R z) ys

  abbrev Behind : (A → A → Type 0) → List A → A → Type 0
  Behind R ys z = Every (λ y. R y z) ys

  pub exchange_head : (P P' : A → Type 0) (R R' : A → A → Type 0) (ys c xs : List A)
      → (Holds P R ys → Heads P P' R R' ys xs)
      → Holds P R (ys ++ c)
      → Holds P' R' (xs ++ c)
  exchange_head P P' R R' ys c xs f h =
      let b : Heads P P' R R' ys xs = f (holds_stretch P R [] ys c h) in
      let kept : Every P c = every_right P ys c h.each in
      let near : Every (Behind R ys) c = every_swap R ys c (order_across R ys c h.order) in
      let new : Every P' c = every_map2 P (Behind R ys) P' c b.later kept near in
      let all : Every (λ z. P z × P' z × Behind R ys z) c = every_zip3 P P' (Behind R ys) c kept new near in
      let across : Every (Behind R' xs) c =
      every_map (λ z. P z × P' z × Behind R ys z) (Behind R' xs) c (λ z t. b.after z t.0 t.1 t.2) all in
      let within : InOrder R' c =
      order_map R R' (λ z. P z × P' z × Behind R ys z) c
      (λ z w p q. b.both_later z w p.0 q.0 p.1 q.1 p.2 q.2) all (order_right R ys c h.order) in
      record {
        each = every_join P' xs c b.inside.each new;
        order = order_join R' xs c b.inside.order (every_swap (λ z x. R' x z) c xs across) within;
      }

  pub exchange_tail : (P P' : A → Type 0) (R R' : A → A → Type 0) (a ys xs : List A)
      → (Holds P R ys → Tails P P' R R' ys xs)
      → Holds P R (a ++ ys)
      → Holds P' R' (a ++ xs)
  exchange_tail P P' R R' a ys xs f h =
      let b : Tails P P' R R' ys xs =
      f (record { each = every_right P a ys h.each; order = order_right R a ys h.order }) in
      let kept : Every P a = every_left P a ys h.each in
      let near : Every (Ahead R ys) a = order_across R a ys h.order in
      let new : Every P' a = every_map2 P (Ahead R ys) P' a b.earlier kept near in
      let all : Every (λ z. P z × P' z × Ahead R ys z) a = every_zip3 P P' (Ahead R ys) a kept new near in
      let within : InOrder R' a =
      order_map R R' (λ z. P z × P' z × Ahead R ys z) a
      (λ z w p q. b.both_earlier z w p.0 q.0 p.1 q.1 p.2 q.2) all (order_left R a ys h.order) in
      let across : Every (Ahead R' xs) a =
      every_map (λ z. P z × P' z × Ahead R ys z) (Ahead R' xs) a (λ z t. b.before z t.0 t.1 t.2) all in
      record {
        each = every_join P' a xs new b.inside.each;
        order = order_join R' a xs within across b.inside.order;
      }

  pub exchange_block : (P P' : A → Type 0) (R R' : A → A → Type 0) (a ys c xs : List A)
      → (Holds P R ys → Blocks P P' R R' ys xs)
      → Holds P R (a ++ (ys ++ c))
      → Holds P' R' (a ++ (xs ++ c))
  exchange_block P P' R R' a ys c xs f h =
      let b : Blocks P P' R R' ys xs = f (holds_stretch P R a ys c h) in
      let behind : Holds P R (ys ++ c) =
      record { each = every_right P a (ys ++ c) h.each; order = order_right R a (ys ++ c) h.order } in
      let rest : Holds P' R' (xs ++ c) =
      exchange_head P P' R R' ys c xs
      (λ k. record { later = b.later; both_later = b.both_later; after = b.after; inside = b.inside }) behind in
      let before : Every P a = every_left P a (ys ++ c) h.each in
      let ahead : Every (λ z. Every (R z) (ys ++ c)) a = order_across R a (ys ++ c) h.order in
      let near : Every (Ahead R ys) a = every_pairs_left R a ys c ahead in
      let new : Every P' a = every_map2 P (Ahead R ys) P' a b.earlier before near in
      let all : Every (λ z. P z × P' z × Ahead R ys z) a = every_zip3 P P' (Ahead R ys) a before new near in
      let last : Every (λ z. P z × P' z × Behind R ys z) c =
      every_zip3 P P' (Behind R ys) c (every_right P ys c behind.each) (every_right P' xs c rest.each)
      (every_swap R ys c (order_across R ys c behind.order)) in
      let within : InOrder R' a =
      order_map R R' (λ z. P z × P' z × Ahead R ys z) a
      (λ z w p q. b.both_earlier z w p.0 q.0 p.1 q.1 p.2 q.2) all (order_left R a (ys ++ c) h.order) in
      let to_stretch : Every (Ahead R' xs) a =
      every_map (λ z. P z × P' z × Ahead R ys z) (Ahead R' xs) a (λ z t. b.before z t.0 t.1 t.2) all in
      let to_rest : Every (λ z. Every (R' z) c) a =
      every_pairs_map R R' (λ z. P z × P' z × Ahead R ys z) (λ z. P z × P' z × Behind R ys z) a c
      (λ z w p q. b.around z w p.0 q.0 p.1 q.1 p.2 q.2) all last (every_pairs_right R a ys c ahead) in
      record {
        each = every_join P' a (xs ++ c) new rest.each;
        order = order_join R' a (xs ++ c) within (every_pairs_join R' a xs c to_stretch to_rest) rest.order;
      }

  -- the list stays, and the property and the relation change
  pub change : (P P' : A → Type 0) (R R' : A → A → Type 0) (xs : List A)
      → ((z : A) → P z → P' z)
      → ((z w : A) → P z → P w → R z w → R' z w)
      → Holds P R xs
      → Holds P' R' xs
  change P P' R R' xs f g h = record {
    each = every_map P P' xs f h.each;
    order = order_map R R' P xs g h.each h.order;
  }
