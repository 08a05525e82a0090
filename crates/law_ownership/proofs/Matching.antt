-- a list whose elements say, in order, words of another list: some elements are silent, and some words are of none of them

use Rattle.std.proofs.Common.{List, [], ◌∷◌, ◌++◌}
use Rattle.law_frame_readings.specs.ordered_lists.Ordered.{Every, InOrder}
use Rattle.law_frame_readings.proofs.ordered_lists.Every.{every_all}

pub data Matches {A B : Type 0} (Silent : A → Type 0) (Says : A → B → Type 0) : List A → List B → Type 0 where
  none : Matches Silent Says [] []
  silent : {x : A} {xs : List A} {ws : List B} → Silent x → Matches Silent Says xs ws → Matches Silent Says (x ∷ xs) ws
  apart : {w : B} {xs : List A} {ws : List B} → Matches Silent Says xs ws → Matches Silent Says xs (w ∷ ws)
  says : {x : A} {w : B} {xs : List A} {ws : List B} → Says x w → Matches Silent Says xs ws → Matches Silent Says (x ∷ xs) (w ∷ ws)

module _ {A B : Type 0} {Silent : A → Type 0} {Says : A → B → Type 0} where
  pub matches_join : {xs ys : List A} {ws vs : List B} → Matches Silent Says xs ws → Matches Silent Says ys vs → Matches Silent Says (xs ++ ys) (ws ++ vs)
  matches_join none m = m
  matches_join (silent s k) m = silent s (matches_join k m)
  matches_join (apart k) m = apart (matches_join k m)
  matches_join (says h k) m = says h (matches_join k m)

  -- what is so of every word is so of every element
  pub every_matched : (P : B → Type 0) (Q : A → Type 0) → ((x : A) → Silent x → Q x) → ((x : A) (w : B) → Says x w → P w → Q x)
      → {xs : List A} {ws : List B} → Matches Silent Says xs ws → Every P ws → Every Q xs
  every_matched P Q quiet said none h = tt
  every_matched P Q quiet said (silent {x} s m) h = (quiet x s, every_matched P Q quiet said m h)
  every_matched P Q quiet said (apart m) h = every_matched P Q quiet said m h.1
  every_matched P Q quiet said (says {x} {w} k m) h = (said x w k h.0, every_matched P Q quiet said m h.1)

  -- and so of every two in order
  pub order_matched : (R : B → B → Type 0) (Q : A → A → Type 0) → ((x y : A) → Silent x → Q x y) → ((x y : A) → Silent y → Q x y)
      → ((x y : A) (w v : B) → Says x w → Says y v → R w v → Q x y)
      → {xs : List A} {ws : List B} → Matches Silent Says xs ws → InOrder R ws → InOrder Q xs
  order_matched R Q first second said none h = tt
  order_matched R Q first second said (silent {x} {xs} s m) h = (every_all (Q x) xs (λ y. first x y s), order_matched R Q first second said m h)
  order_matched R Q first second said (apart m) h = order_matched R Q first second said m h.1
  order_matched R Q first second said (says {x} {w} k m) h =
      (every_matched (R w) (Q x) (λ y s. second x y s) (λ y v l r. said x y w v k l r) m h.0, order_matched R Q first second said m h.1)
