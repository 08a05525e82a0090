use Rattle.std.proofs.Common.{◌≡◌, ℕ, Bool, List, [], ◌∷◌, refl, inl, inr}
use Rattle.std.specs.Prelude.{find, filter, ◌&&◌}
use Rattle.std.proofs.lemmas.Bool.{cases_Bool}
use Rattle.net_types.specs.Label.{label_channel_of}
use Rattle.branch_desk.specs.port_model.Setup.{is_between, label_numbers}
use Rattle.branch_desk.specs.port_model.Labels.{is_spare}
use Rattle.label_pool.proofs.laws.pools_are_the_ports.Goals as goal

-- the first of those that are left is the first that passes both tests
find_filter : (p q : ℕ → Bool) (xs : List ℕ) → find p (filter q xs) ≡ find (λ x. p x && q x) xs
find_filter p q [] = refl
find_filter p q (x ∷ xs) = elim (cases_Bool (q x)) [
  | inl on ↦ elim (cases_Bool (p x)) [
    | inl first ↦ rw (on, first) refl
    | inr later ↦ rw (on, later) (find_filter p q xs)
  ]
  | inr off ↦ elim (cases_Bool (p x)) [
    | inl first ↦ rw (off, first) (find_filter p q xs)
    | inr later ↦ rw (off, later) (find_filter p q xs)
  ]
]

pub returns-clause-lowest : goal.returns-clause-lowest
returns-clause-lowest c = λ setup labels pool held.
    rw held (find_filter (λ number. is_between pool.from pool.to (label_channel_of number)) (is_spare labels) (label_numbers setup))
