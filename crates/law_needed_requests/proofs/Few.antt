-- what is needed isn't on an input to which nothing is lent, so it is among the others that stand

use Rattle.std.proofs.Common.{◌≡◌, ◌≤◌, ◌+◌, Bool, true, false, List, [], ◌∷◌, length, arith}
use Rattle.std.specs.Prelude.{not, ◌&&◌}
use Rattle.std.specs.Option.{option_map_or}
use Rattle.world_model.specs.Words.{Request, AddBranch, MoveBranch, DeleteTree, VerifyTree, PortManagement, same_end, home_of, Linked}
use Rattle.world_model.specs.gsmp_wire.declared.request.Request.TheVariants.{DeleteAll, AllPorts}
use Rattle.law_controller.specs.ordered_lists.Ordered.{Every}
use Rattle.world_model.specs.port_model.Requests.{request_input}
use Rattle.law_controller.specs.law_controller_facts.Inputs.{takes_inputs}
use Rattle.law_controller.specs.law_controller_facts.Sound.{opened_by}
use Rattle.law_controller.specs.Order.{is_lent, is_default, is_unlent, stands_unlent, one_if, count_of, IsLentMove, MovesLent}
use Rattle.law_controller.specs.Law.{Always, MovesOfLent, StandsFew}
use Rattle.law_needed_requests.specs.Needed.{is_needed_by, is_needed, NeedsFew}

-- of two tests that nothing passes both
both_within : {A : Type 0} (P : A → Type 0) (f g : A → Bool) → ((x : A) → P x → one_if (f x) + one_if (g x) ≤ 1) → (xs : List A) → Every P xs → count_of f xs + count_of g xs ≤ length xs
both_within P f g each [] h = omega arith
both_within P f g each (x ∷ xs) h = omega (arith, each x h.0, both_within P f g each xs h.1)

not_both : (b : Bool) (c : Bool) → one_if b + one_if (not b && c) ≤ 1
not_both true c = omega arith
not_both false true = omega arith
not_both false false = omega arith

lent_or : (d b : Bool) → one_if b + one_if (not d && not b) ≤ 1
lent_or d true = by d
  where
    by : (d : Bool) → 1 + one_if (not d && false) ≤ 1
    by true = omega arith
    by false = omega arith
lent_or true false = omega arith
lent_or false false = omega arith

moved : (b d l : Bool) → l ≡ true → one_if b + one_if (not d && not l) ≤ 1
moved b d false e = absurd (cc e)
moved true true true e = omega arith
moved true false true e = omega arith
moved false true true e = omega arith
moved false false true e = omega arith

module _ (ports : List Linked) where
  apart : (request : Request) → IsLentMove ports request → one_if (is_needed_by ports request) + one_if (option_map_or (is_unlent ports) (request_input request) false) ≤ 1
  apart (AddBranch input output) h = not_both (is_default input) (not (is_lent ports input))
  apart (MoveBranch input from to) h = moved (same_end to (home_of input)) (is_default input) (is_lent ports input) h
  apart (DeleteTree input) h = lent_or (is_default input) (is_lent ports input)
  apart (VerifyTree input) h = not_both false (not (is_default input) && not (is_lent ports input))
  apart (DeleteAll port) h = omega arith
  apart (PortManagement port function) h = omega arith
  apart AllPorts h = omega arith

module _ (moves : Always MovesOfLent) (few : Always StandsFew) where
  pub needs_few : Always NeedsFew
  needs_few o inputs is =
      let c = (takes_inputs (opened_by o) inputs).controller in
      omega (arith, (few o inputs is).others, both_within (MovesLent c.ports) (is_needed c.ports) (stands_unlent c.ports) (λ s h. apart c.ports s.request h) c.desk.standing (moves o inputs is))
