-- a request that stands and leads one label to another is of a join

use Rattle.std.proofs.Common.{◌≡◌, ℕ, zero, suc, ◌<◌, List, [], ◌∷◌, length, Option, None, Some, refl, sym, ◌∙◌, ap, subst, arith, slice_index_or}
use Rattle.std.specs.Option.{option_and_then}
use Rattle.law_branch_shapes.specs.world_model.Words.{End, number_of_channel, Request, at, Standing, Setup, home_of, Grant, grant_label, Controller, Linked, linked_at, leads, World, site_key, world_after}
use Rattle.law_branch_shapes.specs.ordered_lists.Ordered.{Every}
use Rattle.law_branch_shapes.specs.world_model.port_model.Grants.{lent_input}
use Rattle.law_branch_shapes.specs.law_port_facts.Port.{IsShaped, asks_ports, empties_control, empties_port, opens_input, opens_output, leads_label, leads_grant, joins_label, parts_label, frees_label}
use Rattle.law_branch_shapes.proofs.law_port_facts.Keyed.{at_every}
use Rattle.law_branch_shapes.specs.law_controller_facts.Sound.{setups_by}
use Rattle.law_branch_shapes.proofs.law_controller_facts.Laws.{always_sound}
use Rattle.law_branch_shapes.specs.law_controller.Match.{lent_in, lent_at, MovesJoined, IsOfJoin}
use Rattle.law_branch_shapes.proofs.law_controller.Laws.{always_matched}
use Rattle.law_branch_shapes.proofs.law_lifetimes.Opened.{IsFed, opening_fed}
use Rattle.law_branch_shapes.proofs.law_lifetimes.Runs.{run_fed}
use Rattle.law_branch_shapes.specs.world_model.World.{opened}
use Rattle.law_branch_shapes.specs.law_world_views.Pairs.{IsJoin}
use Rattle.law_fed_worlds.specs.Feeding.{AskedAreJoined}

every_at_place : {A : Type 0} (P : A → Type 0) (xs : List A) (x : A) → Every P xs → (k : ℕ) → k < length xs → slice_index_or xs k x ≡ x → P x
every_at_place P [] x all k low e = absurd (omega (arith, low))
every_at_place P (y ∷ xs) x all zero low e = subst P e all.0
every_at_place P (y ∷ xs) x all (suc k) low e = every_at_place P xs x all.1 k (omega (arith, low)) e

-- *A lent grant* that is found by its output
pub join_found : (c : Controller) (input output : End) → lent_at c.ports output.port.0 (number_of_channel output.channel) ≡ Some input → IsJoin c input output
join_found c input output = by_port (linked_at c output.port) refl
  where
    by_grant : (linked : Linked) → linked_at c output.port ≡ Some linked → (o : Option Grant) → at grant_label (number_of_channel output.channel) linked.port.grants ≡ o
        → option_and_then (λ (grant : Grant). lent_input grant.state) o ≡ Some input → IsJoin c input output
    by_grant linked found None granted e = absurd (cc e)
    by_grant linked found (Some grant) granted e = record { linked = linked; found = found; grant = grant; granted = granted; lent = e }

    by_port : (o : Option Linked) → linked_at c output.port ≡ o → option_and_then (λ (linked : Linked). lent_in linked.port.grants (number_of_channel output.channel)) o ≡ Some input → IsJoin c input output
    by_port None found e = absurd (cc e)
    by_port (Some linked) found e = by_grant linked found (at grant_label (number_of_channel output.channel) linked.port.grants) refl e

-- *Each shape*: one alone leads from one label to another
module _ (setups : List Setup) (c : Controller) (input output : End) (below : 0 < input.port.0) (above : 0 < output.port.0) where
  none_below : (n : ℕ) → 0 < n → n ≡ 0 → ⊥
  none_below n some is = omega (arith, some, is)

  is_home : (end : End) → output ≡ home_of end → ⊥
  is_home end e = none_below output.port.0 above (ap (λ (x : End). x.port.0) e)

  from_home : (end : End) → input ≡ home_of end → ⊥
  from_home end e = none_below input.port.0 below (ap (λ (x : End). x.port.0) e)

  pair_input : (i o : End) → ◌≡◌ {A = Option (End × End)} (Some (i, o)) (Some (input, output)) → i ≡ input
  pair_input i o e = (let both : ◌≡◌ {A = End × End} (i, o) (input, output) = cc e in ap (λ (p : End × End). p.0) both)

  pair_output : (i o : End) → ◌≡◌ {A = Option (End × End)} (Some (i, o)) (Some (input, output)) → o ≡ output
  pair_output i o e = (let both : ◌≡◌ {A = End × End} (i, o) (input, output) = cc e in ap (λ (p : End × End). p.1) both)

  shaped_join : (request : Request) → IsShaped setups request → MovesJoined c.ports request → leads request ≡ Some (input, output) → IsJoin c input output
  shaped_join _ asks_ports moves e = absurd (cc e)
  shaped_join _ (empties_control port is) moves e = absurd (cc e)
  shaped_join _ (empties_port port linked) moves e = absurd (cc e)
  shaped_join _ (opens_input end is) moves e = absurd (is_home end (sym (pair_output end (home_of end) e)))
  shaped_join _ (opens_output end is) moves e = absurd (from_home end (sym (pair_input (home_of end) end e)))
  shaped_join _ (leads_label end is) moves e = absurd (is_home end (sym (pair_output end (home_of end) e)))
  shaped_join _ (leads_grant end is) moves e = absurd (from_home end (sym (pair_input (home_of end) end e)))
  shaped_join _ (joins_label from to i o) moves e =
      let one : from ≡ input = pair_input from to e in
      let other : to ≡ output = pair_output from to e in
      subst (λ (x : End). IsJoin c x output) one (subst (IsJoin c from) other (join_found c from to (moves (λ h. is_home from (sym other ∙ h)))))
  shaped_join _ (parts_label from to i o) moves e = absurd (is_home from (sym (pair_output from (home_of from) e)))
  shaped_join _ (frees_label end is) moves e = absurd (cc e)

pub asked_are_joined : AskedAreJoined
asked_are_joined policy topology events node site found s input output contains leading below above =
    held
  where
    w : World
    w = world_after topology (opened policy topology) events

    fed : IsFed site
    fed = at_every site_key IsFed node.0 w.sites site (run_fed topology events (opened policy topology) (opening_fed policy topology)) found

    shaped : Every (λ (x : Standing). IsShaped (setups_by fed.o) x.request) site.controller.desk.standing
    shaped = subst (λ (c : Controller). Every (λ (x : Standing). IsShaped (setups_by fed.o) x.request) c.desk.standing) fed.now (always_sound fed.o fed.inputs fed.is.differ).requests

    moving : Every (IsOfJoin site.controller.ports) site.controller.desk.standing
    moving = subst (λ (c : Controller). Every (IsOfJoin c.ports) c.desk.standing) fed.now (always_matched fed.o fed.inputs fed.is).moving

    held : IsJoin site.controller input output
    held = shaped_join (setups_by fed.o) site.controller input output below above s.request
        (every_at_place (λ (x : Standing). IsShaped (setups_by fed.o) x.request) site.controller.desk.standing s shaped contains.0 contains.1 contains.2)
        (every_at_place (IsOfJoin site.controller.ports) site.controller.desk.standing s moving contains.0 contains.1 contains.2) leading
