-- before the switch is met nothing is joined, so that an answer releases nothing

use Rattle.std.proofs.Common.{◌≡◌, false, List, [], ◌∷◌, Option, None, Some, refl, sym, ◌∙◌, ap, subst, fold, if◌then◌else◌}
use Rattle.std.specs.Prelude.{map, filter}
use Rattle.std.specs.Option.{option_and_then}
use Rattle.law_controller.specs.world_model.Words.{PortNo, Request, leads_home, Setup, home_of, Grant, Session, Work, halts, is_spent, halts_if_spent, Linked, port_key, linked_at, begins, works_as, works, joins_of, releases_input, resets_spent, releases}
use Rattle.law_controller.specs.ordered_lists.Ordered.{Every}
use Rattle.law_controller.specs.world_model.port_model.Grants as grants
use Rattle.law_controller.proofs.law_port_facts.Keyed.{at_every}
use Rattle.law_controller.specs.world_model.Controller.{Acted, ports_of}
use Rattle.law_controller.specs.world_model.Joins.{Join}
use Rattle.law_controller.specs.law_controller_facts.Sound.{IsSound, IsShutLinked}
use Rattle.law_controller.proofs.law_controller_facts.Laws.{has_ports, moves_sound}
use Rattle.law_controller.proofs.law_controller_facts.Joining.{IsJoin, joins_are, resets_spent_goes}
use Rattle.law_controller.specs.Match.{lent_in, lent_at}
use Rattle.law_controller.proofs.Matched.{shut_lent}

module _ (setups : List Setup) where
  none_joined : (a : Acted) → IsSound setups a.controller → a.controller.has_met ≡ false → joins_of a.controller ≡ []
  none_joined a sound unmet = by (joins_of a.controller) (joins_are setups a (has_ports setups a sound))
    where
      by : (joins : List Join) → Every (IsJoin setups a) joins → joins ≡ []
      by [] all = refl
      by (join ∷ joins) all =
          let is : IsJoin setups a join = all.0 in
          let lent : lent_at a.controller.ports join.port.0 join.grant.label ≡ Some join.input = ap (option_and_then (λ (x : Linked). lent_in x.port.grants join.grant.label)) is.found
          ∙ (ap (option_and_then (λ (g : Grant). grants.lent_input g.state)) is.granted ∙ is.input) in
          let none : None ≡ Some join.input = sym (shut_lent a.controller.ports join.port.0 join.grant.label (sound.unmet unmet)) ∙ lent in
          absurd (cc none)

  -- what an answer of meeting the switch finds of the desk
  record IsStill (a b : Acted) : Type 0 where
    desk : b.controller.desk ≡ a.controller.desk
    met : b.controller.has_met ≡ a.controller.has_met

  spent_still : (a : Acted) (q : PortNo) → IsSound setups a.controller → a.controller.has_met ≡ false → IsStill a (resets_spent a q)
  spent_still a q sound unmet = by (linked_at a.controller q) refl
    where
      by : (o : Option Linked) → linked_at a.controller q ≡ o → IsStill a (works a (λ setup desk w. halts_if_spent w) o)
      by None found = record { desk = refl; met = refl }
      by (Some linked) found =
          let shut : IsShutLinked linked = at_every port_key IsShutLinked q.0 a.controller.ports linked (sound.unmet unmet) found in
          subst (λ (w : Work). IsStill a (works_as a linked w)) (ap (λ (o : Option Session). if is_spent o then halts (begins a linked) else begins a linked) (sym shut.session)) (record { desk = refl; met = refl })

  ports_still : (ports : List PortNo) (a : Acted) → IsSound setups a.controller → a.controller.has_met ≡ false → IsStill a (fold resets_spent a ports)
  ports_still [] a sound unmet = record { desk = refl; met = refl }
  ports_still (q ∷ ports) a sound unmet =
      let next : Acted = resets_spent a q in
      let first : IsStill a next = spent_still a q sound unmet in
      let rest : IsStill next (fold resets_spent next ports) = ports_still ports next (moves_sound setups a next (resets_spent_goes setups a q (has_ports setups a sound)) sound) (first.met ∙ unmet) in
      record { desk = rest.desk ∙ first.desk; met = rest.met ∙ first.met }

  pub unmet_desk : (a : Acted) (request : Request) → IsSound setups a.controller → a.controller.has_met ≡ false → (releases a request).controller.desk ≡ a.controller.desk
  unmet_desk a request sound unmet = subst (λ (joins : List Join).
      (fold resets_spent (fold releases_input a (filter (λ input. leads_home input (home_of input) request) (map (λ (join : Join). join.input) joins)))
      (ports_of (fold releases_input a (filter (λ input. leads_home input (home_of input) request) (map (λ (join : Join). join.input) joins))).controller)).controller.desk ≡ a.controller.desk)
      (sym (none_joined a sound unmet)) (ports_still (ports_of a.controller) a sound unmet).desk
