-- a controller that is opened has all that holds between events

use Rattle.std.proofs.Common.{◌≢◌, ℕ, zero, suc, ◌<◌, List, [], ◌∷◌, length, get_or, arith}
use Rattle.std.proofs.lemmas.List.{length-map}
use Rattle.law_controller.specs.world_model.Words.{IsLinkPort, Setup, setup_of}
use Rattle.law_controller.specs.ordered_lists.Ordered.{Every, InOrder}
use Rattle.law_controller.proofs.ordered_lists.Every.{every_map, every_mapped}
use Rattle.law_controller.specs.law_port_facts.Port.{IsRanged}
use Rattle.controller_router.proofs.controller_link.Blocks.{few_ports, link_port, port_below}
use Rattle.law_controller.specs.world_model.controller_model.declared.range.PortRange.{PortRange}
use Rattle.law_controller.specs.law_controller_facts.Sound.{Opening, DifferInPort, opened_by, setups_by}
use Rattle.law_controller.proofs.law_controller_facts.Flows.{always_flowing}
use Rattle.law_controller.specs.Law.{IsOpening}
use Rattle.law_controller.proofs.Laws.{always_holds}
use Rattle.law_controller_conditions.specs.Laws.{IsLabelRange, IsOpened, OpensKept}
use Rattle.law_controller_conditions.proofs.Kept.{kept_whole}

-- *Lists*: by place, and one element after the other
every_from : {A : Type 0} (P : A → Type 0) (xs : List A) → ((k : ℕ) (d : A) → k < length xs → P (get_or xs k d)) → Every P xs
every_from P [] at = tt
every_from P (x ∷ xs) at = (at zero x (omega arith), every_from P xs (λ k d within. at (suc k) d (omega (arith, within))))

differ_from : (ranges : List PortRange) → ((j k : ℕ) (d : PortRange) → j < k → k < length ranges → (get_or ranges j d).port.0 < (get_or ranges k d).port.0) → InOrder DifferInPort ranges
differ_from [] below = tt
differ_from (x ∷ ranges) below = (
  every_from (DifferInPort x) ranges (λ k d within. less_apart x.port.0 (get_or ranges k d).port.0 (below zero (suc k) d (omega arith) (omega (arith, within)))),
  differ_from ranges (λ j k d low within. below (suc j) (suc k) d (omega (arith, low)) (omega (arith, within))),
)
  where
    less_apart : (m n : ℕ) → m < n → m ≢ n
    less_apart m n less e = omega (arith, less, e)

-- *An opening* of ports that ascend
opening_of : (o : Opening) → IsOpened o → IsOpening o
opening_of o is = record {
  differ = differ_from o.ranges (λ j k d low within. port_below o.ranges j k d is.ports low within);
  links = every_from (λ (range : PortRange). IsLinkPort range.port) o.ranges (λ k d within. link_port o.ranges k d is.ports within);
  few = few_ports o.ranges is.ports;
}

ranged_of : (o : Opening) → IsOpened o → Every IsRanged (setups_by o)
ranged_of o is = every_mapped (setup_of o.node o.address o.timers o.policy) IsRanged o.ranges
    (every_map IsLabelRange (λ (range : PortRange). IsRanged (setup_of o.node o.address o.timers o.policy range)) o.ranges
    (λ range r. record { lifetime = is.lifetime; least = r.least; greatest = r.greatest; order = r.order }) (every_from IsLabelRange o.ranges is.ranges))

pub opens_kept : OpensKept
opens_kept o is =
    let opening : IsOpening o = opening_of o is in
    kept_whole (setups_by o) (record {
      few = omega (arith, length-map o.ranges (setup_of o.node o.address o.timers o.policy), opening.few);
      links = every_mapped (setup_of o.node o.address o.timers o.policy) (λ (setup : Setup). IsLinkPort setup.port) o.ranges opening.links;
      ranged = ranged_of o is;
    }) (opened_by o) (always_holds o [] opening) (always_flowing o [] opening.differ)
