-- a label that is granted in an empty table

use Rattle.std.proofs.Common.{◌≡◌, ℕ, true, false, [], ◌∷◌, Some, Ok, refl, sym, ap, subst, inl, inr}
use Rattle.std.specs.Option.{option_map}
use Rattle.std.proofs.lemmas.Bool.{cases_Bool, eq-eqb}
use Rattle.ipv4_packet.specs.declared.flow.FlowId.{FlowId}
use Rattle.branch_desk.specs.port_model.Grants.{Idle}
use Rattle.grant_table.specs.declared.table.Accepted.TheVariants.{New}
use Rattle.grant_table.specs.Table.{Table, acceptance_in, accepted, is_in_range, state_of, told}

first : (least greatest label lifetime : ℕ) (flow : FlowId) → let table : Table = record { least = least; greatest = greatest; grants = [] } in
    told (acceptance_in table label flow) ≡ Ok New → state_of (accepted table flow lifetime (acceptance_in table label flow)) label ≡ Some Idle
first least greatest label lifetime flow new =
    let table : Table = record { least = least; greatest = greatest; grants = [] } in
    elim (cases_Bool (is_in_range table label)) [
      | inl within ↦ rw within (rw (eq-eqb label label refl) refl)
      | inr beyond ↦ (let bad : told (acceptance_in table label flow) ≡ Ok New = new in absurd (cc (rw beyond at bad)))
    ]

pub granted : (table after : Table) (label lifetime : ℕ) (flow : FlowId) → table.grants ≡ [] → told (acceptance_in table label flow) ≡ Ok New
    → after ≡ accepted table flow lifetime (acceptance_in table label flow) → state_of after label ≡ Some Idle
granted table after label lifetime flow none new is =
    let same : table ≡ record { least = table.least; greatest = table.greatest; grants = [] } = ap (λ gs. record { least = table.least; greatest = table.greatest; grants = gs }) none in
    let goal : state_of (accepted table flow lifetime (acceptance_in table label flow)) label ≡ Some Idle =
    subst (λ (t : Table). told (acceptance_in t label flow) ≡ Ok New → state_of (accepted t flow lifetime (acceptance_in t label flow)) label ≡ Some Idle) (sym same)
    (first table.least table.greatest label lifetime flow) new in
    rw is goal
