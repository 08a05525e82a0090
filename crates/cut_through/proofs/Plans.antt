-- the plan of a join is the join that a controller makes

use Rattle.std.proofs.Common.{◌≡◌, ℕ, true, false, List, [], ◌∷◌, Option, None, Some, refl, sym, ap, ◌∙◌, inl, inr, arith, if◌then◌else◌}
use Rattle.std.specs.Prelude.{nat_le}
use Rattle.std.specs.Option.{option_map, option_and_then}
use Rattle.std.proofs.lemmas.Bool.{cases_lt, cases_eq, cases_Bool, eqb-true, eq-eqb, ne_eqb, le-leb, true≢false}
use Rattle.net_types.specs.declared.node.PortNo.{PortNo}
use Rattle.net_types.specs.declared.channel.End.{End}
use Rattle.ipv4_forward.specs.Best.{best}
use Rattle.ipv4_packet.specs.declared.flow.FlowId.{FlowId}
use Rattle.ipv4_packet.specs.Flow.{flow_ttl, next_hop_of}
use Rattle.ipv4_packet.specs.Parts.{flow_destination}
use Rattle.keyed_lists.specs.Keyed.{at}
use Rattle.port_model.specs.Grants.{Grant, grant_for}
use Rattle.world_model.specs.Controller.{Controller, Linked, linked_at, port_key}
use Rattle.world_model.specs.Joins.{join_by, join_for, port_by}
use Rattle.cut_through.specs.Plan.{join_at, join_under, leads_to, onward_grant, planned, shown, way_of}

-- a linked port is the one that was looked for
port_found : (n : ℕ) (ports : List Linked) (linked : Linked) → at port_key n ports ≡ Some linked → linked.setup.port.0 ≡ n
port_found n [] linked is = absurd (cc is)
port_found n (first ∷ rest) linked is = elim (cases_eq (port_key first) n) [
  | inl same ↦ (
      let found : Some first ≡ Some linked = rw (eq-eqb (port_key first) n same) at is in
      let it : first ≡ linked = cc in
      rw it at same)
  | inr other ↦ port_found n rest linked (rw (ne_eqb (port_key first) n other) at is)
]

same_port : (p q : PortNo) → p.0 ≡ q.0 → p ≡ q
same_port p q e = λ i. record { 0 = e i }

-- where packets don't live long enough there is no flow one hop further
last_hop : (flow : FlowId) → nat_le 2 (flow_ttl flow) ≡ false → next_hop_of flow ≡ None
last_hop flow short = elim (cases_lt 1 (flow_ttl flow)) [
  | inl long ↦ absurd (true≢false (sym (le-leb 2 (flow_ttl flow) (omega (arith, long))) ∙ short))
  | inr over ↦ rw (le-leb (flow_ttl flow) 1 over) refl
]

no_flow : (c : Controller) (input : End) (o : Option PortNo) → join_by c input o None ≡ None
no_flow c input None = refl
no_flow c input (Some port) = refl

no_port : (c : Controller) (input : End) (next : Option FlowId) → join_by c input None next ≡ None
no_port c input next = refl

pub no_way : (c : Controller) (input : End) (flow : FlowId) → way_of c.table flow ≡ None → join_for c input flow ≡ None
no_way c input flow none = elim (cases_Bool (nat_le 2 (flow_ttl flow))) [
  | inl long ↦ (
      let route : port_by (best c.table (flow_destination flow)) ≡ None = rw long at none in
      rw route refl)
  | inr short ↦ rw (last_hop flow short) (no_flow c input (port_by (best c.table (flow_destination flow))))
]

-- the way is that of the route
way_is : (c : Controller) (flow : FlowId) (way : PortNo) → way_of c.table flow ≡ Some way → port_by (best c.table (flow_destination flow)) ≡ Some way
way_is c flow way is = elim (cases_Bool (nat_le 2 (flow_ttl flow))) [
  | inl long ↦ rw long at is
  | inr short ↦ (let none : None ≡ Some way = rw short at is in absurd (cc none))
]

leads_by : (o : Option PortNo) (port : PortNo) → leads_to o port ≡ true → o ≡ Some port
leads_by None port h = absurd (cc h)
leads_by (Some way) port h = ap Some (same_port way port (eqb-true way.0 port.0 h))

pub unlinked : (c : Controller) (input : End) (flow : FlowId) (port : PortNo) → leads_to (way_of c.table flow) port ≡ true → linked_at c port ≡ None
    → join_for c input flow ≡ None
unlinked c input flow port leads none =
    rw (way_is c flow port (leads_by (way_of c.table flow) port leads)) (by (next_hop_of flow))
  where
    by : (o : Option FlowId) → join_by c input (Some port) o ≡ None
    by None = refl
    by (Some next) = rw none refl

-- the join is to the grant of the flow one hop further at the linked port of its way
pub to_grant : (c : Controller) (input : End) (flow : FlowId) (port : PortNo) (linked : Linked) → way_of c.table flow ≡ Some port → linked_at c port ≡ Some linked
    → join_for c input flow ≡ option_map (join_at input port) (onward_grant linked.port.grants flow)
to_grant c input flow port linked way found =
    let same : linked.setup.port ≡ port = same_port linked.setup.port port (port_found port.0 c.ports linked found) in
    rw (way_is c flow port way) (by same (next_hop_of flow))
  where
    by : linked.setup.port ≡ port → (o : Option FlowId)
        → join_by c input (Some port) o ≡ option_map (join_at input port) (option_and_then (grant_for linked.port.grants) o)
    by same None = refl
    by same (Some next) = rw found (ap (λ (p : PortNo). option_map (join_at input p) (grant_for linked.port.grants next)) same)

shown_at : (input : End) (port : PortNo) (o : Option Grant) → option_map shown (option_map (join_at input port) o) ≡ option_map (join_under input port) o
shown_at input port None = refl
shown_at input port (Some grant) = refl

pub joins : (c : Controller) (input : End) (flow : FlowId) (port : PortNo) (linked : Linked) → leads_to (way_of c.table flow) port ≡ true
    → linked_at c port ≡ Some linked → option_map shown (join_for c input flow) ≡ planned input flow c.table port linked.port.grants
joins c input flow port linked leads found =
    ap (option_map shown) (to_grant c input flow port linked (leads_by (way_of c.table flow) port leads) found)
    ∙ shown_at input port (onward_grant linked.port.grants flow)
    ∙ sym (ap (λ b. if b then option_map (join_under input port) (onward_grant linked.port.grants flow) else None) leads)
