-- A controller before its first input.

use Rattle.std.proofs.Common.{◌≡◌, ℕ, zero, suc, ◌+◌, ◌<◌, ◌||◌, Bool, true, false, nat_eq, List, [], ◌∷◌, ◌++◌, append_assoc, length, drop, get_or, map, Option, None, Some, refl, ap, sym, subst, ◌∙◌, arith}
use Rattle.std.specs.List.{list_any}
use Rattle.std.proofs.lemmas.Bool.{eqb-true}
use Rattle.std.proofs.lemmas.List.{at_drop_more, map-append}
use Rattle.net_types.specs.declared.node.NodeId.{NodeId}
use Rattle.net_types.specs.declared.node.PortNo.{PortNo}
use Rattle.net_types.specs.declared.prefix.Addr.{Addr}
use Rattle.net_types.specs.Number.{GivenOut, with_instance}
use Rattle.ordered_lists.specs.Ordered.{Every}
use Rattle.ordered_lists.proofs.Every.{every_map}
use Rattle.keyed_lists.specs.Keyed.{in_order}
use Rattle.ipv4_forward.specs.declared.table.Next.{Next}
use Rattle.ipv4_forward.specs.declared.table.Next.TheVariants.{Local, Via}
use Rattle.ipv4_forward.specs.declared.table.Route.{Route}
use Rattle.ipv4_forward.specs.declared.change.RouteChange.{RouteChange}
use Rattle.crossbar_model.specs.Channels.{ArePorts, IsLinkPort}
use Rattle.frame_model.specs.Reassembly.{nothing_taken}
use Rattle.port_model.specs.declared.timers.Timers.{Timers}
use Rattle.port_model.specs.Setup.{Policy, Setup}
use Rattle.controller_link.specs.Cells as cells
use Rattle.world_model.specs.controller_model.declared.range.PortRange.{PortRange}
use Rattle.world_model.specs.Controller.{Controller, Linked, ports_of}
use Rattle.world_model.specs.Opening.{opened, opens_port, opens_ports, setup_of}
use Rattle.law_joining_conditions.specs.law_controller_facts.Sound.{Opening, linked_setup, opened_by}
use Rattle.controller_gsmp.specs.Client.{PortEnd, end_port, linked_ports}
use Rattle.controller_joining.specs.law_join_facts.Joins.{joined_in}
use Rattle.controller_joining.proofs.law_join_facts.Comes.{le}
use Rattle.controller_joining.proofs.law_join_facts.Flat.{all_joined, joined_is}
use Rattle.controller_router.specs.Engine.{opened_end}
use Rattle.controller_router.specs.Node.{AreLinked, range_of}
use Rattle.controller_joining.specs.Joining.{Joining, controller_of}
use Rattle.law_joining_conditions.specs.law_controller_conditions.Kept.{IsKept}
use Rattle.law_joining_conditions.specs.law_controller_conditions.Laws as laws
use Rattle.law_joining_conditions.specs.law_controller_conditions.Routes.{HasLinkRoutes, IsLinkChange, IsLinkRoute, LeadsToLink, MayLead}
use Rattle.law_joining_conditions.proofs.law_controller_conditions.Leading.{routes_lead_to_links}
use Rattle.law_joining_conditions.proofs.law_controller_conditions.Opening.{opens_kept}
use Rattle.node_controller.specs.Nodes.{AreRoutesOf, AreTimes, IsLabelRange, NamesLinked, NamesLinkedNext, NamesOneOf}
use Rattle.controller.specs.Opening.{opened_ends}
use Rattle.controller.specs.Right.{IsRight}

-- *Lists*, one element after the other
pub every_from : {A : Type 0} (P : A → Type 0) (xs : List A) → ((k : ℕ) (d : A) → k < length xs → P (get_or xs k d)) → Every P xs
every_from P [] at = tt
every_from P (x ∷ xs) at = (at zero x (omega arith), every_from P xs (λ k d within. at (suc k) d (omega (arith, within))))

-- *The engines* stand beside the parts of the region
pub zipped_opened : (setup : PortRange → Setup) (instances : ℕ) (ranges : List PortRange) → linked_ports (opened_ends setup instances ranges) (map (λ range. record { range = range; reassembly = nothing_taken; chains = [] }) ranges) ≡ opens_ports setup instances ranges
zipped_opened setup instances [] = refl
zipped_opened setup instances (range ∷ ranges) = ap (λ (ports : List Linked). opens_port (setup range) instances ∷ ports) (zipped_opened setup (instances + 1) ranges)

module _ (node : NodeId) (address : Addr) (timers : Timers) (policy : Policy) where
  abbrev setup : PortRange → Setup
  setup range = setup_of node address timers policy range

  pub ranges_opened : (instances : ℕ) (ranges : List PortRange) → map range_of (opened_ends setup instances ranges) ≡ ranges
  ranges_opened instances [] = refl
  ranges_opened instances (range ∷ ranges) = ap (λ (others : List PortRange). range ∷ others) (ranges_opened (instances + 1) ranges)

  pub ports_opened : (instances : ℕ) (ranges : List PortRange) → map end_port (opened_ends setup instances ranges) ≡ map (λ range. range.port) ranges
  ports_opened instances [] = refl
  ports_opened instances (range ∷ ranges) = ap (λ (ports : List PortNo). range.port ∷ ports) (ports_opened (instances + 1) ranges)

pub ranges_kept : (ranges : List PortRange) (size : ℕ) → cells.ranges_of (cells.opened ranges size) ≡ ranges
ranges_kept [] size = refl
ranges_kept (range ∷ ranges) size = ap (λ (others : List PortRange). range ∷ others) (ranges_kept ranges size)

-- they are opened one after the other
pub engine_pushed : (setup : PortRange → Setup) (before after : List PortEnd) (numbers given : GivenOut) (k : ℕ) (ranges : List PortRange) (range : PortRange) → k < length ranges → range ≡ get_or ranges k range
    → after ≡ before ++ opened_end (setup range) numbers.instances ∷ [] → given ≡ with_instance numbers
    → after ++ opened_ends setup given.instances (drop (k + 1) ranges) ≡ before ++ opened_ends setup numbers.instances (drop k ranges)
engine_pushed setup before after numbers given k ranges range within here pushed drawn =
    (λ i. pushed i ++ opened_ends setup (drawn i).instances (drop (k + 1) ranges))
    ∙ append_assoc before (opened_end (setup range) numbers.instances ∷ []) (opened_ends setup (numbers.instances + 1) (drop (k + 1) ranges))
    ∙ ap (λ (r : PortRange). before ++ opened_ends setup numbers.instances (r ∷ drop (k + 1) ranges)) here
    ∙ ap (λ (rs : List PortRange). before ++ opened_ends setup numbers.instances rs) (sym (at_drop_more (λ (rs : List PortRange). rs) ranges k range within))

pub pushed_seen : {E : Type 0} (seen : E → PortEnd) (old new : List E) (engine : E) (end : PortEnd) → new ≡ old ++ engine ∷ [] → seen engine ≡ end → map seen new ≡ map seen old ++ end ∷ []
pushed_seen seen old new engine end is e = ap (map seen) is ∙ map-append seen old (engine ∷ []) ∙ ap (λ (x : PortEnd). map seen old ++ x ∷ []) e

-- the controller that they are opened in
module _ (node : NodeId) (address : Addr) (table : List Route) (ranges : List PortRange) (size : ℕ) (timers : Timers) (policy : Policy) (numbers : GivenOut) (ends : List PortEnd)
    (are : ends ≡ opened_ends (setup_of node address timers policy) (numbers.instances + 1) ranges) where
  pub opened_is : record (opened node address table ranges size timers policy numbers) { ports = linked_ports ends (map (λ range. record { range = range; reassembly = nothing_taken; chains = [] }) ranges) } ≡ opened node address table ranges size timers policy numbers
  opened_is = ap (λ (ports : List Linked). record (opened node address table ranges size timers policy numbers) { ports = ports })
      (ap (λ (es : List PortEnd). linked_ports es (map (λ range. record { range = range; reassembly = nothing_taken; chains = [] }) ranges)) are ∙ zipped_opened (setup_of node address timers policy) (numbers.instances + 1) ranges)

  pub linked_opened : ArePorts (map (λ range. range.port) ranges) → AreLinked ends (cells.opened ranges size)
  linked_opened ports = record {
    ports = subst ArePorts (sym (ap (map end_port) are ∙ ports_opened node address timers policy (numbers.instances + 1) ranges)) ports;
    ranges = ranges_kept ranges size ∙ sym (ap (map range_of) are ∙ ranges_opened node address timers policy (numbers.instances + 1) ranges);
  }

-- *No grant is lent*
none_joined : (setup : PortRange → Setup) (instances : ℕ) (ranges : List PortRange) → all_joined (opens_ports setup instances ranges) ≡ []
none_joined setup instances [] = refl
none_joined setup instances (range ∷ ranges) = none_joined setup (instances + 1) ranges

pub no_joins : (o : Opening) → joined_in (opened_by o).controller ≡ []
no_joins o = joined_is (opened_by o).controller ∙ ap (in_order le) (none_joined (setup_of o.node o.address o.timers o.policy) (o.numbers.instances + 1) o.ranges)

-- *Routes* that name linked ports lead to links
any_link : (ports : List PortNo) (port : PortNo) → Every IsLinkPort ports → list_any (λ (other : PortNo). nat_eq other.0 port.0) ports ≡ true → IsLinkPort port
any_link [] port links e = absurd (cc e)
any_link (other ∷ ports) port links e = by (nat_eq other.0 port.0) refl e (any_link ports port links.1) where
  by : (b : Bool) → nat_eq other.0 port.0 ≡ b → (b || list_any (λ (other : PortNo). nat_eq other.0 port.0) ports) ≡ true → (list_any (λ (other : PortNo). nat_eq other.0 port.0) ports ≡ true → IsLinkPort port) → IsLinkPort port
  by true same e later = (let is : other.0 ≡ port.0 = eqb-true _ _ same in subst (λ (n : ℕ). IsLinkPort (record { 0 = n })) is links.0)
  by false same e later = later e

names_link : (ports : List PortNo) (next : Next) → Every IsLinkPort ports → NamesOneOf ports next → LeadsToLink next
names_link ports Local links names = tt
names_link ports (Via port) links names = any_link ports port links names

abbrev port_in : PortRange → PortNo
port_in range = range.port

pub table_links : (table : List Route) (ranges : List PortRange) → ArePorts (map port_in ranges) → AreRoutesOf table ranges → Every IsLinkRoute table
table_links table ranges ports routes = every_map (λ (route : Route). NamesOneOf (map port_in ranges) route.next) IsLinkRoute table
    (λ route names. names_link (map port_in ranges) route.next (every_from IsLinkPort (map port_in ranges) ports.of_links) names)
    (every_from (λ (route : Route). NamesOneOf (map port_in ranges) route.next) table routes)

each_link : (ports : List Linked) → Every (λ (setup : Setup). IsLinkPort setup.port) (map linked_setup ports) → Every IsLinkPort (map (λ linked. linked.setup.port) ports)
each_link [] links = tt
each_link (linked ∷ ports) links = (links.0, each_link ports links.1)

names_change : (ports : List PortNo) (next : Option Next) → Every IsLinkPort ports → (c : Controller) → ports_of c ≡ ports → NamesLinkedNext c next → MayLead next
names_change ports None links c is names = tt
names_change ports (Some next) links c is names = names_link ports next links (subst (λ (p : List PortNo). NamesOneOf p next) is names)

pub change_links : (c : Controller) (change : RouteChange) → IsKept c → NamesLinked c change → IsLinkChange change
change_links c change kept names = names_change (ports_of c) change.next
    (each_link c.ports (subst (Every (λ (setup : Setup). IsLinkPort setup.port)) (sym kept.sound.ports.same) kept.links.links)) c refl names

-- *All that holds*
range_is : (range : PortRange) → IsLabelRange range → laws.IsLabelRange range
range_is range r = record { least = r.least; greatest = r.greatest; order = r.order }

pub starts : {E : Type 0} (seen : E → PortEnd) (j : Joining E) (o : Opening) → ArePorts (map port_in o.ranges) → ((k : ℕ) (d : PortRange) → k < length o.ranges → IsLabelRange (get_or o.ranges k d)) → AreTimes o.timers → AreRoutesOf o.table o.ranges
    → controller_of seen j ≡ (opened_by o).controller → j.joins ≡ [] → IsRight seen j
starts seen j o ports ranges times routes is none = record {
  kept = subst IsKept (sym is) (opens_kept o (record { ports = ports; ranges = λ k d within. range_is (get_or o.ranges k d) (ranges k d within); lifetime = times.lifetime }));
  joined = ap joined_in is ∙ no_joins o ∙ sym none;
  routes = subst HasLinkRoutes (sym is) (routes_lead_to_links.opens o (table_links o.table o.ranges ports routes));
}
