-- a cleared node whose default channels lead is unlabelled, before the first packet enters

use Rattle.std.proofs.Common.{◌≡◌, ℕ, ◌==◌, ◌||◌, ◌&&◌, ◌*◌, ◌<◌, not, Bool, true, false, true≢false, List, [], ◌∷◌, map, reverse, Option, None, Some, refl, sym, ◌∙◌, ap, subst, cond, arith, is_some, if◌then◌else◌}
use Rattle.std.specs.Prelude.{filter, find}
use Rattle.std.specs.Option.{option_map_or}
use Rattle.std.specs.List.{list_any, range_with_len}
use Rattle.std.proofs.lemmas.Bool.Decides.{nat_tests}
use Rattle.world_model.specs.Words.{NodeId, PortNo, End, Policy, Setup, PortRow, session_of, default_end, default_home, default_range, labels_of, control_port, timers_of, setup_of, Linked, Session, Topology, Site}
use Rattle.world_model.specs.Switch.{begun as begun_port}
use Rattle.world_model.specs.Answers.{port_row}
use Rattle.world_model.specs.Topology.{Node, peer_of, linked_ports, range_among, ranges_of, vpis_of}
use Rattle.world_model.specs.crossbar_model.Crossbar.{output_of}
use Rattle.world_model.specs.port_model.Port.{Port}
use Rattle.world_model.specs.switch_model.declared.port.PortState.{PortState}
use Rattle.world_model.specs.controller_model.declared.range.PortRange.{PortRange}
use Rattle.world_model.specs.network_model.declared.link.LinkEnd.{LinkEnd}
use Rattle.world_model.specs.link_model.declared.frames.Frame.{Frame}
use Rattle.calm_model.specs.Unlabelled.{is_labels, IsUnlabelledPort, IsUnlabelledNode}
use Rattle.law_live_begun.specs.Begun.{range_at, HasFitLines}
use Rattle.law_link_parties.specs.law_run_facts.ordered_lists.Ordered.{Every}
use Rattle.law_link_parties.proofs.law_run_facts.ordered_lists.Every.{every_mapped, every_unmapped}
use Rattle.law_link_parties.specs.law_run_facts.Nodes.{IsNodeOf}
use Rattle.law_live_begun.specs.First.{rows_of, IsFirstPort, IsFirstBranch, home, out, IsFirstNode}
use Rattle.law_live_begun.specs.Beats.{IsClearedSite}

-- *The records of ports that began together* tell their session
abbrev pub rows_by : (session : ℕ) → List PortNo → List PortRow
rows_by session ports = map port_row (map (begun_port (record { 0 = session })) ports)

same_number : (n : ℕ) → (n == n) ≡ true
same_number n = grind (arith, nat_tests)

pub or_right : (a : Bool) {b : Bool} → b ≡ true → (a || b) ≡ true
or_right true e = refl
or_right false e = e

pub rows_tell : (session : ℕ) (ports : List PortNo) (port : PortNo) → list_any (λ (p : PortNo). p.0 == port.0) ports ≡ true → session_of (rows_by session ports) port ≡ session
rows_tell session [] port e = absurd (cc e)
rows_tell session (first ∷ ports) port e = elim (first.0 == port.0) as (λ b. (b || list_any (λ (p : PortNo). p.0 == port.0) ports) ≡ true
    → option_map_or (λ (row : PortRow). row.session) (if b then Some (port_row (begun_port (record { 0 = session }) first)) else find (λ (row : PortRow). row.port == port.0) (rows_by session ports)) 0 ≡ session) [
      | true ↦ λ e. refl
      | false ↦ λ e. rows_tell session ports port e
    ] e

pub any_self : (P : PortNo → Type 0) (ports : List PortNo) → ((port : PortNo) → list_any (λ (p : PortNo). p.0 == port.0) ports ≡ true → P port) → Every P ports
any_self P [] all = tt
any_self P (first ∷ ports) all =
    (all first (ap (λ b. b || list_any (λ (p : PortNo). p.0 == first.0) ports) (same_number first.0)), any_self P ports (λ port e. all port (or_right (first.0 == port.0) e)))

sessions_told : (session : ℕ) (ports : List PortNo) → Every (λ (state : PortState). session_of (rows_by session ports) state.number ≡ state.session) (map (begun_port (record { 0 = session })) ports)
sessions_told session ports = every_mapped (begun_port (record { 0 = session })) (λ (state : PortState). session_of (rows_by session ports) state.number ≡ state.session) ports
    (any_self (λ (port : PortNo). session_of (rows_by session ports) port ≡ session) ports (rows_tell session ports))

-- *What passes a test* does
filtered : (test : PortNo → Bool) (ports : List PortNo) → Every (λ (port : PortNo). test port ≡ true) (filter test ports)
filtered test [] = tt
filtered test (port ∷ ports) = elim (test port) as (λ b. test port ≡ b → Every (λ (p : PortNo). test p ≡ true) (cond b (port ∷ filter test ports) (filter test ports))) [
  | true ↦ λ e. (e, filtered test ports)
  | false ↦ λ e. filtered test ports
] refl

-- *The range of a port* is that port's
same_port : (p q : PortNo) → (p.0 == q.0) ≡ true → p ≡ q
same_port p q e = (let same : p.0 ≡ q.0 = grind (arith, nat_tests, e) in λ i. record { 0 = same i })

found_range : (port : PortNo) (ranges : List PortRange)
    → (option_map_or (λ (range : PortRange). range) (find (λ (range : PortRange). range.port.0 == port.0) ranges) (default_range port)).port ≡ port
found_range port [] = refl
found_range port (range ∷ ranges) = elim (range.port.0 == port.0) as (λ t. (range.port.0 == port.0) ≡ t
    → (option_map_or (λ (r : PortRange). r) (if t then Some range else find (λ (r : PortRange). r.port.0 == port.0) ranges) (default_range port)).port ≡ port) [
      | true ↦ λ e. same_port range.port port e
      | false ↦ λ e. found_range port ranges
    ] refl

-- *What is set up* at a port of a node is as the lines have it
pub record IsSetAsLines (node : Node) (setup : Setup) : Type 0 where
  pub least : setup.least ≡ (range_among node.ranges setup.port).lo
  pub greatest : setup.greatest ≡ (range_among node.ranges setup.port).hi

module _ (policy : Policy) (topology : Topology) (node : NodeId) (site : Site) (is : IsNodeOf policy topology node site) where
  pub set_as_lines : Every (λ (l : Linked). IsSetAsLines is.there l.setup) site.controller.ports
  set_as_lines = every_unmapped (λ (l : Linked). l.setup) (IsSetAsLines is.there) site.controller.ports
      (subst (Every (IsSetAsLines is.there)) (sym is.setups) (every_mapped (setup_of node is.there.address (timers_of topology) policy) (IsSetAsLines is.there) (ranges_of topology node is.there)
      (every_mapped (range_among is.there.ranges) (λ (range : PortRange). IsSetAsLines is.there (setup_of node is.there.address (timers_of topology) policy range)) (linked_ports topology node)
      (any_self (λ (port : PortNo). IsSetAsLines is.there (setup_of node is.there.address (timers_of topology) policy (range_among is.there.ranges port))) (linked_ports topology node)
      (λ port e. record {
        least = ap (λ (p : PortNo). (range_among is.there.ranges p).lo) (sym (found_range port (reverse is.there.ranges)));
        greatest = ap (λ (p : PortNo). (range_among is.there.ranges p).hi) (sym (found_range port (reverse is.there.ranges)));
      })))))

  are_linked : Every (λ (l : Linked). is_some (peer_of topology node l.setup.port) ≡ true) site.controller.ports
  are_linked = every_unmapped (λ (l : Linked). l.setup.port) (λ (port : PortNo). is_some (peer_of topology node port) ≡ true) site.controller.ports
      (subst (Every (λ (port : PortNo). is_some (peer_of topology node port) ≡ true)) (sym is.ports)
      (filtered (λ port. is_some (peer_of topology node port)) (map (λ n. record { 0 = n }) (range_with_len 1 8))))

  -- the range that the lines give is that of the node's
  pub range_is : (port : PortNo) → range_at topology (record { node = node; port = port }) ≡ range_among is.there.ranges port
  range_is port = ap (λ (o : Option Node). option_map_or (λ (n : Node). range_among n.ranges port) o (default_range port)) is.is

-- *No label* is held by such a port
pub no_label : (port : Port) → IsFirstPort port → labels_of port ≡ []
no_label port first = by port.session refl
  where
    by : (o : Option Session) → port.session ≡ o → option_map_or (λ (s : Session). s.labels) o [] ≡ []
    by None e = refl
    by (Some s) e = (first.session s e).labels

-- *Branches of default channels* are of no label
and_false : (b : Bool) → (b && false) ≡ false
and_false true = refl
and_false false = refl

not_label : (ports : List PortNo) (input output : End) → IsFirstBranch ports input output → is_labels input ≡ false
not_label ports input output (home port within) = and_false (not (port.0 == 0))
not_label ports input output (out port within) = refl

-- *The node*
pub record PortLeads (site : Site) (port : PortNo) : Type 0 where
  pub home : output_of site.switch.crossbar.branches (default_end port) ≡ Some (default_home port)
  pub out : output_of site.switch.crossbar.branches (default_home port) ≡ Some (default_end port)

module _ (policy : Policy) (topology : Topology) (frames : List Frame) (fit : HasFitLines topology) (node : NodeId) (site : Site) (is : IsNodeOf policy topology node site)
    (first : IsFirstNode topology frames node site) (cleared : IsClearedSite site)
    (ways : (port : PortNo) → is_some (peer_of topology node port) ≡ true → PortLeads site port) where
  rows_are : site.controller.desk.rows ≡ rows_of first.start
  rows_are = first.is.controller.known cleared.cleared.has_met

  sessions : Every (λ (state : PortState). session_of site.controller.desk.rows state.number ≡ state.session) site.switch.ports
  sessions = subst (λ (rows : List PortRow). Every (λ (state : PortState). session_of rows state.number ≡ state.session) site.switch.ports) (sym rows_are)
      (subst (Every (λ (state : PortState). session_of (rows_of first.start) state.number ≡ state.session)) (sym first.is.switch.ports)
      (sessions_told first.start.session (control_port ∷ first.start.ports)))

  fits : (port : PortNo) → is_some (peer_of topology node port) ≡ true → (range_among is.there.ranges port).hi < 1024 * site.switch.vpis
  fits port linked = by (peer_of topology node port) refl linked
    where
      by : (o : Option LinkEnd) → peer_of topology node port ≡ o → is_some o ≡ true → (range_among is.there.ranges port).hi < 1024 * site.switch.vpis
      by None e some = absurd (cc some)
      by (Some far) e some = subst (λ (n : ℕ). (range_among is.there.ranges port).hi < 1024 * n) (sym (first.is.switch.vpis ∙ first.vpis))
          (subst (λ (r : PortRange). r.hi < 1024 * vpis_of topology) (range_is policy topology node site is port) (fit.paths (record { node = node; port = port }) far e))

  port_unlabelled : (l : Linked) → IsFirstPort l.port → is_some (peer_of topology node l.setup.port) ≡ true → IsSetAsLines is.there l.setup → IsUnlabelledPort site.switch l
  port_unlabelled l plain linked set = record {
    no_label = no_label l.port plain;
    no_grant = plain.grants;
    home = (ways l.setup.port linked).home;
    out = (ways l.setup.port linked).out;
    paths = subst (λ (n : ℕ). n < 1024 * site.switch.vpis) (sym set.greatest) (fits l.setup.port linked);
  }

  ports_unlabelled : (ports : List Linked) → Every (λ (l : Linked). IsFirstPort l.port) ports → Every (λ (l : Linked). is_some (peer_of topology node l.setup.port) ≡ true) ports
      → Every (λ (l : Linked). IsSetAsLines is.there l.setup) ports → Every (IsUnlabelledPort site.switch) ports
  ports_unlabelled [] plain linked set = tt
  ports_unlabelled (l ∷ ports) plain linked set = (port_unlabelled l plain.0 linked.0 set.0, ports_unlabelled ports plain.1 linked.1 set.1)

  leads_none : (input : End) → is_labels input ≡ true → output_of site.switch.crossbar.branches input ≡ None
  leads_none input of_label = by (output_of site.switch.crossbar.branches input) refl
    where
      by : (o : Option End) → output_of site.switch.crossbar.branches input ≡ o → o ≡ None
      by None e = refl
      by (Some output) e = absurd (true≢false (sym of_label ∙ not_label first.start.ports input output (first.is.switch.branches input output e)))

  pub node_unlabelled : IsUnlabelledNode site
  node_unlabelled = record {
    met = cleared.met;
    heard = cleared.heard;
    switch_heard = cleared.switch_heard;
    nothing_stands = cleared.nothing_stands;
    none_waits = first.is.controller.waiting;
    sessions = sessions;
    ports = ports_unlabelled site.controller.ports first.is.controller.ports (are_linked policy topology node site is) (set_as_lines policy topology node site is);
    leads_no_label = leads_none;
  }
