-- the two ends of a link that have met lately are unlabelled, before the first packet enters

use Rattle.std.proofs.Common.{◌≡◌, ℕ, true, false, true≢false, is_some, List, Option, None, Some, refl, sym, ◌∙◌, ap}
use Rattle.std.specs.Option.{option_map, option_map_or, option_and_then}
use Rattle.std.specs.Prelude.{◌&&◌, nat_le}
use Rattle.world_model.specs.Words.{Policy, Estab, PortNo, Session, is_estab, is_in_range, is_label_number, port_key, Linked, Controller, linked_at, linked_end, Topology, World, Site, site_at}
use Rattle.world_model.specs.Topology.{peer_of, range_among}
use Rattle.world_model.specs.port_model.Port.{Port}
use Rattle.world_model.specs.controller_model.declared.range.PortRange.{PortRange}
use Rattle.world_model.specs.network_model.declared.link.LinkEnd.{LinkEnd}
use Rattle.world_model.specs.link_model.declared.frames.Frame.{Frame}
use Rattle.live_model.specs.Links.{number_of}
use Rattle.live_model.specs.Met.{HaveMet}
use Rattle.calm_model.specs.Unlabelled.{expected_of, AreUnlabelledEnds}
use Rattle.law_live_begun.specs.Begun.{range_at, HasFitLines}
use Rattle.law_link_parties.specs.law_run_facts.law_controller_facts.Sound.{IsSound, IsLinkedPort}
use Rattle.law_link_parties.proofs.law_run_facts.law_port_facts.Keyed.{at_every, at_key}
use Rattle.law_link_parties.specs.law_run_facts.law_world_views.Between.{setups_of}
use Rattle.law_link_parties.specs.law_run_facts.Nodes.{IsNodeOf}
use Rattle.law_live_begun.specs.First.{IsFirstPort, IsFirstNode}
use Rattle.law_live_begun.proofs.RunsNodes.{IsSetAsLines, set_as_lines, range_is}

-- *The port at an end* is its node's
pub record IsThere (w : World) (end : LinkEnd) (linked : Linked) : Type 0 where
  pub site : Site
  pub there : site_at w end.node ≡ Some site
  pub of_port : linked_at site.controller end.port ≡ Some linked

pub is_there : (w : World) (end : LinkEnd) (linked : Linked) → linked_end w end ≡ Some linked → IsThere w end linked
is_there w end linked e = by (site_at w end.node) refl e
  where
    by : (o : Option Site) → site_at w end.node ≡ o → option_and_then (λ (c : Controller). linked_at c end.port) (option_map (λ (s : Site). s.controller) o) ≡ Some linked
        → IsThere w end linked
    by None t e = absurd (cc e)
    by (Some site) t e = record { site = site; there = t; of_port = e }

pub one_linked : (w : World) (end : LinkEnd) (a b : Linked) → linked_end w end ≡ Some a → linked_end w end ≡ Some b → a ≡ b
one_linked w end a b e f = (let both : Some a ≡ Some b = sym e ∙ f in cc)

-- *A port in Estab* has a session, whose numbers are 1
pub record StandsAtOne (port : Port) : Type 0 where
  pub number : number_of port ≡ 1
  pub expected : expected_of port ≡ 1

stands_at_one : (port : Port) → IsFirstPort port → is_some port.session ≡ is_estab port.adjacency.state → port.adjacency.state ≡ Estab → StandsAtOne port
stands_at_one port first has up = by port.session refl
  where
    by : (o : Option Session) → port.session ≡ o → StandsAtOne port
    by None e = absurd (true≢false (sym (ap is_estab up) ∙ (sym has ∙ ap (λ (s : Option Session). is_some s) e)))
    by (Some s) e = record {
      number = ap (λ (o : Option Session). option_map_or (λ (x : Session). x.number) o 0) e ∙ (first.session s e).number;
      expected = ap (λ (o : Option Session). option_map_or (λ (x : Session). x.expected) o 0) e ∙ (first.session s e).expected;
    }

-- *What is so of the port at an end*
pub record IsFirstEnd (topology : Topology) (end : LinkEnd) (linked : Linked) : Type 0 where
  pub plain : IsFirstPort linked.port
  pub session : is_some linked.port.session ≡ is_estab linked.port.adjacency.state
  pub least : linked.setup.least ≡ (range_at topology end).lo
  pub greatest : linked.setup.greatest ≡ (range_at topology end).hi

port_is : (p q : PortNo) → p.0 ≡ q.0 → p ≡ q
port_is p q e = λ i. record { 0 = e i }

pub first_end : (policy : Policy) (topology : Topology) (frames : List Frame) (end : LinkEnd) (site : Site) (linked : Linked) → IsNodeOf policy topology end.node site
    → IsFirstNode topology frames end.node site → IsSound (setups_of site.controller) site.controller → linked_at site.controller end.port ≡ Some linked → IsFirstEnd topology end linked
first_end policy topology frames end site linked is first sound found = record {
  plain = at_every port_key (λ (l : Linked). IsFirstPort l.port) end.port.0 site.controller.ports linked first.is.controller.ports found;
  session = (at_every port_key (IsLinkedPort (setups_of site.controller)) end.port.0 site.controller.ports linked sound.ports.each found).session;
  least = set.least ∙ (ap (λ (p : PortNo). (range_among is.there.ranges p).lo) named ∙ sym (ap (λ (r : PortRange). r.lo) (range_is policy topology end.node site is end.port)));
  greatest = set.greatest ∙ (ap (λ (p : PortNo). (range_among is.there.ranges p).hi) named ∙ sym (ap (λ (r : PortRange). r.hi) (range_is policy topology end.node site is end.port)));
}
  where
    set : IsSetAsLines is.there linked.setup
    set = at_every port_key (λ (l : Linked). IsSetAsLines is.there l.setup) end.port.0 site.controller.ports linked (set_as_lines policy topology end.node site is) found

    named : linked.setup.port ≡ end.port
    named = port_is linked.setup.port end.port (at_key port_key end.port.0 site.controller.ports linked found)

-- *The two ends*
pub ends_unlabelled : (topology : Topology) (one far : LinkEnd) (linked far_linked : Linked) → HasFitLines topology → peer_of topology one.node one.port ≡ Some far
    → IsFirstEnd topology one linked → IsFirstEnd topology far far_linked → HaveMet linked.port.adjacency far_linked.port.adjacency
    → linked.port.adjacency.silence ≡ 0 → far_linked.port.adjacency.silence ≡ 0 → AreUnlabelledEnds linked far_linked
ends_unlabelled topology one far linked far_linked fit peers near there met heard far_heard = record {
  met = met;
  heard = heard;
  far_heard = far_heard;
  there = far_one.expected ∙ sym near_one.number;
  back = near_one.expected ∙ sym far_one.number;
  ranges = λ number within. sym (in_both number) ∙ within;
}
  where
    near_one : StandsAtOne linked.port
    near_one = stands_at_one linked.port near.plain near.session met.one_is_up

    far_one : StandsAtOne far_linked.port
    far_one = stands_at_one far_linked.port there.plain there.session met.other_is_up

    in_both : (number : ℕ) → is_in_range linked.setup number ≡ is_in_range far_linked.setup number
    in_both number = ap (λ (n : ℕ). is_label_number number && (nat_le n number && nat_le number linked.setup.greatest)) (near.least ∙ (fit.least one far peers ∙ sym there.least))
        ∙ ap (λ (n : ℕ). is_label_number number && (nat_le far_linked.setup.least number && nat_le number n)) (near.greatest ∙ (fit.greatest one far peers ∙ sym there.greatest))
