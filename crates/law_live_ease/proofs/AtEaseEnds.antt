-- the two ends of a link of a network at ease

use Rattle.std.proofs.Common.{◌≡◌, ◌≢◌, ◌∙◌, List, [], Option, Some, Contains, ap, sym, subst, arith}
use Rattle.std.specs.Option.{option_map, option_map_or}
use Rattle.world_model.specs.Words.{Standing, Request, Grant, Idle, Controller, Linked, linked_at, port_key, Topology, IsTopology, World, Site, IsNode}
use Rattle.world_model.specs.Topology.{peer_of}
use Rattle.world_model.specs.network_model.declared.link.LinkEnd.{LinkEnd}
use Rattle.law_live_journeys.specs.law_port_facts.ordered_lists.Ordered.{Every}
use Rattle.law_live_journeys.proofs.law_port_facts.Keyed.{at_every}
use Rattle.law_live_journeys.proofs.law_port_facts.ordered_lists.Every.{every_map}
use Rattle.law_live_journeys.proofs.law_causes.Shown.{peer_back}
use Rattle.law_live_journeys.specs.law_live_worlds.Law.{Shows, AgreeIn}
use Rattle.law_live_journeys.proofs.law_live_worlds.Staying.{ends_agree_in_rest}
use Rattle.law_live_journeys.specs.law_live_bindings.Law.{grant_branch}
use Rattle.law_live_ease.specs.Law.{IsAtEase, IsAsked}
use Rattle.law_live_ease.specs.AtEase.{EndsAtEaseAgree}

module _ (topology : Topology) (is : IsTopology topology) (w : World) (one far : LinkEnd) (linked far_linked : Linked) (ease : IsAtEase topology w)
    (between : peer_of topology one.node one.port ≡ Some far) (shows : Shows w one linked) (far_shows : Shows w far far_linked) where
  abbrev agree : AgreeIn w one far [] []
  agree = (ease.peace.lasting.peace.links one far between).agree

  -- what shows at an end is one
  same_shown : (place : LinkEnd) (x y : Linked) (a : Shows w place x) (b : Shows w place y) → x ≡ y
  same_shown place x y a b =
      let there : Some a.site ≡ Some b.site = sym a.there ∙ b.there in
      let same : a.site ≡ b.site = cc in
      let is_one : Some x ≡ Some y = sym a.of_port ∙ (ap (λ (s : Site). linked_at s.controller place.port) same ∙ b.of_port) in
      cc

  near_is : agree.linked ≡ linked
  near_is = same_shown one agree.linked linked agree.shows shows

  far_is : agree.far_linked ≡ far_linked
  far_is = same_shown far agree.far_linked far_linked agree.far_shows far_shows

  -- *Nothing stands* at the far node, so none of its grants is idle
  far_node : IsNode topology far.node
  far_node = (peer_back topology is one far between).node

  nothing : far_shows.site.controller.desk.standing ≡ []
  nothing = subst (λ (found : Option Site). option_map_or (λ (c : Controller). c.desk.standing) (option_map (λ (s : Site). s.controller) found) [] ≡ []) far_shows.there
      (ease.peace.lasting.nothing_stands far.node far_node)

  asked_not : (request : Request) → IsAsked far_shows.site.controller.desk request → ⊥
  asked_not request asked = (let there : Contains [] asked.standing = subst (λ (standing : List Standing). Contains standing asked.standing) nothing asked.stands in
      omega (arith, there.1))

  used : Every (λ (grant : Grant). grant.state ≢ Idle) far_linked.port.grants
  used = every_map (λ (grant : Grant). grant.state ≡ Idle → IsAsked far_shows.site.controller.desk (grant_branch far_linked.setup grant.label)) (λ (grant : Grant). grant.state ≢ Idle)
      far_linked.port.grants (λ grant idle is_idle. asked_not (grant_branch far_linked.setup grant.label) (idle is_idle))
      (at_every port_key (λ (l : Linked). Every (λ (grant : Grant). grant.state ≡ Idle → IsAsked far_shows.site.controller.desk (grant_branch l.setup grant.label)) l.port.grants)
      far.port.0 far_shows.site.controller.ports far_linked (ease.steady far.node far_shows.site far_shows.there).ties.idle far_shows.of_port)

pub ends_at_ease_agree : EndsAtEaseAgree
ends_at_ease_agree topology w one far linked far_linked is ease between shows far_shows = record {
  labels = rw (sym (near_is topology is w one far linked far_linked ease between shows far_shows), sym (far_is topology is w one far linked far_linked ease between shows far_shows))
      (ends_agree_in_rest w one far (ease.peace.lasting.peace.links one far between).agree).labels;
  grants = rw (sym (near_is topology is w one far linked far_linked ease between shows far_shows), sym (far_is topology is w one far linked far_linked ease between shows far_shows))
      (ease.peace.lasting.peace.links one far between).agree.agreed.there.grants;
  used = used topology is w one far linked far_linked ease between shows far_shows;
}
