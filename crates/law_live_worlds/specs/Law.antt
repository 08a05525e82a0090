-- The two ends of a link agree in a network, at rest and behind the ticks of a beat

use Rattle.std.specs.Prelude.{◌≡◌, List, [], Some}
use Rattle.live_model.specs.world_model.Words.{NodeId, labels_of, Linked, linked_at, Topology, World, Site, site_at, IsShaped, tick_of_all, world_after}
use Rattle.live_model.specs.world_model.ifmp_wire.declared.message.Message.{Message}
use Rattle.live_model.specs.world_model.Controller.{Acted}
use Rattle.live_model.specs.world_model.network_model.declared.link.LinkEnd.{LinkEnd}
use Rattle.law_port_facts.specs.ordered_lists.Ordered.{Every}
use Rattle.law_live_nodes.specs.Law.{IsPortAtPeace, IsNodeAtPeace, messages_of}
use Rattle.law_live_links.specs.Law.{EndOfLink, number_of, expected_of, AreAgreed, IsAgreedOn, MayTick}
use Rattle.law_live_unseen.specs.Law.{AreAlike}
use Rattle.law_live_ports.specs.Law.{MayJoinAll}

-- *A port shows* in a network, at an end of a link: it is its node's, and goes by the address of the node
pub record Shows (w : World) (place : LinkEnd) (linked : Linked) : Type 0 where
  pub site : Site
  pub there : site_at w place.node ≡ Some site
  pub of_port : linked_at site.controller place.port ≡ Some linked
  pub address : linked.port.adjacency.own.address ≡ site.controller.address

abbrev pub end_of : Linked → (said : List Message) → EndOfLink
end_of linked said = record { setup = linked.setup; port = linked.port; said = said }

-- *The two ends agree* there, with what each has said that the other has yet to hear
pub record AgreeIn (w : World) (one far : LinkEnd) (said far_said : List Message) : Type 0 where
  pub linked : Linked
  pub far_linked : Linked
  pub shows : Shows w one linked
  pub far_shows : Shows w far far_linked
  pub agreed : AreAgreed (end_of linked said) (end_of far_linked far_said)

abbrev pub AgreementGoesBothWays : Type 0
AgreementGoesBothWays = (w : World) (one far : LinkEnd) (said far_said : List Message) → AgreeIn w one far said far_said → AgreeIn w far one far_said said

-- *At rest*, where nothing is on its way, each label that one end gives is held by the other, and the number that it has next is the one
-- expected; and a port each of whose labels is joined or in use is at peace
pub record RestsIn {w : World} {one far : LinkEnd} (agree : AgreeIn w one far [] []) : Type 0 where
  pub labels : Every (IsAgreedOn (end_of agree.linked []) (end_of agree.far_linked [])) (labels_of agree.linked.port)
  pub numbers : expected_of agree.far_linked.port ≡ number_of agree.linked.port
  pub peace : MayTick (end_of agree.linked []) → IsPortAtPeace agree.linked

abbrev pub EndsAgreeInRest : Type 0
EndsAgreeInRest = (w : World) (one far : LinkEnd) (agree : AgreeIn w one far [] []) → RestsIn agree

-- *A node is at peace* in a network, and has transaction numbers for joins
pub record IsCalm (w : World) (node : NodeId) : Type 0 where
  pub site : Site
  pub there : site_at w node ≡ Some site
  pub peace : IsNodeAtPeace (let a : Acted = record { controller = site.controller; notes = w.notes; numbers = w.numbers } in a)
  pub may_join : MayJoinAll (record { controller = site.controller; notes = w.notes; numbers = w.numbers })

-- *The ticks* of all keep that, where both nodes are at peace: what each port says in its tick is on its way then
abbrev pub TicksOfAllKeepAgreement : Type 0
TicksOfAllKeepAgreement = (topology : Topology) (w : World) (one far : LinkEnd) → IsShaped w → IsCalm w one.node → IsCalm w far.node
    → (agree : AgreeIn w one far [] []) → AgreeIn (world_after topology w (tick_of_all w)) one far (messages_of agree.linked) (messages_of agree.far_linked)

-- *So does what leaves* both ports alike to one another
pub record IsLeftAlike (before : Linked) (v : World) (place : LinkEnd) : Type 0 where
  pub linked : Linked
  pub shows : Shows v place linked
  pub setup : linked.setup ≡ before.setup
  pub alike : AreAlike before.port linked.port

abbrev pub LikeWorldsAgree : Type 0
LikeWorldsAgree = (w v : World) (one far : LinkEnd) (said far_said : List Message) (agree : AgreeIn w one far said far_said)
    → IsLeftAlike agree.linked v one → IsLeftAlike agree.far_linked v far → AgreeIn v one far said far_said
