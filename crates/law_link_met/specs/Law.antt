-- Links that have woken stay met in every run, and their ports hear each other in each beat

use Rattle.std.specs.Prelude.{◌≡◌, ◌≤◌, true, List, [], ◌∷◌, ◌++◌, fold, length, Some}
use Rattle.world_model.specs.Words.{Estab, Linked, linked_end, Policy, Topology, World, is_empty, world_after, past_of, IsRun, IsTame}
use Rattle.world_model.specs.Topology.{peer_of}
use Rattle.world_model.specs.network_model.declared.link.LinkEnd.{LinkEnd}
use Rattle.world_model.specs.network_model.declared.event.Event.{Event}
use Rattle.live_model.specs.Beats.{Beat, events_in, behind}
use Rattle.live_model.specs.Met.{HaveMet}
use Rattle.live_model.specs.Waking.{AreBeatsInPeace, events_of}
use Rattle.live_model.specs.Links.{AreLinkBeatsInPeace}
use Rattle.law_link_woken.specs.law_run_facts.law_world_views.Fronts.{HasAddresses}
use Rattle.law_link_woken.specs.Given.{Given}

-- *The two ports have met*, and each has heard the other since its last tick
pub record HaveMetLately (w : World) (one far : LinkEnd) : Type 0 where
  pub linked : Linked
  pub far_linked : Linked
  pub found : linked_end w one ≡ Some linked
  pub far_found : linked_end w far ≡ Some far_linked
  pub met : HaveMet linked.port.adjacency far_linked.port.adjacency
  pub heard : linked.port.adjacency.silence ≡ 0
  pub far_heard : far_linked.port.adjacency.silence ≡ 0

-- *Wherever in a run* no queue has a cell, and four beats or more in peace at both nodes of a link come next, and then five or more that are
-- in peace at the link besides, its two ports have met so behind them, whatever was lost or restarted before; so it is before the first frame
-- that was forged or passed its test by chance
abbrev pub WokenLinksStayMet : Policy → Topology → List Event → Type 0
WokenLinksStayMet policy topology events = (before after : List Event) (one far : LinkEnd) (beats more : List Beat)
    → events ≡ (before ++ events_of topology (past_of policy topology before).now (beats ++ more)) ++ after
    → IsTame (past_of policy topology (before ++ events_of topology (past_of policy topology before).now (beats ++ more))).records
    → peer_of topology one.node one.port ≡ Some far → is_empty (past_of policy topology before).now ≡ true
    → AreBeatsInPeace topology (past_of policy topology before).now one.node (beats ++ more)
    → AreBeatsInPeace topology (past_of policy topology before).now far.node (beats ++ more)
    → AreLinkBeatsInPeace topology (fold (behind topology) (past_of policy topology before).now beats) one far more → 4 ≤ length beats → 5 ≤ length more
    → HaveMetLately (fold (behind topology) (past_of policy topology before).now (beats ++ more)) one far

abbrev pub RunsKeepLinksMet : Type 0
RunsKeepLinksMet = (policy : Policy) (topology : Topology) (events : List Event) → IsRun policy topology events → HasAddresses topology
    → WokenLinksStayMet policy topology events

-- *Both ports are in Estab*, as far as they are there
abbrev pub AreUpAt : World → (one far : LinkEnd) → Type 0
AreUpAt w one far = ((linked : Linked) → linked_end w one ≡ Some linked → linked.port.adjacency.state ≡ Estab)
    × ((linked : Linked) → linked_end w far ≡ Some linked → linked.port.adjacency.state ≡ Estab)

-- *And all along one beat more* they are in Estab, as it begins and behind each of its events
abbrev pub WokenLinksStayUp : Policy → Topology → List Event → Type 0
WokenLinksStayUp policy topology events = (before after : List Event) (one far : LinkEnd) (beats more : List Beat) (last : Beat) (front rest : List Event)
    → events ≡ (before ++ events_of topology (past_of policy topology before).now (beats ++ (more ++ last ∷ []))) ++ after
    → IsTame (past_of policy topology (before ++ events_of topology (past_of policy topology before).now (beats ++ (more ++ last ∷ [])))).records
    → peer_of topology one.node one.port ≡ Some far → is_empty (past_of policy topology before).now ≡ true
    → AreBeatsInPeace topology (past_of policy topology before).now one.node (beats ++ (more ++ last ∷ []))
    → AreBeatsInPeace topology (past_of policy topology before).now far.node (beats ++ (more ++ last ∷ []))
    → AreLinkBeatsInPeace topology (fold (behind topology) (past_of policy topology before).now beats) one far (more ++ last ∷ []) → 4 ≤ length beats → 5 ≤ length more
    → events_in (fold (behind topology) (past_of policy topology before).now (beats ++ more)) last ≡ front ++ rest
    → AreUpAt (world_after topology (fold (behind topology) (past_of policy topology before).now (beats ++ more)) front) one far

abbrev pub RunsKeepLinksUp : Type 0
RunsKeepLinksUp = (policy : Policy) (topology : Topology) (events : List Event) → IsRun policy topology events → HasAddresses topology
    → WokenLinksStayUp policy topology events

-- given what `law_link_woken` asks of each event
abbrev pub GivenKeepsLinksMet : Type 0
GivenKeepsLinksMet = Given → RunsKeepLinksMet

abbrev pub GivenKeepsLinksUp : Type 0
GivenKeepsLinksUp = Given → RunsKeepLinksUp
