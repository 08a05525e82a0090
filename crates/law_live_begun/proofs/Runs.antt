-- a network that begins is unlabelled behind eleven calm beats in which no packet is sent

use Rattle.std.proofs.Common.{◌≡◌, ℕ, zero, suc, ◌+◌, ◌≤◌, true, List, [], ◌∷◌, ◌++◌, append_assoc, fold, length, length-append, is_some, Option, None, Some, refl, sym, ◌∙◌, ap, subst, arith}
use Rattle.world_model.specs.Words.{NodeId, PortNo, default_end, default_home, Estab, Linked, linked_end, Policy, Topology, IsTopology, World, Site, site_at, is_empty, IsNode, world_after, past_of, IsRun}
use Rattle.world_model.specs.Topology.{peer_of}
use Rattle.world_model.specs.World.{opened}
use Rattle.world_model.specs.network_model.declared.link.LinkEnd.{LinkEnd}
use Rattle.world_model.specs.network_model.declared.event.Event.{Event}
use Rattle.live_model.specs.Beats.{Beat, events_in, behind}
use Rattle.live_model.specs.Waking.{AreBeatsInPeace, events_of}
use Rattle.live_model.specs.Links.{AreLinkBeatsInPeace}
use Rattle.calm_model.specs.Unlabelled.{IsUnlabelled, IsUnlabelledNode, AreUnlabelledEnds}
use Rattle.calm_model.specs.Calm.{AreCalmBeats}
use Rattle.law_live_begun.specs.Begun.{HasFitLines}
use Rattle.law_link_parties.proofs.law_link_met.law_link_woken.law_causes.Shown.{IsPeer, peer_back}
use Rattle.law_link_parties.specs.law_run_facts.Nodes.{IsNodeOfRun}
use Rattle.law_link_parties.proofs.law_run_facts.Nodes.{runs_have_nodes}
use Rattle.law_link_parties.proofs.law_run_facts.Steps.{front_run}
use Rattle.law_link_parties.specs.law_live_hearing.Law.{world_at}
use Rattle.law_link_parties.proofs.law_link_met.law_live_orders.Sites.{output_there}
use Rattle.law_live_begun.specs.First.{IsFirstWorld}
use Rattle.law_live_begun.specs.Worlds.{NetworksGoOn}
use Rattle.law_live_begun.specs.Beats.{BeginsSo, world_behind, NodesBeginInPeace, NodesAreCleared, LinksGoOnInPeace}
use Rattle.law_live_begun.specs.Ways.{PortsStayUp, LeadsByDefault, DefaultChannelsLead}
use Rattle.law_link_parties.specs.law_link_met.Law.{HaveMetLately, RunsKeepLinksMet, RunsKeepLinksUp}
use Rattle.law_live_begun.specs.Law.{RunsBegin}
use Rattle.law_live_begun.proofs.Quiet.{behind_all, begins_so}
use Rattle.law_live_begun.proofs.RunsOpened.{opened_empty}
use Rattle.law_live_begun.proofs.RunsNodes.{PortLeads, node_unlabelled}
use Rattle.law_live_begun.proofs.RunsLinks.{IsThere, is_there, one_linked, first_end, ends_unlabelled}

-- *Beats are parted*: so many, and the rest; and the last of some
record PartedAt (n : ℕ) (beats : List Beat) : Type 0 where
  first : List Beat
  later : List Beat
  are : beats ≡ first ++ later
  many : length first ≡ n

part_at : (n : ℕ) (beats : List Beat) → n ≤ length beats → PartedAt n beats
part_at zero beats enough = record { first = []; later = beats; are = refl; many = refl }
part_at (suc n) [] enough = absurd (omega (arith, enough))
part_at (suc n) (beat ∷ beats) enough = (let p : PartedAt n beats = part_at n beats (omega (arith, enough)) in
    record { first = beat ∷ p.first; later = p.later; are = ap (λ (bs : List Beat). beat ∷ bs) p.are; many = ap suc p.many })

record PartedLast (beats : List Beat) : Type 0 where
  left : List Beat
  last : Beat
  are : beats ≡ left ++ last ∷ []

part_last : (beat : Beat) (beats : List Beat) → PartedLast (beat ∷ beats)
part_last beat [] = record { left = []; last = beat; are = refl }
part_last beat (next ∷ beats) = (let p : PartedLast (next ∷ beats) = part_last next beats in
    record { left = beat ∷ p.left; last = p.last; are = ap (λ (bs : List Beat). beat ∷ bs) p.are })

last_of : (beats : List Beat) → 1 ≤ length beats → PartedLast beats
last_of [] some = absurd (omega (arith, some))
last_of (beat ∷ beats) some = part_last beat beats

-- *No queue has a cell* behind calm beats
empty_behind : (topology : Topology) (beats : List Beat) (w : World) → is_empty w ≡ true → AreCalmBeats topology w beats → is_empty (fold (behind topology) w beats) ≡ true
empty_behind topology [] w empty calm = empty
empty_behind topology (beat ∷ beats) w empty calm = empty_behind topology beats (behind topology w beat) calm.0.is_beat.empties calm.1

module _ (go : NetworksGoOn) (peace : NodesBeginInPeace) (cleared : NodesAreCleared) (links : LinksGoOnInPeace) (lead : DefaultChannelsLead) (keep : RunsKeepLinksMet) (up : RunsKeepLinksUp)
    (policy : Policy) (topology : Topology) (fit : HasFitLines topology) where
  abbrev start : World
  start = opened policy topology

  module _ (first left : List Beat) (last : Beat) (many : 5 ≤ length first) (some : 5 ≤ length left) (begins : BeginsSo policy topology (first ++ (left ++ last ∷ []))) where
    abbrev more : List Beat
    more = left ++ last ∷ []

    abbrev all : List Event
    all = events_of topology start (first ++ more)

    abbrev w : World
    w = world_behind policy topology (first ++ more)

    run : IsRun policy topology all
    run = begins.run.run

    is : IsTopology topology
    is = run.topology_is

    at_end : world_at policy topology all ≡ w
    at_end = behind_all topology (first ++ more) start

    nothing_after : (events : List Event) → events ≡ events ++ []
    nothing_after [] = refl
    nothing_after (event ∷ events) = ap (λ (es : List Event). event ∷ es) (nothing_after events)

    plain : IsFirstWorld topology w
    plain = subst (IsFirstWorld topology) at_end (go policy topology all begins.run)

    of_run : (node : NodeId) (site : Site) → site_at w node ≡ Some site → IsNodeOfRun policy (past_of policy topology all) node site
    of_run node site found = runs_have_nodes policy topology all begins.run.addresses run node site (subst (λ (v : World). site_at v node ≡ Some site) (sym at_end) found)

    at_peace : (node : NodeId) → IsNode topology node → AreBeatsInPeace topology start node (first ++ more)
    at_peace node within = peace policy topology (first ++ more) begins node within

    link_peace : (one far : LinkEnd) → peer_of topology one.node one.port ≡ Some far → AreLinkBeatsInPeace topology (world_behind policy topology first) one far more
    link_peace one far peers = links policy topology first more begins many one far peers

    module _ (one far : LinkEnd) (peers : peer_of topology one.node one.port ≡ Some far) where
      peer : IsPeer topology one far
      peer = peer_back topology is one far peers

      back : IsPeer topology far one
      back = peer_back topology is far one peer.back

      lately : HaveMetLately w one far
      lately = keep policy topology all run begins.run.addresses [] [] one far first more (nothing_after all) begins.run.tame peers (opened_empty policy topology)
          (at_peace one.node back.node) (at_peace far.node peer.node) (link_peace one far peers) (omega (arith, many)) (omega (arith, some, length-append left (last ∷ [])))

      stays : (front rest : List Event) (linked : Linked) → events_in (world_behind policy topology (first ++ left)) last ≡ front ++ rest
          → linked_end (world_after topology (world_behind policy topology (first ++ left)) front) one ≡ Some linked → linked.port.adjacency.state ≡ Estab
      stays front rest linked e found = (up policy topology all run begins.run.addresses [] [] one far first left last front rest (nothing_after all) begins.run.tame peers (opened_empty policy topology)
          (at_peace one.node back.node) (at_peace far.node peer.node) (link_peace one far peers) (omega (arith, many)) some e).0 linked found

    -- default channels lead
    joined : (first ++ left) ++ last ∷ [] ≡ first ++ more
    joined = append_assoc first left (last ∷ [])

    ports_up : PortsStayUp topology (world_behind policy topology (first ++ left)) last
    ports_up front rest end far linked e peers found = stays end far peers front rest linked e found

    leads : (end far : LinkEnd) → peer_of topology end.node end.port ≡ Some far → LeadsByDefault w end
    leads end far peers = subst (λ (beats : List Beat). LeadsByDefault (world_behind policy topology beats) end) joined
        (lead policy topology (first ++ left) last (subst (BeginsSo policy topology) (sym joined) begins) (omega (arith, many, length-append first left)) ports_up end far peers)

    module _ (node : NodeId) (site : Site) (found : site_at w node ≡ Some site) where
      way : (port : PortNo) (far : LinkEnd) → peer_of topology node port ≡ Some far → PortLeads site port
      way port far peers = record {
        home = sym (output_there w node (default_end port) site found) ∙ (leads (record { node = node; port = port }) far peers).home;
        out = sym (output_there w node (default_home port) site found) ∙ (leads (record { node = node; port = port }) far peers).out;
      }

      ways : (port : PortNo) → is_some (peer_of topology node port) ≡ true → PortLeads site port
      ways port linked = by (peer_of topology node port) refl linked
        where
          by : (o : Option LinkEnd) → peer_of topology node port ≡ o → is_some o ≡ true → PortLeads site port
          by None e some = absurd (cc some)
          by (Some far) e some = way port far e

      node_is : IsUnlabelledNode site
      node_is = node_unlabelled policy topology w.notes.frames fit node site (of_run node site found).is_node (plain.nodes node site found)
          (cleared policy topology (first ++ more) begins (omega (arith, many, length-append first more)) node site found) ways

    ends_are : (one far : LinkEnd) (linked far_linked : Linked) → peer_of topology one.node one.port ≡ Some far → linked_end w one ≡ Some linked → linked_end w far ≡ Some far_linked
        → AreUnlabelledEnds linked far_linked
    ends_are one far linked far_linked peers found far_found =
        let met : HaveMetLately w one far = lately one far peers in
        let near : IsThere w one met.linked = is_there w one met.linked met.found in
        let there : IsThere w far met.far_linked = is_there w far met.far_linked met.far_found in
        subst (λ (l : Linked). AreUnlabelledEnds l far_linked) (one_linked w one met.linked linked met.found found)
        (subst (λ (l : Linked). AreUnlabelledEnds met.linked l) (one_linked w far met.far_linked far_linked met.far_found far_found)
        (ends_unlabelled topology one far met.linked met.far_linked fit peers
        (first_end policy topology w.notes.frames one near.site met.linked (of_run one.node near.site near.there).is_node (plain.nodes one.node near.site near.there)
        (of_run one.node near.site near.there).conduct.sound near.of_port)
        (first_end policy topology w.notes.frames far there.site met.far_linked (of_run far.node there.site there.there).is_node (plain.nodes far.node there.site there.there)
        (of_run far.node there.site there.there).conduct.sound there.of_port)
        met.met met.heard met.far_heard))

    unlabelled : IsUnlabelled topology w
    unlabelled = record {
      empty = empty_behind topology (first ++ more) start (opened_empty policy topology) begins.calm;
      nodes = node_is;
      links = ends_are;
      in_time = fit.in_time;
    }

  parted : (beats : List Beat) → 11 ≤ length beats → BeginsSo policy topology beats → IsUnlabelled topology (world_behind policy topology beats)
  parted beats enough begins =
      let p : PartedAt 5 beats = part_at 5 beats (omega (arith, enough)) in
      let many_later : 6 ≤ length p.later = omega (arith, enough, p.many, ap length p.are, length-append p.first p.later) in
      let q : PartedLast p.later = last_of p.later (omega (arith, many_later)) in
      let together : beats ≡ p.first ++ (q.left ++ q.last ∷ []) = p.are ∙ ap (λ (bs : List Beat). p.first ++ bs) q.are in
      subst (λ (bs : List Beat). IsUnlabelled topology (world_behind policy topology bs)) (sym together)
      (unlabelled p.first q.left q.last (omega (arith, p.many)) (omega (arith, many_later, ap length q.are, length-append q.left (q.last ∷ []))) (subst (BeginsSo policy topology) together begins))

pub runs_begin_by : NetworksGoOn → NodesBeginInPeace → NodesAreCleared → LinksGoOnInPeace → DefaultChannelsLead → RunsKeepLinksMet → RunsKeepLinksUp → RunsBegin
runs_begin_by go peace cleared links lead keep up policy topology events run addresses after beats are tame fit calm quiet enough =
    parted go peace cleared links lead keep up policy topology fit beats enough
    (begins_so policy topology beats (front_run policy topology (events_of topology (opened policy topology) beats) after (subst (IsRun policy topology) are run)) addresses tame calm quiet)
