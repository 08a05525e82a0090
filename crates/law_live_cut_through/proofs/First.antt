-- enough packets of a flow bring it a label on each link of its way

use Rattle.std.proofs.Common.{◌≡◌, ℕ, ◌+◌, ◌-◌, ◌<◌, true, List, [], ◌∷◌, ◌++◌, append-nil, length, None, Some, ◌⊎◌, inl, inr, refl, sym, ◌∙◌, subst, arith}
use Rattle.world_model.specs.Words.{NodeId, Addr, Policy, IsRun, FlowId, flow_ttl, at_ttl, flow_destination, packet_flow, ttl_of, inject_refusal, Topology, World, table_in, is_empty, world_after, CanCome}
use Rattle.world_model.specs.World.{opened}
use Rattle.world_model.specs.ipv4_packet.declared.flow.FlowId.TheVariants.{One, Two}
use Rattle.world_model.specs.Topology.{peer_of}
use Rattle.world_model.specs.network_model.declared.link.LinkEnd.{LinkEnd}
use Rattle.world_model.specs.network_model.declared.event.Event.{Event}
use Rattle.world_model.specs.network_model.declared.event.Event.TheVariants.{Inject}
use Rattle.calm_model.specs.Ways.{IsWayFrom, one_hop, SendsMany}
use Rattle.calm_model.specs.Served.{OffersLabels, IsServable, IsFreeLink, IsFreeWay, IsNewLink, IsNewOn}
use Rattle.law_live_ease.specs.law_run_facts.Nodes.{HasSite}
use Rattle.law_live_ease.proofs.law_run_facts.Rooms.{runs_keep_nodes}
use Rattle.law_live_ease.proofs.law_run_facts.Steps.{front_run}
use Rattle.law_live_ease.specs.law_live_hearing.Law.{world_at}
use Rattle.law_live_ease.proofs.law_live_hearing.Going.{after_all}
use Rattle.law_live_ease.specs.law_live_journeys.Law.{entering}
use Rattle.law_live_ease.proofs.law_live_journeys.Counting.{Items, hears_many, each_sent}
use Rattle.law_live_ease.specs.Law.{IsAtEase, Binds}
use Rattle.law_live_ease.specs.Binding.{IsCalmStretch}
use Rattle.law_live_ease.specs.Served.{IsServed, CanServeIn, FlowsComeToBeServed}
use Rattle.law_live_ease.specs.AtEase.{EndsAtEaseAgree}
use Rattle.law_live_cut_through.specs.Law.{IsLabelled, AreLabelled}
use Rattle.law_live_cut_through.specs.First.{FlowsAreLabelled}
use Rattle.law_live_cut_through.proofs.StretchesSent.{sent_none, waits_none}
use Rattle.law_live_cut_through.proofs.FirstFlows.{lives_so, goes_there}
use Rattle.law_live_cut_through.proofs.FirstShown.{end_shows}
use Rattle.law_live_cut_through.proofs.FirstStretches.{Laws, IsSending, now_is, split}
use Rattle.law_live_cut_through.proofs.FirstHops.{HoldsIn, stands_entering}
use Rattle.law_live_cut_through.proofs.FirstWays.{MayGo, goes}
use Rattle.law_live_cut_through.proofs.FirstCounting.{Journey, Journeys, first_ends, other_ends}
use Rattle.law_live_cut_through.proofs.FirstLinks.{policy_is, served_holds, labelled}

-- *Calm events* that begin at a network at ease which binds
module _ (policy : Policy) (topology : Topology) (past events : List Event) (calm : IsCalmStretch policy topology past events)
    (empties : is_empty (world_at policy topology (past ++ events)) ≡ true) (binds : Binds topology (world_at policy topology past))
    (ease : IsAtEase topology (world_at policy topology past)) where
  sending : IsSending policy topology past events
  sending = record {
    calm = calm;
    stretch = record { run = calm.run; addresses = calm.addresses; tame = calm.tame; empties = empties };
    keeps = record {
      none_comes = sent_none events calm.sends;
      none_waits = waits_none (world_at policy topology past) (λ node site found. (binds.steady node site found).none_waits);
    };
    binds = binds;
    ease = ease;
  }

-- *With whatever Time To Live* flows are one
same_hosts : (flow : FlowId) (one other : ℕ) → at_ttl (at_ttl flow one) other ≡ at_ttl flow other
same_hosts (One tos ttl protocol source destination source_port destination_port) one other = refl
same_hosts (Two ttl source destination) one other = refl

-- *Along its way* a flow of which enough packets are sent
module _ (laws : Laws) (come : FlowsComeToBeServed) (agree : EndsAtEaseAgree) (policy : Policy) (topology : Topology) (past events : List Event)
    (s : IsSending policy topology past events) (ease : IsAtEase topology (world_at policy topology (past ++ events))) (destination : Addr) where
  abbrev at : List Event → World
  at front = world_at policy topology (past ++ front)

  abbrev Free : NodeId → FlowId → List LinkEnd → Type 0
  Free node flow ends = (front rest : List Event) → events ≡ front ++ rest → IsFreeWay topology (at front) node flow ends

  abbrev Goes : NodeId → List LinkEnd → Type 0
  Goes node ends = IsWayFrom topology (λ (n : NodeId). table_in n (world_at policy topology past)) destination node ends

  abbrev New : NodeId → FlowId → List LinkEnd → Type 0
  New node flow ends = IsNewOn topology (world_at policy topology past) node flow ends

  -- *A packet that is sent* goes along it
  module _ (node : NodeId) (flow : FlowId) (ends : List LinkEnd) (way : Goes node ends) (new : New node flow ends) (free : Free node flow ends) (there : flow_destination flow ≡ destination)
      (lives : length ends < flow_ttl flow) (front rest : List Event) (packet : List ℕ) (are : events ≡ front ++ Inject node packet ∷ rest)
      (accepted : inject_refusal packet ≡ None) (of_flow : packet_flow packet ≡ Some flow) where
    whole : past ++ events ≡ (past ++ front) ++ Inject node packet ∷ rest
    whole = split laws policy topology past events s front (Inject node packet ∷ rest) are

    can : CanCome topology (at front) (Inject node packet)
    can = s.stretch.run.each (past ++ front) rest (Inject node packet) whole

    h : HasSite (at front) node
    h = runs_keep_nodes policy topology (past ++ front)
        (front_run policy topology (past ++ front) (Inject node packet ∷ rest) (subst (λ (es : List Event). IsRun policy topology es) whole s.stretch.run)) node can.meant.0

    may : MayGo flow packet destination ends
    may = record {
      accepted = accepted;
      octets = can.meant.1;
      of_flow = of_flow;
      there = sym (goes_there packet flow of_flow) ∙ there;
      lives = (let same : flow_ttl flow ≡ ttl_of packet = lives_so packet flow of_flow in omega (arith, lives, same));
    }

    journey : Journey policy topology past events destination flow ends
    journey = record {
      mark = entering (at front);
      packet = packet;
      may = may;
      passes = goes laws policy topology past events s destination ends front rest (Inject node packet) are node (entering (at front)) packet flow
          (stands_entering laws.given topology (at front) node packet h accepted) can.meant.0 (omega arith) may way new free;
    }

    numbered : journey.mark.packet ≡ (at front).sent + 1
    unfolding journey
    numbered = refl

  all_go : (node : NodeId) (flow : FlowId) (ends : List LinkEnd) (wanted : ℕ) → Goes node ends → New node flow ends → Free node flow ends → flow_destination flow ≡ destination
      → length ends < flow_ttl flow → SendsMany node flow events wanted → Journeys policy topology past events destination flow ends 0 wanted
  all_go node flow ends wanted way new free there lives sends =
      each_sent policy topology past events (Journey policy topology past events destination flow ends) (λ j. j.mark.packet) node flow (journey node flow ends way new free there lives) (numbered node flow ends way new free there lives)
      wanted events [] 0 refl (omega arith) sends

  -- *Each link of it* is labelled
  module _ (wanted : ℕ) where
    holds : (one far : LinkEnd) → peer_of topology one.node one.port ≡ Some far → (flow : FlowId) → OffersLabels policy flow wanted
        → IsNewLink (world_at policy topology past) one far flow → ((front rest : List Event) → events ≡ front ++ rest → IsFreeLink (at front) one far flow)
        → Items topology far flow (world_at policy topology past) events 0 wanted → HoldsIn policy topology past events far flow
    holds one far led flow offered new free items = served_holds agree laws policy topology past events s ease one far led flow new
        (subst (λ (x : World). IsServed x far flow) (sym (now_is laws policy topology past events s events)) served)
      where
        served : IsServed (world_after topology (world_at policy topology past) events) far flow
        served = come policy topology past events one far (s.binds.links one far led).ends.bind.far_linked flow wanted wanted s.calm s.binds led (s.binds.links one far led).ends.bind.far_shows
            (subst (λ (p : Policy). OffersLabels p flow wanted)
            (sym (policy_is policy topology past s.calm.addresses (front_run policy topology past events s.calm.run) far (s.binds.links one far led).ends.bind.far_linked
            (s.binds.links one far led).ends.bind.far_shows)) offered)
            (λ front rest e. can front rest e) (hears_many topology far flow events (world_at policy topology past) 0 wanted items) (omega arith)
          where
            can : (front rest : List Event) → events ≡ front ++ rest → CanServeIn (world_after topology (world_at policy topology past) front) far flow
            can front rest e now session shows is_open =
                (subst (λ (x : World). IsServable x far flow) (now_is laws policy topology past events s front) (free front rest e).servable) now session
                (end_shows (world_after topology (world_at policy topology past) front) far now shows) is_open

    along : (ends : List LinkEnd) (node : NodeId) (flow : FlowId) → ((ttl : ℕ) → OffersLabels policy (at_ttl flow ttl) wanted) → Goes node ends → New node flow ends → Free node flow ends
        → Journeys policy topology past events destination flow ends 0 wanted → AreLabelled topology (at events) node flow ends
    along [] node flow offered way new free js = tt
    along (far ∷ ends) node flow offered way new free js = (
      is (first_ends policy topology past events destination flow far ends wanted 0 js),
      along ends far.node (one_hop flow) (λ ttl. subst (λ (f : FlowId). OffersLabels policy f wanted) (sym (same_hosts flow (flow_ttl flow - 1) ttl)) (offered ttl)) way.1 new.1
          (λ front rest e. (free front rest e).2)
          (other_ends policy topology past events destination flow far ends wanted 0 js),
    )
      where
        links : (front rest : List Event) → events ≡ front ++ rest → IsFreeLink (at front) (record { node = node; port = way.0.port }) far (one_hop flow)
        links front rest e = (free front rest e).0 way.0.port way.0.linked

        new_link : IsNewLink (world_at policy topology past) (record { node = node; port = way.0.port }) far (one_hop flow)
        new_link = new.0 way.0.port way.0.linked

        so : HoldsIn policy topology past events far (one_hop flow) → IsLabelled topology (at events) node far (one_hop flow)
        so h = labelled agree laws policy topology past events s ease (record { node = node; port = way.0.port }) far way.0.linked (one_hop flow) new_link (links events [] (sym (append-nil events))) h

        is : Items topology far (one_hop flow) (world_at policy topology past) events 0 wanted ⊎ HoldsIn policy topology past events far (one_hop flow)
            → IsLabelled topology (at events) node far (one_hop flow)
        is (inl items) = so (holds (record { node = node; port = way.0.port }) far way.0.linked (one_hop flow) (offered (flow_ttl flow - 1)) new_link links items)
        is (inr h) = so h

pub flows_are_labelled : Laws → EndsAtEaseAgree → FlowsComeToBeServed → FlowsAreLabelled
flows_are_labelled laws agree come policy topology past events node flow ends calm empties begins binds ease sent =
    along laws come agree policy topology past events s ease (flow_destination flow) sent.wanted ends node flow sent.offered sent.way sent.new free
    (all_go laws come agree policy topology past events s ease (flow_destination flow) node flow ends sent.wanted sent.way sent.new free refl sent.lives sent.many)
  where
    s : IsSending policy topology past events
    s = sending policy topology past events calm empties binds begins

    free : (front rest : List Event) → events ≡ front ++ rest → IsFreeWay topology (world_at policy topology (past ++ front)) node flow ends
    free front rest e = subst (λ (x : World). IsFreeWay topology x node flow ends) (sym (after_all topology (opened policy topology) past front)) (sent.free front rest e)
