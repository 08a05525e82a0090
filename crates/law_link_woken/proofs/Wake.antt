-- links wake: behind four beats their nodes have woken, and behind four more their ports

use Rattle.std.proofs.Common.{◌≡◌, ◌≤◌, true, List, [], ◌∷◌, ◌++◌, append_assoc, fold, length, is_some, Option, Some, refl, sym, ◌∙◌, ap, subst, arith}
use Rattle.world_model.specs.Words.{NodeId, Down, Out, Cell, Party, Side, Peer, Way, IsWay, default_channel, default_home, Controller, Linked, linked_at, linked_end, Policy, Topology, IsTopology, World, Site, is_empty, IsNode, next, world_after, past_of, IsRun, IsTame}
use Rattle.world_model.specs.Topology.{peer_of}
use Rattle.world_model.specs.World.{opened}
use Rattle.std.specs.Option.{option_map, option_and_then}
use Rattle.world_model.specs.network_model.declared.link.LinkEnd.{LinkEnd}
use Rattle.world_model.specs.network_model.declared.event.Event.{Event}
use Rattle.live_model.specs.Beats.{Beat, events_in, behind}
use Rattle.live_model.specs.Peace.{LosesNone}
use Rattle.live_model.specs.Waking.{IsBeatInPeace, AreBeatsInPeace, events_of}
use Rattle.law_link_nodes.proofs.law_unused_labels.Links.{link_of, link_is}
use Rattle.law_link_nodes.proofs.law_causes.Shown.{IsPeer, peer_back}
use Rattle.law_link_nodes.specs.law_run_facts.law_label_line.Cells.{Downstream}
use Rattle.law_link_nodes.specs.law_run_facts.law_world_views.Between.{IsWorld, HasLabelLine}
use Rattle.law_link_nodes.specs.law_run_facts.law_world_views.Fronts.{HasAddresses}
use Rattle.law_link_nodes.specs.law_run_facts.law_world_views.Kept.{Comes}
use Rattle.law_link_nodes.proofs.law_run_facts.Steps.{after_one, front_run}
use Rattle.law_link_nodes.specs.law_true_runs.Runs.{HoldsInRuns, IsWhole}
use Rattle.law_link_nodes.proofs.law_true_runs.Walk.{holds_at, comes_at}
use Rattle.law_link_nodes.specs.law_live_hearing.Law.{world_at}
use Rattle.law_link_nodes.proofs.law_live_hearing.Going.{after_all}
use Rattle.law_link_nodes.proofs.law_live_hearing.Places.{down_empty, up_empty, out_empty}
use Rattle.law_link_nodes.specs.law_live_worlds.Law.{Shows}
use Rattle.law_link_nodes.specs.law_live_orders.Law.{last_marks, marks_at, coming}
use Rattle.law_link_nodes.specs.law_live_tables.Law.{IsNodeUp}
use Rattle.law_link_nodes.specs.law_live_waking_links.Beats.{IsClearAt, HasWoken}
use Rattle.law_link_nodes.specs.law_live_woken.Law.{IsRunOfBeats}
use Rattle.law_link_nodes.specs.law_live_rested.Law.{IsStill}
use Rattle.law_link_nodes.specs.law_live_woken_links.Law.{IsPeaceful}
use Rattle.law_link_nodes.specs.law_live_woken_links.Law as links
use Rattle.law_link_nodes.proofs.law_live_woken_links.Woken.{links_wake_in_runs}
use Rattle.law_link_nodes.specs.Law.{IsMetAs, StaysMet, HasWokenUp}
use Rattle.live_model.specs.Links.{IsLinkPeaceful, IsClear, AreClear, IsLinkBeatInPeace, AreLinkBeatsInPeace, HaveMetAt}
use Rattle.law_link_woken.specs.Given.{Given}
use Rattle.law_link_woken.specs.Law.{GivenWakesLinks}
use Rattle.law_link_woken.proofs.Events.{met_is_up, Ups, peaceful}

-- *Beats one behind another*
module _ (topology : Topology) where
  pub events_join : (beats more : List Beat) (w : World) → events_of topology w (beats ++ more) ≡ events_of topology w beats ++ events_of topology (fold (behind topology) w beats) more
  events_join [] more w = refl
  events_join (beat ∷ beats) more w = ap (λ (es : List Event). events_in w beat ++ es) (events_join beats more (behind topology w beat))
      ∙ sym (append_assoc (events_in w beat) (events_of topology (behind topology w beat) beats) (events_of topology (fold (behind topology) (behind topology w beat) beats) more))

  pub behind_all : (beats : List Beat) (w : World) → world_after topology w (events_of topology w beats) ≡ fold (behind topology) w beats
  behind_all [] w = refl
  behind_all (beat ∷ beats) w = after_all topology w (events_in w beat) (events_of topology (behind topology w beat) beats) ∙ behind_all beats (behind topology w beat)

  pub folds_join : (beats more : List Beat) (w : World) → fold (behind topology) w (beats ++ more) ≡ fold (behind topology) (fold (behind topology) w beats) more
  folds_join [] more w = refl
  folds_join (beat ∷ beats) more w = folds_join beats more (behind topology w beat)

  pub peace_right : (node : NodeId) (beats more : List Beat) (w : World) → AreBeatsInPeace topology w node (beats ++ more) → AreBeatsInPeace topology (fold (behind topology) w beats) node more
  peace_right node [] more w peace = peace
  peace_right node (beat ∷ beats) more w peace = peace_right node beats more (behind topology w beat) peace.1

  first_clear : (one far : LinkEnd) (more : List Beat) (w : World) → 4 ≤ length more → AreLinkBeatsInPeace topology w one far more → AreClear w one far
  first_clear one far [] w enough peace = absurd (omega (arith, enough))
  first_clear one far (beat ∷ more) w enough peace = peace.0.clear

-- *A port that shows* stands at its end
pub shown_end : (w : World) (end : LinkEnd) (linked : Linked) → Shows w end linked → linked_end w end ≡ Some linked
shown_end w end linked shows = ap (λ (o : Option Site). option_and_then (λ (c : Controller). linked_at c end.port) (option_map (λ (s : Site). s.controller) o)) shows.there ∙ shows.of_port

clear_at : (w : World) (end : LinkEnd) → IsClear w end → IsClearAt w end
clear_at w end clear linked shows = clear linked (shown_end w end linked shows)

abbrev way_of : (one far : LinkEnd) → Way
way_of one far = record { down = one; up = far }

module _ (policy : Policy) (topology : Topology) where
  -- *At rest* nothing is on its way
  pub coming_empty : (events : List Event) (one far : LinkEnd) → IsTopology topology → peer_of topology one.node one.port ≡ Some far → IsNode topology one.node → IsNode topology far.node
      → is_empty (world_at policy topology events) ≡ true → coming (world_at policy topology events) one far ≡ []
  coming_empty events one far is peers within far_within empty =
      let w : World = world_at policy topology events in
      ap (λ (q : List Cell). last_marks (default_home far.port).channel q ++ (marks_at w (Out one.node one.port) default_channel ++ marks_at w (Down one.node) (default_home one.port).channel))
      (up_empty policy topology is events far.node far_within empty)
      ∙ (ap (λ (q : List Cell). last_marks default_channel q ++ marks_at w (Down one.node) (default_home one.port).channel)
      (out_empty policy topology is events one.node one.port within (ap (λ (o : Option LinkEnd). is_some o) peers) empty)
      ∙ ap (λ (q : List Cell). last_marks (default_home one.port).channel q) (down_empty policy topology is events one.node within empty))

  -- *Each end has its port*
  record PortShows (w : World) (end : LinkEnd) : Type 0 where
    linked : Linked
    shows : Shows w end linked

  port_shows : (events : List Event) (one far : LinkEnd) → IsTopology topology → IsWorld (past_of policy topology events) → peer_of topology one.node one.port ≡ Some far
      → PortShows (world_at policy topology events) one
  port_shows events one far is world peers =
      let on : IsWay topology (way_of one far) = record { downstream = (peer_back topology is one far peers).back; upstream = peers } in
      let line : HasLabelLine (past_of policy topology events) (link_of topology (way_of one far) 32) =
      world.labels (link_of topology (way_of one far) 32) (link_is topology is (way_of one far) on 32 refl) in
      let there : Site = line.shows.end Downstream in
      let end = line.shows.net.end Downstream in
      record {
        linked = end.linked;
        shows = record {
          site = there;
          there = line.shows.found Downstream;
          of_port = end.found;
          address = ap (λ (side : Side Peer). side.own.address) end.shown.side ∙ sym end.address;
        };
      }

module _ (whole : HoldsInRuns IsWhole) (given : Given) (policy : Policy) (topology : Topology) (addresses : HasAddresses topology) (one far : LinkEnd)
    (peers : peer_of topology one.node one.port ≡ Some far) (is : IsTopology topology) where
  peer : IsPeer topology one far
  peer = peer_back topology is one far peers

  back : IsPeer topology far one
  back = peer_back topology is far one peer.back

  -- *A beat*
  module _ (before later : List Event) (w : World) (now : world_at policy topology before ≡ w) (beat : Beat) (run : IsRun policy topology (before ++ (events_in w beat ++ later)))
      (tame : IsTame (past_of policy topology (before ++ (events_in w beat ++ later))).records) (near_peace : IsBeatInPeace topology w one.node beat) (link : IsLinkBeatInPeace topology w one far beat)
      (up : (front rest : List Event) → events_in w beat ≡ front ++ rest → IsNodeUp (world_after topology w front) one)
      (far_up : (front rest : List Event) → events_in w beat ≡ front ++ rest → IsNodeUp (world_after topology w front) far) where
    abbrev all : List Event
    all = before ++ (events_in w beat ++ later)

    behind_front : (front : List Event) → world_at policy topology (before ++ front) ≡ world_after topology w front
    behind_front front = after_all topology (opened policy topology) before front ∙ ap (λ (u : World). world_after topology u front) now

    split : (front rest : List Event) (event : Event) → events_in w beat ≡ front ++ event ∷ rest → all ≡ (before ++ front) ++ event ∷ (rest ++ later)
    split front rest event e = ap (λ (es : List Event). before ++ (es ++ later)) e
        ∙ (ap (λ (es : List Event). before ++ es) (append_assoc front (event ∷ rest) later) ∙ sym (append_assoc before front (event ∷ (rest ++ later))))

    ups : (front rest : List Event) → events_in w beat ≡ front ++ rest → Ups given policy topology addresses (world_after topology w front) one far
    ups front rest e = record { near = up front rest e; far_up = far_up front rest e }

    goes : (front rest : List Event) (event : Event) → events_in w beat ≡ front ++ event ∷ rest → IsPeaceful topology (world_after topology w front) one far event
    goes front rest event e =
        let split_so : all ≡ (before ++ front) ++ event ∷ (rest ++ later) = split front rest event e in
        let split_then : all ≡ ((before ++ front) ++ event ∷ []) ++ (rest ++ later) = split_so ∙ sym (append_assoc (before ++ front) (event ∷ []) (rest ++ later)) in
        let comes : Comes policy topology (before ++ front) event = comes_at policy topology addresses all (before ++ front) (rest ++ later) event run tame split_so in
        let world : IsWorld (past_of policy topology (before ++ front)) =
        (holds_at policy topology addresses IsWhole whole all (before ++ front) (event ∷ (rest ++ later)) run tame split_so).world in
        let world_then : IsWorld (past_of policy topology ((before ++ front) ++ event ∷ [])) =
        (holds_at policy topology addresses IsWhole whole all ((before ++ front) ++ event ∷ []) (rest ++ later) run tame split_then).world in
        let from : world_after topology w front ≡ world_at policy topology (before ++ front) = sym (behind_front front) in
        let ups_then : Ups given policy topology addresses (next topology (world_after topology w front) event) one far =
        subst (λ (u : World). Ups given policy topology addresses u one far) (after_one topology w front event)
        (ups (front ++ event ∷ []) rest (e ∙ sym (append_assoc front (event ∷ []) rest))) in
        subst (λ (u : World). IsPeaceful topology u one far event) (behind_front front)
        (peaceful given policy topology addresses (before ++ front) event one far peers comes world world_then
        (subst (λ (u : World). LosesNone topology u one.node event) from (near_peace.peace front rest event e).unlost)
        (subst (λ (u : World). IsLinkPeaceful topology u one far event) from (link.peace front rest event e))
        (subst (λ (u : World). Ups given policy topology addresses u one far) from (ups front (event ∷ rest) e))
        (subst (λ (u : World). Ups given policy topology addresses (next topology u event) one far) from ups_then))

    abbrev v : World
    v = behind topology w beat

    run_behind : IsRun policy topology (before ++ events_in w beat)
    run_behind = front_run policy topology (before ++ events_in w beat) later (subst (IsRun policy topology) (sym (append_assoc before (events_in w beat) later)) run)

    empty_behind : is_empty (world_at policy topology (before ++ events_in w beat)) ≡ true
    empty_behind = subst (λ (u : World). is_empty u ≡ true) (sym (behind_front (events_in w beat))) near_peace.is_beat.empties

    beat_in_peace : links.IsBeatInPeace topology w one far beat
    beat_in_peace = record {
      is_beat = near_peace.is_beat;
      peace = goes;
      empties = subst (λ (u : World). coming u one far ≡ []) (behind_front (events_in w beat))
          (coming_empty policy topology (before ++ events_in w beat) one far is peers back.node peer.node empty_behind);
      empties_back = subst (λ (u : World). coming u far one ≡ []) (behind_front (events_in w beat))
          (coming_empty policy topology (before ++ events_in w beat) far one is peer.back peer.node back.node empty_behind);
      clear = clear_at v one link.clear_behind.0;
      far_clear = clear_at v far link.clear_behind.1;
    }

  -- *Beats*, in which both nodes stay up
  module _ (a b c d : Party) where
    pub beats_in_peace : (beats : List Beat) (before : List Event) (w : World) → world_at policy topology before ≡ w → IsRun policy topology (before ++ events_of topology w beats)
        → IsTame (past_of policy topology (before ++ events_of topology w beats)).records → AreBeatsInPeace topology w one.node beats → AreLinkBeatsInPeace topology w one far beats
        → StaysMet topology w one.node a b (events_of topology w beats) → StaysMet topology w far.node c d (events_of topology w beats) → links.AreBeatsInPeace topology w one far beats
    beats_in_peace [] before w now run tame peace link met far_met = tt
    beats_in_peace (beat ∷ beats) before w now run tame peace link met far_met =
        let later : List Event = events_of topology (behind topology w beat) beats in
        let joined : before ++ (events_in w beat ++ later) ≡ (before ++ events_in w beat) ++ later = sym (append_assoc before (events_in w beat) later) in (
          beat_in_peace before later w now beat run tame peace.0 link.0
              (λ front rest e. met_is_up (world_after topology w front) one one.node refl (met front (rest ++ later) (ap (λ (es : List Event). es ++ later) e ∙ append_assoc front rest later)))
              (λ front rest e. met_is_up (world_after topology w front) far far.node refl (far_met front (rest ++ later) (ap (λ (es : List Event). es ++ later) e ∙ append_assoc front rest later))),
          beats_in_peace beats (before ++ events_in w beat) (behind topology w beat)
              (after_all topology (opened policy topology) before (events_in w beat) ∙ ap (λ (u : World). world_after topology u (events_in w beat)) now)
              (subst (IsRun policy topology) joined run) (subst (λ (es : List Event). IsTame (past_of policy topology es).records) joined tame) peace.1 link.1
              (λ front rest e. subst (λ (u : World). IsMetAs u one.node a b) (after_all topology w (events_in w beat) front)
              (met (events_in w beat ++ front) rest (ap (λ (es : List Event). events_in w beat ++ es) e ∙ sym (append_assoc (events_in w beat) front rest))))
              (λ front rest e. subst (λ (u : World). IsMetAs u far.node c d) (after_all topology w (events_in w beat) front)
              (far_met (events_in w beat ++ front) rest (ap (λ (es : List Event). events_in w beat ++ es) e ∙ sym (append_assoc (events_in w beat) front rest)))),
        )

  pub still : (before : List Event) (node : NodeId) → IsNode topology node → is_empty (world_at policy topology before) ≡ true → IsStill policy topology before node
  still before node within empty = record { within = within; down = down_empty policy topology is before node within empty; up = up_empty policy topology is before node within empty }

  -- *Behind the beats in which the nodes wake*
  module _ (past : List Event) (more : List Beat) (u : World) (now : world_at policy topology past ≡ u) (run : IsRun policy topology (past ++ events_of topology u more))
      (tame : IsTame (past_of policy topology (past ++ events_of topology u more)).records) (empty : is_empty u ≡ true) (peace : AreBeatsInPeace topology u one.node more)
      (link : AreLinkBeatsInPeace topology u one far more) (a b c d : Party) (met : StaysMet topology u one.node a b (events_of topology u more))
      (far_met : StaysMet topology u far.node c d (events_of topology u more)) (enough : 4 ≤ length more) where
    abbrev old : World
    old = world_at policy topology past

    of_beats : IsRunOfBeats policy topology past more
    of_beats = record {
      run = subst (λ (x : World). IsRun policy topology (past ++ events_of topology x more)) (sym now) run;
      addresses = addresses;
      tame = subst (λ (x : World). IsTame (past_of policy topology (past ++ events_of topology x more)).records) (sym now) tame;
    }

    empty_there : is_empty old ≡ true
    empty_there = ap (λ (x : World). is_empty x) now ∙ empty

    world : IsWorld (past_of policy topology past)
    world = (holds_at policy topology addresses IsWhole whole (past ++ events_of topology u more) past (events_of topology u more) run tame refl).world

    near : PortShows policy topology old one
    near = port_shows policy topology past one far is world peers

    there : PortShows policy topology old far
    there = port_shows policy topology past far one is world peer.back

    clear : AreClear old one far
    clear = subst (λ (x : World). AreClear x one far) (sym now) (first_clear topology one far more u enough link)

    rests : links.IsStill old one far
    rests = record {
      linked = near.linked;
      far_linked = there.linked;
      shows = near.shows;
      far_shows = there.shows;
      clear = clear_at old one clear.0 near.linked near.shows;
      far_clear = clear_at old far clear.1 there.linked there.shows;
      there = coming_empty policy topology past one far is peers back.node peer.node empty_there;
      back = coming_empty policy topology past far one is peer.back peer.node back.node empty_there;
    }

    woken : HasWoken (fold (behind topology) u more) one far
    woken = subst (λ (x : World). HasWoken (fold (behind topology) x more) one far) now
        (links_wake_in_runs whole policy topology past one far more of_beats peer.own peer.port (λ e. peer.apart (sym e)) rests
        (subst (λ (x : World). links.AreBeatsInPeace topology x one far more) (sym now) (beats_in_peace a b c d more past u now run tame peace link met far_met)) enough)

-- *The last world of beats* is empty
pub last_empty : (topology : Topology) (node : NodeId) (beats : List Beat) (w : World) → is_empty w ≡ true → AreBeatsInPeace topology w node beats → is_empty (fold (behind topology) w beats) ≡ true
last_empty topology node [] w empty peace = empty
last_empty topology node (beat ∷ beats) w empty peace = last_empty topology node beats (behind topology w beat) peace.0.is_beat.empties peace.1

pub peace_left : (topology : Topology) (node : NodeId) (beats more : List Beat) (w : World) → AreBeatsInPeace topology w node (beats ++ more) → AreBeatsInPeace topology w node beats
peace_left topology node [] more w peace = tt
peace_left topology node (beat ∷ beats) more w peace = (peace.0, peace_left topology node beats more (behind topology w beat) peace.1)

-- *Behind them* the two ports have met
pub woken_behind : HoldsInRuns IsWhole → Given → (policy : Policy) (topology : Topology) (before : List Event) (one far : LinkEnd) (beats more : List Beat)
    → IsRunOfBeats policy topology before (beats ++ more) → peer_of topology one.node one.port ≡ Some far → is_empty (world_at policy topology before) ≡ true
    → AreBeatsInPeace topology (world_at policy topology before) one.node (beats ++ more) → AreBeatsInPeace topology (world_at policy topology before) far.node (beats ++ more)
    → AreLinkBeatsInPeace topology (fold (behind topology) (world_at policy topology before) beats) one far more → 4 ≤ length beats → 4 ≤ length more
    → HasWoken (fold (behind topology) (world_at policy topology before) (beats ++ more)) one far
woken_behind whole given policy topology before one far beats more of_beats peers empty peace far_peace link enough enough_more =
    let w : World = world_at policy topology before in
    let u : World = fold (behind topology) w beats in
    let past : List Event = before ++ events_of topology w beats in
    let addresses : HasAddresses topology = of_beats.addresses in
    let is : IsTopology topology = of_beats.run.topology_is in
    let peer : IsPeer topology one far = peer_back topology is one far peers in
    let back : IsPeer topology far one = peer_back topology is far one peer.back in
    let near : HasWokenUp topology w one.node beats more = given.nodes policy topology before one.node beats more of_beats
    (still whole given policy topology addresses one far peers is before one.node back.node empty) peace enough in
    let there : HasWokenUp topology w far.node beats more = given.nodes policy topology before far.node beats more of_beats
    (still whole given policy topology addresses one far peers is before far.node peer.node empty) far_peace enough in
    let joined : before ++ events_of topology w (beats ++ more) ≡ past ++ events_of topology u more =
    ap (λ (es : List Event). before ++ es) (events_join topology beats more w) ∙ sym (append_assoc before (events_of topology w beats) (events_of topology u more)) in
    let now : world_at policy topology past ≡ u = after_all topology (opened policy topology) before (events_of topology w beats) ∙ behind_all topology beats w in
    subst (λ (x : World). HasWoken x one far) (sym (folds_join topology beats more w))
    (woken whole given policy topology addresses one far peers is past more u now (subst (IsRun policy topology) joined of_beats.run)
    (subst (λ (es : List Event). IsTame (past_of policy topology es).records) joined of_beats.tame)
    (last_empty topology one.node beats w empty (peace_left topology one.node beats more w peace)) (peace_right topology one.node beats more w peace) link
    near.one near.other there.one there.other near.up.stays there.up.stays enough_more)

met_at : (w : World) (one far : LinkEnd) → HasWoken w one far → HaveMetAt w one far
met_at w one far woken = record {
  linked = woken.linked;
  far_linked = woken.far_linked;
  found = shown_end w one woken.linked woken.shows;
  far_found = shown_end w far woken.far_linked woken.far_shows;
  met = woken.met;
}

pub given_wakes_links : HoldsInRuns IsWhole → GivenWakesLinks
given_wakes_links whole given policy topology events run addresses before after one far beats more are tame peers empty peace far_peace link enough enough_more =
    let w : World = world_at policy topology before in
    let all : List Event = before ++ events_of topology w (beats ++ more) in
    met_at (fold (behind topology) w (beats ++ more)) one far (woken_behind whole given policy topology before one far beats more
    (record { run = front_run policy topology all after (subst (IsRun policy topology) are run); addresses = addresses; tame = tame })
    peers empty peace far_peace link enough enough_more)
