-- the ticks and carries of a beat of a run, one by one

use Rattle.std.proofs.Common.{◌≡◌, ◌≢◌, ◌<◌, ◌^◌, List, [], ◌∷◌, ◌++◌, append_assoc, map, Some, refl, sym, ◌∙◌, ap, subst}
use Rattle.std.proofs.lemmas.List.{map-append}
use Rattle.world_model.specs.Words.{NodeId, Addr, Policy, Place, Linked, Topology, World, Site, IsTopology, IsNode, CountsAsItsFrame, next, tick_of_all, world_after, is_empty, past_of, IsRun}
use Rattle.world_model.specs.World.{opened}
use Rattle.world_model.specs.network_model.declared.link.LinkEnd.{LinkEnd}
use Rattle.world_model.specs.network_model.declared.event.Event.{Event}
use Rattle.world_model.specs.network_model.declared.event.Event.TheVariants.{Carry}
use Rattle.live_model.specs.Beats.{Beat, settling, settled}
use Rattle.law_causes.proofs.Shown.{IsPeer, peer_back}
use Rattle.law_run_facts.specs.law_world_views.Between.{IsWorld}
use Rattle.law_run_facts.specs.law_world_views.Kept.{Comes}
use Rattle.law_run_facts.specs.law_world_views.law_shown_cells.Seen.{Extends}
use Rattle.law_run_facts.specs.Nodes.{HasSite}
use Rattle.law_run_facts.proofs.Rooms.{runs_keep_nodes}
use Rattle.law_run_facts.proofs.Steps.{front_run}
use Rattle.law_true_runs.specs.Runs.{HoldsInRuns, IsWhole}
use Rattle.law_true_runs.proofs.Walk.{holds_at, comes_at}
use Rattle.law_control_places.proofs.Chains.{chains_are_their_frames}
use Rattle.law_live_control_links.proofs.Runs.{runs_are_steady}
use Rattle.law_live_nodes.specs.Law.{IsNodeAtPeace, messages_of}
use Rattle.law_live_saying.specs.Law.{ticking}
use Rattle.law_live_worlds.specs.Law.{Shows, AgreeIn, IsCalm}
use Rattle.law_live_worlds.proofs.Ticking.{ticks_of_all_keep_agreement}
use Rattle.law_live_rests.specs.Law.{address_at}
use Rattle.law_live_hearing.specs.Law.{world_at}
use Rattle.law_live_hearing.proofs.Going.{after_all}
use Rattle.law_live_orders.specs.Law.{coming, IsOpenWay}
use Rattle.law_live_going.specs.Law.{IsCalmCarry}
use Rattle.law_live_going.specs.Beats.{AreCalmTicks}
use Rattle.law_live_going.proofs.Settling.{beats_settle}
use Rattle.law_live_going.proofs.Ticks.{ticks_say_all}
use Rattle.law_live_ways.specs.Links.{ComesNone, IsPeaceful}
use Rattle.law_live_ways.proofs.Ways.{ticks_keep_ways}
use Rattle.law_live_ways.proofs.Links.{carries_keep_ways}
use Rattle.law_live_peace.specs.Law.{IsInPeace}
use Rattle.law_live_peace.specs.Beats.{IsPeacefulCarry, carried, IsBeatInPeace, BeatsAreCalm, PeaceIsKept}
use Rattle.law_live_peace.proofs.Carries.{all_stay, carries_are_calm}
use Rattle.law_live_peace.proofs.Runs.{low, keeps_address, none_coming}
use Rattle.law_live_peace.proofs.Others.{HoldPacketsAt, others_unanswered, labels_hold}
use Rattle.law_live_peace.proofs.Going.{Stands, turned, own_of, unanswered, GoesOn, along}

one_site : (a b : Site) → Some a ≡ Some b → a ≡ b
one_site a b e = cc

-- a node that is calm is at peace as its port shows
peace_of : (w : World) (place : LinkEnd) (linked : Linked) (shows : Shows w place linked) → IsCalm w place.node → IsNodeAtPeace (ticking w shows.site)
peace_of w place linked shows calm = subst (λ (s : Site). IsNodeAtPeace (ticking w s)) (one_site calm.site shows.site (sym calm.there ∙ shows.there)) (record {
  up = calm.peace.up;
  heard = calm.peace.heard;
  nothing_asked = calm.peace.nothing_asked;
  ports = calm.peace.ports;
  ports_apart = calm.peace.ports_apart;
})

-- *A way through carries*, where each keeps it
module _ (topology : Topology) (is : IsTopology topology) (one far : LinkEnd) where
  abbrev Keeps : World → Place → Type 0
  Keeps v place = IsPeaceful v one.node × IsPeaceful v far.node × CountsAsItsFrame v (Carry place)

  through : (places : List Place) (v : World) → IsOpenWay topology v one far
      → ((front rest : List Place) (place : Place) → places ≡ front ++ place ∷ rest → Keeps (world_after topology v (map Carry front)) place)
      → IsOpenWay topology (world_after topology v (map Carry places)) one far
  through [] v way each = way
  through (place ∷ places) v way each =
      let k : Keeps v place = each [] places place refl in
      through places (next topology v (Carry place)) (carries_keep_ways topology v one far place is way k.0 k.1 k.2)
      (λ front rest later e. each (place ∷ front) rest later (ap (λ (ps : List Place). place ∷ ps) e))

module _ (whole : HoldsInRuns IsWhole) (policy : Policy) (topology : Topology) (before : List Event) (one far : LinkEnd) (beat : Beat)
    (agree : AgreeIn (world_at policy topology before) one far [] []) (beats : IsBeatInPeace policy topology before one far agree beat) where
  abbrev w : World
  w = world_at policy topology before

  abbrev all : List Event
  all = settling w beat

  is : IsTopology topology
  is = beats.run.topology_is

  peer : IsPeer topology one far
  peer = peer_back topology is one far beats.rests.there.linked

  far_peer : IsPeer topology far one
  far_peer = peer_back topology is far one beats.rests.back.linked

  ends_apart : one.node.0 ≢ far.node.0
  ends_apart same = peer.apart (sym same)

  -- *Each event of it* comes in the run
  split : (front rest : List Event) (event : Event) → all ≡ front ++ event ∷ rest → before ++ all ≡ (before ++ front) ++ event ∷ rest
  split front rest event e = ap (λ (es : List Event). before ++ es) e ∙ sym (append_assoc before front (event ∷ rest))

  comes : (front rest : List Event) (event : Event) → all ≡ front ++ event ∷ rest → Comes policy topology (before ++ front) event
  comes front rest event e = comes_at policy topology beats.addresses (before ++ all) (before ++ front) rest event beats.run beats.tame (split front rest event e)

  world : (front rest : List Event) (event : Event) → all ≡ front ++ event ∷ rest → IsWorld (past_of policy topology (before ++ front))
  world front rest event e = (holds_at policy topology beats.addresses IsWhole whole (before ++ all) (before ++ front) (event ∷ rest) beats.run beats.tame (split front rest event e)).world

  front_is_run : (front rest : List Event) (event : Event) → all ≡ front ++ event ∷ rest → IsRun policy topology (before ++ front)
  front_is_run front rest event e = front_run policy topology (before ++ front) (event ∷ []) (comes front rest event e).run

  now_is : (front : List Event) → world_at policy topology (before ++ front) ≡ world_after topology w front
  now_is front = after_all topology (opened policy topology) before front

  -- *Its ticks*
  ticks_calm : (a b : LinkEnd) → IsOpenWay topology w a b → AreCalmTicks topology w a b (tick_of_all w)
  ticks_calm a b way front rest event e =
      let at : all ≡ front ++ event ∷ (rest ++ map Carry beat.carries) = ap (λ (es : List Event). es ++ map Carry beat.carries) e ∙ append_assoc front (event ∷ rest) (map Carry beat.carries) in
      let stays : Extends (world_after topology w front).notes.frames (next topology (world_after topology w front) event).notes.frames =
      subst (λ (v : World). Extends v.notes.frames (next topology v event).notes.frames) (now_is front)
      (runs_are_steady policy topology (before ++ front) event (comes front (rest ++ map Carry beat.carries) event at) (world front (rest ++ map Carry beat.carries) event at) a.node).1.stays in
      let v : World = world_after topology w front in
      record {
        is_open = ticks_keep_ways topology w a b front (event ∷ rest) is way e;
        unlost = beats.ticks front rest event e;
        stays = all_stay v.notes.frames (next topology v event).notes.frames (coming v a b) stays;
      }

  -- *Its carries*
  module _ (front rest : List Place) (place : Place) (e : beat.carries ≡ front ++ place ∷ rest) where
    abbrev done : List Event
    done = tick_of_all w ++ map Carry front

    at : all ≡ done ++ Carry place ∷ map Carry rest
    at = ap (λ (ps : List Place). tick_of_all w ++ map Carry ps) e
        ∙ (ap (λ (es : List Event). tick_of_all w ++ es) (map-append Carry front (place ∷ rest)) ∙ sym (append_assoc (tick_of_all w) (map Carry front) (Carry place ∷ map Carry rest)))

    it_comes : Comes policy topology (before ++ done) (Carry place)
    it_comes = comes done (map Carry rest) (Carry place) at

    its_world : IsWorld (past_of policy topology (before ++ done))
    its_world = world done (map Carry rest) (Carry place) at

    its_run : IsRun policy topology (before ++ done)
    its_run = front_is_run done (map Carry rest) (Carry place) at

    here : world_at policy topology (before ++ done) ≡ carried topology w front
    here = now_is done ∙ after_all topology w (tick_of_all w) (map Carry front)

    counted : CountsAsItsFrame (carried topology w front) (Carry place)
    counted = subst (λ (v : World). CountsAsItsFrame v (Carry place)) here (chains_are_their_frames policy topology (before ++ done) (Carry place) it_comes.tame)

    peaceful : (node : NodeId) → IsNode topology node → ComesNone (carried topology w front) node → IsPeaceful (carried topology w front) node
    peaceful node within none =
        let there : HasSite (world_at policy topology (before ++ done)) node = runs_keep_nodes policy topology (before ++ done) its_run node within in
        subst (λ (v : World). ComesNone v node → IsPeaceful v node) here
        (λ none_here. record { site = there.site; found = there.is; shapes = its_world.shapes node there.site there.is; none = none_here }) none

  -- ways stay open up to each
  way_at : (a b : LinkEnd) → IsNode topology a.node → IsNode topology b.node → ((v : World) (place : Place) → IsPeacefulCarry topology v one far place → ComesNone v a.node × ComesNone v b.node)
      → IsOpenWay topology w a b → (front rest : List Place) → beat.carries ≡ front ++ rest → IsOpenWay topology (carried topology w front) a b
  way_at a b within far_within nones way front rest e = through topology is a b front (world_after topology w (tick_of_all w))
      (ticks_keep_ways topology w a b (tick_of_all w) [] is way (sym (append_nil (tick_of_all w))))
      (λ first later place f. (let g : beat.carries ≡ first ++ place ∷ (later ++ rest) = e ∙ (ap (λ (ps : List Place). ps ++ rest) f ∙ append_assoc first (place ∷ later) rest) in
      let none : ComesNone (carried topology w first) a.node × ComesNone (carried topology w first) b.node = nones (carried topology w first) place (beats.carries first (later ++ rest) place g) in
      (peaceful first (later ++ rest) place g a.node within none.0, peaceful first (later ++ rest) place g b.node far_within none.1, counted first (later ++ rest) place g)))
    where
      append_nil : (es : List Event) → es ++ [] ≡ es
      append_nil [] = refl
      append_nil (x ∷ es) = ap (λ (ys : List Event). x ∷ ys) (append_nil es)

  begun : IsRun policy topology before
  begun = front_run policy topology before all beats.run

  -- *Both addresses* stay
  abbrev address : Addr
  address = agree.shows.site.controller.address

  abbrev far_address : Addr
  far_address = agree.far_shows.site.controller.address

  one_low : address.0 < 2 ^ 32
  one_low = low policy topology beats.addresses before begun one.node agree.shows.site agree.shows.there

  other_low : far_address.0 < 2 ^ 32
  other_low = low policy topology beats.addresses before begun far.node agree.far_shows.site agree.far_shows.there

  goes_at : (later : List Event) → IsRun policy topology later → address_at (world_at policy topology later) one.node ≡ address
  goes_at later run = keeps_address policy topology beats.addresses before later begun run one.node far_peer.node agree.shows.site agree.shows.there

  far_goes_at : (later : List Event) → IsRun policy topology later → address_at (world_at policy topology later) far.node ≡ far_address
  far_goes_at later run = keeps_address policy topology beats.addresses before later begun run far.node peer.node agree.far_shows.site agree.far_shows.there

  -- *A carry is calm* where both stand in agreement before it
  module _ (front rest : List Place) (place : Place) (e : beat.carries ≡ front ++ place ∷ rest) where
    abbrev past : List Event
    past = before ++ done front rest place e

    abbrev v : World
    v = carried topology w front

    given : IsPeacefulCarry topology v one far place
    given = beats.carries front rest place e

    extends : Extends v.notes.frames (next topology v (Carry place)).notes.frames
    extends = subst (λ (u : World). Extends u.notes.frames (next topology u (Carry place)).notes.frames) (here front rest place e)
        (runs_are_steady policy topology past (Carry place) (it_comes front rest place e) (its_world front rest place e) one.node).1.stays

    packets : (end : LinkEnd) → IsNode topology end.node → HoldPacketsAt v end place
    packets end within = subst (λ (u : World). HoldPacketsAt u end place) (here front rest place e)
        (labels_hold policy topology past place (it_comes front rest place e) (its_world front rest place e) end within)

    calm_if : Stands address far_address v one far → IsCalmCarry topology v one far address far_address place
    calm_if s =
        let there : IsOpenWay topology v one far = way_at one far far_peer.node peer.node (λ u p c. (c.none, c.far_none)) beats.rests.there front (place ∷ rest) e in
        let back : IsOpenWay topology v far one = way_at far one peer.node far_peer.node (λ u p c. (c.far_none, c.none)) beats.rests.back front (place ∷ rest) e in
        let peace : IsInPeace topology v one far place = record {
          unlost = given.unlost;
          others = λ none far_none. (given.others none, given.far_others far_none);
          unanswered = unanswered topology is far one far_address address other_low v place (turned address far_address v one far s) back (counted front rest place e) given.unlost extends (λ none. others_unanswered v one place (counted front rest place e) none (given.others none) (packets one far_peer.node));
          far_unanswered = unanswered topology is one far address far_address one_low v place s there (counted front rest place e) given.unlost extends (λ none. others_unanswered v far place (counted front rest place e) none (given.far_others none) (packets far peer.node));
        } in
        let x : World = world_at policy topology past in
        let calm : IsCalmCarry topology x one far (address_at x one.node) (address_at x far.node) place =
        subst (λ (u : World). IsOpenWay topology u one far → IsOpenWay topology u far one → IsInPeace topology u one far place → IsCalmCarry topology x one far (address_at x one.node) (address_at x far.node) place)
        (here front rest place e)
        (carries_are_calm policy topology past one far place (it_comes front rest place e) (its_world front rest place e))
        there back peace in
        subst (λ (u : World). IsCalmCarry topology u one far address far_address place) (here front rest place e)
        (subst (λ (a : Addr). IsCalmCarry topology x one far a far_address place) (goes_at past (its_run front rest place e))
        (subst (λ (a : Addr). IsCalmCarry topology x one far (address_at x one.node) a place) (far_goes_at past (its_run front rest place e)) calm))

    behind_it : world_at policy topology (past ++ Carry place ∷ []) ≡ next topology v (Carry place)
    behind_it = after_all topology (opened policy topology) past (Carry place ∷ []) ∙ ap (λ (u : World). next topology u (Carry place)) (here front rest place e)

    goes_on : GoesOn topology is one far address far_address one_low other_low ends_apart v place
    goes_on = record {
      calm = calm_if;
      goes_by = ap (λ (u : World). address_at u one.node) (sym behind_it) ∙ goes_at (past ++ Carry place ∷ []) (it_comes front rest place e).run;
      far_goes_by = ap (λ (u : World). address_at u far.node) (sym behind_it) ∙ far_goes_at (past ++ Carry place ∷ []) (it_comes front rest place e).run;
    }

  -- *Behind the ticks* what both ports said is on its way
  ticked_run : IsRun policy topology (before ++ tick_of_all w)
  ticked_run = front_run policy topology (before ++ tick_of_all w) (map Carry beat.carries)
      (subst (IsRun policy topology) (sym (append_assoc before (tick_of_all w) (map Carry beat.carries))) beats.run)

  ticked : Stands address far_address (world_after topology w (tick_of_all w)) one far
  ticked =
      let v : World = world_after topology w (tick_of_all w) in
      let shaped = beats.rests.there.shaped in
      let now : AgreeIn v one far (messages_of agree.linked) (messages_of agree.far_linked) =
      ticks_of_all_keep_agreement topology w one far shaped beats.rests.near beats.rests.far_end agree in
      let goes : address_at v one.node ≡ address = ap (λ (u : World). address_at u one.node) (sym (now_is (tick_of_all w))) ∙ goes_at (before ++ tick_of_all w) ticked_run in
      let far_goes : address_at v far.node ≡ far_address = ap (λ (u : World). address_at u far.node) (sym (now_is (tick_of_all w))) ∙ far_goes_at (before ++ tick_of_all w) ticked_run in
      record {
        said = messages_of agree.linked;
        far_said = messages_of agree.far_linked;
        agree = now;
        there = ticks_say_all topology w one far agree.shows.site agree.linked is shaped agree.shows.there (peace_of w one agree.linked agree.shows beats.rests.near) agree.shows.of_port
            (none_coming policy topology before is one far beats.rests.there.linked beats.rests.empty) (ticks_calm one far beats.rests.there);
        back = ticks_say_all topology w far one agree.far_shows.site agree.far_linked is shaped agree.far_shows.there (peace_of w far agree.far_linked agree.far_shows beats.rests.far_end) agree.far_shows.of_port
            (none_coming policy topology before is far one beats.rests.back.linked beats.rests.empty) (ticks_calm far one beats.rests.back);
        written = beats.rests.written;
        far_written = beats.rests.far_written;
        own = own_of v one now.shows.site address now.shows.there goes;
        far_own = own_of v far now.far_shows.site far_address now.far_shows.there far_goes;
      }

  carries_calm : (front rest : List Place) (place : Place) → beat.carries ≡ front ++ place ∷ rest → IsCalmCarry topology (carried topology w front) one far address far_address place
  carries_calm front rest place e = calm_if front rest place e
      (along topology is one far address far_address one_low other_low ends_apart front (world_after topology w (tick_of_all w)) ticked
      (λ first later p f. goes_on first (later ++ place ∷ rest) p (e ∙ (ap (λ (ps : List Place). ps ++ place ∷ rest) f ∙ append_assoc first (p ∷ later) (place ∷ rest)))))

  -- *In the end* nothing is on its way
  ends : (a b : LinkEnd) → IsOpenWay topology w a b → coming (settled topology w beat) a b ≡ []
  ends a b way = ap (λ (v : World). coming v a b) (sym (now_is all))
      ∙ none_coming policy topology (before ++ all) is a b way.linked (ap is_empty (now_is all) ∙ beats.settles)

pub beats_are_calm : HoldsInRuns IsWhole → BeatsAreCalm
beats_are_calm whole policy topology before one far beat agree beats = record {
  near = beats.rests.near;
  far_end = beats.rests.far_end;
  low = one_low whole policy topology before one far beat agree beats;
  far_low = other_low whole policy topology before one far beat agree beats;
  written = beats.rests.written;
  far_written = beats.rests.far_written;
  ticks = ticks_calm whole policy topology before one far beat agree beats one far beats.rests.there;
  far_ticks = ticks_calm whole policy topology before one far beat agree beats far one beats.rests.back;
  carries = carries_calm whole policy topology before one far beat agree beats;
  empties = ends whole policy topology before one far beat agree beats one far beats.rests.there;
  far_empties = ends whole policy topology before one far beat agree beats far one beats.rests.back;
}

pub peace_is_kept : HoldsInRuns IsWhole → PeaceIsKept
peace_is_kept whole policy topology before one far beat agree beats =
    let is : IsTopology topology = beats.run.topology_is in
    beats_settle topology (world_at policy topology before) one far beat agree (ends_apart whole policy topology before one far beat agree beats) is beats.rests.there.shaped
    (none_coming policy topology before is one far beats.rests.there.linked beats.rests.empty) (none_coming policy topology before is far one beats.rests.back.linked beats.rests.empty)
    (beats_are_calm whole policy topology before one far beat agree beats)
