-- in the last of the beats both ports, which have met before it and behind it, hear each other

use Rattle.std.proofs.Common.{◌≡◌, ◌≤◌, true, List, [], ◌∷◌, ◌++◌, append_assoc, fold, length, length-append, Some, refl, sym, ◌∙◌, ap, subst, arith}
use Rattle.world_model.specs.Words.{Peer, Estab, Side, Mark, Linked, linked_end, world_after, Policy, Topology, IsTopology, World, is_empty, past_of, IsRun, IsTame}
use Rattle.world_model.specs.Topology.{peer_of}
use Rattle.world_model.specs.World.{opened}
use Rattle.world_model.specs.network_model.declared.link.LinkEnd.{LinkEnd}
use Rattle.world_model.specs.network_model.declared.event.Event.{Event}
use Rattle.live_model.specs.Beats.{Beat, events_in, behind}
use Rattle.live_model.specs.Met.{HaveMet}
use Rattle.live_model.specs.Waking.{AreBeatsInPeace, events_of}
use Rattle.live_model.specs.Links.{AreLinkBeatsInPeace}
use Rattle.law_link_woken.proofs.law_causes.Shown.{IsPeer, peer_back}
use Rattle.law_link_woken.proofs.law_run_facts.Steps.{front_run}
use Rattle.law_link_woken.specs.law_true_runs.Runs.{HoldsInRuns, IsWhole}
use Rattle.law_link_woken.proofs.law_true_runs.Fronts.{front_tame}
use Rattle.law_link_woken.specs.law_live_hearing.Law.{world_at}
use Rattle.law_link_woken.proofs.law_live_hearing.Going.{after_all}
use Rattle.law_link_woken.specs.law_live_meetings.Exchange.{ifmp, Ends, IsAtRest}
use Rattle.law_link_woken.specs.law_live_meetings.Exchange as exchanges
use Rattle.law_link_woken.proofs.law_live_meetings.Turns.{pair}
use Rattle.law_link_woken.specs.law_live_worlds.Law.{Shows}
use Rattle.law_link_woken.specs.law_live_orders.Law.{coming}
use Rattle.law_link_woken.specs.law_live_waking_links.Hellos.{Greet, none, ShowsEnds}
use Rattle.law_link_woken.specs.law_live_waking_links.Beats.{HasWoken, IsPeacefulBeat, ShowsExchange}
use Rattle.law_link_woken.proofs.law_live_waking_links.Hellos.{no_hellos}
use Rattle.law_link_woken.proofs.law_live_waking_links.Beats.{beats_are_exchanges}
use Rattle.law_link_woken.specs.law_live_woken.Law.{IsRunOfBeats}
use Rattle.law_link_woken.specs.law_live_woken_links.Law as links
use Rattle.law_link_woken.proofs.law_live_woken_links.Woken.{peaceful_beat}
use Rattle.law_link_woken.specs.law_link_nodes.Law.{HasWokenUp}
use Rattle.law_link_woken.specs.Given.{Given}
use Rattle.law_link_woken.proofs.Wake.{events_join, behind_all, folds_join, shown_end, coming_empty, still, beats_in_peace, last_empty, peace_left, peace_right, woken_behind}
use Rattle.law_link_met.specs.Law.{HaveMetLately, GivenKeepsLinksMet, AreUpAt, GivenKeepsLinksUp}
use Rattle.law_link_woken.proofs.law_live_meetings.Greetings.{full}
use Rattle.law_link_met.proofs.Exchange.{HaveHeard, heard_in_exchange, met_full}
use Rattle.law_link_met.proofs.Up.{AreUp, UpAt, up_along}

-- *The last of beats*
record Parted (beats : List Beat) : Type 0 where
  left : List Beat
  last : Beat
  are : beats ≡ left ++ last ∷ []

part_last : (beat : Beat) (beats : List Beat) → Parted (beat ∷ beats)
part_last beat [] = record { left = []; last = beat; are = refl }
part_last beat (next ∷ beats) = (let p : Parted (next ∷ beats) = part_last next beats in
    record { left = beat ∷ p.left; last = p.last; are = ap (λ (bs : List Beat). beat ∷ bs) p.are })

parted : (beats : List Beat) → 5 ≤ length beats → Parted beats
parted [] enough = absurd (omega (arith, enough))
parted (beat ∷ beats) enough = part_last beat beats

link_left : (topology : Topology) (one far : LinkEnd) (beats more : List Beat) (w : World) → AreLinkBeatsInPeace topology w one far (beats ++ more) → AreLinkBeatsInPeace topology w one far beats
link_left topology one far [] more w peace = tt
link_left topology one far (beat ∷ beats) more w peace = (peace.0, link_left topology one far beats more (behind topology w beat) peace.1)

link_right : (topology : Topology) (one far : LinkEnd) (beats more : List Beat) (w : World) → AreLinkBeatsInPeace topology w one far (beats ++ more)
    → AreLinkBeatsInPeace topology (fold (behind topology) w beats) one far more
link_right topology one far [] more w peace = peace
link_right topology one far (beat ∷ beats) more w peace = link_right topology one far beats more (behind topology w beat) peace.1

-- *A port is one*, however it is shown
one_port : (w : World) (end : LinkEnd) (linked other : Linked) → Shows w end linked → Shows w end other → linked ≡ other
one_port w end linked other shows also = same (sym (shown_end w end linked shows) ∙ shown_end w end other also)
  where
    same : Some linked ≡ Some other → linked ≡ other
    same e = cc e

-- *Ports that show as sides in Estab* are up
end_up : (w : World) (end : LinkEnd) (linked : Linked) → Shows w end linked → linked.port.adjacency.state ≡ Estab → (other : Linked) → linked_end w end ≡ Some other
    → other.port.adjacency.state ≡ Estab
end_up w end linked shows up other found = (let same : linked ≡ other = (let both : Some linked ≡ Some other = sym (shown_end w end linked shows) ∙ found in cc) in
    subst (λ (l : Linked). l.port.adjacency.state ≡ Estab) same up)

both_up : (w : World) (one far : LinkEnd) {ends : Ends Peer} → (shows : ShowsEnds w one far ends) → ends.one.side.state ≡ Estab → ends.other.side.state ≡ Estab → AreUpAt w one far
both_up w one far shows up far_up = (
  end_up w one shows.linked shows.shows (sym (ap (λ (s : Side Peer). s.state) shows.side) ∙ up),
  end_up w far shows.far_linked shows.far_shows (sym (ap (λ (s : Side Peer). s.state) shows.far_side) ∙ far_up),
)

-- *A beat between*: both have met before it and behind it
module _ (topology : Topology) (one far : LinkEnd) (is : IsTopology topology) (peer : IsPeer topology one far) (u : World) (beat : Beat) (peaceful : IsPeacefulBeat topology u one far beat)
    (calm : links.IsBeatInPeace topology u one far beat) (before : HasWoken u one far) (there : coming u one far ≡ []) (back : coming u far one ≡ [])
    (after : HasWoken (behind topology u beat) one far) where
  abbrev v : World
  v = behind topology u beat

  abbrev ends : Ends Peer
  ends = pair before.linked.port.adjacency [] before.far_linked.port.adjacency []

  shown : ShowsEnds u one far ends
  shown = record {
    linked = before.linked;
    far_linked = before.far_linked;
    shows = before.shows;
    far_shows = before.far_shows;
    side = refl;
    far_side = refl;
    there = subst (λ (marks : List Mark). Greet before.shows.site.controller.address u.notes.frames marks []) (sym there) none;
    back = subst (λ (marks : List Mark). Greet before.far_shows.site.controller.address u.notes.frames marks []) (sym back) none;
    there_written = tt;
    back_written = tt;
  }

  exchanged : ShowsExchange v one far ends
  exchanged = beats_are_exchanges topology u one far beat ends is (λ e. peer.apart (sym e)) peaceful shown

  abbrev ends_then : Ends Peer
  ends_then = exchanges.behind ifmp ends exchanged.exchange

  near_side : ends_then.one.side ≡ after.linked.port.adjacency
  near_side = exchanged.shows.side ∙ ap (λ (l : Linked). l.port.adjacency) (one_port v one exchanged.shows.linked after.linked exchanged.shows.shows after.shows)

  far_side : ends_then.other.side ≡ after.far_linked.port.adjacency
  far_side = exchanged.shows.far_side ∙ ap (λ (l : Linked). l.port.adjacency) (one_port v far exchanged.shows.far_linked after.far_linked exchanged.shows.far_shows after.far_shows)

  rest : IsAtRest ends_then
  rest = record {
    one_has_heard = no_hellos exchanged.shows.far_shows.site.controller.address v.notes.frames (coming v far one) ends_then.one.comes exchanged.shows.back calm.empties_back;
    other_has_heard = no_hellos exchanged.shows.shows.site.controller.address v.notes.frames (coming v one far) ends_then.other.comes exchanged.shows.there calm.empties;
    one_is_clear = λ e. calm.clear exchanged.shows.linked exchanged.shows.shows (sym (ap (λ (side : Side Peer). side.state) exchanged.shows.side) ∙ e);
    other_is_clear = λ e. calm.far_clear exchanged.shows.far_linked exchanged.shows.far_shows (sym (ap (λ (side : Side Peer). side.state) exchanged.shows.far_side) ∙ e);
  }

  heard : HaveHeard ends_then
  heard = heard_in_exchange before.linked.port.adjacency before.far_linked.port.adjacency before.met exchanged.exchange rest
      (subst (λ (s : Side Peer). HaveMet s ends_then.other.side) (sym near_side) (subst (λ (s : Side Peer). HaveMet after.linked.port.adjacency s) (sym far_side) after.met))

  lately : HaveMetLately v one far
  lately = record {
    linked = after.linked;
    far_linked = after.far_linked;
    found = shown_end v one after.linked after.shows;
    far_found = shown_end v far after.far_linked after.far_shows;
    met = after.met;
    heard = sym (ap (λ (side : Side Peer). side.silence) near_side) ∙ heard.one;
    far_heard = sym (ap (λ (side : Side Peer). side.silence) far_side) ∙ heard.other;
  }

-- *Behind beats of a run*, the last of which is apart
module _ (whole : HoldsInRuns IsWhole) (given : Given) (policy : Policy) (topology : Topology) (before : List Event) (one far : LinkEnd) (peers : peer_of topology one.node one.port ≡ Some far)
    (empty : is_empty (world_at policy topology before) ≡ true) where
  abbrev w : World
  w = world_at policy topology before

  module _ (first : List Beat) (last : Beat) (of_beats : IsRunOfBeats policy topology before (first ++ last ∷ [])) (peace : AreBeatsInPeace topology w one.node (first ++ last ∷ []))
      (far_peace : AreBeatsInPeace topology w far.node (first ++ last ∷ [])) (link : AreLinkBeatsInPeace topology (fold (behind topology) w first) one far (last ∷ [])) (enough : 4 ≤ length first)
      (woken : HasWoken (fold (behind topology) w first) one far) (woken_then : HasWoken (fold (behind topology) w (first ++ last ∷ [])) one far) where
    abbrev u : World
    u = fold (behind topology) w first

    abbrev past : List Event
    past = before ++ events_of topology w first

    is : IsTopology topology
    is = of_beats.run.topology_is

    peer : IsPeer topology one far
    peer = peer_back topology is one far peers

    back : IsPeer topology far one
    back = peer_back topology is far one peer.back

    near : HasWokenUp topology w one.node first (last ∷ [])
    near = given.nodes policy topology before one.node first (last ∷ []) of_beats (still whole given policy topology of_beats.addresses one far peers is before one.node back.node empty) peace enough

    there : HasWokenUp topology w far.node first (last ∷ [])
    there = given.nodes policy topology before far.node first (last ∷ []) of_beats (still whole given policy topology of_beats.addresses one far peers is before far.node peer.node empty) far_peace enough

    joined : before ++ events_of topology w (first ++ last ∷ []) ≡ past ++ events_of topology u (last ∷ [])
    joined = ap (λ (es : List Event). before ++ es) (events_join topology first (last ∷ []) w) ∙ sym (append_assoc before (events_of topology w first) (events_of topology u (last ∷ [])))

    now : world_at policy topology past ≡ u
    now = after_all topology (opened policy topology) before (events_of topology w first) ∙ behind_all topology first w

    run : IsRun policy topology (past ++ events_of topology u (last ∷ []))
    run = subst (IsRun policy topology) joined of_beats.run

    tame : IsTame (past_of policy topology (past ++ events_of topology u (last ∷ []))).records
    tame = subst (λ (es : List Event). IsTame (past_of policy topology es).records) joined of_beats.tame

    calm : links.AreBeatsInPeace topology u one far (last ∷ [])
    calm = beats_in_peace whole given policy topology of_beats.addresses one far peers is near.one near.other there.one there.other (last ∷ []) past u now run tame
        (peace_right topology one.node first (last ∷ []) w peace) link near.up.stays there.up.stays

    empty_then : is_empty (world_at policy topology past) ≡ true
    empty_then = ap (λ (x : World). is_empty x) now ∙ last_empty topology one.node first w empty (peace_left topology one.node first (last ∷ []) w peace)

    lately_behind : HaveMetLately (fold (behind topology) w (first ++ last ∷ [])) one far
    lately_behind = subst (λ (x : World). HaveMetLately x one far) (sym (folds_join topology first (last ∷ []) w))
        (lately topology one far is peer u last
        (peaceful_beat whole policy topology one far peer.own peer.port of_beats.addresses past [] u now last run tame calm.0) calm.0 woken
        (subst (λ (x : World). coming x one far ≡ []) now (coming_empty policy topology past one far is peers back.node peer.node empty_then))
        (subst (λ (x : World). coming x far one ≡ []) now (coming_empty policy topology past far one is peer.back peer.node back.node empty_then))
        (subst (λ (x : World). HasWoken x one far) (folds_join topology first (last ∷ []) w) woken_then))

    -- *All along the last one* both are up, where each has heard the other as it begins
    peaceful_last : IsPeacefulBeat topology u one far last
    peaceful_last = peaceful_beat whole policy topology one far peer.own peer.port of_beats.addresses past [] u now last run tame calm.0

    module _ (met : HaveMetLately u one far) where
      near_shows : Shows u one met.linked
      near_shows = (let same : woken.linked ≡ met.linked = (let both : Some woken.linked ≡ Some met.linked = sym (shown_end u one woken.linked woken.shows) ∙ met.found in cc) in
          subst (Shows u one) same woken.shows)

      far_shows : Shows u far met.far_linked
      far_shows = (let same : woken.far_linked ≡ met.far_linked = (let both : Some woken.far_linked ≡ Some met.far_linked = sym (shown_end u far woken.far_linked woken.far_shows) ∙ met.far_found in cc) in
          subst (Shows u far) same woken.far_shows)

      abbrev ends_now : Ends Peer
      ends_now = pair met.linked.port.adjacency [] met.far_linked.port.adjacency []

      ends_shown : ShowsEnds u one far ends_now
      ends_shown = record {
        linked = met.linked;
        far_linked = met.far_linked;
        shows = near_shows;
        far_shows = far_shows;
        side = refl;
        far_side = refl;
        there = subst (λ (marks : List Mark). Greet near_shows.site.controller.address u.notes.frames marks [])
            (sym (subst (λ (x : World). coming x one far ≡ []) now (coming_empty policy topology past one far is peers back.node peer.node empty_then))) none;
        back = subst (λ (marks : List Mark). Greet far_shows.site.controller.address u.notes.frames marks [])
            (sym (subst (λ (x : World). coming x far one ≡ []) now (coming_empty policy topology past far one is peer.back peer.node back.node empty_then))) none;
        there_written = tt;
        back_written = tt;
      }

      are_up : AreUp met.linked.port.adjacency.own met.far_linked.port.adjacency.own 0 0 ends_now
      are_up = record {
        one = record {
          silence = 0;
          few = omega arith;
          side = met_full met.linked.port.adjacency met.far_linked.port.adjacency met.met.one_is_up met.met.one_knows
              ∙ ap (full met.linked.port.adjacency.own met.far_linked.port.adjacency.own) met.heard;
          comes = tt;
        };
        other = record {
          silence = 0;
          few = omega arith;
          side = met_full met.far_linked.port.adjacency met.linked.port.adjacency met.met.other_is_up met.met.other_knows
              ∙ ap (full met.far_linked.port.adjacency.own met.linked.port.adjacency.own) met.far_heard;
          comes = tt;
        };
      }

      up_in_front : (front rest : List Event) → events_in u last ≡ front ++ rest → AreUpAt (world_after topology u front) one far
      up_in_front front rest e =
          let along = up_along topology is one far (λ f. peer.apart (sym f)) met.linked.port.adjacency.own met.far_linked.port.adjacency.own u last peaceful_last ends_now ends_shown are_up front rest e in
          let there : UpAt topology is one far (λ f. peer.apart (sym f)) met.linked.port.adjacency.own met.far_linked.port.adjacency.own along.0 along.1.0 (world_after topology u front) = along.1.1 in
          both_up (world_after topology u front) one far there.shows (ap (λ (s : Side Peer). s.state) there.up.one.side) (ap (λ (s : Side Peer). s.state) there.up.other.side)

  -- *Both have met* before the last one, and behind it
  record OfLast (first : List Beat) (last : Beat) : Type 0 where
    lately : HaveMetLately (fold (behind topology) w (first ++ last ∷ [])) one far
    up : HaveMetLately (fold (behind topology) w first) one far → (front rest : List Event) → events_in (fold (behind topology) w first) last ≡ front ++ rest
        → AreUpAt (world_after topology (fold (behind topology) w first) front) one far

  by_last : (beats left : List Beat) (last : Beat) → IsRunOfBeats policy topology before (beats ++ (left ++ last ∷ [])) → AreBeatsInPeace topology w one.node (beats ++ (left ++ last ∷ []))
      → AreBeatsInPeace topology w far.node (beats ++ (left ++ last ∷ [])) → AreLinkBeatsInPeace topology (fold (behind topology) w beats) one far (left ++ last ∷ []) → 4 ≤ length beats
      → 5 ≤ length (left ++ last ∷ []) → OfLast (beats ++ left) last
  by_last beats left last of_beats peace far_peace link enough enough_more =
      let first : List Beat = beats ++ left in
      let joined : beats ++ (left ++ last ∷ []) ≡ first ++ last ∷ [] = sym (append_assoc beats left (last ∷ [])) in
      let of_both : IsRunOfBeats policy topology before (first ++ last ∷ []) = subst (IsRunOfBeats policy topology before) joined of_beats in
      let peace_both : AreBeatsInPeace topology w one.node (first ++ last ∷ []) = subst (AreBeatsInPeace topology w one.node) joined peace in
      let far_both : AreBeatsInPeace topology w far.node (first ++ last ∷ []) = subst (AreBeatsInPeace topology w far.node) joined far_peace in
      let past : List Event = before ++ events_of topology w first in
      let later : List Event = events_of topology (fold (behind topology) w first) (last ∷ []) in
      let split : before ++ events_of topology w (first ++ last ∷ []) ≡ past ++ later =
      ap (λ (es : List Event). before ++ es) (events_join topology first (last ∷ []) w) ∙ sym (append_assoc before (events_of topology w first) later) in
      let of_first : IsRunOfBeats policy topology before first = record {
        run = front_run policy topology past later (subst (IsRun policy topology) split of_both.run);
        addresses = of_both.addresses;
        tame = front_tame policy topology past later (subst (λ (es : List Event). IsTame (past_of policy topology es).records) split of_both.tame);
      } in
      let link_first : AreLinkBeatsInPeace topology (fold (behind topology) w beats) one far left = link_left topology one far left (last ∷ []) (fold (behind topology) w beats) link in
      let link_last : AreLinkBeatsInPeace topology (fold (behind topology) w first) one far (last ∷ []) =
      subst (λ (x : World). AreLinkBeatsInPeace topology x one far (last ∷ [])) (sym (folds_join topology beats left w)) (link_right topology one far left (last ∷ []) (fold (behind topology) w beats) link) in
      let woken : HasWoken (fold (behind topology) w first) one far = woken_behind whole given policy topology before one far beats left of_first peers empty
      (peace_left topology one.node first (last ∷ []) w peace_both) (peace_left topology far.node first (last ∷ []) w far_both) link_first enough
      (omega (arith, enough_more, length-append left (last ∷ []))) in
      let woken_then : HasWoken (fold (behind topology) w (beats ++ (left ++ last ∷ []))) one far = woken_behind whole given policy topology before one far beats (left ++ last ∷ []) of_beats peers empty
      peace far_peace link enough (omega (arith, enough_more)) in
      let many : 4 ≤ length first = omega (arith, enough, length-append beats left) in
      let woken_both : HasWoken (fold (behind topology) w (first ++ last ∷ [])) one far = subst (λ (bs : List Beat). HasWoken (fold (behind topology) w bs) one far) joined woken_then in
      record {
        lately = lately_behind first last of_both peace_both far_both link_last many woken woken_both;
        up = up_in_front first last of_both peace_both far_both link_last many woken woken_both;
      }

pub given_keeps_links_met : HoldsInRuns IsWhole → GivenKeepsLinksMet
given_keeps_links_met whole given policy topology events run addresses before after one far beats more are tame peers empty peace far_peace link enough enough_more =
    let w : World = world_at policy topology before in
    let all : List Event = before ++ events_of topology w (beats ++ more) in
    let of_beats : IsRunOfBeats policy topology before (beats ++ more) = record {
      run = front_run policy topology all after (subst (IsRun policy topology) are run);
      addresses = addresses;
      tame = tame;
    } in
    let p : Parted more = parted more enough_more in
    subst (λ (bs : List Beat). HaveMetLately (fold (behind topology) w bs) one far) (append_assoc beats p.left (p.last ∷ []) ∙ ap (λ (bs : List Beat). beats ++ bs) (sym p.are))
    (by_last whole given policy topology before one far peers empty beats p.left p.last (subst (λ (bs : List Beat). IsRunOfBeats policy topology before (beats ++ bs)) p.are of_beats)
    (subst (λ (bs : List Beat). AreBeatsInPeace topology w one.node (beats ++ bs)) p.are peace) (subst (λ (bs : List Beat). AreBeatsInPeace topology w far.node (beats ++ bs)) p.are far_peace)
    (subst (AreLinkBeatsInPeace topology (fold (behind topology) w beats) one far) p.are link) enough (subst (λ (bs : List Beat). 5 ≤ length bs) p.are enough_more)).lately

pub given_keeps_links_up : HoldsInRuns IsWhole → GivenKeepsLinksUp
given_keeps_links_up whole given policy topology events run addresses before after one far beats more last front rest are tame peers empty peace far_peace link enough enough_more e =
    let w : World = world_at policy topology before in
    let all : List Event = before ++ events_of topology w (beats ++ (more ++ last ∷ [])) in
    let so_far : List Event = before ++ events_of topology w (beats ++ more) in
    let joined : beats ++ (more ++ last ∷ []) ≡ (beats ++ more) ++ last ∷ [] = sym (append_assoc beats more (last ∷ [])) in
    let later : List Event = events_of topology (fold (behind topology) w (beats ++ more)) (last ∷ []) in
    let split : all ≡ so_far ++ later = ap (λ (bs : List Beat). before ++ events_of topology w bs) joined
    ∙ (ap (λ (es : List Event). before ++ es) (events_join topology (beats ++ more) (last ∷ []) w) ∙ sym (append_assoc before (events_of topology w (beats ++ more)) later)) in
    let of_beats : IsRunOfBeats policy topology before (beats ++ (more ++ last ∷ [])) = record {
      run = front_run policy topology all after (subst (IsRun policy topology) are run);
      addresses = addresses;
      tame = tame;
    } in
    let met : HaveMetLately (fold (behind topology) w (beats ++ more)) one far = given_keeps_links_met whole given policy topology events run addresses before (later ++ after) one far beats more
    (are ∙ (ap (λ (es : List Event). es ++ after) split ∙ append_assoc so_far later after)) (front_tame policy topology so_far later (subst (λ (es : List Event). IsTame (past_of policy topology es).records) split tame))
    peers empty (peace_left topology one.node (beats ++ more) (last ∷ []) w (subst (AreBeatsInPeace topology w one.node) joined peace))
    (peace_left topology far.node (beats ++ more) (last ∷ []) w (subst (AreBeatsInPeace topology w far.node) joined far_peace))
    (link_left topology one far more (last ∷ []) (fold (behind topology) w beats) link) enough enough_more in
    (by_last whole given policy topology before one far peers empty beats more last of_beats peace far_peace link enough
    (omega (arith, enough_more, length-append more (last ∷ [])))).up met front rest e
