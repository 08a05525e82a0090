-- a run in which calm beats come behind an unlabelled network

use Rattle.std.proofs.Common.{◌≡◌, ◌∙◌, List, [], ◌∷◌, ◌++◌, append-nil, append_assoc, fold, Option, Some, sym, ap, subst}
use Rattle.std.specs.Option.{option_map, option_map_or, option_and_then}
use Rattle.world_model.specs.Words.{NodeId, Policy, labels_of, Grant, Idle, grant_label, Controller, Linked, linked_at, linked_end, Topology, World, Site, site_at, past_of, IsRun, IsTame, IsNode}
use Rattle.world_model.specs.World.{opened}
use Rattle.world_model.specs.Topology.{peer_of}
use Rattle.world_model.specs.network_model.declared.link.LinkEnd.{LinkEnd}
use Rattle.world_model.specs.network_model.declared.event.Event.{Event}
use Rattle.live_model.specs.Beats.{Beat, events_in, behind}
use Rattle.live_model.specs.Waking.{events_of}
use Rattle.live_model.specs.Met.{HaveMet}
use Rattle.calm_model.specs.Agreeing.{IsAgreed, Agrees, IsAtRest, AllAgree, CalmBeatsAgree}
use Rattle.calm_model.specs.Calm as calm
use Rattle.law_live_journeys.proofs.law_port_facts.ordered_lists.Every.{every_map}
use Rattle.law_live_journeys.proofs.law_port_facts.Keyed.{at_every}
use Rattle.law_live_journeys.specs.law_run_facts.law_world_views.Fronts.{HasAddresses}
use Rattle.law_live_journeys.proofs.law_run_facts.Nodes.{runs_have_nodes}
use Rattle.law_live_journeys.specs.law_true_runs.Runs.{HoldsInRuns, IsWhole}
use Rattle.law_live_journeys.proofs.law_true_runs.Fronts.{front_run, front_tame}
use Rattle.law_live_journeys.specs.law_live_links.Law.{IsAgreedOn}
use Rattle.law_live_journeys.specs.law_live_worlds.Law.{Shows, end_of}
use Rattle.law_live_journeys.specs.law_live_hearing.Law.{world_at}
use Rattle.law_live_journeys.proofs.law_live_hearing.Going.{after_all}
use Rattle.law_live_ease.specs.Law.{IsAtEase}
use Rattle.law_live_ease.specs.AtEase.{EndsAgree, BeatsKeepEase, EndsAtEaseAgree}
use Rattle.law_live_ease.specs.Unlabelled.{UnlabelledNetworksAreAtEase}
use Rattle.law_live_ease.specs.Written.{MessagesAreWritten}
use Rattle.law_live_ease.specs.Agreeing.{RunsAgree}
use Rattle.law_live_ease.proofs.AgreeingBeats.{RangesMeet, ranges_stay, calm_beat}

-- *What shows* at an end of a link is what is there
shown_is : (w : World) (end : LinkEnd) (x y : Linked) → Shows w end x → linked_end w end ≡ Some y → x ≡ y
shown_is w end x y shows there =
    let found : linked_end w end ≡ Some x =
    ap (λ (o : Option Site). option_and_then (λ (c : Controller). linked_at c end.port) (option_map (λ (s : Site). s.controller) o)) shows.there ∙ shows.of_port in
    let same : Some x ≡ Some y = sym found ∙ there in
    cc

module _ (whole : HoldsInRuns IsWhole) (written : MessagesAreWritten) (keep : BeatsKeepEase) (agree : EndsAtEaseAgree) (policy : Policy) (topology : Topology)
    (addresses : HasAddresses topology) where
  -- *Calm beats* behind these events keep the network at ease
  still_at_ease : (before : List Event) (beats : List Beat) → IsRun policy topology (before ++ events_of topology (world_at policy topology before) beats)
      → IsTame (past_of policy topology (before ++ events_of topology (world_at policy topology before) beats)).records
      → IsAtEase topology (world_at policy topology before) → RangesMeet policy topology addresses (world_at policy topology before)
      → calm.AreCalmBeats topology (world_at policy topology before) beats
      → IsAtEase topology (fold (behind topology) (world_at policy topology before) beats)
  still_at_ease before [] run tame ease meet are = ease
  still_at_ease before (beat ∷ beats) run tame ease meet are =
      let w : World = world_at policy topology before in
      let later : List Event = before ++ events_in w beat in
      let rest : List Event = events_of topology (behind topology w beat) beats in
      let now_is : world_at policy topology later ≡ behind topology w beat = after_all topology (opened policy topology) before (events_in w beat) in
      let split : before ++ (events_in w beat ++ rest) ≡ later ++ rest = sym (append_assoc before (events_in w beat) rest) in
      let run_all : IsRun policy topology (later ++ rest) = subst (IsRun policy topology) split run in
      let tame_all : IsTame (past_of policy topology (later ++ rest)).records = subst (λ (es : List Event). IsTame (past_of policy topology es).records) split tame in
      let run_later : IsRun policy topology later = front_run policy topology later rest run_all in
      let tame_later : IsTame (past_of policy topology later).records = front_tame policy topology later rest tame_all in
      let begun : IsRun policy topology before = front_run policy topology before (events_in w beat) run_later in
      let ease_later : IsAtEase topology (world_at policy topology later) =
      keep policy topology before beat ease (calm_beat policy topology addresses whole written before beat run_later tame_later ease meet are.0) in
      subst (λ (x : World). IsAtEase topology (fold (behind topology) x beats)) now_is
      (still_at_ease later beats (subst (λ (x : World). IsRun policy topology (later ++ events_of topology x beats)) (sym now_is) run_all)
      (subst (λ (x : World). IsTame (past_of policy topology (later ++ events_of topology x beats)).records) (sym now_is) tame_all) ease_later
      (ranges_stay policy topology addresses before later begun run_later ease meet)
      (subst (λ (x : World). calm.AreCalmBeats topology x beats) (sym now_is) are.1))

  -- *At ease all agree*
  all_agree : (events : List Event) → IsRun policy topology events → (w : World) → world_at policy topology events ≡ w → IsAtEase topology w → AllAgree topology w
  all_agree events run w is ease = record {
    nodes = at_rest;
    ends = ends;
  }
    where
      same_site : (x y : Site) → Some x ≡ Some y → x ≡ y
      same_site x y e = cc e

      at_rest : (node : NodeId) (site : Site) → site_at w node ≡ Some site → IsAtRest site
      at_rest node site found =
          let inside : IsNode topology node =
          (runs_have_nodes policy topology events addresses run node site (ap (λ (x : World). site_at x node) is ∙ found)).is_node.number in
          let link = ease.peace.lasting.peace.met node inside in
          record {
            met = subst (λ (s : Site). HaveMet s.controller.adjacency s.switch.adjacency) (same_site link.site site (sym link.found ∙ found)) link.calm.met;
            nothing_stands = subst (λ (o : Option Site). option_map_or (λ (c : Controller). c.desk.standing) (option_map (λ (s : Site). s.controller) o) [] ≡ []) found
                (ease.peace.lasting.nothing_stands node inside);
          }

      ends : (one far : LinkEnd) (linked far_linked : Linked) → peer_of topology one.node one.port ≡ Some far → linked_end w one ≡ Some linked
          → linked_end w far ≡ Some far_linked → Agrees linked far_linked
      ends one far linked far_linked between there far_there =
          let a = (ease.peace.lasting.peace.links one far between).agree in
          let near : a.linked ≡ linked = shown_is w one a.linked linked a.shows there in
          let distant : a.far_linked ≡ far_linked = shown_is w far a.far_linked far_linked a.far_shows far_there in
          let agreed : EndsAgree a.linked a.far_linked = agree topology w one far a.linked a.far_linked run.topology_is ease between a.shows a.far_shows in
          let it : Agrees a.linked a.far_linked = record {
            met = a.agreed.met;
            labels = every_map (IsAgreedOn (end_of a.linked []) (end_of a.far_linked [])) (IsAgreed a.far_linked) (labels_of a.linked.port) (λ label on. record {
              offered = on.offered;
              grant = on.grant;
              granted = on.granted;
              same_flow = on.same_flow;
              used = at_every grant_label (λ (grant : Grant). grant.state ≡ Idle → ⊥) label.number a.far_linked.port.grants on.grant agreed.used on.granted;
              stays = on.stays;
            }) agreed.labels;
            grants = agreed.grants;
          } in
          subst (λ (x : Linked). Agrees x far_linked) near (subst (λ (x : Linked). Agrees a.linked x) distant it)

  agrees : UnlabelledNetworksAreAtEase → (events : List Event) → IsRun policy topology events → CalmBeatsAgree policy topology events
  agrees fresh_is events run before after beats are tame fresh calm_beats =
      let w : World = world_at policy topology before in
      let of_beats : List Event = events_of topology w beats in
      let so_far : IsRun policy topology (before ++ of_beats) = front_run policy topology (before ++ of_beats) after (subst (IsRun policy topology) are run) in
      let begun : IsRun policy topology before = front_run policy topology before of_beats so_far in
      let ease : IsAtEase topology w = fresh_is policy topology before begun addresses (front_tame policy topology before of_beats tame) fresh in
      let meet : RangesMeet policy topology addresses w = λ one far linked far_linked between shows far_shows. (fresh.links one far linked far_linked between
      (end_there one linked shows) (end_there far far_linked far_shows)).ranges in
      all_agree (before ++ of_beats) so_far (fold (behind topology) w beats) (behind_all before beats)
      (still_at_ease before beats so_far tame ease meet calm_beats)
    where
      end_there : (end : LinkEnd) (linked : Linked) → Shows (world_at policy topology before) end linked → linked_end (world_at policy topology before) end ≡ Some linked
      end_there end linked shows =
          ap (λ (o : Option Site). option_and_then (λ (c : Controller). linked_at c end.port) (option_map (λ (s : Site). s.controller) o)) shows.there ∙ shows.of_port

      behind_all : (past : List Event) (beats : List Beat) → world_at policy topology (past ++ events_of topology (world_at policy topology past) beats)
          ≡ fold (behind topology) (world_at policy topology past) beats
      behind_all past [] = ap (world_at policy topology) (append-nil past)
      behind_all past (beat ∷ beats) =
          let v : World = world_at policy topology past in
          let later : List Event = past ++ events_in v beat in
          let now_is : world_at policy topology later ≡ behind topology v beat = after_all topology (opened policy topology) past (events_in v beat) in
          ap (world_at policy topology) (sym (append_assoc past (events_in v beat) (events_of topology (behind topology v beat) beats)))
          ∙ (ap (λ (x : World). world_at policy topology (later ++ events_of topology x beats)) (sym now_is)
          ∙ (behind_all later beats ∙ ap (λ (x : World). fold (behind topology) x beats) now_is))

pub runs_agree : HoldsInRuns IsWhole → MessagesAreWritten → BeatsKeepEase → EndsAtEaseAgree → UnlabelledNetworksAreAtEase → RunsAgree
runs_agree whole written keep agree fresh policy topology events run addresses = agrees whole written keep agree policy topology addresses fresh events run
