-- a run in which a new flow's packets are sent at an unlabelled network, or behind calm beats, and calm beats follow

use Rattle.std.proofs.Common.{◌≡◌, ◌∙◌, ◌<◌, true, List, [], ◌∷◌, ◌++◌, append-nil, append_assoc, map, length, fold, Option, Some, refl, sym, ap, subst, arith}
use Rattle.std.specs.Option.{option_map, option_map_or, option_and_then}
use Rattle.world_model.specs.Words.{NodeId, Addr, best, Policy, FlowId, flow_ttl, flow_destination, table_in, Standing, Controller, Linked, linked_at, linked_end, is_empty, tick_of_all, Topology, World, Site, site_at, world_after, past_of, IsRun, IsTame, IsNode}
use Rattle.world_model.specs.World.{opened}
use Rattle.world_model.specs.ipv4_forward.declared.table.Route.{Route}
use Rattle.world_model.specs.network_model.declared.link.LinkEnd.{LinkEnd}
use Rattle.world_model.specs.network_model.declared.event.Event.{Event}
use Rattle.world_model.specs.network_model.declared.event.Event.TheVariants.{Carry}
use Rattle.live_model.specs.Beats.{Beat, settling, settled, events_in, behind}
use Rattle.live_model.specs.Waking.{events_of}
use Rattle.calm_model.specs.Calm as calm
use Rattle.calm_model.specs.Unlabelled.{IsUnlabelled}
use Rattle.calm_model.specs.Ways.{IsWayFrom}
use Rattle.calm_model.specs.Served.{IsFreeWay, IsSent}
use Rattle.calm_model.specs.CutThrough.{IsCutThrough, CutsThrough, CutThrough, FlowsAreCutThrough}
use Rattle.law_live_ease.specs.law_port_facts.ordered_lists.Ordered.{Every}
use Rattle.law_live_ease.specs.law_run_facts.law_world_views.Fronts.{HasAddresses}
use Rattle.law_live_ease.proofs.law_run_facts.Nodes.{runs_have_nodes}
use Rattle.law_live_ease.specs.law_true_runs.Runs.{HoldsInRuns, IsWhole}
use Rattle.law_live_ease.proofs.law_true_runs.Fronts.{front_run, front_tame}
use Rattle.law_live_ease.specs.law_live_worlds.Law.{Shows}
use Rattle.law_live_ease.specs.law_live_hearing.Law.{world_at}
use Rattle.law_live_ease.proofs.law_live_hearing.Going.{after_all}
use Rattle.law_live_ease.specs.law_live_journeys.Hops.{IsStretch}
use Rattle.law_live_ease.specs.law_live_journeys.Journeys.{KeepsRoutes}
use Rattle.law_live_ease.proofs.law_live_journeys.Tables.{tables_stay}
use Rattle.law_live_ease.specs.Law.{IsAtEase, Binds}
use Rattle.law_live_ease.specs.Beats.{IsCalmBeat}
use Rattle.law_live_ease.specs.Binding.{IsCalmStretch, BeatsBindOn}
use Rattle.law_live_ease.specs.Ticks.{TicksBind}
use Rattle.law_live_ease.specs.AtEase.{BeatsKeepEase}
use Rattle.law_live_ease.specs.Unlabelled.{UnlabelledNetworksAreAtEase}
use Rattle.law_live_ease.specs.Written.{MessagesAreWritten}
use Rattle.law_live_ease.proofs.AgreeingBeats.{RangesMeet, ranges_stay, calm_events, calm_beat}
use Rattle.law_live_cut_through.specs.Ease.{EaseBinds, StretchesKeepEase}
use Rattle.law_live_cut_through.specs.Law.{AddsBranch, AddBranchesAlone, BindsAlone, AreLabelled, WayStands}
use Rattle.law_live_cut_through.specs.First.{FlowsAreLabelled, SettledAreAtEase, WaysComeToStand}
use Rattle.law_live_cut_through.specs.Later.{WaysStandInBeats, WaysStandBehindBeats, StandingWaysCutThrough, PacketsAreSwitched}
use Rattle.law_live_cut_through.specs.Runs.{RunsCutThrough}
use Rattle.law_live_cut_through.proofs.StretchesSent.{sent_none, waits_none}

-- *The laws* that it stands on
pub record Laws : Type 0 where
  pub whole : HoldsInRuns IsWhole
  pub written : MessagesAreWritten
  pub ticks : TicksBind
  pub binds_on : BeatsBindOn
  pub keep : BeatsKeepEase
  pub ease_binds : EaseBinds
  pub ease_stays : StretchesKeepEase
  pub fresh : UnlabelledNetworksAreAtEase
  pub labelled : FlowsAreLabelled
  pub settled_ease : SettledAreAtEase
  pub come : WaysComeToStand
  pub in_beats : WaysStandInBeats
  pub behind_beats : WaysStandBehindBeats
  pub cut : StandingWaysCutThrough
  pub switched : PacketsAreSwitched

module _ (laws : Laws) (policy : Policy) (topology : Topology) (addresses : HasAddresses topology) where
  abbrev at_events : List Event → World
  at_events events = world_at policy topology events

  -- *A calm beat* of a network at ease, in a run
  record Comes (before : List Event) (beat : Beat) : Type 0 where
    run : IsRun policy topology (before ++ events_in (at_events before) beat)
    tame : IsTame (past_of policy topology (before ++ events_in (at_events before) beat)).records
    ease : IsAtEase topology (at_events before)
    calm_so : IsCalmBeat policy topology before beat

  module _ (before : List Event) (beat : Beat) (b : Comes before beat) where
    abbrev w : World
    w = at_events before

    abbrev past : List Event
    past = before ++ settling w beat

    abbrev v : World
    v = settled topology w beat

    settled_is : at_events past ≡ v
    settled_is = after_all topology (opened policy topology) before (settling w beat)

    all_is : past ++ beat.sending ≡ before ++ events_in w beat
    all_is = append_assoc before (settling w beat) beat.sending

    end_is : at_events (past ++ beat.sending) ≡ behind topology w beat
    end_is = ap at_events all_is ∙ after_all topology (opened policy topology) before (events_in w beat)

    stretch : IsStretch policy topology past beat.sending
    stretch = record {
      run = subst (IsRun policy topology) (sym all_is) b.run;
      addresses = addresses;
      tame = subst (λ (es : List Event). IsTame (past_of policy topology es).records) (sym all_is) b.tame;
      empties = ap is_empty end_is ∙ b.calm_so.is_beat.empties;
    }

    -- behind the ticks and carries it binds, and nothing stands
    carried_is : world_after topology (world_after topology w (tick_of_all w)) (map Carry beat.carries) ≡ v
    carried_is = sym (after_all topology w (tick_of_all w) (map Carry beat.carries))

    binds : Binds topology v
    binds = subst (Binds topology) carried_is
        (laws.binds_on policy topology before beat b.calm_so (laws.ticks policy topology before beat b.ease b.calm_so) (map Carry beat.carries) beat.sending refl)

    ease_then : IsAtEase topology v
    ease_then = laws.settled_ease policy topology before beat b.ease b.calm_so

    so_far : IsRun policy topology past
    so_far = front_run policy topology past beat.sending stretch.run

    none_stands : AddBranchesAlone v
    none_stands node site found =
        let inside : IsNode topology node = (runs_have_nodes policy topology past addresses so_far node site (ap (λ (x : World). site_at x node) settled_is ∙ found)).is_node.number in
        let none : site.controller.desk.standing ≡ [] = subst (λ (o : Option Site). option_map_or (λ (c : Controller). c.desk.standing) (option_map (λ (s : Site). s.controller) o) [] ≡ []) found
        (ease_then.peace.lasting.nothing_stands node inside) in
        subst (Every (λ (s : Standing). AddsBranch s.request)) (sym none) tt

    -- *Where the way stands then*, the beat cuts the flow through
    module _ (node : NodeId) (flow : FlowId) (far : LinkEnd) (ends : List LinkEnd) (lives : length (far ∷ ends) < flow_ttl flow) (stands : WayStands topology v node flow far ends) where
      cuts : CutsThrough topology w beat node flow far ends
      cuts = record {
        is = subst (λ (x : World). IsCutThrough topology x node flow far ends) settled_is
            (laws.cut policy topology past beat.sending node flow far ends stretch
            (subst (BindsAlone topology) (sym settled_is) (record { binds = binds; alone = none_stands }))
            (ap is_empty settled_is ∙ b.calm_so.is_beat.settles)
            (subst (λ (x : World). WayStands topology x node flow far ends) (sym settled_is) stands));
        switched = laws.switched policy topology before beat node flow far ends b.ease b.calm_so lives stands;
      }

      stands_on : WayStands topology (behind topology w beat) node flow far ends
      stands_on = laws.behind_beats policy topology before beat node flow far ends b.ease b.calm_so stands

  -- *Beats that come*
  record Follow (before : List Event) (beats : List Beat) : Type 0 where
    run : IsRun policy topology (before ++ events_of topology (at_events before) beats)
    tame : IsTame (past_of policy topology (before ++ events_of topology (at_events before) beats)).records
    ease : IsAtEase topology (at_events before)
    meet : RangesMeet policy topology addresses (at_events before)
    are : calm.AreCalmBeats topology (at_events before) beats

  module _ (before : List Event) (beat : Beat) (beats : List Beat) (f : Follow before (beat ∷ beats)) where
    abbrev u : World
    u = at_events before

    abbrev later : List Event
    later = before ++ events_in u beat

    abbrev rest : List Event
    rest = events_of topology (behind topology u beat) beats

    now_is : at_events later ≡ behind topology u beat
    now_is = after_all topology (opened policy topology) before (events_in u beat)

    split : before ++ (events_in u beat ++ rest) ≡ later ++ rest
    split = sym (append_assoc before (events_in u beat) rest)

    run_all : IsRun policy topology (later ++ rest)
    run_all = subst (IsRun policy topology) split f.run

    tame_all : IsTame (past_of policy topology (later ++ rest)).records
    tame_all = subst (λ (es : List Event). IsTame (past_of policy topology es).records) split f.tame

    run_later : IsRun policy topology later
    run_later = front_run policy topology later rest run_all

    tame_later : IsTame (past_of policy topology later).records
    tame_later = front_tame policy topology later rest tame_all

    first : Comes before beat
    first = record {
      run = run_later;
      tame = tame_later;
      ease = f.ease;
      calm_so = calm_beat policy topology addresses laws.whole laws.written before beat run_later tame_later f.ease f.meet f.are.0;
    }

    others : Follow later beats
    others = record {
      run = subst (λ (x : World). IsRun policy topology (later ++ events_of topology x beats)) (sym now_is) run_all;
      tame = subst (λ (x : World). IsTame (past_of policy topology (later ++ events_of topology x beats)).records) (sym now_is) tame_all;
      ease = laws.keep policy topology before beat f.ease first.calm_so;
      meet = ranges_stay policy topology addresses before later (front_run policy topology before (events_in u beat) run_later) run_later f.ease f.meet;
      are = subst (λ (x : World). calm.AreCalmBeats topology x beats) (sym now_is) f.are.1;
    }

  -- so the network is at ease behind them
  ease_behind_all : (before : List Event) (beats : List Beat) → Follow before beats → IsAtEase topology (at_events (before ++ events_of topology (at_events before) beats))
  ease_behind_all before [] f = subst (λ (es : List Event). IsAtEase topology (at_events es)) (sym (append-nil before)) f.ease
  ease_behind_all before (beat ∷ beats) f =
      subst (λ (es : List Event). IsAtEase topology (at_events es)) (sym (split before beat beats f))
      (subst (λ (x : World). IsAtEase topology (at_events (later before beat beats f ++ events_of topology x beats))) (now_is before beat beats f)
      (ease_behind_all (later before beat beats f) beats (others before beat beats f)))

  world_behind : (before : List Event) (beats : List Beat) → at_events (before ++ events_of topology (at_events before) beats) ≡ fold (behind topology) (at_events before) beats
  world_behind before [] = ap at_events (append-nil before)
  world_behind before (beat ∷ beats) =
      let w : World = at_events before in
      let then : List Event = before ++ events_in w beat in
      let is : at_events then ≡ behind topology w beat = after_all topology (opened policy topology) before (events_in w beat) in
      ap at_events (sym (append_assoc before (events_in w beat) (events_of topology (behind topology w beat) beats)))
      ∙ (ap (λ (x : World). at_events (then ++ events_of topology x beats)) (sym is)
      ∙ (world_behind then beats ∙ ap (λ (x : World). fold (behind topology) x beats) is))

  -- *Each cuts a flow through*
  module _ (node : NodeId) (flow : FlowId) (far : LinkEnd) (ends : List LinkEnd) (lives : length (far ∷ ends) < flow_ttl flow) where
    -- *The way stands* as they begin
    stand_on : (before : List Event) (beats : List Beat) → Follow before beats → WayStands topology (at_events before) node flow far ends
        → CutThrough topology (at_events before) beats node flow far ends
    stand_on before [] f stands = tt
    stand_on before (beat ∷ beats) f stands = λ begins.
        let b : Comes before beat = first before beat beats f in
        let then : WayStands topology (settled topology (at_events before) beat) node flow far ends =
        laws.in_beats policy topology before beat node flow far ends b.ease b.calm_so begins (omega (arith, lives)) stands in (
          cuts before beat b node flow far ends lives then,
          subst (λ (x : World). CutThrough topology x beats node flow far ends) (now_is before beat beats f)
              (stand_on (later before beat beats f) beats (others before beat beats f)
              (subst (λ (x : World). WayStands topology x node flow far ends) (sym (now_is before beat beats f)) (stands_on before beat b node flow far ends lives then))),
        )

    -- *Its links are labelled* as they begin, and the way is free
    labelled_first : (before : List Event) (beats : List Beat) → Follow before beats → AreLabelled topology (at_events before) node flow (far ∷ ends)
        → IsFreeWay topology (at_events before) node flow (far ∷ ends) → IsWayFrom topology (λ (n : NodeId). table_in n (at_events before)) (flow_destination flow) node (far ∷ ends)
        → CutThrough topology (at_events before) beats node flow far ends
    labelled_first before [] f labels free way = tt
    labelled_first before (beat ∷ beats) f labels free way = λ begins.
        let b : Comes before beat = first before beat beats f in
        let then : WayStands topology (settled topology (at_events before) beat) node flow far ends =
        laws.come policy topology before beat node flow far ends b.ease b.calm_so labels free way lives begins in (
          cuts before beat b node flow far ends lives then,
          subst (λ (x : World). CutThrough topology x beats node flow far ends) (now_is before beat beats f)
              (stand_on (later before beat beats f) beats (others before beat beats f)
              (subst (λ (x : World). WayStands topology x node flow far ends) (sym (now_is before beat beats f)) (stands_on before beat b node flow far ends lives then))),
        )

  -- *What is sent* changes no route, so the way is the same behind it
  same_way : (tables then : NodeId → List Route) → ((n : NodeId) → then n ≡ tables n) → (destination : Addr) (node : NodeId) (ends : List LinkEnd)
      → IsWayFrom topology tables destination node ends → IsWayFrom topology then destination node ends
  same_way tables then same destination node [] way = ap (λ (table : List Route). best table destination) (same node) ∙ way
  same_way tables then same destination node (far ∷ ends) way = (
    record { port = way.0.port; route = ap (λ (table : List Route). best table destination) (same node) ∙ way.0.route; linked = way.0.linked },
    same_way tables then same destination far.node ends way.1,
  )

  -- *A flow is sent* in calm, in a network at ease
  module _ (before sending : List Event) (run : IsRun policy topology (before ++ sending)) (tame : IsTame (past_of policy topology (before ++ sending)).records)
      (at_ease : IsAtEase topology (at_events before)) (meet : RangesMeet policy topology addresses (at_events before))
      (in_calm : calm.IsCalmSending topology (at_events before) sending) where
    abbrev now : World
    now = at_events before

    abbrev then : World
    then = world_after topology now sending

    then_is : at_events (before ++ sending) ≡ then
    then_is = after_all topology (opened policy topology) before sending

    begun : IsRun policy topology before
    begun = front_run policy topology before sending run

    tame_so_far : IsTame (past_of policy topology before).records
    tame_so_far = front_tame policy topology before sending tame

    as_stretch : IsCalmStretch policy topology before sending
    as_stretch = record {
      run = run;
      addresses = addresses;
      tame = tame;
      sends = in_calm.sends;
      calm = calm_events policy topology addresses before sending run at_ease meet in_calm.room in_calm.calm;
    }

    in_the_end : is_empty (at_events (before ++ sending)) ≡ true
    in_the_end = ap is_empty then_is ∙ in_calm.empties

    bound : Binds topology now
    bound = laws.ease_binds policy topology before begun addresses tame_so_far at_ease

    ease_behind : IsAtEase topology (at_events (before ++ sending))
    ease_behind = laws.ease_stays policy topology before sending as_stretch in_the_end at_ease

    meet_behind : RangesMeet policy topology addresses (at_events (before ++ sending))
    meet_behind = ranges_stay policy topology addresses before (before ++ sending) begun run at_ease meet

    keeps_routes : KeepsRoutes policy topology before sending
    keeps_routes = record { none_comes = sent_none sending in_calm.sends; none_waits = waits_none now (λ node site found. (at_ease.steady node site found).none_waits) }

    tables_then : (n : NodeId) → table_in n (at_events (before ++ sending)) ≡ table_in n now
    tables_then n = tables_stay policy topology before sending keeps_routes sending [] (sym (append-nil sending)) n

    module _ (node : NodeId) (flow : FlowId) (far : LinkEnd) (ends : List LinkEnd) (s : IsSent policy topology now sending node flow (far ∷ ends)) where
      labels : AreLabelled topology (at_events (before ++ sending)) node flow (far ∷ ends)
      labels = laws.labelled policy topology before sending node flow (far ∷ ends) as_stretch in_the_end at_ease bound ease_behind s

      free : IsFreeWay topology (at_events (before ++ sending)) node flow (far ∷ ends)
      free = subst (λ (x : World). IsFreeWay topology x node flow (far ∷ ends)) (sym then_is) (s.free sending [] (sym (append-nil sending)))

      way : IsWayFrom topology (λ (n : NodeId). table_in n (at_events (before ++ sending))) (flow_destination flow) node (far ∷ ends)
      way = same_way (λ (n : NodeId). table_in n now) (λ (n : NodeId). table_in n (at_events (before ++ sending))) tables_then (flow_destination flow) node (far ∷ ends) s.way

  -- *The whole*
  flows : (events : List Event) → IsRun policy topology events → FlowsAreCutThrough policy topology events
  flows events run before sending after earlier later_on node flow far ends are tame fresh earlier_calm in_calm is_sent calm_beats =
      let start : World = at_events before in
      let before_it : List Event = before ++ events_of topology start earlier in
      let here : at_events before_it ≡ fold (behind topology) start earlier = world_behind before earlier in
      let behind_it : List Event = before_it ++ sending in
      let then_so : World = world_after topology (fold (behind topology) start earlier) sending in
      let of_beats : List Event = events_of topology then_so later_on in
      let so_far : IsRun policy topology (behind_it ++ of_beats) = front_run policy topology (behind_it ++ of_beats) after (subst (IsRun policy topology) are run) in
      let run_there : IsRun policy topology behind_it = front_run policy topology behind_it of_beats so_far in
      let tame_there : IsTame (past_of policy topology behind_it).records = front_tame policy topology behind_it of_beats tame in
      let run_before : IsRun policy topology before_it = front_run policy topology before_it sending run_there in
      let tame_before : IsTame (past_of policy topology before_it).records = front_tame policy topology before_it sending tame_there in
      let run_start : IsRun policy topology before = front_run policy topology before (events_of topology start earlier) run_before in
      let ease_start : IsAtEase topology start = laws.fresh policy topology before run_start addresses (front_tame policy topology before (events_of topology start earlier) tame_before) fresh in
      let meet_start : RangesMeet policy topology addresses start = λ one other linked far_linked between shows far_shows. (fresh.links one other linked far_linked between
      (end_there start one linked shows) (end_there start other far_linked far_shows)).ranges in
      let first_beats : Follow before earlier = record { run = run_before; tame = tame_before; ease = ease_start; meet = meet_start; are = earlier_calm } in
      let ease_here : IsAtEase topology (at_events before_it) = ease_behind_all before earlier first_beats in
      let meet_here : RangesMeet policy topology addresses (at_events before_it) = ranges_stay policy topology addresses before before_it run_start run_before ease_start meet_start in
      let calm_here : calm.IsCalmSending topology (at_events before_it) sending = subst (λ (x : World). calm.IsCalmSending topology x sending) (sym here) in_calm in
      let sent_here : IsSent policy topology (at_events before_it) sending node flow (far ∷ ends) = subst (λ (x : World). IsSent policy topology x sending node flow (far ∷ ends)) (sym here) is_sent in
      let is : at_events behind_it ≡ then_so = then_is before_it sending run_there tame_there ease_here meet_here calm_here ∙ ap (λ (x : World). world_after topology x sending) here in
      let f : Follow behind_it later_on = record {
        run = subst (λ (x : World). IsRun policy topology (behind_it ++ events_of topology x later_on)) (sym is) so_far;
        tame = subst (λ (x : World). IsTame (past_of policy topology (behind_it ++ events_of topology x later_on)).records) (sym is) tame;
        ease = ease_behind before_it sending run_there tame_there ease_here meet_here calm_here;
        meet = meet_behind before_it sending run_there tame_there ease_here meet_here calm_here;
        are = subst (λ (x : World). calm.AreCalmBeats topology x later_on) (sym is) calm_beats;
      } in
      subst (λ (x : World). CutThrough topology x later_on node flow far ends) is
      (labelled_first node flow far ends sent_here.lives behind_it later_on f (labels before_it sending run_there tame_there ease_here meet_here calm_here node flow far ends sent_here)
      (free before_it sending run_there tame_there ease_here meet_here calm_here node flow far ends sent_here)
      (way before_it sending run_there tame_there ease_here meet_here calm_here node flow far ends sent_here))
    where
      end_there : (w : World) (end : LinkEnd) (linked : Linked) → Shows w end linked → linked_end w end ≡ Some linked
      end_there w end linked shows =
          ap (λ (o : Option Site). option_and_then (λ (c : Controller). linked_at c end.port) (option_map (λ (s : Site). s.controller) o)) shows.there ∙ shows.of_port

pub runs_cut_through : Laws → RunsCutThrough
runs_cut_through laws policy topology events run addresses = flows laws policy topology addresses events run
