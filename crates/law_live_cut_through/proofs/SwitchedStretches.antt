-- a calm stretch in which the network binds throughout, and what is sent in a calm beat is one

use Rattle.std.proofs.Common.{◌≡◌, true, List, [], ◌∷◌, ◌++◌, append_assoc, append-nil, map, Option, Some, refl, sym, ◌∙◌, ap, subst}
use Rattle.std.specs.Option.{option_map, option_map_or}
use Rattle.world_model.specs.Words.{NodeId, Policy, Standing, Controller, is_empty, table_in, tick_of_all, Topology, World, Site, site_at, world_after, past_of, IsRun, IsTame, IsNode}
use Rattle.world_model.specs.World.{opened}
use Rattle.world_model.specs.network_model.declared.event.Event.{Event}
use Rattle.world_model.specs.network_model.declared.event.Event.TheVariants.{Carry}
use Rattle.live_model.specs.Beats.{Beat, settling, settled, events_in}
use Rattle.law_live_ease.specs.law_port_facts.ordered_lists.Ordered.{Every}
use Rattle.law_live_ease.proofs.law_run_facts.Nodes.{runs_have_nodes}
use Rattle.law_live_ease.proofs.law_true_runs.Fronts.{front_run}
use Rattle.law_live_ease.specs.law_live_hearing.Law.{world_at}
use Rattle.law_live_ease.proofs.law_live_hearing.Going.{after_all}
use Rattle.law_live_ease.specs.law_live_journeys.Hops.{IsStretch}
use Rattle.law_live_ease.specs.law_live_journeys.Journeys.{KeepsRoutes}
use Rattle.law_live_ease.proofs.law_live_journeys.Tables.{tables_stay}
use Rattle.law_live_ease.specs.Law.{IsAtEase, Binds, IsCalmEvent}
use Rattle.law_live_ease.specs.Beats.{AreCalmEvents, IsCalmBeat}
use Rattle.law_live_ease.specs.Binding.{IsCalmStretch}
use Rattle.law_live_cut_through.specs.Law.{AddsBranch, AddBranchesAlone, BindsAlone}
use Rattle.law_live_cut_through.proofs.StretchesSent.{sent_none, waits_none, rest_sent}
use Rattle.law_live_cut_through.proofs.SwitchedGiven.{Given}

-- *A stretch that binds*, with only branches asked, behind each front of it; it is calm, and in its end all links are empty
pub record IsBoundStretch (policy : Policy) (topology : Topology) (past events : List Event) : Type 0 where
  pub stretch : IsStretch policy topology past events
  pub calm : IsCalmStretch policy topology past events
  pub bound : (front rest : List Event) → events ≡ front ++ rest → BindsAlone topology (world_at policy topology (past ++ front))

-- *So it is from each front on*
pub behind_front : (policy : Policy) (topology : Topology) (past front rest : List Event) → IsBoundStretch policy topology past (front ++ rest)
    → IsBoundStretch policy topology (past ++ front) rest
behind_front policy topology past front rest b =
    let split : past ++ (front ++ rest) ≡ (past ++ front) ++ rest = sym (append_assoc past front rest) in
    let run : IsRun policy topology ((past ++ front) ++ rest) = subst (IsRun policy topology) split b.stretch.run in
    let tame : IsTame (past_of policy topology ((past ++ front) ++ rest)).records = subst (λ (es : List Event). IsTame (past_of policy topology es).records) split b.stretch.tame in
    let now : (first : List Event) → world_after topology (world_at policy topology past) (front ++ first) ≡ world_after topology (world_at policy topology (past ++ front)) first =
    λ (first : List Event). after_all topology (world_at policy topology past) front first ∙ ap (λ (x : World). world_after topology x first) (sym (after_all topology (opened policy topology) past front)) in
    record {
      stretch = record {
        run = run;
        addresses = b.stretch.addresses;
        tame = tame;
        empties = subst (λ (es : List Event). is_empty (world_at policy topology es) ≡ true) split b.stretch.empties;
      };
      calm = record {
        run = run;
        addresses = b.stretch.addresses;
        tame = tame;
        sends = rest_sent front rest b.calm.sends;
        calm = λ (first later : List Event) (event : Event) (e : rest ≡ first ++ event ∷ later). subst (λ (x : World). IsCalmEvent topology x event) (now first)
            (b.calm.calm (front ++ first) later event (ap (λ (es : List Event). front ++ es) e ∙ sym (append_assoc front first (event ∷ later))));
      };
      bound = λ (first later : List Event) (e : rest ≡ first ++ later). subst (λ (es : List Event). BindsAlone topology (world_at policy topology es)) (sym (append_assoc past front first))
          (b.bound (front ++ first) later (ap (λ (es : List Event). front ++ es) e ∙ sym (append_assoc front first later)));
    }

-- *Routes stay* in it
module _ (policy : Policy) (topology : Topology) (past events : List Event) (b : IsBoundStretch policy topology past events) where
  pub binds_first : BindsAlone topology (world_at policy topology past)
  binds_first = subst (λ (es : List Event). BindsAlone topology (world_at policy topology es)) (append-nil past) (b.bound [] events refl)

  keeps_routes : KeepsRoutes policy topology past events
  keeps_routes = record {
    none_comes = sent_none events b.calm.sends;
    none_waits = waits_none (world_at policy topology past) (λ (node : NodeId) (site : Site) (found : site_at (world_at policy topology past) node ≡ Some site). (binds_first.binds.steady node site found).none_waits);
  }

  pub table_stays : (front rest : List Event) → events ≡ front ++ rest → (node : NodeId) → table_in node (world_at policy topology (past ++ front)) ≡ table_in node (world_at policy topology past)
  table_stays front rest e node = tables_stay policy topology past events keeps_routes front rest e node

-- *What is sent in a calm beat*
module _ (given : Given) (policy : Policy) (topology : Topology) (before : List Event) (beat : Beat) (ease : IsAtEase topology (world_at policy topology before))
    (c : IsCalmBeat policy topology before beat) where
  abbrev w : World
  w = world_at policy topology before

  abbrev ticks_so : List Event
  ticks_so = tick_of_all w

  abbrev carries_so : List Event
  carries_so = map Carry beat.carries

  abbrev pub past_then : List Event
  past_then = before ++ settling w beat

  pub settled_is : world_at policy topology past_then ≡ settled topology w beat
  settled_is = after_all topology (opened policy topology) before (settling w beat)

  all_is : past_then ++ beat.sending ≡ before ++ events_in w beat
  all_is = append_assoc before (settling w beat) beat.sending

  run : IsRun policy topology (past_then ++ beat.sending)
  run = subst (IsRun policy topology) (sym all_is) c.run

  tame : IsTame (past_of policy topology (past_then ++ beat.sending)).records
  tame = subst (λ (es : List Event). IsTame (past_of policy topology es).records) (sym all_is) c.tame

  stretch : IsStretch policy topology past_then beat.sending
  stretch = record {
    run = run;
    addresses = c.addresses;
    tame = tame;
    empties = ap is_empty (ap (world_at policy topology) all_is ∙ after_all topology (opened policy topology) before (events_in w beat)) ∙ c.is_beat.empties;
  }

  sending_calm : AreCalmEvents topology (settled topology w beat) beat.sending
  sending_calm front rest event e = subst (λ (x : World). IsCalmEvent topology x event) (after_all topology w (settling w beat) front)
      (c.calm (settling w beat ++ front) rest event (ap (λ (es : List Event). settling w beat ++ es) e ∙ sym (append_assoc (settling w beat) front (event ∷ rest))))

  calm_sent : IsCalmStretch policy topology past_then beat.sending
  calm_sent = record {
    run = run;
    addresses = c.addresses;
    tame = tame;
    sends = c.is_beat.sends;
    calm = subst (λ (x : World). AreCalmEvents topology x beat.sending) (sym settled_is) sending_calm;
  }

  -- it binds behind each front
  front_is : (front : List Event) → world_at policy topology (past_then ++ front) ≡ world_after topology (world_at policy topology past_then) front
  front_is front = after_all topology (opened policy topology) past_then front

  carried_is : (front : List Event) → world_after topology (world_after topology w ticks_so) (carries_so ++ front) ≡ world_at policy topology (past_then ++ front)
  carried_is front = after_all topology (world_after topology w ticks_so) carries_so front
      ∙ (ap (λ (x : World). world_after topology x front) (sym (after_all topology w ticks_so carries_so) ∙ sym settled_is) ∙ sym (front_is front))

  binds : (front rest : List Event) → beat.sending ≡ front ++ rest → Binds topology (world_at policy topology (past_then ++ front))
  binds front rest e = subst (Binds topology) (carried_is front)
      (given.binds_on policy topology before beat c (given.ticks policy topology before beat ease c) (carries_so ++ front) rest
      (ap (λ (es : List Event). carries_so ++ es) e ∙ sym (append_assoc carries_so front rest)))

  binds_then : Binds topology (world_at policy topology past_then)
  binds_then = subst (λ (es : List Event). Binds topology (world_at policy topology es)) (append-nil past_then) (binds [] beat.sending refl)

  -- nothing stands as it begins, so only branches are asked
  none_stands : AddBranchesAlone (world_at policy topology past_then)
  none_stands node site found =
      let so_far : IsRun policy topology past_then = front_run policy topology past_then beat.sending run in
      let inside : IsNode topology node = (runs_have_nodes policy topology past_then c.addresses so_far node site found).is_node.number in
      let then : IsAtEase topology (settled topology w beat) = given.settled_ease policy topology before beat ease c in
      let there : site_at (settled topology w beat) node ≡ Some site = ap (λ (x : World). site_at x node) (sym settled_is) ∙ found in
      let none : site.controller.desk.standing ≡ [] = subst (λ (o : Option Site). option_map_or (λ (x : Controller). x.desk.standing) (option_map (λ (s : Site). s.controller) o) [] ≡ []) there
      (then.peace.lasting.nothing_stands node inside) in
      subst (Every (λ (s : Standing). AddsBranch s.request)) (sym none) tt

  alone : (front rest : List Event) → beat.sending ≡ front ++ rest → AddBranchesAlone (world_at policy topology (past_then ++ front))
  alone front rest e = subst AddBranchesAlone (sym (front_is front))
      (given.add_branches policy topology past_then beat.sending calm_sent binds_then none_stands front rest e)

  pub bound_sending : IsBoundStretch policy topology past_then beat.sending
  bound_sending = record {
    stretch = stretch;
    calm = calm_sent;
    bound = λ (front rest : List Event) (e : beat.sending ≡ front ++ rest). record { binds = binds front rest e; alone = alone front rest e };
  }
