-- quiet calm beats that begin a run are in peace at each node, and behind four of them it stays met

use Rattle.std.proofs.Common.{◌≡◌, ℕ, suc, ◌+◌, ◌≤◌, Bool, true, false, List, [], ◌∷◌, ◌++◌, append_assoc, append-nil, length, length-append, fold, Option, Some, refl, sym, ◌∙◌, ap, subst, arith}
use Rattle.std.specs.Prelude.{nat_le, nat_lt}
use Rattle.std.specs.Option.{option_map, option_map_or}
use Rattle.std.proofs.lemmas.Bool.Decides.{nat_tests}
use Rattle.world_model.specs.Words.{NodeId, Down, Up, Out, Party, Side, Entry, control_port, queue_of, gsmp_channel, Policy, Controller, Topology, World, Site, site_at, controller_acts, switch_acts, put_away, next, world_after, tick_comes, OfController, OfSwitch, has_slot, CanCome, IsNode, IsRun}
use Rattle.world_model.specs.Controller.{Acted, free_slots}
use Rattle.world_model.specs.Switch as switches
use Rattle.world_model.specs.Ticks.{ticks}
use Rattle.world_model.specs.World.{opened}
use Rattle.world_model.specs.network_model.declared.event.Event.{Event}
use Rattle.world_model.specs.network_model.declared.event.Event.TheVariants.{Inject, Carry, Lose, Tick, TickSwitch, Restart, RestartSwitch, Forge, Route}
use Rattle.live_model.specs.Beats.{Beat, events_in, behind}
use Rattle.live_model.specs.Peace.{LosesNone, IsUnspentAt, IsPeaceful}
use Rattle.live_model.specs.Waking.{IsBeatInPeace, AreBeatsInPeace}
use Rattle.calm_model.specs.Calm.{HasRoom, HaveRoom, IsCalm}
use Rattle.law_link_parties.proofs.law_link_met.law_port_facts.Keyed.{at_every}
use Rattle.law_link_parties.specs.law_run_facts.ordered_lists.Ordered.{Every}
use Rattle.law_link_parties.specs.law_run_facts.Nodes.{HasSite}
use Rattle.law_link_parties.proofs.law_run_facts.Rooms.{runs_keep_nodes}
use Rattle.law_link_parties.proofs.law_run_facts.Steps.{run_of_none}
use Rattle.law_link_parties.specs.law_live_rested.law_true_runs.Runs.{HoldsInRuns, IsWhole}
use Rattle.law_link_parties.specs.law_live_hearing.Law.{world_at}
use Rattle.law_link_parties.proofs.law_live_hearing.Sites.{queue_of_site}
use Rattle.law_link_parties.proofs.law_link_met.law_live_tables.law_live_control_links.Sites.{acting, switching}
use Rattle.law_link_parties.specs.law_live_rested.law_live_woken.Law.{IsRunOfBeats}
use Rattle.law_link_parties.specs.law_live_rested.Law.{HasSuchSides, IsStill}
use Rattle.law_link_parties.proofs.law_link_met.law_link_woken.law_live_woken_links.law_live_rested.Worlds.{runs_have_such_sides}
use Rattle.law_link_parties.specs.law_link_met.law_link_woken.law_link_nodes.Law.{HeardLately, HasWokenUp, WokenNodesStayMet}
use Rattle.law_live_begun.specs.First.{IsFirstWorld}
use Rattle.law_live_begun.specs.Codec.{GreetingsAreRead}
use Rattle.law_live_begun.specs.Worlds.{IsQuietEvent, IsQuietRun, NetworksGoOn}
use Rattle.law_live_begun.specs.Beats.{BeginsSo, world_behind, NodesBeginInPeace, StaysUp, NodesStayUp}
use Rattle.law_live_begun.proofs.Quiet.{folds_join, quiet_events, begins_front, begins_shaped, events_to, behind_front, beat_calm, beat_quiet, beat_shaped, split_to, run_to, calm_to}
use Rattle.law_live_begun.proofs.PeaceSides.{IsYoung, Age, begun_young, Ages, ages}
use Rattle.law_live_begun.proofs.PeaceSlots.{tick_has_slot, switch_tick_has_slot}
use Rattle.law_live_begun.proofs.PeaceFails.{fails_none}
use Rattle.law_live_begun.proofs.PeaceWorlds.{opened_so, BothAt, AllAt, all_of_found, Listens, Walks, listens_at, beat_walks}

same_node : (here node : NodeId) → here.0 ≡ node.0 → node ≡ here
same_node here node same = λ i. record { 0 = sym same i }

one_site : (x y : Site) → Some x ≡ Some y → x ≡ y
one_site x y e = cc e

-- *A calm event loses none* of the greetings of a node that listens
module _ (topology : Topology) (w : World) (node : NodeId) (has : HasSite w node) (sides : HasSuchSides has.site) where
  tick_slot : IsCalm topology w (Tick node) → Listens topology node w (Tick node) → has_slot w (OfController node gsmp_channel) ≡ true
  tick_slot calm listens =
      let a : Acted = acting (put_away w) has.site in
      let same : (ticks a).notes.entries ≡ w.notes.entries = sym (ap (λ (o : Option Site). (controller_acts (put_away w) o ticks).notes.entries) has.is) ∙ calm.entries in
      let few : length (ticks a).notes.entries ≤ length w.notes.entries = omega (arith, ap (λ (entries : List Entry). length entries) same) in
      ap (λ (o : Option Site). option_map_or (λ (c : Controller). nat_lt 0 (free_slots c)) (option_map (λ (x : Site). x.controller) o) false) has.is
      ∙ tick_has_slot a sides.controller (listens refl has.site has.is) few

  switch_tick_slot : IsCalm topology w (TickSwitch node) → Listens topology node w (TickSwitch node) → has_slot w (OfSwitch node) ≡ true
  switch_tick_slot calm listens =
      let a : switches.ActedSwitch = switching (put_away w) has.site in
      let same : (tick_comes a).notes.entries ≡ w.notes.entries = sym (ap (λ (o : Option Site). (switch_acts (put_away w) o tick_comes).notes.entries) has.is) ∙ calm.entries in
      let few : length (tick_comes a).notes.entries ≤ length w.notes.entries = omega (arith, ap (λ (entries : List Entry). length entries) same) in
      ap (λ (o : Option Site). option_map_or (λ (x : Site). nat_lt 0 (switches.free_slots x.switch)) o false) has.is
      ∙ switch_tick_has_slot a sides.switch (listens refl has.site has.is) few

  loses_none : (event : Event) → IsQuietEvent event → CanCome topology w event → IsCalm topology w event → Listens topology node w event → LosesNone topology w node event
  loses_none (Tick here) quiet can calm listens = λ same. tick_slot (subst (λ (n : NodeId). IsCalm topology w (Tick n)) (sym (same_node here node same)) calm)
      (subst (λ (n : NodeId). Listens topology node w (Tick n)) (sym (same_node here node same)) listens)
  loses_none (TickSwitch here) quiet can calm listens = λ same. switch_tick_slot (subst (λ (n : NodeId). IsCalm topology w (TickSwitch n)) (sym (same_node here node same)) calm)
      (subst (λ (n : NodeId). Listens topology node w (TickSwitch n)) (sym (same_node here node same)) listens)
  loses_none (Carry (Down here)) quiet can calm listens = λ same cell cells queue last. calm.unlost cell cells queue
  loses_none (Carry (Up here)) quiet can calm listens = λ same cell cells queue last. calm.unlost cell cells queue
  loses_none (Carry (Out here port)) quiet can calm listens = can.meant
  loses_none (Inject here octets) quiet can calm listens = tt
  loses_none (Lose place) quiet can calm listens = quiet
  loses_none (Restart here) quiet can calm listens = quiet
  loses_none (RestartSwitch here) quiet can calm listens = quiet
  loses_none (Forge place channel payload) quiet can calm listens = quiet
  loses_none (Route here change) quiet can calm listens = quiet

unspent : (w : World) (node : NodeId) → HaveRoom w → IsUnspentAt w node
unspent w node room site found spent =
    let has : HasRoom site.controller = room node site.controller (ap (λ (o : Option Site). option_map (λ (x : Site). x.controller) o) found) in
    absurd (omega (arith, has.numbers, spent))

-- *Beats* and one more
module _ (topology : Topology) (node : NodeId) where
  peace_more : (beats : List Beat) (beat : Beat) (w : World) → AreBeatsInPeace topology w node beats → IsBeatInPeace topology (fold (behind topology) w beats) node beat
      → AreBeatsInPeace topology w node (beats ++ beat ∷ [])
  peace_more [] beat w peace last = (last, tt)
  peace_more (first ∷ beats) beat w peace last = (peace.0, peace_more beats beat (behind topology w first) peace.1 last)

few_or_many : (n : ℕ) {P : Type 0} → (n ≤ 3 → P) → (4 ≤ n → P) → P
few_or_many n {P} few many = by (nat_le n 3) refl
  where
    is_few : nat_le n 3 ≡ true → n ≤ 3
    is_few e = grind (arith, nat_tests, e)

    is_many : nat_le n 3 ≡ false → 4 ≤ n
    is_many e = grind (arith, nat_tests, e)

    by : (b : Bool) → nat_le n 3 ≡ b → P
    by true e = few (is_few e)
    by false e = many (is_many e)

module _ (whole : HoldsInRuns IsWhole) (woken : WokenNodesStayMet) (read : GreetingsAreRead) (on : NetworksGoOn) (policy : Policy) (topology : Topology) (node : NodeId) (within : IsNode topology node) where
  abbrev start : World
  start = opened policy topology

  -- *At the opening* nothing waits between the two, and both are young
  still : IsRun policy topology [] → IsStill policy topology [] node
  still run =
      let has : HasSite (world_at policy topology []) node = runs_keep_nodes policy topology [] run node within in
      let empty : (has.site.controller.queue ≡ []) × (queue_of has.site.switch.crossbar control_port ≡ []) =
      at_every (λ (site : Site). site.controller.node.0) Empty node.0 start.sites has.site (opened_so policy topology Empty (λ number one numbers. (refl, refl))) has.is in
      record {
        within = within;
        down = queue_of_site start node has.site (Down node) has.is ∙ empty.0;
        up = queue_of_site start node has.site (Up node) has.is ∙ empty.1;
      }
    where
      Empty : Site → Type 0
      Empty site = (site.controller.queue ≡ []) × (queue_of site.switch.crossbar control_port ≡ [])

  young : AllAt topology node IsYoung IsYoung start
  young = opened_so policy topology _ (λ number one numbers own. (begun_young _, begun_young _))

  -- *A beat* of sides of an age
  module _ (Is : Side Party → Type 0) (n : ℕ) (aged : Ages Is n) (beats : List Beat) (beat : Beat) (more : List Beat) (begins : BeginsSo policy topology (beats ++ beat ∷ more))
      (h : AllAt topology node Is Is (world_behind policy topology beats)) where
    abbrev there : World
    there = world_behind policy topology beats

    walks : Walks topology node (λ (side : Side Party). side.silence ≤ n) (λ (side : Side Party). side.silence ≤ n) there (events_in there beat)
    walks = beat_walks topology node Is n aged there beat (beat_quiet policy topology beats beat more begins) (beat_shaped policy topology beats beat more begins) h

    every_at : (P : Event → Type 0) (front rest : List Event) (event : Event) → Every P (front ++ event ∷ rest) → P event
    every_at P [] rest event each = each.0
    every_at P (x ∷ front) rest event each = every_at P front rest event each.1

    peaceful : (front rest : List Event) (event : Event) → events_in there beat ≡ front ++ event ∷ rest → IsPeaceful topology (world_after topology there front) node event
    peaceful front rest event e =
        let past : List Event = events_to policy topology beats ++ front in
        let w : World = world_at policy topology past in
        let now : w ≡ world_after topology there front = behind_front policy topology beats front in
        let quiet : IsQuietRun policy topology past = run_to policy topology beats beat more begins front (event ∷ rest) e in
        let has : HasSite w node = runs_keep_nodes policy topology past quiet.run node within in
        let calm : IsCalm topology w event = subst (λ (u : World). IsCalm topology u event) (sym now) (calm_to policy topology beats beat more begins front rest event e) in
        let listens : Listens topology node w event = subst (λ (u : World). Listens topology node u event) (sym now)
        (listens_at topology node _ _ there (events_in there beat) front rest event e walks) in
        let first : IsFirstWorld topology w = on policy topology past quiet in
        let can : CanCome topology w event = begins.run.run.each past _ event (split_to policy topology beats beat more begins front (event ∷ rest) e) in
        let is_quiet : IsQuietEvent event = every_at IsQuietEvent front rest event (subst (Every IsQuietEvent) e (quiet_events there beat (beat_quiet policy topology beats beat more begins))) in
        subst (λ (u : World). IsPeaceful topology u node event) now (record {
          unlost = loses_none topology w node has (runs_have_such_sides policy topology past node has.site has.is) event is_quiet can calm listens;
          succeeds = fails_none read policy topology past quiet (whole policy topology past quiet.run quiet.addresses quiet.tame) first node within event;
          unspent = unspent (next topology w event) node calm.room;
        })

    in_peace : IsBeatInPeace topology there node beat
    in_peace = record { is_beat = (beat_calm policy topology beats beat more begins).is_beat; peace = peaceful }

  -- *Behind four beats in peace* both have heard each other lately
  of_beats : (beats : List Beat) → BeginsSo policy topology beats → IsRunOfBeats policy topology [] beats
  of_beats beats begins = record { run = begins.run.run; addresses = begins.run.addresses; tame = begins.run.tame }

  heard : (beats : List Beat) → BeginsSo policy topology beats → AreBeatsInPeace topology start node beats → 4 ≤ length beats → AllAt topology node (Age 3) (Age 3) (world_behind policy topology beats)
  heard beats begins peace enough =
      let none : beats ++ [] ≡ beats = append-nil beats in
      let up : HasWokenUp topology start node beats [] = woken policy topology [] node beats [] (of_beats (beats ++ []) (subst (BeginsSo policy topology) (sym none) begins))
      (still (run_of_none policy topology begins.run.run.topology_is)) (subst (AreBeatsInPeace topology start node) (sym none) peace) enough in
      all_of_found topology node (BothAt topology node (Age 3) (Age 3)) 1 (world_behind policy topology beats).sites (begins_shaped policy topology beats begins) (λ site found. lately beats up.one up.other up.woken site found)
    where
      lately : (beats : List Beat) (one other : Party) (h : HeardLately (world_behind policy topology beats) node one other) (site : Site) → site_at (world_behind policy topology beats) node ≡ Some site
          → BothAt topology node (Age 3) (Age 3) site
      lately beats one other h site found = subst (BothAt topology node (Age 3) (Age 3)) (one_site h.is_met.site site (sym h.is_met.found ∙ found)) (omega (arith, h.silence), omega (arith, h.switch_silence))

  -- *Beat by beat*
  one_more : (beats : List Beat) (beat : Beat) → world_behind policy topology (beats ++ beat ∷ []) ≡ behind topology (world_behind policy topology beats) beat
  one_more beats beat = folds_join topology beats (beat ∷ []) start

  abbrev IsOfAge : List Beat → Type 0
  IsOfAge beats = length beats ≤ 3 → AllAt topology node (Age (length beats)) (Age (length beats)) (world_behind policy topology beats)

  record GoesOn (beats : List Beat) (beat : Beat) : Type 0 where
    peace : IsBeatInPeace topology (world_behind policy topology beats) node beat
    age : IsOfAge (beats ++ beat ∷ [])

  goes_on : (beats : List Beat) (beat : Beat) (more : List Beat) → BeginsSo policy topology (beats ++ beat ∷ more) → AreBeatsInPeace topology start node beats → IsOfAge beats → GoesOn beats beat
  goes_on beats beat more begins peace age = few_or_many (length beats) {P = GoesOn beats beat}
      (λ few. (let n : ℕ = length beats in
      let walks_so = walks (Age n) n (ages n few) beats beat more begins (age few) in
      record {
        peace = in_peace (Age n) n (ages n few) beats beat more begins (age few);
        age = λ short. subst (AllAt topology node (Age (length (beats ++ beat ∷ []))) (Age (length (beats ++ beat ∷ [])))) (sym (one_more beats beat))
            (subst (λ (k : ℕ). AllAt topology node (Age k) (Age k) (behind topology (world_behind policy topology beats) beat)) (sym longer) walks_so.behind_them);
      }))
      (λ many. record {
        peace = in_peace (Age 3) 3 (ages 3 (omega arith)) beats beat more begins (heard beats (begins_front policy topology beats (beat ∷ more) begins) peace many);
        age = λ short. absurd (omega (arith, short, longer, many));
      })
    where
      longer : length (beats ++ beat ∷ []) ≡ suc (length beats)
      longer = length-append beats (beat ∷ []) ∙ more_by_one (length beats)
        where
          more_by_one : (k : ℕ) → k + 1 ≡ suc k
          more_by_one k = omega arith

  all_go_on : (beats more : List Beat) → BeginsSo policy topology (beats ++ more) → AreBeatsInPeace topology start node beats → IsOfAge beats
      → AreBeatsInPeace topology (world_behind policy topology beats) node more
  all_go_on beats [] begins peace age = tt
  all_go_on beats (beat ∷ more) begins peace age =
      let goes : GoesOn beats beat = goes_on beats beat more begins peace age in
      let joined : (beats ++ beat ∷ []) ++ more ≡ beats ++ beat ∷ more = append_assoc beats (beat ∷ []) more in (
        goes.peace,
        subst (λ (u : World). AreBeatsInPeace topology u node more) (one_more beats beat)
            (all_go_on (beats ++ beat ∷ []) more (subst (BeginsSo policy topology) (sym joined) begins) (peace_more topology node beats beat start peace goes.peace) goes.age),
      )

  begins_in_peace : (beats : List Beat) → BeginsSo policy topology beats → AreBeatsInPeace topology start node beats
  begins_in_peace beats begins = all_go_on [] beats begins tt (λ few. young)

  -- *And stays up*
  stays_up : (beats : List Beat) (beat : Beat) → BeginsSo policy topology (beats ++ beat ∷ []) → 4 ≤ length beats → StaysUp topology (world_behind policy topology beats) node beat
  stays_up beats beat begins enough =
      let there : World = world_behind policy topology beats in
      let up : HasWokenUp topology start node beats (beat ∷ []) = woken policy topology [] node beats (beat ∷ []) (of_beats (beats ++ beat ∷ []) begins)
      (still (run_of_none policy topology begins.run.run.topology_is)) (begins_in_peace (beats ++ beat ∷ []) begins) enough in
      record {
        one = up.one;
        other = up.other;
        stays = λ front rest e. up.up.stays front rest (append-nil (events_in there beat) ∙ e);
      }

pub nodes_begin_in_peace : HoldsInRuns IsWhole → WokenNodesStayMet → GreetingsAreRead → NetworksGoOn → NodesBeginInPeace
nodes_begin_in_peace whole woken read on policy topology beats begins node within = begins_in_peace whole woken read on policy topology node within beats begins

pub nodes_stay_up : HoldsInRuns IsWhole → WokenNodesStayMet → GreetingsAreRead → NetworksGoOn → NodesStayUp
nodes_stay_up whole woken read on policy topology beats beat begins enough node within = stays_up whole woken read on policy topology node within beats beat begins enough
