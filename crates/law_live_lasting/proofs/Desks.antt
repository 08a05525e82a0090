-- what stands at each desk is on its way through a lasting beat, so nothing stands in its end

use Rattle.std.proofs.Common.{◌≡◌, ℕ, ◌<◌, List, [], ◌∷◌, ◌++◌, append_assoc, append-nil, map, Some, sym, ◌∙◌, ap, subst, arith}
use Rattle.world_model.specs.Words.{NodeId, Policy, Place, standing_at, Topology, World, Site, site_at, is_empty, next, tick_of, switch_tick_of, tick_of_all, world_after, IsNode, IsRun}
use Rattle.world_model.specs.adjacency_table.Table.{silence_limit}
use Rattle.world_model.specs.network_model.declared.event.Event.{Event}
use Rattle.world_model.specs.network_model.declared.event.Event.TheVariants.{Carry, Tick, TickSwitch}
use Rattle.live_model.specs.Beats.{Beat, settling, settled}
use Rattle.law_live_calm_nodes.specs.law_run_facts.ordered_lists.Ordered.{Every}
use Rattle.law_live_calm_nodes.proofs.law_run_facts.ordered_lists.Every.{every_join, every_right}
use Rattle.law_live_calm_nodes.proofs.law_run_facts.Nodes.{runs_have_nodes}
use Rattle.law_live_calm_nodes.proofs.law_run_facts.Steps.{front_run}
use Rattle.law_live_calm_nodes.specs.law_true_runs.Runs.{HoldsInRuns, IsWhole}
use Rattle.law_live_calm_nodes.proofs.law_true_runs.Walk.{holds_at}
use Rattle.law_live_calm_nodes.specs.law_live_hearing.Law.{world_at}
use Rattle.law_live_calm_nodes.proofs.law_live_hearing.Places.{down_empty, up_empty}
use Rattle.law_live_calm_nodes.specs.law_live_control_links.Law.{SwitchListens}
use Rattle.law_live_desks.specs.Law.{AreOnTheirWay, RequestsAreRead, AnswerIsRead}
use Rattle.law_live_desks.proofs.Sites.{stands_in}
use Rattle.law_live_desks.proofs.Runs.{runs_are_read}
use Rattle.law_live_desks.proofs.Events.{carries_keep_desks, ticks_keep_desks, switch_ticks_keep_desks, resting_desks_are_empty}
use Rattle.law_live_calm_nodes.specs.Nodes.{Throughout, IsNodeInBeat}
use Rattle.law_live_calm_nodes.specs.Nodes as nodes
use Rattle.law_live_calm_nodes.specs.Networks.{AllMayGoOn, IsBeatOfPeace}
use Rattle.law_live_calm_nodes.proofs.Parts.{along}
use Rattle.law_live_calm_nodes.proofs.Events.{Facts, now_is, done, behind_is, facts}
use Rattle.law_live_calm_nodes.proofs.Control.{calm, shaped}
use Rattle.law_live_calm_nodes.proofs.Networks.{stays_up}
use Rattle.law_live_lasting.specs.Law.{IsLastingPeace, LosesNothing, IsLastingBeat}
use Rattle.law_live_lasting.proofs.Heard.{switches_hear_their_nodes}

-- *Of the events of a beat* each is a tick or a carry
data IsOfBeat : Event → Type 0 where
  ticks : (here : NodeId) → IsOfBeat (Tick here)
  switch_ticks : (here : NodeId) → IsOfBeat (TickSwitch here)
  carries : (place : Place) → IsOfBeat (Carry place)

all_tick : (sites : List Site) → Every IsOfBeat (map tick_of sites)
all_tick [] = tt
all_tick (s ∷ sites) = (ticks s.controller.node, all_tick sites)

switches_tick : (sites : List Site) → Every IsOfBeat (map switch_tick_of sites)
switches_tick [] = tt
switches_tick (s ∷ sites) = (switch_ticks s.controller.node, switches_tick sites)

all_carry : (places : List Place) → Every IsOfBeat (map Carry places)
all_carry [] = tt
all_carry (place ∷ places) = (carries place, all_carry places)

of_beat : (w : World) (beat : Beat) (front rest : List Event) (event : Event) → settling w beat ≡ front ++ event ∷ rest → IsOfBeat event
of_beat w beat front rest event e = (every_right IsOfBeat front (event ∷ rest) (subst (Every IsOfBeat) e
    (every_join IsOfBeat (tick_of_all w) (map Carry beat.carries)
    (every_join IsOfBeat (map tick_of w.sites) (map switch_tick_of w.sites) (all_tick w.sites) (switches_tick w.sites)) (all_carry beat.carries)))).0

module _ (whole : HoldsInRuns IsWhole) (policy : Policy) (topology : Topology) (before : List Event) (beat : Beat)
    (p : IsLastingPeace topology (world_at policy topology before)) (b : IsLastingBeat policy topology before beat) where
  abbrev w : World
  w = world_at policy topology before

  abbrev all : List Event
  all = settling w beat

  pub is_now : (front : List Event) → world_at policy topology (before ++ front) ≡ world_after topology w front
  is_now = now_is whole policy topology before all b.run b.addresses b.tame

  begun : IsRun policy topology before
  begun = front_run policy topology before all b.run

  inside_run : (node : NodeId) (site : Site) → site_at w node ≡ Some site → IsNode topology node
  inside_run node site found = (runs_have_nodes policy topology before b.addresses begun node site found).is_node.number

  -- *It is a beat of peace*
  may : AllMayGoOn w
  may node site found = record {
    nothing_asked = sym (ap stands_in found) ∙ p.nothing_stands node (inside_run node site found);
    may_join = (b.room node site found).may_join;
    heard = p.heard node (inside_run node site found) site found;
    ports = (b.room node site found).ports;
  }

  unlost : nodes.AtEach topology w beat (nodes.LosesNothing topology)
  unlost front rest event e = by event (of_beat w beat front rest event e) (b.unlost front rest event e)
    where
      v : World
      v = world_after topology w front

      by : (x : Event) → IsOfBeat x → LosesNothing topology v x → nodes.LosesNothing topology v x
      by x (ticks here) same = same
      by x (switch_ticks here) same = same
      by x (carries place) both = both.1

  pub of_peace : IsBeatOfPeace policy topology before beat
  of_peace = record {
    run = b.run;
    addresses = b.addresses;
    tame = b.tame;
    may = may;
    unlost = unlost;
    carries = b.carries;
    unspent = b.unspent;
    settles = b.settles;
  }

  -- *What is said is read* as it was said, behind each front
  is_read : (node : NodeId) → Throughout topology w beat (λ v. RequestsAreRead v node × AnswerIsRead v node)
  is_read node front rest e = subst (λ (v : World). RequestsAreRead v node × AnswerIsRead v node) (is_now front)
      (runs_are_read policy topology (before ++ front) b.addresses (front_run policy topology (before ++ front) rest (subst (IsRun policy topology) split b.run))
      (holds_at policy topology b.addresses IsWhole whole (before ++ all) (before ++ front) rest b.run b.tame split).world node)
    where
      split : before ++ all ≡ (before ++ front) ++ rest
      split = ap (λ (es : List Event). before ++ es) e ∙ sym (append_assoc before front rest)

  -- *Each event* keeps them on their way
  module _ (node : NodeId) (inside : IsNode topology node) where
    read_behind : (front rest : List Event) (event : Event) → all ≡ front ++ event ∷ rest → RequestsAreRead (next topology (world_after topology w front) event) node
    read_behind front rest event e = subst (λ (v : World). RequestsAreRead v node) (behind_is whole policy topology before all b.run b.addresses b.tame front rest event e)
        (is_read node (front ++ event ∷ []) rest (done whole policy topology before all b.run b.addresses b.tame front rest event e)).0

    step : (front rest : List Event) (event : Event) → all ≡ front ++ event ∷ rest → AreOnTheirWay (world_after topology w front) node
        → AreOnTheirWay (next topology (world_after topology w front) event) node
    step front rest event e ways = by event (of_beat w beat front rest event e) e (facts whole policy topology before all b.run b.addresses b.tame front rest event e)
      where
        v : World
        v = world_after topology w front

        by : (x : Event) → IsOfBeat x → all ≡ front ++ x ∷ rest → Facts topology v x → AreOnTheirWay (next topology v x) node
        by x (ticks here) f g = ticks_keep_desks topology v node here (g.steady node).1 (b.unlost front rest (Tick here) f) (read_behind front rest (Tick here) f) ways
        by x (switch_ticks here) f g = switch_ticks_keep_desks topology v node here (g.steady node).1 ways
        by x (carries place) f g = carries_keep_desks topology v node place
            ((stays_up whole policy topology before beat p.peace of_peace front (Carry place ∷ rest) f).met node inside) (g.steady node).0 (record {
              of_network = g.can.meant;
              shaped = shaped whole policy topology before beat p.peace of_peace front (Carry place ∷ rest) f;
              true_event = (g.steady node).1;
              counts = g.counts;
              loses_nothing = (b.unlost front rest (Carry place) f).0;
              unlost = (b.unlost front rest (Carry place) f).1;
              carries_out = (b.carries front rest (Carry place) f).carried_out node;
              answer_is_read = (is_read node front (Carry place ∷ rest) f).1;
              requests_are_read = read_behind front rest (Carry place) f;
            }) ways

    on_their_way : Throughout topology w beat (λ v. AreOnTheirWay v node)
    on_their_way = along topology (λ v. AreOnTheirWay v node) all w (resting_desks_are_empty.begins w node (p.nothing_stands node inside)) step

    -- *So none stands* in the end
    pub none_stands : standing_at (settled topology w beat) node ≡ []
    none_stands = subst (λ (v : World). AreOnTheirWay v node → standing_at v node ≡ []) (is_now all)
        (resting_desks_are_empty.empty (world_at policy topology (before ++ all)) node
        (down_empty policy topology b.run.topology_is (before ++ all) node inside (ap is_empty (is_now all) ∙ b.settles))
        (up_empty policy topology b.run.topology_is (before ++ all) node inside (ap is_empty (is_now all) ∙ b.settles)))
        (on_their_way all [] (sym (append-nil all)))

    -- *Its switch hears it*
    node_in_beat : IsNodeInBeat policy topology before node beat
    node_in_beat = record {
      run = b.run;
      addresses = b.addresses;
      tame = b.tame;
      shaped = p.peace.shaped;
      within = inside;
      unlost = unlost;
      link = λ front rest e. (stays_up whole policy topology before beat p.peace of_peace front rest e).met node inside;
      unspent = λ front rest e. b.unspent front rest e node;
      listens = p.heard node inside;
      settles = b.settles;
    }

    pub listens_behind : SwitchListens (settled topology w beat) node
    listens_behind site found = subst (λ (n : ℕ). n < silence_limit)
        (sym (switches_hear_their_nodes whole policy topology before node beat site node_in_beat (calm whole policy topology before beat p.peace of_peace node inside) found)) (omega arith)
