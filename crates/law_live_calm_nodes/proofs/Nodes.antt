-- a node through a beat: it hears its switch, and is at peace behind it

use Rattle.std.proofs.Common.{◌≡◌, ◌⊎◌, inl, inr, ℕ, ◌≤◌, ◌<◌, Bool, true, false, List, [], ◌∷◌, ◌++◌, append_assoc, append-nil, length, map, Option, Some, Ok, refl, sym, ◌∙◌, ap, subst, arith}
use Rattle.std.specs.Option.{option_map}
use Rattle.world_model.specs.Words.{NodeId, Policy, Place, Up, Ack, Party, Mark, Cell, payload_of, next_control, frame_cells, gsmp_channel, control_port, queue_of, Switch, tick_comes, switch_acts, Topology, World, Site, site_at, queue_at, same_queue, put_away, next, switch_tick_of, world_after, is_empty, IsTopology}
use Rattle.world_model.specs.adjacency_table.Table.{silence_limit}
use Rattle.world_model.specs.gsmp_wire.Layout.{octets_of}
use Rattle.world_model.specs.gsmp_wire.Fields.{decoded}
use Rattle.world_model.specs.Switch as switches
use Rattle.world_model.specs.Conduct.{says}
use Rattle.world_model.specs.network_model.declared.event.Event.{Event}
use Rattle.world_model.specs.network_model.declared.event.Event.TheVariants.{Carry, TickSwitch}
use Rattle.live_model.specs.Beats.{Beat, settling, settled}
use Rattle.law_gsmp_reading.proofs.Read.{message_is_read}
use Rattle.law_live_peace.specs.law_run_facts.ordered_lists.Ordered.{Every}
use Rattle.law_live_peace.proofs.law_run_facts.ordered_lists.Every.{every_join, every_right}
use Rattle.law_live_peace.proofs.law_run_facts.Nodes.{runs_have_nodes}
use Rattle.law_live_peace.specs.law_true_runs.Runs.{HoldsInRuns, IsWhole}
use Rattle.law_live_carries.proofs.Names.{queues_have_one_name}
use Rattle.law_live_peace.specs.law_live_worlds.Law.{IsCalm}
use Rattle.law_live_peace.specs.law_live_hearing.Law.{world_at, Waits}
use Rattle.law_live_peace.proofs.law_live_hearing.Going.{after_all}
use Rattle.law_live_peace.proofs.law_live_hearing.Places.{up_empty}
use Rattle.law_live_peace.proofs.law_live_hearing.Sites.{queue_of_site}
use Rattle.law_live_peace.proofs.law_live_hearing.Waiting.{frames_wait}
use Rattle.law_live_control.specs.Calm.{ack, aged}
use Rattle.law_live_control.proofs.Switches.{switches_tick_calmly}
use Rattle.law_live_peace.specs.law_live_control_links.Law.{IsCalmLink, IsUnspentAt}
use Rattle.law_live_peace.proofs.law_live_control_links.Sites.{switching, switch_here, switch_frames}
use Rattle.law_live_calm_nodes.specs.Nodes.{LosesNothing, IsNodeInBeat, IsNodeAtRest, NodesHearTheirSwitches, NodesRestInPeace}
use Rattle.law_live_calm_nodes.proofs.Parts.{along}
use Rattle.law_live_calm_nodes.proofs.Events.{Facts, now_is, run_before, done, behind_is, facts}
use Rattle.law_live_calm_nodes.proofs.Ticks.{TicksAmong, switch_among, switch_waits}
use Rattle.law_live_calm_nodes.proofs.Resting.{nodes_at_rest_are_calm}
use Rattle.law_live_calm_nodes.proofs.Heard.{is_said, IsWaiting, waits_on, carried_elsewhere, carried_before, silence_at, is_heard, still_by_switch, still_silent}

-- what comes behind the tick of a switch: ticks of other switches, and carries
data IsQuiet : Event → Type 0 where
  of_switch : (here : NodeId) → IsQuiet (TickSwitch here)
  of_carry : (place : Place) → IsQuiet (Carry place)

switches_quiet : (sites : List Site) → Every IsQuiet (map switch_tick_of sites)
switches_quiet [] = tt
switches_quiet (s ∷ sites) = (of_switch s.controller.node, switches_quiet sites)

carries_quiet : (places : List Place) → Every IsQuiet (map Carry places)
carries_quiet [] = tt
carries_quiet (place ∷ places) = (of_carry place, carries_quiet places)

one_switch : (a b : Switch) → Some a ≡ Some b → a ≡ b
one_switch a b e = cc

one_number : (a b : ℕ) → Some a ≡ Some b → a ≡ b
one_number a b e = cc

none_waits : (before : List Cell) (cell : Cell) (after : List Cell) → [] ≡ before ++ cell ∷ after → ⊥
none_waits [] cell after e = cc e
none_waits (x ∷ before) cell after e = cc e

-- *What holds of an event* of the beat, in the world as it comes
record IsGood (topology : Topology) (node : NodeId) (v : World) (event : Event) : Type 0 where
  link : IsCalmLink v node
  unspent : IsUnspentAt (next topology v event) node
  unlost : LosesNothing topology v event
  facts : Facts topology v event

module _ (whole : HoldsInRuns IsWhole) (policy : Policy) (topology : Topology) (before : List Event) (node : NodeId) (beat : Beat) (b : IsNodeInBeat policy topology before node beat) where
  abbrev w : World
  w = world_at policy topology before

  abbrev all : List Event
  all = settling w beat

  is : IsTopology topology
  is = b.run.topology_is

  is_now : (front : List Event) → world_at policy topology (before ++ front) ≡ world_after topology w front
  is_now = now_is whole policy topology before all b.run b.addresses b.tame

  -- *Each event of it*
  good : (front rest : List Event) (event : Event) → all ≡ front ++ event ∷ rest → IsGood topology node (world_after topology w front) event
  good front rest event e = record {
    link = b.link front (event ∷ rest) e;
    unspent = subst (λ (v : World). IsUnspentAt v node) (behind_is whole policy topology before all b.run b.addresses b.tame front rest event e)
        (b.unspent (front ++ event ∷ []) rest (done whole policy topology before all b.run b.addresses b.tame front rest event e));
    unlost = b.unlost front rest event e;
    facts = facts whole policy topology before all b.run b.addresses b.tame front rest event e;
  }

  -- *Its switch ticks*
  begun : IsCalmLink w node
  begun = b.link [] all refl

  among : TicksAmong w node
  among = switch_among w node begun.site begun.found

  abbrev later : List Event
  later = map switch_tick_of among.later ++ map Carry beat.carries

  all_is : all ≡ among.front ++ TickSwitch node ∷ later
  all_is = ap (λ (es : List Event). es ++ map Carry beat.carries) among.are ∙ append_assoc among.front (TickSwitch node ∷ map switch_tick_of among.later) (map Carry beat.carries)

  abbrev v0 : World
  v0 = world_after topology w among.front

  abbrev v1 : World
  v1 = next topology v0 (TickSwitch node)

  ticking : IsGood topology node v0 (TickSwitch node)
  ticking = good among.front later (TickSwitch node) all_is

  abbrev site : Site
  site = ticking.link.site

  abbrev own : Party
  own = site.controller.adjacency.own

  abbrev far : Party
  far = site.switch.adjacency.own

  abbrev a : switches.ActedSwitch
  a = switching (put_away v0) site

  listens : site.switch.adjacency.silence < silence_limit
  listens = subst (λ (s : Switch). s.adjacency.silence < silence_limit)
      (one_switch begun.site.switch site.switch (sym (ap (option_map (λ (x : Site). x.switch)) begun.found)
      ∙ (sym (switch_waits topology w among.front (map switch_tick_of among.later) node b.shaped among.are) ∙ ap (option_map (λ (x : Site). x.switch)) ticking.link.found)))
      (b.listens begun.site begun.found)

  abbrev older : switches.ActedSwitch
  older = record a { switch = record a.switch { adjacency = aged a.switch.adjacency } }

  ticks_so : tick_comes a ≡ says older (ack far own)
  ticks_so = switches_tick_calmly site.controller.adjacency a ticking.link.calm.met listens

  entries_same : (says older (ack far own)).notes.entries ≡ older.notes.entries
  entries_same = ap (λ (s : switches.ActedSwitch). s.notes.entries) (sym ticks_so)
      ∙ (sym (ap (λ (o : Option Site). (switch_acts (put_away v0) o tick_comes).notes.entries) ticking.link.found) ∙ ticking.unlost)

  has_queues : 1 ≤ length older.switch.crossbar.queues
  has_queues =
      let nine : length site.switch.crossbar.queues ≡ 9 = (runs_have_nodes policy topology (before ++ among.front) b.addresses
      (run_before whole policy topology before all b.run b.addresses b.tame among.front later (TickSwitch node) all_is) node site
      (ap (λ (v : World). site_at v node) (is_now among.front) ∙ ticking.link.found)).is_node.queues in
      omega (arith, nine)

  abbrev payload : List ℕ
  payload = octets_of (ack far own)

  read : decoded payload ≡ Ok (ack far own)
  read = message_is_read (ack far own) (ticking.link.calm.switch_fits, ticking.link.calm.controller_fits) tt

  abbrev mark : Mark
  mark = next_control older.numbers

  said : (queue_of (says older (ack far own)).switch.crossbar control_port ≡ queue_of older.switch.crossbar control_port ++ frame_cells gsmp_channel mark payload)
      × (payload_of (says older (ack far own)).notes.frames mark ≡ Some payload)
  said = is_said older (ack far own) has_queues entries_same

  queue_now : queue_at v1 (Up node) ≡ queue_of site.switch.crossbar control_port ++ (frame_cells gsmp_channel mark payload ++ [])
  queue_now = queue_of_site v1 node (record site { switch = (tick_comes a).switch }) (Up node) (switch_here (put_away v0) node site ticking.link.found tick_comes)
      ∙ (ap (λ (s : switches.ActedSwitch). queue_of s.switch.crossbar control_port) ticks_so
      ∙ (said.0 ∙ ap (λ (q : List Cell). queue_of site.switch.crossbar control_port ++ q) (sym (append-nil (frame_cells gsmp_channel mark payload)))))

  waiting : IsWaiting v1 node payload
  waiting =
      let waits : Waits v1 (Up node) gsmp_channel mark = frames_wait v1 (Up node) gsmp_channel mark payload (queue_of site.switch.crossbar control_port) [] queue_now in
      record {
        before = waits.before;
        cell = waits.cell;
        after = waits.after;
        is = waits.is;
        last = waits.last;
        on = waits.on;
        made_it = ap (payload_of v1.notes.frames) waits.own
            ∙ (ap (λ frames. payload_of frames mark) (switch_frames (put_away v0) node site ticking.link.found tick_comes)
            ∙ (ap (λ (s : switches.ActedSwitch). payload_of s.notes.frames mark) ticks_so ∙ said.1));
      }

  -- *Then the ACK waits, or was heard*
  abbrev Goes : World → Type 0
  Goes v = IsWaiting v node payload ⊎ (silence_at v node ≡ Some 0)

  by_kind : (v : World) (event : Event) → IsQuiet event → IsGood topology node v event → Goes v → Goes (next topology v event)
  by_kind v event (of_switch here) g (inl wait) = inl (waits_on topology node payload v here (g.facts.steady node).1.stays wait)
  by_kind v event (of_switch here) g (inr silent) = inr (still_by_switch topology v node silent here)
  by_kind v event (of_carry place) g (inr silent) = inr (still_silent topology v node silent g.link (g.facts.steady node).0 place (g.facts.steady node).1 g.unspent)
  by_kind v event (of_carry place) g (inl wait) = by_queue (same_queue place (Up node)) refl
    where
      own_queue : IsGood topology node v (Carry (Up node)) → (before : List Cell) → wait.before ≡ before → Goes (next topology v (Carry (Up node)))
      own_queue k (cell ∷ before) first = inl (carried_before topology node payload v wait cell before first (k.facts.steady node).1.stays)
      own_queue k [] first = inr (is_heard topology v node k.link (record { kind = Ack; sender = far; receiver = own }) payload read wait.cell wait.after (wait.is ∙ ap (λ (q : List Cell). q ++ wait.cell ∷ wait.after) first)
          wait.last wait.on wait.made_it k.facts.counts k.unlost)

      by_queue : (same : Bool) → same_queue place (Up node) ≡ same → Goes (next topology v (Carry place))
      by_queue false other = inl (carried_elsewhere topology node payload v place other (g.facts.steady node).1.stays wait)
      by_queue true same = subst (λ (p : Place). IsGood topology node v (Carry p) → Goes (next topology v (Carry p))) (sym (queues_have_one_name topology place (Up node) is g.facts.can.meant b.within same))
          (λ k. own_queue k wait.before refl) g

  step : (front rest : List Event) (event : Event) → later ≡ front ++ event ∷ rest → Goes (world_after topology v1 front) → Goes (next topology (world_after topology v1 front) event)
  step front rest event e = by_kind (world_after topology v1 front) event
      (every_right IsQuiet front (event ∷ rest) (subst (Every IsQuiet) e (every_join IsQuiet (map switch_tick_of among.later) (map Carry beat.carries) (switches_quiet among.later) (carries_quiet beat.carries)))).0
      (subst (λ (v : World). IsGood topology node v event) (after_all topology w among.front (TickSwitch node ∷ front))
      (good (among.front ++ TickSwitch node ∷ front) rest event
      (all_is ∙ (ap (λ (es : List Event). among.front ++ TickSwitch node ∷ es) e ∙ sym (append_assoc among.front (TickSwitch node ∷ front) (event ∷ rest))))))

  ends : Goes (settled topology w beat)
  ends = subst Goes (sym (ap (world_after topology w) all_is ∙ after_all topology w among.front (TickSwitch node ∷ later)))
      (along topology Goes later v1 (inl waiting) step later [] (sym (append-nil later)))

  pub hears_its_switch : (there : Site) → site_at (settled topology w beat) node ≡ Some there → there.controller.adjacency.silence ≡ 0
  hears_its_switch there found = by ends
    where
      by : Goes (settled topology w beat) → there.controller.adjacency.silence ≡ 0
      by (inl wait) = absurd (none_waits wait.before wait.cell wait.after
          (sym (ap (λ (v : World). queue_at v (Up node)) (sym (is_now all)) ∙ up_empty policy topology is (before ++ all) node b.within (ap is_empty (is_now all) ∙ b.settles)) ∙ wait.is))
      by (inr silent) = one_number there.controller.adjacency.silence 0 (sym (ap (option_map (λ (s : Site). s.controller.adjacency.silence)) found) ∙ silent)

  pub rests_in_peace : IsNodeAtRest topology (settled topology w beat) node → IsCalm (settled topology w beat) node
  rests_in_peace = subst (λ (v : World). ((there : Site) → site_at v node ≡ Some there → there.controller.adjacency.silence ≡ 0) → IsNodeAtRest topology v node → IsCalm v node) (is_now all)
      (λ silent rest. nodes_at_rest_are_calm policy topology (before ++ all) node b.addresses b.run rest
      (λ there found. subst (λ (n : ℕ). n < silence_limit) (sym (silent there found)) (omega arith)))
      hears_its_switch

pub nodes_hear_their_switches : HoldsInRuns IsWhole → NodesHearTheirSwitches
nodes_hear_their_switches whole policy topology before node beat site b found = hears_its_switch whole policy topology before node beat b site found

pub nodes_rest_in_peace : HoldsInRuns IsWhole → NodesRestInPeace
nodes_rest_in_peace whole policy topology before node beat b rest = rests_in_peace whole policy topology before node beat b rest
