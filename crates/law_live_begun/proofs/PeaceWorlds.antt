-- in a quiet beat each side of a node ticks once, and so it was silent for one tick more at most behind it

use Rattle.std.proofs.Common.{◌≡◌, ◌≢◌, ℕ, suc, ◌<◌, ◌≤◌, Bool, true, List, [], ◌∷◌, ◌++◌, map, Option, None, Some, refl, sym, ◌∙◌, ap, subst, arith, if◌then◌else◌}
use Rattle.std.specs.Prelude.{nat_eq}
use Rattle.world_model.specs.Words.{NodeId, Place, Down, Up, Out, Party, Side, Cell, at, control_port, Policy, Topology, Node, World, Site, site_key, site_at, empty_world, opened_site, opens_each, with_opened, controller_acts, switch_acts, place_node, queue_at, with_queue, with_queue_in, with_queue_of, carries_head, arrives, arrives_at, put_away, next, world_after, tick_comes, tick_of, switch_tick_of, AreShaped, IsShaped}
use Rattle.world_model.specs.adjacency_table.Table.{silence_limit}
use Rattle.world_model.specs.Switch as switches
use Rattle.world_model.specs.Conduct as switch
use Rattle.world_model.specs.Controller.{Acted}
use Rattle.world_model.specs.Cells as controller
use Rattle.world_model.specs.Ticks.{ticks}
use Rattle.world_model.specs.network_model.declared.event.Event.{Event}
use Rattle.world_model.specs.network_model.declared.event.Event.TheVariants.{Carry, Tick, TickSwitch}
use Rattle.world_model.specs.network_model.declared.link.LinkEnd.{LinkEnd}
use Rattle.world_model.specs.Topology.{peer_of}
use Rattle.world_model.specs.World.{opened, at_controller, at_switch}
use Rattle.live_model.specs.Beats.{Beat, events_in}
use Rattle.law_live_begun.specs.Begun.{IsQuiet}
use Rattle.law_link_parties.proofs.law_link_met.law_port_facts.Keyed.{at_key, at_every, put_every, every_more, by_eq}
use Rattle.law_link_parties.specs.law_run_facts.ordered_lists.Ordered.{Every}
use Rattle.law_link_parties.proofs.law_run_facts.ordered_lists.Every.{every_map}
use Rattle.law_link_parties.proofs.law_link_met.law_live_tables.law_passing.Controllers.{ticks_adds, cell_adds}
use Rattle.law_link_parties.proofs.law_live_hearing.Going.{after_all}
use Rattle.law_live_begun.proofs.Quiet.{quiet_in}
use Rattle.law_live_begun.proofs.PeaceSides.{Ages}
use Rattle.law_live_begun.proofs.PeaceActors.{cell_late, ticks_late, switch_cell_late, switch_tick_late}

-- *Each node as it is opened*
module _ (policy : Policy) (t : Topology) (P : Site → Type 0) (each : (number : NodeId) (node : Node) (numbers : _) → P (opened_site policy t number node numbers)) where
  opens_so : (nodes : List Node) (w : World) (place : ℕ) → Every P w.sites → Every P (opens_each policy t w place nodes).sites
  opens_so [] w place h = h
  opens_so (node ∷ nodes) w place h = opens_so nodes (with_opened policy t w place node) (suc place)
      (every_more P w.sites (opened_site policy t (record { 0 = place }) node w.numbers) h (each (record { 0 = place }) node w.numbers))

  pub opened_so : Every P (opened policy t).sites
  opened_so = opens_so t.nodes empty_world 1 tt

module _ (topology : Topology) (node : NodeId) where
  -- *Both sides of the node*, wherever it stands
  abbrev pub BothAt : (Is IsToo : Side Party → Type 0) → Site → Type 0
  BothAt Is IsToo site = Is site.controller.adjacency × IsToo site.switch.adjacency

  abbrev pub HasAt : (Is IsToo : Side Party → Type 0) → Site → Type 0
  HasAt Is IsToo site = site_key site ≡ node.0 → BothAt Is IsToo site

  abbrev pub AllAt : (Is IsToo : Side Party → Type 0) → World → Type 0
  AllAt Is IsToo w = Every (HasAt Is IsToo) w.sites

  pub both_at : (Is IsToo : Side Party → Type 0) (w : World) (site : Site) → AllAt Is IsToo w → site_at w node ≡ Some site → BothAt Is IsToo site
  both_at Is IsToo w site h found = at_every site_key (HasAt Is IsToo) node.0 w.sites site h found (at_key site_key node.0 w.sites site found)

  -- as the node's number finds it
  none_later : (P : Site → Type 0) (number : ℕ) (sites : List Site) → AreShaped number sites → node.0 < number → Every (λ (site : Site). site_key site ≡ node.0 → P site) sites
  none_later P number [] shaped low = tt
  none_later P number (site ∷ sites) shaped low = (λ own. absurd (omega (arith, own, low, shaped.0.node)), none_later P (suc number) sites shaped.1 (omega (arith, low)))

  pub all_of_found : (P : Site → Type 0) (number : ℕ) (sites : List Site) → AreShaped number sites → ((site : Site) → at site_key node.0 sites ≡ Some site → P site)
      → Every (λ (site : Site). site_key site ≡ node.0 → P site) sites
  all_of_found P number [] shaped found = tt
  all_of_found P number (site ∷ sites) shaped found = by_eq (site_key site) node.0 here
      (λ other t. there other (all_of_found P (suc number) sites shaped.1 (λ x is. found x (ap (λ (b : Bool). if b then Some site else at site_key node.0 sites) t ∙ is))))
    where
      All : List Site → Type 0
      All xs = Every (λ (x : Site). site_key x ≡ node.0 → P x) xs

      here : site_key site ≡ node.0 → nat_eq (site_key site) node.0 ≡ true → All (site ∷ sites)
      here same t = (λ own. found site (ap (λ (b : Bool). if b then Some site else at site_key node.0 sites) t), none_later P (suc number) sites shaped.1 (omega (arith, same, shaped.0.node)))

      there : site_key site ≢ node.0 → All sites → All (site ∷ sites)
      there other later = (λ own. absurd (other own), later)

  -- *An actor acts*
  controller_to : (Is Then IsToo : Side Party → Type 0) (w : World) (here : NodeId) (act : Acted → Acted) → ((a : Acted) → (act a).controller.node ≡ a.controller.node)
      → ((side : Side Party) → Is side → Then side) → ((a : Acted) → here.0 ≡ node.0 → Is a.controller.adjacency → Then (act a).controller.adjacency)
      → AllAt Is IsToo w → AllAt Then IsToo (at_controller w here act)
  controller_to Is Then IsToo w here act same more acts h = by (site_at w here) refl
    where
      weaker : AllAt Then IsToo w
      weaker = every_map (HasAt Is IsToo) (HasAt Then IsToo) w.sites (λ site k own. (more site.controller.adjacency (k own).0, (k own).1)) h

      by : (o : Option Site) → site_at w here ≡ o → AllAt Then IsToo (controller_acts w o act)
      by None e = weaker
      by (Some site) e = put_every site_key (HasAt Then IsToo) (record site { controller = (act a).controller }) w.sites now weaker
        where
          a : Acted
          a = record { controller = site.controller; notes = w.notes; numbers = w.numbers }

          now : HasAt Then IsToo (record site { controller = (act a).controller })
          now own =
              let was : site_key site ≡ node.0 = sym (ap (λ (n : NodeId). n.0) (same a)) ∙ own in
              let k : BothAt Is IsToo site = at_every site_key (HasAt Is IsToo) here.0 w.sites site h e was in
              (acts a (sym (at_key site_key here.0 w.sites site e) ∙ was) k.0, k.1)

  switch_to : (Is IsToo Then : Side Party → Type 0) (w : World) (here : NodeId) (act : switches.ActedSwitch → switches.ActedSwitch)
      → ((side : Side Party) → IsToo side → Then side) → ((a : switches.ActedSwitch) → here.0 ≡ node.0 → IsToo a.switch.adjacency → Then (act a).switch.adjacency)
      → AllAt Is IsToo w → AllAt Is Then (at_switch w here act)
  switch_to Is IsToo Then w here act more acts h = by (site_at w here) refl
    where
      weaker : AllAt Is Then w
      weaker = every_map (HasAt Is IsToo) (HasAt Is Then) w.sites (λ site k own. ((k own).0, more site.switch.adjacency (k own).1)) h

      by : (o : Option Site) → site_at w here ≡ o → AllAt Is Then (switch_acts w o act)
      by None e = weaker
      by (Some site) e = put_every site_key (HasAt Is Then) (record site { switch = (act a).switch }) w.sites now weaker
        where
          a : switches.ActedSwitch
          a = record { switch = site.switch; notes = w.notes; numbers = w.numbers }

          now : HasAt Is Then (record site { switch = (act a).switch })
          now own =
              let k : BothAt Is IsToo site = at_every site_key (HasAt Is IsToo) here.0 w.sites site h e own in
              (k.0, acts a (sym (at_key site_key here.0 w.sites site e) ∙ own) k.1)

  -- *A queue* is left
  queue_to : (Is IsToo : Side Party → Type 0) (w : World) (place : Place) (cells : List Cell) → AllAt Is IsToo w → AllAt Is IsToo (with_queue w place cells)
  queue_to Is IsToo w place cells h = by (site_at w (place_node place)) refl
    where
      kept : (p : Place) (site : Site) → HasAt Is IsToo site → HasAt Is IsToo (with_queue_in site p cells)
      kept (Down here) site k = k
      kept (Up here) site k = k
      kept (Out here port) site k = k

      by : (o : Option Site) → site_at w (place_node place) ≡ o → AllAt Is IsToo (with_queue_of w place cells o)
      by None e = h
      by (Some site) e = put_every site_key (HasAt Is IsToo) (with_queue_in site place cells) w.sites
          (kept place site (at_every site_key (HasAt Is IsToo) (place_node place).0 w.sites site h e)) h

  -- *Ticks of others* leave both as they are
  tick_away : (Is IsToo : Side Party → Type 0) (w : World) (here : NodeId) → here.0 ≢ node.0 → AllAt Is IsToo w → AllAt Is IsToo (next topology w (Tick here))
  tick_away Is IsToo w here apart h = controller_to Is Is IsToo (put_away w) here ticks (λ a. (ticks_adds a).node) (λ side k. k) (λ a same k. absurd (apart same)) h

  switch_tick_away : (Is IsToo : Side Party → Type 0) (w : World) (here : NodeId) → here.0 ≢ node.0 → AllAt Is IsToo w → AllAt Is IsToo (next topology w (TickSwitch here))
  switch_tick_away Is IsToo w here apart h = switch_to Is IsToo IsToo (put_away w) here tick_comes (λ side k. k) (λ a same k. absurd (apart same)) h

  -- *It listens* as it ticks
  abbrev pub Listens : World → Event → Type 0
  Listens w (Tick here) = here.0 ≡ node.0 → (site : Site) → site_at w node ≡ Some site → site.controller.adjacency.silence < silence_limit
  Listens w (TickSwitch here) = here.0 ≡ node.0 → (site : Site) → site_at w node ≡ Some site → site.switch.adjacency.silence < silence_limit
  Listens w event = Unit {0}

  abbrev Each : World → List Event → Type 0
  Each w [] = Unit {0}
  Each w (event ∷ events) = Listens w event × Each (next topology w event) events

  each_join : (xs ys : List Event) (w : World) → Each w xs → Each (world_after topology w xs) ys → Each w (xs ++ ys)
  each_join [] ys w each later = later
  each_join (x ∷ xs) ys w each later = (each.0, each_join xs ys (next topology w x) each.1 later)

  each_at : (front rest : List Event) (event : Event) (w : World) → Each w (front ++ event ∷ rest) → Listens (world_after topology w front) event
  each_at [] rest event w each = each.0
  each_at (x ∷ front) rest event w each = each_at front rest event (next topology w x) each.1

  pub record Walks (Is IsToo : Side Party → Type 0) (w : World) (events : List Event) : Type 0 where
    pub each : Each w events
    pub behind_them : AllAt Is IsToo (world_after topology w events)

  pub listens_at : (Is IsToo : Side Party → Type 0) (w : World) (events front rest : List Event) (event : Event) → events ≡ front ++ event ∷ rest → Walks Is IsToo w events
      → Listens (world_after topology w front) event
  listens_at Is IsToo w events front rest event e walks = each_at front rest event w (subst (Each w) e walks.each)

  walks_join : (Is IsToo Then ThenToo : Side Party → Type 0) (w : World) (xs ys : List Event) → Walks Is IsToo w xs → Walks Then ThenToo (world_after topology w xs) ys → Walks Then ThenToo w (xs ++ ys)
  walks_join Is IsToo Then ThenToo w xs ys first later = record {
    each = each_join xs ys w first.each later.each;
    behind_them = subst (AllAt Then ThenToo) (sym (after_all topology w xs ys)) later.behind_them;
  }

  walks_on : (Is IsToo : Side Party → Type 0) (w : World) (event : Event) (events : List Event) → Listens w event → Walks Is IsToo (next topology w event) events → Walks Is IsToo w (event ∷ events)
  walks_on Is IsToo w event events listens later = record { each = (listens, later.each); behind_them = later.behind_them }

  -- *The ticks of other nodes*
  others_tick : (Is IsToo : Side Party → Type 0) (number : ℕ) (sites : List Site) (w : World) → AreShaped number sites → node.0 < number → AllAt Is IsToo w → Walks Is IsToo w (map tick_of sites)
  others_tick Is IsToo number [] w shaped low h = record { each = tt; behind_them = h }
  others_tick Is IsToo number (site ∷ sites) w shaped low h =
      let apart : site.controller.node.0 ≢ node.0 = λ e. absurd (omega (arith, e, shaped.0.node, low)) in
      walks_on Is IsToo w (tick_of site) (map tick_of sites) (λ same. absurd (apart same))
      (others_tick Is IsToo (suc number) sites (next topology w (tick_of site)) shaped.1 (omega (arith, low)) (tick_away Is IsToo w site.controller.node apart h))

  other_switches_tick : (Is IsToo : Side Party → Type 0) (number : ℕ) (sites : List Site) (w : World) → AreShaped number sites → node.0 < number → AllAt Is IsToo w → Walks Is IsToo w (map switch_tick_of sites)
  other_switches_tick Is IsToo number [] w shaped low h = record { each = tt; behind_them = h }
  other_switches_tick Is IsToo number (site ∷ sites) w shaped low h =
      let apart : site.controller.node.0 ≢ node.0 = λ e. absurd (omega (arith, e, shaped.0.node, low)) in
      walks_on Is IsToo w (switch_tick_of site) (map switch_tick_of sites) (λ same. absurd (apart same))
      (other_switches_tick Is IsToo (suc number) sites (next topology w (switch_tick_of site)) shaped.1 (omega (arith, low)) (switch_tick_away Is IsToo w site.controller.node apart h))

  -- *Of an age* both listen at their ticks, and are older behind them
  module _ (Is : Side Party → Type 0) (n : ℕ) (ages : Ages Is n) where
    abbrev pub IsLate : Side Party → Type 0
    IsLate side = side.silence ≤ n

    tick_here : (IsToo : Side Party → Type 0) (w : World) (here : NodeId) → AllAt Is IsToo w → AllAt IsLate IsToo (next topology w (Tick here))
    tick_here IsToo w here h = controller_to Is IsLate IsToo (put_away w) here ticks (λ a. (ticks_adds a).node) ages.more
        (λ a same k. ticks_late n a (ages.turn a.controller.adjacency k) (ages.more a.controller.adjacency k)) h

    switch_tick_here : (w : World) (here : NodeId) → AllAt IsLate Is w → AllAt IsLate IsLate (next topology w (TickSwitch here))
    switch_tick_here w here h = switch_to IsLate Is IsLate (put_away w) here tick_comes ages.more (λ a same k. switch_tick_late n a (ages.turn a.switch.adjacency k)) h

    all_tick : (number : ℕ) (sites : List Site) (w : World) → AreShaped number sites → AllAt Is Is w → Walks IsLate Is w (map tick_of sites)
    all_tick number [] w shaped h = record {
      each = tt;
      behind_them = every_map (HasAt Is Is) (HasAt IsLate Is) w.sites (λ site k own. (ages.more site.controller.adjacency (k own).0, (k own).1)) h;
    }
    all_tick number (s ∷ sites) w shaped h = by_eq (site_key s) node.0
        (λ same t. walks_on IsLate Is w (tick_of s) (map tick_of sites) (λ e site found. ages.less site.controller.adjacency (both_at Is Is w site h found).0)
        (others_tick IsLate Is (suc number) sites (next topology w (tick_of s)) shaped.1 (omega (arith, same, shaped.0.node)) (tick_here Is w s.controller.node h)))
        (λ other t. walks_on IsLate Is w (tick_of s) (map tick_of sites) (λ e. absurd (other e))
        (all_tick (suc number) sites (next topology w (tick_of s)) shaped.1 (tick_away Is Is w s.controller.node other h)))

    all_switches_tick : (number : ℕ) (sites : List Site) (w : World) → AreShaped number sites → AllAt IsLate Is w → Walks IsLate IsLate w (map switch_tick_of sites)
    all_switches_tick number [] w shaped h = record {
      each = tt;
      behind_them = every_map (HasAt IsLate Is) (HasAt IsLate IsLate) w.sites (λ site k own. ((k own).0, ages.more site.switch.adjacency (k own).1)) h;
    }
    all_switches_tick number (s ∷ sites) w shaped h = by_eq (site_key s) node.0
        (λ same t. walks_on IsLate IsLate w (switch_tick_of s) (map switch_tick_of sites) (λ e site found. ages.less site.switch.adjacency (both_at IsLate Is w site h found).1)
        (other_switches_tick IsLate IsLate (suc number) sites (next topology w (switch_tick_of s)) shaped.1 (omega (arith, same, shaped.0.node)) (switch_tick_here w s.controller.node h)))
        (λ other t. walks_on IsLate IsLate w (switch_tick_of s) (map switch_tick_of sites) (λ e. absurd (other e))
        (all_switches_tick (suc number) sites (next topology w (switch_tick_of s)) shaped.1 (switch_tick_away IsLate Is w s.controller.node other h)))

    -- *Carries* leave them so
    arrives_late : (w : World) (place : Place) (cell : Cell) → AllAt IsLate IsLate w → AllAt IsLate IsLate (arrives topology w place cell)
    arrives_late w (Down here) cell h = switch_to IsLate IsLate IsLate w here (λ a. switch.cell_comes a control_port cell) (λ side k. k) (λ a same k. switch_cell_late n a control_port cell k) h
    arrives_late w (Up here) cell h = controller_to IsLate IsLate IsLate w here (λ a. controller.cell_comes a cell) (λ a. (cell_adds a cell).node) (λ side k. k) (λ a same k. cell_late n a cell k) h
    arrives_late w (Out here port) cell h = by (peer_of topology here port)
      where
        by : (o : Option LinkEnd) → AllAt IsLate IsLate (arrives_at w cell o)
        by None = h
        by (Some far) = switch_to IsLate IsLate IsLate w far.node (λ a. switch.cell_comes a far.port cell) (λ side k. k) (λ a same k. switch_cell_late n a far.port cell k) h

    carry_late : (w : World) (place : Place) (cells : List Cell) → AllAt IsLate IsLate w → AllAt IsLate IsLate (carries_head topology w place cells)
    carry_late w place [] h = h
    carry_late w place (cell ∷ cells) h = arrives_late (with_queue w place cells) place cell (queue_to IsLate IsLate w place cells h)

    carries_late : (places : List Place) (w : World) → AllAt IsLate IsLate w → Walks IsLate IsLate w (map Carry places)
    carries_late [] w h = record { each = tt; behind_them = h }
    carries_late (place ∷ places) w h = walks_on IsLate IsLate w (Carry place) (map Carry places) tt
        (carries_late places (next topology w (Carry place)) (carry_late (put_away w) place (queue_at (put_away w) place) h))

    -- *A quiet beat*
    pub beat_walks : (w : World) (beat : Beat) → IsQuiet beat → IsShaped w → AllAt Is Is w → Walks IsLate IsLate w (events_in w beat)
    beat_walks w beat quiet shaped h =
        let first : List Event = map tick_of w.sites in
        let second : List Event = map switch_tick_of w.sites in
        let third : List Event = map Carry beat.carries in
        let ticked : Walks IsLate Is w first = all_tick 1 w.sites w shaped h in
        let u : World = world_after topology w first in
        let both : Walks IsLate IsLate u second = all_switches_tick 1 w.sites u shaped ticked.behind_them in
        let carried : Walks IsLate IsLate (world_after topology u second) third = carries_late beat.carries (world_after topology u second) both.behind_them in
        subst (Walks IsLate IsLate w) (sym (quiet_in w beat quiet))
        (walks_join IsLate Is IsLate IsLate w first (second ++ third) ticked (walks_join IsLate IsLate IsLate IsLate u second third both carried))
