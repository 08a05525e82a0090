-- a beat is an exchange, and four of them are enough

use Rattle.std.proofs.Common.{◌≡◌, ℕ, suc, ◌<◌, ◌≤◌, ◌&&◌, Bool, true, false, true≢false, List, [], ◌∷◌, ◌++◌, length, map, fold, Some, refl, sym, ◌∙◌, ap, subst, arith, if◌then◌else◌}
use Rattle.std.specs.Prelude.{◌||◌, ◌==◌}
use Rattle.std.specs.List.{list_all, list_any}
use Rattle.world_model.specs.Words.{NodeId, PortNo, Place, Down, Up, Out, Party, Side, gsmp_channel, at, Topology, World, Site, site_key, site_at, queue_at, same_queue, is_empty, AreShaped, IsPlaceOf, next, tick_of, switch_tick_of, world_after}
use Rattle.world_model.specs.Controller.{ports_of}
use Rattle.world_model.specs.network_model.declared.event.Event.{Event}
use Rattle.world_model.specs.network_model.declared.event.Event.TheVariants.{Inject, Carry, Lose, Tick, TickSwitch, Restart, RestartSwitch, Forge, Route}
use Rattle.world_model.proofs.Lists.{by_eq, at_key}
use Rattle.live_model.specs.Beats.{Beat, events_in, is_sending, behind}
use Rattle.live_model.specs.Met.{HaveMet}
use Rattle.law_live_carries.proofs.Names.{empty_queues_are_empty}
use Rattle.law_live_hearing.proofs.Going.{after_all}
use Rattle.law_live_hearing.proofs.Places.{number_same}
use Rattle.law_live_meetings.specs.Exchange.{gsmp, Ends, swapped, ticks, Turn, turns, both_tick, Exchange, IsAtRest}
use Rattle.law_live_meetings.specs.Exchange as exchanges
use Rattle.law_live_meetings.specs.Law.{ComeToRest}
use Rattle.law_live_meetings.proofs.Names.{switches_meet}
use Rattle.law_live_orders.specs.Law.{last_marks, marks_at}
use Rattle.law_live_waking.specs.Greetings.{Greet, none, ShowsEnds}
use Rattle.law_live_waking.specs.Law.{IsGoing, IsPeaceful, TakesTurns, ShowsTick, ShowsSwitchTick}
use Rattle.law_live_waking.specs.Beats.{ArePeaceful, IsPeacefulBeat, ShowsExchange, BeatsAreExchanges, ArePeacefulBeats, NodesWake}
use Rattle.law_live_waking.proofs.Greetings.{greet_none}
use Rattle.law_live_waking.proofs.Exchanges.{AreClear, behind_clear}
use Rattle.law_live_waking.proofs.Sites.{ends_of}
use Rattle.law_live_waking.proofs.Events.{ticked_here, switch_ticked_here, ticked_away, switch_ticked_away, goes, packet_sent}

module _ (topology : Topology) (node : NodeId) where
  -- *Each event* comes in peace, one after another
  abbrev Each : World → List Event → Type 0
  Each w [] = Unit {0}
  Each w (event ∷ events) = (IsGoing topology w node event × IsPeaceful topology w node event) × Each (next topology w event) events

  each_of : (events : List Event) (w : World) → ArePeaceful topology w node events → Each w events
  each_of [] w peace = tt
  each_of (event ∷ events) w peace =
      (peace [] events event refl, each_of events (next topology w event) (λ front rest later e. peace (event ∷ front) rest later (ap (λ (es : List Event). event ∷ es) e)))

  each_left : (xs ys : List Event) (w : World) → Each w (xs ++ ys) → Each w xs
  each_left [] ys w each = tt
  each_left (x ∷ xs) ys w each = (each.0, each_left xs ys (next topology w x) each.1)

  each_right : (xs ys : List Event) (w : World) → Each w (xs ++ ys) → Each (world_after topology w xs) ys
  each_right [] ys w each = each
  each_right (x ∷ xs) ys w each = each_right xs ys (next topology w x) each.1

  -- *Ticks* of other nodes, and of all nodes
  others_tick : (number : ℕ) (sites : List Site) (w : World) (ends : Ends Party) → AreShaped number sites → node.0 < number → Each w (map tick_of sites) → ShowsEnds w node ends
      → ShowsEnds (world_after topology w (map tick_of sites)) node ends
  others_tick number [] w ends shaped low each shows = shows
  others_tick number (site ∷ sites) w ends shaped low each shows = others_tick (suc number) sites (next topology w (tick_of site)) ends shaped.1 (omega (arith, low)) each.1
      (ticked_away topology w node ends shows site.controller.node (λ e. absurd (omega (arith, e, shaped.0.node, low))) each.0.0)

  all_tick : (number : ℕ) (sites : List Site) (w : World) (ends : Ends Party) (site : Site) → AreShaped number sites → at site_key node.0 sites ≡ Some site → Each w (map tick_of sites) → ShowsEnds w node ends
      → ShowsTick (world_after topology w (map tick_of sites)) node ends
  all_tick number [] w ends site shaped found each shows = absurd (cc found)
  all_tick number (s ∷ sites) w ends site shaped found each shows = by_eq (site_key s) node.0
      (λ same t. (let h : ShowsTick (next topology w (tick_of s)) node ends = ticked_here topology w node ends shows s.controller.node same each.0.0 each.0.1 in record {
        drawn = h.drawn;
        shows = others_tick (suc number) sites (next topology w (tick_of s)) (ticks gsmp ends h.drawn) shaped.1 (omega (arith, same, shaped.0.node)) each.1 h.shows;
      }))
      (λ other t. all_tick (suc number) sites (next topology w (tick_of s)) ends site shaped.1 (sym (ap (λ (b : Bool). if b then Some s else at site_key node.0 sites) t) ∙ found) each.1
      (ticked_away topology w node ends shows s.controller.node other each.0.0))

  other_switches_tick : (number : ℕ) (sites : List Site) (w : World) (ends : Ends Party) → AreShaped number sites → node.0 < number → Each w (map switch_tick_of sites) → ShowsEnds w node ends
      → ShowsEnds (world_after topology w (map switch_tick_of sites)) node ends
  other_switches_tick number [] w ends shaped low each shows = shows
  other_switches_tick number (site ∷ sites) w ends shaped low each shows = other_switches_tick (suc number) sites (next topology w (switch_tick_of site)) ends shaped.1 (omega (arith, low)) each.1
      (switch_ticked_away topology w node ends shows site.controller.node (λ e. absurd (omega (arith, e, shaped.0.node, low))) each.0.0)

  all_switches_tick : (number : ℕ) (sites : List Site) (w : World) (ends : Ends Party) (site : Site) → AreShaped number sites → at site_key node.0 sites ≡ Some site → Each w (map switch_tick_of sites) → ShowsEnds w node ends
      → ShowsSwitchTick (world_after topology w (map switch_tick_of sites)) node ends
  all_switches_tick number [] w ends site shaped found each shows = absurd (cc found)
  all_switches_tick number (s ∷ sites) w ends site shaped found each shows = by_eq (site_key s) node.0
      (λ same t. (let h : ShowsSwitchTick (next topology w (switch_tick_of s)) node ends = switch_ticked_here topology w node ends shows s.controller.node same each.0.0 each.0.1 in record {
        drawn = h.drawn;
        shows = other_switches_tick (suc number) sites (next topology w (switch_tick_of s)) (swapped (ticks gsmp (swapped ends) h.drawn)) shaped.1 (omega (arith, same, shaped.0.node)) each.1 h.shows;
      }))
      (λ other t. all_switches_tick (suc number) sites (next topology w (switch_tick_of s)) ends site shaped.1 (sym (ap (λ (b : Bool). if b then Some s else at site_key node.0 sites) t) ∙ found) each.1
      (switch_ticked_away topology w node ends shows s.controller.node other each.0.0))

  -- *Carries and packets*
  then_turns : (v : World) (ends : Ends Party) (first : List (Turn Party)) → TakesTurns v node (fold (turns gsmp) ends first) → TakesTurns v node ends
  then_turns v ends first t = record {
    come = first ++ t.come;
    shows = subst (λ (e : Ends Party). ShowsEnds v node e) (sym (fold_join first t.come ends)) t.shows;
  }
    where
      fold_join : (xs ys : List (Turn Party)) (e : Ends Party) → fold (turns gsmp) e (xs ++ ys) ≡ fold (turns gsmp) (fold (turns gsmp) e xs) ys
      fold_join [] ys e = refl
      fold_join (x ∷ xs) ys e = fold_join xs ys (turns gsmp e x)

  sent : (events : List Event) (w : World) (ends : Ends Party) → list_all is_sending events ≡ true → Each w events → ShowsEnds w node ends → TakesTurns (world_after topology w events) node ends
  sent [] w ends sending each shows = record { come = []; shows = shows }
  sent (Inject here octets ∷ events) w ends sending each shows = sent events (next topology w (Inject here octets)) ends sending each.1 (packet_sent topology w node ends shows here octets each.0.0 each.0.1)
  sent (Carry place ∷ events) w ends sending each shows =
      let t : TakesTurns (next topology w (Carry place)) node ends = goes topology w node ends shows place each.0.0 each.0.1 in
      then_turns (world_after topology w (Carry place ∷ events)) ends t.come (sent events (next topology w (Carry place)) (fold (turns gsmp) ends t.come) sending each.1 t.shows)
  sent (Lose place ∷ events) w ends sending each shows = absurd (true≢false (sym sending))
  sent (Tick here ∷ events) w ends sending each shows = absurd (true≢false (sym sending))
  sent (TickSwitch here ∷ events) w ends sending each shows = absurd (true≢false (sym sending))
  sent (Restart here ∷ events) w ends sending each shows = absurd (true≢false (sym sending))
  sent (RestartSwitch here ∷ events) w ends sending each shows = absurd (true≢false (sym sending))
  sent (Forge place channel payload ∷ events) w ends sending each shows = absurd (true≢false (sym sending))
  sent (Route here change ∷ events) w ends sending each shows = absurd (true≢false (sym sending))

  carries_send : (places : List Place) (events : List Event) → list_all is_sending events ≡ true → list_all is_sending (map Carry places ++ events) ≡ true
  carries_send [] events sending = sending
  carries_send (place ∷ places) events sending = carries_send places events sending

  -- *A beat*
  module _ (w : World) (beat : Beat) (peaceful : IsPeacefulBeat topology w node beat) (ends : Ends Party) (shows : ShowsEnds w node ends) where
    abbrev first : List Event
    first = map tick_of w.sites

    abbrev second : List Event
    second = map switch_tick_of w.sites

    abbrev rest : List Event
    rest = map Carry beat.carries ++ beat.sending

    are : events_in w beat ≡ first ++ (second ++ rest)
    are = join (first ++ second) (map Carry beat.carries) beat.sending ∙ join first second rest
      where
        join : (xs ys zs : List Event) → (xs ++ ys) ++ zs ≡ xs ++ (ys ++ zs)
        join [] ys zs = refl
        join (x ∷ xs) ys zs = ap (λ (es : List Event). x ∷ es) (join xs ys zs)

    each : Each w (first ++ (second ++ rest))
    each = subst (Each w) are (each_of (events_in w beat) w peaceful.peaceful)

    ticked : ShowsTick (world_after topology w first) node ends
    ticked = all_tick 1 w.sites w ends shows.site peaceful.shaped shows.found (each_left first (second ++ rest) w each) shows

    each_then : Each (world_after topology w first) (second ++ rest)
    each_then = each_right first (second ++ rest) w each

    switch_ticked : ShowsSwitchTick (world_after topology (world_after topology w first) second) node (ticks gsmp ends ticked.drawn)
    switch_ticked = all_switches_tick 1 w.sites (world_after topology w first) (ticks gsmp ends ticked.drawn) shows.site peaceful.shaped shows.found
        (each_left second rest (world_after topology w first) each_then) ticked.shows

    come : TakesTurns (world_after topology (world_after topology (world_after topology w first) second) rest) node (both_tick gsmp ends ticked.drawn switch_ticked.drawn)
    come = sent rest (world_after topology (world_after topology w first) second) (both_tick gsmp ends ticked.drawn switch_ticked.drawn)
        (carries_send beat.carries beat.sending peaceful.is_beat.sends) (each_right second rest (world_after topology w first) each_then) switch_ticked.shows

    behind_it : behind topology w beat ≡ world_after topology (world_after topology (world_after topology w first) second) rest
    behind_it = ap (world_after topology w) are ∙ (after_all topology w first (second ++ rest) ∙ after_all topology (world_after topology w first) second rest)

    pub exchanged : ShowsExchange (behind topology w beat) node ends
    exchanged = record {
      exchange = record { drawn_by_one = ticked.drawn; drawn_by_other = switch_ticked.drawn; then_come = come.come };
      shows = subst (λ (v : World). ShowsEnds v node (exchanges.behind gsmp ends (record { drawn_by_one = ticked.drawn; drawn_by_other = switch_ticked.drawn; then_come = come.come }))) (sym behind_it) come.shows;
    }

  -- *Nothing is on its way* where links are empty
  module _ (v : World) (site : Site) (found : site_at v node ≡ Some site) (empty : is_empty v ≡ true) where
    abbrev outs : List Place
    outs = map (λ (port : PortNo). Out site.controller.node port) (ports_of site.controller)

    key : (node.0 == site.controller.node.0) ≡ true
    key = number_same node.0 site.controller.node.0 (sym (at_key site_key node.0 v.sites site found))

    down_empty : queue_at v (Down node) ≡ []
    down_empty = empty_queues_are_empty v (Down node) empty (subst (IsPlaceOf (Down node)) (sym found)
        (ap (λ (b : Bool). (b && true) || list_any (same_queue (Down node)) (Up site.controller.node ∷ outs)) key))

    up_empty : queue_at v (Up node) ≡ []
    up_empty = empty_queues_are_empty v (Up node) empty (subst (IsPlaceOf (Up node)) (sym found)
        (ap (λ (b : Bool). (b && false) || ((b && true) || list_any (same_queue (Up node)) outs)) key))

  rests : (v : World) (ends : Ends Party) → ShowsEnds v node ends → is_empty v ≡ true → AreClear ends → IsAtRest ends
  rests v ends shows empty clear = record {
    one_has_heard = greet_none v.notes.frames (marks_at v (Up node) gsmp_channel) ends.one.comes shows.up (ap (last_marks gsmp_channel) (up_empty v shows.site shows.found empty));
    other_has_heard = greet_none v.notes.frames (marks_at v (Down node) gsmp_channel) ends.other.comes shows.down (ap (last_marks gsmp_channel) (down_empty v shows.site shows.found empty));
    one_is_clear = clear.0;
    other_is_clear = clear.1;
  }

  -- *Beats one behind another* are exchanges that come to rest
  record Wakes (w : World) (ends : Ends Party) (beats : List Beat) : Type 0 where
    exchange : List (Exchange Party)
    rest_each : ComeToRest gsmp ends exchange
    count : length exchange ≡ length beats
    shows : ShowsEnds (fold (behind topology) w beats) node (fold (exchanges.behind gsmp) ends exchange)

  wakes : (beats : List Beat) (w : World) (ends : Ends Party) → ArePeacefulBeats topology w node beats → ShowsEnds w node ends → AreClear ends → Wakes w ends beats
  wakes [] w ends peaceful shows clear = record { exchange = []; rest_each = tt; count = refl; shows = shows }
  wakes (beat ∷ beats) w ends peaceful shows clear =
      let e : ShowsExchange (behind topology w beat) node ends = exchanged w beat peaceful.0 ends shows in
      let after : Ends Party = exchanges.behind gsmp ends e.exchange in
      let later_clear : AreClear after = behind_clear ends e.exchange clear in
      let later : Wakes (behind topology w beat) after beats = wakes beats (behind topology w beat) after peaceful.1 e.shows later_clear in
      record {
        exchange = e.exchange ∷ later.exchange;
        rest_each = (rests (behind topology w beat) after e.shows peaceful.0.is_beat.empties later_clear, later.rest_each);
        count = ap suc later.count;
        shows = later.shows;
      }

pub beats_are_exchanges : BeatsAreExchanges
beats_are_exchanges topology w node beat ends peaceful shows = exchanged topology node w beat peaceful ends shows

pub nodes_wake : NodesWake
nodes_wake topology w node beats start peaceful enough =
    let ends : Ends Party = ends_of start.site [] [] in
    let shows : ShowsEnds w node ends = record {
      site = start.site;
      found = start.found;
      controller = refl;
      switch = refl;
      down = subst (λ marks. Greet w.notes.frames marks []) (sym (ap (last_marks gsmp_channel) start.down)) none;
      up = subst (λ marks. Greet w.notes.frames marks []) (sym (ap (last_marks gsmp_channel) start.up)) none;
    } in
    let woken : Wakes topology node w ends beats = wakes topology node beats w ends peaceful shows (start.controller.clear, start.switch.clear) in
    let met = switches_meet ends woken.exchange start.controller.is_side start.switch.is_side
    (record { one_has_heard = refl; other_has_heard = refl; one_is_clear = start.controller.clear; other_is_clear = start.switch.clear }) woken.rest_each
    (subst (λ (n : ℕ). 4 ≤ n) (sym woken.count) enough) in
    record {
      site = woken.shows.site;
      found = woken.shows.found;
      met = subst (λ (s : Side Party). HaveMet s woken.shows.site.switch.adjacency) woken.shows.controller
          (subst (λ (s : Side Party). HaveMet (fold (exchanges.behind gsmp) ends woken.exchange).one.side s) woken.shows.switch met);
    }
