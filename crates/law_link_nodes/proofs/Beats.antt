-- beats in peace, event by event: both ends of a node's control link stay met all along

use Rattle.std.proofs.Common.{◌≡◌, ◌≢◌, ℕ, suc, ◌<◌, ◌≤◌, ◌&&◌, Bool, true, false, true≢false, List, [], ◌∷◌, ◌++◌, append_assoc, length, map, fold, Some, refl, sym, ◌∙◌, ap, subst, arith, if◌then◌else◌}
use Rattle.std.specs.Prelude.{◌||◌, ◌==◌}
use Rattle.std.specs.List.{list_all, list_any}
use Rattle.world_model.specs.Words.{NodeId, PortNo, Place, Down, Up, Out, Party, Side, gsmp_channel, at, Topology, World, Site, site_key, site_at, queue_at, same_queue, is_empty, AreShaped, IsPlaceOf, next, tick_of, switch_tick_of, world_after}
use Rattle.world_model.specs.Controller.{ports_of}
use Rattle.world_model.specs.adjacency_table.Table.{silence_limit}
use Rattle.world_model.specs.network_model.declared.event.Event.{Event}
use Rattle.world_model.specs.network_model.declared.event.Event.TheVariants.{Inject, Carry, Lose, Tick, TickSwitch, Restart, RestartSwitch, Forge, Route}
use Rattle.world_model.proofs.Lists.{by_eq, at_key}
use Rattle.live_model.specs.Beats.{Beat, events_in, is_sending, behind}
use Rattle.live_model.specs.Met.{HaveMet}
use Rattle.live_model.specs.Waking.{events_of}
use Rattle.law_link_names.proofs.law_live_carries.Names.{empty_queues_are_empty}
use Rattle.law_link_names.proofs.law_live_hearing.Going.{after_all}
use Rattle.law_link_names.proofs.law_live_hearing.Places.{number_same}
use Rattle.law_link_names.specs.law_live_meetings.Exchange.{gsmp, Ends, swapped, ticks, Turn, turns, Exchange, IsAtRest}
use Rattle.law_link_names.specs.law_live_meetings.Exchange as exchanges
use Rattle.law_link_names.specs.law_live_meetings.Law.{ComeToRest}
use Rattle.law_link_names.proofs.law_live_meetings.Turns.{pair}
use Rattle.law_link_names.proofs.law_live_meetings.Greetings.{full, ack}
use Rattle.law_link_names.specs.law_live_orders.Law.{last_marks, marks_at}
use Rattle.law_link_names.specs.law_live_waking.Greetings.{Greet, none, ShowsEnds}
use Rattle.law_link_names.specs.law_live_waking.Law.{IsGoing, IsPeaceful, TakesTurns, ShowsTick, ShowsSwitchTick}
use Rattle.law_link_names.specs.law_live_waking.Beats.{ArePeaceful, IsPeacefulBeat, ArePeacefulBeats, RestsAt, ShowsExchange}
use Rattle.law_link_names.proofs.law_live_waking.Greetings.{greet_none}
use Rattle.law_link_names.proofs.law_live_waking.Exchanges.{AreClear, behind_clear}
use Rattle.law_link_names.proofs.law_live_waking.Sites.{ends_of}
use Rattle.law_link_names.proofs.law_live_waking.Events.{ticked_here, switch_ticked_here, ticked_away, switch_ticked_away, goes, packet_sent}
use Rattle.law_link_names.proofs.law_live_waking.Beats.{beats_are_exchanges}
use Rattle.law_link_nodes.specs.Law.{IsMetAs, HeardLately, StaysMet, StaysUp, NodesStayMet}
use Rattle.law_link_nodes.proofs.Acks.{AreMet, all_met, AreQuiet, HasTicked, one_ticks, other_ticks, rest_again}
use Rattle.law_link_nodes.proofs.Lately.{lately, side_is}

module _ (topology : Topology) (node : NodeId) where
  -- *Each event* comes in peace, one after another
  abbrev Each : World → List Event → Type 0
  Each w [] = Unit {0}
  Each w (event ∷ events) = (IsGoing topology w node event × IsPeaceful topology w node event) × Each (next topology w event) events

  each_of : (events : List Event) (w : World) → ArePeaceful topology w node events → Each w events
  each_of [] w peace = tt
  each_of (event ∷ events) w peace =
      (peace [] events event refl, each_of events (next topology w event) (λ front rest later e. peace (event ∷ front) rest later (ap (λ (es : List Event). event ∷ es) e)))

  each_left : (xs ys : List Event) (w : World) → Each w (xs ++ ys) → Each w xs
  each_left [] ys w each = tt
  each_left (x ∷ xs) ys w each = (each.0, each_left xs ys (next topology w x) each.1)

  each_right : (xs ys : List Event) (w : World) → Each w (xs ++ ys) → Each (world_after topology w xs) ys
  each_right [] ys w each = each
  each_right (x ∷ xs) ys w each = each_right xs ys (next topology w x) each.1

  module _ (a b : Party) where
    -- *In each world* of a stretch both have met
    abbrev Throughout : World → List Event → Type 0
    Throughout w [] = IsMetAs w node a b
    Throughout w (event ∷ events) = IsMetAs w node a b × Throughout (next topology w event) events

    at_first : (events : List Event) (w : World) → Throughout w events → IsMetAs w node a b
    at_first [] w along = along
    at_first (event ∷ events) w along = along.0

    at_front : (front rest : List Event) (w : World) → Throughout w (front ++ rest) → IsMetAs (world_after topology w front) node a b
    at_front [] rest w along = at_first rest w along
    at_front (event ∷ front) rest w along = at_front front rest (next topology w event) along.1

    and_then : (xs ys : List Event) (w : World) → Throughout w xs → Throughout (world_after topology w xs) ys → Throughout w (xs ++ ys)
    and_then [] ys w along later = later
    and_then (x ∷ xs) ys w along later = (along.0, and_then xs ys (next topology w x) along.1 later)

    -- *The two ends are such ones* in a world, and where they are so both have met
    record At (J : Ends Party → Type 0) (v : World) : Type 0 where
      ends : Ends Party
      shows : ShowsEnds v node ends
      are : J ends

    record Walked (J : Ends Party → Type 0) (w : World) (events : List Event) : Type 0 where
      along : Throughout w events
      behind_it : At J (world_after topology w events)

    met_by : (v : World) (ends : Ends Party) → ShowsEnds v node ends → (n m : ℕ) → ends.one.side ≡ full a b n → ends.other.side ≡ full b a m → IsMetAs v node a b
    met_by v ends shows n m e f =
        let one : shows.site.controller.adjacency ≡ full a b n = sym shows.controller ∙ e in
        let other : shows.site.switch.adjacency ≡ full b a m = sym shows.switch ∙ f in
        record {
          site = shows.site;
          found = shows.found;
          met = subst (λ (s : Side Party). HaveMet s shows.site.switch.adjacency) (sym one)
              (subst (λ (s : Side Party). HaveMet (full a b n) s) (sym other) (record { one_is_up = refl; other_is_up = refl; one_knows = refl; other_knows = refl }));
          own = ap (λ (s : Side Party). s.own) one;
          switch_own = ap (λ (s : Side Party). s.own) other;
        }

    quiet_met : (v : World) → At (AreQuiet a b) v → IsMetAs v node a b
    quiet_met v s = met_by v s.ends s.shows s.are.n s.are.m (ap (λ (e : Ends Party). e.one.side) s.are.are) (ap (λ (e : Ends Party). e.other.side) s.are.are)

    ticked_met : (v : World) → At (HasTicked a b) v → IsMetAs v node a b
    ticked_met v s = met_by v s.ends s.shows s.are.n s.are.m (ap (λ (e : Ends Party). e.one.side) s.are.are) (ap (λ (e : Ends Party). e.other.side) s.are.are)

    met_met : (v : World) → At (AreMet a b) v → IsMetAs v node a b
    met_met v s = met_by v s.ends s.shows s.are.0.silence s.are.1.silence s.are.0.side s.are.1.side

    -- *Ticks*: first of the controllers, then of the switches
    module _ (tick : Site → Event) (J : Ends Party → Type 0) (met : (v : World) → At J v → IsMetAs v node a b)
        (away : (site : Site) (w : World) → site.controller.node.0 ≢ node.0 → IsGoing topology w node (tick site) → At J w → At J (next topology w (tick site))) where
      others_tick : (number : ℕ) (sites : List Site) (w : World) → AreShaped number sites → node.0 < number → Each w (map tick sites) → At J w → Walked J w (map tick sites)
      others_tick number [] w shaped low each s = record { along = met w s; behind_it = s }
      others_tick number (site ∷ sites) w shaped low each s =
          let later : Walked J (next topology w (tick site)) (map tick sites) = others_tick (suc number) sites (next topology w (tick site)) shaped.1 (omega (arith, low)) each.1
          (away site w (λ e. absurd (omega (arith, e, shaped.0.node, low))) each.0.0 s) in
          record { along = (met w s, later.along); behind_it = later.behind_it }

    module _ (tick : Site → Event) (J K : Ends Party → Type 0) (met : (v : World) → At J v → IsMetAs v node a b) (met_then : (v : World) → At K v → IsMetAs v node a b)
        (away : (site : Site) (w : World) → site.controller.node.0 ≢ node.0 → IsGoing topology w node (tick site) → At J w → At J (next topology w (tick site)))
        (away_then : (site : Site) (w : World) → site.controller.node.0 ≢ node.0 → IsGoing topology w node (tick site) → At K w → At K (next topology w (tick site)))
        (here : (site : Site) (w : World) → site.controller.node.0 ≡ node.0 → IsGoing topology w node (tick site) → IsPeaceful topology w node (tick site) → At J w → At K (next topology w (tick site))) where
      all_tick : (number : ℕ) (sites : List Site) (w : World) (found : Site) → AreShaped number sites → at site_key node.0 sites ≡ Some found → Each w (map tick sites) → At J w → Walked K w (map tick sites)
      all_tick number [] w found shaped is each s = absurd (cc is)
      all_tick number (site ∷ sites) w found shaped is each s = by_eq (site_key site) node.0
          (λ same t. (let later : Walked K (next topology w (tick site)) (map tick sites) = others_tick tick K met_then away_then (suc number) sites (next topology w (tick site)) shaped.1
          (omega (arith, same, shaped.0.node)) each.1 (here site w same each.0.0 each.0.1 s) in
          record { along = (met w s, later.along); behind_it = later.behind_it }))
          (λ other t. (let later : Walked K (next topology w (tick site)) (map tick sites) = all_tick (suc number) sites (next topology w (tick site)) found shaped.1
          (sym (ap (λ (c : Bool). if c then Some site else at site_key node.0 sites) t) ∙ is) each.1 (away site w other each.0.0 s) in
          record { along = (met w s, later.along); behind_it = later.behind_it }))

    ticks_away : (J : Ends Party → Type 0) (site : Site) (w : World) → site.controller.node.0 ≢ node.0 → IsGoing topology w node (tick_of site) → At J w → At J (next topology w (tick_of site))
    ticks_away J site w far going s = record { ends = s.ends; shows = ticked_away topology w node s.ends s.shows site.controller.node far going; are = s.are }

    switches_away : (J : Ends Party → Type 0) (site : Site) (w : World) → site.controller.node.0 ≢ node.0 → IsGoing topology w node (switch_tick_of site) → At J w → At J (next topology w (switch_tick_of site))
    switches_away J site w far going s = record { ends = s.ends; shows = switch_ticked_away topology w node s.ends s.shows site.controller.node far going; are = s.are }

    ticks_here : (site : Site) (w : World) → site.controller.node.0 ≡ node.0 → IsGoing topology w node (tick_of site) → IsPeaceful topology w node (tick_of site) → At (AreQuiet a b) w → At (HasTicked a b) (next topology w (tick_of site))
    ticks_here site w same going peace s =
        let t : ShowsTick (next topology w (tick_of site)) node s.ends = ticked_here topology w node s.ends s.shows site.controller.node same going peace in
        record { ends = ticks gsmp s.ends t.drawn; shows = t.shows; are = one_ticks a b s.ends t.drawn s.are }

    switch_ticks_here : (site : Site) (w : World) → site.controller.node.0 ≡ node.0 → IsGoing topology w node (switch_tick_of site) → IsPeaceful topology w node (switch_tick_of site) → At (HasTicked a b) w → At (AreMet a b) (next topology w (switch_tick_of site))
    switch_ticks_here site w same going peace s =
        let t : ShowsSwitchTick (next topology w (switch_tick_of site)) node s.ends = switch_ticked_here topology w node s.ends s.shows site.controller.node same going peace in
        record { ends = swapped (ticks gsmp (swapped s.ends) t.drawn); shows = t.shows; are = other_ticks a b s.ends t.drawn s.are }

    -- *Carries and packets*
    sent : (events : List Event) (w : World) → list_all is_sending events ≡ true → Each w events → At (AreMet a b) w → Walked (AreMet a b) w events
    sent [] w sending each s = record { along = met_met w s; behind_it = s }
    sent (Inject here octets ∷ events) w sending each s =
        let later : Walked (AreMet a b) (next topology w (Inject here octets)) events = sent events (next topology w (Inject here octets)) sending each.1
        (record { ends = s.ends; shows = packet_sent topology w node s.ends s.shows here octets each.0.0 each.0.1; are = s.are }) in
        record { along = (met_met w s, later.along); behind_it = later.behind_it }
    sent (Carry place ∷ events) w sending each s =
        let t : TakesTurns (next topology w (Carry place)) node s.ends = goes topology w node s.ends s.shows place each.0.0 each.0.1 in
        let later : Walked (AreMet a b) (next topology w (Carry place)) events = sent events (next topology w (Carry place)) sending each.1
        (record { ends = fold (turns gsmp) s.ends t.come; shows = t.shows; are = all_met a b t.come s.ends s.are }) in
        record { along = (met_met w s, later.along); behind_it = later.behind_it }
    sent (Lose place ∷ events) w sending each s = absurd (true≢false (sym sending))
    sent (Tick here ∷ events) w sending each s = absurd (true≢false (sym sending))
    sent (TickSwitch here ∷ events) w sending each s = absurd (true≢false (sym sending))
    sent (Restart here ∷ events) w sending each s = absurd (true≢false (sym sending))
    sent (RestartSwitch here ∷ events) w sending each s = absurd (true≢false (sym sending))
    sent (Forge place channel payload ∷ events) w sending each s = absurd (true≢false (sym sending))
    sent (Route here change ∷ events) w sending each s = absurd (true≢false (sym sending))

    carries_send : (places : List Place) (events : List Event) → list_all is_sending events ≡ true → list_all is_sending (map Carry places ++ events) ≡ true
    carries_send [] events sending = sending
    carries_send (place ∷ places) events sending = carries_send places events sending

    -- *A beat*
    module _ (w : World) (beat : Beat) (peaceful : IsPeacefulBeat topology w node beat) (start : At (AreQuiet a b) w) where
      abbrev first : List Event
      first = map tick_of w.sites

      abbrev second : List Event
      second = map switch_tick_of w.sites

      abbrev rest : List Event
      rest = map Carry beat.carries ++ beat.sending

      are_all : events_in w beat ≡ first ++ (second ++ rest)
      are_all = append_assoc (first ++ second) (map Carry beat.carries) beat.sending ∙ append_assoc first second rest

      each : Each w (first ++ (second ++ rest))
      each = subst (Each w) are_all (each_of (events_in w beat) w peaceful.peaceful)

      abbrev half_way : World
      half_way = world_after topology w first

      each_then : Each half_way (second ++ rest)
      each_then = each_right first (second ++ rest) w each

      ticked : Walked (HasTicked a b) w first
      ticked = all_tick tick_of (AreQuiet a b) (HasTicked a b) quiet_met ticked_met (ticks_away (AreQuiet a b)) (ticks_away (HasTicked a b)) ticks_here
          1 w.sites w start.shows.site peaceful.shaped start.shows.found (each_left first (second ++ rest) w each) start

      switch_ticked : Walked (AreMet a b) half_way second
      switch_ticked = all_tick switch_tick_of (HasTicked a b) (AreMet a b) ticked_met met_met (switches_away (HasTicked a b)) (switches_away (AreMet a b)) switch_ticks_here
          1 w.sites half_way start.shows.site peaceful.shaped start.shows.found (each_left second rest half_way each_then) ticked.behind_it

      come : Walked (AreMet a b) (world_after topology half_way second) rest
      come = sent rest (world_after topology half_way second) (carries_send beat.carries beat.sending peaceful.is_beat.sends) (each_right second rest half_way each_then) switch_ticked.behind_it

      behind_all : world_after topology (world_after topology half_way second) rest ≡ behind topology w beat
      behind_all = sym (ap (world_after topology w) are_all ∙ (after_all topology w first (second ++ rest) ∙ after_all topology half_way second rest))

      walked : Walked (AreMet a b) w (events_in w beat)
      walked = record {
        along = subst (Throughout w) (sym are_all) (and_then first (second ++ rest) w ticked.along (and_then second rest half_way switch_ticked.along come.along));
        behind_it = subst (At (AreMet a b)) behind_all come.behind_it;
      }

  -- *Nothing is on its way* where links are empty
  module _ (v : World) (site : Site) (found : site_at v node ≡ Some site) (empty : is_empty v ≡ true) where
    abbrev outs : List Place
    outs = map (λ (port : PortNo). Out site.controller.node port) (ports_of site.controller)

    key : (node.0 == site.controller.node.0) ≡ true
    key = number_same node.0 site.controller.node.0 (sym (at_key site_key node.0 v.sites site found))

    down_empty : queue_at v (Down node) ≡ []
    down_empty = empty_queues_are_empty v (Down node) empty (subst (IsPlaceOf (Down node)) (sym found)
        (ap (λ (c : Bool). (c && true) || list_any (same_queue (Down node)) (Up site.controller.node ∷ outs)) key))

    up_empty : queue_at v (Up node) ≡ []
    up_empty = empty_queues_are_empty v (Up node) empty (subst (IsPlaceOf (Up node)) (sym found)
        (ap (λ (c : Bool). (c && false) || ((c && true) || list_any (same_queue (Up node)) outs)) key))

  heard_down : (v : World) (ends : Ends Party) → ShowsEnds v node ends → is_empty v ≡ true → ends.other.comes ≡ []
  heard_down v ends shows empty = greet_none v.notes.frames (marks_at v (Down node) gsmp_channel) ends.other.comes shows.down (ap (last_marks gsmp_channel) (down_empty v shows.site shows.found empty))

  heard_up : (v : World) (ends : Ends Party) → ShowsEnds v node ends → is_empty v ≡ true → ends.one.comes ≡ []
  heard_up v ends shows empty = greet_none v.notes.frames (marks_at v (Up node) gsmp_channel) ends.one.comes shows.up (ap (last_marks gsmp_channel) (up_empty v shows.site shows.found empty))

  -- *Beats one behind another*
  record Stayed (a b : Party) (w : World) (beats : List Beat) : Type 0 where
    along : Throughout a b w (events_of topology w beats)
    last : At a b (AreQuiet a b) (fold (behind topology) w beats)

  stayed : (a b : Party) (beats : List Beat) (w : World) → ArePeacefulBeats topology w node beats → At a b (AreQuiet a b) w → Stayed a b w beats
  stayed a b [] w peaceful start = record { along = quiet_met a b w start; last = start }
  stayed a b (beat ∷ beats) w peaceful start =
      let v : World = behind topology w beat in
      let one : Walked a b (AreMet a b) w (events_in w beat) = walked a b w beat peaceful.0 start in
      let there : At a b (AreMet a b) v = one.behind_it in
      let quiet : AreQuiet a b there.ends = rest_again a b there.ends there.are
      (heard_up v there.ends there.shows peaceful.0.is_beat.empties) (heard_down v there.ends there.shows peaceful.0.is_beat.empties) in
      let later : Stayed a b v beats = stayed a b beats v peaceful.1 (record { ends = there.ends; shows = there.shows; are = quiet }) in
      record { along = and_then a b (events_in w beat) (events_of topology v beats) w one.along later.along; last = later.last }

  -- as it is said of a world
  start_of : (a b : Party) (w : World) → HeardLately w node a b → queue_at w (Down node) ≡ [] → queue_at w (Up node) ≡ [] → At a b (AreQuiet a b) w
  start_of a b w h down up =
      let site : Site = h.is_met.site in
      let one : Side Party = site.controller.adjacency in
      let other : Side Party = site.switch.adjacency in
      let is_one : one ≡ full a b one.silence = side_is one a b h.is_met.met.one_is_up h.is_met.own (h.is_met.met.one_knows ∙ ap Some h.is_met.switch_own) in
      let is_other : other ≡ full b a other.silence = side_is other b a h.is_met.met.other_is_up h.is_met.switch_own (h.is_met.met.other_knows ∙ ap Some h.is_met.own) in
      record {
        ends = ends_of site [] [];
        shows = record {
          site = site;
          found = h.is_met.found;
          controller = refl;
          switch = refl;
          down = subst (λ marks. Greet w.notes.frames marks []) (sym (ap (last_marks gsmp_channel) down)) none;
          up = subst (λ marks. Greet w.notes.frames marks []) (sym (ap (last_marks gsmp_channel) up)) none;
        };
        are = record {
          n = one.silence;
          m = other.silence;
          lately = h.silence;
          other_lately = h.switch_silence;
          are = λ i. pair (is_one i) [] (is_other i) [];
        };
      }

  one_site : (x y : Site) → Some x ≡ Some y → x ≡ y
  one_site x y e = cc e

  end_of : (a b : Party) (v : World) → At a b (AreQuiet a b) v → HeardLately v node a b
  end_of a b v s =
      let met : IsMetAs v node a b = quiet_met a b v s in
      let same : s.shows.site ≡ met.site = one_site s.shows.site met.site (sym s.shows.found ∙ met.found) in
      let one : s.are.n ≡ s.shows.site.controller.adjacency.silence = ap (λ (side : Side Party). side.silence) (sym (ap (λ (e : Ends Party). e.one.side) s.are.are) ∙ s.shows.controller) in
      let other : s.are.m ≡ s.shows.site.switch.adjacency.silence = ap (λ (side : Side Party). side.silence) (sym (ap (λ (e : Ends Party). e.other.side) s.are.are) ∙ s.shows.switch) in
      record {
        is_met = met;
        silence = subst (λ (n : ℕ). n < silence_limit) (one ∙ ap (λ (site : Site). site.controller.adjacency.silence) same) s.are.lately;
        switch_silence = subst (λ (n : ℕ). n < silence_limit) (other ∙ ap (λ (site : Site). site.switch.adjacency.silence) same) s.are.other_lately;
      }

  up_so : (a b : Party) (w : World) (beats : List Beat) → Stayed a b w beats → StaysUp topology w node a b beats
  up_so a b w beats s = record {
    stays = λ front rest e. at_front a b front rest w (subst (Throughout a b w) e s.along);
    lately = end_of a b (fold (behind topology) w beats) s.last;
  }

  -- *Behind four beats* both have heard one another lately
  record Wakes (w : World) (ends : Ends Party) (beats : List Beat) : Type 0 where
    exchange : List (Exchange Party)
    rest_each : ComeToRest gsmp ends exchange
    count : length exchange ≡ length beats
    shows : ShowsEnds (fold (behind topology) w beats) node (fold (exchanges.behind gsmp) ends exchange)

  wakes : (beats : List Beat) (w : World) (ends : Ends Party) → ArePeacefulBeats topology w node beats → ShowsEnds w node ends → AreClear ends → Wakes w ends beats
  wakes [] w ends peaceful shows clear = record { exchange = []; rest_each = tt; count = refl; shows = shows }
  wakes (beat ∷ beats) w ends peaceful shows clear =
      let v : World = behind topology w beat in
      let e : ShowsExchange v node ends = beats_are_exchanges topology w node beat ends peaceful.0 shows in
      let after : Ends Party = exchanges.behind gsmp ends e.exchange in
      let later_clear : AreClear after = behind_clear ends e.exchange clear in
      let later : Wakes v after beats = wakes beats v after peaceful.1 e.shows later_clear in
      let rest : IsAtRest after = record {
        one_has_heard = heard_up v after e.shows peaceful.0.is_beat.empties;
        other_has_heard = heard_down v after e.shows peaceful.0.is_beat.empties;
        one_is_clear = later_clear.0;
        other_is_clear = later_clear.1;
      } in
      record { exchange = e.exchange ∷ later.exchange; rest_each = (rest, later.rest_each); count = ap suc later.count; shows = later.shows }

  record Woke (w : World) : Type 0 where
    one : Party
    other : Party
    start : At one other (AreQuiet one other) w

  woke : (w : World) (beats : List Beat) → RestsAt w node → ArePeacefulBeats topology w node beats → 4 ≤ length beats → Woke (fold (behind topology) w beats)
  woke w beats start peaceful enough =
      let ends : Ends Party = ends_of start.site [] [] in
      let shows : ShowsEnds w node ends = record {
        site = start.site;
        found = start.found;
        controller = refl;
        switch = refl;
        down = subst (λ marks. Greet w.notes.frames marks []) (sym (ap (last_marks gsmp_channel) start.down)) none;
        up = subst (λ marks. Greet w.notes.frames marks []) (sym (ap (last_marks gsmp_channel) start.up)) none;
      } in
      let woken : Wakes w ends beats = wakes beats w ends peaceful shows (start.controller.clear, start.switch.clear) in
      let come : Ends Party = fold (exchanges.behind gsmp) ends woken.exchange in
      record {
        one = come.one.side.own;
        other = come.other.side.own;
        start = record {
          ends = come;
          shows = woken.shows;
          are = lately ends woken.exchange start.controller.is_side start.switch.is_side
              (record { one_has_heard = refl; other_has_heard = refl; one_is_clear = start.controller.clear; other_is_clear = start.switch.clear }) woken.rest_each
              (subst (λ (n : ℕ). 4 ≤ n) (sym woken.count) enough);
        };
      }

pub nodes_stay_met : NodesStayMet
nodes_stay_met topology w node one other beats h down up peaceful =
    up_so topology node one other w beats (stayed topology node one other beats w peaceful (start_of topology node one other w h down up))

-- *And so on from where they woke*
pub split_left : (topology : Topology) (node : NodeId) (xs ys : List Beat) (w : World) → ArePeacefulBeats topology w node (xs ++ ys) → ArePeacefulBeats topology w node xs
split_left topology node [] ys w peaceful = tt
split_left topology node (x ∷ xs) ys w peaceful = (peaceful.0, split_left topology node xs ys (behind topology w x) peaceful.1)

pub split_right : (topology : Topology) (node : NodeId) (xs ys : List Beat) (w : World) → ArePeacefulBeats topology w node (xs ++ ys)
    → ArePeacefulBeats topology (fold (behind topology) w xs) node ys
split_right topology node [] ys w peaceful = peaceful
split_right topology node (x ∷ xs) ys w peaceful = split_right topology node xs ys (behind topology w x) peaceful.1

pub record StaysFrom (topology : Topology) (v : World) (node : NodeId) (more : List Beat) : Type 0 where
  pub one : Party
  pub other : Party
  pub woken : HeardLately v node one other
  pub up : StaysUp topology v node one other more

pub woken_stay : (topology : Topology) (w : World) (node : NodeId) (beats more : List Beat) → RestsAt w node → ArePeacefulBeats topology w node (beats ++ more) → 4 ≤ length beats
    → StaysFrom topology (fold (behind topology) w beats) node more
woken_stay topology w node beats more start peaceful enough =
    let v : World = fold (behind topology) w beats in
    let it : Woke topology node v = woke topology node w beats start (split_left topology node beats more w peaceful) enough in
    record {
      one = it.one;
      other = it.other;
      woken = end_of topology node it.one it.other v it.start;
      up = up_so topology node it.one it.other v more (stayed topology node it.one it.other more v (split_right topology node beats more w peaceful) it.start);
    }
