-- a beat is an exchange, and four of them are enough

use Rattle.std.proofs.Common.{◌≡◌, ◌≢◌, ℕ, suc, ◌+◌, ◌<◌, ◌≤◌, Bool, true, false, true≢false, List, [], ◌∷◌, ◌++◌, append_assoc, length, map, fold, Some, refl, sym, ◌∙◌, ap, subst, arith, if◌then◌else◌}
use Rattle.std.specs.List.{list_all}
use Rattle.world_model.specs.Words.{NodeId, Place, Peer, Side, Clearing, Mark, at, Topology, World, Site, site_key, AreShaped, IsTopology, next, tick_of, switch_tick_of, world_after}
use Rattle.world_model.specs.network_model.declared.link.LinkEnd.{LinkEnd}
use Rattle.world_model.specs.network_model.declared.event.Event.{Event}
use Rattle.world_model.specs.network_model.declared.event.Event.TheVariants.{Inject, Carry, Lose, Tick, TickSwitch, Restart, RestartSwitch, Forge, Route}
use Rattle.world_model.proofs.Lists.{by_eq}
use Rattle.live_model.specs.Beats.{Beat, events_in, is_sending, behind}
use Rattle.live_model.specs.Met.{HaveMet}
use Rattle.law_live_waking.proofs.law_live_hearing.Going.{after_all}
use Rattle.law_live_waking.specs.law_live_meetings.Exchange.{ifmp, Ends, swapped, ticks, Turn, turns, both_tick, Exchange, IsAtRest}
use Rattle.law_live_waking.specs.law_live_meetings.Exchange as exchanges
use Rattle.law_live_waking.specs.law_live_meetings.Law.{ComeToRest}
use Rattle.law_live_waking.proofs.law_live_meetings.Names.{neighbours_meet}
use Rattle.law_live_waking.specs.law_live_orders.Law.{coming}
use Rattle.law_live_waking_links.specs.Hellos.{Greet, none, ShowsEnds}
use Rattle.law_live_waking_links.specs.Law.{IsPeaceful, TakesTurns, ShowsTick, ShowsFarTick}
use Rattle.law_live_waking_links.specs.Beats.{ArePeaceful, IsPeacefulBeat, ShowsExchange, BeatsAreExchanges, ArePeacefulBeats, LinksWake}
use Rattle.law_live_waking_links.proofs.Hellos.{no_hellos}
use Rattle.law_live_waking_links.proofs.Turns.{ends_as, fold_join}
use Rattle.law_live_waking_links.proofs.Events.{ticks_are_turns, carries_are_turns, packets_are_turns}

-- *A node's number* is passed in a list of nodes, or it comes
abbrev IsPassed : Bool → (n number : ℕ) → Type 0
IsPassed true n number = n < number
IsPassed false n number = number ≤ n

above : (n number : ℕ) → n ≢ number → number ≤ n → suc number ≤ n
above n number apart le = by_eq n number (λ same t. absurd (apart same)) (λ differs t. omega (arith, le, differs))

passes_on : (b : Bool) (n number : ℕ) → n ≢ number → IsPassed b n number → IsPassed b n (suc number)
passes_on true n number apart h = omega (arith, h)
passes_on false n number apart h = above n number apart h

record IsAmong (n number : ℕ) (sites : List Site) : Type 0 where
  least : number ≤ n
  most : n < number + length sites

among : (sites : List Site) (n number : ℕ) (site : Site) → AreShaped number sites → at site_key n sites ≡ Some site → IsAmong n number sites
among [] n number site shaped found = absurd (cc found)
among (s ∷ sites) n number site shaped found = by_eq (site_key s) n
    (λ same t. record { least = omega (arith, same, shaped.0.node); most = omega (arith, same, shaped.0.node) })
    (λ differs t. (let later : IsAmong n (suc number) sites = among sites n (suc number) site shaped.1 (sym (ap (λ (b : Bool). if b then Some s else at site_key n sites) t) ∙ found) in
    record { least = omega (arith, later.least); most = omega (arith, later.most) }))

module _ (topology : Topology) (one far : LinkEnd) (is : IsTopology topology) (apart : one.node.0 ≢ far.node.0) where
  -- *Each event* comes in peace, one after another
  abbrev Each : World → List Event → Type 0
  Each w [] = Unit {0}
  Each w (event ∷ events) = IsPeaceful topology w one far event × Each (next topology w event) events

  each_of : (events : List Event) (w : World) → ArePeaceful topology w one far events → Each w events
  each_of [] w peace = tt
  each_of (event ∷ events) w peace =
      (peace [] events event refl, each_of events (next topology w event) (λ front rest later e. peace (event ∷ front) rest later (ap (λ (es : List Event). event ∷ es) e)))

  each_left : (xs ys : List Event) (w : World) → Each w (xs ++ ys) → Each w xs
  each_left [] ys w each = tt
  each_left (x ∷ xs) ys w each = (each.0, each_left xs ys (next topology w x) each.1)

  each_right : (xs ys : List Event) (w : World) → Each w (xs ++ ys) → Each (world_after topology w xs) ys
  each_right [] ys w each = each
  each_right (x ∷ xs) ys w each = each_right xs ys (next topology w x) each.1

  -- *Ticks* of the two controllers, in either order, and of others
  abbrev ticked_so : (b c : Bool) → Ends Peer → (drawn far_drawn : Peer) → Ends Peer
  ticked_so false false ends drawn far_drawn = ends
  ticked_so true false ends drawn far_drawn = ticks ifmp ends drawn
  ticked_so false true ends drawn far_drawn = swapped (ticks ifmp (swapped ends) far_drawn)
  ticked_so true true ends drawn far_drawn = both_tick ifmp ends drawn far_drawn

  module _ (ends : Ends Peer) where
    record Ticking (w : World) (b c : Bool) : Type 0 where
      drawn : Peer
      far_drawn : Peer
      shows : ShowsEnds w one far (ticked_so b c ends drawn far_drawn)

    near_ticks : (w : World) (here : NodeId) (c : Bool) → here.0 ≡ one.node.0 → IsPeaceful topology w one far (Tick here) → Ticking w false c → Ticking (next topology w (Tick here)) true c
    near_ticks w here false own peace k =
        let t : ShowsTick (next topology w (Tick here)) one far ends = ticks_are_turns.near topology w one far here ends is apart own peace k.shows in
        record { drawn = t.drawn; far_drawn = k.far_drawn; shows = t.shows }
    near_ticks w here true own peace k =
        let before : Ends Peer = swapped (ticks ifmp (swapped ends) k.far_drawn) in
        let t : ShowsTick (next topology w (Tick here)) one far before = ticks_are_turns.near topology w one far here before is apart own peace k.shows in
        record { drawn = t.drawn; far_drawn = k.far_drawn; shows = t.shows }

    far_ticks : (w : World) (here : NodeId) (b : Bool) → here.0 ≡ far.node.0 → IsPeaceful topology w one far (Tick here) → Ticking w b false → Ticking (next topology w (Tick here)) b true
    far_ticks w here false own peace k =
        let t : ShowsFarTick (next topology w (Tick here)) one far ends = ticks_are_turns.far_end topology w one far here ends is apart own peace k.shows in
        record { drawn = k.drawn; far_drawn = t.drawn; shows = t.shows }
    far_ticks w here true own peace k =
        let before : Ends Peer = ticks ifmp ends k.drawn in
        let t : ShowsFarTick (next topology w (Tick here)) one far before = ticks_are_turns.far_end topology w one far here before is apart own peace k.shows in
        record { drawn = k.drawn; far_drawn = t.drawn; shows = t.shows }

    other_ticks : (w : World) (here : NodeId) (b c : Bool) → here.0 ≢ one.node.0 → here.0 ≢ far.node.0 → IsPeaceful topology w one far (Tick here) → Ticking w b c → Ticking (next topology w (Tick here)) b c
    other_ticks w here b c other far_other peace k = record {
      drawn = k.drawn;
      far_drawn = k.far_drawn;
      shows = ticks_are_turns.another topology w one far here (ticked_so b c ends k.drawn k.far_drawn) is other far_other peace k.shows;
    }

    -- the ticks that are left, of nodes from this number on
    abbrev AllTick : (number : ℕ) → List Site → World → (b c : Bool) → Type 0
    AllTick number sites w b c = AreShaped number sites → Each w (map tick_of sites) → IsPassed b one.node.0 number → IsPassed c far.node.0 number
        → one.node.0 < number + length sites → far.node.0 < number + length sites → Ticking w b c → Ticking (world_after topology w (map tick_of sites)) true true

    first_ticks : (s : Site) (sites : List Site) (number : ℕ) (w : World) (b c : Bool) → ((v : World) (d e : Bool) → AllTick (suc number) sites v d e) → AllTick number (s ∷ sites) w b c
    first_ticks s sites number w b c later shaped each passed far_passed most far_most k = by_eq s.controller.node.0 one.node.0
        (λ own t. at_one b own passed k)
        (λ other t. by_eq s.controller.node.0 far.node.0
        (λ own f. at_far c own other far_passed k)
        (λ far_other f. on b c (passes_on b one.node.0 number (λ e. other (shaped.0.node ∙ sym e)) passed) (passes_on c far.node.0 number (λ e. far_other (shaped.0.node ∙ sym e)) far_passed)
        (other_ticks w s.controller.node b c other far_other each.0 k)))
      where
        on : (d e : Bool) → IsPassed d one.node.0 (suc number) → IsPassed e far.node.0 (suc number) → Ticking (next topology w (tick_of s)) d e
            → Ticking (world_after topology w (map tick_of (s ∷ sites))) true true
        on d e near_passed there_passed h = later (next topology w (tick_of s)) d e shaped.1 each.1 near_passed there_passed (omega (arith, most)) (omega (arith, far_most)) h

        at_one : (d : Bool) → s.controller.node.0 ≡ one.node.0 → IsPassed d one.node.0 number → Ticking w d c → Ticking (world_after topology w (map tick_of (s ∷ sites))) true true
        at_one true own gone h = absurd (omega (arith, own, gone, shaped.0.node))
        at_one false own comes h = on true c (omega (arith, own, shaped.0.node)) (passes_on c far.node.0 number (λ e. apart (sym own ∙ (shaped.0.node ∙ sym e))) far_passed)
            (near_ticks w s.controller.node c own each.0 h)

        at_far : (d : Bool) → s.controller.node.0 ≡ far.node.0 → s.controller.node.0 ≢ one.node.0 → IsPassed d far.node.0 number → Ticking w b d
            → Ticking (world_after topology w (map tick_of (s ∷ sites))) true true
        at_far true own other gone h = absurd (omega (arith, own, gone, shaped.0.node))
        at_far false own other comes h = on b true (passes_on b one.node.0 number (λ e. other (shaped.0.node ∙ sym e)) passed) (omega (arith, own, shaped.0.node))
            (far_ticks w s.controller.node b own each.0 h)

    all_tick : (sites : List Site) (number : ℕ) (w : World) (b c : Bool) → AllTick number sites w b c
    all_tick [] number w true true shaped each passed far_passed most far_most k = k
    all_tick [] number w true false shaped each passed far_passed most far_most k = absurd (omega (arith, far_passed, far_most))
    all_tick [] number w false c shaped each passed far_passed most far_most k = absurd (omega (arith, passed, most))
    all_tick (s ∷ sites) number w b c shaped each passed far_passed most far_most k =
        first_ticks s sites number w b c (λ v d e. all_tick sites (suc number) v d e) shaped each passed far_passed most far_most k

  switches_tick : (sites : List Site) (w : World) (ends : Ends Peer) → Each w (map switch_tick_of sites) → ShowsEnds w one far ends → ShowsEnds (world_after topology w (map switch_tick_of sites)) one far ends
  switches_tick [] w ends each shows = shows
  switches_tick (s ∷ sites) w ends each shows = switches_tick sites (next topology w (switch_tick_of s)) ends each.1
      (ticks_are_turns.switch topology w one far s.controller.node ends is each.0 shows)

  -- *Carries and packets*
  then_turns : (v : World) (ends : Ends Peer) (first : List (Turn Peer)) → TakesTurns v one far (fold (turns ifmp) ends first) → TakesTurns v one far ends
  then_turns v ends first t = record {
    come = first ++ t.come;
    shows = subst (λ (e : Ends Peer). ShowsEnds v one far e) (sym (fold_join first t.come ends)) t.shows;
  }

  sent : (events : List Event) (w : World) (ends : Ends Peer) → list_all is_sending events ≡ true → Each w events → ShowsEnds w one far ends → TakesTurns (world_after topology w events) one far ends
  sent [] w ends sending each shows = record { come = []; shows = shows }
  sent (Inject here octets ∷ events) w ends sending each shows =
      let t : TakesTurns (next topology w (Inject here octets)) one far ends = packets_are_turns topology w one far here octets ends is apart each.0 shows in
      then_turns (world_after topology w (Inject here octets ∷ events)) ends t.come (sent events (next topology w (Inject here octets)) (fold (turns ifmp) ends t.come) sending each.1 t.shows)
  sent (Carry place ∷ events) w ends sending each shows =
      let t : TakesTurns (next topology w (Carry place)) one far ends = carries_are_turns topology w one far place ends is apart each.0 shows in
      then_turns (world_after topology w (Carry place ∷ events)) ends t.come (sent events (next topology w (Carry place)) (fold (turns ifmp) ends t.come) sending each.1 t.shows)
  sent (Lose place ∷ events) w ends sending each shows = absurd (true≢false (sym sending))
  sent (Tick here ∷ events) w ends sending each shows = absurd (true≢false (sym sending))
  sent (TickSwitch here ∷ events) w ends sending each shows = absurd (true≢false (sym sending))
  sent (Restart here ∷ events) w ends sending each shows = absurd (true≢false (sym sending))
  sent (RestartSwitch here ∷ events) w ends sending each shows = absurd (true≢false (sym sending))
  sent (Forge place channel payload ∷ events) w ends sending each shows = absurd (true≢false (sym sending))
  sent (Route here change ∷ events) w ends sending each shows = absurd (true≢false (sym sending))

  carries_send : (places : List Place) (events : List Event) → list_all is_sending events ≡ true → list_all is_sending (map Carry places ++ events) ≡ true
  carries_send [] events sending = sending
  carries_send (place ∷ places) events sending = carries_send places events sending

  -- *A beat*
  module _ (w : World) (beat : Beat) (peaceful : IsPeacefulBeat topology w one far beat) (ends : Ends Peer) (shows : ShowsEnds w one far ends) where
    abbrev first : List Event
    first = map tick_of w.sites

    abbrev second : List Event
    second = map switch_tick_of w.sites

    abbrev rest : List Event
    rest = map Carry beat.carries ++ beat.sending

    abbrev ticked_world : World
    ticked_world = world_after topology w first

    abbrev all_ticked : World
    all_ticked = world_after topology ticked_world second

    are : events_in w beat ≡ first ++ (second ++ rest)
    are = append_assoc (first ++ second) (map Carry beat.carries) beat.sending ∙ append_assoc first second rest

    each : Each w (first ++ (second ++ rest))
    each = subst (Each w) are (each_of (events_in w beat) w peaceful.peaceful)

    each_then : Each ticked_world (second ++ rest)
    each_then = each_right first (second ++ rest) w each

    near_among : IsAmong one.node.0 1 w.sites
    near_among = among w.sites one.node.0 1 shows.shows.site peaceful.shaped shows.shows.there

    far_among : IsAmong far.node.0 1 w.sites
    far_among = among w.sites far.node.0 1 shows.far_shows.site peaceful.shaped shows.far_shows.there

    ticked : Ticking ends ticked_world true true
    ticked = all_tick ends w.sites 1 w false false peaceful.shaped (each_left first (second ++ rest) w each) near_among.least far_among.least near_among.most far_among.most
        (record { drawn = ifmp.unknown; far_drawn = ifmp.unknown; shows = shows })

    abbrev both : Ends Peer
    both = both_tick ifmp ends ticked.drawn ticked.far_drawn

    come : TakesTurns (world_after topology all_ticked rest) one far both
    come = sent rest all_ticked both (carries_send beat.carries beat.sending peaceful.is_beat.sends) (each_right second rest ticked_world each_then)
        (switches_tick w.sites ticked_world both (each_left second rest ticked_world each_then) ticked.shows)

    behind_it : behind topology w beat ≡ world_after topology all_ticked rest
    behind_it = ap (world_after topology w) are ∙ (after_all topology w first (second ++ rest) ∙ after_all topology ticked_world second rest)

    abbrev exchange_so : Exchange Peer
    exchange_so = record { drawn_by_one = ticked.drawn; drawn_by_other = ticked.far_drawn; then_come = come.come }

    pub exchanged : ShowsExchange (behind topology w beat) one far ends
    exchanged = record {
      exchange = exchange_so;
      shows = subst (λ (v : World). ShowsEnds v one far (exchanges.behind ifmp ends exchange_so)) (sym behind_it) come.shows;
    }

  -- *At rest*, where nothing is on its way and neither waits to be cleared
  rests : (v : World) (ends : Ends Peer) → (s : ShowsEnds v one far ends) → coming v one far ≡ [] → coming v far one ≡ []
      → s.linked.port.adjacency.state ≢ Clearing → s.far_linked.port.adjacency.state ≢ Clearing → IsAtRest ends
  rests v ends s empty empty_back clear far_clear = record {
    one_has_heard = no_hellos s.far_shows.site.controller.address v.notes.frames (coming v far one) ends.one.comes s.back empty_back;
    other_has_heard = no_hellos s.shows.site.controller.address v.notes.frames (coming v one far) ends.other.comes s.there empty;
    one_is_clear = λ e. clear (sym (ap (λ (side : Side Peer). side.state) s.side) ∙ e);
    other_is_clear = λ e. far_clear (sym (ap (λ (side : Side Peer). side.state) s.far_side) ∙ e);
  }

  -- *Beats one behind another* are exchanges that come to rest
  record Wakes (w : World) (ends : Ends Peer) (beats : List Beat) : Type 0 where
    exchange : List (Exchange Peer)
    rest_each : ComeToRest ifmp ends exchange
    count : length exchange ≡ length beats
    shows : ShowsEnds (fold (behind topology) w beats) one far (fold (exchanges.behind ifmp) ends exchange)

  wakes : (beats : List Beat) (w : World) (ends : Ends Peer) → ArePeacefulBeats topology w one far beats → ShowsEnds w one far ends → Wakes w ends beats
  wakes [] w ends peaceful shows = record { exchange = []; rest_each = tt; count = refl; shows = shows }
  wakes (beat ∷ beats) w ends peaceful shows =
      let e : ShowsExchange (behind topology w beat) one far ends = exchanged w beat peaceful.0.peaceful ends shows in
      let after : Ends Peer = exchanges.behind ifmp ends e.exchange in
      let later : Wakes (behind topology w beat) after beats = wakes beats (behind topology w beat) after peaceful.1 e.shows in
      record {
        exchange = e.exchange ∷ later.exchange;
        rest_each = (
          rests (behind topology w beat) after e.shows peaceful.0.empties peaceful.0.empties_back
              (peaceful.0.clear e.shows.linked e.shows.shows) (peaceful.0.far_clear e.shows.far_linked e.shows.far_shows),
          later.rest_each,
        );
        count = ap suc later.count;
        shows = later.shows;
      }

pub beats_are_exchanges : BeatsAreExchanges
beats_are_exchanges topology w one far beat ends is apart peaceful shows = exchanged topology one far is apart w beat peaceful ends shows

pub links_wake : LinksWake
links_wake topology w one far beats is apart start peaceful enough =
    let ends : Ends Peer = ends_as start.linked.port.adjacency start.far_linked.port.adjacency [] [] in
    let shows : ShowsEnds w one far ends = record {
      linked = start.linked;
      far_linked = start.far_linked;
      shows = start.shows;
      far_shows = start.far_shows;
      side = refl;
      far_side = refl;
      there = subst (λ (marks : List Mark). Greet start.shows.site.controller.address w.notes.frames marks []) (sym start.there) none;
      back = subst (λ (marks : List Mark). Greet start.far_shows.site.controller.address w.notes.frames marks []) (sym start.back) none;
      there_written = tt;
      back_written = tt;
    } in
    let woken : Wakes topology one far is apart w ends beats = wakes topology one far is apart beats w ends peaceful shows in
    let met = neighbours_meet ends woken.exchange start.side.is_side start.far_side.is_side
    (record { one_has_heard = refl; other_has_heard = refl; one_is_clear = start.side.clear; other_is_clear = start.far_side.clear }) woken.rest_each
    (subst (λ (n : ℕ). 4 ≤ n) (sym woken.count) enough) in
    record {
      linked = woken.shows.linked;
      far_linked = woken.shows.far_linked;
      shows = woken.shows.shows;
      far_shows = woken.shows.far_shows;
      met = subst (λ (s : Side Peer). HaveMet s woken.shows.far_linked.port.adjacency) woken.shows.side
          (subst (λ (s : Side Peer). HaveMet (fold (exchanges.behind ifmp) ends woken.exchange).one.side s) woken.shows.far_side met);
    }
