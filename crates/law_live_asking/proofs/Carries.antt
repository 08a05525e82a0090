-- a carry that brings a controller a cell

use Rattle.std.proofs.Common.{◌≡◌, ℕ, ◌≤◌, Bool, true, false, List, [], ◌∷◌, ◌++◌, length, Option, None, Some, refl, sym, ◌∙◌, ap, subst, arith, drop, if◌then◌else◌}
use Rattle.std.specs.Prelude.{not, nat_lt, nat_le}
use Rattle.std.specs.Option.{option_map, option_map_or, option_and_then}
use Rattle.std.proofs.lemmas.List.{append_cancel_left}
use Rattle.world_model.specs.Words.{NodeId, Down, Up, Mark, Cell, Frame, Loss, Unbound, Request, message_of, payload_of, Setup, Desk, is_request, payload_in, Reassembly, nothing_taken, default_channel, Controller, Linked, ForGsmp, ForDefault, ForLabel, taker_of, reassembly_of, with_reassembly, frame_holds, Journal, Topology, World, Site, site_at, queue_at, carries_head, put_away, next, OfController, reassembly_at, has_slot, arrival, cell_for, taken_at, port_key, chains_with}
use Rattle.world_model.specs.frame_model.Frame.{octets_of}
use Rattle.world_model.specs.frame_model.Reassembly.{Taken, taken, most_cells, passed_over, without_slot, too_long}
use Rattle.world_model.specs.Controller.{Acted, free_slots, note}
use Rattle.world_model.specs.Cells.{Taker, cell_comes}
use Rattle.world_model.specs.Stretches.{ended_at, controller_arrival}
use Rattle.world_model.specs.Stretches as stretches
use Rattle.world_model.specs.gsmp_wire.Layout.{octets_of as message_octets}
use Rattle.world_model.specs.gsmp_wire.declared.message.Message.{Message}
use Rattle.world_model.specs.switch_model.declared.request.Asked.{Asked}
use Rattle.world_model.specs.network_model.declared.event.Event.TheVariants.{Carry}
use Rattle.law_live_lasting.specs.law_port_facts.ordered_lists.Ordered.{Every}
use Rattle.law_live_lasting.specs.law_port_facts.Port.{IsLabelEnd}
use Rattle.law_live_lasting.proofs.law_port_facts.Keyed.{put_every, at_every, map_put}
use Rattle.law_live_lasting.specs.law_passing.Reached.{carried_to, owns}
use Rattle.law_live_lasting.specs.law_passing.telling_model.Passing.{cells_put_at, left}
use Rattle.law_live_lasting.proofs.law_passing.Worlds.{change_by_passing, of_the_actor}
use Rattle.law_live_lasting.specs.law_run_facts.law_world_views.Between.{setups_of}
use Rattle.law_live_lasting.proofs.law_live_frames.Coming.{same_itself}
use Rattle.law_live_lasting.specs.law_live_hearing.Law.{acting}
use Rattle.law_live_lasting.proofs.law_live_hearing.Sites.{up_now, up_notes, up_site, queue_of_site}
use Rattle.law_live_lasting.specs.law_live_control.Calm.{HasLinks}
use Rattle.law_live_lasting.specs.law_live_orders.Law.{last_marks}
use Rattle.law_live_lasting.proofs.law_live_orders.Hops.{numbers_apart}
use Rattle.law_live_lasting.specs.law_live_unsaid.Carries.{EndsFrame}
use Rattle.law_live_mirrors.specs.Fit.{IsFit}
use Rattle.law_live_lasting.specs.law_live_mirrored_worlds.Way.{AreAsked, none, asking}
use Rattle.law_live_lasting.specs.law_live_mirrored_worlds.Law.{Keeps, AsksSome}
use Rattle.law_live_lasting.proofs.law_live_mirrored_worlds.Sites.{one_site}
use Rattle.law_live_lasting.proofs.law_live_mirrored_worlds.Events.{steps_keep}
use Rattle.law_live_asking.specs.Law.{PutsOne, IsOfLabel, of_label, of_grant, AsksFew, nothing, one}
use Rattle.law_live_asking.specs.Frames.{MayCome}
use Rattle.law_live_asking.specs.Carries.{EndsWhatMayCome, CanBeAsked, CarriesAskSome}
use Rattle.law_live_asking.proofs.Puts.{puts_on}
use Rattle.law_live_asking.proofs.Still.{Still, still_same, still_asks, none_then, IsThere, taker_there, gathered_still}
use Rattle.law_live_asking.proofs.Asks.{frames_ask_few}
use Rattle.law_live_asking.proofs.Notes.{may_come_by}
use Rattle.law_live_asking.proofs.Cells.{gathered, noted_so, told, Ends, cell_by}

-- *A chain is gathered* before the frame acts
links_gathered : (a : Acted) (taker : Taker) (r : Reassembly) → IsThere a.controller taker → HasLinks a.controller → HasLinks (with_reassembly a taker r).controller
links_gathered a ForGsmp r there links = record { ports = links.ports; routes = links.routes }
links_gathered a (ForDefault linked) r there links = record {
  ports = put_every port_key (λ (l : Linked). 1 ≤ l.setup.port.0) (record linked { reassembly = r }) a.controller.ports
      (at_every port_key (λ (l : Linked). 1 ≤ l.setup.port.0) linked.setup.port.0 a.controller.ports linked links.ports there) links.ports;
  routes = links.routes;
}
links_gathered a (ForLabel linked label) r there links = record {
  ports = put_every port_key (λ (l : Linked). 1 ≤ l.setup.port.0) (record linked { chains = chains_with linked.chains label.number r }) a.controller.ports
      (at_every port_key (λ (l : Linked). 1 ≤ l.setup.port.0) linked.setup.port.0 a.controller.ports linked links.ports there) links.ports;
  routes = links.routes;
}

setups_gathered : (a : Acted) (taker : Taker) (r : Reassembly) → IsThere a.controller taker → setups_of (with_reassembly a taker r).controller ≡ setups_of a.controller
setups_gathered a ForGsmp r there = refl
setups_gathered a (ForDefault linked) r there = map_put port_key (λ (l : Linked). l.setup) (record linked { reassembly = r }) a.controller.ports linked there refl
setups_gathered a (ForLabel linked label) r there = map_put port_key (λ (l : Linked). l.setup) (record linked { chains = chains_with linked.chains label.number r }) a.controller.ports linked there refl

of_before : (c d : Controller) → setups_of d ≡ setups_of c → (request : Request) → IsOfLabel d request → IsOfLabel c request
of_before c d same request (of_label end is) = of_label end (subst (λ (setups : List Setup). IsLabelEnd setups end) same is)
of_before c d same request (of_grant end is) = of_grant end (subst (λ (setups : List Setup). IsLabelEnd setups end) same is)

-- so what is asked of the controller with that chain is asked of it as it was
module _ (a b : Acted) (still : Still a.controller b.controller) (same : setups_of b.controller ≡ setups_of a.controller) where
  few_before : (after : Acted) → AsksFew b.controller after → AsksFew a.controller after
  few_before after (nothing is) = nothing (none_then a.controller b.controller after.controller (still_asks a b still) is)
  few_before after (one request of is) = one request (of_before a.controller b.controller same request of) (record {
    keeps = steps_keep.both a.controller b.controller after.controller [] (request ∷ []) (still_asks a b still).keeps is.keeps;
    puts = subst (λ (d : Desk). PutsOne a.controller after (message_octets (message_of d.rows d.next request))) still.desk
        (puts_on a.controller b.controller after (message_octets (message_of b.controller.desk.rows b.controller.desk.next request)) still.puts is.puts);
  })

-- *A cell is taken* in the notes of the world as in those of the event
module _ (r : Reassembly) (cell : Cell) where
  abbrev by_tests : Journal → (skips full long last : Bool) → Taken
  by_tests notes skips full long last =
      if skips then passed_over notes r cell
      else (if full then without_slot notes r cell
      else (if long then too_long notes r cell
      else (if last then record { reassembly = record r { chain = [] }; notes = notes; ended = r.chain ++ cell ∷ [] }
      else record { reassembly = record r { chain = r.chain ++ cell ∷ [] }; notes = notes; ended = [] })))

  ended_same : (notes others : Journal) (slot : Bool) → (taken notes slot r cell).ended ≡ (taken others slot r cell).ended
  ended_same notes others slot = by r.is_skipping (not slot) (nat_le most_cells (length r.chain)) cell.header.last
    where
      by : (skips full long last : Bool) → (by_tests notes skips full long last).ended ≡ (by_tests others skips full long last).ended
      by true full long last = refl
      by false true long last = refl
      by false false true last = refl
      by false false false true = refl
      by false false false false = refl

module _ (topology : Topology) (w : World) (node : NodeId) (site : Site) (found : site_at w node ≡ Some site) where
  abbrev v : World
  v = next topology w (Carry (Up node))

  abbrev put : List Cell
  put = cells_put_at topology w (Carry (Up node)) (Down node)

  -- *What the controller asks* is asked in the network
  module _ (now : Site) (there : site_at v node ≡ Some now) (after : Acted) (is_after : now.controller ≡ after.controller) (frames : v.notes.frames ≡ after.notes.frames)
      (put_is : (more : List Cell) → after.controller.queue ≡ site.controller.queue ++ more → put ≡ more) where
    keeps_so : (requests : List Request) → Keeps site.controller after.controller requests → (s n : Site) → site_at w node ≡ Some s → site_at v node ≡ Some n → Keeps s.controller n.controller requests
    keeps_so requests keeps s n found_s found_n = subst (λ (x : Site). Keeps x.controller n.controller requests) (one_site site s (sym found ∙ found_s))
        (subst (λ (x : Site). Keeps site.controller x.controller requests) (one_site now n (sym there ∙ found_n))
        (subst (λ (c : Controller). Keeps site.controller c requests) (sym is_after) keeps))

    asks_some : CanBeAsked site → AsksFew site.controller after → AsksSome topology w node (Carry (Up node))
    asks_some can (nothing is) = record {
      asked = [];
      asks = record {
        puts = subst (λ (marks : List Mark). AreAsked v.notes.frames marks []) (sym (ap (last_marks default_channel) (put_is is.puts.put is.puts.queue) ∙ is.puts.none)) none;
        fit = λ s found_s. tt;
        keeps = keeps_so [] is.keeps;
      };
    }
    asks_some can (one request of is) = record {
      asked = asked ∷ [];
      asks = record {
        puts = subst (λ (marks : List Mark). AreAsked v.notes.frames marks (asked ∷ [])) (sym (ap (last_marks default_channel) (put_is is.puts.put is.puts.queue) ∙ is.puts.one))
            (asking is.puts.mark asked (record {
              payload = message_octets message;
              made = ap (λ (fs : List Frame). payload_of fs is.puts.mark) frames ∙ is.puts.made;
              message = message;
              read = (can request of).0;
              request = is_asked request of;
              asks = (can request of).1.is;
            }) none);
        fit = λ s found_s. subst (λ (x : Site). Every (IsFit x.switch) (asked ∷ [])) (one_site site s (sym found ∙ found_s)) ((can request of).1.fit, tt);
        keeps = keeps_so (request ∷ []) is.keeps;
      };
    }
      where
        message : Message
        message = message_of site.controller.desk.rows site.controller.desk.next request

        asked : Asked
        asked = record { session = (can request of).1.session; request = request }

        is_asked : (x : Request) → IsOfLabel site.controller x → is_request (message_of site.controller.desk.rows site.controller.desk.next x) ≡ true
        is_asked x (of_label end is) = refl
        is_asked x (of_grant end is) = refl

  -- *Nothing waits*
  empty_asks : CanBeAsked site → queue_at w (Up node) ≡ [] → AsksSome topology w node (Carry (Up node))
  empty_asks can queue = record {
    asked = [];
    asks = record {
      puts = subst (λ (cells : List Cell). AreAsked v.notes.frames (last_marks default_channel cells) [])
          (sym (of_the_actor topology w (Carry (Up node)) (Down node) (ap (λ (q : List Cell). owns (carried_to topology (Up node) q) (Down node)) queue))) none;
      fit = λ s found_s. tt;
      keeps = λ s n found_s found_n. subst (λ (x : Site). Keeps s.controller x.controller []) (one_site s n (sym found_s ∙ (sym (same s) ∙ found_n))) (still_asks (acting w s) (acting w s) (still_same s.controller s.controller refl refl refl)).keeps;
    };
  }
    where
      same : (s : Site) → site_at v node ≡ site_at w node
      same s = ap (λ (q : List Cell). site_at (carries_head topology (put_away w) (Up node) q) node) queue

  -- *A cell comes*
  module _ (links : HasLinks site.controller) (cell : Cell) (cells : List Cell) (queue : queue_at w (Up node) ≡ cell ∷ cells) where
    abbrev a : Acted
    a = acting w site

    abbrev channel : stretches.Reassembler
    channel = OfController node cell.header.channel

    -- the chain that it ends
    ended : (taker : Taker) → taker_of site.controller cell.header.channel ≡ Some taker → ended_at w (Carry (Up node)) channel ≡ (told a cell taker).ended
    ended taker takes =
        ap (λ o. option_map_or (λ (t : Taken). t.ended) (taken_at w channel o (cell_for channel (arrival w (Carry (Up node))))) []) chain
        ∙ (ap (λ o. option_map_or (λ (t : Taken). t.ended) (taken_at w channel (Some (reassembly_of site.controller taker)) o) []) comes
        ∙ (ap (λ (b : Bool). (taken w.notes b (reassembly_of site.controller taker) cell).ended) room
        ∙ ended_same (reassembly_of site.controller taker) cell w.notes a.notes (nat_lt 0 (free_slots site.controller))))
      where
        chain : reassembly_at w channel ≡ Some (reassembly_of site.controller taker)
        chain = ap (λ (o : Option Site). option_and_then (λ (c : Controller). option_map (reassembly_of c) (taker_of c cell.header.channel)) (option_map (λ (s : Site). s.controller) o)) found
            ∙ ap (option_map (reassembly_of site.controller)) takes

        comes : cell_for channel (arrival w (Carry (Up node))) ≡ Some cell
        comes = ap (λ q. cell_for channel (controller_arrival node q)) queue ∙ ap (λ (b : Bool). if b then Some cell else None) (same_itself channel)

        room : has_slot w channel ≡ nat_lt 0 (free_slots site.controller)
        room = ap (λ (o : Option Site). option_map_or (λ (c : Controller). nat_lt 0 (free_slots c)) (option_map (λ (s : Site). s.controller) o) false) found

    ends_frame : (taker : Taker) (payload : List ℕ) → Ends a cell taker payload → EndsFrame w node site cell taker payload
    ends_frame taker payload e = record { takes = e.takes; whole = ap (λ cs. payload_in (octets_of cs)) (ended taker e.takes ∙ e.ended) ∙ e.passes }

    -- what it makes of the controller
    abbrev Few : Acted → Type 0
    Few x = length x.notes.entries ≤ length a.notes.entries → AsksFew a.controller x

    module _ (may : (taker : Taker) (payload : List ℕ) → EndsFrame w node site cell taker payload → MayCome (with_reassembly a taker nothing_taken) taker payload) where
      acts : (notes : Journal) (taker : Taker) (payload : List ℕ) → notes.entries ≡ a.notes.entries → Ends a cell taker payload → Few (frame_holds (gathered a cell notes taker nothing_taken) taker cell.mark payload)
      acts notes taker payload entries e unlost =
          let b : Acted = gathered a cell notes taker nothing_taken in
          let there : IsThere a.controller taker = taker_there a.controller cell.header.channel taker e.takes in
          few_before a b (gathered_still (record a { notes = notes }) taker nothing_taken there) (setups_gathered (record a { notes = notes }) taker nothing_taken there)
          (frame_holds b taker cell.mark payload)
          (frames_ask_few b taker cell.mark payload (links_gathered (record a { notes = notes }) taker nothing_taken there links) (may_come_by a notes taker payload (may taker payload (ends_frame taker payload e)))
          (subst (λ n. length (frame_holds b taker cell.mark payload).notes.entries ≤ n) (sym (ap (λ (n : Journal). length n.entries) (noted_so a cell notes taker nothing_taken) ∙ ap (λ es. length es) entries)) unlost))

      few : Few (cell_comes a cell)
      few = cell_by a cell Few
          (λ unlost. nothing (still_asks a (note a (Loss cell.mark Unbound)) (still_same a.controller a.controller refl refl refl)))
          (λ notes taker r there unlost. nothing (still_asks a (gathered a cell notes taker r) (gathered_still (record a { notes = notes }) taker r there)))
          acts

      -- what is put are the cells that the controller sends
      stays : left w (Carry (Up node)) (Down node) ≡ site.controller.queue
      stays = ap (λ (b : Bool). if b then drop 1 (queue_at w (Down node)) else queue_at w (Down node)) (numbers_apart (Up node) (Down node) (λ e. absurd (omega (arith, e))))
          ∙ queue_of_site w node site (Down node) found

      then_is : queue_at v (Down node) ≡ (cell_comes a cell).controller.queue
      then_is = queue_of_site v node (up_now topology w node site found cell cells) (Down node) (up_site topology w node site found cell cells queue)

      put_now : (more : List Cell) → (cell_comes a cell).controller.queue ≡ site.controller.queue ++ more → put ≡ more
      put_now more is = append_cancel_left (left w (Carry (Up node)) (Down node)) put more
          (sym (change_by_passing topology w (Carry (Up node)) (Down node)) ∙ (then_is ∙ (is ∙ ap (λ (q : List Cell). q ++ more) (sym stays))))

      same_length : {m n : ℕ} → m ≡ n → m ≤ n
      same_length e = omega (arith, e)

      cell_asks : CanBeAsked site → v.notes.entries ≡ w.notes.entries → AsksSome topology w node (Carry (Up node))
      cell_asks can unlost = asks_some (up_now topology w node site found cell cells) (up_site topology w node site found cell cells queue) (cell_comes a cell) refl
          (ap (λ (n : Journal). n.frames) (up_notes topology w node site found cell cells queue)) put_now can
          (few (same_length (sym (ap (λ (n : Journal). length n.entries) (up_notes topology w node site found cell cells queue)) ∙ ap (λ es. length es) unlost)))

pub carries_ask_some : CarriesAskSome
carries_ask_some topology w node site found links may can unlost = by (queue_at w (Up node)) refl
  where
    by : (q : List Cell) → queue_at w (Up node) ≡ q → AsksSome topology w node (Carry (Up node))
    by [] queue = empty_asks topology w node site found can queue
    by (cell ∷ cells) queue = cell_asks topology w node site found links cell cells queue (subst (EndsWhatMayCome w node site) queue may) can unlost
