-- each event of a network is turns of the two ports of a link, or leaves them as they are

use Rattle.std.proofs.Common.{◌≡◌, ℕ, Bool, true, false, List, [], ◌∷◌, ◌++◌, append-nil, append_assoc, take, fold, Option, None, Some, refl, sym, ◌∙◌, ap, subst, if◌then◌else◌}
use Rattle.std.proofs.lemmas.List.{append_cancel_left}
use Rattle.world_model.specs.Words.{Addr, Peer, Said, Side, Step, fresh, received, ticked, NodeId, Place, Down, Up, Out, Channel, Cell, Mark, same_queue, default_channel, default_home, Topology, World, IsTopology, queue_at, next}
use Rattle.world_model.specs.network_model.declared.link.LinkEnd.{LinkEnd}
use Rattle.world_model.specs.network_model.declared.event.Event.{Event}
use Rattle.world_model.specs.network_model.declared.event.Event.TheVariants.{Inject, Carry, Tick, TickSwitch}
use Rattle.world_model.proofs.Lists.{by_eq}
use Rattle.law_live_waking.specs.law_passing.telling_model.Passing.{source_of}
use Rattle.law_live_waking.specs.law_passing.ordered_lists.Ordered.{Every}
use Rattle.law_live_waking.specs.law_running_worlds.law_shown_cells.Seen.{Extends}
use Rattle.law_live_waking.specs.law_live_carries.Law.{taken_by, taken_at}
use Rattle.law_live_waking.specs.law_live_meetings.Exchange.{ifmp, heard, Ends, swapped, ticks, turns, side_after, said_in}
use Rattle.law_live_waking.specs.law_live_orders.Law.{last_marks, marks_at, coming, heard_at, sent_at}
use Rattle.law_live_waking.proofs.law_live_orders.Marks.{marks_join}
use Rattle.law_live_waking_links.specs.Hellos.{Greet, FitsPeer, FitsStored, IsWritten, ShowsEnds}
use Rattle.law_live_waking_links.specs.Law.{LeavesEnd, TakesStep, Takes, TicksByTable, HearsByTable, ComesInOrder, IsPeaceful, TakesTurns, CarriesAreTurns, PacketsAreTurns, ShowsTick, ShowsFarTick, TicksAreTurns}
use Rattle.law_live_waking_links.proofs.Hellos.{hellos_stay, hellos_join, AreApart, hellos_apart, no_hellos}
use Rattle.law_live_waking_links.proofs.Writing.{every_left, every_right, every_join, received_written, ticked_written}
use Rattle.law_live_waking_links.proofs.Turns.{ends_as, EndActs, left_acts, heard_acts, both_done, both_act}
use Rattle.law_live_waking_links.proofs.Stays.{Stays, tick_stays, inject_stays, switch_stays, down_stays, up_stays, out_stays, hears_nothing}

-- *What an event takes* from a queue stood first there
record Took (w : World) (o : Option Place) (place : Place) : Type 0 where
  left : List Cell
  is : queue_at w place ≡ taken_by w o place ++ left

record TookOf (takes : Bool) (q : List Cell) : Type 0 where
  left : List Cell
  is : q ≡ (if takes then take 1 q else []) ++ left

took_of : (takes : Bool) (q : List Cell) → TookOf takes q
took_of false q = record { left = q; is = refl }
took_of true [] = record { left = []; is = refl }
took_of true (cell ∷ cells) = record { left = cells; is = refl }

took : (w : World) (o : Option Place) (place : Place) → Took w o place
took w None place = record { left = queue_at w place; is = refl }
took w (Some own) place = (let t : TookOf (same_queue own place) (queue_at w place) = took_of (same_queue own place) (queue_at w place) in record { left = t.left; is = t.is })

-- *One way*: what is on it is heard first, and then what is left, and what is sent comes last
module _ (topology : Topology) (w : World) (one far : LinkEnd) (event : Event) (order : ComesInOrder topology w one far event)
    (stays : Extends w.notes.frames (next topology w event).notes.frames) where
  abbrev v : World
  v = next topology w event

  abbrev far_home : Channel
  far_home = (default_home far.port).channel

  abbrev from_up : Took w (source_of event) (Up far.node)
  from_up = took w (source_of event) (Up far.node)

  abbrev rest : List Mark
  rest = last_marks far_home from_up.left ++ (marks_at w (Out one.node one.port) default_channel ++ marks_at w (Down one.node) (default_home one.port).channel)

  first_heard : coming w one far ≡ heard_at w event far ++ rest
  first_heard = ap (λ (ms : List Mark). ms ++ (marks_at w (Out one.node one.port) default_channel ++ marks_at w (Down one.node) (default_home one.port).channel))
      (ap (last_marks far_home) from_up.is ∙ marks_join far_home (taken_at w event (Up far.node)) from_up.left)
      ∙ append_assoc (heard_at w event far) (last_marks far_home from_up.left) (marks_at w (Out one.node one.port) default_channel ++ marks_at w (Down one.node) (default_home one.port).channel)

  sent_last : coming v one far ≡ rest ++ sent_at topology w event one
  sent_last = append_cancel_left (heard_at w event far) (coming v one far) (rest ++ sent_at topology w event one)
      (order
      ∙ (ap (λ (ms : List Mark). ms ++ sent_at topology w event one) first_heard ∙ append_assoc (heard_at w event far) rest (sent_at topology w event one)))

  pub record Comes (address : Addr) (comes : List (Said Peer)) : Type 0 where
    pub hears : List (Said Peer)
    pub later : List (Said Peer)
    pub are : comes ≡ hears ++ later
    pub heard : Greet address w.notes.frames (heard_at w event far) hears
    pub written : Every IsWritten hears
    pub later_written : Every IsWritten later
    pub goes : (said : List (Said Peer)) → Greet address v.notes.frames (sent_at topology w event one) said → Greet address v.notes.frames (coming v one far) (later ++ said)

  pub comes_so : (address : Addr) (comes : List (Said Peer)) → Greet address w.notes.frames (coming w one far) comes → Every IsWritten comes → Comes address comes
  comes_so address comes came written =
      let a : AreApart address w.notes.frames (heard_at w event far) rest comes = hellos_apart address w.notes.frames (heard_at w event far) rest comes
      (subst (λ (ms : List Mark). Greet address w.notes.frames ms comes) first_heard came) in
      record {
        hears = a.first;
        later = a.later;
        are = a.are;
        heard = a.greet;
        written = every_left IsWritten a.first a.later (subst (Every IsWritten) a.are written);
        later_written = every_right IsWritten a.first a.later (subst (Every IsWritten) a.are written);
        goes = λ said says. subst (λ (ms : List Mark). Greet address v.notes.frames ms (a.later ++ said)) (sym sent_last)
            (hellos_join address v.notes.frames rest (sent_at topology w event one) a.later said (hellos_stay address w.notes.frames v.notes.frames stays rest a.later a.greet_later) says);
      }

-- *An end takes* what it takes
record Done (topology : Topology) (w : World) (event : Event) (end : LinkEnd) (address : Addr) (side : Side Peer) (hears : List (Said Peer)) : Type 0 where
  after : Side Peer
  said : List (Said Peer)
  leaves : LeavesEnd topology w event end address after said
  written : Every IsWritten said
  done : EndActs side hears after said

takes_done : (topology : Topology) (w : World) (event : Event) (end : LinkEnd) (address : Addr) (side : Side Peer) (hears : List (Said Peer)) → FitsPeer side.own → FitsStored side.stored
    → Every IsWritten hears → Takes topology w event end address side hears → Done topology w event end address side hears
takes_done topology w event end address side [] own stored written t = record { after = t.after; said = []; leaves = t.leaves; written = tt; done = left_acts side t.after t.left_by }
takes_done topology w event end address side (message ∷ []) own stored written t =
    let step : Step Peer = received ifmp.same side (heard ifmp message) in
    record { after = side_after (fresh ifmp.first t.drawn) step.answer step.side; said = said_in step.answer; leaves = t.leaves; written = received_written side message own stored written.0; done = heard_acts side message t.drawn }
takes_done topology w event end address side (message ∷ second ∷ more) own stored written t = absurd t

-- *Both ways*
module _ (topology : Topology) (w : World) (one far : LinkEnd) (is : IsTopology topology) (event : Event) (peace : IsPeaceful topology w one far event) (ends : Ends Peer) (s : ShowsEnds w one far ends) where
  abbrev now : World
  now = next topology w event

  abbrev address : Addr
  address = s.shows.site.controller.address

  abbrev far_address : Addr
  far_address = s.far_shows.site.controller.address

  abbrev side : Side Peer
  side = s.linked.port.adjacency

  abbrev far_side : Side Peer
  far_side = s.far_linked.port.adjacency

  abbrev there : Comes topology w one far event peace.order peace.stays address ends.other.comes
  there = comes_so topology w one far event peace.order peace.stays address ends.other.comes s.there s.there_written

  abbrev back : Comes topology w far one event peace.order_back peace.stays far_address ends.one.comes
  back = comes_so topology w far one event peace.order_back peace.stays far_address ends.one.comes s.back s.back_written

  lands : (after far_after : Side Peer) (said far_said : List (Said Peer)) → LeavesEnd topology w event one address after said → LeavesEnd topology w event far far_address far_after far_said
      → Every IsWritten said → Every IsWritten far_said → ShowsEnds now one far (ends_as after far_after (back.later ++ far_said) (there.later ++ said))
  lands after far_after said far_said near far_end written far_written = record {
    linked = near.linked;
    far_linked = far_end.linked;
    shows = near.shows;
    far_shows = far_end.shows;
    side = sym near.has;
    far_side = sym far_end.has;
    there = subst (λ (a : Addr). Greet a now.notes.frames (coming now one far) (there.later ++ said)) (sym near.goes_by) (there.goes said near.says);
    back = subst (λ (a : Addr). Greet a now.notes.frames (coming now far one) (back.later ++ far_said)) (sym far_end.goes_by) (back.goes far_said far_end.says);
    there_written = every_join IsWritten there.later said there.later_written written;
    back_written = every_join IsWritten back.later far_said back.later_written far_written;
  }

  fits : FitsPeer side.own × FitsStored side.stored
  fits = peace.fits s.linked s.shows

  far_fits : FitsPeer far_side.own × FitsStored far_side.stored
  far_fits = peace.far_fits s.far_linked s.far_shows

  ends_are : ends ≡ ends_as side far_side (back.hears ++ back.later) (there.hears ++ there.later)
  ends_are = λ i. record { one = record { side = s.side i; comes = back.are i }; other = record { side = s.far_side i; comes = there.are i } }

  -- *Turns*, where each goes by its table
  pub turned : HearsByTable topology w event one far → HearsByTable topology w event far one → TakesTurns now one far ends
  turned near far_end =
      let n : Done topology w event one address side back.hears = takes_done topology w event one address side back.hears fits.0 fits.1 back.written
      (near s.linked s.far_linked s.shows s.far_shows back.hears back.heard back.written (peace.named s.linked s.far_linked s.shows s.far_shows back.hears back.heard back.written)) in
      let f : Done topology w event far far_address far_side there.hears = takes_done topology w event far far_address far_side there.hears far_fits.0 far_fits.1 there.written
      (far_end s.far_linked s.linked s.far_shows s.shows there.hears there.heard there.written (peace.named_back s.far_linked s.linked s.far_shows s.shows there.hears there.heard there.written)) in
      record {
        come = both_done side far_side n.after f.after back.hears there.hears n.said f.said n.done f.done;
        shows = subst (ShowsEnds now one far)
            (sym (ap (λ (e : Ends Peer). fold (turns ifmp) e (both_done side far_side n.after f.after back.hears there.hears n.said f.said n.done f.done)) ends_are
            ∙ both_act side far_side n.after f.after back.hears there.hears n.said f.said n.done f.done back.later there.later))
            (lands n.after f.after n.said f.said n.leaves f.leaves n.written f.written);
      }

  -- *Nothing is heard*
  module _ (unheard : heard_at w event one ≡ []) (far_unheard : heard_at w event far ≡ []) where
    silent : ends ≡ ends_as side far_side back.later there.later
    silent = ends_are ∙ (ap (λ (ms : List (Said Peer)). ends_as side far_side (ms ++ back.later) (there.hears ++ there.later))
        (no_hellos far_address w.notes.frames (heard_at w event one) back.hears back.heard unheard)
        ∙ ap (λ (ms : List (Said Peer)). ends_as side far_side back.later (ms ++ there.later))
        (no_hellos address w.notes.frames (heard_at w event far) there.hears there.heard far_unheard))

    pub ticked_near : TicksByTable topology w event one → Stays topology w far event → ShowsTick now one far ends
    ticked_near by_table far_stays =
        let t : TakesStep topology w event one address (ticked side) = by_table s.linked s.shows in
        record {
          drawn = t.drawn;
          shows = subst (λ (e : Ends Peer). ShowsEnds now one far (ticks ifmp e t.drawn)) (sym silent)
              (subst (λ (ms : List (Said Peer)). ShowsEnds now one far (ends_as (side_after (fresh ifmp.first t.drawn) (ticked side).answer (ticked side).side) far_side ms (there.later ++ said_in (ticked side).answer)))
              (append-nil back.later) (lands _ far_side (said_in (ticked side).answer) [] t.leaves (far_stays.leaves s.far_linked s.far_shows) (ticked_written side fits.0 fits.1) tt));
        }

    pub ticked_far : Stays topology w one event → TicksByTable topology w event far → ShowsFarTick now one far ends
    ticked_far one_stays by_table =
        let t : TakesStep topology w event far far_address (ticked far_side) = by_table s.far_linked s.far_shows in
        record {
          drawn = t.drawn;
          shows = subst (λ (e : Ends Peer). ShowsEnds now one far (swapped (ticks ifmp (swapped e) t.drawn))) (sym silent)
              (subst (λ (ms : List (Said Peer)). ShowsEnds now one far (ends_as side (side_after (fresh ifmp.first t.drawn) (ticked far_side).answer (ticked far_side).side) (back.later ++ said_in (ticked far_side).answer) ms))
              (append-nil there.later) (lands side _ [] (said_in (ticked far_side).answer) (one_stays.leaves s.linked s.shows) t.leaves tt (ticked_written far_side far_fits.0 far_fits.1)));
        }

    pub both_stay : Stays topology w one event → Stays topology w far event → ShowsEnds now one far ends
    both_stay one_stays far_stays = subst (ShowsEnds now one far) (sym silent)
        (subst (λ (ms : List (Said Peer)). ShowsEnds now one far (ends_as side far_side ms there.later)) (append-nil back.later)
        (subst (λ (ms : List (Said Peer)). ShowsEnds now one far (ends_as side far_side (back.later ++ []) ms)) (append-nil there.later)
        (lands side far_side [] [] (one_stays.leaves s.linked s.shows) (far_stays.leaves s.far_linked s.far_shows) tt tt)))

-- *Each end*, at a carry and at a packet that is sent
hears_at : (topology : Topology) (w : World) (one far : LinkEnd) → IsTopology topology → (place : Place) → IsPeaceful topology w one far (Carry place) → HearsByTable topology w (Carry place) one far
hears_at topology w one far is (Down here) peace = hears_nothing topology w one (Carry (Down here)) far (down_stays topology w one here)
hears_at topology w one far is (Up here) peace = by_eq here.0 one.node.0
    (λ same t. peace.near same)
    (λ apart t. hears_nothing topology w one (Carry (Up here)) far (up_stays topology w one here apart))
hears_at topology w one far is (Out here port) peace = hears_nothing topology w one (Carry (Out here port)) far (out_stays topology w one is here port (peace.within (Out here port) refl).1)

injects_at : (topology : Topology) (w : World) (one far : LinkEnd) (here : NodeId) (octets : List ℕ) → IsPeaceful topology w one far (Inject here octets) → HearsByTable topology w (Inject here octets) one far
injects_at topology w one far here octets peace = by_eq here.0 one.node.0
    (λ same t. peace.near same)
    (λ apart t. hears_nothing topology w one (Inject here octets) far (inject_stays topology w one here octets apart))

-- the same of the other end
pub other_way : (topology : Topology) (w : World) (one far : LinkEnd) (event : Event) → IsPeaceful topology w one far event → IsPeaceful topology w far one event
other_way topology w one far event p = record {
  within = p.within;
  order = p.order_back;
  order_back = p.order;
  fits = p.far_fits;
  far_fits = p.fits;
  named = p.named_back;
  named_back = p.named;
  stays = p.stays;
  near = p.far_end;
  far_end = p.near;
}

pub carries_are_turns : CarriesAreTurns
carries_are_turns topology w one far place ends is apart peace shows = turned topology w one far is (Carry place) peace ends shows
    (hears_at topology w one far is place peace) (hears_at topology w far one is place (other_way topology w one far (Carry place) peace))

pub packets_are_turns : PacketsAreTurns
packets_are_turns topology w one far here octets ends is apart peace shows = turned topology w one far is (Inject here octets) peace ends shows
    (injects_at topology w one far here octets peace) (injects_at topology w far one here octets (other_way topology w one far (Inject here octets) peace))

pub ticks_are_turns : TicksAreTurns
ticks_are_turns = record {
  near = λ topology w one far here ends is apart own peace shows. ticked_near topology w one far is (Tick here) peace ends shows refl refl (peace.near own)
      (tick_stays topology w far here (λ e. apart (sym own ∙ e)));
  far_end = λ topology w one far here ends is apart own peace shows. ticked_far topology w one far is (Tick here) peace ends shows refl refl
      (tick_stays topology w one here (λ e. apart (sym e ∙ own))) (peace.far_end own);
  another = λ topology w one far here ends is apart far_apart peace shows. both_stay topology w one far is (Tick here) peace ends shows refl refl
      (tick_stays topology w one here apart) (tick_stays topology w far here far_apart);
  switch = λ topology w one far here ends is peace shows. both_stay topology w one far is (TickSwitch here) peace ends shows refl refl
      (switch_stays topology w one here) (switch_stays topology w far here);
}
