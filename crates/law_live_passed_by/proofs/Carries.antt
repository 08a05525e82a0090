-- a carry brings the cell, or goes elsewhere

use Rattle.std.proofs.Common.{◌≡◌, ◌≢◌, ℕ, Bool, true, false, ◌&&◌, List, [], ◌∷◌, Option, None, Some, refl, sym, ◌∙◌, ap, subst, inl, inr, if◌then◌else◌}
use Rattle.std.specs.Prelude.{nat_lt}
use Rattle.std.specs.Option.{option_map, option_map_or, option_and_then}
use Rattle.world_model.specs.Words.{NodeId, Place, Down, Up, Out, Cell, payload_of, payload_in, last_mark, default_home, Controller, Linked, linked_at, taker_of, reassembly_of, same_channel, ForGsmp, ForDefault, ForLabel, ifmp_of, Topology, World, Site, queue_at, next, CountsAsItsFrame, OfController, arrival, cell_for, has_slot, reassembly_at, taken_at, Reassembly}
use Rattle.world_model.specs.frame_model.Frame.{octets_of}
use Rattle.world_model.specs.frame_model.Reassembly.{Taken, taken}
use Rattle.world_model.specs.Controller.{Acted, free_slots}
use Rattle.world_model.specs.Cells.{Taker, cell_comes}
use Rattle.world_model.specs.Stretches.{Reassembler, ended_at, controller_arrival}
use Rattle.world_model.specs.network_model.declared.link.LinkEnd.{LinkEnd}
use Rattle.world_model.specs.network_model.declared.event.Event.TheVariants.{Carry}
use Rattle.world_model.proofs.Lists.{by_eq}
use Rattle.law_actor_pace.proofs.Cells.{ended_last}
use Rattle.law_causes.proofs.Turning.{same_left}
use Rattle.law_run_facts.proofs.Takers.{default_of}
use Rattle.law_live_frames.proofs.Coming.{same_itself}
use Rattle.law_live_worlds.specs.Law.{Shows, IsLeftAlike}
use Rattle.law_live_elsewhere.proofs.Elsewhere.{IsKept, carry_keeps, left_alike}
use Rattle.law_live_hearing.specs.Law.{acting}
use Rattle.law_live_hearing.proofs.Sites.{up_now, up_site}
use Rattle.law_live_orders.specs.Messages.{HoldsNone}
use Rattle.law_live_others.specs.Law.{IsAlikeAt, LeavesAlike}
use Rattle.law_live_passed_by.specs.Law.{HoldNone, IsCellForOthers, AreForOthers, CarriesPassBy, CarriesForOthersAreUnseen}
use Rattle.law_live_passed_by.proofs.Frames.{IsNoMessage}
use Rattle.law_live_passed_by.proofs.Cells.{taken_by, EndsPassing, cell_alike}

one_payload : (x y : List ℕ) → Some x ≡ Some y → x ≡ y
one_payload x y e = cc

both_true : (a b : Bool) → a ≡ true → b ≡ true → (a && b) ≡ true
both_true true true e f = refl
both_true true false e f = absurd (cc f)
both_true false b e f = absurd (cc e)

module _ (topology : Topology) (w : World) (end : LinkEnd) (linked : Linked) (shows : Shows w end linked) where
  abbrev Left : Place → Type 0
  Left place = IsLeftAlike linked (next topology w (Carry place)) end

  -- *To others*, or a cell that ends no frame
  kept : (place : Place) → IsKept place (queue_at w place) end.node.0 → Left place
  kept place is = left_alike topology w end end place end linked shows (carry_keeps topology w end end place (queue_at w place) end.node.0 is)

  kept_elsewhere : (node : NodeId) → node.0 ≢ end.node.0 → Left (Up node)
  kept_elsewhere node differs = kept (Up node) (by (queue_at w (Up node)))
    where
      by : (queue : List Cell) → IsKept (Up node) queue end.node.0
      by [] = tt
      by (cell ∷ cells) = inl differs

  -- *A last cell* to the controller
  module _ (cell : Cell) (cells : List Cell) (queue : queue_at w (Up end.node) ≡ cell ∷ cells) (last : cell.header.last ≡ true)
      (counts : CountsAsItsFrame w (Carry (Up end.node))) (holds_none : HoldNone w end (cell ∷ cells)) (others : IsCellForOthers w end.port shows.site cell) where
    abbrev site : Site
    site = shows.site

    abbrev a : Acted
    a = acting w site

    abbrev of_channel : Reassembler
    of_channel = OfController end.node cell.header.channel

    module _ (taker : Taker) (takes : taker_of site.controller cell.header.channel ≡ Some taker) where
      abbrev r : Reassembly
      r = reassembly_of site.controller taker

      abbrev slot : Bool
      slot = nat_lt 0 (free_slots site.controller)

      comes : cell_for of_channel (arrival w (Carry (Up end.node))) ≡ Some cell
      comes = ap (λ (q : List Cell). cell_for of_channel (controller_arrival end.node q)) queue ∙ ap (λ (b : Bool). if b then Some cell else None) (same_itself of_channel)

      gathered : reassembly_at w of_channel ≡ Some r
      gathered = ap (λ (o : Option Site). option_and_then (λ (c : Controller). option_map (reassembly_of c) (taker_of c cell.header.channel)) (option_map (λ (s : Site). s.controller) o)) shows.there
          ∙ ap (option_map (reassembly_of site.controller)) takes

      has_room : has_slot w of_channel ≡ slot
      has_room = ap (λ (o : Option Site). option_map_or (λ (c : Controller). nat_lt 0 (free_slots c)) (option_map (λ (s : Site). s.controller) o) false) shows.there

      ended : ended_at w (Carry (Up end.node)) of_channel ≡ (taken_by end.port a cell taker).ended
      ended = ap (λ o. option_map_or (λ (u : Taken). u.ended) (taken_at w of_channel o (cell_for of_channel (arrival w (Carry (Up end.node))))) []) gathered
          ∙ (ap (λ o. option_map_or (λ (u : Taken). u.ended) (taken_at w of_channel (Some r) o) []) comes
          ∙ (ap (λ (b : Bool). (taken w.notes b r cell).ended) has_room ∙ (same_left w.notes a.notes slot r cell).1))

      -- a chain that passes its test has what was made under the cell's mark
      made : (first : Cell) (rest : List Cell) (payload : List ℕ) → (taken_by end.port a cell taker).ended ≡ first ∷ rest → payload_in (octets_of (first ∷ rest)) ≡ Some payload
          → payload_of w.notes.frames cell.mark ≡ Some payload
      made first rest payload e passes =
          let chain : ended_at w (Carry (Up end.node)) of_channel ≡ first ∷ rest = ended ∙ e in
          ap (payload_of w.notes.frames) (sym (ap last_mark chain ∙ ended_last a.notes slot r cell first rest e))
          ∙ counts of_channel payload (ap (λ (cs : List Cell). payload_in (octets_of cs)) chain ∙ passes)

    -- on the port's own default channel it is no message
    no_message : (taker : Taker) → taker_of site.controller cell.header.channel ≡ Some taker → (payload : List ℕ) → payload_of w.notes.frames cell.mark ≡ Some payload
        → IsNoMessage end.port taker payload
    no_message ForGsmp takes payload is = tt
    no_message (ForLabel q label) takes payload is = tt
    no_message (ForDefault q) takes payload is = λ same.
        let on : same_channel cell.header.channel (default_home end.port).channel ≡ true =
        subst (λ (n : ℕ). same_channel cell.header.channel (default_home (record { 0 = n })).channel ≡ true) same (default_of site.controller cell.header.channel q takes) in
        let none : HoldsNone w.notes.frames cell.mark = holds_none (both_true cell.header.last (same_channel cell.header.channel (default_home end.port).channel) last on) in
        ap ifmp_of (one_payload payload none.payload (sym is ∙ none.made)) ∙ none.no_message

    ends : (taker : Taker) → taker_of site.controller cell.header.channel ≡ Some taker → EndsPassing end.port a cell taker
    ends taker takes first rest payload e passes =
        let is : payload_of w.notes.frames cell.mark ≡ Some payload = made taker takes first rest payload e passes in
        (others.passes taker payload takes is, no_message taker takes payload is)

    left : LeavesAlike end.port a (cell_comes a cell)
    left = cell_alike end.port a cell others.up ends

    now : IsAlikeAt linked (linked_at (cell_comes a cell).controller end.port)
    now = left.left linked shows.of_port

    pub frame_left : Left (Up end.node)
    frame_left = record {
      linked = now.after;
      shows = record {
        site = up_now topology w end.node site shows.there cell cells;
        there = up_site topology w end.node site shows.there cell cells queue;
        of_port = now.there;
        address = ap (λ side. side.own.address) now.alike.adjacency ∙ (shows.address ∙ sym left.address);
      };
      setup = now.setup;
      alike = now.alike;
    }

  -- *Any cell* to the controller
  to_controller : CountsAsItsFrame w (Carry (Up end.node)) → AreForOthers w end (queue_at w (Up end.node)) → HoldNone w end (queue_at w (Up end.node)) → Left (Up end.node)
  to_controller counts others none = by (queue_at w (Up end.node)) refl others none
    where
      left_kept : (queue : List Cell) → queue_at w (Up end.node) ≡ queue → IsKept (Up end.node) queue end.node.0 → Left (Up end.node)
      left_kept queue e is = kept (Up end.node) (subst (λ (q : List Cell). IsKept (Up end.node) q end.node.0) (sym e) is)

      by : (queue : List Cell) → queue_at w (Up end.node) ≡ queue → AreForOthers w end queue → HoldNone w end queue → Left (Up end.node)
      by [] e others none = left_kept [] e tt
      by (cell ∷ cells) e others none = on cell.header.last refl
        where
          on : (b : Bool) → cell.header.last ≡ b → Left (Up end.node)
          on false part = left_kept (cell ∷ cells) e (inr part)
          on true last = frame_left cell cells e last counts none (others last shows.site shows.there)

same_node : (a b : NodeId) → a.0 ≡ b.0 → b ≡ a
same_node a b e = λ i. record { 0 = sym e i }

pub carries_pass_by : CarriesPassBy
carries_pass_by topology w end (Down node) counts others none linked shows = kept topology w end linked shows (Down node) tt
carries_pass_by topology w end (Out node port) counts others none linked shows = kept topology w end linked shows (Out node port) tt
carries_pass_by topology w end (Up node) counts others none linked shows = by_eq node.0 end.node.0
    (λ same t. subst (λ (n : NodeId). CountsAsItsFrame w (Carry (Up n)) → IsLeftAlike linked (next topology w (Carry (Up n))) end) (same_node node end.node same)
    (λ own_counts. to_controller topology w end linked shows own_counts (others same) (none same)) counts)
    (λ differs t. kept_elsewhere topology w end linked shows node differs)

pub carries_for_others_are_unseen : CarriesForOthersAreUnseen
carries_for_others_are_unseen topology w one far place counts others far_others none far_none =
    inr (carries_pass_by topology w one place counts others none, carries_pass_by topology w far place counts far_others far_none)
