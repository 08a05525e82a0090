-- a cell comes to the GSMP channel of a switch

use Rattle.std.proofs.Common.{◌≡◌, ◌≢◌, ℕ, Bool, true, false, List, [], ◌∷◌, ◌++◌, Option, None, Some, refl, sym, ◌∙◌, ap, ap₂, subst, arith, ◌⊎◌, inl, inr, if◌then◌else◌}
use Rattle.std.specs.Prelude.{◌==◌, nat_lt, IsSome}
use Rattle.std.specs.Option.{option_map, option_map_or}
use Rattle.std.proofs.lemmas.Bool.Decides.{nat_tests}
use Rattle.law_cell_lists.specs.world_model.Words.{NodeId, Place, Down, Up, Out, Channel, Cell, Entry, Journal, Reassembly, Tested, tested, stretch_from, Crossbar, gsmp_channel, gsmp_cell, default_channel, same_channel, Topology, IsTopology, World, Site, site_at, with_site, queue_at, on_channel, tallied, put_away, OfController, OfSwitch, reassembly_at, cell_for, arrival, cut_turn}
use Rattle.law_cell_lists.specs.world_model.frame_model.Reassembly.{Taken, taken}
use Rattle.law_cell_lists.specs.world_model.Switch.{ActedSwitch, free_slots}
use Rattle.law_cell_lists.specs.world_model.Conduct.{ends_frame, opened_frame}
use Rattle.law_cell_lists.specs.world_model.network_model.declared.event.Event.{Event}
use Rattle.law_cell_lists.specs.world_model.network_model.declared.event.Event.TheVariants.{Carry}
use Rattle.law_cell_lists.specs.world_model.Stretches.{Reassembler, switch_arrival}
use Rattle.law_cell_lists.proofs.Taking.{Adds, adds_then, adds_others, stretch_after}
use Rattle.law_cell_lists.proofs.Net.{Takes as TakesEnd}
use Rattle.law_cell_lists.proofs.Real.{IsReal, TakesReal, real_takes, real_grown, real_alike, chain_is_stretch}
use Rattle.law_causes.specs.Feeding.{IsLed, branch_at}
use Rattle.law_causes.proofs.Spots.{Spot, same_spot, yields, home, down, channels_are}
use Rattle.law_causes.proofs.Phase.{picked, picked_cases}
use Rattle.law_causes.proofs.Parts.{switch_end, shown, parts_of}
use Rattle.law_causes.proofs.Sites.{site_here}
use Rattle.law_causes.proofs.Turning.{stretch_at, stretches, no_cut, turns_with, turns_without, same_left, taken_ends}
use Rattle.law_causes.proofs.Switching.{world_with, gsmp_end, end_like, cells_like}
use Rattle.law_causes.proofs.Branching.{grown_none}
use Rattle.law_causes.proofs.Held.{Held, opened_held}
use Rattle.law_causes.proofs.Following.{Flows, IsKnown, Known, beside, After, Follows}
use Rattle.law_causes.proofs.Popping.{popped_site, same_key, its_spot, was_first, is_left, others_stay, popped_end}
use Rattle.law_causes.proofs.Losing.{SameTakers, takers_at, reassembly_by_takers, reassembly_from, calm_by, left_world, popped_takers, popped_led, popped_known}
use Rattle.law_causes.proofs.Done.{self_cells, self_end, own_leading, done_world, done_here, done_real, done_controllers, done_switches, done_known, done_leading}
use Rattle.law_causes.proofs.Premises.{IsOrderly}

head_of : (xs : List Cell) (c : Cell) → (y : Cell) × (ys : List Cell) × (xs ++ c ∷ [] ≡ y ∷ ys)
head_of [] c = (c, [], refl)
head_of (x ∷ xs) c = (x, xs ++ c ∷ [], refl)

module _ (t : Topology) (is : IsTopology t) (w : World) (begun : Reassembler → List Cell) (f : Flows t w begun) (k : Known w) (ordered : IsOrderly w)
    (n : NodeId) (site : Site) (found : site_at w n ≡ Some site) (cells : List Cell) (c : Cell) (first : queue_at w (Down n) ≡ c ∷ cells) (gsmp : same_channel c.header.channel gsmp_channel ≡ true) where
  abbrev v : World
  v = put_away w

  abbrev event : Event
  event = Carry (Down n)

  abbrev own : IsKnown site
  own = k n site found

  abbrev pub popped_world : World
  popped_world = left_world t v (Down n) site found own tt (omega arith) cells c first

  abbrev old : Site
  old = popped_site t v (Down n) site found own tt (omega arith) cells

  there : site_at popped_world n ≡ Some old
  there = site_here v n site old found (same_key t v (Down n) site found own tt (omega arith) cells) n refl

  abbrev spot : Spot
  spot = its_spot t v (Down n) site found own tt (omega arith) cells c first

  spot_is : spot ≡ down n default_channel
  spot_is = ap (down n) (channels_are c.header.channel default_channel gsmp)

  abbrev r : Reassembly
  r = site.switch.reassembly

  abbrev x0 : Crossbar
  x0 = site.switch.crossbar

  abbrev start : ActedSwitch
  start = record { switch = old.switch; notes = v.notes; numbers = v.numbers }

  abbrev slot : Bool
  slot = nat_lt 0 (free_slots site.switch)

  abbrev left : Taken
  left = taken v.notes slot r c

  abbrev mine : List Cell
  mine = begun (OfSwitch n)

  own_stretch : stretches begun spot ≡ mine
  own_stretch = ap (λ (b : Bool). if b then begun (OfSwitch n) else []) gsmp

  abbrev now : Spot → List Cell
  now s = picked (same_spot spot s) (stretch_after (stretches begun spot) c) (stretches begun s)

  takes_before : (shown t (parts_of v) spot).end ≡ TakesEnd r
  takes_before = ap (λ (s : Spot). (shown t (parts_of v) s).end) spot_is ∙ ap (λ (o : Option Site). switch_end (option_map (λ (x : Site). x.switch.reassembly) o)) found

  abbrev gathered_world : World
  gathered_world = world_with t is popped_world n old there x0 left.reassembly

  -- what the channel takes
  takes : TakesReal same_spot yields home v.notes (stretches begun) now (shown t (parts_of gathered_world)) spot c left
  takes = real_takes same_spot yields home v.notes slot (stretches begun) now (shown t (parts_of v)) (shown t (parts_of gathered_world)) spot r c (on_channel c.header.channel cells) f.real takes_before
      (was_first t v (Down n) site found own tt (omega arith) cells c first)
      (cells_like t is popped_world n old there x0 x0 r left.reassembly spot refl ∙ self_cells t is popped_world n old there spot ∙ is_left t v (Down n) site found own tt (omega arith) cells c first)
      (ap (λ (s : Spot). (shown t (parts_of gathered_world) s).end) spot_is ∙ gsmp_end t is popped_world n old there x0 left.reassembly)
      (picked_cases (λ (y : List Cell). y ≡ stretch_after (stretches begun spot) c) (same_spot spot spot) _ _ (λ e. refl) (λ d. absurd (d refl)))
      (λ s d. (
        cells_like t is popped_world n old there x0 x0 r left.reassembly s refl ∙ self_cells t is popped_world n old there s ∙ others_stay t v (Down n) site found own tt (omega arith) cells c first s d,
        end_like t is popped_world n old there x0 x0 r left.reassembly s (λ e. refl) (inl (λ e. d (spot_is ∙ sym e))) ∙ self_end t is popped_world n old there s ∙ popped_end t v (Down n) site found own tt (omega arith) cells s,
        picked_cases (λ (y : List Cell). y ≡ stretches begun s) (same_spot spot s) _ _ (λ e. absurd (d e)) (λ _. refl),
      ))

  abbrev all : List Cell
  all = mine ++ c ∷ []

  adds_taken : Adds all v.notes.entries left.notes.entries
  adds_taken = subst (λ (l : List Cell). Adds (l ++ c ∷ []) v.notes.entries left.notes.entries) own_stretch takes.adds

  adds_tested : c.header.last ≡ true → Adds all v.notes.entries (tested v.notes all).notes.entries
  adds_tested last = subst (λ (l : List Cell). Adds (l ++ c ∷ []) v.notes.entries (tested v.notes (l ++ c ∷ [])).notes.entries) own_stretch (takes.tests last)

  fed1 : (m : NodeId) → IsLed (branch_at popped_world m) (queue_at popped_world (Down m))
  fed1 = popped_led t v (Down n) site found own tt (omega arith) cells c first ordered.fed

  abbrev others1 : (m : NodeId) → n.0 ≢ m.0 → IsLed (branch_at popped_world m) (queue_at popped_world (Down m))
  others1 m d = fed1 m

  known1 : Known popped_world
  known1 = popped_known t v (Down n) site found own tt (omega arith) cells c first k

  -- while the switch acts
  abbrev Holds : List Entry → ActedSwitch → Type 0
  Holds entries a = Held t is popped_world n old there others1 now entries left.reassembly a

  abbrev with_notes : Journal → ActedSwitch
  with_notes notes = record start { switch = record old.switch { reassembly = left.reassembly }; notes = notes }

  holds : (notes : Journal) → IsReal same_spot yields home notes.entries now (shown t (parts_of gathered_world)) → Holds notes.entries (with_notes notes)
  holds notes real = record {
    state = real;
    grown = grown_none notes.entries;
    leading = own_leading t is popped_world n old there fed1;
    named = own.switch;
    ports = own.ports;
    queues = own.queues;
    reassembly = refl;
  }

  abbrev pub after_of : ActedSwitch → World
  after_of a = tallied v (record (with_site popped_world (record old { switch = a.switch })) { notes = a.notes; numbers = a.numbers })

  from_v : SameTakers v popped_world
  from_v = popped_takers t v (Down n) site found own tt (omega arith) cells c first

  comes : arrival w event ≡ Some (record { taker = OfSwitch n; cell = c })
  comes = ap (switch_arrival n) first ∙ ap (λ (b : Bool). if b then Some (record { taker = OfSwitch n; cell = c }) else None) gsmp

  self_number : (q : ℕ) → (q == q) ≡ true
  self_number q = grind (arith, nat_tests)

  comes_here : cell_for (OfSwitch n) (arrival w event) ≡ Some c
  comes_here = ap (cell_for (OfSwitch n)) comes ∙ ap (λ (b : Bool). if b then Some c else None) (self_number n.0)

  comes_nowhere : (m : NodeId) → n.0 ≢ m.0 → cell_for (OfSwitch m) (arrival w event) ≡ None
  comes_nowhere m d = ap (cell_for (OfSwitch m)) comes ∙ ap (λ (b : Bool). if b then Some c else None) (not_same n.0 m.0 d)
    where
      not_same : (a b : ℕ) → a ≢ b → (a == b) ≡ false
      not_same a b d = grind (arith, nat_tests, d)

  comes_up : (m : NodeId) (channel : Channel) → cell_for (OfController m channel) (arrival w event) ≡ None
  comes_up m channel = ap (cell_for (OfController m channel)) comes

  found_reassembly : reassembly_at w (OfSwitch n) ≡ Some r
  found_reassembly = ap (option_map (λ (x : Site). x.switch.reassembly)) found

  -- *What follows*, where the switch is put back
  module _ (a : ActedSwitch) (entries : List Entry) (h : Holds entries a) (adds : Adds all w.notes.entries entries) where
    abbrev result : World
    result = after_of a

    same_controllers : (m : NodeId) → takers_at result m ≡ takers_at w m
    same_controllers m = done_controllers t is popped_world n old there a.switch m ∙ from_v.controllers m

    now_gathered : reassembly_at result (OfSwitch n) ≡ Some left.reassembly
    now_gathered = ap (option_map (λ (x : Site). x.switch.reassembly)) (done_here t is popped_world n old there a.switch n refl) ∙ ap Some h.reassembly

    untouched : (taker : Reassembler) → reassembly_at result taker ≡ reassembly_at w taker → cell_for taker (arrival w event) ≡ None → After w begun event result taker ≡ begun taker
    untouched taker same none = ap (stretch_from (begun taker)) (turns_without w result event taker none ∙ ap (cut_turn (reassembly_at w taker)) same) ∙ no_cut (begun taker) (reassembly_at w taker)

    after_controllers : (m : NodeId) (channel : Channel) → After w begun event result (OfController m channel) ≡ begun (OfController m channel)
    after_controllers m channel = untouched (OfController m channel)
        (reassembly_by_takers result m channel ∙ ap (reassembly_from channel) (same_controllers m) ∙ sym (reassembly_by_takers w m channel)) (comes_up m channel)

    after_switches : (m : NodeId) → n.0 ≢ m.0 → After w begun event result (OfSwitch m) ≡ begun (OfSwitch m)
    after_switches m d = untouched (OfSwitch m) (done_switches t is popped_world n old there a.switch m (λ e. absurd (d e)) ∙ from_v.switches m) (comes_nowhere m d)

    after_own : After w begun event result (OfSwitch n) ≡ stretch_after mine c
    after_own = ap (stretch_from mine) (turns_with w result event (OfSwitch n) r c found_reassembly comes_here)
        ∙ ap₂ (λ (x : Reassembly) (y : Option Reassembly). stretch_from (stretch_after mine c) (cut_turn (Some x) y))
        (ap (λ (b : Bool). (taken w.notes b r c).reassembly) (ap (λ (o : Option Site). option_map_or (λ (x : Site). nat_lt 0 (free_slots x.switch)) o false) found) ∙ (same_left w.notes v.notes slot r c).0) now_gathered
        ∙ no_cut (stretch_after mine c) (Some left.reassembly)

    after_spots : (s : Spot) → stretches (After w begun event result) s ≡ now s
    after_spots s = by_spot (same_spot spot s)
      where
        here : stretches (After w begun event result) spot ≡ stretch_after (stretches begun spot) c
        here = ap (λ (b : Bool). if b then After w begun event result (OfSwitch n) else []) gsmp ∙ after_own ∙ sym (ap (λ (l : List Cell). stretch_after l c) own_stretch)

        gsmp_of : (m : NodeId) (v : Bool) → (v ≡ true → n.0 ≢ m.0) → (if v then After w begun event result (OfSwitch m) else []) ≡ (if v then begun (OfSwitch m) else [])
        gsmp_of m true far = after_switches m (far refl)
        gsmp_of m false far = refl

        by_place : spot ≢ s → (place : Place) → s.place ≡ place → stretch_at (After w begun event result) place s.channel ≡ stretch_at begun place s.channel
        by_place d (Up m) at = after_controllers m s.channel
        by_place d (Down m) at = gsmp_of m (same_channel s.channel default_channel) (λ e node. d (spot_is ∙ ap₂ (λ (x : Place) (y : Channel). record { place = x; channel = y })
            (ap (λ (q : ℕ). Down (record { 0 = q })) node ∙ sym at) (sym (channels_are s.channel default_channel e))))
        by_place d (Out m q) at = refl

        by_spot : (d : (spot ≡ s) ⊎ (spot ≢ s)) → stretches (After w begun event result) s ≡ picked d (stretch_after (stretches begun spot) c) (stretches begun s)
        by_spot (inl e) = ap (stretches (After w begun event result)) (sym e) ∙ here
        by_spot (inr d) = by_place d s.place refl

    gathered_follows : Follows t w begun event (after_of a)
    gathered_follows = record {
      flows = record {
        real = real_alike same_spot yields home a.notes.entries now (stretches (After w begun event result)) (shown t (parts_of (done_world t is popped_world n old there a.switch))) (shown t (parts_of result)) (λ s. refl) (λ s. refl) after_spots
            (done_real t is popped_world n old there a.switch a.notes.entries now h.state);
        calm = λ m d at channel e. after_controllers m channel ∙ calm_by w begun result m d at (same_controllers m) (f.calm m) channel e;
      };
      adds = beside (OfSwitch n) c comes_here (subst IsSome (sym found_reassembly) refl)
          (adds_then all w.notes.entries entries a.notes.entries adds (subst (Adds all entries) (sym h.grown.is) (adds_others all entries h.grown.more h.grown.others)));
      known = done_known t is popped_world n old there a.switch known1 (record { controller = own.controller; switch = h.named; ports = h.ports; queues = h.queues });
    }

  pub gathers : IsOrderly (after_of (gsmp_cell start c)) → Follows t w begun event (after_of (gsmp_cell start c))
  gathers = by (taken_ends v.notes slot r c)
    where
      by : (left.ended ≡ []) ⊎ ((left.ended ≡ r.chain ++ c ∷ []) × ((left.notes ≡ v.notes) × ((c.header.last ≡ true) × (r.is_skipping ≡ false)))) → IsOrderly (after_of (gsmp_cell start c)) → Follows t w begun event (after_of (gsmp_cell start c))
      by (inl none) = subst (λ (a : ActedSwitch). IsOrderly (after_of a) → Follows t w begun event (after_of a)) (sym (ap (ends_frame (with_notes left.notes)) none))
          (λ orderly. gathered_follows (with_notes left.notes) left.notes.entries (holds left.notes takes.real) adds_taken)
      by (inr e) =
          let hd = head_of mine c in
          let chain : r.chain ≡ mine = chain_is_stretch same_spot yields home v.notes.entries (stretches begun) (shown t (parts_of v)) spot r f.real takes_before e.1.1.1 ∙ own_stretch in
          let whole : left.ended ≡ hd.0 ∷ hd.1 = e.0 ∙ ap (λ (l : List Cell). l ++ c ∷ []) chain ∙ hd.2 in
          let test : Tested = tested v.notes all in
          let at_notes : IsReal same_spot yields home v.notes.entries now (shown t (parts_of gathered_world)) = subst (λ (j : Journal). IsReal same_spot yields home j.entries now (shown t (parts_of gathered_world))) e.1.0 takes.real in
          let adds : Adds all v.notes.entries test.notes.entries = adds_tested e.1.1.0 in
          let held : Holds test.notes.entries (with_notes test.notes) = holds test.notes (real_grown same_spot yields home v.notes.entries test.notes.entries now (shown t (parts_of gathered_world)) (record { more = adds.more; is = adds.is }) at_notes) in
          let acts : ActedSwitch = opened_frame (with_notes test.notes) test.payload in
          let path : gsmp_cell start c ≡ acts =
          ap₂ (λ (j : Journal) (l : List Cell). ends_frame (with_notes j) l) e.1.0 whole
          ∙ ap (λ (l : List Cell). opened_frame (with_notes (tested v.notes l).notes) (tested v.notes l).payload) (sym hd.2) in
          subst (λ (a : ActedSwitch). IsOrderly (after_of a) → Follows t w begun event (after_of a)) (sym path)
          (λ orderly. gathered_follows acts test.notes.entries
          (opened_held t is popped_world n old there others1 now test.notes.entries left.reassembly (with_notes test.notes) held test.payload (done_leading t is popped_world n old there acts.switch orderly.fed)) adds)
