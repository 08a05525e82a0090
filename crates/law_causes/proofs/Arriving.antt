-- a cell comes to a controller

use Rattle.std.proofs.Common.{◌≡◌, ◌≢◌, ℕ, Bool, true, false, List, [], ◌∷◌, ◌++◌, Option, None, Some, refl, sym, ◌∙◌, ap, ap₂, subst, arith, ◌⊎◌, inl, inr, if◌then◌else◌}
use Rattle.std.specs.Prelude.{◌==◌, ◌&&◌, nat_lt, IsSome, is_some}
use Rattle.std.specs.Option.{option_map, option_map_or, option_and_then}
use Rattle.std.proofs.lemmas.Bool.Decides.{nat_tests}
use Rattle.law_cell_lists.specs.world_model.Words.{NodeId, Place, Down, Up, Out, Channel, Cell, Entry, Unbound, Loss, Journal, noted, Reassembly, nothing_taken, Tested, tested, last_mark, stretch_from, Controller, default_channel, ForGsmp, ForDefault, ForLabel, same_channel, taker_of, reassembly_of, with_reassembly, takes_cell, Topology, IsTopology, World, Site, site_key, site_at, with_site, queue_at, on_channel, tallied, put_away, OfController, OfSwitch, same_reassembler, reassembly_at, cell_for, arrival, cut_turn}
use Rattle.law_cell_lists.specs.world_model.frame_model.Reassembly.{Taken, taken}
use Rattle.law_cell_lists.specs.world_model.Controller.{Acted, free_slots}
use Rattle.law_cell_lists.specs.world_model.Cells as cells_of
use Rattle.law_cell_lists.specs.world_model.Cells.{opened_frame, after_test, ends_frame, after_cell, cell_comes}
use Rattle.law_cell_lists.specs.world_model.network_model.declared.event.Event.{Event}
use Rattle.law_cell_lists.specs.world_model.network_model.declared.event.Event.TheVariants.{Carry}
use Rattle.law_cell_lists.specs.world_model.Stretches.{Reassembler, controller_arrival}
use Rattle.law_controller_bindings.proofs.law_port_facts.Keyed.{by_eq}
use Rattle.law_cell_lists.proofs.Taking.{Adds, adds_then, adds_others, stretch_after}
use Rattle.law_cell_lists.proofs.Net.{Takes as TakesEnd}
use Rattle.law_cell_lists.proofs.Real.{AreApart, IsReal, TakesReal, real_takes, real_grown, real_alike, chain_is_stretch, no_stretch}
use Rattle.law_causes.specs.Feeding.{IsLed, branch_at}
use Rattle.law_causes.proofs.Rules.{IsNamed, opened_frame_kept}
use Rattle.law_causes.proofs.Spots.{Spot, same_spot, yields, home, up, channels_apart, channel_self}
use Rattle.law_causes.proofs.Ends.{has_cells, chain_in, open_in, end_for, nothing_is, taken_chain}
use Rattle.law_causes.proofs.Phase.{Seen, seen, seen_cells, seen_end, up_here, picked, picked_cases, Phase, phase_kept}
use Rattle.law_causes.proofs.Branching.{grown_none}
use Rattle.law_causes.proofs.Parts.{takers_of, controller_end, shown, shown_apart, parts_of}
use Rattle.law_causes.proofs.Sites.{site_here, site_away, site_like}
use Rattle.law_causes.proofs.Turning.{stretch_at, stretches, if_open, reassembly_is, cut_or_not, no_cut, turns_with, turns_without, turns_untaken, same_left, taken_ends}
use Rattle.law_causes.proofs.Acting.{acted_world, Leaves, leaves}
use Rattle.law_causes.proofs.Following.{Flows, IsKnown, Known, beside, After, Follows, site_node, controller_is, self_cells, self_end}
use Rattle.law_causes.proofs.Popping.{popped_site, same_key, its_spot, was_first, is_left, others_stay, popped_end}
use Rattle.law_causes.proofs.Losing.{SameTakers, same_reassembly, calm_by, follows_alike, untaken, left_world, popped_takers, popped_led, popped_known, lost_real}
use Rattle.law_causes.proofs.Done.{before_real, done_real, done_controllers, done_switches, done_known}
use Rattle.law_causes.proofs.PutBack.{PutBack, put_back}
use Rattle.law_causes.proofs.Premises.{IsOrderly}

head_of : (xs : List Cell) (c : Cell) → (y : Cell) × (ys : List Cell) × (xs ++ c ∷ [] ≡ y ∷ ys)
head_of [] c = (c, [], refl)
head_of (x ∷ xs) c = (x, xs ++ c ∷ [], refl)

notes_stay : (a : Acted) (taker : cells_of.Taker) (x : Reassembly) → ◌≡◌ {A = Acted} (record (with_reassembly a taker x) { notes = a.notes }) (with_reassembly a taker x)
notes_stay a ForGsmp x = refl
notes_stay a (ForDefault linked) x = refl
notes_stay a (ForLabel linked label) x = refl

module _ (t : Topology) (is : IsTopology t) (w : World) (begun : Reassembler → List Cell) (f : Flows t w begun) (k : Known w) (ordered : IsOrderly w)
    (n : NodeId) (site : Site) (found : site_at w n ≡ Some site) (cells : List Cell) (c : Cell) (first : queue_at w (Up n) ≡ c ∷ cells) where
  abbrev v : World
  v = put_away w

  abbrev event : Event
  event = Carry (Up n)

  abbrev own : IsKnown site
  own = k n site found

  abbrev pub popped_world : World
  popped_world = left_world t v (Up n) site found own tt (omega arith) cells c first

  abbrev old : Site
  old = popped_site t v (Up n) site found own tt (omega arith) cells

  there : site_at popped_world n ≡ Some old
  there = site_here v n site old found (same_key t v (Up n) site found own tt (omega arith) cells) n refl

  abbrev channel : Channel
  channel = c.header.channel

  abbrev spot : Spot
  spot = its_spot t v (Up n) site found own tt (omega arith) cells c first

  abbrev ctl : Controller
  ctl = site.controller

  abbrev start : Acted
  start = record { controller = site.controller; notes = v.notes; numbers = v.numbers }

  abbrev pub after_of : Acted → World
  after_of a = tallied v (record (with_site popped_world (record old { controller = a.controller })) { notes = a.notes; numbers = a.numbers })

  from_v : SameTakers v popped_world
  from_v = popped_takers t v (Up n) site found own tt (omega arith) cells c first

  known1 : Known popped_world
  known1 = popped_known t v (Up n) site found own tt (omega arith) cells c first k

  fed1 : (m : NodeId) → IsLed (branch_at popped_world m) (queue_at popped_world (Down m))
  fed1 = popped_led t v (Up n) site found own tt (omega arith) cells c first ordered.fed

  comes : arrival w event ≡ Some (record { taker = OfController n channel; cell = c })
  comes = ap (controller_arrival n) first

  comes_if : (taker : Reassembler) → cell_for taker (arrival w event) ≡ (if same_reassembler (OfController n channel) taker then Some c else None)
  comes_if taker = ap (cell_for taker) comes

  self_number : (q : ℕ) → (q == q) ≡ true
  self_number q = grind (arith, nat_tests)

  not_same : (a b : ℕ) → a ≢ b → (a == b) ≡ false
  not_same a b d = grind (arith, nat_tests, d)

  comes_here : cell_for (OfController n channel) (arrival w event) ≡ Some c
  comes_here = comes_if (OfController n channel) ∙ ap (λ (b : Bool). if b then Some c else None) (ap₂ (λ (x y : Bool). x && y) (self_number n.0) (channel_self channel))

  comes_node : (m : NodeId) (d : Channel) → n.0 ≢ m.0 → cell_for (OfController m d) (arrival w event) ≡ None
  comes_node m d far = comes_if (OfController m d) ∙ ap (λ (b : Bool). if b && same_channel channel d then Some c else None) (not_same n.0 m.0 far)

  comes_channel : (d : Channel) → channel ≢ d → cell_for (OfController n d) (arrival w event) ≡ None
  comes_channel d far = comes_if (OfController n d) ∙ ap₂ (λ (x y : Bool). if x && y then Some c else None) (self_number n.0) (channels_apart channel d far)

  comes_switch : (m : NodeId) → cell_for (OfSwitch m) (arrival w event) ≡ None
  comes_switch m = comes_if (OfSwitch m)

  -- *Nobody takes it*
  pub unbound_follows : taker_of ctl channel ≡ None → Follows t w begun event (after_of (record start { notes = noted v.notes (Loss c.mark Unbound) }))
  unbound_follows nobody =
      let a : Acted = record start { notes = noted v.notes (Loss c.mark Unbound) } in
      let after : World = after_of a in
      let takers : SameTakers w after = record {
        controllers = λ m. done_controllers t is popped_world n old there old.switch m ∙ from_v.controllers m;
        switches = λ m. done_switches t is popped_world n old there old.switch m (λ e. refl) ∙ from_v.switches m;
      } in
      follows_alike t w after begun event takers (stays takers)
      (done_real t is popped_world n old there old.switch a.notes.entries (stretches begun) (before_real t is popped_world n old there a.notes.entries (stretches begun)
      (lost_real t v (Up n) site found own tt (omega arith) cells c first v.notes.entries Unbound (stretches begun) refl f.real)))
      f (record { more = record { mark = c.mark; cause = Unbound } ∷ []; is = refl; others = (λ e. cc e, tt) })
      (done_known t is popped_world n old there old.switch known1 (known1 n old there))
    where
      stays : SameTakers w (after_of (record start { notes = noted v.notes (Loss c.mark Unbound) })) → (taker : Reassembler) → After w begun event (after_of (record start { notes = noted v.notes (Loss c.mark Unbound) })) taker ≡ begun taker
      stays takers (OfSwitch m) = untaken w _ begun event takers (OfSwitch m) (comes_switch m)
      stays takers (OfController m d) = by_eq n.0 m.0
          (λ node u. elim (same_spot (up n channel) (up n d)) [
            | inl e ↦ (
                let after : World = after_of (record start { notes = noted v.notes (Loss c.mark Unbound) }) in
                let d_is : channel ≡ d = ap (λ (s : Spot). s.channel) e in
                let none : reassembly_at w (OfController m d) ≡ None =
                ap₂ (λ (q : ℕ) (x : Channel). reassembly_at w (OfController (record { 0 = q }) x)) (sym node) (sym d_is)
                ∙ ap (λ (o : Option Controller). option_and_then (λ (x : Controller). option_map (reassembly_of x) (taker_of x channel)) o) (controller_is w n site found) ∙ ap (option_map (reassembly_of ctl)) nobody in
                ap (stretch_from (begun (OfController m d))) (turns_untaken w after event (OfController m d) none ∙ ap (cut_turn None) (same_reassembly w after takers (OfController m d) ∙ none)) ∙ no_cut (begun (OfController m d)) None)
            | inr far ↦ untaken w _ begun event takers (OfController m d)
                (ap (λ (q : ℕ). cell_for (OfController (record { 0 = q }) d) (arrival w event)) (sym node) ∙ comes_channel d (λ e. far (ap (up n) e)))
          ])
          (λ far u. untaken w _ begun event takers (OfController m d) (comes_node m d far))

  -- *A channel takes it*
  module _ (taker : cells_of.Taker) (takes_it : taker_of ctl channel ≡ Some taker) where
    abbrev r : Reassembly
    r = reassembly_of ctl taker

    r_is : r ≡ chain_in ctl.reassembly ctl.ports channel
    r_is = taken_chain ctl channel taker takes_it

    is_taken : open_in ctl.ports channel ≡ true
    is_taken = ap is_some takes_it

    abbrev slot : Bool
    slot = nat_lt 0 (free_slots ctl)

    abbrev left : Taken
    left = taken v.notes slot r c

    abbrev with_left : Acted
    with_left = with_reassembly (record start { notes = left.notes }) taker left.reassembly

    put : PutBack ctl channel left.reassembly with_left.controller
    put = put_back (record start { notes = left.notes }) channel left.reassembly taker takes_it

    abbrev ctl1 : Controller
    ctl1 = with_left.controller

    abbrev base : Spot → Seen
    base = shown t (parts_of popped_world)

    abbrev seen1 : Spot → Seen
    seen1 = seen n base ctl1.queue ctl1.reassembly ctl1.ports

    abbrev mine : List Cell
    mine = begun (OfController n channel)

    abbrev now : Spot → List Cell
    now s = picked (same_spot spot s) (stretch_after mine c) (stretches begun s)

    abbrev chains1 : Channel → Reassembly
    chains1 d = chain_in ctl1.reassembly ctl1.ports d

    takes_before : (shown t (parts_of v) spot).end ≡ TakesEnd r
    takes_before = ap (λ (o : Option Site). controller_end (option_map takers_of (option_map (λ (x : Site). x.controller) o)) channel) found ∙ ap₂ end_for is_taken (sym r_is)

    pub apart1 : AreApart same_spot yields home base
    apart1 = shown_apart t is (parts_of popped_world) fed1

    -- what is seen of each list but its own
    cells_as : (s : Spot) → (seen1 s).cells ≡ (base s).cells
    cells_as s = seen_cells n base now chains1 v.notes.entries apart1 s ctl.queue ctl1.queue ctl.reassembly ctl1.reassembly ctl.ports ctl1.ports (λ e. ap (on_channel s.channel) put.queue) ∙ self_cells t popped_world n old there s

    end_as : (s : Spot) → spot ≢ s → (seen1 s).end ≡ (base s).end
    end_as s d = seen_end n base now chains1 v.notes.entries apart1 s ctl.queue ctl1.queue ctl.reassembly ctl1.reassembly ctl.ports ctl1.ports
        (λ e. ap₂ end_for (put.taken s.channel) (put.away s.channel (λ x. d (ap₂ (λ (p : Place) (y : Channel). record { place = p; channel = y }) (sym e) x)))) ∙ self_end t popped_world n old there s

    now_end : (seen1 spot).end ≡ TakesEnd left.reassembly
    now_end = up_here n base now chains1 v.notes.entries apart1 ctl1.queue ctl1.reassembly ctl1.ports channel ∙ ap₂ end_for (put.taken channel ∙ is_taken) put.here

    takes : TakesReal same_spot yields home v.notes (stretches begun) now seen1 spot c left
    takes = real_takes same_spot yields home v.notes slot (stretches begun) now (shown t (parts_of v)) seen1 spot r c (on_channel channel cells) f.real takes_before
        (was_first t v (Up n) site found own tt (omega arith) cells c first)
        (cells_as spot ∙ is_left t v (Up n) site found own tt (omega arith) cells c first) now_end
        (picked_cases (λ (y : List Cell). y ≡ stretch_after mine c) (same_spot spot spot) _ _ (λ e. refl) (λ d. absurd (d refl)))
        (λ s d. (
          cells_as s ∙ others_stay t v (Up n) site found own tt (omega arith) cells c first s d,
          end_as s d ∙ popped_end t v (Up n) site found own tt (omega arith) cells s,
          picked_cases (λ (y : List Cell). y ≡ stretches begun s) (same_spot spot s) _ _ (λ e. absurd (d e)) (λ _. refl),
        ))

    abbrev all : List Cell
    all = mine ++ c ∷ []

    now_here : now spot ≡ stretch_after mine c
    now_here = picked_cases (λ (y : List Cell). y ≡ stretch_after mine c) (same_spot spot spot) _ _ (λ e. refl) (λ d. absurd (d refl))

    now_there : (d : Channel) → channel ≢ d → now (up n d) ≡ begun (OfController n d)
    now_there d far = picked_cases (λ (y : List Cell). y ≡ begun (OfController n d)) (same_spot spot (up n d)) _ _ (λ e. absurd (far (ap (λ (s : Spot). s.channel) e))) (λ _. refl)

    -- a channel that has made nothing of its cells has no stretch
    none_now : (entries : List Entry) → IsReal same_spot yields home entries now seen1 → (d : Channel) → has_cells (chains1 d) ≡ false → now (up n d) ≡ []
    none_now entries real d e = elim (same_spot spot (up n d)) [
      | inl at ↦ (
          let d_is : channel ≡ d = ap (λ (s : Spot). s.channel) at in
          let nothing : left.reassembly ≡ nothing_taken = nothing_is left.reassembly (ap has_cells (sym put.here ∙ ap chains1 d_is) ∙ e) in
          ap now (sym at) ∙ no_stretch same_spot yields home entries now seen1 spot real (now_end ∙ ap TakesEnd nothing))
      | inr far ↦ now_there d (λ x. far (ap (up n) x)) ∙ f.calm n ctl (controller_is w n site found) d (ap has_cells (sym (put.away d (λ x. far (ap (up n) x)))) ∙ e)
    ]

    -- while the controller acts
    abbrev Goes : List Entry → Acted → Type 0
    Goes entries a = Phase n base now chains1 entries apart1 a

    begins_at : (notes : Journal) → IsReal same_spot yields home notes.entries now seen1 → Goes notes.entries (record with_left { notes = notes })
    begins_at notes real = record {
      core = record {
        state = inl (record { stretches = now; real = real; since = λ d. inl (refl, refl); rest = λ s away. refl; none = none_now notes.entries real });
        grown = grown_none notes.entries;
      };
      named = subst IsNamed (sym put.adjacency) own.controller;
      node = put.node ∙ site_node w n site found;
    }

    -- *What follows*, where the controller is put back
    module _ (a : Acted) (entries : List Entry) (phase : Goes entries a) (adds : Adds all w.notes.entries entries) (orderly : IsOrderly (after_of a)) where
      abbrev result : World
      result = after_of a

      abbrev new_site : Site
      new_site = record old { controller = a.controller }

      key : site_key new_site ≡ n.0
      key = ap (λ (x : NodeId). x.0) phase.node

      here_after : (m : NodeId) → n.0 ≡ m.0 → site_at result m ≡ Some new_site
      here_after m e = site_here popped_world n old new_site there key m e

      away_after : (m : NodeId) → n.0 ≢ m.0 → site_at result m ≡ site_at popped_world m
      away_after m d = site_away popped_world n old new_site there key m d

      gone : Leaves t is popped_world n old there now chains1 entries apart1 a
      gone = leaves t is popped_world n old there now chains1 entries apart1 a phase orderly.fed

      untouched : (taker : Reassembler) → reassembly_at result taker ≡ reassembly_at w taker → cell_for taker (arrival w event) ≡ None → After w begun event result taker ≡ begun taker
      untouched taker same none = ap (stretch_from (begun taker)) (turns_without w result event taker none ∙ ap (cut_turn (reassembly_at w taker)) same) ∙ no_cut (begun taker) (reassembly_at w taker)

      switches : (m : NodeId) → After w begun event result (OfSwitch m) ≡ begun (OfSwitch m)
      switches m = untouched (OfSwitch m) (site_like popped_world n old new_site there key (λ (o : Option Site). option_map (λ (s : Site). s.switch.reassembly) o) m (λ e. refl) ∙ from_v.switches m) (comes_switch m)

      elsewhere : (m : NodeId) (d : Channel) → n.0 ≢ m.0 → After w begun event result (OfController m d) ≡ begun (OfController m d)
      elsewhere m d far = untouched (OfController m d)
          (ap (λ (o : Option Site). option_and_then (λ (x : Controller). option_map (reassembly_of x) (taker_of x d)) (option_map (λ (s : Site). s.controller) o)) (away_after m far)
          ∙ same_reassembly v popped_world from_v (OfController m d)) (comes_node m d far)

      now_is : (d : Channel) → reassembly_at result (OfController n d) ≡ if_open (open_in a.controller.ports d) (chain_in a.controller.reassembly a.controller.ports d)
      now_is d = reassembly_is result n a.controller d (controller_is result n new_site (here_after n refl))

      opened_after : (d : Channel) → has_cells (chain_in a.controller.reassembly a.controller.ports d) ≡ true → open_in a.controller.ports d ≡ true
      opened_after d = orderly.taken n a.controller (controller_is result n new_site (here_after n refl)) d

      takes_w : reassembly_at w (OfController n channel) ≡ Some r
      takes_w = reassembly_is w n ctl channel (controller_is w n site found) ∙ ap₂ if_open is_taken (sym r_is)

      own_turn : gone.stretches (up n channel) ≡ After w begun event result (OfController n channel)
      own_turn = cut_or_not (stretch_after mine c) (gone.stretches (up n channel)) left.reassembly (chain_in a.controller.reassembly a.controller.ports channel) true (open_in a.controller.ports channel) (λ e. refl) (opened_after channel)
          (λ e. sym now_here ∙ none_now left.notes.entries takes.real channel (ap has_cells put.here ∙ e))
          (elim (gone.since channel) [ inl both ↦ inl (both.0 ∙ now_here, both.1 ∙ put.here) | inr both ↦ inr both ])
          ∙ sym (ap (stretch_from mine) (turns_with w result event (OfController n channel) r c takes_w comes_here)
          ∙ ap₂ (λ (x : Reassembly) (y : Option Reassembly). stretch_from (stretch_after mine c) (cut_turn (Some x) y))
          (ap (λ (b : Bool). (taken w.notes b r c).reassembly) (ap (λ (o : Option Controller). option_map_or (λ (x : Controller). nat_lt 0 (free_slots x)) o false) (controller_is w n site found)) ∙ (same_left w.notes v.notes slot r c).0)
          (now_is channel))

      other_turn : (d : Channel) → channel ≢ d → gone.stretches (up n d) ≡ After w begun event result (OfController n d)
      other_turn d far = cut_or_not (begun (OfController n d)) (gone.stretches (up n d)) (chain_in ctl.reassembly ctl.ports d) (chain_in a.controller.reassembly a.controller.ports d) (open_in ctl.ports d) (open_in a.controller.ports d)
          (ordered.taken n ctl (controller_is w n site found) d) (opened_after d) (f.calm n ctl (controller_is w n site found) d)
          (elim (gone.since d) [ inl both ↦ inl (both.0 ∙ now_there d far, both.1 ∙ put.away d far) | inr both ↦ inr both ])
          ∙ sym (ap (stretch_from (begun (OfController n d))) (turns_without w result event (OfController n d) (comes_channel d far)
          ∙ ap₂ cut_turn (reassembly_is w n ctl d (controller_is w n site found)) (now_is d)))

      any_turn : (d : Channel) → gone.stretches (up n d) ≡ After w begun event result (OfController n d)
      any_turn d = elim (same_spot (up n channel) (up n d)) [
        | inl e ↦ subst (λ (s : Spot). gone.stretches (up n s.channel) ≡ After w begun event result (OfController n s.channel)) e own_turn
        | inr far ↦ other_turn d (λ x. far (ap (up n) x))
      ]

      same_node : (m : NodeId) → n.0 ≡ m.0 → n ≡ m
      same_node m e = ap (λ (x : ℕ). record { 0 = x }) e

      after_spots : (s : Spot) → stretches (After w begun event result) s ≡ gone.stretches s
      after_spots s = by s.place refl
        where
          kept : s.place ≢ Up n → gone.stretches s ≡ stretches begun s
          kept away = gone.rest s away ∙ picked_cases (λ (y : List Cell). y ≡ stretches begun s) (same_spot spot s) _ _ (λ e. absurd (away (ap (λ (z : Spot). z.place) (sym e)))) (λ _. refl)

          gsmp : (m : NodeId) (z : Bool) → (if z then After w begun event result (OfSwitch m) else []) ≡ (if z then begun (OfSwitch m) else [])
          gsmp m true = switches m
          gsmp m false = refl

          by : (place : Place) → s.place ≡ place → stretch_at (After w begun event result) place s.channel ≡ gone.stretches s
          by (Up m) at = by_eq n.0 m.0
              (λ e u. ap (λ (x : NodeId). After w begun event result (OfController x s.channel)) (sym (same_node m e)) ∙ sym (any_turn s.channel)
              ∙ ap gone.stretches (ap (λ (x : Place). record { place = x; channel = s.channel }) (ap (λ (x : NodeId). Up x) (same_node m e) ∙ sym at)))
              (λ far u. elsewhere m s.channel far ∙ ap (λ (x : Place). stretch_at begun x s.channel) (sym at)
              ∙ sym (kept (λ e. (let both : Up m ≡ Up n = sym at ∙ e in let node : m ≡ n = cc in far (ap (λ (x : NodeId). x.0) (sym node))))))
          by (Down m) at = gsmp m (same_channel s.channel default_channel) ∙ ap (λ (x : Place). stretch_at begun x s.channel) (sym at) ∙ sym (kept (λ e. (let clash : Down m ≡ Up n = sym at ∙ e in cc clash)))
          by (Out m p) at = ap (λ (x : Place). stretch_at begun x s.channel) (sym at) ∙ sym (kept (λ e. (let clash : Out m p ≡ Up n = sym at ∙ e in cc clash)))

      pub arrived_follows : Follows t w begun event (after_of a)
      arrived_follows = record {
        flows = record {
          real = real_alike same_spot yields home a.notes.entries gone.stretches (stretches (After w begun event result)) (shown t (parts_of (acted_world t is popped_world n old there now chains1 entries apart1 a))) (shown t (parts_of result))
              (λ s. refl) (λ s. refl) after_spots gone.real;
          calm = λ m d at e_channel e. by_eq n.0 m.0
              (λ h u. (let both : Some d ≡ Some a.controller = sym at ∙ controller_is result m new_site (here_after m h) in let same : d ≡ a.controller = cc in
              ap (λ (x : NodeId). After w begun event result (OfController x e_channel)) (sym (same_node m h)) ∙ sym (any_turn e_channel)
              ∙ gone.none e_channel (ap (λ (x : Controller). has_cells (chain_in x.reassembly x.ports e_channel)) (sym same) ∙ e)))
              (λ far u. elsewhere m e_channel far ∙ calm_by w begun popped_world m d (sym (ap (option_map (λ (s : Site). s.controller)) (away_after m far)) ∙ at) (from_v.controllers m) (f.calm m) e_channel e);
        };
        adds = beside (OfController n channel) c comes_here (subst IsSome (sym takes_w) refl)
            (adds_then all w.notes.entries entries a.notes.entries adds (subst (Adds all entries) (sym phase.core.grown.is) (adds_others all entries phase.core.grown.more phase.core.grown.others)));
        known = λ m x at. by_eq n.0 m.0
            (λ h u. (let both : Some new_site ≡ Some x = sym (here_after m h) ∙ at in let same : new_site ≡ x = cc in
            subst IsKnown same (record { controller = phase.named; switch = own.switch; ports = own.ports; queues = (known1 n old there).queues })))
            (λ far u. known1 m x (sym (away_after m far) ∙ at));
      }

    pub arrives : IsOrderly (after_of (after_cell start taker left)) → Follows t w begun event (after_of (after_cell start taker left))
    arrives = by (taken_ends v.notes slot r c)
      where
        by : (left.ended ≡ []) ⊎ ((left.ended ≡ r.chain ++ c ∷ []) × ((left.notes ≡ v.notes) × ((c.header.last ≡ true) × (r.is_skipping ≡ false))))
            → IsOrderly (after_of (after_cell start taker left)) → Follows t w begun event (after_of (after_cell start taker left))
        by (inl none) = subst (λ (a : Acted). IsOrderly (after_of a) → Follows t w begun event (after_of a)) (sym (ap (ends_frame with_left taker) none ∙ sym (notes_stay (record start { notes = left.notes }) taker left.reassembly)))
            (λ orderly. arrived_follows (record with_left { notes = left.notes }) left.notes.entries (begins_at left.notes takes.real) takes.adds orderly)
        by (inr e) =
            let hd = head_of mine c in
            let chain : r.chain ≡ mine = chain_is_stretch same_spot yields home v.notes.entries (stretches begun) (shown t (parts_of v)) spot r f.real takes_before e.1.1.1 in
            let whole : left.ended ≡ hd.0 ∷ hd.1 = e.0 ∙ ap (λ (l : List Cell). l ++ c ∷ []) chain ∙ hd.2 in
            let test : Tested = tested v.notes all in
            let at_notes : IsReal same_spot yields home v.notes.entries now seen1 = subst (λ (j : Journal). IsReal same_spot yields home j.entries now seen1) e.1.0 takes.real in
            let adds : Adds all v.notes.entries test.notes.entries = takes.tests e.1.1.0 in
            let acts : Acted = opened_frame (record with_left { notes = test.notes }) taker (last_mark all) test.payload in
            let noted_left : (record with_left { notes = left.notes }) ≡ with_left = notes_stay (record start { notes = left.notes }) taker left.reassembly in
            let path : after_cell start taker left ≡ acts =
            ap₂ (λ (b : Acted) (l : List Cell). ends_frame b taker l) (sym noted_left ∙ ap (λ (j : Journal). record with_left { notes = j }) e.1.0) whole
            ∙ ap (λ (l : List Cell). opened_frame (record with_left { notes = (tested v.notes l).notes }) taker (last_mark l) (tested v.notes l).payload) (sym hd.2) in
            subst (λ (a : Acted). IsOrderly (after_of a) → Follows t w begun event (after_of a)) (sym path)
            (λ orderly. arrived_follows acts test.notes.entries
            (opened_frame_kept (Goes test.notes.entries) (phase_kept n base now chains1 test.notes.entries apart1) (record with_left { notes = test.notes }) taker (last_mark all) test.payload
            (begins_at test.notes (real_grown same_spot yields home v.notes.entries test.notes.entries now seen1 (record { more = adds.more; is = adds.is }) at_notes))) adds orderly)

  pub comes_follows : IsOrderly (after_of (cell_comes start c)) → Follows t w begun event (after_of (cell_comes start c))
  comes_follows = by (taker_of ctl channel) refl
    where
      by : (o : Option cells_of.Taker) → taker_of ctl channel ≡ o → IsOrderly (after_of (takes_cell start c o)) → Follows t w begun event (after_of (takes_cell start c o))
      by None nobody orderly = unbound_follows nobody
      by (Some taker) takes orderly = arrives taker takes orderly
