-- a switch ticks, or restarts

use Rattle.std.proofs.Common.{◌≡◌, ◌≢◌, ℕ, suc, Bool, true, false, List, [], ◌∷◌, length, map, Option, None, Some, refl, sym, ◌∙◌, ap, ap₂, subst, arith, ◌⊎◌, inl, inr, if◌then◌else◌}
use Rattle.std.specs.Option.{option_map}
use Rattle.std.specs.FinMap.{keys}
use Rattle.law_cell_lists.specs.world_model.Words.{NodeId, Place, Down, Up, Out, Channel, Instance, next_instance, Cell, ticked, Entry, Journal, Reassembly, nothing_taken, cut, stretch_from, Crossbar, Changed, all_ended, tick_comes, restarted, default_channel, same_channel, Topology, IsTopology, World, Site, site_at, with_site, queue_at, tallied, put_away, OfController, OfSwitch, reassembly_at, cell_for, arrival, cut_turn, Broken, Cut}
use Rattle.law_cell_lists.specs.world_model.switch_model.declared.port.PortState.{PortState}
use Rattle.law_cell_lists.specs.world_model.Switch.{ActedSwitch, begun as begun_port}
use Rattle.law_cell_lists.specs.world_model.network_model.declared.event.Event.{Event}
use Rattle.law_cell_lists.specs.world_model.Stretches.{Reassembler}
use Rattle.law_controller_bindings.specs.ordered_lists.Ordered.{Every}
use Rattle.law_controller_bindings.proofs.ordered_lists.Every.{every_map}
use Rattle.law_cell_lists.proofs.Taking.{cut_grows}
use Rattle.law_cell_lists.proofs.Net.{Takes}
use Rattle.law_cell_lists.proofs.Real.{IsReal, real_cuts, real_alike, no_stretch}
use Rattle.law_causes.specs.Feeding.{IsLed, branch_at}
use Rattle.law_causes.proofs.Rules.{ticked_named}
use Rattle.law_causes.proofs.Spots.{Spot, same_spot, yields, home, down, channels_are}
use Rattle.law_causes.proofs.Ends.{nothing_is}
use Rattle.law_causes.proofs.Phase.{picked, picked_cases, GrownBy, grown_by}
use Rattle.law_causes.proofs.Parts.{switch_end, shown, parts_of}
use Rattle.law_causes.proofs.Turning.{stretch_at, stretches, cut_or_not, no_cut, turns_without}
use Rattle.law_causes.proofs.Switching.{world_with, gsmp_end, end_like, cells_like}
use Rattle.law_causes.proofs.Branching.{Changes, grown_none, ends_all}
use Rattle.law_causes.proofs.Held.{Held, steps_held}
use Rattle.law_causes.proofs.Following.{Flows, IsKnown, Known, quiet, After, Follows}
use Rattle.law_causes.proofs.Losing.{SameTakers, takers_at, reassembly_by_takers, reassembly_from, calm_by, follows_alike, untaken}
use Rattle.law_causes.proofs.Done.{before_real, own_leading, done_world, done_here, done_real, done_controllers, done_switches, done_known}
use Rattle.law_causes.proofs.Premises.{IsOrderly}

cut_grown : (old : List Entry) (notes : Journal) (r : Reassembly) → GrownBy old notes.entries → GrownBy old (cut notes r).entries
cut_grown old notes r g = subst (GrownBy old) (sym (cut_grows notes r).1) (grown_by old notes.entries (cut_grows notes r).0 g (others (cut_grows notes r).0 (cut_grows notes r).2))
  where
    others : (more : List Entry) → Every (λ (e : Entry). e.cause ≡ Cut) more → Every (λ (e : Entry). e.cause ≢ Broken) more
    others more all = every_map (λ (e : Entry). e.cause ≡ Cut) (λ (e : Entry). e.cause ≢ Broken) more (λ e is b. (let clash : Cut ≡ Broken = sym is ∙ b in cc clash)) all

module _ (t : Topology) (is : IsTopology t) (w : World) (begun : Reassembler → List Cell) (f : Flows t w begun) (k : Known w) (ordered : IsOrderly w)
    (n : NodeId) (old : Site) (found : site_at w n ≡ Some old) (event : Event) (none : (taker : Reassembler) → cell_for taker (arrival w event) ≡ None) where
  abbrev v : World
  v = put_away w

  abbrev start : ActedSwitch
  start = record { switch = old.switch; notes = v.notes; numbers = v.numbers }

  abbrev pub after_of : ActedSwitch → World
  after_of a = tallied v (record (with_site v (record old { switch = a.switch })) { notes = a.notes; numbers = a.numbers })

  others1 : (m : NodeId) → n.0 ≢ m.0 → IsLed (branch_at v m) (queue_at v (Down m))
  others1 m d = ordered.fed m

  own : IsKnown old
  own = k n old found

  first_state : IsReal same_spot yields home v.notes.entries (stretches begun) (shown t (parts_of (world_with t is v n old found old.switch.crossbar old.switch.reassembly)))
  first_state = before_real t is v n old found v.notes.entries (stretches begun) f.real

  -- *A tick*
  pub ticks_follow : Follows t w begun event (after_of (tick_comes start))
  ticks_follow =
      let named = ticked_named old.switch.adjacency own.switch in
      let held : Held t is v n old found others1 (stretches begun) v.notes.entries old.switch.reassembly (tick_comes start) =
      steps_held t is v n old found others1 (stretches begun) v.notes.entries old.switch.reassembly start (ticked old.switch.adjacency) named.0 named.1 (record {
        state = first_state;
        grown = grown_none v.notes.entries;
        leading = own_leading t is v n old found ordered.fed;
        named = own.switch;
        ports = own.ports;
        queues = own.queues;
        reassembly = refl;
      }) in
      let a : ActedSwitch = tick_comes start in
      let takers : SameTakers w (after_of a) = record {
        controllers = λ m. done_controllers t is v n old found a.switch m;
        switches = λ m. done_switches t is v n old found a.switch m (λ e. held.reassembly);
      } in
      follows_alike t w (after_of a) begun event takers (λ taker. untaken w (after_of a) begun event takers taker (none taker)) (done_real t is v n old found a.switch a.notes.entries (stretches begun) held.state) f held.grown
      (done_known t is v n old found a.switch k (record { controller = own.controller; switch = held.named; ports = held.ports; queues = held.queues }))

  -- *A restart*: the branches end, and the GSMP channel is cut
  abbrev r : Reassembly
  r = old.switch.reassembly

  abbrev x0 : Crossbar
  x0 = old.switch.crossbar

  abbrev ended : Changed
  ended = all_ended (record { branches = x0.branches; notes = v.notes }) (keys x0.branches)

  abbrev x : Crossbar
  x = record x0 { branches = ended.branches }

  changes : Changes t is v n old found others1 r (stretches begun) x0 v.notes ended
  changes = ends_all t is v n old found others1 r (stretches begun) x0 v.notes (keys x0.branches) (own_leading t is v n old found ordered.fed) first_state

  abbrev spot : Spot
  spot = down n default_channel

  abbrev now : Spot → List Cell
  now s = picked (same_spot spot s) [] (stretches begun s)

  abbrev cut_world : World
  cut_world = world_with t is v n old found x nothing_taken

  cut_state : IsReal same_spot yields home (cut ended.notes r).entries now (shown t (parts_of cut_world))
  cut_state = real_cuts same_spot yields home ended.notes (stretches begun) now (shown t (parts_of (world_with t is v n old found x r))) (shown t (parts_of cut_world)) spot r changes.state
      (gsmp_end t is v n old found x r) (record { more = (cut_grows ended.notes r).0; is = (cut_grows ended.notes r).1 })
      (cells_like t is v n old found x x r nothing_taken spot refl) (gsmp_end t is v n old found x nothing_taken)
      (picked_cases (λ (y : List Cell). y ≡ []) (same_spot spot spot) _ _ (λ e. refl) (λ d. absurd (d refl)))
      (λ s d. (
        cells_like t is v n old found x x r nothing_taken s refl,
        end_like t is v n old found x x r nothing_taken s (λ e. refl) (inl (λ e. d (sym e))),
        picked_cases (λ (y : List Cell). y ≡ stretches begun s) (same_spot spot s) _ _ (λ e. absurd (d e)) (λ _. refl),
      ))

  abbrev last : ActedSwitch
  last = restarted start

  abbrev result : World
  result = after_of last

  same_controllers : (m : NodeId) → takers_at result m ≡ takers_at w m
  same_controllers m = done_controllers t is v n old found last.switch m

  untouched : (taker : Reassembler) → reassembly_at result taker ≡ reassembly_at w taker → After w begun event result taker ≡ begun taker
  untouched taker same = ap (stretch_from (begun taker)) (turns_without w result event taker (none taker) ∙ ap (cut_turn (reassembly_at w taker)) same) ∙ no_cut (begun taker) (reassembly_at w taker)

  after_controllers : (m : NodeId) (channel : Channel) → After w begun event result (OfController m channel) ≡ begun (OfController m channel)
  after_controllers m channel = untouched (OfController m channel) (reassembly_by_takers result m channel ∙ ap (reassembly_from channel) (same_controllers m) ∙ sym (reassembly_by_takers w m channel))

  takes_now : (shown t (parts_of v) spot).end ≡ Takes r
  takes_now = ap (λ (o : Option Site). switch_end (option_map (λ (y : Site). y.switch.reassembly) o)) found

  after_own : After w begun event result (OfSwitch n) ≡ []
  after_own = ap (stretch_from (begun (OfSwitch n))) (turns_without w result event (OfSwitch n) (none (OfSwitch n))
      ∙ ap₂ cut_turn (ap (option_map (λ (y : Site). y.switch.reassembly)) found) (ap (option_map (λ (y : Site). y.switch.reassembly)) (done_here t is v n old found last.switch n refl)))
      ∙ sym (cut_or_not (begun (OfSwitch n)) [] r nothing_taken true true (λ e. refl) (λ e. refl)
      (λ e. no_stretch same_spot yields home v.notes.entries (stretches begun) (shown t (parts_of v)) spot f.real (takes_now ∙ ap Takes (nothing_is r e))) (inr (refl, refl)))

  after_spots : (s : Spot) → stretches (After w begun event result) s ≡ now s
  after_spots s = by_spot (same_spot spot s)
    where
      gsmp_of : (m : NodeId) (z : Bool) → (z ≡ true → n.0 ≢ m.0) → (if z then After w begun event result (OfSwitch m) else []) ≡ (if z then begun (OfSwitch m) else [])
      gsmp_of m true far = untouched (OfSwitch m) (done_switches t is v n old found last.switch m (λ e. absurd (far refl e)))
      gsmp_of m false far = refl

      by_place : spot ≢ s → (place : Place) → s.place ≡ place → stretch_at (After w begun event result) place s.channel ≡ stretch_at begun place s.channel
      by_place d (Up m) at = after_controllers m s.channel
      by_place d (Down m) at = gsmp_of m (same_channel s.channel default_channel) (λ e node. d (ap₂ (λ (p : Place) (y : Channel). record { place = p; channel = y })
          (ap (λ (q : ℕ). Down (record { 0 = q })) node ∙ sym at) (sym (channels_are s.channel default_channel e))))
      by_place d (Out m q) at = refl

      by_spot : (d : (spot ≡ s) ⊎ (spot ≢ s)) → stretches (After w begun event result) s ≡ picked d [] (stretches begun s)
      by_spot (inl e) = ap (stretches (After w begun event result)) (sym e) ∙ after_own
      by_spot (inr d) = by_place d s.place refl

  ports_few : (instance : Instance) (ports : List PortState) → length (map (λ (state : PortState). begun_port instance state.number) ports) ≡ length ports
  ports_few instance [] = refl
  ports_few instance (p ∷ ports) = ap suc (ports_few instance ports)

  pub restarts_follow : Follows t w begun event (after_of (restarted start))
  restarts_follow = record {
    flows = record {
      real = real_alike same_spot yields home last.notes.entries now (stretches (After w begun event result)) (shown t (parts_of (done_world t is v n old found last.switch))) (shown t (parts_of result)) (λ s. refl) (λ s. refl) after_spots
          (done_real t is v n old found last.switch last.notes.entries now cut_state);
      calm = λ m d at channel e. after_controllers m channel ∙ calm_by w begun result m d at (same_controllers m) (f.calm m) channel e;
    };
    adds = quiet (cut_grown w.notes.entries ended.notes r changes.grown);
    known = done_known t is v n old found last.switch k (record {
      controller = own.controller;
      switch = record { own = own.switch.own; stored = λ party e. absurd (cc e) };
      ports = omega (arith, ports_few (next_instance v.numbers) old.switch.ports, own.ports);
      queues = own.queues;
    });
  }
