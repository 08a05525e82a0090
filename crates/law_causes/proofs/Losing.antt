-- a cell is taken from a queue, and lost; and what follows where the reassemblies stay

use Rattle.std.proofs.Common.{◌≡◌, ◌≤◌, Bool, true, false, List, [], ◌∷◌, ◌++◌, Option, None, Some, refl, sym, ◌∙◌, ap, subst, arith, inl, inr, if◌then◌else◌}
use Rattle.std.specs.Option.{option_map, option_and_then}
use Rattle.std.specs.FinMap.{get}
use Rattle.std.proofs.lemmas.Bool.Decides.{nat_tests}
use Rattle.law_cell_lists.specs.world_model.Words.{NodeId, Place, Down, Up, Out, Channel, End as PortEnd, Cell, Entry, Cause, same_mark, Reassembly, stretch_from, home_of, Controller, default_channel, same_channel, taker_of, reassembly_of, Topology, World, Site, site_key, site_at, controller_at, place_node, queue_at, queue_number, with_queue_in, on_channel, OfController, OfSwitch, reassembly_at, cell_for, arrival, cut_turn, is_broken}
use Rattle.law_cell_lists.specs.world_model.crossbar_model.declared.branch.Branch.{Branch}
use Rattle.law_cell_lists.specs.world_model.network_model.declared.event.Event.{Event}
use Rattle.law_cell_lists.specs.world_model.Stretches.{Reassembler}
use Rattle.law_controller_bindings.proofs.law_controller.world_model.Lists.{length_set}
use Rattle.law_controller_bindings.proofs.law_controller.world_model.Queues.{Sets}
use Rattle.law_controller_bindings.proofs.law_port_facts.Keyed.{by_eq}
use Rattle.law_cell_lists.specs.Causes.{has_cause, is_cause_of}
use Rattle.law_cell_lists.proofs.Lists.{any_back}
use Rattle.law_cell_lists.proofs.Real.{IsReal, real_grown, real_alike, real_loses}
use Rattle.law_causes.specs.Feeding.{Found, IsLed, branch_at}
use Rattle.law_causes.proofs.Spots.{Spot, same_spot, yields, home}
use Rattle.law_causes.proofs.Ends.{has_cells, chain_in, open_in}
use Rattle.law_causes.proofs.Phase.{GrownBy}
use Rattle.law_causes.proofs.Parts.{Takers, takers_of, shown, parts_of}
use Rattle.law_causes.proofs.Sites.{site_here, site_away, site_like}
use Rattle.law_causes.proofs.Turning.{stretch_at, stretches, if_open, reassembly_is, no_cut, turns_without}
use Rattle.law_causes.proofs.Following.{Flows, IsKnown, Known, quiet, After, Follows}
use Rattle.law_causes.proofs.Branching.{led_less}
use Rattle.law_causes.proofs.Popping.{IsShowing, one_place, popped_site, popped, same_key, sets, popped_end, its_spot, was_first, is_left, others_stay}

-- *The reassemblies* by what takes cells
abbrev pub takers_at : World → NodeId → Option Takers
takers_at w m = option_map takers_of (controller_at w m)

abbrev pub gsmp_at : World → NodeId → Option Reassembly
gsmp_at w m = option_map (λ (site : Site). site.switch.reassembly) (site_at w m)

abbrev pub reassembly_from : Channel → Option Takers → Option Reassembly
reassembly_from channel None = None
reassembly_from channel (Some k) = if_open (open_in k.ports channel) (chain_in k.reassembly k.ports channel)

pub reassembly_by_takers : (w : World) (m : NodeId) (channel : Channel) → reassembly_at w (OfController m channel) ≡ reassembly_from channel (takers_at w m)
reassembly_by_takers w m channel = by (controller_at w m) refl
  where
    by : (o : Option Controller) → controller_at w m ≡ o → reassembly_at w (OfController m channel) ≡ reassembly_from channel (option_map takers_of o)
    by None e = ap (λ (o : Option Controller). option_and_then (λ (c : Controller). option_map (reassembly_of c) (taker_of c channel)) o) e
    by (Some c) e = reassembly_is w m c channel e

pub record SameTakers (w after : World) : Type 0 where
  pub controllers : (m : NodeId) → takers_at after m ≡ takers_at w m
  pub switches : (m : NodeId) → gsmp_at after m ≡ gsmp_at w m

pub same_reassembly : (w after : World) → SameTakers w after → (taker : Reassembler) → reassembly_at after taker ≡ reassembly_at w taker
same_reassembly w after s (OfController m channel) = reassembly_by_takers after m channel ∙ ap (reassembly_from channel) (s.controllers m) ∙ sym (reassembly_by_takers w m channel)
same_reassembly w after s (OfSwitch m) = s.switches m

-- what a controller that takes alike has made of its cells
pub calm_by : (w : World) (begun : Reassembler → List Cell) (after : World) (m : NodeId) (c : Controller) → controller_at after m ≡ Some c → takers_at after m ≡ takers_at w m
    → ((d : Controller) → controller_at w m ≡ Some d → (channel : Channel) → has_cells (chain_in d.reassembly d.ports channel) ≡ false → begun (OfController m channel) ≡ [])
    → (channel : Channel) → has_cells (chain_in c.reassembly c.ports channel) ≡ false → begun (OfController m channel) ≡ []
calm_by w begun after m c at same calm channel e = by (controller_at w m) refl (sym same ∙ ap (option_map takers_of) at)
  where
    by : (o : Option Controller) → controller_at w m ≡ o → option_map takers_of o ≡ Some (takers_of c) → begun (OfController m channel) ≡ []
    by None is h = absurd (cc h)
    by (Some d) is h = (let both : takers_of d ≡ takers_of c = cc in calm d is channel (ap (λ (k : Takers). has_cells (chain_in k.reassembly k.ports channel)) both ∙ e))

-- *What follows* where every reassembly stays, and no channel takes a cell
pub follows_alike : (t : Topology) (w after : World) (begun : Reassembler → List Cell) (event : Event) → SameTakers w after → ((taker : Reassembler) → After w begun event after taker ≡ begun taker)
    → IsReal same_spot yields home after.notes.entries (stretches begun) (shown t (parts_of after)) → Flows t w begun → GrownBy w.notes.entries after.notes.entries → Known after → Follows t w begun event after
follows_alike t w after begun event takers same real f grown known = record {
  flows = record {
    real = real_alike same_spot yields home after.notes.entries (stretches begun) (stretches (After w begun event after)) (shown t (parts_of after)) (shown t (parts_of after)) (λ s. refl) (λ s. refl) (λ s. alike s.place s.channel) real;
    calm = λ m c at channel e. same (OfController m channel) ∙ calm_by w begun after m c at (takers.controllers m) (f.calm m) channel e;
  };
  adds = quiet grown;
  known = known;
}
  where
    gsmp : (m : NodeId) (v : Bool) → (if v then After w begun event after (OfSwitch m) else []) ≡ (if v then begun (OfSwitch m) else [])
    gsmp m true = same (OfSwitch m)
    gsmp m false = refl

    alike : (place : Place) (channel : Channel) → stretch_at (After w begun event after) place channel ≡ stretch_at begun place channel
    alike (Up m) channel = same (OfController m channel)
    alike (Down m) channel = gsmp m (same_channel channel default_channel)
    alike (Out m p) channel = refl

pub untaken : (w after : World) (begun : Reassembler → List Cell) (event : Event) → SameTakers w after → (taker : Reassembler) → cell_for taker (arrival w event) ≡ None → After w begun event after taker ≡ begun taker
untaken w after begun event takers taker none =
    ap (stretch_from (begun taker)) (turns_without w after event taker none ∙ ap (cut_turn (reassembly_at w taker)) (same_reassembly w after takers taker)) ∙ no_cut (begun taker) (reassembly_at w taker)

-- *A shorter queue*
led_shorter : (found : Found) (c : Cell) (cells : List Cell) → IsLed found (c ∷ cells) → IsLed found cells
led_shorter found c cells l = record {
  down = l.down;
  up = l.up;
  across = λ e b at some far. ((l.across e b at some far).0, by (same_channel c.header.channel (home_of b.output).channel) (l.across e b at some far).1);
  once = l.once;
}
  where
    by : {rest : List Cell} (v : Bool) → (if v then c ∷ rest else rest) ≡ [] → rest ≡ []
    by true e = absurd (cc e)
    by false e = e

module _ (t : Topology) (w : World) (place : Place) (site : Site) (found : site_at w (place_node place) ≡ Some site) (known : IsKnown site) (showing : IsShowing place) (low : queue_number place ≤ 9) (cells : List Cell) (c : Cell) (first : queue_at w place ≡ c ∷ cells) where
  abbrev pub left_world : World
  left_world = popped t w place site found known showing low cells

  abbrev here_site : Site
  here_site = popped_site t w place site found known showing low cells

  here_key : site_key here_site ≡ (place_node place).0
  here_key = same_key t w place site found known showing low cells

  pub popped_takers : SameTakers w left_world
  popped_takers = record {
    controllers = λ m. site_like w (place_node place) site here_site found here_key (λ (o : Option Site). option_map takers_of (option_map (λ (x : Site). x.controller) o)) m (λ e. controller place);
    switches = λ m. site_like w (place_node place) site here_site found here_key (λ (o : Option Site). option_map (λ (x : Site). x.switch.reassembly) o) m (λ e. switch place);
  }
    where
      controller : (p : Place) → Some (takers_of (with_queue_in site p cells).controller) ≡ Some (takers_of site.controller)
      controller (Down m) = refl
      controller (Up m) = refl
      controller (Out m q) = refl

      switch : (p : Place) → Some (with_queue_in site p cells).switch.reassembly ≡ Some site.switch.reassembly
      switch (Down m) = refl
      switch (Up m) = refl
      switch (Out m q) = refl

  pub popped_led : ((m : NodeId) → IsLed (branch_at w m) (queue_at w (Down m))) → (m : NodeId) → IsLed (branch_at left_world m) (queue_at left_world (Down m))
  popped_led fed m = by_eq (place_node place).0 m.0
      (λ node u. by_eq (queue_number place) 0
      (λ number v. (let at : place ≡ Down m = one_place place (Down m) showing tt node number in
      led_less (branch_at w m) (branch_at left_world m) cells (queue_at left_world (Down m)) branches (s.here (Down m) node number)
      (led_shorter (branch_at w m) c cells (subst (IsLed (branch_at w m)) (ap (queue_at w) (sym at) ∙ first) (fed m)))))
      (λ far v. led_less (branch_at w m) (branch_at left_world m) (queue_at w (Down m)) (queue_at left_world (Down m)) branches (s.away (Down m) (inr far)) (fed m)))
      (λ far u. led_less (branch_at w m) (branch_at left_world m) (queue_at w (Down m)) (queue_at left_world (Down m)) branches (s.away (Down m) (inl far)) (fed m))
    where
      s : Sets w left_world place cells
      s = sets t w place site found known showing low cells

      look : (input : PortEnd) (p : Place) → get (with_queue_in site p cells).switch.crossbar.branches input ≡ get site.switch.crossbar.branches input
      look input (Down q) = refl
      look input (Up q) = refl
      look input (Out q r) = refl

      branches : (e : PortEnd) (b : Branch) → branch_at left_world m e ≡ Some b → branch_at w m e ≡ Some b
      branches e b at = sym (site_like w (place_node place) site here_site found here_key (λ (o : Option Site). option_and_then (λ (y : Site). get y.switch.crossbar.branches e) o) m (λ h. look e place)) ∙ at

  pub popped_known : Known w → Known left_world
  popped_known k m x at = by_eq (place_node place).0 m.0
      (λ e u. (let both : Some here_site ≡ Some x = sym (site_here w (place_node place) site here_site found here_key m e) ∙ at in let same : here_site ≡ x = cc in subst IsKnown same (of_place place)))
      (λ d u. k m x (sym (site_away w (place_node place) site here_site found here_key m d) ∙ at))
    where
      of_place : (p : Place) → IsKnown (with_queue_in site p cells)
      of_place (Down q) = record { controller = known.controller; switch = known.switch; ports = known.ports; queues = known.queues }
      of_place (Up q) = record { controller = known.controller; switch = known.switch; ports = known.ports; queues = length_set site.switch.crossbar.queues 0 cells ∙ known.queues }
      of_place (Out q r) = record { controller = known.controller; switch = known.switch; ports = known.ports; queues = length_set site.switch.crossbar.queues r.0 cells ∙ known.queues }

  -- *The cell is lost*, with an entry of another cause than Broken
  own_cause : (cause : Cause) → is_broken cause ≡ false → (entries : List Entry) → has_cause (entries ++ record { mark = c.mark; cause = cause } ∷ []) c.mark ≡ true
  own_cause cause other entries =
      let same : same_mark c.mark c.mark ≡ true = grind (arith, nat_tests) in
      any_back (is_cause_of c.mark) entries (record { mark = c.mark; cause = cause } ∷ []) (rw (same, other) refl)

  pub lost_real : (entries : List Entry) (cause : Cause) (begun : Spot → List Cell) → is_broken cause ≡ false → IsReal same_spot yields home entries begun (shown t (parts_of w))
      → IsReal same_spot yields home (entries ++ record { mark = c.mark; cause = cause } ∷ []) begun (shown t (parts_of left_world))
  lost_real entries cause begun other r =
      let more : List Entry = entries ++ record { mark = c.mark; cause = cause } ∷ [] in
      let spot : Spot = its_spot t w place site found known showing low cells c first in
      real_loses same_spot yields home more begun (shown t (parts_of w)) (shown t (parts_of left_world)) spot c (on_channel c.header.channel cells)
      (real_grown same_spot yields home entries more begun (shown t (parts_of w)) (record { more = record { mark = c.mark; cause = cause } ∷ []; is = refl }) r)
      (was_first t w place site found known showing low cells c first) (own_cause cause other entries)
      (is_left t w place site found known showing low cells c first) (popped_end t w place site found known showing low cells spot)
      (λ s d. (others_stay t w place site found known showing low cells c first s d, popped_end t w place site found known showing low cells s, refl))
