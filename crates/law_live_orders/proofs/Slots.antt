-- where no slot is free, the mark of a last cell is entered into the ledger

use Rattle.std.proofs.Common.{◌≡◌, ◌≢◌, ℕ, zero, suc, ◌&&◌, Bool, true, false, true≢false, List, [], ◌∷◌, Option, None, Some, nat_lt, refl, sym, ◌∙◌, ap, subst, arith, if◌then◌else◌}
use Rattle.std.specs.Option.{option_map, option_map_or}
use Rattle.std.specs.FinMap.{get}
use Rattle.std.proofs.lemmas.Bool.Decides.{nat_tests}
use Rattle.world_model.specs.Words.{NodeId, PortNo, Place, Down, Up, Out, Channel, End, Cell, Journal, PoolFull, has_entry, control_port, default_channel, default_end, default_home, same_channel, route_on, is_gsmp, gsmp_cell, switched_cell, Topology, World, Site, site_at, queue_at, next, OfSwitch, has_slot, IsTopology, IsPlace}
use Rattle.world_model.specs.crossbar_model.declared.branch.Branch.{Branch}
use Rattle.world_model.specs.crossbar_model.Crossbar.{input_of, output_of}
use Rattle.world_model.specs.Switch.{ActedSwitch, free_slots}
use Rattle.world_model.specs.Conduct.{cell_routed, cell_comes}
use Rattle.world_model.specs.Topology.{peer_of}
use Rattle.world_model.specs.network_model.declared.link.LinkEnd.{LinkEnd}
use Rattle.world_model.specs.network_model.declared.event.Event.TheVariants.{Carry}
use Rattle.law_causes.proofs.Shown.{IsPeer, peer_back}
use Rattle.law_live_hearing.proofs.Sites.{switching, down_notes, out_notes}
use Rattle.law_live_hearing.proofs.Switching.{last_entry}
use Rattle.law_live_orders.specs.Law.{is_last_on, LeadsAlone, IsOpenWay, HasSlotFor, FindsSlot}
use Rattle.law_live_orders.specs.Slots.{IsUnlost, UnlostFindSlots}
use Rattle.law_live_orders.proofs.Marks.{channel_is}
use Rattle.law_live_orders.proofs.Switches.{second}
use Rattle.law_live_orders.proofs.Sites.{IsThere, leads_there, output_there}
use Rattle.law_live_orders.proofs.Hops.{home_not_gsmp, link_not_gsmp}

some_free : (n : ℕ) → nat_lt 0 (suc n) ≡ true
some_free n = grind (arith, nat_tests)

-- *A full switch* enters a cell that it would switch
module _ (a : ActedSwitch) (from : PortNo) (cell : Cell) (to : End) (leads : output_of a.switch.crossbar.branches (input_of from cell) ≡ Some to)
    (full : nat_lt 0 (free_slots a.switch) ≡ false) (other : is_gsmp from cell.header.channel ≡ false) where
  abbrev entry : End
  entry = input_of from cell

  by_branch : (o : Option Branch) (free : ℕ) → nat_lt 0 free ≡ false → option_map (λ (branch : Branch). branch.output) o ≡ Some to
      → has_entry (cell_routed a from cell (route_on o free)).notes.entries cell.mark ≡ true
  by_branch None free none led = absurd (cc led)
  by_branch (Some b) zero none led = last_entry a.notes.entries (record { mark = cell.mark; cause = PoolFull })
  by_branch (Some b) (suc free) none led = absurd (true≢false (sym (some_free free) ∙ none))

  enters_full : has_entry (cell_comes a from cell).notes.entries cell.mark ≡ true
  enters_full = ap (λ (b : Bool). has_entry (if b then gsmp_cell a cell else switched_cell a from cell).notes.entries cell.mark) other
      ∙ by_branch (get a.switch.crossbar.branches entry) (free_slots a.switch) full leads

slots_at : (w : World) (node : NodeId) (site : Site) → site_at w node ≡ Some site → has_slot w (OfSwitch node) ≡ nat_lt 0 (free_slots site.switch)
slots_at w node site found = ap (λ (o : Option Site). option_map_or (λ s. nat_lt 0 (free_slots s.switch)) o false) found

module _ (topology : Topology) (is : IsTopology topology) (w : World) (one far : LinkEnd) (way : IsOpenWay topology w one far) where
  peer : IsPeer topology one far
  peer = peer_back topology is one far way.linked

  near_site : IsThere w one.node
  near_site = leads_there w one.node (default_home one.port) (default_end one.port) way.out.leads

  far_site : IsThere w far.node
  far_site = leads_there w far.node (default_end far.port) (default_home far.port) way.home.leads

  same_node : (a b : NodeId) → a.0 ≡ b.0 → b ≡ a
  same_node a b e = λ i. record { 0 = sym e i }

  same_port : (a b : PortNo) → a.0 ≡ b.0 → b ≡ a
  same_port a b e = λ i. record { 0 = sym e i }

  -- *From the near controller*
  down_filled : (cell : Cell) (cells : List Cell) → queue_at w (Down one.node) ≡ cell ∷ cells → has_entry (next topology w (Carry (Down one.node))).notes.entries cell.mark ≡ false
      → is_last_on (default_home one.port).channel cell ≡ true → has_slot w (OfSwitch one.node) ≡ true
  down_filled cell cells e unlost last = some (has_slot w (OfSwitch one.node)) refl
    where
      on : cell.header.channel ≡ (default_home one.port).channel
      on = channel_is cell.header.channel (default_home one.port).channel (second cell.header.last (same_channel cell.header.channel (default_home one.port).channel) last)

      leads : output_of near_site.site.switch.crossbar.branches (input_of control_port cell) ≡ Some (default_end one.port)
      leads = ap (λ (c : Channel). output_of near_site.site.switch.crossbar.branches (record { port = control_port; channel = c })) on
          ∙ (sym (output_there w one.node (default_home one.port) near_site.site near_site.found) ∙ way.out.leads)

      some : (b : Bool) → has_slot w (OfSwitch one.node) ≡ b → has_slot w (OfSwitch one.node) ≡ true
      some true f = f
      some false f = absurd (true≢false (sym (enters_full (switching w near_site.site) control_port cell (default_end one.port) leads
          (sym (slots_at w one.node near_site.site near_site.found) ∙ f) (ap (is_gsmp control_port) on ∙ home_not_gsmp one.port peer.own.0))
          ∙ (ap (λ (n : Journal). has_entry n.entries cell.mark) (sym (down_notes topology w one.node near_site.site near_site.found cell cells e)) ∙ unlost)))

  down_slot : (q : List Cell) → queue_at w (Down one.node) ≡ q → IsUnlost topology w (Down one.node) → HasSlotFor w one.node (default_home one.port).channel q
  down_slot [] e unlost = tt
  down_slot (cell ∷ cells) e unlost = down_filled cell cells e (unlost cell cells e)

  -- *From the link*
  out_filled : (cell : Cell) (cells : List Cell) → queue_at w (Out one.node one.port) ≡ cell ∷ cells → has_entry (next topology w (Carry (Out one.node one.port))).notes.entries cell.mark ≡ false
      → is_last_on default_channel cell ≡ true → has_slot w (OfSwitch far.node) ≡ true
  out_filled cell cells e unlost last = some (has_slot w (OfSwitch far.node)) refl
    where
      on : cell.header.channel ≡ default_channel
      on = channel_is cell.header.channel default_channel (second cell.header.last (same_channel cell.header.channel default_channel) last)

      leads : output_of far_site.site.switch.crossbar.branches (input_of far.port cell) ≡ Some (default_home far.port)
      leads = ap (λ (c : Channel). output_of far_site.site.switch.crossbar.branches (record { port = far.port; channel = c })) on
          ∙ (sym (output_there w far.node (default_end far.port) far_site.site far_site.found) ∙ way.home.leads)

      some : (b : Bool) → has_slot w (OfSwitch far.node) ≡ b → has_slot w (OfSwitch far.node) ≡ true
      some true f = f
      some false f = absurd (true≢false (sym (enters_full (switching w far_site.site) far.port cell (default_home far.port) leads
          (sym (slots_at w far.node far_site.site far_site.found) ∙ f) (link_not_gsmp far.port peer.port.0 cell.header.channel))
          ∙ (ap (λ (n : Journal). has_entry n.entries cell.mark) (sym (out_notes topology w one.node near_site.site near_site.found cell cells one.port far way.linked peer.apart far_site.site far_site.found e))
          ∙ unlost)))

  out_slot : (q : List Cell) → queue_at w (Out one.node one.port) ≡ q → IsUnlost topology w (Out one.node one.port) → HasSlotFor w far.node default_channel q
  out_slot [] e unlost = tt
  out_slot (cell ∷ cells) e unlost = out_filled cell cells e (unlost cell cells e)

  finds : (place : Place) → IsUnlost topology w place → FindsSlot w one far place
  finds (Down node) unlost = λ same. down_slot (queue_at w (Down one.node)) refl (subst (λ (n : NodeId). IsUnlost topology w (Down n)) (sym (same_node node one.node same)) unlost)
  finds (Up node) unlost = tt
  finds (Out node port) unlost = λ same on. out_slot (queue_at w (Out one.node one.port)) refl (subst (λ (n : NodeId). IsUnlost topology w (Out n one.port)) (sym (same_node node one.node same))
      (subst (λ (p : PortNo). IsUnlost topology w (Out node p)) (sym (same_port port one.port on)) unlost))

pub unlost_find_slots : UnlostFindSlots
unlost_find_slots topology w one far place is way meant unlost = (meant, finds topology is w one far way place unlost)
