-- a switch changes: its queues, its branches, and what it makes of the cells of the GSMP channel

use Rattle.std.proofs.Common.{◌≡◌, ◌≢◌, ℕ, ◌<◌, Bool, true, false, List, [], ◌++◌, length, slice_set, slice_index_or, Option, None, Some, refl, sym, ◌∙◌, ap, ap₂, subst, append-nil, ◌⊎◌, inl, inr, if◌then◌else◌}
use Rattle.std.specs.Prelude.{◌==◌}
use Rattle.std.specs.Option.{option_map, option_map_or, option_and_then}
use Rattle.std.specs.FinMap.{get}
use Rattle.law_cell_lists.specs.world_model.Words.{NodeId, PortNo, Place, Down, Up, Out, Channel, End as PortEnd, Cell, Reassembly, Crossbar, queue_of, sent, at, default_channel, same_channel, Topology, IsTopology, World, Site, site_key, site_at, with_site, place_node, queue_in, queue_at, on_channel}
use Rattle.law_controller_bindings.specs.ordered_lists.Ordered.{Every}
use Rattle.law_controller_bindings.proofs.law_controller.world_model.Lists.{at_key, index_set, index_here}
use Rattle.law_controller_bindings.proofs.law_port_facts.Keyed.{by_eq}
use Rattle.law_cell_lists.proofs.Net.{Takes}
use Rattle.law_causes.specs.Feeding.{branch_at}
use Rattle.law_causes.proofs.Spots.{Spot, down, up, out, IsOn, on_join, on_all, on_none}
use Rattle.law_causes.proofs.Shown.{Inlet, inlet_at, inlet_of, out_spot, led, led_by}
use Rattle.law_causes.proofs.Parts.{zero_is, not_zero_is, up_of, out_of, takers_of, controller_end, switch_end, shown, shown_at, shown_end, parts_of}
use Rattle.law_causes.proofs.Sites.{site_here, site_away}

-- what takes a list whose cells come in at a switch
pub end_by_inlet : (t : Topology) (w : World) (s : Spot) (i : Inlet) → inlet_of t s ≡ Some i → (shown t (parts_of w) s).end ≡ led i.node (branch_at w i.node i.input)
end_by_inlet t w s i e = by s.place refl
  where
    by_gsmp : (m : NodeId) (v : Bool) → (if v then None else Some (record { node = m; input = record { port = record { 0 = 0 }; channel = s.channel } })) ≡ Some i
        → (if v then switch_end (option_map (λ (site : Site). site.switch.reassembly) (site_at w m)) else led_by (branch_at w) (if v then None else Some (record { node = m; input = record { port = record { 0 = 0 }; channel = s.channel } }))) ≡ led i.node (branch_at w i.node i.input)
    by_gsmp m true h = absurd (cc h)
    by_gsmp m false h = ap (led_by (branch_at w)) h

    by : (place : Place) → s.place ≡ place → (shown_at t (parts_of w) place s.channel).end ≡ led i.node (branch_at w i.node i.input)
    by (Down m) is = by_gsmp m (same_channel s.channel default_channel) (sym (ap (λ (x : Place). inlet_at t x s.channel) is) ∙ e)
    by (Up m) is = absurd (let clash : None ≡ Some i = sym (ap (λ (x : Place). inlet_at t x s.channel) is) ∙ e in cc clash)
    by (Out m p) is = ap (led_by (branch_at w)) (sym (ap (λ (x : Place). inlet_at t x s.channel) is) ∙ e)

module _ (t : Topology) (is : IsTopology t) (w : World) (n : NodeId) (old : Site) (found : site_at w n ≡ Some old) where
  abbrev pub site_with : Crossbar → Reassembly → Site
  site_with x r = record old { switch = record old.switch { crossbar = x; reassembly = r } }

  abbrev pub world_with : Crossbar → Reassembly → World
  world_with x r = with_site w (site_with x r)

  key : (x : Crossbar) (r : Reassembly) → site_key (site_with x r) ≡ n.0
  key x r = at_key site_key n.0 w.sites old found

  pub here_with : (x : Crossbar) (r : Reassembly) (m : NodeId) → n.0 ≡ m.0 → site_at (world_with x r) m ≡ Some (site_with x r)
  here_with x r m e = site_here w n old (site_with x r) found (key x r) m e

  pub away_with : (x : Crossbar) (r : Reassembly) (m : NodeId) → n.0 ≢ m.0 → site_at (world_with x r) m ≡ site_at w m
  away_with x r m d = site_away w n old (site_with x r) found (key x r) m d

  pub two_like : {A : Type 0} (f : Option Site → A) (x y : Crossbar) (r o : Reassembly) (m : NodeId) → (n.0 ≡ m.0 → f (Some (site_with y o)) ≡ f (Some (site_with x r))) → f (site_at (world_with y o) m) ≡ f (site_at (world_with x r) m)
  two_like f x y r o m same = by_eq n.0 m.0
      (λ e u. ap f (here_with y o m e) ∙ same e ∙ ap f (sym (here_with x r m e)))
      (λ d u. ap f (away_with y o m d) ∙ ap f (sym (away_with x r m d)))

  -- *Branches*
  pub look_here : (x : Crossbar) (r : Reassembly) (e : PortEnd) → branch_at (world_with x r) n e ≡ get x.branches e
  look_here x r e = ap (λ (o : Option Site). option_and_then (λ (y : Site). get y.switch.crossbar.branches e) o) (here_with x r n refl)

  pub look_like : (x y : Crossbar) (r o : Reassembly) (m : NodeId) (e : PortEnd) → (n.0 ≡ m.0 → get y.branches e ≡ get x.branches e) → branch_at (world_with y o) m e ≡ branch_at (world_with x r) m e
  look_like x y r o m e same = two_like (λ (s : Option Site). option_and_then (λ (z : Site). get z.switch.crossbar.branches e) s) x y r o m same

  -- what takes the lists, where the branches stay
  pub end_like : (x y : Crossbar) (r o : Reassembly) (s : Spot) → ((e : PortEnd) → get y.branches e ≡ get x.branches e) → (s ≢ down n default_channel) ⊎ (o ≡ r) → (shown t (parts_of (world_with y o)) s).end ≡ (shown t (parts_of (world_with x r)) s).end
  end_like x y r o s same gsmp = shown_end t (parts_of (world_with x r)) (parts_of (world_with y o)) s
      (λ m e. two_like (λ (s : Option Site). option_map (λ (z : Site). z.switch.reassembly) s) x y r o m (λ h. by_gsmp m e h gsmp))
      (λ m e. two_like (λ (z : Option Site). controller_end (option_map takers_of (option_map (λ (q : Site). q.controller) z)) s.channel) x y r o m (λ h. refl))
      (λ i e. look_like x y r o i.node i.input (λ h. same i.input))
    where
      by_gsmp : (m : NodeId) → s ≡ down m default_channel → n.0 ≡ m.0 → (s ≢ down n default_channel) ⊎ (o ≡ r) → Some o ≡ Some r
      by_gsmp m e h (inl far) = absurd (far (e ∙ ap (λ (q : ℕ). down (record { 0 = q }) default_channel) (sym h)))
      by_gsmp m e h (inr is) = ap Some is

  pub gsmp_end : (x : Crossbar) (r : Reassembly) → (shown t (parts_of (world_with x r)) (down n default_channel)).end ≡ Takes r
  gsmp_end x r = ap (λ (o : Option Site). switch_end (option_map (λ (z : Site). z.switch.reassembly) o)) (here_with x r n refl)

  -- and where one branch changes
  pub end_but : (x y : Crossbar) (r : Reassembly) (input : PortEnd) (s : Spot) → ((e : PortEnd) → e ≢ input → get y.branches e ≡ get x.branches e) → (inlet_of t s ≢ Some (record { node = n; input = input }))
      → (shown t (parts_of (world_with y r)) s).end ≡ (shown t (parts_of (world_with x r)) s).end
  end_but x y r input s same far = shown_end t (parts_of (world_with x r)) (parts_of (world_with y r)) s
      (λ m e. two_like (λ (s : Option Site). option_map (λ (z : Site). z.switch.reassembly) s) x y r r m (λ h. refl))
      (λ m e. two_like (λ (z : Option Site). controller_end (option_map takers_of (option_map (λ (q : Site). q.controller) z)) s.channel) x y r r m (λ h. refl))
      (λ i e. look_like x y r r i.node i.input (λ h. same i.input (λ at. far (e ∙ ap₂ (λ (q : ℕ) (z : PortEnd). Some (record { node = record { 0 = q }; input = z })) (sym h) at))))

  -- *Queues*
  pub cells_like : (x y : Crossbar) (r o : Reassembly) (s : Spot) → y.queues ≡ x.queues → (shown t (parts_of (world_with y o)) s).cells ≡ (shown t (parts_of (world_with x r)) s).cells
  cells_like x y r o s same = by s.place
    where
      queue : (p : Place) → queue_at (world_with y o) p ≡ queue_at (world_with x r) p
      queue p = two_like (λ (z : Option Site). option_map_or (λ (q : Site). queue_in q p) z []) x y r o (place_node p) (λ h. in_site p)
        where
          in_site : (p : Place) → queue_in (site_with y o) p ≡ queue_in (site_with x r) p
          in_site (Down m) = refl
          in_site (Up m) = ap (λ qs. slice_index_or qs 0 []) same
          in_site (Out m q) = ap (λ qs. slice_index_or qs q.0 []) same

      by : (p : Place) → (shown_at t (parts_of (world_with y o)) p s.channel).cells ≡ (shown_at t (parts_of (world_with x r)) p s.channel).cells
      by (Down m) = ap (on_channel s.channel) (queue (Down m))
      by (Up m) = ap (on_channel s.channel) (queue (Up m))
      by (Out m q) = ap (λ (l : List Cell). if q.0 == 0 then [] else on_channel s.channel l) (queue (Out m q))

  module _ (x y : Crossbar) (r : Reassembly) (port : PortNo) (channel : Channel) (cells : List Cell) (on : Every (IsOn channel) cells) (longer : y.queues ≡ (sent x port cells).queues) (low : port.0 < length x.queues) where
    abbrev pub goes_to : Spot
    goes_to = out_spot n (record { port = port; channel = channel })

    abbrev number_of : Crossbar → ℕ → List Cell
    number_of z q = slice_index_or z.queues q []

    pushed : (q : ℕ) → port.0 ≡ q → number_of y q ≡ number_of x q ++ cells
    pushed q e = ap (λ qs. slice_index_or qs q []) longer
        ∙ subst (λ (k : ℕ). slice_index_or (slice_set x.queues port.0 (queue_of x port ++ cells)) k [] ≡ number_of x k ++ cells) e (index_here x.queues port.0 (queue_of x port ++ cells) [] low)

    unpushed : (q : ℕ) → port.0 ≢ q → number_of y q ≡ number_of x q
    unpushed q d = ap (λ qs. slice_index_or qs q []) longer ∙ index_set x.queues port.0 q (queue_of x port ++ cells) [] d

    now_at : (z : Crossbar) (p : Place) → n.0 ≡ (place_node p).0 → queue_at (world_with z r) p ≡ queue_in (site_with z r) p
    now_at z p e = ap (λ (o : Option Site). option_map_or (λ (s : Site). queue_in s p) o []) (here_with z r (place_node p) e)

    not_zero : (v : Bool) → (port.0 == 0) ≡ v → (v ≡ true → port.0 ≡ 0) × (v ≡ false → port.0 ≢ 0)
    not_zero v e = (λ z. zero_is port.0 (e ∙ z), λ z. not_zero_is port.0 (e ∙ z))

    pub sent_here : (shown t (parts_of (world_with y r)) goes_to).cells ≡ (shown t (parts_of (world_with x r)) goes_to).cells ++ cells
    sent_here = by (port.0 == 0) refl
      where
        onto : (q : ℕ) → port.0 ≡ q → on_channel channel (number_of y q) ≡ on_channel channel (number_of x q) ++ cells
        onto q e = ap (on_channel channel) (pushed q e) ∙ on_join channel (number_of x q) cells ∙ ap (λ l. on_channel channel (number_of x q) ++ l) (on_all channel cells on)

        by : (v : Bool) → (port.0 == 0) ≡ v → (shown t (parts_of (world_with y r)) (if v then up n channel else out n port channel)).cells ≡ (shown t (parts_of (world_with x r)) (if v then up n channel else out n port channel)).cells ++ cells
        by true e = ap (on_channel channel) (now_at y (Up n) refl) ∙ onto 0 (zero_is port.0 e) ∙ ap (λ l. on_channel channel l ++ cells) (sym (now_at x (Up n) refl))
        by false e = ap (λ (z : Bool). if z then [] else on_channel channel (queue_at (world_with y r) (Out n port))) e
            ∙ ap (on_channel channel) (now_at y (Out n port) refl) ∙ onto port.0 refl
            ∙ ap (λ l. on_channel channel l ++ cells) (sym (now_at x (Out n port) refl))
            ∙ ap (λ l. l ++ cells) (sym (ap (λ (z : Bool). if z then [] else on_channel channel (queue_at (world_with x r) (Out n port))) e))

    pub sent_away : (s : Spot) → goes_to ≢ s → (shown t (parts_of (world_with y r)) s).cells ≡ (shown t (parts_of (world_with x r)) s).cells
    sent_away s d = by s.place refl
      where
        -- another channel of that queue
        other : (q : ℕ) → port.0 ≡ q → channel ≢ s.channel → on_channel s.channel (number_of y q) ≡ on_channel s.channel (number_of x q)
        other q e far = ap (on_channel s.channel) (pushed q e) ∙ on_join s.channel (number_of x q) cells
            ∙ ap (λ l. on_channel s.channel (number_of x q) ++ l) (on_none channel s.channel cells far on) ∙ append-nil (on_channel s.channel (number_of x q))

        own : (q : ℕ) → (port.0 ≡ q → channel ≢ s.channel) → on_channel s.channel (number_of y q) ≡ on_channel s.channel (number_of x q)
        own q far = by_eq port.0 q (λ e u. other q e (far e)) (λ a u. ap (on_channel s.channel) (unpushed q a))

        at_site : (p : Place) → (n.0 ≡ (place_node p).0 → on_channel s.channel (queue_in (site_with y r) p) ≡ on_channel s.channel (queue_in (site_with x r) p))
            → on_channel s.channel (queue_at (world_with y r) p) ≡ on_channel s.channel (queue_at (world_with x r) p)
        at_site p same = two_like (λ (z : Option Site). on_channel s.channel (option_map_or (λ (q : Site). queue_in q p) z [])) x y r r (place_node p) same

        node_of : (m : NodeId) → n.0 ≡ m.0 → n ≡ m
        node_of m e = ap (λ (q : ℕ). record { 0 = q }) e

        by : (p : Place) → s.place ≡ p → (shown_at t (parts_of (world_with y r)) p s.channel).cells ≡ (shown_at t (parts_of (world_with x r)) p s.channel).cells
        by (Down m) at = at_site (Down m) (λ e. refl)
        by (Up m) at = at_site (Up m) (λ e. own 0 (λ z c. d (
            up_of n (record { port = port; channel = channel }) z
            ∙ ap₂ (λ (u : NodeId) (v : Channel). up u v) (node_of m e) c
            ∙ ap (λ (u : Place). record { place = u; channel = s.channel }) (sym at))))
        by (Out m q) at = by_eq q.0 0
            (λ z u. ap (λ (v : Bool). if v then [] else on_channel s.channel (queue_at (world_with y r) (Out m q))) u ∙ sym (ap (λ (v : Bool). if v then [] else on_channel s.channel (queue_at (world_with x r) (Out m q))) u))
            (λ a u. ap (λ (l : List Cell). if q.0 == 0 then [] else l) (at_site (Out m q) (λ e. own q.0 (λ z c. d (
            out_of n (record { port = port; channel = channel }) (λ h. a (sym z ∙ h))
            ∙ ap₂ (λ (u : Spot) (v : Channel). record u { channel = v }) (ap₂ (λ (u : NodeId) (v : ℕ). out u (record { 0 = v }) channel) (node_of m e) z) c
            ∙ ap (λ (u : Place). record { place = u; channel = s.channel }) (sym at))))))
