-- a controller has acted: the lists of the world it leaves

use Rattle.std.proofs.Common.{◌≡◌, ◌≢◌, false, List, [], ◌∷◌, None, Some, refl, sym, ◌∙◌, ap, ◌⊎◌, inl, inr}
use Rattle.law_cell_lists.specs.world_model.Words.{NodeId, Place, Down, Up, Channel, Cell, Entry, Reassembly, nothing_taken, Topology, IsTopology, World, Site, site_key, site_at, with_site, queue_at}
use Rattle.law_cell_lists.specs.world_model.Controller.{Acted}
use Rattle.law_cell_lists.proofs.Real.{AreApart, IsReal, real_alike}
use Rattle.law_causes.specs.Feeding.{IsLed, branch_at}
use Rattle.law_causes.proofs.Spots.{Spot, same_spot, yields, home, down, up}
use Rattle.law_causes.proofs.Ends.{has_cells, chain_in}
use Rattle.law_causes.proofs.Phase.{seen, seen_keeps, down_here, Phase, State, Collides}
use Rattle.law_causes.proofs.Shown.{Inlet, inlet_of}
use Rattle.law_causes.proofs.Parts.{shown, LedBy, leads_from, shown_quiet, parts_of}
use Rattle.law_causes.proofs.Sites.{acted_cells, acted_end}

module _ (t : Topology) (is : IsTopology t) (w : World) (n : NodeId) (old : Site) (found : site_at w n ≡ Some old)
    (first : Spot → List Cell) (chains : Channel → Reassembly) (start : List Entry) (apart : AreApart same_spot yields home (shown t (parts_of w))) (a : Acted) where
  abbrev pub acted_site : Site
  acted_site = record old { controller = a.controller }

  abbrev pub acted_world : World
  acted_world = with_site w acted_site

  -- what is so of the lists behind it
  pub record Leaves : Type 0 where
    pub stretches : Spot → List Cell
    pub real : IsReal same_spot yields home a.notes.entries stretches (shown t (parts_of acted_world))
    pub since : (channel : Channel) → ((stretches (up n channel) ≡ first (up n channel)) × (chain_in a.controller.reassembly a.controller.ports channel ≡ chains channel)) ⊎ ((stretches (up n channel) ≡ []) × (chain_in a.controller.reassembly a.controller.ports channel ≡ nothing_taken))
    pub rest : (s : Spot) → s.place ≢ Up n → stretches s ≡ first s
    pub none : (channel : Channel) → has_cells (chain_in a.controller.reassembly a.controller.ports channel) ≡ false → stretches (up n channel) ≡ []

  module _ (phase : Phase n (shown t (parts_of w)) first chains start apart a) (fed : (m : NodeId) → IsLed (branch_at acted_world m) (queue_at acted_world (Down m))) where
    key : site_key acted_site ≡ n.0
    key = ap (λ (x : NodeId). x.0) phase.node

    is_acted : (s : Spot) → ((shown t (parts_of acted_world) s).cells ≡ (seen n (shown t (parts_of w)) a.controller.queue a.controller.reassembly a.controller.ports s).cells)
        × ((shown t (parts_of acted_world) s).end ≡ (seen n (shown t (parts_of w)) a.controller.queue a.controller.reassembly a.controller.ports s).end)
    is_acted s = (acted_cells w n old acted_site found key t refl s, acted_end w n old acted_site found key t refl s)

    -- no cell waits beside another list that leads where it leads
    none_collides : Collides n (shown t (parts_of w)) first chains start apart a.controller.queue → ⊥
    none_collides c =
        let leads : (s : Spot) → ((m : NodeId) → s.place ≢ Up m) → (shown t (parts_of acted_world) s).end ≡ (shown t (parts_of w) s).end =
        λ s away. (is_acted s).1 ∙ seen_keeps n (shown t (parts_of w)) first chains start apart a.controller.queue a.controller.reassembly a.controller.ports s away in
        let other_led : LedBy t (branch_at w) c.clashes.other c.clashes.to = leads_from t (parts_of w) c.clashes.other c.clashes.to c.clashes.others c.clashes.leads_other in
        let empty : (shown t (parts_of acted_world) (down n c.channel)).cells ≡ [] =
        shown_quiet t is (parts_of acted_world) fed c.clashes.other (down n c.channel) c.clashes.to c.clashes.others c.clashes.own c.clashes.yields_not c.clashes.yields_own
        (leads c.clashes.other (λ m e. never_up c.clashes.other m e other_led.inlet other_led.comes) ∙ c.clashes.leads_other)
        (leads (down n c.channel) (λ m e. cc e) ∙ c.clashes.leads) in
        let clash : c.cell ∷ c.cells ≡ [] = sym c.wait ∙ sym (down_here n (shown t (parts_of w)) first chains start apart a.controller.queue a.controller.reassembly a.controller.ports c.channel) ∙ sym (is_acted (down n c.channel)).0 ∙ empty in
        cc clash
      where
        never_up : (s : Spot) (m : NodeId) → s.place ≡ Up m → (i : Inlet) → inlet_of t s ≡ Some i → ⊥
        never_up s m e i comes = (let clash : None ≡ Some i = sym (ap (λ (x : Place). inlet_of t (record { place = x; channel = s.channel })) e) ∙ comes in cc clash)

    pub leaves : Leaves
    leaves = by phase.core.state
      where
        by : State n (shown t (parts_of w)) first chains start apart a.controller.queue a.controller.reassembly a.controller.ports a.notes.entries ⊎ Collides n (shown t (parts_of w)) first chains start apart a.controller.queue → Leaves
        by (inl s) = record {
          stretches = s.stretches;
          real = real_alike same_spot yields home a.notes.entries s.stretches s.stretches (seen n (shown t (parts_of w)) a.controller.queue a.controller.reassembly a.controller.ports) (shown t (parts_of acted_world))
              (λ x. (is_acted x).0) (λ x. (is_acted x).1) (λ x. refl) s.real;
          since = s.since;
          rest = s.rest;
          none = s.none;
        }
        by (inr c) = absurd (none_collides c)
