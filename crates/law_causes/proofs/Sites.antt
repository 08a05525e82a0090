-- one site of a world is another now

use Rattle.std.proofs.Common.{◌≡◌, ◌≢◌, ℕ, Bool, true, false, List, [], Option, Some, refl, sym, ◌∙◌, ap, subst, if◌then◌else◌}
use Rattle.std.specs.Prelude.{nat_eq}
use Rattle.std.specs.Option.{option_map, option_map_or, option_and_then}
use Rattle.std.specs.FinMap.{get}
use Rattle.law_cell_lists.specs.world_model.Words.{NodeId, Place, Down, Up, Out, Cell, queue_of, at, put, Topology, World, Site, site_key, site_at, with_site, place_node, queue_in, queue_at, on_channel}
use Rattle.law_controller_bindings.proofs.law_controller.world_model.Lists.{at_put_same, at_put_other}
use Rattle.law_controller_bindings.proofs.law_port_facts.Keyed.{by_eq}
use Rattle.law_causes.specs.Feeding.{branch_at}
use Rattle.law_causes.proofs.Spots.{Spot}
use Rattle.law_causes.proofs.Ends.{end_in}
use Rattle.law_causes.proofs.Phase.{seen, seen_at}
use Rattle.law_causes.proofs.Shown.{Inlet}
use Rattle.law_causes.proofs.Parts.{shown, shown_at, shown_end, controller_end, takers_of, parts_of}

module _ (w : World) (n : NodeId) (old new : Site) (found : site_at w n ≡ Some old) (key : site_key new ≡ n.0) where
  abbrev pub changed : World
  changed = with_site w new

  pub site_here : (m : NodeId) → n.0 ≡ m.0 → site_at changed m ≡ Some new
  site_here m e = subst (λ (k : ℕ). at site_key k (put site_key new w.sites) ≡ Some new) (key ∙ e)
      (at_put_same site_key new w.sites old (subst (λ (k : ℕ). at site_key k w.sites ≡ Some old) (sym key) found))

  pub site_away : (m : NodeId) → n.0 ≢ m.0 → site_at changed m ≡ site_at w m
  site_away m d = at_put_other site_key new m.0 w.sites (λ e. d (sym key ∙ e))

  -- what is found of it
  pub site_like : {A : Type 0} (f : Option Site → A) (m : NodeId) → (n.0 ≡ m.0 → f (Some new) ≡ f (Some old)) → f (site_at changed m) ≡ f (site_at w m)
  site_like f m same = by_eq n.0 m.0
      (λ e t. ap f (site_here m e) ∙ same e ∙ ap f (sym (subst (λ (k : ℕ). at site_key k w.sites ≡ Some old) e found)))
      (λ d t. ap f (site_away m d))

  pub queue_here : (place : Place) → n.0 ≡ (place_node place).0 → queue_at changed place ≡ queue_in new place
  queue_here place e = ap (λ (o : Option Site). option_map_or (λ (s : Site). queue_in s place) o []) (site_here (place_node place) e)

  pub queue_like : (place : Place) → (n.0 ≡ (place_node place).0 → queue_in new place ≡ queue_in old place) → queue_at changed place ≡ queue_at w place
  queue_like place same = site_like (λ (o : Option Site). option_map_or (λ (s : Site). queue_in s place) o []) (place_node place) same

  -- *A controller acted*: what is shown is what was seen meanwhile
  module _ (t : Topology) (switch : new.switch ≡ old.switch) where
    switch_queue : (place : Place) → (place ≡ Down (place_node place) → ⊥) → queue_in new place ≡ queue_in old place
    switch_queue (Down m) not = absurd (not refl)
    switch_queue (Up m) not = ap (λ s. queue_of s.crossbar (record { 0 = 0 })) switch
    switch_queue (Out m p) not = ap (λ s. queue_of s.crossbar p) switch

    pub acted_cells : (s : Spot) → (shown t (parts_of changed) s).cells ≡ (seen n (shown t (parts_of w)) new.controller.queue new.controller.reassembly new.controller.ports s).cells
    acted_cells s = by s.place refl
      where
        flip : {A : Type 0} (x : A) (y : A) (m : NodeId) → n.0 ≡ m.0 → nat_eq m.0 n.0 ≡ true
        flip x y m e = by_eq m.0 n.0 (λ _ t. t) (λ d t. absurd (d (sym e)))

        by : (place : Place) → s.place ≡ place → (shown_at t (parts_of changed) place s.channel).cells ≡ (seen_at n (shown t (parts_of w)) place s new.controller.queue new.controller.reassembly new.controller.ports).cells
        by (Down m) is = by_eq m.0 n.0
            (λ e u. ap (on_channel s.channel) (queue_here (Down m) (sym e)) ∙ sym (ap (λ (v : Bool). (if v then record (shown t (parts_of w) s) { cells = on_channel s.channel new.controller.queue } else shown t (parts_of w) s).cells) u))
            (λ d u. ap (on_channel s.channel) (queue_like (Down m) (λ e. absurd (d (sym e)))) ∙ ap (λ (x : Place). (shown_at t (parts_of w) x s.channel).cells) (sym is) ∙ sym (ap (λ (v : Bool). (if v then record (shown t (parts_of w) s) { cells = on_channel s.channel new.controller.queue } else shown t (parts_of w) s).cells) u))
        by (Up m) is =
            ap (on_channel s.channel) (queue_like (Up m) (λ e. switch_queue (Up m) (λ f. cc f)))
            ∙ ap (λ (x : Place). (shown_at t (parts_of w) x s.channel).cells) (sym is)
            ∙ either (nat_eq m.0 n.0)
          where
            either : (v : Bool) → (shown t (parts_of w) s).cells ≡ (if v then record (shown t (parts_of w) s) { end = end_in new.controller.reassembly new.controller.ports s.channel } else shown t (parts_of w) s).cells
            either true = refl
            either false = refl
        by (Out m p) is = ap (λ (l : List Cell). (shown_at t (record (parts_of w) { queues = λ place. l }) (Out m p) s.channel).cells) (queue_like (Out m p) (λ e. switch_queue (Out m p) (λ f. cc f)))
            ∙ ap (λ (x : Place). (shown_at t (parts_of w) x s.channel).cells) (sym is)

    pub acted_end : (s : Spot) → (shown t (parts_of changed) s).end ≡ (seen n (shown t (parts_of w)) new.controller.queue new.controller.reassembly new.controller.ports s).end
    acted_end s = by s.place refl
      where
        look : (x : Inlet) → branch_at changed x.node x.input ≡ branch_at w x.node x.input
        look x = site_like (λ (o : Option Site). option_and_then (λ (site : Site). get site.switch.crossbar.branches x.input) o) x.node (λ e. ap (λ sw. get sw.crossbar.branches x.input) switch)

        unless_up : ((m : NodeId) → s.place ≢ Up m) → (shown t (parts_of changed) s).end ≡ (shown t (parts_of w) s).end
        unless_up away = shown_end t (parts_of w) (parts_of changed) s
            (λ m e. site_like (λ (o : Option Site). option_map (λ (site : Site). site.switch.reassembly) o) m (λ e. ap (λ sw. Some sw.reassembly) switch))
            (λ m e. absurd (away m e)) (λ x e. look x)

        by : (place : Place) → s.place ≡ place → (shown t (parts_of changed) s).end ≡ (seen_at n (shown t (parts_of w)) place s new.controller.queue new.controller.reassembly new.controller.ports).end
        by (Down m) is = unless_up (λ x e. (let clash : Down m ≡ Up x = sym is ∙ e in cc clash)) ∙ either (nat_eq m.0 n.0)
          where
            either : (v : Bool) → (shown t (parts_of w) s).end ≡ (if v then record (shown t (parts_of w) s) { cells = on_channel s.channel new.controller.queue } else shown t (parts_of w) s).end
            either true = refl
            either false = refl
        by (Up m) is = ap (λ (x : Place). (shown_at t (parts_of changed) x s.channel).end) is ∙ by_eq m.0 n.0
            (λ e u. ap (λ (o : Option Site). controller_end (option_map takers_of (option_map (λ (site : Site). site.controller) o)) s.channel) (site_here m (sym e))
            ∙ sym (ap (λ (v : Bool). (if v then record (shown t (parts_of w) s) { end = end_in new.controller.reassembly new.controller.ports s.channel } else shown t (parts_of w) s).end) u))
            (λ d u. ap (λ (o : Option Site). controller_end (option_map takers_of (option_map (λ (site : Site). site.controller) o)) s.channel) (site_away m (λ e. d (sym e)))
            ∙ ap (λ (x : Place). (shown_at t (parts_of w) x s.channel).end) (sym is)
            ∙ sym (ap (λ (v : Bool). (if v then record (shown t (parts_of w) s) { end = end_in new.controller.reassembly new.controller.ports s.channel } else shown t (parts_of w) s).end) u))
        by (Out m p) is = unless_up (λ x e. (let clash : Out m p ≡ Up x = sym is ∙ e in cc clash))
