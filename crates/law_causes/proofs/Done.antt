-- a switch has acted, and is put back

use Rattle.std.proofs.Common.{◌≡◌, ◌≢◌, ℕ, List, [], Option, Some, refl, sym, ◌∙◌, ap, subst}
use Rattle.std.specs.Option.{option_map, option_map_or, option_and_then}
use Rattle.std.specs.FinMap.{get}
use Rattle.law_cell_lists.specs.world_model.Words.{NodeId, Place, Down, Up, Out, End as PortEnd, Cell, Entry, Switch, Topology, IsTopology, World, Site, site_key, site_at, with_site, place_node, queue_in, queue_at, on_channel}
use Rattle.law_controller_bindings.proofs.law_controller.world_model.Lists.{at_key}
use Rattle.law_controller_bindings.proofs.law_port_facts.Keyed.{by_eq}
use Rattle.law_cell_lists.proofs.Real.{IsReal, real_alike}
use Rattle.law_causes.specs.Feeding.{IsLed, branch_at}
use Rattle.law_causes.proofs.Spots.{Spot, same_spot, yields, home}
use Rattle.law_causes.proofs.Parts.{Takers, takers_of, controller_end, shown, shown_cells, shown_end, parts_of}
use Rattle.law_causes.proofs.Sites.{site_here, site_away, site_like}
use Rattle.law_causes.proofs.Switching.{world_with, here_with, away_with}
use Rattle.law_causes.proofs.Branching.{led_less}
use Rattle.law_causes.proofs.Following.{IsKnown, Known}
use Rattle.law_causes.proofs.Losing.{takers_at, gsmp_at}

-- two worlds that show alike, site by site
alike_cells : (t : Topology) (v w : World) (s : Spot) → ((p : Place) → queue_at w p ≡ queue_at v p) → (shown t (parts_of w) s).cells ≡ (shown t (parts_of v) s).cells
alike_cells t v w s same = shown_cells t (parts_of v) (parts_of w) s (ap (on_channel s.channel) (same s.place))

alike_end : (t : Topology) (v w : World) (s : Spot) → ((m : NodeId) → gsmp_at w m ≡ gsmp_at v m) → ((m : NodeId) → takers_at w m ≡ takers_at v m) → ((m : NodeId) (e : PortEnd) → branch_at w m e ≡ branch_at v m e)
    → (shown t (parts_of w) s).end ≡ (shown t (parts_of v) s).end
alike_end t v w s gsmp takers look = shown_end t (parts_of v) (parts_of w) s (λ m e. gsmp m) (λ m e. ap (λ (k : Option Takers). controller_end k s.channel) (takers m)) (λ i e. look i.node i.input)

module _ (t : Topology) (is : IsTopology t) (w : World) (n : NodeId) (old : Site) (found : site_at w n ≡ Some old) where
  abbrev pub as_it_is : World
  as_it_is = world_with t is w n old found old.switch.crossbar old.switch.reassembly

  self_site : (m : NodeId) → site_at as_it_is m ≡ site_at w m
  self_site m = by_eq n.0 m.0
      (λ e u. here_with t is w n old found old.switch.crossbar old.switch.reassembly m e ∙ sym (ap (λ (q : ℕ). site_at w (record { 0 = q })) (sym e) ∙ found))
      (λ d u. away_with t is w n old found old.switch.crossbar old.switch.reassembly m d)

  pub self_cells : (s : Spot) → (shown t (parts_of as_it_is) s).cells ≡ (shown t (parts_of w) s).cells
  self_cells s = alike_cells t w as_it_is s (λ p. ap (λ (o : Option Site). option_map_or (λ (x : Site). queue_in x p) o []) (self_site (place_node p)))

  pub self_end : (s : Spot) → (shown t (parts_of as_it_is) s).end ≡ (shown t (parts_of w) s).end
  self_end s = alike_end t w as_it_is s (λ m. ap (option_map (λ (x : Site). x.switch.reassembly)) (self_site m)) (λ m. ap (λ (o : Option Site). option_map takers_of (option_map (λ (x : Site). x.controller) o)) (self_site m))
      (λ m e. ap (λ (o : Option Site). option_and_then (λ (x : Site). get x.switch.crossbar.branches e) o) (self_site m))

  -- before it acts
  pub before_real : (entries : List Entry) (begun : Spot → List Cell) → IsReal same_spot yields home entries begun (shown t (parts_of w)) → IsReal same_spot yields home entries begun (shown t (parts_of as_it_is))
  before_real entries begun r = real_alike same_spot yields home entries begun begun (shown t (parts_of w)) (shown t (parts_of as_it_is)) self_cells self_end (λ s. refl) r

  -- and once it has
  module _ (switch : Switch) where
    abbrev pub done_site : Site
    done_site = record old { switch = switch }

    abbrev pub done_world : World
    done_world = with_site w done_site

    done_key : site_key done_site ≡ n.0
    done_key = at_key site_key n.0 w.sites old found

    pub done_here : (m : NodeId) → n.0 ≡ m.0 → site_at done_world m ≡ Some done_site
    done_here m e = site_here w n old done_site found done_key m e

    pub done_away : (m : NodeId) → n.0 ≢ m.0 → site_at done_world m ≡ site_at w m
    done_away m d = site_away w n old done_site found done_key m d

    done_like : {A : Type 0} (f : Option Site → A) (m : NodeId) → f (Some done_site) ≡ f (Some (record old { switch = record old.switch { crossbar = switch.crossbar; reassembly = switch.reassembly } }))
        → f (site_at done_world m) ≡ f (site_at (world_with t is w n old found switch.crossbar switch.reassembly) m)
    done_like f m same = by_eq n.0 m.0
        (λ e u. ap f (done_here m e) ∙ same ∙ ap f (sym (here_with t is w n old found switch.crossbar switch.reassembly m e)))
        (λ d u. ap f (done_away m d) ∙ ap f (sym (away_with t is w n old found switch.crossbar switch.reassembly m d)))

    pub done_real : (entries : List Entry) (begun : Spot → List Cell) → IsReal same_spot yields home entries begun (shown t (parts_of (world_with t is w n old found switch.crossbar switch.reassembly)))
        → IsReal same_spot yields home entries begun (shown t (parts_of done_world))
    done_real entries begun r = real_alike same_spot yields home entries begun begun (shown t (parts_of (world_with t is w n old found switch.crossbar switch.reassembly))) (shown t (parts_of done_world))
        (λ s. alike_cells t (world_with t is w n old found switch.crossbar switch.reassembly) done_world s (λ p. done_like (λ (o : Option Site). option_map_or (λ (x : Site). queue_in x p) o []) (place_node p) (queue p)))
        (λ s. alike_end t (world_with t is w n old found switch.crossbar switch.reassembly) done_world s
        (λ m. done_like (λ (o : Option Site). option_map (λ (x : Site). x.switch.reassembly) o) m refl)
        (λ m. done_like (λ (o : Option Site). option_map takers_of (option_map (λ (x : Site). x.controller) o)) m refl)
        (λ m e. done_like (λ (o : Option Site). option_and_then (λ (x : Site). get x.switch.crossbar.branches e) o) m refl))
        (λ s. refl) r
      where
        queue : (p : Place) → queue_in (record old { switch = switch }) p ≡ queue_in (record old { switch = record old.switch { crossbar = switch.crossbar; reassembly = switch.reassembly } }) p
        queue (Down m) = refl
        queue (Up m) = refl
        queue (Out m q) = refl

    pub done_controllers : (m : NodeId) → takers_at done_world m ≡ takers_at w m
    done_controllers m = site_like w n old done_site found done_key (λ (o : Option Site). option_map takers_of (option_map (λ (x : Site). x.controller) o)) m (λ e. refl)

    pub done_switches : (m : NodeId) → (n.0 ≡ m.0 → switch.reassembly ≡ old.switch.reassembly) → gsmp_at done_world m ≡ gsmp_at w m
    done_switches m same = site_like w n old done_site found done_key (λ (o : Option Site). option_map (λ (x : Site). x.switch.reassembly) o) m (λ e. ap Some (same e))

    pub done_known : Known w → IsKnown done_site → Known done_world
    done_known k own m x at = by_eq n.0 m.0
        (λ e u. (let both : Some done_site ≡ Some x = sym (done_here m e) ∙ at in let same : done_site ≡ x = cc in subst IsKnown same own))
        (λ d u. k m x (sym (done_away m d) ∙ at))

    -- how its branches lead now
    pub done_leading : ((m : NodeId) → IsLed (branch_at done_world m) (queue_at done_world (Down m))) → IsLed (get switch.crossbar.branches) old.controller.queue
    done_leading fed = led_less (branch_at done_world n) (get switch.crossbar.branches) (queue_at done_world (Down n)) old.controller.queue
        (λ e b at. ap (λ (o : Option Site). option_and_then (λ (x : Site). get x.switch.crossbar.branches e) o) (done_here n refl) ∙ at)
        (sym (ap (λ (o : Option Site). option_map_or (λ (x : Site). queue_in x (Down n)) o []) (done_here n refl))) (fed n)

  pub own_leading : ((m : NodeId) → IsLed (branch_at w m) (queue_at w (Down m))) → IsLed (get old.switch.crossbar.branches) old.controller.queue
  own_leading fed = led_less (branch_at w n) (get old.switch.crossbar.branches) (queue_at w (Down n)) old.controller.queue
      (λ e b at. ap (λ (o : Option Site). option_and_then (λ (x : Site). get x.switch.crossbar.branches e) o) found ∙ at)
      (sym (ap (λ (o : Option Site). option_map_or (λ (x : Site). queue_in x (Down n)) o []) found)) (fed n)
