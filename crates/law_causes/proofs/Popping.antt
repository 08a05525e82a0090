-- the first cell of a queue is taken away

use Rattle.std.proofs.Common.{◌≡◌, ◌≢◌, ℕ, ◌≤◌, Bool, false, List, [], ◌∷◌, Option, Some, refl, sym, ◌∙◌, ap, ap₂, subst, arith, inl, inr, if◌then◌else◌}
use Rattle.std.specs.Prelude.{◌==◌}
use Rattle.std.specs.Option.{option_map, option_and_then}
use Rattle.std.specs.FinMap.{get}
use Rattle.std.proofs.lemmas.Bool.Decides.{nat_tests}
use Rattle.law_cell_lists.specs.world_model.Words.{Place, Down, Up, Out, Channel, Cell, at, Topology, World, Site, site_key, site_at, with_site, place_node, queue_at, queue_number, with_queue_in, on_channel}
use Rattle.law_controller_bindings.proofs.law_controller.world_model.Lists.{at_key}
use Rattle.law_controller_bindings.proofs.law_controller.world_model.Queues.{Sets, sets_down, sets_out}
use Rattle.law_controller_bindings.proofs.law_port_facts.Keyed.{by_eq}
use Rattle.law_causes.proofs.Spots.{Spot, on_head, on_other, channel_self, channels_apart}
use Rattle.law_causes.proofs.Shown.{Inlet}
use Rattle.law_causes.proofs.Parts.{takers_of, controller_end, shown, shown_at, shown_end, parts_of}
use Rattle.law_causes.proofs.Sites.{site_like}
use Rattle.law_causes.proofs.Following.{IsKnown}

-- a queue that shows lists: none of port 0 by its number
abbrev pub IsShowing : Place → Type 0
IsShowing (Down m) = Unit {0}
IsShowing (Up m) = Unit {0}
IsShowing (Out m p) = p.0 ≢ 0

pub one_place : (p q : Place) → IsShowing p → IsShowing q → (place_node p).0 ≡ (place_node q).0 → queue_number p ≡ queue_number q → p ≡ q
one_place (Down m) (Down n) a b node number = ap (λ (x : ℕ). Down (record { 0 = x })) node
one_place (Down m) (Up n) a b node number = absurd (omega (arith, number))
one_place (Down m) (Out n q) a b node number = absurd (omega (arith, number))
one_place (Up m) (Down n) a b node number = absurd (omega (arith, number))
one_place (Up m) (Up n) a b node number = ap (λ (x : ℕ). Up (record { 0 = x })) node
one_place (Up m) (Out n q) a b node number = absurd (b (omega (arith, number)))
one_place (Out m p) (Down n) a b node number = absurd (omega (arith, number))
one_place (Out m p) (Up n) a b node number = absurd (a (omega (arith, number)))
one_place (Out m p) (Out n q) a b node number = ap₂ (λ (x y : ℕ). Out (record { 0 = x }) (record { 0 = y })) node (omega (arith, number))

module _ (t : Topology) (w : World) (place : Place) (site : Site) (found : site_at w (place_node place) ≡ Some site) (known : IsKnown site) (showing : IsShowing place) (low : queue_number place ≤ 9) (cells : List Cell) where
  abbrev pub popped_site : Site
  popped_site = with_queue_in site place cells

  abbrev pub popped : World
  popped = with_site w popped_site

  own_key : at site_key (site_key site) w.sites ≡ Some site
  own_key = subst (λ j. at site_key j w.sites ≡ Some site) (sym (at_key site_key (place_node place).0 w.sites site found)) found

  pub node_is : site_key site ≡ (place_node place).0
  node_is = at_key site_key (place_node place).0 w.sites site found

  pub same_key : site_key popped_site ≡ (place_node place).0
  same_key = by place node_is
    where
      by : (p : Place) → site_key site ≡ (place_node place).0 → site_key (with_queue_in site p cells) ≡ (place_node place).0
      by (Down m) e = e
      by (Up m) e = e
      by (Out m p) e = e

  pub sets : Sets w popped place cells
  sets = by place low found node_is own_key
    where
      by : (p : Place) → queue_number p ≤ 9 → site_at w (place_node p) ≡ Some site → site_key site ≡ (place_node p).0 → at site_key (site_key site) w.sites ≡ Some site → Sets w (with_site w (with_queue_in site p cells)) p cells
      by (Down m) h e key own = subst (λ (x : ℕ). Sets w (with_site w (with_queue_in site (Down m) cells)) (Down (record { 0 = x })) cells) key (sets_down w site (with_queue_in site (Down m) cells) own refl refl refl)
      by (Up m) h e key own = sets_out w site (with_queue_in site (Up m) cells) own (Up m) 0 cells (sym key) refl refl refl refl refl (omega (arith, known.queues))
      by (Out m p) h e key own = sets_out w site (with_queue_in site (Out m p) cells) own (Out m p) p.0 cells (sym key) refl refl refl refl refl (omega (arith, known.queues, h))

  -- what takes each list stays
  pub popped_end : (s : Spot) → (shown t (parts_of popped) s).end ≡ (shown t (parts_of w) s).end
  popped_end s = shown_end t (parts_of w) (parts_of popped) s
      (λ m e. site_like w (place_node place) site popped_site found same_key (λ (o : Option Site). option_map (λ (x : Site). x.switch.reassembly) o) m (λ h. gsmp place))
      (λ m e. site_like w (place_node place) site popped_site found same_key (λ (o : Option Site). controller_end (option_map takers_of (option_map (λ (x : Site). x.controller) o)) s.channel) m (λ h. takers place))
      (λ x e. site_like w (place_node place) site popped_site found same_key (λ (o : Option Site). option_and_then (λ (y : Site). get y.switch.crossbar.branches x.input) o) x.node (λ h. look x place))
    where
      gsmp : (p : Place) → Some (with_queue_in site p cells).switch.reassembly ≡ Some site.switch.reassembly
      gsmp (Down m) = refl
      gsmp (Up m) = refl
      gsmp (Out m p) = refl

      takers : (p : Place) → controller_end (Some (takers_of (with_queue_in site p cells).controller)) s.channel ≡ controller_end (Some (takers_of site.controller)) s.channel
      takers (Down m) = refl
      takers (Up m) = refl
      takers (Out m p) = refl

      look : (x : Inlet) (p : Place) → get (with_queue_in site p cells).switch.crossbar.branches x.input ≡ get site.switch.crossbar.branches x.input
      look x (Down m) = refl
      look x (Up m) = refl
      look x (Out m p) = refl

  shows_queue : (v : World) (p : Place) (channel : Channel) → IsShowing p → (shown_at t (parts_of v) p channel).cells ≡ on_channel channel (queue_at v p)
  shows_queue v (Down m) channel h = refl
  shows_queue v (Up m) channel h = refl
  shows_queue v (Out m p) channel h = ap (λ (x : Bool). if x then [] else on_channel channel (queue_at v (Out m p))) (not_zero p.0 h)
    where
      not_zero : (q : ℕ) → q ≢ 0 → (q == 0) ≡ false
      not_zero q d = grind (arith, nat_tests, d)

  module _ (c : Cell) (first : queue_at w place ≡ c ∷ cells) where
    abbrev pub its_spot : Spot
    its_spot = record { place = place; channel = c.header.channel }

    pub was_first : (shown t (parts_of w) its_spot).cells ≡ c ∷ on_channel c.header.channel cells
    was_first = shows_queue w place c.header.channel showing ∙ ap (on_channel c.header.channel) first ∙ on_head c.header.channel c cells (channel_self c.header.channel)

    pub is_left : (shown t (parts_of popped) its_spot).cells ≡ on_channel c.header.channel cells
    is_left = shows_queue popped place c.header.channel showing ∙ ap (on_channel c.header.channel) (sets.here place refl refl)

    pub others_stay : (s : Spot) → its_spot ≢ s → (shown t (parts_of popped) s).cells ≡ (shown t (parts_of w) s).cells
    others_stay s d = by s.place refl
      where
        other_channel : s.place ≡ place → on_channel s.channel (c ∷ cells) ≡ on_channel s.channel cells
        other_channel is = on_other s.channel c cells (channels_apart c.header.channel s.channel (λ e. d (ap₂ (λ (x : Place) (y : Channel). record { place = x; channel = y }) (sym is) e)))

        of_shown : (p : Place) → s.place ≡ p → IsShowing p → (shown_at t (parts_of popped) p s.channel).cells ≡ (shown_at t (parts_of w) p s.channel).cells
        of_shown p is h = shows_queue popped p s.channel h
            ∙ by_eq (place_node place).0 (place_node p).0
            (λ node u. by_eq (queue_number place) (queue_number p)
            (λ number v. (let at : place ≡ p = one_place place p showing h node number in
            ap (on_channel s.channel) (sets.here p node number) ∙ sym (other_channel (is ∙ sym at)) ∙ ap (on_channel s.channel) (sym first ∙ ap (queue_at w) at)))
            (λ far v. ap (on_channel s.channel) (sets.away p (inr far))))
            (λ far u. ap (on_channel s.channel) (sets.away p (inl far)))
            ∙ sym (shows_queue w p s.channel h)

        by : (p : Place) → s.place ≡ p → (shown_at t (parts_of popped) p s.channel).cells ≡ (shown_at t (parts_of w) p s.channel).cells
        by (Down m) is = of_shown (Down m) is tt
        by (Up m) is = of_shown (Up m) is tt
        by (Out m p) is = by_eq p.0 0
            (λ e u. ap (λ (v : Bool). if v then [] else on_channel s.channel (queue_at popped (Out m p))) u ∙ sym (ap (λ (v : Bool). if v then [] else on_channel s.channel (queue_at w (Out m p))) u))
            (λ a u. of_shown (Out m p) is a)
