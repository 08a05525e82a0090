-- what an event leaves of the lists, and what it adds to the ledger

use Rattle.std.proofs.Common.{◌≡◌, ◌≢◌, ℕ, ◌≤◌, Bool, true, false, List, [], ◌∷◌, ◌++◌, length, Option, None, Some, refl, sym, ◌∙◌, ap, ap₂, subst, append-nil, inl, if◌then◌else◌}
use Rattle.std.specs.Prelude.{nat_eq, IsSome}
use Rattle.std.specs.Option.{option_map, option_map_or, option_and_then}
use Rattle.law_cell_lists.specs.world_model.Words.{NodeId, Place, Down, Up, Out, Channel, Cell, Entry, Reassembly, stretch_from, at, Controller, default_channel, same_channel, taker_of, reassembly_of, Topology, IsTopology, World, Site, site_key, site_at, controller_at, controller_acts, queue_in, on_channel, tallied, put_away, OfController, OfSwitch, reassembly_at, cell_for, arrival, cut_turn, turns_at}
use Rattle.law_cell_lists.specs.world_model.Controller.{Acted}
use Rattle.law_cell_lists.specs.world_model.network_model.declared.event.Event.{Event}
use Rattle.law_cell_lists.specs.world_model.Stretches.{Reassembler}
use Rattle.law_controller_bindings.proofs.law_controller.world_model.Lists.{at_key}
use Rattle.law_controller_bindings.proofs.law_port_facts.Keyed.{by_eq}
use Rattle.law_cell_lists.proofs.Taking.{Adds}
use Rattle.law_cell_lists.proofs.Real.{AreApart, IsReal, real_alike}
use Rattle.law_causes.proofs.Rules.{IsNamed, Kept}
use Rattle.law_causes.proofs.Spots.{Spot, same_spot, yields, home, up}
use Rattle.law_causes.proofs.Ends.{has_cells, chain_in, open_in, end_in}
use Rattle.law_causes.proofs.Phase.{seen, seen_at, Phase, phase_kept, GrownBy}
use Rattle.law_causes.proofs.Parts.{takers_of, controller_end, shown, shown_at, shown_apart, parts_of}
use Rattle.law_causes.proofs.Sites.{site_here, site_away, site_like}
use Rattle.law_causes.proofs.Premises.{IsOrderly}
use Rattle.law_causes.proofs.Turning.{stretch_at, stretches, reassembly_is, cut_or_not, no_cut, turns_without}
use Rattle.law_causes.proofs.Acting.{acted_world, Leaves, leaves}

-- *The lists of a world*, with the stretches of its channels; a channel that has made nothing of its cells has none
pub record Flows (t : Topology) (w : World) (begun : Reassembler → List Cell) : Type 0 where
  pub real : IsReal same_spot yields home w.notes.entries (stretches begun) (shown t (parts_of w))
  pub calm : (n : NodeId) (c : Controller) → controller_at w n ≡ Some c → (channel : Channel) → has_cells (chain_in c.reassembly c.ports channel) ≡ false → begun (OfController n channel) ≡ []

-- *The shape of a site*
pub record IsKnown (site : Site) : Type 0 where
  pub controller : IsNamed site.controller.adjacency
  pub switch : IsNamed site.switch.adjacency
  pub ports : length site.switch.ports ≤ 9
  pub queues : length site.switch.crossbar.queues ≡ 9

abbrev pub Known : World → Type 0
Known w = (n : NodeId) (site : Site) → site_at w n ≡ Some site → IsKnown site

-- *What is added*: nothing that is broken, or what stands beside its cause where a channel takes a cell
pub data AddsAt (w : World) (begun : Reassembler → List Cell) (event : Event) (after : World) : Type 0 where
  quiet : GrownBy w.notes.entries after.notes.entries → AddsAt w begun event after
  beside : (taker : Reassembler) (cell : Cell) → cell_for taker (arrival w event) ≡ Some cell → IsSome (reassembly_at w taker)
      → Adds (begun taker ++ cell ∷ []) w.notes.entries after.notes.entries → AddsAt w begun event after

abbrev pub After : World → (Reassembler → List Cell) → Event → World → Reassembler → List Cell
After w begun event after taker = stretch_from (begun taker) (turns_at w event after taker)

pub record Follows (t : Topology) (w : World) (begun : Reassembler → List Cell) (event : Event) (after : World) : Type 0 where
  pub flows : Flows t after (After w begun event after)
  pub adds : AddsAt w begun event after
  pub known : Known after

-- *A node's own*
pub site_node : (w : World) (n : NodeId) (site : Site) → site_at w n ≡ Some site → site.controller.node ≡ n
site_node w n site e = ap (λ (x : ℕ). record { 0 = x }) (at_key site_key n.0 w.sites site e)

pub controller_is : (w : World) (n : NodeId) (site : Site) → site_at w n ≡ Some site → controller_at w n ≡ Some site.controller
controller_is w n site e = ap (option_map (λ (s : Site). s.controller)) e

-- what is seen before a controller acts is what is shown
module _ (t : Topology) (w : World) (n : NodeId) (site : Site) (found : site_at w n ≡ Some site) where
  at_node : (m : NodeId) → m.0 ≡ n.0 → site_at w m ≡ Some site
  at_node m e = subst (λ (x : ℕ). at site_key x w.sites ≡ Some site) (sym e) found

  pub self_cells : (s : Spot) → (seen n (shown t (parts_of w)) site.controller.queue site.controller.reassembly site.controller.ports s).cells ≡ (shown t (parts_of w) s).cells
  self_cells s = by s.place refl
    where
      either : (v : Bool) → (if v then record (shown t (parts_of w) s) { end = end_in site.controller.reassembly site.controller.ports s.channel } else shown t (parts_of w) s).cells ≡ (shown t (parts_of w) s).cells
      either true = refl
      either false = refl

      by : (place : Place) → s.place ≡ place → (seen_at n (shown t (parts_of w)) place s site.controller.queue site.controller.reassembly site.controller.ports).cells ≡ (shown t (parts_of w) s).cells
      by (Down m) is = by_eq m.0 n.0
          (λ e u. ap (λ (v : Bool). (if v then record (shown t (parts_of w) s) { cells = on_channel s.channel site.controller.queue } else shown t (parts_of w) s).cells) u
          ∙ ap (λ (o : Option Site). on_channel s.channel (option_map_or (λ (x : Site). queue_in x (Down m)) o [])) (sym (at_node m e)) ∙ ap (λ (x : Place). (shown_at t (parts_of w) x s.channel).cells) (sym is))
          (λ d u. ap (λ (v : Bool). (if v then record (shown t (parts_of w) s) { cells = on_channel s.channel site.controller.queue } else shown t (parts_of w) s).cells) u)
      by (Up m) is = either (nat_eq m.0 n.0)
      by (Out m p) is = refl

  pub self_end : (s : Spot) → (seen n (shown t (parts_of w)) site.controller.queue site.controller.reassembly site.controller.ports s).end ≡ (shown t (parts_of w) s).end
  self_end s = by s.place refl
    where
      either : (v : Bool) → (if v then record (shown t (parts_of w) s) { cells = on_channel s.channel site.controller.queue } else shown t (parts_of w) s).end ≡ (shown t (parts_of w) s).end
      either true = refl
      either false = refl

      by : (place : Place) → s.place ≡ place → (seen_at n (shown t (parts_of w)) place s site.controller.queue site.controller.reassembly site.controller.ports).end ≡ (shown t (parts_of w) s).end
      by (Down m) is = either (nat_eq m.0 n.0)
      by (Up m) is = by_eq m.0 n.0
          (λ e u. ap (λ (v : Bool). (if v then record (shown t (parts_of w) s) { end = end_in site.controller.reassembly site.controller.ports s.channel } else shown t (parts_of w) s).end) u
          ∙ ap (λ (o : Option Site). controller_end (option_map takers_of (option_map (λ (x : Site). x.controller) o)) s.channel) (sym (at_node m e)) ∙ ap (λ (x : Place). (shown_at t (parts_of w) x s.channel).end) (sym is))
          (λ d u. ap (λ (v : Bool). (if v then record (shown t (parts_of w) s) { end = end_in site.controller.reassembly site.controller.ports s.channel } else shown t (parts_of w) s).end) u)
      by (Out m p) is = refl

-- *Nothing happens* to the sites
pub idle : (t : Topology) (w after : World) (begun : Reassembler → List Cell) (event : Event) → after.sites ≡ w.sites → after.notes.entries ≡ w.notes.entries → ((taker : Reassembler) → After w begun event after taker ≡ begun taker)
    → Flows t w begun → Known w → Follows t w begun event after
idle t w after begun event sites entries same f k = record {
  flows = record {
    real = subst (λ (es : List Entry). IsReal same_spot yields home es (stretches (After w begun event after)) (shown t (parts_of after))) (sym entries)
        (subst (λ (x : List Site). IsReal same_spot yields home w.notes.entries (stretches (After w begun event after)) (shown t (parts_of (record w { sites = x })))) (sym sites)
        (real_alike same_spot yields home w.notes.entries (stretches begun) (stretches (After w begun event after)) (shown t (parts_of w)) (shown t (parts_of w)) (λ s. refl) (λ s. refl) (λ s. alike s.place s.channel) f.real));
    calm = λ n c found channel e. same (OfController n channel) ∙ f.calm n c (subst (λ (x : List Site). controller_at (record w { sites = x }) n ≡ Some c) sites found) channel e;
  };
  adds = quiet (record { more = []; is = entries ∙ sym (append-nil w.notes.entries); others = tt });
  known = λ n site found. k n site (subst (λ (x : List Site). site_at (record w { sites = x }) n ≡ Some site) sites found);
}
  where
    gsmp : (m : NodeId) (v : Bool) → (if v then After w begun event after (OfSwitch m) else []) ≡ (if v then begun (OfSwitch m) else [])
    gsmp m true = same (OfSwitch m)
    gsmp m false = refl

    alike : (place : Place) (channel : Channel) → stretch_at (After w begun event after) place channel ≡ stretch_at begun place channel
    alike (Up m) channel = same (OfController m channel)
    alike (Down m) channel = gsmp m (same_channel channel default_channel)
    alike (Out m p) channel = refl

-- what a channel of a controller has made of its cells
abbrev reassembly_by : Channel → Option Controller → Option Reassembly
reassembly_by channel o = option_and_then (λ (c : Controller). option_map (reassembly_of c) (taker_of c channel)) o

-- *A controller acts*, and no cell comes to a channel
module _ (t : Topology) (is : IsTopology t) (w : World) (begun : Reassembler → List Cell) (event : Event) (none : (taker : Reassembler) → cell_for taker (arrival w event) ≡ None) (f : Flows t w begun) (k : Known w) (ordered : IsOrderly w)
    (n : NodeId) (old : Site) (found : site_at w n ≡ Some old) (sent : ℕ) (act : Acted → Acted) (kept : (P : Acted → Type 0) → Kept P → (a : Acted) → P a → P (act a)) where
  abbrev base : World
  base = record (put_away w) { sent = sent }

  abbrev begins_with : Acted
  begins_with = record { controller = old.controller; notes = base.notes; numbers = base.numbers }

  abbrev result : Acted
  result = act begins_with

  abbrev pub acted_after : World
  acted_after = tallied (put_away w) (controller_acts base (Some old) act)

  abbrev first : Spot → List Cell
  first = stretches begun

  abbrev chains : Channel → Reassembly
  chains channel = chain_in old.controller.reassembly old.controller.ports channel

  apart : AreApart same_spot yields home (shown t (parts_of base))
  apart = shown_apart t is (parts_of base) ordered.fed

  phase : Phase n (shown t (parts_of base)) first chains w.notes.entries apart result
  phase = kept (Phase n (shown t (parts_of base)) first chains w.notes.entries apart) (phase_kept n (shown t (parts_of base)) first chains w.notes.entries apart) begins_with (record {
    core = record {
      state = inl (record {
        stretches = first;
        real = real_alike same_spot yields home w.notes.entries first first (shown t (parts_of w)) (seen n (shown t (parts_of base)) old.controller.queue old.controller.reassembly old.controller.ports)
            (λ s. self_cells t w n old found s) (λ s. self_end t w n old found s) (λ s. refl) f.real;
        since = λ channel. inl (refl, refl);
        rest = λ s away. refl;
        none = λ channel e. f.calm n old.controller (controller_is w n old found) channel e;
      });
      grown = record { more = []; is = sym (append-nil w.notes.entries); others = tt };
    };
    named = (k n old found).controller;
    node = site_node w n old found;
  })

  abbrev new_site : Site
  new_site = record old { controller = result.controller }

  key : site_key new_site ≡ n.0
  key = ap (λ (x : NodeId). x.0) phase.node

  found_after : (m : NodeId) → n.0 ≡ m.0 → site_at acted_after m ≡ Some new_site
  found_after m e = site_here base n old new_site found key m e

  away_after : (m : NodeId) → n.0 ≢ m.0 → site_at acted_after m ≡ site_at w m
  away_after m d = site_away base n old new_site found key m d

  module _ (orderly : IsOrderly acted_after) where
    left : Leaves t is base n old found first chains w.notes.entries apart result
    left = leaves t is base n old found first chains w.notes.entries apart result phase orderly.fed

    own : (channel : Channel) → left.stretches (up n channel) ≡ After w begun event acted_after (OfController n channel)
    own channel =
        let c : Controller = old.controller in
        let d : Controller = result.controller in
        let was = reassembly_is w n c channel (controller_is w n old found) in
        let now = reassembly_is acted_after n d channel (controller_is acted_after n new_site (found_after n refl)) in
        cut_or_not (begun (OfController n channel)) (left.stretches (up n channel)) (chain_in c.reassembly c.ports channel) (chain_in d.reassembly d.ports channel) (open_in c.ports channel) (open_in d.ports channel)
        (ordered.taken n c (controller_is w n old found) channel) (orderly.taken n d (controller_is acted_after n new_site (found_after n refl)) channel)
        (f.calm n c (controller_is w n old found) channel) (left.since channel)
        ∙ sym (ap₂ (λ (x y : Option Reassembly). stretch_from (begun (OfController n channel)) (cut_turn x y)) was now)
        ∙ sym (ap (stretch_from (begun (OfController n channel))) (turns_without w acted_after event (OfController n channel) (none (OfController n channel))))

    others : (taker : Reassembler) → reassembly_at acted_after taker ≡ reassembly_at w taker → After w begun event acted_after taker ≡ begun taker
    others taker same =
        ap (stretch_from (begun taker)) (turns_without w acted_after event taker (none taker) ∙ ap (cut_turn (reassembly_at w taker)) same) ∙ no_cut (begun taker) (reassembly_at w taker)

    switches : (m : NodeId) → After w begun event acted_after (OfSwitch m) ≡ begun (OfSwitch m)
    switches m = others (OfSwitch m) (site_like base n old new_site found key (λ (o : Option Site). option_map (λ (s : Site). s.switch.reassembly) o) m (λ e. refl))

    elsewhere : (m : NodeId) (channel : Channel) → n.0 ≢ m.0 → After w begun event acted_after (OfController m channel) ≡ begun (OfController m channel)
    elsewhere m channel d = others (OfController m channel) (ap (λ (o : Option Site). reassembly_by channel (option_map (λ (s : Site). s.controller) o)) (away_after m d))

    same_node : (m : NodeId) → n.0 ≡ m.0 → n ≡ m
    same_node m e = ap (λ (x : ℕ). record { 0 = x }) e

    now_stretches : (s : Spot) → stretches (After w begun event acted_after) s ≡ left.stretches s
    now_stretches s = by s.place refl
      where
        gsmp : (m : NodeId) (v : Bool) → (if v then After w begun event acted_after (OfSwitch m) else []) ≡ (if v then begun (OfSwitch m) else [])
        gsmp m true = switches m
        gsmp m false = refl

        by : (place : Place) → s.place ≡ place → stretch_at (After w begun event acted_after) place s.channel ≡ left.stretches s
        by (Up m) at = by_eq n.0 m.0
            (λ e u. ap (λ (x : NodeId). After w begun event acted_after (OfController x s.channel)) (sym (same_node m e)) ∙ sym (own s.channel)
            ∙ ap left.stretches (ap (λ (x : Place). record { place = x; channel = s.channel }) (ap (λ (x : NodeId). Up x) (same_node m e) ∙ sym at)))
            (λ d u. elsewhere m s.channel d ∙ ap (λ (x : Place). stretch_at begun x s.channel) (sym at)
            ∙ sym (left.rest s (λ e. (let both : Up m ≡ Up n = sym at ∙ e in let node : m ≡ n = cc in d (ap (λ (x : NodeId). x.0) (sym node))))))
        by (Down m) at = gsmp m (same_channel s.channel default_channel) ∙ ap (λ (x : Place). stretch_at begun x s.channel) (sym at) ∙ sym (left.rest s (λ e. (let clash : Down m ≡ Up n = sym at ∙ e in cc clash)))
        by (Out m p) at = ap (λ (x : Place). stretch_at begun x s.channel) (sym at) ∙ sym (left.rest s (λ e. (let clash : Out m p ≡ Up n = sym at ∙ e in cc clash)))

    pub acts_follows : Follows t w begun event acted_after
    acts_follows = record {
      flows = record {
        real = real_alike same_spot yields home result.notes.entries left.stretches (stretches (After w begun event acted_after)) (shown t (parts_of (acted_world t is base n old found first chains w.notes.entries apart result))) (shown t (parts_of acted_after))
            (λ s. refl) (λ s. refl) now_stretches left.real;
        calm = λ m c at channel e. by_eq n.0 m.0
            (λ h u. (let here : controller_at acted_after m ≡ Some result.controller = controller_is acted_after m new_site (found_after m h) in
            let same : c ≡ result.controller = (let both : Some c ≡ Some result.controller = sym at ∙ here in cc) in
            ap (λ (x : NodeId). After w begun event acted_after (OfController x channel)) (sym (same_node m h)) ∙ sym (own channel)
            ∙ left.none channel (ap (λ (x : Controller). has_cells (chain_in x.reassembly x.ports channel)) (sym same) ∙ e)))
            (λ d u. elsewhere m channel d ∙ f.calm m c (sym (ap (option_map (λ (s : Site). s.controller)) (away_after m d)) ∙ at) channel e);
      };
      adds = quiet phase.core.grown;
      known = λ m site at. by_eq n.0 m.0
          (λ h u. (let both : Some new_site ≡ Some site = sym (found_after m h) ∙ at in let same : new_site ≡ site = cc in
          subst IsKnown same (record { controller = phase.named; switch = (k n old found).switch; ports = (k n old found).ports; queues = (k n old found).queues })))
          (λ d u. k m site (sym (away_after m d) ∙ at));
    }
