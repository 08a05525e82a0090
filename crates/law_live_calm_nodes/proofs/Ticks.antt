-- the ticks that begin a beat: whose turn it is ticks as it was when the beat began

use Rattle.std.proofs.Common.{◌≡◌, ◌≢◌, ℕ, suc, ◌<◌, Bool, List, [], ◌∷◌, ◌++◌, append_assoc, append-nil, Option, Some, map, refl, sym, ◌∙◌, ap, subst, arith, if◌then◌else◌}
use Rattle.std.specs.Option.{option_map}
use Rattle.world_model.specs.Words.{NodeId, at, Switch, tick_comes, Topology, World, Site, site_key, site_at, AreShaped, IsShaped, put_away, next, tick_of, switch_tick_of, tick_of_all, world_after}
use Rattle.world_model.specs.Ticks.{ticks}
use Rattle.world_model.specs.network_model.declared.event.Event.{Event}
use Rattle.world_model.specs.network_model.declared.event.Event.TheVariants.{Tick, TickSwitch}
use Rattle.world_model.proofs.Lists.{by_eq}
use Rattle.law_live_peace.specs.law_run_facts.ordered_lists.Ordered.{Every}
use Rattle.law_live_peace.proofs.law_run_facts.ordered_lists.Every.{every_join, every_right}
use Rattle.law_passing.proofs.Controllers.{ticks_adds}
use Rattle.law_live_peace.proofs.law_live_control_links.Sites.{controller_elsewhere, switch_elsewhere}
use Rattle.law_live_calm_nodes.proofs.Parts.{part_at, controller_part}

-- *Each of them* is a tick
pub data IsTick : Event → Type 0 where
  of_controller : (here : NodeId) → IsTick (Tick here)
  of_switch : (here : NodeId) → IsTick (TickSwitch here)

controllers_tick : (sites : List Site) → Every IsTick (map tick_of sites)
controllers_tick [] = tt
controllers_tick (s ∷ sites) = (of_controller s.controller.node, controllers_tick sites)

switches_tick : (sites : List Site) → Every IsTick (map switch_tick_of sites)
switches_tick [] = tt
switches_tick (s ∷ sites) = (of_switch s.controller.node, switches_tick sites)

pub all_ticks : (w : World) (front rest : List Event) (event : Event) → tick_of_all w ≡ front ++ event ∷ rest → IsTick event
all_ticks w front rest event e = (every_right IsTick front (event ∷ rest)
    (subst (Every IsTick) e (every_join IsTick (map tick_of w.sites) (map switch_tick_of w.sites) (controllers_tick w.sites) (switches_tick w.sites)))).0

head_is : (x y : Event) (xs ys : List Event) → x ∷ xs ≡ y ∷ ys → x ≡ y
head_is x y xs ys e = cc e

tail_is : (x y : Event) (xs ys : List Event) → x ∷ xs ≡ y ∷ ys → xs ≡ ys
tail_is x y xs ys e = cc e

-- *Ticks of one kind*, in the order of the nodes: a part of a node that the ticks of others leave is as it was when its turn comes
module _ (topology : Topology) (t : NodeId → Event) (named : (a b : NodeId) → t a ≡ t b → a.0 ≡ b.0) {B : Type 0} (part : World → NodeId → Option B)
    (elsewhere : (v : World) (node here : NodeId) → here.0 ≢ node.0 → part (next topology v (t here)) node ≡ part v node) where
  abbrev turn_of : Site → Event
  turn_of site = t site.controller.node

  abbrev IsOther : NodeId → Event → Type 0
  IsOther here event = event ≢ t here

  no_later : (m : ℕ) (here : NodeId) (sites : List Site) → here.0 < m → AreShaped m sites → Every (IsOther here) (map turn_of sites)
  no_later m here [] low shaped = tt
  no_later m here (s ∷ sites) low shaped =
      ((λ e. omega (arith, named s.controller.node here e, shaped.0.node, low)), no_later (suc m) here sites (omega (arith, low)) shaped.1)

  pub waits_turn : (m : ℕ) (sites : List Site) (more : List Event) (v : World) (front rest : List Event) (here : NodeId) → AreShaped m sites → Every (IsOther here) more
      → map turn_of sites ++ more ≡ front ++ t here ∷ rest → part (world_after topology v front) here ≡ part v here
  waits_turn m [] more v front rest here shaped others e = absurd ((every_right (IsOther here) front (t here ∷ rest) (subst (Every (IsOther here)) e others)).0 refl)
  waits_turn m (s ∷ sites) more v [] rest here shaped others e = refl
  waits_turn m (s ∷ sites) more v (x ∷ front) rest here shaped others e = by_eq s.controller.node.0 here.0
      (λ same d. absurd ((every_right (IsOther here) front (t here ∷ rest) (subst (Every (IsOther here)) later
      (every_join (IsOther here) (map turn_of sites) more (no_later (suc m) here sites (omega (arith, same, shaped.0.node)) shaped.1) others))).0 refl))
      (λ apart d. waits_turn (suc m) sites more (next topology v x) front rest here shaped.1 others later
      ∙ subst (λ (event : Event). part (next topology v event) here ≡ part v here) (head_is (t s.controller.node) x (map turn_of sites ++ more) (front ++ t here ∷ rest) e)
      (elsewhere v here s.controller.node apart))
    where
      later : map turn_of sites ++ more ≡ front ++ t here ∷ rest
      later = tail_is (t s.controller.node) x (map turn_of sites ++ more) (front ++ t here ∷ rest) e

one_controller : (a b : NodeId) → Tick a ≡ Tick b → a.0 ≡ b.0
one_controller a b e = (let same : a ≡ b = cc in ap (λ (n : NodeId). n.0) same)

one_switch : (a b : NodeId) → TickSwitch a ≡ TickSwitch b → a.0 ≡ b.0
one_switch a b e = (let same : a ≡ b = cc in ap (λ (n : NodeId). n.0) same)

not_controllers : (here : NodeId) (sites : List Site) → Every (λ (event : Event). event ≢ Tick here) (map switch_tick_of sites)
not_controllers here [] = tt
not_controllers here (s ∷ sites) = ((λ e. cc e), not_controllers here sites)

abbrev switch_at : World → NodeId → Option Switch
switch_at = part_at (λ (site : Site). site.switch)

module _ (topology : Topology) where
  -- *A node* is as it was before its controller ticks
  pub site_waits : (w : World) (front rest : List Event) (here : NodeId) → IsShaped w → tick_of_all w ≡ front ++ Tick here ∷ rest
      → site_at (world_after topology w front) here ≡ site_at w here
  site_waits w front rest here shaped e = waits_turn topology Tick one_controller site_at
      (λ v node other apart. controller_elsewhere (put_away v) node other ticks (λ b. (ticks_adds b).node) apart) 1 w.sites (map switch_tick_of w.sites) w front rest here shaped
      (not_controllers here w.sites) e

  -- *and its switch* before that ticks
  keeps_switch : (v : World) (node here : NodeId) → switch_at (next topology v (Tick here)) node ≡ switch_at v node
  keeps_switch v node here = controller_part (λ (site : Site). site.switch) (λ site c. refl) (put_away v) node here ticks (λ b. (ticks_adds b).node)

  past_controllers : (sites all : List Site) (v : World) (front rest : List Event) (here : NodeId) → AreShaped 1 all
      → map tick_of sites ++ map switch_tick_of all ≡ front ++ TickSwitch here ∷ rest → switch_at (world_after topology v front) here ≡ switch_at v here
  past_controllers [] all v front rest here shaped e = waits_turn topology TickSwitch one_switch switch_at
      (λ u node other apart. ap (option_map (λ (site : Site). site.switch)) (switch_elsewhere (put_away u) node other tick_comes apart)) 1 all [] v front rest here shaped tt
      (append-nil (map switch_tick_of all) ∙ e)
  past_controllers (s ∷ sites) all v [] rest here shaped e = absurd (cc e)
  past_controllers (s ∷ sites) all v (x ∷ front) rest here shaped e =
      past_controllers sites all (next topology v x) front rest here shaped (tail_is (tick_of s) x (map tick_of sites ++ map switch_tick_of all) (front ++ TickSwitch here ∷ rest) e)
      ∙ subst (λ (event : Event). switch_at (next topology v event) here ≡ switch_at v here)
      (head_is (tick_of s) x (map tick_of sites ++ map switch_tick_of all) (front ++ TickSwitch here ∷ rest) e) (keeps_switch v here s.controller.node)

  pub switch_waits : (w : World) (front rest : List Event) (here : NodeId) → IsShaped w → tick_of_all w ≡ front ++ TickSwitch here ∷ rest
      → switch_at (world_after topology w front) here ≡ switch_at w here
  switch_waits w front rest here shaped e = past_controllers w.sites w.sites w front rest here shaped e

-- *The tick of a switch* among the others: behind it more of switches come, and nothing else
pub record TicksAmong (w : World) (node : NodeId) : Type 0 where
  pub front : List Event
  pub later : List Site
  pub are : tick_of_all w ≡ front ++ TickSwitch node ∷ map switch_tick_of later

same_node : (a b : NodeId) → a.0 ≡ b.0 → a ≡ b
same_node a b e = λ i. record { 0 = e i }

record IsAmong (node : NodeId) (events : List Event) : Type 0 where
  first : List Event
  later : List Site
  are : events ≡ first ++ TickSwitch node ∷ map switch_tick_of later

among : (node : NodeId) (site : Site) (sites : List Site) → at site_key node.0 sites ≡ Some site → IsAmong node (map switch_tick_of sites)
among node site [] e = absurd (cc e)
among node site (s ∷ sites) e = by_eq (site_key s) node.0
    (λ same d. record { first = []; later = sites; are = ap (λ (n : NodeId). TickSwitch n ∷ map switch_tick_of sites) (same_node s.controller.node node same) })
    (λ apart d. (let r : IsAmong node (map switch_tick_of sites) = among node site sites (sym (ap (λ (b : Bool). if b then Some s else at site_key node.0 sites) d) ∙ e) in
    record { first = switch_tick_of s ∷ r.first; later = r.later; are = ap (λ (es : List Event). switch_tick_of s ∷ es) r.are }))

pub switch_among : (w : World) (node : NodeId) (site : Site) → site_at w node ≡ Some site → TicksAmong w node
switch_among w node site found =
    let r : IsAmong node (map switch_tick_of w.sites) = among node site w.sites found in
    record {
      front = map tick_of w.sites ++ r.first;
      later = r.later;
      are = ap (λ (es : List Event). map tick_of w.sites ++ es) r.are ∙ sym (append_assoc (map tick_of w.sites) r.first (TickSwitch node ∷ map switch_tick_of r.later));
    }
