-- the queues of sites: what a change of one site does to them

use Rattle.std.proofs.Common.{◌≡◌, ◌≢◌, ℕ, zero, suc, ◌<◌, ◌==◌, ◌&&◌, Bool, true, false, List, [], ◌∷◌, length, slice_set, slice_index_or, Option, None, Some, refl, sym, ◌∙◌, ap, subst, arith, if◌then◌else◌}
use Rattle.std.specs.Prelude.{drop}
use Rattle.std.specs.Option.{option_map_or}
use Rattle.std.proofs.lemmas.Bool.Decides.{nat_tests}
use Rattle.law_actor_pace.specs.world_model.Words.{NodeId, Place, Down, Up, Out, Cell, at, put, World, Site, site_key, site_at, controller_acts, switch_acts, place_node, queue_in, queue_at, queue_number, same_queue, with_queue, with_queue_in, with_queue_of}
use Rattle.law_actor_pace.specs.world_model.Switch as switches
use Rattle.law_actor_pace.specs.world_model.Controller as controllers
use Rattle.law_actor_pace.specs.world_model.World.{at_controller, at_switch}
use Rattle.law_actor_pace.proofs.world_model.Lists.{by_eq, at_key, at_put_same, at_put_other, index_set, index_here}
use Rattle.law_passing.specs.telling_model.declared.reached.Reached.{Reached}
use Rattle.law_passing.specs.telling_model.declared.reached.Reached.TheVariants.{Controller, Switch}
use Rattle.law_passing.specs.Reached.{owns}
use Rattle.law_passing.proofs.Fronts.{Grows, as_it_was, grows_same, grown_to}
use Rattle.law_passing.proofs.Rules as controller_rules
use Rattle.law_passing.proofs.Switches as switch_rules

abbrev pub waits : List Site → Place → List Cell
waits sites place = option_map_or (λ site. queue_in site place) (at site_key (place_node place).0 sites) []

-- *Cells are added to an actor's queues*, and the others are as they were
pub record Passes (who : Reached) (xs ys : List Site) : Type 0 where
  pub grows : (place : Place) → Grows (waits xs place) (waits ys place)
  pub away : (place : Place) → owns who place ≡ false → waits ys place ≡ waits xs place

pub rests : (who : Reached) (xs : List Site) → Passes who xs xs
rests who xs = record { grows = λ place. as_it_was (waits xs place); away = λ place e. refl }

-- *A site is put in the place of another*
module _ (xs : List Site) (old new : Site) (found : at site_key (site_key new) xs ≡ Some old) where
  pub now_at : (place : Place) → site_key new ≡ (place_node place).0 → waits (put site_key new xs) place ≡ queue_in new place
  now_at place same = ap (λ (o : Option Site). option_map_or (λ site. queue_in site place) o [])
      (subst (λ j. at site_key j (put site_key new xs) ≡ Some new) same (at_put_same site_key new xs old found))

  pub then_at : (place : Place) → site_key new ≡ (place_node place).0 → waits xs place ≡ queue_in old place
  then_at place same = ap (λ (o : Option Site). option_map_or (λ site. queue_in site place) o []) (subst (λ j. at site_key j xs ≡ Some old) same found)

  pub elsewhere : (place : Place) → site_key new ≢ (place_node place).0 → waits (put site_key new xs) place ≡ waits xs place
  elsewhere place apart = ap (λ (o : Option Site). option_map_or (λ site. queue_in site place) o []) (at_put_other site_key new (place_node place).0 xs apart)

  site_passes : (who : Reached) → ((place : Place) → Grows (queue_in old place) (queue_in new place))
      → ((place : Place) → site_key new ≡ (place_node place).0 → owns who place ≡ false → queue_in new place ≡ queue_in old place) → Passes who xs (put site_key new xs)
  site_passes who grows away = record {
    grows = λ place. by_eq (site_key new) (place_node place).0
        (λ same t. grown_to (then_at place same) (now_at place same) (grows place))
        (λ apart t. grows_same (elsewhere place apart));
    away = λ place e. by_eq (site_key new) (place_node place).0
        (λ same t. now_at place same ∙ away place same e ∙ sym (then_at place same))
        (λ apart t. elsewhere place apart);
  }

not_other : (a b : ℕ) → a ≡ b → (a == b) ≡ false → ⊥
not_other a b same e = absurd (grind (arith, nat_tests, same, e))

-- *An actor acts*
module _ (w : World) (node : NodeId) where
  pub controller_passes : (act : controllers.Acted → controllers.Acted) → ((a : controllers.Acted) → controller_rules.Adds a (act a))
      → Passes (Controller node) w.sites (at_controller w node act).sites
  controller_passes act adds = by (site_at w node) refl
    where
      by : (o : Option Site) → site_at w node ≡ o → Passes (Controller node) w.sites (controller_acts w o act).sites
      by None found = rests (Controller node) w.sites
      by (Some site) found = site_passes w.sites site new (subst (λ j. at site_key j w.sites ≡ Some site) (sym key) found) (Controller node) grows away
        where
          a : controllers.Acted
          a = record { controller = site.controller; notes = w.notes; numbers = w.numbers }

          new : Site
          new = record site { controller = (act a).controller }

          key : site_key new ≡ node.0
          key = ap (λ (n : NodeId). n.0) (adds a).node ∙ at_key site_key node.0 w.sites site found

          grows : (place : Place) → Grows (queue_in site place) (queue_in new place)
          grows (Down n) = (adds a).queue
          grows (Up n) = as_it_was (queue_in site (Up n))
          grows (Out n p) = as_it_was (queue_in site (Out n p))

          away : (place : Place) → site_key new ≡ (place_node place).0 → owns (Controller node) place ≡ false → queue_in new place ≡ queue_in site place
          away (Down n) same e = absurd (not_other node.0 n.0 (sym key ∙ same) e)
          away (Up n) same e = refl
          away (Out n p) same e = refl

  pub switch_passes : (act : switches.ActedSwitch → switches.ActedSwitch) → ((a : switches.ActedSwitch) → switch_rules.Adds a (act a))
      → Passes (Switch node) w.sites (at_switch w node act).sites
  switch_passes act adds = by (site_at w node) refl
    where
      by : (o : Option Site) → site_at w node ≡ o → Passes (Switch node) w.sites (switch_acts w o act).sites
      by None found = rests (Switch node) w.sites
      by (Some site) found = site_passes w.sites site new (subst (λ j. at site_key j w.sites ≡ Some site) (sym key) found) (Switch node) grows away
        where
          a : switches.ActedSwitch
          a = record { switch = site.switch; notes = w.notes; numbers = w.numbers }

          new : Site
          new = record site { switch = (act a).switch }

          key : site_key new ≡ node.0
          key = at_key site_key node.0 w.sites site found

          grows : (place : Place) → Grows (queue_in site place) (queue_in new place)
          grows (Down n) = as_it_was site.controller.queue
          grows (Up n) = adds a switches.control_port
          grows (Out n p) = adds a p

          away : (place : Place) → site_key new ≡ (place_node place).0 → owns (Switch node) place ≡ false → queue_in new place ≡ queue_in site place
          away (Down n) same e = refl
          away (Up n) same e = absurd (not_other node.0 n.0 (sym key ∙ same) e)
          away (Out n p) same e = absurd (not_other node.0 n.0 (sym key ∙ same) e)

-- *A cell is taken*
within : (queues : List (List Cell)) (i : ℕ) (cell : Cell) (cells : List Cell) → slice_index_or queues i [] ≡ cell ∷ cells → i < length queues
within [] i cell cells e = absurd (cc e)
within (queue ∷ queues) zero cell cells e = omega arith
within (queue ∷ queues) (suc i) cell cells e = omega (arith, within queues i cell cells e)

set_at : (queues : List (List Cell)) (i j : ℕ) (cell : Cell) (cells : List Cell) → i ≡ j → slice_index_or queues i [] ≡ cell ∷ cells → slice_index_or (slice_set queues i cells) j [] ≡ cells
set_at queues i j cell cells same e = subst (λ k. slice_index_or (slice_set queues i cells) k [] ≡ cells) same (index_here queues i cells [] (within queues i cell cells e))

-- two places that name one queue
same_in : (site : Site) (one other : Place) → queue_number one ≡ queue_number other → queue_in site one ≡ queue_in site other
same_in site (Down m) (Down n) e = refl
same_in site (Down m) (Up n) e = absurd (omega (arith, e))
same_in site (Down m) (Out n q) e = absurd (omega (arith, e))
same_in site (Up m) (Down n) e = absurd (omega (arith, e))
same_in site (Up m) (Up n) e = refl
same_in site (Up m) (Out n q) e = (let z : 0 ≡ q.0 = omega (arith, e) in ap (λ (i : ℕ). slice_index_or site.switch.crossbar.queues i []) z)
same_in site (Out m p) (Down n) e = absurd (omega (arith, e))
same_in site (Out m p) (Up n) e = (let z : p.0 ≡ 0 = omega (arith, e) in ap (λ (i : ℕ). slice_index_or site.switch.crossbar.queues i []) z)
same_in site (Out m p) (Out n q) e = (let z : p.0 ≡ q.0 = omega (arith, e) in ap (λ (i : ℕ). slice_index_or site.switch.crossbar.queues i []) z)

module _ (site : Site) (cell : Cell) (cells : List Cell) where
  set_in : (source place : Place) → queue_in site source ≡ cell ∷ cells → queue_number source ≡ queue_number place → queue_in (with_queue_in site source cells) place ≡ cells
  set_in (Down m) (Down n) is e = refl
  set_in (Down m) (Up n) is e = absurd (omega (arith, e))
  set_in (Down m) (Out n q) is e = absurd (omega (arith, e))
  set_in (Up m) (Down n) is e = absurd (omega (arith, e))
  set_in (Up m) (Up n) is e = set_at site.switch.crossbar.queues 0 0 cell cells refl is
  set_in (Up m) (Out n q) is e = set_at site.switch.crossbar.queues 0 q.0 cell cells (omega (arith, e)) is
  set_in (Out m p) (Down n) is e = absurd (omega (arith, e))
  set_in (Out m p) (Up n) is e = set_at site.switch.crossbar.queues p.0 0 cell cells (omega (arith, e)) is
  set_in (Out m p) (Out n q) is e = set_at site.switch.crossbar.queues p.0 q.0 cell cells (omega (arith, e)) is

  kept_in : (source place : Place) → queue_number source ≢ queue_number place → queue_in (with_queue_in site source cells) place ≡ queue_in site place
  kept_in (Down m) (Down n) apart = absurd (apart refl)
  kept_in (Down m) (Up n) apart = refl
  kept_in (Down m) (Out n q) apart = refl
  kept_in (Up m) (Down n) apart = refl
  kept_in (Up m) (Up n) apart = absurd (apart refl)
  kept_in (Up m) (Out n q) apart = index_set site.switch.crossbar.queues 0 q.0 cells [] (λ e. apart (ap suc e))
  kept_in (Out m p) (Down n) apart = refl
  kept_in (Out m p) (Up n) apart = index_set site.switch.crossbar.queues p.0 0 cells [] (λ e. apart (ap suc e))
  kept_in (Out m p) (Out n q) apart = index_set site.switch.crossbar.queues p.0 q.0 cells [] (λ e. apart (ap suc e))

key_kept : (site : Site) (place : Place) (cells : List Cell) → site_key (with_queue_in site place cells) ≡ site_key site
key_kept site (Down node) cells = refl
key_kept site (Up node) cells = refl
key_kept site (Out node port) cells = refl

pub one_queue : (w : World) (one other : Place) → (place_node one).0 ≡ (place_node other).0 → queue_number one ≡ queue_number other → queue_at w one ≡ queue_at w other
one_queue w one other node number = ap (λ (k : ℕ). option_map_or (λ site. queue_in site one) (at site_key k w.sites) []) node ∙ by (at site_key (place_node other).0 w.sites)
  where
    by : (o : Option Site) → option_map_or (λ site. queue_in site one) o [] ≡ option_map_or (λ site. queue_in site other) o []
    by None = refl
    by (Some site) = same_in site one other number

-- whether two places name one queue
pub by_queue : {P : Type 0} (one other : Place) → ((place_node one).0 ≡ (place_node other).0 → queue_number one ≡ queue_number other → same_queue one other ≡ true → P)
    → ((place_node one).0 ≢ (place_node other).0 → same_queue one other ≡ false → P) → ((place_node one).0 ≡ (place_node other).0 → queue_number one ≢ queue_number other → same_queue one other ≡ false → P) → P
by_queue one other same away apart = by_eq (place_node one).0 (place_node other).0
    (λ node t. by_eq (queue_number one) (queue_number other) (λ number u. same node number (λ i. t i && u i)) (λ number u. apart node number (λ i. t i && u i)))
    (λ node t. away node (ap (λ b. b && (queue_number one == queue_number other)) t))

module _ (w : World) (source : Place) (cell : Cell) (cells : List Cell) where
  pub taken_is : queue_at w source ≡ cell ∷ cells → (place : Place)
      → waits (with_queue w source cells).sites place ≡ (if same_queue source place then drop 1 (queue_at w place) else queue_at w place)
  taken_is is place = by (site_at w (place_node source)) refl is
    where
      by : (o : Option Site) → site_at w (place_node source) ≡ o → option_map_or (λ site. queue_in site source) o [] ≡ cell ∷ cells
          → waits (with_queue_of w source cells o).sites place ≡ (if same_queue source place then drop 1 (queue_at w place) else queue_at w place)
      by None found e = absurd (cc e)
      by (Some site) found e =
          let new : Site = with_queue_in site source cells in
          let key : site_key new ≡ (place_node source).0 = key_kept site source cells ∙ at_key site_key (place_node source).0 w.sites site found in
          let here : at site_key (site_key new) w.sites ≡ Some site = subst (λ j. at site_key j w.sites ≡ Some site) (sym key) found in
          let To : Bool → Type 0 = λ b. waits (put site_key new w.sites) place ≡ (if b then drop 1 (queue_at w place) else queue_at w place) in
          by_queue source place
          (λ node number t. subst To (sym t)
          (now_at w.sites site new here place (key ∙ node) ∙ set_in site cell cells source place e number ∙ sym (ap (drop 1) (sym (one_queue w source place node number) ∙ is))))
          (λ node t. subst To (sym t) (elsewhere w.sites site new here place (λ same. node (sym key ∙ same))))
          (λ node number t. subst To (sym t)
          (now_at w.sites site new here place (key ∙ node) ∙ kept_in site cell cells source place number ∙ sym (then_at w.sites site new here place (key ∙ node))))
