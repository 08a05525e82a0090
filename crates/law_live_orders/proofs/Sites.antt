-- a network in which a cell is taken from a queue, and then a switch acts

use Rattle.std.proofs.Common.{◌≡◌, ◌≢◌, ℕ, suc, Bool, true, false, List, [], ◌∷◌, length, Option, None, Some, refl, sym, ◌∙◌, ap, subst, nat_eq, if◌then◌else◌}
use Rattle.std.specs.Option.{option_and_then}
use Rattle.world_model.specs.Words.{NodeId, Place, Down, Up, Out, Channel, End, Cell, at, put, control_port, World, Site, site_key, site_at, switch_acts, place_node, queue_in, with_queue, with_queue_in, with_queue_of, AreShaped, output_at}
use Rattle.world_model.specs.Switch.{ActedSwitch}
use Rattle.world_model.specs.World.{at_switch}
use Rattle.world_model.specs.crossbar_model.Crossbar.{output_of}
use Rattle.world_model.proofs.Lists.{by_eq, at_key, at_put_same, at_put_other, length_set}
use Rattle.law_passing.proofs.Queues.{waits, now_at, then_at, elsewhere}
use Rattle.law_live_orders.specs.Law.{last_marks}

-- *A switch acts*, and so the queues of its node are its own
abbrev pub acting : World → Site → ActedSwitch
acting w site = record { switch = site.switch; notes = w.notes; numbers = w.numbers }

abbrev pub acted : World → Site → (ActedSwitch → ActedSwitch) → Site
acted w site act = record site { switch = (act (acting w site)).switch }

module _ (w : World) (node : NodeId) (act : ActedSwitch → ActedSwitch) (place : Place) where
  key_is : (site : Site) → site_at w node ≡ Some site → site_key (acted w site act) ≡ node.0
  key_is site found = at_key site_key node.0 w.sites site found

  found_by_key : (site : Site) (found : site_at w node ≡ Some site) → at site_key (site_key (acted w site act)) w.sites ≡ Some site
  found_by_key site found = subst (λ (j : ℕ). at site_key j w.sites ≡ Some site) (sym (key_is site found)) found

  pub marks_kept : (channel : Channel) → ((site : Site) → site_at w (place_node place) ≡ Some site → node.0 ≡ (place_node place).0
      → last_marks channel (queue_in (acted w site act) place) ≡ last_marks channel (queue_in site place))
      → last_marks channel (waits (at_switch w node act).sites place) ≡ last_marks channel (waits w.sites place)
  marks_kept channel keeps = by (site_at w node) refl
    where
      by : (o : Option Site) → site_at w node ≡ o → last_marks channel (waits (switch_acts w o act).sites place) ≡ last_marks channel (waits w.sites place)
      by None found = refl
      by (Some site) found = by_eq (site_key (acted w site act)) (place_node place).0
          (λ same t. ap (last_marks channel) (now_at w.sites site (acted w site act) (found_by_key site found) place same)
          ∙ (keeps site (subst (λ (j : ℕ). at site_key j w.sites ≡ Some site) (sym (key_is site found) ∙ same) found) (sym (key_is site found) ∙ same)
          ∙ sym (ap (last_marks channel) (then_at w.sites site (acted w site act) (found_by_key site found) place same))))
          (λ apart t. ap (last_marks channel) (elsewhere w.sites site (acted w site act) (found_by_key site found) place apart))

  pub queue_now : (site : Site) → site_at w (place_node place) ≡ Some site → node.0 ≡ (place_node place).0 → waits (at_switch w node act).sites place ≡ queue_in (acted w site act) place
  queue_now site found same =
      let here : site_at w node ≡ Some site = subst (λ (j : ℕ). at site_key j w.sites ≡ Some site) (sym same) found in
      ap (λ (o : Option Site). waits (switch_acts w o act).sites place) here
      ∙ now_at w.sites site (acted w site act) (found_by_key site here) place (key_is site here ∙ same)

-- *A cell is taken from a queue*: each switch keeps its branches and the number of its queues, and all of it where the queue isn't
-- its own
abbrev pub IsAway : Place → NodeId → Type 0
IsAway (Down node) other = Unit {0}
IsAway (Up node) other = node.0 ≢ other.0
IsAway (Out node port) other = node.0 ≢ other.0

pub record WasThere (w : World) (place : Place) (node : NodeId) (now : Site) : Type 0 where
  pub site : Site
  pub found : site_at w node ≡ Some site
  pub branches : now.switch.crossbar.branches ≡ site.switch.crossbar.branches
  pub size : length now.switch.crossbar.queues ≡ length site.switch.crossbar.queues
  pub same : IsAway place node → now.switch ≡ site.switch

pub record IsThere (w : World) (node : NodeId) : Type 0 where
  pub site : Site
  pub found : site_at w node ≡ Some site

module _ (old : Site) (cells : List Cell) where
  key_stays : (p : Place) → site_key (with_queue_in old p cells) ≡ site_key old
  key_stays (Down node) = refl
  key_stays (Up node) = refl
  key_stays (Out node port) = refl

  branches_stay : (p : Place) → (with_queue_in old p cells).switch.crossbar.branches ≡ old.switch.crossbar.branches
  branches_stay (Down node) = refl
  branches_stay (Up node) = refl
  branches_stay (Out node port) = refl

  size_stays : (p : Place) → length (with_queue_in old p cells).switch.crossbar.queues ≡ length old.switch.crossbar.queues
  size_stays (Down node) = refl
  size_stays (Up node) = length_set old.switch.crossbar.queues control_port.0 cells
  size_stays (Out node port) = length_set old.switch.crossbar.queues port.0 cells

  switch_stays : (p : Place) (node : NodeId) → (place_node p).0 ≡ node.0 → IsAway p node → (with_queue_in old p cells).switch ≡ old.switch
  switch_stays (Down own) node same away = refl
  switch_stays (Up own) node same away = absurd (away same)
  switch_stays (Out own port) node same away = absurd (away same)

module _ (w : World) (place : Place) (cells : List Cell) (node : NodeId) where
  one_site : (a b : Site) → Some a ≡ Some b → a ≡ b
  one_site a b e = cc

  module _ (old : Site) (found : site_at w (place_node place) ≡ Some old) where
    abbrev new : Site
    new = with_queue_in old place cells

    new_key : site_key new ≡ (place_node place).0
    new_key = key_stays old cells place ∙ at_key site_key (place_node place).0 w.sites old found

    put_here : (place_node place).0 ≡ node.0 → at site_key node.0 (put site_key new w.sites) ≡ Some new
    put_here same = subst (λ (j : ℕ). at site_key j (put site_key new w.sites) ≡ Some new) (new_key ∙ same)
        (at_put_same site_key new w.sites old (subst (λ (j : ℕ). at site_key j w.sites ≡ Some old) (sym new_key) found))

    put_there : (place_node place).0 ≢ node.0 → at site_key node.0 (put site_key new w.sites) ≡ site_at w node
    put_there apart = at_put_other site_key new node.0 w.sites (λ e. apart (sym new_key ∙ e))

  pub was_there : (now : Site) → site_at (with_queue w place cells) node ≡ Some now → WasThere w place node now
  was_there now e = by (site_at w (place_node place)) refl e
    where
      by : (o : Option Site) → site_at w (place_node place) ≡ o → site_at (with_queue_of w place cells o) node ≡ Some now → WasThere w place node now
      by None found e = record { site = now; found = e; branches = refl; size = refl; same = λ away. refl }
      by (Some old) found e = by_eq (place_node place).0 node.0
          (λ same t. (let one : now ≡ new old found = one_site now (new old found) (sym e ∙ put_here old found same) in
          record {
            site = old;
            found = subst (λ (j : ℕ). at site_key j w.sites ≡ Some old) same found;
            branches = ap (λ (s : Site). s.switch.crossbar.branches) one ∙ branches_stay old cells place;
            size = ap (λ (s : Site). length s.switch.crossbar.queues) one ∙ size_stays old cells place;
            same = λ away. ap (λ (s : Site). s.switch) one ∙ switch_stays old cells place node same away;
          }))
          (λ apart t. record { site = now; found = sym (put_there old found apart) ∙ e; branches = refl; size = refl; same = λ away. refl })

  pub still_there : IsThere w node → IsThere (with_queue w place cells) node
  still_there is = by (site_at w (place_node place)) refl
    where
      by : (o : Option Site) → site_at w (place_node place) ≡ o → IsThere (with_queue_of w place cells o) node
      by None found = is
      by (Some old) found = by_eq (place_node place).0 node.0
          (λ same t. record { site = new old found; found = put_here old found same })
          (λ apart t. record { site = is.site; found = put_there old found apart ∙ is.found })

-- *Where an input leads* there is a node
pub leads_there : (w : World) (node : NodeId) (input output : End) → output_at w node input ≡ Some output → IsThere w node
leads_there w node input output e = by (site_at w node) refl e
  where
    by : (o : Option Site) → site_at w node ≡ o → option_and_then (λ (s : Site). output_of s.switch.crossbar.branches input) o ≡ Some output → IsThere w node
    by None found e = absurd (cc e)
    by (Some site) found e = record { site = site; found = found }

pub output_there : (w : World) (node : NodeId) (input : End) (site : Site) → site_at w node ≡ Some site → output_at w node input ≡ output_of site.switch.crossbar.branches input
output_there w node input site found = ap (λ (o : Option Site). option_and_then (λ (s : Site). output_of s.switch.crossbar.branches input) o) found

-- *Its shape*: nine queues
shaped_among : (number : ℕ) (sites : List Site) (k : ℕ) (site : Site) → AreShaped number sites → at site_key k sites ≡ Some site → length site.switch.crossbar.queues ≡ 9
shaped_among number [] k site shaped e = absurd (cc e)
shaped_among number (s ∷ sites) k site shaped e = by (nat_eq (site_key s) k) e (shaped_among (suc number) sites k site shaped.1)
  where
    by : (b : Bool) → (if b then Some s else at site_key k sites) ≡ Some site → (at site_key k sites ≡ Some site → length site.switch.crossbar.queues ≡ 9)
        → length site.switch.crossbar.queues ≡ 9
    by true e later = (let one : s ≡ site = cc in subst (λ (x : Site). length x.switch.crossbar.queues ≡ 9) one shaped.0.queues)
    by false e later = later e

pub nine_queues : (w : World) (node : NodeId) (site : Site) → AreShaped 1 w.sites → site_at w node ≡ Some site → length site.switch.crossbar.queues ≡ 9
nine_queues w node site shaped found = shaped_among 1 w.sites node.0 site shaped found
