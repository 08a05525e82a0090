-- what is so of a world in a run stays so with each event

use Rattle.std.proofs.Common.{◌≡◌, ℕ, zero, suc, ◌+◌, ◌≤◌, Bool, true, List, [], ◌∷◌, ◌++◌, length, map, slice_set, Option, None, Some, refl, sym, ◌∙◌, ap, subst, arith, flat_map, if◌then◌else◌}
use Rattle.std.proofs.lemmas.List.Concat.{flat_map-cons}
use Rattle.std.specs.Option.{option_map_or}
use Rattle.law_actor_pace.specs.world_model.Words.{NodeId, Place, Down, Up, Out, Cell, at, put, numbers_of, Controller, place_node, queue_in, queue_at, with_queue, with_queue_in, with_queue_of, places_of, Topology, World, Site, site_key, site_at, controller_acts, switch_acts}
use Rattle.law_actor_pace.specs.world_model.Switch as switches
use Rattle.law_actor_pace.specs.world_model.Controller as controllers
use Rattle.law_actor_pace.specs.world_model.Controller.{ports_of}
use Rattle.law_actor_pace.specs.world_model.Topology as topologies
use Rattle.law_actor_pace.specs.world_model.World.{at_controller, at_switch}
use Rattle.law_actor_pace.proofs.world_model.Lists.{by_eq, at_key}
use Rattle.law_actor_pace.specs.Pace.{AreUpTo, AreAllUpTo, changes_of}
use Rattle.law_actor_pace.proofs.Cells.{every_less, all_less, every_set, every_at}
use Rattle.law_actor_pace.proofs.Switches as switch_pace
use Rattle.law_world_pace.specs.Running.{most_frame, numbered, AreNumbered, IsRunningSite, AreRunning}

-- *Nodes that run are numbered in order*
pub are_numbered : (t : Topology) (events number : ℕ) (sites : List Site) → AreRunning t events number sites → AreNumbered number sites
are_numbered t events number [] h = tt
are_numbered t events number (site ∷ sites) h = (h.0.node, are_numbered t events (suc number) sites h.1)

module _ (t : Topology) (events : ℕ) where
  -- one more event
  later : (number : ℕ) (site : Site) → IsRunningSite t events number site → IsRunningSite t (events + 1) number site
  later number site h = record {
    node = h.node;
    ports = h.ports;
    switch_ports = h.switch_ports;
    size = h.size;
    queue = every_less (most_frame events) (most_frame (events + 1)) (omega arith) site.controller.queue h.queue;
    queues = all_less (most_frame events) (most_frame (events + 1)) (omega arith) site.switch.crossbar.queues h.queues;
    changes = omega (arith, h.changes);
  }

  pub all_later : (number : ℕ) (sites : List Site) → AreRunning t events number sites → AreRunning t (events + 1) number sites
  all_later number [] h = tt
  all_later number (site ∷ sites) h = (later number site h.0, all_later (suc number) sites h.1)

  -- a node is put in the place of itself
  pub put_runs : (new old : Site) (number : ℕ) (sites : List Site) → at site_key (site_key new) sites ≡ Some old
      → ((number : ℕ) → IsRunningSite t events number old → IsRunningSite t (events + 1) number new)
      → AreRunning t events number sites → AreRunning t (events + 1) number (put site_key new sites)
  put_runs new old number [] found keeps h = tt
  put_runs new old number (site ∷ sites) found keeps h = by_eq (site_key site) (site_key new)
      (λ e is. (let it : old ≡ site = same_site is in
      subst (λ (b : Bool). AreRunning t (events + 1) number (if b then new ∷ sites else site ∷ put site_key new sites)) (sym is)
      (keeps number (subst (IsRunningSite t events number) (sym it) h.0), all_later (suc number) sites h.1)))
      (λ n is. subst (λ (b : Bool). AreRunning t (events + 1) number (if b then new ∷ sites else site ∷ put site_key new sites)) (sym is)
      (later number site h.0, put_runs new old (suc number) sites (subst (λ (b : Bool). (if b then Some site else at site_key (site_key new) sites) ≡ Some old) is found) keeps h.1))
    where
      same_site : (Rattle.std.specs.Prelude.nat_eq (site_key site) (site_key new)) ≡ true → old ≡ site
      same_site is = (let got : Some site ≡ Some old = subst (λ (b : Bool). (if b then Some site else at site_key (site_key new) sites) ≡ Some old) is found in cc)

  -- *Its queues*
  pub site_runs : (number k : ℕ) (sites : List Site) (site : Site) → AreRunning t events number sites → at site_key k sites ≡ Some site → IsRunningSite t events k site
  site_runs number k [] site h e = absurd (cc e)
  site_runs number k (x ∷ sites) site h e = by_eq (site_key x) k
      (λ same is. (let it : Some x ≡ Some site = subst (λ (b : Bool). (if b then Some x else at site_key k sites) ≡ Some site) is e in
      let one : x ≡ site = cc in
      subst (IsRunningSite t events k) one (subst (λ n. IsRunningSite t events n x) (omega (arith, h.0.node, same)) h.0)))
      (λ n is. site_runs (suc number) k sites site h.1 (subst (λ (b : Bool). (if b then Some x else at site_key k sites) ≡ Some site) is e))

  queue_in_up : (number : ℕ) (site : Site) (place : Place) → IsRunningSite t events number site → AreUpTo (most_frame events) (queue_in site place)
  queue_in_up number site (Down node) h = h.queue
  queue_in_up number site (Up node) h = every_at (AreUpTo (most_frame events)) site.switch.crossbar.queues 0 [] h.queues tt
  queue_in_up number site (Out node port) h = every_at (AreUpTo (most_frame events)) site.switch.crossbar.queues port.0 [] h.queues tt

  pub queue_up : (w : World) (place : Place) → AreRunning t events 1 w.sites → AreUpTo (most_frame events) (queue_at w place)
  queue_up w place h = by_site (site_at w (place_node place)) refl
    where
      by_site : (o : Option Site) → site_at w (place_node place) ≡ o → AreUpTo (most_frame events) (option_map_or (λ site. queue_in site place) o [])
      by_site None e = tt
      by_site (Some site) e = queue_in_up (place_node place).0 site place (site_runs 1 (place_node place).0 w.sites site h e)

length_set : {A : Type 0} (xs : List A) (i : ℕ) (y : A) → length (slice_set xs i y) ≡ length xs
length_set [] i y = refl
length_set (x ∷ xs) zero y = refl
length_set (x ∷ xs) (suc i) y = ap suc (length_set xs i y)

put_length : (y : Site) (sites : List Site) → length (put site_key y sites) ≡ length sites
put_length y [] = refl
put_length y (x ∷ sites) = by_eq (site_key x) (site_key y)
    (λ e is. ap (λ (b : Bool). length (if b then y ∷ sites else x ∷ put site_key y sites)) is)
    (λ n is. ap (λ (b : Bool). length (if b then y ∷ sites else x ∷ put site_key y sites)) is ∙ ap suc (put_length y sites))

-- *What an event keeps*, but for its count: `gain` more events are behind it
pub record Keeps (t : Topology) (events : ℕ) (w after : World) : Type 0 where
  pub sites : AreRunning t events 1 after.sites
  pub size : length after.sites ≡ length w.sites
  pub sent : after.sent ≡ w.sent
  pub stepped : after.events ≡ w.events
  pub tally : after.tally ≡ w.tally

-- *What a controller leaves*
pub record Leads (most : ℕ) (a b : controllers.Acted) : Type 0 where
  pub node : b.controller.node ≡ a.controller.node
  pub ports : ports_of b.controller ≡ ports_of a.controller
  pub queue : AreUpTo most a.controller.queue → AreUpTo most b.controller.queue
  pub changes : changes_of b.controller ≤ changes_of a.controller + 1

module _ (t : Topology) (events : ℕ) where
  abbrev most : ℕ
  most = most_frame (events + 1)

  controller_site : (number : ℕ) (site : Site) (a b : controllers.Acted) → a.controller ≡ site.controller → Leads (most_frame (events + 1)) a b
      → IsRunningSite t events number site → IsRunningSite t (events + 1) number (record site { controller = b.controller })
  controller_site number site a b is leads h = record {
    node = ap (λ (n : NodeId). n.0) leads.node ∙ ap (λ (c : Controller). c.node.0) is ∙ h.node;
    ports = leads.ports ∙ ap ports_of is ∙ h.ports;
    switch_ports = h.switch_ports;
    size = h.size;
    queue = leads.queue (subst (λ (c : Controller). AreUpTo (most_frame (events + 1)) c.queue) (sym is) (every_less (most_frame events) (most_frame (events + 1)) (omega arith) site.controller.queue h.queue));
    queues = all_less (most_frame events) (most_frame (events + 1)) (omega arith) site.switch.crossbar.queues h.queues;
    changes = omega (arith, leads.changes, ap changes_of is, h.changes);
  }

  abbrev pub acting : World → Site → controllers.Acted
  acting w site = record { controller = site.controller; notes = w.notes; numbers = w.numbers }

  pub controller_keeps : (w : World) (node : NodeId) (rule : controllers.Acted → controllers.Acted) → AreRunning t events 1 w.sites
      → ((site : Site) → site_at w node ≡ Some site → (rule (acting w site)).numbers.controls ≤ most_frame (events + 1) → Leads (most_frame (events + 1)) (acting w site) (rule (acting w site)))
      → (at_controller w node rule).numbers.controls ≤ most_frame (events + 1) → Keeps t (events + 1) w (at_controller w node rule)
  controller_keeps w node rule h leads = by_site (site_at w node) refl
    where
      by_site : (o : Option Site) → site_at w node ≡ o → (controller_acts w o rule).numbers.controls ≤ most_frame (events + 1) → Keeps t (events + 1) w (controller_acts w o rule)
      by_site None e few = record { sites = all_later t events 1 w.sites h; size = refl; sent = refl; stepped = refl; tally = refl }
      by_site (Some site) e few =
          let a : controllers.Acted = acting w site in
          let l = leads site e few in
          let new : Site = record site { controller = (rule a).controller } in
          let key : site_key new ≡ node.0 = ap (λ (n : NodeId). n.0) l.node ∙ at_key site_key node.0 w.sites site e in
          record {
            sites = put_runs t events new site 1 w.sites (subst (λ k. at site_key k w.sites ≡ Some site) (sym key) e) (λ number runs. controller_site number site a (rule a) refl l runs) h;
            size = put_length new w.sites;
            sent = refl;
            stepped = refl;
            tally = refl;
          }

  -- *A switch*
  switch_site : (number floor : ℕ) (site : Site) (a b : switches.ActedSwitch) → a.switch ≡ site.switch → floor ≤ most_frame (events + 1) → b.numbers.controls ≤ most_frame (events + 1) → switch_pace.Paces floor a b
      → IsRunningSite t events number site → IsRunningSite t (events + 1) number (record site { switch = b.switch })
  switch_site number floor site a b is low few p h = record {
    node = h.node;
    ports = h.ports;
    switch_ports = p.ports ∙ ap (λ (s : switches.Switch). numbers_of s.ports) is ∙ h.switch_ports;
    size = p.size ∙ ap (λ (s : switches.Switch). length s.crossbar.queues) is ∙ h.size;
    queue = every_less (most_frame events) (most_frame (events + 1)) (omega arith) site.controller.queue h.queue;
    queues = p.queues (most_frame (events + 1)) low few (subst (λ (s : switches.Switch). AreAllUpTo (most_frame (events + 1)) s.crossbar.queues) (sym is)
        (all_less (most_frame events) (most_frame (events + 1)) (omega arith) site.switch.crossbar.queues h.queues));
    changes = omega (arith, h.changes);
  }

  abbrev pub switching : World → Site → switches.ActedSwitch
  switching w site = record { switch = site.switch; notes = w.notes; numbers = w.numbers }

  pub switch_keeps : (floor : ℕ) (w : World) (node : NodeId) (rule : switches.ActedSwitch → switches.ActedSwitch) → AreRunning t events 1 w.sites → floor ≤ most_frame (events + 1)
      → ((a : switches.ActedSwitch) → a.numbers ≡ w.numbers → switch_pace.Paces floor a (rule a))
      → (at_switch w node rule).numbers.controls ≤ most_frame (events + 1) → Keeps t (events + 1) w (at_switch w node rule)
  switch_keeps floor w node rule h low paces = by_site (site_at w node) refl
    where
      by_site : (o : Option Site) → site_at w node ≡ o → (switch_acts w o rule).numbers.controls ≤ most_frame (events + 1) → Keeps t (events + 1) w (switch_acts w o rule)
      by_site None e few = record { sites = all_later t events 1 w.sites h; size = refl; sent = refl; stepped = refl; tally = refl }
      by_site (Some site) e few =
          let a : switches.ActedSwitch = switching w site in
          let new : Site = record site { switch = (rule a).switch } in
          let key : site_key new ≡ node.0 = at_key site_key node.0 w.sites site e in
          record {
            sites = put_runs t events new site 1 w.sites (subst (λ k. at site_key k w.sites ≡ Some site) (sym key) e) (λ number runs. switch_site number floor site a (rule a) refl low few (paces a refl) runs) h;
            size = put_length new w.sites;
            sent = refl;
            stepped = refl;
            tally = refl;
          }

-- *A queue becomes shorter*
module _ (t : Topology) (events : ℕ) where
  queue_site : (number : ℕ) (site : Site) (place : Place) (cells : List Cell) → AreUpTo (most_frame events) cells → IsRunningSite t events number site → IsRunningSite t events number (with_queue_in site place cells)
  queue_site number site (Down node) cells up h = record { node = h.node; ports = h.ports; switch_ports = h.switch_ports; size = h.size; queue = up; queues = h.queues; changes = h.changes }
  queue_site number site (Up node) cells up h = record {
    node = h.node;
    ports = h.ports;
    switch_ports = h.switch_ports;
    size = length_set site.switch.crossbar.queues 0 cells ∙ h.size;
    queue = h.queue;
    queues = every_set (AreUpTo (most_frame events)) site.switch.crossbar.queues 0 cells h.queues up;
    changes = h.changes;
  }
  queue_site number site (Out node port) cells up h = record {
    node = h.node;
    ports = h.ports;
    switch_ports = h.switch_ports;
    size = length_set site.switch.crossbar.queues port.0 cells ∙ h.size;
    queue = h.queue;
    queues = every_set (AreUpTo (most_frame events)) site.switch.crossbar.queues port.0 cells h.queues up;
    changes = h.changes;
  }

  key_stays : (site : Site) (place : Place) (cells : List Cell) → site_key (with_queue_in site place cells) ≡ site_key site
  key_stays site (Down node) cells = refl
  key_stays site (Up node) cells = refl
  key_stays site (Out node port) cells = refl

  -- one node is put in the place of another, and no event more
  put_now : (new old : Site) (number : ℕ) (sites : List Site) → at site_key (site_key new) sites ≡ Some old
      → ((number : ℕ) → IsRunningSite t events number old → IsRunningSite t events number new)
      → AreRunning t events number sites → AreRunning t events number (put site_key new sites)
  put_now new old number [] found keeps h = tt
  put_now new old number (site ∷ sites) found keeps h = by_eq (site_key site) (site_key new)
      (λ e is. (let got : Some site ≡ Some old = subst (λ (b : Bool). (if b then Some site else at site_key (site_key new) sites) ≡ Some old) is found in
      let it : old ≡ site = cc in
      subst (λ (b : Bool). AreRunning t events number (if b then new ∷ sites else site ∷ put site_key new sites)) (sym is)
      (keeps number (subst (IsRunningSite t events number) (sym it) h.0), h.1)))
      (λ n is. subst (λ (b : Bool). AreRunning t events number (if b then new ∷ sites else site ∷ put site_key new sites)) (sym is)
      (h.0, put_now new old (suc number) sites (subst (λ (b : Bool). (if b then Some site else at site_key (site_key new) sites) ≡ Some old) is found) keeps h.1))

  pub queue_keeps : (w : World) (place : Place) (cells : List Cell) → AreUpTo (most_frame events) cells → AreRunning t events 1 w.sites → Keeps t events w (with_queue w place cells)
  queue_keeps w place cells up h = by_site (site_at w (place_node place)) refl
    where
      by_site : (o : Option Site) → site_at w (place_node place) ≡ o → Keeps t events w (with_queue_of w place cells o)
      by_site None e = record { sites = h; size = refl; sent = refl; stepped = refl; tally = refl }
      by_site (Some site) e =
          let new : Site = with_queue_in site place cells in
          let key : site_key new ≡ (place_node place).0 = key_stays site place cells ∙ at_key site_key (place_node place).0 w.sites site e in
          record {
            sites = put_now new site 1 w.sites (subst (λ k. at site_key k w.sites ≡ Some site) (sym key) e) (λ number runs. queue_site number site place cells up runs) h;
            size = put_length new w.sites;
            sent = refl;
            stepped = refl;
            tally = refl;
          }

-- *The round stays*
module _ (t : Topology) where
  abbrev pub places_at : (number : ℕ) → List Place
  places_at number = Down (numbered number) ∷ Up (numbered number) ∷ map (λ port. Out (numbered number) port) (topologies.linked_ports t (numbered number))

  unfoldable pub places_from : (number count : ℕ) → List Place
  places_from number zero = []
  places_from number (suc count) = places_at number ++ places_from (suc number) count

  site_places : (events number : ℕ) (site : Site) → IsRunningSite t events number site → places_of site ≡ places_at number
  site_places events number site h =
      let node : site.controller.node ≡ numbered number = ap numbered h.node in
      λ i. Down (node i) ∷ Up (node i) ∷ map (λ port. Out (node i) port) (h.ports i)

  pub places_are : (events number : ℕ) (sites : List Site) → AreRunning t events number sites → flat_map places_of sites ≡ places_from number (length sites)
  unfolding places_from
  places_are events number [] h = refl
  places_are events number (site ∷ sites) h = flat_map-cons places_of site sites ∙ (λ i. site_places events number site h.0 i ++ places_are events (suc number) sites h.1 i)
