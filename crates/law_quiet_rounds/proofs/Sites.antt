-- sums over the nodes of a network: what a world weighs by lighter cells, behind an actor's act, and where a cell leaves a queue

use Rattle.std.proofs.Common.{◌≡◌, ◌≢◌, ℕ, suc, ◌≤◌, ◌<◌, ◌+◌, Bool, false, List, [], ◌∷◌, length, Option, Some, refl, sym, ◌∙◌, ap, subst, arith, if◌then◌else◌}
use Rattle.std.specs.Prelude.{◌==◌, Contains, slice_index_or}
use Rattle.std.specs.Option.{option_map_or}
use Rattle.std.proofs.lemmas.Bool.Decides.{nat_tests}
use Rattle.world_model.specs.Words.{NodeId, PortNo, Place, Down, Up, Out, Cell, at, put, World, Site, site_key, site_at, controller_acts, switch_acts, place_node, queue_in, queue_at, with_queue_in, with_queue_of, with_queue, AreShaped, IsShaped}
use Rattle.law_packet_worlds.specs.ordered_lists.Ordered.{Every, InOrder}
use Rattle.law_packet_worlds.proofs.law_port_facts.Keyed.{at_key, each_found, at_put_same}
use Rattle.world_model.specs.Switch as switches
use Rattle.world_model.specs.Controller as controllers
use Rattle.world_model.specs.World.{at_controller, at_switch}
use Rattle.law_switch_weights.specs.claims_model.Costs.{total_weight}
use Rattle.law_switch_weights.specs.claims_model.Weights.{port_place, queues_weight, controller_weight, site_weight}
use Rattle.law_switch_weights.proofs.law_port_weights.Sums.{total_put}
use Rattle.law_switch_weights.proofs.Queues.{leaves_queue}

-- a carry finds a cell
abbrev pub one_if : List Cell → ℕ
one_if cells = if length cells == 0 then 0 else 1

pub one_found : (cell : Cell) (cells : List Cell) → one_if (cell ∷ cells) ≡ 1
one_found cell cells = (let some : (length (cell ∷ cells) == 0) ≡ false = grind (arith, nat_tests) in ap {B = ℕ} (λ (b : Bool). if b then 0 else 1) some)

-- *Lighter cells*
total_within : (f g : Cell → ℕ) (cells : List Cell) → ((cell : Cell) → Contains cells cell → f cell ≤ g cell) → total_weight f cells ≤ total_weight g cells
total_within f g [] each = omega arith
total_within f g (cell ∷ cells) each = omega (arith, each cell (0, omega arith, refl), total_within f g cells (λ c there. each c (suc there.0, omega (arith, there.1), there.2)))

-- each site of a world is found by its node
later_apart : (n m : ℕ) (sites : List Site) → n < m → AreShaped m sites → Every (λ (s : Site). n ≢ site_key s) sites
later_apart n m [] below shaped = tt
later_apart n m (s ∷ sites) below shaped = ((λ e. absurd (omega (arith, e, shaped.0.node, below))), later_apart n (suc m) sites (omega (arith, below)) shaped.1)

keys_apart : (m : ℕ) (sites : List Site) → AreShaped m sites → InOrder (λ (a b : Site). site_key a ≢ site_key b) sites
keys_apart m [] shaped = tt
keys_apart m (s ∷ sites) shaped = (subst (λ n. Every (λ (b : Site). n ≢ site_key b) sites) (sym shaped.0.node) (later_apart m (suc m) sites (omega arith) shaped.1), keys_apart (suc m) sites shaped.1)

pub all_found : (w : World) → IsShaped w → Every (λ (s : Site). at site_key (site_key s) w.sites ≡ Some s) w.sites
all_found w shaped = each_found site_key w.sites (keys_apart 1 w.sites shaped)

module _ (f g : Place → Cell → ℕ) where
  queues_less : (node : NodeId) (first : ℕ) (queues : List (List Cell))
      → ((port : ℕ) (cell : Cell) → Contains (slice_index_or queues port []) cell → f (port_place node (first + port)) cell ≤ g (port_place node (first + port)) cell)
      → queues_weight f node first queues ≤ queues_weight g node first queues
  queues_less node first [] each = omega arith
  queues_less node first (q ∷ queues) each = omega (arith, total_within (f (port_place node first)) (g (port_place node first)) q here, queues_less node (suc first) queues later)
    where
      here : (cell : Cell) → Contains q cell → f (port_place node first) cell ≤ g (port_place node first) cell
      here cell there = (let h = each 0 cell there in subst (λ n. f (port_place node n) cell ≤ g (port_place node n) cell) (nothing_more first) h)
        where
          nothing_more : (n : ℕ) → n + 0 ≡ n
          nothing_more n = omega arith

      later : (port : ℕ) (cell : Cell) → Contains (slice_index_or queues port []) cell → f (port_place node (suc first + port)) cell ≤ g (port_place node (suc first + port)) cell
      later port cell there = (let h = each (suc port) cell there in subst (λ n. f (port_place node n) cell ≤ g (port_place node n) cell) (one_more first port) h)
        where
          one_more : (n p : ℕ) → n + suc p ≡ suc n + p
          one_more n p = omega arith

  -- a site in which each cell is lighter
  pub record AreLighter (site : Site) : Type 0 where
    pub down : (cell : Cell) → Contains site.controller.queue cell → f (Down site.controller.node) cell ≤ g (Down site.controller.node) cell
    pub ports : (port : ℕ) (cell : Cell) → Contains (slice_index_or site.switch.crossbar.queues port []) cell → f (port_place site.controller.node port) cell ≤ g (port_place site.controller.node port) cell

  site_less : (site : Site) → AreLighter site → site_weight f site ≤ site_weight g site
  site_less site l = omega (
    arith,
    total_within (f (Down site.controller.node)) (g (Down site.controller.node)) site.controller.queue l.down,
    queues_less site.controller.node 0 site.switch.crossbar.queues (λ port cell there. subst (λ n. f (port_place site.controller.node n) cell ≤ g (port_place site.controller.node n) cell) (own port) (l.ports port cell there)),
  )
    where
      own : (n : ℕ) → n ≡ 0 + n
      own n = omega arith

  sites_less : (sites : List Site) → Every AreLighter sites → total_weight (site_weight f) sites ≤ total_weight (site_weight g) sites
  sites_less [] all = omega arith
  sites_less (site ∷ sites) all = omega (arith, site_less site all.0, sites_less sites all.1)

  every_of : (P Q : Site → Type 0) → ((s : Site) → P s → Q s) → (sites : List Site) → Every P sites → Every Q sites
  every_of P Q to [] all = tt
  every_of P Q to (s ∷ sites) all = (to s all.0, every_of P Q to sites all.1)

  pub world_less : (w : World) → IsShaped w → ((site : Site) → site_at w site.controller.node ≡ Some site → AreLighter site)
      → total_weight (site_weight f) w.sites ≤ total_weight (site_weight g) w.sites
  world_less w shaped each = sites_less w.sites (every_of (λ (s : Site). at site_key (site_key s) w.sites ≡ Some s) AreLighter (λ s found. each s found) w.sites (all_found w shaped))

-- *An actor acts*
module _ (f : Place → Cell → ℕ) where
  own_site : (w : World) (node : NodeId) (site : Site) → site_at w node ≡ Some site → at site_key (site_key site) w.sites ≡ Some site
  own_site w node site found = ap (λ k. at site_key k w.sites) (at_key site_key node.0 w.sites site found) ∙ found

  put_weight : (w : World) (node : NodeId) (site new : Site) (count : ℕ) → site_at w node ≡ Some site → new.controller.node ≡ site.controller.node → site_weight f new ≤ site_weight f site + count
      → total_weight (site_weight f) (put site_key new w.sites) ≤ total_weight (site_weight f) w.sites + count
  put_weight w node site new count found same le = (let own : at site_key (site_key new) w.sites ≡ Some site = ap (λ (n : NodeId). at site_key n.0 w.sites) same ∙ own_site w node site found in
      let sum = total_put (site_weight f) site_key new w.sites site own in omega (arith, sum, le))

  pub switch_weight : (w : World) (node : NodeId) (site : Site) (act : switches.ActedSwitch → switches.ActedSwitch) (count : ℕ) → site_at w node ≡ Some site
      → queues_weight f site.controller.node 0 (act (record { switch = site.switch; notes = w.notes; numbers = w.numbers })).switch.crossbar.queues ≤ queues_weight f site.controller.node 0 site.switch.crossbar.queues + count
      → total_weight (site_weight f) (at_switch w node act).sites ≤ total_weight (site_weight f) w.sites + count
  switch_weight w node site act count found le =
      let a : switches.ActedSwitch = act (record { switch = site.switch; notes = w.notes; numbers = w.numbers }) in
      let all : total_weight (site_weight f) (switch_acts w (Some site) act).sites ≤ total_weight (site_weight f) w.sites + count = put_weight w node site (record site { switch = a.switch }) count found refl (omega (arith, le)) in
      subst (λ (o : Option Site). total_weight (site_weight f) (switch_acts w o act).sites ≤ total_weight (site_weight f) w.sites + count) (sym found) all

  pub controller_acts_weight : (w : World) (node : NodeId) (site : Site) (act : controllers.Acted → controllers.Acted) (count : ℕ) → site_at w node ≡ Some site
      → (act (record { controller = site.controller; notes = w.notes; numbers = w.numbers })).controller.node ≡ site.controller.node
      → controller_weight (act (record { controller = site.controller; notes = w.notes; numbers = w.numbers })).controller + total_weight (f (Down site.controller.node)) (act (record { controller = site.controller; notes = w.notes; numbers = w.numbers })).controller.queue
      ≤ (controller_weight site.controller + total_weight (f (Down site.controller.node)) site.controller.queue) + count
      → total_weight (site_weight f) (at_controller w node act).sites ≤ total_weight (site_weight f) w.sites + count
  controller_acts_weight w node site act count found same le =
      let a : controllers.Acted = act (record { controller = site.controller; notes = w.notes; numbers = w.numbers }) in
      let down = ap (λ (n : NodeId). total_weight (f (Down n)) a.controller.queue) same in
      let ports = ap (λ (n : NodeId). queues_weight f n 0 site.switch.crossbar.queues) same in
      let all : total_weight (site_weight f) (controller_acts w (Some site) act).sites ≤ total_weight (site_weight f) w.sites + count = put_weight w node site (record site { controller = a.controller }) count found same (omega (arith, le, down, ports)) in
      subst (λ (o : Option Site). total_weight (site_weight f) (controller_acts w o act).sites ≤ total_weight (site_weight f) w.sites + count) (sym found) all

  -- *A cell leaves a queue*
  place_is : (site : Site) (place : Place) (cell : Cell) (cells : List Cell) → site.controller.node ≡ place_node place → ((node : NodeId) (port : PortNo) → place ≡ Out node port → 1 ≤ port.0)
      → queue_in site place ≡ cell ∷ cells → site_weight f (with_queue_in site place cells) + f place cell ≤ site_weight f site
  place_is site (Down n) cell cells same some e = (let q = ap (total_weight (f (Down site.controller.node))) e in let p = ap (λ (m : NodeId). f (Down m) cell) same in omega (arith, q, p))
  place_is site (Up n) cell cells same some e = (let q = leaves_queue f site.controller.node site.switch.crossbar.queues 0 0 cell cells e in let p = ap (λ (m : NodeId). f (Up m) cell) same in omega (arith, q, p))
  place_is site (Out n port) cell cells same some e =
      let q = leaves_queue f site.controller.node site.switch.crossbar.queues 0 port.0 cell cells e in
      let there : port_place site.controller.node (0 + port.0) ≡ Out n port = ap (port_place site.controller.node) (own port.0) ∙ (outer site.controller.node port (some n port refl) ∙ ap (λ (m : NodeId). Out m port) same) in
      let p = ap (λ (x : Place). f x cell) there in omega (arith, q, p)
    where
      own : (k : ℕ) → 0 + k ≡ k
      own k = omega arith

      outer : (node : NodeId) (port : PortNo) → 1 ≤ port.0 → port_place node port.0 ≡ Out node port
      outer node port some = ap (λ (b : Bool). if b then Up node else Out node (record { 0 = port.0 })) (apart port.0 some)
        where
          apart : (k : ℕ) → 1 ≤ k → (k == 0) ≡ false
          apart k some = grind (arith, nat_tests)

  in_site : (place : Place) (site : Site) (cells : List Cell) → (with_queue_in site place cells).controller.node ≡ site.controller.node
  in_site (Down n) site cells = refl
  in_site (Up n) site cells = refl
  in_site (Out n port) site cells = refl

  -- and its site is there, with one cell less
  pub record Popped (w : World) (place : Place) (site : Site) (cell : Cell) (cells : List Cell) : Type 0 where
    pub weight : total_weight (site_weight f) (with_queue w place cells).sites + f place cell ≤ total_weight (site_weight f) w.sites
    pub found : site_at (with_queue w place cells) (place_node place) ≡ Some (with_queue_in site place cells)

  pub popped : (w : World) (place : Place) (site : Site) (cell : Cell) (cells : List Cell) → site_at w (place_node place) ≡ Some site → site.controller.node ≡ place_node place
      → ((node : NodeId) (port : PortNo) → place ≡ Out node port → 1 ≤ port.0) → queue_at w place ≡ cell ∷ cells → Popped w place site cell cells
  popped w place site cell cells found same some e =
      let new : Site = with_queue_in site place cells in
      let queue : queue_in site place ≡ cell ∷ cells = sym (ap (λ (o : Option Site). option_map_or (λ (s : Site). queue_in s place) o []) found) ∙ e in
      let own : at site_key (site_key new) w.sites ≡ Some site = ap (λ (n : NodeId). at site_key n.0 w.sites) (in_site place site cells) ∙ own_site w (place_node place) site found in
      let sum = total_put (site_weight f) site_key new w.sites site own in
      let one = place_is site place cell cells same some queue in
      let put_there : (with_queue w place cells).sites ≡ put site_key new w.sites = ap (λ (o : Option Site). (with_queue_of w place cells o).sites) found in
      let there : at site_key (site_key new) (put site_key new w.sites) ≡ Some new = at_put_same site_key new w.sites site own in
      let number : (place_node place).0 ≡ site_key new = ap (λ (n : NodeId). n.0) (sym same ∙ sym (in_site place site cells)) in
      record {
        weight = (let t = ap (total_weight (site_weight f)) put_there in omega (arith, t, sum, one));
        found = ap (λ (sites : List Site). at site_key (place_node place).0 sites) put_there ∙ ap (λ k. at site_key k (put site_key new w.sites)) number ∙ there;
      }
