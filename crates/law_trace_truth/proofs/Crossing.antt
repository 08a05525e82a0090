-- which events put cells into the queues of links: a cell that a branch leads across, and no other

use Rattle.std.proofs.Common.{◌≡◌, ◌≢◌, ◌⊎◌, inl, inr, ℕ, zero, suc, ◌≤◌, ◌==◌, ◌&&◌, Bool, true, false, List, [], ◌∷◌, ◌++◌, length, drop, slice_index_or, Option, None, Some, refl, sym, ◌∙◌, ap, subst, arith, append-nil, eqb-true, if◌then◌else◌}
use Rattle.std.specs.Option.{option_map_or, option_and_then}
use Rattle.std.proofs.lemmas.Bool.{and_parts}
use Rattle.world_model.specs.Words.{NodeId, PortNo, Place, Down, Up, Out, End, Cell, at, put, queue_of, Journal, control_port, IsTopology, IsPlace, IsEvent, IsTame, place_node, queue_in, queue_at, with_queue, with_queue_of, with_queue_in, queue_number, same_queue, next, put_away, arrives_at, arrives, carries_head, Topology, output_at, World, Site, site_key, site_at, switch_acts}
use Rattle.world_model.specs.crossbar_model.Crossbar.{output_of, input_of}
use Rattle.law_passing.specs.ordered_lists.Ordered.{Every}
use Rattle.law_run_facts.proofs.law_port_facts.Keyed.{by_eq, at_key, at_put_same, at_put_other}
use Rattle.law_packet_worlds.proofs.law_way_words.Switching as ways
use Rattle.law_packet_worlds.proofs.law_way_words.Switching.{BindsNone}
use Rattle.world_model.specs.Switch as switches
use Rattle.world_model.specs.Conduct as conduct
use Rattle.world_model.specs.network_model.declared.event.Event.{Event}
use Rattle.world_model.specs.network_model.declared.event.Event.TheVariants.{Inject, Carry, Lose, Tick, TickSwitch, Restart, RestartSwitch, Forge, Route}
use Rattle.world_model.specs.network_model.declared.link.LinkEnd.{LinkEnd}
use Rattle.world_model.specs.Step.{acts}
use Rattle.world_model.specs.Topology.{peer_of}
use Rattle.world_model.specs.World.{at_switch}
use Rattle.law_run_facts.proofs.Forged.{none_forged}
use Rattle.law_running_worlds.proofs.law_causes.Shown.{peer_back}
use Rattle.law_passing.specs.telling_model.Passing.{left, cells_put_at}
use Rattle.law_passing.specs.Law.{QueuesAreTheActors}
use Rattle.law_passing.specs.Reached.{owns, reached, carried_to, switch_at}
use Rattle.law_packet_worlds.proofs.Worlds.{IsNet, HasSiteAt, site_there, low}
use Rattle.world_model.proofs.Queues.{set_queue}
use Rattle.law_trace_truth.proofs.Switched.{LeavesLinks, Adds, IsLed, comes_adds, tick_leaves_links, restart_leaves_links}

-- *What was put there*, where the queue is what was left with more behind it
drop_front : {A : Type 0} (xs ys : List A) → drop (length xs) (xs ++ ys) ≡ ys
drop_front [] ys = refl
drop_front (x ∷ xs) ys = drop_front xs ys

pub put_more : (topology : Topology) (w : World) (event : Event) (place : Place) (new : List Cell) → queue_at (next topology w event) place ≡ left w event place ++ new
    → cells_put_at topology w event place ≡ new
put_more topology w event place new is = ap (drop (length (left w event place))) is ∙ drop_front (left w event place) new

-- *The port on which a cell comes* to a switch
abbrev pub ComesTo : Topology → (source : Place) → (node : NodeId) → (port : PortNo) → Type 0
ComesTo topology (Down other) node port = (other ≡ node) × (port ≡ control_port)
ComesTo topology (Up other) node port = ⊥
ComesTo topology (Out other number) node port = peer_of topology other number ≡ Some (let far : LinkEnd = record { node = node; port = port } in far)

-- *A cell that was led across*
pub record IsCrossed (w : World) (node : NodeId) (port : PortNo) (cell : Cell) (end : LinkEnd) (c : Cell) : Type 0 where
  pub here : end.node.0 ≡ node.0
  pub output : End
  pub is_output : output_at w node (input_of port cell) ≡ Some output
  pub to_port : output.port.0 ≡ end.port.0
  pub mark : c.mark ≡ cell.mark
  pub channel : c.header.channel ≡ output.channel

pub record Crosses (topology : Topology) (w : World) (event : Event) : Type 0 where
  pub source : Place
  pub carries : event ≡ Carry source
  pub node : NodeId
  pub port : PortNo
  pub comes : ComesTo topology source node port
  pub cell : Cell
  pub cells : List Cell
  pub head : queue_at w source ≡ cell ∷ cells
  pub puts : (end : LinkEnd) → 1 ≤ end.port.0 → Every (IsCrossed w node port cell end) (cells_put_at topology w event (Out end.node end.port))
  pub binds : Every BindsNone (next topology w event).notes.records

pub data PutsOn (topology : Topology) (w : World) (event : Event) : Type 0 where
  still : ((end : LinkEnd) → 1 ≤ end.port.0 → cells_put_at topology w event (Out end.node end.port) ≡ []) → PutsOn topology w event
  crosses : Crosses topology w event → PutsOn topology w event

-- *A site in a world* whose queue was set
pub record StillThere (w v : World) (node : NodeId) (site : Site) : Type 0 where
  pub site_then : Site
  pub found : site_at v node ≡ Some site_then
  pub branches : site_then.switch.crossbar.branches ≡ site.switch.crossbar.branches

set_branches : (site : Site) (place : Place) (cells : List Cell) → ((with_queue_in site place cells).switch.crossbar.branches ≡ site.switch.crossbar.branches) × (site_key (with_queue_in site place cells) ≡ site_key site)
set_branches site (Down n) cells = (refl, refl)
set_branches site (Up n) cells = (refl, refl)
set_branches site (Out n p) cells = (refl, refl)

pub still_there : (w : World) (place : Place) (cells : List Cell) (node : NodeId) (site : Site) → site_at w node ≡ Some site → StillThere w (with_queue w place cells) node site
still_there w place cells node site found = by (site_at w (place_node place)) refl
  where
    by : (o : Option Site) → site_at w (place_node place) ≡ o → StillThere w (with_queue_of w place cells o) node site
    by None e = record { site_then = site; found = found; branches = refl }
    by (Some other) e =
        let new : Site = with_queue_in other place cells in
        let kept = set_branches other place cells in
        let key : site_key other ≡ (place_node place).0 = at_key site_key (place_node place).0 w.sites other e in
        by_eq (place_node place).0 node.0
        (λ same t. (
        let one : other ≡ site = one_found other site (sym e ∙ (ap (λ (k : ℕ). at site_key k w.sites) same ∙ found)) in
        record {
          site_then = new;
          found = ap (λ (k : ℕ). at site_key k (put site_key new w.sites)) (sym (kept.1 ∙ key ∙ same)) ∙ at_put_same site_key new w.sites other (ap (λ (k : ℕ). at site_key k w.sites) (kept.1 ∙ key) ∙ e);
          branches = kept.0 ∙ ap (λ (s : Site). s.switch.crossbar.branches) one;
        }))
        (λ away t. record {
          site_then = site;
          found = at_put_other site_key new node.0 w.sites (λ f. away (sym (kept.1 ∙ key) ∙ f)) ∙ found;
          branches = refl;
        })
      where
        one_found : (a b : Site) → Some a ≡ Some b → a ≡ b
        one_found a b e = cc e

-- the queue of a port behind what a switch does
out_then : (w : World) (node : NodeId) (act : switches.ActedSwitch → switches.ActedSwitch) (site : Site) → site_at w node ≡ Some site → (port : PortNo)
    → queue_at (at_switch w node act) (Out node port) ≡ queue_of (act (record { switch = site.switch; notes = w.notes; numbers = w.numbers })).switch.crossbar port
out_then w node act site found port =
    ap (λ (o : Option Site). queue_at (switch_acts w o act) (Out node port)) found
    ∙ ap (λ (o : Option Site). option_map_or (λ site. queue_in site (Out node port)) o [])
    (ap (λ (k : ℕ). at site_key k (put site_key new w.sites)) (sym key) ∙ at_put_same site_key new w.sites site (ap (λ (k : ℕ). at site_key k w.sites) key ∙ found))
  where
    new : Site
    new = record site { switch = (act (record { switch = site.switch; notes = w.notes; numbers = w.numbers })).switch }

    key : site_key site ≡ node.0
    key = at_key site_key node.0 w.sites site found

out_before : (w : World) (node : NodeId) (site : Site) (port : PortNo) → site_at w node ≡ Some site → queue_at w (Out node port) ≡ queue_of site.switch.crossbar port
out_before w node site port found = ap (λ (o : Option Site). option_map_or (λ site. queue_in site (Out node port)) o []) found

above : (port : PortNo) → 1 ≤ port.0 → (q : ℕ) × (port.0 ≡ suc q)
above port some = by port.0 some
  where
    by : (n : ℕ) → 1 ≤ n → (q : ℕ) × (n ≡ suc q)
    by zero some = absurd (omega (arith, some))
    by (suc q) some = (q, refl)

end_at : NodeId → ℕ → LinkEnd
end_at node q = record { node = node; port = record { 0 = q } }

-- *Where a switch leaves the queues of links* nothing is put there
module _ (topology : Topology) (w : World) (event : Event) (actors : QueuesAreTheActors) where
  others : (node : NodeId) (end : LinkEnd) → owns (reached topology w event) (Out end.node end.port) ≡ (node.0 == end.node.0) → node.0 ≢ end.node.0
      → cells_put_at topology w event (Out end.node end.port) ≡ []
  others node end owned away = actors topology w event (Out end.node end.port) (owned ∙ by (node.0 == end.node.0) refl)
    where
      by : (b : Bool) → (node.0 == end.node.0) ≡ b → b ≡ false
      by false e = refl
      by true e = absurd (away (eqb-true node.0 end.node.0 e))

-- what a queue that was set leaves of a world
set_notes : (w : World) (place : Place) (cells : List Cell) → (with_queue w place cells).notes ≡ w.notes
set_notes w place cells = by (site_at w (place_node place))
  where
    by : (o : Option Site) → (with_queue_of w place cells o).notes ≡ w.notes
    by None = refl
    by (Some site) = refl

same_port : (port : PortNo) (q : ℕ) (queues : List (List Cell)) → port.0 ≡ suc q → slice_index_or queues port.0 [] ≡ slice_index_or queues (suc q) []
same_port port q queues e = ap (λ (n : ℕ). slice_index_or queues n []) e

-- *A cell comes to a switch*
module _ (topology : Topology) (w : World) (source : Place) (cell : Cell) (cells : List Cell) (head : queue_at w source ≡ cell ∷ cells)
    (node : NodeId) (port : PortNo) (comes : ComesTo topology source node port) (site : Site) (found : site_at w node ≡ Some site)
    (goes : (v : World) → arrives topology v source cell ≡ at_switch v node (λ a. conduct.cell_comes a port cell))
    (beside : (number : PortNo) → queue_at (with_queue (put_away w) source cells) (Out node number) ≡ left w (Carry source) (Out node number))
    (actors : QueuesAreTheActors)
    (own : (end : LinkEnd) → owns (reached topology w (Carry source)) (Out end.node end.port) ≡ (node.0 == end.node.0)) where
  emptier : World
  emptier = with_queue (put_away w) source cells

  act : switches.ActedSwitch → switches.ActedSwitch
  act a = conduct.cell_comes a port cell

  carried : acts topology (put_away w) (Carry source) ≡ at_switch emptier node act
  unfolding emptier act
  carried = ap (carries_head topology (put_away w) source) head ∙ goes (with_queue (put_away w) source cells)

  there : StillThere (put_away w) emptier node site
  unfolding emptier
  there = still_there (put_away w) source cells node site found

  begun : switches.ActedSwitch
  begun = record { switch = there.site_then.switch; notes = emptier.notes; numbers = emptier.numbers }

  is_crossed : (number : PortNo) (q : ℕ) → number.0 ≡ suc q → (new : List Cell) → Every (IsLed begun port cell q) new → Every (IsCrossed w node port cell (record { node = node; port = number })) new
  unfolding begun
  is_crossed number q e [] led = tt
  is_crossed number q e (c ∷ new) led = (
    record {
      here = refl;
      output = led.0.output;
      is_output = ap (option_and_then (λ (s : Site). output_of s.switch.crossbar.branches (input_of port cell))) found
          ∙ (ap (λ b. output_of b (input_of port cell)) (sym there.branches) ∙ led.0.is_output);
      to_port = led.0.to_port ∙ sym e;
      mark = led.0.mark;
      channel = led.0.channel;
    },
    is_crossed number q e new led.1,
  )

  at_node : (number : PortNo) → 1 ≤ number.0 → Every (IsCrossed w node port cell (record { node = node; port = number })) (cells_put_at topology w (Carry source) (Out node number))
  unfolding begun act emptier
  at_node number some =
      let q = above number some in
      let adds : Adds begun port cell (conduct.cell_comes begun port cell) q.0 = comes_adds begun port cell q.0 in
      let now : queue_at (next topology w (Carry source)) (Out node number) ≡ left w (Carry source) (Out node number) ++ adds.new =
      ap (λ (v : World). queue_at v (Out node number)) carried
      ∙ out_then emptier node act there.site_then there.found number
      ∙ same_port number q.0 (conduct.cell_comes begun port cell).switch.crossbar.queues q.1
      ∙ adds.is
      ∙ ap (λ (l : List Cell). l ++ adds.new) (sym (same_port number q.0 there.site_then.switch.crossbar.queues q.1) ∙ sym (out_before emptier node there.site_then number there.found) ∙ beside number) in
      subst (Every (IsCrossed w node port cell (record { node = node; port = number }))) (sym (put_more topology w (Carry source) (Out node number) adds.new now))
      (is_crossed number q.0 q.1 adds.new adds.led)

  binds_none : Every BindsNone (next topology w (Carry source)).notes.records
  unfolding begun act emptier
  binds_none = subst (λ (v : World). Every BindsNone v.notes.records) (sym (carried ∙ ap (λ (o : Option Site). switch_acts emptier o act) there.found))
      (ways.comes begun port cell (subst (λ (n : Journal). Every BindsNone n.records) (sym (set_notes (put_away w) source cells)) tt)).records

  pub crossing : Crosses topology w (Carry source)
  crossing = record {
    source = source;
    carries = refl;
    node = node;
    port = port;
    comes = comes;
    cell = cell;
    cells = cells;
    head = head;
    puts = λ end some. by_eq end.node.0 node.0
        (λ same t. subst (λ (n : NodeId). Every (IsCrossed w node port cell (record { node = n; port = end.port })) (cells_put_at topology w (Carry source) (Out n end.port)))
        (sym (numbers_are end.node node same)) (at_node end.port some))
        (λ away t. subst (Every (IsCrossed w node port cell end)) (sym (others topology w (Carry source) actors node end (own end) (λ e. away (sym e)))) tt);
    binds = binds_none;
  }
    where
      numbers_are : (m n : NodeId) → m.0 ≡ n.0 → m ≡ n
      numbers_are m n e = λ i. record { 0 = e i }

-- *A switch ticks, or restarts*
module _ (topology : Topology) (w : World) (event : Event) (node : NodeId) (act : switches.ActedSwitch → switches.ActedSwitch) (site : Site) (found : site_at w node ≡ Some site)
    (leaves : (a : switches.ActedSwitch) → LeavesLinks a (act a)) (actors : QueuesAreTheActors)
    (acts_so : acts topology (put_away w) event ≡ at_switch (put_away w) node act)
    (stays : (place : Place) → left w event place ≡ queue_at w place)
    (own : (end : LinkEnd) → owns (reached topology w event) (Out end.node end.port) ≡ (node.0 == end.node.0)) where
  pub nothing_put : (end : LinkEnd) → 1 ≤ end.port.0 → cells_put_at topology w event (Out end.node end.port) ≡ []
  nothing_put end some = by_eq end.node.0 node.0
      (λ same t. ap (λ (n : NodeId). cells_put_at topology w event (Out n end.port)) (numbers_are end.node node same) ∙ here end.port some)
      (λ away t. others topology w event actors node end (own end) (λ e. away (sym e)))
    where
      numbers_are : (m n : NodeId) → m.0 ≡ n.0 → m ≡ n
      numbers_are m n e = λ i. record { 0 = e i }

      here : (number : PortNo) → 1 ≤ number.0 → cells_put_at topology w event (Out node number) ≡ []
      here number some =
          let q = above number some in
          put_more topology w event (Out node number) []
          (ap (λ (v : World). queue_at v (Out node number)) acts_so
          ∙ out_then (put_away w) node act site found number
          ∙ same_port number q.0 (act (record { switch = site.switch; notes = (put_away w).notes; numbers = w.numbers })).switch.crossbar.queues q.1
          ∙ leaves (record { switch = site.switch; notes = (put_away w).notes; numbers = w.numbers }) q.0
          ∙ sym (same_port number q.0 site.switch.crossbar.queues q.1)
          ∙ sym (out_before w node site number found) ∙ sym (stays (Out node number)) ∙ sym (append-nil (left w event (Out node number))))

-- *Each event*
and_false : (a b : Bool) → b ≡ false → a && b ≡ false
and_false true b e = e
and_false false b e = refl

module _ (topology : Topology) (is : IsTopology topology) (actors : QueuesAreTheActors) (w : World) (net : IsNet topology w) where
  -- a queue that isn't the one that is carried from
  beside_out : (source : Place) (cells : List Cell) (s : HasSiteAt w source) → queue_number source ≤ 9 → (node : NodeId) (number : PortNo)
      → ((place_node source).0 ≢ node.0) ⊎ (queue_number source ≢ suc number.0)
      → queue_at (with_queue (put_away w) source cells) (Out node number) ≡ left w (Carry source) (Out node number)
  beside_out source cells s low node number apart =
      (set_queue (put_away w) source s.site cells net.shaped s.found low).away (Out node number) apart
      ∙ sym (ap (λ (b : Bool). if b then drop 1 (queue_at w (Out node number)) else queue_at w (Out node number)) (by (same_queue source (Out node number)) refl apart))
    where
      by : (b : Bool) → same_queue source (Out node number) ≡ b → ((place_node source).0 ≢ node.0) ⊎ (queue_number source ≢ suc number.0) → same_queue source (Out node number) ≡ false
      by false e apart = e
      by true e (inl away) = absurd (away (eqb-true (place_node source).0 node.0 (and_parts ((place_node source).0 == node.0) (queue_number source == suc number.0) e).0))
      by true e (inr away) = absurd (away (eqb-true (queue_number source) (suc number.0) (and_parts ((place_node source).0 == node.0) (queue_number source == suc number.0) e).1))

  from_link : (node : NodeId) (port : PortNo) (cell : Cell) (cells : List Cell) → IsPlace topology (Out node port) → queue_at w (Out node port) ≡ cell ∷ cells
      → (o : Option LinkEnd) → peer_of topology node port ≡ o → PutsOn topology w (Carry (Out node port))
  from_link node port cell cells is_place head None peer = still (λ end some. actors topology w (Carry (Out node port)) (Out end.node end.port)
      (ap (λ (q : List Cell). owns (carried_to topology (Out node port) q) (Out end.node end.port)) head ∙ ap (λ (o : Option LinkEnd). owns (switch_at o) (Out end.node end.port)) peer))
  from_link node port cell cells is_place head (Some far) peer =
      let back = peer_back topology is (record { node = node; port = port }) far peer in
      let s = site_there topology w (Out node port) net is_place in
      let t = site_there topology w (Down far.node) net back.node in
      crosses (crossing topology w (Out node port) cell cells head far.node far.port peer t.site t.found
      (λ v. ap (arrives_at v cell) peer)
      (λ number. beside_out (Out node port) cells s (low topology is (Out node port) is_place) far.node number (inl (λ e. back.apart (sym e))))
      actors
      (λ end. ap (λ (q : List Cell). owns (carried_to topology (Out node port) q) (Out end.node end.port)) head ∙ ap (λ (o : Option LinkEnd). owns (switch_at o) (Out end.node end.port)) peer))

  carried_on : (place : Place) → IsPlace topology place → (q : List Cell) → queue_at w place ≡ q → PutsOn topology w (Carry place)
  carried_on place there [] head = still (λ end some. actors topology w (Carry place) (Out end.node end.port) (ap (λ (q : List Cell). owns (carried_to topology place q) (Out end.node end.port)) head))
  carried_on (Up node) there (cell ∷ cells) head = still (λ end some. actors topology w (Carry (Up node)) (Out end.node end.port) (ap (λ (q : List Cell). owns (carried_to topology (Up node) q) (Out end.node end.port)) head))
  carried_on (Down node) there (cell ∷ cells) head =
      let s = site_there topology w (Down node) net there in
      crosses (crossing topology w (Down node) cell cells head node control_port (refl, refl) s.site s.found (λ v. refl)
      (λ number. beside_out (Down node) cells s (low topology is (Down node) there) node number (inr (λ e. absurd (omega (arith, e)))))
      actors (λ end. ap (λ (q : List Cell). owns (carried_to topology (Down node) q) (Out end.node end.port)) head))
  carried_on (Out node port) there (cell ∷ cells) head = from_link node port cell cells there head (peer_of topology node port) refl

  pub puts_on : (event : Event) → IsEvent topology w event → IsTame (next topology w event).notes.records → PutsOn topology w event
  puts_on (Inject node octets) meant tame = still (λ end some. actors topology w (Inject node octets) (Out end.node end.port) refl)
  puts_on (Carry place) meant tame = carried_on place meant (queue_at w place) refl
  puts_on (Lose place) meant tame = still (λ end some. actors topology w (Lose place) (Out end.node end.port) refl)
  puts_on (Tick node) meant tame = still (λ end some. actors topology w (Tick node) (Out end.node end.port) refl)
  puts_on (TickSwitch node) meant tame =
      let s = site_there topology w (Down node) net meant in
      still (nothing_put topology w (TickSwitch node) node conduct.tick_comes s.site s.found tick_leaves_links actors refl (λ place. refl) (λ end. refl))
  puts_on (Restart node) meant tame = still (λ end some. actors topology w (Restart node) (Out end.node end.port) refl)
  puts_on (RestartSwitch node) meant tame =
      let s = site_there topology w (Down node) net meant in
      still (nothing_put topology w (RestartSwitch node) node conduct.restarted s.site s.found restart_leaves_links actors refl (λ place. refl) (λ end. refl))
  puts_on (Forge place channel payload) meant tame = absurd (none_forged topology w place channel payload tame)
  puts_on (Route node change) meant tame = still (λ end some. actors topology w (Route node change) (Out end.node end.port) refl)
