-- along a run each event enters its losses, and the ledger has those of all records

use Rattle.std.proofs.Common.{◌≡◌, ℕ, suc, true, length, map, flat_map, Option, None, Some, List, [], ◌∷◌, ◌++◌, append-nil, append_assoc, refl, sym, ◌∙◌, ap, subst}
use Rattle.std.proofs.lemmas.List.Concat.{flat_map-cons}
use Rattle.world_model.specs.Words.{Cell, Entry, Record, losses_of, Policy, Topology, Node, World, Site, site_key, site_at, opened_site, empty_world, with_opened, opens_each, place_node, queue_at, with_queue, with_queue_of, put_away, next, worlds_from, world_after, records_of, NodeId, at, Place, End, end_cmp}
use Rattle.world_model.specs.network_model.declared.event.Event.{Event}
use Rattle.world_model.specs.network_model.declared.event.Event.TheVariants.{Inject, Carry, Lose, Tick, TickSwitch, Restart, RestartSwitch, Forge, Route}
use Rattle.world_model.specs.World.{opened}
use Rattle.law_true_losses.specs.Way.{lost_carried_from, lost_on_way}
use Rattle.law_true_losses.specs.Sent.{rooms_in, rooms_at, frame_of, cells_of, entry_of, put_in, has_queue, queue_for, switched_head, switched_cells}
use Rattle.law_true_losses.specs.Law.{LossesAreTrue}
use Rattle.law_true_losses.specs.Losses.{EntersLosses}
use Rattle.law_true_losses.specs.Fronts.{world_at}
use Rattle.law_true_losses.proofs.Notes.{losses_more}
use Rattle.law_true_losses.specs.Losses.{AreFirst}
use Rattle.law_true_losses.specs.Cut.{Held, same_held, fed_at, fed, is_given_up}
use Rattle.law_true_losses.proofs.Worlds.{Came, carried_alike, switched_alike, fed_alike, event_told}
use Rattle.std.specs.Option.{option_map_or, option_and_then}
use Rattle.std.specs.FinMap.{get-empty}
use Rattle.world_model.specs.crossbar_model.declared.branch.Branch.{Branch}
use Rattle.law_true_losses.specs.Open.{branch_in, branch_at, Over, over_head, over, over_it, open_behind}
use Rattle.law_true_losses.proofs.Opened.{over_alike, event_opens}
use Rattle.std.specs.Prelude.{not, nat_eq, ◌&&◌, Bool, false, if◌then◌else◌}
use Rattle.law_causes.proofs.law_port_facts.Keyed.{on_both}
use Rattle.law_passing.specs.telling_model.Passing.{left, left_from, source_of}
use Rattle.world_model.specs.Step.{acts}
use Rattle.std.proofs.Math.Seq.{drop-append_seam}
use Rattle.std.specs.Prelude.{drop}

module _ (t : Topology) where
  -- the losses of an event, and what it switches, are of what there is, and not of what was recorded
  sites_away : (w : World) (place : Place) (cells : List Cell) → (with_queue (put_away w) place cells).sites ≡ (with_queue w place cells).sites
  sites_away w place cells = by (site_at w (place_node place))
    where
      by : (o : Option Site) → (with_queue_of (put_away w) place cells o).sites ≡ (with_queue_of w place cells o).sites
      by None = refl
      by (Some site) = refl

  away_same : (w : World) (event : Event) → lost_on_way t (put_away w) event ≡ lost_on_way t w event
  away_same w (Inject node octets) = refl
  away_same w (Carry place) = by (queue_at w place)
    where
      by : (cells : List Cell) → lost_carried_from t (put_away w) place cells ≡ lost_carried_from t w place cells
      by [] = refl
      by (cell ∷ cells) = carried_alike t (with_queue (put_away w) place cells) (with_queue w place cells) (sites_away w place cells) cell place
  away_same w (Lose place) = refl
  away_same w (Tick node) = refl
  away_same w (TickSwitch node) = refl
  away_same w (Restart node) = refl
  away_same w (RestartSwitch node) = refl
  away_same w (Forge place channel payload) = refl
  away_same w (Route node change) = refl

  switched_same : (w : World) (event : Event) (to : Place) → switched_cells t (put_away w) event to ≡ switched_cells t w event to
  switched_same w (Inject node octets) to = refl
  switched_same w (Carry place) to = by (queue_at w place)
    where
      by : (cells : List Cell) → switched_head t (put_away w) place cells to ≡ switched_head t w place cells to
      by [] = refl
      by (cell ∷ cells) = switched_alike t (with_queue (put_away w) place cells) (with_queue w place cells) (sites_away w place cells) cell place to
  switched_same w (Lose place) to = refl
  switched_same w (Tick node) to = refl
  switched_same w (TickSwitch node) to = refl
  switched_same w (Restart node) to = refl
  switched_same w (RestartSwitch node) to = refl
  switched_same w (Forge place channel payload) to = refl
  switched_same w (Route node change) to = refl

  queue_same : (w : World) (event : Event) → queue_for t (put_away w) event ≡ queue_for t w event
  queue_same w (Inject node octets) = refl
  queue_same w (Carry place) = refl
  queue_same w (Lose place) = refl
  queue_same w (Tick node) = refl
  queue_same w (TickSwitch node) = refl
  queue_same w (Restart node) = refl
  queue_same w (RestartSwitch node) = refl
  queue_same w (Forge place channel payload) = refl
  queue_same w (Route node change) = refl

  fed_same : (w : World) (event : Event) → fed t (put_away w) event ≡ fed t w event
  fed_same w (Inject node octets) = refl
  fed_same w (Carry place) = by (queue_at w place)
    where
      by : (cells : List Cell) → fed_at t (put_away w) place cells ≡ fed_at t w place cells
      by [] = refl
      by (cell ∷ cells) = fed_alike t (with_queue (put_away w) place cells) (with_queue w place cells) (sites_away w place cells) cell place
  fed_same w (Lose place) = refl
  fed_same w (Tick node) = refl
  fed_same w (TickSwitch node) = refl
  fed_same w (Restart node) = refl
  fed_same w (RestartSwitch node) = refl
  fed_same w (Forge place channel payload) = refl
  fed_same w (Route node change) = refl

  over_same : (w : World) (event : Event) → over t (put_away w) event ≡ over t w event
  over_same w (Inject node octets) = refl
  over_same w (Carry place) = by (queue_at w place)
    where
      by : (cells : List Cell) → over_head t (put_away w) place cells ≡ over_head t w place cells
      by [] = refl
      by (cell ∷ cells) = over_alike t (with_queue (put_away w) place cells) (with_queue w place cells) (sites_away w place cells) cell place
  over_same w (Lose place) = refl
  over_same w (Tick node) = refl
  over_same w (TickSwitch node) = refl
  over_same w (Restart node) = refl
  over_same w (RestartSwitch node) = refl
  over_same w (Forge place channel payload) = refl
  over_same w (Route node change) = refl

  left_same : (w : World) (source : Option Place) (place : Place) → left_from (put_away w) source place ≡ left_from w source place
  left_same w None place = refl
  left_same w (Some source) place = refl

  -- *Each event*
  module _ (w : World) (first : AreFirst [] w.notes.entries) (event : Event) where
    came : Came w.notes.entries (lost_on_way t (put_away w) event) (put_away w) (source_of event) (acts t (put_away w) event) (switched_cells t (put_away w) event) (queue_for t (put_away w) event) (fed t (put_away w) event)
    came = event_told t w.notes.entries (put_away w) (record { counts = record { entered = sym (append-nil w.notes.entries); on_way = refl; first = first }; uncut = refl }) event

    put_there : (place : Place) → has_queue w place ≡ true
        → queue_at (next t w event) place ≡ left w event place ++ (switched_cells t w event place ++ put_in (queue_for t w event) place (flat_map cells_of came.sends.sendings))
    put_there place there = came.sends.cells place there
        ∙ ap (λ (waiting : List Cell). waiting ++ (switched_cells t (put_away w) event place ++ put_in (queue_for t (put_away w) event) place (flat_map cells_of came.sends.sendings))) (left_same w (source_of event) place)
        ∙ ap (λ (cells : List Cell). left w event place ++ (cells ++ put_in (queue_for t (put_away w) event) place (flat_map cells_of came.sends.sendings))) (switched_same w event place)
        ∙ ap (λ (queue : Option Place). left w event place ++ (switched_cells t w event place ++ put_in queue place (flat_map cells_of came.sends.sendings))) (queue_same w event)

    enters : EntersLosses t w event
    enters = record {
      entered = came.sends.counts.entered;
      sendings = came.sends.sendings;
      sent = record {
        frames = ap (drop (length w.notes.frames)) came.sends.frames ∙ drop-append_seam w.notes.frames (map frame_of came.sends.sendings);
        nowhere = λ none. came.nowhere (queue_same w event ∙ none);
        cells = λ place there. ap (drop (length (left w event place))) (put_there place there)
            ∙ drop-append_seam (left w event place) (switched_cells t w event place ++ put_in (queue_for t w event) place (flat_map cells_of came.sends.sendings));
      };
      cuts = came.cuts.cuts;
      are_cut = λ held. came.cuts.each held ∙ ap {B = ℕ} (λ (o : Option Held). if not (option_map_or (same_held held) o false) && is_given_up (site_at w held.node) (site_at (next t w event) held.node) held.holder then 1 else 0) (fed_same w event);
      cut = came.cuts.entries;
      left_open = λ node input. event_opens t (put_away w) event node input
          ∙ ap (λ (o : Option Over). open_behind (over_it node input o) (branch_at w node input) (branch_at (next t w event) node input)) (over_same w event);
      on_way = came.sends.counts.on_way ∙ ap (λ (lost : List Entry). lost ++ flat_map entry_of came.sends.sendings) (away_same w event);
    }

  -- *The ledger*: all that the records tell
  records_more : (w : World) (worlds : List World) → records_of (w ∷ worlds) ≡ w.notes.records ++ records_of worlds
  records_more w worlds = flat_map-cons (λ (v : World). v.notes.records) w worlds

  has_all : (e : List Entry) (w : World) (events : List Event) → AreFirst [] w.notes.entries → w.notes.entries ≡ e ++ losses_of w.notes.records
      → (world_after t w events).notes.entries ≡ e ++ losses_of (records_of (worlds_from t w events))
  has_all e w [] first h = h ∙ ap (λ (records : List Record). e ++ losses_of records) (sym (records_more w [] ∙ append-nil w.notes.records))
  has_all e w (event ∷ events) first h =
      let v : World = next t w event in
      let rest : List World = worlds_from t v events in
      has_all (e ++ losses_of w.notes.records) v events (came w first event).sends.counts.first ((enters w first event).entered ∙ ap (λ (entries : List Entry). entries ++ losses_of v.notes.records) h)
      ∙ append_assoc e (losses_of w.notes.records) (losses_of (records_of rest))
      ∙ ap (λ (entries : List Entry). e ++ entries) (sym (ap losses_of (records_more w rest) ∙ losses_more w.notes.records (records_of rest)))

  -- at the opening there is nothing
  opens_empty : (policy : Policy) (w : World) (place : ℕ) (nodes : List Node) → (opens_each policy t w place nodes).notes ≡ w.notes
  opens_empty policy w place [] = refl
  opens_empty policy w place (node ∷ nodes) = opens_empty policy (with_opened policy t w place node) (suc place) nodes

  opening_first : (policy : Policy) → AreFirst [] (opened policy t).notes.entries
  opening_first policy = subst (λ (notes : _). AreFirst [] notes.entries) (sym (opens_empty policy empty_world 1 t.nodes)) tt

  first_stays : (w : World) (events : List Event) → AreFirst [] w.notes.entries → AreFirst [] (world_after t w events).notes.entries
  first_stays w [] first = first
  first_stays w (event ∷ events) first = first_stays (next t w event) events (came w first event).sends.counts.first

  opening_has : (policy : Policy) → (opened policy t).notes.entries ≡ [] ++ losses_of (opened policy t).notes.records
  opening_has policy = subst (λ (notes : _). notes.entries ≡ losses_of notes.records) (sym (opens_empty policy empty_world 1 t.nodes)) refl

  -- *Each switch has nine queues*
  rooms_stay : (w : World) (events : List Event) → AreFirst [] w.notes.entries → (node : NodeId) → rooms_at (world_after t w events) node ≡ rooms_at w node
  rooms_stay w [] first node = refl
  rooms_stay w (event ∷ events) first node = rooms_stay (next t w event) events (came w first event).sends.counts.first node ∙ (came w first event).rooms node

  joined : (k : ℕ) (sites : List Site) (site : Site) → rooms_in (at site_key k sites) ≡ 9 → length site.switch.crossbar.queues ≡ 9 → rooms_in (at site_key k (sites ++ site ∷ [])) ≡ 9
  joined k [] site all nine = on_both (λ (o : Option Site). rooms_in o ≡ 9) (nat_eq (site_key site) k) (Some site) None nine refl
  joined k (other ∷ sites) site all nine = by (nat_eq (site_key other) k) all (λ rest. joined k sites site rest nine)
    where
      by : (b : Bool) → rooms_in (if b then Some other else at site_key k sites) ≡ 9 → (rooms_in (at site_key k sites) ≡ 9 → rooms_in (at site_key k (sites ++ site ∷ [])) ≡ 9)
          → rooms_in (if b then Some other else at site_key k (sites ++ site ∷ [])) ≡ 9
      by true all more = all
      by false all more = more all

  opens_nine : (policy : Policy) (w : World) (place : ℕ) (nodes : List Node) (node : NodeId) → rooms_at w node ≡ 9 → rooms_at (opens_each policy t w place nodes) node ≡ 9
  opens_nine policy w place [] node all = all
  opens_nine policy w place (one ∷ nodes) node all = opens_nine policy (with_opened policy t w place one) (suc place) nodes node
      (joined node.0 w.sites (opened_site policy t (record { 0 = place }) one w.numbers) all refl)

  -- *At the opening no switch has a branch*
  joined_bare : (input : End) (k : ℕ) (sites : List Site) (site : Site) → option_and_then (branch_in input) (at site_key k sites) ≡ None → branch_in input site ≡ None
      → option_and_then (branch_in input) (at site_key k (sites ++ site ∷ [])) ≡ None
  joined_bare input k [] site all bare = on_both (λ (o : Option Site). option_and_then (branch_in input) o ≡ None) (nat_eq (site_key site) k) (Some site) None bare refl
  joined_bare input k (other ∷ sites) site all bare = by (nat_eq (site_key other) k) all (λ rest. joined_bare input k sites site rest bare)
    where
      bare_of : Option Site → Option Branch
      bare_of o = option_and_then (branch_in input) o

      by : (b : Bool) → bare_of (if b then Some other else at site_key k sites) ≡ None → (bare_of (at site_key k sites) ≡ None → bare_of (at site_key k (sites ++ site ∷ [])) ≡ None)
          → bare_of (if b then Some other else at site_key k (sites ++ site ∷ [])) ≡ None
      by true all more = all
      by false all more = more all

  opens_bare : (policy : Policy) (w : World) (place : ℕ) (nodes : List Node) (node : NodeId) (input : End) → branch_at w node input ≡ None → branch_at (opens_each policy t w place nodes) node input ≡ None
  opens_bare policy w place [] node input all = all
  opens_bare policy w place (one ∷ nodes) node input all = opens_bare policy (with_opened policy t w place one) (suc place) nodes node input
      (joined_bare input node.0 w.sites (opened_site policy t (record { 0 = place }) one w.numbers) all (get-empty end_cmp input))

pub losses_are_true : LossesAreTrue
losses_are_true policy topology events = record {
  ledger = λ before after split. has_all topology [] (opened policy topology) before (opening_first topology policy) (opening_has topology policy);
  first = λ before after split. first_stays topology (opened policy topology) before (opening_first topology policy);
  rooms = λ before after split node. rooms_stay topology (opened policy topology) before (opening_first topology policy) node ∙ opens_nine topology policy empty_world 1 topology.nodes node refl;
  bare = λ node input. opens_bare topology policy empty_world 1 topology.nodes node input refl;
  each = λ before after event split. enters topology (world_at policy topology before) (first_stays topology (opened policy topology) before (opening_first topology policy)) event;
}
