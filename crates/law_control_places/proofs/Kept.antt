-- so it is behind each event that comes, and at the opening

use Rattle.std.proofs.Common.{◌≡◌, ℕ, zero, suc, ◌≤◌, List, [], ◌∷◌, Option, None, Some, Result, Ok, Err, refl, sym, ◌∙◌, ap, subst, arith, ◌⊎◌, inl, inr}
use Rattle.std.specs.Prelude.{Contains, slice_index}
use Rattle.std.specs.Option.{option_map, option_map_or, option_and_then}
use Rattle.world_model.specs.Words.{NodeId, Down, Up, Mark, Addr, Cell, Frame, payload_of, at, queue_of, control_port, Policy, Linked, port_key, port_on, Topology, Node, World, Site, site_key, site_at, empty_world, opened_site, opens_each, with_opened, queue_in, queue_at, put_away, world_after, gsmp_of, gsmp_under, Past, past_of, frames_of}
use Rattle.world_model.specs.ifmp_wire.declared.message.Message.{Message as IfmpMessage}
use Rattle.world_model.specs.gsmp_wire.declared.fault.Fault.{Fault}
use Rattle.world_model.specs.gsmp_wire.declared.message.Message.{Message}
use Rattle.world_model.specs.gsmp_wire.Layout.{octets_of}
use Rattle.world_model.specs.gsmp_wire.Fields.{decoded}
use Rattle.law_frame_readings.proofs.law_gsmp_reading.Read.{message_is_read}
use Rattle.law_frame_readings.specs.ordered_lists.Ordered.{Every}
use Rattle.law_frame_readings.proofs.law_port_facts.Keyed.{at_key, at_every, every_more}
use Rattle.law_frame_readings.specs.law_controller_facts.Inputs.{Input, takes_input}
use Rattle.law_frame_readings.specs.law_controller_facts.Sound.{IsOwn}
use Rattle.law_frame_readings.specs.law_controller_views.Lifted.{payload_by}
use Rattle.world_model.specs.network_model.declared.event.Event.{Event}
use Rattle.world_model.specs.World.{opened}
use Rattle.world_model.specs.Step.{acts}
use Rattle.world_model.specs.Ways.{ok_of}
use Rattle.law_frame_readings.specs.law_world_views.Made.{IsMadeAs, AreMade, plain, labelled, told as told_as, said}
use Rattle.law_frame_readings.specs.law_world_views.Ready.{setups_of}
use Rattle.law_frame_readings.specs.law_world_views.Shown.{acting}
use Rattle.law_frame_readings.specs.law_world_views.Between.{IsWorld}
use Rattle.law_frame_readings.specs.law_world_views.Kept.{Comes, behind}
use Rattle.law_run_facts.specs.Nodes.{IsNodeOfRun}
use Rattle.law_run_facts.specs.Frames.{Stay}
use Rattle.law_run_facts.proofs.Nodes.{runs_have_nodes}
use Rattle.law_run_facts.proofs.Rooms.{runs_have_room}
use Rattle.law_run_facts.proofs.Runs.{any_marked}
use Rattle.law_run_facts.proofs.Steps.{runs_have_fronts, events_are_steps}
use Rattle.law_run_facts.proofs.Grown.{frames_stay}
use Rattle.law_run_facts.proofs.Owns.{input_owns}
use Rattle.law_run_facts.proofs.Numbers.{some_of}
use Rattle.law_running_worlds.proofs.Worlds.{events_true}
use Rattle.law_running_worlds.proofs.Kept.{made_kept, given}
use Rattle.law_running_worlds.proofs.MadeTame.{controllers_pass, switches_pass}
use Rattle.law_ownership.specs.Places.{IsPlaced, of_gsmp, of_link, HasPlaces}
use Rattle.law_control_places.specs.Law.{PlacesAreKept, PlacesBegin}
use Rattle.law_control_places.proofs.Controllers.{IsOfGsmp, read, filled, IsOn, own, link, IsRight}
use Rattle.law_control_places.proofs.Homes.{each_port, each_setup, leads_home}
use Rattle.law_control_places.proofs.Sites.{LinkedTo, IsAfter, Before, Behind}
use Rattle.law_control_places.proofs.Events.{event_behind}

every_of : {A : Type 0} (P : A → Type 0) (xs : List A) → ((x : A) → Contains xs x → P x) → Every P xs
every_of P [] each = tt
every_of P (y ∷ ys) each = (each y (zero, omega arith, refl), every_of P ys (λ x c. each x (suc c.0, omega (arith, c.1), c.2)))

-- *What was said* is read
read_in : (o : Option (List ℕ)) (message : Message) → option_and_then gsmp_of o ≡ Some message → (payload : List ℕ) × (o ≡ Some payload) × (decoded payload ≡ Ok message)
read_in None message e = absurd (cc e)
read_in (Some payload) message e = (payload, refl, by (decoded payload) e)
  where
    by : (r : Result Message Fault) → ok_of r ≡ Some message → r ≡ Ok message
    by (Ok other) t = (let same : other ≡ message = cc in ap (λ (m : Message). Ok m) same)
    by (Err fault) t = absurd (cc t)

apart : (source : Addr) (message : IfmpMessage) (other : Message) → payload_by source message ≡ octets_of other → ⊥
apart source message other e = omega (arith, ap (λ (octets : List ℕ). slice_index octets 6) e)

decoded_of : (mark : Mark) (payload : List ℕ) (message : Message) → mark.packet ≡ 0 → payload ≡ octets_of message → IsMadeAs mark payload → (m : Message) × (decoded payload ≡ Ok m)
decoded_of mark payload message none is (plain counted packet fit same) = absurd (counted none)
decoded_of mark payload message none is (labelled counted flow packet fit carries) = absurd (counted none)
decoded_of mark payload message none is (told_as control source other small range fits same) = absurd (apart source other message (sym same ∙ is))
decoded_of mark payload message none is (said control other fits of same) = (other, ap decoded same ∙ message_is_read other fits of)

gsmp_read : (frames : List Frame) (mark : Mark) (payload : List ℕ) → AreMade frames → mark.packet ≡ 0 → payload_of frames mark ≡ Some payload → IsOfGsmp payload → (m : Message) × (gsmp_under frames mark ≡ Some m)
gsmp_read frames mark payload all none is (read message e) = (message, ap (λ (o : Option (List ℕ)). option_and_then gsmp_of o) is ∙ ap ok_of e)
gsmp_read frames mark payload all none is (filled message e) =
    (let d = decoded_of mark payload message none e (all mark payload is) in (d.0, ap (λ (o : Option (List ℕ)). option_and_then gsmp_of o) is ∙ ap ok_of d.1))

-- *Behind an event*
module _ (policy : Policy) (topology : Topology) (before : List Event) (event : Event) (c : Comes policy topology before event) (world : IsWorld (past_of policy topology before)) (places : HasPlaces (past_of policy topology before)) where
  abbrev past : Past
  past = past_of policy topology before

  abbrev w : World
  w = world_after topology (opened policy topology) before

  of : (node : NodeId) (site : Site) → site_at w node ≡ Some site → IsNodeOfRun policy (past_of policy topology before) node site
  of node site found = runs_have_nodes policy topology before c.addresses (runs_have_fronts policy topology before event c).run node site found

  links_of : (node : NodeId) (site : Site) → site_at w node ≡ Some site → Every (λ (linked : Linked). LinkedTo topology site.controller.node linked.setup.port) site.controller.ports
  links_of node site found = (let n = of node site found in
      subst (λ (k : NodeId). Every (λ (linked : Linked). LinkedTo topology k linked.setup.port) site.controller.ports) (sym n.is_node.own) (each_port (LinkedTo topology node) site.controller.ports n.ports.linked))

  is_on : (node : NodeId) (site : Site) → site.controller.node ≡ node → (cell : Cell) → IsPlaced (past_of policy topology before) node cell → IsOn (LinkedTo topology site.controller.node) w.notes.frames cell
  is_on node site same cell (of_gsmp here message under) = (let r = read_in (payload_of w.notes.frames cell.mark) message under in own here r.0 r.1 (read message r.2))
  is_on node site same cell (of_link linked) = link (subst (λ (k : NodeId). LinkedTo topology k (port_on cell.header.channel)) (sym same) linked)

  known : Before topology w.notes.frames w
  known node site found = record {
    links = links_of node site found;
    leads = λ input output e. leads_home (setups_of site.controller) n.ports.links (LinkedTo topology site.controller.node)
        (each_setup (LinkedTo topology site.controller.node) site.controller.ports (links_of node site found)) input output ((world.shapes node site found).branches input output e);
    down = every_of (IsRight (LinkedTo topology site.controller.node) w.notes.frames) site.controller.queue
        (λ cell there none. is_on node site n.is_node.own cell (places node n.is_node.number cell (inl (subst (λ (xs : List Cell). Contains xs cell) (sym (down_is node site found)) there)) none));
    up = every_of (IsRight (LinkedTo topology site.controller.node) w.notes.frames) (queue_of site.switch.crossbar control_port)
        (λ cell there none. is_on node site n.is_node.own cell (places node n.is_node.number cell (inr (subst (λ (xs : List Cell). Contains xs cell) (sym (up_is node site found)) there)) none));
  }
    where
      n : IsNodeOfRun policy (past_of policy topology before) node site
      n = of node site found

      down_is : (k : NodeId) (x : Site) → site_at w k ≡ Some x → queue_at w (Down k) ≡ x.controller.queue
      down_is k x e = ap (λ (o : Option Site). option_map_or (λ (s : Site). queue_in s (Down k)) o []) e

      up_is : (k : NodeId) (x : Site) → site_at w k ≡ Some x → queue_at w (Up k) ≡ queue_of x.switch.crossbar control_port
      up_is k x e = ap (λ (o : Option Site). option_map_or (λ (s : Site). queue_in s (Up k)) o []) e

  -- its controller stays at its node
  named : (node : NodeId) (site : Site) → site_at w node ≡ Some site → (input : Input) → IsOwn input → (takes_input (acting (put_away w) site) input).controller.node ≡ site.controller.node
  named node site found input is = (input_owns (setups_of site.controller) (acting (put_away w) site) input is (of node site found).conduct.sound (world.numbers.controllers node site found)
      (λ key k e. each key (at port_key key site.controller.ports) refl k e)).node
    where
      each : (key : ℕ) (o : Option Linked) → at port_key key site.controller.ports ≡ o → (k : ℕ) → option_map (λ (linked : Linked). linked.port.adjacency.own.instance.0) o ≡ Some k → k ≤ w.numbers.instances
      each key None there k e = absurd (cc e)
      each key (Some linked) there k e =
          let same : linked.port.adjacency.own.instance.0 ≡ k = cc in
          let most = at_every port_key (λ (x : Linked). x.port.adjacency.own.instance.0 ≤ w.numbers.instances) key site.controller.ports linked (world.numbers.ports node site found) there in
          omega (arith, same, most)

  stays : Stay w.notes.frames (acts topology (put_away w) event).notes.frames
  stays = subst (λ (u : World). Stay w.notes.frames u.notes.frames) (events_are_steps policy topology before event).now ((frames_stay policy topology before event c world).kept)

  after : Behind topology (acts topology (put_away w) event)
  after = event_behind topology (put_away w) (any_marked policy topology before).free known named event
      (given runs_have_nodes runs_have_fronts events_are_steps (controllers_pass events_true runs_have_fronts events_are_steps) (switches_pass events_true runs_have_fronts events_are_steps) policy topology before event c world) stays

  made : AreMade (frames_of (behind policy topology before event))
  made = made_kept runs_have_nodes runs_have_room runs_have_fronts events_are_steps (controllers_pass events_true runs_have_fronts events_are_steps) (switches_pass events_true runs_have_fronts events_are_steps) policy topology before event c world

  -- in the world itself
  abbrev IsAt : World → Type 0
  IsAt u = (node : NodeId) (cell : Cell) → Contains (queue_at u (Down node)) cell ⊎ Contains (queue_at u (Up node)) cell → cell.mark.packet ≡ 0 → IsOn (LinkedTo topology node) u.notes.frames cell

  at_all : IsAt (acts topology (put_away w) event)
  at_all node cell there none = by (site_at (acts topology (put_away w) event) node) refl there
    where
      nowhere : Contains [] cell → IsOn (LinkedTo topology node) (acts topology (put_away w) event).notes.frames cell
      nowhere n = absurd (omega (arith, n.1))

      by : (o : Option Site) → site_at (acts topology (put_away w) event) node ≡ o
          → Contains (option_map_or (λ (s : Site). queue_in s (Down node)) o []) cell ⊎ Contains (option_map_or (λ (s : Site). queue_in s (Up node)) o []) cell
          → IsOn (LinkedTo topology node) (acts topology (put_away w) event).notes.frames cell
      by None found (inl n) = nowhere n
      by None found (inr n) = nowhere n
      by (Some site) found k =
          let is : IsAfter topology (acts topology (put_away w) event).notes.frames site = after node site found in
          let key : site.controller.node.0 ≡ node.0 = at_key site_key node.0 (acts topology (put_away w) event).sites site found in
          subst (λ (n : ℕ). IsOn (LinkedTo topology (record { 0 = n })) (acts topology (put_away w) event).notes.frames cell) key
          (elim k [
            | inl d ↦ some_of (IsRight (LinkedTo topology site.controller.node) (acts topology (put_away w) event).notes.frames) site.controller.queue cell is.down d none
            | inr u ↦ some_of (IsRight (LinkedTo topology site.controller.node) (acts topology (put_away w) event).notes.frames) (queue_of site.switch.crossbar control_port) cell is.up u none
          ])

  placed : (node : NodeId) (cell : Cell) → cell.mark.packet ≡ 0 → IsOn (LinkedTo topology node) (frames_of (behind policy topology before event)) cell → IsPlaced (behind policy topology before event) node cell
  placed node cell none (own here payload is of) = (let r = gsmp_read (frames_of (behind policy topology before event)) cell.mark payload made none is of in of_gsmp here r.0 r.1)
  placed node cell none (link linked) = of_link linked

  kept : HasPlaces (behind policy topology before event)
  kept node is cell there none = placed node cell none (subst IsAt (sym (events_are_steps policy topology before event).now) at_all node cell there none)

pub places_are_kept : PlacesAreKept
places_are_kept policy topology before event c world places = kept policy topology before event c world places

-- *At the opening* nothing waits
record IsEmptySite (site : Site) : Type 0 where
  down : site.controller.queue ≡ []
  up : queue_of site.switch.crossbar control_port ≡ []

opens_empty : (policy : Policy) (t : Topology) (nodes : List Node) (w : World) (place : ℕ) → Every IsEmptySite w.sites → Every IsEmptySite (opens_each policy t w place nodes).sites
opens_empty policy t [] w place h = h
opens_empty policy t (node ∷ nodes) w place h = opens_empty policy t nodes (with_opened policy t w place node) (suc place)
    (every_more IsEmptySite w.sites (opened_site policy t (record { 0 = place }) node w.numbers) h (record { down = refl; up = refl }))

empty_place : (w : World) → Every IsEmptySite w.sites → (node : NodeId) → (queue_at w (Down node) ≡ []) × (queue_at w (Up node) ≡ [])
empty_place w h node = by (site_at w node) refl
  where
    by : (o : Option Site) → site_at w node ≡ o → (option_map_or (λ (s : Site). queue_in s (Down node)) o [] ≡ []) × (option_map_or (λ (s : Site). queue_in s (Up node)) o [] ≡ [])
    by None found = (refl, refl)
    by (Some site) found = (let e = at_every site_key IsEmptySite node.0 w.sites site h found in (e.down, e.up))

pub places_begin : PlacesBegin
places_begin policy topology is addresses node there cell waits none = absurd (never waits)
  where
    none_there : (xs : List Cell) → xs ≡ [] → Contains xs cell → ⊥
    none_there xs e c = (let n = subst (λ (ys : List Cell). Contains ys cell) e c in absurd (omega (arith, n.1)))

    never : Contains (queue_at (opened policy topology) (Down node)) cell ⊎ Contains (queue_at (opened policy topology) (Up node)) cell → ⊥
    never (inl d) = none_there (queue_at (opened policy topology) (Down node)) (empty_place (opened policy topology) (opens_empty policy topology topology.nodes empty_world 1 tt) node).0 d
    never (inr u) = none_there (queue_at (opened policy topology) (Up node)) (empty_place (opened policy topology) (opens_empty policy topology topology.nodes empty_world 1 tt) node).1 u
