-- what holds of the cells that wait for the switch, of the chain of the GSMP channel, of the frames that were made, of the
-- table held and of the changes that wait stays so in every rule of a controller, where it does as a message of GSMP is said,
-- a message of IFMP is said by a port, a packet sent on, a cell gathered and a change taken

use Rattle.std.proofs.Common.{◌≡◌, ℕ, List, [], ◌∷◌, ◌++◌, length, Some, Result, Ok, Err, sym, subst}
use Rattle.std.specs.Prelude.{◌+◌, nat_le}
use Rattle.law_world_pace.specs.world_model.Words.{PortNo, Channel, Mark, next_control, with_control, Cell, ifmp_packet_of, changed, RouteChange, default_payload, Frame, Loss, PoolFull, noted, frame_cells, made, nothing_taken, Action, Setup, Desk, Work, put, Controller, Linked, chain_of, chains_with, port_key, default_channel, default_home, sends_control, says_gsmp, cuts_of, cuts_default_of, cuts_gsmp, node_restarts, Rule, at_port, takes_change, change_comes, gsmp_holds}
use Rattle.law_world_pace.specs.world_model.ipv4_forward.declared.table.Route.{Route}
use Rattle.law_world_pace.specs.world_model.ifmp_wire.Message.{octets_of as ifmp_octets}
use Rattle.law_world_pace.specs.world_model.gsmp_wire.Layout.{octets_of as gsmp_octets}
use Rattle.law_world_pace.specs.world_model.gsmp_wire.declared.message.Message.{Message}
use Rattle.law_world_pace.specs.world_model.gsmp_wire.declared.fault.Fault.{Fault as GsmpFault}
use Rattle.law_world_pace.specs.world_model.frame_model.Sending.{Sender}
use Rattle.law_controller_bindings.specs.ordered_lists.Ordered.{Every}
use Rattle.law_world_pace.specs.world_model.port_model.Resets.{cleared}
use Rattle.law_controller_bindings.proofs.law_port_facts.Keyed.{on_both, at_every, put_every}
use Rattle.law_controller_bindings.proofs.ordered_lists.Every.{every_map, every_all}
use Rattle.law_world_pace.specs.world_model.Controller.{Acted, free_slots}
use Rattle.law_world_pace.specs.world_model.Sending.{with_cells, sends}
use Rattle.law_world_pace.specs.world_model.Ticks.{ticks}
use Rattle.law_lifetimes.proofs.law_rule_walks.Controllers.{Keeps, Found}
use Rattle.law_lifetimes.proofs.law_rule_walks.Controllers as controllers
use Rattle.law_lifetimes.proofs.law_rule_walks.Changes as route_changes
use Rattle.law_run_facts.proofs.Taking.{cut_frames}

module _ (S : (queue chain : List Cell) → List Frame → (controls : ℕ) → Type 0) (T : List Route → Type 0) (Q : RouteChange → Type 0) (D : (controls : ℕ) → PortNo → (chain : List Cell) → Type 0) where
  abbrev pub Sees : Acted → Type 0
  Sees a = S a.controller.queue a.controller.reassembly.chain a.notes.frames a.numbers.controls

  abbrev pub At : (controls : ℕ) → Linked → Type 0
  At controls linked = D controls linked.setup.port linked.reassembly.chain

  abbrev pub Has : Acted → Type 0
  Has a = Sees a × T a.controller.table × Every Q a.controller.waiting × Every (At a.numbers.controls) a.controller.ports

  -- a port that is there
  stands : (a : Acted) (linked : Linked) → Found a linked → Has a → At a.numbers.controls linked
  stands a linked found h = at_every port_key (At a.numbers.controls) linked.setup.port.0 a.controller.ports linked h.3 found

  -- a port that is put back as it stands, but for its chain
  pub back : (a : Acted) (new : Linked) → At a.numbers.controls new → Has a → Every (At a.numbers.controls) (put port_key new a.controller.ports)
  back a new is h = put_every port_key (At a.numbers.controls) new a.controller.ports is h.3

  pub with_frames : (b : Acted) (frames : List Frame) → b.notes.frames ≡ frames
      → S b.controller.queue b.controller.reassembly.chain frames b.numbers.controls × T b.controller.table × Every Q b.controller.waiting × Every (At b.numbers.controls) b.controller.ports → Has b
  with_frames b frames e h = (subst (λ f. S b.controller.queue b.controller.reassembly.chain f b.numbers.controls) (sym e) h.0, h.1, h.2, h.3)

  -- what is sent leaves the table and the changes
  pub sent : (a : Acted) (channel : Channel) (mark : Mark) (payload : List ℕ) → T a.controller.table × Every Q a.controller.waiting × Every (At a.numbers.controls) a.controller.ports
      → T (sends a channel mark payload).controller.table × Every Q (sends a channel mark payload).controller.waiting × Every (At a.numbers.controls) (sends a channel mark payload).controller.ports
  sent a channel mark payload h = on_both (λ (s : Sender Controller). T s.queues.table × Every Q s.queues.waiting × Every (At a.numbers.controls) s.queues.ports) (nat_le (length (frame_cells channel mark payload)) (free_slots a.controller))
      (record { queues = with_cells a.controller (frame_cells channel mark payload); notes = made a.notes mark payload })
      (record { queues = a.controller; notes = noted (made a.notes mark payload) (Loss mark PoolFull) }) h h

  -- a control frame that is sent leaves all but what is seen of frames
  pub sent_on : ((controls : ℕ) (port : PortNo) (chain : List Cell) → D controls port chain → D (controls + 1) port chain) → (a : Acted) (channel : Channel) (payload : List ℕ)
      → Sees (sends_control a channel payload) → Has a → Has (sends_control a channel payload)
  sent_on later a channel payload sees h = (let k = sent (record a { numbers = with_control a.numbers }) channel (next_control a.numbers) payload
      (h.1, h.2, every_map (At a.numbers.controls) (At (a.numbers.controls + 1)) a.controller.ports (λ linked. later a.numbers.controls linked.setup.port linked.reassembly.chain) h.3) in (sees, k.0, k.1, k.2))

  module _ (L : PortNo → Type 0) (gsmp : (a : Acted) (message : Message) → Sees a → Sees (says_gsmp a message)) (ifmp : (a : Acted) (port : PortNo) (payload : List ℕ) → L port → Sees a → Sees (sends_control a (default_home port).channel payload))
      (linked_of : (controls : ℕ) (port : PortNo) (chain : List Cell) → D controls port chain → L port)
      (clear : (queue chain : List Cell) (frames : List Frame) (controls : ℕ) → S queue chain frames controls → S queue [] frames controls)
      (later : (controls : ℕ) (port : PortNo) (chain : List Cell) → D controls port chain → D (controls + 1) port chain) (nothing : (controls : ℕ) (port : PortNo) (chain : List Cell) → D controls port chain → D controls port [])
      (step : (table : List Route) (change : RouteChange) → T table → Q change → T (changed table change)) where
    sent_gsmp : (a : Acted) (message : Message) → Has a → Has (says_gsmp a message)
    sent_gsmp a message h = sent_on later a default_channel (gsmp_octets message) (gsmp a message h.0) h

    sent_ifmp : (a : Acted) (port : PortNo) (payload : List ℕ) → L port → Has a → Has (sends_control a (default_home port).channel payload)
    sent_ifmp a port payload l h = sent_on later a (default_home port).channel payload (ifmp a port payload l h.0) h

    -- *Each change* of a controller: a port that says something is one that is linked
    keeps : Keeps (Unit {0}) Has (λ (setup : Setup) (desk : Desk) (w : Work). L setup.port) (λ (setup : Setup) (action : Action). L setup.port)
    keeps = record {
      beginning = λ a linked found h. linked_of a.numbers.controls linked.setup.port linked.reassembly.chain (stands a linked found h);
      working = λ setup desk w v worked l. l;
      asking = λ setup desk w l. every_all (λ (action : Action). L setup.port) w.actions (λ action. l);
      placing = λ a linked w found l h. (h.0, h.1, h.2, back a (record linked { port = w.port }) (stands a linked found h) h);
      clearing = λ a linked found may h. (h.0, h.1, h.2, back a (record linked { port = cleared linked.port }) (stands a linked found h) h);
      saying = λ setup a message l h. sent_ifmp a setup.port (default_payload (ifmp_packet_of a.controller.address (ifmp_octets message))) l h;
      noting = λ setup a item l h. h;
      withdrawing = λ setup a input l h. h;
      parting = λ a input h. h;
      telling = sent_gsmp;
      requesting = λ a request estab room h. h;
      resetting = λ a h. h;
      emptying = λ a h. h;
      meeting = λ a h. h;
      cutting_label = λ a linked label found h. with_frames (cuts_of a label (Some linked)) a.notes.frames (cut_frames a.notes (chain_of linked.chains label))
          (h.0, h.1, h.2, back a (record linked { chains = chains_with linked.chains label nothing_taken }) (stands a linked found h) h);
      cutting_default = λ a linked found h. with_frames (cuts_default_of a (Some linked)) a.notes.frames (cut_frames a.notes linked.reassembly)
          (h.0, h.1, h.2, back a (record linked { reassembly = nothing_taken }) (nothing a.numbers.controls linked.setup.port linked.reassembly.chain (stands a linked found h)) h);
      cutting_gsmp = λ a h. with_frames (cuts_gsmp a) a.notes.frames (cut_frames a.notes a.controller.reassembly)
          (clear a.controller.queue a.controller.reassembly.chain a.notes.frames a.numbers.controls h.0, h.1, h.2, h.3);
      changing = λ a h. h;
    }

    -- *Any rule* at a port
    pub at_work : (a : Acted) (port : PortNo) (rule : Rule) → Has a → Has (at_port a port rule)
    at_work a port rule h = controllers.any_kept keeps a port rule (λ linked is found. keeps.beginning a linked found h) h

    -- *Changes of routes*
    takes : (a : Acted) (change : RouteChange) (later : List RouteChange) → a.controller.waiting ≡ change ∷ later → Has a → Has (takes_change a change later)
    takes a change later waits h =
        let all : Every Q (change ∷ later) = subst (Every Q) waits h.2 in
        (h.0, step a.controller.table change h.1 all.0, all.1, h.3)

    pub change_walk : (a : Acted) (change : RouteChange) → Q change → Has (record a { controller = record a.controller { waiting = a.controller.waiting ++ change ∷ [] } }) → Has (change_comes a change)
    change_walk a change q h = route_changes.change_comes_kept keeps takes a change h

    -- *Messages of the switch*
    pub gsmp_frame : (a : Acted) (r : Result Message GsmpFault) → Has a → Has (gsmp_holds a r)
    gsmp_frame a (Ok message) h = route_changes.told_kept keeps takes tt (λ b answer k. k) a message (λ greeting is. h) h
    gsmp_frame a (Err fault) h = h

    -- *Ticks*, and a restart
    pub tick_walk : (a : Acted) → Has a → Has (ticks a)
    tick_walk a h = controllers.ticks_kept keeps tt a h h

    pub restart_walk : (a : Acted) → Has a → Has (node_restarts a)
    restart_walk a h = controllers.node_restarts_kept keeps a h
