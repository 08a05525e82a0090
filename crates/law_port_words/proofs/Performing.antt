-- what a port at work has asked is done, and a port is reset

use Rattle.std.proofs.Common.{◌≡◌, List, [], ◌∷◌, Option, None, Some, refl, if◌then◌else◌, fold}
use Rattle.std.specs.Prelude.{◌==◌}
use Rattle.law_controller_bindings.specs.world_model.Words.{PortNo, End, is_estab, Request, MoveBranch, Record, Delivered, Dropped, Refused, Loss, Chance, Forged, Bad, Opened, Closed, Bind, Free, Part, Routes, cut, Standing, is_led_home, last_transaction, Action, Say, Ask, Note, CutChain, TakeBack, Withdraw, home_of, Work, resets, restarts, Linked, linked_at, with_desk, sends_request, asks_next, asks, takes_back, begins, with_work, closes_by, port_restarts_of, port_restarts, resets_gsmp, node_resets, cuts_default, cuts_gsmp, node_restarts, does, does_in_estab, resets_of, performs, performs_in_estab, Rule, works_as, works, at_port}
use Rattle.law_controller_bindings.specs.world_model.link_model.declared.record.Record.TheVariants.{Join}
use Rattle.law_controller_bindings.specs.ordered_lists.Ordered.{Every}
use Rattle.law_controller_bindings.specs.world_model.port_model.Desk.{asked, message_at}
use Rattle.law_controller_bindings.specs.world_model.port_model.declared.action.Action.TheVariants as actions
use Rattle.law_controller_bindings.proofs.law_port_facts.Keyed.{on_both}
use Rattle.law_controller_bindings.specs.world_model.Controller.{Acted, ports_of}
use Rattle.law_controller_bindings.proofs.Lasts.{cut_grows}
use Rattle.law_world_views.proofs.law_shown_cells.Tested.{cut_frames}
use Rattle.law_port_words.specs.Words.{Terms, IsSteady, BindsNone, IsFair, IsNoted, IsSteadyAt, IsSteadily}
use Rattle.law_port_words.proofs.Voices.{Voiced}
use Rattle.law_port_words.proofs.Hearing.{resets_v, restarts_v}
use Rattle.law_port_words.proofs.Sending.{note_h, grows_h, gsmp_h, ifmp_h, put_h, found_h, fold_h, cuts_h, cuts_default_h}

module _ (t : Terms) where
  abbrev H : Acted → Type 0
  H a = IsSteadily t a

  plain_noted : (item : Record) → BindsNone t item → IsNoted t item
  plain_noted (Bind node port label flow) none = absurd none
  plain_noted (Delivered node packet octets) none = tt
  plain_noted (Dropped node packet cause) none = tt
  plain_noted (Refused node packet name) none = tt
  plain_noted (Loss mark cause) none = tt
  plain_noted (Chance mark) none = tt
  plain_noted (Forged place) none = tt
  plain_noted (Bad node layer name) none = tt
  plain_noted (Opened node port) none = tt
  plain_noted (Closed node port) none = tt
  plain_noted (Free node port label) none = tt
  plain_noted (Join node port label to_port to_label) none = tt
  plain_noted (Part node port label) none = tt
  plain_noted (Routes node number) none = tt

  -- *A port that begins its work*, and one that is put back
  pub begins_v : (a : Acted) (port : PortNo) (linked : Linked) → linked_at a.controller port ≡ Some linked → H a → Voiced t linked.setup (begins a linked)
  begins_v a port linked found h = record { port = (found_h t a port linked found h).0; said = tt }

  worked_h : (a : Acted) (linked : Linked) (w : Work) → IsSteady t linked.setup w.port → IsSteadyAt t linked → H a → H (with_work a linked w)
  worked_h a linked w k was h = put_h t (record a { numbers = record a.numbers { instances = w.instances } }) (record linked { port = w.port }) (k, was.1)
      (record { address = h.address; ports = h.ports; cells = h.cells; records = h.records; frames = h.frames })

  -- *Node reset*
  closes_h : (port : PortNo) (a : Acted) (action : Action) → IsFair t port action → H a → H (closes_by port a action)
  closes_h port a (Say message) fair h = h
  closes_h port a (Ask request needed) fair h = h
  closes_h port a (Note item) fair h = note_h t a item (plain_noted item fair) h
  closes_h port a (CutChain label) fair h = cuts_h t port a label h
  closes_h port a (TakeBack input output) fair h = h
  closes_h port a (Withdraw input) fair h = h
  closes_h port a actions.Reset fair h = h

  each_h : (P : Action → Type 0) (f : Acted → Action → Acted) → ((a : Acted) (x : Action) → P x → H a → H (f a x)) → (xs : List Action) → Every P xs → (a : Acted) → H a → H (fold f a xs)
  each_h P f each [] all a h = h
  each_h P f each (x ∷ xs) all a h = each_h P f each xs all.1 (f a x) (each a x all.0 h)

  restarts_h : (a : Acted) (port : PortNo) → H a → H (port_restarts a port)
  restarts_h a port h = by (linked_at a.controller port) refl
    where
      by : (o : Option Linked) → linked_at a.controller port ≡ o → H (port_restarts_of a o)
      by None found = h
      by (Some linked) found =
          let v : Voiced t linked.setup (restarts linked.setup (begins a linked)) = restarts_v t linked.setup (begins a linked) (begins_v a port linked found h) in
          each_h (IsFair t linked.setup.port) (closes_by linked.setup.port) (closes_h linked.setup.port) (restarts linked.setup (begins a linked)).actions v.said
          (with_work a linked (restarts linked.setup (begins a linked))) (worked_h a linked (restarts linked.setup (begins a linked)) v.port (found_h t a port linked found h) h)

  pub node_h : (a : Acted) → H a → H (node_resets a)
  node_h a h = fold_h t port_restarts restarts_h (ports_of a.controller) (resets_gsmp a) (record { address = h.address; ports = h.ports; cells = h.cells; records = h.records; frames = h.frames })

  pub node_restarts_h : (a : Acted) → H a → H (node_restarts a)
  node_restarts_h a h =
      let fresh : Acted = node_resets a in
      let k : H fresh = node_h a h in
      let n : H (record fresh { notes = cut fresh.notes fresh.controller.reassembly }) = grows_h t {Here = λ node. ⊥} fresh (cut fresh.notes fresh.controller.reassembly) (cut_frames fresh.notes fresh.controller.reassembly) (cut_grows fresh.notes fresh.controller.reassembly) k in
      fold_h t cuts_default (cuts_default_h t) (ports_of a.controller) (cuts_gsmp fresh) (record { address = n.address; ports = n.ports; cells = n.cells; records = n.records; frames = n.frames })

  -- *Asking*
  pub sends_request_h : (a : Acted) (s : Standing) → H a → H (sends_request a s)
  sends_request_h a s h = gsmp_h t a (message_at a.controller.desk s) h

  pub asks_h : (a : Acted) (request : Request) → H a → H (asks a request)
  asks_h a request h = on_both H (is_estab a.controller.adjacency.state) (if a.controller.desk.next == last_transaction then node_resets a else asks_next a request) a
      (on_both H (a.controller.desk.next == last_transaction) (node_resets a) (asks_next a request) (node_h a h)
      (sends_request_h (with_desk a (asked a.controller.desk request)) (record { number = a.controller.desk.next; request = request }) (record { address = h.address; ports = h.ports; cells = h.cells; records = h.records; frames = h.frames }))) h

  pub takes_back_h : (a : Acted) (input output : End) → H a → H (takes_back a input output)
  takes_back_h a input output h = on_both H (is_led_home a.controller.desk input (home_of input)) a (asks a (MoveBranch input output (home_of input))) h (asks_h a (MoveBranch input output (home_of input)) h)

  -- *One action*
  does_h : (port : PortNo) (a : Acted) (action : Action) → IsFair t port action → H a → H (does port a action)
  does_h port a (Say message) fair h = ifmp_h t a port message fair h
  does_h port a (Ask request needed) fair h = asks_h a request h
  does_h port a (Note item) fair h = note_h t a item (plain_noted item fair) h
  does_h port a (CutChain label) fair h = cuts_h t port a label h
  does_h port a (TakeBack input output) fair h = takes_back_h a input output h
  does_h port a (Withdraw input) fair h = record { address = h.address; ports = h.ports; cells = h.cells; records = h.records; frames = h.frames }
  does_h port a actions.Reset fair h = h

  resets_h : (a : Acted) (port : PortNo) → H a → H (resets_of a (linked_at a.controller port))
  resets_h a port h = by (linked_at a.controller port) refl
    where
      by : (o : Option Linked) → linked_at a.controller port ≡ o → H (resets_of a o)
      by None found = h
      by (Some linked) found =
          let w : Work = resets linked.setup (begins a linked) in
          let v : Voiced t linked.setup w = resets_v t linked.setup (begins a linked) (begins_v a port linked found h) in
          each_h (IsFair t linked.setup.port) (does_in_estab linked.setup.port)
          (λ b x fair k. on_both H (is_estab b.controller.adjacency.state) (does linked.setup.port b x) b (does_h linked.setup.port b x fair k) k) w.actions v.said
          (with_work a linked w) (worked_h a linked w v.port (found_h t a port linked found h) h)

  performs_h : (port : PortNo) (a : Acted) (action : Action) → IsFair t port action → H a → H (performs port a action)
  performs_h port a (Say message) fair h = does_h port a (Say message) fair h
  performs_h port a (Ask request needed) fair h = does_h port a (Ask request needed) fair h
  performs_h port a (Note item) fair h = does_h port a (Note item) fair h
  performs_h port a (CutChain label) fair h = does_h port a (CutChain label) fair h
  performs_h port a (TakeBack input output) fair h = does_h port a (TakeBack input output) fair h
  performs_h port a (Withdraw input) fair h = does_h port a (Withdraw input) fair h
  performs_h port a actions.Reset fair h = resets_h a port h

  pub performed_h : (port : PortNo) (a : Acted) (action : Action) → IsFair t port action → H a → H (performs_in_estab port a action)
  performed_h port a action fair h = on_both H (is_estab a.controller.adjacency.state) (performs port a action) a (performs_h port a action fair h) h

  -- *A rule of a port*
  pub works_h : (a : Acted) (port : PortNo) (linked : Linked) (w : Work) → linked_at a.controller port ≡ Some linked → Voiced t linked.setup w → H a → H (works_as a linked w)
  works_h a port linked w found v h = each_h (IsFair t linked.setup.port) (performs_in_estab linked.setup.port) (performed_h linked.setup.port) w.actions v.said
      (with_work a linked w) (worked_h a linked w v.port (found_h t a port linked found h) h)

  pub at_port_h : (a : Acted) (port : PortNo) (rule : Rule)
      → ((linked : Linked) → linked_at a.controller port ≡ Some linked → Voiced t linked.setup (begins a linked) → Voiced t linked.setup (rule linked.setup a.controller.desk (begins a linked)))
      → H a → H (at_port a port rule)
  at_port_h a port rule each h = by (linked_at a.controller port) refl
    where
      by : (o : Option Linked) → linked_at a.controller port ≡ o → H (works a rule o)
      by None found = h
      by (Some linked) found = works_h a port linked (rule linked.setup a.controller.desk (begins a linked)) found (each linked found (begins_v a port linked found h)) h

  -- a port that is put in the midst of its work, with what it has asked done so far
  pub rest_h : (P : Action → Type 0) (port : PortNo) → ((a : Acted) (x : Action) → P x → H a → H (performs_in_estab port a x)) → (xs : List Action) → Every P xs → (a : Acted) → H a → H (fold (performs_in_estab port) a xs)
  rest_h P port each xs all a h = each_h P (performs_in_estab port) each xs all a h

  pub placed_h : (a : Acted) (port : PortNo) (linked : Linked) (w : Work) → linked_at a.controller port ≡ Some linked → IsSteady t linked.setup w.port → H a → H (with_work a linked w)
  placed_h a port linked w found k h = worked_h a linked w k (found_h t a port linked found h) h
