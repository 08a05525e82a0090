-- a controller goes on since an event began: on the default channel of one port it sends no message, whatever is asked of it, and
-- whatever a port asks, where this port asks neither to say one nor to be reset

use Rattle.std.proofs.Common.{◌≡◌, ◌≢◌, ℕ, ◌+◌, ◌*◌, ◌≤◌, false, List, [], ◌∷◌, ◌++◌, length, Option, None, Some, refl, sym, ◌∙◌, ap, subst, arith, fold, if◌then◌else◌}
use Rattle.std.specs.Prelude.{◌==◌, nat_le}
use Rattle.world_model.specs.Words.{PortNo, End, Channel, Mark, Cell, Frame, Loss, PoolFull, next_control, with_control, noted, frame_cells, made, nothing_taken, same_channel, Request, MoveBranch, Standing, is_estab, is_led_home, last_transaction, Action, home_of, Work, resets, restarts, Controller, Linked, port_key, linked_at, with_linked, with_desk, chain_of, chains_with, default_channel, default_home, sends_control, says_gsmp, asks_next, asks, takes_back, cuts_of, cuts_label, begins, with_work, closes_by, port_restarts_of, port_restarts, resets_gsmp, node_resets, does, does_in_estab, resets_of, resets_port, performs, performs_in_estab, Rule, works, at_port, ifmp_packet_of, default_payload}
use Rattle.world_model.specs.ifmp_wire.Message.{octets_of as ifmp_octets}
use Rattle.world_model.specs.gsmp_wire.declared.message.Message.{Message}
use Rattle.world_model.specs.gsmp_wire.Layout.{octets_of as gsmp_octets}
use Rattle.world_model.specs.frame_model.Sending.{Sender}
use Rattle.world_model.specs.port_model.Desk.{asked, message_at}
use Rattle.world_model.specs.port_model.Port.{Port}
use Rattle.world_model.specs.port_model.declared.action.Action.TheVariants as actions
use Rattle.world_model.specs.Controller.{Acted, free_slots, ports_of}
use Rattle.world_model.specs.Sending.{with_cells, sends}
use Rattle.law_port_facts.specs.ordered_lists.Ordered.{Every}
use Rattle.law_port_facts.proofs.Keyed.{on_both, at_key, at_every, put_every, by_eq}
use Rattle.law_shown_cells.proofs.Tested.{cut_frames}
use Rattle.law_shown_cells.proofs.Frames.{differ}
use Rattle.law_live_unsaid.specs.Law.{IsHushed}
use Rattle.law_live_unsaid.proofs.Since.{with_frame, Since, since_made, since_elsewhere}

-- *Of which port* of a link, what is so of it, and of a port that was reset with its node too, and what waited for the switch
pub record Terms : Type 1 where
  pub port : PortNo
  pub link : 1 ≤ port.0
  pub is : Port → Type 0
  pub anew : (p : Port) → p.session ≡ None → p.grants ≡ [] → is p
  pub began : List Cell

module _ (t : Terms) where
  abbrev pub home : Channel
  home = (default_home t.port).channel

  abbrev pub IsStill : Linked → Type 0
  IsStill linked = port_key linked ≡ t.port.0 → t.is linked.port

  pub record Kept (a : Acted) : Type 0 where
    pub still : Every IsStill a.controller.ports
    pub since : Since home t.began a.controller.queue a.notes.frames a.numbers.controls

  -- what the port leaves at work, where it asks nothing else
  pub record IsMute (w : Work) : Type 0 where
    pub still : t.is w.port
    pub hushed : Every IsHushed w.actions

  pub fold_kept : {X : Type 0} (f : Acted → X → Acted) → ((a : Acted) (x : X) → Kept a → Kept (f a x)) → (xs : List X) (a : Acted) → Kept a → Kept (fold f a xs)
  fold_kept f each [] a h = h
  fold_kept f each (x ∷ xs) a h = fold_kept f each xs (f a x) (each a x h)

  -- *Other channels*: that of GSMP, and the default channels of other ports
  apart_gsmp : same_channel default_channel home ≡ false
  apart_gsmp = differ default_channel home (λ e. (let vpi : 0 ≡ 16 * t.port.0 + 0 = ap (λ (c : Channel). c.vpi) e in absurd (omega (arith, vpi, t.link))))

  apart_home : (q : PortNo) → q.0 ≢ t.port.0 → same_channel (default_home q).channel home ≡ false
  apart_home q apart = differ (default_home q).channel home (λ e. (let vpi : 16 * q.0 + 0 ≡ 16 * t.port.0 + 0 = ap (λ (c : Channel). c.vpi) e in apart (omega (arith, vpi))))

  -- *Frames are sent*
  pub sent_kept : (a : Acted) (channel : Channel) (mark : Mark) (payload : List ℕ) → Every IsStill a.controller.ports
      → Since home t.began a.controller.queue (with_frame a.notes.frames mark payload) a.numbers.controls
      → Since home t.began (a.controller.queue ++ frame_cells channel mark payload) (with_frame a.notes.frames mark payload) a.numbers.controls → Kept (sends a channel mark payload)
  sent_kept a channel mark payload still none all = on_both (λ (s : Sender Controller). Kept (record a { controller = s.queues; notes = s.notes })) (nat_le (length (frame_cells channel mark payload)) (free_slots a.controller))
      (record { queues = with_cells a.controller (frame_cells channel mark payload); notes = made a.notes mark payload })
      (record { queues = a.controller; notes = noted (made a.notes mark payload) (Loss mark PoolFull) })
      (record { still = still; since = all }) (record { still = still; since = none })

  pub control_kept : (a : Acted) (channel : Channel) (payload : List ℕ) → same_channel channel home ≡ false → Kept a → Kept (sends_control a channel payload)
  control_kept a channel payload apart h =
      let none : Since home t.began a.controller.queue (with_frame a.notes.frames (next_control a.numbers) payload) (a.numbers.controls + 1) =
      since_made home t.began a.controller.queue a.notes.frames a.numbers.controls payload h.since in
      sent_kept (record a { numbers = with_control a.numbers }) channel (next_control a.numbers) payload h.still none
      (since_elsewhere home t.began a.controller.queue channel (next_control a.numbers) payload (with_frame a.notes.frames (next_control a.numbers) payload) (a.numbers.controls + 1) apart none)

  pub told_kept : (a : Acted) (message : Message) → Kept a → Kept (says_gsmp a message)
  told_kept a message h = control_kept a default_channel (gsmp_octets message) apart_gsmp h

  -- *A linked port* is put back
  there : (a : Acted) (q : PortNo) (linked : Linked) → linked_at a.controller q ≡ Some linked → Kept a → IsStill linked
  there a q linked found h = at_every port_key IsStill q.0 a.controller.ports linked h.still found

  pub back_kept : (a : Acted) (linked : Linked) → IsStill linked → Kept a → Kept (with_linked a linked)
  back_kept a linked still h = record { still = put_every port_key IsStill linked a.controller.ports still h.still; since = h.since }

  worked : (a : Acted) (linked : Linked) (w : Work) → (port_key linked ≡ t.port.0 → t.is w.port) → Kept a → Kept (with_work a linked w)
  worked a linked w still h = record { still = put_every port_key IsStill (record linked { port = w.port }) a.controller.ports still h.still; since = h.since }

  cut_kept : (q : PortNo) (a : Acted) (label : ℕ) → Kept a → Kept (cuts_label q a label)
  cut_kept q a label h = by (linked_at a.controller q) refl
    where
      by : (o : Option Linked) → linked_at a.controller q ≡ o → Kept (cuts_of a label o)
      by None found = h
      by (Some linked) found = record {
        still = put_every port_key IsStill (record linked { chains = chains_with linked.chains label nothing_taken }) a.controller.ports (there a q linked found h) h.still;
        since = subst (λ (frames : List Frame). Since home t.began a.controller.queue frames a.numbers.controls) (sym (cut_frames a.notes (chain_of linked.chains label))) h.since;
      }

  -- *A node reset* sends nothing
  closes_kept : (q : PortNo) (a : Acted) (action : Action) → Kept a → Kept (closes_by q a action)
  closes_kept q a (actions.Say message) h = h
  closes_kept q a (actions.Ask request needed) h = h
  closes_kept q a (actions.Note item) h = record { still = h.still; since = h.since }
  closes_kept q a (actions.CutChain label) h = cut_kept q a label h
  closes_kept q a (actions.TakeBack input output) h = h
  closes_kept q a (actions.Withdraw input) h = h
  closes_kept q a actions.Reset h = h

  restarts_kept : (a : Acted) (q : PortNo) → Kept a → Kept (port_restarts a q)
  restarts_kept a q h = by (linked_at a.controller q)
    where
      by : (o : Option Linked) → Kept (port_restarts_of a o)
      by None = h
      by (Some linked) =
          let w : Work = restarts linked.setup (begins a linked) in
          fold_kept (closes_by linked.setup.port) (closes_kept linked.setup.port) w.actions (with_work a linked w) (worked a linked w (λ same. t.anew w.port refl refl) h)

  pub reset_kept : (a : Acted) → Kept a → Kept (node_resets a)
  reset_kept a h = fold_kept port_restarts restarts_kept (ports_of a.controller) (resets_gsmp a) (record { still = h.still; since = h.since })

  -- *Asking*
  next_kept : (a : Acted) (request : Request) → Kept a → Kept (asks_next a request)
  next_kept a request h =
      let d : Acted = with_desk a (asked a.controller.desk request) in
      let s : Standing = record { number = a.controller.desk.next; request = request } in
      told_kept d (message_at d.controller.desk s) (record { still = h.still; since = h.since })

  pub asks_kept : (a : Acted) (request : Request) → Kept a → Kept (asks a request)
  asks_kept a request h = on_both Kept (is_estab a.controller.adjacency.state) (if a.controller.desk.next == last_transaction then node_resets a else asks_next a request) a
      (on_both Kept (a.controller.desk.next == last_transaction) (node_resets a) (asks_next a request) (reset_kept a h) (next_kept a request h)) h

  pub asks_each_kept : (requests : List Request) (a : Acted) → Kept a → Kept (fold asks a requests)
  asks_each_kept requests a h = fold_kept asks asks_kept requests a h

  pub takes_back_kept : (a : Acted) (input output : End) → Kept a → Kept (takes_back a input output)
  takes_back_kept a input output h = on_both Kept (is_led_home a.controller.desk input (home_of input)) a (asks a (MoveBranch input output (home_of input))) h (asks_kept a (MoveBranch input output (home_of input)) h)

  -- *What a port asked* is done
  abbrev MayAsk : PortNo → Action → Type 0
  MayAsk q action = q.0 ≡ t.port.0 → IsHushed action

  does_kept : (q : PortNo) (a : Acted) (action : Action) → MayAsk q action → Kept a → Kept (does q a action)
  does_kept q a (actions.Say message) may h = by_eq q.0 t.port.0 (λ same b. absurd (may same))
      (λ apart b. control_kept a (default_home q).channel (default_payload (ifmp_packet_of a.controller.address (ifmp_octets message))) (apart_home q apart) h)
  does_kept q a (actions.Ask request needed) may h = asks_kept a request h
  does_kept q a (actions.Note item) may h = record { still = h.still; since = h.since }
  does_kept q a (actions.CutChain label) may h = cut_kept q a label h
  does_kept q a (actions.TakeBack input output) may h = takes_back_kept a input output h
  does_kept q a (actions.Withdraw input) may h = record { still = h.still; since = h.since }
  does_kept q a actions.Reset may h = h

  does_in_kept : (q : PortNo) (a : Acted) (action : Action) → MayAsk q action → Kept a → Kept (does_in_estab q a action)
  does_in_kept q a action may h = on_both Kept (is_estab a.controller.adjacency.state) (does q a action) a (does_kept q a action may h) h

  resets_kept : (a : Acted) (q : PortNo) → q.0 ≢ t.port.0 → Kept a → Kept (resets_port a q)
  resets_kept a q apart h = by (linked_at a.controller q) refl
    where
      by : (o : Option Linked) → linked_at a.controller q ≡ o → Kept (resets_of a o)
      by None found = h
      by (Some linked) found =
          let w : Work = resets linked.setup (begins a linked) in
          fold_kept (does_in_estab linked.setup.port) (λ b action k. does_in_kept linked.setup.port b action (λ same. absurd (other same)) k) w.actions (with_work a linked w)
          (worked a linked w (λ same. absurd (other same)) h)
        where
          other : port_key linked ≡ t.port.0 → ⊥
          other same = apart (sym (at_key port_key q.0 a.controller.ports linked found) ∙ same)

  performs_kept : (q : PortNo) (a : Acted) (action : Action) → MayAsk q action → Kept a → Kept (performs q a action)
  performs_kept q a (actions.Say message) may h = does_kept q a (actions.Say message) may h
  performs_kept q a (actions.Ask request needed) may h = does_kept q a (actions.Ask request needed) may h
  performs_kept q a (actions.Note item) may h = does_kept q a (actions.Note item) may h
  performs_kept q a (actions.CutChain label) may h = does_kept q a (actions.CutChain label) may h
  performs_kept q a (actions.TakeBack input output) may h = does_kept q a (actions.TakeBack input output) may h
  performs_kept q a (actions.Withdraw input) may h = does_kept q a (actions.Withdraw input) may h
  performs_kept q a actions.Reset may h = by_eq q.0 t.port.0 (λ same b. absurd (may same)) (λ apart b. resets_kept a q apart h)

  performs_in_kept : (q : PortNo) (a : Acted) (action : Action) → MayAsk q action → Kept a → Kept (performs_in_estab q a action)
  performs_in_kept q a action may h = on_both Kept (is_estab a.controller.adjacency.state) (performs q a action) a (performs_kept q a action may h) h

  acts_kept : (q : PortNo) (asked : List Action) → (q.0 ≡ t.port.0 → Every IsHushed asked) → (a : Acted) → Kept a → Kept (fold (performs_in_estab q) a asked)
  acts_kept q [] may a h = h
  acts_kept q (action ∷ asked) may a h = acts_kept q asked (λ same. (may same).1) (performs_in_estab q a action) (performs_in_kept q a action (λ same. (may same).0) h)

  -- *Any rule* at a port, by which this one asks neither
  pub rule_kept : (a : Acted) (q : PortNo) (rule : Rule)
      → ((linked : Linked) → linked_at a.controller q ≡ Some linked → port_key linked ≡ t.port.0 → t.is linked.port → IsMute (rule linked.setup a.controller.desk (begins a linked)))
      → Kept a → Kept (at_port a q rule)
  rule_kept a q rule mute h = by (linked_at a.controller q) refl
    where
      by : (o : Option Linked) → linked_at a.controller q ≡ o → Kept (works a rule o)
      by None found = h
      by (Some linked) found =
          let w : Work = rule linked.setup a.controller.desk (begins a linked) in
          acts_kept linked.setup.port w.actions (λ same. (own same).hushed) (with_work a linked w) (worked a linked w (λ same. (own same).still) h)
        where
          own : port_key linked ≡ t.port.0 → IsMute (rule linked.setup a.controller.desk (begins a linked))
          own same = mute linked found same (there a q linked found h same)
