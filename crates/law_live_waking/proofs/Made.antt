-- a control frame that was made stays as it was made, whatever the controller does then

use Rattle.std.proofs.Common.{◌≡◌, ◌≢◌, ℕ, ◌+◌, ◌≤◌, List, length, Option, None, Some, refl, sym, ◌∙◌, ap, subst, arith, fold, flat_map}
use Rattle.std.specs.Prelude.{nat_le}
use Rattle.world_model.specs.Words.{PortNo, End, Channel, Mark, Frame, Rule, at_port, Loss, PoolFull, noted, next_control, with_control, frame_cells, made, payload_of, MoveBranch, is_estab, sent_again, empty_desk, home_of, Action, Setup, Desk, Work, Label, Controller, chain_of, with_desk, sends_control, sends_request, join_for, may_join, enters_grant, enters_label, joins, tries_label, label_on, tries_join, inputs_at, tries_joins, meets, sends_again, ticks_port, ticks_ports, number_of_channel}
use Rattle.world_model.specs.gsmp_wire.declared.request.Request.TheVariants.{AllPorts}
use Rattle.world_model.specs.port_model.Joins as port_joins
use Rattle.world_model.specs.port_model.Ticks as port_ticks
use Rattle.world_model.specs.frame_model.Sending.{Sender}
use Rattle.world_model.specs.Controller.{Acted, free_slots, ports_of}
use Rattle.world_model.specs.Sending.{with_cells}
use Rattle.world_model.specs.Joins.{Join, output_joined}
use Rattle.law_rule_walks.proofs.Controllers.{Keeps, fold_kept, request_kept, asks_kept, any_kept}
use Rattle.law_run_facts.proofs.ordered_lists.Every.{every_all}
use Rattle.law_running_worlds.proofs.law_port_facts.Keyed.{on_both}
use Rattle.law_running_worlds.proofs.law_shown_cells.Tested.{cut_frames}
use Rattle.law_running_worlds.proofs.law_shown_cells.Made.{made_elsewhere}
use Rattle.law_live_control.proofs.Since.{control_mark, with_frame}

module _ (number : ℕ) (payload : List ℕ) where
  pub record IsKept (a : Acted) : Type 0 where
    pub given : number ≤ a.numbers.controls
    pub made_so : payload_of a.notes.frames (control_mark number) ≡ Some payload

  later_mark : (controls : ℕ) → number ≤ controls → control_mark (controls + 1) ≢ control_mark number
  later_mark controls le e = (let same : controls + 1 ≡ number = ap (λ (mark : Mark). mark.frame) e in absurd (omega (arith, le, same)))

  control_keeps : (a : Acted) (channel : Channel) (other : List ℕ) → IsKept a → IsKept (sends_control a channel other)
  control_keeps a channel other h =
      let mark : Mark = next_control a.numbers in
      let now : payload_of (with_frame a.notes.frames mark other) (control_mark number) ≡ Some payload =
      made_elsewhere a.notes.frames mark (control_mark number) other (later_mark a.numbers.controls h.given) ∙ h.made_so in
      on_both (λ (s : Sender Controller). IsKept (record { controller = s.queues; notes = s.notes; numbers = with_control a.numbers }))
      (nat_le (length (frame_cells channel mark other)) (free_slots a.controller))
      (record { queues = with_cells a.controller (frame_cells channel mark other); notes = made a.notes mark other })
      (record { queues = a.controller; notes = noted (made a.notes mark other) (Loss mark PoolFull) })
      (record { given = omega (arith, h.given); made_so = now }) (record { given = omega (arith, h.given); made_so = now })

  with_notes : (a b : Acted) → b.notes.frames ≡ a.notes.frames → b.numbers.controls ≡ a.numbers.controls → IsKept a → IsKept b
  with_notes a b frames controls h = record {
    given = subst (λ (n : ℕ). number ≤ n) (sym controls) h.given;
    made_so = ap (λ (f : List Frame). payload_of f (control_mark number)) frames ∙ h.made_so;
  }

  abbrev AnyWork : Setup → Desk → Work → Type 0
  AnyWork setup desk w = Unit {0}

  abbrev AnyAction : Setup → Action → Type 0
  AnyAction setup action = Unit {0}

  keeps : Keeps (Unit {0}) IsKept AnyWork AnyAction
  keeps = record {
    beginning = λ a linked found h. tt;
    working = λ setup desk w v worked h. tt;
    asking = λ setup desk w h. every_all (AnyAction setup) w.actions (λ action. tt);
    placing = λ a linked w found any h. record { given = h.given; made_so = h.made_so };
    clearing = λ a linked found may h. record { given = h.given; made_so = h.made_so };
    saying = λ setup a message is h. control_keeps a _ _ h;
    noting = λ setup a item is h. record { given = h.given; made_so = h.made_so };
    withdrawing = λ setup a input is h. record { given = h.given; made_so = h.made_so };
    parting = λ a input h. record { given = h.given; made_so = h.made_so };
    telling = λ a message h. control_keeps a _ _ h;
    requesting = λ a request up room h. record { given = h.given; made_so = h.made_so };
    resetting = λ a h. record { given = h.given; made_so = h.made_so };
    emptying = λ a h. record { given = h.given; made_so = h.made_so };
    meeting = λ a h. record { given = h.given; made_so = h.made_so };
    cutting_label = λ a linked label found h. with_notes a _ (cut_frames a.notes (chain_of linked.chains label)) refl h;
    cutting_default = λ a linked found h. with_notes a _ (cut_frames a.notes linked.reassembly) refl h;
    cutting_gsmp = λ a h. with_notes a _ (cut_frames a.notes a.controller.reassembly) refl h;
    changing = λ a h. record { given = h.given; made_so = h.made_so };
  }

  at_port_keeps : (a : Acted) (port : PortNo) (rule : Rule) → IsKept a → IsKept (at_port a port rule)
  at_port_keeps a port rule h = any_kept keeps a port rule (λ linked is found. tt) h

  -- *A meeting* begins
  pub meets_keeps : (a : Acted) → IsKept a → IsKept (meets a)
  meets_keeps a h = asks_kept keeps (with_desk a empty_desk) AllPorts (record { given = h.given; made_so = h.made_so })

  -- *The rest of a tick*
  joins_keep : (a : Acted) (o : Option Join) → IsKept a → IsKept (joins a o)
  joins_keep a None h = h
  joins_keep a (Some join) h = asks_kept keeps (enters_label (enters_grant a join) join) (MoveBranch join.input (home_of join.input) (output_joined join))
      (at_port_keeps (enters_grant a join) join.input.port (λ setup desk w. port_joins.joined w (number_of_channel join.input.channel) (output_joined join))
      (at_port_keeps a join.port (λ setup desk w. port_joins.lent w join.grant join.input) h))

  tries_join_keeps : (a : Acted) (input : End) → IsKept a → IsKept (tries_join a input)
  tries_join_keeps a input h = by (label_on a.controller input)
    where
      by : (o : Option Label) → IsKept (tries_label a input o)
      by None = h
      by (Some label) = on_both IsKept (may_join a.controller input label) (joins a (join_for a.controller input label.flow)) a (joins_keep a (join_for a.controller input label.flow) h) h

  pub rest_keeps : (a : Acted) → IsKept a → IsKept (tries_joins (ticks_ports (sends_again a)))
  rest_keeps a h =
      let again : Acted = sends_again a in
      let ticked : Acted = ticks_ports again in
      let h_again : IsKept again = on_both IsKept (is_estab a.controller.adjacency.state) (fold sends_request a (sent_again a.controller.desk)) a
      (fold_kept IsKept sends_request (request_kept keeps) (sent_again a.controller.desk) a h) h in
      fold_kept IsKept tries_join tries_join_keeps (flat_map inputs_at ticked.controller.ports) ticked
      (fold_kept IsKept ticks_port (λ b port k. at_port_keeps b port port_ticks.ticks k) (ports_of again.controller) again h_again)
