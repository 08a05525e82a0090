-- a tick of a controller may be done: what stands is sent again, each port ticks, and joins are tried

use Rattle.std.proofs.Common.{◌≡◌, ◌≤◌, ◌<◌, ℕ, suc, zero, List, [], ◌∷◌, ◌++◌, take, None, Some, refl, sym, ◌∙◌, subst, arith, fold, flat_map, append_assoc}
use Rattle.law_controller.specs.world_model.Words.{PortNo, End, Greeting, Party, Answer, Quiet, Send, Open, gsmp_answer, ticked, IsLinkPort, PortRow, Desk, Standing, empty_desk, last_transaction, sent_again, Setup, Linked, with_desk, default_channel, says_gsmp, begins, inputs_at, meets, ticks_port}
use Rattle.law_controller.specs.world_model.adjacency_table.declared.message.Answer.TheVariants.{Reset}
use Rattle.law_controller.specs.world_model.adjacency_table.Side as sides
use Rattle.law_controller.specs.world_model.gsmp_wire.Layout.{octets_of as gsmp_octets}
use Rattle.law_controller.specs.world_model.gsmp_wire.declared.message.Message.{Message}
use Rattle.law_controller.specs.world_model.gsmp_wire.declared.message.Message.TheVariants.{Adjacency}
use Rattle.law_controller.specs.world_model.gsmp_wire.declared.request.Request.TheVariants.{AllPorts}
use Rattle.law_controller.specs.ordered_lists.Ordered.{Every}
use Rattle.law_controller.specs.world_model.port_model.Ticks as port_ticks
use Rattle.law_controller.specs.law_port_facts.Port.{IsLabelEnd, IsPort, IsShaped}
use Rattle.law_controller.proofs.law_port_facts.Hearings.{ticks_goes}
use Rattle.law_controller.specs.world_model.Controller.{Acted, ports_of}
use Rattle.law_controller.specs.world_model.Gsmp.{answers, steps}
use Rattle.law_controller.proofs.law_controller_facts.Moves.{ages, Found, HasPorts}
use Rattle.law_controller.proofs.law_controller_facts.Joining.{every_flat_map, each_there}
use Rattle.law_controller.proofs.law_controller_facts.Entering.{inputs_of_port}
use Rattle.law_controller.proofs.law_controller_facts.Laws.{has_ports}
use Rattle.law_controller.proofs.Holding.{Holds}
use Rattle.law_controller.proofs.Performing.{at_port_holds}
use Rattle.law_controller.proofs.Whole.{Whole, holds_of}
use Rattle.law_controller.proofs.Events.{steps_holds, sends_again_holds, ticks_port_holds}
use Rattle.law_input_steps.specs.Asking.{CanEach, IsReady}
use Rattle.law_input_steps.specs.Hearing.{Reads}
use Rattle.law_input_steps.specs.Ticks.{CanTickPort, after_steps, after_again, after_ports, CanTick}
use Rattle.law_input_premises.specs.Read.{AreRead}
use Rattle.law_input_premises.proofs.Rows.{sends_control_rows, node_rows, asks_rows, sends_again_rows, ticks_port_rows, fold_rows}
use Rattle.law_input_premises.proofs.Asking.{shaped_asked}
use Rattle.law_input_premises.proofs.Working.{can_work}
use Rattle.law_input_premises.proofs.Releasing.{read_on}
use Rattle.law_input_premises.proofs.Trying.{each_tried}

-- *Sent again*
below_last : (m n : ℕ) → m < n → n ≤ last_transaction → m < last_transaction
below_last m n less le = omega (arith, less, le)

module _ (setups : List Setup) (desk : Desk) (reads : AreRead setups desk.rows) (room : desk.next ≤ last_transaction) where
  ready_each : (n : ℕ) (front xs : List Standing) → desk.standing ≡ front ++ xs → Every (λ (s : Standing). s.number < desk.next) xs → Every (λ (s : Standing). IsShaped setups s.request) xs
      → Every (IsReady desk) (take n xs)
  ready_each zero front xs is below shaped = tt
  ready_each (suc n) front [] is below shaped = tt
  ready_each (suc n) front (s ∷ xs) is below shaped = (
    record { stands = record { before = front; after = xs; is = is }; shape = shaped_asked setups s.request shaped.0; reads = reads s.number s.request (below_last s.number desk.next below.0 room) shaped.0 },
    ready_each n (front ++ s ∷ []) xs (is ∙ sym (append_assoc front (s ∷ []) xs)) below.1 shaped.1,
  )

pub ready_again : (setups : List Setup) (a : Acted) → AreRead setups a.controller.desk.rows → Holds setups a → Every (IsReady a.controller.desk) (sent_again a.controller.desk)
ready_again setups a reads h = ready_each setups a.controller.desk reads h.sound.desk.room 32 [] a.controller.desk.standing refl h.sound.desk.below h.sound.requests

-- *The adjacency with the switch*: the records stay, or there are none
abbrev RowsSo : (List PortRow → Type 0) → Acted → Type 0
RowsSo P a = P a.controller.desk.rows

said_so : (P : List PortRow → Type 0) (a : Acted) (message : Message) → RowsSo P a → RowsSo P (says_gsmp a message)
said_so P a message p = subst P (sym (sends_control_rows a default_channel (gsmp_octets message))) p

met_so : (P : List PortRow → Type 0) (a : Acted) → P [] → RowsSo P (meets a)
met_so P a none = subst P (sym (asks_rows (with_desk a empty_desk) AllPorts)) none

answers_so : (P : List PortRow → Type 0) (a : Acted) (answer : Answer Greeting Party) → P [] → RowsSo P a → RowsSo P (answers a answer)
answers_so P a Quiet none p = p
answers_so P a (Send greeting) none p = said_so P a (Adjacency greeting) p
answers_so P a (Open None own) none p = met_so P a none
answers_so P a (Open (Some greeting) own) none p = met_so P (says_gsmp a (Adjacency greeting)) none
answers_so P a Reset none p = subst P (sym (node_rows a)) p

pub steps_so : (P : List PortRow → Type 0) (a : Acted) (step : sides.Step Party) → P [] → RowsSo P a → RowsSo P (steps a step)
steps_so P a step none p = answers_so P (record a { controller = record a.controller { adjacency = step.side } }) (gsmp_answer step.answer) none p

module _ (setups : List Setup) (links : Every (λ (setup : Setup). IsLinkPort setup.port) setups) (input : End) (above : 1 ≤ input.port.0) where
  -- *Each port*
  port_holds : (a : Acted) (port : PortNo) → Holds setups a → Holds setups (ticks_port a port)
  port_holds a port h = at_port_holds setups a port port_ticks.ticks (λ linked found. ticks_goes linked.setup a.controller.desk (begins a linked) refl) h

  each_port : (ports : List PortNo) (a : Acted) → Holds setups a → AreRead setups a.controller.desk.rows → CanEach ticks_port (CanTickPort input) a ports
  each_port [] a h reads = tt
  each_port (port ∷ ports) a h reads = (
    can_work setups links input above a port port_ticks.ticks (λ linked found. ticks_goes linked.setup a.controller.desk (begins a linked) refl) reads h,
    each_port ports (ticks_port a port) (port_holds a port h) (read_on setups a (ticks_port a port) (ticks_port_rows a port) reads),
  )

  all_ports : (ports : List PortNo) (a : Acted) → Whole setups a → Whole setups (fold ticks_port a ports)
  all_ports [] a h = h
  all_ports (port ∷ ports) a h = all_ports ports (ticks_port a port) (ticks_port_holds setups links a port h)

  -- *All of it*
  pub can_tick : (a : Acted) → Whole setups a → AreRead setups [] → AreRead setups a.controller.desk.rows → Reads (gsmp_answer (ticked a.controller.adjacency).answer) → CanTick input a
  can_tick a h none reads greets =
      let stepped : Acted = after_steps a in
      let again : Acted = after_again a in
      let last : Acted = after_ports a in
      let w : Whole setups stepped = steps_holds setups links a (ticked a.controller.adjacency) ages h in
      let v : Whole setups again = sends_again_holds setups links stepped w in
      let u : Whole setups last = all_ports (ports_of again.controller) again v in
      let has : HasPorts setups last = has_ports setups last u.sound in
      let stepped_reads : AreRead setups stepped.controller.desk.rows = steps_so (AreRead setups) a (ticked a.controller.adjacency) none reads in
      let again_reads : AreRead setups again.controller.desk.rows = read_on setups stepped again (sends_again_rows stepped) stepped_reads in
      record {
        reads = greets;
        again = ready_again setups stepped stepped_reads (holds_of setups stepped w);
        ports = each_port (ports_of again.controller) again (holds_of setups again v) again_reads;
        joins = each_tried setups input above (flat_map inputs_at last.controller.ports) last
            (every_flat_map (λ (linked : Linked). Found setups last linked × IsPort setups linked.setup linked.port) (IsLabelEnd setups) inputs_at
            (λ linked p. inputs_of_port setups last linked has p.0 p.1) last.controller.ports (each_there setups last has))
            (holds_of setups last u) (read_on setups again last (fold_rows ticks_port ticks_port_rows (ports_of again.controller) again) again_reads);
      }
