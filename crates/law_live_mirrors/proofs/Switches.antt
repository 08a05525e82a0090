-- a switch hears what is asked, and all else

use Rattle.std.proofs.Common.{◌≡◌, ℕ, zero, suc, Bool, true, false, List, ◌∷◌, Option, None, Some, length, refl, sym, ◌∙◌, ap, subst, filter, if◌then◌else◌}
use Rattle.std.specs.Prelude.{◌&&◌, nat_le}
use Rattle.std.specs.List.{list_all}
use Rattle.std.specs.FinMap.{get}
use Rattle.world_model.specs.Words.{End, PortNo, Mark, Party, Step, Greeting, is_estab, gsmp_answer, gsmp_received, ticked, next_control, Answer, Quiet, Send, Open, Cell, frame_cells, made, noted, Loss, PoolFull, unfinished_after, switched_on, route_on, Branches, Request, AddBranch, MoveBranch, DeleteTree, VerifyTree, PortManagement, Desk, Linked, Changed, branches_after, ports_after, asked_in, is_request, is_busy, lacks_branch, failure_of, handled, handled_asked, handled_by, carried_out, replied, requested, switched_cell, tick_comes, control_port, gsmp_channel, is_connectable, numbers_of, has_port, named_ends, named_ports, names_session, used_ports}
use Rattle.world_model.specs.adjacency_table.declared.message.Answer.TheVariants.{Reset}
use Rattle.world_model.specs.crossbar_model.Crossbar.{output_of, input_of}
use Rattle.world_model.specs.crossbar_model.declared.branch.Branch.{Branch as BranchOf}
use Rattle.world_model.specs.frame_model.Sending.{Sender}
use Rattle.world_model.specs.gsmp_wire.declared.message.Message.{Message}
use Rattle.world_model.specs.gsmp_wire.declared.message.Message.TheVariants.{Adjacency, Branch, Move, Port, AllPorts}
use Rattle.world_model.specs.gsmp_wire.declared.request.Request.TheVariants as requests
use Rattle.world_model.specs.gsmp_wire.Layout.{octets_of}
use Rattle.world_model.specs.port_model.Requests.{request_input}
use Rattle.world_model.specs.switch_model.declared.port.PortState.{PortState}
use Rattle.world_model.specs.switch_model.declared.request.Asked.{Asked}
use Rattle.world_model.specs.gsmp_wire.declared.failure.Failure.{Failure}
use Rattle.world_model.specs.Switch.{Switch, ActedSwitch, free_slots, is_up}
use Rattle.world_model.specs.Conduct.{with_cells, says, answers, steps, message_heard, cell_routed}
use Rattle.law_port_facts.proofs.Keyed.{on_both}
use Rattle.law_input_steps.specs.Asking.{IsAsked, concerns}
use Rattle.law_input_steps.proofs.Ends.{same_self}
use Rattle.law_input_steps.proofs.Branches.{kept_output}
use Rattle.law_live_mirrors.specs.Mirrors.{MayFollow, LeadOn, IsBelieved, Mirrors}
use Rattle.law_live_mirrors.specs.Fit.{IsFit}
use Rattle.law_live_mirrors.specs.Law.{Comes, IsHeard, SwitchesCarryOut, LeadsSame, SwitchesLeadSame}
use Rattle.law_live_mirrors.proofs.Leading.{led_on, led_as_before, first_on, first_away, not_busy, not_lacking, none_fails}

-- *What is fit* is so by the ports of the switch and its paths
fit_by : (s t : Switch) (asked : Asked) → t.ports ≡ s.ports → t.vpis ≡ s.vpis → IsFit s asked → IsFit t asked
fit_by s t asked ports vpis fit = record {
  is_asked = fit.is_asked;
  ports = ap (λ (x : List PortState). list_all (has_port x) (named_ports asked.request)) ports ∙ fit.ports;
  session = ap (λ (x : List PortState). names_session x asked.session (named_ports asked.request)) ports ∙ fit.session;
  up = ap (λ (x : List PortState). list_all (is_up x) (used_ports asked.request)) ports ∙ fit.up;
  channels = ap (λ (x : List PortState). list_all (is_connectable (numbers_of x) t.vpis) (named_ends asked.request)) ports
      ∙ (ap (λ (n : ℕ). list_all (is_connectable (numbers_of s.ports) n) (named_ends asked.request)) vpis ∙ fit.channels);
}

-- *A switch with the same ports, paths and branches*
pub record SameParts (before after : Switch) : Type 0 where
  pub ports : after.ports ≡ before.ports
  pub vpis : after.vpis ≡ before.vpis
  pub branches : after.crossbar.branches ≡ before.crossbar.branches

itself : (s : Switch) → SameParts s s
itself s = record { ports = refl; vpis = refl; branches = refl }

then_same : (a b c : Switch) → SameParts a b → SameParts b c → SameParts a c
then_same a b c p q = record { ports = q.ports ∙ p.ports; vpis = q.vpis ∙ p.vpis; branches = q.branches ∙ p.branches }

-- what it says
said_same : (a : ActedSwitch) (message : Message) → SameParts a.switch (says a message).switch
said_same a message = on_both (λ (s : Sender Switch). SameParts a.switch s.queues) (nat_le (length cells) (free_slots a.switch))
    (record { queues = with_cells a.switch control_port cells; notes = made a.notes mark (octets_of message) })
    (record { queues = a.switch; notes = noted (made a.notes mark (octets_of message)) (Loss mark PoolFull) })
    (record { ports = refl; vpis = refl; branches = refl }) (itself a.switch)
  where
    mark : Mark
    mark = next_control a.numbers

    cells : List Cell
    cells = frame_cells gsmp_channel mark (octets_of message)

-- *Its ports* stay as they are by what a controller asks
ports_same : (ports : List PortState) (request : Request) → IsAsked request → ports_after ports request ≡ ports
ports_same ports (AddBranch input output) is = refl
ports_same ports (MoveBranch input from to) is = refl
ports_same ports (DeleteTree input) is = refl
ports_same ports (VerifyTree input) is = refl
ports_same ports (requests.DeleteAll port) is = refl
ports_same ports (PortManagement port function) is = absurd is
ports_same ports requests.AllPorts is = refl

-- *A request that is carried out*
both : (x y : Bool) → x ≡ true → y ≡ true → (x && y) ≡ true
both true y p q = q
both false y p q = absurd (cc p)

request_heard : (a : ActedSwitch) (message : Message) → is_request message ≡ true → message_heard a message ≡ requested a message
request_heard a (Adjacency greeting) is = absurd (cc is)
request_heard a (Branch kind result code transaction session input_port input output_port output count priority) is = refl
request_heard a (Move result code transaction session input_port input output_port output target_port target count priority) is = refl
request_heard a (Port result code transaction port session function) is = refl
request_heard a (AllPorts result code transaction rows) is = refl

module _ (ports : List Linked) (desk : Desk) (a : ActedSwitch) (message : Message) (asked : Asked) (way : List Request) (h : Comes ports desk a message asked way) where
  abbrev m : Branches
  m = a.switch.crossbar.branches

  on_its_input : (request : Request) (input : End) → request_input request ≡ Some input → IsAsked request → concerns input request ≡ true
  on_its_input (AddBranch i o) input is shape = subst (λ (e : End). concerns e (AddBranch i o) ≡ true) (one i input is) (same_self i)
    where
      one : (x y : End) → Some x ≡ Some y → x ≡ y
      one x y e = cc
  on_its_input (MoveBranch i from to) input is shape = subst (λ (e : End). concerns e (MoveBranch i from to) ≡ true) (one i input is) (same_self i)
    where
      one : (x y : End) → Some x ≡ Some y → x ≡ y
      one x y e = cc
  on_its_input (DeleteTree i) input is shape = subst (λ (e : End). concerns e (DeleteTree i) ≡ true) (one i input is) (same_self i)
    where
      one : (x y : End) → Some x ≡ Some y → x ≡ y
      one x y e = cc
  on_its_input (VerifyTree i) input is shape = absurd shape
  on_its_input (requests.DeleteAll port) input is shape = absurd (cc is)
  on_its_input (PortManagement port function) input is shape = absurd shape
  on_its_input requests.AllPorts input is shape = absurd (cc is)

  follows : (input : End) → request_input asked.request ≡ Some input → MayFollow asked.request (output_of m input)
  follows input is = (first_on ports desk m asked.request way input (on_its_input asked.request input is h.fit.is_asked) (h.mirrors input is)).0

  free : is_busy m asked.request ≡ false
  free = not_busy m asked.request follows

  found : lacks_branch m asked.request ≡ false
  found = not_lacking m asked.request h.fit.is_asked follows

  no_failure : failure_of a.switch.ports a.switch.vpis m asked ≡ None
  no_failure = none_fails a.switch asked h.fit free found

  one_asked : (other : Asked) → asked_in message ≡ Some other → asked ≡ other
  one_asked other is = one asked other (sym h.asks ∙ is)
    where
      one : (x y : Asked) → Some x ≡ Some y → x ≡ y
      one x y e = cc

  -- the switch behind it
  abbrev changed_by : Changed
  changed_by = branches_after (record { branches = m; notes = a.notes }) asked.request

  abbrev answered_so : ActedSwitch
  answered_so = replied a (carried_out a.switch a.notes message asked.request)

  heard_is : message_heard a message ≡ answered_so
  heard_is = request_heard a message h.request
      ∙ (ap (λ (b : Bool). if b then replied a (handled a.switch a.notes message) else a) (both (is_request message) (is_estab a.switch.adjacency.state) h.request h.up)
      ∙ (ap (λ (o : Option Asked). replied a (handled_asked a.switch a.notes message o)) h.asks
      ∙ ap (λ (o : Option Failure). replied a (handled_by a.switch a.notes message asked.request o)) no_failure))

  abbrev carried_switch : Switch
  carried_switch = (carried_out a.switch a.notes message asked.request).switch

  behind : SameParts carried_switch (message_heard a message).switch
  behind = subst (λ (b : ActedSwitch). SameParts carried_switch b.switch) (sym heard_is)
      (said_same (record a { switch = carried_switch; notes = changed_by.notes }) (carried_out a.switch a.notes message asked.request).answer)

  mirrors_on : (input : End) → Mirrors ports desk m (asked.request ∷ way) input → Mirrors ports desk changed_by.branches way input
  mirrors_on input mirrors = elim (concerns input asked.request) as (λ t. concerns input asked.request ≡ t → Mirrors ports desk changed_by.branches way input) [
    | true ↦ λ here. subst (λ (led : Option End). LeadOn led (filter (concerns input) way) (IsBelieved ports desk input))
        (sym (led_on (record { branches = m; notes = a.notes }) asked.request input h.fit.is_asked free found here))
        (first_on ports desk m asked.request way input here mirrors).1
    | false ↦ λ away. subst (λ (led : Option End). LeadOn led (filter (concerns input) way) (IsBelieved ports desk input))
        (sym (led_as_before (record { branches = m; notes = a.notes }) asked.request input h.fit.is_asked free found away))
        (first_away ports desk m asked.request way input away mirrors)
  ] refl

  is_heard : IsHeard ports desk a (message_heard a message) message asked way
  is_heard = record {
    carried = λ other is. subst (λ (x : Asked). failure_of a.switch.ports a.switch.vpis m x ≡ None) (one_asked other is) no_failure;
    fit = λ other fit. fit_by a.switch (message_heard a message).switch other (behind.ports ∙ ports_same a.switch.ports asked.request h.fit.is_asked) behind.vpis fit;
    mirrors = λ input mirrors. subst (λ (x : Branches). Mirrors ports desk x way input) (sym behind.branches) (mirrors_on input mirrors);
  }

pub switches_carry_out : SwitchesCarryOut
switches_carry_out ports desk a message asked way h = is_heard ports desk a message asked way h

-- *All else*
same_leads : (before after : Switch) → SameParts before after → LeadsSame before after
same_leads before after same = record {
  fit = λ asked fit. fit_by before after asked same.ports same.vpis fit;
  mirrors = λ ports desk way input mirrors. subst (λ (x : Branches). Mirrors ports desk x way input) (sym same.branches) mirrors;
}

pub stepped_same : (a : ActedSwitch) (step : Step Party) → SameParts a.switch (steps a step).switch
stepped_same a step = by (gsmp_answer step.answer)
  where
    b : ActedSwitch
    b = record a { switch = record a.switch { adjacency = step.side } }

    by : (answer : Answer Greeting Party) → SameParts a.switch (answers b answer).switch
    by Quiet = record { ports = refl; vpis = refl; branches = refl }
    by (Send greeting) = then_same a.switch b.switch (says b (Adjacency greeting)).switch (record { ports = refl; vpis = refl; branches = refl }) (said_same b (Adjacency greeting))
    by (Open None key) = record { ports = refl; vpis = refl; branches = refl }
    by (Open (Some greeting) key) = then_same a.switch b.switch (says b (Adjacency greeting)).switch (record { ports = refl; vpis = refl; branches = refl }) (said_same b (Adjacency greeting))
    by Reset = record { ports = refl; vpis = refl; branches = refl }

-- a cell goes out on its branch, which leads where it led
record LeadsAlike (before after : Switch) : Type 0 where
  ports : after.ports ≡ before.ports
  vpis : after.vpis ≡ before.vpis
  leads : (input : End) → output_of after.crossbar.branches input ≡ output_of before.crossbar.branches input

routed_alike : (a : ActedSwitch) (port : PortNo) (cell : Cell) (o : Option BranchOf) (slots : ℕ) → get a.switch.crossbar.branches (input_of port cell) ≡ o → free_slots a.switch ≡ slots
    → LeadsAlike a.switch (cell_routed a port cell (route_on o slots)).switch
routed_alike a port cell None left is same = record { ports = refl; vpis = refl; leads = λ input. refl }
routed_alike a port cell (Some b) zero is same = record { ports = refl; vpis = refl; leads = λ input. refl }
routed_alike a port cell (Some b) (suc left) is same = record {
  ports = refl;
  vpis = refl;
  leads = λ input. ap (λ (x : Branches). output_of x input) (λ i. (switched_on a.switch.crossbar (input_of port cell) (is i) (same i) cell).branches)
      ∙ kept_output input a.switch.crossbar.branches (input_of port cell) b (record b { unfinished = unfinished_after cell }) is refl;
}

cells_same : (a : ActedSwitch) (port : PortNo) (cell : Cell) → LeadsSame a.switch (switched_cell a port cell).switch
cells_same a port cell = by (routed_alike a port cell (get a.switch.crossbar.branches (input_of port cell)) (free_slots a.switch) refl refl)
  where
    after : Switch
    after = (switched_cell a port cell).switch

    by : LeadsAlike a.switch after → LeadsSame a.switch after
    by alike = record {
      fit = λ asked fit. fit_by a.switch after asked alike.ports alike.vpis fit;
      mirrors = λ ports desk way input mirrors. subst (λ (led : Option End). LeadOn led (filter (concerns input) way) (IsBelieved ports desk input)) (sym (alike.leads input)) mirrors;
    }

pub switches_lead_same : SwitchesLeadSame
switches_lead_same = record {
  greetings = λ a greeting. same_leads a.switch (message_heard a (Adjacency greeting)).switch (stepped_same a (gsmp_received a.switch.adjacency greeting));
  cells = cells_same;
  ticks = λ a. same_leads a.switch (tick_comes a).switch (stepped_same a (ticked a.switch.adjacency));
}
