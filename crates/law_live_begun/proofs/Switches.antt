-- a switch goes on so before the first packet enters, and carries out each first request

use Rattle.std.proofs.Common.{◌≡◌, ◌≢◌, ℕ, ◌+◌, ◌-◌, ◌*◌, ◌≤◌, ◌<◌, ◌^◌, ◌==◌, ◌&&◌, ◌||◌, not, nat_lt, nat_le, Bool, true, false, true≢false, List, [], ◌∷◌, map, length, Contains, Option, None, Some, is_some, refl, sym, ◌∙◌, ap, subst, arith, inl, inr, ◌⊎◌, if◌then◌else◌}
use Rattle.std.specs.Prelude.{find, nat_eq}
use Rattle.std.specs.Option.{option_map, option_map_or}
use Rattle.std.specs.List.{list_any}
use Rattle.std.specs.FinMap.{get, insert, remove}
use Rattle.std.proofs.lemmas.Bool.Decides.{nat_tests}
use Rattle.world_model.specs.Words.{PortNo, End, Mark, Loss, PoolFull, Journal, noted, made, payload_of, frame_cells, next_control, Branches, Changed, new_branch, same_end, Request, AddBranch, PortRow, message_of, session_of, default_end, default_home, default_channel, control_port, gsmp_channel, is_request, is_estab, Switch, Party, Said, Answer, Quiet, Send, Open, greeting_of, gsmp_answer, gsmp_received, ticked, Step, noted_cut, added_by, added, ended_by, all_ended, inputs_on, IsLinkPort, is_connectable, has_port, has_session, numbers_of}
use Rattle.world_model.specs.adjacency_table.declared.message.Answer.TheVariants.{Reset}
use Rattle.world_model.specs.gsmp_wire.declared.message.Message.{Message}
use Rattle.world_model.specs.gsmp_wire.declared.message.Message.TheVariants.{Adjacency}
use Rattle.world_model.specs.gsmp_wire.declared.request.Request.TheVariants.{AllPorts, DeleteAll}
use Rattle.world_model.specs.gsmp_wire.Layout.{octets_of as message_octets}
use Rattle.world_model.specs.crossbar_model.Channels.{is_channel_of, is_link_channel}
use Rattle.world_model.specs.crossbar_model.Crossbar.{output_of}
use Rattle.world_model.specs.crossbar_model.declared.branch.Branch.{Branch}
use Rattle.world_model.specs.switch_model.declared.port.PortState.{PortState}
use Rattle.world_model.specs.switch_model.declared.request.Asked.{Asked}
use Rattle.world_model.specs.gsmp_wire.declared.failure.Failure.{Failure}
use Rattle.world_model.specs.gsmp_wire.declared.failure.Failure.TheVariants.{NoPort, BadSession, PortDown, OutOfRange, Busy, NoConnection, SessionsSpent}
use Rattle.world_model.specs.Failures.{applies, failure_of}
use Rattle.world_model.specs.frame_model.Sending.{Sender}
use Rattle.world_model.specs.Requests.{branch_ended, asked_in, branches_after, ports_after}
use Rattle.world_model.specs.Switch.{ActedSwitch, begun as begun_port, free_slots, state_of_port, is_up}
use Rattle.world_model.specs.Answers.{Handled, success_answer, handled, handled_asked, handled_by}
use Rattle.world_model.specs.Conduct.{says, answers, steps, requested, replied, message_heard, with_cells}
use Rattle.law_link_parties.specs.law_run_facts.ordered_lists.Ordered.{Every}
use Rattle.law_link_parties.proofs.law_run_facts.ordered_lists.Every.{every_map}
use Rattle.law_link_parties.proofs.law_run_facts.Numbers.{some_of}
use Rattle.law_link_parties.proofs.law_link_met.law_port_facts.Keyed.{on_both}
use Rattle.law_link_parties.proofs.law_run_facts.law_shown_cells.Made.{made_is, made_elsewhere}
use Rattle.law_link_parties.proofs.law_link_met.law_link_woken.law_causes.Maps.{same_input, insert_here, insert_away, remove_here, remove_away}
use Rattle.law_live_ease.specs.law_live_control.Calm.{nothing, one, IsCarriedOut}
use Rattle.law_live_ease.specs.law_live_ways.Deleting.{DeletesNone}
use Rattle.law_live_begun.specs.Switches.{SwitchGoesOn, SwitchesGoOn}
use Rattle.law_live_begun.proofs.RunsNodes.{any_self, or_right, rows_tell}
use Rattle.law_live_begun.specs.First.{Start, FitsStart, states_of, rows_of, IsFirstRequest, asks_ports, empties, opens_home, opens_out, IsFirstDown, greets_switch, asks_switch, IsFirstUp, greets_controller, tells_ports, succeeds, of_gsmp, AreFirstFrames, IsFirstBranch, home, out, IsFirstSwitch}

-- *What is made* is a message of GSMP, or was made before
only_first : (notes : Journal) (mark : Mark) (message : Message) → AreFirstFrames notes.frames → AreFirstFrames (made notes mark (message_octets message)).frames
only_first notes mark message first other payload e = elim (same_mark_or mark other) [
  | inl same ↦ of_gsmp message (made_so same)
  | inr apart ↦ first other payload (sym (made_elsewhere notes.frames mark other (message_octets message) apart) ∙ e)
]
  where
    same_mark_or : (x y : Mark) → (x ≡ y) ⊎ (x ≢ y)
    same_mark_or x y = by (x.packet == y.packet) (x.frame == y.frame) refl refl
      where
        by : (b c : Bool) → (x.packet == y.packet) ≡ b → (x.frame == y.frame) ≡ c → (x ≡ y) ⊎ (x ≢ y)
        by true true p f = inl (let packets : x.packet ≡ y.packet = grind (arith, nat_tests, p) in let frames : x.frame ≡ y.frame = grind (arith, nat_tests, f) in
            λ i. record { packet = packets i; frame = frames i })
        by false c p f = inr (λ same. (let q : (x.packet == y.packet) ≡ true = (let e : x.packet ≡ y.packet = ap (λ (m : Mark). m.packet) same in grind (arith, nat_tests, e)) in absurd (true≢false (sym q ∙ p))))
        by true false p f = inr (λ same. (let q : (x.frame == y.frame) ≡ true = (let e : x.frame ≡ y.frame = ap (λ (m : Mark). m.frame) same in grind (arith, nat_tests, e)) in absurd (true≢false (sym q ∙ f))))

    one_payload : (x y : List ℕ) → Some x ≡ Some y → y ≡ x
    one_payload x y h = cc

    made_so : mark ≡ other → payload ≡ message_octets message
    made_so same = one_payload (message_octets message) payload (sym (ap (payload_of (made notes mark (message_octets message)).frames) (sym same) ∙ made_is notes.frames mark (message_octets message)) ∙ e)

-- *A message that is said* leaves ports and branches, and makes its frame
module _ (start : Start) where
  said_switch : (a : ActedSwitch) (message : Message) → IsFirstSwitch start a.switch → IsFirstSwitch start (says a message).switch
  said_switch a message first = on_both (λ (s : Sender Switch). IsFirstSwitch start s.queues) (nat_le (length (frame_cells gsmp_channel (next_control a.numbers) (message_octets message))) (free_slots a.switch))
      (record { queues = with_cells a.switch control_port (frame_cells gsmp_channel (next_control a.numbers) (message_octets message)); notes = made a.notes (next_control a.numbers) (message_octets message) })
      (record { queues = a.switch; notes = noted (made a.notes (next_control a.numbers) (message_octets message)) (Loss (next_control a.numbers) PoolFull) })
      (record { ports = first.ports; vpis = first.vpis; branches = first.branches }) first

  said_frames : (a : ActedSwitch) (message : Message) → AreFirstFrames a.notes.frames → AreFirstFrames (says a message).notes.frames
  said_frames a message first = on_both (λ (s : Sender Switch). AreFirstFrames s.notes.frames) (nat_le (length (frame_cells gsmp_channel (next_control a.numbers) (message_octets message))) (free_slots a.switch))
      (record { queues = with_cells a.switch control_port (frame_cells gsmp_channel (next_control a.numbers) (message_octets message)); notes = made a.notes (next_control a.numbers) (message_octets message) })
      (record { queues = a.switch; notes = noted (made a.notes (next_control a.numbers) (message_octets message)) (Loss (next_control a.numbers) PoolFull) })
      (only_first a.notes (next_control a.numbers) message first) (only_first a.notes (next_control a.numbers) message first)

  -- a message is said by a switch that has heard
  says_on : (a heard : ActedSwitch) (message : Message) → IsFirstUp start message → IsFirstSwitch start heard.switch → heard.switch.crossbar.queues ≡ a.switch.crossbar.queues
      → heard.notes.frames ≡ a.notes.frames → heard.numbers.controls ≡ a.numbers.controls → SwitchGoesOn start a (says heard message)
  says_on a heard message up first queues frames marks = record {
    switch = said_switch heard message first;
    heard = heard;
    queues = queues;
    notes = frames;
    marks = marks;
    says = one message up;
    frames = λ h. said_frames heard message (subst AreFirstFrames (sym frames) h);
  }

  quietly : (a heard : ActedSwitch) → IsFirstSwitch start heard.switch → heard.switch.crossbar.queues ≡ a.switch.crossbar.queues → heard.notes.frames ≡ a.notes.frames
      → heard.numbers.controls ≡ a.numbers.controls → SwitchGoesOn start a heard
  quietly a heard first queues frames marks = record {
    switch = first;
    heard = heard;
    queues = queues;
    notes = frames;
    marks = marks;
    says = nothing;
    frames = λ h. subst AreFirstFrames (sym frames) h;
  }

  -- *The table's answer* is done: nothing is said, a greeting is, or a new instance is drawn
  answers_on : (a b : ActedSwitch) (answer : Answer (Said Party) Party) → IsFirstSwitch start b.switch → b.switch.crossbar.queues ≡ a.switch.crossbar.queues → b.notes.frames ≡ a.notes.frames
      → b.numbers.controls ≡ a.numbers.controls → SwitchGoesOn start a (answers b (gsmp_answer answer))
  answers_on a b Quiet first queues frames marks = quietly a b first queues frames marks
  answers_on a b (Send said) first queues frames marks = says_on a b (Adjacency (greeting_of said)) (greets_controller (greeting_of said)) first queues frames marks
  answers_on a b (Open None own) first queues frames marks = quietly a b first queues frames marks
  answers_on a b (Open (Some said) own) first queues frames marks = says_on a b (Adjacency (greeting_of said)) (greets_controller (greeting_of said)) first queues frames marks
  answers_on a b Reset first queues frames marks = quietly a (answers b Reset) (record { ports = first.ports; vpis = first.vpis; branches = first.branches }) queues frames marks

  steps_on : (a : ActedSwitch) (step : Step Party) → IsFirstSwitch start a.switch → SwitchGoesOn start a (steps a step)
  steps_on a step first = answers_on a (record a { switch = record a.switch { adjacency = step.side } }) step.answer (record { ports = first.ports; vpis = first.vpis; branches = first.branches }) refl refl refl

-- *Ports that began together* are found, and are up
record IsFoundIn (session : ℕ) (ports : List PortNo) (port : PortNo) : Type 0 where
  number : PortNo
  is : state_of_port (map (begun_port (record { 0 = session })) ports) port ≡ Some (begun_port (record { 0 = session }) number)

found_in : (session : ℕ) (ports : List PortNo) (port : PortNo) → list_any (λ (p : PortNo). p.0 == port.0) ports ≡ true → IsFoundIn session ports port
found_in session [] port e = absurd (cc e)
found_in session (first ∷ ports) port e = by (first.0 == port.0) refl e (found_in session ports port)
  where
    by : (b : Bool) → (first.0 == port.0) ≡ b → (b || list_any (λ (p : PortNo). p.0 == port.0) ports) ≡ true
        → (list_any (λ (p : PortNo). p.0 == port.0) ports ≡ true → IsFoundIn session ports port) → IsFoundIn session (first ∷ ports) port
    by true is e later = record {
      number = first;
      is = ap (λ (b : Bool). if b then Some (begun_port (record { 0 = session }) first) else find (λ (state : PortState). state.number.0 == port.0) (map (begun_port (record { 0 = session })) ports)) is;
    }
    by false is e later = (let f : IsFoundIn session ports port = later e in record {
      number = f.number;
      is = ap (λ (b : Bool). if b then Some (begun_port (record { 0 = session }) first) else find (λ (state : PortState). state.number.0 == port.0) (map (begun_port (record { 0 = session })) ports)) is ∙ f.is;
    })

numbers_are : (session : ℕ) (ports : List PortNo) → numbers_of (map (begun_port (record { 0 = session })) ports) ≡ ports
numbers_are session [] = refl
numbers_are session (p ∷ ports) = ap (λ (ps : List PortNo). p ∷ ps) (numbers_are session ports)

-- *A test that one passes* is passed by some
each_any : (test : PortNo → Bool) (ports : List PortNo) → Every (λ (p : PortNo). test p ≡ true → list_any test ports ≡ true) ports
each_any test [] = tt
each_any test (p ∷ ports) = (
  λ e. ap (λ (b : Bool). b || list_any test ports) e,
  every_map (λ (q : PortNo). test q ≡ true → list_any test ports ≡ true) (λ (q : PortNo). test q ≡ true → list_any test (p ∷ ports) ≡ true) ports (λ q h e. or_right (test p) (h e)) (each_any test ports),
)

and_both : (x y : Bool) → x ≡ true → y ≡ true → (x && y) ≡ true
and_both true y p q = q
and_both false y p q = absurd (true≢false (sym p))

module _ (start : Start) (fits : FitsStart start) where
  abbrev all : List PortNo
  all = control_port ∷ start.ports

  named : (port : PortNo) → Contains all port → list_any (λ (p : PortNo). p.0 == port.0) all ≡ true
  named port within = some_of (λ (p : PortNo). list_any (λ (q : PortNo). q.0 == p.0) all ≡ true) all port (any_self (λ (p : PortNo). list_any (λ (q : PortNo). q.0 == p.0) all ≡ true) all (λ p e. e)) within

  of_link : (port : PortNo) → Contains start.ports port → IsLinkPort port
  of_link port within = some_of IsLinkPort start.ports port fits.links within

  named_link : (port : PortNo) → Contains start.ports port → list_any (λ (p : PortNo). p.0 == port.0) all ≡ true
  named_link port within = or_right (0 == port.0) (some_of (λ (p : PortNo). list_any (λ (q : PortNo). q.0 == p.0) start.ports ≡ true) start.ports port
      (any_self (λ (p : PortNo). list_any (λ (q : PortNo). q.0 == p.0) start.ports ≡ true) start.ports (λ p e. e)) within)

  module _ (port : PortNo) (is : list_any (λ (p : PortNo). p.0 == port.0) all ≡ true) where
    found : IsFoundIn start.session all port
    found = found_in start.session all port is

    there : has_port (states_of start) port ≡ true
    there = ap (λ (o : Option PortState). is_some o) found.is

    up : is_up (states_of start) port ≡ true
    up = ap (λ (o : Option PortState). option_map_or (λ (state : PortState). state.is_up) o false) found.is

    own_session : has_session (states_of start) port start.session ≡ true
    own_session = ap (λ (o : Option PortState). option_map_or (λ (state : PortState). state.session == start.session) o false) found.is ∙ same_session start.session
      where
        same_session : (n : ℕ) → (n == n) ≡ true
        same_session n = grind (arith, nat_tests)

  -- *Channels* of such a port are connected
  connects : (vpis : ℕ) (port : PortNo) (end : End) → Contains start.ports port → is_channel_of port vpis end ≡ true → is_connectable (numbers_of (states_of start)) vpis end ≡ true
  connects vpis port end within is = ap (λ (ps : List PortNo). is_connectable ps vpis end) (numbers_are start.session all)
      ∙ or_right (is_channel_of control_port vpis end) (some_of (λ (p : PortNo). is_channel_of p vpis end ≡ true → list_any (λ q. is_channel_of q vpis end) start.ports ≡ true) start.ports port
      (each_any (λ q. is_channel_of q vpis end) start.ports) within is)

  end_is : (vpis : ℕ) (port : PortNo) → IsLinkPort port → is_channel_of port vpis (default_end port) ≡ true
  end_is vpis port link = and_both (nat_lt 0 port.0) _ some (by (port.0 == 0) refl)
    where
      some : nat_lt 0 port.0 ≡ true
      some = (let low : 1 ≤ port.0 = link.0 in grind (arith, nat_tests, low))

      itself : (n : ℕ) → (n == n) ≡ true
      itself n = grind (arith, nat_tests)

      by : (b : Bool) → (port.0 == 0) ≡ b → (if b then nat_le (16 * port.0) 0 && is_link_channel vpis (record default_channel { vpi = 0 - 16 * port.0 })
          else ((port.0 == port.0) && is_link_channel vpis default_channel)) ≡ true
      by true e = (let none : port.0 ≡ 0 = grind (arith, nat_tests, e) in absurd (omega (arith, none, link.0)))
      by false e = and_both (port.0 == port.0) (is_link_channel vpis default_channel) (itself port.0) refl

  home_is : (vpis : ℕ) (port : PortNo) → IsLinkPort port → is_channel_of port vpis (default_home port) ≡ true
  home_is vpis port link = and_both (nat_lt 0 port.0) _ some (and_both (nat_le (16 * port.0) (16 * port.0 + 0)) _ least path)
    where
      some : nat_lt 0 port.0 ≡ true
      some = (let low : 1 ≤ port.0 = link.0 in grind (arith, nat_tests, low))

      least : nat_le (16 * port.0) (16 * port.0 + 0) ≡ true
      least = grind (arith, nat_tests)

      none : (16 * port.0 + 0) - 16 * port.0 ≡ 0
      none = omega arith

      path : is_link_channel vpis (record default_channel { vpi = (16 * port.0 + 0) - 16 * port.0 }) ≡ true
      path = ap (λ (n : ℕ). is_link_channel vpis (record default_channel { vpi = n })) none

  -- *A default channel* leads home, or out, and nowhere else
  to_home : (input output : End) (port : PortNo) → IsFirstBranch start.ports input output → IsLinkPort port → input ≡ default_end port → output ≡ default_home port
  to_home input output port (home q within) link e = ap (λ (x : End). default_home x.port) e
  to_home input output port (out q within) link e = (let none : 0 ≡ port.0 = ap (λ (x : End). x.port.0) e in absurd (omega (arith, none, link.0)))

  to_end : (input output : End) (port : PortNo) → IsFirstBranch start.ports input output → IsLinkPort port → input ≡ default_home port → output ≡ default_end port
  to_end input output port (home q within) link e = (let none : q.0 ≡ 0 = ap (λ (x : End). x.port.0) e in absurd (omega (arith, none, (of_link q within).0)))
  to_end input output port (out q within) link e =
      let paths : 16 * q.0 + 0 ≡ 16 * port.0 + 0 = ap (λ (x : End). x.channel.vpi) e in
      let same : q.0 ≡ port.0 = omega (arith, paths) in
      ap (λ (n : ℕ). default_end (record { 0 = n })) same

  -- *No failure applies*
  find_none : (test : Failure → Bool) (xs : List Failure) → Every (λ (x : Failure). test x ≡ false) xs → find test xs ≡ None
  find_none test [] none = refl
  find_none test (x ∷ xs) none = ap (λ (b : Bool). if b then Some x else find test xs) none.0 ∙ find_none test xs none.1

  abbrev failures : List Failure
  failures = NoPort ∷ BadSession ∷ PortDown ∷ OutOfRange ∷ Busy ∷ NoConnection ∷ SessionsSpent ∷ []

  same_ends : (x : End) → same_end x x ≡ true
  same_ends x = and_both (nat_eq x.port.0 x.port.0) _ (itself x.port.0) (and_both (nat_eq x.channel.vpi x.channel.vpi) _ (itself x.channel.vpi) (itself x.channel.vci))
    where
      itself : (n : ℕ) → (n == n) ≡ true
      itself n = grind (arith, nat_tests)

  not_busy : (o : End) (led : Option End) → ((other : End) → led ≡ Some other → other ≡ o) → option_map_or (λ other. not (same_end other o)) led false ≡ false
  not_busy o None only = refl
  not_busy o (Some other) only = ap (λ (x : End). not (same_end x o)) (only other refl) ∙ ap not (same_ends o)

  passes : (b : Bool) → b ≡ true → not b ≡ false
  passes b e = ap not e

  module _ (s : Switch) (first : IsFirstSwitch start s) where
    adds : (port : PortNo) (within : Contains start.ports port) (input output : End) → (input.port ≡ port) ⊎ (input.port ≡ control_port) → (output.port ≡ port) ⊎ (output.port ≡ control_port)
        → is_channel_of port s.vpis input ≡ true → is_channel_of port s.vpis output ≡ true → ((other : End) → output_of s.crossbar.branches input ≡ Some other → other ≡ output)
        → failure_of (states_of start) s.vpis s.crossbar.branches (record { session = start.session; request = AddBranch input output }) ≡ None
    adds port within input output from to is output_is only =
        let asked : Asked = record { session = start.session; request = AddBranch input output } in
        let each : Every (λ (x : Failure). applies (states_of start) s.vpis s.crossbar.branches asked x ≡ false) failures = (passes _ (and_both _ _ (there input.port (known input.port from)) (and_both _ _ (there output.port (known output.port to)) refl)), (passes _ (own_session input.port (known input.port from)), (passes _ (and_both _ _ (up input.port (known input.port from)) (and_both _ _ (up output.port (known output.port to)) refl)), (passes _ (and_both _ _ (connects s.vpis port input within is) (and_both _ _ (connects s.vpis port output within output_is) refl)), (not_busy output (output_of s.crossbar.branches input) only, (refl, (refl, tt))))))) in
        find_none (applies (states_of start) s.vpis s.crossbar.branches asked) failures each
      where
        known : (p : PortNo) → (p ≡ port) ⊎ (p ≡ control_port) → list_any (λ (q : PortNo). q.0 == p.0) all ≡ true
        known p (inl same) = subst (λ (r : PortNo). list_any (λ (q : PortNo). q.0 == r.0) all ≡ true) (sym same) (named_link port within)
        known p (inr same) = subst (λ (r : PortNo). list_any (λ (q : PortNo). q.0 == r.0) all ≡ true) (sym same) refl

    deletes : (port : PortNo) → Contains all port → failure_of (states_of start) s.vpis s.crossbar.branches (record { session = start.session; request = DeleteAll port }) ≡ None
    deletes port within =
        let asked : Asked = record { session = start.session; request = DeleteAll port } in
        let each : Every (λ (x : Failure). applies (states_of start) s.vpis s.crossbar.branches asked x ≡ false) failures = (passes _ (and_both _ _ (there port (named port within)) refl), (passes _ (own_session port (named port within)), (passes _ (and_both _ _ (up port (named port within)) refl), (refl, (refl, (refl, (refl, tt))))))) in
        find_none (applies (states_of start) s.vpis s.crossbar.branches asked) failures each

    lists : (session : ℕ) → failure_of (states_of start) s.vpis s.crossbar.branches (record { session = session; request = AllPorts }) ≡ None
    lists session = refl

    one_asked : (x y : Asked) → Some x ≡ Some y → failure_of (states_of start) s.vpis s.crossbar.branches x ≡ None → failure_of (states_of start) s.vpis s.crossbar.branches y ≡ None
    one_asked x y e none = (let same : x ≡ y = cc in subst (λ (a : Asked). failure_of (states_of start) s.vpis s.crossbar.branches a ≡ None) same none)

    -- *What is asked in a first request* fails in none of these ways
    session_is : (rows : List PortRow) (port : PortNo) → rows ≡ rows_of start → list_any (λ (p : PortNo). p.0 == port.0) all ≡ true → session_of rows port ≡ start.session
    session_is rows port known is = ap (λ (rs : List PortRow). session_of rs port) known ∙ rows_tell start.session all port is

    succeeds_so : (rows : List PortRow) (number : ℕ) (request : Request) → IsFirstRequest start.ports request → (request ≡ AllPorts) ⊎ (rows ≡ rows_of start) → (asked : Asked)
        → asked_in (message_of rows number request) ≡ Some asked → failure_of (states_of start) s.vpis s.crossbar.branches asked ≡ None
    succeeds_so rows number request asks_ports known asked e = one_asked (record { session = 0; request = AllPorts }) asked e (lists 0)
    succeeds_so rows number request (empties port within) (inl listing) asked e = absurd (cc listing)
    succeeds_so rows number request (empties port within) (inr known) asked e = one_asked (record { session = session_of rows port; request = DeleteAll port }) asked e
        (subst (λ (n : ℕ). failure_of (states_of start) s.vpis s.crossbar.branches (record { session = n; request = DeleteAll port }) ≡ None) (sym (session_is rows port known (named port within))) (deletes port within))
    succeeds_so rows number request (opens_home port within) (inl listing) asked e = absurd (cc listing)
    succeeds_so rows number request (opens_home port within) (inr known) asked e =
        one_asked (record { session = session_of rows port; request = AddBranch (default_end port) (default_home port) }) asked e
        (subst (λ (n : ℕ). failure_of (states_of start) s.vpis s.crossbar.branches (record { session = n; request = AddBranch (default_end port) (default_home port) }) ≡ None)
        (sym (session_is rows port known (named_link port within)))
        (adds port within (default_end port) (default_home port) (inl refl) (inr refl) (end_is s.vpis port (of_link port within)) (home_is s.vpis port (of_link port within))
        (λ other led. to_home (default_end port) other port (first.branches (default_end port) other led) (of_link port within) refl)))
    succeeds_so rows number request (opens_out port within) (inl listing) asked e = absurd (cc listing)
    succeeds_so rows number request (opens_out port within) (inr known) asked e =
        one_asked (record { session = session_of rows control_port; request = AddBranch (default_home port) (default_end port) }) asked e
        (subst (λ (n : ℕ). failure_of (states_of start) s.vpis s.crossbar.branches (record { session = n; request = AddBranch (default_home port) (default_end port) }) ≡ None)
        (sym (session_is rows control_port known refl))
        (adds port within (default_home port) (default_end port) (inr refl) (inl refl) (home_is s.vpis port (of_link port within)) (end_is s.vpis port (of_link port within))
        (λ other led. to_end (default_home port) other port (first.branches (default_home port) other led) (of_link port within) refl)))

    carried : (message : Message) → IsFirstDown start message → is_request message ≡ true → IsCarriedOut s message
    carried message (greets_switch greeting) request asked e = absurd (cc request)
    carried message (asks_switch rows number what small is known) request asked e = subst (λ (ports : List PortState). failure_of ports s.vpis s.crossbar.branches asked ≡ None) (sym first.ports)
        (succeeds_so rows number what is known asked e)

-- *Branches* after a first request are such still, and those that lead do
module _ (m : Branches) (i o : End) where
  added_is : (x y : End) → output_of (added m i o) x ≡ Some y → ((x ≡ i) × (y ≡ o)) ⊎ (output_of m x ≡ Some y)
  added_is x y e = by (get m i) refl e
    where
      one_end : (u v : End) → Some u ≡ Some v → v ≡ u
      one_end u v h = cc

      by : (b : Option Branch) → get m i ≡ b → output_of (added_by m i o b) x ≡ Some y → ((x ≡ i) × (y ≡ o)) ⊎ (output_of m x ≡ Some y)
      by (Some b) found h = inr h
      by None found h = elim (same_input x i) [
        | inl same ↦ inl (same, one_end o y (sym (ap (λ (k : End). output_of (insert m i (new_branch o)) k) same ∙ ap (option_map (λ (b : Branch). b.output)) (insert_here m i (new_branch o))) ∙ h))
        | inr d ↦ inr (sym (ap (option_map (λ (b : Branch). b.output)) (insert_away m i x (new_branch o) d)) ∙ h)
      ]

  added_keeps : (x y : End) → output_of m x ≡ Some y → output_of (added m i o) x ≡ Some y
  added_keeps x y e = by (get m i) refl
    where
      none_leads : ◌≡◌ {A = Option End} None (Some y) → ⊥
      none_leads h = cc h

      by : (b : Option Branch) → get m i ≡ b → output_of (added_by m i o b) x ≡ Some y
      by (Some b) found = e
      by None found = elim (same_input x i) [
        | inl same ↦ absurd (none_leads (sym (ap (option_map (λ (b : Branch). b.output)) (ap (get m) same ∙ found)) ∙ e))
        | inr d ↦ ap (option_map (λ (b : Branch). b.output)) (insert_away m i x (new_branch o) d) ∙ e
      ]

ended_is : (c : Changed) (input x y : End) → output_of (branch_ended c input).branches x ≡ Some y → output_of c.branches x ≡ Some y
ended_is c input x y e = by (get c.branches input) e
  where
    none_leads : ◌≡◌ {A = Option End} None (Some y) → ⊥
    none_leads h = cc h

    by : (b : Option Branch) → output_of (ended_by c input b).branches x ≡ Some y → output_of c.branches x ≡ Some y
    by None h = h
    by (Some b) h = elim (same_input x input) [
      | inl same ↦ absurd (none_leads (sym (ap (λ (k : End). output_of (remove c.branches input) k) same ∙ ap (option_map (λ (b : Branch). b.output)) (remove_here c.branches input)) ∙ h))
      | inr d ↦ sym (ap (option_map (λ (b : Branch). b.output)) (remove_away c.branches input x d)) ∙ h
    ]

all_is : (inputs : List End) (c : Changed) (x y : End) → output_of (all_ended c inputs).branches x ≡ Some y → output_of c.branches x ≡ Some y
all_is [] c x y e = e
all_is (input ∷ inputs) c x y e = ended_is c input x y (all_is inputs (branch_ended c input) x y e)

cut_frames : (notes : Journal) (o : Option Mark) → (noted_cut notes o).frames ≡ notes.frames
cut_frames notes None = refl
cut_frames notes (Some mark) = refl

ended_frames : (c : Changed) (input : End) → (branch_ended c input).notes.frames ≡ c.notes.frames
ended_frames c input = by (get c.branches input)
  where
    by : (o : Option Branch) → (ended_by c input o).notes.frames ≡ c.notes.frames
    by None = refl
    by (Some b) = cut_frames c.notes b.unfinished

all_frames : (inputs : List End) (c : Changed) → (all_ended c inputs).notes.frames ≡ c.notes.frames
all_frames [] c = refl
all_frames (input ∷ inputs) c = all_frames inputs (branch_ended c input) ∙ ended_frames c input

-- *A first request* is handled: it is carried out, and answered by a success
module _ (start : Start) (fits : FitsStart start) (a : ActedSwitch) (first : IsFirstSwitch start a.switch) where
  abbrev before : Changed
  before = record { branches = a.switch.crossbar.branches; notes = a.notes }

  branches_first : (request : Request) → IsFirstRequest start.ports request → (input output : End) → output_of (branches_after before request).branches input ≡ Some output
      → IsFirstBranch start.ports input output
  branches_first request asks_ports input output e = first.branches input output e
  branches_first request (empties port within) input output e = first.branches input output (all_is (inputs_on a.switch.crossbar.branches port) before input output e)
  branches_first request (opens_home port within) input output e = elim (added_is a.switch.crossbar.branches (default_end port) (default_home port) input output e) [
    | inl both ↦ subst (λ (x : End). IsFirstBranch start.ports x output) (sym both.0) (subst (IsFirstBranch start.ports (default_end port)) (sym both.1) (home port within))
    | inr was ↦ first.branches input output was
  ]
  branches_first request (opens_out port within) input output e = elim (added_is a.switch.crossbar.branches (default_home port) (default_end port) input output e) [
    | inl both ↦ subst (λ (x : End). IsFirstBranch start.ports x output) (sym both.0) (subst (IsFirstBranch start.ports (default_home port)) (sym both.1) (out port within))
    | inr was ↦ first.branches input output was
  ]

  frames_same : (request : Request) → IsFirstRequest start.ports request → (branches_after before request).notes.frames ≡ a.notes.frames
  frames_same request asks_ports = refl
  frames_same request (empties port within) = all_frames (inputs_on a.switch.crossbar.branches port) before
  frames_same request (opens_home port within) = refl
  frames_same request (opens_out port within) = refl

  ports_same : (request : Request) → IsFirstRequest start.ports request → ports_after a.switch.ports request ≡ a.switch.ports
  ports_same request asks_ports = refl
  ports_same request (empties port within) = refl
  ports_same request (opens_home port within) = refl
  ports_same request (opens_out port within) = refl

  answers_first : (rows : List PortRow) (number : ℕ) (request : Request) → number < 2 ^ 32 → IsFirstRequest start.ports request → (branches : Branches)
      → IsFirstUp start (success_answer (ports_after a.switch.ports request) branches request (message_of rows number request))
  answers_first rows number request small asks_ports branches =
      subst (λ (ports : List PortState). IsFirstUp start (success_answer ports branches AllPorts (message_of rows number AllPorts))) (sym first.ports) (tells_ports number small)
  answers_first rows number request small (empties port within) branches = succeeds _ _ _ _ _ _ _ _ _ _
  answers_first rows number request small (opens_home port within) branches = succeeds _ _ _ _ _ _ _ _ _ _
  answers_first rows number request small (opens_out port within) branches = succeeds _ _ _ _ _ _ _ _ _ _

  by_failure : (message : Message) (request : Request) → IsFirstRequest start.ports request
      → ((branches : Branches) → IsFirstUp start (success_answer (ports_after a.switch.ports request) branches request message)) → (o : Option Failure) → o ≡ None
      → SwitchGoesOn start a (replied a (handled_by a.switch a.notes message request o))
  by_failure message request what answer (Some failure) none = absurd (cc none)
  by_failure message request what answer None none =
      let h : Handled = handled_by a.switch a.notes message request None in
      says_on start a (record a { switch = h.switch; notes = h.notes }) h.answer (answer (branches_after before request).branches)
      (record { ports = ports_same request what ∙ first.ports; vpis = first.vpis; branches = branches_first request what }) refl (frames_same request what) refl

  by_asked : (message : Message) (rows : List PortRow) (number : ℕ) (request : Request) → message ≡ message_of rows number request → number < 2 ^ 32 → IsFirstRequest start.ports request
      → (asked : Asked) → asked_in message ≡ Some asked → asked.request ≡ request → IsCarriedOut a.switch message → SwitchGoesOn start a (replied a (handled a.switch a.notes message))
  by_asked message rows number request is small what asked e same carried = subst (λ (o : Option Asked). SwitchGoesOn start a (replied a (handled_asked a.switch a.notes message o))) (sym e)
      (by_failure message asked.request (subst (IsFirstRequest start.ports) (sym same) what)
      (λ branches. subst (λ (r : Request). IsFirstUp start (success_answer (ports_after a.switch.ports r) branches r message)) (sym same)
      (subst (λ (m : Message). IsFirstUp start (success_answer (ports_after a.switch.ports request) branches request m)) (sym is) (answers_first rows number request small what branches)))
      (failure_of a.switch.ports a.switch.vpis a.switch.crossbar.branches asked) (carried asked e))

  by_estab : (message : Message) → SwitchGoesOn start a (replied a (handled a.switch a.notes message)) → SwitchGoesOn start a (requested a message)
  by_estab message goes = on_both (SwitchGoesOn start a) (is_request message && is_estab a.switch.adjacency.state) (replied a (handled a.switch a.notes message)) a goes (quietly start a a first refl refl refl)

  hears : (message : Message) → IsFirstDown start message → SwitchGoesOn start a (message_heard a message)
  hears message (greets_switch greeting) = steps_on start a (gsmp_received a.switch.adjacency greeting) first
  hears message (asks_switch rows number request small asks_ports known) = by_estab (message_of rows number AllPorts)
      (by_asked (message_of rows number AllPorts) rows number AllPorts refl small asks_ports _ refl refl (carried start fits a.switch first _ (asks_switch rows number AllPorts small asks_ports known) refl))
  hears message (asks_switch rows number request small (empties port within) known) = by_estab (message_of rows number (DeleteAll port))
      (by_asked (message_of rows number (DeleteAll port)) rows number (DeleteAll port) refl small (empties port within) _ refl refl
      (carried start fits a.switch first _ (asks_switch rows number (DeleteAll port) small (empties port within) known) refl))
  hears message (asks_switch rows number request small (opens_home port within) known) = by_estab (message_of rows number (AddBranch (default_end port) (default_home port)))
      (by_asked (message_of rows number (AddBranch (default_end port) (default_home port))) rows number (AddBranch (default_end port) (default_home port)) refl small (opens_home port within) _ refl refl
      (carried start fits a.switch first _ (asks_switch rows number (AddBranch (default_end port) (default_home port)) small (opens_home port within) known) refl))
  hears message (asks_switch rows number request small (opens_out port within) known) = by_estab (message_of rows number (AddBranch (default_home port) (default_end port)))
      (by_asked (message_of rows number (AddBranch (default_home port) (default_end port))) rows number (AddBranch (default_home port) (default_end port)) refl small (opens_out port within) _ refl refl
      (carried start fits a.switch first _ (asks_switch rows number (AddBranch (default_home port) (default_end port)) small (opens_out port within) known) refl))

  -- *What leads goes on leading*, unless all of a port is deleted
  module _ (input output : End) (leads : output_of a.switch.crossbar.branches input ≡ Some output) where
    abbrev Leads : ActedSwitch → Type 0
    Leads b = output_of b.switch.crossbar.branches input ≡ Some output

    says_keeps : (b : ActedSwitch) (message : Message) → Leads b → Leads (says b message)
    says_keeps b message h = on_both (λ (s : Sender Switch). output_of s.queues.crossbar.branches input ≡ Some output) (nat_le (length (frame_cells gsmp_channel (next_control b.numbers) (message_octets message))) (free_slots b.switch))
        (record { queues = with_cells b.switch control_port (frame_cells gsmp_channel (next_control b.numbers) (message_octets message)); notes = made b.notes (next_control b.numbers) (message_octets message) })
        (record { queues = b.switch; notes = noted (made b.notes (next_control b.numbers) (message_octets message)) (Loss (next_control b.numbers) PoolFull) }) h h

    answers_keep : (b : ActedSwitch) (answer : Answer (Said Party) Party) → Leads b → Leads (answers b (gsmp_answer answer))
    answers_keep b Quiet h = h
    answers_keep b (Send said) h = says_keeps b (Adjacency (greeting_of said)) h
    answers_keep b (Open None own) h = h
    answers_keep b (Open (Some said) own) h = says_keeps b (Adjacency (greeting_of said)) h
    answers_keep b Reset h = h

    handled_keeps : (message : Message) (request : Request) → output_of (branches_after before request).branches input ≡ Some output → (o : Option Failure)
        → output_of (handled_by a.switch a.notes message request o).switch.crossbar.branches input ≡ Some output
    handled_keeps message request after (Some failure) = leads
    handled_keeps message request after None = after

    requested_keeps : (message : Message) (asked : Asked) → asked_in message ≡ Some asked → output_of (branches_after before asked.request).branches input ≡ Some output → Leads (requested a message)
    requested_keeps message asked e after = on_both Leads (is_request message && is_estab a.switch.adjacency.state) (replied a (handled a.switch a.notes message)) a
        (says_keeps (record a { switch = (handled a.switch a.notes message).switch; notes = (handled a.switch a.notes message).notes }) (handled a.switch a.notes message).answer
        (subst (λ (o : Option Asked). output_of (handled_asked a.switch a.notes message o).switch.crossbar.branches input ≡ Some output) (sym e)
        (handled_keeps message asked.request after (failure_of a.switch.ports a.switch.vpis a.switch.crossbar.branches asked)))) leads

    keeps : (message : Message) → IsFirstDown start message → DeletesNone message → Leads (message_heard a message)
    keeps message (greets_switch greeting) none = answers_keep (record a { switch = record a.switch { adjacency = (gsmp_received a.switch.adjacency greeting).side } }) (gsmp_received a.switch.adjacency greeting).answer leads
    keeps message (asks_switch rows number request small asks_ports known) none = requested_keeps (message_of rows number AllPorts) _ refl leads
    keeps message (asks_switch rows number request small (empties port within) known) none = absurd (true≢false (none _ refl))
    keeps message (asks_switch rows number request small (opens_home port within) known) none =
        requested_keeps (message_of rows number (AddBranch (default_end port) (default_home port))) _ refl (added_keeps a.switch.crossbar.branches (default_end port) (default_home port) input output leads)
    keeps message (asks_switch rows number request small (opens_out port within) known) none =
        requested_keeps (message_of rows number (AddBranch (default_home port) (default_end port))) _ refl (added_keeps a.switch.crossbar.branches (default_home port) (default_end port) input output leads)

pub switches_go_on : SwitchesGoOn
switches_go_on = record {
  ticks = λ start a fits first. steps_on start a (ticked a.switch.adjacency) first;
  hear = λ start a message fits first down. hears start fits a first message down;
  carry_out = λ start s message fits first down request. carried start fits s first message down request;
  keep = λ start a message input output fits first down none leads. keeps start fits a first input output leads message down none;
}
