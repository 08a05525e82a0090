-- A request that names a port that no switch has, and the channels of one that doesn't fail

use Rattle.std.proofs.Common.{◌≡◌, Bool, true, false, cond, not, ◌&&◌, ◌==◌, ℕ, ◌+◌, ◌<◌, ◌^◌, List, [], ◌∷◌, Option, Some, None, Result, Ok, Err, refl, ap, sym, ◌∙◌, arith}
use Rattle.std.specs.Prelude.{nat_le, IfSome, OnErr, option_and_then}
use Rattle.std.specs.List.{list_all}
use Rattle.std.specs.Option.{option_map_or}
use Rattle.std.proofs.lemmas.Bool.Decides.{nat_tests}
use Rattle.net_types.specs.declared.node.PortNo.{PortNo}
use Rattle.net_types.specs.declared.channel.End.{End}
use Rattle.gsmp_wire.specs.declared.message.Message.{Message}
use Rattle.gsmp_wire.specs.declared.message.Message.TheVariants.{Adjacency, Branch, Move, Port, AllPorts}
use Rattle.link_model.specs.Notes.{Journal}
use Rattle.crossbar_model.specs.Channels.{is_connectable}
use Rattle.crossbar_model.specs.Crossbar.{Branches}
use Rattle.world_model.specs.switch_model.declared.port.PortState.{PortState}
use Rattle.world_model.specs.switch_model.declared.request.Asked.{Asked}
use Rattle.gsmp_wire.specs.declared.request.Request.{Request}
use Rattle.world_model.specs.gsmp_wire.declared.failure.Failure.{Failure}
use Rattle.world_model.specs.gsmp_wire.declared.failure.Failure.TheVariants.{NoPort, BadSession, PortDown, OutOfRange, SessionsSpent}
use Rattle.gsmp_wire.specs.declared.request.Request.TheVariants.{AddBranch, MoveBranch, DeleteTree, VerifyTree, DeleteAll, PortManagement, AllPorts as AllPortsAsked}
use Rattle.world_model.specs.Switch.{Switch, has_port, has_session, is_up, numbers_of, state_of_port}
use Rattle.world_model.specs.Requests.{asked_in}
use Rattle.world_model.specs.Failures.{failure_of, named_ends, named_ports, names_session, used_ports}
use Rattle.world_model.specs.Answers.{carried_out, failure_answer, handled, handled_asked, handled_by}
use Rattle.gsmp_switch.specs.State.{AreStatesOf, CanRaise}
use Rattle.gsmp_switch.proofs.PortStates.{has_port_small}

-- *Ports that no switch has*

large_by : (a b c d : Bool) → (a ≡ true → c ≡ true) → (b ≡ false → d ≡ false) → (c && b) ≡ false → (a && d) ≡ false
large_by true true c d first rest h = absurd (large (c) (first refl) h)
  where
    large : (x : Bool) → x ≡ true → (x && true) ≡ false → ⊥
    large true t h = cc h
    large false t h = cc t
large_by true false c d first rest h = rest refl
large_by false b c d first rest h = refl

no_such_port : (states : List PortState) (linked ports : List PortNo) → AreStatesOf states linked → list_all (λ port. nat_le port.0 255) ports ≡ false → list_all (has_port states) ports ≡ false
no_such_port states linked [] are h = absurd (cc h)
no_such_port states linked (port ∷ ports) are h =
    large_by (has_port states port) (list_all (λ p. nat_le p.0 255) ports) (nat_le port.0 255) (list_all (has_port states) ports)
    (λ has. let small = has_port_small states linked port are has in grind (arith, nat_tests, small))
    (λ more. no_such_port states linked ports are more) h

no_port : (states : List PortState) (vpis : ℕ) (m : Branches) (asked : Asked) → list_all (has_port states) (named_ports asked.request) ≡ false → failure_of states vpis m asked ≡ Some NoPort
no_port states vpis m asked h = rw h refl

refused_asked : (s : Switch) (notes : Journal) (m : Message) (linked : List PortNo) (asked : Asked) → AreStatesOf s.ports linked → list_all (λ port. nat_le port.0 255) (named_ports asked.request) ≡ false → handled_by s notes m asked.request (failure_of s.ports s.vpis s.crossbar.branches asked) ≡ record { switch = s; notes = notes; answer = failure_answer NoPort m }
refused_asked s notes m linked asked are h =
    ap (handled_by s notes m asked.request) (no_port s.ports s.vpis s.crossbar.branches asked (no_such_port s.ports linked (named_ports asked.request) are h))

-- an adjacency message asks for nothing
unheard : (failure : Failure) (m : Message) → asked_in m ≡ None → failure_answer failure m ≡ m
unheard failure (Adjacency greeting) h = refl
unheard failure (Branch kind result code transaction session input_port input output_port output branches priority) h = absurd (cc h)
unheard failure (Move result code transaction session input_port input output_port output target_port target branches priority) h = absurd (cc h)
unheard failure (Port result code transaction port session function) h = absurd (cc h)
unheard failure (AllPorts result code transaction rows) h = absurd (cc h)

refused_by : (s : Switch) (notes : Journal) (m : Message) (linked : List PortNo) (o : Option Asked) → asked_in m ≡ o → AreStatesOf s.ports linked → IfSome o (λ asked. list_all (λ port. nat_le port.0 255) (named_ports asked.request) ≡ false) → handled_asked s notes m o ≡ record { switch = s; notes = notes; answer = failure_answer NoPort m }
refused_by s notes m linked None is are h = ap (λ (answer : Message). record { switch = s; notes = notes; answer = answer }) (sym (unheard NoPort m is))
refused_by s notes m linked (Some asked) is are h = refused_asked s notes m linked asked are h

-- a message that names such a port is refused
pub refused_unread : (s : Switch) (notes : Journal) (m : Message) (linked : List PortNo) → AreStatesOf s.ports linked → IfSome (asked_in m) (λ asked. list_all (λ port. nat_le port.0 255) (named_ports asked.request) ≡ false) → handled s notes m ≡ record { switch = s; notes = notes; answer = failure_answer NoPort m }
refused_unread s notes m linked are h = refused_by s notes m linked (asked_in m) refl are h

-- *Channels that the switch can connect*

-- that port 0 is one of its ports makes no difference
pub with_control_port : (states : List PortState) (linked : List PortNo) (vpis : ℕ) (e : End) → AreStatesOf states linked → is_connectable (numbers_of states) vpis e ≡ is_connectable linked vpis e
with_control_port states linked vpis e are = ap (λ (ports : List PortNo). is_connectable ports vpis e) are.numbers

all_of : (states : List PortState) (linked : List PortNo) (vpis : ℕ) (es : List End) → AreStatesOf states linked → list_all (is_connectable (numbers_of states) vpis) es ≡ list_all (is_connectable linked vpis) es
all_of states linked vpis es are = ap (λ (ports : List PortNo). list_all (is_connectable ports vpis) es) are.numbers

passed : (a : Bool) (failure : Failure) (next : Option Failure) → cond (not a) (Some failure) next ≡ None → (a ≡ true) × (next ≡ None)
passed true failure next h = (refl, h)
passed false failure next h = absurd (cc h)

pub all_connectable : (states : List PortState) (linked : List PortNo) (vpis : ℕ) (m : Branches) (asked : Asked) → AreStatesOf states linked → failure_of states vpis m asked ≡ None → list_all (is_connectable linked vpis) (named_ends asked.request) ≡ true
all_connectable states linked vpis m asked are h =
    let ports = passed (list_all (has_port states) (named_ports asked.request)) NoPort _ h in
    let session = passed (names_session states asked.session (named_ports asked.request)) BadSession _ ports.1 in
    let up = passed (list_all (is_up states) (used_ports asked.request)) PortDown _ session.1 in
    let range = passed (list_all (is_connectable (numbers_of states) vpis) (named_ends asked.request)) OutOfRange _ up.1 in
    sym (all_of states linked vpis (named_ends asked.request) are) ∙ range.0

-- *Sessions*

not_last : (b : Bool) (failure : Failure) → cond b (Some failure) None ≡ None → b ≡ false
not_last true failure h = absurd (cc h)
not_last false failure h = refl

below_last : (found : Option PortState) (session : ℕ) → session < 2 ^ 32 → (session == 4294967295) ≡ false → option_map_or (λ state. state.session == session) found false ≡ true → IfSome found (λ state. state.session + 1 < 2 ^ 32)
below_last None session fits before same = tt
below_last (Some state) session fits before same = grind (arith, nat_tests, fits, before, same)

raise_by : (states : List PortState) (vpis : ℕ) (m : Branches) (session : ℕ) (request : Request) → session < 2 ^ 32 → failure_of states vpis m (record { session = session; request = request }) ≡ None → CanRaise states request
raise_by states vpis m session (PortManagement port function) fits h =
    let ports = passed (list_all (has_port states) (port ∷ [])) NoPort _ h in
    let named = passed (has_session states port session) BadSession _ ports.1 in
    let before = not_last (session == 4294967295) SessionsSpent named.1 in
    below_last (state_of_port states port) session fits before named.0
raise_by states vpis m session (AddBranch input output) fits h = tt
raise_by states vpis m session (MoveBranch input from to) fits h = tt
raise_by states vpis m session (DeleteTree input) fits h = tt
raise_by states vpis m session (VerifyTree input) fits h = tt
raise_by states vpis m session (DeleteAll port) fits h = tt
raise_by states vpis m session AllPortsAsked fits h = tt

pub can_raise : (states : List PortState) (vpis : ℕ) (m : Branches) (asked : Asked) → asked.session < 2 ^ 32 → failure_of states vpis m asked ≡ None → CanRaise states asked.request
can_raise states vpis m asked fits h = raise_by states vpis m asked.session asked.request fits h

-- *A request that doesn't fail is carried out*

pub handled_is : (s : Switch) (notes : Journal) (m : Message) (asked : Asked) → asked_in m ≡ Some asked → failure_of s.ports s.vpis s.crossbar.branches asked ≡ None → handled s notes m ≡ carried_out s notes m asked.request
handled_is s notes m asked is none =
    ap (handled_asked s notes m) is ∙ ap (handled_by s notes m asked.request) none

-- *A request that is carried out isn't refused*, whatever comes of it

pub taken_on : {T E : Type 0} (result : Result T E) (states : List PortState) (vpis : ℕ) (branches : Branches) (m : Message) (asked : Asked) → asked_in m ≡ Some asked → failure_of states vpis branches asked ≡ None → OnErr result (option_and_then (failure_of states vpis branches) (asked_in m) ≡ None)
taken_on (Ok value) states vpis branches m asked is none = tt
taken_on (Err error) states vpis branches m asked is none = ap (option_and_then (failure_of states vpis branches)) is ∙ none
