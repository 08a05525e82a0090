-- What the messages of GSMP (RFC 1987) between a controller and its switch are to the line of one input

use Rattle.std.specs.Prelude.{ℕ, Bool, not, ◌&&◌, ◌==◌, List, map, filter, is_some, Option, None, Some, if◌then◌else◌}
use Rattle.law_shown_cells.specs.world_model.Words.{End, Greeting, Party, HelloKind, Syn, same_party, nobody, Cell, Request, AddBranch, MoveBranch, DeleteTree, VerifyTree, PortManagement, same_end, Frame, payload_of, Standing, Head, head_of, asked_in, default_channel, same_channel, gsmp_of, copy_of, copy_by}
use Rattle.law_shown_cells.specs.world_model.gsmp_wire.declared.message.Message.{Message}
use Rattle.law_shown_cells.specs.world_model.gsmp_wire.declared.message.Message.TheVariants.{Adjacency}
use Rattle.law_shown_cells.specs.world_model.gsmp_wire.declared.request.Request.TheVariants.{DeleteAll, AllPorts}
use Rattle.law_branch_line.specs.Words as lines
use Rattle.law_branch_line.specs.Line.{Other}
use Rattle.law_shown_cells.specs.Seen.{Seen, Nothing, Word, Unknown}

-- *Requests*: one that is on the input, or is Delete All of its port. Verify Tree and Port Management are never asked
abbrev pub own_request : (input : End) → Request → Option lines.InputRequest
own_request input (AddBranch i output) = if same_end input i then Some (lines.AddBranch output) else None
own_request input (MoveBranch i from to) = if same_end input i then Some (lines.MoveBranch from to) else None
own_request input (DeleteTree i) = if same_end input i then Some lines.DeleteTree else None
own_request input (VerifyTree i) = None
own_request input (DeleteAll port) = if port.0 == input.port.0 then Some lines.DeleteAll else None
own_request input (PortManagement port function) = None
own_request input AllPorts = None

-- the message type of a request (RFC 1987)
abbrev pub type_of : Request → ℕ
type_of (AddBranch input output) = 16
type_of (DeleteTree input) = 18
type_of (VerifyTree input) = 19
type_of (DeleteAll port) = lines.delete_all
type_of (MoveBranch input from to) = 22
type_of (PortManagement port function) = 32
type_of AllPorts = lines.all_ports

abbrev pub word_by : Option lines.InputRequest → (message_type : ℕ) → lines.Request
word_by (Some request) message_type = lines.OnInput request
word_by None message_type = lines.Elsewhere message_type

abbrev pub word_of : (input : End) → Request → lines.Request
word_of input request = word_by (own_request input request) (type_of request)

-- those that stand: on the input, and elsewhere
abbrev pub is_own : (input : End) → Standing → Bool
is_own input s = is_some (own_request input s.request)

abbrev pub own_of : (input : End) → List Standing → List Standing
own_of input standing = filter (is_own input) standing

abbrev pub other_of : Standing → Other
other_of s = record { number = s.number; message_type = type_of s.request }

abbrev pub others_of : (input : End) → List Standing → List Other
others_of input standing = map other_of (filter (λ s. not (is_own input s)) standing)

-- *Greetings* from one party to the other, by instances; a SYN names nobody
abbrev pub is_party : (party : ℕ → Party) → Party → Bool
is_party party found = same_party found (party found.instance.0)

abbrev pub names_far : (far : ℕ → Party) → Greeting → HelloKind → Bool
names_far far greeting Syn = same_party greeting.receiver nobody
names_far far greeting kind = is_party far greeting.receiver

abbrev pub is_own_greeting : (own far : ℕ → Party) → Greeting → Bool
is_own_greeting own far greeting = is_party own greeting.sender && names_far far greeting greeting.kind

-- *To the switch*: each cell of a request is a copy of it, and the last cell of a greeting the greeting
abbrev pub seen_greeting : {W : Type 0} → (HelloKind → (sender receiver : ℕ) → W) → (own far : ℕ → Party) → (last : Bool) → Greeting → Seen W
seen_greeting word own far last greeting =
    if last
    then (if is_own_greeting own far greeting then Word (word greeting.kind greeting.sender.instance.0 greeting.receiver.instance.0) else Unknown)
    else Nothing

abbrev pub seen_copy : (input : End) → Option Standing → Seen lines.ToSwitch
seen_copy input None = Nothing
seen_copy input (Some s) = Word (lines.Copy 0 s.number (word_of input s.request))

abbrev pub seen_request : (own far : ℕ → Party) → (input : End) → (last : Bool) → Option Message → Seen lines.ToSwitch
seen_request own far input last None = Nothing
seen_request own far input last (Some (Adjacency greeting)) = seen_greeting lines.ControllerGreets own far last greeting
seen_request own far input last (Some message) = seen_copy input (copy_of message)

-- no end reads the instance under which a request was asked
abbrev pub erased : lines.ToSwitch → lines.ToSwitch
erased (lines.ControllerGreets kind sender receiver) = lines.ControllerGreets kind sender receiver
erased (lines.Copy under number request) = lines.Copy 0 number request

-- *To the controller*: the last cell of an answer is the answer, and that of a greeting the greeting
abbrev pub outcome_of : (result : ℕ) → Option lines.Outcome
outcome_of result = if result == 3 then Some lines.Success else (if result == 4 then Some lines.Failure else None)

abbrev pub seen_outcome : (input : End) → Standing → Option lines.Outcome → Seen lines.ToController
seen_outcome input s None = Nothing
seen_outcome input s (Some outcome) = Word (lines.Answer 0 s.number (word_of input s.request) outcome)

abbrev pub seen_answer_to : (input : End) → Option Head → Option Standing → Seen lines.ToController
seen_answer_to input None s = Nothing
seen_answer_to input (Some head) None = Nothing
seen_answer_to input (Some head) (Some s) = seen_outcome input s (outcome_of head.result)

abbrev pub seen_answer : (own far : ℕ → Party) → (input : End) → (last : Bool) → Option Message → Seen lines.ToController
seen_answer own far input last None = Nothing
seen_answer own far input last (Some (Adjacency greeting)) = seen_greeting lines.SwitchGreets own far last greeting
seen_answer own far input last (Some message) =
    if last then seen_answer_to input (head_of message) (copy_by (head_of message) (asked_in message)) else Nothing

abbrev pub erased_back : lines.ToController → lines.ToController
erased_back (lines.SwitchGreets kind sender receiver) = lines.SwitchGreets kind sender receiver
erased_back (lines.Answer under number request outcome) = lines.Answer 0 number request outcome

-- *Cells* of the GSMP channel of the control link
abbrev pub seen_on_gsmp : {W : Type 0} → ((last : Bool) → Option Message → Seen W) → (last : Bool) → Option (List ℕ) → Seen W
seen_on_gsmp seen last None = Unknown
seen_on_gsmp seen last (Some payload) = seen last (gsmp_of payload)

abbrev pub seen_cell : {W : Type 0} → ((last : Bool) → Option Message → Seen W) → List Frame → Cell → Seen W
seen_cell seen frames cell =
    if same_channel cell.header.channel default_channel
    then seen_on_gsmp seen cell.header.last (payload_of frames cell.mark)
    else Nothing
