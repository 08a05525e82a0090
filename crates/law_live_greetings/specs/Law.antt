-- What a greeting makes of an end that has met its peer

use Rattle.std.specs.Prelude.{◌≡◌, ℕ, false, max, Some}
use Rattle.live_model.specs.world_model.Words.{Ack, Peer, Party, Quiet, Side, Step, gsmp_received, greeting_of, hello_of, ifmp_received, said, Desk, Setup, Label, LabelState, Recalled, Session, Work, hears}
use Rattle.live_model.specs.world_model.ifmp_wire.declared.message.Message.TheVariants.{Adjacency}
use Rattle.live_model.specs.Met.{HaveMet}
use Rattle.law_port_facts.specs.ordered_lists.Ordered.{Every}

-- *It stays as it is*, its silence count begins anew, and nothing is answered
abbrev pub heard_again : {P : Type 0} → Side P → Step P
heard_again side = record { side = record side { silence = 0 }; answer = Quiet }

-- between the ports of a link, whatever number the ACK tells, and between a controller and its switch
abbrev pub NeighboursAreHeard : Type 0
NeighboursAreHeard = (one other : Side Peer) (next : ℕ) → HaveMet one other
    → ifmp_received one other.own.address (hello_of next (said other Ack)) ≡ heard_again one

abbrev pub SwitchesAreHeard : Type 0
SwitchesAreHeard = (one other : Side Party) → HaveMet one other → gsmp_received one (greeting_of (said other Ack)) ≡ heard_again one

-- *A port that hears one*, where no label that was acknowledged waits for its number
abbrev pub WaitsForNone : LabelState → Type 0
WaitsForNone (Recalled last acknowledged) = acknowledged ≡ false
WaitsForNone state = Unit {0}

abbrev pub PortsHearAcks : Type 0
PortsHearAcks = (setup : Setup) (desk : Desk) (w : Work) (s : Session) (other : Side Peer) (next : ℕ) → w.halted ≡ false → w.port.session ≡ Some s
    → HaveMet w.port.adjacency other → Every (λ (label : Label). WaitsForNone label.state) s.labels
    → hears setup desk w other.own.address (Adjacency (hello_of next (said other Ack)))
    ≡ record w { port = record w.port { adjacency = record w.port.adjacency { silence = 0 }; session = Some (record s { known = max s.known next }) } }
