-- Two ends of an adjacency whose names and addresses are always right: what one of them does, told by
-- instances alone (RFC 1987, Adjacency Protocol; RFC 1953, IFMP Adjacency Protocol)

use Rattle.std.specs.Prelude.{◌≡◌, ℕ, Some, None, if◌then◌else◌}
use Rattle.net_types.specs.declared.prefix.Addr.{Addr}
use Rattle.net_types.specs.declared.adjacency.Peer.{Peer}
use Rattle.net_types.specs.declared.adjacency.Party.{Party}
use Rattle.net_types.specs.declared.adjacency.HelloKind.{HelloKind}
use Rattle.net_types.specs.declared.adjacency.HelloKind.TheVariants.{Syn}
use Rattle.adjacency_table.specs.declared.message.Said.{Said}
use Rattle.adjacency_table.specs.declared.message.Answer.TheVariants.{Reset}
use Rattle.adjacency_table.specs.Table.{Reply, Resets, Row, tick_reply}
use Rattle.adjacency_table.specs.Side.{Side, Step, knows_peer, answer_of, answer_opened, counted, ticked}
use Rattle.adjacency_table.specs.Instances.{SideByInstances, row_for, enters, after_row, greeting}
use Rattle.adjacency_table.specs.Hello.{hello_of, ifmp_received}
use Rattle.adjacency_table.specs.Greeting.{greeting_of, gsmp_received}

-- an end, which is a party under each of its instances: the router of an address, the entity of a
-- name and a port
abbrev pub router : Addr → (instance : ℕ) → Peer
router address instance = record { instance = record { 0 = instance }; address = address }

abbrev pub entity : Party → (instance : ℕ) → Party
entity party instance = record party { instance = record { 0 = instance } }

-- the side of the end `own` whose stored peer, where it knows one, is the end `far`
abbrev pub side_of : {P : Type 0} → (own far : ℕ → P) → SideByInstances → (silence : ℕ) → Side P
side_of own far side silence = record {
  state = side.state;
  own = own side.own;
  stored = if knows_peer side.state then Some (far side.stored) else None;
  silence = silence;
}

-- what the end `own` says to the end `far`; a SYN names nobody
abbrev pub said_by : {P : Type 0} → (own far : ℕ → P) → HelloKind → (sender receiver : ℕ) → Said P
said_by own far Syn sender receiver = record { kind = Syn; sender = own sender; receiver = None }
said_by own far kind sender receiver =
    record { kind = kind; sender = own sender; receiver = Some (far receiver) }

-- what follows a message at a row of the table: the side after the row, which says its greeting
abbrev pub step_by : {P : Type 0} → (own far : ℕ → P)
    → SideByInstances → (silence : ℕ) → Row → (sender receiver : ℕ) → Step P
step_by own far side silence found sender receiver =
    let after = after_row side found sender in
    let answer = answer_of (λ kind. greeting (said_by own far) after kind sender receiver) found.reply in
    record {
      side = side_of own far after (if found.clears_silence then 0 else silence);
      answer = if enters side found then answer_opened (own side.own) answer else answer;
    }

-- what follows a tick by its reply
abbrev pub tick_by : {P : Type 0} → (own far : ℕ → P) → SideByInstances → (silence : ℕ) → Reply → Step P
tick_by own far side silence Resets = record { side = side_of own far side silence; answer = Reset }
tick_by own far side silence reply = record {
  side = side_of own far side (counted side.state silence);
  answer = answer_of (λ kind. greeting (said_by own far) side kind 0 0) reply;
}

-- the law of messages: what a side makes of a message of the other end is the row of the table that
-- the instances give. What it says then is again what one end says to the other
abbrev pub IfmpIsReceivedByInstances : Type 0
IfmpIsReceivedByInstances = (own far : Addr) (side : SideByInstances) (silence next : ℕ)
    (kind : HelloKind) (sender receiver : ℕ)
    → ifmp_received (side_of (router own) (router far) side silence) far
    (hello_of next (said_by (router far) (router own) kind sender receiver))
    ≡ step_by (router own) (router far) side silence (row_for side kind sender receiver) sender receiver

abbrev pub GsmpIsReceivedByInstances : Type 0
GsmpIsReceivedByInstances = (own far : Party) (side : SideByInstances) (silence : ℕ)
    (kind : HelloKind) (sender receiver : ℕ)
    → gsmp_received (side_of (entity own) (entity far) side silence)
    (greeting_of (said_by (entity far) (entity own) kind sender receiver))
    ≡ step_by (entity own) (entity far) side silence (row_for side kind sender receiver) sender receiver

-- and of ticks
abbrev pub IsTickedByInstances : {P : Type 0} → (own far : ℕ → P) → Type 0
IsTickedByInstances own far = (side : SideByInstances) (silence : ℕ)
    → ticked (side_of own far side silence)
    ≡ tick_by own far side silence (tick_reply side.state (counted side.state silence))
