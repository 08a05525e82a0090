-- One side of an adjacency between parties of any kind, and what the table makes of it
-- (RFC 1987, Adjacency Protocol; RFC 1953, IFMP Adjacency Protocol)

use Rattle.std.specs.Prelude.{◌≡◌, ℕ, Bool, true, false, not, ◌&&◌, ◌+◌, ◌≤◌, Option, Some, None, is_some, if◌then◌else◌}
use Rattle.std.specs.Option.{option_map_or}
use Rattle.net_types.specs.declared.adjacency.HelloKind.{HelloKind}
use Rattle.net_types.specs.declared.adjacency.HelloKind.TheVariants.{Syn, Rstack}
use Rattle.adjacency_table.specs.declared.State.{State}
use Rattle.adjacency_table.specs.declared.State.TheVariants.{SynRcvd, Estab}
use Rattle.adjacency_table.specs.declared.message.Heard.{Heard}
use Rattle.adjacency_table.specs.declared.message.Said.{Said}
use Rattle.adjacency_table.specs.declared.message.Answer.{Answer}
use Rattle.adjacency_table.specs.declared.message.Answer.TheVariants.{Quiet, Send, Open, Reset}
use Rattle.adjacency_table.specs.Table.{Reply, Silent, Says, Resets, Row, row, tick_reply, silence_limit}

-- the state, the own party, the peer that is stored, and how many ticks in Estab went by since the
-- peer was heard
pub record Side (P : Type 0) : Type 0 where
  pub state : State
  pub own : P
  pub stored : Option P
  pub silence : ℕ

-- what a message or a tick makes of a side, and what the side answers
pub record Step (P : Type 0) : Type 0 where
  pub side : Side P
  pub answer : Answer (Said P) P

-- a side that has heard nobody yet
abbrev pub fresh : {P : Type 0} → State → P → Side P
fresh state own = record { state = state; own = own; stored = None; silence = 0 }

abbrev pub is_estab : State → Bool
is_estab Estab = true
is_estab _ = false

-- a side knows its peer from SynRcvd on
abbrev pub knows_peer : State → Bool
knows_peer SynRcvd = true
knows_peer Estab = true
knows_peer _ = false

-- what holds of every side
pub record IsSide {P : Type 0} (a : Side P) : Type 0 where
  pub peer : is_some a.stored ≡ knows_peer a.state
  pub silence : a.silence ≤ silence_limit

-- the message of this kind in a side's own words: a SYN names no receiver, a SYNACK and an ACK name
-- the stored peer
abbrev pub said : {P : Type 0} → Side P → HelloKind → Said P
said a Syn = record { kind = Syn; sender = a.own; receiver = None }
said a kind = record { kind = kind; sender = a.own; receiver = a.stored }

-- the answer of this kind to a message: an RSTACK carries the message's two parties exchanged
abbrev pub answer_to : {P : Type 0} → Side P → Heard P → HelloKind → Said P
answer_to a m Rstack = record { kind = Rstack; sender = m.receiver; receiver = Some m.sender }
answer_to a m kind = said a kind

-- a reply as an answer, where `says` are the messages by their kinds
abbrev pub answer_of : {P : Type 0} → (HelloKind → Said P) → Reply → Answer (Said P) P
answer_of says Silent = Quiet
answer_of says (Says kind) = Send (says kind)
answer_of says Resets = Reset

-- the same answer, and the adjacency is open for this own party
abbrev pub answer_opened : {P : Type 0} → P → Answer (Said P) P → Answer (Said P) P
answer_opened own Quiet = Open None own
answer_opened own (Send message) = Open (Some message) own
answer_opened own answer = answer

abbrev pub is_open : {M K : Type 0} → Answer M K → Bool
is_open (Open _ _) = true
is_open _ = false

abbrev pub is_entry : (before after : State) → Bool
is_entry before after = not (is_estab before) && is_estab after

-- what follows a message by a row; the answer opens on entering Estab
abbrev pub followed : {P : Type 0} → Side P → Heard P → Row → Step P
followed a m r =
    let next : Side _ = record {
      state = r.next;
      own = a.own;
      stored = if r.stores then Some m.sender else a.stored;
      silence = if r.clears_silence then 0 else a.silence;
    } in
    let answer : Answer _ _ = answer_of (answer_to next m) r.reply in
    record { side = next; answer = if is_entry a.state r.next then answer_opened a.own answer else answer }

-- a message comes to a side; `same` tells whether two parties are one
abbrev pub received : {P : Type 0} → (P → P → Bool) → Side P → Heard P → Step P
received same a m =
    let meant = same m.receiver a.own in
    let known = option_map_or (same m.sender) a.stored false in
    followed a m (row a.state m.kind meant known)

-- the silence count at a tick, this one included
abbrev pub counted : State → ℕ → ℕ
counted Estab silence = silence + 1
counted _ silence = silence

-- what follows a tick by its reply; at a reset the side stays as it was
abbrev pub followed_tick : {P : Type 0} → Side P → Reply → Step P
followed_tick a Resets = record { side = a; answer = Reset }
followed_tick a reply = record {
  side = record a { silence = counted a.state a.silence };
  answer = answer_of (said a) reply;
}

-- a tick comes to a side
abbrev pub ticked : {P : Type 0} → Side P → Step P
ticked a = followed_tick a (tick_reply a.state (counted a.state a.silence))
