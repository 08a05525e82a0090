-- an answer of the table of adjacencies is of a kind below that of the message that it answers

use Rattle.std.proofs.Common.{◌≡◌, ◌≤◌, ◌+◌, Bool, true, false, None, Some, refl, ap, arith, if◌then◌else◌}
use Rattle.std.specs.Option.{option_map_or}
use Rattle.claims_model.specs.world_model.Words.{HelloKind, Syn, Synack, Ack, Rstack, State, Clearing, SynSent, SynRcvd, Estab, Heard, Said, Answer, Quiet, Send, Open, Side, is_entry, answer_to, answer_of, followed, received, Reply, Silent, Says, Resets, Row, row}
use Rattle.claims_model.specs.world_model.adjacency_table.declared.message.Answer.TheVariants.{Reset}
use Rattle.claims_model.specs.world_model.adjacency_table.Side.{answer_opened}
use Rattle.claims_model.specs.Costs.{rank}

abbrev pub IsReplyBelow : HelloKind → Reply → Type 0
IsReplyBelow kind Silent = Unit {0}
IsReplyBelow kind (Says other) = rank other + 1 ≤ rank kind
IsReplyBelow kind Resets = Unit {0}

abbrev pub IsBelow : {P : Type 0} → HelloKind → Answer (Said P) P → Type 0
IsBelow kind Quiet = Unit {0}
IsBelow kind (Send message) = rank message.kind + 1 ≤ rank kind
IsBelow kind (Open None own) = 1 ≤ rank kind
IsBelow kind (Open (Some message) own) = rank message.kind + 1 ≤ rank kind
IsBelow kind Reset = Unit {0}

reset_or_not : (kind : HelloKind) (b : Bool) → IsReplyBelow kind (if b then Resets else Silent)
reset_or_not kind true = tt
reset_or_not kind false = tt

row_below : (state : State) (kind : HelloKind) (meant known : Bool) → IsReplyBelow kind (row state kind meant known).reply
row_below Clearing Syn meant known = tt
row_below Clearing Synack meant known = tt
row_below Clearing Ack meant known = tt
row_below Clearing Rstack meant known = tt
row_below SynSent Syn meant known = omega arith
row_below SynSent Synack true known = omega arith
row_below SynSent Synack false known = omega arith
row_below SynSent Ack meant known = omega arith
row_below SynSent Rstack meant known = tt
row_below SynRcvd Syn meant known = omega arith
row_below SynRcvd Synack true known = omega arith
row_below SynRcvd Synack false known = omega arith
row_below SynRcvd Ack true true = tt
row_below SynRcvd Ack true false = omega arith
row_below SynRcvd Ack false known = omega arith
row_below SynRcvd Rstack true true = tt
row_below SynRcvd Rstack true false = tt
row_below SynRcvd Rstack false known = tt
row_below Estab Syn meant known = omega arith
row_below Estab Synack meant known = omega arith
row_below Estab Ack true true = tt
row_below Estab Ack true false = omega arith
row_below Estab Ack false known = omega arith
row_below Estab Rstack true true = tt
row_below Estab Rstack true false = tt
row_below Estab Rstack false known = tt

-- no RSTACK leads into Estab
row_enters : (state : State) (kind : HelloKind) (meant known : Bool) → is_entry state (row state kind meant known).next ≡ true → 1 ≤ rank kind
row_enters state Syn meant known entry = omega arith
row_enters state Synack meant known entry = omega arith
row_enters state Ack meant known entry = omega arith
row_enters Clearing Rstack meant known entry = absurd (cc entry)
row_enters SynSent Rstack meant known entry = absurd (cc entry)
row_enters SynRcvd Rstack meant known entry = absurd (cc entry)
row_enters Estab Rstack meant known entry = absurd (cc entry)

module _ {P : Type 0} where
  said_kind : (a : Side P) (m : Heard P) (kind : HelloKind) → (answer_to a m kind).kind ≡ kind
  said_kind a m Syn = refl
  said_kind a m Synack = refl
  said_kind a m Ack = refl
  said_kind a m Rstack = refl

  answer_below : (kind : HelloKind) (a : Side P) (m : Heard P) (reply : Reply) → IsReplyBelow kind reply → IsBelow kind (answer_of (answer_to a m) reply)
  answer_below kind a m Silent below = tt
  answer_below kind a m (Says other) below = omega (arith, below, ap rank (said_kind a m other))
  answer_below kind a m Resets below = tt

  opened_below : (kind : HelloKind) (own : P) (answer : Answer (Said P) P) → 1 ≤ rank kind → IsBelow kind answer → IsBelow kind (answer_opened own answer)
  opened_below kind own Quiet some below = some
  opened_below kind own (Send message) some below = below
  opened_below kind own (Open None other) some below = below
  opened_below kind own (Open (Some message) other) some below = below
  opened_below kind own Reset some below = tt

  followed_below : (a : Side P) (m : Heard P) (r : Row) → (is_entry a.state r.next ≡ true → 1 ≤ rank m.kind) → IsReplyBelow m.kind r.reply → IsBelow m.kind (followed a m r).answer
  followed_below a m r enters below =
      let next : Side P = record { state = r.next; own = a.own; stored = if r.stores then Some m.sender else a.stored; silence = if r.clears_silence then 0 else a.silence } in
      by next (is_entry a.state r.next) refl
    where
      by : (next : Side P) (b : Bool) → is_entry a.state r.next ≡ b → IsBelow m.kind (if b then answer_opened a.own (answer_of (answer_to next m) r.reply) else answer_of (answer_to next m) r.reply)
      by next true entry = opened_below m.kind a.own (answer_of (answer_to next m) r.reply) (enters entry) (answer_below m.kind next m r.reply below)
      by next false entry = answer_below m.kind next m r.reply below

  pub received_below : (same : P → P → Bool) (a : Side P) (m : Heard P) → IsBelow m.kind (received same a m).answer
  received_below same a m = followed_below a m (row a.state m.kind (same m.receiver a.own) (option_map_or (same m.sender) a.stored false))
      (row_enters a.state m.kind (same m.receiver a.own) (option_map_or (same m.sender) a.stored false))
      (row_below a.state m.kind (same m.receiver a.own) (option_map_or (same m.sender) a.stored false))
