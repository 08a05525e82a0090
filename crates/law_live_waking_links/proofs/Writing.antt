-- what a side says can be written, where what it knows and hears can

use Rattle.std.proofs.Common.{Bool, true, false, List, [], ◌∷◌, ◌++◌, Option, None, Some, arith, if◌then◌else◌}
use Rattle.std.specs.Option.{option_map_or, unwrap_or}
use Rattle.world_model.specs.Words.{HelloKind, Syn, Synack, Rstack, Ack, Peer, Said, Heard, Side, Answer, Quiet, Send, Open, Reply, Silent, Says, Resets, Row, row, said, answer_of, answer_to, received, ticked, followed, followed_tick, tick_reply}
use Rattle.world_model.specs.adjacency_table.Side.{answer_opened, counted, is_entry}
use Rattle.world_model.specs.adjacency_table.declared.message.Answer.TheVariants.{Reset}
use Rattle.law_live_waking.specs.law_passing.ordered_lists.Ordered.{Every}
use Rattle.law_live_waking.specs.law_live_meetings.Exchange.{ifmp, heard, said_in}
use Rattle.law_live_waking_links.specs.Hellos.{FitsPeer, FitsStored, IsWritten}

-- *Every one* of two lists, one behind another
pub every_left : {A : Type 0} (P : A → Type 0) (xs ys : List A) → Every P (xs ++ ys) → Every P xs
every_left P [] ys each = tt
every_left P (x ∷ xs) ys each = (each.0, every_left P xs ys each.1)

pub every_right : {A : Type 0} (P : A → Type 0) (xs ys : List A) → Every P (xs ++ ys) → Every P ys
every_right P [] ys each = each
every_right P (x ∷ xs) ys each = every_right P xs ys each.1

pub every_join : {A : Type 0} (P : A → Type 0) (xs ys : List A) → Every P xs → Every P ys → Every P (xs ++ ys)
every_join P [] ys each more = more
every_join P (x ∷ xs) ys each more = (each.0, every_join P xs ys each.1 more)

own_words : (side : Side Peer) → FitsPeer side.own → FitsStored side.stored → (kind : HelloKind) → IsWritten (said side kind)
own_words side own stored Syn = (own, tt)
own_words side own stored Synack = (own, stored)
own_words side own stored Rstack = (own, stored)
own_words side own stored Ack = (own, stored)

answers : (says : HelloKind → Said Peer) → ((kind : HelloKind) → IsWritten (says kind)) → (reply : Reply) → Every IsWritten (said_in (answer_of says reply))
answers says each Silent = tt
answers says each (Says kind) = (each kind, tt)
answers says each Resets = tt

opened : (own : Peer) (answer : Answer (Said Peer) Peer) → Every IsWritten (said_in answer) → Every IsWritten (said_in (answer_opened own answer))
opened own Quiet each = tt
opened own (Send message) each = each
opened own (Open message other) each = each
opened own Reset each = tt

answers_to : (side : Side Peer) (m : Heard Peer) → FitsPeer side.own → FitsStored side.stored → FitsPeer m.sender → FitsPeer m.receiver → (kind : HelloKind) → IsWritten (answer_to side m kind)
answers_to side m own stored sender receiver Syn = (own, tt)
answers_to side m own stored sender receiver Synack = (own, stored)
answers_to side m own stored sender receiver Rstack = (receiver, sender)
answers_to side m own stored sender receiver Ack = (own, stored)

stores : (b : Bool) (sender : Peer) (old : Option Peer) → FitsPeer sender → FitsStored old → FitsStored (if b then Some sender else old)
stores true sender old fits stored = fits
stores false sender old fits stored = stored

next_side : Side Peer → Heard Peer → Row → Side Peer
next_side a m r = record {
  state = r.next;
  own = a.own;
  stored = if r.stores then Some m.sender else a.stored;
  silence = if r.clears_silence then 0 else a.silence;
}

by_row : (side : Side Peer) (m : Heard Peer) (r : Row) → FitsPeer side.own → FitsStored side.stored → FitsPeer m.sender → FitsPeer m.receiver → Every IsWritten (said_in (followed side m r).answer)
unfolding next_side
by_row side m r own stored sender receiver = by (is_entry side.state r.next)
  where
    plain : Every IsWritten (said_in (answer_of (answer_to (next_side side m r) m) r.reply))
    plain = answers (answer_to (next_side side m r) m) (answers_to (next_side side m r) m own (stores r.stores m.sender side.stored sender stored) sender receiver) r.reply

    by : (b : Bool) → Every IsWritten (said_in (if b then answer_opened side.own (answer_of (answer_to (next_side side m r) m) r.reply) else answer_of (answer_to (next_side side m r) m) r.reply))
    by true = opened side.own (answer_of (answer_to (next_side side m r) m) r.reply) plain
    by false = plain

named_or_unknown : (o : Option Peer) → FitsStored o → FitsPeer (unwrap_or o ifmp.unknown)
named_or_unknown None fits = (omega arith, omega arith)
named_or_unknown (Some peer) fits = fits

-- *As it hears a greeting*
pub received_written : (side : Side Peer) (message : Said Peer) → FitsPeer side.own → FitsStored side.stored → IsWritten message
    → Every IsWritten (said_in (received ifmp.same side (heard ifmp message)).answer)
received_written side message own stored written =
    by_row side (heard ifmp message) (row side.state (heard ifmp message).kind (ifmp.same (heard ifmp message).receiver side.own) (option_map_or (ifmp.same (heard ifmp message).sender) side.stored false)) own stored written.0 (named_or_unknown message.receiver written.1)

-- *As it ticks*
pub ticked_written : (side : Side Peer) → FitsPeer side.own → FitsStored side.stored → Every IsWritten (said_in (ticked side).answer)
ticked_written side own stored = by (tick_reply side.state (counted side.state side.silence))
  where
    by : (reply : Reply) → Every IsWritten (said_in (followed_tick side reply).answer)
    by Silent = tt
    by (Says kind) = (own_words side own stored kind, tt)
    by Resets = tt
