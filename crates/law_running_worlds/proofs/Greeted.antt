-- what both ends of a control link greet with: each number has its field's width

use Rattle.std.proofs.Common.{false, Option, None, Some}
use Rattle.std.specs.Option.{option_map_or, unwrap_or}
use Rattle.law_branch_shapes.specs.world_model.Words.{Greeting, HelloKind, Syn, Synack, Rstack, Ack, Party, greeting_of, nobody, same_party, heard_in, gsmp_answer, gsmp_received, Answer, Quiet, Send, Open, Heard, Said, Reply, Silent, Says, Resets, Row, row as table_row, tick_reply, Side, said, answer_to, answer_of, is_entry, followed, followed_tick, ticked, FitsParty, Fits}
use Rattle.law_branch_shapes.specs.world_model.adjacency_table.declared.message.Answer.TheVariants.{Reset}
use Rattle.law_branch_shapes.specs.world_model.adjacency_table.Side.{answer_opened, counted}
use Rattle.law_branch_shapes.specs.world_model.gsmp_wire.declared.message.Message.TheVariants.{Adjacency}
use Rattle.law_frame_readings.proofs.law_port_facts.Keyed.{on_both}
use Rattle.law_input_events.proofs.law_input_premises.Written.{IsWritten}
use Rattle.law_input_events.proofs.law_input_premises.Reading.{nobody_fits}
use Rattle.law_frame_readings.specs.law_world_views.Ready.{FitsStored, FitsSide}

-- *Greetings*: in the parties of a side, or of the greeting that it answers
known_fits : (o : Option Party) → FitsStored o → FitsParty (unwrap_or o nobody)
known_fits None h = nobody_fits
known_fits (Some party) h = h

said_written : (side : Side Party) (kind : HelloKind) → FitsSide side → IsWritten (Adjacency (greeting_of (said side kind)))
said_written side Syn h = ((h.own, nobody_fits), tt)
said_written side Synack h = ((h.own, known_fits side.stored h.stored), tt)
said_written side Rstack h = ((h.own, known_fits side.stored h.stored), tt)
said_written side Ack h = ((h.own, known_fits side.stored h.stored), tt)

record FitsHeard (m : Heard Party) : Type 0 where
  sender : FitsParty m.sender
  receiver : FitsParty m.receiver

answer_written : (side : Side Party) (m : Heard Party) (kind : HelloKind) → FitsSide side → FitsHeard m → IsWritten (Adjacency (greeting_of (answer_to side m kind)))
answer_written side m Syn h k = said_written side Syn h
answer_written side m Synack h k = said_written side Synack h
answer_written side m Rstack h k = ((k.receiver, k.sender), tt)
answer_written side m Ack h k = said_written side Ack h

-- what a side answers, if it does
abbrev pub AnswersWell : Answer Greeting Party → Type 0
AnswersWell Quiet = Unit {0}
AnswersWell (Send greeting) = IsWritten (Adjacency greeting)
AnswersWell (Open None own) = Unit {0}
AnswersWell (Open (Some greeting) own) = IsWritten (Adjacency greeting)
AnswersWell Reset = Unit {0}

well_by : (says : HelloKind → Said Party) (reply : Reply) → ((kind : HelloKind) → IsWritten (Adjacency (greeting_of (says kind)))) → AnswersWell (gsmp_answer (answer_of says reply))
well_by says Silent h = tt
well_by says (Says kind) h = h kind
well_by says Resets h = tt

opened_by : (says : HelloKind → Said Party) (own : Party) (reply : Reply) → ((kind : HelloKind) → IsWritten (Adjacency (greeting_of (says kind)))) → AnswersWell (gsmp_answer (answer_opened own (answer_of says reply)))
opened_by says own Silent h = tt
opened_by says own (Says kind) h = h kind
opened_by says own Resets h = tt

-- *A step of a side* keeps parties that fit, and what it answers then is well
followed_side : (a : Side Party) (m : Heard Party) (r : Row) → FitsSide a → FitsParty m.sender → FitsSide (followed a m r).side
followed_side a m r h sender = record { own = h.own; stored = on_both (λ (o : Option Party). FitsStored o) r.stores (Some m.sender) a.stored sender h.stored }

followed_answers : (a : Side Party) (m : Heard Party) (r : Row) → FitsSide (followed a m r).side → FitsHeard m → AnswersWell (gsmp_answer (followed a m r).answer)
followed_answers a m r h k = on_both (λ (answer : Answer (Said Party) Party). AnswersWell (gsmp_answer answer)) (is_entry a.state r.next)
    (answer_opened a.own (answer_of (answer_to (followed a m r).side m) r.reply)) (answer_of (answer_to (followed a m r).side m) r.reply)
    (opened_by (answer_to (followed a m r).side m) a.own r.reply (λ kind. answer_written (followed a m r).side m kind h k))
    (well_by (answer_to (followed a m r).side m) r.reply (λ kind. answer_written (followed a m r).side m kind h k))

abbrev row_of_greeting : (side : Side Party) (greeting : Greeting) → Row
row_of_greeting side greeting = table_row side.state greeting.kind (same_party greeting.receiver side.own) (option_map_or (same_party greeting.sender) side.stored false)

pub received_side : (side : Side Party) (greeting : Greeting) → Fits (Adjacency greeting) → FitsSide side → FitsSide (gsmp_received side greeting).side
received_side side greeting fits h = followed_side side (heard_in greeting) (row_of_greeting side greeting) h fits.0

pub received_answers : (side : Side Party) (greeting : Greeting) → Fits (Adjacency greeting) → FitsSide (gsmp_received side greeting).side → AnswersWell (gsmp_answer (gsmp_received side greeting).answer)
received_answers side greeting fits h = followed_answers side (heard_in greeting) (row_of_greeting side greeting) h (record { sender = fits.0; receiver = fits.1 })

ticked_side_by : (side : Side Party) (reply : Reply) → FitsSide side → FitsSide (followed_tick side reply).side
ticked_side_by side Silent h = record { own = h.own; stored = h.stored }
ticked_side_by side (Says kind) h = record { own = h.own; stored = h.stored }
ticked_side_by side Resets h = h

ticked_answers_by : (side : Side Party) (reply : Reply) → FitsSide (followed_tick side reply).side → AnswersWell (gsmp_answer (followed_tick side reply).answer)
ticked_answers_by side Silent h = tt
ticked_answers_by side (Says kind) h = said_written side kind (record { own = h.own; stored = h.stored })
ticked_answers_by side Resets h = tt

pub ticked_side : (side : Side Party) → FitsSide side → FitsSide (ticked side).side
ticked_side side h = ticked_side_by side (tick_reply side.state (counted side.state side.silence)) h

pub ticked_answers : (side : Side Party) → FitsSide (ticked side).side → AnswersWell (gsmp_answer (ticked side).answer)
ticked_answers side h = ticked_answers_by side (tick_reply side.state (counted side.state side.silence)) h
