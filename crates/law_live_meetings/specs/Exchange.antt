-- Two ends of an adjacency that greet each other (RFC 1953, RFC 1987): what one of them says is heard by the other, all of
-- it and in its order

use Rattle.std.specs.Prelude.{◌≡◌, ◌≢◌, Bool, List, [], ◌∷◌, ◌++◌, fold, None, Some}
use Rattle.std.specs.Option.{unwrap_or}
use Rattle.live_model.specs.world_model.Words.{Peer, Party, Said, Heard, State, Clearing, SynSent, Answer, Quiet, Send, Open, Side, Step, fresh, received, ticked, same_peer, same_party}
use Rattle.live_model.specs.world_model.adjacency_table.declared.message.Answer.TheVariants.{Reset}
use Rattle.live_model.specs.world_model.adjacency_table.Greeting.{nobody}

-- *A protocol*: when two parties are one, how a party that isn't known is written, and in which state a side begins
pub record Protocol (P : Type 0) : Type 0 where
  pub same : P → P → Bool
  pub unknown : P
  pub first : State

abbrev pub ifmp : Protocol Peer
ifmp = record {
  same = same_peer;
  unknown = record { instance = record { 0 = 0 }; address = record { 0 = 0 } };
  first = Clearing;
}

abbrev pub gsmp : Protocol Party
gsmp = record { same = same_party; unknown = nobody; first = SynSent }

-- a message as it is heard
abbrev pub heard : {P : Type 0} → Protocol P → Said P → Heard P
heard protocol message = record {
  kind = message.kind;
  sender = message.sender;
  receiver = unwrap_or message.receiver protocol.unknown;
}

-- *An end*: its side, and what is on the way to it, in the order in which it was said
pub record End (P : Type 0) : Type 0 where
  pub side : Side P
  pub comes : List (Said P)

pub record Ends (P : Type 0) : Type 0 where
  pub one : End P
  pub other : End P

abbrev pub swapped : {P : Type 0} → Ends P → Ends P
swapped ends = record { one = ends.other; other = ends.one }

-- *What a step makes of an end*: the step's side, or where it is reset a new one, under the own party that is drawn for it;
-- what it says goes to the other
abbrev pub side_after : {P : Type 0} → (anew : Side P) → Answer (Said P) P → Side P → Side P
side_after anew Reset side = anew
side_after anew answer side = side

abbrev pub said_in : {M K : Type 0} → Answer M K → List M
said_in Quiet = []
said_in (Send message) = message ∷ []
said_in (Open None own) = []
said_in (Open (Some message) own) = message ∷ []
said_in Reset = []

abbrev pub stepped : {P : Type 0} → Protocol P → Ends P → (drawn : P) → (comes : List (Said P)) → Step P → Ends P
stepped protocol ends drawn comes step = record {
  one = record { side = side_after (fresh protocol.first drawn) step.answer step.side; comes = comes };
  other = record { side = ends.other.side; comes = ends.other.comes ++ said_in step.answer };
}

-- a tick of the first end, and a message that it hears
abbrev pub ticks : {P : Type 0} → Protocol P → Ends P → (drawn : P) → Ends P
ticks protocol ends drawn = stepped protocol ends drawn ends.one.comes (ticked ends.one.side)

abbrev pub hears_first : {P : Type 0} → Protocol P → Ends P → (drawn : P) → List (Said P) → Ends P
hears_first protocol ends drawn [] = ends
hears_first protocol ends drawn (message ∷ later) =
    stepped protocol ends drawn later (received protocol.same ends.one.side (heard protocol message))

-- *What comes to an end*: the first message on its way; that its port is cleared, so that it may greet; or that the peer
-- is heard in another way
pub data Act (P : Type 0) : Type 0 where
  Hears : (drawn : P) → Act P
  IsCleared : Act P
  HearsElse : Act P

abbrev pub cleared_state : State → State
cleared_state Clearing = SynSent
cleared_state state = state

abbrev pub with_side : {P : Type 0} → Ends P → Side P → Ends P
with_side ends side = record { one = record { side = side; comes = ends.one.comes }; other = ends.other }

abbrev pub acts : {P : Type 0} → Protocol P → Ends P → Act P → Ends P
acts protocol ends (Hears drawn) = hears_first protocol ends drawn ends.one.comes
acts protocol ends IsCleared = with_side ends (record ends.one.side { state = cleared_state ends.one.side.state })
acts protocol ends HearsElse = with_side ends (record ends.one.side { silence = 0 })

-- at either end
pub data Turn (P : Type 0) : Type 0 where
  AtOne : Act P → Turn P
  AtOther : Act P → Turn P

abbrev pub turns : {P : Type 0} → Protocol P → Ends P → Turn P → Ends P
turns protocol ends (AtOne act) = acts protocol ends act
turns protocol ends (AtOther act) = swapped (acts protocol (swapped ends) act)

-- *An exchange*: each end ticks once, and then come turns in any order, as at rest nothing is on the way any more, and no
-- port waits to be cleared
pub record Exchange (P : Type 0) : Type 0 where
  pub drawn_by_one : P
  pub drawn_by_other : P
  pub then_come : List (Turn P)

abbrev pub both_tick : {P : Type 0} → Protocol P → Ends P → (by_one by_other : P) → Ends P
both_tick protocol ends by_one by_other =
    swapped (ticks protocol (swapped (ticks protocol ends by_one)) by_other)

abbrev pub behind : {P : Type 0} → Protocol P → Ends P → Exchange P → Ends P
behind protocol ends exchange =
    fold (turns protocol) (both_tick protocol ends exchange.drawn_by_one exchange.drawn_by_other) exchange.then_come

pub record IsAtRest {P : Type 0} (ends : Ends P) : Type 0 where
  pub one_has_heard : ends.one.comes ≡ []
  pub other_has_heard : ends.other.comes ≡ []
  pub one_is_clear : ends.one.side.state ≢ Clearing
  pub other_is_clear : ends.other.side.state ≢ Clearing
