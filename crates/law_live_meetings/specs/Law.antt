-- Two ends that greet each other come to have met

use Rattle.std.specs.Prelude.{◌≡◌, ℕ, ◌≤◌, List, [], ◌∷◌, fold, length}
use Rattle.live_model.specs.world_model.Words.{Peer, Party, Said, Side, IsSide, gsmp_received, greeting_of, hello_of, ifmp_received, received}
use Rattle.live_model.specs.Met.{HaveMet}
use Rattle.law_live_meetings.specs.Exchange.{Protocol, ifmp, gsmp, heard, Ends, Turn, turns, Exchange, behind, IsAtRest}

-- *Exchanges one behind another*, each of which comes to rest
abbrev pub ComeToRest : {P : Type 0} → Protocol P → Ends P → List (Exchange P) → Type 0
ComeToRest protocol ends [] = Unit {0}
ComeToRest protocol ends (exchange ∷ exchanges) =
    IsAtRest (behind protocol ends exchange) × ComeToRest protocol (behind protocol ends exchange) exchanges

-- *Behind four of them both ends have met*, and so it stays: whatever their states were, whomever they had stored, and
-- under whatever instances a side that is reset begins anew
abbrev pub EndsComeToMeet : {P : Type 0} → Protocol P → Type 0
EndsComeToMeet protocol = (ends : Ends _) (exchanges : List (Exchange _)) → IsSide ends.one.side → IsSide ends.other.side
    → IsAtRest ends → ComeToRest protocol ends exchanges → 4 ≤ length exchanges
    → HaveMet (fold (behind protocol) ends exchanges).one.side (fold (behind protocol) ends exchanges).other.side

-- behind five where messages may be on the way, whatever they say
abbrev pub StrangersComeToMeet : {P : Type 0} → Protocol P → Type 0
StrangersComeToMeet protocol = (ends : Ends _) (exchanges : List (Exchange _)) → IsSide ends.one.side → IsSide ends.other.side
    → ComeToRest protocol ends exchanges → 5 ≤ length exchanges
    → HaveMet (fold (behind protocol) ends exchanges).one.side (fold (behind protocol) ends exchanges).other.side

-- *Each exchange can come to rest*: so it is from any two ends, and so wherever an exchange stands
pub record ComesToRest {P : Type 0} (protocol : Protocol P) (ends : Ends P) : Type 0 where
  pub then_come : List (Turn P)
  pub rests : IsAtRest (fold (turns protocol) ends then_come)

abbrev pub TurnsComeToRest : {P : Type 0} → Protocol P → Type 0
TurnsComeToRest protocol = (ends : Ends _) → ComesToRest protocol ends

-- *A message is heard as it was said*: of GSMP as it is written, of IFMP in a packet whose source is its sender's address,
-- whatever number it tells
abbrev pub GreetingsAreHeard : Type 0
GreetingsAreHeard = (side : Side Party) (message : Said Party)
    → gsmp_received side (greeting_of message) ≡ received gsmp.same side (heard gsmp message)

abbrev pub HellosAreHeard : Type 0
HellosAreHeard = (side : Side Peer) (message : Said Peer) (next : ℕ)
    → ifmp_received side message.sender.address (hello_of next message) ≡ received ifmp.same side (heard ifmp message)
