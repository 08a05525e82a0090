-- The parties and messages of a GSMP adjacency (RFC 1987, Adjacency Protocol)

use Rattle.std.specs.Prelude.{Bool, ◌&&◌, ◌==◌, [], ◌∷◌}
use Rattle.std.specs.Option.{option_map, unwrap_or}
use Rattle.std.specs.Str.{bytes_eq}
use Rattle.net_types.specs.declared.adjacency.Greeting.{Greeting}
use Rattle.net_types.specs.declared.adjacency.Party.{Party}
use Rattle.adjacency_table.specs.declared.message.Heard.{Heard}
use Rattle.adjacency_table.specs.declared.message.Said.{Said}
use Rattle.adjacency_table.specs.declared.message.Answer.{Answer}
use Rattle.adjacency_table.specs.declared.message.Answer.TheVariants.{Quiet, Send, Open, Reset}
use Rattle.adjacency_table.specs.Side.{Side, Step, received}

abbrev pub same_party : Party → Party → Bool
same_party x y = bytes_eq x.name y.name && ((x.port == y.port) && (x.instance.0 == y.instance.0))

-- a message as its receiver hears it: it names both parties
abbrev pub heard_in : Greeting → Heard Party
heard_in greeting = record {
  kind = greeting.kind;
  sender = greeting.sender;
  receiver = greeting.receiver;
}

-- how a party that isn't known is written
abbrev pub nobody : Party
nobody = record {
  name = 0 ∷ 0 ∷ 0 ∷ 0 ∷ 0 ∷ 0 ∷ [];
  port = 0;
  instance = record { 0 = 0 };
}

-- a message as it is written
abbrev pub greeting_of : Said Party → Greeting
greeting_of m = record { kind = m.kind; sender = m.sender; receiver = unwrap_or m.receiver nobody }

-- an answer in GSMP's messages; what it hands out stands for the own party
abbrev pub gsmp_answer : Answer (Said Party) Party → Answer Greeting Party
gsmp_answer Quiet = Quiet
gsmp_answer (Send m) = Send (greeting_of m)
gsmp_answer (Open m own) = Open (option_map greeting_of m) own
gsmp_answer Reset = Reset

-- what a message makes of a side
abbrev pub gsmp_received : Side Party → Greeting → Step Party
gsmp_received a greeting = received same_party a (heard_in greeting)
