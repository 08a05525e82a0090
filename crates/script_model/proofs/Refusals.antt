-- a refused line of each name

use Rattle.std.proofs.Common.{◌≡◌, ℕ, List, [], ◌∷◌, ◌++◌, map, refl}
use Rattle.std.specs.Prelude.{codes, Err, Result}
use Rattle.std.specs.List.{repeat, range_with_len}
use Rattle.world_model.specs.ipv4_forward.declared.table.Route.{Route}
use Rattle.world_model.specs.ipv4_forward.declared.table.Next.TheVariants.{Local}
use Rattle.rule_model.specs.lab_text.Lines.{lines_of}
use Rattle.script_model.specs.declared.line.Line.{Line}
use Rattle.script_model.specs.declared.refusal.LineRefusal.{LineRefusal}
use Rattle.script_model.specs.declared.refusal.LineRefusal.TheVariants.{ScriptTooLong, LineTooLong, BadByte, UnknownWord, Arity, BadName, BadNumber, BadAddress, BadPrefix, BadPlace, BadChannel, BadHex, BadLength, Late, DuplicateName, UnknownName, SelfLink, PortTaken, NoLink, Duplicate, TableFull, NoPrefix, TooMany}
use Rattle.script_model.specs.State.{ScriptState, nothing_read}
use Rattle.script_model.specs.Reading.{line_says, state_after}

-- the state behind a line
abbrev behind : ScriptState → List ℕ → ScriptState
behind state line = state_after state line (line_says state line)

-- behind these lines, all of which are taken
abbrev behind_lines : ScriptState → List (List ℕ) → ScriptState
behind_lines state [] = state
behind_lines state (line ∷ lines) = behind_lines (behind state line) lines

abbrev behind_text : List ℕ → ScriptState
behind_text octets = behind_lines nothing_read (lines_of octets)

-- two nodes with a link
abbrev two : ScriptState
two = behind_text (codes "node a 10.0.1.1\nnode b 10.0.3.1\nlink a:1 b:1\nroute a 10.0.0.0/8 via 1\n")

-- and an event
abbrev begun : ScriptState
begun = behind two (codes "tick *\n")

abbrev route : ℕ → Route
route n = record { prefix = record { addr = record { 0 = n }; len = 32 }; next = Local }

-- the first node has as many routes as there may be
abbrev full : ScriptState
full = record begun { tables = map route (range_with_len 1 256) ∷ [] ∷ [] }

-- the octet behind the greatest input
abbrev long : ScriptState
long = record nothing_read { octets = 16777216 }

abbrev many_events : ScriptState
many_events = record begun { event_lines = 200000 }

abbrev many_rounds : ScriptState
many_rounds = record begun { rounds = 99999 }

abbrev many_ticks : ScriptState
many_ticks = record begun { ticks = 1999999 }

pub record Case : Type 0 where
  pub state : ScriptState
  pub line : List ℕ
  pub name : LineRefusal

abbrev case : ScriptState → List ℕ → LineRefusal → Case
case state line name = record { state = state; line = line; name = name }

-- *Each name*, in the order of the tests
abbrev cases : List Case
cases =
    case long (codes "x") ScriptTooLong
    ∷ case nothing_read (repeat 4097 (codes "x")) LineTooLong
    ∷ case nothing_read (codes "tick \r*\n") BadByte
    ∷ case nothing_read (codes "nodes a 10.0.1.1\n") UnknownWord
    ∷ case two (codes "route a 10.0.0.0/8 over 1\n") UnknownWord
    ∷ case two (codes "route a 10.0.0.0/8 via\n") UnknownWord
    ∷ case nothing_read (codes "node a\n") Arity
    ∷ case nothing_read (codes "node 1a 10.0.1.1\n") BadName
    ∷ case nothing_read (codes "node a 10.0.1\n") BadAddress
    ∷ case two (codes "cells a 0\n") BadNumber
    ∷ case two (codes "cells a 01\n") BadNumber
    ∷ case two (codes "labels a 1 40 39\n") BadNumber
    ∷ case two (codes "route a 10.0.0.1/8 local\n") BadPrefix
    ∷ case two (codes "link a:0 b:2\n") BadPlace
    ∷ case begun (codes "carry a:9\n") BadPlace
    ∷ case begun (codes "forge a:1 256/15 00\n") BadChannel
    ∷ case begun (codes "send a 000\n") BadHex
    ∷ case begun (codes "forge a:1 0/15 " ++ repeat 1529 (codes "00")) BadLength
    ∷ case begun (codes "node c 10.0.4.1\n") Late
    ∷ case two (codes "version 2\n") Late
    ∷ case two (codes "node a 10.0.4.1\n") DuplicateName
    ∷ case two (codes "cells c 1\n") UnknownName
    ∷ case two (codes "link a:2 c:1\n") UnknownName
    ∷ case two (codes "link a:2 a:1\n") SelfLink
    ∷ case two (codes "link a:1 b:2\n") PortTaken
    ∷ case two (codes "route b 10.0.0.0/8 via 2\n") NoLink
    ∷ case begun (codes "lose a:2\n") NoLink
    ∷ case two (codes "route a 10.0.0.0/8 local\n") Duplicate
    ∷ case full (codes "setroute a 10.0.0.0/8 local\n") TableFull
    ∷ case begun (codes "unroute a 10.0.0.0/9\n") NoPrefix
    ∷ case many_events (codes "carry a:1\n") TooMany
    ∷ case many_rounds (codes "run 2\n") TooMany
    ∷ case many_ticks (codes "tick *\n") TooMany
    ∷ []

abbrev answer : Case → Result Line LineRefusal
answer c = line_says c.state c.line

abbrev wanted : Case → Result Line LineRefusal
wanted c = Err c.name

each_is_refused : map answer cases ≡ map wanted cases
each_is_refused = refl
