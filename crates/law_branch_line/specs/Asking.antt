-- what a controller asks, as far as it concerns one input

use Rattle.std.specs.Prelude.{ℕ, ◌+◌, Bool, true, false, not, ◌&&◌, List, [], ◌∷◌, ◌++◌, Option, Some, None, if◌then◌else◌, ◌==◌, filter}
use Rattle.law_branch_line.specs.Words.{DeleteAll, Request, OnInput, Elsewhere, ToSwitch, Copy}
use Rattle.law_branch_line.specs.Line.{Asked, Stands, Other, Meeting, Listing, Emptying, Met, MetAndAsked, Controller, Line}

-- messages are put at the end of the queue to the switch
abbrev pub say : Line → List ToSwitch → Line
say w messages = record w { to_switch = w.to_switch ++ messages }

-- a request is asked under the next transaction number. One that concerns the input withdraws what
-- stands on the input
abbrev pub number_taken : Controller → Request → Controller
number_taken c (OnInput request) =
    record c { next = c.next + 1; asked = Stands c.next request }
number_taken c (Elsewhere other) =
    record c {
      next = c.next + 1;
      others = c.others ++ (record { number = c.next; message_type = other }) ∷ [];
    }

abbrev pub ask : Line → Request → Line
ask w request =
    say
    (record w { controller = number_taken w.controller request })
    (Copy w.controller.adjacency.own w.controller.next request ∷ [])

abbrev pub ask_each : Line → List Request → Line
ask_each w [] = w
ask_each w (request ∷ requests) = ask_each (ask w request) requests

abbrev pub has_met : Meeting → Bool
has_met Listing = false
has_met Emptying = false
has_met Met = true
has_met MetAndAsked = true

abbrev pub deletes_all : Asked → Bool
deletes_all (Stands number DeleteAll) = true
deletes_all asked = false

-- but for meeting its switch a controller asks only when it has met it, and nothing that concerns an
-- input while Delete All of its port stands
abbrev pub may_ask : Meeting → Asked → Request → Bool
may_ask meeting asked (OnInput request) = has_met meeting && not (deletes_all asked)
may_ask meeting asked (Elsewhere other) = has_met meeting

abbrev pub since_asked : Meeting → Request → Meeting
since_asked meeting (OnInput request) = MetAndAsked
since_asked meeting (Elsewhere other) = meeting

abbrev pub ask_freely : Line → Request → Line
ask_freely w request =
    if may_ask w.controller.meeting w.controller.asked request
    then
    ask
    (record w {
      controller = record w.controller { meeting = since_asked w.controller.meeting request };
    })
    request
    else w

-- a standing request is sent again: the input's, or one of the others
abbrev pub ask_again : Line → Asked → Line
ask_again w (Stands number request) =
    say w (Copy w.controller.adjacency.own number (OnInput request) ∷ [])
ask_again w asked = w

abbrev pub is_numbered : (number : ℕ) → Other → Bool
is_numbered number other = other.number == number

abbrev pub ask_other_again : Line → Option Other → Line
ask_other_again w (Some other) =
    say w (Copy w.controller.adjacency.own other.number (Elsewhere other.message_type) ∷ [])
ask_other_again w None = w

-- one of the others is withdrawn
abbrev pub withdraw_other : Line → (number : ℕ) → Line
withdraw_other w number =
    if has_met w.controller.meeting
    then
    record w {
      controller = record w.controller {
        others = filter (λ other. not (is_numbered number other)) w.controller.others;
      };
    }
    else w
