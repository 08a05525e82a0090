-- A client's desk: the requests that it has asked and that stand. A request stands from its asking
-- until it is answered or withdrawn.

use Rattle.std.specs.Prelude.{ℕ, Bool, not, ◌+◌, List, [], ◌∷◌, ◌++◌, filter, take, if◌then◌else◌}
use Rattle.std.specs.List.{list_any}
use Rattle.net_types.specs.declared.node.PortNo.{PortNo}
use Rattle.net_types.specs.declared.channel.End.{End}
use Rattle.gsmp_wire.specs.declared.message.Message.{Message}
use Rattle.gsmp_wire.specs.declared.request.Request.{Request}
use Rattle.gsmp_wire.specs.declared.request.Request.TheVariants.{MoveBranch}
use Rattle.gsmp_wire.specs.declared.rows.PortRow.{PortRow}
use Rattle.port_model.specs.Requests.{is_on, is_delete_all, leads_home, withdraws}
use Rattle.port_model.specs.Messages.{message_of}

-- a request under its transaction number
pub record Standing : Type 0 where
  pub number : ℕ
  pub request : Request

-- the next transaction number, what stands in the order of asking, and the records of the last answer
-- to All Ports
pub record Desk : Type 0 where
  pub next : ℕ
  pub standing : List Standing
  pub rows : List PortRow

-- on meeting a switch: the first number is 1, and no session is known
abbrev pub empty_desk : Desk
empty_desk = record { next = 1; standing = []; rows = [] }

-- the greatest transaction number, which is never used
abbrev pub last_transaction : ℕ
last_transaction = 4294967295

-- where so many stand, only needed requests are asked
abbrev pub most_asked : ℕ
most_asked = 1024

-- and so many have room
abbrev pub most_requests : ℕ
most_requests = 4096

abbrev pub on_input : Desk → End → Bool
on_input desk input = list_any (λ s. is_on input s.request) desk.standing

abbrev pub all_on : Desk → PortNo → Bool
all_on desk port = list_any (λ s. is_delete_all port s.request) desk.standing

-- a request is asked, in the place of those that it withdraws
abbrev pub asked : Desk → Request → Desk
asked desk request = record desk {
  next = desk.next + 1;
  standing = filter (λ s. not (withdraws request s.request)) desk.standing
      ++ record { number = desk.next; request = request } ∷ [];
}

-- what stands on an input is withdrawn
abbrev pub withdrawn : Desk → End → Desk
withdrawn desk input = record desk { standing = filter (λ s. not (is_on input s.request)) desk.standing }

-- a request stands that leads an input to the control link
abbrev pub is_led_home : Desk → (input home : End) → Bool
is_led_home desk input home = list_any (λ s. leads_home input home s.request) desk.standing

-- a join is taken back by Move Branch to the control link, unless its input is led there already
abbrev pub taken_back : Desk → (input output home : End) → Desk
taken_back desk input output home =
    if is_led_home desk input home then desk else asked desk (MoveBranch input output home)

-- all that stands is withdrawn
abbrev pub emptied : Desk → Desk
emptied desk = record desk { standing = [] }

-- those that a tick sends again: the 32 lowest, since numbers rise in the order of asking
abbrev pub sent_again : Desk → List Standing
sent_again desk = take 32 desk.standing

abbrev pub message_at : Desk → Standing → Message
message_at desk s = message_of desk.rows s.number s.request
