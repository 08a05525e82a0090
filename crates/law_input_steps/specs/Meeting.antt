-- What an answer leaves of the desk, and when all ports may be asked to be emptied

use Rattle.std.specs.Prelude.{◌≡◌, ℕ, ◌+◌, ◌<◌, ◌≤◌, Bool, true, false, ◌==◌, ◌&&◌, List, [], ◌∷◌, ◌++◌, length, find, Option}
use Rattle.law_input_views.specs.world_model.Words.{End, PortNo, is_estab, withdraws, Desk, Standing, last_transaction, message_of, Head, is_of_type, without_request}
use Rattle.law_input_views.specs.world_model.gsmp_wire.declared.message.Message.{Message}
use Rattle.law_input_views.specs.world_model.gsmp_wire.declared.request.Request.TheVariants.{DeleteAll}
use Rattle.law_input_views.specs.ordered_lists.Ordered.{Every, InOrder}
use Rattle.law_input_views.specs.law_branch_line.Line.{Answered, Met, Line}
use Rattle.law_input_steps.specs.Part.{Part}
use Rattle.law_input_steps.specs.Asking.{IsReadable, concerns, on_input}

-- the request that an answer is to, under its number and of its type
abbrev pub in_desk : Message → Head → Desk → Option Standing
in_desk m head desk = find (λ (s : Standing). s.number == head.number && is_of_type m s.request) desk.standing

-- the switch is met once nothing stands of the meeting
abbrev pub is_none_left : List Standing → Bool
is_none_left [] = true
is_none_left (s ∷ standing) = false

abbrev pub met_after : (has : Bool) → (left : List Standing) → Bool
met_after true left = true
met_after false left = is_none_left left

-- *What a moment keeps*: a request on the input was answered last, or the switch was just met
pub record AfterAnswer (e : End) (s : Standing) (before after : Bool) (line : Line) : Type 0 where
  pub own : concerns e s.request ≡ true → line.controller.asked ≡ Answered s.number (on_input s.request)
  pub met : before ≡ false → after ≡ true → line.controller.meeting ≡ Met

-- the part once the request stands no more
abbrev pub answered_part : Part → Standing → Part
answered_part p s = record p { desk = without_request p.desk s; met = met_after p.met (without_request p.desk s).standing }

-- *No two ports are one*
abbrev pub AreDistinct : List PortNo → Type 0
AreDistinct ports = InOrder (λ (p q : PortNo). (p.0 == q.0) ≡ false) ports

abbrev pub Untouched : List PortNo → List Standing → Type 0
Untouched ports standing = Every (λ (p : PortNo). Every (λ (s : Standing). withdraws (DeleteAll p) s.request ≡ false) standing) ports

-- *What stays* along the way
pub record MayEmpty (p : Part) (ports : List PortNo) : Type 0 where
  pub estab : is_estab p.adjacency.state ≡ true
  pub distinct : AreDistinct ports
  pub untouched : Untouched ports p.desk.standing
  pub room : p.desk.next + length ports ≤ last_transaction
  pub reads : Every (λ (port : PortNo). (n : ℕ) → n < last_transaction → IsReadable (message_of p.desk.rows n (DeleteAll port))) ports

-- *The ports* of the switch round the input's
pub record IsAround (input : End) (ports xs ys : List PortNo) (line : Line) : Type 0 where
  pub is : ports ≡ xs ++ input.port ∷ ys
  pub before : line.ports_before ≡ length xs
  pub behind : line.ports_behind ≡ length ys
  pub below : Every (λ (p : PortNo). (p.0 == input.port.0) ≡ false) xs
  pub above : Every (λ (p : PortNo). (p.0 == input.port.0) ≡ false) ys
