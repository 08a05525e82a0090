-- each rule, of two ends in touch of which neither is in its parts

use Rattle.std.proofs.Common.{◌≡◌, ℕ, ◌<◌, ◌+◌, List, [], ◌∷◌, ◌++◌, Some, sym, subst, ◌⊎◌, inl, inr}
use Rattle.live_model.specs.world_model.Words.{Peer, Side, at, Desk, Setup, label_at, Grant, grant_label, Session, last_number, counts, nudges, ticks_label}
use Rattle.live_model.specs.world_model.ifmp_wire.declared.message.Message.{Message}
use Rattle.live_model.specs.world_model.port_model.Answers.{done}
use Rattle.live_model.specs.world_model.port_model.Joins.{given_back}
use Rattle.live_model.specs.world_model.port_model.Port.{Port}
use Rattle.law_live_links.specs.Law.{EndOfLink, number_of, expected_of, IsGreeting, IsToldAnew, working, hearing}
use Rattle.law_live_links.proofs.Resting.{end_in, by_session}
use Rattle.law_live_bindings.specs.Law.{TakesInRange, HasRoomFor, label_branch, grant_branch}
use Rattle.law_live_recalls.specs.Law.{label_tree, ack_from}
use Rattle.law_live_touch.specs.Touch.{IsNumbered, a_redirect, a_reclaim, an_answer, a_range, LeadFrom, AreInTouch}
use Rattle.law_live_touch.specs.Law.{TouchOn, HearingKeepsTouch, CountingKeepsTouch, OffersKeepTouch, StartsKeepTouch, TicksKeepTouch, ReturnsKeepTouch, FreesKeepTouch, NudgesKeepTouch, GreetingsKeepTouch}
use Rattle.law_live_touch.proofs.Saying.{packet_on, offer_on, start_on}
use Rattle.law_live_touch.proofs.Leaving.{return_on, free_on, nudge_on, greeting_said}
use Rattle.law_live_touch.proofs.Ticking.{ticks_on}
use Rattle.law_live_touch.proofs.Quitting.{ack_heard}
use Rattle.law_live_touch.proofs.Redirecting.{redirect_heard, range_on}
use Rattle.law_live_touch.proofs.Reclaiming.{reclaim_heard, answer_heard}

-- *The first that is on its way*, by what it is
module _ (desk : Desk) (instances : ℕ) (setup : Setup) (side : Side Peer) (tally : ℕ) (s : Session) (grants : List Grant) (said : List Message) (far_setup : Setup) (far_port : Port) (rest : List Message) where
  abbrev one : EndOfLink
  one = end_in setup side tally s grants said

  abbrev saying : Message → EndOfLink
  saying message = record { setup = far_setup; port = far_port; said = message ∷ rest }

  abbrev IsHeard : Message → Type 0
  IsHeard message = TouchOn one (record { setup = far_setup; port = far_port; said = rest }) (hearing desk instances far_port.adjacency.own.address one message)

  numbered_heard : (message : Message) → IsNumbered far_port.adjacency.own side.own far_setup s.expected message → AreInTouch one (saying message) → s.expected < last_number
      → LeadFrom far_port.adjacency.own side.own far_setup (s.expected + 1) (number_of far_port) rest → HasRoomFor desk instances one message → s.number < last_number → IsHeard message
  numbered_heard message (a_redirect label flow known) t due leads room left = redirect_heard desk instances setup side tally s grants said far_setup far_port label flow known rest t due leads room
  numbered_heard message (a_reclaim label flow known) t due leads room left = reclaim_heard desk instances setup side tally s grants said far_setup far_port label flow known rest t due left leads
  numbered_heard message (an_answer label flow known) t due leads room left = answer_heard desk instances setup side tally s grants said far_setup far_port label flow known rest t due leads
  numbered_heard message a_range t due leads room left = range_on desk instances setup side tally s grants said far_setup far_port rest t due leads

  pub first_heard : (message : Message) → AreInTouch one (saying message) → HasRoomFor desk instances one message → s.number < last_number → IsHeard message
  first_heard message t room left = by t.back.numbers
    where
      by : (IsGreeting far_port.adjacency.own side.own message × LeadFrom far_port.adjacency.own side.own far_setup s.expected (number_of far_port) rest)
          ⊎ (IsNumbered far_port.adjacency.own side.own far_setup s.expected message × ((s.expected < last_number) × LeadFrom far_port.adjacency.own side.own far_setup (s.expected + 1) (number_of far_port) rest))
          → IsHeard message
      by (inl greets) = subst (λ (m : Message). AreInTouch one (saying m) → IsHeard m) (sym greets.0.is)
          (λ u. ack_heard desk instances setup side tally s grants said far_setup far_port greets.0.expected rest u greets.1) t
      by (inr tells) = numbered_heard message tells.0 t tells.1.0 tells.1.1 room left

pub hearing_keeps_touch : HearingKeepsTouch
hearing_keeps_touch desk instances one other message rest touch first room left =
    by_session (λ (x : EndOfLink). AreInTouch x other → HasRoomFor desk instances x message → number_of x.port < last_number
    → TouchOn x (record other { said = rest }) (hearing desk instances other.port.adjacency.own.address x message)) each one touch.one_end.in_session touch room left
  where
    each : (setup : Setup) (side : Side Peer) (tally : ℕ) (s : Session) (grants : List Grant) (said : List Message)
        → AreInTouch (end_in setup side tally s grants said) other → HasRoomFor desk instances (end_in setup side tally s grants said) message → s.number < last_number
        → TouchOn (end_in setup side tally s grants said) (record other { said = rest }) (hearing desk instances other.port.adjacency.own.address (end_in setup side tally s grants said) message)
    each setup side tally s grants said t = first_heard desk instances setup side tally s grants said other.setup other.port rest message
        (subst (λ (y : EndOfLink). AreInTouch (end_in setup side tally s grants said) y) (λ i. record { setup = other.setup; port = other.port; said = first i }) t)

pub counting_keeps_touch : CountingKeepsTouch
counting_keeps_touch desk instances one other packet touch in_range =
    by_session (λ (x : EndOfLink). AreInTouch x other → TakesInRange x other.setup → TouchOn x other (counts x.setup desk (working instances x) packet))
    (λ setup side tally s grants said t r. packet_on setup side tally s grants said other t desk instances r packet) one touch.one_end.in_session touch in_range

pub offers_keep_touch : OffersKeepTouch
offers_keep_touch instances one other label touch held wiring left =
    by_session (λ (x : EndOfLink). AreInTouch x other → label_at x.port label.number ≡ Some label → number_of x.port < last_number
    → TouchOn x other (done x.setup (working instances x) (label_branch x.setup label.number)))
    (λ setup side tally s grants said t h l. offer_on setup side tally s grants said other t instances label h wiring l) one touch.one_end.in_session touch held left

pub starts_keep_touch : StartsKeepTouch
starts_keep_touch instances one other label touch =
    by_session (λ (x : EndOfLink). AreInTouch x other → TouchOn x other (done x.setup (working instances x) (grant_branch x.setup label)))
    (λ setup side tally s grants said t. start_on setup side tally s grants said other t instances label) one touch.one_end.in_session touch

pub ticks_keep_touch : TicksKeepTouch
ticks_keep_touch desk instances one other label touch untold left =
    by_session (λ (x : EndOfLink). AreInTouch x other → (IsToldAnew label x.said → ⊥) → number_of x.port < last_number → TouchOn x other (ticks_label x.setup desk (working instances x) label))
    (λ setup side tally s grants said t u l. ticks_on desk instances setup side tally s grants said other t label u l) one touch.one_end.in_session touch untold left

pub returns_keep_touch : ReturnsKeepTouch
returns_keep_touch instances one other grant touch found left =
    by_session (λ (x : EndOfLink). AreInTouch x other → at grant_label grant.label x.port.grants ≡ Some grant → number_of x.port < last_number → TouchOn x other (given_back (working instances x) grant))
    (λ setup side tally s grants said t f l. return_on setup side tally s grants said other t instances grant f l) one touch.one_end.in_session touch found left

pub frees_keep_touch : FreesKeepTouch
frees_keep_touch instances one other label touch held quit =
    by_session (λ (x : EndOfLink). AreInTouch x other → label_at x.port label.number ≡ Some label → TouchOn x other (done x.setup (working instances x) (label_tree x.setup label.number)))
    (λ setup side tally s grants said t h. free_on setup side tally s grants said other t instances label h quit) one touch.one_end.in_session touch held

pub nudges_keep_touch : NudgesKeepTouch
nudges_keep_touch instances one other touch left =
    by_session (λ (x : EndOfLink). AreInTouch x other → number_of x.port < last_number → TouchOn x other (nudges x.setup (working instances x)))
    (λ setup side tally s grants said t l. nudge_on setup side tally s grants said other t instances l) one touch.one_end.in_session touch left

pub greetings_keep_touch : GreetingsKeepTouch
greetings_keep_touch one other touch =
    by_session (λ (x : EndOfLink). AreInTouch x other → AreInTouch (record x { said = x.said ++ ack_from x other (expected_of x.port) ∷ [] }) other)
    (λ setup side tally s grants said t. greeting_said setup side tally s grants said other t) one touch.one_end.in_session touch
