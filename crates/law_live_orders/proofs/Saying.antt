-- the messages in the frames that come

use Rattle.std.proofs.Common.{◌≡◌, ◌⊎◌, inl, inr, List, [], ◌∷◌, ◌++◌, refl, subst}
use Rattle.world_model.specs.Words.{Addr, Mark, Frame, default_payload, ifmp_packet_of, World}
use Rattle.world_model.specs.ifmp_wire.Message.{octets_of as ifmp_octets}
use Rattle.world_model.specs.ifmp_wire.declared.message.Message.{Message}
use Rattle.world_model.specs.network_model.declared.link.LinkEnd.{LinkEnd}
use Rattle.law_live_orders.specs.Law.{coming}
use Rattle.law_live_orders.specs.Messages.{AreSaid, none, says, passed, StayMade, SayingsStay, IsFirst, IsPassed}

-- *They stay*
pub sayings_stay : SayingsStay
sayings_stay address before after [] messages stay none = none
sayings_stay address before after (mark ∷ marks) (message ∷ messages) stay (says own said is later) =
    says own said (stay.0 (default_payload (ifmp_packet_of address (ifmp_octets said))) is) (sayings_stay address before after marks messages stay.1 later)
sayings_stay address before after (mark ∷ marks) messages stay (passed own is later) =
    passed own (record { payload = is.payload; made = stay.0 is.payload is.made; no_message = is.no_message }) (sayings_stay address before after marks messages stay.1 later)

-- *One behind another*
pub said_join : (address : Addr) (frames : List Frame) (xs ys : List Mark) (ms ns : List Message) → AreSaid address frames xs ms → AreSaid address frames ys ns
    → AreSaid address frames (xs ++ ys) (ms ++ ns)
said_join address frames [] ys ms ns none more = more
said_join address frames (mark ∷ xs) ys (message ∷ ms) ns (says own said is later) more = says own said is (said_join address frames xs ys ms ns later more)
said_join address frames (mark ∷ xs) ys ms ns (passed own is later) more = passed own is (said_join address frames xs ys ms ns later more)

-- *The first*
pub first_said : (address : Addr) (w v : World) (one far : LinkEnd) (marks : List Mark) (mark : Mark) (messages : List Message) → marks ≡ coming v one far
    → StayMade w.notes.frames v.notes.frames (mark ∷ marks) → AreSaid address w.notes.frames (mark ∷ marks) messages
    → IsFirst address w v one far mark messages ⊎ IsPassed address w v one far mark messages
first_said address w v one far marks mark (message ∷ messages) e stay (says own said is later) = inl (record {
  message = message;
  rest = messages;
  are = refl;
  says = is;
  later = subst (λ (ms : List Mark). AreSaid address v.notes.frames ms messages) e (sayings_stay address w.notes.frames v.notes.frames marks messages stay.1 later);
})
first_said address w v one far marks mark messages e stay (passed own is later) = inr (record {
  holds_none = is;
  later = subst (λ (ms : List Mark). AreSaid address v.notes.frames ms messages) e (sayings_stay address w.notes.frames v.notes.frames marks messages stay.1 later);
})
