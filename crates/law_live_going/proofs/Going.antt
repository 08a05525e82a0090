-- carries one by one, and what is on its way both ways

use Rattle.std.proofs.Common.{◌≡◌, ◌⊎◌, inl, inr, ◌<◌, ◌^◌, List, [], ◌∷◌, ◌++◌, map, refl, sym, ◌∙◌, ap, subst}
use Rattle.world_model.specs.Words.{NodeId, Addr, Place, Up, Mark, Frame, Topology, World, IsTopology, next, world_after}
use Rattle.world_model.specs.ifmp_wire.declared.message.Message.{Message}
use Rattle.world_model.specs.network_model.declared.link.LinkEnd.{LinkEnd}
use Rattle.world_model.specs.network_model.declared.event.Event.TheVariants.{Carry}
use Rattle.law_passing.specs.ordered_lists.Ordered.{Every}
use Rattle.law_causes.proofs.Shown.{peer_back}
use Rattle.law_live_arrivals.specs.Law.{PortHears}
use Rattle.law_live_elsewhere.specs.Law.{IsElsewhere}
use Rattle.law_live_rests.specs.Law.{StaysAlike, Go, ended, elsewhere, heard, heard_back, alike}
use Rattle.law_live_orders.specs.Law.{coming}
use Rattle.law_live_orders.specs.Messages.{AreSaid, none, AreComing}
use Rattle.law_live_going.specs.Law.{IsWritten, IsCalmCarry, CarriesGo}
use Rattle.law_live_going.proofs.Steps.{Went, leaves, brings, way_goes}

-- *Nothing on its way* says nothing
none_said : (address : Addr) (frames : List Frame) (messages : List Message) → AreSaid address frames [] messages → messages ≡ []
none_said address frames [] none = refl
none_said address frames (message ∷ messages) said = elim said [ ]

ends_with : (address : Addr) (frames : List Frame) (marks : List Mark) (messages : List Message) → marks ≡ [] → AreSaid address frames marks messages → messages ≡ []
ends_with address frames marks messages e said = none_said address frames messages (subst (λ (ms : List Mark). AreSaid address frames ms messages) e said)

one_node : (a b : NodeId) → Up a ≡ Up b → a.0 ≡ b.0
one_node a b e = (let same : a ≡ b = cc in ap (λ (n : NodeId). n.0) same)

module _ (topology : Topology) (is : IsTopology topology) (one far : LinkEnd) (address far_address : Addr) (low : address.0 < 2 ^ 32) (far_low : far_address.0 < 2 ^ 32) where
  abbrev AreCalm : World → List Place → Type 0
  AreCalm w places = (front rest : List Place) (place : Place) → places ≡ front ++ place ∷ rest
      → IsCalmCarry topology (world_after topology w (map Carry front)) one far address far_address place

  -- the rest goes, whatever is on its way then
  abbrev Rest : World → List Place → Type 0
  Rest v places = (said far_said : List Message) → Every IsWritten said → Every IsWritten far_said → AreComing address v one far said → AreComing far_address v far one far_said
      → Go topology one far v (map Carry places) said far_said

  module _ (w : World) (place : Place) (places : List Place) (calm : IsCalmCarry topology w one far address far_address place) (rest : Rest (next topology w (Carry place)) places)
      (said far_said : List Message) (written : Every IsWritten said) (far_written : Every IsWritten far_said) where
    abbrev Goes : Type 0
    Goes = Go topology one far w (Carry place ∷ map Carry places) said far_said

    both_left : AreComing address (next topology w (Carry place)) one far said → AreComing far_address (next topology w (Carry place)) far one far_said
        → IsElsewhere w one far place ⊎ (StaysAlike w (next topology w (Carry place)) one × StaysAlike w (next topology w (Carry place)) far) → Goes
    both_left a b (inl away) = elsewhere place away (rest said far_said written far_written a b)
    both_left a b (inr same) = alike place same.0 same.1 (rest said far_said written far_written a b)

    one_goes : Went topology w one far place address said → Went topology w far one place far_address far_said → Goes
    one_goes (leaves no_message a) (leaves no_answer b) = both_left a b (calm.alike no_answer no_message)
    one_goes (brings message later are at hears a) (leaves no_answer b) =
        subst (λ (ms : List Message). Go topology one far w (Carry place ∷ map Carry places) ms far_said) (sym are)
        (subst (λ (p : Place). Go topology one far (next topology w (Carry p)) (map Carry places) later far_said → Go topology one far w (Carry p ∷ map Carry places) (message ∷ later) far_said) (sym at)
        (λ go. heard message (subst (λ (from : Addr). PortHears topology w far from message) (sym calm.goes_by) hears) go)
        (rest later far_said (subst (Every IsWritten) are written).1 far_written a b))
    one_goes (leaves no_message a) (brings message later are at hears b) =
        subst (λ (ms : List Message). Go topology one far w (Carry place ∷ map Carry places) said ms) (sym are)
        (subst (λ (p : Place). Go topology one far (next topology w (Carry p)) (map Carry places) said later → Go topology one far w (Carry p ∷ map Carry places) said (message ∷ later)) (sym at)
        (λ go. heard_back message (subst (λ (from : Addr). PortHears topology w one from message) (sym calm.far_goes_by) hears) go)
        (rest said later written (subst (Every IsWritten) are far_written).1 a b))
    one_goes (brings message later are at hears a) (brings other far_later far_are far_at far_hears b) =
        absurd ((peer_back topology is one far calm.there.is_open.linked).apart (one_node far.node one.node (sym at ∙ far_at)))

  go : (places : List Place) (w : World) → AreCalm w places → coming (world_after topology w (map Carry places)) one far ≡ [] → coming (world_after topology w (map Carry places)) far one ≡ [] → Rest w places
  go [] w calm empty far_empty said far_said written far_written a b =
      subst (λ (ms : List Message). Go topology one far w [] ms far_said) (sym (ends_with address w.notes.frames (coming w one far) said empty a))
      (subst (λ (ms : List Message). Go topology one far w [] [] ms) (sym (ends_with far_address w.notes.frames (coming w far one) far_said far_empty b)) ended)
  go (place ∷ places) w calm empty far_empty said far_said written far_written a b =
      let c : IsCalmCarry topology w one far address far_address place = calm [] places place refl in
      one_goes w place places c
      (go places (next topology w (Carry place)) (λ front rest later e. calm (place ∷ front) rest later (ap (λ (ps : List Place). place ∷ ps) e)) empty far_empty)
      said far_said written far_written
      (way_goes topology is w one far address low c.goes_by said written a place c.there c.far_end)
      (way_goes topology is w far one far_address far_low c.far_goes_by far_said far_written b place c.back c.near)

pub carries_go : CarriesGo
carries_go topology w one far places address far_address said far_said is low far_low written far_written calm a b empty far_empty =
    go topology is one far address far_address low far_low places w calm empty far_empty said far_said written far_written a b
