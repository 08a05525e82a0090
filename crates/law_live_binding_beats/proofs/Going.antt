-- carries one by one, and rest

use Rattle.std.proofs.Common.{◌≡◌, List, [], ◌∷◌, refl, ap, subst}
use Rattle.world_model.specs.Words.{Addr, Mark, Frame, Place, World, next}
use Rattle.world_model.specs.ifmp_wire.declared.message.Message.{Message}
use Rattle.world_model.specs.network_model.declared.link.LinkEnd.{LinkEnd}
use Rattle.world_model.specs.network_model.declared.event.Event.TheVariants.{Carry}
use Rattle.law_live_asking.specs.law_live_worlds.Law.{end_of}
use Rattle.law_live_asking.specs.law_live_orders.Law.{coming}
use Rattle.law_live_asking.specs.law_live_orders.Messages.{AreSaid, none}
use Rattle.law_live_bindings.specs.Law.{AreBinding}
use Rattle.law_live_asking.specs.law_live_bound.Worlds.{BindIn}
use Rattle.law_live_asking.proofs.law_live_bound.Worlds.{bound_worlds_agree}
use Rattle.law_live_binding_beats.specs.Law.{BindByQueues, CarriesBindOn, StillEndsAgree}
use Rattle.law_live_binding_beats.proofs.Steps.{carry_binds}

pub carries_bind_on : CarriesBindOn
carries_bind_on topology w one far [] is ends each = ends
carries_bind_on topology w one far (place ∷ places) is ends each =
    carries_bind_on topology (next topology w (Carry place)) one far places is (carry_binds topology is w one far ends place (each [] places place refl ends))
    (λ front rest later e. each (place ∷ front) rest later (ap (λ (ps : List Place). place ∷ ps) e))

-- *Nothing on its way* says nothing
none_said : (address : Addr) (frames : List Frame) (marks : List Mark) (messages : List Message) → marks ≡ [] → AreSaid address frames marks messages → messages ≡ []
none_said address frames marks messages e said = by messages (subst (λ (ms : List Mark). AreSaid address frames ms messages) e said)
  where
    by : (xs : List Message) → AreSaid address frames [] xs → xs ≡ []
    by [] none = refl
    by (x ∷ xs) given = elim given [ ]

-- *At rest*
abbrev at_rest : (w : World) (one far : LinkEnd) (ends : BindByQueues w one far) → ends.said ≡ [] → ends.far_said ≡ [] → BindIn w one far [] []
at_rest w one far ends empty far_empty = record {
  linked = ends.bind.linked;
  far_linked = ends.bind.far_linked;
  shows = ends.bind.shows;
  far_shows = ends.bind.far_shows;
  binding = subst (λ (ms : List Message). AreBinding (end_of ends.bind.linked []) (end_of ends.bind.far_linked ms)) far_empty
      (subst (λ (ms : List Message). AreBinding (end_of ends.bind.linked ms) (end_of ends.bind.far_linked ends.far_said)) empty ends.bind.binding);
}

pub still_ends_agree : StillEndsAgree
still_ends_agree w one far ends still = bound_worlds_agree w one far
    (at_rest w one far ends
    (none_said ends.bind.shows.site.controller.address w.notes.frames (coming w one far) ends.said still.empty ends.there)
    (none_said ends.bind.far_shows.site.controller.address w.notes.frames (coming w far one) ends.far_said still.far_empty ends.back))
    (still.none_wires ends.bind.linked ends.bind.shows) (still.far_none_wires ends.bind.far_linked ends.bind.far_shows)
