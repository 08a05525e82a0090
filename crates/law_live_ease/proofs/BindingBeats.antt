-- a network that binds throughout a calm beat

use Rattle.std.proofs.Common.{◌≡◌, true, List, [], ◌∷◌, ◌++◌, append_assoc, map, sym, ◌∙◌, ap, subst}
use Rattle.std.specs.List.{list_all}
use Rattle.world_model.specs.Words.{Policy, Place, Topology, World, tick_of_all, world_after, IsRun, IsTame, past_of}
use Rattle.world_model.specs.World.{opened}
use Rattle.world_model.specs.network_model.declared.event.Event.{Event}
use Rattle.world_model.specs.network_model.declared.event.Event.TheVariants.{Carry}
use Rattle.live_model.specs.Beats.{Beat, events_in, is_sending}
use Rattle.law_live_journeys.specs.law_live_hearing.Law.{world_at}
use Rattle.law_live_journeys.proofs.law_live_hearing.Going.{after_all}
use Rattle.law_live_ease.specs.Law.{Binds, IsCalmEvent}
use Rattle.law_live_ease.specs.Beats.{AreCalmEvents, IsCalmBeat}
use Rattle.law_live_ease.specs.Binding.{IsCalmStretch, StretchesBindOn, BeatsBindOn}

-- *What is carried and sent* behind the ticks
carries_send : (places : List Place) (events : List Event) → list_all is_sending events ≡ true → list_all is_sending (map Carry places ++ events) ≡ true
carries_send [] events sends = sends
carries_send (place ∷ places) events sends = carries_send places events sends

module _ (policy : Policy) (topology : Topology) (before : List Event) (beat : Beat) (c : IsCalmBeat policy topology before beat) where
  abbrev w : World
  w = world_at policy topology before

  abbrev ticked : List Event
  ticked = tick_of_all w

  abbrev sent : List Event
  sent = map Carry beat.carries ++ beat.sending

  parts : events_in w beat ≡ ticked ++ sent
  parts = append_assoc ticked (map Carry beat.carries) beat.sending

  split : before ++ events_in w beat ≡ (before ++ ticked) ++ sent
  split = ap (λ (es : List Event). before ++ es) parts ∙ sym (append_assoc before ticked sent)

  behind_ticks : world_at policy topology (before ++ ticked) ≡ world_after topology w ticked
  behind_ticks = after_all topology (opened policy topology) before ticked

  calm : AreCalmEvents topology (world_after topology w ticked) sent
  calm front rest event e = subst (λ (x : World). IsCalmEvent topology x event) (after_all topology w ticked front)
      (c.calm (ticked ++ front) rest event (parts ∙ (ap (λ (es : List Event). ticked ++ es) e ∙ sym (append_assoc ticked front (event ∷ rest)))))

  stretch : IsCalmStretch policy topology (before ++ ticked) sent
  stretch = record {
    run = subst (IsRun policy topology) split c.run;
    addresses = c.addresses;
    tame = subst (λ (es : List Event). IsTame (past_of policy topology es).records) split c.tame;
    sends = carries_send beat.carries beat.sending c.is_beat.sends;
    calm = subst (λ (x : World). AreCalmEvents topology x sent) (sym behind_ticks) calm;
  }

  binds_through : StretchesBindOn → Binds topology (world_after topology w ticked) → (front rest : List Event) → sent ≡ front ++ rest
      → Binds topology (world_after topology (world_after topology w ticked) front)
  binds_through stretches b front rest e = subst (λ (x : World). Binds topology (world_after topology x front)) behind_ticks
      (stretches policy topology (before ++ ticked) sent stretch (subst (Binds topology) (sym behind_ticks) b) front rest e)

pub beats_bind_on : StretchesBindOn → BeatsBindOn
beats_bind_on stretches policy topology before beat c b = binds_through policy topology before beat c stretches b
