-- a calm beat of a network at ease, from its ticks to its end

use Rattle.std.proofs.Common.{◌≡◌, ◌∙◌, List, [], ◌∷◌, ◌++◌, append-nil, append_assoc, map, sym, ap, subst}
use Rattle.world_model.specs.Words.{NodeId, Policy, Topology, World, is_empty, tick_of_all, world_after}
use Rattle.world_model.specs.World.{opened}
use Rattle.world_model.specs.network_model.declared.event.Event.{Event}
use Rattle.world_model.specs.network_model.declared.event.Event.TheVariants.{Carry}
use Rattle.live_model.specs.Beats.{Beat, events_in, behind}
use Rattle.law_live_journeys.specs.law_live_hearing.Law.{world_at}
use Rattle.law_live_journeys.proofs.law_live_hearing.Going.{after_all}
use Rattle.law_live_ease.specs.Law.{IsAtEase, Binds}
use Rattle.law_live_ease.specs.Beats.{IsCalmBeat}
use Rattle.law_live_ease.specs.Ticks.{TicksBind}
use Rattle.law_live_ease.specs.Binding.{BeatsBindOn}
use Rattle.law_live_ease.specs.Settling.{BindingNetworksRest, BindsThroughout, BeatsAreHeard, HasHeard}
use Rattle.law_live_ease.specs.AtEase.{BeatsKeepEase, EaseLasts}

module _ (ticks : TicksBind) (binds_on : BeatsBindOn) (rests : BindingNetworksRest) (are_heard : BeatsAreHeard)
    (policy : Policy) (topology : Topology) (before : List Event) (beat : Beat) where
  abbrev w : World
  w = world_at policy topology before

  abbrev behind_ticks : World
  behind_ticks = world_after topology w (tick_of_all w)

  abbrev sent : List Event
  sent = map Carry beat.carries ++ beat.sending

  module _ (ease : IsAtEase topology w) (calm : IsCalmBeat policy topology before beat) where
    throughout : BindsThroughout policy topology before beat
    throughout = binds_on policy topology before beat calm (ticks policy topology before beat ease calm)

    -- the world behind the whole beat
    is_behind : world_after topology behind_ticks sent ≡ behind topology w beat
    is_behind = sym (after_all topology w (tick_of_all w) sent)
        ∙ ap (world_after topology w) (sym (append_assoc (tick_of_all w) (map Carry beat.carries) beat.sending))

    is_now : world_at policy topology (before ++ events_in w beat) ≡ behind topology w beat
    is_now = after_all topology (opened policy topology) before (events_in w beat)

    binds : Binds topology (behind topology w beat)
    binds = subst (Binds topology) is_behind (throughout sent [] (sym (append-nil sent)))

    heard : (node : NodeId) → HasHeard (behind topology w beat) node
    heard = are_heard policy topology before beat ease calm throughout

    at_ease : IsAtEase topology (world_at policy topology (before ++ events_in w beat))
    at_ease = rests policy topology (before ++ events_in w beat) calm.run calm.addresses calm.tame (subst (Binds topology) (sym is_now) binds)
        (ap is_empty is_now ∙ calm.is_beat.empties) (λ node. subst (λ (v : World). HasHeard v node) (sym is_now) (heard node))

pub beats_keep_ease : TicksBind → BeatsBindOn → BindingNetworksRest → BeatsAreHeard → BeatsKeepEase
beats_keep_ease ticks binds_on rests are_heard policy topology before beat ease calm = at_ease ticks binds_on rests are_heard policy topology before beat ease calm

pub ease_lasts : BeatsKeepEase → EaseLasts
ease_lasts keep policy topology before [] ease are = ease
ease_lasts keep policy topology before (beat ∷ beats) ease are =
    ease_lasts keep policy topology (before ++ events_in (world_at policy topology before) beat) beats (keep policy topology before beat ease are.0) are.1
