-- along a calm stretch of a network that binds what is held stays, no label is joined, and no grant is lent

use Rattle.std.proofs.Common.{◌≡◌, List, ◌∷◌, ◌++◌, append_assoc, Some, sym, ◌∙◌, ap, subst}
use Rattle.std.specs.List.{list_all}
use Rattle.world_model.specs.Words.{Policy, ByInput, Linked, linked_end, Topology, World, site_at, next, world_after, IsRun}
use Rattle.world_model.specs.Topology.{peer_of}
use Rattle.world_model.specs.network_model.declared.link.LinkEnd.{LinkEnd}
use Rattle.world_model.specs.network_model.declared.event.Event.{Event}
use Rattle.live_model.specs.Beats.{is_sending}
use Rattle.law_live_ease.specs.law_true_runs.Runs.{HoldsInRuns, IsWhole}
use Rattle.law_live_ease.proofs.law_run_facts.Nodes.{runs_have_nodes}
use Rattle.law_live_ease.proofs.law_run_facts.Steps.{front_run}
use Rattle.law_live_ease.specs.law_live_hearing.Law.{world_at}
use Rattle.law_live_ease.proofs.law_live_calm_nodes.Parts.{along}
use Rattle.law_live_ease.proofs.law_live_calm_nodes.Events as events
use Rattle.law_live_ease.proofs.law_live_calm_nodes.Control.{HasPeer, has_peer}
use Rattle.law_live_ease.specs.law_live_binding_beats.Law.{BindByQueues}
use Rattle.law_live_ease.specs.Law.{Binds, IsCalmEvent}
use Rattle.law_live_ease.specs.Binding.{IsCalmStretch, StretchesBindOn}
use Rattle.law_live_ease.proofs.BindingStretches.{is_sent}
use Rattle.law_live_cut_through.specs.Law.{HoldsLabel, HoldsGrant}
use Rattle.law_live_cut_through.specs.Stretches.{StretchesKeepLabels, StretchesKeepGrants, StretchesJoinNone, StretchesLendNone}
use Rattle.law_live_cut_through.proofs.LabelsEvents.{sent_keeps}
use Rattle.law_live_cut_through.proofs.LabelsHolding.{IsShown, is_shown, shown_by, AllStay, all_itself, all_on, all_nodes, labels_stay, labels_were, grants_stay, grants_were}

-- *A port was there* before
record WasThere (w : World) (end : LinkEnd) : Type 0 where
  linked : Linked
  shown : linked_end w end ≡ Some linked

module _ (whole : HoldsInRuns IsWhole) (bind_on : StretchesBindOn) (policy : Policy) (topology : Topology) (before all : List Event)
    (s : IsCalmStretch policy topology before all) (binds : Binds topology (world_at policy topology before)) where
  abbrev w : World
  w = world_at policy topology before

  abbrev GoesOn : Event → World → Type 0
  GoesOn event x = Binds topology x → IsCalmEvent topology x event → AllStay x (next topology x event)

  -- *Event by event*
  module _ (front rest : List Event) (event : Event) (e : all ≡ front ++ event ∷ rest) where
    step_there : GoesOn event (world_at policy topology (before ++ front))
    step_there b calm = all_nodes (world_at policy topology (before ++ front)) (next topology (world_at policy topology (before ++ front)) event) (λ node site found.
        sent_keeps policy topology (before ++ front) (events.world whole policy topology before all s.run s.addresses s.tame front rest event e) b node site found event
        (is_sent front rest event (ap (list_all is_sending) (sym e) ∙ s.sends))
        (events.comes whole policy topology before all s.run s.addresses s.tame front rest event e) calm)

    step : AllStay w (world_after topology w front) → AllStay w (next topology (world_after topology w front) event)
    step so_far = all_on w (world_after topology w front) (next topology (world_after topology w front) event) so_far
        (subst (GoesOn event) (events.now_is whole policy topology before all s.run s.addresses s.tame front) step_there
        (bind_on policy topology before all s binds front (event ∷ rest) e) (s.calm front rest event e))

  all_stay : (front rest : List Event) → all ≡ front ++ rest → AllStay w (world_after topology w front)
  all_stay = along topology (AllStay w) all w (all_itself w) step

  -- *Each port* that is there behind a front of it was there
  module _ (front rest : List Event) (e : all ≡ front ++ rest) where
    abbrev v : World
    v = world_after topology w front

    front_runs : IsRun policy topology (before ++ front)
    front_runs = front_run policy topology (before ++ front) rest
        (subst (IsRun policy topology) (ap (λ (es : List Event). before ++ es) e ∙ sym (append_assoc before front rest)) s.run)

    at_link : (end : LinkEnd) → HasPeer (peer_of topology end.node end.port) → WasThere w end
    at_link end peer = (let b : BindByQueues w end peer.far = (binds.links end peer.far peer.is).ends in
        record { linked = b.bind.linked; shown = shown_by w end b.bind.linked b.bind.shows.site b.bind.shows.there b.bind.shows.of_port })

    was_there : (end : LinkEnd) (linked : Linked) → linked_end v end ≡ Some linked → WasThere w end
    was_there end linked shown = by (is_shown v end linked shown)
      where
        by : IsShown (world_after topology (world_at policy topology before) front) end linked → WasThere (world_at policy topology before) end
        by is = at_link end (has_peer (peer_of topology end.node end.port)
            ((runs_have_nodes policy topology (before ++ front) s.addresses front_runs end.node is.site
            (ap (λ (x : World). site_at x end.node) (events.now_is whole policy topology before all s.run s.addresses s.tame front) ∙ is.there)).ports.linked end.port linked is.of_port))

pub stretches_keep_labels : HoldsInRuns IsWhole → StretchesBindOn → StretchesKeepLabels
stretches_keep_labels whole bind_on policy topology before all s binds front rest e end number flow join h =
    labels_stay (world_at policy topology before) (world_after topology (world_at policy topology before) front) (all_stay whole bind_on policy topology before all s binds front rest e) end number flow join h

pub stretches_keep_grants : HoldsInRuns IsWhole → StretchesBindOn → StretchesKeepGrants
stretches_keep_grants whole bind_on policy topology before all s binds front rest e end number flow state h =
    grants_stay (world_at policy topology before) (world_after topology (world_at policy topology before) front) (all_stay whole bind_on policy topology before all s binds front rest e) end number flow state h

pub stretches_join_none : HoldsInRuns IsWhole → StretchesBindOn → StretchesJoinNone
stretches_join_none whole bind_on policy topology before all s binds front rest e end number flow output h = by (was_there whole bind_on policy topology before all s binds front rest e end h.linked h.shown)
  where
    by : WasThere (world_at policy topology before) end → HoldsLabel (world_at policy topology before) end number flow (Some output)
    by was = labels_were (world_at policy topology before) (world_after topology (world_at policy topology before) front) (all_stay whole bind_on policy topology before all s binds front rest e)
        end number flow output was.linked was.shown h

pub stretches_lend_none : HoldsInRuns IsWhole → StretchesBindOn → StretchesLendNone
stretches_lend_none whole bind_on policy topology before all s binds front rest e end number flow input h = by (was_there whole bind_on policy topology before all s binds front rest e end h.linked h.shown)
  where
    by : WasThere (world_at policy topology before) end → HoldsGrant (world_at policy topology before) end number flow (ByInput input)
    by was = grants_were (world_at policy topology before) (world_after topology (world_at policy topology before) front) (all_stay whole bind_on policy topology before all s binds front rest e)
        end number flow input was.linked was.shown h
