-- a join lasts from beat to beat of a lasting peace, and switches lead so behind each

use Rattle.std.proofs.Common.{◌≡◌, List, [], ◌∷◌, ◌++◌, append-nil, sym, ◌∙◌, ap, subst}
use Rattle.world_model.specs.Words.{Down, World, site_at, queue_at, is_empty, IsNode}
use Rattle.world_model.specs.network_model.declared.event.Event.{Event}
use Rattle.live_model.specs.Beats.{settling, settled}
use Rattle.law_live_brought.proofs.law_run_facts.Nodes.{runs_have_nodes}
use Rattle.law_live_brought.specs.law_true_runs.Runs.{HoldsInRuns, IsWhole}
use Rattle.law_live_brought.specs.law_live_hearing.Law.{world_at}
use Rattle.law_live_brought.proofs.law_live_hearing.Places.{down_empty}
use Rattle.law_live_brought.proofs.law_live_desks.Sites.{stands_in}
use Rattle.law_live_brought.proofs.law_live_lasting.Desks.{is_now, of_peace, none_stands}
use Rattle.law_live_brought.proofs.law_live_lasting.Lasts.{lasting_peace_lasts}
use Rattle.law_live_joining_beats.specs.Law.{HoldsJoin, JoinsStay, JoinsLast, LabelsAreJoinedInABeat, SwitchesLeadBehindABeat}
use Rattle.law_live_joining_beats.proofs.Beats.{joins_stay_so, joined_behind}
use Rattle.law_live_joining_beats.proofs.Switches.{switches_lead}

pub joins_stay : HoldsInRuns IsWhole → JoinsStay
joins_stay whole policy topology before beat node flow join p b h = joins_stay_so whole policy topology before beat p.peace (of_peace whole policy topology before beat p b) node flow join h

pub labels_are_joined : HoldsInRuns IsWhole → LabelsAreJoinedInABeat
labels_are_joined whole policy topology before beat node site label join p b found can =
    joined_behind whole policy topology before beat p.peace (of_peace whole policy topology before beat p b) node site found label join can

-- *Beat by beat*
pub joins_last : HoldsInRuns IsWhole → JoinsLast
joins_last whole policy topology before [] node flow join p are h = h
joins_last whole policy topology before (beat ∷ beats) node flow join p are h =
    let w : World = world_at policy topology before in
    let next_one : List Event = before ++ settling w beat in
    joins_last whole policy topology next_one beats node flow join
    (lasting_peace_lasts whole policy topology before (beat ∷ []) p (are.0, tt))
    are.1
    (subst (λ (v : World). HoldsJoin v node flow join) (sym (is_now whole policy topology before beat p are.0 (settling w beat)))
    (joins_stay whole policy topology before beat node flow join p are.0 h (settling w beat) [] (sym (append-nil (settling w beat)))))

-- *At rest behind it* nothing stands, and nothing is on its way
pub lead_behind : HoldsInRuns IsWhole → SwitchesLeadBehindABeat
lead_behind whole policy topology before beat node site flow join p b found mirrored labels held =
    switches_lead (settled topology w beat) node site flow join found mirrored empty nothing labels held
  where
    w : World
    w = world_at policy topology before

    at_end : world_at policy topology (before ++ settling w beat) ≡ settled topology w beat
    at_end = is_now whole policy topology before beat p b (settling w beat)

    inside : IsNode topology node
    inside = (runs_have_nodes policy topology (before ++ settling w beat) b.addresses b.run node site (ap (λ (v : World). site_at v node) at_end ∙ found)).is_node.number

    empty : queue_at (settled topology w beat) (Down node) ≡ []
    empty = subst (λ (v : World). queue_at v (Down node) ≡ []) at_end (down_empty policy topology b.run.topology_is (before ++ settling w beat) node inside (ap is_empty at_end ∙ b.settles))

    nothing : site.controller.desk.standing ≡ []
    nothing = sym (ap stands_in found) ∙ none_stands whole policy topology before beat p b node inside
