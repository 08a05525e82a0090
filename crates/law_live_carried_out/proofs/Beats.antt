-- through the carries of a mirrored beat: each is in peace as it comes, so the network goes on, and what is asked is carried out

use Rattle.std.proofs.Common.{◌≡◌, ◌⊎◌, inl, inr, false, ℕ, ◌≤◌, ◌≢◌, ◌<◌, List, [], ◌∷◌, ◌++◌, append_assoc, map, Some, refl, sym, ◌∙◌, ap, subst, arith}
use Rattle.world_model.specs.Words.{NodeId, Policy, Place, State, is_clearing, at, last_transaction, Linked, port_key, linked_at, Topology, World, Site, site_at, next, tick_of_all, world_after, IsNode, IsRun, past_of}
use Rattle.world_model.specs.Topology.{peer_of}
use Rattle.world_model.specs.network_model.declared.link.LinkEnd.{LinkEnd}
use Rattle.world_model.specs.network_model.declared.event.Event.{Event}
use Rattle.world_model.specs.network_model.declared.event.Event.TheVariants.{Carry}
use Rattle.live_model.specs.Beats.{Beat}
use Rattle.law_live_joining_beats.proofs.law_port_facts.ordered_lists.Every.{every_map}
use Rattle.law_live_joining_beats.specs.law_run_facts.law_world_views.Between.{setups_of}
use Rattle.law_live_joining_beats.specs.law_run_facts.Nodes.{IsNodeOfRun}
use Rattle.law_live_joining_beats.proofs.law_run_facts.Nodes.{runs_have_nodes}
use Rattle.law_live_joining_beats.proofs.law_run_facts.Steps.{front_run}
use Rattle.law_live_joining_beats.specs.law_true_runs.Runs.{HoldsInRuns, IsWhole}
use Rattle.law_live_joining_beats.specs.law_live_hearing.Law.{world_at}
use Rattle.law_live_joining_beats.proofs.law_live_hearing.Going.{after_all}
use Rattle.law_live_joining_beats.specs.law_live_control_links.Law.{IsUnspentAt, CarriesOutNext}
use Rattle.law_live_joining_beats.specs.law_live_calm_nodes.Nodes.{Throughout}
use Rattle.law_live_joining_beats.specs.law_live_calm_nodes.Ports.{IsPortUp}
use Rattle.law_live_joining_beats.proofs.law_live_calm_nodes.Parts.{along}
use Rattle.law_live_joining_beats.proofs.law_live_calm_nodes.Events as events
use Rattle.law_live_joining_beats.proofs.law_live_calm_nodes.Ports.{agreed_ports_are_up, ports_found}
use Rattle.law_live_joining_beats.proofs.law_live_calm_nodes.Control.{IsInFirst, IsInSecond, split_front, IsCarry, carries, is_carry, HasPeer, has_peer}
use Rattle.law_live_joining_beats.specs.law_live_mirrored_worlds.Law.{IsCalmlyMirrored, CarriesOut}
use Rattle.law_live_joining_beats.proofs.law_live_mirrored_worlds.Stretches.{stretches_carry_out}
use Rattle.law_live_joining_beats.specs.law_live_asking.Going.{IsLinkGoing, IsGoing, IsReadyNode, IsCarryInPeace, GoesOnBehind}
use Rattle.law_live_joining_beats.proofs.law_live_asking.Going.{carries_in_peace_go_on}
use Rattle.law_live_carried_out.specs.Law.{IsSteadyNode, IsMirroredPeace, IsMirroredBeat, BeatsCarryOut}
use Rattle.law_live_carried_out.proofs.Ticks.{is_now}
use Rattle.law_live_carried_out.proofs.Going.{mirrored_in_ticks, going}

none_first : (front rest : List Event) (event : Event) → [] ≡ front ++ event ∷ rest → ⊥
none_first [] rest event e = absurd (cc e)
none_first (x ∷ front) rest event e = absurd (cc e)

number_left : (n : ℕ) → n ≤ last_transaction → n ≢ last_transaction → n < last_transaction
number_left n most apart = by last_transaction most apart
  where
    by : (k : ℕ) → n ≤ k → n ≢ k → n < k
    by k less other = omega (arith, less, other)

one_site : (a b : Site) → Some a ≡ Some b → a ≡ b
one_site a b e = cc

one_linked : (a b : Linked) → Some a ≡ Some b → a ≡ b
one_linked a b e = cc

module _ (whole : HoldsInRuns IsWhole) (policy : Policy) (topology : Topology) (before : List Event) (beat : Beat)
    (m : IsMirroredPeace topology (world_at policy topology before)) (b : IsMirroredBeat policy topology before beat) where
  abbrev w : World
  w = world_at policy topology before

  abbrev ticked : List Event
  ticked = tick_of_all w

  abbrev all : List Event
  all = ticked ++ map Carry beat.carries

  abbrev u : World
  u = world_after topology w ticked

  at_carry : (front : List Event) → world_after topology w (ticked ++ front) ≡ world_after topology u front
  at_carry front = after_all topology w ticked front

  node_of_run : (front rest : List Event) → all ≡ front ++ rest → (node : NodeId) (site : Site) → site_at (world_after topology w front) node ≡ Some site
      → IsNodeOfRun policy (past_of policy topology (before ++ front)) node site
  node_of_run front rest e node site found = runs_have_nodes policy topology (before ++ front) b.addresses
      (front_run policy topology (before ++ front) rest (subst (IsRun policy topology) (ap (λ (es : List Event). before ++ es) e ∙ sym (append_assoc before front rest)) b.run)) node site
      (ap (λ (v : World). site_at v node) (is_now whole policy topology before beat m b front) ∙ found)

  -- *While the network goes on* no port is in Clearing, so each node is ready
  module _ (front rest : List Event) (e : all ≡ front ++ rest) (g : IsGoing topology (world_after topology w front)) (node : NodeId) (site : Site)
      (found : site_at (world_after topology w front) node ≡ Some site) where
    abbrev v : World
    v = world_after topology w front

    n : IsNodeOfRun policy (past_of policy topology (before ++ front)) node site
    n = node_of_run front rest e node site found

    not_clearing : (linked : Linked) → at port_key (port_key linked) site.controller.ports ≡ Some linked → is_clearing linked.port.adjacency.state ≡ false
    not_clearing linked own =
        let one : LinkEnd = record { node = node; port = linked.setup.port } in
        let peer : HasPeer (peer_of topology node linked.setup.port) = has_peer (peer_of topology node linked.setup.port) (n.ports.linked linked.setup.port linked own) in
        let l : IsLinkGoing topology v one peer.far = g.links one peer.far peer.is in
        let up : IsPortUp v one = agreed_ports_are_up v one peer.far l.said l.far_said l.agree in
        let same : up.site ≡ site = one_site up.site site (sym up.there ∙ found) in
        let it : up.linked ≡ linked = one_linked up.linked linked (sym up.of_port ∙ (ap (λ (s : Site). linked_at s.controller linked.setup.port) same ∙ own)) in
        subst (λ (x : Linked). is_clearing x.port.adjacency.state ≡ false) it (ap (λ (s : State). is_clearing s) up.up)

    ready : IsReadyNode v site
    ready =
        let s : IsSteadyNode v site = b.steady front rest e node site found in
        record {
          known = s.known;
          number_left = number_left site.controller.desk.next n.conduct.sound.desk.room (b.unspent front rest e node site found);
          joins = s.joins;
          clear = every_map (λ (x : Linked). at port_key (port_key x) site.controller.ports ≡ Some x) (λ (x : Linked). is_clearing x.port.adjacency.state ≡ false) site.controller.ports not_clearing
              (ports_found (setups_of site.controller) site.controller n.conduct.sound.ports);
        }

  -- *Each carry* is in peace then
  module _ (front rest : List Event) (place : Place) (e : map Carry beat.carries ≡ front ++ Carry place ∷ rest) where
    at_it : all ≡ (ticked ++ front) ++ Carry place ∷ rest
    at_it = ap (λ (es : List Event). ticked ++ es) e ∙ sym (append_assoc ticked front (Carry place ∷ rest))

    at_behind : all ≡ ((ticked ++ front) ++ Carry place ∷ []) ++ rest
    at_behind = at_it ∙ sym (append_assoc (ticked ++ front) (Carry place ∷ []) rest)

    module _ (g : IsGoing topology (world_after topology w (ticked ++ front))) where
      one_carry : IsCarryInPeace topology (world_after topology w (ticked ++ front)) place
      one_carry = record {
        entries = (b.unlost (ticked ++ front) rest (Carry place) at_it).0;
        unlost = (b.unlost (ticked ++ front) rest (Carry place) at_it).1;
        others = b.others (ticked ++ front) rest (Carry place) at_it;
        ready = ready (ticked ++ front) (Carry place ∷ rest) at_it g;
        unspent = subst (λ (v : World). (node : NodeId) → IsUnspentAt v node) (after_all topology w (ticked ++ front) (Carry place ∷ []))
            (b.unspent ((ticked ++ front) ++ Carry place ∷ []) rest at_behind);
      }

      behind : GoesOnBehind topology (world_after topology w (ticked ++ front)) place
      behind = subst (λ (v : World). IsGoing topology v → IsCarryInPeace topology v place → GoesOnBehind topology v place) (is_now whole policy topology before beat m b (ticked ++ front))
          (carries_in_peace_go_on policy topology (before ++ (ticked ++ front)) place
          (events.comes whole policy topology before all b.run b.addresses b.tame (ticked ++ front) rest (Carry place) at_it)
          (events.world whole policy topology before all b.run b.addresses b.tame (ticked ++ front) rest (Carry place) at_it)) g one_carry

    goes_behind : IsGoing topology (world_after topology u front) → IsGoing topology (next topology (world_after topology u front) (Carry place))
    goes_behind g = subst (λ (v : World). IsGoing topology v → IsGoing topology (next topology v (Carry place))) (at_carry front) (λ h. (behind h).goes_on) g

  step : (front rest : List Event) (event : Event) → map Carry beat.carries ≡ front ++ event ∷ rest → IsGoing topology (world_after topology u front)
      → IsGoing topology (next topology (world_after topology u front) event)
  step front rest event e g = by event (is_carry beat.carries front rest event e) e
    where
      by : (x : Event) → IsCarry x → map Carry beat.carries ≡ front ++ x ∷ rest → IsGoing topology (next topology (world_after topology u front) x)
      by x (carries place) f = goes_behind front rest place f g

  through : (front rest : List Event) → map Carry beat.carries ≡ front ++ rest → IsGoing topology (world_after topology u front)
  through = along topology (IsGoing topology) (map Carry beat.carries) u (going whole policy topology before beat m b) step

  -- *Each node is mirrored throughout*
  pub calmly_mirrored : (node : NodeId) → IsNode topology node → Throughout topology w beat (λ v. IsCalmlyMirrored v node)
  calmly_mirrored node inside front rest e = by (split_front ticked (map Carry beat.carries) front rest e)
    where
      by : IsInFirst ticked front ⊎ IsInSecond ticked (map Carry beat.carries) front rest → IsCalmlyMirrored (world_after topology w front) node
      by (inl f) = (mirrored_in_ticks whole policy topology before beat m b node inside front f.more f.is).stays
      by (inr s) = subst (λ (v : World). IsCalmlyMirrored v node) (sym (ap (world_after topology w) s.is ∙ at_carry s.later)) ((through s.later rest s.are).nodes node inside)

  pub carried_out : Throughout topology w beat (λ v. (node : NodeId) → CarriesOutNext v node)
  carried_out front rest e node site cell cells payload message found = (at_once (node_of_run front rest e node site found).is_node.number).next_one site cell cells payload message found
    where
      at_once : IsNode topology node → CarriesOut (world_after topology (world_at policy topology before) front) node
      at_once inside = stretches_carry_out topology (world_after topology (world_at policy topology before) front) node [] (calmly_mirrored node inside front rest e)
          (λ first later event f. absurd (none_first first later event f)) [] [] refl

pub beats_carry_out : HoldsInRuns IsWhole → BeatsCarryOut
beats_carry_out whole policy topology before beat m b = carried_out whole policy topology before beat m b
