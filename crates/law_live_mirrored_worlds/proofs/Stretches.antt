-- a node along a stretch of events

use Rattle.std.proofs.Common.{◌≡◌, List, [], ◌∷◌, ◌++◌, refl, sym, ◌∙◌, ap, subst}
use Rattle.world_model.specs.Words.{NodeId, Place, Down, Up, Out, is_estab, State, Topology, World, Site, IsTopology, next, world_after}
use Rattle.world_model.specs.network_model.declared.event.Event.{Event}
use Rattle.world_model.specs.network_model.declared.event.Event.TheVariants.{Inject, Carry, Lose, Tick, TickSwitch, Restart, RestartSwitch, Forge, Route}
use Rattle.world_model.proofs.Lists.{by_eq}
use Rattle.law_live_control_links.specs.Law.{IsCalmLink}
use Rattle.law_live_control_links.proofs.Events.{carries_keep_calm, ticks_keep_calm, switch_ticks_keep_calm}
use Rattle.law_live_mirrored_worlds.specs.Way.{IsMirroredIn}
use Rattle.law_live_mirrored_worlds.specs.Law.{FramesStay, SwitchIsUp, IsMirroredBehind, IsBeside, ActsAt, AsksSome, HearsWhole, IsCalmEvent, IsCalmlyMirrored, CarriesOut, StretchesCarryOut}
use Rattle.law_live_mirrored_worlds.proofs.Sites.{one_site}
use Rattle.law_live_mirrored_worlds.proofs.Carries.{mirrors_carry_out, carries_down_mirror}
use Rattle.law_live_mirrored_worlds.proofs.Events.{same_node, all_else_mirrors, controllers_mirror}

-- *Its switch is up*, since it has met its controller
is_up : (w : World) (node : NodeId) → IsCalmLink w node → SwitchIsUp w node
is_up w node link site found = ap (λ (s : Site). is_estab s.switch.adjacency.state) (one_site site link.site (sym found ∙ link.found)) ∙ ap (λ (s : State). is_estab s) link.calm.met.other_is_up

module _ (topology : Topology) (w : World) (node : NodeId) (s : IsCalmlyMirrored w node) where
  at_once : CarriesOut w node
  at_once = record { stays = s; next_one = mirrors_carry_out w node (is_up w node s.calm) s.mirrored }

  abbrev Mirrored : Event → Type 0
  Mirrored event = IsMirroredIn (next topology w event) node

  -- *Its own*: what the switch hears, and what the controller asks
  own_down : FramesStay topology w (Carry (Down node)) → HearsWhole topology w node → Mirrored (Carry (Down node))
  own_down stays whole = by (carries_down_mirror topology w node s.mirrored.way (is_up w node s.calm) whole.counts whole.unlost stays s.mirrored.by)
    where
      by : IsMirroredBehind topology w node s.mirrored.way → Mirrored (Carry (Down node))
      by b = record { way = b.left; by = b.mirrored }

  own_asks : (event : Event) → ActsAt node event → FramesStay topology w event → AsksSome topology w node event → Mirrored event
  own_asks event is stays some = record { way = s.mirrored.way ++ some.asked; by = controllers_mirror topology w node event s.mirrored.way some.asked is stays some.asks s.mirrored.by }

  -- *All else*
  beside : IsTopology topology → (event : Event) → IsBeside node event → FramesStay topology w event → Mirrored event
  beside topology_is event apart stays = record { way = s.mirrored.way; by = all_else_mirrors topology w node event s.mirrored.way topology_is apart stays s.mirrored.by }

  module _ (topology_is : IsTopology topology) where
    carries_down : (here : NodeId) → FramesStay topology w (Carry (Down here)) → (here.0 ≡ node.0 → HearsWhole topology w here) → Mirrored (Carry (Down here))
    carries_down here = by_eq here.0 node.0
        (λ same t stays whole. subst (λ (h : NodeId). FramesStay topology w (Carry (Down h)) → HearsWhole topology w h → Mirrored (Carry (Down h))) (same_node node here same) own_down stays (whole same))
        (λ apart t stays whole. beside topology_is (Carry (Down here)) apart stays)

    carries_up : (here : NodeId) → FramesStay topology w (Carry (Up here)) → (here.0 ≡ node.0 → AsksSome topology w here (Carry (Up here))) → Mirrored (Carry (Up here))
    carries_up here = by_eq here.0 node.0
        (λ same t stays some. subst (λ (h : NodeId). FramesStay topology w (Carry (Up h)) → AsksSome topology w h (Carry (Up h)) → Mirrored (Carry (Up h))) (same_node node here same)
        (own_asks (Carry (Up node)) refl) stays (some same))
        (λ apart t stays some. beside topology_is (Carry (Up here)) apart stays)

    ticks_on : (here : NodeId) → FramesStay topology w (Tick here) → (here.0 ≡ node.0 → AsksSome topology w here (Tick here)) → Mirrored (Tick here)
    ticks_on here = by_eq here.0 node.0
        (λ same t stays some. subst (λ (h : NodeId). FramesStay topology w (Tick h) → AsksSome topology w h (Tick h) → Mirrored (Tick h)) (same_node node here same)
        (own_asks (Tick node) refl) stays (some same))
        (λ apart t stays some. beside topology_is (Tick here) apart stays)

  -- *One event*
  abbrev Stays : Event → Type 0
  Stays event = IsCalmEvent topology w node event → IsCalmlyMirrored (next topology w event) node

  carried : (place : Place) → (IsCalmEvent topology w node (Carry place) → Mirrored (Carry place)) → Stays (Carry place)
  carried place mirrored e = record { calm = carries_keep_calm topology w node place s.calm e.steady e.true_event e.unspent at_once.next_one; mirrored = mirrored e }

  one_event : (event : Event) → Stays event
  one_event (Inject here octets) e = absurd e.goes_on
  one_event (Carry (Down here)) e = carried (Down here) (λ f. carries_down f.steady.topology_is here f.true_event.stays f.goes_on) e
  one_event (Carry (Up here)) e = carried (Up here) (λ f. carries_up f.steady.topology_is here f.true_event.stays f.goes_on) e
  one_event (Carry (Out here port)) e = carried (Out here port) (λ f. beside f.steady.topology_is (Carry (Out here port)) tt f.true_event.stays) e
  one_event (Lose place) e = absurd e.goes_on
  one_event (Tick here) e = record {
    calm = ticks_keep_calm topology w node here s.calm e.steady e.true_event e.goes_on.0 e.unspent;
    mirrored = ticks_on e.steady.topology_is here e.true_event.stays e.goes_on.1;
  }
  one_event (TickSwitch here) e = record {
    calm = switch_ticks_keep_calm topology w node here s.calm e.true_event e.goes_on;
    mirrored = beside e.steady.topology_is (TickSwitch here) tt e.true_event.stays;
  }
  one_event (Restart here) e = absurd e.goes_on
  one_event (RestartSwitch here) e = absurd e.goes_on
  one_event (Forge place channel payload) e = absurd e.goes_on
  one_event (Route here change) e = absurd e.goes_on

-- *A stretch*
along : (topology : Topology) (node : NodeId) (front : List Event) (w : World) (events : List Event) → IsCalmlyMirrored w node
    → ((before rest : List Event) (event : Event) → events ≡ before ++ event ∷ rest → IsCalmEvent topology (world_after topology w before) node event)
    → (rest : List Event) → events ≡ front ++ rest → CarriesOut (world_after topology w front) node
along topology node [] w events s each rest e = at_once topology w node s
along topology node (event ∷ front) w events s each rest e = along topology node front (next topology w event) (front ++ rest) (one_event topology w node s event (each [] (front ++ rest) event e))
    (λ before more later is. each (event ∷ before) more later (e ∙ ap (λ (es : List Event). event ∷ es) is)) rest refl

pub stretches_carry_out : StretchesCarryOut
stretches_carry_out topology w node events s each front rest is = along topology node front w events s each rest is
