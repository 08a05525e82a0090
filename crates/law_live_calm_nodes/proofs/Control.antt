-- through a beat of a network in peace: nodes have met their switches, and through its ticks no Delete All comes

use Rattle.std.proofs.Common.{◌≡◌, ◌⊎◌, inl, inr, ◌<◌, true, List, [], ◌∷◌, ◌++◌, append_assoc, append-nil, map, Option, None, Some, refl, sym, ◌∙◌, ap, subst}
use Rattle.std.specs.Prelude.{is_some}
use Rattle.std.specs.Option.{option_map}
use Rattle.world_model.specs.Words.{NodeId, Policy, Place, Switch, Linked, port_key, Topology, World, Site, site_at, IsShaped, put_away, next, tick_of_all, world_after, IsNode, IsTopology, IsRun, past_of}
use Rattle.world_model.specs.adjacency_table.Table.{silence_limit}
use Rattle.world_model.specs.Topology.{peer_of}
use Rattle.world_model.specs.network_model.declared.link.LinkEnd.{LinkEnd}
use Rattle.world_model.specs.network_model.declared.event.Event.{Event}
use Rattle.world_model.specs.network_model.declared.event.Event.TheVariants.{Carry, Tick, TickSwitch}
use Rattle.live_model.specs.Beats.{Beat, settling}
use Rattle.law_live_peace.proofs.law_causes.Shown.{peer_back}
use Rattle.law_live_peace.specs.law_run_facts.ordered_lists.Ordered.{Every}
use Rattle.law_live_peace.specs.law_run_facts.law_world_views.Between.{IsWorld}
use Rattle.law_live_peace.specs.law_run_facts.law_world_views.Kept.{Comes}
use Rattle.law_live_peace.proofs.law_run_facts.ordered_lists.Every.{every_right}
use Rattle.law_live_peace.proofs.law_run_facts.law_port_facts.Keyed.{at_every}
use Rattle.law_live_peace.proofs.law_run_facts.Steps.{front_run}
use Rattle.law_live_peace.specs.law_true_runs.Runs.{HoldsInRuns, IsWhole}
use Rattle.law_live_peace.specs.law_live_nodes.Law.{messages_of}
use Rattle.law_live_peace.specs.law_live_links.Law.{MayTick}
use Rattle.law_live_peace.specs.law_live_worlds.Law.{Shows, end_of, AgreeIn, IsCalm}
use Rattle.law_live_peace.specs.law_live_hearing.Law.{world_at}
use Rattle.law_live_peace.proofs.law_live_hearing.Going.{after_all}
use Rattle.law_live_peace.proofs.law_live_hearing.Places.{down_empty}
use Rattle.law_live_peace.specs.law_live_going.Law.{IsWritten}
use Rattle.law_live_peace.specs.law_live_control_links.Law.{IsCalmLink, IsSteady, IsTrueEvent, IsUnspentAt, ControllerListens, SwitchListens}
use Rattle.law_live_peace.proofs.law_live_control_links.Events.{carries_keep_calm, ticks_keep_calm, switch_ticks_keep_calm}
use Rattle.law_live_peace.specs.law_live_ways.Links.{ComesNone, StandsNoneAt}
use Rattle.law_live_peace.proofs.law_live_ways.Links.{none_comes_still}
use Rattle.law_live_peace.proofs.law_live_ways.Shaped.{acts_shaped}
use Rattle.law_live_calm_nodes.specs.Ports.{IsPortUp}
use Rattle.law_live_calm_nodes.specs.Nodes.{Throughout, LosesNothing, IsNodeAtRest}
use Rattle.law_live_calm_nodes.specs.Networks.{IsNetworkInPeace, ComesInPeace, IsBeatOfPeace}
use Rattle.law_live_calm_nodes.proofs.Parts.{along}
use Rattle.law_live_calm_nodes.proofs.Events.{Facts, now_is, comes, world, run_behind, done, behind_is, facts}
use Rattle.law_live_calm_nodes.proofs.Ticks.{IsTick, of_controller, of_switch, all_ticks, site_waits, switch_waits}
use Rattle.law_live_calm_nodes.proofs.Ports.{ticks_keep_up, up_nodes_stand_none}
use Rattle.law_live_calm_nodes.proofs.Resting.{nodes_at_rest_are_calm}

-- *A front of two lists* is one of the first, or goes on into the second
pub record IsInFirst (xs front : List Event) : Type 0 where
  pub more : List Event
  pub is : xs ≡ front ++ more

pub record IsInSecond (xs ys front rest : List Event) : Type 0 where
  pub later : List Event
  pub is : front ≡ xs ++ later
  pub are : ys ≡ later ++ rest

pub split_front : (xs ys front rest : List Event) → xs ++ ys ≡ front ++ rest → IsInFirst xs front ⊎ IsInSecond xs ys front rest
split_front xs ys [] rest e = inl (record { more = xs; is = refl })
split_front [] ys (y ∷ front) rest e = inr (record { later = y ∷ front; is = refl; are = e })
split_front (x ∷ xs) ys (y ∷ front) rest e = by (split_front xs ys front rest (cc e))
  where
    same : x ≡ y
    same = cc e

    by : IsInFirst xs front ⊎ IsInSecond xs ys front rest → IsInFirst (x ∷ xs) (y ∷ front) ⊎ IsInSecond (x ∷ xs) ys (y ∷ front) rest
    by (inl f) = inl (record { more = f.more; is = λ i. same i ∷ f.is i })
    by (inr s) = inr (record { later = s.later; is = λ i. sym same i ∷ s.is i; are = s.are })

-- carries alone
pub data IsCarry : Event → Type 0 where
  carries : (place : Place) → IsCarry (Carry place)

all_carries : (places : List Place) → Every IsCarry (map Carry places)
all_carries [] = tt
all_carries (place ∷ places) = (carries place, all_carries places)

pub is_carry : (places : List Place) (front rest : List Event) (event : Event) → map Carry places ≡ front ++ event ∷ rest → IsCarry event
is_carry places front rest event e = (every_right IsCarry front (event ∷ rest) (subst (Every IsCarry) e (all_carries places))).0

-- a port that is linked has a peer
pub record HasPeer (o : Option LinkEnd) : Type 0 where
  pub far : LinkEnd
  pub is : o ≡ Some far

pub has_peer : (o : Option LinkEnd) → is_some o ≡ true → HasPeer o
has_peer None e = absurd (cc e)
has_peer (Some far) e = record { far = far; is = refl }

one_site : (a b : Site) → Some a ≡ Some b → a ≡ b
one_site a b e = cc

one_switch : (a b : Switch) → Some a ≡ Some b → a ≡ b
one_switch a b e = cc

module _ (whole : HoldsInRuns IsWhole) (policy : Policy) (topology : Topology) (before : List Event) (beat : Beat)
    (p : IsNetworkInPeace topology (world_at policy topology before)) (b : IsBeatOfPeace policy topology before beat) where
  abbrev pub w : World
  w = world_at policy topology before

  abbrev pub all : List Event
  all = settling w beat

  pub is : IsTopology topology
  is = b.run.topology_is

  pub is_now : (front : List Event) → world_at policy topology (before ++ front) ≡ world_after topology w front
  is_now = now_is whole policy topology before all b.run b.addresses b.tame

  pub begun : IsRun policy topology before
  begun = front_run policy topology before all b.run

  pub within : (one far : LinkEnd) → peer_of topology one.node one.port ≡ Some far → IsNode topology one.node
  within one far linked = (peer_back topology is far one (peer_back topology is one far linked).back).node

  -- *Each event*
  module _ (front rest : List Event) (event : Event) (e : all ≡ front ++ event ∷ rest) where
    abbrev v : World
    v = world_after topology w front

    pub comes_in : Comes policy topology (before ++ front) event
    comes_in = comes whole policy topology before all b.run b.addresses b.tame front rest event e

    pub world_in : IsWorld (past_of policy topology (before ++ front))
    world_in = world whole policy topology before all b.run b.addresses b.tame front rest event e

    pub facts_in : Facts topology v event
    facts_in = facts whole policy topology before all b.run b.addresses b.tame front rest event e

    pub unspent : (node : NodeId) → IsUnspentAt (next topology v event) node
    unspent = subst (λ (x : World). (node : NodeId) → IsUnspentAt x node) (behind_is whole policy topology before all b.run b.addresses b.tame front rest event e)
        (b.unspent (front ++ event ∷ []) rest (done whole policy topology before all b.run b.addresses b.tame front rest event e))

    -- *no Delete All stands behind it*, where all ports are up there
    pub stands_none : ((one far : LinkEnd) → peer_of topology one.node one.port ≡ Some far → IsPortUp (next topology v event) one)
        → (one far : LinkEnd) → peer_of topology one.node one.port ≡ Some far → StandsNoneAt (next topology v event) one.node
    stands_none up one far linked = subst (λ (x : World). ((a z : LinkEnd) → peer_of topology a.node a.port ≡ Some z → IsPortUp x a) → IsUnspentAt x one.node → StandsNoneAt x one.node)
        (is_now (front ++ event ∷ []) ∙ behind_is whole policy topology before all b.run b.addresses b.tame front rest event e)
        (λ ups. up_nodes_stand_none policy topology (before ++ (front ++ event ∷ [])) one b.addresses (run_behind whole policy topology before all b.run b.addresses b.tame front rest event e)
        (ap (λ (o : Option LinkEnd). is_some o) linked)
        (λ port there. (let peer : HasPeer (peer_of topology one.node port) = has_peer (peer_of topology one.node port) there in ups (record { node = one.node; port = port }) peer.far peer.is)))
        up (unspent one.node)

  -- an event among the ticks, and one among the carries
  pub in_ticks : (front rest : List Event) (event : Event) → tick_of_all w ≡ front ++ event ∷ rest → all ≡ front ++ event ∷ (rest ++ map Carry beat.carries)
  in_ticks front rest event e = ap (λ (es : List Event). es ++ map Carry beat.carries) e ∙ append_assoc front (event ∷ rest) (map Carry beat.carries)

  pub in_carries : (front rest : List Event) (event : Event) → map Carry beat.carries ≡ front ++ event ∷ rest → all ≡ (tick_of_all w ++ front) ++ event ∷ rest
  in_carries front rest event e = ap (λ (es : List Event). tick_of_all w ++ es) e ∙ sym (append_assoc (tick_of_all w) front (event ∷ rest))

  abbrev pub u : World
  u = world_after topology w (tick_of_all w)

  pub carried_is : (front : List Event) → world_after topology w (tick_of_all w ++ front) ≡ world_after topology u front
  carried_is front = after_all topology w (tick_of_all w) front

  -- of a carry
  pub record CarryFacts (v : World) (event : Event) : Type 0 where
    pub steady : (node : NodeId) → IsSteady topology v node × IsTrueEvent topology v event
    pub unlost : LosesNothing topology v event
    pub comes : ComesInPeace topology v event
    pub unspent : (node : NodeId) → IsUnspentAt (next topology v event) node

  pub carry_facts : (front rest : List Event) (event : Event) → map Carry beat.carries ≡ front ++ event ∷ rest → CarryFacts (world_after topology u front) event
  carry_facts front rest event e = subst (λ (x : World). CarryFacts x event) (carried_is front) (record {
    steady = (facts_in (tick_of_all w ++ front) rest event (in_carries front rest event e)).steady;
    unlost = b.unlost (tick_of_all w ++ front) rest event (in_carries front rest event e);
    comes = b.carries (tick_of_all w ++ front) rest event (in_carries front rest event e);
    unspent = unspent (tick_of_all w ++ front) rest event (in_carries front rest event e);
  })

  -- *What holds through both*
  pub throughout : (P : World → Type 0) → ((front rest : List Event) → tick_of_all w ≡ front ++ rest → P (world_after topology w front))
      → ((front rest : List Event) → map Carry beat.carries ≡ front ++ rest → P (world_after topology u front)) → Throughout topology w beat P
  throughout P in_first in_second front rest e = by (split_front (tick_of_all w) (map Carry beat.carries) front rest e)
    where
      by : IsInFirst (tick_of_all w) front ⊎ IsInSecond (tick_of_all w) (map Carry beat.carries) front rest → P (world_after topology w front)
      by (inl f) = in_first front f.more f.is
      by (inr s) = subst P (sym (ap (world_after topology w) s.is ∙ carried_is s.later)) (in_second s.later rest s.are)

  -- *Who ticks* has heard its peer lately
  controller_listens : (front rest : List Event) (here : NodeId) → tick_of_all w ≡ front ++ Tick here ∷ rest → ControllerListens (world_after topology w front) here
  controller_listens front rest here e site found = p.heard here site (sym (site_waits topology w front rest here p.shaped e) ∙ found)

  switch_listens : (front rest : List Event) (here : NodeId) → tick_of_all w ≡ front ++ TickSwitch here ∷ rest → SwitchListens (world_after topology w front) here
  switch_listens front rest here e site found = by (site_at w here) refl (sym (switch_waits topology w front rest here p.shaped e) ∙ ap (option_map (λ (s : Site). s.switch)) found)
    where
      by : (o : Option Site) → site_at w here ≡ o → option_map (λ (s : Site). s.switch) o ≡ Some site.switch → site.switch.adjacency.silence < silence_limit
      by None there same = absurd (cc same)
      by (Some old) there same = subst (λ (s : Switch). s.adjacency.silence < silence_limit) (one_switch old.switch site.switch same) (b.may here old there).heard

  -- *Each node and its switch have met*
  abbrev pub Met : World → Type 0
  Met v = (node : NodeId) → IsNode topology node → IsCalmLink v node

  tick_met : (front rest : List Event) (event : Event) → tick_of_all w ≡ front ++ event ∷ rest → Met (world_after topology w front) → Met (next topology (world_after topology w front) event)
  tick_met front rest event e met node inside = by event (all_ticks w front rest event e) e (facts_in front (rest ++ map Carry beat.carries) event (in_ticks front rest event e))
      (unspent front (rest ++ map Carry beat.carries) event (in_ticks front rest event e))
    where
      v : World
      v = world_after topology w front

      by : (x : Event) → IsTick x → tick_of_all w ≡ front ++ x ∷ rest → Facts topology v x → ((n : NodeId) → IsUnspentAt (next topology v x) n) → IsCalmLink (next topology v x) node
      by x (of_controller here) f g left = ticks_keep_calm topology v node here (met node inside) (g.steady node).0 (g.steady node).1 (controller_listens front rest here f) (left node)
      by x (of_switch here) f g left = switch_ticks_keep_calm topology v node here (met node inside) (g.steady node).1 (switch_listens front rest here f)

  pub ticks_met : (front rest : List Event) → tick_of_all w ≡ front ++ rest → Met (world_after topology w front)
  ticks_met = along topology Met (tick_of_all w) w p.met tick_met

  carry_met : (front rest : List Event) (event : Event) → map Carry beat.carries ≡ front ++ event ∷ rest → Met (world_after topology u front) → Met (next topology (world_after topology u front) event)
  carry_met front rest event e met node inside = by event (is_carry beat.carries front rest event e) (carry_facts front rest event e)
    where
      v : World
      v = world_after topology u front

      by : (x : Event) → IsCarry x → CarryFacts v x → IsCalmLink (next topology v x) node
      by x (carries place) g = carries_keep_calm topology v node place (met node inside) (g.steady node).0 (g.steady node).1 (g.unspent node) (g.comes.carried_out node)

  pub carries_met : (front rest : List Event) → map Carry beat.carries ≡ front ++ rest → Met (world_after topology u front)
  carries_met = along topology Met (map Carry beat.carries) u (ticks_met (tick_of_all w) [] (sym (append-nil (tick_of_all w)))) carry_met

  -- *The network keeps its shape*
  pub shaped : Throughout topology w beat IsShaped
  shaped = along topology IsShaped all w p.shaped (λ front rest event e h. acts_shaped topology (put_away (world_after topology w front)) event h)

  -- *Each node is at peace* as the beat begins
  pub port_may : (one : LinkEnd) (linked : Linked) → Shows w one linked → MayTick (end_of linked []) × Every IsWritten (messages_of linked)
  port_may one linked shows = at_every port_key (λ (x : Linked). MayTick (end_of x []) × Every IsWritten (messages_of x)) one.port.0 shows.site.controller.ports linked
      (b.may one.node shows.site shows.there).ports shows.of_port

  pub calm : (node : NodeId) → IsNode topology node → IsCalm w node
  calm node inside = nodes_at_rest_are_calm policy topology before node b.addresses begun rest (p.heard node)
    where
      link : IsCalmLink w node
      link = p.met node inside

      rest : IsNodeAtRest topology w node
      rest = record {
        link = link;
        nothing_asked = (b.may node link.site link.found).nothing_asked;
        ports = λ port there. (let peer : HasPeer (peer_of topology node port) = has_peer (peer_of topology node port) there in
            let agree : AgreeIn w (record { node = node; port = port }) peer.far [] [] = (p.links (record { node = node; port = port }) peer.far peer.is).agree in
            record { far = peer.far; agree = agree; may_tick = (port_may (record { node = node; port = port }) agree.linked agree.shows).0 });
        may_join = (b.may node link.site link.found).may_join;
      }

  -- *No Delete All comes* through the ticks
  pub ticks_up : (front rest : List Event) → tick_of_all w ≡ front ++ rest → (one far : LinkEnd) → peer_of topology one.node one.port ≡ Some far → IsPortUp (world_after topology w front) one
  ticks_up front rest e one far linked = ticks_keep_up topology w one far front rest p.shaped (calm one.node (within one far linked)) (p.links one far linked).agree e

  abbrev pub NoneComes : World → Type 0
  NoneComes v = (one far : LinkEnd) → peer_of topology one.node one.port ≡ Some far → ComesNone v one.node

  none_yet : NoneComes w
  none_yet one far linked = subst (Every _) (sym (down_empty policy topology is before one.node (within one far linked) p.empty)) tt

  tick_none : (front rest : List Event) (event : Event) → tick_of_all w ≡ front ++ event ∷ rest → NoneComes (world_after topology w front) → NoneComes (next topology (world_after topology w front) event)
  tick_none front rest event e none one far linked = by event (all_ticks w front rest event e) e (facts_in front (rest ++ map Carry beat.carries) event (in_ticks front rest event e))
      (stands_none front (rest ++ map Carry beat.carries) event (in_ticks front rest event e)
      (λ x y between. subst (λ (v : World). IsPortUp v x) (after_all topology w front (event ∷ [])) (ticks_up (front ++ event ∷ []) rest (e ∙ sym (append_assoc front (event ∷ []) rest)) x y between)) one far linked)
    where
      v : World
      v = world_after topology w front

      by : (x : Event) → IsTick x → tick_of_all w ≡ front ++ x ∷ rest → Facts topology v x → StandsNoneAt (next topology v x) one.node → ComesNone (next topology v x) one.node
      by x (of_controller here) f g stands = none_comes_still.ticks topology v one.node here (ticks_met front (Tick here ∷ rest) f one.node (within one far linked))
          (g.steady one.node).0 (g.steady one.node).1 (controller_listens front rest here f) stands (none one far linked)
      by x (of_switch here) f g stands = none_comes_still.switch_ticks topology v one.node here (g.steady one.node).1 (none one far linked)

  pub ticks_none : (front rest : List Event) → tick_of_all w ≡ front ++ rest → NoneComes (world_after topology w front)
  ticks_none = along topology NoneComes (tick_of_all w) w none_yet tick_none
