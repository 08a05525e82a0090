-- through a calm beat of a network at ease: each node and its switch hear one another in its ticks and carries, and behind what is sent
-- they have still

use Rattle.std.proofs.Common.{◌≡◌, ◌≢◌, ◌⊎◌, inl, inr, ℕ, ◌<◌, Bool, true, false, List, [], ◌∷◌, ◌++◌, append_assoc, append-nil, map, Option, None, Some, refl, sym, ◌∙◌, ap, subst, arith}
use Rattle.std.specs.Prelude.{◌&&◌}
use Rattle.std.specs.List.{list_all}
use Rattle.std.specs.Option.{option_map}
use Rattle.world_model.specs.Words.{NodeId, Policy, Place, Switch, Linked, port_key, last_transaction, Topology, World, Site, site_at, next, switch_tick_of, tick_of_all, world_after, IsNode, IsTopology, IsRun, IsTame, past_of}
use Rattle.world_model.specs.adjacency_table.Table.{silence_limit}
use Rattle.world_model.specs.Topology.{peer_of}
use Rattle.world_model.specs.network_model.declared.link.LinkEnd.{LinkEnd}
use Rattle.world_model.specs.network_model.declared.event.Event.{Event}
use Rattle.world_model.specs.network_model.declared.event.Event.TheVariants.{Inject, Carry, Lose, Tick, TickSwitch, Restart, RestartSwitch, Forge, Route}
use Rattle.live_model.specs.Beats.{Beat, settling, events_in, is_sending, settled, behind}
use Rattle.law_live_journeys.specs.law_run_facts.Nodes.{HasSite}
use Rattle.law_live_journeys.specs.law_run_facts.ordered_lists.Ordered.{Every}
use Rattle.law_live_journeys.proofs.law_run_facts.law_port_facts.Keyed.{at_every}
use Rattle.law_live_journeys.proofs.law_run_facts.Nodes.{runs_have_nodes}
use Rattle.law_live_journeys.specs.law_true_runs.Runs.{HoldsInRuns, IsWhole}
use Rattle.law_live_journeys.proofs.law_true_runs.Fronts.{front_run, front_tame}
use Rattle.law_live_journeys.specs.law_live_nodes.Law.{messages_of}
use Rattle.law_live_journeys.specs.law_live_links.Law.{MayTick}
use Rattle.law_live_journeys.specs.law_live_worlds.Law.{Shows, end_of, AgreeIn, IsCalm}
use Rattle.law_live_journeys.specs.law_live_hearing.Law.{world_at}
use Rattle.law_live_journeys.proofs.law_live_hearing.Going.{after_all}
use Rattle.law_live_journeys.proofs.law_live_hearing.Places.{has_site}
use Rattle.law_live_journeys.specs.law_live_control_links.Law.{IsCalmLink, IsUnspentAt, ControllerListens, SwitchListens}
use Rattle.law_live_journeys.proofs.law_live_control_links.Events.{ticks_keep_calm, switch_ticks_keep_calm}
use Rattle.law_live_journeys.specs.law_live_going.Law.{IsWritten}
use Rattle.law_live_journeys.proofs.law_live_desks.Sites.{stands_in}
use Rattle.law_live_journeys.specs.law_live_calm_nodes.Nodes.{Throughout, AtEach, LosesNothing, IsNodeInBeat, IsNodeAtRest}
use Rattle.law_live_journeys.specs.law_live_calm_nodes.Networks.{IsNetworkInPeace}
use Rattle.law_live_journeys.proofs.law_live_calm_nodes.Parts.{along}
use Rattle.law_live_journeys.proofs.law_live_calm_nodes.Events.{Facts, now_is, facts}
use Rattle.law_live_journeys.proofs.law_live_calm_nodes.Ticks.{IsTick, of_controller, of_switch, all_ticks, site_waits, switch_waits, TicksAmong, switch_among}
use Rattle.law_live_journeys.proofs.law_live_calm_nodes.Resting.{nodes_at_rest_are_calm}
use Rattle.law_live_journeys.proofs.law_live_calm_nodes.Control.{IsInFirst, IsInSecond, split_front, HasPeer, has_peer}
use Rattle.law_live_journeys.proofs.law_live_calm_nodes.Heard as controllers
use Rattle.law_live_journeys.proofs.law_live_calm_nodes.Nodes.{nodes_hear_their_switches}
use Rattle.law_live_journeys.proofs.law_live_lasting.Silence as switches
use Rattle.law_live_journeys.proofs.law_live_lasting.Heard.{switches_hear_their_nodes}
use Rattle.law_live_ease.specs.Law.{IsAtEase, IsCalmEvent}
use Rattle.law_live_ease.specs.Beats.{IsCalmBeat}
use Rattle.law_live_ease.specs.Settling.{HasHeard, BindsThroughout, BeatsAreHeard}
use Rattle.law_live_ease.proofs.SettlingEntering.{controller_silent, switch_silent}

one_switch : (a b : Switch) → Some a ≡ Some b → a ≡ b
one_switch a b e = cc

one_number : (m n : ℕ) → Some m ≡ Some n → m ≡ n
one_number m n e = cc

none_first : (front rest : List Event) (event : Event) → [] ≡ front ++ event ∷ rest → ⊥
none_first [] rest event e = cc e
none_first (x ∷ front) rest event e = cc e

below_apart : (n k : ℕ) → n < k → n ≢ k
below_apart n k less same = omega (arith, less, same)

-- *A calm event* loses nothing
loses_nothing : (topology : Topology) (v : World) (event : Event) → IsCalmEvent topology v event → LosesNothing topology v event
loses_nothing topology v (Carry place) c = c.unlost
loses_nothing topology v (Inject here octets) c = c.entries
loses_nothing topology v (Lose place) c = c.entries
loses_nothing topology v (Tick here) c = c.entries
loses_nothing topology v (TickSwitch here) c = c.entries
loses_nothing topology v (Restart here) c = c.entries
loses_nothing topology v (RestartSwitch here) c = c.entries
loses_nothing topology v (Forge place channel payload) c = c.entries
loses_nothing topology v (Route here change) c = c.entries

-- *What is sent* is a packet that enters, or a carry
pub data IsSent : Event → Type 0 where
  enters : (here : NodeId) (octets : List ℕ) → IsSent (Inject here octets)
  carries : (place : Place) → IsSent (Carry place)

is_sent : (event : Event) → is_sending event ≡ true → IsSent event
is_sent (Inject here octets) e = enters here octets
is_sent (Carry place) e = carries place
is_sent (Lose place) e = absurd (cc e)
is_sent (Tick here) e = absurd (cc e)
is_sent (TickSwitch here) e = absurd (cc e)
is_sent (Restart here) e = absurd (cc e)
is_sent (RestartSwitch here) e = absurd (cc e)
is_sent (Forge place channel payload) e = absurd (cc e)
is_sent (Route here change) e = absurd (cc e)

first_of : (p q : Bool) → (p && q) ≡ true → p ≡ true
first_of true q e = refl
first_of false q e = absurd (cc e)

rest_of : (p q : Bool) → (p && q) ≡ true → q ≡ true
rest_of true q e = e
rest_of false q e = absurd (cc e)

pub all_sent : (front rest : List Event) (event : Event) → list_all is_sending (front ++ event ∷ rest) ≡ true → IsSent event
all_sent [] rest event e = is_sent event (first_of (is_sending event) (list_all is_sending rest) e)
all_sent (x ∷ front) rest event e = all_sent front rest event (rest_of (is_sending x) (list_all is_sending (front ++ event ∷ rest)) e)

-- *Both sides have just been heard*
record IsHeard (v : World) (node : NodeId) : Type 0 where
  controller : controllers.silence_at v node ≡ Some 0
  switch : switches.silence_at v node ≡ Some 0

module _ (whole : HoldsInRuns IsWhole) (policy : Policy) (topology : Topology) (before : List Event) (beat : Beat)
    (ease : IsAtEase topology (world_at policy topology before)) (b : IsCalmBeat policy topology before beat) where
  abbrev w : World
  w = world_at policy topology before

  abbrev all : List Event
  all = events_in w beat

  abbrev ticked : List Event
  ticked = tick_of_all w

  abbrev p : IsNetworkInPeace topology w
  p = ease.peace.lasting.peace

  is : IsTopology topology
  is = b.run.topology_is

  is_now : (front : List Event) → world_at policy topology (before ++ front) ≡ world_after topology w front
  is_now = now_is whole policy topology before all b.run b.addresses b.tame

  begun : IsRun policy topology before
  begun = front_run policy topology before all b.run

  inside_run : (node : NodeId) (site : Site) → site_at w node ≡ Some site → IsNode topology node
  inside_run node site found = (runs_have_nodes policy topology before b.addresses begun node site found).is_node.number

  -- *Each event*
  record IsGood (v : World) (event : Event) : Type 0 where
    is_so : Facts topology v event
    is_calm : IsCalmEvent topology v event

  good : (front rest : List Event) (event : Event) → all ≡ front ++ event ∷ rest → IsGood (world_after topology w front) event
  good front rest event e = record { is_so = facts whole policy topology before all b.run b.addresses b.tame front rest event e; is_calm = b.calm front rest event e }

  in_settling : (front rest : List Event) (event : Event) → settling w beat ≡ front ++ event ∷ rest → all ≡ front ++ event ∷ (rest ++ beat.sending)
  in_settling front rest event e = ap (λ (es : List Event). es ++ beat.sending) e ∙ append_assoc front (event ∷ rest) beat.sending

  in_ticks : (front rest : List Event) (event : Event) → ticked ≡ front ++ event ∷ rest → all ≡ front ++ event ∷ ((rest ++ map Carry beat.carries) ++ beat.sending)
  in_ticks front rest event e = in_settling front (rest ++ map Carry beat.carries) event
      (ap (λ (es : List Event). es ++ map Carry beat.carries) e ∙ append_assoc front (event ∷ rest) (map Carry beat.carries))

  unlost : AtEach topology w beat (LosesNothing topology)
  unlost front rest event e = loses_nothing topology (world_after topology w front) event (good front (rest ++ beat.sending) event (in_settling front rest event e)).is_calm

  -- *Transaction numbers are left* from the beginning on
  begins_unspent : (node : NodeId) → IsUnspentAt w node
  begins_unspent node site found = by all refl
    where
      among : TicksAmong (world_at policy topology before) node
      among = switch_among (world_at policy topology before) node site found

      by : (es : List Event) → all ≡ es → site.controller.desk.next ≢ last_transaction
      by [] e = absurd (none_first among.front ((map switch_tick_of among.later ++ map Carry beat.carries) ++ beat.sending) (TickSwitch node)
          (sym e ∙ in_ticks among.front (map switch_tick_of among.later) (TickSwitch node) among.are))
      by (event ∷ rest) e = below_apart site.controller.desk.next last_transaction ((good [] rest event e).is_calm.room.numbers node site found)

  unspent : (node : NodeId) → Throughout topology w beat (λ v. IsUnspentAt v node)
  unspent node = along topology (λ v. IsUnspentAt v node) (settling w beat) w (begins_unspent node)
      (λ front rest event e h. (good front (rest ++ beat.sending) event (in_settling front rest event e)).is_calm.unspent node)

  -- *Who ticks* has heard its peer lately
  controller_listens : (front rest : List Event) (here : NodeId) → ticked ≡ front ++ Tick here ∷ rest → ControllerListens (world_after topology w front) here
  controller_listens front rest here e site found = p.heard here site (sym (site_waits topology w front rest here p.shaped e) ∙ found)

  switch_listens : (front rest : List Event) (here : NodeId) → ticked ≡ front ++ TickSwitch here ∷ rest → SwitchListens (world_after topology w front) here
  switch_listens front rest here e site found = by (site_at w here) refl (sym (switch_waits topology w front rest here p.shaped e) ∙ ap (option_map (λ (s : Site). s.switch)) found)
    where
      by : (o : Option Site) → site_at w here ≡ o → option_map (λ (s : Site). s.switch) o ≡ Some site.switch → site.switch.adjacency.silence < silence_limit
      by None there same = absurd (cc same)
      by (Some old) there same = subst (λ (s : Switch). s.adjacency.silence < silence_limit) (one_switch old.switch site.switch same) (ease.peace.lasting.heard here (inside_run here old there) old there)

  -- *Each node and its switch have met* through the ticks
  abbrev Met : World → Type 0
  Met v = (node : NodeId) → IsNode topology node → IsCalmLink v node

  tick_met : (front rest : List Event) (event : Event) → ticked ≡ front ++ event ∷ rest → Met (world_after topology w front) → Met (next topology (world_after topology w front) event)
  tick_met front rest event e met node inside = by event (all_ticks w front rest event e) e (good front ((rest ++ map Carry beat.carries) ++ beat.sending) event (in_ticks front rest event e))
    where
      v : World
      v = world_after topology w front

      by : (x : Event) → IsTick x → ticked ≡ front ++ x ∷ rest → IsGood v x → IsCalmLink (next topology v x) node
      by x (of_controller here) f g = ticks_keep_calm topology v node here (met node inside) (g.is_so.steady node).0 (g.is_so.steady node).1 (controller_listens front rest here f) (g.is_calm.unspent node)
      by x (of_switch here) f g = switch_ticks_keep_calm topology v node here (met node inside) (g.is_so.steady node).1 (switch_listens front rest here f)

  ticks_met : (front rest : List Event) → ticked ≡ front ++ rest → Met (world_after topology w front)
  ticks_met = along topology Met ticked w p.met tick_met

  -- *Each node is at peace* as the beat begins
  port_may : (one : LinkEnd) (linked : Linked) → Shows w one linked → MayTick (end_of linked [])
  port_may one linked shows = (at_every port_key (λ (x : Linked). MayTick (end_of x []) × Every IsWritten (messages_of x)) one.port.0 shows.site.controller.ports linked (b.room one.node shows.site shows.there).ports shows.of_port).0

  calm : (node : NodeId) → IsNode topology node → IsCalm w node
  calm node inside = nodes_at_rest_are_calm policy topology before node b.addresses begun rest (p.heard node)
    where
      link : IsCalmLink w node
      link = p.met node inside

      rest : IsNodeAtRest topology w node
      rest = record {
        link = link;
        nothing_asked = sym (ap stands_in link.found) ∙ ease.peace.lasting.nothing_stands node inside;
        ports = λ port there. (let peer : HasPeer (peer_of topology node port) = has_peer (peer_of topology node port) there in
            let agree : AgreeIn w (record { node = node; port = port }) peer.far [] [] = (p.links (record { node = node; port = port }) peer.far peer.is).agree in
            record { far = peer.far; agree = agree; may_tick = port_may (record { node = node; port = port }) agree.linked agree.shows });
        may_join = (b.room node link.site link.found).may_join;
      }

  module _ (binds : BindsThroughout policy topology before beat) (node : NodeId) (inside : IsNode topology node) where
    met : Throughout topology w beat (λ v. IsCalmLink v node)
    met front rest e = by (split_front ticked (map Carry beat.carries) front rest e)
      where
        by : IsInFirst ticked front ⊎ IsInSecond ticked (map Carry beat.carries) front rest → IsCalmLink (world_after topology w front) node
        by (inl f) = ticks_met front f.more f.is node inside
        by (inr s) = subst (λ (v : World). IsCalmLink v node) (sym (ap (world_after topology w) s.is ∙ after_all topology w ticked s.later))
            ((binds s.later (rest ++ beat.sending) (ap (λ (es : List Event). es ++ beat.sending) s.are ∙ append_assoc s.later rest beat.sending)).nodes node inside).calm

    abbrev through : List Event
    through = before ++ settling w beat

    split : before ++ all ≡ through ++ beat.sending
    split = sym (append_assoc before (settling w beat) beat.sending)

    in_beat : IsNodeInBeat policy topology before node beat
    in_beat = record {
      run = front_run policy topology through beat.sending (subst (IsRun policy topology) split b.run);
      addresses = b.addresses;
      tame = front_tame policy topology through beat.sending (subst (λ (es : List Event). IsTame (past_of policy topology es).records) split b.tame);
      shaped = p.shaped;
      within = inside;
      unlost = unlost;
      link = met;
      unspent = unspent node;
      listens = ease.peace.lasting.heard node inside;
      settles = b.is_beat.settles;
    }

    -- *So they hear one another* in the ticks and carries
    abbrev s : World
    s = settled topology w beat

    heard_there : IsHeard s node
    heard_there =
        let h : HasSite (world_at policy topology through) node = has_site policy topology is through node inside in
        let found : site_at s node ≡ Some h.site = ap (λ (v : World). site_at v node) (sym (is_now (settling w beat))) ∙ h.is in
        record {
          controller = ap (option_map (λ (x : Site). x.controller.adjacency.silence)) found
              ∙ ap (λ (n : ℕ). Some n) (nodes_hear_their_switches whole policy topology before node beat h.site in_beat found);
          switch = ap (option_map switches.silence_of) found
              ∙ ap (λ (n : ℕ). Some n) (switches_hear_their_nodes whole policy topology before node beat h.site in_beat (calm node inside) found);
        }

    -- *It stays so* behind each event that is sent
    sent_good : (front rest : List Event) (event : Event) → beat.sending ≡ front ++ event ∷ rest → IsGood (world_after topology s front) event
    sent_good front rest event e = subst (λ (v : World). IsGood v event) (after_all topology w (settling w beat) front) (good (settling w beat ++ front) rest event
        (ap (λ (es : List Event). settling w beat ++ es) e ∙ sym (append_assoc (settling w beat) front (event ∷ rest))))

    sent_met : (front rest : List Event) → beat.sending ≡ front ++ rest → IsCalmLink (world_after topology s front) node
    sent_met front rest e = subst (λ (v : World). IsCalmLink v node)
        (after_all topology (world_after topology w ticked) (map Carry beat.carries) front ∙ ap (λ (v : World). world_after topology v front) (sym (after_all topology w ticked (map Carry beat.carries))))
        ((binds (map Carry beat.carries ++ front) rest (ap (λ (es : List Event). map Carry beat.carries ++ es) e ∙ sym (append_assoc (map Carry beat.carries) front rest))).nodes node inside).calm

    step : (front rest : List Event) (event : Event) → beat.sending ≡ front ++ event ∷ rest → IsHeard (world_after topology s front) node → IsHeard (next topology (world_after topology s front) event) node
    step front rest event e h = by event (all_sent front rest event (sym (ap (list_all is_sending) e) ∙ b.is_beat.sends)) (sent_good front rest event e)
      where
        v : World
        v = world_after topology s front

        by : (x : Event) → IsSent x → IsGood v x → IsHeard (next topology v x) node
        by x (enters here octets) g = record { controller = controller_silent topology v node here octets h.controller; switch = switch_silent topology v node here octets h.switch }
        by x (carries place) g = record {
          controller = controllers.still_silent topology v node h.controller (sent_met front (event ∷ rest) e) (g.is_so.steady node).0 place (g.is_so.steady node).1 (g.is_calm.unspent node);
          switch = switches.still_silent topology v node h.switch place;
        }

    heard : IsHeard (behind topology w beat) node
    heard = subst (λ (v : World). IsHeard v node) (sym (after_all topology w (settling w beat) beat.sending))
        (along topology (λ v. IsHeard v node) beat.sending s heard_there step beat.sending [] (sym (append-nil beat.sending)))

  -- *Behind the beat*
  inside_then : (node : NodeId) (site : Site) → site_at (behind topology w beat) node ≡ Some site → IsNode topology node
  inside_then node site found = (runs_have_nodes policy topology (before ++ all) b.addresses b.run node site (ap (λ (v : World). site_at v node) (is_now all) ∙ found)).is_node.number

  lately : (n : ℕ) → n ≡ 0 → n < silence_limit
  lately n none = subst (λ (m : ℕ). m < silence_limit) (sym none) (omega arith)

  pub have_heard : BindsThroughout policy topology before beat → (node : NodeId) → HasHeard (behind topology w beat) node
  have_heard binds node = record {
    controller = λ site found. lately site.controller.adjacency.silence (one_number site.controller.adjacency.silence 0
        (sym (ap (option_map (λ (x : Site). x.controller.adjacency.silence)) found) ∙ (heard binds node (inside_then node site found)).controller));
    switch = λ site found. lately site.switch.adjacency.silence (one_number site.switch.adjacency.silence 0
        (sym (ap (option_map switches.silence_of) found) ∙ (heard binds node (inside_then node site found)).switch));
  }

pub beats_are_heard : HoldsInRuns IsWhole → BeatsAreHeard
beats_are_heard whole policy topology before beat ease b binds = have_heard whole policy topology before beat ease b binds
