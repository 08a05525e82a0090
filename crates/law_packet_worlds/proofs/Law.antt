-- each event keeps packets once, and what cells mean

use Rattle.std.proofs.Common.{◌≡◌, ◌⊎◌, inl, inr, ℕ, zero, suc, ◌+◌, true, false, List, [], ◌∷◌, ◌++◌, length, Option, None, Some, refl, sym, ◌∙◌, ap, subst, arith}
use Rattle.std.specs.Prelude.{nat_le, slice_get}
use Rattle.std.specs.List.{list_any}
use Rattle.law_arrival_views.specs.world_model.Words.{NodeId, Place, Down, Up, Out, Channel, Mark, PortNo, next_control, with_control, Record, Refused, Forged, Loss, PoolFull, Refusal, noted, made, frame_cells, Policy, Controller, inject_refusal, injected, Topology, IsTopology, IsNode, IsEvent, World, Site, site_at, controller_acts, switch_acts, injects_by, forges, tallied, put_away, Reaches, sent_by, Past, past_of, IsTame, is_wild, WasAccepted}
use Rattle.law_arrival_views.specs.world_model.frame_model.Sending.{Sender as SentFrame}
use Rattle.law_arrival_views.proofs.law_port_facts.Keyed.{on_both}
use Rattle.law_arrival_views.specs.world_model.Switch as switches
use Rattle.law_arrival_views.specs.world_model.Conduct as switch
use Rattle.law_arrival_views.specs.world_model.Controller.{Acted, free_slots}
use Rattle.law_arrival_views.specs.world_model.Sending.{with_cells, sends}
use Rattle.law_arrival_views.specs.world_model.network_model.declared.event.Event.{Event}
use Rattle.law_arrival_views.specs.world_model.network_model.declared.event.Event.TheVariants.{Inject, Carry, Lose, Tick, TickSwitch, Restart, RestartSwitch, Forge, Route}
use Rattle.law_arrival_views.specs.world_model.World.{at_controller, at_switch}
use Rattle.law_arrival_views.specs.world_model.Step.{note, acts}
use Rattle.law_arrival_views.specs.world_model.Reached.{Sent, sent_here}
use Rattle.law_run_facts.specs.law_world_views.Marks.{HasCome, IsNewest}
use Rattle.law_run_facts.specs.law_world_views.Between.{IsWorld}
use Rattle.law_run_facts.specs.law_world_views.Kept.{Comes, behind}
use Rattle.law_run_facts.proofs.Nodes.{runs_have_nodes}
use Rattle.law_run_facts.proofs.Rooms.{runs_keep_nodes}
use Rattle.law_run_facts.proofs.Steps.{pasts_are_whole, events_are_steps, pasts_stay, runs_have_fronts}
use Rattle.law_run_facts.specs.Nodes.{IsNodeOfRun, HasSite}
use Rattle.law_run_facts.specs.Steps.{IsPast, IsStep, Stays, HasFront}
use Rattle.law_packet_worlds.proofs.Cut.{one}
use Rattle.law_packet_worlds.proofs.Good.{nothing}
use Rattle.law_packet_worlds.proofs.Meant.{in_frames}
use Rattle.law_packet_worlds.specs.Channels.{HasChannels}
use Rattle.law_packet_worlds.specs.Law.{PacketsAreKept}
use Rattle.law_packet_worlds.proofs.Worlds.{IsNet, IsGoodWorld}
use Rattle.law_packet_worlds.proofs.Nets.{world_net}
use Rattle.law_packet_worlds.proofs.Turns.{IsKnownWorld, Ends, noted_world}
use Rattle.law_packet_worlds.proofs.Sites.{known}
use Rattle.law_packet_worlds.proofs.Events.{loses, carries, ticks_at, restarts_at, changes_at, injects_at, switch_ticks_at, switch_restarts_at}
use Rattle.law_packet_worlds.proofs.Starts.{timed, is_base, accepted_before, starts_good, enters_good, refused_good}
use Rattle.law_packet_worlds.proofs.Behind.{packets_behind}

-- *A frame that is forged* leaves a record
forged_wild : (topology : Topology) (w : World) (place : Place) (channel : Channel) (payload : List ℕ) → w.notes.records ≡ [] → list_any is_wild (forges w place channel payload).notes.records ≡ true
forged_wild topology w place channel payload none = by place
  where
    forged : (place : Place) → list_any is_wild (w.notes.records ++ Forged place ∷ []) ≡ true
    forged p = ap (λ (rs : List Record). list_any is_wild (rs ++ Forged p ∷ [])) none

    more : (place : Place) (mark : Mark) → list_any is_wild ((w.notes.records ++ Forged place ∷ []) ++ Loss mark PoolFull ∷ []) ≡ true
    more p mark = ap (λ (rs : List Record). list_any is_wild ((rs ++ Forged p ∷ []) ++ Loss mark PoolFull ∷ [])) none

    sent : (p : Place) (a : Acted) → a.notes.records ≡ w.notes.records ++ Forged p ∷ [] → (mark : Mark) → list_any is_wild (sends a channel mark payload).notes.records ≡ true
    sent p a same mark = on_both (λ (s : SentFrame Controller). list_any is_wild s.notes.records ≡ true) (nat_le (length (frame_cells channel mark payload)) (free_slots a.controller))
        (record { queues = with_cells a.controller (frame_cells channel mark payload); notes = made a.notes mark payload })
        (record { queues = a.controller; notes = noted (made a.notes mark payload) (Loss mark PoolFull) })
        (ap (list_any is_wild) same ∙ forged p) (ap (λ (rs : List Record). list_any is_wild (rs ++ Loss mark PoolFull ∷ [])) same ∙ more p mark)

    put : (p : Place) (port : PortNo) (a : switches.ActedSwitch) → a.notes.records ≡ w.notes.records ++ Forged p ∷ [] → (mark : Mark) → list_any is_wild (switch.forged a port channel mark payload).notes.records ≡ true
    put p port a same mark = on_both (λ (s : SentFrame switches.Switch). list_any is_wild s.notes.records ≡ true) (nat_le (length (frame_cells channel mark payload)) (switches.free_slots a.switch))
        (record { queues = switch.with_cells a.switch port (frame_cells channel mark payload); notes = made a.notes mark payload })
        (record { queues = a.switch; notes = noted (made a.notes mark payload) (Loss mark PoolFull) })
        (ap (list_any is_wild) same ∙ forged p) (ap (λ (rs : List Record). list_any is_wild (rs ++ Loss mark PoolFull ∷ [])) same ∙ more p mark)

    acts_on : (p : Place) (v : World) (n : NodeId) (act : Acted → Acted) → v.notes.records ≡ w.notes.records ++ Forged p ∷ [] → ((a : Acted) → a.notes.records ≡ w.notes.records ++ Forged p ∷ [] → list_any is_wild (act a).notes.records ≡ true)
        → list_any is_wild (at_controller v n act).notes.records ≡ true
    acts_on p v n act same each = by_site (site_at v n)
      where
        by_site : (o : Option Site) → list_any is_wild (controller_acts v o act).notes.records ≡ true
        by_site None = ap (list_any is_wild) same ∙ forged p
        by_site (Some site) = each (record { controller = site.controller; notes = v.notes; numbers = v.numbers }) same

    switches_on : (p : Place) (v : World) (n : NodeId) (act : switches.ActedSwitch → switches.ActedSwitch) → v.notes.records ≡ w.notes.records ++ Forged p ∷ [] → ((a : switches.ActedSwitch) → a.notes.records ≡ w.notes.records ++ Forged p ∷ [] → list_any is_wild (act a).notes.records ≡ true)
        → list_any is_wild (at_switch v n act).notes.records ≡ true
    switches_on p v n act same each = by_site (site_at v n)
      where
        by_site : (o : Option Site) → list_any is_wild (switch_acts v o act).notes.records ≡ true
        by_site None = ap (list_any is_wild) same ∙ forged p
        by_site (Some site) = each (record { switch = site.switch; notes = v.notes; numbers = v.numbers }) same

    by : (place : Place) → list_any is_wild (forges w place channel payload).notes.records ≡ true
    by (Down n) = acts_on (Down n) (record (note w (Forged (Down n))) { numbers = with_control w.numbers }) n (λ a. sends a channel (next_control w.numbers) payload) refl (λ a same. sent (Down n) a same (next_control w.numbers))
    by (Up n) = switches_on (Up n) (record (note w (Forged (Up n))) { numbers = with_control w.numbers }) n (λ a. switch.forged a switches.control_port channel (next_control w.numbers) payload) refl (λ a same. put (Up n) switches.control_port a same (next_control w.numbers))
    by (Out n p) = switches_on (Out n p) (record (note w (Forged (Out n p))) { numbers = with_control w.numbers }) n (λ a. switch.forged a p channel (next_control w.numbers) payload) refl (λ a same. put (Out n p) p a same (next_control w.numbers))

module _ (policy : Policy) (topology : Topology) (before : List Event) (event : Event) (comes : Comes policy topology before event)
    (is : IsWorld (past_of policy topology before)) (channels : HasChannels (past_of policy topology before)) where
  abbrev P : Past
  P = past_of policy topology before

  abbrev B : Past
  B = record (behind policy topology before event) { records = (past_of policy topology before).records }

  abbrev w : World
  w = put_away (past_of policy topology before).now

  front : HasFront policy topology before event
  front = runs_have_fronts policy topology before event comes

  topology_is : IsTopology topology
  topology_is = comes.run.topology_is

  whole : IsPast P
  whole = pasts_are_whole policy topology before

  steps : IsStep P (behind policy topology before event) event
  steps = events_are_steps policy topology before event

  stay : Stays P (behind policy topology before event)
  stay = pasts_stay policy topology before event

  nodes : (node : NodeId) (site : Site) → site_at P.now node ≡ Some site → IsNodeOfRun policy P node site
  nodes = runs_have_nodes policy topology before comes.addresses front.run

  there : (node : NodeId) → IsNode topology node → HasSite P.now node
  there = runs_keep_nodes policy topology before front.run

  net : IsNet topology w
  net = (let n : IsNet topology P.now = world_net policy topology before nodes there in record { shaped = n.shaped; within = n.within })

  known_world : IsKnownWorld B (length before) w
  known_world node site found = known policy P topology_is node site found (nodes node site found) is.users is.hops (is.shapes node site found) B (length before) (is_base policy topology before event is channels whole steps stay)

  long : length B.events ≡ suc (length before)
  long = timed policy topology before event is channels whole steps stay

  now_is : (behind policy topology before event).now ≡ tallied w (acts topology w event)
  now_is = steps.now

  tame : IsTame (acts topology w event).notes.records
  tame = subst (λ (z : World). IsTame z.notes.records) now_is front.new_tame

  -- no packet enters in the other events
  old_ones : sent_by (length before) (event ∷ []) ≡ [] → (k : ℕ) → WasAccepted B k → WasAccepted P k
  old_ones none k was = by (accepted_before policy topology before event is channels whole steps stay k was)
    where
      by : WasAccepted P k ⊎ ((j : ℕ) × (k ≡ suc (length P.history.sent + j)) × ((s : Sent) × (slice_get (sent_by (length before) (event ∷ [])) j ≡ Some s) × (inject_refusal s.packet ≡ None))) → WasAccepted P k
      by (inl old) = old
      by (inr (j, numbered, (s, got, accepted))) = (let clash : None ≡ Some s = ap (λ (ss : List Sent). slice_get ss j) (sym none) ∙ got in absurd (cc clash))

  good_start : sent_by (length before) (event ∷ []) ≡ [] → IsGoodWorld B (length before) nothing w
  good_start none = starts_good policy topology before event is channels whole steps stay (old_ones none)

  -- *A packet enters*, or is refused
  entered : (k : ℕ) (node : NodeId) (octets : List ℕ) → event ≡ Inject node octets → WasAccepted B k → WasAccepted P k ⊎ ((k ≡ P.now.sent + 1) × (inject_refusal octets ≡ None))
  entered k node octets same was = by (accepted_before policy topology before event is channels whole steps stay k was)
    where
      by : WasAccepted P k ⊎ ((j : ℕ) × (k ≡ suc (length P.history.sent + j)) × ((s : Sent) × (slice_get (sent_by (length before) (event ∷ [])) j ≡ Some s) × (inject_refusal s.packet ≡ None)))
          → WasAccepted P k ⊎ ((k ≡ P.now.sent + 1) × (inject_refusal octets ≡ None))
      by (inl old) = inl old
      by (inr (zero, numbered, (s, got, accepted))) =
          let one_sent : Some (record { node = node; packet = octets; time = length before }) ≡ Some s = sym (ap (λ (e : Event). slice_get (sent_by (length before) (e ∷ [])) 0) same) ∙ got in
          let s_is : record { node = node; packet = octets; time = length before } ≡ s = cc in
          inr (omega (arith, numbered, whole.sent), ap (λ (x : Sent). inject_refusal x.packet) s_is ∙ accepted)
      by (inr (suc j, numbered, (s, got, accepted))) =
          (let clash : None ≡ Some s = sym (ap (λ (e : Event). slice_get (sent_by (length before) (e ∷ [])) (suc j)) same) ∙ got in absurd (cc clash))

  sent_new : (node : NodeId) (octets : List ℕ) → event ≡ Inject node octets → slice_get B.history.sent (length P.history.sent) ≡ Some (record { node = node; packet = octets; time = length before })
  sent_new node octets same = ap (λ (ss : List Sent). slice_get ss (length P.history.sent)) steps.sent ∙ (at_end P.history.sent (sent_by (length before) (event ∷ [])) ∙ ap (λ (e : Event). slice_get (sent_by (length before) (e ∷ [])) 0) same)
    where
      at_end : (xs ys : List Sent) → slice_get (xs ++ ys) (length xs) ≡ slice_get ys 0
      at_end [] ys = refl
      at_end (x ∷ xs) ys = at_end xs ys

  injects_ends : (node : NodeId) (octets : List ℕ) → event ≡ Inject node octets → IsEvent topology P.now (Inject node octets) → (o : Option Refusal) → inject_refusal octets ≡ o
      → Ends B (length before) w (injects_by (record w { sent = w.sent + 1 }) node octets o)
  injects_ends node octets same meant (Some name) refused =
      let good : IsGoodWorld B (length before) nothing (record w { sent = P.now.sent + 1 }) = refused_good policy topology before event is channels whole steps stay (λ k was. by_entered k (entered k node octets same was)) in
      record { good = noted_world B topology_is (length before) long (record w { sent = P.now.sent + 1 }) (Refused node (w.sent + 1) name) refl tt (λ k. refl) good; binds = inl refl }
    where
      by_entered : (k : ℕ) → WasAccepted P k ⊎ ((k ≡ P.now.sent + 1) × (inject_refusal octets ≡ None)) → WasAccepted P k
      by_entered k (inl old) = old
      by_entered k (inr new) = (let clash : None ≡ Some name = sym new.1 ∙ refused in absurd (cc clash))
  injects_ends node octets same meant None accepted =
      let v : World = record w { sent = P.now.sent + 1 } in
      let good : IsGoodWorld B (length before) (one (P.now.sent + 1)) v = enters_good policy topology before event is channels whole steps stay (λ k was. by_entered k (entered k node octets same was)) in
      let number : P.now.sent + 1 ≡ suc (length P.history.sent) = omega (arith, whole.sent) in
      let come : HasCome (in_frames B v.notes.frames) (P.now.sent + 1) node octets = record {
        counted = omega arith;
        fit = record { accepted = accepted; octets = meant.1 };
        time = length before;
        so_far = omega (arith, long);
        reached = subst (λ (k : ℕ). Reaches topology B.history k node octets (length before)) (sym number)
            (sent_here (length P.history.sent) (record { node = node; packet = octets; time = length before }) (sent_new node octets same) accepted);
      } in
      let newest : IsNewest v.notes.frames (record { packet = P.now.sent + 1; frame = 0 }) = λ i later. is.packets.unsent (P.now.sent + 1) i (omega arith) in
      let v_net : IsNet topology v = record { shaped = net.shaped; within = net.within } in
      let e : Ends B (length before) v (at_controller v node (λ a. injected a (P.now.sent + 1) octets)) =
      injects_at B topology_is (length before) long v v_net (λ n site found. known_world n site found) refl node octets (P.now.sent + 1) meant.0 come newest good in
      record { good = e.good; binds = e.binds }
    where
      by_entered : (k : ℕ) → WasAccepted P k ⊎ ((k ≡ P.now.sent + 1) × (inject_refusal octets ≡ None)) → WasAccepted P k ⊎ (k ≡ P.now.sent + 1)
      by_entered k (inl old) = inl old
      by_entered k (inr new) = inr new.0

  -- *Each event*
  by_event : (e : Event) → event ≡ e → IsEvent topology P.now e → IsTame (acts topology w e).notes.records → Ends B (length before) w (acts topology w e)
  by_event (Inject node octets) same meant calm = injects_ends node octets same meant (inject_refusal octets) refl
  by_event (Carry place) same meant calm = carries B topology_is (length before) long w net known_world refl place meant (good_start (ap (λ (e : Event). sent_by (length before) (e ∷ [])) same)) calm
  by_event (Lose place) same meant calm = loses B topology_is (length before) long w net known_world refl place meant (good_start (ap (λ (e : Event). sent_by (length before) (e ∷ [])) same))
  by_event (Tick node) same meant calm = ticks_at B topology_is (length before) long w net known_world refl node meant (good_start (ap (λ (e : Event). sent_by (length before) (e ∷ [])) same))
  by_event (TickSwitch node) same meant calm = switch_ticks_at B topology_is (length before) long w net known_world refl node meant (good_start (ap (λ (e : Event). sent_by (length before) (e ∷ [])) same))
  by_event (Restart node) same meant calm = restarts_at B topology_is (length before) long w net known_world refl node meant (good_start (ap (λ (e : Event). sent_by (length before) (e ∷ [])) same))
  by_event (RestartSwitch node) same meant calm = switch_restarts_at B topology_is (length before) long w net known_world refl node meant (good_start (ap (λ (e : Event). sent_by (length before) (e ∷ [])) same))
  by_event (Forge place channel payload) same meant calm =
      (let clash : true ≡ false = sym (forged_wild topology w place channel payload refl) ∙ calm in absurd (cc clash))
  by_event (Route node change) same meant calm = changes_at B topology_is (length before) long w net known_world refl node change meant.there (good_start (ap (λ (e : Event). sent_by (length before) (e ∷ [])) same))

  pub event_ends : Ends B (length before) w (acts topology w event)
  event_ends = by_event event refl front.can.meant tame

pub packets_are_kept : PacketsAreKept
packets_are_kept policy topology before event comes is channels unused =
    packets_behind policy topology comes.run.topology_is before event is channels (pasts_are_whole policy topology before) (events_are_steps policy topology before event) (pasts_stay policy topology before event)
    unused
    (acts topology (put_away (past_of policy topology before).now) event) (now_is policy topology before event comes is channels) (event_ends policy topology before event comes is channels)
