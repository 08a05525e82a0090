-- along a calm stretch a flow comes to be served, as its packets are heard

use Rattle.std.proofs.Common.{◌≡◌, ℕ, suc, ◌<◌, ◌+◌, ◌&&◌, Bool, true, false, true≢false, List, [], ◌∷◌, ◌++◌, append-nil, Option, None, Some, refl, sym, ◌∙◌, ap, subst, arith, ◌⊎◌, inl, inr}
use Rattle.std.specs.Prelude.{is_some}
use Rattle.std.specs.List.{list_all}
use Rattle.std.specs.Option.{option_map_or}
use Rattle.world_model.specs.Words.{Up, Mark, FlowId, packet_flow, Setup, Label, Wiring, Offered, label_number, labels_of, has_room, default_home, default_payload, Session, Linked, linked_at, port_key, Topology, World, Site, next, world_after}
use Rattle.world_model.specs.Topology.{peer_of}
use Rattle.world_model.specs.network_model.declared.link.LinkEnd.{LinkEnd}
use Rattle.world_model.specs.network_model.declared.event.Event.{Event}
use Rattle.world_model.specs.network_model.declared.event.Event.TheVariants.{Inject, Carry, Lose, Tick, TickSwitch, Restart, RestartSwitch, Forge, Route}
use Rattle.world_model.specs.port_model.Counts.{Counted}
use Rattle.live_model.specs.Beats.{is_sending}
use Rattle.law_live_journeys.specs.law_run_facts.ordered_lists.Ordered.{InOrder}
use Rattle.law_live_journeys.proofs.law_run_facts.ordered_lists.Every.{every_map}
use Rattle.law_live_journeys.proofs.law_run_facts.law_port_facts.Keyed.{at_every}
use Rattle.calm_model.specs.Served.{OffersLabels}
use Rattle.law_live_journeys.specs.law_live_nodes.Law.{idle_work}
use Rattle.law_live_journeys.specs.law_live_hearing.Law.{world_at, Hears}
use Rattle.law_live_journeys.specs.law_live_worlds.Law.{Shows, end_of}
use Rattle.law_live_journeys.specs.law_live_bindings.Law.{IsHeldOrNew, AreBinding}
use Rattle.law_live_journeys.specs.law_live_bound.Law.{HoldsPacket}
use Rattle.law_live_journeys.specs.law_live_binding_beats.Law.{BindByQueues}
use Rattle.law_live_journeys.specs.Counts.{HearsMany, none_heard, heard, unheard}
use Rattle.law_live_ease.specs.Law.{Binds, PortHasRoom, IsCalmEvent}
use Rattle.law_live_ease.specs.Beats.{AreCalmEvents}
use Rattle.law_live_ease.specs.Binding.{StretchesBindOn}
use Rattle.law_live_ease.specs.Served.{IsServed, CanServeIn, FlowsComeToBeServed}
use Rattle.law_live_ease.proofs.ServedLists.{Serves, Found, served_found}
use Rattle.law_live_ease.proofs.ServedWorking.{Good, In}
use Rattle.law_live_ease.proofs.ServedHearing.{IsUncalled}
use Rattle.law_live_ease.proofs.ServedCounting.{IsKept, none_kept, many_kept, IsCounted, Lacks}
use Rattle.law_live_ease.proofs.ServedWalk.{Fits}
use Rattle.law_live_ease.proofs.ServedFrames.{IsReadyPort}
use Rattle.law_live_ease.proofs.ServedWorlds.{HasIn, enters, carries, heard as heard_there}

one_site : (x y : Site) → Some x ≡ Some y → x ≡ y
one_site x y e = cc

one_linked : (x y : Linked) → Some x ≡ Some y → x ≡ y
one_linked x y e = cc

-- *A port in session*
record IsOpen (o : Option Session) : Type 0 where
  session : Session
  is : o ≡ Some session

opened : (o : Option Session) → is_some o ≡ true → IsOpen o
opened None some = absurd (true≢false (sym some))
opened (Some s) some = record { session = s; is = refl }

-- *The far end* of a link, where the network binds and its port can serve
module _ (topology : Topology) (one far : LinkEnd) (linked_ends : peer_of topology one.node one.port ≡ Some far) where
  module _ (w : World) (b : Binds topology w) where
    abbrev ends : BindByQueues w one far
    ends = (b.links one far linked_ends).ends

    abbrev its : Linked
    its = ends.bind.far_linked

    abbrev its_shown : Shows w far its
    its_shown = ends.bind.far_shows

    binding : AreBinding (end_of ends.bind.linked ends.said) (end_of its ends.far_said)
    binding = ends.bind.binding

    its_session : IsOpen its.port.session
    its_session = opened its.port.session binding.other_end.in_session

    uncalled : (label : Label) → IsHeldOrNew its.setup.timers ends.bind.linked.setup ends.bind.linked.port.grants ends.far_said label → IsUncalled label.state
    uncalled label (inl held) = subst IsUncalled (sym held.offered) tt
    uncalled label (inr new) = by new.comes
      where
        by : {A B : Type 0} → ((label.state ≡ Wiring) × A) ⊎ ((label.state ≡ Offered) × B) → IsUncalled label.state
        by (inl wires) = subst IsUncalled (sym wires.0) tt
        by (inr tells) = subst IsUncalled (sym tells.0) tt

    ready : (flow : FlowId) → CanServeIn w far flow → IsReadyPort its.port
    ready flow can = record {
      up = binding.met.other_is_up;
      session = its_session.session;
      is_open = its_session.is;
      order = subst (λ (o : Option Session). InOrder (λ (a b : Label). label_number a < label_number b) (option_map_or (λ (s : Session). s.labels) o [])) its_session.is binding.other_end.labels_apart;
      uncalled = every_map (IsHeldOrNew its.setup.timers ends.bind.linked.setup ends.bind.linked.port.grants ends.far_said) (λ (label : Label). IsUncalled label.state) (labels_of its.port) uncalled binding.back.labels;
      few = (can its its_session.session its_shown its_session.is).few;
    }

  -- *A stretch from here*
  record Follows (w : World) (flow : FlowId) (events : List Event) : Type 0 where
    sends : list_all is_sending events ≡ true
    calm : AreCalmEvents topology w events
    binds : (front rest : List Event) → events ≡ front ++ rest → Binds topology (world_after topology w front)
    can : (front rest : List Event) → events ≡ front ++ rest → CanServeIn (world_after topology w front) far flow

  both_first : (a b : Bool) → (a && b) ≡ true → a ≡ true
  both_first true b e = refl
  both_first false b e = absurd (cc e)

  both_second : (a b : Bool) → (a && b) ≡ true → b ≡ true
  both_second true b e = e
  both_second false b e = absurd (cc e)

  later : (w : World) (flow : FlowId) (event : Event) (events : List Event) → Follows w flow (event ∷ events) → Follows (next topology w event) flow events
  later w flow event events f = record {
    sends = both_second (is_sending event) (list_all is_sending events) f.sends;
    calm = λ front rest x e. f.calm (event ∷ front) rest x (ap (λ (es : List Event). event ∷ es) e);
    binds = λ front rest e. f.binds (event ∷ front) rest (ap (λ (es : List Event). event ∷ es) e);
    can = λ front rest e. f.can (event ∷ front) rest (ap (λ (es : List Event). event ∷ es) e);
  }

  module _ (setup : Setup) (flow : FlowId) where
    abbrev Has : (List Counted → Type 0) → World → Type 0
    Has Q w = HasIn topology far setup flow Q w

    -- *Behind an event* that is sent
    module _ (Q : List Counted → Type 0) (kept : IsKept Q) where
      event_keeps : (w : World) (event : Event) → is_sending event ≡ true → Binds topology w → CanServeIn w far flow → Has Q w → Has Q (next topology w event)
      event_keeps w (Inject node octets) sends b can h = enters topology far setup flow Q w (its w b) (its_shown w b) node octets h
      event_keeps w (Carry place) sends b can h = carries topology far setup flow Q w (its w b) (its_shown w b) kept (ready w b flow can) h place
      event_keeps w (Lose place) sends b can h = absurd (true≢false (sym sends))
      event_keeps w (Tick node) sends b can h = absurd (true≢false (sym sends))
      event_keeps w (TickSwitch node) sends b can h = absurd (true≢false (sym sends))
      event_keeps w (Restart node) sends b can h = absurd (true≢false (sym sends))
      event_keeps w (RestartSwitch node) sends b can h = absurd (true≢false (sym sends))
      event_keeps w (Forge place channel payload) sends b can h = absurd (true≢false (sym sends))
      event_keeps w (Route node change) sends b can h = absurd (true≢false (sym sends))

      first_keeps : (w : World) (event : Event) (events : List Event) → Follows w flow (event ∷ events) → Has Q w → Has Q (next topology w event)
      first_keeps w event events f h = event_keeps w event (both_first (is_sending event) (list_all is_sending events) f.sends) (f.binds [] (event ∷ events) refl) (f.can [] (event ∷ events) refl) h

      all_keep : (events : List Event) (w : World) → Follows w flow events → Has Q w → Has Q (world_after topology w events)
      all_keep [] w f h = h
      all_keep (event ∷ events) w f h = all_keep events (next topology w event) (later w flow event events f) (first_keeps w event events f h)

    abbrev Never : List Counted → Type 0
    Never counts = ⊥

    -- *Its port* is the one that shows there
    fits_here : (Q : List Counted → Type 0) (w : World) (linked : Linked) (shows : Shows w far linked) → Has Q w → Fits far.port setup (In flow Q) linked
    fits_here Q w linked shows h = h shows.site shows.there linked shows.of_port

    here_fits : (Q : List Counted → Type 0) (w : World) (linked : Linked) (shows : Shows w far linked) → Fits far.port setup (In flow Q) linked → Has Q w
    here_fits Q w linked shows fits site found now of_port = subst (Fits far.port setup (In flow Q))
        (one_linked linked now (sym shows.of_port ∙ (ap (λ (s : Site). linked_at s.controller far.port) (one_site shows.site site (sym shows.there ∙ found)) ∙ of_port))) fits

    -- *So far* the flow is served, or so many of its packets are counted, and they are too few
    module _ (wanted : ℕ) (policy : OffersLabels setup.policy flow wanted) where
      abbrev SoFar : World → (k : ℕ) → Type 0
      SoFar w k = Has Never w ⊎ ((k < wanted) × Has (IsCounted flow k) w)

      either : (w : World) (b : Binds topology w) (k : ℕ) → Has (Lacks flow wanted k) w → SoFar w k
      either w b k h = by (subst (In flow (Lacks flow wanted k)) s.is fits.1)
        where
          s : IsOpen (its w b).port.session
          s = its_session w b

          fits : Fits far.port setup (In flow (Lacks flow wanted k)) (its w b)
          fits = fits_here (Lacks flow wanted k) w (its w b) (its_shown w b) h

          so : (Q : List Counted → Type 0) → Good flow Q s.session → Has Q w
          so Q good = here_fits Q w (its w b) (its_shown w b) (fits.0, subst (In flow Q) (sym s.is) good)

          by : Good flow (Lacks flow wanted k) s.session → SoFar w k
          by (inl serve) = inl (so Never (inl serve))
          by (inr q) = inr (q.0, so (IsCounted flow k) (inr q.1))

      -- *One more is heard*
      one_heard : (w : World) (events : List Event) (mark : Mark) (packet : List ℕ) (k : ℕ) → Follows w flow (Carry (Up far.node) ∷ events)
          → Hears topology w far.node (default_home far.port).channel mark (default_payload packet) → HoldsPacket (default_payload packet) packet → packet_flow packet ≡ Some flow
          → SoFar w k → SoFar (next topology w (Carry (Up far.node))) (suc k)
      one_heard w events mark packet k f hears holds of_flow (inl served) = inl (first_keeps Never none_kept w (Carry (Up far.node)) events f served)
      one_heard w events mark packet k f hears holds of_flow (inr so_far) = either (next topology w (Carry (Up far.node))) (f.binds (Carry (Up far.node) ∷ []) events refl) (suc k)
          (heard_there topology far setup flow w (its w b) (its_shown w b) is_ready (binding w b).other_end.of_link wanted k policy room
          (can (its w b) is_ready.session (its_shown w b) is_ready.is_open).spare mark packet hears holds of_flow so_far.0 so_far.1)
        where
          b : Binds topology w
          b = f.binds [] (Carry (Up far.node) ∷ events) refl

          can : CanServeIn w far flow
          can = f.can [] (Carry (Up far.node) ∷ events) refl

          is_ready : IsReadyPort (its w b).port
          is_ready = ready w b flow can

          calm : IsCalmEvent topology w (Carry (Up far.node))
          calm = f.calm [] events (Carry (Up far.node)) refl

          room : has_room (its_shown w b).site.controller.desk (idle_work (its w b)) ≡ true
          room = (at_every port_key (PortHasRoom (its_shown w b).site) far.port.0 (its_shown w b).site.controller.ports (its w b)
              (calm.room.ports far.node (its_shown w b).site (its_shown w b).there) (its_shown w b).of_port).requests

      goes : (w : World) (events : List Event) (n k m : ℕ) → HearsMany topology far flow w events n → m ≡ n + k → Follows w flow events → SoFar w k → SoFar (world_after topology w events) m
      goes _ _ _ k m (none_heard w events) e f (inl served) = inl (all_keep Never none_kept events w f served)
      goes _ _ _ k m (none_heard w events) e f (inr so_far) = subst (SoFar (world_after topology w events)) (no_more k m e) (inr (so_far.0, all_keep (IsCounted flow k) (many_kept flow k) events w f so_far.1))
        where
          no_more : (k m : ℕ) → m ≡ 0 + k → k ≡ m
          no_more k m e = omega (arith, e)
      goes _ _ _ k m (heard w later_events before mark packet hears holds of_flow rest) e f so_far =
          goes (next topology w (Carry (Up far.node))) later_events before (suc k) m rest (moved m before k e) (later w flow (Carry (Up far.node)) later_events f)
          (one_heard w later_events mark packet k f hears holds of_flow so_far)
        where
          moved : (m n k : ℕ) → m ≡ suc n + k → m ≡ n + suc k
          moved m n k e = omega (arith, e)
      goes _ _ _ k m (unheard w event later_events n rest) e f (inl served) =
          goes (next topology w event) later_events n k m rest e (later w flow event later_events f) (inl (first_keeps Never none_kept w event later_events f served))
      goes _ _ _ k m (unheard w event later_events n rest) e f (inr so_far) =
          goes (next topology w event) later_events n k m rest e (later w flow event later_events f)
          (inr (so_far.0, first_keeps (IsCounted flow k) (many_kept flow k) w event later_events f so_far.1))

      -- *In the end* it is served
      ends_served : (w : World) (b : Binds topology w) → Has Never w → IsServed w far flow
      ends_served w b h = record {
        linked = its w b;
        shows = its_shown w b;
        session = s.session;
        is_open = s.is;
        label = found.label;
        served = found.is;
      }
        where
          s : IsOpen (its w b).port.session
          s = its_session w b

          serves_it : Good flow Never s.session → Serves flow s.session.labels
          serves_it (inl serve) = serve
          serves_it (inr never) = absurd never

          found : Found flow s.session.labels
          found = served_found flow s.session.labels (serves_it (subst (In flow Never) s.is (fits_here Never w (its w b) (its_shown w b) h).1))

  -- *From the start* none is counted
  begins : (w : World) (linked : Linked) (flow : FlowId) (shows : Shows w far linked) → HasIn topology far linked.setup flow (IsCounted flow 0) w
  begins w linked flow shows = here_fits linked.setup flow (IsCounted flow 0) w linked shows (refl, by linked.port.session)
    where
      by : (o : Option Session) → In flow (IsCounted flow 0) o
      by None = tt
      by (Some s) = inr (omega arith)

pub flows_come_to_be_served : StretchesBindOn → FlowsComeToBeServed
flows_come_to_be_served stretches policy topology before events one far linked flow wanted n stretch b at shows offers can many enough =
    by (goes topology one far at linked.setup flow wanted offers w events n 0 (n + 0) many refl follows (inr (offers.some, begins topology one far at w linked flow shows)))
  where
    w : World
    w = world_at policy topology before

    binds : (front rest : List Event) → events ≡ front ++ rest → Binds topology (world_after topology w front)
    binds = stretches policy topology before events stretch b

    follows : Follows topology one far at w flow events
    follows = record { sends = stretch.sends; calm = stretch.calm; binds = binds; can = can }

    by : SoFar topology one far at linked.setup flow wanted offers (world_after topology w events) (n + 0) → IsServed (world_after topology w events) far flow
    by (inl served) = ends_served topology one far at linked.setup flow wanted offers (world_after topology w events) (binds events [] (sym (append-nil events))) served
    by (inr so_far) = absurd (omega (arith, enough, so_far.0))
