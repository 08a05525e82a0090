-- a link once no queue has a cell: the label of a flow that comes over it, and the grant at the other end

use Rattle.std.proofs.Common.{◌≡◌, ◌≢◌, ℕ, ◌<◌, ◌&&◌, Bool, true, false, List, [], ◌∷◌, ◌++◌, append-nil, map, Contains, Option, Some, refl, sym, ◌∙◌, ap, subst, arith}
use Rattle.std.specs.Option.{option_map_or}
use Rattle.world_model.specs.Words.{Policy, FlowId, same_flow, serves, Setup, setup_of, Label, label_number, label_at, labels_of, label_for, Grant, GrantState, Idle, ByController, ByInput, Leaving, is_leaving, grant_label, Session, Linked, linked_end, port_key, at, ranges_of, timers_of, Topology, World, IsRun, past_of}
use Rattle.world_model.specs.Topology.{peer_of}
use Rattle.world_model.specs.network_model.declared.link.LinkEnd.{LinkEnd}
use Rattle.world_model.specs.network_model.declared.event.Event.{Event}
use Rattle.calm_model.specs.Served.{IsFreeLink, IsNewLink}
use Rattle.law_live_ease.specs.law_port_facts.ordered_lists.Ordered.{Every, InOrder}
use Rattle.law_live_ease.proofs.law_port_facts.ordered_lists.Every.{every_all, every_map, every_mapped, every_unmapped}
use Rattle.law_live_ease.proofs.law_port_facts.Keyed.{at_key, at_every, each_found}
use Rattle.law_live_ease.proofs.law_port_facts.Found.{find_passes, find_every}
use Rattle.law_live_ease.proofs.law_causes.Shown.{peer_back}
use Rattle.law_live_ease.specs.law_run_facts.Nodes.{IsNodeOfRun}
use Rattle.law_live_ease.proofs.law_run_facts.Nodes.{runs_have_nodes}
use Rattle.law_live_ease.specs.law_run_facts.law_world_views.Fronts.{HasAddresses}
use Rattle.law_live_ease.proofs.law_run_facts.law_controller_bindings.Flows.{one_flow}
use Rattle.law_live_ease.specs.law_live_links.Law.{IsAgreedOn}
use Rattle.law_live_ease.specs.law_live_worlds.Law.{Shows, end_of, AgreeIn}
use Rattle.law_live_ease.specs.law_live_hearing.Law.{world_at}
use Rattle.law_live_ease.specs.Law.{IsAtEase}
use Rattle.law_live_ease.specs.Served.{IsServed}
use Rattle.law_live_ease.specs.AtEase.{EndsAgree, EndsAtEaseAgree}
use Rattle.law_live_cut_through.specs.Law.{HoldsLabel, HoldsGrant, ServesAlone, IsLabelled}
use Rattle.law_live_cut_through.proofs.FirstShown.{end_shows, one_linked, first_of, behind_first, among}
use Rattle.law_live_cut_through.proofs.FirstStretches.{Laws, IsSending, unjoined, unlent}
use Rattle.law_live_cut_through.proofs.FirstHops.{HoldsIn}

-- *The policy* of a run is that of each of its ports
module _ (policy : Policy) (topology : Topology) (events : List Event) (addresses : HasAddresses topology) (run : IsRun policy topology events)
    (end : LinkEnd) (linked : Linked) (shows : Shows (world_at policy topology events) end linked) where
  n : IsNodeOfRun policy (past_of policy topology events) end.node shows.site
  n = runs_have_nodes policy topology events addresses run end.node shows.site shows.there

  abbrev Its : Setup → Type 0
  Its setup = setup.policy ≡ policy

  all : Every Its (map (setup_of end.node n.is_node.there.address (timers_of topology) policy) (ranges_of topology end.node n.is_node.there))
  all = every_mapped (setup_of end.node n.is_node.there.address (timers_of topology) policy) Its (ranges_of topology end.node n.is_node.there)
      (every_all _ (ranges_of topology end.node n.is_node.there) (λ range. refl))

  each : Every (λ (l : Linked). Its l.setup) shows.site.controller.ports
  each = every_unmapped (λ (l : Linked). l.setup) Its shows.site.controller.ports (subst (Every Its) (sym n.is_node.setups) all)

  pub policy_is : linked.setup.policy ≡ policy
  policy_is = at_every port_key (λ (l : Linked). Its l.setup) end.port.0 shows.site.controller.ports linked each shows.of_port

-- *Each of a list* is so, where all that are among it are
each_among : {A : Type 0} (P : A → Type 0) (xs : List A) → ((x : A) → Contains xs x → P x) → Every P xs
each_among P [] holds = tt
each_among P (x ∷ xs) holds = (holds x (first_of x xs), each_among P xs (λ y c. holds y (behind_first x xs y c)))

apart_so : (labels : List Label) → InOrder (λ (a b : Label). label_number a < label_number b) labels → InOrder (λ (a b : Label). label_number a ≢ label_number b) labels
apart_so [] h = tt
apart_so (x ∷ xs) h = (
  every_map (λ (b : Label). label_number x < label_number b) (λ (b : Label). label_number x ≢ label_number b) xs
      (λ b less same. omega (arith, less, same)) h.0,
  apart_so xs h.1,
)

second_so : (a b : Bool) → (a && b) ≡ true → b ≡ true
second_so true b e = e
second_so false b e = absurd (cc e)

-- *Where the network is at ease* in the end
module _ (agree_then : EndsAtEaseAgree) (laws : Laws) (policy : Policy) (topology : Topology) (past events : List Event) (s : IsSending policy topology past events)
    (ease : IsAtEase topology (world_at policy topology (past ++ events))) where
  abbrev w : World
  w = world_at policy topology (past ++ events)

  module _ (one far : LinkEnd) (led : peer_of topology one.node one.port ≡ Some far) (flow : FlowId) (new : IsNewLink (world_at policy topology past) one far flow) where
    abbrev rest : AgreeIn w one far [] []
    rest = (ease.peace.lasting.peace.links one far led).agree

    abbrev its : Linked
    its = rest.linked

    abbrev other : Linked
    other = rest.far_linked

    agree : EndsAgree other its
    agree = agree_then topology w far one other its s.stretch.run.topology_is ease (peer_back topology s.stretch.run.topology_is one far led).back rest.far_shows rest.shows

    far_shown : linked_end w far ≡ Some other
    far_shown = end_shows w far other rest.far_shows

    order : InOrder (λ (a b : Label). label_number a < label_number b) (labels_of other.port)
    order = rest.agreed.other_end.labels_apart

    -- *A label that serves the flow* is held
    module _ (v : IsServed w far flow) where
      abbrev label : Label
      label = v.label

      abbrev test : Label → Bool
      test l = serves l.state && same_flow l.flow flow

      abbrev labels : List Label
      labels = labels_of other.port

      same : v.linked ≡ other
      same = one_linked w far v.linked other (end_shows w far v.linked v.shows) far_shown

      serves_it : label_for labels flow ≡ Some label
      serves_it = ap (λ (l : Linked). label_for (labels_of l.port) flow) (sym same)
          ∙ (ap (λ (o : Option Session). label_for (option_map_or (λ (x : Session). x.labels) o []) flow) v.is_open ∙ v.served)

      passes : test label ≡ true
      passes = find_passes test labels label serves_it

      on : IsAgreedOn (end_of other []) (end_of its []) label
      on = find_every (IsAgreedOn (end_of other []) (end_of its [])) test labels label agree.labels serves_it

      held : label_at other.port label.number ≡ Some label
      held = find_every (λ (l : Label). at label_number (label_number l) labels ≡ Some l) test labels label (each_found label_number labels (apart_so labels order)) serves_it

      holds : HoldsLabel w far label.number flow label.join
      holds = record {
        linked = other;
        shown = far_shown;
        label = label;
        held = held;
        offered = on.offered;
        of_flow = one_flow label.flow flow (second_so (serves label.state) (same_flow label.flow flow) passes);
        joined = refl;
      }

      pub served_holds : HoldsIn policy topology past events far flow
      served_holds = record {
        number = label.number;
        label = subst (HoldsLabel w far label.number flow) (unjoined laws policy topology past events s events [] (sym (append-nil events)) one far flow new label.number label.join holds) holds;
      }

    -- *So the link is labelled*
    pub labelled : IsFreeLink w one far flow → HoldsIn policy topology past events far flow → IsLabelled topology w one.node far flow
    labelled free h = record {
      port = one.port;
      linked = led;
      number = h.number;
      label = h.label;
      grant = grants;
      alone = alone;
    }
      where
        same : h.label.linked ≡ other
        same = one_linked w far h.label.linked other h.label.shown far_shown

        found : label_at other.port h.number ≡ Some h.label.label
        found = subst (λ (l : Linked). label_at l.port h.number ≡ Some h.label.label) same h.label.held

        on : IsAgreedOn (end_of other []) (end_of its []) h.label.label
        on = at_every label_number (IsAgreedOn (end_of other []) (end_of its [])) h.number (labels_of other.port) h.label.label agree.labels found

        number_is : h.label.label.number ≡ h.number
        number_is = at_key label_number h.number (labels_of other.port) h.label.label found

        granted : at grant_label h.number its.port.grants ≡ Some on.grant
        granted = ap (λ (n : ℕ). at grant_label n its.port.grants) (sym number_is) ∙ on.granted

        used : on.grant.state ≢ Idle
        used = at_every grant_label (λ (g : Grant). g.state ≢ Idle) h.number its.port.grants on.grant agree.used granted

        of_flow : on.grant.flow ≡ flow
        of_flow = on.same_flow ∙ h.label.of_flow

        state : on.grant.state ≡ ByController
        state = by on.grant.state refl used on.stays
          where
            by : (x : GrantState) → on.grant.state ≡ x → (x ≢ Idle) → is_leaving x ≡ false → on.grant.state ≡ ByController
            by ByController t idle leaves = t
            by Idle t idle leaves = absurd (idle refl)
            by (ByInput input) t idle leaves = absurd (unlent laws policy topology past events s events [] (sym (append-nil events)) one far flow new h.number input
                (record { linked = its; shown = end_shows w one its rest.shows; grant = on.grant; held = granted; of_flow = of_flow; is = t; used = tt }))
            by (Leaving input owed) t idle leaves = absurd (cc leaves)

        grants : HoldsGrant w one h.number flow ByController
        grants = record { linked = its; shown = end_shows w one its rest.shows; grant = on.grant; held = granted; of_flow = of_flow; is = state; used = tt }

        alone : ServesAlone w far h.number flow
        alone linked shown = each_among (λ (label : Label). serves label.state ≡ true → label.flow ≡ flow → label.number ≡ h.number) (labels_of linked.port) one_number
          where
            is : other ≡ linked
            is = one_linked w far other linked far_shown shown

            own : Contains (labels_of linked.port) h.label.label
            own = among label_number h.number (labels_of linked.port) h.label.label (subst (λ (l : Linked). label_at l.port h.number ≡ Some h.label.label) is found)

            one_number : (label : Label) → Contains (labels_of linked.port) label → serves label.state ≡ true → label.flow ≡ flow → label.number ≡ h.number
            one_number label there serving of_it = free.one_label linked label h.label.label shown there own of_it h.label.of_flow ∙ number_is
