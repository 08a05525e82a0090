-- in every run whose policy offers nothing no port ever holds a label, and no event binds one

use Rattle.std.proofs.Common.{◌≡◌, ℕ, suc, false, List, [], ◌∷◌, ◌++◌, Some, refl, sym, ◌∙◌, ap, subst, append-nil, append_assoc}
use Rattle.std.specs.Prelude.{◌+◌, ◌||◌}
use Rattle.std.specs.List.{list_any}
use Rattle.world_model.specs.Words.{NodeId, Addr, Record, Bind, Policy, Setup, Controller, setup_of, opens_ports, Topology, Node, ranges_of, timers_of, World, Site, site_at, opened_site, with_opened, opens_each, empty_world, IsTopology, next, world_after, past_of, OffersNothing, is_bind}
use Rattle.law_run_facts.specs.ordered_lists.Ordered.{Every}
use Rattle.law_run_facts.proofs.ordered_lists.Every.{every_all, every_join, every_mapped, every_unmapped}
use Rattle.law_run_facts.proofs.law_port_facts.Keyed.{every_more}
use Rattle.world_model.specs.controller_model.declared.range.PortRange.{PortRange}
use Rattle.world_model.specs.network_model.declared.event.Event.{Event}
use Rattle.world_model.specs.World.{opened}
use Rattle.law_run_facts.specs.law_controller_facts.Inputs.{takes_inputs}
use Rattle.law_run_facts.specs.law_controller_facts.Sound.{Opening, linked_setup, opened_by}
use Rattle.law_run_facts.proofs.law_controller_facts.Laws.{always_ports}
use Rattle.law_run_facts.proofs.law_lifetimes.Opened.{opening_of, is_opening}
use Rattle.law_run_facts.proofs.Bound.{FedBy, run_fed_by}
use Rattle.law_run_facts.proofs.Steps.{after_one, events_are_steps}
use Rattle.law_way_words.proofs.Switching.{BindsNone}
use Rattle.law_port_words.specs.Words.{IsSteadyAt}
use Rattle.law_idle_policies.specs.Law.{NothingIsBound}
use Rattle.law_idle_policies.proofs.Ports.{idle_terms}
use Rattle.law_idle_policies.proofs.Controllers.{IsQuiet}
use Rattle.law_idle_policies.proofs.Worlds.{IsIdleSite, IsIdleWorld, next_i}

-- *The opening*: no port has a session
opened_ports : (node : NodeId) (address : Addr) (f : PortRange → Setup) (ranges : List PortRange) (instances : ℕ) → ((range : PortRange) → (f range).node ≡ node)
    → Every (IsSteadyAt (idle_terms node address)) (opens_ports f instances ranges)
opened_ports node address f [] instances named = tt
opened_ports node address f (range ∷ ranges) instances named = (
  (record { node = named range; own = λ live. tt; stored = λ peer e. tt; lives = λ session e. absurd (cc e); labels = tt; grants = tt }, tt),
  opened_ports node address f ranges (instances + 1) named,
)

module _ (policy : Policy) (t : Topology) where
  opened_each : (nodes : List Node) (w : World) (place : ℕ) → IsIdleWorld w → IsIdleWorld (opens_each policy t w place nodes)
  opened_each [] w place h = h
  opened_each (node ∷ nodes) w place h = opened_each nodes (with_opened policy t w place node) (suc place) (record { sites = every_more IsIdleSite w.sites (opened_site policy t number node w.numbers) h.sites new; records = h.records })
    where
      number : NodeId
      number = record { 0 = place }

      new : IsIdleSite (opened_site policy t number node w.numbers)
      new = record {
        node = number;
        address = node.address;
        named = (refl, refl);
        ports = opened_ports number node.address (setup_of number node.address (timers_of t) policy) (ranges_of t number node) (w.numbers.instances + 1) (λ range. refl);
      }

  opened_idle : IsIdleWorld (opened policy t)
  opened_idle = opened_each t.nodes empty_world 1 (record { sites = tt; records = tt })

  -- *In each world* of a run the policy of every port is the run's
  module _ (offers : OffersNothing policy) (is_topology : IsTopology t) where
    quiet_in : (before : List Event) (node : NodeId) (site : Site) → site_at (world_after t (opened policy t) before) node ≡ Some site → Every IsQuiet site.controller.ports
    quiet_in before node site found =
        let f : FedBy policy t (past_of policy t before).records node site = run_fed_by policy t before is_topology node site found in
        let o : Opening = opening_of policy t node f.there f.numbers f.notes in
        let ports = always_ports o f.inputs (is_opening policy t node f.there f.numbers f.notes).differ in
        subst (λ (c : Controller). Every IsQuiet c.ports) f.now
        (every_unmapped linked_setup OffersIn (takes_inputs (opened_by o) f.inputs).controller.ports
        (subst (Every OffersIn) (sym ports.same) (every_mapped (setup_of o.node o.address o.timers o.policy) OffersIn o.ranges (every_all (λ (range : PortRange). OffersNothing policy) o.ranges (λ range. offers)))))
      where
        OffersIn : Setup → Type 0
        OffersIn setup = OffersNothing setup.policy

    -- *A run so far*: its last world, and all its records
    record IsIdleRun (events : List Event) : Type 0 where
      world : IsIdleWorld (world_after t (opened policy t) events)
      records : Every BindsNone (past_of policy t events).records

    one_more : (before : List Event) (event : Event) → IsIdleRun before → IsIdleRun (before ++ event ∷ [])
    one_more before event h = record {
      world = subst IsIdleWorld (sym after) k;
      records = subst (Every BindsNone) (sym records) (every_join BindsNone (past_of policy t before).records later.notes.records h.records k.records);
    }
      where
        later : World
        later = next t (world_after t (opened policy t) before) event

        after : world_after t (opened policy t) (before ++ event ∷ []) ≡ later
        after = after_one t (opened policy t) before event

        k : IsIdleWorld later
        k = next_i t (world_after t (opened policy t) before) (quiet_in before) h.world event

        records : (past_of policy t (before ++ event ∷ [])).records ≡ (past_of policy t before).records ++ later.notes.records
        records = (events_are_steps policy t before event).records ∙ ap (λ (x : World). (past_of policy t before).records ++ x.notes.records) after

    from_front : (before events : List Event) → IsIdleRun before → IsIdleRun (before ++ events)
    from_front before [] h = subst IsIdleRun (sym (append-nil before)) h
    from_front before (event ∷ events) h = subst IsIdleRun (append_assoc before (event ∷ []) events) (from_front (before ++ event ∷ []) events (one_more before event h))

    run_idle : (events : List Event) → IsIdleRun events
    run_idle events = from_front [] events (record { world = opened_idle; records = every_join BindsNone (opened policy t).notes.records [] opened_idle.records tt })

-- *So no label is bound*
no_bind : (item : Record) → BindsNone item → is_bind item ≡ false
no_bind (Bind node port label flow) none = absurd none
no_bind item none = refl

none_bind : (items : List Record) → Every BindsNone items → list_any is_bind items ≡ false
none_bind [] h = refl
none_bind (item ∷ items) h = ap (λ b. b || list_any is_bind items) (no_bind item h.0) ∙ none_bind items h.1

pub nothing_is_bound : NothingIsBound
nothing_is_bound policy topology events run offers = none_bind (past_of policy topology events).records (run_idle policy topology offers run.topology_is events).records
