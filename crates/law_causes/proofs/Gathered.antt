-- a channel of a controller that has cells is taken, where cells are gathered for bound labels alone

use Rattle.std.proofs.Common.{◌≡◌, ℕ, Bool, true, false, true≢false, Option, None, Some, refl, sym, ◌∙◌, ap, subst, if◌then◌else◌}
use Rattle.std.specs.Prelude.{is_some}
use Rattle.std.specs.Option.{option_map, option_map_or, option_and_then}
use Rattle.law_cell_lists.specs.world_model.Words.{NodeId, Channel, label_number_of, nothing_taken, at, Label, label_at, Controller, Linked, LabelChain, chain_key, port_key, default_channel, ForGsmp, ForDefault, ForLabel, port_on, on_link, same_channel, label_taker, taker_at, World, Site, site_key, site_at, controller_at, world_after}
use Rattle.law_controller_bindings.specs.ordered_lists.Ordered.{Every}
use Rattle.law_controller_bindings.proofs.law_port_facts.Keyed.{at_key, at_every}
use Rattle.law_cell_lists.specs.world_model.World.{opened}
use Rattle.law_controller_bindings.specs.Bindings.{IsOfBound}
use Rattle.law_controller_bindings.proofs.Laws.{always_gathers}
use Rattle.law_lifetimes.proofs.Opened.{IsFed, opening_fed}
use Rattle.law_lifetimes.proofs.Runs.{run_fed}
use Rattle.law_causes.specs.Feeding.{IsFedOnce}
use Rattle.law_causes.specs.Law.{GathersBound, GathersInRuns}
use Rattle.law_causes.proofs.Ends.{has_cells, label_chain, chain_at, chain_in, open_in}
use Rattle.law_causes.proofs.Premises.{IsOrderly}

of_label : (linked : Linked) (number : ℕ) → Every (IsOfBound linked) linked.chains → (o : Option LabelChain) → at chain_key number linked.chains ≡ o → has_cells (option_map_or (λ (chain : LabelChain). chain.reassembly) o nothing_taken) ≡ true
    → is_some (label_taker linked (label_at linked.port number)) ≡ true
of_label linked number all None found e = absurd (true≢false (sym e))
of_label linked number all (Some chain) found e =
    let bound : IsOfBound linked chain = at_every chain_key (IsOfBound linked) number linked.chains chain all found in
    let same : chain.label ≡ number = at_key chain_key number linked.chains chain found in
    ap (λ (o : Option Label). is_some (label_taker linked o)) (ap (label_at linked.port) (sym same) ∙ bound.found) ∙ ap (λ (b : Bool). is_some (if b then Some (ForLabel linked bound.label) else None)) bound.bound

pub gathers_taken : (c : Controller) → GathersBound c → (channel : Channel) → has_cells (chain_in c.reassembly c.ports channel) ≡ true → open_in c.ports channel ≡ true
gathers_taken c all channel = by_gsmp (same_channel channel default_channel)
  where
    by_number : (linked : Linked) → Every (IsOfBound linked) linked.chains → (n : Option ℕ) → has_cells (label_chain linked n) ≡ true → is_some (label_taker linked (option_and_then (label_at linked.port) n)) ≡ true
    by_number linked own None e = absurd (true≢false (sym e))
    by_number linked own (Some number) e = of_label linked number own (at chain_key number linked.chains) refl e

    by_default : (linked : Linked) → Every (IsOfBound linked) linked.chains → (link : Channel) (b : Bool) → has_cells (if b then linked.reassembly else label_chain linked (label_number_of link)) ≡ true
        → is_some (if b then Some (ForDefault linked) else label_taker linked (option_and_then (label_at linked.port) (label_number_of link))) ≡ true
    by_default linked own link true e = refl
    by_default linked own link false e = by_number linked own (label_number_of link) e

    by_port : (o : Option Linked) → at port_key (port_on channel).0 c.ports ≡ o → has_cells (chain_at o (on_link channel)) ≡ true → is_some (taker_at o (on_link channel)) ≡ true
    by_port None found e = absurd (true≢false (sym e))
    by_port (Some linked) found e =
        by_default linked (at_every port_key (λ (x : Linked). Every (IsOfBound x) x.chains) (port_on channel).0 c.ports linked all found) (on_link channel) (same_channel (on_link channel) default_channel) e

    by_gsmp : (b : Bool) → has_cells (if b then c.reassembly else chain_at (at port_key (port_on channel).0 c.ports) (on_link channel)) ≡ true
        → is_some (if b then Some ForGsmp else taker_at (at port_key (port_on channel).0 c.ports) (on_link channel)) ≡ true
    by_gsmp true e = refl
    by_gsmp false e = by_port (at port_key (port_on channel).0 c.ports) refl e

-- *Every run* gathers so: its controllers were opened, and took inputs
pub gathers_in_runs : GathersInRuns
gathers_in_runs policy topology events node c = by (site_at w node) refl
  where
    w : World
    w = world_after topology (opened policy topology) events

    by : (o : Option Site) → site_at w node ≡ o → option_map (λ (site : Site). site.controller) o ≡ Some c → GathersBound c
    by None found e = absurd (cc e)
    by (Some site) found e =
        let fed : IsFed site = at_every site_key IsFed node.0 w.sites site (run_fed topology events (opened policy topology) (opening_fed policy topology)) found in
        let same : site.controller ≡ c = cc in
        subst GathersBound (fed.now ∙ same) (always_gathers fed.o fed.inputs fed.is)

pub in_order : (w : World) → IsFedOnce w → ((n : NodeId) (c : Controller) → controller_at w n ≡ Some c → GathersBound c) → IsOrderly w
in_order w fed gathered = record { fed = fed; taken = λ n c found channel e. gathers_taken c (gathered n c found) channel e }
