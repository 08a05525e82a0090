-- behind five quiet beats that begin a run links go on in peace

use Rattle.std.proofs.Common.{◌≡◌, ◌≢◌, ◌+◌, ◌≤◌, true, false, true≢false, List, [], ◌∷◌, ◌++◌, append_assoc, length, length-append, Option, None, Some, refl, sym, ◌∙◌, ap, subst, arith}
use Rattle.std.specs.Prelude.{flat_map}
use Rattle.std.specs.Option.{option_map, option_map_or}
use Rattle.world_model.specs.Words.{is_clearing, Session, Policy, Linked, port_key, labels_of, joins_at, joins_of, end_le, in_order, Topology, World, Site, site_at, world_after}
use Rattle.world_model.specs.World.{opened}
use Rattle.world_model.specs.port_model.Port.{Port}
use Rattle.world_model.specs.network_model.declared.link.LinkEnd.{LinkEnd}
use Rattle.live_model.specs.Beats.{Beat, behind}
use Rattle.live_model.specs.Links.{number_of, HasNumbers, IsClear, AreClear, AreLinkBeatsInPeace}
use Rattle.calm_model.specs.Calm.{IsCalm}
use Rattle.law_link_parties.specs.law_run_facts.ordered_lists.Ordered.{Every}
use Rattle.law_link_parties.proofs.law_link_met.law_port_facts.Keyed.{at_every}
use Rattle.law_live_begun.specs.First.{Start, IsFirstPort, IsFirstController, IsFirstWorld}
use Rattle.law_live_begun.specs.Worlds.{NetworksGoOn}
use Rattle.law_live_begun.specs.Beats.{BeginsSo, world_behind, NodesAreCleared, LinksGoOnInPeace}
use Rattle.law_live_begun.proofs.Quiet.{folds_join, begins_front, first_at, calm_to}
use Rattle.law_live_begun.proofs.RunsNodes.{no_label}
use Rattle.law_live_begun.proofs.RunsLinks.{IsThere, is_there}

-- *A port's number* is 1 at most, and no join is held
few_told : (port : Port) → IsFirstPort port → number_of port ≤ 1
few_told port first = by port.session refl
  where
    by : (o : Option Session) → port.session ≡ o → option_map_or (λ (s : Session). s.number) o 0 ≤ 1
    by None e = omega arith
    by (Some s) e = omega (arith, (first.session s e).number)

none_joined : (ports : List Linked) → Every (λ (linked : Linked). IsFirstPort linked.port) ports → flat_map joins_at ports ≡ []
none_joined [] first = refl
none_joined (linked ∷ ports) first = none_at (none_joined ports first.1)
  where
    nothing : joins_at linked ≡ []
    nothing = ap (λ grants. joins_at (record linked { port = record linked.port { grants = grants } })) first.0.grants

    none_at : flat_map joins_at ports ≡ [] → joins_at linked ++ flat_map joins_at ports ≡ []
    none_at e = ap (λ js. js ++ flat_map joins_at ports) nothing ∙ e

has_numbers : (topology : Topology) (w : World) (end : LinkEnd) → IsFirstWorld topology w → HasNumbers w end
has_numbers topology w end first c linked shown found = by (site_at w end.node) refl shown
  where
    few : (start : Start) → IsFirstController start c → number_of linked.port + (length (labels_of linked.port) + length (joins_of c)) + 2 ≤ 4294967295
    few start is =
        let plain : IsFirstPort linked.port = at_every port_key (λ (l : Linked). IsFirstPort l.port) end.port.0 c.ports linked is.ports found in
        omega (arith, few_told linked.port plain, ap length (no_label linked.port plain), no_join)
      where
        no_join : length (joins_of c) ≡ 0
        no_join = ap (λ js. length (in_order (λ a b. end_le a.input b.input) js)) (none_joined c.ports is.ports)

    by : (o : Option Site) → site_at w end.node ≡ o → option_map (λ (s : Site). s.controller) o ≡ Some c
        → number_of linked.port + (length (labels_of linked.port) + length (joins_of c)) + 2 ≤ 4294967295
    by None there e = absurd (cc e)
    by (Some site) there e = (let same : site.controller ≡ c = cc in few (first.nodes end.node site there).start (subst (IsFirstController (first.nodes end.node site there).start) same (first.nodes end.node site there).is.controller))

-- *Cleared nodes* have no port in Clearing
is_clear : NodesAreCleared → (policy : Policy) (topology : Topology) (beats : List Beat) → BeginsSo policy topology beats → 5 ≤ length beats → (end : LinkEnd)
    → IsClear (world_behind policy topology beats) end
is_clear cleared policy topology beats begins many end linked found clearing =
    let there : IsThere (world_behind policy topology beats) end linked = is_there (world_behind policy topology beats) end linked found in
    let off : is_clearing linked.port.adjacency.state ≡ false = at_every port_key (λ (l : Linked). is_clearing l.port.adjacency.state ≡ false) end.port.0 there.site.controller.ports linked
    (cleared policy topology beats begins many end.node there.site there.there).cleared.clear there.of_port in
    true≢false (sym (ap is_clearing clearing) ∙ off)

pub links_go_on : NetworksGoOn → NodesAreCleared → LinksGoOnInPeace
links_go_on go cleared policy topology beats [] begins many one far peers = tt
links_go_on go cleared policy topology beats (beat ∷ more) begins many one far peers = (
  record {
    peace = λ front rest event e. (
        let calm : IsCalm topology (world_after topology (world_behind policy topology beats) front) event = calm_to policy topology beats beat more begins front rest event e in
        let first : IsFirstWorld topology (world_after topology (world_behind policy topology beats) front) = first_at policy topology beats beat more begins go front (event ∷ rest) e in record {
          unlost = λ at. record { entries = calm.entries; unlost = calm.unlost };
          numbers = has_numbers topology (world_after topology (world_behind policy topology beats) front) one first;
          far_numbers = has_numbers topology (world_after topology (world_behind policy topology beats) front) far first;
        });
    clear = (
      is_clear cleared policy topology beats (begins_front policy topology beats (beat ∷ more) begins) many one,
      is_clear cleared policy topology beats (begins_front policy topology beats (beat ∷ more) begins) many far,
    );
    clear_behind = subst (λ (w : World). AreClear w one far) behind_one (
      is_clear cleared policy topology (beats ++ beat ∷ []) (begins_front policy topology (beats ++ beat ∷ []) more begins_so_far) more_many one,
      is_clear cleared policy topology (beats ++ beat ∷ []) (begins_front policy topology (beats ++ beat ∷ []) more begins_so_far) more_many far,
    );
  },
  subst (λ (w : World). AreLinkBeatsInPeace topology w one far more) behind_one (links_go_on go cleared policy topology (beats ++ beat ∷ []) more begins_so_far more_many one far peers),
)
  where
    begins_so_far : BeginsSo policy topology ((beats ++ beat ∷ []) ++ more)
    begins_so_far = subst (BeginsSo policy topology) (sym (append_assoc beats (beat ∷ []) more)) begins

    more_many : 5 ≤ length (beats ++ beat ∷ [])
    more_many = omega (arith, many, length-append beats (beat ∷ []))

    behind_one : world_behind policy topology (beats ++ beat ∷ []) ≡ behind topology (world_behind policy topology beats) beat
    behind_one = folds_join topology beats (beat ∷ []) (opened policy topology)
