-- the shapes of a run: they are so at its opening, and each event keeps them

use Rattle.std.proofs.Common.{◌≡◌, ℕ, suc, List, [], ◌∷◌, ◌++◌, map, Some, refl, sym, ◌∙◌, ap, subst, arith, append_assoc, append-nil}
use Rattle.std.specs.Prelude.{Contains}
use Rattle.std.specs.Option.{option_map, option_map_or}
use Rattle.std.specs.FinMap.{get-empty}
use Rattle.law_causes.specs.world_model.Words.{NodeId, PortNo, Down, Instance, GivenOut, next_instance, Cell, end_cmp, Standing, control_port, numbers_of, Policy, default_channel, after_opening, Topology, Node, IsTopology, World, Site, site_key, site_at, opened_site, with_opened, opens_each, empty_world, queue_in, next, world_after, gsmp_to_switch, on_channel, IsTame}
use Rattle.law_causes.specs.world_model.crossbar_model.declared.branch.Branch.{Branch}
use Rattle.law_world_views.specs.ordered_lists.Ordered.{Every}
use Rattle.law_world_views.proofs.ordered_lists.Every.{every_join}
use Rattle.law_causes.specs.world_model.Switch.{begun}
use Rattle.law_world_views.specs.law_port_facts.Port.{IsShaped}
use Rattle.law_world_views.proofs.law_port_facts.Keyed.{at_every}
use Rattle.law_causes.specs.world_model.network_model.declared.event.Event.{Event}
use Rattle.law_causes.specs.world_model.Topology as topologies
use Rattle.law_causes.specs.world_model.World.{opened}
use Rattle.law_causes.proofs.world_model.Opening.{site_ports}
use Rattle.law_world_views.specs.Between as worlds
use Rattle.law_world_views.specs.Between.{EachSite, setups_of}
use Rattle.law_branch_shapes.specs.Events.{HasOwnShapes, CopiesAreShaped, RunsKeepShapes}
use Rattle.law_branch_shapes.proofs.Sites.{Shaped, numbers_same, events_keep}
use Rattle.law_causes.proofs.Runs.{after_one}

-- *A new site*
record IsNew (site : Site) : Type 0 where
  shaped : Shaped site
  standing : site.controller.desk.standing ≡ []
  queue : site.controller.queue ≡ []
  chain : site.switch.reassembly.chain ≡ []

pub begun_ports : (own : Instance) (ports : List PortNo) → numbers_of (map (begun own) ports) ≡ ports
begun_ports own [] = refl
begun_ports own (port ∷ ports) = ap (λ (rest : List PortNo). port ∷ rest) (begun_ports own ports)

new_site : (policy : Policy) (t : Topology) (number : NodeId) (node : Node) (numbers : GivenOut) → IsNew (opened_site policy t number node numbers)
new_site policy t number node numbers = record {
  shaped = record {
    branches = λ input output e. absurd (cc (sym (ap (option_map (λ (b : Branch). b.output)) (get-empty end_cmp input)) ∙ e));
    ports = ap (λ (rest : List PortNo). control_port ∷ rest)
        (begun_ports (next_instance (after_opening (topologies.ranges_of t number node) numbers)) (topologies.linked_ports t number) ∙ sym (site_ports policy t number node numbers) ∙ sym (numbers_same (opened_site policy t number node numbers).controller.ports));
  };
  standing = refl;
  queue = refl;
  chain = refl;
}

new_each : (policy : Policy) (t : Topology) (w : World) (place : ℕ) (nodes : List Node) → Every IsNew w.sites → Every IsNew (opens_each policy t w place nodes).sites
new_each policy t w place [] all = all
new_each policy t w place (node ∷ nodes) all =
    new_each policy t (with_opened policy t w place node) (suc place) nodes
    (every_join IsNew w.sites (opened_site policy t (record { 0 = place }) node w.numbers ∷ []) all (new_site policy t (record { 0 = place }) node w.numbers, tt))

pub none_among : (cells : List Cell) (cell : Cell) → cells ≡ [] → Contains cells cell → ⊥
none_among [] cell none among = omega (arith, among.1)
none_among (c ∷ cells) cell none among = cc none

-- *All the shapes of a world*, from those of its sites and of requests on their way
whole : (w : World) → EachSite w (λ node site. HasOwnShapes site) → CopiesAreShaped w → EachSite w (worlds.HasShapes w)
whole w own copies node site found = record {
  branches = (own node site found).switch.branches;
  standing = (own node site found).standing;
  copies = copies node site found;
  ports = (own node site found).switch.ports ∙ ap (λ (rest : List PortNo). control_port ∷ rest) (numbers_same site.controller.ports);
}

opening_shapes : (policy : Policy) (t : Topology) → EachSite (opened policy t) (worlds.HasShapes (opened policy t))
opening_shapes policy t = whole (opened policy t)
    (λ node site found. record { switch = (new node site found).shaped; standing = subst (Every (λ (s : Standing). IsShaped (setups_of site.controller) s.request)) (sym (new node site found).standing) tt })
    (λ node site found s cell among e. absurd (none_among (gsmp_to_switch (opened policy t) node) cell (nothing node site found) among))
  where
    new : (node : NodeId) (site : Site) → site_at (opened policy t) node ≡ Some site → IsNew site
    new node site found = at_every site_key IsNew node.0 (opened policy t).sites site (new_each policy t empty_world 1 t.nodes tt) found

    nothing : (node : NodeId) (site : Site) → site_at (opened policy t) node ≡ Some site → gsmp_to_switch (opened policy t) node ≡ []
    nothing node site found =
        ap (λ o. option_map_or (λ (x : Site). x.switch.reassembly.chain) o [] ++ on_channel default_channel (option_map_or (λ (x : Site). queue_in x (Down node)) o [])) found
        ∙ ap (λ (cells : List Cell). cells ++ on_channel default_channel site.controller.queue) (new node site found).chain ∙ ap (on_channel default_channel) (new node site found).queue

module _ (policy : Policy) (t : Topology) (events : List Event) (is : IsTopology t)
    (each : (before after : List Event) (event : Event) → events ≡ before ++ event ∷ after → IsTame (next t (world_after t (opened policy t) before) event).notes.records)
    (copies : (before after : List Event) → events ≡ before ++ after → CopiesAreShaped (world_after t (opened policy t) before)) where
  abbrev After : List Event → World
  After before = world_after t (opened policy t) before

  from_front : (before after : List Event) → events ≡ before ++ after → EachSite (After before) (worlds.HasShapes (After before)) → EachSite (After events) (worlds.HasShapes (After events))
  from_front before [] all h = subst (λ (es : List Event). EachSite (After es) (worlds.HasShapes (After es))) (sym (all ∙ append-nil before)) h
  from_front before (event ∷ after) all h =
      let further : events ≡ (before ++ event ∷ []) ++ after = all ∙ sym (append_assoc before (event ∷ []) after) in
      from_front (before ++ event ∷ []) after further
      (whole (After (before ++ event ∷ []))
      (subst (λ (w : World). EachSite w (λ node site. HasOwnShapes site)) (sym (after_one t (opened policy t) before event)) (events_keep policy t before event is h (each before after event all)))
      (copies (before ++ event ∷ []) after further))

  pub run_shapes : EachSite (After events) (worlds.HasShapes (After events))
  run_shapes = from_front [] events refl (opening_shapes policy t)

pub runs_keep : RunsKeepShapes
runs_keep policy topology events is each copies = run_shapes policy topology events is each copies
