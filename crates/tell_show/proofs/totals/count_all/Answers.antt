use Rattle.std.proofs.Common.{◌≡◌, ◌+◌, ◌∙◌, ℕ, length, min, Some, arith, ap, sym}
use Rattle.std.specs.FinMap.{entries}
use Rattle.port_model.specs.Redirection.{greatest_tally}
use Rattle.world_model.specs.Switch.{Switch}
use Rattle.world_model.specs.World.{World, site_at}
use Rattle.world.specs.Network.{no_notes, world_of}
use Rattle.show_text.specs.Shown.{branches_in, grants_in, labels_in}
use Rattle.tell_show.proofs.Along.{Item, item_at}
use Rattle.tell_show.proofs.Sites.{grants_read, its_controller, its_switch, labels_read, node_in, nodes_are, site_found}
use Rattle.tell_show.proofs.Sums.{sum_all, sum_more, sum_more_least}
use Rattle.tell_show.proofs.totals.count_all.Goals as goal

pub controller-controller-requires : goal.controller-controller-requires
controller-controller-requires g c = node_in g.C.NodeController.seen c.args.names.now c.args.world.now c.requires c.loop-place.place (omega (arith, c.loop-place-test.true, c.nodes-nodes.ensures.len))

pub switch-requires : goal.switch-requires
switch-requires g c = node_in g.C.NodeController.seen c.args.names.now c.args.world.now c.requires c.loop-place.place (omega (arith, c.loop-place-test.true, c.nodes-nodes.ensures.len))

pub loop-place-preserved : goal.loop-place-preserved
loop-place-preserved g c =
    let t = c.args.names.now in
    let seen = g.C.NodeController.seen in
    let i = c.loop-place.place in
    let w : World = world_of seen c.args.world.now no_notes in
    let found : Item w.sites i = item_at w.sites i (omega (arith, c.loop-place-test.true, c.nodes-nodes.ensures.len, nodes_are seen t c.args.world.now c.requires)) in
    let at_node : site_at w (record { 0 = i + 1 }) ≡ Some found.item = site_found seen t c.args.world.now c.requires i found.item found.is in
    let controller : found.item.controller ≡ seen c.controller-controller.result.now =
    its_controller (site_at w (record { 0 = i + 1 })) found.item (seen c.controller-controller.result.now) at_node (c.controller-controller.ensures t c.requires) in
    let switch : found.item.switch ≡ c.switch.result.now = its_switch (site_at w (record { 0 = i + 1 })) found.item c.switch.result.now at_node (c.switch.ensures t c.requires) in
    record {
      labels = c.saturating_add-labels.ensures ∙ ap (λ (n : ℕ). min (c.loop-place.labels + n) greatest_tally) (c.labels.ensures ∙ labels_read found.item (seen c.controller-controller.result.now) controller)
          ∙ sum_more_least labels_in w.sites i found.item greatest_tally c.loop-place.labels found.is c.loop-place.invariant.labels;
      grants = c.saturating_add-grants.ensures ∙ ap (λ (n : ℕ). min (c.loop-place.grants + n) greatest_tally) (c.grants.ensures ∙ grants_read found.item (seen c.controller-controller.result.now) controller)
          ∙ sum_more_least grants_in w.sites i found.item greatest_tally c.loop-place.grants found.is c.loop-place.invariant.grants;
      branches = c.saturating_add-branches.ensures
          ∙ ap (λ (n : ℕ). min (c.loop-place.branches + n) greatest_tally) (c.count_branches.ensures ∙ ap (λ (s : Switch). length (entries s.crossbar.branches)) (sym switch))
          ∙ sum_more branches_in w.sites i found.item greatest_tally c.loop-place.branches found.is c.loop-place.invariant.branches;
    }

pub returns : goal.returns
returns g c =
    let t = c.args.names.now in
    let seen = g.C.NodeController.seen in
    let i = c.loop-place.place in
    let w : World = world_of seen c.args.world.now no_notes in
    let all : i ≡ length w.sites = omega (arith, c.loop-place-test.false, c.loop-place.auto.place-end, c.nodes-nodes.ensures.len, nodes_are seen t c.args.world.now c.requires) in
    let nodes : c.nodes-nodes.result ≡ length w.sites = omega (arith, c.nodes-nodes.ensures.len, nodes_are seen t c.args.world.now c.requires) in
    λ j. record {
      nodes = nodes j;
      labels = sum_all labels_in w.sites i greatest_tally c.loop-place.labels all c.loop-place.invariant.labels j;
      grants = sum_all grants_in w.sites i greatest_tally c.loop-place.grants all c.loop-place.invariant.grants j;
      branches = sum_all branches_in w.sites i greatest_tally c.loop-place.branches all c.loop-place.invariant.branches j;
      cells = c.count_cells.ensures j;
    }
