use Rattle.std.proofs.Common.{◌≡◌, ◌++◌, ◌+◌, ◌∙◌, List, slice_get, ap, sym}
use Rattle.atm_cells.specs.declared.cell.Cell.{Cell}
use Rattle.world_model.specs.Places.{queue_at}
use Rattle.world_model.specs.World.{World}
use Rattle.world.specs.Network.{no_notes, world_of}
use Rattle.telling_model.specs.Passing.{standing}
use Rattle.telling_model.specs.declared.standing.Standing.{Standing}
use Rattle.tell_passing.specs.Lengths.{behind}
use Rattle.tell_passing.proofs.Behind.{no_more, one_more}
use Rattle.tell_passing.proofs.lengths.put_queue.Goals as goal
use Rattle.tell_passing.proofs.lengths.put_queue.Goals.{in-Some+in_ok-push, in_default}

pub loop-index-preserved : goal.loop-index-preserved
loop-index-preserved g c =
    let w0 : World = world_of g.C.NodeController.seen c.args.world.now no_notes in
    let q : List Cell = queue_at w0 c.args.place in
    let here : c.cell.result ≡ slice_get q c.loop-index.index = c.cell.ensures c.requires.runs.topology c.requires.runs.runs in
    elim c.match-cell.branch [
      | in-Some+in_ok-push w ↦
          ap (λ (items : List Standing). items ++ behind w0 (c.loop-index.index + 1) c.args.place) (ap (λ v. v.items) w.out-is ∙ w.in_ok-push.ensures.items)
          ∙ one_more (standing c.args.place) q c.loop-index.out.items c.args.out.now.items (behind w0 c.args.left c.args.place) c.loop-index.index w.in-Some.cell (sym here ∙ w.in-Some.is) c.loop-index.invariant
      | in_default w ↦
          ap (λ (items : List Standing). items ++ behind w0 (c.loop-index.index + 1) c.args.place) (ap (λ v. v.items) w.out-is)
          ∙ no_more (standing c.args.place) q c.loop-index.out.items c.args.out.now.items (behind w0 c.args.left c.args.place) c.loop-index.index (sym here ∙ w.in_default.is) c.loop-index.invariant
    ]
