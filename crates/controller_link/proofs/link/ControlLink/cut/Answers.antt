use Rattle.std.proofs.Common.{◌≡◌, ◌∙◌, true, drop, ap, sym}
use Rattle.frame_model.specs.Reassembly.{nothing_taken}
use Rattle.controller_link.specs.Cells.{is_channel}
use Rattle.controller_link.specs.Link.{cells_in}
use Rattle.controller_link.specs.Store.{with_chain}
use Rattle.controller_link.proofs.Ports.{changed_is, ranges_in, reassembly_is}
use Rattle.controller_link.proofs.link.ControlLink.cut.Goals as goal

pub place_of-place-requires : goal.place_of-place-requires
place_of-place-requires c =
    let is : is_channel c.self.inside.layout c.args.taker ≡ true = rw (ranges_in c.self.inside.layout (drop 1 c.self.inside.store.chains)) at (rw (← c.self.view_is) at c.requires) in
    is

pub returns-clause-cells : goal.returns-clause-cells
returns-clause-cells c =
    let is : is_channel c.self.inside.layout c.args.taker ≡ true = rw (ranges_in c.self.inside.layout (drop 1 c.self.inside.store.chains)) at (rw (← c.self.view_is) at c.requires) in
    rw (← c.self.view_is)
    (ap (cells_in c.self.inside.layout) (c.cut.ensures.store ∙ ap (λ k. with_chain c.self.inside.store k nothing_taken) c.place_of-place.ensures.place)
    ∙ sym (changed_is c.self.inside.layout c.self.inside.store c.args.taker nothing_taken c.self.invariant is))

pub returns-clause-notes : goal.returns-clause-notes
returns-clause-notes c =
    let is : is_channel c.self.inside.layout c.args.taker ≡ true = rw (ranges_in c.self.inside.layout (drop 1 c.self.inside.store.chains)) at (rw (← c.self.view_is) at c.requires) in
    rw (← c.self.view_is, reassembly_is c.self.inside.layout c.self.inside.store c.args.taker is, ← c.place_of-place.ensures.place) c.cut.ensures.notes
