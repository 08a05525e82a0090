use Rattle.std.proofs.Common.{◌≡◌, ◌∙◌, true, drop, ap, sym}
use Rattle.frame_model.specs.Reassembly.{Reassembly}
use Rattle.controller_link.specs.Cells.{is_channel}
use Rattle.controller_link.specs.Link.{cells_in}
use Rattle.controller_link.specs.Store.{free_in, reassembly_at, with_chain}
use Rattle.reassembly.specs.Receipt.{received}
use Rattle.std.specs.Prelude.{nat_lt}
use Rattle.controller_link.proofs.Ports.{changed_is, free_is, ranges_in, reassembly_is}
use Rattle.controller_link.proofs.Regions.{on_ok}
use Rattle.controller_link.proofs.link.ControlLink.receive.Goals as goal

pub place_of-place-requires : goal.place_of-place-requires
place_of-place-requires c =
    let is : is_channel c.self.inside.layout c.args.taker ≡ true = rw (ranges_in c.self.inside.layout (drop 1 c.self.inside.store.chains)) at (rw (← c.self.view_is) at c.requires.channel) in
    is

pub returns-clause-ranges : goal.returns-clause-ranges
returns-clause-ranges c =
    rw (← c.self.view_is)
    (ranges_in c.self.inside.layout (drop 1 c.receive.new.self.chains) ∙ sym (ranges_in c.self.inside.layout (drop 1 c.self.inside.store.chains)))

pub returns-clause-cells : goal.returns-clause-cells
returns-clause-cells c =
    let is : is_channel c.self.inside.layout c.args.taker ≡ true = rw (ranges_in c.self.inside.layout (drop 1 c.self.inside.store.chains)) at (rw (← c.self.view_is) at c.requires.channel) in
    let free = free_is c.self.inside.layout c.self.inside.store c.self.invariant in
    let at = reassembly_is c.self.inside.layout c.self.inside.store c.args.taker is in
    let place = c.place_of-place.ensures.place in
    let store = c.self.inside.store in
    let r : Reassembly = (received c.args.notes.now (nat_lt 0 (free_in store)) (reassembly_at store c.place_of-place.result) c.args.cell.now).reassembly in
    rw (← c.self.view_is, at, free, ← place)
    (on_ok c.receive.result _ _ (λ same.
    ap (cells_in c.self.inside.layout) (same ∙ ap (λ k. with_chain store k r) place)
    ∙ sym (changed_is c.self.inside.layout store c.args.taker r c.self.invariant is)) c.receive.ensures.store)

pub returns-clause-notes : goal.returns-clause-notes
returns-clause-notes c =
    let is : is_channel c.self.inside.layout c.args.taker ≡ true = rw (ranges_in c.self.inside.layout (drop 1 c.self.inside.store.chains)) at (rw (← c.self.view_is) at c.requires.channel) in
    let free = free_is c.self.inside.layout c.self.inside.store c.self.invariant in
    let at = reassembly_is c.self.inside.layout c.self.inside.store c.args.taker is in
    rw (← c.self.view_is, at, free, ← c.place_of-place.ensures.place) c.receive.ensures.notes

pub returns-clause-payload : goal.returns-clause-payload
returns-clause-payload c =
    let is : is_channel c.self.inside.layout c.args.taker ≡ true = rw (ranges_in c.self.inside.layout (drop 1 c.self.inside.store.chains)) at (rw (← c.self.view_is) at c.requires.channel) in
    let free = free_is c.self.inside.layout c.self.inside.store c.self.invariant in
    let at = reassembly_is c.self.inside.layout c.self.inside.store c.args.taker is in
    rw (← c.self.view_is, at, free, ← c.place_of-place.ensures.place) c.receive.ensures.payload
