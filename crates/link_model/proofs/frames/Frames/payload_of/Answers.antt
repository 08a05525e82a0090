use Rattle.std.proofs.Common.{◌<◌, length, arith}
use Rattle.link_model.proofs.Latest.{within_at, payload_of_read}
use Rattle.link_model.proofs.frames.Frames.payload_of.Goals as goal

pub index-requires : goal.index-requires
index-requires c =
    let within : c.in_ok-place.place.now < length c.self.inside.list.items =
    within_at c.self.inside.latest c.self.inside.list.items c.args.mark c.in_ok-place.place.now c.self.invariant c.in_ok-place.ensures.value in
    omega arith

pub returns : goal.returns
returns c = rw (c.as_slice.ensures, ← c.self.view_is) (payload_of_read c.self.inside.latest c.self.inside.list.items c.args.mark c.in_ok-place.place.now c.index.result.now c.self.invariant c.in_ok-place.ensures.value c.index.ensures)
