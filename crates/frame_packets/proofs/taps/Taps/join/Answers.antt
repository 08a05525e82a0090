use Rattle.std.proofs.Common.{◌∙◌, refl, sym}
use Rattle.frame_packets.proofs.Joining.{joined_at, keys_at, read_at}
use Rattle.frame_packets.proofs.taps.Taps.join.Goals as goal

pub invariant_of-self : goal.invariant_of-self
invariant_of-self c =
    rw c.push.ensures (keys_at c.self.inside.keys.keys c.self.inside.list.items c.in-Some.place c.index_mut.result.now _ c.self.invariant c.index_mut.ensures.value refl)

pub returns-in-Some-clause-joined : goal.returns-in-Some-clause-joined
returns-in-Some-clause-joined c =
    rw (← c.self.view_is, c.push.ensures)
    (joined_at c.self.inside.keys.keys c.self.inside.list.items c.args.key c.args.cell.now c.in-Some.place c.index_mut.result.now c.self.invariant
    (sym c.in-Some.is ∙ c.get_index_of.ensures.index) c.index_mut.ensures.value)

pub returns-in-Some-clause-place : goal.returns-in-Some-clause-place
returns-in-Some-clause-place c =
    rw c.push.ensures
    (read_at c.self.inside.keys.keys c.self.inside.list.items c.args.key c.args.cell.now c.in-Some.place c.index_mut.result.now c.self.invariant
    (sym c.in-Some.is ∙ c.get_index_of.ensures.index) c.index_mut.ensures.value)
