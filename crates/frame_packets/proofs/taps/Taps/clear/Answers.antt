use Rattle.std.proofs.Common.{◌∙◌, refl, sym}
use Rattle.frame_packets.proofs.Joining.{cleared_at, cleared_none, keys_at}
use Rattle.frame_packets.proofs.taps.Taps.clear.Goals as goal

pub invariant_of-self : goal.invariant_of-self
invariant_of-self c =
    rw c.clear.ensures (keys_at c.self.inside.keys.keys c.self.inside.list.items c.in-Some.place c.index_mut.result.now _ c.self.invariant c.index_mut.ensures.value refl)

pub returns-in-Some : goal.returns-in-Some
returns-in-Some c =
    rw (← c.self.view_is, c.clear.ensures)
    (cleared_at c.self.inside.keys.keys c.self.inside.list.items c.args.key c.in-Some.place c.index_mut.result.now c.self.invariant
    (sym c.in-Some.is ∙ c.get_index_of.ensures.index) c.index_mut.ensures.value)

pub returns-in_default : goal.returns-in_default
returns-in_default c =
    rw (← c.self.view_is)
    (cleared_none c.self.inside.keys.keys c.self.inside.list.items c.args.key c.self.invariant (sym c.get_index_of.ensures.index ∙ c.in_default.is))
