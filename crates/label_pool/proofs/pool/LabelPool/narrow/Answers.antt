use Rattle.label_pool.proofs.Pools.{marks_narrowed}
use Rattle.label_pool.proofs.pool.LabelPool.narrow.Goals as goal

pub invariant_of-self : goal.invariant_of-self
invariant_of-self c =
    marks_narrowed c.self.inside.least c.self.inside.greatest c.self.inside.between c.narrow.new.self c.args.from c.args.to
    c.self.inside.marks.items c.self.inside.count c.self.inside.low c.narrow.ensures.from c.narrow.ensures.to c.self.invariant
