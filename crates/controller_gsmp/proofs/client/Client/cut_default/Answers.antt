use Rattle.std.proofs.lemmas.Result.{on_ok_weaker}
use Rattle.frame_model.specs.Reassembly.{nothing_taken}
use Rattle.controller_link.specs.declared.taker.Taker.TheVariants.{Default}
use Rattle.controller_gsmp.proofs.Cuts.{cut_default_ends, ranges_kept}
use Rattle.controller_gsmp.proofs.client.Client.cut_default.Goals as goal

pub returns-clause-acted : goal.returns-clause-acted
returns-clause-acted c =
    rw (← c.self.view_is) (λ r numbers node. on_ok_weaker c.cut.result (cut_default_ends r _ c.cut.new.self _ _ numbers c.args.port node c.cut.ensures.cells) c.cut.ensures.notes)

pub returns-clause-ranges : goal.returns-clause-ranges
returns-clause-ranges c = rw (← c.self.view_is, c.cut.ensures.cells) (ranges_kept c.self.inside.control (Default c.args.port) nothing_taken)
