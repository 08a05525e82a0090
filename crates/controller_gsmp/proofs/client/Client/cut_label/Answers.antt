use Rattle.std.proofs.lemmas.Result.{on_ok_weaker}
use Rattle.frame_model.specs.Reassembly.{nothing_taken}
use Rattle.controller_link.specs.declared.taker.Taker.TheVariants.{Label}
use Rattle.controller_gsmp.proofs.Cuts.{cut_label_ends, ranges_kept}
use Rattle.controller_gsmp.proofs.client.Client.cut_label.Goals as goal

pub returns-clause-acted : goal.returns-clause-acted
returns-clause-acted c =
    rw (← c.self.view_is) (λ r numbers node. on_ok_weaker c.cut.result (cut_label_ends r _ c.cut.new.self _ _ numbers c.args.port c.args.label node c.cut.ensures.cells) c.cut.ensures.notes)

pub returns-clause-ranges : goal.returns-clause-ranges
returns-clause-ranges c = rw (← c.self.view_is, c.cut.ensures.cells) (ranges_kept c.self.inside.control (Label c.args.port c.args.label) nothing_taken)
