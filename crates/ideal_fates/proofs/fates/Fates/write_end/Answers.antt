use Rattle.std.proofs.Common.{◌++◌, ◌∙◌, ap}
use Rattle.std.proofs.lemmas.Result.{IfOk-weaker}
use Rattle.ideal_fates.specs.Told.{Told, end_of}
use Rattle.ideal_fates.proofs.Steps.{end_written}
use Rattle.ideal_fates.proofs.fates.Fates.write_end.Goals as goal

pub returns : goal.returns
returns c =
    let kept = c.self.inside in
    IfOk-weaker c.text.result _ _
    (λ v h. end_written c.args.out.now c.write_count.new.out c.write_count-2.new.out c.write_count-3.new.out c.write_count-4.new.out c.text.new.self
    kept.sent kept.delivered kept.dropped kept.refused
    c.in_ok-write_count.ensures c.in_ok-write_count-2.ensures c.in_ok-write_count-3.ensures c.in_ok-write_count-4.ensures h
    ∙ ap (λ (told : Told). c.args.out.now ++ end_of told.sent told.delivered told.dropped told.refused) c.self.view_is)
    c.text.ensures.ok
