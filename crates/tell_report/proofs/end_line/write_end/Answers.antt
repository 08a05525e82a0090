use Rattle.std.proofs.Common.{ℕ, ◌++◌, ◌∙◌, ap}
use Rattle.std.specs.Prelude.{codes, decimal}
use Rattle.std.proofs.lemmas.Result.{IfOk-weaker}
use Rattle.world_model.specs.World.{Counts}
use Rattle.record_text.specs.script_model.Reports.{end_line}
use Rattle.tell_report.proofs.LastLine.{end_written}
use Rattle.tell_report.proofs.end_line.write_end.Goals as goal

pub returns : goal.returns
returns c =
    let k = c.counts.inside in
    let counts : Counts = record { sent = k.sent; delivered = k.delivered; dropped = k.dropped; refused = k.refused; losses = k.losses; redirects = k.redirects; switched = k.switched; chance = k.chance } in
    IfOk-weaker c.text.result _ _
    (λ v h. end_written c.args.out.now c.write_count.new.out c.write_count-2.new.out c.write_count-3.new.out c.write_count-4.new.out c.write_count-5.new.out
    c.write_count-6.new.out c.write_count-7.new.out c.write_count-8.new.out c.write_count-9.new.out c.text.new.self c.args.event_lines counts
    (c.in_ok-write_count.ensures ∙ ap (λ (n : ℕ). c.args.out.now ++ (codes "end events " ++ decimal n)) c.from.ensures) c.in_ok-write_count-2.ensures c.in_ok-write_count-3.ensures c.in_ok-write_count-4.ensures c.in_ok-write_count-5.ensures
    c.in_ok-write_count-6.ensures c.in_ok-write_count-7.ensures c.in_ok-write_count-8.ensures c.in_ok-write_count-9.ensures h
    ∙ ap (λ (m : Counts). c.args.out.now ++ end_line c.args.event_lines m) c.counts.view_is)
    c.text.ensures.ok
