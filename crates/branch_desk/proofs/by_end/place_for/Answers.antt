use Rattle.std.proofs.Common.{ap}
use Rattle.std.specs.Cmp.{on_total}
use Rattle.port_model.specs.crossbar_model.Channels.{end_cmp}
use Rattle.branch_desk.specs.declared.by_end.Numbered.{Numbered}
use Rattle.branch_desk.proofs.Ends.{end_cmp_total}
use Rattle.branch_desk.proofs.Ordered.{sorted-insert_tied, sorted-insert_gap}
use Rattle.branch_desk.proofs.by_end.place_for.Goals as goal

pub returns-in-Ok-clause-sorted : goal.returns-in-Ok-clause-sorted
returns-in-Ok-clause-sorted c =
    let at = c.in-Ok.ensures.found in
    record { sorted = sorted-insert_tied (on_total (λ (e : Numbered). e.end) end_cmp_total) c.args.numbers.now c.in-Ok.place c.args.entry at.within (λ d k. ap (λ e. end_cmp e k.end) (at.here d)) c.requires.sorted }

pub returns-in-Err-clause-sorted : goal.returns-in-Err-clause-sorted
returns-in-Err-clause-sorted c =
    let gap = c.in-Err.ensures.absent in
    record { sorted = sorted-insert_gap (on_total (λ (e : Numbered). e.end) end_cmp_total) c.args.numbers.now c.in-Err.place c.args.entry gap.within gap.before gap.after c.requires.sorted }
