use Rattle.std.proofs.Common.{ap, sym, ◌∙◌}
use Rattle.std.proofs.lemmas.Result.{on_ok_weaker}
use Rattle.console_model.specs.Hearing.{answer_comes}
use Rattle.gsmp_console.specs.Bench.{Held, lab_in}
use Rattle.gsmp_console.specs.contracts.bench.Bench.{the_view}
use Rattle.gsmp_console.proofs.Failing.{failure_taken}
use Rattle.gsmp_console.proofs.bench.Bench.take_answer.Goals as goal

pub returns-in-Failed-clause-taken : goal.returns-in-Failed-clause-taken
returns-in-Failed-clause-taken c =
    on_ok_weaker c.fail.result
    (λ e. failure_taken (the_view c.self.inside) c.args.notes.now c.args.message.now c.take_answer.new.self c.in-Failed.number c.in-Failed.code _
    (sym c.is_estab.ensures ∙ c.if-not-is_estab.false) c.in-Failed.ensures.after c.in-Failed.ensures.answer e
    ∙ ap (λ (h : Held). answer_comes (lab_in h c.args.notes.now) c.args.message.now) c.self.view_is)
    c.fail.ensures.failed
