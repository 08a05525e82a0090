use Rattle.std.proofs.Common.{◌≡◌, sym, ap, ◌∙◌, subst, Some, Ok, Err}
use Rattle.grant_table.specs.Table.{told}
use Rattle.grant_table.specs.declared.table.Accepted.TheVariants as accepts
use Rattle.grant_table.specs.declared.table.AcceptFault.TheVariants as faults
use Rattle.port_model.specs.Grants.{acceptance_of}
use Rattle.port_model.specs.Port.{Port, Work}
use Rattle.port_model.specs.Saying.{error, label_range, says}
use Rattle.port_state.specs.Engine.{Fixed, setup_of}
use Rattle.port_saying.specs.Rules.{Ends, begun}
use Rattle.port_hearing.proofs.Redirects.{grants_again, grants_new, held_back, refuses_full, refuses_leaving, refuses_range, refuses_taken, told_new}
use Rattle.port_hearing.proofs.redirection.redirect.Goals as goal

pub returns-then-branch-clause-work : goal.returns-then-branch-clause-work
returns-then-branch-clause-work g c = λ n.
    held_back (setup_of g.P.Policy.meaning c.args.state.now.fixed) c.args.desk.now c.args.state.now.port c.args.out.now n c.args.channel c.args.flow c.args.lifetime
    (acceptance_of (setup_of g.P.Policy.meaning c.args.state.now.fixed) c.args.state.now.port.grants c.args.flow (Some c.args.label)) (sym (c.in_ok-is_held_back.ensures n c.args.flow) ∙ c.if-branch.true)

pub returns-in_ok-ask_grant-in-Ok-New-clause-work : goal.returns-in_ok-ask_grant-in-Ok-New-clause-work
returns-in_ok-ask_grant-in-Ok-New-clause-work g c = λ n.
    let new : told (acceptance_of (setup_of g.P.Policy.meaning c.args.state.now.fixed) c.args.state.now.port.grants c.args.flow (Some c.args.label)) ≡ Ok accepts.New = cc (c.in-Ok-New.ensures.answer g.P.Policy.meaning, c.in-Ok-New.field-0-is) in
    rw (c.accept.ensures.port g.P.Policy.meaning, c.in_ok-ask_grant-in-Ok-New.ensures, c.accept.ensures.fixed)
    (grants_new (setup_of g.P.Policy.meaning c.args.state.now.fixed) c.args.desk.now c.args.state.now.port c.args.out.now n c.args.channel c.args.flow c.args.lifetime c.args.label (acceptance_of (setup_of g.P.Policy.meaning c.args.state.now.fixed) c.args.state.now.port.grants c.args.flow (Some c.args.label))
    (told_new (setup_of g.P.Policy.meaning c.args.state.now.fixed) c.args.state.now.port.grants c.args.flow c.args.label new)
    (sym (c.in_ok-is_held_back.ensures n c.args.flow) ∙ c.if-branch.false))

pub returns-in-Ok-Refreshed-clause-work : goal.returns-in-Ok-Refreshed-clause-work
returns-in-Ok-Refreshed-clause-work g c = λ n.
    let again : told (acceptance_of (setup_of g.P.Policy.meaning c.args.state.now.fixed) c.args.state.now.port.grants c.args.flow (Some c.args.label)) ≡ Ok accepts.Refreshed = cc (c.in-Ok-Refreshed.ensures.answer g.P.Policy.meaning, c.in-Ok-Refreshed.field-0-is) in
    rw (c.accept.ensures.port g.P.Policy.meaning) (grants_again (setup_of g.P.Policy.meaning c.args.state.now.fixed) c.args.desk.now c.args.state.now.port c.args.out.now n c.args.channel c.args.flow c.args.lifetime (acceptance_of (setup_of g.P.Policy.meaning c.args.state.now.fixed) c.args.state.now.port.grants c.args.flow (Some c.args.label)) again)

pub returns-in-Err-OutOfRange-clause-work : goal.returns-in-Err-OutOfRange-clause-work
returns-in-Err-OutOfRange-clause-work g c = λ n.
    let refused : told (acceptance_of (setup_of g.P.Policy.meaning c.args.state.now.fixed) c.args.state.now.port.grants c.args.flow (Some c.args.label)) ≡ Err faults.OutOfRange = cc (c.in-Err-OutOfRange.ensures.answer g.P.Policy.meaning, c.in-Err-OutOfRange.field-0-is) in
    subst (λ (w : Work). Ends c.say_range.result c.say_range.new.state.port c.say_range.new.out n w) (sym (
    refuses_range (setup_of g.P.Policy.meaning c.args.state.now.fixed) c.args.desk.now c.args.state.now.port c.args.out.now n c.args.channel c.args.flow c.args.lifetime (acceptance_of (setup_of g.P.Policy.meaning c.args.state.now.fixed) c.args.state.now.port.grants c.args.flow (Some c.args.label)) refused
    ∙ ap (λ (p : Port). says (begun p c.args.out.now n) (label_range (setup_of g.P.Policy.meaning c.args.state.now.fixed))) (sym (c.accept.ensures.port g.P.Policy.meaning))
    ∙ ap (λ (f : Fixed _). says (begun c.accept.new.self.port c.args.out.now n) (label_range (setup_of g.P.Policy.meaning f))) (sym c.accept.ensures.fixed)))
    (c.say_range.ensures.work n)

pub returns-in-Err-Taken-clause-work : goal.returns-in-Err-Taken-clause-work
returns-in-Err-Taken-clause-work g c = λ n.
    let refused : told (acceptance_of (setup_of g.P.Policy.meaning c.args.state.now.fixed) c.args.state.now.port.grants c.args.flow (Some c.args.label)) ≡ Err faults.Taken = cc (c.in-Err-Taken.ensures.answer g.P.Policy.meaning, c.in-Err-Taken.field-0-is) in
    subst (λ (w : Work). Ends c.say_error.result c.say_error.new.state.port c.say_error.new.out n w) (sym (
    refuses_taken (setup_of g.P.Policy.meaning c.args.state.now.fixed) c.args.desk.now c.args.state.now.port c.args.out.now n c.args.channel c.args.flow c.args.lifetime (acceptance_of (setup_of g.P.Policy.meaning c.args.state.now.fixed) c.args.state.now.port.grants c.args.flow (Some c.args.label)) refused
    ∙ ap (λ (p : Port). says (begun p c.args.out.now n) (error 1 c.args.channel)) (sym (c.accept.ensures.port g.P.Policy.meaning))))
    (c.say_error.ensures.work n)

pub returns-in-Err-Leaving-clause-work : goal.returns-in-Err-Leaving-clause-work
returns-in-Err-Leaving-clause-work g c = λ n.
    let refused : told (acceptance_of (setup_of g.P.Policy.meaning c.args.state.now.fixed) c.args.state.now.port.grants c.args.flow (Some c.args.label)) ≡ Err faults.Leaving = cc (c.in-Err-Leaving.ensures.answer g.P.Policy.meaning, c.in-Err-Leaving.field-0-is) in
    subst (λ (w : Work). Ends c.say_error-in-Err-Leaving.result c.say_error-in-Err-Leaving.new.state.port c.say_error-in-Err-Leaving.new.out n w) (sym (
    refuses_leaving (setup_of g.P.Policy.meaning c.args.state.now.fixed) c.args.desk.now c.args.state.now.port c.args.out.now n c.args.channel c.args.flow c.args.lifetime (acceptance_of (setup_of g.P.Policy.meaning c.args.state.now.fixed) c.args.state.now.port.grants c.args.flow (Some c.args.label)) refused
    ∙ ap (λ (p : Port). says (begun p c.args.out.now n) (error 2 c.args.channel)) (sym (c.accept.ensures.port g.P.Policy.meaning))))
    (c.say_error-in-Err-Leaving.ensures.work n)

pub returns-in-Err-GrantsFull-clause-work : goal.returns-in-Err-GrantsFull-clause-work
returns-in-Err-GrantsFull-clause-work g c = λ n.
    let refused : told (acceptance_of (setup_of g.P.Policy.meaning c.args.state.now.fixed) c.args.state.now.port.grants c.args.flow (Some c.args.label)) ≡ Err faults.GrantsFull = cc (c.in-Err-GrantsFull.ensures.answer g.P.Policy.meaning, c.in-Err-GrantsFull.field-0-is) in
    subst (λ (w : Work). Ends c.say_error-in-Err-GrantsFull.result c.say_error-in-Err-GrantsFull.new.state.port c.say_error-in-Err-GrantsFull.new.out n w) (sym (
    refuses_full (setup_of g.P.Policy.meaning c.args.state.now.fixed) c.args.desk.now c.args.state.now.port c.args.out.now n c.args.channel c.args.flow c.args.lifetime (acceptance_of (setup_of g.P.Policy.meaning c.args.state.now.fixed) c.args.state.now.port.grants c.args.flow (Some c.args.label)) refused
    ∙ ap (λ (p : Port). says (begun p c.args.out.now n) (error 3 c.args.channel)) (sym (c.accept.ensures.port g.P.Policy.meaning))))
    (c.say_error-in-Err-GrantsFull.ensures.work n)
