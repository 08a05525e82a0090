use Rattle.std.proofs.Common.{◌≡◌, ◌++◌, ◌∙◌, ap, subst}
use Rattle.lab_io.specs.Report.{IsPut}
use Rattle.lab_io.specs.declared.stop.Stop.TheVariants.{Failed}
use Rattle.lab_io.specs.Puts.{Puts}
use Rattle.lab_io.proofs.Stops.{none_of, passes_on}
use Rattle.show_text.specs.Shown.{site_lines}
use Rattle.tell_show.proofs.tell.tell_node.Goals as goal

pub returns-in_err-write_site-clause-put : goal.returns-in_err-write_site-clause-put
returns-in_err-write_site-clause-put g c = λ site found.
    passes_on c.from_residual.result _ _ _ _ _ _ c.from_residual.ensures.1 (none_of _ _ _)

pub returns-in_err-put-clause-put : goal.returns-in_err-put-clause-put
returns-in_err-put-clause-put g c = λ site found.
    let line : c.as_slice.result.now ≡ site_lines c.args.names.now site = c.as_slice.ensures ∙ c.in_ok-write_site.ensures site found ∙ ap (λ xs. xs ++ site_lines c.args.names.now site) c.new-lines.ensures in
    subst (Puts c.from_residual-in_err-put.result c.args.writer.now c.put.new.self (g.K.Sink.written c.args.sink.now) (g.K.Sink.written c.put.new.sink)) line
    (passes_on c.from_residual-in_err-put.result Failed c.args.writer.now c.put.new.self (g.K.Sink.written c.args.sink.now) (g.K.Sink.written c.put.new.sink) c.as_slice.result.now c.from_residual-in_err-put.ensures.1 c.in_err-put.ensures.failed)

pub returns-clause-put : goal.returns-clause-put
returns-clause-put g c = λ site found.
    let line : c.as_slice.result.now ≡ site_lines c.args.names.now site = c.as_slice.ensures ∙ c.in_ok-write_site.ensures site found ∙ ap (λ xs. xs ++ site_lines c.args.names.now site) c.new-lines.ensures in
    subst (IsPut c.args.writer.now c.put.new.self (g.K.Sink.written c.args.sink.now) (g.K.Sink.written c.put.new.sink)) line c.in_ok-put.ensures.ok
