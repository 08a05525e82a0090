use Rattle.std.proofs.Common.{◌≡◌, ◌∙◌, List, ℕ, subst}
use Rattle.std.specs.Prelude.{Result, IfOk}
use Rattle.net_types.specs.declared.memory.OutOfMemory.{OutOfMemory}
use Rattle.lab_io.specs.Report.{IsPut}
use Rattle.lab_io.specs.declared.stop.Stop.TheVariants.{Failed}
use Rattle.lab_io.specs.Puts.{Puts}
use Rattle.lab_io.proofs.Stops.{none_of, passes_on}
use Rattle.tell_journal.proofs.put.put_line.Goals as goal

pub returns-in_err-line-clause-put : goal.returns-in_err-line-clause-put
returns-in_err-line-clause-put g c octets is =
    passes_on c.from_residual.result _ _ _ _ _ _ c.from_residual.ensures.1 (none_of _ _ _)

pub returns-in_err-put-clause-put : goal.returns-in_err-put-clause-put
returns-in_err-put-clause-put g c octets is =
    let same : c.in_ok-line.line ≡ octets = subst (λ (r : Result (List ℕ) OutOfMemory). IfOk r (λ text. text ≡ octets)) c.in_ok-line.was is in
    let line : c.as_slice.result.now ≡ octets = c.as_slice.ensures ∙ same in
    subst (Puts c.from_residual-in_err-put.result c.args.writer.now c.put.new.self (g.K.Sink.written c.args.sink.now) (g.K.Sink.written c.put.new.sink)) line
    (passes_on c.from_residual-in_err-put.result Failed c.args.writer.now c.put.new.self (g.K.Sink.written c.args.sink.now) (g.K.Sink.written c.put.new.sink) c.as_slice.result.now c.from_residual-in_err-put.ensures.1 c.in_err-put.ensures.failed)

pub returns-clause-put : goal.returns-clause-put
returns-clause-put g c octets is =
    let same : c.in_ok-line.line ≡ octets = subst (λ (r : Result (List ℕ) OutOfMemory). IfOk r (λ text. text ≡ octets)) c.in_ok-line.was is in
    let line : c.as_slice.result.now ≡ octets = c.as_slice.ensures ∙ same in
    subst (IsPut c.args.writer.now c.put.new.self (g.K.Sink.written c.args.sink.now) (g.K.Sink.written c.put.new.sink)) line c.in_ok-put.ensures.ok
