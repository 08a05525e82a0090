use Rattle.std.proofs.Common.{List, ℕ, ap}
use Rattle.message_text.specs.Fields.{named_number}
use Rattle.message_text.specs.Ifmp.{between}
use Rattle.lab_text.proofs.Fronts.{as_text, here, here_as, next, next_as, on_err, said}
use Rattle.message_text.proofs.ifmp.write_hello.Goals as goal

pub returns-in_err-write_between-clause-err : goal.returns-in_err-write_between-clause-err
returns-in_err-write_between-clause-err c =
    said c.from_residual.result _ (here_as _ _ _ _ _ (ap (λ (word : List ℕ). between word c.args.hello.now.sender c.args.hello.now.peer) c.hello_word.ensures) c.in_err-write_between.ensures.err)

pub returns-in_err-write_address-clause-err : goal.returns-in_err-write_address-clause-err
returns-in_err-write_address-clause-err c =
    said c.from_residual-in_err-write_address.result _ (next_as _ _ _ _ _ _ (ap (λ (word : List ℕ). between word c.args.hello.now.sender c.args.hello.now.peer) c.hello_word.ensures) c.in_ok-write_between.ensures.ok (here _ _ _ _ c.in_err-write_address.ensures.err))

pub returns-clause-err : goal.returns-clause-err
returns-clause-err c =
    on_err c.write_number.result _ _ (λ h. next_as _ _ _ _ _ _ (ap (λ (word : List ℕ). between word c.args.hello.now.sender c.args.hello.now.peer) c.hello_word.ensures) c.in_ok-write_between.ensures.ok (next _ _ _ _ _ c.in_ok-write_address.ensures.ok (as_text _ _ _ _ (ap (named_number _) c.from.ensures) h))) c.write_number.ensures.err
