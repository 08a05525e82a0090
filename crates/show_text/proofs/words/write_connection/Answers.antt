use Rattle.lab_text.proofs.Fronts.{begun, here, next, on_err, said}
use Rattle.show_text.proofs.words.write_connection.Goals as goal

pub returns-in_err-write_socket-clause-err : goal.returns-in_err-write_socket-clause-err
returns-in_err-write_socket-clause-err c =
    said c.from_residual.result _ (here _ _ _ _ c.in_err-write_socket.ensures.err)

pub returns-in_err-text-clause-err : goal.returns-in_err-text-clause-err
returns-in_err-text-clause-err c =
    said c.from_residual-in_err-text.result _ (next _ _ _ _ _ c.in_ok-write_socket.ensures.ok (begun _ _ _ c.in_err-text.ensures.err))

pub returns-in_err-write_socket-2-clause-err : goal.returns-in_err-write_socket-2-clause-err
returns-in_err-write_socket-2-clause-err c =
    said c.from_residual-in_err-write_socket-2.result _ (next _ _ _ _ _ c.in_ok-write_socket.ensures.ok (next _ _ _ _ _ c.in_ok-text.ensures.ok (here _ _ _ _ c.in_err-write_socket-2.ensures.err)))

pub returns-clause-err : goal.returns-clause-err
returns-clause-err c =
    on_err c.write_service.result _ _ (λ h. next _ _ _ _ _ c.in_ok-write_socket.ensures.ok (next _ _ _ _ _ c.in_ok-text.ensures.ok (next _ _ _ _ _ c.in_ok-write_socket-2.ensures.ok (h)))) c.write_service.ensures.err
