use Rattle.std.proofs.Common.{◌≡◌, ◌∙◌, ◌+◌, ◌-◌, ap, sym, get_or, true, false, arith}
use Rattle.gsmp_wire.specs.declared.request.Request.TheVariants.{DeleteAll}
use Rattle.branch_desk.specs.port_model.Desk.{Desk, Standing}
use Rattle.branch_desk.specs.port_model.Requests.{withdraws}
use Rattle.controller_requests.proofs.Lists.{IsSwept, sweep_kept, sweep_taken, swept_request}
use Rattle.controller_requests.proofs.book.RequestBook.withdraw_port.Goals as goal

pub loop-place-preserved-then-goes_with : goal.loop-place-preserved-then-goes_with
loop-place-preserved-then-goes_with c =
    let p = λ (s : Standing). withdraws (DeleteAll c.args.port) s.request in
    let d : Standing = record { number = 0; request = c.request.result } in
    let old = c.args.self.now.standing in
    let now = c.loop-place.self.standing in
    let place = c.loop-place.place - 1 in
    let at : c.loop-place.place ≡ place + 1 = omega (arith, c.loop-place-test.true) in
    let swept : IsSwept p old now (place + 1) = rw at at c.loop-place.invariant.swept in
    let tickets : c.self-in-loop-place.inside.tickets ≡ now = c.self-in-loop-place.invariant.same ∙ ap (λ (x : Desk). x.standing) c.self-in-loop-place.view_is in
    let request : (get_or old place d).request ≡ c.request.result = swept_request p old now place d c.request.result swept (rw tickets at c.request.ensures) in
    let passes : p (get_or old place d) ≡ true = ap (withdraws (DeleteAll c.args.port)) request ∙ sym c.goes_with.ensures ∙ c.if-goes_with.true in
    let after = c.withdraw_at.ensures in
    record {
      next = ap (λ (x : Desk). x.next) after ∙ c.loop-place.invariant.next;
      rows = ap (λ (x : Desk). x.rows) after ∙ c.loop-place.invariant.rows;
      swept = rw (ap (λ (x : Desk). x.standing) after) (sweep_taken p old now place d swept passes);
    }

pub loop-place-preserved : goal.loop-place-preserved
loop-place-preserved c =
    let p = λ (s : Standing). withdraws (DeleteAll c.args.port) s.request in
    let d : Standing = record { number = 0; request = c.request.result } in
    let old = c.args.self.now.standing in
    let now = c.loop-place.self.standing in
    let place = c.loop-place.place - 1 in
    let at : c.loop-place.place ≡ place + 1 = omega (arith, c.loop-place-test.true) in
    let swept : IsSwept p old now (place + 1) = rw at at c.loop-place.invariant.swept in
    let tickets : c.self-in-loop-place.inside.tickets ≡ now = c.self-in-loop-place.invariant.same ∙ ap (λ (x : Desk). x.standing) c.self-in-loop-place.view_is in
    let request : (get_or old place d).request ≡ c.request.result = swept_request p old now place d c.request.result swept (rw tickets at c.request.ensures) in
    let fails : p (get_or old place d) ≡ false = ap (withdraws (DeleteAll c.args.port)) request ∙ sym c.goes_with.ensures ∙ c.if-goes_with.false in
    record {
      next = c.loop-place.invariant.next;
      rows = c.loop-place.invariant.rows;
      swept = sweep_kept p old now place d swept fails;
    }
