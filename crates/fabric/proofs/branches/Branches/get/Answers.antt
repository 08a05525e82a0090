use Rattle.std.proofs.Common.{◌<◌, [], None, get_or, length, sym, ap, ◌∙◌, arith}
use Rattle.std.proofs.lemmas.List.{get_or_read}
use Rattle.fabric.proofs.Rows.{found, not_found, Connects, connects, some_with}
use Rattle.fabric.proofs.branches.Branches.get.Goals as goal

pub returns-in_err-place-clause-value : goal.returns-in_err-place-clause-value
returns-in_err-place-clause-value c = rw (← c.self.view_is) (c.from_residual.ensures ∙ not_found c.self.inside.rows.items c.args.input c.in_err-place.ensures.none)

pub returns-clause-value : goal.returns-clause-value
returns-clause-value c =
    let place = c.in_ok-place.place in
    let within : place.row < length c.self.inside.rows.items = omega (arith, c.in_ok-place.ensures.row, c.self.invariant.sixteen) in
    let row = get_or_read c.self.inside.rows.items place.row c.index.result.now within c.index.ensures [] in
    rw (← c.self.view_is) (c.get.ensures ∙ ap (λ r. get_or r place.column None) row
    ∙ found c.self.inside.rows.items place.row place.column c.args.input c.in_ok-place.ensures.row c.in_ok-place.ensures.column c.in_ok-place.ensures.end)

pub returns-clause-input : goal.returns-clause-input
returns-clause-input c =
    let place = c.in_ok-place.place in
    let within : place.row < length c.self.inside.rows.items = omega (arith, c.in_ok-place.ensures.row, c.self.invariant.sixteen) in
    let row = get_or_read c.self.inside.rows.items place.row c.index.result.now within c.index.ensures [] in
    rw (← c.self.view_is) (some_with (Connects c.self.inside.ports.items c.self.inside.vpis c.args.input) _ c.get.result (λ b is. is.input)
    (connects c.self.inside.ports.items c.self.inside.vpis c.self.inside.rows.items place.row place.column c.args.input c.get.result c.self.invariant c.in_ok-place.ensures.column c.in_ok-place.ensures.end
    (ap (λ r. get_or r place.column None) (sym row) ∙ sym c.get.ensures)))

pub returns-clause-output : goal.returns-clause-output
returns-clause-output c =
    let place = c.in_ok-place.place in
    let within : place.row < length c.self.inside.rows.items = omega (arith, c.in_ok-place.ensures.row, c.self.invariant.sixteen) in
    let row = get_or_read c.self.inside.rows.items place.row c.index.result.now within c.index.ensures [] in
    rw (← c.self.view_is) (some_with (Connects c.self.inside.ports.items c.self.inside.vpis c.args.input) _ c.get.result (λ b is. is.output)
    (connects c.self.inside.ports.items c.self.inside.vpis c.self.inside.rows.items place.row place.column c.args.input c.get.result c.self.invariant c.in_ok-place.ensures.column c.in_ok-place.ensures.end
    (ap (λ r. get_or r place.column None) (sym row) ∙ sym c.get.ensures)))

pub returns-clause-port : goal.returns-clause-port
returns-clause-port c =
    let place = c.in_ok-place.place in
    let within : place.row < length c.self.inside.rows.items = omega (arith, c.in_ok-place.ensures.row, c.self.invariant.sixteen) in
    let row = get_or_read c.self.inside.rows.items place.row c.index.result.now within c.index.ensures [] in
    some_with (Connects c.self.inside.ports.items c.self.inside.vpis c.args.input) _ c.get.result (λ b is. is.port)
    (connects c.self.inside.ports.items c.self.inside.vpis c.self.inside.rows.items place.row place.column c.args.input c.get.result c.self.invariant c.in_ok-place.ensures.column c.in_ok-place.ensures.end
    (ap (λ r. get_or r place.column None) (sym row) ∙ sym c.get.ensures))
