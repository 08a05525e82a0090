use Rattle.std.proofs.Common.{◌≡◌, ◌∙◌, Some, None, refl, sym, ap}
use Rattle.crossbar_model.specs.Crossbar.{first_on}
use Rattle.gsmp_switch.specs.Exchange.{changed_in, with_changed}
use Rattle.world_model.specs.Requests.{Changed}
use Rattle.gsmp_switch.proofs.Inputs.{cleared_next, cleared_none, fewer_inputs}
use Rattle.gsmp_switch.proofs.change.clear.Goals as goal

pub loop-input-smaller : goal.loop-input-smaller
loop-input-smaller c =
    let found : first_on c.loop-input.exchange.crossbar.branches c.args.port ≡ Some c.in-Some.input = sym c.first_of.ensures.first ∙ c.in-Some.is in
    let less = fewer_inputs (changed_in c.loop-input.exchange c.loop-input.notes) c.args.port c.in-Some.input found in
    rw c.in_ok-end.ensures.exchange less

pub loop-input-preserved : goal.loop-input-preserved
loop-input-preserved c =
    let found : first_on c.loop-input.exchange.crossbar.branches c.args.port ≡ Some c.in-Some.input = sym c.first_of.ensures.first ∙ c.in-Some.is in
    let next = cleared_next (changed_in c.loop-input.exchange c.loop-input.notes) c.args.port c.in-Some.input found in
    rw (c.in_ok-end.ensures.exchange, c.in_ok-end.ensures.notes) (record { ends = sym next ∙ c.loop-input.invariant.ends; rest = rw c.loop-input.invariant.rest refl })

pub returns-clause-exchange : goal.returns-clause-exchange
returns-clause-exchange c =
    let none : first_on c.loop-input.exchange.crossbar.branches c.args.port ≡ None = sym c.first_of.ensures.first ∙ c.in_default.is in
    let stop = cleared_none (changed_in c.loop-input.exchange c.loop-input.notes) c.args.port none in
    c.loop-input.invariant.rest ∙ ap (λ (x : Changed). with_changed c.args.exchange.now x) (sym stop ∙ c.loop-input.invariant.ends)

pub returns-clause-notes : goal.returns-clause-notes
returns-clause-notes c =
    let none : first_on c.loop-input.exchange.crossbar.branches c.args.port ≡ None = sym c.first_of.ensures.first ∙ c.in_default.is in
    let stop = cleared_none (changed_in c.loop-input.exchange c.loop-input.notes) c.args.port none in
    ap (λ (x : Changed). x.notes) (sym stop ∙ c.loop-input.invariant.ends)
