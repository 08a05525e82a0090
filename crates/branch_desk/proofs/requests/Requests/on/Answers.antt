use Rattle.std.proofs.Common.{◌∙◌, sym}
use Rattle.port_model.specs.Requests.{request_input}
use Rattle.branch_desk.proofs.Apart.{apart_inputs}
use Rattle.branch_desk.proofs.Keys.{absent_key, keyed_number}
use Rattle.branch_desk.proofs.requests.Requests.on.Goals as goal

pub returns-in_err-number-clause-found : goal.returns-in_err-number-clause-found
returns-in_err-number-clause-found c =
    c.from_residual.ensures ∙ sym (rw (← c.self.view_is) (absent_key request_input c.self.inside.entries.items c.self.inside.inputs c.args.input c.self.invariant.inputs c.in_err-number.ensures.none))

pub numbered-requires : goal.numbered-requires
numbered-requires c =
    rw (← c.self.view_is)
    (keyed_number request_input c.self.inside.entries.items c.self.inside.inputs c.args.input c.in_ok-number.number c.self.invariant.inputs (apart_inputs c.self.inside.entries.items c.self.invariant.apart) c.self.invariant.rising c.in_ok-number.ensures.some).there

pub returns-clause-found : goal.returns-clause-found
returns-clause-found c =
    let keyed = keyed_number request_input c.self.inside.entries.items c.self.inside.inputs c.args.input c.in_ok-number.number c.self.invariant.inputs (apart_inputs c.self.inside.entries.items c.self.invariant.apart) c.self.invariant.rising c.in_ok-number.ensures.some in
    c.numbered.ensures ∙ (rw (← c.self.view_is) (sym keyed.same))
