use Rattle.std.proofs.Common.{arith}
use Rattle.flow_encaps.proofs.AnswerLemmas.{Carries-answer, answer-carried}
use Rattle.flow_encaps.proofs.labelled.unwrap_flow.Goals as goal

pub returns-clause-found : goal.returns-clause-found
returns-clause-found c =
    Carries-answer c.args.flow.now c.args.payload.now c.put_together.new.out c.args.out.now c.put_together.result c.requires.flow
    (λ i. omega (arith, c.type_inv.payload i)) (λ i. omega (arith, c.type_inv.out i))
    c.put_together.ensures.fits c.put_together.ensures.layout c.put_together.ensures.written c.put_together.ensures.len c.put_together.ensures.fault

pub returns-clause-carried : goal.returns-clause-carried
returns-clause-carried c =
    answer-carried c.args.flow.now c.args.payload.now c.put_together.new.out c.args.out.now c.put_together.result
    c.put_together.ensures.layout c.put_together.ensures.written c.put_together.ensures.len c.put_together.ensures.fault
