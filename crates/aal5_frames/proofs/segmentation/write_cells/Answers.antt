use Rattle.std.proofs.Common.{ℕ, List, length, set, sym, subst, ◌∙◌, arith}
use Rattle.aal5_frames.specs.Frame.{IsPdu, cells_for, pdu_of}
use Rattle.aal5_frames.proofs.Cells.{all_written, carried, length-pdu_of, IsPdu-pdu_of, pushed}
use Rattle.aal5_frames.proofs.segmentation.write_cells.Goals as goal

pub loop-k-preserved : goal.loop-k-preserved
loop-k-preserved c =
    (λ i. set (c.loop-k.invariant i) c.loop-k.k (c.cell_at.ensures i)) ∙ pushed _ c.loop-k.k c.args.out.now (omega arith)

pub returns-clause-written : goal.returns-clause-written
returns-clause-written c =
    let payload : List ℕ = c.args.payload.now in
    all_written c.args.channel c.args.mark _ (pdu_of payload) c.loop-k.k (cells_for (length payload)) c.args.out.now c.loop-k.out c.loop-k.invariant
    c.write_pdu.ensures (omega arith) (length-pdu_of payload)

pub returns-clause-pdu : goal.returns-clause-pdu
returns-clause-pdu c =
    let payload : List ℕ = c.args.payload.now in
    subst (λ (o : List ℕ). IsPdu payload o)
    (sym (carried c.args.channel c.args.mark _ (pdu_of payload) c.loop-k.k (cells_for (length payload)) c.args.out.now c.loop-k.out c.loop-k.invariant
    c.write_pdu.ensures (omega arith) (length-pdu_of payload)))
    (IsPdu-pdu_of payload c.requires.len.0 c.requires.len.1)
