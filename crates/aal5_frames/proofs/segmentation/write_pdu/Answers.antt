use Rattle.std.proofs.Common.{ℕ, ◌-◌, List, ◌++◌, length, replicate, ap, ◌∙◌, arith}
use Rattle.aal5_frames.proofs.Cells.{cleared, filled}
use Rattle.aal5_frames.proofs.segmentation.write_pdu.Goals as goal

pub returns : goal.returns
returns c =
    let payload : List ℕ = c.args.payload.now in
    c.write_trailer.ensures
    ∙ filled payload _ c.requires.len.0
    (cleared payload c.copy_from_slice.new.self c.args.pdu.now c.fill.new.self c.copy_from_slice.ensures.after (omega arith) (c.fill.ensures.after (λ y h. h))
    ∙ ap (λ k. payload ++ replicate (k - length payload) 0) c.requires.room)
