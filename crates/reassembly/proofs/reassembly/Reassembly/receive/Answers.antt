use Rattle.std.proofs.Common.{length, ◌∙◌, arith}
use Rattle.reassembly.proofs.Receipts.{takes_joined, reassembly_by, notes_by, payload_by}
use Rattle.reassembly.proofs.reassembly.Reassembly.receive.Goals as goal

pub returns-clause-reassembly : goal.returns-clause-reassembly
returns-clause-reassembly g c =
    let len = c.len.ensures.len in
    let takes = takes_joined c.args.notes.now (length (g.S.ChainStore.region c.args.store.now).free) (g.S.ChainStore.region c.args.store.now) c.args.self.now _ c.args.cell.now c.self.view_is c.if-self.false
    (λ e. c.if-free-eq0.false (c.free.ensures ∙ e)) (omega (arith, len, c.len.ensures.most)) (λ e. c.if-len-eq-CHAIN_CELLS.false (len ∙ e)) in
    reassembly_by c.join.result _ _ takes _ c.join.ensures.reassembly

pub returns-clause-notes : goal.returns-clause-notes
returns-clause-notes g c =
    let len = c.len.ensures.len in
    let takes = takes_joined c.args.notes.now (length (g.S.ChainStore.region c.args.store.now).free) (g.S.ChainStore.region c.args.store.now) c.args.self.now _ c.args.cell.now c.self.view_is c.if-self.false
    (λ e. c.if-free-eq0.false (c.free.ensures ∙ e)) (omega (arith, len, c.len.ensures.most)) (λ e. c.if-len-eq-CHAIN_CELLS.false (len ∙ e)) in
    notes_by c.join.result _ _ takes c.join.new.notes c.join.ensures.notes

pub returns-clause-payload : goal.returns-clause-payload
returns-clause-payload g c =
    let len = c.len.ensures.len in
    let takes = takes_joined c.args.notes.now (length (g.S.ChainStore.region c.args.store.now).free) (g.S.ChainStore.region c.args.store.now) c.args.self.now _ c.args.cell.now c.self.view_is c.if-self.false
    (λ e. c.if-free-eq0.false (c.free.ensures ∙ e)) (omega (arith, len, c.len.ensures.most)) (λ e. c.if-len-eq-CHAIN_CELLS.false (len ∙ e)) in
    payload_by c.join.result _ _ takes _ c.join.ensures.payload
