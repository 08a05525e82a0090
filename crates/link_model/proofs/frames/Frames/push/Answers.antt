use Rattle.std.proofs.Common.{◌≡◌, ◌∙◌, ap, ℕ, cond, Some, length, arith}
use Rattle.std.specs.HashMap.{get}
use Rattle.link_model.specs.Ledger.{same_mark}
use Rattle.link_model.proofs.Latest.{LeadsToLatest-push}
use Rattle.link_model.proofs.frames.Frames.push.Goals as goal

-- the new frame stands behind the others, and the map has its place
pub invariant_of-self-2 : goal.invariant_of-self-2
invariant_of-self-2 c =
    let frames = c.self.inside.list.items in
    let places = c.self.inside.latest in
    let last : c.len.result ≡ length frames = omega (arith, ap length c.in_ok-reserve.ensures.items) in
    rw (c.push_reserved.ensures.items, c.in_ok-reserve.ensures.items)
    (LeadsToLatest-push places c.insert.new.self frames (record { mark = c.args.mark; payload = c.new-payload.result }) c.self.invariant
    (λ mark. c.in_ok-insert.ensures.updates.0 mark ∙ ap (λ (place : ℕ). cond (same_mark c.args.mark mark) (Some place) (get same_mark places mark)) last))
