use Rattle.std.proofs.Common.{◌≡◌, ◌∙◌, true, false, sym}
use Rattle.std.specs.List.{list_any}
use Rattle.branch_desk.specs.ByEnd.{has_end}
use Rattle.branch_desk.proofs.Keys.{gap_from_not}
use Rattle.branch_desk.proofs.by_end.ByEnd.remove.Goals as goal

pub returns-in_default-place_of : goal.returns-in_default-place_of
returns-in_default-place_of c =
    let there : list_any (has_end c.in-Some.end) c.args.self.now ≡ true = rw c.in-Some.is at c.requires.there in
    let gone : list_any (has_end c.in-Some.end) c.args.self.now ≡ false =
    rw (← c.self.view_is, ← c.deref.ensures.value) (gap_from_not c.deref.result.now c.in-Some.end c.place_of.result c.place_of.ensures.absent c.in_default-place_of.not-Ok) in
    absurd (cc (sym there ∙ gone))
