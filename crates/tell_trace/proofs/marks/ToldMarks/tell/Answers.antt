use Rattle.std.proofs.Common.{◌≡◌, ◌++◌, ◌∷◌, [], ◌∙◌, Bool, List, ap, cond, refl}
use Rattle.std.specs.List.{list_any}
use Rattle.net_types.specs.declared.number.Mark.{Mark}
use Rattle.net_types.specs.contracts.number.MarkPartialEq.TheImpl.{eq-value}
use Rattle.link_model.specs.Ledger.{same_mark}
use Rattle.tell_trace.proofs.marks.ToldMarks.tell.Goals as goal

eq_is : (a b : Mark) → eq-value.it a b ≡ same_mark a b
eq_is a b = refl

told_by : (mark : Mark) (marks : List Mark) → list_any (eq-value.it mark) marks ≡ list_any (same_mark mark) marks
told_by mark marks = ap (λ (test : Mark → Bool). list_any test marks) (λ i b. eq_is mark b i)

pub returns-clause-ok : goal.returns-clause-ok
returns-clause-ok c =
    let keys : List Mark = c.self.inside.set.keys in
    let seen : keys ≡ c.args.self.now = c.self.view_is in
    c.in_ok-insert.ensures.keys
    ∙ ap (λ (b : Bool). cond b keys (keys ++ c.args.mark ∷ [])) (told_by c.args.mark keys ∙ ap (list_any (same_mark c.args.mark)) seen ∙ c.requires)
    ∙ ap (λ (marks : List Mark). marks ++ c.args.mark ∷ []) seen
