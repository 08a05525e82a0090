use Rattle.std.proofs.Common.{◌≡◌, ◌++◌, ◌∙◌, List, ℕ, Option, None, Some, ap, subst, sym}
use Rattle.std.specs.Prelude.{OnOk}
use Rattle.std.specs.Option.{option_map}
use Rattle.port_labels.specs.Read.{label_of}
use Rattle.port_model.specs.Labels.{Label}
use Rattle.show_text.specs.Port.{label_line}
use Rattle.tell_show.proofs.labels.write_label_at.Goals as goal

pub returns-in-Some : goal.returns-in-Some
returns-in-Some c = λ label found.
    let same : ◌≡◌ {A = Option Label} (Some (label_of c.in-Some.label)) (Some label) = ap (option_map label_of) (sym c.in-Some.is) ∙ c.held_at.ensures.label ∙ found in
    let is : label_of c.in-Some.label ≡ label = cc same in
    subst (λ (line : List ℕ). OnOk c.write_label.result (c.write_label.new.out ≡ c.args.out.now ++ line))
    (ap (label_line c.args.names.now c.args.node c.args.port) is) c.write_label.ensures.ok

pub returns-in-None : goal.returns-in-None
returns-in-None c = λ label found.
    let same : ◌≡◌ {A = Option Label} None (Some label) = ap (option_map label_of) (sym c.in-None.is) ∙ c.held_at.ensures.label ∙ found in
    absurd (cc same)
