use Rattle.std.proofs.Common.{◌≡◌, ◌++◌, ◌∙◌, List, ℕ, Option, None, Some, ap, subst, sym}
use Rattle.std.specs.Prelude.{OnOk}
use Rattle.std.specs.Option.{option_map}
use Rattle.grant_table.specs.declared.table.GrantView.{GrantView}
use Rattle.grant_table.specs.Table.{view_of}
use Rattle.show_text.specs.Views.{view_line}
use Rattle.show_text.proofs.Views.{view_is_grant}
use Rattle.tell_show.proofs.grants.write_grant_at.Goals as goal

pub returns-in-Some : goal.returns-in-Some
returns-in-Some c = λ grant found.
    let t = c.args.names.now in
    let same : ◌≡◌ {A = Option GrantView} (Some c.in-Some.grant) (Some (view_of grant)) = sym c.in-Some.is ∙ c.view_at.ensures.grant ∙ ap (option_map view_of) found in
    let view : c.in-Some.grant ≡ view_of grant = cc same in
    subst (λ (line : List ℕ). OnOk c.write_grant.result (c.write_grant.new.out ≡ c.args.out.now ++ line))
    (ap (view_line t c.args.node c.args.port) view ∙ view_is_grant t c.args.node c.args.port grant) c.write_grant.ensures.ok

pub returns-in-None : goal.returns-in-None
returns-in-None c = λ grant found.
    let same : ◌≡◌ {A = Option GrantView} None (Some (view_of grant)) = sym c.in-None.is ∙ c.view_at.ensures.grant ∙ ap (option_map view_of) found in
    absurd (cc same)
