use Rattle.std.proofs.Common.{◌≡◌, ◌∙◌, codes, false, true, ap, ap₂}
use Rattle.std.proofs.lemmas.Result.{IfOk-weaker}
use Rattle.clap.specs.Simple.{App, Shape, app_of, with_subcommand}
use Rattle.command_line.specs.Grammar.{top_app, bare, worded}
use Rattle.command_line.proofs.grammar.grammar.Goals as goal

abbrev top_of : App → Shape
top_of a = a.top

-- the grammar so far
abbrev first_app : App
first_app = with_subcommand top_app (worded (codes "replay") false)

abbrev second_app : App
second_app = with_subcommand first_app (bare (codes "ideal"))

abbrev third_app : App
third_app = with_subcommand second_app (worded (codes "decode") true)

abbrev fourth_app : App
fourth_app = with_subcommand third_app (worded (codes "drill") true)

abbrev fifth_app : App
fifth_app = with_subcommand fourth_app (bare (codes "rules"))

abbrev sixth_app : App
sixth_app = with_subcommand fifth_app (bare (codes "audit"))

abbrev seventh_app : App
seventh_app = with_subcommand sixth_app (bare (codes "console"))

abbrev eighth_app : App
eighth_app = with_subcommand seventh_app (bare (codes "trace"))

abbrev ninth_app : App
ninth_app = with_subcommand eighth_app (bare (codes "show"))

abbrev tenth_app : App
tenth_app = with_subcommand ninth_app (bare (codes "journal"))

pub returns : goal.returns
returns c =
    let first : app_of c.in_ok-subcommand.field-0 ≡ first_app =
    c.in_ok-subcommand.ensures.shape c.in_ok-worded.ensures.local ∙ ap₂ with_subcommand c.top.ensures.app (ap top_of c.in_ok-worded.ensures.app) in
    let second : app_of c.in_ok-subcommand-2.field-0 ≡ second_app =
    c.in_ok-subcommand-2.ensures.shape c.bare.ensures.local ∙ ap₂ with_subcommand first (ap top_of c.bare.ensures.app) in
    let third : app_of c.in_ok-subcommand-3.field-0 ≡ third_app =
    c.in_ok-subcommand-3.ensures.shape c.in_ok-worded-2.ensures.local ∙ ap₂ with_subcommand second (ap top_of c.in_ok-worded-2.ensures.app) in
    let fourth : app_of c.in_ok-subcommand-4.field-0 ≡ fourth_app =
    c.in_ok-subcommand-4.ensures.shape c.in_ok-worded-3.ensures.local ∙ ap₂ with_subcommand third (ap top_of c.in_ok-worded-3.ensures.app) in
    let fifth : app_of c.in_ok-subcommand-5.field-0 ≡ fifth_app =
    c.in_ok-subcommand-5.ensures.shape c.bare-2.ensures.local ∙ ap₂ with_subcommand fourth (ap top_of c.bare-2.ensures.app) in
    let sixth : app_of c.in_ok-subcommand-6.field-0 ≡ sixth_app =
    c.in_ok-subcommand-6.ensures.shape c.bare-3.ensures.local ∙ ap₂ with_subcommand fifth (ap top_of c.bare-3.ensures.app) in
    let seventh : app_of c.in_ok-subcommand-7.field-0 ≡ seventh_app =
    c.in_ok-subcommand-7.ensures.shape c.bare-4.ensures.local ∙ ap₂ with_subcommand sixth (ap top_of c.bare-4.ensures.app) in
    let eighth : app_of c.in_ok-subcommand-8.field-0 ≡ eighth_app =
    c.in_ok-subcommand-8.ensures.shape c.bare-5.ensures.local ∙ ap₂ with_subcommand seventh (ap top_of c.bare-5.ensures.app) in
    let ninth : app_of c.in_ok-subcommand-9.field-0 ≡ ninth_app =
    c.in_ok-subcommand-9.ensures.shape c.bare-6.ensures.local ∙ ap₂ with_subcommand eighth (ap top_of c.bare-6.ensures.app) in
    let tenth : app_of c.in_ok-subcommand-10.field-0 ≡ tenth_app =
    c.in_ok-subcommand-10.ensures.shape c.bare-7.ensures.local ∙ ap₂ with_subcommand ninth (ap top_of c.bare-7.ensures.app) in
    IfOk-weaker c.subcommand-11.result _ _
    (λ r h. h.shape c.bare-8.ensures.local ∙ ap₂ with_subcommand tenth (ap top_of c.bare-8.ensures.app))
    c.subcommand-11.ensures
