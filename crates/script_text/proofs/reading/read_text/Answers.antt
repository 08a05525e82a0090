use Rattle.std.proofs.Common.{◌≡◌, ◌∙◌, ap, sym, refl}
use Rattle.world_model.specs.Topology.{Topology}
use Rattle.script_words.specs.Told.{told}
use Rattle.script_text.proofs.Sayings.{text_means, text_refused}
use Rattle.script_text.proofs.reading.read_text.Goals as goal

pub returns-in-Ok-Some : goal.returns-in-Ok-Some
returns-in-Ok-Some c =
    let version : c.version.result ≡ c.args.state.now.topology.version = c.version.ensures ∙ ap (λ (t : Topology). t.version) c.topology.ensures in
    let means = text_means c.args.state.now c.args.text.now c.version.result (told c.in-Ok-Some.said) version
    (sym (rw c.in-Ok-Some.field-0-is at c.in-Ok-Some.ensures.said)) in
    rw means c.mean.ensures

pub returns-in-Err : goal.returns-in-Err
returns-in-Err c =
    let version : c.version.result ≡ c.args.state.now.topology.version = c.version.ensures ∙ ap (λ (t : Topology). t.version) c.topology.ensures in
    (text_refused c.args.state.now c.args.text.now c.version.result c.in-Err.refusal version (sym c.in-Err.ensures.said), refl)
