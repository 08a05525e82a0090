use Rattle.std.proofs.Common.{ap, true≢false, sym, ◌∙◌}
use Rattle.lab_io.specs.Lines.{Reader}
use Rattle.script_replay.proofs.script_run.ScriptRun.open.Goals as goal

pub returns : goal.returns
returns g c = record {
  held = ap (λ (r : Reader). r.held) c.in_ok-reader.ensures;
  given = ap (λ (r : Reader). r.given) c.in_ok-reader.ensures;
  is_open = λ is. true≢false (sym is ∙ ap (λ (r : Reader). r.is_ended) c.in_ok-reader.ensures);
  writer = c.in_ok-writer.ensures;
  replay = c.in_ok-replay.ensures;
}
