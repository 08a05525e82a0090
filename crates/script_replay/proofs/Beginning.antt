-- a replay begins

use Rattle.std.proofs.Common.{◌≡◌, ℕ, ◌<◌, ◌≤◌, List, [], Option, None, Some, refl, sym, ◌∙◌, ap, subst, arith, append-nil, length}
use Rattle.std.specs.Io.KnownBytes.{Appends, Consumes}
use Rattle.lab_io.specs.Report.{Writer}
use Rattle.lab_text.specs.Line.{input_limit}
use Rattle.port_model.specs.Setup.{Policy}
use Rattle.world_model.specs.Controller.{Controller}
use Rattle.world_model.specs.Topology.{Topology}
use Rattle.script_model.specs.Reading.{line_says}
use Rattle.script_model.specs.Script.{Script}
use Rattle.script_model.specs.State.{ScriptState}
use Rattle.network_run.specs.telling_model.Placed.{Placed, events_in}
use Rattle.network_run.specs.telling_model.Tale.{Tale}
use Rattle.world.specs.declared.counts.Meter.{Meter}
use Rattle.lab_io.specs.Puts.{StaysWithin}
use Rattle.network_replay.specs.Along.{IsGoing}
use Rattle.network_replay.proofs.Onward.{along_first}
use Rattle.script_replay.specs.declared.script_run.ScriptRun.{ScriptRun}
use Rattle.script_replay.specs.Report.{IsFront, in_lines}
use Rattle.script_replay.specs.Reading.{IsAtLine, IsBegun, IsCounted}

none_lost : (left : Option (List ℕ)) → Consumes left left []
none_lost None = tt
none_lost (Some xs) = refl

none_put : (written : Option (List ℕ)) → Appends written written []
none_put None = tt
none_put (Some xs) = sym (append-nil xs)

-- nothing was read, and nothing written
pub nothing_told : (account body : Script → List Placed → List ℕ) (left written : Option (List ℕ)) → IsFront account body left left written written
nothing_told account body left written = in_lines [] [] (record { read = none_lost left; lines = λ others is. refl }) (record { count = 0; within = omega arith; appended = none_put written })

module _ {C T S : Type 0} (seen : C → Controller) (known : T → S) (tale : Tale S) (choice : Topology → Policy) (run : ScriptRun C T) (b : IsBegun run) where
  pub begun_line : (left written : Option (List ℕ)) (meter : Meter) → IsAtLine seen known tale choice run.told.writer written meter left run left written meter
  begun_line left written meter = record {
    lines = [];
    given = [];
    read = subst (Consumes left left) (sym b.held) (none_lost left);
    split = λ others. refl;
    size = sym b.given;
    ended = λ is. absurd (b.is_open is);
    along = along_first tale choice seen known line_says run.told written meter run.replay b.replay.state b.replay.notes b.replay.world;
  }

  pub begun_going : Meter → IsGoing seen choice run.replay
  begun_going meter =
      let along = along_first tale choice seen known line_says run.told None meter run.replay b.replay.state b.replay.notes b.replay.world in
      record { events = events_in along.placed; network = along.network }

  pub begun_counted : IsCounted run
  begun_counted = record {
    octets = ap (λ (s : ScriptState). s.octets) b.replay.state ∙ sym b.given;
    lines = (let none : run.replay.state.lines ≡ 0 = ap (λ (s : ScriptState). s.lines) b.replay.state in omega (arith, none));
    low = subst (λ n. n < input_limit) (sym b.given) (omega arith);
  }

  pub begun_bare : run.told.writer.held ≡ []
  begun_bare = ap (λ (w : Writer). w.held) b.writer

  pub begun_few : (later : Writer) → StaysWithin run.told.writer later → length later.held ≤ 65536
  begun_few later s =
      let held : length run.told.writer.held ≡ 0 = ap (λ (w : Writer). length w.held) b.writer in
      let room : run.told.writer.room ≡ 65536 = ap (λ (w : Writer). w.room) b.writer in
      let low : length run.told.writer.held ≤ run.told.writer.room = omega (arith, held) in
      let high : length later.held ≤ later.room = s.bound low in
      omega (arith, high, s.room, room)
