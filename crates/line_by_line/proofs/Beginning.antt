-- a task begins

use Rattle.std.proofs.Common.{◌≡◌, ℕ, ◌<◌, ◌≤◌, List, [], Option, None, Some, refl, sym, ◌∙◌, ap, subst, arith, append-nil, length}
use Rattle.std.specs.Io.KnownBytes.{Appends, Consumes}
use Rattle.lab_io.specs.Report.{Writer}
use Rattle.lab_text.specs.Line.{input_limit}
use Rattle.line_by_line.specs.declared.line_run.LineRun.{LineRun}
use Rattle.line_by_line.specs.Account.{Account}
use Rattle.lab_io.specs.Puts.{StaysWithin}
use Rattle.line_by_line.specs.Report.{IsFront, in_lines}
use Rattle.line_by_line.specs.Reading.{IsAtLine, IsBegun, IsCounted}
use Rattle.lab_io.proofs.Stops.{nothing_put}

none_lost : (left : Option (List ℕ)) → Consumes left left []
none_lost None = tt
none_lost (Some xs) = refl

none_put : (written : Option (List ℕ)) → Appends written written []
none_put None = tt
none_put (Some xs) = sym (append-nil xs)

module _ {O : Type 0} (account : List (List ℕ) → Account O) where
  -- nothing was read, and nothing written
  pub nothing_told : (left written : Option (List ℕ)) → IsFront account left left written written
  nothing_told left written = in_lines [] [] (record { read = none_lost left; lines = λ others is. refl }) (record { count = 0; within = omega arith; appended = none_put written })

  pub begun_line : (run : LineRun) → IsBegun run → (left written : Option (List ℕ)) → IsAtLine account run.writer written left account run left written
  begun_line run b left written = record {
    lines = [];
    given = [];
    octets = [];
    read = subst (Consumes left left) (sym b.held) (none_lost left);
    split = λ others. refl;
    size = sym b.given;
    ended = λ is. absurd (b.is_open is);
    same = λ others. refl;
    put = nothing_put run.writer written;
  }

module _ (run : LineRun) (b : IsBegun run) where
  pub begun_counted : (octets : ℕ) → octets ≡ 0 → IsCounted octets run
  begun_counted octets none = record {
    octets_are = none ∙ sym b.given;
    low = subst (λ n. n < input_limit) (sym b.given) (omega arith);
  }

  pub begun_bare : run.writer.held ≡ []
  begun_bare = ap (λ (w : Writer). w.held) b.writer

  pub begun_few : (later : Writer) → StaysWithin run.writer later → length later.held ≤ 65536
  begun_few later s =
      let held : length run.writer.held ≡ 0 = ap (λ (w : Writer). length w.held) b.writer in
      let room : run.writer.room ≡ 65536 = ap (λ (w : Writer). w.room) b.writer in
      let low : length run.writer.held ≤ run.writer.room = omega (arith, held) in
      let high : length later.held ≤ later.room = s.bound low in
      omega (arith, high, s.room, room)
