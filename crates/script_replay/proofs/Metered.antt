-- the meter, whatever becomes of a line

use Rattle.std.proofs.Common.{◌≡◌, ◌∙◌, ℕ, ◌-◌, ◌<◌, List, [], ◌∷◌, ◌++◌, append_assoc, append-nil, length, take, Option, None, Some, ap, arith, refl, subst, sym}
use Rattle.std.specs.Io.KnownBytes.{Consumes}
use Rattle.lab_text.specs.Lines.{lines_of}
use Rattle.port_model.specs.Setup.{Policy}
use Rattle.world_model.specs.Controller.{Controller}
use Rattle.world_model.specs.Topology.{Topology}
use Rattle.script_model.specs.declared.refusal.Refused.{Refused}
use Rattle.script_model.specs.Limits.{input_limit}
use Rattle.script_model.specs.Reading.{line_says}
use Rattle.script_model.specs.Script.{Script, script_from, script_of}
use Rattle.script_model.specs.State.{nothing_read}
use Rattle.network_run.specs.telling_model.Tale.{Tale}
use Rattle.network_run.specs.declared.told.Told.{Told}
use Rattle.world.specs.declared.counts.Meter.{Meter}
use Rattle.lab_io.specs.Report.{Writer}
use Rattle.network_replay.specs.declared.replay.Replay.{Replay}
use Rattle.network_replay.specs.Along.{IsAlong, IsMetered}
use Rattle.network_replay.proofs.Metered.{all_metered, unread_metered}
use Rattle.network_replay.proofs.Onward.{along_ends}
use Rattle.network_replay.proofs.Taking.{lines_are_read}
use Rattle.script_replay.specs.declared.script_run.ScriptRun.{ScriptRun}
use Rattle.script_replay.specs.Report.{IsMeteredFrom}
use Rattle.script_replay.specs.Reading.{HasNext, IsAtLine, IsSettled, ends_line}
use Rattle.script_replay.proofs.Advancing.{end_of_shape, none_left, read_with}
use Rattle.script_replay.proofs.InputScripts.{Read, read_at}

-- a source that told its octets tells those that are left
told_on : (from left : Option (List ℕ)) (read input : List ℕ) → Consumes from left read → from ≡ Some input → (others : List ℕ) × (left ≡ Some others) × (input ≡ read ++ others)
told_on from left read input h is = by left refl (subst (λ (o : Option (List ℕ)). Consumes o left read) is h)
  where
    by : (o : Option (List ℕ)) → left ≡ o → Consumes (Some input) o read → (others : List ℕ) × (left ≡ Some others) × (input ≡ read ++ others)
    by None e gone = absurd gone
    by (Some others) e gone = (others, e, gone)

module _ {C T S : Type 0} (seen : C → Controller) (known : T → S) (tale : Tale S) (choice : Topology → Policy) (first : Writer) (start : Option (List ℕ)) (before : Meter) (from : Option (List ℕ)) where
  -- *Behind whole lines*, whatever lines follow
  along_metered : (lines : List (List ℕ)) (r : Replay C) (told : Told T) (written : Option (List ℕ)) (meter : Meter) → IsAlong seen known tale choice line_says first start before lines r told written meter
      → (others : List (List ℕ)) → IsMetered choice before (script_from line_says nothing_read (lines ++ others)) meter
  along_metered lines r told written meter h [] =
      subst (λ (ls : List (List ℕ)). IsMetered choice before (script_from line_says nothing_read ls) meter) (sym (append-nil lines))
      (all_metered choice before meter (script_from line_says nothing_read lines) (along_ends tale choice seen known line_says lines_are_read first told start written before meter lines r h).meter_is)
  along_metered lines r told written meter h (line ∷ others) =
      unread_metered seen choice line_says lines_are_read lines line before r.state r.notes r.world h.placed h.taken h.network meter h.meter_is others

  -- of the input as it is
  pub line_metered : (run : ScriptRun C T) (left written : Option (List ℕ)) (meter : Meter) → IsAtLine seen known tale choice first start before from run left written meter → run.reader.given < input_limit → IsMeteredFrom choice from before meter
  line_metered run left written meter h low = λ input is.
      let more = told_on from left (h.given ++ run.reader.held) input h.read is in
      let rest : List ℕ = run.reader.held ++ more.0 in
      let short : length h.given < input_limit = omega (arith, h.size, low) in
      let reads : script_of input ≡ script_from line_says nothing_read (h.lines ++ lines_of (take (input_limit - length h.given) rest)) =
      ap script_of (more.2 ∙ append_assoc h.given run.reader.held more.0) ∙ ap (λ (r : Read). r.0) (read_at h.given h.lines short h.split rest) in
      subst (λ (s : Script). IsMetered choice before s meter) (sym reads) (along_metered h.lines run.replay run.told written meter h.along (lines_of (take (input_limit - length h.given) rest)))

  -- *In a line that ended early*
  pub taken_metered : (line : List ℕ) (run : ScriptRun C T) (left written : Option (List ℕ)) (meter after : Meter) (h : HasNext seen known tale choice first start before from line run left written meter)
      → ((others : List (List ℕ)) → IsMetered choice before (script_from line_says nothing_read (h.lines ++ line ∷ others)) after) → IsMeteredFrom choice from before after
  taken_metered line run left written meter after h each = λ input is.
      let more = told_on from left ((h.given ++ line) ++ run.reader.held) input h.read is in
      subst (λ (octets : List ℕ). IsMetered choice before (script_of octets) after) (sym more.2)
      (read_with seen known tale choice first start before from line run left written meter h (λ (r : Read). IsMetered choice before r.0 after) each (ends_line line) h.shape more.0
      (λ e. none_left left more.0 (end_of_shape seen known tale choice first start before from line run left written meter h (ends_line line) h.shape e) more.1))

  -- *Where the script was settled*
  pub settled_metered : (refused : Option Refused) (run : ScriptRun C T) (left written : Option (List ℕ)) (meter : Meter) → IsSettled seen tale choice first start before from refused run left written meter → IsMeteredFrom choice from before meter
  settled_metered refused run left written meter s = λ input is.
      let more = told_on from left s.input input s.is_read.read is in
      subst (λ (script : Script). IsMetered choice before script meter) (sym (ap script_of more.2 ∙ s.is_read.settled more.0 more.1))
      (all_metered choice before meter (script_of s.input) s.last.meter_is)
