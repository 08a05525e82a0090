-- The report of a script: the lines of its run's records, and the last line

use Rattle.std.specs.Prelude.{ℕ, List, [], ◌∷◌, ◌++◌, codes, decimal, Option, None, Some}
use Rattle.std.specs.List.{flat_map}
use Rattle.rule_model.specs.lab_text.Text.{line_of}
use Rattle.world_model.specs.link_model.declared.record.Record.{Record}
use Rattle.world_model.specs.port_model.Setup.{Policy}
use Rattle.world_model.specs.Topology.{Topology, policy_of}
use Rattle.world_model.specs.World.{Counts, counts_of, opened}
use Rattle.world_model.specs.Run.{run, world_after, records_of}
use Rattle.script_model.specs.declared.refusal.Refused.{Refused}
use Rattle.script_model.specs.declared.refusal.Refused.TheVariants.{Line, Rule, Document}
use Rattle.rule_model.specs.Names.{rule_refusal_name}
use Rattle.script_model.specs.Names.{refusal_name, document_refusal_name}
use Rattle.script_model.specs.Records.{record_line}
use Rattle.script_model.specs.Script.{Script, script_of}

abbrev pub record_lines : Topology → List Record → List ℕ
record_lines topology records = flat_map (record_line topology) records

-- *The last line* of a script that was read to its end
abbrev pub end_words : (event_lines : ℕ) → Counts → List (List ℕ)
end_words event_lines counts =
    codes "end" ∷ codes "events" ∷ decimal event_lines ∷ codes "sent" ∷ decimal counts.sent
    ∷ codes "delivered" ∷ decimal counts.delivered ∷ codes "dropped" ∷ decimal counts.dropped
    ∷ codes "refused" ∷ decimal counts.refused ∷ codes "losses" ∷ decimal counts.losses
    ∷ codes "redirects" ∷ decimal counts.redirects ∷ codes "switched" ∷ decimal counts.switched
    ∷ codes "chance" ∷ decimal counts.chance ∷ []

abbrev pub end_line : (event_lines : ℕ) → Counts → List ℕ
end_line event_lines counts = line_of (end_words event_lines counts)

-- or of one in which a line is refused, or which is refused as a whole
abbrev pub refused_words : Refused → List (List ℕ)
refused_words (Line number name) = codes "refused" ∷ decimal number ∷ refusal_name name ∷ []
refused_words (Rule number name) = codes "refused" ∷ decimal number ∷ rule_refusal_name name ∷ []
refused_words (Document name) = codes "refused" ∷ decimal 0 ∷ document_refusal_name name ∷ []

abbrev pub refused_line : Refused → List ℕ
refused_line refused = line_of (refused_words refused)

abbrev pub last_line_by : (whole : List ℕ) → Option Refused → List ℕ
last_line_by whole None = whole
last_line_by whole (Some refused) = refused_line refused

-- the counts of a run's last world
abbrev pub counts_after : Policy → Script → Counts
counts_after policy script =
    counts_of (world_after script.topology (opened policy script.topology) script.events)

abbrev pub last_line : Policy → Script → List ℕ
last_line policy script =
    last_line_by (end_line script.event_lines (counts_after policy script)) script.refused

-- *The lines of its run's records*, which a report begins with
abbrev pub body_under : Policy → Script → List ℕ
body_under policy script = record_lines script.topology (records_of (run policy script.topology script.events))

-- *The report* of a script under a policy
abbrev pub report_under : Policy → Script → List ℕ
report_under policy script = body_under policy script ++ last_line policy script

-- under the policy that the script names
abbrev pub report : Script → List ℕ
report script = report_under (policy_of script.topology) script

-- of the octets of a script, and of a document
unfoldable pub script_report : List ℕ → List ℕ
script_report octets = report (script_of octets)
