-- what an auditor holds, as what is known of the trace

use Rattle.std.specs.Prelude.{◌≡◌, ◌≤◌, ℕ, length, Result, Err, if◌then◌else◌}
use Rattle.std.specs.Option.{ok_or}
use Rattle.trace_model.specs.declared.refusal.TraceRefusal.{TraceRefusal}
use Rattle.trace_model.specs.declared.refusal.TraceRefusal.TheVariants.{Late, NoLink}
use Rattle.indexmap.specs.IndexMap.{get}
use Rattle.link_model.specs.Ledger.{same_mark}
use Rattle.trace_model.specs.Ends.{same_end}
use Rattle.trace_model.specs.declared.end.TraceEnd.{TraceEnd}
use Rattle.trace_model.specs.Trace.{gone_from, puts_at}
use Rattle.trace_model.specs.Known.{Known, known}
use Rattle.trace_model.specs.Audit.{ReadSoFar}
use Rattle.trace_audit.specs.declared.auditor.Auditor.{Auditor}
use Rattle.trace_audit.specs.Flows.{bound_in}
use Rattle.trace_audit.specs.Queues.{queue_in}

abbrev pub known_by : Auditor → Known
known_by auditor = record {
  peer = get same_end auditor.peers;
  queue = queue_in auditor.queues;
  flow = bound_in auditor.flows;
  payload = get same_mark auditor.payloads;
  first = get same_mark auditor.firsts;
  taken = auditor.taken;
  begun = auditor.begun;
  ended = auditor.ended;
  links = auditor.tally.counts.links;
  puts = auditor.tally.counts.puts;
  binds = auditor.tally.counts.binds;
}

-- the octets of the lines that it took
abbrev pub octets_of : Auditor → ℕ
octets_of auditor = auditor.tally.octets

-- *It took these lines*: it knows what they tell, and no queue lost more cells than were put to it
pub record Follows (past : ReadSoFar) (auditor : Auditor) : Type 0 where
  pub known_is : known_by auditor ≡ known past.trace
  pub octets_are : octets_of auditor ≡ past.octets
  pub served : (at : TraceEnd) → gone_from past.trace at ≤ length (puts_at past.trace at)

-- a port that a line names which isn't `link`: the other end of its link, or why the line is refused
abbrev pub in_time : Known → TraceEnd → Result TraceEnd TraceRefusal
in_time known end = if known.ended then Err Late else ok_or (known.peer end) NoLink
