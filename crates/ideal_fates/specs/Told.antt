-- The fates told so far, what an event or a line makes of them, and what is still to be told; no claim rests on these
-- words

use Rattle.std.specs.Prelude.{◌≡◌, ℕ, ◌+◌, ◌<◌, ◌≤◌, true, List, [], ◌∷◌, ◌++◌, length, codes, decimal, count_by, unwrap_or, Option, None, Some}
use Rattle.net_types.specs.declared.node.NodeId.{NodeId}
use Rattle.ipv4_forward.specs.declared.table.Route.{Route}
use Rattle.ipv4_forward.specs.Change.{change_fault}
use Rattle.lab_text.specs.Text.{line_of}
use Rattle.link_model.specs.declared.record.Record.{Record}
use Rattle.link_model.specs.declared.record.Record.TheVariants.{Delivered, Dropped, Refused}
use Rattle.world_model.specs.Packets.{inject_refusal}
use Rattle.world_model.specs.network_model.declared.event.Event.{Event}
use Rattle.world_model.specs.network_model.declared.event.Event.TheVariants.{Inject, Route as RouteComes}
use Rattle.world_model.specs.Conditions.{IsNode, IsTopology}
use Rattle.world_model.specs.Topology.{Topology}
use Rattle.script_model.specs.declared.line.Line.{Line}
use Rattle.script_model.specs.declared.line.Line.TheVariants.{Event as EventComes}
use Rattle.script_model.specs.declared.refusal.Refused.{Refused as WhatIsRefused}
use Rattle.script_model.specs.Ideal.{ideal_record, ideal_from, is_delivered, is_dropped, is_refused}
use Rattle.script_model.specs.Limits.{greatest_event_lines}
use Rattle.script_model.specs.Reports.{record_lines, last_line_by}
use Rattle.script_model.specs.Script.{Script}
use Rattle.script_model.specs.State.{ScriptState, table_among, tables_after, opening_tables}

-- the routes of the nodes as the route lines so far set them, none until they are needed; how many packets were sent,
-- and how many had each fate
pub record Told : Type 0 where
  pub tables : Option (List (List Route))
  pub sent : ℕ
  pub delivered : ℕ
  pub dropped : ℕ
  pub refused : ℕ

abbrev pub nothing_told : Told
nothing_told = record { tables = None; sent = 0; delivered = 0; dropped = 0; refused = 0 }

-- so long the routes are those of the topology
abbrev pub tables_under : Topology → Option (List (List Route)) → List (List Route)
tables_under topology tables = unwrap_or tables (opening_tables topology)

abbrev pub opened_for : Topology → Told → Told
opened_for topology told = record told { tables = Some (tables_under topology told.tables) }

-- *Counts*
abbrev pub counted : Told → Record → Told
counted told (Delivered node packet octets) = record told { sent = told.sent + 1; delivered = told.delivered + 1 }
counted told (Dropped node packet cause) = record told { sent = told.sent + 1; dropped = told.dropped + 1 }
counted told (Refused node packet name) = record told { sent = told.sent + 1; refused = told.refused + 1 }
counted told item = record told { sent = told.sent + 1 }

-- *An event*
abbrev pub sent_record : Topology → Told → NodeId → (packet : List ℕ) → Record
sent_record topology told node packet =
    ideal_record topology (tables_under topology told.tables) (told.sent + 1) node packet (inject_refusal packet)

abbrev pub after_event : Topology → Told → Event → Told
after_event topology told (Inject node packet) =
    counted (opened_for topology told) (sent_record topology told node packet)
after_event topology told (RouteComes node change) =
    record told { tables = Some (tables_after (tables_under topology told.tables) (RouteComes node change)) }
after_event topology told event = told

abbrev pub records_at : Topology → Told → Event → List Record
records_at topology told (Inject node packet) = sent_record topology told node packet ∷ []
records_at topology told event = []

-- *A line*
abbrev pub after_line : Topology → Told → Line → Told
after_line topology told (EventComes event) = after_event topology told event
after_line topology told line = told

abbrev pub records_of : Topology → Told → Line → List Record
records_of topology told (EventComes event) = records_at topology told event
records_of topology told line = []

-- *The last line*, where the packets of these records are still to come
abbrev pub end_of : (sent delivered dropped refused : ℕ) → List ℕ
end_of sent delivered dropped refused =
    line_of
    (codes "end" ∷ codes "sent" ∷ decimal sent ∷ codes "delivered" ∷ decimal delivered ∷ codes "dropped"
    ∷ decimal dropped ∷ codes "refused" ∷ decimal refused ∷ [])

abbrev pub end_with : Told → List Record → List ℕ
end_with told records =
    end_of (told.sent + length records) (told.delivered + count_by is_delivered records)
    (told.dropped + count_by is_dropped records) (told.refused + count_by is_refused records)

abbrev pub last_told : Told → Option WhatIsRefused → List ℕ
last_told told refused = last_line_by (end_of told.sent told.delivered told.dropped told.refused) refused

-- *What is still to be told* of a script, which these events are left of
abbrev pub told_of : Told → Topology → Option WhatIsRefused → List Record → List ℕ
told_of told topology refused records =
    record_lines topology records ++ last_line_by (end_with told records) refused

abbrev pub rest_in : Told → Topology → Option WhatIsRefused → List Event → List ℕ
rest_in told topology refused events =
    told_of told topology refused (ideal_from topology (tables_under topology told.tables) (told.sent + 1) events)

abbrev pub rest_of : Told → Script → List ℕ
rest_of told script = rest_in told script.topology script.refused script.events

-- *What an event has to be* so that it can be told behind these
abbrev pub FitsEvent : Topology → Told → Event → Type 0
FitsEvent topology told (Inject node packet) = IsNode topology node × (told.sent < greatest_event_lines)
FitsEvent topology told (RouteComes node change) =
    IsNode topology node × (change_fault (table_among (tables_under topology told.tables) node) change ≡ None)
FitsEvent topology told event = Unit {0}

abbrev pub FitsLine : Topology → Told → Line → Type 0
FitsLine topology told (EventComes event) = FitsEvent topology told event
FitsLine topology told line = Unit {0}

-- there is a table for each node
abbrev pub HasTables : Topology → Told → Type 0
HasTables topology told = length (tables_under topology told.tables) ≡ length topology.nodes

-- the tables and the counts are those of the lines so far, which make a topology
pub record Follows (state : ScriptState) (told : Told) : Type 0 where
  pub made : IsTopology state.topology
  pub same : tables_under state.topology told.tables ≡ state.tables
  pub each : length state.tables ≡ length state.topology.nodes
  pub early : state.event_lines ≡ 0 → told.tables ≡ None
  pub begun : 0 < state.event_lines → state.has_line ≡ true
  pub few : told.sent ≤ state.event_lines
