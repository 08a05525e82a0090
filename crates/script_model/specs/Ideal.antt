-- What hop-by-hop forwarding without labels makes of each packet of a script

use Rattle.std.specs.Prelude.{ℕ, suc, List, [], ◌∷◌, ◌++◌, length, codes, decimal, count_by, Bool, true, false, Option, None, Some}
use Rattle.net_types.specs.declared.node.NodeId.{NodeId}
use Rattle.world_model.specs.ipv4_forward.declared.table.Route.{Route}
use Rattle.rule_model.specs.lab_text.Text.{line_of}
use Rattle.world_model.specs.link_model.declared.record.Record.{Record}
use Rattle.world_model.specs.link_model.declared.record.Record.TheVariants.{Delivered, Dropped, Refused}
use Rattle.world_model.specs.link_model.declared.record.Refusal.{Refusal}
use Rattle.world_model.specs.Packets.{inject_refusal}
use Rattle.world_model.specs.network_model.declared.event.Event.{Event}
use Rattle.world_model.specs.network_model.declared.event.Event.TheVariants.{Inject}
use Rattle.world_model.specs.Topology.{Topology}
use Rattle.world_model.specs.Fates.{fate_record}
use Rattle.world_model.specs.Journey.{journey}
use Rattle.script_model.specs.State.{table_among, tables_after, opening_tables}
use Rattle.script_model.specs.Script.{Script, script_of}
use Rattle.script_model.specs.Reports.{record_lines, last_line_by}

-- a packet is refused, or has the fate of its journey over the tables
abbrev pub ideal_record : Topology → (tables : List (List Route)) → (number : ℕ) → NodeId → (packet : List ℕ) → Option Refusal → Record
ideal_record topology tables number node packet (Some name) = Refused node number name
ideal_record topology tables number node packet None =
    fate_record number (journey topology (table_among tables) node packet)

-- the records of the packets of these events, the first of which has this number; the tables are as the route lines
-- before an event set them, each at once
abbrev pub ideal_from : Topology → (tables : List (List Route)) → (number : ℕ) → List Event → List Record
ideal_from topology tables number [] = []
ideal_from topology tables number (Inject node packet ∷ events) =
    ideal_record topology tables number node packet (inject_refusal packet)
    ∷ ideal_from topology tables (suc number) events
ideal_from topology tables number (event ∷ events) = ideal_from topology (tables_after tables event) number events

abbrev pub ideal_records : Script → List Record
ideal_records script = ideal_from script.topology (opening_tables script.topology) 1 script.events

-- *The last line*
abbrev pub is_delivered : Record → Bool
is_delivered (Delivered node packet octets) = true
is_delivered item = false

abbrev pub is_dropped : Record → Bool
is_dropped (Dropped node packet cause) = true
is_dropped item = false

abbrev pub is_refused : Record → Bool
is_refused (Refused node packet name) = true
is_refused item = false

abbrev pub ideal_end_words : List Record → List (List ℕ)
ideal_end_words records =
    codes "end" ∷ codes "sent" ∷ decimal (length records) ∷ codes "delivered" ∷ decimal (count_by is_delivered records)
    ∷ codes "dropped" ∷ decimal (count_by is_dropped records)
    ∷ codes "refused" ∷ decimal (count_by is_refused records) ∷ []

abbrev pub ideal : Script → List ℕ
ideal script =
    let records = ideal_records script in
    record_lines script.topology records ++ last_line_by (line_of (ideal_end_words records)) script.refused

unfoldable pub ideal_report : List ℕ → List ℕ
ideal_report octets = ideal (script_of octets)
