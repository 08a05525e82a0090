-- what an event and a line tell, and what is left to be told then

use Rattle.std.proofs.Common.{◌≡◌, ◌∙◌, ℕ, suc, ◌+◌, Bool, cond, true, List, [], ◌∷◌, ◌++◌, length, count_by, codes, decimal, append_assoc, append-nil, Option, refl, sym, ap, ap₂, arith}
use Rattle.std.specs.List.{list_all, repeat}
use Rattle.world_model.proofs.Lists.{count_cons}
use Rattle.world_model.specs.Run.{tick_of_all, round}
use Rattle.net_types.specs.declared.node.NodeId.{NodeId}
use Rattle.ipv4_forward.specs.declared.table.Route.{Route}
use Rattle.link_model.specs.declared.record.Record.{Record}
use Rattle.link_model.specs.declared.record.Record.TheVariants.{Delivered, Dropped, Refused}
use Rattle.world_model.specs.network_model.declared.event.Event.{Event}
use Rattle.world_model.specs.network_model.declared.event.Event.TheVariants.{Inject, Carry, Lose, Tick, TickSwitch, Restart, RestartSwitch, Forge, Route as RouteComes}
use Rattle.world_model.specs.Topology.{Topology}
use Rattle.script_model.specs.declared.line.Line.{Line}
use Rattle.script_model.specs.declared.line.Line.TheVariants.{Blank, Topology as TopologyIs, Event as EventComes, TickAll, Run}
use Rattle.script_model.specs.declared.refusal.Refused.{Refused as WhatIsRefused}
use Rattle.script_model.specs.Ideal.{ideal_from, is_delivered, is_dropped, is_refused}
use Rattle.script_model.specs.Records.{record_line}
use Rattle.script_model.specs.Reports.{record_lines, last_line_by}
use Rattle.script_model.specs.Script.{Script, events_of, preceded_by, opened_of}
use Rattle.ideal_fates.specs.Told.{Told, tables_under, opened_for, counted, sent_record, after_event, records_at, after_line, records_of, end_of, end_with, told_of, rest_in, rest_of}
use Rattle.ideal_fates.proofs.Quiet.{is_quiet, quiet_front, ticks_quiet, rounds_quiet}

-- *Counts*
pub counted_sent : (told : Told) (item : Record) → (counted told item).sent ≡ told.sent + 1
counted_sent told (Delivered node packet octets) = refl
counted_sent told (Dropped node packet cause) = refl
counted_sent told (Refused node packet name) = refl
counted_sent told item = refl

pub counted_tables : (told : Told) (item : Record) → (counted told item).tables ≡ told.tables
counted_tables told (Delivered node packet octets) = refl
counted_tables told (Dropped node packet cause) = refl
counted_tables told (Refused node packet name) = refl
counted_tables told item = refl

one_more : (a b : ℕ) → a + suc b ≡ (a + 1) + b
one_more a b = omega arith

-- a record counts where it is told
counts_more : (test : Record → Bool) (item : Record) (more : List Record) (n : ℕ) → test item ≡ true
    → n + count_by test (item ∷ more) ≡ (n + 1) + count_by test more
counts_more test item more n is =
    let first : cond {A = ℕ} (test item) 1 0 ≡ 1 = ap {B = ℕ} (λ (b : Bool). cond b 1 0) is in
    omega (arith, count_cons test item more, first)

end_counted : (told : Told) (item : Record) (more : List Record) → end_with told (item ∷ more) ≡ end_with (counted told item) more
end_counted told (Delivered node packet octets) more =
    let item = Delivered node packet octets in
    (λ i. end_of (one_more told.sent (length more) i) (counts_more is_delivered item more told.delivered refl i)
    (told.dropped + count_by is_dropped more) (told.refused + count_by is_refused more))
end_counted told (Dropped node packet cause) more =
    let item = Dropped node packet cause in
    (λ i. end_of (one_more told.sent (length more) i) (told.delivered + count_by is_delivered more)
    (counts_more is_dropped item more told.dropped refl i) (told.refused + count_by is_refused more))
end_counted told (Refused node packet name) more =
    let item = Refused node packet name in
    (λ i. end_of (one_more told.sent (length more) i) (told.delivered + count_by is_delivered more)
    (told.dropped + count_by is_dropped more) (counts_more is_refused item more told.refused refl i))
end_counted told item more =
    (λ i. end_of (one_more told.sent (length more) i) (told.delivered + count_by is_delivered more)
    (told.dropped + count_by is_dropped more) (told.refused + count_by is_refused more))

-- *A record* is told first
first_told : (told opened : Told) (topology : Topology) (refused : Option WhatIsRefused) (item : Record) (more : List Record)
    → end_with told (item ∷ more) ≡ end_with opened (item ∷ more)
    → told_of told topology refused (item ∷ more)
    ≡ record_lines topology (item ∷ []) ++ told_of (counted opened item) topology refused more
first_told told opened topology refused item more same =
    let line = record_line topology item in
    let lines = record_lines topology more in
    append_assoc line lines (last_line_by (end_with told (item ∷ more)) refused)
    ∙ ap₂ (λ x y. x ++ (lines ++ last_line_by y refused)) (sym (append-nil line)) (same ∙ end_counted opened item more)

-- *An event*
number_after : (told : Told) (item : Record) → suc (told.sent + 1) ≡ (counted told item).sent + 1
number_after told item = omega (arith, counted_sent told item)

sent_told : (topology : Topology) (told : Told) (refused : Option WhatIsRefused) (node : NodeId) (packet : List ℕ) (events : List Event)
    → rest_in told topology refused (Inject node packet ∷ events)
    ≡ record_lines topology (records_at topology told (Inject node packet)) ++ rest_in (after_event topology told (Inject node packet)) topology refused events
sent_told topology told refused node packet events =
    let opened = opened_for topology told in
    let item = sent_record topology told node packet in
    let tables = tables_under topology told.tables in
    let more = ideal_from topology tables (suc (told.sent + 1)) events in
    let same : more ≡ ideal_from topology (tables_under topology (counted opened item).tables) ((counted opened item).sent + 1) events =
    ap₂ (λ (ts : Option (List (List Route))) n. ideal_from topology (tables_under topology ts) n events) (sym (counted_tables opened item)) (number_after opened item) in
    first_told told opened topology refused item more refl
    ∙ ap (λ rs. record_lines topology (item ∷ []) ++ told_of (counted opened item) topology refused rs) same

pub event_told : (topology : Topology) (told : Told) (refused : Option WhatIsRefused) (event : Event) (events : List Event)
    → rest_in told topology refused (event ∷ events)
    ≡ record_lines topology (records_at topology told event) ++ rest_in (after_event topology told event) topology refused events
event_told topology told refused (Inject node packet) events = sent_told topology told refused node packet events
event_told topology told refused (RouteComes node change) events = refl
event_told topology told refused (Carry place) events = refl
event_told topology told refused (Lose place) events = refl
event_told topology told refused (Tick node) events = refl
event_told topology told refused (TickSwitch node) events = refl
event_told topology told refused (Restart node) events = refl
event_told topology told refused (RestartSwitch node) events = refl
event_told topology told refused (Forge place channel payload) events = refl

-- *A line*
abbrev pub IsEvent : Line → Type 0
IsEvent (EventComes event) = Unit {0}
IsEvent line = ⊥

quiet_told : (told : Told) (quiet : List Event) (after : Script) → list_all is_quiet quiet ≡ true → rest_of told (preceded_by quiet after) ≡ rest_of told after
quiet_told told quiet after e =
    ap (told_of told after.topology after.refused)
    (quiet_front after.topology (tables_under after.topology told.tables) (told.sent + 1) quiet after.events e)

-- what a line tells, where the topology behind an event is the one before it
pub line_told : (topology now : Topology) (told : Told) (line : Line) (after : Script) → (IsEvent line → after.topology ≡ now)
    → rest_of told (preceded_by (events_of topology line) after) ≡ record_lines now (records_of now told line) ++ rest_of (after_line now told line) after
line_told topology now told Blank after stays = refl
line_told topology now told (TopologyIs line) after stays = refl
line_told topology now told (EventComes event) after stays =
    event_told after.topology told after.refused event after.events
    ∙ ap (λ (t : Topology). record_lines t (records_at t told event) ++ rest_of (after_event t told event) after) (stays tt)
line_told topology now told TickAll after stays = quiet_told told (tick_of_all (opened_of topology)) after (ticks_quiet (opened_of topology))
line_told topology now told (Run rounds) after stays = quiet_told told (repeat rounds (round (opened_of topology))) after (rounds_quiet rounds (opened_of topology))

-- *The last line*, as it is written
regroup : (o a b c d e : List ℕ) → ((((o ++ a) ++ b) ++ c) ++ d) ++ e ≡ o ++ (a ++ (b ++ (c ++ (d ++ e))))
regroup o a b c d e = simp append_assoc

pub end_written : (o o1 o2 o3 o4 o5 : List ℕ) (a b c d : ℕ) → o1 ≡ o ++ (codes "end sent " ++ decimal a)
    → o2 ≡ o1 ++ (codes " delivered " ++ decimal b) → o3 ≡ o2 ++ (codes " dropped " ++ decimal c)
    → o4 ≡ o3 ++ (codes " refused " ++ decimal d) → o5 ≡ o4 ++ codes "\n" → o5 ≡ o ++ end_of a b c d
end_written o o1 o2 o3 o4 o5 a b c d e1 e2 e3 e4 e5 =
    let A = codes "end sent " ++ decimal a in
    let B = codes " delivered " ++ decimal b in
    let C = codes " dropped " ++ decimal c in
    let D = codes " refused " ++ decimal d in
    e5
    ∙ (ap (λ x. x ++ codes "\n") (e4 ∙ ap (λ x. x ++ D) (e3 ∙ ap (λ x. x ++ C) (e2 ∙ ap (λ x. x ++ B) e1)))
    ∙ regroup o A B C D (codes "\n"))
