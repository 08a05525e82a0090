-- What a replay has come to behind some lines of its script

use Rattle.std.specs.Prelude.{◌≡◌, ℕ, ◌+◌, ◌*◌, ◌<◌, ◌≤◌, ◌==◌, true, List, [], ◌∷◌, ◌++◌, length, map, Option, None, Some, Result, Ok, Err, OnErr, OnOk, if◌then◌else◌}
use Rattle.std.specs.List.{sum_by}
use Rattle.link_model.specs.Notes.{Journal}
use Rattle.lab_io.specs.Report.{IsPut, Writer}
use Rattle.port_model.specs.Setup.{Policy}
use Rattle.script_model.specs.world_model.Controller.{Controller}
use Rattle.script_model.specs.world_model.network_model.declared.event.Event.{Event}
use Rattle.script_model.specs.world_model.Conditions.{table_to_be}
use Rattle.script_model.specs.world_model.Run.{put_away, world_after}
use Rattle.script_model.specs.world_model.Topology.{Topology}
use Rattle.script_model.specs.world_model.World.{Site, World, opened}
use Rattle.script_model.specs.declared.line.Line.{Line}
use Rattle.script_model.specs.declared.refusal.LineRefusal.{LineRefusal}
use Rattle.script_model.specs.declared.refusal.Refused.{Refused}
use Rattle.script_model.specs.Sayable.{IsSayable}
use Rattle.script_model.specs.Script.{Script, events_of, preceded_by, number_of, script_from}
use Rattle.script_model.specs.Reading.{state_after}
use Rattle.script_model.specs.State.{ScriptState, nothing_read, opening_tables}
use Rattle.script_text.specs.declared.fault.ReadFault.{ReadFault}
use Rattle.script_text.specs.declared.fault.ReadFault.TheVariants as read
use Rattle.network_run.specs.telling_model.Placed.{Placed, events_in, placed_events, placed_from}
use Rattle.network_run.specs.telling_model.Tale.{Tale, body, told_at_last, told_of}
use Rattle.world.specs.declared.counts.Meter.{Meter}
use Rattle.world.specs.declared.world.World.{World as Network}
use Rattle.world.specs.Network.{no_notes, sites_of, world_of}
use Rattle.world.specs.Running.{Runs}
use Rattle.lab_io.specs.declared.stop.Stop.{Stop}
use Rattle.network_run.specs.declared.told.Told.{Told}
use Rattle.lab_io.specs.Puts.{Puts, StopsIn}
use Rattle.network_run.specs.Telling.{IsMeterIn, meter_behind}
use Rattle.network_replay.specs.declared.replay.Replay.{Replay}

-- *Lines were taken*, none of them refused: whatever lines follow, the script begins with these events, and goes on
-- from this state
pub record AreTaken (says : ScriptState → List ℕ → Result Line LineRefusal) (lines : List (List ℕ)) (state : ScriptState) (placed : List Placed) : Type 0 where
  pub onward : (others : List (List ℕ)) → script_from says nothing_read (lines ++ others) ≡ preceded_by (events_in placed) (script_from says state others)
  pub placed_onward : (others : List (List ℕ)) → placed_from says nothing_read (lines ++ others) ≡ placed ++ placed_from says state others
  pub octets : state.octets ≡ sum_by length lines
  pub count : state.lines ≡ length lines

-- *The network* is what the events have made of it; it is opened for the first line of events. The tables that its
-- nodes will hold are the script's, and there were no more events than its lines can have said
abbrev pub world_behind : (Topology → Policy) → Topology → List Event → World
world_behind choice topology events = world_after topology (opened (choice topology) topology) events

pub record IsOpen {C : Type 0} (seen : C → Controller) (policy : Policy) (state : ScriptState) (notes : Journal) (n : Network C) (events : List Event) : Type 0 where
  pub runs : Runs seen state.topology n
  pub world : world_of seen n notes ≡ put_away (world_after state.topology (opened policy state.topology) events)
  pub tables : map (λ (site : Site). table_to_be site.controller) (sites_of seen n.sites.items) ≡ state.tables
  pub few : n.events ≤ state.event_lines + (640 * state.rounds + state.ticks)

pub record HasBegun (state : ScriptState) : Type 0 where
  pub event_lines : 0 < state.event_lines
  pub has_line : state.has_line ≡ true

pub record IsUnopened (state : ScriptState) (notes : Journal) (events : List Event) : Type 0 where
  pub events_are : events ≡ []
  pub event_lines : state.event_lines ≡ 0
  pub tables : state.tables ≡ opening_tables state.topology
  pub notes_are : notes ≡ no_notes

abbrev pub HasNetwork : {C : Type 0} → (C → Controller) → (Topology → Policy) → ScriptState → Journal → Option (Network C) → List Event → Type 0
HasNetwork seen choice state notes None events = IsUnopened state notes events
HasNetwork seen choice state notes (Some n) events = HasBegun state × IsOpen seen (choice state.topology) state notes n events

-- there are such events
pub record IsGoing {C : Type 0} (seen : C → Controller) (choice : Topology → Policy) (r : Replay C) : Type 0 where
  pub events : List Event
  pub network : HasNetwork seen choice r.state r.notes r.world events

-- *What was told behind some lines*: nothing where none of them was of events
abbrev pub told_by : {S : Type 0} → Tale S → (Topology → Policy) → ScriptState → List Placed → List ℕ
told_by tale choice state placed =
    if state.event_lines == 0 then [] else (told_of tale (choice state.topology) state.topology placed).octets

-- and what its teller knows
abbrev pub Knows : {S : Type 0} → Tale S → (Topology → Policy) → ScriptState → List Placed → S → Type 0
Knows tale choice state placed known =
    0 < state.event_lines → known ≡ (told_of tale (choice state.topology) state.topology placed).state

-- *Behind these lines*: what was put is what is told of their events, and the meter is at the last of them. The writer
-- and the meter were these at the start, and the sink had taken these octets
pub record IsAlong {C T S : Type 0} (seen : C → Controller) (known : T → S) (tale : Tale S) (choice : Topology → Policy) (says : ScriptState → List ℕ → Result Line LineRefusal) (first : Writer) (start : Option (List ℕ)) (before : Meter)
    (lines : List (List ℕ)) (r : Replay C) (told : Told T) (written : Option (List ℕ)) (meter : Meter) : Type 0 where
  pub placed : List Placed
  pub taken : AreTaken says lines r.state placed
  pub network : HasNetwork seen choice r.state r.notes r.world (events_in placed)
  pub put : IsPut first told.writer start written (told_by tale choice r.state placed)
  pub knows : Knows tale choice r.state placed (known told.teller)
  pub meter_is : meter ≡ meter_behind before r.state.topology (opened (choice r.state.topology) r.state.topology) (events_in placed)

pub record IsBegun {C : Type 0} (r : Replay C) : Type 0 where
  pub state : r.state ≡ nothing_read
  pub notes : r.notes ≡ no_notes
  pub world : r.world ≡ None

-- *A line is read*: what is said of it is what the definition says, and it can be said
pub record IsReading (says : ScriptState → List ℕ → Result Line LineRefusal) : Type 0 where
  pub sayable : (state : ScriptState) (line : List ℕ) (said : Line) → says state line ≡ Ok said → IsSayable state said

abbrev pub IsRead : (ScriptState → List ℕ → Result Line LineRefusal) → (state : ScriptState) → (line : List ℕ) → Result Line ReadFault → (now : ScriptState) → Type 0
IsRead says state line (Ok said) now = (says state line ≡ Ok said) × (now ≡ state_after state line (Ok said))
IsRead says state line (Err (read.Refused name)) now = (says state line ≡ Err name) × (now ≡ state_after state line (Err name)) × (now.lines ≡ number_of state)
IsRead says state line (Err (read.OutOfMemory error)) now = Unit {0}

-- the events of a line that was read can be stepped
pub record IsReady {C : Type 0} (seen : C → Controller) (choice : Topology → Policy) (r : Replay C) (said : Line) : Type 0 where
  pub state : ScriptState
  pub line : List ℕ
  pub events : List Event
  pub network : HasNetwork seen choice state r.notes r.world events
  pub after : r.state ≡ state_after state line (Ok said)
  pub sayable : IsSayable state said

-- or nothing is said, and there is a network for what ends the script
abbrev pub CanTake : {C : Type 0} → (C → Controller) → (Topology → Policy) → Replay C → Result Line ReadFault → Type 0
CanTake seen choice r (Ok said) = IsReady seen choice r said
CanTake seen choice r (Err (read.Refused name)) = IsGoing seen choice r
CanTake seen choice r (Err (read.OutOfMemory error)) = Unit {0}

-- *What is told as the network is opened*, where it was not open yet
abbrev pub opening_told : {C S : Type 0} → Tale S → (Topology → Policy) → Topology → Option (Network C) → List ℕ
opening_told tale choice topology None = (tale.opens topology (opened (choice topology) topology)).octets
opening_told tale choice topology (Some n) = []

abbrev pub opening_known : {C S : Type 0} → Tale S → (Topology → Policy) → Topology → Option (Network C) → S → S
opening_known tale choice topology None known = (tale.opens topology (opened (choice topology) topology)).state
opening_known tale choice topology (Some n) known = known

-- *The events of a line were stepped*: what was put wrote goes on from what was told before
pub record HasStepped {C T S : Type 0} (seen : C → Controller) (known : T → S) (tale : Tale S) (choice : Topology → Policy) (state : ScriptState) (said : Line) (placed : List Placed) (result : Result (Unit {0}) Stop)
    (old new : Replay C) (told later : Told T) (written wrote : Option (List ℕ)) (meter after : Meter) : Type 0 where
  pub network : OnOk result (HasNetwork seen choice old.state new.notes new.world (events_in placed ++ events_of state.topology said))
  pub octets : List ℕ
  pub onward : told_by tale choice state placed ++ octets ≡ told_by tale choice old.state (placed ++ placed_events (number_of state) (events_of state.topology said))
  pub put : Puts result told.writer later.writer written wrote octets
  pub knows : OnOk result (Knows tale choice old.state (placed ++ placed_events (number_of state) (events_of state.topology said)) (known later.teller))
  pub meter_is : OnOk result (after ≡ meter_behind meter old.state.topology (world_behind choice old.state.topology (events_in placed)) (events_of state.topology said))
  pub kept : OnErr result (IsMeterIn meter old.state.topology (world_behind choice old.state.topology (events_in placed)) (events_of state.topology said) after)

-- *A script has run*, up to its end or to what is refused in it; its end is still to be told. These are its events
pub record IsWhole {C : Type 0} (seen : C → Controller) (choice : Topology → Policy) (script : Script) (placed : List Placed) (refused : Option Refused) (r : Replay C) : Type 0 where
  pub topology : script.topology ≡ r.state.topology
  pub event_lines : script.event_lines ≡ r.state.event_lines
  pub refusal : script.refused ≡ refused
  pub events : script.events ≡ events_in placed
  pub network : HasNetwork seen choice r.state r.notes r.world script.events

pub record IsAtLast {C S : Type 0} (seen : C → Controller) (tale : Tale S) (choice : Topology → Policy) (first : Writer) (start : Option (List ℕ)) (before : Meter)
    (script : Script) (placed : List Placed) (refused : Option Refused) (r : Replay C) (writer : Writer) (written : Option (List ℕ)) (meter : Meter) : Type 0 where
  pub whole : IsWhole seen choice script placed refused r
  pub put : IsPut first writer start written (body tale (choice script.topology) script placed)
  pub meter_is : meter ≡ meter_behind before script.topology (opened (choice script.topology) script.topology) script.events

-- *What is told at the end*: of the opening, where there was no line of events, and of the last world
abbrev pub last_told : {S : Type 0} → Tale S → Policy → Script → List Placed → List ℕ
last_told tale policy script placed =
    (if script.event_lines == 0 then (told_of tale policy script.topology placed).octets else []) ++ told_at_last tale policy script

-- the line ends the script, whatever lines follow
pub record EndsScript {C S : Type 0} (seen : C → Controller) (tale : Tale S) (choice : Topology → Policy) (says : ScriptState → List ℕ → Result Line LineRefusal) (first : Writer) (start : Option (List ℕ)) (before : Meter)
    (lines : List (List ℕ)) (line : List ℕ) (refused : Refused) (r : Replay C) (writer : Writer) (written : Option (List ℕ)) (meter : Meter) : Type 0 where
  pub script : Script
  pub placed : List Placed
  pub same : (others : List (List ℕ)) → script_from says nothing_read (lines ++ line ∷ others) ≡ script
  pub same_placed : (others : List (List ℕ)) → placed_from says nothing_read (lines ++ line ∷ others) ≡ placed
  pub last : IsAtLast seen tale choice first start before script placed (Some refused) r writer written meter

-- *What became of a line*, whatever lines follow: it was taken; or it is the one that ends the script; or an early end
-- left a front of what is told of the events
abbrev pub GoesOn : {C T S : Type 0} → (C → Controller) → (T → S) → Tale S → (Topology → Policy) → (ScriptState → List ℕ → Result Line LineRefusal) → Writer → Option (List ℕ) → Meter → (lines : List (List ℕ)) → (line : List ℕ)
    → Result (Option Refused) Stop → Replay C → Told T → Option (List ℕ) → Meter → Type 0
GoesOn seen known tale choice says first start before lines line (Ok None) r told written meter =
    IsAlong seen known tale choice says first start before (lines ++ line ∷ []) r told written meter
GoesOn seen known tale choice says first start before lines line (Ok (Some refused)) r told written meter =
    EndsScript seen tale choice says first start before lines line refused r told.writer written meter
GoesOn seen known tale choice says first start before lines line (Err stop) r told written meter =
    (others : List (List ℕ)) → let script = script_from says nothing_read (lines ++ line ∷ others) in
    StopsIn stop first told.writer start written (body tale (choice script.topology) script (placed_from says nothing_read (lines ++ line ∷ others)))

-- *The meter* is at one of a script's events, or as it was before the first
abbrev pub IsMetered : (choice : Topology → Policy) → (before : Meter) → Script → Meter → Type 0
IsMetered choice before script meter = IsMeterIn before script.topology (opened (choice script.topology) script.topology) script.events meter

-- so it is where a line ended early, whatever lines follow
abbrev pub IsKept : (choice : Topology → Policy) → (says : ScriptState → List ℕ → Result Line LineRefusal) → (before : Meter) → (lines : List (List ℕ)) → (line : List ℕ) → Result (Option Refused) Stop → Meter → Type 0
IsKept choice says before lines line result meter =
    OnErr result ((others : List (List ℕ)) → IsMetered choice before (script_from says nothing_read (lines ++ line ∷ others)) meter)
