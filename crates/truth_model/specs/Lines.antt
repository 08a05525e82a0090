-- What the line of a record claims of the run that it is of, and which octets are true lines of the report of a script

use Rattle.std.specs.Prelude.{◌≡◌, ℕ, ◌≤◌, List, [], ◌∷◌, ◌++◌, length, slice_get, Some, All, Contains, codes}
use Rattle.claims_model.specs.world_model.Words.{Mark, Entry, Broken, Record, Delivered, Dropped, Loss, Bad, Bind, Policy, HasCause, Fate, IsDelivered, IsDropped, Topology, World, next, world_after, Past, past_of, IsTrueFate, fates_of, IsWay, IsUnused, IsTame}
use Rattle.claims_model.specs.world_model.network_model.declared.event.Event.{Event}
use Rattle.claims_model.specs.world_model.network_model.declared.link.LinkEnd.{LinkEnd}
use Rattle.claims_model.specs.world_model.World.{opened}
use Rattle.telling_model.specs.lab_text.Lines.{lines_of}
use Rattle.telling_model.specs.script_model.Records.{record_line}
use Rattle.telling_model.specs.script_model.Reports.{last_line}
use Rattle.telling_model.specs.script_model.Script.{Script}

-- *The end of a packet*: it is of an accepted packet, one that routing hop by hop, by the tables that the nodes held, can
-- have made by this event, and the packet's only end so far
pub record IsTrueEnd (past : Past) (time number : ℕ) (fate : Fate) : Type 0 where
  pub can_be : IsTrueFate past time number fate
  pub once : fates_of past number ≤ 1

-- *A label that is bound* at the port that hands it out: nobody may use it before, whichever link the port has
abbrev pub MayUseNone : World → Topology → (down : LinkEnd) → (label : ℕ) → Type 0
MayUseNone w topology down label =
    (up : LinkEnd) → IsWay topology (record { down = down; up = up })
    → IsUnused w (record { down = down; up = up }) label

-- *A frame that is reported as broken*: each entry that the event makes of it, as broken, in the ledger of losses stands
-- beside its cause
abbrev pub AreBrokenWithCause : Policy → Topology → (before : List Event) → Event → Mark → Type 0
AreBrokenWithCause policy topology before event mark = (place : ℕ) (entry : Entry)
    → length (world_after topology (opened policy topology) before).notes.entries ≤ place
    → slice_get (next topology (world_after topology (opened policy topology) before) event).notes.entries place ≡ Some entry
    → entry.mark ≡ mark → entry.cause ≡ Broken → HasCause policy topology before event place entry

-- *What the line of a record claims*, where an event makes the record after the events before it. A line `bad` would claim
-- what isn't so. Other lines claim no more than that the event made their record: that a packet is refused, that a frame is
-- lost in another way, forged or passes by chance, that a port opens or closes, that a label is free, that a join is made or
-- ends, that routes change
abbrev pub Claims : Policy → Topology → (before : List Event) → Event → Record → Type 0
Claims policy topology before event (Delivered node number packet) =
    IsTrueEnd (past_of policy topology (before ++ event ∷ [])) (length before) number (IsDelivered node packet)
Claims policy topology before event (Dropped node number cause) =
    IsTrueEnd (past_of policy topology (before ++ event ∷ [])) (length before) number (IsDropped node cause)
Claims policy topology before event (Bind node port label flow) =
    MayUseNone (world_after topology (opened policy topology) before) topology (record { node = node; port = port }) label
Claims policy topology before event (Loss mark Broken) = AreBrokenWithCause policy topology before event mark
Claims policy topology before event (Bad node layer name) = ⊥
Claims policy topology before event item = Unit {0}

-- *The line of a record* that an event of the script makes. What it claims is so, if up to this event, and in it, no frame
-- was forged and none passed its test by chance: no line so far says `forged` or `chance`
pub record TellsOfEvent (policy : Policy) (script : Script) (line : List ℕ) : Type 0 where
  pub before : List Event
  pub event : Event
  pub after : List Event
  pub item : Record
  pub events : script.events ≡ before ++ event ∷ after
  pub made : Contains (next script.topology (world_after script.topology (opened policy script.topology) before) event).notes.records item
  pub written : line ≡ record_line script.topology item
  pub claim : IsTame (past_of policy script.topology (before ++ event ∷ [])).records → Claims policy script.topology before event item

-- or the script's last line
pub data IsTrueLine (policy : Policy) (script : Script) (line : List ℕ) : Type 0 where
  tells_of : TellsOfEvent policy script line → IsTrueLine policy script line
  ends : line ≡ last_line policy script → IsTrueLine policy script line

-- *Each whole line* of these octets, one that has its LF, is such a line
pub record IsWhole (line : List ℕ) : Type 0 where
  pub text : List ℕ
  pub ended : line ≡ text ++ codes "\n"

abbrev pub AreTrueLines : Policy → Script → (octets : List ℕ) → Type 0
AreTrueLines policy script octets = All (λ line. IsWhole line → IsTrueLine policy script line) (lines_of octets)
