-- The lines of the language: a table of first words, and for each the forms of the words behind it and what the line
-- says then. The language is this project's own.

use Rattle.std.specs.Prelude.{ℕ, ◌==◌, nat_lt, List, [], ◌∷◌, length, codes, find, Option, None, Some, Result, Ok, Err, if◌then◌else◌}
use Rattle.net_types.specs.declared.node.PortNo.{PortNo}
use Rattle.net_types.specs.declared.channel.Channel.{Channel}
use Rattle.net_types.specs.Prefix.{Network}
use Rattle.net_types.specs.Label.{least_label_vci, greatest_label_vci}
use Rattle.world_model.specs.ipv4_forward.declared.table.Next.{Next}
use Rattle.world_model.specs.ipv4_forward.declared.table.Next.TheVariants.{Local, Via}
use Rattle.world_model.specs.network_model.declared.line.TopologyLine.{TopologyLine}
use Rattle.world_model.specs.network_model.declared.line.TopologyLine.TheVariants as lines
use Rattle.script_model.specs.declared.keyword.Keyword.{Keyword}
use Rattle.script_model.specs.declared.keyword.Keyword.TheVariants as word
use Rattle.script_model.specs.declared.refusal.LineRefusal.{LineRefusal}
use Rattle.script_model.specs.declared.refusal.LineRefusal.TheVariants.{UnknownWord, Arity, BadNumber}
use Rattle.script_model.specs.Limits.{greatest_cells, greatest_time, greatest_packets, greatest_window, greatest_rounds}
use Rattle.script_model.specs.Names.{keyword_of}
use Rattle.script_model.specs.Forms.{QueueSide, Form, Values, FixedWord, NameWord, NameOrAll, AddressWord, PrefixWord, NumberWord, EndWord, QueueWord, ChannelWord, LabelWord, HexWord, PayloadWord, after, read_all, are_fixed}

-- what the words of a line say, nodes by their names
pub data Said : Type 0 where
  Describes : TopologyLine → Said
  Sends : (name octets : List ℕ) → Said
  Carries : (name : List ℕ) → QueueSide → Said
  Loses : (name : List ℕ) → QueueSide → Said
  Ticks : (name : List ℕ) → Said
  TicksAll : Said
  TicksSwitch : (name : List ℕ) → Said
  Restarts : (name : List ℕ) → Said
  RestartsSwitch : (name : List ℕ) → Said
  Runs : (rounds : ℕ) → Said
  Forges : (name : List ℕ) → QueueSide → Channel → (payload : List ℕ) → Said
  Routes : (name : List ℕ) → Network → Option Next → Said

-- the forms of the words behind the first one, and what they say
pub record LineRow : Type 0 where
  pub forms : List Form
  pub says : Values forms → Result Said LineRefusal

abbrev pub line_row : (forms : List Form) → (Values forms → Said) → LineRow
line_row forms says = record { forms = forms; says = λ values. Ok (says values) }

abbrev pub port : ℕ → PortNo
port n = record { 0 = n }

-- `tick *` is of all
abbrev pub ticks_said : (name : Option (List ℕ)) → Said
ticks_said None = TicksAll
ticks_said (Some name) = Ticks name

-- a range of labels that ends before it begins is a wrong number
abbrev pub label_range_said : (name : List ℕ) → (port : PortNo) → (lo hi : ℕ) → Result Said LineRefusal
label_range_said name port lo hi = if nat_lt hi lo then Err BadNumber else Ok (Describes (lines.Labels name port lo hi))

abbrev pub labels_row : (label : Form) → (Values (label ∷ label ∷ []) → ℕ × ℕ) → LineRow
labels_row label ends = record {
  forms = NameWord ∷ NumberWord 1 8 ∷ label ∷ label ∷ [];
  says = λ v. label_range_said v.0 (port v.1.0) (ends v.1.1).0 (ends v.1.1).1;
}

-- in version 2 labels have a VPI
abbrev pub labels_row_of : (version : ℕ) → LineRow
labels_row_of version =
    if version == 2 then labels_row LabelWord (λ v. (v.0, v.1.0)) else labels_row (NumberWord least_label_vci greatest_label_vci) (λ v. (v.0, v.1.0))

-- *The table of lines*
abbrev pub rows_of : (version : ℕ) → Keyword → List LineRow
rows_of version word.Node = line_row (NameWord ∷ AddressWord ∷ []) (λ v. Describes (lines.Node v.0 v.1.0)) ∷ []
rows_of version word.Cells =
    line_row (NameWord ∷ NumberWord 1 greatest_cells ∷ []) (λ v. Describes (lines.Cells v.0 v.1.0)) ∷ []
rows_of version word.Labels = labels_row_of version ∷ []
rows_of version word.Link = line_row (EndWord ∷ EndWord ∷ []) (λ v. Describes (lines.Link v.0 v.1.0)) ∷ []
rows_of version word.Route =
    line_row (NameWord ∷ PrefixWord ∷ FixedWord (codes "via") ∷ NumberWord 1 8 ∷ [])
    (λ v. Describes (lines.RouteVia v.0 v.1.0 (port v.1.1.1.0)))
    ∷ line_row (NameWord ∷ PrefixWord ∷ FixedWord (codes "local") ∷ []) (λ v. Describes (lines.RouteLocal v.0 v.1.0)) ∷ []
rows_of version word.Policy =
    line_row (FixedWord (codes "xy") ∷ NumberWord 1 greatest_packets ∷ NumberWord 1 greatest_window ∷ [])
    (λ v. Describes (lines.PolicyXy v.1.0 v.1.1.0))
    ∷ line_row (FixedWord (codes "never") ∷ []) (λ v. Describes lines.PolicyNever) ∷ []
rows_of version word.Timers =
    line_row (NumberWord 1 greatest_time ∷ NumberWord 1 greatest_time ∷ NumberWord 1 greatest_time ∷ [])
    (λ v. Describes (lines.Timers v.0 v.1.0 v.1.1.0)) ∷ []
rows_of version word.Version = line_row (NumberWord 1 2 ∷ []) (λ v. Describes (lines.Version v.0)) ∷ []
rows_of version word.Send = line_row (NameWord ∷ HexWord ∷ []) (λ v. Sends v.0 v.1.0) ∷ []
rows_of version word.Carry = line_row (QueueWord ∷ []) (λ v. Carries v.0.0 v.0.1) ∷ []
rows_of version word.Lose = line_row (QueueWord ∷ []) (λ v. Loses v.0.0 v.0.1) ∷ []
rows_of version word.Tick = line_row (NameOrAll ∷ []) (λ v. ticks_said v.0) ∷ []
rows_of version word.TickSwitch = line_row (NameWord ∷ []) (λ v. TicksSwitch v.0) ∷ []
rows_of version word.Restart = line_row (NameWord ∷ []) (λ v. Restarts v.0) ∷ []
rows_of version word.RestartSwitch = line_row (NameWord ∷ []) (λ v. RestartsSwitch v.0) ∷ []
rows_of version word.Run = line_row (NumberWord 1 greatest_rounds ∷ []) (λ v. Runs v.0) ∷ []
rows_of version word.Forge =
    line_row (QueueWord ∷ ChannelWord ∷ PayloadWord ∷ []) (λ v. Forges v.0.0 v.0.1 v.1.0 v.1.1.0) ∷ []
rows_of version word.SetRoute =
    line_row (NameWord ∷ PrefixWord ∷ FixedWord (codes "via") ∷ NumberWord 1 8 ∷ [])
    (λ v. Routes v.0 v.1.0 (Some (Via (port v.1.1.1.0))))
    ∷ line_row (NameWord ∷ PrefixWord ∷ FixedWord (codes "local") ∷ []) (λ v. Routes v.0 v.1.0 (Some Local)) ∷ []
rows_of version word.Unroute = line_row (NameWord ∷ PrefixWord ∷ []) (λ v. Routes v.0 v.1.0 None) ∷ []

-- *The order of refusals*: the first word; how many words there are; the fixed words; the forms of the others from
-- left to right
abbrev pub said_by : LineRow → (words : List (List ℕ)) → Result Said LineRefusal
said_by row words = if are_fixed row.forms words then after row.says (read_all row.forms words) else Err UnknownWord

abbrev pub said_in : Option LineRow → (words : List (List ℕ)) → Result Said LineRefusal
said_in None words = Err Arity
said_in (Some row) words = said_by row words

-- what is said behind a first word
abbrev pub said : (version : ℕ) → Keyword → (words : List (List ℕ)) → Result Said LineRefusal
said version keyword words = said_in (find (λ row. length row.forms == length words) (rows_of version keyword)) words

abbrev pub said_behind : (version : ℕ) → Option Keyword → (words : List (List ℕ)) → Result Said LineRefusal
said_behind version None words = Err UnknownWord
said_behind version (Some keyword) words = said version keyword words

abbrev pub said_of : (version : ℕ) → (first : List ℕ) → (words : List (List ℕ)) → Result Said LineRefusal
said_of version first words = said_behind version (keyword_of first) words
