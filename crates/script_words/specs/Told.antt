-- What is read, as the definitions of the language say it

use Rattle.std.specs.Prelude.{◌≡◌, ℕ, true, List, [], ◌∷◌, Option, None, Some, Result, Ok, if◌then◌else◌}
use Rattle.std.specs.Char.{is_ascii_hexdigit}
use Rattle.std.specs.List.{list_all}
use Rattle.lab_text.specs.Numeral.{paired}
use Rattle.lab_text.specs.Words.{words, is_blank_text}
use Rattle.script_model.specs.declared.keyword.Keyword.{Keyword}
use Rattle.script_model.specs.declared.refusal.LineRefusal.{LineRefusal}
use Rattle.script_model.specs.Forms as forms
use Rattle.script_model.specs.Forms.{after}
use Rattle.script_model.specs.Grammar as grammar
use Rattle.script_model.specs.Grammar.{said, said_of}
use Rattle.script_model.specs.world_model.network_model.declared.line.TopologyLine.{TopologyLine}
use Rattle.script_model.specs.world_model.network_model.declared.line.TopologyLine.TheVariants as lines
use Rattle.script_model.specs.world_model.Conditions.{HasItsNumbers}
use Rattle.script_words.specs.declared.said.Side.{Side}
use Rattle.script_words.specs.declared.said.Side.TheVariants.{FromController, FromPort}
use Rattle.script_words.specs.declared.said.Described.{Described}
use Rattle.script_words.specs.declared.said.Described.TheVariants.{Version, Node, Cells, Labels, Link, RouteVia, RouteLocal, PolicyXy, PolicyNever, Timers}
use Rattle.script_words.specs.declared.said.Said.{Said}
use Rattle.script_words.specs.declared.said.Said.TheVariants.{Describes, Sends, Carries, Loses, Ticks, TicksAll, TicksSwitch, Restarts, RestartsSwitch, Runs, Forges, Routes}

abbrev pub side_told : Side → forms.QueueSide
side_told FromController = forms.FromController
side_told (FromPort port) = forms.FromPort port.0

-- as a line of the topology
abbrev pub described : Described → TopologyLine
described (Version version) = lines.Version version
described (Node name address) = lines.Node name.now address
described (Cells name cells) = lines.Cells name.now cells
described (Labels name port lo hi) = lines.Labels name.now port lo hi
described (Link first first_port second second_port) = lines.Link (first.now, first_port) (second.now, second_port)
described (RouteVia name prefix port) = lines.RouteVia name.now prefix port
described (RouteLocal name prefix) = lines.RouteLocal name.now prefix
described (PolicyXy x y) = lines.PolicyXy x y
described PolicyNever = lines.PolicyNever
described (Timers lifetime refresh idle) = lines.Timers lifetime refresh idle

-- digits are those of octets
abbrev pub told : Said → grammar.Said
told (Describes line) = grammar.Describes (described line)
told (Sends name digits) = grammar.Sends name.now (paired digits.now)
told (Carries name side) = grammar.Carries name.now (side_told side)
told (Loses name side) = grammar.Loses name.now (side_told side)
told (Ticks name) = grammar.Ticks name.now
told TicksAll = grammar.TicksAll
told (TicksSwitch name) = grammar.TicksSwitch name.now
told (Restarts name) = grammar.Restarts name.now
told (RestartsSwitch name) = grammar.RestartsSwitch name.now
told (Runs rounds) = grammar.Runs rounds
told (Forges name side channel digits) = grammar.Forges name.now (side_told side) channel (paired digits.now)
told (Routes name prefix next) = grammar.Routes name.now prefix next

-- the numbers of a line of the topology are within their limits, and digits are hexadecimal
abbrev pub HasNumbers : Said → Type 0
HasNumbers (Describes line) = HasItsNumbers (described line)
HasNumbers (Sends name digits) = list_all is_ascii_hexdigit digits.now ≡ true
HasNumbers (Forges name side channel digits) = list_all is_ascii_hexdigit digits.now ≡ true
HasNumbers said = Unit {0}

-- what is said behind a first word whose lines are the same in every version
abbrev pub said_alike : Keyword → (words : List (List ℕ)) → Result grammar.Said LineRefusal
said_alike keyword words = said 1 keyword words

-- what the words of a line say, or none where it is blank
abbrev pub words_said : (version : ℕ) → List (List ℕ) → Result (Option grammar.Said) LineRefusal
words_said version [] = Ok None
words_said version (first ∷ others) = after (λ said. Ok (Some said)) (said_of version first others)

abbrev pub text_said : (version : ℕ) → (text : List ℕ) → Result (Option grammar.Said) LineRefusal
text_said version text = if is_blank_text (words text) then Ok None else words_said version (words text)
