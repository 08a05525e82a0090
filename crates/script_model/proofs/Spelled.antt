-- what is written of a line are words, and it is the line again

use Rattle.std.proofs.Common.{◌≡◌, ℕ, ◌^◌, ◌<◌, ◌==◌, Bool, true, false, List, [], ◌∷◌, Some, None, Ok, Option, codes, refl, arith}
use Rattle.net_types.specs.declared.node.Place.{Place}
use Rattle.net_types.specs.declared.node.Place.TheVariants.{Down, Up, Out}
use Rattle.net_types.specs.Label.{label_channel_of}
use Rattle.net_types.specs.Prefix.{Network}
use Rattle.world_model.specs.ipv4_forward.declared.table.Next.{Next}
use Rattle.world_model.specs.ipv4_forward.declared.table.Next.TheVariants.{Local, Via}
use Rattle.rule_model.specs.lab_text.Words.{line_text, is_blank_text}
use Rattle.world_model.specs.network_model.declared.event.Event.{Event}
use Rattle.world_model.specs.network_model.declared.event.Event.TheVariants as event
use Rattle.world_model.specs.network_model.declared.line.TopologyLine.{TopologyLine}
use Rattle.world_model.specs.network_model.declared.line.TopologyLine.TheVariants as lines
use Rattle.world_model.specs.Topology.{Topology}
use Rattle.script_model.specs.declared.line.Line.{Line}
use Rattle.script_model.specs.declared.line.Line.TheVariants.{Blank, Topology as TopologyIs, Event as EventComes, TickAll, Run}
use Rattle.script_model.specs.Sayable.{IsName, IsPrefix, IsNext, IsQueue, HasWords, HasEventWords, IsSayable}
use Rattle.script_model.specs.State.{ScriptState}
use Rattle.script_model.specs.Reading.{text_says}
use Rattle.script_model.specs.Records.{is_label}
use Rattle.script_model.specs.Texts.{name_of, label_text, place_text}
use Rattle.script_model.specs.Writing.{topology_words, change_words, event_words, line_words, line_text_of}
use Rattle.script_model.proofs.Tokens.{IsWord, AreWords}
use Rattle.script_model.proofs.WordTexts.{decimal_word, address_word, prefix_word, channel_word, name_word, end_word, hex_word, word_append}
use Rattle.script_model.proofs.ReadAgain.{both, label_small, said_again, line_again}

label_word : (topology : Topology) (n : ℕ) → is_label topology n ≡ true → IsWord (label_text topology n)
label_word topology n is = by (topology.version == 2) refl
  where
    few : n < 2 ^ 16
    few = label_small n (both _ _ is).0

    by : (two : Bool) → topology.version == 2 ≡ two → IsWord (label_text topology n)
    by true e = rw e (channel_word (label_channel_of n) (omega (arith, few)) (omega (arith, few)))
    by false e = rw e (decimal_word n (omega (arith, few)))

topology_spelled : (topology : Topology) (line : TopologyLine) → HasWords topology line → AreWords (topology_words topology line)
topology_spelled topology (lines.Node name address) has =
    ((omega arith, refl), (name_word name has.1.0, (address_word address, tt)))
topology_spelled topology (lines.Cells name cells) has =
    ((omega arith, refl), (name_word name has.1, (decimal_word cells (omega (arith, has.0.1)), tt)))
topology_spelled topology (lines.Labels name port lo hi) has = (
  (omega arith, refl),
  (
    name_word name has.1.0,
    (
      decimal_word port.0 (omega (arith, has.0.port.1)),
      (label_word topology lo has.1.1, (label_word topology hi has.1.2, tt)),
    ),
  ),
)
topology_spelled topology (lines.Link first second) has =
    ((omega arith, refl), (end_word first.0 first.1 has.1.0 has.0.0.1, (end_word second.0 second.1 has.1.1 has.0.1.1, tt)))
topology_spelled topology (lines.RouteVia name prefix port) has = (
  (omega arith, refl),
  (
    name_word name has.1.0,
    (
      prefix_word prefix has.1.1.1.within,
      (
        (omega arith, refl),
        (decimal_word port.0 (omega (arith, has.0.1)), tt),
      ),
    ),
  ),
)
topology_spelled topology (lines.RouteLocal name prefix) has =
    ((omega arith, refl), (name_word name has.1.0, (prefix_word prefix has.1.1.1.within, ((omega arith, refl), tt))))
topology_spelled topology (lines.PolicyXy x y) has = (
  (omega arith, refl),
  (
    (omega arith, refl),
    (
      decimal_word x (omega (arith, has.0.0.1)),
      (decimal_word y (omega (arith, has.0.1.1)), tt),
    ),
  ),
)
topology_spelled topology lines.PolicyNever has = ((omega arith, refl), ((omega arith, refl), tt))
topology_spelled topology (lines.Timers lifetime refresh idle) has = (
  (omega arith, refl),
  (
    decimal_word lifetime (omega (arith, has.0.0.1)),
    (decimal_word refresh (omega (arith, has.0.1.1)), (decimal_word idle (omega (arith, has.0.2.1)), tt)),
  ),
)
topology_spelled topology (lines.Version version) has =
    ((omega arith, refl), (decimal_word version (omega (arith, has.0.1)), tt))

place_word : (topology : Topology) (place : Place) → IsQueue topology place → IsWord (place_text topology place)
place_word topology (Down node) is =
    word_append (name_of topology node) (58 ∷ 99 ∷ []) (name_word (name_of topology node) is.0) refl
place_word topology (Up node) is =
    word_append (name_of topology node) (58 ∷ 48 ∷ []) (name_word (name_of topology node) is.0) refl
place_word topology (Out node port) is = end_word (name_of topology node) port is.0.0 is.1.1

change_spelled : (name : List ℕ) (prefix : Network) (next : Option Next) → IsName name → IsPrefix prefix → IsNext next
    → AreWords (change_words name prefix next)
change_spelled name prefix None is prefix_is next_is =
    ((omega arith, refl), (name_word name is, (prefix_word prefix prefix_is.1.within, tt)))
change_spelled name prefix (Some Local) is prefix_is next_is =
    ((omega arith, refl), (name_word name is, (prefix_word prefix prefix_is.1.within, ((omega arith, refl), tt))))
change_spelled name prefix (Some (Via port)) is prefix_is next_is = (
  (omega arith, refl),
  (
    name_word name is,
    (
      prefix_word prefix prefix_is.1.within,
      (
        (omega arith, refl),
        (decimal_word port.0 (omega (arith, next_is.1)), tt),
      ),
    ),
  ),
)

event_spelled : (topology : Topology) (event : Event) → HasEventWords topology event → AreWords (event_words topology event)
event_spelled topology (event.Inject node octets) has =
    ((omega arith, refl), (name_word (name_of topology node) has.0.0, (hex_word octets has.1 has.2, tt)))
event_spelled topology (event.Carry place) has = ((omega arith, refl), (place_word topology place has, tt))
event_spelled topology (event.Lose place) has = ((omega arith, refl), (place_word topology place has, tt))
event_spelled topology (event.Tick node) has = ((omega arith, refl), (name_word (name_of topology node) has.0, tt))
event_spelled topology (event.TickSwitch node) has = ((omega arith, refl), (name_word (name_of topology node) has.0, tt))
event_spelled topology (event.Restart node) has = ((omega arith, refl), (name_word (name_of topology node) has.0, tt))
event_spelled topology (event.RestartSwitch node) has = ((omega arith, refl), (name_word (name_of topology node) has.0, tt))
event_spelled topology (event.Forge place channel payload) has = (
  (omega arith, refl),
  (
    place_word topology place has.0,
    (
      channel_word channel has.1 has.2,
      (hex_word payload (omega (arith, has.3.0)) has.4, tt),
    ),
  ),
)
event_spelled topology (event.Route node change) has =
    change_spelled (name_of topology node) change.prefix change.next has.0.0 has.1 has.2

spelled : (state : ScriptState) (line : Line) → IsSayable state line → AreWords (line_words state.topology line)
spelled state Blank is = tt
spelled state (TopologyIs line) is = topology_spelled state.topology line is.0
spelled state (EventComes event) is = event_spelled state.topology event is.0
spelled state TickAll is = ((omega arith, refl), ((omega arith, refl), tt))
spelled state (Run rounds) is = ((omega arith, refl), (decimal_word rounds (omega (arith, is.0.1)), tt))

-- *It isn't blank*
topology_not_blank : (topology : Topology) (line : TopologyLine) → is_blank_text (topology_words topology line) ≡ false
topology_not_blank topology (lines.Node name address) = refl
topology_not_blank topology (lines.Cells name cells) = refl
topology_not_blank topology (lines.Labels name port lo hi) = refl
topology_not_blank topology (lines.Link first second) = refl
topology_not_blank topology (lines.RouteVia name prefix port) = refl
topology_not_blank topology (lines.RouteLocal name prefix) = refl
topology_not_blank topology (lines.PolicyXy x y) = refl
topology_not_blank topology lines.PolicyNever = refl
topology_not_blank topology (lines.Timers lifetime refresh idle) = refl
topology_not_blank topology (lines.Version version) = refl

change_not_blank : (name : List ℕ) (prefix : Network) (next : Option Next) → is_blank_text (change_words name prefix next) ≡ false
change_not_blank name prefix None = refl
change_not_blank name prefix (Some Local) = refl
change_not_blank name prefix (Some (Via port)) = refl

event_not_blank : (topology : Topology) (event : Event) → is_blank_text (event_words topology event) ≡ false
event_not_blank topology (event.Inject node octets) = refl
event_not_blank topology (event.Carry place) = refl
event_not_blank topology (event.Lose place) = refl
event_not_blank topology (event.Tick node) = refl
event_not_blank topology (event.TickSwitch node) = refl
event_not_blank topology (event.Restart node) = refl
event_not_blank topology (event.RestartSwitch node) = refl
event_not_blank topology (event.Forge place channel payload) = refl
event_not_blank topology (event.Route node change) = change_not_blank (name_of topology node) change.prefix change.next

-- *A line that can be said* is read back from its text
pub read_back : (state : ScriptState) (line : Line) → IsSayable state line
    → text_says state (line_text (line_text_of state.topology line)) ≡ Ok line
read_back state Blank is = refl
read_back state (TopologyIs line) is =
    said_again state (topology_words state.topology line) (TopologyIs line) (spelled state (TopologyIs line) is)
    (topology_not_blank state.topology line) (line_again state (TopologyIs line) is)
read_back state (EventComes event) is =
    said_again state (event_words state.topology event) (EventComes event) (spelled state (EventComes event) is)
    (event_not_blank state.topology event) (line_again state (EventComes event) is)
read_back state TickAll is =
    said_again state (codes "tick" ∷ codes "*" ∷ []) TickAll (spelled state TickAll is) refl (line_again state TickAll is)
read_back state (Run rounds) is =
    said_again state (line_words state.topology (Run rounds)) (Run rounds) (spelled state (Run rounds) is) refl
    (line_again state (Run rounds) is)
