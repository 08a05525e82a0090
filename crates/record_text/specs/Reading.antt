-- The record that the words of a line tell of

use Rattle.std.specs.Prelude.{ℕ, List, [], ◌∷◌, bytes_eq, find, Option, None}
use Rattle.std.specs.Option.{option_map, option_and_then}
use Rattle.link_model.specs.declared.record.Cause.{Cause}
use Rattle.link_model.specs.declared.record.DropCause.{DropCause}
use Rattle.link_model.specs.declared.record.Layer.{Layer}
use Rattle.link_model.specs.declared.record.Refusal.{Refusal}
use Rattle.link_model.specs.declared.record.Record.{Record}
use Rattle.link_model.specs.declared.record.Record.TheVariants.{Delivered, Dropped, Refused, Loss, Chance, Bad, Opened, Closed, Bind, Free, Join, Part, Forged, Routes}
use Rattle.lab_text.specs.Names.{cause_text, drop_text, layer_text, refusal_text}
use Rattle.lab_text.specs.Numeral.{hex_octets}
use Rattle.topology.specs.world_model.Topology.{Topology}
use Rattle.topology.specs.world_model.Lines.{node_named}
use Rattle.record_text.specs.declared.kind.Kind.{Kind}
use Rattle.record_text.specs.declared.kind.Kind.TheVariants as kind
use Rattle.record_text.specs.declared.kind.TheConstants.{FIRST_WORDS}
use Rattle.record_text.specs.declared.names.TheConstants.{CAUSES, DROP_CAUSES, LAYERS, REFUSALS}
use Rattle.record_text.specs.Words.{one, two, three, four, five}
use Rattle.record_text.specs.Forms.{number_of, port_of, mark_of, label_of, place_of, flow_of}

-- *First words*
abbrev pub kind_of : List ℕ → Option Kind
kind_of word = option_map (λ entry. entry.1) (find (λ entry. bytes_eq word entry.0.now) FIRST_WORDS)

-- *Causes, layers and refusals* by their names
abbrev pub cause_of : List ℕ → Option Cause
cause_of word = find (λ cause. bytes_eq word (cause_text cause)) CAUSES

abbrev pub drop_of : List ℕ → Option DropCause
drop_of word = find (λ cause. bytes_eq word (drop_text cause)) DROP_CAUSES

abbrev pub layer_of : List ℕ → Option Layer
layer_of word = find (λ layer. bytes_eq word (layer_text layer)) LAYERS

abbrev pub refusal_of : List ℕ → Option Refusal
refusal_of word = find (λ refusal. bytes_eq word (refusal_text refusal)) REFUSALS

-- *Records*
abbrev pub delivered_in : Topology → List (List ℕ) → Option Record
delivered_in topology fields =
    option_and_then (λ w. option_and_then (λ node. option_and_then (λ packet. option_map (λ octets. Delivered node packet octets) (hex_octets w.2)) (number_of w.1)) (node_named topology w.0)) (three fields)

abbrev pub dropped_in : Topology → List (List ℕ) → Option Record
dropped_in topology fields =
    option_and_then (λ w. option_and_then (λ node. option_and_then (λ packet. option_map (λ cause. Dropped node packet cause) (drop_of w.2)) (number_of w.1)) (node_named topology w.0)) (three fields)

abbrev pub refused_in : Topology → List (List ℕ) → Option Record
refused_in topology fields =
    option_and_then (λ w. option_and_then (λ node. option_and_then (λ packet. option_map (λ name. Refused node packet name) (refusal_of w.2)) (number_of w.1)) (node_named topology w.0)) (three fields)

abbrev pub loss_in : List (List ℕ) → Option Record
loss_in fields =
    option_and_then (λ w. option_and_then (λ mark. option_map (λ cause. Loss mark cause) (cause_of w.1)) (mark_of w.0)) (two fields)

abbrev pub chance_in : List (List ℕ) → Option Record
chance_in fields = option_and_then (λ word. option_map Chance (mark_of word)) (one fields)

abbrev pub bad_in : Topology → List (List ℕ) → Option Record
bad_in topology fields =
    option_and_then (λ w. option_and_then (λ node. option_and_then (λ layer. option_map (λ name. Bad node layer name) (refusal_of w.2)) (layer_of w.1)) (node_named topology w.0)) (three fields)

abbrev pub opened_in : Topology → List (List ℕ) → Option Record
opened_in topology fields =
    option_and_then (λ w. option_and_then (λ node. option_map (λ port. Opened node port) (port_of w.1)) (node_named topology w.0)) (two fields)

abbrev pub closed_in : Topology → List (List ℕ) → Option Record
closed_in topology fields =
    option_and_then (λ w. option_and_then (λ node. option_map (λ port. Closed node port) (port_of w.1)) (node_named topology w.0)) (two fields)

abbrev pub bind_in : Topology → List (List ℕ) → Option Record
bind_in topology fields =
    option_and_then (λ w. option_and_then (λ node. option_and_then (λ port. option_and_then (λ vci. option_and_then (λ octets. option_map (λ flow. Bind node port vci flow) (flow_of octets)) (hex_octets w.3)) (label_of topology w.2)) (port_of w.1)) (node_named topology w.0)) (four fields)

abbrev pub free_in : Topology → List (List ℕ) → Option Record
free_in topology fields =
    option_and_then (λ w. option_and_then (λ node. option_and_then (λ port. option_map (λ vci. Free node port vci) (label_of topology w.2)) (port_of w.1)) (node_named topology w.0)) (three fields)

abbrev pub join_in : Topology → List (List ℕ) → Option Record
join_in topology fields =
    option_and_then (λ w. option_and_then (λ node. option_and_then (λ port. option_and_then (λ vci. option_and_then (λ to_port. option_map (λ to_vci. Join node port vci to_port to_vci) (label_of topology w.4)) (port_of w.3)) (label_of topology w.2)) (port_of w.1)) (node_named topology w.0)) (five fields)

abbrev pub part_in : Topology → List (List ℕ) → Option Record
part_in topology fields =
    option_and_then (λ w. option_and_then (λ node. option_and_then (λ port. option_map (λ vci. Part node port vci) (label_of topology w.2)) (port_of w.1)) (node_named topology w.0)) (three fields)

abbrev pub forged_in : Topology → List (List ℕ) → Option Record
forged_in topology fields = option_and_then (λ word. option_map Forged (place_of topology word)) (one fields)

abbrev pub routes_in : Topology → List (List ℕ) → Option Record
routes_in topology fields =
    option_and_then (λ w. option_and_then (λ node. option_map (λ number. Routes node number) (number_of w.1)) (node_named topology w.0)) (two fields)

abbrev pub fields_tell : Topology → Kind → (fields : List (List ℕ)) → Option Record
fields_tell topology kind.Delivered fields = delivered_in topology fields
fields_tell topology kind.Dropped fields = dropped_in topology fields
fields_tell topology kind.Refused fields = refused_in topology fields
fields_tell topology kind.Loss fields = loss_in fields
fields_tell topology kind.Chance fields = chance_in fields
fields_tell topology kind.Bad fields = bad_in topology fields
fields_tell topology kind.Opened fields = opened_in topology fields
fields_tell topology kind.Closed fields = closed_in topology fields
fields_tell topology kind.Bind fields = bind_in topology fields
fields_tell topology kind.Free fields = free_in topology fields
fields_tell topology kind.Join fields = join_in topology fields
fields_tell topology kind.Part fields = part_in topology fields
fields_tell topology kind.Forged fields = forged_in topology fields
fields_tell topology kind.Routes fields = routes_in topology fields

abbrev pub words_tell : Topology → List (List ℕ) → Option Record
words_tell topology [] = None
words_tell topology (word ∷ fields) = option_and_then (λ kind. fields_tell topology kind fields) (kind_of word)
