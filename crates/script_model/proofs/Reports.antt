-- reports of short scripts

use Rattle.std.proofs.Common.{◌≡◌, ℕ, List, [], ◌∷◌, ◌++◌, refl}
use Rattle.std.specs.Fmt.{digits}
use Rattle.std.specs.Prelude.{codes, Some}
use Rattle.net_types.specs.declared.node.NodeId.{NodeId}
use Rattle.net_types.specs.declared.node.Place.TheVariants.{Down, Up}
use Rattle.world_model.specs.link_model.declared.record.Cause.TheVariants.{Lost}
use Rattle.world_model.specs.link_model.declared.record.Record.TheVariants.{Loss}
use Rattle.rule_model.specs.lab_text.Numeral.{paired}
use Rattle.world_model.specs.network_model.declared.event.Event.TheVariants.{Inject, Carry, Lose, Tick}
use Rattle.world_model.specs.Topology.{Topology}
use Rattle.script_model.specs.declared.refusal.LineRefusal.TheVariants.{UnknownName}
use Rattle.script_model.specs.declared.refusal.Refused.TheVariants.{Line}
use Rattle.script_model.specs.Records.{record_line}
use Rattle.script_model.specs.Reports.{script_report, last_line_by}
use Rattle.script_model.specs.Ideal.{ideal_report}
use Rattle.script_model.specs.Script.{script_of}

abbrev pub packet : List ℕ
packet = codes "4500001c0001000004119ecf0a0001010a0003011389138a00080000"

abbrev network : List ℕ
network = codes "node a 10.0.1.1\nroute a 10.0.0.0/8 local\n"

abbrev script : List ℕ
script = network ++ (codes "send a " ++ (packet ++ codes "\n"))

-- *One packet*
one_packet : script_report script
    ≡ codes "deliver a 1 " ++ (packet ++ codes "\nend events 1 sent 1 delivered 1 dropped 0 refused 0 losses 0 redirects 0 switched 0 chance 0\n")
unfolding script_report script_of digits
one_packet = refl

its_journey : ideal_report script
    ≡ codes "deliver a 1 " ++ (packet ++ codes "\nend sent 1 delivered 1 dropped 0 refused 0\n")
unfolding ideal_report script_of digits
its_journey = refl

-- *The empty script*
nothing : script_report [] ≡ codes "end events 0 sent 0 delivered 0 dropped 0 refused 0 losses 0 redirects 0 switched 0 chance 0\n"
unfolding script_report script_of digits
nothing = refl

-- *A tick, carries, a loss, a round, and a refused line*. The run itself doesn't unfold, for the frames of messages
-- that cross the control link; its events and its last line do
abbrev refused_script : List ℕ
refused_script = script ++ codes "tick a\ncarry a:c\nlose a:0\ncarry a:0\nrun 1\ntick z\n"

abbrev a : NodeId
a = record { 0 = 1 }

abbrev octets : List ℕ
octets = paired packet

events_are : (script_of refused_script).events
    ≡ Inject a octets ∷ Tick a ∷ Carry (Down a) ∷ Lose (Up a) ∷ Carry (Up a) ∷ Carry (Down a) ∷ Carry (Up a) ∷ []
unfolding script_of
events_are = refl

refused_is : (script_of refused_script).refused ≡ Some (Line 9 UnknownName)
unfolding script_of
refused_is = refl

last_line_is : last_line_by [] (script_of refused_script).refused ≡ codes "refused 9 UnknownName\n"
unfolding script_of digits
last_line_is = refl

loss_is : (topology : Topology) → record_line topology (Loss (record { packet = 0; frame = 2 }) Lost) ≡ codes "loss 0.2 Lost\n"
unfolding digits
loss_is topology = refl
