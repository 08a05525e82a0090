-- worked lives of a label that a port hands out: what the rules make of it, message by message

use Rattle.std.proofs.Common.{◌≡◌, true, false, List, [], ◌∷◌, map, None, Some, refl}
use Rattle.net_types.specs.Label.{label_channel_of}
use Rattle.gsmp_wire.specs.declared.request.Request.TheVariants.{AddBranch, DeleteTree}
use Rattle.ifmp_wire.specs.declared.message.Message.TheVariants.{Redirect, ReclaimAck}
use Rattle.link_model.specs.declared.record.Record.TheVariants.{Bind, Free, Closed}
use Rattle.gsmp_wire.specs.declared.request.Request.TheVariants.{DeleteAll}
use Rattle.port_model.specs.declared.action.Action.TheVariants.{Say, Ask, Note, CutChain}
use Rattle.port_model.specs.Desk.{empty_desk}
use Rattle.port_model.specs.Setup.{label_end, control_end}
use Rattle.port_model.specs.Labels.{Label, LabelState, Wiring, Offered, Recalled, Wired, lowest_spare}
use Rattle.port_model.specs.Counts.{Counted, counted_once, packets_in, window_moved}
use Rattle.port_model.specs.Port.{Port, Session, Work, labels_of}
use Rattle.port_model.specs.Counting.{offers}
use Rattle.port_model.specs.Hearing.{hears}
use Rattle.port_model.specs.Answers.{done}
use Rattle.port_model.specs.Resets.{resets}
use Rattle.port_model.specs.Ticks.{ticks}
use Rattle.port_model.proofs.Sample.{address, own, far, setup, flow, session, label, port_with, at_work, ack}

abbrev states : Port → List LabelState
states port = map (λ (x : Label). x.state) (labels_of port)

-- *Counting*: the first packet of a flow counts 1, the second 2, and at the second the lowest spare label is
-- wired; it is bound at the answer, and REDIRECT has number 1
abbrev twice : List Counted
twice = counted_once (counted_once [] flow) flow

once_is : packets_in (counted_once [] flow) flow ≡ 1
once_is = refl

twice_is : packets_in twice flow ≡ 2
twice_is = refl

-- and it is forgotten two ticks later
kept_is : packets_in (window_moved 2 twice) flow ≡ 2
kept_is = refl

forgotten_is : packets_in (window_moved 2 (window_moved 2 twice)) flow ≡ 0
forgotten_is = refl

abbrev counting : Session
counting = record (session 1 1 []) { counted = twice }

abbrev wiring : Work
wiring = offers setup empty_desk (at_work (port_with (Some counting) [])) counting flow

wiring_is : (states wiring.port ≡ Wiring ∷ [])
    × (wiring.actions ≡ Ask (AddBranch (label_end setup.port 32) (control_end setup.port 32)) false ∷ [])
wiring_is = (refl, refl)

abbrev offered : Work
offered = done setup (at_work wiring.port) (AddBranch (label_end setup.port 32) (control_end setup.port 32))

offered_is : (states offered.port ≡ Offered ∷ [])
    × (offered.actions ≡ Note (Bind setup.node setup.port 32 flow) ∷ Say (Redirect own far 1 60 (label_channel_of 32) flow) ∷ [])
offered_is = (refl, refl)

-- *A range of one label* gives it, and then none
gives_it : lowest_spare (record setup { greatest = 32 }) (label_channel_of 32) (label_channel_of 32) [] ≡ Some 32
gives_it = refl

then_none : lowest_spare (record setup { greatest = 32 }) (label_channel_of 32) (label_channel_of 32) (label 32 Offered ∷ []) ≡ None
then_none = refl

-- *A label recalled with number 4, and with number 5 again*: a RECLAIM ACK alone frees none, an ACK that
-- expects 5 none, and one that expects 6 quits it
abbrev recalled : Work
recalled = at_work (port_with (Some (session 6 1 (label 32 (Recalled 5 false) ∷ []))) [])

abbrev acknowledged : Work
acknowledged = hears setup empty_desk recalled (address 2) (ReclaimAck far own 3 (label_channel_of 32) flow)

acknowledged_is : (states acknowledged.port ≡ Recalled 5 true ∷ []) × (acknowledged.actions ≡ [])
acknowledged_is = (refl, refl)

abbrev unpassed : Work
unpassed = hears setup empty_desk (at_work acknowledged.port) (address 2) (ack 5)

unpassed_is : (states unpassed.port ≡ Recalled 5 true ∷ []) × (unpassed.actions ≡ [])
unpassed_is = (refl, refl)

abbrev quit : Work
quit = hears setup empty_desk (at_work acknowledged.port) (address 2) (ack 6)

quit_is : (states quit.port ≡ Wired ∷ [])
    × (quit.actions ≡ CutChain 32 ∷ Ask (DeleteTree (label_end setup.port 32)) false ∷ [])
quit_is = (refl, refl)

abbrev free : Work
free = done setup (at_work quit.port) (DeleteTree (label_end setup.port 32))

free_is : (labels_of free.port ≡ []) × (free.actions ≡ Note (Free setup.node setup.port 32) ∷ [])
free_is = (refl, refl)

-- *A tick*: an offered label that was idle for one tick is recalled at the second; one that waits for its number
-- has LABEL RANGE said
abbrev idle : Work
idle = ticks setup empty_desk (at_work (port_with (Some (session 2 1 (record (label 32 Offered) { idle = 1 } ∷ []))) []))

idle_is : states idle.port ≡ Recalled 2 false ∷ []
idle_is = refl

abbrev nudged : Work
nudged = ticks setup empty_desk (at_work (port_with (Some (session 6 1 (label 32 (Recalled 5 true) ∷ []))) []))

nudged_is : states nudged.port ≡ Recalled 5 true ∷ []
nudged_is = refl

-- *The last number*: a label that is idle can't be reclaimed any more, and the port asks to be reset and does
-- nothing more; at its reset it begins anew under instance 21
abbrev spent : Work
spent = ticks setup empty_desk (at_work (port_with (Some (session 4294967295 1 (record (label 32 Offered) { idle = 1 } ∷ label 33 Wired ∷ []))) []))

spent_is : (spent.halted ≡ true) × (states spent.port ≡ Recalled 4294967295 false ∷ Wired ∷ [])
spent_is = (refl, refl)

abbrev begun : Work
begun = resets setup (at_work spent.port)

begun_is : (begun.port.session ≡ None) × (begun.port.adjacency.own.instance.0 ≡ 21) × (begun.instances ≡ 21)
begun_is = (refl, refl, refl)

asked_is : begun.actions ≡ Note (Closed setup.node setup.port) ∷ CutChain 32 ∷ CutChain 33 ∷ Ask (DeleteAll setup.port) true ∷ []
asked_is = refl
