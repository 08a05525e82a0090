-- what a greeting and a tick make of a side of an adjacency with a switch, and one that begins anew: such a side still

use Rattle.std.proofs.Common.{refl, arith}
use Rattle.world_model.specs.Words.{Greeting, Party, Side, Step, SynSent, fresh, gsmp_received, heard_in, same_party, ticked}
use Rattle.law_live_woken.proofs.law_controller_facts.law_port_facts.Turns.{IsTurned, received_turns, ticked_turns}
use Rattle.law_live_woken.specs.law_live_waking.Beats.{IsSuchSide}

such : (before : Side Party) (step : Step Party) → IsSuchSide before → IsTurned before step → IsSuchSide step.side
such before step h t = record { is_side = t.side; clear = λ e. h.clear (t.again e) }

pub heard_such : (side : Side Party) (greeting : Greeting) → IsSuchSide side → IsSuchSide (gsmp_received side greeting).side
heard_such side greeting h = such side (gsmp_received side greeting) h (received_turns side (heard_in greeting) same_party h.is_side)

pub ticked_such : (side : Side Party) → IsSuchSide side → IsSuchSide (ticked side).side
ticked_such side h = such side (ticked side) h (ticked_turns side h.is_side)

pub begun_such : (own : Party) → IsSuchSide (fresh SynSent own)
begun_such own = record { is_side = record { peer = refl; silence = omega arith }; clear = λ e. absurd (cc e) }
