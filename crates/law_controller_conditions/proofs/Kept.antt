-- what holds between events is kept by every input, and numbers suffice for one

use Rattle.std.proofs.Common.{ℕ, ◌≤◌, ◌<◌, List, arith, inr}
use Rattle.std.specs.Prelude.{◌+◌}
use Rattle.law_controller.specs.world_model.Words.{HasNumbersLeft, AreDrawn, Setup, Controller}
use Rattle.law_controller.specs.ordered_lists.Ordered.{Every}
use Rattle.law_controller.specs.world_model.Controller.{Acted}
use Rattle.law_controller.specs.law_controller_facts.Inputs.{Input, CellComes, PacketEnters, Ticks, Restarts, ChangeComes, FrameIsForged, CellLeaves, Meanwhile, takes_input}
use Rattle.law_controller.specs.law_controller_facts.Sound.{IsOwn, NeverFall}
use Rattle.law_controller.specs.law_controller_facts.Said.{HasFlowsAt}
use Rattle.law_controller.proofs.law_controller_facts.Laws.{input_goes, input_draws, input_draws_marks}
use Rattle.law_controller.proofs.law_controller_facts.Numbers.{moves_never_fall}
use Rattle.law_controller.proofs.law_controller_facts.Flows.{moves_flow}
use Rattle.law_controller.proofs.Whole.{Whole, holds_of}
use Rattle.law_controller.proofs.Events.{input_holds}
use Rattle.law_controller.proofs.Laws.{matched_of}
use Rattle.law_controller_conditions.specs.Kept.{AreLinks, IsHeld, IsKept, AreIn}
use Rattle.law_controller_conditions.proofs.Ready.{Ready}

-- *What is kept*
pub whole_kept : (a : Acted) (h : IsKept a.controller) → Whole h.setups a
whole_kept a h = record {
  sound = h.sound;
  order = h.order;
  fits = record {
    granted = h.matched.granted;
    joined = h.matched.joined;
    deleting = λ q m input e t. inr (h.matched.deleting q m input e t);
    once = h.matched.once;
    moving = λ t. h.matched.moving;
  };
}

pub kept_whole : (setups : List Setup) → AreLinks setups → (a : Acted) → Whole setups a → Every HasFlowsAt a.controller.ports → IsKept a.controller
kept_whole setups links a w flows = record {
  setups = setups;
  links = links;
  sound = w.sound;
  order = w.order;
  flows = flows;
  matched = matched_of a.controller w.order w.fits;
}

pub ready_kept : (a : Acted) (h : IsKept a.controller) → Ready h.setups a
ready_kept a h = record { holds = holds_of h.setups a (whole_kept a h); flows = h.flows }

pub kept_held : (c : Controller) → IsKept c → IsHeld c
kept_held c h = record { setups = h.setups; links = h.links; sound = h.sound; order = h.order; flows = h.flows }

-- *Each input*
own_kept : (a : Acted) (input : Input) → IsOwn input → IsKept a.controller → IsKept (takes_input a input).controller
own_kept a input own h = kept_whole h.setups h.links (takes_input a input) (input_holds h.setups h.links.links a input (whole_kept a h)) (moves_flow h.setups a (takes_input a input) (input_goes h.setups a input own h.sound) h.flows)

pub inputs_keep : (a : Acted) (input : Input) → IsKept a.controller → IsKept (takes_input a input).controller
inputs_keep a (CellComes cell) h = own_kept a (CellComes cell) tt h
inputs_keep a (PacketEnters number octets) h = own_kept a (PacketEnters number octets) tt h
inputs_keep a Ticks h = own_kept a Ticks tt h
inputs_keep a Restarts h = own_kept a Restarts tt h
inputs_keep a (ChangeComes change) h = own_kept a (ChangeComes change) tt h
inputs_keep a (FrameIsForged channel mark payload) h = own_kept a (FrameIsForged channel mark payload) tt h
inputs_keep a CellLeaves h = own_kept a CellLeaves tt h
inputs_keep a (Meanwhile notes numbers) h = h

-- *Numbers*
pub inputs_draw : (a : Acted) (input : Input) → IsOwn input → IsKept a.controller → AreDrawn a.numbers (takes_input a input).numbers
inputs_draw a input own h = (let k : NeverFall a.numbers (takes_input a input).numbers = moves_never_fall h.setups a (takes_input a input) (input_goes h.setups a input own h.sound) in
    record {
      instances = (k.instances, input_draws h.setups a input h.links.few own h.sound);
      controls = (k.controls, input_draws_marks h.setups a input h.links.few own h.sound);
    })

within : (m n k l : ℕ) → n ≤ m + k → m + k < l → n < l
within m n k l le less = omega (arith, le, less)

pub numbers_suffice : (a : Acted) (input : Input) → IsOwn input → IsKept a.controller → HasNumbersLeft a.numbers → AreIn (takes_input a input).numbers
numbers_suffice a input own h left = (let d : AreDrawn a.numbers (takes_input a input).numbers = inputs_draw a input own h in
    record {
      instances = within a.numbers.instances (takes_input a input).numbers.instances 20 _ d.instances.1 left.instances;
      controls = within a.numbers.controls (takes_input a input).numbers.controls 1000000 _ d.controls.1 left.controls;
    })
