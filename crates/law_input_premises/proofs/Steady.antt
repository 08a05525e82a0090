-- what is so of a controller between events gives all that its calls need

use Rattle.std.proofs.Common.{inr}
use Rattle.law_controller.specs.world_model.Controller.{Acted}
use Rattle.law_controller.proofs.Whole.{Whole}
use Rattle.law_input_premises.specs.Read.{AreRead}
use Rattle.law_input_premises.specs.Steady.{IsSteady}
use Rattle.law_input_premises.proofs.Reading.{are_read}

pub steady_whole : (a : Acted) (h : IsSteady a.controller) → Whole h.setups a
steady_whole a h = record {
  sound = h.sound;
  order = h.order;
  fits = record {
    granted = h.matched.granted;
    joined = h.matched.joined;
    deleting = λ q m input e t. inr (h.matched.deleting q m input e t);
    once = h.matched.once;
    moving = λ t. h.matched.moving;
  };
}

pub steady_read : (a : Acted) (h : IsSteady a.controller) → AreRead h.setups a.controller.desk.rows
steady_read a h = are_read h.setups h.links a.controller.desk.rows h.rows
