use Rattle.std.proofs.Common.{◌≡◌, ◌∙◌, ◌||◌, Bool, true, false, refl, sym}
use Rattle.gsmp_wire.specs.declared.request.Request.TheVariants.{MoveBranch}
use Rattle.port_model.specs.Setup.{home_of}
use Rattle.port_actions.specs.Outlook.{deletes, stands}
use Rattle.port_actions.proofs.Told.{led_back, not_led}
use Rattle.port_actions.proofs.outlook.Outlook.take_back.Goals as goal
use Rattle.port_actions.proofs.outlook.Outlook.take_back.Goals.{then-on_input-via-then-on_input, then-on_input-via-else-on_input+then-all_on}

either : (a b : Bool) → a ≡ true → (a || b) ≡ true
either a b h = rw h refl

other : (a b : Bool) → a ≡ false → b ≡ true → (a || b) ≡ true
other a b h k = rw (h, k) refl

pub returns-then-on_input-clause-tells : goal.returns-then-on_input-clause-tells
returns-then-on_input-clause-tells c = λ later output told.
    let there : (stands c.args.self.now c.args.desk.now c.args.input || deletes c.args.self.now c.args.desk.now c.args.input.port) ≡ true =
    elim c.then-on_input.branch [
      | then-on_input-via-then-on_input w ↦ either _ _ (sym c.on_input.ensures ∙ w.if-on_input.true)
      | then-on_input-via-else-on_input+then-all_on w ↦ other _ _ (sym c.on_input.ensures ∙ w.if-on_input.false) (sym w.all_on.ensures ∙ w.if-all_on.true)
    ] in
    led_back c.args.self.now.many (stands c.args.self.now c.args.desk.now) (deletes c.args.self.now c.args.desk.now) later c.args.input output (home_of c.args.input) there told

pub returns-clause-tells : goal.returns-clause-tells
returns-clause-tells c = λ later output told.
    rw (not_led c.args.self.now.many (stands c.args.self.now c.args.desk.now) (deletes c.args.self.now c.args.desk.now) later c.args.input (home_of c.args.input) (sym c.on_input.ensures ∙ c.if-on_input.false) (sym c.all_on.ensures ∙ c.if-all_on.false) told)
    (c.ask.ensures.tells later (MoveBranch c.args.input output (home_of c.args.input)) refl told)
