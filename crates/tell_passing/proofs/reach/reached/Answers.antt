use Rattle.std.proofs.Common.{◌≡◌, ◌∙◌, true, ap, sym, is_some, Some}
use Rattle.world_model.specs.World.{World}
use Rattle.world.specs.Network.{no_notes, world_of}
use Rattle.telling_model.specs.Passing.{cell_taken, taken_from}
use Rattle.law_passing.specs.Reached.{reached}
use Rattle.tell_passing.proofs.Coming.{carried_led, carried_queue}
use Rattle.tell_passing.proofs.reach.reached.Goals as goal

pub led_to-requires : goal.led_to-requires
led_to-requires g c = record { queue = carried_queue g.C.NodeController.seen c.args.world.now c.args.event.now c.in-Carry.place c.in-Carry.is c.requires.coming }

pub returns-then-takes-clause-reached : goal.returns-then-takes-clause-reached
returns-then-takes-clause-reached g c topology runs =
    let w0 : World = world_of g.C.NodeController.seen c.args.world.now no_notes in
    let some : is_some (taken_from w0 (Some c.in-Carry.place)) ≡ true = ap (λ event. is_some (cell_taken w0 event)) (sym c.in-Carry.is) ∙ sym c.requires.takes ∙ c.if-takes.true in
    c.led_to.ensures.led topology runs ∙ sym (carried_led topology w0 c.in-Carry.place some) ∙ ap (reached topology w0) (sym c.in-Carry.is)

pub returns-then-takes-clause-actor : goal.returns-then-takes-clause-actor
returns-then-takes-clause-actor g c = c.led_to.ensures.actor
