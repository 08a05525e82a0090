use Rattle.std.proofs.Common.{◌≡◌, ◌∙◌, ap, inr, sym, subst}
use Rattle.link_model.specs.Notes.{Journal}
use Rattle.world_model.specs.Run.{put_away}
use Rattle.world_model.specs.Topology.{Topology}
use Rattle.world_model.specs.World.{World}
use Rattle.world.specs.Counted.{reading_of}
use Rattle.world.specs.Network.{world_of}
use Rattle.lab_io.specs.Report.{IsPut}
use Rattle.telling_model.specs.Placed.{placed}
use Rattle.lab_io.specs.Puts.{Puts}
use Rattle.lab_io.proofs.Stops.{none_of, passes_on, stays}
use Rattle.network_run.proofs.Telling.{came_to, next_is, none_ok, on_err}
use Rattle.network_run.proofs.engine.step.Goals as goal

pub after-requires-clause-came : goal.after-requires-clause-came
after-requires-clause-came g c =
    let w : World = world_of g.C.NodeController.seen c.args.world.now c.args.notes.now in
    let named : c.args.context.now.names.now ≡ g.topology = c.requires.1.1.1.1.0 in
    record {
      known = g.T.Teller.state c.args.told.now.teller;
      before = w;
      awaited = subst (λ (t : Topology). g.T.Teller.awaits c.before-2.new.self (g.T.Teller.state c.args.told.now.teller) t w c.args.event.now) (sym named)
          (c.before-2.ensures.awaits g.topology c.requires.1.1.1.1.1.0.runs c.requires.1.1.1.1.1.1);
      came = came_to g.topology c.args.context.now.names.now w (world_of g.C.NodeController.seen c.step.new.self c.step.new.notes) c.args.event.now named c.requires.1.1.1.1.1.0.empty c.in_ok-step.ensures.world;
    }

pub returns-in_err-after-clause-told : goal.returns-in_err-after-clause-told
returns-in_err-after-clause-told g c =
    let w : World = world_of g.C.NodeController.seen c.args.world.now c.args.notes.now in
    let named : c.args.context.now.names.now ≡ g.topology = c.requires.1.1.1.1.0 in
    let known = g.T.Teller.state c.args.told.now.teller in
    let awaited : g.T.Teller.awaits c.before-2.new.self known c.args.context.now.names.now w c.args.event.now =
    subst (λ (t : Topology). g.T.Teller.awaits c.before-2.new.self known t w c.args.event.now) (sym named) (c.before-2.ensures.awaits g.topology c.requires.1.1.1.1.1.0.runs c.requires.1.1.1.1.1.1) in
    let came = came_to g.topology c.args.context.now.names.now w (world_of g.C.NodeController.seen c.step.new.self c.step.new.notes) c.args.event.now named c.requires.1.1.1.1.1.0.empty c.in_ok-step.ensures.world in
    record {
      put = subst (λ (t : Topology). Puts c.from_residual-in_err-after.result c.args.told.now.writer c.after.new.writer (g.K.Sink.written c.args.sink.now) (g.K.Sink.written c.after.new.sink) (g.T.Teller.tale.tells known t w (placed c.args.context.now.line c.args.event.now)).octets) named
          (passes_on c.from_residual-in_err-after.result _ _ _ _ _ _ c.from_residual-in_err-after.ensures.1 (c.in_err-after.ensures.put known w awaited came));
      knows = none_ok c.from_residual-in_err-after.result _ _ c.from_residual-in_err-after.ensures.1;
      room = c.in_err-after.ensures.room;
    }

pub returns-clause-world : goal.returns-clause-world
returns-clause-world g c =
    let w : World = world_of g.C.NodeController.seen c.args.world.now c.args.notes.now in
    ap (λ (notes : Journal). world_of g.C.NodeController.seen c.step.new.self notes) c.clear.ensures
    ∙ ap put_away (c.in_ok-step.ensures.world ∙ sym (next_is g.topology w c.args.event.now c.requires.1.1.1.1.1.0.empty))

pub returns-clause-ready : goal.returns-clause-ready
returns-clause-ready g c = record { empty = ap (λ (notes : Journal). notes.records) c.clear.ensures; runs = c.in_ok-step.ensures.runs }

pub returns-clause-told : goal.returns-clause-told
returns-clause-told g c =
    let w : World = world_of g.C.NodeController.seen c.args.world.now c.args.notes.now in
    let named : c.args.context.now.names.now ≡ g.topology = c.requires.1.1.1.1.0 in
    let known = g.T.Teller.state c.args.told.now.teller in
    let awaited : g.T.Teller.awaits c.before-2.new.self known c.args.context.now.names.now w c.args.event.now =
    subst (λ (t : Topology). g.T.Teller.awaits c.before-2.new.self known t w c.args.event.now) (sym named) (c.before-2.ensures.awaits g.topology c.requires.1.1.1.1.1.0.runs c.requires.1.1.1.1.1.1) in
    let came = came_to g.topology c.args.context.now.names.now w (world_of g.C.NodeController.seen c.step.new.self c.step.new.notes) c.args.event.now named c.requires.1.1.1.1.1.0.empty c.in_ok-step.ensures.world in
    record {
      put = subst (λ (t : Topology). IsPut c.args.told.now.writer c.after.new.writer (g.K.Sink.written c.args.sink.now) (g.K.Sink.written c.after.new.sink) (g.T.Teller.tale.tells known t w (placed c.args.context.now.line c.args.event.now)).octets) named
          (c.in_ok-after.ensures.put known w awaited came);
      knows = c.in_ok-after.ensures.state known w awaited came ∙ ap (λ (t : Topology). (g.T.Teller.tale.tells known t w (placed c.args.context.now.line c.args.event.now)).state) named;
      room = c.in_ok-after.ensures.room;
    }

pub returns-clause-meter : goal.returns-clause-meter
returns-clause-meter g c =
    let w : World = world_of g.C.NodeController.seen c.args.world.now c.args.notes.now in
    c.in_ok-step.ensures.meter ∙ ap reading_of (c.in_ok-step.ensures.world ∙ sym (next_is g.topology w c.args.event.now c.requires.1.1.1.1.1.0.empty))

pub returns-in_err-step-clause-told : goal.returns-in_err-step-clause-told
returns-in_err-step-clause-told g c = record {
  put = passes_on c.from_residual.result _ _ _ _ _ _ c.from_residual.ensures.1 (none_of _ _ _);
  knows = none_ok c.from_residual.result _ _ c.from_residual.ensures.1;
  room = stays _;
}

pub returns-in_err-after-clause-kept : goal.returns-in_err-after-clause-kept
returns-in_err-after-clause-kept g c =
    let w : World = world_of g.C.NodeController.seen c.args.world.now c.args.notes.now in
    on_err c.from_residual-in_err-after.result (inr (c.in_ok-step.ensures.meter ∙ ap reading_of (c.in_ok-step.ensures.world ∙ sym (next_is g.topology w c.args.event.now c.requires.1.1.1.1.1.0.empty))))
