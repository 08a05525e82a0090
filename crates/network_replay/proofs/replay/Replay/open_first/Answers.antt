use Rattle.std.proofs.Common.{◌≡◌, true, false, Option, subst, sym}
use Rattle.std.specs.Prelude.{IsSomeAnd, is_some}
use Rattle.lab_io.specs.Report.{IsPut}
use Rattle.world.specs.declared.world.World.{World as Network}
use Rattle.lab_io.proofs.Stops.{nothing_put}
use Rattle.network_replay.specs.Along.{IsOpen}
use Rattle.network_replay.proofs.Course.{is_open, opens_first}
use Rattle.network_replay.proofs.Onward.{known_before, told_before}
use Rattle.network_replay.proofs.replay.Replay.open_first.Goals as goal

pub returns-then-is_some-clause-opened : goal.returns-then-is_some-clause-opened
returns-then-is_some-clause-opened g c = λ state events h same.
    let there : is_some c.args.self.now.world ≡ true = cc in
    is_open g.C.NodeController.seen (g.N.PolicyChoice.chosen c.args.choice.now) state c.args.self.now.notes c.args.self.now.world events there h

pub returns-then-is_some-clause-put : goal.returns-then-is_some-clause-put
returns-then-is_some-clause-put g c =
    let there : is_some c.args.self.now.world ≡ true = cc in
    subst (IsPut c.args.told.now.writer c.args.told.now.writer (g.K.Sink.written c.args.sink.now) (g.K.Sink.written c.args.sink.now))
    (sym (told_before g.T.Teller.tale (g.N.PolicyChoice.chosen c.args.choice.now) c.args.self.now.state.topology c.args.self.now.world there)) (nothing_put c.args.told.now.writer (g.K.Sink.written c.args.sink.now))

pub returns-then-is_some-clause-known : goal.returns-then-is_some-clause-known
returns-then-is_some-clause-known g c =
    let there : is_some c.args.self.now.world ≡ true = cc in
    sym (known_before g.T.Teller.tale (g.N.PolicyChoice.chosen c.args.choice.now) c.args.self.now.state.topology c.args.self.now.world (g.T.Teller.state c.args.told.now.teller) there)

pub returns-in_default-clause-opened : goal.returns-in_default-clause-opened
returns-in_default-clause-opened g c = λ state events h same.
    let none : is_some c.args.self.now.world ≡ false = cc in
    let seen = g.C.NodeController.seen in
    let choice = g.N.PolicyChoice.chosen c.args.choice.now in
    subst (λ (o : Option (Network _)). IsSomeAnd o (λ n. IsOpen seen (choice state.topology) state c.args.self.now.notes n events)) (sym c.replace.ensures.after)
    (opens_first seen choice c.in_ok-world.world state c.args.self.now.notes c.args.self.now.world events c.args.self.now.state.topology none h same c.in_ok-world.ensures.world c.in_ok-world.ensures.runs)
