use Rattle.std.proofs.Common.{◌≡◌, ◌++◌, ◌∙◌, ℕ, suc, ◌+◌, ◌-◌, List, ap, subst, arith, flat_map}
use Rattle.std.specs.Prelude.{drop}
use Rattle.net_types.specs.declared.node.PortNo.{PortNo}
use Rattle.world_model.specs.World.{World}
use Rattle.world.specs.Network.{no_notes, world_of}
use Rattle.telling_model.specs.declared.standing.Standing.{Standing}
use Rattle.tell_passing.specs.Lengths.{behind_at, link_ports}
use Rattle.tell_passing.proofs.Behind.{port_more, ports_end}
use Rattle.tell_passing.proofs.lengths.put_ports.Goals as goal

pub loop-number-preserved : goal.loop-number-preserved
loop-number-preserved g c topology runs =
    let w0 : World = world_of g.C.NodeController.seen c.args.world.now no_notes in
    let each : PortNo → List Standing = behind_at topology w0 c.args.node c.args.left.now in
    let old : List Standing = c.loop-number.out.items in
    let out : List Standing = c.put_port.new.out.items in
    let start : List Standing = c.args.out.now.items in
    let number : ℕ = c.loop-number.number in
    let k : ℕ = number - 1 in
    let up : number ≡ suc k = omega (arith, c.loop-number.auto.number) in
    let is : out ≡ old ++ each (record { 0 = suc k }) = c.in_ok-put_port.ensures topology runs ∙ ap (λ (m : ℕ). old ++ each (record { 0 = m })) up in
    let to : suc k ≡ number + 1 - 1 = omega (arith, up) in
    subst (λ (m : ℕ). out ++ flat_map each (drop m link_ports) ≡ start ++ flat_map each link_ports) to
    (port_more each old out start k (omega (arith, up, c.loop-number-test.true)) (c.loop-number.invariant topology runs) is)

pub returns : goal.returns
returns g c topology runs =
    ports_end (behind_at topology (world_of g.C.NodeController.seen c.args.world.now no_notes) c.args.node c.args.left.now) c.loop-number.out.items c.args.out.now.items (c.loop-number.number - 1)
    (omega (arith, c.loop-number-test.false, c.loop-number.auto.number)) (c.loop-number.invariant topology runs)
