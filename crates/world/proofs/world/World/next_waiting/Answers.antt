use Rattle.std.proofs.Common.{rules, ◌≡◌, ◌∙◌, ℕ, ◌+◌, ap, length, max, refl, slice_index_or, subst, sym, arith}
use Rattle.std.specs.Prelude.{◌<◌}
use Rattle.world.specs.declared.world.World.{World as Network}
use Rattle.world.specs.Network.{world_of}
use Rattle.world.specs.NodeSet.{HasNoneIn}
use Rattle.world.specs.Running.{Runs}
use Rattle.world.specs.Waiting.{IsEmptyIn}
use Rattle.world.proofs.Searching.{IsSearching, searched, unmarked}
use Rattle.world.proofs.Starts.{ArePassed, all_passed, found_there, none_left, passed_first, starts_within}
use Rattle.world.proofs.world.World.next_waiting.Goals as goal
use Rattle.world.proofs.world.World.next_waiting.Goals.{then-from-start, else-from-start}

pub loop-node-init : goal.loop-node-init
loop-node-init g c =
    let runs = c.requires.1.1 in
    record {
      same = λ notes. refl;
      runs = runs;
      size = search rules;
      passed = subst (ArePassed g.C.NodeController.seen c.args.self.now c.args.from) (sym c.node_place-node.ensures)
          (passed_first g.C.NodeController.seen c.args.self.now runs.starts runs.marked c.args.from c.place.result c.place.ensures);
    }

pub returns-in-None-clause-next : goal.returns-in-None-clause-next
returns-in-None-clause-next g c =
    let n = c.loop-node.self in
    let none : HasNoneIn n.waiting c.loop-node.node (length n.sites.items) = subst (HasNoneIn n.waiting c.loop-node.node) c.loop-node.invariant.size c.in-None.ensures in
    none_left g.C.NodeController.seen n c.loop-node.invariant.runs.starts c.loop-node.invariant.runs.marked c.args.from c.loop-node.node c.loop-node.invariant.passed none

pub returns-in-Some-first_holding-clause-next : goal.returns-in-Some-first_holding-clause-next
returns-in-Some-first_holding-clause-next g c =
    let n = c.loop-node.self in
    let next : ℕ = c.in-Some.marked in
    let none : HasNoneIn n.waiting c.loop-node.node next = c.in-Some.ensures.3 in
    let within : next < length n.sites.items = omega (arith, c.in-Some.ensures.1, c.loop-node.invariant.size) in
    let place : ℕ = c.in-Some-first_holding.place in
    let low : c.max.result ≡ max c.args.from (slice_index_or n.starts next 0) = c.max.ensures in
    let empty : IsEmptyIn g.C.NodeController.seen n (max c.args.from (slice_index_or n.starts next 0)) place = subst (λ (k : ℕ). IsEmptyIn g.C.NodeController.seen n k place) low c.in-Some-first_holding.ensures.3 in (
      omega (arith, c.in-Some-first_holding.ensures.0, low),
      omega (arith, c.in-Some-first_holding.ensures.1, starts_within g.C.NodeController.seen n c.loop-node.invariant.runs.starts c.loop-node.invariant.runs.marked c.args.from c.loop-node.node next c.loop-node.invariant.passed none within),
      c.in-Some-first_holding.ensures.2,
      found_there g.C.NodeController.seen n c.loop-node.invariant.runs.starts c.loop-node.invariant.runs.marked c.args.from c.loop-node.node next c.loop-node.invariant.passed none within place empty,
    )

pub loop-node-preserved : goal.loop-node-preserved
loop-node-preserved g c =
    let seen = g.C.NodeController.seen in
    let n = c.loop-node.self in
    let next : ℕ = c.in-Some.marked in
    let none : HasNoneIn n.waiting c.loop-node.node next = c.in-Some.ensures.3 in
    let within : next < length n.sites.items = omega (arith, c.in-Some.ensures.1, c.loop-node.invariant.size) in
    let low : c.max.result ≡ max c.args.from (slice_index_or n.starts next 0) = c.max.ensures in
    let empty : IsEmptyIn seen n (max c.args.from (slice_index_or n.starts next 0)) (slice_index_or n.starts (next + 1) 0) =
    subst (λ (k : ℕ). IsEmptyIn seen n k (slice_index_or n.starts (next + 1) 0)) low c.in-None-first_holding.ensures in
    let h : IsSearching seen g.topology c.args.self.now n c.args.from c.loop-node.node = record { same = c.loop-node.invariant.same; runs = c.loop-node.invariant.runs; passed = c.loop-node.invariant.passed } in
    elim c.if-from-start.branch [
      | then-from-start w ↦ (let u = unmarked seen g.topology c.args.self.now n c.args.from c.loop-node.node next h none within empty w.remove.new.self w.remove.ensures w.if-from-start.true in
          record {
            same = λ notes. ap (λ (s : Network _). world_of seen s notes) w.self-is ∙ u.same notes;
            runs = subst (Runs seen g.topology) (sym w.self-is) u.runs;
            size = c.loop-node.invariant.size ∙ ap (λ (s : Network _). length s.sites.items) (sym w.self-is);
            passed = subst (λ (s : Network _). ArePassed seen s c.args.from (next + 1)) (sym w.self-is) u.passed;
          })
      | else-from-start w ↦ (let u = searched seen g.topology c.args.self.now n c.args.from c.loop-node.node next h none within empty in
          record {
            same = λ notes. ap (λ (s : Network _). world_of seen s notes) w.self-is ∙ u.same notes;
            runs = subst (Runs seen g.topology) (sym w.self-is) u.runs;
            size = c.loop-node.invariant.size ∙ ap (λ (s : Network _). length s.sites.items) (sym w.self-is);
            passed = subst (λ (s : Network _). ArePassed seen s c.args.from (next + 1)) (sym w.self-is) u.passed;
          })
    ]

pub returns-clause-next : goal.returns-clause-next
returns-clause-next g c =
    let n = c.loop-node.self in
    all_passed g.C.NodeController.seen n c.loop-node.invariant.runs.starts c.loop-node.invariant.runs.marked c.args.from
    (λ i place low e less. c.loop-node.invariant.passed i place low e (omega (arith, less, c.loop-node.invariant.size, c.loop-node-test.false)))
