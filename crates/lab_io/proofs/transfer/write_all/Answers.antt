use Rattle.std.proofs.Common.{◌≡◌, ◌+◌, ◌-◌, ◌==◌, ◌∙◌, ℕ, List, false, Ok, length, take, drop, Option, arith, length-drop, length-take-le}
use Rattle.std.specs.Io.KnownBytes.{Appends}
use Rattle.std.proofs.KnownBytes.{Appends-trans}
use Rattle.std.proofs.Math.Seq.{take-add}
use Rattle.std.proofs.lemmas.Bool.Decides.{nat_tests}
use Rattle.std.proofs.lemmas.List.{take_rest}
use Rattle.lab_io.specs.Fault.{count_after, write_failed}
use Rattle.lab_io.specs.declared.edge.Failed.{Failed}
use Rattle.lab_io.proofs.transfer.write_all.Goals as goal

-- a front of some octets and then a front of the others is a front of them all
front_more : (old middle new : Option (List ℕ)) (octets : List ℕ) (done count : ℕ)
    → Appends old middle (take done octets)
    → Appends middle new (take count (take (length octets - done) (drop done octets)))
    → Appends old new (take (done + count) octets)
front_more old middle new octets done count first second =
    rw take-add (Appends-trans old middle new _ _ first (rw take_rest at second))

-- a write that took some octets keeps the count of faults
kept : (before now taken : ℕ) (octets : List ℕ) → (taken ≡ 0 → ⊥)
    → now ≡ count_after (write_failed {E = Failed} (Ok taken) octets) before → now ≡ before
kept before now taken octets some after =
    let taken_some : (taken == 0) ≡ false = grind (arith, nat_tests) in
    rw taken_some at after

pub loop-done-preserved : goal.loop-done-preserved
loop-done-preserved g c =
    record {
      faults = kept _ _ _ _ c.if-count-eq0.false c.in_ok-count.ensures.faults ∙ c.loop-done.invariant.faults;
      within = omega (arith, c.in_ok-count.ensures.bound, length-drop {A = ℕ}, length-take-le {A = ℕ});
      front = front_more _ _ _ _ _ _ c.loop-done.invariant.front c.in_ok-count.ensures.octets;
    }
