-- the numbers that a run gives out never fall by what a controller does

use Rattle.std.proofs.Common.{◌≡◌, ℕ, ◌≤◌, ◌+◌, List, refl, arith}
use Rattle.claims_model.specs.world_model.Words.{Setup, Work, Desk, begins, resets_gsmp}
use Rattle.law_port_facts.proofs.Instances.{goes_gave, closes_gave, parted_gave, joined_gave, lent_gave, given_back_gave}
use Rattle.claims_model.specs.world_model.Controller.{Acted}
use Rattle.law_controller_facts.specs.Sound.{NeverFall}
use Rattle.law_controller_facts.proofs.Moves.{Worked, by_rule, by_closing, by_reset, by_restart, by_parting, by_joining, by_lending, by_giving_back, Move, noting, taking_notes, sending, sending_control, asking, withdrawing, answering, meeting, ending_meeting, turning, placing, clearing, gathering, chaining, routing, popping, Moves, moves_keep}

-- a port at work gives back no instance, and draws one at most
pub worked_draws : (setups : List Setup) (setup : Setup) (desk : Desk) (w v : Work) → Worked setups setup desk w v → (w.instances ≤ v.instances) × (v.instances ≤ w.instances + 1)
worked_draws setups setup desk w v (by_rule u goes) = (let same = goes_gave w.instances setup desk w u goes refl in (omega (arith, same), omega (arith, same)))
worked_draws setups setup desk w v by_closing = (let same = closes_gave w.instances w refl in (omega (arith, same), omega (arith, same)))
worked_draws setups setup desk w v by_reset = (omega arith, omega arith)
worked_draws setups setup desk w v by_restart = (omega arith, omega arith)
worked_draws setups setup desk w v (by_parting number) = (let same = parted_gave w.instances w number refl in (omega (arith, same), omega (arith, same)))
worked_draws setups setup desk w v (by_joining number output end offered) = (let same = joined_gave w.instances w number output refl in (omega (arith, same), omega (arith, same)))
worked_draws setups setup desk w v (by_lending grant input found is end) = (let same = lent_gave w.instances w grant input refl in (omega (arith, same), omega (arith, same)))
worked_draws setups setup desk w v (by_giving_back grant found) = (let same = given_back_gave w.instances w grant refl in (omega (arith, same), omega (arith, same)))

module _ (setups : List Setup) (given_instances given_controls : ℕ) where
  -- at least so many are given out
  pub record Given (a : Acted) : Type 0 where
    pub instances : given_instances ≤ a.numbers.instances
    pub controls : given_controls ≤ a.numbers.controls

  same_given : (a b : Acted) → b.numbers.instances ≡ a.numbers.instances → b.numbers.controls ≡ a.numbers.controls → Given a → Given b
  same_given a b i c h = record { instances = omega (arith, i, h.instances); controls = omega (arith, c, h.controls) }

  move_given : (a b : Acted) → Move setups a b → Given a → Given b
  move_given a b (noting x item) h = same_given x b refl refl h
  move_given a b (taking_notes x notes) h = same_given x b refl refl h
  move_given a b (sending x channel mark payload) h = same_given x b refl refl h
  move_given a b (sending_control x channel payload) h = record { instances = h.instances; controls = omega (arith, h.controls) }
  move_given a b (asking x request estab room shaped) h = same_given x b refl refl h
  move_given a b (withdrawing x input) h = same_given x b refl refl h
  move_given a b (answering x answer) h = same_given x b refl refl h
  move_given a b (meeting x) h = same_given x b refl refl h
  move_given a b (ending_meeting x estab) h = same_given x b refl refl h
  move_given a b (turning x step turn) h = same_given x b refl refl h
  move_given a b (placing x linked w found worked) h = record { instances = omega (arith, (worked_draws setups linked.setup x.controller.desk (begins x linked) w worked).0, h.instances); controls = h.controls }
  move_given a b (clearing x linked found may) h = same_given x b refl refl h
  move_given a b (gathering x r) h = same_given x b refl refl h
  move_given a b (chaining x linked after found same port) h = same_given x b refl refl h
  move_given a b (routing x table waiting is_begun changes) h = same_given x b refl refl h
  move_given a b (popping x queue) h = same_given x b refl refl h

  reset_given : (a : Acted) → Given a → Given (resets_gsmp a)
  reset_given x h = record { instances = omega (arith, h.instances); controls = h.controls }

  moves_given : (a b : Acted) → Moves setups a b → Given a → Given b
  moves_given a b moves h = moves_keep setups Given move_given reset_given moves h

-- *Numbers never fall*
pub moves_never_fall : (setups : List Setup) (a b : Acted) → Moves setups a b → NeverFall a.numbers b.numbers
moves_never_fall setups a b moves =
    let given : Given setups a.numbers.instances a.numbers.controls b = moves_given setups a.numbers.instances a.numbers.controls a b moves (record { instances = omega arith; controls = omega arith }) in
    record { instances = given.instances; controls = given.controls }
