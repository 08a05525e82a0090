-- How a task ends, by whether something in its input is refused; and its status by how it ends

use Rattle.std.proofs.Common.{◌≡◌, ◌∙◌, ◌⊎◌, ◌==◌, ◌||◌, ℕ, Bool, true, false, true≢false, List, inl, inr, refl, sym, ap, arith}
use Rattle.lab_io.specs.Fault.{Rose}
use Rattle.line_by_line.specs.declared.task.Ending.{Ending}
use Rattle.line_by_line.specs.declared.task.Ending.TheVariants.{Done, Refused, Denied}
use Rattle.commands.specs.declared.fault.RunFault.{RunFault}
use Rattle.commands.specs.declared.fault.RunFault.TheVariants.{Read, Write, OutOfMemory}
use Rattle.commands.specs.declared.task.Task.{Task}
use Rattle.commands.specs.Ending.{ending_by, task_ending, ending_status, status_of}
use Rattle.commands.specs.Fault.{fault_status}
use Rattle.commands.specs.Run.{EndsBy}

-- what is done with or without a refusal is done by that ending
pub ends_by : (IsDoneBy : Bool → Type 0) (refused : Bool) → IsDoneBy refused → EndsBy IsDoneBy (ending_by refused)
ends_by IsDoneBy true done = done
ends_by IsDoneBy false done = done

-- no two endings have the same status
pub one_status : (ending other : Ending) → ending_status ending ≡ ending_status other → ending ≡ other
one_status Done Done e = refl
one_status Refused Refused e = refl
one_status Denied Denied e = refl
one_status Done Refused e = absurd (cc)
one_status Done Denied e = absurd (cc)
one_status Refused Done e = absurd (cc)
one_status Refused Denied e = absurd (cc)
one_status Denied Done e = absurd (cc)
one_status Denied Refused e = absurd (cc)

-- and all other numbers are the status of none
abbrev is_status : ℕ → Bool
is_status status = status == 0 || (status == 2 || status == 6)

has_status : (ending : Ending) → is_status (ending_status ending) ≡ true
has_status Done = refl
has_status Refused = refl
has_status Denied = refl

pub no_status : (status : ℕ) (ending : Ending) → is_status status ≡ false → status ≡ ending_status ending → ⊥
no_status status ending other e = true≢false (sym (has_status ending) ∙ (ap is_status (sym e) ∙ other))

pub fault_status_is_none : (fault : RunFault) → is_status (fault_status fault) ≡ false
fault_status_is_none Read = refl
fault_status_is_none Write = refl
fault_status_is_none (OutOfMemory error) = refl

-- *A status that is an ending's, want of memory aside*, is that of the ending which the input has
pub status_tells : (task : Task) (input : List ℕ) (ending : Ending) (status : ℕ) → status ≡ ending_status ending
    → (status ≡ status_of task input) ⊎ (status ≡ 5) → task_ending task input ≡ ending
status_tells task input ending status is (inl e) = one_status (task_ending task input) ending (sym e ∙ is)
status_tells task input ending status is (inr want) = absurd (no_status 5 ending refl (sym want ∙ is))

pub ending_tells : (task : Task) (input : List ℕ) (ending : Ending) (status : ℕ) → task_ending task input ≡ ending
    → (status ≡ status_of task input) ⊎ (status ≡ 5) → (status ≡ ending_status ending) ⊎ (status ≡ 5)
ending_tells task input ending status is (inl e) = inl (e ∙ ap ending_status is)
ending_tells task input ending status is (inr want) = inr want

-- a count that stays 0 hasn't risen
pub no_rise : Rose 0 0 → ⊥
no_rise rose = omega (arith, rose)
