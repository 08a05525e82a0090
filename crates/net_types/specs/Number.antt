-- The numbers that a run gives out: instances of adjacencies, and marks of control frames

use Rattle.std.specs.Prelude.{ℕ, ◌+◌, ◌<◌, ◌≤◌, ◌^◌}
use Rattle.net_types.specs.declared.number.Instance.{Instance}
use Rattle.net_types.specs.declared.number.Mark.{Mark}

-- how many of each a run has given out
pub record GivenOut : Type 0 where
  pub instances : ℕ
  pub controls : ℕ

-- the next instance of a run, and the numbers after it is given out
abbrev pub next_instance : GivenOut → Instance
next_instance numbers = record { 0 = numbers.instances + 1 }

abbrev pub with_instance : GivenOut → GivenOut
with_instance numbers = record numbers { instances = numbers.instances + 1 }

-- the mark of its next control frame, and the numbers after it is given out
abbrev pub next_control : GivenOut → Mark
next_control numbers = record { packet = 0; frame = numbers.controls + 1 }

abbrev pub with_control : GivenOut → GivenOut
with_control numbers = record numbers { controls = numbers.controls + 1 }

-- what a call of a controller or a switch may need: 20 instances and 1,000,000 control marks are left
pub record HasNumbersLeft (numbers : GivenOut) : Type 0 where
  pub instances : numbers.instances + 20 < 2 ^ 32
  pub controls : numbers.controls + 1000000 < 2 ^ 64

-- and what it draws at most
pub record AreDrawn (old new : GivenOut) : Type 0 where
  pub instances : (old.instances ≤ new.instances) × (new.instances ≤ old.instances + 20)
  pub controls : (old.controls ≤ new.controls) × (new.controls ≤ old.controls + 1000000)
