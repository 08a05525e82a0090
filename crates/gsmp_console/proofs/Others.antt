-- Another number of words than a line has

use Rattle.std.proofs.Common.{◌≡◌, ℕ, false, ◌==◌, List, [], ◌∷◌, length, refl}
use Rattle.std.specs.Prelude.{Err}
use Rattle.console_model.specs.declared.fault.ConsoleFault.TheVariants.{Arity}
use Rattle.console_model.specs.declared.event.ConsoleEvent.{ConsoleEvent}
use Rattle.console_model.specs.declared.event.Side.{Side}
use Rattle.net_types.specs.declared.channel.End.{End}
use Rattle.console_model.specs.Lines.{ports_says, add_says, move_says, input_says, clear_says, side_says, run_says}

pub ports_others : (words : List (List ℕ)) → (1 == length words) ≡ false → ports_says words ≡ Err Arity
ports_others [] other = refl
ports_others (a ∷ []) other = absurd cc
ports_others (a ∷ b ∷ words) other = refl

pub clear_others : (words : List (List ℕ)) → (1 == length words) ≡ false → clear_says words ≡ Err Arity
clear_others [] other = refl
clear_others (a ∷ []) other = absurd cc
clear_others (a ∷ b ∷ words) other = refl

pub run_others : (words : List (List ℕ)) → (1 == length words) ≡ false → run_says words ≡ Err Arity
run_others [] other = refl
run_others (a ∷ []) other = absurd cc
run_others (a ∷ b ∷ words) other = refl

pub side_others : (told : Side → ConsoleEvent) (words : List (List ℕ)) → (1 == length words) ≡ false → side_says told words ≡ Err Arity
side_others told [] other = refl
side_others told (a ∷ []) other = absurd cc
side_others told (a ∷ b ∷ words) other = refl

pub input_others : (told : End → ConsoleEvent) (words : List (List ℕ)) → (2 == length words) ≡ false → input_says told words ≡ Err Arity
input_others told [] other = refl
input_others told (a ∷ []) other = refl
input_others told (a ∷ b ∷ []) other = absurd cc
input_others told (a ∷ b ∷ c ∷ words) other = refl

pub add_others : (words : List (List ℕ)) → (4 == length words) ≡ false → add_says words ≡ Err Arity
add_others [] other = refl
add_others (a ∷ []) other = refl
add_others (a ∷ b ∷ []) other = refl
add_others (a ∷ b ∷ c ∷ []) other = refl
add_others (a ∷ b ∷ c ∷ d ∷ []) other = absurd cc
add_others (a ∷ b ∷ c ∷ d ∷ e ∷ words) other = refl

pub move_others : (words : List (List ℕ)) → (6 == length words) ≡ false → move_says words ≡ Err Arity
move_others [] other = refl
move_others (a ∷ []) other = refl
move_others (a ∷ b ∷ []) other = refl
move_others (a ∷ b ∷ c ∷ []) other = refl
move_others (a ∷ b ∷ c ∷ d ∷ []) other = refl
move_others (a ∷ b ∷ c ∷ d ∷ e ∷ []) other = refl
move_others (a ∷ b ∷ c ∷ d ∷ e ∷ f ∷ []) other = absurd cc
move_others (a ∷ b ∷ c ∷ d ∷ e ∷ f ∷ g ∷ words) other = refl
