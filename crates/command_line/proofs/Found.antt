-- what is read of a subcommand that `clap` found

use Rattle.std.proofs.Common.{◌≡◌, List, Option, Some, None, ap₂}
use Rattle.std.specs.Prelude.{Box}
use Rattle.std.specs.Box.{box_value}
use Rattle.std.specs.Option.{option_map}
use Rattle.clap.specs.Matches.{found_of}
use Rattle.clap.specs.Walk.{Row, Text, rows_of}
use Rattle.clap.specs.Simple.{subcommand_rows}
use Rattle.clap.specs.declared.parser.matches.ArgMatches.TheViews.{out-SubCommand}
use Rattle.clap.specs.declared.parser.matches.SubCommand.{SubCommand}

pub found_is : {Z : Type 0} (found : Option (Box SubCommand Z)) (name : Text) (rows : List Row)
    → Some name ≡ option_map (λ b. (out-SubCommand (box_value b)).name.now) found
    → Some rows ≡ option_map (λ p. p.1) (subcommand_rows found) → subcommand_rows found ≡ Some (name, rows)
found_is None name rows named rowed = absurd (cc)
found_is (Some b) name rows named rowed =
    let sub = out-SubCommand (box_value b) in
    let name_is : sub.name.now ≡ name = cc in
    let rows_are : rows_of (found_of sub.matches) ≡ rows = cc in
    ap₂ (λ (n : Text) (r : List Row). Some (n, r)) name_is rows_are
