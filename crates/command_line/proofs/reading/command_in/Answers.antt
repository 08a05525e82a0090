use Rattle.std.proofs.Common.{◌≡◌, ◌∙◌, codes, sym, ap}
use Rattle.std.specs.Option.{option_map}
use Rattle.clap.specs.Matches.{found_of}
use Rattle.clap.specs.Walk.{first_of, rows_of}
use Rattle.clap.specs.declared.parser.matches.ArgMatches.TheViews.{out-ArgMatches}
use Rattle.clap.proofs.WalkLemmas.{first_value-rows}
use Rattle.command_line.specs.Reading.{asked, command_in}
use Rattle.command_line.proofs.Found.{found_is}
use Rattle.command_line.proofs.reading.command_in.Goals as goal

pub returns-in-Some : goal.returns-in-Some
returns-in-Some c =
    let found = found_of c.in-Some.found.now in
    let word : option_map (λ s. s.now) c.get_str.result ≡ first_of (codes "word") (rows_of found) =
    c.get_str.ensures ∙ first_value-rows found (codes "word") in
    c.asked.ensures
    ∙ (ap (asked c.in-Some.name.now) word
    ∙ sym (ap command_in (found_is (out-ArgMatches c.args.matches.now).subcommand c.in-Some.name.now (rows_of found) c.in-Some.ensures.name c.in-Some.ensures.rows)))
