use Rattle.std.proofs.Common.{◌∙◌, sym}
use Rattle.lab_io.proofs.Feeds.{feed-missing_behind, line-found_behind, line-open, line-whole}
use Rattle.lab_io.proofs.line_reader.LineReader.line_len.Goals as goal

pub returns-in-Some-clause-line : goal.returns-in-Some-clause-line
returns-in-Some-clause-line c =
    line-found_behind c.args.self.now.held c.args.searched c.in-Some.place _ c.requires.within c.requires.no_feed
    (rw c.held-held.ensures at c.in-Some.ensures.place) (rw c.held-held.ensures at c.in-Some.ensures.within)

pub returns-in-None-clause-line : goal.returns-in-None-clause-line
returns-in-None-clause-line c =
    let missing = feed-missing_behind c.args.self.now.held c.args.searched c.requires.within c.requires.no_feed (rw c.held-held.ensures at c.in-None.ensures.place) in
    rw c.held-held.ensures (line-whole c.args.self.now.held _ missing (sym c.is_all.ensures ∙ c.if-is_all.true))

pub returns-in-None-2-clause-line : goal.returns-in-None-2-clause-line
returns-in-None-2-clause-line c =
    let missing = feed-missing_behind c.args.self.now.held c.args.searched c.requires.within c.requires.no_feed (rw c.held-held.ensures at c.in-None.ensures.place) in
    line-open c.args.self.now.held _ missing (sym c.is_all.ensures ∙ c.if-is_all.false)
