use Rattle.std.proofs.Common.{◌==◌}
use Rattle.lab_text.proofs.Searches.{found_position}
use Rattle.lab_text.proofs.lines.line_feed.Goals as goal

pub returns-clause-place : goal.returns-clause-place
returns-clause-place c = found_position (λ octet. octet == 10) c.args.octets.now c.memchr.result c.memchr.ensures
