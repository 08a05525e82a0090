use Rattle.std.proofs.Common.{arith}
use Rattle.script_words.proofs.Payloads.{too_long, fits}
use Rattle.script_words.proofs.forms.read_payload_digits.Goals as goal

pub returns-then-word-gt-GREATEST_PAYLOAD-clause-octets : goal.returns-then-word-gt-GREATEST_PAYLOAD-clause-octets
returns-then-word-gt-GREATEST_PAYLOAD-clause-octets c = too_long c.args.word.now (cc) (omega (arith, c.if-word-gt-GREATEST_PAYLOAD.true))

pub returns-else-word-gt-GREATEST_PAYLOAD-clause-octets : goal.returns-else-word-gt-GREATEST_PAYLOAD-clause-octets
returns-else-word-gt-GREATEST_PAYLOAD-clause-octets c = fits c.args.word.now (cc) (omega (arith, c.if-word-gt-GREATEST_PAYLOAD.false))
