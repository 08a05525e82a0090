use Rattle.law_input_views.specs.Reaching.{Anything}
use Rattle.law_input_views.proofs.Follow.{reached_on, drawn}
use Rattle.law_input_views.proofs.Quiet.{quiet_input}
use Rattle.law_input_views.proofs.inputs_lead_lines.Goals as goal

pub returns : goal.returns
returns c = record {
  reached = λ node input v w old new m n r f. reached_on node input v w old new m n Anything Anything r (λ line s p. f line s);
  quiet = λ node input before after old new m n line q s. quiet_input node input before after old new m n line q s;
  draws = drawn;
}
