use Rattle.law_label_steps.proofs.Counting.{counts_follow}
use Rattle.law_label_steps.proofs.counting_leads_lines.Goals as goal

pub returns : goal.returns
returns g c = λ role link queued setup desk w packet ascend. counts_follow link _ queued setup desk role w packet ascend
