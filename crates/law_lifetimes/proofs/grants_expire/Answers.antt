-- the laws are proved over definitions alone

use Rattle.law_lifetimes.proofs.Ending.{is_set, is_ended_by_reset, is_set_alone, ends_by_lifetime}
use Rattle.law_lifetimes.proofs.Silence.{sends_no_more}
use Rattle.law_lifetimes.proofs.LedBack.{is_led_back}
use Rattle.law_lifetimes.proofs.Runs.{is_set_in_runs, ends_in_runs, sends_no_more_in_runs, is_led_back_in_runs, is_ended_by_reset_in_runs}
use Rattle.law_lifetimes.proofs.grants_expire.Goals as goal

pub returns : goal.returns
returns c = record {
  set = is_set;
  alone = is_set_alone;
  ends = ends_by_lifetime;
  silent = sends_no_more;
  led_back = is_led_back;
  reset = is_ended_by_reset;
  runs_set = is_set_in_runs;
  runs_end = ends_in_runs;
  runs_silent = sends_no_more_in_runs;
  runs_led_back = is_led_back_in_runs;
  runs_reset = is_ended_by_reset_in_runs;
}
