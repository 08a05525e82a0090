-- the laws that are called, put together

use Rattle.law_trace_truth.specs.script_model.Script.{script_of}
use Rattle.law_trace_reading.proofs.Scripts.{scripts_once, names_by_place}
use Rattle.law_trace_reading.proofs.law.scripts_have_good_traces.Goals as goal

pub returns : goal.returns
returns c policy octets tame =
    let run = c.scripts_are_runs.ensures.scripts octets in
    c.traces_are_good.ensures policy (script_of octets).topology (script_of octets).events (run.run policy) run.addresses
    (names_by_place (script_of octets).topology (c.lines_are_true.ensures.scripts octets)) (scripts_once octets) tame
