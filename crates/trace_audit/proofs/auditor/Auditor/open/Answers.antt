use Rattle.std.proofs.Common.{None, false, arith}
use Rattle.std.specs.Map.{lookup}
use Rattle.link_model.specs.Ledger.{same_mark}
use Rattle.trace_model.specs.Ends.{same_end, same_label}
use Rattle.trace_audit.proofs.auditor.Auditor.open.Goals as goal

pub returns : goal.returns
returns c = record {
  known_is = λ i. record {
    peer = λ at. lookup (same_end at) (c.new-2.ensures.empty i);
    queue = λ at. c.new-3.ensures at i;
    flow = λ at. lookup (same_label at) (c.new-4.ensures.empty i);
    payload = λ of. lookup (same_mark of) (c.new-5.ensures.empty i);
    first = λ of. lookup (same_mark of) (c.new-6.ensures.empty i);
    taken = None;
    begun = false;
    ended = false;
    links = (c.new.ensures.counts i).links;
    puts = (c.new.ensures.counts i).puts;
    binds = (c.new.ensures.counts i).binds;
  };
  octets_are = c.new.ensures.octets;
  served = λ at. omega arith;
}
