use Rattle.world_model.specs.network_model.declared.event.Event.TheVariants.{Carry}
use Rattle.std.proofs.Common.{◌+◌}
use Rattle.telling_model.specs.Placed.{placed}
use Rattle.network_run.proofs.Empty.{made_none, next_empty, put_none, taken_none}
use Rattle.tell_journal.specs.Journal.{event_line}
use Rattle.tell_journal.proofs.teller.JournalTellerTeller.passes_over_empty_queues.Goals as goal

pub returns : goal.returns
returns g c = λ known t w line place e.
    (λ i. record {
      octets = event_line t (w.events + 1) (placed line (Carry place)) (record {
        taken = taken_none w place e i;
        frames = made_none t w place e i;
        put = put_none t w place e i;
        records = (next_empty t w place e i).notes.records;
      });
      state = known;
    })
