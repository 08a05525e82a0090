use Rattle.std.proofs.lemmas.Result.{on_ok_weaker}
use Rattle.controller_gsmp.proofs.Sent.{sent_is}
use Rattle.controller_gsmp.proofs.client.Client.send.Goals as goal

pub returns-clause-acted : goal.returns-clause-acted
returns-clause-acted c =
    rw (← c.self.view_is) (λ r numbers node. on_ok_weaker c.send_frame.result (sent_is r _ c.send_frame.new.queues c.args.notes.now c.send_frame.new.notes numbers c.args.channel c.args.mark c.args.payload.now node) c.send_frame.ensures.sent)
