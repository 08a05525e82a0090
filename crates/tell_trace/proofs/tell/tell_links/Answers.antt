use Rattle.std.proofs.Common.{◌∙◌, drop, refl, suc, subst, take}
use Rattle.lab_io.specs.Report.{IsPut}
use Rattle.lab_io.specs.Puts.{Puts}
use Rattle.lab_io.proofs.Stops.{nothing_put, put_then, stays, stays_then, stops_at}
use Rattle.world_model.specs.Topology.{Link}
use Rattle.tell_trace.specs.Passages.{passage_line}
use Rattle.tell_trace.proofs.Told.{link_told, links_lines, next_link, rest_links}
use Rattle.tell_trace.proofs.tell.tell_links.Goals as goal

pub returns-in_err-tell_link-clause-put : goal.returns-in_err-tell_link-clause-put
returns-in_err-tell_link-clause-put g c =
    let t = c.args.names.now in
    let i = c.loop-place.place in
    let link : Link = record { first = c.link_at.result.0; second = c.link_at.result.1 } in
    subst (Puts c.from_residual.result c.args.writer.now c.tell_link.new.writer (g.K.Sink.written c.args.sink.now) (g.K.Sink.written c.tell_link.new.sink))
    (rest_links t t.links i link c.link_at.ensures)
    (stops_at c.from_residual.result _ c.args.writer.now c.loop-place.writer c.tell_link.new.writer (g.K.Sink.written c.args.sink.now) (g.K.Sink.written c.loop-place.sink) (g.K.Sink.written c.tell_link.new.sink)
    (links_lines t (take i t.links)) (passage_line t (link_told link)) (links_lines t (drop (suc i) t.links)) c.from_residual.ensures.1 c.loop-place.invariant.put c.in_err-tell_link.ensures.put)

pub returns-in_err-tell_link-clause-room : goal.returns-in_err-tell_link-clause-room
returns-in_err-tell_link-clause-room g c = stays_then _ _ _ c.loop-place.invariant.room c.in_err-tell_link.ensures.room

pub loop-place-init : goal.loop-place-init
loop-place-init g c = record { put = nothing_put _ _; room = stays _; faults = refl }

pub loop-place-preserved : goal.loop-place-preserved
loop-place-preserved g c =
    let t = c.args.names.now in
    let i = c.loop-place.place in
    let link : Link = record { first = c.link_at.result.0; second = c.link_at.result.1 } in
    record {
      put = subst (IsPut c.args.writer.now c.tell_link.new.writer (g.K.Sink.written c.args.sink.now) (g.K.Sink.written c.tell_link.new.sink))
          (next_link t t.links i link c.link_at.ensures)
          (put_then c.args.writer.now c.loop-place.writer c.tell_link.new.writer (g.K.Sink.written c.args.sink.now) (g.K.Sink.written c.loop-place.sink) (g.K.Sink.written c.tell_link.new.sink)
          (links_lines t (take i t.links)) (passage_line t (link_told link)) c.loop-place.invariant.put c.in_ok-tell_link.ensures.put);
      room = stays_then _ _ _ c.loop-place.invariant.room c.in_ok-tell_link.ensures.room;
      faults = c.in_ok-tell_link.ensures.faults ∙ c.loop-place.invariant.faults;
    }
