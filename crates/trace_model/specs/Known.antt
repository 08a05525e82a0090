-- What is known of a trace as far as it goes: all that the judgement of its next line asks

use Rattle.std.specs.Prelude.{ℕ, Bool, List, Option}
use Rattle.net_types.specs.declared.number.Mark.{Mark}
use Rattle.ipv4_packet.specs.declared.flow.FlowId.{FlowId}
use Rattle.trace_model.specs.declared.cell.Taken.{Taken}
use Rattle.trace_model.specs.declared.cell.TraceCell.{TraceCell}
use Rattle.trace_model.specs.declared.end.TraceEnd.{TraceEnd}
use Rattle.trace_model.specs.declared.end.TraceLabel.{TraceLabel}
use Rattle.trace_model.specs.Trace.{Trace, peer_of, queue_of, flow_at, payload_at, first_put, taken_last, has_begun, has_ended, how_many, is_link, is_put, is_bind}

pub record Known : Type 0 where
  -- the other end of a port's link
  pub peer : TraceEnd → Option TraceEnd
  -- the cells on the way from a port to the other end
  pub queue : TraceEnd → List TraceCell
  -- the flow of a channel at the port that its cells come to
  pub flow : TraceLabel → Option FlowId
  -- the payload of a mark's frame
  pub payload : Mark → Option (List ℕ)
  -- where the first cell of a mark was put
  pub first : Mark → Option TraceLabel
  -- the cell that the line before took
  pub taken : Option Taken
  -- a line came that is no `link`; `end` came
  pub begun : Bool
  pub ended : Bool
  -- how many lines of these there are
  pub links : ℕ
  pub puts : ℕ
  pub binds : ℕ

abbrev pub known : Trace → Known
known trace = record {
  peer = peer_of trace;
  queue = queue_of trace;
  flow = flow_at trace;
  payload = payload_at trace;
  first = first_put trace;
  taken = taken_last trace;
  begun = has_begun trace;
  ended = has_ended trace;
  links = how_many is_link trace;
  puts = how_many is_put trace;
  binds = how_many is_bind trace;
}
