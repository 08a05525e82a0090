-- the flow of a channel in the map of flows

use Rattle.std.specs.Prelude.{Option}
use Rattle.std.specs.declared.hash.FoldHasher.{FoldHasher}
use Rattle.std.specs.declared.hash.BuildHasherDefault.{BuildHasherDefault}
use Rattle.indexmap.specs.IndexMap.{IndexMap, get}
use Rattle.ipv4_packet.specs.declared.flow.FlowId.{FlowId}
use Rattle.trace_model.specs.declared.end.TraceLabel.{TraceLabel}
use Rattle.trace_model.specs.Ends.{same_label}

abbrev pub bound_in : IndexMap TraceLabel FlowId (BuildHasherDefault FoldHasher) → TraceLabel → Option FlowId
bound_in flows at = get same_label flows at
