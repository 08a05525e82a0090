-- what a decoder refuses makes one record

use Rattle.std.proofs.Common.{Bool, ◌∙◌, ap, if◌then◌else◌}
use Rattle.std.specs.Prelude.{drop}
use Rattle.claims_model.specs.world_model.ifmp_wire.Fields.{decoded as ifmp_decoded}
use Rattle.claims_model.specs.world_model.Words.{gsmp_holds, forwards_packet, label_holds, ifmp_holds, counted_at, packet_holds, default_holds}
use Rattle.law_controller_facts.specs.Refused.{RefusedIsRecorded}

pub refused_is_recorded : RefusedIsRecorded
refused_is_recorded = record {
  gsmp = λ a mark payload fault e. ap (gsmp_holds a) e;
  default = λ a linked mark payload fault e. ap (default_holds a linked.setup.port mark) e;
  packet = λ a linked mark payload octets fault e f. ap (default_holds a linked.setup.port mark) e ∙ ap (packet_holds a linked.setup.port mark octets) f;
  ifmp = λ a linked mark payload octets fault e f t d. ap (default_holds a linked.setup.port mark) e ∙ (ap (packet_holds a linked.setup.port mark octets) f
      ∙ (ap (λ (b : Bool). if b then ifmp_holds a linked.setup.port octets (ifmp_decoded (drop 20 octets)) else counted_at (forwards_packet a mark octets) linked.setup.port octets) t
      ∙ ap (ifmp_holds a linked.setup.port octets) d));
  label = λ a linked label mark payload fault e. ap (label_holds a linked label mark) e;
}
