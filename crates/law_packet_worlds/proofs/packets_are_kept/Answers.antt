-- the laws are proved over definitions alone

use Rattle.law_packet_worlds.proofs.Fated.{fates_once}
use Rattle.law_packet_worlds.proofs.Law.{packets_are_kept}
use Rattle.law_packet_worlds.proofs.Opening.{packets_begin}
use Rattle.law_packet_worlds.proofs.packets_are_kept.Goals as goal

pub returns : goal.returns
returns c = record {
  events = packets_are_kept;
  opening = packets_begin;
  once = fates_once;
}
