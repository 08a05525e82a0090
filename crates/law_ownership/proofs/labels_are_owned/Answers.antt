-- the laws of the lines of labels and inputs, and that nobody uses a spare label, are asked of the functions that are called

use Rattle.law_ownership.proofs.Binds.{each_bind}
use Rattle.law_ownership.proofs.Own.{own_channels}
use Rattle.law_ownership.proofs.Ways.{ways_are_own}
use Rattle.law_ownership.proofs.Users.{stands_for_last}
use Rattle.law_ownership.proofs.Knows.{knows}
use Rattle.law_ownership.proofs.Joined.{spare_leads_home}
use Rattle.law_ownership.proofs.Reclaims.{no_reclaims}
use Rattle.law_ownership.proofs.Order.{ways_in_order}
use Rattle.law_ownership.proofs.Copies.{copies_in_order}
use Rattle.law_ownership.proofs.labels_are_owned.Goals as goal

pub returns : goal.returns
returns c = record {
  owned = λ past kept own way label on number.
      let channels : _ = own_channels past own way on label in
      record {
        users = stands_for_last past kept.topology_is kept.world way on label number channels;
        unused = λ session opened spare. c.labels_are_unused.ensures.spare past kept.topology_is kept.world way on label number channels session opened spare;
        unjoined = λ session opened spare. spare_leads_home past kept way on label number session opened spare;
        unreclaimed = λ session opened unrecalled. no_reclaims c.label_is_owned.ensures.only_recalled_is_reclaimed past kept own way on label number session opened unrecalled;
        downstream_knows = knows past kept way.down way.up (kept.world.cleared way on).1;
        upstream_knows = knows past kept way.up way.down (kept.world.cleared way on).0;
      };
  ordered = ways_in_order c.label_is_owned.ensures.numbers_are_in_order;
  copies = copies_in_order c.input_law.ensures.only_new c.input_law.ensures.copies_in_order;
  ways = ways_are_own c.frames_are_read.ensures.marks c.nodes_are_steady.ensures.drawn;
  binds = each_bind;
}
