-- the laws, put together

use Rattle.law_link_tables.proofs.Frames.{others_leave, entries_leave}
use Rattle.law_link_tables.proofs.others_leave_ports.Goals as goal

pub returns : goal.returns
returns c = record { frames = others_leave; entries = entries_leave }
