-- the law is proved over definitions alone

use Rattle.law_live_joining_beats.proofs.Switches as switches
use Rattle.law_live_joining_beats.proofs.switches_lead.Goals as goal

pub returns : goal.returns
returns c = record { lead = switches.switches_lead }
