-- the laws are proved over definitions alone

use Rattle.law_live_mirrors.proofs.Desks.{like_ports_mirror, asking_keeps_mirrors, sending_again_keeps_mirrors, answers_keep_mirrors, shut_ports_mirror, deletes_mirror}
use Rattle.law_live_mirrors.proofs.requests_keep_mirrors.Goals as goal

pub returns : goal.returns
returns c = record { alike = like_ports_mirror; asked = asking_keeps_mirrors; again = sending_again_keeps_mirrors; answered = answers_keep_mirrors; shut = shut_ports_mirror; emptied = deletes_mirror }
