-- the laws, for any ports

use Rattle.std.specs.Prelude.{Contains}
use Rattle.law_running_worlds.specs.Fine.{RequestsKeepFine, ResetsKeepFine}
use Rattle.law_running_worlds.proofs.Asking.{asks_fine, node_fine}

pub requests_keep : RequestsKeepFine
requests_keep setups old gathered began marks m a request links shaped may h = asks_fine setups links (Contains old) (Contains gathered) began marks m a request shaped may h

pub resets_keep : ResetsKeepFine
resets_keep setups old gathered began marks m a links h = node_fine setups links (Contains old) (Contains gathered) began marks m a h
