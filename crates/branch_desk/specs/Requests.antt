-- What a desk is told of requests: which can be asked, and which stand together.

use Rattle.std.specs.Prelude.{◌≡◌, ◌<◌, ◌==◌, ◌||◌, Bool, true, false, List, Option, None, Some}
use Rattle.std.specs.List.{AllPairs}
use Rattle.net_types.specs.declared.channel.End.{End}
use Rattle.gsmp_wire.specs.declared.request.Request.{Request}
use Rattle.gsmp_wire.specs.declared.request.Request.TheVariants.{DeleteAll, PortManagement}
use Rattle.port_model.specs.Desk.{Standing}
use Rattle.port_model.specs.Messages.{all_of}
use Rattle.port_model.specs.Requests.{withdraws}

-- Port Management brings the port up or takes it down
abbrev pub has_function : Request → Bool
has_function (PortManagement port function) = function == 1 || function == 2
has_function request = true

abbrev pub AreRising : List Standing → Type 0
AreRising standing = AllPairs (λ a b. a.number < b.number) standing

-- no request withdraws one that was asked before it and stands: so at most one is on an input, at most
-- one is Delete All of a port, and none on an input of a port stands from before a Delete All of it
abbrev pub AreApart : List Standing → Type 0
AreApart standing = AllPairs (λ earlier later. withdraws later.request earlier.request ≡ false) standing

-- Delete All of a port, as a request on that port's end
abbrev pub deleted_of : Request → Option End
deleted_of (DeleteAll port) = Some (all_of port)
deleted_of request = None
