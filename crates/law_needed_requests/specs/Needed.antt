-- Which requests a controller asks however many stand, and how many of them can stand

use Rattle.std.specs.Prelude.{◌≤◌, Bool, true, false, List}
use Rattle.world_model.specs.Words.{Request, AddBranch, MoveBranch, DeleteTree, same_end, Standing, home_of, Controller, Linked}
use Rattle.world_model.specs.gsmp_wire.declared.request.Request.TheVariants.{DeleteAll, AllPorts}
use Rattle.law_controller.specs.Order.{is_lent, is_default, count_of}
use Rattle.law_controller.specs.Law as law

-- *Needed requests*: for the branch of a default channel, for a join that is taken back, for a Delete Tree of an input
-- that is joined, for a port that is emptied, and for all ports
abbrev pub is_needed_by : List Linked → Request → Bool
is_needed_by ports (AddBranch input output) = is_default input
is_needed_by ports (MoveBranch input from to) = same_end to (home_of input)
is_needed_by ports (DeleteTree input) = is_lent ports input
is_needed_by ports (DeleteAll port) = true
is_needed_by ports AllPorts = true
is_needed_by ports request = false

abbrev pub is_needed : List Linked → Standing → Bool
is_needed ports s = is_needed_by ports s.request

-- 256 grants at each of 8 ports can be lent, and each join has one request at most; of default channels there are two a
-- port, and of Delete All one a port, port 0 among them
abbrev pub NeedsFew : Controller → Type 0
NeedsFew c = count_of (is_needed c.ports) c.desk.standing ≤ 2076

abbrev pub AlwaysNeedsFew : Type 0
AlwaysNeedsFew = law.Always NeedsFew
