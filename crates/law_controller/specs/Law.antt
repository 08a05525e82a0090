-- What holds of the requests and the joins of a controller after every list of inputs

use Rattle.std.specs.Prelude.{◌≡◌, ◌≤◌, ◌<◌, ◌+◌, true, false, List, length, Some}
use Rattle.law_controller_facts.specs.world_model.Words.{End, IsLinkPort, Standing, all_on, most_asked, most_requests, Label, Controller, joins_of, label_on}
use Rattle.law_controller_facts.specs.ordered_lists.Ordered.{Every, InOrder}
use Rattle.law_controller_facts.specs.world_model.port_model.Requests.{request_input}
use Rattle.law_controller_facts.specs.world_model.controller_model.declared.range.PortRange.{PortRange}
use Rattle.law_controller_facts.specs.world_model.Joins.{Join, output_joined}
use Rattle.law_controller_facts.specs.Inputs.{Input, takes_inputs}
use Rattle.law_controller_facts.specs.Sound.{Opening, DifferInPort, opened_by}
use Rattle.law_controller.specs.Match.{IsMatched}
use Rattle.law_controller.specs.Order.{HasLentLabels, IsMeeting, IsOther, IsOfClearing, MovesLent, stands_unlent, count_of}

-- *An opening* with at most 8 ports, of links, of different numbers
pub record IsOpening (o : Opening) : Type 0 where
  pub differ : InOrder DifferInPort o.ranges
  pub links : Every (λ (range : PortRange). IsLinkPort range.port) o.ranges
  pub few : length o.ranges ≤ 8

-- after every list of inputs from such an opening
abbrev pub Always : (Controller → Type 0) → Type 0
Always P = (o : Opening) (inputs : List Input) → IsOpening o → P (takes_inputs (opened_by o) inputs).controller

-- *While the switch isn't met* All Ports stands alone, or Delete Alls alone; once it is met, All Ports doesn't
-- stand
pub record StandsInMeeting (c : Controller) : Type 0 where
  pub meeting : c.has_met ≡ false → IsMeeting c.desk.standing
  pub met : c.has_met ≡ true → Every (λ (s : Standing). IsOther s.request) c.desk.standing

-- *Once it is met* Delete All stands of ports in Clearing alone
abbrev pub DeletesOfClearing : Controller → Type 0
DeletesOfClearing c = c.has_met ≡ true → Every (IsOfClearing c.ports) c.desk.standing

-- and nothing stands beside a Delete All on an input of its port
abbrev pub StandsApart : Controller → Type 0
StandsApart c = Every (λ (s : Standing). (input : End) → request_input s.request ≡ Some input → all_on c.desk input.port ≡ false) c.desk.standing

-- *A label that is joined* has a grant that is lent to it
abbrev pub HasLentGrants : Controller → Type 0
HasLentGrants c = Every (HasLentLabels c.ports) c.ports

-- *A Move Branch* that stands is of an input to which a grant is lent
abbrev pub MovesOfLent : Controller → Type 0
MovesOfLent c = Every (MovesLent c.ports) c.desk.standing

-- *Joins of labels and grants that are lent* match
abbrev pub AreMatched : Controller → Type 0
AreMatched c = IsMatched c.ports c.desk

-- so each join's label, where it is held, is joined to its very output
abbrev pub HasHeldJoins : Controller → Type 0
HasHeldJoins c = Every (λ (join : Join). (label : Label) → label_on c join.input ≡ Some label → label.join ≡ Some (output_joined join)) (joins_of c)

-- *How many stand*: at most 1,024 on inputs to which nothing is lent, default channels aside, and at most 2,076
-- others
pub record StandsFew (c : Controller) : Type 0 where
  pub unlent : count_of (stands_unlent c.ports) c.desk.standing ≤ most_asked
  pub others : length c.desk.standing ≤ count_of (stands_unlent c.ports) c.desk.standing + 2076
  pub few : length c.desk.standing < most_requests
