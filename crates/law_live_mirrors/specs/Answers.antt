-- A controller hears that its switch has done what it asked, and its inputs are mirrored still

use Rattle.std.specs.Prelude.{◌≡◌, ◌≢◌, true, false, List, [], None, Some}
use Rattle.world_model.specs.Words.{End, Branches, Request, AddBranch, MoveBranch, at, Standing, Done, answered, without_request, label_end, control_end, is_in_range, Label, Grant, Idle, grant_label, Session, is_estab, is_spent, Linked, linked_at, begins}
use Rattle.world_model.specs.gsmp_wire.declared.message.Message.{Message}
use Rattle.world_model.specs.Controller.{Acted}
use Rattle.world_model.specs.Gsmp.{message_comes}
use Rattle.law_port_facts.specs.ordered_lists.Ordered.{Every}
use Rattle.law_live_labels.specs.Law.{IsWorking, IsWired}
use Rattle.law_live_mirrors.specs.Mirrors.{is_labels, label_leads, Mirrors}
use Rattle.law_live_mirrors.specs.Standing.{StandsAlone}

-- *A success comes* for a request that stands alone, where no change of routes waits and no port's numbers are spent
pub record IsDone (a : Acted) (message : Message) (s : Standing) : Type 0 where
  pub up : is_estab a.controller.adjacency.state ≡ true
  pub answers : answered a.controller.desk message ≡ Done s
  pub alone : StandsAlone a.controller.desk s
  pub none_waits : a.controller.waiting ≡ []
  pub unspent : Every (λ (linked : Linked). is_spent linked.port.session ≡ false) a.controller.ports

-- it stands no longer, nothing is asked, and the inputs are mirrored
pub record HearsMirrored (a after : Acted) (s : Standing) : Type 0 where
  pub desk : after.controller.desk ≡ without_request a.controller.desk s
  pub mirrors : (branches : Branches) (way : List Request) (input : End) → Mirrors a.controller.ports a.controller.desk branches way input
      → Mirrors after.controller.ports after.controller.desk branches way input

-- *The branch of a label* that is being wired: it is offered
abbrev pub OffersKeepMirrors : Type 0
OffersKeepMirrors = (a : Acted) (message : Message) (s : Standing) (linked : Linked) (session : Session) (label : Label) → IsDone a message s
    → linked_at a.controller linked.setup.port ≡ Some linked → IsWired linked.setup (begins a linked) session label → label.join ≡ None
    → s.request ≡ AddBranch (label_end linked.setup.port label.number) (control_end linked.setup.port label.number)
    → HearsMirrored a (message_comes a message) s

-- *The branch of a grant*: the controller sends under it
abbrev pub StartsKeepMirrors : Type 0
StartsKeepMirrors = (a : Acted) (message : Message) (s : Standing) (linked : Linked) (session : Session) (grant : Grant) → IsDone a message s
    → linked_at a.controller linked.setup.port ≡ Some linked → IsWorking linked.setup (begins a linked) session → is_in_range linked.setup grant.label ≡ true
    → at grant_label grant.label linked.port.grants ≡ Some grant → grant.state ≡ Idle
    → s.request ≡ AddBranch (control_end linked.setup.port grant.label) (label_end linked.setup.port grant.label)
    → HearsMirrored a (message_comes a message) s

-- *The branch of a join*: it leads where its label is joined to
abbrev pub JoinsKeepMirrors : Type 0
JoinsKeepMirrors = (a : Acted) (message : Message) (s : Standing) (input from output : End) → IsDone a message s
    → is_labels input ≡ true → label_leads a.controller.ports input ≡ Some output → output.port.0 ≢ 0
    → s.request ≡ MoveBranch input from output → HearsMirrored a (message_comes a message) s
