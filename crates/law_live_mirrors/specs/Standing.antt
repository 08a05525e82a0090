-- What is asked, sent again and answered keeps an input mirrored

use Rattle.std.specs.Prelude.{◌≡◌, ◌==◌, true, false, List, [], ◌∷◌, ◌++◌, filter, find, Option, None, Some}
use Rattle.world_model.specs.Words.{End, Branches, Request, Desk, Standing, without_request, Linked}
use Rattle.world_model.specs.crossbar_model.Crossbar.{output_of}
use Rattle.world_model.specs.gsmp_wire.declared.request.Request.TheVariants.{DeleteAll}
use Rattle.world_model.specs.port_model.Desk.{asked}
use Rattle.law_port_facts.specs.ordered_lists.Ordered.{Every}
use Rattle.law_port_facts.specs.Port.{IsShut}
use Rattle.law_input_steps.specs.Asking.{IsAsked, concerns, NoDeleteAll}
use Rattle.law_live_mirrors.specs.Mirrors.{leads_to, MayFollow, is_labels, label_leads, grant_leads, IsHeld, standing_on, IsBelieved, Mirrors}

-- *The ports lead an input alike*, before and after
pub record LeadAlike (before after : List Linked) (input : End) : Type 0 where
  pub label : is_labels input ≡ true → label_leads after input ≡ label_leads before input
  pub grant : grant_leads after input ≡ grant_leads before input

-- so it is mirrored still
abbrev pub LikePortsMirror : Type 0
LikePortsMirror = (before after : List Linked) (desk : Desk) (branches : Branches) (way : List Request) (input : End) → LeadAlike before after input
    → Mirrors before desk branches way input → Mirrors after desk branches way input

-- *A request may be asked* of an input that it concerns: no Delete All of the input's port stands, and it may follow on where the
-- controller believes the input to lead
pub record MayAsk (ports : List Linked) (desk : Desk) (request : Request) (input : End) : Type 0 where
  pub apart : NoDeleteAll input desk.standing
  pub follows : (led : Option End) → IsBelieved ports desk input led → MayFollow request led

-- it is asked, and comes last on the way. Meanwhile the ports may come to lead otherwise the inputs that it concerns
abbrev pub AskingKeepsMirrors : Type 0
AskingKeepsMirrors = (before after : List Linked) (desk : Desk) (branches : Branches) (way : List Request) (request : Request) (input : End) → IsAsked request
    → (concerns input request ≡ true → MayAsk before desk request input) → (concerns input request ≡ false → LeadAlike before after input)
    → Mirrors before desk branches way input → Mirrors after (asked desk request) branches (way ++ request ∷ []) input

-- *It is sent again* while it stands, alone of those that concern the input
abbrev pub SendingAgainKeepsMirrors : Type 0
SendingAgainKeepsMirrors = (ports : List Linked) (desk : Desk) (branches : Branches) (way : List Request) (s : Standing) (input : End)
    → (concerns input s.request ≡ true → standing_on desk input ≡ s ∷ [])
    → Mirrors ports desk branches way input → Mirrors ports desk branches (way ++ s.request ∷ []) input

-- *A request stands alone*: no other has its number, and no other concerns an input that it concerns
pub record StandsAlone (desk : Desk) (s : Standing) : Type 0 where
  pub stands : find (λ (other : Standing). other.number == s.number) desk.standing ≡ Some s
  pub number : Every (λ (other : Standing). other.number ≡ s.number → other ≡ s) desk.standing
  pub inputs : (input : End) → concerns input s.request ≡ true → Every (λ (other : Standing). concerns input other.request ≡ true → other ≡ s) desk.standing

-- it is answered, and stands no longer: by their labels and grants the ports then hold the inputs that it concerns as it made them lead
abbrev pub AnswersKeepMirrors : Type 0
AnswersKeepMirrors = (before after : List Linked) (desk : Desk) (branches : Branches) (way : List Request) (s : Standing) (input : End) → StandsAlone desk s
    → (concerns input s.request ≡ true → IsHeld after input (leads_to s.request)) → (concerns input s.request ≡ false → LeadAlike before after input)
    → Mirrors before desk branches way input → Mirrors after (without_request desk s) branches way input

-- *So it begins*: a switch without branches mirrors a controller of which each port is shut and nothing stands
abbrev pub ShutPortsMirror : Type 0
ShutPortsMirror = (ports : List Linked) (desk : Desk) (branches : Branches) (input : End) → Every (λ (linked : Linked). IsShut linked.port) ports → desk.standing ≡ []
    → output_of branches input ≡ None → Mirrors ports desk branches [] input

-- and whatever branches a switch has, it mirrors the controller at the inputs of a port of which Delete All stands, and is on its way alone
abbrev pub DeletesMirror : Type 0
DeletesMirror = (ports : List Linked) (desk : Desk) (branches : Branches) (way : List Request) (s : Standing) (input : End) → s.request ≡ DeleteAll input.port
    → standing_on desk input ≡ s ∷ [] → filter (concerns input) way ≡ s.request ∷ [] → Mirrors ports desk branches way input
