-- Where the inputs of a switch lead, and where its controller believes them to lead

use Rattle.std.specs.Prelude.{◌≡◌, ◌⊎◌, Bool, true, false, not, ◌&&◌, ◌==◌, List, [], ◌∷◌, filter, Option, None, Some, if◌then◌else◌}
use Rattle.std.specs.Option.{option_or, option_map_or, option_and_then}
use Rattle.world_model.specs.Words.{End, Branches, is_label_channel, label_number_of, number_of_channel, Request, AddBranch, MoveBranch, at, Desk, Standing, home_of, Label, LabelState, Wiring, label_at, Grant, GrantState, Idle, grant_on, Linked, port_key, port_on, on_link}
use Rattle.world_model.specs.crossbar_model.Crossbar.{output_of}
use Rattle.law_input_steps.specs.Asking.{concerns}

-- *What a request makes of an input* that it concerns: where the input leads once it is carried out, and where it may lead before
abbrev pub leads_to : Request → Option End
leads_to (AddBranch input output) = Some output
leads_to (MoveBranch input from to) = Some to
leads_to request = None

abbrev pub MayFollow : Request → (led : Option End) → Type 0
MayFollow (AddBranch input output) led = (led ≡ None) ⊎ (led ≡ Some output)
MayFollow (MoveBranch input from to) led = (led ≡ Some from) ⊎ (led ≡ Some to)
MayFollow request led = Unit {0}

-- *Requests on their way* lead an input on, one after another, from where it leads now to where it is to end
abbrev pub LeadOn : (led : Option End) → (way : List Request) → (Ends : Option End → Type 0) → Type 0
LeadOn led [] Ends = Ends led
LeadOn led (request ∷ way) Ends = MayFollow request led × LeadOn (leads_to request) way Ends

-- *The other end* of a channel of a port is the control link's, and the other way round
abbrev pub other_end : End → End
other_end end =
    if end.port.0 == 0 then record { port = port_on end.channel; channel = on_link end.channel } else home_of end

-- *By its label* the channel of a label leads nowhere while the label is spare or being wired; then to the control link, or where
-- it is joined to
abbrev pub is_labels : End → Bool
is_labels input = not (input.port.0 == 0) && is_label_channel input.channel

abbrev pub label_in : List Linked → (input : End) → Option Label
label_in ports input =
    option_and_then (λ linked. label_at linked.port (number_of_channel input.channel)) (at port_key input.port.0 ports)

abbrev pub led_in : (input : End) → Label → LabelState → Option End
led_in input label Wiring = None
led_in input label state = option_or label.join (Some (home_of input))

abbrev pub led_by : (input : End) → Option Label → Option End
led_by input None = None
led_by input (Some label) = led_in input label label.state

abbrev pub label_leads : List Linked → (input : End) → Option End
label_leads ports input = led_by input (label_in ports input)

-- *By its grant* the control link's channel of a grant leads out, whether the controller sends under it or an input is joined to it
abbrev pub is_led_out : GrantState → Bool
is_led_out Idle = false
is_led_out state = true

abbrev pub grant_in : List Linked → (output : End) → Option Grant
grant_in ports output =
    option_and_then (λ linked. grant_on linked.port.grants (label_number_of output.channel)) (at port_key output.port.0 ports)

abbrev pub grant_leads : List Linked → (input : End) → Bool
grant_leads ports input =
    (input.port.0 == 0) && option_map_or (λ grant. is_led_out grant.state) (grant_in ports (other_end input)) false

-- *An input is held so* while nothing stands that concerns it: that of a label by its label; any other leads to its other end, if it
-- leads anywhere, and that of a grant does so
pub record IsHeld (ports : List Linked) (input : End) (led : Option End) : Type 0 where
  pub label : is_labels input ≡ true → led ≡ label_leads ports input
  pub other : is_labels input ≡ false → (led ≡ None) ⊎ (led ≡ Some (other_end input))
  pub grant : grant_leads ports input ≡ true → led ≡ Some (other_end input)

-- *What stands* that concerns it makes it lead where it asks
abbrev pub standing_on : Desk → (input : End) → List Standing
standing_on desk input = filter (λ s. concerns input s.request) desk.standing

abbrev pub IsBelievedBy : List Linked → (input : End) → List Standing → (led : Option End) → Type 0
IsBelievedBy ports input [] led = IsHeld ports input led
IsBelievedBy ports input (s ∷ others) led = led ≡ leads_to s.request

abbrev pub IsBelieved : List Linked → Desk → (input : End) → (led : Option End) → Type 0
IsBelieved ports desk input led = IsBelievedBy ports input (standing_on desk input) led

-- *The switch mirrors the controller* at an input: the requests on their way, the first to come first, lead it on from where it
-- leads to where the controller, with these ports and this desk, believes it to lead
abbrev pub Mirrors : List Linked → Desk → Branches → (way : List Request) → (input : End) → Type 0
Mirrors ports desk branches way input =
    LeadOn (output_of branches input) (filter (concerns input) way) (IsBelieved ports desk input)
