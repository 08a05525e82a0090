-- no receiver takes a greeting for a request, nor for an answer

use Rattle.std.proofs.Common.{◌≡◌, ℕ, List, drop, Option, None, Some, refl, sym, ◌∙◌, ap, subst}
use Rattle.std.specs.Option.{option_and_then}
use Rattle.law_branch_shapes.specs.world_model.Words.{Greeting, PortNo, PortRow, Request, refusal, type_of, Standing, message_of, Setup, gsmp_of, copy_of}
use Rattle.law_branch_shapes.specs.world_model.gsmp_wire.declared.fault.Fault.{Fault}
use Rattle.law_branch_shapes.specs.world_model.gsmp_wire.declared.message.Message.{Message}
use Rattle.law_branch_shapes.specs.world_model.gsmp_wire.declared.message.Message.TheVariants.{Adjacency, AllPorts}
use Rattle.law_branch_shapes.specs.world_model.gsmp_wire.declared.request.Request.TheVariants as requests
use Rattle.law_branch_shapes.specs.world_model.gsmp_wire.Fields.{decoded, decoded_by}
use Rattle.law_branch_shapes.specs.world_model.gsmp_wire.Layout.{octets_of}
use Rattle.law_frame_readings.specs.law_port_facts.Port.{IsShaped}
use Rattle.law_branch_shapes.specs.world_model.Ways.{ok_of}
use Rattle.law_input_events.specs.law_input_steps.Asking.{IsReadable}
use Rattle.law_running_worlds.specs.Mode.{AreUp}
use Rattle.law_running_worlds.specs.New.{AsksShaped, TellsUp}

-- *A greeting* is read as a greeting, or not at all
data IsGreeting : Option Message → Type 0 where
  none : IsGreeting None
  greeting : (g : Greeting) → IsGreeting (Some (Adjacency g))

greeting_read : (g : Greeting) → IsGreeting (gsmp_of (octets_of (Adjacency g)))
unfolding decoded
greeting_read g = by (refusal (octets_of (Adjacency g)))
  where
    by : (o : Option Fault) → IsGreeting (ok_of (decoded_by o (type_of 10) (drop 8 (octets_of (Adjacency g)))))
    by None = greeting _
    by (Some fault) = none

no_copy : (setups : List Setup) (o : Option Message) → IsGreeting o → (s : Standing) → option_and_then copy_of o ≡ Some s → IsShaped setups s.request
no_copy setups _ none s e = absurd (cc e)
no_copy setups _ (greeting g) s e = absurd (cc e)

pub greeting_asks : (setups : List Setup) (g : Greeting) → AsksShaped setups (octets_of (Adjacency g))
greeting_asks setups g s e = no_copy setups (gsmp_of (octets_of (Adjacency g))) (greeting_read g) s e

pub greeting_tells : (ports : List PortNo) (g : Greeting) → TellsUp ports (octets_of (Adjacency g))
greeting_tells ports g code number rows e = by (gsmp_of (octets_of (Adjacency g))) (greeting_read g) e
  where
    by : (o : Option Message) → IsGreeting o → o ≡ Some (AllPorts 3 code number rows) → AreUp rows ports
    by _ none k = absurd (cc k)
    by _ (greeting h) k = absurd (cc k)

-- *A request* is read as it is asked
pub copy_is : (rows : List PortRow) (number : ℕ) (request : Request) → copy_of (message_of rows number request) ≡ Some (record { number = number; request = request })
copy_is rows number (requests.AddBranch input output) = refl
copy_is rows number (requests.MoveBranch input from to) = refl
copy_is rows number (requests.DeleteTree input) = refl
copy_is rows number (requests.VerifyTree input) = refl
copy_is rows number (requests.DeleteAll port) = refl
copy_is rows number (requests.PortManagement port function) = refl
copy_is rows number requests.AllPorts = refl

pub request_asks : (setups : List Setup) (rows : List PortRow) (number : ℕ) (request : Request) → IsReadable (message_of rows number request) → IsShaped setups request
    → AsksShaped setups (octets_of (message_of rows number request))
request_asks setups rows number request reads shaped s e =
    let both : Some (record { number = number; request = request }) ≡ Some s = sym (ap (option_and_then copy_of) reads ∙ copy_is rows number request) ∙ e in
    let same : record { number = number; request = request } ≡ s = cc both in
    subst (λ (x : Standing). IsShaped setups x.request) same shaped
