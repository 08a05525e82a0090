-- What holds of a controller holds after each input that it takes.

use Rattle.std.proofs.Common.{◌≡◌, [], drop, Option, None, Some, Result, Ok, Err, OnOk, sym, subst}
use Rattle.std.specs.Result.{result_err}
use Rattle.net_types.specs.declared.memory.OutOfMemory.{OutOfMemory}
use Rattle.net_types.specs.Number.{AreDrawn, GivenOut}
use Rattle.link_model.specs.Notes.{Journal}
use Rattle.world_model.specs.Controller.{Acted}
use Rattle.law_joining_conditions.specs.law_controller_facts.Inputs.{Input, CellLeaves, takes_input}
use Rattle.law_joining_conditions.specs.law_controller_facts.Sound.{IsOwn}
use Rattle.controller_gsmp.specs.Client.{PortEnd}
use Rattle.controller_joining.specs.Joining.{AreJoined, Joining, acted, controller_of}
use Rattle.law_joining_conditions.specs.law_controller_conditions.Kept.{IsKept}
use Rattle.law_joining_conditions.specs.law_controller_conditions.Routes.{HasLinkRoutes, IsLinkInput}
use Rattle.law_joining_conditions.proofs.law_controller_conditions.Kept.{inputs_draw, inputs_keep}
use Rattle.law_joining_conditions.proofs.law_controller_conditions.Leading.{routes_lead_to_links}
use Rattle.controller.specs.Right.{IsRight, IsRightUnless}

abbrev pub no_notes : Journal
no_notes = record { records = []; entries = []; frames = [] }

abbrev no_numbers : GivenOut
no_numbers = record { instances = 0; controls = 0 }

module _ {E : Type 0} (seen : E → PortEnd) where
  -- *An input*
  pub right_after : {V F : Type 0} (r : Result V F) (old new : Joining E) (notes kept : Journal) (numbers given : GivenOut) (input : Input) → IsLinkInput input → IsRight seen old
      → OnOk r (acted seen new kept given ≡ takes_input (acted seen old notes numbers) input) → OnOk r (AreJoined seen new) → OnOk r (IsRight seen new)
  right_after (Ok v) old new notes kept numbers given input link right is joined = record {
    kept = subst (λ (b : Acted). IsKept b.controller) (sym is) (inputs_keep (acted seen old notes numbers) input right.kept);
    joined = joined;
    routes = subst (λ (b : Acted). HasLinkRoutes b.controller) (sym is) (routes_lead_to_links.keeps (acted seen old notes numbers) input link right.routes);
  }
  right_after (Err e) old new notes kept numbers given input link right is joined = tt

  pub draws : {V F : Type 0} (r : Result V F) (old new : Joining E) (notes kept : Journal) (numbers given : GivenOut) (input : Input) → IsOwn input → IsRight seen old
      → OnOk r (acted seen new kept given ≡ takes_input (acted seen old notes numbers) input) → OnOk r (AreDrawn numbers given)
  draws (Ok v) old new notes kept numbers given input own right is = subst (λ (b : Acted). AreDrawn numbers b.numbers) (sym is) (inputs_draw (acted seen old notes numbers) input own right.kept)
  draws (Err e) old new notes kept numbers given input own right is = tt

  -- *Unless memory was wanting*
  pub right_unless : {V : Type 0} (r : Result V OutOfMemory) (new : Joining E) (failure : Option OutOfMemory) → failure ≡ result_err r → OnOk r (IsRight seen new) → IsRightUnless seen new failure
  right_unless (Ok v) new failure is right = subst (IsRightUnless seen new) (sym is) right
  right_unless (Err e) new failure is right = subst (IsRightUnless seen new) (sym is) tt

  pub right_before : (old : Joining E) (failure : Option OutOfMemory) → failure ≡ None → IsRightUnless seen old failure → IsRight seen old
  right_before old failure none right = subst (IsRightUnless seen old) none right

  -- *A cell leaves*
  pub right_popped : (old new : Joining E) (failure : Option OutOfMemory) → controller_of seen new ≡ record (controller_of seen old) { queue = drop 1 (controller_of seen old).queue } → (AreJoined seen old → AreJoined seen new) → IsRightUnless seen old failure → IsRightUnless seen new failure
  right_popped old new None is joined right = record {
    kept = subst IsKept (sym is) (inputs_keep (acted seen old no_notes no_numbers) CellLeaves right.kept);
    joined = joined right.joined;
    routes = subst HasLinkRoutes (sym is) (routes_lead_to_links.keeps (acted seen old no_notes no_numbers) CellLeaves tt right.routes);
  }
  right_popped old new (Some error) is joined right = tt
