-- what the switch answers tells what the plain machine answers

use Rattle.std.proofs.Common.{◌≡◌, ℕ, ◌<◌, ◌≤◌, ◌^◌, min, Option, None, Some, is_none, false, List, refl, sym, ◌∙◌, ap, subst, arith, inl, inr}
use Rattle.std.specs.FinMap.{get}
use Rattle.world_model.specs.Words.{End, Branches, Add, Delete, Verify, Request, AddBranch, MoveBranch, DeleteTree, VerifyTree, PortManagement, Bits, message_of, session_of, unnamed, failure_code, failure_answer, branch_answer, told_output, count_of, success_answer}
use Rattle.world_model.specs.crossbar_model.Crossbar.{output_of}
use Rattle.world_model.specs.gsmp_wire.declared.message.BranchKind.TheVariants.{DeleteAll as DeleteAllKind}
use Rattle.world_model.specs.gsmp_wire.declared.request.Request.TheVariants.{DeleteAll, AllPorts}
use Rattle.law_gsmp_reading.specs.Said.{succeeds, fails, HasBranches, no_branch, one_branch}
use Rattle.law_gsmp_reading.proofs.Read.{message_is_read}
use Rattle.world_model.specs.switch_model.declared.port.PortState.{PortState}
use Rattle.world_model.specs.gsmp_wire.declared.failure.Failure.{Failure}
use Rattle.world_model.specs.gsmp_wire.declared.failure.Failure.TheVariants.{NoPort, BadSession, PortDown, OutOfRange, Busy, NoConnection, SessionsSpent}
use Rattle.console_model.specs.declared.reply.Reply.TheVariants as replies
use Rattle.console_model.specs.Law.{IsEnd}
use Rattle.console_model.specs.Plain.{Links, success, told_end}
use Rattle.law_console.specs.Words.{first_rows, IsCommand, Tells}
use Rattle.law_console.proofs.Reading.{end_fits, port_fits, none_fits, branch_fits, move_fits}

-- *A failure*
code_is : (f : Failure) → (1 ≤ failure_code f) × (failure_code f ≤ 7)
code_is NoPort = (omega arith, omega arith)
code_is BadSession = (omega arith, omega arith)
code_is PortDown = (omega arith, omega arith)
code_is OutOfRange = (omega arith, omega arith)
code_is Busy = (omega arith, omega arith)
code_is NoConnection = (omega arith, omega arith)
code_is SessionsSpent = (omega arith, omega arith)

-- what Verify Tree finds
abbrev pub IsVerified : Branches → Links → Request → Type 0
IsVerified b m (VerifyTree input) = (output_of b input ≡ get m input) × (is_none (output_of b input) ≡ false)
IsVerified b m q = Unit {0}

module _ (ports number : ℕ) (low : number < 2 ^ 32) where
  pub failure_tells : (f : Failure) (q : Request) → IsCommand q → Tells q number (replies.Failed (failure_code f)) (failure_answer f (message_of (first_rows ports) number q))
  failure_tells f (AddBranch input output) is = (let code = code_is f in record {
    read = message_is_read (failure_answer f (message_of (first_rows ports) number (AddBranch input output)))
        (branch_fits Add ports 4 (failure_code f) number 0 input.port input.channel output.port.0 output.channel is.0.port (end_fits input is.0) (port_fits output.port is.1.port) (end_fits output is.1) (omega arith) (omega (arith, code.1)) low (omega arith))
        (fails (failure_code f) code.0 code.1, no_branch 4, tt);
    head = record { result = 4; code = failure_code f; number = number };
    is_head = refl;
    number = refl;
    typed = refl;
    means = inr (refl, refl);
  })
  failure_tells f (MoveBranch input from to) is = (let code = code_is f in record {
    read = message_is_read (failure_answer f (message_of (first_rows ports) number (MoveBranch input from to)))
        (move_fits ports 4 (failure_code f) number 0 input from to is.0 is.1 is.2 (omega arith) (omega (arith, code.1)) low (omega arith)) (fails (failure_code f) code.0 code.1, no_branch 4);
    head = record { result = 4; code = failure_code f; number = number };
    is_head = refl;
    number = refl;
    typed = refl;
    means = inr (refl, refl);
  })
  failure_tells f (DeleteTree input) is = (let code = code_is f in record {
    read = message_is_read (failure_answer f (message_of (first_rows ports) number (DeleteTree input)))
        (branch_fits Delete ports 4 (failure_code f) number 0 input.port input.channel 0 _ is.port (end_fits input is) (omega arith) none_fits (omega arith) (omega (arith, code.1)) low (omega arith))
        (fails (failure_code f) code.0 code.1, no_branch 4, (refl, refl));
    head = record { result = 4; code = failure_code f; number = number };
    is_head = refl;
    number = refl;
    typed = refl;
    means = inr (refl, refl);
  })
  failure_tells f (VerifyTree input) is = (let code = code_is f in record {
    read = message_is_read (failure_answer f (message_of (first_rows ports) number (VerifyTree input)))
        (branch_fits Verify ports 4 (failure_code f) number 0 input.port input.channel 0 _ is.port (end_fits input is) (omega arith) none_fits (omega arith) (omega (arith, code.1)) low (omega arith))
        (fails (failure_code f) code.0 code.1, no_branch 4, inr (refl, refl));
    head = record { result = 4; code = failure_code f; number = number };
    is_head = refl;
    number = refl;
    typed = refl;
    means = inr (refl, refl);
  })
  failure_tells f (DeleteAll port) is = (let code = code_is f in record {
    read = message_is_read (failure_answer f (message_of (first_rows ports) number (DeleteAll port)))
        (branch_fits DeleteAllKind ports 4 (failure_code f) number 0 port _ 0 _ is none_fits (omega arith) none_fits (omega arith) (omega (arith, code.1)) low (omega arith))
        (fails (failure_code f) code.0 code.1, no_branch 4, ((refl, refl), refl));
    head = record { result = 4; code = failure_code f; number = number };
    is_head = refl;
    number = refl;
    typed = refl;
    means = inr (refl, refl);
  })
  failure_tells f (PortManagement port function) is = absurd is
  failure_tells f AllPorts is = absurd is

  -- *A success*
  counted : (o : Option End) → HasBranches 3 (count_of o)
  counted None = no_branch 3
  counted (Some e) = one_branch

  count_low : (o : Option End) → Bits 16 (count_of o)
  count_low None = omega arith
  count_low (Some e) = omega arith

  -- Verify Tree tells where its input leads
  verify_by : (input output : End) → IsEnd input → IsEnd output
      → Tells (VerifyTree input) number (replies.At output) (branch_answer Verify number (session_of (first_rows ports) input.port) input.port.0 input.channel output 1 0)
  verify_by input output is to = record {
    read = message_is_read (branch_answer Verify number (session_of (first_rows ports) input.port) input.port.0 input.channel output 1 0)
        (branch_fits Verify ports 3 0 number 1 input.port input.channel output.port.0 output.channel is.port (end_fits input is) (port_fits output.port to.port) (end_fits output to) (omega arith) (omega arith) low (omega arith))
        (succeeds, one_branch, inl refl);
    head = record { result = 3; code = 0; number = number };
    is_head = refl;
    number = refl;
    typed = refl;
    means = inl (refl, (λ i. replies.At (record { port = record { 0 = small i }; channel = output.channel })), λ s. refl);
  }
    where
      small : min output.port.0 255 ≡ output.port.0
      small = omega (arith, to.port.1)

  verify_tells : (b : Branches) (m : Links) (states : List PortState) (input : End) (o : Option End) → IsEnd input → output_of b input ≡ o → get m input ≡ o
      → is_none (output_of b input) ≡ false → ((output : End) → get m input ≡ Some output → IsEnd output)
      → Tells (VerifyTree input) number (success m (VerifyTree input)) (success_answer states b (VerifyTree input) (message_of (first_rows ports) number (VerifyTree input)))
  verify_tells b m states input None is e f lacks fit = absurd (cc (sym (ap is_none e) ∙ lacks))
  verify_tells b m states input (Some output) is e f lacks fit =
      let session : ℕ = session_of (first_rows ports) input.port in
      subst (λ (o : Option End). Tells (VerifyTree input) number (told_end o) (success_answer states b (VerifyTree input) (message_of (first_rows ports) number (VerifyTree input)))) (sym f)
      (subst (λ (o : Option End). Tells (VerifyTree input) number (replies.At output) (branch_answer Verify number session input.port.0 input.channel (told_output Verify unnamed o) (count_of o) 0)) (sym e)
      (verify_by input output is (fit output f)))

  pub success_tells : (b : Branches) (m : Links) (states : List PortState) (q : Request) → IsCommand q → IsVerified b m q → ((input output : End) → get m input ≡ Some output → IsEnd output)
      → Tells q number (success m q) (success_answer states b q (message_of (first_rows ports) number q))
  success_tells b m states (AddBranch input output) is shows fit = record {
    read = message_is_read (success_answer states b (AddBranch input output) (message_of (first_rows ports) number (AddBranch input output)))
        (branch_fits Add ports 3 0 number (count_of (output_of b input)) input.port input.channel output.port.0 output.channel is.0.port (end_fits input is.0) (port_fits output.port is.1.port) (end_fits output is.1) (omega arith) (omega arith) low (count_low (output_of b input)))
        (succeeds, counted (output_of b input), tt);
    head = record { result = 3; code = 0; number = number };
    is_head = refl;
    number = refl;
    typed = refl;
    means = inl (refl, refl, λ s. refl);
  }
  success_tells b m states (MoveBranch input from to) is shows fit = record {
    read = message_is_read (success_answer states b (MoveBranch input from to) (message_of (first_rows ports) number (MoveBranch input from to)))
        (move_fits ports 3 0 number (count_of (output_of b input)) input from to is.0 is.1 is.2 (omega arith) (omega arith) low (count_low (output_of b input))) (succeeds, counted (output_of b input));
    head = record { result = 3; code = 0; number = number };
    is_head = refl;
    number = refl;
    typed = refl;
    means = inl (refl, refl, λ s. refl);
  }
  success_tells b m states (DeleteTree input) is shows fit = record {
    read = message_is_read (success_answer states b (DeleteTree input) (message_of (first_rows ports) number (DeleteTree input)))
        (branch_fits Delete ports 3 0 number (count_of (output_of b input)) input.port input.channel 0 _ is.port (end_fits input is) (omega arith) none_fits (omega arith) (omega arith) low (count_low (output_of b input)))
        (succeeds, counted (output_of b input), (refl, refl));
    head = record { result = 3; code = 0; number = number };
    is_head = refl;
    number = refl;
    typed = refl;
    means = inl (refl, refl, λ s. refl);
  }
  success_tells b m states (VerifyTree input) is shows fit = verify_tells b m states input (output_of b input) is refl (sym shows.0) shows.1 (fit input)
  success_tells b m states (DeleteAll port) is shows fit = record {
    read = message_is_read (success_answer states b (DeleteAll port) (message_of (first_rows ports) number (DeleteAll port)))
        (branch_fits DeleteAllKind ports 3 0 number 0 port _ 0 _ is none_fits (omega arith) none_fits (omega arith) (omega arith) low (omega arith))
        (succeeds, no_branch 3, ((refl, refl), refl));
    head = record { result = 3; code = 0; number = number };
    is_head = refl;
    number = refl;
    typed = refl;
    means = inl (refl, refl, λ s. refl);
  }
  success_tells b m states (PortManagement port function) is shows fit = absurd is
  success_tells b m states AllPorts is shows fit = absurd is
