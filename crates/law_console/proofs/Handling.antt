-- the switch handles a command as the plain machine does, where its branches are that machine's map

use Rattle.std.proofs.Common.{◌≡◌, ℕ, ◌<◌, ◌^◌, Bool, true, false, List, [], ◌∷◌, Option, None, Some, refl, sym, ◌∙◌, ap, subst, inl, inr}
use Rattle.std.specs.FinMap.{get, insert, remove, retain_keys}
use Rattle.std.specs.Prelude.{cond, not, ◌==◌}
use Rattle.world_model.specs.Words.{End, Mark, cut_by_move, Request, AddBranch, MoveBranch, DeleteTree, VerifyTree, PortManagement, Journal, message_of, Switch, Changed, asked_in, noted_cut, moved_by, ended_by, all_ended, inputs_on, branches_after, ports_after, Handled, handled_by, handled_asked, handled, success_answer}
use Rattle.world_model.specs.crossbar_model.declared.branch.Branch.{Branch}
use Rattle.world_model.specs.gsmp_wire.declared.message.Message.{Message}
use Rattle.world_model.specs.gsmp_wire.declared.request.Request.TheVariants.{DeleteAll, AllPorts}
use Rattle.world_model.specs.switch_model.declared.port.PortState.{PortState}
use Rattle.world_model.specs.switch_model.declared.request.Asked.{Asked}
use Rattle.world_model.specs.gsmp_wire.declared.failure.Failure.{Failure}
use Rattle.world_model.specs.Requests.{branch_ended}
use Rattle.world_model.specs.Failures as switch
use Rattle.console_model.specs.Law.{IsEnd}
use Rattle.console_model.specs.Plain.{Links, failure_of, answer_by, after, after_by, changed}
use Rattle.law_console.specs.Words.{first_ports, first_rows, IsCommand, Tells}
use Rattle.law_console.specs.Handled.{LeadToEnds, IsPlain, IsHandled}
use Rattle.law_console.specs.Kept.{Leads}
use Rattle.law_console.proofs.Maps.{same_input, insert_here, insert_away, remove_here, remove_away, retained}
use Rattle.law_console.proofs.Again.{AreUnfailed, unfailed}
use Rattle.law_console.proofs.Refusing.{asked_as, busy_same, lacks_same, fails_alike}
use Rattle.law_console.proofs.Leading.{command_leads}
use Rattle.law_console.proofs.Telling.{IsVerified, failure_tells, success_tells}

-- *Where the plain machine's inputs lead*: to ends that lines can say
put_ends : (m : Links) (k v : End) → IsEnd v → LeadToEnds m → LeadToEnds (insert m k v)
put_ends m k v is h input output e = elim (same_input input k) [
  | inl same ↦ (let both : Some v ≡ Some output = sym (ap (get (insert m k v)) same ∙ insert_here m k v) ∙ e in
      let at : v ≡ output = cc both in subst IsEnd at is)
  | inr other ↦ h input output (sym (insert_away m k input v other) ∙ e)
]

end_ends : (m : Links) (k : End) → LeadToEnds m → LeadToEnds (remove m k)
end_ends m k h input output e = elim (same_input input k) [
  | inl same ↦ absurd (cc (sym (ap (get (remove m k)) same ∙ remove_here m k) ∙ e))
  | inr other ↦ h input output (sym (remove_away m k input other) ∙ e)
]

retain_ends : (m : Links) (p : End → Bool) → LeadToEnds m → LeadToEnds (retain_keys m p)
retain_ends m p h input output e = by (p input) (sym (retained m p input) ∙ e)
  where
    by : (t : Bool) → cond t (get m input) None ≡ Some output → IsEnd output
    by true e = h input output e
    by false e = absurd (cc e)

changed_ends : (m : Links) (q : Request) → IsCommand q → LeadToEnds m → LeadToEnds (changed m q)
changed_ends m (AddBranch input output) is h = put_ends m input output is.1 h
changed_ends m (MoveBranch input from to) is h = put_ends m input to is.2 h
changed_ends m (DeleteTree input) is h = end_ends m input h
changed_ends m (VerifyTree input) is h = h
changed_ends m (DeleteAll port) is h = retain_ends m (λ input. not (input.port.0 == port.0)) h
changed_ends m (PortManagement port function) is h = absurd is
changed_ends m AllPorts is h = absurd is

pub after_ends : (ports : ℕ) (m : Links) (q : Request) → IsCommand q → LeadToEnds m → LeadToEnds (after ports m q)
after_ends ports m q is h = by (failure_of ports m q)
  where
    by : (o : Option Failure) → LeadToEnds (after_by m q o)
    by (Some failure) = h
    by None = changed_ends m q is h

-- *What a command cuts* makes no frame
noted_frames : (notes : Journal) (o : Option Mark) → (noted_cut notes o).frames ≡ notes.frames
noted_frames notes None = refl
noted_frames notes (Some mark) = refl

ended_frames : (c : Changed) (input : End) (o : Option Branch) → (ended_by c input o).notes.frames ≡ c.notes.frames
ended_frames c input None = refl
ended_frames c input (Some b) = noted_frames c.notes b.unfinished

all_frames : (inputs : List End) (c : Changed) → (all_ended c inputs).notes.frames ≡ c.notes.frames
all_frames [] c = refl
all_frames (input ∷ inputs) c = all_frames inputs (branch_ended c input) ∙ ended_frames c input (get c.branches input)

moved_frames : (c : Changed) (input to : End) (o : Option Branch) → (moved_by c input to o).notes.frames ≡ c.notes.frames
moved_frames c input to None = refl
moved_frames c input to (Some b) = noted_frames c.notes (cut_by_move b to)

command_frames : (c : Changed) (q : Request) → IsCommand q → (branches_after c q).notes.frames ≡ c.notes.frames
command_frames c (AddBranch input output) is = refl
command_frames c (MoveBranch input from to) is = moved_frames c input to (get c.branches input)
command_frames c (DeleteTree input) is = ended_frames c input (get c.branches input)
command_frames c (VerifyTree input) is = refl
command_frames c (DeleteAll port) is = all_frames (inputs_on c.branches port) c
command_frames c (PortManagement port function) is = absurd is
command_frames c AllPorts is = absurd is

ports_stay : (states : List PortState) (q : Request) → IsCommand q → ports_after states q ≡ states
ports_stay states (AddBranch input output) is = refl
ports_stay states (MoveBranch input from to) is = refl
ports_stay states (DeleteTree input) is = refl
ports_stay states (VerifyTree input) is = refl
ports_stay states (DeleteAll port) is = refl
ports_stay states (PortManagement port function) is = absurd is
ports_stay states AllPorts is = absurd is

-- *A command is handled*
module _ (ports number : ℕ) (m : Links) (q : Request) (s : Switch) (notes : Journal) (low : number < 2 ^ 32) (is : IsCommand q) (plain : IsPlain ports m s) where
  leads : Leads s.crossbar.branches m
  leads = plain.map

  abbrev message : Message
  message = message_of (first_rows ports) number q

  asked : (q : Request) → IsCommand q → asked_in (message_of (first_rows ports) number q) ≡ Some (asked_as ports q)
  asked (AddBranch input output) is = refl
  asked (MoveBranch input from to) is = refl
  asked (DeleteTree input) is = refl
  asked (VerifyTree input) is = refl
  asked (DeleteAll port) is = refl
  asked (PortManagement port function) is = absurd is
  asked AllPorts is = absurd is

  abbrev Is : Handled → Type 0
  Is h = IsHandled ports number m q s notes h

  abbrev c : Changed
  c = record { branches = s.crossbar.branches; notes = notes }

  verified : (q : Request) → IsCommand q → switch.lacks_branch s.crossbar.branches q ≡ false → IsVerified (branches_after c q).branches m q
  verified (AddBranch input output) is here = tt
  verified (MoveBranch input from to) is here = tt
  verified (DeleteTree input) is here = tt
  verified (VerifyTree input) is here = (leads input, here)
  verified (DeleteAll port) is here = tt
  verified (PortManagement port function) is here = absurd is
  verified AllPorts is here = absurd is

  succeeds : AreUnfailed ports m q → failure_of ports m q ≡ None → Is (handled_by s notes message q None)
  succeeds f e =
      let free : switch.is_busy s.crossbar.branches q ≡ false = busy_same ports s.crossbar.branches m leads q ∙ f.free in
      let here : switch.lacks_branch s.crossbar.branches q ≡ false = lacks_same ports s.crossbar.branches m leads q ∙ f.leads in
      let map : Leads (branches_after c q).branches (changed m q) = command_leads c m q is free here leads in
      record {
        frames = command_frames c q is;
        has_ports = ports_stay s.ports q is;
        paths = refl;
        queues = refl;
        map = subst (λ (o : Option Failure). Leads (branches_after c q).branches (after_by m q o)) (sym e) map;
        tells = subst (λ (o : Option Failure). Tells q number (answer_by m q o) (success_answer (ports_after s.ports q) (branches_after c q).branches q message)) (sym e)
            (success_tells ports number low (branches_after c q).branches m (ports_after s.ports q) q is (verified q is here) plain.ends);
      }

  fails : (f : Failure) → failure_of ports m q ≡ Some f → Is (handled_by s notes message q (Some f))
  fails f e = record {
    frames = refl;
    has_ports = refl;
    paths = refl;
    queues = refl;
    map = subst (λ (o : Option Failure). Leads s.crossbar.branches (after_by m q o)) (sym e) leads;
    tells = subst (λ (o : Option Failure). Tells q number (answer_by m q o) (handled_by s notes message q (Some f)).answer) (sym e) (failure_tells ports number low f q is);
  }

  by_failure : (o : Option Failure) → failure_of ports m q ≡ o → Is (handled_by s notes message q o)
  by_failure None e = succeeds (unfailed ports m q e) e
  by_failure (Some f) e = fails f e

  pub switches_plain : Is (handled s notes message)
  switches_plain = subst (λ (o : Option Asked). Is (handled_asked s notes message o)) (sym (asked q is))
      (subst (λ (states : List PortState). Is (handled_by s notes message q (switch.failure_of states s.vpis s.crossbar.branches (asked_as ports q)))) (sym plain.has_ports)
      (subst (λ (n : ℕ). Is (handled_by s notes message q (switch.failure_of (first_ports ports) n s.crossbar.branches (asked_as ports q)))) (sym plain.paths)
      (subst (λ (o : Option Failure). Is (handled_by s notes message q o)) (sym (fails_alike ports s.crossbar.branches m leads q is)) (by_failure (failure_of ports m q) refl))))
