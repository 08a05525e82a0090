-- what a switch answers to a request that its controller said has its fields' widths, and is read as it was said

use Rattle.std.proofs.Common.{◌≡◌, ℕ, ◌<◌, ◌≤◌, ◌^◌, Bool, true, List, [], ◌∷◌, length, Option, None, Some, refl, ◌∙◌, ap, arith, if◌then◌else◌}
use Rattle.std.specs.Prelude.{◌==◌, map}
use Rattle.std.proofs.lemmas.Bool.Decides.{nat_tests}
use Rattle.law_input_premises.specs.world_model.Words.{Channel, End, FitsRows, Fits, BranchKind, Add, Delete, Verify, Move, Request, Journal, Standing, head_of, Switch, asked_in, is_request, end_at, failure_of, failure_code, count_of, handled, handled_by, copy_of, copy_by}
use Rattle.law_input_premises.specs.world_model.gsmp_wire.declared.message.BranchKind.TheVariants.{DeleteAll}
use Rattle.law_input_premises.specs.world_model.gsmp_wire.declared.message.Message.{Message}
use Rattle.law_input_premises.specs.world_model.gsmp_wire.declared.message.Message.TheVariants.{Adjacency, Branch, Port, AllPorts}
use Rattle.law_input_premises.specs.world_model.gsmp_wire.declared.request.Request.TheVariants as requests
use Rattle.law_input_premises.specs.law_gsmp_reading.Said.{HasResult, succeeds, fails, HasBranches, no_branch, one_branch, NamesEnds, HasRows, all_told, all_failed, IsSaid}
use Rattle.law_input_premises.specs.world_model.switch_model.declared.port.PortState.{PortState}
use Rattle.law_input_premises.specs.world_model.gsmp_wire.declared.failure.Failure.{Failure}
use Rattle.law_input_premises.specs.world_model.gsmp_wire.declared.failure.Failure.TheVariants.{NoPort, BadSession, PortDown, OutOfRange, Busy, NoConnection, SessionsSpent}
use Rattle.law_input_premises.specs.world_model.Answers.{port_row}
use Rattle.law_input_premises.specs.law_input_steps.Asking.{IsReadable, IsAsked}
use Rattle.law_input_premises.proofs.Written.{IsWritten, written}
use Rattle.law_input_premises.proofs.Reading.{readable}
use Rattle.law_input_events.specs.Coming.{TellsPorts}

-- what the records of a switch's ports have to be
pub record TellsRows (ports : List PortState) : Type 0 where
  pub some : 1 ≤ length ports
  pub few : length (map port_row ports) ≤ 9
  pub fits : FitsRows (map port_row ports)

two_of : (n : ℕ) → (n == 2) ≡ true → n ≡ 2
two_of n is = grind (arith, nat_tests)

code_fails : (f : Failure) → HasResult 4 (failure_code f)
code_fails NoPort = fails 1 (omega arith) (omega arith)
code_fails BadSession = fails 2 (omega arith) (omega arith)
code_fails PortDown = fails 3 (omega arith) (omega arith)
code_fails OutOfRange = fails 4 (omega arith) (omega arith)
code_fails Busy = fails 5 (omega arith) (omega arith)
code_fails NoConnection = fails 6 (omega arith) (omega arith)
code_fails SessionsSpent = fails 7 (omega arith) (omega arith)

code_fits : (f : Failure) → failure_code f < 2 ^ 8
code_fits NoPort = omega arith
code_fits BadSession = omega arith
code_fits PortDown = omega arith
code_fits OutOfRange = omega arith
code_fits Busy = omega arith
code_fits NoConnection = omega arith
code_fits SessionsSpent = omega arith

-- a request tells no branch
asked_branches : (result branches : ℕ) → HasBranches result branches → result ≡ 2 → HasBranches 4 branches
asked_branches result branches (no_branch r) is = no_branch 4
asked_branches result branches one_branch is = absurd (cc is)

told_branches : (found : Option End) → HasBranches 3 (count_of found)
told_branches None = no_branch 3
told_branches (Some e) = one_branch

count_fits : (found : Option End) → count_of found < 2 ^ 16
count_fits None = omega arith
count_fits (Some e) = omega arith

rows_told : (ports : List PortState) → 1 ≤ length ports → HasRows 3 (map port_row ports)
rows_told [] some = absurd (omega (arith, some))
rows_told (port ∷ ports) some = all_told (port_row port) (map port_row ports)

module _ (result code n session ip : ℕ) (i : Channel) (op : ℕ) (o : Channel) (branches priority : ℕ) where
  branch_failed : (kind : BranchKind) (f : Failure) → Fits (Branch kind result code n session ip i op o branches priority) → HasBranches result branches → result ≡ 2 → NamesEnds kind 4 i op o
      → IsWritten (Branch kind 4 (failure_code f) n session ip i op o branches priority)
  branch_failed kind f fits told two ends = written (Branch kind 4 (failure_code f) n session ip i op o branches priority)
      (omega arith, code_fits f, fits.2, fits.3, fits.4, fits.5, fits.6, fits.7, fits.8, fits.9) (code_fails f, asked_branches result branches told two, ends)

  branch_done : (kind : BranchKind) (found : Option End) → Fits (Branch kind result code n session ip i op o branches priority) → NamesEnds kind 3 i op o
      → IsWritten (Branch kind 3 0 n session ip i op o (count_of found) priority)
  branch_done kind found fits ends =
      written (Branch kind 3 0 n session ip i op o (count_of found) priority)
      (omega arith, omega arith, fits.2, fits.3, fits.4, fits.5, fits.6, fits.7, count_fits found, fits.9) (succeeds, told_branches found, ends)

module _ (s : Switch) (notes : Journal) (tells : TellsRows s.ports) where
  -- what isn't asked
  unasked : (m : Message) (r : Request) (number session : ℕ) (result code : ℕ) → is_request m ≡ true → head_of m ≡ Some (record { result = result; code = code; number = number })
      → asked_in m ≡ Some (record { session = session; request = r }) → ((x : Standing) → copy_of m ≡ Some x → IsAsked x.request) → IsAsked r
  unasked m r number session result code is heads asked shape = shape (record { number = number; request = r })
      (ap (λ (b : Bool). if b then copy_by (head_of m) (asked_in m) else None) is ∙ (λ i. copy_by (heads i) (asked i)))

  pub answer_written : (m : Message) → Fits m → IsSaid m → ((x : Standing) → copy_of m ≡ Some x → IsAsked x.request) → is_request m ≡ true → IsWritten (handled s notes m).answer
  answer_written (Adjacency g) fits said shape is = absurd (cc is)
  answer_written (Branch Add result code n session ip i op o branches priority) fits said shape is =
      by (failure_of s.ports s.vpis s.crossbar.branches (record { session = session; request = requests.AddBranch (end_at ip i) (end_at op o) }))
    where
      by : (x : Option Failure) → IsWritten (handled_by s notes (Branch Add result code n session ip i op o branches priority) (requests.AddBranch (end_at ip i) (end_at op o)) x).answer
      by (Some f) = branch_failed result code n session ip i op o branches priority Add f fits said.1 (two_of result is) tt
      by None = branch_done result code n session ip i op o branches priority Add _ fits tt
  answer_written (Branch Delete result code n session ip i op o branches priority) fits said shape is =
      by (failure_of s.ports s.vpis s.crossbar.branches (record { session = session; request = requests.DeleteTree (end_at ip i) }))
    where
      by : (x : Option Failure) → IsWritten (handled_by s notes (Branch Delete result code n session ip i op o branches priority) (requests.DeleteTree (end_at ip i)) x).answer
      by (Some f) = branch_failed result code n session ip i op o branches priority Delete f fits said.1 (two_of result is) said.2
      by None = branch_done result code n session ip i op o branches priority Delete _ fits said.2
  answer_written (Branch Verify result code n session ip i op o branches priority) fits said shape is =
      absurd (unasked (Branch Verify result code n session ip i op o branches priority) (requests.VerifyTree (end_at ip i)) n session result code is refl refl shape)
  answer_written (Branch DeleteAll result code n session ip i op o branches priority) fits said shape is =
      by (failure_of s.ports s.vpis s.crossbar.branches (record { session = session; request = requests.DeleteAll (end_at ip i).port }))
    where
      by : (x : Option Failure) → IsWritten (handled_by s notes (Branch DeleteAll result code n session ip i op o branches priority) (requests.DeleteAll (end_at ip i).port) x).answer
      by (Some f) = branch_failed result code n session ip i op o branches priority DeleteAll f fits said.1 (two_of result is) said.2
      by None = branch_done result code n session ip i op o branches priority DeleteAll None fits said.2
  answer_written (Move result code n session ip i op o tp t branches priority) fits said shape is =
      by (failure_of s.ports s.vpis s.crossbar.branches (record { session = session; request = requests.MoveBranch (end_at ip i) (end_at op o) (end_at tp t) }))
    where
      done : (found : Option End) → IsWritten (Move 3 0 n session ip i op o tp t (count_of found) priority)
      done found = written (Move 3 0 n session ip i op o tp t (count_of found) priority)
          (omega arith, omega arith, fits.2, fits.3, fits.4, fits.5, fits.6, fits.7, fits.8, fits.9, count_fits found, fits.11) (succeeds, told_branches found)

      by : (x : Option Failure) → IsWritten (handled_by s notes (Move result code n session ip i op o tp t branches priority) (requests.MoveBranch (end_at ip i) (end_at op o) (end_at tp t)) x).answer
      by (Some f) = written (Move 4 (failure_code f) n session ip i op o tp t branches priority) (omega arith, code_fits f, fits.2, fits.3, fits.4, fits.5, fits.6, fits.7, fits.8, fits.9, fits.10, fits.11) (code_fails f, asked_branches result branches said.1 (two_of result is))
      by None = done _
  answer_written (Port result code n port session function) fits said shape is =
      absurd (unasked (Port result code n port session function) (requests.PortManagement (record { 0 = port }) function) n session result code is refl refl shape)
  answer_written (AllPorts result code n rows) fits said shape is =
      by (failure_of s.ports s.vpis s.crossbar.branches (record { session = 0; request = requests.AllPorts }))
    where
      by : (x : Option Failure) → IsWritten (handled_by s notes (AllPorts result code n rows) requests.AllPorts x).answer
      by (Some f) = written (AllPorts 4 (failure_code f) n []) (omega arith, code_fits f, fits.2, omega arith, tt) (code_fails f, all_failed)
      by None = written (AllPorts 3 0 n (map port_row s.ports)) (omega arith, omega arith, fits.2, tells.few, tells.fits) (succeeds, rows_told s.ports tells.some)

-- it is read as it was said
pub answer_reads : (s : Switch) (notes : Journal) → TellsPorts s.ports → (m : Message) → Fits m → IsSaid m → ((x : Standing) → copy_of m ≡ Some x → IsAsked x.request) → is_request m ≡ true → IsReadable (handled s notes m).answer
answer_reads s notes tells m fits said shape is =
    (let w = answer_written s notes (record { some = tells.some; few = tells.few; fits = tells.fits }) m fits said shape is in readable (handled s notes m).answer w.0 w.1)
