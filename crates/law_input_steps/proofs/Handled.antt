-- the switch takes a message that is the one in its chain: a greeting, a request, or one that it ignores

use Rattle.std.proofs.Common.{◌≡◌, ℕ, Bool, true, false, List, [], ◌∷◌, Option, Some, None, refl, sym, ◌∙◌, ap, subst, if◌then◌else◌}
use Rattle.std.specs.Prelude.{◌&&◌}
use Rattle.law_input_views.specs.world_model.Words.{End, NodeId, Mark, HelloKind, Side, is_estab, Move, Request, Frame, Journal, Branches, cut_by_move, Head, head_of, Controller, numbers_of, Changed, asked_in, is_request, noted_cut, moved_by, ended_by, all_ended, inputs_on, branches_after, ports_after, applies, failure_of, is_busy, lacks_branch, Handled, handled, handled_asked, handled_by, refused, carried_out, failure_answer, success_answer, replied, requested, copy_of, copy_by}
use Rattle.law_input_views.specs.world_model.gsmp_wire.declared.message.Message.{Message}
use Rattle.law_input_views.specs.world_model.gsmp_wire.declared.message.Message.TheVariants.{Adjacency, Branch, Port, AllPorts}
use Rattle.law_input_views.specs.world_model.gsmp_wire.declared.message.BranchKind.TheVariants as kinds
use Rattle.law_input_views.specs.world_model.gsmp_wire.declared.request.Request.TheVariants as requests
use Rattle.law_input_views.specs.ordered_lists.Ordered.{Every}
use Rattle.law_input_views.specs.world_model.crossbar_model.declared.branch.Branch.{Branch as Led}
use Rattle.law_input_views.specs.world_model.crossbar_model.Crossbar.{output_of}
use Rattle.std.specs.FinMap as finite
use Rattle.law_input_views.specs.law_branch_line.Words as lines
use Rattle.law_input_views.specs.law_branch_line.Words.{ToSwitch, ControllerGreets, Copy, ToController, Answer, Success, Failure}
use Rattle.law_input_views.specs.law_branch_line.Line.{Line}
use Rattle.law_input_views.specs.law_branch_line.Switch.{reply, takes_requests, branch_after, handle}
use Rattle.law_input_views.specs.law_branch_line.Moves.{SwitchTakes, LoseAtSwitch}
use Rattle.law_input_views.specs.world_model.switch_model.declared.port.PortState.{PortState}
use Rattle.law_input_views.specs.world_model.switch_model.declared.request.Asked.{Asked}
use Rattle.law_input_views.specs.world_model.gsmp_wire.declared.failure.Failure.{Failure as Cause}
use Rattle.law_input_views.specs.world_model.gsmp_wire.declared.failure.Failure.TheVariants.{NoPort, BadSession, PortDown, OutOfRange, Busy, NoConnection, SessionsSpent}
use Rattle.law_input_views.specs.world_model.Switch.{ActedSwitch}
use Rattle.law_input_views.specs.world_model.Requests.{branch_ended}
use Rattle.law_input_views.specs.world_model.Conduct.{greeted, message_heard}
use Rattle.law_input_views.specs.law_shown_cells.Seen.{Seen, Nothing, Word, Unknown}
use Rattle.law_input_views.specs.Words.{is_own_greeting, seen_copy, word_of, erased}
use Rattle.law_input_views.specs.Shown.{controller_of, switch_of}
use Rattle.law_input_steps.specs.Part.{Part, part_beside, Stands, Reaches, AnyLine}
pub use Rattle.law_input_steps.specs.Hearing.{ReadsAnswers, AsksWell}
use Rattle.law_input_steps.proofs.Ends.{IsAsked}
use Rattle.law_input_steps.proofs.Goes.{by_move}
use Rattle.law_input_steps.proofs.Reach.{reaches_by, reaches_behind}
use Rattle.law_input_steps.proofs.Sent.{IsReadable}
use Rattle.law_input_steps.proofs.Branches.{none_found, branch_is}
use Rattle.law_input_steps.proofs.Asks.{seen_to_switch}
use Rattle.law_input_steps.proofs.Switching.{HasQueue, seen_back, switch_said, said_back, with_chain, greeted_line}

-- *A request makes no frame*, and no port
pub noted_frames : (notes : Journal) (o : Option Mark) → (noted_cut notes o).frames ≡ notes.frames
noted_frames notes None = refl
noted_frames notes (Some mark) = refl

pub ended_frames : (c : Changed) (i : End) (found : Option Led) → (ended_by c i found).notes.frames ≡ c.notes.frames
ended_frames c i None = refl
ended_frames c i (Some b) = noted_frames c.notes b.unfinished

pub all_ended_frames : (c : Changed) (is : List End) → (all_ended c is).notes.frames ≡ c.notes.frames
all_ended_frames c [] = refl
all_ended_frames c (i ∷ is) = all_ended_frames (branch_ended c i) is ∙ ended_frames c i (finite.get c.branches i)

pub moved_frames : (c : Changed) (i to : End) (found : Option Led) → (moved_by c i to found).notes.frames ≡ c.notes.frames
moved_frames c i to None = refl
moved_frames c i to (Some b) = noted_frames c.notes (cut_by_move b to)

after_frames : (c : Changed) (r : Request) → IsAsked r → (branches_after c r).notes.frames ≡ c.notes.frames
after_frames c (requests.AddBranch i o) shape = refl
after_frames c (requests.MoveBranch i from to) shape = moved_frames c i to (finite.get c.branches i)
after_frames c (requests.DeleteTree i) shape = ended_frames c i (finite.get c.branches i)
after_frames c (requests.VerifyTree i) shape = absurd shape
after_frames c (requests.DeleteAll port) shape = all_ended_frames c (inputs_on c.branches port)
after_frames c (requests.PortManagement port function) shape = absurd shape
after_frames c requests.AllPorts shape = refl

same_ports : (ports : List PortState) (r : Request) → IsAsked r → ports_after ports r ≡ ports
same_ports ports (requests.AddBranch i o) shape = refl
same_ports ports (requests.MoveBranch i from to) shape = refl
same_ports ports (requests.DeleteTree i) shape = refl
same_ports ports (requests.VerifyTree i) shape = absurd shape
same_ports ports (requests.DeleteAll port) shape = refl
same_ports ports (requests.PortManagement port function) shape = absurd shape
same_ports ports requests.AllPorts shape = refl

-- *Words* without the instance under which a copy was asked
pub copy_is : (m : ToSwitch) (n : ℕ) (q : lines.Request) → ◌≡◌ {A = Seen ToSwitch} (Word (erased m)) (Word (Copy 0 n q)) → (u : ℕ) × (m ≡ Copy u n q)
copy_is (ControllerGreets kind s r) n q h = absurd (cc h)
copy_is (Copy under k p) n q h =
    let a : k ≡ n = cc h in
    let b : p ≡ q = cc h in
    (under, λ i. Copy under (a i) (b i))

pub greets_is : (m : ToSwitch) (kind : HelloKind) (s r : ℕ) → ◌≡◌ {A = Seen ToSwitch} (Word (erased m)) (Word (ControllerGreets kind s r)) → m ≡ ControllerGreets kind s r
greets_is (ControllerGreets k a b) kind s r h =
    let x : k ≡ kind = cc h in
    let y : a ≡ s = cc h in
    let z : b ≡ r = cc h in
    λ i. ControllerGreets (x i) (y i) (z i)
greets_is (Copy under n q) kind s r h = absurd (cc h)

module _ (node : NodeId) (input : End) where
  back : (last : Bool) → Option Message → Seen ToController
  back last m = seen_back node input last m

  -- how an answer to a request shows, in each of its forms
  record Answering (m : Message) (asked : Asked) (n : ℕ) : Type 0 where
    success : (ports : List PortState) (b : Branches) → seen_back node input true (Some (success_answer ports b asked.request m)) ≡ Word (Answer 0 n (word_of input asked.request) Success)
    success_early : (ports : List PortState) (b : Branches) → seen_back node input false (Some (success_answer ports b asked.request m)) ≡ Nothing
    failure : (cause : Cause) → seen_back node input true (Some (failure_answer cause m)) ≡ Word (Answer 0 n (word_of input asked.request) Failure)
    failure_early : (cause : Cause) → seen_back node input false (Some (failure_answer cause m)) ≡ Nothing

  carried : (c : Controller) (a : ActedSwitch) (m : Message) (r : Request) (line : Line) → IsAsked r
      → is_busy a.switch.crossbar.branches r ≡ false → lacks_branch a.switch.crossbar.branches r ≡ false → Stands node input (part_beside input c a) line
      → let h : Handled = carried_out a.switch a.notes m r in
      Stands node input (part_beside input c (record a { switch = h.switch; notes = h.notes })) (record line { switch = record line.switch { branch = branch_after (word_of input r) line.switch.branch } })
  carried c a m r line shape busy lacks h =
      let p : Part = part_beside input c a in
      let done : Changed = branches_after (record { branches = a.switch.crossbar.branches; notes = a.notes }) r in
      subst (λ (frames : List Frame). Stands node input (record p { branch = output_of done.branches input; frames = frames; ports = numbers_of (ports_after a.switch.ports r) })
      (record line { switch = record line.switch { branch = branch_after (word_of input r) line.switch.branch } }))
      (sym (after_frames (record { branches = a.switch.crossbar.branches; notes = a.notes }) r shape))
      (subst (λ (ports : List PortState). Stands node input (record p { branch = output_of done.branches input; ports = numbers_of ports })
      (record line { switch = record line.switch { branch = branch_after (word_of input r) line.switch.branch } }))
      (sym (same_ports a.switch.ports r shape))
      (record {
        own = h.own;
        far = record {
          side = h.far.side;
          branch = ap (branch_after (word_of input r)) h.far.branch ∙ sym (branch_is input (record { branches = a.switch.crossbar.branches; notes = a.notes }) r shape busy lacks);
        };
        to_switch = h.to_switch;
        at_switch = h.at_switch;
        to_controller = h.to_controller;
        gathered = h.gathered;
        at_controller = h.at_controller;
        drawn = h.drawn;
        before = h.before;
        behind = h.behind;
        unmade = h.unmade;
        numbered = h.numbered;
      }))

  answered_line : (c : Controller) (a : ActedSwitch) (m : Message) (asked : Asked) (u n : ℕ) (line : Line) (cause : Option Cause)
      → failure_of a.switch.ports a.switch.vpis a.switch.crossbar.branches asked ≡ cause → Answering m asked n → IsAsked asked.request → HasQueue a.switch
      → takes_requests line.switch.adjacency.state ≡ true → IsReadable (handled_by a.switch a.notes m asked.request cause).answer
      → Stands node input (part_beside input c a) (with_chain node input line [])
      → Reaches node input (part_beside input c (replied a (handled_by a.switch a.notes m asked.request cause))) AnyLine (with_chain node input line (Copy u n (word_of input asked.request) ∷ []))
  answered_line c a m asked u n line (Some cause) is forms shape some takes reads h =
      let w : lines.Request = word_of input asked.request in
      let b : Line = with_chain node input line [] in
      let full : Line = with_chain node input line (Copy u n w ∷ []) in
      reaches_behind node input (part_beside input c (replied a (refused a.switch a.notes m cause))) AnyLine full (reply b (Answer u n w Failure ∷ []))
      (by_move full (SwitchTakes Failure) (reply b (Answer u n w Failure ∷ [])) (ap (λ (t : Bool). if t then handle b u n w Failure else b) takes))
      (switch_said input c (λ (q : Part). Reaches node input q AnyLine (reply b (Answer u n w Failure ∷ []))) a (failure_answer cause m) some
      (λ fits. said_back node input (part_beside input c a) (failure_answer cause m) (Answer u n w Failure) fits b reads (forms.failure_early cause) (forms.failure cause) h))
  answered_line c a m asked u n line None is forms shape some takes reads h =
      let r : Request = asked.request in
      let w : lines.Request = word_of input r in
      let b : Line = with_chain node input line [] in
      let full : Line = with_chain node input line (Copy u n w ∷ []) in
      let done : Handled = carried_out a.switch a.notes m r in
      let z : ActedSwitch = record a { switch = done.switch; notes = done.notes } in
      let after : Line = record b { switch = record b.switch { branch = branch_after w b.switch.branch } } in
      let tests : Every (λ (f : Cause). applies a.switch.ports a.switch.vpis a.switch.crossbar.branches asked f ≡ false) (NoPort ∷ BadSession ∷ PortDown ∷ OutOfRange ∷ Busy ∷ NoConnection ∷ SessionsSpent ∷ [])
      = none_found (applies a.switch.ports a.switch.vpis a.switch.crossbar.branches asked) (NoPort ∷ BadSession ∷ PortDown ∷ OutOfRange ∷ Busy ∷ NoConnection ∷ SessionsSpent ∷ []) is in
      reaches_behind node input (part_beside input c (replied a done)) AnyLine full (reply after (Answer u n w Success ∷ []))
      (by_move full (SwitchTakes Success) (reply after (Answer u n w Success ∷ [])) (ap (λ (t : Bool). if t then handle b u n w Success else b) takes))
      (switch_said input c (λ (q : Part). Reaches node input q AnyLine (reply after (Answer u n w Success ∷ []))) z done.answer some
      (λ fits. said_back node input (part_beside input c z) done.answer (Answer u n w Success) fits after reads
      (forms.success_early (ports_after a.switch.ports r) (branches_after (record { branches = a.switch.crossbar.branches; notes = a.notes }) r).branches)
      (forms.success (ports_after a.switch.ports r) (branches_after (record { branches = a.switch.crossbar.branches; notes = a.notes }) r).branches)
      (carried c a m r b shape tests.1.1.1.1.0 tests.1.1.1.1.1.0 h)))

  -- one that isn't taken is lost
  ignored : (c : Controller) (a : ActedSwitch) (line : Line) (w : ToSwitch) → Stands node input (part_beside input c a) (with_chain node input line [])
      → Reaches node input (part_beside input c a) AnyLine (with_chain node input line (w ∷ []))
  ignored c a line w h = reaches_by node input (part_beside input c a) (with_chain node input line (w ∷ [])) (with_chain node input line [])
      (by_move (with_chain node input line (w ∷ [])) (LoseAtSwitch 0) (with_chain node input line []) refl) h

  line_takes : (c : Controller) (a : ActedSwitch) (line : Line) → Stands node input (part_beside input c a) line → is_estab a.switch.adjacency.state ≡ takes_requests line.switch.adjacency.state
  line_takes c a line h = ap (λ (s : Side _). is_estab s.state) h.far.side

  request_line : (c : Controller) (a : ActedSwitch) (m : Message) (asked : Asked) (head : Head) (line : Line) (w : ToSwitch) → asked_in m ≡ Some asked → head_of m ≡ Some head
      → Answering m asked head.number → HasQueue a.switch → AsksWell m → (is_request m ≡ true → IsReadable (handled a.switch a.notes m).answer)
      → seen_copy input (copy_of m) ≡ Word (erased w) → Stands node input (part_beside input c a) (with_chain node input line [])
      → Reaches node input (part_beside input c (requested a m)) AnyLine (with_chain node input line (w ∷ []))
  request_line c a m asked head line w asks heads forms some well reads seen h =
      by (is_request m) (is_estab a.switch.adjacency.state) refl refl
    where
      copied : is_request m ≡ true → copy_of m ≡ Some (record { number = head.number; request = asked.request })
      copied t = ap (λ (b : Bool). if b then copy_by (head_of m) (asked_in m) else None) t ∙ (λ i. copy_by (heads i) (asks i))

      by : (r e : Bool) → is_request m ≡ r → is_estab a.switch.adjacency.state ≡ e
          → Reaches node input (part_beside input c (if r && e then replied a (handled a.switch a.notes m) else a)) AnyLine (with_chain node input line (w ∷ []))
      by false e is estab = ignored c a line w h
      by true false is estab = ignored c a line w h
      by true true is estab =
          let word : (u : ℕ) × (w ≡ Copy u head.number (word_of input asked.request)) =
          copy_is w head.number (word_of input asked.request) (sym seen ∙ ap (seen_copy input) (copied is)) in
          let same : handled a.switch a.notes m ≡ handled_by a.switch a.notes m asked.request (failure_of a.switch.ports a.switch.vpis a.switch.crossbar.branches asked) =
          ap (handled_asked a.switch a.notes m) asks in
          subst (λ (x : ToSwitch). Reaches node input (part_beside input c (replied a (handled a.switch a.notes m))) AnyLine (with_chain node input line (x ∷ []))) (sym word.1)
          (subst (λ (d : Handled). Reaches node input (part_beside input c (replied a d)) AnyLine (with_chain node input line (Copy word.0 head.number (word_of input asked.request) ∷ []))) (sym same)
          (answered_line c a m asked word.0 head.number line (failure_of a.switch.ports a.switch.vpis a.switch.crossbar.branches asked) refl forms
          (well (record { number = head.number; request = asked.request }) (copied is)) some (sym (line_takes c a (with_chain node input line []) h) ∙ estab)
          (subst (λ (d : Handled). IsReadable d.answer) same (reads is)) h))

  -- *The message in hand* shows a word
  pub told_word : (c : Controller) (a : ActedSwitch) (m : Message) (line : Line) (w : ToSwitch) → HasQueue a.switch → AsksWell m → ReadsAnswers a m
      → seen_to_switch node input true (Some m) ≡ Word (erased w) → Stands node input (part_beside input c a) (with_chain node input line [])
      → Reaches node input (part_beside input c (message_heard a m)) AnyLine (with_chain node input line (w ∷ []))
  told_word c a (Adjacency g) line w some well reads seen h =
      by (is_own_greeting (controller_of node) (switch_of node) g) refl seen
    where
      by : (b : Bool) → is_own_greeting (controller_of node) (switch_of node) g ≡ b
          → (if b then Word (ControllerGreets g.kind g.sender.instance.0 g.receiver.instance.0) else Unknown) ≡ Word (erased w)
          → Reaches node input (part_beside input c (greeted a g)) AnyLine (with_chain node input line (w ∷ []))
      by true own s = subst (λ (x : ToSwitch). Reaches node input (part_beside input c (greeted a g)) AnyLine (with_chain node input line (x ∷ [])))
          (sym (greets_is w g.kind g.sender.instance.0 g.receiver.instance.0 (sym s))) (greeted_line node input c a line g own some (reads.greets g refl) h)
      by false own s = absurd (cc s)
  told_word c a (Branch kinds.Add result code n session ip i op o br pr) line w some well reads seen h =
      request_line c a (Branch kinds.Add result code n session ip i op o br pr) _ (record { result = result; code = code; number = n }) line w refl refl
      (record { success = λ ports b. refl; success_early = λ ports b. refl; failure = λ cause. refl; failure_early = λ cause. refl }) some well reads.answers seen h
  told_word c a (Branch kinds.Delete result code n session ip i op o br pr) line w some well reads seen h =
      request_line c a (Branch kinds.Delete result code n session ip i op o br pr) _ (record { result = result; code = code; number = n }) line w refl refl
      (record { success = λ ports b. refl; success_early = λ ports b. refl; failure = λ cause. refl; failure_early = λ cause. refl }) some well reads.answers seen h
  told_word c a (Branch kinds.Verify result code n session ip i op o br pr) line w some well reads seen h =
      request_line c a (Branch kinds.Verify result code n session ip i op o br pr) _ (record { result = result; code = code; number = n }) line w refl refl
      (record { success = λ ports b. refl; success_early = λ ports b. refl; failure = λ cause. refl; failure_early = λ cause. refl }) some well reads.answers seen h
  told_word c a (Branch kinds.DeleteAll result code n session ip i op o br pr) line w some well reads seen h =
      request_line c a (Branch kinds.DeleteAll result code n session ip i op o br pr) _ (record { result = result; code = code; number = n }) line w refl refl
      (record { success = λ ports b. refl; success_early = λ ports b. refl; failure = λ cause. refl; failure_early = λ cause. refl }) some well reads.answers seen h
  told_word c a (Move result code n session ip i op o tp t br pr) line w some well reads seen h =
      request_line c a (Move result code n session ip i op o tp t br pr) _ (record { result = result; code = code; number = n }) line w refl refl
      (record { success = λ ports b. refl; success_early = λ ports b. refl; failure = λ cause. refl; failure_early = λ cause. refl }) some well reads.answers seen h
  told_word c a (Port result code n port session function) line w some well reads seen h =
      request_line c a (Port result code n port session function) _ (record { result = result; code = code; number = n }) line w refl refl
      (record { success = λ ports b. refl; success_early = λ ports b. refl; failure = λ cause. refl; failure_early = λ cause. refl }) some well reads.answers seen h
  told_word c a (AllPorts result code n rows) line w some well reads seen h =
      request_line c a (AllPorts result code n rows) _ (record { result = result; code = code; number = n }) line w refl refl
      (record { success = λ ports b. refl; success_early = λ ports b. refl; failure = λ cause. refl; failure_early = λ cause. refl }) some well reads.answers seen h

  -- or shows nothing, and then it is ignored
  nothing_asked : (a : ActedSwitch) (m : Message) (asked : Asked) (head : Head) → asked_in m ≡ Some asked → head_of m ≡ Some head → seen_copy input (copy_of m) ≡ Nothing → requested a m ≡ a
  nothing_asked a m asked head asks heads seen = by (is_request m) refl
    where
      by : (r : Bool) → is_request m ≡ r → (if r && is_estab a.switch.adjacency.state then replied a (handled a.switch a.notes m) else a) ≡ a
      by false is = refl
      by true is = absurd (cc (sym (ap (seen_copy input) (ap (λ (b : Bool). if b then copy_by (head_of m) (asked_in m) else None) is ∙ (λ i. copy_by (heads i) (asks i)))) ∙ seen))

  pub told_nothing : (a : ActedSwitch) (m : Message) → seen_to_switch node input true (Some m) ≡ Nothing → message_heard a m ≡ a
  told_nothing a (Adjacency g) seen = absurd (by (is_own_greeting (controller_of node) (switch_of node) g) seen)
    where
      by : (b : Bool) → (if b then Word (ControllerGreets g.kind g.sender.instance.0 g.receiver.instance.0) else Unknown) ≡ Nothing → ⊥
      by true s = absurd (cc s)
      by false s = absurd (cc s)
  told_nothing a (Branch kind result code n session ip i op o br pr) seen = nothing_asked a (Branch kind result code n session ip i op o br pr) _ _ refl refl seen
  told_nothing a (Move result code n session ip i op o tp t br pr) seen = nothing_asked a (Move result code n session ip i op o tp t br pr) _ _ refl refl seen
  told_nothing a (Port result code n port session function) seen = nothing_asked a (Port result code n port session function) _ _ refl refl seen
  told_nothing a (AllPorts result code n rows) seen = nothing_asked a (AllPorts result code n rows) _ _ refl refl seen
