-- the controller has a frame of its switch in hand: what it does is moves of the line, where what it does at a success is

use Rattle.std.proofs.Common.{◌≡◌, ℕ, Bool, true, false, List, [], ◌∷◌, Option, Some, None, Result, Ok, Err, refl, sym, ◌∙◌, ap, subst, find, if◌then◌else◌}
use Rattle.std.specs.Prelude.{◌==◌, ◌&&◌}
use Rattle.law_input_views.specs.world_model.Words.{End, NodeId, HelloKind, gsmp_received, Standing, Head, head_of, is_of_type, asked_in, Switch, gsmp_holds, answer_comes, takes_answer, gsmp_of, copy_by}
use Rattle.law_input_views.specs.world_model.gsmp_wire.declared.fault.Fault.{Fault}
use Rattle.law_input_views.specs.world_model.gsmp_wire.declared.message.Message.{Message}
use Rattle.law_input_views.specs.world_model.gsmp_wire.declared.message.Message.TheVariants as messages
use Rattle.law_input_views.specs.world_model.gsmp_wire.Fields.{decoded}
use Rattle.law_input_views.specs.world_model.port_model.DeskAnswers as answers
use Rattle.law_input_views.specs.law_branch_line.Words as lines
use Rattle.law_input_views.specs.law_branch_line.Words.{ToController, SwitchGreets, Answer}
use Rattle.law_input_views.specs.law_branch_line.Line.{Line}
use Rattle.law_input_views.specs.world_model.switch_model.declared.request.Asked.{Asked}
use Rattle.law_input_views.specs.world_model.Controller.{Acted}
use Rattle.law_input_views.specs.world_model.Gsmp.{message_comes, steps}
use Rattle.law_input_views.specs.law_shown_cells.Seen.{Seen, Nothing, Word, Unknown}
use Rattle.law_input_views.specs.Words.{is_own_greeting, seen_answer, seen_answer_to, seen_outcome, outcome_of, erased_back}
use Rattle.law_input_views.specs.Shown.{controller_of, switch_of}
use Rattle.law_input_steps.specs.Part.{part_at, Stands, Reaches, AnyLine}
use Rattle.law_input_steps.specs.Hearing.{IsHeld, MayHold}
use Rattle.law_input_steps.proofs.Reach.{reaches_self}
use Rattle.law_input_steps.proofs.Greeted.{greeted_line}
use Rattle.law_input_steps.proofs.Taken.{unknown_line, failed_line}

-- what a decoder found
abbrev message_in : Result Message Fault → Option Message
message_in (Ok m) = Some m
message_in (Err fault) = None

pub greets_back : (w : ToController) (kind : HelloKind) (s r : ℕ) → ◌≡◌ {A = Seen ToController} (Word (erased_back w)) (Word (SwitchGreets kind s r)) → w ≡ SwitchGreets kind s r
greets_back (SwitchGreets k a b) kind s r h =
    let x : k ≡ kind = cc h in
    let y : a ≡ s = cc h in
    let z : b ≡ r = cc h in
    λ i. SwitchGreets (x i) (y i) (z i)
greets_back (Answer under n q o) kind s r h = absurd (cc h)

module _ (node : NodeId) (input : End) (switch : Switch) (a : Acted) (payload : List ℕ) (may : MayHold node input switch a payload) where
  abbrev seen : Option Message → Seen ToController
  seen m = seen_answer (switch_of node) (controller_of node) input true m

  read : (r : Result Message Fault) → decoded payload ≡ r → seen (gsmp_of payload) ≡ seen (message_in r)
  read r is = ap (λ (z : Result Message Fault). seen (message_in z)) is

  -- an answer, whatever it means to the desk
  answer_line : (m : Message) (line : Line) (w : ToController) → decoded payload ≡ Ok m → seen (Some m) ≡ Word (erased_back w)
      → (o : answers.Answered) → answers.answered a.controller.desk m ≡ o → Stands node input (part_at input switch a) (record line { at_controller = [] })
      → Reaches node input (part_at input switch (answer_comes a m)) AnyLine (record line { at_controller = w ∷ [] })
  answer_line m line w ok word answers.Unknown is h = unknown_line node input switch a m line w is h
  answer_line m line w ok word (answers.Failed s code) is h = failed_line node input switch a m s code line w is h
  answer_line m line w ok word (answers.Done s) is h = may.done m s line w ok is word h
  answer_line m line w ok word (answers.Ports s rows) is h = may.ports m s rows line w ok is word h

  told_line : (m : Message) (line : Line) (w : ToController) → decoded payload ≡ Ok m → seen (Some m) ≡ Word (erased_back w)
      → Stands node input (part_at input switch a) (record line { at_controller = [] }) → Reaches node input (part_at input switch (message_comes a m)) AnyLine (record line { at_controller = w ∷ [] })
  told_line (messages.Adjacency g) line w ok word h = by (is_own_greeting (switch_of node) (controller_of node) g) refl word
    where
      by : (b : Bool) → is_own_greeting (switch_of node) (controller_of node) g ≡ b
          → (if b then Word (SwitchGreets g.kind g.sender.instance.0 g.receiver.instance.0) else Unknown) ≡ Word (erased_back w)
          → Reaches node input (part_at input switch (steps a (gsmp_received a.controller.adjacency g))) AnyLine (record line { at_controller = w ∷ [] })
      by true own s = subst (λ (x : ToController). Reaches node input (part_at input switch (steps a (gsmp_received a.controller.adjacency g))) AnyLine (record line { at_controller = x ∷ [] }))
          (sym (greets_back w g.kind g.sender.instance.0 g.receiver.instance.0 (sym s))) (greeted_line node input switch a line g own may.all may.unmet (may.greets g ok) h)
      by false own s = absurd (cc s)
  told_line (messages.Branch kind r c n s ip i op o br pr) line w ok word h = answer_line (messages.Branch kind r c n s ip i op o br pr) line w ok word (answers.answered a.controller.desk (messages.Branch kind r c n s ip i op o br pr)) refl h
  told_line (messages.Move r c n s ip i op o tp t br pr) line w ok word h = answer_line (messages.Move r c n s ip i op o tp t br pr) line w ok word (answers.answered a.controller.desk (messages.Move r c n s ip i op o tp t br pr)) refl h
  told_line (messages.Port r c n p s f) line w ok word h = answer_line (messages.Port r c n p s f) line w ok word (answers.answered a.controller.desk (messages.Port r c n p s f)) refl h
  told_line (messages.AllPorts r c n rows) line w ok word h = answer_line (messages.AllPorts r c n rows) line w ok word (answers.answered a.controller.desk (messages.AllPorts r c n rows)) refl h

  holds_line : (r : Result Message Fault) (line : Line) (w : ToController) → decoded payload ≡ r → seen (gsmp_of payload) ≡ Word (erased_back w)
      → Stands node input (part_at input switch a) (record line { at_controller = [] }) → Reaches node input (part_at input switch (gsmp_holds a r)) AnyLine (record line { at_controller = w ∷ [] })
  holds_line (Ok m) line w is word h = told_line m line w is (sym (read (Ok m) is) ∙ word) h
  holds_line (Err fault) line w is word h = absurd (cc (sym (read (Err fault) is) ∙ word))

  -- *Neither a success nor a failure*
  no_outcome : (n : ℕ) (s : Standing) → seen_outcome input s (outcome_of n) ≡ Nothing → ((n == 3) ≡ false) × ((n == 4) ≡ false)
  no_outcome n s h = by (n == 3) (n == 4) refl refl h
    where
      by : (t f : Bool) → (n == 3) ≡ t → (n == 4) ≡ f → seen_outcome input s (if t then Some lines.Success else (if f then Some lines.Failure else None)) ≡ Nothing → ((n == 3) ≡ false) × ((n == 4) ≡ false)
      by true f p q k = absurd (cc k)
      by false true p q k = absurd (cc k)
      by false false p q k = (p, q)

  ignored : (m : Message) (head : Head) (found : Option Standing) → ((head.result == 3) ≡ false) × ((head.result == 4) ≡ false) → answers.outcome m head found ≡ answers.Unknown
  ignored m head None tests = refl
  ignored m head (Some s) tests = ap (λ (t : Bool). if t then answers.succeeded m s else (if head.result == 4 then answers.Failed s head.code else answers.Unknown)) tests.0
      ∙ ap (λ (t : Bool). if t then answers.Failed s head.code else answers.Unknown) tests.1

  unknown_is : (m : Message) (head : Head) (asked : Asked) → head_of m ≡ Some head → asked_in m ≡ Some asked → seen_answer_to input (head_of m) (copy_by (head_of m) (asked_in m)) ≡ Nothing
      → answers.answered a.controller.desk m ≡ answers.Unknown
  unknown_is m head asked heads asks quiet =
      ap (answers.answered_with a.controller.desk.standing m) heads
      ∙ ignored m head (find (λ (s : Standing). s.number == head.number && is_of_type m s.request) a.controller.desk.standing)
      (no_outcome head.result (record { number = head.number; request = asked.request }) (sym (λ i. seen_answer_to input (heads i) (copy_by (heads i) (asks i))) ∙ quiet))

  quiet_answer : (m : Message) (line : Line) → answers.answered a.controller.desk m ≡ answers.Unknown → Stands node input (part_at input switch a) line
      → Reaches node input (part_at input switch (answer_comes a m)) AnyLine line
  quiet_answer m line is h = subst (λ (z : answers.Answered). Reaches node input (part_at input switch (takes_answer a z)) AnyLine line) (sym is) (reaches_self node input (part_at input switch a) line h)

  quiet_line : (m : Message) (line : Line) → seen (Some m) ≡ Nothing → Stands node input (part_at input switch a) line → Reaches node input (part_at input switch (message_comes a m)) AnyLine line
  quiet_line (messages.Adjacency g) line quiet h = absurd (by (is_own_greeting (switch_of node) (controller_of node) g) quiet)
    where
      by : (b : Bool) → (if b then Word (SwitchGreets g.kind g.sender.instance.0 g.receiver.instance.0) else Unknown) ≡ Nothing → ⊥
      by true s = absurd (cc s)
      by false s = absurd (cc s)
  quiet_line (messages.Branch kind r c n s ip i op o br pr) line quiet h =
      quiet_answer (messages.Branch kind r c n s ip i op o br pr) line (unknown_is (messages.Branch kind r c n s ip i op o br pr) _ _ refl refl quiet) h
  quiet_line (messages.Move r c n s ip i op o tp t br pr) line quiet h =
      quiet_answer (messages.Move r c n s ip i op o tp t br pr) line (unknown_is (messages.Move r c n s ip i op o tp t br pr) _ _ refl refl quiet) h
  quiet_line (messages.Port r c n p s f) line quiet h = quiet_answer (messages.Port r c n p s f) line (unknown_is (messages.Port r c n p s f) _ _ refl refl quiet) h
  quiet_line (messages.AllPorts r c n rows) line quiet h = quiet_answer (messages.AllPorts r c n rows) line (unknown_is (messages.AllPorts r c n rows) _ _ refl refl quiet) h

  holds_quietly : (r : Result Message Fault) (line : Line) → decoded payload ≡ r → seen (gsmp_of payload) ≡ Nothing → Stands node input (part_at input switch a) line
      → Reaches node input (part_at input switch (gsmp_holds a r)) AnyLine line
  holds_quietly (Ok m) line is quiet h = quiet_line m line (sym (read (Ok m) is) ∙ quiet) h
  holds_quietly (Err fault) line is quiet h = reaches_self node input (part_at input switch (gsmp_holds a (Err fault))) line h

  pub is_held : IsHeld node input switch a payload
  is_held = record { told = λ line w word h. holds_line (decoded payload) line w refl word h; quiet = λ line quiet h. holds_quietly (decoded payload) line refl quiet h }
