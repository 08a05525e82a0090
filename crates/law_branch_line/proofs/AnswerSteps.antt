-- what the controller does at an answer keeps the invariant

use Rattle.std.proofs.Common.{◌≡◌, ℕ, Bool, true, false, not, ◌||◌, List, [], ◌∷◌, filter, refl, arith, if◌then◌else◌}
use Rattle.std.specs.List.{list_any}
use Rattle.std.proofs.lemmas.Bool.Decides.{nat_tests}
use Rattle.adjacency_table.specs.declared.State.{State}
use Rattle.ordered_lists.specs.Ordered.{Every}
use Rattle.ordered_lists.proofs.Parts.{part_whole, part_none, part_join, part_filtered, every_part, holds_part}
use Rattle.law_branch_line.specs.Words.{InputRequest, Request, OnInput, Outcome, Success, Failure, ToController, Answer, answers}
use Rattle.law_branch_line.specs.Line.{Asked, Apart, Unasked, Stands, Answered, Other, Meeting, Listing, Emptying, Met, MetAndAsked, Line}
use Rattle.law_branch_line.specs.Asking.{ask_each}
use Rattle.law_branch_line.specs.Controller.{reset_node, deletes, meeting_after, answers_asked, answers_other, answered, input_answered, other_answered, hear_answer}
use Rattle.law_branch_line.proofs.Trip.{Up, trip}
use Rattle.law_branch_line.proofs.Kept.{InStep, IsIn, IsMeeting, IsOther, AreOthers, FitsFor, BeforeFor, IsKeptAs, IsKept, with_trip, with_meeting, with_others, others_when_answered}
use Rattle.law_branch_line.proofs.Exchanges.{input_is_answered}
use Rattle.law_branch_line.proofs.Stretches.{at_head}
use Rattle.law_branch_line.proofs.ControllerSteps.{reset_node_kept, ask_each_kept, asked_to_empty}

-- the invariant of a line whose controller takes this message next
abbrev pub IsKeptBefore : ToController → Line → Type 0
IsKeptBefore m w = IsKeptAs w.controller w.fresh (Up m ∷ trip w)

-- a message is taken and ignored
pub ignored : (w : Line) (m : ToController) → IsKeptBefore m w → IsKept w
ignored w m kept =
    with_trip w.controller w.fresh _ _ kept (holds_part (FitsFor w.controller) (BeforeFor w.controller)
    (part_join (part_none (Up m ∷ [])) (part_whole (trip w))) kept.good)

-- the next meeting after an answer to another request, or to the input's
meeting_on : (m : Meeting) (a : Asked) (left : List Other) → IsMeeting m a
    → IsMeeting (meeting_after m a left) a
meeting_on m a left h = grind arith

meeting_when_answered : (m : Meeting) (n : ℕ) (p : InputRequest) (left : List Other)
    → IsMeeting m (Stands n p) → IsMeeting (meeting_after m (Answered n p) left) (Answered n p)
meeting_when_answered m n p left h = grind arith

in_step_answered : (st : State) (n : ℕ) (p : InputRequest) → InStep st (Stands n p)
    → InStep st (Answered n p)
in_step_answered st n p h = grind arith

-- an answer to a request has its number
same_number : (n : ℕ) (q : Request) (m : ℕ) (p : Request) → answers n q m p ≡ true → n ≡ m
same_number n q m p e = grind (arith, nat_tests)

-- the input's request is answered
abbrev pub after_answer : Line → Asked → Line
after_answer w a = record w {
  controller = record w.controller {
    asked = answered a;
    meeting = meeting_after w.controller.meeting (answered a) w.controller.others;
  };
}

after_answer_kept : (w : Line) (a : Asked) (x n : ℕ) (q : Request) → w.controller.asked ≡ a
    → answers_asked n q a ≡ true → IsKeptBefore (Answer x n q Success) w → IsKept (after_answer w a)
after_answer_kept w Apart x n q e t kept = absurd cc
after_answer_kept w Unasked x n q e t kept = absurd cc
after_answer_kept w (Answered m p) x n q e t kept = absurd cc
after_answer_kept w (Stands m p) x n q e t kept = record {
  good =
      at_head w.controller.adjacency.own w.controller.next (Stands m p) w.controller.next (Answered m p)
      (Answer x n q Success) (trip w) (input_is_answered _ _ m x n p q
      (same_number n q m (OnInput p) t)) (rw e at kept.good);
  sound = record {
    others = others_when_answered _ _ m p w.controller.others (rw e at kept.sound.others);
    own = kept.sound.own;
    drawn = kept.sound.drawn;
    in_step = in_step_answered w.controller.adjacency.state m p (rw e at kept.sound.in_step);
    numbered = tt;
    meeting =
        meeting_when_answered w.controller.meeting m p w.controller.others (rw e at kept.sound.meeting);
  };
}

-- where another request stands, the controller is in Estab
others_in : (d k : ℕ) (a : Asked) (test : Other → Bool) (os : List Other) → list_any test os ≡ true
    → Every (IsOther d k a) os → IsIn a
others_in d k a test [] e h = absurd cc
others_in d k a test (o ∷ os) e h = let first : IsOther d k a o = h.0 in grind arith

-- the meeting goes on with what is left
left_over : (w : Line) (m : Meeting) (left : List Other) → IsMeeting m w.controller.asked
    → AreOthers w.controller left → IsKept w
    → IsKept (record w {
      controller = record w.controller
          { others = left; meeting = meeting_after m w.controller.asked left };
    })
left_over w m left h others kept = record {
  good = kept.good;
  sound =
      with_meeting (record w.controller { others = left }) w.fresh (meeting_after m w.controller.asked left)
      (meeting_on m w.controller.asked left h) (with_others w.controller w.fresh left others
      kept.sound);
}

-- another is answered
other_answered_kept : (w : Line) (m : Meeting) (left : List Other) → w.controller.meeting ≡ m
    → IsIn w.controller.asked → AreOthers w.controller left → IsKept w → IsKept (other_answered w m left)
other_answered_kept w Listing left e i others kept =
    let fewer : Line = record w { controller = record w.controller { others = left } } in
    let begun : IsKept fewer =
    record { good = kept.good; sound = with_others w.controller w.fresh left others kept.sound } in
    let asking : Line = ask_each fewer (deletes w.ports_before w.ports_behind) in
    let asked : IsKept asking =
    ask_each_kept fewer (deletes w.ports_before w.ports_behind) i (λ a. rw e tt) begun in
    record {
      good = asked.good;
      sound = with_meeting asking.controller asking.fresh Emptying
          (asked_to_empty fewer w.ports_before w.ports_behind) asked.sound;
    }
other_answered_kept w Emptying left e i others kept =
    left_over w Emptying left (rw e at kept.sound.meeting) others kept
other_answered_kept w Met left e i others kept =
    left_over w Met left (rw e at kept.sound.meeting) others kept
other_answered_kept w MetAndAsked left e i others kept =
    left_over w MetAndAsked left (rw e at kept.sound.meeting) others kept

hear_success : (w : Line) (x n : ℕ) (q : Request) → IsKeptBefore (Answer x n q Success) w
    → IsKept (hear_answer w n q Success)
hear_success w x n q kept =
    by (answers_asked n q w.controller.asked) (list_any (answers_other n q) w.controller.others) refl refl
  where
    left : List Other
    left = filter (λ other. not (answers_other n q other)) w.controller.others

    by : (ours theirs : Bool) → answers_asked n q w.controller.asked ≡ ours
        → list_any (answers_other n q) w.controller.others ≡ theirs
        → IsKept (if ours then input_answered w else (if theirs then other_answered w w.controller.meeting
        left else w))
    by true theirs e t = after_answer_kept w w.controller.asked x n q refl e kept
    by false true e t =
        let i : IsIn w.controller.asked =
        others_in _ _ w.controller.asked (answers_other n q) w.controller.others t kept.sound.others in
        let others : AreOthers w.controller left =
        every_part _ (part_filtered (λ other. not (answers_other n q other)) w.controller.others)
        kept.sound.others in
        other_answered_kept w w.controller.meeting left refl i others
        (ignored w (Answer x n q Success) kept)
    by false false e t = ignored w (Answer x n q Success) kept

reset_where : (w : Line) (matched : Bool) → IsKept w → IsKept (if matched then reset_node w else w)
reset_where w true kept = reset_node_kept w kept
reset_where w false kept = kept

pub hear_answer_kept : (w : Line) (x n : ℕ) (q : Request) (outcome : Outcome)
    → IsKeptBefore (Answer x n q outcome) w → IsKept (hear_answer w n q outcome)
hear_answer_kept w x n q Success kept = hear_success w x n q kept
hear_answer_kept w x n q Failure kept =
    reset_where w (answers_asked n q w.controller.asked || list_any (answers_other n q) w.controller.others)
    (ignored w (Answer x n q Failure) kept)
