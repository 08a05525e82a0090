-- What an answer means, by the request that it answers.

use Rattle.std.proofs.Common.{◌≡◌, ℕ, ◌==◌, ◌&&◌, Bool, true, false, cond, List, Option, None, Some, Contains, find, refl, sym, ◌∙◌}
use Rattle.gsmp_wire.specs.declared.message.Message.{Message}
use Rattle.gsmp_wire.specs.declared.message.Message.TheVariants as messages
use Rattle.gsmp_wire.specs.declared.rows.PortRow.{PortRow}
use Rattle.branch_desk.specs.port_model.Desk.{Desk, Standing}
use Rattle.branch_desk.specs.port_model.DeskAnswers.{Answered, Head, head_of, is_of_type, answered, outcome, succeeded}
use Rattle.branch_desk.specs.port_model.DeskAnswers.Answered.{Unknown, Done, Ports, Failed}
use Rattle.branch_desk.specs.Answers.{told}
use Rattle.branch_desk.specs.declared.answered.Answered.TheVariants as desk
use Rattle.controller_requests.proofs.Lists.{found_contains}

-- the request that is answered
abbrev pub named : Answered → Option Standing
named Unknown = None
named (Done s) = Some s
named (Ports s rows) = Some s
named (Failed s code) = Some s

named_success : (m : Message) (x : Standing) → named (succeeded m x) ≡ Some x
named_success (messages.Adjacency greeting) x = refl
named_success (messages.Branch kind result code number session input_port input output_port output branches priority) x = refl
named_success (messages.Move result code number session input_port input output_port output target_port target branches priority) x = refl
named_success (messages.Port result code number port session function) x = refl
named_success (messages.AllPorts result code number rows) x = refl

outcome_named : (m : Message) (head : Head) (x s : Standing) (a b : Bool) → named (cond a (succeeded m x) (cond b (Failed x head.code) Unknown)) ≡ Some s → x ≡ s
outcome_named m head x s true b h = cc (sym (named_success m x) ∙ h)
outcome_named m head x s false true h = cc h
outcome_named m head x s false false h = absurd (cc h)

pub named_stands : (d : Desk) (m : Message) (s : Standing) → named (answered d m) ≡ Some s → Contains d.standing s
named_stands d m s h = by (head_of m) refl h where
  found : (head : Head) (o : Option Standing) → find (λ y. y.number == head.number && is_of_type m y.request) d.standing ≡ o → named (outcome m head o) ≡ Some s → Contains d.standing s
  found head None is h = absurd (cc h)
  found head (Some x) is h =
      let same : x ≡ s = outcome_named m head x s (head.result == 3) (head.result == 4) h in
      rw (← same) (found_contains (λ (y : Standing). y.number == head.number && is_of_type m y.request) d.standing x is)

  by : (o : Option Head) → head_of m ≡ o → named (answered d m) ≡ Some s → Contains d.standing s
  by None e h = absurd (cc (rw e at h))
  by (Some head) e h = found head (find (λ y. y.number == head.number && is_of_type m y.request) d.standing) refl (rw e at h)

-- *The meaning from what the desk told*

pub told_done : (a : Answered) (s : Standing) → desk.Done s ≡ told a → a ≡ Done s
told_done Unknown s h = absurd (cc h)
told_done (Done x) s h = let same : s ≡ x = cc h in rw same refl
told_done (Ports x rows) s h = absurd (cc h)
told_done (Failed x code) s h = absurd (cc h)

pub told_ports : (a : Answered) (s : Standing) (rows : List PortRow) → desk.Ports rows s ≡ told a → a ≡ Ports s rows
told_ports Unknown s rows h = absurd (cc h)
told_ports (Done x) s rows h = absurd (cc h)
told_ports (Ports x others) s rows h =
    let same : s ≡ x = cc h in
    let same_rows : rows ≡ others = cc h in
    rw (same, same_rows) refl
told_ports (Failed x code) s rows h = absurd (cc h)

pub record IsFailure (a : Answered) (number code : ℕ) : Type 0 where
  pub request : Standing
  pub number_is : request.number ≡ number
  pub failed : a ≡ Failed request code

pub told_failed : (a : Answered) (number code : ℕ) → desk.Failed number code ≡ told a → IsFailure a number code
told_failed Unknown number code h = absurd (cc h)
told_failed (Done x) number code h = absurd (cc h)
told_failed (Ports x rows) number code h = absurd (cc h)
told_failed (Failed x other) number code h = record { request = x; number_is = cc h; failed = let same : code ≡ other = cc h in rw same refl }

pub told_unknown : (a : Answered) → desk.Unknown ≡ told a → a ≡ Unknown
told_unknown Unknown h = refl
told_unknown (Done x) h = absurd (cc h)
told_unknown (Ports x rows) h = absurd (cc h)
told_unknown (Failed x code) h = absurd (cc h)
