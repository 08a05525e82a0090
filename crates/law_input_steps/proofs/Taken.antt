-- the controller takes the message in hand: an answer to nothing that stands, a failure, a success, the ports

use Rattle.std.proofs.Common.{◌≡◌, ℕ, ◌<◌, Bool, true, false, not, ◌||◌, List, [], ◌∷◌, Some, refl, sym, ◌∙◌, ap, subst, filter, map, arith, if◌then◌else◌}
use Rattle.std.specs.List.{list_any}
use Rattle.std.specs.Prelude.{◌==◌}
use Rattle.std.proofs.lemmas.Bool.Decides.{nat_tests}
use Rattle.law_input_views.specs.world_model.Words.{End, NodeId, PortNo, is_estab, PortRow, Standing, Head, without_request, Switch, asked_in, with_desk, asks, node_resets, empties, up_ports, takes_answer, answer_comes}
use Rattle.law_input_views.specs.world_model.gsmp_wire.declared.message.BranchKind.TheVariants as kinds
use Rattle.law_input_views.specs.world_model.gsmp_wire.declared.message.Message.{Message}
use Rattle.law_input_views.specs.world_model.gsmp_wire.declared.message.Message.TheVariants as messages
use Rattle.law_input_views.specs.world_model.gsmp_wire.declared.request.Request.TheVariants.{AllPorts}
use Rattle.law_input_views.specs.ordered_lists.Ordered.{Every, InOrder}
use Rattle.law_input_views.specs.world_model.port_model.DeskAnswers as answers
use Rattle.law_input_views.specs.law_branch_line.Words.{Request as LineRequest, message_type, Success, ToController, Answer}
use Rattle.law_input_views.specs.law_branch_line.Line.{Other, Meeting, Listing, Emptying, Met, MetAndAsked, Line}
use Rattle.law_input_views.specs.law_branch_line.Asking.{has_met}
use Rattle.law_input_views.specs.law_branch_line.Controller.{answers_asked, answers_other, input_answered, other_answered, hear_answer, empty_ports}
use Rattle.law_input_views.specs.law_branch_line.Moves.{ControllerTakes, LoseAtController}
use Rattle.law_input_views.specs.world_model.switch_model.declared.request.Asked.{Asked}
use Rattle.law_input_views.specs.world_model.Controller.{Acted}
use Rattle.law_input_views.specs.Words.{type_of, word_of, is_own, own_of, other_of, others_of}
use Rattle.law_input_views.specs.Shown.{AskedShows, IsAllPorts, IsDeleteAll, PhaseShows}
use Rattle.law_input_steps.specs.Part.{Part, part_at, IsEarlier, Stands, Reaches, AnyLine}
use Rattle.law_input_steps.specs.Meeting.{in_desk}
use Rattle.law_input_steps.proofs.Lists.{filter_skips, filter_front}
use Rattle.law_input_steps.proofs.Ends.{concerns, is_other, own_test}
use Rattle.law_input_steps.proofs.Goes.{by_move}
use Rattle.law_input_steps.proofs.Reach.{reaches_by, reaches_behind}
use Rattle.law_input_steps.proofs.Resets.{node_resets_from}
use Rattle.law_input_steps.proofs.Answered.{type_in, eq_true, Found, found_at, met_after, word_type, AfterAnswer, answered_part, not_asked, is_it, with_hand, success_line}
use Rattle.law_input_steps.proofs.Listed.{with_meeting, MayEmpty, IsAround, empties_line}

-- what a message asks is of its type
some_is : {A : Type 0} (a b : A) → Some a ≡ Some b → a ≡ b
some_is a b h = cc h

abbrev asked_type : Asked → ℕ
asked_type asked = type_of asked.request

type_asked : (m : Message) (asked : Asked) → asked_in m ≡ Some asked → type_of asked.request ≡ type_in m
type_asked (messages.Adjacency greeting) asked h = absurd (cc h)
type_asked (messages.Branch kinds.Add r c n s ip i op o br pr) asked h = ap asked_type (sym (some_is _ asked h))
type_asked (messages.Branch kinds.Delete r c n s ip i op o br pr) asked h = ap asked_type (sym (some_is _ asked h))
type_asked (messages.Branch kinds.Verify r c n s ip i op o br pr) asked h = ap asked_type (sym (some_is _ asked h))
type_asked (messages.Branch kinds.DeleteAll r c n s ip i op o br pr) asked h = ap asked_type (sym (some_is _ asked h))
type_asked (messages.Move r c n s ip i op o tp t br pr) asked h = ap asked_type (sym (some_is _ asked h))
type_asked (messages.Port r c n p s f) asked h = ap asked_type (sym (some_is _ asked h))
type_asked (messages.AllPorts r c n rows) asked h = ap asked_type (sym (some_is _ asked h))

number_self : (n : ℕ) → (n == n) ≡ true
number_self n = grind (arith, nat_tests)

-- a line that isn't met, where All Ports stands, is Listing
pub listing : (meeting : Meeting) (s : Standing) → s.request ≡ AllPorts → has_met meeting ≡ false → PhaseShows meeting (s ∷ []) → meeting ≡ Listing
listing Listing s is met phase = refl
listing Emptying s is met phase = absurd (subst IsDeleteAll is phase.0)
listing Met s is met phase = absurd (cc met)
listing MetAndAsked s is met phase = absurd (cc met)

module _ (node : NodeId) (input : End) where
  -- *The word in hand*, or none, is lost
  pub lost_line : (p : Part) (line : Line) (w : ToController) → Stands node input p (with_hand node input line []) → Reaches node input p AnyLine (with_hand node input line (w ∷ []))
  lost_line p line w h = reaches_by node input p (with_hand node input line (w ∷ [])) (with_hand node input line []) (by_move (with_hand node input line (w ∷ [])) (LoseAtController 0) (with_hand node input line []) refl) h

  -- *An answer to nothing that stands*
  pub unknown_line : (switch : Switch) (a : Acted) (m : Message) (line : Line) (w : ToController) → answers.answered a.controller.desk m ≡ answers.Unknown
      → Stands node input (part_at input switch a) (with_hand node input line []) → Reaches node input (part_at input switch (answer_comes a m)) AnyLine (with_hand node input line (w ∷ []))
  unknown_line switch a m line w is h = subst (λ (z : answers.Answered). Reaches node input (part_at input switch (takes_answer a z)) AnyLine (with_hand node input line (w ∷ []))) (sym is)
      (lost_line (part_at input switch a) line w h)

  -- *A failure* resets the node
  pub failed_line : (switch : Switch) (a : Acted) (m : Message) (s : Standing) (code : ℕ) (line : Line) (w : ToController) → answers.answered a.controller.desk m ≡ answers.Failed s code
      → Stands node input (part_at input switch a) (with_hand node input line []) → Reaches node input (part_at input switch (answer_comes a m)) AnyLine (with_hand node input line (w ∷ []))
  failed_line switch a m s code line w is h = subst (λ (z : answers.Answered). Reaches node input (part_at input switch (takes_answer a z)) AnyLine (with_hand node input line (w ∷ []))) (sym is)
      (reaches_behind node input (part_at input switch (node_resets (with_desk a (without_request a.controller.desk s)))) AnyLine (with_hand node input line (w ∷ [])) (with_hand node input line [])
      (by_move (with_hand node input line (w ∷ [])) (LoseAtController 0) (with_hand node input line []) refl)
      (failing switch a s (with_hand node input line []) h))
    where
      failing : (switch : Switch) (a : Acted) (s : Standing) (b : Line) → Stands node input (part_at input switch a) b
          → Reaches node input (part_at input switch (node_resets (with_desk a (without_request a.controller.desk s)))) AnyLine b
      failing switch a s b k = node_resets_from node input switch a (without_request a.controller.desk s) refl refl b k

  -- *A success*, but of All Ports: the request stands no more
  pub done_line : (switch : Switch) (a : Acted) (m : Message) (asked : Asked) (head : Head) (s : Standing) (line : Line) (under : ℕ) → asked_in m ≡ Some asked
      → in_desk m head a.controller.desk ≡ Some s → (IsAllPorts s.request → ⊥) → is_estab a.controller.adjacency.state ≡ true
      → Stands node input (part_at input switch a) (with_hand node input line [])
      → Reaches node input (answered_part (part_at input switch a) s)
      (AfterAnswer input s a.controller.has_met (met_after a.controller.has_met (without_request a.controller.desk s).standing))
      (with_hand node input line (Answer under head.number (word_of input asked.request) Success ∷ []))
  done_line switch a m asked head s line under asks found unlisted estab h =
      success_line node input (part_at input switch a) line under head.number (type_in m) (word_of input asked.request) s
      (word_type input asked.request ∙ type_asked m asked asks) (found_at head.number m a.controller.desk s h.numbered found) unlisted estab h

  -- *The ports*: each is asked to be emptied
  pub ports_line : (switch : Switch) (a : Acted) (m : Message) (asked : Asked) (head : Head) (s : Standing) (rows : List PortRow) (line : Line) (under : ℕ) (xs ys : List PortNo)
      → let b : Acted = with_desk a (record (without_request a.controller.desk s) { rows = rows }) in
      asked_in m ≡ Some asked → in_desk m head a.controller.desk ≡ Some s → a.controller.desk.standing ≡ s ∷ [] → s.request ≡ AllPorts → a.controller.has_met ≡ false
      → IsAround input (record { 0 = 0 } ∷ up_ports b.controller) xs ys line → MayEmpty (part_at input switch b) (record { 0 = 0 } ∷ up_ports b.controller)
      → Stands node input (part_at input switch a) (with_hand node input line [])
      → Reaches node input (part_at input switch (empties b)) AnyLine (with_hand node input line (Answer under head.number (word_of input asked.request) Success ∷ []))
  ports_line switch a m asked head s rows line under xs ys asks found alone is unmet around may h =
      reaches_behind node input (part_at input switch (empties b)) AnyLine (with_hand node input line (Answer under head.number q Success ∷ [])) (empty_ports bare)
      (by_move (with_hand node input line (Answer under head.number q Success ∷ [])) ControllerTakes (empty_ports bare) heard)
      (empties_line node input switch b bare (record { 0 = 0 } ∷ up_ports b.controller) xs ys
      (record { is = around.is; before = around.before; behind = around.behind; below = around.below; above = around.above }) may begun)
    where
      b : Acted
      b = with_desk a (record (without_request a.controller.desk s) { rows = rows })

      z : Line
      z = with_hand node input line []

      q : LineRequest
      q = word_of input asked.request

      typed : message_type q ≡ type_in m
      typed = word_type input asked.request ∙ type_asked m asked asks

      f : Found head.number (type_in m) a.controller.desk.standing s
      f = found_at head.number m a.controller.desk s h.numbered found

      own_away : is_own input s ≡ false
      own_away = own_test input s ∙ ap (concerns input) is

      own_none : own_of input a.controller.desk.standing ≡ []
      own_none = ap (own_of input) alone ∙ filter_skips (is_own input) s [] own_away

      asked_not : answers_asked head.number q z.controller.asked ≡ false
      asked_not = not_asked node input head.number (type_in m) q (is_estab z.controller.adjacency.state) (own_of input a.controller.desk.standing) z.controller.asked typed h.own.asked
          (subst (Every (λ (y : Standing). is_it head.number (type_in m) y ≡ false)) (sym own_none) tt) (subst (Every (λ (y : Standing). concerns input y.request ≡ true)) (sym own_none) tt)

      others : z.controller.others ≡ other_of s ∷ []
      others = h.own.others ∙ (ap (others_of input) alone ∙ ap (map other_of) (filter_front (is_other input) s [] (ap not own_away)))

      test : answers_other head.number q (other_of s) ≡ true
      test = eq_true head.number s.number (message_type q) (type_of s.request) f.number (typed ∙ f.code)

      kept : Other → Bool
      kept other = not (answers_other head.number q other)

      any : list_any (answers_other head.number q) z.controller.others ≡ true
      any = ap (list_any (answers_other head.number q)) others ∙ ap (λ (t : Bool). t || false) test

      none_left : filter (λ other. not (answers_other head.number q other)) z.controller.others ≡ []
      none_left = ap (filter (λ other. not (answers_other head.number q other))) others ∙ filter_skips (λ other. not (answers_other head.number q other)) (other_of s) [] (ap not test)

      phase : z.controller.meeting ≡ Listing
      phase = listing z.controller.meeting s is (h.own.met ∙ unmet) (subst (PhaseShows z.controller.meeting) alone h.own.phase)

      bare : Line
      bare = record z { controller = record z.controller { others = [] } }

      heard : hear_answer z head.number q Success ≡ empty_ports bare
      heard = ap (λ (t : Bool). if t then input_answered z else (if list_any (answers_other head.number q) z.controller.others
          then other_answered z z.controller.meeting (filter (λ other. not (answers_other head.number q other)) z.controller.others) else z)) asked_not
          ∙ (ap (λ (t : Bool). if t then other_answered z z.controller.meeting (filter (λ other. not (answers_other head.number q other)) z.controller.others) else z) any
          ∙ (λ i. other_answered z (phase i) (none_left i)))

      left : (without_request a.controller.desk s).standing ≡ []
      left = ap (filter (λ (other : Standing). not (other.number == s.number))) alone ∙ filter_skips (λ (other : Standing). not (other.number == s.number)) s [] (ap not (number_self s.number))

      begun : Stands node input (part_at input switch b) (with_meeting bare Emptying)
      begun = record {
        own = record {
          side = h.own.side;
          next = h.own.next;
          asked = subst (λ (y : List Standing). AskedShows input (is_estab z.controller.adjacency.state) y z.controller.asked) (own_none ∙ sym (ap (own_of input) left)) h.own.asked;
          others = sym (ap (others_of input) left);
          met = sym unmet;
          phase = subst (Every (λ (y : Standing). IsDeleteAll y.request)) (sym left) tt;
        };
        far = h.far;
        to_switch = h.to_switch;
        at_switch = h.at_switch;
        to_controller = h.to_controller;
        gathered = h.gathered;
        at_controller = h.at_controller;
        drawn = h.drawn;
        before = h.before;
        behind = h.behind;
        unmade = h.unmade;
        numbered = record {
          below = subst (Every (λ (y : Standing). y.number < a.controller.desk.next)) (sym left) tt;
          earlier = subst (InOrder IsEarlier) (sym left) tt;
        };
      }
