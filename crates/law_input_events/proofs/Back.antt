-- a cell of the GSMP channel comes to a controller: what is asked of it holds of what its switch says

use Rattle.std.proofs.Common.{◌≡◌, ℕ, ◌+◌, ◌<◌, ◌≤◌, ◌^◌, Bool, true, false, not, List, [], ◌∷◌, ◌++◌, filter, find, Option, None, Some, Result, Ok, Err, refl, sym, ◌∙◌, ap, subst, arith, if◌then◌else◌}
use Rattle.std.specs.Prelude.{◌==◌, ◌&&◌, nat_lt}
use Rattle.std.specs.Option.{option_and_then}
use Rattle.std.proofs.lemmas.Bool.Decides.{nat_tests}
use Rattle.law_input_premises.specs.world_model.Words.{Greeting, HelloKind, Party, End, NodeId, side_of, step_by, gsmp_answer, gsmp_received, SideByInstances, row_for, Side, Step, is_estab, Cell, IsLinkPort, queue_of, popped, Request, AddBranch, MoveBranch, DeleteTree, VerifyTree, PortManagement, FitsRows, PortRow, PortNo, payload_of, last_mark, payload_in, Standing, Head, head_of, is_of_type, Answered, Unknown, Done, Ports, Failed, succeeded, outcome, answered_with, answered, without_request, Setup, with_desk, default_channel, same_channel, takes_answer, answer_comes, asked_in, Switch, control_port, numbers_of, gsmp_of, gsmp_under, copy_by}
use Rattle.law_input_premises.proofs.world_model.adjacency_table.EndsLemmas.{gsmp_received_by_instances}
use Rattle.law_input_premises.specs.world_model.gsmp_wire.Fields.{decoded}
use Rattle.law_input_premises.specs.world_model.gsmp_wire.declared.fault.Fault.{Fault}
use Rattle.law_input_premises.specs.world_model.gsmp_wire.declared.message.BranchKind.TheVariants as kinds
use Rattle.law_input_premises.specs.world_model.gsmp_wire.declared.message.Message.{Message}
use Rattle.law_input_premises.specs.world_model.gsmp_wire.declared.message.Message.TheVariants as messages
use Rattle.law_input_premises.specs.world_model.gsmp_wire.declared.message.Message.TheVariants.{Adjacency}
use Rattle.law_input_premises.specs.world_model.gsmp_wire.declared.request.Request.TheVariants.{DeleteAll, AllPorts}
use Rattle.law_input_premises.specs.world_model.port_model.Messages.{is_up}
use Rattle.law_input_premises.specs.law_port_facts.Port.{IsLabelEnd}
use Rattle.law_input_premises.specs.world_model.frame_model.Frame.{octets_of as cell_octets}
use Rattle.law_input_premises.specs.ordered_lists.Ordered.{Every}
use Rattle.law_input_premises.proofs.ordered_lists.Every.{every_right}
use Rattle.law_input_premises.proofs.law_port_facts.Found.{find_every, find_passes}
use Rattle.law_input_premises.proofs.law_port_facts.Rules.{and_second}
use Rattle.law_input_premises.specs.law_branch_line.Words as lines
use Rattle.law_input_premises.specs.law_branch_line.Words.{ToController, SwitchGreets, Answer, Outcome, Success, Failure}
use Rattle.law_input_premises.specs.law_branch_line.Line.{Line}
use Rattle.law_input_premises.specs.law_branch_line.Law.{RepeatsDrawn, HasDrawn, IsReached}
use Rattle.law_input_premises.specs.world_model.Controller.{Acted, ports_of, free_slots}
use Rattle.law_input_premises.specs.world_model.Meeting.{takes_success}
use Rattle.law_input_premises.proofs.law_controller_facts.Laws.{moves_sound}
use Rattle.law_input_premises.proofs.law_controller_facts.Moves.{gathering, moves_to}
use Rattle.law_input_premises.specs.law_controller.Order.{IsOther, IsDeleting, IsMeeting, listing, emptying}
use Rattle.law_input_premises.proofs.law_controller.Whole.{Whole}
use Rattle.law_input_premises.specs.world_model.switch_model.declared.request.Asked.{Asked}
use Rattle.law_input_premises.specs.world_model.Ways.{ok_of}
use Rattle.law_input_premises.specs.law_shown_cells.Seen.{Seen, Nothing, Word, Unknown}
use Rattle.law_input_premises.proofs.law_shown_cells.Shows.{First, no_word, a_word, first_of}
use Rattle.law_input_premises.specs.law_input_views.Words.{word_of, is_own_greeting, seen_answer, seen_answer_to, seen_outcome, seen_on_gsmp, seen_cell, erased_back}
use Rattle.law_input_premises.specs.law_input_views.Shown.{controller_of, switch_of, ShowsAnswers, IsAllPorts}
use Rattle.law_input_premises.specs.law_input_steps.Hearing.{IsEnded, Reads, MayHold, ComesBack, PassesTrue}
use Rattle.law_input_premises.specs.law_input_steps.Meeting.{in_desk, met_after, AfterAnswer, answered_part}
use Rattle.law_input_premises.specs.law_input_steps.Part.{Part, part_at, Stands, Reaches, AnyLine}
use Rattle.law_input_premises.proofs.law_input_steps.Done.{comes_line}
use Rattle.law_input_premises.proofs.law_input_steps.Held.{is_held, greets_back}
use Rattle.law_input_premises.proofs.law_input_steps.Reach.{reaches_then}
use Rattle.law_input_premises.proofs.law_input_steps.Taken.{done_line as answered_line, ports_line}
use Rattle.law_input_premises.proofs.law_input_steps.Lists.{filter_skips}
use Rattle.law_input_premises.proofs.law_input_steps.Parties.{greeting_is}
use Rattle.law_input_premises.specs.Read.{AreRead}
use Rattle.law_input_premises.proofs.Finishing.{can_finish}
use Rattle.law_input_premises.proofs.Reading.{controller_fits, switch_fits, ports_read}
use Rattle.law_input_premises.proofs.law_shown_cells.Tested.{frame_is, last_is}
use Rattle.law_input_events.specs.Coming.{TellsPorts, IsFromSwitch}
use Rattle.law_input_events.proofs.Ending.{estab, unmet_leads}
use Rattle.law_input_events.proofs.Heard.{step_reads}
use Rattle.law_input_events.proofs.Listing.{next_is, around_of, may_empty}
use Rattle.law_input_events.proofs.Spoken.{drawn, fits}

-- *Words*
answer_is : (w : ToController) (n : ℕ) (q : lines.Request) (o : Outcome) → ◌≡◌ {A = Seen ToController} (Word (erased_back w)) (Word (Answer 0 n q o)) → (u : ℕ) × (w ≡ Answer u n q o)
answer_is (SwitchGreets k a b) n q o h = absurd (cc h)
answer_is (Answer under m p t) n q o h =
    let x : m ≡ n = cc h in
    let y : p ≡ q = cc h in
    let z : t ≡ o = cc h in
    (under, λ i. Answer under (x i) (y i) (z i))

-- *What an answer is to*
is_done : (m : Message) (x s : Standing) → succeeded m x ≡ Done s → x ≡ s
is_done (Adjacency g) x s h = cc h
is_done (messages.Branch kind r c n t ip i op o br pr) x s h = cc h
is_done (messages.Move r c n t ip i op o tp u br pr) x s h = cc h
is_done (messages.Port r c n p t f) x s h = cc h
is_done (messages.AllPorts r c n rows) x s h = absurd (cc h)

abbrev IsDone : Message → Head → Option Standing → Standing → Type 0
IsDone m head found s = ((head.result == 3) ≡ true) × (found ≡ Some s) × (succeeded m s ≡ Done s)

done_to : (m : Message) (head : Head) (found : Option Standing) (s : Standing) → outcome m head found ≡ Done s → IsDone m head found s
done_to m head None s h = absurd (cc h)
done_to m head (Some x) s h = by (head.result == 3) (head.result == 4) refl h
  where
    by : (t f : Bool) → (head.result == 3) ≡ t → (if t then succeeded m x else (if f then Failed x head.code else Unknown)) ≡ Done s → IsDone m head (Some x) s
    by true f e k = (e, ap (λ (z : Standing). Some z) (is_done m x s k), ap (succeeded m) (sym (is_done m x s k)) ∙ k)
    by false true e k = absurd (cc k)
    by false false e k = absurd (cc k)

ports_to : (m : Message) (head : Head) (found : Option Standing) (s : Standing) (rows : List PortRow) → outcome m head found ≡ Ports s rows → (found ≡ Some s) × ((r : Request) → is_of_type m r ≡ true → IsOther r → ⊥)
ports_to m head None s rows h = absurd (cc h)
ports_to m head (Some x) s rows h = by (head.result == 3) (head.result == 4) h
  where
    listed : (m : Message) → succeeded m x ≡ Ports s rows → (Some x ≡ Some s) × ((r : Request) → is_of_type m r ≡ true → IsOther r → ⊥)
    listed (Adjacency g) k = absurd (cc k)
    listed (messages.Branch kind r c n t ip i op o br pr) k = absurd (cc k)
    listed (messages.Move r c n t ip i op o tp u br pr) k = absurd (cc k)
    listed (messages.Port r c n p t f) k = absurd (cc k)
    listed (messages.AllPorts r c n told_rows) k = (ap (λ (z : Standing). Some z) (let e : x ≡ s = cc k in e), λ q is other. only q is other)
      where
        only : (q : Request) → is_of_type (messages.AllPorts r c n told_rows) q ≡ true → IsOther q → ⊥
        only (AddBranch a b) is other = absurd (cc is)
        only (MoveBranch a b d) is other = absurd (cc is)
        only (DeleteTree a) is other = absurd (cc is)
        only (VerifyTree a) is other = absurd (cc is)
        only (DeleteAll p) is other = absurd (cc is)
        only (PortManagement p f) is other = absurd (cc is)
        only AllPorts is other = other

    by : (t f : Bool) → (if t then succeeded m x else (if f then Failed x head.code else Unknown)) ≡ Ports s rows → (Some x ≡ Some s) × ((r : Request) → is_of_type m r ≡ true → IsOther r → ⊥)
    by true f k = listed m k
    by false true k = absurd (cc k)
    by false false k = absurd (cc k)

unlisted : (r : Request) → IsOther r → IsAllPorts r → ⊥
unlisted AllPorts other is = other
unlisted (AddBranch a b) other is = is
unlisted (MoveBranch a b d) other is = is
unlisted (DeleteTree a) other is = is
unlisted (VerifyTree a) other is = is
unlisted (DeleteAll p) other is = is
unlisted (PortManagement p f) other is = is

-- what a success is to isn't All Ports, but where it tells the ports
unlisted_type : (m : Message) (s : Standing) → succeeded m s ≡ Done s → (r : Request) → is_of_type m r ≡ true → IsAllPorts r → ⊥
unlisted_type m s k (AddBranch a b) is all = all
unlisted_type m s k (MoveBranch a b d) is all = all
unlisted_type m s k (DeleteTree a) is all = all
unlisted_type m s k (VerifyTree a) is all = all
unlisted_type m s k (DeleteAll p) is all = all
unlisted_type m s k (PortManagement p f) is all = all
unlisted_type (Adjacency g) s k AllPorts is all = absurd (cc is)
unlisted_type (messages.Branch kinds.Add r c n t ip i op o br pr) s k AllPorts is all = absurd (cc is)
unlisted_type (messages.Branch kinds.Delete r c n t ip i op o br pr) s k AllPorts is all = absurd (cc is)
unlisted_type (messages.Branch kinds.Verify r c n t ip i op o br pr) s k AllPorts is all = absurd (cc is)
unlisted_type (messages.Branch kinds.DeleteAll r c n t ip i op o br pr) s k AllPorts is all = absurd (cc is)
unlisted_type (messages.Move r c n t ip i op o tp u br pr) s k AllPorts is all = absurd (cc is)
unlisted_type (messages.Port r c n p t f) s k AllPorts is all = absurd (cc is)
unlisted_type (messages.AllPorts r c n rows) s k AllPorts is all = absurd (cc k)

all_listed : (r : Request) → r ≡ AllPorts → IsAllPorts r
all_listed r is = subst IsAllPorts (sym is) tt

deleting_of : (standing : List Standing) (test : Standing → Bool) (s : Standing) → IsMeeting standing → find test standing ≡ Some s → (IsAllPorts s.request → ⊥) → IsDeleting s.request
deleting_of _ test s (listing x is) found other = absurd (other (all_listed s.request (find_every (λ (z : Standing). z.request ≡ AllPorts) test (x ∷ []) s (is, tt) found)))
deleting_of standing test s (emptying _ all) found other = find_every (λ (z : Standing). IsDeleting z.request) test standing s all found

-- *The ports are told*
never_ports : (m : Message) (head : Head) (found : Option Standing) (s : Standing) (rows : List PortRow) → ((x : Standing) → succeeded m x ≡ Ports s rows → ⊥) → outcome m head found ≡ Ports s rows → ⊥
never_ports m head None s rows never h = absurd (cc h)
never_ports m head (Some x) s rows never h = by (head.result == 3) (head.result == 4) h
  where
    by : (t f : Bool) → (if t then succeeded m x else (if f then Failed x head.code else Unknown)) ≡ Ports s rows → ⊥
    by true f k = never x k
    by false true k = absurd (cc k)
    by false false k = absurd (cc k)

listing_to : (result code n : ℕ) (told_rows : List PortRow) (found : Option Standing) (s : Standing) (rows : List PortRow)
    → outcome (messages.AllPorts result code n told_rows) (record { result = result; code = code; number = n }) found ≡ Ports s rows → ((result == 3) ≡ true) × (found ≡ Some s) × (told_rows ≡ rows)
listing_to result code n told_rows None s rows h = absurd (cc h)
listing_to result code n told_rows (Some x) s rows h = by (result == 3) (result == 4) refl h
  where
    by : (t f : Bool) → (result == 3) ≡ t → (if t then Ports x told_rows else (if f then Failed x code else Unknown)) ≡ Ports s rows → ((result == 3) ≡ true) × (Some x ≡ Some s) × (told_rows ≡ rows)
    by true f e k = (e, ap (λ (z : Standing). Some z) (let is : x ≡ s = cc k in is), (let is : told_rows ≡ rows = cc k in is))
    by false true e k = absurd (cc k)
    by false false e k = absurd (cc k)

all_type : (result code n : ℕ) (rows : List PortRow) (q : Request) → is_of_type (messages.AllPorts result code n rows) q ≡ true → q ≡ AllPorts
all_type result code n rows AllPorts is = refl
all_type result code n rows (AddBranch a b) is = absurd (cc is)
all_type result code n rows (MoveBranch a b d) is = absurd (cc is)
all_type result code n rows (DeleteTree a) is = absurd (cc is)
all_type result code n rows (VerifyTree a) is = absurd (cc is)
all_type result code n rows (DeleteAll p) is = absurd (cc is)
all_type result code n rows (PortManagement p f) is = absurd (cc is)

alone_of : (standing : List Standing) (test : Standing → Bool) (s : Standing) → IsMeeting standing → find test standing ≡ Some s → s.request ≡ AllPorts → standing ≡ s ∷ []
alone_of _ test s (listing x is) found all = by (test x) found
  where
    by : (b : Bool) → (if b then Some x else None) ≡ Some s → x ∷ [] ≡ s ∷ []
    by true e = ap (λ (z : Standing). z ∷ []) (let same : x ≡ s = cc e in same)
    by false e = absurd (cc e)
alone_of standing test s (emptying _ each) found all = absurd (subst IsDeleting all (find_every (λ (z : Standing). IsDeleting z.request) test standing s each found))

three_of : (n : ℕ) → (n == 3) ≡ true → n ≡ 3
three_of n is = grind (arith, nat_tests)

number_self : (n : ℕ) → (n == n) ≡ true
number_self n = grind (arith, nat_tests)

stands_estab : {setups : List Setup} (a : Acted) → Whole setups a → (s : Standing) → a.controller.desk.standing ≡ s ∷ [] → is_estab a.controller.adjacency.state ≡ true
stands_estab a whole s alone = by (is_estab a.controller.adjacency.state) refl
  where
    by : (t : Bool) → is_estab a.controller.adjacency.state ≡ t → is_estab a.controller.adjacency.state ≡ true
    by true e = e
    by false e = absurd (cc (sym (whole.sound.desk.waits e) ∙ alone))

module _ (setups : List Setup) (links : Every (λ (setup : Setup). IsLinkPort setup.port) setups) (node : NodeId) (input : End) (above : 1 ≤ input.port.0) where
  -- *An answer*, once the switch is met
  module _ (switch : Switch) (a : Acted) (whole : Whole setups a) (reads : AreRead setups a.controller.desk.rows) (met : a.controller.has_met ≡ true) where
    done_by : (m : Message) (asked : Asked) (head : Head) (s : Standing) (line : Line) (w : ToController) → head_of m ≡ Some head → asked_in m ≡ Some asked
        → seen_answer_to input (head_of m) (copy_by (head_of m) (asked_in m)) ≡ Word (erased_back w) → answered a.controller.desk m ≡ Done s
        → Stands node input (part_at input switch a) (record line { at_controller = [] })
        → Reaches node input (part_at input switch (answer_comes a m)) AnyLine (record line { at_controller = w ∷ [] })
    done_by m asked head s line w heads asks word is h =
        let test : Standing → Bool = λ s. s.number == head.number && is_of_type m s.request in
        let to : IsDone m head (in_desk m head a.controller.desk) s = done_to m head (find test a.controller.desk.standing) s (sym (ap (answered_with a.controller.desk.standing m) heads) ∙ is) in
        let n : ℕ = head.number in
        let q : lines.Request = word_of input asked.request in
        let shown : seen_answer_to input (head_of m) (copy_by (head_of m) (asked_in m)) ≡ Word (Answer 0 n q Success) =
        (λ i. seen_answer_to input (heads i) (copy_by (heads i) (asks i)))
        ∙ ap (λ (t : Bool). seen_outcome input (record { number = head.number; request = asked.request }) (if t then Some Success else (if head.result == 4 then Some Failure else None))) to.0 in
        let it : (u : ℕ) × (w ≡ Answer u n q Success) = answer_is w n q Success (sym word ∙ shown) in
        subst (λ (x : ToController). Reaches node input (part_at input switch (answer_comes a m)) AnyLine (record line { at_controller = x ∷ [] })) (sym it.1)
        (comes_line node input switch a m asked head s line it.0 asks to.1 is (unlisted s.request (find_every (λ (z : Standing). IsOther z.request) test a.controller.desk.standing s (whole.order.met met) to.1))
        (whole.sound.desk.met met) met (can_finish setups links input above a whole reads s test to.1 met) h)

    done_line : (m : Message) (s : Standing) (line : Line) (w : ToController) → answered a.controller.desk m ≡ Done s → seen_answer (switch_of node) (controller_of node) input true (Some m) ≡ Word (erased_back w)
        → Stands node input (part_at input switch a) (record line { at_controller = [] })
        → Reaches node input (part_at input switch (answer_comes a m)) AnyLine (record line { at_controller = w ∷ [] })
    done_line (Adjacency g) s line w is word h = absurd (cc is)
    done_line (messages.Branch kind r c n t ip i op o br pr) s line w is word h = done_by (messages.Branch kind r c n t ip i op o br pr) _ _ s line w refl refl word is h
    done_line (messages.Move r c n t ip i op o tp u br pr) s line w is word h = done_by (messages.Move r c n t ip i op o tp u br pr) _ _ s line w refl refl word is h
    done_line (messages.Port r c n p t f) s line w is word h = done_by (messages.Port r c n p t f) _ _ s line w refl refl word is h
    done_line (messages.AllPorts r c n rows) s line w is word h = done_by (messages.AllPorts r c n rows) _ _ s line w refl refl word is h

    unlisted_by : (m : Message) (head : Head) (s : Standing) (rows : List PortRow) → head_of m ≡ Some head → answered a.controller.desk m ≡ Ports s rows → ⊥
    unlisted_by m head s rows heads is =
        let test : Standing → Bool = λ s. s.number == head.number && is_of_type m s.request in
        let to = ports_to m head (find test a.controller.desk.standing) s rows (sym (ap (answered_with a.controller.desk.standing m) heads) ∙ is) in
        to.1 s.request (and_second (s.number == head.number) (is_of_type m s.request) (find_passes test a.controller.desk.standing s to.0))
        (find_every (λ (z : Standing). IsOther z.request) test a.controller.desk.standing s (whole.order.met met) to.0)

    no_ports : (m : Message) (s : Standing) (rows : List PortRow) → answered a.controller.desk m ≡ Ports s rows → ⊥
    no_ports (Adjacency g) s rows is = absurd (cc is)
    no_ports (messages.Branch kind r c n t ip i op o br pr) s rows is = unlisted_by (messages.Branch kind r c n t ip i op o br pr) _ s rows refl is
    no_ports (messages.Move r c n t ip i op o tp u br pr) s rows is = unlisted_by (messages.Move r c n t ip i op o tp u br pr) _ s rows refl is
    no_ports (messages.Port r c n p t f) s rows is = unlisted_by (messages.Port r c n p t f) _ s rows refl is
    no_ports (messages.AllPorts r c n told_rows) s rows is = unlisted_by (messages.AllPorts r c n told_rows) _ s rows refl is

  -- or while it isn't
  module _ (switch : Switch) (a : Acted) (whole : Whole setups a) (reads : AreRead setups a.controller.desk.rows) (unmet : a.controller.has_met ≡ false) where
    ended_by : (m : Message) (asked : Asked) (head : Head) (s : Standing) (line : Line) (w : ToController) → head_of m ≡ Some head → asked_in m ≡ Some asked
        → seen_answer_to input (head_of m) (copy_by (head_of m) (asked_in m)) ≡ Word (erased_back w) → answered a.controller.desk m ≡ Done s
        → Stands node input (part_at input switch a) (record line { at_controller = [] })
        → Reaches node input (part_at input switch (answer_comes a m)) AnyLine (record line { at_controller = w ∷ [] })
    ended_by m asked head s line w heads asks word is h =
        let test : Standing → Bool = λ s. s.number == head.number && is_of_type m s.request in
        let to : IsDone m head (in_desk m head a.controller.desk) s = done_to m head (find test a.controller.desk.standing) s (sym (ap (answered_with a.controller.desk.standing m) heads) ∙ is) in
        let n : ℕ = head.number in
        let q : lines.Request = word_of input asked.request in
        let shown : seen_answer_to input (head_of m) (copy_by (head_of m) (asked_in m)) ≡ Word (Answer 0 n q Success) =
        (λ i. seen_answer_to input (heads i) (copy_by (heads i) (asks i)))
        ∙ ap (λ (t : Bool). seen_outcome input (record { number = head.number; request = asked.request }) (if t then Some Success else (if head.result == 4 then Some Failure else None))) to.0 in
        let it : (u : ℕ) × (w ≡ Answer u n q Success) = answer_is w n q Success (sym word ∙ shown) in
        let other : IsAllPorts s.request → ⊥ = unlisted_type m s to.2 s.request (and_second (s.number == head.number) (is_of_type m s.request) (find_passes test a.controller.desk.standing s to.1)) in
        let deletes : IsDeleting s.request = deleting_of a.controller.desk.standing test s (whole.order.meeting unmet) to.1 other in
        let hand : Line = record line { at_controller = Answer it.0 n q Success ∷ [] } in
        let left : List Standing = (without_request a.controller.desk s).standing in
        let b : Acted = with_desk a (without_request a.controller.desk s) in
        subst (λ (x : ToController). Reaches node input (part_at input switch (answer_comes a m)) AnyLine (record line { at_controller = x ∷ [] })) (sym it.1)
        (subst (λ (z : Answered). Reaches node input (part_at input switch (takes_answer a z)) AnyLine hand) (sym is)
        (reaches_then node input (answered_part (part_at input switch a) s) (part_at input switch (takes_success b s.request)) (AfterAnswer input s a.controller.has_met (met_after a.controller.has_met left)) AnyLine hand
        (answered_line node input switch a m asked head s line it.0 asks to.1 other (estab setups links node input above switch a whole reads unmet s test to.1 deletes) h)
        (λ z k also. unmet_leads setups links node input above switch a whole reads unmet s test to.1 deletes z k)))

    ended_line : (m : Message) (s : Standing) (line : Line) (w : ToController) → answered a.controller.desk m ≡ Done s → seen_answer (switch_of node) (controller_of node) input true (Some m) ≡ Word (erased_back w)
        → Stands node input (part_at input switch a) (record line { at_controller = [] })
        → Reaches node input (part_at input switch (answer_comes a m)) AnyLine (record line { at_controller = w ∷ [] })
    ended_line (Adjacency g) s line w is word h = absurd (cc is)
    ended_line (messages.Branch kind r c n t ip i op o br pr) s line w is word h = ended_by (messages.Branch kind r c n t ip i op o br pr) _ _ s line w refl refl word is h
    ended_line (messages.Move r c n t ip i op o tp u br pr) s line w is word h = ended_by (messages.Move r c n t ip i op o tp u br pr) _ _ s line w refl refl word is h
    ended_line (messages.Port r c n p t f) s line w is word h = ended_by (messages.Port r c n p t f) _ _ s line w refl refl word is h
    ended_line (messages.AllPorts r c n rows) s line w is word h = ended_by (messages.AllPorts r c n rows) _ _ s line w refl refl word is h

    -- the ports
    listed_by : IsLabelEnd setups input → TellsPorts switch.ports → numbers_of switch.ports ≡ control_port ∷ ports_of a.controller
        → ((s : Standing) → a.controller.desk.standing ≡ s ∷ [] → s.request ≡ AllPorts → is_estab a.controller.adjacency.state ≡ true → a.controller.desk.next ≡ 2)
        → (result code n : ℕ) (told_rows : List PortRow) (s : Standing) (rows : List PortRow) (line : Line) (w : ToController) → IsFromSwitch a.controller (messages.AllPorts result code n told_rows)
        → answered a.controller.desk (messages.AllPorts result code n told_rows) ≡ Ports s rows
        → seen_answer (switch_of node) (controller_of node) input true (Some (messages.AllPorts result code n told_rows)) ≡ Word (erased_back w) → Stands node input (part_at input switch a) (record line { at_controller = [] })
        → Reaches node input (part_at input switch (answer_comes a (messages.AllPorts result code n told_rows))) AnyLine (record line { at_controller = w ∷ [] })
    listed_by own tells same next result code n told_rows s rows line w from is word h =
        let m : Message = messages.AllPorts result code n told_rows in
        let head : Head = record { result = result; code = code; number = n } in
        let test : Standing → Bool = λ s. s.number == n && is_of_type m s.request in
        let to : ((result == 3) ≡ true) × (find test a.controller.desk.standing ≡ Some s) × (told_rows ≡ rows) = listing_to result code n told_rows (find test a.controller.desk.standing) s rows is in
        let asked : Asked = record { session = 0; request = AllPorts } in
        let q : lines.Request = word_of input AllPorts in
        let shown : seen_answer (switch_of node) (controller_of node) input true (Some m) ≡ Word (Answer 0 n q Success) =
        ap (λ (t : Bool). seen_outcome input (record { number = n; request = AllPorts }) (if t then Some Success else (if result == 4 then Some Failure else None))) to.0 in
        let it : (u : ℕ) × (w ≡ Answer u n q Success) = answer_is w n q Success (sym word ∙ shown) in
        let all : s.request ≡ AllPorts = all_type result code n told_rows s.request (and_second (s.number == n) (is_of_type m s.request) (find_passes test a.controller.desk.standing s to.1)) in
        let alone : a.controller.desk.standing ≡ s ∷ [] = alone_of a.controller.desk.standing test s (whole.order.meeting unmet) to.1 all in
        let estab : is_estab a.controller.adjacency.state ≡ true = stands_estab a whole s alone in
        let told = from (three_of result to.0) in
        let fits : FitsRows rows = subst FitsRows to.2 told.0 in
        let up : Every (λ (port : PortNo). is_up rows port ≡ true) (ports_of a.controller) = subst (λ (z : List PortRow). Every (λ (port : PortNo). is_up z port ≡ true) (ports_of a.controller)) to.2 told.1 in
        let k = around_of setups links input above own switch tells a whole same s rows fits up line h.before h.behind in
        let none : (without_request a.controller.desk s).standing ≡ [] = ap (filter (λ (other : Standing). not (other.number == s.number))) alone
        ∙ filter_skips (λ (other : Standing). not (other.number == s.number)) s [] (ap not (number_self s.number)) in
        subst (λ (x : ToController). Reaches node input (part_at input switch (answer_comes a m)) AnyLine (record line { at_controller = x ∷ [] })) (sym it.1)
        (subst (λ (z : Answered). Reaches node input (part_at input switch (takes_answer a z)) AnyLine (record line { at_controller = Answer it.0 n q Success ∷ [] })) (sym is)
        (ports_line node input switch a m asked head s rows line it.0 k.xs k.ys
        refl to.1 alone all unmet k.is
        (may_empty setups links input above own switch tells a whole same s rows fits up switch none (next s alone all estab) estab) h))

    never_in : (m : Message) (head : Head) (s : Standing) (rows : List PortRow) → head_of m ≡ Some head → ((x : Standing) → succeeded m x ≡ Ports s rows → ⊥) → answered a.controller.desk m ≡ Ports s rows → ⊥
    never_in m head s rows heads never is = never_ports m head (find (λ (z : Standing). z.number == head.number && is_of_type m z.request) a.controller.desk.standing) s rows never
        (sym (ap (answered_with a.controller.desk.standing m) heads) ∙ is)

    listed_line : IsLabelEnd setups input → TellsPorts switch.ports → numbers_of switch.ports ≡ control_port ∷ ports_of a.controller
        → ((s : Standing) → a.controller.desk.standing ≡ s ∷ [] → s.request ≡ AllPorts → is_estab a.controller.adjacency.state ≡ true → a.controller.desk.next ≡ 2)
        → (m : Message) (s : Standing) (rows : List PortRow) (line : Line) (w : ToController) → IsFromSwitch a.controller m → answered a.controller.desk m ≡ Ports s rows
        → seen_answer (switch_of node) (controller_of node) input true (Some m) ≡ Word (erased_back w) → Stands node input (part_at input switch a) (record line { at_controller = [] })
        → Reaches node input (part_at input switch (answer_comes a m)) AnyLine (record line { at_controller = w ∷ [] })
    listed_line own tells same next (Adjacency g) s rows line w from is word h = absurd (cc is)
    listed_line own tells same next (messages.Branch kind r c n t ip i op o br pr) s rows line w from is word h = absurd (never_in (messages.Branch kind r c n t ip i op o br pr) _ s rows refl (λ x k. absurd (cc k)) is)
    listed_line own tells same next (messages.Move r c n t ip i op o tp u br pr) s rows line w from is word h = absurd (never_in (messages.Move r c n t ip i op o tp u br pr) _ s rows refl (λ x k. absurd (cc k)) is)
    listed_line own tells same next (messages.Port r c n p t f) s rows line w from is word h = absurd (never_in (messages.Port r c n p t f) _ s rows refl (λ x k. absurd (cc k)) is)
    listed_line own tells same next (messages.AllPorts r c n told_rows) s rows line w from is word h = listed_by own tells same next r c n told_rows s rows line w from is word h

  -- *A greeting* is the first word, so it names instances that were drawn
  abbrev Names : Line → Greeting → Type 0
  Names line g = (g.sender.instance.0 < line.fresh) × (g.receiver.instance.0 < line.fresh)

  first_back : (line : Line) (g : Greeting) (cell : Cell) (cells : List Cell) (f : Cell → Seen ToController) (b : Bool) (words : List ToController) → Every (RepeatsDrawn line.fresh) words → First erased_back f cell cells words
      → f cell ≡ (if b then Word (SwitchGreets g.kind g.sender.instance.0 g.receiver.instance.0) else Unknown) → (b ≡ true) × Names line g
  first_back line g cell cells f true words all (no_word e rest) is = absurd (cc (sym is ∙ e))
  first_back line g cell cells f false words all (no_word e rest) is = absurd (cc (sym is ∙ e))
  first_back line g cell cells f false words all (a_word {t} {ts} e rest) is = absurd (cc (sym is ∙ e))
  first_back line g cell cells f true words all (a_word {t} {ts} e rest) is =
      (refl, subst (RepeatsDrawn line.fresh) (greets_back t g.kind g.sender.instance.0 g.receiver.instance.0 (sym e ∙ is)) all.0)

  module _ (switch : Switch) (a : Acted) (cell : Cell) (cells : List Cell) (front : queue_of switch.crossbar control_port ≡ cell ∷ cells) (here : same_channel cell.header.channel default_channel ≡ true) where
    abbrev seen : (last : Bool) → Option Message → Seen ToController
    seen last m = seen_answer (switch_of node) (controller_of node) input last m

    abbrev message_in : Result Message Fault → Option Message
    message_in (Ok m) = Some m
    message_in (Err fault) = None

    greets_first : (line : Line) (g : Greeting) (payload : List ℕ) → HasDrawn line → Stands node input (part_at input switch a) line → cell.header.last ≡ true → payload_of a.notes.frames cell.mark ≡ Some payload
        → decoded payload ≡ Ok (Adjacency g) → (is_own_greeting (switch_of node) (controller_of node) g ≡ true) × Names line g
    greets_first line g payload d h last made ok = first_back line g cell cells (seen_cell seen a.notes.frames) (is_own_greeting (switch_of node) (controller_of node) g) line.to_controller
        (every_right (RepeatsDrawn line.fresh) line.at_controller line.to_controller d.to_controller)
        (first_of (subst (λ (z : List Cell). ShowsAnswers node input a.notes.frames z line.to_controller) front h.to_controller))
        (ap (λ (b : Bool). if b then seen_on_gsmp seen cell.header.last (payload_of a.notes.frames cell.mark) else Nothing) here
        ∙ ((λ i. seen_on_gsmp seen (last i) (made i)) ∙ ap (λ (r : Result Message Fault). seen true (message_in r)) ok))

  -- *The cell comes*
  pub comes_back : (switch : Switch) (a : Acted) (cell : Cell) (cells : List Cell) → queue_of switch.crossbar control_port ≡ cell ∷ cells → same_channel cell.header.channel default_channel ≡ true → (line : Line) → node.0 < 256
      → a.numbers.instances + 20 < 2 ^ 32 → IsReached line → Stands node input (part_at input switch a) line → Whole setups a → AreRead setups a.controller.desk.rows
      → IsLabelEnd setups input → TellsPorts switch.ports → numbers_of switch.ports ≡ control_port ∷ ports_of a.controller
      → ((m : Message) → gsmp_under a.notes.frames cell.mark ≡ Some m → IsFromSwitch a.controller m)
      → (IsEnded (nat_lt 0 (free_slots a.controller)) a.controller.reassembly cell → PassesTrue a.notes.frames (a.controller.reassembly.chain ++ cell ∷ [])) → ComesBack node input switch a cell cells
  comes_back switch a cell cells front here line small left reached h whole reads own_input tells same from passes = record {
    front = front;
    here = here;
    passes = passes;
    holds = λ payload ended is. is_held node input bare_switch bare payload (may payload ended.last (under ended payload is));
  }
    where
      bare_switch : Switch
      bare_switch = record switch { crossbar = popped switch.crossbar control_port }

      bare : Acted
      bare = record a { controller = record a.controller { reassembly = record a.controller.reassembly { chain = [] } } }

      bare_whole : Whole setups bare
      bare_whole = record { sound = moves_sound setups a bare (moves_to (gathering a (record a.controller.reassembly { chain = [] }))) whole.sound; order = whole.order; fits = whole.fits }

      under : IsEnded (nat_lt 0 (free_slots a.controller)) a.controller.reassembly cell → (payload : List ℕ) → payload_in (cell_octets (a.controller.reassembly.chain ++ cell ∷ [])) ≡ Some payload → payload_of a.notes.frames cell.mark ≡ Some payload
      under ended payload is = ap (payload_of a.notes.frames) (sym (last_is a.controller.reassembly.chain cell)) ∙ frame_is a.notes.frames (last_mark (a.controller.reassembly.chain ++ cell ∷ [])) payload (passes ended payload is)

      message : (payload : List ℕ) (m : Message) → payload_of a.notes.frames cell.mark ≡ Some payload → decoded payload ≡ Ok m → gsmp_under a.notes.frames cell.mark ≡ Some m
      message payload m made ok = ap (λ (o : Option (List ℕ)). option_and_then gsmp_of o) made ∙ ap (λ (r : Result Message Fault). ok_of r) ok

      p : Part
      p = part_at input switch a

      own : (x : ℕ) → x < line.fresh → x < 2 ^ 32
      own x less = fits node input p line small left reached h x less

      d : HasDrawn line
      d = drawn node input p line small left reached h

      greets : (payload : List ℕ) → cell.header.last ≡ true → payload_of a.notes.frames cell.mark ≡ Some payload → (g : Greeting) → decoded payload ≡ Ok (Adjacency g) → Reads (gsmp_answer (gsmp_received a.controller.adjacency g).answer)
      greets payload last made g ok =
          let first : (is_own_greeting (switch_of node) (controller_of node) g ≡ true) × Names line g = greets_first switch a cell cells front here line g payload d h last made ok in
          let side : SideByInstances = line.controller.adjacency in
          let kind : HelloKind = g.kind in
          let s : ℕ = g.sender.instance.0 in
          let r : ℕ = g.receiver.instance.0 in
          let received : gsmp_received a.controller.adjacency g ≡ step_by (controller_of node) (switch_of node) side a.controller.adjacency.silence (row_for side kind s r) s r =
          ap (λ (y : Side Party). gsmp_received y g) h.own.side
          ∙ (ap (gsmp_received (side_of (controller_of node) (switch_of node) side a.controller.adjacency.silence)) (greeting_is (switch_of node) (controller_of node) g first.0)
          ∙ gsmp_received_by_instances (controller_of node 0) (switch_of node 0) side a.controller.adjacency.silence kind s r) in
          subst (λ (y : Step Party). Reads (gsmp_answer y.answer)) (sym received)
          (step_reads (controller_of node) (switch_of node) (λ n less. controller_fits node n small less) (λ n less. switch_fits node n small less) side a.controller.adjacency.silence (row_for side kind s r) s r
          (own side.own d.controller.0) (own side.stored d.controller.1) (own s first.1.0) (own r first.1.1))

      -- by whether the switch is met
      may : (payload : List ℕ) → cell.header.last ≡ true → payload_of a.notes.frames cell.mark ≡ Some payload → MayHold node input bare_switch bare payload
      may payload last made = record {
        all = ports_read setups links [] 1 (omega arith);
        unmet = λ closed. closed_by a.controller.has_met refl closed;
        greets = λ g ok. greets payload last made g ok;
        done = λ m s l w ok is word k. done_by_met a.controller.has_met refl m s l w ok is word k;
        ports = λ m s rows l w ok is word k. ports_by_met a.controller.has_met refl m s rows l w ok is word k;
      }
        where
          closed_by : (b : Bool) → a.controller.has_met ≡ b → is_estab a.controller.adjacency.state ≡ false → a.controller.has_met ≡ false
          closed_by true t closed = absurd (cc (sym (whole.sound.desk.met t) ∙ closed))
          closed_by false t closed = t

          done_by_met : (b : Bool) → a.controller.has_met ≡ b → (m : Message) (s : Standing) (l : Line) (w : ToController) → decoded payload ≡ Ok m → answered a.controller.desk m ≡ Done s
              → seen_answer (switch_of node) (controller_of node) input true (Some m) ≡ Word (erased_back w) → Stands node input (part_at input bare_switch bare) (record l { at_controller = [] })
              → Reaches node input (part_at input bare_switch (answer_comes bare m)) AnyLine (record l { at_controller = w ∷ [] })
          done_by_met true t m s l w ok is word k = done_line bare_switch bare bare_whole reads t m s l w is word k
          done_by_met false t m s l w ok is word k = ended_line bare_switch bare bare_whole reads t m s l w is word k

          ports_by_met : (b : Bool) → a.controller.has_met ≡ b → (m : Message) (s : Standing) (rows : List PortRow) (l : Line) (w : ToController) → decoded payload ≡ Ok m → answered a.controller.desk m ≡ Ports s rows
              → seen_answer (switch_of node) (controller_of node) input true (Some m) ≡ Word (erased_back w) → Stands node input (part_at input bare_switch bare) (record l { at_controller = [] })
              → Reaches node input (part_at input bare_switch (answer_comes bare m)) AnyLine (record l { at_controller = w ∷ [] })
          ports_by_met true t m s rows l w ok is word k = absurd (no_ports bare_switch bare bare_whole reads t m s rows is)
          ports_by_met false t m s rows l w ok is word k = listed_line bare_switch bare bare_whole reads t own_input tells same
              (λ s alone all estab. next_is node input p line s reached h alone all t estab) m s rows l w (from m (message payload m made ok)) is word k
