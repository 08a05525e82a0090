-- meeting the switch, and its answers, keep labels bound, joins led and chains of bound labels

use Rattle.std.proofs.Common.{◌≡◌, ℕ, Bool, true, List, [], ◌∷◌, Option, None, Some, refl, if◌then◌else◌, map, fold}
use Rattle.std.specs.Prelude.{◌==◌, ◌&&◌, find, flat_map, ◌++◌}
use Rattle.law_controller.specs.world_model.Words.{PortNo, End, is_estab, Request, AddBranch, MoveBranch, DeleteTree, VerifyTree, PortManagement, Standing, empty_desk, Head, head_of, is_of_type, Answered, Unknown, Done, Ports, Failed, succeeded, outcome, answered_with, after_answer, Setup, Linked, linked_at, with_linked, with_desk, default_end, default_home, asks, node_resets, begins, releases, meets, up_ports, empties, default_branches, ends_meeting, has_emptied, port_of_input, behind_delete_all, causes_in_estab, causes, may_clear, clears_of, clears_port, clears, takes_answer, answer_comes, tells_port, IsLinkPort, NodeId, label_number_of, Label, label_at, label_by, freed, works, Record}
use Rattle.law_controller.specs.world_model.port_model.Resets.{cleared}
use Rattle.law_controller.specs.world_model.gsmp_wire.declared.request.Request.TheVariants.{DeleteAll, AllPorts}
use Rattle.law_controller.specs.world_model.gsmp_wire.declared.message.Message.{Message}
use Rattle.law_controller.specs.world_model.gsmp_wire.declared.message.Message.TheVariants as messages
use Rattle.law_controller.specs.ordered_lists.Ordered.{Every}
use Rattle.law_controller.proofs.law_port_facts.Keyed.{on_both}
use Rattle.law_controller.proofs.law_port_facts.Found.{by_number}
use Rattle.law_controller.proofs.law_port_facts.Rules.{IsTree, done_goes}
use Rattle.law_controller.specs.world_model.Controller.{Acted, ports_of}
use Rattle.law_controller.proofs.law_controller_facts.Moves.{by_rule, found_at_own}
use Rattle.law_controller.proofs.Holding.{Holds, answered_holds}
use Rattle.law_controller.proofs.Settling.{IsSettled, answered_fits, releases_fits}
use Rattle.law_controller.proofs.Whole.{Whole, holds_of, whole_of}
use Rattle.law_controller.proofs.Meeting.{freed_by}
use Rattle.law_controller.proofs.Releasing.{IsFree, releases_holds}
use Rattle.law_controller.specs.world_model.port_model.Answers as port_answers
use Rattle.law_controller_bindings.proofs.Lasts.{stays_so}
use Rattle.law_controller_bindings.proofs.Working.{freed_body}
use Rattle.law_controller_bindings.proofs.Anew.{Fit}
use Rattle.law_controller_bindings.proofs.Tied.{noted_put, Settled, NoCut, Goes, calmly, rests, goes_then, goes_fold, goes_settled, settled_fit, asks_goes, node_goes}
use Rattle.law_controller_bindings.proofs.Performing.{IsTied, tied_at, put_tied, IsBody, Lent, Any, works_body, at_port_goes}
use Rattle.law_controller_bindings.proofs.Joining.{releases_settled, takes_changes_settled}

-- *Meeting the switch*
pub meets_goes : (a : Acted) → Fit a.controller.ports → Goes a (meets a)
meets_goes a fit = goes_then a (with_desk a empty_desk) (meets a) (calmly refl refl refl (stays_so a.notes.records)) (asks_goes (with_desk a empty_desk) AllPorts fit)

pub empties_goes : (a : Acted) → Fit a.controller.ports → Goes a (empties a)
empties_goes a fit = goes_fold asks (λ b request k. asks_goes b request k) (map DeleteAll (record { 0 = 0 } ∷ up_ports a.controller)) a fit

ends_meeting_goes : (a : Acted) → Fit a.controller.ports → Goes a (ends_meeting a)
ends_meeting_goes a fit = (let met : Acted = record a { controller = record a.controller { has_met = true } } in
    goes_then a met (ends_meeting a) (calmly refl refl refl (stays_so a.notes.records)) (goes_fold asks (λ b request k. asks_goes b request k) (flat_map default_branches (up_ports a.controller)) met fit))

behind_goes : (a : Acted) (port : PortNo) → Fit a.controller.ports → Goes a (behind_delete_all a port)
behind_goes a port fit = on_both (Goes a) a.controller.has_met (asks a (AddBranch (default_end port) (default_home port))) (if has_emptied a.controller then ends_meeting a else a)
    (asks_goes a (AddBranch (default_end port) (default_home port)) fit) (on_both (Goes a) (has_emptied a.controller) (ends_meeting a) a (ends_meeting_goes a fit) (rests a))

module _ (node : NodeId) (earlier began : List Record) where
  abbrev Bound : Acted → Type 0
  Bound = Settled node earlier began

  -- *A port is cleared*
  clears_of_settled : (a : Acted) (port : PortNo) (o : Option Linked) → linked_at a.controller port ≡ o → Bound a → Bound (clears_of a o)
  clears_of_settled a port None found h = h
  clears_of_settled a port (Some linked) found h =
      let after : Linked = record linked { port = cleared linked.port } in
      let records : List Record = earlier ++ h.new in
      let is : IsTied node records a.controller.table NoCut linked = tied_at node records a.controller.table NoCut a.controller.ports port.0 linked found h.tied in
      on_both Bound (may_clear a.controller linked) (with_linked a after) a (record {
        new = h.new;
        is = noted_put node earlier began h.new a.notes.records a.controller.node a.controller.ports port.0 linked after found refl h.is;
        tied = put_tied node records a.controller.table NoCut NoCut after a.controller.ports (record { flows = is.flows; leads = is.leads; chains = is.chains }) (λ x other n cut. cut) h.tied;
      }) h

  pub clears_each : (ports : List PortNo) (a : Acted) → Bound a → Bound (fold clears_port a ports)
  clears_each [] a h = h
  clears_each (port ∷ ports) a h = clears_each ports (clears_port a port) (clears_of_settled a port (linked_at a.controller port) refl h)

  module _ (setups : List Setup) (links : Every (λ (setup : Setup). IsLinkPort setup.port) setups) where
    -- *What an answer causes*
    tells_settled : (a : Acted) (request : Request) (port : PortNo) → (IsTree request → ⊥) → Whole setups a → Bound a → Bound (tells_port a request (Some port))
    tells_settled a request port other h k = at_port_goes node earlier began setups a port (λ setup desk w. port_answers.done setup w request) (λ linked found. done_goes linked.setup a.controller.desk (begins a linked) request other) h k

    -- a label is freed
    tree_settled : (a : Acted) (input : End) → Whole setups a → Bound a → Bound (tells_port a (DeleteTree input) (Some input.port))
    tree_settled a input h k = by_found (linked_at a.controller input.port) refl
      where
        by_label : (linked : Linked) (o : Option ℕ) (records : List Record) → IsBody node records a linked Any (begins a linked) → IsBody node records a linked Any (freed linked.setup (begins a linked) (label_by linked.port o))
        by_label linked None records body = body
        by_label linked (Some n) records body = by_held (label_at linked.port n) refl
          where
            by_held : (o : Option Label) → label_at linked.port n ≡ o → IsBody node records a linked Any (freed linked.setup (begins a linked) o)
            by_held None there = body
            by_held (Some label) there = freed_body linked.setup records (Lent node records a linked Any) linked.chains Any (begins a linked) label label.state (by_number linked.port n label there) refl refl body

        by_found : (o : Option Linked) → linked_at a.controller input.port ≡ o → Bound (works a (λ setup desk w. port_answers.done setup w (DeleteTree input)) o)
        by_found None found = k
        by_found (Some linked) found = works_body node earlier began setups a h.sound linked (found_at_own setups a linked input.port found) (port_answers.done linked.setup (begins a linked) (DeleteTree input))
            (by_rule _ (done_goes linked.setup a.controller.desk (begins a linked) (DeleteTree input) (λ t. tt))) (by_label linked (label_number_of input.channel)) k

    goes_bound : (a b : Acted) → (Fit a.controller.ports → Goes a b) → Bound a → Bound b
    goes_bound a b goes k = goes_settled node earlier began a b (goes (settled_fit node earlier began a k)) k

    pub causes_in_settled : (a : Acted) (request : Request) → Whole setups a → Bound a → Bound (causes_in_estab a request)
    causes_in_settled a (AddBranch input output) h k = tells_settled a (AddBranch input output) (port_of_input input output) (λ t. t) h k
    causes_in_settled a (MoveBranch input from to) h k = tells_settled a (MoveBranch input from to) (port_of_input input to) (λ t. t) h k
    causes_in_settled a (DeleteTree input) h k = tree_settled a input h k
    causes_in_settled a (VerifyTree input) h k = tells_settled a (VerifyTree input) input.port (λ t. t) h k
    causes_in_settled a (DeleteAll port) h k = goes_bound a (behind_delete_all a port) (behind_goes a port) k
    causes_in_settled a (PortManagement port function) h k = tells_settled a (PortManagement port function) port (λ t. t) h k
    causes_in_settled a AllPorts h k = k

    -- all of an answer of a request that stood
    pub done_settled : (a : Acted) (s : Standing) (test : Standing → Bool) → find test a.controller.desk.standing ≡ Some s → Whole setups a → Bound a → Bound (takes_answer a (Done s))
    done_settled a s test found h k =
        let held : Holds setups a = holds_of setups a h in
        let answered : Acted = with_desk a (after_answer a.controller.desk (Done s)) in
        let after : Holds setups answered = answered_holds setups a (Done s) held in
        let free : IsFree setups answered s.request = freed_by setups links a s test found held in
        let released : Acted = releases answered s.request in
        let settled : IsSettled setups answered released s.request = releases_fits setups answered s.request free after (answered_fits setups a s test found h.sound h.fits) in
        let whole : Whole setups released = whole_of setups released (releases_holds setups answered s.request free after) settled.fits in
        let bound : Bound released = releases_settled node earlier began answered s.request (goes_settled node earlier began a answered (calmly refl refl refl (stays_so a.notes.records)) k) in
        let caused : Acted = causes released s.request in
        takes_changes_settled node earlier began (clears caused) (clears_each (ports_of caused.controller) caused
        (on_both Bound (is_estab released.controller.adjacency.state) (causes_in_estab released s.request) released (causes_in_settled released s.request whole bound) bound))

    -- *Answers of the switch*
    module _ (a : Acted) (h : Whole setups a) (k : Bound a) where
      told_settled : (answer : Answered) → Bound (with_desk a (after_answer a.controller.desk answer))
      told_settled answer = goes_settled node earlier began a (with_desk a (after_answer a.controller.desk answer)) (calmly refl refl refl (stays_so a.notes.records)) k

      succeeds_settled : (message : Message) (test : Standing → Bool) (s : Standing) → find test a.controller.desk.standing ≡ Some s → Bound (takes_answer a (succeeded message s))
      succeeds_settled (messages.Adjacency greeting) test s found = done_settled a s test found h k
      succeeds_settled (messages.Branch kind result code n session input_port input output_port output branches priority) test s found = done_settled a s test found h k
      succeeds_settled (messages.Move result code n session input_port input output_port output target_port target branches priority) test s found = done_settled a s test found h k
      succeeds_settled (messages.Port result code n port session function) test s found = done_settled a s test found h k
      succeeds_settled (messages.AllPorts result code n rows) test s found = (let b : Acted = with_desk a (after_answer a.controller.desk (Ports s rows)) in goes_bound b (empties b) (empties_goes b) (told_settled (Ports s rows)))

      pub answer_comes_settled : (message : Message) → Bound (answer_comes a message)
      answer_comes_settled message = by_head (head_of message)
        where
          failed : (s : Standing) (code : ℕ) → Bound (takes_answer a (Failed s code))
          failed s code = (let b : Acted = with_desk a (after_answer a.controller.desk (Failed s code)) in goes_bound b (node_resets b) (node_goes b) (told_settled (Failed s code)))

          by_found : (head : Head) (o : Option Standing) → find (λ (x : Standing). x.number == head.number && is_of_type message x.request) a.controller.desk.standing ≡ o → Bound (takes_answer a (outcome message head o))
          by_found head None found = told_settled Unknown
          by_found head (Some s) found = on_both (λ (answer : Answered). Bound (takes_answer a answer)) (head.result == 3) (succeeded message s) (if head.result == 4 then Failed s head.code else Unknown)
              (succeeds_settled message (λ (x : Standing). x.number == head.number && is_of_type message x.request) s found)
              (on_both (λ (answer : Answered). Bound (takes_answer a answer)) (head.result == 4) (Failed s head.code) Unknown (failed s head.code) (told_settled Unknown))

          by_head : (o : Option Head) → Bound (takes_answer a (answered_with a.controller.desk.standing message o))
          by_head None = told_settled Unknown
          by_head (Some head) = by_found head (find (λ (x : Standing). x.number == head.number && is_of_type message x.request) a.controller.desk.standing) refl
