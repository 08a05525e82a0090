-- what a controller does that a port at work has asked costs what the port's actions weigh

use Rattle.std.proofs.Common.{◌≡◌, ℕ, ◌≤◌, ◌+◌, Bool, true, false, List, [], ◌∷◌, ◌++◌, length, Option, None, Some, refl, sym, ◌∙◌, ap, arith, if◌then◌else◌, fold, map}
use Rattle.std.specs.Prelude.{◌==◌, not, filter, flat_map}
use Rattle.world_model.specs.Words.{NodeId, PortNo, Mark, End, is_estab, Request, AddBranch, MoveBranch, DeleteTree, VerifyTree, PortManagement, PortRow, Frame, payload_of, nothing_taken, Desk, Standing, is_led_home, last_transaction, message_of, is_on, withdraws, Action, Say, Ask, Note, CutChain, TakeBack, Withdraw, Setup, home_of, Label, Grant, GrantState, Idle, ByController, ByInput, Leaving, Session, Work, halts, is_spent, halts_if_spent, closing, left_in, left_of, taking_back_in, taking_back, withdrawing_in, withdrawing_of, withdrawing, resets, Linked, port_key, linked_at, with_linked, with_desk, chain_of, chains_with, asks_next, asks, takes_back, withdraws_input, cuts_of, begins, with_work, node_resets, does, does_in_estab, resets_as, resets_of, resets_port, performs, performs_in_estab, Rule, works_as, works, at_port, resets_spent, Topology}
use Rattle.world_model.specs.gsmp_wire.declared.request.Request.TheVariants.{DeleteAll, AllPorts}
use Rattle.world_model.specs.frame_model.Reassembly as gathering
use Rattle.world_model.specs.port_model.Desk.{asked, message_at}
use Rattle.world_model.specs.port_model.declared.action.Action.TheVariants as actions
use Rattle.law_controller_facts.proofs.law_port_facts.Keyed.{at_every, at_put_same, on_both}
use Rattle.world_model.specs.Controller.{Acted, note}
use Rattle.law_shown_cells.proofs.Tested.{cut_frames}
use Rattle.law_frame_weights.specs.claims_model.Costs.{total_weight, frame_weight, answer_weight, request_weight, reset_weight, asking_cost}
use Rattle.law_frame_weights.specs.claims_model.Weights.{Bound, standing_cost, desk_weight, state_cost, port_weight, changes_left}
use Rattle.law_frame_weights.specs.law_port_weights.Works.{action_cost, work_weight}
use Rattle.law_frame_weights.proofs.law_port_weights.Sums.{total_join, total_more, total_filter, total_put}
use Rattle.law_frame_weights.proofs.law_port_weights.Works.{Costs, cost_of_grant, spent_cost}
use Rattle.law_action_weights.proofs.Judging.{linked_weight, IsOfLink, IsFine, Weighs, weighs_then, more, none_then, still, itself, placed, gsmp_cost, ifmp_cost}
use Rattle.law_action_weights.proofs.Resets.{found_own, node_cost}

-- *A reset of a port*: what it asks is paid by what it gives up, but for Delete All, which numbers that are spent pay
taking_some : (setup : Setup) (changes : ℕ) (grant : Grant) (state : GrantState) → grant.state ≡ state
    → total_weight (cost_of_grant changes) (left_in grant state) + total_weight action_cost (taking_back_in setup grant state) ≤ state_cost changes state
taking_some setup changes grant Idle is = omega arith
taking_some setup changes grant ByController is = omega arith
taking_some setup changes grant (ByInput input) is = omega arith
taking_some setup changes grant (Leaving input true) is = omega arith
taking_some setup changes grant (Leaving input false) is = omega arith

taking_all : (setup : Setup) (changes : ℕ) (grants : List Grant)
    → total_weight (cost_of_grant changes) (flat_map left_of grants) + total_weight action_cost (flat_map (taking_back setup) grants) ≤ total_weight (cost_of_grant changes) grants
taking_all setup changes [] = omega arith
taking_all setup changes (grant ∷ grants) = omega (
  arith,
  total_join (cost_of_grant changes) (left_of grant) (flat_map left_of grants),
  total_join action_cost (taking_back setup grant) (flat_map (taking_back setup) grants),
  taking_some setup changes grant grant.state refl,
  taking_all setup changes grants,
)

cuts_none : (labels : List Label) → total_weight action_cost (map (λ (label : Label). CutChain label.number) labels) ≡ 0
cuts_none [] = refl
cuts_none (label ∷ labels) = omega (arith, cuts_none labels)

closing_none : (setup : Setup) (o : Option Session) → total_weight action_cost (closing setup o) ≡ 0
closing_none setup None = refl
closing_none setup (Some s) = omega (arith, cuts_none s.labels)

withdrawing_one : (setup : Setup) (label : ℕ) (state : GrantState) → total_weight action_cost (withdrawing_in setup label state) ≡ 0
withdrawing_one setup label Idle = refl
withdrawing_one setup label ByController = refl
withdrawing_one setup label (ByInput input) = refl
withdrawing_one setup label (Leaving input owed) = refl

withdrawing_none : (setup : Setup) (grants : List Grant) → total_weight action_cost (withdrawing setup grants) ≡ 0
withdrawing_none setup [] = refl
withdrawing_none setup (grant ∷ grants) = omega (arith, total_join action_cost (withdrawing_of setup grant) (withdrawing setup grants), withdrawing_one setup grant.label grant.state, withdrawing_none setup grants)

reset_weighs : (setup : Setup) (changes : ℕ) (w : Work) → w.actions ≡ [] → work_weight changes (resets setup w) + spent_cost w.port.session ≤ port_weight changes w.port + reset_weight
reset_weighs setup changes w none =
    let asks_all : List Action = Ask (DeleteAll setup.port) true ∷ [] in
    let back : List Action = flat_map (taking_back setup) w.port.grants in
    omega (
      arith,
      total_join action_cost w.actions (closing setup w.port.session ++ (withdrawing setup w.port.grants ++ (back ++ asks_all))),
      ap (total_weight action_cost) none,
      total_join action_cost (closing setup w.port.session) (withdrawing setup w.port.grants ++ (back ++ asks_all)),
      closing_none setup w.port.session,
      total_join action_cost (withdrawing setup w.port.grants) (back ++ asks_all),
      withdrawing_none setup w.port.grants,
      total_join action_cost back asks_all,
      taking_all setup changes w.port.grants,
    )

module _ (topology : Topology) (node : NodeId) (bound : Bound) (final : List Frame) (short : (mark : Mark) (payload : List ℕ) → payload_of final mark ≡ Some payload → length payload ≤ 1528) where
  abbrev Costly : ℕ → Acted → Acted → Type 0
  Costly count a b = Weighs topology node bound final short count a b

  rests : (count : ℕ) (a : Acted) → Costly count a a
  rests count a = itself topology node bound final short count a

  -- what is so of a controller that is fine may be used
  pub given_fine : (count : ℕ) (a b : Acted) → (IsFine a → Costly count a b) → Costly count a b
  given_fine count a b p = record { fine = λ f. (p f).fine f; extends = λ f. (p f).extends f; cost = λ f e. (p f).cost f e }

  -- *Asking*
  message_asks : (rows : List PortRow) (number : ℕ) (request : Request) → asking_cost (message_of rows number request) ≤ answer_weight
  message_asks rows number (AddBranch input output) = omega arith
  message_asks rows number (MoveBranch input from to) = omega arith
  message_asks rows number (DeleteTree input) = omega arith
  message_asks rows number (VerifyTree input) = omega arith
  message_asks rows number (DeleteAll port) = omega arith
  message_asks rows number (PortManagement port function) = omega arith
  message_asks rows number AllPorts = omega arith

  asked_some : (desk : Desk) (request : Request) → desk_weight (asked desk request) ≤ desk_weight desk + standing_cost request
  asked_some desk request =
      let kept : List Standing = filter (λ (s : Standing). not (withdraws request s.request)) desk.standing in
      omega (
        arith,
        total_more (λ (s : Standing). standing_cost s.request) kept (record { number = desk.next; request = request }),
        total_filter (λ (s : Standing). standing_cost s.request) (λ (s : Standing). not (withdraws request s.request)) desk.standing,
      )

  pub asks_cost : (a : Acted) (request : Request) → Costly (request_weight + standing_cost request) a (asks a request)
  asks_cost a request = on_both (Costly count a) (is_estab a.controller.adjacency.state) (if a.controller.desk.next == last_transaction then node_resets a else asks_next a request) a
      (on_both (Costly count a) (a.controller.desk.next == last_transaction) (node_resets a) (asks_next a request)
      (more topology node bound final short 0 count a (node_resets a) (omega arith) (node_cost topology node bound final short a)) next) (rests count a)
    where
      count : ℕ
      count = request_weight + standing_cost request

      entered : Acted
      entered = with_desk a (asked a.controller.desk request)

      s : Standing
      s = record { number = a.controller.desk.next; request = request }

      next : Costly (request_weight + standing_cost request) a (asks_next a request)
      next = more topology node bound final short (standing_cost request + (frame_weight + asking_cost (message_at entered.controller.desk s))) (request_weight + standing_cost request) a (asks_next a request)
          (omega (arith, message_asks entered.controller.desk.rows a.controller.desk.next request))
          (weighs_then topology node bound final short (standing_cost request) (frame_weight + asking_cost (message_at entered.controller.desk s)) a entered (asks_next a request)
          (still topology node bound final short (standing_cost request) a entered refl refl refl (omega (arith, asked_some a.controller.desk request)))
          (gsmp_cost topology node bound final short entered (message_at entered.controller.desk s)))

  pub takes_back_cost : (a : Acted) (input output : End) → Costly request_weight a (takes_back a input output)
  takes_back_cost a input output = on_both (Costly request_weight a) (is_led_home a.controller.desk input (home_of input)) a (asks a (MoveBranch input output (home_of input)))
      (rests request_weight a) (more topology node bound final short (request_weight + 0) request_weight a (asks a (MoveBranch input output (home_of input))) (omega arith) (asks_cost a (MoveBranch input output (home_of input))))

  withdraws_cost : (a : Acted) (input : End) → Costly 0 a (withdraws_input a input)
  withdraws_cost a input = still topology node bound final short 0 a (withdraws_input a input) refl refl refl
      (omega (arith, total_filter (λ (s : Standing). standing_cost s.request) (λ (s : Standing). not (is_on input s.request)) a.controller.desk.standing))

  cuts_cost : (a : Acted) (port : PortNo) (label : ℕ) (o : Option Linked) → linked_at a.controller port ≡ o → Costly 0 a (cuts_of a label o)
  cuts_cost a port label None found = rests 0 a
  cuts_cost a port label (Some linked) found =
      let noted : Acted = record a { notes = gathering.cut a.notes (chain_of linked.chains label) } in
      none_then topology node bound final short 0 a noted (cuts_of a label (Some linked))
      (still topology node bound final short 0 a noted (cut_frames a.notes (chain_of linked.chains label)) refl refl (omega arith))
      (placed topology node bound final short 0 noted linked (record linked { chains = chains_with linked.chains label nothing_taken }) (found_own a.controller.ports port linked found) refl (omega arith))

  -- *Actions*
  does_cost : (port : PortNo) → 1 ≤ port.0 → (a : Acted) (action : Action) → Costly (action_cost action) a (does port a action)
  does_cost port some a (Say message) = ifmp_cost topology node bound final short a port message some
  does_cost port some a (Ask request needed) = asks_cost a request
  does_cost port some a (Note item) = still topology node bound final short 0 a (note a item) refl refl refl (omega arith)
  does_cost port some a (CutChain label) = cuts_cost a port label (linked_at a.controller port) refl
  does_cost port some a (TakeBack input output) = takes_back_cost a input output
  does_cost port some a (Withdraw input) = withdraws_cost a input
  does_cost port some a actions.Reset = rests reset_weight a

  does_all : (port : PortNo) → 1 ≤ port.0 → (done : List Action) (a : Acted) → Costly (total_weight action_cost done) a (fold (does_in_estab port) a done)
  does_all port some [] a = rests 0 a
  does_all port some (action ∷ done) a =
      weighs_then topology node bound final short (action_cost action) (total_weight action_cost done) a (does_in_estab port a action) (fold (does_in_estab port) (does_in_estab port a action) done)
      (on_both (Costly (action_cost action) a) (is_estab a.controller.adjacency.state) (does port a action) a (does_cost port some a action) (rests (action_cost action) a))
      (does_all port some done (does_in_estab port a action))

  -- *A port is put back, and what it asked is done*
  placed_then : (paid count : ℕ) (a b : Acted) (port : PortNo) (linked : Linked) (w : Work) → linked_at a.controller port ≡ Some linked
      → port_weight (changes_left a.controller) w.port + paid ≤ port_weight (changes_left a.controller) linked.port + count
      → Costly paid (with_work a linked w) b → Costly count a b
  placed_then paid count a b port linked w found le q =
      let numbered : Acted = record a { numbers = record a.numbers { instances = w.instances } } in
      let new : Linked = record linked { port = w.port } in
      let own : linked_at numbered.controller new.setup.port ≡ Some linked = found_own a.controller.ports port linked found in
      let put : Costly (port_weight (changes_left a.controller) w.port) numbered (with_linked numbered new) =
      placed topology node bound final short (port_weight (changes_left a.controller) w.port) numbered linked new own refl (omega arith) in
      record {
        fine = λ f. q.fine (put.fine (record { unmade = f.unmade; apart = f.apart; links = f.links; few = f.few }));
        extends = λ f. q.extends (put.fine (record { unmade = f.unmade; apart = f.apart; links = f.links; few = f.few }));
        cost = λ f e. (let two = q.cost (put.fine (record { unmade = f.unmade; apart = f.apart; links = f.links; few = f.few })) e in
            let sum = total_put (linked_weight (changes_left a.controller)) port_key new a.controller.ports linked own in omega (arith, two, sum, le));
      }

  linked_some : (a : Acted) (port : PortNo) (linked : Linked) → linked_at a.controller port ≡ Some linked → IsFine a → 1 ≤ linked.setup.port.0
  linked_some a port linked found f = at_every port_key IsOfLink port.0 a.controller.ports linked f.links found

  -- *A port is reset*
  pub resets_of_cost : (count : ℕ) (a : Acted) (port : PortNo) (o : Option Linked) → linked_at a.controller port ≡ o
      → ((linked : Linked) → o ≡ Some linked → reset_weight ≤ count + spent_cost linked.port.session) → Costly count a (resets_of a o)
  resets_of_cost count a port None found le = rests count a
  resets_of_cost count a port (Some linked) found le =
      let w : Work = resets linked.setup (begins a linked) in
      given_fine count a (resets_as a linked w)
      (λ f. placed_then (total_weight action_cost w.actions) count a (resets_as a linked w) port linked w found
      (omega (arith, reset_weighs linked.setup (changes_left a.controller) (begins a linked) refl, le linked refl))
      (does_all linked.setup.port (linked_some a port linked found f) w.actions (with_work a linked w)))

  resets_port_cost : (a : Acted) (port : PortNo) → Costly reset_weight a (resets_port a port)
  resets_port_cost a port = resets_of_cost reset_weight a port (linked_at a.controller port) refl (λ linked is. omega arith)

  -- *A rule of a port*
  performs_cost : (port : PortNo) → 1 ≤ port.0 → (a : Acted) (action : Action) → Costly (action_cost action) a (performs port a action)
  performs_cost port some a (Say message) = does_cost port some a (Say message)
  performs_cost port some a (Ask request needed) = does_cost port some a (Ask request needed)
  performs_cost port some a (Note item) = does_cost port some a (Note item)
  performs_cost port some a (CutChain label) = does_cost port some a (CutChain label)
  performs_cost port some a (TakeBack input output) = does_cost port some a (TakeBack input output)
  performs_cost port some a (Withdraw input) = does_cost port some a (Withdraw input)
  performs_cost port some a actions.Reset = resets_port_cost a port

  performs_all : (port : PortNo) → 1 ≤ port.0 → (done : List Action) (a : Acted) → Costly (total_weight action_cost done) a (fold (performs_in_estab port) a done)
  performs_all port some [] a = rests 0 a
  performs_all port some (action ∷ done) a =
      weighs_then topology node bound final short (action_cost action) (total_weight action_cost done) a (performs_in_estab port a action) (fold (performs_in_estab port) (performs_in_estab port a action) done)
      (on_both (Costly (action_cost action) a) (is_estab a.controller.adjacency.state) (performs port a action) a (performs_cost port some a action) (rests (action_cost action) a))
      (performs_all port some done (performs_in_estab port a action))

  works_as_cost : (count : ℕ) (a : Acted) (port : PortNo) (linked : Linked) (w : Work) → linked_at a.controller port ≡ Some linked
      → work_weight (changes_left a.controller) w ≤ port_weight (changes_left a.controller) linked.port + count → Costly count a (works_as a linked w)
  works_as_cost count a port linked w found le = given_fine count a (works_as a linked w)
      (λ f. placed_then (total_weight action_cost w.actions) count a (works_as a linked w) port linked w found (omega (arith, le))
      (performs_all linked.setup.port (linked_some a port linked found f) w.actions (with_work a linked w)))

  pub at_port_cost : (count : ℕ) (a : Acted) (port : PortNo) (rule : Rule)
      → ((linked : Linked) → linked_at a.controller port ≡ Some linked → Costs (changes_left a.controller) count (begins a linked) (rule linked.setup a.controller.desk (begins a linked)))
      → Costly count a (at_port a port rule)
  at_port_cost count a port rule costs = by (linked_at a.controller port) refl
    where
      by : (o : Option Linked) → linked_at a.controller port ≡ o → Costly count a (works a rule o)
      by None found = rests count a
      by (Some linked) found = works_as_cost count a port linked (rule linked.setup a.controller.desk (begins a linked)) found (omega (arith, (costs linked found).cost))

  -- *A port whose numbers are spent* has paid for its reset
  pub resets_spent_cost : (a : Acted) (port : PortNo) → Costly 0 a (resets_spent a port)
  resets_spent_cost a port = by (linked_at a.controller port) refl
    where
      closing_one : (linked : Linked) → linked_at a.controller port ≡ Some linked → (b : Bool) → is_spent linked.port.session ≡ b
          → Costly 0 a (works_as a linked (if b then halts (begins a linked) else begins a linked))
      closing_one linked found false spent = works_as_cost 0 a port linked (begins a linked) found (omega arith)
      closing_one linked found true spent =
          let w : Work = halts (begins a linked) in
          let put : Acted = with_work a linked w in
          let there : linked_at put.controller linked.setup.port ≡ Some (record linked { port = w.port }) = at_put_same port_key (record linked { port = w.port }) a.controller.ports linked (found_own a.controller.ports port linked found) in
          let paid : spent_cost linked.port.session ≡ reset_weight = ap (λ (b : Bool). if b then reset_weight else 0) spent in
          placed_then 0 0 a (works_as a linked w) port linked w found (omega arith)
          (on_both (Costly 0 put) (is_estab put.controller.adjacency.state) (resets_port put linked.setup.port) put
          (resets_of_cost 0 put linked.setup.port (linked_at put.controller linked.setup.port) refl
          (λ other is. (let same : record linked { port = w.port } ≡ other = some_is (sym there ∙ is) in omega (arith, paid, ap (λ (x : Linked). spent_cost x.port.session) same)))) (rests 0 put))
        where
          some_is : {x y : Linked} → Some x ≡ Some y → x ≡ y
          some_is {x} {y} e = cc

      by : (o : Option Linked) → linked_at a.controller port ≡ o → Costly 0 a (works a (λ setup desk w. halts_if_spent w) o)
      by None found = rests 0 a
      by (Some linked) found = closing_one linked found (is_spent linked.port.session) refl
