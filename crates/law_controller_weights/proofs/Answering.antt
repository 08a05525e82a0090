-- what an answer of the switch costs a controller: nothing, but for what stood at the desk for it

use Rattle.std.proofs.Common.{◌≡◌, ℕ, suc, ◌≤◌, ◌+◌, ◌-◌, ◌*◌, Bool, true, false, List, [], ◌∷◌, length, Option, None, Some, refl, sym, ◌∙◌, ap, arith, if◌then◌else◌, fold, map}
use Rattle.std.specs.Prelude.{◌==◌, ◌&&◌, not, filter, find, flat_map, nat_le}
use Rattle.std.specs.List.{filter_map, cons_option}
use Rattle.std.specs.Option.{option_map}
use Rattle.std.proofs.lemmas.Bool.Decides.{nat_tests}
use Rattle.std.proofs.lemmas.List.{length-map}
use Rattle.std.proofs.Common.{length-append}
use Rattle.world_model.specs.Words.{NodeId, PortNo, Mark, End, Channel, next_control, with_control, PoolFull, noted, frame_cells, made, number_of_channel, is_estab, RouteChange, Request, AddBranch, MoveBranch, DeleteTree, VerifyTree, PortManagement, PortRow, Frame, Part, Loss, payload_of, entered, in_order, Setup, home_of, same_end, Standing, empty_desk, is_led_home, last_transaction, Head, head_of, is_of_type, Answered, Unknown, Done, Ports, Failed, succeeded, outcome, answered_with, without_request, after_answer, Grant, GrantState, Idle, ByController, ByInput, Leaving, Controller, Linked, default_channel, linked_at, with_linked, with_desk, default_end, default_home, asks_next, asks, begins, node_resets, join_to, joins_at, end_le, joins_of, join_of, parts, releases_join, releases_input, released_inputs, resets_spent, releases, is_changed, changed_joins, takes_join_back, begins_change, takes_change, may_take, takes_each, takes_changes, meets, up_ports, empties, default_branches, ends_meeting, has_emptied, port_of_input, tells_port, behind_delete_all, causes_in_estab, causes, may_clear, clears_of, clears_port, clears, takes_answer, answer_comes, Topology}
use Rattle.world_model.specs.gsmp_wire.Layout.{octets_of as gsmp_octets}
use Rattle.world_model.specs.frame_model.Sending.{Sender}
use Rattle.world_model.specs.gsmp_wire.declared.message.Message.{Message}
use Rattle.world_model.specs.gsmp_wire.declared.message.Message.TheVariants as messages
use Rattle.world_model.specs.gsmp_wire.declared.request.Request.TheVariants.{DeleteAll, AllPorts}
use Rattle.world_model.specs.port_model.Messages.{is_up}
use Rattle.world_model.specs.port_model.Desk.{asked, message_at}
use Rattle.world_model.specs.port_model.Grants.{lent_input}
use Rattle.world_model.specs.port_model.Joins as port_joins
use Rattle.world_model.specs.port_model.Answers as port_answers
use Rattle.world_model.specs.port_model.Resets as port_resets
use Rattle.law_run_facts.proofs.law_controller_facts.Moves.{HasPorts, moves_ports, moves_to, answering}
use Rattle.law_run_facts.proofs.law_controller_facts.Joining.{IsJoin, joins_are, parts_grants, granted_there, releases_input_goes}
use Rattle.law_run_facts.proofs.law_port_facts.Found.{find_every}
use Rattle.world_model.specs.Controller.{Acted, free_slots, ports_of, note}
use Rattle.world_model.specs.Sending.{with_cells, sends}
use Rattle.world_model.specs.Joins.{Join, output_joined}
use Rattle.world_model.specs.Meeting.{takes_success}
use Rattle.law_action_weights.specs.claims_model.Costs.{total_weight, request_weight, reset_weight, deleting_weight, listing_weight, meeting_weight}
use Rattle.law_action_weights.specs.claims_model.Weights.{Bound, standing_cost, desk_weight, state_cost, changes_left}
use Rattle.law_run_facts.proofs.law_port_facts.Keyed.{on_both, on_each}
use Rattle.law_action_weights.proofs.law_port_weights.Sums.{total_found, total_mono}
use Rattle.law_action_weights.proofs.law_port_weights.Works.{cost_of_grant}
use Rattle.law_action_weights.proofs.law_port_weights.Answered.{done_free, parted_free, given_back_free}
use Rattle.law_action_weights.proofs.Judging.{linked_weight, IsFine, Weighs, W, weighs_then, more, none_then, then_none, still, itself, weighs_fold, costs_fold, placed}
use Rattle.law_action_weights.proofs.Resets.{found_own, node_cost, node_waits}
use Rattle.law_action_weights.proofs.Acting.{given_fine, asks_cost, takes_back_cost, at_port_cost, resets_spent_cost}

length_filter : {A : Type 0} (test : A → Bool) (xs : List A) → length (filter test xs) ≤ length xs
length_filter test [] = omega arith
length_filter test (x ∷ xs) = on_both (λ zs. length zs ≤ length (x ∷ xs)) (test x) (x ∷ filter test xs) (filter test xs) (omega (arith, length_filter test xs)) (omega (arith, length_filter test xs))

pub find_passes : {A : Type 0} (test : A → Bool) (xs : List A) (x : A) → find test xs ≡ Some x → test x ≡ true
find_passes test [] x e = absurd (cc e)
find_passes test (z ∷ xs) x e = elim (test z) as (λ t. test z ≡ t → (if t then Some z else find test xs) ≡ Some x → test x ≡ true) [
  | true ↦ λ t e. (let same : z ≡ x = cc in sym (ap test same) ∙ t)
  | false ↦ λ t e. find_passes test xs x e
] refl e

-- *Joins*: a grant that an input is joined to weighs more by one request where one change more waits
one_more : (changes : ℕ) (state : GrantState) (make : End → Join) (rest : List Join)
    → state_cost (suc changes) state + request_weight * length rest ≡ state_cost changes state + request_weight * length (cons_option (option_map make (lent_input state)) rest)
one_more changes Idle make rest = refl
one_more changes ByController make rest = refl
one_more changes (ByInput input) make rest = omega arith
one_more changes (Leaving input true) make rest = omega arith
one_more changes (Leaving input false) make rest = omega arith

grants_more : (changes : ℕ) (port : PortNo) (grants : List Grant)
    → total_weight (cost_of_grant (suc changes)) grants ≡ total_weight (cost_of_grant changes) grants + request_weight * length (filter_map (join_to port) grants)
grants_more changes port [] = omega arith
grants_more changes port (grant ∷ grants) =
    omega (arith, one_more changes grant.state (λ input. record { input = input; port = port; grant = grant }) (filter_map (join_to port) grants), grants_more changes port grants)

ports_more : (changes : ℕ) (ports : List Linked) → total_weight (linked_weight (suc changes)) ports ≡ total_weight (linked_weight changes) ports + request_weight * length (flat_map joins_at ports)
ports_more changes [] = omega arith
ports_more changes (linked ∷ ports) = omega (arith, grants_more changes linked.setup.port linked.port.grants, ports_more changes ports, length-append (joins_at linked) (flat_map joins_at ports))

length_entered : {A : Type 0} (le : A → A → Bool) (y : A) (xs : List A) → length (entered le y xs) ≡ suc (length xs)
length_entered le y [] = refl
length_entered le y (x ∷ xs) = on_both (λ zs. length zs ≡ suc (length (x ∷ xs))) (le y x) (y ∷ x ∷ xs) (x ∷ entered le y xs) refl (omega (arith, length_entered le y xs))

length_in_order : {A : Type 0} (le : A → A → Bool) (xs : List A) → length (in_order le xs) ≡ length xs
length_in_order le [] = refl
length_in_order le (x ∷ xs) = omega (arith, length_entered le x (in_order le xs), length_in_order le xs)

-- and fewer changes weigh less
state_less : (fewer more : ℕ) → fewer ≤ more → (state : GrantState) → state_cost fewer state ≤ state_cost more state
state_less fewer more le Idle = omega arith
state_less fewer more le ByController = omega arith
state_less fewer more le (ByInput input) = omega (arith, le)
state_less fewer more le (Leaving input true) = omega (arith, le)
state_less fewer more le (Leaving input false) = omega (arith, le)

linked_less : (fewer more : ℕ) → fewer ≤ more → (linked : Linked) → linked_weight fewer linked ≤ linked_weight more linked
linked_less fewer more le linked =
    omega (arith, total_mono (cost_of_grant fewer) (cost_of_grant more) (λ grant. state_less fewer more le grant.state) linked.port.grants)

ports_less : (fewer more : ℕ) → fewer ≤ more → (ports : List Linked) → total_weight (linked_weight fewer) ports ≤ total_weight (linked_weight more) ports
ports_less fewer more le ports = total_mono (linked_weight fewer) (linked_weight more) (linked_less fewer more le) ports

-- *What waits* stays while requests are asked
sent_waits : (a : Acted) (channel : Channel) (mark : Mark) (payload : List ℕ) → (sends a channel mark payload).controller.waiting ≡ a.controller.waiting
sent_waits a channel mark payload = on_both (λ (s : Sender Controller). s.queues.waiting ≡ a.controller.waiting) (nat_le (length (frame_cells channel mark payload)) (free_slots a.controller))
    (record { queues = with_cells a.controller (frame_cells channel mark payload); notes = made a.notes mark payload })
    (record { queues = a.controller; notes = noted (made a.notes mark payload) (Loss mark PoolFull) }) refl refl

asks_waits : (a : Acted) (request : Request) → (asks a request).controller.waiting ≡ a.controller.waiting
asks_waits a request = on_both Waits (is_estab a.controller.adjacency.state) (if a.controller.desk.next == last_transaction then node_resets a else asks_next a request) a
    (on_both Waits (a.controller.desk.next == last_transaction) (node_resets a) (asks_next a request) (node_waits a)
    (let entered : Acted = with_desk a (asked a.controller.desk request) in
    sent_waits (record entered { numbers = with_control entered.numbers }) default_channel (next_control entered.numbers)
    (gsmp_octets (message_at entered.controller.desk (record { number = a.controller.desk.next; request = request }))))) refl
  where
    Waits : Acted → Type 0
    Waits b = b.controller.waiting ≡ a.controller.waiting

takes_waits : (a : Acted) (join : Join) → (takes_join_back a join).controller.waiting ≡ a.controller.waiting
takes_waits a join = on_both (λ (b : Acted). b.controller.waiting ≡ a.controller.waiting) (is_led_home a.controller.desk join.input (home_of join.input)) a (asks a (MoveBranch join.input (output_joined join) (home_of join.input)))
    refl (asks_waits a (MoveBranch join.input (output_joined join) (home_of join.input)))

all_wait : (joins : List Join) (a : Acted) → (fold takes_join_back a joins).controller.waiting ≡ a.controller.waiting
all_wait [] a = refl
all_wait (join ∷ joins) a = all_wait joins (takes_join_back a join) ∙ takes_waits a join

begins_waits : (a : Acted) (change : RouteChange) → (begins_change a change).controller.waiting ≡ a.controller.waiting
begins_waits a change =
    let begun : Acted = record a { controller = record a.controller { is_begun = true } } in
    on_both (λ (b : Acted). b.controller.waiting ≡ a.controller.waiting) a.controller.is_begun a (fold takes_join_back begun (changed_joins a.controller change)) refl (all_wait (changed_joins a.controller change) begun)

module _ (topology : Topology) (node : NodeId) (bound : Bound) (final : List Frame) (short : (mark : Mark) (payload : List ℕ) → payload_of final mark ≡ Some payload → length payload ≤ 1528) where
  abbrev Costly : ℕ → Acted → Acted → Type 0
  Costly count a b = Weighs topology node bound final short count a b

  abbrev V : Acted → ℕ
  V a = W topology node bound final short a

  rests : (count : ℕ) (a : Acted) → Costly count a a
  rests count a = itself topology node bound final short count a

  -- nothing is sent, and what becomes lighter pays for what comes behind it
  pub pays_then : (paid count : ℕ) (a b c : Acted) → b.notes.frames ≡ a.notes.frames → b.numbers.controls ≡ a.numbers.controls → b.controller.ports ≡ a.controller.ports
      → V b + paid ≤ V a + count → Costly paid b c → Costly count a c
  pays_then paid count a b c frames controls ports le q =
      let s : Costly (V b) a b = still topology node bound final short (V b) a b frames controls ports (omega arith) in
      let all : Costly (V b + paid) a c = weighs_then topology node bound final short (V b) paid a b c s q in
      record {
        fine = all.fine;
        extends = all.extends;
        cost = λ f e. (let two = q.cost (s.fine f) e in omega (arith, two, le));
      }

  -- *Releases*
  module _ (setups : List Setup) where
    releases_input_cost : (a : Acted) (input : End) → HasPorts setups a → Costly 0 a (releases_input a input)
    releases_input_cost a input h = by (join_of a.controller input) (λ join e. find_every (IsJoin setups a) (λ (join : Join). same_end join.input input) (joins_of a.controller) join (joins_are setups a h) e)
      where
        by : (o : Option Join) → ((join : Join) → o ≡ Some join → IsJoin setups a join) → Costly 0 a (releases_join a o)
        by None is = rests 0 a
        by (Some join) is =
            let noted : Acted = note a (Part a.controller.node join.input.port (number_of_channel join.input.channel)) in
            none_then topology node bound final short 0 a noted (releases_join a (Some join)) (still topology node bound final short 0 a noted refl refl refl (omega arith))
            (none_then topology node bound final short 0 noted (parts a join.input) (releases_join a (Some join))
            (at_port_cost topology node bound final short 0 noted join.input.port (λ setup desk w. port_joins.parted w (number_of_channel join.input.channel))
            (λ linked found. parted_free (changes_left noted.controller) (begins noted linked) (number_of_channel join.input.channel)))
            (at_port_cost topology node bound final short 0 (parts a join.input) join.port (λ setup desk w. port_joins.given_back w join.grant)
            (λ linked found. given_back_free (changes_left (parts a join.input).controller) (begins (parts a join.input) linked) join.grant
            (granted_there setups a (parts a join.input) join linked (is join refl) (parts_grants setups a join.input join.port.0 h) found))))

    releases_all : (inputs : List End) (a : Acted) → HasPorts setups a → Costly 0 a (fold releases_input a inputs)
    releases_all [] a h = rests 0 a
    releases_all (input ∷ inputs) a h = none_then topology node bound final short 0 a (releases_input a input) (fold releases_input (releases_input a input) inputs) (releases_input_cost a input h)
        (releases_all inputs (releases_input a input) (moves_ports setups (releases_input_goes setups a input h) h))

    releases_cost : (a : Acted) (request : Request) → HasPorts setups a → Costly 0 a (releases a request)
    releases_cost a request h =
        let released : Acted = fold releases_input a (released_inputs a.controller request) in
        none_then topology node bound final short 0 a released (releases a request) (releases_all (released_inputs a.controller request) a h)
        (weighs_fold topology node bound final short resets_spent (resets_spent_cost topology node bound final short) (ports_of released.controller) released)

  -- *Meeting*
  asks_all : (requests : List Request) (a : Acted) → Costly (total_weight (λ (r : Request). request_weight + standing_cost r) requests) a (fold asks a requests)
  asks_all [] a = rests 0 a
  asks_all (request ∷ requests) a = weighs_then topology node bound final short (request_weight + standing_cost request) (total_weight (λ (r : Request). request_weight + standing_cost r) requests) a (asks a request) (fold asks (asks a request) requests)
      (asks_cost topology node bound final short a request) (asks_all requests (asks a request))

  few_up : (a : Acted) → IsFine a → length (up_ports a.controller) ≤ 8
  few_up a f = omega (arith, length_filter (is_up a.controller.desk.rows) (ports_of a.controller), length-map a.controller.ports (λ (linked : Linked). linked.setup.port), f.few)

  branches_cost : (ports : List PortNo) → total_weight (λ (r : Request). request_weight + standing_cost r) (flat_map default_branches ports) ≡ length ports * (2 * request_weight)
  branches_cost [] = refl
  branches_cost (port ∷ ports) = omega (arith, branches_cost ports)

  ends_meeting_cost : (a : Acted) → Costly deleting_weight a (ends_meeting a)
  ends_meeting_cost a =
      let met : Acted = record a { controller = record a.controller { has_met = true } } in
      given_fine topology node bound final short deleting_weight a (ends_meeting a)
      (λ f. more topology node bound final short (total_weight (λ (r : Request). request_weight + standing_cost r) (flat_map default_branches (up_ports a.controller))) deleting_weight a (ends_meeting a)
      (omega (arith, branches_cost (up_ports a.controller), few_up a f))
      (none_then topology node bound final short (total_weight (λ (r : Request). request_weight + standing_cost r) (flat_map default_branches (up_ports a.controller))) a met (ends_meeting a)
      (still topology node bound final short 0 a met refl refl refl (omega arith)) (asks_all (flat_map default_branches (up_ports a.controller)) met)))

  deletes_cost : (ports : List PortNo) → total_weight (λ (r : Request). request_weight + standing_cost r) (map DeleteAll ports) ≡ length ports * reset_weight
  deletes_cost [] = refl
  deletes_cost (port ∷ ports) = omega (arith, deletes_cost ports)

  empties_cost : (a : Acted) → Costly listing_weight a (empties a)
  empties_cost a =
      let ports : List PortNo = record { 0 = 0 } ∷ up_ports a.controller in
      given_fine topology node bound final short listing_weight a (empties a)
      (λ f. more topology node bound final short (total_weight (λ (r : Request). request_weight + standing_cost r) (map DeleteAll ports)) listing_weight a (empties a)
      (omega (arith, deletes_cost ports, few_up a f)) (asks_all (map DeleteAll ports) a))

  pub meets_cost : (a : Acted) → Costly meeting_weight a (meets a)
  meets_cost a = none_then topology node bound final short meeting_weight a (with_desk a empty_desk) (meets a)
      (still topology node bound final short 0 a (with_desk a empty_desk) refl refl refl (omega arith)) (asks_cost topology node bound final short (with_desk a empty_desk) AllPorts)

  behind_cost : (a : Acted) (port : PortNo) → Costly deleting_weight a (behind_delete_all a port)
  behind_cost a port = on_both (Costly deleting_weight a) a.controller.has_met (asks a (AddBranch (default_end port) (default_home port))) (if has_emptied a.controller then ends_meeting a else a)
      (more topology node bound final short (request_weight + 0) deleting_weight a (asks a (AddBranch (default_end port) (default_home port))) (omega arith) (asks_cost topology node bound final short a (AddBranch (default_end port) (default_home port))))
      (on_both (Costly deleting_weight a) (has_emptied a.controller) (ends_meeting a) a (ends_meeting_cost a) (rests deleting_weight a))

  tells_cost : (a : Acted) (request : Request) (port : PortNo) → Costly 0 a (tells_port a request (Some port))
  tells_cost a request port = at_port_cost topology node bound final short 0 a port (λ setup desk w. port_answers.done setup w request)
      (λ linked found. done_free (changes_left a.controller) linked.setup a.controller.desk (begins a linked) request)

  causes_in_cost : (a : Acted) (request : Request) → Costly (standing_cost request) a (causes_in_estab a request)
  causes_in_cost a (AddBranch input output) = tells_cost a (AddBranch input output) (port_of_input input output)
  causes_in_cost a (MoveBranch input from to) = tells_cost a (MoveBranch input from to) (port_of_input input to)
  causes_in_cost a (DeleteTree input) = tells_cost a (DeleteTree input) input.port
  causes_in_cost a (VerifyTree input) = tells_cost a (VerifyTree input) input.port
  causes_in_cost a (DeleteAll port) = behind_cost a port
  causes_in_cost a (PortManagement port function) = tells_cost a (PortManagement port function) port
  causes_in_cost a AllPorts = rests listing_weight a

  clears_of_cost : (a : Acted) (port : PortNo) (o : Option Linked) → linked_at a.controller port ≡ o → Costly 0 a (clears_of a o)
  clears_of_cost a port None found = rests 0 a
  clears_of_cost a port (Some linked) found = on_both (Costly 0 a) (may_clear a.controller linked) (with_linked a (record linked { port = port_resets.cleared linked.port })) a
      (placed topology node bound final short 0 a linked (record linked { port = port_resets.cleared linked.port }) (found_own a.controller.ports port linked found) refl (omega arith)) (rests 0 a)

  -- *Changes of routes*
  begins_cost : (a : Acted) (change : RouteChange) (later : ℕ) → length a.controller.waiting ≡ suc later → Costly 0 a (begins_change a change)
  begins_cost a change later waits = on_each (Costly 0 a) a.controller.is_begun a (fold takes_join_back begun (changed_joins a.controller change)) (λ t. rests 0 a)
      (λ t. (let some : length (changed_joins a.controller change) ≤ length (flat_map joins_at a.controller.ports) =
      omega (arith, length_filter (is_changed a.controller.table change) (joins_of a.controller), length_in_order (λ (x : Join) (y : Join). end_le x.input y.input) (flat_map joins_at a.controller.ports)) in
      let before : changes_left a.controller ≡ suc later = omega (arith, waits, ap {B = ℕ} (λ (b : Bool). if b then 1 else 0) t) in
      let after : changes_left begun.controller ≡ later = omega (arith, waits) in
      let all = ports_more later a.controller.ports in
      let old = ap (λ n. total_weight (linked_weight n) a.controller.ports) before in
      let new = ap (λ n. total_weight (linked_weight n) a.controller.ports) after in
      pays_then (length (changed_joins a.controller change) * request_weight) 0 a begun (fold takes_join_back begun (changed_joins a.controller change)) refl refl refl (omega (arith, some, all, old, new))
      (costs_fold topology node bound final short request_weight takes_join_back (λ b join. takes_back_cost topology node bound final short b join.input (output_joined join)) (changed_joins a.controller change) begun)))
    where
      begun : Acted
      begun = record a { controller = record a.controller { is_begun = true } }

  takes_cost : (a : Acted) (change : RouteChange) (later : List RouteChange) → length a.controller.waiting ≡ suc (length later) → Costly 0 a (takes_change a change later)
  takes_cost a change later waits = still topology node bound final short 0 a (takes_change a change later) refl refl refl
      (omega (arith, ports_less (length later - 0) (changes_left a.controller) (omega (arith, waits, at_most_one a.controller.is_begun)) a.controller.ports))
    where
      at_most_one : (b : Bool) → (if b then 1 else 0) ≤ 1
      at_most_one true = omega arith
      at_most_one false = omega arith

  takes_each_cost : (changes : List RouteChange) (a : Acted) → length a.controller.waiting ≡ length changes → Costly 0 a (takes_each a changes)
  takes_each_cost [] a waits = rests 0 a
  takes_each_cost (change ∷ later) a waits =
      let begun : Acted = begins_change a change in
      let first : Costly 0 a begun = begins_cost a change (length later) waits in
      on_both (Costly 0 a) (may_take begun.controller change) (takes_each (takes_change begun change later) later) begun
      (none_then topology node bound final short 0 a begun (takes_each (takes_change begun change later) later) first
      (none_then topology node bound final short 0 begun (takes_change begun change later) (takes_each (takes_change begun change later) later)
      (takes_cost begun change later (ap length (begins_waits a change) ∙ waits)) (takes_each_cost later (takes_change begun change later) refl))) first

  takes_changes_cost : (a : Acted) → Costly 0 a (takes_changes a)
  takes_changes_cost a = on_both (Costly 0 a) a.controller.has_met (takes_each a a.controller.waiting) a (takes_each_cost a.controller.waiting a refl) (rests 0 a)

  -- *A success*, and any answer
  module _ (setups : List Setup) where
    done_cost : (a : Acted) (request : Request) → HasPorts setups a → Costly (standing_cost request) a (takes_success a request)
    done_cost a request h =
        let released : Acted = releases a request in
        let caused : Acted = causes released request in
        let cleared_ones : Acted = clears caused in
        none_then topology node bound final short (standing_cost request) a released (takes_success a request) (releases_cost setups a request h)
        (then_none topology node bound final short (standing_cost request) released cleared_ones (takes_success a request)
        (then_none topology node bound final short (standing_cost request) released caused cleared_ones
        (on_both (Costly (standing_cost request) released) (is_estab released.controller.adjacency.state) (causes_in_estab released request) released (causes_in_cost released request) (rests (standing_cost request) released))
        (weighs_fold topology node bound final short clears_port (λ b port. clears_of_cost b port (linked_at b.controller port) refl) (ports_of caused.controller) caused))
        (takes_changes_cost cleared_ones))

    all_ports : (request : Request) (result code number : ℕ) (rows : List PortRow) → is_of_type (messages.AllPorts result code number rows) request ≡ true → standing_cost request ≡ listing_weight
    all_ports AllPorts result code number rows e = refl
    all_ports (AddBranch input output) result code number rows e = absurd (cc e)
    all_ports (MoveBranch input from to) result code number rows e = absurd (cc e)
    all_ports (DeleteTree input) result code number rows e = absurd (cc e)
    all_ports (VerifyTree input) result code number rows e = absurd (cc e)
    all_ports (DeleteAll port) result code number rows e = absurd (cc e)
    all_ports (PortManagement port function) result code number rows e = absurd (cc e)

    second : (a b : Bool) → (a && b) ≡ true → b ≡ true
    second true b e = e
    second false b e = absurd (cc e)

    module _ (a : Acted) (h : HasPorts setups a) where
      without_ports : (answer : Answered) → HasPorts setups (with_desk a (after_answer a.controller.desk answer))
      without_ports answer = moves_ports setups (moves_to (answering a answer)) h

      gone_some : (head : ℕ) (message : Message) (s : Standing) → find (λ (x : Standing). x.number == head && is_of_type message x.request) a.controller.desk.standing ≡ Some s
          → desk_weight (without_request a.controller.desk s) + standing_cost s.request ≤ desk_weight a.controller.desk
      gone_some head message s e = total_found (λ (x : Standing). standing_cost x.request) (λ (x : Standing). x.number == head && is_of_type message x.request) (λ (other : Standing). not (other.number == s.number)) a.controller.desk.standing s e (same s.number)
        where
          same : (n : ℕ) → not (n == n) ≡ false
          same n = grind (arith, nat_tests)

      succeeds : (message : Message) (s : Standing) → desk_weight (without_request a.controller.desk s) + standing_cost s.request ≤ desk_weight a.controller.desk → is_of_type message s.request ≡ true
          → Costly 0 a (takes_answer a (succeeded message s))
      succeeds (messages.AllPorts result code number rows) s le typed =
          let b : Acted = with_desk a (after_answer a.controller.desk (Ports s rows)) in
          pays_then listing_weight 0 a b (empties b) refl refl refl (omega (arith, le, all_ports s.request result code number rows typed)) (empties_cost b)
      succeeds (messages.Adjacency greeting) s le typed = (let b : Acted = with_desk a (after_answer a.controller.desk (Done s)) in
          pays_then (standing_cost s.request) 0 a b (takes_success b s.request) refl refl refl (omega (arith, le)) (done_cost b s.request (without_ports (Done s))))
      succeeds (messages.Branch kind result code number session input_port input output_port output branches priority) s le typed = (let b : Acted = with_desk a (after_answer a.controller.desk (Done s)) in
          pays_then (standing_cost s.request) 0 a b (takes_success b s.request) refl refl refl (omega (arith, le)) (done_cost b s.request (without_ports (Done s))))
      succeeds (messages.Move result code number session input_port input output_port output target_port target branches priority) s le typed = (let b : Acted = with_desk a (after_answer a.controller.desk (Done s)) in
          pays_then (standing_cost s.request) 0 a b (takes_success b s.request) refl refl refl (omega (arith, le)) (done_cost b s.request (without_ports (Done s))))
      succeeds (messages.Port result code number port session function) s le typed = (let b : Acted = with_desk a (after_answer a.controller.desk (Done s)) in
          pays_then (standing_cost s.request) 0 a b (takes_success b s.request) refl refl refl (omega (arith, le)) (done_cost b s.request (without_ports (Done s))))

      unknown : Costly 0 a (takes_answer a Unknown)
      unknown = rests 0 a

      answered_cost : (message : Message) (head : Head) (o : Option Standing) → find (λ (x : Standing). x.number == head.number && is_of_type message x.request) a.controller.desk.standing ≡ o
          → Costly 0 a (takes_answer a (outcome message head o))
      answered_cost message head None e = unknown
      answered_cost message head (Some s) e =
          let le = gone_some head.number message s e in
          let typed = second (s.number == head.number) (is_of_type message s.request) (find_passes (λ (x : Standing). x.number == head.number && is_of_type message x.request) a.controller.desk.standing s e) in
          let failed : Acted = with_desk a (after_answer a.controller.desk (Failed s head.code)) in
          on_both (λ (x : Answered). Costly 0 a (takes_answer a x)) (head.result == 3) (succeeded message s) (if head.result == 4 then Failed s head.code else Unknown) (succeeds message s le typed)
          (on_both (λ (x : Answered). Costly 0 a (takes_answer a x)) (head.result == 4) (Failed s head.code) Unknown
          (none_then topology node bound final short 0 a failed (node_resets failed) (still topology node bound final short 0 a failed refl refl refl (omega (arith, le))) (node_cost topology node bound final short failed)) unknown)

      pub answer_cost : (message : Message) → Costly 0 a (answer_comes a message)
      answer_cost message = by (head_of message)
        where
          by : (o : Option Head) → Costly 0 a (takes_answer a (answered_with a.controller.desk.standing message o))
          by None = unknown
          by (Some head) = answered_cost message head (find (λ (x : Standing). x.number == head.number && is_of_type message x.request) a.controller.desk.standing) refl
