-- how many control marks releases, what an answer causes and changes of routes draw

use Rattle.std.proofs.Common.{◌≡◌, ℕ, ◌≤◌, ◌+◌, ◌*◌, Bool, true, false, List, [], ◌∷◌, ◌++◌, length, Option, None, Some, refl, sym, ◌∙◌, ap, subst, arith, length-append, if◌then◌else◌, map, fold, inl, inr}
use Rattle.std.specs.Prelude.{not, ◌&&◌, ◌||◌, nat_lt, take, filter, flat_map}
use Rattle.std.specs.List.{filter_map, cons_option, list_any}
use Rattle.std.proofs.lemmas.List.{length-map}
use Rattle.std.proofs.lemmas.List.{length-take}
use Rattle.claims_model.specs.world_model.Words.{PortNo, End, label_channel_of, number_of_channel, RouteChange, Request, AddBranch, MoveBranch, DeleteTree, VerifyTree, PortManagement, is_estab, Part, leads_home, Setup, home_of, Label, Grant, GrantState, Idle, ByController, ByInput, Leaving, grant_label, Session, Work, with_session, with_grants, without_grant, label_at, Unnumbered, halts_if_spent, tells, tells_in, reclaim_ack, own_instance, last_number, spent_number, Linked, with_linked, default_end, default_home, asks, begins, join_to, joins_at, end_le, joins_of, join_of, parts, gives_back, releases_join, releases_input, released_inputs, resets_spent, releases, joins, is_changed, changed_joins, takes_join_back, begins_change, takes_change, may_take, takes_each, takes_changes, up_ports, default_branches, ends_meeting, has_emptied, port_of_input, tells_port, behind_delete_all, causes_in_estab, causes, may_clear, clears_of, same_end, put, without, entered, in_order, Action, Say}
use Rattle.claims_model.specs.world_model.gsmp_wire.declared.request.Request.TheVariants.{DeleteAll, AllPorts}
use Rattle.claims_model.specs.world_model.port_model.Messages.{is_up}
use Rattle.claims_model.specs.world_model.port_model.Port.{with_action}
use Rattle.claims_model.specs.world_model.port_model.Saying.{peer_instance}
use Rattle.claims_model.specs.world_model.port_model.Answers as port_answers
use Rattle.claims_model.specs.world_model.port_model.Joins as port_joins
use Rattle.claims_model.specs.world_model.port_model.Resets.{cleared}
use Rattle.law_port_facts.specs.Port.{IsPort}
use Rattle.law_port_facts.proofs.Keyed.{on_both}
use Rattle.law_port_facts.proofs.Rules.{done_goes}
use Rattle.claims_model.specs.world_model.Controller.{Acted, ports_of, note}
use Rattle.claims_model.specs.world_model.Joins.{Join, output_joined}
use Rattle.std.specs.Option.{option_map}
use Rattle.claims_model.specs.world_model.ipv4_forward.declared.table.Route.{Route}
use Rattle.law_port_facts.specs.ordered_lists.Ordered.{Every}
use Rattle.law_port_facts.proofs.Found.{find_every}
use Rattle.law_port_facts.proofs.Weights.{weigh, still, tells_cost, closes_cost, grant_cost, gone_grant_cost, done_cost}
use Rattle.law_controller_facts.specs.Sound.{linked_setup, IsLinkedPort}
use Rattle.law_controller_facts.proofs.Moves.{by_rule, by_closing, by_parting, by_giving_back, HasPorts, begun, moves_ports, moves_fold}
use Rattle.law_controller_facts.proofs.Performing.{To, Any, any_ports}
use Rattle.law_controller_facts.proofs.Joining.{IsJoin, joins_are, parts_goes, parts_grants, granted_there, AnyEnd, any_ends, releases_input_goes, resets_spent_goes, begins_change_goes, takes_change_goes}
use Rattle.law_controller_facts.proofs.TakenBack.{Stays, back_fold}
use Rattle.law_controller_facts.proofs.Marks.{Marks, no_marks, mark_more, marks_then, marks_fold, asks_marks, takes_back_marks, at_port_marks, light_of}

-- *Counting*
pub filter_few : {A : Type 0} (test : A → Bool) (xs : List A) → length (filter test xs) ≤ length xs
filter_few test [] = omega arith
filter_few test (x ∷ xs) = on_both (λ ys. length ys ≤ length (x ∷ xs)) (test x) (x ∷ filter test xs) (filter test xs) (omega (arith, filter_few test xs)) (omega (arith, filter_few test xs))

pub take_few : {A : Type 0} (n : ℕ) (xs : List A) → length (take n xs) ≤ n
take_few n xs = omega (arith, length-take n xs)

entered_count : {A : Type 0} (le : A → A → Bool) (y : A) (xs : List A) → length (entered le y xs) ≡ 1 + length xs
entered_count le y [] = refl
entered_count le y (x ∷ xs) = on_both (λ ys. length ys ≡ 1 + length (x ∷ xs)) (le y x) (y ∷ x ∷ xs) (x ∷ entered le y xs) (omega arith) (omega (arith, entered_count le y xs))

in_order_count : {A : Type 0} (le : A → A → Bool) (xs : List A) → length (in_order le xs) ≡ length xs
in_order_count le [] = refl
in_order_count le (x ∷ xs) = omega (arith, entered_count le x (in_order le xs), in_order_count le xs)

filter_map_few : {A B : Type 0} (f : A → Option B) (xs : List A) → length (filter_map f xs) ≤ length xs
filter_map_few f [] = omega arith
filter_map_few {A} {B} f (x ∷ xs) = by_answer (f x) (filter_map_few f xs)
  where
    by_answer : (o : Option B) → length (filter_map f xs) ≤ length xs → length (cons_option o (filter_map f xs)) ≤ length (x ∷ xs)
    by_answer None e = omega (arith, e)
    by_answer (Some y) e = omega (arith, e)

module _ (setups : List Setup) where
  pub ports_size : (a : Acted) → HasPorts setups a → length a.controller.ports ≡ length setups
  ports_size a h = omega (arith, length-map a.controller.ports linked_setup, ap (λ (xs : List Setup). length xs) h.ports.same)

  pub ports_of_size : (a : Acted) → HasPorts setups a → length (ports_of a.controller) ≡ length setups
  ports_of_size a h = omega (arith, ports_size a h, length-map a.controller.ports (λ (linked : Linked). linked.setup.port))

  each_few : {B : Type 0} (count : ℕ) (f : Linked → List B) → ((linked : Linked) → IsPort setups linked.setup linked.port → length (f linked) ≤ count) → (ports : List Linked) → Every (IsLinkedPort setups) ports
      → length (flat_map f ports) ≤ count * length ports
  each_few count f few [] all = omega arith
  each_few count f few (linked ∷ ports) all = omega (arith, length-append (f linked) (flat_map f ports), few linked all.0, each_few count f few ports all.1)

  joins_few : (a : Acted) → HasPorts setups a → length (joins_of a.controller) ≤ 256 * length setups
  joins_few a h = omega (
    arith,
    in_order_count (λ (x : Join) (y : Join). end_le x.input y.input) (flat_map joins_at a.controller.ports),
    ports_size a h,
    each_few 256 joins_at (λ linked fits. omega (arith, filter_map_few (join_to linked.setup.port) linked.port.grants, fits.few)) a.controller.ports h.ports.each,
  )

  -- *Releases*
  parts_marks : (a : Acted) (input : End) → HasPorts setups a → Marks 0 a (parts a input)
  parts_marks a input h =
      let noted : Acted = note a (Part a.controller.node input.port (number_of_channel input.channel)) in
      let all : Marks 0 noted (parts a input) = at_port_marks setups 0 noted input.port (λ setup desk w. port_joins.parted w (number_of_channel input.channel)) (record { ports = h.ports; shaped = h.shaped })
      (λ linked found. by_parting (number_of_channel input.channel)) (λ linked found. none_light linked (label_at linked.port (number_of_channel input.channel)) noted) in
      record { few = all.few }
    where
      none_light : (linked : Linked) (o : Option Label) (b : Acted) → weigh (port_joins.joins_label (begins b linked) None o).actions ≤ 0
      none_light linked None b = omega arith
      none_light linked (Some label) b = omega arith

  kept_halted : (w : Work) (grants : List Grant) → (with_grants w grants).halted ≡ w.halted
  kept_halted w grants = on_both (λ (v : Work). v.halted ≡ w.halted) w.halted w (record w { port = record w.port { grants = grants } }) refl refl

  told_halted : (w : Work) (message : Unnumbered) → (tells w message).halted ≡ w.halted
  told_halted w message = told w.port.session
    where
      session_halted : (w : Work) (change : Session → Session) → (with_session w change).halted ≡ w.halted
      session_halted w change = on_both (λ (v : Work). v.halted ≡ w.halted) w.halted w (record w { port = record w.port { session = option_map change w.port.session } }) refl refl

      acts_halted : (w : Work) (action : Action) → (with_action w action).halted ≡ w.halted
      acts_halted w action = on_both (λ (v : Work). v.halted ≡ w.halted) w.halted w (record w { actions = w.actions ++ action ∷ [] }) refl refl

      told : (o : Option Session) → (tells_in w message o).halted ≡ w.halted
      told None = refl
      told (Some s) =
          let next : Work = with_session w (λ session. record session { number = s.number + 1 }) in
          let spent : Work = with_session w (λ session. record session { number = spent_number }) in
          let said : Action = Say (message (own_instance w.port.adjacency) (peer_instance w.port.adjacency) s.number) in
          on_both (λ (v : Work). v.halted ≡ w.halted) (nat_lt s.number last_number) (with_action next said) spent (acts_halted next said ∙ session_halted w (λ session. record session { number = s.number + 1 })) (session_halted w (λ session. record session { number = spent_number }))

  given_back_light : (w : Work) (grant : Grant) (state : GrantState) → w.actions ≡ [] → w.halted ≡ false → weigh (port_joins.given_back_in w grant state).actions ≤ 1
  given_back_light w grant Idle none live = omega (arith, ap weigh none)
  given_back_light w grant ByController none live = omega (arith, ap weigh none)
  given_back_light w grant (ByInput input) none live = omega (arith, ap weigh none, (grant_cost w (record grant { state = ByController })).cost, ap still (kept_halted w (put grant_label (record grant { state = ByController }) w.port.grants)))
  given_back_light w grant (Leaving input true) none live = (let gone : Work = without_grant w grant.label in let message : Unnumbered = reclaim_ack (label_channel_of grant.label) grant.flow in
      omega (arith, ap weigh none, (gone_grant_cost w grant.label).cost, (tells_cost gone message).cost, ap still (told_halted gone message), ap still (kept_halted w (without grant_label grant.label w.port.grants))))
  given_back_light w grant (Leaving input false) none live = omega (arith, ap weigh none, (gone_grant_cost w grant.label).cost, ap still (kept_halted w (without grant_label grant.label w.port.grants)))

  releases_join_marks : (a : Acted) (o : Option Join) → ((join : Join) → o ≡ Some join → IsJoin setups a join) → HasPorts setups a → Marks 1 a (releases_join a o)
  releases_join_marks a None is h = no_marks 1 a a refl
  releases_join_marks a (Some join) is h =
      let parted : Acted = parts a join.input in
      let k : HasPorts setups parted = moves_ports setups (parts_goes setups a join.input h) h in
      marks_then 0 1 a parted (gives_back parted join) (parts_marks a join.input h)
      (at_port_marks setups 1 parted join.port (λ setup desk w. port_joins.given_back w join.grant) k
      (λ linked found. by_giving_back join.grant (granted_there setups a parted join linked (is join refl) (parts_grants setups a join.input join.port.0 h) found))
      (λ linked found. given_back_light (begins parted linked) join.grant join.grant.state refl refl))

  releases_input_marks : (a : Acted) (input : End) → HasPorts setups a → Marks 1 a (releases_input a input)
  releases_input_marks a input h = releases_join_marks a (join_of a.controller input)
      (λ join e. find_every (IsJoin setups a) (λ (join : Join). same_end join.input input) (joins_of a.controller) join (joins_are setups a h) e) h

  resets_spent_marks : (a : Acted) (port : PortNo) → HasPorts setups a → Marks 257 a (resets_spent a port)
  resets_spent_marks a port h = at_port_marks setups 257 a port (λ setup desk w. halts_if_spent w) h (λ linked found. by_closing)
      (λ linked found. (let l = light_of 0 a linked (halts_if_spent (begins a linked)) (closes_cost (begins a linked)) in omega (arith, l)))

  released_few : (a : Acted) (request : Request) → HasPorts setups a → length (released_inputs a.controller request) ≤ 256 * length setups
  released_few a request h = omega (arith, filter_few (λ input. leads_home input (home_of input) request) (map (λ (join : Join). join.input) (joins_of a.controller)), length-map (joins_of a.controller) (λ (join : Join). join.input), joins_few a h)

  pub releases_marks : (a : Acted) (request : Request) → HasPorts setups a → Marks (513 * length setups) a (releases a request)
  releases_marks a request h =
      let inputs : List End = released_inputs a.controller request in
      let released : Acted = fold releases_input a inputs in
      let goes : To setups a released = moves_fold setups (AnyEnd setups) releases_input (λ b input k any. releases_input_goes setups b input k) inputs (any_ends setups inputs) a h in
      let k : HasPorts setups released = moves_ports setups goes h in
      let first : Marks (1 * length inputs) a released = marks_fold setups 1 (AnyEnd setups) releases_input (λ b input k any. releases_input_goes setups b input k) (λ b input k any. releases_input_marks b input k) inputs (any_ends setups inputs) a h in
      let second : Marks (257 * length (ports_of released.controller)) released (releases a request) = marks_fold setups 257 (Any setups) resets_spent (λ b port kb any. resets_spent_goes setups b port kb) (λ b port kb any. resets_spent_marks b port kb)
      (ports_of released.controller) (any_ports setups (ports_of released.controller)) released k in
      record { few = omega (arith, first.few, second.few, released_few a request h, ports_of_size released k) }

  -- *What an answer causes*
  pub asks_each_marks : (requests : List Request) (a : Acted) → Marks (length requests) a (fold asks a requests)
  asks_each_marks [] a = no_marks 0 a a refl
  asks_each_marks (request ∷ requests) a = mark_more (1 + length requests) (length (request ∷ requests)) a (fold asks (asks a request) requests) (omega arith)
      (marks_then 1 (length requests) a (asks a request) (fold asks (asks a request) requests) (asks_marks setups a request) (asks_each_marks requests (asks a request)))

  two_each : (ports : List PortNo) → length (flat_map default_branches ports) ≡ 2 * length ports
  two_each [] = refl
  two_each (port ∷ ports) = omega (arith, two_each ports)

  ends_meeting_marks : (a : Acted) → HasPorts setups a → Marks (2 * length setups) a (ends_meeting a)
  ends_meeting_marks a h =
      let met : Acted = record a { controller = record a.controller { has_met = true } } in
      let all : Marks (length (flat_map default_branches (up_ports a.controller))) met (ends_meeting a) = asks_each_marks (flat_map default_branches (up_ports a.controller)) met in
      record { few = omega (arith, all.few, two_each (up_ports a.controller), filter_few (is_up a.controller.desk.rows) (ports_of a.controller), ports_of_size a h) }

  tells_marks : (a : Acted) (request : Request) (port : PortNo) → HasPorts setups a → Marks (258 + 2 * length setups) a (tells_port a request (Some port))
  tells_marks a request port h = mark_more 258 (258 + 2 * length setups) a (tells_port a request (Some port)) (omega arith)
      (at_port_marks setups 258 a port (λ setup desk w. port_answers.done setup w request) h
      (λ linked found. by_rule (port_answers.done linked.setup (begins a linked) request) (done_goes linked.setup a.controller.desk (begins a linked) request (λ t. tt)))
      (λ linked found. light_of 1 a linked (port_answers.done linked.setup (begins a linked) request) (done_cost linked.setup a.controller.desk (begins a linked) request)))

  behind_marks : (a : Acted) (port : PortNo) → HasPorts setups a → Marks (258 + 2 * length setups) a (behind_delete_all a port)
  behind_marks a port h = on_both (Marks (258 + 2 * length setups) a) a.controller.has_met (asks a (AddBranch (default_end port) (default_home port))) (if has_emptied a.controller then ends_meeting a else a)
      (mark_more 1 (258 + 2 * length setups) a (asks a (AddBranch (default_end port) (default_home port))) (omega arith) (asks_marks setups a (AddBranch (default_end port) (default_home port))))
      (on_both (Marks (258 + 2 * length setups) a) (has_emptied a.controller) (ends_meeting a) a (mark_more (2 * length setups) (258 + 2 * length setups) a (ends_meeting a) (omega arith) (ends_meeting_marks a h)) (no_marks (258 + 2 * length setups) a a refl))

  causes_in_marks : (a : Acted) (request : Request) → HasPorts setups a → Marks (258 + 2 * length setups) a (causes_in_estab a request)
  causes_in_marks a (AddBranch input output) h = tells_marks a (AddBranch input output) (port_of_input input output) h
  causes_in_marks a (MoveBranch input from to) h = tells_marks a (MoveBranch input from to) (port_of_input input to) h
  causes_in_marks a (DeleteTree input) h = tells_marks a (DeleteTree input) input.port h
  causes_in_marks a (VerifyTree input) h = tells_marks a (VerifyTree input) input.port h
  causes_in_marks a (DeleteAll port) h = behind_marks a port h
  causes_in_marks a (PortManagement port function) h = tells_marks a (PortManagement port function) port h
  causes_in_marks a AllPorts h = no_marks (258 + 2 * length setups) a a refl

  pub causes_marks : (a : Acted) (request : Request) → HasPorts setups a → Marks (258 + 2 * length setups) a (causes a request)
  causes_marks a request h = on_both (Marks (258 + 2 * length setups) a) (is_estab a.controller.adjacency.state) (causes_in_estab a request) a (causes_in_marks a request h) (no_marks (258 + 2 * length setups) a a refl)

  pub clears_of_marks : (a : Acted) (o : Option Linked) → (clears_of a o).numbers.controls ≡ a.numbers.controls
  clears_of_marks a None = refl
  clears_of_marks a (Some linked) = on_both (λ (b : Acted). b.numbers.controls ≡ a.numbers.controls) (may_clear a.controller linked) (with_linked a (record linked { port = cleared linked.port })) a refl refl

  -- *Changes of routes*: a join that is taken back stays until it is released, so no change is taken behind it
  back_marks : (joins : List Join) (a : Acted) → Marks (length joins) a (fold takes_join_back a joins)
  back_marks [] a = no_marks 0 a a refl
  back_marks (join ∷ joins) a = mark_more (1 + length joins) (length (join ∷ joins)) a (fold takes_join_back (takes_join_back a join) joins) (omega arith)
      (marks_then 1 (length joins) a (takes_join_back a join) (fold takes_join_back (takes_join_back a join) joins) (takes_back_marks setups a join.input (output_joined join)) (back_marks joins (takes_join_back a join)))

  -- a change is begun: without a mark, or it can't be taken at once
  pub data Begun (a b : Acted) (change : RouteChange) : Type 0 where
    freely : b.numbers.controls ≡ a.numbers.controls → Begun a b change
    held : Marks (256 * length setups) a b → may_take b.controller change ≡ false → Begun a b change

  any_some : (test : Join → Bool) (joins : List Join) (first : Join) (rest : List Join) → filter test joins ≡ first ∷ rest → list_any test joins ≡ true
  any_some test [] first rest e = absurd (cc e)
  any_some test (join ∷ joins) first rest e = elim (test join) as (λ t. (if t then join ∷ filter test joins else filter test joins) ≡ first ∷ rest → (t || list_any test joins) ≡ true) [
    | true ↦ λ h. refl
    | false ↦ λ h. any_some test joins first rest h
  ] e

  and_false : (b : Bool) → (b && false) ≡ false
  and_false true = refl
  and_false false = refl

  begins_change_begun : (a : Acted) (change : RouteChange) → HasPorts setups a → Begun a (begins_change a change) change
  begins_change_begun a change h = on_both (λ (b : Acted). Begun a b change) a.controller.is_begun a (fold takes_join_back begun_one (changed_joins a.controller change)) (freely refl) (by_list (changed_joins a.controller change) refl)
    where
      begun_one : Acted
      begun_one = record a { controller = record a.controller { is_begun = true } }

      by_list : (joins : List Join) → changed_joins a.controller change ≡ joins → Begun a (fold takes_join_back begun_one joins) change
      by_list [] e = freely refl
      by_list (first ∷ rest) e = held few kept
        where
          after : Acted
          after = fold takes_join_back begun_one (first ∷ rest)

          count : length (first ∷ rest) ≤ 256 * length setups
          count = omega (arith, ap (λ (js : List Join). length js) e, filter_few (is_changed a.controller.table change) (joins_of a.controller), joins_few a h)

          few : Marks (256 * length setups) a after
          few = (let m : Marks (length (first ∷ rest)) begun_one after = back_marks (first ∷ rest) begun_one in record { few = omega (arith, m.few, count) })

          still_changed : Stays begun_one after → may_take after.controller change ≡ false
          still_changed (inl unmet) = ap (λ b. b && not (list_any (is_changed after.controller.table change) (joins_of after.controller))) unmet
          still_changed (inr same) =
              let there : list_any (is_changed after.controller.table change) (joins_of after.controller) ≡ true =
              ap (λ (t : List Route). list_any (is_changed t change) (joins_of after.controller)) same.1
              ∙ (ap (λ (ports : List Linked). list_any (is_changed a.controller.table change) (in_order (λ (x : Join) (y : Join). end_le x.input y.input) (flat_map joins_at ports))) same.0
              ∙ any_some (is_changed a.controller.table change) (joins_of a.controller) first rest e) in
              ap (λ b. after.controller.has_met && not b) there ∙ and_false after.controller.has_met

          kept : may_take after.controller change ≡ false
          kept = still_changed (back_fold (first ∷ rest) begun_one)

  begun_marks : (a begun after : Acted) (change : RouteChange) → Begun a begun change → Marks (256 * length setups) begun after → Marks (256 * length setups) a (if may_take begun.controller change then after else begun)
  begun_marks a begun after change (freely same) m = on_both (Marks (256 * length setups) a) (may_take begun.controller change) after begun (record { few = omega (arith, same, m.few) }) (no_marks (256 * length setups) a begun same)
  begun_marks a begun after change (held few kept) m = subst (λ b. Marks (256 * length setups) a (if b then after else begun)) (sym kept) few

  takes_each_marks : (changes : List RouteChange) (a : Acted) → HasPorts setups a → Marks (256 * length setups) a (takes_each a changes)
  takes_each_marks [] a h = no_marks (256 * length setups) a a refl
  takes_each_marks (change ∷ later) a h =
      let begun : Acted = begins_change a change in
      let taken : Acted = takes_change begun change later in
      let k : HasPorts setups begun = moves_ports setups (begins_change_goes setups a change h) h in
      let l : HasPorts setups taken = moves_ports setups (takes_change_goes setups begun change later) k in
      let rest : Marks (256 * length setups) taken (takes_each taken later) = takes_each_marks later taken l in
      begun_marks a begun (takes_each taken later) change (begins_change_begun a change h) (record { few = rest.few })

  pub takes_changes_marks : (a : Acted) → HasPorts setups a → Marks (256 * length setups) a (takes_changes a)
  takes_changes_marks a h = on_both (Marks (256 * length setups) a) a.controller.has_met (takes_each a a.controller.waiting) a (takes_each_marks a.controller.waiting a h) (no_marks (256 * length setups) a a refl)
