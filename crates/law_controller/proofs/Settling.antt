-- an answer of the switch keeps joins and lent grants matched, once all that it frees is released

use Rattle.std.proofs.Common.{◌≡◌, ◌≢◌, ℕ, Bool, true, false, List, [], ◌∷◌, length, Option, None, Some, refl, sym, ◌∙◌, ap, subst, arith, ◌<◌, inl, inr, if◌then◌else◌, map, fold}
use Rattle.std.specs.Prelude.{◌⊎◌, ◌==◌, ◌||◌, not, nat_le, filter, find}
use Rattle.std.specs.List.{list_any}
use Rattle.std.specs.Option.{option_map, option_map_or, option_and_then}
use Rattle.std.proofs.lemmas.Bool.Decides.{nat_tests}
use Rattle.law_controller_facts.specs.world_model.Words.{PortNo, Channel, End, Mark, next_control, with_control, number_of_channel, is_estab, Request, AddBranch, MoveBranch, DeleteTree, VerifyTree, PortManagement, ifmp_packet_of, default_payload, Loss, Free, PoolFull, noted, frame_cells, made, nothing_taken, same_end, at, put, without, is_delete_all, leads_home, Desk, Standing, all_on, on_input, is_led_home, last_transaction, Done, without_request, after_answer, Action, Say, Ask, Note, CutChain, TakeBack, Withdraw, Setup, home_of, Label, label_number, Session, Work, without_label, label_at, labels_of, halts_if_spent, resets, Controller, Linked, port_key, linked_at, with_desk, chains_with, default_channel, default_home, asks_next, asks, takes_back, begins, with_work, cuts_of, node_resets, does, does_in_estab, resets_of, resets_port, performs, performs_in_estab, works, joins_of, released_inputs, releases_input, resets_spent, releases}
use Rattle.law_controller_facts.specs.world_model.gsmp_wire.Layout.{octets_of as gsmp_octets}
use Rattle.law_controller_facts.specs.world_model.gsmp_wire.declared.request.Request.TheVariants.{DeleteAll, AllPorts}
use Rattle.law_controller_facts.specs.world_model.ifmp_wire.Message.{octets_of as ifmp_octets}
use Rattle.law_controller_facts.specs.world_model.frame_model.Sending.{Sender}
use Rattle.law_controller_facts.specs.ordered_lists.Ordered.{Every, InOrder}
use Rattle.law_controller_facts.proofs.ordered_lists.Every.{every_map, every_map2, every_mapped}
use Rattle.law_controller_facts.specs.world_model.port_model.Desk.{asked, message_at}
use Rattle.law_controller_facts.specs.world_model.port_model.declared.action.Action.TheVariants as actions
use Rattle.law_controller_facts.specs.world_model.port_model.Port.{with_action}
use Rattle.law_controller_facts.specs.law_port_facts.Port.{setup_port, IsLabelEnd, IsAction, AnyChannel}
use Rattle.law_controller_facts.proofs.law_port_facts.Keyed.{on_both, by_eq}
use Rattle.law_controller_facts.proofs.law_port_facts.Found.{filter_passes, find_every}
use Rattle.law_controller_facts.proofs.law_port_facts.Steps as steps_of
use Rattle.law_controller_facts.proofs.law_port_facts.Steps.{GoesOn, steps_to}
use Rattle.law_controller_facts.proofs.law_port_facts.Joins.{resets_kept}
use Rattle.law_controller_facts.specs.world_model.Controller.{Acted, ports_of, free_slots}
use Rattle.law_controller_facts.specs.world_model.Sending.{with_cells, sends}
use Rattle.law_controller_facts.specs.world_model.Joins.{Join}
use Rattle.law_controller_facts.specs.Sound.{IsSound, IsEarlier}
use Rattle.law_controller_facts.proofs.Moves.{Worked, worked_kept, by_rule, by_reset, Found, placing, moves_to, HasPorts, found_setup, found_at_own, found_port, begun}
use Rattle.law_controller_facts.proofs.Performing.{does_in_estab_goes}
use Rattle.law_controller_facts.proofs.Joining.{IsJoin, joins_are, join_input, every_filter}
use Rattle.law_controller_facts.proofs.Laws.{has_ports, moves_sound}
use Rattle.law_controller_facts.proofs.Each.{performs_keeps, node_resets_keeps, at_port_keeps}
use Rattle.law_controller.specs.Match.{IsOfJoin, joined_in, lent_at, clearing_at}
use Rattle.law_controller.proofs.Pairing.{SamePairs, same_pairs, goes_pairs, without_other}
use Rattle.law_controller.proofs.Matched.{Never, end_is, alike_but, shut_lent, settle_but, freed_but, lent_put}
use Rattle.law_controller.proofs.Holding.{Holds, node_unmet}
use Rattle.law_controller.proofs.Matching.{any_goes, left_lent, Fits, at_port_fits}
use Rattle.law_controller.proofs.Releasing.{Released, releases_input_holds}
use Rattle.law_controller.proofs.Clearing.{IsEmptied, InEstab, spent_emptied}
use Rattle.law_controller.proofs.Parting.{lent_proper, end_of, lent_joins, IsReleased, releases_input_fits, Hides, hides_put, IsParted}

-- *What was answered* is the one of its number
module _ (s : Standing) (test : Standing → Bool) where
  number_is : (n : ℕ) → (n == n) ≡ true
  number_is n = grind (arith, nat_tests)

  apart : (m n : ℕ) → m < n → (m == n) ≡ true → ⊥
  apart m n less e = grind (arith, nat_tests)

  apart_back : (m n : ℕ) → m < n → (n == m) ≡ true → ⊥
  apart_back m n less e = grind (arith, nat_tests)

  one_number : (standing : List Standing) → InOrder IsEarlier standing → find test standing ≡ Some s → Every (λ (t : Standing). (t.number == s.number) ≡ true → t ≡ s) standing
  one_number [] order found = tt
  one_number (x ∷ xs) order found = by_test (λ later. one_number xs order.1 later) (test x) found
    where
      by_test : (find test xs ≡ Some s → Every (λ (t : Standing). (t.number == s.number) ≡ true → t ≡ s) xs) → (b : Bool) → (if b then Some x else find test xs) ≡ Some s
          → Every (λ (t : Standing). (t.number == s.number) ≡ true → t ≡ s) (x ∷ xs)
      by_test rest true e = (let same : x ≡ s = cc in
          ((λ n. same), every_map (IsEarlier x) (λ (t : Standing). (t.number == s.number) ≡ true → t ≡ s) xs (λ t less n. absurd (apart_back x.number t.number less (ap (λ (y : Standing). t.number == y.number) same ∙ n))) order.0))
      by_test rest false e = ((λ n. absurd (apart x.number s.number (find_every (IsEarlier x) test xs s order.0 e) n)), rest e)

  any_or : (f : Standing → Bool) (xs : List Standing) → Every (λ (t : Standing). (t.number == s.number) ≡ true → t ≡ s) xs → list_any f xs ≡ true → (f s ≡ true) ⊎ (list_any f (filter (λ (t : Standing). not (t.number == s.number)) xs) ≡ true)
  any_or f [] one e = absurd (cc e)
  any_or f (x ∷ xs) one e = by_tests (λ later. any_or f xs one.1 later) (f x) (x.number == s.number) refl refl e
    where
      second : (b : Bool) {c : Bool} → c ≡ true → (b || c) ≡ true
      second true e = refl
      second false e = e

      by_tests : (list_any f xs ≡ true → (f s ≡ true) ⊎ (list_any f (filter (λ (t : Standing). not (t.number == s.number)) xs) ≡ true)) → (a b : Bool) → f x ≡ a → (x.number == s.number) ≡ b → (a || list_any f xs) ≡ true
          → (f s ≡ true) ⊎ (list_any f (if not b then x ∷ filter (λ (t : Standing). not (t.number == s.number)) xs else filter (λ (t : Standing). not (t.number == s.number)) xs) ≡ true)
      by_tests rest true true is n e = inl (ap f (sym (one.0 n)) ∙ is)
      by_tests rest true false is n e = inr (ap (λ b. b || list_any f (filter (λ (t : Standing). not (t.number == s.number)) xs)) is)
      by_tests rest false true is n e = rest e
      by_tests rest false false is n e = elim (rest e) [ inl on ↦ inl on | inr on ↦ inr (second (f x) on) ]

-- a Delete All that was answered
abbrev pub OfAnswer : Request → PortNo → Type 0
OfAnswer request port = is_delete_all port request ≡ true

-- it leads the inputs of its port home
deletes_led : (request : Request) (input : End) → is_delete_all input.port request ≡ true → leads_home input (home_of input) request ≡ true
deletes_led (DeleteAll port) input e = e
deletes_led (AddBranch i output) input e = absurd (cc e)
deletes_led (MoveBranch i from to) input e = absurd (cc e)
deletes_led (DeleteTree i) input e = absurd (cc e)
deletes_led (VerifyTree i) input e = absurd (cc e)
deletes_led (PortManagement port function) input e = absurd (cc e)
deletes_led AllPorts input e = absurd (cc e)

-- an input that is joined and led home is among the released
among : (request : Request) (input : End) (joins : List Join) → list_any (λ (join : Join). same_end join.input input) joins ≡ true → leads_home input (home_of input) request ≡ true
    → Every (λ (x : End). input ≢ x) (filter (λ (x : End). leads_home x (home_of x) request) (map (λ (join : Join). join.input) joins)) → ⊥
among request input [] e led all = absurd (cc e)
among request input (join ∷ joins) e led all = by_tests (λ t rest. among request input joins t led rest) (same_end join.input input) (leads_home join.input (home_of join.input) request) refl refl e all
  where
    by_tests : (list_any (λ (x : Join). same_end x.input input) joins ≡ true → Every (λ (x : End). input ≢ x) (filter (λ (x : End). leads_home x (home_of x) request) (map (λ (x : Join). x.input) joins)) → ⊥)
        → (a b : Bool) → same_end join.input input ≡ a → leads_home join.input (home_of join.input) request ≡ b → (a || list_any (λ (x : Join). same_end x.input input) joins) ≡ true
        → Every (λ (x : End). input ≢ x) (if b then join.input ∷ filter (λ (x : End). leads_home x (home_of x) request) (map (λ (x : Join). x.input) joins) else filter (λ (x : End). leads_home x (home_of x) request) (map (λ (x : Join). x.input) joins)) → ⊥
    by_tests rest true true is l e all = all.0 (sym (end_is join.input input is))
    by_tests rest true false is l e all = absurd (cc (sym (ap (λ (x : End). leads_home x (home_of x) request) (end_is join.input input is) ∙ led) ∙ l))
    by_tests rest false true is l e all = rest e all.1
    by_tests rest false false is l e all = rest e all

module _ (setups : List Setup) where
  -- *A request is answered*
  pub answered_fits : (a : Acted) (s : Standing) (test : Standing → Bool) → find test a.controller.desk.standing ≡ Some s → IsSound setups a.controller → Fits setups Never a
      → Fits setups (OfAnswer s.request) (with_desk a (after_answer a.controller.desk (Done s)))
  answered_fits a s test found sound h = alike_but Never (OfAnswer s.request) a.controller.ports a.controller.ports a.controller.has_met a.controller.desk (without_request a.controller.desk s) (λ p n. refl) (λ q m. refl) (λ p. refl)
      (λ port was. elim was [
        | inl never ↦ absurd never
        | inr on ↦ any_or s test (λ (t : Standing). is_delete_all port t.request) a.controller.desk.standing (one_number s test a.controller.desk.standing sound.desk.earlier found) on
      ]) (λ moving. every_filter (IsOfJoin a.controller.ports) (λ (t : Standing). not (t.number == s.number)) a.controller.desk.standing moving) h

  -- *Releases*
  record Emptied (Out : PortNo → Type 0) (a c : Acted) (inputs : List End) : Type 0 where
    holds : Holds setups c
    fits : Fits setups Out c
    desk : c.controller.desk ≡ a.controller.desk
    clears : (p : ℕ) → clearing_at c.controller.ports p ≡ clearing_at a.controller.ports p
    less : (r k : ℕ) (input : End) → lent_at c.controller.ports r k ≡ Some input → (lent_at a.controller.ports r k ≡ Some input) × Every (λ (x : End). input ≢ x) inputs

  empties_each : (Out : PortNo → Type 0) (inputs : List End) (a : Acted) → Every (λ (input : End). on_input a.controller.desk input ≡ false) inputs → Holds setups a → Fits setups Out a → Emptied Out a (fold releases_input a inputs) inputs
  empties_each Out [] a free h f = record { holds = h; fits = f; desk = refl; clears = λ p. refl; less = λ r k input e. (e, tt) }
  empties_each Out (input ∷ inputs) a free h f =
      let next : Acted = releases_input a input in
      let one : Released setups a next = releases_input_holds setups a input free.0 h in
      let gone : IsReleased setups Out a next input = releases_input_fits setups Out a input free.0 h.sound f one.desk in
      let rest : Emptied Out next (fold releases_input next inputs) inputs = empties_each Out inputs next
      (every_map (λ (x : End). on_input a.controller.desk x ≡ false) (λ (x : End). on_input next.controller.desk x ≡ false) inputs (λ x e. ap (λ (d : Desk). on_input d x) one.desk ∙ e) free.1) one.holds gone.fits in
      record {
        holds = rest.holds;
        fits = rest.fits;
        desk = rest.desk ∙ one.desk;
        clears = λ p. rest.clears p ∙ gone.clears p;
        less = λ r k i e. (let later = rest.less r k i e in let before = gone.less r k i later.0 in (before.0, (before.1, later.1)));
      }

  -- *Less is lent*: by what a port asks, and by resets
  abbrev pub LessLent : Acted → Acted → Type 0
  LessLent a b = (q m : ℕ) (input : End) → lent_at b.controller.ports q m ≡ Some input → lent_at a.controller.ports q m ≡ Some input

  not_none : (x : End) → None ≡ Some x → ⊥
  not_none x e = absurd (cc e)

  node_less : (a : Acted) → IsSound setups a.controller → LessLent a (node_resets a)
  node_less a s q m input e = absurd (not_none input (sym (shut_lent (node_resets a).controller.ports q m ((node_resets_keeps setups a s).sound.unmet (node_unmet setups a))) ∙ e))

  sent_less : (a : Acted) (channel : Channel) (mark : Mark) (payload : List ℕ) → LessLent a (sends a channel mark payload)
  sent_less a channel mark payload = on_both (λ (x : Sender Controller). (q m : ℕ) (input : End) → lent_at x.queues.ports q m ≡ Some input → lent_at a.controller.ports q m ≡ Some input) (nat_le (length (frame_cells channel mark payload)) (free_slots a.controller))
      (record { queues = with_cells a.controller (frame_cells channel mark payload); notes = made a.notes mark payload })
      (record { queues = a.controller; notes = noted (made a.notes mark payload) (Loss mark PoolFull) }) (λ q m input e. e) (λ q m input e. e)

  asks_less : (a : Acted) (request : Request) → IsSound setups a.controller → LessLent a (asks a request)
  asks_less a request s = on_both (LessLent a) (is_estab a.controller.adjacency.state) (if a.controller.desk.next == last_transaction then node_resets a else asks_next a request) a
      (on_both (LessLent a) (a.controller.desk.next == last_transaction) (node_resets a) (asks_next a request) (node_less a s)
      (sent_less (record (with_desk a (asked a.controller.desk request)) { numbers = with_control a.numbers }) default_channel (next_control a.numbers)
      (gsmp_octets (message_at (asked a.controller.desk request) (record { number = a.controller.desk.next; request = request }))))) (λ q m input e. e)

  takes_less : (a : Acted) (input output : End) → IsSound setups a.controller → LessLent a (takes_back a input output)
  takes_less a input output s = on_both (LessLent a) (is_led_home a.controller.desk input (home_of input)) a (asks a (MoveBranch input output (home_of input))) (λ q m i e. e) (asks_less a (MoveBranch input output (home_of input)) s)

  cuts_less : (a : Acted) (label : ℕ) (o : Option Linked) → ((linked : Linked) → o ≡ Some linked → Found setups a linked) → LessLent a (cuts_of a label o)
  cuts_less a label None found q m input e = e
  cuts_less a label (Some linked) found q m input e = sym (lent_put a.controller.ports linked (record linked { chains = chains_with linked.chains label nothing_taken }) (found linked refl) refl m refl q) ∙ e

  does_less : (port : PortNo) (a : Acted) (x : Action) → IsSound setups a.controller → LessLent a (does port a x)
  does_less port a (Say message) s = sent_less (record a { numbers = with_control a.numbers }) (default_home port).channel (next_control a.numbers) (default_payload (ifmp_packet_of a.controller.address (ifmp_octets message)))
  does_less port a (Ask request needed) s = asks_less a request s
  does_less port a (Note item) s = λ q m input e. e
  does_less port a (CutChain label) s = cuts_less a label (linked_at a.controller port) (λ linked found. found_at_own setups a linked port found)
  does_less port a (TakeBack input output) s = takes_less a input output s
  does_less port a (Withdraw input) s = λ q m i e. e
  does_less port a actions.Reset s = λ q m input e. e

  does_each_less : (port : PortNo) (xs : List Action) (a : Acted) → Every (IsAction setups) xs → IsSound setups a.controller → LessLent a (fold (does_in_estab port) a xs)
  does_each_less port [] a all s q m input e = e
  does_each_less port (x ∷ xs) a all s q m input e =
      on_both (LessLent a) (is_estab a.controller.adjacency.state) (does port a x) a (does_less port a x s) (λ q m i e. e) q m input
      (does_each_less port xs (does_in_estab port a x) all.1 (moves_sound setups a (does_in_estab port a x) (does_in_estab_goes setups port a x (has_ports setups a s) all.0) s) q m input e)

  resets_less : (a : Acted) (port : PortNo) → IsSound setups a.controller → LessLent a (resets_port a port)
  resets_less a port s = by_found (linked_at a.controller port) refl
    where
      by_found : (o : Option Linked) → linked_at a.controller port ≡ o → LessLent a (resets_of a o)
      by_found None found q m input e = e
      by_found (Some linked) found q m input e =
          let w : Work = resets linked.setup (begins a linked) in
          let own : Found setups a linked = found_at_own setups a linked port found in
          let has : HasPorts setups a = has_ports setups a s in
          sym (lent_put a.controller.ports linked (record linked { port = w.port }) own refl m (left_lent linked.port.grants (found_port setups a linked port has found).apart m) q)
          ∙ does_each_less linked.setup.port w.actions (with_work a linked w) (resets_kept setups linked.setup (found_setup setups a linked linked.setup.port has own) (begins a linked) (begun setups a linked port has found)).actions
          (moves_sound setups a (with_work a linked w) (moves_to (placing a linked w own by_reset)) s) q m input e

  performs_less : (port : PortNo) (a : Acted) (x : Action) → IsSound setups a.controller → LessLent a (performs port a x)
  performs_less port a (Say message) s = does_less port a (Say message) s
  performs_less port a (Ask request needed) s = does_less port a (Ask request needed) s
  performs_less port a (Note item) s = does_less port a (Note item) s
  performs_less port a (CutChain label) s = does_less port a (CutChain label) s
  performs_less port a (TakeBack input output) s = does_less port a (TakeBack input output) s
  performs_less port a (Withdraw input) s = does_less port a (Withdraw input) s
  performs_less port a actions.Reset s = resets_less a port s

  performs_each_less : (port : PortNo) (xs : List Action) (a : Acted) → Every (IsAction setups) xs → IsSound setups a.controller → LessLent a (fold (performs_in_estab port) a xs)
  performs_each_less port [] a all s q m input e = e
  performs_each_less port (x ∷ xs) a all s q m input e =
      on_both (LessLent a) (is_estab a.controller.adjacency.state) (performs port a x) a (performs_less port a x s) (λ q m i e. e) q m input
      (performs_each_less port xs (performs_in_estab port a x) all.1 (performs_keeps setups a s port x all.0).sound q m input e)

  -- a port whose numbers are spent is reset
  closing_of : (a : Acted) (linked : Linked) → GoesOn AnyChannel ⊥ linked.setup a.controller.desk (begins a linked) (halts_if_spent (begins a linked))
  closing_of a linked = steps_to (steps_of.closing (begins a linked))

  spent_less : (a : Acted) (port : PortNo) → IsSound setups a.controller → LessLent a (resets_spent a port)
  spent_less a port s = by_found (linked_at a.controller port) refl
    where
      by_found : (o : Option Linked) → linked_at a.controller port ≡ o → LessLent a (works a (λ setup desk w. halts_if_spent w) o)
      by_found None found q m input e = e
      by_found (Some linked) found q m input e =
          let w : Work = halts_if_spent (begins a linked) in
          let own : Found setups a linked = found_at_own setups a linked port found in
          let has : HasPorts setups a = has_ports setups a s in
          let there : at setup_port linked.setup.port.0 setups ≡ Some linked.setup = found_setup setups a linked linked.setup.port has own in
          let worked : Worked setups linked.setup a.controller.desk (begins a linked) w = by_rule w (any_goes ⊥ linked.setup a.controller.desk (begins a linked) w (closing_of a linked)) in
          let same : SamePairs linked.port w.port = goes_pairs linked.port setups linked.setup there a.controller.desk (begins a linked) w (closing_of a linked) (begun setups a linked linked.setup.port has own) (same_pairs linked.port) in
          sym (lent_put a.controller.ports linked (record linked { port = w.port }) own refl m (same.lends m) q)
          ∙ performs_each_less linked.setup.port w.actions (with_work a linked w) (worked_kept setups linked.setup a.controller.desk there (begins a linked) w worked (begun setups a linked linked.setup.port has own)).actions
          (moves_sound setups a (with_work a linked w) (moves_to (placing a linked w own worked)) s) q m input e

  -- *All of an answer*
  pub record IsSettled (a c : Acted) (request : Request) : Type 0 where
    pub fits : Fits setups Never c
    pub unled : (r k : ℕ) (input : End) → lent_at c.controller.ports r k ≡ Some input → leads_home input (home_of input) request ≡ true → ⊥
    pub emptied : (port : PortNo) → IsEmptied setups port a.controller → InEstab setups port c

  spent_each_fits : (request : Request) (ports : List PortNo) (a c : Acted) → IsSound setups c.controller → IsSettled a c request → IsSettled a (fold resets_spent c ports) request
  spent_each_fits request [] a c s h = h
  spent_each_fits request (port ∷ ports) a c s h =
      let next : Acted = resets_spent c port in
      let worked : (linked : Linked) → linked_at c.controller port ≡ Some linked → Worked setups linked.setup c.controller.desk (begins c linked) (halts_if_spent (begins c linked)) = λ (linked : Linked) (found : linked_at c.controller port ≡ Some linked).
      by_rule (halts_if_spent (begins c linked)) (any_goes ⊥ linked.setup c.controller.desk (begins c linked) (halts_if_spent (begins c linked)) (closing_of c linked)) in
      spent_each_fits request ports a next (at_port_keeps setups c s port (λ setup desk w. halts_if_spent w) worked).sound (record {
        fits = at_port_fits setups c port (λ setup desk w. halts_if_spent w) (λ linked found. closing_of c linked) s h.fits;
        unled = λ r k input e led. h.unled r k input (spent_less c port s r k input e) led;
        emptied = λ other before. spent_emptied setups other c port s (h.emptied other before);
      })

  pub releases_fits : (a : Acted) (request : Request) → ((input : End) → IsLabelEnd setups input → leads_home input (home_of input) request ≡ true → on_input a.controller.desk input ≡ false) → Holds setups a → Fits setups (OfAnswer request) a
      → IsSettled a (releases a request) request
  releases_fits a request free h f =
      let inputs : List End = released_inputs a.controller request in
      let has : HasPorts setups a = has_ports setups a h.sound in
      let ends : Every (IsLabelEnd setups) inputs = every_filter (IsLabelEnd setups) (λ (input : End). leads_home input (home_of input) request) (map (λ (join : Join). join.input) (joins_of a.controller))
      (every_mapped (λ (join : Join). join.input) (IsLabelEnd setups) (joins_of a.controller) (every_map (IsJoin setups a) (λ (join : Join). IsLabelEnd setups join.input) (joins_of a.controller) (λ join is. join_input setups a join has is) (joins_are setups a has))) in
      let c : Acted = fold releases_input a inputs in
      let e : Emptied (OfAnswer request) a c inputs = empties_each (OfAnswer request) inputs a
      (every_map2 (λ (input : End). leads_home input (home_of input) request ≡ true) (IsLabelEnd setups) (λ (input : End). on_input a.controller.desk input ≡ false) inputs (λ input led end. free input end led)
      (filter_passes (λ (input : End). leads_home input (home_of input) request) (map (λ (join : Join). join.input) (joins_of a.controller))) ends) h f in
      let unled : (r k : ℕ) (input : End) → lent_at c.controller.ports r k ≡ Some input → leads_home input (home_of input) request ≡ true → ⊥ = λ (r : ℕ) (k : ℕ) (input : End) (lent : lent_at c.controller.ports r k ≡ Some input) (led : leads_home input (home_of input) request ≡ true).
      among request input (joins_of a.controller) (lent_joins setups a r k input (e.less r k input lent).0) led (e.less r k input lent).1 in
      spent_each_fits request (ports_of c.controller) a c e.holds.sound (record {
        fits = settle_but (OfAnswer request) c.controller.ports c.controller.has_met c.controller.desk (λ q m input lent out. unled q m input lent (deletes_led request input out)) e.fits;
        unled = unled;
        emptied = λ port before estab. record { clearing = e.clears port.0 ∙ before.clearing; none = ap (λ (d : Desk). all_on d port) e.desk ∙ before.none };
      })

  -- *A label is freed* whose channel is lent nothing
  pub freed_done : (a : Acted) (linked : Linked) (e : End) → Found setups a linked → port_key linked ≡ e.port.0 → IsLabelEnd setups e → ((r k : ℕ) → lent_at a.controller.ports r k ≡ Some e → ⊥) → IsSound setups a.controller → Fits setups Never a
      → (label : Label) → label_at linked.port label.number ≡ Some label → label.number ≡ number_of_channel e.channel
      → Fits setups Never (with_work a linked (with_action (without_label (begins a linked) label.number) (Note (Free linked.setup.node linked.setup.port label.number))))
  freed_done a linked e found key end never s h label there number =
      let w : Work = with_action (without_label (begins a linked) label.number) (Note (Free linked.setup.node linked.setup.port label.number)) in
      let after : Linked = record linked { port = w.port } in
      let parted : IsParted setups e a.controller.ports (put port_key after a.controller.ports) = hides_put setups e a.controller.ports linked after found refl key end (hides linked.port.session refl) refl refl in
      freed_but Never a.controller.ports (put port_key after a.controller.ports) a.controller.has_met a.controller.desk e 0 0 parted.other parted.this parted.clears (λ r k input lent. end_of setups input (lent_proper setups a (has_ports setups a s) r k input lent)) parted.lends never h
    where
      gone : (k : ℕ) (ls : List Label) → at label_number k (without label_number k ls) ≡ None
      gone k [] = refl
      gone k (x ∷ ls) = by_eq (label_number x) k
          (λ is t. ap (λ (b : Bool). at label_number k (if b then without label_number k ls else x ∷ without label_number k ls)) t ∙ gone k ls)
          (λ other t. ap (λ (b : Bool). at label_number k (if b then without label_number k ls else x ∷ without label_number k ls)) t ∙ ap (λ (b : Bool). if b then Some x else at label_number k (without label_number k ls)) t ∙ gone k ls)

      hides : (o : Option Session) → linked.port.session ≡ o
          → Hides setups (number_of_channel e.channel) (labels_of linked.port) (option_map_or (λ (x : Session). x.labels) (option_map (λ (x : Session). record x { labels = without label_number label.number x.labels }) linked.port.session) [])
      hides o is = subst (λ (z : Option Session). Hides setups (number_of_channel e.channel) (option_map_or (λ (x : Session). x.labels) z []) (option_map_or (λ (x : Session). x.labels) (option_map (λ (x : Session). record x { labels = without label_number label.number x.labels }) z) [])) (sym is) (by_session o)
        where
          by_session : (z : Option Session) → Hides setups (number_of_channel e.channel) (option_map_or (λ (x : Session). x.labels) z []) (option_map_or (λ (x : Session). x.labels) (option_map (λ (x : Session). record x { labels = without label_number label.number x.labels }) z) [])
          by_session None = record { other = λ k differs. refl; this = refl }
          by_session (Some x) = record {
            other = λ k differs. without_other label_number (λ (y : Label). y.join) label.number k x.labels (λ same. differs (sym number ∙ same));
            this = subst (λ n. joined_in (without label_number label.number x.labels) n ≡ None) number (ap (option_and_then (λ (y : Label). y.join)) (gone label.number x.labels));
          }
