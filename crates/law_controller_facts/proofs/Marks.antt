-- how many control marks the rules of a controller draw: one for each message and each request

use Rattle.std.proofs.Common.{◌≡◌, ℕ, ◌≤◌, ◌+◌, ◌*◌, List, [], ◌∷◌, length, Option, None, Some, refl, ◌∙◌, arith, if◌then◌else◌, fold}
use Rattle.std.specs.Prelude.{◌==◌}
use Rattle.claims_model.specs.world_model.Words.{PortNo, End, is_estab, Request, MoveBranch, is_led_home, last_transaction, Action, Say, Ask, Note, CutChain, TakeBack, Withdraw, Setup, home_of, Work, resets, restarts, Linked, linked_at, asks_next, asks, takes_back, cuts_of, cuts_label, begins, with_work, closes_by, port_restarts_of, port_restarts, resets_gsmp, node_resets, does, does_in_estab, resets_of, performs, performs_in_estab, Rule, works_as, works, at_port}
use Rattle.law_port_facts.specs.ordered_lists.Ordered.{Every}
use Rattle.claims_model.specs.world_model.port_model.declared.action.Action.TheVariants.{Reset}
use Rattle.law_port_facts.specs.Port.{IsAction, IsWork}
use Rattle.law_port_facts.proofs.Keyed.{on_both}
use Rattle.law_port_facts.proofs.Weights.{weight, weigh, Costs}
use Rattle.law_port_facts.proofs.Weighed.{resets_weight}
use Rattle.claims_model.specs.world_model.Controller.{Acted, ports_of}
use Rattle.law_controller_facts.proofs.Moves.{Worked, worked_kept, Found, placing, moves_to, HasPorts, found_setup, found_at_own, found_port, begun, moves_ports}
use Rattle.law_controller_facts.proofs.Performing.{To, performs_in_estab_goes}

-- so many at most
pub record Marks (count : ℕ) (a b : Acted) : Type 0 where
  pub few : b.numbers.controls ≤ a.numbers.controls + count

pub no_marks : (k : ℕ) (a b : Acted) → b.numbers.controls ≡ a.numbers.controls → Marks k a b
no_marks k a b same = record { few = omega (arith, same) }

pub mark_more : (j k : ℕ) (a b : Acted) → j ≤ k → Marks j a b → Marks k a b
mark_more j k a b le m = record { few = omega (arith, m.few, le) }

pub marks_then : (j k : ℕ) (a b c : Acted) → Marks j a b → Marks k b c → Marks (j + k) a c
marks_then j k a b c m n = record { few = omega (arith, m.few, n.few) }

module _ (setups : List Setup) where
  -- a fold over what has a property, while the ports are kept
  pub marks_fold : {A : Type 0} (count : ℕ) (Q : A → Type 0) (f : Acted → A → Acted) → ((a : Acted) (x : A) → HasPorts setups a → Q x → To setups a (f a x))
      → ((a : Acted) (x : A) → HasPorts setups a → Q x → Marks count a (f a x)) → (xs : List A) → Every Q xs → (a : Acted) → HasPorts setups a → Marks (count * length xs) a (fold f a xs)
  marks_fold count Q f goes each [] all a h = no_marks (count * 0) a a refl
  marks_fold count Q f goes each (x ∷ xs) all a h = mark_more (count + count * length xs) (count * length (x ∷ xs)) a (fold f (f a x) xs) (omega arith)
      (marks_then count (count * length xs) a (f a x) (fold f (f a x) xs) (each a x h all.0) (marks_fold count Q f goes each xs all.1 (f a x) (moves_ports setups (goes a x h all.0) h)))

  -- *Node reset*: nothing is sent
  cuts_of_marks : (a : Acted) (label : ℕ) (o : Option Linked) → (cuts_of a label o).numbers.controls ≡ a.numbers.controls
  cuts_of_marks a label None = refl
  cuts_of_marks a label (Some linked) = refl

  closes_by_marks : (port : PortNo) (a : Acted) (action : Action) → (closes_by port a action).numbers.controls ≡ a.numbers.controls
  closes_by_marks port a (Say message) = refl
  closes_by_marks port a (Ask request needed) = refl
  closes_by_marks port a (Note item) = refl
  closes_by_marks port a (CutChain label) = cuts_of_marks a label (linked_at a.controller port)
  closes_by_marks port a (TakeBack input output) = refl
  closes_by_marks port a (Withdraw input) = refl
  closes_by_marks port a Reset = refl

  pub same_fold : {A : Type 0} (f : Acted → A → Acted) → ((a : Acted) (x : A) → (f a x).numbers.controls ≡ a.numbers.controls) → (xs : List A) (a : Acted) → (fold f a xs).numbers.controls ≡ a.numbers.controls
  same_fold f each [] a = refl
  same_fold f each (x ∷ xs) a = same_fold f each xs (f a x) ∙ each a x

  port_restarts_of_marks : (a : Acted) (o : Option Linked) → (port_restarts_of a o).numbers.controls ≡ a.numbers.controls
  port_restarts_of_marks a None = refl
  port_restarts_of_marks a (Some linked) = same_fold (closes_by linked.setup.port) (closes_by_marks linked.setup.port) (restarts linked.setup (begins a linked)).actions (with_work a linked (restarts linked.setup (begins a linked)))

  pub node_resets_marks : (a : Acted) → (node_resets a).numbers.controls ≡ a.numbers.controls
  node_resets_marks a = same_fold port_restarts (λ b port. port_restarts_of_marks b (linked_at b.controller port)) (ports_of a.controller) (resets_gsmp a)

  -- *Asking*
  pub asks_marks : (a : Acted) (request : Request) → Marks 1 a (asks a request)
  asks_marks a request = on_both (Marks 1 a) (is_estab a.controller.adjacency.state) (if a.controller.desk.next == last_transaction then node_resets a else asks_next a request) a
      (on_both (Marks 1 a) (a.controller.desk.next == last_transaction) (node_resets a) (asks_next a request) (no_marks 1 a (node_resets a) (node_resets_marks a)) (record { few = omega arith }))
      (no_marks 1 a a refl)

  pub takes_back_marks : (a : Acted) (input output : End) → Marks 1 a (takes_back a input output)
  takes_back_marks a input output = on_both (Marks 1 a) (is_led_home a.controller.desk input (home_of input)) a (asks a (MoveBranch input output (home_of input))) (no_marks 1 a a refl) (asks_marks a (MoveBranch input output (home_of input)))

  -- *Actions*
  does_marks : (port : PortNo) (a : Acted) (action : Action) → Marks (weight action) a (does port a action)
  does_marks port a (Say message) = record { few = omega arith }
  does_marks port a (Ask request needed) = asks_marks a request
  does_marks port a (Note item) = no_marks 0 a (does port a (Note item)) refl
  does_marks port a (CutChain label) = no_marks 0 a (cuts_label port a label) (cuts_of_marks a label (linked_at a.controller port))
  does_marks port a (TakeBack input output) = takes_back_marks a input output
  does_marks port a (Withdraw input) = no_marks 0 a (does port a (Withdraw input)) refl
  does_marks port a Reset = no_marks 257 a a refl

  does_in_estab_marks : (port : PortNo) (a : Acted) (action : Action) → Marks (weight action) a (does_in_estab port a action)
  does_in_estab_marks port a action = on_both (Marks (weight action) a) (is_estab a.controller.adjacency.state) (does port a action) a (does_marks port a action) (no_marks (weight action) a a refl)

  done_marks : (port : PortNo) (actions : List Action) (a : Acted) → Marks (weigh actions) a (fold (does_in_estab port) a actions)
  done_marks port [] a = no_marks 0 a a refl
  done_marks port (action ∷ actions) a = marks_then (weight action) (weigh actions) a (does_in_estab port a action) (fold (does_in_estab port) (does_in_estab port a action) actions) (does_in_estab_marks port a action) (done_marks port actions (does_in_estab port a action))

  resets_of_marks : (a : Acted) (port : PortNo) (o : Option Linked) → HasPorts setups a → linked_at a.controller port ≡ o → Marks 257 a (resets_of a o)
  resets_of_marks a port None h found = no_marks 257 a a refl
  resets_of_marks a port (Some linked) h found =
      let w : Work = resets linked.setup (begins a linked) in
      let all : Marks (weigh w.actions) (with_work a linked w) (fold (does_in_estab linked.setup.port) (with_work a linked w) w.actions) = done_marks linked.setup.port w.actions (with_work a linked w) in
      record { few = omega (arith, all.few, resets_weight linked.setup (begins a linked) refl (found_port setups a linked port h found).few) }

  performs_marks : (port : PortNo) (a : Acted) (action : Action) → HasPorts setups a → Marks (weight action) a (performs port a action)
  performs_marks port a (Say message) h = does_marks port a (Say message)
  performs_marks port a (Ask request needed) h = does_marks port a (Ask request needed)
  performs_marks port a (Note item) h = does_marks port a (Note item)
  performs_marks port a (CutChain label) h = does_marks port a (CutChain label)
  performs_marks port a (TakeBack input output) h = does_marks port a (TakeBack input output)
  performs_marks port a (Withdraw input) h = does_marks port a (Withdraw input)
  performs_marks port a Reset h = resets_of_marks a port (linked_at a.controller port) h refl

  performed_marks : (port : PortNo) (actions : List Action) → Every (IsAction setups) actions → (a : Acted) → HasPorts setups a → Marks (weigh actions) a (fold (performs_in_estab port) a actions)
  performed_marks port [] all a h = no_marks 0 a a refl
  performed_marks port (action ∷ actions) all a h =
      let next : Acted = performs_in_estab port a action in
      marks_then (weight action) (weigh actions) a next (fold (performs_in_estab port) next actions)
      (on_both (Marks (weight action) a) (is_estab a.controller.adjacency.state) (performs port a action) a (performs_marks port a action h) (no_marks (weight action) a a refl))
      (performed_marks port actions all.1 next (moves_ports setups (performs_in_estab_goes setups port a action h all.0) h))

  -- *A rule of a port*
  pub at_port_marks : (count : ℕ) (a : Acted) (port : PortNo) (rule : Rule) → HasPorts setups a
      → ((linked : Linked) → linked_at a.controller port ≡ Some linked → Worked setups linked.setup a.controller.desk (begins a linked) (rule linked.setup a.controller.desk (begins a linked)))
      → ((linked : Linked) → linked_at a.controller port ≡ Some linked → weigh (rule linked.setup a.controller.desk (begins a linked)).actions ≤ count)
      → Marks count a (at_port a port rule)
  at_port_marks count a port rule h worked light = by_found (linked_at a.controller port) refl
    where
      works_marks : (linked : Linked) (w : Work) → linked_at a.controller port ≡ Some linked → Worked setups linked.setup a.controller.desk (begins a linked) w → weigh w.actions ≤ count → Marks count a (works_as a linked w)
      works_marks linked w found is le =
          let own : Found setups a linked = found_at_own setups a linked port found in
          let kept : IsWork setups linked.setup w = worked_kept setups linked.setup a.controller.desk (found_setup setups a linked linked.setup.port h own) (begins a linked) w is (begun setups a linked port h found) in
          let all : Marks (weigh w.actions) (with_work a linked w) (works_as a linked w) = performed_marks linked.setup.port w.actions kept.actions (with_work a linked w) (moves_ports setups (moves_to (placing a linked w own is)) h) in
          record { few = omega (arith, all.few, le) }

      by_found : (o : Option Linked) → linked_at a.controller port ≡ o → Marks count a (works a rule o)
      by_found None found = no_marks count a a refl
      by_found (Some linked) found = works_marks linked (rule linked.setup a.controller.desk (begins a linked)) found (worked linked found) (light linked found)

-- what a port asks by a rule, with its reset
pub light_of : (count : ℕ) (a : Acted) (linked : Linked) (w : Work) → Costs count (begins a linked) w → weigh w.actions ≤ 257 + count
light_of count a linked w c = omega (arith, c.cost)
