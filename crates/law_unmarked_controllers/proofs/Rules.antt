-- each rule of a controller leaves without marks what it leaves with them

use Rattle.std.proofs.Common.{◌≡◌, ℕ, Bool, true, false, List, [], ◌∷◌, map, fold, Option, None, Some, refl, sym, ◌∙◌, ap, if◌then◌else◌}
use Rattle.std.specs.Prelude.{◌==◌}
use Rattle.std.specs.Option.{option_map}
use Rattle.world_model.specs.Words.{PortNo, End, Request, MoveBranch, is_estab, Record, Reassembly, nothing_taken, cut, Desk, Standing, withdrawn, is_led_home, last_transaction, Action, home_of, Work, resets, restarts, Linked, LabelChain, linked_at, chain_of, chains_with, with_desk, default_channel, says_gsmp, sends_request, asks_next, asks, takes_back, cuts_of, cuts_label, cuts_default_of, cuts_default, cuts_gsmp, begins, with_work, closes_by, port_restarts_of, port_restarts, resets_gsmp, node_resets, node_restarts, does, does_in_estab, resets_of, resets_port, performs, performs_in_estab, Rule, works, at_port}
use Rattle.world_model.specs.gsmp_wire.declared.message.Message.{Message}
use Rattle.world_model.specs.gsmp_wire.Layout.{octets_of as gsmp_octets}
use Rattle.world_model.specs.port_model.Desk.{asked, message_at}
use Rattle.world_model.specs.port_model.declared.action.Action.TheVariants as actions
use Rattle.world_model.specs.Controller.{Acted, ports_of, note}
use Rattle.law_unmarked_controllers.proofs.Notes.{shown_twice, noted_same, cut_shown}
use Rattle.law_unmarked_controllers.specs.Unmarked.{unmarked_record, unmarked_reassembly, unmarked_chain, unmarked_linked, shown, bare}
use Rattle.law_unmarked_controllers.proofs.Controllers.{chains_twice, linked_twice, bare_twice, linked_same, ports_same, chains_same, placed, control_same}
use Rattle.law_unmarked_controllers.proofs.Cells.{gathered_twice}

-- *Blind to marks*: what it leaves is, without them, what it leaves where there were none
abbrev pub Blind : (Acted → Acted) → Type 0
Blind f = (a : Acted) → bare (f a) ≡ bare (f (bare a))

pub once : (a : Acted) → bare a ≡ bare (bare a)
once a = sym (bare_twice a)

pub behind : (f : Acted → Acted) → Blind f → (a b : Acted) → bare a ≡ bare b → bare (f a) ≡ bare (f b)
behind f blind a b e = blind a ∙ ap (λ (x : Acted). bare (f x)) e ∙ sym (blind b)

pub folded : {X : Type 0} (f : Acted → X → Acted) → ((x : X) → Blind (λ a. f a x)) → (xs : List X) (a b : Acted) → bare a ≡ bare b → bare (fold f a xs) ≡ bare (fold f b xs)
folded f blind [] a b e = e
folded f blind (x ∷ xs) a b e = folded f blind xs (f a x) (f b x) (behind (λ c. f c x) (blind x) a b e)

pub folded_over : {X : Type 0} (f : Acted → X → Acted) → ((x : X) → Blind (λ a. f a x)) → (xs ys : List X) → ys ≡ xs → (a b : Acted) → bare a ≡ bare b → bare (fold f a xs) ≡ bare (fold f b ys)
folded_over f blind xs ys same a b e = folded f blind xs a b e ∙ ap (λ l. bare (fold f b l)) (sym same)

pub each_port : (f : Acted → PortNo → Acted) → ((port : PortNo) → Blind (λ a. f a port)) → Blind (λ a. fold f a (ports_of a.controller))
each_port f blind a = folded_over f blind (ports_of a.controller) (ports_of (bare a).controller) (ports_same a.controller) a (bare a) (once a)

-- where something was read
pub by_read : {X : Type 0} (f : Acted → X → Acted) → ((x : X) → Blind (λ a. f a x)) → (a : Acted) (x y : X) → y ≡ x → bare (f a x) ≡ bare (f (bare a) y)
by_read f blind a x y same = blind x a ∙ ap (λ z. bare (f (bare a) z)) (sym same)

pub chosen : (t : Bool) (x y u v : Acted) → bare x ≡ bare u → bare y ≡ bare v → bare (if t then x else y) ≡ bare (if t then u else v)
chosen true x y u v p q = p
chosen false x y u v p q = q

-- *A record*, as each makes it
pub noted_alike : (a b : Acted) → bare a ≡ bare b → (item other : Record) → unmarked_record item ≡ unmarked_record other → bare (note a item) ≡ bare (note b other)
noted_alike a b e item other same = λ i. record (e i) { notes = noted_same a.notes b.notes (λ j. (e j).notes) item other same i }

-- *Chains are cut*, which is the ledger's
cut_notes : (a : Acted) (one other : Reassembly) → shown (cut a.notes one) ≡ shown (cut (bare a).notes other)
cut_notes a one other = cut_shown a.notes one ∙ sym (shown_twice a.notes) ∙ sym (cut_shown (shown a.notes) other)

cut_alike : (a : Acted) (one other : Reassembly) → bare (record a { notes = cut a.notes one }) ≡ bare (record (bare a) { notes = cut (bare a).notes other })
cut_alike a one other = λ i. record (once a i) { notes = cut_notes a one other i }

cut_chains : (chains : List LabelChain) (label : ℕ) → map unmarked_chain (chains_with chains label nothing_taken) ≡ map unmarked_chain (chains_with (map unmarked_chain chains) label nothing_taken)
cut_chains chains label = sym (chains_twice (chains_with chains label nothing_taken)) ∙ ap (map unmarked_chain) (sym (chains_same chains label nothing_taken))

cut_label : (port : PortNo) (label : ℕ) → Blind (λ a. cuts_label port a label)
cut_label port label a = by (linked_at a.controller port) ∙ ap (λ (o : Option Linked). bare (cuts_of (bare a) label o)) (sym (linked_same a.controller port))
  where
    by : (o : Option Linked) → bare (cuts_of a label o) ≡ bare (cuts_of (bare a) label (option_map unmarked_linked o))
    by None = once a
    by (Some linked) =
        let one : Reassembly = chain_of linked.chains label in
        let other : Reassembly = chain_of (map unmarked_chain linked.chains) label in
        placed (record a { notes = cut a.notes one }) (record (bare a) { notes = cut (bare a).notes other }) (cut_alike a one other) (record linked { chains = chains_with linked.chains label nothing_taken }) (record (unmarked_linked linked) { chains = chains_with (map unmarked_chain linked.chains) label nothing_taken })
        (λ i. record linked { reassembly = sym (gathered_twice linked.reassembly) i; chains = cut_chains linked.chains label i })

cut_default : (port : PortNo) → Blind (λ a. cuts_default a port)
cut_default port a = by (linked_at a.controller port) ∙ ap (λ (o : Option Linked). bare (cuts_default_of (bare a) o)) (sym (linked_same a.controller port))
  where
    by : (o : Option Linked) → bare (cuts_default_of a o) ≡ bare (cuts_default_of (bare a) (option_map unmarked_linked o))
    by None = once a
    by (Some linked) =
        let one : Reassembly = linked.reassembly in
        let other : Reassembly = unmarked_reassembly linked.reassembly in
        placed (record a { notes = cut a.notes one }) (record (bare a) { notes = cut (bare a).notes other }) (cut_alike a one other) (record linked { reassembly = nothing_taken }) (record (unmarked_linked linked) { reassembly = nothing_taken })
        (λ i. record linked { reassembly = nothing_taken; chains = sym (chains_twice linked.chains) i })

cut_gsmp : Blind cuts_gsmp
cut_gsmp a = λ i. record (once a i) {
  controller = record (once a i).controller { reassembly = nothing_taken };
  notes = cut_notes a a.controller.reassembly (bare a).controller.reassembly i;
}

-- *A port at work* is put back
worked : (a b : Acted) → bare a ≡ bare b → (linked : Linked) (w : Work) → bare (with_work a linked w) ≡ bare (with_work b (unmarked_linked linked) w)
worked a b e linked w = placed (record a { numbers = record a.numbers { instances = w.instances } }) (record b { numbers = record b.numbers { instances = w.instances } })
    (λ i. record (e i) { numbers = record (e i).numbers { instances = w.instances } }) (record linked { port = w.port }) (record (unmarked_linked linked) { port = w.port })
    (λ i. record (sym (linked_twice linked) i) { port = w.port })

-- a port that is found works, and what it asks is done
works_blind : (f : PortNo → Acted → Action → Acted) → ((port : PortNo) (action : Action) → Blind (λ a. f port a action)) → (does_all : Acted → Option Linked → Acted) → (rule : Rule)
    → ((a : Acted) → does_all a None ≡ a) → ((a : Acted) (linked : Linked) → (let w : Work = rule linked.setup a.controller.desk (begins a linked) in does_all a (Some linked) ≡ fold (f linked.setup.port) (with_work a linked w) w.actions))
    → (port : PortNo) → Blind (λ a. does_all a (linked_at a.controller port))
works_blind f blind does_all rule none some port a = by (linked_at a.controller port) ∙ ap (λ (o : Option Linked). bare (does_all (bare a) o)) (sym (linked_same a.controller port))
  where
    by : (o : Option Linked) → bare (does_all a o) ≡ bare (does_all (bare a) (option_map unmarked_linked o))
    by None = ap bare (none a) ∙ once a ∙ ap bare (sym (none (bare a)))
    by (Some linked) =
        let w : Work = rule linked.setup a.controller.desk (begins a linked) in
        ap bare (some a linked)
        ∙ folded (f linked.setup.port) (blind linked.setup.port) w.actions (with_work a linked w) (with_work (bare a) (unmarked_linked linked) w) (worked a (bare a) (once a) linked w)
        ∙ ap bare (sym (some (bare a) (unmarked_linked linked)))

-- *Node reset*
closes_blind : (port : PortNo) (action : Action) → Blind (λ a. closes_by port a action)
closes_blind port (actions.Say message) a = once a
closes_blind port (actions.Ask request needed) a = once a
closes_blind port (actions.Note item) a = noted_alike a (bare a) (once a) item item refl
closes_blind port (actions.CutChain label) a = cut_label port label a
closes_blind port (actions.TakeBack input output) a = once a
closes_blind port (actions.Withdraw input) a = once a
closes_blind port actions.Reset a = once a

restarts_blind : (port : PortNo) → Blind (λ a. port_restarts a port)
restarts_blind = works_blind closes_by closes_blind port_restarts_of (λ setup desk w. restarts setup w) (λ a. refl) (λ a linked. refl)

pub node_blind : Blind node_resets
node_blind a = folded_over port_restarts restarts_blind (ports_of a.controller) (ports_of (bare a).controller) (ports_same a.controller) (resets_gsmp a) (resets_gsmp (bare a)) (λ i. resets_gsmp (once a i))

pub node_restarts_blind : Blind node_restarts
node_restarts_blind a = folded_over cuts_default cut_default (ports_of a.controller) (ports_of (bare a).controller) (ports_same a.controller) (cuts_gsmp (node_resets a)) (cuts_gsmp (node_resets (bare a)))
    (behind cuts_gsmp cut_gsmp (node_resets a) (node_resets (bare a)) (node_blind a))

-- *Asking*
desk_same : (a b : Acted) → bare a ≡ bare b → (desk : Desk) → bare (with_desk a desk) ≡ bare (with_desk b desk)
desk_same a b e desk = λ i. with_desk (e i) desk

pub said_blind : (message : Message) → Blind (λ a. says_gsmp a message)
said_blind message a = control_same a (bare a) (once a) default_channel (gsmp_octets message)

pub request_blind : (s : Standing) → Blind (λ a. sends_request a s)
request_blind s a = said_blind (message_at a.controller.desk s) a

pub asks_blind : (request : Request) → Blind (λ a. asks a request)
asks_blind request a =
    let s : Standing = record { number = a.controller.desk.next; request = request } in
    let desk : Desk = asked a.controller.desk request in
    chosen (is_estab a.controller.adjacency.state) _ a _ (bare a)
    (chosen (a.controller.desk.next == last_transaction) (node_resets a) (asks_next a request) (node_resets (bare a)) (asks_next (bare a) request) (node_blind a)
    (behind (λ b. sends_request b s) (request_blind s) (with_desk a desk) (with_desk (bare a) desk) (desk_same a (bare a) (once a) desk)))
    (once a)

pub takes_back_blind : (input output : End) → Blind (λ a. takes_back a input output)
takes_back_blind input output a = chosen (is_led_home a.controller.desk input (home_of input)) a (asks a (MoveBranch input output (home_of input))) (bare a) (asks (bare a) (MoveBranch input output (home_of input)))
    (once a) (asks_blind (MoveBranch input output (home_of input)) a)

-- *Actions*
does_blind : (port : PortNo) (action : Action) → Blind (λ a. does port a action)
does_blind port (actions.Say message) a = control_same a (bare a) (once a) _ _
does_blind port (actions.Ask request needed) a = asks_blind request a
does_blind port (actions.Note item) a = noted_alike a (bare a) (once a) item item refl
does_blind port (actions.CutChain label) a = cut_label port label a
does_blind port (actions.TakeBack input output) a = takes_back_blind input output a
does_blind port (actions.Withdraw input) a = desk_same a (bare a) (once a) (withdrawn a.controller.desk input)
does_blind port actions.Reset a = once a

does_in_blind : (port : PortNo) (action : Action) → Blind (λ a. does_in_estab port a action)
does_in_blind port action a = chosen (is_estab a.controller.adjacency.state) (does port a action) a (does port (bare a) action) (bare a) (does_blind port action a) (once a)

resets_blind : (port : PortNo) → Blind (λ a. resets_port a port)
resets_blind = works_blind does_in_estab does_in_blind resets_of (λ setup desk w. resets setup w) (λ a. refl) (λ a linked. refl)

performs_blind : (port : PortNo) (action : Action) → Blind (λ a. performs port a action)
performs_blind port (actions.Say message) a = does_blind port (actions.Say message) a
performs_blind port (actions.Ask request needed) a = does_blind port (actions.Ask request needed) a
performs_blind port (actions.Note item) a = does_blind port (actions.Note item) a
performs_blind port (actions.CutChain label) a = does_blind port (actions.CutChain label) a
performs_blind port (actions.TakeBack input output) a = does_blind port (actions.TakeBack input output) a
performs_blind port (actions.Withdraw input) a = does_blind port (actions.Withdraw input) a
performs_blind port actions.Reset a = resets_blind port a

performs_in_blind : (port : PortNo) (action : Action) → Blind (λ a. performs_in_estab port a action)
performs_in_blind port action a = chosen (is_estab a.controller.adjacency.state) (performs port a action) a (performs port (bare a) action) (bare a) (performs_blind port action a) (once a)

pub at_port_blind : (rule : Rule) (port : PortNo) → Blind (λ a. at_port a port rule)
at_port_blind rule = works_blind performs_in_estab performs_in_blind (λ a o. works a rule o) rule (λ a. refl) (λ a linked. refl)
