-- how many instances the rules of a controller draw: each reset of a port one, a node reset one for the node and one for each port

use Rattle.std.proofs.Common.{◌≡◌, ℕ, ◌≤◌, ◌+◌, Bool, true, false, List, [], ◌∷◌, length, Option, None, Some, refl, ◌∙◌, ap, arith, if◌then◌else◌, map, fold}
use Rattle.std.specs.Prelude.{◌==◌, nat_le}
use Rattle.claims_model.specs.world_model.Words.{PortNo, Channel, End, Mark, Party, with_control, next_control, Side, is_estab, Request, MoveBranch, Loss, PoolFull, noted, frame_cells, made, nothing_taken, is_led_home, last_transaction, Action, Say, Ask, Note, CutChain, TakeBack, Withdraw, home_of, Work, resets, restarts, Controller, Linked, port_key, linked_at, with_linked, with_desk, chains_with, default_channel, default_home, sends_control, says_gsmp, asks_next, asks, takes_back, cuts_of, cuts_label, cuts_default_of, cuts_default, cuts_gsmp, begins, with_work, closes_by, port_restarts_as, port_restarts_of, port_restarts, resets_gsmp, node_resets, node_restarts, does, does_in_estab, resets_of, resets_port, performs, performs_in_estab, Rule, works_as, works, at_port}
use Rattle.claims_model.specs.world_model.gsmp_wire.Layout.{octets_of as gsmp_octets}
use Rattle.claims_model.specs.world_model.gsmp_wire.declared.message.Message.{Message as GsmpMessage}
use Rattle.claims_model.specs.world_model.frame_model.Sending.{Sender}
use Rattle.claims_model.specs.world_model.port_model.Desk.{asked, message_at}
use Rattle.claims_model.specs.world_model.port_model.declared.action.Action.TheVariants.{Reset}
use Rattle.law_port_facts.proofs.Keyed.{on_both, on_each, put_length}
use Rattle.law_port_facts.proofs.Halting.{resets_among, resets_one}
use Rattle.claims_model.specs.world_model.Controller.{Acted, free_slots, ports_of, note}
use Rattle.claims_model.specs.world_model.Sending.{with_cells, sends}

-- what a node reset would draw: in Estab one for the node and one for each port, and else it was reset before
abbrev pub left_by : Bool → ℕ → ℕ
left_by true ports = 1 + ports
left_by false ports = 0

abbrev pub left : Acted → ℕ
left a = left_by (is_estab a.controller.adjacency.state) (length a.controller.ports)

-- so many are drawn at most, but for those of a node reset
pub record Draws (count : ℕ) (a b : Acted) : Type 0 where
  pub size : length b.controller.ports ≡ length a.controller.ports
  pub drawn : b.numbers.instances + left b ≤ (a.numbers.instances + left a) + count

-- nothing is drawn, and the adjacency stays
pub record IsCalm (a b : Acted) : Type 0 where
  pub size : length b.controller.ports ≡ length a.controller.ports
  pub side : b.controller.adjacency ≡ a.controller.adjacency
  pub same : b.numbers.instances ≡ a.numbers.instances

pub left_same : (a b : Acted) → b.controller.adjacency ≡ a.controller.adjacency → length b.controller.ports ≡ length a.controller.ports → left b ≡ left a
left_same a b side size = ap (λ (s : Side Party). left_by (is_estab s.state) (length b.controller.ports)) side ∙ ap (left_by (is_estab a.controller.adjacency.state)) size

pub calm : (a b : Acted) → IsCalm a b → Draws 0 a b
calm a b c = record { size = c.size; drawn = omega (arith, left_same a b c.side c.size, c.same) }

pub calm_then : (a b c : Acted) → IsCalm a b → IsCalm b c → IsCalm a c
calm_then a b c p q = record { size = q.size ∙ p.size; side = q.side ∙ p.side; same = q.same ∙ p.same }

pub itself : (a : Acted) → IsCalm a a
itself a = record { size = refl; side = refl; same = refl }

pub more : (j k : ℕ) (a b : Acted) → j ≤ k → Draws j a b → Draws k a b
more j k a b le d = record { size = d.size; drawn = omega (arith, d.drawn, le) }

pub draws_then : (j k : ℕ) (a b c : Acted) → Draws j a b → Draws k b c → Draws (j + k) a c
draws_then j k a b c p q = record { size = q.size ∙ p.size; drawn = omega (arith, p.drawn, q.drawn) }

pub then_none : (k : ℕ) (a b c : Acted) → Draws k a b → Draws 0 b c → Draws k a c
then_none k a b c p q = record { size = q.size ∙ p.size; drawn = omega (arith, p.drawn, q.drawn) }

pub none_then : (k : ℕ) (a b c : Acted) → Draws 0 a b → Draws k b c → Draws k a c
none_then k a b c p q = record { size = q.size ∙ p.size; drawn = omega (arith, p.drawn, q.drawn) }

pub calm_fold : {A : Type 0} (f : Acted → A → Acted) → ((a : Acted) (x : A) → IsCalm a (f a x)) → (xs : List A) (a : Acted) → IsCalm a (fold f a xs)
calm_fold f each [] a = itself a
calm_fold f each (x ∷ xs) a = calm_then a (f a x) (fold f (f a x) xs) (each a x) (calm_fold f each xs (f a x))

pub none_fold : {A : Type 0} (f : Acted → A → Acted) → ((a : Acted) (x : A) → Draws 0 a (f a x)) → (xs : List A) (a : Acted) → Draws 0 a (fold f a xs)
none_fold f each [] a = calm a a (itself a)
none_fold f each (x ∷ xs) a = none_then 0 a (f a x) (fold f (f a x) xs) (each a x) (none_fold f each xs (f a x))

-- *Sending*
pub sends_calm : (a : Acted) (channel : Channel) (mark : Mark) (payload : List ℕ) → IsCalm a (sends a channel mark payload)
sends_calm a channel mark payload = on_both (λ (s : Sender Controller). IsCalm a (record a { controller = s.queues; notes = s.notes })) (nat_le (length (frame_cells channel mark payload)) (free_slots a.controller))
    (record { queues = with_cells a.controller (frame_cells channel mark payload); notes = made a.notes mark payload })
    (record { queues = a.controller; notes = noted (made a.notes mark payload) (Loss mark PoolFull) })
    (record { size = refl; side = refl; same = refl }) (record { size = refl; side = refl; same = refl })

pub sends_control_calm : (a : Acted) (channel : Channel) (payload : List ℕ) → IsCalm a (sends_control a channel payload)
sends_control_calm a channel payload = (let c : IsCalm (record a { numbers = with_control a.numbers }) (sends_control a channel payload) = sends_calm (record a { numbers = with_control a.numbers }) channel (next_control a.numbers) payload in
    record { size = c.size; side = c.side; same = c.same })

pub says_gsmp_calm : (a : Acted) (message : GsmpMessage) → IsCalm a (says_gsmp a message)
says_gsmp_calm a message = sends_control_calm a default_channel (gsmp_octets message)

-- *A port is put back*
pub put_calm : (a : Acted) (linked : Linked) → IsCalm a (with_linked a linked)
put_calm a linked = record { size = put_length port_key linked a.controller.ports; side = refl; same = refl }

cuts_of_calm : (a : Acted) (label : ℕ) (o : Option Linked) → IsCalm a (cuts_of a label o)
cuts_of_calm a label None = itself a
cuts_of_calm a label (Some linked) = record { size = put_length port_key (record linked { chains = chains_with linked.chains label nothing_taken }) a.controller.ports; side = refl; same = refl }

cuts_label_calm : (port : PortNo) (a : Acted) (label : ℕ) → IsCalm a (cuts_label port a label)
cuts_label_calm port a label = cuts_of_calm a label (linked_at a.controller port)

cuts_default_of_calm : (a : Acted) (o : Option Linked) → IsCalm a (cuts_default_of a o)
cuts_default_of_calm a None = itself a
cuts_default_of_calm a (Some linked) = record { size = put_length port_key (record linked { reassembly = nothing_taken }) a.controller.ports; side = refl; same = refl }

-- *Node reset*
pub record Rises (count : ℕ) (a b : Acted) : Type 0 where
  pub size : length b.controller.ports ≡ length a.controller.ports
  pub side : b.controller.adjacency ≡ a.controller.adjacency
  pub drawn : b.numbers.instances ≤ a.numbers.instances + count

closes_by_calm : (port : PortNo) (a : Acted) (action : Action) → IsCalm a (closes_by port a action)
closes_by_calm port a (Say message) = itself a
closes_by_calm port a (Ask request needed) = itself a
closes_by_calm port a (Note item) = record { size = refl; side = refl; same = refl }
closes_by_calm port a (CutChain label) = cuts_label_calm port a label
closes_by_calm port a (TakeBack input output) = itself a
closes_by_calm port a (Withdraw input) = itself a
closes_by_calm port a Reset = itself a

port_restarts_of_rises : (a : Acted) (o : Option Linked) → Rises 1 a (port_restarts_of a o)
port_restarts_of_rises a None = record { size = refl; side = refl; drawn = omega arith }
port_restarts_of_rises a (Some linked) =
    let w : Work = restarts linked.setup (begins a linked) in
    let c : IsCalm (with_work a linked w) (port_restarts_as a linked w) = calm_fold (closes_by linked.setup.port) (closes_by_calm linked.setup.port) w.actions (with_work a linked w) in
    record { size = c.size ∙ put_length port_key (record linked { port = w.port }) a.controller.ports; side = c.side; drawn = omega (arith, c.same) }

ports_rise : (ports : List PortNo) (a : Acted) → Rises (length ports) a (fold port_restarts a ports)
ports_rise [] a = record { size = refl; side = refl; drawn = omega arith }
ports_rise (port ∷ ports) a =
    let r : Rises 1 a (port_restarts a port) = port_restarts_of_rises a (linked_at a.controller port) in
    let s : Rises (length ports) (port_restarts a port) (fold port_restarts (port_restarts a port) ports) = ports_rise ports (port_restarts a port) in
    record { size = s.size ∙ r.size; side = s.side ∙ r.side; drawn = omega (arith, r.drawn, s.drawn) }

pub ports_count : (ports : List Linked) → length (map (λ (linked : Linked). linked.setup.port) ports) ≡ length ports
ports_count [] = refl
ports_count (linked ∷ ports) = omega (arith, ports_count ports)

-- afterwards nothing is left to be drawn
pub record IsReset (a b : Acted) : Type 0 where
  pub size : length b.controller.ports ≡ length a.controller.ports
  pub none : left b ≡ 0
  pub drawn : b.numbers.instances ≤ a.numbers.instances + (1 + length a.controller.ports)

pub node_resets_draws : (a : Acted) → IsReset a (node_resets a)
node_resets_draws a =
    let r : Rises (length (ports_of a.controller)) (resets_gsmp a) (node_resets a) = ports_rise (ports_of a.controller) (resets_gsmp a) in
    record {
      size = r.size;
      none = ap (λ (s : Side Party). left_by (is_estab s.state) (length (node_resets a).controller.ports)) r.side;
      drawn = omega (arith, r.drawn, ports_count a.controller.ports);
    }

reset_in_estab : (a : Acted) → is_estab a.controller.adjacency.state ≡ true → Draws 0 a (node_resets a)
reset_in_estab a estab =
    let r : IsReset a (node_resets a) = node_resets_draws a in
    let before : left a ≡ 1 + length a.controller.ports = ap (λ b. left_by b (length a.controller.ports)) estab in
    record { size = r.size; drawn = omega (arith, r.none, r.drawn, before) }

pub reset_always : (a : Acted) → Draws (1 + length a.controller.ports) a (node_resets a)
reset_always a = (let r : IsReset a (node_resets a) = node_resets_draws a in record { size = r.size; drawn = omega (arith, r.none, r.drawn) })

-- *Asking*
next_calm : (a : Acted) (request : Request) → IsCalm a (asks_next a request)
next_calm a request =
    let entered : Acted = with_desk a (asked a.controller.desk request) in
    let c : IsCalm entered (asks_next a request) = says_gsmp_calm entered (message_at entered.controller.desk (record { number = a.controller.desk.next; request = request })) in
    record { size = c.size; side = c.side; same = c.same }

pub asks_draws : (a : Acted) (request : Request) → Draws 0 a (asks a request)
asks_draws a request = on_each (Draws 0 a) (is_estab a.controller.adjacency.state) (if a.controller.desk.next == last_transaction then node_resets a else asks_next a request) a
    (λ estab. on_both (Draws 0 a) (a.controller.desk.next == last_transaction) (node_resets a) (asks_next a request) (reset_in_estab a estab)
    (calm a (asks_next a request) (next_calm a request)))
    (λ t. calm a a (itself a))

pub takes_back_draws : (a : Acted) (input output : End) → Draws 0 a (takes_back a input output)
takes_back_draws a input output = on_both (Draws 0 a) (is_led_home a.controller.desk input (home_of input)) a (asks a (MoveBranch input output (home_of input)))
    (calm a a (itself a)) (asks_draws a (MoveBranch input output (home_of input)))

-- *Actions*
does_draws : (port : PortNo) (a : Acted) (action : Action) → Draws 0 a (does port a action)
does_draws port a (Say message) = calm a (does port a (Say message)) (sends_control_calm a (default_home port).channel _)
does_draws port a (Ask request needed) = asks_draws a request
does_draws port a (Note item) = calm a (note a item) (record { size = refl; side = refl; same = refl })
does_draws port a (CutChain label) = calm a (cuts_label port a label) (cuts_label_calm port a label)
does_draws port a (TakeBack input output) = takes_back_draws a input output
does_draws port a (Withdraw input) = calm a (does port a (Withdraw input)) (record { size = refl; side = refl; same = refl })
does_draws port a Reset = calm a a (itself a)

does_in_estab_draws : (port : PortNo) (a : Acted) (action : Action) → Draws 0 a (does_in_estab port a action)
does_in_estab_draws port a action = on_both (Draws 0 a) (is_estab a.controller.adjacency.state) (does port a action) a (does_draws port a action) (calm a a (itself a))

resets_of_draws : (a : Acted) (o : Option Linked) → Draws 1 a (resets_of a o)
resets_of_draws a None = more 0 1 a a (omega arith) (calm a a (itself a))
resets_of_draws a (Some linked) =
    let w : Work = resets linked.setup (begins a linked) in
    let placed : Acted = with_work a linked w in
    let size : length placed.controller.ports ≡ length a.controller.ports = put_length port_key (record linked { port = w.port }) a.controller.ports in
    then_none 1 a placed (fold (does_in_estab linked.setup.port) placed w.actions) (record { size = size; drawn = omega (arith, left_same a placed refl size) })
    (none_fold (does_in_estab linked.setup.port) (does_in_estab_draws linked.setup.port) w.actions placed)

performs_draws : (port : PortNo) (a : Acted) (action : Action) → Draws (resets_among (action ∷ [])) a (performs port a action)
performs_draws port a (Say message) = does_draws port a (Say message)
performs_draws port a (Ask request needed) = does_draws port a (Ask request needed)
performs_draws port a (Note item) = does_draws port a (Note item)
performs_draws port a (CutChain label) = does_draws port a (CutChain label)
performs_draws port a (TakeBack input output) = does_draws port a (TakeBack input output)
performs_draws port a (Withdraw input) = does_draws port a (Withdraw input)
performs_draws port a Reset = more 1 (1 + 0) a (resets_port a port) (omega arith) (resets_of_draws a (linked_at a.controller port))

performs_in_estab_draws : (port : PortNo) (a : Acted) (action : Action) → Draws (resets_among (action ∷ [])) a (performs_in_estab port a action)
performs_in_estab_draws port a action = on_both (Draws (resets_among (action ∷ [])) a) (is_estab a.controller.adjacency.state) (performs port a action) a
    (performs_draws port a action) (more 0 (resets_among (action ∷ [])) a a (omega arith) (calm a a (itself a)))

actions_draw : (port : PortNo) (actions : List Action) (a : Acted) → Draws (resets_among actions) a (fold (performs_in_estab port) a actions)
actions_draw port [] a = calm a a (itself a)
actions_draw port (action ∷ actions) a =
    let next : Acted = performs_in_estab port a action in
    let both : Draws (resets_among (action ∷ []) + resets_among actions) a (fold (performs_in_estab port) next actions) =
    draws_then (resets_among (action ∷ [])) (resets_among actions) a next (fold (performs_in_estab port) next actions) (performs_in_estab_draws port a action) (actions_draw port actions next) in
    more (resets_among (action ∷ []) + resets_among actions) (resets_among (action ∷ actions)) a (fold (performs_in_estab port) next actions) (omega (arith, resets_one action actions)) both

-- *A rule of a port* that draws nothing itself, and asks to be reset so often at most
pub record Behaves (count : ℕ) (a : Acted) (w : Work) : Type 0 where
  pub same : w.instances ≡ a.numbers.instances
  pub resets : resets_among w.actions ≤ count

works_as_draws : (count : ℕ) (a : Acted) (linked : Linked) (w : Work) → Behaves count a w → Draws count a (works_as a linked w)
works_as_draws count a linked w h =
    let placed : Acted = with_work a linked w in
    let put : IsCalm a placed = record { size = put_length port_key (record linked { port = w.port }) a.controller.ports; side = refl; same = h.same } in
    more (resets_among w.actions) count a (works_as a linked w) h.resets
    (none_then (resets_among w.actions) a placed (works_as a linked w) (calm a placed put) (actions_draw linked.setup.port w.actions placed))

pub at_port_draws : (count : ℕ) (a : Acted) (port : PortNo) (rule : Rule)
    → ((linked : Linked) → linked_at a.controller port ≡ Some linked → Behaves count a (rule linked.setup a.controller.desk (begins a linked))) → Draws count a (at_port a port rule)
at_port_draws count a port rule behaves = by_found (linked_at a.controller port) refl
  where
    by_found : (o : Option Linked) → linked_at a.controller port ≡ o → Draws count a (works a rule o)
    by_found None found = more 0 count a a (omega arith) (calm a a (itself a))
    by_found (Some linked) found = works_as_draws count a linked (rule linked.setup a.controller.desk (begins a linked)) (behaves linked found)

-- *Restart*
pub node_restarts_draws : (a : Acted) → (node_restarts a).numbers.instances ≤ a.numbers.instances + (1 + length a.controller.ports)
node_restarts_draws a =
    let fresh : Acted = node_resets a in
    let c : IsCalm (cuts_gsmp fresh) (node_restarts a) = calm_fold cuts_default (λ b port. cuts_default_of_calm b (linked_at b.controller port)) (ports_of a.controller) (cuts_gsmp fresh) in
    omega (arith, c.same, (node_resets_draws a).drawn)
