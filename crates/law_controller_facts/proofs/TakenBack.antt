-- a join that is taken back stays until it is released

use Rattle.claims_model.specs.world_model.port_model.declared.action.Action.TheVariants as actions
use Rattle.std.proofs.Common.{◌≡◌, ℕ, true, false, List, [], ◌∷◌, length, Option, None, Some, refl, ◌∙◌, if◌then◌else◌, fold, ◌⊎◌, inl, inr}
use Rattle.std.specs.Prelude.{◌==◌, nat_le}
use Rattle.claims_model.specs.world_model.Words.{PortNo, RouteChange, Request, MoveBranch, Loss, is_led_home, last_transaction, home_of, Linked, linked_at, Controller, with_desk, default_channel, begins, with_work, cuts_of, closes_by, port_restarts_of, port_restarts, resets_gsmp, node_resets, changed_joins, takes_join_back, begins_change, Channel, Mark, next_control, with_control, is_estab, frame_cells, made, restarts, asks, asks_next, PoolFull, noted, Action, Say, Ask, Note, CutChain, TakeBack, Withdraw}
use Rattle.claims_model.specs.world_model.port_model.Desk.{asked, message_at}
use Rattle.law_port_facts.proofs.Keyed.{on_both}
use Rattle.claims_model.specs.world_model.Controller.{Acted, ports_of, free_slots}
use Rattle.claims_model.specs.world_model.Joins.{Join, output_joined}
use Rattle.claims_model.specs.world_model.frame_model.Sending.{Sender}
use Rattle.claims_model.specs.world_model.Sending.{with_cells, sends}
use Rattle.claims_model.specs.world_model.gsmp_wire.Layout.{octets_of as gsmp_octets}

-- the ports and the table stay, or the switch isn't met any more
abbrev pub Stays : Acted → Acted → Type 0
Stays a b = (b.controller.has_met ≡ false) ⊎ ((b.controller.ports ≡ a.controller.ports) × (b.controller.table ≡ a.controller.table))

reset_unmet : (a : Acted) → (node_resets a).controller.has_met ≡ false
reset_unmet a = unmet_fold (ports_of a.controller) (resets_gsmp a) refl
  where
    cuts_unmet : (b : Acted) (label : ℕ) (o : Option Linked) → (cuts_of b label o).controller.has_met ≡ b.controller.has_met
    cuts_unmet b label None = refl
    cuts_unmet b label (Some linked) = refl

    closes_unmet : (port : PortNo) (b : Acted) (action : Action) → (closes_by port b action).controller.has_met ≡ b.controller.has_met
    closes_unmet port b (Say message) = refl
    closes_unmet port b (Ask request needed) = refl
    closes_unmet port b (Note item) = refl
    closes_unmet port b (CutChain label) = cuts_unmet b label (linked_at b.controller port)
    closes_unmet port b (TakeBack input output) = refl
    closes_unmet port b (Withdraw input) = refl
    closes_unmet port b actions.Reset = refl

    actions_unmet : (port : PortNo) (xs : List Action) (b : Acted) → (fold (closes_by port) b xs).controller.has_met ≡ b.controller.has_met
    actions_unmet port [] b = refl
    actions_unmet port (x ∷ xs) b = actions_unmet port xs (closes_by port b x) ∙ closes_unmet port b x

    port_unmet : (b : Acted) (o : Option Linked) → (port_restarts_of b o).controller.has_met ≡ b.controller.has_met
    port_unmet b None = refl
    port_unmet b (Some linked) = actions_unmet linked.setup.port (restarts linked.setup (begins b linked)).actions (with_work b linked (restarts linked.setup (begins b linked)))

    unmet_fold : (ports : List PortNo) (b : Acted) → b.controller.has_met ≡ false → (fold port_restarts b ports).controller.has_met ≡ false
    unmet_fold [] b e = e
    unmet_fold (port ∷ ports) b e = unmet_fold ports (port_restarts b port) (port_unmet b (linked_at b.controller port) ∙ e)

sends_same : (a : Acted) (channel : Channel) (mark : Mark) (payload : List ℕ) → ((sends a channel mark payload).controller.ports ≡ a.controller.ports) × ((sends a channel mark payload).controller.table ≡ a.controller.table)
sends_same a channel mark payload = on_both (λ (s : Sender Controller). (s.queues.ports ≡ a.controller.ports) × (s.queues.table ≡ a.controller.table)) (nat_le (length (frame_cells channel mark payload)) (free_slots a.controller))
    (record { queues = with_cells a.controller (frame_cells channel mark payload); notes = made a.notes mark payload })
    (record { queues = a.controller; notes = noted (made a.notes mark payload) (Loss mark PoolFull) }) (refl, refl) (refl, refl)

asks_stays : (a : Acted) (request : Request) → Stays a (asks a request)
asks_stays a request = on_both (Stays a) (is_estab a.controller.adjacency.state) (if a.controller.desk.next == last_transaction then node_resets a else asks_next a request) a
    (on_both (Stays a) (a.controller.desk.next == last_transaction) (node_resets a) (asks_next a request) (inl (reset_unmet a)) (inr (next_same a request))) (inr (refl, refl))
  where
    next_same : (a : Acted) (request : Request) → ((asks_next a request).controller.ports ≡ a.controller.ports) × ((asks_next a request).controller.table ≡ a.controller.table)
    next_same a request =
        let entered : Acted = with_desk a (asked a.controller.desk request) in
        sends_same (record entered { numbers = with_control a.numbers }) default_channel (next_control a.numbers) (gsmp_octets (message_at entered.controller.desk (record { number = a.controller.desk.next; request = request })))

-- not met, it stays so
asks_unmet : (a : Acted) (request : Request) → a.controller.has_met ≡ false → (asks a request).controller.has_met ≡ false
asks_unmet a request e = on_both (λ (b : Acted). b.controller.has_met ≡ false) (is_estab a.controller.adjacency.state) (if a.controller.desk.next == last_transaction then node_resets a else asks_next a request) a
    (on_both (λ (b : Acted). b.controller.has_met ≡ false) (a.controller.desk.next == last_transaction) (node_resets a) (asks_next a request) (reset_unmet a) (next_unmet a request e)) e
  where
    next_unmet : (a : Acted) (request : Request) → a.controller.has_met ≡ false → (asks_next a request).controller.has_met ≡ false
    next_unmet a request e =
        let entered : Acted = with_desk a (asked a.controller.desk request) in
        let channel : Channel = default_channel in
        let mark : Mark = next_control a.numbers in
        let payload : List ℕ = gsmp_octets (message_at entered.controller.desk (record { number = a.controller.desk.next; request = request })) in
        on_both (λ (s : Sender Controller). s.queues.has_met ≡ false) (nat_le (length (frame_cells channel mark payload)) (free_slots entered.controller))
        (record { queues = with_cells entered.controller (frame_cells channel mark payload); notes = made a.notes mark payload })
        (record { queues = entered.controller; notes = noted (made a.notes mark payload) (Loss mark PoolFull) }) e e

stays_then : (a b c : Acted) → Stays a b → (b.controller.has_met ≡ false → c.controller.has_met ≡ false) → Stays b c → Stays a c
stays_then a b c (inl unmet) keeps q = inl (keeps unmet)
stays_then a b c (inr same) keeps (inl unmet) = inl unmet
stays_then a b c (inr same) keeps (inr next) = inr (next.0 ∙ same.0, next.1 ∙ same.1)

takes_back_stays : (a : Acted) (join : Join) → Stays a (takes_join_back a join)
takes_back_stays a join = on_both (Stays a) (is_led_home a.controller.desk join.input (home_of join.input)) a (asks a (MoveBranch join.input (output_joined join) (home_of join.input))) (inr (refl, refl)) (asks_stays a (MoveBranch join.input (output_joined join) (home_of join.input)))

takes_back_unmet : (a : Acted) (join : Join) → a.controller.has_met ≡ false → (takes_join_back a join).controller.has_met ≡ false
takes_back_unmet a join e = on_both (λ (b : Acted). b.controller.has_met ≡ false) (is_led_home a.controller.desk join.input (home_of join.input)) a (asks a (MoveBranch join.input (output_joined join) (home_of join.input))) e (asks_unmet a (MoveBranch join.input (output_joined join) (home_of join.input)) e)

pub back_fold : (joins : List Join) (a : Acted) → Stays a (fold takes_join_back a joins)
back_fold [] a = inr (refl, refl)
back_fold (join ∷ joins) a = stays_then a (takes_join_back a join) (fold takes_join_back (takes_join_back a join) joins) (takes_back_stays a join) (unmet_fold joins (takes_join_back a join)) (back_fold joins (takes_join_back a join))
  where
    unmet_fold : (joins : List Join) (b : Acted) → b.controller.has_met ≡ false → (fold takes_join_back b joins).controller.has_met ≡ false
    unmet_fold [] b e = e
    unmet_fold (join ∷ joins) b e = unmet_fold joins (takes_join_back b join) (takes_back_unmet b join e)

pub begins_stay : (a : Acted) (change : RouteChange) → Stays a (begins_change a change)
begins_stay a change =
    let begun : Acted = record a { controller = record a.controller { is_begun = true } } in
    on_both (Stays a) a.controller.is_begun a (fold takes_join_back begun (changed_joins a.controller change)) (inr (refl, refl)) (back_fold (changed_joins a.controller change) begun)
