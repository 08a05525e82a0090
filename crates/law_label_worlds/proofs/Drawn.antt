-- how many instances are drawn where joins are released

use Rattle.std.proofs.Common.{◌≡◌, ℕ, ◌≤◌, ◌<◌, ◌+◌, true, false, List, [], ◌∷◌, length, Option, None, Some, refl, arith, fold}
use Rattle.std.specs.Prelude.{◌^◌, Bool}
use Rattle.world_model.specs.Words.{PortNo, number_of_channel, is_estab, Request, Part, halts_if_spent, parted, given_back, begins, join_of, parts, gives_back, releases_join, releases_input, released_inputs, resets_spent, releases}
use Rattle.law_label_events.proofs.law_port_facts.Halting.{closes_once, parted_none, given_back_none}
use Rattle.law_label_events.proofs.law_port_facts.Instances.{closes_gave, parted_gave, given_back_gave}
use Rattle.world_model.specs.Controller.{Acted, ports_of, note}
use Rattle.world_model.specs.Joins.{Join}
use Rattle.law_label_events.proofs.law_controller_facts.Draws.{left_by, Draws, calm, itself, more, draws_then, then_none, none_then, none_fold, ports_count, at_port_draws}

nothing : (n : ℕ) → n ≡ 0 → n ≤ 0
nothing n e = omega arith

join_draws : (a : Acted) (o : Option Join) → Draws 0 a (releases_join a o)
join_draws a None = calm a a (itself a)
join_draws a (Some join) =
    let noted : Acted = note a (Part a.controller.node join.input.port (number_of_channel join.input.channel)) in
    let b : Acted = parts a join.input in
    then_none 0 a b (gives_back b join)
    (none_then 0 a noted b (calm a noted (record { size = refl; side = refl; same = refl }))
    (at_port_draws 0 noted join.input.port (λ setup desk w. parted w (number_of_channel join.input.channel)) (λ linked found. record {
      same = parted_gave a.numbers.instances (begins noted linked) (number_of_channel join.input.channel) refl;
      resets = nothing _ (parted_none (begins noted linked) (number_of_channel join.input.channel) refl);
    })))
    (at_port_draws 0 b join.port (λ setup desk w. given_back w join.grant) (λ linked found. record {
      same = given_back_gave b.numbers.instances (begins b linked) join.grant refl;
      resets = nothing _ (given_back_none (begins b linked) join.grant refl);
    }))

spent_draws : (a : Acted) (port : PortNo) → Draws 1 a (resets_spent a port)
spent_draws a port = at_port_draws 1 a port (λ setup desk w. halts_if_spent w) (λ linked found. record {
  same = closes_gave a.numbers.instances (begins a linked) refl;
  resets = (closes_once (begins a linked) (record { before = λ e. refl; most = omega arith })).most;
})

ports_draw : (ports : List PortNo) (a : Acted) → Draws (length ports) a (fold resets_spent a ports)
ports_draw [] a = calm a a (itself a)
ports_draw (port ∷ ports) a = more (1 + length ports) (length (port ∷ ports)) a (fold resets_spent (resets_spent a port) ports) (omega arith)
    (draws_then 1 (length ports) a (resets_spent a port) (fold resets_spent (resets_spent a port) ports) (spent_draws a port) (ports_draw ports (resets_spent a port)))

releases_draw : (a : Acted) (request : Request) → Draws (length a.controller.ports) a (releases a request)
releases_draw a request =
    let released : Acted = fold releases_input a (released_inputs a.controller request) in
    let first : Draws 0 a released = none_fold releases_input (λ b input. join_draws b (join_of b.controller input)) (released_inputs a.controller request) a in
    none_then (length a.controller.ports) a released (releases a request) first
    (more (length (ports_of released.controller)) (length a.controller.ports) released (releases a request) (omega (arith, ports_count released.controller.ports, first.size))
    (ports_draw (ports_of released.controller) released))

few_left : (b : Bool) (n : ℕ) → left_by b n ≤ 1 + n
few_left true n = omega arith
few_left false n = omega arith

-- with at most 8 ports, at most 20
pub releases_small : (a : Acted) (request : Request) → length a.controller.ports ≤ 8 → a.numbers.instances + 20 < 2 ^ 32 → (releases a request).numbers.instances < 2 ^ 32
releases_small a request few left =
    omega (arith, (releases_draw a request).drawn, few_left (is_estab a.controller.adjacency.state) (length a.controller.ports), few, left)
