-- events that neither send a packet nor change a route have no effect

use Rattle.std.proofs.Common.{◌≡◌, ◌∙◌, ℕ, zero, suc, ◌&&◌, Bool, true, false, List, [], ◌∷◌, ◌++◌, map, refl, ap₂}
use Rattle.std.specs.List.{list_all, repeat}
use Rattle.std.proofs.lemmas.List.Folds.{list_all-append}
use Rattle.ipv4_forward.specs.declared.table.Route.{Route}
use Rattle.world_model.specs.network_model.declared.event.Event.{Event}
use Rattle.world_model.specs.network_model.declared.event.Event.TheVariants.{Inject, Carry, Lose, Tick, TickSwitch, Restart, RestartSwitch, Forge, Route as RouteComes}
use Rattle.world_model.specs.Topology.{Topology}
use Rattle.world_model.specs.World.{World}
use Rattle.world_model.specs.Places.{places}
use Rattle.world_model.specs.Run.{tick_of_all, tick_of, switch_tick_of, round}
use Rattle.script_model.specs.Ideal.{ideal_from}

abbrev pub is_quiet : Event → Bool
is_quiet (Inject node packet) = false
is_quiet (RouteComes node change) = false
is_quiet event = true

both : (a b : Bool) → (a && b) ≡ true → (a ≡ true) × (b ≡ true)
both true b e = (refl, e)
both false b e = absurd (cc)

one_quiet : (topology : Topology) (tables : List (List Route)) (number : ℕ) (event : Event) (events : List Event) → is_quiet event ≡ true
    → ideal_from topology tables number (event ∷ events) ≡ ideal_from topology tables number events
one_quiet topology tables number (Inject node packet) events e = absurd (cc)
one_quiet topology tables number (Carry place) events e = refl
one_quiet topology tables number (Lose place) events e = refl
one_quiet topology tables number (Tick node) events e = refl
one_quiet topology tables number (TickSwitch node) events e = refl
one_quiet topology tables number (Restart node) events e = refl
one_quiet topology tables number (RestartSwitch node) events e = refl
one_quiet topology tables number (Forge place channel payload) events e = refl
one_quiet topology tables number (RouteComes node change) events e = absurd (cc)

pub quiet_front : (topology : Topology) (tables : List (List Route)) (number : ℕ) (quiet events : List Event) → list_all is_quiet quiet ≡ true
    → ideal_from topology tables number (quiet ++ events) ≡ ideal_from topology tables number events
quiet_front topology tables number [] events e = refl
quiet_front topology tables number (event ∷ quiet) events e =
    let parts = both (is_quiet event) (list_all is_quiet quiet) e in
    one_quiet topology tables number event (quiet ++ events) parts.0 ∙ quiet_front topology tables number quiet events parts.1

quiet_map : {A : Type 0} (f : A → Event) → ((a : A) → is_quiet (f a) ≡ true) → (xs : List A) → list_all is_quiet (map f xs) ≡ true
quiet_map f each [] = refl
quiet_map f each (x ∷ xs) = ap₂ (λ a b. a && b) (each x) (quiet_map f each xs)

-- *Ticks of all*
pub ticks_quiet : (w : World) → list_all is_quiet (tick_of_all w) ≡ true
ticks_quiet w =
    list_all-append is_quiet (map tick_of w.sites) (map switch_tick_of w.sites)
    ∙ ap₂ (λ a b. a && b) (quiet_map tick_of (λ site. refl) w.sites) (quiet_map switch_tick_of (λ site. refl) w.sites)

-- *Rounds*
pub rounds_quiet : (rounds : ℕ) (w : World) → list_all is_quiet (repeat rounds (round w)) ≡ true
rounds_quiet zero w = refl
rounds_quiet (suc rounds) w =
    list_all-append is_quiet (round w) (repeat rounds (round w))
    ∙ ap₂ (λ a b. a && b) (quiet_map Carry (λ place. refl) (places w)) (rounds_quiet rounds w)
