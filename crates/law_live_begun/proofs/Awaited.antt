-- where nothing stands at a ready controller's desk, it has met its switch, and no port waits to be cleared

use Rattle.std.proofs.Common.{◌≡◌, ◌&&◌, not, Bool, true, false, true≢false, List, [], ◌∷◌, refl, sym, ◌∙◌, ap}
use Rattle.std.specs.List.{list_any}
use Rattle.world_model.specs.Words.{PortNo, Standing, is_estab, is_clearing, is_delete_all, is_on, default_end, default_home, awaits_nothing, Controller, Linked}
use Rattle.law_link_parties.specs.law_run_facts.ordered_lists.Ordered.{Every}
use Rattle.law_live_begun.specs.First.{IsReady}
use Rattle.law_live_begun.specs.Controllers.{NothingIsAwaited}

awaits_none : (c : Controller) (port : PortNo) → c.desk.standing ≡ [] → awaits_nothing c port ≡ true
awaits_none c port none = ap (λ (standing : List Standing). not (list_any (λ s. is_delete_all port s.request) standing)
    && (not (list_any (λ s. is_on (default_end port) s.request) standing) && not (list_any (λ s. is_on (default_home port) s.request) standing))) none

has_met : (c : Controller) (b : Bool) → c.has_met ≡ b → is_estab c.adjacency.state ≡ true → c.desk.standing ≡ [] → IsReady c → c.has_met ≡ true
has_met c true e up none ready = e
has_met c false e up none ready = absurd (ready.meeting up e none)

each_clear : (c : Controller) (ports : List Linked) → c.desk.standing ≡ []
    → Every (λ (linked : Linked). is_clearing linked.port.adjacency.state ≡ true → awaits_nothing c linked.setup.port ≡ false) ports
    → Every (λ (linked : Linked). is_clearing linked.port.adjacency.state ≡ false) ports
each_clear c [] none waits = tt
each_clear c (linked ∷ ports) none waits = (by (is_clearing linked.port.adjacency.state) refl, each_clear c ports none waits.1)
  where
    by : (b : Bool) → is_clearing linked.port.adjacency.state ≡ b → is_clearing linked.port.adjacency.state ≡ false
    by true e = absurd (true≢false (sym (awaits_none c linked.setup.port none) ∙ waits.0 e))
    by false e = e

pub nothing_is_awaited : NothingIsAwaited
nothing_is_awaited c up none ready = (let met : c.has_met ≡ true = has_met c c.has_met refl up none ready in
    record { has_met = met; clear = each_clear c c.ports none (ready.clearing met) })
