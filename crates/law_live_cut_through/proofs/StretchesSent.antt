-- what is sent in calm: no route changes in it, and each later part of it is sent so

use Rattle.std.proofs.Common.{◌≡◌, true, List, [], ◌∷◌, ◌++◌, Option, None, Some, refl, subst}
use Rattle.std.specs.List.{list_all}
use Rattle.std.specs.Option.{option_map}
use Rattle.world_model.specs.Words.{NodeId, Controller, controller_at, World, Site, site_at}
use Rattle.world_model.specs.network_model.declared.event.Event.{Event}
use Rattle.world_model.specs.network_model.declared.event.Event.TheVariants.{Inject, Carry, Lose, Tick, TickSwitch, Restart, RestartSwitch, Forge, Route}
use Rattle.live_model.specs.Beats.{is_sending}
use Rattle.law_live_ease.specs.law_told_tables.Tables.{ChangesNoRoute}
use Rattle.law_live_ease.proofs.BindingStretches.{both_second}

-- *No route changes* in it
pub sent_none : (events : List Event) → list_all is_sending events ≡ true → ChangesNoRoute events
sent_none [] sends = refl
sent_none (Inject node octets ∷ events) sends = sent_none events sends
sent_none (Carry place ∷ events) sends = sent_none events sends
sent_none (Lose place ∷ events) sends = absurd (cc sends)
sent_none (Tick node ∷ events) sends = absurd (cc sends)
sent_none (TickSwitch node ∷ events) sends = absurd (cc sends)
sent_none (Restart node ∷ events) sends = absurd (cc sends)
sent_none (RestartSwitch node ∷ events) sends = absurd (cc sends)
sent_none (Forge place channel payload ∷ events) sends = absurd (cc sends)
sent_none (Route node change ∷ events) sends = absurd (cc sends)

-- and none waits at a controller, where that is so at each site
pub waits_none : (w : World) → ((node : NodeId) (site : Site) → site_at w node ≡ Some site → site.controller.waiting ≡ []) → (node : NodeId) (c : Controller) → controller_at w node ≡ Some c → c.waiting ≡ []
waits_none w none node c found = by (site_at w node) refl found
  where
    by : (o : Option Site) → site_at w node ≡ o → option_map (λ (s : Site). s.controller) o ≡ Some c → c.waiting ≡ []
    by None e is = absurd (cc is)
    by (Some site) e is = let same : site.controller ≡ c = cc in subst (λ (x : Controller). x.waiting ≡ []) same (none node site e)

-- *A later part* is sent
pub rest_sent : (front rest : List Event) → list_all is_sending (front ++ rest) ≡ true → list_all is_sending rest ≡ true
rest_sent [] rest sends = sends
rest_sent (event ∷ front) rest sends = rest_sent front rest (both_second (is_sending event) (list_all is_sending (front ++ rest)) sends)
