-- where nothing stands at a desk no answer tells a failure

use Rattle.std.proofs.Common.{◌≡◌, ◌≢◌, ℕ, List, [], Option, None, Some, sym, ◌∙◌, ap}
use Rattle.std.specs.Option.{option_map, option_map_or}
use Rattle.world_model.specs.Words.{NodeId, Down, Up, Out, Desk, Standing, Head, Failed, answered, head_of, standing_at, World, Site, site_at, Controller}
use Rattle.world_model.specs.port_model.DeskAnswers.{answered_with}
use Rattle.world_model.specs.gsmp_wire.declared.message.Message.{Message}
use Rattle.world_model.specs.network_model.declared.event.Event.{Event}
use Rattle.world_model.specs.network_model.declared.event.Event.TheVariants.{Inject, Carry, Lose, Tick, TickSwitch, Restart, RestartSwitch, Forge, Route}
use Rattle.law_live_woken.proofs.law_run_facts.Nodes.{runs_have_nodes}
use Rattle.law_live_woken.specs.law_live_hearing.Law.{world_at}
use Rattle.law_live_woken.specs.law_live_waking.Law.{FailsNone}
use Rattle.law_live_rested.specs.Law.{NothingThatStandsFails, RequestsFailInEstab}

none_fails : (message : Message) (s : Standing) (code : ℕ) (o : Option Head) → answered_with [] message o ≢ Failed s code
none_fails message s code None e = absurd (cc e)
none_fails message s code (Some head) e = absurd (cc e)

desk_fails_none : (desk : Desk) (message : Message) (s : Standing) (code : ℕ) → desk.standing ≡ [] → answered desk message ≢ Failed s code
desk_fails_none desk message s code nothing e = none_fails message s code (head_of message)
    (sym (ap (λ (standing : List Standing). answered_with standing message (head_of message)) nothing) ∙ e)

pub nothing_fails : NothingThatStandsFails
nothing_fails w node (Carry (Up here)) nothing = λ same site cell cells payload message s code found queue made read.
    desk_fails_none site.controller.desk message s code
    (sym (ap (λ (o : Option Site). option_map_or (λ (c : Controller). c.desk.standing) (option_map (λ (x : Site). x.controller) o) []) found) ∙ nothing)
nothing_fails w node (Carry (Down here)) nothing = tt
nothing_fails w node (Carry (Out here port)) nothing = tt
nothing_fails w node (Inject here octets) nothing = tt
nothing_fails w node (Lose place) nothing = tt
nothing_fails w node (Tick here) nothing = tt
nothing_fails w node (TickSwitch here) nothing = tt
nothing_fails w node (Restart here) nothing = tt
nothing_fails w node (RestartSwitch here) nothing = tt
nothing_fails w node (Forge place channel payload) nothing = tt
nothing_fails w node (Route here change) nothing = tt

pub fails_in_estab : RequestsFailInEstab
fails_in_estab policy topology events node site event addresses run found closed =
    nothing_fails (world_at policy topology events) node event
    (ap (λ (o : Option Site). option_map_or (λ (c : Controller). c.desk.standing) (option_map (λ (x : Site). x.controller) o) []) found
    ∙ (runs_have_nodes policy topology events addresses run node site found).conduct.sound.desk.waits closed)
