-- what may be asked can be written in a run, and so each carry in peace asks some

use Rattle.std.proofs.Common.{◌≡◌, ◌≤◌, Bool, true, false, List, Some, Result, Ok, Err, refl, ◌∙◌, ap, subst}
use Rattle.std.specs.Prelude.{◌||◌}
use Rattle.world_model.specs.Words.{Up, End, IsLinkPort, Request, label_end, home_of, message_of, Setup, is_gsmp, default_channel, Site, past_of}
use Rattle.world_model.specs.Ways.{ok_of}
use Rattle.world_model.specs.gsmp_wire.declared.fault.Fault.{Fault}
use Rattle.world_model.specs.gsmp_wire.declared.message.Message.{Message}
use Rattle.world_model.specs.gsmp_wire.Layout.{octets_of}
use Rattle.world_model.specs.gsmp_wire.Fields.{decoded}
use Rattle.world_model.specs.network_model.declared.event.Event.TheVariants.{Carry}
use Rattle.law_live_lasting.specs.law_port_facts.ordered_lists.Ordered.{Every}
use Rattle.law_live_lasting.specs.law_port_facts.Port.{setup_port, IsLabelEnd, IsShaped, leads_label, leads_grant}
use Rattle.law_live_lasting.proofs.law_port_facts.Keyed.{at_every}
use Rattle.law_live_lasting.proofs.law_shown_cells.Frames.{differ}
use Rattle.law_live_lasting.specs.law_run_facts.Nodes.{IsNodeOfRun}
use Rattle.law_live_lasting.proofs.law_run_facts.Nodes.{runs_have_nodes}
use Rattle.law_live_lasting.proofs.law_run_facts.Steps.{runs_have_fronts}
use Rattle.law_live_lasting.specs.law_running_worlds.law_world_views.Between.{setups_of}
use Rattle.law_live_lasting.proofs.law_running_worlds.law_input_premises.Reading.{are_read}
use Rattle.law_live_lasting.specs.law_live_hearing.Law.{world_at}
use Rattle.law_live_lasting.proofs.law_live_control.Since.{apart_label}
use Rattle.law_live_lasting.proofs.law_live_control_links.Runs.{runs_are_steady}
use Rattle.law_live_lasting.proofs.law_live_orders.Hops.{link_not_gsmp}
use Rattle.law_live_mirrors.specs.Fit.{NamesNoGsmp}
use Rattle.law_live_mirrors.proofs.Fitting.{requests_are_fit}
use Rattle.law_live_asking.specs.Law.{IsOfLabel, of_label, of_grant}
use Rattle.law_live_asking.specs.Carries.{KnownSwitchesAreAsked, CarriesAsk}
use Rattle.law_live_asking.proofs.Carries.{carries_ask_some}

-- *What is read in octets*
read_so : (r : Result Message Fault) (message : Message) → ok_of r ≡ Some message → r ≡ Ok message
read_so (Ok own) message e = (let same : own ≡ message = cc in ap (λ (m : Message). Ok m) same)
read_so (Err fault) message e = absurd (cc e)

-- *Of which shape it is*, and no end of it is the GSMP channel
shape_of : (setups : List Setup) (site : Site) → setups_of site.controller ≡ setups → (request : Request) → IsOfLabel site.controller request → IsShaped setups request
shape_of setups site same request (of_label end is) = leads_label end (subst (λ (x : List Setup). IsLabelEnd x end) same is)
shape_of setups site same request (of_grant end is) = leads_grant end (subst (λ (x : List Setup). IsLabelEnd x end) same is)

both_away : (p q : Bool) → p ≡ false → q ≡ false → (p || (q || false)) ≡ false
both_away true q e f = absurd (cc e)
both_away false true e f = absurd (cc f)
both_away false false e f = refl

module _ (setups : List Setup) (links : Every (λ (setup : Setup). IsLinkPort setup.port) setups) (end : End) (is : IsLabelEnd setups end) where
  link : 1 ≤ is.setup.port.0
  link = (at_every setup_port (λ (setup : Setup). IsLinkPort setup.port) is.setup.port.0 setups is.setup links is.linked).0

  end_away : is_gsmp end.port end.channel ≡ false
  end_away = ap (λ (e : End). is_gsmp e.port e.channel) is.is ∙ link_not_gsmp is.setup.port link (label_end is.setup.port is.number).channel

  home_away : is_gsmp (home_of end).port (home_of end).channel ≡ false
  home_away = ap (λ (e : End). is_gsmp (home_of e).port (home_of e).channel) is.is
      ∙ differ (home_of (label_end is.setup.port is.number)).channel default_channel (apart_label is.setup.port is.number link)

names_none : (site : Site) → Every (λ (setup : Setup). IsLinkPort setup.port) (setups_of site.controller) → (request : Request) → IsOfLabel site.controller request → NamesNoGsmp request
names_none site links request (of_label end is) = both_away (is_gsmp end.port end.channel) (is_gsmp (home_of end).port (home_of end).channel)
    (end_away (setups_of site.controller) links end is) (home_away (setups_of site.controller) links end is)
names_none site links request (of_grant end is) = both_away (is_gsmp (home_of end).port (home_of end).channel) (is_gsmp end.port end.channel)
    (home_away (setups_of site.controller) links end is) (end_away (setups_of site.controller) links end is)

pub known_switches_are_asked : KnownSwitchesAreAsked
known_switches_are_asked policy topology before event node site comes world found left known request of = (
  read_so (decoded (octets_of (message_of site.controller.desk.rows site.controller.desk.next request))) (message_of site.controller.desk.rows site.controller.desk.next request)
      (are_read (setups_of site.controller) n.ports.links site.controller.desk.rows (world.ready node site found).rows site.controller.desk.next request left shape),
  requests_are_fit (setups_of site.controller) site.controller.desk.rows site.switch site.controller.desk.next request known shape (names_none site n.ports.links request of),
)
  where
    n : IsNodeOfRun policy (past_of policy topology before) node site
    n = runs_have_nodes policy topology before comes.addresses (runs_have_fronts policy topology before event comes).run node site found

    shape : IsShaped (setups_of site.controller) request
    shape = shape_of (setups_of site.controller) site refl request of

pub carries_ask : CarriesAsk
carries_ask policy topology before node site comes world found calm = carries_ask_some topology (world_at policy topology before) node site found
    ((runs_are_steady policy topology before (Carry (Up node)) comes world node).0.links site found) calm.may_come
    (known_switches_are_asked policy topology before (Carry (Up node)) node site comes world found calm.number_left calm.known) calm.unlost
