-- joins that stand at a desk in a run can be written, and are fit for a switch that the controller knows

use Rattle.std.proofs.Common.{◌≡◌, ◌≤◌, ◌<◌, Bool, true, false, List, Some, Result, Ok, Err, refl, ◌∙◌, ap, arith}
use Rattle.std.specs.Prelude.{◌||◌}
use Rattle.world_model.specs.Words.{Policy, NodeId, End, IsLinkPort, Request, Standing, label_end, home_of, message_of, Setup, is_gsmp, default_channel, Topology, Site, site_at, past_of, IsRun}
use Rattle.world_model.specs.Ways.{ok_of}
use Rattle.world_model.specs.gsmp_wire.declared.fault.Fault.{Fault}
use Rattle.world_model.specs.gsmp_wire.declared.message.Message.{Message}
use Rattle.world_model.specs.gsmp_wire.Layout.{octets_of}
use Rattle.world_model.specs.gsmp_wire.Fields.{decoded}
use Rattle.world_model.specs.network_model.declared.event.Event.{Event}
use Rattle.law_live_joining_beats.specs.law_port_facts.ordered_lists.Ordered.{Every}
use Rattle.law_live_joining_beats.proofs.law_port_facts.ordered_lists.Every.{every_map2}
use Rattle.law_live_joining_beats.specs.law_port_facts.Port.{setup_port, IsLabelEnd, IsShaped, asks_ports, empties_control, empties_port, opens_input, opens_output, leads_label, leads_grant, joins_label, parts_label, frees_label}
use Rattle.law_live_joining_beats.proofs.law_port_facts.Keyed.{at_every}
use Rattle.law_live_joining_beats.proofs.law_shown_cells.Frames.{differ}
use Rattle.law_live_joining_beats.specs.law_run_facts.Nodes.{IsNodeOfRun}
use Rattle.law_live_joining_beats.specs.law_run_facts.law_world_views.Fronts.{HasAddresses}
use Rattle.law_live_joining_beats.proofs.law_run_facts.Nodes.{runs_have_nodes}
use Rattle.law_live_joining_beats.specs.law_running_worlds.law_world_views.Between.{setups_of, IsWorld}
use Rattle.law_live_joining_beats.proofs.law_running_worlds.law_input_premises.Reading.{are_read}
use Rattle.law_live_joining_beats.specs.law_live_hearing.Law.{world_at}
use Rattle.law_live_joining_beats.proofs.law_live_control.Since.{apart_label}
use Rattle.law_live_joining_beats.proofs.law_live_orders.Hops.{link_not_gsmp}
use Rattle.law_live_joining_beats.specs.law_live_answers.Law.{IsJoin}
use Rattle.law_live_joining_beats.specs.law_live_mirrors.Fit.{IsKnown, NamesNoGsmp}
use Rattle.law_live_joining_beats.proofs.law_live_mirrors.Fitting.{requests_are_fit}
use Rattle.law_live_joining_beats.specs.law_live_mirrored_worlds.Ticks.{IsWritten}

-- *What is read in octets*
read_so : (r : Result Message Fault) (message : Message) → ok_of r ≡ Some message → r ≡ Ok message
read_so (Ok own) message e = (let same : own ≡ message = cc in ap (λ (m : Message). Ok m) same)
read_so (Err fault) message e = absurd (cc e)

-- *No end of a join* is the GSMP channel
all_away : (p q r : Bool) → p ≡ false → q ≡ false → r ≡ false → (p || (q || (r || false))) ≡ false
all_away true q r e f g = absurd (cc e)
all_away false true r e f g = absurd (cc f)
all_away false false true e f g = absurd (cc g)
all_away false false false e f g = refl

module _ (setups : List Setup) (links : Every (λ (setup : Setup). IsLinkPort setup.port) setups) where
  module _ (end : End) (is : IsLabelEnd setups end) where
    link : 1 ≤ is.setup.port.0
    link = (at_every setup_port (λ (setup : Setup). IsLinkPort setup.port) is.setup.port.0 setups is.setup links is.linked).0

    end_away : is_gsmp end.port end.channel ≡ false
    end_away = ap (λ (e : End). is_gsmp e.port e.channel) is.is ∙ link_not_gsmp is.setup.port link (label_end is.setup.port is.number).channel

    home_away : is_gsmp (home_of end).port (home_of end).channel ≡ false
    home_away = ap (λ (e : End). is_gsmp (home_of e).port (home_of e).channel) is.is
        ∙ differ (home_of (label_end is.setup.port is.number)).channel default_channel (apart_label is.setup.port is.number link)

  names_none : (request : Request) → IsShaped setups request → IsJoin request → NamesNoGsmp request
  names_none _ asks_ports join = absurd (cc join.is)
  names_none _ (empties_control port zero) join = absurd (cc join.is)
  names_none _ (empties_port port linked) join = absurd (cc join.is)
  names_none _ (opens_input end default) join = absurd (cc join.is)
  names_none _ (opens_output end default) join = absurd (cc join.is)
  names_none _ (leads_label end label) join = absurd (cc join.is)
  names_none _ (leads_grant end label) join = absurd (cc join.is)
  names_none _ (joins_label input output from to) join = all_away (is_gsmp input.port input.channel) (is_gsmp (home_of input).port (home_of input).channel) (is_gsmp output.port output.channel)
      (end_away input from) (home_away input from) (end_away output to)
  names_none _ (parts_label input output from to) join = all_away (is_gsmp input.port input.channel) (is_gsmp output.port output.channel) (is_gsmp (home_of input).port (home_of input).channel)
      (end_away input from) (end_away output to) (home_away input from)
  names_none _ (frees_label end label) join = absurd (cc join.is)

module _ (policy : Policy) (topology : Topology) (events : List Event) (addresses : HasAddresses topology) (run : IsRun policy topology events) (world : IsWorld (past_of policy topology events))
    (node : NodeId) (site : Site) (found : site_at (world_at policy topology events) node ≡ Some site) (known : IsKnown (setups_of site.controller) site.controller.desk.rows site.switch) where
  abbrev setups : List Setup
  setups = setups_of site.controller

  n : IsNodeOfRun policy (past_of policy topology events) node site
  n = runs_have_nodes policy topology events addresses run node site found

  one_written : (s : Standing) → s.number < site.controller.desk.next → IsShaped setups s.request → IsJoin s.request → IsWritten site.switch site.controller.desk.rows s
  one_written s below shape join = record {
    reads = read_so (decoded (octets_of (message_of site.controller.desk.rows s.number s.request))) (message_of site.controller.desk.rows s.number s.request)
        (are_read setups n.ports.links site.controller.desk.rows (world.ready node site found).rows s.number s.request (omega (arith, below, n.conduct.sound.desk.room)) shape);
    asks = requests_are_fit setups site.controller.desk.rows site.switch s.number s.request known shape (names_none setups n.ports.links s.request shape join);
  }

  pub joins_are_written : Every (λ (s : Standing). IsJoin s.request) site.controller.desk.standing → Every (IsWritten site.switch site.controller.desk.rows) site.controller.desk.standing
  joins_are_written joins = every_map2 (λ (s : Standing). s.number < site.controller.desk.next) (λ (s : Standing). IsShaped setups s.request × IsJoin s.request) (IsWritten site.switch site.controller.desk.rows)
      site.controller.desk.standing (λ s below both. one_written s below both.0 both.1) n.conduct.sound.desk.below
      (every_map2 (λ (s : Standing). IsShaped setups s.request) (λ (s : Standing). IsJoin s.request) (λ (s : Standing). IsShaped setups s.request × IsJoin s.request) site.controller.desk.standing
      (λ s shape join. (shape, join)) n.conduct.sound.requests joins)
