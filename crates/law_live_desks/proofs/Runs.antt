-- what is said on the control link of a node is read as it was said in a run

use Rattle.std.proofs.Common.{◌≡◌, zero, ◌<◌, List, Some, refl, sym, ◌∙◌, subst, arith}
use Rattle.std.specs.Prelude.{Contains}
use Rattle.world_model.specs.Words.{Policy, NodeId, Down, Cell, Standing, Topology, Site, site_at, Past, past_of, IsRun}
use Rattle.world_model.specs.port_model.Desk.{message_at}
use Rattle.world_model.specs.network_model.declared.event.Event.{Event}
use Rattle.law_port_facts.specs.Port.{IsShaped}
use Rattle.law_port_facts.proofs.ordered_lists.Every.{every_map2}
use Rattle.law_run_facts.specs.Nodes.{IsNodeOfRun}
use Rattle.law_run_facts.proofs.Nodes.{runs_have_nodes}
use Rattle.law_running_worlds.specs.law_input_steps.Asking.{IsReadable}
use Rattle.law_running_worlds.specs.law_input_events.Coming.{IsToSwitch}
use Rattle.law_running_worlds.specs.law_frame_readings.Reading.{MarksAreRead}
use Rattle.law_running_worlds.specs.law_world_views.Fronts.{HasAddresses}
use Rattle.law_running_worlds.specs.law_world_views.Between.{setups_of, IsWorld}
use Rattle.law_running_worlds.proofs.law_input_premises.Asking.{shaped_asked}
use Rattle.law_running_worlds.proofs.law_input_premises.Reading.{are_read}
use Rattle.law_running_worlds.proofs.law_input_events.Answering.{answer_reads}
use Rattle.law_running_worlds.proofs.law_frame_readings.Reading.{read_ifmp, read_gsmp, read_copy, no_ifmp, no_gsmp, no_copy}
use Rattle.law_running_worlds.proofs.Sites.{steady_site, has_said}
use Rattle.law_live_hearing.proofs.Sites.{queue_of_site}
use Rattle.law_live_desks.specs.Law.{RequestsAreRead, AnswerIsRead, RunsAreRead}

marks_are_read : MarksAreRead
marks_are_read = record { ifmp = read_ifmp; gsmp = read_gsmp; copy = read_copy; no_ifmp = no_ifmp; no_gsmp = no_gsmp; no_copy = no_copy }

module _ (policy : Policy) (topology : Topology) (before : List Event) (addresses : HasAddresses topology) (run : IsRun policy topology before)
    (world : IsWorld (past_of policy topology before)) (node : NodeId) where
  abbrev past : Past
  past = past_of policy topology before

  of_run : (site : Site) → site_at past.now node ≡ Some site → IsNodeOfRun policy past node site
  of_run site found = runs_have_nodes policy topology before addresses run node site found

  requests_read : RequestsAreRead past.now node
  requests_read site found =
      let n : IsNodeOfRun policy past node site = of_run site found in
      every_map2 (λ (s : Standing). s.number < site.controller.desk.next) (λ (s : Standing). IsShaped (setups_of site.controller) s.request) (λ (s : Standing). IsReadable (message_at site.controller.desk s))
      site.controller.desk.standing
      (λ s below shaped. are_read (setups_of site.controller) n.ports.links site.controller.desk.rows (world.ready node site found).rows s.number s.request (omega (arith, below, n.conduct.sound.desk.room)) shaped)
      n.conduct.sound.desk.below (world.shapes node site found).standing

  answer_read : AnswerIsRead past.now node
  answer_read site cell cells message notes found queue on under request =
      let n : IsNodeOfRun policy past node site = of_run site found in
      let to : IsToSwitch (setups_of site.controller) message = has_said policy past node site found n (world.ready node site found) (world.shapes node site found) marks_are_read world.made cell message
      (subst (λ (q : List Cell). Contains q cell) (sym queue ∙ queue_of_site past.now node site (Down node) found) (zero, omega arith, refl)) on under in
      answer_reads site.switch notes (steady_site policy past node site found n (world.ready node site found) (world.shapes node site found)).ports message to.fits to.said
      (λ x copy. shaped_asked (setups_of site.controller) x.request (to.shaped x copy)) request

pub runs_are_read : RunsAreRead
runs_are_read policy topology before addresses run world node = (requests_read policy topology before addresses run world node, answer_read policy topology before addresses run world node)
