-- a tick of a controller, whole: the adjacency with its switch, the requests that stand, each port, joins

use Rattle.std.proofs.Common.{◌≡◌, Bool, true, false, flat_map, Option, None, Some, refl, if◌then◌else◌}
use Rattle.law_input_views.specs.world_model.Words.{End, NodeId, Party, number_of_channel, Answer, Quiet, Send, Open, Said, ticked, MoveBranch, home_of, Label, Switch, join_for, may_join, enters_grant, enters_label, joins, tries_label, label_on, tries_join, inputs_at, tries_joins, ticks_port, ticks_by}
use Rattle.law_input_views.specs.world_model.adjacency_table.declared.message.Answer.TheVariants.{Reset}
use Rattle.law_input_views.specs.world_model.port_model.Joins as port_joins
use Rattle.law_input_views.specs.world_model.port_model.Ticks as port_ticks
use Rattle.law_input_views.specs.world_model.Controller.{Acted, ports_of}
use Rattle.law_input_views.specs.world_model.Joins.{Join, output_joined}
use Rattle.law_input_views.specs.world_model.Ticks.{ticks}
use Rattle.law_input_steps.specs.Part.{part_at, Leads}
use Rattle.law_input_steps.specs.Ticks.{CanTickPort, CanJoin, CanJoinLabel, CanTryJoin, after_steps, after_again, after_ports, CanTick}
use Rattle.law_input_steps.proofs.Reach.{leads_self, leads_then}
use Rattle.law_input_steps.proofs.Resets.{node_resets_leads}
use Rattle.law_input_steps.proofs.Again.{sends_again_leads}
use Rattle.law_input_steps.proofs.Greeted.{steps_tick_leads}
use Rattle.law_input_steps.proofs.Acts.{each_leads, asks_acted, at_port_leads}

module _ (node : NodeId) (input : End) (switch : Switch) where
  abbrev Goes : Acted → Acted → Type 0
  Goes a b = Leads node input (part_at input switch a) (part_at input switch b)

  follow : (a b c : Acted) → Goes a b → Goes b c → Goes a c
  follow a b c f g = leads_then node input (part_at input switch a) (part_at input switch b) (part_at input switch c) f g

  stay : (a : Acted) → Goes a a
  stay a = leads_self node input (part_at input switch a)

  -- *A join*
  joins_leads : (a : Acted) (o : Option Join) → CanJoin input a o → Goes a (joins a o)
  joins_leads a None can = stay a
  joins_leads a (Some join) can =
      let b : Acted = enters_grant a join in
      let c : Acted = enters_label b join in
      follow a b (joins a (Some join)) (at_port_leads node input switch a join.port (λ setup desk w. port_joins.lent w join.grant join.input) can.grant)
      (follow b c (joins a (Some join))
      (at_port_leads node input switch b join.input.port (λ setup desk w. port_joins.joined w (number_of_channel join.input.channel) (output_joined join)) can.label)
      (asks_acted node input switch c (MoveBranch join.input (home_of join.input) (output_joined join)) can.asks))

  label_leads : (a : Acted) (joined : End) (o : Option Label) → CanJoinLabel input a joined o → Goes a (tries_label a joined o)
  label_leads a joined None can = stay a
  label_leads a joined (Some label) can = by (may_join a.controller joined label) refl
    where
      by : (t : Bool) → may_join a.controller joined label ≡ t → Goes a (if t then joins a (join_for a.controller joined label.flow) else a)
      by true t = joins_leads a (join_for a.controller joined label.flow) (can t)
      by false t = stay a

  -- *The tick*
  going : (a : Acted) → CanTick input a → Goes a (tries_joins (after_ports a))
  going a can =
      follow a (after_steps a) (tries_joins (after_ports a)) (steps_tick_leads node input switch a can.reads)
      (follow (after_steps a) (after_again a) (tries_joins (after_ports a)) (sends_again_leads node input switch (after_steps a) can.again)
      (follow (after_again a) (after_ports a) (tries_joins (after_ports a))
      (each_leads node input switch ticks_port (CanTickPort input) (λ b port can. at_port_leads node input switch b port port_ticks.ticks can) (ports_of (after_again a).controller) (after_again a) can.ports)
      (each_leads node input switch tries_join (CanTryJoin input) (λ b joined can. label_leads b joined (label_on b.controller joined) can) (flat_map inputs_at (after_ports a).controller.ports) (after_ports a) can.joins)))

  by_answer : (a : Acted) (o : Answer (Said Party) Party) → CanTick input a → Goes a (ticks_by a (ticked a.controller.adjacency) o)
  by_answer a Reset can = node_resets_leads node input switch a
  by_answer a Quiet can = going a can
  by_answer a (Send m) can = going a can
  by_answer a (Open m key) can = going a can

  pub ticks_leads : (a : Acted) → CanTick input a → Goes a (ticks a)
  ticks_leads a can = by_answer a (ticked a.controller.adjacency).answer can
