-- A network in a run: at each node a controller and its switch

use Rattle.std.specs.Prelude.{ℕ, suc, min, ◌+◌, List, [], ◌∷◌, ◌++◌, Option, None, Some, option_map}
use Rattle.std.specs.List.{sum_by}
use Rattle.net_types.specs.declared.node.NodeId.{NodeId}
use Rattle.net_types.specs.Number.{GivenOut, next_instance, with_instance}
use Rattle.switch_model.specs.link_model.declared.record.Record.{Record}
use Rattle.switch_model.specs.link_model.declared.record.Record.TheVariants.{Delivered, Dropped, Refused, Loss, Chance}
use Rattle.switch_model.specs.link_model.Notes.{Journal}
use Rattle.controller_model.specs.keyed_lists.Keyed.{at, put}
use Rattle.controller_model.specs.port_model.Setup.{Policy}
use Rattle.controller_model.specs.port_model.Redirection.{greatest_tally}
use Rattle.switch_model.specs.Switch as switches
use Rattle.switch_model.specs.Switch.{Switch}
use Rattle.controller_model.specs.Controller as controllers
use Rattle.controller_model.specs.Controller.{Controller, redirects_of}
use Rattle.controller_model.specs.Opening.{opened as opened_controller, after_opening}
use Rattle.network_model.specs.Topology.{Topology, Node, linked_ports, ranges_of, vpis_of, timers_of}

pub record Site : Type 0 where
  pub controller : Controller
  pub switch : Switch

-- how many records of these five kinds there were; each stays at the greatest number of its type
pub record Tally : Type 0 where
  pub delivered : ℕ
  pub dropped : ℕ
  pub refused : ℕ
  pub losses : ℕ
  pub chance : ℕ

abbrev pub no_tally : Tally
no_tally = record { delivered = 0; dropped = 0; refused = 0; losses = 0; chance = 0 }

-- the nodes in order; the notes of the run; the numbers that it has given out; how many packets were to be
-- sent, how many events there were, and the tally of their records
pub record World : Type 0 where
  pub sites : List Site
  pub notes : Journal
  pub numbers : GivenOut
  pub sent : ℕ
  pub events : ℕ
  pub tally : Tally

-- *Look-ups and changes*
abbrev pub site_key : Site → ℕ
site_key site = site.controller.node.0

abbrev pub site_at : World → NodeId → Option Site
site_at w node = at site_key node.0 w.sites

abbrev pub controller_at : World → NodeId → Option Controller
controller_at w node = option_map (λ site. site.controller) (site_at w node)

abbrev pub with_site : World → Site → World
with_site w site = record w { sites = put site_key site w.sites }

-- *An actor acts*, and is put back
abbrev pub controller_acts : World → Option Site → (controllers.Acted → controllers.Acted) → World
controller_acts w None act = w
controller_acts w (Some site) act =
    let a = act (record { controller = site.controller; notes = w.notes; numbers = w.numbers }) in
    record (with_site w (record site { controller = a.controller })) { notes = a.notes; numbers = a.numbers }

abbrev pub at_controller : World → NodeId → (controllers.Acted → controllers.Acted) → World
at_controller w node act = controller_acts w (site_at w node) act

abbrev pub switch_acts : World → Option Site → (switches.ActedSwitch → switches.ActedSwitch) → World
switch_acts w None act = w
switch_acts w (Some site) act =
    let a = act (record { switch = site.switch; notes = w.notes; numbers = w.numbers }) in
    record (with_site w (record site { switch = a.switch })) { notes = a.notes; numbers = a.numbers }

abbrev pub at_switch : World → NodeId → (switches.ActedSwitch → switches.ActedSwitch) → World
at_switch w node act = switch_acts w (site_at w node) act

-- *Opening*: instances are drawn node by node, the controller's first
abbrev pub opened_site : Policy → Topology → NodeId → Node → GivenOut → Site
opened_site policy topology number node numbers = record {
  controller =
      opened_controller number node.address node.routes (ranges_of topology number node) node.cells (timers_of topology)
      policy numbers;
  switch =
      switches.opened number (linked_ports topology number) node.cells (vpis_of topology)
      (next_instance (after_opening (ranges_of topology number node) numbers));
}

abbrev pub numbers_after : Topology → NodeId → Node → GivenOut → GivenOut
numbers_after topology number node numbers = with_instance (after_opening (ranges_of topology number node) numbers)

abbrev pub with_opened : Policy → Topology → World → (place : ℕ) → Node → World
with_opened policy topology w place node =
    let number : NodeId = record { 0 = place } in
    record w {
      sites = w.sites ++ opened_site policy topology number node w.numbers ∷ [];
      numbers = numbers_after topology number node w.numbers;
    }

abbrev pub opens_each : Policy → Topology → World → (place : ℕ) → List Node → World
opens_each policy topology w place [] = w
opens_each policy topology w place (node ∷ nodes) =
    opens_each policy topology (with_opened policy topology w place node) (suc place) nodes

abbrev pub empty_world : World
empty_world = record {
  sites = [];
  notes = record { records = []; entries = []; frames = [] };
  numbers = record { instances = 0; controls = 0 };
  sent = 0;
  events = 0;
  tally = no_tally;
}

abbrev pub opened : Policy → Topology → World
opened policy topology = opens_each policy topology empty_world 1 topology.nodes

-- *The numbers of the end line*: REDIRECTs accepted, and cells switched from link to link, are counted by the
-- actors
pub record Counts : Type 0 where
  pub sent : ℕ
  pub delivered : ℕ
  pub dropped : ℕ
  pub refused : ℕ
  pub losses : ℕ
  pub redirects : ℕ
  pub switched : ℕ
  pub chance : ℕ

abbrev pub redirects_at : Site → ℕ
redirects_at site = redirects_of site.controller

abbrev pub switched_count : Site → ℕ
switched_count site = site.switch.switched

abbrev pub counts_of : World → Counts
counts_of w = record {
  sent = w.sent;
  delivered = w.tally.delivered;
  dropped = w.tally.dropped;
  refused = w.tally.refused;
  losses = w.tally.losses;
  redirects = min greatest_tally (sum_by redirects_at w.sites);
  switched = min greatest_tally (sum_by switched_count w.sites);
  chance = w.tally.chance;
}

abbrev pub one_more : ℕ → ℕ
one_more n = min greatest_tally (n + 1)

abbrev pub one_tallied : Tally → Record → Tally
one_tallied t (Delivered node packet octets) = record t { delivered = one_more t.delivered }
one_tallied t (Dropped node packet cause) = record t { dropped = one_more t.dropped }
one_tallied t (Refused node packet name) = record t { refused = one_more t.refused }
one_tallied t (Loss mark cause) = record t { losses = one_more t.losses }
one_tallied t (Chance mark) = record t { chance = one_more t.chance }
one_tallied t item = t
