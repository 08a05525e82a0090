-- What a carry does by which a port hears a message

use Rattle.std.specs.Prelude.{◌≡◌, drop, Some}
use Rattle.world_model.specs.Words.{Addr, Up, nothing_taken, with_reassembly, ForDefault, Linked, linked_at, at_port, hears, Topology, World, Site, site_at, queue_at, with_queue_in, put_away, next}
use Rattle.world_model.specs.ifmp_wire.declared.message.Message.{Message}
use Rattle.world_model.specs.Controller.{Acted}
use Rattle.world_model.specs.network_model.declared.link.LinkEnd.{LinkEnd}
use Rattle.world_model.specs.network_model.declared.event.Event.TheVariants.{Carry}

-- *A port hears a message*, from this source, as a carry to its controller ends the chain of its default channel: the chain is
-- taken, and the port does what such a message makes it do
abbrev pub acting : World → Site → Acted
acting w site = record { controller = site.controller; notes = (put_away w).notes; numbers = w.numbers }

pub record PortHears (topology : Topology) (w : World) (far : LinkEnd) (source : Addr) (message : Message) : Type 0 where
  pub site : Site
  pub there : site_at w far.node ≡ Some site
  pub linked : Linked
  pub of_port : linked_at site.controller far.port ≡ Some linked
  pub acts : site_at (next topology w (Carry (Up far.node))) far.node
      ≡ Some (record (with_queue_in site (Up far.node) (drop 1 (queue_at w (Up far.node)))) {
        controller = (at_port (with_reassembly (acting w site) (ForDefault linked) nothing_taken) linked.setup.port (λ setup desk v. hears setup desk v source message)).controller;
      })
