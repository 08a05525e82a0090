-- what is brought on the GSMP channel: what is for others, or the success of the branch of a label, whose REDIRECT is said

use Rattle.std.proofs.Common.{◌≡◌, ◌⊎◌, inl, inr, ℕ, true, List, [], ◌∷◌, ◌++◌, Some, Result, Ok, Err, refl, sym, subst}
use Rattle.world_model.specs.Words.{Addr, Policy, Up, Channel, Cell, payload_of, nothing_taken, default_channel, labels_of, label_channel_of, Linked, ForGsmp, taker_of, with_reassembly, gsmp_holds, Topology, World, Site, queue_at, next, Bad, gsmp_refusal}
use Rattle.world_model.specs.Controller.{Acted}
use Rattle.world_model.specs.Cells.{cell_comes}
use Rattle.world_model.specs.Gsmp.{message_comes}
use Rattle.world_model.specs.gsmp_wire.Fields.{decoded}
use Rattle.world_model.specs.gsmp_wire.declared.fault.Fault.{Fault}
use Rattle.world_model.specs.gsmp_wire.declared.message.Message.{Message as GsmpMessage}
use Rattle.world_model.specs.ifmp_wire.declared.message.Message.{Message}
use Rattle.world_model.specs.link_model.declared.record.Layer.TheVariants as layers
use Rattle.world_model.specs.network_model.declared.link.LinkEnd.{LinkEnd}
use Rattle.world_model.specs.network_model.declared.event.Event.{Event}
use Rattle.world_model.specs.network_model.declared.event.Event.TheVariants.{Carry}
use Rattle.law_live_binding_beats.specs.law_port_facts.ordered_lists.Ordered.{Every}
use Rattle.law_live_binding_beats.specs.law_run_facts.law_world_views.Between.{setups_of}
use Rattle.law_live_binding_beats.proofs.law_run_facts.Takers.{gsmp_of}
use Rattle.law_live_binding_beats.specs.law_live_hearing.Law.{world_at, acting, Hears}
use Rattle.law_live_binding_beats.specs.law_live_links.Law.{EndOfLink, number_of, expected_of, LeadOn}
use Rattle.law_live_binding_beats.specs.law_live_worlds.Law.{end_of}
use Rattle.law_live_binding_beats.specs.law_live_arrivals.Law.{PortHears}
use Rattle.law_live_binding_beats.proofs.law_live_ports.Keeping.{alike_itself}
use Rattle.law_live_binding_beats.proofs.law_live_orders.Marks.{channel_is}
use Rattle.law_live_binding_beats.specs.law_live_control.Calm.{IsCalmUp}
use Rattle.law_live_binding_beats.proofs.law_live_control_links.Heard.{nothing_else_is_heard}
use Rattle.law_live_binding_beats.specs.law_live_bindings.Law.{AreBinding, label_branch, told_of, HasRoomFor}
use Rattle.law_live_binding_beats.specs.law_live_bound.Worlds.{BindIn, SwitchSays}
use Rattle.law_live_binding_beats.proofs.law_live_bound.Worlds.{hearings_keep_binding, offers_are_made}
use Rattle.law_live_binding_beats.specs.Law.{BindByQueues, offers}
use Rattle.law_live_binding_beats.proofs.Shown.{same_shown}
use Rattle.law_live_brought.specs.Law.{IsQuietNode, IsLabelMade}
use Rattle.law_live_brought.proofs.Saying.{Runs, runs_then, runs_same, note_runs}
use Rattle.law_live_brought.proofs.Telling.{IsForOthers, calm_told}
use Rattle.law_live_brought.proofs.Whole.{acted}
use Rattle.law_live_brought.proofs.Offers.{said_at, offers_are_said}
use Rattle.law_live_brought.proofs.Written.{offer_written, lead_apart}
use Rattle.law_live_brought.proofs.Moment.{Brings, found, of_port, link_port, apart, counted, of_run, same_site, met, quiet, left, asks, clear, stays_up, Outcome, quietly}
use Rattle.law_live_brought.proofs.Ending.{LastCell, its_payload, its_made, its_hearing, alike_now}

module _ {policy : Policy} {topology : Topology} {before : List Event} {one far : LinkEnd} {ends : BindByQueues (world_at policy topology before) one far}
    {moment : Brings policy topology before ends} (c : LastCell moment) where
  abbrev w : World
  w = world_at policy topology before

  abbrev v : World
  v = next topology w (Carry (Up one.node))

  abbrev site : Site
  site = ends.bind.shows.site

  abbrev linked : Linked
  linked = ends.bind.linked

  abbrev other : EndOfLink
  other = end_of ends.bind.far_linked ends.far_said

  abbrev cell : Cell
  cell = c.cell

  abbrev cells : List Cell
  cells = c.cells

  queue : queue_at w (Up one.node) ≡ cell ∷ cells
  queue = c.queue

  last : cell.header.last ≡ true
  last = c.last

  abbrev payload : List ℕ
  payload = its_payload c

  made : payload_of w.notes.frames cell.mark ≡ Some payload
  made = its_made c

  heard : Hears topology w one.node cell.header.channel cell.mark payload
  heard = its_hearing c

  module _ (takes : taker_of site.controller cell.header.channel ≡ Some ForGsmp) where
    abbrev g : Acted
    g = with_reassembly (acting w site) ForGsmp nothing_taken

    on : cell.header.channel ≡ default_channel
    on = channel_is cell.header.channel default_channel (gsmp_of site.controller cell.header.channel takes)

    heard_there : Hears topology w one.node default_channel cell.mark payload
    heard_there = subst (λ (c : Channel). Hears topology w one.node c cell.mark payload) on heard

    comes_as : cell_comes (acting w site) cell ≡ gsmp_holds g (decoded payload)
    comes_as = acted topology w one.node site (found moment) cell cells queue last payload made (counted moment) (moment.unlost cell cells queue) ForGsmp takes

    quiet_there : IsQuietNode g
    quiet_there = record { up = (quiet moment).up; none_waits = (quiet moment).none_waits; numbers = (quiet moment).numbers }

    for_others : IsForOthers one.port (link_port moment) g (gsmp_holds g (decoded payload)) → Outcome moment
    for_others o = quietly moment
        (record {
          put = said_at topology w one (link_port moment).0 site (found moment) cell cells queue moment.same []
              (subst (λ (c : Acted). Runs one.port (link_port moment).0 (acting w site) c []) (sym comes_as)
              (runs_then one.port (link_port moment).0 (acting w site) g (gsmp_holds g (decoded payload)) [] []
              (runs_same one.port (link_port moment).0 (acting w site) g refl refl refl refl refl (record { state = refl; waiting = refl })) o.runs));
          written = tt;
        })
        (λ none. alike_now c ForGsmp takes o.left)

    module _ (message : GsmpMessage) (read : decoded payload ≡ Ok message) where
      module _ (m : IsLabelMade g linked message) where
        says : SwitchSays topology w one.node site (label_branch linked.setup m.label.number)
        says = record {
          mark = cell.mark;
          payload = payload;
          hears = heard_there;
          message = message;
          holds = read;
          success = record { standing = m.success.standing; is = m.success.is; of_request = m.success.of_request };
        }

        abbrev told : Message
        told = told_of (end_of linked []) other m.label

        offered : BindIn v one far (ends.said ++ told ∷ []) ends.far_said
        offered = offers_are_made topology w one far m.label ends.said ends.far_said (apart moment) ends.bind says m.held m.wiring (left moment) (stays_up moment)

        -- nothing else is heard then: a REDIRECT more was said
        never : (first : Message) (rest : List Message) → other.said ≡ first ∷ rest → PortHears topology w one other.port.adjacency.own.address first → ⊥
        never first rest are hears = lead_apart linked_now.port.adjacency.own far_now.port.adjacency.own linked_now.setup.timers (labels_of linked_now.port)
            linked.port.adjacency.own.instance ends.bind.far_linked.port.adjacency.own.instance (number_of linked.port) linked.setup.timers.lifetime (label_channel_of m.label.number) m.label.flow
            (expected_of far_now.port) (number_of linked_now.port) ends.said hearing.binding.there.numbers
            (subst (λ (l : Linked). LeadOn l.port.adjacency.own far_now.port.adjacency.own l.setup.timers (labels_of l.port) (expected_of far_now.port) (number_of l.port) (ends.said ++ told ∷ [])) same_now
            (subst (λ (f : Linked). LeadOn offered.linked.port.adjacency.own f.port.adjacency.own offered.linked.setup.timers (labels_of offered.linked.port) (expected_of f.port)
            (number_of offered.linked.port) (ends.said ++ told ∷ [])) same_far offered.binding.there.numbers))
          where
            to_hear : BindIn w one far ends.said (first ∷ rest)
            to_hear = record {
              linked = linked;
              far_linked = ends.bind.far_linked;
              shows = ends.bind.shows;
              far_shows = ends.bind.far_shows;
              binding = subst (λ (ms : List Message). AreBinding (end_of linked ends.said) (end_of ends.bind.far_linked ms)) are ends.bind.binding;
            }

            hearing : BindIn v one far ends.said rest
            hearing = hearings_keep_binding topology w one far first ends.said rest (apart moment) to_hear
                (subst (λ (from : Addr). PortHears topology w one from first) ends.bind.far_shows.address hears)
                (subst (Every (HasRoomFor site.controller.desk w.numbers.instances (end_of linked []))) are moment.may.room).0 (stays_up moment)

            linked_now : Linked
            linked_now = hearing.linked

            far_now : Linked
            far_now = hearing.far_linked

            same_now : offered.linked ≡ linked_now
            same_now = same_shown v one offered.linked linked_now offered.shows hearing.shows

            same_far : offered.far_linked ≡ far_now
            same_far = same_shown v far offered.far_linked far_now offered.far_shows hearing.far_shows

        offer_comes : Outcome moment
        offer_comes = record {
          messages = told ∷ [];
          says = record {
            put = offers_are_said topology w one far m.label ends.said ends.far_said (link_port moment) ends.bind (quiet moment) says m.held m.wiring (counted moment) moment.unlost moment.same;
            written = (
              offer_written (setups_of site.controller) site.controller (moment.world.ready one.node site (found moment)).controller (of_run moment).ports.ranged one.port linked (of_port moment)
                  ends.said other ends.bind.binding m.label m.held (left moment),
              tt,
            );
          };
          does = λ none. offers m.label (record { says = says; held = m.held; wiring = m.wiring; number_left = left moment; up = stays_up moment });
          silent = λ first rest are hears. absurd (never first rest are hears);
        }

      calm : IsCalmUp site.controller.adjacency.own site.switch.adjacency.own message
      calm = subst (λ (s : Site). IsCalmUp s.controller.adjacency.own s.switch.adjacency.own message) (same_site moment)
          (nothing_else_is_heard.up topology w one.node cell.mark payload message moment.node.link (counted moment) heard_there read)

      by_told : IsForOthers one.port (link_port moment) g (message_comes g message) ⊎ IsLabelMade g linked message → Outcome moment
      by_told (inl others) = for_others (subst (λ (r : Result GsmpMessage Fault). IsForOthers one.port (link_port moment) g (gsmp_holds g r)) (sym read) others)
      by_told (inr m) = offer_comes m

      told_calmly : Outcome moment
      told_calmly = by_told (calm_told (setups_of site.controller) g one.port linked site.switch.adjacency (link_port moment) quiet_there (met moment) (of_port moment) (clear moment) (asks moment) message calm)

    by_read : (r : Result GsmpMessage Fault) → decoded payload ≡ r → Outcome moment
    by_read (Ok message) read = told_calmly message read
    by_read (Err fault) read = for_others (subst (λ (r : Result GsmpMessage Fault). IsForOthers one.port (link_port moment) g (gsmp_holds g r)) (sym read) refused)
      where
        refused : IsForOthers one.port (link_port moment) g (gsmp_holds g (Err fault))
        refused = record {
          left = record {
            left = λ l found_there. record { after = l; there = found_there; setup = refl; alike = alike_itself l.port };
            address = refl;
          };
          runs = note_runs one.port (link_port moment).0 g (Bad g.controller.node layers.Gsmp (gsmp_refusal fault));
        }

    pub gsmp_comes : Outcome moment
    gsmp_comes = by_read (decoded payload) refl
