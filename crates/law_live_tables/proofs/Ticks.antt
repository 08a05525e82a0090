-- a port of a network goes by its table at its node's tick

use Rattle.std.proofs.Common.{◌≡◌, ◌≢◌, ℕ, ◌≤◌, ◌<◌, List, [], ◌++◌, append-nil, length, Option, Some, refl, sym, ◌∙◌, ap, subst, arith}
use Rattle.std.specs.Prelude.{drop}
use Rattle.std.specs.Option.{option_map_or}
use Rattle.std.proofs.Math.Seq.{drop-append_seam}
use Rattle.std.proofs.lemmas.List.{append_cancel_left}
use Rattle.world_model.specs.Words.{NodeId, Down, Cell, Clearing, Frame, Journal, Peer, Said, Side, Step, Answer, Quiet, Send, Open, fresh, ticked, default_home, Setup, Linked, port_key, controller_acts, queue_in, queue_at, put_away, Topology, World, Site, site_key, site_at, at, next, past_of}
use Rattle.world_model.specs.adjacency_table.declared.message.Answer.TheVariants.{Reset}
use Rattle.world_model.specs.Controller.{Acted}
use Rattle.world_model.specs.Ticks.{ticks}
use Rattle.world_model.specs.network_model.declared.link.LinkEnd.{LinkEnd}
use Rattle.world_model.specs.network_model.declared.event.Event.TheVariants.{Tick}
use Rattle.world_model.proofs.Lists.{at_key, at_put_same}
use Rattle.law_live_waking_links.specs.law_port_facts.ordered_lists.Ordered.{Every, InOrder}
use Rattle.law_live_waking_links.proofs.law_port_facts.ordered_lists.InOrder.{order_unmapped}
use Rattle.law_live_waking_links.proofs.law_port_facts.Keyed.{at_every}
use Rattle.law_live_waking_links.proofs.law_run_facts.Nodes.{runs_have_nodes}
use Rattle.law_live_waking_links.proofs.law_passing.Controllers.{ticks_adds}
use Rattle.law_live_waking_links.specs.law_live_meetings.Exchange.{side_after, said_in}
use Rattle.law_live_waking_links.specs.law_live_worlds.Law.{Shows}
use Rattle.law_live_saying.specs.Law.{ticking}
use Rattle.law_live_waking_links.specs.law_live_orders.Law.{last_marks}
use Rattle.law_live_sending.proofs.Going.{Sends}
use Rattle.law_live_waking_links.specs.Hellos.{Greet}
use Rattle.law_live_waking_links.specs.Law.{LeavesEnd, TakesStep}
use Rattle.law_live_tables.specs.Law.{IsOrderly, RunsAreOrderly, TicksInPeace, TicksGoByTable}
use Rattle.law_live_tables.proofs.Ticking.{IsAnew, Hellos, Outcome, by_table, began, TickDone, ticks_done}
use Rattle.law_live_tables.proofs.Greeting.{said_greets, ticked_own_words}

module _ (topology : Topology) (w : World) (end : LinkEnd) (some : 1 ≤ end.port.0) (orderly : IsOrderly w end) (peace : TicksInPeace topology w end) (linked : Linked) (shows : Shows w end linked) where
  abbrev node : NodeId
  node = end.node

  abbrev site : Site
  site = shows.site

  abbrev v : World
  v = next topology w (Tick end.node)

  abbrev a : Acted
  a = ticking w shows.site

  abbrev c : Acted
  c = ticks (ticking w shows.site)

  abbrev new : Site
  new = record shows.site { controller = (ticks (ticking w shows.site)).controller }

  key : site_key new ≡ node.0
  key = ap (λ (n : NodeId). n.0) (ticks_adds a).node ∙ at_key site_key node.0 w.sites site shows.there

  there : site_at v node ≡ Some new
  there = ap (λ (o : Option Site). at site_key node.0 (controller_acts (put_away w) o ticks).sites) shows.there ∙ found
    where
      found : at site_key node.0 (controller_acts (put_away w) (Some shows.site) ticks).sites ≡ Some new
      found = subst (λ (k : ℕ). at site_key k (controller_acts (put_away w) (Some shows.site) ticks).sites ≡ Some new) key
          (at_put_same site_key new w.sites site (subst (λ (k : ℕ). at site_key k w.sites ≡ Some site) (sym key) shows.there))

  queue_then : queue_at v (Down node) ≡ c.controller.queue
  queue_then = ap (λ (o : Option Site). option_map_or (λ s. queue_in s (Down node)) o []) there

  queue_now : queue_at w (Down node) ≡ site.controller.queue
  queue_now = ap (λ (o : Option Site). option_map_or (λ s. queue_in s (Down node)) o []) shows.there

  notes_then : {A : Type 0} (part : Journal → A) → part v.notes ≡ part c.notes
  notes_then part = ap (λ (o : Option Site). part (controller_acts (put_away w) o ticks).notes) shows.there

  put_is : (more : List Cell) → c.controller.queue ≡ site.controller.queue ++ more → drop (length (queue_at w (Down node))) (queue_at v (Down node)) ≡ more
  put_is more is = ap (λ (q : List Cell). drop (length (queue_at w (Down node))) q) (queue_then ∙ (is ∙ ap (λ (q : List Cell). q ++ more) (sym queue_now)))
      ∙ drop-append_seam (queue_at w (Down node)) more

  done : TickDone end.port some a c linked
  done = ticks_done end.port some a linked shows.of_port (orderly.apart site shows.there) (peace.up new there)

  unlost : done.goes.entries ≡ []
  unlost = append_cancel_left w.notes.entries done.goes.entries []
      (sym done.goes.grown ∙ (sym (notes_then (λ (n : Journal). n.entries)) ∙ (peace.unlost ∙ sym (append-nil w.notes.entries))))

  sends : Sends (default_home end.port).channel a c done.messages
  sends = done.goes.sends unlost

  greets : (said : List (Said Peer)) → Hellos done.messages said → Every (λ (m : Said Peer). m.sender.address ≡ site.controller.address) said
      → Greet site.controller.address v.notes.frames (last_marks (default_home end.port).channel (drop (length (queue_at w (Down node))) (queue_at v (Down node)))) said
  greets said h each = subst (λ (cells : List Cell). Greet site.controller.address v.notes.frames (last_marks (default_home end.port).channel cells) said) (sym (put_is sends.more sends.queue))
      (subst (λ (frames : List Frame). Greet site.controller.address frames (last_marks (default_home end.port).channel sends.more) said) (sym (notes_then (λ (n : Journal). n.frames)))
      (said_greets site.controller.address c.notes.frames (last_marks (default_home end.port).channel sends.more) done.messages said sends.said h each))

  leaves : (side : Side Peer) (said : List (Said Peer)) → done.now.port.adjacency ≡ side → Hellos done.messages said → Every (λ (m : Said Peer). m.sender.address ≡ site.controller.address) said
      → LeavesEnd topology w (Tick end.node) end site.controller.address side said
  leaves side said has h each = record {
    linked = done.now;
    shows = record { site = new; there = there; of_port = done.is; address = peace.address new done.now there done.is };
    goes_by = done.goes.address;
    has = has;
    says = greets said h each;
  }

  abbrev step : Step Peer
  step = ticked linked.port.adjacency

  own_words : Every (λ (m : Said Peer). m.sender.address ≡ site.controller.address) (said_in (ticked linked.port.adjacency).answer)
  own_words = ticked_own_words site.controller.address linked.port.adjacency shows.address

  -- *It began anew* only where the table resets it
  anew_steps : IsAnew w.numbers.instances done.now.port.adjacency → ((ticked linked.port.adjacency).answer ≡ Reset → Hellos done.messages []) → TakesStep topology w (Tick end.node) end site.controller.address (ticked linked.port.adjacency)
  anew_steps is h = by step.answer refl
    where
      kept : (ticked linked.port.adjacency).answer ≢ Reset → ⊥
      kept other =
          let same : done.now.port.adjacency.own ≡ linked.port.adjacency.own = peace.keeps linked done.now new shows other there done.is in
          let anew : done.now.port.adjacency.own ≡ is.0 = ap (λ (s : Side Peer). s.own) is.2 in
          let one : is.0.instance.0 ≡ linked.port.adjacency.own.instance.0 = ap (λ (p : Peer). p.instance.0) (sym anew ∙ same) in
          too_low w.numbers.instances is.0.instance.0 linked.port.adjacency.own.instance.0 is.1 one (orderly.drawn linked shows)
        where
          too_low : (n k m : ℕ) → n < k → k ≡ m → m ≤ n → ⊥
          too_low n k m less same most = absurd (omega (arith, less, same, most))

      by : (answer : Answer (Said Peer) Peer) → step.answer ≡ answer → TakesStep topology w (Tick end.node) end site.controller.address (ticked linked.port.adjacency)
      by Reset e = record {
        drawn = is.0;
        leaves = leaves (side_after (fresh Clearing is.0) step.answer step.side) (said_in step.answer) (is.2 ∙ sym (ap (λ (x : Answer (Said Peer) Peer). side_after (fresh Clearing is.0) x step.side) e))
            (subst (Hellos done.messages) (sym (ap said_in e)) (h e)) own_words;
      }
      by Quiet e = absurd (kept (λ r. cc (sym e ∙ r)))
      by (Send m) e = absurd (kept (λ r. cc (sym e ∙ r)))
      by (Open m own) e = absurd (kept (λ r. cc (sym e ∙ r)))

  steps_so : Outcome end.port some w.numbers.instances done.messages (ticked linked.port.adjacency) done.now.port.adjacency → TakesStep topology w (Tick end.node) end site.controller.address (ticked linked.port.adjacency)
  steps_so (by_table drawn is h) = record { drawn = drawn; leaves = leaves (side_after (fresh Clearing drawn) step.answer step.side) (said_in step.answer) is h own_words }
  steps_so (began is h) = anew_steps is h

pub ticks_go_by_table : TicksGoByTable
ticks_go_by_table topology w end link orderly peace linked shows =
    steps_so topology w end link.0 orderly peace linked shows (done topology w end link.0 orderly peace linked shows).outcome

-- *In a run* nodes are orderly
pub runs_are_orderly : RunsAreOrderly
runs_are_orderly policy topology events addresses run world end = record {
  apart = λ site found. (let sound = (runs_have_nodes policy topology events addresses run end.node site found).conduct.sound in
      order_unmapped (λ (l : Linked). l.setup) (λ (x y : Setup). x.port.0 ≢ y.port.0) site.controller.ports (subst (InOrder (λ (x y : Setup). x.port.0 ≢ y.port.0)) (sym sound.ports.same) sound.ports.apart));
  drawn = λ linked shows. at_every port_key (λ (l : Linked). l.port.adjacency.own.instance.0 ≤ (past_of policy topology events).now.numbers.instances) end.port.0
      shows.site.controller.ports linked (world.numbers.ports end.node shows.site shows.there) shows.of_port;
}
