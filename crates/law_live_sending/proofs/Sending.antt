-- what a tick puts into the queue of its controller is what the controller sends

use Rattle.std.proofs.Common.{◌≡◌, ℕ, List, [], ◌++◌, append-nil, length, Option, Some, sym, ◌∙◌, ap, subst}
use Rattle.std.specs.Prelude.{drop}
use Rattle.std.specs.Option.{option_map_or}
use Rattle.std.proofs.Math.Seq.{drop-append_seam}
use Rattle.std.proofs.lemmas.List.{append_cancel_left}
use Rattle.world_model.specs.Words.{NodeId, Down, Channel, Cell, Frame, Journal, default_home, Topology, World, Site, site_key, site_at, at, controller_acts, queue_in, queue_at, put_away, next}
use Rattle.world_model.specs.Controller.{Acted}
use Rattle.world_model.specs.Ticks.{ticks}
use Rattle.world_model.specs.network_model.declared.event.Event.TheVariants.{Tick}
use Rattle.world_model.proofs.Lists.{at_key}
use Rattle.law_passing.proofs.Controllers.{ticks_adds}
use Rattle.law_passing.proofs.Queues.{waits, now_at}
use Rattle.law_live_nodes.specs.Law.{messages_of}
use Rattle.law_live_nodes.proofs.Ports.{nodes_tick_on}
use Rattle.law_live_saying.specs.Law.{ticking}
use Rattle.law_live_orders.specs.Law.{last_marks}
use Rattle.law_live_orders.specs.Messages.{AreSaid}
use Rattle.law_live_sending.specs.Law.{TicksSendWhatPortsSay}
use Rattle.law_live_sending.proofs.Going.{Sends, Goes}
use Rattle.law_live_sending.proofs.Ticking.{tick_goes}

module _ (topology : Topology) (w : World) (node : NodeId) (site : Site) (found : site_at w node ≡ Some site) where
  abbrev a : Acted
  a = ticking w site

  abbrev new : Site
  new = record site { controller = (ticks a).controller }

  key : site_key new ≡ node.0
  key = ap (λ (n : NodeId). n.0) (ticks_adds a).node ∙ at_key site_key node.0 w.sites site found

  queue_then : queue_at (next topology w (Tick node)) (Down node) ≡ (ticks a).controller.queue
  queue_then = ap (λ (o : Option Site). waits (controller_acts (put_away w) o ticks).sites (Down node)) found
      ∙ now_at w.sites site new (subst (λ (j : ℕ). at site_key j w.sites ≡ Some site) (sym key) found) (Down node) key

  queue_now : queue_at w (Down node) ≡ site.controller.queue
  queue_now = ap (λ (o : Option Site). option_map_or (λ s. queue_in s (Down node)) o []) found

  notes_then : {A : Type 0} (part : Journal → A) → part (next topology w (Tick node)).notes ≡ part (ticks a).notes
  notes_then part = ap (λ (o : Option Site). part (controller_acts (put_away w) o ticks).notes) found

  put_is : (more : List Cell) → (ticks a).controller.queue ≡ site.controller.queue ++ more → drop (length (queue_at w (Down node))) (queue_at (next topology w (Tick node)) (Down node)) ≡ more
  put_is more is = ap (λ (q : List Cell). drop (length (queue_at w (Down node))) q) (queue_then ∙ (is ∙ ap (λ (q : List Cell). q ++ more) (sym queue_now)))
      ∙ drop-append_seam (queue_at w (Down node)) more

pub ticks_send_what_ports_say : TicksSendWhatPortsSay
ticks_send_what_ports_say topology w one site linked port found peace of_port same =
    let home : Channel = (default_home one.port).channel in
    let b : Acted = ticking w site in
    let goes : Goes home b (ticks b) (messages_of linked) =
    subst (λ (c : Acted). Goes home b c (messages_of linked)) (sym (nodes_tick_on b peace)) (tick_goes one.port port.0 b linked of_port peace.ports_apart) in
    let unlost : goes.entries ≡ [] = append_cancel_left w.notes.entries goes.entries []
    (sym goes.grown ∙ (sym (notes_then topology w one.node site found (λ (n : Journal). n.entries)) ∙ (same ∙ sym (append-nil w.notes.entries)))) in
    let sends : Sends home b (ticks b) (messages_of linked) = goes.sends unlost in
    subst (λ (cells : List Cell). AreSaid site.controller.address (next topology w (Tick one.node)).notes.frames (last_marks home cells) (messages_of linked))
    (sym (put_is topology w one.node site found sends.more sends.queue))
    (subst (λ (frames : List Frame). AreSaid site.controller.address frames (last_marks home sends.more) (messages_of linked)) (sym (notes_then topology w one.node site found (λ (n : Journal). n.frames))) sends.said)
