-- a packet that enters leaves each controller silent for as long as it was, and each switch

use Rattle.std.proofs.Common.{◌≡◌, ℕ, ◌+◌, List, length, Option, None, Some, refl, sym, ◌∙◌, ap, subst}
use Rattle.std.specs.Prelude.{nat_le}
use Rattle.std.specs.Option.{option_map}
use Rattle.world_model.specs.Words.{NodeId, Channel, Mark, Loss, PoolFull, noted, made, frame_cells, next_control, with_control, Controller, Refusal, inject_refusal, injected, Topology, World, Site, site_at, controller_acts, injects_by, put_away, next}
use Rattle.world_model.specs.frame_model.Sending.{Sender}
use Rattle.world_model.specs.Controller.{Acted, free_slots}
use Rattle.world_model.specs.Sending.{with_cells, sends}
use Rattle.world_model.specs.World.{at_controller}
use Rattle.world_model.specs.network_model.declared.event.Event.TheVariants.{Inject}
use Rattle.world_model.proofs.Lists.{by_eq}
use Rattle.law_live_journeys.proofs.law_passing.Controllers.{injected_adds}
use Rattle.law_live_journeys.proofs.law_rule_walks.Cells.{Forwards, routes_kept}
use Rattle.law_live_journeys.proofs.law_run_facts.law_port_facts.Keyed.{on_both}
use Rattle.law_live_journeys.proofs.law_live_control_links.Sites.{acting, controller_elsewhere, controller_here}
use Rattle.law_live_journeys.proofs.law_live_calm_nodes.Parts.{controller_part}
use Rattle.law_live_journeys.proofs.law_live_calm_nodes.Heard.{silence_at}
use Rattle.law_live_journeys.proofs.law_live_lasting.Silence as switches

-- *A controller that sends on* is silent for as long as it was
abbrev IsSilent : ℕ → Acted → Type 0
IsSilent n a = a.controller.adjacency.silence ≡ n

sends_silent : (n : ℕ) (a : Acted) (channel : Channel) (mark : Mark) (payload : List ℕ) → IsSilent n a → IsSilent n (sends a channel mark payload)
sends_silent n a channel mark payload h = on_both (λ (s : Sender Controller). s.queues.adjacency.silence ≡ n) (nat_le (length (frame_cells channel mark payload)) (free_slots a.controller))
    (record { queues = with_cells a.controller (frame_cells channel mark payload); notes = made a.notes mark payload })
    (record { queues = a.controller; notes = noted (made a.notes mark payload) (Loss mark PoolFull) }) h h

forwards : (n : ℕ) → Forwards (IsSilent n)
forwards n = record {
  sending = sends_silent n;
  sending_control = λ a channel payload h. sends_silent n (record a { numbers = with_control a.numbers }) channel (next_control a.numbers) payload h;
  ending = λ a item is h. h;
}

abbrev silence_of : Site → ℕ
silence_of site = site.controller.adjacency.silence

module _ (topology : Topology) (v : World) (node here : NodeId) (octets : List ℕ) where
  abbrev begun : World
  begun = record (put_away v) { sent = v.sent + 1 }

  abbrev enters : Acted → Acted
  enters a = injected a (v.sent + 1) octets

  same_node : (a : Acted) → (enters a).controller.node ≡ a.controller.node
  same_node a = (injected_adds a (v.sent + 1) octets).node

  -- *Its controller*
  pub controller_same : silence_at (next topology v (Inject here octets)) node ≡ silence_at v node
  controller_same = by (inject_refusal octets)
    where
      own : (o : Option Site) → site_at v node ≡ o → silence_at (at_controller begun node enters) node ≡ silence_at v node
      own None found = ap (λ (o : Option Site). silence_at (controller_acts begun o enters) node) found
      own (Some site) found = ap (option_map silence_of) (controller_here begun node site found enters same_node)
          ∙ (ap (λ (n : ℕ). Some n) (routes_kept (forwards (silence_of site)) (acting begun site) (record { packet = v.sent + 1; frame = 0 }) octets refl)
          ∙ sym (ap (option_map silence_of) found))

      named : here.0 ≡ node.0 → node ≡ here
      named same = λ i. record { 0 = sym same i }

      by : (o : Option Refusal) → silence_at (injects_by begun here octets o) node ≡ silence_at v node
      by (Some name) = refl
      by None = by_eq here.0 node.0
          (λ same t. subst (λ (h : NodeId). silence_at (at_controller begun h enters) node ≡ silence_at v node) (named same) (own (site_at v node) refl))
          (λ apart t. ap (option_map silence_of) (controller_elsewhere begun node here enters same_node apart))

  -- *and its switch*
  pub switch_same : switches.silence_at (next topology v (Inject here octets)) node ≡ switches.silence_at v node
  switch_same = by (inject_refusal octets)
    where
      by : (o : Option Refusal) → switches.silence_at (injects_by begun here octets o) node ≡ switches.silence_at v node
      by (Some name) = refl
      by None = controller_part switches.silence_of (λ site c. refl) begun node here enters same_node

  -- so if they have just been heard
  pub controller_silent : silence_at v node ≡ Some 0 → silence_at (next topology v (Inject here octets)) node ≡ Some 0
  controller_silent silent = controller_same ∙ silent

  pub switch_silent : switches.silence_at v node ≡ Some 0 → switches.silence_at (next topology v (Inject here octets)) node ≡ Some 0
  switch_silent silent = switch_same ∙ silent
