-- a packet that enters is no message

use Rattle.std.proofs.Common.{◌≡◌, ℕ, ◌+◌, ◌<◌, ◌++◌, Bool, true, false, List, [], Option, None, Some, append-nil, length, nat_eq, refl, sym, ◌∙◌, ap, subst, arith, if◌then◌else◌}
use Rattle.std.specs.Prelude.{◌==◌, drop}
use Rattle.std.specs.Option.{option_map_or}
use Rattle.std.proofs.Math.Seq.{drop-append_seam}
use Rattle.world_model.specs.Words.{Addr, NodeId, Down, Mark, Cell, Frame, Refusal, PacketFault, protocol_of, control_protocol, default_home, inject_refusal, IsLinkPort, Topology, World, Site, site_key, site_at, at, controller_acts, put_away, queue_at, queue_in, next}
use Rattle.world_model.specs.ipv4_packet.Packet.{first_fault}
use Rattle.world_model.specs.Controller.{Acted}
use Rattle.world_model.specs.Packets.{refused_by, injected}
use Rattle.world_model.specs.link_model.declared.record.Refusal.TheVariants.{ControlProtocol}
use Rattle.world_model.specs.network_model.Step.{injects_by}
use Rattle.world_model.specs.network_model.declared.link.LinkEnd.{LinkEnd}
use Rattle.world_model.specs.network_model.declared.event.Event.TheVariants.{Inject}
use Rattle.world_model.proofs.Lists.{by_eq, at_key}
use Rattle.law_live_asking.specs.law_passing.telling_model.Passing.{cells_put_at}
use Rattle.law_live_asking.proofs.law_passing.Queues.{now_at}
use Rattle.law_live_asking.proofs.law_passing.Worlds.{of_the_actor}
use Rattle.law_live_asking.specs.law_frame_readings.Reading.{IsForwarded}
use Rattle.law_live_asking.specs.law_live_orders.Law.{last_marks}
use Rattle.law_live_asking.specs.law_live_orders.Messages.{AreSaid, none}
use Rattle.law_live_asking.specs.law_live_unsaid.Law.{SaysNone, SendsByLabels}
use Rattle.law_live_asking.proofs.law_live_unsaid.Unanswered.{forwarded_say_none}
use Rattle.law_live_asking.proofs.law_live_unsaid.Carries.{all_passed}
use Rattle.law_live_binding_beats.proofs.Homes.{entered_home}

-- *A packet that may enter* passes the tests of a receiver, and is no message
may_enter : (octets : List ℕ) → inject_refusal octets ≡ None → IsForwarded octets
may_enter octets e = by (first_fault octets) refl e
  where
    plain : (b : Bool) → (if b then Some ControlProtocol else None) ≡ None → b ≡ false
    plain true e = absurd (cc e)
    plain false e = refl

    by : (o : Option PacketFault) → first_fault octets ≡ o → refused_by octets o ≡ None → IsForwarded octets
    by (Some fault) is e = absurd (cc e)
    by None is e = record { whole = is; other = plain (protocol_of octets == control_protocol) e }

module _ (topology : Topology) (w : World) (one : LinkEnd) (octets : List ℕ) (address : Addr) where
  abbrev entering : World
  entering = record (put_away w) { sent = w.sent + 1 }

  abbrev SaysNoneIn : World → Type 0
  SaysNoneIn v = AreSaid address v.notes.frames (last_marks (default_home one.port).channel (drop (length (queue_at w (Down one.node))) (queue_at v (Down one.node)))) []

  put_is : (q now more : List Cell) → now ≡ q ++ more → drop (length q) now ≡ more
  put_is q now more is = ap (λ (cells : List Cell). drop (length q) cells) is ∙ drop-append_seam q more

  no_cells : (frames : List Frame) (cells : List Cell) → cells ≡ [] → AreSaid address frames (last_marks (default_home one.port).channel cells) []
  no_cells frames cells e = subst (λ (cs : List Cell). AreSaid address frames (last_marks (default_home one.port).channel cs) []) (sym e) none

  -- at the node itself
  module _ (link : IsLinkPort one.port) (site : Site) (found : site_at w one.node ≡ Some site) (labels : SendsByLabels site.controller) where
    abbrev came : Mark
    came = record { packet = entering.sent; frame = 0 }

    abbrev a : Acted
    a = record { controller = site.controller; notes = entering.notes; numbers = entering.numbers }

    abbrev b : Acted
    b = injected a entering.sent octets

    abbrev new : Site
    new = record site { controller = b.controller }

    queue_now : queue_at w (Down one.node) ≡ site.controller.queue
    queue_now = ap (λ (o : Option Site). option_map_or (λ s. queue_in s (Down one.node)) o []) found

    key : site_key new ≡ one.node.0
    key = ap (λ (n : NodeId). n.0) (entered_home a came octets).node ∙ at_key site_key one.node.0 w.sites site found

    abbrev acted : World
    acted = controller_acts entering (Some site) (λ c. injected c entering.sent octets)

    acts_none : IsForwarded octets → SaysNoneIn acted
    acts_none plain = subst (λ (cells : List Cell). AreSaid address b.notes.frames (last_marks (default_home one.port).channel cells) [])
        (sym (put_is (queue_at w (Down one.node)) (queue_at acted (Down one.node)) says.later
        (now_at w.sites site new (subst (λ (j : ℕ). at site_key j w.sites ≡ Some site) (sym key) found) (Down one.node) key
        ∙ (says.queue ∙ ap (λ (q : List Cell). q ++ says.later) (sym queue_now)))))
        (all_passed address b.notes.frames (last_marks (default_home one.port).channel says.later) says.none)
      where
        some_packet : w.sent + 1 ≡ 0 → 0 < 0
        some_packet e = absurd (omega (arith, e))

        says : SaysNone one.port a b
        says = forwarded_say_none one.port a came octets link labels some_packet plain

    own : SaysNoneIn (next topology w (Inject one.node octets))
    own = by (inject_refusal octets) refl
      where
        by : (r : Option Refusal) → inject_refusal octets ≡ r → SaysNoneIn (injects_by entering one.node octets r)
        by (Some name) is = no_cells entering.notes.frames (drop (length (queue_at w (Down one.node))) (queue_at w (Down one.node)))
            (put_is (queue_at w (Down one.node)) (queue_at w (Down one.node)) [] (sym (append-nil (queue_at w (Down one.node)))))
        by None is = subst (λ (o : Option Site). SaysNoneIn (controller_acts entering o (λ c. injected c entering.sent octets))) (sym found) (acts_none (may_enter octets is))

  -- elsewhere
  away : (node : NodeId) → nat_eq node.0 one.node.0 ≡ false → SaysNoneIn (next topology w (Inject node octets))
  away node other = no_cells (next topology w (Inject node octets)).notes.frames (cells_put_at topology w (Inject node octets) (Down one.node))
      (of_the_actor topology w (Inject node octets) (Down one.node) other)

  pub entry_says_none : (node : NodeId) → IsLinkPort one.port → (site : Site) → site_at w one.node ≡ Some site → SendsByLabels site.controller
      → SaysNoneIn (next topology w (Inject node octets))
  entry_says_none node link site found labels = by_eq node.0 one.node.0
      (λ same t. subst (λ (n : NodeId). SaysNoneIn (next topology w (Inject n octets))) (λ i. record { 0 = sym same i }) (own link site found labels))
      (λ differs t. away node t)
