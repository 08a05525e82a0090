-- one carry, and what is on its way to one end

use Rattle.std.proofs.Common.{◌≡◌, ◌≢◌, ◌⊎◌, inl, inr, ◌<◌, ◌^◌, Bool, true, false, true≢false, List, [], ◌∷◌, append-nil, refl, sym, ◌∙◌, subst}
use Rattle.world_model.specs.Words.{NodeId, Addr, Place, Down, Up, Out, Cell, default_home, Topology, World, IsTopology, queue_at, next}
use Rattle.world_model.specs.ifmp_wire.declared.message.Message.{Message}
use Rattle.world_model.specs.network_model.declared.link.LinkEnd.{LinkEnd}
use Rattle.world_model.specs.network_model.declared.event.Event.TheVariants.{Carry}
use Rattle.world_model.proofs.Lists.{by_eq}
use Rattle.law_passing.specs.ordered_lists.Ordered.{Every}
use Rattle.law_causes.proofs.Shown.{IsPeer, peer_back}
use Rattle.law_live_arrivals.specs.Law.{PortHears}
use Rattle.law_live_rests.specs.Law.{address_at}
use Rattle.law_live_orders.specs.Law.{is_last_on, sent_at, EndsNoneOn}
use Rattle.law_live_orders.specs.Messages.{AreSaid, AreComing, IsFirst, IsPassed}
use Rattle.law_live_orders.proofs.Coming.{first_messages_are_heard, messages_sent_come_last, all_else_leaves_messages}
use Rattle.law_live_orders.proofs.Hearing.{ports_hear_messages}
use Rattle.law_live_passed_by.specs.Law.{HoldNone, BringsNone}
use Rattle.law_live_going.specs.Law.{IsCalmWay, IsCalmEnd, IsWritten}

-- *It is left* as it was, or its first is heard
pub data Went (topology : Topology) (w : World) (one far : LinkEnd) (place : Place) (address : Addr) (said : List Message) : Type 0 where
  leaves : BringsNone w far place → AreComing address (next topology w (Carry place)) one far said → Went topology w one far place address said
  brings : (message : Message) (rest : List Message) → said ≡ message ∷ rest → place ≡ Up far.node → PortHears topology w far address message
      → AreComing address (next topology w (Carry place)) one far rest → Went topology w one far place address said

module _ (topology : Topology) (is : IsTopology topology) (w : World) (one far : LinkEnd) (address : Addr) (low : address.0 < 2 ^ 32) (own : address_at w one.node ≡ address)
    (said : List Message) (written : Every IsWritten said) (coming : AreComing address w one far said) where
  abbrev GoesFrom : NodeId → Type 0
  GoesFrom node = IsCalmWay topology w one far (Up node) → IsCalmEnd topology w far (Up node) → Went topology w one far (Up node) address said

  same_node : (a b : NodeId) → a.0 ≡ b.0 → b ≡ a
  same_node a b e = λ i. record { 0 = sym e i }

  -- *To the far controller*
  to_far : GoesFrom far.node
  to_far way end = by (queue_at w (Up far.node)) refl
    where
      peer : IsPeer topology one far
      peer = peer_back topology is one far way.is_open.linked

      left_if : EndsNoneOn (default_home far.port).channel (queue_at w (Up far.node)) → AreComing address (next topology w (Carry (Up far.node))) one far said
      left_if ends = all_else_leaves_messages topology w one far (Carry (Up far.node)) address said is way.is_open way.unlost (peer.apart, λ same. ends) coming way.stays

      first_written : (messages : List Message) (message : Message) (rest : List Message) → messages ≡ message ∷ rest → Every IsWritten messages → IsWritten message
      first_written messages message rest e each = (subst (Every IsWritten) e each).0

      by : (q : List Cell) → queue_at w (Up far.node) ≡ q → Went topology w one far (Up far.node) address said
      by [] e = leaves (λ same. subst (HoldNone w far) (sym e) tt) (left_if (subst (EndsNoneOn (default_home far.port).channel) (sym e) tt))
      by (cell ∷ cells) e = on (is_last_on (default_home far.port).channel cell) refl
        where
          on : (b : Bool) → is_last_on (default_home far.port).channel cell ≡ b → Went topology w one far (Up far.node) address said
          on false none = leaves (λ same. subst (HoldNone w far) (sym e) (λ last. absurd (true≢false (sym last ∙ none)))) (left_if (subst (EndsNoneOn (default_home far.port).channel) (sym e) none))
          on true last = heard (first_messages_are_heard topology w one far cell cells address said is way.is_open e last coming way.stays)
            where
              heard : IsFirst address w (next topology w (Carry (Up far.node))) one far cell.mark said ⊎ IsPassed address w (next topology w (Carry (Up far.node))) one far cell.mark said
                  → Went topology w one far (Up far.node) address said
              heard (inl first) =
                  let can : IsWritten first.message = first_written said first.message first.rest first.are written in
                  brings first.message first.rest first.are refl
                  (ports_hear_messages topology w far end.site end.linked cell cells address first.message peer.port end.there end.of_port e last first.says low can.range can.fits
                  end.counts (end.unlost cell cells e)) first.later
              heard (inr passed) = leaves (λ same. subst (HoldNone w far) (sym e) (λ again. passed.holds_none)) passed.later

  -- *To the near controller*, which says nothing
  to_near : far.node.0 ≢ one.node.0 → GoesFrom one.node
  to_near apart way end = leaves (λ same. absurd (apart (sym same)))
      (subst (λ (ms : List Message). AreComing address (next topology w (Carry (Up one.node))) one far ms) (append-nil said)
      (messages_sent_come_last topology w one far (Carry (Up one.node)) address said [] is way.is_open (inr refl) coming way.stays
      (subst (λ (from : Addr). AreSaid from (next topology w (Carry (Up one.node))).notes.frames (sent_at topology w (Carry (Up one.node)) one) []) own way.quiet)))

  pub way_goes : (place : Place) → IsCalmWay topology w one far place → IsCalmEnd topology w far place → Went topology w one far place address said
  way_goes (Down node) way end = leaves tt (all_else_leaves_messages topology w one far (Carry (Down node)) address said is way.is_open way.unlost tt coming way.stays)
  way_goes (Out node port) way end = leaves tt (all_else_leaves_messages topology w one far (Carry (Out node port)) address said is way.is_open way.unlost tt coming way.stays)
  way_goes (Up node) way end = by_eq node.0 far.node.0
      (λ same t. subst GoesFrom (same_node node far.node same) to_far way end)
      (λ apart t. by_eq node.0 one.node.0
      (λ same u. subst GoesFrom (same_node node one.node same) (to_near (peer_back topology is one far way.is_open.linked).apart) way end)
      (λ differs u. leaves (λ same. absurd (apart same))
      (all_else_leaves_messages topology w one far (Carry (Up node)) address said is way.is_open way.unlost (differs, λ same. absurd (apart same)) coming way.stays)))
