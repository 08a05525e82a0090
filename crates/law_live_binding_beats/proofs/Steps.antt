-- one carry, by where it goes

use Rattle.std.proofs.Common.{◌≡◌, ◌≢◌, inl, inr, List, [], ◌∷◌, ◌++◌, append-nil, refl, sym, ap, subst}
use Rattle.world_model.specs.Words.{NodeId, Addr, Place, Down, Up, Out, Topology, World, site_at, at, IsTopology, next}
use Rattle.world_model.specs.ifmp_wire.declared.message.Message.{Message}
use Rattle.world_model.specs.network_model.declared.link.LinkEnd.{LinkEnd}
use Rattle.world_model.specs.network_model.declared.event.Event.TheVariants.{Carry}
use Rattle.world_model.proofs.Lists.{by_eq}
use Rattle.law_live_asking.specs.law_passing.ordered_lists.Ordered.{Every}
use Rattle.law_live_asking.proofs.law_causes.Shown.{peer_back}
use Rattle.law_live_asking.specs.law_live_worlds.Law.{end_of}
use Rattle.law_live_asking.specs.law_live_arrivals.Law.{PortHears}
use Rattle.law_live_asking.proofs.law_live_arrivals.Arriving.{elsewhere}
use Rattle.law_live_asking.specs.law_live_elsewhere.Law.{IsElsewhere}
use Rattle.law_live_asking.proofs.law_live_elsewhere.Elsewhere.{one_left, far_left}
use Rattle.law_live_asking.specs.law_live_rests.Law.{address_at}
use Rattle.law_live_asking.specs.law_live_orders.Messages.{AreComing}
use Rattle.law_live_asking.proofs.law_live_orders.Coming.{messages_sent_come_last}
use Rattle.law_live_asking.proofs.law_live_orders.Slots.{unlost_find_slots}
use Rattle.law_live_asking.specs.law_live_unsaid.Carries.{IsUnansweredCarry}
use Rattle.law_live_asking.proofs.law_live_unsaid.Carries.{carries_say_none}
use Rattle.law_live_asking.specs.law_live_going.Law.{IsCalmWay, IsCalmEnd, IsWritten}
use Rattle.law_live_asking.proofs.law_live_going.Steps.{Went, leaves, brings, way_goes}
use Rattle.law_live_bindings.specs.Law.{AreBinding}
use Rattle.law_live_asking.specs.law_live_bound.Worlds.{BindIn}
use Rattle.law_live_asking.proofs.law_live_bound.Worlds.{like_worlds_bind, carries_elsewhere_keep_binding, countings_keep_binding, hearings_keep_binding, offers_are_made, grants_are_started}
use Rattle.law_live_binding_beats.specs.Law.{BindByQueues, HearsInRoom, Does, ends_none, alike, counts, offers, starts, DoesAndSays, IsBroughtOn, IsBindingCarry}
use Rattle.law_live_binding_beats.proofs.Shown.{goes_by, alike_address, stays_alike, same_address, stays_shown, met_address, turned, by_queues}

every_join : (xs ys : List Message) → Every IsWritten xs → Every IsWritten ys → Every IsWritten (xs ++ ys)
every_join [] ys p q = q
every_join (x ∷ xs) ys p q = (p.0, every_join xs ys p.1 q)

pub same_node : (a b : NodeId) → a.0 ≡ b.0 → b ≡ a
same_node a b e = λ i. record { 0 = sym e i }

one_node : (a b : NodeId) → Up a ≡ Up b → a.0 ≡ b.0
one_node a b e = (let same : a ≡ b = cc in ap (λ (n : NodeId). n.0) same)

module _ (topology : Topology) (is : IsTopology topology) where
  -- *A way by which nothing is said* goes on
  module _ (w : World) (one far : LinkEnd) (ends : BindByQueues w one far) (place : Place) (c : IsBindingCarry topology ends place) where
    -- from the far end to the near one
    back_way : IsUnansweredCarry w far place → IsCalmWay topology w far one place
    back_way none = record {
      is_open = c.ways.back;
      unlost = unlost_find_slots topology w far one place is c.ways.back c.is_place c.unlost;
      stays = c.ways.far_stays;
      quiet = carries_say_none topology w far place (address_at w far.node) (peer_back topology is far one c.ways.back.linked).own none;
    }

    near_end : IsCalmEnd topology w one place
    near_end = record {
      site = ends.bind.shows.site;
      there = ends.bind.shows.there;
      linked = ends.bind.linked;
      of_port = ends.bind.shows.of_port;
      counts = c.counts;
      unlost = c.unlost;
    }

    pub back_goes : IsUnansweredCarry w far place → Went topology w far one place ends.bind.far_shows.site.controller.address ends.far_said
    back_goes none = way_goes topology is w far one ends.bind.far_shows.site.controller.address ends.far_low (goes_by w far ends.bind.far_linked ends.bind.far_shows)
        ends.far_said ends.far_written ends.back place (back_way none) near_end

  -- *To one's controller*
  module _ (w : World) (one far : LinkEnd) (ends : BindByQueues w one far) (c : IsBindingCarry topology ends (Up one.node)) where
    abbrev v : World
    v = next topology w (Carry (Up one.node))

    abbrev said : List Message
    said = ends.said

    abbrev own : Addr
    own = ends.bind.shows.site.controller.address

    abbrev far_own : Addr
    far_own = ends.bind.far_shows.site.controller.address

    apart : one.node.0 ≢ far.node.0
    apart e = (peer_back topology is one far c.ways.there.linked).apart (sym e)

    -- the other's node stays
    far_stays : site_at v far.node ≡ site_at w far.node
    far_stays = elsewhere topology w one.node far.node.0 apart ends.bind.shows.site ends.bind.shows.there

    -- what one says comes last on its way
    grown : (far_then : List Message) (messages : List Message) → BindIn v one far (said ++ messages) far_then → AreComing own v one far (said ++ messages) → Every IsWritten messages
        → AreComing far_own v far one far_then → Every IsWritten far_then → BindByQueues v one far
    grown far_then messages bind there written back far_written = by_queues w v one far ends (said ++ messages) far_then bind
        (met_address w v one far said ends.far_said (said ++ messages) far_then far_stays ends.bind bind)
        (same_address v far bind.far_linked ends.bind.far_linked bind.far_shows (stays_shown w v far ends.bind.far_linked far_stays ends.bind.far_shows))
        there back (every_join said messages ends.written written) far_written

    -- it does something else than hear a message of the other
    silently : BindIn v one far said ends.far_said → BindIn v one far (said ++ []) ends.far_said
    silently = subst (λ (ms : List Message). BindIn v one far ms ends.far_said) (sym (append-nil said))

    does_bind : (messages : List Message) → Does topology w one ends.bind.shows (end_of ends.bind.far_linked ends.far_said) messages → BindIn v one far (said ++ messages) ends.far_said
    does_bind messages (ends_none none) = silently (carries_elsewhere_keep_binding topology w one far (Up one.node) said ends.far_said (inr none) ends.bind)
    does_bind messages (alike left) = silently (like_worlds_bind w v one far said ends.far_said ends.bind left (stays_alike w v far ends.bind.far_linked far_stays ends.bind.far_shows))
    does_bind messages (counts p) = silently (countings_keep_binding topology w one far p.mark p.payload p.packet said ends.far_said apart ends.bind p.hears p.holds p.range p.up)
    does_bind messages (offers label p) = offers_are_made topology w one far label said ends.far_said apart ends.bind p.says p.held p.wiring p.number_left p.up
    does_bind messages (starts p) = silently (grants_are_started topology w one far p.number said ends.far_said apart ends.bind p.says p.number_is p.up)

    does_so : DoesAndSays topology w one ends.bind.shows (end_of ends.bind.far_linked ends.far_said) → AreComing far_own v far one ends.far_said → BindByQueues v one far
    does_so d back = grown ends.far_said d.messages (does_bind d.messages d.does)
        (messages_sent_come_last topology w one far (Carry (Up one.node)) own said d.messages is c.ways.there (inr refl) ends.there c.ways.stays d.says.put)
        d.says.written back ends.far_written

    -- it hears the first message of the other
    module _ (message : Message) (rest : List Message) (are : ends.far_said ≡ message ∷ rest) (hears : PortHears topology w one far_own message) where
      abbrev to_hear : BindIn w one far said (message ∷ rest)
      to_hear = record {
        linked = ends.bind.linked;
        far_linked = ends.bind.far_linked;
        shows = ends.bind.shows;
        far_shows = ends.bind.far_shows;
        binding = subst (λ (ms : List Message). AreBinding (end_of ends.bind.linked said) (end_of ends.bind.far_linked ms)) are ends.bind.binding;
      }

      hears_so : HearsInRoom topology w one ends.bind.shows (end_of ends.bind.far_linked ends.far_said) message → AreComing far_own v far one rest → BindByQueues v one far
      hears_so h back = grown rest []
          (subst (λ (ms : List Message). BindIn v one far ms rest) (sym (append-nil said)) (hearings_keep_binding topology w one far message said rest apart to_hear hears h.room h.up))
          (messages_sent_come_last topology w one far (Carry (Up one.node)) own said [] is c.ways.there (inr refl) ends.there c.ways.stays h.silent.put)
          h.silent.written back (subst (Every IsWritten) are ends.far_written).1

    brought : IsBroughtOn topology w one ends.bind.shows (end_of ends.bind.far_linked ends.far_said)
    brought = c.at_one refl

    pub to_one : BindByQueues v one far
    to_one = by (back_goes w one far ends (Up one.node) c (λ same. absurd (apart same)))
      where
        by : Went topology w far one (Up one.node) far_own ends.far_said → BindByQueues v one far
        by (leaves none back) = does_so (brought.does none) back
        by (brings message rest are at hears back) = hears_so message rest are hears
            (brought.hears message rest are (subst (λ (from : Addr). PortHears topology w one from message) (sym ends.bind.far_shows.address) hears)) back

  -- *Either way round*
  pub turned_carry : (w : World) (one far : LinkEnd) (ends : BindByQueues w one far) (place : Place) → IsBindingCarry topology ends place → IsBindingCarry topology (turned w one far ends) place
  turned_carry w one far ends place c = record {
    is_place = c.is_place;
    counts = c.counts;
    unlost = c.unlost;
    ways = record { there = c.ways.back; back = c.ways.there; stays = c.ways.far_stays; far_stays = c.ways.stays };
    at_one = c.at_far;
    at_far = c.at_one;
  }

  -- *To neither*
  module _ (w : World) (one far : LinkEnd) (ends : BindByQueues w one far) (place : Place) (away : IsElsewhere w one far place)
      (c : IsBindingCarry topology ends place) (not_one : place ≡ Up one.node → ⊥) (not_far : place ≡ Up far.node → ⊥)
      (none : IsUnansweredCarry w one place) (far_none : IsUnansweredCarry w far place) where
    abbrev u : World
    u = next topology w (Carry place)

    bind_on : BindIn u one far ends.said ends.far_said
    bind_on = carries_elsewhere_keep_binding topology w one far place ends.said ends.far_said away ends.bind

    pub to_neither : BindByQueues u one far
    to_neither = by
        (back_goes w far one (turned w one far ends) place (turned_carry w one far ends place c) none)
        (back_goes w one far ends place c far_none)
      where
        by : Went topology w one far place ends.bind.shows.site.controller.address ends.said → Went topology w far one place ends.bind.far_shows.site.controller.address ends.far_said → BindByQueues u one far
        by (leaves no_message there) (leaves no_answer back) = by_queues w u one far ends ends.said ends.far_said bind_on
            (alike_address w u one ends.bind.linked bind_on.linked ends.bind.shows (one_left topology w one far place away ends.bind.linked ends.bind.shows) bind_on.shows)
            (alike_address w u far ends.bind.far_linked bind_on.far_linked ends.bind.far_shows (far_left topology w one far place away ends.bind.far_linked ends.bind.far_shows) bind_on.far_shows)
            there back ends.written ends.far_written
        by (brings message rest are at hears there) back = absurd (not_far at)
        by there (brings message rest are at hears back) = absurd (not_one at)

  -- *Any carry*
  abbrev CarriesTo : (w : World) (one far : LinkEnd) → BindByQueues w one far → NodeId → Type 0
  CarriesTo w one far ends node = IsBindingCarry topology ends (Up node) → BindByQueues (next topology w (Carry (Up node))) one far

  pub carry_binds : (w : World) (one far : LinkEnd) (ends : BindByQueues w one far) (place : Place) → IsBindingCarry topology ends place → BindByQueues (next topology w (Carry place)) one far
  carry_binds w one far ends (Down node) c = to_neither w one far ends (Down node) tt c (λ e. absurd (cc e)) (λ e. absurd (cc e)) tt tt
  carry_binds w one far ends (Out node port) c = to_neither w one far ends (Out node port) tt c (λ e. absurd (cc e)) (λ e. absurd (cc e)) tt tt
  carry_binds w one far ends (Up node) c = by_eq node.0 one.node.0
      (λ same t. subst (CarriesTo w one far ends) (same_node node one.node same) (to_one w one far ends) c)
      (λ differs t. by_eq node.0 far.node.0
      (λ same s. subst (CarriesTo w one far ends) (same_node node far.node same)
      (λ d. turned (next topology w (Carry (Up far.node))) far one (to_one w far one (turned w one far ends) (turned_carry w one far ends (Up far.node) d))) c)
      (λ far_differs s. to_neither w one far ends (Up node) (inl (differs, far_differs)) c (λ e. differs (one_node node one.node e)) (λ e. far_differs (one_node node far.node e))
      (λ same. absurd (differs same)) (λ same. absurd (far_differs same))))
