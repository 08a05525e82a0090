-- what two ends agree on, and what is on its way between them, from carry to carry

use Rattle.std.proofs.Common.{◌≡◌, ◌≢◌, ◌⊎◌, inl, inr, ◌<◌, ◌^◌, ℕ, Bool, true, false, true≢false, List, [], ◌∷◌, ◌++◌, Option, Some, map, refl, sym, ◌∙◌, ap, subst}
use Rattle.std.specs.Option.{option_map_or}
use Rattle.world_model.specs.Words.{NodeId, Addr, Place, Down, Up, Out, Channel, Cell, nothing_taken, with_reassembly, default_home, same_channel, Topology, World, Site, site_at, IsTopology, queue_at, next, world_after, CountsAsItsFrame}
use Rattle.world_model.specs.Cells.{Taker}
use Rattle.world_model.specs.ifmp_wire.declared.message.Message.{Message}
use Rattle.world_model.specs.network_model.declared.link.LinkEnd.{LinkEnd}
use Rattle.world_model.specs.network_model.declared.event.Event.TheVariants.{Carry}
use Rattle.law_causes.proofs.Shown.{peer_back}
use Rattle.law_run_facts.specs.ordered_lists.Ordered.{Every}
use Rattle.law_run_facts.specs.law_world_views.law_shown_cells.Seen.{Extends}
use Rattle.law_live_links.proofs.Resting.{swapped}
use Rattle.law_live_worlds.specs.Law.{AgreeIn}
use Rattle.law_live_worlds.proofs.Staying.{like_worlds_agree}
use Rattle.law_live_arrivals.specs.Law.{PortHears}
use Rattle.law_live_arrivals.proofs.Arriving.{hearings_keep}
use Rattle.law_live_elsewhere.specs.Law.{IsElsewhere}
use Rattle.law_live_elsewhere.proofs.Elsewhere.{carries_elsewhere_keep_agreement}
use Rattle.law_live_rests.specs.Law.{address_at, StaysAlike}
use Rattle.law_live_hearing.specs.Law.{acting}
use Rattle.law_live_orders.specs.Law.{is_last_on, coming, IsOpenWay}
use Rattle.law_live_orders.specs.Messages.{Says, AreComing, StayMade, IsFirst, IsPassed}
use Rattle.law_live_orders.specs.Slots.{IsUnlost}
use Rattle.law_live_orders.proofs.Coming.{first_messages_are_heard}
use Rattle.law_live_orders.proofs.Switches.{first, second}
use Rattle.law_live_passed_by.specs.Law.{HoldNone, BringsNone}
use Rattle.law_live_unsaid.specs.Law.{IsUnanswered}
use Rattle.law_live_unsaid.specs.Carries.{EndsFrame}
use Rattle.law_live_going.specs.Law.{IsWritten, IsCalmCarry}
use Rattle.law_live_going.proofs.Steps.{Went, leaves, brings, way_goes}
use Rattle.law_live_peace.specs.Law.{IsUnansweredAt}
use Rattle.law_live_peace.proofs.Carries.{all_stay}
use Rattle.law_live_peace.proofs.Hearing.{unanswered_message}

one_node : (a b : NodeId) → Up a ≡ Up b → a.0 ≡ b.0
one_node a b e = (let same : a ≡ b = cc in ap (λ (n : NodeId). n.0) same)

same_node : (a b : NodeId) → a.0 ≡ b.0 → b ≡ a
same_node a b e = λ i. record { 0 = sym e i }

-- agreement goes both ways
abbrev both_ways : (v : World) (one far : LinkEnd) (said far_said : List Message) → AgreeIn v one far said far_said → AgreeIn v far one far_said said
both_ways v one far said far_said agree = record { linked = agree.far_linked; far_linked = agree.linked; shows = agree.far_shows; far_shows = agree.shows; agreed = swapped agree.agreed }

-- *Both agree*, and what each has said that the other has yet to hear is on its way, and can be written
pub record Stands (address far_address : Addr) (v : World) (one far : LinkEnd) : Type 0 where
  pub said : List Message
  pub far_said : List Message
  pub agree : AgreeIn v one far said far_said
  pub there : AreComing address v one far said
  pub back : AreComing far_address v far one far_said
  pub written : Every IsWritten said
  pub far_written : Every IsWritten far_said
  pub own : agree.shows.site.controller.address ≡ address
  pub far_own : agree.far_shows.site.controller.address ≡ far_address

pub turned : (address far_address : Addr) (v : World) (one far : LinkEnd) → Stands address far_address v one far → Stands far_address address v far one
turned address far_address v one far s = record {
  said = s.far_said;
  far_said = s.said;
  agree = both_ways v one far s.said s.far_said s.agree;
  there = s.back;
  back = s.there;
  written = s.far_written;
  far_written = s.written;
  own = s.far_own;
  far_own = s.own;
}

module _ (topology : Topology) (is : IsTopology topology) (one far : LinkEnd) (address far_address : Addr) (low : address.0 < 2 ^ 32) where
  -- *A message of the other end* is unanswered, so all is where the rest is
  module _ (v : World) (s : Stands address far_address v one far) (way : IsOpenWay topology v one far) (counts : CountsAsItsFrame v (Carry (Up far.node))) (unlost : IsUnlost topology v (Up far.node))
      (stay : StayMade v.notes.frames (next topology v (Carry (Up far.node))).notes.frames (coming v one far)) (rest : BringsNone v far (Up far.node) → IsUnansweredAt v far (Up far.node)) where
    module _ (same : far.node.0 ≡ far.node.0) (site : Site) (cell : Cell) (cells : List Cell) (taker : Taker) (payload : List ℕ) (found : site_at v far.node ≡ Some site)
        (queue : queue_at v (Up far.node) ≡ cell ∷ cells) (ends : EndsFrame v far.node site cell taker payload) where
      abbrev Quiet : Type 0
      Quiet = IsUnanswered far.port (with_reassembly (acting v site) taker nothing_taken) taker payload

      abbrev channel : Channel
      channel = (default_home far.port).channel

      by_rest : HoldNone v far (cell ∷ cells) → Quiet
      by_rest none = rest (λ t. subst (HoldNone v far) (sym queue) none) same site cell cells taker payload found queue ends

      by_first : is_last_on channel cell ≡ true → IsFirst address v (next topology v (Carry (Up far.node))) one far cell.mark s.said
          ⊎ IsPassed address v (next topology v (Carry (Up far.node))) one far cell.mark s.said → Quiet
      by_first last (inr passed) = by_rest (λ again. passed.holds_none)
      by_first last (inl it) = subst (λ (ms : List Message). (agree : AgreeIn v one far ms s.far_said) → agree.shows.site.controller.address ≡ address → Quiet) (sym it.are)
          (λ agree own. unanswered_message topology v one far it.message it.rest s.far_said agree (peer_back topology is one far way.linked).port.0
          (subst (λ (a : Addr). a.0 < 2 ^ 32) (sym own) low) can.range can.fits cell cells queue (first cell.header.last (same_channel cell.header.channel channel) last)
          (second cell.header.last (same_channel cell.header.channel channel) last)
          (subst (λ (a : Addr). Says a v.notes.frames cell.mark it.message) (sym own) it.says) counts (unlost cell cells queue) site taker payload found ends)
          s.agree s.own
        where
          can : IsWritten it.message
          can = (subst (Every IsWritten) it.are s.written).0

      by_last : (b : Bool) → is_last_on channel cell ≡ b → Quiet
      by_last false other = by_rest (λ last. absurd (true≢false (sym last ∙ other)))
      by_last true last = by_first last (first_messages_are_heard topology v one far cell cells address s.said is way queue last s.there stay)

    heard_unanswered : IsUnansweredAt v far (Up far.node)
    heard_unanswered same site cell cells taker payload found queue ends =
        by_last same site cell cells taker payload found queue ends (is_last_on (default_home far.port).channel cell) refl

  pub unanswered : (v : World) (place : Place) → Stands address far_address v one far → IsOpenWay topology v one far → CountsAsItsFrame v (Carry place) → IsUnlost topology v place
      → Extends v.notes.frames (next topology v (Carry place)).notes.frames → (BringsNone v far place → IsUnansweredAt v far place) → IsUnansweredAt v far place
  unanswered v (Down node) s way counts unlost stay rest = tt
  unanswered v (Out node port) s way counts unlost stay rest = tt
  unanswered v (Up node) s way counts unlost stay rest = λ same. subst (λ (n : NodeId). CountsAsItsFrame v (Carry (Up n)) → IsUnlost topology v (Up n)
      → Extends v.notes.frames (next topology v (Carry (Up n))).notes.frames → (BringsNone v far (Up n) → IsUnansweredAt v far (Up n)) → IsUnansweredAt v far (Up n)) (same_node node far.node same)
      (λ c u e r. heard_unanswered v s way c u (all_stay v.notes.frames (next topology v (Carry (Up far.node))).notes.frames (coming v one far) e) r) counts unlost stay rest same

-- the address by which a node goes is its controller's
pub own_of : (v : World) (end : LinkEnd) (site : Site) (address : Addr) → site_at v end.node ≡ Some site → address_at v end.node ≡ address → site.controller.address ≡ address
own_of v end site address found goes = sym (ap (λ (o : Option Site). option_map_or (λ (s : Site). s.controller.address) o (record { 0 = 0 })) found) ∙ goes

-- *Behind a calm carry* they stand so again
module _ (topology : Topology) (is : IsTopology topology) (one far : LinkEnd) (address far_address : Addr) (low : address.0 < 2 ^ 32) (far_low : far_address.0 < 2 ^ 32) (apart : one.node.0 ≢ far.node.0) where
  module _ (v : World) (place : Place) (calm : IsCalmCarry topology v one far address far_address place) (s : Stands address far_address v one far)
      (goes_by : address_at (next topology v (Carry place)) one.node ≡ address) (far_goes_by : address_at (next topology v (Carry place)) far.node ≡ far_address) where
    abbrev u : World
    u = next topology v (Carry place)

    stands : (said far_said : List Message) → AgreeIn u one far said far_said → AreComing address u one far said → AreComing far_address u far one far_said → Every IsWritten said → Every IsWritten far_said
        → Stands address far_address u one far
    stands said far_said agree there back written far_written = record {
      said = said;
      far_said = far_said;
      agree = agree;
      there = there;
      back = back;
      written = written;
      far_written = far_written;
      own = own_of u one agree.shows.site address agree.shows.there goes_by;
      far_own = own_of u far agree.far_shows.site far_address agree.far_shows.there far_goes_by;
    }

    neither : IsElsewhere v one far place ⊎ (StaysAlike v u one × StaysAlike v u far) → AgreeIn u one far s.said s.far_said
    neither (inl away) = carries_elsewhere_keep_agreement topology v one far place s.said s.far_said away s.agree
    neither (inr same) = like_worlds_agree v u one far s.said s.far_said s.agree (same.0 s.agree.linked s.agree.shows) (same.1 s.agree.far_linked s.agree.far_shows)

    step : Went topology v one far place address s.said → Went topology v far one place far_address s.far_said → Stands address far_address u one far
    step (leaves no_message a) (leaves no_answer b) = stands s.said s.far_said (neither (calm.alike no_answer no_message)) a b s.written s.far_written
    step (brings message later are at hears a) (leaves no_answer b) =
        stands later s.far_said
        (subst (λ (p : Place). AgreeIn (next topology v (Carry p)) one far later s.far_said) (sym at)
        (subst (λ (ms : List Message). (agree : AgreeIn v one far ms s.far_said) → agree.shows.site.controller.address ≡ address → AgreeIn (next topology v (Carry (Up far.node))) one far later s.far_said) (sym are)
        (λ agree own. hearings_keep topology v one far message later s.far_said apart agree (subst (λ (from : Addr). PortHears topology v far from message) (sym own) hears)) s.agree s.own))
        a b (subst (Every IsWritten) are s.written).1 s.far_written
    step (leaves no_message a) (brings message later are at hears b) =
        stands s.said later
        (subst (λ (p : Place). AgreeIn (next topology v (Carry p)) one far s.said later) (sym at)
        (both_ways (next topology v (Carry (Up one.node))) far one later s.said
        (subst (λ (ms : List Message). (agree : AgreeIn v far one ms s.said) → agree.shows.site.controller.address ≡ far_address → AgreeIn (next topology v (Carry (Up one.node))) far one later s.said) (sym are)
        (λ agree own. hearings_keep topology v far one message later s.said (λ e. apart (sym e)) agree (subst (λ (from : Addr). PortHears topology v one from message) (sym own) hears))
        (both_ways v one far s.said s.far_said s.agree) s.far_own)))
        a b s.written (subst (Every IsWritten) are s.far_written).1
    step (brings message later are at hears a) (brings other far_later far_are far_at far_hears b) = absurd (apart (one_node one.node far.node (sym far_at ∙ at)))

    pub stands_behind : Stands address far_address u one far
    stands_behind = step (way_goes topology is v one far address low calm.goes_by s.said s.written s.there place calm.there calm.far_end)
        (way_goes topology is v far one far_address far_low calm.far_goes_by s.far_said s.far_written s.back place calm.back calm.near)

  pub record GoesOn (v : World) (place : Place) : Type 0 where
    pub calm : Stands address far_address v one far → IsCalmCarry topology v one far address far_address place
    pub goes_by : address_at (next topology v (Carry place)) one.node ≡ address
    pub far_goes_by : address_at (next topology v (Carry place)) far.node ≡ far_address

  -- *Along carries*, each of which is calm where they stand so
  pub along : (places : List Place) (v : World) → Stands address far_address v one far
      → ((front rest : List Place) (place : Place) → places ≡ front ++ place ∷ rest → GoesOn (world_after topology v (map Carry front)) place)
      → Stands address far_address (world_after topology v (map Carry places)) one far
  along [] v s each = s
  along (place ∷ places) v s each =
      let g : GoesOn v place = each [] places place refl in
      along places (next topology v (Carry place)) (stands_behind v place (g.calm s) s g.goes_by g.far_goes_by)
      (λ front rest later e. each (place ∷ front) rest later (ap (λ (ps : List Place). place ∷ ps) e))
