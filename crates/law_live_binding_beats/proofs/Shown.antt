-- a port that shows at an end is one, and each node goes by its address while both ends bind

use Rattle.std.proofs.Common.{◌≡◌, ◌<◌, ◌^◌, List, Option, Some, refl, sym, ◌∙◌, ap, subst}
use Rattle.std.specs.Option.{option_map_or}
use Rattle.world_model.specs.Words.{Peer, Side, Linked, linked_at, World, Site, site_at}
use Rattle.world_model.specs.ifmp_wire.declared.message.Message.{Message}
use Rattle.world_model.specs.network_model.declared.link.LinkEnd.{LinkEnd}
use Rattle.law_live_asking.specs.law_passing.ordered_lists.Ordered.{Every}
use Rattle.law_live_asking.specs.law_live_worlds.Law.{Shows, IsLeftAlike}
use Rattle.law_live_asking.specs.law_live_rests.Law.{address_at}
use Rattle.law_live_asking.specs.law_live_orders.Messages.{AreComing}
use Rattle.law_live_asking.specs.law_live_going.Law.{IsWritten}
use Rattle.law_live_bindings.proofs.Resting.{swapped}
use Rattle.law_live_asking.specs.law_live_bound.Worlds.{BindIn}
use Rattle.law_live_binding_beats.specs.Law.{BindByQueues}

pub one_site : (x y : Site) → Some x ≡ Some y → x ≡ y
one_site x y e = cc

pub one_linked : (x y : Linked) → Some x ≡ Some y → x ≡ y
one_linked x y e = cc

one_peer : (x y : Peer) → Some x ≡ Some y → x ≡ y
one_peer x y e = cc

-- *One port* shows at an end
pub same_shown : (v : World) (end : LinkEnd) (x y : Linked) → Shows v end x → Shows v end y → x ≡ y
same_shown v end x y p q =
    one_linked x y (sym p.of_port ∙ (ap (λ (s : Site). linked_at s.controller end.port) (one_site p.site q.site (sym p.there ∙ q.there)) ∙ q.of_port))

pub same_address : (v : World) (end : LinkEnd) (x y : Linked) (p : Shows v end x) (q : Shows v end y) → p.site.controller.address ≡ q.site.controller.address
same_address v end x y p q = ap (λ (s : Site). s.controller.address) (one_site p.site q.site (sym p.there ∙ q.there))

-- and its node goes by its address
pub goes_by : (v : World) (end : LinkEnd) (x : Linked) (p : Shows v end x) → address_at v end.node ≡ p.site.controller.address
goes_by v end x p = ap (λ (o : Option Site). option_map_or (λ (site : Site). site.controller.address) o (record { 0 = 0 })) p.there

-- *A port that is left alike* leaves its node the address
pub alike_address : (w v : World) (end : LinkEnd) (linked now : Linked) (p : Shows w end linked) (left : IsLeftAlike linked v end) (q : Shows v end now)
    → q.site.controller.address ≡ p.site.controller.address
alike_address w v end linked now p left q =
    same_address v end now left.linked q left.shows
    ∙ (sym left.shows.address ∙ (ap (λ (side : Side Peer). side.own.address) left.alike.adjacency ∙ p.address))

-- *A node that stays* shows its port as before
abbrev pub stays_shown : (w v : World) (end : LinkEnd) (linked : Linked) → site_at v end.node ≡ site_at w end.node → Shows w end linked → Shows v end linked
stays_shown w v end linked e p = record { site = p.site; there = e ∙ p.there; of_port = p.of_port; address = p.address }

pub stays_alike : (w v : World) (end : LinkEnd) (linked : Linked) → site_at v end.node ≡ site_at w end.node → Shows w end linked → IsLeftAlike linked v end
stays_alike w v end linked e p = record {
  linked = linked;
  shows = stays_shown w v end linked e p;
  setup = refl;
  alike = record { adjacency = refl; in_session = refl; number = refl; expected = refl; labels = refl; grants = refl };
}

-- *So the other's node keeps its own*, as both have met
pub met_address : (w v : World) (one far : LinkEnd) (said far_said said_then far_then : List Message) → site_at v far.node ≡ site_at w far.node
    → (bind : BindIn w one far said far_said) (then_bind : BindIn v one far said_then far_then)
    → then_bind.shows.site.controller.address ≡ bind.shows.site.controller.address
met_address w v one far said far_said said_then far_then e bind then_bind =
    let same : then_bind.far_linked ≡ bind.far_linked = same_shown v far then_bind.far_linked bind.far_linked then_bind.far_shows (stays_shown w v far bind.far_linked e bind.far_shows) in
    let own : then_bind.linked.port.adjacency.own ≡ bind.linked.port.adjacency.own =
    one_peer then_bind.linked.port.adjacency.own bind.linked.port.adjacency.own
    (sym then_bind.binding.met.other_knows ∙ (ap (λ (l : Linked). l.port.adjacency.stored) same ∙ bind.binding.met.other_knows)) in
    sym then_bind.shows.address ∙ (ap (λ (p : Peer). p.address) own ∙ bind.shows.address)

-- *Either way round*
abbrev pub turned : (w : World) (one far : LinkEnd) → BindByQueues w one far → BindByQueues w far one
turned w one far ends = record {
  said = ends.far_said;
  far_said = ends.said;
  bind = record { linked = ends.bind.far_linked; far_linked = ends.bind.linked; shows = ends.bind.far_shows; far_shows = ends.bind.shows; binding = swapped ends.bind.binding };
  there = ends.back;
  back = ends.there;
  written = ends.far_written;
  far_written = ends.written;
  low = ends.far_low;
  far_low = ends.low;
}

-- *By their queues* as before, where each node goes by its address
pub by_queues : (w v : World) (one far : LinkEnd) (ends : BindByQueues w one far) (said far_said : List Message) (bind : BindIn v one far said far_said)
    → bind.shows.site.controller.address ≡ ends.bind.shows.site.controller.address → bind.far_shows.site.controller.address ≡ ends.bind.far_shows.site.controller.address
    → AreComing ends.bind.shows.site.controller.address v one far said → AreComing ends.bind.far_shows.site.controller.address v far one far_said
    → Every IsWritten said → Every IsWritten far_said → BindByQueues v one far
by_queues w v one far ends said far_said bind own far_own there back written far_written = record {
  said = said;
  far_said = far_said;
  bind = bind;
  there = subst (λ from. AreComing from v one far said) (sym own) there;
  back = subst (λ from. AreComing from v far one far_said) (sym far_own) back;
  written = written;
  far_written = far_written;
  low = subst (λ from. from.0 < 2 ^ 32) (sym own) ends.low;
  far_low = subst (λ from. from.0 < 2 ^ 32) (sym far_own) ends.far_low;
}
