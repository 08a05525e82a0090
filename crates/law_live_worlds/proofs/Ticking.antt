-- the ticks of a beat, at the two ends of a link

use Rattle.std.proofs.Common.{◌≡◌, [], Option, None, Some, true, refl, sym, ◌∙◌, ap, subst}
use Rattle.std.specs.Option.{option_map_or}
use Rattle.live_model.specs.world_model.Words.{Peer, Side, Desk, Label, Session, Controller, Linked, linked_at, port_key, Topology, World, Site, site_at, IsShaped, tick_of_all, world_after}
use Rattle.live_model.specs.world_model.Controller.{Acted}
use Rattle.live_model.specs.world_model.Ticks.{ticks}
use Rattle.live_model.specs.world_model.network_model.declared.link.LinkEnd.{LinkEnd}
use Rattle.live_model.specs.world_model.port_model.Desk.{empty_desk}
use Rattle.law_port_facts.proofs.ordered_lists.Every.{every_map}
use Rattle.law_port_facts.proofs.Keyed.{at_every}
use Rattle.law_live_ticks.specs.Law.{IsKept, is_kept, next_port, ticked_on}
use Rattle.law_live_ticks.proofs.Ticking.{ports_tick_on}
use Rattle.law_live_nodes.specs.Law.{idle_work, IsPortAtPeace, IsNodeAtPeace, ticked_port, told_by, messages_of}
use Rattle.law_live_beats.specs.Law.{IsTicked}
use Rattle.law_live_beats.proofs.Ticks.{ticks_reach_all}
use Rattle.law_live_links.specs.Law.{EndOfLink, AreAgreed, left_by, MayTick, ticked}
use Rattle.law_live_links.proofs.Ticking.{ticks_keep_agreement}
use Rattle.law_live_unseen.specs.Law.{AreAlike}
use Rattle.law_live_ports.specs.Law.{MayJoinAll, IsLeft}
use Rattle.law_live_ports.proofs.Ticking.{ports_left, addresses_stay}
use Rattle.law_live_worlds.specs.Law.{Shows, end_of, IsCalm, TicksOfAllKeepAgreement}
use Rattle.law_live_worlds.proofs.Staying.{at_rest, both_alike}

-- *A port at peace* may tick, and does so as the end that it is
module _ (linked : Linked) (is : IsPortAtPeace linked) where
  may_tick : MayTick (end_of linked [])
  may_tick = subst (λ (o : Option Session). MayTick (end_of (record linked { port = record linked.port { session = o } }) [])) (sym is.peace.is_open) (record {
    kept = every_map (IsKept linked.setup) (λ (label : Label). is_kept linked.setup label ≡ true) is.session.labels (λ label k. k.kept) is.peace.labels;
    numbers = is.peace.numbers;
  })

  ticked_end : (desk : Desk) → ticked desk 0 (end_of linked []) ≡ end_of (ticked_port linked) (messages_of linked)
  ticked_end desk = ap (left_by (end_of linked [])) (ports_tick_on linked.setup desk (idle_work linked) is.session is.peace)
      ∙ subst (λ (o : Option Session). left_by (end_of linked []) (ticked_on linked.setup (idle_work linked) is.session)
      ≡ end_of (option_map_or (λ (s : Session). record linked { port = next_port linked.setup (idle_work linked) s }) o linked)
      (option_map_or (λ (s : Session). told_by (ticked_on linked.setup (idle_work linked) s).actions) o [])) (sym is.peace.is_open) refl

-- the party of its adjacency stays
ticked_own : (linked : Linked) → (ticked_port linked).port.adjacency.own ≡ linked.port.adjacency.own
ticked_own linked = by linked.port.session
  where
    by : (o : Option Session) → (option_map_or (λ (s : Session). record linked { port = next_port linked.setup (idle_work linked) s }) o linked).port.adjacency.own ≡ linked.port.adjacency.own
    by None = refl
    by (Some s) = refl

ticked_setup : (linked : Linked) → (ticked_port linked).setup ≡ linked.setup
ticked_setup linked = by linked.port.session
  where
    by : (o : Option Session) → (option_map_or (λ (s : Session). record linked { port = next_port linked.setup (idle_work linked) s }) o linked).setup ≡ linked.setup
    by None = refl
    by (Some s) = refl

-- *One end*, behind the ticks of all
pub record IsTickedAt (v : World) (place : LinkEnd) (linked : Linked) : Type 0 where
  pub peace : IsPortAtPeace linked
  pub after : Linked
  pub shows : Shows v place after
  pub setup : after.setup ≡ (ticked_port linked).setup
  pub alike : AreAlike (ticked_port linked).port after.port

module _ (topology : Topology) (w : World) (shaped : IsShaped w) (place : LinkEnd) (calm : IsCalm w place.node) (linked : Linked) (shows : Shows w place linked) where
  one_site : (x y : Site) → Some x ≡ Some y → x ≡ y
  one_site x y e = cc

  same_site : shows.site ≡ calm.site
  same_site = one_site shows.site calm.site (sym shows.there ∙ calm.there)

  reached : IsTicked calm.site (site_at (world_after topology w (tick_of_all w)) place.node)
  reached = ticks_reach_all topology w place.node calm.site shaped calm.there

  -- the controller that ticks is the one that was at peace
  abbrev a : Acted
  a = reached.ticked.controller

  abbrev acting_as : Controller → Acted
  acting_as c = record { controller = c; notes = a.notes; numbers = a.numbers }

  peace_now : IsNodeAtPeace a
  peace_now = subst (λ (c : Controller). IsNodeAtPeace (acting_as c)) (sym reached.ticked.own_controller) (record {
    up = calm.peace.up;
    heard = calm.peace.heard;
    nothing_asked = calm.peace.nothing_asked;
    ports = calm.peace.ports;
    ports_apart = calm.peace.ports_apart;
  })

  may_join_now : MayJoinAll a
  may_join_now = subst (λ (c : Controller). MayJoinAll (acting_as c)) (sym reached.ticked.own_controller) calm.may_join

  found_before : linked_at calm.site.controller place.port ≡ Some linked
  found_before = ap (λ (s : Site). linked_at s.controller place.port) (sym same_site) ∙ shows.of_port

  found : linked_at a.controller place.port ≡ Some linked
  found = ap (λ (c : Controller). linked_at c place.port) reached.ticked.own_controller ∙ found_before

  left : IsLeft linked (linked_at (ticks a).controller place.port)
  left = ports_left a place.port linked peace_now may_join_now found

  pub end_ticked : IsTickedAt (world_after topology w (tick_of_all w)) place linked
  end_ticked = record {
    peace = at_every port_key IsPortAtPeace place.port.0 calm.site.controller.ports linked calm.peace.ports found_before;
    after = left.linked;
    shows = record {
      site = reached.after;
      there = reached.there;
      of_port = ap (λ (c : Controller). linked_at c place.port) reached.ticked.controller_ticked ∙ left.there;
      address = ap (λ (side : Side Peer). side.own.address) left.alike.adjacency
          ∙ (ap (λ (own : Peer). own.address) (ticked_own linked)
          ∙ (shows.address ∙ (ap (λ (s : Site). s.controller.address) same_site
          ∙ (sym (ap (λ (c : Controller). c.address) reached.ticked.own_controller)
          ∙ (sym (addresses_stay a peace_now may_join_now) ∙ sym (ap (λ (c : Controller). c.address) reached.ticked.controller_ticked))))));
    };
    setup = left.setup ∙ sym (ticked_setup linked);
    alike = left.alike;
  }

pub ticks_of_all_keep_agreement : TicksOfAllKeepAgreement
ticks_of_all_keep_agreement topology w one far shaped calm far_calm agree =
    let near : IsTickedAt (world_after topology w (tick_of_all w)) one agree.linked = end_ticked topology w shaped one calm agree.linked agree.shows in
    let there : IsTickedAt (world_after topology w (tick_of_all w)) far agree.far_linked = end_ticked topology w shaped far far_calm agree.far_linked agree.far_shows in
    record {
      linked = near.after;
      far_linked = there.after;
      shows = near.shows;
      far_shows = there.shows;
      agreed = both_alike (ticked_port agree.linked) near.after (ticked_port agree.far_linked) there.after (messages_of agree.linked) (messages_of agree.far_linked)
          near.setup near.alike there.setup there.alike (both_tick near.peace there.peace);
    }
  where
    both_tick : IsPortAtPeace agree.linked → IsPortAtPeace agree.far_linked
        → AreAgreed (end_of (ticked_port agree.linked) (messages_of agree.linked)) (end_of (ticked_port agree.far_linked) (messages_of agree.far_linked))
    both_tick peace far_peace =
        subst (λ (x : EndOfLink). AreAgreed x (end_of (ticked_port agree.far_linked) (messages_of agree.far_linked))) (ticked_end agree.linked peace empty_desk)
        (subst (λ (y : EndOfLink). AreAgreed (ticked empty_desk 0 (end_of agree.linked [])) y) (ticked_end agree.far_linked far_peace empty_desk)
        (ticks_keep_agreement empty_desk empty_desk 0 0 (end_of agree.linked []) (end_of agree.far_linked []) (at_rest agree)
        (may_tick agree.linked peace) (may_tick agree.far_linked far_peace)))
