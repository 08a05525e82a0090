-- a beat: its ticks, and then its carries

use Rattle.std.proofs.Common.{◌≡◌, map, Some, sym, ◌∙◌, ap, subst}
use Rattle.world_model.specs.Words.{Linked, World, Site, tick_of_all, world_after}
use Rattle.world_model.specs.network_model.declared.link.LinkEnd.{LinkEnd}
use Rattle.world_model.specs.network_model.declared.event.Event.TheVariants.{Carry}
use Rattle.live_model.specs.Beats.{settling}
use Rattle.law_live_nodes.specs.Law.{IsNodeAtPeace, messages_of}
use Rattle.law_live_saying.specs.Law.{ticking}
use Rattle.law_live_worlds.specs.Law.{Shows, IsCalm}
use Rattle.law_live_rests.proofs.Going.{beats_come_to_rest}
use Rattle.law_live_orders.specs.Law.{coming}
use Rattle.law_live_orders.specs.Messages.{AreComing}
use Rattle.law_live_going.specs.Beats.{BeatsSettle}
use Rattle.law_live_going.proofs.Going.{carries_go}
use Rattle.law_live_going.proofs.Ticks.{after_all, ticks_say_all}

one_site : (a b : Site) → Some a ≡ Some b → a ≡ b
one_site a b e = cc

-- a node that is calm is at peace as its port shows
peace_of : (w : World) (place : LinkEnd) (linked : Linked) (shows : Shows w place linked) → IsCalm w place.node → IsNodeAtPeace (ticking w shows.site)
peace_of w place linked shows calm = subst (λ (s : Site). IsNodeAtPeace (ticking w s)) (one_site calm.site shows.site (sym calm.there ∙ shows.there)) (record {
  up = calm.peace.up;
  heard = calm.peace.heard;
  nothing_asked = calm.peace.nothing_asked;
  ports = calm.peace.ports;
  ports_apart = calm.peace.ports_apart;
})

pub beats_settle : BeatsSettle
beats_settle topology w one far beat agree apart is shaped empty far_empty calm =
    let v : World = world_after topology w (tick_of_all w) in
    let there : AreComing agree.shows.site.controller.address v one far (messages_of agree.linked) =
    ticks_say_all topology w one far agree.shows.site agree.linked is shaped agree.shows.there (peace_of w one agree.linked agree.shows calm.near) agree.shows.of_port empty calm.ticks in
    let back : AreComing agree.far_shows.site.controller.address v far one (messages_of agree.far_linked) =
    ticks_say_all topology w far one agree.far_shows.site agree.far_linked is shaped agree.far_shows.there (peace_of w far agree.far_linked agree.far_shows calm.far_end) agree.far_shows.of_port far_empty calm.far_ticks in
    let end : world_after topology w (settling w beat) ≡ world_after topology v (map Carry beat.carries) = after_all topology w (tick_of_all w) (map Carry beat.carries) in
    beats_come_to_rest topology w one far beat apart shaped calm.near calm.far_end agree
    (carries_go topology v one far beat.carries agree.shows.site.controller.address agree.far_shows.site.controller.address (messages_of agree.linked) (messages_of agree.far_linked)
    is calm.low calm.far_low calm.written calm.far_written calm.carries there back
    (ap (λ (u : World). coming u one far) (sym end) ∙ calm.empties) (ap (λ (u : World). coming u far one) (sym end) ∙ calm.far_empties))
