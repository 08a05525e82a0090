-- a beat: its ticks, its carries, and what is sent behind them

use Rattle.std.proofs.Common.{◌≡◌, ◌<◌, ◌^◌, List, [], Option, None, Some, map, refl, sym, ◌∙◌, ap, subst}
use Rattle.std.specs.Option.{option_map_or}
use Rattle.world_model.specs.Words.{Addr, Peer, Side, Session, Linked, Topology, World, Site, IsTopology, IsShaped, tick_of_all, world_after}
use Rattle.world_model.specs.ifmp_wire.declared.message.Message.{Message}
use Rattle.world_model.specs.network_model.declared.link.LinkEnd.{LinkEnd}
use Rattle.world_model.specs.network_model.declared.event.Event.TheVariants.{Carry}
use Rattle.live_model.specs.Beats.{Beat, settling, settled, behind}
use Rattle.law_live_asking.specs.law_live_ticks.Law.{next_port}
use Rattle.law_live_asking.specs.law_live_nodes.Law.{IsNodeAtPeace, idle_work, ticked_port, messages_of}
use Rattle.law_live_asking.specs.law_live_saying.Law.{ticking}
use Rattle.law_live_asking.specs.law_live_worlds.Law.{Shows, AgreeIn, IsCalm}
use Rattle.law_live_asking.proofs.law_live_worlds.Ticking.{IsTickedAt, end_ticked, ticks_of_all_keep_agreement}
use Rattle.law_live_asking.specs.law_live_orders.Law.{coming}
use Rattle.law_live_asking.specs.law_live_orders.Messages.{AreComing}
use Rattle.law_live_asking.proofs.law_live_going.Ticks.{after_all, ticks_say_all}
use Rattle.law_live_asking.specs.law_live_bound.Worlds.{BindIn}
use Rattle.law_live_asking.proofs.law_live_bound.Worlds.{agreeing_worlds_bind}
use Rattle.law_live_binding_beats.specs.Law.{BindByQueues}
use Rattle.law_live_binding_beats.specs.Beats.{IsBindingBeat, BindThrough, BindingBeatsSettle}
use Rattle.law_live_binding_beats.proofs.Shown.{one_site, same_address}
use Rattle.law_live_binding_beats.proofs.Going.{carries_bind_on, still_ends_agree}
use Rattle.law_live_binding_beats.proofs.Sending.{sendings_bind_on}

-- a node that is calm is at peace as its port shows
peace_of : (w : World) (place : LinkEnd) (linked : Linked) (shows : Shows w place linked) → IsCalm w place.node → IsNodeAtPeace (ticking w shows.site)
peace_of w place linked shows calm = subst (λ (s : Site). IsNodeAtPeace (ticking w s)) (one_site calm.site shows.site (sym calm.there ∙ shows.there)) (record {
  up = calm.peace.up;
  heard = calm.peace.heard;
  nothing_asked = calm.peace.nothing_asked;
  ports = calm.peace.ports;
  ports_apart = calm.peace.ports_apart;
})

-- *A port that ticks* stays the party that it is
ticked_address : (linked : Linked) → (ticked_port linked).port.adjacency.own.address ≡ linked.port.adjacency.own.address
ticked_address linked = by linked.port.session
  where
    by : (o : Option Session) → (option_map_or (λ (s : Session). record linked { port = next_port linked.setup (idle_work linked) s }) o linked).port.adjacency.own.address ≡ linked.port.adjacency.own.address
    by None = refl
    by (Some s) = refl

module _ (topology : Topology) (w : World) (one far : LinkEnd) (agree : AgreeIn w one far [] []) (is : IsTopology topology) (shaped : IsShaped w)
    (empty : coming w one far ≡ []) (far_empty : coming w far one ≡ []) (beat : Beat) (binding : IsBindingBeat topology w one far agree beat) where
  abbrev v : World
  v = world_after topology w (tick_of_all w)

  abbrev messages : List Message
  messages = messages_of agree.linked

  abbrev far_messages : List Message
  far_messages = messages_of agree.far_linked

  bind : BindIn v one far messages far_messages
  bind = agreeing_worlds_bind v one far messages far_messages (ticks_of_all_keep_agreement topology w one far shaped binding.near binding.far_end agree)

  there : AreComing agree.shows.site.controller.address v one far messages
  there = ticks_say_all topology w one far agree.shows.site agree.linked is shaped agree.shows.there (peace_of w one agree.linked agree.shows binding.near) agree.shows.of_port empty binding.ticks

  back : AreComing agree.far_shows.site.controller.address v far one far_messages
  back = ticks_say_all topology w far one agree.far_shows.site agree.far_linked is shaped agree.far_shows.there (peace_of w far agree.far_linked agree.far_shows binding.far_end) agree.far_shows.of_port far_empty binding.far_ticks

  -- each node goes by its address
  keeps : (end : LinkEnd) (linked now : Linked) (shows : Shows w end linked) → IsCalm w end.node → (then_shows : Shows v end now) → then_shows.site.controller.address ≡ shows.site.controller.address
  keeps end linked now shows calm then_shows =
      let t : IsTickedAt v end linked = end_ticked topology w shaped end calm linked shows in
      same_address v end now t.after then_shows t.shows
      ∙ (sym t.shows.address ∙ (ap (λ (side : Side Peer). side.own.address) t.alike.adjacency ∙ (ticked_address linked ∙ shows.address)))

  -- *Behind the ticks*
  ticked_ends : BindByQueues v one far
  ticked_ends =
      let own : bind.shows.site.controller.address ≡ agree.shows.site.controller.address = keeps one agree.linked bind.linked agree.shows binding.near bind.shows in
      let far_own : bind.far_shows.site.controller.address ≡ agree.far_shows.site.controller.address = keeps far agree.far_linked bind.far_linked agree.far_shows binding.far_end bind.far_shows in
      record {
        said = messages;
        far_said = far_messages;
        bind = bind;
        there = subst (λ (from : Addr). AreComing from v one far messages) (sym own) there;
        back = subst (λ (from : Addr). AreComing from v far one far_messages) (sym far_own) back;
        written = binding.written;
        far_written = binding.far_written;
        low = subst (λ (from : Addr). from.0 < 2 ^ 32) (sym own) binding.low;
        far_low = subst (λ (from : Addr). from.0 < 2 ^ 32) (sym far_own) binding.far_low;
      }

  -- *Behind the carries*, and behind what is sent
  carried : BindByQueues (settled topology w beat) one far
  carried = subst (λ (u : World). BindByQueues u one far) (sym (after_all topology w (tick_of_all w) (map Carry beat.carries)))
      (carries_bind_on topology v one far beat.carries is ticked_ends binding.carries)

  sent : BindByQueues (behind topology w beat) one far
  sent = subst (λ (u : World). BindByQueues u one far) (sym (after_all topology w (settling w beat) beat.sending))
      (sendings_bind_on topology (settled topology w beat) one far beat.sending is carried binding.sending)

  pub through : BindThrough topology w one far beat
  through = record {
    carried = carried;
    sent = sent;
    settles = λ still. still_ends_agree (settled topology w beat) one far carried still;
    rests = λ still. still_ends_agree (behind topology w beat) one far sent still;
  }

pub binding_beats_settle : BindingBeatsSettle
binding_beats_settle topology w one far beat agree is shaped empty far_empty binding = through topology w one far agree is shaped empty far_empty beat binding
