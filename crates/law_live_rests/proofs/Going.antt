-- a stretch of carries, one by one

use Rattle.std.proofs.Common.{◌≡◌, ◌≢◌, List, [], ◌∷◌, ◌++◌, Option, refl, sym, ap, subst, map}
use Rattle.std.specs.Option.{option_map_or}
use Rattle.live_model.specs.world_model.Words.{Addr, Up, Topology, World, Site, next, tick_of_all, world_after}
use Rattle.live_model.specs.world_model.ifmp_wire.declared.message.Message.{Message}
use Rattle.live_model.specs.world_model.network_model.declared.link.LinkEnd.{LinkEnd}
use Rattle.live_model.specs.world_model.network_model.declared.event.Event.{Event}
use Rattle.live_model.specs.world_model.network_model.declared.event.Event.TheVariants.{Carry}
use Rattle.law_live_nodes.specs.Law.{messages_of}
use Rattle.law_live_worlds.specs.Law.{AgreeIn}
use Rattle.law_live_worlds.proofs.Staying.{agreement_goes_both_ways, like_worlds_agree}
use Rattle.law_live_worlds.proofs.Ticking.{ticks_of_all_keep_agreement}
use Rattle.law_live_arrivals.specs.Law.{PortHears}
use Rattle.law_live_arrivals.proofs.Arriving.{hearings_keep}
use Rattle.law_live_elsewhere.proofs.Elsewhere.{carries_elsewhere_keep_agreement}
use Rattle.law_live_rests.specs.Law.{address_at, Go, ended, elsewhere, heard, heard_back, alike, StretchesComeToRest, BeatsComeToRest}

after_all : (topology : Topology) (w : World) (xs ys : List Event) → world_after topology w (xs ++ ys) ≡ world_after topology (world_after topology w xs) ys
after_all topology w [] ys = refl
after_all topology w (x ∷ xs) ys = after_all topology (next topology w x) xs ys

-- *One hears the other*, under the address of its node
far_hears : (topology : Topology) (w : World) (one far : LinkEnd) (message : Message) (said far_said : List Message) → one.node.0 ≢ far.node.0
    → AgreeIn w one far (message ∷ said) far_said → PortHears topology w far (address_at w one.node) message → AgreeIn (next topology w (Carry (Up far.node))) one far said far_said
far_hears topology w one far message said far_said apart agree hears = hearings_keep topology w one far message said far_said apart agree
    (subst (λ (from : Addr). PortHears topology w far from message)
    (ap (λ (o : Option Site). option_map_or (λ (site : Site). site.controller.address) o (record { 0 = 0 })) agree.shows.there) hears)

rests : (topology : Topology) (one far : LinkEnd) → one.node.0 ≢ far.node.0 → (w : World) (events : List Event) (said far_said : List Message)
    → Go topology one far w events said far_said → AgreeIn w one far said far_said → AgreeIn (world_after topology w events) one far [] []
rests topology one far apart w [] said far_said ended agree = agree
rests topology one far apart w (event ∷ events) said far_said (elsewhere place is go) agree =
    rests topology one far apart (next topology w (Carry place)) events said far_said go (carries_elsewhere_keep_agreement topology w one far place said far_said is agree)
rests topology one far apart w (event ∷ events) (first ∷ said) far_said (heard message hears go) agree =
    rests topology one far apart (next topology w (Carry (Up far.node))) events said far_said go (far_hears topology w one far message said far_said apart agree hears)
rests topology one far apart w (event ∷ events) said (first ∷ far_said) (heard_back message hears go) agree =
    rests topology one far apart (next topology w (Carry (Up one.node))) events said far_said go
    (agreement_goes_both_ways (next topology w (Carry (Up one.node))) far one far_said said
    (far_hears topology w far one message far_said said (λ e. apart (sym e)) (agreement_goes_both_ways w one far said (message ∷ far_said) agree) hears))
rests topology one far apart w (event ∷ events) said far_said (alike place near there go) agree =
    rests topology one far apart (next topology w (Carry place)) events said far_said go
    (like_worlds_agree w (next topology w (Carry place)) one far said far_said agree (near agree.linked agree.shows) (there agree.far_linked agree.far_shows))

pub stretches_come_to_rest : StretchesComeToRest
stretches_come_to_rest topology w one far events said far_said apart agree go = rests topology one far apart w events said far_said go agree

pub beats_come_to_rest : BeatsComeToRest
beats_come_to_rest topology w one far beat apart shaped calm far_calm agree go =
    subst (λ (v : World). AgreeIn v one far [] []) (sym (after_all topology w (tick_of_all w) (map Carry beat.carries)))
    (rests topology one far apart (world_after topology w (tick_of_all w)) (map Carry beat.carries) (messages_of agree.linked) (messages_of agree.far_linked) go
    (ticks_of_all_keep_agreement topology w one far shaped calm far_calm agree))
