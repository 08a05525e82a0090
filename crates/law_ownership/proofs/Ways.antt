-- messages of IFMP with an instance that their sender has, or was cleared under, are on the default channel of their way: on that of another port they
-- would tell that its far end was cleared under this instance, and no two have had one instance

use Rattle.std.proofs.Common.{◌≡◌, ℕ, zero, suc, Bool, true, List, [], ◌∷◌, ◌++◌, Option, None, Some, refl, sym, ◌∙◌, ap, subst, arith}
use Rattle.std.specs.Prelude.{Contains, is_some, slice_get, slice_index}
use Rattle.std.proofs.Common.{inl, inr}
use Rattle.std.specs.Option.{option_map}
use Rattle.std.proofs.lemmas.List.Elements.{Contains-append_cases, Contains-append_left, Contains-append_right}
use Rattle.law_frame_readings.specs.world_model.Words.{NodeId, PortNo, Down, Up, Out, Channel, channel_on_control, Instance, Mark, Peer, Addr, Side, Cell, names_of, Frame, payload_of, Standing, default_channel, default_home, same_channel, port_on, on_link, Topology, is_linked, World, next, worlds_from, world_after, queue_at, side_at, chain_at, on_channel, on_the_way, on_default_channel, ifmp_under, gsmp_under, copy_under, Past, past_of, frames_of, Way, IsWay, IsOwn, WasCleared, WaitsAs}
use Rattle.law_frame_readings.specs.world_model.ifmp_wire.declared.message.Message.{Message}
use Rattle.law_frame_readings.specs.world_model.gsmp_wire.declared.message.Message.{Message as GsmpMessage}
use Rattle.law_frame_readings.specs.world_model.gsmp_wire.Layout.{octets_of as gsmp_octets}
use Rattle.law_frame_readings.specs.law_controller_views.Lifted.{payload_by}
use Rattle.law_frame_readings.specs.world_model.network_model.declared.link.LinkEnd.{LinkEnd}
use Rattle.law_frame_readings.specs.world_model.Topology.{peer_of}
use Rattle.law_frame_readings.specs.world_model.network_model.declared.event.Event.{Event}
use Rattle.law_frame_readings.specs.world_model.World.{opened}
use Rattle.law_frame_readings.proofs.law_shown_cells.Frames.{same_self, same_is}
use Rattle.law_unused_labels.proofs.law_causes.Shown.{IsPeer, peer_back}
use Rattle.law_unused_labels.proofs.law_causes.Ends.{control_parts}
use Rattle.law_frame_readings.proofs.law_port_facts.Keyed.{by_eq}
use Rattle.law_frame_readings.specs.law_world_views.Made.{AreMade}
use Rattle.law_frame_readings.specs.law_world_views.Tied.{tells_its_own}
use Rattle.law_frame_readings.specs.law_world_views.Marks.{Heading, heading_at, Means, early, control, local, plain, labelled}
use Rattle.law_frame_readings.specs.Reading.{MarksAreRead, HasTold, HasSaid}
use Rattle.law_run_facts.specs.Drawn.{ByPort, own_at}
use Rattle.law_run_facts.specs.Drawn.{DrawnOnce, RunsDrawOnce}
use Rattle.law_unused_labels.proofs.Reading.{filtered_back}
use Rattle.law_ownership.specs.Owning.{IsKept, HasOwnWays}
use Rattle.law_ownership.specs.Places.{IsPlaced, of_gsmp, of_link, HasPlaces, WaysAreOwn}

some_is : {X : Type 0} (x y : X) → Some x ≡ Some y → x ≡ y
some_is x y e = cc

there_is : {X : Type 0} (o : Option X) → is_some o ≡ true → (x : X) × (o ≡ Some x)
there_is None e = absurd (cc e)
there_is (Some x) e = (x, refl)

got : (xs : List World) (k : ℕ) (x : World) → slice_get xs k ≡ Some x → Contains xs x
got [] k x e = absurd (cc e)
got (y ∷ ys) zero x e = (zero, omega arith, some_is y x e)
got (y ∷ ys) (suc k) x e = (let c : Contains ys x = got ys k x e in (suc c.0, omega (arith, c.1), c.2))

-- a payload isn't both GSMP's and in IP's encapsulation
apart : (source : Addr) (message : Message) (other : GsmpMessage) → payload_by source message ≡ gsmp_octets other → ⊥
apart source message other e = omega (arith, ap (λ (octets : List ℕ). slice_index octets 6) e)

one_payload : (o : Option (List ℕ)) (x y : List ℕ) → o ≡ Some x → o ≡ Some y → x ≡ y
one_payload o x y e f = some_is x y (sym e ∙ f)

on_home : (c : Channel) (p : PortNo) → port_on c ≡ p → same_channel (on_link c) default_channel ≡ true → same_channel c (default_home p).channel ≡ true
on_home c p at_port on_default = subst (λ (x : Channel). same_channel c x ≡ true) is (same_self c)
  where
    is : c ≡ (default_home p).channel
    is = sym (control_parts c) ∙ (ap (channel_on_control (port_on c)) (same_is (on_link c) default_channel on_default) ∙ ap (λ (q : PortNo). channel_on_control q default_channel) at_port)

module _ (read : MarksAreRead) (past : Past) (kept : IsKept past) (drawn : DrawnOnce past) (now : Contains past.worlds past.now) (places : HasPlaces past) where
  abbrev w : World
  w = past.now

  abbrev frames : List Frame
  frames = frames_of past

  made : AreMade frames
  made = kept.world.made

  no_packet : (mark : Mark) (message : Message) → ifmp_under frames mark ≡ Some message → mark.packet ≡ 0
  no_packet mark message e = by_eq mark.packet 0 (λ same t. same) (λ other f. absurd (cc (sym (read.no_ifmp frames mark made other) ∙ e)))

  no_packet_copy : (mark : Mark) (s : Standing) → copy_under frames mark ≡ Some s → mark.packet ≡ 0
  no_packet_copy mark s e = by_eq mark.packet 0 (λ same t. same) (λ other f. absurd (cc (sym (read.no_copy frames mark made other) ∙ e)))

  not_both : (mark : Mark) (message : Message) (other : GsmpMessage) → ifmp_under frames mark ≡ Some message → gsmp_under frames mark ≡ Some other → ⊥
  not_both mark message other e f =
      let t : HasTold frames mark message = read.ifmp frames mark message made e in
      let s : HasSaid frames mark other = read.gsmp frames mark other made f in
      apart t.item.source t.item.message other (sym t.told.filled ∙ (one_payload (payload_of frames mark) t.payload s.payload t.made s.made ∙ s.said.filled))

  -- *What a control frame means*: it is on a default channel, and where it goes to a link's end
  on_default : (to : Heading) (last : Bool) (mark : Mark) → mark.packet ≡ 0 → Means past to last mark → same_channel to.channel default_channel ≡ true
  on_default to last mark none (early d l c) = d
  on_default to last mark none (control d c source message e) = d
  on_default to last mark none (local d end c) = d
  on_default to last mark none (plain d l far end packet e come newest) = d
  on_default to last mark none (labelled d far end flow bound payload packet e carried come newest) = absurd (omega (arith, none, come.counted))

  -- *One instance*: the ports that have had it are one
  pub record HasHad (end : LinkEnd) (instance : ℕ) : Type 0 where
    world : World
    among : Contains past.worlds world
    own : own_at world (ByPort end) ≡ Some instance

  has_now : (end : LinkEnd) (instance : Instance) → IsOwn instance (side_at w end) → HasHad end instance.0
  has_now end instance own = record { world = w; among = now; own = owned (side_at w end) own }
    where
      owned : (o : Option (Side Peer)) → IsOwn instance o → option_map (λ (side : Side Peer). side.own.instance.0) o ≡ Some instance.0
      owned None h = absurd h
      owned (Some side) h = ap Some h

  had_before : (end : LinkEnd) (instance : ℕ) → WasCleared past end instance → HasHad end instance
  had_before end instance c = record { world = c.before; among = got past.worlds c.place c.before c.is_before; own = waited (side_at c.before end) c.waits }
    where
      waited : (o : Option (Side Peer)) → WaitsAs instance o → option_map (λ (side : Side Peer). side.own.instance.0) o ≡ Some instance
      waited None h = absurd h
      waited (Some side) h = ap Some h.1

  same_end : (one other : LinkEnd) (instance : ℕ) → WasCleared past one instance → HasHad other instance → one ≡ other
  same_end one other instance c had = port_is one other (drawn.once (had_before one instance c).world had.world (ByPort one) (ByPort other) instance (had_before one instance c).among had.among (had_before one instance c).own had.own)
    where
      port_is : (a b : LinkEnd) → ByPort a ≡ ByPort b → a ≡ b
      port_is a b e = cc e

  module _ (way : Way) (on : IsWay past.topology way) where
    down : IsPeer past.topology way.down way.up
    down = peer_back past.topology kept.topology_is way.down way.up on.upstream

    up : IsPeer past.topology way.up way.down
    up = peer_back past.topology kept.topology_is way.up way.down on.downstream

    linked_out : (node : NodeId) (port : PortNo) (far : LinkEnd) → peer_of past.topology node port ≡ Some far → is_linked past.topology node port ≡ true
    linked_out node port far e = ap is_some e

    -- the way on which a port of a link is the upstream, or the downstream
    way_up : (node : NodeId) (port : PortNo) (far : LinkEnd) → peer_of past.topology node port ≡ Some far → IsWay past.topology (record { down = far; up = record { node = node; port = port } })
    way_up node port far e = record { downstream = e; upstream = (peer_back past.topology kept.topology_is (record { node = node; port = port }) far e).back }

    way_down : (node : NodeId) (port : PortNo) (far : LinkEnd) → peer_of past.topology node port ≡ Some far → IsWay past.topology (record { down = record { node = node; port = port }; up = far })
    way_down node port far e = record { downstream = (peer_back past.topology kept.topology_is (record { node = node; port = port }) far e).back; upstream = e }

    module _ (cell : Cell) (message : Message) (under : ifmp_under frames cell.mark ≡ Some message) (its_own : tells_its_own message ≡ true) (had : HasHad way.down (names_of message).sender.0) where
      none : cell.mark.packet ≡ 0
      none = no_packet cell.mark message under

      linked_there : (node : NodeId) → IsPlaced past node cell → is_linked past.topology node (port_on cell.header.channel) ≡ true
      linked_there node (of_gsmp e other f) = absurd (not_both cell.mark message other under f)
      linked_there node (of_link e) = e

      abbrev stands_on : (channel : Channel) → Cell → Bool
      stands_on channel c = same_channel c.header.channel channel

      -- *In front of the controller*
      waits_up : Contains (queue_at w (Up way.up.node)) cell → same_channel cell.header.channel (default_home way.up.port).channel ≡ true
      waits_up has = on_home cell.header.channel way.up.port same default
        where
          port : PortNo
          port = port_on cell.header.channel

          default : same_channel (on_link cell.header.channel) default_channel ≡ true
          default = on_default (heading_at past.topology (Up way.up.node) cell.header.channel) cell.header.last cell.mark none (kept.world.meanings (Up way.up.node) cell down.node has)

          peer : (far : LinkEnd) × (peer_of past.topology way.up.node port ≡ Some far)
          peer = there_is (peer_of past.topology way.up.node port) (linked_there way.up.node (places way.up.node down.node cell (inr has) none))

          here : LinkEnd
          here = record { node = way.up.node; port = port }

          said : WasCleared past peer.0 (names_of message).sender.0
          said = (kept.world.cleared (record { down = peer.0; up = here }) (way_up way.up.node port peer.0 peer.1)).0.said cell message
              (Contains-append_right (chain_at w here) _ cell (Contains-append_left (on_channel (default_home port).channel (queue_at w (Up way.up.node))) _ cell
              (filtered_back (stands_on (default_home port).channel) (queue_at w (Up way.up.node)) cell has (on_home cell.header.channel port refl default)))) under its_own

          far_is : peer.0 ≡ way.down
          far_is = same_end peer.0 way.down (names_of message).sender.0 said had

          same : port ≡ way.up.port
          same = ap (λ (e : LinkEnd). e.port) (some_is here way.up (sym (way_up way.up.node port peer.0 peer.1).upstream ∙ (ap (λ (e : LinkEnd). peer_of past.topology e.node e.port) far_is ∙ on_way)))
            where
              on_way : peer_of past.topology way.down.node way.down.port ≡ Some way.up
              on_way = up.back

      -- *In front of the switch*
      waits_down : Contains (queue_at w (Down way.down.node)) cell → same_channel cell.header.channel (default_home way.down.port).channel ≡ true
      waits_down has = on_home cell.header.channel way.down.port same default
        where
          port : PortNo
          port = port_on cell.header.channel

          default : same_channel (on_link cell.header.channel) default_channel ≡ true
          default = on_default (heading_at past.topology (Down way.down.node) cell.header.channel) cell.header.last cell.mark none (kept.world.meanings (Down way.down.node) cell up.node has)

          peer : (far : LinkEnd) × (peer_of past.topology way.down.node port ≡ Some far)
          peer = there_is (peer_of past.topology way.down.node port) (linked_there way.down.node (places way.down.node up.node cell (inl has) none))

          here : LinkEnd
          here = record { node = way.down.node; port = port }

          said : WasCleared past here (names_of message).sender.0
          said = (kept.world.cleared (record { down = here; up = peer.0 }) (way_down way.down.node port peer.0 peer.1)).0.said cell message
              (Contains-append_right (chain_at w peer.0) _ cell (Contains-append_right (on_channel (default_home peer.0.port).channel (queue_at w (Up peer.0.node))) _ cell
              (Contains-append_right (on_channel default_channel (queue_at w (Out way.down.node port))) _ cell
              (filtered_back (stands_on (default_home port).channel) (queue_at w (Down way.down.node)) cell has (on_home cell.header.channel port refl default))))) under its_own

          same : port ≡ way.down.port
          same = ap (λ (e : LinkEnd). e.port) (same_end here way.down (names_of message).sender.0 said had)

      -- *On the link*
      waits_out : Contains (queue_at w (Out way.down.node way.down.port)) cell → same_channel cell.header.channel default_channel ≡ true
      waits_out has = on_default (heading_at past.topology (Out way.down.node way.down.port) cell.header.channel) cell.header.last cell.mark none
          (kept.world.meanings (Out way.down.node way.down.port) cell (up.node, linked_out way.down.node way.down.port way.up up.back) has)

      pub told_there : Contains (on_the_way w way.down way.up) cell → Contains (on_default_channel w way.down way.up) cell
      told_there has = elim (Contains-append_cases (chain_at w way.up) rest_0 cell has) [
        | inl chained ↦ Contains-append_left (chain_at w way.up) _ cell chained
        | inr more ↦ elim (Contains-append_cases (queue_at w (Up way.up.node)) rest_1 cell more) [
          | inl waits ↦ Contains-append_right (chain_at w way.up) _ cell (Contains-append_left (on_channel (default_home way.up.port).channel (queue_at w (Up way.up.node))) _ cell
              (filtered_back (stands_on (default_home way.up.port).channel) (queue_at w (Up way.up.node)) cell waits (waits_up waits)))
          | inr more ↦ elim (Contains-append_cases (queue_at w (Out way.down.node way.down.port)) (queue_at w (Down way.down.node)) cell more) [
            | inl out ↦ Contains-append_right (chain_at w way.up) _ cell (Contains-append_right (on_channel (default_home way.up.port).channel (queue_at w (Up way.up.node))) _ cell
                (Contains-append_left (on_channel default_channel (queue_at w (Out way.down.node way.down.port))) _ cell
                (filtered_back (stands_on default_channel) (queue_at w (Out way.down.node way.down.port)) cell out (waits_out out))))
            | inr first ↦ Contains-append_right (chain_at w way.up) _ cell (Contains-append_right (on_channel (default_home way.up.port).channel (queue_at w (Up way.up.node))) _ cell
                (Contains-append_right (on_channel default_channel (queue_at w (Out way.down.node way.down.port))) _ cell
                (filtered_back (stands_on (default_home way.down.port).channel) (queue_at w (Down way.down.node)) cell first (waits_down first))))
          ]
        ]
      ]
        where
          rest_1 : List Cell
          rest_1 = queue_at w (Out way.down.node way.down.port) ++ queue_at w (Down way.down.node)

          rest_0 : List Cell
          rest_0 = queue_at w (Up way.up.node) ++ rest_1

    -- *A copy of a request* is on GSMP's channel
    pub copy_there : (cell : Cell) (s : Standing) → Contains (queue_at w (Down way.up.node)) cell → copy_under frames cell.mark ≡ Some s → same_channel cell.header.channel default_channel ≡ true
    copy_there cell s has copy = by (places way.up.node down.node cell (inl has) none)
      where
        none : cell.mark.packet ≡ 0
        none = no_packet_copy cell.mark s copy

        no_ifmp : (source : Addr) (message : Message) → payload_of frames cell.mark ≡ Some (payload_by source message) → ⊥
        no_ifmp source message made_so =
            let c : _ = read.copy frames cell.mark s made copy in
            apart source message c.0 (one_payload (payload_of frames cell.mark) (payload_by source message) c.2.payload made_so c.2.made ∙ c.2.said.filled)

        linked_no : (far : LinkEnd) → peer_of past.topology way.up.node (port_on cell.header.channel) ≡ Some far → Means past (heading_at past.topology (Down way.up.node) cell.header.channel) cell.header.last cell.mark → ⊥
        linked_no far e (early d l c) = c none
        linked_no far e (control d c source message f) = no_ifmp source message f
        linked_no far e (local d end c) = cc (sym e ∙ end)
        linked_no far e (plain d l end to_end packet f come newest) = omega (arith, none, come.counted)
        linked_no far e (labelled d end to_end flow bound payload packet f carried come newest) = omega (arith, none, come.counted)

        by : IsPlaced past way.up.node cell → same_channel cell.header.channel default_channel ≡ true
        by (of_gsmp e message f) = e
        by (of_link e) =
            let far : _ = there_is (peer_of past.topology way.up.node (port_on cell.header.channel)) e in
            absurd (linked_no far.0 far.1 (kept.world.meanings (Down way.up.node) cell down.node has))

  back : (way : Way) → IsWay past.topology way → IsWay past.topology (record { down = way.up; up = way.down })
  back way on = record { downstream = on.upstream; upstream = on.downstream }

  pub own_ways : HasOwnWays past
  own_ways = record {
    copies = λ way on cell s has copy. copy_there way on cell s has copy;
    told = λ way on. (
      (λ cell message has under its_own own. told_there way on cell message under its_own (has_now way.down (names_of message).sender own) has),
      (λ cell message has under its_own own. told_there (record { down = way.up; up = way.down }) (back way on) cell message under its_own (has_now way.up (names_of message).sender own) has),
    );
    cleared = λ way on. (
      (λ cell message has under its_own c. told_there way on cell message under its_own (had_before way.down (names_of message).sender.0 c) has),
      (λ cell message has under its_own c. told_there (record { down = way.up; up = way.down }) (back way on) cell message under its_own (had_before way.up (names_of message).sender.0 c) has),
    );
  }

-- the last world is one of a run's
now_among : (topology : Topology) (w : World) (events : List Event) → Contains (worlds_from topology w events) (world_after topology w events)
now_among topology w [] = (zero, omega arith, refl)
now_among topology w (event ∷ events) = (let c : Contains (worlds_from topology (next topology w event) events) (world_after topology (next topology w event) events) = now_among topology (next topology w event) events in (suc c.0, omega (arith, c.1), c.2))

pub ways_are_own : MarksAreRead → RunsDrawOnce → WaysAreOwn
ways_are_own read drawn policy topology events kept places = own_ways read (past_of policy topology events) kept (drawn policy topology events) (now_among topology (opened policy topology) events) places
