-- what is said on a way is in the order of its numbers: the law of the line of a label, as the network shows it

use Rattle.std.proofs.Common.{◌≡◌, ℕ, true, List, [], ◌++◌, Option, None, Some, refl, sym, ◌∙◌, ap, subst, append-nil, if◌then◌else◌}
use Rattle.std.specs.Prelude.{Contains, not}
use Rattle.std.specs.Option.{option_map, option_map_or, option_and_then}
use Rattle.law_frame_readings.specs.world_model.Words.{Instance, Hello, HelloKind, Ack, Peer, Addr, Channel, Down, Up, Out, State, Estab, Side, knows_peer, SideByInstances, router, side_of, Cell, queue_of, Redirect, Reclaim, ReclaimAck, LabelRange, Error, names_of, Frame, Session, Linked, default_channel, default_home, same_channel, control_port, World, Site, queue_at, queue_in, session_at, side_at, chain_at, on_channel, on_default_channel, Past, Way, IsWay, IsOwn, WasCleared, Numbered, HasNoneBelow, HasArrived}
use Rattle.law_frame_readings.specs.world_model.ifmp_wire.declared.message.Message.{Message}
use Rattle.law_frame_readings.specs.world_model.ifmp_wire.declared.message.Message.TheVariants.{Adjacency}
use Rattle.law_frame_readings.specs.ordered_lists.Ordered.{Every}
use Rattle.law_label_line.specs.Cells as lines
use Rattle.law_label_line.specs.Cells.{Role, Downstream, Upstream}
use Rattle.law_label_line.specs.Line.{Line}
use Rattle.law_label_line.specs.Law.{Always, NumbersAreInOrder}
use Rattle.law_frame_readings.specs.world_model.Sent.{numbered}
use Rattle.law_frame_readings.specs.law_port_views.Link.{LinkLabel}
use Rattle.law_frame_readings.specs.law_port_views.Shown.{known_number, expected_number}
use Rattle.law_frame_readings.specs.law_shown_cells.Label.{OnControl, ShowsCells}
use Rattle.law_frame_readings.specs.law_world_views.Shown.{end_of, WorldShows}
use Rattle.law_frame_readings.specs.law_world_views.Pairs.{IsLike}
use Rattle.law_frame_readings.specs.law_world_views.Tied.{is_rstack, tells_its_own}
use Rattle.law_frame_readings.specs.law_world_views.Between.{HasLabelLine}
use Rattle.law_unused_labels.proofs.Seen.{every_contained}
use Rattle.law_unused_labels.proofs.Places.{linked_is}
use Rattle.law_unused_labels.proofs.Links.{link_of, link_is}
use Rattle.law_ownership.specs.Owning.{IsKept, HasOwnWays, WaysAreInOrder}
use Rattle.law_ownership.specs.Order.{IsInOrder}
use Rattle.law_ownership.proofs.Matching.{Matches}
use Rattle.law_ownership.proofs.Heard.{Silent, Says, way_matches}
use Rattle.law_ownership.proofs.Numbers.{IsNotBelow, IsAckFor, rising, not_below, acks}

some_is : {X : Type 0} (x y : X) → Some x ≡ Some y → x ≡ y
some_is x y e = cc

-- a redirection message is in its sender's own words, and names its instances
its_own : (m : Message) (n : Numbered) → numbered m ≡ Some n → tells_its_own m ≡ true
its_own (Adjacency hello) n e = absurd (cc e)
its_own (Redirect sender peer number lifetime label flow) n e = refl
its_own (Reclaim sender peer number label flow) n e = refl
its_own (ReclaimAck sender peer number label flow) n e = refl
its_own (LabelRange sender peer number least greatest) n e = refl
its_own (Error sender peer number code label) n e = refl

its_sender : (m : Message) (n : Numbered) → numbered m ≡ Some n → (names_of m).sender ≡ n.sender
its_sender (Adjacency hello) n e = absurd (cc e)
its_sender (Redirect sender peer number lifetime label flow) n e = ap (λ (k : Numbered). k.sender) (some_is _ n e)
its_sender (Reclaim sender peer number label flow) n e = ap (λ (k : Numbered). k.sender) (some_is _ n e)
its_sender (ReclaimAck sender peer number label flow) n e = ap (λ (k : Numbered). k.sender) (some_is _ n e)
its_sender (LabelRange sender peer number least greatest) n e = ap (λ (k : Numbered). k.sender) (some_is _ n e)
its_sender (Error sender peer number code label) n e = ap (λ (k : Numbered). k.sender) (some_is _ n e)

ack_is_own : (hello : Hello) → hello.kind ≡ Ack → tells_its_own (Adjacency hello) ≡ true
ack_is_own hello e = subst (λ (kind : HelloKind). not (is_rstack kind) ≡ true) (sym e) refl

-- equal lists, joined
joined_same : (c c' u u' o o' d d' : List Cell) (home_to home_from : Channel) → c ≡ c' → u ≡ u' → o ≡ o' → d ≡ d'
    → c ++ (on_channel home_to u ++ (on_channel default_channel o ++ on_channel home_from d)) ≡ c' ++ (on_channel home_to u' ++ (on_channel default_channel o' ++ on_channel home_from d'))
joined_same c c' u u' o o' d d' home_to home_from e f g i = cc

-- the side of an end, by its instances
module _ (own far : Addr) (part : SideByInstances) (silence : ℕ) (side : Side Peer) (is : side_of (router own) (router far) part silence ≡ side) where
  state_is : side.state ≡ Estab → part.state ≡ Estab
  state_is estab = ap (λ (s : Side Peer). s.state) is ∙ estab

  own_is : part.own ≡ side.own.instance.0
  own_is = ap (λ (s : Side Peer). s.own.instance.0) is

  stored_is : (peer : Peer) → side.state ≡ Estab → side.stored ≡ Some peer → part.stored ≡ peer.instance.0
  stored_is peer estab stored = ap (λ (p : Peer). p.instance.0) (some_is (router far part.stored) peer
      (subst (λ (state : State). (if knows_peer state then Some (router far part.stored) else None) ≡ Some peer) (state_is estab) (ap (λ (s : Side Peer). s.stored) is ∙ stored)))

-- *Each way* of a link
module _ (law : Always NumbersAreInOrder) (past : Past) (kept : IsKept past) (ways_own : HasOwnWays past) (way : Way) (on : IsWay past.topology way) where
  -- any label of the link will do: its line hears every redirection message of its downstream end
  abbrev link : LinkLabel
  link = link_of past.topology way 32

  abbrev w : World
  w = past.now

  abbrev frames : List Frame
  frames = w.notes.frames

  abbrev h : HasLabelLine past link
  h = kept.world.labels link (link_is past.topology kept.topology_is way on 32 refl)

  abbrev line : Line
  line = h.line

  abbrev s : WorldShows link (IsLike w link) w line
  s = h.shows

  ordered : NumbersAreInOrder line
  ordered = subst NumbersAreInOrder h.reached.is (law h.reached.downstream h.reached.upstream h.reached.fresh h.reached.downstream_drawn h.reached.upstream_drawn h.reached.moves)

  abbrev linked_at_end : Role → Linked
  linked_at_end role = (s.net.end role).linked

  -- *The cells of each way* say the words of the line
  chain_is : (role : Role) → chain_at w (end_of role link) ≡ (linked_at_end role).reassembly.chain
  chain_is role = ap (λ (o : Option Linked). option_map_or (λ linked. linked.reassembly.chain) o []) (linked_is past link h role)

  abbrev waits : Role → List Cell
  waits role = queue_of (s.end role).switch.crossbar control_port

  abbrev leaves : Role → List Cell
  leaves role = queue_of (s.end role).switch.crossbar (link.port role)

  waits_is : (role : Role) → queue_at w (Up (link.node role)) ≡ waits role
  waits_is role = ap (λ (o : Option Site). option_map_or (λ site. queue_in site (Up (link.node role))) o []) (s.found role)

  leaves_is : (role : Role) → queue_at w (Out (link.node role) (link.port role)) ≡ leaves role
  leaves_is role = ap (λ (o : Option Site). option_map_or (λ site. queue_in site (Out (link.node role) (link.port role))) o []) (s.found role)

  first_is : (role : Role) → queue_at w (Down (link.node role)) ≡ (s.end role).controller.queue
  first_is role = ap (λ (o : Option Site). option_map_or (λ site. queue_in site (Down (link.node role))) o []) (s.found role)

  on_its_channel : (role : Role) (c : Cell) → Contains (linked_at_end role).reassembly.chain c → same_channel c.header.channel (default_home (link.port role)).channel ≡ true
  on_its_channel role c has = (kept.world.numbers.taken (end_of role link) c (subst (λ (cells : List Cell). Contains cells c) (sym (chain_is role)) has)).0

  all_on : (from to : Role) → (chain up out down : List Cell) → chain_at w (end_of to link) ≡ chain → queue_at w (Up (link.node to)) ≡ up
      → queue_at w (Out (link.node from) (link.port from)) ≡ out → queue_at w (Down (link.node from)) ≡ down
      → (by : Role) (words : List lines.Cell)
      → Matches (Silent by link frames) (Says by link frames) (chain ++ (on_channel (default_home (link.port to)).channel up
      ++ (on_channel default_channel out ++ on_channel (default_home (link.port from)).channel down))) words
      → Matches (Silent by link frames) (Says by link frames) (on_default_channel w (end_of from link) (end_of to link)) words
  all_on from to chain up out down e f g i by words m = subst (λ (cells : List Cell). Matches (Silent by link frames) (Says by link frames) cells words) (sym same) m
    where
      same : on_default_channel w (end_of from link) (end_of to link)
          ≡ chain ++ (on_channel (default_home (link.port to)).channel up ++ (on_channel default_channel out ++ on_channel (default_home (link.port from)).channel down))
      same = joined_same _ chain _ up _ out _ down (default_home (link.port to)).channel (default_home (link.port from)).channel e f g i

  to_upstream : Matches (Silent Downstream link frames) (Says Downstream link frames) (on_default_channel w way.down way.up) (lines.cells line.to_upstream)
  to_upstream = all_on Downstream Upstream _ _ _ _ (chain_is Upstream) (waits_is Upstream) (leaves_is Downstream) (first_is Downstream) Downstream (lines.cells line.to_upstream)
      (way_matches Downstream link frames way.up.port way.down.port line.to_upstream (linked_at_end Upstream).reassembly.chain (waits Upstream) (leaves Downstream) (s.end Downstream).controller.queue
      (on_its_channel Upstream) (s.net.end Upstream).taken (s.net.waiting Upstream) (s.net.output Downstream)
      (subst (λ (words : List lines.Cell). ShowsCells (OnControl way.down.port) Downstream link frames (s.end Downstream).controller.queue words)
      (sym ((s.net.end Downstream).shown.sent ∙ append-nil (s.net.end Downstream).queued)) (s.net.end Downstream).queue))

  to_downstream : Matches (Silent Upstream link frames) (Says Upstream link frames) (on_default_channel w way.up way.down) (lines.cells line.to_downstream)
  to_downstream = all_on Upstream Downstream _ _ _ _ (chain_is Downstream) (waits_is Downstream) (leaves_is Upstream) (first_is Upstream) Upstream (lines.cells line.to_downstream)
      (way_matches Upstream link frames way.down.port way.up.port line.to_downstream (linked_at_end Downstream).reassembly.chain (waits Downstream) (leaves Upstream) (s.end Upstream).controller.queue
      (on_its_channel Downstream) (s.net.end Downstream).taken (s.net.waiting Downstream) (s.net.output Upstream)
      (subst (λ (words : List lines.Cell). ShowsCells (OnControl way.up.port) Upstream link frames (s.end Upstream).controller.queue words)
      (sym ((s.net.end Upstream).shown.sent ∙ append-nil (s.net.end Upstream).queued)) (s.net.end Upstream).queue))

  -- *Numbers* of the messages to the upstream end
  abbrev NotBelow : (sender peer least : ℕ) → Cell → Type 0
  NotBelow sender peer least c = IsNotBelow frames sender peer least c

  as_named : (a a' b b' k k' : ℕ) → a ≡ a' → b ≡ b' → k ≡ k' → Every (NotBelow a b k) (on_default_channel w way.down way.up) → Every (NotBelow a' b' k') (on_default_channel w way.down way.up)
  as_named a a' b b' k k' e f g all = subst (λ (x : ℕ). Every (NotBelow x b' k') (on_default_channel w way.down way.up)) e
      (subst (λ (x : ℕ). Every (NotBelow a x k') (on_default_channel w way.down way.up)) f
      (subst (λ (x : ℕ). Every (NotBelow a b x) (on_default_channel w way.down way.up)) g all))

  -- *What the upstream end expects*
  module _ (side : Side Peer) (peer : Peer) (session : Session) where
    module _ (found : side_at w way.up ≡ Some side) (estab : side.state ≡ Estab) (stored : side.stored ≡ Some peer) (open_there : session_at w way.up ≡ Some session) where
      up_side : side_of (router (link.address Upstream)) (router (link.address Downstream)) line.upstream (linked_at_end Upstream).port.adjacency.silence ≡ side
      up_side = sym (s.net.end Upstream).shown.side ∙ some_is _ side (sym (ap (option_map (λ (linked : Linked). linked.port.adjacency)) (linked_is past link h Upstream)) ∙ found)

      up_session : line.expected ≡ session.expected
      up_session = (s.net.end Upstream).shown.expected
          ∙ ap expected_number (sym (ap (λ (o : Option Linked). option_and_then (λ (linked : Linked). linked.port.session) o) (linked_is past link h Upstream)) ∙ open_there)

      up_all : Every (NotBelow peer.instance.0 side.own.instance.0 session.expected) (on_default_channel w way.down way.up)
      up_all = as_named line.upstream.stored peer.instance.0 line.upstream.own side.own.instance.0 line.expected session.expected
          (stored_is _ _ _ _ side up_side peer estab stored) (own_is _ _ _ _ side up_side) up_session
          (not_below link frames line.upstream.stored line.upstream.own line.expected to_upstream (ordered.expected (state_is _ _ _ _ side up_side estab)))

      pub none_overdue : HasNoneBelow w way.down way.up peer.instance side.own.instance session.expected
      none_overdue cell m n has under is sender to = every_contained (NotBelow peer.instance.0 side.own.instance.0 session.expected) (on_default_channel w way.down way.up) cell up_all
          ((ways_own.cleared way on).0 cell m has under (its_own m n is)
          (subst (WasCleared past way.down) (sym (ap (λ (i : Instance). i.0) (its_sender m n is) ∙ sender)) ((kept.world.cleared way on).0.stored side peer found stored)))
          m n under is sender to

    -- *What the downstream end knows*
    module _ (found : side_at w way.down ≡ Some side) (estab : side.state ≡ Estab) (stored : side.stored ≡ Some peer) (open_there : session_at w way.down ≡ Some session) where
      down_side : side_of (router (link.address Downstream)) (router (link.address Upstream)) line.downstream (linked_at_end Downstream).port.adjacency.silence ≡ side
      down_side = sym (s.net.end Downstream).shown.side ∙ some_is _ side (sym (ap (option_map (λ (linked : Linked). linked.port.adjacency)) (linked_is past link h Downstream)) ∙ found)

      down_session : line.known ≡ session.known
      down_session = (s.net.end Downstream).shown.known
          ∙ ap known_number (sym (ap (λ (o : Option Linked). option_and_then (λ (linked : Linked). linked.port.session) o) (linked_is past link h Downstream)) ∙ open_there)

      down_own : line.downstream.own ≡ side.own.instance.0
      down_own = own_is _ _ _ _ side down_side

      down_stored : line.downstream.stored ≡ peer.instance.0
      down_stored = stored_is _ _ _ _ side down_side peer estab stored

      -- a message of its own instance is on its way's channel
      none_of : (least : ℕ) → Every (NotBelow side.own.instance.0 peer.instance.0 least) (on_default_channel w way.down way.up) → HasNoneBelow w way.down way.up side.own.instance peer.instance least
      none_of least all cell m n has under is sender to = every_contained (NotBelow side.own.instance.0 peer.instance.0 least) (on_default_channel w way.down way.up) cell all
          ((ways_own.told way on).0 cell m has under (its_own m n is)
          (subst (IsOwn (names_of m).sender) (sym found) (sym (ap (λ (i : Instance). i.0) (its_sender m n is) ∙ sender))))
          m n under is sender to

      down_all : Every (NotBelow side.own.instance.0 peer.instance.0 session.known) (on_default_channel w way.down way.up)
      down_all = as_named line.downstream.own side.own.instance.0 line.downstream.stored peer.instance.0 line.known session.known down_own down_stored down_session
          (not_below link frames line.downstream.own line.downstream.stored line.known to_upstream (ordered.known (state_is _ _ _ _ side down_side estab)))

      pub has_arrived : HasArrived w way.down way.up side peer session
      has_arrived = record {
        known = none_of session.known down_all;
        said = λ cell hello has under kind sender to. none_of hello.next
            (as_named hello.peer.0 side.own.instance.0 hello.sender.0 peer.instance.0 hello.next hello.next to sender refl
            (every_contained (IsAckFor frames (on_default_channel w way.down way.up)) (on_default_channel w way.up way.down) cell (acks link frames to_upstream to_downstream ordered.said)
            ((ways_own.cleared way on).1 cell (Adjacency hello) has under (ack_is_own hello kind)
            (subst (WasCleared past way.up) (sym sender) ((kept.world.cleared way on).1.stored side peer found stored)))
            hello under kind));
      }

  pub way_in_order : IsInOrder w way.down way.up
  way_in_order = record {
    rising = rising link frames to_upstream ordered.rise;
    expected = λ side peer session found estab stored open_there. none_overdue side peer session found estab stored open_there;
    known = λ side peer session found estab stored open_there. has_arrived side peer session found estab stored open_there;
  }

pub ways_in_order : Always NumbersAreInOrder → WaysAreInOrder
ways_in_order law past kept own way on = way_in_order law past kept own way on
