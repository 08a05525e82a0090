-- frames come in the order in which they were sent: each queue of the way is first in, first out, and leads to the next

use Rattle.std.proofs.Common.{◌≡◌, ℕ, List, [], ◌∷◌, ◌++◌, append_assoc, append-nil, Some, refl, sym, ◌∙◌, ap, ap₂}
use Rattle.world_model.specs.Words.{NodeId, PortNo, Place, Down, Up, Out, Channel, Mark, Cell, default_channel, default_home, Topology, World, IsTopology, queue_at, next, world_after}
use Rattle.world_model.specs.Topology.{peer_of}
use Rattle.world_model.specs.network_model.declared.link.LinkEnd.{LinkEnd}
use Rattle.world_model.specs.network_model.declared.event.Event.{Event}
use Rattle.law_causes.proofs.Shown.{IsPeer, peer_back}
use Rattle.law_passing.specs.telling_model.Passing.{cells_put_at}
use Rattle.law_live_carries.specs.Law.{taken_at, taken_in, put_in}
use Rattle.law_live_carries.proofs.Carried.{cells_come_in_order}
use Rattle.law_live_orders.specs.Law.{last_marks, marks_at, coming, heard_at, sent_at}
use Rattle.law_live_orders.proofs.Marks.{marks_join}
use Rattle.law_live_orders.proofs.Hops.{AreEnds}
use Rattle.law_link_orders.specs.Law.{MayLead, LeavesUnlost, UnlostFramesComeInOrder, UnlostStretchesComeInOrder}
use Rattle.law_link_orders.proofs.Hops.{hops_up, hops_out}

-- *Three lists in a row*
thread : (h a a' x b b' y c c' s : List Mark) → h ++ a' ≡ a ++ x → x ++ b' ≡ b ++ y → y ++ c' ≡ c ++ s → h ++ (a' ++ (b' ++ c')) ≡ (a ++ (b ++ c)) ++ s
thread h a a' x b b' y c c' s first second third =
    sym (append_assoc h a' (b' ++ c')) ∙ (ap (λ (l : List Mark). l ++ (b' ++ c')) first
    ∙ (append_assoc a x (b' ++ c') ∙ (ap (λ (l : List Mark). a ++ l)
    (sym (append_assoc x b' c') ∙ (ap (λ (l : List Mark). l ++ c') second ∙ (append_assoc b y c' ∙ (ap (λ (l : List Mark). b ++ l) third ∙ sym (append_assoc b c s)))))
    ∙ sym (append_assoc a (b ++ c) s))))

-- *The ends of a link* lead to one another alone
ends_of : (t : Topology) (one far : LinkEnd) → IsTopology t → peer_of t one.node one.port ≡ Some far → AreEnds t one far
ends_of t one far is linked =
    let peer : IsPeer t one far = peer_back t is one far linked in
    record {
      some = peer.own.0;
      most = peer.own.1;
      far_some = peer.port.0;
      apart = peer.apart;
      within = (peer_back t is far one peer.back).node;
      far_within = peer.node;
      numbered = λ node port end e. (let p : IsPeer t (record { node = node; port = port }) end = peer_back t is (record { node = node; port = port }) end e in (p.own.0, p.port.0));
      alone = λ node port end e n p. (let back : peer_of t end.node end.port ≡ Some (record { node = node; port = port }) = (peer_back t is (record { node = node; port = port }) end e).back in
          let same : Some (record { node = node; port = port }) ≡ Some one = sym back ∙ (ap₂ (λ (a b : ℕ). peer_of t (record { 0 = a }) (record { 0 = b })) n p ∙ peer.back) in
          of_one node port same);
    }
  where
    of_one : (node : NodeId) (port : PortNo) → Some (record { node = node; port = port }) ≡ Some one → (node.0 ≡ one.node.0) × (port.0 ≡ one.port.0)
    of_one node port same = (let e : record { node = node; port = port } ≡ one = cc in (ap (λ (x : LinkEnd). x.node.0) e, ap (λ (x : LinkEnd). x.port.0) e))

module _ (t : Topology) (w : World) where
  -- *One queue*, and one channel of it
  whole : (event : Event) (place : Place) → taken_at w event place ++ queue_at (next t w event) place ≡ queue_at w place ++ cells_put_at t w event place
  whole event place =
      let taken : List Cell = taken_at w event place in
      let put : List Cell = cells_put_at t w event place in
      ap (λ (q : List Cell). q ++ queue_at (next t w event) place) (sym (append-nil taken))
      ∙ (sym (cells_come_in_order t w (event ∷ []) place) ∙ ap (λ (q : List Cell). queue_at w place ++ q) (append-nil put))

  passes : (event : Event) (place : Place) (channel : Channel)
      → last_marks channel (taken_at w event place) ++ marks_at (next t w event) place channel ≡ marks_at w place channel ++ last_marks channel (cells_put_at t w event place)
  passes event place channel = sym (marks_join channel (taken_at w event place) (queue_at (next t w event) place))
      ∙ (ap (last_marks channel) (whole event place) ∙ marks_join channel (queue_at w place) (cells_put_at t w event place))

  module _ (one far : LinkEnd) (ends : AreEnds t one far) (way : MayLead t w one far) where
    abbrev home : Channel
    home = (default_home one.port).channel

    abbrev far_home : Channel
    far_home = (default_home far.port).channel

    abbrev out : Place
    out = Out one.node one.port

    abbrev up : Place
    up = Up far.node

    abbrev down : Place
    down = Down one.node

    -- *The way*
    in_order : (event : Event) → LeavesUnlost t w one event → heard_at w event far ++ coming (next t w event) one far ≡ coming w one far ++ sent_at t w event one
    in_order event none = thread (heard_at w event far)
        (marks_at w up far_home) (marks_at (next t w event) up far_home) (last_marks default_channel (taken_at w event out))
        (marks_at w out default_channel) (marks_at (next t w event) out default_channel) (last_marks home (taken_at w event down))
        (marks_at w down home) (marks_at (next t w event) down home) (sent_at t w event one)
        (passes event up far_home ∙ ap (λ (ms : List Mark). marks_at w up far_home ++ ms) (hops_up t w one far ends way event none))
        (passes event out default_channel ∙ ap (λ (ms : List Mark). marks_at w out default_channel ++ ms) (hops_out t w one far ends way event none))
        (passes event down home)

pub unlost_frames_come_in_order : UnlostFramesComeInOrder
unlost_frames_come_in_order t w one far event is way none = in_order t w one far (ends_of t one far is way.linked) way event none

-- *A stretch*
pub unlost_stretches_come_in_order : UnlostStretchesComeInOrder
unlost_stretches_come_in_order t w one far [] is each = sym (append-nil (coming w one far))
unlost_stretches_come_in_order t w one far (event ∷ events) is each =
    let there_home : Channel = (default_home far.port).channel in
    let near_home : Channel = (default_home one.port).channel in
    let v : World = next t w event in
    let heard : List Mark = heard_at w event far in
    let sent : List Mark = sent_at t w event one in
    let heard_later : List Mark = last_marks there_home (taken_in t v events (Up far.node)) in
    let sent_later : List Mark = last_marks near_home (put_in t v events (Down one.node)) in
    let end : List Mark = coming (world_after t v events) one far in
    ap (λ (ms : List Mark). ms ++ end) (marks_join there_home (taken_at w event (Up far.node)) (taken_in t v events (Up far.node)))
    ∙ (append_assoc heard heard_later end
    ∙ (ap (λ (ms : List Mark). heard ++ ms) (unlost_stretches_come_in_order t v one far events is (λ front rest later e. each (event ∷ front) rest later (ap (λ (es : List Event). event ∷ es) e)))
    ∙ (sym (append_assoc heard (coming v one far) sent_later)
    ∙ (ap (λ (ms : List Mark). ms ++ sent_later) (unlost_frames_come_in_order t w one far event is (each [] events event refl).0 (each [] events event refl).1)
    ∙ (append_assoc (coming w one far) sent sent_later
    ∙ ap (λ (ms : List Mark). coming w one far ++ ms) (sym (marks_join near_home (cells_put_at t w event (Down one.node)) (put_in t v events (Down one.node)))))))))
