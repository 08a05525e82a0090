-- the statements: of two ends of a link of a topology

use Rattle.std.proofs.Common.{◌≡◌, List, [], ◌∷◌, ◌++◌, append-nil, Some, refl, sym, ◌∙◌, ap, subst, ap₂, ℕ}
use Rattle.world_model.specs.Words.{NodeId, PortNo, Up, Mark, Topology, World, IsTopology, next}
use Rattle.world_model.specs.Topology.{peer_of}
use Rattle.world_model.specs.network_model.declared.link.LinkEnd.{LinkEnd}
use Rattle.world_model.specs.network_model.declared.event.Event.TheVariants.{Carry}
use Rattle.law_causes.proofs.Shown.{IsPeer, peer_back}
use Rattle.law_live_carries.proofs.Carried.{cells_come_in_order}
use Rattle.law_live_orders.specs.Law.{coming, sent_at, FramesComeInOrder, StretchesComeInOrder, FirstFramesAreHeard, FramesSentComeLast, AllElseLeavesThem}
use Rattle.law_live_orders.specs.Messages.{AreSaid, StayMade, FirstMessagesAreHeard, MessagesSentComeLast, AllElseLeavesMessages}
use Rattle.law_live_orders.proofs.Hops.{AreEnds}
use Rattle.law_live_orders.proofs.Orders.{in_order, first_heard, sent_last, else_left, along_stretch}
use Rattle.law_live_orders.proofs.Saying.{sayings_stay, said_join, first_said}

-- *The ends of a link* lead to one another alone
ends_of : (t : Topology) (one far : LinkEnd) → IsTopology t → peer_of t one.node one.port ≡ Some far → AreEnds t one far
ends_of t one far is linked =
    let peer : IsPeer t one far = peer_back t is one far linked in
    record {
      some = peer.own.0;
      most = peer.own.1;
      far_some = peer.port.0;
      apart = peer.apart;
      within = (peer_back t is far one peer.back).node;
      far_within = peer.node;
      numbered = λ node port end e. (let p : IsPeer t (record { node = node; port = port }) end = peer_back t is (record { node = node; port = port }) end e in (p.own.0, p.port.0));
      alone = λ node port end e n p. (let back : peer_of t end.node end.port ≡ Some (record { node = node; port = port }) = (peer_back t is (record { node = node; port = port }) end e).back in
          let same : Some (record { node = node; port = port }) ≡ Some one = sym back ∙ (ap₂ (λ (a b : ℕ). peer_of t (record { 0 = a }) (record { 0 = b })) n p ∙ peer.back) in
          of_one node port same);
    }
  where
    of_one : (node : NodeId) (port : PortNo) → Some (record { node = node; port = port }) ≡ Some one → (node.0 ≡ one.node.0) × (port.0 ≡ one.port.0)
    of_one node port same = (let e : record { node = node; port = port } ≡ one = cc in (ap (λ (x : LinkEnd). x.node.0) e, ap (λ (x : LinkEnd). x.port.0) e))

pub frames_come_in_order : FramesComeInOrder
frames_come_in_order t w one far event is way none = in_order cells_come_in_order t w one far (ends_of t one far is way.linked) way event none

pub first_frames_are_heard : FirstFramesAreHeard
first_frames_are_heard t w one far cell cells is way e last = first_heard cells_come_in_order t w one far (ends_of t one far is way.linked) way cell cells e last

pub frames_sent_come_last : FramesSentComeLast
frames_sent_come_last t w one far event is way own = sent_last cells_come_in_order t w one far (ends_of t one far is way.linked) way event own

pub all_else_leaves_them : AllElseLeavesThem
all_else_leaves_them t w one far event is way none beside = else_left cells_come_in_order t w one far (ends_of t one far is way.linked) way event none beside

pub stretches_come_in_order : StretchesComeInOrder
stretches_come_in_order t w one far [] is each = along_stretch_none
  where
    along_stretch_none : coming w one far ≡ coming w one far ++ []
    along_stretch_none = sym (append-nil (coming w one far))
stretches_come_in_order t w one far (event ∷ events) is each =
    along_stretch cells_come_in_order t one far (ends_of t one far is (each [] events event refl).0.linked) w (event ∷ events) each

-- *Messages*
pub first_messages_are_heard : FirstMessagesAreHeard
first_messages_are_heard t w one far cell cells address messages is way e last said stay =
    let first : coming w one far ≡ cell.mark ∷ coming (next t w (Carry (Up far.node))) one far = first_frames_are_heard t w one far cell cells is way e last in
    let v : World = next t w (Carry (Up far.node)) in
    first_said address w v one far (coming v one far) cell.mark messages refl
    (subst (λ (marks : List Mark). StayMade w.notes.frames v.notes.frames marks) first stay)
    (subst (λ (marks : List Mark). AreSaid address w.notes.frames marks messages) first said)

pub messages_sent_come_last : MessagesSentComeLast
messages_sent_come_last t w one far event address messages more is way own said stay sent =
    let v : World = next t w event in
    subst (λ (marks : List Mark). AreSaid address v.notes.frames marks (messages ++ more)) (sym (frames_sent_come_last t w one far event is way own))
    (said_join address v.notes.frames (coming w one far) (sent_at t w event one) messages more
    (sayings_stay address w.notes.frames v.notes.frames (coming w one far) messages stay said) sent)

pub all_else_leaves_messages : AllElseLeavesMessages
all_else_leaves_messages t w one far event address messages is way none beside said stay =
    let v : World = next t w event in
    subst (λ (marks : List Mark). AreSaid address v.notes.frames marks messages) (sym (all_else_leaves_them t w one far event is way none beside))
    (sayings_stay address w.notes.frames v.notes.frames (coming w one far) messages stay said)
