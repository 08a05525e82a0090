-- frames come in the order in which they were sent: each queue of the way is first in, first out, and leads to the next

use Rattle.std.proofs.Common.{◌≡◌, ◌≢◌, ◌⊎◌, inl, inr, ℕ, ◌==◌, ◌≤◌, true, false, List, [], ◌∷◌, ◌++◌, append_assoc, append-nil, take, is_some, Option, None, Some, refl, sym, ◌∙◌, ap, subst, arith}
use Rattle.world_model.specs.Words.{NodeId, PortNo, Place, Down, Up, Out, Channel, Mark, Cell, default_channel, default_home, Topology, World, queue_at, same_queue, next, world_after}
use Rattle.world_model.specs.Topology.{peer_of}
use Rattle.world_model.specs.network_model.declared.link.LinkEnd.{LinkEnd}
use Rattle.world_model.specs.network_model.declared.event.Event.{Event}
use Rattle.world_model.specs.network_model.declared.event.Event.TheVariants.{Inject, Carry, Lose, Tick, TickSwitch, Restart, RestartSwitch, Forge, Route}
use Rattle.world_model.proofs.Lists.{by_eq}
use Rattle.law_passing.specs.Reached.{switch_at, carried_to, reached, owns}
use Rattle.law_passing.specs.telling_model.Passing.{cells_put_at}
use Rattle.law_passing.proofs.Queues.{by_queue}
use Rattle.law_live_carries.specs.Law.{taken_at, taken_in, put_in, CellsComeInOrder}
use Rattle.law_live_orders.specs.Law.{is_last_on, last_marks, marks_at, coming, IsOpenWay, LosesNone, heard_at, sent_at, EndsNoneOn, IsBeside}
use Rattle.law_live_orders.proofs.Marks.{marks_join, marks_here, marks_there}
use Rattle.law_live_orders.proofs.Hops.{AreEnds, numbers_apart, nodes_apart, untaken, taken_here, unowned, hops_up, hops_out}

-- *Three lists in a row*
thread : (h a a' x b b' y c c' s : List Mark) → h ++ a' ≡ a ++ x → x ++ b' ≡ b ++ y → y ++ c' ≡ c ++ s → h ++ (a' ++ (b' ++ c')) ≡ (a ++ (b ++ c)) ++ s
thread h a a' x b b' y c c' s first second third =
    sym (append_assoc h a' (b' ++ c')) ∙ (ap (λ (l : List Mark). l ++ (b' ++ c')) first
    ∙ (append_assoc a x (b' ++ c') ∙ (ap (λ (l : List Mark). a ++ l)
    (sym (append_assoc x b' c') ∙ (ap (λ (l : List Mark). l ++ c') second ∙ (append_assoc b y c' ∙ (ap (λ (l : List Mark). b ++ l) third ∙ sym (append_assoc b c s)))))
    ∙ sym (append_assoc a (b ++ c) s))))

number_apart : (a b : ℕ) → a ≢ b → (a == b) ≡ false
number_apart a b apart = by_eq a b (λ same f. absurd (apart same)) (λ differs f. f)

module _ (cells_come : CellsComeInOrder) (t : Topology) (w : World) where
  -- *One queue*, and one channel of it
  whole : (event : Event) (place : Place) → taken_at w event place ++ queue_at (next t w event) place ≡ queue_at w place ++ cells_put_at t w event place
  whole event place =
      let taken : List Cell = taken_at w event place in
      let put : List Cell = cells_put_at t w event place in
      ap (λ (q : List Cell). q ++ queue_at (next t w event) place) (sym (append-nil taken))
      ∙ (sym (cells_come t w (event ∷ []) place) ∙ ap (λ (q : List Cell). queue_at w place ++ q) (append-nil put))

  passes : (event : Event) (place : Place) (channel : Channel)
      → last_marks channel (taken_at w event place) ++ marks_at (next t w event) place channel ≡ marks_at w place channel ++ last_marks channel (cells_put_at t w event place)
  passes event place channel = sym (marks_join channel (taken_at w event place) (queue_at (next t w event) place))
      ∙ (ap (last_marks channel) (whole event place) ∙ marks_join channel (queue_at w place) (cells_put_at t w event place))

  module _ (one far : LinkEnd) (ends : AreEnds t one far) (way : IsOpenWay t w one far) where
    abbrev Later : Event → Type 0
    Later event = coming (next t w event) one far ≡ coming w one far ++ sent_at t w event one

    abbrev home : Channel
    home = (default_home one.port).channel

    abbrev far_home : Channel
    far_home = (default_home far.port).channel

    abbrev out : Place
    out = Out one.node one.port

    abbrev up : Place
    up = Up far.node

    abbrev down : Place
    down = Down one.node

    -- *The way*
    pub in_order : (event : Event) → LosesNone t w one far event → heard_at w event far ++ coming (next t w event) one far ≡ coming w one far ++ sent_at t w event one
    in_order event none = thread (heard_at w event far)
        (marks_at w up far_home) (marks_at (next t w event) up far_home) (last_marks default_channel (taken_at w event out))
        (marks_at w out default_channel) (marks_at (next t w event) out default_channel) (last_marks home (taken_at w event down))
        (marks_at w down home) (marks_at (next t w event) down home) (sent_at t w event one)
        (passes event up far_home ∙ ap (λ (ms : List Mark). marks_at w up far_home ++ ms) (hops_up t w one far ends way event none))
        (passes event out default_channel ∙ ap (λ (ms : List Mark). marks_at w out default_channel ++ ms) (hops_out t w one far ends way event none))
        (passes event down home)

    -- *The first is heard*
    same_up : (node : NodeId) → node.0 ≡ far.node.0 → same_queue (Up node) up ≡ true
    same_up node same = by_queue (Up node) up (λ n number f. f) (λ n f. absurd (n same)) (λ n number f. absurd (number refl))

    sent_none : (event : Event) → owns (reached t w event) down ≡ false → sent_at t w event one ≡ []
    sent_none event e = unowned t w event down home e

    pub first_heard : (cell : Cell) (cells : List Cell) → queue_at w up ≡ cell ∷ cells → is_last_on far_home cell ≡ true → coming w one far ≡ cell.mark ∷ coming (next t w (Carry up)) one far
    first_heard cell cells e last =
        sym (append-nil (coming w one far))
        ∙ (ap (λ (ms : List Mark). coming w one far ++ ms) (sym (sent_none (Carry up) (ap (λ (q : List Cell). owns (carried_to t up q) down) e ∙ number_apart far.node.0 one.node.0 ends.apart)))
        ∙ (sym (in_order (Carry up) (ends.far_within, tt))
        ∙ ap (λ (ms : List Mark). ms ++ coming (next t w (Carry up)) one far)
        (taken_here t w up up far_home (cell ∷ cells) (same_up far.node refl) e ∙ marks_here far_home cell [] last)))

    -- *Where none is heard*, what is sent comes last
    last_sent : (event : Event) → LosesNone t w one far event → heard_at w event far ≡ [] → coming (next t w event) one far ≡ coming w one far ++ sent_at t w event one
    last_sent event none unheard = sym (ap (λ (ms : List Mark). ms ++ coming (next t w event) one far) unheard) ∙ in_order event none

    pub sent_last : (event : Event) → (event ≡ Tick one.node) ⊎ (event ≡ Carry (Up one.node)) → coming (next t w event) one far ≡ coming w one far ++ sent_at t w event one
    sent_last event (inl is) = subst Later (sym is) (last_sent (Tick one.node) tt refl)
    sent_last event (inr is) = subst Later (sym is) (last_sent (Carry (Up one.node)) (ends.within, tt)
        (untaken t w (Up one.node) up far_home (nodes_apart (Up one.node) up (λ same. ends.apart (sym same)))))

    -- *All else*
    ends_none : (q : List Cell) → EndsNoneOn far_home q → last_marks far_home (take 1 q) ≡ []
    ends_none [] h = refl
    ends_none (cell ∷ cells) h = marks_there far_home cell [] h

    linked_some : (node : NodeId) (port : PortNo) (o : Option LinkEnd) → peer_of t node port ≡ o → is_some o ≡ true → 1 ≤ port.0
    linked_some node port None p some = absurd (cc some)
    linked_some node port (Some end) p some = (ends.numbered node port end p).0

    unheard : (event : Event) → LosesNone t w one far event → IsBeside w one far event → heard_at w event far ≡ []
    unheard (Inject node octets) none beside = absurd beside
    unheard (Carry (Down node)) none beside = untaken t w (Down node) up far_home (numbers_apart (Down node) up (λ e. absurd (omega (arith, e))))
    unheard (Carry (Up node)) none beside = by_eq node.0 far.node.0
        (λ same f. taken_here t w (Up node) up far_home (queue_at w up) (same_up node same) refl ∙ ends_none (queue_at w up) (beside.1 same))
        (λ apart f. untaken t w (Up node) up far_home (nodes_apart (Up node) up apart))
    unheard (Carry (Out node port)) none beside = (let some : 1 ≤ port.0 = linked_some node port (peer_of t node port) refl none.0.1 in
        untaken t w (Out node port) up far_home (numbers_apart (Out node port) up (λ e. absurd (omega (arith, e, some)))))
    unheard (Lose place) none beside = absurd beside
    unheard (Tick node) none beside = refl
    unheard (TickSwitch node) none beside = refl
    unheard (Restart node) none beside = absurd beside
    unheard (RestartSwitch node) none beside = absurd beside
    unheard (Forge place channel payload) none beside = absurd beside
    unheard (Route node change) none beside = absurd beside

    of_switches : (o : Option LinkEnd) (node : NodeId) → owns (switch_at o) (Down node) ≡ false
    of_switches None node = refl
    of_switches (Some end) node = refl

    carried_past : (place : Place) → ((cell : Cell) (cells : List Cell) → owns (carried_to t place (cell ∷ cells)) down ≡ false) → (q : List Cell) → owns (carried_to t place q) down ≡ false
    carried_past place each [] = refl
    carried_past place each (cell ∷ cells) = each cell cells

    unsent : (event : Event) → IsBeside w one far event → sent_at t w event one ≡ []
    unsent (Inject node octets) beside = absurd beside
    unsent (Carry (Down node)) beside = sent_none (Carry (Down node)) (carried_past (Down node) (λ cell cells. refl) (queue_at w (Down node)))
    unsent (Carry (Up node)) beside = sent_none (Carry (Up node)) (carried_past (Up node) (λ cell cells. number_apart node.0 one.node.0 beside.0) (queue_at w (Up node)))
    unsent (Carry (Out node port)) beside = sent_none (Carry (Out node port)) (carried_past (Out node port) (λ cell cells. of_switches (peer_of t node port) one.node) (queue_at w (Out node port)))
    unsent (Lose place) beside = absurd beside
    unsent (Tick node) beside = sent_none (Tick node) (number_apart node.0 one.node.0 beside)
    unsent (TickSwitch node) beside = sent_none (TickSwitch node) refl
    unsent (Restart node) beside = absurd beside
    unsent (RestartSwitch node) beside = absurd beside
    unsent (Forge place channel payload) beside = absurd beside
    unsent (Route node change) beside = absurd beside

    pub else_left : (event : Event) → LosesNone t w one far event → IsBeside w one far event → coming (next t w event) one far ≡ coming w one far
    else_left event none beside = last_sent event none (unheard event none beside)
        ∙ (ap (λ (ms : List Mark). coming w one far ++ ms) (unsent event beside) ∙ append-nil (coming w one far))

-- *A stretch*
module _ (cells_come : CellsComeInOrder) (t : Topology) (one far : LinkEnd) (ends : AreEnds t one far) where
  abbrev near_home : Channel
  near_home = (default_home one.port).channel

  abbrev there_home : Channel
  there_home = (default_home far.port).channel

  abbrev Passable : World → List Event → Type 0
  Passable w events = (front rest : List Event) (event : Event) → events ≡ front ++ event ∷ rest
      → IsOpenWay t (world_after t w front) one far × LosesNone t (world_after t w front) one far event

  pub along_stretch : (w : World) (events : List Event) → Passable w events
      → last_marks there_home (taken_in t w events (Up far.node)) ++ coming (world_after t w events) one far ≡ coming w one far ++ last_marks near_home (put_in t w events (Down one.node))
  along_stretch w [] each = sym (append-nil (coming w one far))
  along_stretch w (event ∷ events) each =
      let v : World = next t w event in
      let heard : List Mark = heard_at w event far in
      let sent : List Mark = sent_at t w event one in
      let heard_later : List Mark = last_marks there_home (taken_in t v events (Up far.node)) in
      let sent_later : List Mark = last_marks near_home (put_in t v events (Down one.node)) in
      let end : List Mark = coming (world_after t v events) one far in
      ap (λ (ms : List Mark). ms ++ end) (marks_join there_home (taken_at w event (Up far.node)) (taken_in t v events (Up far.node)))
      ∙ (append_assoc heard heard_later end
      ∙ (ap (λ (ms : List Mark). heard ++ ms) (along_stretch v events (λ front rest later e. each (event ∷ front) rest later (ap (λ (es : List Event). event ∷ es) e)))
      ∙ (sym (append_assoc heard (coming v one far) sent_later)
      ∙ (ap (λ (ms : List Mark). ms ++ sent_later) (in_order cells_come t w one far ends (each [] events event refl).0 event (each [] events event refl).1)
      ∙ (append_assoc (coming w one far) sent sent_later
      ∙ ap (λ (ms : List Mark). coming w one far ++ ms) (sym (marks_join near_home (cells_put_at t w event (Down one.node)) (put_in t v events (Down one.node)))))))))
