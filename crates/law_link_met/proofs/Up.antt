-- two ports that have met, and have heard each other since they ticked, stay in Estab along a beat

use Rattle.std.proofs.Common.{◌≡◌, ℕ, suc, ◌+◌, ◌≤◌, ◌<◌, ◌==◌, nat_lt, Bool, true, false, true≢false, List, [], ◌∷◌, ◌++◌, append-nil, append_assoc, fold, map, refl, sym, ◌∙◌, ap, subst, arith}
use Rattle.std.specs.Prelude.{◌≢◌}
use Rattle.std.specs.List.{list_all}
use Rattle.std.proofs.lemmas.Bool.Decides.{nat_tests}
use Rattle.world_model.specs.Words.{NodeId, Place, Peer, Ack, Rstack, Estab, Quiet, Send, Side, Said, Step, Says, Resets, enters_by_ack, stays, received, followed, ticked, followed_tick, Site, tick_of, switch_tick_of, same_peer, Topology, IsTopology, World, next, world_after}
use Rattle.world_model.specs.adjacency_table.Table.{silence_limit}
use Rattle.world_model.specs.network_model.Places.{AreShaped}
use Rattle.world_model.specs.network_model.declared.link.LinkEnd.{LinkEnd}
use Rattle.world_model.specs.network_model.declared.event.Event.{Event}
use Rattle.world_model.specs.network_model.declared.event.Event.TheVariants.{Inject, Carry, Lose, Tick, TickSwitch, Restart, RestartSwitch, Forge, Route}
use Rattle.live_model.specs.Beats.{Beat, is_sending, events_in}
use Rattle.law_link_woken.specs.law_run_facts.ordered_lists.Ordered.{Every}
use Rattle.law_link_woken.proofs.law_run_facts.ordered_lists.Every.{every_left, every_join}
use Rattle.law_link_woken.specs.law_live_meetings.Exchange.{ifmp, heard, Ends, End, Act, Hears, IsCleared, HearsElse, Turn, AtOne, AtOther, acts, turns, ticks, stepped, hears_first, swapped, cleared_state}
use Rattle.law_link_woken.proofs.law_live_meetings.Greetings.{full, ack, if_both, if_false}
use Rattle.law_link_woken.specs.law_live_waking_links.Hellos.{ShowsEnds}
use Rattle.law_link_woken.specs.law_live_waking_links.Law.{IsPeaceful, TakesTurns, ShowsTick, ShowsFarTick}
use Rattle.law_link_woken.specs.law_live_waking_links.Beats.{ArePeaceful, IsPeacefulBeat}
use Rattle.law_link_woken.proofs.law_live_waking_links.Events.{carries_are_turns, packets_are_turns, ticks_are_turns}
use Rattle.law_link_met.proofs.Exchange.{peer_itself}

-- *An end is up*: in Estab, silent for so many ticks at most, and all that comes to it is the other's ACK
pub record IsUp (own far : Peer) (n : ℕ) (end : End Peer) : Type 0 where
  pub silence : ℕ
  pub few : silence ≤ n
  pub side : end.side ≡ full own far silence
  pub comes : Every (λ (message : Said Peer). message ≡ ack far own) end.comes

pub record AreUp (a b : Peer) (n m : ℕ) (ends : Ends Peer) : Type 0 where
  pub one : IsUp a b n ends.one
  pub other : IsUp b a m ends.other

swap : (a b : Peer) (n m : ℕ) (ends : Ends Peer) → AreUp a b n m ends → AreUp b a m n (swapped ends)
swap a b n m ends up = record { one = up.other; other = up.one }

one_more : (P : Said Peer → Type 0) (xs : List (Said Peer)) (x : Said Peer) → Every P xs → P x → Every P (xs ++ x ∷ [])
one_more P [] x all h = (h, tt)
one_more P (y ∷ xs) x all h = (all.0, one_more P xs x all.1 h)

-- *An ACK* that is meant, of the party that is known, leaves it so, but that it has heard
abbrev quiet_step : (a b : Peer) → Step Peer
quiet_step a b = record { side = full a b 0; answer = Quiet }

hears_ack : (a b : Peer) (k : ℕ) → received same_peer (full a b k) (heard ifmp (ack b a)) ≡ quiet_step a b
hears_ack a b k = ap (followed (full a b k) (heard ifmp (ack b a)))
    (if_both (same_peer a a) (same_peer b b) enters_by_ack (stays Estab (Says Rstack)) (peer_itself a) (peer_itself b))

-- *A tick* below the limit says one
abbrev ack_step : (a b : Peer) (k : ℕ) → Step Peer
ack_step a b k = record { side = full a b (k + 1); answer = Send (ack a b) }

below : (k : ℕ) → k + 1 ≤ 3 → nat_lt silence_limit (k + 1) ≡ false
below k few = grind (arith, nat_tests, few)

ticks_ack : (a b : Peer) (k : ℕ) → k + 1 ≤ 3 → ticked (full a b k) ≡ ack_step a b k
ticks_ack a b k few = ap (followed_tick (full a b k)) (if_false (nat_lt silence_limit (k + 1)) Resets (Says Ack) (below k few))

acts_keep : (a b : Peer) (n m : ℕ) (ends : Ends Peer) (act : Act Peer) → AreUp a b n m ends → AreUp a b n m (acts ifmp ends act)
acts_keep a b n m ends (Hears drawn) up = by ends.one.comes up.one.comes
  where
    step_is : (message : Said Peer) → message ≡ ack b a → received same_peer ends.one.side (heard ifmp message) ≡ quiet_step a b
    step_is message is = ap (λ (s : Side Peer). received same_peer s (heard ifmp message)) up.one.side
        ∙ (ap (λ (x : Said Peer). received same_peer (full a b up.one.silence) (heard ifmp x)) is ∙ hears_ack a b up.one.silence)

    by : (xs : List (Said Peer)) → Every (λ (message : Said Peer). message ≡ ack b a) xs → AreUp a b n m (hears_first ifmp ends drawn xs)
    by [] all = up
    by (message ∷ later) all = subst (λ (step : Step Peer). AreUp a b n m (stepped ifmp ends drawn later step)) (sym (step_is message all.0)) (record {
      one = record { silence = 0; few = omega arith; side = refl; comes = all.1 };
      other = record {
        silence = up.other.silence;
        few = up.other.few;
        side = up.other.side;
        comes = subst (Every (λ (x : Said Peer). x ≡ ack a b)) (sym (append-nil ends.other.comes)) up.other.comes;
      };
    })
acts_keep a b n m ends IsCleared up = record {
  one = record { silence = up.one.silence; few = up.one.few; side = ap (λ (s : Side Peer). record s { state = cleared_state s.state }) up.one.side; comes = up.one.comes };
  other = up.other;
}
acts_keep a b n m ends HearsElse up = record {
  one = record { silence = 0; few = omega arith; side = ap (λ (s : Side Peer). record s { silence = 0 }) up.one.side; comes = up.one.comes };
  other = up.other;
}

turn_keeps : (a b : Peer) (n m : ℕ) (ends : Ends Peer) (turn : Turn Peer) → AreUp a b n m ends → AreUp a b n m (turns ifmp ends turn)
turn_keeps a b n m ends (AtOne act) up = acts_keep a b n m ends act up
turn_keeps a b n m ends (AtOther act) up = swap b a m n (acts ifmp (swapped ends) act) (acts_keep b a m n (swapped ends) act (swap a b n m ends up))

turns_keep : (a b : Peer) (n m : ℕ) (come : List (Turn Peer)) (ends : Ends Peer) → AreUp a b n m ends → AreUp a b n m (fold (turns ifmp) ends come)
turns_keep a b n m [] ends up = up
turns_keep a b n m (turn ∷ come) ends up = turns_keep a b n m come (turns ifmp ends turn) (turn_keeps a b n m ends turn up)

tick_keeps : (a b : Peer) (n m : ℕ) (ends : Ends Peer) (drawn : Peer) → n + 1 ≤ 3 → AreUp a b n m ends → AreUp a b (n + 1) m (ticks ifmp ends drawn)
tick_keeps a b n m ends drawn few up = subst (λ (step : Step Peer). AreUp a b (n + 1) m (stepped ifmp ends drawn ends.one.comes step)) (sym step_is) (record {
  one = record { silence = up.one.silence + 1; few = omega (arith, up.one.few); side = refl; comes = up.one.comes };
  other = record {
    silence = up.other.silence;
    few = up.other.few;
    side = up.other.side;
    comes = one_more (λ (x : Said Peer). x ≡ ack a b) ends.other.comes (ack a b) up.other.comes refl;
  };
})
  where
    step_is : ticked ends.one.side ≡ ack_step a b up.one.silence
    step_is = ap ticked up.one.side ∙ ticks_ack a b up.one.silence (omega (arith, few, up.one.few))

-- *Ticks* of a node's controller among events
abbrev one_if : Bool → ℕ
one_if true = 1
one_if false = 0

abbrev ticks_by : NodeId → Event → ℕ
ticks_by node (Tick here) = one_if (here.0 == node.0)
ticks_by node event = 0

abbrev ticks_in : NodeId → List Event → ℕ
ticks_in node [] = 0
ticks_in node (event ∷ events) = ticks_by node event + ticks_in node events

-- *Events of a beat*
abbrev IsOfBeat : Event → Type 0
IsOfBeat (Tick node) = Unit {0}
IsOfBeat (TickSwitch node) = Unit {0}
IsOfBeat (Carry place) = Unit {0}
IsOfBeat (Inject node octets) = Unit {0}
IsOfBeat event = ⊥

same_is : (x y : ℕ) → (x == y) ≡ true → x ≡ y
same_is x y e = grind (arith, nat_tests, e)

differs : (x y : ℕ) → (x == y) ≡ false → x ≢ y
differs x y e same = (let t : (x == y) ≡ true = grind (arith, nat_tests, same) in absurd (true≢false (sym t ∙ e)))

module _ (topology : Topology) (is : IsTopology topology) (one far : LinkEnd) (apart : one.node.0 ≢ far.node.0) (a b : Peer) where
  -- *The ports are up* in a network
  pub record UpAt (n m : ℕ) (w : World) : Type 0 where
    pub ends : Ends Peer
    pub shows : ShowsEnds w one far ends
    pub up : AreUp a b n m ends

  weaken : (n m k l : ℕ) (w : World) → n ≤ k → m ≤ l → UpAt n m w → UpAt k l w
  weaken n m k l w more far_more u = record {
    ends = u.ends;
    shows = u.shows;
    up = record {
      one = record { silence = u.up.one.silence; few = omega (arith, u.up.one.few, more); side = u.up.one.side; comes = u.up.one.comes };
      other = record { silence = u.up.other.silence; few = omega (arith, u.up.other.few, far_more); side = u.up.other.side; comes = u.up.other.comes };
    };
  }

  at_tick : (n m : ℕ) (w : World) (here : NodeId) (own other : Bool) → (here.0 == one.node.0) ≡ own → (here.0 == far.node.0) ≡ other → IsPeaceful topology w one far (Tick here)
      → UpAt n m w → n + one_if own ≤ 3 → m + one_if other ≤ 3 → UpAt (n + one_if own) (m + one_if other) (next topology w (Tick here))
  at_tick n m w here true true own other peace u few far_few = absurd (apart (sym (same_is here.0 one.node.0 own) ∙ same_is here.0 far.node.0 other))
  at_tick n m w here true false own other peace u few far_few =
      let t : ShowsTick (next topology w (Tick here)) one far u.ends = ticks_are_turns.near topology w one far here u.ends is apart (same_is here.0 one.node.0 own) peace u.shows in
      weaken (n + 1) m (n + one_if true) (m + one_if false) (next topology w (Tick here)) (omega arith) (omega arith)
      (record { ends = ticks ifmp u.ends t.drawn; shows = t.shows; up = tick_keeps a b n m u.ends t.drawn few u.up })
  at_tick n m w here false true own other peace u few far_few =
      let t : ShowsFarTick (next topology w (Tick here)) one far u.ends = ticks_are_turns.far_end topology w one far here u.ends is apart (same_is here.0 far.node.0 other) peace u.shows in
      weaken n (m + 1) (n + one_if false) (m + one_if true) (next topology w (Tick here)) (omega arith) (omega arith) (record {
        ends = swapped (ticks ifmp (swapped u.ends) t.drawn);
        shows = t.shows;
        up = swap b a (m + 1) n (ticks ifmp (swapped u.ends) t.drawn) (tick_keeps b a m n (swapped u.ends) t.drawn far_few (swap a b n m u.ends u.up));
      })
  at_tick n m w here false false own other peace u few far_few = weaken n m (n + one_if false) (m + one_if false) (next topology w (Tick here)) (omega arith) (omega arith) (record {
    ends = u.ends;
    shows = ticks_are_turns.another topology w one far here u.ends is (differs here.0 one.node.0 own) (differs here.0 far.node.0 other) peace u.shows;
    up = u.up;
  })

  by_turns : (n m : ℕ) (v : World) (ends : Ends Peer) → AreUp a b n m ends → TakesTurns v one far ends → UpAt (n + 0) (m + 0) v
  by_turns n m v ends up t = weaken n m (n + 0) (m + 0) v (omega arith) (omega arith)
      (record { ends = fold (turns ifmp) ends t.come; shows = t.shows; up = turns_keep a b n m t.come ends up })

  step : (n m : ℕ) (w : World) (event : Event) → IsOfBeat event → IsPeaceful topology w one far event → UpAt n m w → n + ticks_by one.node event ≤ 3 → m + ticks_by far.node event ≤ 3
      → UpAt (n + ticks_by one.node event) (m + ticks_by far.node event) (next topology w event)
  step n m w (Tick here) of peace u few far_few = at_tick n m w here (here.0 == one.node.0) (here.0 == far.node.0) refl refl peace u few far_few
  step n m w (TickSwitch here) of peace u few far_few = weaken n m (n + 0) (m + 0) (next topology w (TickSwitch here)) (omega arith) (omega arith)
      (record { ends = u.ends; shows = ticks_are_turns.switch topology w one far here u.ends is peace u.shows; up = u.up })
  step n m w (Carry place) of peace u few far_few = by_turns n m (next topology w (Carry place)) u.ends u.up (carries_are_turns topology w one far place u.ends is apart peace u.shows)
  step n m w (Inject here octets) of peace u few far_few = by_turns n m (next topology w (Inject here octets)) u.ends u.up (packets_are_turns topology w one far here octets u.ends is apart peace u.shows)
  step n m w (Lose place) of peace u few far_few = absurd of
  step n m w (Restart here) of peace u few far_few = absurd of
  step n m w (RestartSwitch here) of peace u few far_few = absurd of
  step n m w (Forge place channel payload) of peace u few far_few = absurd of
  step n m w (Route here change) of peace u few far_few = absurd of

  walk : (events : List Event) (n m : ℕ) (w : World) → Every IsOfBeat events → ArePeaceful topology w one far events → UpAt n m w → n + ticks_in one.node events ≤ 3
      → m + ticks_in far.node events ≤ 3 → UpAt (n + ticks_in one.node events) (m + ticks_in far.node events) (world_after topology w events)
  walk [] n m w of peace u few far_few = weaken n m (n + 0) (m + 0) w (omega arith) (omega arith) u
  walk (event ∷ events) n m w of peace u few far_few =
      weaken ((n + ticks_by one.node event) + ticks_in one.node events) ((m + ticks_by far.node event) + ticks_in far.node events)
      (n + (ticks_by one.node event + ticks_in one.node events)) (m + (ticks_by far.node event + ticks_in far.node events))
      (world_after topology (next topology w event) events) (omega arith) (omega arith)
      (walk events (n + ticks_by one.node event) (m + ticks_by far.node event) (next topology w event) of.1
      (λ front rest later e. peace (event ∷ front) rest later (ap (λ (es : List Event). event ∷ es) e))
      (step n m w event of.0 (peace [] events event refl) u (omega (arith, few)) (omega (arith, far_few))) (omega (arith, few)) (omega (arith, far_few)))

-- *A beat ticks* each controller once
module _ (node : NodeId) where
  ticks_join : (xs ys : List Event) → ticks_in node (xs ++ ys) ≡ ticks_in node xs + ticks_in node ys
  ticks_join [] ys = omega arith
  ticks_join (x ∷ xs) ys = omega (arith, ticks_join xs ys)

  none_below : (sites : List Site) (number : ℕ) → AreShaped number sites → node.0 < number → ticks_in node (map tick_of sites) ≡ 0
  none_below [] number shaped low = refl
  none_below (s ∷ sites) number shaped low = omega (arith, none_of, none_below sites (suc number) shaped.1 (omega (arith, low)))
    where
      not_it : (s.controller.node.0 == node.0) ≡ false
      not_it = grind (arith, nat_tests, shaped.0.node, low)

      none_of : one_if (s.controller.node.0 == node.0) ≡ 0
      none_of = ap (λ (t : Bool). one_if t) not_it

  one_at_most : (sites : List Site) (number : ℕ) → AreShaped number sites → ticks_in node (map tick_of sites) ≤ 1
  one_at_most [] number shaped = omega arith
  one_at_most (s ∷ sites) number shaped = by (s.controller.node.0 == node.0) refl (one_at_most sites (suc number) shaped.1)
    where
      by : (t : Bool) → (s.controller.node.0 == node.0) ≡ t → ticks_in node (map tick_of sites) ≤ 1 → one_if t + ticks_in node (map tick_of sites) ≤ 1
      by true e later = omega (arith, none_below sites (suc number) shaped.1 (omega (arith, shaped.0.node, same_is s.controller.node.0 node.0 e)))
      by false e later = omega (arith, later)

  no_switches : (sites : List Site) → ticks_in node (map switch_tick_of sites) ≡ 0
  no_switches [] = refl
  no_switches (s ∷ sites) = omega (arith, no_switches sites)

  no_carries : (places : List Place) → ticks_in node (map Carry places) ≡ 0
  no_carries [] = refl
  no_carries (place ∷ places) = omega (arith, no_carries places)

  none_sent : (events : List Event) → list_all is_sending events ≡ true → ticks_in node events ≡ 0
  none_sent [] sends = refl
  none_sent (Inject here octets ∷ events) sends = omega (arith, none_sent events sends)
  none_sent (Carry place ∷ events) sends = omega (arith, none_sent events sends)
  none_sent (Lose place ∷ events) sends = absurd (true≢false (sym sends))
  none_sent (Tick here ∷ events) sends = absurd (true≢false (sym sends))
  none_sent (TickSwitch here ∷ events) sends = absurd (true≢false (sym sends))
  none_sent (Restart here ∷ events) sends = absurd (true≢false (sym sends))
  none_sent (RestartSwitch here ∷ events) sends = absurd (true≢false (sym sends))
  none_sent (Forge place channel payload ∷ events) sends = absurd (true≢false (sym sends))
  none_sent (Route here change ∷ events) sends = absurd (true≢false (sym sends))

  ticks_once : (w : World) (beat : Beat) → AreShaped 1 w.sites → list_all is_sending beat.sending ≡ true → ticks_in node (events_in w beat) ≤ 1
  ticks_once w beat shaped sends = omega (
    arith,
    one_at_most w.sites 1 shaped,
    no_switches w.sites,
    no_carries beat.carries,
    none_sent beat.sending sends,
    ticks_join ((map tick_of w.sites ++ map switch_tick_of w.sites) ++ map Carry beat.carries) beat.sending,
    ticks_join (map tick_of w.sites ++ map switch_tick_of w.sites) (map Carry beat.carries),
    ticks_join (map tick_of w.sites) (map switch_tick_of w.sites),
  )

of_sites : (sites : List Site) → Every IsOfBeat (map tick_of sites)
of_sites [] = tt
of_sites (s ∷ sites) = (tt, of_sites sites)

of_switches : (sites : List Site) → Every IsOfBeat (map switch_tick_of sites)
of_switches [] = tt
of_switches (s ∷ sites) = (tt, of_switches sites)

of_carries : (places : List Place) → Every IsOfBeat (map Carry places)
of_carries [] = tt
of_carries (place ∷ places) = (tt, of_carries places)

of_sending : (events : List Event) → list_all is_sending events ≡ true → Every IsOfBeat events
of_sending [] sends = tt
of_sending (Inject here octets ∷ events) sends = (tt, of_sending events sends)
of_sending (Carry place ∷ events) sends = (tt, of_sending events sends)
of_sending (Lose place ∷ events) sends = absurd (true≢false (sym sends))
of_sending (Tick here ∷ events) sends = absurd (true≢false (sym sends))
of_sending (TickSwitch here ∷ events) sends = absurd (true≢false (sym sends))
of_sending (Restart here ∷ events) sends = absurd (true≢false (sym sends))
of_sending (RestartSwitch here ∷ events) sends = absurd (true≢false (sym sends))
of_sending (Forge place channel payload ∷ events) sends = absurd (true≢false (sym sends))
of_sending (Route here change ∷ events) sends = absurd (true≢false (sym sends))

of_beat : (w : World) (beat : Beat) → list_all is_sending beat.sending ≡ true → Every IsOfBeat (events_in w beat)
of_beat w beat sends = every_join IsOfBeat ((map tick_of w.sites ++ map switch_tick_of w.sites) ++ map Carry beat.carries) beat.sending
    (every_join IsOfBeat (map tick_of w.sites ++ map switch_tick_of w.sites) (map Carry beat.carries)
    (every_join IsOfBeat (map tick_of w.sites) (map switch_tick_of w.sites) (of_sites w.sites) (of_switches w.sites)) (of_carries beat.carries)) (of_sending beat.sending sends)

-- *So they are up* behind each front of a beat
pub up_along : (topology : Topology) (is : IsTopology topology) (one far : LinkEnd) (apart : one.node.0 ≢ far.node.0) (a b : Peer) (w : World) (beat : Beat)
    → IsPeacefulBeat topology w one far beat → (ends : Ends Peer) → ShowsEnds w one far ends → AreUp a b 0 0 ends → (front rest : List Event) → events_in w beat ≡ front ++ rest
    → (n : ℕ) × ((m : ℕ) × UpAt topology is one far apart a b n m (world_after topology w front))
up_along topology is one far apart a b w beat peaceful ends shows up front rest e = (
  0 + ticks_in one.node front,
  (
    0 + ticks_in far.node front,
    walk topology is one far apart a b front 0 0 w (every_left IsOfBeat front rest (subst (Every IsOfBeat) e (of_beat w beat peaceful.is_beat.sends)))
        (λ first later event f. peaceful.peaceful first (later ++ rest) event (e ∙ (ap (λ (es : List Event). es ++ rest) f ∙ append_assoc first (event ∷ later) rest)))
        (record { ends = ends; shows = shows; up = up }) (few one.node) (few far.node),
  ),
)
  where
    few : (node : NodeId) → 0 + ticks_in node front ≤ 3
    few node = omega (arith, ticks_once node w beat peaceful.shaped peaceful.is_beat.sends, ap (ticks_in node) e, ticks_join node front rest)
