-- the cells of a queue are taken one after another, and none that isn't lost but by a carry

use Rattle.std.proofs.Common.{◌≡◌, ℕ, ◌==◌, ◌&&◌, ◌||◌, Bool, true, false, true≢false, List, [], ◌∷◌, ◌++◌, append_assoc, append-nil, take, Option, None, Some, refl, sym, ◌∙◌, ap, arith, if◌then◌else◌}
use Rattle.std.specs.Prelude.{drop}
use Rattle.std.proofs.lemmas.Bool.Decides.{nat_tests}
use Rattle.law_world_pace.specs.world_model.Words.{Place, Mark, Cell, Entry, Loss, Lost, has_entry, same_mark, Topology, World, Site, site_at, place_node, queue_at, queue_number, same_queue, with_queue_of, loses_head, put_away, next, world_after}
use Rattle.law_world_pace.specs.world_model.network_model.declared.event.Event.{Event}
use Rattle.law_world_pace.specs.world_model.network_model.declared.event.Event.TheVariants.{Inject, Carry, Lose, Tick, TickSwitch, Restart, RestartSwitch, Forge, Route}
use Rattle.law_world_pace.specs.world_model.Step.{note}
use Rattle.law_passing.specs.telling_model.Passing.{cells_put_at, left, left_from, source_of}
use Rattle.law_passing.proofs.Queues.{one_queue}
use Rattle.law_passing.proofs.Worlds.{change_by_passing}
use Rattle.law_live_carries.specs.Law.{taken_by, taken_at, lost_at, taken_in, lost_in, put_in, CellsComeInOrder, IsCarried, CellsAreCarried, IsUnlost, UnlostAreCarried, WhatIsPutIsCarried}

-- *Lists*
front_none : {A : Type 0} (xs ys : List A) → xs ++ ys ≡ [] → xs ≡ []
front_none [] ys e = refl
front_none (x ∷ xs) ys e = absurd (cc e)

rest_none : {A : Type 0} (xs ys : List A) → xs ++ ys ≡ [] → ys ≡ []
rest_none [] ys e = e
rest_none (x ∷ xs) ys e = absurd (cc e)

none_holds : {A : Type 0} (before : List A) (x : A) (after : List A) → before ++ x ∷ after ≡ [] → ⊥
none_holds [] x after e = cc e
none_holds (y ∷ before) x after e = cc e

first_and_rest : {A : Type 0} (xs : List A) → xs ≡ take 1 xs ++ drop 1 xs
first_and_rest [] = refl
first_and_rest (x ∷ xs) = refl

-- *One event* takes the head of the queue, or leaves the queue as it is
data Takes (w : World) (source : Option Place) (place : Place) : Type 0 where
  takes : (own : Place) → source ≡ Some own → same_queue own place ≡ true → taken_by w source place ≡ take 1 (queue_at w place)
      → left_from w source place ≡ drop 1 (queue_at w place) → Takes w source place
  leaves : taken_by w source place ≡ [] → left_from w source place ≡ queue_at w place → Takes w source place

how_taken : (w : World) (source : Option Place) (place : Place) → Takes w source place
how_taken w None place = leaves refl refl
how_taken w (Some own) place = by (same_queue own place) refl
  where
    taken_as : (b : Bool) → same_queue own place ≡ b → taken_by w (Some own) place ≡ (if b then take 1 (queue_at w place) else [])
    taken_as b e = ap (λ (c : Bool). if c then take 1 (queue_at w place) else []) e

    left_as : (b : Bool) → same_queue own place ≡ b → left_from w (Some own) place ≡ (if b then drop 1 (queue_at w place) else queue_at w place)
    left_as b e = ap (λ (c : Bool). if c then drop 1 (queue_at w place) else queue_at w place) e

    by : (b : Bool) → same_queue own place ≡ b → Takes w (Some own) place
    by true e = takes own refl e (taken_as true e) (left_as true e)
    by false e = leaves (taken_as false e) (left_as false e)

one_event : (w : World) (event : Event) (place : Place) → queue_at w place ≡ taken_at w event place ++ left w event place
one_event w event place = by (how_taken w (source_of event) place)
  where
    by : Takes w (source_of event) place → queue_at w place ≡ taken_at w event place ++ left w event place
    by (takes own is e t l) = first_and_rest (queue_at w place) ∙ (λ i. sym t i ++ sym l i)
    by (leaves t l) = λ i. sym t i ++ sym l i

-- *A stretch*
module _ (topology : Topology) (place : Place) where
  in_order : (events : List Event) (w : World) → queue_at w place ++ put_in topology w events place ≡ taken_in topology w events place ++ queue_at (world_after topology w events) place
  in_order [] w = append-nil (queue_at w place)
  in_order (event ∷ events) w =
      let t : List Cell = taken_at w event place in
      let l : List Cell = left w event place in
      let p : List Cell = cells_put_at topology w event place in
      let ps : List Cell = put_in topology (next topology w event) events place in
      let ts : List Cell = taken_in topology (next topology w event) events place in
      let end : List Cell = queue_at (world_after topology (next topology w event) events) place in
      ap (λ (q : List Cell). q ++ (p ++ ps)) (one_event w event place)
      ∙ append_assoc t l (p ++ ps)
      ∙ ap (λ (q : List Cell). t ++ q) (sym (append_assoc l p ps) ∙ ap (λ (q : List Cell). q ++ ps) (sym (change_by_passing topology w event place)) ∙ in_order events (next topology w event))
      ∙ sym (append_assoc t ts end)

  -- the event that takes a cell
  record IsTaken (w : World) (events : List Event) (before : List Cell) (cell : Cell) (after : List Cell) : Type 0 where
    front : List Event
    event : Event
    own : Place
    rest : List Event
    are : events ≡ front ++ event ∷ rest
    from : source_of event ≡ Some own
    same : same_queue own place ≡ true
    taken_before : taken_in topology w front place ≡ before
    waits : queue_at (world_after topology w front) place ≡ cell ∷ after ++ put_in topology w front place

  one_earlier : (event : Event) (events : List Event) (w : World) (first before : List Cell) (cell : Cell) (after : List Cell) → taken_at w event place ≡ first
      → IsTaken (next topology w event) events before cell (after ++ cells_put_at topology w event place) → IsTaken w (event ∷ events) (first ++ before) cell after
  one_earlier event events w first before cell after is c = record {
    front = event ∷ c.front;
    event = c.event;
    own = c.own;
    rest = c.rest;
    are = ap (λ (es : List Event). event ∷ es) c.are;
    from = c.from;
    same = c.same;
    taken_before = λ i. is i ++ c.taken_before i;
    waits = c.waits ∙ ap (λ (q : List Cell). cell ∷ q) (append_assoc after (cells_put_at topology w event place) (put_in topology (next topology w event) c.front place));
  }

  -- what is so of the later events
  abbrev Later : Event → List Event → World → Cell → List Cell → Type 0
  Later event events w cell after = (less : List Cell) → queue_at (next topology w event) place ≡ less ++ cell ∷ (after ++ cells_put_at topology w event place)
      → IsTaken (next topology w event) events less cell (after ++ cells_put_at topology w event place)

  each_taken : (events : List Event) (w : World) (before : List Cell) (cell : Cell) (after : List Cell) → queue_at w place ≡ before ++ cell ∷ after
      → queue_at (world_after topology w events) place ≡ [] → IsTaken w events before cell after
  each_taken [] w before cell after waits empty = absurd (none_holds before cell after (sym waits ∙ empty))
  each_taken (event ∷ events) w before cell after waits empty = by (how_taken w (source_of event) place)
      (λ less they_wait. each_taken events (next topology w event) less cell (after ++ cells_put_at topology w event place) they_wait empty)
    where
      -- what waits then
      then_waits : (before : List Cell) → left w event place ≡ before ++ cell ∷ after
          → queue_at (next topology w event) place ≡ before ++ cell ∷ (after ++ cells_put_at topology w event place)
      then_waits before e = change_by_passing topology w event place ∙ ap (λ (q : List Cell). q ++ cells_put_at topology w event place) e
          ∙ append_assoc before (cell ∷ after) (cells_put_at topology w event place)

      by_before : (before : List Cell) → queue_at w place ≡ before ++ cell ∷ after → (own : Place) → source_of event ≡ Some own → same_queue own place ≡ true
          → taken_at w event place ≡ take 1 (queue_at w place) → left w event place ≡ drop 1 (queue_at w place) → Later event events w cell after → IsTaken w (event ∷ events) before cell after
      by_before [] waits own from same t l later = record {
        front = [];
        event = event;
        own = own;
        rest = events;
        are = refl;
        from = from;
        same = same;
        taken_before = refl;
        waits = waits ∙ ap (λ (q : List Cell). cell ∷ q) (sym (append-nil after));
      }
      by_before (x ∷ before) waits own from same t l later = one_earlier event events w (x ∷ []) before cell after (t ∙ ap (take 1) waits)
          (later before (then_waits before (l ∙ ap (drop 1) waits)))

      by : Takes w (source_of event) place → Later event events w cell after → IsTaken w (event ∷ events) before cell after
      by (takes own from same t l) later = by_before before waits own from same t l later
      by (leaves t l) later = one_earlier event events w [] before cell after t (later before (then_waits before (l ∙ waits)))

  -- *What takes it* is a carry, or a loss
  by_event : (w : World) (events : List Event) (before : List Cell) (cell : Cell) (after : List Cell) (t : IsTaken w events before cell after)
      → (t.event ≡ Lose t.own → ⊥) → IsCarried topology w events place before cell after
  by_event w events before cell after t unlost = by t.event refl t.from
    where
      one : (own other : Place) → Some own ≡ Some other → own ≡ other
      one own other e = cc

      by : (event : Event) → t.event ≡ event → source_of event ≡ Some t.own → IsCarried topology w events place before cell after
      by (Carry own) is from = record {
        front = t.front;
        own = t.own;
        rest = t.rest;
        are = t.are ∙ ap (λ (e : Event). t.front ++ e ∷ t.rest) (is ∙ ap Carry (one own t.own from));
        one_queue = t.same;
        taken_before = t.taken_before;
        waits = t.waits;
      }
      by (Lose own) is from = absurd (unlost (is ∙ ap Lose (one own t.own from)))
      by (Inject node octets) is from = absurd (cc from)
      by (Tick node) is from = absurd (cc from)
      by (TickSwitch node) is from = absurd (cc from)
      by (Restart node) is from = absurd (cc from)
      by (RestartSwitch node) is from = absurd (cc from)
      by (Forge own channel payload) is from = absurd (cc from)
      by (Route node change) is from = absurd (cc from)

  -- where nothing is lost on the queue it is a carry
  lost_front : (front : List Event) (event : Event) (rest : List Event) (w : World) → lost_in topology w (front ++ event ∷ rest) place ≡ []
      → lost_at (world_after topology w front) event place ≡ []
  lost_front [] event rest w none = front_none (lost_at w event place) (lost_in topology (next topology w event) rest place) none
  lost_front (first ∷ front) event rest w none =
      lost_front front event rest (next topology w first) (rest_none (lost_at w first place) (lost_in topology (next topology w first) (front ++ event ∷ rest) place) none)

  pub each_carried : (events : List Event) (w : World) (before : List Cell) (cell : Cell) (after : List Cell) → queue_at w place ≡ before ++ cell ∷ after
      → queue_at (world_after topology w events) place ≡ [] → lost_in topology w events place ≡ [] → IsCarried topology w events place before cell after
  each_carried events w before cell after waits empty none = by_event w events before cell after t (λ is. none_holds [] cell [] (here is))
    where
      t : IsTaken w events before cell after
      t = each_taken events w before cell after waits empty

      here : t.event ≡ Lose t.own → cell ∷ [] ≡ []
      here is = sym (ap (λ (b : Bool). if b then take 1 (queue_at (world_after topology w t.front) place) else []) t.same ∙ ap (take 1) t.waits)
          ∙ sym (ap (λ (e : Event). lost_at (world_after topology w t.front) e place) is)
          ∙ lost_front t.front t.event t.rest w (ap (λ (es : List Event). lost_in topology w es place) (sym t.are) ∙ none)

-- *In the ledger* each loss has its entry
number_itself : (n : ℕ) → (n == n) ≡ true
number_itself n = grind (arith, nat_tests)

both : (x y : Bool) → x ≡ true → y ≡ true → (x && y) ≡ true
both true y p q = q
both false y p q = absurd (cc p)

mark_itself : (m : Mark) → same_mark m m ≡ true
mark_itself m = both (m.packet == m.packet) (m.frame == m.frame) (number_itself m.packet) (number_itself m.frame)

last_entry : (entries : List Entry) (entry : Entry) → has_entry (entries ++ entry ∷ []) entry.mark ≡ true
last_entry [] entry = ap (λ (b : Bool). b || false) (mark_itself entry.mark)
last_entry (x ∷ entries) entry = either (same_mark x.mark entry.mark) (last_entry entries entry)
  where
    either : (b : Bool) → has_entry (entries ++ entry ∷ []) entry.mark ≡ true → (b || has_entry (entries ++ entry ∷ []) entry.mark) ≡ true
    either true h = refl
    either false h = h

are_one_node : (one other : Place) → same_queue one other ≡ true → (place_node one).0 ≡ (place_node other).0
are_one_node one other e = grind (arith, nat_tests, e)

are_one_number : (one other : Place) → same_queue one other ≡ true → queue_number one ≡ queue_number other
are_one_number one other e = grind (arith, nat_tests, e)

module _ (topology : Topology) where
  then_one : (front : List Event) (event : Event) (w : World) → world_after topology w (front ++ event ∷ []) ≡ next topology (world_after topology w front) event
  then_one [] event w = refl
  then_one (first ∷ front) event w = then_one front event (next topology w first)

  -- a loss of this cell enters its mark
  loss_enters : (w : World) (own place : Place) (cell : Cell) (cells : List Cell) → same_queue own place ≡ true → queue_at w place ≡ cell ∷ cells
      → has_entry (next topology w (Lose own)).notes.entries cell.mark ≡ true
  loss_enters w own place cell cells same waits =
      ap (λ (q : List Cell). has_entry (loses_head (put_away w) own q).notes.entries cell.mark) here ∙ entered (site_at (put_away w) (place_node own))
    where
      here : queue_at w own ≡ cell ∷ cells
      here = one_queue w own place (are_one_node own place same) (are_one_number own place same) ∙ waits

      entered : (o : Option Site) → has_entry (note (with_queue_of (put_away w) own cells o) (Loss cell.mark Lost)).notes.entries cell.mark ≡ true
      entered None = last_entry w.notes.entries (record { mark = cell.mark; cause = Lost })
      entered (Some site) = last_entry w.notes.entries (record { mark = cell.mark; cause = Lost })

  -- so what the ledger doesn't have is carried
  pub unlost_carried : (w : World) (events : List Event) (place : Place) (before : List Cell) (cell : Cell) (after : List Cell) → queue_at w place ≡ before ++ cell ∷ after
      → queue_at (world_after topology w events) place ≡ [] → IsUnlost topology w events cell.mark → IsCarried topology w events place before cell after
  unlost_carried w events place before cell after waits empty unlost = by_event topology place w events before cell after t (λ is. true≢false (sym (there is) ∙ none))
    where
      t : IsTaken topology place w events before cell after
      t = each_taken topology place events w before cell after waits empty

      none : has_entry (world_after topology w (t.front ++ t.event ∷ [])).notes.entries cell.mark ≡ false
      none = unlost (t.front ++ t.event ∷ []) t.rest (t.are ∙ sym (append_assoc t.front (t.event ∷ []) t.rest))

      there : t.event ≡ Lose t.own → has_entry (world_after topology w (t.front ++ t.event ∷ [])).notes.entries cell.mark ≡ true
      there is = ap (λ (v : World). has_entry v.notes.entries cell.mark) (then_one t.front t.event w ∙ ap (next topology (world_after topology w t.front)) is)
          ∙ loss_enters (world_after topology w t.front) t.own place cell (after ++ put_in topology w t.front place) t.same t.waits

pub cells_come_in_order : CellsComeInOrder
cells_come_in_order topology w events place = in_order topology place events w

pub cells_are_carried : CellsAreCarried
cells_are_carried topology w events place before cell after waits empty none = each_carried topology place events w before cell after waits empty none

pub unlost_are_carried : UnlostAreCarried
unlost_are_carried topology w events place before cell after waits empty unlost = unlost_carried topology w events place before cell after waits empty unlost

pub what_is_put_is_carried : WhatIsPutIsCarried
what_is_put_is_carried topology w event events place before cell after puts empty unlost =
    unlost_carried topology (next topology w event) events place (left w event place ++ before) cell after
    (change_by_passing topology w event place ∙ ap (λ (q : List Cell). left w event place ++ q) puts ∙ sym (append_assoc (left w event place) before (cell ∷ after)))
    empty unlost
