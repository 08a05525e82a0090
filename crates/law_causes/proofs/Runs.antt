-- every run that forges nothing, of worlds in order: a frame that is broken stands beside a cause

use Rattle.std.proofs.Common.{◌≡◌, ◌≢◌, ℕ, zero, suc, ◌+◌, ◌≤◌, ◌<◌, Bool, true, false, true≢false, not, List, [], ◌∷◌, ◌++◌, length, Option, None, Some, slice_get, refl, sym, ◌∙◌, ap, subst, arith, append_assoc, if◌then◌else◌}
use Rattle.std.specs.Prelude.{◌||◌, nat_le}
use Rattle.std.specs.List.{list_any}
use Rattle.std.proofs.lemmas.Bool.{and_parts}
use Rattle.std.proofs.lemmas.Bool.Decides.{nat_tests}
use Rattle.std.proofs.lemmas.List.Concat.{flat_map-cons}
use Rattle.law_cell_lists.specs.world_model.Words.{Place, Down, Up, Out, Channel, next_control, with_control, Mark, Cell, Entry, PoolFull, Broken, Record, Loss, Forged, same_mark, noted, frame_cells, made, sent_frame, Turn, Takes, IsCut, stretch_from, open_stretch, StandsBesideCause, is_broken, has_mark, control_port, Policy, Topology, IsTopology, IsEvent, World, Site, site_at, controller_acts, switch_acts, forges_at, put_away, next, worlds_from, run, world_after, records_of, turns_at, turns_of, HasCause, HasCauses, is_wild, IsTame, IsRun}
use Rattle.law_controller_bindings.proofs.law_controller.world_model.link_model.Marks.{same_mark-Decides}
use Rattle.law_cell_lists.specs.world_model.frame_model.Sending.{Sender}
use Rattle.law_controller_bindings.specs.ordered_lists.Ordered.{Every}
use Rattle.law_cell_lists.specs.world_model.Switch as switches
use Rattle.law_cell_lists.specs.world_model.Conduct as switch
use Rattle.law_cell_lists.specs.world_model.Controller.{free_slots}
use Rattle.law_cell_lists.specs.world_model.Sending.{with_cells, sends}
use Rattle.law_cell_lists.specs.world_model.network_model.declared.event.Event.{Event}
use Rattle.law_cell_lists.specs.world_model.network_model.declared.event.Event.TheVariants.{Inject, Carry, Lose, Tick, TickSwitch, Restart, RestartSwitch, Forge, Route}
use Rattle.law_cell_lists.specs.world_model.World.{opened}
use Rattle.law_cell_lists.specs.world_model.Step.{note}
use Rattle.law_cell_lists.specs.world_model.Stretches.{Reassembler}
use Rattle.law_cell_lists.specs.Causes.{is_cause_of, has_cause}
use Rattle.law_cell_lists.proofs.Law.{AtPlace, adds_at}
use Rattle.law_causes.specs.Feeding.{IsFedOnce}
use Rattle.law_causes.proofs.Premises.{IsOrderly}
use Rattle.law_causes.proofs.Gathered.{gathers_in_runs, in_order}
use Rattle.law_causes.proofs.Following.{Flows, Known, After, AddsAt, quiet, beside, Follows}
use Rattle.law_causes.proofs.Events.{HasNodes, IsTrue, event_follows, event_nodes}
use Rattle.law_causes.proofs.Opening.{opened_nodes, opened_known, opened_flows}

-- *A run in order*: each event can come and forges nothing, and each world has its lists in order
abbrev pub IsSteady : Topology → World → List Event → Type 0
IsSteady t w [] = IsOrderly w
IsSteady t w (event ∷ events) = IsOrderly w × (IsEvent t w event × (IsTrue event × IsSteady t (next t w event) events))

steady_now : (t : Topology) (w : World) (events : List Event) → IsSteady t w events → IsOrderly w
steady_now t w [] s = s
steady_now t w (event ∷ events) s = s.0

steady_front : (t : Topology) (w : World) (before after : List Event) → IsSteady t w (before ++ after) → IsSteady t w before
steady_front t w [] after s = steady_now t w after s
steady_front t w (event ∷ before) after s = (s.0, (s.1.0, (s.1.1.0, steady_front t (next t w event) before after s.1.1.1)))

steady_back : (t : Topology) (w : World) (before after : List Event) → IsSteady t w (before ++ after) → IsSteady t (world_after t w before) after
steady_back t w [] after s = s
steady_back t w (event ∷ before) after s = steady_back t (next t w event) before after s.1.1.1

-- *What goes on*
record Goes (t : Topology) (w : World) (begun : Reassembler → List Cell) : Type 0 where
  flows : Flows t w begun
  known : Known w
  nodes : HasNodes t w

stretch_then : (begun : List Cell) (first second : List Turn) → stretch_from begun (first ++ second) ≡ stretch_from (stretch_from begun first) second
stretch_then begun [] second = refl
stretch_then begun (Takes cell ∷ first) second = stretch_then (if cell.header.last then [] else begun ++ cell ∷ []) first second
stretch_then begun (IsCut ∷ first) second = stretch_then [] first second

abbrev since : Topology → World → (Reassembler → List Cell) → List Event → Reassembler → List Cell
since t w begun events taker = stretch_from (begun taker) (turns_of t w events taker)

goes_run : (t : Topology) (is : IsTopology t) (w : World) (begun : Reassembler → List Cell) (events : List Event) → IsSteady t w events → Goes t w begun → Goes t (world_after t w events) (since t w begun events)
goes_run t is w begun [] steady g = g
goes_run t is w begun (event ∷ events) steady g =
    let later : World = next t w event in
    let first : Follows t w begun event later = event_follows t is w begun g.flows g.known steady.0 g.nodes event steady.1.0 steady.1.1.0 (steady_now t later events steady.1.1.1) in
    subst (Goes t (world_after t later events)) (λ i taker. sym (stretch_then (begun taker) (turns_at w event later taker) (turns_of t later events taker)) i)
    (goes_run t is later (After w begun event later) events steady.1.1.1 (record { flows = first.flows; known = first.known; nodes = event_nodes t is w begun g.flows g.known steady.0 g.nodes event steady.1.1.0 }))

-- what stands behind the front
behind : {X : Type 0} (xs ys : List X) (place : ℕ) (x : X) → length xs ≤ place → slice_get (xs ++ ys) place ≡ Some x → (i : ℕ) × ((slice_get ys i ≡ Some x) × (length xs + i ≡ place))
behind [] ys place x far e = (place, (e, omega arith))
behind (y ∷ xs) ys zero x far e = absurd (omega (arith, far))
behind (y ∷ xs) ys (suc place) x far e = (let b = behind xs ys place x (omega (arith, far)) e in (b.0, (b.1.0, omega (arith, b.1.1))))

every_found : {X : Type 0} (P : X → Type 0) (xs : List X) (i : ℕ) (x : X) → Every P xs → slice_get xs i ≡ Some x → P x
every_found P [] i x all e = absurd (cc e)
every_found P (y ∷ xs) zero x all e = (let same : y ≡ x = cc in subst P same all.0)
every_found P (y ∷ xs) (suc i) x all e = every_found P xs i x all.1 e

-- *Beside a cause*
record Among {X : Type 0} (test : X → Bool) (xs : List X) : Type 0 where
  place : ℕ
  item : X
  is : slice_get xs place ≡ Some item
  within : place < length xs
  passes : test item ≡ true

among : {X : Type 0} (test : X → Bool) (xs : List X) → list_any test xs ≡ true → Among test xs
among test [] e = absurd (cc e)
among test (x ∷ xs) e = by (test x) refl e (among test xs)
  where
    by : (b : Bool) → test x ≡ b → (b || list_any test xs) ≡ true → (list_any test xs ≡ true → Among test xs) → Among test (x ∷ xs)
    by true at e rest = record { place = 0; item = x; is = refl; within = omega arith; passes = at }
    by false at e rest = (let f = rest e in record { place = suc f.place; item = f.item; is = f.is; within = omega (arith, f.within); passes = f.passes })

front_get : {X : Type 0} (xs ys : List X) (place : ℕ) (x : X) → slice_get xs place ≡ Some x → slice_get (xs ++ ys) place ≡ Some x
front_get [] ys place x e = absurd (cc e)
front_get (y ∷ xs) ys zero x e = e
front_get (y ∷ xs) ys (suc place) x e = front_get xs ys place x e

own_mark : (stretch : List Cell) (i : ℕ) (cell : Cell) → slice_get stretch i ≡ Some cell → has_mark stretch cell.mark ≡ true
own_mark [] i cell e = absurd (cc e)
own_mark (c ∷ cells) zero cell e =
    let same : c ≡ cell = cc in
    let own : same_mark c.mark c.mark ≡ true = grind (arith, nat_tests) in
    subst (λ (x : Cell). has_mark (c ∷ cells) x.mark ≡ true) same (ap (λ (b : Bool). b || has_mark cells c.mark) own)
own_mark (c ∷ cells) (suc i) cell e = later (same_mark c.mark cell.mark) (own_mark cells i cell e)
  where
    later : (b : Bool) → has_mark cells cell.mark ≡ true → (b || has_mark cells cell.mark) ≡ true
    later true h = refl
    later false h = h

not_true : (b : Bool) → not b ≡ true → b ≡ false
not_true true e = absurd (cc e)
not_true false e = refl

stands_beside : (stretch : List Cell) (entries : List Entry) (place : ℕ) (entry : Entry) → AtPlace stretch entries place entry → StandsBesideCause stretch entries place entry
stands_beside stretch entries place entry h =
    let cell : Among (λ (c : Cell). has_cause h.before c.mark) stretch = among (λ (c : Cell). has_cause h.before c.mark) stretch h.caused in
    let cause : Among (is_cause_of cell.item.mark) h.before = among (is_cause_of cell.item.mark) h.before cell.passes in
    let parts = and_parts (same_mark cause.item.mark cell.item.mark) (not (is_broken cause.item.cause)) cause.passes in
    let same : cause.item.mark ≡ cell.item.mark = (same_mark-Decides cause.item.mark cell.item.mark).0 parts.0 in
    record {
      own = h.own;
      cause = cause.item;
      cause_place = cause.place;
      stands = ap (λ (l : List Entry). slice_get l cause.place) h.parts ∙ front_get h.before (entry ∷ h.after) cause.place cause.item cause.is;
      is_earlier = omega (arith, cause.within, h.place_is);
      is_other = not_true (is_broken cause.item.cause) parts.1;
      beside = subst (λ (mark : Mark). has_mark stretch mark ≡ true) (sym same) (own_mark stretch cell.place cell.item cell.is);
    }

-- *The law*, of one event
module _ (policy : Policy) (t : Topology) (is : IsTopology t) where
  abbrev begins : World
  begins = opened policy t

  abbrev stretch_before : List Event → Reassembler → List Cell
  stretch_before before taker = open_stretch (turns_of t begins before taker)

  caused_by : (before : List Event) (event : Event) (place : ℕ) (entry : Entry) → AddsAt (world_after t begins before) (stretch_before before) event (next t (world_after t begins before) event)
      → length (world_after t begins before).notes.entries ≤ place → slice_get (next t (world_after t begins before) event).notes.entries place ≡ Some entry → entry.cause ≡ Broken → HasCause policy t before event place entry
  caused_by before event place entry (quiet grown) far at broken =
      let w : World = world_after t begins before in
      let b = behind w.notes.entries grown.more place entry far (ap (λ (l : List Entry). slice_get l place) (sym grown.is) ∙ at) in
      absurd (every_found (λ (e : Entry). e.cause ≢ Broken) grown.more b.0 entry grown.others b.1.0 broken)
  caused_by before event place entry (beside taker cell comes takes adds) far at broken =
      let w : World = world_after t begins before in
      let entries : List Entry = (next t w event).notes.entries in
      let stretch : List Cell = stretch_before before taker ++ cell ∷ [] in
      let b = behind w.notes.entries adds.more place entry far (ap (λ (l : List Entry). slice_get l place) (sym adds.is) ∙ at) in
      record {
        taker = taker;
        cell = cell;
        comes = comes;
        taken = takes;
        cause = stands_beside stretch entries place entry (subst (λ (p : ℕ). AtPlace stretch entries p entry) b.1.1 (adds_at stretch w.notes.entries entries adds b.0 entry b.1.0 broken));
      }

  break_has_cause : (before after : List Event) (event : Event) → IsSteady t begins (before ++ event ∷ after)
      → (place : ℕ) (entry : Entry) → length (world_after t begins before).notes.entries ≤ place
      → slice_get (next t (world_after t begins before) event).notes.entries place ≡ Some entry → entry.cause ≡ Broken
      → HasCause policy t before event place entry
  break_has_cause before after event steady place entry far at broken =
      let w : World = world_after t begins before in
      let rest : IsSteady t w (event ∷ after) = steady_back t begins before (event ∷ after) steady in
      let g : Goes t w (stretch_before before) = goes_run t is begins (λ taker. []) before (steady_front t begins before (event ∷ after) steady)
      (record { flows = opened_flows policy t; known = opened_known policy t; nodes = opened_nodes policy t }) in
      let follows : Follows t w (stretch_before before) event (next t w event) =
      event_follows t is w (stretch_before before) g.flows g.known rest.0 g.nodes event rest.1.0 rest.1.1.0 (steady_now t (next t w event) after rest.1.1.1) in
      caused_by before event place entry follows.adds far at broken

-- *A forged frame* has a record
wild_sent : {Q : Type 0} (place : Place) (free : ℕ) (with_cells : List Cell → Q) (s : Sender Q) (channel : Channel) (mark : Mark) (payload : List ℕ) → s.notes.records ≡ Forged place ∷ []
    → list_any is_wild (sent_frame free with_cells s channel mark payload).notes.records ≡ true
wild_sent {Q} place free with_cells s channel mark payload is = by (nat_le (length (frame_cells channel mark payload)) free)
  where
    by : (x : Bool) → list_any is_wild (if x then record s { queues = with_cells (frame_cells channel mark payload); notes = made s.notes mark payload } else record s { notes = noted (made s.notes mark payload) (Loss mark PoolFull) }).notes.records ≡ true
    by true = ap (list_any is_wild) is
    by false = ap (λ (l : List Record). list_any is_wild (l ++ Loss mark PoolFull ∷ [])) is

wild_forged : (t : Topology) (w : World) (place : Place) (channel : Channel) (payload : List ℕ) → list_any is_wild (next t w (Forge place channel payload)).notes.records ≡ true
wild_forged t w place channel payload = by place
  where
    by : (at : Place) → list_any is_wild (forges_at (record (note (put_away w) (Forged place)) { numbers = with_control w.numbers }) at channel (next_control w.numbers) payload).notes.records ≡ true
    by (Down node) = own (site_at w node)
      where
        own : (o : Option Site) → list_any is_wild (controller_acts (record (note (put_away w) (Forged place)) { numbers = with_control w.numbers }) o (λ a. sends a channel (next_control w.numbers) payload)).notes.records ≡ true
        own None = refl
        own (Some site) = wild_sent place (free_slots site.controller) (with_cells site.controller) (record { queues = site.controller; notes = (note (put_away w) (Forged place)).notes }) channel (next_control w.numbers) payload refl
    by (Up node) = own (site_at w node)
      where
        own : (o : Option Site) → list_any is_wild (switch_acts (record (note (put_away w) (Forged place)) { numbers = with_control w.numbers }) o (λ a. switch.forged a control_port channel (next_control w.numbers) payload)).notes.records ≡ true
        own None = refl
        own (Some site) = wild_sent place (switches.free_slots site.switch) (switch.with_cells site.switch control_port) (record { queues = site.switch; notes = (note (put_away w) (Forged place)).notes }) channel (next_control w.numbers) payload refl
    by (Out node port) = own (site_at w node)
      where
        own : (o : Option Site) → list_any is_wild (switch_acts (record (note (put_away w) (Forged place)) { numbers = with_control w.numbers }) o (λ a. switch.forged a port channel (next_control w.numbers) payload)).notes.records ≡ true
        own None = refl
        own (Some site) = wild_sent place (switches.free_slots site.switch) (switch.with_cells site.switch port) (record { queues = site.switch; notes = (note (put_away w) (Forged place)).notes }) channel (next_control w.numbers) payload refl

true_event : (t : Topology) (w : World) (event : Event) → IsTame (next t w event).notes.records → IsTrue event
true_event t w (Inject node octets) tame = tt
true_event t w (Carry place) tame = tt
true_event t w (Lose place) tame = tt
true_event t w (Tick node) tame = tt
true_event t w (TickSwitch node) tame = tt
true_event t w (Restart node) tame = tt
true_event t w (RestartSwitch node) tame = tt
true_event t w (Forge place channel payload) tame = absurd (true≢false (sym (wild_forged t w place channel payload) ∙ tame))
true_event t w (Route node change) tame = tt

-- *The records of a run* that is tame are tame
any_none : {X : Type 0} (test : X → Bool) (xs ys : List X) → list_any test (xs ++ ys) ≡ false → (list_any test xs ≡ false) × (list_any test ys ≡ false)
any_none test [] ys e = (refl, e)
any_none test (x ∷ xs) ys e = by (test x) e (any_none test xs ys)
  where
    by : (b : Bool) → (b || list_any test (xs ++ ys)) ≡ false → (list_any test (xs ++ ys) ≡ false → (list_any test xs ≡ false) × (list_any test ys ≡ false)) → ((b || list_any test xs) ≡ false) × (list_any test ys ≡ false)
    by true e rest = absurd (cc e)
    by false e rest = rest e

pub records_then : (w : World) (worlds : List World) → IsTame (records_of (w ∷ worlds)) → IsTame w.notes.records × IsTame (records_of worlds)
records_then w worlds tame =
    any_none is_wild w.notes.records (records_of worlds) (sym (ap (list_any is_wild) (flat_map-cons (λ (x : World). x.notes.records) w worlds)) ∙ tame)

pub first_tame : (t : Topology) (w : World) (events : List Event) → IsTame (records_of (worlds_from t w events)) → IsTame w.notes.records
first_tame t w [] tame = (records_then w [] tame).0
first_tame t w (event ∷ events) tame = (records_then w (worlds_from t (next t w event) events) tame).0

-- *A run in order*, from what is so of each front of it
pub after_one : (t : Topology) (w : World) (before : List Event) (event : Event) → world_after t w (before ++ event ∷ []) ≡ next t (world_after t w before) event
after_one t w [] event = refl
after_one t w (first ∷ before) event = after_one t (next t w first) before event

module _ (policy : Policy) (t : Topology) (events : List Event) (run_is : IsRun policy t events)
    (fed : (before after : List Event) → events ≡ before ++ after → IsFedOnce (world_after t (opened policy t) before)) where
  orderly : (before after : List Event) → events ≡ before ++ after → IsOrderly (world_after t (opened policy t) before)
  orderly before after whole = in_order (world_after t (opened policy t) before) (fed before after whole) (λ n c found. gathers_in_runs policy t before n c found)

  steady_from : (before after : List Event) → events ≡ before ++ after → (w : World) → world_after t (opened policy t) before ≡ w → IsTame (records_of (worlds_from t w after)) → IsSteady t w after
  steady_from before [] whole w at tame = subst IsOrderly at (orderly before [] whole)
  steady_from before (event ∷ after) whole w at tame =
      let rest = (records_then w (worlds_from t (next t w event) after) tame).1 in (
        subst IsOrderly at (orderly before (event ∷ after) whole),
        (
          subst (λ (x : World). IsEvent t x event) at (run_is.each before after event whole).meant,
          (
            true_event t w event (first_tame t (next t w event) after rest),
            steady_from (before ++ event ∷ []) after (whole ∙ sym (append_assoc before (event ∷ []) after)) (next t w event) (after_one t (opened policy t) before event ∙ ap (λ (x : World). next t x event) at) rest,
          ),
        ),
      )

  -- *The law*: of every run before the first forged frame, where each list is fed once in each of its worlds
  pub breaks_have_causes : IsTame (records_of (run policy t events)) → HasCauses policy t events
  breaks_have_causes tame =
      let steady : IsSteady t (opened policy t) events = steady_from [] events refl (opened policy t) refl tame in
      record {
        causes = λ before after event whole place entry far at broken.
            break_has_cause policy t run_is.topology_is before after event (subst (IsSteady t (opened policy t)) whole steady) place entry far at broken;
      }
