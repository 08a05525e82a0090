-- each cell that waits in a calm stretch is carried in it, unlost, and no entry is made

use Rattle.std.proofs.Common.{◌≡◌, ℕ, zero, suc, ◌<◌, Bool, true, false, true≢false, ◌&&◌, List, [], ◌∷◌, ◌++◌, append_assoc, length, slice_index_or, refl, sym, ◌∙◌, ap, subst, arith}
use Rattle.std.specs.List.{list_all}
use Rattle.world_model.specs.Words.{Policy, Place, Down, Up, Out, Cell, Entry, has_entry, Topology, World, queue_at, next, world_after, is_empty, IsPlace, IsRun}
use Rattle.world_model.specs.World.{opened}
use Rattle.world_model.specs.network_model.declared.event.Event.{Event}
use Rattle.world_model.specs.network_model.declared.event.Event.TheVariants.{Inject, Carry, Lose, Tick, TickSwitch, Restart, RestartSwitch, Forge, Route}
use Rattle.live_model.specs.Beats.{is_sending}
use Rattle.law_live_carries.specs.Law.{IsCarried, lost_in, put_in}
use Rattle.law_live_ease.proofs.law_live_carries.Carried.{cells_are_carried}
use Rattle.law_live_ease.proofs.law_live_carries.Names.{runs_carry_by_name}
use Rattle.law_live_ease.specs.law_live_hearing.Law.{world_at}
use Rattle.law_live_ease.proofs.law_live_hearing.Places.{down_empty, up_empty, out_empty}
use Rattle.law_live_ease.proofs.law_live_hearing.Going.{after_all}
use Rattle.law_live_ease.proofs.law_live_calm_nodes.Parts.{along}
use Rattle.law_live_ease.specs.Law.{IsCalmEvent}
use Rattle.law_live_ease.specs.Binding.{IsCalmStretch}
use Rattle.law_live_cut_through.specs.Led.{CellsAreUnlost}

-- *An element of a list* stands between others
record Stands {A : Type 0} (xs : List A) (x : A) : Type 0 where
  before : List A
  after : List A
  is : xs ≡ before ++ x ∷ after

at_place : {A : Type 0} (xs : List A) (k : ℕ) (x : A) → k < length xs → slice_index_or xs k x ≡ x → Stands xs x
at_place [] k x low e = absurd (omega (arith, low))
at_place (y ∷ xs) zero x low e = record { before = []; after = xs; is = ap (λ z. z ∷ xs) e }
at_place (y ∷ xs) (suc k) x low e =
    let later : Stands xs x = at_place xs k x (omega (arith, low)) e in
    record { before = y ∷ later.before; after = later.after; is = ap (λ zs. y ∷ zs) later.is }

-- *Nothing is lost* where cells are carried and packets enter
both_second : (a b : Bool) → (a && b) ≡ true → b ≡ true
both_second true b e = e
both_second false b e = absurd (true≢false (sym e))

rest_sends : (front rest : List Event) → list_all is_sending (front ++ rest) ≡ true → list_all is_sending rest ≡ true
rest_sends [] rest e = e
rest_sends (event ∷ front) rest e = rest_sends front rest (both_second (is_sending event) (list_all is_sending (front ++ rest)) e)

none_lost : (topology : Topology) (events : List Event) (w : World) (place : Place) → list_all is_sending events ≡ true → lost_in topology w events place ≡ []
none_lost topology [] w place sends = refl
none_lost topology (Inject node octets ∷ events) w place sends = none_lost topology events (next topology w (Inject node octets)) place sends
none_lost topology (Carry own ∷ events) w place sends = none_lost topology events (next topology w (Carry own)) place sends
none_lost topology (Lose own ∷ events) w place sends = absurd (true≢false (sym sends))
none_lost topology (Tick node ∷ events) w place sends = absurd (true≢false (sym sends))
none_lost topology (TickSwitch node ∷ events) w place sends = absurd (true≢false (sym sends))
none_lost topology (Restart node ∷ events) w place sends = absurd (true≢false (sym sends))
none_lost topology (RestartSwitch node ∷ events) w place sends = absurd (true≢false (sym sends))
none_lost topology (Forge own channel payload ∷ events) w place sends = absurd (true≢false (sym sends))
none_lost topology (Route node change ∷ events) w place sends = absurd (true≢false (sym sends))

module _ (policy : Policy) (topology : Topology) (past events : List Event) (s : IsCalmStretch policy topology past events)
    (empty : is_empty (world_at policy topology (past ++ events)) ≡ true) where
  abbrev w : World
  w = world_at policy topology past

  now_is : (front : List Event) → world_at policy topology (past ++ front) ≡ world_after topology w front
  now_is front = after_all topology (opened policy topology) past front

  -- *The ledger stays*
  ledger : (front rest : List Event) → events ≡ front ++ rest → (world_after topology w front).notes.entries ≡ w.notes.entries
  ledger = along topology (λ (v : World). v.notes.entries ≡ w.notes.entries) events w refl
      (λ (front rest : List Event) (event : Event) (e : events ≡ front ++ event ∷ rest) (so : (world_after topology w front).notes.entries ≡ w.notes.entries).
      (s.calm front rest event e).entries ∙ so)

  -- *No queue has a cell* in the end
  end_empty : (place : Place) → IsPlace topology place → queue_at (world_at policy topology (past ++ events)) place ≡ []
  end_empty (Down node) within = down_empty policy topology s.run.topology_is (past ++ events) node within empty
  end_empty (Up node) within = up_empty policy topology s.run.topology_is (past ++ events) node within empty
  end_empty (Out node port) within = out_empty policy topology s.run.topology_is (past ++ events) node port within.0 within.1 empty

  -- *A cell that waits* behind a front
  module _ (front rest : List Event) (e : events ≡ front ++ rest) (place : Place) (cell : Cell) (meant : IsPlace topology place)
      (there : Stands (queue_at (world_at policy topology (past ++ front)) place) cell) where
    abbrev here : World
    here = world_at policy topology (past ++ front)

    split : past ++ events ≡ (past ++ front) ++ rest
    split = ap (λ (es : List Event). past ++ es) e ∙ sym (append_assoc past front rest)

    then_empty : queue_at (world_after topology here rest) place ≡ []
    then_empty = ap (λ (v : World). queue_at v place)
        (sym (after_all topology (opened policy topology) (past ++ front) rest) ∙ ap (world_at policy topology) (sym split)) ∙ end_empty place meant

    sends : list_all is_sending rest ≡ true
    sends = rest_sends front rest (ap (list_all is_sending) (sym e) ∙ s.sends)

    c : IsCarried topology here rest place there.before cell there.after
    c = cells_are_carried topology here rest place there.before cell there.after there.is then_empty (none_lost topology rest here place sends)

    named : c.own ≡ place
    named = runs_carry_by_name policy topology (past ++ front) rest place there.before cell there.after (subst (IsRun policy topology) split s.run) meant c

    -- as it is carried
    abbrev moment : World
    moment = world_after topology w (front ++ c.front)

    moment_is : moment ≡ world_after topology here c.front
    moment_is = after_all topology w front c.front ∙ ap (λ (v : World). world_after topology v c.front) (sym (now_is front))

    carried_at : events ≡ (front ++ c.front) ++ Carry c.own ∷ c.rest
    carried_at = e ∙ ap (λ (es : List Event). front ++ es) c.are ∙ sym (append_assoc front c.front (Carry c.own ∷ c.rest))

    calm : IsCalmEvent topology moment (Carry c.own)
    calm = s.calm (front ++ c.front) c.rest (Carry c.own) carried_at

    waits : queue_at moment c.own ≡ cell ∷ (there.after ++ put_in topology here c.front place)
    waits = ap (λ (v : World). queue_at v c.own) moment_is ∙ (ap (queue_at (world_after topology here c.front)) named ∙ c.waits)

    unlost : has_entry w.notes.entries cell.mark ≡ false
    unlost = ap (λ (entries : List Entry). has_entry entries cell.mark) (sym (calm.entries ∙ ledger (front ++ c.front) (Carry c.own ∷ c.rest) carried_at))
        ∙ calm.unlost cell (there.after ++ put_in topology here c.front place) waits

pub cells_are_unlost : CellsAreUnlost
cells_are_unlost policy topology past events s empty front rest first later e f place cell meant holds =
    ap (λ (v : World). has_entry v.notes.entries cell.mark) (now_is policy topology past events s empty first)
    ∙ (ap (λ (entries : List Entry). has_entry entries cell.mark) (ledger policy topology past events s empty first later f)
    ∙ unlost policy topology past events s empty front rest e place cell meant
    (at_place (queue_at (world_at policy topology (past ++ front)) place) holds.0 cell holds.1 holds.2))
