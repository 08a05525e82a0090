-- a last cell that waits in a queue is carried, unless its mark is entered into the ledger

use Rattle.std.proofs.Common.{◌≡◌, ℕ, true, false, List, [], ◌∷◌, ◌++◌, append_assoc, refl, sym, ◌∙◌, ap, subst}
use Rattle.world_model.specs.Words.{Place, Channel, Mark, Cell, Policy, has_entry, Topology, World, queue_at, next, world_after, IsPlace, CanCome}
use Rattle.world_model.specs.World.{opened}
use Rattle.world_model.specs.network_model.declared.event.Event.{Event}
use Rattle.world_model.specs.network_model.declared.event.Event.TheVariants.{Carry}
use Rattle.law_run_facts.proofs.Steps.{after_one}
use Rattle.law_live_carries.specs.Law.{IsCarried, IsUnlost, put_in}
use Rattle.law_live_carries.proofs.Carried.{unlost_carried}
use Rattle.law_live_carries.proofs.Names.{queues_have_one_name}
use Rattle.law_live_hearing.specs.Law.{world_at, IsOnItsWay, Waits}

pub after_all : (topology : Topology) (w : World) (xs ys : List Event) → world_after topology w (xs ++ ys) ≡ world_after topology (world_after topology w xs) ys
after_all topology w [] ys = refl
after_all topology w (x ∷ xs) ys = after_all topology (next topology w x) xs ys

module _ (policy : Policy) (topology : Topology) (past events : List Event) (mark : Mark) (payload : List ℕ) (way : IsOnItsWay policy topology past events mark payload) where
  -- the world behind a front of the stretch
  abbrev pub now : List Event → World
  now front = world_at policy topology (past ++ front)

  pub later : (front more : List Event) → world_after topology (now front) more ≡ now (front ++ more)
  later front more = sym (after_all topology (opened policy topology) (past ++ front) more) ∙ ap (world_after topology (opened policy topology)) (append_assoc past front more)

  pub one_later : (front : List Event) (event : Event) → now (front ++ event ∷ []) ≡ next topology (now front) event
  one_later front event = ap (world_after topology (opened policy topology)) (sym (append_assoc past front (event ∷ []))) ∙ after_one topology (opened policy topology) (past ++ front) event

  -- *It stands* in a queue behind a front, and it is carried from there
  pub record Stands (place : Place) (channel : Channel) : Type 0 where
    pub front : List Event
    pub rest : List Event
    pub are : events ≡ front ++ rest
    pub waits : Waits (now front) place channel mark

  pub record Goes (place : Place) (channel : Channel) : Type 0 where
    pub front : List Event
    pub rest : List Event
    pub are : events ≡ front ++ Carry place ∷ rest
    pub cell : Cell
    pub cells : List Cell
    pub is : queue_at (now front) place ≡ cell ∷ cells
    pub last : cell.header.last ≡ true
    pub own : cell.mark ≡ mark
    pub on : cell.header.channel ≡ channel

  module _ (place : Place) (channel : Channel) (meant : IsPlace topology place) (empty : queue_at (now events) place ≡ []) (s : Stands place channel) where
    unlost : IsUnlost topology (now s.front) s.rest s.waits.cell.mark
    unlost front rest e = subst (λ (m : Mark). has_entry (world_after topology (now s.front) front).notes.entries m ≡ false) (sym s.waits.own)
        (ap (λ (v : World). has_entry v.notes.entries mark) (later s.front front)
        ∙ way.unlost (s.front ++ front) rest (s.are ∙ ap (λ (es : List Event). s.front ++ es) e ∙ sym (append_assoc s.front front rest)))

    carried : IsCarried topology (now s.front) s.rest place s.waits.before s.waits.cell s.waits.after
    carried = unlost_carried topology (now s.front) s.rest place s.waits.before s.waits.cell s.waits.after s.waits.is
        (ap (λ (v : World). queue_at v place) (later s.front s.rest ∙ ap (λ (es : List Event). now es) (sym s.are)) ∙ empty) unlost

    split : events ≡ (s.front ++ carried.front) ++ Carry carried.own ∷ carried.rest
    split = s.are ∙ ap (λ (es : List Event). s.front ++ es) carried.are ∙ sym (append_assoc s.front carried.front (Carry carried.own ∷ carried.rest))

    can : CanCome topology (now (s.front ++ carried.front)) (Carry carried.own)
    can = way.run.each (past ++ (s.front ++ carried.front)) carried.rest (Carry carried.own)
        (ap (λ (es : List Event). past ++ es) split ∙ sym (append_assoc past (s.front ++ carried.front) (Carry carried.own ∷ carried.rest)))

    named : carried.own ≡ place
    named = queues_have_one_name topology carried.own place way.run.topology_is can.meant meant carried.one_queue

    pub goes : Goes place channel
    goes = record {
      front = s.front ++ carried.front;
      rest = carried.rest;
      are = split ∙ ap (λ (p : Place). (s.front ++ carried.front) ++ Carry p ∷ carried.rest) named;
      cell = s.waits.cell;
      cells = s.waits.after ++ put_in topology (now s.front) carried.front place;
      is = ap (λ (v : World). queue_at v place) (sym (later s.front carried.front)) ∙ carried.waits;
      last = s.waits.last;
      own = s.waits.own;
      on = s.waits.on;
    }

  -- *Behind a carry*, where a cell was put
  pub behind : (place : Place) (channel : Channel) (g : Goes place channel) (to : Place) (onto : Channel) → Waits (next topology (now g.front) (Carry place)) to onto mark → Stands to onto
  behind place channel g to onto waits = record {
    front = g.front ++ Carry place ∷ [];
    rest = g.rest;
    are = g.are ∙ sym (append_assoc g.front (Carry place ∷ []) g.rest);
    waits = subst (λ (v : World). Waits v to onto mark) (sym (one_later g.front (Carry place))) waits;
  }

  -- and behind it the ledger has no entry of the frame
  pub still_unlost : (place : Place) (channel : Channel) (g : Goes place channel) → has_entry (next topology (now g.front) (Carry place)).notes.entries mark ≡ false
  still_unlost place channel g = ap (λ (v : World). has_entry v.notes.entries mark) (sym (one_later g.front (Carry place)))
      ∙ way.unlost (g.front ++ Carry place ∷ []) g.rest (g.are ∙ sym (append_assoc g.front (Carry place ∷ []) g.rest))
