-- what holds in the midst of an event: each cell means what it should, each packet is in one place at most, and each fate
-- is true; and the steps that keep it

use Rattle.std.proofs.Common.{◌≡◌, ℕ, suc, ◌<◌, ◌≤◌, ◌+◌, ◌==◌, Bool, true, false, List, [], ◌∷◌, ◌++◌, map, length, None, refl, sym, ◌∙◌, ap, arith}
use Rattle.std.specs.List.{count_by}
use Rattle.std.proofs.lemmas.Bool.Decides.{nat_tests}
use Rattle.law_arrival_views.specs.world_model.Words.{Place, Mark, Cell, Entry, Frame, Cause, Broken, Cut, Record, Delivered, Dropped, Loss, payload_of, same_mark, has_entry, Journal, noted, losses_of, Reassembly, broken, noted_all, distinct, marks_of, cut, made, IsDelivered, IsDropped, is_fate_of, has_loss_of, same_queue, IsPlace, WasAccepted, IsTrueFate, Past}
use Rattle.law_arrival_views.specs.ordered_lists.Ordered.{Every}
use Rattle.law_arrival_views.proofs.ordered_lists.Every.{every_join, every_map2}
use Rattle.law_packet_worlds.proofs.Lists.{count_by-append, none_front}
use Rattle.law_run_facts.specs.law_world_views.Marks.{heading_at, ends_in}
use Rattle.law_packet_worlds.proofs.Ledger.{none_stays}
use Rattle.law_packet_worlds.proofs.Cut.{one}
use Rattle.law_packet_worlds.proofs.Meant.{IsApart, MeansAt, means_stays}
use Rattle.law_arrival_views.proofs.law_port_facts.Keyed.{on_each}

-- *An actor's turn*: the run with this event, but for the records, which are those before it; the time of the event; the
-- queue that changes, and all others; how many last cells of each packet stand in these; how many packets were sent
pub record Turn : Type 0 where
  pub base : Past
  pub time : ℕ
  pub place : Place
  pub others : Place → List Cell
  pub rest : ℕ → ℕ
  pub sent : ℕ

-- what changes in it
pub record Now : Type 0 where
  pub cells : List Cell
  pub notes : Journal
  pub controls : ℕ

abbrev pub IsAway : Turn → Place → Type 0
IsAway t place = IsPlace t.base.topology place × (same_queue t.place place ≡ false)

pub record IsTurn (t : Turn) : Type 0 where
  pub timed : length t.base.events ≡ suc t.time
  pub below : (k : ℕ) (place : Place) → IsAway t place → ends_in k (t.others place) ≤ t.rest k

-- a record is no fate, or a true one
abbrev pub IsTrueRecord : Past → (time : ℕ) → Record → Type 0
IsTrueRecord base time (Delivered node number packet) = IsTrueFate base time number (IsDelivered node packet)
IsTrueRecord base time (Dropped node number cause) = IsTrueFate base time number (IsDropped node cause)
IsTrueRecord base time item = Unit {0}

-- the places of a packet: last cells and records of its fate
abbrev pub total : Turn → ℕ → Now → ℕ
total t k n = t.rest k + ends_in k n.cells + (count_by (is_fate_of k) t.base.records + count_by (is_fate_of k) n.notes.records)

pub record AreMeant (t : Turn) (n : Now) : Type 0 where
  pub here : Every (MeansAt t.base n.notes.frames t.place) n.cells
  pub away : (place : Place) → IsAway t place → Every (MeansAt t.base n.notes.frames place) (t.others place)
  pub unmade : (k i : ℕ) → t.sent < k → payload_of n.notes.frames (record { packet = k; frame = i }) ≡ None
  pub unused : (i : ℕ) → n.controls < i → payload_of n.notes.frames (record { packet = 0; frame = i }) ≡ None

-- so many packets of each number are in hand
pub record AreCounted (t : Turn) (hand : ℕ → ℕ) (n : Now) : Type 0 where
  pub once : (k : ℕ) → 0 < k → total t k n + hand k ≤ 1
  pub later : (k : ℕ) → t.sent < k → total t k n + hand k ≡ 0
  pub kept : (k : ℕ) → WasAccepted t.base k → has_loss_of k n.notes.entries ≡ false → 1 ≤ total t k n + hand k

pub record IsGood (t : Turn) (hand : ℕ → ℕ) (n : Now) : Type 0 where
  pub meant : AreMeant t n
  pub counted : AreCounted t hand n
  pub truths : Every (IsTrueRecord t.base t.time) n.notes.records

-- no packet is in hand
abbrev pub nothing : ℕ → ℕ
nothing k = 0

pub some_accepted : (base : Past) (k : ℕ) → WasAccepted base k → 0 < k
some_accepted base k was = omega (arith, was.numbered)

module _ (t : Turn) where
  -- *Counting*: what one place loses another has, and entries stay
  pub counted_on : (hand other : ℕ → ℕ) (n m : Now) → ((k : ℕ) → 0 < k → total t k m + other k ≡ total t k n + hand k)
      → ((k : ℕ) → has_loss_of k m.notes.entries ≡ false → has_loss_of k n.notes.entries ≡ false) → AreCounted t hand n → AreCounted t other m
  counted_on hand other n m same fewer c = record {
    once = λ k some. omega (arith, same k some, c.once k some);
    later = λ k above. omega (arith, same k (omega (arith, above)), c.later k above);
    kept = λ k was none. omega (arith, same k (some_accepted t.base k was), c.kept k was (fewer k none));
  }

  -- as many packets are in hand
  pub good_hand : (hand other : ℕ → ℕ) (n : Now) → ((k : ℕ) → 0 < k → hand k ≡ other k) → IsGood t hand n → IsGood t other n
  good_hand hand other n same good = record {
    meant = good.meant;
    counted = counted_on hand other n n (λ k some. omega (arith, same k some)) (λ k none. none) good.counted;
    truths = good.truths;
  }

  -- the queue changes, and as many packets leave it as are in hand then
  pub good_set : (hand other : ℕ → ℕ) (n : Now) (cells : List Cell) → Every (MeansAt t.base n.notes.frames t.place) cells
      → ((k : ℕ) → 0 < k → ends_in k cells + other k ≡ ends_in k n.cells + hand k) → IsGood t hand n → IsGood t other (record n { cells = cells })
  good_set hand other n cells all counts good = record {
    meant = record { here = all; away = good.meant.away; unmade = good.meant.unmade; unused = good.meant.unused };
    counted = counted_on hand other n (record n { cells = cells }) (λ k some. omega (arith, counts k some)) (λ k none. none) good.counted;
    truths = good.truths;
  }

  -- one more record, of a packet that was in hand if it is a packet's
  pub good_noted : (hand other : ℕ → ℕ) (n : Now) (item : Record) → IsTrueRecord t.base t.time item
      → ((k : ℕ) → 0 < k → count_by (is_fate_of k) (item ∷ []) + other k ≡ hand k) → IsGood t hand n → IsGood t other (record n { notes = noted n.notes item })
  good_noted hand other n item is_true counts good = record {
    meant = record { here = good.meant.here; away = good.meant.away; unmade = good.meant.unmade; unused = good.meant.unused };
    counted = counted_on hand other n (record n { notes = noted n.notes item })
        (λ k some. omega (arith, count_by-append (is_fate_of k) n.notes.records (item ∷ []), counts k some))
        (λ k none. none_front (λ (entry : Entry). entry.mark.packet == k) n.notes.entries (losses_of (item ∷ [])) none) good.counted;
    truths = every_join (IsTrueRecord t.base t.time) n.notes.records (item ∷ []) good.truths (is_true, tt);
  }

  -- one more entry of the ledger, and those of broken frames and of a chain that is cut
  pub good_loss : (hand : ℕ → ℕ) (n : Now) (mark : Mark) (cause : Cause) → IsGood t hand n → IsGood t hand (record n { notes = noted n.notes (Loss mark cause) })
  good_loss hand n mark cause good = good_noted hand hand n (Loss mark cause) tt (λ k some. omega arith) good

  pub good_broken : (hand : ℕ → ℕ) (n : Now) (notes : Journal) (marks : List Mark) → IsGood t hand (record n { notes = notes }) → IsGood t hand (record n { notes = broken notes marks })
  good_broken hand n notes [] good = good
  good_broken hand n notes (mark ∷ marks) good =
      on_each (λ (first : Journal). IsGood t hand (record n { notes = broken first marks })) (has_entry notes.entries mark) notes (noted notes (Loss mark Broken))
      (λ e. good_broken hand n notes marks good)
      (λ e. good_broken hand n (noted notes (Loss mark Broken)) marks (good_loss hand (record n { notes = notes }) mark Broken good))

  pub good_marks : (hand : ℕ → ℕ) (n : Now) (notes : Journal) (marks : List Mark) → IsGood t hand (record n { notes = notes })
      → IsGood t hand (record n { notes = noted_all notes (map (λ mark. Loss mark Cut) marks) })
  good_marks hand n notes [] good = good
  good_marks hand n notes (mark ∷ marks) good = good_marks hand n (noted notes (Loss mark Cut)) marks (good_loss hand (record n { notes = notes }) mark Cut good)

  pub good_cut : (hand : ℕ → ℕ) (n : Now) (r : Reassembly) → IsGood t hand n → IsGood t hand (record n { notes = cut n.notes r })
  good_cut hand n r good = good_marks hand n n.notes (distinct (marks_of r.chain)) good

  -- a packet in hand goes nowhere, where the ledger has an entry of it
  pub good_less : (number : ℕ) (hand other : ℕ → ℕ) (n : Now) → ((k : ℕ) → 0 < k → other k ≤ hand k) → ((k : ℕ) → 0 < k → hand k ≤ one number k + other k)
      → has_loss_of number n.notes.entries ≡ true → IsGood t hand n → IsGood t other n
  good_less number hand other n less few has good =
      let same : (k : ℕ) → 0 < k → has_loss_of k n.notes.entries ≡ false → hand k ≡ other k = λ k some none.
      let by : (b : Bool) → (number == k) ≡ b → hand k ≡ other k = λ b eb.
      elim b as (λ v. (number == k) ≡ v → hand k ≡ other k) [
        | true ↦ λ e. (
            let is : number ≡ k = grind (arith, nat_tests) in
            let clash : false ≡ true = sym none ∙ ap (λ j. has_loss_of j n.notes.entries) (sym is) ∙ has in
            absurd (cc clash))
        | false ↦ λ e. (let zero_one : ◌≡◌ {A = ℕ} (one number k) 0 = rw e refl in omega (arith, few k some, less k some, zero_one))
      ] eb in
      by (number == k) refl in
      record {
        meant = good.meant;
        counted = record {
          once = λ k some. omega (arith, good.counted.once k some, less k some);
          later = λ k above. omega (arith, good.counted.later k above, less k (omega (arith, above)));
          kept = λ k was none. omega (arith, good.counted.kept k was none, same k (some_accepted t.base k was) none);
        };
        truths = good.truths;
      }

  pub good_without : (number : ℕ) (hand : ℕ → ℕ) (n : Now) → ((k : ℕ) → 0 < k → hand k ≤ one number k) → has_loss_of number n.notes.entries ≡ true
      → IsGood t hand n → IsGood t nothing n
  good_without number hand n few has good = good_less number hand nothing n (λ k some. omega arith) (λ k some. omega (arith, few k some)) has good

  -- a frame is made under a new mark, of a packet that has no last cell
  pub good_made : (hand : ℕ → ℕ) (n : Now) (mark : Mark) (payload : List ℕ) → payload_of n.notes.frames mark ≡ None
      → Every (IsApart mark.packet) n.cells → ((place : Place) → IsAway t place → Every (IsApart mark.packet) (t.others place))
      → ((k i : ℕ) → t.sent < k → same_mark mark (record { packet = k; frame = i }) ≡ false)
      → ((i : ℕ) → n.controls < i → same_mark mark (record { packet = 0; frame = i }) ≡ false)
      → IsGood t hand n → IsGood t hand (record n { notes = made n.notes mark payload })
  good_made hand n mark payload none here away ahead controls good =
      let frame : Frame = record { mark = mark; payload = payload } in
      let frames : List Frame = n.notes.frames in
      let still : (place : Place) (cells : List Cell) → Every (MeansAt t.base frames place) cells → Every (IsApart mark.packet) cells → Every (MeansAt t.base (frames ++ frame ∷ []) place) cells = λ place cells m a.
      every_map2 (MeansAt t.base frames place) (IsApart mark.packet) (MeansAt t.base (frames ++ frame ∷ []) place) cells
      (λ cell is apart. (means_stays t.base frames frame (heading_at t.base.topology place cell.header.channel) cell.header.last cell.mark none apart is.0, is.1)) m a in
      record {
        meant = record {
          here = still t.place n.cells good.meant.here here;
          away = λ place is. still place (t.others place) (good.meant.away place is) (away place is);
          unmade = λ k i above. none_stays frames frame (record { packet = k; frame = i }) (ahead k i above) (good.meant.unmade k i above);
          unused = λ i above. none_stays frames frame (record { packet = 0; frame = i }) (controls i above) (good.meant.unused i above);
        };
        counted = counted_on hand hand n (record n { notes = made n.notes mark payload }) (λ k some. refl) (λ k none. none) good.counted;
        truths = good.truths;
      }
