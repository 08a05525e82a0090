-- a cell comes to a controller, and may end a frame that passes a port by

use Rattle.std.proofs.Common.{◌≡◌, ℕ, List, [], ◌∷◌, Option, None, Some, refl}
use Rattle.std.specs.Prelude.{nat_lt}
use Rattle.world_model.specs.Words.{PortNo, Cell, Loss, Unbound, payload_in, last_mark, tested_by, taker_of, reassembly_of, with_reassembly, takes_cell}
use Rattle.world_model.specs.frame_model.Frame.{octets_of}
use Rattle.world_model.specs.frame_model.Reassembly.{Taken, taken}
use Rattle.world_model.specs.Controller.{Acted, free_slots, note}
use Rattle.world_model.specs.Cells.{Taker, after_test, ends_frame, cell_comes}
use Rattle.law_live_ports.proofs.Keeping.{alike_itself}
use Rattle.law_live_elsewhere.proofs.Kept.{KeepsController, same_ports}
use Rattle.law_live_elsewhere.proofs.Elsewhere.{IsOf, taker_is_of}
use Rattle.law_live_others.specs.Law.{LeavesAlike, IsUp}
use Rattle.law_live_passed_by.specs.Law.{PassesBy}
use Rattle.law_live_passed_by.proofs.Frames.{keeps, then_alike, IsNoMessage, frame_alike}

module _ (port : PortNo) (a : Acted) (cell : Cell) where
  -- *Nothing acts*, but notes and a chain are others
  quiet : (b : Acted) → KeepsController a.controller b.controller → LeavesAlike port a b
  quiet b kept = then_alike port a b b kept (record {
    left = λ linked found. record { after = linked; there = found; setup = refl; alike = alike_itself linked.port };
    address = refl;
  })

  -- *What the cell leaves* of the channel of who takes it
  abbrev pub taken_by : Taker → Taken
  taken_by taker = taken a.notes (nat_lt 0 (free_slots a.controller)) (reassembly_of a.controller taker) cell

  -- the payload of a chain that the cell ends, and that passes its test, passes the port by
  abbrev pub EndsPassing : Taker → Type 0
  EndsPassing taker = (first : Cell) (rest : List Cell) (payload : List ℕ) → (taken_by taker).ended ≡ first ∷ rest → payload_in (octets_of (first ∷ rest)) ≡ Some payload
      → PassesBy port a taker payload × IsNoMessage port taker payload

  module _ (up : IsUp a) (taker : Taker) (is : IsOf a.controller taker) (ends : EndsPassing taker) where
    abbrev t : Taken
    t = taken_by taker

    abbrev b : Acted
    b = with_reassembly (record a { notes = t.notes }) taker t.reassembly

    b_kept : KeepsController a.controller b.controller
    b_kept = keeps a t.notes t.notes taker t.reassembly is

    tests : (first : Cell) (rest : List Cell) → t.ended ≡ first ∷ rest → (o : Option (List ℕ)) → payload_in (octets_of (first ∷ rest)) ≡ o
        → LeavesAlike port a (after_test b taker (last_mark (first ∷ rest)) (tested_by b.notes (first ∷ rest) o))
    tests first rest e None fails = quiet (record b { notes = (tested_by b.notes (first ∷ rest) None).notes }) b_kept
    tests first rest e (Some payload) passes =
        let acts : PassesBy port a taker payload × IsNoMessage port taker payload = ends first rest payload e passes in
        frame_alike port a t.notes (tested_by b.notes (first ∷ rest) (Some payload)).notes t.reassembly (last_mark (first ∷ rest)) payload up taker is acts.0 acts.1

    ended : (cells : List Cell) → t.ended ≡ cells → LeavesAlike port a (ends_frame b taker cells)
    ended [] e = quiet b b_kept
    ended (first ∷ rest) e = tests first rest e (payload_in (octets_of (first ∷ rest))) refl

  -- *A cell*, whoever takes it, or nobody
  pub cell_alike : IsUp a → ((taker : Taker) → taker_of a.controller cell.header.channel ≡ Some taker → EndsPassing taker) → LeavesAlike port a (cell_comes a cell)
  cell_alike up ends = by (taker_of a.controller cell.header.channel) refl
    where
      by : (o : Option Taker) → taker_of a.controller cell.header.channel ≡ o → LeavesAlike port a (takes_cell a cell o)
      by None takes = quiet (note a (Loss cell.mark Unbound)) (same_ports a.controller a.controller refl refl)
      by (Some taker) takes = ended up taker (taker_is_of a.controller cell.header.channel taker takes) (ends taker takes) (taken_by taker).ended refl
