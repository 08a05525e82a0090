-- What a call on one queue of several does to all of them.

use Rattle.std.proofs.Common.{◌≡◌, ℕ, ◌+◌, ◌<◌, List, [], ◌∷◌, ◌++◌, length, map, get_or, set, take, drop, sym, ap, subst, ◌∙◌, arith, append_assoc, get_or-set_same, length-append, Bool, true, false, IsTrue, inl, inr}
use Rattle.std.specs.Bool.{OnTrue}
use Rattle.std.proofs.Math.ListN.{get_or-append}
use Rattle.std.proofs.Math.Seq.{get_or-append_seam}
use Rattle.std.proofs.lemmas.Bool.{cases_lt}
use Rattle.std.proofs.lemmas.List.{get_or-map, set-set, take_more}
use Rattle.atm_cells.specs.declared.cell.Cell.{Cell}
use Rattle.net_types.specs.declared.node.PortNo.{PortNo}
use Rattle.cell_pool.specs.Region.{Region, Line, cell_at, cells_of, IsLine}
use Rattle.cell_pool.specs.Steps.{IsTaken, IsPut, IsPushed, IsPopped}
use Rattle.cell_pool.specs.Shares.{ShareRegion, LineChanges, LinesChange}
use Rattle.cell_pool.proofs.Lines.{line_sent, cells_of-sent, line_popped, cells_of-popped, line_set, map-cells_of-set}
use Rattle.crossbar_model.specs.Crossbar.{Crossbar, sent, queue_of}

-- the lines and their cells, of which the line at place k took the cells cs for its own
pub record IsQueuesStep (old new : Region) (ls : List Line) (k : ℕ) (r : Line) (cs : List Cell) : Type 0 where
  pub lines : LinesChange old new ls (set ls k r)
  pub cells : map (cells_of new) (set ls k r) ≡ set (map (cells_of old) ls) k cs

-- the cells of the line at place k, among those of all
pub cells_at : (r : Region) (ls : List Line) (k : ℕ) (q : Line) → k < length ls → q ≡ get_or ls k q → cells_of r q ≡ get_or (map (cells_of r) ls) k []
cells_at r ls k q within read = ap (cells_of r) read ∙ sym (get_or-map (cells_of r) ls k q [] within)

-- a cell is pushed to the line at place k
pub push_step : (old mid new : Region) (ls : List Line) (k s : ℕ) (q r : Line) (c : Cell) → k < length ls → q ≡ get_or ls k q → ShareRegion old ls → IsTaken old mid s c → IsPushed mid new q r s
    → IsQueuesStep old new ls k r (get_or (map (cells_of old) ls) k [] ++ c ∷ [])
push_step old mid new ls k s q r c within read share taken pushed =
    let line : IsLine old q = subst (λ (l : Line). IsLine old l) (sym read) (share.each k q within) in
    let changed : LineChanges old new (get_or ls k q) r = subst (λ (l : Line). LineChanges old new l r) read (line_sent old mid new q r s c line taken pushed) in
    let was : cells_of old q ≡ get_or (map (cells_of old) ls) k [] = ap (cells_of old) read ∙ sym (get_or-map (cells_of old) ls k q [] within) in
    record {
      lines = line_set old new ls k q r within share changed;
      cells = map-cells_of-set old new ls k q r within share changed
          ∙ ap (λ (cs : List Cell). set (map (cells_of old) ls) k cs) (cells_of-sent old mid new q r s c line taken pushed ∙ ap (λ (cs : List Cell). cs ++ c ∷ []) was);
    }

-- the first cell of the line at place k is taken
pub pop_step : (old new : Region) (ls : List Line) (k s : ℕ) (q r : Line) → k < length ls → q ≡ get_or ls k q → ShareRegion old ls → IsPopped old q r s → IsLine old r → IsPut old new s
    → IsQueuesStep old new ls k r (drop 1 (get_or (map (cells_of old) ls) k []))
pop_step old new ls k s q r within read share popped rest put =
    let changed : LineChanges old new (get_or ls k q) r = subst (λ (l : Line). LineChanges old new l r) read (line_popped old new q r s popped rest put) in
    let was : cells_of old q ≡ get_or (map (cells_of old) ls) k [] = ap (cells_of old) read ∙ sym (get_or-map (cells_of old) ls k q [] within) in
    let first : get_or (map (cells_of old) ls) k [] ≡ cell_at old s ∷ cells_of new r = sym was ∙ cells_of-popped old new q r s popped rest put in
    record {
      lines = line_set old new ls k q r within share changed;
      cells = map-cells_of-set old new ls k q r within share changed
          ∙ ap (λ (cs : List Cell). set (map (cells_of old) ls) k (drop 1 cs)) (sym first);
    }

-- what the first cell of that line is
pub first-popped : (old new : Region) (ls : List Line) (k s : ℕ) (q r : Line) → k < length ls → q ≡ get_or ls k q → IsPopped old q r s → IsLine old r → IsPut old new s → get_or (map (cells_of old) ls) k [] ≡ cell_at old s ∷ cells_of new r
first-popped old new ls k s q r within read popped rest put =
    get_or-map (cells_of old) ls k q [] within ∙ ap (cells_of old) (sym read) ∙ cells_of-popped old new q r s popped rest put

-- cells that are sent one after another are sent together
pub sent-sent : (x : Crossbar) (p : PortNo) (cs ds : List Cell) → p.0 < length x.queues → sent (sent x p cs) p ds ≡ sent x p (cs ++ ds)
sent-sent x p cs ds within =
    let same : get_or (set x.queues p.0 (queue_of x p ++ cs)) p.0 [] ≡ queue_of x p ++ cs = get_or-set_same x.queues p.0 (queue_of x p ++ cs) [] within in
    ap (λ (qs : List (List Cell)). record { branches = x.branches; queues = qs })
    (set-set x.queues p.0 (queue_of x p ++ cs) (get_or (set x.queues p.0 (queue_of x p ++ cs)) p.0 [] ++ ds)
    ∙ ap (λ (q : List Cell). set x.queues p.0 (q ++ ds)) same ∙ ap (λ (q : List Cell). set x.queues p.0 q) (append_assoc (queue_of x p) cs ds))

-- what holds of each line holds after one more
pub each_push : (P : Line → Type 0) (ls : List Line) (q : Line) → ((k : ℕ) (d : Line) → k < length ls → P (get_or ls k d)) → P q → (k : ℕ) (d : Line) → k < length (ls ++ q ∷ []) → P (get_or (ls ++ q ∷ []) k d)
each_push P ls q each here k d h =
    elim (cases_lt k (length ls)) [
      | inl lt ↦ subst P (sym (get_or-append ls (q ∷ []) d k lt)) (each k d lt)
      | inr ge ↦
          let last : k ≡ length ls = omega (arith, h, length-append ls (q ∷ [])) in
          rw last (subst P (sym (get_or-append_seam ls q [] d)) here)
    ]

-- a fact that comes with true
pub on_true : (b : Bool) (P : Type 0) → OnTrue b P → IsTrue b → P
on_true true P h t = h
on_true false P h t = absurd (cc t)

-- one more of the cells is sent
pub sent_more : (x y z : Crossbar) (p : PortNo) (cells : List Cell) (i : ℕ) (d : Cell) → p.0 < length x.queues → i < length cells → y ≡ sent x p (take i cells) → z ≡ sent y p (get_or cells i d ∷ []) → z ≡ sent x p (take (i + 1) cells)
sent_more x y z p cells i d within more before one =
    one ∙ ap (λ (w : Crossbar). sent w p (get_or cells i d ∷ [])) before ∙ sent-sent x p (take i cells) (get_or cells i d ∷ []) within ∙ ap (sent x p) (sym (take_more cells i d more))
