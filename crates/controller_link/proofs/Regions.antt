-- A queue and reassemblies in one region: what a change of one line leaves of all.

use Rattle.std.proofs.Common.{◌≡◌, ◌≢◌, ℕ, suc, zero, ◌+◌, ◌<◌, false, List, [], ◌∷◌, ◌++◌, length, map, get_or, refl, sym, ap, subst, ◌∙◌, arith, replicate, Result, Ok, Err}
use Rattle.std.specs.Prelude.{OnOk}
use Rattle.std.proofs.Math.ListN.{set}
use Rattle.std.specs.List.{sum_by}
use Rattle.std.proofs.lemmas.List.{get_or-map, length-map, map-append, map-set}
use Rattle.std.proofs.lemmas.List.Sums.{sum_by-cons}
use Rattle.atm_cells.specs.declared.cell.Cell.{Cell}
use Rattle.cell_pool.specs.Places.{Apart}
use Rattle.cell_pool.specs.Region.{Region, Line, cells_of, len_of, places, size, IsLine}
use Rattle.cell_pool.specs.Shares.{IsKeptBeside, LineChanges, LinesChange, ShareRegion, len_of_all}
use Rattle.cell_pool.proofs.Lines.{length-cells_of, line_set, share_empty}
use Rattle.frame_model.specs.Reassembly.{Reassembly, nothing_taken}
use Rattle.reassembly.specs.Receipt.{Gathering, reassembly_in}
use Rattle.controller_link.specs.Store.{AreOneRegion, free_in, lines, reassembly_at, stored, with_chain}

-- *The free slots are those that hold no cell*

chains_slots : (region : Region) (chains : List Gathering) → sum_by (λ (r : Reassembly). length r.chain) (map (reassembly_in region) chains) ≡ len_of_all (map (λ (g : Gathering). g.chain) chains)
chains_slots region [] = refl
chains_slots region (g ∷ chains) =
    sum_by-cons (λ (r : Reassembly). length r.chain) (reassembly_in region g) (map (reassembly_in region) chains)
    ∙ omega (arith, length-cells_of region g.chain, chains_slots region chains)
    ∙ sym (sum_by-cons len_of g.chain (map (λ (x : Gathering). x.chain) chains))

pub free_is : (region : Region) (queue : Line) (chains : List Gathering) → AreOneRegion region queue chains → length region.free ≡ free_in (stored region queue chains)
free_is region queue chains is =
    let counted = is.counted in
    let first = length-cells_of region queue in
    let rest = chains_slots region chains in
    let whole = sum_by-cons len_of queue (map (λ (g : Gathering). g.chain) chains) in
    omega (arith, counted, first, rest, whole)

-- *One line changes*

changed_region : (old new : Region) (before after : List Line) → LinesChange old new before after → length old.free + len_of_all before ≡ size old → length new.free + len_of_all after ≡ size new
changed_region old new before after changed counted =
    let counts = changed.counted in
    let sizes = changed.same_size in
    omega (arith, counts, sizes, counted)

chain_line : (chains : List Gathering) (k : ℕ) (d : Gathering) (e : Line) → k < length chains → get_or (map (λ (g : Gathering). g.chain) chains) k e ≡ (get_or chains k d).chain
chain_line chains k d e within = get_or-map (λ (g : Gathering). g.chain) chains k d e within

-- the cells of each other chain are as they were
others_same : (old new : Region) (chains : List Gathering) (k : ℕ) (r : Reassembly) → ((j : ℕ) (d : Gathering) → j < length chains → j ≢ k → reassembly_in new (get_or chains j d) ≡ reassembly_in old (get_or chains j d))
    → set (map (reassembly_in new) chains) k r ≡ set (map (reassembly_in old) chains) k r
others_same old new [] k r same = refl
others_same old new (g ∷ chains) zero r same = ap (λ (rs : List Reassembly). r ∷ rs) (all_same old new chains (λ j d w. same (suc j) d (omega (arith, w)) (λ e. omega (arith, e))))
  where
    all_same : (old new : Region) (gs : List Gathering) → ((j : ℕ) (d : Gathering) → j < length gs → reassembly_in new (get_or gs j d) ≡ reassembly_in old (get_or gs j d)) → map (reassembly_in new) gs ≡ map (reassembly_in old) gs
    all_same old new [] same = refl
    all_same old new (x ∷ gs) same =
        let head : reassembly_in new x ≡ reassembly_in old x = same 0 x (omega arith) in
        λ i. head i ∷ all_same old new gs (λ j d w. same (suc j) d (omega (arith, w))) i
others_same old new (g ∷ chains) (suc k) r same =
    let head : reassembly_in new g ≡ reassembly_in old g = same 0 g (omega arith) (λ e. omega (arith, e)) in
    λ i. head i ∷ others_same old new chains k r (λ j d w differs. same (suc j) d (omega (arith, w)) (λ e. differs (omega (arith, e)))) i

module _ (old new : Region) (queue : Line) (chains : List Gathering) (is : AreOneRegion old queue chains) where
  -- a chain changes: the queue and every other chain are as they were
  module _ (k : ℕ) (g h : Gathering) (within : k < length chains) (read : g ≡ get_or chains k g) (changed : LineChanges old new g.chain h.chain) where
    abbrev ls : List Line
    ls = lines queue chains

    inside : suc k < length ls
    inside = omega (arith, within, length-map chains (λ (x : Gathering). x.chain))

    here : get_or ls (suc k) g.chain ≡ g.chain
    here = chain_line chains k g g.chain within ∙ ap (λ (x : Gathering). x.chain) (sym read)

    all_change : LinesChange old new ls (set ls (suc k) h.chain)
    all_change = line_set old new ls (suc k) g.chain h.chain inside is.share (subst (λ (l : Line). LineChanges old new l h.chain) (sym here) changed)

    lines_set : set ls (suc k) h.chain ≡ lines queue (set chains k h)
    lines_set = ap (λ (xs : List Line). queue ∷ xs) (sym (map-set (λ (x : Gathering). x.chain) chains k h))

    beside : (j : ℕ) (e : Line) → j < length ls → j ≢ suc k → IsKeptBeside old new h.chain (get_or ls j e)
    beside j e w differs =
        changed.others (get_or ls j e) (is.share.each j e w)
        (subst (λ (l : Line). Apart (places old l) (places old (get_or ls j e))) here (is.share.apart (suc k) j g.chain e inside w (λ x. differs (sym x))))

    queue_same : cells_of new queue ≡ cells_of old queue
    queue_same = (beside 0 queue (omega arith) (λ e. omega (arith, e))).kept.same_cells

    chain_same : (j : ℕ) (d : Gathering) → j < length chains → j ≢ k → reassembly_in new (get_or chains j d) ≡ reassembly_in old (get_or chains j d)
    chain_same j d w differs =
        let line : get_or ls (suc j) d.chain ≡ (get_or chains j d).chain = chain_line chains j d d.chain w in
        let cells : cells_of new (get_or ls (suc j) d.chain) ≡ cells_of old (get_or ls (suc j) d.chain) =
        (beside (suc j) d.chain (omega (arith, w, length-map chains (λ (x : Gathering). x.chain))) (λ e. differs (omega (arith, e)))).kept.same_cells in
        let same : cells_of new (get_or chains j d).chain ≡ cells_of old (get_or chains j d).chain = subst (λ (l : Line). cells_of new l ≡ cells_of old l) line cells in
        λ i. record { chain = same i; is_skipping = (get_or chains j d).is_skipping }

    pub region_after : AreOneRegion new queue (set chains k h)
    region_after = record {
      share = subst (λ (xs : List Line). ShareRegion new xs) lines_set all_change.share;
      counted = subst (λ (xs : List Line). length new.free + len_of_all xs ≡ size new) lines_set (changed_region old new ls (set ls (suc k) h.chain) all_change is.counted);
    }

    pub stored_after : stored new queue (set chains k h) ≡ with_chain (stored old queue chains) k (reassembly_in new h)
    stored_after = λ i. record {
      cells = changed.same_size i;
      queue = queue_same i;
      chains = (map-set (reassembly_in new) chains k h ∙ others_same old new chains k (reassembly_in new h) chain_same) i;
    }

  -- the queue changes: every chain is as it was
  module _ (after : Line) (changed : LineChanges old new queue after) where
    abbrev qs : List Line
    qs = lines queue chains

    queue_changes : LinesChange old new qs (set qs 0 after)
    queue_changes = line_set old new qs 0 queue after (omega arith) is.share changed

    chain_kept : (j : ℕ) (d : Gathering) → j < length chains → reassembly_in new (get_or chains j d) ≡ reassembly_in old (get_or chains j d)
    chain_kept j d w =
        let line : get_or qs (suc j) d.chain ≡ (get_or chains j d).chain = chain_line chains j d d.chain w in
        let inside : suc j < length qs = omega (arith, w, length-map chains (λ (x : Gathering). x.chain)) in
        let kept = changed.others (get_or qs (suc j) d.chain) (is.share.each (suc j) d.chain inside) (is.share.apart 0 (suc j) queue d.chain (omega arith) inside (λ e. omega (arith, e))) in
        let same : cells_of new (get_or chains j d).chain ≡ cells_of old (get_or chains j d).chain = subst (λ (l : Line). cells_of new l ≡ cells_of old l) line kept.kept.same_cells in
        λ i. record { chain = same i; is_skipping = (get_or chains j d).is_skipping }

    chains_kept : (gs : List Gathering) → ((j : ℕ) (d : Gathering) → j < length gs → reassembly_in new (get_or gs j d) ≡ reassembly_in old (get_or gs j d)) → map (reassembly_in new) gs ≡ map (reassembly_in old) gs
    chains_kept [] same = refl
    chains_kept (g ∷ gs) same =
        let head : reassembly_in new g ≡ reassembly_in old g = same 0 g (omega arith) in
        λ i. head i ∷ chains_kept gs (λ j d w. same (suc j) d (omega (arith, w))) i

    pub region_queued : AreOneRegion new after chains
    region_queued = record { share = queue_changes.share; counted = changed_region old new qs (set qs 0 after) queue_changes is.counted }

    pub stored_queued : (cells : List Cell) → cells_of new after ≡ cells → stored new after chains ≡ record (stored old queue chains) { queue = cells }
    stored_queued cells same = λ i. record { cells = changed.same_size i; queue = same i; chains = chains_kept chains chain_kept i }

-- *A new one*

all_nothing : (region : Region) (chains : List Gathering) → ((k : ℕ) (d : Gathering) → k < length chains → reassembly_in region (get_or chains k d) ≡ nothing_taken) → map (reassembly_in region) chains ≡ replicate (length chains) nothing_taken
all_nothing region [] nothing = refl
all_nothing region (g ∷ chains) nothing =
    let head : reassembly_in region g ≡ nothing_taken = nothing 0 g (omega arith) in
    λ i. head i ∷ all_nothing region chains (λ k d w. nothing (suc k) d (omega (arith, w))) i

pub chain_threaded : (region : Region) (queue : Line) (chains : List Gathering) (k : ℕ) (g : Gathering) → AreOneRegion region queue chains → k < length chains → g ≡ get_or chains k g → IsLine region g.chain
chain_threaded region queue chains k g is within read =
    let inside : suc k < length (lines queue chains) = omega (arith, within, length-map chains (λ (x : Gathering). x.chain)) in
    let at : get_or (lines queue chains) (suc k) g.chain ≡ g.chain = chain_line chains k g g.chain within ∙ ap (λ (x : Gathering). x.chain) (sym read) in
    subst (λ (l : Line). IsLine region l) at (is.share.each (suc k) g.chain inside)

pub chain_at : (region : Region) (queue : Line) (chains : List Gathering) (k : ℕ) (g : Gathering) → k < length chains → g ≡ get_or chains k g → reassembly_at (stored region queue chains) k ≡ reassembly_in region g
chain_at region queue chains k g within read = get_or-map (reassembly_in region) chains k g nothing_taken within ∙ ap (reassembly_in region) (sym read)

no_places : (ls : List Line) → ((k : ℕ) (d : Line) → k < length ls → len_of (get_or ls k d) ≡ 0) → len_of_all ls ≡ 0
no_places [] none = refl
no_places (l ∷ ls) none =
    let whole = sum_by-cons len_of l ls in
    omega (arith, whole, none 0 l (omega arith), no_places ls (λ k d w. none (suc k) d (omega (arith, w))))

no_cells : (region : Region) (l : Line) → len_of l ≡ 0 → cells_of region l ≡ []
no_cells region l none = nothing (cells_of region l) (length-cells_of region l ∙ none) where
  nothing : (cells : List Cell) → length cells ≡ 0 → cells ≡ []
  nothing [] e = refl
  nothing (cell ∷ cells) e = absurd (omega (arith, e))

module _ (region : Region) (queue : Line) (chains : List Gathering) (threaded : IsLine region queue) (none : len_of queue ≡ 0) (chains_threaded : (k : ℕ) (d : Gathering) → k < length chains → IsLine region (get_or chains k d).chain) (chains_none : (k : ℕ) (d : Gathering) → k < length chains → len_of (get_or chains k d).chain ≡ 0) where
  each_line : (k : ℕ) (d : Line) → k < length (lines queue chains) → IsLine region (get_or (lines queue chains) k d)
  each_line zero d w = threaded
  each_line (suc k) d w =
      let inside : k < length chains = omega (arith, w, length-map chains (λ (x : Gathering). x.chain)) in
      let g : Gathering = record { chain = d; is_skipping = false } in
      subst (λ (l : Line). IsLine region l) (sym (chain_line chains k g d inside)) (chains_threaded k g inside)

  each_none : (k : ℕ) (d : Line) → k < length (lines queue chains) → len_of (get_or (lines queue chains) k d) ≡ 0
  each_none zero d w = none
  each_none (suc k) d w =
      let inside : k < length chains = omega (arith, w, length-map chains (λ (x : Gathering). x.chain)) in
      let g : Gathering = record { chain = d; is_skipping = false } in
      ap len_of (chain_line chains k g d inside) ∙ chains_none k g inside

  pub opened_region : length region.free ≡ size region → AreOneRegion region queue chains
  opened_region all = record {
    share = share_empty region (lines queue chains) each_line each_none;
    counted = omega (arith, all, no_places (lines queue chains) each_none);
  }

  pub opened_stored : (cells count : ℕ) → size region ≡ cells → length chains ≡ count → ((k : ℕ) (d : Gathering) → k < length chains → reassembly_in region (get_or chains k d) ≡ nothing_taken) → stored region queue chains ≡ record { cells = cells; queue = []; chains = replicate count nothing_taken }
  opened_stored cells count same size nothing = λ i. record {
    cells = same i;
    queue = no_cells region queue none i;
    chains = (all_nothing region chains nothing ∙ ap (λ n. replicate n nothing_taken) size) i;
  }

-- *The last chain is given up*

pub last_line : (queue : Line) (chains : List Gathering) (g : Gathering) → lines queue (chains ++ g ∷ []) ≡ lines queue chains ++ g.chain ∷ []
last_line queue chains g = ap (λ (ls : List Line). queue ∷ ls) (map-append (λ (x : Gathering). x.chain) chains (g ∷ []))

-- what holds of each chain holds after one more
pub each_push : (P : Gathering → Type 0) (chains : List Gathering) (g : Gathering) → ((k : ℕ) (d : Gathering) → k < length chains → P (get_or chains k d)) → P g
    → (k : ℕ) (d : Gathering) → k < length (chains ++ g ∷ []) → P (get_or (chains ++ g ∷ []) k d)
each_push P [] g each here zero d low = here
each_push P [] g each here (suc k) d low = absurd (omega (arith, low))
each_push P (x ∷ chains) g each here zero d low = each 0 d (omega arith)
each_push P (x ∷ chains) g each here (suc k) d low = each_push P chains g (λ j e h. each (suc j) e (omega (arith, h))) here k d (omega (arith, low))

pub on_ok : {T E : Type 0} (r : Result T E) (P Q : Type 0) → (P → Q) → OnOk r P → OnOk r Q
on_ok (Ok value) P Q then is = then is
on_ok (Err error) P Q then is = tt
