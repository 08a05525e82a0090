-- a list of cells takes one open frame to another: `s` is what is still to come of the frame that is
-- open in front of the cells, `t` what is still to come of the one that is open behind them

use Rattle.std.proofs.Common.{◌≡◌, true, List, [], ◌∷◌, ◌++◌, map, refl, sym, ◌∙◌, ap, subst, append_assoc, ◌⊎◌, inl, inr}
use Rattle.world_model.specs.Words.{Mark, Cell, Entry}
use Rattle.ordered_lists.specs.Ordered.{Every}
use Rattle.ordered_lists.proofs.Every.{every_map}
use Rattle.law_cell_lists.specs.Causes.{has_cause, is_cause_of, bare}
use Rattle.law_cell_lists.proofs.Lists.{any_front}
use Rattle.law_cell_lists.proofs.Frames.{IsWhole, IsOf, marks_behind, whole_ends}

pub cause_kept : (entries more : List Entry) (mark : Mark) → has_cause entries mark ≡ true → has_cause (entries ++ more) mark ≡ true
cause_kept entries more mark e = any_front (is_cause_of mark) entries more e

-- the marks of all these cells have a cause
abbrev pub IsTorn : List Entry → List Cell → Type 0
IsTorn entries cells = Every (λ cell. has_cause entries cell.mark ≡ true) cells

pub torn_kept : (entries more : List Entry) (cells : List Cell) → IsTorn entries cells → IsTorn (entries ++ more) cells
torn_kept entries more cells torn =
    every_map (λ cell. has_cause entries cell.mark ≡ true) (λ cell. has_cause (entries ++ more) cell.mark ≡ true) cells (λ cell e. cause_kept entries more cell.mark e) torn

-- cells of a mark that has a cause
pub torn_by : (entries : List Entry) (mark : Mark) (cells : List Cell) → has_cause entries mark ≡ true → Every (IsOf mark) cells → IsTorn entries cells
torn_by entries mark cells e of = every_map (IsOf mark) (λ cell. has_cause entries cell.mark ≡ true) cells (λ cell same. ap (has_cause entries) same ∙ e) of

-- a cell comes while `s` is to come of the open frame
pub data Step (entries : List Entry) (s : List Cell) (c : Cell) (next : List Cell) : Type 0 where
  goes : (passed : List Cell) → IsWhole (passed ++ bare c ∷ next) → s ≡ bare c ∷ next → Step entries s c next
  begins : IsTorn entries s → IsWhole (bare c ∷ next) → Step entries s c next
  torn : IsTorn entries s → has_cause entries c.mark ≡ true → next ≡ [] → Step entries s c next

abbrev pub Streams : List Entry → List Cell → List Cell → List Cell → Type 0
Streams entries s [] t = s ≡ t
Streams entries s (c ∷ cells) t = (next : List Cell) × Step entries s c next × Streams entries next cells t

-- two ends agree: what is to come is the same, or nothing that matters
abbrev pub Agree : List Entry → List Cell → List Cell → Type 0
Agree entries s t = (s ≡ t) ⊎ (IsTorn entries s × IsTorn entries t)

-- more entries
pub step_kept : (entries more : List Entry) (s : List Cell) (c : Cell) (next : List Cell) → Step entries s c next → Step (entries ++ more) s c next
step_kept entries more s c next (goes passed w is) = goes passed w is
step_kept entries more s c next (begins free w) = begins (torn_kept entries more s free) w
step_kept entries more s c next (torn free e none) = torn (torn_kept entries more s free) (cause_kept entries more c.mark e) none

pub streams_kept : (entries more : List Entry) (s cells t : List Cell) → Streams entries s cells t → Streams (entries ++ more) s cells t
streams_kept entries more s [] t h = h
streams_kept entries more s (c ∷ cells) t h = (h.0, step_kept entries more s c h.0 h.1, streams_kept entries more h.0 cells t h.2)

pub agree_kept : (entries more : List Entry) (s t : List Cell) → Agree entries s t → Agree (entries ++ more) s t
agree_kept entries more s t (inl e) = inl e
agree_kept entries more s t (inr both) = inr (torn_kept entries more s both.0, torn_kept entries more t both.1)

-- lists one behind the other
pub streams_join : (entries : List Entry) (s xs m ys t : List Cell) → Streams entries s xs m → Streams entries m ys t → Streams entries s (xs ++ ys) t
streams_join entries s [] m ys t h k = subst (λ (l : List Cell). Streams entries l ys t) (sym h) k
streams_join entries s (c ∷ xs) m ys t h k = (h.0, h.1, streams_join entries h.0 xs m ys t h.2 k)

-- one more cell
pub streams_push : (entries : List Entry) (s xs m : List Cell) (c : Cell) (t : List Cell) → Streams entries s xs m → Step entries m c t → Streams entries s (xs ++ c ∷ []) t
streams_push entries s xs m c t h k = streams_join entries s xs m (c ∷ []) t h (t, k, refl)

-- a frame that is sent where nothing is open
tail_streams : (entries : List Entry) (passed cells : List Cell) → IsWhole (passed ++ map bare cells) → Streams entries (map bare cells) cells []
tail_streams entries passed [] w = refl
tail_streams entries passed (c ∷ cells) w =
    (map bare cells, goes passed w refl, tail_streams entries (passed ++ bare c ∷ []) cells (subst IsWhole (sym (append_assoc passed (bare c ∷ []) (map bare cells))) w))

pub whole_streams : (entries : List Entry) (s cells : List Cell) → IsTorn entries s → IsWhole (map bare cells) → Streams entries s cells [] ⊎ (cells ≡ [])
whole_streams entries s [] free w = inr refl
whole_streams entries s (c ∷ cells) free w = inl (map bare cells, begins free w, tail_streams entries (bare c ∷ []) cells w)

-- what a cell with a cause leaves: nothing that matters is open
pub step_lost : (entries : List Entry) (s : List Cell) (c : Cell) (next : List Cell) → has_cause entries c.mark ≡ true → Step entries s c next → IsTorn entries s × IsTorn entries next
step_lost entries s c next e (goes passed w is) =
    let rest : IsTorn entries next = torn_by entries c.mark next e (marks_behind passed (bare c) next w) in
    (subst (IsTorn entries) (sym is) (e, rest), rest)
step_lost entries s c next e (begins free w) = (free, torn_by entries c.mark next e (marks_behind [] (bare c) next w))
step_lost entries s c next e (torn free h none) = (free, subst (IsTorn entries) (sym none) tt)

-- what a last cell leaves
pub step_last : (entries : List Entry) (s : List Cell) (c : Cell) (next : List Cell) → c.header.last ≡ true → Step entries s c next → next ≡ []
step_last entries s c next last (goes passed w is) = whole_ends passed (bare c) next w last
step_last entries s c next last (begins free w) = whole_ends [] (bare c) next w last
step_last entries s c next last (torn free h none) = none

-- what any cell leaves has its mark
pub step_marks : (entries : List Entry) (s : List Cell) (c : Cell) (next : List Cell) → Step entries s c next → Every (IsOf c.mark) next
step_marks entries s c next (goes passed w is) = marks_behind passed (bare c) next w
step_marks entries s c next (begins free w) = marks_behind [] (bare c) next w
step_marks entries s c next (torn free h none) = subst (Every (IsOf c.mark)) (sym none) tt

-- the same cell at an end that agrees, on another channel
pub step_over : (entries : List Entry) (b s : List Cell) (c d : Cell) (next : List Cell) → bare d ≡ bare c → Agree entries b s → Step entries s c next
    → (other : List Cell) × Step entries b d other × Agree entries other next
step_over entries b s c d next same (inl e) (goes passed w is) =
    (next, goes passed (subst (λ (x : Cell). IsWhole (passed ++ x ∷ next)) (sym same) w) (e ∙ is ∙ ap (λ (x : Cell). x ∷ next) (sym same)), inl refl)
step_over entries b s c d next same (inl e) (begins free w) =
    (next, begins (subst (IsTorn entries) (sym e) free) (subst (λ (x : Cell). IsWhole (x ∷ next)) (sym same) w), inl refl)
step_over entries b s c d next same (inl e) (torn free h none) =
    (next, torn (subst (IsTorn entries) (sym e) free) (ap (λ (x : Cell). has_cause entries x.mark) same ∙ h) none, inl refl)
step_over entries b s c d next same (inr both) (goes passed w is) =
    let all : IsTorn entries (bare c ∷ next) = subst (IsTorn entries) is both.1 in
    ([], torn both.0 (ap (λ (x : Cell). has_cause entries x.mark) same ∙ all.0) refl, inr (tt, all.1))
step_over entries b s c d next same (inr both) (begins free w) =
    (next, begins both.0 (subst (λ (x : Cell). IsWhole (x ∷ next)) (sym same) w), inl refl)
step_over entries b s c d next same (inr both) (torn free h none) =
    (next, torn both.0 (ap (λ (x : Cell). has_cause entries x.mark) same ∙ h) none, inl refl)
