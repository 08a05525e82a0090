-- where the cells end: the stretch of a channel, and what is to come of the frame that is open

use Rattle.std.proofs.Common.{◌≡◌, suc, ◌≤◌, Bool, true, false, List, [], ◌∷◌, ◌++◌, map, length, None, refl, sym, ◌∙◌, ap, subst, arith, append_assoc, append-nil, length-append, ◌⊎◌, inl, inr}
use Rattle.world_model.specs.Words.{Mark, Cell, Entry, same_mark, has_entry, payload_in}
use Rattle.world_model.specs.frame_model.Frame.{octets_of}
use Rattle.ordered_lists.specs.Ordered.{Every}
use Rattle.ordered_lists.proofs.Every.{every_map, every_left, every_right}
use Rattle.law_cell_lists.specs.Causes.{has_cause, is_caused, bare}
use Rattle.law_cell_lists.proofs.Lists.{any_front, any_back}
use Rattle.law_cell_lists.proofs.Frames.{IsWhole, IsOf, marks_behind, whole_marks, open_goes_on, whole_is_short, whole_passes}
use Rattle.law_cell_lists.proofs.Streams.{cause_kept, IsTorn, torn_kept, Step, goes, begins, torn, step_last}

pub entry_kept : (entries more : List Entry) (mark : Mark) → has_entry entries mark ≡ true → has_entry (entries ++ more) mark ≡ true
entry_kept entries more mark e = any_front (λ (entry : Entry). same_mark entry.mark mark) entries more e

pub caused_front : (entries : List Entry) (xs ys : List Cell) → is_caused entries xs ≡ true → is_caused entries (xs ++ ys) ≡ true
caused_front entries xs ys e = any_front (λ (c : Cell). has_cause entries c.mark) xs ys e

pub caused_last : (entries : List Entry) (xs : List Cell) (c : Cell) → has_cause entries c.mark ≡ true → is_caused entries (xs ++ c ∷ []) ≡ true
caused_last entries xs c e = any_back (λ (x : Cell). has_cause entries x.mark) xs (c ∷ []) (rw e refl)

pub caused_kept : (entries more : List Entry) (cells : List Cell) → is_caused entries cells ≡ true → is_caused (entries ++ more) cells ≡ true
caused_kept entries more [] e = absurd (cc e)
caused_kept entries more (cell ∷ cells) e =
    let by : (b : Bool) → has_cause entries cell.mark ≡ b → is_caused (entries ++ more) (cell ∷ cells) ≡ true = λ b eb.
    elim b as (λ v. has_cause entries cell.mark ≡ v → is_caused (entries ++ more) (cell ∷ cells) ≡ true) [
      | true ↦ λ h. (let here : has_cause (entries ++ more) cell.mark ≡ true = cause_kept entries more cell.mark h in rw here refl)
      | false ↦ λ h. (
          let rest : is_caused entries cells ≡ true = rw h at e in
          any_back (λ (c : Cell). has_cause (entries ++ more) c.mark) (cell ∷ []) cells (caused_kept entries more cells rest))
    ] eb in
    by (has_cause entries cell.mark) refl

-- cells that aren't the whole of what is sent of a frame count where its mark has an entry already
abbrev pub Why : List Entry → List Cell → Mark → Type 0
Why entries passed mark = (passed ≡ []) ⊎ (has_entry entries mark ≡ true)

-- the stretch `begun`, while `s` is to come: nothing; a cell with a cause; or the cells of one frame
pub data Stretch (entries : List Entry) (begun s : List Cell) : Type 0 where
  free : begun ≡ [] → IsTorn entries s → Stretch entries begun s
  caused : is_caused entries begun ≡ true → Stretch entries begun s
  within : (passed : List Cell) (x : Cell) (rest : List Cell) → s ≡ x ∷ rest → IsWhole (passed ++ (map bare begun ++ x ∷ rest)) → Why entries passed x.mark → Stretch entries begun s

pub why_more : (entries more : List Entry) (passed : List Cell) (mark : Mark) → Why entries passed mark → Why (entries ++ more) passed mark
why_more entries more passed mark (inl e) = inl e
why_more entries more passed mark (inr e) = inr (entry_kept entries more mark e)

pub stretch_kept : (entries more : List Entry) (begun s : List Cell) → Stretch entries begun s → Stretch (entries ++ more) begun s
stretch_kept entries more begun s (free none t) = free none (torn_kept entries more s t)
stretch_kept entries more begun s (caused e) = caused (caused_kept entries more begun e)
stretch_kept entries more begun s (within passed x rest is w why) = within passed x rest is w (why_more entries more passed x.mark why)

-- nothing that matters is to come: the stretch is empty or has a cause
frame_caused : (entries : List Entry) (begun passed : List Cell) (x : Cell) (rest : List Cell) → has_cause entries x.mark ≡ true → IsWhole (passed ++ (map bare begun ++ x ∷ rest)) → (begun ≡ []) ⊎ (is_caused entries begun ≡ true)
frame_caused entries [] passed x rest e w = inl refl
frame_caused entries (b ∷ begun) passed x rest e w =
    let all : Every (IsOf w.mark) (bare b ∷ map bare begun ++ x ∷ rest) = every_right (IsOf w.mark) passed (bare b ∷ map bare begun ++ x ∷ rest) (whole_marks _ w) in
    let last : Every (IsOf w.mark) (x ∷ rest) = every_right (IsOf w.mark) (map bare begun) (x ∷ rest) all.1 in
    let here : has_cause entries b.mark ≡ true = ap (has_cause entries) (all.0 ∙ sym last.0) ∙ e in
    inr (rw here refl)

pub stretch_torn : (entries : List Entry) (begun s : List Cell) → IsTorn entries s → Stretch entries begun s → (begun ≡ []) ⊎ (is_caused entries begun ≡ true)
stretch_torn entries begun s t (free none _) = inl none
stretch_torn entries begun s t (caused e) = inr e
stretch_torn entries begun s t (within passed x rest is w why) =
    let both : IsTorn entries (x ∷ rest) = subst (IsTorn entries) is t in
    frame_caused entries begun passed x rest both.0 w

pub stretch_slack : (entries : List Entry) (begun s next : List Cell) → IsTorn entries s → IsTorn entries next → Stretch entries begun s → Stretch entries begun next
stretch_slack entries begun s next t u h = elim (stretch_torn entries begun s t h) [ inl none ↦ free none u | inr e ↦ caused e ]

-- one more cell of the stretch
pub record Within (entries : List Entry) (begun : List Cell) (c : Cell) (next : List Cell) : Type 0 where
  pub passed : List Cell
  pub whole : IsWhole (passed ++ (map bare (begun ++ c ∷ []) ++ next))
  pub why : Why entries passed c.mark

map_push : (begun : List Cell) (c : Cell) (next : List Cell) → map bare begun ++ bare c ∷ next ≡ map bare (begun ++ c ∷ []) ++ next
map_push [] c next = refl
map_push (b ∷ begun) c next = ap (λ l. bare b ∷ l) (map_push begun c next)

began : (entries : List Entry) (begun : List Cell) (c : Cell) (next : List Cell) → IsWhole (bare c ∷ next) → (begun ≡ []) ⊎ (is_caused entries begun ≡ true) → (is_caused entries (begun ++ c ∷ []) ≡ true) ⊎ Within entries begun c next
began entries begun c next w (inr e) = inl (caused_front entries begun (c ∷ []) e)
began entries begun c next w (inl none) = inr (record {
  passed = [];
  whole = subst (λ (b : List Cell). IsWhole (map bare (b ++ c ∷ []) ++ next)) (sym none) w;
  why = inl refl;
})

pub stretch_step : (entries : List Entry) (begun s : List Cell) (c : Cell) (next : List Cell) → Stretch entries begun s → Step entries s c next
    → (is_caused entries (begun ++ c ∷ []) ≡ true) ⊎ Within entries begun c next
stretch_step entries begun s c next h (begins t w) = began entries begun c next w (stretch_torn entries begun s t h)
stretch_step entries begun s c next h (torn t e none) = inl (caused_last entries begun c e)
stretch_step entries begun s c next (free none t) (goes passed w is) =
    let all : IsTorn entries (bare c ∷ next) = subst (IsTorn entries) is t in
    inl (caused_last entries begun c all.0)
stretch_step entries begun s c next (caused e) (goes passed w is) = inl (caused_front entries begun (c ∷ []) e)
stretch_step entries begun s c next (within passed x rest sx w why) (goes before v is) =
    let same : x ∷ rest ≡ bare c ∷ next = sym sx ∙ is in
    let head : x ≡ bare c = cc in
    inr (record {
      passed = passed;
      whole = subst (λ (l : List Cell). IsWhole (passed ++ l)) (map_push begun c next) (subst (λ (l : List Cell). IsWhole (passed ++ (map bare begun ++ l))) same w);
      why = subst (λ (y : Cell). Why entries passed y.mark) head why;
    })

-- a cell that is no last one
opened : (entries : List Entry) (begun : List Cell) (c : Cell) (next : List Cell) → c.header.last ≡ false → Within entries begun c next → Stretch entries (begun ++ c ∷ []) next
opened entries begun c [] early w =
    let whole : IsWhole ((w.passed ++ map bare begun) ++ bare c ∷ []) =
    subst IsWhole (ap (λ l. w.passed ++ l) (sym (map_push begun c [])) ∙ sym (append_assoc w.passed (map bare begun) (bare c ∷ []))) w.whole in
    absurd (cc (open_goes_on (w.passed ++ map bare begun) (bare c) whole early))
opened entries begun c (y ∷ next) early w =
    let whole : IsWhole ((w.passed ++ map bare begun) ++ bare c ∷ y ∷ next) =
    subst IsWhole (ap (λ l. w.passed ++ l) (sym (map_push begun c (y ∷ next))) ∙ sym (append_assoc w.passed (map bare begun) (bare c ∷ y ∷ next))) w.whole in
    let marks : Every (IsOf c.mark) (y ∷ next) = marks_behind (w.passed ++ map bare begun) (bare c) (y ∷ next) whole in
    within w.passed y next refl w.whole (subst (Why entries w.passed) (sym marks.0) w.why)

pub stretch_open : (entries : List Entry) (begun s : List Cell) (c : Cell) (next : List Cell) → c.header.last ≡ false → Stretch entries begun s → Step entries s c next → Stretch entries (begun ++ c ∷ []) next
stretch_open entries begun s c next early h k = elim (stretch_step entries begun s c next h k) [ inl e ↦ caused e | inr w ↦ opened entries begun c next early w ]

-- a last cell: the stretch has a cause, or the chain passes, or no mark of it is without an entry
abbrev pub AllEntered : List Entry → List Cell → Type 0
AllEntered entries cells = Every (λ c. has_entry entries c.mark ≡ true) cells

unbare : (P : Mark → Type 0) (cells : List Cell) → Every (λ c. P c.mark) (map bare cells) → Every (λ c. P c.mark) cells
unbare P [] h = tt
unbare P (c ∷ cells) h = (h.0, unbare P cells h.1)

within_marks : (entries : List Entry) (begun : List Cell) (c : Cell) (next : List Cell) (w : Within entries begun c next) → Every (λ x. x.mark ≡ w.whole.mark) (begun ++ c ∷ [])
within_marks entries begun c next w =
    unbare (λ m. m ≡ w.whole.mark) (begun ++ c ∷ [])
    (every_left (IsOf w.whole.mark) (map bare (begun ++ c ∷ [])) next (every_right (IsOf w.whole.mark) w.passed (map bare (begun ++ c ∷ []) ++ next) (whole_marks _ w.whole)))

last_of : (P : Cell → Type 0) (begun : List Cell) (c : Cell) → Every P (begun ++ c ∷ []) → P c
last_of P begun c h = (every_right P begun (c ∷ []) h).0

within_entered : (entries : List Entry) (begun : List Cell) (c : Cell) (next : List Cell) (w : Within entries begun c next) → has_entry entries c.mark ≡ true → AllEntered entries (begun ++ c ∷ [])
within_entered entries begun c next w e =
    let all : Every (λ (x : Cell). x.mark ≡ w.whole.mark) (begun ++ c ∷ []) = within_marks entries begun c next w in
    let here : c.mark ≡ w.whole.mark = last_of (λ (x : Cell). x.mark ≡ w.whole.mark) begun c all in
    every_map (λ (x : Cell). x.mark ≡ w.whole.mark) (λ (x : Cell). has_entry entries x.mark ≡ true) (begun ++ c ∷ []) (λ x m. ap (has_entry entries) (m ∙ sym here) ∙ e) all

passes_or_entered : (entries : List Entry) (begun : List Cell) (c : Cell) (w : Within entries begun c []) → payload_in (octets_of (begun ++ c ∷ [])) ≡ None → Why entries w.passed c.mark → AllEntered entries (begun ++ c ∷ [])
passes_or_entered entries begun c w refused (inr e) = within_entered entries begun c [] w e
passes_or_entered entries begun c w refused (inl none) =
    let whole : IsWhole (map bare (begun ++ c ∷ [])) =
    subst IsWhole (append-nil (map bare (begun ++ c ∷ []))) (subst (λ (l : List Cell). IsWhole (l ++ (map bare (begun ++ c ∷ []) ++ []))) none w.whole) in
    absurd (cc (sym refused ∙ whole_passes (begun ++ c ∷ []) whole))

pub stretch_fails : (entries : List Entry) (begun s : List Cell) (c : Cell) (next : List Cell) → c.header.last ≡ true → payload_in (octets_of (begun ++ c ∷ [])) ≡ None → Stretch entries begun s → Step entries s c next
    → (is_caused entries (begun ++ c ∷ []) ≡ true) ⊎ AllEntered entries (begun ++ c ∷ [])
stretch_fails entries begun s c next last refused h k =
    let none : next ≡ [] = step_last entries s c next last k in
    elim (stretch_step entries begun s c next h k) [
      | inl e ↦ inl e
      | inr w ↦ (
          let v : Within entries begun c [] = subst (Within entries begun c) none w in
          inr (passes_or_entered entries begun c v refused v.why))
    ]

length_bare : (cells : List Cell) → length (map bare cells) ≡ length cells
length_bare [] = refl
length_bare (c ∷ cells) = ap suc (length_bare cells)

-- a chain of 32 cells that goes on has a cause
pub stretch_long : (entries : List Entry) (begun s : List Cell) (c : Cell) (next : List Cell) → 32 ≤ length begun → Stretch entries begun s → Step entries s c next → is_caused entries (begun ++ c ∷ []) ≡ true
stretch_long entries begun s c next long h k =
    elim (stretch_step entries begun s c next h k) [
      | inl e ↦ e
      | inr w ↦ (
          let short = whole_is_short w.passed (map bare (begun ++ c ∷ []) ++ next) w.whole in
          absurd (omega (arith, short, length-append (map bare (begun ++ c ∷ [])) next, length_bare (begun ++ c ∷ []), length-append begun (c ∷ []), long)))
    ]
