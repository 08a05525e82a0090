-- the whole lines of a front of lines are among these

use Rattle.std.proofs.Common.{◌≡◌, ℕ, zero, suc, ◌==◌, Bool, true, false, not, ◌&&◌, List, [], ◌∷◌, ◌++◌, append_assoc, All, refl, sym, ◌∙◌, ap, subst, arith}
use Rattle.std.specs.List.{flat_map, list_all}
use Rattle.std.proofs.lemmas.List.Concat.{flat_map-cons}
use Rattle.std.proofs.lemmas.List.Folds.{list_all-append}
use Rattle.lab_text.specs.Lines.{begun_with, lines_of}
use Rattle.ordered_lists.specs.Ordered.{Every}
use Rattle.ordered_lists.proofs.Every.{every_map}
use Rattle.law_true_lines.specs.Lines.{IsWhole}
use Rattle.law_true_lines.proofs.Texts.{IsText, IsLine, text_more}

pub all_of : {A : Type 0} (P : A → Type 0) (xs : List A) → Every P xs → All P xs
all_of P [] h k d low = absurd (omega (arith, low))
all_of P (x ∷ xs) h zero d low = h.0
all_of P (x ∷ xs) h (suc k) d low = all_of P xs h.1 k d (omega (arith, low))

-- *The lines of octets*
no_end : (octet : ℕ) (text : List ℕ) → IsText (octet ∷ text) → (octet == 10 ≡ false) × IsText text
no_end octet text h = by (octet == 10) (list_all (λ o. not (o == 10)) text) h
  where
    by : (b c : Bool) → (not b && c) ≡ true → (b ≡ false) × (c ≡ true)
    by true c k = absurd (cc k)
    by false c k = (refl, k)

lines_later : (octet : ℕ) (octets : List ℕ) → octet == 10 ≡ false → lines_of (octet ∷ octets) ≡ begun_with octet (lines_of octets)
lines_later octet octets e = rw e refl

lines_line : (text rest : List ℕ) → IsText text → lines_of (text ++ 10 ∷ rest) ≡ (text ++ 10 ∷ []) ∷ lines_of rest
lines_line [] rest h = refl
lines_line (octet ∷ text) rest h =
    let is = no_end octet text h in
    lines_later octet (text ++ 10 ∷ rest) is.0 ∙ ap (begun_with octet) (lines_line text rest is.1)

begun_texts : (octet : ℕ) (lines : List (List ℕ)) → not (octet == 10) ≡ true → Every IsText lines → Every IsText (begun_with octet lines)
begun_texts octet [] is h = (text_more octet [] is refl, tt)
begun_texts octet (line ∷ lines) is h = (text_more octet line is h.0, h.1)

text_lines : (text : List ℕ) → IsText text → Every IsText (lines_of text)
text_lines [] h = tt
text_lines (octet ∷ text) h =
    let is = no_end octet text h in
    subst (Every IsText) (sym (lines_later octet text is.0)) (begun_texts octet (lines_of text) (ap not is.0) (text_lines text is.1))

none_whole : (line : List ℕ) → IsText line → IsWhole line → ⊥
none_whole line is whole = cc (sym (subst IsText whole.ended is) ∙ list_all-append (λ octet. not (octet == 10)) whole.text (10 ∷ []) ∙ no_more _)
  where
    no_more : (b : Bool) → (b && false) ≡ false
    no_more true = refl
    no_more false = refl

-- *A front of a line and more* ends before the line's LF, or has the whole line
data Splits (text more front rest : List ℕ) : Type 0 where
  within : IsText front → Splits text more front rest
  past : (later : List ℕ) → front ≡ text ++ 10 ∷ later → later ++ rest ≡ more → Splits text more front rest

splits : (text more front rest : List ℕ) → IsText text → front ++ rest ≡ text ++ 10 ∷ more → Splits text more front rest
splits text more [] rest is e = within refl
splits [] more (x ∷ xs) rest is e =
    let same : x ≡ 10 = cc in
    let others : xs ++ rest ≡ more = cc in
    past xs (ap (λ (o : ℕ). o ∷ xs) same) others
splits (octet ∷ text) more (x ∷ xs) rest is e =
    let own = no_end octet text is in
    let same : x ≡ octet = cc in
    let others : xs ++ rest ≡ text ++ 10 ∷ more = cc in
    by same (splits text more xs rest own.1 others) own.0
  where
    by : x ≡ octet → Splits text more xs rest → octet == 10 ≡ false → Splits (octet ∷ text) more (x ∷ xs) rest
    by same (within h) apart = within (text_more x xs (ap not (ap (λ (o : ℕ). o == 10) same ∙ apart)) h)
    by same (past later is_front is_rest) apart = past later ((λ i. same i ∷ is_front i)) is_rest

-- *Whole lines* of which something is so
module _ (P : List ℕ → Type 0) where
  abbrev pub WhereWhole : List ℕ → Type 0
  WhereWhole line = IsWhole line → P line

  abbrev pub HoldInFronts : (octets : List ℕ) → Type 0
  HoldInFronts octets = (front rest : List ℕ) → front ++ rest ≡ octets → Every WhereWhole (lines_of front)

  pub fronts_none : HoldInFronts []
  fronts_none [] rest e = tt
  fronts_none (x ∷ xs) rest e = absurd (cc e)

  pub fronts_more : (line more : List ℕ) → IsLine line → P line → HoldInFronts more → HoldInFronts (line ++ more)
  fronts_more line more is p onward front rest e =
      by (splits is.text more front rest is.is_text (e ∙ ap (λ (xs : List ℕ). xs ++ more) is.ends ∙ append_assoc is.text (10 ∷ []) more))
    where
      by : Splits is.text more front rest → Every WhereWhole (lines_of front)
      by (within h) = every_map IsText WhereWhole (lines_of front) (λ x text whole. absurd (none_whole x text whole)) (text_lines front h)
      by (past later is_front is_rest) = subst (Every WhereWhole) (sym (ap lines_of is_front ∙ lines_line is.text later is.is_text))
          ((λ whole. subst P is.ends p), onward later rest is_rest)

  pub fronts_each : {X : Type 0} (f : X → List ℕ) (xs : List X) (more : List ℕ) → Every (λ (x : X). IsLine (f x) × P (f x)) xs → HoldInFronts more → HoldInFronts (flat_map f xs ++ more)
  fronts_each f [] more each onward = onward
  fronts_each f (x ∷ xs) more each onward =
      subst HoldInFronts (sym (ap (λ (ys : List ℕ). ys ++ more) (flat_map-cons f x xs) ∙ append_assoc (f x) (flat_map f xs) more))
      (fronts_more (f x) (flat_map f xs ++ more) each.0.0 each.0.1 (fronts_each f xs more each.1 onward))
