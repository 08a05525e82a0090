-- grants of labels: what a change leaves of them

use Rattle.std.proofs.Common.{◌≡◌, ℕ, zero, suc, Bool, true, false, List, [], ◌∷◌, ◌++◌, Option, None, Some, refl, sym, ◌∙◌, inl, inr}
use Rattle.std.specs.Prelude.{slice_get, option_map, IsTrue, IfSome, nat_le, ◌&&◌}
use Rattle.std.specs.List.{insert}
use Rattle.std.proofs.lemmas.Bool.{and_parts, cases_eq}
use Rattle.net_types.specs.Label.{is_label_number}
use Rattle.ipv4_packet.specs.declared.flow.FlowId.{FlowId}
use Rattle.ipv4_packet.specs.Parts.{same_flow}
use Rattle.keyed_lists.specs.Keyed.{at, put, without}
use Rattle.branch_desk.specs.port_model.Grants.{Grant, grant_label, grant_for, is_by_controller}
use Rattle.grant_table.specs.Table.{AreOfLabels}
use Rattle.grant_table.proofs.Apart.{at_here, at_there, put_here, put_there, without_here, without_there}

abbrev IsOfLabel : Grant → Type 0
IsOfLabel grant = IsTrue (is_label_number grant.label)

pub labels_put : (y : Grant) (xs : List Grant) → AreOfLabels xs → AreOfLabels (put grant_label y xs)
labels_put y [] are = are
labels_put y (x ∷ xs) are = elim (cases_eq x.label y.label) [
  | inl same ↦ (let of : IsOfLabel y = rw same at are.0 in rw (put_here y x xs same) (of, are.1))
  | inr other ↦ rw (put_there y x xs other) (are.0, labels_put y xs are.1)
]

pub labels_without : (k : ℕ) (xs : List Grant) → AreOfLabels xs → AreOfLabels (without grant_label k xs)
labels_without k [] are = are
labels_without k (x ∷ xs) are = elim (cases_eq x.label k) [
  | inl same ↦ rw (without_here k x xs same) (labels_without k xs are.1)
  | inr other ↦ rw (without_there k x xs other) (are.0, labels_without k xs are.1)
]

pub labels_insert : (y : Grant) (i : ℕ) (xs : List Grant) → AreOfLabels xs → IsOfLabel y → AreOfLabels (insert xs i y)
labels_insert y zero xs are of = (of, are)
labels_insert y (suc i) [] are of = (of, tt)
labels_insert y (suc i) (x ∷ xs) are of = (are.0, labels_insert y i xs are.1 of)

pub labels_push : (y : Grant) (xs : List Grant) → AreOfLabels xs → IsOfLabel y → AreOfLabels (xs ++ y ∷ [])
labels_push y [] are of = (of, tt)
labels_push y (x ∷ xs) are of = (are.0, labels_push y xs are.1 of)

-- each that is found is of a label
pub label_found : (k : ℕ) (xs : List Grant) (g : Grant) → AreOfLabels xs → at grant_label k xs ≡ Some g → IsOfLabel g
label_found k [] g are is = absurd (cc is)
label_found k (x ∷ xs) g are is = elim (cases_eq x.label k) [
  | inl same ↦ (
      let first : Some x ≡ Some g = sym (at_here k x xs same) ∙ is in
      let it : x ≡ g = cc in
      rw it at are.0)
  | inr other ↦ label_found k xs g are.1 (sym (at_there k x xs other) ∙ is)
]

pub label_at : (xs : List Grant) (i : ℕ) (g : Grant) → AreOfLabels xs → slice_get xs i ≡ Some g → IsOfLabel g
label_at [] i g are is = absurd (cc is)
label_at (x ∷ xs) zero g are is = let it : x ≡ g = cc in rw it at are.0
label_at (x ∷ xs) (suc i) g are is = label_at xs i g are.1 is

pub label_for : (flow : FlowId) (xs : List Grant) (n : ℕ) → AreOfLabels xs → option_map grant_label (grant_for xs flow) ≡ Some n → IsTrue (is_label_number n)
label_for flow [] n are is = absurd (cc is)
label_for flow (x ∷ xs) n are is = by (label_for flow xs n are.1) (is_by_controller x.state && same_flow x.flow flow) refl where
  by : (option_map grant_label (grant_for xs flow) ≡ Some n → IsTrue (is_label_number n))
      → (b : Bool) → (is_by_controller x.state && same_flow x.flow flow) ≡ b → IsTrue (is_label_number n)
  by later true on = (
      let found : Some x.label ≡ Some n = rw on at is in
      let it : x.label ≡ n = cc in
      rw it at are.0)
  by later false off = later (rw off at is)

-- a number in the range of a table is one of a label
pub in_range_label : (least greatest n : ℕ) → (is_label_number n && (nat_le least n && nat_le n greatest)) ≡ true → IsTrue (is_label_number n)
in_range_label least greatest n is = (and_parts (is_label_number n) (nat_le least n && nat_le n greatest) is).0

pub all_for : (flow : FlowId) (xs : List Grant) (r : Option ℕ) → AreOfLabels xs → r ≡ option_map grant_label (grant_for xs flow) → IfSome r (λ n. IsTrue (is_label_number n))
all_for flow xs None are e = tt
all_for flow xs (Some n) are e = label_for flow xs n are (sym e)
