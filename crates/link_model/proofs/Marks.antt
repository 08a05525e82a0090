-- equal marks, and the entries that have a mark

use Rattle.std.proofs.Common.{◌≡◌, true, List, Any, refl, subst, eqb, eqb-true, eq-eqb}
use Rattle.std.proofs.lemmas.Bool.{and_parts, and_from}
use Rattle.std.proofs.lemmas.List.Folds.{Any-from_list_any, list_any-from_Any}
use Rattle.std.specs.Bool.{Decides}
use Rattle.net_types.specs.declared.number.Mark.{Mark}
use Rattle.link_model.specs.declared.entries.Entry.{Entry}
use Rattle.link_model.specs.Ledger.{same_mark, has_entry}

-- a mark is its two numbers
mark_is : (a b : Mark) → a.packet ≡ b.packet → a.frame ≡ b.frame → a ≡ b
mark_is a b p f = λ i. record { packet = p i; frame = f i }

-- the test of two marks is true exactly where they are equal
pub same_mark-Decides : (a b : Mark) → Decides (same_mark a b) (a ≡ b)
same_mark-Decides a b = (
  λ t. let parts = and_parts (eqb a.packet b.packet) (eqb a.frame b.frame) t in
      mark_is a b (eqb-true a.packet b.packet parts.0) (eqb-true a.frame b.frame parts.1),
  λ e. subst (λ (m : Mark). same_mark a m ≡ true) e
      (and_from (eqb a.packet a.packet) (eqb a.frame a.frame) (eq-eqb a.packet a.packet refl) (eq-eqb a.frame a.frame refl)),
)

-- the test of the entries is true exactly where one of them has the mark
pub has_entry-Decides : (entries : List Entry) (mark : Mark) → Decides (has_entry entries mark) (Any (λ entry. entry.mark ≡ mark) entries)
has_entry-Decides entries mark = (
  λ t. let found = Any-from_list_any (λ (entry : Entry). same_mark entry.mark mark) entries t in
      (found.0, found.1, found.2, found.3, (same_mark-Decides found.1.mark mark).0 found.4),
  λ a. list_any-from_Any (λ (entry : Entry). same_mark entry.mark mark) entries
      (a.0, a.1, a.2, a.3, (same_mark-Decides a.1.mark mark).1 a.4),
)
