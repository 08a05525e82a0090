-- a node that holds what it was told, and has recorded what it took since an event began

use Rattle.std.proofs.Common.{◌≡◌, ◌≢◌, ℕ, suc, ◌+◌, Bool, true, false, List, [], ◌∷◌, ◌++◌, length, length-append, fold, append_assoc, append-nil, None, Some, sym, ◌∙◌, ap, arith, if◌then◌else◌}
use Rattle.std.specs.Prelude.{nat_eq}
use Rattle.std.specs.List.{range_with_len, cons_option}
use Rattle.std.proofs.lemmas.Bool.Decides.{nat_tests}
use Rattle.std.proofs.lemmas.List.Elements.{filter_map-append}
use Rattle.std.proofs.lemmas.List.Sums.{fold-append}
use Rattle.world_model.specs.Words.{NodeId, changed, RouteChange, Routes, Controller, takes_change, change_comes}
use Rattle.world_model.specs.ipv4_forward.declared.table.Route.{Route}
use Rattle.world_model.specs.Controller.{Acted}
use Rattle.law_told_tables.specs.Tables.{number_told, numbers_told}
use Rattle.law_told_tables.proofs.Lists.{range_more}
use Rattle.law_told_tables.proofs.Walk.{IsAlike}
use Rattle.law_told_tables.proofs.Taking.{changes_kept}

-- *What it holds*: a front of the changes told was taken, and the others wait; those behind the first so many were taken in
-- this event, and these numbers are recorded of it
pub record Holds (routes : List Route) (told : List RouteChange) (already : ℕ) (c : Controller) (numbers : List ℕ) : Type 0 where
  pub front : List RouteChange
  pub splits : told ≡ front ++ c.waiting
  pub table : c.table ≡ fold changed routes front
  pub changes : c.changes ≡ length front
  pub since : ℕ
  pub count : c.changes ≡ already + since
  pub recorded : numbers ≡ range_with_len (already + 1) since

-- *Numbers* that are recorded as a change is taken: one more of the node, and none of another
same_number : (a b : ℕ) → a ≡ b → nat_eq a b ≡ true
same_number a b e = grind (arith, nat_tests)

other_number : (a b : ℕ) → a ≢ b → nat_eq a b ≡ false
other_number a b e = grind (arith, nat_tests)

module _ (routes : List Route) (already : ℕ) (here : NodeId) (others : NodeId → List ℕ) where
  -- *A controller at work*, of which others have recorded something too
  pub record Told (told : List RouteChange) (a : Acted) : Type 0 where
    pub node : a.controller.node.0 ≡ here.0
    pub holds : Holds routes told already a.controller (numbers_told here a.notes.records)
    pub elsewhere : (n : NodeId) → here.0 ≢ n.0 → numbers_told n a.notes.records ≡ others n

  pub told_alike : (told : List RouteChange) (a b : Acted) → IsAlike a b → Told told a → Told told b
  told_alike told a b like h = record {
    node = ap (λ (n : NodeId). n.0) like.node ∙ h.node;
    holds = record {
      front = h.holds.front;
      splits = h.holds.splits ∙ ap (λ (waiting : List RouteChange). h.holds.front ++ waiting) (sym like.waiting);
      table = like.table ∙ h.holds.table;
      changes = like.changes ∙ h.holds.changes;
      since = h.holds.since;
      count = like.changes ∙ h.holds.count;
      recorded = like.told here ∙ h.holds.recorded;
    };
    elsewhere = λ n away. like.told n ∙ h.elsewhere n away;
  }

  pub told_takes : (told : List RouteChange) (a : Acted) (change : RouteChange) (later : List RouteChange) → a.controller.waiting ≡ change ∷ later → Told told a → Told told (takes_change a change later)
  told_takes told a change later is h =
      let k : Holds routes told already a.controller (numbers_told here a.notes.records) = h.holds in
      let number : ℕ = a.controller.changes + 1 in
      let own : nat_eq a.controller.node.0 here.0 ≡ true = same_number a.controller.node.0 here.0 h.node in
      let last : already + 1 + k.since ≡ number = omega (arith, k.count) in
      record {
        node = h.node;
        holds = record {
          front = k.front ++ change ∷ [];
          splits = k.splits ∙ ap (λ (waiting : List RouteChange). k.front ++ waiting) is ∙ sym (append_assoc k.front (change ∷ []) later);
          table = ap (λ (table : List Route). changed table change) k.table ∙ sym (fold-append changed routes k.front (change ∷ []));
          changes = omega (arith, k.changes, length-append k.front (change ∷ []));
          since = suc k.since;
          count = omega (arith, k.count);
          recorded = filter_map-append (number_told here) a.notes.records (Routes a.controller.node number ∷ [])
              ∙ ap (λ (t : Bool). numbers_told here a.notes.records ++ cons_option (if t then Some number else None) []) own
              ∙ ap (λ (ns : List ℕ). ns ++ number ∷ []) k.recorded
              ∙ ap (λ (n : ℕ). range_with_len (already + 1) k.since ++ n ∷ []) (sym last)
              ∙ sym (range_more (already + 1) k.since);
        };
        elsewhere = λ n away. filter_map-append (number_told n) a.notes.records (Routes a.controller.node number ∷ [])
            ∙ ap (λ (t : Bool). numbers_told n a.notes.records ++ cons_option (if t then Some number else None) [])
            (other_number a.controller.node.0 n.0 (λ same. away (sym h.node ∙ same)))
            ∙ append-nil (numbers_told n a.notes.records) ∙ h.elsewhere n away;
      }

  -- *A change comes*: one more is told
  pub told_comes : (told : List RouteChange) (a : Acted) (change : RouteChange) → Told told a → Told (told ++ change ∷ []) (change_comes a change)
  told_comes told a change h =
      let waits : Acted = record a { controller = record a.controller { waiting = a.controller.waiting ++ change ∷ [] } } in
      let k : Holds routes told already a.controller (numbers_told here a.notes.records) = h.holds in
      changes_kept (Told (told ++ change ∷ [])) (told_alike (told ++ change ∷ [])) (told_takes (told ++ change ∷ [])) waits
      (record {
        node = h.node;
        holds = record {
          front = k.front;
          splits = ap (λ (changes : List RouteChange). changes ++ change ∷ []) k.splits ∙ append_assoc k.front a.controller.waiting (change ∷ []);
          table = k.table;
          changes = k.changes;
          since = k.since;
          count = k.count;
          recorded = k.recorded;
        };
        elsewhere = h.elsewhere;
      })
