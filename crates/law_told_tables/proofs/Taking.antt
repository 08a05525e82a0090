-- what stays so while table, changes and what is recorded of them stay, and as the first change that waits is taken, every
-- rule of a controller keeps

use Rattle.std.proofs.Common.{◌≡◌, List, [], ◌∷◌, ◌++◌, refl, ◌∙◌}
use Rattle.std.specs.Prelude.{nat_lt}
use Rattle.world_model.specs.Words.{Cell, RouteChange, gsmp_received, Loss, Unbound, after_answer, begins_change, takes_change, takes_changes, change_comes, with_desk, ForGsmp, ForDefault, ForLabel, reassembly_of, with_reassembly, Journal, Reassembly}
use Rattle.world_model.specs.gsmp_wire.declared.message.Message.{Message}
use Rattle.law_causes.proofs.law_controller_facts.Lifetimes.{decoded_lives}
use Rattle.world_model.specs.Controller.{Acted, free_slots}
use Rattle.world_model.specs.Gsmp.{message_comes}
use Rattle.world_model.specs.Cells.{Taker, cell_comes}
use Rattle.law_rule_walks.proofs.Controllers as controllers
use Rattle.law_rule_walks.proofs.Changes as route_changes
use Rattle.law_rule_walks.proofs.Cells as cells
use Rattle.law_told_tables.proofs.Notes.{TellsAlike, taken_alike, tested_alike}
use Rattle.law_told_tables.proofs.Walk.{IsAlike, same, noted_kept, keeps, forwards}

-- as a change is begun the same wait
pub begun_waits : (a : Acted) (change : RouteChange) → (begins_change a change).controller.waiting ≡ a.controller.waiting
begun_waits a change = controllers.begins_change_kept (keeps (λ (b : Acted). b.controller.waiting ≡ a.controller.waiting) (λ b c like is. like.waiting ∙ is)) a change refl

module _ (P : Acted → Type 0) (alike : (a b : Acted) → IsAlike a b → P a → P b)
    (takes : (a : Acted) (change : RouteChange) (later : List RouteChange) → a.controller.waiting ≡ change ∷ later → P a → P (takes_change a change later)) where
  pub changes_kept : (a : Acted) → P a → P (takes_changes a)
  changes_kept a h = route_changes.takes_changes_kept (keeps P alike) takes a h

  told_kept : (a : Acted) (message : Message) → P a → P (message_comes a message)
  told_kept a message h = route_changes.told_kept (keeps P alike) takes tt (λ b answer k. same P alike b (with_desk b (after_answer b.controller.desk answer)) refl refl refl refl (λ node. refl) k) a message
      (λ greeting is. same P alike a (record a { controller = record a.controller { adjacency = (gsmp_received a.controller.adjacency greeting).side } }) refl refl refl refl (λ node. refl) h) h

  -- *Cells*
  gathered_kept : (a : Acted) (taker : Taker) (notes : Journal) (r : Reassembly) → TellsAlike a.notes notes → P a → P (with_reassembly (record a { notes = notes }) taker r)
  gathered_kept a ForGsmp notes r told h = same P alike a (with_reassembly (record a { notes = notes }) ForGsmp r) refl refl refl refl told h
  gathered_kept a (ForDefault linked) notes r told h = same P alike a (with_reassembly (record a { notes = notes }) (ForDefault linked) r) refl refl refl refl told h
  gathered_kept a (ForLabel linked label) notes r told h = same P alike a (with_reassembly (record a { notes = notes }) (ForLabel linked label) r) refl refl refl refl told h

  pub cell_kept : (a : Acted) (cell : Cell) → P a → P (cell_comes a cell)
  cell_kept a cell h = cells.cell_kept (forwards P alike) (keeps P alike) tt decoded_lives told_kept
      (λ b ended k. same P alike b _ refl refl refl refl (tested_alike b.notes ended) k)
      (λ b mark k. noted_kept P alike b (Loss mark Unbound) (λ node. refl) k)
      (λ b taker one found k. gathered_kept b taker _ _ (taken_alike b.notes (nat_lt 0 (free_slots b.controller)) (reassembly_of b.controller taker) one) k) a cell h

-- a change that comes leaves the node's number
pub change_node : (a : Acted) (change : RouteChange) → (change_comes a change).controller.node ≡ a.controller.node
change_node a change = changes_kept (λ (b : Acted). b.controller.node ≡ a.controller.node) (λ b c like is. like.node ∙ is) (λ b other later waits is. is)
    (record a { controller = record a.controller { waiting = a.controller.waiting ++ change ∷ [] } }) refl
