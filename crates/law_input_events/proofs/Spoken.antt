-- what both ends of a control link say at a tick is read as it was said, since instances are drawn in order

use Rattle.std.proofs.Common.{◌≡◌, ℕ, ◌+◌, ◌<◌, ◌≤◌, ◌^◌, sym, subst, arith}
use Rattle.law_input_premises.specs.world_model.Words.{End, NodeId, Party, Reply, Silent, Says, Resets, tick_reply, Side, Step, ticked, gsmp_answer, SideByInstances, side_of, tick_by, FitsParty}
use Rattle.law_input_premises.specs.world_model.adjacency_table.Side.{counted}
use Rattle.law_input_premises.proofs.world_model.adjacency_table.EndsLemmas.{ticked_by_instances}
use Rattle.law_input_premises.specs.law_branch_line.Line.{Line}
use Rattle.law_input_premises.specs.law_branch_line.Law.{HasDrawn, IsReached}
use Rattle.law_input_premises.proofs.law_branch_line.Drawn.{always_drawn}
use Rattle.law_input_premises.proofs.law_branch_line.Reached.{holds_reached}
use Rattle.law_input_premises.specs.law_input_views.Shown.{controller_of, switch_of}
use Rattle.law_input_premises.specs.law_input_steps.Hearing.{Reads}
use Rattle.law_input_premises.specs.law_input_steps.Part.{Part, Stands}
use Rattle.law_input_premises.proofs.Reading.{controller_fits, switch_fits, greeting_read}

module _ (own far : ℕ → Party) (owns : (n : ℕ) → n < 2 ^ 32 → FitsParty (own n)) (fars : (n : ℕ) → n < 2 ^ 32 → FitsParty (far n)) where
  tick_reads : (side : SideByInstances) (silence : ℕ) (reply : Reply) → side.own < 2 ^ 32 → side.stored < 2 ^ 32 → Reads (gsmp_answer (tick_by own far side silence reply).answer)
  tick_reads side silence Silent o s = tt
  tick_reads side silence (Says kind) o s = greeting_read own far owns fars side kind 0 0 o s (omega arith) (omega arith)
  tick_reads side silence Resets o s = tt

  ticked_reads : (a : Side Party) (side : SideByInstances) → a ≡ side_of own far side a.silence → side.own < 2 ^ 32 → side.stored < 2 ^ 32 → Reads (gsmp_answer (ticked a).answer)
  ticked_reads a side is o s = subst (λ (z : Side Party). Reads (gsmp_answer (ticked z).answer)) (sym is)
      (subst (λ (z : Step Party). Reads (gsmp_answer z.answer)) (sym (ticked_by_instances own far side a.silence)) (tick_reads side a.silence (tick_reply side.state (counted side.state a.silence)) o s))

bounded : (x fresh instances : ℕ) → x < fresh → fresh ≤ instances + 1 → instances + 20 < 2 ^ 32 → x < 2 ^ 32
bounded x fresh instances less le left = omega (arith, less, le, left)

module _ (node : NodeId) (input : End) (p : Part) (line : Line) (small : node.0 < 256) (left : p.numbers.instances + 20 < 2 ^ 32) (reached : IsReached line) (h : Stands node input p line) where
  pub drawn : HasDrawn line
  drawn = holds_reached HasDrawn always_drawn line reached

  pub fits : (x : ℕ) → x < line.fresh → x < 2 ^ 32
  fits x less = bounded x line.fresh p.numbers.instances less h.drawn left

  pub controller_tick : Reads (gsmp_answer (ticked p.adjacency).answer)
  controller_tick = ticked_reads (controller_of node) (switch_of node) (λ n less. controller_fits node n small less) (λ n less. switch_fits node n small less) p.adjacency line.controller.adjacency h.own.side
      (fits line.controller.adjacency.own drawn.controller.0) (fits line.controller.adjacency.stored drawn.controller.1)

  pub switch_tick : Reads (gsmp_answer (ticked p.far).answer)
  switch_tick = ticked_reads (switch_of node) (controller_of node) (λ n less. switch_fits node n small less) (λ n less. controller_fits node n small less) p.far line.switch.adjacency h.far.side
      (fits line.switch.adjacency.own drawn.switch.0) (fits line.switch.adjacency.stored drawn.switch.1)
