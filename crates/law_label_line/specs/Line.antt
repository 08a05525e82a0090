-- the line of one label: all that bears on it, from the end that hands it out to the end that uses
-- it and back

use Rattle.std.specs.Prelude.{ℕ, Bool, true, false, ◌&&◌, ◌||◌, nat_eq, List, []}
use Rattle.adjacency_table.specs.declared.State.{State}
use Rattle.adjacency_table.specs.declared.State.TheVariants.{Clearing}
use Rattle.adjacency_table.specs.Side.{is_estab}
use Rattle.adjacency_table.specs.Instances.{SideByInstances, begun}
use Rattle.law_label_line.specs.Cells.{Way, empty}

abbrev pub is_clearing : State → Bool
is_clearing Clearing = true
is_clearing _ = false

-- the instances under which a port was cleared, once it is cleared under its own
abbrev pub also_under : (own : ℕ) → (cleared : ℕ → Bool) → ℕ → Bool
also_under own cleared = λ instance. nat_eq instance own || cleared instance

-- a redirection message is the peer's in Estab, where both instances are right
abbrev pub is_from_peer : SideByInstances → (sender receiver : ℕ) → Bool
is_from_peer end sender receiver = is_estab end.state && (nat_eq sender end.stored && nat_eq receiver end.own)

-- the label at the downstream end. It is bound to a flow while it is Offered or Recalled
pub data Label : Type 0 where
  Spare : Label
  -- the branch of its channel is being made, for this flow
  Wiring : (flow : ℕ) → Label
  Offered : Label
  -- the number of its last RECLAIM, and whether a RECLAIM ACK was taken
  Recalled : (last : ℕ) → (acknowledged : Bool) → Label
  -- it was quit, and its branch is being deleted
  Wired : Label

abbrev pub is_bound : Label → Bool
is_bound Offered = true
is_bound (Recalled _ _) = true
is_bound _ = false

-- the upstream end's grant of the label, with its flow
pub data Grant : Type 0 where
  NoGrant : Grant
  -- its branch is being made
  Idle : (flow : ℕ) → Grant
  -- the upstream controller sends cells under the label
  ByController : (flow : ℕ) → Grant
  -- an input of the upstream switch is joined to the label
  ByInput : (flow : ℕ) → Grant
  -- it ends once that join is released, and owes a RECLAIM ACK or not. After a restart of the
  -- upstream end only the switch's branch may be left of it
  Leaving : (flow : ℕ) → (owed : Bool) → Grant

pub record Line : Type 0 where
  pub downstream : SideByInstances
  pub upstream : SideByInstances
  -- for the law alone, the instances under which the port of each was cleared
  pub downstream_cleared : ℕ → Bool
  pub upstream_cleared : ℕ → Bool
  -- the least instance that wasn't drawn yet, over all ports of the network
  pub fresh : ℕ
  -- the label, and the flow to which it was bound last
  pub label : Label
  pub flow : ℕ
  -- the downstream end's next number, and the greatest next number that its peer said
  pub number : ℕ
  pub known : ℕ
  -- the number that the upstream end expects
  pub expected : ℕ
  -- what the downstream end has reassembled of the label's channel, by flows
  pub reassembly : List ℕ
  pub grant : Grant
  pub to_downstream : Way
  pub to_upstream : Way

-- the start of a run: both ports wait until they are cleared, and the label was never bound
abbrev pub start : (downstream upstream fresh : ℕ) → Line
start downstream upstream fresh = record {
  downstream = begun Clearing downstream;
  upstream = begun Clearing upstream;
  downstream_cleared = λ instance. false;
  upstream_cleared = λ instance. false;
  fresh = fresh;
  label = Spare;
  flow = 0;
  number = 1;
  known = 1;
  expected = 1;
  reassembly = [];
  grant = NoGrant;
  to_downstream = empty;
  to_upstream = empty;
}
