-- the adjacency table, by what its rows do

use Rattle.std.proofs.Common.{Bool, true, false}
use Rattle.net_types.specs.declared.adjacency.HelloKind.{HelloKind}
use Rattle.net_types.specs.declared.adjacency.HelloKind.TheVariants.{Syn, Synack, Rstack, Ack}
use Rattle.adjacency_table.specs.declared.State.{State}
use Rattle.adjacency_table.specs.declared.State.TheVariants.{Clearing, SynSent, SynRcvd, Estab}
use Rattle.adjacency_table.specs.Table.{Silent, Says, Resets, Row, row, stays, stores_and, enters_by_synack, enters_by_ack}

-- P holds of each kind of row
pub record Rows (P : State → HelloKind → Bool → Bool → Row → Type 0) : Type 0 where
  pub quiet : (state : State) (kind : HelloKind) (meant known : Bool)
      → P state kind meant known (stays state Silent)
  pub denies : (state : State) (kind : HelloKind) (meant known : Bool)
      → P state kind meant known (stays state (Says Rstack))
  pub confirms : (kind : HelloKind) (meant known : Bool) → P Estab kind meant known (stays Estab (Says Ack))
  pub stores_first : (meant known : Bool) → P SynSent Syn meant known (stores_and SynRcvd Synack)
  pub stores_next : (meant known : Bool) → P SynRcvd Syn meant known (stores_and SynRcvd Synack)
  pub enters_first : (known : Bool) → P SynSent Synack true known enters_by_synack
  pub enters_next : (known : Bool) → P SynRcvd Synack true known enters_by_synack
  pub enters_confirmed : P SynRcvd Ack true true enters_by_ack
  pub hears_good : P Estab Ack true true enters_by_ack
  pub resets : (state : State) (kind : HelloKind) (meant known : Bool)
      → P state kind meant known (stays state Resets)

-- and so of the row at which a message stands
pub by_row : (P : State → HelloKind → Bool → Bool → Row → Type 0) → Rows P
    → (state : State) (kind : HelloKind) (meant known : Bool)
    → P state kind meant known (row state kind meant known)
by_row P r Clearing kind meant known = r.quiet Clearing kind meant known
by_row P r SynSent Syn meant known = r.stores_first meant known
by_row P r SynSent Synack true known = r.enters_first known
by_row P r SynSent Synack false known = r.denies SynSent Synack false known
by_row P r SynSent Ack meant known = r.denies SynSent Ack meant known
by_row P r SynSent Rstack meant known = r.quiet SynSent Rstack meant known
by_row P r SynRcvd Syn meant known = r.stores_next meant known
by_row P r SynRcvd Synack true known = r.enters_next known
by_row P r SynRcvd Synack false known = r.denies SynRcvd Synack false known
by_row P r SynRcvd Ack true true = r.enters_confirmed
by_row P r SynRcvd Ack true false = r.denies SynRcvd Ack true false
by_row P r SynRcvd Ack false known = r.denies SynRcvd Ack false known
by_row P r SynRcvd Rstack true true = r.resets SynRcvd Rstack true true
by_row P r SynRcvd Rstack true false = r.quiet SynRcvd Rstack true false
by_row P r SynRcvd Rstack false known = r.quiet SynRcvd Rstack false known
by_row P r Estab Syn meant known = r.confirms Syn meant known
by_row P r Estab Synack meant known = r.confirms Synack meant known
by_row P r Estab Ack true true = r.hears_good
by_row P r Estab Ack true false = r.denies Estab Ack true false
by_row P r Estab Ack false known = r.denies Estab Ack false known
by_row P r Estab Rstack true true = r.resets Estab Rstack true true
by_row P r Estab Rstack true false = r.quiet Estab Rstack true false
by_row P r Estab Rstack false known = r.quiet Estab Rstack false known
