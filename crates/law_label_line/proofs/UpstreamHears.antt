-- what the upstream end makes of an adjacency message keeps the line

use Rattle.std.proofs.Common.{◌≡◌, ℕ, Bool, true, List, [], ◌∷◌, refl}
use Rattle.std.specs.Prelude.{nat_eq}
use Rattle.net_types.specs.declared.adjacency.HelloKind.{HelloKind}
use Rattle.net_types.specs.declared.adjacency.HelloKind.TheVariants.{Syn, Synack, Rstack, Ack}
use Rattle.adjacency_table.specs.declared.State.{State}
use Rattle.adjacency_table.specs.declared.State.TheVariants.{Clearing, SynSent, SynRcvd, Estab}
use Rattle.adjacency_table.specs.Table.{Silent, Says, Resets, Row, stays, stores_and, enters_by_synack, enters_by_ack}
use Rattle.adjacency_table.specs.Instances.{row_for}
use Rattle.adjacency_table.proofs.Rows.{Rows, by_row}
use Rattle.law_label_line.specs.Cells.{Downstream, Hello, Cell, cells}
use Rattle.law_label_line.specs.Line.{Grant, NoGrant, Idle, ByController, ByInput, Leaving, Line}
use Rattle.law_label_line.specs.Upstream.{greeted_upstream}
use Rattle.law_label_line.proofs.Tables.{last_of, Changes}
use Rattle.law_label_line.proofs.UpstreamFacts.{stores_first, stores_next, enters_first, enters_next, enters_confirmed}
use Rattle.law_label_line.proofs.Trip.{standing, side_of, GrantFits, IsKept, turned_up, up_at, chain_up}
use Rattle.law_label_line.proofs.WaySteps.{dropped_up}
use Rattle.law_label_line.proofs.UpstreamSteps.{synack_up, ack_up, denies_up, reset_up}

-- the upstream end stored x and expects e; a message of sender s for receiver r stands at the front
-- of its chain
module _ (line : Line) (x e : ℕ) (rest : List Cell) (s r n drawn : ℕ) where
  -- what follows for a kind of row
  abbrev Greeted : Grant → State → HelloKind → Bool → Bool → Row → Type 0
  Greeted grant state kind meant known row = nat_eq r line.upstream.own ≡ meant → nat_eq s x ≡ known → IsKept
      (chain_up (up_at line state x e grant) (last_of (Hello Downstream kind s r n) ∷ rest)) → IsKept
      (greeted_upstream (chain_up (up_at line state x e grant) rest) row s r drawn)

  dropped : (grant : Grant) (state : State) (kind : HelloKind)
      → IsKept (chain_up (up_at line state x e grant) (last_of (Hello Downstream kind s r n) ∷ rest))
      → IsKept (chain_up (up_at line state x e grant) rest)
  dropped grant state kind k = dropped_up (up_at line state x e grant) (last_of (Hello Downstream kind s r n)) rest
      k

  quiet : (grant : Grant) (state : State) (kind : HelloKind) (meant known : Bool)
      → Greeted grant state kind meant known (stays state Silent)
  quiet grant Clearing kind meant known t v k = dropped grant Clearing kind k
  quiet grant SynSent kind meant known t v k = dropped grant SynSent kind k
  quiet grant SynRcvd kind meant known t v k = dropped grant SynRcvd kind k
  quiet grant Estab kind meant known t v k = dropped grant Estab kind k

  denied : (grant : Grant) (state : State) (kind : HelloKind) (meant known : Bool)
      → Greeted grant state kind meant known (stays state (Says Rstack))
  denied grant Clearing kind meant known t v k = denies_up (chain_up (up_at line Clearing x e grant) rest) s r
      (dropped grant Clearing kind k)
  denied grant SynSent kind meant known t v k = denies_up (chain_up (up_at line SynSent x e grant) rest) s r
      (dropped grant SynSent kind k)
  denied grant SynRcvd kind meant known t v k = denies_up (chain_up (up_at line SynRcvd x e grant) rest) s r
      (dropped grant SynRcvd kind k)
  denied grant Estab kind meant known t v k = denies_up (chain_up (up_at line Estab x e grant) rest) s r
      (dropped grant Estab kind k)

  confirmed : (grant : Grant) (kind : HelloKind) (meant known : Bool)
      → Greeted grant Estab kind meant known (stays Estab (Says Ack))
  confirmed grant kind meant known t v k = ack_up (chain_up line rest) x e grant (dropped grant Estab kind k)

  -- the end goes on to another state without a grant
  moved : (state state' : State) (kind : HelloKind) (stored expected : ℕ)
      → (k : IsKept (chain_up (up_at line state x e NoGrant) (last_of (Hello Downstream kind s r n) ∷ rest)))
      → Changes (side_of line k.late) (side_of line k.late)
      (standing state line.upstream.own x e ∷ last_of (Hello Downstream kind s r n) ∷ [])
      (standing state' line.upstream.own stored expected ∷ [])
      → GrantFits state' NoGrant → IsKept (chain_up (up_at line state' stored expected NoGrant) rest)
  moved state state' kind stored expected k f fits = record {
    late = k.late;
    good = turned_up (side_of line k.late) (side_of line k.late) line.to_downstream
        (standing state line.upstream.own x e ∷ last_of (Hello Downstream kind s r n) ∷ [])
        (standing state' line.upstream.own stored expected ∷ []) (cells (chain_up line rest).to_upstream) f k.good;
    end = k.end;
    grant = fits;
  }

  stored_first : (grant : Grant) (meant known : Bool)
      → Greeted grant SynSent Syn meant known (stores_and SynRcvd Synack)
  stored_first NoGrant meant known t v k = synack_up (chain_up line rest) s e NoGrant
      (moved SynSent SynRcvd Syn s e k (stores_first (side_of line k.late) line.upstream.own e s r n) tt)
  stored_first (Idle flow) meant known t v k = absurd k.grant
  stored_first (ByController flow) meant known t v k = absurd k.grant
  stored_first (ByInput flow) meant known t v k = absurd k.grant
  stored_first (Leaving flow owed) meant known t v k = absurd k.grant

  stored_next : (grant : Grant) (meant known : Bool)
      → Greeted grant SynRcvd Syn meant known (stores_and SynRcvd Synack)
  stored_next NoGrant meant known t v k = synack_up (chain_up line rest) s e NoGrant
      (moved SynRcvd SynRcvd Syn s e k (stores_next (side_of line k.late) line.upstream.own x e s r n) tt)
  stored_next (Idle flow) meant known t v k = absurd k.grant
  stored_next (ByController flow) meant known t v k = absurd k.grant
  stored_next (ByInput flow) meant known t v k = absurd k.grant
  stored_next (Leaving flow owed) meant known t v k = absurd k.grant

  entered_first : (grant : Grant) (known : Bool) → Greeted grant SynSent Synack true known enters_by_synack
  entered_first NoGrant known t v k = ack_up (chain_up line rest) s 1 NoGrant (moved SynSent Estab Synack s 1 k
      (enters_first (side_of line k.late) line.upstream.own s r n k.end.positive) tt)
  entered_first (Idle flow) known t v k = absurd k.grant
  entered_first (ByController flow) known t v k = absurd k.grant
  entered_first (ByInput flow) known t v k = absurd k.grant
  entered_first (Leaving flow owed) known t v k = absurd k.grant

  entered_next : (grant : Grant) (known : Bool) → Greeted grant SynRcvd Synack true known enters_by_synack
  entered_next NoGrant known t v k = ack_up (chain_up line rest) s 1 NoGrant (moved SynRcvd Estab Synack s 1 k
      (enters_next (side_of line k.late) line.upstream.own x e s r n k.end.positive) tt)
  entered_next (Idle flow) known t v k = absurd k.grant
  entered_next (ByController flow) known t v k = absurd k.grant
  entered_next (ByInput flow) known t v k = absurd k.grant
  entered_next (Leaving flow owed) known t v k = absurd k.grant

  entered_confirmed : (grant : Grant) → Greeted grant SynRcvd Ack true true enters_by_ack
  entered_confirmed NoGrant t v k = moved SynRcvd Estab Ack x 1 k
      (enters_confirmed (side_of line k.late) line.upstream.own x e s r n k.end.positive) tt
  entered_confirmed (Idle flow) t v k = absurd k.grant
  entered_confirmed (ByController flow) t v k = absurd k.grant
  entered_confirmed (ByInput flow) t v k = absurd k.grant
  entered_confirmed (Leaving flow owed) t v k = absurd k.grant

  heard_good : (grant : Grant) → Greeted grant Estab Ack true true enters_by_ack
  heard_good grant t v k = dropped grant Estab Ack k

  reset : (grant : Grant) (state : State) (kind : HelloKind) (meant known : Bool)
      → Greeted grant state kind meant known (stays state Resets)
  reset grant state kind meant known t v k = reset_up (chain_up (up_at line state x e grant) rest) drawn
      (dropped grant state kind k)

  rows : (grant : Grant) → Rows (Greeted grant)
  rows grant = record {
    quiet = quiet grant;
    denies = denied grant;
    confirms = confirmed grant;
    stores_first = stored_first grant;
    stores_next = stored_next grant;
    enters_first = entered_first grant;
    enters_next = entered_next grant;
    enters_confirmed = entered_confirmed grant;
    hears_good = heard_good grant;
    resets = reset grant;
  }

  pub greeted_up : (state : State) (grant : Grant) (kind : HelloKind)
      → IsKept (chain_up (up_at line state x e grant) (last_of (Hello Downstream kind s r n) ∷ rest))
      → IsKept (greeted_upstream (chain_up (up_at line state x e grant) rest)
      (row_for (up_at line state x e grant).upstream kind s r) s r drawn)
  greeted_up state grant kind k = by_row (Greeted grant) (rows grant) state kind (nat_eq r line.upstream.own)
      (nat_eq s x) refl refl k
