-- the line as one list, from what the downstream end takes next to what it sent last, and what is
-- kept of a line by every move

use Rattle.std.proofs.Common.{◌≡◌, ℕ, ◌<◌, ◌≤◌, Bool, true, false, List, [], ◌∷◌, ◌++◌, append_assoc, subst, sym}
use Rattle.std.proofs.lemmas.List.{append-nil}
use Rattle.adjacency_table.specs.declared.State.{State}
use Rattle.adjacency_table.specs.declared.State.TheVariants.{Clearing, SynSent, SynRcvd, Estab}
use Rattle.adjacency_table.specs.Instances.{SideByInstances}
use Rattle.ordered_lists.specs.Ordered.{Every}
use Rattle.ordered_lists.proofs.Exchange.{exchange_block, exchange_tail}
use Rattle.law_label_line.specs.Cells.{Message, ReclaimAck, Cell, Labelled, Default, Way, cells, frame, put}
use Rattle.law_label_line.specs.Line.{Label, Spare, Wiring, Offered, Recalled, Wired, Grant, NoGrant, Idle, ByController, ByInput, Leaving, Line}
use Rattle.law_label_line.proofs.Tables.{last_of, up_silent, up_syn, up_synack, up_ack, Binding, Closed, Unused, InOffer, InRecall, Side, Fits, Before, Good, Changes, ChangesTail}
use Rattle.law_label_line.proofs.UpstreamFacts.{first_cell}

-- the message that the upstream end may say now
abbrev pub standing : State → (own stored expected : ℕ) → Cell
standing Clearing own stored expected = up_silent
standing SynSent own stored expected = up_syn own
standing SynRcvd own stored expected = up_synack own stored expected
standing Estab own stored expected = up_ack own stored expected

-- what a grant lets it send: a cell of the label, and the RECLAIM ACK that it owes
abbrev pub granted : Grant → (own stored : ℕ) → List Cell
granted NoGrant own stored = []
granted (Idle flow) own stored = Labelled flow ∷ []
granted (ByController flow) own stored = Labelled flow ∷ []
granted (ByInput flow) own stored = Labelled flow ∷ []
granted (Leaving flow false) own stored = Labelled flow ∷ []
granted (Leaving flow true) own stored = Labelled flow ∷ last_of (ReclaimAck own stored flow) ∷ []

abbrev pub hello_of : Line → Cell
hello_of line = standing line.upstream.state line.upstream.own line.upstream.stored line.expected

abbrev pub grant_of : Line → List Cell
grant_of line = granted line.grant line.upstream.own line.upstream.stored

-- the hello and the grant stand between the two ways
abbrev pub trip : Line → List Cell
trip line = cells line.to_downstream ++ (hello_of line ∷ (grant_of line ++ cells line.to_upstream))

-- what the downstream end makes of the label
abbrev pub made_of : Label → Binding
made_of Spare = Unused
made_of (Wiring flow) = Unused
made_of Offered = InOffer
made_of (Recalled last acknowledged) = InRecall last acknowledged
made_of Wired = Unused

abbrev pub binding_of : State → Label → Binding
binding_of Clearing label = Closed
binding_of SynSent label = Closed
binding_of SynRcvd label = Closed
binding_of Estab label = made_of label

abbrev pub side_of : Line → (late : Bool) → Side
side_of line late = record {
  own = line.downstream.own;
  peer = line.downstream.stored;
  number = line.number;
  known = line.known;
  flow = line.flow;
  binding = binding_of line.downstream.state line.label;
  late = late;
  down = line.downstream_cleared;
  up = line.upstream_cleared;
}

-- the instances that the downstream end may name were cleared
abbrev pub Names : State → SideByInstances → (down up : ℕ → Bool) → Type 0
Names Clearing end down up = Unit {0}
Names SynSent end down up = down end.own ≡ true
Names SynRcvd end down up = (down end.own ≡ true) × (up end.stored ≡ true)
Names Estab end down up = (down end.own ≡ true) × (up end.stored ≡ true)

-- a closed pool has no label
abbrev pub LabelFits : State → Label → Type 0
LabelFits Clearing label = label ≡ Spare
LabelFits SynSent label = label ≡ Spare
LabelFits SynRcvd label = label ≡ Spare
LabelFits Estab label = Unit {0}

-- only cells of its flow are reassembled, and only while the label is bound
abbrev pub ReassemblyFits : Binding → (flow : ℕ) → List ℕ → Type 0
ReassemblyFits Closed flow taken = taken ≡ []
ReassemblyFits Unused flow taken = taken ≡ []
ReassemblyFits InOffer flow taken = Every (λ sent. sent ≡ flow) taken
ReassemblyFits (InRecall last acknowledged) flow taken = Every (λ sent. sent ≡ flow) taken

-- what is kept at the downstream end
pub record EndFits (end : SideByInstances) (down up : ℕ → Bool) (fresh number known : ℕ) (label : Label) (flow : ℕ)
    (reassembly : List ℕ) : Type 0 where
  pub drawn : end.own < fresh
  pub positive : 1 ≤ number
  pub told : known ≤ number
  pub names : Names end.state end down up
  pub label_fits : LabelFits end.state label
  pub reassembled : ReassemblyFits (binding_of end.state label) flow reassembly

-- a grant stands in Estab, or waits in Clearing until its join is released
abbrev pub GrantFits : State → Grant → Type 0
GrantFits Estab grant = Unit {0}
GrantFits state NoGrant = Unit {0}
GrantFits Clearing (Leaving flow false) = Unit {0}
GrantFits state grant = ⊥

pub record IsKept (line : Line) : Type 0 where
  pub late : Bool
  pub good : Good (side_of line late) (trip line)
  pub end : EndFits line.downstream line.downstream_cleared line.upstream_cleared line.fresh line.number line.known
      line.label line.flow line.reassembly
  pub grant : GrantFits line.upstream.state line.grant

-- a message's first cell joins its last
pub framed : (a : Side) (m : Message) (front rest : List Cell) → Good a (front ++ (last_of m ∷ rest))
    → Good a (front ++ (Default false m ∷ last_of m ∷ rest))
framed a m front rest h = exchange_block (Fits a) (Fits a) (Before a) (Before a) front (last_of m ∷ []) rest
    (Default false m ∷ last_of m ∷ []) (first_cell a m) h

cells_put : (way : Way) (new : List Cell) → cells (put way new) ≡ cells way ++ new
cells_put way new = simp append_assoc

-- what stands at the upstream end changes
pub turned_up : (a b : Side) (way : Way) (ys xs rest : List Cell) → Changes a b ys xs
    → Good a (cells way ++ (ys ++ rest)) → Good b (cells way ++ (xs ++ rest))
turned_up a b way ys xs rest f h = exchange_block (Fits a) (Fits b) (Before a) (Before b) (cells way) ys rest xs f h

-- and it sends a message
pub sent_up : (a b : Side) (way : Way) (m : Message) (ys xs rest : List Cell) → Changes a b ys (last_of m ∷ xs)
    → Good a (cells way ++ (ys ++ rest)) → Good b (cells (put way (frame m)) ++ (xs ++ rest))
sent_up a b way m ys xs rest f h =
    let k : Good b (cells way ++ (frame m ++ (xs ++ rest))) = turned_up a b way ys (last_of m ∷ xs) rest f h in
    let j : Good b ((cells way ++ frame m) ++ (xs ++ rest)) = subst (λ (z : List Cell). Good b z)
    (sym (append_assoc (cells way) (frame m) (xs ++ rest))) k in
    subst (λ (z : List Cell). Good b (z ++ (xs ++ rest))) (sym (cells_put way (frame m))) j

tail_put : (front : List Cell) (hello : Cell) (grant : List Cell) (way : Way) (new : List Cell)
    → (front ++ (hello ∷ (grant ++ cells way))) ++ new ≡ front ++ (hello ∷ (grant ++ cells (put way new)))
tail_put front hello grant way new = simp append_assoc

-- the downstream end sends a message
pub sent_down : (a b : Side) (line : Line) (m : Message) → ChangesTail a b [] (last_of m ∷ [])
    → Good a (trip line) → Good b (trip (record line { to_upstream = put line.to_upstream (frame m) }))
sent_down a b line m f h =
    let k : Good b (trip line ++ (last_of m ∷ [])) = exchange_tail (Fits a) (Fits b) (Before a) (Before b)
    (trip line) [] (last_of m ∷ []) f (subst (λ (z : List Cell). Good a z) (sym (append-nil (trip line))) h) in
    subst (λ (z : List Cell). Good b z)
    (tail_put (cells line.to_downstream) (hello_of line) (grant_of line) line.to_upstream (frame m))
    k

-- the line with another state at the downstream end, at the upstream end, and with another chain
abbrev pub down_at : Line → State → (stored : ℕ) → Label → Line
down_at line state stored label = record line
    { downstream = record (line.downstream) { state = state; stored = stored }; label = label }

abbrev pub up_at : Line → State → (stored expected : ℕ) → Grant → Line
up_at line state stored expected grant = record line
    { upstream = record (line.upstream) { state = state; stored = stored }; expected = expected; grant = grant }

abbrev pub chain_down : Line → List Cell → Line
chain_down line chain = record line { to_downstream = record (line.to_downstream) { chain = chain } }

abbrev pub chain_up : Line → List Cell → Line
chain_up line chain = record line { to_upstream = record (line.to_upstream) { chain = chain } }
