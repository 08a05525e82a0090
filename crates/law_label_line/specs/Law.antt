-- the law of one label on one link: who may use the label, and under which flow

use Rattle.std.specs.Prelude.{◌≡◌, ℕ, ◌<◌, ◌≤◌, Bool, true, List, [], ◌++◌}
use Rattle.net_types.specs.declared.adjacency.HelloKind.TheVariants.{Synack, Ack}
use Rattle.adjacency_table.specs.declared.State.TheVariants.{Estab}
use Rattle.ordered_lists.specs.Ordered.{Every, InOrder}
use Rattle.law_label_line.specs.Cells.{Upstream, Hello, Cell, Labelled, Default, Redirect, Reclaim, ReclaimAck, Other, cells}
use Rattle.law_label_line.specs.Line.{Label, Spare, Wiring, Offered, Recalled, Wired, Grant, NoGrant, Idle, ByController, ByInput, Leaving, Line, start}
use Rattle.law_label_line.specs.Moves.{Move, run}

-- P holds after every list of moves, whatever instances the two ends began with
abbrev pub Always : (Line → Type 0) → Type 0
Always P =
    (downstream upstream fresh : ℕ) → downstream < fresh → upstream < fresh
    → (moves : List Move) → P (run (start downstream upstream fresh) moves)

-- a line that moves lead to
pub record IsReached (line : Line) : Type 0 where
  pub downstream : ℕ
  pub upstream : ℕ
  pub fresh : ℕ
  pub downstream_drawn : downstream < fresh
  pub upstream_drawn : upstream < fresh
  pub moves : List Move
  pub is : run (start downstream upstream fresh) moves ≡ line

-- the downstream end's pool is open
abbrev pub IsOpen : Line → Type 0
IsOpen line = line.downstream.state ≡ Estab

-- all cells on the link, both ways
abbrev pub on_the_way : Line → List Cell
on_the_way line = cells line.to_downstream ++ cells line.to_upstream

-- (a) where the pool is open and the label is spare or wired, nobody uses it: no cell of it and no
-- cell of a REDIRECT of it is on the way, none was reassembled, and there is no grant of it, so that
-- neither the upstream controller nor a join at its switch can send another
abbrev pub IsSpareOrWired : Label → Type 0
IsSpareOrWired Spare = Unit {0}
IsSpareOrWired (Wiring flow) = Unit {0}
IsSpareOrWired Offered = ⊥
IsSpareOrWired (Recalled last acknowledged) = ⊥
IsSpareOrWired Wired = Unit {0}

abbrev pub IsNoUser : Cell → Type 0
IsNoUser (Labelled flow) = ⊥
IsNoUser (Default last (Redirect sender receiver number flow)) = ⊥
IsNoUser (Default last message) = Unit {0}

pub record HasNoUser (line : Line) : Type 0 where
  pub none_sent : Every IsNoUser (on_the_way line)
  pub none_reassembled : line.reassembly ≡ []
  pub no_grant : line.grant ≡ NoGrant

abbrev pub SpareIsUnused : Line → Type 0
SpareIsUnused line = IsOpen line → IsSpareOrWired line.label → HasNoUser line

-- (b) where the pool is open and the label isn't recalled, no cell of a RECLAIM or of a RECLAIM ACK
-- of it is on the way, and no RECLAIM ACK is owed
abbrev pub IsNotRecalled : Label → Type 0
IsNotRecalled (Recalled last acknowledged) = ⊥
IsNotRecalled label = Unit {0}

abbrev pub IsNoReclaim : Cell → Type 0
IsNoReclaim (Default last (Reclaim sender receiver number flow)) = ⊥
IsNoReclaim (Default last (ReclaimAck sender receiver flow)) = ⊥
IsNoReclaim cell = Unit {0}

abbrev pub OwesNothing : Grant → Type 0
OwesNothing (Leaving flow true) = ⊥
OwesNothing grant = Unit {0}

pub record HasNoReclaim (line : Line) : Type 0 where
  pub none_sent : Every IsNoReclaim (on_the_way line)
  pub none_owed : OwesNothing line.grant

abbrev pub OnlyRecalledIsReclaimed : Line → Type 0
OnlyRecalledIsReclaimed line = IsOpen line → IsNotRecalled line.label → HasNoReclaim line

-- (c) always, also while the pool is closed: each cell of the label, each REDIRECT and RECLAIM of it
-- and its grant have the flow to which the label was bound last, which is the flow that it is bound
-- to while it is Offered or Recalled
abbrev pub IsOfFlow : ℕ → Cell → Type 0
IsOfFlow flow (Labelled sent) = sent ≡ flow
IsOfFlow flow (Default last (Redirect sender receiver number redirected)) = redirected ≡ flow
IsOfFlow flow (Default last (Reclaim sender receiver number reclaimed)) = reclaimed ≡ flow
IsOfFlow flow (Default last message) = Unit {0}

abbrev pub IsGrantOf : ℕ → Grant → Type 0
IsGrantOf flow NoGrant = Unit {0}
IsGrantOf flow (Idle granted) = granted ≡ flow
IsGrantOf flow (ByController granted) = granted ≡ flow
IsGrantOf flow (ByInput granted) = granted ≡ flow
IsGrantOf flow (Leaving granted owed) = granted ≡ flow

pub record UsersHaveItsFlow (line : Line) : Type 0 where
  pub sent : Every (IsOfFlow line.flow) (on_the_way line)
  pub reassembled : Every (λ sent. sent ≡ line.flow) line.reassembly
  pub granted : IsGrantOf line.flow line.grant

-- (d) where an end is in Estab, the instance that it stored is one under which its peer's port was
-- cleared: after the peer drew it, and before it drew another
pub record PeersWereCleared (line : Line) : Type 0 where
  pub of_downstream : line.downstream.state ≡ Estab → line.upstream_cleared line.downstream.stored ≡ true
  pub of_upstream : line.upstream.state ≡ Estab → line.downstream_cleared line.upstream.stored ≡ true

-- (e) the redirection messages of the downstream end are in the order of their numbers. What is asked of one, by its cell,
-- its instances and its number
abbrev pub IfNumbered : ((last : Bool) → (sender receiver number : ℕ) → Type 0) → Cell → Type 0
IfNumbered Asked (Default last (Redirect sender receiver number flow)) = Asked last sender receiver number
IfNumbered Asked (Default last (Reclaim sender receiver number flow)) = Asked last sender receiver number
IfNumbered Asked (Default last (Other sender receiver number)) = Asked last sender receiver number
IfNumbered Asked cell = Unit {0}

-- a later one under the same instance has no lesser number, and a greater one where it is of a later frame
abbrev pub IsAbove : (last : Bool) → (sender number : ℕ) → Cell → Type 0
IsAbove last sender number later =
    IfNumbered (λ whole by to other. by ≡ sender → (number ≤ other) × (last ≡ true → number < other)) later

abbrev pub Rises : (earlier later : Cell) → Type 0
Rises earlier later = IfNumbered (λ last sender receiver number. IsAbove last sender number later) earlier

-- one between these instances has no lesser number than this
abbrev pub IsFrom : (sender receiver least : ℕ) → Cell → Type 0
IsFrom sender receiver least cell =
    IfNumbered (λ last by to number. by ≡ sender → to ≡ receiver → least ≤ number) cell

-- nor than an ACK of the upstream end says, whose instances these are
abbrev pub IsFromSaid : (ack cell : Cell) → Type 0
IsFromSaid (Default last (Hello Upstream Ack sender receiver next)) cell = IsFrom receiver sender next cell
IsFromSaid ack cell = Unit {0}

pub record NumbersAreInOrder (line : Line) : Type 0 where
  -- they rise, from what is taken next to what was sent last
  pub rise : InOrder Rises (cells line.to_upstream)
  -- what an upstream end in Estab expects, what is known of that where the pool is open, and what an ACK on the way says of it
  pub expected : line.upstream.state ≡ Estab
      → Every (IsFrom line.upstream.stored line.upstream.own line.expected) (cells line.to_upstream)
  pub known : IsOpen line → Every (IsFrom line.downstream.own line.downstream.stored line.known) (cells line.to_upstream)
  pub said : Every (λ ack. Every (IsFromSaid ack) (cells line.to_upstream)) (cells line.to_downstream)

-- (f) while the pool is closed, no cell of the label stands behind a SYNACK or an ACK of the upstream end that names the
-- instance which the downstream end has, and so could open the pool: what was sent under the label before, stands before it
abbrev pub Leads : (own : ℕ) → (earlier later : Cell) → Type 0
Leads own (Default last (Hello Upstream Synack sender receiver next)) (Labelled flow) = receiver ≡ own → ⊥
Leads own (Default last (Hello Upstream Ack sender receiver next)) (Labelled flow) = receiver ≡ own → ⊥
Leads own earlier later = Unit {0}

abbrev pub OldCellsLead : Line → Type 0
OldCellsLead line = (IsOpen line → ⊥) → InOrder (Leads line.downstream.own) (cells line.to_downstream)
