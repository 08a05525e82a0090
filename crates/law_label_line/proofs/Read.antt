-- what the law says of a line that is kept

use Rattle.std.proofs.Common.{◌≡◌, ℕ, Bool, true, false, List, [], ◌∷◌, ◌++◌, refl, arith}
use Rattle.adjacency_table.specs.declared.State.{State}
use Rattle.adjacency_table.specs.declared.State.TheVariants.{Clearing, SynSent, SynRcvd, Estab}
use Rattle.adjacency_table.specs.Instances.{SideByInstances}
use Rattle.ordered_lists.specs.Ordered.{Every}
use Rattle.ordered_lists.proofs.Every.{every_left, every_right, every_join, every_map}
use Rattle.law_label_line.specs.Cells.{ReclaimAck, Cell, Labelled, cells}
use Rattle.law_label_line.specs.Line.{Label, Spare, Wiring, Offered, Recalled, Wired, Grant, NoGrant, Idle, ByController, ByInput, Leaving, Line, start}
use Rattle.law_label_line.specs.Moves.{run}
use Rattle.law_label_line.specs.Law.{Always, IsOpen, on_the_way, IsSpareOrWired, IsNoUser, HasNoUser, IsNotRecalled, IsNoReclaim, OwesNothing, HasNoReclaim, IsOfFlow, IsGrantOf, UsersHaveItsFlow, PeersWereCleared}
use Rattle.law_label_line.proofs.Tables.{last_of, Binding, Closed, Unused, InOffer, InRecall, Side, Fits}
use Rattle.law_label_line.proofs.Trip.{standing, granted, hello_of, grant_of, trip, binding_of, side_of, Names, ReassemblyFits, IsKept}
use Rattle.law_label_line.proofs.Steps.{run_keeps, start_keeps}

-- what holds of the whole line holds of both ways, and of what stands between them
pub behind : (P : Cell → Type 0) (line : Line) → Every P (trip line)
    → Every P (hello_of line ∷ (grant_of line ++ cells line.to_upstream))
behind P line h = every_right P (cells line.to_downstream)
    (hello_of line ∷ (grant_of line ++ cells line.to_upstream)) h

on_both : (P Q : Cell → Type 0) (line : Line) → ((z : Cell) → P z → Q z) → Every P (trip line)
    → Every Q (on_the_way line)
on_both P Q line f h = every_join Q (cells line.to_downstream) (cells line.to_upstream) (every_map P Q
    (cells line.to_downstream) f
    (every_left P (cells line.to_downstream) (hello_of line ∷ (grant_of line ++ cells line.to_upstream)) h))
    (every_map P Q (cells line.to_upstream) f
    (every_right P (grant_of line) (cells line.to_upstream) (behind P line h).1))

of_grant : (P : Cell → Type 0) (line : Line) → Every P (trip line) → Every P (grant_of line)
of_grant P line h = every_left P (grant_of line) (cells line.to_upstream) (behind P line h).1

-- (a) a label that is spare or wired has no user
unused_fits : (a : Side) → a.binding ≡ Unused → (z : Cell) → Fits a z → IsNoUser z
unused_fits a is z h = grind arith

no_labelled : (P : Cell → Type 0) (grant : Grant) (u x : ℕ) → ((z : Cell) → P z → IsNoUser z)
    → Every P (granted grant u x) → grant ≡ NoGrant
no_labelled P NoGrant u x f h = refl
no_labelled P (Idle flow) u x f h = absurd (f (Labelled flow) h.0)
no_labelled P (ByController flow) u x f h = absurd (f (Labelled flow) h.0)
no_labelled P (ByInput flow) u x f h = absurd (f (Labelled flow) h.0)
no_labelled P (Leaving flow false) u x f h = absurd (f (Labelled flow) h.0)
no_labelled P (Leaving flow true) u x f h = absurd (f (Labelled flow) h.0)

none_reassembled : (binding : Binding) (flow : ℕ) (taken : List ℕ) → binding ≡ Unused
    → ReassemblyFits binding flow taken → taken ≡ []
none_reassembled Closed flow taken is h = h
none_reassembled Unused flow taken is h = h
none_reassembled InOffer flow taken is h = absurd cc
none_reassembled (InRecall last acknowledged) flow taken is h = absurd cc

spare_binding : (state : State) (label : Label) → state ≡ Estab → IsSpareOrWired label
    → binding_of state label ≡ Unused
spare_binding Clearing label estab spare = absurd cc
spare_binding SynSent label estab spare = absurd cc
spare_binding SynRcvd label estab spare = absurd cc
spare_binding Estab Spare estab spare = refl
spare_binding Estab (Wiring flow) estab spare = refl
spare_binding Estab Offered estab spare = absurd spare
spare_binding Estab (Recalled last acknowledged) estab spare = absurd spare
spare_binding Estab Wired estab spare = refl

pub spare_is_unused : (line : Line) → IsKept line → IsOpen line → IsSpareOrWired line.label → HasNoUser line
spare_is_unused line k estab spare =
    let a : Side = side_of line k.late in
    let is : binding_of line.downstream.state line.label ≡ Unused = spare_binding line.downstream.state line.label
    estab spare in
    record {
      none_sent = on_both (Fits a) IsNoUser line (unused_fits a is) k.good.each;
      none_reassembled = none_reassembled (binding_of line.downstream.state line.label) line.flow line.reassembly is
          k.end.reassembled;
      no_grant = no_labelled (Fits a) line.grant line.upstream.own line.upstream.stored (unused_fits a is)
          (of_grant (Fits a) line k.good.each);
    }

-- (b) only a recalled label is reclaimed
abbrev IsUnreclaimed : Binding → Type 0
IsUnreclaimed Closed = ⊥
IsUnreclaimed Unused = Unit {0}
IsUnreclaimed InOffer = Unit {0}
IsUnreclaimed (InRecall last acknowledged) = ⊥

no_reclaim_fits : (a : Side) → IsUnreclaimed a.binding → (z : Cell) → Fits a z → IsNoReclaim z
no_reclaim_fits a is z h = grind arith

none_owed : (P : Cell → Type 0) (grant : Grant) (u x : ℕ) → ((z : Cell) → P z → IsNoReclaim z)
    → Every P (granted grant u x) → OwesNothing grant
none_owed P (Leaving flow true) u x f h = f (last_of (ReclaimAck u x flow)) h.1.0
none_owed P (Leaving flow false) u x f h = tt
none_owed P NoGrant u x f h = tt
none_owed P (Idle flow) u x f h = tt
none_owed P (ByController flow) u x f h = tt
none_owed P (ByInput flow) u x f h = tt

unreclaimed_binding : (state : State) (label : Label) → state ≡ Estab → IsNotRecalled label
    → IsUnreclaimed (binding_of state label)
unreclaimed_binding Clearing label estab right = absurd cc
unreclaimed_binding SynSent label estab right = absurd cc
unreclaimed_binding SynRcvd label estab right = absurd cc
unreclaimed_binding Estab Spare estab right = tt
unreclaimed_binding Estab (Wiring flow) estab right = tt
unreclaimed_binding Estab Offered estab right = tt
unreclaimed_binding Estab (Recalled last acknowledged) estab right = right
unreclaimed_binding Estab Wired estab right = tt

pub only_recalled : (line : Line) → IsKept line → IsOpen line → IsNotRecalled line.label → HasNoReclaim line
only_recalled line k estab right =
    let a : Side = side_of line k.late in
    let is : IsUnreclaimed (binding_of line.downstream.state line.label) = unreclaimed_binding line.downstream.state
    line.label estab right in
    record {
      none_sent = on_both (Fits a) IsNoReclaim line (no_reclaim_fits a is) k.good.each;
      none_owed = none_owed (Fits a) line.grant line.upstream.own line.upstream.stored (no_reclaim_fits a is)
          (of_grant (Fits a) line k.good.each);
    }

-- (c) users have the label's flow
flow_fits : (a : Side) (z : Cell) → Fits a z → IsOfFlow a.flow z
flow_fits a z h = grind arith

grant_flow : (a : Side) (grant : Grant) (u x : ℕ) → Every (Fits a) (granted grant u x) → IsGrantOf a.flow grant
grant_flow a NoGrant u x h = tt
grant_flow a (Idle flow) u x h = h.0.0
grant_flow a (ByController flow) u x h = h.0.0
grant_flow a (ByInput flow) u x h = h.0.0
grant_flow a (Leaving flow false) u x h = h.0.0
grant_flow a (Leaving flow true) u x h = h.0.0

reassembled_flow : (binding : Binding) (flow : ℕ) (taken : List ℕ) → ReassemblyFits binding flow taken
    → Every (λ sent. sent ≡ flow) taken
reassembled_flow Closed flow taken h = rw h tt
reassembled_flow Unused flow taken h = rw h tt
reassembled_flow InOffer flow taken h = h
reassembled_flow (InRecall last acknowledged) flow taken h = h

pub users_flow : (line : Line) → IsKept line → UsersHaveItsFlow line
users_flow line k =
    let a : Side = side_of line k.late in
    record {
      sent = on_both (Fits a) (IsOfFlow line.flow) line (flow_fits a) k.good.each;
      reassembled = reassembled_flow (binding_of line.downstream.state line.label) line.flow line.reassembly
          k.end.reassembled;
      granted = grant_flow a line.grant line.upstream.own line.upstream.stored (of_grant (Fits a) line k.good.each);
    }

-- (d) peers were cleared
stored_down : (state : State) (end : SideByInstances) (down up : ℕ → Bool) → state ≡ Estab
    → Names state end down up → up end.stored ≡ true
stored_down Clearing end down up estab h = absurd cc
stored_down SynSent end down up estab h = absurd cc
stored_down SynRcvd end down up estab h = absurd cc
stored_down Estab end down up estab h = h.1

stored_up : (a : Side) (state : State) (u x e : ℕ) → state ≡ Estab → Fits a (standing state u x e)
    → a.down x ≡ true
stored_up a Clearing u x e estab h = absurd cc
stored_up a SynSent u x e estab h = absurd cc
stored_up a SynRcvd u x e estab h = absurd cc
stored_up a Estab u x e estab h = h.1

pub peers_cleared : (line : Line) → IsKept line → PeersWereCleared line
peers_cleared line k =
    let a : Side = side_of line k.late in
    record {
      of_downstream = λ estab. stored_down line.downstream.state line.downstream line.downstream_cleared
          line.upstream_cleared estab k.end.names;
      of_upstream = λ estab. stored_up a line.upstream.state line.upstream.own line.upstream.stored
          line.expected estab (behind (Fits a) line k.good.each).0;
    }

-- and so of every line that moves lead to
pub reached : (P : Line → Type 0) → ((line : Line) → IsKept line → P line) → Always P
reached P f downstream upstream fresh drawn also moves = f (run (start downstream upstream fresh) moves)
    (run_keeps (start downstream upstream fresh) moves (start_keeps downstream upstream fresh drawn))
