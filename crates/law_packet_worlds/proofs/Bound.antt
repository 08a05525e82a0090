-- the flow that a label was bound to last, behind more records

use Rattle.std.proofs.Common.{◌≡◌, ◌⊎◌, inl, inr, ℕ, zero, suc, ◌<◌, ◌+◌, ◌==◌, ◌&&◌, Bool, true, false, List, [], ◌∷◌, ◌++◌, length, None, Some, refl, ◌∙◌, ap, arith, if◌then◌else◌}
use Rattle.std.specs.Prelude.{Contains, slice_get}
use Rattle.std.specs.List.{list_any, count_by}
use Rattle.std.specs.Option.{option_or}
use Rattle.std.proofs.lemmas.Bool.Decides.{nat_tests}
use Rattle.law_arrival_views.specs.world_model.Words.{FlowId, Record, Bind, NodeId, PortNo, bound_by, last_bound, is_bind}
use Rattle.law_arrival_views.specs.world_model.link_model.declared.record.Record.TheVariants as records
use Rattle.law_arrival_views.specs.ordered_lists.Ordered.{Every}
use Rattle.law_run_facts.proofs.Frames.{bound_then}
use Rattle.law_packet_worlds.proofs.Lists.{or_left, or_right, count_by-skip}
use Rattle.law_arrival_views.specs.world_model.network_model.declared.link.LinkEnd.{LinkEnd}

bound_none : (ys : List Record) (end : LinkEnd) (label : ℕ) → Every (λ (item : Record). bound_by end label item ≡ None) ys → last_bound ys end label ≡ None
bound_none [] end label each = refl
bound_none (y ∷ ys) end label each = ap (λ o. option_or o (bound_by end label y)) (bound_none ys end label each.1) ∙ each.0

pub bound_stays : (xs ys : List Record) (end : LinkEnd) (label : ℕ) → Every (λ (item : Record). bound_by end label item ≡ None) ys → last_bound (xs ++ ys) end label ≡ last_bound xs end label
bound_stays xs ys end label each = bound_then xs ys end label ∙ ap (λ o. option_or o (last_bound xs end label)) (bound_none ys end label each)

unbinding : (end : LinkEnd) (label : ℕ) (item : Record) → is_bind item ≡ false → bound_by end label item ≡ None
unbinding end label (records.Delivered node packet octets) e = refl
unbinding end label (records.Dropped node packet cause) e = refl
unbinding end label (records.Refused node packet name) e = refl
unbinding end label (records.Loss mark cause) e = refl
unbinding end label (records.Chance mark) e = refl
unbinding end label (records.Bad node layer name) e = refl
unbinding end label (records.Opened node port) e = refl
unbinding end label (records.Closed node port) e = refl
unbinding end label (records.Bind node port vci flow) e = absurd (cc e)
unbinding end label (records.Free node port vci) e = refl
unbinding end label (records.Join node port vci to_port to_vci) e = refl
unbinding end label (records.Part node port vci) e = refl
unbinding end label (records.Routes node changes) e = refl
unbinding end label (records.Forged place) e = refl

-- where nothing binds it
pub none_binds : (ys : List Record) (end : LinkEnd) (label : ℕ) → list_any is_bind ys ≡ false → Every (λ (item : Record). bound_by end label item ≡ None) ys
none_binds [] end label none = tt
none_binds (y ∷ ys) end label none = (unbinding end label y (or_left (is_bind y) (list_any is_bind ys) none), none_binds ys end label (or_right (is_bind y) (list_any is_bind ys) none))

-- or no record is its binding
pub and_parts : (a b : Bool) → a && b ≡ true → (a ≡ true) × (b ≡ true)
and_parts true true e = (refl, refl)
and_parts true false e = absurd (cc e)
and_parts false b e = absurd (cc e)

own_bind : (end : LinkEnd) (label : ℕ) (item : Record) → ((flow : FlowId) → item ≡ Bind end.node end.port label flow → ⊥) → bound_by end label item ≡ None
own_bind end label (records.Delivered node packet octets) never = refl
own_bind end label (records.Dropped node packet cause) never = refl
own_bind end label (records.Refused node packet name) never = refl
own_bind end label (records.Loss mark cause) never = refl
own_bind end label (records.Chance mark) never = refl
own_bind end label (records.Bad node layer name) never = refl
own_bind end label (records.Opened node port) never = refl
own_bind end label (records.Closed node port) never = refl
own_bind end label (records.Bind node port vci flow) never =
    by ((node.0 == end.node.0) && ((port.0 == end.port.0) && (vci == label))) refl
  where
    by : (b : Bool) → ((node.0 == end.node.0) && ((port.0 == end.port.0) && (vci == label))) ≡ b → (if b then Some flow else None) ≡ None
    by true e =
        let one = and_parts (node.0 == end.node.0) ((port.0 == end.port.0) && (vci == label)) e in
        let two = and_parts (port.0 == end.port.0) (vci == label) one.1 in
        let node_is : node.0 ≡ end.node.0 = (let f = one.0 in grind (arith, nat_tests, f)) in
        let port_is : port.0 ≡ end.port.0 = (let f = two.0 in grind (arith, nat_tests, f)) in
        let label_is : vci ≡ label = (let f = two.1 in grind (arith, nat_tests, f)) in
        absurd (never flow (λ i. Bind (let n : NodeId = record { 0 = node_is i } in n) (let p : PortNo = record { 0 = port_is i } in p) (label_is i) flow))
    by false e = refl
own_bind end label (records.Free node port vci) never = refl
own_bind end label (records.Join node port vci to_port to_vci) never = refl
own_bind end label (records.Part node port vci) never = refl
own_bind end label (records.Routes node changes) never = refl
own_bind end label (records.Forged place) never = refl

pub none_own : (ys : List Record) (end : LinkEnd) (label : ℕ) → ((item : Record) (flow : FlowId) → Contains ys item → item ≡ Bind end.node end.port label flow → ⊥) → Every (λ (item : Record). bound_by end label item ≡ None) ys
none_own [] end label never = tt
none_own (y ∷ ys) end label never = (own_bind end label y (λ flow e. never y flow (0, omega arith, refl) e), none_own ys end label (λ item flow c e. never item flow (suc c.0, omega (arith, c.1), c.2) e))

-- *Elements of a list that grew*
pub got_split : {A : Type 0} (xs ys : List A) (i : ℕ) (x : A) → slice_get (xs ++ ys) i ≡ Some x → (slice_get xs i ≡ Some x) ⊎ ((j : ℕ) × (i ≡ length xs + j) × (slice_get ys j ≡ Some x))
got_split [] ys i x e = inr (i, omega arith, e)
got_split (z ∷ xs) ys zero x e = inl e
got_split (z ∷ xs) ys (suc i) x e = elim (got_split xs ys i x e) [
  | inl old ↦ inl old
  | inr new ↦ inr (new.0, omega (arith, new.1), new.2)
]

pub got_within : {A : Type 0} (xs : List A) (i : ℕ) (x : A) → slice_get xs i ≡ Some x → i < length xs
got_within [] i x e = absurd (cc e)
got_within (z ∷ xs) zero x e = omega arith
got_within (z ∷ xs) (suc i) x e = omega (arith, got_within xs i x e)

-- a count of none
pub count_none : {A : Type 0} (test : A → Bool) (xs : List A) → ((x : A) → Contains xs x → test x ≡ false) → count_by test xs ≡ 0
count_none test [] none = refl
count_none test (x ∷ xs) none = count_by-skip test x xs (none x (0, omega arith, refl)) ∙ count_none test xs (λ y c. none y (suc c.0, omega (arith, c.1), c.2))
