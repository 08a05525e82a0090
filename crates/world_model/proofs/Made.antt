-- lines make topologies: the empty one is one, and each line that isn't refused makes another

use Rattle.std.proofs.Common.{◌≡◌, ◌⊎◌, inl, inr, ℕ, zero, suc, ◌<◌, ◌≤◌, ◌+◌, Bool, true, false, not, cond, List, [], ◌∷◌, ◌++◌, length, length-append, eqb, slice_get, slice_set, slice_index_or, bytes_eq, is_some, All, None, Some, option_map, refl, sym, ◌∙◌, ap, subst, arith, nat_lt}
use Rattle.std.specs.List.{position_or_len}
use Rattle.std.proofs.lemmas.Bool.Decides.{nat_tests}
use Rattle.std.proofs.lemmas.List.Sums.{prefix_len-le-length}
use Rattle.std.proofs.lemmas.List.Folds.{position_or_len_push, position_or_len-set}
use Rattle.std.proofs.lemmas.Option.{get_or_from_slice_get, slice_get_within}
use Rattle.std.proofs.lemmas.Slice.Eq.{bytes_eq-Decides}
use Rattle.network_model.specs.net_types.declared.node.NodeId.{NodeId}
use Rattle.network_model.specs.net_types.declared.prefix.Addr.{Addr}
use Rattle.network_model.specs.ipv4_forward.declared.table.Next.{Next}
use Rattle.network_model.specs.ipv4_forward.declared.table.Next.TheVariants.{Local, Via}
use Rattle.world_model.specs.Topology.{Topology, Node, Link, new_node, peer_among}
use Rattle.world_model.specs.Lines.{is_named, node_named}
use Rattle.world_model.specs.Conditions.{IsTopology, IsNodeOf, IsLink, IsLinkedNext}
use Rattle.world_model.proofs.Lists.{length_set}

-- *Names*: a node is found by its name where it is the first of it
abbrev pub number_at : ℕ → NodeId
number_at place = record { 0 = place + 1 }

position_is : (len place n : ℕ) → n ≡ place → place < len → cond (nat_lt n len) (Some n) None ≡ Some place
position_is len place n is low = elim (nat_lt n len) as (λ t. nat_lt n len ≡ t → cond t (Some n) None ≡ Some place) [
  | true ↦ λ e. ap Some is
  | false ↦ λ e. absurd (grind (arith, nat_tests, is, low, e))
] refl

named_is : (t : Topology) (name : List ℕ) (place : ℕ) → position_or_len (is_named name) t.nodes ≡ place → place < length t.nodes
    → node_named t name ≡ Some (number_at place)
named_is t name place is low =
    ap (option_map number_at) (position_is (length t.nodes) place (position_or_len (is_named name) t.nodes) is low)

numbers_are : (a b : ℕ) → Some (number_at a) ≡ Some (number_at b) → a ≡ b
numbers_are a b e = (let same : number_at a ≡ number_at b = cc in omega (arith, ap (λ (n : NodeId). n.0) same))

is_named_at : (t : Topology) (name : List ℕ) (place : ℕ) → node_named t name ≡ Some (number_at place)
    → (position_or_len (is_named name) t.nodes ≡ place) × (place < length t.nodes)
is_named_at t name place e = by_test (nat_lt (position_or_len (is_named name) t.nodes) (length t.nodes)) refl e
  where
    by_test : (b : Bool) → nat_lt (position_or_len (is_named name) t.nodes) (length t.nodes) ≡ b
        → option_map number_at (cond b (Some (position_or_len (is_named name) t.nodes)) None) ≡ Some (number_at place)
        → (position_or_len (is_named name) t.nodes ≡ place) × (place < length t.nodes)
    by_test true e h =
        let same : position_or_len (is_named name) t.nodes ≡ place = numbers_are (position_or_len (is_named name) t.nodes) place h in
        (same, grind (arith, nat_tests, e, same))
    by_test false e h = absurd (cc h)

-- the place of a node that is found by its name
pub record Found (t : Topology) (name : List ℕ) (number : NodeId) : Type 0 where
  pub place : ℕ
  pub is : number ≡ number_at place
  pub low : place < length t.nodes

pub found_at : (t : Topology) (name : List ℕ) (number : NodeId) → node_named t name ≡ Some number → Found t name number
found_at t name number e = by_test (nat_lt (position_or_len (is_named name) t.nodes) (length t.nodes)) refl e
  where
    by_test : (b : Bool) → nat_lt (position_or_len (is_named name) t.nodes) (length t.nodes) ≡ b
        → option_map number_at (cond b (Some (position_or_len (is_named name) t.nodes)) None) ≡ Some number → Found t name number
    by_test true e h = record {
      place = position_or_len (is_named name) t.nodes;
      is = (let same : number_at (position_or_len (is_named name) t.nodes) ≡ number = cc in sym same);
      low = grind (arith, nat_tests, e);
    }
    by_test false e h = absurd (cc h)

is_named_none : (t : Topology) (name : List ℕ) → node_named t name ≡ None → position_or_len (is_named name) t.nodes ≡ length t.nodes
is_named_none t name e = by_test (nat_lt (position_or_len (is_named name) t.nodes) (length t.nodes)) refl e
  where
    by_test : (b : Bool) → nat_lt (position_or_len (is_named name) t.nodes) (length t.nodes) ≡ b
        → option_map number_at (cond b (Some (position_or_len (is_named name) t.nodes)) None) ≡ None
        → position_or_len (is_named name) t.nodes ≡ length t.nodes
    by_test true e h = absurd (cc h)
    by_test false e h = grind (arith, nat_tests, e, prefix_len-le-length (λ (node : Node). not (is_named name node)) t.nodes)

-- *Elements by their places*
got_push : {A : Type 0} (xs : List A) (y x : A) (k : ℕ) → slice_get (xs ++ y ∷ []) k ≡ Some x → (slice_get xs k ≡ Some x) ⊎ ((k ≡ length xs) × (y ≡ x))
got_push [] y x zero e = inr (refl, cc)
got_push [] y x (suc k) e = absurd (cc e)
got_push (z ∷ xs) y x zero e = inl e
got_push (z ∷ xs) y x (suc k) e = elim (got_push xs y x k e) [
  | inl is ↦ inl is
  | inr is ↦ inr (ap suc is.0, is.1)
]

got_set : {A : Type 0} (xs : List A) (i k : ℕ) (y x : A) → slice_get (slice_set xs i y) k ≡ Some x → (slice_get xs k ≡ Some x) ⊎ ((k ≡ i) × (y ≡ x))
got_set [] i k y x e = inl e
got_set (z ∷ xs) zero zero y x e = inr (refl, cc)
got_set (z ∷ xs) zero (suc k) y x e = inl e
got_set (z ∷ xs) (suc i) zero y x e = inl e
got_set (z ∷ xs) (suc i) (suc k) y x e = elim (got_set xs i k y x e) [
  | inl is ↦ inl is
  | inr is ↦ inr (ap suc is.0, is.1)
]

-- *What a longer or another list of nodes leaves*, where the links stay
pub next_stays : (t u : Topology) (number : NodeId) (next : Next) → u.links ≡ t.links → IsLinkedNext t number next → IsLinkedNext u number next
next_stays t u number Local same l = tt
next_stays t u number (Via port) same l = subst (λ ls. is_some (peer_among (record { node = number; port = port }) ls) ≡ true) (sym same) l

pub node_stays : (t u : Topology) (number : NodeId) (node : Node) → u.links ≡ t.links → node_named u node.name ≡ Some number
    → IsNodeOf t number node → IsNodeOf u number node
node_stays t u number node same named n = record {
  named = named;
  cells = n.cells;
  ranges = n.ranges;
  room = n.room;
  distinct = n.distinct;
  linked = λ k d low. next_stays t u number (slice_index_or node.routes k d).next same (n.linked k d low);
}

link_stays : (t u : Topology) (link : Link) → u.links ≡ t.links → length t.nodes ≤ length u.nodes → IsLink t link → IsLink u link
link_stays t u link same more l = record {
  first = ((l.first.0.0, omega (arith, l.first.0.1, more)), l.first.1);
  second = ((l.second.0.0, omega (arith, l.second.0.1, more)), l.second.1);
  apart = l.apart;
  there = subst (λ ls. peer_among link.first ls ≡ Some link.second) (sym same) l.there;
  back = subst (λ ls. peer_among link.second ls ≡ Some link.first) (sym same) l.back;
}

pub links_stay : (t u : Topology) → u.links ≡ t.links → length t.nodes ≤ length u.nodes → All (IsLink t) t.links → All (IsLink u) u.links
links_stay t u same more ls = subst (All (IsLink u)) (sym same) (λ k d low. link_stays t u (slice_index_or t.links k d) same more (ls k d low))

-- *A node more*
abbrev with_more : Topology → (name : List ℕ) → Addr → Topology
with_more t name address = record t { nodes = t.nodes ++ new_node name address ∷ [] }

own_name : (name : List ℕ) → bytes_eq name name ≡ true
own_name name = (bytes_eq-Decides name name).1 refl

pub node_more : (t : Topology) (name : List ℕ) (address : Addr) → IsTopology t → node_named t name ≡ None → length t.nodes < 64
    → IsTopology (record t { nodes = t.nodes ++ new_node name address ∷ [] })
node_more t name address is fresh few =
    record {
      few_nodes = omega (arith, length-append t.nodes (new_node name address ∷ []), few);
      few_links = is.few_links;
      links = links_stay t (with_more t name address) refl (omega (arith, length-append t.nodes (new_node name address ∷ []))) is.links;
      nodes = λ place node e. elim (got_push t.nodes (new_node name address) node place e) [
        | inl old ↦ (let low : place < length t.nodes = slice_get_within t.nodes place node old in
            node_stays t (with_more t name address) (number_at place) node refl
            (named_is (with_more t name address) node.name place (before node.name place (is_named_at t node.name place (is.nodes place node old).named)) (omega (arith, low, length-append t.nodes (new_node name address ∷ []))))
            (is.nodes place node old))
        | inr new ↦ subst (IsNodeOf (with_more t name address) (number_at place)) new.1 (newest place new.0)
      ];
      policy = is.policy;
      times = is.times;
      version = is.version;
    }
  where
    before : (other : List ℕ) (place : ℕ) → (position_or_len (is_named other) t.nodes ≡ place) × (place < length t.nodes)
        → position_or_len (is_named other) (t.nodes ++ new_node name address ∷ []) ≡ place
    before other place f =
        let some : eqb (position_or_len (is_named other) t.nodes) (length t.nodes) ≡ false = grind (arith, nat_tests, f.0, f.1) in
        position_or_len_push (is_named other) t.nodes (new_node name address)
        ∙ ap {B = ℕ} (λ (b : Bool). cond b (length t.nodes + cond (bytes_eq name other) 0 1) (position_or_len (is_named other) t.nodes)) some
        ∙ f.0

    last_one : (place : ℕ) → place ≡ length t.nodes → position_or_len (is_named name) (t.nodes ++ new_node name address ∷ []) ≡ place
    last_one place here =
        let none : eqb (position_or_len (is_named name) t.nodes) (length t.nodes) ≡ true = grind (arith, nat_tests, is_named_none t name fresh) in
        position_or_len_push (is_named name) t.nodes (new_node name address)
        ∙ ap {B = ℕ} (λ (b : Bool). cond b (length t.nodes + cond (bytes_eq name name) 0 1) (position_or_len (is_named name) t.nodes)) none
        ∙ ap {B = ℕ} (λ (b : Bool). length t.nodes + cond b 0 1) (own_name name)
        ∙ omega (arith, here)

    newest : (place : ℕ) → place ≡ length t.nodes → IsNodeOf (with_more t name address) (number_at place) (new_node name address)
    newest place here = record {
      named = named_is (with_more t name address) name place (last_one place here) (omega (arith, here, length-append t.nodes (new_node name address ∷ [])));
      cells = (omega arith, omega arith);
      ranges = λ k d low. absurd (omega (arith, low));
      room = omega arith;
      distinct = λ k route e. absurd (cc e);
      linked = λ k d low. absurd (omega (arith, low));
    }

-- *A node is changed*, but for its name
abbrev with_other : Topology → (place : ℕ) → Node → Topology
with_other t place node = record t { nodes = slice_set t.nodes place node }

pub node_changed : (t : Topology) (place : ℕ) (old new : Node) → IsTopology t → slice_get t.nodes place ≡ Some old → new.name ≡ old.name
    → (IsNodeOf t (number_at place) old → node_named (record t { nodes = slice_set t.nodes place new }) new.name ≡ Some (number_at place)
    → IsNodeOf (record t { nodes = slice_set t.nodes place new }) (number_at place) new)
    → IsTopology (record t { nodes = slice_set t.nodes place new })
node_changed t place old new is found named changed =
    record {
      few_nodes = subst (λ n. n ≤ 64) (sym (length_set t.nodes place new)) is.few_nodes;
      few_links = is.few_links;
      links = links_stay t (with_other t place new) refl (omega (arith, length_set t.nodes place new)) is.links;
      nodes = λ k node e. elim (got_set t.nodes place k new node e) [
        | inl same ↦ node_stays t (with_other t place new) (number_at k) node refl
            (named_is (with_other t place new) node.name k (same_place node.name k (is_named_at t node.name k (is.nodes k node same).named)) (omega (arith, slice_get_within t.nodes k node same, length_set t.nodes place new)))
            (is.nodes k node same)
        | inr here ↦ subst (IsNodeOf (with_other t place new) (number_at k)) here.1 (subst (λ j. IsNodeOf (with_other t place new) (number_at j) new) (sym here.0)
            (changed (is.nodes place old found) (subst (λ name. node_named (with_other t place new) name ≡ Some (number_at place)) (sym named)
            (named_is (with_other t place new) old.name place (same_place old.name place (is_named_at t old.name place (is.nodes place old found).named)) (omega (arith, slice_get_within t.nodes place old found, length_set t.nodes place new))))))
      ];
      policy = is.policy;
      times = is.times;
      version = is.version;
    }
  where
    same_place : (name : List ℕ) (k : ℕ) → (position_or_len (is_named name) t.nodes ≡ k) × (k < length t.nodes)
        → position_or_len (is_named name) (slice_set t.nodes place new) ≡ k
    same_place name k f =
        position_or_len-set (is_named name) t.nodes place new old
        (ap (λ n. bytes_eq n name) (named ∙ ap (λ (n : Node). n.name) (sym (get_or_from_slice_get t.nodes place old old found))))
        ∙ f.0
