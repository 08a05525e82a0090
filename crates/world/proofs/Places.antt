-- the queues of a round are the topology's, and stay

use Rattle.std.proofs.Common.{◌≡◌, ℕ, zero, suc, ◌+◌, ◌≤◌, Bool, true, false, cond, List, [], ◌∷◌, ◌++◌, length, map, flat_map, filter, slice_get, Some, refl, sym, ◌∙◌, ap, subst, arith}
use Rattle.std.specs.List.{range_with_len}
use Rattle.std.specs.Option.{is_some}
use Rattle.std.proofs.lemmas.List.Concat.{flat_map-cons}
use Rattle.net_types.specs.declared.node.NodeId.{NodeId}
use Rattle.net_types.specs.declared.node.PortNo.{PortNo}
use Rattle.net_types.specs.declared.node.Place.{Place}
use Rattle.net_types.specs.declared.node.Place.TheVariants.{Down, Up, Out}
use Rattle.world_model.specs.Conditions.{IsNode, IsPlace}
use Rattle.world_model.specs.Places.{places_of}
use Rattle.world_model.specs.Topology as topologies
use Rattle.world_model.specs.Topology.{Topology, peer_of}
use Rattle.world_model.specs.World.{Site}
use Rattle.law_world_pace.specs.Running.{AreRunning, IsRunningSite, numbered}

abbrev places_with : NodeId → List PortNo → List Place
places_with node ports = Down node ∷ Up node ∷ map (λ port. Out node port) ports

pub site_places : (t : Topology) (events number : ℕ) (site : Site) → IsRunningSite t events number site → places_of site ≡ places_with (numbered number) (topologies.linked_ports t (numbered number))
site_places t events number site h =
    (let node : site.controller.node ≡ numbered number = ap (λ (n : ℕ). numbered n) h.node in λ i. places_with (node i) (h.ports i))

pub same_places : (t : Topology) (events later number : ℕ) (sites after : List Site) → AreRunning t events number sites → AreRunning t later number after → length sites ≡ length after
    → flat_map places_of sites ≡ flat_map places_of after
same_places t events later number [] [] h k e = refl
same_places t events later number [] (y ∷ after) h k e = absurd (cc e)
same_places t events later number (x ∷ sites) [] h k e = absurd (cc e)
same_places t events later number (x ∷ sites) (y ∷ after) h k e =
    flat_map-cons places_of x sites
    ∙ (let one : places_of x ≡ places_of y = site_places t events number x h.0 ∙ sym (site_places t later number y k.0) in
    let rest : flat_map places_of sites ≡ flat_map places_of after = same_places t events later (suc number) sites after h.1 k.1 (omega (arith, e)) in λ i. one i ++ rest i)
    ∙ sym (flat_map-cons places_of y after)

pub get_append : {A : Type 0} (P : A → Type 0) (xs ys : List A) → ((i : ℕ) (x : A) → slice_get xs i ≡ Some x → P x) → ((i : ℕ) (x : A) → slice_get ys i ≡ Some x → P x)
    → (i : ℕ) (x : A) → slice_get (xs ++ ys) i ≡ Some x → P x
get_append P [] ys f g i x e = g i x e
get_append P (z ∷ xs) ys f g zero x e = f 0 x e
get_append P (z ∷ xs) ys f g (suc i) x e = get_append P xs ys (λ j y d. f (suc j) y d) g i x e

pub get_map : {A B : Type 0} (P : B → Type 0) (f : A → B) (xs : List A) → ((i : ℕ) (x : A) → slice_get xs i ≡ Some x → P (f x)) → (i : ℕ) (y : B) → slice_get (map f xs) i ≡ Some y → P y
get_map P f [] h i y e = absurd (cc e)
get_map P f (x ∷ xs) h zero y e = (let same : f x ≡ y = cc in subst P same (h 0 x refl))
get_map P f (x ∷ xs) h (suc i) y e = get_map P f xs (λ j z d. h (suc j) z d) i y e

filter_at : {A : Type 0} (test : A → Bool) (z : A) (xs : List A) (x : A) → test z ≡ true → ((j : ℕ) → slice_get xs j ≡ Some x → test x ≡ true) → (i : ℕ) → slice_get (z ∷ xs) i ≡ Some x → test x ≡ true
filter_at test z xs x t h zero e = (let same : z ≡ x = cc in subst (λ y. test y ≡ true) same t)
filter_at test z xs x t h (suc i) e = h i e

get_filter : {A : Type 0} (test : A → Bool) (xs : List A) (i : ℕ) (x : A) → slice_get (filter test xs) i ≡ Some x → test x ≡ true
get_filter test [] i x e = absurd (cc e)
get_filter test (z ∷ xs) i x e = on (test z) refl (λ j h. get_filter test xs j x h) e
  where
    on : (b : Bool) → test z ≡ b → ((j : ℕ) → slice_get (filter test xs) j ≡ Some x → test x ≡ true) → slice_get (cond b (z ∷ filter test xs) (filter test xs)) i ≡ Some x → test x ≡ true
    on true t h d = filter_at test z (filter test xs) x t h i d
    on false t h d = h i d

pub place_is : (t : Topology) (events number : ℕ) (sites : List Site) → AreRunning t events number sites → 1 ≤ number → number + length sites ≤ suc (length t.nodes)
    → (i : ℕ) (place : Place) → slice_get (flat_map places_of sites) i ≡ Some place → IsPlace t place
place_is t events number [] h low high i place e = absurd (cc e)
place_is t events number (site ∷ sites) h low high i place e =
    get_append (IsPlace t) (places_of site) (flat_map places_of sites)
    (subst (λ (ps : List Place). (k : ℕ) (p : Place) → slice_get ps k ≡ Some p → IsPlace t p) (sym (site_places t events number site h.0)) own)
    (place_is t events (suc number) sites h.1 (omega (arith, low)) (omega (arith, high)))
    i place (ap (λ (ps : List Place). slice_get ps i) (sym (flat_map-cons places_of site sites)) ∙ e)
  where
    is_node : IsNode t (numbered number)
    is_node = (low, omega (arith, high))

    outs : (k : ℕ) (p : Place) → slice_get (map (λ port. Out (numbered number) port) (topologies.linked_ports t (numbered number))) k ≡ Some p → IsPlace t p
    outs = get_map (IsPlace t) (λ port. Out (numbered number) port) (topologies.linked_ports t (numbered number))
        (λ k port d. (is_node, get_filter (λ q. is_some (peer_of t (numbered number) q)) (map (λ n. record { 0 = n }) (range_with_len 1 8)) k port d))

    own : (k : ℕ) (p : Place) → slice_get (places_with (numbered number) (topologies.linked_ports t (numbered number))) k ≡ Some p → IsPlace t p
    own zero p d = (let same : Down (numbered number) ≡ p = cc in subst (IsPlace t) same is_node)
    own (suc zero) p d = (let same : Up (numbered number) ≡ p = cc in subst (IsPlace t) same is_node)
    own (suc (suc k)) p d = outs k p d
