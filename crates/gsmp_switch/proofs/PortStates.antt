-- The ports of a switch

use Rattle.std.proofs.Common.{◌≡◌, Bool, true, false, cond, ◌&&◌, Some, ℕ, ◌+◌, ◌<◌, ◌≤◌, ◌==◌, ◌∙◌, map, List, [], ◌∷◌, ◌++◌, length, get_or, set, take, drop, zero, suc, refl, ap, sym, subst, arith}
use Rattle.std.proofs.Math.Seq.{drop-cons}
use Rattle.std.proofs.Math.ListN.{get_or-map}
use Rattle.std.proofs.lemmas.List.{length-map, set_split}
use Rattle.net_types.specs.declared.node.PortNo.{PortNo}
use Rattle.world_model.specs.switch_model.declared.port.PortState.{PortState}
use Rattle.net_types.specs.declared.number.Instance.{Instance}
use Rattle.std.specs.List.{list_all}
use Rattle.std.specs.List.Sorted.{IsStrictlyIncreasing}
use Rattle.std.specs.Prelude.{nat_le, is_some, slice_index, All}
use Rattle.std.proofs.lemmas.Bool.Decides.{nat_tests}
use Rattle.std.proofs.lemmas.List.Elements.{All-tail}
use Rattle.crossbar_model.specs.Channels.{ArePorts, IsLinkPort}
use Rattle.gsmp_wire.proofs.Places.{both}
use Rattle.world_model.specs.Switch.{begun, control_port, has_port, numbers_of, state_of_port, with_port}
use Rattle.world_model.specs.Requests.{managed, ports_after}
use Rattle.gsmp_wire.specs.declared.request.Request.{Request}
use Rattle.gsmp_wire.specs.declared.request.Request.TheVariants.{AddBranch, MoveBranch, DeleteTree, VerifyTree, DeleteAll, PortManagement, AllPorts}
use Rattle.gsmp_switch.specs.State.{AreStatesOf}

same_number : (m n : ℕ) → m ≡ n → (m == n) ≡ true
same_number m n e = grind arith

-- the first port is the one that changes
with_here : (port : PortNo) (change : PortState → PortState) (state : PortState) (states : List PortState) → (state.number.0 == port.0) ≡ true → with_port port change (state ∷ states) ≡ change state ∷ states
with_here port change state states here = rw here refl

-- a port is changed at its place, where it isn't one of the places before
pub changed_at : (port : PortNo) (change : PortState → PortState) (xs all : List PortState) (i : ℕ) (x : PortState) → i < length xs → x ≡ get_or xs i x → x.number.0 ≡ port.0 → take i xs ++ with_port port change (drop i xs) ≡ all → set xs i (change x) ≡ all
changed_at port change xs all i x within at here h =
    set_split xs i (change x) within
    ∙ ap (λ (more : List PortState). take i xs ++ more) (sym (ap (with_port port change) (drop-cons xs i x within ∙ ap (λ (y : PortState). y ∷ drop (suc i) xs) (sym at)) ∙ with_here port change x (drop (suc i) xs) (same_number _ _ here)))
    ∙ h

-- *The ports are the control port and the linked ones*

numbers-with_port : (port : PortNo) (function : ℕ) (states : List PortState) → numbers_of (with_port port (managed function) states) ≡ numbers_of states
numbers-with_port port function [] = refl
numbers-with_port port function (state ∷ states) =
    by (state.number.0 == port.0) port function state states (numbers-with_port port function states)
  where
    by : (b : Bool) (p : PortNo) (n : ℕ) (s : PortState) (ss : List PortState) → numbers_of (with_port p (managed n) ss) ≡ numbers_of ss → numbers_of (cond b (managed n s ∷ ss) (s ∷ with_port p (managed n) ss)) ≡ s.number ∷ numbers_of ss
    by true p n s ss h = refl
    by false p n s ss h = ap (λ (ns : List PortNo). s.number ∷ ns) h

states_managed : (states : List PortState) (linked : List PortNo) (port : PortNo) (function : ℕ) → AreStatesOf states linked → AreStatesOf (with_port port (managed function) states) linked
states_managed states linked port function are = record { numbers = numbers-with_port port function states ∙ are.numbers; are_ports = are.are_ports }

pub states_after : (states : List PortState) (linked : List PortNo) (request : Request) → AreStatesOf states linked → AreStatesOf (ports_after states request) linked
states_after states linked (PortManagement port function) are = states_managed states linked port function are
states_after states linked (AddBranch input output) are = are
states_after states linked (MoveBranch input from to) are = are
states_after states linked (DeleteTree input) are = are
states_after states linked (VerifyTree input) are = are
states_after states linked (DeleteAll port) are = are
states_after states linked AllPorts are = are

numbers-begun : (own : Instance) (states : List PortState) → numbers_of (map (λ state. begun own state.number) states) ≡ numbers_of states
numbers-begun own [] = refl
numbers-begun own (state ∷ states) = ap (λ (ns : List PortNo). state.number ∷ ns) (numbers-begun own states)

pub states_begun : (states : List PortState) (linked : List PortNo) (own : Instance) → AreStatesOf states linked → AreStatesOf (map (λ state. begun own state.number) states) linked
states_begun states linked own are = record { numbers = numbers-begun own states ∙ are.numbers; are_ports = are.are_ports }

numbers-opened : (own : Instance) (ports : List PortNo) → numbers_of (map (begun own) ports) ≡ ports
numbers-opened own [] = refl
numbers-opened own (port ∷ ports) = ap (λ (ns : List PortNo). port ∷ ns) (numbers-opened own ports)

pub states_opened : (own : Instance) (linked : List PortNo) → ArePorts linked → AreStatesOf (map (begun own) (control_port ∷ linked)) linked
states_opened own linked are = record { numbers = ap (λ (ns : List PortNo). control_port ∷ ns) (numbers-opened own linked); are_ports = are }

-- *Each of them is at most 8, so there are at most nine*

small_of : (linked : List PortNo) → All IsLinkPort linked → list_all (λ port. nat_le port.0 8) linked ≡ true
small_of [] all = refl
small_of (port ∷ ports) all =
    let first : nat_le port.0 8 ≡ true = let most = (all 0 port (omega arith)).1 in grind (arith, nat_tests, most) in
    rw first (small_of ports (All-tail IsLinkPort port ports all))

found_small_by : (b : Bool) (state : PortState) (states : List PortState) (port : PortNo) → (state.number.0 == port.0) ≡ b → (nat_le state.number.0 8 && list_all (λ p. nat_le p.0 8) (numbers_of states)) ≡ true → is_some (cond b (Some state) (state_of_port states port)) ≡ true → (list_all (λ p. nat_le p.0 8) (numbers_of states) ≡ true → has_port states port ≡ true → port.0 ≤ 8) → port.0 ≤ 8
found_small_by true state states port same small has later = let first = (both (nat_le state.number.0 8) (list_all (λ p. nat_le p.0 8) (numbers_of states)) small).0 in grind (arith, nat_tests, same, first)
found_small_by false state states port same small has later = later (both (nat_le state.number.0 8) (list_all (λ p. nat_le p.0 8) (numbers_of states)) small).1 has

found_small : (states : List PortState) (port : PortNo) → list_all (λ p. nat_le p.0 8) (numbers_of states) ≡ true → has_port states port ≡ true → port.0 ≤ 8
found_small [] port small has = absurd (cc has)
found_small (state ∷ states) port small has =
    found_small_by (state.number.0 == port.0) state states port refl small has (found_small states port)

pub has_port_small : (states : List PortState) (linked : List PortNo) (port : PortNo) → AreStatesOf states linked → has_port states port ≡ true → port.0 ≤ 8
has_port_small states linked port are has =
    let small = ap (list_all (λ p. nat_le p.0 8)) are.numbers ∙ small_of linked are.are_ports.of_links in
    found_small states port small has

-- in a list that rises from 1 on, the number at place k is above k
above_place : (xs : List ℕ) (n k : ℕ) → IsStrictlyIncreasing xs → (0 < length xs → 1 ≤ slice_index xs 0) → k ≡ n → k < length xs → k < slice_index xs k
above_place xs zero k rise first is within = subst (λ (i : ℕ). i < slice_index xs i) (sym is) (first (omega (arith, within)))
above_place xs (suc m) k rise first is within =
    let next : m + 1 ≡ k = omega (arith, is) in
    let here : m + 1 < length xs = omega (arith, next, within) in
    let before = above_place xs m m rise first refl (omega (arith, here)) in
    let step = rise m here in
    subst (λ (i : ℕ). i < slice_index xs i) next (omega (arith, before, step))

few : (linked : List PortNo) → ArePorts linked → length linked ≤ 8
few linked are = by (length linked) refl
  where
    d : PortNo
    d = record { 0 = 0 }

    by : (n : ℕ) → length linked ≡ n → length linked ≤ 8
    by zero is = omega (arith, is)
    by (suc k) is =
        let xs = map (λ (p : PortNo). p.0) linked in
        let size : length xs ≡ length linked = length-map linked (λ (p : PortNo). p.0) in
        let inside : k < length linked = omega (arith, is) in
        let first : 0 < length xs → 1 ≤ slice_index xs 0 = λ h. rw (get_or-map (λ (p : PortNo). p.0) linked 0 d) ((are.of_links 0 d (omega (arith, size, h))).0) in
        let last : k < slice_index xs k = above_place xs k k are.ascending first refl (omega (arith, inside, size)) in
        let most = (are.of_links k d inside).1 in
        let same : slice_index xs k ≡ (get_or linked k d).0 = get_or-map (λ (p : PortNo). p.0) linked k d in
        omega (arith, is, last, most, same)

pub few_states : (states : List PortState) (linked : List PortNo) → AreStatesOf states linked → (1 ≤ length states) × (length states ≤ 9)
few_states states linked are =
    let lengths = ap (λ (ps : List PortNo). length ps) are.numbers in
    let size = length-map states (λ (state : PortState). state.number) in
    let most = few linked are.are_ports in
    (omega (arith, lengths, size), omega (arith, lengths, size, most))
