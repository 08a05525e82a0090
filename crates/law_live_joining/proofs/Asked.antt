-- the grants of a port to which a flow leads, and the desk, as one more request is asked

use Rattle.std.proofs.Common.{◌≡◌, ◌≢◌, ℕ, suc, ◌+◌, ◌≤◌, Bool, true, false, not, List, [], ◌∷◌, ◌++◌, filter, length, Option, None, Some, refl, sym, ◌∙◌, ap, arith, find, if◌then◌else◌}
use Rattle.std.specs.Prelude.{◌||◌}
use Rattle.std.specs.List.{list_any}
use Rattle.std.specs.Option.{option_map, option_map_or}
use Rattle.world_model.specs.Words.{PortNo, End, FlowId, withdraws, Request, put, Desk, Standing, Grant, grant_label, grant_for, Controller, Linked, linked_at, port_key, join_through}
use Rattle.world_model.specs.Joins.{Join}
use Rattle.world_model.specs.port_model.Desk.{asked}
use Rattle.law_port_facts.proofs.Keyed.{by_eq, at_key}
use Rattle.law_live_joins.specs.Law.{granted_at}

-- *The grants of a port* lead on
pub through_granted : (c : Controller) (input : End) (port : PortNo) (next : FlowId)
    → join_through input next (linked_at c port) ≡ option_map (λ (grant : Grant). let j : Join = record { input = input; port = port; grant = grant } in j) (grant_for (granted_at c port) next)
through_granted c input port next = by (linked_at c port) refl
  where
    by : (o : Option Linked) → linked_at c port ≡ o
        → join_through input next o ≡ option_map (λ (grant : Grant). let j : Join = record { input = input; port = port; grant = grant } in j) (grant_for (option_map_or (λ (l : Linked). l.port.grants) o []) next)
    by None found = refl
    by (Some g) found = each (grant_for g.port.grants next)
      where
        same : g.setup.port.0 ≡ port.0
        same = at_key port_key port.0 c.ports g found

        each : (o : Option Grant) → option_map (λ (grant : Grant). let j : Join = record { input = input; port = g.setup.port; grant = grant } in j) o
            ≡ option_map (λ (grant : Grant). let j : Join = record { input = input; port = port; grant = grant } in j) o
        each None = refl
        each (Some grant) = λ i. Some (record { input = input; port = record { 0 = same i }; grant = grant })

-- *The first that passes* is so still where another is put that doesn't
pub find_put : (test : Grant → Bool) (y x : Grant) (xs : List Grant) → test y ≡ false → grant_label x ≢ grant_label y → find test xs ≡ Some x → find test (put grant_label y xs) ≡ Some x
find_put test y x [] fails differs e = absurd (cc e)
find_put test y x (z ∷ xs) fails differs e = by_eq (grant_label z) (grant_label y)
    (λ same t. ap (λ (b : Bool). find test (if b then y ∷ xs else z ∷ put grant_label y xs)) t
    ∙ (ap (λ (b : Bool). if b then Some y else find test xs) fails ∙ behind same (test z) e))
    (λ other t. ap (λ (b : Bool). find test (if b then y ∷ xs else z ∷ put grant_label y xs)) t ∙ at_head (test z) e (find_put test y x xs fails differs))
  where
    one : (p q : Grant) → Some p ≡ Some q → p ≡ q
    one p q e = cc

    behind : grant_label z ≡ grant_label y → (b : Bool) → (if b then Some z else find test xs) ≡ Some x → find test xs ≡ Some x
    behind same true e = absurd (differs (ap grant_label (sym (one z x e)) ∙ same))
    behind same false e = e

    at_head : (b : Bool) → (if b then Some z else find test xs) ≡ Some x → (find test xs ≡ Some x → find test (put grant_label y xs) ≡ Some x)
        → (if b then Some z else find test (put grant_label y xs)) ≡ Some x
    at_head true e rest = e
    at_head false e rest = rest e

-- *One more is asked*
length_filter : (test : Standing → Bool) (xs : List Standing) → length (filter test xs) ≤ length xs
length_filter test [] = omega arith
length_filter test (x ∷ xs) = by (test x) (length_filter test xs)
  where
    by : (b : Bool) → length (filter test xs) ≤ length xs → length (if b then x ∷ filter test xs else filter test xs) ≤ suc (length xs)
    by true low = omega (arith, low)
    by false low = omega (arith, low)

length_more : (xs : List Standing) (y : Standing) → length (xs ++ y ∷ []) ≡ length xs + 1
length_more [] y = refl
length_more (x ∷ xs) y = (let rest : length (xs ++ y ∷ []) ≡ length xs + 1 = length_more xs y in omega (arith, rest))

pub asked_length : (desk : Desk) (request : Request) → length (asked desk request).standing ≤ length desk.standing + 1
asked_length desk request = low (length (filter kept desk.standing)) (length desk.standing) (length ((asked desk request).standing)) (length_filter kept desk.standing)
    (length_more (filter kept desk.standing) (record { number = desk.next; request = request }))
  where
    kept : Standing → Bool
    kept s = not (withdraws request s.request)

    low : (m n k : ℕ) → m ≤ n → k ≡ m + 1 → k ≤ n + 1
    low m n k p q = omega (arith, p, q)

-- nothing stands on an input still, where another is asked of
pub off_still : (test kept : Standing → Bool) (y : Standing) (xs : List Standing) → test y ≡ false → list_any test xs ≡ false → list_any test (filter kept xs ++ y ∷ []) ≡ false
off_still test kept y [] new h = ap (λ (b : Bool). b || false) new
off_still test kept y (x ∷ xs) new h = by (kept x) (off_still test kept y xs new (second (test x) (list_any test xs) h))
  where
    first : (p q : Bool) → (p || q) ≡ false → p ≡ false
    first true q e = absurd (cc e)
    first false q e = refl

    second : (p q : Bool) → (p || q) ≡ false → q ≡ false
    second true q e = absurd (cc e)
    second false q e = e

    by : (t : Bool) → list_any test (filter kept xs ++ y ∷ []) ≡ false → list_any test ((if t then x ∷ filter kept xs else filter kept xs) ++ y ∷ []) ≡ false
    by true rest = ap (λ (b : Bool). b || list_any test (filter kept xs ++ y ∷ [])) (first (test x) (list_any test xs) h) ∙ rest
    by false rest = rest
