-- by which names events carry from a queue, and which queues are empty

use Rattle.std.proofs.Common.{◌≡◌, ℕ, ◌==◌, ◌&&◌, ◌||◌, Bool, true, false, List, [], ◌∷◌, ◌++◌, append_assoc, length, Option, None, Some, refl, sym, ◌∙◌, ap, arith, if◌then◌else◌}
use Rattle.std.specs.Prelude.{flat_map, nat_eq}
use Rattle.std.specs.List.{list_all, list_any}
use Rattle.std.proofs.lemmas.Bool.Decides.{nat_tests}
use Rattle.law_world_pace.specs.world_model.Words.{NodeId, PortNo, Place, Down, Up, Out, Cell, World, Site, IsPort, IsPlaceOf, CanCome, at, site_key, site_at, place_node, places_of, queue_at, queue_number, same_queue, world_after}
use Rattle.law_world_pace.specs.world_model.World.{opened}
use Rattle.law_world_pace.specs.world_model.network_model.declared.event.Event.{Event}
use Rattle.law_world_pace.specs.world_model.network_model.declared.event.Event.TheVariants.{Carry}
use Rattle.law_world_pace.proofs.Ports.{linked_port}
use Rattle.law_passing.proofs.Queues.{one_queue}
use Rattle.law_live_carries.specs.Law.{QueuesHaveOneName, RunsCarryByName, EmptyQueuesAreEmpty}

are_one_node : (one other : Place) → same_queue one other ≡ true → (place_node one).0 ≡ (place_node other).0
are_one_node one other e = grind (arith, nat_tests, e)

are_one_number : (one other : Place) → same_queue one other ≡ true → queue_number one ≡ queue_number other
are_one_number one other e = grind (arith, nat_tests, e)

same_node : (m n : NodeId) → m.0 ≡ n.0 → m ≡ n
same_node m n e = λ i. record { 0 = e i }

same_port : (p q : PortNo) → p.0 ≡ q.0 → p ≡ q
same_port p q e = λ i. record { 0 = e i }

pub queues_have_one_name : QueuesHaveOneName
queues_have_one_name topology (Down m) (Down n) is one other e = ap Down (same_node m n (are_one_node (Down m) (Down n) e))
queues_have_one_name topology (Down m) (Up n) is one other e = absurd (omega (arith, are_one_number (Down m) (Up n) e))
queues_have_one_name topology (Down m) (Out n q) is one other e = absurd (omega (arith, are_one_number (Down m) (Out n q) e))
queues_have_one_name topology (Up m) (Down n) is one other e = absurd (omega (arith, are_one_number (Up m) (Down n) e))
queues_have_one_name topology (Up m) (Up n) is one other e = ap Up (same_node m n (are_one_node (Up m) (Up n) e))
queues_have_one_name topology (Up m) (Out n q) is one other e =
    let port : IsPort q = linked_port topology n q is other.1 in
    absurd (omega (arith, are_one_number (Up m) (Out n q) e, port.0))
queues_have_one_name topology (Out m p) (Down n) is one other e = absurd (omega (arith, are_one_number (Out m p) (Down n) e))
queues_have_one_name topology (Out m p) (Up n) is one other e =
    let port : IsPort p = linked_port topology m p is one.1 in
    absurd (omega (arith, are_one_number (Out m p) (Up n) e, port.0))
queues_have_one_name topology (Out m p) (Out n q) is one other e =
    let node : m ≡ n = same_node m n (are_one_node (Out m p) (Out n q) e) in
    let port : p ≡ q = same_port p q (omega (arith, are_one_number (Out m p) (Out n q) e)) in
    λ i. Out (node i) (port i)

pub runs_carry_by_name : RunsCarryByName
runs_carry_by_name policy topology past events place before cell after run meant is =
    let split : past ++ events ≡ (past ++ is.front) ++ Carry is.own ∷ is.rest =
    ap (λ (es : List Event). past ++ es) is.are ∙ sym (append_assoc past is.front (Carry is.own ∷ is.rest)) in
    let can : CanCome topology (world_after topology (opened policy topology) (past ++ is.front)) (Carry is.own) = run.each (past ++ is.front) is.rest (Carry is.own) split in
    queues_have_one_name topology is.own place run.topology_is can.meant meant is.one_queue

-- *Empty links*
module _ {A : Type 0} (test : A → Bool) where
  front_all : (xs ys : List A) → list_all test (xs ++ ys) ≡ true → list_all test xs ≡ true
  front_all [] ys h = refl
  front_all (x ∷ xs) ys h = by (test x) h (front_all xs ys)
    where
      by : (b : Bool) → (b && list_all test (xs ++ ys)) ≡ true → (list_all test (xs ++ ys) ≡ true → list_all test xs ≡ true) → (b && list_all test xs) ≡ true
      by true h later = later h
      by false h later = absurd (cc h)

  rest_all : (xs ys : List A) → list_all test (xs ++ ys) ≡ true → list_all test ys ≡ true
  rest_all [] ys h = h
  rest_all (x ∷ xs) ys h = by (test x) h (rest_all xs ys)
    where
      by : (b : Bool) → (b && list_all test (xs ++ ys)) ≡ true → (list_all test (xs ++ ys) ≡ true → list_all test ys ≡ true) → list_all test ys ≡ true
      by true h later = later h
      by false h later = absurd (cc h)

module _ (w : World) where
  abbrev holds_none : Place → Bool
  holds_none place = length (queue_at w place) == 0

  none_there : (cells : List Cell) → (length cells == 0) ≡ true → cells ≡ []
  none_there [] h = refl
  none_there (cell ∷ cells) h = absurd (grind (arith, nat_tests, h))

  of_site : (k : ℕ) (sites : List Site) (site : Site) → at site_key k sites ≡ Some site → list_all holds_none (flat_map places_of sites) ≡ true → list_all holds_none (places_of site) ≡ true
  of_site k [] site found h = absurd (cc found)
  of_site k (s ∷ sites) site found h = by (nat_eq (site_key s) k) found (of_site k sites site)
    where
      one : (a b : Site) → Some a ≡ Some b → a ≡ b
      one a b e = cc

      by : (b : Bool) → (if b then Some s else at site_key k sites) ≡ Some site
          → (at site_key k sites ≡ Some site → list_all holds_none (flat_map places_of sites) ≡ true → list_all holds_none (places_of site) ≡ true)
          → list_all holds_none (places_of site) ≡ true
      by true found later = ap (λ (x : Site). list_all holds_none (places_of x)) (sym (one s site found)) ∙ front_all holds_none (places_of s) (flat_map places_of sites) h
      by false found later = later found (rest_all holds_none (places_of s) (flat_map places_of sites) h)

  of_place : (place : Place) (ps : List Place) → list_any (same_queue place) ps ≡ true → list_all holds_none ps ≡ true → queue_at w place ≡ []
  of_place place [] any all = absurd (cc any)
  of_place place (p ∷ ps) any all = by (same_queue place p) refl any (holds_none p) refl all (of_place place ps)
    where
      by : (b : Bool) → same_queue place p ≡ b → (b || list_any (same_queue place) ps) ≡ true
          → (c : Bool) → holds_none p ≡ c → (c && list_all holds_none ps) ≡ true
          → (list_any (same_queue place) ps ≡ true → list_all holds_none ps ≡ true → queue_at w place ≡ []) → queue_at w place ≡ []
      by true e any true f all later = one_queue w place p (are_one_node place p e) (are_one_number place p e) ∙ none_there (queue_at w p) f
      by false e any true f all later = later any all
      by true e any false f all later = absurd (cc all)
      by false e any false f all later = absurd (cc all)

pub empty_queues_are_empty : EmptyQueuesAreEmpty
empty_queues_are_empty w place empty there = by (site_at w (place_node place)) refl there
  where
    by : (o : Option Site) → site_at w (place_node place) ≡ o → IsPlaceOf place o → queue_at w place ≡ []
    by None found there = absurd there
    by (Some site) found there = of_place w place (places_of site) there (of_site w (place_node place).0 w.sites site found empty)
