-- One more port of a layout.

use Rattle.std.proofs.Common.{◌≡◌, ℕ, suc, zero, ◌+◌, ◌<◌, ◌≤◌, Bool, true, false, cond, nat_eq, List, [], ◌∷◌, ◌++◌, length, get_or, map, take, None, Some, refl, sym, ap, ◌∙◌, arith, ◌⊎◌, inl, inr}
use Rattle.std.proofs.Math.ListN.{set}
use Rattle.std.proofs.lemmas.Bool.{eqb-true}
use Rattle.std.proofs.lemmas.Bool.Decides.{nat_tests}
use Rattle.std.proofs.lemmas.List.{get_or_default, get_or-map, get_or-set_other, get_or-set_same, get_or-take, length-map, length-take-le}
use Rattle.std.proofs.lemmas.List.Kept.{AllPairs-from_increasing}
use Rattle.net_types.specs.declared.node.PortNo.{PortNo}
use Rattle.crossbar_model.specs.Channels.{ArePorts}
use Rattle.world_model.specs.controller_model.declared.range.PortRange.{PortRange}
use Rattle.controller_link.specs.declared.layout.Block.{Block}
use Rattle.controller_link.specs.Cells.{range_at}
use Rattle.controller_link.specs.Layout.{count_of, first_of, width}

abbrev pub ports_of : List PortRange → List PortNo
ports_of ranges = map (λ r. r.port) ranges

-- *The ports ascend*, so that at place i the port is above i

port_at_place : (ranges : List PortRange) (k : ℕ) (d : PortRange) (e : ℕ) → k < length ranges → get_or (map (λ (p : PortNo). p.0) (ports_of ranges)) k e ≡ (get_or ranges k d).port.0
port_at_place [] k d e within = absurd (omega (arith, within))
port_at_place (r ∷ ranges) zero d e within = refl
port_at_place (r ∷ ranges) (suc k) d e within = port_at_place ranges k d e (omega (arith, within))

length-numbers : (ranges : List PortRange) → length (map (λ (p : PortNo). p.0) (ports_of ranges)) ≡ length ranges
length-numbers [] = refl
length-numbers (r ∷ ranges) = ap suc (length-numbers ranges)

pub link_port : (ranges : List PortRange) (k : ℕ) (d : PortRange) → ArePorts (ports_of ranges) → k < length ranges → (1 ≤ (get_or ranges k d).port.0) × ((get_or ranges k d).port.0 ≤ 8)
link_port ranges k d are within =
    let size : length (ports_of ranges) ≡ length ranges = length-map ranges (λ (r : PortRange). r.port) in
    rw (get_or-map (λ (r : PortRange). r.port) ranges k d d.port within) at (are.of_links k d.port (omega (arith, within, size)))

pub port_below : (ranges : List PortRange) (j k : ℕ) (d : PortRange) → ArePorts (ports_of ranges) → j < k → k < length ranges → (get_or ranges j d).port.0 < (get_or ranges k d).port.0
port_below ranges j k d are low within =
    let size = length-numbers ranges in
    let pair = AllPairs-from_increasing (map (λ (p : PortNo). p.0) (ports_of ranges)) are.ascending j k 0 low (omega (arith, within, size)) in
    omega (arith, pair, port_at_place ranges j d 0 (omega (arith, low, within)), port_at_place ranges k d 0 within)

pub place_below : (ranges : List PortRange) (k : ℕ) (d : PortRange) → ArePorts (ports_of ranges) → k < length ranges → k < (get_or ranges k d).port.0
place_below ranges zero d are within = omega (arith, (link_port ranges zero d are within).0)
place_below ranges (suc k) d are within = omega (arith, place_below ranges k d are (omega (arith, within)), port_below ranges k (suc k) d are (omega arith) within)

-- *No port before has the number*

none_at : (ranges : List PortRange) (port : PortNo) → ((k : ℕ) (d : PortRange) → k < length ranges → (get_or ranges k d).port.0 < port.0) → range_at ranges port ≡ None
none_at [] port below = refl
none_at (r ∷ ranges) port below = rw (other r.port.0 port.0 (below 0 r (omega arith))) (none_at ranges port (λ k d w. below (suc k) d (omega (arith, w)))) where
  other : (a b : ℕ) → a < b → nat_eq a b ≡ false
  other a b low = grind (arith, nat_tests)

pub fresh_port : (ranges : List PortRange) (i : ℕ) (d : PortRange) → ArePorts (ports_of ranges) → i < length ranges → range_at (take i ranges) (get_or ranges i d).port ≡ None
fresh_port ranges i d are within =
    let size : length (take i ranges) ≡ i = length-take-le i ranges (omega (arith, within)) in
    none_at (take i ranges) (get_or ranges i d).port (λ k e w.
    let low : k < i = omega (arith, w, size) in
    let pair : (get_or ranges k e).port.0 < (get_or ranges i e).port.0 = port_below ranges k i e are low within in
    let same : get_or ranges i e ≡ get_or ranges i d = get_or_default ranges i e d within in
    let taken : get_or (take i ranges) k e ≡ get_or ranges k e = get_or-take i ranges k e low in
    rw (taken, ← same) pair)

-- *One more port*

pub count_push : (ranges : List PortRange) (r : PortRange) → count_of (ranges ++ r ∷ []) ≡ count_of ranges + width r
count_push [] r = omega arith
count_push (first ∷ ranges) r = omega (arith, count_push ranges r)

pub record IsPushed (ranges : List PortRange) (r : PortRange) (port : PortNo) (range : PortRange) (first : ℕ) : Type 0 where
  pub absent : range_at ranges port ≡ None
  pub same : r ≡ range
  pub number : r.port.0 ≡ port.0
  pub place : first ≡ count_of ranges

pub found_in_pushed : (ranges : List PortRange) (r : PortRange) (port : PortNo) (range : PortRange) → range_at (ranges ++ r ∷ []) port ≡ Some range
    → ((range_at ranges port ≡ Some range) × (first_of (ranges ++ r ∷ []) port ≡ first_of ranges port)) ⊎ IsPushed ranges r port range (first_of (ranges ++ r ∷ []) port)
found_in_pushed [] r port range e = by (nat_eq r.port.0 port.0) refl e where
  by : (b : Bool) → nat_eq r.port.0 port.0 ≡ b → cond b (Some r) None ≡ Some range
      → ((None ≡ Some range) × (1 + cond b 0 (width r + 0) ≡ 1)) ⊎ IsPushed [] r port range (1 + cond b 0 (width r + 0))
  by true same e = inr (record { absent = refl; same = cc e; number = eqb-true r.port.0 port.0 same; place = refl })
  by false same e = absurd (cc e)
found_in_pushed (x ∷ ranges) r port range e = by (found_in_pushed ranges r port range) (nat_eq x.port.0 port.0) refl where
  by : (range_at (ranges ++ r ∷ []) port ≡ Some range → ((range_at ranges port ≡ Some range) × (first_of (ranges ++ r ∷ []) port ≡ first_of ranges port)) ⊎ IsPushed ranges r port range (first_of (ranges ++ r ∷ []) port))
      → (b : Bool) → nat_eq x.port.0 port.0 ≡ b
      → ((range_at (x ∷ ranges) port ≡ Some range) × (first_of (x ∷ ranges ++ r ∷ []) port ≡ first_of (x ∷ ranges) port)) ⊎ IsPushed (x ∷ ranges) r port range (first_of (x ∷ ranges ++ r ∷ []) port)
  by rest true same = inl (rw same (rw same at e), rw same refl)
  by rest false same =
      elim (rest (rw same at e)) [
        | inl pair ↦ inl (rw same pair.0, rw same (omega (arith, pair.1)))
        | inr pushed ↦ inr (record { absent = rw same pushed.absent; same = pushed.same; number = pushed.number; place = rw same (omega (arith, pushed.place)) })
      ]

abbrev pub HasEach : List PortRange → List Block → Type 0
HasEach ranges blocks =
    (port : PortNo) (range : PortRange) (d : Block) → range_at ranges port ≡ Some range → get_or blocks port.0 d ≡ record { range = range; first = first_of ranges port }

not_at : (ranges : List PortRange) (a b : PortNo) (range : PortRange) → range_at ranges a ≡ None → range_at ranges b ≡ Some range → b.0 ≡ a.0 → ⊥
not_at ranges a b range none found e = cc (sym none ∙ ap (λ n. range_at ranges (record { 0 = n })) (sym e) ∙ found)

pub each_push : (ranges : List PortRange) (r : PortRange) (blocks : List Block) (count : ℕ) → r.port.0 < length blocks → range_at ranges r.port ≡ None → count ≡ count_of ranges → HasEach ranges blocks → HasEach (ranges ++ r ∷ []) (set blocks r.port.0 (record { range = r; first = count }))
each_push ranges r blocks count inside absent counted each = λ port range d e.
    let new : Block = record { range = r; first = count } in
    elim (found_in_pushed ranges r port range e) [
      | inl pair ↦
          get_or-set_other blocks r.port.0 port.0 new d (not_at ranges r.port port range absent pair.0) ∙ each port range d pair.0
          ∙ (λ i. record { range = range; first = sym pair.1 i })
      | inr pushed ↦
          (rw (← pushed.number) (get_or-set_same blocks r.port.0 new d inside))
          ∙ (λ i. record { range = pushed.same i; first = (counted ∙ sym pushed.place) i })
    ]

pub none_each : (blocks : List Block) → HasEach [] blocks
none_each blocks = λ port range d e. absurd (cc e)

-- a port that is there is one of the numbers 1 to 8
inside_by : (xs : List PortRange) (port : PortNo) (range : PortRange) → ((k : ℕ) (d : PortRange) → k < length xs → (get_or xs k d).port.0 ≤ 8) → range_at xs port ≡ Some range → port.0 < 9
inside_by [] port range low e = absurd (cc e)
inside_by (x ∷ xs) port range low e = by (inside_by xs port range (λ k d w. low (suc k) d (omega (arith, w)))) (nat_eq x.port.0 port.0) refl e (low 0 x (omega arith)) where
  by : (range_at xs port ≡ Some range → port.0 < 9) → (b : Bool) → nat_eq x.port.0 port.0 ≡ b → cond b (Some x) (range_at xs port) ≡ Some range → x.port.0 ≤ 8 → port.0 < 9
  by rest true same e low = let is : x.port.0 ≡ port.0 = eqb-true x.port.0 port.0 same in omega (arith, is, low)
  by rest false same e low = rest e

pub port_inside : (ranges : List PortRange) (port : PortNo) (range : PortRange) → ArePorts (ports_of ranges) → range_at ranges port ≡ Some range → port.0 < 9
port_inside ranges port range are e = inside_by ranges port range (λ k d w. (link_port ranges k d are w).1) e

pub few_ports : (ranges : List PortRange) → ArePorts (ports_of ranges) → length ranges ≤ 8
few_ports [] are = omega arith
few_ports (r ∷ ranges) are =
    let within : length ranges < length (r ∷ ranges) = omega arith in
    omega (arith, place_below (r ∷ ranges) (length ranges) r are within, (link_port (r ∷ ranges) (length ranges) r are within).1)
