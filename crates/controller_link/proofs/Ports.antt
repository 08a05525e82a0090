-- The ports of a control link, whose channels stand in one list.

use Rattle.std.proofs.Common.{◌≡◌, ℕ, suc, zero, ◌+◌, ◌-◌, ◌<◌, ◌≤◌, Bool, true, false, cond, nat_eq, List, [], ◌∷◌, length, get_or, map, take, drop, Option, None, Some, is_some, refl, sym, ap, ◌∙◌, arith, replicate}
use Rattle.std.proofs.Math.ListN.{set}
use Rattle.std.specs.List.{sum_by}
use Rattle.std.specs.Option.{option_map_or}
use Rattle.std.proofs.lemmas.Bool.{eqb-true, eq-eqb}
use Rattle.std.proofs.lemmas.Bool.Decides.{nat_tests}
use Rattle.std.proofs.lemmas.List.{drop-drop, drop-set-add, drop-set-lt, get_or-drop, get_or-set_other, get_or-set_same, get_or-take, length-drop, length-take-le, take-set-le}
use Rattle.std.proofs.lemmas.List.Sums.{sum_by-cons, sum_by-take-drop}
use Rattle.net_types.specs.declared.node.PortNo.{PortNo}
use Rattle.frame_model.specs.Reassembly.{Reassembly, nothing_taken}
use Rattle.keyed_lists.specs.Keyed.{at, put}
use Rattle.world_model.specs.controller_model.declared.range.PortRange.{PortRange}
use Rattle.world_model.specs.Controller.{chains_with}
use Rattle.controller_link.specs.declared.taker.Taker.{Taker}
use Rattle.controller_link.specs.declared.taker.Taker.TheVariants.{Gsmp, Default, Label}
use Rattle.controller_link.specs.Cells.{PortCells, free_slots, is_channel, is_label_of, opened, port_key, port_slots, range_at, reassembly_of, with_reassembly}
use Rattle.controller_link.specs.Layout.{behind, count_of, first_of, place_of, width}
use Rattle.controller_link.specs.Link.{AreChannels, cells_in, chains_from, port_in, ports_in}
use Rattle.controller_link.specs.Store.{Stored, free_in, reassembly_at, with_chain}
use Rattle.controller_link.proofs.Chains.{chain_of_from, chains_with_set, slots_from}

-- *The ranges are those of the ports*

pub ranges_in : (ranges : List PortRange) (rs : List Reassembly) → map (λ (p : PortCells). p.range) (ports_in ranges rs) ≡ ranges
ranges_in [] rs = refl
ranges_in (range ∷ ranges) rs = ap (λ (x : List PortRange). range ∷ x) (ranges_in ranges (drop (width range) rs))

-- *A port that is there*

pub port_found : (ranges : List PortRange) (rs : List Reassembly) (port : PortNo) (range : PortRange) → range_at ranges port ≡ Some range → at port_key port.0 (ports_in ranges rs) ≡ Some (port_in range (drop (behind ranges port) rs))
port_found [] rs port range e = absurd (cc e)
port_found (first ∷ ranges) rs port range e = by (port_found ranges (drop (width first) rs) port range) (nat_eq first.port.0 port.0) e where
  by : (range_at ranges port ≡ Some range → at port_key port.0 (ports_in ranges (drop (width first) rs)) ≡ Some (port_in range (drop (behind ranges port) (drop (width first) rs)))) → (b : Bool)
      → cond b (Some first) (range_at ranges port) ≡ Some range
      → cond b (Some (port_in first rs)) (at port_key port.0 (ports_in ranges (drop (width first) rs))) ≡ Some (port_in range (drop (cond b 0 (width first + behind ranges port)) rs))
  by rest true e = let is : first ≡ range = cc e in ap (λ (r : PortRange). Some (port_in r rs)) is
  by rest false e = rest e ∙ ap (λ (xs : List Reassembly). Some (port_in range xs)) (drop-drop (behind ranges port) (width first) rs)

pub range_key_is : (ranges : List PortRange) (port : PortNo) (range : PortRange) → range_at ranges port ≡ Some range → range.port.0 ≡ port.0
range_key_is [] port range e = absurd (cc e)
range_key_is (first ∷ ranges) port range e = by (range_key_is ranges port range) (nat_eq first.port.0 port.0) refl e where
  by : (range_at ranges port ≡ Some range → range.port.0 ≡ port.0) → (b : Bool) → nat_eq first.port.0 port.0 ≡ b → cond b (Some first) (range_at ranges port) ≡ Some range → range.port.0 ≡ port.0
  by rest true same e = let is : first ≡ range = cc e in rw (← is) (eqb-true first.port.0 port.0 same)
  by rest false same e = rest e

-- *A place of a port's block*

take-set_in : (n : ℕ) (rs : List Reassembly) (j : ℕ) (x : Reassembly) → j < n → take n (set rs j x) ≡ set (take n rs) j x
take-set_in zero rs j x low = absurd (omega (arith, low))
take-set_in (suc n) [] j x low = refl
take-set_in (suc n) (r ∷ rs) zero x low = refl
take-set_in (suc n) (r ∷ rs) (suc j) x low = ap (λ (xs : List Reassembly). r ∷ xs) (take-set_in n rs j x (omega (arith, low)))

-- the default channel changes
pub default_set : (range : PortRange) (rs : List Reassembly) (x : Reassembly) → 0 < length rs → port_in range (set rs 0 x) ≡ record (port_in range rs) { reassembly = x }
default_set range [] x some = absurd (omega (arith, some))
default_set range (r ∷ rs) x some = refl

-- the channel of a label changes
pub label_set : (range : PortRange) (rs : List Reassembly) (number : ℕ) (x : Reassembly) → range.lo ≤ number → number ≤ range.hi → width range ≤ length rs → port_in range (set rs (1 + (number - range.lo)) x) ≡ record (port_in range rs) { chains = chains_with (port_in range rs).chains number x }
label_set range rs number x low high long =
    let j = number - range.lo in
    let n = width range - 1 in
    let short : j < n = omega (arith, low, high) in
    let inside : j < length (take n (drop 1 rs)) = omega (arith, short, long, length-drop 1 rs, length-take-le n (drop 1 rs)) in
    let chains : chains_with (chains_from range.lo (take n (drop 1 rs))) number x ≡ chains_from range.lo (set (take n (drop 1 rs)) j x) = chains_with_set range.lo number (take n (drop 1 rs)) j x (omega (arith, low)) inside in
    let first : get_or (set rs (1 + j) x) 0 nothing_taken ≡ get_or rs 0 nothing_taken = get_or-set_other rs (1 + j) 0 x nothing_taken (λ e. omega (arith, e)) in
    let rest : take n (drop 1 (set rs (1 + j) x)) ≡ set (take n (drop 1 rs)) j x = ap (take n) (drop-set-add 1 rs j x) ∙ take-set_in n (drop 1 rs) j x short in
    λ i. record { range = range; reassembly = first i; chains = (ap (chains_from range.lo) rest ∙ sym chains) i }

-- what one block has, a place behind it doesn't change
front_kept : (range : PortRange) (rs : List Reassembly) (k : ℕ) (x : Reassembly) → port_in range (set rs (width range + k) x) ≡ port_in range rs
front_kept range rs k x =
    let n = width range - 1 in
    let m = n + k in
    let at : width range + k ≡ 1 + m = omega arith in
    let first : get_or (set rs (1 + m) x) 0 nothing_taken ≡ get_or rs 0 nothing_taken = get_or-set_other rs (1 + m) 0 x nothing_taken (λ e. omega (arith, e)) in
    let rest : take n (drop 1 (set rs (1 + m) x)) ≡ take n (drop 1 rs) = ap (take n) (drop-set-add 1 rs m x) ∙ take-set-le n (drop 1 rs) m x (omega arith) in
    rw at (λ i. record { range = range; reassembly = first i; chains = ap (chains_from range.lo) rest i })

-- *A port changes*, where a place of its block does

put_here : (p q : PortCells) (ps : List PortCells) → nat_eq (port_key p) (port_key q) ≡ true → put port_key q (p ∷ ps) ≡ q ∷ ps
put_here p q ps e = rw e refl

put_past : (p q : PortCells) (ps : List PortCells) → nat_eq (port_key p) (port_key q) ≡ false → put port_key q (p ∷ ps) ≡ p ∷ put port_key q ps
put_past p q ps e = rw e refl

pub some_count : (ranges : List PortRange) → 1 ≤ count_of ranges
some_count [] = omega arith
some_count (first ∷ ranges) = omega (arith, some_count ranges)

module _ (port : PortNo) (range : PortRange) (j : ℕ) (x : Reassembly) (f : PortCells → PortCells) (keeps : (q : PortCells) → (f q).range ≡ q.range) (changes : (rs : List Reassembly) → width range ≤ length rs → port_in range (set rs j x) ≡ f (port_in range rs)) (inside : j < width range) where
  key_is : (rs : List Reassembly) → port_key (f (port_in range rs)) ≡ range.port.0
  key_is rs = ap (λ (r : PortRange). r.port.0) (keeps (port_in range rs))

  set_here : (ranges : List PortRange) (rs : List Reassembly) → width range ≤ length rs → ports_in (range ∷ ranges) (set rs j x) ≡ put port_key (f (port_in range rs)) (ports_in (range ∷ ranges) rs)
  set_here ranges rs long =
      let head : port_in range (set rs j x) ≡ f (port_in range rs) = changes rs long in
      let rest : drop (width range) (set rs j x) ≡ drop (width range) rs = drop-set-lt (width range) rs j x inside in
      (λ i. head i ∷ ports_in ranges (rest i))
      ∙ sym (put_here (port_in range rs) (f (port_in range rs)) (ports_in ranges (drop (width range) rs)) (eq-eqb range.port.0 (port_key (f (port_in range rs))) (sym (key_is rs))))

  set_behind : (first : PortRange) (ranges : List PortRange) (rs : List Reassembly) (m : ℕ) → nat_eq first.port.0 range.port.0 ≡ false
      → ports_in ranges (set (drop (width first) rs) m x) ≡ put port_key (f (port_in range (drop (behind ranges port) (drop (width first) rs)))) (ports_in ranges (drop (width first) rs))
      → ports_in (first ∷ ranges) (set rs (width first + m) x) ≡ put port_key (f (port_in range (drop (width first + behind ranges port) rs))) (ports_in (first ∷ ranges) rs)
  set_behind first ranges rs m other rest =
      let w = width first in
      let b = behind ranges port in
      let ys : List Reassembly = drop w rs in
      let q : PortCells = f (port_in range (drop b ys)) in
      let one : port_in first (set rs (w + m) x) ≡ port_in first rs = front_kept first rs m x in
      let two : drop w (set rs (w + m) x) ≡ set ys m x = drop-set-add w rs m x in
      let differs : nat_eq (port_key (port_in first rs)) (port_key q) ≡ false = ap (λ n. nat_eq first.port.0 n) (key_is (drop b ys)) ∙ other in
      (λ i. one i ∷ ports_in ranges (two i)) ∙ ap (λ (ps : List PortCells). port_in first rs ∷ ps) rest
      ∙ sym (put_past (port_in first rs) q (ports_in ranges ys) differs)
      ∙ ap (λ (xs : List Reassembly). put port_key (f (port_in range xs)) (ports_in (first ∷ ranges) rs)) (drop-drop b w rs)

  pub port_set : (ranges : List PortRange) (rs : List Reassembly) (k : ℕ) → k ≡ behind ranges port + j → range_at ranges port ≡ Some range → count_of ranges ≤ suc (length rs) → ports_in ranges (set rs k x) ≡ put port_key (f (port_in range (drop (behind ranges port) rs))) (ports_in ranges rs)
  port_set [] rs k at e long = absurd (cc e)
  port_set (first ∷ ranges) rs k at e long =
      by (λ m at e. port_set ranges (drop (width first) rs) m at e (omega (arith, long, some_count ranges, length-drop (width first) rs))) (some_count ranges) (nat_eq first.port.0 port.0) refl e at where
        by : ((m : ℕ) → m ≡ behind ranges port + j → range_at ranges port ≡ Some range → ports_in ranges (set (drop (width first) rs) m x) ≡ put port_key (f (port_in range (drop (behind ranges port) (drop (width first) rs)))) (ports_in ranges (drop (width first) rs)))
            → 1 ≤ count_of ranges → (b : Bool) → nat_eq first.port.0 port.0 ≡ b → cond b (Some first) (range_at ranges port) ≡ Some range → k ≡ cond b 0 (width first + behind ranges port) + j
            → ports_in (first ∷ ranges) (set rs k x) ≡ put port_key (f (port_in range (drop (cond b 0 (width first + behind ranges port)) rs))) (ports_in (first ∷ ranges) rs)
        by rest some true same e at =
            let is : first ≡ range = cc e in
            let place : k ≡ j = omega (arith, at) in
            rw (place, is) (set_here ranges rs (rw is at (first_long some)))
          where
            first_long : 1 ≤ count_of ranges → width first ≤ length rs
            first_long some = omega (arith, some, long)
        by rest some false same e at =
            let place : k ≡ width first + (behind ranges port + j) = omega (arith, at) in
            let other : nat_eq first.port.0 range.port.0 ≡ false = rw (range_key_is ranges port range e) same in
            rw place (set_behind first ranges rs (behind ranges port + j) other (rest (behind ranges port + j) refl e))

-- *The block of a port is within*

pub block_within : (ranges : List PortRange) (port : PortNo) (range : PortRange) → range_at ranges port ≡ Some range → behind ranges port + width range + 1 ≤ count_of ranges
block_within [] port range e = absurd (cc e)
block_within (first ∷ ranges) port range e = by (block_within ranges port range) (some_count ranges) (nat_eq first.port.0 port.0) e where
  by : (range_at ranges port ≡ Some range → behind ranges port + width range + 1 ≤ count_of ranges) → 1 ≤ count_of ranges → (b : Bool) → cond b (Some first) (range_at ranges port) ≡ Some range
      → cond b 0 (width first + behind ranges port) + width range + 1 ≤ width first + count_of ranges
  by rest some true e = let is : first ≡ range = cc e in let wide : width first ≡ width range = ap width is in omega (arith, wide, some)
  by rest some false e = omega (arith, rest e)

-- *A label of a range*

label_low : (range : PortRange) (number : ℕ) → is_label_of range number ≡ true → range.lo ≤ number
label_low range number e = grind (arith, nat_tests, e)

label_high : (range : PortRange) (number : ℕ) → is_label_of range number ≡ true → number ≤ range.hi
label_high range number e = grind (arith, nat_tests, e)

pub record IsLabel (ranges : List PortRange) (port : PortNo) (number : ℕ) (range : PortRange) : Type 0 where
  pub found : range_at ranges port ≡ Some range
  pub low : range.lo ≤ number
  pub high : number ≤ range.hi

pub label_there : (ranges : List PortRange) (port : PortNo) (number : ℕ) → is_channel ranges (Label port number) ≡ true → (range : PortRange) × IsLabel ranges port number range
label_there ranges port number e = by (range_at ranges port) refl e where
  by : (o : Option PortRange) → range_at ranges port ≡ o → option_map_or (λ range. is_label_of range number) o false ≡ true → (range : PortRange) × IsLabel ranges port number range
  by None found e = absurd (cc e)
  by (Some range) found e = (range, record { found = found; low = label_low range number e; high = label_high range number e })

pub default_there : (ranges : List PortRange) (port : PortNo) → is_channel ranges (Default port) ≡ true → (range : PortRange) × (range_at ranges port ≡ Some range)
default_there ranges port e = by (range_at ranges port) refl e where
  by : (o : Option PortRange) → range_at ranges port ≡ o → is_some o ≡ true → (range : PortRange) × (range_at ranges port ≡ Some range)
  by None found e = absurd (cc e)
  by (Some range) found e = (range, found)

pub place_within : (ranges : List PortRange) (taker : Taker) → is_channel ranges taker ≡ true → place_of ranges taker < count_of ranges
place_within ranges Gsmp e = omega (arith, some_count ranges)
place_within ranges (Default port) e =
    let there = default_there ranges port e in
    omega (arith, block_within ranges port there.0 there.1)
place_within ranges (Label port number) e =
    let there = label_there ranges port number e in
    let label : IsLabel ranges port number there.0 = there.1 in
    let block = block_within ranges port there.0 label.found in
    rw label.found (omega (arith, block, label.low, label.high))

pub label_of_range : (ranges : List PortRange) (port : PortNo) (number : ℕ) (range : PortRange) → is_channel ranges (Label port number) ≡ true → range_at ranges port ≡ Some range → (range.lo ≤ number) × (number ≤ range.hi)
label_of_range ranges port number range e found =
    let inside : is_label_of range number ≡ true = rw found at e in
    (label_low range number inside, label_high range number inside)

-- *The reassembly of a channel is the one at its place*

pub reassembly_is : (ranges : List PortRange) (s : Stored) (taker : Taker) → is_channel ranges taker ≡ true → reassembly_of (cells_in ranges s) taker ≡ reassembly_at s (place_of ranges taker)
reassembly_is ranges s Gsmp e = refl
reassembly_is ranges s (Default port) e =
    let there = default_there ranges port e in
    let b = behind ranges port in
    rw (port_found ranges (drop 1 s.chains) port there.0 there.1)
    (get_or-drop b (drop 1 s.chains) 0 nothing_taken ∙ get_or-drop 1 s.chains (b + 0) nothing_taken ∙ ap (λ n. get_or s.chains n nothing_taken) (place b))
  where
    place : (b : ℕ) → 1 + (b + 0) ≡ 1 + b
    place b = omega arith
reassembly_is ranges s (Label port number) e =
    let there = label_there ranges port number e in
    let range = there.0 in
    let label : IsLabel ranges port number range = there.1 in
    let b = behind ranges port in
    let ys : List Reassembly = drop b (drop 1 s.chains) in
    let n = width range - 1 in
    let j = number - range.lo in
    let low = label.low in
    let high = label.high in
    rw (port_found ranges (drop 1 s.chains) port range label.found, label.found)
    (chain_of_from range.lo number (take n (drop 1 ys)) j (omega (arith, low))
    ∙ get_or-take n (drop 1 ys) j nothing_taken (omega (arith, low, high)) ∙ get_or-drop 1 ys j nothing_taken
    ∙ get_or-drop b (drop 1 s.chains) (1 + j) nothing_taken ∙ get_or-drop 1 s.chains (b + (1 + j)) nothing_taken
    ∙ ap (λ k. get_or s.chains k nothing_taken) (place b j))
  where
    place : (b j : ℕ) → 1 + (b + (1 + j)) ≡ 1 + b + 1 + j
    place b j = omega arith

-- *A channel changes where the reassembly at its place does*

changed_ports : (ranges : List PortRange) (s : Stored) (k : ℕ) (r : Reassembly) (ports : List PortCells) → ports_in ranges (set (drop 1 s.chains) k r) ≡ ports → record (cells_in ranges s) { ports = ports } ≡ cells_in ranges (with_chain s (1 + k) r)
changed_ports ranges s k r ports is =
    let first : get_or (set s.chains (1 + k) r) 0 nothing_taken ≡ get_or s.chains 0 nothing_taken = get_or-set_other s.chains (1 + k) 0 r nothing_taken (λ e. omega (arith, e)) in
    λ i. record { cells = s.cells; queue = s.queue; reassembly = sym first i; ports = (sym is ∙ ap (ports_in ranges) (sym (drop-set-add 1 s.chains k r))) i }

pub changed_is : (ranges : List PortRange) (s : Stored) (taker : Taker) (r : Reassembly) → AreChannels ranges s → is_channel ranges taker ≡ true → with_reassembly (cells_in ranges s) taker r ≡ cells_in ranges (with_chain s (place_of ranges taker) r)
changed_is ranges s Gsmp r are e =
    let some = some_count ranges in
    let first : get_or (set s.chains 0 r) 0 nothing_taken ≡ r = get_or-set_same s.chains 0 r nothing_taken (omega (arith, are, some)) in
    λ i. record { cells = s.cells; queue = s.queue; reassembly = sym first i; ports = ap (ports_in ranges) (sym (drop-set-lt 1 s.chains 0 r (omega arith))) i }
changed_is ranges s (Default port) r are e =
    let there = default_there ranges port e in
    let range = there.0 in
    let rs : List Reassembly = drop 1 s.chains in
    let some = some_count ranges in
    rw (port_found ranges rs port range there.1)
    (changed_ports ranges s (behind ranges port) r (put port_key (record (port_in range (drop (behind ranges port) rs)) { reassembly = r }) (ports_in ranges rs))
    (port_set port range 0 r (λ q. record q { reassembly = r }) (λ q. refl) (λ xs long. default_set range xs r (omega (arith, long))) (omega arith) ranges rs (behind ranges port) (omega arith) there.1 (omega (arith, are, some, length-drop 1 s.chains))))
changed_is ranges s (Label port number) r are e =
    let there = label_there ranges port number e in
    let range = there.0 in
    let label : IsLabel ranges port number range = there.1 in
    let rs : List Reassembly = drop 1 s.chains in
    let some = some_count ranges in
    let low = label.low in
    let high = label.high in
    let j = 1 + (number - range.lo) in
    let at : first_of ranges port + 1 + (number - range.lo) ≡ 1 + (behind ranges port + j) = omega arith in
    rw (port_found ranges rs port range label.found, label.found, at)
    (changed_ports ranges s (behind ranges port + j) r (put port_key (record (port_in range (drop (behind ranges port) rs)) { chains = chains_with (port_in range (drop (behind ranges port) rs)).chains number r }) (ports_in ranges rs))
    (port_set port range j r (λ q. record q { chains = chains_with q.chains number r }) (λ q. refl) (λ xs long. label_set range xs number r low high long) (omega (arith, low, high)) ranges rs (behind ranges port + j) refl label.found (omega (arith, are, some, length-drop 1 s.chains))))

-- *Slots*

port_slots_in : (range : PortRange) (rs : List Reassembly) → width range ≤ length rs → port_slots (port_in range rs) + sum_by (λ (r : Reassembly). length r.chain) (drop (width range) rs) ≡ sum_by (λ (r : Reassembly). length r.chain) rs
port_slots_in range [] long = absurd (omega (arith, long))
port_slots_in range (r ∷ rs) long =
    let n = width range - 1 in
    let wide : width range ≡ suc n = omega arith in
    let chains = slots_from range.lo (take n rs) in
    let parts = sum_by-take-drop (λ (x : Reassembly). length x.chain) rs n in
    let whole = sum_by-cons (λ (x : Reassembly). length x.chain) r rs in
    let rest : drop (width range) (r ∷ rs) ≡ drop n rs = ap (λ k. drop k (r ∷ rs)) wide in
    rw rest (omega (arith, chains, parts, whole))

ports_slots : (ranges : List PortRange) (rs : List Reassembly) → suc (length rs) ≡ count_of ranges → sum_by port_slots (ports_in ranges rs) ≡ sum_by (λ (r : Reassembly). length r.chain) rs
ports_slots [] [] e = refl
ports_slots [] (r ∷ rs) e = absurd (omega (arith, e))
ports_slots (range ∷ ranges) rs e =
    let some = some_count ranges in
    let front = port_slots_in range rs (omega (arith, e, some)) in
    let rest = ports_slots ranges (drop (width range) rs) (omega (arith, e, some, length-drop (width range) rs)) in
    let whole = sum_by-cons port_slots (port_in range rs) (ports_in ranges (drop (width range) rs)) in
    omega (arith, front, rest, whole)

pub free_is : (ranges : List PortRange) (s : Stored) → AreChannels ranges s → free_slots (cells_in ranges s) ≡ free_in s
free_is ranges s are = by s.chains refl where
  by : (chains : List Reassembly) → s.chains ≡ chains → free_slots (cells_in ranges s) ≡ free_in s
  by [] is = absurd (omega (arith, are, ap (λ (xs : List Reassembly). length xs) is, some_count ranges))
  by (r ∷ rs) is =
      let size : suc (length rs) ≡ count_of ranges = sym (ap (λ (xs : List Reassembly). length xs) is) ∙ are in
      let ports = ports_slots ranges rs size in
      let whole = sum_by-cons (λ (x : Reassembly). length x.chain) r rs in
      rw is (omega (arith, ports, whole))

-- *Before the first cell*

drop_same : (k m : ℕ) → drop k (replicate m nothing_taken) ≡ replicate (m - k) nothing_taken
drop_same zero m = ap (λ n. replicate n nothing_taken) (whole m) where
  whole : (n : ℕ) → n ≡ n - 0
  whole n = omega arith
drop_same (suc k) zero = ap (λ n. replicate n nothing_taken) (none k) where
  none : (n : ℕ) → 0 ≡ 0 - suc n
  none n = omega arith
drop_same (suc k) (suc m) = drop_same k m ∙ ap (λ n. replicate n nothing_taken) (less m k) where
  less : (a b : ℕ) → a - b ≡ suc a - suc b
  less a b = omega arith

no_chains_within : (first n m : ℕ) → chains_from first (take n (replicate m nothing_taken)) ≡ []
no_chains_within first zero m = refl
no_chains_within first (suc n) zero = refl
no_chains_within first (suc n) (suc m) = no_chains_within (first + 1) n m

first_nothing : (m : ℕ) → get_or (replicate m nothing_taken) 0 nothing_taken ≡ nothing_taken
first_nothing zero = refl
first_nothing (suc m) = refl

ports_opened : (ranges : List PortRange) (m : ℕ) → ports_in ranges (replicate m nothing_taken) ≡ map (λ range. record { range = range; reassembly = nothing_taken; chains = [] }) ranges
ports_opened [] m = refl
ports_opened (range ∷ ranges) m =
    let none : chains_from range.lo (take (width range - 1) (drop 1 (replicate m nothing_taken))) ≡ [] =
    ap (λ (xs : List Reassembly). chains_from range.lo (take (width range - 1) xs)) (drop_same 1 m) ∙ no_chains_within range.lo (width range - 1) (m - 1) in
    let rest : ports_in ranges (drop (width range) (replicate m nothing_taken)) ≡ map (λ r. record { range = r; reassembly = nothing_taken; chains = [] }) ranges =
    ap (ports_in ranges) (drop_same (width range) m) ∙ ports_opened ranges (m - width range) in
    λ i. record { range = range; reassembly = first_nothing m i; chains = none i } ∷ rest i

pub opened_is : (ranges : List PortRange) (cells m : ℕ) → cells_in ranges (record { cells = cells; queue = []; chains = replicate m nothing_taken }) ≡ opened ranges cells
opened_is ranges cells m =
    let ports : ports_in ranges (drop 1 (replicate m nothing_taken)) ≡ map (λ r. record { range = r; reassembly = nothing_taken; chains = [] }) ranges =
    ap (ports_in ranges) (drop_same 1 m) ∙ ports_opened ranges (m - 1) in
    λ i. record { cells = cells; queue = []; reassembly = first_nothing m i; ports = ports i }
