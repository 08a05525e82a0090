-- The first ports of links

use Rattle.std.proofs.Common.{◌≡◌, ℕ, zero, suc, ◌+◌, ◌≤◌, All, List, [], ◌∷◌, length, get_or, map, take, refl, ap, sym, subst, arith}
use Rattle.std.specs.List.{range_with_len}
use Rattle.std.specs.List.Sorted.{IsStrictlyIncreasing}
use Rattle.std.proofs.lemmas.List.FromFn.{get_or-range_with_len, length-range_with_len}
use Rattle.net_types.specs.declared.node.PortNo.{PortNo}
use Rattle.crossbar_model.specs.Channels.{ArePorts, IsLinkPort}
use Rattle.console_model.specs.Lab.{ports_to}

abbrev port : ℕ → PortNo
port n = record { 0 = n }

abbrev pub eight : List PortNo
eight = port 1 ∷ port 2 ∷ port 3 ∷ port 4 ∷ port 5 ∷ port 6 ∷ port 7 ∷ port 8 ∷ []

pub first_ports : (n : ℕ) → n ≤ 8 → take n eight ≡ ports_to n
first_ports zero h = refl
first_ports (suc zero) h = refl
first_ports (suc (suc zero)) h = refl
first_ports (suc (suc (suc zero))) h = refl
first_ports (suc (suc (suc (suc zero)))) h = refl
first_ports (suc (suc (suc (suc (suc zero))))) h = refl
first_ports (suc (suc (suc (suc (suc (suc zero)))))) h = refl
first_ports (suc (suc (suc (suc (suc (suc (suc zero))))))) h = refl
first_ports (suc (suc (suc (suc (suc (suc (suc (suc zero)))))))) h = refl
first_ports (suc (suc (suc (suc (suc (suc (suc (suc (suc n))))))))) h = absurd (omega arith)

numbers_back : (a n : ℕ) → map (λ (p : PortNo). p.0) (map port (range_with_len a n)) ≡ range_with_len a n
numbers_back a zero = refl
numbers_back a (suc n) = ap (λ ports. a ∷ ports) (numbers_back (a + 1) n)

rising : (n : ℕ) → IsStrictlyIncreasing (range_with_len 1 n)
rising n k h =
    let long : length (range_with_len 1 n) ≡ n = length-range_with_len 1 n in
    let here : get_or (range_with_len 1 n) k 0 ≡ 1 + k = get_or-range_with_len 1 n k 0 (omega arith) in
    let next : get_or (range_with_len 1 n) (k + 1) 0 ≡ 1 + (k + 1) = get_or-range_with_len 1 n (k + 1) 0 (omega arith) in
    rw (here, next) (omega arith)

linked : (a n : ℕ) → 1 ≤ a → a + n ≤ 9 → All IsLinkPort (map port (range_with_len a n))
linked a zero low high k d h = absurd (omega arith)
linked a (suc n) low high zero d h = (low, omega arith)
linked a (suc n) low high (suc k) d h = linked (a + 1) n (omega arith) (omega arith) k d (omega arith)

pub are_ports : (n : ℕ) → n ≤ 8 → ArePorts (ports_to n)
are_ports n h = record {
  of_links = linked 1 n (omega arith) (omega arith);
  ascending = subst IsStrictlyIncreasing (sym (numbers_back 1 n)) (rising n);
}
