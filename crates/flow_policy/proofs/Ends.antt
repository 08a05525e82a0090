-- the addresses of a prefix lie between its lowest and its highest, and ports likewise

use Rattle.std.proofs.Common.{◌≡◌, ◌∙◌, ℕ, zero, suc, ◌+◌, ◌-◌, ◌*◌, ◌/◌, ◌%◌, ◌^◌, ◌<◌, ◌≤◌, ◌==◌, ◌&&◌, Bool, true, false, nat_le, refl, sym, ap, subst, arith}
use Rattle.std.proofs.lemmas.Bool.Decides.{nat_tests}
use Rattle.std.proofs.lemmas.Nat.{pow_pos, pow-add, le-div, div-mul-add}
use Rattle.std.proofs.Math.Nat.{div-mul-le_self, lt-div-mul-add, mod-eq-sub-div-mul, mul-le-mul_right, div-lt_iff_lt-mul, add-mul, mod-eq_of_lt}
use Rattle.std.proofs.Math.Pow.{pow-lt}
use Rattle.net_types.specs.declared.prefix.Addr.{Addr}
use Rattle.net_types.specs.Prefix.{Network, IsNetwork, covers as has_address}
use Rattle.rule_model.specs.declared.rule.Ports.{Ports}
use Rattle.rule_model.specs.declared.rule.Ports.TheVariants as ports
use Rattle.rule_model.specs.Matching.{has_port}
use Rattle.rule_model.specs.Covering.{lowest, highest, IsPrefix, IsRange, least_port, greatest_port}

-- *Blocks* of so many numbers
block_begins : (a h : ℕ) → a % h ≡ 0 → a / h * h ≡ a
block_begins a h none = omega (arith, mod-eq-sub-div-mul a h, div-mul-le_self a h, none)

in_block : (a x h : ℕ) → 0 < h → a % h ≡ 0 → x / h ≡ a / h → (a ≤ x) × (x ≤ a + (h - 1))
in_block a x h some none same =
    let low : a / h * h ≤ x = subst (λ (q : ℕ). q * h ≤ x) same (div-mul-le_self x h) in
    let high : x < a / h * h + h = subst (λ (q : ℕ). x < q * h + h) same (lt-div-mul-add {a = x} {b = h} some) in
    let begins = block_begins a h none in
    (omega (arith, low, begins), omega (arith, high, begins, some))

block_ends : (a h : ℕ) → 0 < h → a % h ≡ 0 → (a + (h - 1)) / h ≡ a / h
block_ends a h some none =
    ap (λ (b : ℕ). (b + (h - 1)) / h) (sym (block_begins a h none)) ∙ div-mul-add (a / h) h (h - 1) (omega (arith, some))

block_between : (low x high h q : ℕ) → 0 < h → low ≤ x → x ≤ high → low / h ≡ q → high / h ≡ q → x / h ≡ q
block_between low x high h q some above below first last =
    let least : q * h ≤ x = let first_fits : q * h ≤ low = subst (λ (r : ℕ). r * h ≤ low) first (div-mul-le_self low h) in omega (arith, first_fits, above) in
    let most : x / h * h ≤ high = let own : x / h * h ≤ x = div-mul-le_self x h in omega (arith, own, below) in
    let up : q ≤ x / h = le-div q x h some least in
    let down : x / h ≤ high / h = le-div (x / h) high h some most in
    omega (arith, up, down, last)

-- the last block of a power of two is whole
block_fits : (a h n : ℕ) → 0 < h → a % h ≡ 0 → a < n * h → a + (h - 1) < n * h
block_fits a h n some none few =
    let low : a / h < n = (div-lt_iff_lt-mul {k = h} {x = a} {y = n} some).1 few in
    let next : (a / h + 1) * h ≤ n * h = mul-le-mul_right {m = a / h + 1} {n = n} h (omega (arith, low)) in
    let begins = block_begins a h none in
    let more : (a / h + 1) * h ≡ a / h * h + h = add-mul (a / h) 1 h ∙ omega arith in
    omega (arith, next, begins, more, some)

-- *Addresses*
same_test : (a b : ℕ) → a == b ≡ true → a ≡ b
same_test a b e = grind (arith, nat_tests)

test_same : (a b : ℕ) → a ≡ b → a == b ≡ true
test_same a b e = grind (arith, nat_tests)

pub address_between : (network : Network) (addr : Addr) → IsPrefix network → has_address network addr ≡ true
    → ((lowest network).0 ≤ addr.0) × (addr.0 ≤ (highest network).0)
address_between network addr is there =
    in_block network.addr.0 addr.0 (2 ^ (32 - network.len)) (pow_pos (32 - network.len)) is.network_is.no_host_bits
    (same_test (addr.0 / 2 ^ (32 - network.len)) (network.addr.0 / 2 ^ (32 - network.len)) there)

pub has_lowest : (network : Network) → has_address network (lowest network) ≡ true
has_lowest network = test_same (network.addr.0 / 2 ^ (32 - network.len)) (network.addr.0 / 2 ^ (32 - network.len)) refl

pub has_highest : (network : Network) → IsPrefix network → has_address network (highest network) ≡ true
has_highest network is =
    test_same (((highest network).0) / 2 ^ (32 - network.len)) (network.addr.0 / 2 ^ (32 - network.len))
    (block_ends network.addr.0 (2 ^ (32 - network.len)) (pow_pos (32 - network.len)) is.network_is.no_host_bits)

pub has_between : (network : Network) (low addr high : Addr) → low.0 ≤ addr.0 → addr.0 ≤ high.0 → has_address network low ≡ true → has_address network high ≡ true
    → has_address network addr ≡ true
has_between network low addr high above below first last =
    let h = 2 ^ (32 - network.len) in
    test_same (addr.0 / h) (network.addr.0 / h)
    (block_between low.0 addr.0 high.0 h (network.addr.0 / h) (pow_pos (32 - network.len)) above below
    (same_test (low.0 / h) (network.addr.0 / h) first) (same_test (high.0 / h) (network.addr.0 / h) last))

pub highest_fits : (network : Network) → IsPrefix network → (highest network).0 < 2 ^ 32
highest_fits network is =
    let within : network.len ≤ 32 = is.network_is.within in
    let all : 2 ^ 32 ≡ 2 ^ network.len * 2 ^ (32 - network.len) =
    ap (λ (k : ℕ). 2 ^ k) (let whole : 32 ≡ network.len + (32 - network.len) = omega (arith, within) in whole) ∙ pow-add 2 network.len (32 - network.len) in
    let few : network.addr.0 < 2 ^ network.len * 2 ^ (32 - network.len) = subst (λ (n : ℕ). network.addr.0 < n) all is.fits in
    subst (λ (n : ℕ). (highest network).0 < n) (sym all)
    (block_fits network.addr.0 (2 ^ (32 - network.len)) (2 ^ network.len) (pow_pos (32 - network.len)) is.network_is.no_host_bits few)

pub prefix_is : (network : Network) (addr : Addr) → IsNetwork network.addr.0 network.len → addr ≡ network.addr → addr.0 < 2 ^ 32 → IsPrefix network
prefix_is network addr is same few = record { network_is = is; fits = subst (λ (a : Addr). a.0 < 2 ^ 32) same few }

-- as 64 bits hold it
pub shifted_fits : (network : Network) → IsPrefix network → network.addr.0 + (1 * 2 ^ (32 - network.len) % 18446744073709551616 - 1) < 2 ^ 32
shifted_fits network is =
    let low : 2 ^ (32 - network.len) < 2 ^ 64 = pow-lt {i = 32 - network.len} {j = 64} (omega arith) in
    let one : 1 * 2 ^ (32 - network.len) ≡ 2 ^ (32 - network.len) = omega arith in
    let whole : 1 * 2 ^ (32 - network.len) % 18446744073709551616 ≡ 2 ^ (32 - network.len) =
    ap (λ (n : ℕ). n % 18446744073709551616) one ∙ mod-eq_of_lt {n = 2 ^ (32 - network.len)} {m = 18446744073709551616} low in
    subst (λ (n : ℕ). network.addr.0 + (n - 1) < 2 ^ 32) (sym whole) (highest_fits network is)

-- *Ports*
pub port_between : (taken : Ports) (port : ℕ) → port < 2 ^ 16 → has_port taken port ≡ true → (least_port taken ≤ port) × (port ≤ greatest_port taken)
port_between ports.Any port few there = (omega arith, omega (arith, few))
port_between (ports.Between least greatest) port few there = (grind (arith, nat_tests), grind (arith, nat_tests))

pub has_least : (taken : Ports) → IsRange taken → has_port taken (least_port taken) ≡ true
has_least ports.Any is = refl
has_least (ports.Between least greatest) is =
    let first : nat_le least least ≡ true = grind (arith, nat_tests) in
    let last : nat_le least greatest ≡ true = grind (arith, nat_tests, is.0) in
    rw (first, last) refl

pub has_greatest : (taken : Ports) → IsRange taken → has_port taken (greatest_port taken) ≡ true
has_greatest ports.Any is = refl
has_greatest (ports.Between least greatest) is =
    let first : nat_le least greatest ≡ true = grind (arith, nat_tests, is.0) in
    let last : nat_le greatest greatest ≡ true = grind (arith, nat_tests) in
    rw (first, last) refl

pub has_port_between : (taken : Ports) (low port high : ℕ) → low ≤ port → port ≤ high → has_port taken low ≡ true → has_port taken high ≡ true → has_port taken port ≡ true
has_port_between ports.Any low port high above below first last = refl
has_port_between (ports.Between least greatest) low port high above below first last =
    let up : nat_le least port ≡ true = grind (arith, nat_tests) in
    let down : nat_le port greatest ≡ true = grind (arith, nat_tests) in
    rw (up, down) refl

pub port_fits : (taken : Ports) → IsRange taken → (least_port taken < 2 ^ 16) × (greatest_port taken < 2 ^ 16)
port_fits ports.Any is = (omega arith, omega arith)
port_fits (ports.Between least greatest) is = (omega (arith, is.0, is.1), is.1)
