-- The order of ends, and which ends have a place.

use Rattle.std.proofs.Common.{◌≡◌, ◌≢◌, ℕ, ◌+◌, ◌-◌, ◌*◌, ◌/◌, ◌%◌, ◌<◌, ◌≤◌, ◌⊎◌, inl, inr, Bool, true, false, cond, eqb, ltb, leb, ◌&&◌, ◌||◌, List, [], ◌∷◌, refl, sym, ap, subst, ◌∙◌, arith}
use Rattle.std.specs.Prelude.{All}
use Rattle.std.specs.List.{list_any}
use Rattle.std.specs.declared.cmp.Ordering.{Ordering}
use Rattle.std.specs.declared.cmp.Ordering.TheVariants.{Less, Equal, Greater}
use Rattle.std.specs.Ordering.{nat_cmp, ordering_then}
use Rattle.std.specs.Cmp.{IsTotalOrder, then_total, on_total, nat_cmp_total, tied_itself}
use Rattle.std.specs.FinMap.{IsAntisymmetric, nat_cmp-IsAntisymmetric}
use Rattle.std.proofs.lemmas.Bool.{cases_lt, lt-ltb}
use Rattle.std.proofs.lemmas.Bool.Decides.{nat_tests}
use Rattle.std.proofs.lemmas.List.Elements.{All-head, All-tail}
use Rattle.net_types.specs.declared.node.PortNo.{PortNo}
use Rattle.net_types.specs.declared.channel.End.{End}
use Rattle.crossbar_model.specs.Channels.{IsLinkPort, end_cmp, is_channel_of, is_connectable, is_link_channel}
use Rattle.fabric.specs.Table.{vci_at, end_on, end_of, end_at, columns_of}

pub end_cmp_total : IsTotalOrder end_cmp
end_cmp_total =
    then_total (on_total (λ (e : End). e.port.0) nat_cmp_total) (then_total (on_total (λ (e : End). e.channel.vpi) nat_cmp_total) (on_total (λ (e : End). e.channel.vci) nat_cmp_total))

first_tied : (r s : Ordering) → ordering_then r s ≡ Equal → r ≡ Equal
first_tied Less s e = absurd (cc e)
first_tied Equal s e = refl
first_tied Greater s e = absurd (cc e)

then_tied : (r s : Ordering) → ordering_then r s ≡ Equal → s ≡ Equal
then_tied Less s e = absurd (cc e)
then_tied Equal s e = e
then_tied Greater s e = absurd (cc e)

-- an end by its numbers
pub end_is : (e : End) (port vpi vci : ℕ) → port ≡ e.port.0 → vpi ≡ e.channel.vpi → vci ≡ e.channel.vci → ◌≡◌ {A = End} (record { port = record { 0 = port }; channel = record { vpi = vpi; vci = vci } }) e
end_is e port vpi vci p v c = λ i. record { port = record { 0 = p i }; channel = record { vpi = v i; vci = c i } }

-- only equal ends tie
pub end_cmp-IsAntisymmetric : IsAntisymmetric end_cmp
end_cmp-IsAntisymmetric x y e =
    let rest : ordering_then (nat_cmp x.channel.vpi y.channel.vpi) (nat_cmp x.channel.vci y.channel.vci) ≡ Equal = then_tied _ _ e in
    end_is y x.port.0 x.channel.vpi x.channel.vci (nat_cmp-IsAntisymmetric x.port.0 y.port.0 (first_tied _ _ e))
    (nat_cmp-IsAntisymmetric x.channel.vpi y.channel.vpi (first_tied _ _ rest)) (nat_cmp-IsAntisymmetric x.channel.vci y.channel.vci (then_tied _ _ rest))

nat_less : (x y : ℕ) → x < y → nat_cmp x y ≡ Less
nat_less x y h = grind (arith, nat_tests, h)

nat_tied : (x : ℕ) → nat_cmp x x ≡ Equal
nat_tied x = tied_itself nat_cmp_total x

abbrev end_with : (port vpi vci : ℕ) → End
end_with port vpi vci = record { port = record { 0 = port }; channel = record { vpi = vpi; vci = vci } }

less_by_port : (p q x y v w : ℕ) → p < q → end_cmp (end_with p x v) (end_with q y w) ≡ Less
less_by_port p q x y v w h = rw (nat_less p q h) refl

less_by_path : (p x y v w : ℕ) → x < y → end_cmp (end_with p x v) (end_with p y w) ≡ Less
less_by_path p x y v w h = rw (nat_tied p, nat_less x y h) refl

less_by_channel : (p x v w : ℕ) → v < w → end_cmp (end_with p x v) (end_with p x w) ≡ Less
less_by_channel p x v w h = rw (nat_tied p, nat_tied x, nat_less v w h) refl

-- *The ends of the places*

on_control : (row path number : ℕ) → row < 8 → end_on row path number ≡ record { port = record { 0 = 0 }; channel = record { vpi = 16 * (row + 1) + path; vci = vci_at number } }
on_control row path number h = rw (lt-ltb row 8 h) refl

on_link : (row path number : ℕ) → 8 ≤ row → end_on row path number ≡ record { port = record { 0 = row - 7 }; channel = record { vpi = path; vci = vci_at number } }
on_link row path number h = let above : ltb row 8 ≡ false = grind (arith, nat_tests, h) in rw above refl

vci_rises : (m n : ℕ) → m < n → vci_at m < vci_at n
vci_rises m n h = grind (arith, nat_tests, h)

vci_back : (number : ℕ) → vci_at number - 31 ≡ number
vci_back number = grind (arith, nat_tests)

row_rises : (r s x y m n : ℕ) → r < s → x < 16 → end_cmp (end_on r x m) (end_on s y n) ≡ Less
row_rises r s x y m n h within =
    elim (cases_lt s 8) [
      | inl low ↦ rw (on_control r x m (omega (arith, h, low)), on_control s y n low) (less_by_path 0 (16 * (r + 1) + x) (16 * (s + 1) + y) (vci_at m) (vci_at n) (omega (arith, h, within)))
      | inr high ↦
          elim (cases_lt r 8) [
            | inl low ↦ rw (on_control r x m low, on_link s y n high) (less_by_port 0 (s - 7) (16 * (r + 1) + x) y (vci_at m) (vci_at n) (omega (arith, high)))
            | inr both ↦ rw (on_link r x m both, on_link s y n high) (less_by_port (r - 7) (s - 7) x y (vci_at m) (vci_at n) (omega (arith, h, both)))
          ]
    ]

path_rises : (r x y m n : ℕ) → x < y → end_cmp (end_on r x m) (end_on r y n) ≡ Less
path_rises r x y m n h =
    elim (cases_lt r 8) [
      | inl low ↦ rw (on_control r x m low, on_control r y n low) (less_by_path 0 (16 * (r + 1) + x) (16 * (r + 1) + y) (vci_at m) (vci_at n) (omega (arith, h)))
      | inr high ↦ rw (on_link r x m high, on_link r y n high) (less_by_path (r - 7) x y (vci_at m) (vci_at n) h)
    ]

number_rises : (r x m n : ℕ) → m < n → end_cmp (end_on r x m) (end_on r x n) ≡ Less
number_rises r x m n h =
    elim (cases_lt r 8) [
      | inl low ↦ rw (on_control r x m low, on_control r x n low) (less_by_channel 0 (16 * (r + 1) + x) (vci_at m) (vci_at n) (vci_rises m n h))
      | inr high ↦ rw (on_link r x m high, on_link r x n high) (less_by_channel (r - 7) x (vci_at m) (vci_at n) (vci_rises m n h))
    ]

column_rises : (r c d : ℕ) → c < d → end_cmp (end_of r c) (end_of r d) ≡ Less
column_rises r c d h =
    elim (cases_lt (c / 993) (d / 993)) [
      | inl path ↦ path_rises r (c / 993) (d / 993) (c % 993) (d % 993) path
      | inr level ↦
          let same : c / 993 ≡ d / 993 = omega (arith, h, level) in
          rw same (number_rises r (d / 993) (c % 993) (d % 993) (omega (arith, h, same)))
    ]

pub ends_rise : (i j : ℕ) → i < j → end_cmp (end_at i) (end_at j) ≡ Less
ends_rise i j h =
    elim (cases_lt (i / 15888) (j / 15888)) [
      | inl row ↦ row_rises (i / 15888) (j / 15888) (i % 15888 / 993) (j % 15888 / 993) (i % 15888 % 993) (j % 15888 % 993) row (omega arith)
      | inr level ↦
          let same : i / 15888 ≡ j / 15888 = omega (arith, h, level) in
          rw same (column_rises (j / 15888) (i % 15888) (j % 15888) (omega (arith, h, same)))
    ]

pub ends_differ : (i j : ℕ) → end_at i ≡ end_at j → i ≡ j
ends_differ i j e =
    elim (cases_lt i j) [
      | inl less ↦ absurd (cc (sym (ends_rise i j less) ∙ ap (λ (x : End). end_cmp x (end_at j)) e ∙ tied_itself end_cmp_total (end_at j)))
      | inr not_less ↦
          elim (cases_lt j i) [
            | inl less ↦ absurd (cc (sym (ends_rise j i less) ∙ ap (λ (x : End). end_cmp (end_at j) x) e ∙ tied_itself end_cmp_total (end_at j)))
            | inr not_more ↦ omega (arith, not_less, not_more)
          ]
    ]

pub end_at-of : (row column : ℕ) → column < 15888 → end_at (15888 * row + column) ≡ end_of row column
end_at-of row column h =
    let high : (15888 * row + column) / 15888 ≡ row = omega (arith, h) in
    let low : (15888 * row + column) % 15888 ≡ column = omega (arith, h) in
    rw (high, low) refl

-- *The channels that a switch connects*

both : (a b : Bool) → (a && b) ≡ true → (a ≡ true) × (b ≡ true)
both true b h = (refl, h)
both false b h = absurd (cc h)

either : (a b : Bool) → (a || b) ≡ true → (a ≡ true) ⊎ (b ≡ true)
either true b h = inl refl
either false b h = inr h

-- the number of a channel on its path
record IsOnPath (vpis vpi vci : ℕ) : Type 0 where
  pub path : vpi < vpis
  pub number : vci - 31 < 993
  pub back : vci_at (vci - 31) ≡ vci

on_path : (vpis vpi vci : ℕ) → 1 ≤ vpis → is_link_channel vpis (record { vpi = vpi; vci = vci }) ≡ true → IsOnPath vpis vpi vci
on_path vpis vpi vci some h =
    elim (either (eqb vpi 0 && eqb vci 15) _ h) [
      | inl default ↦
          let parts = both (eqb vpi 0) (eqb vci 15) default in
          let path : vpi ≡ 0 = grind (arith, nat_tests, parts.0) in
          let channel : vci ≡ 15 = grind (arith, nat_tests, parts.1) in
          record { path = omega (arith, path, some); number = omega (arith, channel); back = rw channel refl }
      | inr label ↦
          let parts = both (ltb vpi vpis) _ label in
          let range = both (leb 32 vci) (ltb vci 1024) parts.1 in
          let least : 32 ≤ vci = grind (arith, nat_tests, range.0) in
          let greatest : vci ≤ 1023 = grind (arith, nat_tests, range.1) in
          record { path = grind (arith, nat_tests, parts.0); number = omega (arith, greatest); back = grind (arith, nat_tests, least) }
    ]

-- the place of a channel that the switch connects
pub record Stands (ports : List PortNo) (vpis : ℕ) (e : End) : Type 0 where
  pub row : ℕ
  pub column : ℕ
  pub low : row < 16
  pub inside : column < columns_of ports vpis row
  pub most : column < 15888
  pub is : end_of row column ≡ e
  pub port : e.port.0 ≤ 8

stands_at : (ports : List PortNo) (vpis : ℕ) (e : End) (row path number : ℕ) → vpis ≤ 16 → row < 16 → path < vpis → number < 993 → list_any (λ p. eqb p.0 (row % 8 + 1)) ports ≡ true → end_on row path number ≡ e → e.port.0 ≤ 8 → Stands ports vpis e
stands_at ports vpis e row path number few low within small has is port =
    let high : (993 * path + number) / 993 ≡ path = omega (arith, small) in
    let rest : (993 * path + number) % 993 ≡ number = omega (arith, small) in
    record {
      row = row;
      column = 993 * path + number;
      low = low;
      inside = rw has (omega (arith, within, small));
      most = omega (arith, within, small, few);
      is = rw (high, rest) is;
      port = port;
    }

stands_on : (ports : List PortNo) (vpis : ℕ) (e : End) (p : PortNo) → 1 ≤ vpis → vpis ≤ 16 → IsLinkPort p → list_any (λ q. eqb q.0 p.0) ports ≡ true → is_channel_of p vpis e ≡ true → Stands ports vpis e
stands_on ports vpis e p some few link has is =
    by (eqb e.port.0 0) refl (both (ltb 0 p.0) _ is).1
  where
    by : (b : Bool) → eqb e.port.0 0 ≡ b → cond b (leb (16 * p.0) e.channel.vpi && is_link_channel vpis (record e.channel { vpi = e.channel.vpi - 16 * p.0 })) (eqb e.port.0 p.0 && is_link_channel vpis e.channel) ≡ true → Stands ports vpis e
    by true zero_is t =
        let port : e.port.0 ≡ 0 = grind (arith, nat_tests, zero_is) in
        let parts = both (leb (16 * p.0) e.channel.vpi) _ t in
        let least : 16 * p.0 ≤ e.channel.vpi = grind (arith, nat_tests, parts.0) in
        let channel = on_path vpis (e.channel.vpi - 16 * p.0) e.channel.vci some parts.1 in
        let row : p.0 ≡ (p.0 - 1) % 8 + 1 = omega (arith, link.0, link.1) in
        stands_at ports vpis e (p.0 - 1) (e.channel.vpi - 16 * p.0) (e.channel.vci - 31) few (omega (arith, link.1)) channel.path channel.number
        (subst (λ (n : ℕ). list_any (λ q. eqb q.0 n) ports ≡ true) row has)
        (on_control (p.0 - 1) _ _ (omega (arith, link.0, link.1)) ∙ end_is e _ _ _ (sym port) (omega (arith, link.0, least)) channel.back) (omega (arith, port))
    by false linked t =
        let parts = both (eqb e.port.0 p.0) _ t in
        let port : e.port.0 ≡ p.0 = grind (arith, nat_tests, parts.0) in
        let channel = on_path vpis e.channel.vpi e.channel.vci some parts.1 in
        let row : p.0 ≡ (p.0 + 7) % 8 + 1 = omega (arith, link.0, link.1) in
        stands_at ports vpis e (p.0 + 7) e.channel.vpi (e.channel.vci - 31) few (omega (arith, link.1)) channel.path channel.number
        (subst (λ (n : ℕ). list_any (λ q. eqb q.0 n) ports ≡ true) row has)
        (on_link (p.0 + 7) _ _ (omega (arith, link.0)) ∙ end_is e _ _ _ (omega (arith, port)) refl channel.back) (omega (arith, port, link.1))

-- a port of which an end is a channel
record HasPortOf (ports : List PortNo) (vpis : ℕ) (e : End) : Type 0 where
  pub port : PortNo
  pub link : IsLinkPort port
  pub has : list_any (λ q. eqb q.0 port.0) ports ≡ true
  pub channel : is_channel_of port vpis e ≡ true

port_of : (ports : List PortNo) (vpis : ℕ) (e : End) → All IsLinkPort ports → is_connectable ports vpis e ≡ true → HasPortOf ports vpis e
port_of [] vpis e links h = absurd (cc h)
port_of (p ∷ ports) vpis e links h =
    elim (either (is_channel_of p vpis e) _ h) [
      | inl here ↦
          let same : eqb p.0 p.0 ≡ true = grind (arith, nat_tests) in
          record { port = p; link = All-head IsLinkPort p ports links; has = rw same refl; channel = here }
      | inr there ↦
          let found = port_of ports vpis e (All-tail IsLinkPort p ports links) there in
          record { port = found.port; link = found.link; has = later (eqb p.0 found.port.0) _ found.has; channel = found.channel }
    ]
  where
    later : (a b : Bool) → b ≡ true → (a || b) ≡ true
    later true b h = refl
    later false b h = h

pub stands : (ports : List PortNo) (vpis : ℕ) (e : End) → All IsLinkPort ports → 1 ≤ vpis → vpis ≤ 16 → is_connectable ports vpis e ≡ true → Stands ports vpis e
stands ports vpis e links some few h =
    let found = port_of ports vpis e links h in
    stands_on ports vpis e found.port some few found.link found.has found.channel

-- *Places against numbers*

pub place_is : (row column : ℕ) (e : End) → column < 15888 → end_of row column ≡ e → end_at (15888 * row + column) ≡ e
place_is row column e most is = end_at-of row column most ∙ is

-- a channel that the switch connects has its place in the row
pub inside_row : (ports : List PortNo) (vpis : ℕ) (e : End) (row column : ℕ) → All IsLinkPort ports → 1 ≤ vpis → vpis ≤ 16 → is_connectable ports vpis e ≡ true → column < 15888 → end_of row column ≡ e → column < columns_of ports vpis row
inside_row ports vpis e row column links some few h most is =
    let there : Stands ports vpis e = stands ports vpis e links some few h in
    let same : 15888 * there.row + there.column ≡ 15888 * row + column =
    ends_differ (15888 * there.row + there.column) (15888 * row + column) (place_is there.row there.column e there.most there.is ∙ sym (place_is row column e most is)) in
    let rows : there.row ≡ row = omega (arith, same, most, there.most) in
    let columns : there.column ≡ column = omega (arith, same, most, there.most) in
    subst (λ (c : ℕ). c < columns_of ports vpis row) columns (subst (λ (r : ℕ). there.column < columns_of ports vpis r) rows there.inside)

-- and it has one
pub has_place : (ports : List PortNo) (vpis : ℕ) (e : End) → All IsLinkPort ports → 1 ≤ vpis → vpis ≤ 16 → is_connectable ports vpis e ≡ true → ¬ ((n : ℕ) → n < 15888 * 16 → end_at n ≢ e)
has_place ports vpis e links some few h none =
    let there : Stands ports vpis e = stands ports vpis e links some few h in
    none (15888 * there.row + there.column) (omega (arith, there.low, there.most)) (place_is there.row there.column e there.most there.is)
