-- a controller sends nothing to a label that is joined: its grant is lent

use Rattle.std.proofs.Common.{◌≡◌, ℕ, ◌+◌, ◌<◌, ◌≤◌, Bool, true, false, List, [], ◌∷◌, Option, None, Some, refl, sym, ◌∙◌, ap, subst, arith, inl, inr}
use Rattle.std.specs.Prelude.{◌==◌, ◌&&◌, ◌*◌, ◌/◌, ◌%◌, nat_le, nat_lt}
use Rattle.std.specs.Option.{option_and_then}
use Rattle.std.proofs.lemmas.Bool.Decides.{nat_tests}
use Rattle.world_model.specs.Words.{PortNo, Channel, End, is_label_number, number_of_channel, at, put, Journal, Reassembly, Setup, control_end, Grant, GrantState, Idle, ByController, ByInput, Leaving, grant_label, is_by_controller, grant_matching, Controller, Linked, port_key, linked_at, with_linked, chains_with, ForGsmp, ForDefault, ForLabel, same_channel, port_on, taker_of, with_reassembly, grant_by}
use Rattle.law_fed_worlds.specs.ordered_lists.Ordered.{Every}
use Rattle.law_fed_worlds.proofs.law_port_facts.Keyed.{at_every, at_key, each_found}
use Rattle.law_fed_worlds.specs.law_port_facts.Port.{IsGrant}
use Rattle.world_model.specs.port_model.Port.{Port}
use Rattle.world_model.specs.port_model.Grants.{lent_input}
use Rattle.world_model.specs.Controller.{Acted}
use Rattle.world_model.specs.Cells.{Taker}
use Rattle.law_fed_worlds.specs.law_controller_facts.Sound.{IsSound, IsLinkedPort, IsShutLinked}
use Rattle.law_fed_worlds.proofs.law_controller_facts.Joining.{every_both}
use Rattle.law_fed_worlds.proofs.law_lifetimes.Joining.{IsUsed, matching_used}
use Rattle.law_fed_worlds.proofs.law_lifetimes.Events.{Belongs, taker_belongs}
use Rattle.law_fed_worlds.specs.law_world_views.Pairs.{IsJoin}
use Rattle.law_fed_worlds.proofs.law_world_views.Put.{found_put}

-- *Two channels* of the control link
label_vci : (n : ℕ) → is_label_number n ≡ true → (n / 1024 < 16) × (32 ≤ n % 1024)
label_vci n is = parts (n / 1024) (n % 1024) is
  where
    parts : (a b : ℕ) → (nat_lt a 16 && (nat_le 32 b && nat_lt b 1024)) ≡ true → (a < 16) × (32 ≤ b)
    parts a b e = (grind (arith, nat_tests, e), grind (arith, nat_tests, e))

-- the channel of a label isn't one with VCI 15
pub control_apart : (channel : Channel) (port : PortNo) (n : ℕ) → is_label_number n ≡ true → channel.vci ≡ 15 → same_channel channel (control_end port n).channel ≡ false
control_apart channel port n is vci = by channel.vpi (16 * port.0 + n / 1024) channel.vci (n % 1024) vci (label_vci n is).1
  where
    by : (a b c d : ℕ) → c ≡ 15 → 32 ≤ d → (a == b && c == d) ≡ false
    by a b c d low high = grind (arith, nat_tests, low, high)

-- and channels of two labels are one where ports and labels are
same_label : (q p m n : ℕ) → m / 1024 < 16 → n / 1024 < 16 → (16 * q + m / 1024 == 16 * p + n / 1024 && m % 1024 == n % 1024) ≡ true → (q ≡ p) × (m ≡ n)
same_label q p m n low less e = (let both = equal (16 * q + m / 1024) (16 * p + n / 1024) (m % 1024) (n % 1024) e in (ports q p (m / 1024) (n / 1024) low less both.0, labels (m / 1024) (n / 1024) both))
  where
    equal : (a b c d : ℕ) → (a == b && c == d) ≡ true → (a ≡ b) × (c ≡ d)
    equal a b c d e = (grind (arith, nat_tests, e), grind (arith, nat_tests, e))

    ports : (q p a b : ℕ) → a < 16 → b < 16 → 16 * q + a ≡ 16 * p + b → q ≡ p
    ports q p a b low less e = omega (arith, low, less, e)

    rests : (q p a b : ℕ) → a < 16 → b < 16 → 16 * q + a ≡ 16 * p + b → a ≡ b
    rests q p a b low less e = omega (arith, low, less, e)

    whole : (m n : ℕ) → m / 1024 ≡ n / 1024 → m % 1024 ≡ n % 1024 → m ≡ n
    whole m n d r = omega (arith, d, r)

    labels : (a b : ℕ) → (16 * q + m / 1024 ≡ 16 * p + n / 1024) × (m % 1024 ≡ n % 1024) → m ≡ n
    labels a b both = whole m n (rests q p (m / 1024) (n / 1024) low less both.0) both.1

-- *The controller sends nothing* to label n of port p
abbrev pub IsHarmless : (p n : ℕ) → (q : ℕ) → Grant → Type 0
IsHarmless p n q grant = (is_label_number grant.label ≡ true) × (q ≡ p → is_by_controller grant.state ≡ true → grant.label ≡ n → ⊥)

abbrev pub IsClear : Controller → (p n : ℕ) → Type 0
IsClear c p n = (q : PortNo) (linked : Linked) → linked_at c q ≡ Some linked → Every (IsHarmless p n q.0) linked.port.grants

pub leads_elsewhere : (c : Controller) (port : PortNo) (n : ℕ) → is_label_number n ≡ true → IsClear c port.0 n
    → (q : PortNo) (packet : List ℕ) (grant : Grant) → grant_by c q packet ≡ Some grant → same_channel (control_end q grant.label).channel (control_end port n).channel ≡ false
leads_elsewhere c port n is clear q packet grant e = by_found (linked_at c q) refl e
  where
    here : IsUsed (IsHarmless port.0 n q.0) grant → (b : Bool) → same_channel (control_end q grant.label).channel (control_end port n).channel ≡ b → b ≡ false
    here used false t = refl
    here used true t = (let same = same_label q.0 port.0 grant.label n (label_vci grant.label used.there.0).0 (label_vci n is).0 t in absurd (used.there.1 same.0 used.used same.1))

    by_found : (o : Option Linked) → linked_at c q ≡ o → option_and_then (λ (x : Linked). grant_matching x.port.grants packet) o ≡ Some grant → same_channel (control_end q grant.label).channel (control_end port n).channel ≡ false
    by_found None found f = absurd (cc f)
    by_found (Some linked) found f = here (matching_used (IsHarmless port.0 n q.0) linked.port.grants packet grant (clear q linked found) f) (same_channel (control_end q grant.label).channel (control_end port n).channel) refl

-- *What is joined is lent*
lent_out : (state : GrantState) (input : End) → lent_input state ≡ Some input → is_by_controller state ≡ true → ⊥
lent_out Idle input e f = cc f
lent_out ByController input e f = cc e
lent_out (ByInput other) input e f = cc f
lent_out (Leaving other owed) input e f = cc f

first_and : (a b : Bool) → (a && b) ≡ true → a ≡ true
first_and true b e = refl
first_and false b e = e

every_also : {A : Type 0} (P Q : A → Type 0) (xs : List A) → ((x : A) → P x → Q x) → Every P xs → Every Q xs
every_also P Q [] f all = tt
every_also P Q (x ∷ xs) f all = (f x all.0, every_also P Q xs f all.1)

pub joined_clear : (setups : List Setup) (c : Controller) (input output : End) → IsSound setups c → (c.has_met ≡ true → IsJoin c input output) → IsClear c output.port.0 (number_of_channel output.channel)
joined_clear setups c input output sound join q linked found = by c.has_met refl
  where
    port : IsLinkedPort setups linked
    port = at_every port_key (IsLinkedPort setups) q.0 c.ports linked sound.ports.each found

    numbers : Every (λ (g : Grant). is_label_number g.label ≡ true) linked.port.grants
    numbers = every_also (IsGrant setups linked.setup) (λ (g : Grant). is_label_number g.label ≡ true) linked.port.grants (λ g h. first_and (is_label_number g.label) _ h.in_range) port.grants

    by : (b : Bool) → c.has_met ≡ b → Every (IsHarmless output.port.0 (number_of_channel output.channel) q.0) linked.port.grants
    by false unmet = subst (Every (IsHarmless output.port.0 (number_of_channel output.channel) q.0)) (sym (at_every port_key IsShutLinked q.0 c.ports linked (sound.unmet unmet) found).grants) tt
    by true met = every_also (λ (g : Grant). (is_label_number g.label ≡ true) × (at grant_label g.label linked.port.grants ≡ Some g)) (IsHarmless output.port.0 (number_of_channel output.channel) q.0) linked.port.grants
        (λ g h. (h.0, λ same sends labelled. lent g h.1 same sends labelled))
        (every_both (λ (g : Grant). is_label_number g.label ≡ true) (λ (g : Grant). at grant_label g.label linked.port.grants ≡ Some g) linked.port.grants numbers (each_found grant_label linked.port.grants port.apart))
      where
        lent : (g : Grant) → at grant_label g.label linked.port.grants ≡ Some g → q.0 ≡ output.port.0 → is_by_controller g.state ≡ true → g.label ≡ number_of_channel output.channel → ⊥
        lent g here same sends labelled =
            let j : IsJoin c input output = join met in
            let both : Some linked ≡ Some j.linked = sym found ∙ (ap (λ (k : ℕ). at port_key k c.ports) same ∙ j.found) in
            let one : linked ≡ j.linked = cc both in
            let grants : Some g ≡ Some j.grant = sym here ∙ (ap (λ (k : ℕ). at grant_label k linked.port.grants) labelled ∙ (ap (λ (x : Linked). at grant_label (number_of_channel output.channel) x.port.grants) one ∙ j.granted)) in
            let is : g ≡ j.grant = cc grants in
            lent_out g.state input (ap (λ (x : Grant). lent_input x.state) is ∙ j.lent) sends

-- *A cell that was taken* leaves the grants
module _ (a : Acted) (p n : ℕ) (clear : IsClear a.controller p n) where
  with_clear : (at_port : PortNo) (linked after : Linked) → linked_at a.controller at_port ≡ Some linked → after.setup ≡ linked.setup → after.port ≡ linked.port → IsClear (with_linked a after).controller p n
  with_clear at_port linked after found setup port q x there = elim (found_put port_key after a.controller.ports q.0 x there) [
    | inl same ↦
        let own : port_key linked ≡ at_port.0 = at_key port_key at_port.0 a.controller.ports linked found in
        let key : port_key x ≡ q.0 = at_key port_key q.0 (put port_key after a.controller.ports) x there in
        let number : at_port.0 ≡ q.0 = sym own ∙ (sym (ap (λ (s : Setup). s.port.0) setup) ∙ (ap port_key same ∙ key)) in
        subst (λ (gs : List Grant). Every (IsHarmless p n q.0) gs) (ap (λ (z : Linked). z.port.grants) same)
        (subst (λ (gs : List Grant). Every (IsHarmless p n q.0) gs) (sym (ap (λ (z : Port). z.grants) port))
        (subst (λ (k : ℕ). Every (IsHarmless p n k) linked.port.grants) number (clear at_port linked found)))
    | inr before ↦ clear q x before
  ]

  pub taken_clear : (channel : Channel) (taker : Taker) (notes : Journal) (r : Reassembly) → taker_of a.controller channel ≡ Some taker → IsClear (with_reassembly (record a { notes = notes }) taker r).controller p n
  taken_clear channel taker notes r is = by taker (taker_belongs a.controller channel taker is)
    where
      by : (taker : Taker) → Belongs a.controller channel taker → IsClear (with_reassembly (record a { notes = notes }) taker r).controller p n
      by ForGsmp there = clear
      by (ForDefault linked) there = with_clear (port_on channel) linked (record linked { reassembly = r }) there refl refl
      by (ForLabel linked label) there = with_clear (port_on channel) linked (record linked { chains = chains_with linked.chains label.number r }) there refl refl
