-- who takes the cells of a channel of the control link is one of the controller's ports

use Rattle.std.proofs.Common.{◌≡◌, ℕ, ◌*◌, ◌+◌, ◌/◌, ◌%◌, Bool, true, false, Option, None, Some, refl, subst, arith, if◌then◌else◌}
use Rattle.std.specs.Prelude.{◌==◌, ◌&&◌}
use Rattle.std.specs.Option.{option_and_then}
use Rattle.std.proofs.lemmas.Bool.Decides.{nat_tests}
use Rattle.law_world_pace.specs.world_model.Words.{Channel, label_number_of, Label, is_bound, label_at, Controller, Linked, linked_at, port_key, default_channel, default_home, ForGsmp, ForDefault, ForLabel, taker_of, taker_at, label_taker, port_on, on_link, same_channel}
use Rattle.law_controller_bindings.specs.ordered_lists.Ordered.{Every}
use Rattle.law_controller_bindings.proofs.law_port_facts.Keyed.{at_every, at_key}
use Rattle.law_world_pace.specs.world_model.Cells.{Taker}

-- what is so of every port is so of the one that takes
abbrev pub OfTaker : (Linked → Type 0) → Taker → Type 0
OfTaker P ForGsmp = Unit {0}
OfTaker P (ForDefault linked) = P linked
OfTaker P (ForLabel linked label) = P linked

some_taker : (x y : Taker) → Some x ≡ Some y → x ≡ y
some_taker x y e = cc e

label_of : (P : Linked → Type 0) (linked : Linked) (taker : Taker) (o : Option Label) → P linked → label_taker linked o ≡ Some taker → OfTaker P taker
label_of P linked taker None p e = absurd (cc e)
label_of P linked taker (Some label) p e = by (is_bound label.state) e
  where
    by : (b : Bool) → (if b then Some (ForLabel linked label) else None) ≡ Some taker → OfTaker P taker
    by true e = subst (OfTaker P) (some_taker (ForLabel linked label) taker e) p
    by false e = absurd (cc e)

pub taker_at_port : (P : Linked → Type 0) (c : Controller) (channel : Channel) (taker : Taker) → Every P c.ports → taker_of c channel ≡ Some taker → OfTaker P taker
taker_at_port P c channel taker all e = by_gsmp (same_channel channel default_channel) e
  where
    by_default : (linked : Linked) (b : Bool) → P linked → (if b then Some (ForDefault linked) else label_taker linked (option_and_then (label_at linked.port) (label_number_of (on_link channel)))) ≡ Some taker → OfTaker P taker
    by_default linked true p e = subst (OfTaker P) (some_taker (ForDefault linked) taker e) p
    by_default linked false p e = label_of P linked taker (option_and_then (label_at linked.port) (label_number_of (on_link channel))) p e

    by_port : (o : Option Linked) → linked_at c (port_on channel) ≡ o → taker_at o (on_link channel) ≡ Some taker → OfTaker P taker
    by_port None found e = absurd (cc e)
    by_port (Some linked) found e = by_default linked (same_channel (on_link channel) default_channel) (at_every port_key P (port_on channel).0 c.ports linked all found) e

    by_gsmp : (b : Bool) → (if b then Some ForGsmp else taker_at (linked_at c (port_on channel)) (on_link channel)) ≡ Some taker → OfTaker P taker
    by_gsmp true e = subst (OfTaker P) (some_taker ForGsmp taker e) tt
    by_gsmp false e = by_port (linked_at c (port_on channel)) refl e

-- the default channel of the port that takes for it
abbrev IsDefault : Channel → Taker → Type 0
IsDefault channel ForGsmp = Unit {0}
IsDefault channel (ForDefault linked) = same_channel channel (default_home linked.setup.port).channel ≡ true
IsDefault channel (ForLabel linked label) = Unit {0}

is_default : (channel : Channel) (port : ℕ) → port ≡ channel.vpi / 16 → same_channel (on_link channel) default_channel ≡ true → same_channel channel (default_home (record { 0 = port })).channel ≡ true
is_default channel port is e = test (channel.vpi == 16 * port + 0) (channel.vci == 15) vpi vci
  where
    parts : (a b : Bool) → (a && b) ≡ true → (a ≡ true) × (b ≡ true)
    parts true true e = (refl, refl)
    parts true false e = absurd (cc e)
    parts false b e = absurd (cc e)

    test : (a b : Bool) → a ≡ true → b ≡ true → (a && b) ≡ true
    test true true f g = refl
    test true false f g = absurd (cc g)
    test false b f g = absurd (cc f)

    vci : (channel.vci == 15) ≡ true
    vci = (parts (channel.vpi % 16 == 0) (channel.vci == 15) e).1

    rest : channel.vpi % 16 ≡ 0
    rest = grind (arith, nat_tests, (parts (channel.vpi % 16 == 0) (channel.vci == 15) e).0)

    whole : channel.vpi ≡ 16 * port + 0
    whole = omega (arith, rest, is)

    vpi : (channel.vpi == 16 * port + 0) ≡ true
    vpi = grind (arith, nat_tests, whole)

pub default_of : (c : Controller) (channel : Channel) (linked : Linked) → taker_of c channel ≡ Some (ForDefault linked) → same_channel channel (default_home linked.setup.port).channel ≡ true
default_of c channel linked e = by_gsmp (same_channel channel default_channel) e
  where
    by_label : (other : Linked) (o : Option Label) → label_taker other o ≡ Some (ForDefault linked) → ⊥
    by_label other None e = cc e
    by_label other (Some label) e = by (is_bound label.state) e
      where
        by : (b : Bool) → (if b then Some (ForLabel other label) else None) ≡ Some (ForDefault linked) → ⊥
        by true e = cc e
        by false e = cc e

    by_default : (other : Linked) (b : Bool) → same_channel (on_link channel) default_channel ≡ b → other.setup.port.0 ≡ (port_on channel).0
        → (if b then Some (ForDefault other) else label_taker other (option_and_then (label_at other.port) (label_number_of (on_link channel)))) ≡ Some (ForDefault linked)
        → same_channel channel (default_home linked.setup.port).channel ≡ true
    by_default other true t key e = subst (IsDefault channel) (some_taker (ForDefault other) (ForDefault linked) e) (is_default channel other.setup.port.0 key t)
    by_default other false t key e = absurd (by_label other (option_and_then (label_at other.port) (label_number_of (on_link channel))) e)

    by_port : (o : Option Linked) → linked_at c (port_on channel) ≡ o → taker_at o (on_link channel) ≡ Some (ForDefault linked) → same_channel channel (default_home linked.setup.port).channel ≡ true
    by_port None found e = absurd (cc e)
    by_port (Some other) found e = by_default other (same_channel (on_link channel) default_channel) refl (at_key port_key (port_on channel).0 c.ports other found) e

    by_gsmp : (b : Bool) → (if b then Some ForGsmp else taker_at (linked_at c (port_on channel)) (on_link channel)) ≡ Some (ForDefault linked) → same_channel channel (default_home linked.setup.port).channel ≡ true
    by_gsmp true e = absurd (cc e)
    by_gsmp false e = by_port (linked_at c (port_on channel)) refl e

-- and GSMP's cells are those of its channel
pub gsmp_of : (c : Controller) (channel : Channel) → taker_of c channel ≡ Some ForGsmp → same_channel channel default_channel ≡ true
gsmp_of c channel e = by_gsmp (same_channel channel default_channel) refl e
  where
    by_label : (other : Linked) (o : Option Label) → label_taker other o ≡ Some ForGsmp → ⊥
    by_label other None e = cc e
    by_label other (Some label) e = by (is_bound label.state) e
      where
        by : (b : Bool) → (if b then Some (ForLabel other label) else None) ≡ Some ForGsmp → ⊥
        by true e = cc e
        by false e = cc e

    by_default : (other : Linked) (b : Bool) → (if b then Some (ForDefault other) else label_taker other (option_and_then (label_at other.port) (label_number_of (on_link channel)))) ≡ Some ForGsmp → ⊥
    by_default other true e = cc e
    by_default other false e = by_label other (option_and_then (label_at other.port) (label_number_of (on_link channel))) e

    by_port : (o : Option Linked) → taker_at o (on_link channel) ≡ Some ForGsmp → ⊥
    by_port None e = cc e
    by_port (Some other) e = by_default other (same_channel (on_link channel) default_channel) e

    by_gsmp : (b : Bool) → same_channel channel default_channel ≡ b → (if b then Some ForGsmp else taker_at (linked_at c (port_on channel)) (on_link channel)) ≡ Some ForGsmp → same_channel channel default_channel ≡ true
    by_gsmp true is e = is
    by_gsmp false is e = absurd (by_port (linked_at c (port_on channel)) e)
