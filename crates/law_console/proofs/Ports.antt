-- the ports of the switch: what a request is tested for there is what the plain machine tests

use Rattle.std.proofs.Common.{◌≡◌, ℕ, zero, suc, ◌+◌, ◌≤◌, ◌==◌, ◌&&◌, ◌||◌, Bool, true, false, cond, not, List, [], ◌∷◌, map, Option, None, Some, is_some, refl, ◌∙◌, ap, arith, nat_le, nat_lt}
use Rattle.std.specs.List.{range_with_len, list_any, list_all}
use Rattle.std.specs.Option.{option_map_or}
use Rattle.std.proofs.lemmas.Bool.Decides.{nat_tests}
use Rattle.world_model.specs.Words.{PortNo, End, Instance, is_link_channel, is_connectable, PortRow, session_of, control_port, has_port, has_session, numbers_of}
use Rattle.ordered_lists.specs.Ordered.{Every}
use Rattle.world_model.specs.port_model.Messages.{row_of as row_found}
use Rattle.world_model.specs.switch_model.declared.port.PortState.{PortState}
use Rattle.world_model.specs.Switch.{begun, state_of_port, is_up}
use Rattle.world_model.specs.Answers.{port_row}
use Rattle.console_model.specs.Lab.{ports_to}
use Rattle.console_model.specs.Plain.{is_port}
use Rattle.law_console.specs.Words.{first_ports, first_rows}

-- *One of these ports*
abbrev is_of : List PortNo → (number : ℕ) → Bool
is_of ports number = list_any (λ port. port.0 == number) ports

same_port : (a b : PortNo) → (a.0 == b.0) ≡ true → a ≡ b
same_port a b e = λ i. record { 0 = number i }
  where
    number : a.0 ≡ b.0
    number = grind (arith, nat_tests)

port_found : (own : Instance) (ports : List PortNo) (p : PortNo) → state_of_port (map (begun own) ports) p ≡ cond (is_of ports p.0) (Some (begun own p)) None
port_found own [] p = refl
port_found own (x ∷ ports) p = by (x.0 == p.0) refl (port_found own ports p)
  where
    by : (b : Bool) → (x.0 == p.0) ≡ b → state_of_port (map (begun own) ports) p ≡ cond (is_of ports p.0) (Some (begun own p)) None
        → cond b (Some (begun own x)) (state_of_port (map (begun own) ports) p) ≡ cond (b || is_of ports p.0) (Some (begun own p)) None
    by true e rest = ap (λ (z : PortNo). Some (begun own z)) (same_port x p e)
    by false e rest = rest

row_is : (own : Instance) (ports : List PortNo) (p : PortNo) → row_found (map port_row (map (begun own) ports)) p ≡ cond (is_of ports p.0) (Some (port_row (begun own p))) None
row_is own [] p = refl
row_is own (x ∷ ports) p = by (x.0 == p.0) refl (row_is own ports p)
  where
    by : (b : Bool) → (x.0 == p.0) ≡ b → row_found (map port_row (map (begun own) ports)) p ≡ cond (is_of ports p.0) (Some (port_row (begun own p))) None
        → cond b (Some (port_row (begun own x))) (row_found (map port_row (map (begun own) ports)) p) ≡ cond (b || is_of ports p.0) (Some (port_row (begun own p))) None
    by true e rest = ap (λ (z : PortNo). Some (port_row (begun own z))) (same_port x p e)
    by false e rest = rest

-- *1 to so many*
one_more : (a n q : ℕ) (rest : Bool) → rest ≡ (nat_le (a + 1) q && nat_lt q (a + 1 + n)) → ((a == q) || rest) ≡ (nat_le a q && nat_lt q (a + suc n))
one_more a n q rest e = grind (arith, nat_tests)

none_more : (a q : ℕ) → false ≡ (nat_le a q && nat_lt q (a + 0))
none_more a q = grind (arith, nat_tests)

ranged : (a n q : ℕ) → is_of (map (λ number. record { 0 = number }) (range_with_len a n)) q ≡ (nat_le a q && nat_lt q (a + n))
ranged a zero q = none_more a q
ranged a (suc n) q = one_more a n q _ (ranged (a + 1) n q)

within : (ports q : ℕ) → 1 ≤ q → ((0 == q) || (nat_le 1 q && nat_lt q (1 + ports))) ≡ (nat_le 1 q && nat_le q ports)
within ports q least = grind (arith, nat_tests)

listed : (ports : ℕ) (p : PortNo) → 1 ≤ p.0 → is_of (control_port ∷ ports_to ports) p.0 ≡ is_port ports p
listed ports p least = ap (λ (b : Bool). (0 == p.0) || b) (ranged 1 ports p.0) ∙ within ports p.0 least

module _ (ports : ℕ) (p : PortNo) (least : 1 ≤ p.0) where
  some_if : {A : Type 0} (b : Bool) (x : A) → is_some (cond b (Some x) None) ≡ b
  some_if true x = refl
  some_if false x = refl

  pub has_is : has_port (first_ports ports) p ≡ is_port ports p
  has_is = ap is_some (port_found (record { 0 = 2 }) (control_port ∷ ports_to ports) p) ∙ some_if (is_of (control_port ∷ ports_to ports) p.0) (begun (record { 0 = 2 }) p) ∙ listed ports p least

  module _ (there : is_port ports p ≡ true) where
    found : state_of_port (first_ports ports) p ≡ Some (begun (record { 0 = 2 }) p)
    found = port_found (record { 0 = 2 }) (control_port ∷ ports_to ports) p
        ∙ ap (λ (b : Bool). cond b (Some (begun (record { 0 = 2 }) p)) None) (listed ports p least ∙ there)

    pub up_is : is_up (first_ports ports) p ≡ true
    up_is = ap (λ (o : Option PortState). option_map_or (λ state. state.is_up) o false) found

    session_is : session_of (first_rows ports) p ≡ 2
    session_is = ap (λ (o : Option PortRow). option_map_or (λ row. row.session) o 0)
        (row_is (record { 0 = 2 }) (control_port ∷ ports_to ports) p ∙ ap (λ (b : Bool). cond b (Some (port_row (begun (record { 0 = 2 }) p))) None) (listed ports p least ∙ there))

    pub named_is : has_session (first_ports ports) p (session_of (first_rows ports) p) ≡ true
    named_is = ap (λ (o : Option PortState). option_map_or (λ state. state.session == session_of (first_rows ports) p) o false) found ∙ ap (λ (n : ℕ). 2 == n) session_is

  -- the session that a request names has its width
  pub session_low : session_of (first_rows ports) p ≤ 2
  session_low = by (is_port ports p) refl
    where
      by : (b : Bool) → is_port ports p ≡ b → session_of (first_rows ports) p ≤ 2
      by true e = omega (arith, session_is e)
      by false e = omega (
        arith,
        ap (λ (o : Option PortRow). option_map_or (λ row. row.session) o 0)
            (row_is (record { 0 = 2 }) (control_port ∷ ports_to ports) p ∙ ap (λ (b : Bool). cond b (Some (port_row (begun (record { 0 = 2 }) p))) None) (listed ports p least ∙ e)),
      )

-- *Channels*
channel_here : (p q : ℕ) (home link : Bool) → 1 ≤ q → (nat_lt 0 p && cond (q == 0) home (q == p && link)) ≡ (p == q && link)
channel_here p q home link least = grind (arith, nat_tests)

both_or : (a b link : Bool) → ((a && link) || (b && link)) ≡ ((a || b) && link)
both_or true true true = refl
both_or true true false = refl
both_or true false true = refl
both_or true false false = refl
both_or false b link = refl

connected : (ports : List PortNo) (e : End) → 1 ≤ e.port.0 → is_connectable ports 1 e ≡ (is_of ports e.port.0 && is_link_channel 1 e.channel)
connected [] e least = refl
connected (p ∷ ports) e least =
    let link : Bool = is_link_channel 1 e.channel in
    ap (λ (b : Bool). b || is_connectable ports 1 e) (channel_here p.0 e.port.0 _ link least)
    ∙ ap (λ (b : Bool). (p.0 == e.port.0 && link) || b) (connected ports e least)
    ∙ both_or (p.0 == e.port.0) (is_of ports e.port.0) link

numbered : (own : Instance) (ports : List PortNo) → numbers_of (map (begun own) ports) ≡ ports
numbered own [] = refl
numbered own (p ∷ ports) = λ i. p ∷ numbered own ports i

pub connects : (ports : ℕ) (e : End) → 1 ≤ e.port.0 → is_port ports e.port ≡ true → is_connectable (numbers_of (first_ports ports)) 1 e ≡ is_link_channel 1 e.channel
connects ports e least there =
    ap (λ (ns : List PortNo). is_connectable ns 1 e) (numbered (record { 0 = 2 }) (control_port ∷ ports_to ports))
    ∙ connected (control_port ∷ ports_to ports) e least
    ∙ ap (λ (b : Bool). b && is_link_channel 1 e.channel) (listed ports e.port least ∙ there)

-- *Several*
pub all_same : {A : Type 0} (f g : A → Bool) (xs : List A) → Every (λ x. f x ≡ g x) xs → list_all f xs ≡ list_all g xs
all_same f g [] each = refl
all_same f g (x ∷ xs) each = λ i. each.0 i && all_same f g xs each.1 i

pub all_true : {A : Type 0} (f : A → Bool) (xs : List A) → Every (λ x. f x ≡ true) xs → list_all f xs ≡ true
all_true f [] each = refl
all_true f (x ∷ xs) each = ap (λ (b : Bool). b && list_all f xs) each.0 ∙ all_true f xs each.1

pub all_each : {A : Type 0} (f : A → Bool) (xs : List A) → list_all f xs ≡ true → Every (λ x. f x ≡ true) xs
all_each f [] e = tt
all_each f (x ∷ xs) e = (first (f x) e, all_each f xs (second (f x) e))
  where
    first : (b : Bool) → (b && list_all f xs) ≡ true → b ≡ true
    first true e = refl
    first false e = e

    second : (b : Bool) → (b && list_all f xs) ≡ true → list_all f xs ≡ true
    second true e = e
    second false e = absurd (cc e)

pub held : (b : Bool) → not b ≡ false → b ≡ true
held true e = refl
held false e = absurd (cc e)
