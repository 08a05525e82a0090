-- how many requests stand

use Rattle.std.proofs.Common.{◌≡◌, ℕ, ◌≤◌, Bool, true, false, List, [], ◌∷◌, length, Option, None, Some, refl, sym, ◌∙◌, ap, arith, inl, inr, ◌*◌, if◌then◌else◌}
use Rattle.std.specs.Prelude.{◌+◌, ◌||◌, ◌&&◌, ◌==◌, ◌⊎◌, not, is_some, IsTrue}
use Rattle.std.specs.List.{list_any}
use Rattle.std.specs.Option.{option_map_or}
use Rattle.std.proofs.lemmas.Bool.Decides.{nat_tests}
use Rattle.law_controller_facts.specs.world_model.Words.{PortNo, End, is_label_channel, Request, AddBranch, MoveBranch, DeleteTree, VerifyTree, PortManagement, same_end, at, is_on, is_delete_all, Standing, Setup, home_of, Grant, most_grants, Linked, default_end, default_home, is_deleting}
use Rattle.law_controller_facts.specs.world_model.gsmp_wire.declared.request.Request.TheVariants.{DeleteAll, AllPorts}
use Rattle.law_controller_facts.specs.ordered_lists.Ordered.{Every, InOrder}
use Rattle.law_controller_facts.proofs.ordered_lists.Every.{every_all}
use Rattle.law_controller_facts.specs.world_model.port_model.Requests.{request_input}
use Rattle.law_controller_facts.specs.world_model.port_model.Grants as grants
use Rattle.law_controller_facts.specs.law_port_facts.Port.{setup_port, IsDefaultEnd, IsLinked, IsShaped, asks_ports, empties_control, empties_port, opens_input, opens_output, leads_label, leads_grant, joins_label, parts_label, frees_label}
use Rattle.law_controller_facts.proofs.law_port_facts.Keyed.{by_eq}
use Rattle.law_controller_facts.specs.Sound.{HaveOwnInputs, HaveOwnPorts}
use Rattle.law_controller_facts.proofs.Conditions.{of_label, shaped_moves}
use Rattle.law_controller_facts.specs.Conditions.{MovesLabels}
use Rattle.law_controller.specs.Order.{lends, lends_at, is_lent, is_default, stands_unlent, is_all_ports, one_if, count_of}
use Rattle.law_controller.proofs.Lists.{one_most, one_or, count_or, count_none, count_one, count_pigeon}

is_end : (a b : End) → same_end a b ≡ true → a ≡ b
is_end a b e = grind (arith, nat_tests)

-- *The other kinds*
abbrev stands_lent : List Linked → Standing → Bool
stands_lent ports s = option_map_or (is_lent ports) (request_input s.request) false

abbrev stands_default : Standing → Bool
stands_default s = option_map_or is_default (request_input s.request) false

abbrev stands_deleting : Standing → Bool
stands_deleting s = is_deleting s.request

-- each that stands is of one of them
of_input_one : (default lent : Bool) → 1 ≤ one_if (not default && not lent) + (one_if lent + one_if default)
of_input_one true true = omega arith
of_input_one true false = omega arith
of_input_one false true = omega arith
of_input_one false false = omega arith

of_kinds : (ports : List Linked) (n : ℕ) (request : Request) → MovesLabels request
    → 1 ≤ one_if (stands_unlent ports (record { number = n; request = request })) + (one_if (stands_lent ports (record { number = n; request = request })) + one_if (stands_default (record { number = n; request = request })))
    + (one_if (is_deleting request) + one_if (is_all_ports (record { number = n; request = request })))
of_kinds ports n (AddBranch input output) m = (let k = of_input_one (is_default input) (is_lent ports input) in omega (arith, k))
of_kinds ports n (MoveBranch input from to) m = (let k = of_input_one (is_default input) (is_lent ports input) in omega (arith, k))
of_kinds ports n (DeleteTree input) m = (let k = of_input_one (is_default input) (is_lent ports input) in omega (arith, k))
of_kinds ports n (VerifyTree input) m = (let k = of_input_one (is_default input) (is_lent ports input) in omega (arith, k))
of_kinds ports n (DeleteAll port) m = omega arith
of_kinds ports n (PortManagement port function) m = absurd m
of_kinds ports n AllPorts m = omega arith

count_kinds : (setups : List Setup) (ports : List Linked) (standing : List Standing) → Every (λ (s : Standing). IsShaped setups s.request) standing
    → length standing ≤ count_of (stands_unlent ports) standing + (count_of (stands_lent ports) standing + count_of stands_default standing) + (count_of stands_deleting standing + count_of is_all_ports standing)
count_kinds setups ports [] all = omega arith
count_kinds setups ports (s ∷ standing) all = omega (arith, of_kinds ports s.number s.request (shaped_moves setups s.request all.0), count_kinds setups ports standing all.1)

-- *On lent inputs*: at most one for each grant
abbrev holds_on : Grant → Standing → Bool
holds_on grant s = option_map_or (λ (input : End). lends input grant) (request_input s.request) false

record IsOnGrant (grant : Grant) (s : Standing) : Type 0 where
  input : End
  on : request_input s.request ≡ Some input
  lent : grants.lent_input grant.state ≡ Some input

on_grant : (grant : Grant) (s : Standing) → holds_on grant s ≡ true → IsOnGrant grant s
on_grant grant s e = by_input (request_input s.request) refl e
  where
    by_lent : (input : End) → request_input s.request ≡ Some input → (o : Option End) → grants.lent_input grant.state ≡ o → option_map_or (same_end input) o false ≡ true → IsOnGrant grant s
    by_lent input on None lent e = absurd (cc e)
    by_lent input on (Some other) lent e = record { input = input; on = on; lent = lent ∙ ap (λ (x : End). Some x) (sym (is_end input other e)) }

    by_input : (o : Option End) → request_input s.request ≡ o → option_map_or (λ (input : End). lends input grant) o false ≡ true → IsOnGrant grant s
    by_input None on e = absurd (cc e)
    by_input (Some input) on e = by_lent input on (grants.lent_input grant.state) refl e

one_each : (grant : Grant) (x y : Standing) → HaveOwnInputs x y → holds_on grant x ≡ true → holds_on grant y ≡ true → ⊥
one_each grant x y own e f =
    let a : IsOnGrant grant x = on_grant grant x e in
    let b : IsOnGrant grant y = on_grant grant y f in
    own a.input a.on (b.on ∙ sym b.lent ∙ a.lent)

lent_none : (o : Option End) → option_map_or (λ (input : End). false) o false ≡ false
lent_none None = refl
lent_none (Some input) = refl

lent_more : (x : Linked) (ports : List Linked) (o : Option End)
    → one_if (option_map_or (is_lent (x ∷ ports)) o false) ≤ one_if (list_any (λ (grant : Grant). option_map_or (λ (input : End). lends input grant) o false) x.port.grants) + one_if (option_map_or (is_lent ports) o false)
lent_more x ports None = omega arith
lent_more x ports (Some input) = one_or (lends_at input x) (is_lent ports input)

abbrev pub HasFewGrants : Linked → Type 0
HasFewGrants x = length x.port.grants ≤ most_grants

count_lent : (ports : List Linked) (standing : List Standing) → Every HasFewGrants ports → InOrder HaveOwnInputs standing → count_of (stands_lent ports) standing ≤ 256 * length ports
count_lent [] standing few own = omega (arith, count_none (stands_lent []) standing (every_all (λ (s : Standing). stands_lent [] s ≡ false) standing (λ s. lent_none (request_input s.request))))
count_lent (x ∷ ports) standing few own = omega (
  arith,
  few.0,
  count_lent ports standing few.1 own,
  count_or (stands_lent (x ∷ ports)) (λ (s : Standing). list_any (λ (grant : Grant). holds_on grant s) x.port.grants) (stands_lent ports) (λ s. lent_more x ports (request_input s.request)) standing,
  count_pigeon holds_on x.port.grants standing (λ grant. count_one HaveOwnInputs (holds_on grant) (one_each grant) standing own),
)

-- *Of linked ports*
any_linked : (f : Setup → Bool) (k : ℕ) (setups : List Setup) → ((setup : Setup) → setup.port.0 ≡ k → f setup ≡ true) → is_some (at setup_port k setups) ≡ true → list_any f setups ≡ true
any_linked f k [] each e = absurd (cc e)
any_linked f k (setup ∷ setups) each e = by_eq (setup_port setup) k
    (λ same t. ap (λ b. b || list_any f setups) (each setup same))
    (λ other t. second (f setup) (any_linked f k setups each (sym (ap (λ (b : Bool). is_some (if b then Some setup else at setup_port k setups)) t) ∙ e)))
  where
    second : (b : Bool) {c : Bool} → c ≡ true → (b || c) ≡ true
    second true e = refl
    second false e = e

-- *Delete Alls*: at most one for each port
abbrev zero_port : PortNo
zero_port = record { 0 = 0 }

one_deleting : (port : PortNo) (x y : Standing) → HaveOwnPorts x y → is_delete_all port x.request ≡ true → is_delete_all port y.request ≡ true → ⊥
one_deleting port x y own e f = absurd (cc (sym f ∙ own port e))

one_right : (a b : Bool) → b ≡ true → 1 ≤ one_if a + one_if b
one_right a b e = omega (arith, ap one_if e)

one_left : (a b : Bool) → a ≡ true → 1 ≤ one_if a + one_if b
one_left a b e = omega (arith, ap one_if e)

same_number : (m n : ℕ) → n ≡ m → (m == n) ≡ true
same_number m n e = grind (arith, nat_tests)

deleting_kind : (setups : List Setup) (request : Request) → IsShaped setups request
    → one_if (is_deleting request) ≤ one_if (is_delete_all zero_port request) + one_if (list_any (λ (setup : Setup). is_delete_all setup.port request) setups)
deleting_kind setups request asks_ports = omega arith
deleting_kind setups request (empties_control port zero) = one_left (port.0 == 0) (list_any (λ (setup : Setup). port.0 == setup.port.0) setups) (same_number port.0 0 (sym zero))
deleting_kind setups request (empties_port port linked) = one_right (port.0 == 0) (list_any (λ (setup : Setup). port.0 == setup.port.0) setups)
    (any_linked (λ (setup : Setup). port.0 == setup.port.0) port.0 setups (λ setup same. same_number port.0 setup.port.0 same) linked)
deleting_kind setups request (opens_input end d) = omega arith
deleting_kind setups request (opens_output end d) = omega arith
deleting_kind setups request (leads_label end e) = omega arith
deleting_kind setups request (leads_grant end e) = omega arith
deleting_kind setups request (joins_label input output i o) = omega arith
deleting_kind setups request (parts_label input output i o) = omega arith
deleting_kind setups request (frees_label end e) = omega arith

count_sum : {A : Type 0} (P : A → Type 0) (f g h : A → Bool) → ((x : A) → P x → one_if (f x) ≤ one_if (g x) + one_if (h x)) → (xs : List A) → Every P xs → count_of f xs ≤ count_of g xs + count_of h xs
count_sum P f g h each [] all = omega arith
count_sum P f g h each (x ∷ xs) all = omega (arith, each x all.0, count_sum P f g h each xs all.1)

count_deleting : (setups : List Setup) (standing : List Standing) → Every (λ (s : Standing). IsShaped setups s.request) standing → InOrder HaveOwnPorts standing → count_of stands_deleting standing ≤ 1 + length setups
count_deleting setups standing shaped own = omega (
  arith,
  count_sum (λ (s : Standing). IsShaped setups s.request) stands_deleting (λ (s : Standing). is_delete_all zero_port s.request) (λ (s : Standing). list_any (λ (setup : Setup). is_delete_all setup.port s.request) setups)
      (λ s shape. deleting_kind setups s.request shape) standing shaped,
  count_one HaveOwnPorts (λ (s : Standing). is_delete_all zero_port s.request) (one_deleting zero_port) standing own,
  count_pigeon (λ (setup : Setup) (s : Standing). is_delete_all setup.port s.request) setups standing
      (λ setup. count_one HaveOwnPorts (λ (s : Standing). is_delete_all setup.port s.request) (one_deleting setup.port) standing own),
)

-- *Default channels*: at most two for each port
one_on : (e : End) (x y : Standing) → HaveOwnInputs x y → is_on e x.request ≡ true → is_on e y.request ≡ true → ⊥
one_on e x y own on_x on_y = own e (has_input x on_x) (has_input y on_y)
  where
    has_input : (s : Standing) → is_on e s.request ≡ true → request_input s.request ≡ Some e
    has_input s on = by_input (request_input s.request) refl on
      where
        by_input : (o : Option End) → request_input s.request ≡ o → option_map_or (same_end e) o false ≡ true → request_input s.request ≡ Some e
        by_input None is t = absurd (cc t)
        by_input (Some i) is t = is ∙ ap (λ (x : End). Some x) (sym (is_end e i t))

abbrev on_own : List Setup → Request → Bool
on_own setups request = is_on (default_end zero_port) request || list_any (λ (setup : Setup). is_on (default_end setup.port) request) setups

abbrev on_home : List Setup → Request → Bool
on_home setups request = is_on (default_home zero_port) request || list_any (λ (setup : Setup). is_on (default_home setup.port) request) setups

no_default : (input : End) → IsTrue (is_label_channel input.channel) → is_default input ≡ false
no_default input label = grind (arith, nat_tests)

never_default : (b : Bool) (x : ℕ) → b ≡ false → one_if b ≤ x
never_default true x e = absurd (cc e)
never_default false x e = omega arith

default_is : (setups : List Setup) (end : End) → IsDefaultEnd setups end → end ≡ default_end end.port
default_is setups end d = grind (arith, d.vpi, d.vci)

end_itself : (e : End) → same_end e e ≡ true
end_itself e = grind (arith, nat_tests)

on_default : (setups : List Setup) (f : End → End) (end : End) → IsDefaultEnd setups end
    → (same_end (f (default_end zero_port)) (f end) || list_any (λ (setup : Setup). same_end (f (default_end setup.port)) (f end)) setups) ≡ true
on_default setups f end d = by_port d.port
  where
    port_is : (p : PortNo) → p.0 ≡ end.port.0 → same_end (f (default_end p)) (f end) ≡ true
    port_is p same = ap (λ (e : End). same_end (f e) (f end)) (ap (λ (n : ℕ). default_end (record { 0 = n })) same ∙ sym (default_is setups end d)) ∙ end_itself (f end)

    first : (a b : Bool) → a ≡ true → (a || b) ≡ true
    first a b e = ap (λ t. t || b) e

    second : (a b : Bool) → b ≡ true → (a || b) ≡ true
    second true b e = refl
    second false b e = e

    by_port : (end.port.0 ≡ 0) ⊎ IsLinked setups end.port → (same_end (f (default_end zero_port)) (f end) || list_any (λ (setup : Setup). same_end (f (default_end setup.port)) (f end)) setups) ≡ true
    by_port (inl zero) = first (same_end (f (default_end zero_port)) (f end)) _ (port_is zero_port (sym zero))
    by_port (inr linked) = second (same_end (f (default_end zero_port)) (f end)) (list_any (λ (setup : Setup). same_end (f (default_end setup.port)) (f end)) setups)
        (any_linked (λ (setup : Setup). same_end (f (default_end setup.port)) (f end)) end.port.0 setups (λ setup same. port_is setup.port same) linked)

default_kind : (setups : List Setup) (s : Standing) → IsShaped setups s.request → one_if (stands_default s) ≤ one_if (on_own setups s.request) + one_if (on_home setups s.request)
default_kind setups s shape = by_shape s.request shape
  where
    by_shape : (request : Request) → IsShaped setups request → one_if (option_map_or is_default (request_input request) false) ≤ one_if (on_own setups request) + one_if (on_home setups request)
    by_shape request asks_ports = omega arith
    by_shape request (empties_control port zero) = omega arith
    by_shape request (empties_port port linked) = omega arith
    by_shape request (opens_input end d) = (let k = one_left (on_own setups (AddBranch end (home_of end))) (on_home setups (AddBranch end (home_of end))) (on_default setups (λ e. e) end d) in omega (arith, k, one_most (is_default end)))
    by_shape request (opens_output end d) = (let k = one_right (on_own setups (AddBranch (home_of end) end)) (on_home setups (AddBranch (home_of end) end)) (on_default setups home_of end d) in omega (arith, k, one_most (is_default (home_of end))))
    by_shape request (leads_label end e) = never_default (is_default end) _ (no_default end (of_label setups end e))
    by_shape request (leads_grant end e) = never_default (is_default (home_of end)) _ (no_default end (of_label setups end e))
    by_shape request (joins_label input output i o) = never_default (is_default input) _ (no_default input (of_label setups input i))
    by_shape request (parts_label input output i o) = never_default (is_default input) _ (no_default input (of_label setups input i))
    by_shape request (frees_label end e) = never_default (is_default end) _ (no_default end (of_label setups end e))

count_ends : (f : PortNo → End) (setups : List Setup) (standing : List Standing) → InOrder HaveOwnInputs standing
    → count_of (λ (s : Standing). is_on (f zero_port) s.request || list_any (λ (setup : Setup). is_on (f setup.port) s.request) setups) standing ≤ 1 + length setups
count_ends f setups standing own = omega (
  arith,
  count_or (λ (s : Standing). is_on (f zero_port) s.request || list_any (λ (setup : Setup). is_on (f setup.port) s.request) setups) (λ (s : Standing). is_on (f zero_port) s.request)
      (λ (s : Standing). list_any (λ (setup : Setup). is_on (f setup.port) s.request) setups) (λ s. one_or (is_on (f zero_port) s.request) (list_any (λ (setup : Setup). is_on (f setup.port) s.request) setups)) standing,
  count_one HaveOwnInputs (λ (s : Standing). is_on (f zero_port) s.request) (one_on (f zero_port)) standing own,
  count_pigeon (λ (setup : Setup) (s : Standing). is_on (f setup.port) s.request) setups standing (λ setup. count_one HaveOwnInputs (λ (s : Standing). is_on (f setup.port) s.request) (one_on (f setup.port)) standing own),
)

count_default : (setups : List Setup) (standing : List Standing) → Every (λ (s : Standing). IsShaped setups s.request) standing → InOrder HaveOwnInputs standing → count_of stands_default standing ≤ 2 + 2 * length setups
count_default setups standing shaped own = omega (
  arith,
  count_sum (λ (s : Standing). IsShaped setups s.request) stands_default (λ (s : Standing). on_own setups s.request) (λ (s : Standing). on_home setups s.request) (λ s shape. default_kind setups s shape) standing shaped,
  count_ends default_end setups standing own,
  count_ends default_home setups standing own,
)

-- *All*: what stands beyond those on inputs that are not lent
pub count_needed : (setups : List Setup) (ports : List Linked) (standing : List Standing) → length setups ≤ 8 → length ports ≤ 8 → Every HasFewGrants ports → Every (λ (s : Standing). IsShaped setups s.request) standing
    → InOrder HaveOwnInputs standing → InOrder HaveOwnPorts standing → count_of is_all_ports standing ≤ 1 → length standing ≤ count_of (stands_unlent ports) standing + 2076
count_needed setups ports standing few_setups few_ports few shaped own_inputs own_ports one = omega (
  arith,
  few_setups,
  few_ports,
  one,
  count_kinds setups ports standing shaped,
  count_lent ports standing few own_inputs,
  count_default setups standing shaped own_inputs,
  count_deleting setups standing shaped own_ports,
)
