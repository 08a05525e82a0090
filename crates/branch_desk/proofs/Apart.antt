-- Requests that stand apart: at most one has a key, be it an input or the port of a Delete All.

use Rattle.std.proofs.Common.{◌≡◌, ℕ, suc, zero, ◌<◌, ◌==◌, ◌&&◌, ◌||◌, Bool, true, false, not, cond, List, [], ◌∷◌, length, get_or, find, refl, sym, ap, ◌∙◌, arith, Option, Some, None, is_some, option_map, IfSome, inl, inr}
use Rattle.std.specs.Option.{option_map_or}
use Rattle.std.specs.List.{list_any}
use Rattle.std.proofs.lemmas.Bool.{cases_lt, eqb-true, eq-eqb}
use Rattle.std.proofs.lemmas.List.Folds.{list_any_none}
use Rattle.net_types.specs.declared.node.PortNo.{PortNo}
use Rattle.net_types.specs.declared.channel.End.{End}
use Rattle.gsmp_wire.specs.declared.request.Request.{Request}
use Rattle.gsmp_wire.specs.declared.request.Request.TheVariants.{AddBranch, MoveBranch, DeleteTree, VerifyTree, DeleteAll, PortManagement, AllPorts}
use Rattle.port_model.specs.crossbar_model.Crossbar.{same_end}
use Rattle.port_model.specs.Desk.{Standing}
use Rattle.port_model.specs.Messages.{all_of}
use Rattle.port_model.specs.Requests.{request_input, is_on, is_delete_all, leads_home, withdraws}
use Rattle.branch_desk.specs.Requests.{AreApart, deleted_of}
use Rattle.branch_desk.proofs.Ends.{end_from_same, same_itself}
use Rattle.branch_desk.proofs.Numbers.{not_true, found_first, find_passes}

-- the request has the key
abbrev pub has_key : (Request → Option End) → End → Request → Bool
has_key key end request = option_map_or (same_end end) (key request) false

pub record IsApartBy (key : Request → Option End) (xs : List Standing) : Type 0 where
  pub pairs : (i j : ℕ) (d : Standing) (end : End) → i < j → j < length xs → has_key key end (get_or xs i d).request ≡ true → has_key key end (get_or xs j d).request ≡ true → ⊥

-- *An input*

other_input : (input end : End) (earlier : Request) → is_on input earlier ≡ false → has_key request_input end earlier ≡ true → same_end end input ≡ true → ⊥
other_input input end earlier free on same =
    let is : end ≡ input = end_from_same end input same in
    let there : is_on input earlier ≡ true = rw (← is) on in
    cc (sym there ∙ free)

input_pair : (earlier later : Request) (end : End) → withdraws later earlier ≡ false → has_key request_input end earlier ≡ true → has_key request_input end later ≡ true → ⊥
input_pair earlier (AddBranch input output) end free on same = other_input input end earlier free on same
input_pair earlier (MoveBranch input from to) end free on same = other_input input end earlier free on same
input_pair earlier (DeleteTree input) end free on same = other_input input end earlier free on same
input_pair earlier (VerifyTree input) end free on same = other_input input end earlier free on same
input_pair earlier (DeleteAll port) end free on same = cc same
input_pair earlier (PortManagement port function) end free on same = cc same
input_pair earlier AllPorts end free on same = cc same

pub apart_inputs : (xs : List Standing) → AreApart xs → IsApartBy request_input xs
apart_inputs xs apart = record {
  pairs = λ i j d end lt within. input_pair (get_or xs i d).request (get_or xs j d).request end (apart i j d lt within);
}

-- *Delete All of a port*

same_port : (port other : PortNo) (end : End) → same_end end (all_of port) ≡ true → same_end end (all_of other) ≡ true → (other.0 == port.0) ≡ true
same_port port other end one two =
    let is : all_of other ≡ all_of port = sym (end_from_same end (all_of other) two) ∙ end_from_same end (all_of port) one in
    eq-eqb other.0 port.0 (ap (λ (e : End). e.port.0) is)

deleted_pair : (earlier later : Request) (end : End) → withdraws later earlier ≡ false → has_key deleted_of end earlier ≡ true → has_key deleted_of end later ≡ true → ⊥
deleted_pair (DeleteAll other) (DeleteAll port) end free one two =
    let there : (other.0 == port.0) ≡ true = same_port port other end two one in
    cc (sym there ∙ free)
deleted_pair (AddBranch input output) (DeleteAll port) end free one two = cc one
deleted_pair (MoveBranch input from to) (DeleteAll port) end free one two = cc one
deleted_pair (DeleteTree input) (DeleteAll port) end free one two = cc one
deleted_pair (VerifyTree input) (DeleteAll port) end free one two = cc one
deleted_pair (PortManagement managed function) (DeleteAll port) end free one two = cc one
deleted_pair AllPorts (DeleteAll port) end free one two = cc one
deleted_pair earlier (AddBranch input output) end free one two = cc two
deleted_pair earlier (MoveBranch input from to) end free one two = cc two
deleted_pair earlier (DeleteTree input) end free one two = cc two
deleted_pair earlier (VerifyTree input) end free one two = cc two
deleted_pair earlier (PortManagement managed function) end free one two = cc two
deleted_pair earlier AllPorts end free one two = cc two

pub apart_deletes : (xs : List Standing) → AreApart xs → IsApartBy deleted_of xs
apart_deletes xs apart = record {
  pairs = λ i j d end lt within. deleted_pair (get_or xs i d).request (get_or xs j d).request end (apart i j d lt within);
}

pub delete_is_key : (port : PortNo) (request : Request) → is_delete_all port request ≡ has_key deleted_of (all_of port) request
delete_is_key port (DeleteAll other) = by (other.0 == port.0) refl where
  by : (b : Bool) → (other.0 == port.0) ≡ b → (other.0 == port.0) ≡ same_end (all_of port) (all_of other)
  by true e =
      let is : other ≡ port = λ i. record { 0 = eqb-true other.0 port.0 e i } in
      e ∙ sym (rw is (same_itself (all_of port)))
  by false e = e ∙ sym (not_true (same_end (all_of port) (all_of other)) (λ h.
      let is : port.0 ≡ other.0 = ap (λ (x : End). x.port.0) (end_from_same (all_of port) (all_of other) h) in
      cc (sym e ∙ eq-eqb other.0 port.0 (sym is))))
delete_is_key port (AddBranch input output) = refl
delete_is_key port (MoveBranch input from to) = refl
delete_is_key port (DeleteTree input) = refl
delete_is_key port (VerifyTree input) = refl
delete_is_key port (PortManagement managed function) = refl
delete_is_key port AllPorts = refl

-- *The one that has a key*

module _ (key : Request → Option End) where
  pub found_key : (xs : List Standing) (k : ℕ) (d : Standing) (end : End) → IsApartBy key xs → k < length xs → has_key key end (get_or xs k d).request ≡ true → find (λ s. has_key key end s.request) xs ≡ Some (get_or xs k d)
  found_key xs k d end apart within here =
      found_first (λ (s : Standing). has_key key end s.request) xs k d within here (λ j lt.
      not_true (has_key key end (get_or xs j d).request) (λ h. apart.pairs j k d end lt within h here))

  -- no other request has its key
  pub none_beside : (xs : List Standing) (k : ℕ) (s : Standing) (end : End) → IsApartBy key xs → k < length xs → s ≡ get_or xs k s → has_key key end s.request ≡ true → list_any (λ x. has_key key end x.request && not (x.number == s.number)) xs ≡ false
  none_beside xs k s end apart within is here =
      list_any_none (λ (x : Standing). has_key key end x.request && not (x.number == s.number)) xs (λ j d w.
      let at : get_or xs k d ≡ s = other_default xs k d s within ∙ sym is in
      let keyed : has_key key end (get_or xs k d).request ≡ true = rw at here in
      elim (cases_lt j k) [
        | inl below ↦ by_key (get_or xs j d) (λ h. apart.pairs j k d end below within h keyed)
        | inr above ↦ elim (cases_lt k j) [
          | inl higher ↦ by_key (get_or xs j d) (λ h. apart.pairs k j d end higher w keyed h)
          | inr level ↦ (let one : j ≡ k = omega (arith, above, level) in
              by_number (get_or xs j d) (rw one (ap (λ (x : Standing). x.number) at)))
        ]
      ])
    where
      other_default : (ys : List Standing) (n : ℕ) (d e : Standing) → n < length ys → get_or ys n d ≡ get_or ys n e
      other_default [] n d e w = absurd (omega (arith, w))
      other_default (y ∷ ys) zero d e w = refl
      other_default (y ∷ ys) (suc n) d e w = other_default ys n d e (omega (arith, w))

      by_key : (x : Standing) → (has_key key end x.request ≡ true → ⊥) → (has_key key end x.request && not (x.number == s.number)) ≡ false
      by_key x differs = rw (not_true (has_key key end x.request) differs) refl

      by_number : (x : Standing) → x.number ≡ s.number → (has_key key end x.request && not (x.number == s.number)) ≡ false
      by_number x e = rw (eq-eqb x.number s.number e) (both (has_key key end x.request))
        where
          both : (b : Bool) → (b && false) ≡ false
          both true = refl
          both false = refl

-- *Finding and having*

pub found_any : {X : Type 0} (p : X → Bool) (xs : List X) → is_some (find p xs) ≡ list_any p xs
found_any p [] = refl
found_any p (x ∷ xs) = by (found_any p xs) (p x) where
  by : is_some (find p xs) ≡ list_any p xs → (b : Bool) → is_some (cond b (Some x) (find p xs)) ≡ (b || list_any p xs)
  by rest true = refl
  by rest false = rest

pub found_any_mapped : {X Y : Type 0} (f : X → Y) (p : X → Bool) (xs : List X) → is_some (option_map f (find p xs)) ≡ list_any p xs
found_any_mapped {X} f p xs = by (find p xs) ∙ found_any p xs where
  by : (o : Option X) → is_some (option_map f o) ≡ is_some o
  by None = refl
  by (Some x) = refl

pub find_agree : {X : Type 0} (p q : X → Bool) → ((x : X) → p x ≡ q x) → (xs : List X) → find p xs ≡ find q xs
find_agree p q same [] = refl
find_agree p q same (x ∷ xs) = rw (same x, find_agree p q same xs) refl

pub any_agree : {X : Type 0} (p q : X → Bool) → ((x : X) → p x ≡ q x) → (xs : List X) → list_any p xs ≡ list_any q xs
any_agree p q same [] = refl
any_agree p q same (x ∷ xs) = rw (same x, any_agree p q same xs) refl

-- *Led home*: by Delete All of the port, or by the request on the input

and_false : (b : Bool) → (b && false) ≡ false
and_false true = refl
and_false false = refl

or_false : (b : Bool) → (b || false) ≡ b
or_false true = refl
or_false false = refl

-- a test of an end, with one of an input that is that end
with_same : (end input : End) (q : Bool) → (same_end end input && q) ≡ (same_end input end && (same_end end input && q))
with_same end input q = by (same_end end input) refl where
  by : (b : Bool) → same_end end input ≡ b → (b && q) ≡ (same_end input end && (b && q))
  by true e =
      let is : end ≡ input = end_from_same end input e in
      let back : same_end input end ≡ true = rw is (same_itself input) in
      sym (ap (λ b. b && q) back)
  by false e = sym (and_false (same_end input end))

leads_by : (input home : End) (request : Request) → leads_home input home request ≡ (is_delete_all input.port request || (is_on input request && leads_home input home request))
leads_by input home (MoveBranch moved from to) = with_same moved input (same_end to home)
leads_by input home (DeleteTree deleted) = and_true_both (same_end deleted input) (same_end input deleted) (with_same deleted input true) where
  and_true_both : (a b : Bool) → (a && true) ≡ (b && (a && true)) → a ≡ (b && a)
  and_true_both true b e = e
  and_true_both false b e = sym (and_false b)
leads_by input home (DeleteAll port) = sym (or_false (port.0 == input.port.0))
leads_by input home (AddBranch other output) = sym (and_false (is_on input (AddBranch other output)))
leads_by input home (VerifyTree other) = sym (and_false (is_on input (VerifyTree other)))
leads_by input home (PortManagement port function) = refl
leads_by input home AllPorts = refl

any_either : {X : Type 0} (p q : X → Bool) (xs : List X) → list_any (λ x. p x || q x) xs ≡ (list_any p xs || list_any q xs)
any_either p q [] = refl
any_either p q (x ∷ xs) = rw (any_either p q xs) (by (p x) (q x) (list_any p xs) (list_any q xs)) where
  by : (a b c d : Bool) → ((a || b) || (c || d)) ≡ ((a || c) || (b || d))
  by true b c d = refl
  by false true true d = refl
  by false true false d = refl
  by false false c d = refl

rest_apart : (key : Request → Option End) (x : Standing) (xs : List Standing) → IsApartBy key (x ∷ xs) → IsApartBy key xs
rest_apart key x xs apart = record { pairs = λ i j d end lt w. apart.pairs (suc i) (suc j) d end (omega (arith, lt)) (omega (arith, w)) }

-- a test of the one on an input
pub any_of_one : (input : End) (q : Standing → Bool) (xs : List Standing) → IsApartBy request_input xs → list_any (λ s. is_on input s.request && q s) xs ≡ option_map_or q (find (λ s. is_on input s.request) xs) false
any_of_one input q [] apart = refl
any_of_one input q (x ∷ xs) apart = by (any_of_one input q xs (rest_apart request_input x xs apart)) (is_on input x.request) refl where
  none : is_on input x.request ≡ true → list_any (λ s. is_on input s.request && q s) xs ≡ false
  none here = list_any_none (λ (s : Standing). is_on input s.request && q s) xs (λ k d w.
      rw (not_true (is_on input (get_or xs k d).request) (λ h. apart.pairs zero (suc k) d input (omega arith) (omega (arith, w)) here h)) refl)

  by : list_any (λ s. is_on input s.request && q s) xs ≡ option_map_or q (find (λ s. is_on input s.request) xs) false → (b : Bool) → is_on input x.request ≡ b → ((b && q x) || list_any (λ s. is_on input s.request && q s) xs) ≡ option_map_or q (cond b (Some x) (find (λ s. is_on input s.request) xs)) false
  by rest true e = rw (none e) (or_false (q x))
  by rest false e = rest

pub led_home_is : (input home : End) (xs : List Standing) → AreApart xs → list_any (λ s. leads_home input home s.request) xs ≡ (list_any (λ s. is_delete_all input.port s.request) xs || option_map_or (λ (s : Standing). leads_home input home s.request) (find (λ s. is_on input s.request) xs) false)
led_home_is input home xs apart =
    any_agree (λ (s : Standing). leads_home input home s.request) (λ (s : Standing). is_delete_all input.port s.request || (is_on input s.request && leads_home input home s.request)) (λ s. leads_by input home s.request) xs
    ∙ any_either (λ (s : Standing). is_delete_all input.port s.request) (λ (s : Standing). is_on input s.request && leads_home input home s.request) xs
    ∙ ap (λ b. list_any (λ s. is_delete_all input.port s.request) xs || b) (any_of_one input (λ s. leads_home input home s.request) xs (apart_inputs xs apart))

pub led_by_delete : (input home : End) (xs : List Standing) → list_any (λ s. is_delete_all input.port s.request) xs ≡ true → list_any (λ s. leads_home input home s.request) xs ≡ true
led_by_delete input home xs there =
    any_agree (λ (s : Standing). leads_home input home s.request) (λ (s : Standing). is_delete_all input.port s.request || (is_on input s.request && leads_home input home s.request)) (λ s. leads_by input home s.request) xs
    ∙ any_either (λ (s : Standing). is_delete_all input.port s.request) (λ (s : Standing). is_on input s.request && leads_home input home s.request) xs
    ∙ ap (λ b. b || list_any (λ s. is_on input s.request && leads_home input home s.request) xs) there

find_on : (input : End) (xs : List Standing) (s : Standing) → find (λ x. is_on input x.request) xs ≡ Some s → is_on input s.request ≡ true
find_on input xs s found = find_passes (λ (x : Standing). is_on input x.request) xs s found

-- the one on the input tells
pub led_by_one : (input home : End) (xs : List Standing) (s : Standing) (b : Bool) → AreApart xs → list_any (λ x. is_delete_all input.port x.request) xs ≡ false → find (λ x. is_on input x.request) xs ≡ Some s → IfSome (request_input s.request) (λ on. b ≡ leads_home on home s.request) → list_any (λ x. leads_home input home x.request) xs ≡ b
led_by_one input home xs s b apart none found told =
    led_home_is input home xs apart ∙ rw (none, found) (by (request_input s.request) told (find_on input xs s found)) where
      by : (o : Option End) → IfSome o (λ on. b ≡ leads_home on home s.request) → option_map_or (same_end input) o false ≡ true → leads_home input home s.request ≡ b
      by None h on = absurd (cc on)
      by (Some end) h on = let is : input ≡ end = end_from_same input end on in rw is (sym h)

pub led_by_none : (input home : End) (xs : List Standing) → AreApart xs → list_any (λ x. is_delete_all input.port x.request) xs ≡ false → find (λ x. is_on input x.request) xs ≡ None → list_any (λ x. leads_home input home x.request) xs ≡ false
led_by_none input home xs apart none found = led_home_is input home xs apart ∙ rw (none, found) refl
