-- How far the loops have come that follow actions, and that withdraw what stands on inputs of a port.

use Rattle.std.proofs.Common.{◌≡◌, ℕ, suc, zero, ◌+◌, ◌<◌, ◌≤◌, ◌||◌, Bool, true, false, cond, List, [], ◌∷◌, length, get_or, drop, fold, refl, sym, ap, ◌∙◌, arith, Option, Some, None, is_some, slice_get, IfSome, inl, inr, subst}
use Rattle.std.specs.Option.{option_map_or, option_and_then}
use Rattle.std.specs.List.{list_any}
use Rattle.std.specs.Map.{keys_of, lookup}
use Rattle.std.proofs.lemmas.Bool.{cases_lt}
use Rattle.net_types.specs.declared.node.PortNo.{PortNo}
use Rattle.net_types.specs.declared.channel.End.{End}
use Rattle.crossbar_model.specs.Crossbar.{same_end}
use Rattle.port_model.specs.Desk.{Desk, Standing}
use Rattle.port_model.specs.Requests.{request_input}
use Rattle.branch_desk.proofs.Ends.{end_from_same, same_itself}
use Rattle.port_model.specs.declared.action.Action.{Action}
use Rattle.port_model.specs.Port.{desk_with}
use Rattle.port_actions.specs.Outlook.{Clears, Outlook, Tells, stands}
use Rattle.port_actions.proofs.Told.{on}

-- *Actions that are followed*
pub record IsFollowing (outlook : Outlook) (desk : Desk) (actions : List Action) (place : ℕ) : Type 0 where
  pub later : Desk
  pub tells : Tells outlook desk later
  pub rest : fold desk_with later (drop place actions) ≡ fold desk_with desk actions
  pub bound : outlook.many ≤ 4096 + place

drop_at : {A : Type 0} (xs : List A) (k : ℕ) (x : A) → slice_get xs k ≡ Some x → drop k xs ≡ x ∷ drop (k + 1) xs
drop_at [] zero x h = absurd (cc h)
drop_at [] (suc k) x h = absurd (cc h)
drop_at (y ∷ xs) zero x h = let same : y ≡ x = cc h in ap (λ z. z ∷ xs) same
drop_at (y ∷ xs) (suc k) x h = let next : suc k + 1 ≡ suc (k + 1) = omega arith in rw next (drop_at xs k x h)

pub got : {A : Type 0} (xs : List A) (k : ℕ) (x : A) → k < length xs → x ≡ get_or xs k x → slice_get xs k ≡ Some x
got [] k x w e = absurd (omega (arith, w))
got (y ∷ xs) zero x w e = ap Some (sym e)
got (y ∷ xs) (suc k) x w e = got xs k x (omega (arith, w)) e

pub follows_next : (o next : Outlook) (desk : Desk) (actions : List Action) (place : ℕ) (action : Action) → slice_get actions place ≡ Some action → (f : IsFollowing o desk actions place) → ((later : Desk) → Tells o desk later → Tells next desk (desk_with later action)) → next.many ≤ o.many + 1 → IsFollowing next desk actions (place + 1)
follows_next o next desk actions place action here f tells more = record {
  later = desk_with f.later action;
  tells = tells f.later f.tells;
  rest = ap (fold desk_with f.later) (sym (drop_at actions place action here)) ∙ f.rest;
  bound = let b : o.many ≤ 4096 + place = f.bound in omega (arith, more, b);
}

drop_all : {A : Type 0} (xs : List A) (k : ℕ) → length xs ≤ k → drop k xs ≡ []
drop_all [] zero w = refl
drop_all [] (suc k) w = refl
drop_all (x ∷ xs) zero w = absurd (omega (arith, w))
drop_all (x ∷ xs) (suc k) w = drop_all xs k (omega (arith, w))

pub follows_end : (o : Outlook) (desk : Desk) (actions : List Action) (place : ℕ) → IsFollowing o desk actions place → length actions ≤ place → Tells o desk (fold desk_with desk actions)
follows_end o desk actions place f end =
    let whole : f.later ≡ fold desk_with desk actions = ap (fold desk_with f.later) (sym (drop_all actions place end)) ∙ f.rest in
    subst (λ (d : Desk). Tells o desk d) whole f.tells

-- *Inputs of a port*
abbrev pub input_at : Desk → ℕ → Option End
input_at desk k = option_and_then (λ (s : Standing). request_input s.request) (slice_get desk.standing k)

abbrev pub IsFree : PortNo → Desk → Outlook → End → Type 0
IsFree port desk o end = end.port.0 ≡ port.0 → stands o desk end ≡ false

pub record IsClearing (port : PortNo) (desk : Desk) (first now : Outlook) (place : ℕ) : Type 0 where
  pub clears : Clears port desk first now
  pub free : (k : ℕ) → k < place → IfSome (input_at desk k) (IsFree port desk now)

falls_free : (port : PortNo) (desk : Desk) (now next : Outlook) → ((end : End) → stands now desk end ≡ false → stands next desk end ≡ false) → (i : Option End) → IfSome i (IsFree port desk now) → IfSome i (IsFree port desk next)
falls_free port desk now next falls None h = h
falls_free port desk now next falls (Some end) h = λ same. falls end (h same)

pub clearing_next : (port : PortNo) (desk : Desk) (first now next : Outlook) (place : ℕ) → IsClearing port desk first now place → Clears port desk first next → ((end : End) → stands now desk end ≡ false → stands next desk end ≡ false) → IfSome (input_at desk place) (IsFree port desk next) → IsClearing port desk first next (place + 1)
clearing_next port desk first now next place c clears falls here = record {
  clears = clears;
  free = λ k w. elim (cases_lt k place) [
    | inl below ↦ falls_free port desk now next falls (input_at desk k) (c.free k below)
    | inr level ↦ (let one : k ≡ place = omega (arith, w, level) in rw one here)
  ];
}

pub clearing_same : (port : PortNo) (desk : Desk) (first now : Outlook) (place : ℕ) → IsClearing port desk first now place → input_at desk place ≡ None → IsClearing port desk first now (place + 1)
clearing_same port desk first now place c none =
    clearing_next port desk first now now place c c.clears (λ end h. h) (subst (λ (i : Option End). IfSome i (IsFree port desk now)) (sym none) tt)

-- and those of the outlook's own
pub record IsSweeping (port : PortNo) (desk : Desk) (first start now : Outlook) (index : ℕ) : Type 0 where
  pub clears : Clears port desk first now
  pub free : (k : ℕ) → k < length desk.standing → IfSome (input_at desk k) (IsFree port desk now)
  pub keys : keys_of now.inputs ≡ keys_of start.inputs
  pub seen : (k : ℕ) → k < index → IfSome (slice_get (keys_of start.inputs) k) (IsFree port desk now)

pub sweeping_next : (port : PortNo) (desk : Desk) (first start now next : Outlook) (index : ℕ) → IsSweeping port desk first start now index → Clears port desk first next → ((end : End) → stands now desk end ≡ false → stands next desk end ≡ false) → keys_of next.inputs ≡ keys_of now.inputs → IfSome (slice_get (keys_of start.inputs) index) (IsFree port desk next) → IsSweeping port desk first start next (index + 1)
sweeping_next port desk first start now next index s clears falls keys here = record {
  clears = clears;
  free = λ k w. falls_free port desk now next falls (input_at desk k) (s.free k w);
  keys = keys ∙ s.keys;
  seen = λ k w. elim (cases_lt k index) [
    | inl below ↦ falls_free port desk now next falls (slice_get (keys_of start.inputs) k) (s.seen k below)
    | inr level ↦ (let one : k ≡ index = omega (arith, w, level) in rw one here)
  ];
}

-- an input that has a value is a key; one on which a request stands is the input of one of the requests
pub key_of_value : (end : End) (entries : List (End × Bool)) (b : Bool) → lookup (same_end end) entries ≡ Some b → (k : ℕ) × (k < length (keys_of entries)) × (slice_get (keys_of entries) k ≡ Some end)
key_of_value end [] b h = absurd (cc h)
key_of_value end (e ∷ entries) b h = by (same_end end e.0) refl h (λ w. key_of_value end entries b w) where
  by : (t : Bool) → same_end end e.0 ≡ t → cond t (Some e.1) (lookup (same_end end) entries) ≡ Some b → (lookup (same_end end) entries ≡ Some b → (k : ℕ) × (k < length (keys_of entries)) × (slice_get (keys_of entries) k ≡ Some end)) → (k : ℕ) × (k < suc (length (keys_of entries))) × (slice_get (e.0 ∷ keys_of entries) k ≡ Some end)
  by true g w rest = (zero, omega arith, ap Some (sym (end_from_same end e.0 g)))
  by false g w rest =
      let there = rest w in
      let within : there.0 < length (keys_of entries) = there.1 in
      (suc there.0, omega (arith, within), there.2)

abbrev pub IsInputAmong : End → List Standing → Type 0
IsInputAmong end xs = (k : ℕ) × (k < length xs) × (option_and_then (λ (s : Standing). request_input s.request) (slice_get xs k) ≡ Some end)

one_later : (end : End) (x : Standing) (xs : List Standing) → IsInputAmong end xs → IsInputAmong end (x ∷ xs)
one_later end x xs there = let within : there.0 < length xs = there.1 in (suc there.0, omega (arith, within), there.2)

pub place_of_input : (end : End) (xs : List Standing) → list_any (on end) xs ≡ true → IsInputAmong end xs
place_of_input end [] h = absurd (cc h)
place_of_input end (x ∷ xs) h = by (request_input x.request) refl (λ w. one_later end x xs (place_of_input end xs w)) h where
  at : (input : End) → request_input x.request ≡ Some input → (list_any (on end) xs ≡ true → IsInputAmong end (x ∷ xs)) → (t : Bool) → same_end end input ≡ t → (t || list_any (on end) xs) ≡ true → IsInputAmong end (x ∷ xs)
  at input e later true g v = (zero, omega arith, e ∙ ap Some (sym (end_from_same end input g)))
  at input e later false g v = later v

  by : (i : Option End) → request_input x.request ≡ i → (list_any (on end) xs ≡ true → IsInputAmong end (x ∷ xs)) → (option_map_or (same_end end) i false || list_any (on end) xs) ≡ true → IsInputAmong end (x ∷ xs)
  by None e later w = later w
  by (Some input) e later w = at input e later (same_end end input) refl w

-- so nothing will stand on an input of the port
pub swept : (port : PortNo) (desk : Desk) (first start now : Outlook) (index : ℕ) → IsSweeping port desk first start now index → length (keys_of start.inputs) ≤ index → (end : End) → end.port.0 ≡ port.0 → stands now desk end ≡ false
swept port desk first start now index s all end same = by (lookup (same_end end) now.inputs) refl where
  at_key : (i : Option End) → i ≡ Some end → IfSome i (IsFree port desk now) → stands now desk end ≡ false
  at_key None e h = absurd (cc e)
  at_key (Some other) e h = let is : other ≡ end = cc e in subst (λ (x : End). IsFree port desk now x) is h same

  by : (o : Option Bool) → lookup (same_end end) now.inputs ≡ o → stands now desk end ≡ false
  by (Some b) e =
      let there = key_of_value end now.inputs b e in
      let within : there.0 < length (keys_of now.inputs) = there.1 in
      let many : length (keys_of now.inputs) ≡ length (keys_of start.inputs) = ap length s.keys in
      at_key (slice_get (keys_of start.inputs) there.0) (ap (λ (ks : List End). slice_get ks there.0) (sym s.keys) ∙ there.2) (s.seen there.0 (omega (arith, within, many, all)))
  by None e = stand (list_any (on end) desk.standing) refl where
    stand : (b : Bool) → list_any (on end) desk.standing ≡ b → stands now desk end ≡ false
    stand true w =
        let there = place_of_input end desk.standing w in
        at_key (input_at desk there.0) there.2 (s.free there.0 there.1)
    stand false w = rw (e, w) refl

-- a key has a value
pub key_has_value : (end : End) (entries : List (End × Bool)) (k : ℕ) → slice_get (keys_of entries) k ≡ Some end → is_some (lookup (same_end end) entries) ≡ true
key_has_value end [] zero h = absurd (cc h)
key_has_value end [] (suc k) h = absurd (cc h)
key_has_value end (e ∷ entries) zero h =
    let same : e.0 ≡ end = cc h in
    let here : same_end end e.0 ≡ true = rw same (same_itself end) in
    rw here refl
key_has_value end (e ∷ entries) (suc k) h = by (same_end end e.0) (key_has_value end entries k h) where
  by : (b : Bool) → is_some (lookup (same_end end) entries) ≡ true → is_some (cond b (Some e.1) (lookup (same_end end) entries)) ≡ true
  by true rest = refl
  by false rest = rest

pub sweeping_same : (port : PortNo) (desk : Desk) (first start now : Outlook) (index : ℕ) → IsSweeping port desk first start now index → slice_get (keys_of start.inputs) index ≡ None → IsSweeping port desk first start now (index + 1)
sweeping_same port desk first start now index s none =
    sweeping_next port desk first start now now index s s.clears (λ end h. h) refl (subst (λ (i : Option End). IfSome i (IsFree port desk now)) (sym none) tt)
