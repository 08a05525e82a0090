-- requests that concern an input, and which of them a request withdraws

use Rattle.std.proofs.Common.{◌≡◌, ℕ, Bool, true, false, not, List, [], ◌∷◌, Option, Some, None, refl, sym, ◌∙◌, ap, subst, filter, is_some, if◌then◌else◌, arith}
use Rattle.std.specs.Prelude.{nat_eq, ◌&&◌, ◌||◌, ◌==◌}
use Rattle.std.proofs.lemmas.Bool.Decides.{nat_tests}
use Rattle.law_input_views.specs.world_model.Words.{End, PortNo, Request, AddBranch, MoveBranch, DeleteTree, VerifyTree, PortManagement, same_end, is_on, is_on_port, is_delete_all, withdraws, Standing}
use Rattle.law_input_views.specs.world_model.gsmp_wire.declared.request.Request.TheVariants.{DeleteAll, AllPorts}
use Rattle.law_input_views.specs.ordered_lists.Ordered.{Every}
use Rattle.law_input_views.proofs.ordered_lists.Parts.{IsPart, part_mapped}
use Rattle.law_input_views.specs.law_branch_line.Words as lines
use Rattle.law_input_views.specs.Words.{own_request, type_of, word_by, word_of, is_own, own_of, other_of, others_of}
pub use Rattle.law_input_steps.specs.Asking.{IsAsked, concerns, on_input, deletes_port, NoDeleteAll}
use Rattle.law_input_steps.proofs.Lists.{filter_within, filter_part, filter_none}

-- *Ends*
same_nat : (a b : ℕ) → nat_eq a b ≡ true → a ≡ b
same_nat a b e = grind (arith, nat_tests)

both_true : (a b : Bool) → (a && b) ≡ true → (a ≡ true) × (b ≡ true)
both_true true b e = (refl, e)
both_true false b e = absurd (cc e)

nat_same : (a : ℕ) → nat_eq a a ≡ true
nat_same a = grind (arith, nat_tests)

pub same_is : (a b : End) → same_end a b ≡ true → a ≡ b
same_is a b e =
    let p = both_true _ _ e in
    let q = both_true _ _ p.1 in
    λ i. record {
      port = record { 0 = same_nat a.port.0 b.port.0 p.0 i };
      channel = record { vpi = same_nat a.channel.vpi b.channel.vpi q.0 i; vci = same_nat a.channel.vci b.channel.vci q.1 i };
    }

all_three : {x y z : Bool} → x ≡ true → y ≡ true → z ≡ true → (x && (y && z)) ≡ true
all_three p q r = (λ i. p i && (q i && r i))

pub same_self : (a : End) → same_end a a ≡ true
same_self a = all_three (nat_same a.port.0) (nat_same a.channel.vpi) (nat_same a.channel.vci)

turned : (a b : End) → same_end a b ≡ true → same_end b a ≡ true
turned a b h = subst (λ (z : End). same_end b z ≡ true) (sym (same_is a b h)) (same_self b)

other_end : (a b : End) → same_end a b ≡ false → same_end b a ≡ false
other_end a b away = elim (same_end b a) as (λ t. same_end b a ≡ t → t ≡ false) [ true ↦ λ t. absurd (cc (sym (turned b a t) ∙ away)) | false ↦ λ t. refl ] refl

kept_if : {A : Type 0} (b : Bool) (x : A) → b ≡ true → (if b then Some x else None) ≡ Some x
kept_if b x h = ap (λ (t : Bool). if t then Some x else None) h

left_if : {A : Type 0} (b : Bool) (x : A) → b ≡ false → ◌≡◌ {A = Option A} (if b then Some x else None) None
left_if b x h = ap (λ (t : Bool). if t then Some x else None) h

pub own_is : (e : End) (r : Request) → concerns e r ≡ true → own_request e r ≡ Some (on_input r)
own_is e (AddBranch i o) h = kept_if (same_end e i) (lines.AddBranch o) h
own_is e (MoveBranch i from to) h = kept_if (same_end e i) (lines.MoveBranch from to) h
own_is e (DeleteTree i) h = kept_if (same_end e i) lines.DeleteTree h
own_is e (VerifyTree i) h = absurd (cc h)
own_is e (DeleteAll p) h = kept_if (p.0 == e.port.0) lines.DeleteAll h
own_is e (PortManagement p function) h = absurd (cc h)
own_is e AllPorts h = absurd (cc h)

pub own_not : (e : End) (r : Request) → concerns e r ≡ false → own_request e r ≡ None
own_not e (AddBranch i o) h = left_if (same_end e i) (lines.AddBranch o) h
own_not e (MoveBranch i from to) h = left_if (same_end e i) (lines.MoveBranch from to) h
own_not e (DeleteTree i) h = left_if (same_end e i) lines.DeleteTree h
own_not e (VerifyTree i) h = refl
own_not e (DeleteAll p) h = left_if (p.0 == e.port.0) lines.DeleteAll h
own_not e (PortManagement p function) h = refl
own_not e AllPorts h = refl

pub owns : (e : End) (r : Request) → is_some (own_request e r) ≡ concerns e r
owns e r = by (concerns e r) refl
  where
    by : (b : Bool) → concerns e r ≡ b → is_some (own_request e r) ≡ b
    by true h = ap (λ (o : Option lines.InputRequest). is_some o) (own_is e r h)
    by false h = ap (λ (o : Option lines.InputRequest). is_some o) (own_not e r h)

-- the word of a request
pub word_on : (e : End) (r : Request) → concerns e r ≡ true → word_of e r ≡ lines.OnInput (on_input r)
word_on e r h = ap (λ (o : Option lines.InputRequest). word_by o (type_of r)) (own_is e r h)

pub word_away : (e : End) (r : Request) → concerns e r ≡ false → word_of e r ≡ lines.Elsewhere (type_of r)
word_away e r h = ap (λ (o : Option lines.InputRequest). word_by o (type_of r)) (own_not e r h)

nat_turned : (a b : ℕ) → (a == b) ≡ true → (b == a) ≡ true
nat_turned a b h = grind (arith, nat_tests)

nat_through : (a b c : ℕ) → (a == b) ≡ true → (c == b) ≡ true → (c == a) ≡ true
nat_through a b c p q = grind (arith, nat_tests)

nat_apart : (a b : ℕ) → (a == b) ≡ false → (b == a) ≡ false
nat_apart a b h = grind (arith, nat_tests)

nat_differ : (a b c : ℕ) → (a == b) ≡ false → (c == b) ≡ true → (c == a) ≡ false
nat_differ a b c p q = grind (arith, nat_tests)

module _ (e : End) where
  -- a request of the input withdraws what stands on it
  on_same : (i : End) (old : Request) → same_end e i ≡ true → concerns e old ≡ true → deletes_port e old ≡ false → is_on i old ≡ true
  on_same i (AddBranch j o) here on apart = subst (λ (z : End). same_end z j ≡ true) (same_is e i here) on
  on_same i (MoveBranch j f o) here on apart = subst (λ (z : End). same_end z j ≡ true) (same_is e i here) on
  on_same i (DeleteTree j) here on apart = subst (λ (z : End). same_end z j ≡ true) (same_is e i here) on
  on_same i (DeleteAll p) here on apart = absurd (cc (sym on ∙ apart))
  on_same i (VerifyTree j) here on apart = absurd (cc on)
  on_same i (PortManagement p function) here on apart = absurd (cc on)
  on_same i AllPorts here on apart = absurd (cc on)

  port_same : (p : PortNo) (j : End) → (p.0 == e.port.0) ≡ true → same_end e j ≡ true → ((j.port.0 == p.0) || false) ≡ true
  port_same p j here on = ap (λ (b : Bool). b || false) (subst (λ (z : End). (z.port.0 == p.0) ≡ true) (same_is e j on) (nat_turned p.0 e.port.0 here))

  of_port : (p : PortNo) (old : Request) → (p.0 == e.port.0) ≡ true → concerns e old ≡ true → (is_on_port p old || is_delete_all p old) ≡ true
  of_port p (AddBranch j o) here on = port_same p j here on
  of_port p (MoveBranch j f o) here on = port_same p j here on
  of_port p (DeleteTree j) here on = port_same p j here on
  of_port p (DeleteAll q) here on = nat_through p.0 e.port.0 q.0 here on
  of_port p (VerifyTree j) here on = absurd (cc on)
  of_port p (PortManagement q function) here on = absurd (cc on)
  of_port p AllPorts here on = absurd (cc on)

  pub own_withdrawn : (asking old : Request) → concerns e asking ≡ true → deletes_port e old ≡ false → concerns e old ≡ true → withdraws asking old ≡ true
  own_withdrawn (AddBranch i o) old here apart on = on_same i old here on apart
  own_withdrawn (MoveBranch i f o) old here apart on = on_same i old here on apart
  own_withdrawn (DeleteTree i) old here apart on = on_same i old here on apart
  own_withdrawn (DeleteAll p) old here apart on = of_port p old here on
  own_withdrawn (VerifyTree i) old here apart on = absurd (cc here)
  own_withdrawn (PortManagement p function) old here apart on = absurd (cc here)
  own_withdrawn AllPorts old here apart on = absurd (cc here)

  -- one elsewhere doesn't
  pub on_other : (i : End) (old : Request) → same_end e i ≡ false → concerns e old ≡ true → is_on i old ≡ false
  on_other i (AddBranch j o) away on = subst (λ (z : End). same_end i z ≡ false) (same_is e j on) (other_end e i away)
  on_other i (MoveBranch j f o) away on = subst (λ (z : End). same_end i z ≡ false) (same_is e j on) (other_end e i away)
  on_other i (DeleteTree j) away on = subst (λ (z : End). same_end i z ≡ false) (same_is e j on) (other_end e i away)
  on_other i (DeleteAll p) away on = refl
  on_other i (VerifyTree j) away on = absurd (cc on)
  on_other i (PortManagement p function) away on = refl
  on_other i AllPorts away on = refl

  port_other : (p : PortNo) (j : End) → (p.0 == e.port.0) ≡ false → same_end e j ≡ true → ((j.port.0 == p.0) || false) ≡ false
  port_other p j away on = ap (λ (b : Bool). b || false) (subst (λ (z : End). (z.port.0 == p.0) ≡ false) (same_is e j on) (nat_apart p.0 e.port.0 away))

  of_other : (p : PortNo) (old : Request) → (p.0 == e.port.0) ≡ false → concerns e old ≡ true → (is_on_port p old || is_delete_all p old) ≡ false
  of_other p (AddBranch j o) away on = port_other p j away on
  of_other p (MoveBranch j f o) away on = port_other p j away on
  of_other p (DeleteTree j) away on = port_other p j away on
  of_other p (DeleteAll q) away on = nat_differ p.0 e.port.0 q.0 away on
  of_other p (VerifyTree j) away on = absurd (cc on)
  of_other p (PortManagement q function) away on = refl
  of_other p AllPorts away on = refl

  pub own_stays : (asking old : Request) → IsAsked asking → concerns e asking ≡ false → concerns e old ≡ true → withdraws asking old ≡ false
  own_stays (AddBranch i o) old shape away on = on_other i old away on
  own_stays (MoveBranch i f o) old shape away on = on_other i old away on
  own_stays (DeleteTree i) old shape away on = on_other i old away on
  own_stays (DeleteAll p) old shape away on = of_other p old away on
  own_stays (VerifyTree i) old shape away on = absurd shape
  own_stays (PortManagement p function) old shape away on = absurd shape
  own_stays AllPorts old shape away on = refl

  -- *What stands* once a request is asked
  abbrev pub keeps : Request → Standing → Bool
  keeps asking s = not (withdraws asking s.request)

  abbrev pub is_other : Standing → Bool
  is_other s = not (is_own e s)

  pub own_test : (s : Standing) → is_own e s ≡ concerns e s.request
  own_test s = owns e s.request

  pub own_ends : (asking : Request) (standing : List Standing) → concerns e asking ≡ true → NoDeleteAll e standing → own_of e (filter (keeps asking) standing) ≡ []
  own_ends asking standing here h = filter_none (is_own e) (keeps asking) standing (each standing h)
    where
      each : (xs : List Standing) → NoDeleteAll e xs → Every (λ (s : Standing). is_own e s ≡ true → keeps asking s ≡ false) xs
      each [] k = tt
      each (x ∷ xs) k = ((λ on. ap not (own_withdrawn asking x.request here k.0 (sym (own_test x) ∙ on))), each xs k.1)

  pub own_same : (asking : Request) (standing : List Standing) → IsAsked asking → concerns e asking ≡ false → own_of e (filter (keeps asking) standing) ≡ own_of e standing
  own_same asking standing shape away = filter_within (is_own e) (keeps asking) standing (λ s on. ap not (own_stays asking s.request shape away (sym (own_test s) ∙ on)))

  pub others_part : (asking : Request) (standing : List Standing) → IsPart (others_of e (filter (keeps asking) standing)) (others_of e standing)
  others_part asking standing = part_mapped other_of (filter_part is_other (keeps asking) standing)
