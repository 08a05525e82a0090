-- what keeps joins of labels and grants that are lent matched

use Rattle.std.proofs.Common.{◌≡◌, ◌≢◌, ℕ, Bool, true, false, List, [], Option, None, Some, refl, sym, ◌∙◌, ap, subst, arith, inl, inr}
use Rattle.std.specs.Prelude.{◌⊎◌}
use Rattle.std.specs.Option.{option_map_or, option_and_then}
use Rattle.std.proofs.lemmas.Bool.Decides.{nat_tests}
use Rattle.law_controller_facts.specs.world_model.Words.{PortNo, End, number_of_channel, Request, AddBranch, MoveBranch, DeleteTree, VerifyTree, PortManagement, same_end, at, put, Desk, Standing, all_on, Label, Grant, Session, labels_of, Linked, port_key, is_clearing}
use Rattle.law_controller_facts.specs.world_model.gsmp_wire.declared.request.Request.TheVariants.{DeleteAll, AllPorts}
use Rattle.law_controller_facts.specs.ordered_lists.Ordered.{Every}
use Rattle.law_controller_facts.proofs.ordered_lists.Every.{every_map, every_map2}
use Rattle.law_controller_facts.specs.world_model.port_model.Requests.{request_input}
use Rattle.law_controller_facts.proofs.law_port_facts.Keyed.{by_eq, at_every, at_put_same, at_put_other}
use Rattle.law_controller_facts.specs.Sound.{IsShutLinked}
use Rattle.law_controller.specs.Match.{MovesJoined, IsOfJoin, joined_in, lent_in, joined_at, lent_at, clearing_at, end_at}
use Rattle.law_controller.proofs.Asked.{same_end_itself}
use Rattle.law_controller.proofs.Pairing.{SamePairs, put_image}

-- *Two ends, and two pairs of numbers*
pub end_is : (a b : End) → same_end a b ≡ true → a ≡ b
end_is a b e = grind (arith, nat_tests)

pub one_end : {P : Type 0} (a b : End) → (a ≡ b → P) → (a ≢ b → P) → P
one_end {P} a b same other = by_test (same_end a b) refl
  where
    differs : same_end a b ≡ false → a ≡ b → ⊥
    differs e is = absurd (cc (sym (ap (same_end a) (sym is) ∙ same_end_itself a) ∙ e))

    by_test : (t : Bool) → same_end a b ≡ t → P
    by_test true e = same (end_is a b e)
    by_test false e = other (λ is. differs e (is))

pub one_pair : {P : Type 0} (q m r k : ℕ) → (q ≡ r → m ≡ k → P) → ((q ≡ r → m ≡ k → ⊥) → P) → P
one_pair q m r k same other = by_eq q r (λ is t. by_eq m k (λ also s. same is also) (λ differs s. other (λ e f. absurd (differs f)))) (λ differs t. other (λ e f. absurd (differs e)))

-- *A Move Branch* stays of a join, where what is lent to its input still is
kept_moving : (ports now : List Linked) (request : Request) → ((input to : End) → request_input request ≡ Some input → lent_at ports to.port.0 (number_of_channel to.channel) ≡ Some input → lent_at now to.port.0 (number_of_channel to.channel) ≡ Some input)
    → MovesJoined ports request → MovesJoined now request
kept_moving ports now (MoveBranch input from to) keeps h = λ other. keeps input to refl (h other)
kept_moving ports now (AddBranch input output) keeps h = tt
kept_moving ports now (DeleteTree input) keeps h = tt
kept_moving ports now (VerifyTree input) keeps h = tt
kept_moving ports now (DeleteAll port) keeps h = tt
kept_moving ports now (PortManagement port function) keeps h = tt
kept_moving ports now AllPorts keeps h = tt

same_moving : (ports now : List Linked) (standing : List Standing) → ((q m : ℕ) (input : End) → lent_at ports q m ≡ Some input → lent_at now q m ≡ Some input) → Every (IsOfJoin ports) standing → Every (IsOfJoin now) standing
same_moving ports now standing keeps h = every_map (IsOfJoin ports) (IsOfJoin now) standing (λ s moves. kept_moving ports now s.request (λ input to on. keeps to.port.0 (number_of_channel to.channel) input) moves) h

-- *Matched*, but that the Delete All of some ports doesn't stand
pub record But (Out : PortNo → Type 0) (ports : List Linked) (met : Bool) (desk : Desk) : Type 0 where
  pub granted : (p n : ℕ) (output : End) → joined_at ports p n ≡ Some output → lent_at ports output.port.0 (number_of_channel output.channel) ≡ Some (end_at p n)
  pub joined : (q m : ℕ) (input : End) → lent_at ports q m ≡ Some input → (clearing_at ports input.port.0 ≡ true) ⊎ (joined_at ports input.port.0 (number_of_channel input.channel) ≡ Some (end_at q m))
  pub deleting : (q m : ℕ) (input : End) → lent_at ports q m ≡ Some input → clearing_at ports input.port.0 ≡ true → Out input.port ⊎ (all_on desk input.port ≡ true)
  pub once : (q m r k : ℕ) (input : End) → lent_at ports q m ≡ Some input → lent_at ports r k ≡ Some input → (q ≡ r) × (m ≡ k)
  pub moving : met ≡ true → Every (IsOfJoin ports) desk.standing

abbrev pub Never : PortNo → Type 0
Never port = ⊥

-- the same is joined, lent and in Clearing
pub alike_but : (Out Later : PortNo → Type 0) (ports now : List Linked) (met : Bool) (desk later : Desk) → ((p n : ℕ) → joined_at now p n ≡ joined_at ports p n) → ((q m : ℕ) → lent_at now q m ≡ lent_at ports q m)
    → ((p : ℕ) → clearing_at now p ≡ clearing_at ports p) → ((port : PortNo) → Out port ⊎ (all_on desk port ≡ true) → Later port ⊎ (all_on later port ≡ true))
    → (Every (IsOfJoin ports) desk.standing → Every (IsOfJoin ports) later.standing) → But Out ports met desk → But Later now met later
alike_but Out Later ports now met desk later j l c d s h = record {
  granted = λ p n output e. l output.port.0 (number_of_channel output.channel) ∙ h.granted p n output (sym (j p n) ∙ e);
  joined = λ q m input e. elim (h.joined q m input (sym (l q m) ∙ e)) [ inl t ↦ inl (c input.port.0 ∙ t) | inr t ↦ inr (j input.port.0 (number_of_channel input.channel) ∙ t) ];
  deleting = λ q m input e t. d input.port (h.deleting q m input (sym (l q m) ∙ e) (sym (c input.port.0) ∙ t));
  once = λ q m r k input e f. h.once q m r k input (sym (l q m) ∙ e) (sym (l r k) ∙ f);
  moving = λ t. same_moving ports now later.standing (λ q m input e. l q m ∙ e) (s (h.moving t));
}

-- *Every port is shut*
pub shut_lent : (ports : List Linked) (q m : ℕ) → Every IsShutLinked ports → lent_at ports q m ≡ None
shut_lent ports q m shut = no_lent (at port_key q ports) refl
  where
    no_lent : (o : Option Linked) → at port_key q ports ≡ o → option_and_then (λ (linked : Linked). lent_in linked.port.grants m) o ≡ None
    no_lent None found = refl
    no_lent (Some linked) found = (let s = at_every port_key IsShutLinked q ports linked shut found in ap (λ (gs : List Grant). lent_in gs m) s.grants)

-- nothing is lent to an input of those ports
pub settle_but : (Out : PortNo → Type 0) (ports : List Linked) (met : Bool) (desk : Desk) → ((q m : ℕ) (input : End) → lent_at ports q m ≡ Some input → Out input.port → ⊥) → But Out ports met desk → But Never ports met desk
settle_but Out ports met desk none h = record {
  granted = h.granted;
  joined = h.joined;
  deleting = λ q m input e c. elim (h.deleting q m input e c) [ inl out ↦ absurd (none q m input e out) | inr on ↦ inr on ];
  once = h.once;
  moving = h.moving;
}

pub shut_but : (Out : PortNo → Type 0) (ports : List Linked) (met : Bool) (desk : Desk) → met ≡ false → Every IsShutLinked ports → But Out ports met desk
shut_but Out ports met desk unmet shut = record {
  granted = λ p n output e. absurd (none_some output (sym (no_join p n (at port_key p ports) refl) ∙ e));
  joined = λ q m input e. absurd (none_some input (sym (no_lent q m (at port_key q ports) refl) ∙ e));
  deleting = λ q m input e t. absurd (none_some input (sym (no_lent q m (at port_key q ports) refl) ∙ e));
  once = λ q m r k input e f. absurd (none_some input (sym (no_lent q m (at port_key q ports) refl) ∙ e));
  moving = λ t. absurd (cc (sym t ∙ unmet));
}
  where
    none_some : (x : End) → None ≡ Some x → ⊥
    none_some x e = absurd (cc e)

    no_join : (p n : ℕ) (o : Option Linked) → at port_key p ports ≡ o → option_and_then (λ (linked : Linked). joined_in (labels_of linked.port) n) o ≡ None
    no_join p n None found = refl
    no_join p n (Some linked) found = (let s = at_every port_key IsShutLinked p ports linked shut found in ap (λ (o : Option Session). joined_in (option_map_or (λ (x : Session). x.labels) o []) n) s.session)

    no_lent : (q m : ℕ) (o : Option Linked) → at port_key q ports ≡ o → option_and_then (λ (linked : Linked). lent_in linked.port.grants m) o ≡ None
    no_lent q m None found = refl
    no_lent q m (Some linked) found = (let s = at_every port_key IsShutLinked q ports linked shut found in ap (λ (gs : List Grant). lent_in gs m) s.grants)

-- and this port's
abbrev pub OrPort : ℕ → (PortNo → Type 0) → PortNo → Type 0
OrPort key Out port = Out port ⊎ (port.0 ≡ key)

-- *A port changes*
module _ (ports : List Linked) (linked after : Linked) (found : at port_key (port_key linked) ports ≡ Some linked) (key : port_key after ≡ port_key linked) where
  abbrev now : List Linked
  now = put port_key after ports

  own : at port_key (port_key after) ports ≡ Some linked
  own = subst (λ n. at port_key n ports ≡ Some linked) (sym key) found

  pub here_now : (p : ℕ) → port_key after ≡ p → at port_key p now ≡ Some after
  here_now p is = subst (λ n. at port_key n now ≡ Some after) is (at_put_same port_key after ports linked own)

  pub there_now : (p : ℕ) → port_key after ≢ p → at port_key p now ≡ at port_key p ports
  there_now p other = at_put_other port_key after p ports other

  pub here_before : (p : ℕ) → port_key after ≡ p → at port_key p ports ≡ Some linked
  here_before p is = subst (λ n. at port_key n ports ≡ Some linked) is own

  pub joined_put : (n : ℕ) → joined_in (labels_of after.port) n ≡ joined_in (labels_of linked.port) n → (p : ℕ) → joined_at now p n ≡ joined_at ports p n
  joined_put n same p = put_image port_key (λ (x : Linked). joined_in (labels_of x.port) n) after ports linked p own same

  pub lent_put : (m : ℕ) → lent_in after.port.grants m ≡ lent_in linked.port.grants m → (q : ℕ) → lent_at now q m ≡ lent_at ports q m
  lent_put m same q = put_image port_key (λ (x : Linked). lent_in x.port.grants m) after ports linked q own same

  pub clearing_put : is_clearing after.port.adjacency.state ≡ is_clearing linked.port.adjacency.state → (p : ℕ) → clearing_at now p ≡ clearing_at ports p
  clearing_put same p = by_eq (port_key after) p
      (λ is t. ap (λ (o : Option Linked). option_map_or (λ (x : Linked). is_clearing x.port.adjacency.state) o false) (here_now p is) ∙ same
      ∙ sym (ap (λ (o : Option Linked). option_map_or (λ (x : Linked). is_clearing x.port.adjacency.state) o false) (here_before p is)))
      (λ other t. ap (λ (o : Option Linked). option_map_or (λ (x : Linked). is_clearing x.port.adjacency.state) o false) (there_now p other))

  pub pairs_but : (Out : PortNo → Type 0) (met : Bool) (desk : Desk) → SamePairs linked.port after.port → But Out ports met desk → But Out now met desk
  pairs_but Out met desk same h = alike_but Out Out ports now met desk desk (λ p n. joined_put n (same.joins n) p) (λ q m. lent_put m (same.lends m) q) (λ p. clearing_put same.clearing p) (λ port d. d) (λ moving. moving) h

  -- it is reset: its labels are gone, and it is in Clearing
  pub reset_but : (Out : PortNo → Type 0) (met : Bool) (desk : Desk) → labels_of after.port ≡ [] → ((m : ℕ) → lent_in after.port.grants m ≡ lent_in linked.port.grants m) → is_clearing after.port.adjacency.state ≡ true
      → But Out ports met desk → But (OrPort (port_key linked) Out) now met desk
  reset_but Out met desk none lends clearing h = record {
    granted = λ p n output e. (let was : joined_at ports p n ≡ Some output = still_joined p n output e in lent_put (number_of_channel output.channel) (lends (number_of_channel output.channel)) output.port.0 ∙ h.granted p n output was);
    joined = λ q m input e. by_eq (port_key after) input.port.0
        (λ is t. inl (clears input.port.0 is))
        (λ other t. elim (h.joined q m input (was_lent q m input e)) [
          | inl c ↦ inl (ap (λ (o : Option Linked). option_map_or (λ (x : Linked). is_clearing x.port.adjacency.state) o false) (there_now input.port.0 other) ∙ c)
          | inr j ↦ inr (ap (option_and_then (λ (x : Linked). joined_in (labels_of x.port) (number_of_channel input.channel))) (there_now input.port.0 other) ∙ j)
        ]);
    deleting = λ q m input e c. by_eq (port_key after) input.port.0
        (λ is t. inl (inr (sym is ∙ key)))
        (λ other t. elim (h.deleting q m input (was_lent q m input e) (sym (ap (λ (o : Option Linked). option_map_or (λ (x : Linked). is_clearing x.port.adjacency.state) o false) (there_now input.port.0 other)) ∙ c)) [
          | inl out ↦ inl (inl out)
          | inr all ↦ inr all
        ]);
    once = λ q m r k input e f. h.once q m r k input (was_lent q m input e) (was_lent r k input f);
    moving = λ t. same_moving ports now desk.standing (λ q m input e. lent_put m (lends m) q ∙ e) (h.moving t);
  }
    where
      was_lent : (q m : ℕ) (input : End) → lent_at now q m ≡ Some input → lent_at ports q m ≡ Some input
      was_lent q m input e = sym (lent_put m (lends m) q) ∙ e

      clears : (p : ℕ) → port_key after ≡ p → clearing_at now p ≡ true
      clears p is = ap (λ (o : Option Linked). option_map_or (λ (x : Linked). is_clearing x.port.adjacency.state) o false) (here_now p is) ∙ clearing

      none_some : (x : End) → None ≡ Some x → ⊥
      none_some x e = absurd (cc e)

      still_joined : (p n : ℕ) (output : End) → joined_at now p n ≡ Some output → joined_at ports p n ≡ Some output
      still_joined p n output e = by_eq (port_key after) p
          (λ is t. absurd (none_some output (sym (ap (option_and_then (λ (x : Linked). joined_in (labels_of x.port) n)) (here_now p is) ∙ ap (λ (ls : List Label). joined_in ls n) none) ∙ e)))
          (λ other t. sym (ap (option_and_then (λ (x : Linked). joined_in (labels_of x.port) n)) (there_now p other)) ∙ e)

  -- it is cleared, when no Delete All of it stands: so nothing is lent to its inputs
  pub cleared_but : (met : Bool) (desk : Desk) → labels_of after.port ≡ labels_of linked.port → after.port.grants ≡ linked.port.grants → is_clearing linked.port.adjacency.state ≡ true → is_clearing after.port.adjacency.state ≡ false
      → ((port : PortNo) → port.0 ≡ port_key linked → all_on desk port ≡ false) → But Never ports met desk → But Never now met desk
  cleared_but met desk labels gs was is none h = record {
    granted = λ p n output e. lent_put (number_of_channel output.channel) (ap (λ (xs : List Grant). lent_in xs (number_of_channel output.channel)) gs) output.port.0 ∙ h.granted p n output (sym (joined_put n (ap (λ (ls : List Label). joined_in ls n) labels) p) ∙ e);
    joined = λ q m input e. by_eq (port_key after) input.port.0
        (λ on t. absurd (never_lent q m input (was_lent q m input e) on))
        (λ other t. elim (h.joined q m input (was_lent q m input e)) [
          | inl c ↦ inl (ap (λ (o : Option Linked). option_map_or (λ (x : Linked). is_clearing x.port.adjacency.state) o false) (there_now input.port.0 other) ∙ c)
          | inr j ↦ inr (joined_put (number_of_channel input.channel) (ap (λ (ls : List Label). joined_in ls (number_of_channel input.channel)) labels) input.port.0 ∙ j)
        ]);
    deleting = λ q m input e c. by_eq (port_key after) input.port.0
        (λ on t. absurd (never_lent q m input (was_lent q m input e) on))
        (λ other t. h.deleting q m input (was_lent q m input e) (sym (ap (λ (o : Option Linked). option_map_or (λ (x : Linked). is_clearing x.port.adjacency.state) o false) (there_now input.port.0 other)) ∙ c));
    once = λ q m r k input e f. h.once q m r k input (was_lent q m input e) (was_lent r k input f);
    moving = λ t. same_moving ports now desk.standing (λ q m input e. lent_put m (ap (λ (xs : List Grant). lent_in xs m) gs) q ∙ e) (h.moving t);
  }
    where
      was_lent : (q m : ℕ) (input : End) → lent_at now q m ≡ Some input → lent_at ports q m ≡ Some input
      was_lent q m input e = sym (lent_put m (ap (λ (xs : List Grant). lent_in xs m) gs) q) ∙ e

      both : (b : Bool) → b ≡ true → b ≡ false → ⊥
      both b t f = absurd (cc (sym t ∙ f))

      never_lent : (q m : ℕ) (input : End) → lent_at ports q m ≡ Some input → port_key after ≡ input.port.0 → ⊥
      never_lent q m input e on = elim (h.deleting q m input e (ap (λ (o : Option Linked). option_map_or (λ (x : Linked). is_clearing x.port.adjacency.state) o false) (here_before input.port.0 on) ∙ was)) [
        | inl out ↦ absurd out
        | inr all ↦ both (all_on desk input.port) all (none input.port (sym on ∙ key))
      ]

-- *A join is released*: its input's label is joined no more, and its grant is lent no more
module _ (Out : PortNo → Type 0) (ports now : List Linked) (met : Bool) (desk : Desk) (e : End) (q m : ℕ)
    (joins_other : (p n : ℕ) → end_at p n ≢ e → joined_at now p n ≡ joined_at ports p n) (joins_this : (p n : ℕ) → end_at p n ≡ e → joined_at now p n ≡ None)
    (clears : (p : ℕ) → clearing_at now p ≡ clearing_at ports p)
    (proper : (r k : ℕ) (input : End) → lent_at ports r k ≡ Some input → end_at input.port.0 (number_of_channel input.channel) ≡ input) where
  not_none : (x : End) → None ≡ Some x → ⊥
  not_none x e = absurd (cc e)

  was_joined : (p n : ℕ) (output : End) → joined_at now p n ≡ Some output → (joined_at ports p n ≡ Some output) × (end_at p n ≢ e)
  was_joined p n output is = one_end (end_at p n) e (λ same. absurd (not_none output (sym (joins_this p n same) ∙ is))) (λ other. (sym (joins_other p n other) ∙ is, other))

  pub released_but : lent_at ports q m ≡ Some e → ((r k : ℕ) → (q ≡ r → m ≡ k → ⊥) → lent_at now r k ≡ lent_at ports r k) → lent_at now q m ≡ None
      → Every (λ (s : Standing). (input : End) → request_input s.request ≡ Some input → input ≢ e) desk.standing → But Out ports met desk → But Out now met desk
  released_but lent lends_other lends_this free h = record {
    granted = λ p n output is. (let was = was_joined p n output is in
        one_pair q m output.port.0 (number_of_channel output.channel)
        (λ a b. absurd (was.1 (same_some (end_at p n) e (sym (h.granted p n output was.0) ∙ subst (λ r. lent_at ports r (number_of_channel output.channel) ≡ Some e) a (subst (λ k. lent_at ports q k ≡ Some e) b lent)))))
        (λ other. lends_other output.port.0 (number_of_channel output.channel) other ∙ h.granted p n output was.0));
    joined = λ r k input is. (let was = was_lent r k input is in
        elim (h.joined r k input was.0) [
          | inl c ↦ inl (clears input.port.0 ∙ c)
          | inr j ↦ inr (joins_other input.port.0 (number_of_channel input.channel) (λ same. was.1 (h.once q m r k input (lent ∙ ap (λ (x : End). Some x) (sym (sym (proper r k input was.0) ∙ same))) was.0).0 (h.once q m r k input (lent ∙ ap (λ (x : End). Some x) (sym (sym (proper r k input was.0) ∙ same))) was.0).1) ∙ j)
        ]);
    deleting = λ r k input is c. h.deleting r k input (was_lent r k input is).0 (sym (clears input.port.0) ∙ c);
    once = λ r k s l input is also. h.once r k s l input (was_lent r k input is).0 (was_lent s l input also).0;
    moving = λ t. every_map2 (λ (s : Standing). (input : End) → request_input s.request ≡ Some input → input ≢ e) (IsOfJoin ports) (IsOfJoin now) desk.standing
        (λ s off moves. kept_moving ports now s.request (λ input to on is. one_pair q m to.port.0 (number_of_channel to.channel)
        (λ a b. absurd (off input on (same_some input e (sym is ∙ subst (λ r. lent_at ports r (number_of_channel to.channel) ≡ Some e) a (subst (λ k. lent_at ports q k ≡ Some e) b lent)))))
        (λ other. lends_other to.port.0 (number_of_channel to.channel) other ∙ is)) moves) free (h.moving t);
  }
    where
      same_some : (x y : End) → Some x ≡ Some y → x ≡ y
      same_some x y e = cc

      was_lent : (r k : ℕ) (input : End) → lent_at now r k ≡ Some input → (lent_at ports r k ≡ Some input) × (q ≡ r → m ≡ k → ⊥)
      was_lent r k input is = one_pair q m r k
          (λ a b. absurd (not_none input (sym (subst (λ i. lent_at now i k ≡ None) a (subst (λ j. lent_at now q j ≡ None) b lends_this)) ∙ is)))
          (λ other. (sym (lends_other r k other) ∙ is, other))

  -- *A label is freed* to whose channel nothing is lent
  pub freed_but : ((r k : ℕ) → lent_at now r k ≡ lent_at ports r k) → ((r k : ℕ) → lent_at ports r k ≡ Some e → ⊥) → But Out ports met desk → But Out now met desk
  freed_but lends never h = record {
    granted = λ p n output is. lends output.port.0 (number_of_channel output.channel) ∙ h.granted p n output (was_joined p n output is).0;
    joined = λ r k input is. elim (h.joined r k input (sym (lends r k) ∙ is)) [
      | inl c ↦ inl (clears input.port.0 ∙ c)
      | inr j ↦ inr (joins_other input.port.0 (number_of_channel input.channel) (λ same. never r k (sym (lends r k) ∙ is ∙ ap (λ (x : End). Some x) (sym (proper r k input (sym (lends r k) ∙ is)) ∙ same))) ∙ j)
    ];
    deleting = λ r k input is c. h.deleting r k input (sym (lends r k) ∙ is) (sym (clears input.port.0) ∙ c);
    once = λ r k s l input is also. h.once r k s l input (sym (lends r k) ∙ is) (sym (lends s l) ∙ also);
    moving = λ t. same_moving ports now desk.standing (λ r k input is. lends r k ∙ is) (h.moving t);
  }

-- *A join is entered*: of a label that isn't joined and whose port isn't in Clearing, to a grant that isn't lent
pub entered_but : (Out : PortNo → Type 0) (ports now : List Linked) (met : Bool) (desk : Desk) (p n q m : ℕ) (output : End) → output.port.0 ≡ q → number_of_channel output.channel ≡ m → end_at q m ≡ output
    → joined_at ports p n ≡ None → lent_at ports q m ≡ None → clearing_at ports p ≡ false
    → joined_at now p n ≡ Some output → ((r k : ℕ) → (p ≡ r → n ≡ k → ⊥) → joined_at now r k ≡ joined_at ports r k)
    → lent_at now q m ≡ Some (end_at p n) → ((r k : ℕ) → (q ≡ r → m ≡ k → ⊥) → lent_at now r k ≡ lent_at ports r k)
    → ((r : ℕ) → clearing_at now r ≡ clearing_at ports r) → number_of_channel (end_at p n).channel ≡ n → But Out ports met desk → But Out now met desk
entered_but Out ports now met desk p n q m output at_port at_number whole unjoined unlent apart joins_this joins_other lends_this lends_other clears number h = record {
  granted = λ r k out is. one_pair p n r k
      (λ a b. (let same : out ≡ output = some_same out output (sym is ∙ subst (λ i. joined_at now i k ≡ Some output) a (subst (λ j. joined_at now p j ≡ Some output) b joins_this)) in
      ap (λ (x : End). lent_at now x.port.0 (number_of_channel x.channel)) same ∙ ap (λ (i : ℕ). lent_at now i (number_of_channel output.channel)) at_port ∙ ap (λ (j : ℕ). lent_at now q j) at_number ∙ lends_this
      ∙ ap (λ (i : ℕ). Some (end_at i n)) a ∙ ap (λ (j : ℕ). Some (end_at r j)) b))
      (λ other. (let was : lent_at ports out.port.0 (number_of_channel out.channel) ≡ Some (end_at r k) = h.granted r k out (sym (joins_other r k other) ∙ is) in
      lends_other out.port.0 (number_of_channel out.channel) (λ a b. none_some (end_at r k) (sym (subst (λ i. lent_at ports i (number_of_channel out.channel) ≡ None) a (subst (λ j. lent_at ports q j ≡ None) b unlent)) ∙ was)) ∙ was));
  joined = λ r k input is. one_pair q m r k
      (λ a b. (let same : input ≡ end_at p n = some_same input (end_at p n) (sym is ∙ subst (λ i. lent_at now i k ≡ Some (end_at p n)) a (subst (λ j. lent_at now q j ≡ Some (end_at p n)) b lends_this)) in
      inr (ap (λ (x : End). joined_at now x.port.0 (number_of_channel x.channel)) same ∙ ap (joined_at now p) number ∙ joins_this ∙ ap (λ (x : End). Some x) (sym whole) ∙ ap (λ (i : ℕ). Some (end_at i m)) a ∙ ap (λ (j : ℕ). Some (end_at r j)) b)))
      (λ other. (let was : lent_at ports r k ≡ Some input = sym (lends_other r k other) ∙ is in
      elim (h.joined r k input was) [
        | inl c ↦ inl (clears input.port.0 ∙ c)
        | inr j ↦ inr (joins_other input.port.0 (number_of_channel input.channel) (λ a b. none_some (end_at r k) (sym (subst (λ i. joined_at ports i (number_of_channel input.channel) ≡ None) a (subst (λ l. joined_at ports p l ≡ None) b unjoined)) ∙ j)) ∙ j)
      ]));
  deleting = λ r k input is c. one_pair q m r k
      (λ a b. (let same : input ≡ end_at p n = some_same input (end_at p n) (sym is ∙ subst (λ i. lent_at now i k ≡ Some (end_at p n)) a (subst (λ j. lent_at now q j ≡ Some (end_at p n)) b lends_this)) in
      absurd (both (clearing_at ports p) (sym (clears p) ∙ sym (ap (λ (x : End). clearing_at now x.port.0) same) ∙ c) apart)))
      (λ other. h.deleting r k input (sym (lends_other r k other) ∙ is) (sym (clears input.port.0) ∙ c));
  once = λ r k s l input is also. one_pair q m r k
      (λ a b. one_pair q m s l
      (λ c d. (sym a ∙ c, sym b ∙ d))
      (λ other. absurd (new_twice s l input (mine r k input a b is) (sym (lends_other s l other) ∙ also))))
      (λ other. one_pair q m s l
      (λ c d. absurd (new_twice r k input (mine s l input c d also) (sym (lends_other r k other) ∙ is)))
      (λ away. h.once r k s l input (sym (lends_other r k other) ∙ is) (sym (lends_other s l away) ∙ also)));
  moving = λ t. same_moving ports now desk.standing (λ r k input is. one_pair q m r k
      (λ a b. absurd (none_some input (sym (subst (λ i. lent_at ports i k ≡ None) a (subst (λ j. lent_at ports q j ≡ None) b unlent)) ∙ is)))
      (λ other. lends_other r k other ∙ is)) (h.moving t);
}
  where
    none_some : (x : End) → None ≡ Some x → ⊥
    none_some x e = absurd (cc e)

    some_same : (x y : End) → Some x ≡ Some y → x ≡ y
    some_same x y e = cc

    both : (b : Bool) → b ≡ true → b ≡ false → ⊥
    both b t f = absurd (cc (sym t ∙ f))

    mine : (r k : ℕ) (input : End) → q ≡ r → m ≡ k → lent_at now r k ≡ Some input → input ≡ end_at p n
    mine r k input a b is = some_same input (end_at p n) (sym is ∙ subst (λ i. lent_at now i k ≡ Some (end_at p n)) a (subst (λ j. lent_at now q j ≡ Some (end_at p n)) b lends_this))

    -- nothing was lent to it before
    new_twice : (r k : ℕ) (input : End) → input ≡ end_at p n → lent_at ports r k ≡ Some input → ⊥
    new_twice r k input same was = elim (h.joined r k input was) [
      | inl c ↦ both (clearing_at ports p) (sym (ap (λ (x : End). clearing_at ports x.port.0) same) ∙ c) apart
      | inr j ↦ none_some (end_at r k) (sym (ap (λ (x : End). joined_at ports x.port.0 (number_of_channel x.channel)) same ∙ ap (joined_at ports p) number ∙ unjoined) ∙ j)
    ]
