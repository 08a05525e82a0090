-- the turn in which a label is joined, and the turns behind it

use Rattle.std.proofs.Common.{◌≡◌, zero, suc, Bool, true, false, true≢false, not, List, [], ◌∷◌, filter, length, Contains, Option, None, Some, refl, sym, ◌∙◌, ap, subst, arith, if◌then◌else◌}
use Rattle.std.specs.Prelude.{◌&&◌, nat_lt, is_none}
use Rattle.std.specs.Option.{option_map, option_map_or, option_and_then}
use Rattle.std.proofs.lemmas.List.Elements.{Contains-append_left, Contains-push}
use Rattle.world_model.specs.Words.{End, FlowId, flow_destination, same_end, withdraws, on_input, most_asked, Request, MoveBranch, at, put, home_of, label_end, Desk, Standing, Label, Grant, ByInput, grant_label, is_offered, Linked, label_on, join_for, route_stays}
use Rattle.world_model.specs.Controller.{Acted}
use Rattle.world_model.specs.Joins.{Join, output_joined}
use Rattle.law_port_facts.proofs.Keyed.{at_put_same}
use Rattle.law_input_steps.proofs.Ends.{same_is}
use Rattle.law_live_joins.specs.Law.{granted_at, move_of}
use Rattle.law_live_joining.specs.Joins.{joined_label, lent_grant, joined_on}
use Rattle.law_live_joining.specs.Ticks.{IsJoinedBehind}
use Rattle.law_live_joining.proofs.Turns.{Entered}
use Rattle.law_live_joining.proofs.Waiting.{Waits}

first : (x y : Bool) → (x && y) ≡ true → x ≡ true
first true y t = refl
first false y t = absurd (cc t)

second : (x y : Bool) → (x && y) ≡ true → y ≡ true
second true y t = t
second false y t = absurd (cc t)

in_filter : {A : Type 0} (test : A → Bool) (y : A) (xs : List A) → Contains xs y → test y ≡ true → Contains (filter test xs) y
in_filter test y [] h t = absurd (omega (arith, h.1))
in_filter {A} test y (x ∷ xs) (zero, low, e) t = subst (λ (b : Bool). Contains (if b then x ∷ filter test xs else filter test xs) y) (sym (ap test e ∙ t)) (0, omega arith, e)
in_filter {A} test y (x ∷ xs) (suc k, low, e) t = by (test x) (in_filter test y xs (k, omega (arith, low), e) t)
  where
    by : (b : Bool) → Contains (filter test xs) y → Contains (if b then x ∷ filter test xs else filter test xs) y
    by true h = (suc h.0, omega (arith, h.1), h.2)
    by false h = h

module _ (a b : Acted) (other : End) (e : Entered a b other) where
  abbrev its : Label
  its = e.label

  abbrev g : Linked
  g = e.comes.g

  abbrev grant : Grant
  grant = e.comes.grant

  abbrev output : End
  output = label_end g.setup.port grant.label

  abbrev its_join : Join
  its_join = record { input = other; port = g.setup.port; grant = grant }

  abbrev lent : Grant
  lent = record grant { state = ByInput other }

  abbrev move : Request
  move = MoveBranch other (home_of other) output

  -- *What may be joined* is offered, and isn't joined
  of_label : (is_offered its.state && is_none its.join) ≡ true
  of_label = first (is_offered its.state && is_none its.join)
      (not (on_input a.controller.desk other) && (nat_lt (length a.controller.desk.standing) most_asked && route_stays a.controller (flow_destination its.flow))) e.may

  pub its_unjoined : its.join ≡ None
  its_unjoined = by its.join refl
    where
      by : (o : Option End) → its.join ≡ o → its.join ≡ None
      by None is = is
      by (Some x) is = absurd (true≢false (sym (second (is_offered its.state) (is_none its.join) of_label) ∙ ap (λ (o : Option End). is_none o) is))

  -- *It is joined*
  granted_before : granted_at a.controller g.setup.port ≡ g.port.grants
  granted_before = ap (λ (o : Option Linked). option_map_or (λ (l : Linked). l.port.grants) o []) e.comes.there

  lent_there : at grant_label grant.label (granted_at b.controller g.setup.port) ≡ Some lent
  lent_there = ap (at grant_label grant.label) (e.entered.own_grants g.setup.port refl ∙ ap (put grant_label lent) granted_before)
      ∙ at_put_same grant_label lent g.port.grants grant e.comes.granted

  pub is_behind : IsJoinedBehind b.controller its its_join
  is_behind = record {
    held = record {
      joined = ap (option_and_then joined_label) e.entered.own
          ∙ ap (λ (t : Bool). if t then Some (its.flow, output) else None) (first (is_offered its.state) (is_none its.join) of_label);
      lent = ap (option_and_then lent_grant) lent_there;
    };
    number = a.controller.desk.next;
    stands = subst (λ (desk : Desk). Contains desk.standing (let s : Standing = record { number = a.controller.desk.next; request = move } in s)) (sym e.entered.desk)
        (Contains-push (filter (λ (s : Standing). not (withdraws move s.request)) a.controller.desk.standing) (record { number = a.controller.desk.next; request = move }));
  }

  one_label : (x y : Label) → Some x ≡ Some y → x ≡ y
  one_label x y t = cc

  one_join : (x y : Join) → Some x ≡ Some y → x ≡ y
  one_join x y t = cc

  -- the label that waits, in its own turn
  pub waiting_joined : (label : Label) (join : Join) (inputs : List End) → Waits a.controller label join inputs → other ≡ join.input → IsJoinedBehind b.controller label join
  waiting_joined label join inputs w own = subst (λ (l : Label). IsJoinedBehind b.controller l join) same_label
      (subst (λ (j : Join). IsJoinedBehind b.controller its j) joins_are is_behind)
    where
      same_label : its ≡ label
      same_label = one_label its label (sym e.there ∙ (ap (λ (x : End). label_on a.controller x) own ∙ w.there))

      joins_are : its_join ≡ join
      joins_are = sym e.comes.is ∙ one_join e.join join (sym e.leads_on ∙ (ap (λ (x : Label). join_for a.controller other x.flow) same_label
          ∙ (ap (λ (x : End). join_for a.controller x label.flow) own ∙ w.leads_on)))

  -- *A label that is joined* stays so in another turn
  module _ (label : Label) (join : Join) (h : IsJoinedBehind a.controller label join) where
    none_joined : (what : FlowId × End) → joined_label its ≡ Some what → ⊥
    none_joined what is = by (is_offered its.state) (sym (ap (λ (o : Option End). if is_offered its.state then option_map (λ (x : End). (its.flow, x)) o else None) its_unjoined) ∙ is)
      where
        nothing : Option (FlowId × End)
        nothing = option_map (λ (x : End). (its.flow, x)) None

        by : (t : Bool) → (if t then nothing else None) ≡ Some what → ⊥
        by true f = cc f
        by false f = cc f

    apart : same_end other join.input ≡ true → ⊥
    apart t = none_joined (label.flow, output_joined join)
        (sym (ap (option_and_then joined_label) e.there) ∙ (ap (λ (x : End). joined_on a.controller x) (same_is other join.input t) ∙ h.held.joined))

    not_withdrawn : not (withdraws move (move_of join.input join)) ≡ true
    not_withdrawn = by (same_end other join.input) refl
      where
        by : (t : Bool) → same_end other join.input ≡ t → not t ≡ true
        by true t = absurd (apart t)
        by false t = refl

    pub stays_joined : IsJoinedBehind b.controller label join
    stays_joined = record {
      held = record {
        joined = e.entered.keeps.joined join.input (label.flow, output_joined join) h.held.joined;
        lent = e.entered.keeps.lent join.port join.grant.label (join.grant.flow, join.input) h.held.lent;
      };
      number = h.number;
      stands = subst (λ (desk : Desk). Contains desk.standing (let s : Standing = record { number = h.number; request = move_of join.input join } in s)) (sym e.entered.desk)
          (Contains-append_left (filter (λ (s : Standing). not (withdraws move s.request)) a.controller.desk.standing) (record { number = a.controller.desk.next; request = move } ∷ [])
          (record { number = h.number; request = move_of join.input join })
          (in_filter (λ (s : Standing). not (withdraws move s.request)) (record { number = h.number; request = move_of join.input join }) a.controller.desk.standing h.stands not_withdrawn));
    }
