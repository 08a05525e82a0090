-- A join that is found in the list is released.

use Rattle.std.proofs.Common.{◌≡◌, ℕ, suc, ◌<◌, ◌≤◌, ◌&&◌, nat_eq, Bool, true, false, not, List, [], ◌∷◌, filter, find, fold, length, Option, Some, None, refl, sym, ap, subst, ◌∙◌, IsTrue, arith, if◌then◌else◌}
use Rattle.std.proofs.lemmas.Bool.Decides.{nat_tests}
use Rattle.std.specs.Option.{option_map, option_map_or}
use Rattle.net_types.specs.declared.channel.End.{End}
use Rattle.net_types.specs.declared.node.PortNo.{PortNo}
use Rattle.net_types.specs.Label.{is_label_channel}
use Rattle.ordered_lists.specs.Ordered.{Every, InOrder}
use Rattle.keyed_lists.specs.Keyed.{at}
use Rattle.gsmp_wire.specs.declared.request.Request.{Request}
use Rattle.gsmp_wire.specs.declared.request.Request.TheVariants.{DeleteAll, DeleteTree, MoveBranch}
use Rattle.crossbar_model.specs.Crossbar.{same_end}
use Rattle.branch_desk.proofs.Ends.{end_from_same, same_itself}
use Rattle.port_model.specs.Requests.{leads_home}
use Rattle.grant_table.specs.Table as table
use Rattle.port_model.specs.Setup.{home_of}
use Rattle.port_model.specs.Grants.{Grant, grant_label, lent_input}
use Rattle.port_model.specs.Joins.{given_back}
use Rattle.controller_joins.specs.world_model.Controller.{Acted, Controller, Linked, linked_at}
use Rattle.controller_joins.specs.world_model.Joins.{Join, join_of, joins_of, parts, released_inputs, releases_input, releases_join}
use Rattle.controller_joins.specs.world_model.Performing.{at_port}
use Rattle.controller_joins.specs.Joined.{joined_of}
use Rattle.controller_joins.specs.declared.places.Joined.{Joined}
use Rattle.law_join_facts.specs.Joins.{joined_in}
use Rattle.law_join_facts.proofs.Comes.{Apart, is_for, is_other, same_turned}
use Rattle.law_join_facts.proofs.Splits.{AreApart}
use Rattle.law_join_facts.proofs.Ordered.{filter_first, filter_not}
use Rattle.law_join_facts.proofs.Releases.{IsHeld, first_passes, inputs_are, inputs_of, is_found, joined_found, no_one_passes, none_pass, none_passes, on_port, one_passes, release_ends}
use Rattle.controller_router.specs.Conditions.{CanWork}
use Rattle.controller_router.specs.Engine.{IsReleased}
use Rattle.controller_joining.specs.Conditions.{CanReleaseInput, CanReleaseJoin, EachCanBeReleased, IsGrantOf}

pub apart_as : (grants : List Grant) → table.AreApart grants → AreApart grant_label grants
apart_as [] h = tt
apart_as (grant ∷ grants) h = (h.0, apart_as grants h.1)

pub is_held : (c : Controller) (join : Join) → IsGrantOf c join → IsHeld c join
is_held c join g = record { linked = g.linked; found = g.found; granted = g.granted; apart = apart_as g.linked.port.grants g.apart }

-- what is mapped to something is something
pub record Was {A B : Type 0} (f : A → B) (o : Option A) (y : B) : Type 0 where
  pub from : A
  pub is : o ≡ Some from
  pub same : f from ≡ y

pub was : {A B : Type 0} (f : A → B) (o : Option A) (y : B) → option_map f o ≡ Some y → Was f o y
was f None y e = absurd (cc e)
was f (Some x) y e = record { from = x; is = refl; same = cc e }

pub wasn't : {A B : Type 0} (f : A → B) (o : Option A) → option_map f o ≡ None → o ≡ None
wasn't f None e = refl
wasn't f (Some x) e = absurd (cc e)

pub record Release (a : Acted) (joined : Joined) : Type 0 where
  pub join : Join
  pub is : joined_of join ≡ joined
  pub found : join_of a.controller joined.input ≡ Some join
  pub can : CanReleaseJoin a join
  pub lent : lent_input join.grant.state ≡ Some join.input

pub known : (a : Acted) (joined : Joined) (joins : List Joined) → joined_in a.controller ≡ joins → find (is_for joined.input) joins ≡ Some joined → CanReleaseInput a joined.input → Release a joined
known a joined joins are found can =
    let w = was joined_of (join_of a.controller joined.input) joined (joined_found a.controller joined.input ∙ ap (find (is_for joined.input)) are ∙ found) in
    record { join = w.from; is = w.same; found = w.is; can = can w.from w.is; lent = (is_found a.controller joined.input w.from w.is).lent }

pub label_ok : (a : Acted) (joined : Joined) → Release a joined → IsTrue (is_label_channel joined.input.channel)
label_ok a joined r = subst (λ (x : Joined). IsTrue (is_label_channel x.input.channel)) r.is r.can.label

same_linked : (o : Option Linked) (found other : Linked) → o ≡ Some found → o ≡ Some other → found ≡ other
same_linked o found other is also = (let both : Some found ≡ Some other = sym is ∙ also in cc both)

same_grant : (o : Option Grant) (found other : Grant) → o ≡ Some found → o ≡ Some other → found ≡ other
same_grant o found other is also = (let both : Some found ≡ Some other = sym is ∙ also in cc both)

-- the grant stands at its port, where the label is parted
pub record Stands (b : Acted) (joined : Joined) (join : Join) : Type 0 where
  pub linked : Linked
  pub found : linked_at b.controller joined.port ≡ Some linked
  pub granted : at grant_label joined.label linked.port.grants ≡ Some join.grant

pub there : (a b : Acted) (joined : Joined) (r : Release a joined) → b ≡ parts a joined.input → Stands b joined r.join
there a b joined r is = record {
  linked = r.can.grant.linked;
  found = (λ i. linked_at ((is ∙ ap (λ (x : Joined). parts a x.input) (sym r.is)) i).controller (sym r.is i).port) ∙ r.can.grant.found;
  granted = ap (λ (x : Joined). at grant_label x.label r.can.grant.linked.port.grants) (sym r.is) ∙ r.can.grant.granted;
}

pub released_ok : (a b : Acted) (joined : Joined) (request : Request) (r : Release a joined) → b ≡ parts a joined.input → leads_home joined.input (home_of joined.input) request ≡ true
    → (linked : Linked) → linked_at b.controller joined.port ≡ Some linked → IsReleased request linked.port joined.label
released_ok a b joined request r is leads linked found =
    let s = there a b joined r is in
    let same : s.linked ≡ linked = same_linked (linked_at b.controller joined.port) s.linked linked s.found found in
    record {
      grant = r.join.grant;
      granted = ap (λ (l : Linked). at grant_label joined.label l.port.grants) (sym same) ∙ s.granted;
      released = (ap (λ (o : Option End). option_map_or (table.releases request) o false) r.lent ∙ ap (λ (x : Joined). leads_home x.input (home_of x.input) request) r.is ∙ leads);
    }

pub work_ok : (a b : Acted) (joined : Joined) (r : Release a joined) → b ≡ parts a joined.input
    → (linked : Linked) (grant : Grant) → linked_at b.controller joined.port ≡ Some linked → at grant_label joined.label linked.port.grants ≡ Some grant → CanWork b joined.port (λ setup desk w. given_back w grant)
work_ok a b joined r is linked grant found granted =
    let s = there a b joined r is in
    let same : s.linked ≡ linked = same_linked (linked_at b.controller joined.port) s.linked linked s.found found in
    let its : r.join.grant ≡ grant = same_grant (at grant_label joined.label linked.port.grants) r.join.grant grant (ap (λ (l : Linked). at grant_label joined.label l.port.grants) (sym same) ∙ s.granted) granted in
    subst (λ (g : Grant). CanWork b joined.port (λ setup desk w. given_back w g)) its
    (subst (λ (v : Acted). CanWork v joined.port (λ setup desk w. given_back w r.join.grant)) (sym (is ∙ ap (λ (x : Joined). parts a x.input) (sym r.is)))
    (subst (λ (x : Joined). CanWork (parts a r.join.input) x.port (λ setup desk w. given_back w r.join.grant)) r.is r.can.work))

pub back_is : (a b : Acted) (joined : Joined) (r : Release a joined) → b ≡ parts a joined.input → at_port b joined.port (λ setup desk w. given_back w r.join.grant) ≡ releases_input a joined.input
back_is a b joined r is =
    (λ i. at_port ((is ∙ ap (λ (x : Joined). parts a x.input) (sym r.is)) i) (sym r.is i).port (λ setup desk w. given_back w r.join.grant)) ∙ ap (releases_join a) (sym r.found)

pub joined_after : (a : Acted) (joined : Joined) (joins : List Joined) → Release a joined → joined_in a.controller ≡ joins → InOrder Apart joins → joined_in (releases_input a joined.input).controller ≡ filter (is_other joined.input) joins
joined_after a joined joins r are apart =
    let e = release_ends a r.join (is_held (parts a r.join.input).controller r.join r.can.grant) r.lent (subst (InOrder Apart) (sym are) apart) in
    ap (λ (o : Option Join). joined_in (releases_join a o).controller) r.found ∙ e.joined ∙ (λ i. filter (is_other (r.is i).input) (are i))

-- *An input*, if it is joined
pub found_own : (joins : List Joined) (input : End) (joined : Joined) → find (is_for input) joins ≡ Some joined → joined.input ≡ input
found_own [] input joined found = absurd (cc found)
found_own (j ∷ joins) input joined found = by (is_for input j) refl found (λ rest. found_own joins input joined rest) where
  by : (b : Bool) → is_for input j ≡ b → (if b then Some j else find (is_for input) joins) ≡ Some joined → (find (is_for input) joins ≡ Some joined → joined.input ≡ input) → joined.input ≡ input
  by true t e rest = (let same : j ≡ joined = cc e in subst (λ (x : Joined). x.input ≡ input) same (end_from_same j.input input t))
  by false f e rest = rest e

pub unjoined : (a : Acted) (input : End) (joins : List Joined) → joined_in a.controller ≡ joins → find (is_for input) joins ≡ None → a ≡ releases_input a input
unjoined a input joins are none = ap (releases_join a) (sym (wasn't joined_of (join_of a.controller input) (joined_found a.controller input ∙ ap (find (is_for input)) are ∙ none)))

-- *The inputs that a request leads home*
abbrev pub leads : Request → End → Bool
leads request input = leads_home input (home_of input) request

pub released_are : (c : Controller) (request : Request) (joins : List Joined) → joined_in c ≡ joins → released_inputs c request ≡ filter (leads request) (inputs_of joins)
released_are c request joins are = ap (filter (leads request)) (inputs_are (joins_of c) ∙ ap inputs_of are)

-- none
pub none_led : (a : Acted) (request : Request) → ((e : End) → leads request e ≡ false) → a ≡ fold releases_input a (released_inputs a.controller request)
none_led a request none = ap (fold releases_input a) (sym (released_are a.controller request (joined_in a.controller) refl ∙ none_pass (leads request) (inputs_of (joined_in a.controller)) none))

-- one
pub one_led : (a : Acted) (request : Request) (input : End) (joins : List Joined) (o : Option Joined) → joined_in a.controller ≡ joins → InOrder Apart joins → ((e : End) → same_end e input ≡ false → leads request e ≡ false) → leads request input ≡ true → find (is_for input) joins ≡ o
    → releases_input a input ≡ fold releases_input a (released_inputs a.controller request)
one_led a request input joins None are apart others here found =
    sym (unjoined a input joins are found) ∙ ap (fold releases_input a) (sym (released_are a.controller request joins are ∙ none_passes (leads request) input joins others found))
one_led a request input joins (Some joined) are apart others here found =
    ap (fold releases_input a) (sym (released_are a.controller request joins are ∙ one_passes (leads request) input joins joined others here apart found))

pub one_can : (a : Acted) (request : Request) (input : End) (joins : List Joined) (o : Option Joined) → joined_in a.controller ≡ joins → InOrder Apart joins → ((e : End) → same_end e input ≡ false → leads request e ≡ false) → leads request input ≡ true → find (is_for input) joins ≡ o
    → EachCanBeReleased a (released_inputs a.controller request) → CanReleaseInput a input
one_can a request input joins None are apart others here found can =
    λ join is. absurd (cc (sym (ap (option_map joined_of) is) ∙ joined_found a.controller input ∙ ap (find (is_for input)) are ∙ found))
one_can a request input joins (Some joined) are apart others here found can =
    (subst (EachCanBeReleased a) (released_are a.controller request joins are ∙ one_passes (leads request) input joins joined others here apart found) can).0

-- those of a port
number_turned : (x y : ℕ) → nat_eq x y ≡ nat_eq y x
number_turned x y = grind (arith, nat_tests)

pub port_leads : (port : PortNo) (j : Joined) → leads (DeleteAll port) j.input ≡ on_port port j
port_leads port j = number_turned port.0 j.input.port.0

pub first_led : (c : Controller) (port : PortNo) (joins : List Joined) (joined : Joined) → joined_in c ≡ joins → InOrder Apart joins → find (on_port port) joins ≡ Some joined
    → released_inputs c (DeleteAll port) ≡ joined.input ∷ filter (leads (DeleteAll port)) (inputs_of (filter (is_other joined.input) joins))
first_led c port joins joined are apart found = released_are c (DeleteAll port) joins are ∙ first_passes (leads (DeleteAll port)) port joins joined (port_leads port) apart found

pub none_on : (c : Controller) (port : PortNo) (joins : List Joined) → joined_in c ≡ joins → find (on_port port) joins ≡ None → released_inputs c (DeleteAll port) ≡ []
none_on c port joins are none = released_are c (DeleteAll port) joins are ∙ no_one_passes (leads (DeleteAll port)) port joins (port_leads port) none

find_in : (P : Joined → Type 0) (q : Joined → Bool) (joins : List Joined) (joined : Joined) → Every P joins → find q joins ≡ Some joined → P joined × (q joined ≡ true)
find_in P q [] joined h e = absurd (cc e)
find_in P q (j ∷ joins) joined h e = by (q j) refl e (λ rest. find_in P q joins joined h.1 rest) where
  by : (b : Bool) → q j ≡ b → (if b then Some j else find q joins) ≡ Some joined → (find q joins ≡ Some joined → P joined × (q joined ≡ true)) → P joined × (q joined ≡ true)
  by true t e rest = (let same : j ≡ joined = cc e in (subst P same h.0, subst (λ x. q x ≡ true) same t))
  by false f e rest = rest e

-- what is found is the join of its input
pub found_for : (q : Joined → Bool) (joins : List Joined) (joined : Joined) → InOrder Apart joins → find q joins ≡ Some joined → find (is_for joined.input) joins ≡ Some joined
found_for q [] joined apart e = absurd (cc e)
found_for q (j ∷ joins) joined apart e = by (q j) refl e (λ rest. found_for q joins joined apart.1 rest) where
  first : j ≡ joined → find (is_for joined.input) (j ∷ joins) ≡ Some joined
  first same = subst (λ (x : Joined). find (is_for x.input) (j ∷ joins) ≡ Some x) same (ap (λ (b : Bool). if b then Some j else find (is_for j.input) joins) (same_itself j.input))

  by : (b : Bool) → q j ≡ b → (if b then Some j else find q joins) ≡ Some joined → (find q joins ≡ Some joined → find (is_for joined.input) joins ≡ Some joined) → find (is_for joined.input) (j ∷ joins) ≡ Some joined
  by true t e rest = (let same : j ≡ joined = cc e in first same)
  by false f e rest =
      (let other : same_end j.input joined.input ≡ false = (find_in (Apart j) q joins joined apart.0 e).0 in
      ap (λ (b : Bool). if b then Some j else find (is_for joined.input) joins) other ∙ rest e)

filter_fewer : (p : Joined → Bool) (joins : List Joined) → length (filter p joins) ≤ length joins
filter_fewer p [] = omega arith
filter_fewer p (j ∷ joins) = by (p j) (filter_fewer p joins) where
  by : (b : Bool) → length (filter p joins) ≤ length joins → length (if b then j ∷ filter p joins else filter p joins) ≤ suc (length joins)
  by true le = omega (arith, le)
  by false le = omega (arith, le)

pub one_fewer : (joins : List Joined) (joined : Joined) → find (is_for joined.input) joins ≡ Some joined → length (filter (is_other joined.input) joins) < length joins
one_fewer [] joined e = absurd (cc e)
one_fewer (j ∷ joins) joined e = by (is_for joined.input j) refl e (λ rest. one_fewer joins joined rest) where
  by : (b : Bool) → is_for joined.input j ≡ b → (if b then Some j else find (is_for joined.input) joins) ≡ Some joined → (find (is_for joined.input) joins ≡ Some joined → length (filter (is_other joined.input) joins) < length joins) → length (filter (is_other joined.input) (j ∷ joins)) < suc (length joins)
  by true t e rest = (let out = ap length (filter_not (is_other joined.input) j joins (ap not t)) in let le = filter_fewer (is_other joined.input) joins in omega (arith, out, le))
  by false f e rest = (let kept = ap length (filter_first (is_other joined.input) j joins (ap not f)) in let lt = rest e in omega (arith, kept, lt))

-- *An answer of Delete All* releases one after the other
pub leads_on : (port : PortNo) (joins : List Joined) (joined : Joined) (request : Request) → request ≡ DeleteAll port → InOrder Apart joins → find (on_port port) joins ≡ Some joined → leads request joined.input ≡ true
leads_on port joins joined request is apart found =
    ap (λ (r : Request). leads r joined.input) is ∙ port_leads port joined ∙ on joins found
  where
    on : (xs : List Joined) → find (on_port port) xs ≡ Some joined → on_port port joined ≡ true
    on [] e = absurd (cc e)
    on (x ∷ xs) e = by x (on_port port x) refl e (λ rest. on xs rest) where
      by : (x : Joined) (b : Bool) → on_port port x ≡ b → (if b then Some x else find (on_port port) xs) ≡ Some joined → (find (on_port port) xs ≡ Some joined → on_port port joined ≡ true) → on_port port joined ≡ true
      by x true t e rest = (let same : x ≡ joined = cc e in subst (λ (y : Joined). on_port port y ≡ true) same t)
      by x false f e rest = rest e

pub record Step (a a' : Acted) (request : Request) (joins joins' : List Joined) : Type 0 where
  pub can : EachCanBeReleased a' (released_inputs a'.controller request)
  pub acted : fold releases_input a' (released_inputs a'.controller request) ≡ fold releases_input a (released_inputs a.controller request)
  pub fewer : length joins' < length joins

pub first_can : (a : Acted) (request : Request) (port : PortNo) (joins : List Joined) (joined : Joined) → request ≡ DeleteAll port → joined_in a.controller ≡ joins → InOrder Apart joins → find (on_port port) joins ≡ Some joined
    → EachCanBeReleased a (released_inputs a.controller request) → CanReleaseInput a joined.input
first_can a request port joins joined is are apart found can =
    (subst (EachCanBeReleased a) (ap (released_inputs a.controller) is ∙ first_led a.controller port joins joined are apart found) can).0

pub stepped : (a a' : Acted) (request : Request) (port : PortNo) (joins joins' : List Joined) (joined : Joined) → request ≡ DeleteAll port → joined_in a.controller ≡ joins → joined_in a'.controller ≡ joins' → InOrder Apart joins → find (on_port port) joins ≡ Some joined
    → EachCanBeReleased a (released_inputs a.controller request) → a' ≡ releases_input a joined.input → Step a a' request joins joins'
stepped a a' request port joins joins' joined is are are' apart found can e =
    let for_it = found_for (on_port port) joins joined apart found in
    let r = known a joined joins are for_it (first_can a request port joins joined is are apart found can) in
    let left : List Joined = filter (is_other joined.input) joins in
    let after : joined_in a'.controller ≡ left = ap (λ (x : Acted). joined_in x.controller) e ∙ joined_after a joined joins r are apart in
    let rest : List End = filter (leads request) (inputs_of left) in
    let split : released_inputs a.controller request ≡ joined.input ∷ rest =
    ap (released_inputs a.controller) is ∙ first_led a.controller port joins joined are apart found ∙ ap (λ (q : Request). joined.input ∷ filter (leads q) (inputs_of left)) (sym is) in
    let next : released_inputs a'.controller request ≡ rest = released_are a'.controller request left after in
    let fewer = one_fewer joins joined for_it in
    let same = ap length (sym are' ∙ after) in
    record {
      can = subst (EachCanBeReleased a') (sym next) (subst (λ (x : Acted). EachCanBeReleased x rest) (sym e) (subst (EachCanBeReleased a) split can).1);
      acted = ap (fold releases_input a') next ∙ ap (λ (x : Acted). fold releases_input x rest) e ∙ sym (ap (fold releases_input a) split);
      fewer = omega (arith, fewer, same);
    }

pub all_released : (a : Acted) (request : Request) (port : PortNo) (joins : List Joined) → request ≡ DeleteAll port → joined_in a.controller ≡ joins → find (on_port port) joins ≡ None → a ≡ fold releases_input a (released_inputs a.controller request)
all_released a request port joins is are none = ap (fold releases_input a) (sym (ap (released_inputs a.controller) is ∙ none_on a.controller port joins are none))

-- *Other answers*
pub nothing_joined : (a : Acted) (request : Request) (joins : List Joined) → joined_in a.controller ≡ joins → joins ≡ [] → a ≡ fold releases_input a (released_inputs a.controller request)
nothing_joined a request joins are none = ap (fold releases_input a) (sym (released_are a.controller request joins are ∙ ap (λ js. filter (leads request) (inputs_of js)) none))

pub move_not : (input from to : End) → same_end to (home_of input) ≡ false → (e : End) → leads (MoveBranch input from to) e ≡ false
move_not input from to f e = by (same_end input e) refl where
  by : (b : Bool) → same_end input e ≡ b → (b && same_end to (home_of e)) ≡ false
  by true t = ap (λ (x : End). same_end to (home_of x)) (sym (end_from_same input e t)) ∙ f
  by false t = refl

pub move_other : (input from to : End) (e : End) → same_end e input ≡ false → leads (MoveBranch input from to) e ≡ false
move_other input from to e f = ap (λ (b : Bool). b && same_end to (home_of e)) (same_turned input e ∙ f)

pub move_here : (input from to : End) → same_end to (home_of input) ≡ true → leads (MoveBranch input from to) input ≡ true
move_here input from to t = λ i. same_itself input i && t i

pub tree_other : (input : End) (e : End) → same_end e input ≡ false → leads (DeleteTree input) e ≡ false
tree_other input e f = same_turned input e ∙ f
