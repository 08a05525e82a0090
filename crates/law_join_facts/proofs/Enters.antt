-- A join is entered at its grant and at its label.

use Rattle.std.proofs.Common.{◌≡◌, Bool, false, List, [], ◌∷◌, map, Option, Some, None, refl, sym, ap, subst, ◌∙◌, ◌||◌}
use Rattle.std.specs.List.{list_any}
use Rattle.std.specs.Option.{option_and_then}
use Rattle.net_types.specs.declared.channel.End.{End}
use Rattle.net_types.specs.declared.node.PortNo.{PortNo}
use Rattle.net_types.specs.Label.{number_of_channel}
use Rattle.crossbar_model.specs.Crossbar.{same_end}
use Rattle.keyed_lists.specs.Keyed.{at, entered, in_order}
use Rattle.port_model.specs.Grants.{ByController, grant_label, lent_input}
use Rattle.port_model.specs.Joins.{joined, joins_label, lent}
use Rattle.port_model.specs.Labels.{Label}
use Rattle.port_model.specs.Port.{Work, label_at}
use Rattle.controller_joins.specs.world_model.Controller.{Acted, Controller, Linked, linked_at, port_key, ports_of}
use Rattle.controller_joins.specs.world_model.Joins.{Join, enters_grant, enters_label, joins_of, label_on, output_joined}
use Rattle.controller_joins.specs.world_model.Performing.{works}
use Rattle.controller_joins.specs.world_model.Resets.{begins, with_work}
use Rattle.controller_joins.specs.Joined.{joined_of}
use Rattle.controller_joins.specs.declared.places.Joined.{Joined}
use Rattle.law_join_facts.specs.Joins.{joined_at, joined_in}
use Rattle.law_join_facts.proofs.Comes.{OneMore, comes, is_for, le}
use Rattle.law_join_facts.proofs.Flat.{all_joined, joined_is, put_more}
use Rattle.law_join_facts.proofs.Lasts.{Stays, own, stands, stays_placed, stays_still}
use Rattle.law_join_facts.proofs.Lents.{lent_comes, lents_are}
use Rattle.law_join_facts.proofs.Releases.{more_as}
use Rattle.law_join_facts.proofs.Splits.{each_put, key_of, map_put}

-- the grant is the one of its label at its port, and the router sends under it
pub record IsSent (c : Controller) (join : Join) : Type 0 where
  pub linked : Linked
  pub found : linked_at c join.port ≡ Some linked
  pub granted : at grant_label join.grant.label linked.port.grants ≡ Some join.grant
  pub sent : join.grant.state ≡ ByController

pub record Entered (a b : Acted) (join : Join) : Type 0 where
  pub ports : ports_of b.controller ≡ ports_of a.controller
  pub estab : stands b ≡ stands a
  pub joined : joined_in b.controller ≡ entered le (joined_of join) (joined_in a.controller)

any_mapped : (input : End) (js : List Join) → list_any (is_for input) (map joined_of js) ≡ list_any (λ (j : Join). same_end j.input input) js
any_mapped input [] = refl
any_mapped input (j ∷ js) = ap (λ (b : Bool). same_end j.input input || b) (any_mapped input js)

pub none_joined : (c : Controller) (input : End) → list_any (λ (j : Join). same_end j.input input) (joins_of c) ≡ false → list_any (is_for input) (joined_in c) ≡ false
none_joined c input free = any_mapped input (joins_of c) ∙ free

port_is : (p q : PortNo) → p.0 ≡ q.0 → p ≡ q
port_is p q e = λ i. record { 0 = e i }

pub grant_enters : (a : Acted) (join : Join) → IsSent a.controller join → list_any (λ (j : Join). same_end j.input join.input) (joins_of a.controller) ≡ false → Entered a (enters_grant a join) join
grant_enters a join s free =
    let w : Work = lent (begins a s.linked) join.grant join.input in
    let after : Linked = record s.linked { port = w.port } in
    let v : Acted = with_work a s.linked w in
    let found = own a join.port s.linked s.found in
    let j : Joined = record { input = join.input; port = s.linked.setup.port; label = join.grant.label } in
    let one : OneMore (joined_at s.linked) (joined_at after) j =
    more_as _ _ _ _ j (lents_are s.linked.setup.port s.linked.port.grants) (lents_are s.linked.setup.port w.port.grants)
    (lent_comes s.linked.setup.port join.grant.label s.linked.port.grants join.grant join.input s.granted (ap lent_input s.sent)) in
    let more = put_more after a.controller.ports s.linked j found one in
    let none : list_any (is_for join.input) (in_order le (all_joined a.controller.ports)) ≡ false = ap (list_any (is_for join.input)) (sym (joined_is a.controller)) ∙ none_joined a.controller join.input free in
    let its : j ≡ joined_of join = λ i. record { input = join.input; port = port_is s.linked.setup.port join.port (key_of port_key join.port.0 a.controller.ports s.linked s.found) i; label = join.grant.label } in
    let is : enters_grant a join ≡ v = ap (works a (λ setup desk u. lent u join.grant join.input)) s.found in
    subst (λ (x : Acted). Entered a x join) (sym is)
    (record {
      ports = map_put port_key (λ (l : Linked). l.setup.port) after a.controller.ports s.linked found refl;
      estab = refl;
      joined = joined_is v.controller ∙ comes (all_joined a.controller.ports) (all_joined v.controller.ports) j more none ∙ (λ i. entered le (its i) (sym (joined_is a.controller) i));
    })

-- *A label is joined*: the grants stay
pub label_stays : (a : Acted) (join : Join) → Stays a (enters_label a join)
label_stays a join = at_found (linked_at a.controller join.input.port) refl where
  at_label : (linked : Linked) (found : linked_at a.controller join.input.port ≡ Some linked) (o : Option Label) → Stays a (works a (λ setup desk w. joins_label w (Some (output_joined join)) o) (Some linked))
  at_label linked found None = stays_placed a _ linked _ (own a join.input.port linked found) refl refl refl refl
  at_label linked found (Some label) = stays_placed a _ linked _ (own a join.input.port linked found) refl refl refl refl

  at_found : (o : Option Linked) → linked_at a.controller join.input.port ≡ o → Stays a (works a (λ setup desk w. joined w (number_of_channel join.input.channel) (output_joined join)) o)
  at_found None found = stays_still a a refl refl
  at_found (Some linked) found = at_label linked found (label_at linked.port (number_of_channel join.input.channel))

pub both_enter : (a : Acted) (join : Join) → Entered a (enters_grant a join) join → Entered a (enters_label (enters_grant a join) join) join
both_enter a join e =
    let b : Acted = enters_grant a join in
    let s = label_stays b join in
    record {
      ports = s.ports ∙ e.ports;
      estab = s.steady.estab ∙ e.estab;
      joined = joined_is (enters_label b join).controller ∙ ap (in_order le) s.steady.joined ∙ sym (joined_is b.controller) ∙ e.joined;
    }

-- *The labels* stay where a grant is lent
pub same_labels : (a : Acted) (join : Join) (input : End) → IsSent a.controller join → label_on (enters_grant a join).controller input ≡ label_on a.controller input
same_labels a join input s =
    let w : Work = lent (begins a s.linked) join.grant join.input in
    let after : Linked = record s.linked { port = w.port } in
    let is : enters_grant a join ≡ with_work a s.linked w = ap (works a (λ setup desk u. lent u join.grant join.input)) s.found in
    ap (λ (x : Acted). label_on x.controller input) is
    ∙ each_put port_key (option_and_then (λ (l : Linked). label_at l.port (number_of_channel input.channel))) after input.port.0 a.controller.ports s.linked (own a join.port s.linked s.found) refl
