-- A join that is found for a label is entered.

use Rattle.std.proofs.Common.{◌≡◌, ℕ, Bool, true, false, not, List, [], ◌∷◌, find, length, Option, Some, None, refl, sym, ap, subst, ◌∙◌, ◌&&◌, arith, if◌then◌else◌}
use Rattle.std.specs.Prelude.{nat_lt, is_none}
use Rattle.std.specs.List.{list_any}
use Rattle.std.specs.Option.{option_map, option_and_then}
use Rattle.net_types.specs.declared.channel.End.{End}
use Rattle.net_types.specs.declared.node.PortNo.{PortNo}
use Rattle.net_types.specs.Label.{label_channel_of, number_of_channel}
use Rattle.ipv4_forward.specs.Best.{best}
use Rattle.ipv4_packet.specs.declared.flow.FlowId.{FlowId}
use Rattle.ipv4_packet.specs.Flow.{next_hop_of}
use Rattle.ipv4_packet.specs.Parts.{flow_destination, same_flow}
use Rattle.gsmp_wire.specs.declared.request.Request.TheVariants.{MoveBranch}
use Rattle.ordered_lists.specs.Ordered.{InOrder}
use Rattle.keyed_lists.specs.Keyed.{at}
use Rattle.port_model.specs.Desk.{most_asked, on_input}
use Rattle.port_model.specs.Setup.{home_of, label_end}
use Rattle.port_model.specs.Grants.{Grant, GrantState, Idle, ByController, ByInput, Leaving, grant_for, grant_label, is_by_controller}
use Rattle.port_model.specs.Joins as port_joins
use Rattle.port_model.specs.Labels.{Label, LabelState, Wiring, Offered, Recalled, Wired}
use Rattle.port_model.specs.Port.{label_at}
use Rattle.controller_joins.specs.world_model.Asking.{asks}
use Rattle.controller_joins.specs.world_model.Controller.{Acted, Controller, Linked, linked_at}
use Rattle.controller_joins.specs.world_model.Joins.{Join, enters_grant, enters_label, is_offered, join_by, join_for, join_through, joins, label_on, may_join, output_joined, port_by, tries_join, tries_label}
use Rattle.controller_joins.specs.world_model.Performing.{at_port}
use Rattle.controller_joins.specs.world_model.Routes.{route_stays}
use Rattle.cut_through.specs.Plan.{join_at, onward_grant}
use Rattle.controller_joins.specs.Joined.{joined_of}
use Rattle.controller_joins.specs.declared.places.Joined.{Joined}
use Rattle.law_join_facts.specs.Joins.{Differ, joined_in}
use Rattle.law_join_facts.proofs.Comes.{is_for}
use Rattle.law_join_facts.proofs.Enters.{Entered, IsSent, both_enter, grant_enters, none_joined, same_labels}
use Rattle.law_join_facts.proofs.Lasts.{AreDifferent, Lasts, asks_lasts}
use Rattle.controller_router.specs.Conditions.{CanAsk}
use Rattle.controller_router.specs.Engine.{IsFree}
use Rattle.controller_joining.specs.Conditions.{CanTryJoin, IsGrantOf, IsPlanned, entered}
use Rattle.controller_joining.proofs.Released.{was}

same_linked : (o : Option Linked) (found other : Linked) → o ≡ Some found → o ≡ Some other → found ≡ other
same_linked o found other is also = (let both : Some found ≡ Some other = sym is ∙ also in cc both)

same_grant : (o : Option Grant) (found other : Grant) → o ≡ Some found → o ≡ Some other → found ≡ other
same_grant o found other is also = (let both : Some found ≡ Some other = sym is ∙ also in cc both)

-- *The join that is planned*, as the code names it
module _ (a : Acted) (number : ℕ) (joined : Joined) (p : IsPlanned a number joined) where
  pub is_sent : IsSent a.controller p.join
  is_sent = record { linked = p.can.grant.linked; found = p.can.grant.found; granted = p.can.grant.granted; sent = p.sent }

  pub found_at : linked_at a.controller joined.port ≡ Some p.can.grant.linked
  found_at = ap (λ (x : Joined). linked_at a.controller x.port) (sym p.is) ∙ p.can.grant.found

  pub granted_at : at grant_label joined.label p.can.grant.linked.port.grants ≡ Some p.join.grant
  granted_at = ap (λ (x : Joined). at grant_label x.label p.can.grant.linked.port.grants) (sym p.is) ∙ p.can.grant.granted

  pub enter_ok : (before : List Joined) → joined_in a.controller ≡ before → list_any (is_for joined.input) before ≡ false
  enter_ok before are = sym (λ i. list_any (is_for (p.is i).input) (are i)) ∙ none_joined a.controller p.join.input p.can.free

  pub lent_is : at_port a joined.port (λ setup desk w. port_joins.lent w p.join.grant joined.input) ≡ enters_grant a p.join
  lent_is = ap (λ (x : Joined). at_port a x.port (λ setup desk w. port_joins.lent w p.join.grant x.input)) (sym p.is)

  pub free_ok : (b : Acted) → b ≡ enters_grant a p.join → (linked : Linked) → linked_at b.controller joined.input.port ≡ Some linked → IsFree linked.port number
  free_ok b is linked found =
      let here : linked_at b.controller p.join.input.port ≡ Some linked = ap (λ (x : Joined). linked_at b.controller x.input.port) p.is ∙ found in
      let on : label_on b.controller p.join.input ≡ Some p.label = ap (λ (x : Acted). label_on x.controller p.join.input) is ∙ same_labels a p.join p.join.input is_sent ∙ p.held in
      let held : label_at linked.port (number_of_channel p.join.input.channel) ≡ Some p.label = sym (ap (option_and_then (λ (l : Linked). label_at l.port (number_of_channel p.join.input.channel))) here) ∙ on in
      record { label = p.label; held = ap (label_at linked.port) (sym p.numbered) ∙ held; offered = p.offered; unjoined = p.unjoined }

  pub label_is : (b : Acted) (output : End) → output ≡ label_end joined.port joined.label → at_port b joined.input.port (λ setup desk w. port_joins.joined w number output) ≡ enters_label b p.join
  label_is b output e =
      let to : output ≡ output_joined p.join = e ∙ ap (λ (x : Joined). label_end x.port x.label) (sym p.is) in
      λ i. at_port b (sym p.is i).input.port (λ setup desk w. port_joins.joined w (sym p.numbered i) (to i))

  pub ask_ok : (d : Acted) (home output : End) → d ≡ entered a p.join → home ≡ home_of joined.input → output ≡ label_end joined.port joined.label → CanAsk d (MoveBranch joined.input home output)
  ask_ok d home output is h e =
      let at_home : home ≡ home_of p.join.input = h ∙ ap (λ (x : Joined). home_of x.input) (sym p.is) in
      let to : output ≡ output_joined p.join = e ∙ ap (λ (x : Joined). label_end x.port x.label) (sym p.is) in
      subst (λ (x : Acted). CanAsk x (MoveBranch joined.input home output)) (sym is)
      (subst (λ (x : Joined). CanAsk (entered a p.join) (MoveBranch x.input home output)) p.is
      (subst (λ (x : End). CanAsk (entered a p.join) (MoveBranch p.join.input x output)) (sym at_home)
      (subst (λ (x : End). CanAsk (entered a p.join) (MoveBranch p.join.input (home_of p.join.input) x)) (sym to) p.can.asks)))

  pub asked_is : (d : Acted) (home output : End) → d ≡ entered a p.join → home ≡ home_of joined.input → output ≡ label_end joined.port joined.label → asks d (MoveBranch joined.input home output) ≡ joins a (Some p.join)
  asked_is d home output is h e =
      let at_home : home ≡ home_of p.join.input = h ∙ ap (λ (x : Joined). home_of x.input) (sym p.is) in
      let to : output ≡ output_joined p.join = e ∙ ap (λ (x : Joined). label_end x.port x.label) (sym p.is) in
      λ i. asks (is i) (MoveBranch (sym p.is i).input (at_home i) (to i))

  pub it_enters : Entered a (entered a p.join) p.join
  it_enters = both_enter a p.join (grant_enters a p.join is_sent p.can.free)

  pub joins_lasts : AreDifferent a → Lasts (entered a p.join) (joins a (Some p.join))
  joins_lasts differ = asks_lasts (MoveBranch p.join.input (home_of p.join.input) (output_joined p.join)) (entered a p.join) (subst (InOrder Differ) (sym it_enters.ports) differ)

  -- no other join is of that grant
  pub its_join : (join : Join) → joined_of join ≡ joined → IsGrantOf a.controller join → p.join ≡ join
  its_join join is grant =
      let e : joined_of p.join ≡ joined_of join = p.is ∙ sym is in
      let linked : p.can.grant.linked ≡ grant.linked = same_linked (linked_at a.controller join.port) p.can.grant.linked grant.linked (ap (λ (x : Joined). linked_at a.controller x.port) (sym e) ∙ p.can.grant.found) grant.found in
      let g : p.join.grant ≡ join.grant = same_grant (at grant_label join.grant.label grant.linked.port.grants) p.join.grant join.grant
      ((λ i. at grant_label (sym e i).label (sym linked i).port.grants) ∙ p.can.grant.granted) grant.granted in
      λ i. record { input = (e i).input; port = (e i).port; grant = g i }

-- *The join of a flow*: to the grant of the planned label, at the port of its route
pub join_is : (c : Controller) (input : End) (flow : FlowId) (port : PortNo) (grants : List Grant) (label : ℕ)
    → ((linked : Linked) → linked_at c port ≡ Some linked → join_for c input flow ≡ option_map (join_at input port) (onward_grant linked.port.grants flow))
    → option_map (λ (l : Linked). l.port.grants) (linked_at c port) ≡ Some grants → Some label ≡ option_map grant_label (onward_grant grants flow)
    → Some (record { input = input; port = port; label = label }) ≡ option_map joined_of (join_for c input flow)
join_is c input flow port grants label planned lends its = at_linked (linked_at c port) refl lends where
  at_grant : (o : Option Grant) → Some label ≡ option_map grant_label o → Some (record { input = input; port = port; label = label }) ≡ option_map joined_of (option_map (join_at input port) o)
  at_grant None e = absurd (cc e)
  at_grant (Some grant) e = (let same : label ≡ grant.label = cc e in λ i. Some (record { input = input; port = port; label = same i }))

  at_linked : (o : Option Linked) → linked_at c port ≡ o → option_map (λ (l : Linked). l.port.grants) o ≡ Some grants → Some (record { input = input; port = port; label = label }) ≡ option_map joined_of (join_for c input flow)
  at_linked None found e = absurd (cc e)
  at_linked (Some linked) found e =
      let same : linked.port.grants ≡ grants = cc e in
      at_grant (onward_grant linked.port.grants flow) (its ∙ ap (λ (gs : List Grant). option_map grant_label (onward_grant gs flow)) (sym same))
      ∙ sym (ap (option_map joined_of) (planned linked found))

-- its grant is one under which the router sends
record IsFor (input : End) (join : Join) : Type 0 where
  own : join.input ≡ input
  sent : join.grant.state ≡ ByController

passes : (test : Grant → Bool) (grants : List Grant) (grant : Grant) → find test grants ≡ Some grant → test grant ≡ true
passes test [] grant e = absurd (cc e)
passes test (g ∷ grants) grant e = by (test g) refl e (passes test grants grant) where
  by : (b : Bool) → test g ≡ b → (if b then Some g else find test grants) ≡ Some grant → (find test grants ≡ Some grant → test grant ≡ true) → test grant ≡ true
  by true t e rest = (let same : g ≡ grant = cc e in subst (λ (x : Grant). test x ≡ true) same t)
  by false t e rest = rest e

by_controller : (state : GrantState) (b : Bool) → (is_by_controller state && b) ≡ true → state ≡ ByController
by_controller Idle b e = absurd (cc e)
by_controller ByController b e = refl
by_controller (ByInput input) b e = absurd (cc e)
by_controller (Leaving input owed) b e = absurd (cc e)

is_for_input : (c : Controller) (input : End) (o : Option PortNo) (next : Option FlowId) (join : Join) → join_by c input o next ≡ Some join → IsFor input join
is_for_input c input None next join e = absurd (cc e)
is_for_input c input (Some port) None join e = absurd (cc e)
is_for_input c input (Some port) (Some next) join e = at_linked (linked_at c port) e where
  at_grant : (linked : Linked) (o : Option Grant) → grant_for linked.port.grants next ≡ o → option_map (λ (grant : Grant). record { input = input; port = linked.setup.port; grant = grant }) o ≡ Some join → IsFor input join
  at_grant linked None is e = absurd (cc e)
  at_grant linked (Some grant) is e =
      let found : Join = record { input = input; port = linked.setup.port; grant = grant } in
      let same : found ≡ join = cc e in
      let sent : grant.state ≡ ByController = by_controller grant.state (same_flow grant.flow next) (passes (λ (g : Grant). is_by_controller g.state && same_flow g.flow next) linked.port.grants grant is) in
      subst (IsFor input) same (record { own = refl; sent = sent })

  at_linked : (o : Option Linked) → join_through input next o ≡ Some join → IsFor input join
  at_linked None e = absurd (cc e)
  at_linked (Some linked) e = at_grant linked (grant_for linked.port.grants next) refl e

-- *A label that may be joined*
is_free : (state : LabelState) (o : Option End) (rest : Bool) → ((is_offered state && is_none o) && rest) ≡ true → (state ≡ Offered) × (o ≡ None)
is_free Wiring o rest e = absurd (cc e)
is_free Offered None rest e = (refl, refl)
is_free Offered (Some end) rest e = absurd (cc e)
is_free (Recalled last acknowledged) o rest e = absurd (cc e)
is_free Wired o rest e = absurd (cc e)

numbered_by : (number : ℕ) → number_of_channel (label_channel_of number) ≡ number
numbered_by number = omega arith

-- its join is planned
pub record Plan (a : Acted) (number : ℕ) (joined : Joined) (input : End) (label : Label) : Type 0 where
  pub planned : IsPlanned a number joined
  pub may : may_join a.controller input label ≡ true
  pub found : join_for a.controller input label.flow ≡ Some planned.join

pub plan : (a : Acted) (port : PortNo) (number : ℕ) (label : Label) (input : End) (joined : Joined) → input ≡ label_end port number → label_on a.controller (label_end port number) ≡ Some label → CanTryJoin a (label_end port number)
    → may_join a.controller input label ≡ true → Some joined ≡ option_map joined_of (join_for a.controller input label.flow) → Plan a number joined (label_end port number) label
plan a port number label input joined is held can may found =
    let here : End = label_end port number in
    let may_here : may_join a.controller here label ≡ true = ap (λ (e : End). may_join a.controller e label) (sym is) ∙ may in
    let w = was joined_of (join_for a.controller here label.flow) joined (ap (λ (e : End). option_map joined_of (join_for a.controller e label.flow)) (sym is) ∙ sym found) in
    let f = is_for_input a.controller here (port_by (best a.controller.table (flow_destination label.flow))) (next_hop_of label.flow) w.from w.is in
    let free = is_free label.state label.join (not (on_input a.controller.desk here) && (nat_lt (length a.controller.desk.standing) most_asked && route_stays a.controller (flow_destination label.flow))) may_here in
    record {
      planned = record {
        join = w.from;
        is = w.same;
        can = can label held may_here w.from w.is;
        sent = f.sent;
        label = label;
        held = ap (label_on a.controller) f.own ∙ held;
        numbered = ap (λ (e : End). number_of_channel e.channel) f.own ∙ numbered_by number;
        offered = free.0;
        unjoined = free.1;
      };
      may = may_here;
      found = w.is;
    }

pub tried_is : (a : Acted) (number : ℕ) (joined : Joined) (input : End) (label : Label) (p : Plan a number joined input label) → label_on a.controller input ≡ Some label → joins a (Some p.planned.join) ≡ tries_join a input
tried_is a number joined input label p held = sym (ap (tries_label a input) held ∙ ap (λ (b : Bool). if b then joins a (join_for a.controller input label.flow) else a) p.may ∙ ap (joins a) p.found)
