-- a label that waits for its turn, through the turns of others and in its own

use Rattle.std.proofs.Common.{◌≡◌, inl, inr, Bool, true, false, true≢false, not, List, ◌∷◌, length, Option, None, Some, refl, sym, ◌∙◌, ap, subst, if◌then◌else◌}
use Rattle.std.specs.Prelude.{◌&&◌, nat_lt, is_none}
use Rattle.std.specs.Option.{option_map, option_and_then}
use Rattle.world_model.specs.Words.{PortNo, End, FlowId, same_flow, best, flow_destination, next_hop_of, number_of_channel, same_end, is_on, withdraws, on_input, most_asked, Request, MoveBranch, at, home_of, label_end, Desk, Standing, Label, label_at, Grant, ByInput, grant_label, grant_for, is_by_controller, is_offered, Controller, Linked, port_key, join_by, join_for, label_on, port_by, route_stays}
use Rattle.world_model.specs.Controller.{Acted}
use Rattle.world_model.specs.Joins.{Join}
use Rattle.world_model.specs.Routes.{stays_in}
use Rattle.law_port_facts.proofs.ordered_lists.Every.{every_map}
use Rattle.law_port_facts.proofs.Keyed.{by_eq}
use Rattle.law_input_steps.proofs.Ends.{same_is}
use Rattle.law_live_joins.specs.Law.{granted_at}
use Rattle.law_live_joining.specs.Ticks.{LeadsTo, IsForOne}
use Rattle.law_live_joining.proofs.Entering.{IsElse}
use Rattle.law_live_joining.proofs.Turns.{Entered}
use Rattle.law_live_joining.proofs.Found.{Found}
use Rattle.law_live_joining.proofs.Asked.{through_granted, find_put, off_still}

-- *It waits*: it may be joined where there is room at the desk, and these inputs have their turns yet
pub record Waits (c : Controller) (label : Label) (join : Join) (inputs : List End) : Type 0 where
  pub there : label_on c join.input ≡ Some label
  pub offered : is_offered label.state ≡ true
  pub unjoined : label.join ≡ None
  pub off : on_input c.desk join.input ≡ false
  pub stays : route_stays c (flow_destination label.flow) ≡ true
  pub leads_on : join_for c join.input label.flow ≡ Some join
  pub alone : IsForOne c join inputs

-- its flow leads to its grant
pub leads_found : (c : Controller) (input : End) (flow : FlowId) (join : Join) → Found c input flow join → LeadsTo c flow join
leads_found c input flow join f = record {
  port = f.port;
  route = f.route;
  by_port = f.by_port ∙ ap (λ (j : Join). j.port.0) (sym f.is);
  next = f.next;
  hop = f.hop;
  as_flow = ap (λ (j : Join). same_flow j.grant.flow f.next) f.is ∙ f.as_flow;
}

one_label : (x y : Label) → Some x ≡ Some y → x ≡ y
one_label x y e = cc

-- labels in one place are one
same_place : (c : Controller) (x y : End) → x.port.0 ≡ y.port.0 → number_of_channel x.channel ≡ number_of_channel y.channel → label_on c x ≡ label_on c y
same_place c x y ports numbers = λ i. option_and_then (λ (l : Linked). label_at l.port (numbers i)) (at port_key (ports i) c.ports)

-- *Another turn* that enters a join to another grant
module _ (a b : Acted) (label : Label) (join : Join) (other : End) (inputs : List End) (w : Waits a.controller label join (other ∷ inputs)) (e : Entered a b other)
    (mine : Found a.controller join.input label.flow join) where
  abbrev its : Label
  its = e.label

  abbrev g : Linked
  g = e.comes.g

  abbrev grant : Grant
  grant = e.comes.grant

  -- the same grant is for this label alone
  abbrev IsSame : Type 0
  IsSame = (port_key g ≡ join.port.0) × (grant_label grant ≡ grant_label join.grant)

  its_unjoined : its.join ≡ None
  its_unjoined = by its.join refl
    where
      first : (x y : Bool) → (x && y) ≡ true → x ≡ true
      first true y t = refl
      first false y t = absurd (cc t)

      second : (x y : Bool) → (x && y) ≡ true → y ≡ true
      second true y t = t
      second false y t = absurd (cc t)

      free : is_none its.join ≡ true
      free = second (is_offered its.state) (is_none its.join) (first (is_offered its.state && is_none its.join)
          (not (on_input a.controller.desk other) && (nat_lt (length a.controller.desk.standing) most_asked && route_stays a.controller (flow_destination its.flow))) e.may)

      by : (o : Option End) → its.join ≡ o → its.join ≡ None
      by None is = is
      by (Some output) is = absurd (true≢false (sym free ∙ ap (λ (x : Option End). is_none x) is))

  one_grant : (x y : Grant) → Some x ≡ Some y → x ≡ y
  one_grant x y t = cc

  one_linked : (x y : Linked) → Some x ≡ Some y → x ≡ y
  one_linked x y t = cc

  mine_port : port_key mine.g ≡ join.port.0
  mine_port = ap (λ (j : Join). j.port.0) (sym mine.is)

  mine_grant : mine.grant ≡ join.grant
  mine_grant = ap (λ (j : Join). j.grant) (sym mine.is)

  same_grant : IsSame → grant ≡ join.grant
  same_grant same = one_grant grant mine.grant
      (sym e.comes.granted ∙ (ap (λ (x : Linked). at grant_label (grant_label grant) x.port.grants) here
      ∙ (ap (λ n. at grant_label n mine.g.port.grants) (same.1 ∙ ap grant_label (sym mine_grant)) ∙ mine.granted))) ∙ mine_grant
    where
      here : g ≡ mine.g
      here = one_linked g mine.g (sym e.comes.there ∙ (ap (λ n. at port_key n a.controller.ports) (same.0 ∙ sym mine_port) ∙ mine.there))

  pub is_own : IsSame → other ≡ join.input
  is_own same = w.alone.0 its e.there its_unjoined (record {
    port = e.comes.port;
    route = e.comes.route;
    by_port = e.comes.by_port ∙ same.0;
    next = e.comes.next;
    hop = e.comes.hop;
    as_flow = ap (λ (x : Grant). same_flow x.flow e.comes.next) (sym (same_grant same)) ∙ e.comes.as_flow;
  })

  -- another grant is another label's
  module _ (differs : IsSame → ⊥) where
    elsewhere : IsElse join.input other
    elsewhere = by_eq join.input.port.0 other.port.0
        (λ ports t. by_eq (number_of_channel join.input.channel) (number_of_channel other.channel)
        (λ numbers u. absurd (differs (in_one_place ports numbers)))
        (λ apart u. inr apart))
        (λ apart t. inl apart)
      where
        one_join : (x y : Join) → Some x ≡ Some y → x ≡ y
        one_join x y t = cc

        in_one_place : join.input.port.0 ≡ other.port.0 → number_of_channel join.input.channel ≡ number_of_channel other.channel → IsSame
        in_one_place ports numbers = (ap (λ (j : Join). j.port.0) joins_are, ap (λ (j : Join). grant_label j.grant) joins_are)
          where
            same_label : its ≡ label
            same_label = one_label its label (sym e.there ∙ (sym (same_place a.controller join.input other ports numbers) ∙ w.there))

            own_place : other ≡ join.input
            own_place = w.alone.0 its e.there its_unjoined (subst (λ (x : Label). LeadsTo a.controller x.flow join) (sym same_label)
                (leads_found a.controller join.input label.flow join mine))

            joins_are : record { input = other; port = g.setup.port; grant = grant } ≡ join
            joins_are = sym e.comes.is ∙ one_join e.join join (sym e.leads_on ∙ (ap (λ (x : Label). join_for a.controller other x.flow) same_label
                ∙ (ap (λ (x : End). join_for a.controller x label.flow) own_place ∙ w.leads_on)))

    -- the desk
    abbrev move : Request
    move = MoveBranch other (home_of other) (label_end g.setup.port grant.label)

    not_on : is_on join.input move ≡ false
    not_on = by (same_end join.input other) refl
      where
        by : (t : Bool) → same_end join.input other ≡ t → t ≡ false
        by false t = refl
        by true t = absurd (apart (same_is join.input other t) elsewhere)
          where
            apart : join.input ≡ other → IsElse join.input other → ⊥
            apart same (inl differ) = differ (ap (λ (x : End). x.port.0) same)
            apart same (inr differ) = differ (ap (λ (x : End). number_of_channel x.channel) same)

    off_then : on_input b.controller.desk join.input ≡ false
    off_then = ap (λ (desk : Desk). on_input desk join.input) e.entered.desk
        ∙ off_still (λ (s : Standing). is_on join.input s.request) (λ (s : Standing). not (withdraws move s.request)) (record { number = a.controller.desk.next; request = move }) a.controller.desk.standing not_on w.off

    -- its grant is the first still
    abbrev lent : Grant
    lent = record grant { state = ByInput other }

    first_then : grant_for (granted_at a.controller mine.port) mine.next ≡ Some join.grant → grant_for (granted_at b.controller mine.port) mine.next ≡ Some join.grant
    first_then is = by_eq mine.port.0 (port_key g)
        (λ same t. ap (λ (grants : List Grant). grant_for grants mine.next) (e.entered.own_grants mine.port same)
        ∙ find_put (λ (x : Grant). is_by_controller x.state && same_flow x.flow mine.next) lent join.grant (granted_at a.controller mine.port) refl
        (λ labels. differs (sym same ∙ (mine.by_port ∙ mine_port), sym labels)) is)
        (λ apart t. ap (λ (grants : List Grant). grant_for grants mine.next) (e.entered.other_grants mine.port apart) ∙ is)

    abbrev led : Option Grant → Option Join
    led o = option_map (λ (x : Grant). let j : Join = record { input = join.input; port = mine.port; grant = x } in j) o

    led_by : (c : Controller) → port_by (best c.table (flow_destination label.flow)) ≡ Some mine.port → join_for c join.input label.flow ≡ led (grant_for (granted_at c mine.port) mine.next)
    led_by c route = ap (λ (o : Option PortNo). join_by c join.input o (next_hop_of label.flow)) route
        ∙ (ap (λ (o : Option FlowId). join_by c join.input (Some mine.port) o) mine.hop ∙ through_granted c join.input mine.port mine.next)

    led_grant : (o : Option Grant) → led o ≡ Some join → o ≡ Some join.grant
    led_grant None t = absurd (cc t)
    led_grant (Some x) t = ap (λ (y : Grant). Some y) (ap (λ (j : Join). j.grant) (one_join (record { input = join.input; port = mine.port; grant = x }) join t))
      where
        one_join : (x y : Join) → Some x ≡ Some y → x ≡ y
        one_join x y t = cc

    route_then : port_by (best b.controller.table (flow_destination label.flow)) ≡ Some mine.port
    route_then = ap (λ table. port_by (best table (flow_destination label.flow))) e.entered.table ∙ mine.route

    leads_then : join_for b.controller join.input label.flow ≡ Some join
    leads_then = led_by b.controller route_then ∙ (ap led (first_then before) ∙ (sym (ap led before) ∙ whole))
      where
        whole : led (grant_for (granted_at a.controller mine.port) mine.next) ≡ Some join
        whole = sym (led_by a.controller mine.route) ∙ w.leads_on

        before : grant_for (granted_at a.controller mine.port) mine.next ≡ Some join.grant
        before = led_grant (grant_for (granted_at a.controller mine.port) mine.next) whole

    -- no other leads there
    alone_then : IsForOne b.controller join inputs
    alone_then = every_map (λ (x : End). (l : Label) → label_on a.controller x ≡ Some l → l.join ≡ None → LeadsTo a.controller l.flow join → x ≡ join.input)
        (λ (x : End). (l : Label) → label_on b.controller x ≡ Some l → l.join ≡ None → LeadsTo b.controller l.flow join → x ≡ join.input) inputs
        (λ x before l is free leads. before l (sym (e.entered.others x (not_joined x l is free)) ∙ is) free (record {
          port = leads.port;
          route = sym (ap (λ table. port_by (best table (flow_destination l.flow))) e.entered.table) ∙ leads.route;
          by_port = leads.by_port;
          next = leads.next;
          hop = leads.hop;
          as_flow = leads.as_flow;
        })) w.alone.1
      where
        none_is : (o : Option End) (x : End) → o ≡ None → o ≡ Some x → ⊥
        none_is o x p q = cc (sym p ∙ q)

        not_joined : (x : End) (l : Label) → label_on b.controller x ≡ Some l → l.join ≡ None → IsElse x other
        not_joined x l is free = by_eq x.port.0 other.port.0
            (λ ports t. by_eq (number_of_channel x.channel) (number_of_channel other.channel)
            (λ numbers u. absurd (none_is l.join (label_end g.setup.port grant.label) free
            (ap (λ (y : Label). y.join) (one_label l (record its { join = Some (label_end g.setup.port grant.label) })
            (sym is ∙ (same_place b.controller x other ports numbers ∙ e.entered.own))))))
            (λ apart u. inr apart))
            (λ apart t. inl apart)

    pub waits_then : Waits b.controller label join inputs
    waits_then = record {
      there = e.entered.others join.input elsewhere ∙ w.there;
      offered = w.offered;
      unjoined = w.unjoined;
      off = off_then;
      stays = (λ i. if e.entered.is_begun i then stays_in (e.entered.table i) (e.entered.waiting i) (flow_destination label.flow) else true) ∙ w.stays;
      leads_on = leads_then;
      alone = alone_then;
    }
