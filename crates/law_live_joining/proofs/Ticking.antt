-- the tick of a controller at peace: ports tick, and then joins are tried

use Rattle.std.proofs.Common.{◌≡◌, ℕ, ◌+◌, ◌≤◌, Bool, true, false, true≢false, List, [], ◌∷◌, ◌++◌, length, fold, map, Option, None, Some, refl, sym, ◌∙◌, ap, subst, arith, inl, if◌then◌else◌}
use Rattle.std.specs.Prelude.{◌&&◌, flat_map, is_none, nat_lt, not}
use Rattle.std.specs.List.{list_any}
use Rattle.std.specs.Option.{option_map, option_map_or, option_and_then}
use Rattle.world_model.specs.Words.{PortNo, End, FlowId, best, flow_destination, next_hop_of, number_of_channel, Ack, said, greeting_of, is_estab, at, last_transaction, most_asked, is_on, on_input, Desk, Standing, Label, label_at, Grant, grant_label, grant_for, is_offered, Controller, Linked, port_key, inputs_at, join_by, join_for, label_on, port_by, route_stays, tries_join, default_channel, with_control, next_control}
use Rattle.world_model.specs.Controller.{Acted}
use Rattle.world_model.specs.Joins.{Join, output_joined}
use Rattle.world_model.specs.Routes.{stays_in}
use Rattle.world_model.specs.Ticks.{ticks}
use Rattle.world_model.specs.gsmp_wire.Layout.{octets_of as gsmp_octets}
use Rattle.world_model.specs.gsmp_wire.declared.message.Message.TheVariants.{Adjacency}
use Rattle.law_port_facts.specs.ordered_lists.Ordered.{Every}
use Rattle.law_port_facts.proofs.ordered_lists.Every.{every_map, every_mapped}
use Rattle.law_port_facts.proofs.Keyed.{at_every, at_map}
use Rattle.law_live_joins.specs.Law.{granted_at}
use Rattle.law_live_ticks.specs.Law.{shorter}
use Rattle.law_live_nodes.specs.Law.{IsPortAtPeace, IsNodeAtPeace, ticked_port, port_ticks, greeted}
use Rattle.law_live_nodes.proofs.Ports.{nodes_tick_on}
use Rattle.law_live_ports.specs.Law.{MayJoinAll}
use Rattle.law_live_ports.proofs.Keeping.{HasApart}
use Rattle.law_live_mirrored_ticks.proofs.Aging.{tick_is, aged_apart}
use Rattle.law_live_joining.specs.Joins.{joined_label, lent_grant, KeepsJoins}
use Rattle.law_live_joining.specs.Ticks.{LeadsTo, IsForOne, CanBeJoined, IsJoinedBehind, TicksJoin, TicksKeepJoins}
use Rattle.law_live_joining.proofs.Keeping.{keeps_then}
use Rattle.law_live_joining.proofs.Entering.{SameRest, sent_rest}
use Rattle.law_live_joining.proofs.Waiting.{Waits}
use Rattle.law_live_joining.proofs.Trying.{HasTurns, tries_keep, Goes, in_turn}
use Rattle.law_live_joining.proofs.Found.{Found, found}
use Rattle.law_live_joining.proofs.Asked.{through_granted}
use Rattle.law_live_joining.proofs.Aging.{ArePlaced, AllTicked, all_ticked, IsLike, AreLike, none, some, port_labels, port_grants, all_inputs, find_shorter, at_ticked}

module _ (a : Acted) (is : IsNodeAtPeace a) (may : MayJoinAll a) where
  abbrev pub now : Acted
  now = greeted a

  abbrev calm : Acted
  calm = record a { controller = record a.controller { adjacency = record a.controller.adjacency { silence = a.controller.adjacency.silence + 1 } } }

  pub rest : SameRest calm.controller now.controller
  rest = sent_rest (record calm { numbers = with_control calm.numbers }) default_channel (next_control calm.numbers) (gsmp_octets (Adjacency (greeting_of (said a.controller.adjacency Ack))))

  abbrev pub t : Acted
  t = fold port_ticks now a.controller.ports

  none_before : (ports : List Linked) → ArePlaced [] ports
  none_before [] = tt
  none_before (linked ∷ ports) = (tt, none_before ports)

  pub left : AllTicked now.controller t.controller [] a.controller.ports
  left = all_ticked [] a.controller.ports now rest.ports (none_before a.controller.ports) is.ports_apart is.ports

  inputs_are : flat_map inputs_at t.controller.ports ≡ flat_map inputs_at a.controller.ports
  inputs_are = ap (flat_map inputs_at) left.ports ∙ all_inputs a.controller.ports is.ports

  -- its labels and grants
  labels_like : (e : End) → AreLike (label_on a.controller e) (label_on t.controller e)
  labels_like e = subst (λ (o : Option Linked). AreLike (label_on a.controller e) (option_and_then (λ (l : Linked). label_at l.port (number_of_channel e.channel)) o))
      (sym (ap (at port_key e.port.0) left.ports ∙ at_ticked e.port.0 a.controller.ports is.ports)) (by (at port_key e.port.0 a.controller.ports) refl)
    where
      by : (o : Option Linked) → at port_key e.port.0 a.controller.ports ≡ o
          → AreLike (option_and_then (λ (l : Linked). label_at l.port (number_of_channel e.channel)) o) (option_and_then (λ (l : Linked). label_at l.port (number_of_channel e.channel)) (option_map ticked_port o))
      by None there = none
      by (Some linked) there = port_labels linked (at_every port_key IsPortAtPeace e.port.0 a.controller.ports linked is.ports there) (number_of_channel e.channel)

  grants_are : (port : PortNo) → granted_at t.controller port ≡ map shorter (granted_at a.controller port)
  grants_are port = ap (λ (o : Option Linked). option_map_or (λ (l : Linked). l.port.grants) o []) (ap (at port_key port.0) left.ports ∙ at_ticked port.0 a.controller.ports is.ports)
      ∙ by (at port_key port.0 a.controller.ports) refl
    where
      by : (o : Option Linked) → at port_key port.0 a.controller.ports ≡ o
          → option_map_or (λ (l : Linked). l.port.grants) (option_map ticked_port o) [] ≡ map shorter (option_map_or (λ (l : Linked). l.port.grants) o [])
      by None there = refl
      by (Some linked) there = port_grants linked (at_every port_key IsPortAtPeace port.0 a.controller.ports linked is.ports there)

  -- *Joins are kept* as ports tick
  joined_so : (o now_is : Option Label) (what : FlowId × End) → AreLike o now_is → option_and_then joined_label o ≡ Some what → option_and_then joined_label now_is ≡ Some what
  joined_so o now_is what none h = h
  joined_so o now_is what (some label after like) h =
      (λ i. if is_offered (like.state i) then option_map (λ (output : End). (like.flow i, output)) (like.join i) else None) ∙ h

  lent_so : (o : Option Grant) → option_and_then lent_grant (option_map shorter o) ≡ option_and_then lent_grant o
  lent_so None = refl
  lent_so (Some grant) = refl

  ticked_keep : KeepsJoins a.controller t.controller
  ticked_keep = record {
    joined = λ input what h. joined_so (label_on a.controller input) (label_on t.controller input) what (labels_like input) h;
    lent = λ port label what h. ap (λ (grants : List Grant). option_and_then lent_grant (at grant_label label grants)) (grants_are port)
        ∙ (ap (option_and_then lent_grant) (at_map grant_label grant_label shorter (λ grant. refl) label (granted_at a.controller port))
        ∙ (lent_so (at grant_label label (granted_at a.controller port)) ∙ h));
  }

  pub has_turns : HasTurns t (length (flat_map inputs_at t.controller.ports))
  has_turns = record {
    apart = subst (Every HasApart) (sym left.ports) (every_mapped ticked_port HasApart a.controller.ports (every_map IsPortAtPeace (λ (linked : Linked). HasApart (ticked_port linked)) a.controller.ports
        (λ linked peace. subst HasApart (sym (tick_is linked peace)) (aged_apart linked peace peace.peace.grants_apart)) is.ports));
    up = ap (λ side. is_estab side.state) (left.adjacency ∙ rest.adjacency) ∙ ap is_estab is.up;
    numbers = subst (λ n. n ≤ last_transaction)
        (sym (ap (λ (desk : Desk). desk.next + length (flat_map inputs_at t.controller.ports)) (left.desk ∙ rest.desk) ∙ ap (λ (inputs : List End). a.controller.desk.next + length inputs) inputs_are)) may;
  }

  pub ticks_keep : KeepsJoins a.controller (ticks a).controller
  ticks_keep = subst (λ (b : Acted). KeepsJoins a.controller b.controller) (sym (nodes_tick_on a is))
      (keeps_then a.controller t.controller (fold tries_join t (flat_map inputs_at t.controller.ports)).controller ticked_keep (tries_keep (flat_map inputs_at t.controller.ports) t has_turns))

  -- *A label that can be joined* waits for its turn
  record LikeAfter (o : Option Label) (label : Label) : Type 0 where
    after : Label
    there : o ≡ Some after
    like : IsLike label after

  one_label : (x y : Label) → Some x ≡ Some y → x ≡ y
  one_label x y e = cc

  one_join : (x y : Join) → Some x ≡ Some y → x ≡ y
  one_join x y e = cc

  after_of : (o now_is : Option Label) (label : Label) → AreLike o now_is → o ≡ Some label → LikeAfter now_is label
  after_of o now_is label none e = absurd (cc e)
  after_of o now_is label (some before after like) e = record { after = after; there = refl; like = subst (λ (l : Label). IsLike l after) (one_label before label e) like }

  record LikeBefore (o : Option Label) (label : Label) : Type 0 where
    before : Label
    there : o ≡ Some before
    like : IsLike before label

  before_of : (o now_is : Option Label) (label : Label) → AreLike o now_is → now_is ≡ Some label → LikeBefore o label
  before_of o now_is label none e = absurd (cc e)
  before_of o now_is label (some before after like) e = record { before = before; there = refl; like = subst (IsLike before) (one_label after label e) like }

  table_is : t.controller.table ≡ a.controller.table
  table_is = left.table ∙ rest.table

  desk_is : t.controller.desk ≡ a.controller.desk
  desk_is = left.desk ∙ rest.desk

  was_apart : Every HasApart a.controller.ports
  was_apart = every_map IsPortAtPeace HasApart a.controller.ports (λ linked peace. peace.peace.grants_apart) is.ports

  module _ (label : Label) (join : Join) (can : CanBeJoined a.controller label join) where
    abbrev aged_join : Join
    aged_join = record { input = join.input; port = join.port; grant = shorter join.grant }

    f : Found a.controller join.input label.flow join
    f = found a.controller was_apart join.input label.flow join can.leads_on

    own : LikeAfter (label_on t.controller join.input) label
    own = after_of (label_on a.controller join.input) (label_on t.controller join.input) label (labels_like join.input) can.there

    -- it leads on to its grant still
    abbrev made : Grant → Join
    made x = record { input = join.input; port = f.port; grant = x }

    led_by : (c : Controller) → port_by (best c.table (flow_destination label.flow)) ≡ Some f.port → join_for c join.input label.flow ≡ option_map made (grant_for (granted_at c f.port) f.next)
    led_by c route = ap (λ (o : Option PortNo). join_by c join.input o (next_hop_of label.flow)) route
        ∙ (ap (λ (o : Option FlowId). join_by c join.input (Some f.port) o) f.hop ∙ through_granted c join.input f.port f.next)

    aged_led : (o : Option Grant) → option_map made o ≡ Some join → option_map made (option_map shorter o) ≡ Some aged_join
    aged_led None e = absurd (cc e)
    aged_led (Some x) e = ap (λ (j : Join). Some (record { input = join.input; port = j.port; grant = shorter j.grant })) (one_join (made x) join e)

    leads_then : join_for t.controller join.input label.flow ≡ Some aged_join
    leads_then = led_by t.controller (ap (λ table. port_by (best table (flow_destination label.flow))) table_is ∙ f.route)
        ∙ (ap (λ (grants : List Grant). option_map made (grant_for grants f.next)) (grants_are f.port)
        ∙ (ap (option_map made) (find_shorter f.next (granted_at a.controller f.port))
        ∙ aged_led (grant_for (granted_at a.controller f.port) f.next) (sym (led_by a.controller f.route) ∙ can.leads_on)))

    -- and is alone
    alone_then : IsForOne t.controller aged_join (flat_map inputs_at t.controller.ports)
    alone_then = subst (IsForOne t.controller aged_join) (sym inputs_are)
        (every_map (λ (x : End). (l : Label) → label_on a.controller x ≡ Some l → l.join ≡ None → LeadsTo a.controller l.flow join → x ≡ join.input)
        (λ (x : End). (l : Label) → label_on t.controller x ≡ Some l → l.join ≡ None → LeadsTo t.controller l.flow aged_join → x ≡ join.input) (flat_map inputs_at a.controller.ports)
        (λ x before l there free leads. each x before l free leads (before_of (label_on a.controller x) (label_on t.controller x) l (labels_like x) there)) can.alone)
      where
        each : (x : End) → ((l : Label) → label_on a.controller x ≡ Some l → l.join ≡ None → LeadsTo a.controller l.flow join → x ≡ join.input)
            → (l : Label) → l.join ≡ None → LeadsTo t.controller l.flow aged_join → LikeBefore (label_on a.controller x) l → x ≡ join.input
        each x before l free leads was = before was.before was.there (sym was.like.join ∙ free) (record {
          port = leads.port;
          route = (λ i. port_by (best (sym table_is i) (flow_destination (sym was.like.flow i)))) ∙ leads.route;
          by_port = leads.by_port;
          next = leads.next;
          hop = ap next_hop_of (sym was.like.flow) ∙ leads.hop;
          as_flow = leads.as_flow;
        })

    -- what may be joined
    abbrev of_label : Bool
    of_label = is_offered label.state && is_none label.join

    abbrev of_desk : Bool
    of_desk = nat_lt (length a.controller.desk.standing) most_asked && route_stays a.controller (flow_destination label.flow)

    first : (x y : Bool) → (x && y) ≡ true → x ≡ true
    first true y e = refl
    first false y e = absurd (cc e)

    second : (x y : Bool) → (x && y) ≡ true → y ≡ true
    second true y e = e
    second false y e = absurd (cc e)

    was_unjoined : label.join ≡ None
    was_unjoined = by label.join refl
      where
        by : (o : Option End) → label.join ≡ o → label.join ≡ None
        by None e = e
        by (Some output) e = absurd (true≢false (sym (second (is_offered label.state) (is_none label.join) (first of_label (not (on_input a.controller.desk join.input) && of_desk) can.may)) ∙ ap (λ (o : Option End). is_none o) e))

    none_on : on_input t.controller.desk join.input ≡ false
    none_on = ap (λ (desk : Desk). on_input desk join.input) desk_is ∙ ap (λ (standing : List Standing). list_any (λ (s : Standing). is_on join.input s.request) standing) is.nothing_asked

    waits : Waits t.controller own.after aged_join (flat_map inputs_at t.controller.ports)
    waits = record {
      there = own.there;
      offered = ap is_offered own.like.state ∙ first (is_offered label.state) (is_none label.join) (first of_label (not (on_input a.controller.desk join.input) && of_desk) can.may);
      unjoined = own.like.join ∙ was_unjoined;
      off = none_on;
      stays = (λ i. if (left.is_begun ∙ rest.is_begun) i then stays_in (table_is i) ((left.waiting ∙ rest.waiting) i) (flow_destination (own.like.flow i)) else true)
          ∙ second (nat_lt (length a.controller.desk.standing) most_asked) (route_stays a.controller (flow_destination label.flow))
          (second (not (on_input a.controller.desk join.input)) of_desk (second of_label (not (on_input a.controller.desk join.input) && of_desk) can.may));
      leads_on = ap (join_for t.controller join.input) own.like.flow ∙ leads_then;
      alone = alone_then;
    }

    turn_is : flat_map inputs_at t.controller.ports ≡ can.front ++ join.input ∷ can.rest
    turn_is = inputs_are ∙ can.turn

    goes : Goes own.after aged_join t (can.front ++ join.input ∷ can.rest)
    goes = subst (Goes own.after aged_join t) turn_is (record {
      has = has_turns;
      room = as_few (length t.controller.desk.standing) (length (flat_map inputs_at t.controller.ports)) (length (flat_map inputs_at a.controller.ports)) most_asked
          (ap (λ (desk : Desk). length desk.standing) desk_is ∙ ap (λ (standing : List Standing). length standing) is.nothing_asked) (ap (λ (inputs : List End). length inputs) inputs_are) can.few;
      state = inl waits;
    })
      where
        as_few : (s m n most : ℕ) → s ≡ 0 → m ≡ n → n ≤ most → s + m ≤ most
        as_few s m n most empty same low = omega (arith, empty, same, low)

    joined_aged : IsJoinedBehind (ticks a).controller own.after aged_join
    joined_aged = subst (λ (b : Acted). IsJoinedBehind b.controller own.after aged_join)
        (sym (nodes_tick_on a is ∙ ap (λ (inputs : List End). fold tries_join t inputs) turn_is)) (in_turn own.after aged_join can.front can.rest t goes)

    pub ticks_join_it : IsJoinedBehind (ticks a).controller label join
    ticks_join_it = by joined_aged
      where
        by : IsJoinedBehind (ticks a).controller own.after aged_join → IsJoinedBehind (ticks a).controller label join
        by h = record {
          held = record { joined = h.held.joined ∙ ap (λ (flow : FlowId). Some (flow, output_joined join)) own.like.flow; lent = h.held.lent };
          number = h.number;
          stands = h.stands;
        }

pub ticks_join : TicksJoin
ticks_join a label join is may can = ticks_join_it a is may label join can

pub ticks_keep_joins : TicksKeepJoins
ticks_keep_joins a is may = ticks_keep a is may
