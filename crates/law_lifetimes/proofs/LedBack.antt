-- where a grant that is lent ends by its lifetime, its input is led back to the control link

use Rattle.std.proofs.Common.{◌≡◌, ◌≢◌, ℕ, ◌≤◌, Bool, true, false, List, [], ◌∷◌, length, Option, None, Some, refl, sym, ◌∙◌, ap, subst, arith, if◌then◌else◌, inl, inr, map, fold}
use Rattle.std.specs.Prelude.{◌⊎◌, ◌&&◌, ◌+◌, ◌-◌, not, nat_lt, is_none, is_some, flat_map}
use Rattle.std.specs.Option.{option_map, option_map_or, option_and_then}
use Rattle.law_controller.specs.world_model.Words.{PortNo, End, Greeting, Party, number_of_channel, Answer, Quiet, Send, Open, Said, is_estab, ticked, gsmp_answer, best, FlowId, next_hop_of, flow_destination, same_flow, IsLinkPort, same_end, MoveBranch, at, Desk, empty_desk, sent_again, is_led_home, on_input, all_on, most_asked, TakeBack, Setup, home_of, label_end, Label, Grant, ByInput, grant_label, grant_for, is_by_controller, is_leaving, Work, label_at, joins_label, Controller, Linked, port_key, linked_at, with_desk, default_channel, says_gsmp, sends_request, asks, begins, with_work, node_resets, performs, works, works_as, port_by, join_through, join_by, join_for, is_offered, may_join, enters_grant, enters_label, joins, tries_label, label_on, tries_join, inputs_at, tries_joins, route_stays, meets, setup_of, sends_again, ticks_port, ticks_ports, ticks_by}
use Rattle.law_controller.specs.world_model.adjacency_table.declared.message.Answer.TheVariants.{Reset}
use Rattle.law_controller.specs.world_model.adjacency_table.Side as sides
use Rattle.law_controller.specs.world_model.gsmp_wire.Layout.{octets_of as gsmp_octets}
use Rattle.law_controller.specs.world_model.gsmp_wire.declared.message.Message.TheVariants as messages
use Rattle.law_controller.specs.world_model.gsmp_wire.declared.request.Request.TheVariants.{AllPorts}
use Rattle.law_controller.specs.ordered_lists.Ordered.{Every}
use Rattle.law_controller.proofs.ordered_lists.Every.{every_mapped}
use Rattle.law_controller.specs.world_model.port_model.Desk.{asked}
use Rattle.law_controller.specs.world_model.port_model.Grants.{lent_input}
use Rattle.law_controller.specs.world_model.port_model.Port.{Port}
use Rattle.law_controller.specs.world_model.port_model.Joins as port_joins
use Rattle.law_controller.specs.world_model.port_model.Ticks as port_ticks
use Rattle.law_controller.specs.law_port_facts.Port.{setup_port, IsLabelEnd, IsGrant, IsPort}
use Rattle.law_controller.proofs.law_port_facts.Keyed.{on_both, on_each, by_eq, at_key, at_every, at_map, put_every, apart_at}
use Rattle.law_controller.proofs.law_port_facts.Found.{find_passes}
use Rattle.law_controller.proofs.law_port_facts.Rules.{and_first, and_second}
use Rattle.law_controller.specs.world_model.Controller.{Acted, ports_of}
use Rattle.law_controller.specs.world_model.Joins.{Join, output_joined}
use Rattle.law_controller.specs.world_model.Gsmp.{answers, steps}
use Rattle.law_controller.specs.world_model.Ticks.{ticks}
use Rattle.law_controller.specs.law_controller_facts.Inputs.{takes_input, takes_inputs}
use Rattle.law_controller.specs.law_controller_facts.Sound.{IsSound, IsLinkedPort, linked_setup, Opening, opened_by, setups_by}
use Rattle.law_controller.proofs.law_controller_facts.Moves.{Found, HasPorts, ages, found_setup, found_at_own, found_port}
use Rattle.law_controller.proofs.law_controller_facts.Joining.{each_there, every_flat_map}
use Rattle.law_controller.proofs.law_controller_facts.Entering.{is_offered_by, by_controller, inputs_of_port}
use Rattle.law_controller.proofs.law_controller_facts.Laws.{has_ports}
use Rattle.law_controller.specs.Law.{IsOpening}
use Rattle.law_controller.proofs.Holding.{Holds, node_closed, none_deleting}
use Rattle.law_controller.proofs.Entering.{IsHeldAt, held_at, joins_holds}
use Rattle.law_controller.proofs.Whole.{Whole, holds_of}
use Rattle.law_controller.proofs.Events.{steps_holds, sends_again_holds, ticks_port_holds, input_holds, inputs_hold}
use Rattle.law_controller.proofs.Laws.{always_holds}
use Rattle.law_lifetimes.specs.Aging.{IsCounted}
use Rattle.law_lifetimes.specs.Expiry.{is_reset_answer, reaches}
use Rattle.law_lifetimes.specs.Law.{IsLedBack}
use Rattle.law_lifetimes.proofs.Calm.{IsTame}
use Rattle.law_lifetimes.proofs.Leads.{IsLed, end_is, led_by, tame_led, back_led, other_led, taken_led, withdrawn_led}
use Rattle.law_lifetimes.proofs.Asked.{Asked, ticks_tame, ticks_asked}
use Rattle.law_lifetimes.proofs.Carrying.{IsCarried, fold_carries, sends_control_carries, sends_request_carries, asks_carries, at_port_carries, performs_it}
use Rattle.law_lifetimes.proofs.Ticking.{by_at, ports_apart, Short, KShort}
use Rattle.law_lifetimes.proofs.Ending.{counted_short}

differs : (b : Bool) → b ≡ true → b ≡ false → ⊥
differs b t f = absurd (cc (sym t ∙ f))

-- *A port as it was*, while the side with the switch is in Estab
module _ (setups : List Setup) (port : PortNo) (was : Port) where
  abbrev pub IsAsWas : Linked → Type 0
  IsAsWas y = port_key y ≡ port.0 → y.port ≡ was

  abbrev pub Still : Acted → Type 0
  Still a = is_estab a.controller.adjacency.state ≡ true → Every IsAsWas a.controller.ports

  abbrev Elsewhere : ℕ → Type 0
  Elsewhere q = q ≢ port.0

  pub still_carried : IsCarried Elsewhere Still
  still_carried = record {
    closed = λ a closed e. absurd (differs (is_estab a.controller.adjacency.state) e closed);
    quiet = λ a b same h. subst (λ (c : Controller). is_estab c.adjacency.state ≡ true → Every IsAsWas c.ports) (sym same) h;
    queued = λ a cells h. h;
    back = λ a request tame h. h;
    taken = λ a input output h. h;
    withdrawn = λ a input zero h. h;
    chained = λ a linked chains found h e. put_every port_key IsAsWas (record linked { chains = chains }) a.controller.ports (at_every port_key IsAsWas (port_key linked) a.controller.ports linked (h e) found) (h e);
    placed = λ a linked w here found h e. put_every port_key IsAsWas (record linked { port = w.port }) a.controller.ports (λ same. absurd (here same)) (h e);
  }

  -- the tick of the adjacency with the switch, and what is sent again
  meets_still : (a : Acted) → Still a → Still (meets a)
  meets_still a h = asks_carries setups Elsewhere Still still_carried (with_desk a empty_desk) AllPorts (λ estab. h)

  answers_still : (a : Acted) (answer : Answer Greeting Party) → Still a → Still (answers a answer)
  answers_still a Quiet h = h
  answers_still a (Send greeting) h = sends_control_carries setups Elsewhere Still still_carried a default_channel (gsmp_octets (messages.Adjacency greeting)) h
  answers_still a (Open None own) h = meets_still a h
  answers_still a (Open (Some greeting) own) h = meets_still (says_gsmp a (messages.Adjacency greeting)) (sends_control_carries setups Elsewhere Still still_carried a default_channel (gsmp_octets (messages.Adjacency greeting)) h)
  answers_still a Reset h = still_carried.closed (node_resets a) (node_closed setups a)

  steps_still : (a : Acted) (step : sides.Step Party) → Every IsAsWas a.controller.ports → Still (steps a step)
  steps_still a step h = answers_still (record a { controller = record a.controller { adjacency = step.side } }) (gsmp_answer step.answer) (λ e. h)

  pub again_still : (a : Acted) (step : sides.Step Party) → Every IsAsWas a.controller.ports → Still (sends_again (steps a step))
  again_still a step h = (let b : Acted = steps a step in
      on_both Still (is_estab b.controller.adjacency.state) (fold sends_request b (sent_again b.controller.desk)) b
      (fold_carries setups Elsewhere Still still_carried sends_request (sends_request_carries setups Elsewhere Still still_carried) (sent_again b.controller.desk) b (steps_still a step h)) (steps_still a step h))

  pub other_still : (a : Acted) (q : PortNo) → q.0 ≢ port.0 → Still a → Still (ticks_port a q)
  other_still a q other h = at_port_carries setups Elsewhere Still still_carried a q port_ticks.ticks other (λ y. ticks_tame y.setup a.controller.desk (begins a y) tt) h

-- *An input that is led back*, while the side with the switch is in Estab
module _ (setups : List Setup) (e : End) (link : 1 ≤ e.port.0) where
  abbrev pub Led : Acted → Type 0
  Led a = is_estab a.controller.adjacency.state ≡ true → IsLed e a.controller.desk

  abbrev Anywhere : ℕ → Type 0
  Anywhere q = Unit {0}

  pub led_carried : IsCarried Anywhere Led
  led_carried = record {
    closed = λ a closed estab. absurd (differs (is_estab a.controller.adjacency.state) estab closed);
    quiet = λ a b same h. subst (λ (c : Controller). is_estab c.adjacency.state ≡ true → IsLed e c.desk) (sym same) h;
    queued = λ a cells h. h;
    back = λ a request tame h estab. tame_led e a.controller.desk request tame (h estab);
    taken = λ a input output h estab. back_led e a.controller.desk input output (h estab);
    withdrawn = λ a input zero h estab. withdrawn_led e a.controller.desk input link zero (h estab);
    chained = λ a linked chains found h. h;
    placed = λ a linked w here found h. h;
  }

  pub ticks_led : (a : Acted) (q : PortNo) → Led a → Led (ticks_port a q)
  ticks_led a q h = at_port_carries setups Anywhere Led led_carried a q port_ticks.ticks tt (λ y. ticks_tame y.setup a.controller.desk (begins a y) tt) h

  pub each_led : (qs : List PortNo) (a : Acted) → Led a → Led (fold ticks_port a qs)
  each_led qs a h = fold_carries setups Anywhere Led led_carried ticks_port ticks_led qs a h

  -- it is taken back
  takes_it : (output : End) (port : PortNo) (a : Acted) → is_estab a.controller.adjacency.state ≡ true → Led (performs port a (TakeBack e output))
  takes_it output port a estab = on_each Led (is_led_home a.controller.desk e (home_of e)) a (asks a (MoveBranch e output (home_of e))) (λ led t. led)
      (λ other. asks_carries setups Anywhere Led led_carried a (MoveBranch e output (home_of e)) (λ t s. taken_led e a.controller.desk output))

  pub works_led : (a : Acted) (linked : Linked) (w : Work) (output : End) → Every IsTame w.actions → Led (with_work a linked w) ⊎ Asked (TakeBack e output) w.actions → Led (works_as a linked w)
  works_led a linked w output tame start = performs_it setups Anywhere Led led_carried (λ k. tt) (TakeBack e output) (takes_it output) linked.setup.port w.actions (with_work a linked w) tame start

  -- *Joining*: the desk and the side stay while a join is entered
  record Same (a b : Acted) : Type 0 where
    desk : b.controller.desk ≡ a.controller.desk
    side : b.controller.adjacency ≡ a.controller.adjacency

  enters_grant_same : (a : Acted) (join : Join) → Same a (enters_grant a join)
  enters_grant_same a join = by_found (linked_at a.controller join.port)
    where
      by_found : (o : Option Linked) → Same a (works a (λ setup desk w. port_joins.lent w join.grant join.input) o)
      by_found None = record { desk = refl; side = refl }
      by_found (Some y) = record { desk = refl; side = refl }

  enters_label_same : (a : Acted) (join : Join) → Same a (enters_label a join)
  enters_label_same a join = by_found (linked_at a.controller join.input.port)
    where
      by_label : (y : Linked) (o : Option Label) → Same a (works_as a y (joins_label (begins a y) (Some (output_joined join)) o))
      by_label y None = record { desk = refl; side = refl }
      by_label y (Some held) = record { desk = refl; side = refl }

      by_found : (o : Option Linked) → Same a (works a (λ setup desk w. port_joins.joined w (number_of_channel join.input.channel) (output_joined join)) o)
      by_found None = record { desk = refl; side = refl }
      by_found (Some y) = by_label y (label_at y.port (number_of_channel join.input.channel))

  -- no join is made of the input itself, on which a request stands, or whose port is to be emptied
  joins_led : (a : Acted) (input : End) (held : Label) (o : Option Join) → ((join : Join) → o ≡ Some join → join.input ≡ input) → label_on a.controller input ≡ Some held → on_input a.controller.desk input ≡ false
      → Holds setups a → Led a → Led (joins a o)
  joins_led a input held None from on free h led = led
  joins_led a input held (Some join) from on free h led =
      let lends : Acted = enters_grant a join in
      let entered : Acted = enters_label lends join in
      let first : Same a lends = enters_grant_same a join in
      let second : Same lends entered = enters_label_same lends join in
      let desk : entered.controller.desk ≡ a.controller.desk = second.desk ∙ first.desk in
      asks_carries setups Anywhere Led led_carried entered (MoveBranch join.input (home_of join.input) (output_joined join))
      (λ estab t. (let now : IsLed e a.controller.desk = led (sym (ap (λ (s : sides.Side Party). is_estab s.state) (second.side ∙ first.side)) ∙ estab) in
      by_same now (subst (λ (d : Desk). IsLed e d) (sym desk) now) (same_end join.input e) refl))
    where
      by_same : IsLed e a.controller.desk → IsLed e (enters_label (enters_grant a join) join).controller.desk → (b : Bool) → same_end join.input e ≡ b
          → IsLed e (asked (enters_label (enters_grant a join) join).controller.desk (MoveBranch join.input (home_of join.input) (output_joined join)))
      by_same now there false other = other_led e (enters_label (enters_grant a join) join).controller.desk join.input (home_of join.input) (output_joined join) other there
      by_same now there true same =
          let is : input ≡ e = sym (from join refl) ∙ end_is join.input e same in
          let port : IsHeldAt setups a input = held_at setups a input held on h in
          absurd (led_by e a.controller.desk now (subst (λ (x : End). on_input a.controller.desk x ≡ false) is free)
          (subst (λ (x : End). all_on a.controller.desk x.port ≡ false) is (none_deleting setups a port.linked input.port port.found port.estab h)))

  join_input : (c : Controller) (input : End) (o : Option PortNo) (next : Option FlowId) (join : Join) → join_by c input o next ≡ Some join → join.input ≡ input
  join_input c input None next join is = absurd (cc is)
  join_input c input (Some q) None join is = absurd (cc is)
  join_input c input (Some q) (Some next) join is = by_found (linked_at c q) is
    where
      by_grant : (y : Linked) (o : Option Grant) → option_map (λ grant. record { input = input; port = y.setup.port; grant = grant }) o ≡ Some join → join.input ≡ input
      by_grant y None is = absurd (cc is)
      by_grant y (Some grant) is =
          let made : Join = record { input = input; port = y.setup.port; grant = grant } in
          let both : Some made ≡ Some join = is in
          let same : made ≡ join = cc in
          sym (ap (λ (j : Join). j.input) same)

      by_found : (o : Option Linked) → join_through input next o ≡ Some join → join.input ≡ input
      by_found None is = absurd (cc is)
      by_found (Some y) is = by_grant y (grant_for y.port.grants next) is

  -- requests and joins stay in order
  joins_for_holds : (a : Acted) (input : End) (held : Label) → IsLabelEnd setups input → label_on a.controller input ≡ Some held → is_offered held.state ≡ true → Holds setups a
      → (o : Option PortNo) (next : Option FlowId) → Holds setups (joins a (join_by a.controller input o next))
  joins_for_holds a input held end on offered h None next = h
  joins_for_holds a input held end on offered h (Some q) None = h
  joins_for_holds a input held end on offered h (Some q) (Some next) = by_found (linked_at a.controller q) refl
    where
      has : HasPorts setups a
      has = has_ports setups a h.sound

      by_grant : (y : Linked) → linked_at a.controller q ≡ Some y → (o : Option Grant) → grant_for y.port.grants next ≡ o → Holds setups (joins a (option_map (λ grant. record { input = input; port = y.setup.port; grant = grant }) o))
      by_grant y found None is = h
      by_grant y found (Some grant) is =
          let passes = find_passes (λ (g : Grant). is_by_controller g.state && same_flow g.flow next) y.port.grants grant is in
          joins_holds setups a input held y grant end on (is_offered_by held.state offered) (found_at_own setups a y q found)
          (apart_at grant_label (λ (g : Grant). is_by_controller g.state && same_flow g.flow next) y.port.grants grant (found_port setups a y q has found).apart is)
          (by_controller grant.state (and_first (is_by_controller grant.state) (same_flow grant.flow next) passes)) h

      by_found : (o : Option Linked) → linked_at a.controller q ≡ o → Holds setups (joins a (join_through input next o))
      by_found None found = h
      by_found (Some y) found = by_grant y found (grant_for y.port.grants next) refl

  record Both (a : Acted) : Type 0 where
    holds : Holds setups a
    led : Led a

  not_so : (b : Bool) → not b ≡ true → b ≡ false
  not_so true t = absurd (cc t)
  not_so false t = refl

  tries_label_both : (a : Acted) (input : End) (o : Option Label) → IsLabelEnd setups input → label_on a.controller input ≡ o → Both a → Both (tries_label a input o)
  tries_label_both a input None end on h = h
  tries_label_both a input (Some held) end on h = on_each Both (may_join a.controller input held) (joins a (join_for a.controller input held.flow)) a (λ may. joined may) (λ t. h)
    where
      joined : may_join a.controller input held ≡ true → Both (joins a (join_for a.controller input held.flow))
      joined may =
          let state : (is_offered held.state && is_none held.join) ≡ true = and_first (is_offered held.state && is_none held.join) (not (on_input a.controller.desk input) && (nat_lt (length a.controller.desk.standing) most_asked && route_stays a.controller (flow_destination held.flow))) may in
          let desk : (not (on_input a.controller.desk input) && (nat_lt (length a.controller.desk.standing) most_asked && route_stays a.controller (flow_destination held.flow))) ≡ true = and_second (is_offered held.state && is_none held.join) _ may in
          record {
            holds = joins_for_holds a input held end on (and_first (is_offered held.state) (is_none held.join) state) h.holds (port_by (best a.controller.table (flow_destination held.flow))) (next_hop_of held.flow);
            led = joins_led a input held (join_for a.controller input held.flow) (λ join is. join_input a.controller input (port_by (best a.controller.table (flow_destination held.flow))) (next_hop_of held.flow) join is) on
                (not_so (on_input a.controller.desk input) (and_first (not (on_input a.controller.desk input)) _ desk)) h.holds h.led;
          }

  tries_both : (inputs : List End) (a : Acted) → Every (IsLabelEnd setups) inputs → Both a → Both (fold tries_join a inputs)
  tries_both [] a ends h = h
  tries_both (input ∷ inputs) a ends h = tries_both inputs (tries_join a input) ends.1 (tries_label_both a input (label_on a.controller input) ends.0 refl h)

  pub tries_led : (a : Acted) → Holds setups a → Led a → Led (tries_joins a)
  tries_led a h led = (let has : HasPorts setups a = has_ports setups a h.sound in
      (tries_both (flat_map inputs_at a.controller.ports) a (every_flat_map (λ (y : Linked). Found setups a y × IsPort setups y.setup y.port) (IsLabelEnd setups) inputs_at (λ y p. inputs_of_port setups a y has p.0 p.1) a.controller.ports (each_there setups a has))
      (record { holds = h; led = led })).led)

-- *The tick* in which the lifetime ends of a grant that is lent
module _ (setups : List Setup) (links : Every (λ (setup : Setup). IsLinkPort setup.port) setups) (port : PortNo) (label : ℕ) (e : End) (link : 1 ≤ e.port.0) (was : Port) (grant : Grant)
    (found : at grant_label label was.grants ≡ Some grant) (lent : grant.state ≡ ByInput e) (last : grant.lifetime ≡ 1) (session : is_some was.session ≡ true) (over : is_reset_answer (ticked was.adjacency).answer ≡ false) where
  abbrev StillHere : Acted → Type 0
  StillHere a = Still setups port was a

  abbrev LedHere : Acted → Type 0
  LedHere a = Led setups e link a

  abbrev tick_of : Acted → Linked → Work
  tick_of a y = port_ticks.ticks y.setup a.controller.desk (begins a y)

  own_start : (a : Acted) (y : Linked) → linked_at a.controller port ≡ Some y → StillHere a → (b : Bool) → is_estab a.controller.adjacency.state ≡ b → LedHere (with_work a y (tick_of a y)) ⊎ Asked (TakeBack e (label_end y.setup.port label)) (tick_of a y).actions
  own_start a y there still false closed = inl (λ estab. absurd (differs (is_estab a.controller.adjacency.state) estab closed))
  own_start a y there still true estab =
      let same : y.port ≡ was = at_every port_key (IsAsWas setups port was) port.0 a.controller.ports y (still estab) there (at_key port_key port.0 a.controller.ports y there) in
      inr (ticks_asked y.setup label e grant (at_key grant_label label was.grants grant found) lent last a.controller.desk (begins a y) refl (ap (λ (p : Port). is_some p.session) same ∙ session)
      (ap (λ (p : Port). is_reset_answer (ticked p.adjacency).answer) same ∙ over) (ap (λ (p : Port). at grant_label label p.grants) same ∙ found))

  own_led : (a : Acted) (y : Linked) → linked_at a.controller port ≡ Some y → StillHere a → LedHere (works_as a y (tick_of a y))
  own_led a y there still = works_led setups e link a y (tick_of a y) (label_end y.setup.port label) (ticks_tame y.setup a.controller.desk (begins a y) tt) (own_start a y there still (is_estab a.controller.adjacency.state) refl)

  -- a port is found as long as it is of the node
  abbrev IsHere : Acted → Type 0
  IsHere a = is_some (linked_at a.controller port) ≡ true

  here_by : (a : Acted) → IsSound setups a.controller → is_some (at setup_port port.0 setups) ≡ true → IsHere a
  here_by a s is = some_map (linked_at a.controller port) (ap is_some (sym (at_map port_key setup_port linked_setup (λ x. refl) port.0 a.controller.ports) ∙ ap (λ (xs : List Setup). at setup_port port.0 xs) s.ports.same) ∙ is)
    where
      some_map : (o : Option Linked) → is_some (option_map linked_setup o) ≡ true → is_some o ≡ true
      some_map None t = absurd (cc t)
      some_map (Some y) t = refl

  module _ (of_node : is_some (at setup_port port.0 setups) ≡ true) where
    own_turn : (a : Acted) (q : PortNo) → Whole setups a → q.0 ≡ port.0 → StillHere a → LedHere (ticks_port a q)
    own_turn a q h same still = by_found (linked_at a.controller q) refl
      where
        at_own : (o : Option Linked) → linked_at a.controller q ≡ o → linked_at a.controller port ≡ o
        at_own o t = subst (λ m. at port_key m a.controller.ports ≡ o) same t

        by_found : (o : Option Linked) → linked_at a.controller q ≡ o → LedHere (works a port_ticks.ticks o)
        by_found None t = absurd (cc (sym (here_by a h.sound of_node) ∙ ap is_some (at_own None t)))
        by_found (Some y) t = own_led a y (at_own (Some y) t) still

    abbrev InPorts : List PortNo → Type 0
    InPorts [] = ⊥
    InPorts (q ∷ qs) = (q.0 ≡ port.0) ⊎ InPorts qs

    each_turn : (qs : List PortNo) (a : Acted) → Whole setups a → InPorts qs → StillHere a → LedHere (fold ticks_port a qs)
    each_turn [] a h among still = absurd among
    each_turn (q ∷ qs) a h among still = by_eq q.0 port.0 (λ same t. each_led setups e link qs (ticks_port a q) (own_turn a q h same still))
        (λ other t. each_turn qs (ticks_port a q) (ticks_port_holds setups links a q h) (later other among) (other_still setups port was a q other still))
      where
        later : q.0 ≢ port.0 → InPorts (q ∷ qs) → InPorts qs
        later other (inl same) = absurd (other same)
        later other (inr rest) = rest

    in_ports : (ports : List Linked) → is_some (at port_key port.0 ports) ≡ true → InPorts (map (λ (y : Linked). y.setup.port) ports)
    in_ports [] is = absurd (cc is)
    in_ports (y ∷ ports) is = by_eq (port_key y) port.0 (λ same t. inl same) (λ other t. inr (in_ports ports (sym (ap (λ b. is_some (if b then Some y else at port_key port.0 ports)) t) ∙ is)))

    ports_holds : (qs : List PortNo) (a : Acted) → Whole setups a → Whole setups (fold ticks_port a qs)
    ports_holds [] a h = h
    ports_holds (q ∷ qs) a h = ports_holds qs (ticks_port a q) (ticks_port_holds setups links a q h)

    ticks_on : (a : Acted) → Whole setups a → Every (IsAsWas setups port was) a.controller.ports → LedHere (tries_joins (ticks_ports (sends_again (steps a (ticked a.controller.adjacency)))))
    ticks_on a h as_was =
        let again : Acted = sends_again (steps a (ticked a.controller.adjacency)) in
        let whole : Whole setups again = sends_again_holds setups links (steps a (ticked a.controller.adjacency)) (steps_holds setups links a (ticked a.controller.adjacency) ages h) in
        tries_led setups e link (ticks_ports again) (holds_of setups (ticks_ports again) (ports_holds (ports_of again.controller) again whole))
        (each_turn (ports_of again.controller) again whole (in_ports again.controller.ports (here_by again whole.sound of_node)) (again_still setups port was a (ticked a.controller.adjacency) as_was))

    pub ticks_by_led : (a : Acted) (answer : Answer (Said Party) Party) → is_reset_answer answer ≡ false → Whole setups a → Every (IsAsWas setups port was) a.controller.ports → LedHere (ticks_by a (ticked a.controller.adjacency) answer)
    ticks_by_led a Quiet on h as_was = ticks_on a h as_was
    ticks_by_led a (Send message) on h as_was = ticks_on a h as_was
    ticks_by_led a (Open message own) on h as_was = ticks_on a h as_was
    ticks_by_led a Reset on h as_was = absurd (cc on)

-- *The law*
module _ (o : Opening) (port : PortNo) (label lifetime : ℕ) (a : Acted) (before : ℕ) (is : IsOpening o) (counted : IsCounted o port label lifetime a before) where
  links : Every (λ (setup : Setup). IsLinkPort setup.port) (setups_by o)
  links = every_mapped (setup_of o.node o.address o.timers o.policy) (λ (setup : Setup). IsLinkPort setup.port) o.ranges is.links

  whole : Whole (setups_by o) a
  whole = subst (λ (b : Acted). Whole (setups_by o) b) counted.now
      (inputs_hold (setups_by o) links counted.after (takes_input (takes_inputs (opened_by o) counted.before) counted.setting)
      (input_holds (setups_by o) links (takes_inputs (opened_by o) counted.before) counted.setting (always_holds o counted.before is)))

  module _ (x : Linked) (there : linked_at a.controller port ≡ Some x) (grant : Grant) (found : at grant_label label x.port.grants ≡ Some grant) (e : End) (lent : grant.state ≡ ByInput e) where
    here : x.setup.port.0 ≡ port.0
    here = at_key port_key port.0 a.controller.ports x there

    fits : IsGrant (setups_by o) x.setup grant
    fits = at_every grant_label (IsGrant (setups_by o) x.setup) label x.port.grants grant (at_every port_key (IsLinkedPort (setups_by o)) port.0 a.controller.ports x whole.sound.ports.each there).grants found

    live : is_leaving grant.state ≡ false
    live = ap is_leaving lent

    last : lifetime ≤ before + 1 → grant.lifetime ≡ 1
    last passed = exactly grant.lifetime lifetime before passed (fits.lives live)
        (at_every grant_label (Short port.0 label (lifetime - before) x.setup.port.0) label x.port.grants grant
        (at_every port_key (λ (y : Linked). KShort port label (lifetime - before) y.setup y.port) port.0 a.controller.ports x (counted_short o port label lifetime a before is counted).ports there)
        found here (at_key grant_label label x.port.grants grant found) live)
      where
        exactly : (k l b : ℕ) → l ≤ b + 1 → 1 ≤ k → k ≤ l - b → k ≡ 1
        exactly k l b p more less = omega (arith, p, more, less)

    input_link : 1 ≤ e.port.0
    input_link = (let end : IsLabelEnd (setups_by o) e = fits.input e (ap lent_input lent) in
        subst (λ (d : End). 1 ≤ d.port.0) (sym end.is) (at_every setup_port (λ (setup : Setup). IsLinkPort setup.port) end.setup.port.0 (setups_by o) end.setup links end.linked).0)

    as_was : Every (IsAsWas (setups_by o) port x.port) a.controller.ports
    as_was = by_at port_key port.0 (λ (y : Linked). y.port ≡ x.port) a.controller.ports (ports_apart port label (setups_by o) 0 a whole.sound)
        (λ y found_y. (let both : Some x ≡ Some y = sym there ∙ found_y in let same : x ≡ y = cc in sym (ap (λ (z : Linked). z.port) same)))

    of_node : is_some (at setup_port port.0 (setups_by o)) ≡ true
    of_node = ap is_some (subst (λ k. at setup_port k (setups_by o) ≡ Some x.setup) here (found_setup (setups_by o) a x x.setup.port (has_ports (setups_by o) a whole.sound) (found_at_own (setups_by o) a x port there)))

    parts : (b c d : Bool) → (not b && (c && not d)) ≡ true → (b ≡ false) × (c ≡ true) × (d ≡ false)
    parts true c d t = absurd (cc t)
    parts false true true t = absurd (cc t)
    parts false true false t = (refl, refl, refl)
    parts false false d t = absurd (cc t)

    led : lifetime ≤ before + 1 → reaches a.controller x ≡ true → Led (setups_by o) e input_link (ticks a)
    led passed reach = (let all = parts (is_reset_answer (ticked a.controller.adjacency).answer) (is_some x.port.session) (is_reset_answer (ticked x.port.adjacency).answer) reach in
        ticks_by_led (setups_by o) links port label e input_link x.port grant found lent (last passed) all.1 all.2 of_node a (ticked a.controller.adjacency).answer all.0 whole as_was)

pub is_led_back : IsLedBack
is_led_back o port label lifetime a before is counted passed reach grant e granted lent stands = by_found (linked_at a.controller port) refl reach granted
  where
    by_found : (p : Option Linked) → linked_at a.controller port ≡ p → option_map_or (reaches a.controller) p false ≡ true → option_and_then (λ (y : Linked). at grant_label label y.port.grants) p ≡ Some grant
        → is_led_home (ticks a).controller.desk e (home_of e) ≡ true
    by_found None there r g = absurd (cc r)
    by_found (Some x) there r g = led o port label lifetime a before is counted x there grant g e lent passed r stands
