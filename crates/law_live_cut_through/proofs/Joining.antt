-- the labels of a way are joined in the ticks of a calm beat, each to the next

use Rattle.std.proofs.Common.{◌≡◌, ◌∙◌, ℕ, zero, suc, ◌<◌, ◌-◌, ◌&&◌, Bool, true, false, not, List, [], ◌∷◌, length, Option, None, Some, is_some, refl, sym, ap, subst, arith, if◌then◌else◌}
use Rattle.std.specs.Prelude.{nat_eq, nat_lt, is_none, flat_map, find, Contains}
use Rattle.std.specs.List.{list_any}
use Rattle.std.specs.Option.{option_map, option_map_or, option_and_then}
use Rattle.std.proofs.lemmas.Bool.Decides.{nat_tests}
use Rattle.std.proofs.lemmas.List.Elements.{Contains-append_right}
use Rattle.world_model.specs.Words.{NodeId, PortNo, Policy, End, FlowId, flow_ttl, flow_destination, next_hop_of, same_flow, is_on, number_of_channel, at, best, Local, Via, most_asked, Standing, label_end, Label, LabelState, Wiring, Recalled, Wired, label_number, label_at, labels_of, label_on, serves, Offered, inputs_at, Grant, GrantState, Idle, ByController, ByInput, Leaving, is_by_controller, grant_label, grant_for, is_offered, may_join, join_for, join_by, join_through, port_by, table_in, Controller, controller_at, Linked, linked_at, linked_end, port_key, Topology, IsTopology, World, Site, site_at, IsNode}
use Rattle.world_model.specs.Joins.{Join, output_joined}
use Rattle.world_model.specs.Routes.{stays_in}
use Rattle.world_model.specs.ipv4_forward.declared.table.Next.{Next}
use Rattle.world_model.specs.ipv4_forward.declared.table.Route as routes
use Rattle.world_model.specs.network_model.declared.link.LinkEnd.{LinkEnd}
use Rattle.world_model.specs.network_model.declared.event.Event.{Event}
use Rattle.live_model.specs.Beats.{Beat}
use Rattle.calm_model.specs.Ways.{one_hop, LeadsTo, IsWayFrom}
use Rattle.calm_model.specs.Served.{IsAloneAt, IsAloneBetween, IsFreeWay}
use Rattle.calm_model.specs.CutThrough.{BeginsAt}
use Rattle.law_live_ease.specs.law_true_runs.Runs.{HoldsInRuns, IsWhole}
use Rattle.law_live_ease.proofs.law_true_runs.Fronts.{front_run}
use Rattle.law_live_ease.specs.law_port_facts.ordered_lists.Ordered.{Every}
use Rattle.law_live_ease.proofs.law_port_facts.ordered_lists.Every.{every_map2}
use Rattle.law_live_ease.proofs.law_port_facts.Keyed.{at_every, at_key, each_found}
use Rattle.law_live_ease.proofs.law_run_facts.law_controller_bindings.Flows.{one_flow}
use Rattle.law_live_ease.proofs.law_run_facts.Nodes.{runs_have_nodes}
use Rattle.law_live_ease.proofs.law_causes.Shown.{peer_back}
use Rattle.law_live_ease.specs.law_live_links.Law.{IsAgreedOn}
use Rattle.law_live_ease.specs.law_live_worlds.Law.{Shows, AgreeIn, end_of}
use Rattle.law_live_ease.specs.law_live_hearing.Law.{world_at}
use Rattle.law_live_ease.proofs.law_live_mirrors.Ports.{number_again}
use Rattle.law_live_ease.proofs.law_live_counts.Counted.{same_itself}
use Rattle.law_live_ease.specs.law_live_joining.Joins.{joined_label, joined_on, lent_grant, lent_on, by_input}
use Rattle.law_live_ease.specs.law_live_joining.Ticks.{CanBeJoined, IsForOne, LeadsTo as FlowLeadsTo}
use Rattle.law_live_ease.proofs.law_live_joining.Ready.{HasPlace, among_labels, among_ports}
use Rattle.law_live_ease.specs.law_live_joining_beats.Law.{HoldsJoin}
use Rattle.law_live_ease.specs.Law.{IsAtEase}
use Rattle.law_live_ease.specs.Beats.{IsCalmBeat}
use Rattle.law_live_ease.specs.AtEase.{EndsAgree, EndsAtEaseAgree}
use Rattle.law_live_ease.specs.Ticks.{TicksBind}
use Rattle.law_live_cut_through.specs.Law.{HoldsLabel, IsLabelled, AreLabelled, IsJoinedOn, AreJoinedOn, WayStands}
use Rattle.law_live_cut_through.specs.Ticks.{ticked}
use Rattle.law_live_cut_through.specs.First.{WaysComeToStand}
use Rattle.law_live_cut_through.specs.Later.{WaysStandInStretches}
use Rattle.law_live_cut_through.proofs.JoiningTicks.{ticks_join_it}
use Rattle.law_live_cut_through.proofs.TicksFlows.{next_was, next_is, same_destination, hop_lives}
use Rattle.law_live_cut_through.proofs.Standing.{KeepTicks, table_ticks, settled_behind}

-- *Lists*
one_grant : (x y : Grant) → Some x ≡ Some y → x ≡ y
one_grant x y e = cc

one_label : (x y : Label) → Some x ≡ Some y → x ≡ y
one_label x y e = cc

one_linked : (x y : Linked) → Some x ≡ Some y → x ≡ y
one_linked x y e = cc

one_site : (x y : Site) → Some x ≡ Some y → x ≡ y
one_site x y e = cc

equal : (m n : ℕ) → m ≡ n → nat_eq m n ≡ true
equal m n e = grind (arith, nat_tests, e)

-- the grant that is found by a test which others of this label alone pass
find_held : (test : Grant → Bool) (number : ℕ) (xs : List Grant) (x : Grant) → Every (λ (y : Grant). test y ≡ true → y.label ≡ number) xs → at grant_label number xs ≡ Some x
    → test x ≡ true → find test xs ≡ Some x
find_held test number [] x each e passes = absurd (cc e)
find_held test number (z ∷ xs) x each e passes = by (test z) refl (λ f. find_held test number xs x each.1 f passes)
  where
    first : z.label ≡ number → z ≡ x
    first same = one_grant z x (sym (ap (λ (b : Bool). if b then Some z else at grant_label number xs) (equal z.label number same)) ∙ e)

    later : test z ≡ false → at grant_label number xs ≡ Some x
    later fails = on (nat_eq z.label number) refl
      where
        on : (b : Bool) → nat_eq z.label number ≡ b → at grant_label number xs ≡ Some x
        on true t = absurd (cc (sym fails ∙ (ap test (one_grant z x (sym (ap (λ (b : Bool). if b then Some z else at grant_label number xs) t) ∙ e)) ∙ passes)))
        on false t = sym (ap (λ (b : Bool). if b then Some z else at grant_label number xs) t) ∙ e

    by : (b : Bool) → test z ≡ b → (at grant_label number xs ≡ Some x → find test xs ≡ Some x) → find test (z ∷ xs) ≡ Some x
    by true t more = ap (λ (b : Bool). if b then Some z else find test xs) t ∙ ap Some (first (each.0 t))
    by false t more = ap (λ (b : Bool). if b then Some z else find test xs) t ∙ more (later t)

-- *Each* of a list, by what is in it
every_by : {A : Type 0} (P : A → Type 0) (xs : List A) → ((x : A) → Contains xs x → P x) → Every P xs
every_by P [] h = tt
every_by {A} P (x ∷ xs) h = (h x (zero, omega arith, refl), every_by P xs (λ y c. h y (suc c.0, omega (arith, c.1), c.2)))

-- *What stands at an end of a link*
record At (w : World) (end : LinkEnd) (linked : Linked) : Type 0 where
  site : Site
  found : site_at w end.node ≡ Some site
  of_port : linked_at site.controller end.port ≡ Some linked

at_end : (w : World) (end : LinkEnd) (linked : Linked) → linked_end w end ≡ Some linked → At w end linked
at_end w end linked e = by (site_at w end.node) refl e
  where
    by : (o : Option Site) → site_at w end.node ≡ o → option_and_then (λ (c : Controller). linked_at c end.port) (option_map (λ (s : Site). s.controller) o) ≡ Some linked → At w end linked
    by None f h = absurd (cc h)
    by (Some site) f h = record { site = site; found = f; of_port = h }

end_at : (w : World) (end : LinkEnd) (site : Site) → site_at w end.node ≡ Some site → linked_end w end ≡ linked_at site.controller end.port
end_at w end site found = ap (λ (o : Option Site). option_and_then (λ (c : Controller). linked_at c end.port) (option_map (λ (s : Site). s.controller) o)) found

shown_is : (w : World) (end : LinkEnd) (x y : Linked) → Shows w end x → linked_end w end ≡ Some y → x ≡ y
shown_is w end x y shows there = one_linked x y (sym shows.of_port ∙ (sym (end_at w end shows.site shows.there) ∙ there))

same_port : (a b : PortNo) → a.0 ≡ b.0 → a ≡ b
same_port a b e = λ i. record { 0 = e i }

is_it : (state : LabelState) → is_offered state ≡ true → state ≡ Offered
is_it Offered e = refl
is_it Wiring e = absurd (cc e)
is_it (Recalled last acknowledged) e = absurd (cc e)
is_it Wired e = absurd (cc e)

abbrev pair : FlowId → End → FlowId × End
pair flow end = (flow, end)

one_pair : (x y : FlowId × End) → Some x ≡ Some y → x ≡ y
one_pair x y e = cc

one_end : (x y : LinkEnd) → Some x ≡ Some y → x ≡ y
one_end x y e = cc

-- *A label that is joined*, and a grant that is lent
record IsOfLabel (c : Controller) (input : End) (flow : FlowId) (output : End) : Type 0 where
  linked : Linked
  of_port : linked_at c input.port ≡ Some linked
  label : Label
  held : label_at linked.port (number_of_channel input.channel) ≡ Some label
  offered : label.state ≡ Offered
  of_flow : label.flow ≡ flow
  joined : label.join ≡ Some output

module _ (c : Controller) (input : End) (flow : FlowId) (output : End) where
  module _ (linked : Linked) (of_port : linked_at c input.port ≡ Some linked) (label : Label) (held : label_at linked.port (number_of_channel input.channel) ≡ Some label) where
    second : (x : End) → Some (pair label.flow x) ≡ Some (pair flow output) → x ≡ output
    second x h = ap (λ (p : FlowId × End). p.1) (one_pair (pair label.flow x) (pair flow output) h)

    first_of : (x : End) → Some (pair label.flow x) ≡ Some (pair flow output) → label.flow ≡ flow
    first_of x h = ap (λ (p : FlowId × End). p.0) (one_pair (pair label.flow x) (pair flow output) h)

    label_join : (o : Option End) → label.join ≡ o → label.state ≡ Offered → option_map (λ (x : End). pair label.flow x) o ≡ Some (pair flow output) → IsOfLabel c input flow output
    label_join None j s h = absurd (cc h)
    label_join (Some x) j s h = record { linked = linked; of_port = of_port; label = label; held = held; offered = s; of_flow = first_of x h; joined = j ∙ ap Some (second x h) }

    label_state : (b : Bool) → is_offered label.state ≡ b → (if b then option_map (λ (x : End). pair label.flow x) label.join else None) ≡ Some (pair flow output) → IsOfLabel c input flow output
    label_state false s h = absurd (cc h)
    label_state true s h = label_join label.join refl (is_it label.state s) h

  by_label : (linked : Linked) → linked_at c input.port ≡ Some linked → (o : Option Label) → label_at linked.port (number_of_channel input.channel) ≡ o
      → option_and_then joined_label o ≡ Some (pair flow output) → IsOfLabel c input flow output
  by_label linked of_port None f h = absurd (cc h)
  by_label linked of_port (Some label) f h = label_state linked of_port label f (is_offered label.state) refl h

  by_port : (o : Option Linked) → linked_at c input.port ≡ o
      → option_and_then joined_label (option_and_then (λ (l : Linked). label_at l.port (number_of_channel input.channel)) o) ≡ Some (pair flow output) → IsOfLabel c input flow output
  by_port None f h = absurd (cc h)
  by_port (Some linked) f h = by_label linked f (label_at linked.port (number_of_channel input.channel)) refl h

  of_label : joined_on c input ≡ Some (pair flow output) → IsOfLabel c input flow output
  of_label e = by_port (linked_at c input.port) refl e

record IsOfGrant (c : Controller) (port : PortNo) (number : ℕ) (flow : FlowId) (input : End) : Type 0 where
  linked : Linked
  of_port : linked_at c port ≡ Some linked
  grant : Grant
  held : at grant_label number linked.port.grants ≡ Some grant
  of_flow : grant.flow ≡ flow
  is : grant.state ≡ ByInput input

module _ (c : Controller) (port : PortNo) (number : ℕ) (flow : FlowId) (input : End) where
  module _ (linked : Linked) (of_port : linked_at c port ≡ Some linked) (grant : Grant) (held : at grant_label number linked.port.grants ≡ Some grant) where
    second_of : (x : End) → Some (pair grant.flow x) ≡ Some (pair flow input) → x ≡ input
    second_of x h = ap (λ (p : FlowId × End). p.1) (one_pair (pair grant.flow x) (pair flow input) h)

    flow_is : (x : End) → Some (pair grant.flow x) ≡ Some (pair flow input) → grant.flow ≡ flow
    flow_is x h = ap (λ (p : FlowId × End). p.0) (one_pair (pair grant.flow x) (pair flow input) h)

    grant_state : (state : GrantState) → grant.state ≡ state → option_map (λ (x : End). pair grant.flow x) (by_input state) ≡ Some (pair flow input) → IsOfGrant c port number flow input
    grant_state Idle s h = absurd (cc h)
    grant_state ByController s h = absurd (cc h)
    grant_state (Leaving x owed) s h = absurd (cc h)
    grant_state (ByInput x) s h = record { linked = linked; of_port = of_port; grant = grant; held = held; of_flow = flow_is x h; is = s ∙ ap ByInput (second_of x h) }

  by_grant : (linked : Linked) → linked_at c port ≡ Some linked → (o : Option Grant) → at grant_label number linked.port.grants ≡ o
      → option_and_then lent_grant o ≡ Some (pair flow input) → IsOfGrant c port number flow input
  by_grant linked of_port None f h = absurd (cc h)
  by_grant linked of_port (Some grant) f h = grant_state linked of_port grant f grant.state refl h

  by_its_port : (o : Option Linked) → linked_at c port ≡ o → option_and_then lent_grant (at grant_label number (option_map_or (λ (l : Linked). l.port.grants) o [])) ≡ Some (pair flow input)
      → IsOfGrant c port number flow input
  by_its_port None f h = absurd (cc h)
  by_its_port (Some linked) f h = by_grant linked f (at grant_label number linked.port.grants) refl h

  of_grant : lent_on c port number ≡ Some (pair flow input) → IsOfGrant c port number flow input
  of_grant e = by_its_port (linked_at c port) refl e

none_on : (standing : List Standing) (input : End) → standing ≡ [] → not (list_any (λ (s : Standing). is_on input s.request) standing) ≡ true
none_on standing input e = ap (λ (xs : List Standing). not (list_any (λ (s : Standing). is_on input s.request) xs)) e

few_of : (standing : List Standing) → standing ≡ [] → nat_lt (length standing) most_asked ≡ true
few_of standing e = ap (λ (xs : List Standing). nat_lt (length xs) most_asked) e

all_true : (a b c d e : Bool) → a ≡ true → b ≡ true → c ≡ true → d ≡ true → e ≡ true → ((a && b) && (c && (d && e))) ≡ true
all_true a b c d e p q r s t = λ i. ((p i && q i) && (r i && (s i && t i)))

module _ (whole : HoldsInRuns IsWhole) (ends_agree : EndsAtEaseAgree) (keep : KeepTicks) (policy : Policy) (topology : Topology) (before : List Event) (beat : Beat)
    (ease : IsAtEase topology (world_at policy topology before)) (b : IsCalmBeat policy topology before beat) where
  abbrev w : World
  w = world_at policy topology before

  abbrev u : World
  u = ticked policy topology before

  is : IsTopology topology
  is = b.run.topology_is

  -- *The grant that a label is joined to*: the only one of its flow at the port
  module _ (node : NodeId) (far : LinkEnd) (flow : FlowId) (next : IsLabelled topology w node far flow) where
    abbrev one : LinkEnd
    one = record { node = node; port = next.port }

    agree_there : AgreeIn w one far [] []
    agree_there = (ease.peace.lasting.peace.links one far next.linked).agree

    abbrev near : Linked
    near = agree_there.linked

    abbrev distant : Linked
    distant = agree_there.far_linked

    near_is : near ≡ next.grant.linked
    near_is = shown_is w one near next.grant.linked agree_there.shows next.grant.shown

    distant_is : distant ≡ next.label.linked
    distant_is = shown_is w far distant next.label.linked agree_there.far_shows next.label.shown

    both : EndsAgree distant near
    both = ends_agree topology w far one distant near is ease (peer_back topology is one far next.linked).back agree_there.far_shows agree_there.shows

    abbrev passes : Grant → Bool
    passes grant = is_by_controller grant.state && same_flow grant.flow flow

    and_second : (x y : Bool) → (x && y) ≡ true → y ≡ true
    and_second true y h = h
    and_second false y h = absurd (cc h)

    alone_there : Every (λ (label : Label). serves label.state ≡ true → label.flow ≡ flow → label.number ≡ next.number) (labels_of distant.port)
    alone_there = subst (λ (l : Linked). Every (λ (label : Label). serves label.state ≡ true → label.flow ≡ flow → label.number ≡ next.number) (labels_of l.port)) (sym distant_is)
        (next.alone next.label.linked next.label.shown)

    module _ (grant : Grant) (found : at grant_label grant.label near.port.grants ≡ Some grant) (label : Label) (held : at label_number grant.label (labels_of distant.port) ≡ Some label) where
      on : IsAgreedOn (end_of distant []) (end_of near []) label
      on = at_every label_number (IsAgreedOn (end_of distant []) (end_of near [])) grant.label (labels_of distant.port) label both.labels held

      number_is : label.number ≡ grant.label
      number_is = at_key label_number grant.label (labels_of distant.port) label held

      grant_is : on.grant ≡ grant
      grant_is = one_grant on.grant grant (sym on.granted ∙ (ap (λ (n : ℕ). at grant_label n near.port.grants) number_is ∙ found))

      its_number : passes grant ≡ true → grant.label ≡ next.number
      its_number t = sym number_is ∙ at_every label_number (λ (l : Label). serves l.state ≡ true → l.flow ≡ flow → l.number ≡ next.number) grant.label (labels_of distant.port) label alone_there held
          (ap serves on.offered) (sym on.same_flow ∙ (ap (λ (g : Grant). g.flow) grant_is ∙ one_flow grant.flow flow (and_second (is_by_controller grant.state) (same_flow grant.flow flow) t)))

    some_label : (grant : Grant) → at grant_label grant.label near.port.grants ≡ Some grant → is_some (at label_number grant.label (labels_of distant.port)) ≡ true → passes grant ≡ true → grant.label ≡ next.number
    some_label grant found some t = by (at label_number grant.label (labels_of distant.port)) refl some
      where
        by : (o : Option Label) → at label_number grant.label (labels_of distant.port) ≡ o → is_some o ≡ true → grant.label ≡ next.number
        by None f h = absurd (cc h)
        by (Some label) f h = its_number grant found label f t

    each_passes : Every (λ (grant : Grant). passes grant ≡ true → grant.label ≡ next.number) near.port.grants
    each_passes = every_map2 (λ (grant : Grant). at grant_label grant.label near.port.grants ≡ Some grant) (λ (grant : Grant). is_some (at label_number grant.label (labels_of distant.port)) ≡ true)
        (λ (grant : Grant). passes grant ≡ true → grant.label ≡ next.number) near.port.grants some_label
        (each_found grant_label near.port.grants agree_there.agreed.one_end.grants_apart) both.grants

    abbrev granted : Grant
    granted = next.grant.grant

    granted_there : at grant_label next.number near.port.grants ≡ Some granted
    granted_there = subst (λ (l : Linked). at grant_label next.number l.port.grants ≡ Some granted) (sym near_is) next.grant.held

    granted_passes : passes granted ≡ true
    granted_passes = ap (λ (s : GrantState). is_by_controller s && same_flow granted.flow flow) next.grant.is ∙ (ap (λ (f : FlowId). same_flow f flow) next.grant.of_flow ∙ same_itself flow)

    pub grant_found : grant_for next.grant.linked.port.grants flow ≡ Some granted
    grant_found = subst (λ (l : Linked). grant_for l.port.grants flow ≡ Some granted) near_is
        (find_held passes next.number near.port.grants granted each_passes granted_there granted_passes)

  -- *A label between two links* is joined to the label of the next
  module _ (at_it : LinkEnd) (number : ℕ) (flow : FlowId) (far : LinkEnd) (lives : 1 < flow_ttl flow) (held : HoldsLabel w at_it number flow None)
      (next : IsLabelled topology w at_it.node far (one_hop flow)) (alone : (c : Controller) → controller_at w at_it.node ≡ Some c → IsAloneAt c flow)
      (leads : LeadsTo topology (table_in at_it.node w) at_it.node (flow_destination flow) far) where
    here : At w at_it held.linked
    here = at_end w at_it held.linked held.shown

    abbrev c : Controller
    c = here.site.controller

    abbrev input : End
    input = label_end at_it.port number

    abbrev to : LinkEnd
    to = record { node = at_it.node; port = next.port }

    to_port : linked_at c next.port ≡ Some next.grant.linked
    to_port = sym (end_at w to here.site here.found) ∙ next.grant.shown

    setup_port : next.grant.linked.setup.port ≡ next.port
    setup_port = same_port next.grant.linked.setup.port next.port (at_key port_key next.port.0 c.ports next.grant.linked to_port)

    own_port : held.linked.setup.port ≡ at_it.port
    own_port = same_port held.linked.setup.port at_it.port (at_key port_key at_it.port.0 c.ports held.linked here.of_port)

    own_number : held.label.number ≡ number
    own_number = at_key label_number number (labels_of held.linked.port) held.label held.held

    abbrev join : Join
    join = record { input = input; port = next.grant.linked.setup.port; grant = next.grant.grant }

    leads_out : leads.port ≡ next.port
    leads_out =
        let led : LinkEnd = record { node = at_it.node; port = leads.port } in
        ap (λ (e : LinkEnd). e.port) (one_end led to (sym (peer_back topology is led far leads.linked).back ∙ (peer_back topology is to far next.linked).back))

    table_is : table_in at_it.node w ≡ c.table
    table_is = ap (λ (o : Option Site). option_map_or (λ (s : Site). s.controller.table) o []) here.found

    route : best c.table (flow_destination flow) ≡ Some (Via next.port)
    route = ap (λ (t : List routes.Route). best t (flow_destination flow)) (sym table_is) ∙ (leads.route ∙ ap (λ (p : PortNo). Some (Via p)) leads_out)

    leads_on : join_for c input held.label.flow ≡ Some join
    leads_on = ap (join_for c input) held.of_flow
        ∙ (ap (λ (o : Option Next). join_by c input (port_by o) (next_hop_of flow)) route
        ∙ (ap (join_by c input (Some next.port)) (next_is flow lives)
        ∙ (ap (join_through input (one_hop flow)) to_port
        ∙ ap (option_map (λ (g : Grant). record { input = input; port = next.grant.linked.setup.port; grant = g })) (grant_found at_it.node far (one_hop flow) next))))

    there : label_on c input ≡ Some held.label
    there = ap (option_and_then (λ (l : Linked). label_at l.port (number_of_channel input.channel))) here.of_port ∙ (ap (label_at held.linked.port) (number_again number) ∙ held.held)

    inside : IsNode topology at_it.node
    inside = (runs_have_nodes policy topology before b.addresses (front_run policy topology before _ b.run) at_it.node here.site here.found).is_node.number

    nothing_stands : c.desk.standing ≡ []
    nothing_stands = subst (λ (o : Option Site). option_map_or (λ (x : Controller). x.desk.standing) (option_map (λ (s : Site). s.controller) o) [] ≡ []) here.found
        (ease.peace.lasting.nothing_stands at_it.node inside)

    stays_so : (begun : Bool) (waiting : List _) → waiting ≡ [] → (if begun then stays_in c.table waiting (flow_destination held.label.flow) else true) ≡ true
    stays_so false waiting e = refl
    stays_so true waiting e = ap (λ xs. stays_in c.table xs (flow_destination held.label.flow)) e

    may : may_join c input held.label ≡ true
    may = all_true (is_offered held.label.state) _ _ _ _ (ap is_offered held.offered) (ap (λ (o : Option End). is_none o) held.joined)
        (none_on c.desk.standing input nothing_stands) (few_of c.desk.standing nothing_stands) (stays_so c.is_begun c.waiting (ease.steady at_it.node here.site here.found).none_waits)

    place : HasPlace (flat_map inputs_at c.ports) input
    place = subst (HasPlace (flat_map inputs_at c.ports)) (λ i. label_end (own_port i) (own_number i))
        (among_ports c.ports at_it.port.0 held.linked (label_end held.linked.setup.port held.label.number) here.of_port
        (among_labels held.linked.setup.port (labels_of held.linked.port) number held.label held.held))

    its_alone : IsAloneAt c flow
    its_alone = alone c (ap (option_map (λ (s : Site). s.controller)) here.found)

    contained : Contains (flat_map inputs_at c.ports) input
    contained = subst (λ (xs : List End). Contains xs input) (sym place.are) (Contains-append_right place.front (input ∷ place.rest) input (zero, omega arith, refl))

    no_other : IsForOne c join (flat_map inputs_at c.ports)
    no_other = every_by (λ (other : End). (label : Label) → label_on c other ≡ Some label → label.join ≡ None → FlowLeadsTo c label.flow join → other ≡ input) (flat_map inputs_at c.ports)
        (λ other among label found free leads_too. its_alone.alone other input label held.label among contained found there (same_flow_leads label leads_too) held.of_flow)
      where
        same_flow_leads : (label : Label) → FlowLeadsTo c label.flow join → label.flow ≡ flow
        same_flow_leads label l = next_was label.flow flow lives (l.hop ∙ ap Some (sym (one_flow join.grant.flow l.next l.as_flow) ∙ next.grant.of_flow))

    can : CanBeJoined c held.label join
    can = record {
      front = place.front;
      rest = place.rest;
      turn = place.are;
      there = there;
      may = may;
      leads_on = leads_on;
      alone = no_other;
      few = its_alone.few;
    }

    held_then : HoldsJoin u at_it.node held.label.flow join
    held_then = ticks_join_it whole policy topology before beat ease.peace b at_it.node here.site here.found held.label join can

    output_is : output_joined join ≡ label_end next.port next.number
    output_is = λ i. label_end (setup_port i) (at_key grant_label next.number next.grant.linked.port.grants next.grant.grant next.grant.held i)

    of_label_then : IsOfLabel held_then.site.controller input held.label.flow (output_joined join)
    of_label_then = of_label held_then.site.controller input held.label.flow (output_joined join) held_then.held.joined

    of_grant_then : IsOfGrant held_then.site.controller join.port join.grant.label join.grant.flow input
    of_grant_then = of_grant held_then.site.controller join.port join.grant.label join.grant.flow input held_then.held.lent

    pub joined_on_then : IsJoinedOn topology u at_it number flow far
    joined_on_then = record {
      port = next.port;
      linked = next.linked;
      next = next.number;
      label = record {
        linked = of_label_then.linked;
        shown = end_at u at_it held_then.site held_then.found ∙ of_label_then.of_port;
        label = of_label_then.label;
        held = ap (label_at of_label_then.linked.port) (sym (number_again number)) ∙ of_label_then.held;
        offered = of_label_then.offered;
        of_flow = of_label_then.of_flow ∙ held.of_flow;
        joined = of_label_then.joined ∙ ap Some output_is;
      };
      grant = record {
        linked = of_grant_then.linked;
        shown = end_at u to held_then.site held_then.found ∙ (ap (linked_at held_then.site.controller) (sym setup_port) ∙ of_grant_then.of_port);
        grant = of_grant_then.grant;
        held = ap (λ (n : ℕ). at grant_label n of_grant_then.linked.port.grants) (sym (at_key grant_label next.number next.grant.linked.port.grants next.grant.grant next.grant.held)) ∙ of_grant_then.held;
        of_flow = of_grant_then.of_flow ∙ next.grant.of_flow;
        is = of_grant_then.is;
        used = tt;
      };
    }

  -- *Along the way*
  along : (at_it : LinkEnd) (number : ℕ) (flow : FlowId) (ends : List LinkEnd) (destination : _) → destination ≡ flow_destination flow → length ends < flow_ttl flow
      → HoldsLabel w at_it number flow None → AreLabelled topology w at_it.node flow ends → IsAloneBetween w at_it flow ends → IsFreeWay topology w at_it.node flow ends
      → IsWayFrom topology (λ (n : NodeId). table_in n w) destination at_it.node ends → AreJoinedOn topology u at_it number flow ends
  unfolding joined_on_then
  along at_it number flow [] destination same lives held labelled alone free way = record {
    label = keep.last policy topology before beat ease b at_it number flow local held;
    route = ap (λ (t : List routes.Route). best t (flow_destination flow)) (table_ticks keep policy topology before beat ease b at_it.node) ∙ local;
  }
    where
      local : best (table_in at_it.node w) (flow_destination flow) ≡ Some Local
      local = ap (best (table_in at_it.node w)) (sym same) ∙ way
  along at_it number flow (far ∷ ends) destination same lives held labelled alone free way = (
    joined_on_then at_it number flow far (omega (arith, lives)) held labelled.0 alone leads,
    along far labelled.0.number (one_hop flow) ends destination (same ∙ sym (same_destination flow)) (hop_lives flow (length ends) lives) labelled.0.label labelled.1 free.1 free.2 way.1,
  )
    where
      leads : LeadsTo topology (table_in at_it.node w) at_it.node (flow_destination flow) far
      leads = subst (λ d. LeadsTo topology (table_in at_it.node w) at_it.node d far) same way.0

  -- *The whole way*, behind the ticks
  pub way_ticked : (node : NodeId) (flow : FlowId) (far : LinkEnd) (ends : List LinkEnd) → AreLabelled topology w node flow (far ∷ ends) → IsFreeWay topology w node flow (far ∷ ends)
      → IsWayFrom topology (λ (n : NodeId). table_in n w) (flow_destination flow) node (far ∷ ends) → length (far ∷ ends) < flow_ttl flow → BeginsAt w node flow
      → WayStands topology u node flow far ends
  way_ticked node flow far ends labelled free way lives begins = record {
    port = first.port;
    linked = first.linked;
    route = ap (λ (t : List routes.Route). best t (flow_destination flow)) (table_ticks keep policy topology before beat ease b node) ∙ (way.0.route ∙ ap (λ (p : PortNo). Some (Via p)) same_way);
    number = first.number;
    grant = keep.first policy topology before beat ease b (record { node = node; port = first.port }) first.number flow begins (omega (arith, lives)) first.grant;
    alone = keep.alone policy topology before beat ease b far first.number (one_hop flow) first.alone;
    joined = along far first.number (one_hop flow) ends (flow_destination flow) (sym (same_destination flow)) (hop_lives flow (length ends) lives) first.label labelled.1 free.1 free.2 way.1;
  }
    where
      first : IsLabelled topology w node far (one_hop flow)
      first = labelled.0

      same_way : way.0.port ≡ first.port
      same_way =
          let led : LinkEnd = record { node = node; port = way.0.port } in
          let its : LinkEnd = record { node = node; port = first.port } in
          ap (λ (e : LinkEnd). e.port) (one_end led its (sym (peer_back topology is led far way.0.linked).back ∙ (peer_back topology is its far first.linked).back))

pub ways_come_to_stand : HoldsInRuns IsWhole → EndsAtEaseAgree → KeepTicks → TicksBind → WaysStandInStretches → WaysComeToStand
ways_come_to_stand whole ends_agree keep ticks in_stretches policy topology before beat node flow far ends ease b labelled free way lives begins =
    settled_behind ticks in_stretches policy topology before beat node flow far ends ease b
    (way_ticked whole ends_agree keep policy topology before beat ease b node flow far ends labelled free way lives begins)
