-- joins that are released, tried and taken back, and changes of routes, keep labels bound, joins led and chains of bound
-- labels

use Rattle.std.proofs.Common.{◌≡◌, ℕ, Bool, true, false, List, [], ◌∷◌, ◌++◌, length, Option, None, Some, refl, sym, ◌∙◌, ap, subst, if◌then◌else◌, fold}
use Rattle.std.specs.Prelude.{◌+◌, ◌&&◌, not, is_none, nat_lt, flat_map}
use Rattle.std.specs.Option.{option_map, option_and_then}
use Rattle.std.specs.List.{list_any, filter_map, cons_option}
use Rattle.law_controller.specs.world_model.Words.{NodeId, PortNo, End, number_of_channel, FlowId, next_hop_of, flow_destination, same_flow, best, changed, RouteChange, Next, Local, Via, Request, MoveBranch, Part, Routes, entered, in_order, on_input, most_asked, Setup, home_of, Label, Offered, label_number, Grant, grant_for, is_by_controller, label_at, labels_of, halts_if_spent, Linked, port_key, linked_at, begins, join_to, joins_at, joins_of, end_le, join_of, parts, gives_back, releases_join, releases_input, released_inputs, resets_spent, releases, port_by, join_through, join_by, join_for, is_offered, may_join, enters_grant, enters_label, joins, tries_label, label_on, tries_join, inputs_at, tries_joins, same_next, differs, route_stays, is_changed, changed_joins, takes_join_back, begins_change, takes_change, may_take, takes_each, takes_changes, change_comes, last_bound, Record}
use Rattle.law_controller.specs.world_model.ipv4_forward.declared.table.Route.{Route}
use Rattle.law_controller.specs.ordered_lists.Ordered.{Every}
use Rattle.law_controller.proofs.ordered_lists.Every.{every_map, every_map2, every_left, every_right}
use Rattle.law_controller.specs.world_model.port_model.Grants.{lent_input}
use Rattle.law_controller.specs.world_model.port_model.Joins as port_joins
use Rattle.law_controller.specs.law_port_facts.Port.{setup_port, IsLabelEnd, IsPort}
use Rattle.law_controller.proofs.law_port_facts.Keyed.{on_both, on_each, at_key, at_every}
use Rattle.law_controller.proofs.law_port_facts.Found.{find_passes}
use Rattle.law_controller.proofs.law_port_facts.Rules.{and_first, and_second}
use Rattle.law_controller.specs.world_model.Controller.{Acted, note, ports_of}
use Rattle.law_controller.specs.world_model.Joins.{Join, output_joined}
use Rattle.law_controller.specs.law_controller_facts.Sound.{IsSound}
use Rattle.law_controller.proofs.law_controller_facts.Moves.{Found, HasPorts, found_setup}
use Rattle.law_controller.proofs.law_controller_facts.Joining.{every_flat_map, each_there}
use Rattle.law_controller.proofs.law_controller_facts.Entering.{is_offered_by, inputs_of_port}
use Rattle.law_controller.proofs.law_controller_facts.Laws.{has_ports}
use Rattle.law_controller.proofs.law_controller_facts.Each.{tries_join_keeps}
use Rattle.law_controller.proofs.Lists.{any_each}
use Rattle.law_controller.proofs.Ordering.{same_number}
use Rattle.law_controller_bindings.specs.Bindings.{site, IsBoundLast}
use Rattle.law_controller_bindings.proofs.Lasts.{stays_so}
use Rattle.law_controller_bindings.proofs.Working.{Lends, joins_body, lent_body, given_back_body, closes_body, joins_mild, lent_mild, given_back_mild, closes_mild}
use Rattle.law_controller_bindings.proofs.Anew.{Fit}
use Rattle.law_controller_bindings.proofs.Tied.{Led, Tied, Settled, NoCut, Goes, calmly, rests, goes_then, goes_fold, goes_settled, settled_fit, note_goes, asks_goes, takes_back_goes}
use Rattle.law_controller_bindings.proofs.Performing.{Lent, Any, at_port_mild}
use Rattle.law_controller_bindings.proofs.Flows.{one_flow, next_destination, same_via}

-- *Every join*, by its grant
unentered : {A : Type 0} (P : A → Type 0) (le : A → A → Bool) (y : A) (xs : List A) → Every P (entered le y xs) → P y × Every P xs
unentered P le y [] h = (h.0, tt)
unentered {A} P le y (x ∷ xs) h = by_test (le y x) (λ k. unentered P le y xs k) h
  where
    by_test : (b : Bool) → (Every P (entered le y xs) → P y × Every P xs) → Every P (if b then y ∷ x ∷ xs else x ∷ entered le y xs) → P y × Every P (x ∷ xs)
    by_test true rest k = k
    by_test false rest k = (let r = rest k.1 in (r.0, (k.0, r.1)))

unordered : {A : Type 0} (P : A → Type 0) (le : A → A → Bool) (xs : List A) → Every P (in_order le xs) → Every P xs
unordered P le [] h = tt
unordered P le (x ∷ xs) h = (let r = unentered P le x (in_order le xs) h in (r.0, unordered P le xs r.1))

unflat : {A B : Type 0} (P : B → Type 0) (f : A → List B) (xs : List A) → Every P (flat_map f xs) → Every (λ x. Every P (f x)) xs
unflat P f [] h = tt
unflat P f (x ∷ xs) h = (every_left P (f x) (flat_map f xs) h, unflat P f xs (every_right P (f x) (flat_map f xs) h))

unfiltered : {A B : Type 0} (P : B → Type 0) (f : A → Option B) (xs : List A) → Every P (filter_map f xs) → Every (λ x. (y : B) → f x ≡ Some y → P y) xs
unfiltered P f [] h = tt
unfiltered {A} {B} P f (x ∷ xs) h = by_answer (f x) refl (λ k. unfiltered P f xs k) h
  where
    by_answer : (o : Option B) → f x ≡ o → (Every P (filter_map f xs) → Every (λ z. (y : B) → f z ≡ Some y → P y) xs) → Every P (cons_option o (filter_map f xs)) → ((y : B) → f x ≡ Some y → P y) × Every (λ z. (y : B) → f z ≡ Some y → P y) xs
    by_answer None e rest k = (λ y is. absurd (cc (sym e ∙ is)), rest k)
    by_answer (Some b) e rest k = (λ y is. (let same : b ≡ y = (let both : Some b ≡ Some y = sym e ∙ is in cc) in subst P same k.0), rest k.1)

pub by_grants : (P : Join → Type 0) (ports : List Linked) → Every P (in_order (λ (x : Join) (y : Join). end_le x.input y.input) (flat_map joins_at ports))
    → Every (λ (x : Linked). Every (λ (g : Grant). (input : End) → lent_input g.state ≡ Some input → P (record { input = input; port = x.setup.port; grant = g })) x.port.grants) ports
by_grants P ports h = every_map (λ (x : Linked). Every P (joins_at x)) (λ (x : Linked). Every (λ (g : Grant). (input : End) → lent_input g.state ≡ Some input → P (record { input = input; port = x.setup.port; grant = g })) x.port.grants) ports
    (λ x all. every_map (λ (g : Grant). (j : Join) → join_to x.setup.port g ≡ Some j → P j) (λ (g : Grant). (input : End) → lent_input g.state ≡ Some input → P (record { input = input; port = x.setup.port; grant = g })) x.port.grants
    (λ g each input is. each (record { input = input; port = x.setup.port; grant = g }) (ap (option_map (λ (i : End). record { input = i; port = x.setup.port; grant = g })) is)) (unfiltered P (join_to x.setup.port) x.port.grants all))
    (unflat P joins_at ports (unordered P (λ (x : Join) (y : Join). end_le x.input y.input) (flat_map joins_at ports) h))

module _ (node : NodeId) (earlier began : List Record) where
  abbrev Holds : Acted → Type 0
  Holds = Settled node earlier began

  -- *A join is released*
  parts_settled : (a : Acted) (input : End) → Holds a → Holds (parts a input)
  parts_settled a input h =
      let item = Part a.controller.node input.port (number_of_channel input.channel) in
      let b : Acted = note a item in
      let n : ℕ = number_of_channel input.channel in
      let k : Holds b = goes_settled node earlier began a b (note_goes a item (λ end label. refl) (λ m own. own)) h in
      at_port_mild node earlier began b input.port (λ setup desk w. port_joins.parted w n) k
      (λ linked found body. joins_body linked.setup (earlier ++ k.new) (Lent node (earlier ++ k.new) b linked Any) linked.chains Any (begins b linked) None n (label_at linked.port n) refl body)
      (λ linked. joins_mild (begins b linked) None (label_at linked.port n) tt)

  gives_back_settled : (a : Acted) (join : Join) → Holds a → Holds (gives_back a join)
  gives_back_settled a join h = at_port_mild node earlier began a join.port (λ setup desk w. port_joins.given_back w join.grant) h
      (λ linked found body. given_back_body linked.setup (earlier ++ h.new) (Lent node (earlier ++ h.new) a linked Any) linked.chains Any (begins a linked) join.grant body)
      (λ linked. given_back_mild (begins a linked) join.grant tt)

  pub releases_input_settled : (a : Acted) (input : End) → Holds a → Holds (releases_input a input)
  releases_input_settled a input h = by_join (join_of a.controller input)
    where
      by_join : (o : Option Join) → Holds (releases_join a o)
      by_join None = h
      by_join (Some join) = gives_back_settled (parts a join.input) join (parts_settled a join.input h)

  pub spent_settled : (a : Acted) (port : PortNo) → Holds a → Holds (resets_spent a port)
  spent_settled a port h = at_port_mild node earlier began a port (λ setup desk w. halts_if_spent w) h
      (λ linked found body. closes_body linked.setup (earlier ++ h.new) (Lent node (earlier ++ h.new) a linked Any) linked.chains Any (begins a linked) body)
      (λ linked. closes_mild (begins a linked) tt)

  fold_settled : {A : Type 0} (f : Acted → A → Acted) → ((a : Acted) (x : A) → Holds a → Holds (f a x)) → (xs : List A) (a : Acted) → Holds a → Holds (fold f a xs)
  fold_settled f each [] a h = h
  fold_settled f each (x ∷ xs) a h = fold_settled f each xs (f a x) (each a x h)

  pub releases_settled : (a : Acted) (request : Request) → Holds a → Holds (releases a request)
  releases_settled a request h =
      let released : Acted = fold releases_input a (released_inputs a.controller request) in
      fold_settled resets_spent spent_settled (ports_of released.controller) released (fold_settled releases_input releases_input_settled (released_inputs a.controller request) a h)

  -- *A join is entered*, of an input whose flow goes on by its port
  joins_settled : (a : Acted) (join : Join) (h : Holds a) → Led node (earlier ++ h.new) a.controller.table join.port join.input join.grant.flow → Holds (joins a (Some join))
  joins_settled a join h led =
      let lends : Acted = enters_grant a join in
      let n : ℕ = number_of_channel join.input.channel in
      let lent : Holds lends = at_port_mild node earlier began a join.port (λ setup desk w. port_joins.lent w join.grant join.input) h
      (λ linked found body. (let port : join.port ≡ linked.setup.port = same_number join.port linked.setup.port (sym (at_key port_key join.port.0 a.controller.ports linked found)) in
      lent_body linked.setup (earlier ++ h.new) (Lent node (earlier ++ h.new) a linked Any) linked.chains Any (begins a linked) join.grant join.input
      (subst (λ (p : PortNo). Led node (earlier ++ h.new) a.controller.table p join.input join.grant.flow) port led, λ same. tt) body))
      (λ linked. lent_mild (begins a linked) join.grant join.input tt) in
      let both : Holds (enters_label lends join) = at_port_mild node earlier began lends join.input.port (λ setup desk w. port_joins.joined w n (output_joined join)) lent
      (λ linked found body. joins_body linked.setup (earlier ++ lent.new) (Lent node (earlier ++ lent.new) lends linked Any) linked.chains Any (begins lends linked) (Some (output_joined join)) n (label_at linked.port n) refl body)
      (λ linked. joins_mild (begins lends linked) (Some (output_joined join)) (label_at linked.port n) tt) in
      goes_settled node earlier began (enters_label lends join) (joins a (Some join)) (asks_goes (enters_label lends join) (MoveBranch join.input (home_of join.input) (output_joined join)) (settled_fit node earlier began (enters_label lends join) both)) both

  module _ (setups : List Setup) (nodes : Every (λ (setup : Setup). setup.node ≡ node) setups) where
    -- the flow of an input's label, offered
    label_bound : (records : List Record) (a : Acted) (input : End) (label : Label) → IsSound setups a.controller → label_on a.controller input ≡ Some label → label.state ≡ Offered → Tied node records a.controller.table NoCut a.controller.ports
        → last_bound records (site node input.port) (number_of_channel input.channel) ≡ Some label.flow
    label_bound records a input label s on offered h = by_found (linked_at a.controller input.port) refl on
      where
        by_found : (o : Option Linked) → linked_at a.controller input.port ≡ o → option_and_then (λ (linked : Linked). label_at linked.port (number_of_channel input.channel)) o ≡ Some label
            → last_bound records (site node input.port) (number_of_channel input.channel) ≡ Some label.flow
        by_found None found e = absurd (cc e)
        by_found (Some linked) found e =
            let has : HasPorts setups a = has_ports setups a s in
            let of_node : linked.setup.node ≡ node = at_every setup_port (λ (setup : Setup). setup.node ≡ node) input.port.0 setups linked.setup nodes (found_setup setups a linked input.port has found) in
            let port : linked.setup.port ≡ input.port = same_number linked.setup.port input.port (at_key port_key input.port.0 a.controller.ports linked found) in
            let number : label.number ≡ number_of_channel input.channel = at_key label_number (number_of_channel input.channel) (labels_of linked.port) label e in
            let flows : Every (IsBoundLast linked.setup.node records linked.setup.port) (labels_of linked.port) =
            at_every port_key (λ (x : Linked). Every (IsBoundLast x.setup.node records x.setup.port) (labels_of x.port)) input.port.0 a.controller.ports linked h.flows found in
            let bound : last_bound records (site linked.setup.node linked.setup.port) label.number ≡ Some label.flow =
            at_every label_number (IsBoundLast linked.setup.node records linked.setup.port) (number_of_channel input.channel) (labels_of linked.port) label flows e (λ wiring. absurd (cc (sym offered ∙ wiring))) in
            ap (λ (m : NodeId). last_bound records (site m input.port) (number_of_channel input.channel)) (sym of_node) ∙ ap (λ (p : PortNo). last_bound records (site linked.setup.node p) (number_of_channel input.channel)) (sym port)
            ∙ ap (λ (k : ℕ). last_bound records (site linked.setup.node linked.setup.port) k) (sym number) ∙ bound

    joins_for_settled : (a : Acted) (input : End) (label : Label) → IsSound setups a.controller → label_on a.controller input ≡ Some label → label.state ≡ Offered → Holds a → Holds (joins a (join_for a.controller input label.flow))
    joins_for_settled a input label s on offered h = by_route (best a.controller.table (flow_destination label.flow)) (next_hop_of label.flow) refl refl
      where
        by_grant : (port : PortNo) (next : FlowId) (linked : Linked) → best a.controller.table (flow_destination label.flow) ≡ Some (Via port) → next_hop_of label.flow ≡ Some next → linked_at a.controller port ≡ Some linked
            → (o : Option Grant) → grant_for linked.port.grants next ≡ o → Holds (joins a (option_map (λ grant. record { input = input; port = linked.setup.port; grant = grant }) o))
        by_grant port next linked route hop found None is = h
        by_grant port next linked route hop found (Some grant) is =
            let passes = find_passes (λ (g : Grant). is_by_controller g.state && same_flow g.flow next) linked.port.grants grant is in
            let same : grant.flow ≡ next = one_flow grant.flow next (and_second (is_by_controller grant.state) (same_flow grant.flow next) passes) in
            let at : linked.setup.port ≡ port = same_number linked.setup.port port (at_key port_key port.0 a.controller.ports linked found) in
            joins_settled a (record { input = input; port = linked.setup.port; grant = grant }) h
            (record { from = label.flow; bound = label_bound (earlier ++ h.new) a input label s on offered h.tied; route = route ∙ ap (λ (p : PortNo). Some (Via p)) (sym at); next = hop ∙ ap (λ (f : FlowId). Some f) (sym same) })

        by_found : (port : PortNo) (next : FlowId) → best a.controller.table (flow_destination label.flow) ≡ Some (Via port) → next_hop_of label.flow ≡ Some next → (o : Option Linked) → linked_at a.controller port ≡ o → Holds (joins a (join_through input next o))
        by_found port next route hop None found = h
        by_found port next route hop (Some linked) found = by_grant port next linked route hop found (grant_for linked.port.grants next) refl

        by_route : (o : Option Next) (next : Option FlowId) → best a.controller.table (flow_destination label.flow) ≡ o → next_hop_of label.flow ≡ next → Holds (joins a (join_by a.controller input (port_by o) next))
        by_route None next route hop = h
        by_route (Some Local) next route hop = h
        by_route (Some (Via port)) None route hop = h
        by_route (Some (Via port)) (Some next) route hop = by_found port next route hop (linked_at a.controller port) refl

    pub tries_settled : (a : Acted) (input : End) → IsSound setups a.controller → Holds a → Holds (tries_join a input)
    tries_settled a input s h = by_label (label_on a.controller input) refl
      where
        by_label : (o : Option Label) → label_on a.controller input ≡ o → Holds (tries_label a input o)
        by_label None on = h
        by_label (Some label) on = on_each Holds (may_join a.controller input label) (joins a (join_for a.controller input label.flow)) a
            (λ may. joins_for_settled a input label s on (is_offered_by label.state (and_first (is_offered label.state) (is_none label.join) (and_first (is_offered label.state && is_none label.join)
            (not (on_input a.controller.desk input) && (nat_lt (length a.controller.desk.standing) most_asked && route_stays a.controller (flow_destination label.flow))) may))) h)
            (λ t. h)

    tries_each : (inputs : List End) (a : Acted) → Every (IsLabelEnd setups) inputs → IsSound setups a.controller → Holds a → Holds (fold tries_join a inputs)
    tries_each [] a ends s h = h
    tries_each (input ∷ inputs) a ends s h = tries_each inputs (tries_join a input) ends.1 (tries_join_keeps setups a s input ends.0).sound (tries_settled a input s h)

    pub tries_joins_settled : (a : Acted) → IsSound setups a.controller → Holds a → Holds (tries_joins a)
    tries_joins_settled a s h = (let has : HasPorts setups a = has_ports setups a s in
        tries_each (flat_map inputs_at a.controller.ports) a (every_flat_map (λ (linked : Linked). Found setups a linked × IsPort setups linked.setup linked.port) (IsLabelEnd setups) inputs_at
        (λ linked p. inputs_of_port setups a linked has p.0 p.1) a.controller.ports (each_there setups a has)) s h)

  -- *Changes of routes*
  pub begins_change_goes : (a : Acted) (change : RouteChange) → Fit a.controller.ports → Goes a (begins_change a change)
  begins_change_goes a change fit =
      let begun : Acted = record a { controller = record a.controller { is_begun = true } } in
      on_both (Goes a) a.controller.is_begun a (fold takes_join_back begun (changed_joins a.controller change)) (rests a)
      (goes_then a begun (fold takes_join_back begun (changed_joins a.controller change)) (calmly refl refl refl (stays_so a.notes.records))
      (goes_fold takes_join_back (λ b join k. takes_back_goes b join.input (output_joined join) k) (changed_joins a.controller change) begun fit))

  stays_false : (b : Bool) → not b ≡ false → b ≡ true
  stays_false true e = refl
  stays_false false e = absurd (cc e)

  pub takes_change_settled : (a : Acted) (change : RouteChange) (later : List RouteChange) → may_take a.controller change ≡ true → Holds a → Holds (takes_change a change later)
  takes_change_settled a change later may h =
      let table : List Route = changed a.controller.table change in
      let records : List Record = earlier ++ h.new in
      let taken : Acted = record a { controller = record a.controller { table = table; waiting = later; is_begun = false; changes = a.controller.changes + 1 } } in
      let item = Routes a.controller.node (a.controller.changes + 1) in
      goes_settled node earlier began taken (note taken item) (note_goes taken item (λ end label. refl) (λ m own. own)) (record {
        new = h.new;
        is = h.is;
        tied = record {
          apart = h.tied.apart;
          flows = h.tied.flows;
          leads = every_map2 (λ (x : Linked). Every (Lends (Led node records a.controller.table x.setup.port)) x.port.grants) (λ (x : Linked). Every (IsUnchanged x) x.port.grants) (λ (x : Linked). Every (Lends (Led node records table x.setup.port)) x.port.grants) a.controller.ports
              (λ x leads same. every_map2 (Lends (Led node records a.controller.table x.setup.port)) (IsUnchanged x) (Lends (Led node records table x.setup.port)) x.port.grants
              (λ g was unchanged input is. still records x.setup.port input g.flow (was input is) (unchanged input is)) leads same) h.tied.leads
              (by_grants (λ (join : Join). is_changed a.controller.table change join ≡ false) a.controller.ports (any_each (is_changed a.controller.table change) (joins_of a.controller) none));
          chains = h.tied.chains;
        };
      })
    where
      IsUnchanged : Linked → Grant → Type 0
      IsUnchanged x g = (input : End) → lent_input g.state ≡ Some input → is_changed a.controller.table change (record { input = input; port = x.setup.port; grant = g }) ≡ false

      not_true : (b : Bool) → not b ≡ true → b ≡ false
      not_true true e = absurd (cc e)
      not_true false e = refl

      none : list_any (is_changed a.controller.table change) (joins_of a.controller) ≡ false
      none = not_true (list_any (is_changed a.controller.table change) (joins_of a.controller)) (and_second a.controller.has_met (not (list_any (is_changed a.controller.table change) (joins_of a.controller))) may)

      still : (records : List Record) (port : PortNo) (input : End) (flow : FlowId) → Led node records a.controller.table port input flow → differs a.controller.table change (flow_destination flow) ≡ false → Led node records (changed a.controller.table change) port input flow
      still records port input flow led same =
          let here : differs a.controller.table change (flow_destination led.from) ≡ false = ap (differs a.controller.table change) (sym (next_destination led.from flow led.next)) ∙ same in
          let alike : same_next (best a.controller.table (flow_destination led.from)) (best (changed a.controller.table change) (flow_destination led.from)) ≡ true = stays_false _ here in
          record {
            from = led.from;
            bound = led.bound;
            route = same_via port (best (changed a.controller.table change) (flow_destination led.from)) (ap (λ (o : Option Next). same_next o (best (changed a.controller.table change) (flow_destination led.from))) (sym led.route) ∙ alike);
            next = led.next;
          }

  takes_each_settled : (changes : List RouteChange) (a : Acted) → Holds a → Holds (takes_each a changes)
  takes_each_settled [] a h = h
  takes_each_settled (change ∷ later) a h =
      let begun : Acted = begins_change a change in
      let k : Holds begun = goes_settled node earlier began a begun (begins_change_goes a change (settled_fit node earlier began a h)) h in
      on_each Holds (may_take begun.controller change) (takes_each (takes_change begun change later) later) begun
      (λ may. takes_each_settled later (takes_change begun change later) (takes_change_settled begun change later may k)) (λ t. k)

  pub takes_changes_settled : (a : Acted) → Holds a → Holds (takes_changes a)
  takes_changes_settled a h = on_both Holds a.controller.has_met (takes_each a a.controller.waiting) a (takes_each_settled a.controller.waiting a h) h

  pub change_comes_settled : (a : Acted) (change : RouteChange) → Holds a → Holds (change_comes a change)
  change_comes_settled a change h = (let b : Acted = record a { controller = record a.controller { waiting = a.controller.waiting ++ change ∷ [] } } in
      takes_changes_settled b (goes_settled node earlier began a b (calmly refl refl refl (stays_so a.notes.records)) h))
