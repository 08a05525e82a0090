-- the joins that a tick enters: each to an output that nobody else is joined to, and that stays lent while the switch is met

use Rattle.std.proofs.Common.{◌≡◌, ℕ, Bool, true, false, List, [], ◌∷◌, length, Option, None, Some, refl, sym, ◌∙◌, ap, subst, fold, if◌then◌else◌}
use Rattle.std.specs.Prelude.{◌&&◌, not, nat_lt, is_none}
use Rattle.std.specs.Option.{option_map, option_map_or, option_and_then}
use Rattle.law_controller.specs.world_model.Words.{End, PortNo, number_of_channel, best, Next, Local, Via, FlowId, next_hop_of, same_flow, flow_destination, MoveBranch, at, put, on_input, most_asked, Setup, home_of, label_end, Label, Offered, label_number, Grant, ByController, ByInput, grant_label, grant_for, is_by_controller, Session, label_at, labels_of, Linked, port_key, linked_at, begins, works, route_stays, join_through, join_by, port_by, join_for, is_offered, may_join, enters_grant, enters_label, joins, label_on, tries_label, tries_join}
use Rattle.law_controller.specs.ordered_lists.Ordered.{Every}
use Rattle.law_controller.specs.world_model.port_model.Grants as grants
use Rattle.law_controller.specs.world_model.port_model.Joins as port_joins
use Rattle.law_controller.specs.law_port_facts.Port.{IsLabelEnd, IsGrant}
use Rattle.law_controller.proofs.law_port_facts.Keyed.{at_key, at_every, apart_at, at_put_same}
use Rattle.law_controller.proofs.law_port_facts.Found.{find_passes}
use Rattle.law_controller.proofs.law_port_facts.Rules.{and_first, and_second}
use Rattle.law_controller.specs.world_model.Controller.{Acted}
use Rattle.law_controller.specs.world_model.Joins.{Join, output_joined}
use Rattle.law_controller.specs.law_controller_facts.Sound.{IsSound, IsShutLinked}
use Rattle.law_controller.proofs.law_controller_facts.Laws.{has_ports, moves_sound}
use Rattle.law_controller.proofs.law_controller_facts.Moves.{HasPorts, Found, by_joining, by_lending, found_setup, found_at_own, found_port, moves_ports}
use Rattle.law_controller.proofs.law_controller_facts.Performing.{at_port_goes}
use Rattle.law_controller.proofs.law_controller_facts.Joining.{image_is}
use Rattle.law_controller.proofs.law_controller_facts.Entering.{OnPort, on_port, lends_labels, is_offered_by, by_controller, tries_join_goes}
use Rattle.law_controller.specs.Match.{lent_in, lent_at}
use Rattle.law_controller.proofs.Releasing.{number_at}
use Rattle.law_controller.proofs.Matched.{here_now}
use Rattle.law_quiet_controllers.specs.Quiet.{Enters, here, later, entered, entered_for}
use Rattle.law_lasting_joins.proofs.Lent.{Keeps, keeps_on, worked_keeps, asks_keep}
use Rattle.law_lasting_joins.proofs.Lasting.{Lasts}
use Rattle.law_lasting_joins.proofs.Tries.{tries_last, joined_grants}

abbrev Anyone : End → Type 0
Anyone input = Unit {0}

-- *A join that is entered*: of an offered label of the input, to the first grant of its flow one hop further, by the route of
-- the table that is held, under which the controller sends
pub record IsEntering (a : Acted) (input : End) (join : Join) : Type 0 where
  pub input_is : join.input ≡ input
  pub label : Label
  pub on : label_on a.controller input ≡ Some label
  pub offered : label.state ≡ Offered
  pub linked : Linked
  pub found : linked_at a.controller join.port ≡ Some linked
  pub own : linked.setup.port ≡ join.port
  pub granted : at grant_label join.grant.label linked.port.grants ≡ Some join.grant
  pub sending : join.grant.state ≡ ByController
  pub route : best a.controller.table (flow_destination label.flow) ≡ Some (Via join.port)
  pub next : FlowId
  pub next_is : next_hop_of label.flow ≡ Some next
  pub same : same_flow join.grant.flow next ≡ true

module _ (setups : List Setup) where
  entering : (a : Acted) (input : End) (join : Join) → HasPorts setups a → entered a.controller input ≡ Some join → IsEntering a input join
  entering a input join h e = by_label (label_on a.controller input) refl e
    where
      by_through : (label : Label) → label_on a.controller input ≡ Some label → label.state ≡ Offered → (port : PortNo) → best a.controller.table (flow_destination label.flow) ≡ Some (Via port) → (next : FlowId) → next_hop_of label.flow ≡ Some next
          → (o : Option Linked) → linked_at a.controller port ≡ o → join_through input next o ≡ Some join → IsEntering a input join
      by_through label on offered port route next next_is None found k = absurd (cc k)
      by_through label on offered port route next next_is (Some linked) found k = by_grant (grant_for linked.port.grants next) refl k
        where
          own : Found setups a linked
          own = found_at_own setups a linked port found

          same_port : linked.setup.port ≡ port
          same_port = ap (λ (n : ℕ). record { 0 = n }) (key_of found)
            where
              key_of : linked_at a.controller port ≡ Some linked → linked.setup.port.0 ≡ port.0
              key_of f = at_key port_key port.0 a.controller.ports linked f

          by_grant : (g : Option Grant) → grant_for linked.port.grants next ≡ g → option_map (λ grant. record { input = input; port = linked.setup.port; grant = grant }) g ≡ Some join → IsEntering a input join
          by_grant None is l = absurd (cc l)
          by_grant (Some grant) is l =
              let passes = find_passes (λ (g : Grant). is_by_controller g.state && same_flow g.flow next) linked.port.grants grant is in
              let made : Join = record { input = input; port = linked.setup.port; grant = grant } in
              let one : made ≡ join = cc l in
              subst (IsEntering a input) one (record {
                input_is = refl;
                label = label;
                on = on;
                offered = offered;
                linked = linked;
                found = own;
                own = refl;
                granted = apart_at grant_label (λ (g : Grant). is_by_controller g.state && same_flow g.flow next) linked.port.grants grant (found_port setups a linked port h found).apart is;
                sending = by_controller grant.state (and_first (is_by_controller grant.state) (same_flow grant.flow next) passes);
                route = route ∙ ap (λ (p : PortNo). Some (Via p)) (sym same_port);
                next = next;
                next_is = next_is;
                same = and_second (is_by_controller grant.state) (same_flow grant.flow next) passes;
              })

      by_next : (label : Label) → label_on a.controller input ≡ Some label → label.state ≡ Offered → (port : PortNo) → best a.controller.table (flow_destination label.flow) ≡ Some (Via port) → (o : Option FlowId) → next_hop_of label.flow ≡ o
          → join_by a.controller input (Some port) o ≡ Some join → IsEntering a input join
      by_next label on offered port route None is k = absurd (cc k)
      by_next label on offered port route (Some next) is k = by_through label on offered port route next is (linked_at a.controller port) refl k

      by_route : (label : Label) → label_on a.controller input ≡ Some label → label.state ≡ Offered → (o : Option Next) → best a.controller.table (flow_destination label.flow) ≡ o → join_by a.controller input (port_by o) (next_hop_of label.flow) ≡ Some join → IsEntering a input join
      by_route label on offered None is k = absurd (cc k)
      by_route label on offered (Some Local) is k = absurd (cc k)
      by_route label on offered (Some (Via port)) is k = by_next label on offered port is (next_hop_of label.flow) refl k

      by_label : (o : Option Label) → label_on a.controller input ≡ o → entered_for a.controller input o ≡ Some join → IsEntering a input join
      by_label None on k = absurd (cc k)
      by_label (Some label) on k = by_test (may_join a.controller input label) refl k
        where
          by_test : (t : Bool) → may_join a.controller input label ≡ t → (if t then join_for a.controller input label.flow else None) ≡ Some join → IsEntering a input join
          by_test true may l = by_route label on (is_offered_by label.state (and_first (is_offered label.state) (is_none label.join) (and_first (is_offered label.state && is_none label.join)
              (not (on_input a.controller.desk input) && (nat_lt (length a.controller.desk.standing) most_asked && route_stays a.controller (flow_destination label.flow))) may)))
              (best a.controller.table (flow_destination label.flow)) refl l
          by_test false may l = absurd (cc l)

  -- *Its output is nobody's* before it
  abbrev Lent : Acted → (output input : End) → Type 0
  Lent a output input = lent_at a.controller.ports output.port.0 (number_of_channel output.channel) ≡ Some input

  to_output : (join : Join) (output : End) → output_joined join ≡ output → (join.port.0 ≡ output.port.0) × (join.grant.label ≡ number_of_channel output.channel)
  to_output join output e = (ap (λ (x : End). x.port.0) e, number_at join.port join.grant.label output e)

  pub not_lent : (a : Acted) (input output other : End) (join : Join) → IsEntering a input join → output_joined join ≡ output → Lent a output other → ⊥
  not_lent a input output other join is out lent =
      let to = to_output join output out in
      let none : lent_at a.controller.ports join.port.0 join.grant.label ≡ None = ap (option_and_then (λ (x : Linked). lent_in x.port.grants join.grant.label)) is.found
      ∙ (ap (option_and_then (λ (g : Grant). grants.lent_input g.state)) is.granted ∙ ap (λ s. grants.lent_input s) is.sending) in
      let same : lent_at a.controller.ports output.port.0 (number_of_channel output.channel) ≡ None = (λ i. lent_at a.controller.ports (sym to.0 i) (sym to.1 i)) ∙ none in
      absurd (cc (sym same ∙ lent))

  -- before the switch is met none is entered
  unmet_none : (a : Acted) (input : End) → IsSound setups a.controller → a.controller.has_met ≡ false → label_on a.controller input ≡ None
  unmet_none a input sound unmet = by (linked_at a.controller input.port) refl
    where
      by : (o : Option Linked) → linked_at a.controller input.port ≡ o → option_and_then (λ (linked : Linked). label_at linked.port (number_of_channel input.channel)) o ≡ None
      by None found = refl
      by (Some linked) found =
          let shut : IsShutLinked linked = at_every port_key IsShutLinked input.port.0 a.controller.ports linked (sound.unmet unmet) found in
          ap (λ (o : Option Session). at label_number (number_of_channel input.channel) (option_map_or (λ (s : Session). s.labels) o [])) shut.session

  pub enters_met : (input output : End) (inputs : List End) (a : Acted) → IsSound setups a.controller → a.controller.has_met ≡ false → Enters input output a inputs → ⊥
  enters_met input output _ a sound unmet (here _ inputs join e out) = cc (sym (ap (λ (o : Option Label). entered_for a.controller input o) (unmet_none a input sound unmet)) ∙ e)
  enters_met input output _ a sound unmet (later _ tried inputs rest) =
      let eq : tries_join a tried ≡ a = ap (λ (o : Option Label). tries_label a tried o) (unmet_none a tried sound unmet) in
      enters_met input output inputs (tries_join a tried) (subst (λ (x : Acted). IsSound setups x.controller) (sym eq) sound) (subst (λ (x : Acted). x.controller.has_met ≡ false) (sym eq) unmet) rest

  -- *It is lent* behind it
  lends_lent : (a : Acted) (input : End) (join : Join) → IsEntering a input join → lent_at (enters_grant a join).controller.ports join.port.0 join.grant.label ≡ Some join.input
  lends_lent a input join is = subst (λ (o : Option Linked). lent_at (works a (λ setup desk w. port_joins.lent w join.grant join.input) o).controller.ports join.port.0 join.grant.label ≡ Some join.input) (sym is.found) there
    where
      after : Linked
      after = record is.linked { port = (port_joins.lent (begins a is.linked) join.grant join.input).port }

      own : Found setups a is.linked
      own = found_at_own setups a is.linked join.port is.found

      there : lent_at (put port_key after a.controller.ports) join.port.0 join.grant.label ≡ Some join.input
      there = ap (option_and_then (λ (x : Linked). lent_in x.port.grants join.grant.label)) (here_now a.controller.ports is.linked after own refl join.port.0 (ap (λ (p : PortNo). p.0) is.own))
          ∙ ap (option_and_then (λ (g : Grant). grants.lent_input g.state)) (at_put_same grant_label (record join.grant { state = ByInput join.input }) is.linked.port.grants join.grant is.granted)

  then_keeps : (a : Acted) (input : End) (join : Join) → HasPorts setups a → IsLabelEnd setups input → IsEntering a input join → (q m : ℕ) → Keeps setups q m Anyone (enters_grant a join) (joins a (Some join))
  then_keeps a input join h end is q m =
      let lends : Acted = enters_grant a join in
      let labelled : Acted = enters_label lends join in
      let before : OnPort a.controller.ports input is.label = on_port a.controller input is.label is.on in
      let output : IsLabelEnd setups (output_joined join) = record {
        setup = is.linked.setup;
        number = join.grant.label;
        linked = found_setup setups a is.linked is.linked.setup.port h (found_at_own setups a is.linked join.port is.found);
        in_range = (at_every grant_label (IsGrant setups is.linked.setup) join.grant.label is.linked.port.grants join.grant (found_port setups a is.linked join.port h is.found).grants is.granted).in_range;
        is = ap (λ (p : PortNo). label_end p join.grant.label) (sym is.own);
      } in
      let lent_ports : HasPorts setups lends = moves_ports setups (at_port_goes setups a join.port (λ setup desk w. port_joins.lent w join.grant join.input) h
      (λ other there. (let both : Some other ≡ Some is.linked = sym there ∙ is.found in let one : other ≡ is.linked = cc in
      by_lending join.grant join.input (subst (λ (x : Linked). at grant_label join.grant.label x.port.grants ≡ Some join.grant) (sym one) is.granted) is.sending (subst (IsLabelEnd setups) (sym is.input_is) end)))) h in
      keeps_on setups q m Anyone lends labelled (joins a (Some join))
      (worked_keeps setups q m Anyone lends join.input.port (λ setup desk w. port_joins.joined w (number_of_channel join.input.channel) (output_joined join)) lent_ports
      (λ other there. by_joining (number_of_channel join.input.channel) (output_joined join) output (held other there before))
      (λ other there. ap (λ (gs : List Grant). lent_in gs m) (joined_grants setups q m Anyone (begins lends other) (Some (output_joined join)) (label_at other.port (number_of_channel join.input.channel)))))
      (asks_keep setups q m Anyone labelled (MoveBranch join.input (home_of join.input) (output_joined join)))
    where
      held : (other : Linked) → linked_at (enters_grant a join).controller join.input.port ≡ Some other → OnPort a.controller.ports input is.label → (x : Label) → label_at other.port (number_of_channel join.input.channel) ≡ Some x → x.state ≡ Offered
      held other there before x x_is =
          let at_input : OnPort a.controller.ports join.input is.label = subst (λ (e : End). OnPort a.controller.ports e is.label) (sym is.input_is) before in
          let labels : labels_of other.port ≡ at_input.labels = image_is (λ (l : Linked). labels_of l.port) (linked_at (enters_grant a join).controller join.input.port) other at_input.labels (lends_labels setups a join join.input.port.0 ∙ at_input.there) there in
          let both : Some x ≡ Some is.label = sym x_is ∙ ap (at label_number (number_of_channel join.input.channel)) labels ∙ at_input.found in
          let one : x ≡ is.label = cc in
          subst (λ (l : Label). l.state ≡ Offered) (sym one) is.offered

  -- the one that was tried is entered
  tried_is : (a : Acted) (input : End) (join : Join) → entered a.controller input ≡ Some join → tries_join a input ≡ joins a (Some join)
  tried_is a input join e = by_label (label_on a.controller input) e
    where
      by_label : (o : Option Label) → entered_for a.controller input o ≡ Some join → tries_label a input o ≡ joins a (Some join)
      by_label None k = absurd (cc k)
      by_label (Some label) k = by_test (may_join a.controller input label) k
        where
          by_test : (t : Bool) → (if t then join_for a.controller input label.flow else None) ≡ Some join → (if t then joins a (join_for a.controller input label.flow) else a) ≡ joins a (Some join)
          by_test true l = ap (joins a) l
          by_test false l = absurd (cc l)

  pub tried_lent : (a : Acted) (input output : End) (join : Join) → HasPorts setups a → IsLabelEnd setups input → entered a.controller input ≡ Some join → output_joined join ≡ output → (tries_join a input).controller.has_met ≡ true → Lent (tries_join a input) output input
  tried_lent a input output join h end e out met =
      let is : IsEntering a input join = entering a input join h e in
      let to = to_output join output out in
      let k : Keeps setups join.port.0 join.grant.label Anyone (enters_grant a join) (joins a (Some join)) = then_keeps a input join h end is join.port.0 join.grant.label in
      let there : lent_at (joins a (Some join)).controller.ports join.port.0 join.grant.label ≡ Some join.input = k.lent (subst (λ (x : Acted). x.controller.has_met ≡ true) (tried_is a input join e) met) join.input tt (lends_lent a input join is) in
      subst (λ (x : Acted). Lent x output input) (sym (tried_is a input join e))
      ((λ i. lent_at (joins a (Some join)).controller.ports (sym to.0 i) (sym to.1 i)) ∙ there ∙ ap (λ (x : End). Some x) is.input_is)

  -- *Each input in turn*
  met_or_not : (b : Bool) → {P : Type 0} → (b ≡ true → P) → (b ≡ false → P) → P
  met_or_not true first second = first refl
  met_or_not false first second = second refl

  next_sound : (a : Acted) (tried : End) → IsSound setups a.controller → IsLabelEnd setups tried → IsSound setups (tries_join a tried).controller
  next_sound a tried sound end = moves_sound setups a (tries_join a tried) (tries_join_goes setups a tried (has_ports setups a sound) end) sound

  -- to an output that is lent none is entered
  pub lent_enters : (input output other : End) (inputs : List End) (a : Acted) → IsSound setups a.controller → Every (IsLabelEnd setups) inputs → Lent a output other → Enters input output a inputs → ⊥
  lent_enters input output other _ a sound ends lent (here _ inputs join e out) = not_lent a input output other join (entering a input join (has_ports setups a sound) e) out lent
  lent_enters input output other _ a sound ends lent (later _ tried inputs rest) =
      let next : Acted = tries_join a tried in
      let k : IsSound setups next.controller = next_sound a tried sound ends.0 in
      met_or_not next.controller.has_met
      (λ met. lent_enters input output other inputs next k ends.1 ((tries_last setups output.port.0 (number_of_channel output.channel) Anyone (tried ∷ []) a (ends.0, tt) (has_ports setups a sound)).lent met other tt lent) rest)
      (λ unmet. enters_met input output inputs next k unmet rest)

  -- no two are entered to one output
  pub enters_once : (one other output : End) (inputs : List End) (a : Acted) → IsSound setups a.controller → Every (IsLabelEnd setups) inputs → Enters one output a inputs → Enters other output a inputs → one ≡ other
  enters_once one other output _ a sound ends (here _ inputs join e out) (here _ _ join2 e2 out2) = refl
  enters_once one other output _ a sound ends (here _ inputs join e out) (later _ _ _ rest) =
      let next : Acted = tries_join a one in
      let k : IsSound setups next.controller = next_sound a one sound ends.0 in
      absurd (met_or_not next.controller.has_met
      (λ met. lent_enters other output one inputs next k ends.1 (tried_lent a one output join (has_ports setups a sound) ends.0 e out met) rest)
      (λ unmet. enters_met other output inputs next k unmet rest))
  enters_once one other output _ a sound ends (later _ _ inputs rest) (here _ _ join e out) =
      let next : Acted = tries_join a other in
      let k : IsSound setups next.controller = next_sound a other sound ends.0 in
      absurd (met_or_not next.controller.has_met
      (λ met. lent_enters one output other inputs next k ends.1 (tried_lent a other output join (has_ports setups a sound) ends.0 e out met) rest)
      (λ unmet. enters_met one output inputs next k unmet rest))
  enters_once one other output _ a sound ends (later _ tried inputs first) (later _ _ _ second) = enters_once one other output inputs (tries_join a tried) (next_sound a tried sound ends.0) ends.1 first second

  -- each is lent behind all of them, while the switch is met
  pub enters_lent : (input output : End) (inputs : List End) (a : Acted) → IsSound setups a.controller → Every (IsLabelEnd setups) inputs → (fold tries_join a inputs).controller.has_met ≡ true → Enters input output a inputs → Lent (fold tries_join a inputs) output input
  enters_lent input output _ a sound ends met (here _ inputs join e out) =
      let next : Acted = tries_join a input in
      let k : IsSound setups next.controller = next_sound a input sound ends.0 in
      let rest : Lasts setups output.port.0 (number_of_channel output.channel) Anyone next (fold tries_join next inputs) = tries_last setups output.port.0 (number_of_channel output.channel) Anyone inputs next ends.1 (has_ports setups next k) in
      rest.lent met input tt (tried_lent a input output join (has_ports setups a sound) ends.0 e out (rest.met met))
  enters_lent input output _ a sound ends met (later _ tried inputs rest) = enters_lent input output inputs (tries_join a tried) (next_sound a tried sound ends.0) ends.1 met rest
