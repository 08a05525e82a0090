-- joins that are tried leave each grant that is lent, and cells do, while the switch stays met

use Rattle.std.proofs.Common.{◌≡◌, ℕ, Bool, true, false, List, [], ◌∷◌, length, Option, None, Some, refl, sym, ◌∙◌, ap, subst, fold, if◌then◌else◌}
use Rattle.std.specs.Prelude.{◌&&◌, not, nat_lt, is_none, flat_map}
use Rattle.std.specs.Option.{option_map, option_and_then}
use Rattle.law_controller.specs.world_model.Words.{End, PortNo, Party, number_of_channel, label_number_of, Cell, Answer, Quiet, Send, Open, Said, Step, ticked, best, FlowId, next_hop_of, same_flow, flow_destination, MoveBranch, Journal, last_mark, payload_in, tested_by, nothing_taken, at, on_input, most_asked, Setup, home_of, Label, Offered, label_number, is_bound, Grant, ByController, ByInput, grant_label, grant_for, is_by_controller, Work, labels_of, label_at, Linked, port_key, default_channel, linked_at, route_stays, begins, with_work, cuts_default_of, cuts_default, cuts_gsmp, node_resets, node_restarts, at_port, join_through, join_by, port_by, join_for, is_offered, may_join, enters_grant, enters_label, joins, tries_label, label_on, tries_join, inputs_at, tries_joins, chains_with, ForGsmp, ForDefault, ForLabel, same_channel, label_taker, taker_at, port_on, on_link, reassembly_of, with_reassembly, takes_cell, sends_again, ticks_ports, ticks_by}
use Rattle.law_controller.specs.world_model.adjacency_table.declared.message.Answer.TheVariants.{Reset}
use Rattle.law_controller.specs.world_model.frame_model.Frame.{octets_of}
use Rattle.law_controller.specs.world_model.frame_model.Reassembly.{Taken, taken}
use Rattle.law_controller.specs.ordered_lists.Ordered.{Every}
use Rattle.law_controller.specs.world_model.port_model.Grants as grants
use Rattle.law_controller.specs.world_model.port_model.Joins as port_joins
use Rattle.law_controller.specs.law_port_facts.Port.{IsLabelEnd}
use Rattle.law_controller.proofs.law_port_facts.Keyed.{on_both, on_each, by_eq, apart_at, at_put_other}
use Rattle.law_controller.proofs.law_port_facts.Found.{find_passes}
use Rattle.law_controller.proofs.law_port_facts.Rules.{and_first}
use Rattle.law_controller.specs.world_model.Controller.{Acted, free_slots, ports_of}
use Rattle.law_controller.specs.world_model.Joins.{Join, output_joined}
use Rattle.law_controller.specs.world_model.Gsmp.{steps}
use Rattle.law_controller.specs.world_model.Cells.{Taker, opened_frame, ends_frame, cell_comes}
use Rattle.law_controller.specs.world_model.Ticks.{ticks}
use Rattle.law_controller.proofs.law_controller_facts.Moves.{HasPorts, Found, by_joining, by_lending, ages, found_at_own, found_port, moves_ports}
use Rattle.law_controller.proofs.law_controller_facts.Performing.{at_port_goes}
use Rattle.law_controller.proofs.law_controller_facts.Joining.{every_flat_map, each_there, image_is}
use Rattle.law_controller.proofs.law_controller_facts.Entering.{granted_end, OnPort, on_port, lends_labels, is_offered_by, by_controller, inputs_of_port, tries_join_goes}
use Rattle.law_controller.proofs.law_controller_facts.Events.{IsTaker, kept_ports, steps_goes, sends_again_goes, ticks_ports_goes}
use Rattle.law_controller.specs.Match.{lent_in, lent_at}
use Rattle.law_controller.proofs.Matched.{here_before, there_now}
use Rattle.law_lasting_joins.proofs.Lent.{Keeps, keeps_on, put_keeps, rule_keeps, worked_keeps, asks_keep, node_keeps, lent_by}
use Rattle.law_lasting_joins.proofs.Lasting.{Lasts, of_keeps, lasts_self, lasts_on, lasts_fold, same_lasts, steps_last, again_lasts, ports_last, Frees, frame_lasts}

module _ (setups : List Setup) (q m : ℕ) (Unled : End → Type 0) where
  abbrev K : Acted → Acted → Type 0
  K a b = Keeps setups q m Unled a b

  abbrev L : Acted → Acted → Type 0
  L a b = Lasts setups q m Unled a b

  self : (a : Acted) → L a a
  self a = lasts_self setups q m Unled a

  on : (a b c : Acted) → L a b → L b c → L a c
  on a b c f g = lasts_on setups q m Unled a b c f g

  -- a grant under which the controller sends is lent
  lends_keep : (a : Acted) (linked : Linked) (grant : Grant) (input : End) → Found setups a linked → at grant_label grant.label linked.port.grants ≡ Some grant → grant.state ≡ ByController → IsLabelEnd setups input → HasPorts setups a
      → K a (at_port a linked.setup.port (λ setup desk w. port_joins.lent w grant input))
  lends_keep a linked grant input found granted sending end h = rule_keeps setups q m Unled a linked.setup.port (λ setup desk w. port_joins.lent w grant input) h
      (λ other there. by_lending grant input (granted_of other there) sending end) put_back
    where
      same_of : (other : Linked) → linked_at a.controller linked.setup.port ≡ Some other → other ≡ linked
      same_of other there = (let both : Some other ≡ Some linked = sym there ∙ found in let is : other ≡ linked = cc in is)

      granted_of : (other : Linked) → linked_at a.controller linked.setup.port ≡ Some other → at grant_label grant.label other.port.grants ≡ Some grant
      granted_of other there = subst (λ (x : Linked). at grant_label grant.label x.port.grants ≡ Some grant) (sym (same_of other there)) granted

      put_back : (other : Linked) → linked_at a.controller linked.setup.port ≡ Some other → K a (with_work a other (port_joins.lent (begins a other) grant input))
      put_back other there =
          let after : Linked = record other { port = (port_joins.lent (begins a other) grant input).port } in
          let own : Found setups a other = found_at_own setups a other linked.setup.port there in
          by_eq grant.label m
          (λ same t. record {
            met = λ e. e;
            lent = λ e given u lent. by_eq (port_key other) q
                (λ is s. (let was : lent_at a.controller.ports q m ≡ None = ap (option_and_then (λ (x : Linked). lent_in x.port.grants m)) (here_before a.controller.ports other after own refl q is)
                ∙ (ap (λ (k : ℕ). lent_in other.port.grants k) (sym same) ∙ (ap (option_and_then lent_by) (granted_of other there) ∙ ap (λ s. grants.lent_input s) sending)) in
                absurd (cc (sym was ∙ lent))))
                (λ away s. ap (option_and_then (λ (x : Linked). lent_in x.port.grants m)) (there_now a.controller.ports other after own refl q away) ∙ lent);
            up = λ e. e;
            stays_met = λ e x. x;
          })
          (λ differs t. put_keeps setups q m Unled a (with_work a other (port_joins.lent (begins a other) grant input)) other after own refl
          (ap (option_and_then lent_by) (at_put_other grant_label (record grant { state = ByInput input }) m other.port.grants differs)) refl refl refl)

  pub joined_grants : (w : Work) (o : Option End) (l : Option Label) → (port_joins.joins_label w o l).port.grants ≡ w.port.grants
  joined_grants w o None = refl
  joined_grants w o (Some label) = on_both (λ (v : Work). v.port.grants ≡ w.port.grants) w.halted w _ refl refl

  -- *Joins*, of an offered label to a grant under which the controller sends
  joins_on : (a : Acted) (input : End) (label : Label) (linked : Linked) (grant : Grant) → IsLabelEnd setups input → label_on a.controller input ≡ Some label → label.state ≡ Offered
      → Found setups a linked → at grant_label grant.label linked.port.grants ≡ Some grant → grant.state ≡ ByController
      → HasPorts setups a → L a (joins a (Some (record { input = input; port = linked.setup.port; grant = grant })))
  joins_on a input label linked grant end on_it offered found granted sending h =
      let join : Join = record { input = input; port = linked.setup.port; grant = grant } in
      let output : IsLabelEnd setups (output_joined join) = granted_end setups a linked grant h found granted in
      let lends : Acted = enters_grant a join in
      let before : OnPort a.controller.ports input label = on_port a.controller input label on_it in
      let lent_ports : HasPorts setups lends = moves_ports setups (at_port_goes setups a linked.setup.port (λ setup desk w. port_joins.lent w grant input) h
      (λ other there. (let both : Some other ≡ Some linked = sym there ∙ found in let is : other ≡ linked = cc in
      by_lending grant input (subst (λ (x : Linked). at grant_label grant.label x.port.grants ≡ Some grant) (sym is) granted) sending end))) h in
      let labelled : Acted = enters_label lends join in
      of_keeps setups q m Unled a (joins a (Some join)) (keeps_on setups q m Unled a lends (joins a (Some join)) (lends_keep a linked grant input found granted sending end h)
      (keeps_on setups q m Unled lends labelled (joins a (Some join))
      (worked_keeps setups q m Unled lends input.port (λ setup desk w. port_joins.joined w (number_of_channel input.channel) (output_joined join)) lent_ports
      (λ other there. by_joining (number_of_channel input.channel) (output_joined join) output
      (λ held held_is. (let labels : labels_of other.port ≡ before.labels = image_is (λ (x : Linked). labels_of x.port) (linked_at lends.controller input.port) other before.labels (lends_labels setups a join input.port.0 ∙ before.there) there in
      let both : Some held ≡ Some label = sym held_is ∙ ap (at label_number (number_of_channel input.channel)) labels ∙ before.found in
      let is : held ≡ label = cc in
      subst (λ (x : Label). x.state ≡ Offered) (sym is) offered)))
      (λ other there. ap (λ (gs : List Grant). lent_in gs m) (joined_grants (begins lends other) (Some (output_joined join)) (label_at other.port (number_of_channel input.channel)))))
      (asks_keep setups q m Unled labelled (MoveBranch input (home_of input) (output_joined join)))))

  joins_by_on : (a : Acted) (input : End) (label : Label) → IsLabelEnd setups input → label_on a.controller input ≡ Some label → label.state ≡ Offered
      → (o : Option PortNo) (next : Option FlowId) → HasPorts setups a → L a (joins a (join_by a.controller input o next))
  joins_by_on a input label end on_it offered None next h = self a
  joins_by_on a input label end on_it offered (Some port) None h = self a
  joins_by_on a input label end on_it offered (Some port) (Some next) h = by_found (linked_at a.controller port) refl
    where
      by_grant : (linked : Linked) → linked_at a.controller port ≡ Some linked → (o : Option Grant) → grant_for linked.port.grants next ≡ o
          → L a (joins a (option_map (λ grant. record { input = input; port = linked.setup.port; grant = grant }) o))
      by_grant linked found None is = self a
      by_grant linked found (Some grant) is =
          let passes = find_passes (λ (g : Grant). is_by_controller g.state && same_flow g.flow next) linked.port.grants grant is in
          joins_on a input label linked grant end on_it offered (found_at_own setups a linked port found)
          (apart_at grant_label (λ (g : Grant). is_by_controller g.state && same_flow g.flow next) linked.port.grants grant (found_port setups a linked port (h) found).apart is)
          (by_controller grant.state (and_first (is_by_controller grant.state) (same_flow grant.flow next) passes)) h

      by_found : (o : Option Linked) → linked_at a.controller port ≡ o → L a (joins a (join_through input next o))
      by_found None found = self a
      by_found (Some linked) found = by_grant linked found (grant_for linked.port.grants next) refl

  tries_label_on : (a : Acted) (input : End) (o : Option Label) → IsLabelEnd setups input → label_on a.controller input ≡ o → HasPorts setups a → L a (tries_label a input o)
  tries_label_on a input None end on_it h = self a
  tries_label_on a input (Some label) end on_it h = by (may_join a.controller input label) refl
    where
      by : (t : Bool) → may_join a.controller input label ≡ t → L a (if t then joins a (join_for a.controller input label.flow) else a)
      by true is = joins_by_on a input label end on_it (is_offered_by label.state (and_first (is_offered label.state) (is_none label.join) (and_first (is_offered label.state && is_none label.join)
          (not (on_input a.controller.desk input) && (nat_lt (length a.controller.desk.standing) most_asked && route_stays a.controller (flow_destination label.flow))) is)))
          (port_by (best a.controller.table (flow_destination label.flow))) (next_hop_of label.flow) h
      by false is = self a

  -- *Each input in turn*
  pub tries_last : (inputs : List End) (a : Acted) → Every (IsLabelEnd setups) inputs → HasPorts setups a → L a (fold tries_join a inputs)
  tries_last [] a ends h = self a
  tries_last (input ∷ inputs) a ends h = on a (tries_join a input) (fold tries_join (tries_join a input) inputs) (tries_label_on a input (label_on a.controller input) ends.0 refl h)
      (tries_last inputs (tries_join a input) ends.1 (moves_ports setups (tries_join_goes setups a input h ends.0) h))

  pub tries_ends : (a : Acted) → HasPorts setups a → Every (IsLabelEnd setups) (flat_map inputs_at a.controller.ports)
  tries_ends a h = every_flat_map (λ (linked : Linked). Found setups a linked × _) (IsLabelEnd setups) inputs_at (λ linked p. inputs_of_port setups a linked h p.0 p.1) a.controller.ports (each_there setups a h)

  -- *A tick*
  abbrev pub mid : Acted → Step Party → Acted
  mid a step = ticks_ports (sends_again (steps a step))

  pub mid_ports : (a : Acted) → HasPorts setups a → HasPorts setups (mid a (ticked a.controller.adjacency))
  mid_ports a h =
      let first : HasPorts setups (steps a (ticked a.controller.adjacency)) = moves_ports setups (steps_goes setups a (ticked a.controller.adjacency) ages h) h in
      let second : HasPorts setups (sends_again (steps a (ticked a.controller.adjacency))) = moves_ports setups (sends_again_goes setups (steps a (ticked a.controller.adjacency)) first) first in
      moves_ports setups (ticks_ports_goes setups (sends_again (steps a (ticked a.controller.adjacency))) second) second

  pub mid_lasts : (a : Acted) → HasPorts setups a → L a (mid a (ticked a.controller.adjacency))
  mid_lasts a h =
      let step : Step Party = ticked a.controller.adjacency in
      let first : HasPorts setups (steps a step) = moves_ports setups (steps_goes setups a step ages h) h in
      on a (steps a step) (mid a step) (steps_last setups q m Unled a step)
      (on (steps a step) (sends_again (steps a step)) (mid a step) (again_lasts setups q m Unled (steps a step))
      (ports_last setups q m Unled (sends_again (steps a step)) (moves_ports setups (sends_again_goes setups (steps a step) first) first)))

  then_lasts : (a : Acted) → HasPorts setups a → L a (tries_joins (mid a (ticked a.controller.adjacency)))
  then_lasts a h = (let b : Acted = mid a (ticked a.controller.adjacency) in
      on a b (tries_joins b) (mid_lasts a h) (tries_last (flat_map inputs_at b.controller.ports) b (tries_ends b (mid_ports a h)) (mid_ports a h)))

  by_answer : (a : Acted) (answer : Answer (Said Party) Party) → HasPorts setups a → L a (ticks_by a (ticked a.controller.adjacency) answer)
  by_answer a Quiet h = then_lasts a h
  by_answer a (Send message) h = then_lasts a h
  by_answer a (Open message own) h = then_lasts a h
  by_answer a Reset h = of_keeps setups q m Unled a (node_resets a) (node_keeps setups q m Unled a)

  pub ticks_last : (a : Acted) → HasPorts setups a → L a (ticks a)
  ticks_last a h = by_answer a (ticked a.controller.adjacency).answer h

  -- *A cell*
  ends_last : (a : Acted) (taker : Taker) (ended : List Cell) → HasPorts setups a → a.controller.has_met ≡ true
      → ((first : Cell) (cells : List Cell) (payload : List ℕ) → ended ≡ first ∷ cells → payload_in (octets_of (first ∷ cells)) ≡ Some payload → Frees setups q m Unled a taker payload) → L a (ends_frame a taker ended)
  ends_last a taker [] h met frees = self a
  ends_last a taker (first ∷ cells) h met frees = by (payload_in (octets_of (first ∷ cells))) refl
    where
      by : (o : Option (List ℕ)) → payload_in (octets_of (first ∷ cells)) ≡ o
          → L a (opened_frame (record a { notes = (tested_by a.notes (first ∷ cells) o).notes }) taker (last_mark (first ∷ cells)) (tested_by a.notes (first ∷ cells) o).payload)
      by None e = same_lasts setups q m Unled a _ refl refl
      by (Some payload) e = (let b : Acted = record a { notes = (tested_by a.notes (first ∷ cells) (Some payload)).notes } in
          on a b _ (same_lasts setups q m Unled a b refl refl) (frame_lasts setups q m Unled b taker (last_mark (first ∷ cells)) payload (record { ports = h.ports; shaped = h.shaped }) met (frees first cells payload refl e)))

  -- what the channel makes of it leaves the ports
  pub gathered_lasts : (a : Acted) (notes : Journal) (taker : Taker) (r : _) → IsTaker setups a taker → L a (with_reassembly (record a { notes = notes }) taker r)
  gathered_lasts a notes ForGsmp r own = same_lasts setups q m Unled a _ refl refl
  gathered_lasts a notes (ForDefault linked) r own = of_keeps setups q m Unled a _ (put_keeps setups q m Unled a _ linked (record linked { reassembly = r }) own refl refl refl refl refl)
  gathered_lasts a notes (ForLabel linked label) r own = of_keeps setups q m Unled a _ (put_keeps setups q m Unled a _ linked (record linked { chains = chains_with linked.chains label.number r }) own refl refl refl refl refl)

  pub gathered_met : (a : Acted) (notes : Journal) (taker : Taker) (r : _) → (with_reassembly (record a { notes = notes }) taker r).controller.has_met ≡ a.controller.has_met
  gathered_met a notes ForGsmp r = refl
  gathered_met a notes (ForDefault linked) r = refl
  gathered_met a notes (ForLabel linked label) r = refl

  -- a cell has no taker, or one that is found: GSMP on its channel alone
  pub taken_by : (P : Acted → Type 0) (a : Acted) (cell : Cell) → P (takes_cell a cell None) → (same_channel cell.header.channel default_channel ≡ true → P (takes_cell a cell (Some ForGsmp)))
      → ((linked : Linked) → Found setups a linked → P (takes_cell a cell (Some (ForDefault linked))))
      → ((linked : Linked) (label : Label) → Found setups a linked → P (takes_cell a cell (Some (ForLabel linked label)))) → P (cell_comes a cell)
  taken_by P a cell nobody gsmp port named = on_each (λ (o : Option Taker). P (takes_cell a cell o)) (same_channel cell.header.channel default_channel) (Some ForGsmp)
      (taker_at (linked_at a.controller (port_on cell.header.channel)) (on_link cell.header.channel)) gsmp (λ t. by_found (linked_at a.controller (port_on cell.header.channel)) refl)
    where
      by_label : (linked : Linked) → Found setups a linked → (o : Option Label) → P (takes_cell a cell (label_taker linked o))
      by_label linked found None = nobody
      by_label linked found (Some label) = on_both (λ (o : Option Taker). P (takes_cell a cell o)) (is_bound label.state) (Some (ForLabel linked label)) None (named linked label found) nobody

      by_found : (o : Option Linked) → linked_at a.controller (port_on cell.header.channel) ≡ o → P (takes_cell a cell (taker_at o (on_link cell.header.channel)))
      by_found None found = nobody
      by_found (Some linked) found =
          let own : Found setups a linked = found_at_own setups a linked (port_on cell.header.channel) found in
          on_both (λ (o : Option Taker). P (takes_cell a cell o)) (same_channel (on_link cell.header.channel) default_channel) (Some (ForDefault linked))
          (label_taker linked (option_and_then (label_at linked.port) (label_number_of (on_link cell.header.channel)))) (port linked own)
          (by_label linked own (option_and_then (label_at linked.port) (label_number_of (on_link cell.header.channel))))

  pub cell_lasts : (a : Acted) (cell : Cell) → HasPorts setups a → a.controller.has_met ≡ true
      → (same_channel cell.header.channel default_channel ≡ true → (first : Cell) (cells : List Cell) (payload : List ℕ)
      → (taken a.notes (nat_lt 0 (free_slots a.controller)) a.controller.reassembly cell).ended ≡ first ∷ cells
      → payload_in (octets_of (first ∷ cells)) ≡ Some payload → Frees setups q m Unled a ForGsmp payload) → L a (cell_comes a cell)
  cell_lasts a cell h met frees = taken_by (L a) a cell (same_lasts setups q m Unled a _ refl refl)
      (λ here. by_taker_of ForGsmp tt (λ first cells payload e passes. frees here first cells payload e passes))
      (λ linked own. by_taker_of (ForDefault linked) own (λ first cells payload e passes. tt))
      (λ linked label own. by_taker_of (ForLabel linked label) own (λ first cells payload e passes. tt))
    where
      by_taker_of : (taker : Taker) → IsTaker setups a taker → ((first : Cell) (cells : List Cell) (payload : List ℕ) → (taken a.notes (nat_lt 0 (free_slots a.controller)) (reassembly_of a.controller taker) cell).ended ≡ first ∷ cells
          → payload_in (octets_of (first ∷ cells)) ≡ Some payload → Frees setups q m Unled a taker payload) → L a (takes_cell a cell (Some taker))
      by_taker_of taker own freeing =
          let t : Taken = taken a.notes (nat_lt 0 (free_slots a.controller)) (reassembly_of a.controller taker) cell in
          let b : Acted = with_reassembly (record a { notes = t.notes }) taker t.reassembly in
          on a b (takes_cell a cell (Some taker)) (gathered_lasts a t.notes taker t.reassembly own)
          (ends_last b taker t.ended (kept_ports setups a taker t own h) (gathered_met a t.notes taker t.reassembly ∙ met)
          (λ first cells payload e passes. gathered_frees taker t payload (freeing first cells payload e passes)))
        where
          gathered_frees : (k : Taker) (t : Taken) (payload : List ℕ) → Frees setups q m Unled a k payload → Frees setups q m Unled (with_reassembly (record a { notes = t.notes }) k t.reassembly) k payload
          gathered_frees ForGsmp t payload f = f
          gathered_frees (ForDefault linked) t payload f = f
          gathered_frees (ForLabel linked label) t payload f = f

  -- *A restart*
  cuts_last : (a : Acted) (port : PortNo) → L a (cuts_default a port)
  cuts_last a port = by (linked_at a.controller port) refl
    where
      by : (o : Option Linked) → linked_at a.controller port ≡ o → L a (cuts_default_of a o)
      by None found = self a
      by (Some linked) found = of_keeps setups q m Unled a _ (put_keeps setups q m Unled a _ linked (record linked { reassembly = nothing_taken }) (found_at_own setups a linked port found) refl refl refl refl refl)

  pub restarts_last : (a : Acted) → L a (node_restarts a)
  restarts_last a = (let b : Acted = node_resets a in
      on a b (node_restarts a) (of_keeps setups q m Unled a b (node_keeps setups q m Unled a))
      (on b (cuts_gsmp b) (node_restarts a) (same_lasts setups q m Unled b (cuts_gsmp b) refl refl)
      (lasts_fold setups q m Unled cuts_default cuts_last (ports_of a.controller) (cuts_gsmp b))))
