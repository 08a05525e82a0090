-- joins may be tried: a join is entered at its grant and at its label, and Move Branch is asked

use Rattle.std.proofs.Common.{◌≡◌, ◌≤◌, ℕ, true, List, [], ◌∷◌, length, Option, None, Some, refl, sym, ◌∙◌, ap, subst, arith}
use Rattle.std.specs.Prelude.{◌&&◌, not, is_none, nat_lt}
use Rattle.law_controller.specs.world_model.Words.{End, number_of_channel, flow_destination, MoveBranch, at, on_input, most_asked, Setup, home_of, Label, Offered, label_number, Grant, ByController, grant_label, Work, label_at, labels_of, Linked, linked_at, begins, with_work, performs_in_estab, join_for, is_offered, may_join, enters_grant, enters_label, joins, tries_label, label_on, tries_join, route_stays}
use Rattle.law_controller.specs.ordered_lists.Ordered.{Every}
use Rattle.law_controller.specs.world_model.port_model.Joins as port_joins
use Rattle.law_controller.specs.law_port_facts.Port.{IsLabelEnd, joins_label}
use Rattle.law_controller.proofs.law_port_facts.Keyed.{on_each}
use Rattle.law_controller.proofs.law_port_facts.Instances.{joined_gave, lent_gave}
use Rattle.law_controller.proofs.law_port_facts.Rules.{and_first}
use Rattle.law_controller.specs.world_model.Controller.{Acted}
use Rattle.law_controller.specs.world_model.Joins.{Join, output_joined}
use Rattle.law_controller.proofs.law_controller_facts.Moves.{Found, HasPorts}
use Rattle.law_controller.proofs.law_controller_facts.Joining.{image_is}
use Rattle.law_controller.proofs.law_controller_facts.Entering.{granted_end, is_offered_by, OnPort, on_port, lends_labels, IsFor, found_for}
use Rattle.law_controller.proofs.law_controller_facts.Laws.{has_ports}
use Rattle.law_controller.proofs.Holding.{Holds, lent_met}
use Rattle.law_controller.proofs.Entering.{IsLentNow, lent_at_port, enters_label_lent, joins_holds}
use Rattle.law_input_steps.specs.Asking.{CanEach, CanPerformInEstab, CanApply}
use Rattle.law_input_steps.specs.Ticks.{CanEnter, CanJoin, CanJoinLabel, CanTryJoin}
use Rattle.law_input_premises.specs.Read.{AreRead}
use Rattle.law_input_premises.proofs.Rows.{at_port_rows, tries_join_rows}
use Rattle.law_input_premises.proofs.Asking.{asks_can}
use Rattle.law_input_premises.proofs.Releasing.{read_on, parted_asks, none_asked}

-- *A label that may be joined* is offered
free_label : (a : Acted) (i : End) (label : Label) → may_join a.controller i label ≡ true → label.state ≡ Offered
free_label a i label may =
    let both : (is_offered label.state && is_none label.join) ≡ true = and_first (is_offered label.state && is_none label.join)
    (not (on_input a.controller.desk i) && (nat_lt (length a.controller.desk.standing) most_asked && route_stays a.controller (flow_destination label.flow))) may in
    is_offered_by label.state (and_first (is_offered label.state) (is_none label.join) both)

module _ (setups : List Setup) (input : End) (above : 1 ≤ input.port.0) where
  -- *It is entered*
  lent_can : (a : Acted) (join : Join) (o : Option Linked) → CanApply input a (λ setup desk w. port_joins.lent w join.grant join.input) o
  lent_can a join None = tt
  lent_can a join (Some linked) = record {
    instances = subst (λ (n : ℕ). a.numbers.instances ≤ n) (sym (lent_gave a.numbers.instances (begins a linked) join.grant join.input refl)) (omega arith);
    each = tt;
  }

  joined_can : (a : Acted) (n : ℕ) (output : End) (o : Option Linked) → CanApply input a (λ setup desk w. port_joins.joined w n output) o
  joined_can a n output None = tt
  joined_can a n output (Some linked) = (let w : Work = port_joins.joined (begins a linked) n output in record {
    instances = subst (λ (k : ℕ). a.numbers.instances ≤ k) (sym (joined_gave a.numbers.instances (begins a linked) n output refl)) (omega arith);
    each = none_asked (performs_in_estab linked.setup.port) (CanPerformInEstab input linked.setup.port) (with_work a linked w) w.actions (parted_asks (begins a linked) (Some output) (label_at linked.port n));
  })

  module _ (a : Acted) (i : End) (label : Label) (linked : Linked) (grant : Grant) (end : IsLabelEnd setups i) (on : label_on a.controller i ≡ Some label) (offered : label.state ≡ Offered)
      (own : Found setups a linked) (granted : at grant_label grant.label linked.port.grants ≡ Some grant) (sending : grant.state ≡ ByController) (h : Holds setups a)
      (reads : AreRead setups a.controller.desk.rows) where
    abbrev join : Join
    join = record { input = i; port = linked.setup.port; grant = grant }

    abbrev last : Acted
    last = enters_label (enters_grant a join) join

    has : HasPorts setups a
    has = has_ports setups a h.sound

    out : IsLabelEnd setups (output_joined join)
    out = granted_end setups a linked grant has own granted

    before : OnPort a.controller.ports i label
    before = on_port a.controller i label on

    first : IsLentNow setups a (enters_grant a join) i
    first = lent_at_port setups a linked grant i end own granted sending h

    second : IsLentNow setups (enters_grant a join) last i
    second = enters_label_lent setups (enters_grant a join) join end out
        (λ x found held is. (let labels : labels_of x.port ≡ before.labels = image_is (λ (y : Linked). labels_of y.port) (linked_at (enters_grant a join).controller i.port) x before.labels (lends_labels setups a join i.port.0 ∙ before.there) found in
        let both : Some held ≡ Some label = sym is ∙ ap (at label_number (number_of_channel i.channel)) labels ∙ before.found in
        let same : held ≡ label = cc in
        ap (λ (y : Label). y.state) same ∙ offered)) first.lent first.holds

    can_enter : CanEnter input a join
    can_enter = record {
      grant = lent_can a join (linked_at a.controller join.port);
      label = joined_can (enters_grant a join) (number_of_channel i.channel) (output_joined join) (linked_at (enters_grant a join).controller i.port);
      asks = asks_can setups input above last (MoveBranch i (home_of i) (output_joined join)) i refl (joins_label i (output_joined join) end out)
          (read_on setups (enters_grant a join) last (at_port_rows (enters_grant a join) i.port (λ setup desk w. port_joins.joined w (number_of_channel i.channel) (output_joined join)))
          (read_on setups a (enters_grant a join) (at_port_rows a join.port (λ setup desk w. port_joins.lent w grant i)) reads))
          (λ e. lent_met setups last i second.lent second.holds) second.holds (joins_holds setups a i label linked grant end on offered own granted sending h);
    }

  -- *It is tried*
  pub can_try : (a : Acted) (i : End) → IsLabelEnd setups i → Holds setups a → AreRead setups a.controller.desk.rows → CanTryJoin input a i
  can_try a i end h reads = by_label (label_on a.controller i) refl
    where
      by_join : (label : Label) → label_on a.controller i ≡ Some label → label.state ≡ Offered → (o : Option Join) → join_for a.controller i label.flow ≡ o → CanJoin input a o
      by_join label on offered None found = tt
      by_join label on offered (Some join) found =
          let f : IsFor setups a i join = found_for setups a i label.flow (has_ports setups a h.sound) join found in
          subst (CanEnter input a) (sym f.is) (can_enter a i label f.linked f.grant end on offered f.own f.granted f.sending h reads)

      by_label : (o : Option Label) → label_on a.controller i ≡ o → CanJoinLabel input a i o
      by_label None on = tt
      by_label (Some label) on = λ may. by_join label on (free_label a i label may) (join_for a.controller i label.flow) refl

  tried_holds : (a : Acted) (i : End) → IsLabelEnd setups i → Holds setups a → Holds setups (tries_join a i)
  tried_holds a i end h = by_label (label_on a.controller i) refl
    where
      by_join : (label : Label) → label_on a.controller i ≡ Some label → label.state ≡ Offered → (o : Option Join) → join_for a.controller i label.flow ≡ o → Holds setups (joins a o)
      by_join label on offered None found = h
      by_join label on offered (Some join) found =
          let f : IsFor setups a i join = found_for setups a i label.flow (has_ports setups a h.sound) join found in
          subst (λ (x : Join). Holds setups (joins a (Some x))) (sym f.is) (joins_holds setups a i label f.linked f.grant end on offered f.own f.granted f.sending h)

      by_label : (o : Option Label) → label_on a.controller i ≡ o → Holds setups (tries_label a i o)
      by_label None on = h
      by_label (Some label) on = on_each (Holds setups) (may_join a.controller i label) (joins a (join_for a.controller i label.flow)) a
          (λ may. by_join label on (free_label a i label may) (join_for a.controller i label.flow) refl) (λ t. h)

  pub each_tried : (inputs : List End) (a : Acted) → Every (IsLabelEnd setups) inputs → Holds setups a → AreRead setups a.controller.desk.rows → CanEach tries_join (CanTryJoin input) a inputs
  each_tried [] a ends h reads = tt
  each_tried (i ∷ inputs) a ends h reads = (can_try a i ends.0 h reads, each_tried inputs (tries_join a i) ends.1 (tried_holds a i ends.0 h) (read_on setups a (tries_join a i) (tries_join_rows a i) reads))
