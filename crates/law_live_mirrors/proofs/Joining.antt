-- a join is tried: it is entered at the grant and at the label, and Move Branch is asked

use Rattle.std.proofs.Common.{◌≡◌, ◌≢◌, ℕ, ◌<◌, Bool, true, false, true≢false, not, List, [], ◌∷◌, length, Option, None, Some, refl, sym, ◌∙◌, ap, subst, inl}
use Rattle.std.specs.Prelude.{◌&&◌, is_none, nat_lt}
use Rattle.std.specs.Option.{option_map, option_map_or, option_or}
use Rattle.world_model.specs.Words.{End, PortNo, FlowId, same_flow, best, flow_destination, next_hop_of, label_number_of, number_of_channel, same_end, is_delete_all, on_input, Request, MoveBranch, at, put, Desk, most_asked, label_end, home_of, Label, LabelState, Wiring, Offered, Recalled, Wired, label_number, label_at, labels_of, Grant, GrantState, Idle, ByController, ByInput, Leaving, grant_label, grant_for, is_by_controller, Session, Work, lent, joins_label, Controller, Linked, linked_at, port_key, begins, works, works_as, asks, enters_grant, enters_label, is_offered, may_join, joins, join_by, join_for, join_through, label_on, port_by, route_stays, tries_label, tries_join, with_desk, last_transaction, is_estab}
use Rattle.world_model.specs.Controller.{Acted}
use Rattle.world_model.specs.Joins.{Join, output_joined}
use Rattle.world_model.specs.port_model.Desk.{asked}
use Rattle.world_model.specs.port_model.Joins.{joined}
use Rattle.law_port_facts.specs.ordered_lists.Ordered.{Every, InOrder}
use Rattle.law_port_facts.proofs.Keyed.{on_each, at_key, at_every, at_put_other, apart_at}
use Rattle.law_port_facts.proofs.Found.{find_passes}
use Rattle.law_input_steps.specs.Asking.{concerns}
use Rattle.law_input_steps.proofs.Ends.{same_is, same_self}
use Rattle.law_live_mirrors.specs.Mirrors.{MayFollow, is_labels, led_in, led_by, is_led_out, other_end, IsHeld}
use Rattle.law_live_mirrors.specs.Standing.{LeadAlike, MayAsk}
use Rattle.law_live_mirrors.specs.Asking.{IsPlain, AsksMirrored, CanAsk, MayTry, TriesKeepMirrors}
use Rattle.law_live_mirrors.proofs.Ports.{leads_by, is_out, alike_itself, alike_then, put_alike, one_channel, labels_channel, end_is, regranted}
use Rattle.law_live_mirrors.proofs.Nodes.{SameNode, asks_same, Worked, works_plain, turn_none, turn_asks, at_port_is}
use Rattle.law_live_mirrors.proofs.Free.{free_asks, off_free}

-- *What a label has that may be joined*
record IsJoinable (desk : Desk) (input : End) (label : Label) : Type 0 where
  offered : label.state ≡ Offered
  unjoined : label.join ≡ None
  off : on_input desk input ≡ false

module _ (c : Controller) (input : End) (label : Label) where
  both : (x y : Bool) → (x && y) ≡ true → (x ≡ true) × (y ≡ true)
  both true y e = (refl, e)
  both false y e = absurd (cc e)

  joinable : may_join c input label ≡ true → IsJoinable c.desk input label
  joinable may =
      let first = both (is_offered label.state && is_none label.join) (not (on_input c.desk input) && (nat_lt (length c.desk.standing) most_asked && route_stays c (flow_destination label.flow))) may in
      let label_is = both (is_offered label.state) (is_none label.join) first.0 in
      let others = both (not (on_input c.desk input)) (nat_lt (length c.desk.standing) most_asked && route_stays c (flow_destination label.flow)) first.1 in
      record { offered = state_is label.state label_is.0; unjoined = join_is label.join label_is.1; off = off_is (on_input c.desk input) others.0 }
    where
      state_is : (state : LabelState) → is_offered state ≡ true → state ≡ Offered
      state_is Wiring e = absurd (cc e)
      state_is Offered e = refl
      state_is (Recalled last acknowledged) e = absurd (cc e)
      state_is Wired e = absurd (cc e)

      join_is : (o : Option End) → is_none o ≡ true → o ≡ None
      join_is None e = refl
      join_is (Some output) e = absurd (cc e)

      off_is : (b : Bool) → not b ≡ true → b ≡ false
      off_is true e = absurd (cc e)
      off_is false e = refl

-- *It is tried*: what is asked then empties no port
abbrev pub EmptiesNone : Request → Type 0
EmptiesNone request = (port : PortNo) → is_delete_all port request ≡ false

pub record Tried (a b : Acted) : Type 0 where
  pub requests : List Request
  pub asks : AsksMirrored a b requests
  pub moves : Every EmptiesNone requests

module _ (a : Acted) (input : End) (may : MayTry a input) where
  nothing_tried : Tried a a
  nothing_tried = record { requests = []; asks = turn_none a a a.controller.ports refl refl (λ e. alike_itself a.controller.ports e); moves = tt }

  -- *The grant and the label of a join*
  module _ (label : Label) (is : label_on a.controller input ≡ Some label) (fit : IsJoinable a.controller.desk input label)
      (g : Linked) (there : at port_key g.setup.port.0 a.controller.ports ≡ Some g) (next : FlowId) (grant : Grant) (first : grant_for g.port.grants next ≡ Some grant) where
    abbrev join : Join
    join = record { input = input; port = g.setup.port; grant = grant }

    abbrev output : End
    output = output_joined join

    abbrev request : Request
    request = MoveBranch input (home_of input) output

    abbrev lent_grant : Grant
    lent_grant = record grant { state = ByInput input }

    granted : at grant_label grant.label g.port.grants ≡ Some grant
    granted = apart_at grant_label (λ (x : Grant). is_by_controller x.state && same_flow x.flow next) g.port.grants grant
        (at_every port_key (λ (linked : Linked). InOrder (λ (x y : Grant). grant_label x ≢ grant_label y) linked.port.grants) g.setup.port.0 a.controller.ports g may.grants there) first

    led_out : is_led_out grant.state ≡ true
    led_out = by grant.state (find_passes (λ (x : Grant). is_by_controller x.state && same_flow x.flow next) g.port.grants grant first)
      where
        by : (state : GrantState) → (is_by_controller state && same_flow grant.flow next) ≡ true → is_led_out state ≡ true
        by Idle e = absurd (cc e)
        by ByController e = refl
        by (ByInput i) e = absurd (cc e)
        by (Leaving i owed) e = absurd (cc e)

    abbrev lending : Work
    lending = lent (begins a g) grant input

    abbrev entered : Acted
    entered = enters_grant a join

    lent_worked : Worked a entered g lending.port []
    lent_worked = subst (λ (x : Acted). Worked a x g lending.port []) (sym (at_port_is a g.setup.port (λ setup desk w. lent w grant input) g there)) (works_plain a g lending tt)

    grant_alike : (e : End) → LeadAlike a.controller.ports entered.controller.ports e
    grant_alike e = subst (λ (ports : List Linked). LeadAlike a.controller.ports ports e) (sym lent_worked.ports)
        (put_alike a.controller.ports g there lending.port e (λ same labels. refl)
        (λ same. regranted grant lent_grant g.port.grants (label_number_of (other_end e).channel) granted (λ own. sym led_out)))

    -- the label is joined, if it is held
    record IsEntered (after : Acted) : Type 0 where
      desk : after.controller.desk ≡ entered.controller.desk
      adjacency : after.controller.adjacency ≡ entered.controller.adjacency
      alike : (e : End) → same_end e input ≡ false → LeadAlike entered.controller.ports after.controller.ports e

    entered_itself : IsEntered entered
    entered_itself = record { desk = refl; adjacency = refl; alike = λ e away. alike_itself entered.controller.ports e }

    module _ (l : Linked) (found : linked_at entered.controller input.port ≡ Some l) where
      own_place : l.setup.port.0 ≡ input.port.0
      own_place = at_key port_key input.port.0 entered.controller.ports l found

      l_there : at port_key l.setup.port.0 entered.controller.ports ≡ Some l
      l_there = subst (λ n. at port_key n entered.controller.ports ≡ Some l) (sym own_place) found

      abbrev joining : Option Label → Work
      joining o = joins_label (begins entered l) (Some output) o

      -- another input has another label
      other_number : (e : End) → e.port.0 ≡ l.setup.port.0 → is_labels e ≡ true → same_end e input ≡ false → number_of_channel input.channel ≢ number_of_channel e.channel
      other_number e same labels away equal = true≢false (sym (subst (λ (x : End). same_end x input ≡ true) (sym (end_is e input (same ∙ own_place)
          (one_channel e.channel input.channel (labels_channel e labels) (labels_channel input may.labels) (sym equal)))) (same_self input)) ∙ away)

      put_other : (x : Label) (k : ℕ) (o : Option Session) → x.number ≢ k → at label_number k (option_map_or (λ (s : Session). s.labels) (option_map (λ (s : Session). record s { labels = put label_number x s.labels }) o) [])
          ≡ at label_number k (option_map_or (λ (s : Session). s.labels) o [])
      put_other x k None differ = refl
      put_other x k (Some s) differ = at_put_other label_number x k s.labels differ

      joined_port : (o : Option Label) → label_at l.port (number_of_channel input.channel) ≡ o → (e : End) → e.port.0 ≡ l.setup.port.0 → is_labels e ≡ true → same_end e input ≡ false
          → leads_by e (joining o).port ≡ leads_by e l.port
      joined_port None held e same labels away = refl
      joined_port (Some x) held e same labels away = ap (led_by e) (put_other (record x { join = Some output }) (number_of_channel e.channel) l.port.session
          (λ equal. other_number e same labels away (sym (at_key label_number (number_of_channel input.channel) (labels_of l.port) x held) ∙ equal)))

      joined_plain : (o : Option Label) → (joining o).actions ≡ []
      joined_plain None = refl
      joined_plain (Some x) = refl

      joined_grants : (o : Option Label) → (joining o).port.grants ≡ l.port.grants
      joined_grants None = refl
      joined_grants (Some x) = refl

      is_entered : IsEntered (works_as entered l (joining (label_at l.port (number_of_channel input.channel))))
      is_entered = by (works_plain entered l w (subst (Every IsPlain) (sym (joined_plain (label_at l.port (number_of_channel input.channel)))) tt))
        where
          w : Work
          w = joining (label_at l.port (number_of_channel input.channel))

          by : Worked entered (works_as entered l w) l w.port [] → IsEntered (works_as entered l w)
          by worked = record {
            desk = worked.desk;
            adjacency = worked.adjacency;
            alike = λ e away. subst (λ (ports : List Linked). LeadAlike entered.controller.ports ports e) (sym worked.ports)
                (put_alike entered.controller.ports l l_there w.port e (λ same labels. joined_port (label_at l.port (number_of_channel input.channel)) refl e same labels away)
                (λ same. ap (λ gs. is_out gs (label_number_of (other_end e).channel)) (joined_grants (label_at l.port (number_of_channel input.channel)))));
          }

    both_entered : IsEntered (enters_label entered join)
    both_entered = by (linked_at entered.controller input.port) refl
      where
        by : (o : Option Linked) → linked_at entered.controller input.port ≡ o → IsEntered (works entered (λ setup desk w. joined w (number_of_channel input.channel) output) o)
        by None found = entered_itself
        by (Some l) found = is_entered l found

    -- *Move Branch is asked*
    abbrev before_asking : Acted
    before_asking = enters_label entered join

    held_home : (led : Option End) → IsHeld a.controller.ports input led → MayFollow request led
    held_home led held = inl (held.label may.labels ∙ (ap (led_by input) is ∙ (ap (led_in input label) fit.offered ∙ ap (λ (o : Option End). option_or o (Some (home_of input))) fit.unjoined)))

    may_ask : (e : End) → concerns e request ≡ true → MayAsk a.controller.ports a.controller.desk request e
    may_ask e on = subst (MayAsk a.controller.ports a.controller.desk request) (sym (same_is e input on))
        (free_asks a.controller.ports a.controller.desk request input (off_free a.controller.desk input fit.off may.apart) held_home)

    same_desk : before_asking.controller.desk ≡ a.controller.desk
    same_desk = both_entered.desk ∙ lent_worked.desk

    can_ask : CanAsk before_asking
    can_ask = record {
      up = ap (λ side. is_estab side.state) (both_entered.adjacency ∙ lent_worked.adjacency) ∙ may.can.up;
      number_left = subst (λ (desk : Desk). desk.next < last_transaction) (sym same_desk) may.can.number_left;
    }

    move_asked : AsksMirrored a (asks before_asking request) (request ∷ [])
    move_asked = by (asks_same before_asking request can_ask)
      where
        by : SameNode (with_desk before_asking (asked before_asking.controller.desk request)) (asks before_asking request) → AsksMirrored a (asks before_asking request) (request ∷ [])
        by s = turn_asks a (asks before_asking request) before_asking.controller.ports request s.ports (s.desk ∙ ap (λ (desk : Desk). asked desk request) same_desk) tt may_ask
            (λ e away. alike_then a.controller.ports entered.controller.ports before_asking.controller.ports e (grant_alike e) (both_entered.alike e away))

  -- *The first grant of its way*
  module _ (label : Label) (is : label_on a.controller input ≡ Some label) (fit : IsJoinable a.controller.desk input label) where
    by_grant : (g : Linked) → at port_key g.setup.port.0 a.controller.ports ≡ Some g → (next : FlowId) (o : Option Grant) → grant_for g.port.grants next ≡ o
        → Tried a (joins a (option_map (λ (grant : Grant). let j : Join = record { input = input; port = g.setup.port; grant = grant } in j) o))
    by_grant g there next None first = nothing_tried
    by_grant g there next (Some grant) first = record {
      requests = MoveBranch input (home_of input) (label_end g.setup.port grant.label) ∷ [];
      asks = move_asked label is fit g there next grant first;
      moves = ((λ port. refl), tt);
    }

    by_linked : (port : PortNo) (next : FlowId) (o : Option Linked) → linked_at a.controller port ≡ o → Tried a (joins a (join_through input next o))
    by_linked port next None found = nothing_tried
    by_linked port next (Some g) found = by_grant g (subst (λ n. at port_key n a.controller.ports ≡ Some g) (sym (at_key port_key port.0 a.controller.ports g found)) found)
        next (grant_for g.port.grants next) refl

    by_port : (o : Option PortNo) (next : Option FlowId) → Tried a (joins a (join_by a.controller input o next))
    by_port None next = nothing_tried
    by_port (Some port) None = nothing_tried
    by_port (Some port) (Some next) = by_linked port next (linked_at a.controller port) refl

  by_label : (o : Option Label) → label_on a.controller input ≡ o → Tried a (tries_label a input o)
  by_label None is = nothing_tried
  by_label (Some label) is = on_each (Tried a) (may_join a.controller input label) (joins a (join_for a.controller input label.flow)) a
      (λ t. by_port label is (joinable a.controller input label t) (port_by (best a.controller.table (flow_destination label.flow))) (next_hop_of label.flow)) (λ t. nothing_tried)

pub tried : (a : Acted) (input : End) → MayTry a input → Tried a (tries_join a input)
tried a input may = by_label a input may (label_on a.controller input) refl

pub tries_keep_mirrors : TriesKeepMirrors
tries_keep_mirrors a input may = (let t : Tried a (tries_join a input) = tried a input may in record { requests = t.requests; asks = t.asks })
