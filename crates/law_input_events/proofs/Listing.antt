-- All Ports is answered: each port of the switch may be asked to be emptied

use Rattle.std.proofs.Common.{◌≡◌, ℕ, ◌+◌, ◌<◌, ◌≤◌, suc, Bool, true, false, List, [], ◌∷◌, ◌++◌, length, map, filter, Some, refl, sym, ◌∙◌, ap, subst, arith, if◌then◌else◌}
use Rattle.std.specs.Prelude.{◌==◌, nat_lt, nat_eq}
use Rattle.std.proofs.lemmas.Bool.Decides.{nat_tests}
use Rattle.std.proofs.lemmas.List.{length-map}
use Rattle.law_input_premises.specs.world_model.Words.{End, NodeId, PortNo, State, Clearing, SynSent, SynRcvd, Estab, Side, is_estab, IsLinkPort, FitsRows, PortRow, at, Standing, last_transaction, message_of, without_request, Setup, Linked, with_desk, up_ports, Switch, control_port, numbers_of}
use Rattle.law_input_premises.specs.world_model.gsmp_wire.declared.request.Request.TheVariants.{AllPorts, DeleteAll}
use Rattle.law_input_premises.specs.ordered_lists.Ordered.{Every, InOrder}
use Rattle.law_input_premises.proofs.ordered_lists.Every.{every_all, every_map}
use Rattle.law_input_premises.specs.world_model.port_model.Messages.{is_up}
use Rattle.law_input_premises.specs.law_port_facts.Port.{setup_port, IsLinked, IsLabelEnd, empties_control, empties_port}
use Rattle.law_input_premises.specs.law_branch_line.Line.{Line}
use Rattle.law_input_premises.specs.law_branch_line.Law.{AsksFirst, IsReached}
use Rattle.law_input_premises.proofs.law_branch_line.First.{always_first}
use Rattle.law_input_premises.proofs.law_branch_line.Reached.{holds_reached}
use Rattle.law_input_premises.specs.world_model.Controller.{Acted, ports_of}
use Rattle.law_input_premises.specs.law_controller_facts.Sound.{linked_setup}
use Rattle.law_input_premises.proofs.law_controller_facts.Laws.{has_ports}
use Rattle.law_input_premises.proofs.law_controller_facts.Performing.{ports_linked}
use Rattle.law_input_premises.proofs.law_controller.Whole.{Whole}
use Rattle.law_input_premises.specs.world_model.switch_model.declared.port.PortState.{PortState}
use Rattle.law_input_premises.specs.world_model.Answers.{port_row}
use Rattle.law_input_premises.specs.law_input_views.Shown.{before_of, behind_of, PhaseShows}
use Rattle.law_input_premises.specs.law_input_steps.Asking.{IsReadable}
use Rattle.law_input_premises.specs.law_input_steps.Meeting.{AreDistinct, Untouched, MayEmpty, IsAround}
use Rattle.law_input_premises.specs.law_input_steps.Part.{Part, part_at, Stands}
use Rattle.law_input_premises.proofs.law_input_steps.Lists.{filter_skips, filter_front}
use Rattle.law_input_premises.proofs.law_input_steps.Taken.{listing}
use Rattle.law_input_premises.proofs.Reading.{are_read}
use Rattle.law_input_events.specs.Coming.{IsBelow, TellsPorts}

-- *Ports in order*, round one of them
record Around (p : PortNo) (ports : List PortNo) : Type 0 where
  xs : List PortNo
  ys : List PortNo
  is : ports ≡ xs ++ p ∷ ys
  before : before_of ports p ≡ length xs
  behind : behind_of ports p ≡ length ys
  below : Every (λ (q : PortNo). (q.0 == p.0) ≡ false) xs
  above : Every (λ (q : PortNo). (q.0 == p.0) ≡ false) ys

-- and as the line of an input counts them
pub record Round (input : End) (ports : List PortNo) (line : Line) : Type 0 where
  pub xs : List PortNo
  pub ys : List PortNo
  pub is : IsAround input ports xs ys line

less_is : (m n : ℕ) → m < n → nat_lt m n ≡ true
less_is m n less = grind (arith, nat_tests)

not_less : (m n : ℕ) → n ≤ m → nat_lt m n ≡ false
not_less m n le = grind (arith, nat_tests)

apart_above : (m n : ℕ) → m < n → (n == m) ≡ false
apart_above m n less = grind (arith, nat_tests)

apart_below : (m n : ℕ) → m < n → (m == n) ≡ false
apart_below m n less = grind (arith, nat_tests)

same_port : (q p : PortNo) → nat_eq q.0 p.0 ≡ true → q ≡ p
same_port q p e = (let is : q.0 ≡ p.0 = grind (arith, nat_tests) in ap (λ (n : ℕ). record { 0 = n }) is)

none_before : (p : PortNo) (ports : List PortNo) → Every (λ (q : PortNo). p.0 < q.0) ports → before_of ports p ≡ 0
none_before p [] all = refl
none_before p (q ∷ ports) all = ap (λ (l : List PortNo). length l) (filter_skips (λ (o : PortNo). nat_lt o.0 p.0) q ports (not_less q.0 p.0 (omega (arith, all.0)))) ∙ none_before p ports all.1

all_behind : (p : PortNo) (ports : List PortNo) → Every (λ (q : PortNo). p.0 < q.0) ports → behind_of ports p ≡ length ports
all_behind p [] all = refl
all_behind p (q ∷ ports) all = ap (λ (l : List PortNo). length l) (filter_front (λ (o : PortNo). nat_lt p.0 o.0) q ports (less_is p.0 q.0 all.0)) ∙ ap suc (all_behind p ports all.1)

-- the first of them
first_around : (p : PortNo) (ports : List PortNo) → Every (λ (q : PortNo). p.0 < q.0) ports → Around p (p ∷ ports)
first_around p ports all = record {
  xs = [];
  ys = ports;
  is = refl;
  before = ap (λ (l : List PortNo). length l) (filter_skips (λ (o : PortNo). nat_lt o.0 p.0) p ports (not_less p.0 p.0 (omega arith))) ∙ none_before p ports all;
  behind = ap (λ (l : List PortNo). length l) (filter_skips (λ (o : PortNo). nat_lt p.0 o.0) p ports (not_less p.0 p.0 (omega arith))) ∙ all_behind p ports all;
  below = tt;
  above = every_map (λ (q : PortNo). p.0 < q.0) (λ (q : PortNo). (q.0 == p.0) ≡ false) ports (λ q less. apart_above p.0 q.0 less) all;
}

-- one behind a lower one
later_around : (q p : PortNo) (ports : List PortNo) → q.0 < p.0 → Around p ports → Around p (q ∷ ports)
later_around q p ports less a = record {
  xs = q ∷ a.xs;
  ys = a.ys;
  is = ap (λ (l : List PortNo). q ∷ l) a.is;
  before = ap (λ (l : List PortNo). length l) (filter_front (λ (o : PortNo). nat_lt o.0 p.0) q ports (less_is q.0 p.0 less)) ∙ ap suc a.before;
  behind = ap (λ (l : List PortNo). length l) (filter_skips (λ (o : PortNo). nat_lt p.0 o.0) q ports (not_less p.0 q.0 (omega (arith, less)))) ∙ a.behind;
  below = (apart_below q.0 p.0 less, a.below);
  above = a.above;
}

abbrev port_in : Setup → PortNo
port_in setup = setup.port

-- one that is linked is among those above a lower one
linked_above : (q p : PortNo) (setups : List Setup) (setup : Setup) → at setup_port p.0 setups ≡ Some setup → Every (IsBelow q) (map port_in setups) → q.0 < p.0
linked_above q p [] setup found all = absurd (cc found)
linked_above q p (x ∷ setups) setup found all = by (nat_eq x.port.0 p.0) refl found (λ f. linked_above q p setups setup f all.1)
  where
    by : (b : Bool) → nat_eq x.port.0 p.0 ≡ b → (if b then Some x else at setup_port p.0 setups) ≡ Some setup → (at setup_port p.0 setups ≡ Some setup → q.0 < p.0) → q.0 < p.0
    by true e f later = subst (λ (z : PortNo). q.0 < z.0) (same_port x.port p e) all.0
    by false e f later = later f

around : (p : PortNo) (setups : List Setup) (setup : Setup) → at setup_port p.0 setups ≡ Some setup → InOrder IsBelow (map port_in setups) → Around p (map port_in setups)
around p [] setup found order = absurd (cc found)
around p (x ∷ setups) setup found order = by (nat_eq x.port.0 p.0) refl found (λ f. around p setups setup f order.1)
  where
    by : (b : Bool) → nat_eq x.port.0 p.0 ≡ b → (if b then Some x else at setup_port p.0 setups) ≡ Some setup → (at setup_port p.0 setups ≡ Some setup → Around p (map port_in setups)) → Around p (x.port ∷ map port_in setups)
    by true e f later =
        let same : x.port ≡ p = same_port x.port p e in
        subst (λ (z : PortNo). Around p (z ∷ map port_in setups)) (sym same) (first_around p (map port_in setups) (subst (λ (z : PortNo). Every (λ (q : PortNo). z.0 < q.0) (map port_in setups)) same order.0))
    by false e f later = later_around x.port p (map port_in setups) (linked_above x.port p setups setup f order.0) (later f)

distinct : (ports : List PortNo) → InOrder IsBelow ports → AreDistinct ports
distinct [] order = tt
distinct (p ∷ ports) order = (every_map (IsBelow p) (λ (q : PortNo). (p.0 == q.0) ≡ false) ports (λ q less. apart_below p.0 q.0 less) order.0, distinct ports order.1)

all_up : (rows : List PortRow) (ports : List PortNo) → Every (λ (port : PortNo). is_up rows port ≡ true) ports → filter (is_up rows) ports ≡ ports
all_up rows [] all = refl
all_up rows (p ∷ ports) all = filter_front (is_up rows) p ports all.0 ∙ ap (λ (l : List PortNo). p ∷ l) (all_up rows ports all.1)

ports_in : (ports : List Linked) (setups : List Setup) → map linked_setup ports ≡ setups → map (λ (linked : Linked). linked.setup.port) ports ≡ map port_in setups
ports_in ports setups same = mapped ports ∙ ap (map port_in) same
  where
    mapped : (ports : List Linked) → map (λ (linked : Linked). linked.setup.port) ports ≡ map port_in (map linked_setup ports)
    mapped [] = refl
    mapped (x ∷ ports) = ap (λ (l : List PortNo). x.setup.port ∷ l) (mapped ports)

-- *The next number*, while All Ports stands alone
estab_is : (st : State) → is_estab st ≡ true → st ≡ Estab
estab_is Estab e = refl
estab_is Clearing e = absurd (cc e)
estab_is SynSent e = absurd (cc e)
estab_is SynRcvd e = absurd (cc e)

pub next_is : (node : NodeId) (input : End) (p : Part) (line : Line) (s : Standing) → IsReached line → Stands node input p line → p.desk.standing ≡ s ∷ [] → s.request ≡ AllPorts → p.met ≡ false
    → is_estab p.adjacency.state ≡ true → p.desk.next ≡ 2
next_is node input p line s reached h alone is unmet estab =
    let state : is_estab line.controller.adjacency.state ≡ true = sym (ap (λ (x : Side _). is_estab x.state) h.own.side) ∙ estab in
    sym (h.own.next state) ∙ holds_reached AsksFirst always_first line reached
    (listing line.controller.meeting s is (h.own.met ∙ unmet) (subst (PhaseShows line.controller.meeting) alone h.own.phase)) (estab_is line.controller.adjacency.state state)

room_of : (next count : ℕ) → next ≡ 2 → count ≤ 9 → next + count ≤ last_transaction
room_of next count is few = omega (arith, is, few)

module _ (setups : List Setup) (links : Every (λ (setup : Setup). IsLinkPort setup.port) setups) (input : End) (above : 1 ≤ input.port.0) (own : IsLabelEnd setups input) (switch : Switch) (tells : TellsPorts switch.ports)
    (a : Acted) (whole : Whole setups a) (same : numbers_of switch.ports ≡ control_port ∷ ports_of a.controller) (s : Standing) (rows : List PortRow) (fits : FitsRows rows)
    (up : Every (λ (port : PortNo). is_up rows port ≡ true) (ports_of a.controller)) where
  abbrev b : Acted
  b = with_desk a (record (without_request a.controller.desk s) { rows = rows })

  abbrev all : List PortNo
  all = record { 0 = 0 } ∷ up_ports b.controller

  ups : up_ports b.controller ≡ ports_of a.controller
  ups = all_up rows (ports_of a.controller) up

  all_is : all ≡ numbers_of switch.ports
  all_is = ap (λ (l : List PortNo). control_port ∷ l) ups ∙ sym same

  order : InOrder IsBelow (control_port ∷ ports_of a.controller)
  order = subst (InOrder IsBelow) same tells.ascending

  own_port : input.port ≡ own.setup.port
  own_port = ap (λ (e : End). e.port) own.is

  linked_at_own : at setup_port input.port.0 setups ≡ Some own.setup
  linked_at_own = subst (λ (p : PortNo). at setup_port p.0 setups ≡ Some own.setup) (sym own_port) own.linked

  ports_are : ports_of a.controller ≡ map port_in setups
  ports_are = ports_in a.controller.ports setups whole.sound.ports.same

  behind_zero : Around input.port (control_port ∷ ports_of a.controller)
  behind_zero = later_around control_port input.port (ports_of a.controller) above
      (subst (Around input.port) (sym ports_are) (around input.port setups own.setup linked_at_own (subst (InOrder IsBelow) ports_are order.1)))

  pub around_of : (line : Line) → line.ports_before ≡ before_of (numbers_of switch.ports) input.port → line.ports_behind ≡ behind_of (numbers_of switch.ports) input.port → Round input all line
  around_of line before behind = record {
    xs = behind_zero.xs;
    ys = behind_zero.ys;
    is = record {
      is = ap (λ (l : List PortNo). control_port ∷ l) ups ∙ behind_zero.is;
      before = before ∙ (ap (λ (l : List PortNo). before_of l input.port) same ∙ behind_zero.before);
      behind = behind ∙ (ap (λ (l : List PortNo). behind_of l input.port) same ∙ behind_zero.behind);
      below = behind_zero.below;
      above = behind_zero.above;
    };
  }

  few : length all ≤ 9
  few = (let is : length all ≡ length switch.ports = ap (λ (l : List PortNo). length l) all_is ∙ length-map switch.ports (λ (state : PortState). state.number) in
      let rows_are : length (map port_row switch.ports) ≡ length switch.ports = length-map switch.ports port_row in omega (arith, is, rows_are, tells.few))

  pub may_empty : (bare : Switch) → (without_request a.controller.desk s).standing ≡ [] → a.controller.desk.next ≡ 2 → is_estab a.controller.adjacency.state ≡ true → MayEmpty (part_at input bare b) all
  may_empty bare none next estab = record {
    estab = estab;
    distinct = distinct all (subst (InOrder IsBelow) (sym (all_is ∙ same)) order);
    untouched = subst (Untouched all) (sym none) (every_all (λ (p : PortNo). Unit {0}) all (λ p. tt));
    room = room_of a.controller.desk.next (length all) next few;
    reads = (
      (λ n less. are_read setups links rows fits n (DeleteAll (record { 0 = 0 })) less (empties_control (record { 0 = 0 }) refl)),
      every_map (IsLinked setups) (λ (port : PortNo). (n : ℕ) → n < last_transaction → IsReadable (message_of rows n (DeleteAll port))) (up_ports b.controller)
          (λ port linked n less. are_read setups links rows fits n (DeleteAll port) less (empties_port port linked))
          (subst (Every (IsLinked setups)) (sym ups) (ports_linked setups a (has_ports setups a whole.sound))),
    );
  }
