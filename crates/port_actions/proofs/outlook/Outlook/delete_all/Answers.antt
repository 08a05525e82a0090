use Rattle.std.proofs.Common.{◌≡◌, ◌+◌, ◌∙◌, ◌||◌, ◌==◌, Bool, true, false, not, cond, List, Some, refl, sym, ap, subst, Option, IfSome, is_some, slice_get}
use Rattle.std.specs.Map.{keys_of, lookup}
use Rattle.net_types.specs.declared.node.PortNo.{PortNo}
use Rattle.net_types.specs.declared.channel.End.{End}
use Rattle.port_model.specs.Desk.{all_on}
use Rattle.port_actions.specs.Outlook.{Outlook, deletes, stands}
use Rattle.port_actions.proofs.Cleared.{clears_trans, deleted_told, none_at_port}
use Rattle.port_actions.proofs.Clearing.{IsFree, clearing_next, clearing_same, input_at, key_has_value, sweeping_next, sweeping_same, swept}
use Rattle.port_actions.proofs.Entries.{port_entered}
use Rattle.port_actions.proofs.outlook.Outlook.delete_all.Goals as goal
use Rattle.port_actions.proofs.outlook.Outlook.delete_all.Goals.{in-Some+in_ok-withdraw_at, in_default, in-Some-told_at+in_ok-withdraw_at-2, in_default-told_at}

grouped : (a b c : Bool) → ((a || b) || c) ≡ (a || (b || c))
grouped true b c = refl
grouped false b c = refl

pub loop-place-preserved : goal.loop-place-preserved
loop-place-preserved c = elim c.match-input_at.branch [
  | in-Some+in_ok-withdraw_at w ↦ (let clears = w.in_ok-withdraw_at.ensures.clears in
      let here : input_at c.args.desk.now c.loop-place.place ≡ Some w.in-Some.input = sym c.input_at.ensures ∙ w.in-Some.is in
      rw w.self-is (clearing_next c.args.port c.args.desk.now c.args.self.now c.loop-place.self w.withdraw_at.new.self c.loop-place.place c.loop-place.invariant
      (clears_trans c.args.port c.args.desk.now c.args.self.now c.loop-place.self w.withdraw_at.new.self c.loop-place.invariant.clears clears) clears.falls
      (subst (λ (i : Option End). IfSome i (IsFree c.args.port c.args.desk.now w.withdraw_at.new.self)) (sym here) w.in_ok-withdraw_at.ensures.gone)))
  | in_default w ↦ rw w.self-is (clearing_same c.args.port c.args.desk.now c.args.self.now c.loop-place.self c.loop-place.place c.loop-place.invariant (sym c.input_at.ensures ∙ w.in_default.is))
]

pub loop-index-preserved : goal.loop-index-preserved
loop-index-preserved c = elim c.match-told_at.branch [
  | in-Some-told_at+in_ok-withdraw_at-2 w ↦ (let clears = w.in_ok-withdraw_at-2.ensures.clears in
      let now : slice_get (keys_of c.loop-index.self.inputs) c.loop-index.index ≡ Some w.in-Some-told_at.input = sym c.told_at.ensures ∙ w.in-Some-told_at.is in
      let here : slice_get (keys_of c.loop-place.self.inputs) c.loop-index.index ≡ Some w.in-Some-told_at.input = rw (← c.loop-index.invariant.keys) now in
      rw w.self-is (sweeping_next c.args.port c.args.desk.now c.args.self.now c.loop-place.self c.loop-index.self w.withdraw_at-in-Some-told_at.new.self c.loop-index.index c.loop-index.invariant
      (clears_trans c.args.port c.args.desk.now c.args.self.now c.loop-index.self w.withdraw_at-in-Some-told_at.new.self c.loop-index.invariant.clears clears) clears.falls
      (w.in_ok-withdraw_at-2.ensures.keys (key_has_value w.in-Some-told_at.input c.loop-index.self.inputs c.loop-index.index now))
      (subst (λ (i : Option End). IfSome i (IsFree c.args.port c.args.desk.now w.withdraw_at-in-Some-told_at.new.self)) (sym here) w.in_ok-withdraw_at-2.ensures.gone)))
  | in_default-told_at w ↦ rw w.self-is (sweeping_same c.args.port c.args.desk.now c.args.self.now c.loop-place.self c.loop-index.self c.loop-index.index c.loop-index.invariant (rw (← c.loop-index.invariant.keys) (sym c.told_at.ensures ∙ w.in_default-told_at.is)))
]

pub returns-clause-tells : goal.returns-clause-tells
returns-clause-tells c = λ later told.
    let sweep = c.loop-index.invariant in
    let left = sweep.clears.tells later told in
    let next : Outlook = record { many = c.self.inside.many + c.one_if.result; inputs = c.self.inside.inputs.entries; deleted = c.insert.new.self.entries } in
    deleted_told c.loop-index.self next c.args.desk.now later left.0 c.args.port left.1 left.2
    (none_at_port c.args.port left.0.standing (λ input same. sym (left.1.inputs input) ∙ swept c.args.port c.args.desk.now c.args.self.now c.loop-place.self c.loop-index.self c.loop-index.index sweep (rw (← c.told-index-end.ensures) c.loop-index-test.false) input same))
    (ap (λ n. n + c.one_if.result) (ap (λ (o : Outlook). o.many) c.self.view_is) ∙ ap (λ n. c.loop-index.self.many + n) (c.one_if.ensures ∙ ap (λ (b : Bool). cond (not b) 1 0) c.all_on.ensures))
    (λ input. ap (λ (o : Outlook). stands o c.args.desk.now input) c.self.view_is)
    (λ other.
    ap (λ (es : List (PortNo × Bool)). is_some (lookup (λ (q : PortNo). other.0 == q.0) es) || all_on c.args.desk.now other) c.in_ok-insert.ensures.entries
    ∙ ap (λ (b : Bool). b || all_on c.args.desk.now other) (port_entered _ (λ a b. refl) c.self.inside.deleted.entries c.args.port other)
    ∙ grouped (other.0 == c.args.port.0) (is_some (lookup (λ (q : PortNo). other.0 == q.0) c.self.inside.deleted.entries)) (all_on c.args.desk.now other)
    ∙ ap (λ (o : Outlook). (other.0 == c.args.port.0) || deletes o c.args.desk.now other) c.self.view_is)
