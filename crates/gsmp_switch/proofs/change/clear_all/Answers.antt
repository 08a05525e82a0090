use Rattle.std.proofs.Common.{◌≡◌, ◌∙◌, refl, sym, ap, arith}
use Rattle.std.specs.FinMap.{keys}
use Rattle.net_types.specs.declared.node.PortNo.{PortNo}
use Rattle.gsmp_switch.specs.Exchange.{changed_in, with_changed}
use Rattle.world_model.specs.Requests.{Changed, all_ended}
use Rattle.gsmp_switch.proofs.Restarts.{all_are_ended, from_all, port_by_port}
use Rattle.gsmp_switch.proofs.change.clear_all.Goals as goal

pub loop-number-init : goal.loop-number-init
loop-number-init c = record {
  ends = ap (all_ended (changed_in c.args.exchange.now c.args.notes.now)) (from_all c.args.exchange.now.crossbar.branches);
  within = λ h. absurd (omega (arith, h));
  rest = refl;
}

pub loop-number-preserved : goal.loop-number-preserved
loop-number-preserved c =
    let port : PortNo = record { 0 = c.loop-number.number } in
    let next = port_by_port (changed_in c.loop-number.exchange c.loop-number.notes) port in
    let within = c.in_ok-clear.ensures.ports in
    record {
      ends = rw (c.in_ok-clear.ensures.exchange, c.in_ok-clear.ensures.notes) (sym next ∙ c.loop-number.invariant.ends);
      within = λ h. within;
      rest = rw (c.in_ok-clear.ensures.exchange, c.loop-number.invariant.rest) refl;
    }

pub returns-clause-exchange : goal.returns-clause-exchange
returns-clause-exchange c =
    let last : c.loop-number.number ≡ 9 = omega arith in
    let within = c.loop-number.invariant.within (omega (arith, last)) in
    let done = all_are_ended (changed_in c.loop-number.exchange c.loop-number.notes) (changed_in c.args.exchange.now c.args.notes.now) c.loop-number.number (keys c.args.exchange.now.crossbar.branches) last within c.loop-number.invariant.ends in
    c.loop-number.invariant.rest ∙ ap (λ (x : Changed). with_changed c.args.exchange.now x) done

pub returns-clause-notes : goal.returns-clause-notes
returns-clause-notes c =
    let last : c.loop-number.number ≡ 9 = omega arith in
    let within = c.loop-number.invariant.within (omega (arith, last)) in
    let done = all_are_ended (changed_in c.loop-number.exchange c.loop-number.notes) (changed_in c.args.exchange.now c.args.notes.now) c.loop-number.number (keys c.args.exchange.now.crossbar.branches) last within c.loop-number.invariant.ends in
    ap (λ (x : Changed). x.notes) done
