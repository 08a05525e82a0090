-- a rule of a port leaves its own instance as it is, and draws none

use Rattle.std.proofs.Common.{◌≡◌, ◌∙◌, ap, refl}
use Rattle.law_world_pace.specs.world_model.Words.{Peer, Side, Step as Turned, Desk, Setup, Work}
use Rattle.law_controller_bindings.proofs.law_port_facts.Steps.{IsTurn, hears, ages}
use Rattle.law_lifetimes.proofs.law_rule_walks.Ports.{Keeps, Rule, rule_kept}
use Rattle.law_run_facts.proofs.Switches.{tick_own}

turned_own : (side : Side Peer) (step : Turned Peer) → IsTurn side step → step.side.own ≡ side.own
turned_own side step (hears source hello) = refl
turned_own side step ages = tick_own side

-- a port at work owns what it did at first, and has drawn nothing since
abbrev pub Owns : Work → Work → Type 0
Owns first w = (w.port.adjacency.own.instance.0 ≡ first.port.adjacency.own.instance.0) × (w.instances ≡ first.instances)

owns : (setup : Setup) (first : Work) → Keeps (Unit {0}) setup (Owns first)
owns setup first = record {
  asked = λ w action is other h. h;
  halting = λ w live h. h;
  turned = λ w step live turn h. (ap (λ (p : Peer). p.instance.0) (turned_own w.port.adjacency step turn) ∙ h.0, h.1);
  heard = λ w h. h;
  session = λ w o h. h;
  granted = λ w grants h. h;
  accepted = λ w h. h;
}

pub rule_owns : (setup : Setup) (desk : Desk) (w : Work) {v : Work} → Rule (Unit {0}) setup desk w v → Owns w v
rule_owns setup desk w rule = rule_kept (owns setup w) rule (refl, refl)
