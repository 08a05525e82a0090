-- a grant that is lent to an input stays lent to it in a tick, up to its joins, where nothing is asked of grants

use Rattle.std.proofs.Common.{ℕ, List, [], ◌∷◌, refl, fold}
use Rattle.world_model.specs.Words.{PortNo, End, is_estab, sent_again, Setup, default_channel, sends_request, begins, sends_again, ticks_port}
use Rattle.law_label_events.proofs.law_port_facts.Keyed.{on_both}
use Rattle.world_model.specs.Controller.{Acted}
use Rattle.law_label_events.proofs.law_controller_facts.Moves.{by_rule, HasPorts, moves_ports}
use Rattle.world_model.specs.port_model.Ticks as port_ticks
use Rattle.law_label_events.proofs.law_port_facts.Hearings.{ticks_goes}
use Rattle.law_label_events.proofs.law_controller_facts.Events.{ticks_port_goes}
use Rattle.law_lasting_joins.proofs.Lent.{Keeps, itself, keeps_on, keeps_fold, control_keeps, rule_keeps}

module _ (setups : List Setup) (q m : ℕ) (Unled : End → Type 0) where
  pub again_keeps : (a : Acted) → Keeps setups q m Unled a (sends_again a)
  again_keeps a = on_both (Keeps setups q m Unled a) (is_estab a.controller.adjacency.state) (fold sends_request a (sent_again a.controller.desk)) a
      (keeps_fold setups q m Unled sends_request (λ b s. control_keeps setups q m Unled b default_channel _) (sent_again a.controller.desk) a) (itself setups q m Unled a)

  tick_keeps : (a : Acted) (port : PortNo) → ((input : End) → Unled input → ⊥) → HasPorts setups a → Keeps setups q m Unled a (ticks_port a port)
  tick_keeps a port none h = rule_keeps setups q m Unled a port port_ticks.ticks h
      (λ linked found. by_rule (port_ticks.ticks linked.setup a.controller.desk (begins a linked)) (ticks_goes linked.setup a.controller.desk (begins a linked) refl))
      (λ linked found. record { met = λ e. e; lent = λ e input u lent. absurd (none input u); up = λ e. e; stays_met = λ e x. x })

  pub ticks_keep : (ports : List PortNo) (a : Acted) → ((input : End) → Unled input → ⊥) → HasPorts setups a → Keeps setups q m Unled a (fold ticks_port a ports)
  ticks_keep [] a none h = itself setups q m Unled a
  ticks_keep (port ∷ ports) a none h = keeps_on setups q m Unled a (ticks_port a port) (fold ticks_port (ticks_port a port) ports) (tick_keeps a port none h)
      (ticks_keep ports (ticks_port a port) none (moves_ports setups (ticks_port_goes setups a port h) h))
