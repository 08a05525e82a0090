-- what is said alone keeps requests and joins in order, and the desk

use Rattle.std.proofs.Common.{◌≡◌, ℕ, List, [], ◌∷◌, length, refl, ◌∙◌, fold}
use Rattle.std.specs.Prelude.{nat_le}
use Rattle.law_controller_facts.specs.world_model.Words.{PortNo, Channel, Mark, next_control, with_control, ifmp_packet_of, default_payload, Loss, PoolFull, noted, frame_cells, made, is_estab, Action, Say, Ask, Note, CutChain, TakeBack, Withdraw, Setup, Controller, default_home, performs, performs_in_estab}
use Rattle.law_controller_facts.specs.world_model.ifmp_wire.Message.{octets_of as ifmp_octets}
use Rattle.law_controller_facts.specs.world_model.frame_model.Sending.{Sender}
use Rattle.law_controller_facts.specs.ordered_lists.Ordered.{Every}
use Rattle.law_controller_facts.specs.world_model.port_model.declared.action.Action.TheVariants as actions
use Rattle.law_controller_facts.proofs.law_port_facts.Keyed.{on_both}
use Rattle.law_controller_facts.specs.world_model.Controller.{Acted, free_slots}
use Rattle.law_controller_facts.specs.world_model.Sending.{with_cells, sends}
use Rattle.law_controller.proofs.Holding.{Holds, sends_control_holds}

-- *Saying* alone
abbrev pub IsSay : Action → Type 0
IsSay (Say message) = Unit {0}
IsSay action = ⊥

module _ (setups : List Setup) where
  say_holds : (port : PortNo) (b : Acted) (x : Action) → IsSay x → Holds setups b → Holds setups (performs port b x)
  say_holds port b (Say message) is h = sends_control_holds setups b (default_home port).channel (default_payload (ifmp_packet_of b.controller.address (ifmp_octets message))) h
  say_holds port b (Ask request needed) is h = absurd is
  say_holds port b (Note item) is h = absurd is
  say_holds port b (CutChain label) is h = absurd is
  say_holds port b (TakeBack input output) is h = absurd is
  say_holds port b (Withdraw input) is h = absurd is
  say_holds port b actions.Reset is h = absurd is

  pub says_hold : (port : PortNo) (xs : List Action) (b : Acted) → Every IsSay xs → Holds setups b → Holds setups (fold (performs_in_estab port) b xs)
  says_hold port [] b all h = h
  says_hold port (x ∷ xs) b all h = says_hold port xs (performs_in_estab port b x) all.1 (on_both (Holds setups) (is_estab b.controller.adjacency.state) (performs port b x) b (say_holds port b x all.0 h) h)

  -- *The desk stays*
  abbrev pub SameDesk : Acted → Acted → Type 0
  SameDesk a b = b.controller.desk ≡ a.controller.desk

  pub sent_desk : (b : Acted) (channel : Channel) (mark : Mark) (payload : List ℕ) → SameDesk b (sends b channel mark payload)
  sent_desk b channel mark payload = on_both (λ (x : Sender Controller). x.queues.desk ≡ b.controller.desk) (nat_le (length (frame_cells channel mark payload)) (free_slots b.controller))
      (record { queues = with_cells b.controller (frame_cells channel mark payload); notes = made b.notes mark payload })
      (record { queues = b.controller; notes = noted (made b.notes mark payload) (Loss mark PoolFull) }) refl refl

  say_desk : (port : PortNo) (b : Acted) (x : Action) → IsSay x → SameDesk b (performs port b x)
  say_desk port b (Say message) is = sent_desk (record b { numbers = with_control b.numbers }) (default_home port).channel (next_control b.numbers) (default_payload (ifmp_packet_of b.controller.address (ifmp_octets message)))
  say_desk port b (Ask request needed) is = absurd is
  say_desk port b (Note item) is = absurd is
  say_desk port b (CutChain label) is = absurd is
  say_desk port b (TakeBack input output) is = absurd is
  say_desk port b (Withdraw input) is = absurd is
  say_desk port b actions.Reset is = absurd is

  pub says_desk : (port : PortNo) (xs : List Action) (b : Acted) → Every IsSay xs → SameDesk b (fold (performs_in_estab port) b xs)
  says_desk port [] b all = refl
  says_desk port (x ∷ xs) b all = says_desk port xs (performs_in_estab port b x) all.1 ∙ on_both (SameDesk b) (is_estab b.controller.adjacency.state) (performs port b x) b (say_desk port b x all.0) refl
