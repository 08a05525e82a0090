-- a packet that is sent on leaves its controller the ports

use Rattle.std.proofs.Common.{◌≡◌, ℕ, List, refl, ◌∙◌}
use Rattle.std.specs.Prelude.{nat_le, length}
use Rattle.world_model.specs.Words.{Mark, Channel, Loss, PoolFull, noted, made, frame_cells, next_control, with_control, forwards_packet, Controller}
use Rattle.world_model.specs.frame_model.Sending.{Sender}
use Rattle.world_model.specs.Controller.{Acted, free_slots}
use Rattle.world_model.specs.Sending.{with_cells, sends}
use Rattle.law_live_asking.proofs.law_port_facts.Keyed.{on_both}
use Rattle.law_rule_walks.proofs.Cells.{Forwards, routes_kept}

pub record SameHome (a b : Acted) : Type 0 where
  pub node : b.controller.node ≡ a.controller.node
  pub ports : b.controller.ports ≡ a.controller.ports
  pub address : b.controller.address ≡ a.controller.address

sent_home : (a : Acted) (channel : Channel) (mark : Mark) (payload : List ℕ) → SameHome a (sends a channel mark payload)
sent_home a channel mark payload = on_both (λ (s : Sender Controller). SameHome a (record a { controller = s.queues; notes = s.notes })) (nat_le (length (frame_cells channel mark payload)) (free_slots a.controller))
    (record { queues = with_cells a.controller (frame_cells channel mark payload); notes = made a.notes mark payload })
    (record { queues = a.controller; notes = noted (made a.notes mark payload) (Loss mark PoolFull) })
    (record { node = refl; ports = refl; address = refl }) (record { node = refl; ports = refl; address = refl })

then_home : (a b c : Acted) → SameHome a b → SameHome b c → SameHome a c
then_home a b c p q = record { node = q.node ∙ p.node; ports = q.ports ∙ p.ports; address = q.address ∙ p.address }

forwards_home : (a : Acted) → Forwards (SameHome a)
forwards_home a = record {
  sending = λ b channel mark payload h. then_home a b (sends b channel mark payload) h (sent_home b channel mark payload);
  sending_control = λ b channel payload h. then_home a b _ h (then_home b (record b { numbers = with_control b.numbers }) _ (record { node = refl; ports = refl; address = refl })
      (sent_home (record b { numbers = with_control b.numbers }) channel (next_control b.numbers) payload));
  ending = λ b item is h. record { node = h.node; ports = h.ports; address = h.address };
}

pub entered_home : (a : Acted) (came : Mark) (packet : List ℕ) → SameHome a (forwards_packet a came packet)
entered_home a came packet = routes_kept (forwards_home a) a came packet (record { node = refl; ports = refl; address = refl })
