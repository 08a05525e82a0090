-- a request can be asked, and a join taken back: the desk has room, and numbers are left

use Rattle.std.proofs.Common.{◌≡◌, true, false, List, refl, ◌∙◌, ap, subst, if◌then◌else◌}
use Rattle.std.specs.Prelude.{◌==◌}
use Rattle.law_controller.specs.world_model.Words.{End, is_estab, Request, MoveBranch, last_transaction, Setup, home_of, asks_next, asks, takes_back, node_resets}
use Rattle.branch_desk.specs.Requests.{has_function}
use Rattle.law_controller.specs.law_port_facts.Port.{IsLabelEnd, IsShaped, asks_ports, empties_control, empties_port, opens_input, opens_output, leads_label, leads_grant, joins_label, parts_label, frees_label}
use Rattle.law_controller.specs.world_model.Controller.{Acted}
use Rattle.law_controller.specs.law_controller_facts.Conditions as facts
use Rattle.law_controller.proofs.law_controller_facts.Conditions.{label_has_home}
use Rattle.law_controller.proofs.Laws.{few_stand}
use Rattle.law_controller.proofs.Holding.{Holds}
use Rattle.controller_router.specs.Conditions.{HasRoom, CanAsk, CanTakeBack}
use Rattle.law_controller_conditions.specs.Kept.{AreLinks, AreIn}
use Rattle.law_controller_conditions.proofs.Ready.{Ready}
use Rattle.law_controller_conditions.proofs.Restarting.{can_reset_node}

-- in Estab: under the next number, or a node reset
pub asks_room : (a : Acted) (request : Request) → is_estab a.controller.adjacency.state ≡ true → (a.controller.desk.next == last_transaction) ≡ false → asks a request ≡ asks_next a request
asks_room a request estab room = ap (λ b. if b then (if a.controller.desk.next == last_transaction then node_resets a else asks_next a request) else a) estab ∙ ap (λ b. if b then node_resets a else asks_next a request) room

pub asks_spent : (a : Acted) (request : Request) → is_estab a.controller.adjacency.state ≡ true → (a.controller.desk.next == last_transaction) ≡ true → asks a request ≡ node_resets a
asks_spent a request estab spent = ap (λ b. if b then (if a.controller.desk.next == last_transaction then node_resets a else asks_next a request) else a) estab ∙ ap (λ b. if b then node_resets a else asks_next a request) spent

-- none of the shapes manages a port
shaped_function : (setups : List Setup) (request : Request) → IsShaped setups request → has_function request ≡ true
shaped_function setups request asks_ports = refl
shaped_function setups request (empties_control port zero) = refl
shaped_function setups request (empties_port port linked) = refl
shaped_function setups request (opens_input end d) = refl
shaped_function setups request (opens_output end d) = refl
shaped_function setups request (leads_label end e) = refl
shaped_function setups request (leads_grant end e) = refl
shaped_function setups request (joins_label input output i o) = refl
shaped_function setups request (parts_label input output i o) = refl
shaped_function setups request (frees_label end e) = refl

module _ (setups : List Setup) (links : AreLinks setups) where
  has_room : (a : Acted) → Holds setups a → HasRoom a.controller
  has_room a h = record { room = (few_stand setups a links.few h).few; next = h.sound.desk.room }

  pub can_ask : (a : Acted) (request : Request) → Ready setups a → IsShaped setups request → AreIn (asks a request).numbers → CanAsk a request
  can_ask a request r shaped n = record {
    room = has_room a r.holds;
    function = shaped_function setups request shaped;
    mark = λ estab room. (subst (λ (b : Acted). AreIn b.numbers) (asks_room a request estab room) n).controls;
    reset = λ estab spent. can_reset_node setups links a r (subst (λ (b : Acted). AreIn b.numbers) (asks_spent a request estab spent) n);
  }

  pub can_take_back : (a : Acted) (input output : End) → Ready setups a → IsLabelEnd setups input → IsLabelEnd setups output → AreIn (takes_back a input output).numbers → CanTakeBack a input output
  can_take_back a input output r i o n =
      let home : facts.HasHome input = label_has_home setups input links.links i in
      record {
        home = record { least = home.least; most = home.most; vpi = home.vpi };
        asks = λ led. can_ask a (MoveBranch input output (home_of input)) r (parts_label input output i o)
            (subst (λ b. AreIn (if b then a else asks a (MoveBranch input output (home_of input))).numbers) led n);
      }
