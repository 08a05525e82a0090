-- what the switch says calmly to a controller one of whose ports binds: an ACK, nothing, or a success

use Rattle.std.proofs.Common.{◌≡◌, ◌⊎◌, inl, inr, ℕ, ◌≤◌, ◌==◌, ◌&&◌, Bool, true, false, true≢false, List, Option, None, Some, refl, sym, ◌∙◌, ap, subst, arith, if◌then◌else◌, []}
use Rattle.std.specs.Prelude.{find, nat_lt, nat_le}
use Rattle.std.proofs.lemmas.Bool.Decides.{nat_tests}
use Rattle.world_model.specs.Words.{linked_at, is_clearing, IsLinkPort, PortNo, Channel, End, Party, Side, PortRow, Request, AddBranch, label_number_of, number_of_channel, Standing, Answered, Unknown, Done, Failed, Head, is_of_type, succeeded, outcome, answered, at, Setup, home_of, label_end, Label, LabelState, Wiring, Offered, Recalled, Wired, label_number, label_at, label_by, labels_of, Linked, port_key, takes_answer}
use Rattle.world_model.specs.Controller.{Acted}
use Rattle.world_model.specs.Gsmp.{steps, message_comes}
use Rattle.world_model.specs.gsmp_wire.declared.message.Message.{Message}
use Rattle.world_model.specs.gsmp_wire.declared.message.Message.TheVariants as messages
use Rattle.world_model.specs.switch_model.Requests.{result_of}
use Rattle.live_model.specs.Met.{HaveMet}
use Rattle.law_live_binding_beats.specs.law_port_facts.ordered_lists.Ordered.{Every}
use Rattle.law_live_binding_beats.specs.law_port_facts.Port.{IsLabelEnd, IsDefaultEnd, IsShaped}
use Rattle.law_live_binding_beats.specs.law_port_facts.Port as shapes
use Rattle.law_live_binding_beats.proofs.law_port_facts.Keyed.{at_key, by_eq}
use Rattle.law_live_binding_beats.proofs.law_port_facts.Found.{find_passes, find_every}
use Rattle.law_live_binding_beats.proofs.law_live_labels.Agreed.{in_range_number}
use Rattle.law_live_binding_beats.specs.law_live_others.Law.{LeavesAlike}
use Rattle.law_live_binding_beats.proofs.law_live_ports.Keeping.{alike_itself}
use Rattle.law_live_binding_beats.specs.law_live_control.Calm.{ack, IsCalmUp, greets_controller, answers_controller}
use Rattle.law_live_binding_beats.proofs.law_live_control.Sides.{ack_heard}
use Rattle.law_live_binding_beats.specs.law_live_bindings.Law.{label_branch}
use Rattle.law_live_binding_beats.specs.law_live_bound.Law.{IsSuccess}
use Rattle.law_live_brought.specs.Law.{IsBranchOrJoin, branch, join, WiresNone, IsLabelMade, CalmMessagesAreTold, IsQuietNode, AsksBranches}
use Rattle.law_live_sending.proofs.Going.{goes_same}
use Rattle.law_live_brought.proofs.Saying.{home, Runs, runs_itself}
use Rattle.law_live_brought.proofs.Successes.{successes_are_for_others, successes_say_none}

-- *Of a shape that controllers ask* Add Branch of a label's input is the branch of that label
abbrev pub IsOfItsLabel : Linked → Request → Type 0
IsOfItsLabel linked (AddBranch input output) =
    input.port.0 ≡ linked.setup.port.0 → (label : Label) → label_by linked.port (label_number_of input.channel) ≡ Some label
    → (label_at linked.port label.number ≡ Some label) × (AddBranch input output ≡ label_branch linked.setup label.number)
IsOfItsLabel linked request = Unit {0}

module _ (setups : List Setup) (linked : Linked) (some : 1 ≤ linked.setup.port.0) where
  -- a default channel is of no label
  no_label : (channel : Channel) → channel.vci ≡ 15 → label_number_of channel ≡ None
  no_label channel e = ap (λ (b : Bool). if b then Some (number_of_channel channel) else None) (none channel.vpi channel.vci e)
    where
      none : (vpi vci : ℕ) → vci ≡ 15 → (nat_lt vpi 16 && (nat_le 32 vci && nat_lt vci 1024)) ≡ false
      none vpi vci e = grind (arith, nat_tests)

  of_default : (end output : End) → IsDefaultEnd setups end → IsOfItsLabel linked (AddBranch end output)
  of_default end output is same label found = absurd (cc (sym (ap (label_by linked.port) (no_label end.channel is.vci)) ∙ found))

  -- nor is what is on the control link one of a port
  from_home : (end output : End) → IsOfItsLabel linked (AddBranch (home_of end) output)
  from_home end output same label found = absurd (omega (arith, some, same))

  of_label : (end : End) → IsLabelEnd setups end → IsOfItsLabel linked (AddBranch end (home_of end))
  of_label end is same label found = subst (λ (x : End). (label_at linked.port label.number ≡ Some label) × (AddBranch x (home_of x) ≡ label_branch linked.setup label.number)) (sym whole) (held, refl)
    where
      number_is : label_number_of end.channel ≡ Some is.number
      number_is = ap (λ (x : End). label_number_of x.channel) is.is ∙ in_range_number is.setup is.number is.in_range

      there : label_at linked.port is.number ≡ Some label
      there = ap (label_by linked.port) (sym number_is) ∙ found

      own_number : label.number ≡ is.number
      own_number = at_key label_number is.number (labels_of linked.port) label there

      held : label_at linked.port label.number ≡ Some label
      held = ap (label_at linked.port) own_number ∙ there

      own_port : is.setup.port.0 ≡ linked.setup.port.0
      own_port = ap (λ (x : End). x.port.0) (sym is.is) ∙ same

      whole : end ≡ label_end linked.setup.port label.number
      whole = is.is ∙ (λ i. label_end (record { 0 = own_port i }) (sym own_number i))

  pub shaped_is : (request : Request) → IsShaped setups request → IsOfItsLabel linked request
  shaped_is _ shapes.asks_ports = tt
  shaped_is _ (shapes.empties_control port zero) = tt
  shaped_is _ (shapes.empties_port port there) = tt
  shaped_is _ (shapes.opens_input end is) = of_default end (home_of end) is
  shaped_is _ (shapes.opens_output end is) = from_home end end
  shaped_is _ (shapes.leads_label end is) = of_label end is
  shaped_is _ (shapes.leads_grant end is) = from_home end end
  shaped_is _ (shapes.joins_label input output is to) = tt
  shaped_is _ (shapes.parts_label input output is to) = tt
  shaped_is _ (shapes.frees_label end is) = tt

-- *A label of the port is being wired for it*, or none is
pub record Wires (linked : Linked) (request : Request) : Type 0 where
  pub label : Label
  pub held : label_at linked.port label.number ≡ Some label
  pub wiring : label.state ≡ Wiring
  pub is : request ≡ label_branch linked.setup label.number

is_wiring : (label : Label) → (label.state ≡ Wiring) ⊎ (label.state ≡ Wiring → ⊥)
is_wiring label = by label.state refl
  where
    by : (state : LabelState) → label.state ≡ state → (label.state ≡ Wiring) ⊎ (label.state ≡ Wiring → ⊥)
    by Wiring e = inl e
    by Offered e = inr (λ w. absurd (cc (sym e ∙ w)))
    by (Recalled last acknowledged) e = inr (λ w. absurd (cc (sym e ∙ w)))
    by Wired e = inr (λ w. absurd (cc (sym e ∙ w)))

pub wires_or_none : (linked : Linked) (request : Request) → IsBranchOrJoin request → IsOfItsLabel linked request → Wires linked request ⊎ WiresNone linked request
wires_or_none linked request (join input from to away) is = inr tt
wires_or_none linked request (branch input output) is = by_eq input.port.0 linked.setup.port.0
    (λ same t. by_label same (label_by linked.port (label_number_of input.channel)) refl)
    (λ apart t. inr (λ same label found wiring. absurd (apart same)))
  where
    one_label : (x y : Label) → Some x ≡ Some y → x ≡ y
    one_label x y e = cc

    by_label : input.port.0 ≡ linked.setup.port.0 → (o : Option Label) → label_by linked.port (label_number_of input.channel) ≡ o
        → Wires linked (AddBranch input output) ⊎ WiresNone linked (AddBranch input output)
    by_label same None e = inr (λ again label found wiring. absurd (cc (sym e ∙ found)))
    by_label same (Some label) e = by (is_wiring label)
      where
        by : (label.state ≡ Wiring) ⊎ (label.state ≡ Wiring → ⊥) → Wires linked (AddBranch input output) ⊎ WiresNone linked (AddBranch input output)
        by (inl wiring) = inl (record { label = label; held = (is same label e).0; wiring = wiring; is = (is same label e).1 })
        by (inr other) = inr (λ again x found wiring. other (subst (λ (y : Label). y.state ≡ Wiring) (sym (one_label label x (sym e ∙ found))) wiring))

-- *A calm answer* is to nothing, or the success of something that stands
pub data IsTold (a : Acted) (P : Request → Type 0) (message : Message) : Type 0 where
  nothing : message_comes a message ≡ a → IsTold a P message
  success : (request : Request) → P request → IsSuccess a message request → IsTold a P message

is_success : (result : ℕ) → result ≡ 3 → (result == 3) ≡ true
is_success result e = grind (arith, nat_tests, e)

not_both : (n : ℕ) → n ≡ 0 → n ≡ 3 → ⊥
not_both n zero three = omega (arith, zero, three)

second : (a b : Bool) → (a && b) ≡ true → b ≡ true
second true b e = e
second false b e = absurd (cc e)

module _ (a : Acted) (P : Request → Type 0) (branches : (request : Request) → P request → IsBranchOrJoin request) (each : Every (λ (s : Standing). P s.request) a.controller.desk.standing) where
  abbrev standing : List Standing
  standing = a.controller.desk.standing

  done_told : (message : Message) → ((answer : Answered) → answered a.controller.desk message ≡ answer → message_comes a message ≡ takes_answer a answer) → (number : ℕ) (o : Option Standing)
      → find (λ (x : Standing). (x.number == number) && is_of_type message x.request) standing ≡ o → (head : Head) → head.result ≡ 3
      → answered a.controller.desk message ≡ outcome message head o → ((s : Standing) → o ≡ Some s → succeeded message s ≡ Done s) → IsTold a P message
  done_told message comes number None found head three is done = nothing (comes Unknown is)
  done_told message comes number (Some s) found head three is done =
      success s.request (find_every (λ (x : Standing). P x.request) (λ (x : Standing). (x.number == number) && is_of_type message x.request) standing s each found)
      (record {
        standing = s;
        is = is ∙ (ap (λ (b : Bool). if b then succeeded message s else (if head.result == 4 then Failed s head.code else Unknown)) (is_success head.result three) ∙ done s refl);
        of_request = refl;
      })

  -- no answer to a branch or a join holds ports
  no_ports : (request : Request) (result code number : ℕ) (rows : List PortRow) → IsBranchOrJoin request → is_of_type (messages.AllPorts result code number rows) request ≡ false
  no_ports request result code number rows (branch input output) = refl
  no_ports request result code number rows (join input from to away) = refl

  by_message : (message : Message) → result_of message ≡ 3 → IsTold a P message
  by_message (messages.Adjacency greeting) is = absurd (not_both (result_of (messages.Adjacency greeting)) refl is)
  by_message (messages.Branch kind result code number session input_port input output_port output branches priority) is =
      let message : Message = messages.Branch kind result code number session input_port input output_port output branches priority in
      done_told message (λ answer e. ap (takes_answer a) e) number (find (λ (x : Standing). (x.number == number) && is_of_type message x.request) standing) refl
      (record { result = result; code = code; number = number }) is refl (λ s found. refl)
  by_message (messages.Move result code number session input_port input output_port output target_port target branches priority) is =
      let message : Message = messages.Move result code number session input_port input output_port output target_port target branches priority in
      done_told message (λ answer e. ap (takes_answer a) e) number (find (λ (x : Standing). (x.number == number) && is_of_type message x.request) standing) refl
      (record { result = result; code = code; number = number }) is refl (λ s found. refl)
  by_message (messages.Port result code number port_named session function) is =
      let message : Message = messages.Port result code number port_named session function in
      done_told message (λ answer e. ap (takes_answer a) e) number (find (λ (x : Standing). (x.number == number) && is_of_type message x.request) standing) refl
      (record { result = result; code = code; number = number }) is refl (λ s found. refl)
  by_message (messages.AllPorts result code number rows) is =
      let message : Message = messages.AllPorts result code number rows in
      let test : Standing → Bool = λ x. (x.number == number) && is_of_type message x.request in
      done_told message (λ answer e. ap (takes_answer a) e) number (find test standing) refl (record { result = result; code = code; number = number }) is refl
      (λ s found. absurd (true≢false (sym (second (s.number == number) (is_of_type message s.request) (find_passes test standing s found))
      ∙ no_ports s.request result code number rows (branches s.request (find_every (λ (x : Standing). P x.request) test standing s each found)))))

-- *An ACK* begins the silence count anew
abbrev pub hears_again : Acted → Acted
hears_again a = record a { controller = record a.controller { adjacency = record a.controller.adjacency { silence = 0 } } }

pub acked : (a : Acted) (switch : Side Party) → HaveMet a.controller.adjacency switch → message_comes a (ack switch.own a.controller.adjacency.own) ≡ hears_again a
acked a switch met = ap (steps a) (ack_heard a.controller.adjacency switch.own met.one_is_up met.one_knows)

-- *For others* than a port: it is left alike, and nothing is said on its default channel
pub record IsForOthers (port : PortNo) (link : IsLinkPort port) (a b : Acted) : Type 0 where
  pub left : LeavesAlike port a b
  pub runs : Runs port link.0 a b []

module _ (setups : List Setup) (a : Acted) (port : PortNo) (linked : Linked) (switch : Side Party) (link : IsLinkPort port) (quiet : IsQuietNode a)
    (met : HaveMet a.controller.adjacency switch) (found : linked_at a.controller port ≡ Some linked) (clear : is_clearing linked.port.adjacency.state ≡ false)
    (each : Every (AsksBranches setups) a.controller.desk.standing) where
  some : 1 ≤ linked.setup.port.0
  some = subst (λ (n : ℕ). 1 ≤ n) (sym (at_key port_key port.0 a.controller.ports linked found)) link.0

  same : (b : Acted) → b.controller.ports ≡ a.controller.ports → b.controller.address ≡ a.controller.address → LeavesAlike port a b
  same b ports address = record {
    left = λ l there. record { after = l; there = ap (at port_key port.0) ports ∙ there; setup = refl; alike = alike_itself l.port };
    address = address;
  }

  pub still_other : IsForOthers port link a a
  still_other = record { left = same a refl refl; runs = runs_itself port link.0 a }

  anew : IsForOthers port link a (hears_again a)
  anew = record {
    left = same (hears_again a) refl refl;
    runs = record { goes = goes_same (home port link.0) a (hears_again a) refl refl refl refl refl; same = record { state = refl; waiting = refl } };
  }

  by_told : (m : Message) → IsTold a (λ (request : Request). IsBranchOrJoin request × IsShaped setups request) m → IsForOthers port link a (message_comes a m) ⊎ IsLabelMade a linked m
  by_told m (nothing e) = inl (subst (IsForOthers port link a) (sym e) still_other)
  by_told m (success request is succeeds) = by (wires_or_none linked request is.0 (shaped_is setups linked some request is.1))
    where
      by : Wires linked request ⊎ WiresNone linked request → IsForOthers port link a (message_comes a m) ⊎ IsLabelMade a linked m
      by (inl wires) = inr (record {
        label = wires.label;
        held = wires.held;
        wiring = wires.wiring;
        success = record { standing = succeeds.standing; is = succeeds.is; of_request = succeeds.of_request ∙ wires.is };
      })
      by (inr none) = inl (record {
        left = successes_are_for_others a port linked m request link quiet found clear succeeds is.0 none;
        runs = successes_say_none a port link linked m request quiet found clear succeeds is.0 none;
      })

  pub calm_told : (m : Message) → IsCalmUp a.controller.adjacency.own switch.own m → IsForOthers port link a (message_comes a m) ⊎ IsLabelMade a linked m
  calm_told m greets_controller = inl (subst (IsForOthers port link a) (sym (acked a switch met)) anew)
  calm_told m (answers_controller answer is) = by_told answer (by_message a (λ (request : Request). IsBranchOrJoin request × IsShaped setups request) (λ request both. both.0) each answer is)

pub calm_messages_are_told : CalmMessagesAreTold
calm_messages_are_told setups a port linked switch message link quiet met found clear each calm =
    by (calm_told setups a port linked switch link quiet met found clear each message calm)
  where
    by : IsForOthers port link a (message_comes a message) ⊎ IsLabelMade a linked message → LeavesAlike port a (message_comes a message) ⊎ IsLabelMade a linked message
    by (inl others) = inl others.left
    by (inr made) = inr made
