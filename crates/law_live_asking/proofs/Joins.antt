-- in a run the success of a join is heard while the label that is joined leads there

use Rattle.std.proofs.Common.{◌≡◌, ◌≢◌, ◌⊎◌, inl, inr, ℕ, ◌≤◌, Bool, true, false, true≢false, List, [], ◌∷◌, find, map, Option, None, Some, refl, sym, ◌∙◌, ap, subst, arith, if◌then◌else◌}
use Rattle.std.specs.Prelude.{◌&&◌, ◌==◌, nat_le}
use Rattle.std.specs.Option.{option_and_then, option_map_or, option_or}
use Rattle.world_model.specs.Words.{Policy, NodeId, Up, Cell, State, ForDefault, ForLabel, queue_at, End, is_label_number, number_of_channel, IsLinkPort, Request, MoveBranch, Standing, Answered, Unknown, Done, Ports, Failed, answered, answered_with, Head, head_of, is_of_type, succeeded, outcome, is_estab, is_clearing, at, label_end, home_of, Setup, Label, LabelState, Wiring, Offered, Recalled, Wired, label_number, label_at, labels_of, Controller, Linked, port_key, nothing_taken, with_reassembly, ForGsmp, Topology, World, past_of}
use Rattle.world_model.specs.gsmp_wire.declared.message.Message.{Message}
use Rattle.world_model.specs.gsmp_wire.declared.message.Message.TheVariants.{Adjacency, Branch, Move, Port, AllPorts}
use Rattle.world_model.specs.Controller.{Acted}
use Rattle.world_model.specs.Cells.{Taker}
use Rattle.world_model.specs.switch_model.Requests.{result_of}
use Rattle.world_model.specs.network_model.declared.event.Event.TheVariants.{Carry}
use Rattle.law_live_lasting.proofs.law_control_places.Chains.{chains_are_their_frames}
use Rattle.world_model.specs.network_model.declared.event.Event.{Event}
use Rattle.law_live_lasting.specs.law_port_facts.ordered_lists.Ordered.{Every}
use Rattle.law_live_lasting.specs.law_port_facts.Port.{setup_port, IsLabelEnd, IsLabel, IsShaped, asks_ports, empties_control, empties_port, opens_input, opens_output, leads_label, leads_grant, joins_label, parts_label, frees_label}
use Rattle.law_live_lasting.proofs.law_port_facts.ordered_lists.Every.{every_map}
use Rattle.law_live_lasting.proofs.law_port_facts.Keyed.{at_every}
use Rattle.law_live_lasting.proofs.law_port_facts.Found.{find_every}
use Rattle.law_controller.specs.Match.{joined_in, joined_at, lent_at, clearing_at, end_at, IsOfJoin, MovesJoined}
use Rattle.law_controller.specs.Order.{IsMeeting, listing, emptying, IsDeleting}
use Rattle.law_controller.specs.law_controller_facts.Sound.{IsLinkedPort}
use Rattle.law_live_lasting.specs.law_run_facts.Nodes.{IsNodeOfRun}
use Rattle.law_live_lasting.proofs.law_run_facts.Nodes.{runs_have_nodes}
use Rattle.law_live_lasting.proofs.law_run_facts.Steps.{runs_have_fronts}
use Rattle.law_live_lasting.specs.law_run_facts.law_world_views.Between.{setups_of, IsWorld}
use Rattle.law_live_lasting.specs.law_run_facts.law_world_views.Kept.{Comes}
use Rattle.law_live_lasting.specs.law_live_hearing.Law.{world_at, acting}
use Rattle.law_live_numbers.specs.Law.{IsHarmlessAnswer, IsHarmlessMessage}
use Rattle.law_live_lasting.specs.law_live_control.Calm.{answers_controller}
use Rattle.law_live_lasting.specs.law_live_control_links.Law.{IsCalmLink}
use Rattle.law_live_answers.specs.Law.{AsksJoinsAlone}
use Rattle.law_live_answers.proofs.Answering.{calm_messages_are_harmless}
use Rattle.law_live_lasting.specs.law_live_unsaid.Carries.{EndsFrame}
use Rattle.law_live_mirrors.specs.Mirrors.{is_labels, led_in, led_by, label_leads}
use Rattle.law_live_mirrors.proofs.Ports.{number_again, is_labels_end}
use Rattle.law_live_mirrors.proofs.Alone.{desks_stand_alone}
use Rattle.law_live_asking.specs.Frames.{IsPlainMessage, answers_none, joins, MayCome}
use Rattle.law_live_asking.specs.Carries.{EndsWhatMayCome}
use Rattle.law_live_asking.specs.Peace.{JoinsArePlain, CalmNodesMayHear}
use Rattle.law_live_asking.proofs.Calm.{calm_links_may_come}

-- *What is answered* is one of those that stand
module _ (P : Standing → Type 0) where
  good : (message : Message) (x s : Standing) → succeeded message x ≡ Done s → P x → P s
  good (Adjacency greeting) x s e p = (let same : x ≡ s = cc in subst P same p)
  good (Branch kind result code transaction session input_port input output_port output count priority) x s e p = (let same : x ≡ s = cc in subst P same p)
  good (Move result code transaction session input_port input output_port output target_port target count priority) x s e p = (let same : x ≡ s = cc in subst P same p)
  good (Port result code transaction port session function) x s e p = (let same : x ≡ s = cc in subst P same p)
  good (AllPorts result code transaction rows) x s e p = absurd (cc e)

  by_outcome : (message : Message) (head : Head) (o : Option Standing) (s : Standing) → ((x : Standing) → o ≡ Some x → P x) → outcome message head o ≡ Done s → P s
  by_outcome message head None s all e = absurd (cc e)
  by_outcome message head (Some x) s all e = by (head.result == 3) (head.result == 4) e
    where
      by : (b c : Bool) → (if b then succeeded message x else (if c then Failed x head.code else Unknown)) ≡ Done s → P s
      by true c e = good message x s e (all x refl)
      by false true e = absurd (cc e)
      by false false e = absurd (cc e)

  by_head : (standing : List Standing) (message : Message) (s : Standing) (o : Option Head) → Every P standing → answered_with standing message o ≡ Done s → P s
  by_head standing message s None all e = absurd (cc e)
  by_head standing message s (Some head) all e = by_outcome message head (find (λ (x : Standing). x.number == head.number && is_of_type message x.request) standing) s
      (λ x found. find_every P (λ (y : Standing). y.number == head.number && is_of_type message y.request) standing x all found) e

  answered_every : (c : Controller) (message : Message) (s : Standing) → Every P c.desk.standing → answered c.desk message ≡ Done s → P s
  answered_every c message s all e = by_head c.desk.standing message s (head_of message) all e

-- *While a switch is being met* no Move Branch stands
abbrev MovesNothing : Standing → Type 0
MovesNothing s = (input from to : End) → s.request ≡ MoveBranch input from to → ⊥

not_deleting : (request : Request) (input from to : End) → IsDeleting request → request ≡ MoveBranch input from to → ⊥
not_deleting request input from to is e = subst IsDeleting e is

meeting_moves : (standing : List Standing) → IsMeeting standing → Every MovesNothing standing
meeting_moves standing (listing s is) = ((λ input from to e. cc (sym is ∙ e)), tt)
meeting_moves standing (emptying own each) = every_map (λ (s : Standing). IsDeleting s.request) MovesNothing own (λ s is input from to e. not_deleting s.request input from to is e) each

-- *Its shape* tells its ends
module _ (setups : List Setup) where
  abbrev Ends : Request → Type 0
  Ends (MoveBranch input from to) = IsLabelEnd setups input × (IsLabelEnd setups to ⊎ (to ≡ home_of input))
  Ends request = Unit {0}

  ends_of : (request : Request) → IsShaped setups request → Ends request
  ends_of request asks_ports = tt
  ends_of request (empties_control port is) = tt
  ends_of request (empties_port port is) = tt
  ends_of request (opens_input end is) = tt
  ends_of request (opens_output end is) = tt
  ends_of request (leads_label end is) = tt
  ends_of request (leads_grant end is) = tt
  ends_of request (joins_label input output i o) = (i, inl o)
  ends_of request (parts_label input output i o) = (i, inr refl)
  ends_of request (frees_label end is) = tt

  end_again : (to : End) → IsLabelEnd setups to → end_at to.port.0 (number_of_channel to.channel) ≡ to
  end_again to is = subst (λ (e : End). end_at e.port.0 (number_of_channel e.channel) ≡ e) (sym is.is) (ap (label_end is.setup.port) (number_again is.number))

first_of : (x y : Bool) → (x && y) ≡ true → x ≡ true
first_of true y e = refl
first_of false y e = absurd (cc e)

some_is : (n : ℕ) → 1 ≤ n → n ≢ 0
some_is n some zero = omega (arith, some, zero)

label_input : (setups : List Setup) → Every (λ (setup : Setup). IsLinkPort setup.port) setups → (input : End) → IsLabelEnd setups input → is_labels input ≡ true
label_input setups links input is = ap is_labels is.is ∙ is_labels_end is.setup.port is.number
    (some_is is.setup.port.0 (at_every setup_port (λ (setup : Setup). IsLinkPort setup.port) is.setup.port.0 setups is.setup links is.linked).0)
    (first_of (is_label_number is.number) (nat_le is.setup.least is.number && nat_le is.number is.setup.greatest) is.in_range)

-- *A label that is joined* leads there
led_joined : (setups : List Setup) (setup : Setup) (input output : End) (label : Label) → IsLabel setups setup label → label.join ≡ Some output → (state : LabelState) → label.state ≡ state
    → led_in input label state ≡ Some output
led_joined setups setup input output label is joined Wiring e = absurd (cc (sym (is.unjoined e) ∙ joined))
led_joined setups setup input output label is joined Offered e = ap (λ (o : Option End). option_or o (Some (home_of input))) joined
led_joined setups setup input output label is joined (Recalled last acknowledged) e = ap (λ (o : Option End). option_or o (Some (home_of input))) joined
led_joined setups setup input output label is joined Wired e = ap (λ (o : Option End). option_or o (Some (home_of input))) joined

module _ (setups : List Setup) (ports : List Linked) (each : Every (IsLinkedPort setups) ports) (input output : End) where
  joined_label : (l : Linked) → IsLinkedPort setups l → (o : Option Label) → at label_number (number_of_channel input.channel) (labels_of l.port) ≡ o
      → option_and_then (λ (label : Label). label.join) o ≡ Some output → led_by input o ≡ Some output
  joined_label l is None held e = absurd (cc e)
  joined_label l is (Some label) held e = led_joined setups l.setup input output label
      (at_every label_number (IsLabel setups l.setup) (number_of_channel input.channel) (labels_of l.port) label is.labels held) e label.state refl

  joined_leads : joined_at ports input.port.0 (number_of_channel input.channel) ≡ Some output → label_leads ports input ≡ Some output
  joined_leads e = by (at port_key input.port.0 ports) refl e
    where
      by : (o : Option Linked) → at port_key input.port.0 ports ≡ o → option_and_then (λ (l : Linked). joined_in (labels_of l.port) (number_of_channel input.channel)) o ≡ Some output
          → led_by input (option_and_then (λ (l : Linked). label_at l.port (number_of_channel input.channel)) o) ≡ Some output
      by None found e = absurd (cc e)
      by (Some l) found e = joined_label l (at_every port_key (IsLinkedPort setups) input.port.0 ports l each found) (at label_number (number_of_channel input.channel) (labels_of l.port)) refl e

  -- no port is in Clearing
  none_clears : Every (λ (l : Linked). is_clearing l.port.adjacency.state ≡ false) ports → clearing_at ports input.port.0 ≡ true → ⊥
  none_clears clear e = by (at port_key input.port.0 ports) refl e
    where
      by : (o : Option Linked) → at port_key input.port.0 ports ≡ o → option_map_or (λ (l : Linked). is_clearing l.port.adjacency.state) o false ≡ true → ⊥
      by None found e = cc e
      by (Some l) found e = true≢false (sym e ∙ at_every port_key (λ (x : Linked). is_clearing x.port.adjacency.state ≡ false) input.port.0 ports l clear found)

apart_ports : (ports : List Linked) → Every (λ (setup : Setup). IsLinkPort setup.port) (map (λ (l : Linked). l.setup) ports) → Every (λ (l : Linked). l.setup.port.0 ≢ 0) ports
apart_ports [] links = tt
apart_ports (l ∷ ports) links = (some_is l.setup.port.0 links.0.0, apart_ports ports links.1)

pub joins_are_plain : JoinsArePlain
joins_are_plain policy topology before event node site message s input from to comes world found quiet clear answers asks link =
    joins message s input from to (record {
      up = quiet.up;
      answers = answers;
      alone = desks_stand_alone c message s n.conduct.sound.desk n.conduct.order met (apart_ports c.ports n.ports.links) answers;
      none_waits = quiet.none_waits;
      unspent = quiet.unspent;
    }) (label_input (setups_of c) n.ports.links input ends.0) leads link asks
  where
    c : Controller
    c = site.controller

    n : IsNodeOfRun policy (past_of policy topology before) node site
    n = runs_have_nodes policy topology before comes.addresses (runs_have_fronts policy topology before event comes).run node site found

    ends : Ends (setups_of site.controller) (MoveBranch input from to)
    ends = ends_of (setups_of site.controller) (MoveBranch input from to) (subst (IsShaped (setups_of site.controller)) asks
        (answered_every (λ (x : Standing). IsShaped (setups_of site.controller) x.request) site.controller message s n.conduct.sound.requests answers))

    met : site.controller.has_met ≡ true
    met = by site.controller.has_met refl
      where
        by : (b : Bool) → site.controller.has_met ≡ b → b ≡ true
        by true e = refl
        by false e = absurd (answered_every MovesNothing site.controller message s (meeting_moves site.controller.desk.standing (n.conduct.order.meeting e)) answers input from to asks)

    to_label : IsLabelEnd (setups_of site.controller) to ⊎ (to ≡ home_of input) → IsLabelEnd (setups_of site.controller) to
    to_label (inl is) = is
    to_label (inr home) = absurd (link (ap (λ (e : End). e.port.0) home))

    lent : lent_at site.controller.ports to.port.0 (number_of_channel to.channel) ≡ Some input
    lent = subst (MovesJoined site.controller.ports) asks (answered_every (IsOfJoin site.controller.ports) site.controller message s n.conduct.matched.moving answers)
        (λ home. link (ap (λ (e : End). e.port.0) home))

    leads : label_leads site.controller.ports input ≡ Some to
    leads = by (n.conduct.matched.joined to.port.0 (number_of_channel to.channel) input lent)
      where
        by : (clearing_at site.controller.ports input.port.0 ≡ true)
            ⊎ (joined_at site.controller.ports input.port.0 (number_of_channel input.channel) ≡ Some (end_at to.port.0 (number_of_channel to.channel))) → label_leads site.controller.ports input ≡ Some to
        by (inl clearing) = absurd (none_clears (setups_of site.controller) site.controller.ports n.conduct.sound.ports.each input to clear clearing)
        by (inr joined) = joined_leads (setups_of site.controller) site.controller.ports n.conduct.sound.ports.each input to
            (joined ∙ ap (λ (e : End). Some e) (end_again (setups_of site.controller) to (to_label ends.1)))

-- *A node whose control link is calm*
module _ (policy : Policy) (topology : Topology) (before : List Event) (node : NodeId) (comes : Comes policy topology before (Carry (Up node))) (world : IsWorld (past_of policy topology before))
    (link : IsCalmLink (world_at policy topology before) node) (alone : AsksJoinsAlone (acting (world_at policy topology before) link.site))
    (clear : Every (λ (l : Linked). is_clearing l.port.adjacency.state ≡ false) link.site.controller.ports) where
  abbrev w : World
  w = world_at policy topology before

  abbrev a : Acted
  a = with_reassembly (acting w link.site) ForGsmp nothing_taken

  by_answer : (message : Message) (head : Head) → head_of message ≡ Some head → (o : Answered) → answered link.site.controller.desk message ≡ o → IsHarmlessAnswer (acting w link.site) o → IsPlainMessage a message
  by_answer message head is_answer Unknown is harmless = answers_none message head is_answer is
  by_answer message head is_answer (Done s) is made =
      joins_are_plain policy topology before (Carry (Up node)) node link.site message s made.input made.from made.to comes world link.found
      (record { up = ap (λ (state : State). is_estab state) link.calm.met.one_is_up; none_waits = alone.none_waits; unspent = alone.unspent }) clear is made.is made.to_link
  by_answer message head is_answer (Ports s rows) is harmless = absurd harmless
  by_answer message head is_answer (Failed s code) is harmless = absurd harmless

  by_message : (message : Message) → result_of message ≡ 3 → IsHarmlessMessage (acting w link.site) message → IsPlainMessage a message
  by_message (Adjacency greeting) success harmless = absurd (cc success)
  by_message (Branch kind result code transaction session input_port input output_port output count priority) success harmless =
      by_answer (Branch kind result code transaction session input_port input output_port output count priority) (record { result = result; code = code; number = transaction }) refl
      (answered link.site.controller.desk (Branch kind result code transaction session input_port input output_port output count priority)) refl harmless
  by_message (Move result code transaction session input_port input output_port output target_port target count priority) success harmless =
      by_answer (Move result code transaction session input_port input output_port output target_port target count priority) (record { result = result; code = code; number = transaction }) refl
      (answered link.site.controller.desk (Move result code transaction session input_port input output_port output target_port target count priority)) refl harmless
  by_message (Port result code transaction port session function) success harmless =
      by_answer (Port result code transaction port session function) (record { result = result; code = code; number = transaction }) refl
      (answered link.site.controller.desk (Port result code transaction port session function)) refl harmless
  by_message (AllPorts result code transaction rows) success harmless =
      by_answer (AllPorts result code transaction rows) (record { result = result; code = code; number = transaction }) refl
      (answered link.site.controller.desk (AllPorts result code transaction rows)) refl harmless

  says_plainly : (message : Message) → result_of message ≡ 3 → IsPlainMessage a message
  says_plainly message success = by_message message success
      (calm_messages_are_harmless (acting w link.site) link.site.controller.adjacency.own link.site.switch.adjacency.own message alone (answers_controller message success))

  module _ (default : (cell : Cell) (cells : List Cell) (q : Linked) (payload : List ℕ) → queue_at w (Up node) ≡ cell ∷ cells → EndsFrame w node link.site cell (ForDefault q) payload
      → MayCome (with_reassembly (acting w link.site) (ForDefault q) nothing_taken) (ForDefault q) payload) where
    cell_may : (cell : Cell) (cells : List Cell) → queue_at w (Up node) ≡ cell ∷ cells → (taker : Taker) (payload : List ℕ) → EndsFrame w node link.site cell taker payload
        → MayCome (with_reassembly (acting w link.site) taker nothing_taken) taker payload
    cell_may cell cells queue ForGsmp payload ends = calm_links_may_come w node link cell cells payload (chains_are_their_frames policy topology before (Carry (Up node)) comes.tame) queue ends
        (λ message read success. says_plainly message success)
    cell_may cell cells queue (ForDefault q) payload ends = default cell cells q payload queue ends
    cell_may cell cells queue (ForLabel q label) payload ends = tt

    may_come : (q : List Cell) → queue_at w (Up node) ≡ q → EndsWhatMayCome w node link.site q
    may_come [] queue = tt
    may_come (cell ∷ cells) queue = cell_may cell cells queue

pub calm_nodes_may_hear : CalmNodesMayHear
calm_nodes_may_hear policy topology before node comes world link alone clear default =
    may_come policy topology before node comes world link alone clear default (queue_at (world_at policy topology before) (Up node)) refl
