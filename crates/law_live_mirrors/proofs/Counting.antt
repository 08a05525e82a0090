-- a packet is counted: a label may be wired, and its branch asked for

use Rattle.std.proofs.Common.{◌≡◌, ℕ, ◌+◌, ◌<◌, Bool, true, false, not, List, [], ◌∷◌, Option, None, Some, is_some, refl, sym, ◌∙◌, ap, subst, inl}
use Rattle.std.specs.Prelude.{◌&&◌, ◌-◌, nat_le}
use Rattle.std.specs.List.{range_with_len}
use Rattle.std.specs.Option.{option_map, option_map_or, option_or, option_and_then}
use Rattle.world_model.specs.Words.{End, FlowId, same_flow, is_label_number, label_channel_of, label_number_of, number_of_channel, Request, AddBranch, at, put, entered, key_le, is_in_range, label_end, control_end, home_of, Label, LabelState, Wiring, Offered, Recalled, Wired, label_number, label_at, label_for, lowest_spare, serves, Session, Work, has_room, with_session, packets_in, counted_once, packet_flow, wires, counts_flow, counts_by, counts, used_label, Linked, port_key, begins, works_as, counted_at}
use Rattle.world_model.specs.Controller.{Acted}
use Rattle.world_model.specs.port_model.Labels.{is_spare}
use Rattle.world_model.specs.port_model.Port.{Port}
use Rattle.world_model.specs.port_model.Setup.{label_numbers, is_between}
use Rattle.law_port_facts.specs.ordered_lists.Ordered.{Every, InOrder}
use Rattle.law_port_facts.proofs.Keyed.{on_both, find_at}
use Rattle.law_port_facts.proofs.Found.{find_passes, find_every, filter_passes}
use Rattle.law_input_steps.specs.Asking.{concerns}
use Rattle.law_input_steps.proofs.Ends.{same_is}
use Rattle.law_live_mirrors.specs.Mirrors.{is_labels, led_in, led_by, label_leads, other_end}
use Rattle.law_live_mirrors.specs.Standing.{MayAsk}
use Rattle.law_live_mirrors.specs.Asking.{IsPlain, AsksMirrored, KeepsMirrors, MayWire, PacketsKeepMirrors}
use Rattle.law_live_mirrors.proofs.Ports.{leads_by, is_out, put_ports, put_alike, relabelled, newly_labelled, number_again, is_labels_end}
use Rattle.law_live_mirrors.proofs.Nodes.{Worked, works_plain, works_ask, turn_none, turn_asks, at_port_is}
use Rattle.law_live_mirrors.proofs.Free.{free_asks}

-- a label leads by its state and its join
pub led_so : (input : End) (x y : Label) (state : LabelState) → x.join ≡ y.join → led_in input x state ≡ led_in input y state
led_so input x y Wiring same = refl
led_so input x y Offered same = ap (λ (o : Option End). option_or o (Some (home_of input))) same
led_so input x y (Recalled last acknowledged) same = ap (λ (o : Option End). option_or o (Some (home_of input))) same
led_so input x y Wired same = ap (λ (o : Option End). option_or o (Some (home_of input))) same

-- *A port at work* asks nothing, and leads alike
module _ (a : Acted) (linked : Linked) (there : at port_key linked.setup.port.0 a.controller.ports ≡ Some linked) where
  pub port_keeps : (w : Work) → Every IsPlain w.actions → w.port.grants ≡ linked.port.grants
      → ((input : End) → is_labels input ≡ true → leads_by input w.port ≡ leads_by input linked.port) → AsksMirrored a (works_as a linked w) []
  port_keeps w plain grants labels = by (works_plain a linked w plain)
    where
      by : Worked a (works_as a linked w) linked w.port [] → AsksMirrored a (works_as a linked w) []
      by worked = turn_none a (works_as a linked w) (put_ports a.controller.ports linked w.port) worked.ports worked.desk
          (λ input. put_alike a.controller.ports linked there w.port input (λ same is. labels input is)
          (λ same. ap (λ gs. is_out gs (label_number_of (other_end input).channel)) grants))

-- *Labels of a session*
module _ (p : Port) (s : Session) (is_open : p.session ≡ Some s) where
  pub by_session : (input : End) (change : Session → Session)
      → led_by input (at label_number (number_of_channel input.channel) (change s).labels) ≡ led_by input (at label_number (number_of_channel input.channel) s.labels)
      → leads_by input (record p { session = option_map change p.session }) ≡ leads_by input p
  by_session input change same = subst (λ (o : Option Session). led_by input (at label_number (number_of_channel input.channel) (option_map_or (λ (x : Session). x.labels) (option_map change o) []))
      ≡ led_by input (at label_number (number_of_channel input.channel) (option_map_or (λ (x : Session). x.labels) o []))) (sym is_open) same

module _ (a : Acted) (linked : Linked) (may : MayWire a linked) where
  abbrev begun : Work
  begun = begins a linked

  abbrev Result : Work → Type 0
  Result w = KeepsMirrors a (works_as a linked w)

  none_asked : (w : Work) → w.actions ≡ [] → w.port.grants ≡ linked.port.grants → ((input : End) → is_labels input ≡ true → leads_by input w.port ≡ leads_by input linked.port) → Result w
  none_asked w none grants labels = record {
    requests = [];
    asks = port_keeps a linked may.there w (subst (Every IsPlain) (sym none) tt) grants labels;
  }

  module _ (s : Session) (is_open : linked.port.session ≡ Some s) (flow : FlowId) where
    in_order : InOrder (λ (x y : Label). label_number x < label_number y) s.labels
    in_order = subst (λ (o : Option Session). InOrder (λ (x y : Label). label_number x < label_number y) (option_map_or (λ (x : Session). x.labels) o [])) is_open may.ascend

    -- a label that serves is used
    used : (label : Label) → label_for s.labels flow ≡ Some label → Result (used_label begun (Some label))
    used label found = none_asked (used_label begun (Some label)) refl refl (λ input is. by_session linked.port s is_open input (λ x. record x { labels = put label_number idled x.labels })
        (relabelled input label idled s.labels (number_of_channel input.channel) (find_at label_number (λ (x : Label). serves x.state && same_flow x.flow flow) s.labels label in_order found)
        (λ same. led_so input idled label label.state refl)))
      where
        idled : Label
        idled = record label { idle = 0 }

    abbrev s_counted : Session
    s_counted = record s { counted = counted_once s.counted flow }

    abbrev w_counted : Work
    w_counted = with_session begun (λ old. s_counted)

    counted_only : Result w_counted
    counted_only = none_asked w_counted refl refl (λ input is. by_session linked.port s is_open input (λ old. s_counted) refl)

    -- a spare label is wired
    module _ (number : ℕ) (lowest : lowest_spare linked.setup s.least s.greatest s.labels ≡ Some number) where
      abbrev test : ℕ → Bool
      test n = is_between s.least s.greatest (label_channel_of n) && is_spare s.labels n

      spare_number : at label_number number s.labels ≡ None
      spare_number = none (at label_number number s.labels) (second (is_between s.least s.greatest (label_channel_of number)) (is_spare s.labels number)
          (find_passes test (label_numbers linked.setup) number lowest))
        where
          second : (x y : Bool) → (x && y) ≡ true → y ≡ true
          second true y e = e
          second false y e = absurd (cc e)

          none : (o : Option Label) → not (is_some o) ≡ true → o ≡ None
          none None e = refl
          none (Some label) e = absurd (cc e)

      in_range : is_in_range linked.setup number ≡ true
      in_range = find_every (λ n. is_in_range linked.setup n ≡ true) test (label_numbers linked.setup) number
          (filter_passes (is_in_range linked.setup) (range_with_len linked.setup.least (linked.setup.greatest + 1 - linked.setup.least))) lowest

      is_number : is_label_number number ≡ true
      is_number = first (is_label_number number) (nat_le linked.setup.least number && nat_le number linked.setup.greatest) in_range
        where
          first : (x y : Bool) → (x && y) ≡ true → x ≡ true
          first true y e = refl
          first false y e = absurd (cc e)

      not_held : label_at linked.port number ≡ None
      not_held = ap (λ (o : Option Session). at label_number number (option_map_or (λ (x : Session). x.labels) o [])) is_open ∙ spare_number

      abbrev input_of : End
      input_of = label_end linked.setup.port number

      abbrev request : Request
      request = AddBranch input_of (control_end linked.setup.port number)

      leads_nowhere : label_leads a.controller.ports input_of ≡ None
      leads_nowhere = ap (λ (o : Option Linked). led_by input_of (option_and_then (λ (l : Linked). label_at l.port (number_of_channel input_of.channel)) o)) may.there
          ∙ (ap (λ n. led_by input_of (label_at linked.port n)) (number_again number) ∙ ap (led_by input_of) not_held)

      may_ask : (input : End) → concerns input request ≡ true → MayAsk a.controller.ports a.controller.desk request input
      may_ask input on = subst (MayAsk a.controller.ports a.controller.desk request) (sym (same_is input input_of on))
          (free_asks a.controller.ports a.controller.desk request input_of (may.free number not_held)
          (λ led held. inl (held.label (is_labels_end linked.setup.port number may.of_link is_number) ∙ leads_nowhere)))

      abbrev new : Label
      new = record { number = number; state = Wiring; flow = flow; idle = 0; ticks = 0; join = None }

      abbrev wired : Work
      wired = wires linked.setup w_counted flow (Some number)

      wired_leads : (input : End) → leads_by input wired.port ≡ leads_by input linked.port
      wired_leads input = subst (λ (o : Option Session). led_by input (at label_number (number_of_channel input.channel)
          (option_map_or (λ (x : Session). x.labels) (option_map (λ (x : Session). record x { labels = entered (key_le label_number) new x.labels }) (option_map (λ (old : Session). s_counted) o)) []))
          ≡ led_by input (at label_number (number_of_channel input.channel) (option_map_or (λ (x : Session). x.labels) o []))) (sym is_open)
          (newly_labelled input new s.labels (number_of_channel input.channel) spare_number refl)

      is_wired : Result wired
      is_wired = by (works_ask a linked wired request false may.can refl)
        where
          by : Worked a (works_as a linked wired) linked wired.port (request ∷ []) → Result wired
          by worked = record {
            requests = request ∷ [];
            asks = turn_asks a (works_as a linked wired) (put_ports a.controller.ports linked wired.port) request worked.ports worked.desk tt may_ask
                (λ input away. put_alike a.controller.ports linked may.there wired.port input (λ same is. wired_leads input) (λ same. refl));
          }

    wires_keeps : (o : Option ℕ) → lowest_spare linked.setup s.least s.greatest s.labels ≡ o → Result (wires linked.setup w_counted flow o)
    wires_keeps None is = counted_only
    wires_keeps (Some number) is = is_wired number is

    flow_keeps : (o : Option Label) → label_for s.labels flow ≡ o → Result (counts_flow linked.setup a.controller.desk begun s flow o)
    flow_keeps (Some label) is = used label is
    flow_keeps None is = on_both Result (linked.setup.policy.offers flow (packets_in s_counted.counted flow) && has_room a.controller.desk w_counted)
        (wires linked.setup w_counted flow (lowest_spare linked.setup s.least s.greatest s.labels)) w_counted
        (wires_keeps (lowest_spare linked.setup s.least s.greatest s.labels) refl) counted_only

  session_keeps : (o : Option Session) → linked.port.session ≡ o → (flow : Option FlowId) → Result (counts_by linked.setup a.controller.desk begun o flow)
  session_keeps None is flow = none_asked begun refl refl (λ input labels. refl)
  session_keeps (Some s) is None = none_asked begun refl refl (λ input labels. refl)
  session_keeps (Some s) is (Some flow) = flow_keeps s is flow (label_for s.labels flow) refl

  packet_keeps : (packet : List ℕ) → KeepsMirrors a (counted_at a linked.setup.port packet)
  packet_keeps packet = subst (KeepsMirrors a) (sym (at_port_is a linked.setup.port (λ setup desk w. counts setup desk w packet) linked may.there))
      (session_keeps linked.port.session refl (packet_flow packet))

pub packets_keep_mirrors : PacketsKeepMirrors
packets_keep_mirrors a linked packet may = packet_keeps a linked may packet
