-- what a port does at a frame of its default channel, or of a label's, leaves desk and ports tied

use Rattle.std.proofs.Common.{◌≡◌, ◌≢◌, ◌⊎◌, inl, inr, ℕ, ◌<◌, Bool, true, false, not, List, [], ◌∷◌, filter, Option, None, Some, is_some, refl, sym, ◌∙◌, ap, subst, if◌then◌else◌}
use Rattle.std.specs.Prelude.{◌&&◌}
use Rattle.std.specs.Option.{option_map, option_map_or}
use Rattle.world_model.specs.Words.{PortNo, End, FlowId, label_channel_of, same_flow, Request, AddBranch, Ask, at, put, entered, key_le, label_end, control_end, Desk, Standing, Label, Wiring, label_number, label_at, label_for, labels_of, lowest_spare, serves, Grant, grant_label, Session, Work, has_room, with_session, packets_in, counted_once, packet_flow, wires, counts_flow, counts_by, counts, used, used_label, with_label, Linked, port_key, linked_at, begins, Rule, works, works_as, at_port}
use Rattle.world_model.specs.Controller.{Acted}
use Rattle.world_model.specs.port_model.Desk.{asked}
use Rattle.world_model.specs.port_model.Labels.{is_spare}
use Rattle.world_model.specs.port_model.Setup.{label_numbers, is_between}
use Rattle.law_live_journeys.specs.law_port_facts.ordered_lists.Ordered.{Every, InOrder}
use Rattle.law_live_journeys.proofs.law_port_facts.ordered_lists.Every.{every_map2}
use Rattle.law_live_journeys.proofs.law_port_facts.Keyed.{on_both, at_key, find_at}
use Rattle.law_live_journeys.proofs.law_port_facts.Found.{find_passes}
use Rattle.law_live_journeys.specs.law_input_steps.Asking.{concerns}
use Rattle.law_live_journeys.specs.law_live_mirrors.Asking.{IsPlain, CanAsk, MayWire, IsFree}
use Rattle.law_live_journeys.proofs.law_live_mirrors.Nodes.{Worked, works_plain, works_ask}
use Rattle.law_live_journeys.specs.law_live_bindings.Law.{label_branch}
use Rattle.law_live_journeys.proofs.law_live_bindings.Places.{at_entered_same, at_entered_other}
use Rattle.law_live_ease.proofs.ComingOwed.{Has, Wires, Idles, of_label, of_grant, Owes, IsOf, owed, moves, Tie}
use Rattle.law_live_ease.proofs.ComingSteps.{OwedAlike, tied_alike, IsOffInput, tied_asked}
use Rattle.law_live_ease.proofs.ComingChanges.{has_put, had_put, has_more, had_more, owed_alike, owed_or}

abbrev pub TieOf : Acted → Type 0
TieOf a = Tie a.controller.ports a.controller.desk

pub tie_by : (a : Acted) (ports : List Linked) (desk : Desk) → a.controller.ports ≡ ports → a.controller.desk ≡ desk → Tie ports desk → TieOf a
tie_by a ports desk same_ports same_desk tie = subst (λ (ps : List Linked). Tie ps a.controller.desk) (sym same_ports) (subst (Tie ports) (sym same_desk) tie)

-- *A port works*, and asks nothing
pub plain_ties : (a : Acted) (linked : Linked) (w : Work) → linked_at a.controller linked.setup.port ≡ Some linked → Every IsPlain w.actions → OwedAlike linked (record linked { port = w.port })
    → TieOf a → TieOf (works_as a linked w)
plain_ties a linked w there plain alike tie = by (works_plain a linked w plain)
  where
    by : Worked a (works_as a linked w) linked w.port [] → TieOf (works_as a linked w)
    by worked = tie_by (works_as a linked w) (put port_key (record linked { port = w.port }) a.controller.ports) a.controller.desk worked.ports worked.desk
        (tied_alike a.controller.ports a.controller.desk linked (record linked { port = w.port }) there refl alike tie)

-- or it asks for a branch of its own, where nothing stands on the input
none_on : {A : Type 0} (test : A → Bool) (xs : List A) → filter test xs ≡ [] → Every (λ (x : A). test x ≡ false) xs
none_on test [] none = tt
none_on {A} test (x ∷ xs) none = by (test x) refl (λ rest. none_on test xs rest) none
  where
    by : (b : Bool) → test x ≡ b → (filter test xs ≡ [] → Every (λ (y : A). test y ≡ false) xs) → (if b then x ∷ filter test xs else filter test xs) ≡ [] → Every (λ (y : A). test y ≡ false) (x ∷ xs)
    by true t rest e = absurd (cc e)
    by false t rest e = (t, rest e)

owed_off : (linked : Linked) (input output : End) (request : Request) → Owes linked request → concerns input request ≡ false → IsOffInput (AddBranch input output) request
owed_off linked input output _ (of_label k has) away = away
owed_off linked input output _ (of_grant k has) away = away

of_off : (ports : List Linked) (input output : End) (request : Request) → IsOf ports request → concerns input request ≡ false → IsOffInput (AddBranch input output) request
of_off ports input output _ (owed linked request there is) away = owed_off linked input output request is away
of_off ports input output _ (moves i from to apart) away = away

pub asks_ties : (a : Acted) (linked : Linked) (w : Work) (input output : End) → linked_at a.controller linked.setup.port ≡ Some linked → CanAsk a → w.actions ≡ Ask (AddBranch input output) false ∷ []
    → IsFree a.controller.desk input → Owes (record linked { port = w.port }) (AddBranch input output)
    → ((request : Request) → Owes linked request → Owes (record linked { port = w.port }) request)
    → ((request : Request) → Owes (record linked { port = w.port }) request → Owes linked request ⊎ (request ≡ AddBranch input output))
    → TieOf a → TieOf (works_as a linked w)
asks_ties a linked w input output there can is free own forth back tie = by (works_ask a linked w (AddBranch input output) false can is)
  where
    off : Every (λ (s : Standing). IsOffInput (AddBranch input output) s.request) a.controller.desk.standing
    off = every_map2 (λ (s : Standing). IsOf a.controller.ports s.request) (λ (s : Standing). concerns input s.request ≡ false) (λ (s : Standing). IsOffInput (AddBranch input output) s.request)
        a.controller.desk.standing (λ s of away. of_off a.controller.ports input output s.request of away) tie.standing (none_on (λ (s : Standing). concerns input s.request) a.controller.desk.standing free)

    by : Worked a (works_as a linked w) linked w.port (AddBranch input output ∷ []) → TieOf (works_as a linked w)
    by worked = tie_by (works_as a linked w) (put port_key (record linked { port = w.port }) a.controller.ports) (asked a.controller.desk (AddBranch input output)) worked.ports worked.desk
        (tied_asked a.controller.desk (AddBranch input output) off a.controller.ports linked (record linked { port = w.port }) there refl own forth back tie)

-- *A rule* of a port
pub rule_ties : (a : Acted) (port : PortNo) (rule : Rule)
    → ((linked : Linked) → linked_at a.controller linked.setup.port ≡ Some linked → linked.setup.port.0 ≡ port.0 → TieOf (works_as a linked (rule linked.setup a.controller.desk (begins a linked))))
    → TieOf a → TieOf (at_port a port rule)
rule_ties a port rule each tie = by (linked_at a.controller port) refl
  where
    by : (o : Option Linked) → linked_at a.controller port ≡ o → TieOf (works a rule o)
    by None found = tie
    by (Some linked) found = each linked (subst (λ k. at port_key k a.controller.ports ≡ Some linked) (sym same) found) same
      where
        same : linked.setup.port.0 ≡ port.0
        same = at_key port_key port.0 a.controller.ports linked found

-- *Labels of a session* that change alike
abbrev labels_by : Option Session → List Label
labels_by o = option_map_or (λ (x : Session). x.labels) o []

module _ (linked : Linked) where
  -- no label and no grant comes to be wired or idle, or is so no longer
  pub alike_by : (w : Work) → ((k : ℕ) → Has label_number Wires (labels_of linked.port) k → Has label_number Wires (labels_of w.port) k)
      → ((k : ℕ) → Has label_number Wires (labels_of w.port) k → Has label_number Wires (labels_of linked.port) k)
      → ((k : ℕ) → Has grant_label Idles linked.port.grants k → Has grant_label Idles w.port.grants k)
      → ((k : ℕ) → Has grant_label Idles w.port.grants k → Has grant_label Idles linked.port.grants k) → OwedAlike linked (record linked { port = w.port })
  alike_by w labels_forth labels_back grants_forth grants_back = (
    owed_alike linked.setup (labels_of linked.port) (labels_of w.port) linked.port.grants w.port.grants labels_forth grants_forth,
    owed_alike linked.setup (labels_of w.port) (labels_of linked.port) w.port.grants linked.port.grants labels_back grants_back,
  )

  -- the same labels, and grants that are put
  pub same_alike : (w : Work) → labels_of w.port ≡ labels_of linked.port → w.port.grants ≡ linked.port.grants → OwedAlike linked (record linked { port = w.port })
  same_alike w labels grants = alike_by w (λ k has. subst (λ (ls : List Label). Has label_number Wires ls k) (sym labels) has) (λ k has. subst (λ (ls : List Label). Has label_number Wires ls k) labels has)
      (λ k has. subst (λ (gs : List Grant). Has grant_label Idles gs k) (sym grants) has) (λ k has. subst (λ (gs : List Grant). Has grant_label Idles gs k) grants has)

  module _ (s : Session) (is_open : linked.port.session ≡ Some s) where
    pub own_labels : labels_of linked.port ≡ s.labels
    own_labels = ap labels_by is_open

    pub from_session : (k : ℕ) → Has label_number Wires (labels_of linked.port) k → Has label_number Wires s.labels k
    from_session k has = subst (λ (ls : List Label). Has label_number Wires ls k) own_labels has

    pub to_session : (k : ℕ) → Has label_number Wires s.labels k → Has label_number Wires (labels_of linked.port) k
    to_session k has = subst (λ (ls : List Label). Has label_number Wires ls k) (sym own_labels) has

    -- a label is put, in the state that it has
    pub put_alike : (w : Work) (label after : Label) → labels_of w.port ≡ put label_number after s.labels → w.port.grants ≡ linked.port.grants → at label_number after.number s.labels ≡ Some label
        → after.state ≡ label.state → OwedAlike linked (record linked { port = w.port })
    put_alike w label after labels grants held same = alike_by w
        (λ k has. subst (λ (ls : List Label). Has label_number Wires ls k) (sym labels) (has_put label_number Wires after s.labels label held (λ wiring. same ∙ wiring) k (from_session k has)))
        (λ k has. to_session k (had_put label_number Wires after s.labels label held (λ wiring. sym same ∙ wiring) k (subst (λ (ls : List Label). Has label_number Wires ls k) labels has)))
        (λ k has. subst (λ (gs : List Grant). Has grant_label Idles gs k) (sym grants) has) (λ k has. subst (λ (gs : List Grant). Has grant_label Idles gs k) grants has)

-- *A label is used*
module _ (b : Acted) (linked : Linked) (there : linked_at b.controller linked.setup.port ≡ Some linked) where
  labels_put : (label : Label) (s : Session) → linked.port.session ≡ Some s → labels_of (with_label (begins b linked) label).port ≡ put label_number label s.labels
  labels_put label s is_open = ap (λ (o : Option Session). labels_by (option_map (λ (x : Session). record x { labels = put label_number label x.labels }) o)) is_open

  pub uses_ties : (label : Label) (s : Session) → linked.port.session ≡ Some s → at label_number label.number s.labels ≡ Some label → TieOf b → TieOf (works_as b linked (used_label (begins b linked) (Some label)))
  uses_ties label s is_open held = plain_ties b linked (with_label (begins b linked) (record label { idle = 0 })) there tt
      (put_alike linked s is_open (with_label (begins b linked) (record label { idle = 0 })) label (record label { idle = 0 }) (labels_put (record label { idle = 0 }) s is_open) refl held refl)

  idle_ties : TieOf b → TieOf (works_as b linked (begins b linked))
  idle_ties = plain_ties b linked (begins b linked) there tt (same_alike linked (begins b linked) refl refl)

  pub used_ties : (number : ℕ) → TieOf b → TieOf (works_as b linked (used (begins b linked) number))
  used_ties number tie = by_label (label_at linked.port number) refl
    where
      in_session : (label : Label) → label_at linked.port number ≡ Some label → (o : Option Session) → linked.port.session ≡ o → TieOf (works_as b linked (used_label (begins b linked) (Some label)))
      in_session label found None closed = absurd (cc (sym (ap (λ (o : Option Session). at label_number number (labels_by o)) closed) ∙ found))
      in_session label found (Some s) is_open = uses_ties label s is_open (subst (λ n. at label_number n s.labels ≡ Some label) (sym (at_key label_number number s.labels label held)) held) tie
        where
          held : at label_number number s.labels ≡ Some label
          held = sym (ap (λ (o : Option Session). at label_number number (labels_by o)) is_open) ∙ found

      by_label : (o : Option Label) → label_at linked.port number ≡ o → TieOf (works_as b linked (used_label (begins b linked) o))
      by_label None found = idle_ties tie
      by_label (Some label) found = in_session label found linked.port.session refl

  -- *A packet is counted*
  module _ (may : MayWire b linked) (tie : TieOf b) where
    abbrev Ties : Work → Type 0
    Ties w = TieOf (works_as b linked w)

    module _ (s : Session) (is_open : linked.port.session ≡ Some s) (flow : FlowId) where
      in_order : InOrder (λ (x y : Label). label_number x < label_number y) s.labels
      in_order = subst (InOrder (λ (x y : Label). label_number x < label_number y)) (own_labels linked s is_open) may.ascend

      abbrev s_counted : Session
      s_counted = record s { counted = counted_once s.counted flow }

      abbrev w_counted : Work
      w_counted = with_session (begins b linked) (λ old. s_counted)

      counts_alone : Ties w_counted
      counts_alone = plain_ties b linked w_counted there tt (same_alike linked w_counted
          (ap (λ (o : Option Session). labels_by (option_map (λ (old : Session). s_counted) o)) is_open ∙ sym (own_labels linked s is_open)) refl) tie

      -- a spare label is wired
      module _ (k : ℕ) (lowest : lowest_spare linked.setup s.least s.greatest s.labels ≡ Some k) where
        abbrev new : Label
        new = record { number = k; state = Wiring; flow = flow; idle = 0; ticks = 0; join = None }

        abbrev wired : Work
        wired = wires linked.setup w_counted flow (Some k)

        spare : at label_number k s.labels ≡ None
        spare = none (at label_number k s.labels) (second (is_between s.least s.greatest (label_channel_of k)) (is_spare s.labels k)
            (find_passes (λ n. is_between s.least s.greatest (label_channel_of n) && is_spare s.labels n) (label_numbers linked.setup) k lowest))
          where
            second : (x y : Bool) → (x && y) ≡ true → y ≡ true
            second true y e = e
            second false y e = absurd (cc e)

            none : (o : Option Label) → not (is_some o) ≡ true → o ≡ None
            none None e = refl
            none (Some label) e = absurd (cc e)

        labels_then : labels_of wired.port ≡ entered (key_le label_number) new s.labels
        labels_then = ap (λ (o : Option Session). labels_by (option_map (λ (x : Session). record x { labels = entered (key_le label_number) new x.labels }) (option_map (λ (old : Session). s_counted) o))) is_open

        now : at label_number k (labels_of wired.port) ≡ Some new
        now = ap (at label_number k) labels_then ∙ at_entered_same label_number (key_le label_number) new s.labels spare

        others : (n : ℕ) → k ≢ n → at label_number n (labels_of wired.port) ≡ at label_number n s.labels
        others n differs = ap (at label_number n) labels_then ∙ at_entered_other label_number (key_le label_number) new n s.labels differs

        forth : (request : Request) → Owes linked request → Owes (record linked { port = wired.port }) request
        forth = owed_alike linked.setup (labels_of linked.port) (labels_of wired.port) linked.port.grants wired.port.grants
            (λ n has. has_more label_number Wires new s.labels (labels_of wired.port) spare now others n (from_session linked s is_open n has)) (λ n has. has)

        back : (request : Request) → Owes (record linked { port = wired.port }) request → Owes linked request ⊎ (request ≡ label_branch linked.setup k)
        back = owed_or linked.setup (labels_of wired.port) (labels_of linked.port) wired.port.grants linked.port.grants (label_branch linked.setup k)
            (λ n has. elim (had_more label_number Wires new s.labels (labels_of wired.port) spare now others n has) [
              | inl was ↦ inl (to_session linked s is_open n was)
              | inr same ↦ inr (ap (label_branch linked.setup) same)
            ]) (λ n has. inl has)

        wires_ties : Ties wired
        wires_ties = asks_ties b linked wired (label_end linked.setup.port k) (control_end linked.setup.port k) there may.can refl
            (may.free k (ap (at label_number k) (own_labels linked s is_open) ∙ spare)) (of_label k (record { item = new; held = now; is = refl })) forth back tie

      by_spare : (o : Option ℕ) → lowest_spare linked.setup s.least s.greatest s.labels ≡ o → Ties (wires linked.setup w_counted flow o)
      by_spare None is = counts_alone
      by_spare (Some k) is = wires_ties k is

      by_flow : (o : Option Label) → label_for s.labels flow ≡ o → Ties (counts_flow linked.setup b.controller.desk (begins b linked) s flow o)
      by_flow (Some label) is = uses_ties label s is_open (find_at label_number (λ (x : Label). serves x.state && same_flow x.flow flow) s.labels label in_order is) tie
      by_flow None is = on_both Ties (linked.setup.policy.offers flow (packets_in s_counted.counted flow) && has_room b.controller.desk w_counted)
          (wires linked.setup w_counted flow (lowest_spare linked.setup s.least s.greatest s.labels)) w_counted (by_spare (lowest_spare linked.setup s.least s.greatest s.labels) refl) counts_alone

    by_session : (o : Option Session) → linked.port.session ≡ o → (flow : Option FlowId) → Ties (counts_by linked.setup b.controller.desk (begins b linked) o flow)
    by_session None is flow = idle_ties tie
    by_session (Some s) is None = idle_ties tie
    by_session (Some s) is (Some flow) = by_flow s is flow (label_for s.labels flow) refl

    pub counts_ties : (packet : List ℕ) → Ties (counts linked.setup b.controller.desk (begins b linked) packet)
    counts_ties packet = by_session linked.port.session refl (packet_flow packet)
