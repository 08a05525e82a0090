-- *Counting*: a packet of the default channel is counted, a flow is offered a label

use Rattle.std.proofs.Common.{◌≡◌, ℕ, Bool, true, false, List, [], Option, None, Some, refl, sym, ◌∙◌, ap, subst, if◌then◌else◌}
use Rattle.std.specs.Prelude.{◌&&◌, is_some, not}
use Rattle.std.specs.Option.{option_map, option_map_or}
use Rattle.law_port_views.specs.port_model.Words.{Channel, label_channel_of, State, Estab, is_estab, FlowId, same_flow, AddBranch, at, Desk, Setup, is_between, label_numbers, label_end, control_end, Label, Wiring, label_number, serves, is_spare, lowest_spare, label_for, counted_once, Session, Work, with_session, with_new_label, label_at, labels_of, packet_flow, wires, counts_in, used_label, counts_flow, counts_by, counts}
use Rattle.law_port_views.specs.ordered_lists.Ordered.{InOrder}
use Rattle.law_port_views.specs.law_label_line.Cells.{Role, Downstream, Upstream, Cell}
use Rattle.law_port_views.specs.law_label_line.Line as lines
use Rattle.law_port_views.specs.law_label_line.Line.{Line}
use Rattle.law_port_views.specs.law_label_line.Downstream.{wire}
use Rattle.law_port_views.specs.law_label_line.Moves.{Wire}
use Rattle.law_port_views.specs.port_model.declared.action.Action.{Action}
use Rattle.law_port_views.specs.port_model.declared.action.Action.TheVariants.{Ask}
use Rattle.law_port_views.specs.port_model.Port.{with_action}
use Rattle.law_port_views.specs.law_port_facts.Port.{IsBefore}
use Rattle.law_port_views.proofs.law_port_facts.Keyed.{by_eq, find_at}
use Rattle.law_port_views.proofs.law_port_facts.Found.{find_passes}
use Rattle.law_port_views.proofs.law_port_facts.Rules.{and_second}
use Rattle.law_port_views.specs.Link.{LinkLabel}
use Rattle.law_port_views.specs.Flows.{flow_number}
use Rattle.law_port_views.specs.Shown.{label_of}
use Rattle.law_port_views.specs.Reaching.{Leads}
use Rattle.law_port_views.proofs.Reach.{stays, by_move}
use Rattle.law_port_views.proofs.Says.{acts_quiet}
use Rattle.law_port_views.proofs.Tells.{estab_down}
use Rattle.law_port_views.proofs.Live.{idle_acts, idle_session}
use Rattle.law_port_views.proofs.Labels.{labelled, own_new_label, other_new_label, new_label_up}
use Rattle.law_port_views.proofs.Recalling.{room_acts}
use Rattle.law_port_views.proofs.Answering.{used_leads}
use Rattle.law_label_steps.specs.Follows.{IsUnspent, Follows}
use Rattle.law_label_steps.proofs.Follow.{follows_self, follows_on, follows_if, follows_still, leads_live, unspent_session, unspent_label}
use Rattle.law_label_steps.proofs.Quiet.{IsAlike, alike_follows}

spare_none : {A : Type 0} (o : Option A) → not (is_some o) ≡ true → o ≡ None
spare_none None e = refl
spare_none (Some x) e = absurd (cc e)

module _ (link : LinkLabel) (like : Type 0) (queued : List Cell) (setup : Setup) (desk : Desk) where
  -- *A label is taken for a flow*
  abbrev taken : (number : ℕ) → FlowId → Label
  taken number flow = record { number = number; state = Wiring; flow = flow; idle = 0; ticks = 0; join = None }

  abbrev asking : (number : ℕ) → Action
  asking number = Ask (AddBranch (label_end setup.port number) (control_end setup.port number)) false

  wires_unspent : (w : Work) (flow : FlowId) (number : ℕ) → IsUnspent w → IsUnspent (wires setup w flow (Some number))
  wires_unspent w flow number n = room_acts (with_new_label w (taken number flow)) (asking number) (unspent_session w _ (λ z e. refl) n)

  wires_number : (role : Role) (w : Work) (s : Session) (flow : FlowId) (number : ℕ) → w.port.session ≡ Some s → at label_number number s.labels ≡ None
      → Follows role link like queued w (wires setup w flow (Some number))
  wires_number Downstream w s flow number opened none = (
    wires_unspent w flow number,
    leads_live Downstream link like queued w (wires setup w flow (Some number))
        (λ h. ap (λ (v : Work). with_action v (asking number)) (idle_session w _ h) ∙ idle_acts w (asking number) h)
        (λ live line h. by_eq number link.label
        (λ same t. (let here : at label_number link.label s.labels ≡ None = subst (λ (j : ℕ). at label_number j s.labels ≡ None) same none in
        let spare : line.label ≡ lines.Spare = h.label ∙ ap label_of
        (ap (λ (o : Option Session). at label_number link.label (option_map_or (λ (z : Session). z.labels) o [])) opened ∙ here) in
        let estab : line.downstream.state ≡ Estab = estab_down link like queued w s line opened h in
        by_move Downstream link like queued (wires setup w flow (Some number)) line (labelled line (lines.Wiring (flow_number flow)) line.flow) (Wire (flow_number flow))
        (ap (λ (k : lines.Label). wire line k (flow_number flow)) spare
        ∙ ap (λ (state : State). if is_estab state then labelled line (lines.Wiring (flow_number flow)) line.flow else line) estab)
        (acts_quiet link like queued Downstream (with_new_label w (taken number flow)) (asking number) (labelled line (lines.Wiring (flow_number flow)) line.flow) (record { none = refl; own = tt })
        (own_new_label link like queued w s (taken number flow) line (lines.Wiring (flow_number flow)) line.flow live opened here same refl refl h)) refl))
        (λ other t. stays Downstream link like queued (wires setup w flow (Some number)) line
        (acts_quiet link like queued Downstream (with_new_label w (taken number flow)) (asking number) line (record { none = refl; own = tt })
        (other_new_label link like queued w s (taken number flow) line live opened other h)))),
  )
  wires_number Upstream w s flow number opened none = follows_still Upstream link like queued w (wires setup w flow (Some number)) (wires_unspent w flow number)
      (λ line h. acts_quiet link like queued Upstream (with_new_label w (taken number flow)) (asking number) line (record { none = refl; own = tt })
      (new_label_up link like queued w (taken number flow) line h))

  wires_follow : (role : Role) (w : Work) (s : Session) (flow : FlowId) (least greatest : Channel) (o : Option ℕ) → w.port.session ≡ Some s
      → lowest_spare setup least greatest s.labels ≡ o → Follows role link like queued w (wires setup w flow o)
  wires_follow role w s flow least greatest None opened found = follows_self role link like queued w
  wires_follow role w s flow least greatest (Some number) opened found = wires_number role w s flow number opened
      (spare_none (at label_number number s.labels) (and_second (is_between least greatest (label_channel_of number)) (is_spare s.labels number)
      (find_passes (λ n. is_between least greatest (label_channel_of n) && is_spare s.labels n) (label_numbers setup) number found)))

  offers_follow : (role : Role) (w : Work) (s : Session) (flow : FlowId) (labels : List Label) (counts : Bool) (least greatest : Channel) → w.port.session ≡ Some s → labels ≡ s.labels
      → Follows role link like queued w (if counts then wires setup w flow (lowest_spare setup least greatest labels) else w)
  offers_follow role w s flow labels counts least greatest opened same = follows_if role link like queued w
      (wires setup w flow (lowest_spare setup least greatest labels)) w counts
      (λ t. wires_follow role w s flow least greatest (lowest_spare setup least greatest labels) opened (ap (lowest_spare setup least greatest) (sym same)))
      (λ f. follows_self role link like queued w)

  -- *A flow is counted*
  counts_in_follows : (role : Role) (w : Work) (flow : FlowId) (s held : Session) → w.port.session ≡ Some held → IsAlike held s
      → Follows role link like queued w (counts_in setup desk w flow s)
  counts_in_follows role w flow s held opened alike =
      follows_on role link like queued w (with_session w (λ old. s)) (counts_in setup desk w flow s)
      (alike_follows link like queued role w (λ old. s) (λ old e. (let same : held ≡ old = some_same held old (sym opened ∙ e) in subst (λ (x : Session). IsAlike x s) same alike)))
      (given w.halted refl)
    where
      some_same : (x y : Session) → ◌≡◌ {A = Option Session} (Some x) (Some y) → x ≡ y
      some_same x y e = cc

      given : (b : Bool) → w.halted ≡ b → Follows role link like queued (with_session w (λ old. s)) (counts_in setup desk w flow s)
      given true h = offers_follow role (with_session w (λ old. s)) held flow s.labels _ s.least s.greatest
          (ap (λ (b : Bool). (if b then w else record w { port = record w.port { session = option_map (λ (old : Session). s) w.port.session } }).port.session) h ∙ opened) alike.labels
      given false h = offers_follow role (with_session w (λ old. s)) s flow s.labels _ s.least s.greatest
          (ap (λ (b : Bool). (if b then w else record w { port = record w.port { session = option_map (λ (old : Session). s) w.port.session } }).port.session) h
          ∙ ap (option_map (λ (old : Session). s)) opened) refl

  counts_flow_follows : (role : Role) (w : Work) (s : Session) (flow : FlowId) (o : Option Label) → w.port.session ≡ Some s → InOrder IsBefore s.labels → label_for s.labels flow ≡ o
      → Follows role link like queued w (counts_flow setup desk w s flow o)
  counts_flow_follows role w s flow (Some label) opened ascend found =
      let held : label_at w.port label.number ≡ Some label
      = ap (λ (o : Option Session). at label_number label.number (option_map_or (λ (x : Session). x.labels) o [])) opened
      ∙ find_at label_number (λ (l : Label). serves l.state && same_flow l.flow flow) s.labels label ascend found in (
        unspent_label w (record label { idle = 0 }),
        subst (λ (o : Option Label). Leads role link like queued w (used_label w o)) held (used_leads link like queued role w label.number),
      )
  counts_flow_follows role w s flow None opened ascend found = counts_in_follows role w flow (record s { counted = counted_once s.counted flow }) s opened
      (record { labels = refl; number = refl; known = refl; expected = refl })

  counts_by_follows : (role : Role) (w : Work) (o : Option Session) (flow : Option FlowId) → w.port.session ≡ o → InOrder IsBefore (option_map_or (λ (s : Session). s.labels) o [])
      → Follows role link like queued w (counts_by setup desk w o flow)
  counts_by_follows role w None flow opened ascend = follows_self role link like queued w
  counts_by_follows role w (Some s) None opened ascend = follows_self role link like queued w
  counts_by_follows role w (Some s) (Some flow) opened ascend = counts_flow_follows role w s flow (label_for s.labels flow) opened ascend refl

  pub counts_follow : (role : Role) (w : Work) (packet : List ℕ) → InOrder IsBefore (labels_of w.port) → Follows role link like queued w (counts setup desk w packet)
  counts_follow role w packet ascend = counts_by_follows role w w.port.session (packet_flow packet) refl ascend
