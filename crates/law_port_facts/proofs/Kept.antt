-- each step of a port at work keeps what holds of a port

use Rattle.std.proofs.Common.{◌≡◌, ◌≢◌, ℕ, ◌≤◌, ◌<◌, ◌+◌, Bool, true, false, List, [], ◌∷◌, ◌++◌, length, Option, None, Some, refl, sym, ◌∙◌, ap, subst, arith, length-append, ◌⊎◌, inl, inr}
use Rattle.std.specs.Prelude.{not, ◌||◌, is_some, nat_lt}
use Rattle.std.specs.Option.{option_map, option_map_or}
use Rattle.port_model.specs.Words.{End, Hello, Peer, Clearing, Said, Answer, Quiet, Send, Open, Side, IsSide, is_estab, is_open, same_peer, heard_from, hello_of, ifmp_answer, AddBranch, DeleteTree, Bind, Free, Opened, at, put, without, entered, key_le, Desk, on_input, Setup, is_in_range, label_end, control_end, Label, Wiring, Offered, Wired, label_number, is_spare, Grant, GrantState, Idle, ByController, grant_label, is_leaving, most_grants, Session, Work, halts, with_session, with_label, without_label, with_new_label, with_grants, with_grant, without_grant, label_at, labels_of, desk_after, has_room, Unnumbered, last_number, own_instance, greets, tells_in, tells, is_spent, halts_if_spent, spent_number, first_session, opens, accepts}
use Rattle.port_model.specs.adjacency_table.declared.message.Answer.TheVariants.{Reset}
use Rattle.port_model.specs.adjacency_table.Side as sides
use Rattle.port_model.specs.ifmp_wire.declared.message.Message.TheVariants.{Adjacency}
use Rattle.ordered_lists.specs.Ordered.{Every, InOrder}
use Rattle.port_model.specs.declared.action.Action.{Action}
use Rattle.port_model.specs.declared.action.Action.TheVariants as actions
use Rattle.port_model.specs.declared.action.Action.TheVariants.{Say, Ask, Note, CutChain, TakeBack}
use Rattle.port_model.specs.Port.{Port, with_action}
use Rattle.port_model.specs.Saying.{peer_instance}
use Rattle.port_model.specs.Adjacency.{answers, steps}
use Rattle.law_port_facts.specs.Port.{setup_port, IsLabelEnd, IsLabel, IsBefore, IsGrant, IsApart, OwesNothing, owes_nothing, GrantOwesNothing, IsPort, leads_label, leads_grant, frees_label, IsAction, IsWork}
use Rattle.law_port_facts.proofs.Keyed.{on_both, at_key, at_every, put_every, without_every, entered_every, put_order, without_order, entered_order, put_length, without_length, every_more, apart_more}
use Rattle.law_port_facts.proofs.Turns.{IsTurned, received_turns, ticked_turns}
use Rattle.law_port_facts.proofs.Steps.{IsTurn, hears, ages, IsJoined, of_label, of_grant, MayOwe, in_session, was_live, Step, greeting, telling, closing, noting, turning, heard, minding, relabelling, wiring, binding, quitting, unwiring, freeing, accepting, granting, regranting, starting, ending, taking_back, Goes, goes_keeps}

module _ (setups : List Setup) (setup : Setup) (linked : at setup_port setup.port.0 setups ≡ Some setup) where
  abbrev IsHeld : List Label → Type 0
  IsHeld labels = Every (IsLabel setups setup) labels × InOrder IsBefore labels

  -- a label of the port in its range
  pub own_end : (number : ℕ) → is_in_range setup number ≡ true → IsLabelEnd setups (label_end setup.port number)
  own_end number inside = record { setup = setup; number = number; linked = linked; in_range = inside; is = refl }

  -- *The port, where only its labels change*
  pub port_with : (before after : Port) → after.adjacency ≡ before.adjacency → is_some after.session ≡ is_some before.session → after.grants ≡ before.grants
      → IsHeld (labels_of after) → IsPort setups setup before → IsPort setups setup after
  port_with before after side session grants held h = record {
    side = subst (λ (a : Side Peer). IsSide a) (sym side) h.side;
    session = session ∙ h.session ∙ ap (λ (a : Side Peer). is_estab a.state) (sym side);
    labels = held.0;
    ascend = held.1;
    grants = subst (Every (IsGrant setups setup)) (sym grants) h.grants;
    apart = subst (InOrder IsApart) (sym grants) h.apart;
    few = subst (λ (gs : List Grant). length gs ≤ most_grants) (sym grants) h.few;
    closed = λ e. subst (Every GrantOwesNothing) (sym grants) (h.closed (ap (λ (a : Side Peer). is_estab a.state) (sym side) ∙ e));
    cleared = λ e. subst (λ (p : Side Peer). (p.state ≡ Clearing) ⊎ (after.grants ≡ [])) (sym side)
        (subst (λ (gs : List Grant). (before.adjacency.state ≡ Clearing) ⊎ (gs ≡ [])) (sym grants) (h.cleared (ap (λ (a : Side Peer). is_estab a.state) (sym side) ∙ e)));
  }

  -- a session changes, and its labels are held as labels are
  pub session_kept : (w : Work) (change : Session → Session) → ((s : Session) → w.port.session ≡ Some s → IsHeld s.labels → IsHeld (change s).labels)
      → IsWork setups setup w → IsWork setups setup (with_session w change)
  session_kept w change keeps h = on_both (IsWork setups setup) w.halted w (record w { port = record w.port { session = option_map change w.port.session } }) h
      (record { port = port_with w.port (record w.port { session = option_map change w.port.session }) refl (same w.port.session) refl (held w.port.session refl (h.port.labels, h.port.ascend)) h.port; actions = h.actions })
    where
      same : (o : Option Session) → is_some (option_map change o) ≡ is_some o
      same None = refl
      same (Some s) = refl

      held : (o : Option Session) → w.port.session ≡ o → IsHeld (labels_of w.port) → IsHeld (option_map_or (λ (s : Session). s.labels) (option_map change o) [])
      held None is hs = (tt, tt)
      held (Some s) is hs = keeps s is (subst (λ (o : Option Session). IsHeld (option_map_or (λ (s : Session). s.labels) o [])) is hs)

  -- *Actions*
  pub acts_kept : (w : Work) (action : Action) → IsAction setups action → IsWork setups setup w → IsWork setups setup (with_action w action)
  acts_kept w action fits h = on_both (IsWork setups setup) w.halted w (record w { actions = w.actions ++ action ∷ [] }) h
      (record { port = h.port; actions = every_more (IsAction setups) w.actions action h.actions fits })

  pub halts_kept : (w : Work) → IsWork setups setup w → IsWork setups setup (halts w)
  halts_kept w h = let acted : IsWork setups setup (with_action w actions.Reset) = acts_kept w actions.Reset tt h in record { port = acted.port; actions = acted.actions }

  pub tells_kept : (w : Work) (message : Unnumbered) → IsWork setups setup w → IsWork setups setup (tells w message)
  tells_kept w message h = told w.port.session
    where
      told : (o : Option Session) → IsWork setups setup (tells_in w message o)
      told None = h
      told (Some s) =
          let next : Work = with_session w (λ session. record session { number = s.number + 1 }) in
          let spent : Work = with_session w (λ session. record session { number = spent_number }) in
          let said : Action = Say (message (own_instance w.port.adjacency) (peer_instance w.port.adjacency) s.number) in
          on_both (IsWork setups setup) (nat_lt s.number last_number) (with_action next said) spent (acts_kept next said tt (session_kept w (λ session. record session { number = s.number + 1 }) (λ s e held. held) h)) (session_kept w (λ session. record session { number = spent_number }) (λ s e held. held) h)

  pub closes_kept : (w : Work) → IsWork setups setup w → IsWork setups setup (halts_if_spent w)
  closes_kept w h = on_both (IsWork setups setup) (is_spent w.port.session) (halts w) w (halts_kept w h) h

  -- *The adjacency*
  turned : (side : Side Peer) (step : sides.Step Peer) → IsSide side → IsTurn side step → IsTurned side step
  turned side step h (hears source hello) = received_turns side (heard_from source hello) same_peer h
  turned side step h ages = ticked_turns side h

  opens_kept : (w : Work) → IsSide w.port.adjacency → is_estab w.port.adjacency.state ≡ true → Every (IsGrant setups setup) w.port.grants → InOrder IsApart w.port.grants
      → length w.port.grants ≤ most_grants → Every (IsAction setups) w.actions → IsWork setups setup (opens setup w)
  opens_kept w side estab grants apart few fits =
      let fresh : Work = record w { port = record w.port { session = Some (first_session setup) } } in
      let port : IsPort setups setup fresh.port = record {
        side = side;
        session = sym estab;
        labels = tt;
        ascend = tt;
        grants = grants;
        apart = apart;
        few = few;
        closed = λ e. absurd (cc (sym estab ∙ e));
        cleared = λ e. absurd (cc (sym estab ∙ e));
      } in
      acts_kept fresh (Note (Opened setup.node setup.port)) tt (record { port = port; actions = fits })

  -- the side turned, and didn't open
  side_kept : (w : Work) (side : Side Peer) → IsSide side → is_estab side.state ≡ is_estab w.port.adjacency.state
      → (w.port.adjacency.state ≡ Clearing → side.state ≡ Clearing) → IsWork setups setup w → IsWork setups setup (record w { port = record w.port { adjacency = side } })
  side_kept w side is same clearing h =
      let port : IsPort setups setup (record w.port { adjacency = side }) = record {
        side = is;
        session = h.port.session ∙ sym same;
        labels = h.port.labels;
        ascend = h.port.ascend;
        grants = h.port.grants;
        apart = h.port.apart;
        few = h.port.few;
        closed = λ e. h.port.closed (sym same ∙ e);
        cleared = λ e. elim (h.port.cleared (sym same ∙ e)) [ inl c ↦ inl (clearing c) | inr none ↦ inr none ];
      } in
      record { port = port; actions = h.actions }

  -- and it opened, with a message
  greeted_open : (w : Work) (hello : Hello) → IsSide w.port.adjacency → is_estab w.port.adjacency.state ≡ true → Every (IsGrant setups setup) w.port.grants → InOrder IsApart w.port.grants
      → length w.port.grants ≤ most_grants → Every (IsAction setups) w.actions → IsWork setups setup (opens setup (greets w hello))
  greeted_open w hello side estab grants apart few fits =
      let said : Action = Say (Adjacency hello) in
      on_both (λ (v : Work). IsWork setups setup (opens setup v)) w.halted w (record w { actions = w.actions ++ said ∷ [] })
      (opens_kept w side estab grants apart few fits)
      (opens_kept (record w { actions = w.actions ++ said ∷ [] }) side estab grants apart few (every_more (IsAction setups) w.actions said fits tt))

  answers_kept : (w : Work) (side : Side Peer) (answer : Answer (Said Peer) Peer) (next : ℕ) → IsTurned w.port.adjacency (record { side = side; answer = answer })
      → IsWork setups setup w → IsWork setups setup (answers setup (record w { port = record w.port { adjacency = side } }) (ifmp_answer next answer))
  answers_kept w side Quiet next t h = side_kept w side t.side (t.stayed refl) t.clearing h
  answers_kept w side (Send message) next t h = acts_kept (record w { port = record w.port { adjacency = side } }) (Say (Adjacency (hello_of next message))) tt (side_kept w side t.side (t.stayed refl) t.clearing h)
  answers_kept w side (Open None own) next t h = opens_kept (record w { port = record w.port { adjacency = side } }) t.side (t.entered refl) h.port.grants h.port.apart h.port.few h.actions
  answers_kept w side (Open (Some message) own) next t h = greeted_open (record w { port = record w.port { adjacency = side } }) (hello_of next message) t.side (t.entered refl) h.port.grants h.port.apart h.port.few h.actions
  answers_kept w side Reset next t h = halts_kept (record w { port = record w.port { adjacency = side } }) (side_kept w side t.side (t.stayed refl) t.clearing h)

  steps_kept : (w : Work) (step : sides.Step Peer) → IsTurned w.port.adjacency step → IsWork setups setup w → IsWork setups setup (steps setup w step)
  steps_kept w step t h = answers_kept w step.side step.answer (option_map_or (λ (s : Session). s.expected) w.port.session 1) t h

  -- *Labels*
  labels_kept : (w : Work) (change : List Label → List Label) → ((labels : List Label) → labels_of w.port ≡ labels → IsHeld labels → IsHeld (change labels))
      → IsWork setups setup w → IsWork setups setup (with_session w (λ s. record s { labels = change s.labels }))
  labels_kept w change keeps h = session_kept w (λ s. record s { labels = change s.labels })
      (λ s e held. keeps s.labels (ap (λ (o : Option Session). option_map_or (λ (s : Session). s.labels) o []) e) held) h

  -- one that is held changes
  pub label_kept : (w : Work) (label : Label) → IsLabel setups setup label → IsWork setups setup w → IsWork setups setup (with_label w label)
  label_kept w label fits h = labels_kept w (put label_number label)
      (λ labels e held. (put_every label_number (IsLabel setups setup) label labels fits held.0, put_order label_number (λ x y. x < y) label labels held.1)) h

  -- what is found is a label
  pub found_label : (w : Work) (number : ℕ) (label : Label) → label_at w.port number ≡ Some label → IsWork setups setup w → IsLabel setups setup label
  found_label w number label found h = at_every label_number (IsLabel setups setup) number (labels_of w.port) label h.port.labels found

  relabelled : (before after : Label) → after.number ≡ before.number → after.join ≡ before.join → (after.state ≡ Wiring → before.state ≡ Wiring)
      → IsLabel setups setup before → IsLabel setups setup after
  relabelled before after number join still h = record {
    in_range = ap (is_in_range setup) number ∙ h.in_range;
    output = λ output e. h.output output (sym join ∙ e);
    unjoined = λ e. join ∙ h.unjoined (still e);
  }

  new_label_kept : (w : Work) (s : Session) (label : Label) → w.port.session ≡ Some s → is_spare s.labels label.number ≡ true → IsLabel setups setup label
      → IsWork setups setup w → IsWork setups setup (with_new_label w label)
  new_label_kept w s label session spare fits h = labels_kept w (entered (key_le label_number) label)
      (λ labels e held. (
        entered_every label_number (IsLabel setups setup) (key_le label_number) label labels fits held.0,
        entered_order label_number label labels (none_at labels (subst (λ (ls : List Label). is_spare ls label.number ≡ true) (sym (ap (λ (o : Option Session). option_map_or (λ (s : Session). s.labels) o []) session) ∙ e) spare)) held.1,
      )) h
    where
      none_of : (o : Option Label) → not (is_some o) ≡ true → o ≡ None
      none_of None e = refl
      none_of (Some x) e = absurd (cc e)

      none_at : (labels : List Label) → is_spare labels label.number ≡ true → at label_number label.number labels ≡ None
      none_at labels e = none_of (at label_number label.number labels) e

  gone_label_kept : (w : Work) (number : ℕ) → IsWork setups setup w → IsWork setups setup (without_label w number)
  gone_label_kept w number h = labels_kept w (without label_number number)
      (λ labels e held. (without_every label_number (IsLabel setups setup) number labels held.0, without_order label_number (λ x y. x < y) number labels held.1)) h

  -- *Grants*
  pub grants_kept : (w : Work) (grants : List Grant) → Every (IsGrant setups setup) grants → InOrder IsApart grants → length grants ≤ most_grants
      → (is_estab w.port.adjacency.state ≡ false → Every GrantOwesNothing grants)
      → (is_estab w.port.adjacency.state ≡ false → (w.port.adjacency.state ≡ Clearing) ⊎ (grants ≡ [])) → IsWork setups setup w → IsWork setups setup (with_grants w grants)
  grants_kept w grants each apart few closed cleared h = on_both (IsWork setups setup) w.halted w (record w { port = record w.port { grants = grants } }) h (record {
    port = record { side = h.port.side; session = h.port.session; labels = h.port.labels; ascend = h.port.ascend; grants = each; apart = apart; few = few; closed = closed; cleared = cleared };
    actions = h.actions;
  })

  put_none : (grant : Grant) (grants : List Grant) → grants ≡ [] → put grant_label grant grants ≡ []
  put_none grant grants none = ap (put grant_label grant) none

  -- one is another now: it owes nothing where the side isn't in Estab
  pub grant_kept : (w : Work) (grant : Grant) → IsGrant setups setup grant → (is_estab w.port.adjacency.state ≡ false → OwesNothing grant.state)
      → IsWork setups setup w → IsWork setups setup (with_grant w grant)
  grant_kept w grant fits closed h = grants_kept w (put grant_label grant w.port.grants)
      (put_every grant_label (IsGrant setups setup) grant w.port.grants fits h.port.grants)
      (put_order grant_label (λ x y. x ≢ y) grant w.port.grants h.port.apart)
      (subst (λ n. n ≤ most_grants) (sym (put_length grant_label grant w.port.grants)) h.port.few)
      (λ e. put_every grant_label GrantOwesNothing grant w.port.grants (closed e) (h.port.closed e))
      (λ e. elim (h.port.cleared e) [ inl c ↦ inl c | inr none ↦ inr (put_none grant w.port.grants none) ]) h

  pub gone_grant_kept : (w : Work) (label : ℕ) → IsWork setups setup w → IsWork setups setup (without_grant w label)
  gone_grant_kept w label h = grants_kept w (without grant_label label w.port.grants)
      (without_every grant_label (IsGrant setups setup) label w.port.grants h.port.grants)
      (without_order grant_label (λ x y. x ≢ y) label w.port.grants h.port.apart)
      (omega (arith, without_length grant_label label w.port.grants, h.port.few))
      (λ e. without_every grant_label GrantOwesNothing label w.port.grants (h.port.closed e))
      (λ e. elim (h.port.cleared e) [ inl c ↦ inl c | inr none ↦ inr (ap (without grant_label label) none) ]) h

  pub found_grant : (w : Work) (label : ℕ) (grant : Grant) → at grant_label label w.port.grants ≡ Some grant → IsWork setups setup w → IsGrant setups setup grant
  found_grant w label grant found h = at_every grant_label (IsGrant setups setup) label w.port.grants grant h.port.grants found

  pub found_owes : (w : Work) (label : ℕ) (grant : Grant) → at grant_label label w.port.grants ≡ Some grant → is_estab w.port.adjacency.state ≡ false
      → IsWork setups setup w → OwesNothing grant.state
  found_owes w label grant found e h = at_every grant_label GrantOwesNothing label w.port.grants grant (h.port.closed e) found

  -- what owes nothing is leaving
  pub leaves : (state : GrantState) → OwesNothing state → is_leaving state ≡ true
  leaves state (owes_nothing input) = refl

  -- *A session is in Estab*
  pub session_estab : (w : Work) (s : Session) → w.port.session ≡ Some s → IsWork setups setup w → is_estab w.port.adjacency.state ≡ true
  session_estab w s is h = sym h.port.session ∙ ap is_some is

  may_owe : (w : Work) (before : Grant) → at grant_label before.label w.port.grants ≡ Some before → MayOwe w.port before → IsWork setups setup w → is_estab w.port.adjacency.state ≡ true
  may_owe w before found (in_session s is) h = session_estab w s is h
  may_owe w before found (was_live lives) h = elim (is_estab w.port.adjacency.state) as (λ b. is_estab w.port.adjacency.state ≡ b → b ≡ true) [
    | true ↦ λ e. refl
    | false ↦ λ e. absurd (cc (sym lives ∙ leaves before.state (found_owes w before.label before found e h)))
  ] refl

  not_both : (b : Bool) → b ≡ true → b ≡ false → ⊥
  not_both b t f = absurd (cc (sym t ∙ f))

  joined_ends : (w : Work) (input output : End) → IsJoined setup w.port input output → IsWork setups setup w → IsLabelEnd setups input × IsLabelEnd setups output
  joined_ends w input output (of_label number label out found is) h =
      let fits : IsLabel setups setup label = found_label w number label found h in
      let same : label.number ≡ number = at_key label_number number (labels_of w.port) label found in
      (own_end number (ap (is_in_range setup) (sym same) ∙ fits.in_range), fits.output out is)
  joined_ends w input output (of_grant label grant given found is) h =
      let fits : IsGrant setups setup grant = found_grant w label grant found h in
      let same : grant.label ≡ label = at_key grant_label label w.port.grants grant found in
      (fits.input given is, own_end label (ap (is_in_range setup) (sym same) ∙ fits.in_range))

  accepts_kept : (u : Work) → IsWork setups setup u → IsWork setups setup (accepts u)
  accepts_kept u h = record {
    port = record { side = h.port.side; session = h.port.session; labels = h.port.labels; ascend = h.port.ascend; grants = h.port.grants; apart = h.port.apart; few = h.port.few; closed = h.port.closed; cleared = h.port.cleared };
    actions = h.actions;
  }

  -- *Each step*
  pub step_kept : (desk : Desk) (v w : Work) → Step setup desk v w → IsWork setups setup v → IsWork setups setup w
  step_kept desk v w (greeting u hello) h = acts_kept u (Say (Adjacency hello)) tt h
  step_kept desk v w (telling u message told) h = tells_kept u message h
  step_kept desk v w (closing u) h = closes_kept u h
  step_kept desk v w (noting u input output) h = acts_kept u (Note _) tt h
  step_kept desk v w (turning u step live turn) h = steps_kept u step (turned u.port.adjacency step h.port.side turn) h
  step_kept desk v w (heard u) h = side_kept u (record u.port.adjacency { silence = 0 }) (record { peer = h.port.side.peer; silence = omega arith }) refl (λ e. e) h
  step_kept desk v w (minding u change keeps) h = session_kept u change (λ s e held. subst IsHeld (sym (keeps s e).labels) held) h
  step_kept desk v w (relabelling u before after found keeps) h = label_kept u after (relabelled before after keeps.number keeps.join keeps.wiring (found_label u after.number before found h)) h
  step_kept desk v w (wiring u s flow number session spare inside room alive) h =
      let label : Label = record { number = number; state = Wiring; flow = flow; idle = 0; ticks = 0; join = None } in
      acts_kept (with_new_label u label) (Ask (AddBranch (label_end setup.port number) (control_end setup.port number)) false) (leads_label (label_end setup.port number) (own_end number inside), tt)
      (new_label_kept u s label session spare (record { in_range = inside; output = λ output e. absurd (cc e); unjoined = λ e. refl }) h)
  step_kept desk v w (binding u label found is) h =
      let after : Label = record label { state = Offered } in
      acts_kept (with_label u after) (Note (Bind setup.node setup.port label.number label.flow)) tt
      (label_kept u after (relabelled label after refl refl (λ e. absurd (cc e)) (found_label u label.number label found h)) h)
  step_kept desk v w (quitting u label last found is) h =
      let after : Label = record label { state = Wired } in
      acts_kept (with_label u after) (CutChain label.number) tt
      (label_kept u after (relabelled label after refl refl (λ e. absurd (cc e)) (found_label u label.number label found h)) h)
  step_kept desk v w (unwiring u number label found) h =
      let input : End = label_end setup.port number in
      let same : label.number ≡ number = at_key label_number number (labels_of u.port) label found in
      on_both (IsWork setups setup) (on_input (desk_after desk u) input || has_room desk u) (with_action u (Ask (DeleteTree input) (on_input (desk_after desk u) input))) u
      (acts_kept u (Ask (DeleteTree input) (on_input (desk_after desk u) input)) (frees_label input (own_end number (ap (is_in_range setup) (sym same) ∙ (found_label u number label found h).in_range)), tt) h) h
  step_kept desk v w (freeing u label found is frees) h = acts_kept (without_label u label.number) (Note (Free setup.node setup.port label.number)) tt (gone_label_kept u label.number h)
  step_kept desk v w (accepting u) h = accepts_kept u h
  step_kept desk v w (granting u s label flow lifetime session inside none few lives room alive) h =
      let grant : Grant = record { label = label; flow = flow; lifetime = lifetime; state = Idle } in
      let fits : IsGrant setups setup grant = record { in_range = inside; input = λ input e. absurd (cc e); lives = λ e. lives } in
      let estab : is_estab u.port.adjacency.state ≡ true = session_estab u s session h in
      acts_kept (with_grants (accepts u) (u.port.grants ++ grant ∷ [])) (Ask (AddBranch (control_end setup.port label) (label_end setup.port label)) false)
      (leads_grant (label_end setup.port label) (own_end label inside), tt)
      (grants_kept (accepts u) (u.port.grants ++ grant ∷ []) (every_more (IsGrant setups setup) u.port.grants grant h.port.grants fits) (apart_more grant_label u.port.grants grant none h.port.apart)
      (omega (arith, length-append u.port.grants (grant ∷ []), few)) (λ e. absurd (not_both _ estab e)) (λ e. absurd (not_both _ estab e)) (accepts_kept u h))
  step_kept desk v w (regranting u before after found keeps owes) h =
      let was : IsGrant setups setup before = found_grant u after.label before found h in
      let estab : is_estab u.port.adjacency.state ≡ true = may_owe u before (subst (λ n. at grant_label n u.port.grants ≡ Some before) keeps.label found) owes h in
      grant_kept u after (record {
        in_range = ap (is_in_range setup) keeps.label ∙ was.in_range;
        input = λ input e. was.input input (sym keeps.input ∙ e);
        lives = λ e. (keeps.lives e).1 (was.lives (keeps.lives e).0);
      }) (λ e. absurd (not_both _ estab e)) h
  step_kept desk v w (starting u grant found is) h =
      let was : IsGrant setups setup grant = found_grant u grant.label grant found h in
      grant_kept u (record grant { state = ByController }) (record { in_range = was.in_range; input = λ input e. absurd (cc e); lives = λ e. was.lives (ap is_leaving is) })
      (λ e. absurd (cc (sym (leaves grant.state (found_owes u grant.label grant found e h)) ∙ ap is_leaving is))) h
  step_kept desk v w (ending u grant found none) h = gone_grant_kept u grant.label h
  step_kept desk v w (taking_back u input output joined) h = acts_kept u (TakeBack input output) (joined_ends u input output joined h) h

  -- and so does every rule
  pub goes_kept : (desk : Desk) (v w : Work) → Goes setup desk v w → IsWork setups setup v → IsWork setups setup w
  goes_kept desk v w goes h = goes_keeps setup desk (IsWork setups setup) (step_kept desk) goes h
