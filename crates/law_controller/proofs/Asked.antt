-- what a port at work asks: each request has its reason, and what the port has lent and joined stays

use Rattle.std.proofs.Common.{◌≡◌, ℕ, Bool, true, false, List, [], ◌∷◌, ◌++◌, length, Option, None, Some, refl, sym, ◌∙◌, ap, subst, arith, inl, inr, fold}
use Rattle.std.specs.Prelude.{◌+◌, ◌||◌, nat_lt, ◌⊎◌}
use Rattle.std.specs.List.{list_any}
use Rattle.std.specs.Option.{option_map, option_map_or}
use Rattle.std.proofs.lemmas.Bool.Decides.{nat_tests}
use Rattle.law_controller_facts.specs.world_model.Words.{PortNo, End, Peer, number_of_channel, Clearing, Said, Answer, Quiet, Send, Open, Side, IsSide, is_estab, is_open, same_peer, hello_of, ifmp_answer, heard_from, same_end, AddBranch, DeleteTree, Bind, Free, Opened, at, put, without, entered, key_le, Desk, most_asked, on_input, Action, Say, Ask, Note, CutChain, TakeBack, Withdraw, Setup, is_in_range, label_end, control_end, Label, Wiring, Offered, Wired, label_number, Grant, Idle, ByController, grant_label, Session, Work, halts, with_session, with_label, without_label, with_grants, labels_of, label_at, desk_with, desk_after, has_room, Unnumbered, last_number, spent_number, own_instance, is_spent, tells_in, tells, halts_if_spent, first_session, opens, accepts}
use Rattle.law_controller_facts.specs.world_model.adjacency_table.Side as sides
use Rattle.law_controller_facts.specs.world_model.adjacency_table.declared.message.Answer.TheVariants.{Reset}
use Rattle.law_controller_facts.specs.world_model.gsmp_wire.declared.request.Request.TheVariants.{DeleteAll}
use Rattle.law_controller_facts.specs.world_model.ifmp_wire.declared.message.Message.TheVariants.{Adjacency}
use Rattle.law_controller_facts.specs.world_model.link_model.declared.record.Record.TheVariants.{Join}
use Rattle.law_controller_facts.specs.ordered_lists.Ordered.{Every}
use Rattle.law_controller_facts.specs.world_model.port_model.declared.action.Action.TheVariants as actions
use Rattle.law_controller_facts.specs.world_model.port_model.Grants as grants
use Rattle.law_controller_facts.specs.world_model.port_model.Port.{Port, with_action}
use Rattle.law_controller_facts.specs.world_model.port_model.Saying.{peer_instance}
use Rattle.law_controller_facts.specs.world_model.port_model.Adjacency.{answers}
use Rattle.law_controller_facts.specs.law_port_facts.Port.{setup_port, IsWork}
use Rattle.law_controller_facts.proofs.law_port_facts.Keyed.{on_both, on_each, at_key, at_every, put_every, without_every, entered_every}
use Rattle.law_controller_facts.proofs.law_port_facts.Steps.{IsTurn, hears, ages, IsJoined, of_label, of_grant, Step, greeting, telling, closing, noting, turning, heard, minding, relabelling, wiring, binding, quitting, unwiring, freeing, accepting, granting, regranting, starting, ending, taking_back, Goes, goes_keeps}
use Rattle.law_controller_facts.proofs.law_port_facts.Turns.{IsTurned, received_turns, ticked_turns}
use Rattle.law_controller_facts.proofs.law_port_facts.Kept.{found_label, session_estab, step_kept}
use Rattle.law_controller.specs.Order.{lends}
use Rattle.law_controller.proofs.Lists.{any_more, any_put, any_without, any_at}

pub same_end_itself : (e : End) → same_end e e ≡ true
same_end_itself e = grind (arith, nat_tests)

-- *What a port may do*, where these stand when it is done: an input that is to be freed is lent, a label's branch
-- is asked where there is room or in the place of what stands on its input, and a reset comes last
module _ (setup : Setup) (Lent : End → Type 0) (Emptied : PortNo → Type 0) where
  abbrev pub HasPort : End → Type 0
  HasPort input = (input.port.0 ≡ 0) ⊎ (input.port ≡ setup.port)

  abbrev pub MayAct : Desk → Action → Type 0
  MayAct d (Ask (AddBranch input output) needed) = HasPort input × (nat_lt (length d.standing) most_asked ≡ true)
  MayAct d (Ask (DeleteTree input) needed) = HasPort input × ((on_input d input || nat_lt (length d.standing) most_asked) ≡ true)
  MayAct d (Ask (DeleteAll port) needed) = Emptied port
  MayAct d (Ask request needed) = ⊥
  MayAct d (TakeBack input output) = Lent input
  MayAct d (CutChain number) = is_in_range setup number ≡ true
  MayAct d action = Unit {0}

  abbrev pub IsLast : Action → List Action → Type 0
  IsLast actions.Reset rest = rest ≡ []
  IsLast action rest = Unit {0}

  abbrev pub MayActs : Desk → List Action → Type 0
  MayActs d [] = Unit {0}
  MayActs d (x ∷ xs) = MayAct d x × IsLast x xs × MayActs (desk_with d x) xs

  abbrev pub IsNoReset : Action → Type 0
  IsNoReset actions.Reset = ⊥
  IsNoReset action = Unit {0}

  -- outside Estab it asks for no branch
  abbrev pub AsksNoBranch : Action → Type 0
  AsksNoBranch (Ask (DeleteAll port) needed) = Unit {0}
  AsksNoBranch (Ask request needed) = ⊥
  AsksNoBranch action = Unit {0}

  longer : (x : Action) (xs ys : List Action) → IsNoReset x → IsLast x xs → IsLast x ys
  longer (Say message) xs ys n h = tt
  longer (Ask request needed) xs ys n h = tt
  longer (Note item) xs ys n h = tt
  longer (CutChain label) xs ys n h = tt
  longer (TakeBack input output) xs ys n h = tt
  longer (Withdraw input) xs ys n h = tt
  longer actions.Reset xs ys n h = absurd n

  alone : (x : Action) → IsLast x []
  alone (Say message) = tt
  alone (Ask request needed) = tt
  alone (Note item) = tt
  alone (CutChain label) = tt
  alone (TakeBack input output) = tt
  alone (Withdraw input) = tt
  alone actions.Reset = refl

  pub stays_last : (x : Action) (xs : List Action) → IsNoReset x → IsLast x xs
  stays_last x xs n = longer x [] xs n (alone x)

  pub may_more : (xs : List Action) (d : Desk) (y : Action) → Every IsNoReset xs → MayActs d xs → MayAct (fold desk_with d xs) y → MayActs d (xs ++ y ∷ [])
  may_more [] d y n h may = (may, alone y, tt)
  may_more (x ∷ xs) d y n h may = (h.0, longer x xs (xs ++ y ∷ []) n.0 h.1, may_more xs (desk_with d x) y n.1 h.2 may)

module _ (setups : List Setup) (setup : Setup) (linked : at setup_port setup.port.0 setups ≡ Some setup) (desk : Desk) (Lent : End → Type 0) (Emptied : PortNo → Type 0)
    (began : Port) (lent_by : (input : End) → list_any (lends input) began.grants ≡ true → Lent input) where
  abbrev pub IsTo : Label → Type 0
  IsTo label = (output : End) → label.join ≡ Some output → Lent (label_end setup.port label.number)

  pub record IsAsking (w : Work) : Type 0 where
    pub labels : Every IsTo (labels_of w.port)
    pub lent : (input : End) → list_any (lends input) w.port.grants ≡ list_any (lends input) began.grants
    pub clearing : began.adjacency.state ≡ Clearing → w.port.adjacency.state ≡ Clearing
    pub acts : MayActs setup Lent Emptied desk w.actions
    pub last : w.halted ≡ false → Every (IsNoReset setup Lent Emptied) w.actions
    pub idle : is_estab w.port.adjacency.state ≡ false → Every (AsksNoBranch setup Lent Emptied) w.actions

  -- *Parts that change*
  side_asks : (w : Work) (side : Side Peer) → (w.port.adjacency.state ≡ Clearing → side.state ≡ Clearing) → (is_estab side.state ≡ false → is_estab w.port.adjacency.state ≡ false)
      → IsAsking w → IsAsking (record w { port = record w.port { adjacency = side } })
  side_asks w side clearing closed h = record { labels = h.labels; lent = h.lent; clearing = λ e. clearing (h.clearing e); acts = h.acts; last = h.last; idle = λ e. h.idle (closed e) }

  pub session_asks : (w : Work) (change : Session → Session) → ((s : Session) → w.port.session ≡ Some s → Every IsTo s.labels → Every IsTo (change s).labels) → IsAsking w → IsAsking (with_session w change)
  session_asks w change keeps h = on_both IsAsking w.halted w (record w { port = record w.port { session = option_map change w.port.session } }) h
      (record { labels = held w.port.session refl h.labels; lent = h.lent; clearing = h.clearing; acts = h.acts; last = h.last; idle = h.idle })
    where
      held : (o : Option Session) → w.port.session ≡ o → Every IsTo (labels_of w.port) → Every IsTo (option_map_or (λ (s : Session). s.labels) (option_map change o) [])
      held None is hs = tt
      held (Some s) is hs = keeps s is (subst (λ (o : Option Session). Every IsTo (option_map_or (λ (s : Session). s.labels) o [])) is hs)

  pub grants_asks : (w : Work) (gs : List Grant) → ((input : End) → list_any (lends input) gs ≡ list_any (lends input) w.port.grants) → IsAsking w → IsAsking (with_grants w gs)
  grants_asks w gs same h = on_both IsAsking w.halted w (record w { port = record w.port { grants = gs } }) h
      (record { labels = h.labels; lent = λ input. same input ∙ h.lent input; clearing = h.clearing; acts = h.acts; last = h.last; idle = h.idle })

  every_acts : (P : Action → Type 0) (xs : List Action) (y : Action) → Every P xs → P y → Every P (xs ++ y ∷ [])
  every_acts P [] y h p = (p, tt)
  every_acts P (x ∷ xs) y h p = (h.0, every_acts P xs y h.1 p)

  pub acts_asks : (w : Work) (action : Action) → MayAct setup Lent Emptied (desk_after desk w) action → IsNoReset setup Lent Emptied action
      → (is_estab w.port.adjacency.state ≡ false → AsksNoBranch setup Lent Emptied action) → IsAsking w → IsAsking (with_action w action)
  acts_asks w action may other idle h = on_each IsAsking w.halted w (record w { actions = w.actions ++ action ∷ [] }) (λ t. h)
      (λ live. record {
        labels = h.labels;
        lent = h.lent;
        clearing = h.clearing;
        acts = may_more setup Lent Emptied w.actions desk action (h.last live) h.acts may;
        last = λ e. every_acts (IsNoReset setup Lent Emptied) w.actions action (h.last live) other;
        idle = λ e. every_acts (AsksNoBranch setup Lent Emptied) w.actions action (h.idle e) (idle e);
      })

  pub halts_asks : (w : Work) → IsAsking w → IsAsking (halts w)
  halts_asks w h = on_each (λ (v : Work). IsAsking (record v { halted = true })) w.halted w (record w { actions = w.actions ++ actions.Reset ∷ [] })
      (λ t. record { labels = h.labels; lent = h.lent; clearing = h.clearing; acts = h.acts; last = λ e. absurd (cc e); idle = h.idle })
      (λ live. record {
        labels = h.labels;
        lent = h.lent;
        clearing = h.clearing;
        acts = may_more setup Lent Emptied w.actions desk actions.Reset (h.last live) h.acts tt;
        last = λ e. absurd (cc e);
        idle = λ e. every_acts (AsksNoBranch setup Lent Emptied) w.actions actions.Reset (h.idle e) tt;
      })

  pub closes_asks : (w : Work) → IsAsking w → IsAsking (halts_if_spent w)
  closes_asks w h = on_both IsAsking (is_spent w.port.session) (halts w) w (halts_asks w h) h

  same_labels : (w : Work) (change : Session → Session) → ((s : Session) → (change s).labels ≡ s.labels) → IsAsking w → IsAsking (with_session w change)
  same_labels w change same h = session_asks w change (λ s e held. subst (Every IsTo) (sym (same s)) held) h

  pub tells_asks : (w : Work) (message : Unnumbered) → IsAsking w → IsAsking (tells w message)
  tells_asks w message h = told w.port.session
    where
      told : (o : Option Session) → IsAsking (tells_in w message o)
      told None = h
      told (Some s) =
          let next : Work = with_session w (λ session. record session { number = s.number + 1 }) in
          let spent : Work = with_session w (λ session. record session { number = spent_number }) in
          let said : Action = Say (message (own_instance w.port.adjacency) (peer_instance w.port.adjacency) s.number) in
          on_both IsAsking (nat_lt s.number last_number) (with_action next said) spent
          (acts_asks next said tt tt (λ e. tt) (same_labels w (λ session. record session { number = s.number + 1 }) (λ s. refl) h))
          (same_labels w (λ session. record session { number = spent_number }) (λ s. refl) h)

  -- *Labels*
  pub label_asks : (w : Work) (label : Label) → IsTo label → IsAsking w → IsAsking (with_label w label)
  label_asks w label to h = session_asks w (λ s. record s { labels = put label_number label s.labels }) (λ s e held. put_every label_number IsTo label s.labels to held) h

  found_to : (w : Work) (number : ℕ) (before after : Label) → label_at w.port number ≡ Some before → after.number ≡ before.number → after.join ≡ before.join → IsAsking w → IsTo after
  found_to w number before after found same join h = λ output e. subst (λ n. Lent (label_end setup.port n)) (sym same)
      (at_every label_number IsTo number (labels_of w.port) before h.labels found output (sym join ∙ e))

  -- *The side*
  turned : (side : Side Peer) (step : sides.Step Peer) → IsSide side → IsTurn side step → IsTurned side step
  turned side step h (hears source hello) = received_turns side (heard_from source hello) same_peer h
  turned side step h ages = ticked_turns side h

  answers_asks : (w : Work) (side : Side Peer) (answer : Answer (Said Peer) Peer) (next : ℕ) → IsTurned w.port.adjacency (record { side = side; answer = answer })
      → IsAsking w → IsAsking (answers setup (record w { port = record w.port { adjacency = side } }) (ifmp_answer next answer))
  answers_asks w side answer next t h = by_answer answer refl
    where
      closed : (b : Bool) → is_open answer ≡ b → is_estab side.state ≡ false → is_estab w.port.adjacency.state ≡ false
      closed true o e = t.before_entry o
      closed false o e = sym (t.stayed o) ∙ e

      turned_asks : IsAsking (record w { port = record w.port { adjacency = side } })
      turned_asks = side_asks w side t.clearing (λ e. closed (is_open answer) refl e) h

      opens_asks : (v : Work) → IsAsking v → IsAsking (opens setup v)
      opens_asks v k = acts_asks (record v { port = record v.port { session = Some (first_session setup) } }) (Note (Opened setup.node setup.port)) tt tt (λ e. tt)
          (record { labels = tt; lent = k.lent; clearing = k.clearing; acts = k.acts; last = k.last; idle = k.idle })

      by_answer : (o : Answer (Said Peer) Peer) → answer ≡ o → IsAsking (answers setup (record w { port = record w.port { adjacency = side } }) (ifmp_answer next o))
      by_answer Quiet is = turned_asks
      by_answer (Send message) is = acts_asks (record w { port = record w.port { adjacency = side } }) (Say (Adjacency (hello_of next message))) tt tt (λ e. tt) turned_asks
      by_answer (Open None own) is = opens_asks (record w { port = record w.port { adjacency = side } }) turned_asks
      by_answer (Open (Some message) own) is = opens_asks (with_action (record w { port = record w.port { adjacency = side } }) (Say (Adjacency (hello_of next message))))
          (acts_asks (record w { port = record w.port { adjacency = side } }) (Say (Adjacency (hello_of next message))) tt tt (λ e. tt) turned_asks)
      by_answer Reset is = halts_asks (record w { port = record w.port { adjacency = side } }) turned_asks

  -- what an Ask of a rule in a session needs
  in_estab : (b : Bool) (action : Action) → b ≡ true → b ≡ false → AsksNoBranch setup Lent Emptied action
  in_estab b action t f = absurd (cc (sym t ∙ f))

  session_side : (w : Work) (change : Session → Session) → (with_session w change).port.adjacency ≡ w.port.adjacency
  session_side w change = on_both (λ (v : Work). v.port.adjacency ≡ w.port.adjacency) w.halted w (record w { port = record w.port { session = option_map change w.port.session } }) refl refl

  session_actions : (w : Work) (change : Session → Session) → (with_session w change).actions ≡ w.actions
  session_actions w change = on_both (λ (v : Work). v.actions ≡ w.actions) w.halted w (record w { port = record w.port { session = option_map change w.port.session } }) refl refl

  grants_side : (w : Work) (gs : List Grant) → (with_grants w gs).port.adjacency ≡ w.port.adjacency
  grants_side w gs = on_both (λ (v : Work). v.port.adjacency ≡ w.port.adjacency) w.halted w (record w { port = record w.port { grants = gs } }) refl refl

  grants_actions : (w : Work) (gs : List Grant) → (with_grants w gs).actions ≡ w.actions
  grants_actions w gs = on_both (λ (v : Work). v.actions ≡ w.actions) w.halted w (record w { port = record w.port { grants = gs } }) refl refl

  -- an input that a join has is lent
  joined_lent : (w : Work) (input output : End) → IsJoined setup w.port input output → IsAsking w → Lent input
  joined_lent w input output (of_label number label out found is) h =
      subst (λ n. Lent (label_end setup.port n)) (at_key label_number number (labels_of w.port) label found)
      (at_every label_number IsTo number (labels_of w.port) label h.labels found out is)
  joined_lent w input output (of_grant label grant given found is) h =
      lent_by input (sym (h.lent input) ∙ any_at (lends input) grant_label label w.port.grants grant found (ap (λ (o : Option End). option_map_or (same_end input) o false) is ∙ same_end_itself input))

  not_lent : (input : End) (grant : Grant) → grants.lent_input grant.state ≡ None → lends input grant ≡ false
  not_lent input grant none = ap (λ (o : Option End). option_map_or (same_end input) o false) none

  regranted : (w : Work) (before after : Grant) → at grant_label after.label w.port.grants ≡ Some before → grants.lent_input after.state ≡ grants.lent_input before.state → IsAsking w → IsAsking (with_grants w (put grant_label after w.port.grants))
  regranted w before after found same h = grants_asks w (put grant_label after w.port.grants)
      (λ input. any_put (lends input) grant_label after w.port.grants before found (ap (λ (o : Option End). option_map_or (same_end input) o false) same)) h

  -- *Each step*
  pub step_asks : (v w : Work) → Step setup desk v w → IsWork setups setup v → IsAsking v → IsAsking w
  step_asks v w (greeting u hello) k h = acts_asks u (Say (Adjacency hello)) tt tt (λ e. tt) h
  step_asks v w (telling u message told) k h = tells_asks u message h
  step_asks v w (closing u) k h = closes_asks u h
  step_asks v w (noting u input output) k h = acts_asks u (Note (Join setup.node setup.port (number_of_channel input.channel) output.port (number_of_channel output.channel))) tt tt (λ e. tt) h
  step_asks v w (turning u step live turn) k h = answers_asks u step.side step.answer (option_map_or (λ (s : Session). s.expected) u.port.session 1) (turned u.port.adjacency step k.port.side turn) h
  step_asks v w (heard u) k h = side_asks u (record u.port.adjacency { silence = 0 }) (λ e. e) (λ e. e) h
  step_asks v w (minding u change keeps) k h = session_asks u change (λ s e held. subst (Every IsTo) (sym (keeps s e).labels) held) h
  step_asks v w (relabelling u before after found keeps) k h = label_asks u after (found_to u after.number before after found keeps.number keeps.join h) h
  step_asks v w (wiring u s flow number session spare inside room alive) k h =
      let label : Label = record { number = number; state = Wiring; flow = flow; idle = 0; ticks = 0; join = None } in
      let change : Session → Session = λ s. record s { labels = entered (key_le label_number) label s.labels } in
      let action : Action = Ask (AddBranch (label_end setup.port number) (control_end setup.port number)) false in
      acts_asks (with_session u change) action
      (inr refl, subst (λ (xs : List Action). nat_lt (length (fold desk_with desk xs).standing) most_asked ≡ true) (sym (session_actions u change)) room) tt
      (λ e. in_estab (is_estab u.port.adjacency.state) action (session_estab setups setup linked u s session k) (ap (λ (a : Side Peer). is_estab a.state) (sym (session_side u change)) ∙ e))
      (session_asks u change (λ x e held. entered_every label_number IsTo (key_le label_number) label x.labels (λ output e. absurd (cc e)) held) h)
  step_asks v w (binding u label found is) k h =
      let after : Label = record label { state = Offered } in
      acts_asks (with_label u after) (Note (Bind setup.node setup.port label.number label.flow)) tt tt (λ e. tt) (label_asks u after (found_to u label.number label after found refl refl h) h)
  step_asks v w (quitting u label last found is) k h =
      let after : Label = record label { state = Wired } in
      acts_asks (with_label u after) (CutChain label.number) (found_label setups setup linked u label.number label found k).in_range tt (λ e. tt) (label_asks u after (found_to u label.number label after found refl refl h) h)
  step_asks v w (unwiring u number label found) k h =
      let input : End = label_end setup.port number in
      let action : Action = Ask (DeleteTree input) (on_input (desk_after desk u) input) in
      on_each IsAsking (on_input (desk_after desk u) input || has_room desk u) (with_action u action) u
      (λ t. acts_asks u action (inr refl, t) tt (λ e. in_estab (is_estab u.port.adjacency.state) action (label_estab u number label found k) e) h) (λ t. h)
    where
      in_session : (u : Work) (number : ℕ) (label : Label) (o : Option Session) → u.port.session ≡ o → at label_number number (option_map_or (λ (s : Session). s.labels) o []) ≡ Some label → IsWork setups setup u → is_estab u.port.adjacency.state ≡ true
      in_session u number label None is found k = absurd (cc found)
      in_session u number label (Some s) is found k = session_estab setups setup linked u s is k

      label_estab : (u : Work) (number : ℕ) (label : Label) → label_at u.port number ≡ Some label → IsWork setups setup u → is_estab u.port.adjacency.state ≡ true
      label_estab u number label found k = in_session u number label u.port.session refl found k
  step_asks v w (freeing u label found is frees) k h = acts_asks (without_label u label.number) (Note (Free setup.node setup.port label.number)) tt tt (λ e. tt)
      (session_asks u (λ s. record s { labels = without label_number label.number s.labels }) (λ s e held. without_every label_number IsTo label.number s.labels held) h)
  step_asks v w (accepting u) k h = record { labels = h.labels; lent = h.lent; clearing = h.clearing; acts = h.acts; last = h.last; idle = h.idle }
  step_asks v w (granting u s label flow lifetime session inside none few lives room alive) k h =
      let grant : Grant = record { label = label; flow = flow; lifetime = lifetime; state = Idle } in
      let gs : List Grant = u.port.grants ++ grant ∷ [] in
      let action : Action = Ask (AddBranch (control_end setup.port label) (label_end setup.port label)) false in
      let accepted : IsAsking (accepts u) = record { labels = h.labels; lent = h.lent; clearing = h.clearing; acts = h.acts; last = h.last; idle = h.idle } in
      acts_asks (with_grants (accepts u) gs) action
      (inl refl, subst (λ (xs : List Action). nat_lt (length (fold desk_with desk xs).standing) most_asked ≡ true) (sym (grants_actions (accepts u) gs)) room) tt
      (λ e. in_estab (is_estab u.port.adjacency.state) action (session_estab setups setup linked u s session k) (ap (λ (a : Side Peer). is_estab a.state) (sym (grants_side (accepts u) gs)) ∙ e))
      (grants_asks (accepts u) gs (λ input. any_more (lends input) u.port.grants grant refl) accepted)
  step_asks v w (regranting u before after found keeps owes) k h = regranted u before after found keeps.input h
  step_asks v w (starting u grant found is) k h = regranted u grant (record grant { state = ByController }) found (sym (ap grants.lent_input is)) h
  step_asks v w (ending u grant found none) k h = grants_asks u (without grant_label grant.label u.port.grants)
      (λ input. any_without (lends input) grant_label grant.label u.port.grants grant k.port.apart found (not_lent input grant none)) h
  step_asks v w (taking_back u input output joined) k h = acts_asks u (TakeBack input output) (joined_lent u input output joined h) tt (λ e. tt) h

  -- and every rule
  pub record Both (w : Work) : Type 0 where
    pub kept : IsWork setups setup w
    pub asks : IsAsking w

  pub goes_asks : (v w : Work) → Goes setup desk v w → Both v → Both w
  goes_asks v w goes h = goes_keeps setup desk Both (λ x y step b. record { kept = step_kept setups setup linked desk x y step b.kept; asks = step_asks x y step b.kept b.asks }) goes h
