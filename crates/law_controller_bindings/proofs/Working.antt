-- a port at work keeps its labels bound, its grants lent for what they were, and chains of bound labels alone, with
-- what it has still to note and to cut

use Rattle.std.proofs.Common.{◌≡◌, ◌≢◌, ℕ, ◌<◌, Bool, true, false, List, [], ◌∷◌, ◌++◌, Option, None, Some, refl, sym, ◌∙◌, ap, subst, arith, if◌then◌else◌, inl, inr}
use Rattle.std.specs.Prelude.{◌⊎◌, not, ◌||◌, ◌+◌, is_some, nat_lt, nat_eq}
use Rattle.std.specs.Option.{option_map, option_map_or, option_and_then}
use Rattle.std.proofs.lemmas.Bool.Decides.{nat_tests}
use Rattle.law_controller.specs.world_model.Words.{End, Peer, number_of_channel, label_channel_of, FlowId, Said, Answer, Quiet, Send, Open, State, Clearing, SynSent, SynRcvd, Estab, Side, IsSide, is_open, is_estab, same_peer, hello_of, ifmp_answer, heard_from, AddBranch, DeleteTree, Record, Bind, Free, Opened, at, put, without, entered, key_le, Desk, on_input, Action, Say, Ask, Note, CutChain, TakeBack, Setup, label_end, control_end, Label, LabelState, Wiring, Offered, Recalled, Wired, label_number, is_bound, is_spare, Grant, GrantState, Idle, ByController, ByInput, Leaving, grant_label, Session, Work, halts, with_session, with_label, with_new_label, without_label, with_grants, without_grant, labels_of, label_at, desk_after, has_room, Unnumbered, last_number, spent_number, own_instance, is_spent, tells_in, tells, halts_if_spent, reclaim_ack, first_session, opens, accepts, joins_label, lent, given_back_in, given_back, freed_in, LabelChain, is_clearing, last_bound}
use Rattle.law_controller.specs.world_model.adjacency_table.declared.message.Answer.TheVariants.{Reset}
use Rattle.law_controller.specs.world_model.adjacency_table.Side as sides
use Rattle.law_controller.specs.world_model.ifmp_wire.declared.message.Message.TheVariants.{Adjacency}
use Rattle.law_controller.specs.world_model.link_model.declared.record.Record.TheVariants.{Join}
use Rattle.law_controller.specs.ordered_lists.Ordered.{Every, InOrder}
use Rattle.law_controller.proofs.ordered_lists.Every.{every_all, every_map}
use Rattle.law_controller.proofs.ordered_lists.InOrder.{order_map}
use Rattle.law_controller.specs.world_model.port_model.declared.action.Action.TheVariants as actions
use Rattle.law_controller.specs.world_model.port_model.Grants.{lent_input}
use Rattle.law_controller.specs.world_model.port_model.Port.{Port, with_action}
use Rattle.law_controller.specs.world_model.port_model.Saying.{peer_instance}
use Rattle.law_controller.specs.world_model.port_model.Adjacency.{answers}
use Rattle.law_controller.specs.law_port_facts.Port.{setup_port, AnyChannel, IsLabel, IsBefore, IsWork}
use Rattle.law_controller.proofs.law_port_facts.Keyed.{on_both, by_eq, at_key, at_every, at_put_same, at_put_other, put_every, without_every, entered_every, every_more}
use Rattle.law_controller.proofs.law_port_facts.Steps.{IsTurn, hears, ages, StepOn, GoesOn, greeting, telling, closing, noting, turning, heard, minding, relabelling, wiring, binding, quitting, unwiring, freeing, accepting, granting, regranting, starting, ending, taking_back, steps_to, goes_on_keeps}
use Rattle.law_controller.proofs.law_port_facts.Said.{any_step}
use Rattle.law_controller.proofs.law_port_facts.Turns.{IsTurned, received_turns, ticked_turns}
use Rattle.law_controller.proofs.law_port_facts.Kept.{step_kept}
use Rattle.law_controller.proofs.law_controller_facts.Unmet.{put_each}
use Rattle.law_controller.specs.Match.{joined_in}
use Rattle.law_controller.proofs.Pairing.{SamePairs, goes_pairs}
use Rattle.law_controller.specs.world_model.network_model.declared.link.LinkEnd.{LinkEnd}
use Rattle.law_controller_bindings.specs.Bindings.{site, IsBoundLast, IsOfNode}
use Rattle.law_controller_bindings.proofs.Lasts.{some_same, none_some, noted_in, cuts_in, Has, IsQuiet, more_noted, more_last, more_own, more_cuts, new_cut, bound_now, bound_elsewhere}

-- *Look-ups*
pub at_entered_other : {A : Type 0} (key : A → ℕ) (le : A → A → Bool) (y : A) (k : ℕ) (xs : List A) → key y ≢ k → at key k (entered le y xs) ≡ at key k xs
at_entered_other {A} key le y k xs other = goes xs
  where
    fails : nat_eq (key y) k ≡ false
    fails = grind (arith, nat_tests, other)

    goes : (xs : List A) → at key k (entered le y xs) ≡ at key k xs
    goes [] = ap (λ (b : Bool). if b then Some y else None) fails
    goes (x ∷ xs) = on_both (λ (zs : List A). at key k zs ≡ at key k (x ∷ xs)) (le y x) (y ∷ x ∷ xs) (x ∷ entered le y xs)
        (ap (λ (b : Bool). if b then Some y else at key k (x ∷ xs)) fails) (ap (λ (o : Option A). if nat_eq (key x) k then Some x else o) (goes xs))

pub at_without_other : {A : Type 0} (key : A → ℕ) (j k : ℕ) (xs : List A) → j ≢ k → at key k (without key j xs) ≡ at key k xs
at_without_other key j k [] other = refl
at_without_other key j k (x ∷ xs) other = by_eq (key x) j
    (λ is t. ap (λ (b : Bool). at key k (if b then without key j xs else x ∷ without key j xs)) t ∙ at_without_other key j k xs other
    ∙ sym (by_eq (key x) k (λ same s. absurd (other (sym is ∙ same))) (λ differs s. ap (λ (b : Bool). if b then Some x else at key k xs) s)))
    (λ away t. ap (λ (b : Bool). at key k (if b then without key j xs else x ∷ without key j xs)) t ∙ ap (λ o. if nat_eq (key x) k then Some x else o) (at_without_other key j k xs other))

-- *What is kept*: of each label, grant and chain
abbrev pub Lends : (End → FlowId → Type 0) → Grant → Type 0
Lends Leads grant = (input : End) → lent_input grant.state ≡ Some input → Leads input grant.flow

-- a label is held, and is bound or is to be cut
pub record Remains (labels : List Label) (Cut : ℕ → Type 0) (n : ℕ) : Type 0 where
  pub label : Label
  pub found : at label_number n labels ≡ Some label
  pub live : (is_bound label.state ≡ true) ⊎ Cut n

unwired : (before after : LabelState) → is_bound after ≡ is_bound before → (after ≡ Wired → before ≡ Wired) → after ≢ Wiring → before ≢ Wiring
unwired before Wiring bound wired settled e = settled refl
unwired before Offered bound wired settled e = absurd (cc (bound ∙ ap is_bound e))
unwired before (Recalled last acknowledged) bound wired settled e = absurd (cc (bound ∙ ap is_bound e))
unwired before Wired bound wired settled e = absurd (cc (sym (wired refl) ∙ e))

remains_put : (labels : List Label) (before after : Label) (Cut Later : ℕ → Type 0) → at label_number after.number labels ≡ Some before → (is_bound before.state ≡ true → (is_bound after.state ≡ true) ⊎ Later after.number)
    → ((k : ℕ) → Cut k → Later k) → (n : ℕ) → Remains labels Cut n → Remains (put label_number after labels) Later n
remains_put labels before after Cut Later found bound later n r = by_eq after.number n
    (λ same t. (let is : before ≡ r.label = some_same before r.label (sym found ∙ ap (λ k. at label_number k labels) same ∙ r.found) in record {
      label = after;
      found = subst (λ k. at label_number k (put label_number after labels) ≡ Some after) same (at_put_same label_number after labels before found);
      live = elim r.live [ inl b ↦ (elim (bound (ap (λ (l : Label). is_bound l.state) is ∙ b)) [ inl now ↦ inl now | inr cut ↦ inr (subst Later same cut) ]) | inr cut ↦ inr (later n cut) ];
    }))
    (λ other t. record { label = r.label; found = at_put_other label_number after n labels other ∙ r.found; live = elim r.live [ inl b ↦ inl b | inr cut ↦ inr (later n cut) ] })

-- *What is said, or a reset*, alone
abbrev pub IsMild : Action → Type 0
IsMild (Say message) = Unit {0}
IsMild actions.Reset = Unit {0}
IsMild action = ⊥

acts_mild : (w : Work) (x : Action) → IsMild x → Every IsMild w.actions → Every IsMild (with_action w x).actions
acts_mild w x is h = on_both (λ (v : Work). Every IsMild v.actions) w.halted w (record w { actions = w.actions ++ x ∷ [] }) h (every_more IsMild w.actions x h is)

session_mild : (w : Work) (change : Session → Session) → Every IsMild w.actions → Every IsMild (with_session w change).actions
session_mild w change h = on_both (λ (v : Work). Every IsMild v.actions) w.halted w (record w { port = record w.port { session = option_map change w.port.session } }) h h

grants_mild : (w : Work) (gs : List Grant) → Every IsMild w.actions → Every IsMild (with_grants w gs).actions
grants_mild w gs h = on_both (λ (v : Work). Every IsMild v.actions) w.halted w (record w { port = record w.port { grants = gs } }) h h

tells_mild : (w : Work) (message : Unnumbered) → Every IsMild w.actions → Every IsMild (tells w message).actions
tells_mild w message h = told w.port.session
  where
    told : (o : Option Session) → Every IsMild (tells_in w message o).actions
    told None = h
    told (Some s) =
        let next : Work = with_session w (λ session. record session { number = s.number + 1 }) in
        let spent : Work = with_session w (λ session. record session { number = spent_number }) in
        let said : Action = Say (message (own_instance w.port.adjacency) (peer_instance w.port.adjacency) s.number) in
        on_both (λ (v : Work). Every IsMild v.actions) (nat_lt s.number last_number) (with_action next said) spent (acts_mild next said tt (session_mild w (λ session. record session { number = s.number + 1 }) h))
        (session_mild w (λ session. record session { number = spent_number }) h)

pub closes_mild : (w : Work) → Every IsMild w.actions → Every IsMild (halts_if_spent w).actions
closes_mild w h = on_both (λ (v : Work). Every IsMild v.actions) (is_spent w.port.session) (halts w) w (acts_mild w actions.Reset tt h) h

pub joins_mild : (w : Work) (join : Option End) (o : Option Label) → Every IsMild w.actions → Every IsMild (joins_label w join o).actions
joins_mild w join None h = h
joins_mild w join (Some label) h = session_mild w (λ s. record s { labels = put label_number (record label { join = join }) s.labels }) h

pub lent_mild : (w : Work) (grant : Grant) (input : End) → Every IsMild w.actions → Every IsMild (lent w grant input).actions
lent_mild w grant input h = grants_mild w (put grant_label (record grant { state = ByInput input }) w.port.grants) h

pub given_back_mild : (w : Work) (grant : Grant) → Every IsMild w.actions → Every IsMild (given_back w grant).actions
given_back_mild w grant h = by_state grant.state
  where
    by_state : (state : GrantState) → Every IsMild (given_back_in w grant state).actions
    by_state Idle = h
    by_state ByController = h
    by_state (ByInput input) = grants_mild w (put grant_label (record grant { state = ByController }) w.port.grants) h
    by_state (Leaving input true) = tells_mild (without_grant w grant.label) (reclaim_ack (label_channel_of grant.label) grant.flow) (grants_mild w (without grant_label grant.label w.port.grants) h)
    by_state (Leaving input false) = grants_mild w (without grant_label grant.label w.port.grants) h

module _ (setup : Setup) (records : List Record) (Leads : End → FlowId → Type 0) (gathered : List LabelChain) (Joined : ℕ → Type 0) where
  -- what a port at work has still to do
  abbrev After : List Action → List Record
  After xs = records ++ noted_in xs

  abbrev Bounds : List Action → Label → Type 0
  Bounds xs = IsBoundLast setup.node (After xs) setup.port

  abbrev Gathers : List Action → List Label → LabelChain → Type 0
  Gathers xs labels chain = Remains labels (Has (cuts_in xs)) chain.label

  abbrev IsHeld : List Action → List Label → Type 0
  IsHeld xs labels = Every (Bounds xs) labels × Every (Gathers xs labels) gathered

  -- the labels of other ports, and those that are joined
  abbrev pub IsApart : LinkEnd → ℕ → Type 0
  IsApart end n = (end.port.0 ≢ setup.port.0) ⊎ Joined n

  pub record Body (w : Work) : Type 0 where
    pub flows : Every (IsBoundLast setup.node (records ++ noted_in w.actions) setup.port) (labels_of w.port)
    pub leads : Every (Lends Leads) w.port.grants
    pub chains : Every (λ (chain : LabelChain). Remains (labels_of w.port) (Has (cuts_in w.actions)) chain.label) gathered
    pub same : (end : LinkEnd) (n : ℕ) → IsApart end n → last_bound (records ++ noted_in w.actions) end n ≡ last_bound records end n
    pub own : Every (IsOfNode setup.node) (noted_in w.actions)

  -- *Labels*
  put_held : (xs : List Action) (labels : List Label) (before after : Label) → at label_number after.number labels ≡ Some before → after.flow ≡ before.flow → is_bound after.state ≡ is_bound before.state → (after.state ≡ Wired → before.state ≡ Wired)
      → IsHeld xs labels → IsHeld xs (put label_number after labels)
  put_held xs labels before after found flow bound wired h =
      let number : before.number ≡ after.number = at_key label_number after.number labels before found in
      let was : Bounds xs before = at_every label_number (Bounds xs) after.number labels before h.0 found in (
        put_every label_number (Bounds xs) after labels (λ settled. ap (λ (n : ℕ). last_bound (After xs) (site setup.node setup.port) n) (sym number) ∙ was (unwired before.state after.state bound wired settled) ∙ ap (λ (f : FlowId). Some f) (sym flow)) h.0,
        every_map (Gathers xs labels) (Gathers xs (put label_number after labels)) gathered (λ c r. remains_put labels before after (Has (cuts_in xs)) (Has (cuts_in xs)) found (λ b. inl (bound ∙ b)) (λ k cut. cut) c.label r) h.1,
      )

  entered_held : (xs : List Action) (labels : List Label) (new : Label) → at label_number new.number labels ≡ None → new.state ≡ Wiring → IsHeld xs labels → IsHeld xs (entered (key_le label_number) new labels)
  entered_held xs labels new none is h = (
    entered_every label_number (Bounds xs) (key_le label_number) new labels (λ settled. absurd (settled is)) h.0,
    every_map (Gathers xs labels) (Gathers xs (entered (key_le label_number) new labels)) gathered (λ c r. record {
      label = r.label;
      found = at_entered_other label_number (key_le label_number) new c.label labels (λ (same : new.number ≡ c.label). none_some r.label (sym (subst (λ n. at label_number n labels ≡ None) same none) ∙ r.found)) ∙ r.found;
      live = r.live;
    }) h.1,
  )

  bound_held : (xs : List Action) (labels : List Label) (label : Label) → at label_number label.number labels ≡ Some label → InOrder (λ (x : Label) (y : Label). label_number x ≢ label_number y) labels → IsHeld xs labels
      → IsHeld (xs ++ Note (Bind setup.node setup.port label.number label.flow) ∷ []) (put label_number (record label { state = Offered }) labels)
  bound_held xs labels label found apart h =
      let item : Record = Bind setup.node setup.port label.number label.flow in
      let later : List Action = xs ++ Note item ∷ [] in
      let offered : Label = record label { state = Offered } in (
        put_each label_number (Bounds xs) (Bounds later) offered
            (λ settled. ap (λ (rs : List Record). last_bound rs (site setup.node setup.port) label.number) (more_noted records xs (Note item)) ∙ bound_now (After xs) setup.node setup.port label.number label.flow)
            (λ x other was settled. ap (λ (rs : List Record). last_bound rs (site setup.node setup.port) x.number) (more_noted records xs (Note item))
            ∙ bound_elsewhere (After xs) setup.node setup.port label.number label.flow (site setup.node setup.port) x.number (λ p n. other (sym n)) ∙ was settled)
            labels apart h.0,
        every_map (Gathers xs labels) (Gathers later (put label_number offered labels)) gathered
            (λ c r. remains_put labels label offered (Has (cuts_in xs)) (Has (cuts_in later)) found (λ b. inl refl) (λ k cut. more_cuts xs (Note item) k cut) c.label r) h.1,
      )

  cut_held : (xs : List Action) (labels : List Label) (label : Label) (last : ℕ) → at label_number label.number labels ≡ Some label → label.state ≡ Recalled last true → IsHeld xs labels
      → IsHeld (xs ++ CutChain label.number ∷ []) (put label_number (record label { state = Wired }) labels)
  cut_held xs labels label last found is h =
      let cut : Action = CutChain label.number in
      let later : List Action = xs ++ cut ∷ [] in
      let wired : Label = record label { state = Wired } in
      let quiet : IsQuiet cut = λ end n. refl in
      let still : (x : Label) → Bounds xs x → Bounds later x = λ x was settled. more_last records xs cut quiet (site setup.node setup.port) x.number ∙ was settled in (
        put_every label_number (Bounds later) wired labels
            (λ settled. still label (at_every label_number (Bounds xs) label.number labels label h.0 found) (λ wiring. absurd (cc (sym is ∙ wiring)))) (every_map (Bounds xs) (Bounds later) labels still h.0),
        every_map (Gathers xs labels) (Gathers later (put label_number wired labels)) gathered
            (λ c r. remains_put labels label wired (Has (cuts_in xs)) (Has (cuts_in later)) found (λ b. inr (new_cut xs label.number)) (λ k had. more_cuts xs cut k had) c.label r) h.1,
      )

  freed_held : (xs : List Action) (labels : List Label) (label : Label) → at label_number label.number labels ≡ Some label → label.state ≡ Wired → cuts_in xs ≡ [] → IsHeld xs labels → IsHeld xs (without label_number label.number labels)
  freed_held xs labels label found is none h = (
    without_every label_number (Bounds xs) label.number labels h.0,
    every_map (Gathers xs labels) (Gathers xs (without label_number label.number labels)) gathered (λ c r. record {
      label = r.label;
      found = at_without_other label_number label.number c.label labels (λ same. gone c r same) ∙ r.found;
      live = r.live;
    }) h.1,
  )
    where
      gone : (c : LabelChain) → Gathers xs labels c → label.number ≡ c.label → ⊥
      gone c r same =
          let held : label ≡ r.label = some_same label r.label (sym found ∙ ap (λ k. at label_number k labels) same ∙ r.found) in
          elim r.live [
            | inl b ↦ absurd (cc (ap is_bound (sym is ∙ ap (λ (l : Label). l.state) held) ∙ b))
            | inr cut ↦ absurd (cc (subst (λ (ks : List ℕ). Has ks c.label) none cut))
          ]

  -- *A session, grants, actions*
  session_body : (w : Work) (change : Session → Session) → ((s : Session) → w.port.session ≡ Some s → IsHeld w.actions s.labels → IsHeld w.actions (change s).labels) → Body w → Body (with_session w change)
  session_body w change keeps h = on_both Body w.halted w (record w { port = record w.port { session = option_map change w.port.session } }) h
      (let now : IsHeld w.actions (option_map_or (λ (s : Session). s.labels) (option_map change w.port.session) []) = held w.port.session refl in
      record { flows = now.0; leads = h.leads; chains = now.1; same = h.same; own = h.own })
    where
      held : (o : Option Session) → w.port.session ≡ o → IsHeld w.actions (option_map_or (λ (s : Session). s.labels) (option_map change o) [])
      held None is = subst (λ (o : Option Session). IsHeld w.actions (option_map_or (λ (s : Session). s.labels) o [])) is (h.flows, h.chains)
      held (Some s) is = keeps s is (subst (λ (o : Option Session). IsHeld w.actions (option_map_or (λ (s : Session). s.labels) o [])) is (h.flows, h.chains))

  grants_body : (w : Work) (gs : List Grant) → Every (Lends Leads) gs → Body w → Body (with_grants w gs)
  grants_body w gs all h = on_both Body w.halted w (record w { port = record w.port { grants = gs } }) h (record { flows = h.flows; leads = all; chains = h.chains; same = h.same; own = h.own })

  acts_body : (w : Work) (x : Action) → IsQuiet x → Every (IsOfNode setup.node) (noted_in (x ∷ [])) → Body w → Body (with_action w x)
  acts_body w x quiet own h = on_both Body w.halted w (record w { actions = w.actions ++ x ∷ [] }) h (record {
    flows = every_map (Bounds w.actions) (Bounds (w.actions ++ x ∷ [])) (labels_of w.port) (λ label was settled. more_last records w.actions x quiet (site setup.node setup.port) label.number ∙ was settled) h.flows;
    leads = h.leads;
    chains = every_map (Gathers w.actions (labels_of w.port)) (Gathers (w.actions ++ x ∷ []) (labels_of w.port)) gathered
        (λ c r. record { label = r.label; found = r.found; live = elim r.live [ inl b ↦ inl b | inr cut ↦ inr (more_cuts w.actions x c.label cut) ] }) h.chains;
    same = λ end n free. more_last records w.actions x quiet end n ∙ h.same end n free;
    own = more_own setup.node w.actions x h.own own;
  })

  halts_body : (w : Work) → Body w → Body (halts w)
  halts_body w h = (let k : Body (with_action w actions.Reset) = acts_body w actions.Reset (λ end n. refl) tt h in record { flows = k.flows; leads = k.leads; chains = k.chains; same = k.same; own = k.own })

  pub closes_body : (w : Work) → Body w → Body (halts_if_spent w)
  closes_body w h = on_both Body (is_spent w.port.session) (halts w) w (halts_body w h) h

  pub tells_body : (w : Work) (message : Unnumbered) → Body w → Body (tells w message)
  tells_body w message h = told w.port.session
    where
      told : (o : Option Session) → Body (tells_in w message o)
      told None = h
      told (Some s) =
          let next : Work = with_session w (λ session. record session { number = s.number + 1 }) in
          let spent : Work = with_session w (λ session. record session { number = spent_number }) in
          let said : Action = Say (message (own_instance w.port.adjacency) (peer_instance w.port.adjacency) s.number) in
          on_both Body (nat_lt s.number last_number) (with_action next said) spent (acts_body next said (λ end n. refl) tt (session_body w (λ session. record session { number = s.number + 1 }) (λ s e held. held) h))
          (session_body w (λ session. record session { number = spent_number }) (λ s e held. held) h)

  at_session : (w : Work) (s : Session) (n : ℕ) (o : Option Label) → w.port.session ≡ Some s → label_at w.port n ≡ o → at label_number n s.labels ≡ o
  at_session w s n o is found = subst (λ (x : Option Session). at label_number n (option_map_or (λ (s : Session). s.labels) x []) ≡ o) is found

  pub label_body : (w : Work) (before after : Label) → label_at w.port after.number ≡ Some before → after.flow ≡ before.flow → is_bound after.state ≡ is_bound before.state → (after.state ≡ Wired → before.state ≡ Wired) → Body w → Body (with_label w after)
  label_body w before after found flow bound wired h = session_body w (λ s. record s { labels = put label_number after s.labels })
      (λ s is held. put_held w.actions s.labels before after (at_session w s after.number (Some before) is found) flow bound wired held) h

  -- both at once, or neither
  done_both : (P : Work → Type 0) (u : Work) (change : Session → Session) (x : Action) → P u → P (record u { port = record u.port { session = option_map change u.port.session }; actions = u.actions ++ x ∷ [] }) → P (with_action (with_session u change) x)
  done_both P u change x p q = by_halted u.halted refl
    where
      changed : Work
      changed = record u { port = record u.port { session = option_map change u.port.session } }

      by_halted : (b : Bool) → u.halted ≡ b → P (with_action (if b then u else changed) x)
      by_halted true e = subst (λ (t : Bool). P (if t then u else record u { actions = u.actions ++ x ∷ [] })) (sym e) p
      by_halted false e = subst (λ (t : Bool). P (if t then changed else record changed { actions = u.actions ++ x ∷ [] })) (sym e) q

  -- a label changes, and something is done
  changes_body : (u : Work) (label after : Label) (x : Action) → label_at u.port label.number ≡ Some label
      → ((s : Session) → u.port.session ≡ Some s → IsHeld u.actions s.labels → IsHeld (u.actions ++ x ∷ []) (put label_number after s.labels))
      → ((end : LinkEnd) (n : ℕ) → IsApart end n → last_bound (records ++ noted_in (u.actions ++ x ∷ [])) end n ≡ last_bound records end n) → Every (IsOfNode setup.node) (noted_in (x ∷ [])) → Body u → Body (with_action (with_label u after) x)
  changes_body u label after x found keeps same own h = done_both Body u (λ s. record s { labels = put label_number after s.labels }) x h
      (let now : IsHeld (u.actions ++ x ∷ []) (option_map_or (λ (s : Session). s.labels) (option_map (λ (s : Session). record s { labels = put label_number after s.labels }) u.port.session) []) = held u.port.session refl in
      record { flows = now.0; leads = h.leads; chains = now.1; same = same; own = more_own setup.node u.actions x h.own own })
    where
      held : (o : Option Session) → u.port.session ≡ o → IsHeld (u.actions ++ x ∷ []) (option_map_or (λ (s : Session). s.labels) (option_map (λ (s : Session). record s { labels = put label_number after s.labels }) o) [])
      held None is = absurd (none_some label (subst (λ (o : Option Session). at label_number label.number (option_map_or (λ (s : Session). s.labels) o []) ≡ Some label) is found))
      held (Some s) is = keeps s is (subst (λ (o : Option Session). IsHeld u.actions (option_map_or (λ (s : Session). s.labels) o [])) is (h.flows, h.chains))

  -- *Grants*
  grant_leads : (gs : List Grant) (before after : Grant) → at grant_label after.label gs ≡ Some before → after.flow ≡ before.flow → lent_input after.state ≡ lent_input before.state → Every (Lends Leads) gs → Every (Lends Leads) (put grant_label after gs)
  grant_leads gs before after found flow input all = put_every grant_label (Lends Leads) after gs
      (λ e is. subst (Leads e) (sym flow) (at_every grant_label (Lends Leads) after.label gs before all found e (sym input ∙ is))) all

  -- one that is lent to none
  pub free_leads : (gs : List Grant) (grant : Grant) → lent_input grant.state ≡ None → Every (Lends Leads) gs → Every (Lends Leads) (put grant_label grant gs)
  free_leads gs grant none all = put_every grant_label (Lends Leads) grant gs (λ e is. absurd (none_some e (sym none ∙ is))) all

  -- *What is done to a join* at its two ports
  pub joins_body : (w : Work) (join : Option End) (number : ℕ) (o : Option Label) → label_at w.port number ≡ o → Body w → Body (joins_label w join o)
  joins_body w join number None found h = h
  joins_body w join number (Some label) found h = label_body w label (record label { join = join })
      (subst (λ n. label_at w.port n ≡ Some label) (sym (at_key label_number number (labels_of w.port) label found)) found) refl refl (λ e. e) h

  pub lent_body : (w : Work) (grant : Grant) (input : End) → Leads input grant.flow → Body w → Body (lent w grant input)
  lent_body w grant input leads h = grants_body w (put grant_label (record grant { state = ByInput input }) w.port.grants)
      (put_every grant_label (Lends Leads) (record grant { state = ByInput input }) w.port.grants (λ e is. subst (λ x. Leads x grant.flow) (some_same input e is) leads) h.leads) h

  without_body : (w : Work) (label : ℕ) → Body w → Body (without_grant w label)
  without_body w label h = grants_body w (without grant_label label w.port.grants) (without_every grant_label (Lends Leads) label w.port.grants h.leads) h

  pub given_back_body : (w : Work) (grant : Grant) → Body w → Body (given_back w grant)
  given_back_body w grant h = by_state grant.state
    where
      by_state : (state : GrantState) → Body (given_back_in w grant state)
      by_state Idle = h
      by_state ByController = h
      by_state (ByInput input) = grants_body w (put grant_label (record grant { state = ByController }) w.port.grants) (free_leads w.port.grants (record grant { state = ByController }) refl h.leads) h
      by_state (Leaving input true) = tells_body (without_grant w grant.label) (reclaim_ack (label_channel_of grant.label) grant.flow) (without_body w grant.label h)
      by_state (Leaving input false) = without_body w grant.label h

  -- *A label is freed*, where no cut is left to do
  pub freed_body : (w : Work) (label : Label) (state : LabelState) → label_at w.port label.number ≡ Some label → label.state ≡ state → cuts_in w.actions ≡ [] → Body w → Body (freed_in setup w label state)
  freed_body w label Wiring found is none h = h
  freed_body w label Offered found is none h = h
  freed_body w label (Recalled last acknowledged) found is none h = h
  freed_body w label Wired found is none h = acts_body (without_label w label.number) (Note (Free setup.node setup.port label.number)) (λ end n. refl) (refl, tt)
      (session_body w (λ s. record s { labels = without label_number label.number s.labels })
      (λ s e held. freed_held w.actions s.labels label (at_session w s label.number (Some label) e found) is none held) h)

  -- *The steps of a rule*
  turned : (side : Side Peer) (step : sides.Step Peer) → IsSide side → IsTurn side step → IsTurned side step
  turned side step h (hears source hello) = received_turns side (heard_from source hello) same_peer h
  turned side step h ages = ticked_turns side h

  opens_body : (v : Work) → labels_of v.port ≡ [] → Body v → Body (opens setup v)
  opens_body v none h = acts_body (record v { port = record v.port { session = Some (first_session setup) } }) (Note (Opened setup.node setup.port)) (λ end n. refl) (refl, tt) (record {
    flows = tt;
    leads = h.leads;
    chains = every_map (Gathers v.actions (labels_of v.port)) (Gathers v.actions []) gathered (λ c r. absurd (none_some r.label (subst (λ (ls : List Label). at label_number c.label ls ≡ Some r.label) none r.found))) h.chains;
    same = h.same;
    own = h.own;
  })

  module _ (setups : List Setup) (linked : at setup_port setup.port.0 setups ≡ Some setup) (desk : Desk) (began : Port) (joined : (n : ℕ) → Joined n → joined_in (labels_of began) n ≡ None → is_clearing began.adjacency.state ≡ false → ⊥) where
    answers_body : (w : Work) (side : Side Peer) (answer : Answer (Said Peer) Peer) (next : ℕ) → IsTurned w.port.adjacency (record { side = side; answer = answer }) → IsWork setups setup w → Body w
        → Body (answers setup (record w { port = record w.port { adjacency = side } }) (ifmp_answer next answer))
    answers_body w side answer next t k h = by_answer answer refl
      where
        sided : Work
        sided = record w { port = record w.port { adjacency = side } }

        s : Body sided
        s = record { flows = h.flows; leads = h.leads; chains = h.chains; same = h.same; own = h.own }

        no_session : (o : Option Session) → w.port.session ≡ o → is_some o ≡ false → labels_of w.port ≡ []
        no_session None is e = ap (λ (o : Option Session). option_map_or (λ (s : Session). s.labels) o []) is
        no_session (Some x) is e = absurd (cc e)

        labels_none : is_open answer ≡ true → labels_of w.port ≡ []
        labels_none o = no_session w.port.session refl (k.port.session ∙ t.before_entry o)

        by_answer : (o : Answer (Said Peer) Peer) → answer ≡ o → Body (answers setup sided (ifmp_answer next o))
        by_answer Quiet is = s
        by_answer (Send message) is = acts_body sided (Say (Adjacency (hello_of next message))) (λ end n. refl) tt s
        by_answer (Open None own) is = opens_body sided (labels_none (ap is_open is)) s
        by_answer (Open (Some message) own) is = opens_body (with_action sided (Say (Adjacency (hello_of next message))))
            (on_both (λ (v : Work). labels_of v.port ≡ []) w.halted sided (record sided { actions = w.actions ++ Say (Adjacency (hello_of next message)) ∷ [] }) (labels_none (ap is_open is)) (labels_none (ap is_open is)))
            (acts_body sided (Say (Adjacency (hello_of next message))) (λ end n. refl) tt s)
        by_answer Reset is = halts_body sided s

    none_spare : (labels : List Label) (number : ℕ) → is_spare labels number ≡ true → at label_number number labels ≡ None
    none_spare labels number e = by_found (at label_number number labels) refl
      where
        by_found : (o : Option Label) → at label_number number labels ≡ o → at label_number number labels ≡ None
        by_found None is = is
        by_found (Some label) is = absurd (cc (sym (ap (λ (o : Option Label). not (is_some o)) is) ∙ e))

    in_order : (labels : List Label) → InOrder IsBefore labels → InOrder (λ (x : Label) (y : Label). label_number x ≢ label_number y) labels
    in_order labels h = order_map IsBefore (λ (x : Label) (y : Label). label_number x ≢ label_number y) (λ (x : Label). Unit {0}) labels (λ x y p q below same. below_same (label_number x) (label_number y) below same) (every_all (λ (x : Label). Unit {0}) labels (λ x. tt)) h
      where
        below_same : (m n : ℕ) → m < n → m ≡ n → ⊥
        below_same m n below same = omega arith

    -- a port with a label is in Estab
    estab_open : (state : State) → is_estab state ≡ true → is_clearing state ≡ false
    estab_open Clearing e = absurd (cc e)
    estab_open SynSent e = refl
    estab_open SynRcvd e = refl
    estab_open Estab e = refl

    open_port : (u : Work) (label : Label) → label_at u.port label.number ≡ Some label → IsWork setups setup u → is_clearing u.port.adjacency.state ≡ false
    open_port u label found k = by_session u.port.session refl
      where
        by_session : (o : Option Session) → u.port.session ≡ o → is_clearing u.port.adjacency.state ≡ false
        by_session None is = absurd (none_some label (subst (λ (o : Option Session). at label_number label.number (option_map_or (λ (s : Session). s.labels) o []) ≡ Some label) is found))
        by_session (Some s) is = estab_open u.port.adjacency.state (sym k.port.session ∙ ap is_some is)

    step_body : (v w : Work) → StepOn AnyChannel ⊥ setup desk v w → IsWork setups setup v → SamePairs began v.port → Body v → Body w
    step_body v w (greeting u hello) k p h = acts_body u (Say (Adjacency hello)) (λ end n. refl) tt h
    step_body v w (telling u message told) k p h = tells_body u message h
    step_body v w (closing u) k p h = closes_body u h
    step_body v w (noting u input output) k p h = acts_body u (Note (Join setup.node setup.port (number_of_channel input.channel) output.port (number_of_channel output.channel))) (λ end n. refl) (refl, tt) h
    step_body v w (turning u step live turn) k p h = answers_body u step.side step.answer (option_map_or (λ (s : Session). s.expected) u.port.session 1) (turned u.port.adjacency step k.port.side turn) k h
    step_body v w (heard u) k p h = record { flows = h.flows; leads = h.leads; chains = h.chains; same = h.same; own = h.own }
    step_body v w (minding u change keeps) k p h = session_body u change (λ s e held. subst (λ (ls : List Label). IsHeld u.actions ls) (sym (keeps s e).labels) held) h
    step_body v w (relabelling u before after found keeps) k p h = label_body u before after found keeps.flow keeps.bound keeps.wired h
    step_body v w (wiring u s flow number session spare inside room alive) k p h =
        let label : Label = record { number = number; state = Wiring; flow = flow; idle = 0; ticks = 0; join = None } in
        acts_body (with_new_label u label) (Ask (AddBranch (label_end setup.port number) (control_end setup.port number)) false) (λ end n. refl) tt
        (session_body u (λ s. record s { labels = entered (key_le label_number) label s.labels })
        (λ x e held. (let same : x ≡ s = some_same x s (sym e ∙ session) in
        entered_held u.actions x.labels label (ap (λ (y : Session). at label_number number y.labels) same ∙ none_spare s.labels number spare) refl held)) h)
    step_body v w (binding u label found is) k p h =
        let item : Record = Bind setup.node setup.port label.number label.flow in
        changes_body u label (record label { state = Offered }) (Note item) found
        (λ s e held. bound_held u.actions s.labels label (at_session u s label.number (Some label) e found)
        (in_order s.labels (subst (λ (o : Option Session). InOrder IsBefore (option_map_or (λ (s : Session). s.labels) o [])) e k.port.ascend)) held)
        (λ end n free. ap (λ (rs : List Record). last_bound rs end n) (more_noted records u.actions (Note item))
        ∙ bound_elsewhere (records ++ noted_in u.actions) setup.node setup.port label.number label.flow end n (apart end n free) ∙ h.same end n free) (refl, tt) h
      where
        unjoined : joined_in (labels_of began) label.number ≡ None
        unjoined = sym (p.joins label.number) ∙ ap (option_and_then (λ (l : Label). l.join)) found ∙ (at_every label_number (IsLabel setups setup) label.number (labels_of u.port) label k.port.labels found).unjoined is

        apart : (end : LinkEnd) (n : ℕ) → IsApart end n → setup.port.0 ≡ end.port.0 → label.number ≡ n → ⊥
        apart end n (inl differs) same number = differs (sym same)
        apart end n (inr is_joined) same number = joined n is_joined (subst (λ m. joined_in (labels_of began) m ≡ None) number unjoined) (sym p.clearing ∙ open_port u label found k)
    step_body v w (quitting u label last found is) k p h = changes_body u label (record label { state = Wired }) (CutChain label.number) found
        (λ s e held. cut_held u.actions s.labels label last (at_session u s label.number (Some label) e found) is held)
        (λ end n free. more_last records u.actions (CutChain label.number) (λ end n. refl) end n ∙ h.same end n free) tt h
    step_body v w (unwiring u number label found) k p h =
        let input : End = label_end setup.port number in
        on_both Body (on_input (desk_after desk u) input || has_room desk u) (with_action u (Ask (DeleteTree input) (on_input (desk_after desk u) input))) u
        (acts_body u (Ask (DeleteTree input) (on_input (desk_after desk u) input)) (λ end n. refl) tt h) h
    step_body v w (freeing u label found is frees) k p h = absurd frees
    step_body v w (accepting u) k p h = record { flows = h.flows; leads = h.leads; chains = h.chains; same = h.same; own = h.own }
    step_body v w (granting u s label flow lifetime session inside none few lives room alive) k p h =
        let grant : Grant = record { label = label; flow = flow; lifetime = lifetime; state = Idle } in
        acts_body (with_grants (accepts u) (u.port.grants ++ grant ∷ [])) (Ask (AddBranch (control_end setup.port label) (label_end setup.port label)) false) (λ end n. refl) tt
        (grants_body (accepts u) (u.port.grants ++ grant ∷ []) (every_more (Lends Leads) u.port.grants grant h.leads (λ e is. absurd (none_some e is))) (record { flows = h.flows; leads = h.leads; chains = h.chains; same = h.same; own = h.own }))
    step_body v w (regranting u before after found keeps owes) k p h = grants_body u (put grant_label after u.port.grants) (grant_leads u.port.grants before after found keeps.flow keeps.input h.leads) h
    step_body v w (starting u grant found is) k p h = grants_body u (put grant_label (record grant { state = ByController }) u.port.grants) (free_leads u.port.grants (record grant { state = ByController }) refl h.leads) h
    step_body v w (ending u grant found none) k p h = without_body u grant.label h
    step_body v w (taking_back u input output is) k p h = acts_body u (TakeBack input output) (λ end n. refl) tt h

    record Working (w : Work) : Type 0 where
      kept : IsWork setups setup w
      pairs : SamePairs began w.port
      body : Body w

    pub goes_body : (v w : Work) → GoesOn AnyChannel ⊥ setup desk v w → IsWork setups setup v → SamePairs began v.port → Body v → Body w
    goes_body v w goes k p h = (let all : Working w = goes_on_keeps AnyChannel ⊥ setup desk Working
        (λ x y step q. record {
          kept = step_kept setups setup linked desk x y (any_step AnyChannel ⊥ setup desk x y step) q.kept;
          pairs = goes_pairs began setups setup linked desk x y (steps_to step) q.kept q.pairs;
          body = step_body x y step q.kept q.pairs q.body;
        }) goes (record { kept = k; pairs = p; body = h }) in all.body)
