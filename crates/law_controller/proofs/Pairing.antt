-- a rule that frees no label keeps which labels are joined where, and which grants are lent to which input

use Rattle.std.proofs.Common.{◌≡◌, ◌≢◌, ℕ, Bool, true, false, List, [], ◌∷◌, ◌++◌, Option, None, Some, refl, sym, ◌∙◌, ap, subst, if◌then◌else◌}
use Rattle.std.specs.Prelude.{not, ◌+◌, ◌||◌, is_some, nat_lt, nat_eq}
use Rattle.std.specs.Option.{option_map, option_map_or, option_and_then}
use Rattle.law_controller_facts.specs.world_model.Words.{End, Peer, number_of_channel, State, Clearing, SynSent, SynRcvd, Estab, Said, Answer, Quiet, Send, Open, Side, IsSide, is_open, same_peer, hello_of, ifmp_answer, heard_from, AddBranch, DeleteTree, Bind, Opened, at, put, without, entered, key_le, Desk, on_input, Action, Say, Ask, Note, CutChain, TakeBack, Setup, label_end, control_end, Label, Wiring, Offered, Wired, label_number, is_spare, Grant, Idle, ByController, grant_label, Session, Work, halts, with_session, with_label, with_new_label, with_grants, labels_of, label_at, desk_after, has_room, Unnumbered, last_number, spent_number, own_instance, is_spent, tells_in, tells, halts_if_spent, first_session, opens, accepts, is_clearing}
use Rattle.law_controller_facts.specs.world_model.adjacency_table.declared.message.Answer.TheVariants.{Reset}
use Rattle.law_controller_facts.specs.world_model.adjacency_table.Side as sides
use Rattle.law_controller_facts.specs.world_model.ifmp_wire.declared.message.Message.TheVariants.{Adjacency}
use Rattle.law_controller_facts.specs.world_model.link_model.declared.record.Record.TheVariants.{Join}
use Rattle.law_controller_facts.specs.world_model.port_model.declared.action.Action.TheVariants as actions
use Rattle.law_controller_facts.specs.world_model.port_model.Grants as grants
use Rattle.law_controller_facts.specs.world_model.port_model.Port.{Port, with_action}
use Rattle.law_controller_facts.specs.world_model.port_model.Saying.{peer_instance}
use Rattle.law_controller_facts.specs.world_model.port_model.Adjacency.{answers}
use Rattle.law_controller_facts.specs.law_port_facts.Port.{setup_port, AnyChannel, IsWork}
use Rattle.law_controller_facts.proofs.law_port_facts.Keyed.{on_both, by_eq, at_put_same, at_put_other}
use Rattle.law_controller_facts.proofs.law_port_facts.Steps.{IsTurn, hears, ages, StepOn, GoesOn, greeting, telling, closing, noting, turning, heard, minding, relabelling, wiring, binding, quitting, unwiring, freeing, accepting, granting, regranting, starting, ending, taking_back, goes_on_keeps}
use Rattle.law_controller_facts.proofs.law_port_facts.Said.{any_step}
use Rattle.law_controller_facts.proofs.law_port_facts.Turns.{IsTurned, received_turns, ticked_turns}
use Rattle.law_controller_facts.proofs.law_port_facts.Kept.{step_kept}
use Rattle.law_controller.specs.Match.{joined_in, lent_in}

-- *Look-ups*: what the one with a key shows
module _ {A B : Type 0} (key : A → ℕ) (f : A → Option B) where
  pub put_image : (y : A) (xs : List A) (x : A) (k : ℕ) → at key (key y) xs ≡ Some x → f y ≡ f x → option_and_then f (at key k (put key y xs)) ≡ option_and_then f (at key k xs)
  put_image y xs x k found same = by_eq (key y) k
      (λ is t. subst (λ n. option_and_then f (at key n (put key y xs)) ≡ option_and_then f (at key n xs)) is (ap (option_and_then f) (at_put_same key y xs x found) ∙ same ∙ ap (option_and_then f) (sym found)))
      (λ other t. ap (option_and_then f) (at_put_other key y k xs other))

  at_head : (x : A) (xs : List A) (k : ℕ) (b : Bool) → nat_eq (key x) k ≡ b → at key k (x ∷ xs) ≡ (if b then Some x else at key k xs)
  at_head x xs k b e = ap (λ (t : Bool). if t then Some x else at key k xs) e

  no_some : (x : A) → Some x ≡ None → ⊥
  no_some x e = absurd (cc e)

  -- one that shows nothing is added, of a key that isn't there
  hides : (y : A) (xs : List A) (k : ℕ) → at key (key y) xs ≡ None → f y ≡ None → option_and_then f (at key k (y ∷ xs)) ≡ option_and_then f (at key k xs)
  hides y xs k none nothing = by_eq (key y) k
      (λ is t. ap (option_and_then f) (at_head y xs k true t) ∙ nothing ∙ ap (option_and_then f) (sym (subst (λ n. at key n xs ≡ None) is none)))
      (λ other t. ap (option_and_then f) (at_head y xs k false t))

  behind_head : (x : A) (xs : List A) (k : ℕ) → at key k (x ∷ xs) ≡ None → at key k xs ≡ None
  behind_head x xs k none = by_eq (key x) k (λ is t. absurd (no_some x (sym (at_head x xs k true t) ∙ none))) (λ other t. sym (at_head x xs k false t) ∙ none)

  same_head : (x : A) (xs ys : List A) (k : ℕ) → option_and_then f (at key k xs) ≡ option_and_then f (at key k ys) → option_and_then f (at key k (x ∷ xs)) ≡ option_and_then f (at key k (x ∷ ys))
  same_head x xs ys k e = by_eq (key x) k
      (λ is t. ap (option_and_then f) (at_head x xs k true t ∙ sym (at_head x ys k true t)))
      (λ other t. ap (option_and_then f) (at_head x xs k false t) ∙ e ∙ ap (option_and_then f) (sym (at_head x ys k false t)))

  pub entered_image : (le : A → A → Bool) (y : A) (xs : List A) (k : ℕ) → at key (key y) xs ≡ None → f y ≡ None → option_and_then f (at key k (entered le y xs)) ≡ option_and_then f (at key k xs)
  entered_image le y [] k none nothing = hides y [] k refl nothing
  entered_image le y (x ∷ xs) k none nothing = on_both (λ (ys : List A). option_and_then f (at key k ys) ≡ option_and_then f (at key k (x ∷ xs))) (le y x) (y ∷ x ∷ xs) (x ∷ entered le y xs)
      (hides y (x ∷ xs) k none nothing) (same_head x (entered le y xs) xs k (entered_image le y xs k (behind_head x xs (key y) none) nothing))

  pub more_image : (xs : List A) (y : A) (k : ℕ) → at key (key y) xs ≡ None → f y ≡ None → option_and_then f (at key k (xs ++ y ∷ [])) ≡ option_and_then f (at key k xs)
  more_image [] y k none nothing = hides y [] k refl nothing
  more_image (x ∷ xs) y k none nothing = same_head x (xs ++ y ∷ []) xs k (more_image xs y k (behind_head x xs (key y) none) nothing)

  gone : (k : ℕ) (xs : List A) → at key k (without key k xs) ≡ None
  gone k [] = refl
  gone k (x ∷ xs) = by_eq (key x) k
      (λ is t. ap (λ (b : Bool). at key k (if b then without key k xs else x ∷ without key k xs)) t ∙ gone k xs)
      (λ other t. ap (λ (b : Bool). at key k (if b then without key k xs else x ∷ without key k xs)) t ∙ at_head x (without key k xs) k false t ∙ gone k xs)

  at_others : (j k : ℕ) (xs : List A) → j ≢ k → at key k (without key j xs) ≡ at key k xs
  at_others j k [] other = refl
  at_others j k (x ∷ xs) other = by_eq (key x) j
      (λ is t. ap (λ (b : Bool). at key k (if b then without key j xs else x ∷ without key j xs)) t ∙ at_others j k xs other
      ∙ sym (by_eq (key x) k (λ same s. absurd (other (sym is ∙ same))) (λ differs s. at_head x xs k false s)))
      (λ away t. ap (λ (b : Bool). at key k (if b then without key j xs else x ∷ without key j xs)) t ∙ ap (λ (o : Option A). if nat_eq (key x) k then Some x else o) (at_others j k xs other))

  pub without_image : (j k : ℕ) (xs : List A) (x : A) → at key j xs ≡ Some x → f x ≡ None → option_and_then f (at key k (without key j xs)) ≡ option_and_then f (at key k xs)
  without_image j k xs x found nothing = by_eq j k
      (λ is t. subst (λ n. option_and_then f (at key n (without key j xs)) ≡ option_and_then f (at key n xs)) is (ap (option_and_then f) (gone j xs) ∙ sym nothing ∙ ap (option_and_then f) (sym found)))
      (λ other t. ap (option_and_then f) (at_others j k xs other))

  -- another key's
  pub without_other : (j k : ℕ) (xs : List A) → j ≢ k → option_and_then f (at key k (without key j xs)) ≡ option_and_then f (at key k xs)
  without_other j k xs other = ap (option_and_then f) (at_others j k xs other)

-- *Clearing*
pub clearing_of : (s : State) → is_clearing s ≡ true → s ≡ Clearing
clearing_of Clearing e = refl
clearing_of SynSent e = absurd (cc e)
clearing_of SynRcvd e = absurd (cc e)
clearing_of Estab e = absurd (cc e)

both_clearing : (s t : State) → (s ≡ Clearing → t ≡ Clearing) → (t ≡ Clearing → s ≡ Clearing) → is_clearing t ≡ is_clearing s
both_clearing s t there back = by_tests (is_clearing s) (is_clearing t) refl refl
  where
    by_tests : (b c : Bool) → is_clearing s ≡ b → is_clearing t ≡ c → is_clearing t ≡ is_clearing s
    by_tests true c e f = ap is_clearing (there (clearing_of s e)) ∙ sym e
    by_tests false false e f = f ∙ sym e
    by_tests false true e f = absurd (cc (sym (ap is_clearing (back (clearing_of t f))) ∙ e))

-- *The same pairs*
pub record SamePairs (began port : Port) : Type 0 where
  pub joins : (n : ℕ) → joined_in (labels_of port) n ≡ joined_in (labels_of began) n
  pub lends : (n : ℕ) → lent_in port.grants n ≡ lent_in began.grants n
  pub clearing : is_clearing port.adjacency.state ≡ is_clearing began.adjacency.state

pub same_pairs : (port : Port) → SamePairs port port
same_pairs port = record { joins = λ n. refl; lends = λ n. refl; clearing = refl }

abbrev join_of : Label → Option End
join_of label = label.join

abbrev given_to : Grant → Option End
given_to grant = grants.lent_input grant.state

module _ (began : Port) where
  pub session_pairs : (w : Work) (change : Session → Session) → ((s : Session) → w.port.session ≡ Some s → (n : ℕ) → joined_in (change s).labels n ≡ joined_in s.labels n) → SamePairs began w.port → SamePairs began (with_session w change).port
  session_pairs w change keeps h = on_both (λ (v : Work). SamePairs began v.port) w.halted w (record w { port = record w.port { session = option_map change w.port.session } }) h
      (record { joins = λ n. held w.port.session refl n ∙ h.joins n; lends = h.lends; clearing = h.clearing })
    where
      held : (o : Option Session) → w.port.session ≡ o → (n : ℕ) → joined_in (option_map_or (λ (s : Session). s.labels) (option_map change o) []) n ≡ joined_in (labels_of w.port) n
      held None is n = ap (λ (o : Option Session). joined_in (option_map_or (λ (s : Session). s.labels) o []) n) (sym is)
      held (Some s) is n = keeps s is n ∙ ap (λ (o : Option Session). joined_in (option_map_or (λ (s : Session). s.labels) o []) n) (sym is)

  grants_pairs : (w : Work) (gs : List Grant) → ((n : ℕ) → lent_in gs n ≡ lent_in w.port.grants n) → SamePairs began w.port → SamePairs began (with_grants w gs).port
  grants_pairs w gs same h = on_both (λ (v : Work). SamePairs began v.port) w.halted w (record w { port = record w.port { grants = gs } }) h
      (record { joins = h.joins; lends = λ n. same n ∙ h.lends n; clearing = h.clearing })

  acts_pairs : (w : Work) (action : Action) → SamePairs began w.port → SamePairs began (with_action w action).port
  acts_pairs w action h = on_both (λ (v : Work). SamePairs began v.port) w.halted w (record w { actions = w.actions ++ action ∷ [] }) h h

  closes_pairs : (w : Work) → SamePairs began w.port → SamePairs began (halts_if_spent w).port
  closes_pairs w h = on_both (λ (v : Work). SamePairs began v.port) (is_spent w.port.session) (halts w) w (acts_pairs w actions.Reset h) h

  tells_pairs : (w : Work) (message : Unnumbered) → SamePairs began w.port → SamePairs began (tells w message).port
  tells_pairs w message h = told w.port.session
    where
      told : (o : Option Session) → SamePairs began (tells_in w message o).port
      told None = h
      told (Some s) =
          let next : Work = with_session w (λ session. record session { number = s.number + 1 }) in
          let spent : Work = with_session w (λ session. record session { number = spent_number }) in
          let said : Action = Say (message (own_instance w.port.adjacency) (peer_instance w.port.adjacency) s.number) in
          on_both (λ (v : Work). SamePairs began v.port) (nat_lt s.number last_number) (with_action next said) spent (acts_pairs next said (session_pairs w (λ session. record session { number = s.number + 1 }) (λ s e n. refl) h))
          (session_pairs w (λ session. record session { number = spent_number }) (λ s e n. refl) h)

  label_pairs : (w : Work) (before after : Label) → label_at w.port after.number ≡ Some before → after.join ≡ before.join → SamePairs began w.port → SamePairs began (with_label w after).port
  label_pairs w before after found same h = session_pairs w (λ s. record s { labels = put label_number after s.labels })
      (λ s is n. put_image label_number join_of after s.labels before n (subst (λ (o : Option Session). at label_number after.number (option_map_or (λ (s : Session). s.labels) o []) ≡ Some before) is found) same) h

  grant_pairs : (w : Work) (before after : Grant) → at grant_label after.label w.port.grants ≡ Some before → grants.lent_input after.state ≡ grants.lent_input before.state → SamePairs began w.port
      → SamePairs began (with_grants w (put grant_label after w.port.grants)).port
  grant_pairs w before after found same h = grants_pairs w (put grant_label after w.port.grants) (λ n. put_image grant_label given_to after w.port.grants before n found same) h

  turned : (side : Side Peer) (step : sides.Step Peer) → IsSide side → IsTurn side step → IsTurned side step
  turned side step h (hears source hello) = received_turns side (heard_from source hello) same_peer h
  turned side step h ages = ticked_turns side h

  module _ (setups : List Setup) (setup : Setup) (linked : at setup_port setup.port.0 setups ≡ Some setup) (desk : Desk) where
    answers_pairs : (w : Work) (side : Side Peer) (answer : Answer (Said Peer) Peer) (next : ℕ) → IsTurned w.port.adjacency (record { side = side; answer = answer }) → IsWork setups setup w
        → SamePairs began w.port → SamePairs began (answers setup (record w { port = record w.port { adjacency = side } }) (ifmp_answer next answer)).port
    answers_pairs w side answer next t k h = by_answer answer refl
      where
        sided : SamePairs began (record w.port { adjacency = side })
        sided = record { joins = h.joins; lends = h.lends; clearing = both_clearing w.port.adjacency.state side.state t.clearing t.again ∙ h.clearing }

        no_session : (o : Option Session) → w.port.session ≡ o → is_some o ≡ false → labels_of w.port ≡ []
        no_session None is e = ap (λ (o : Option Session). option_map_or (λ (s : Session). s.labels) o []) is
        no_session (Some s) is e = absurd (cc e)

        labels_none : is_open answer ≡ true → labels_of w.port ≡ []
        labels_none o = no_session w.port.session refl (k.port.session ∙ t.before_entry o)

        opens_pairs : (v : Work) → is_open answer ≡ true → labels_of v.port ≡ labels_of w.port → SamePairs began v.port → SamePairs began (opens setup v).port
        opens_pairs v o labels p = acts_pairs (record v { port = record v.port { session = Some (first_session setup) } }) (Note (Opened setup.node setup.port))
            (record { joins = λ n. ap (λ (ls : List Label). joined_in ls n) (sym (labels ∙ labels_none o)) ∙ p.joins n; lends = p.lends; clearing = p.clearing })

        by_answer : (o : Answer (Said Peer) Peer) → answer ≡ o → SamePairs began (answers setup (record w { port = record w.port { adjacency = side } }) (ifmp_answer next o)).port
        by_answer Quiet is = sided
        by_answer (Send message) is = acts_pairs (record w { port = record w.port { adjacency = side } }) (Say (Adjacency (hello_of next message))) sided
        by_answer (Open None own) is = opens_pairs (record w { port = record w.port { adjacency = side } }) (ap is_open is) refl sided
        by_answer (Open (Some message) own) is = opens_pairs (with_action (record w { port = record w.port { adjacency = side } }) (Say (Adjacency (hello_of next message)))) (ap is_open is)
            (on_both (λ (v : Work). labels_of v.port ≡ labels_of w.port) w.halted (record w { port = record w.port { adjacency = side } })
            (record w { port = record w.port { adjacency = side }; actions = w.actions ++ Say (Adjacency (hello_of next message)) ∷ [] }) refl refl)
            (acts_pairs (record w { port = record w.port { adjacency = side } }) (Say (Adjacency (hello_of next message))) sided)
        by_answer Reset is = acts_pairs (record w { port = record w.port { adjacency = side } }) actions.Reset sided

    none_spare : (labels : List Label) (number : ℕ) → is_spare labels number ≡ true → at label_number number labels ≡ None
    none_spare labels number e = by_found (at label_number number labels) refl
      where
        by_found : (o : Option Label) → at label_number number labels ≡ o → at label_number number labels ≡ None
        by_found None is = is
        by_found (Some label) is = absurd (cc (sym (ap (λ (o : Option Label). not (is_some o)) is) ∙ e))

    step_pairs : (v w : Work) → StepOn AnyChannel ⊥ setup desk v w → IsWork setups setup v → SamePairs began v.port → SamePairs began w.port
    step_pairs v w (greeting u hello) k h = acts_pairs u (Say (Adjacency hello)) h
    step_pairs v w (telling u message told) k h = tells_pairs u message h
    step_pairs v w (closing u) k h = closes_pairs u h
    step_pairs v w (noting u input output) k h = acts_pairs u (Note (Join setup.node setup.port (number_of_channel input.channel) output.port (number_of_channel output.channel))) h
    step_pairs v w (turning u step live turn) k h = answers_pairs u step.side step.answer (option_map_or (λ (s : Session). s.expected) u.port.session 1) (turned u.port.adjacency step k.port.side turn) k h
    step_pairs v w (heard u) k h = record { joins = h.joins; lends = h.lends; clearing = h.clearing }
    step_pairs v w (minding u change keeps) k h = session_pairs u change (λ s e n. ap (λ (ls : List Label). joined_in ls n) (keeps s e).labels) h
    step_pairs v w (relabelling u before after found keeps) k h = label_pairs u before after found keeps.join h
    step_pairs v w (wiring u s flow number session spare inside room alive) k h =
        let label : Label = record { number = number; state = Wiring; flow = flow; idle = 0; ticks = 0; join = None } in
        acts_pairs (with_new_label u label) (Ask (AddBranch (label_end setup.port number) (control_end setup.port number)) false)
        (session_pairs u (λ s. record s { labels = entered (key_le label_number) label s.labels })
        (λ x e n. (let both : Some x ≡ Some s = sym e ∙ session in let same : x ≡ s = cc in
        entered_image label_number join_of (key_le label_number) label x.labels n (ap (λ (y : Session). at label_number number y.labels) same ∙ none_spare s.labels number spare) refl)) h)
    step_pairs v w (binding u label found is) k h = acts_pairs (with_label u (record label { state = Offered })) (Note (Bind setup.node setup.port label.number label.flow)) (label_pairs u label (record label { state = Offered }) found refl h)
    step_pairs v w (quitting u label last found is) k h = acts_pairs (with_label u (record label { state = Wired })) (CutChain label.number) (label_pairs u label (record label { state = Wired }) found refl h)
    step_pairs v w (unwiring u number label found) k h =
        let input : End = label_end setup.port number in
        on_both (λ (x : Work). SamePairs began x.port) (on_input (desk_after desk u) input || has_room desk u) (with_action u (Ask (DeleteTree input) (on_input (desk_after desk u) input))) u
        (acts_pairs u (Ask (DeleteTree input) (on_input (desk_after desk u) input)) h) h
    step_pairs v w (freeing u label found is frees) k h = absurd frees
    step_pairs v w (accepting u) k h = record { joins = h.joins; lends = h.lends; clearing = h.clearing }
    step_pairs v w (granting u s label flow lifetime session inside none few lives room alive) k h =
        let grant : Grant = record { label = label; flow = flow; lifetime = lifetime; state = Idle } in
        acts_pairs (with_grants (accepts u) (u.port.grants ++ grant ∷ [])) (Ask (AddBranch (control_end setup.port label) (label_end setup.port label)) false)
        (grants_pairs (accepts u) (u.port.grants ++ grant ∷ []) (λ n. more_image grant_label given_to u.port.grants grant n none refl) (record { joins = h.joins; lends = h.lends; clearing = h.clearing }))
    step_pairs v w (regranting u before after found keeps owes) k h = grant_pairs u before after found keeps.input h
    step_pairs v w (starting u grant found is) k h = grant_pairs u grant (record grant { state = ByController }) found (sym (ap grants.lent_input is)) h
    step_pairs v w (ending u grant found none) k h = grants_pairs u (without grant_label grant.label u.port.grants) (λ n. without_image grant_label given_to grant.label n u.port.grants grant found none) h
    step_pairs v w (taking_back u input output joined) k h = acts_pairs u (TakeBack input output) h

    record Pairing (w : Work) : Type 0 where
      kept : IsWork setups setup w
      pairs : SamePairs began w.port

    pub goes_pairs : (v w : Work) → GoesOn AnyChannel ⊥ setup desk v w → IsWork setups setup v → SamePairs began v.port → SamePairs began w.port
    goes_pairs v w goes k h = (let all : Pairing w = goes_on_keeps AnyChannel ⊥ setup desk Pairing
        (λ x y step p. record { kept = step_kept setups setup linked desk x y (any_step AnyChannel ⊥ setup desk x y step) p.kept; pairs = step_pairs x y step p.kept p.pairs }) goes (record { kept = k; pairs = h }) in all.pairs)
