-- a port in Estab none of whose labels is recalled hears a message of IFMP: its session serves the flow as before

use Rattle.std.proofs.Common.{◌≡◌, ℕ, ◌+◌, Bool, true, false, List, [], ◌∷◌, ◌++◌, map, fold, Option, None, Some, refl, sym, ◌∙◌, ap, subst, if◌then◌else◌}
use Rattle.std.specs.Prelude.{◌==◌, min, max}
use Rattle.std.specs.Option.{option_map, option_map_or}
use Rattle.world_model.specs.Words.{Addr, Answer, Said, Peer, Side, Step, State, Estab, Hello, HelloKind, hello_of, AddBranch, Heard, Reply, Silent, Says, Resets, Row, row, is_entry, answer_of, answer_to, ifmp_answer, ifmp_received, followed, same_peer, heard_from, is_good, Redirect, Reclaim, ReclaimAck, LabelRange, Error, FlowId, same_flow, Channel, End, label_number_of, at, Desk, Action, Ask, Say, TakeBack, Setup, label_end, control_end, Label, LabelState, Wiring, Offered, Recalled, Wired, label_number, label_at, label_by, labels_of, Grant, GrantState, Idle, ByController, ByInput, Leaving, Acceptance, New, Refreshed, IsLeaving, GrantsFull, acceptance, grant_on, Session, Work, with_session, with_label, with_grants, with_grant, without_grant, has_room, last_number, reclaim, reclaim_ack, label_range, error, takes, expects, accepts, grants_label, learns, quits, quits_found, quits_in, reclaimed_in, reclaimed, acknowledged_in, acknowledged, narrowed, is_outside, recalls_outside, recalls_offered, recalls_in, recalls, reclaims, reclaims_in, unjoins, ranged, error_comes, hears}
use Rattle.world_model.specs.ifmp_wire.declared.message.Message.{Message}
use Rattle.world_model.specs.ifmp_wire.declared.message.Message.TheVariants.{Adjacency}
use Rattle.world_model.specs.adjacency_table.Side.{answer_opened}
use Rattle.world_model.specs.port_model.Adjacency.{answers, steps}
use Rattle.world_model.specs.port_model.Counts.{Counted}
use Rattle.world_model.specs.port_model.Grants.{OutOfRange, Taken}
use Rattle.world_model.specs.port_model.Port.{with_action}
use Rattle.world_model.specs.port_model.Redirection.{redirected}
use Rattle.world_model.specs.port_model.Saying.{says}
use Rattle.world_model.specs.port_model.declared.action.Action.TheVariants as actions
use Rattle.law_live_journeys.specs.law_run_facts.ordered_lists.Ordered.{Every}
use Rattle.law_live_journeys.proofs.law_run_facts.law_port_facts.Keyed.{on_both, at_every}
use Rattle.law_live_ease.proofs.ServedWorking.{In, G, session_g, acts_g, grant_g, gone_g, more_grants_g, label_g, says_g, own_found}

-- *No label is recalled*
abbrev pub IsUncalled : LabelState → Type 0
IsUncalled (Recalled last acknowledged) = ⊥
IsUncalled state = Unit {0}

abbrev pub AreUncalled : List Label → Type 0
AreUncalled labels = Every (λ (label : Label). IsUncalled label.state) labels

abbrev labels_in : Option Session → List Label
labels_in o = option_map_or (λ (s : Session). s.labels) o []

-- *In Estab* a port isn't opened by what it hears: its session stays
acts_same : (w : Work) (action : Action) → (with_action w action).port.session ≡ w.port.session
acts_same w action = on_both (λ (u : Work). u.port.session ≡ w.port.session) w.halted w (record w { actions = w.actions ++ action ∷ [] }) refl refl

module _ (setup : Setup) (w : Work) (up : w.port.adjacency.state ≡ Estab) where
  replied : (side : Side Peer) (next : ℕ) (words : HelloKind → Said Peer) (reply : Reply)
      → (answers setup (record w { port = record w.port { adjacency = side } }) (ifmp_answer next (answer_of words reply))).port.session ≡ w.port.session
  replied side next words Silent = refl
  replied side next words (Says kind) = acts_same (record w { port = record w.port { adjacency = side } }) (Say (Adjacency (hello_of next (words kind))))
  replied side next words Resets = acts_same (record w { port = record w.port { adjacency = side } }) actions.Reset

  pub steps_same : (source : Addr) (hello : Hello) → (steps setup w (ifmp_received w.port.adjacency source hello)).port.session ≡ w.port.session
  steps_same source hello =
      subst (λ (b : Bool). (answers setup (record w { port = record w.port { adjacency = side } }) (ifmp_answer next (if b then answer_opened w.port.adjacency.own plain else plain))).port.session ≡ w.port.session)
      (sym (ap (λ (s : State). is_entry s found.next) up))
      (replied side next (answer_to side heard) found.reply)
    where
      heard : Heard Peer
      heard = heard_from source hello

      found : Row
      found = row w.port.adjacency.state heard.kind (same_peer heard.receiver w.port.adjacency.own) (option_map_or (same_peer heard.sender) w.port.adjacency.stored false)

      side : Side Peer
      side = (followed w.port.adjacency heard found).side

      next : ℕ
      next = option_map_or (λ (s : Session). s.expected) w.port.session 1

      plain : Answer (Said Peer) Peer
      plain = answer_of (answer_to side heard) found.reply

module _ (flow : FlowId) (Q : List Counted → Type 0) where
  abbrev V : Work → Type 0
  V w = G flow Q w

  fold_g : {A : Type 0} (f : Work → A → Work) → ((w : Work) (x : A) → V w → V (f w x)) → (xs : List A) (w : Work) → V w → V (fold f w xs)
  fold_g f each [] w h = h
  fold_g f each (x ∷ xs) w h = fold_g f each xs (f w x) (each w x h)

  -- *A label is recalled*: it is bound to its flow still
  module _ (setup : Setup) where
    reclaims_g : (w : Work) (label : Label) → label_at w.port label.number ≡ Some label → V w → V (reclaims w label)
    reclaims_g w label found h = by w.port.session
      where
        by : (o : Option Session) → V (reclaims_in w label o)
        by None = h
        by (Some s) =
            let recalled : Label = record label { state = Recalled (min last_number s.number) false } in
            says_g flow Q (with_label w recalled) (reclaim label) (label_g flow Q w label recalled found refl (λ e. refl) h)

    recalls_g : (w : Work) (label : Label) → label_at w.port label.number ≡ Some label → V w → V (recalls setup w label)
    recalls_g w label found h = by label.join
      where
        by : (o : Option End) → V (unjoins setup (reclaims w label) label.number o)
        by None = reclaims_g w label found h
        by (Some output) = acts_g flow Q (reclaims w label) (TakeBack (label_end setup.port label.number) output) (reclaims_g w label found h)

    recalled_g : (w : Work) (label : Label) → label_at w.port label.number ≡ Some label → V w → V (recalls_offered setup w (Some label))
    recalled_g w label found h = by label.state
      where
        by : (state : LabelState) → V (recalls_in setup w label state)
        by Wiring = h
        by Offered = recalls_g w label found h
        by (Recalled last acknowledged) = h
        by Wired = h

    outside_g : (w : Work) (number : ℕ) → V w → V (recalls_outside setup w number)
    outside_g w number h = on_both V (is_outside w.port.session number) (recalls_offered setup w (label_at w.port number)) w (by (label_at w.port number) refl) h
      where
        by : (o : Option Label) → label_at w.port number ≡ o → V (recalls_offered setup w o)
        by None found = h
        by (Some label) found = recalled_g w label (own_found flow Q w number label found) h

    ranged_g : (w : Work) (least greatest : Channel) → V w → V (ranged setup w least greatest)
    ranged_g w least greatest h =
        let next : Work = with_session w (narrowed least greatest) in
        fold_g (recalls_outside setup) outside_g (map label_number (labels_of next.port)) next (session_g flow Q w (narrowed least greatest) (λ s is g. g) h)

    -- *A grant* is made, refreshed or reclaimed
    redirected_g : (desk : Desk) (w : Work) (channel : Channel) (other : FlowId) (lifetime : ℕ) (a : Acceptance) → V w → V (redirected setup desk w channel other lifetime a)
    redirected_g desk w channel other lifetime (New label) h = on_both V (has_room desk w) (grants_label setup w label other lifetime) w granted h
      where
        granted : V (grants_label setup w label other lifetime)
        granted = acts_g flow Q (with_grants (accepts w) (w.port.grants ++ record { label = label; flow = other; lifetime = lifetime; state = Idle } ∷ []))
            (Ask (AddBranch (control_end setup.port label) (label_end setup.port label)) false)
            (more_grants_g flow Q (accepts w) (record { label = label; flow = other; lifetime = lifetime; state = Idle }) h)
    redirected_g desk w channel other lifetime (Refreshed grant) h = grant_g flow Q (accepts w) (record grant { lifetime = lifetime }) h
    redirected_g desk w channel other lifetime OutOfRange h = says_g flow Q w (label_range setup) h
    redirected_g desk w channel other lifetime Taken h = says_g flow Q w (error 1 channel) h
    redirected_g desk w channel other lifetime IsLeaving h = says_g flow Q w (error 2 channel) h
    redirected_g desk w channel other lifetime GrantsFull h = says_g flow Q w (error 3 channel) h

    reclaimed_g : (w : Work) (channel : Channel) (other : FlowId) (o : Option Grant) → V w → V (reclaimed setup w channel other o)
    reclaimed_g w channel other None h = says_g flow Q w (reclaim_ack channel other) h
    reclaimed_g w channel other (Some grant) h = on_both V (same_flow grant.flow other) (reclaimed_in setup w channel grant grant.state) (says w (error 4 channel)) (by grant.state) (says_g flow Q w (error 4 channel) h)
      where
        by : (state : GrantState) → V (reclaimed_in setup w channel grant state)
        by Idle = says_g flow Q (without_grant w grant.label) (reclaim_ack channel grant.flow) (gone_g flow Q w grant.label h)
        by ByController = says_g flow Q (without_grant w grant.label) (reclaim_ack channel grant.flow) (gone_g flow Q w grant.label h)
        by (ByInput input) = acts_g flow Q (with_grant w (record grant { state = Leaving input true })) (TakeBack input (label_end setup.port grant.label))
            (grant_g flow Q w (record grant { state = Leaving input true }) h)
        by (Leaving input owed) = grant_g flow Q w (record grant { state = Leaving input true }) h

  -- *None is quit* that isn't recalled
  module _ (setup : Setup) (desk : Desk) where
    quits_none : (w : Work) (number : ℕ) → AreUncalled (labels_of w.port) → quits setup desk w number ≡ w
    quits_none w number plain = by (label_at w.port number) refl
      where
        in_state : (label : Label) (state : LabelState) → IsUncalled state → quits_in setup desk w label state ≡ w
        in_state label Wiring is = refl
        in_state label Offered is = refl
        in_state label (Recalled last acknowledged) is = absurd is
        in_state label Wired is = refl

        by : (o : Option Label) → label_at w.port number ≡ o → quits_found setup desk w o ≡ w
        by None found = refl
        by (Some label) found = in_state label label.state (at_every label_number (λ (x : Label). IsUncalled x.state) number (labels_of w.port) label plain found)

    all_quit : (numbers : List ℕ) (w : Work) → AreUncalled (labels_of w.port) → V w → V (fold (quits setup desk) w numbers)
    all_quit [] w plain h = h
    all_quit (number ∷ numbers) w plain h = subst (λ (v : Work). V (fold (quits setup desk) v numbers)) (sym (quits_none w number plain)) (all_quit numbers w plain h)

    learns_g : (w : Work) (next : ℕ) → AreUncalled (labels_of w.port) → V w → V (learns setup desk w next)
    learns_g w next plain h = all_quit (map label_number (labels_of told.port)) told still (session_g flow Q w (λ s. record s { known = max s.known next }) (λ s is g. g) h)
      where
        told : Work
        told = with_session w (λ s. record s { known = max s.known next })

        by : (o : Option Session) → AreUncalled (labels_in o) → AreUncalled (labels_in (option_map (λ (s : Session). record s { known = max s.known next }) o))
        by None p = p
        by (Some s) p = p

        still : AreUncalled (labels_of told.port)
        still = on_both (λ (u : Work). AreUncalled (labels_of u.port)) w.halted w
            (record w { port = record w.port { session = option_map (λ (s : Session). record s { known = max s.known next }) w.port.session } }) plain (by w.port.session plain)

  -- *What it hears*
  module _ (setup : Setup) (desk : Desk) (w : Work) (up : w.port.adjacency.state ≡ Estab) (plain : AreUncalled (labels_of w.port)) (source : Addr) (h : V w) where
    greeted_g : (hello : Hello) → V (hears setup desk w source (Adjacency hello))
    greeted_g hello = on_both V (is_good w.port.adjacency step.side (heard_from source hello)) (learns setup desk next hello.next) next (learns_g setup desk next hello.next plain_still still) still
      where
        step : Step Peer
        step = ifmp_received w.port.adjacency source hello

        next : Work
        next = steps setup w step

        same : next.port.session ≡ w.port.session
        same = steps_same setup w up source hello

        still : V next
        still = subst (In flow Q) (sym same) h

        plain_still : AreUncalled (labels_of next.port)
        plain_still = subst (λ (o : Option Session). AreUncalled (labels_in o)) (sym same) plain

    -- under the number that is expected, or above
    abbrev due : ℕ → Work
    due number = expects w number

    due_g : (number : ℕ) → V (due number)
    due_g number = session_g flow Q w (λ s. record s { expected = number + 1 }) (λ s is g. g) h

    due_labels : (number : ℕ) → labels_of (due number).port ≡ labels_of w.port
    due_labels number = on_both (λ (u : Work). labels_of u.port ≡ labels_of w.port) w.halted w
        (record w { port = record w.port { session = option_map (λ (s : Session). record s { expected = number + 1 }) w.port.session } }) refl (by w.port.session)
      where
        by : (o : Option Session) → labels_in (option_map (λ (s : Session). record s { expected = number + 1 }) o) ≡ labels_in o
        by None = refl
        by (Some s) = refl

    due_found : (number : ℕ) (label : Label) → label_at w.port label.number ≡ Some label → label_at (due number).port label.number ≡ Some label
    due_found number label found = ap (at label_number label.number) (due_labels number) ∙ found

    acknowledged_g : (number : ℕ) (other : FlowId) (label : Label) → label_at w.port label.number ≡ Some label → V (acknowledged setup desk (due number) other (Some label))
    acknowledged_g number other label found = on_both V (same_flow label.flow other) (acknowledged_in setup desk (due number) label label.state) (due number)
        (by label.state (at_every label_number (λ (x : Label). IsUncalled x.state) label.number (labels_of w.port) label plain found)) (due_g number)
      where
        by : (state : LabelState) → IsUncalled state → V (acknowledged_in setup desk (due number) label state)
        by Wiring is = due_g number
        by Offered is = due_g number
        by (Recalled last acknowledged) is = absurd is
        by Wired is = due_g number

    -- of the label that it names
    named : (f : Option Label → Work) → V (f None) → ((label : Label) → label_at w.port label.number ≡ Some label → V (f (Some label))) → (number : Option ℕ) → V (f (label_by w.port number))
    named f none some None = none
    named f none some (Some number) = by (label_at w.port number) refl
      where
        by : (o : Option Label) → label_at w.port number ≡ o → V (f o)
        by None found = none
        by (Some label) found = some label (own_found flow Q w number label found)

    pub hears_g : (message : Message) → V (hears setup desk w source message)
    hears_g (Adjacency hello) = greeted_g hello
    hears_g (Redirect sender peer number lifetime channel other) = on_both V (takes w.port source sender peer number)
        (redirected setup desk (due number) channel other lifetime (acceptance setup w.port.grants channel other)) w
        (redirected_g setup desk (due number) channel other lifetime (acceptance setup w.port.grants channel other) (due_g number)) h
    hears_g (Reclaim sender peer number channel other) = on_both V (takes w.port source sender peer number)
        (reclaimed setup (due number) channel other (grant_on w.port.grants (label_number_of channel))) w
        (reclaimed_g setup (due number) channel other (grant_on w.port.grants (label_number_of channel)) (due_g number)) h
    hears_g (ReclaimAck sender peer number channel other) = on_both V (takes w.port source sender peer number)
        (acknowledged setup desk (due number) other (label_by w.port (label_number_of channel))) w
        (named (acknowledged setup desk (due number) other) (due_g number) (acknowledged_g number other) (label_number_of channel)) h
    hears_g (LabelRange sender peer number least greatest) = on_both V (takes w.port source sender peer number) (ranged setup (due number) least greatest) w
        (ranged_g setup (due number) least greatest (due_g number)) h
    hears_g (Error sender peer number code channel) = on_both V (takes w.port source sender peer number)
        (error_comes setup (due number) code (label_by w.port (label_number_of channel))) w
        (on_both V (code == 2) (due number) (recalls_offered setup (due number) (label_by w.port (label_number_of channel))) (due_g number)
        (named (recalls_offered setup (due number)) (due_g number) (λ label found. recalled_g setup (due number) label (due_found number label found) (due_g number)) (label_number_of channel))) h
