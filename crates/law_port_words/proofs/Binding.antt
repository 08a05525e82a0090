-- a label is bound: its binding is recorded, and then its REDIRECT is said

use Rattle.std.proofs.Common.{◌≡◌, ℕ, Bool, true, false, List, [], ◌∷◌, ◌++◌, Option, None, Some, refl, sym, ap, subst, if◌then◌else◌, fold}
use Rattle.std.specs.Prelude.{◌+◌, nat_lt, Contains}
use Rattle.std.proofs.lemmas.List.Elements.{Contains-push}
use Rattle.law_controller_bindings.specs.world_model.Words.{NodeId, PortNo, Instance, label_channel_of, is_estab, FlowId, Redirect, Record, Bind, put, Action, Say, Note, Setup, Label, LabelState, Wiring, Offered, Recalled, Wired, label_number, Session, Work, halts, with_label, label_at, labels_of, last_number, own_instance, spent_number, tells_in, tells, is_spent, halts_if_spent, redirect, bound_in, bound, label_by, Linked, linked_at, says_ifmp, begins, with_work, performs_in_estab, works_as}
use Rattle.law_controller_bindings.specs.ordered_lists.Ordered.{Every}
use Rattle.law_controller_bindings.specs.world_model.port_model.declared.action.Action.TheVariants as actions
use Rattle.law_controller_bindings.specs.world_model.port_model.Port.{with_action}
use Rattle.law_controller_bindings.specs.world_model.port_model.Saying.{peer_instance}
use Rattle.law_controller_bindings.proofs.law_port_facts.Keyed.{on_both, at_every, put_every, every_more}
use Rattle.law_controller_bindings.specs.world_model.Controller.{Acted, note}
use Rattle.law_port_words.specs.Words.{Terms, StandsAs, Stands, IsSteady, IsFair, IsSteadily}
use Rattle.law_port_words.proofs.Voices.{session_steady}
use Rattle.law_port_words.proofs.Sending.{note_h, bound_h}
use Rattle.law_port_words.proofs.Performing.{performed_h, rest_h, works_h, placed_h, begins_v}

module _ (t : Terms) (speaks : (port : PortNo) (instance : ℕ) → t.own port instance → t.told port instance)
    (holds : (port : PortNo) (label : ℕ) (flow : FlowId) → t.wired port label flow → t.held port label flow)
    (binds : (port : PortNo) (label : ℕ) (flow : FlowId) → t.wired port label flow → t.bindable port label flow) where
  -- *What is asked* once the binding is noted: its REDIRECT first, if it is said
  data Asks (setup : Setup) (label : Label) : List Action → Type 0 where
    quiet : {xs : List Action} → Every (IsFair t setup.port) xs → Asks setup label xs
    offers : {xs : List Action} (sender peer : Instance) (number lifetime : ℕ) → t.told setup.port sender.0 → Every (IsFair t setup.port) xs
        → Asks setup label (Say (Redirect sender peer number lifetime (label_channel_of label.number) label.flow) ∷ xs)

  record Binding (setup : Setup) (label : Label) (w : Work) : Type 0 where
    port : IsSteady t setup w.port
    rest : List Action
    is : w.actions ≡ Note (Bind setup.node setup.port label.number label.flow) ∷ rest
    asks : Asks setup label rest

  more_asked : (setup : Setup) (label : Label) (xs : List Action) (x : Action) → IsFair t setup.port x → Asks setup label xs → Asks setup label (xs ++ x ∷ [])
  more_asked setup label xs x fair (quiet all) = quiet (every_more (IsFair t setup.port) xs x all fair)
  more_asked setup label xs x fair (offers {xs = ys} sender peer number lifetime told all) = offers sender peer number lifetime told (every_more (IsFair t setup.port) ys x all fair)

  closes_b : (setup : Setup) (label : Label) (w : Work) → Binding setup label w → Binding setup label (halts_if_spent w)
  closes_b setup label w h = on_both (Binding setup label) (is_spent w.port.session) (halts w) w (by w.halted refl) h
    where
      by : (b : Bool) → w.halted ≡ b → Binding setup label (halts w)
      by true e = subst (λ (z : Bool). Binding setup label (record (if z then w else record w { actions = w.actions ++ actions.Reset ∷ [] }) { halted = true })) (sym e)
          (record { port = h.port; rest = h.rest; is = h.is; asks = h.asks })
      by false e = subst (λ (z : Bool). Binding setup label (record (if z then w else record w { actions = w.actions ++ actions.Reset ∷ [] }) { halted = true })) (sym e)
          (record { port = h.port; rest = h.rest ++ actions.Reset ∷ []; is = ap (λ xs. xs ++ actions.Reset ∷ []) h.is; asks = more_asked setup label h.rest actions.Reset tt h.asks })

  -- *A port that begins its work* binds a label that was being wired
  module _ (a : Acted) (linked : Linked) (k : IsSteady t linked.setup linked.port) where
    abbrev setup : Setup
    setup = linked.setup

    bound_b : (label : Label) → t.wired setup.port label.number label.flow → Binding setup label (bound_in setup (begins a linked) label Wiring)
    bound_b label wired = closes_b setup label (tells v (redirect setup label)) (told v.port.session refl)
      where
        offered : Label
        offered = record label { state = Offered }

        labels : Session → Session
        labels s = record s { labels = put label_number offered s.labels }

        v : Work
        v = with_action (with_label (begins a linked) offered) (Note (Bind setup.node setup.port label.number label.flow))

        steady : IsSteady t setup v.port
        steady = session_steady t setup (speaks setup.port) linked.port labels (λ s e all. put_every label_number (Stands t setup.port) offered s.labels (holds setup.port label.number label.flow wired) all) k

        told : (o : Option Session) → v.port.session ≡ o → Binding setup label (tells_in v (redirect setup label) o)
        told None is = record { port = steady; rest = []; is = refl; asks = quiet tt }
        told (Some s) is = on_both (Binding setup label) (nat_lt s.number last_number) _ _
            (record {
              port = session_steady t setup (speaks setup.port) v.port (λ session. record session { number = s.number + 1 }) (λ x e all. all) steady;
              rest = Say (redirect setup label (own_instance v.port.adjacency) (peer_instance v.port.adjacency) s.number) ∷ [];
              is = refl;
              asks = offers (own_instance v.port.adjacency) (peer_instance v.port.adjacency) s.number setup.timers.lifetime (speaks setup.port linked.port.adjacency.own.instance.0 (k.own (steady.lives s is))) tt;
            })
            (record { port = session_steady t setup (speaks setup.port) v.port (λ session. record session { number = spent_number }) (λ x e all. all) steady; rest = []; is = refl; asks = quiet tt })

  -- *It is done*, in Estab with the switch
  noted_b : (setup : Setup) (label : Label) (a : Acted) → is_estab a.controller.adjacency.state ≡ true → setup.node ≡ t.node → t.bindable setup.port label.number label.flow → IsSteadily t a
      → (rest : List Action) → Asks setup label rest → IsSteadily t (fold (performs_in_estab setup.port) a (Note (Bind setup.node setup.port label.number label.flow) ∷ rest))
  noted_b setup label a estab node bindable h rest asks =
      subst (λ (b : Bool). IsSteadily t (fold (performs_in_estab setup.port) (if b then note a item else a) rest)) (sym estab) (by rest asks)
    where
      item : Record
      item = Bind setup.node setup.port label.number label.flow

      noted : IsSteadily t (note a item)
      noted = note_h t a item (node, bindable) h

      has : Contains (note a item).notes.records (Bind t.node setup.port label.number label.flow)
      has = subst (λ (n : NodeId). Contains (a.notes.records ++ item ∷ []) (Bind n setup.port label.number label.flow)) node (Contains-push a.notes.records item)

      by : (rest : List Action) → Asks setup label rest → IsSteadily t (fold (performs_in_estab setup.port) (note a item) rest)
      by rest (quiet all) = rest_h t (IsFair t setup.port) setup.port (performed_h t setup.port) rest all (note a item) noted
      by rest (offers {xs = xs} sender peer number lifetime told all) = rest_h t (IsFair t setup.port) setup.port (performed_h t setup.port) xs all
          (if is_estab (note a item).controller.adjacency.state then says_ifmp setup.port (note a item) (Redirect sender peer number lifetime (label_channel_of label.number) label.flow) else note a item)
          (subst (λ (b : Bool). IsSteadily t (if b then says_ifmp setup.port (note a item) (Redirect sender peer number lifetime (label_channel_of label.number) label.flow) else note a item)) (sym estab) (bound_h t (note a item) setup.port sender peer number lifetime label.number label.flow told has noted))

  pub bound_work_h : (a : Acted) (port : PortNo) (linked : Linked) (number : Option ℕ) → linked_at a.controller port ≡ Some linked → is_estab a.controller.adjacency.state ≡ true → IsSteadily t a
      → IsSteadily t (works_as a linked (bound linked.setup (begins a linked) (label_by linked.port number)))
  bound_work_h a port linked None found estab h = works_h t a port linked (begins a linked) found (begins_v t a port linked found h) h
  bound_work_h a port linked (Some number) found estab h = by (label_at linked.port number) refl
    where
      k : IsSteady t linked.setup linked.port
      k = (begins_v t a port linked found h).port

      still : IsSteadily t (works_as a linked (begins a linked))
      still = works_h t a port linked (begins a linked) found (begins_v t a port linked found h) h

      by_state : (label : Label) (state : LabelState) → StandsAs t linked.setup.port label.number label.flow state → IsSteadily t (works_as a linked (bound_in linked.setup (begins a linked) label state))
      by_state label Offered stands = still
      by_state label (Recalled last acknowledged) stands = still
      by_state label Wired stands = still
      by_state label Wiring wired =
          let w : Work = bound_in linked.setup (begins a linked) label Wiring in
          let b : Binding linked.setup label w = bound_b a linked k label wired in
          subst (λ (xs : List Action). IsSteadily t (fold (performs_in_estab linked.setup.port) (with_work a linked w) xs)) (sym b.is)
          (noted_b linked.setup label (with_work a linked w) estab k.node (binds linked.setup.port label.number label.flow wired) (placed_h t a port linked w found b.port h) b.rest b.asks)

      by : (o : Option Label) → label_at linked.port number ≡ o → IsSteadily t (works_as a linked (bound linked.setup (begins a linked) o))
      by None is = still
      by (Some label) is = by_state label label.state (at_every label_number (Stands t linked.setup.port) number (labels_of linked.port) label k.labels is)
