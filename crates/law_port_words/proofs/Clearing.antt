-- a port that begins anew in the midst of an answer isn't cleared in it: its Delete All stands, or the node was reset

use Rattle.std.proofs.Common.{◌≡◌, ℕ, Bool, true, false, List, [], ◌∷◌, ◌++◌, Option, None, Some, refl, sym, ◌∙◌, ap, subst, if◌then◌else◌, fold, append_assoc, inl, inr}
use Rattle.std.specs.Prelude.{not, ◌&&◌, length}
use Rattle.law_controller_bindings.specs.world_model.Words.{label_number_of, AddBranch, DeleteTree, VerifyTree, PortManagement, Bind, Free, Part, put, without, Label, LabelState, Wiring, Offered, Recalled, Wired, label_number, Grant, GrantState, Idle, ByController, ByInput, Leaving, grant_label, grant_on, Session, halts, with_session, with_label, without_label, with_grants, without_grant, label_at, Unnumbered, last_number, own_instance, spent_number, tells_in, tells, is_spent, halts_if_spent, redirect, reclaim_ack, label_by, bound_in, bound, freed_in, freed, started_in, started, joins_label, parted, given_back_in, given_back, default_end, default_home, join_of, parts, releases_join, releases_input, released_inputs, resets_spent, releases, up_ports, default_branches, ends_meeting, has_emptied, tells_port, behind_delete_all, causes_in_estab, causes, is_clearing, awaits_nothing, may_clear, clears_of, PortNo, Channel, End, Peer, next_control, with_control, label_channel_of, number_of_channel, Side, is_estab, Request, MoveBranch, all_on, is_led_home, last_transaction, Action, Say, Ask, Note, CutChain, TakeBack, Withdraw, Setup, home_of, Work, resets, restarts, closing, withdrawing, taking_back, Controller, Linked, port_key, linked_at, with_linked, with_desk, chains_with, sends_control, asks_next, asks, takes_back, begins, with_work, cuts_of, closes_by, port_restarts_of, port_restarts, resets_gsmp, node_resets, does, does_in_estab, resets_of, performs, performs_in_estab, Rule, works, at_port, nothing_taken}
use Rattle.law_controller_bindings.specs.world_model.gsmp_wire.declared.request.Request.TheVariants.{AllPorts}
use Rattle.law_controller_bindings.specs.world_model.link_model.declared.record.Record.TheVariants.{Join}
use Rattle.law_controller_bindings.specs.world_model.port_model.Messages.{is_up}
use Rattle.law_controller_bindings.specs.world_model.port_model.Port.{with_action}
use Rattle.law_controller_bindings.specs.world_model.port_model.Saying.{peer_instance}
use Rattle.law_controller_bindings.specs.world_model.port_model.Answers as port_answers
use Rattle.law_controller_bindings.specs.world_model.port_model.Joins as port_joins
use Rattle.law_controller_bindings.specs.world_model.port_model.Resets.{cleared}
use Rattle.law_controller_bindings.specs.world_model.Controller.{note}
use Rattle.law_controller_bindings.specs.world_model.Joins.{Join as ControllerJoin}
use Rattle.law_controller_bindings.specs.world_model.Meeting.{request_port}
use Rattle.law_port_words.proofs.Joining.{Clears, unclear, cleared_on}
use Rattle.std.specs.Prelude.{◌⊎◌, ◌+◌, ◌==◌, nat_lt, flat_map}
use Rattle.std.specs.Option.{option_map}
use Rattle.law_controller_bindings.specs.world_model.gsmp_wire.declared.request.Request.TheVariants.{DeleteAll}
use Rattle.law_controller_bindings.specs.ordered_lists.Ordered.{Every}
use Rattle.law_controller_bindings.proofs.ordered_lists.Every.{every_map, every_all}
use Rattle.law_controller_bindings.specs.world_model.port_model.Desk.{asked}
use Rattle.law_controller_bindings.specs.world_model.port_model.declared.action.Action.TheVariants as actions
use Rattle.law_controller_bindings.proofs.law_port_facts.Keyed.{on_both, on_each, at_every, put_every}
use Rattle.law_controller_bindings.specs.world_model.Controller.{Acted, ports_of}
use Rattle.law_controller_bindings.proofs.law_controller.Desk.{asked_all, withdrawn_all, asked_of}
use Rattle.law_world_views.proofs.law_controller_views.Sends.{sent_cases}

module _ (old : PortNo → ℕ → Type 0) where
  -- *A port begins anew* as its Delete All stands, or with its node
  abbrev pub Fresh : Controller → PortNo → Type 0
  Fresh c port = (all_on c.desk port ≡ true) ⊎ ((c.has_met ≡ false) × (is_estab c.adjacency.state ≡ false))

  abbrev pub OldOrFresh : Controller → Linked → Type 0
  OldOrFresh c x = old x.setup.port x.port.adjacency.own.instance.0 ⊎ Fresh c x.setup.port

  pub record Waits (a : Acted) : Type 0 where
    pub each : Every (OldOrFresh a.controller) a.controller.ports
    pub closed : is_estab a.controller.adjacency.state ≡ false → a.controller.has_met ≡ false

  pub later_j : (a b : Acted) → b.controller.ports ≡ a.controller.ports → ((port : PortNo) → Fresh a.controller port → Fresh b.controller port)
      → (is_estab b.controller.adjacency.state ≡ false → b.controller.has_met ≡ false) → Waits a → Waits b
  later_j a b ports fresh closed h = record {
    each = subst (Every (OldOrFresh b.controller)) (sym ports) (every_map (OldOrFresh a.controller) (OldOrFresh b.controller) a.controller.ports
        (λ x o. elim o [ inl was ↦ inl was | inr f ↦ inr (fresh x.setup.port f) ]) h.each);
    closed = closed;
  }

  -- *A node that is reset*
  abbrev Reset_ : Acted → Type 0
  Reset_ a = (a.controller.has_met ≡ false) × (is_estab a.controller.adjacency.state ≡ false)

  reset_j : (a : Acted) → Reset_ a → Waits a
  reset_j a r = record { each = every_all (OldOrFresh a.controller) a.controller.ports (λ x. inr (inr r)); closed = λ e. r.0 }

  cut_r : (a : Acted) (label : ℕ) (o : Option Linked) → Reset_ a → Reset_ (cuts_of a label o)
  cut_r a label None r = r
  cut_r a label (Some linked) r = r

  closes_r : (port : PortNo) (a : Acted) (action : Action) → Reset_ a → Reset_ (closes_by port a action)
  closes_r port a (Say message) r = r
  closes_r port a (Ask request needed) r = r
  closes_r port a (Note item) r = r
  closes_r port a (CutChain label) r = cut_r a label (linked_at a.controller port) r
  closes_r port a (TakeBack input output) r = r
  closes_r port a (Withdraw input) r = r
  closes_r port a actions.Reset r = r

  fold_r : {A : Type 0} (f : Acted → A → Acted) → ((a : Acted) (x : A) → Reset_ a → Reset_ (f a x)) → (xs : List A) (a : Acted) → Reset_ a → Reset_ (fold f a xs)
  fold_r f each [] a r = r
  fold_r f each (x ∷ xs) a r = fold_r f each xs (f a x) (each a x r)

  restarts_r : (a : Acted) (o : Option Linked) → Reset_ a → Reset_ (port_restarts_of a o)
  restarts_r a None r = r
  restarts_r a (Some linked) r = fold_r (closes_by linked.setup.port) (closes_r linked.setup.port) (restarts linked.setup (begins a linked)).actions (with_work a linked (restarts linked.setup (begins a linked))) r

  node_r : (a : Acted) → Reset_ (node_resets a)
  node_r a = fold_r port_restarts (λ b port r. restarts_r b (linked_at b.controller port) r) (ports_of a.controller) (resets_gsmp a) (refl, refl)

  pub node_j : (a : Acted) → Waits (node_resets a)
  node_j a = reset_j (node_resets a) (node_r a)

  -- *But one port*, that has just begun anew
  pub record But (p : ℕ) (a : Acted) : Type 0 where
    pub each : Every (λ (x : Linked). (x.setup.port.0 ≡ p) ⊎ OldOrFresh a.controller x) a.controller.ports
    pub closed : is_estab a.controller.adjacency.state ≡ false → a.controller.has_met ≡ false

  waits_but : (p : ℕ) (a : Acted) → Waits a → But p a
  waits_but p a h = record { each = every_map (OldOrFresh a.controller) (λ (x : Linked). (x.setup.port.0 ≡ p) ⊎ OldOrFresh a.controller x) a.controller.ports (λ x o. inr o) h.each; closed = h.closed }

  later_b : (p : ℕ) (a b : Acted) → b.controller.ports ≡ a.controller.ports → ((port : PortNo) → Fresh a.controller port → Fresh b.controller port)
      → (is_estab b.controller.adjacency.state ≡ false → b.controller.has_met ≡ false) → But p a → But p b
  later_b p a b ports fresh closed h = record {
    each = subst (Every (λ (x : Linked). (x.setup.port.0 ≡ p) ⊎ OldOrFresh b.controller x)) (sym ports)
        (every_map (λ (x : Linked). (x.setup.port.0 ≡ p) ⊎ OldOrFresh a.controller x) (λ (x : Linked). (x.setup.port.0 ≡ p) ⊎ OldOrFresh b.controller x) a.controller.ports
        (λ x o. elim o [ inl here ↦ inl here | inr other ↦ inr (elim other [ inl was ↦ inl was | inr f ↦ inr (fresh x.setup.port f) ]) ]) h.each);
    closed = closed;
  }

  -- what keeps each of two things, whatever it is, in the same way
  record Steps (a b : Acted) : Type 0 where
    waits : Waits a → Waits b
    but : (p : ℕ) → But p a → But p b

  alike : (a b : Acted) → b.controller.ports ≡ a.controller.ports → ((port : PortNo) → Fresh a.controller port → Fresh b.controller port)
      → ((is_estab a.controller.adjacency.state ≡ false → a.controller.has_met ≡ false) → is_estab b.controller.adjacency.state ≡ false → b.controller.has_met ≡ false) → Steps a b
  alike a b ports fresh closed = record { waits = λ h. later_j a b ports fresh (closed h.closed) h; but = λ p h. later_b p a b ports fresh (closed h.closed) h }

  itself : (a : Acted) → Steps a a
  itself a = record { waits = λ h. h; but = λ p h. h }

  on : (a b c : Acted) → Steps a b → Steps b c → Steps a c
  on a b c f g = record { waits = λ h. g.waits (f.waits h); but = λ p h. g.but p (f.but p h) }

  node_s : (a : Acted) → Steps a (node_resets a)
  node_s a = record { waits = λ h. node_j a; but = λ p h. waits_but p (node_resets a) (node_j a) }

  control_s : (a : Acted) (channel : Channel) (payload : List ℕ) → Steps a (sends_control a channel payload)
  control_s a channel payload = sent_cases (Steps a) (record a { numbers = with_control a.numbers }) channel (next_control a.numbers) payload
      (alike a _ refl (λ port f. f) (λ c. c)) (alike a _ refl (λ port f. f) (λ c. c))

  asks_s : (a : Acted) (request : Request) → Steps a (asks a request)
  asks_s a request = on_both (Steps a) (is_estab a.controller.adjacency.state) (if a.controller.desk.next == last_transaction then node_resets a else asks_next a request) a
      (on_both (Steps a) (a.controller.desk.next == last_transaction) (node_resets a) (asks_next a request) (node_s a)
      (on a (with_desk a (asked a.controller.desk request)) (asks_next a request)
      (alike a (with_desk a (asked a.controller.desk request)) refl (λ port f. elim f [ inl all ↦ inl (asked_all a.controller.desk request port all) | inr r ↦ inr r ]) (λ c. c))
      (control_s (with_desk a (asked a.controller.desk request)) _ _))) (itself a)

  takes_back_s : (a : Acted) (input output : End) → Steps a (takes_back a input output)
  takes_back_s a input output = on_both (Steps a) (is_led_home a.controller.desk input (home_of input)) a (asks a (MoveBranch input output (home_of input))) (itself a) (asks_s a (MoveBranch input output (home_of input)))

  -- a port that has the same number and instance is put in its place
  put_s : (a : Acted) (port : PortNo) (linked after : Linked) → linked_at a.controller port ≡ Some linked → after.setup ≡ linked.setup → after.port.adjacency.own ≡ linked.port.adjacency.own → Steps a (with_linked a after)
  put_s a port linked after found setup own = record {
    waits = λ h. record {
      each = put_every port_key (OldOrFresh a.controller) after a.controller.ports (moved (at_every port_key (OldOrFresh a.controller) port.0 a.controller.ports linked h.each found)) h.each;
      closed = h.closed;
    };
    but = λ p h. record {
      each = put_every port_key (λ (x : Linked). (x.setup.port.0 ≡ p) ⊎ OldOrFresh a.controller x) after a.controller.ports
          (elim (at_every port_key (λ (x : Linked). (x.setup.port.0 ≡ p) ⊎ OldOrFresh a.controller x) port.0 a.controller.ports linked h.each found) [
            | inl here ↦ inl (ap (λ (s : Setup). s.port.0) setup ∙ here)
            | inr other ↦ inr (moved other)
          ]) h.each;
      closed = h.closed;
    };
  }
    where
      moved : OldOrFresh a.controller linked → OldOrFresh a.controller after
      moved o = subst (λ (s : Setup). old s.port after.port.adjacency.own.instance.0 ⊎ Fresh a.controller s.port) (sym setup)
          (subst (λ (p : Peer). old linked.setup.port p.instance.0 ⊎ Fresh a.controller linked.setup.port) (sym own) o)

  cut_s : (a : Acted) (port : PortNo) (label : ℕ) (o : Option Linked) → linked_at a.controller port ≡ o → Steps a (cuts_of a label o)
  cut_s a port label None found = itself a
  cut_s a port label (Some linked) found = (let s : Steps a (with_linked a (record linked { chains = chains_with linked.chains label nothing_taken })) = put_s a port linked (record linked { chains = chains_with linked.chains label nothing_taken }) found refl refl in
      record { waits = λ h. (let k = s.waits h in record { each = k.each; closed = k.closed }); but = λ p h. (let k = s.but p h in record { each = k.each; closed = k.closed }) })

  does_s : (port : PortNo) (a : Acted) (action : Action) → Steps a (does port a action)
  does_s port a (Say message) = control_s a _ _
  does_s port a (Ask request needed) = asks_s a request
  does_s port a (Note item) = alike a _ refl (λ q f. f) (λ c. c)
  does_s port a (CutChain label) = cut_s a port label (linked_at a.controller port) refl
  does_s port a (TakeBack input output) = takes_back_s a input output
  does_s port a (Withdraw input) = alike a _ refl (λ q f. elim f [ inl all ↦ inl (withdrawn_all a.controller.desk input q all) | inr r ↦ inr r ]) (λ c. c)
  does_s port a actions.Reset = itself a

  done_s : (port : PortNo) (a : Acted) (action : Action) → Steps a (does_in_estab port a action)
  done_s port a action = on_both (Steps a) (is_estab a.controller.adjacency.state) (does port a action) a (does_s port a action) (itself a)

  fold_s : {A : Type 0} (f : Acted → A → Acted) → ((a : Acted) (x : A) → Steps a (f a x)) → (xs : List A) (a : Acted) → Steps a (fold f a xs)
  fold_s f each [] a = itself a
  fold_s f each (x ∷ xs) a = on a (f a x) (fold f a (x ∷ xs)) (each a x) (fold_s f each xs (f a x))

  -- *Port reset*: at last its Delete All is asked
  fold_last : {A : Type 0} (f : Acted → A → Acted) (xs : List A) (y : A) (a : Acted) → fold f a (xs ++ y ∷ []) ≡ f (fold f a xs) y
  fold_last f [] y a = refl
  fold_last f (x ∷ xs) y a = fold_last f xs y (f a x)

  port_is : (p q : PortNo) → p.0 ≡ q.0 → p ≡ q
  port_is p q e = ap (λ (n : ℕ). record { 0 = n }) e

  asked_j : (port : PortNo) (a : Acted) → But port.0 a → Waits (does_in_estab port a (Ask (DeleteAll port) true))
  asked_j port a h = on_each Waits (is_estab a.controller.adjacency.state) (asks a (DeleteAll port)) a
      (λ estab. on_each Waits (is_estab a.controller.adjacency.state) (if a.controller.desk.next == last_transaction then node_resets a else asks_next a (DeleteAll port)) a
      (λ t. on_both Waits (a.controller.desk.next == last_transaction) (node_resets a) (asks_next a (DeleteAll port)) (node_j a) next)
      (λ t. absurd (cc (sym estab ∙ t))))
      (λ closed. reset_j a (h.closed closed, closed))
    where
      b : Acted
      b = with_desk a (asked a.controller.desk (DeleteAll port))

      here : Waits b
      here = record {
        each = every_map (λ (x : Linked). (x.setup.port.0 ≡ port.0) ⊎ OldOrFresh a.controller x) (OldOrFresh b.controller) a.controller.ports
            (λ x o. elim o [
              | inl same ↦ inr (inl (subst (λ (q : PortNo). all_on (asked a.controller.desk (DeleteAll port)) q ≡ true) (port_is port x.setup.port (sym same)) (asked_of a.controller.desk port)))
              | inr other ↦ elim other [ inl was ↦ inl was | inr f ↦ inr (elim f [ inl all ↦ inl (asked_all a.controller.desk (DeleteAll port) x.setup.port all) | inr r ↦ inr r ]) ]
            ]) h.each;
        closed = h.closed;
      }

      next : Waits (asks_next a (DeleteAll port))
      next = (control_s b _ _).waits here

  resets_j : (a : Acted) (port : PortNo) → Waits a → Waits (resets_of a (linked_at a.controller port))
  resets_j a port h = by (linked_at a.controller port) refl
    where
      by : (o : Option Linked) → linked_at a.controller port ≡ o → Waits (resets_of a o)
      by None found = h
      by (Some linked) found = subst Waits (sym split) (asked_j linked.setup.port (fold f placed xs) ((fold_s f (done_s linked.setup.port) xs placed).but linked.setup.port.0 begun))
        where
          w : Work
          w = resets linked.setup (begins a linked)

          f : Acted → Action → Acted
          f = does_in_estab linked.setup.port

          placed : Acted
          placed = with_work a linked w

          xs : List Action
          xs = closing linked.setup linked.port.session ++ (withdrawing linked.setup linked.port.grants ++ flat_map (taking_back linked.setup) linked.port.grants)

          begun : But linked.setup.port.0 placed
          begun = record {
            each = put_every port_key (λ (x : Linked). (x.setup.port.0 ≡ linked.setup.port.0) ⊎ OldOrFresh a.controller x) (record linked { port = w.port }) a.controller.ports (inl refl)
                (every_map (OldOrFresh a.controller) (λ (x : Linked). (x.setup.port.0 ≡ linked.setup.port.0) ⊎ OldOrFresh a.controller x) a.controller.ports (λ x o. inr o) h.each);
            closed = h.closed;
          }

          ask : List Action
          ask = Ask (DeleteAll linked.setup.port) true ∷ []

          split : fold f placed w.actions ≡ f (fold f placed xs) (Ask (DeleteAll linked.setup.port) true)
          split = ap (fold f placed) (ap (λ ys. closing linked.setup linked.port.session ++ ys) (sym (append_assoc (withdrawing linked.setup linked.port.grants) (flat_map (taking_back linked.setup) linked.port.grants) ask))
              ∙ sym (append_assoc (closing linked.setup linked.port.session) (withdrawing linked.setup linked.port.grants ++ flat_map (taking_back linked.setup) linked.port.grants) ask)) ∙ fold_last f xs (Ask (DeleteAll linked.setup.port) true) placed

  performs_j : (port : PortNo) (a : Acted) (action : Action) → Waits a → Waits (performs port a action)
  performs_j port a (Say message) h = (does_s port a (Say message)).waits h
  performs_j port a (Ask request needed) h = (does_s port a (Ask request needed)).waits h
  performs_j port a (Note item) h = (does_s port a (Note item)).waits h
  performs_j port a (CutChain label) h = (does_s port a (CutChain label)).waits h
  performs_j port a (TakeBack input output) h = (does_s port a (TakeBack input output)).waits h
  performs_j port a (Withdraw input) h = (does_s port a (Withdraw input)).waits h
  performs_j port a actions.Reset h = resets_j a port h

  pub fold_j : {A : Type 0} (f : Acted → A → Acted) → ((a : Acted) (x : A) → Waits a → Waits (f a x)) → (xs : List A) (a : Acted) → Waits a → Waits (fold f a xs)
  fold_j f each [] a h = h
  fold_j f each (x ∷ xs) a h = fold_j f each xs (f a x) (each a x h)

  pub asks_j : (a : Acted) (request : Request) → Waits a → Waits (asks a request)
  asks_j a request h = (asks_s a request).waits h

  -- *A rule of a port* that keeps its side
  pub at_port_j : (a : Acted) (port : PortNo) (rule : Rule) → ((linked : Linked) → (rule linked.setup a.controller.desk (begins a linked)).port.adjacency ≡ linked.port.adjacency) → Waits a → Waits (at_port a port rule)
  at_port_j a port rule same h = by (linked_at a.controller port) refl
    where
      by : (o : Option Linked) → linked_at a.controller port ≡ o → Waits (works a rule o)
      by None found = h
      by (Some linked) found = fold_j (performs_in_estab linked.setup.port) (λ b x k. on_both Waits (is_estab b.controller.adjacency.state) (performs linked.setup.port b x) b (performs_j linked.setup.port b x k) k) w.actions
          (with_work a linked w) (record { each = (s.waits h).each; closed = h.closed })
        where
          w : Work
          w = rule linked.setup a.controller.desk (begins a linked)

          s : Steps a (with_linked a (record linked { port = w.port }))
          s = put_s a port linked (record linked { port = w.port }) found refl (ap (λ (x : Side Peer). x.own) (same linked))

-- *Rules that keep a port's side*
module _ (side : Side Peer) where
  abbrev Same : Work → Type 0
  Same w = w.port.adjacency ≡ side

  acts_a : (w : Work) (x : Action) → Same w → Same (with_action w x)
  acts_a w x h = on_both Same w.halted w (record w { actions = w.actions ++ x ∷ [] }) h h

  session_a : (w : Work) (change : Session → Session) → Same w → Same (with_session w change)
  session_a w change h = on_both Same w.halted w (record w { port = record w.port { session = option_map change w.port.session } }) h h

  grants_a : (w : Work) (gs : List Grant) → Same w → Same (with_grants w gs)
  grants_a w gs h = on_both Same w.halted w (record w { port = record w.port { grants = gs } }) h h

  tells_a : (w : Work) (message : Unnumbered) → Same w → Same (tells w message)
  tells_a w message h = by w.port.session
    where
      by : (o : Option Session) → Same (tells_in w message o)
      by None = h
      by (Some s) = on_both Same (nat_lt s.number last_number) _ _ (acts_a (with_session w (λ session. record session { number = s.number + 1 })) (Say (message (own_instance w.port.adjacency) (peer_instance w.port.adjacency) s.number)) (session_a w (λ session. record session { number = s.number + 1 }) h))
          (session_a w (λ session. record session { number = spent_number }) h)

  pub closes_a : (w : Work) → Same w → Same (halts_if_spent w)
  closes_a w h = on_both Same (is_spent w.port.session) (halts w) w (acts_a w actions.Reset h) h

  pub parted_a : (w : Work) (number : ℕ) → Same w → Same (parted w number)
  parted_a w number h = by (label_at w.port number)
    where
      by : (o : Option Label) → Same (joins_label w None o)
      by None = h
      by (Some label) = session_a w (λ s. record s { labels = put label_number (record label { join = None }) s.labels }) h

  pub given_back_a : (w : Work) (grant : Grant) → Same w → Same (given_back w grant)
  given_back_a w grant h = by grant.state
    where
      by : (state : GrantState) → Same (given_back_in w grant state)
      by Idle = h
      by ByController = h
      by (ByInput input) = grants_a w (put grant_label (record grant { state = ByController }) w.port.grants) h
      by (Leaving input true) = tells_a (without_grant w grant.label) (reclaim_ack (label_channel_of grant.label) grant.flow) (grants_a w (without grant_label grant.label w.port.grants) h)
      by (Leaving input false) = grants_a w (without grant_label grant.label w.port.grants) h

  bound_a : (setup : Setup) (w : Work) (o : Option Label) → Same w → Same (bound setup w o)
  bound_a setup w None h = h
  bound_a setup w (Some label) h = by label.state
    where
      offered : Work
      offered = with_label w (record label { state = Offered })

      by : (state : LabelState) → Same (bound_in setup w label state)
      by Wiring = closes_a (tells (with_action offered (Note (Bind setup.node setup.port label.number label.flow))) (redirect setup label)) (tells_a (with_action offered (Note (Bind setup.node setup.port label.number label.flow))) (redirect setup label)
          (acts_a offered (Note (Bind setup.node setup.port label.number label.flow)) (session_a w (λ s. record s { labels = put label_number (record label { state = Offered }) s.labels }) h)))
      by Offered = h
      by (Recalled last acknowledged) = h
      by Wired = h

  freed_a : (setup : Setup) (w : Work) (o : Option Label) → Same w → Same (freed setup w o)
  freed_a setup w None h = h
  freed_a setup w (Some label) h = by label.state
    where
      by : (state : LabelState) → Same (freed_in setup w label state)
      by Wired = acts_a (without_label w label.number) (Note (Free setup.node setup.port label.number)) (session_a w (λ s. record s { labels = without label_number label.number s.labels }) h)
      by Wiring = h
      by Offered = h
      by (Recalled last acknowledged) = h

  started_a : (w : Work) (o : Option Grant) → Same w → Same (started w o)
  started_a w None h = h
  started_a w (Some grant) h = by grant.state
    where
      by : (state : GrantState) → Same (started_in w grant state)
      by Idle = grants_a w (put grant_label (record grant { state = ByController }) w.port.grants) h
      by ByController = h
      by (ByInput input) = h
      by (Leaving input owed) = h

  pub done_a : (setup : Setup) (w : Work) (request : Request) → Same w → Same (port_answers.done setup w request)
  done_a setup w (AddBranch input output) h = on_both Same (input.port.0 == 0) _ _ (started_a w (grant_on w.port.grants (label_number_of output.channel)) h) (bound_a setup w (label_by w.port (label_number_of input.channel)) h)
  done_a setup w (MoveBranch input from to) h = on_both Same (to.port.0 == 0) w _ h (acts_a w (Note (Join setup.node setup.port (number_of_channel input.channel) to.port (number_of_channel to.channel))) h)
  done_a setup w (DeleteTree input) h = freed_a setup w (label_by w.port (label_number_of input.channel)) h
  done_a setup w (VerifyTree input) h = h
  done_a setup w (DeleteAll port) h = h
  done_a setup w (PortManagement port function) h = h
  done_a setup w AllPorts h = h

-- *An answer* up to what it causes
module _ (old : PortNo → ℕ → Type 0) where
  abbrev J : Acted → Type 0
  J a = Waits old a

  noted_j : (a b : Acted) → b.controller ≡ a.controller → J a → J b
  noted_j a b same h = later_j old a b (ap (λ (c : Controller). c.ports) same) (λ port f. subst (λ (c : Controller). Fresh old c port) (sym same) f)
      (subst (λ (c : Controller). is_estab c.adjacency.state ≡ false → c.has_met ≡ false) (sym same) h.closed) h

  released_j : (a : Acted) (o : Option ControllerJoin) → J a → J (releases_join a o)
  released_j a None h = h
  released_j a (Some join) h = at_port_j old (parts a join.input) join.port (λ setup desk w. port_joins.given_back w join.grant) (λ linked. given_back_a linked.port.adjacency (begins (parts a join.input) linked) join.grant refl)
      (at_port_j old noted join.input.port (λ setup desk w. port_joins.parted w (number_of_channel join.input.channel)) (λ linked. parted_a linked.port.adjacency (begins noted linked) (number_of_channel join.input.channel) refl) (noted_j a noted refl h))
    where
      noted : Acted
      noted = note a (Part a.controller.node join.input.port (number_of_channel join.input.channel))

  spent_j : (a : Acted) (port : PortNo) → J a → J (resets_spent a port)
  spent_j a port h = at_port_j old a port (λ setup desk w. halts_if_spent w) (λ linked. closes_a linked.port.adjacency (begins a linked) refl) h

  pub releases_j : (a : Acted) (request : Request) → J a → J (releases a request)
  releases_j a request h =
      let released : Acted = fold releases_input a (released_inputs a.controller request) in
      fold_j old resets_spent spent_j (ports_of released.controller) released (fold_j old releases_input (λ b input k. released_j b (join_of b.controller input) k) (released_inputs a.controller request) a h)

  tells_port_j : (a : Acted) (request : Request) (o : Option PortNo) → J a → J (tells_port a request o)
  tells_port_j a request None h = h
  tells_port_j a request (Some port) h = at_port_j old a port (λ setup desk w. port_answers.done setup w request) (λ linked. done_a linked.port.adjacency linked.setup (begins a linked) request refl) h

  met_j : (a : Acted) → is_estab a.controller.adjacency.state ≡ true → J a → J (ends_meeting a)
  met_j a estab h = fold_j old asks (asks_j old) (flat_map default_branches (up_ports a.controller)) (record a { controller = record a.controller { has_met = true } })
      (later_j old a _ refl (λ port f. elim f [ inl all ↦ inl all | inr r ↦ absurd (cc (sym estab ∙ r.1)) ]) (λ e. absurd (cc (sym estab ∙ e))) h)

  behind_j : (a : Acted) (port : PortNo) → is_estab a.controller.adjacency.state ≡ true → J a → J (behind_delete_all a port)
  behind_j a port estab h = on_both J a.controller.has_met (asks a (AddBranch (default_end port) (default_home port))) (if has_emptied a.controller then ends_meeting a else a)
      (asks_j old a (AddBranch (default_end port) (default_home port)) h) (on_both J (has_emptied a.controller) (ends_meeting a) a (met_j a estab h) h)

  causes_in_j : (a : Acted) (request : Request) → is_estab a.controller.adjacency.state ≡ true → J a → J (causes_in_estab a request)
  causes_in_j a (DeleteAll port) estab h = behind_j a port estab h
  causes_in_j a (AddBranch input output) estab h = tells_port_j a (AddBranch input output) (request_port (AddBranch input output)) h
  causes_in_j a (MoveBranch input from to) estab h = tells_port_j a (MoveBranch input from to) (request_port (MoveBranch input from to)) h
  causes_in_j a (DeleteTree input) estab h = tells_port_j a (DeleteTree input) (request_port (DeleteTree input)) h
  causes_in_j a (VerifyTree input) estab h = tells_port_j a (VerifyTree input) (request_port (VerifyTree input)) h
  causes_in_j a (PortManagement port function) estab h = tells_port_j a (PortManagement port function) (request_port (PortManagement port function)) h
  causes_in_j a AllPorts estab h = h

  pub causes_j : (a : Acted) (request : Request) → J a → J (causes a request)
  causes_j a request h = on_each J (is_estab a.controller.adjacency.state) (causes_in_estab a request) a (λ estab. causes_in_j a request estab h) (λ closed. h)

  -- *Clearing*: a port that is cleared has its old instance
  cleared_j : (a : Acted) (o : Option Linked) → ((linked : Linked) → o ≡ Some linked → OldOrFresh old a.controller linked) → J a → J (clears_of a o)
  cleared_j a None there h = h
  cleared_j a (Some linked) there h = on_both J (may_clear a.controller linked) (with_linked a (record linked { port = cleared linked.port })) a
      (record { each = put_every port_key (OldOrFresh old a.controller) (record linked { port = cleared linked.port }) a.controller.ports (there linked refl) h.each; closed = h.closed }) h

  pub clears_j : (a b : Acted) → Clears a b → J a → J b
  clears_j a b unclear h = h
  clears_j a b (cleared_on d port c) h = (let k : J d = clears_j a d c h in
      cleared_j d (linked_at d.controller port) (λ linked found. at_every port_key (OldOrFresh old d.controller) port.0 d.controller.ports linked k.each found) k)

  pub cleared_old : (a : Acted) (port : PortNo) (linked : Linked) → linked_at a.controller port ≡ Some linked → may_clear a.controller linked ≡ true → J a → old linked.setup.port linked.port.adjacency.own.instance.0
  cleared_old a port linked found may h = elim (at_every port_key (OldOrFresh old a.controller) port.0 a.controller.ports linked h.each found) [
    | inl was ↦ was
    | inr fresh ↦ absurd (elim fresh [ inl all ↦ waiting all | inr r ↦ unmet r.0 ])
  ]
    where
      parts_of : (x y m u n : Bool) → ((x && y) && ((m && u) && n)) ≡ true → (m ≡ true) × (n ≡ true)
      parts_of true true true true true e = (refl, refl)
      parts_of false y m u n e = absurd (cc e)
      parts_of true false m u n e = absurd (cc e)
      parts_of true true false u n e = absurd (cc e)
      parts_of true true true false n e = absurd (cc e)
      parts_of true true true true false e = absurd (cc e)

      both : (a.controller.has_met ≡ true) × (awaits_nothing a.controller linked.setup.port ≡ true)
      both = parts_of (is_clearing linked.port.adjacency.state) (length linked.port.grants == 0) a.controller.has_met (is_up a.controller.desk.rows linked.setup.port) (awaits_nothing a.controller linked.setup.port) may

      first : (x y : Bool) → (not x && y) ≡ true → x ≡ false
      first true y e = absurd (cc e)
      first false y e = refl

      waiting : all_on a.controller.desk linked.setup.port ≡ true → ⊥
      waiting all = absurd (cc (sym all ∙ first (all_on a.controller.desk linked.setup.port) _ both.1))

      unmet : a.controller.has_met ≡ false → ⊥
      unmet e = absurd (cc (sym both.0 ∙ e))
