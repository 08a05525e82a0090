-- what a port at work is and has asked, while its smallest things are done

use Rattle.std.proofs.Common.{◌≡◌, ◌≢◌, ℕ, Bool, true, false, List, [], ◌∷◌, ◌++◌, Option, None, Some, refl, sym, subst, fold, inl, inr}
use Rattle.std.specs.Prelude.{◌⊎◌, ◌+◌, nat_lt, not}
use Rattle.std.specs.Option.{option_map, option_map_or}
use Rattle.law_controller_bindings.specs.world_model.Words.{PortNo, Instance, Peer, Clearing, Said, Answer, Quiet, Send, Open, Side, said, hello_of, ifmp_answer, Opened, at, put, without, Action, Say, Note, Setup, Label, label_number, Grant, grant_label, Session, Work, halts, with_session, with_label, with_grants, with_grant, without_grant, label_at, labels_of, Unnumbered, last_number, own_instance, spent_number, greets, tells_in, tells, is_spent, halts_if_spent, first_session, opens, accepts, expects}
use Rattle.law_controller_bindings.specs.world_model.adjacency_table.declared.message.Answer.TheVariants.{Reset}
use Rattle.law_controller_bindings.specs.world_model.adjacency_table.Side as sides
use Rattle.law_controller_bindings.specs.world_model.ifmp_wire.declared.message.Message.{Message}
use Rattle.law_controller_bindings.specs.world_model.ifmp_wire.declared.message.Message.TheVariants.{Adjacency}
use Rattle.law_controller_bindings.specs.ordered_lists.Ordered.{Every}
use Rattle.law_controller_bindings.specs.world_model.port_model.declared.action.Action.TheVariants as actions
use Rattle.law_controller_bindings.specs.world_model.port_model.Port.{Port, with_action}
use Rattle.law_controller_bindings.specs.world_model.port_model.Saying.{peer_instance, says}
use Rattle.law_controller_bindings.specs.world_model.port_model.Adjacency.{answers, steps}
use Rattle.law_controller_bindings.proofs.law_port_facts.Keyed.{on_both, at_every, put_every, without_every, every_more}
use Rattle.law_world_views.specs.Tied.{is_rstack}
use Rattle.law_port_words.specs.Words.{Terms, Stands, IsGranted, IsSteady, IsWord, IsFair}

-- *A step of a side*: its own party stays, it leaves Clearing as little as it comes there, and what it says and stores
pub record IsTurn (t : Terms) (port : PortNo) (side : Side Peer) (step : sides.Step Peer) : Type 0 where
  pub own : step.side.own ≡ side.own
  pub left : step.side.state ≢ Clearing → side.state ≢ Clearing
  pub stays : side.state ≢ Clearing → step.side.state ≢ Clearing
  pub stored : (peer : Peer) → step.side.stored ≡ Some peer → (side.stored ≡ Some peer) ⊎ t.known port peer.instance.0
  pub sends : (message : Said Peer) → step.answer ≡ Send message → is_rstack message.kind ≡ false → (side.state ≢ Clearing) × (message.sender ≡ side.own)
  pub opens : (message : Said Peer) (own : Peer) → step.answer ≡ Open (Some message) own → is_rstack message.kind ≡ false → (side.state ≢ Clearing) × (message.sender ≡ side.own)
  pub enters : (message : Option (Said Peer)) (own : Peer) → step.answer ≡ Open message own → step.side.state ≢ Clearing

module _ (t : Terms) (setup : Setup) where
  pub record Voiced (w : Work) : Type 0 where
    pub port : IsSteady t setup w.port
    pub said : Every (IsFair t setup.port) w.actions

module _ (t : Terms) (setup : Setup) (speaks : (instance : ℕ) → t.own setup.port instance → t.told setup.port instance) where
  abbrev V : Work → Type 0
  V w = Voiced t setup w

  -- *What is asked*
  pub acts_v : (w : Work) (x : Action) → IsFair t setup.port x → V w → V (with_action w x)
  acts_v w x fair h = on_both V w.halted w (record w { actions = w.actions ++ x ∷ [] }) h
      (record { port = h.port; said = every_more (IsFair t setup.port) w.actions x h.said fair })

  pub halts_v : (w : Work) → V w → V (halts w)
  halts_v w h = (let k : V (with_action w actions.Reset) = acts_v w actions.Reset tt h in record { port = k.port; said = k.said })

  -- *The session*
  some_map : (change : Session → Session) (o : Option Session) (s : Session) → option_map change o ≡ Some s → (P : Type 0) → ((x : Session) → o ≡ Some x → P) → P
  some_map change None s e P f = absurd (cc e)
  some_map change (Some x) s e P f = f x refl

  pub session_steady : (port : Port) (change : Session → Session)
      → ((s : Session) → port.session ≡ Some s → Every (Stands t setup.port) s.labels → Every (Stands t setup.port) (change s).labels)
      → IsSteady t setup port → IsSteady t setup (record port { session = option_map change port.session })
  session_steady port change keeps h = record {
    node = h.node;
    own = h.own;
    stored = h.stored;
    lives = λ s e. some_map change port.session s e (port.adjacency.state ≢ Clearing) (λ x is. h.lives x is);
    labels = by port.session refl;
    grants = h.grants;
  }
    where
      by : (o : Option Session) → port.session ≡ o → Every (Stands t setup.port) (option_map_or (λ (s : Session). s.labels) (option_map change o) [])
      by None is = tt
      by (Some s) is = keeps s is (subst (λ (o : Option Session). Every (Stands t setup.port) (option_map_or (λ (s : Session). s.labels) o [])) is h.labels)

  pub session_v : (w : Work) (change : Session → Session)
      → ((s : Session) → w.port.session ≡ Some s → Every (Stands t setup.port) s.labels → Every (Stands t setup.port) (change s).labels)
      → V w → V (with_session w change)
  session_v w change keeps h = on_both V w.halted w (record w { port = record w.port { session = option_map change w.port.session } }) h
      (record { port = session_steady w.port change keeps h.port; said = h.said })

  -- one that keeps its labels
  pub kept_v : (w : Work) (change : Session → Session) → ((s : Session) → (change s).labels ≡ s.labels) → V w → V (with_session w change)
  kept_v w change same h = session_v w change (λ s e all. subst (Every (Stands t setup.port)) (sym (same s)) all) h

  -- *Labels*
  pub label_v : (w : Work) (label : Label) → Stands t setup.port label → V w → V (with_label w label)
  label_v w label stands h = session_v w (λ s. record s { labels = put label_number label s.labels })
      (λ s e all. put_every label_number (Stands t setup.port) label s.labels stands all) h

  pub found_v : (w : Work) (number : ℕ) (label : Label) → label_at w.port number ≡ Some label → V w → Stands t setup.port label
  found_v w number label found h = at_every label_number (Stands t setup.port) number (labels_of w.port) label h.port.labels found

  -- *Grants*
  pub grants_v : (w : Work) (grants : List Grant) → Every (IsGranted t setup.port) grants → V w → V (with_grants w grants)
  grants_v w grants all h = on_both V w.halted w (record w { port = record w.port { grants = grants } }) h
      (record { port = record { node = h.port.node; own = h.port.own; stored = h.port.stored; lives = h.port.lives; labels = h.port.labels; grants = all }; said = h.said })

  pub grant_v : (w : Work) (grant : Grant) → IsGranted t setup.port grant → V w → V (with_grant w grant)
  grant_v w grant granted h = grants_v w (put grant_label grant w.port.grants) (put_every grant_label (IsGranted t setup.port) grant w.port.grants granted h.port.grants) h

  pub gone_v : (w : Work) (label : ℕ) → V w → V (without_grant w label)
  gone_v w label h = grants_v w (without grant_label label w.port.grants) (without_every grant_label (IsGranted t setup.port) label w.port.grants h.port.grants) h

  pub granted_v : (w : Work) (label : ℕ) (grant : Grant) → at grant_label label w.port.grants ≡ Some grant → V w → IsGranted t setup.port grant
  granted_v w label grant found h = at_every grant_label (IsGranted t setup.port) label w.port.grants grant h.port.grants found

  -- *What is said*: in a session, which is open
  pub tells_v : (w : Work) (message : Unnumbered) → ((own peer : Instance) (n : ℕ) → t.told setup.port own.0 → IsWord t setup.port (message own peer n)) → V w → V (tells w message)
  tells_v w message word h = told w.port.session refl
    where
      told : (o : Option Session) → w.port.session ≡ o → V (tells_in w message o)
      told None is = h
      told (Some s) is =
          let next : Work = with_session w (λ session. record session { number = s.number + 1 }) in
          let spent : Work = with_session w (λ session. record session { number = spent_number }) in
          let said : Message = message (own_instance w.port.adjacency) (peer_instance w.port.adjacency) s.number in
          on_both V (nat_lt s.number last_number) (with_action next (Say said)) spent
          (acts_v next (Say said) (word (own_instance w.port.adjacency) (peer_instance w.port.adjacency) s.number (speaks w.port.adjacency.own.instance.0 (h.port.own (h.port.lives s is))))
          (kept_v w (λ session. record session { number = s.number + 1 }) (λ session. refl) h))
          (kept_v w (λ session. record session { number = spent_number }) (λ session. refl) h)

  pub closes_v : (w : Work) → V w → V (halts_if_spent w)
  closes_v w h = on_both V (is_spent w.port.session) (halts w) w (halts_v w h) h

  pub says_v : (w : Work) (message : Unnumbered) → ((own peer : Instance) (n : ℕ) → t.told setup.port own.0 → IsWord t setup.port (message own peer n)) → V w → V (says w message)
  says_v w message word h = closes_v (tells w message) (tells_v w message word h)

  pub expects_v : (w : Work) (number : ℕ) → V w → V (expects w number)
  expects_v w number h =
      let k : V (with_session w (λ s. record s { expected = number + 1 })) = kept_v w (λ s. record s { expected = number + 1 }) (λ s. refl) h in
      record { port = record { node = k.port.node; own = k.port.own; stored = k.port.stored; lives = k.port.lives; labels = k.port.labels; grants = k.port.grants }; said = k.said }

  pub accepts_v : (w : Work) → V w → V (accepts w)
  accepts_v w h = record { port = record { node = h.port.node; own = h.port.own; stored = h.port.stored; lives = h.port.lives; labels = h.port.labels; grants = h.port.grants }; said = h.said }

  pub fold_v : {A : Type 0} (f : Work → A → Work) → ((w : Work) (x : A) → V w → V (f w x)) → (xs : List A) (w : Work) → V w → V (fold f w xs)
  fold_v f each [] w h = h
  fold_v f each (x ∷ xs) w h = fold_v f each xs (f w x) (each w x h)

  -- *The adjacency*
  opens_v : (w : Work) → (w.port.adjacency.state ≢ Clearing) → V w → V (opens setup w)
  opens_v w live h = acts_v (record w { port = record w.port { session = Some (first_session setup) } }) (Note (Opened setup.node setup.port)) tt (record {
    port = record { node = h.port.node; own = h.port.own; stored = h.port.stored; lives = λ s e. live; labels = tt; grants = h.port.grants };
    said = h.said;
  })

  acts_state : (w : Work) (x : Action) → w.port.adjacency.state ≢ Clearing → (with_action w x).port.adjacency.state ≢ Clearing
  acts_state w x live = on_both (λ (v : Work). v.port.adjacency.state ≢ Clearing) w.halted w (record w { actions = w.actions ++ x ∷ [] }) live live

  pub steps_v : (w : Work) (step : sides.Step Peer) → IsTurn t setup.port w.port.adjacency step → V w → V (steps setup w step)
  steps_v w step turn h = by step.answer refl
    where
      next : ℕ
      next = option_map_or (λ (s : Session). s.expected) w.port.session 1

      sided : Work
      sided = record w { port = record w.port { adjacency = step.side } }

      s : V sided
      s = record {
        port = record {
          node = h.port.node;
          own = λ live. subst (λ (p : Peer). t.own setup.port p.instance.0) (sym turn.own) (h.port.own (turn.left live));
          stored = λ peer e. elim (turn.stored peer e) [ inl was ↦ h.port.stored peer was | inr known ↦ known ];
          lives = λ session e. turn.stays (h.port.lives session e);
          labels = h.port.labels;
          grants = h.port.grants;
        };
        said = h.said;
      }

      word : (message : Said Peer) → (is_rstack message.kind ≡ false → (w.port.adjacency.state ≢ Clearing) × (message.sender ≡ w.port.adjacency.own)) → IsWord t setup.port (Adjacency (hello_of next message))
      word message tells = record {
        own = λ e. (let told = tells (denied (is_rstack message.kind) e) in subst (λ (p : Peer). t.told setup.port p.instance.0) (sym told.1) (speaks w.port.adjacency.own.instance.0 (h.port.own told.0)));
        held = tt;
      }
        where
          denied : (b : Bool) → not b ≡ true → b ≡ false
          denied true e = absurd (cc e)
          denied false e = refl

      by : (answer : Answer (Said Peer) Peer) → step.answer ≡ answer → V (answers setup sided (ifmp_answer next answer))
      by Quiet is = s
      by (Send message) is = acts_v sided (Say (Adjacency (hello_of next message))) (word message (turn.sends message is)) s
      by (Open None own) is = opens_v sided (turn.enters None own is) s
      by (Open (Some message) own) is = opens_v (greets sided (hello_of next message)) (acts_state sided (Say (Adjacency (hello_of next message))) (turn.enters (Some message) own is))
          (acts_v sided (Say (Adjacency (hello_of next message))) (word message (turn.opens message own is)) s)
      by Reset is = halts_v sided s
