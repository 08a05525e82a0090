-- a port hears a message of its peer: a greeting is a step of its table, and another message leaves its side, but that it hears its peer

use Rattle.std.proofs.Common.{◌≡◌, ◌≢◌, ℕ, ◌+◌, ◌≤◌, ◌<◌, Bool, false, List, [], ◌∷◌, ◌++◌, append-nil, Option, None, Some, refl, sym, ◌∙◌, ap, subst, arith, ◌⊎◌, inl, inr, fold, if◌then◌else◌}
use Rattle.std.proofs.lemmas.List.{append_cancel_left}
use Rattle.std.specs.Option.{option_map_or}
use Rattle.world_model.specs.Words.{PortNo, Addr, Hello, HelloKind, Syn, Synack, Ack, Rstack, Redirect, Reclaim, ReclaimAck, LabelRange, Error, Peer, Side, Said, Heard, Step, Answer, Quiet, Send, Open, Reply, Silent, Says, Resets, State, Clearing, SynSent, SynRcvd, Estab, fresh, received, is_estab, hello_of, ifmp_answer, ifmp_received, at, default_home, Opened, Action, Session, Setup, Work, Linked, linked_at, port_key, begins, with_work, performs_in_estab, resets, resets_as, resets_of, resets_port, says_ifmp, works, at_port, hears}
use Rattle.world_model.specs.adjacency_table.Table.{Row, row}
use Rattle.world_model.specs.adjacency_table.Side.{said, answer_to, answer_of, answer_opened, is_entry, followed}
use Rattle.world_model.specs.adjacency_table.declared.message.Answer.TheVariants.{Reset}
use Rattle.world_model.specs.adjacency_table.Hello.{heard_from}
use Rattle.world_model.specs.ifmp_wire.declared.message.Message.{Message}
use Rattle.world_model.specs.ifmp_wire.declared.message.Message.TheVariants.{Adjacency}
use Rattle.world_model.specs.port_model.Adjacency as port_adjacency
use Rattle.world_model.specs.port_model.declared.action.Action.TheVariants as actions
use Rattle.world_model.specs.Controller.{Acted}
use Rattle.law_live_woken_links.specs.law_port_facts.ordered_lists.Ordered.{Every}
use Rattle.law_live_woken_links.proofs.law_port_facts.Keyed.{on_both, on_each, at_key, at_put_same}
use Rattle.law_live_woken_links.specs.law_live_meetings.Exchange.{ifmp, heard, side_after, said_in}
use Rattle.law_live_woken_links.proofs.law_live_meetings.Names.{hellos_are_heard}
use Rattle.law_live_woken_links.specs.law_live_orders.Law.{last_marks}
use Rattle.law_live_woken_links.proofs.law_live_sending.Going.{Goes, Sends, goes_same}
use Rattle.law_live_woken_links.proofs.law_live_tables.Plain.{IsOther, IsPlain, SideStays, stays, hears_else, side_same, hearing_other, learning}
use Rattle.law_live_woken_links.proofs.law_live_tables.Plain as plain
use Rattle.law_live_woken_links.proofs.law_live_tables.Leaving.{Change, same, anew, Turning, LeftBy, home, Does, does_then, Leaves, does_put, own_place}
use Rattle.law_live_woken_links.proofs.law_live_tables.Working.{says_does, acts_leave, after_reset}
use Rattle.law_live_woken_links.proofs.law_live_tables.Ticking.{IsAnew, Hellos, none, says, hellos_none, hellos_join}
use Rattle.law_live_woken_links.proofs.law_live_tables.Greeting.{said_greets}
use Rattle.law_live_woken_links.specs.law_live_waking_links.Law.{NamesIt}
use Rattle.law_link_tables.specs.Law.{IsLeft, IsStepped, LeavesPort, IsKept, hears_greeting, step_at, TakesGreeting, GreetingsAreSteps}
use Rattle.law_link_tables.specs.Law as specs

hellos_then : (xs ys : List Message) (ms : List (Said Peer)) → Hellos xs ms → Hellos ys [] → Hellos (xs ++ ys) ms
hellos_then xs ys ms h k = subst (Hellos (xs ++ ys)) (append-nil ms) (hellos_join xs ys ms [] h k)

-- *The words of the table* are of the own address, where the greeting names it
module _ (address : Addr) where
  abbrev OfIt : Said Peer → Type 0
  OfIt m = m.sender.address ≡ address

  own_said : (side : Side Peer) (kind : HelloKind) → side.own.address ≡ address → OfIt (said side kind)
  own_said side Syn own = own
  own_said side Synack own = own
  own_said side Rstack own = own
  own_said side Ack own = own

  own_answer : (side : Side Peer) (m : Heard Peer) (kind : HelloKind) → side.own.address ≡ address → (kind ≡ Rstack → m.receiver.address ≡ address) → OfIt (answer_to side m kind)
  own_answer side m Syn own names = own
  own_answer side m Synack own names = own
  own_answer side m Rstack own names = names refl
  own_answer side m Ack own names = own

  reply_words : (side : Side Peer) (m : Heard Peer) (reply : Reply) → side.own.address ≡ address → (reply ≡ Says Rstack → m.receiver.address ≡ address)
      → Every OfIt (said_in (answer_of (answer_to side m) reply))
  reply_words side m Silent own names = tt
  reply_words side m (Says kind) own names = (own_answer side m kind own (λ e. names (ap (λ (k : HelloKind). Says k) e)), tt)
  reply_words side m Resets own names = tt

  opened_words : (own : Peer) (answer : Answer (Said Peer) Peer) → Every OfIt (said_in answer) → Every OfIt (said_in (answer_opened own answer))
  opened_words own Quiet each = tt
  opened_words own (Send m) each = each
  opened_words own (Open m key_of) each = each
  opened_words own Reset each = tt

  followed_words : (side : Side Peer) (m : Heard Peer) (r : Row) → side.own.address ≡ address → (r.reply ≡ Says Rstack → m.receiver.address ≡ address) → Every OfIt (said_in (followed side m r).answer)
  followed_words side m r own names =
      let next : Side Peer = record {
        state = r.next;
        own = side.own;
        stored = if r.stores then Some m.sender else side.stored;
        silence = if r.clears_silence then 0 else side.silence;
      } in
      let answer : Answer (Said Peer) Peer = answer_of (answer_to next m) r.reply in
      on_both (λ (x : Answer (Said Peer) Peer). Every OfIt (said_in x)) (is_entry side.state r.next) (answer_opened side.own answer) answer
      (opened_words side.own answer (reply_words next m r.reply own names)) (reply_words next m r.reply own names)

-- a SYN is never answered by RSTACK
syn_row : (state : State) (meant known : Bool) → (row state Syn meant known).reply ≡ Says Rstack → ⊥
syn_row Clearing meant known e = absurd (cc e)
syn_row SynSent meant known e = absurd (cc e)
syn_row SynRcvd meant known e = absurd (cc e)
syn_row Estab meant known e = absurd (cc e)

row_names : (kind : HelloKind) (state : State) (meant known : Bool) → (row state kind meant known).reply ≡ Says Rstack → kind ≢ Syn
row_names Syn state meant known e = absurd (syn_row state meant known e)
row_names Synack state meant known e = λ s. cc s
row_names Rstack state meant known e = λ s. cc s
row_names Ack state meant known e = λ s. cc s

heard_own_words : (side : Side Peer) (m : Heard Peer) → (m.kind ≢ Syn → m.receiver.address ≡ side.own.address) → Every (λ (x : Said Peer). x.sender.address ≡ side.own.address) (said_in (received ifmp.same side m).answer)
heard_own_words side m names = followed_words side.own.address side m (row side.state m.kind (ifmp.same m.receiver side.own) (option_map_or (ifmp.same m.sender) side.stored false)) refl
    (λ e. names (row_names m.kind side.state (ifmp.same m.receiver side.own) (option_map_or (ifmp.same m.sender) side.stored false) e))

-- *The table's answer* to a port
abbrev pub going : (setup : Setup) (a : Acted) (q : Linked) (side : Side Peer) (answer : Answer (Said Peer) Peer) → Work
going setup a q side answer = port_adjacency.answers setup (record (begins a q) { port = record q.port { adjacency = side } })
    (ifmp_answer (option_map_or (λ (s : Session). s.expected) q.port.session 1) answer)

pub going_side : (setup : Setup) (a : Acted) (q : Linked) (side : Side Peer) (answer : Answer (Said Peer) Peer) → (going setup a q side answer).port.adjacency ≡ side
going_side setup a q side Quiet = refl
going_side setup a q side (Send m) = refl
going_side setup a q side (Open None own) = refl
going_side setup a q side (Open (Some m) own) = refl
going_side setup a q side Reset = refl

pub going_instances : (setup : Setup) (a : Acted) (q : Linked) (side : Side Peer) (answer : Answer (Said Peer) Peer) → (going setup a q side answer).instances ≡ a.numbers.instances
going_instances setup a q side Quiet = refl
going_instances setup a q side (Send m) = refl
going_instances setup a q side (Open None own) = refl
going_instances setup a q side (Open (Some m) own) = refl
going_instances setup a q side Reset = refl

-- *A message*, whatever it is, draws no instance
module _ (a : Acted) (q : Linked) where
  other_instances : (source : Addr) (message : Message) → IsOther message → (hears q.setup a.controller.desk (begins a q) source message).instances ≡ a.numbers.instances
  other_instances source message other = (hearing_other (Unit {0}) (begins a q) q.setup a.controller.desk tt (begins a q) source message other (plain.begins (Unit {0}) (begins a q))).instances

  pub hears_instances : (source : Addr) (message : Message) → (hears q.setup a.controller.desk (begins a q) source message).instances ≡ a.numbers.instances
  hears_instances source (Adjacency hello) =
      let step : Step Peer = ifmp_received q.port.adjacency source hello in
      let u : Work = going q.setup a q step.side step.answer in
      on_both (λ (w : Work). w.instances ≡ a.numbers.instances) (port_adjacency.is_good q.port.adjacency step.side (heard_from source hello)) (port_adjacency.learns q.setup a.controller.desk u hello.next) u
      ((learning ⊥ u q.setup a.controller.desk u hello.next (plain.begins ⊥ u)).instances ∙ going_instances q.setup a q step.side step.answer) (going_instances q.setup a q step.side step.answer)
  hears_instances source (Redirect sender peer number lifetime channel flow) = other_instances source (Redirect sender peer number lifetime channel flow) tt
  hears_instances source (Reclaim sender peer number channel flow) = other_instances source (Reclaim sender peer number channel flow) tt
  hears_instances source (ReclaimAck sender peer number channel flow) = other_instances source (ReclaimAck sender peer number channel flow) tt
  hears_instances source (LabelRange sender peer number least greatest) = other_instances source (LabelRange sender peer number least greatest) tt
  hears_instances source (Error sender peer number code channel) = other_instances source (Error sender peer number code channel) tt

module _ (port : PortNo) (some : 1 ≤ port.0) where
  abbrev On : Acted → Acted → Type 0
  On a b = Leaves port some a b

  low : (m n : ℕ) → n ≡ m → m ≤ n
  low m n e = omega (arith, e)

  -- *The port itself* goes by an answer of its table, and then does what is plain
  abbrev Anew : Turning
  Anew given side now = IsAnew given now

  anew_on : (m n : ℕ) (s t u : Side Peer) → m ≤ n → IsAnew m t → Change n t u → IsAnew m u
  anew_on m n s t _ less is same = is
  anew_on m n s t _ less is (anew own more) = (own, omega (arith, less, more), refl)

  -- a side is this, or began anew
  abbrev Becomes : Side Peer → Turning
  Becomes side given old now = (now ≡ side) ⊎ IsAnew given now

  becomes_on : (side : Side Peer) (m n : ℕ) (s t u : Side Peer) → m ≤ n → Becomes side m s t → Change n t u → Becomes side m s u
  becomes_on side m n s t _ less is same = is
  becomes_on side m n s t _ less is (anew own more) = inr (own, omega (arith, less, more), refl)

  module _ (a : Acted) (q : Linked) (found : linked_at a.controller port ≡ Some q) where
    key : port_key q ≡ port.0
    key = at_key port_key port.0 a.controller.ports q found

    own : at port_key (port_key q) a.controller.ports ≡ Some q
    own = own_place a port q found

    -- it is put back as it worked
    put_back : (w : Work) (side : Side Peer) → w.port.adjacency ≡ side → w.instances ≡ a.numbers.instances → Does port some (Becomes side) a (with_work a q w) []
    put_back w side is instances = does_put port some (Becomes side) a (with_work a q w) q (record q { port = w.port }) own refl (λ e. inl is) (λ s differs. absurd (differs key))
        refl refl (low a.numbers.instances w.instances instances) (goes_same (home port some) a (with_work a q w) refl refl refl refl refl)

    -- what is plain follows
    plainly : (b : Acted) (side : Side Peer) (messages : List Message) (said : List (Said Peer)) → Does port some (Becomes side) a b messages → Hellos messages said
        → (xs : List Action) → Every IsPlain xs → (more : List Message) × Does port some (Becomes side) a (fold (performs_in_estab q.setup.port) b xs) more × Hellos more said
    plainly b side messages said d h xs each =
        let l : On b (fold (performs_in_estab q.setup.port) b xs) = acts_leave port some q.setup.port xs (λ e. each) b in (
          messages ++ l.messages,
          does_then port some (Becomes side) Change (Becomes side) (becomes_on side) a b (fold (performs_in_estab q.setup.port) b xs) messages l.messages d l.does,
          hellos_then messages l.messages said h (hellos_none l.messages l.others),
        )

    -- a greeting is said, where the node is up
    said_in_estab : (b : Acted) (message : Message) → Does port some Change b (performs_in_estab q.setup.port b (actions.Say message)) (message ∷ [])
    said_in_estab b message = on_each (λ (c : Acted). Does port some Change b c (message ∷ [])) (is_estab b.controller.adjacency.state) (says_ifmp q.setup.port b message) b
        (λ up. says_does port some b q.setup.port message key)
        (λ down. record {
          goes = λ up. absurd (cc (sym down ∙ up));
          up = λ up. up;
          given = λ up. low b.numbers.instances b.numbers.instances refl;
          ports = refl;
          left = λ up linked is. record { now = linked; is = is; setup = refl; side = same };
        })

    -- it is reset, where the node is up
    reset_in_estab : (b : Acted) (linked : Linked) → linked_at b.controller q.setup.port ≡ Some linked → Does port some Anew b (performs_in_estab q.setup.port b actions.Reset) (after_reset port some b linked).messages
    reset_in_estab b linked is = on_each (λ (c : Acted). Does port some Anew b c (after_reset port some b linked).messages) (is_estab b.controller.adjacency.state) (resets_port b q.setup.port) b
        (λ up. subst (λ (o : Option Linked). Does port some Anew b (resets_of b o) (after_reset port some b linked).messages) (sym is) resets_it)
        (λ down. record {
          goes = λ up. absurd (cc (sym down ∙ up));
          up = λ up. up;
          given = λ up. low b.numbers.instances b.numbers.instances refl;
          ports = refl;
          left = λ up l f. absurd (cc (sym down ∙ up));
        })
      where
        w : Work
        w = resets linked.setup (begins b linked)

        linked_key : port_key linked ≡ port.0
        linked_key = at_key port_key q.setup.port.0 b.controller.ports linked is ∙ key

        resets_it : Does port some Anew b (resets_as b linked w) (after_reset port some b linked).messages
        resets_it = does_then port some Anew Change Anew (λ m n s t u less i c. anew_on m n s t u less i c) b (with_work b linked w) (resets_as b linked w) [] (after_reset port some b linked).messages
            (does_put port some Anew b (with_work b linked w) linked (record linked { port = w.port }) (own_place b q.setup.port linked is) refl
            (λ e. (record { instance = record { 0 = b.numbers.instances + 1 }; address = linked.setup.address }, more b.numbers.instances, refl))
            (λ s differs. absurd (differs linked_key)) refl refl (most b.numbers.instances)
            (goes_same (home port some) b (with_work b linked w) refl refl refl refl refl))
            (after_reset port some b linked).does
          where
            more : (n : ℕ) → n < n + 1
            more n = omega arith

            most : (n : ℕ) → n ≤ n + 1
            most n = omega arith

    -- *By an answer* of its table
    abbrev TicksTo : Answer (Said Peer) Peer → Side Peer → Turning
    TicksTo answer side given old now = ((drawn : Peer) × (now ≡ side_after (fresh Clearing drawn) answer side)) ⊎ IsAnew given now

    record OwnDone (answer : Answer (Said Peer) Peer) (side : Side Peer) (c : Acted) : Type 0 where
      messages : List Message
      hellos : Hellos messages (said_in answer)
      does : Does port some (TicksTo answer side) a c messages

    does_map : (R S : Turning) → ((given : ℕ) (old now : Side Peer) → R given old now → S given old now) → (c : Acted) (messages : List Message) → Does port some R a c messages → Does port some S a c messages
    does_map R S to c messages d = record {
      goes = d.goes;
      up = d.up;
      given = d.given;
      ports = d.ports;
      left = λ up linked is. (let l = d.left up linked is in record { now = l.now; is = l.is; setup = l.setup; side = to a.numbers.instances linked.port.adjacency l.now.port.adjacency l.side });
    }

    module _ (side : Side Peer) (w : Work) where
      abbrev a1 : Acted
      a1 = with_work a q w

      abbrev acted : List Action → Acted
      acted xs = fold (performs_in_estab q.setup.port) (with_work a q w) xs

      becomes_to : (answer : Answer (Said Peer) Peer) → ((drawn : Peer) → side_after (fresh Clearing drawn) answer side ≡ side) → (given : ℕ) (old now : Side Peer) → Becomes side given old now → TicksTo answer side given old now
      becomes_to answer stays_so given old now (inl e) = inl (side.own, e ∙ sym (stays_so side.own))
      becomes_to answer stays_so given old now (inr is) = inr is

      abbrev After : Answer (Said Peer) Peer → Type 0
      After answer = plain.Goes ⊥ (going q.setup a q side answer) w

      w_side : (answer : Answer (Said Peer) Peer) → After answer → w.port.adjacency ≡ side
      w_side answer g = side_same (going q.setup a q side answer).port.adjacency w.port.adjacency g.side ∙ going_side q.setup a q side answer

      put : (answer : Answer (Said Peer) Peer) → After answer → Does port some (Becomes side) a (with_work a q w) []
      put answer g = put_back w side (w_side answer g) (g.instances ∙ going_instances q.setup a q side answer)

      -- nothing is said but what is plain
      quiet_done : (answer : Answer (Said Peer) Peer) → ((drawn : Peer) → side_after (fresh Clearing drawn) answer side ≡ side) → said_in answer ≡ [] → After answer
          → (xs : List Action) → Every IsPlain xs → OwnDone answer side (acted xs)
      quiet_done answer stays_so none_said g xs each =
          let p = plainly a1 side [] [] (put answer g) none xs each in
          record {
            messages = p.0;
            hellos = subst (Hellos p.0) (sym none_said) p.2;
            does = does_map (Becomes side) (TicksTo answer side) (becomes_to answer stays_so) (acted xs) p.0 p.1;
          }

      -- a greeting is said first
      said_done : (answer : Answer (Said Peer) Peer) → ((drawn : Peer) → side_after (fresh Clearing drawn) answer side ≡ side) → (next : ℕ) (m : Said Peer) → said_in answer ≡ m ∷ [] → After answer
          → (xs : List Action) → Every IsPlain xs → OwnDone answer side (acted (actions.Say (Adjacency (hello_of next m)) ∷ xs))
      said_done answer stays_so next m one_said g xs each =
          let a2 : Acted = performs_in_estab q.setup.port a1 (actions.Say (Adjacency (hello_of next m))) in
          let p = plainly a2 side (Adjacency (hello_of next m) ∷ []) (m ∷ [])
          (does_then port some (Becomes side) Change (Becomes side) (becomes_on side) a a1 a2 [] (Adjacency (hello_of next m) ∷ []) (put answer g) (said_in_estab a1 (Adjacency (hello_of next m))))
          (says next m none) xs each in
          record {
            messages = p.0;
            hellos = subst (Hellos p.0) (sym one_said) p.2;
            does = does_map (Becomes side) (TicksTo answer side) (becomes_to answer stays_so) (fold (performs_in_estab q.setup.port) a2 xs) p.0 p.1;
          }

      -- it is reset first
      reset_done : After Reset → (xs : List Action) → Every IsPlain xs → OwnDone Reset side (acted (actions.Reset ∷ xs))
      reset_done g xs each =
          let there : Linked = record q { port = w.port } in
          let is : linked_at a1.controller q.setup.port ≡ Some there = at_put_same port_key there a.controller.ports q own in
          let a2 : Acted = performs_in_estab q.setup.port a1 actions.Reset in
          let l : On a2 (fold (performs_in_estab q.setup.port) a2 xs) = acts_leave port some q.setup.port xs (λ e. each) a2 in
          let r : On (with_work a1 there (resets there.setup (begins a1 there))) (resets_as a1 there (resets there.setup (begins a1 there))) = after_reset port some a1 there in
          record {
            messages = r.messages ++ l.messages;
            hellos = hellos_then r.messages l.messages [] (hellos_none r.messages r.others) (hellos_none l.messages l.others);
            does = does_map Anew (TicksTo Reset side) (λ given old now i. inl (i.0, i.2)) (fold (performs_in_estab q.setup.port) a2 xs) (r.messages ++ l.messages)
                (does_then port some Anew Change Anew anew_on a a2 (fold (performs_in_estab q.setup.port) a2 xs) r.messages l.messages
                (does_then port some (Becomes side) Anew Anew (λ m n s t u less b i. (i.0, earlier m n i.0.instance.0 less i.1, i.2)) a a1 a2 [] r.messages (put Reset g) (reset_in_estab a1 there is)) l.does);
          }
        where
          earlier : (m n k : ℕ) → m ≤ n → n < k → m < k
          earlier m n k less more = omega (arith, less, more)

      abbrev As : Answer (Said Peer) Peer → List Action → Type 0
      As answer xs = OwnDone answer side (acted xs)

      abbrev next_of : ℕ
      next_of = option_map_or (λ (s : Session). s.expected) q.port.session 1

      answered_so : (answer : Answer (Said Peer) Peer) → After answer → OwnDone answer side (acted w.actions)
      answered_so Quiet g = subst (As Quiet) (sym g.actions) (quiet_done Quiet (λ drawn. refl) refl g g.later g.plain)
      answered_so (Send m) g = subst (As (Send m)) (sym g.actions) (said_done (Send m) (λ drawn. refl) next_of m refl g g.later g.plain)
      answered_so (Open None key_of) g = subst (As (Open None key_of)) (sym g.actions)
          (quiet_done (Open None key_of) (λ drawn. refl) refl g (actions.Note (Opened q.setup.node q.setup.port) ∷ g.later) (tt, g.plain))
      answered_so (Open (Some m) key_of) g = subst (As (Open (Some m) key_of)) (sym g.actions)
          (said_done (Open (Some m) key_of) (λ drawn. refl) next_of m refl g (actions.Note (Opened q.setup.node q.setup.port) ∷ g.later) (tt, g.plain))
      answered_so Reset g = subst (As Reset) (sym g.actions) (reset_done g g.later g.plain)

    -- *A greeting is heard*
    module _ (message : Said Peer) (next : ℕ) where
      abbrev source : Addr
      source = message.sender.address

      abbrev hello : Hello
      hello = hello_of next message

      abbrev read_step : Step Peer
      read_step = ifmp_received q.port.adjacency source hello

      abbrev u : Work
      u = going q.setup a q (ifmp_received q.port.adjacency source hello).side (ifmp_received q.port.adjacency source hello).answer

      learned : plain.Goes ⊥ u (hears q.setup a.controller.desk (begins a q) source (Adjacency hello))
      learned = on_both (λ (w : Work). plain.Goes ⊥ u w) (port_adjacency.is_good q.port.adjacency read_step.side (heard_from source hello)) (port_adjacency.learns q.setup a.controller.desk u hello.next) u
          (learning ⊥ u q.setup a.controller.desk u hello.next (plain.begins ⊥ u)) (plain.begins ⊥ u)

      read_own : OwnDone read_step.answer read_step.side (hears_greeting a port message next)
      read_own = subst (λ (o : Option Linked). OwnDone read_step.answer read_step.side (works a (λ setup desk w. hears setup desk w source (Adjacency hello)) o)) (sym found)
          (answered_so read_step.side (hears q.setup a.controller.desk (begins a q) source (Adjacency hello)) read_step.answer learned)

      greeted_own : OwnDone (step_at q message).answer (step_at q message).side (hears_greeting a port message next)
      greeted_own = subst (λ (s : Step Peer). OwnDone s.answer s.side (hears_greeting a port message next)) (hellos_are_heard q.port.adjacency message next) read_own

      stepped : (given : ℕ) (old now : Side Peer) → TicksTo (step_at q message).answer (step_at q message).side given old now → IsStepped given (step_at q message) now
      stepped given old now (inl to) = subst (IsStepped given (step_at q message)) (sym to.1) (specs.by_table to.0)
      stepped given old now (inr is) = subst (IsStepped given (step_at q message)) (sym is.2) (specs.begins is.0 is.1)

      pub takes_greeting : q.port.adjacency.own.address ≡ a.controller.address → NamesIt q message → IsKept a (hears_greeting a port message next) → TakesGreeting port a (hears_greeting a port message next) q message
      takes_greeting address names kept =
          let b : Acted = hears_greeting a port message next in
          let d : OwnDone (step_at q message).answer (step_at q message).side b = greeted_own in
          let l : LeftBy (TicksTo (step_at q message).answer (step_at q message).side a.numbers.instances) q (linked_at b.controller port) = d.does.left kept.up_then q found in
          let g : Goes (default_home port).channel a b d.messages = d.does.goes kept.up_then in
          let none_lost : g.entries ≡ [] = append_cancel_left a.notes.entries g.entries [] (sym g.grown ∙ (kept.unlost ∙ sym (append-nil a.notes.entries))) in
          let s : Sends (default_home port).channel a b d.messages = g.sends none_lost in
          record {
            leaves = record {
              now = l.now;
              is = l.is;
              side = stepped a.numbers.instances q.port.adjacency l.now.port.adjacency l.side;
              later = s.more;
              queue = s.queue;
              greets = said_greets a.controller.address b.notes.frames (last_marks (default_home port).channel s.more) d.messages (said_in (step_at q message).answer) s.said d.hellos
                  (subst (λ (from : Addr). Every (λ (x : Said Peer). x.sender.address ≡ from) (said_in (step_at q message).answer)) address (heard_own_words q.port.adjacency (heard ifmp message) names));
            };
            address = g.address;
          }

    -- *Another message* is heard
    module _ (source : Addr) (message : Message) (other : IsOther message) where
      abbrev worked : Work
      worked = hears q.setup a.controller.desk (begins a q) source message

      abbrev told : Acted
      told = at_port a port (λ setup desk w. hears setup desk w source message)

      heard_so : plain.Goes (Unit {0}) (begins a q) worked
      heard_so = hearing_other (Unit {0}) (begins a q) q.setup a.controller.desk tt (begins a q) source message other (plain.begins (Unit {0}) (begins a q))

      left_side : (given : ℕ) (now : Side Peer) → Becomes worked.port.adjacency given q.port.adjacency now → IsLeft given q.port.adjacency now
      left_side given now (inl same_as) = subst (IsLeft given q.port.adjacency) (sym same_as) (by worked.port.adjacency heard_so.side)
        where
          by : (side : Side Peer) → SideStays (Unit {0}) q.port.adjacency side → IsLeft given q.port.adjacency side
          by _ stays = specs.stays
          by _ (hears_else may) = specs.hears_else
      left_side given now (inr is) = specs.began now (subst (λ (s : Side Peer). given < s.own.instance.0) (sym is.2) is.1)

      other_done : (more : List Message) × Does port some (Becomes worked.port.adjacency) a told more × Hellos more []
      other_done = subst (λ (o : Option Linked). (more : List Message) × Does port some (Becomes worked.port.adjacency) a (works a (λ setup desk w. hears setup desk w source message) o) more × Hellos more []) (sym found)
          (plainly (with_work a q worked) worked.port.adjacency [] [] (put_back worked worked.port.adjacency refl heard_so.instances) none worked.actions
          (subst (Every IsPlain) (sym heard_so.actions) heard_so.plain))

      pub takes_other : IsKept a told → LeavesPort port a told (IsLeft a.numbers.instances q.port.adjacency) []
      takes_other kept =
          let d = other_done in
          let l = d.1.left kept.up_then q found in
          let g : Goes (default_home port).channel a told d.0 = d.1.goes kept.up_then in
          let none_lost : g.entries ≡ [] = append_cancel_left a.notes.entries g.entries [] (sym g.grown ∙ (kept.unlost ∙ sym (append-nil a.notes.entries))) in
          let s : Sends (default_home port).channel a told d.0 = g.sends none_lost in
          record {
            now = l.now;
            is = l.is;
            side = left_side a.numbers.instances l.now.port.adjacency l.side;
            later = s.more;
            queue = s.queue;
            greets = said_greets a.controller.address told.notes.frames (last_marks (default_home port).channel s.more) d.0 [] s.said d.2 tt;
          }

pub greetings_are_steps : GreetingsAreSteps
greetings_are_steps port a linked message next link found address names kept = takes_greeting port link.0 a linked found message next address names kept
