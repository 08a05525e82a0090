-- a tick of a controller that is up with its switch makes each of its ports go by its table, whatever else it does in it

use Rattle.std.proofs.Common.{◌≡◌, ◌≢◌, ℕ, ◌+◌, ◌≤◌, ◌<◌, Bool, List, [], ◌∷◌, ◌++◌, append-nil, map, flat_map, Option, None, Some, refl, sym, ◌∙◌, ap, subst, arith, ◌⊎◌, inl, inr, fold, if◌then◌else◌}
use Rattle.std.specs.Option.{option_map_or}
use Rattle.world_model.specs.Words.{PortNo, End, Party, Peer, Side, Said, Step, Reply, Silent, Says, Resets, Answer, Quiet, Send, Open, Clearing, fresh, ticked, followed_tick, tick_reply, is_estab, hello_of, ifmp_answer, greeting_of, gsmp_answer, number_of_channel, at, MoveBranch, Opened, Action, Session, Setup, Work, home_of, Label, Linked, linked_at, port_key, begins, with_work, sends_request, sends_again, performs_in_estab, resets, resets_as, resets_of, resets_port, says_ifmp, works, enters_grant, enters_label, join_for, joins, may_join, inputs_at, label_on, tries_join, tries_joins, tries_label, ticks_by, ticks_port, ticks_ports, meets, lent, says_gsmp, with_desk, empty_desk, default_home}
use Rattle.world_model.specs.adjacency_table.Side.{counted}
use Rattle.world_model.specs.adjacency_table.declared.message.Answer.TheVariants.{Reset}
use Rattle.world_model.specs.ifmp_wire.declared.message.Message.{Message}
use Rattle.world_model.specs.ifmp_wire.declared.message.Message.TheVariants.{Adjacency}
use Rattle.world_model.specs.gsmp_wire.declared.message.Message.TheVariants as gsmp_messages
use Rattle.world_model.specs.gsmp_wire.declared.request.Request.TheVariants.{AllPorts}
use Rattle.world_model.specs.port_model.Adjacency as port_adjacency
use Rattle.world_model.specs.port_model.Desk.{message_at, sent_again}
use Rattle.world_model.specs.port_model.Joins.{joined}
use Rattle.world_model.specs.port_model.Ticks as port_ticks
use Rattle.world_model.specs.port_model.declared.action.Action.TheVariants as actions
use Rattle.world_model.specs.Controller.{Acted, ports_of}
use Rattle.world_model.specs.Gsmp.{answers, steps}
use Rattle.world_model.specs.Joins.{Join, output_joined}
use Rattle.world_model.specs.Ticks.{ticks}
use Rattle.world_model.proofs.Lists.{by_eq}
use Rattle.law_live_waking_links.specs.law_port_facts.ordered_lists.Ordered.{Every, InOrder}
use Rattle.law_live_waking_links.proofs.law_port_facts.Keyed.{on_both, on_each, at_key, at_put_same}
use Rattle.law_live_waking_links.specs.law_live_meetings.Exchange.{side_after, said_in}
use Rattle.law_live_sending.proofs.Going.{Goes, goes_same, goes_then}
use Rattle.law_live_tables.proofs.Plain.{IsOther, IsPlain, side_same, ticking_on, lending, joining}
use Rattle.law_live_tables.proofs.Plain as plain
use Rattle.law_live_tables.proofs.Leaving.{Change, same, anew, Turning, LeftBy, IsUp, home, Does, does_then, Leaves, leaves_then, quietly_up, leaves_same, leaves_itself, leaves_fold, leaves_each, does_put, own_place}
use Rattle.law_live_tables.proofs.Working.{told_leaves, node_down, node_leaves, says_does, asks_leaves, acts_leave, rule_up, plain_at, rule_leaves, after_reset}

-- *A side begins anew*, under an instance that was drawn since
abbrev pub IsAnew : (given : ℕ) → Side Peer → Type 0
IsAnew given side = (own : Peer) × (given < own.instance.0) × (side ≡ fresh Clearing own)

-- *What is said* greets so, in order; other messages are passed over
pub data Hellos : List Message → List (Said Peer) → Type 0 where
  none : Hellos [] []
  says : {messages : List Message} {said : List (Said Peer)} (next : ℕ) (m : Said Peer) → Hellos messages said → Hellos (Adjacency (hello_of next m) ∷ messages) (m ∷ said)
  passes : {messages : List Message} {said : List (Said Peer)} (message : Message) → IsOther message → Hellos messages said → Hellos (message ∷ messages) said

pub hellos_none : (messages : List Message) → Every IsOther messages → Hellos messages []
hellos_none [] others = none
hellos_none (message ∷ messages) others = passes message others.0 (hellos_none messages others.1)

pub hellos_join : (xs ys : List Message) (ms ns : List (Said Peer)) → Hellos xs ms → Hellos ys ns → Hellos (xs ++ ys) (ms ++ ns)
hellos_join _ ys _ ns none more = more
hellos_join _ ys _ ns (says next m rest) more = says next m (hellos_join _ ys _ ns rest more)
hellos_join _ ys _ ns (passes message other rest) more = passes message other (hellos_join _ ys _ ns rest more)

hellos_then : (xs ys : List Message) (ms : List (Said Peer)) → Hellos xs ms → Hellos ys [] → Hellos (xs ++ ys) ms
hellos_then xs ys ms h k = subst (Hellos (xs ++ ys)) (append-nil ms) (hellos_join xs ys ms [] h k)

hellos_behind : (xs ys : List Message) (ms : List (Said Peer)) → Hellos xs [] → Hellos ys ms → Hellos (xs ++ ys) ms
hellos_behind xs ys ms h k = hellos_join xs ys [] ms h k

-- *The ports* before one, and behind it
record Split (port : PortNo) (all : List PortNo) : Type 0 where
  front : List PortNo
  back : List PortNo
  are : all ≡ front ++ port ∷ back
  before : Every (λ (q : PortNo). q.0 ≢ port.0) front
  behind : Every (λ (q : PortNo). q.0 ≢ port.0) back

abbrev pub AreApart : List Linked → Type 0
AreApart ports = InOrder (λ (x y : Linked). port_key x ≢ port_key y) ports

apart_from : (port : PortNo) (ports : List Linked) (key : ℕ) → key ≡ port.0 → Every (λ (y : Linked). key ≢ port_key y) ports → Every (λ (q : PortNo). q.0 ≢ port.0) (map (λ (l : Linked). l.setup.port) ports)
apart_from port [] key e apart = tt
apart_from port (y ∷ ports) key e apart = ((λ own. apart.0 (e ∙ sym own)), apart_from port ports key e apart.1)

split : (port : PortNo) (ports : List Linked) (linked : Linked) → at port_key port.0 ports ≡ Some linked → AreApart ports → Split port (map (λ (l : Linked). l.setup.port) ports)
split port [] linked found apart = absurd (cc found)
split port (x ∷ ports) linked found apart = by_eq (port_key x) port.0
    (λ e t. record { front = []; back = map (λ (l : Linked). l.setup.port) ports; are = λ i. (record { 0 = e i }) ∷ map (λ (l : Linked). l.setup.port) ports; before = tt; behind = apart_from port ports (port_key x) e apart.0 })
    (λ differs t. (let s : Split port (map (λ (l : Linked). l.setup.port) ports) = split port ports linked (ap (λ (b : Bool). if b then Some x else at port_key port.0 ports) (sym t) ∙ found) apart.1 in
    record { front = x.setup.port ∷ s.front; back = s.back; are = ap (λ (qs : List PortNo). x.setup.port ∷ qs) s.are; before = (differs, s.before); behind = s.behind }))

fold_join : {X : Type 0} (f : Acted → X → Acted) (xs ys : List X) (a : Acted) → fold f a (xs ++ ys) ≡ fold f (fold f a xs) ys
fold_join f [] ys a = refl
fold_join f (x ∷ xs) ys a = fold_join f xs ys (f a x)

-- a tick leaves a side's state
ticked_state : (side : Side Party) → (ticked side).side.state ≡ side.state
ticked_state side = by (tick_reply side.state (counted side.state side.silence))
  where
    by : (reply : Reply) → (followed_tick side reply).side.state ≡ side.state
    by Silent = refl
    by (Says kind) = refl
    by Resets = refl

module _ (port : PortNo) (some : 1 ≤ port.0) where
  abbrev On : Acted → Acted → Type 0
  On a b = Leaves port some a b

  -- *Joins are tried*
  joins_leave : (a : Acted) (o : Option Join) → On a (joins a o)
  joins_leave a None = leaves_itself port some a
  joins_leave a (Some join) =
      let granted : Acted = enters_grant a join in
      let labelled : Acted = enters_label granted join in
      leaves_then port some a granted (joins a (Some join))
      (rule_leaves port some a join.port (λ setup desk w. lent w join.grant join.input)
      (λ q found. plain_at port some q a (lent (begins a q) join.grant join.input) (lending ⊥ (begins a q) (begins a q) join.grant join.input (plain.begins ⊥ (begins a q)))))
      (leaves_then port some granted labelled (joins a (Some join))
      (rule_leaves port some granted join.input.port (λ setup desk w. joined w (number_of_channel join.input.channel) (output_joined join))
      (λ q found. plain_at port some q granted (joined (begins granted q) (number_of_channel join.input.channel) (output_joined join))
      (joining ⊥ (begins granted q) (begins granted q) (number_of_channel join.input.channel) (output_joined join) (plain.begins ⊥ (begins granted q)))))
      (asks_leaves port some labelled (MoveBranch join.input (home_of join.input) (output_joined join))))

  label_leaves : (a : Acted) (input : End) (o : Option Label) → On a (tries_label a input o)
  label_leaves a input None = leaves_itself port some a
  label_leaves a input (Some label) = on_both (On a) (may_join a.controller input label) (joins a (join_for a.controller input label.flow)) a
      (joins_leave a (join_for a.controller input label.flow)) (leaves_itself port some a)

  joins_tried : (a : Acted) → On a (tries_joins a)
  joins_tried a = leaves_fold port some tries_join (λ b input. label_leaves b input (label_on b.controller input)) (flat_map inputs_at a.controller.ports) a

  -- *Requests are sent again*
  again_leaves : (a : Acted) → On a (sends_again a)
  again_leaves a = on_both (On a) (is_estab a.controller.adjacency.state) (fold sends_request a (sent_again a.controller.desk)) a
      (leaves_fold port some sends_request (λ b s. told_leaves port some b (message_at b.controller.desk s)) (sent_again a.controller.desk) a) (leaves_itself port some a)

  -- *The table's answer* to a port
  abbrev going : (setup : Setup) (a : Acted) (q : Linked) (side : Side Peer) (answer : Answer (Said Peer) Peer) → Work
  going setup a q side answer = port_adjacency.answers setup (record (begins a q) { port = record q.port { adjacency = side } })
      (ifmp_answer (option_map_or (λ (s : Session). s.expected) q.port.session 1) answer)

  going_side : (setup : Setup) (a : Acted) (q : Linked) (side : Side Peer) (answer : Answer (Said Peer) Peer) → (going setup a q side answer).port.adjacency ≡ side
  going_side setup a q side Quiet = refl
  going_side setup a q side (Send m) = refl
  going_side setup a q side (Open None own) = refl
  going_side setup a q side (Open (Some m) own) = refl
  going_side setup a q side Reset = refl

  going_instances : (setup : Setup) (a : Acted) (q : Linked) (side : Side Peer) (answer : Answer (Said Peer) Peer) → (going setup a q side answer).instances ≡ a.numbers.instances
  going_instances setup a q side Quiet = refl
  going_instances setup a q side (Send m) = refl
  going_instances setup a q side (Open None own) = refl
  going_instances setup a q side (Open (Some m) own) = refl
  going_instances setup a q side Reset = refl

  -- *Another port's tick*
  low : (m n : ℕ) → n ≡ m → m ≤ n
  low m n e = omega (arith, e)

  other_ticks : (a : Acted) (q : PortNo) → q.0 ≢ port.0 → On a (ticks_port a q)
  other_ticks a q apart = rule_leaves port some a q port_ticks.ticks (λ linked found. record {
    given = low a.numbers.instances (port_ticks.ticks linked.setup a.controller.desk (begins a linked)).instances
        ((ticking_on ⊥ (going linked.setup a linked (ticked linked.port.adjacency).side (ticked linked.port.adjacency).answer) linked.setup a.controller.desk
        (going linked.setup a linked (ticked linked.port.adjacency).side (ticked linked.port.adjacency).answer)
        (plain.begins ⊥ (going linked.setup a linked (ticked linked.port.adjacency).side (ticked linked.port.adjacency).answer))).instances
        ∙ going_instances linked.setup a linked (ticked linked.port.adjacency).side (ticked linked.port.adjacency).answer);
    own = λ e. absurd (apart (sym (at_key port_key q.0 a.controller.ports linked found) ∙ e));
  })

  -- *The port itself* goes by an answer of its table, and then does what is plain
  abbrev Anew : Turning
  Anew given side now = IsAnew given now

  anew_on : (m n : ℕ) (s t u : Side Peer) → m ≤ n → IsAnew m t → Change n t u → IsAnew m u
  anew_on m n s t _ less is same = is
  anew_on m n s t _ less is (anew own more) = (own, omega (arith, less, more), refl)

  -- a side is this, or began anew
  abbrev Becomes : Side Peer → Turning
  Becomes side given old now = (now ≡ side) ⊎ IsAnew given now

  becomes_on : (side : Side Peer) (m n : ℕ) (s t u : Side Peer) → m ≤ n → Becomes side m s t → Change n t u → Becomes side m s u
  becomes_on side m n s t _ less is same = is
  becomes_on side m n s t _ less is (anew own more) = inr (own, omega (arith, less, more), refl)

  module _ (a : Acted) (q : Linked) (found : linked_at a.controller port ≡ Some q) where
    key : port_key q ≡ port.0
    key = at_key port_key port.0 a.controller.ports q found

    own : at port_key (port_key q) a.controller.ports ≡ Some q
    own = own_place a port q found

    -- it is put back as it worked
    put_back : (w : Work) (side : Side Peer) → w.port.adjacency ≡ side → w.instances ≡ a.numbers.instances → Does port some (Becomes side) a (with_work a q w) []
    put_back w side is instances = does_put port some (Becomes side) a (with_work a q w) q (record q { port = w.port }) own refl (λ e. inl is) (λ s differs. absurd (differs key))
        refl refl (low a.numbers.instances w.instances instances) (goes_same (home port some) a (with_work a q w) refl refl refl refl refl)

    -- what is plain follows
    plainly : (b : Acted) (side : Side Peer) (messages : List Message) (said : List (Said Peer)) → Does port some (Becomes side) a b messages → Hellos messages said
        → (xs : List Action) → Every IsPlain xs → (more : List Message) × Does port some (Becomes side) a (fold (performs_in_estab q.setup.port) b xs) more × Hellos more said
    plainly b side messages said d h xs each =
        let l : On b (fold (performs_in_estab q.setup.port) b xs) = acts_leave port some q.setup.port xs (λ e. each) b in (
          messages ++ l.messages,
          does_then port some (Becomes side) Change (Becomes side) (becomes_on side) a b (fold (performs_in_estab q.setup.port) b xs) messages l.messages d l.does,
          hellos_then messages l.messages said h (hellos_none l.messages l.others),
        )

    -- a greeting is said, where the node is up
    said_in_estab : (b : Acted) (message : Message) → Does port some Change b (performs_in_estab q.setup.port b (actions.Say message)) (message ∷ [])
    said_in_estab b message = on_each (λ (c : Acted). Does port some Change b c (message ∷ [])) (is_estab b.controller.adjacency.state) (says_ifmp q.setup.port b message) b
        (λ up. says_does port some b q.setup.port message key)
        (λ down. record {
          goes = λ up. absurd (cc (sym down ∙ up));
          up = λ up. up;
          given = λ up. low b.numbers.instances b.numbers.instances refl;
          ports = refl;
          left = λ up linked is. record { now = linked; is = is; setup = refl; side = same };
        })

    -- it is reset, where the node is up
    reset_in_estab : (b : Acted) (linked : Linked) → linked_at b.controller q.setup.port ≡ Some linked → Does port some Anew b (performs_in_estab q.setup.port b actions.Reset) (after_reset port some b linked).messages
    reset_in_estab b linked is = on_each (λ (c : Acted). Does port some Anew b c (after_reset port some b linked).messages) (is_estab b.controller.adjacency.state) (resets_port b q.setup.port) b
        (λ up. subst (λ (o : Option Linked). Does port some Anew b (resets_of b o) (after_reset port some b linked).messages) (sym is) resets_it)
        (λ down. record {
          goes = λ up. absurd (cc (sym down ∙ up));
          up = λ up. up;
          given = λ up. low b.numbers.instances b.numbers.instances refl;
          ports = refl;
          left = λ up l f. absurd (cc (sym down ∙ up));
        })
      where
        w : Work
        w = resets linked.setup (begins b linked)

        linked_key : port_key linked ≡ port.0
        linked_key = at_key port_key q.setup.port.0 b.controller.ports linked is ∙ key

        resets_it : Does port some Anew b (resets_as b linked w) (after_reset port some b linked).messages
        resets_it = does_then port some Anew Change Anew (λ m n s t u less i c. anew_on m n s t u less i c) b (with_work b linked w) (resets_as b linked w) [] (after_reset port some b linked).messages
            (does_put port some Anew b (with_work b linked w) linked (record linked { port = w.port }) (own_place b q.setup.port linked is) refl
            (λ e. (record { instance = record { 0 = b.numbers.instances + 1 }; address = linked.setup.address }, more b.numbers.instances, refl))
            (λ s differs. absurd (differs linked_key)) refl refl (most b.numbers.instances)
            (goes_same (home port some) b (with_work b linked w) refl refl refl refl refl))
            (after_reset port some b linked).does
          where
            more : (n : ℕ) → n < n + 1
            more n = omega arith

            most : (n : ℕ) → n ≤ n + 1
            most n = omega arith

    -- *By an answer* of its table
    abbrev TicksTo : Answer (Said Peer) Peer → Side Peer → Turning
    TicksTo answer side given old now = ((drawn : Peer) × (now ≡ side_after (fresh Clearing drawn) answer side)) ⊎ IsAnew given now

    record OwnDone (answer : Answer (Said Peer) Peer) (side : Side Peer) (c : Acted) : Type 0 where
      messages : List Message
      hellos : Hellos messages (said_in answer)
      does : Does port some (TicksTo answer side) a c messages

    does_map : (R S : Turning) → ((given : ℕ) (old now : Side Peer) → R given old now → S given old now) → (c : Acted) (messages : List Message) → Does port some R a c messages → Does port some S a c messages
    does_map R S to c messages d = record {
      goes = d.goes;
      up = d.up;
      given = d.given;
      ports = d.ports;
      left = λ up linked is. (let l = d.left up linked is in record { now = l.now; is = l.is; setup = l.setup; side = to a.numbers.instances linked.port.adjacency l.now.port.adjacency l.side });
    }

    module _ (side : Side Peer) (w : Work) where
      abbrev a1 : Acted
      a1 = with_work a q w

      abbrev acted : List Action → Acted
      acted xs = fold (performs_in_estab q.setup.port) (with_work a q w) xs

      becomes_to : (answer : Answer (Said Peer) Peer) → ((drawn : Peer) → side_after (fresh Clearing drawn) answer side ≡ side) → (given : ℕ) (old now : Side Peer) → Becomes side given old now → TicksTo answer side given old now
      becomes_to answer stays_so given old now (inl e) = inl (side.own, e ∙ sym (stays_so side.own))
      becomes_to answer stays_so given old now (inr is) = inr is

      abbrev After : Answer (Said Peer) Peer → Type 0
      After answer = plain.Goes ⊥ (going q.setup a q side answer) w

      w_side : (answer : Answer (Said Peer) Peer) → After answer → w.port.adjacency ≡ side
      w_side answer g = side_same (going q.setup a q side answer).port.adjacency w.port.adjacency g.side ∙ going_side q.setup a q side answer

      put : (answer : Answer (Said Peer) Peer) → After answer → Does port some (Becomes side) a (with_work a q w) []
      put answer g = put_back w side (w_side answer g) (g.instances ∙ going_instances q.setup a q side answer)

      -- nothing is said but what is plain
      quiet_done : (answer : Answer (Said Peer) Peer) → ((drawn : Peer) → side_after (fresh Clearing drawn) answer side ≡ side) → said_in answer ≡ [] → After answer
          → (xs : List Action) → Every IsPlain xs → OwnDone answer side (acted xs)
      quiet_done answer stays_so none_said g xs each =
          let p = plainly a1 side [] [] (put answer g) none xs each in
          record {
            messages = p.0;
            hellos = subst (Hellos p.0) (sym none_said) p.2;
            does = does_map (Becomes side) (TicksTo answer side) (becomes_to answer stays_so) (acted xs) p.0 p.1;
          }

      -- a greeting is said first
      said_done : (answer : Answer (Said Peer) Peer) → ((drawn : Peer) → side_after (fresh Clearing drawn) answer side ≡ side) → (next : ℕ) (m : Said Peer) → said_in answer ≡ m ∷ [] → After answer
          → (xs : List Action) → Every IsPlain xs → OwnDone answer side (acted (actions.Say (Adjacency (hello_of next m)) ∷ xs))
      said_done answer stays_so next m one_said g xs each =
          let a2 : Acted = performs_in_estab q.setup.port a1 (actions.Say (Adjacency (hello_of next m))) in
          let p = plainly a2 side (Adjacency (hello_of next m) ∷ []) (m ∷ [])
          (does_then port some (Becomes side) Change (Becomes side) (becomes_on side) a a1 a2 [] (Adjacency (hello_of next m) ∷ []) (put answer g) (said_in_estab a1 (Adjacency (hello_of next m))))
          (says next m none) xs each in
          record {
            messages = p.0;
            hellos = subst (Hellos p.0) (sym one_said) p.2;
            does = does_map (Becomes side) (TicksTo answer side) (becomes_to answer stays_so) (fold (performs_in_estab q.setup.port) a2 xs) p.0 p.1;
          }

      -- it is reset first
      reset_done : After Reset → (xs : List Action) → Every IsPlain xs → OwnDone Reset side (acted (actions.Reset ∷ xs))
      reset_done g xs each =
          let there : Linked = record q { port = w.port } in
          let is : linked_at a1.controller q.setup.port ≡ Some there = at_put_same port_key there a.controller.ports q own in
          let a2 : Acted = performs_in_estab q.setup.port a1 actions.Reset in
          let l : On a2 (fold (performs_in_estab q.setup.port) a2 xs) = acts_leave port some q.setup.port xs (λ e. each) a2 in
          let r : On (with_work a1 there (resets there.setup (begins a1 there))) (resets_as a1 there (resets there.setup (begins a1 there))) = after_reset port some a1 there in
          record {
            messages = r.messages ++ l.messages;
            hellos = hellos_then r.messages l.messages [] (hellos_none r.messages r.others) (hellos_none l.messages l.others);
            does = does_map Anew (TicksTo Reset side) (λ given old now i. inl (i.0, i.2)) (fold (performs_in_estab q.setup.port) a2 xs) (r.messages ++ l.messages)
                (does_then port some Anew Change Anew anew_on a a2 (fold (performs_in_estab q.setup.port) a2 xs) r.messages l.messages
                (does_then port some (Becomes side) Anew Anew (λ m n s t u less b i. (i.0, earlier m n i.0.instance.0 less i.1, i.2)) a a1 a2 [] r.messages (put Reset g) (reset_in_estab a1 there is)) l.does);
          }
        where
          earlier : (m n k : ℕ) → m ≤ n → n < k → m < k
          earlier m n k less more = omega (arith, less, more)

      abbrev As : Answer (Said Peer) Peer → List Action → Type 0
      As answer xs = OwnDone answer side (acted xs)

      abbrev next_of : ℕ
      next_of = option_map_or (λ (s : Session). s.expected) q.port.session 1

      answered_so : (answer : Answer (Said Peer) Peer) → After answer → OwnDone answer side (acted w.actions)
      answered_so Quiet g = subst (As Quiet) (sym g.actions) (quiet_done Quiet (λ drawn. refl) refl g g.later g.plain)
      answered_so (Send m) g = subst (As (Send m)) (sym g.actions) (said_done (Send m) (λ drawn. refl) next_of m refl g g.later g.plain)
      answered_so (Open None key_of) g = subst (As (Open None key_of)) (sym g.actions)
          (quiet_done (Open None key_of) (λ drawn. refl) refl g (actions.Note (Opened q.setup.node q.setup.port) ∷ g.later) (tt, g.plain))
      answered_so (Open (Some m) key_of) g = subst (As (Open (Some m) key_of)) (sym g.actions)
          (said_done (Open (Some m) key_of) (λ drawn. refl) next_of m refl g (actions.Note (Opened q.setup.node q.setup.port) ∷ g.later) (tt, g.plain))
      answered_so Reset g = subst (As Reset) (sym g.actions) (reset_done g g.later g.plain)

    -- *Its tick*
    ticked_own : OwnDone (ticked q.port.adjacency).answer (ticked q.port.adjacency).side (ticks_port a port)
    ticked_own =
        let step : Step Peer = ticked q.port.adjacency in
        let u : Work = going q.setup a q step.side step.answer in
        subst (λ (o : Option Linked). OwnDone step.answer step.side (works a port_ticks.ticks o)) (sym found)
        (answered_so step.side (port_ticks.ticks q.setup a.controller.desk (begins a q)) step.answer (ticking_on ⊥ u q.setup a.controller.desk u (plain.begins ⊥ u)))

  -- *What a tick comes to*: the port goes by its table; or it began anew without that
  pub data Outcome (given : ℕ) (messages : List Message) (step : Step Peer) (now : Side Peer) : Type 0 where
    by_table : (drawn : Peer) → now ≡ side_after (fresh Clearing drawn) step.answer step.side → Hellos messages (said_in step.answer) → Outcome given messages step now
    began : IsAnew given now → (step.answer ≡ Reset → Hellos messages []) → Outcome given messages step now

  pub record TickDone (a c : Acted) (q : Linked) : Type 0 where
    pub messages : List Message
    pub goes : Goes (default_home port).channel a c messages
    pub now : Linked
    pub is : linked_at c.controller port ≡ Some now
    pub setup : now.setup ≡ q.setup
    pub outcome : Outcome a.numbers.instances messages (ticked q.port.adjacency) now.port.adjacency

  earlier_anew : (m n : ℕ) (side : Side Peer) → m ≤ n → IsAnew n side → IsAnew m side
  earlier_anew m n side less is = (is.0, less_on m n is.0.instance.0 less is.1, is.2)
    where
      less_on : (m n k : ℕ) → m ≤ n → n < k → m < k
      less_on m n k less more = omega (arith, less, more)

  -- what came before, its own tick, and what came behind
  outcome_of : (given later : ℕ) (messages : List Message) (side one two now : Side Peer) → given ≤ later → Change given side one
      → (((drawn : Peer) × (two ≡ side_after (fresh Clearing drawn) (ticked one).answer (ticked one).side)) ⊎ IsAnew given two) → Change later two now
      → Hellos messages (said_in (ticked one).answer) → Outcome given messages (ticked side) now
  outcome_of given later messages side _ two _ less same (inl to) same h = by_table to.0 to.1 h
  outcome_of given later messages side _ two _ less same (inr is) same h = began is (λ e. subst (Hellos messages) (ap said_in e) h)
  outcome_of given later messages side _ two _ less same to (anew own more) h = began (own, omega (arith, less, more), refl) (λ e. subst (Hellos messages) (ap said_in e) h)
  outcome_of given later messages side _ two _ less (anew first drawn_since) (inl to) same h = began (first, drawn_since, to.1) (λ e. h)
  outcome_of given later messages side _ two _ less (anew first drawn_since) (inr is) same h = began is (λ e. h)
  outcome_of given later messages side _ two _ less (anew first drawn_since) to (anew own more) h = began (own, omega (arith, less, more), refl) (λ e. h)

  module _ (a : Acted) (q : Linked) (found : linked_at a.controller port ≡ Some q) (apart : AreApart a.controller.ports) (b0 : Acted) (started : Leaves port some a b0) where
    s : Split port (ports_of a.controller)
    s = split port a.controller.ports q found apart

    abbrev b1 : Acted
    b1 = fold ticks_port b0 s.front

    abbrev b2 : Acted
    b2 = ticks_port b1 port

    abbrev b3 : Acted
    b3 = fold ticks_port b2 s.back

    before : On a b1
    before = leaves_then port some a b0 b1 started (leaves_each port some (λ (p : PortNo). p.0 ≢ port.0) ticks_port other_ticks s.front s.before b0)

    behind : On b2 (tries_joins b3)
    behind = leaves_then port some b2 b3 (tries_joins b3) (leaves_each port some (λ (p : PortNo). p.0 ≢ port.0) ticks_port other_ticks s.back s.behind b2) (joins_tried b3)

    whole : ticks_ports b0 ≡ b3
    whole = ap (fold ticks_port b0) (started.does.ports ∙ s.are) ∙ fold_join ticks_port s.front (port ∷ s.back) b0

    done_so : IsUp (tries_joins b3) → TickDone a (tries_joins b3) q
    done_so up =
        let up2 : IsUp b2 = behind.does.up up in
        let up1 : IsUp b1 = rule_up port some b1 port port_ticks.ticks up2 in
        let one : LeftBy (Change a.numbers.instances) q (linked_at b1.controller port) = before.does.left up1 q found in
        let own = ticked_own b1 one.now one.is in
        let two = own.does.left up2 one.now one.is in
        let three = behind.does.left up two.now two.is in
        record {
          messages = before.messages ++ (own.messages ++ behind.messages);
          goes = goes_then (home port some) a b1 (tries_joins b3) before.messages (own.messages ++ behind.messages) (before.does.goes up1)
              (goes_then (home port some) b1 b2 (tries_joins b3) own.messages behind.messages (own.does.goes up2) (behind.does.goes up));
          now = three.now;
          is = three.is;
          setup = three.setup ∙ (two.setup ∙ one.setup);
          outcome = outcome_of a.numbers.instances b2.numbers.instances (before.messages ++ (own.messages ++ behind.messages)) q.port.adjacency one.now.port.adjacency two.now.port.adjacency three.now.port.adjacency
              (further a.numbers.instances b1.numbers.instances b2.numbers.instances (before.does.given up1) (own.does.given up2)) one.side (to_given two.side) three.side
              (hellos_behind before.messages (own.messages ++ behind.messages) (said_in (ticked one.now.port.adjacency).answer) (hellos_none before.messages before.others)
              (hellos_then own.messages behind.messages (said_in (ticked one.now.port.adjacency).answer) own.hellos (hellos_none behind.messages behind.others)));
        }
      where
        further : (k m n : ℕ) → k ≤ m → m ≤ n → k ≤ n
        further k m n less more = omega (arith, less, more)

        to_given : {P : Type 0} {side : Side Peer} → (P ⊎ IsAnew b1.numbers.instances side) → (P ⊎ IsAnew a.numbers.instances side)
        to_given {P} {side} (inl p) = inl p
        to_given {P} {side} (inr is) = inr (earlier_anew a.numbers.instances b1.numbers.instances side (before.does.given (rule_up port some b1 port port_ticks.ticks (behind.does.up up))) is)

    pub ports_done : IsUp (tries_joins (ticks_ports b0)) → TickDone a (tries_joins (ticks_ports b0)) q
    ports_done = subst (λ (b : Acted). IsUp (tries_joins b) → TickDone a (tries_joins b) q) (sym whole) done_so

  -- *The whole tick*: the adjacency with the switch first
  pub meets_leave : (b : Acted) → Leaves port some b (meets b)
  meets_leave b = leaves_then port some b (with_desk b empty_desk) (meets b) (leaves_same port some b (with_desk b empty_desk) refl refl refl refl refl refl refl refl) (asks_leaves port some (with_desk b empty_desk) AllPorts)

  pub answers_leave : (a : Acted) (answer : Answer (Said Party) Party) → Leaves port some a (answers a (gsmp_answer answer))
  answers_leave a Quiet = leaves_itself port some a
  answers_leave a (Send m) = told_leaves port some a (gsmp_messages.Adjacency (greeting_of m))
  answers_leave a (Open None key_of) = meets_leave a
  answers_leave a (Open (Some m) key_of) = leaves_then port some a (says_gsmp a (gsmp_messages.Adjacency (greeting_of m))) (meets (says_gsmp a (gsmp_messages.Adjacency (greeting_of m))))
      (told_leaves port some a (gsmp_messages.Adjacency (greeting_of m))) (meets_leave (says_gsmp a (gsmp_messages.Adjacency (greeting_of m))))
  answers_leave a Reset = node_leaves port some a

  turned_leaves : (a : Acted) → On a (steps a (ticked a.controller.adjacency))
  turned_leaves a =
      let step : Step Party = ticked a.controller.adjacency in
      let b : Acted = record a { controller = record a.controller { adjacency = step.side } } in
      leaves_then port some a b (steps a step)
      (quietly_up port some a b (goes_same (home port some) a b refl refl refl refl refl) refl (λ up. ap is_estab (sym (ticked_state a.controller.adjacency)) ∙ up) refl)
      (answers_leave b step.answer)

  pub ticks_done : (a : Acted) (q : Linked) → linked_at a.controller port ≡ Some q → AreApart a.controller.ports → IsUp (ticks a) → TickDone a (ticks a) q
  ticks_done a q found apart = by (ticked a.controller.adjacency).answer
    where
      step : Step Party
      step = ticked a.controller.adjacency

      on : IsUp (tries_joins (ticks_ports (sends_again (steps a (ticked a.controller.adjacency))))) → TickDone a (tries_joins (ticks_ports (sends_again (steps a (ticked a.controller.adjacency))))) q
      on = ports_done a q found apart (sends_again (steps a (ticked a.controller.adjacency)))
          (leaves_then port some a (steps a (ticked a.controller.adjacency)) (sends_again (steps a (ticked a.controller.adjacency))) (turned_leaves a) (again_leaves (steps a (ticked a.controller.adjacency))))

      by : (answer : Answer (Said Party) Party) → IsUp (ticks_by a (ticked a.controller.adjacency) answer) → TickDone a (ticks_by a (ticked a.controller.adjacency) answer) q
      by Quiet up = on up
      by (Send m) up = on up
      by (Open m key_of) up = on up
      by Reset up = absurd (node_down a up)
