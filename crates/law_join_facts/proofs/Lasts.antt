-- What leaves the joins of a controller, and its Estab, as they are, unless it resets the node: then none is left.

use Rattle.std.proofs.Common.{◌≡◌, ◌≢◌, ℕ, Bool, true, false, List, [], ◌∷◌, ◌++◌, map, fold, length, Option, Some, None, refl, sym, ap, subst, ◌∙◌, ◌⊎◌, inl, inr, if◌then◌else◌}
use Rattle.std.specs.Prelude.{◌==◌, nat_le, flat_map}
use Rattle.std.proofs.lemmas.Bool.{cases_eq}
use Rattle.net_types.specs.declared.node.PortNo.{PortNo}
use Rattle.net_types.specs.declared.channel.Channel.{Channel}
use Rattle.net_types.specs.declared.channel.End.{End}
use Rattle.net_types.specs.declared.number.Mark.{Mark}
use Rattle.net_types.specs.Number.{next_control, with_control}
use Rattle.ordered_lists.specs.Ordered.{Every, InOrder}
use Rattle.ordered_lists.proofs.InOrder.{order_unmapped}
use Rattle.adjacency_table.specs.Side.{is_estab}
use Rattle.link_model.specs.declared.record.Record.TheVariants.{Loss}
use Rattle.link_model.specs.declared.record.Cause.TheVariants.{PoolFull}
use Rattle.link_model.specs.Notes.{noted}
use Rattle.frame_model.specs.Frame.{frame_cells, made}
use Rattle.frame_model.specs.Sending.{Sender}
use Rattle.gsmp_wire.specs.declared.request.Request.{Request}
use Rattle.gsmp_wire.specs.declared.request.Request.TheVariants.{MoveBranch}
use Rattle.keyed_lists.specs.Keyed.{at, put}
use Rattle.port_model.specs.Desk.{asked, is_led_home, last_transaction}
use Rattle.port_model.specs.declared.action.Action.{Action}
use Rattle.port_model.specs.declared.action.Action.TheVariants.{Say, Ask, Note, CutChain, TakeBack, Withdraw, Reset}
use Rattle.port_model.specs.Port.{Port, Work, labels_of}
use Rattle.port_model.specs.Resets.{left_of, restarts, resets}
use Rattle.port_model.specs.Setup.{home_of}
use Rattle.controller_joins.specs.world_model.Controller.{Acted, Controller, Linked, free_slots, linked_at, port_key, ports_of, with_desk}
use Rattle.controller_joins.specs.world_model.Sending.{sends, with_cells}
use Rattle.controller_joins.specs.world_model.Asking.{asks, asks_next, takes_back, withdraws_input}
use Rattle.controller_joins.specs.world_model.Resets.{begins, closes_by, cuts_of, node_resets, port_restarts, port_restarts_of, resets_gsmp, with_work}
use Rattle.controller_joins.specs.world_model.Performing.{Rule, at_port, does, does_in_estab, performs, performs_in_estab, resets_as, resets_of, resets_port, works, works_as}
use Rattle.controller_joins.specs.declared.places.Joined.{Joined}
use Rattle.law_join_facts.specs.Joins.{Differ, HaveNumbers, joined_at}
use Rattle.law_join_facts.proofs.Ordered.{on_both, on_each}
use Rattle.law_join_facts.proofs.Splits.{at_put, at_put_other, each_found, found_own, key_of, map_put}
use Rattle.law_join_facts.proofs.Lents.{left_kept, lents, lents_are}
use Rattle.law_join_facts.proofs.Flat.{all_joined, put_kept}

abbrev pub stands : Acted → Bool
stands a = is_estab a.controller.adjacency.state

abbrev pub joined_to : Acted → List Joined
joined_to a = all_joined a.controller.ports

pub record Steady (a b : Acted) : Type 0 where
  pub estab : stands b ≡ stands a
  pub joined : joined_to b ≡ joined_to a

pub record Ended (a b : Acted) : Type 0 where
  pub was : stands a ≡ true
  pub is : stands b ≡ false
  pub joined : joined_to b ≡ []

pub record Lasts (a b : Acted) : Type 0 where
  pub ports : ports_of b.controller ≡ ports_of a.controller
  pub either : Steady a b ⊎ Ended a b

-- the node isn't reset
pub record Stays (a b : Acted) : Type 0 where
  pub ports : ports_of b.controller ≡ ports_of a.controller
  pub steady : Steady a b

pub lasting : (a b : Acted) → Stays a b → Lasts a b
lasting a b s = record { ports = s.ports; either = inl s.steady }

-- no two ports have one number
abbrev pub AreDifferent : Acted → Type 0
AreDifferent a = HaveNumbers a.controller

pub differ_after : (a b : Acted) → Lasts a b → AreDifferent a → AreDifferent b
differ_after a b l differ = subst (InOrder Differ) (sym l.ports) differ

-- *The same ports*
pub stays_still : (a b : Acted) → b.controller.ports ≡ a.controller.ports → stands b ≡ stands a → Stays a b
stays_still a b same estab = record {
  ports = ap (map (λ (l : Linked). l.setup.port)) same;
  steady = record { estab = estab; joined = ap all_joined same };
}

pub still : (a b : Acted) → b.controller.ports ≡ a.controller.ports → stands b ≡ stands a → Lasts a b
still a b same estab = lasting a b (stays_still a b same estab)

pub stays_onward : (a b c : Acted) → Stays a b → Stays b c → Stays a c
stays_onward a b c s t = record {
  ports = t.ports ∙ s.ports;
  steady = record { estab = t.steady.estab ∙ s.steady.estab; joined = t.steady.joined ∙ s.steady.joined };
}

pub itself : (a : Acted) → Lasts a a
itself a = still a a refl refl

pub onward : (a b c : Acted) → Lasts a b → Lasts b c → Lasts a c
onward a b c first second = record {
  ports = second.ports ∙ first.ports;
  either = elim first.either [
    | inl s ↦ elim second.either [
      | inl t ↦ inl (record { estab = t.estab ∙ s.estab; joined = t.joined ∙ s.joined })
      | inr e ↦ inr (record { was = sym s.estab ∙ e.was; is = e.is; joined = e.joined })
    ]
    | inr e ↦ elim second.either [
      | inl t ↦ inr (record { was = e.was; is = t.estab ∙ e.is; joined = t.joined ∙ e.joined })
      | inr f ↦ absurd (cc (sym e.is ∙ f.was))
    ]
  ];
}

-- one after the other
pub each : {X : Type 0} (f : Acted → X → Acted) → ((a : Acted) (x : X) → AreDifferent a → Lasts a (f a x)) → (xs : List X) (a : Acted) → AreDifferent a → Lasts a (fold f a xs)
each f lasts [] a differ = itself a
each f lasts (x ∷ xs) a differ = (let first = lasts a x differ in onward a (f a x) (fold f (f a x) xs) first (each f lasts xs (f a x) (differ_after a (f a x) first differ)))

-- *A port changes*, whose grants are lent as they were
pub stays_placed : (a b : Acted) (linked after : Linked) → at port_key (port_key after) a.controller.ports ≡ Some linked → b.controller.ports ≡ put port_key after a.controller.ports → after.setup ≡ linked.setup → joined_at after ≡ joined_at linked → stands b ≡ stands a → Stays a b
stays_placed a b linked after found is setup same estab = record {
  ports = ap (map (λ (l : Linked). l.setup.port)) is ∙ map_put port_key (λ (l : Linked). l.setup.port) after a.controller.ports linked found (λ i. (setup i).port);
  steady = record { estab = estab; joined = ap all_joined is ∙ put_kept after a.controller.ports linked found same };
}

pub placed : (a b : Acted) (linked after : Linked) → at port_key (port_key after) a.controller.ports ≡ Some linked → b.controller.ports ≡ put port_key after a.controller.ports → after.setup ≡ linked.setup → joined_at after ≡ joined_at linked → stands b ≡ stands a → Lasts a b
placed a b linked after found is setup same estab = lasting a b (stays_placed a b linked after found is setup same estab)

pub own : (a : Acted) (port : PortNo) (linked : Linked) → linked_at a.controller port ≡ Some linked → at port_key (port_key linked) a.controller.ports ≡ Some linked
own a port linked found = found_own port_key port.0 a.controller.ports linked found

-- *What is sent and asked*
pub stays_sent : (a : Acted) (channel : Channel) (mark : Mark) (payload : List ℕ) → Stays a (sends a channel mark payload)
stays_sent a channel mark payload =
    stays_still a (sends a channel mark payload)
    (on_both (λ (s : Sender Controller). s.queues.ports ≡ a.controller.ports) (nat_le (length (frame_cells channel mark payload)) (free_slots a.controller))
    (record { queues = with_cells a.controller (frame_cells channel mark payload); notes = made a.notes mark payload })
    (record { queues = a.controller; notes = noted (made a.notes mark payload) (Loss mark PoolFull) }) refl refl)
    (on_both (λ (s : Sender Controller). is_estab s.queues.adjacency.state ≡ stands a) (nat_le (length (frame_cells channel mark payload)) (free_slots a.controller))
    (record { queues = with_cells a.controller (frame_cells channel mark payload); notes = made a.notes mark payload })
    (record { queues = a.controller; notes = noted (made a.notes mark payload) (Loss mark PoolFull) }) refl refl)

pub stays_control : (a : Acted) (channel : Channel) (payload : List ℕ) → Stays a (sends (record a { numbers = with_control a.numbers }) channel (next_control a.numbers) payload)
stays_control a channel payload = (let b : Acted = record a { numbers = with_control a.numbers } in stays_onward a b (sends b channel (next_control a.numbers) payload) (stays_still a b refl refl) (stays_sent b channel (next_control a.numbers) payload))

pub sent_control : (a : Acted) (channel : Channel) (payload : List ℕ) → Lasts a (sends (record a { numbers = with_control a.numbers }) channel (next_control a.numbers) payload)
sent_control a channel payload = lasting a _ (stays_control a channel payload)

-- *Each port restarts*: it has no grant and no label, and what else has none still has none
pub record IsBare (linked : Linked) : Type 0 where
  pub grants : linked.port.grants ≡ []
  pub labels : labels_of linked.port ≡ []

abbrev AreBare : Acted → ℕ → Type 0
AreBare a k = (linked : Linked) → at port_key k a.controller.ports ≡ Some linked → IsBare linked

-- ports are put in their places alone, with no grants and no labels or with those that they have
record Restarting (a b : Acted) : Type 0 where
  ports : ports_of b.controller ≡ ports_of a.controller
  estab : stands b ≡ stands a
  none : (k : ℕ) → AreBare a k → AreBare b k

restarting_then : (a b c : Acted) → Restarting a b → Restarting b c → Restarting a c
restarting_then a b c p q = record { ports = q.ports ∙ p.ports; estab = q.estab ∙ p.estab; none = λ k h. q.none k (p.none k h) }

restarting_each : {X : Type 0} (f : Acted → X → Acted) → ((a : Acted) (x : X) → Restarting a (f a x)) → (xs : List X) (a : Acted) → Restarting a (fold f a xs)
restarting_each f r [] a = record { ports = refl; estab = refl; none = λ k h. h }
restarting_each f r (x ∷ xs) a = restarting_then a (f a x) (fold f (f a x) xs) (r a x) (restarting_each f r xs (f a x))

some_same : (x y : Linked) → Some x ≡ Some y → x ≡ y
some_same x y e = cc

by_number : {P : Type 0} (a b : ℕ) → (a ≡ b → P) → (a ≢ b → P) → P
by_number {P} a b same other = elim (cases_eq a b) [ inl e ↦ same e | inr e ↦ other e ]

put_restarts : (a b : Acted) (linked after : Linked) → at port_key (port_key after) a.controller.ports ≡ Some linked → b.controller.ports ≡ put port_key after a.controller.ports → after.setup ≡ linked.setup → stands b ≡ stands a → (AreBare a (port_key after) → IsBare after) → Restarting a b
put_restarts a b linked after found is setup estab none = record {
  ports = ap (map (λ (l : Linked). l.setup.port)) is ∙ map_put port_key (λ (l : Linked). l.setup.port) after a.controller.ports linked found (λ i. (setup i).port);
  estab = estab;
  none = λ k h l at_k. by_number (port_key after) k
      (λ e. (let mine : Some after ≡ Some l = sym (subst (λ (n : ℕ). at port_key n b.controller.ports ≡ Some after) e (ap (at port_key (port_key after)) is ∙ at_put port_key after a.controller.ports linked found)) ∙ at_k in
      let same : after ≡ l = some_same after l mine in
      subst IsBare same (none (λ m at_m. h m (subst (λ (n : ℕ). at port_key n a.controller.ports ≡ Some m) e at_m)))))
      (λ other. h l (sym (ap (at port_key k) is ∙ at_put_other port_key after k a.controller.ports other) ∙ at_k));
}

cut_restarts : (port : PortNo) (label : ℕ) (a : Acted) (o : Option Linked) → linked_at a.controller port ≡ o → Restarting a (cuts_of a label o)
cut_restarts port label a None found = record { ports = refl; estab = refl; none = λ k h. h }
cut_restarts port label a (Some linked) found =
    put_restarts a (cuts_of a label (Some linked)) linked _ (own a port linked found) refl refl refl (λ h. (let bare = h linked (own a port linked found) in record { grants = bare.grants; labels = bare.labels }))

closes_restarts : (port : PortNo) (a : Acted) (action : Action) → Restarting a (closes_by port a action)
closes_restarts port a (Say message) = record { ports = refl; estab = refl; none = λ k h. h }
closes_restarts port a (Ask request needed) = record { ports = refl; estab = refl; none = λ k h. h }
closes_restarts port a (Note item) = record { ports = refl; estab = refl; none = λ k h. h }
closes_restarts port a (CutChain label) = cut_restarts port label a (linked_at a.controller port) refl
closes_restarts port a (TakeBack input output) = record { ports = refl; estab = refl; none = λ k h. h }
closes_restarts port a (Withdraw input) = record { ports = refl; estab = refl; none = λ k h. h }
closes_restarts port a Reset = record { ports = refl; estab = refl; none = λ k h. h }

-- the port itself has none
record Restarted (a b : Acted) (port : PortNo) : Type 0 where
  all : Restarting a b
  own : AreBare b port.0

restarted_at : (a : Acted) (port : PortNo) (o : Option Linked) → linked_at a.controller port ≡ o → Restarted a (port_restarts_of a o) port
restarted_at a port None found = record { all = record { ports = refl; estab = refl; none = λ k h. h }; own = λ l at_l. absurd (cc (sym found ∙ at_l)) }
restarted_at a port (Some linked) found =
    let w : Work = restarts linked.setup (begins a linked) in
    let after : Linked = record linked { port = w.port } in
    let begun : Restarting a (with_work a linked w) = put_restarts a (with_work a linked w) linked after (own a port linked found) refl refl refl (λ h. record { grants = refl; labels = refl }) in
    let rest : Restarting (with_work a linked w) (fold (closes_by linked.setup.port) (with_work a linked w) w.actions) = restarting_each (closes_by linked.setup.port) (closes_restarts linked.setup.port) w.actions (with_work a linked w) in
    record {
      all = restarting_then a (with_work a linked w) (fold (closes_by linked.setup.port) (with_work a linked w) w.actions) begun rest;
      own = subst (AreBare (fold (closes_by linked.setup.port) (with_work a linked w) w.actions)) (key_of port_key port.0 a.controller.ports linked found)
          (rest.none (port_key linked) (λ l at_l. (let mine : Some after ≡ Some l = sym (at_put port_key after a.controller.ports linked (own a port linked found)) ∙ at_l in
          subst IsBare (some_same after l mine) (record { grants = refl; labels = refl }))));
    }

restarts_all : (ports : List PortNo) (a : Acted) → Restarting a (fold port_restarts a ports)
restarts_all ports a = restarting_each port_restarts (λ b port. (restarted_at b port (linked_at b.controller port) refl).all) ports a

each_restarted : (ports : List PortNo) (a : Acted) → Every (λ (p : PortNo). AreBare (fold port_restarts a ports) p.0) ports
each_restarted [] a = tt
each_restarted (port ∷ ports) a =
    let first = restarted_at a port (linked_at a.controller port) refl in
    ((restarts_all ports (port_restarts a port)).none port.0 first.own, each_restarted ports (port_restarts a port))

no_joined : (ports : List Linked) → Every IsBare ports → all_joined ports ≡ []
no_joined [] none = refl
no_joined (l ∷ ports) none = (λ i. (lents_are l.setup.port l.port.grants ∙ ap (lents l.setup.port) none.0.grants) i ++ no_joined ports none.1 i)

owns : (all ports : List Linked) → Every (λ (p : PortNo). (l : Linked) → at port_key p.0 all ≡ Some l → IsBare l) (map (λ (l : Linked). l.setup.port) ports) → Every (λ (l : Linked). at port_key (port_key l) all ≡ Some l) ports → Every IsBare ports
owns all [] none found = tt
owns all (l ∷ ports) none found = (none.0 l found.0, owns all ports none.1 found.1)

-- *Node reset*: no join is left, and no label
pub record NodeReset (a : Acted) : Type 0 where
  pub bare : Every IsBare (node_resets a).controller.ports
  pub estab : stands (node_resets a) ≡ false
  pub joined : joined_to (node_resets a) ≡ []
  pub ports : ports_of (node_resets a).controller ≡ ports_of a.controller

pub node_reset : (a : Acted) → AreDifferent a → NodeReset a
node_reset a differ =
    let b : Acted = node_resets a in
    let all = restarts_all (ports_of a.controller) (resets_gsmp a) in
    let none : Every (λ (p : PortNo). AreBare b p.0) (ports_of b.controller) = subst (Every (λ (p : PortNo). AreBare b p.0)) (sym all.ports) (each_restarted (ports_of a.controller) (resets_gsmp a)) in
    let different : InOrder Differ (ports_of b.controller) = subst (InOrder Differ) (sym all.ports) differ in
    let found : Every (λ (l : Linked). at port_key (port_key l) b.controller.ports ≡ Some l) b.controller.ports = each_found port_key b.controller.ports (order_unmapped (λ (l : Linked). l.setup.port) Differ b.controller.ports different) in
    let bare : Every IsBare b.controller.ports = owns b.controller.ports b.controller.ports none found in
    record { bare = bare; estab = all.estab; joined = no_joined b.controller.ports bare; ports = all.ports }

pub resets_node : (a : Acted) → AreDifferent a → stands a ≡ true → Lasts a (node_resets a)
resets_node a differ estab = (let r = node_reset a differ in record { ports = r.ports; either = inr (record { was = estab; is = r.estab; joined = r.joined }) })

pub asks_lasts : (request : Request) (a : Acted) → AreDifferent a → Lasts a (asks a request)
asks_lasts request a differ = on_each (Lasts a) (stands a) (if a.controller.desk.next == last_transaction then node_resets a else asks_next a request) a
    (λ estab. on_both (Lasts a) (a.controller.desk.next == last_transaction) (node_resets a) (asks_next a request) (resets_node a differ estab)
    (let b : Acted = with_desk a (asked a.controller.desk request) in onward a b (asks_next a request) (still a b refl refl) (sent_control b _ _)))
    (λ closed. itself a)

pub takes_back_lasts : (input output : End) (a : Acted) → AreDifferent a → Lasts a (takes_back a input output)
takes_back_lasts input output a differ = on_both (Lasts a) (is_led_home a.controller.desk input (home_of input)) a (asks a (MoveBranch input output (home_of input))) (itself a) (asks_lasts (MoveBranch input output (home_of input)) a differ)

cut_lasts : (port : PortNo) (label : ℕ) (a : Acted) (o : Option Linked) → linked_at a.controller port ≡ o → Lasts a (cuts_of a label o)
cut_lasts port label a None found = itself a
cut_lasts port label a (Some linked) found = placed a (cuts_of a label (Some linked)) linked _ (own a port linked found) refl refl refl refl

-- *Actions*
does_lasts : (port : PortNo) (a : Acted) (action : Action) → AreDifferent a → Lasts a (does port a action)
does_lasts port a (Say message) differ = sent_control a _ _
does_lasts port a (Ask request needed) differ = asks_lasts request a differ
does_lasts port a (Note item) differ = still a (does port a (Note item)) refl refl
does_lasts port a (CutChain label) differ = cut_lasts port label a (linked_at a.controller port) refl
does_lasts port a (TakeBack input output) differ = takes_back_lasts input output a differ
does_lasts port a (Withdraw input) differ = still a (withdraws_input a input) refl refl
does_lasts port a Reset differ = itself a

does_in_estab_lasts : (port : PortNo) (a : Acted) (action : Action) → AreDifferent a → Lasts a (does_in_estab port a action)
does_in_estab_lasts port a action differ = on_both (Lasts a) (stands a) (does port a action) a (does_lasts port a action differ) (itself a)

left_joined : (linked : Linked) (port : Port) → port.grants ≡ flat_map left_of linked.port.grants → joined_at (record linked { port = port }) ≡ joined_at linked
left_joined linked port is =
    lents_are linked.setup.port port.grants ∙ ap (lents linked.setup.port) is ∙ left_kept linked.setup.port linked.port.grants ∙ sym (lents_are linked.setup.port linked.port.grants)

resets_of_lasts : (port : PortNo) (a : Acted) (o : Option Linked) → linked_at a.controller port ≡ o → AreDifferent a → Lasts a (resets_of a o)
resets_of_lasts port a None found differ = itself a
resets_of_lasts port a (Some linked) found differ =
    let w : Work = resets linked.setup (begins a linked) in
    let b : Acted = with_work a linked w in
    let first : Lasts a b = placed a b linked (record linked { port = w.port }) (own a port linked found) refl refl (left_joined linked w.port refl) refl in
    onward a b (resets_as a linked w) first (each (does_in_estab linked.setup.port) (does_in_estab_lasts linked.setup.port) w.actions b (differ_after a b first differ))

pub resets_port_lasts : (port : PortNo) (a : Acted) → AreDifferent a → Lasts a (resets_port a port)
resets_port_lasts port a differ = resets_of_lasts port a (linked_at a.controller port) refl differ

performs_lasts : (port : PortNo) (a : Acted) (action : Action) → AreDifferent a → Lasts a (performs port a action)
performs_lasts port a (Say message) differ = does_lasts port a (Say message) differ
performs_lasts port a (Ask request needed) differ = does_lasts port a (Ask request needed) differ
performs_lasts port a (Note item) differ = does_lasts port a (Note item) differ
performs_lasts port a (CutChain label) differ = does_lasts port a (CutChain label) differ
performs_lasts port a (TakeBack input output) differ = does_lasts port a (TakeBack input output) differ
performs_lasts port a (Withdraw input) differ = does_lasts port a (Withdraw input) differ
performs_lasts port a Reset differ = resets_port_lasts port a differ

pub performs_in_estab_lasts : (port : PortNo) (a : Acted) (action : Action) → AreDifferent a → Lasts a (performs_in_estab port a action)
performs_in_estab_lasts port a action differ = on_both (Lasts a) (stands a) (performs port a action) a (performs_lasts port a action differ) (itself a)

-- *A rule at a port* that lends its grants to the same inputs
abbrev pub Keeps : Acted → PortNo → Rule → Type 0
Keeps a port rule = (linked : Linked) → linked_at a.controller port ≡ Some linked → joined_at (record linked { port = (rule linked.setup a.controller.desk (begins a linked)).port }) ≡ joined_at linked

works_lasts : (port : PortNo) (rule : Rule) (a : Acted) (o : Option Linked) → linked_at a.controller port ≡ o → Keeps a port rule → AreDifferent a → Lasts a (works a rule o)
works_lasts port rule a None found keeps differ = itself a
works_lasts port rule a (Some linked) found keeps differ =
    let w : Work = rule linked.setup a.controller.desk (begins a linked) in
    let b : Acted = with_work a linked w in
    let first : Lasts a b = placed a b linked (record linked { port = w.port }) (own a port linked found) refl refl (keeps linked found) refl in
    onward a b (works_as a linked w) first (each (performs_in_estab linked.setup.port) (performs_in_estab_lasts linked.setup.port) w.actions b (differ_after a b first differ))

pub at_port_lasts : (port : PortNo) (rule : Rule) (a : Acted) → Keeps a port rule → AreDifferent a → Lasts a (at_port a port rule)
at_port_lasts port rule a keeps differ = works_lasts port rule a (linked_at a.controller port) refl keeps differ

-- *What says alone* doesn't reset the node
abbrev pub Says : Action → Type 0
Says (Say message) = Unit {0}
Says action = ⊥

on_stays : (a : Acted) (t : Bool) (b : Acted) → Stays a b → Stays a (if t then b else a)
on_stays a true b s = s
on_stays a false b s = stays_still a a refl refl

says_stays : (port : PortNo) (a : Acted) (action : Action) → Says action → Stays a (performs_in_estab port a action)
says_stays port a (Say message) says = on_stays a (stands a) (does port a (Say message)) (stays_control a _ _)
says_stays port a (Ask request needed) says = absurd says
says_stays port a (Note item) says = absurd says
says_stays port a (CutChain label) says = absurd says
says_stays port a (TakeBack input output) says = absurd says
says_stays port a (Withdraw input) says = absurd says
says_stays port a Reset says = absurd says

pub all_say : (port : PortNo) (actions : List Action) (a : Acted) → Every Says actions → Stays a (fold (performs_in_estab port) a actions)
all_say port [] a says = stays_still a a refl refl
all_say port (action ∷ actions) a says =
    stays_onward a (performs_in_estab port a action) (fold (performs_in_estab port) (performs_in_estab port a action) actions) (says_stays port a action says.0) (all_say port actions (performs_in_estab port a action) says.1)
