-- Joins are taken back for a change of routes: the ports and the routes stay, unless the node is reset.

use Rattle.std.proofs.Common.{◌≡◌, ℕ, suc, zero, ◌∷◌, [], List, Bool, true, false, fold, length, map, drop, Option, Some, None, refl, sym, ap, subst, ◌∙◌, ◌⊎◌, inl, inr, if◌then◌else◌}
use Rattle.std.specs.Prelude.{◌==◌, nat_le, slice_get}
use Rattle.net_types.specs.declared.channel.Channel.{Channel}
use Rattle.net_types.specs.declared.channel.End.{End}
use Rattle.net_types.specs.declared.node.PortNo.{PortNo}
use Rattle.net_types.specs.declared.number.Mark.{Mark}
use Rattle.net_types.specs.Number.{next_control, with_control}
use Rattle.ipv4_forward.specs.declared.change.RouteChange.{RouteChange}
use Rattle.link_model.specs.declared.record.Record.TheVariants.{Loss}
use Rattle.link_model.specs.declared.record.Cause.TheVariants.{PoolFull}
use Rattle.link_model.specs.Notes.{noted}
use Rattle.frame_model.specs.Frame.{frame_cells, made}
use Rattle.frame_model.specs.Sending.{Sender}
use Rattle.gsmp_wire.specs.declared.request.Request.{Request}
use Rattle.gsmp_wire.specs.declared.request.Request.TheVariants.{MoveBranch}
use Rattle.ordered_lists.specs.Ordered.{Every}
use Rattle.port_model.specs.Desk.{asked, is_led_home, last_transaction}
use Rattle.port_model.specs.declared.action.Action.{Action}
use Rattle.port_model.specs.declared.action.Action.TheVariants.{Say, Ask, Note, CutChain, TakeBack, Withdraw, Reset}
use Rattle.port_model.specs.Port.{Work}
use Rattle.port_model.specs.Resets.{restarts}
use Rattle.port_model.specs.Setup.{home_of}
use Rattle.controller_joins.specs.world_model.Asking.{asks, asks_next, takes_back}
use Rattle.controller_joins.specs.world_model.Changes.{begins_change, changed_joins, takes_join_back}
use Rattle.controller_joins.specs.world_model.Controller.{Acted, Controller, Linked, free_slots, linked_at, ports_of, with_desk}
use Rattle.controller_joins.specs.world_model.Joins.{Join, output_joined}
use Rattle.controller_joins.specs.world_model.Resets.{begins, closes_by, cuts_of, node_resets, port_restarts, port_restarts_of, resets_gsmp, with_work}
use Rattle.controller_joins.specs.world_model.Sending.{sends, with_cells}
use Rattle.controller_joins.specs.Joined.{joined_of}
use Rattle.controller_joins.specs.declared.places.Joined.{Joined}
use Rattle.law_join_facts.proofs.Ordered.{on_both}
use Rattle.law_join_facts.proofs.Lasts.{AreDifferent, IsBare, Lasts, differ_after, each, itself, node_reset, onward, stands, still, takes_back_lasts}

-- the routes and what waits stay
pub record Keeps (a b : Acted) : Type 0 where
  pub table : b.controller.table ≡ a.controller.table
  pub waiting : b.controller.waiting ≡ a.controller.waiting
  pub changes : b.controller.changes ≡ a.controller.changes

keeps_itself : (a : Acted) → Keeps a a
keeps_itself a = record { table = refl; waiting = refl; changes = refl }

keeps_onward : (a b c : Acted) → Keeps a b → Keeps b c → Keeps a c
keeps_onward a b c p q = record { table = q.table ∙ p.table; waiting = q.waiting ∙ p.waiting; changes = q.changes ∙ p.changes }

-- and the node isn't met any more; the ports stay, and whether it is met and begun
keeps_each : {X : Type 0} (f : Acted → X → Acted) → ((a : Acted) (x : X) → Keeps a (f a x)) → (xs : List X) (a : Acted) → Keeps a (fold f a xs)
keeps_each f k [] a = keeps_itself a
keeps_each f k (x ∷ xs) a = keeps_onward a (f a x) (fold f (f a x) xs) (k a x) (keeps_each f k xs (f a x))

pub record Same (a b : Acted) : Type 0 where
  pub ports : b.controller.ports ≡ a.controller.ports
  pub met : b.controller.has_met ≡ a.controller.has_met
  pub begun : b.controller.is_begun ≡ a.controller.is_begun

pub record Unmet (b : Acted) : Type 0 where
  pub estab : stands b ≡ false
  pub met : b.controller.has_met ≡ false
  pub bare : Every IsBare b.controller.ports

pub record Asked (a b : Acted) : Type 0 where
  pub keeps : Keeps a b
  pub either : Same a b ⊎ Unmet b

pub asked_itself : (a : Acted) → Asked a a
asked_itself a = record { keeps = keeps_itself a; either = inl (record { ports = refl; met = refl; begun = refl }) }

-- *What is sent*
sent_asked : (a : Acted) (channel : Channel) (mark : Mark) (payload : List ℕ) → Asked a (sends a channel mark payload)
sent_asked a channel mark payload = on_both (λ (s : Sender Controller). Asked a (record a { controller = s.queues; notes = s.notes })) (nat_le (length (frame_cells channel mark payload)) (free_slots a.controller))
    (record { queues = with_cells a.controller (frame_cells channel mark payload); notes = made a.notes mark payload })
    (record { queues = a.controller; notes = noted (made a.notes mark payload) (Loss mark PoolFull) })
    (record { keeps = record { table = refl; waiting = refl; changes = refl }; either = inl (record { ports = refl; met = refl; begun = refl }) })
    (record { keeps = record { table = refl; waiting = refl; changes = refl }; either = inl (record { ports = refl; met = refl; begun = refl }) })

next_asked : (a : Acted) (request : Request) → Asked a (asks_next a request)
next_asked a request =
    let b : Acted = record (with_desk a (asked a.controller.desk request)) { numbers = with_control a.numbers } in
    let s = sent_asked b _ (next_control a.numbers) _ in
    record {
      keeps = record { table = s.keeps.table; waiting = s.keeps.waiting; changes = s.keeps.changes };
      either = elim s.either [
        | inl same ↦ inl (record { ports = same.ports; met = same.met; begun = same.begun })
        | inr unmet ↦ inr unmet
      ];
    }

-- *A node reset*
cut_keeps : (a : Acted) (label : ℕ) (o : Option Linked) → Keeps a (cuts_of a label o)
cut_keeps a label None = keeps_itself a
cut_keeps a label (Some linked) = record { table = refl; waiting = refl; changes = refl }

close_keeps : (port : PortNo) (a : Acted) (action : Action) → Keeps a (closes_by port a action)
close_keeps port a (Say message) = keeps_itself a
close_keeps port a (Ask request needed) = keeps_itself a
close_keeps port a (Note item) = record { table = refl; waiting = refl; changes = refl }
close_keeps port a (CutChain label) = cut_keeps a label (linked_at a.controller port)
close_keeps port a (TakeBack input output) = keeps_itself a
close_keeps port a (Withdraw input) = keeps_itself a
close_keeps port a Reset = keeps_itself a

restart_keeps : (a : Acted) (o : Option Linked) → Keeps a (port_restarts_of a o)
restart_keeps a None = keeps_itself a
restart_keeps a (Some linked) =
    let w : Work = restarts linked.setup (begins a linked) in
    keeps_onward a (with_work a linked w) (port_restarts_of a (Some linked)) (record { table = refl; waiting = refl; changes = refl })
    (keeps_each (closes_by linked.setup.port) (close_keeps linked.setup.port) w.actions (with_work a linked w))

met_each : {X : Type 0} (f : Acted → X → Acted) → ((a : Acted) (x : X) → (f a x).controller.has_met ≡ a.controller.has_met) → (xs : List X) (a : Acted) → (fold f a xs).controller.has_met ≡ a.controller.has_met
met_each f k [] a = refl
met_each f k (x ∷ xs) a = met_each f k xs (f a x) ∙ k a x

cut_met : (a : Acted) (label : ℕ) (o : Option Linked) → (cuts_of a label o).controller.has_met ≡ a.controller.has_met
cut_met a label None = refl
cut_met a label (Some linked) = refl

close_met : (port : PortNo) (a : Acted) (action : Action) → (closes_by port a action).controller.has_met ≡ a.controller.has_met
close_met port a (Say message) = refl
close_met port a (Ask request needed) = refl
close_met port a (Note item) = refl
close_met port a (CutChain label) = cut_met a label (linked_at a.controller port)
close_met port a (TakeBack input output) = refl
close_met port a (Withdraw input) = refl
close_met port a Reset = refl

restart_met : (a : Acted) (o : Option Linked) → (port_restarts_of a o).controller.has_met ≡ a.controller.has_met
restart_met a None = refl
restart_met a (Some linked) = (let w : Work = restarts linked.setup (begins a linked) in met_each (closes_by linked.setup.port) (close_met linked.setup.port) w.actions (with_work a linked w))

reset_asked : (a : Acted) → AreDifferent a → Asked a (node_resets a)
reset_asked a differ =
    let k = keeps_each port_restarts (λ b port. restart_keeps b (linked_at b.controller port)) (ports_of a.controller) (resets_gsmp a) in
    record {
      keeps = record { table = k.table; waiting = k.waiting; changes = k.changes };
      either = inr (record { estab = (node_reset a differ).estab; bare = (node_reset a differ).bare; met = met_each port_restarts (λ b port. restart_met b (linked_at b.controller port)) (ports_of a.controller) (resets_gsmp a) });
    }

pub asks_asked : (request : Request) (a : Acted) → AreDifferent a → Asked a (asks a request)
asks_asked request a differ = on_both (Asked a) (stands a) (if a.controller.desk.next == last_transaction then node_resets a else asks_next a request) a
    (on_both (Asked a) (a.controller.desk.next == last_transaction) (node_resets a) (asks_next a request) (reset_asked a differ) (next_asked a request)) (asked_itself a)

pub takes_back_asked : (input output : End) (a : Acted) → AreDifferent a → Asked a (takes_back a input output)
takes_back_asked input output a differ = on_both (Asked a) (is_led_home a.controller.desk input (home_of input)) a (asks a (MoveBranch input output (home_of input))) (asked_itself a) (asks_asked (MoveBranch input output (home_of input)) a differ)

pub asked_onward : (a b c : Acted) → Asked a b → Same a b → Asked b c → Asked a c
asked_onward a b c p s q = record {
  keeps = keeps_onward a b c p.keeps q.keeps;
  either = elim q.either [
    | inl t ↦ inl (record { ports = t.ports ∙ s.ports; met = t.met ∙ s.met; begun = t.begun ∙ s.begun })
    | inr u ↦ inr u
  ];
}

-- *Outside Estab* nothing is taken back
on_closed : (a : Acted) (b led : Bool) → b ≡ false → (x : Acted) → (if led then a else (if b then x else a)) ≡ a
on_closed a true led e x = absurd (cc e)
on_closed a false true e x = refl
on_closed a false false e x = refl

pub closed_takes : (joins : List Join) (a : Acted) → stands a ≡ false → fold takes_join_back a joins ≡ a
closed_takes [] a closed = refl
closed_takes (join ∷ joins) a closed =
    let one : takes_join_back a join ≡ a = on_closed a (stands a) (is_led_home a.controller.desk join.input (home_of join.input)) closed _ in
    ap (λ (x : Acted). fold takes_join_back x joins) one ∙ closed_takes joins a closed

-- *Joins in turn*
pub record At (joins : List Join) (k : ℕ) (joined : Joined) : Type 0 where
  pub join : Join
  pub is : joined_of join ≡ joined
  pub rest : drop k joins ≡ join ∷ drop (suc k) joins

pub at_place : (joins : List Join) (k : ℕ) (joined : Joined) → slice_get (map joined_of joins) k ≡ Some joined → At joins k joined
at_place [] k joined e = absurd (cc e)
at_place (j ∷ joins) zero joined e = record { join = j; is = cc e; rest = refl }
at_place (j ∷ joins) (suc k) joined e = (let at = at_place joins k joined e in record { join = at.join; is = at.is; rest = at.rest })

pub past : (joins : List Join) (k : ℕ) → slice_get (map joined_of joins) k ≡ None → drop k joins ≡ []
past [] zero e = refl
past [] (suc k) e = refl
past (j ∷ joins) zero e = absurd (cc e)
past (j ∷ joins) (suc k) e = past joins k e

pub every_drop : (P : Join → Type 0) (joins : List Join) (k : ℕ) → Every P joins → Every P (drop k joins)
every_drop P [] zero h = tt
every_drop P [] (suc k) h = tt
every_drop P (j ∷ joins) zero h = h
every_drop P (j ∷ joins) (suc k) h = every_drop P joins k h.1

-- *A change is begun*
pub begins_lasts : (a : Acted) (change : RouteChange) → AreDifferent a → Lasts a (begins_change a change)
begins_lasts a change differ = on_both (Lasts a) a.controller.is_begun a (fold takes_join_back (record a { controller = record a.controller { is_begun = true } }) (changed_joins a.controller change)) (itself a)
    (let b : Acted = record a { controller = record a.controller { is_begun = true } } in
    let first : Lasts a b = still a b refl refl in
    onward a b (fold takes_join_back b (changed_joins a.controller change)) first
    (each takes_join_back (λ c join d. takes_back_lasts join.input (output_joined join) c d) (changed_joins a.controller change) b (differ_after a b first differ)))

each_asked : (joins : List Join) (a : Acted) → AreDifferent a → Asked a (fold takes_join_back a joins)
each_asked [] a differ = asked_itself a
each_asked (join ∷ joins) a differ = by first first.either (each_asked joins b (differ_after a b (takes_back_lasts join.input (output_joined join) a differ) differ)) where
  b : Acted
  b = takes_join_back a join

  first : Asked a b
  first = takes_back_asked join.input (output_joined join) a differ

  by : Asked a b → Same a b ⊎ Unmet b → Asked b (fold takes_join_back b joins) → Asked a (fold takes_join_back b joins)
  by one (inl same) rest = asked_onward a b (fold takes_join_back b joins) one same rest
  by one (inr unmet) rest = subst (Asked a) (sym (closed_takes joins b unmet.estab)) one

pub record Begun (a b : Acted) : Type 0 where
  pub ports : b.controller.has_met ≡ true → b.controller.ports ≡ a.controller.ports
  pub waiting : b.controller.waiting ≡ a.controller.waiting

begun_from : (a c b : Acted) → c.controller.ports ≡ a.controller.ports → c.controller.waiting ≡ a.controller.waiting → Asked c b → Begun a b
begun_from a c b ports waiting asked = record {
  ports = λ met. elim asked.either [ inl s ↦ s.ports ∙ ports | inr u ↦ absurd (cc (sym met ∙ u.met)) ];
  waiting = asked.keeps.waiting ∙ waiting;
}

pub begins_keeps : (a : Acted) (change : RouteChange) → AreDifferent a → Begun a (begins_change a change)
begins_keeps a change differ =
    let b : Acted = record a { controller = record a.controller { is_begun = true } } in
    on_both (Begun a) a.controller.is_begun a (fold takes_join_back b (changed_joins a.controller change)) (record { ports = λ met. refl; waiting = refl })
    (begun_from a b (fold takes_join_back b (changed_joins a.controller change)) refl refl (each_asked (changed_joins a.controller change) b differ))
