-- What is asked for ports in turn: the desk's rows stay, and so which ports are up.

use Rattle.std.proofs.Common.{◌≡◌, ◌==◌, ℕ, Bool, true, false, List, [], ◌∷◌, ◌++◌, map, filter, flat_map, fold, length, Option, Some, None, refl, ap, ◌∙◌, if◌then◌else◌}
use Rattle.std.specs.Prelude.{nat_le}
use Rattle.net_types.specs.declared.node.PortNo.{PortNo}
use Rattle.net_types.specs.declared.channel.Channel.{Channel}
use Rattle.net_types.specs.declared.number.Mark.{Mark}
use Rattle.net_types.specs.Number.{next_control, with_control}
use Rattle.link_model.specs.declared.record.Record.TheVariants.{Loss}
use Rattle.link_model.specs.declared.record.Cause.TheVariants.{PoolFull}
use Rattle.link_model.specs.Notes.{noted}
use Rattle.frame_model.specs.Frame.{frame_cells, made}
use Rattle.frame_model.specs.Sending.{Sender}
use Rattle.gsmp_wire.specs.declared.request.Request.{Request}
use Rattle.gsmp_wire.specs.declared.request.Request.TheVariants.{DeleteAll}
use Rattle.gsmp_wire.specs.declared.rows.PortRow.{PortRow}
use Rattle.adjacency_table.specs.Side.{is_estab}
use Rattle.port_model.specs.Messages.{is_up}
use Rattle.port_model.specs.Desk.{asked, last_transaction}
use Rattle.port_model.specs.Resets.{restarts}
use Rattle.port_model.specs.declared.action.Action.{Action}
use Rattle.port_model.specs.declared.action.Action.TheVariants.{Say, Ask, Note, CutChain, TakeBack, Withdraw, Reset}
use Rattle.world_model.specs.Controller.{Acted, Controller, Linked, free_slots, linked_at, ports_of, with_desk}
use Rattle.world_model.specs.Sending.{sends, with_cells}
use Rattle.world_model.specs.Asking.{asks, asks_next}
use Rattle.world_model.specs.Resets.{begins, closes_by, cuts_of, node_resets, port_restarts, port_restarts_of, resets_gsmp, with_work}
use Rattle.world_model.specs.Meeting.{default_branches}
use Rattle.controller_router.specs.Conditions.{EachCanBeAsked}
use Rattle.controller_router.specs.Meeting.{emptying, opening}

abbrev pub rows_in : Acted → List PortRow
rows_in a = a.controller.desk.rows

on_both : {A : Type 0} (P : A → Type 0) (b : Bool) (x y : A) → P x → P y → P (if b then x else y)
on_both P true x y p q = p
on_both P false x y p q = q

sent_rows : (a : Acted) (channel : Channel) (mark : Mark) (payload : List ℕ) → rows_in (sends a channel mark payload) ≡ rows_in a
sent_rows a channel mark payload = on_both (λ (s : Sender Controller). s.queues.desk.rows ≡ rows_in a) (nat_le (length (frame_cells channel mark payload)) (free_slots a.controller))
    (record { queues = with_cells a.controller (frame_cells channel mark payload); notes = made a.notes mark payload })
    (record { queues = a.controller; notes = noted (made a.notes mark payload) (Loss mark PoolFull) }) refl refl

cut_rows : (a : Acted) (label : ℕ) (o : Option Linked) → rows_in (cuts_of a label o) ≡ rows_in a
cut_rows a label None = refl
cut_rows a label (Some linked) = refl

closed_rows : (port : PortNo) (a : Acted) (action : Action) → rows_in (closes_by port a action) ≡ rows_in a
closed_rows port a (Say message) = refl
closed_rows port a (Ask request needed) = refl
closed_rows port a (Note item) = refl
closed_rows port a (CutChain label) = cut_rows a label (linked_at a.controller port)
closed_rows port a (TakeBack input output) = refl
closed_rows port a (Withdraw input) = refl
closed_rows port a Reset = refl

fold_rows : {A : Type 0} (f : Acted → A → Acted) → ((a : Acted) (x : A) → rows_in (f a x) ≡ rows_in a) → (xs : List A) (a : Acted) → rows_in (fold f a xs) ≡ rows_in a
fold_rows f each [] a = refl
fold_rows f each (x ∷ xs) a = fold_rows f each xs (f a x) ∙ each a x

restarted_rows : (a : Acted) (o : Option Linked) → rows_in (port_restarts_of a o) ≡ rows_in a
restarted_rows a None = refl
restarted_rows a (Some linked) = (let w = restarts linked.setup (begins a linked) in fold_rows (closes_by linked.setup.port) (closed_rows linked.setup.port) w.actions (with_work a linked w))

node_rows : (a : Acted) → rows_in (node_resets a) ≡ rows_in a
node_rows a = fold_rows port_restarts (λ b port. restarted_rows b (linked_at b.controller port)) (ports_of a.controller) (resets_gsmp a)

next_rows : (a : Acted) (request : Request) → rows_in (asks_next a request) ≡ rows_in a
next_rows a request = sent_rows (record (with_desk a (asked a.controller.desk request)) { numbers = with_control a.numbers }) _ (next_control a.numbers) _

pub asked_rows : (a : Acted) (request : Request) → rows_in (asks a request) ≡ rows_in a
asked_rows a request = on_both (λ (b : Acted). rows_in b ≡ rows_in a) (is_estab a.controller.adjacency.state) (if a.controller.desk.next == last_transaction then node_resets a else asks_next a request) a
    (on_both (λ (b : Acted). rows_in b ≡ rows_in a) (a.controller.desk.next == last_transaction) (node_resets a) (asks_next a request) (node_rows a) (next_rows a request)) refl

pub all_asked_rows : (requests : List Request) (a : Acted) → rows_in (fold asks a requests) ≡ rows_in a
all_asked_rows requests a = fold_rows asks asked_rows requests a

-- *Requests* of one port, and then of others
pub each_split : (xs ys : List Request) (a : Acted) → EachCanBeAsked a (xs ++ ys) → EachCanBeAsked a xs × EachCanBeAsked (fold asks a xs) ys
each_split [] ys a can = (tt, can)
each_split (x ∷ xs) ys a can = (let others = each_split xs ys (asks a x) can.1 in ((can.0, others.0), others.1))

pub fold_split : (xs ys : List Request) (a : Acted) → fold asks a (xs ++ ys) ≡ fold asks (fold asks a xs) ys
fold_split [] ys a = refl
fold_split (x ∷ xs) ys a = fold_split xs ys (asks a x)

pub emptying_is : (rows : List PortRow) (ports : List PortNo) → flat_map (emptying rows) ports ≡ map DeleteAll (filter (is_up rows) ports)
emptying_is rows [] = refl
emptying_is rows (port ∷ ports) = by (is_up rows port) (emptying_is rows ports) where
  by : (b : Bool) → flat_map (emptying rows) ports ≡ map DeleteAll (filter (is_up rows) ports) → (if b then DeleteAll port ∷ [] else []) ++ flat_map (emptying rows) ports ≡ map DeleteAll (if b then port ∷ filter (is_up rows) ports else filter (is_up rows) ports)
  by true rest = ap (λ others. DeleteAll port ∷ others) rest
  by false rest = rest

pub opening_is : (rows : List PortRow) (ports : List PortNo) → flat_map (opening rows) ports ≡ flat_map default_branches (filter (is_up rows) ports)
opening_is rows [] = refl
opening_is rows (port ∷ ports) = by (is_up rows port) (opening_is rows ports) where
  by : (b : Bool) → flat_map (opening rows) ports ≡ flat_map default_branches (filter (is_up rows) ports) → (if b then default_branches port else []) ++ flat_map (opening rows) ports ≡ flat_map default_branches (if b then port ∷ filter (is_up rows) ports else filter (is_up rows) ports)
  by true rest = ap (λ others. default_branches port ++ others) rest
  by false rest = rest
