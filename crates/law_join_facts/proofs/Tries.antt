-- Joins are tried: each port holds the labels that it held, or none where the node is reset.

use Rattle.std.proofs.Common.{◌≡◌, ◌⊎◌, inl, inr, ℕ, ◌+◌, List, [], ◌∷◌, ◌++◌, map, drop, fold, Option, Some, None, refl, sym, ap, subst, ◌∙◌, arith}
use Rattle.std.specs.Prelude.{flat_map, slice_get}
use Rattle.std.specs.Option.{option_map, option_map_or, option_and_then}
use Rattle.std.proofs.lemmas.List.{drop_all, drop_more}
use Rattle.std.proofs.lemmas.Option.{get_or_from_slice_get, slice_get-map, slice_get_cases, slice_get_past, slice_get_within}
use Rattle.net_types.specs.declared.channel.End.{End}
use Rattle.net_types.specs.declared.node.PortNo.{PortNo}
use Rattle.net_types.specs.Label.{number_of_channel}
use Rattle.gsmp_wire.specs.declared.request.Request.{Request}
use Rattle.gsmp_wire.specs.declared.request.Request.TheVariants.{MoveBranch}
use Rattle.ordered_lists.specs.Ordered.{Every, InOrder}
use Rattle.ordered_lists.proofs.Every.{every_right}
use Rattle.ordered_lists.proofs.InOrder.{order_unmapped}
use Rattle.keyed_lists.specs.Keyed.{at, put}
use Rattle.port_model.specs.Joins.{joined, joins_label, lent}
use Rattle.port_model.specs.Labels.{Label, label_number}
use Rattle.port_model.specs.Port.{Session, Work, label_at, labels_of}
use Rattle.port_model.specs.Setup.{home_of, label_end}
use Rattle.controller_joins.specs.world_model.Asking.{asks}
use Rattle.controller_joins.specs.world_model.Controller.{Acted, Controller, Linked, linked_at, port_key, ports_of}
use Rattle.controller_joins.specs.world_model.Joins.{Join, enters_grant, enters_label, inputs_at, join_for, joins, label_on, may_join, output_joined, tries_join, tries_label}
use Rattle.controller_joins.specs.world_model.Performing.{works}
use Rattle.controller_joins.specs.world_model.Resets.{begins, with_work}
use Rattle.law_join_facts.specs.Joins.{Differ, HaveNumbers, inputs_on}
use Rattle.law_join_facts.proofs.Changing.{asks_asked}
use Rattle.law_join_facts.proofs.Lasts.{AreDifferent, IsBare, asks_lasts, own}
use Rattle.law_join_facts.proofs.Ordered.{on_both}
use Rattle.law_join_facts.proofs.Splits.{each_found, each_put, found_own, key_of, map_put, split}

abbrev pub HoldSame : Acted → Acted → Type 0
HoldSame a b = (port : PortNo) → inputs_on b.controller port ≡ inputs_on a.controller port

abbrev pub HoldNone : Acted → Type 0
HoldNone b = (port : PortNo) → inputs_on b.controller port ≡ []

pub record Tried (a b : Acted) : Type 0 where
  pub ports : ports_of b.controller ≡ ports_of a.controller
  pub either : HoldSame a b ⊎ HoldNone b

pub tried_itself : (a : Acted) → Tried a a
tried_itself a = record { ports = refl; either = inl (λ port. refl) }

pub tried_onward : (a b c : Acted) → Tried a b → Tried b c → Tried a c
tried_onward a b c first second = record {
  ports = second.ports ∙ first.ports;
  either = elim second.either [
    | inl same ↦ elim first.either [
      | inl before ↦ inl (λ port. same port ∙ before port)
      | inr none ↦ inr (λ port. same port ∙ none port)
    ]
    | inr none ↦ inr none
  ];
}

pub differ_tried : (a b : Acted) → Tried a b → AreDifferent a → AreDifferent b
differ_tried a b t differ = subst (InOrder Differ) (sym t.ports) differ

abbrev inputs_in : PortNo → List Linked → List End
inputs_in port ports = option_map_or inputs_at (at port_key port.0 ports) []

-- *A port changes*, whose labels have the numbers that they had
placed : (a b : Acted) (linked after : Linked) → at port_key (port_key after) a.controller.ports ≡ Some linked → b.controller.ports ≡ put port_key after a.controller.ports → after.setup ≡ linked.setup → inputs_at after ≡ inputs_at linked → Tried a b
placed a b linked after found is setup same = record {
  ports = ap (map (λ (l : Linked). l.setup.port)) is ∙ map_put port_key (λ (l : Linked). l.setup.port) after a.controller.ports linked found (λ i. (setup i).port);
  either = inl (λ port. ap (inputs_in port) is ∙ each_put port_key (λ (o : Option Linked). option_map_or inputs_at o []) after port.0 a.controller.ports linked found same);
}

grant_tried : (a : Acted) (join : Join) → Tried a (enters_grant a join)
grant_tried a join = by (linked_at a.controller join.port) refl where
  by : (o : Option Linked) → linked_at a.controller join.port ≡ o → Tried a (works a (λ setup desk w. lent w join.grant join.input) o)
  by None found = tried_itself a
  by (Some linked) found = (let w : Work = lent (begins a linked) join.grant join.input in placed a (with_work a linked w) linked (record linked { port = w.port }) (own a join.port linked found) refl refl refl)

-- what is joined keeps its number
numbers_stay : (port : PortNo) (label : Label) (output : Option End) (session : Option Session) → at label_number label.number (option_map_or (λ (s : Session). s.labels) session []) ≡ Some label
    → map (λ (l : Label). label_end port l.number) (option_map_or (λ (s : Session). s.labels) (option_map (λ (s : Session). record s { labels = put label_number (record label { join = output }) s.labels }) session) [])
    ≡ map (λ (l : Label). label_end port l.number) (option_map_or (λ (s : Session). s.labels) session [])
numbers_stay port label output None found = refl
numbers_stay port label output (Some s) found = map_put label_number (λ (l : Label). label_end port l.number) (record label { join = output }) s.labels label found refl

label_tried : (a : Acted) (join : Join) → Tried a (enters_label a join)
label_tried a join = by (linked_at a.controller join.input.port) refl where
  number : ℕ
  number = number_of_channel join.input.channel

  by_label : (linked : Linked) → linked_at a.controller join.input.port ≡ Some linked → (o : Option Label) → label_at linked.port number ≡ o → Tried a (works a (λ setup desk w. joins_label w (Some (output_joined join)) o) (Some linked))
  by_label linked found None held = placed a (with_work a linked (begins a linked)) linked linked (own a join.input.port linked found) refl refl refl
  by_label linked found (Some label) held =
      let w : Work = joins_label (begins a linked) (Some (output_joined join)) (Some label) in
      placed a (with_work a linked w) linked (record linked { port = w.port }) (own a join.input.port linked found) refl refl
      (numbers_stay linked.setup.port label (Some (output_joined join)) linked.port.session (found_own label_number number (labels_of linked.port) label held))

  by : (o : Option Linked) → linked_at a.controller join.input.port ≡ o → Tried a (works a (λ setup desk w. joined w number (output_joined join)) o)
  by None found = tried_itself a
  by (Some linked) found = by_label linked found (label_at linked.port number) refl

-- *What is asked*: a node reset leaves no label
bare_holds : (b : Acted) → Every IsBare b.controller.ports → HoldNone b
bare_holds b bare port = by (linked_at b.controller port) refl where
  by : (o : Option Linked) → linked_at b.controller port ≡ o → option_map_or inputs_at o [] ≡ []
  by None found = refl
  by (Some linked) found =
      let s = split port_key port.0 b.controller.ports linked found in
      let its : IsBare linked = (every_right IsBare s.front (linked ∷ s.back) (subst (Every IsBare) s.whole bare)).0 in
      ap (map (λ (l : Label). label_end linked.setup.port l.number)) its.labels

asks_tried : (request : Request) (a : Acted) → AreDifferent a → Tried a (asks a request)
asks_tried request a differ = record {
  ports = (asks_lasts request a differ).ports;
  either = elim (asks_asked request a differ).either [
    | inl s ↦ inl (λ port. ap (inputs_in port) s.ports)
    | inr u ↦ inr (bare_holds (asks a request) u.bare)
  ];
}

joins_tried : (a : Acted) (o : Option Join) → AreDifferent a → Tried a (joins a o)
joins_tried a None differ = tried_itself a
joins_tried a (Some join) differ =
    let b : Acted = enters_grant a join in
    let c : Acted = enters_label b join in
    let entered = tried_onward a b c (grant_tried a join) (label_tried b join) in
    tried_onward a c (joins a (Some join)) entered (asks_tried (MoveBranch join.input (home_of join.input) (output_joined join)) c (differ_tried a c entered differ))

-- *A join is tried*, and one after the other
pub join_tried : (a : Acted) (input : End) → AreDifferent a → Tried a (tries_join a input)
join_tried a input differ = by (label_on a.controller input) where
  by : (o : Option Label) → Tried a (tries_label a input o)
  by None = tried_itself a
  by (Some label) = on_both (Tried a) (may_join a.controller input label) (joins a (join_for a.controller input label.flow)) a (joins_tried a (join_for a.controller input label.flow) differ) (tried_itself a)

pub all_tried : (inputs : List End) (a : Acted) → AreDifferent a → Tried a (fold tries_join a inputs)
all_tried [] a differ = tried_itself a
all_tried (input ∷ inputs) a differ =
    let first = join_tried a input differ in
    tried_onward a (tries_join a input) (fold tries_join (tries_join a input) inputs) first (all_tried inputs (tries_join a input) (differ_tried a (tries_join a input) first differ))

-- where no label is held, none is joined
none_at : (port : PortNo) (k : ℕ) (labels : List Label) → map (λ (l : Label). label_end port l.number) labels ≡ [] → at label_number k labels ≡ None
none_at port k [] e = refl
none_at port k (l ∷ labels) e = absurd (cc e)

none_on : (b : Acted) (input : End) → HoldNone b → label_on b.controller input ≡ None
none_on b input none = by (linked_at b.controller input.port) (none input.port) where
  by : (o : Option Linked) → option_map_or inputs_at o [] ≡ [] → option_and_then (λ (l : Linked). label_at l.port (number_of_channel input.channel)) o ≡ None
  by None e = refl
  by (Some linked) e = none_at linked.setup.port (number_of_channel input.channel) (labels_of linked.port) e

pub none_tried : (inputs : List End) (b : Acted) → HoldNone b → fold tries_join b inputs ≡ b
none_tried [] b none = refl
none_tried (input ∷ inputs) b none =
    let one : tries_join b input ≡ b = ap (tries_label b input) (none_on b input none) in
    ap (λ (x : Acted). fold tries_join x inputs) one ∙ none_tried inputs b none

-- *The inputs of all ports* are those of each in turn
pub inputs_are : (c : Controller) → HaveNumbers c → flat_map inputs_at c.ports ≡ flat_map (inputs_on c) (ports_of c)
inputs_are c differ = by c.ports (each_found port_key c.ports (order_unmapped (λ (l : Linked). l.setup.port) Differ c.ports differ)) where
  by : (ports : List Linked) → Every (λ (l : Linked). at port_key (port_key l) c.ports ≡ Some l) ports → flat_map inputs_at ports ≡ flat_map (inputs_on c) (map (λ (l : Linked). l.setup.port) ports)
  by [] found = refl
  by (l ∷ ports) found = λ i. option_map_or inputs_at (sym found.0 i) [] ++ by ports found.1 i

-- *At a place* among the labels of a port
port_is : (p q : PortNo) → p.0 ≡ q.0 → p ≡ q
port_is p q e = λ i. record { 0 = e i }

abbrev pub held_at : Controller → PortNo → ℕ → Option Label
held_at c port place = option_and_then (λ (l : Linked). slice_get (labels_of l.port) place) (linked_at c port)

input_at : (c : Controller) (port : PortNo) (place : ℕ) → slice_get (inputs_on c port) place ≡ option_map (λ (l : Label). label_end port l.number) (held_at c port place)
input_at c port place = by (linked_at c port) refl where
  by : (o : Option Linked) → linked_at c port ≡ o → slice_get (option_map_or inputs_at o []) place ≡ option_map (λ (l : Label). label_end port l.number) (option_and_then (λ (l : Linked). slice_get (labels_of l.port) place) o)
  by None found = slice_get_past [] place (omega arith)
  by (Some linked) found =
      let its : linked.setup.port ≡ port = port_is linked.setup.port port (key_of port_key port.0 c.ports linked found) in
      slice_get-map (λ (l : Label). label_end linked.setup.port l.number) (labels_of linked.port) place
      ∙ ap (λ (p : PortNo). option_map (λ (l : Label). label_end p l.number) (slice_get (labels_of linked.port) place)) its

pub next_input : (c : Controller) (port : PortNo) (place : ℕ) (label : Label) → held_at c port place ≡ Some label → drop place (inputs_on c port) ≡ label_end port label.number ∷ drop (place + 1) (inputs_on c port)
next_input c port place label held =
    let inputs : List End = inputs_on c port in
    let input : End = label_end port label.number in
    let here : slice_get inputs place ≡ Some input = input_at c port place ∙ ap (option_map (λ (l : Label). label_end port l.number)) held in
    drop_more inputs place input (slice_get_within inputs place input here) ∙ ap (λ (e : End). e ∷ drop (place + 1) inputs) (get_or_from_slice_get inputs place input input here)

pub last_input : (c : Controller) (port : PortNo) (place : ℕ) → held_at c port place ≡ None → drop place (inputs_on c port) ≡ []
last_input c port place held =
    let inputs : List End = inputs_on c port in
    let none : slice_get inputs place ≡ None = input_at c port place ∙ ap (option_map (λ (l : Label). label_end port l.number)) held in
    elim (slice_get_cases inputs place).1 [
      | inl some ↦ absurd (cc (sym none ∙ some.2))
      | inr past ↦ drop_all place inputs past.0
    ]
