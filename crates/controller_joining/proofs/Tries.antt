-- Joins are tried in turn: those of a port, and those of all ports.

use Rattle.std.proofs.Common.{◌≡◌, inl, inr, ℕ, ◌≤◌, ◌+◌, List, [], ◌∷◌, ◌++◌, drop, fold, length, Some, None, sym, ap, subst, ◌∙◌, refl, arith}
use Rattle.std.specs.Prelude.{flat_map}
use Rattle.std.proofs.lemmas.List.{drop_all}
use Rattle.std.proofs.lemmas.List.Sums.{fold-append}
use Rattle.net_types.specs.declared.channel.End.{End}
use Rattle.net_types.specs.declared.node.PortNo.{PortNo}
use Rattle.port_model.specs.Labels.{Label}
use Rattle.port_model.specs.Setup.{label_end}
use Rattle.controller_joins.specs.world_model.Controller.{Acted, ports_of}
use Rattle.controller_joins.specs.world_model.Joins.{inputs_at, tries_join, tries_joins}
use Rattle.law_join_facts.specs.Joins.{inputs_on}
use Rattle.law_join_facts.proofs.Lasts.{AreDifferent}
use Rattle.law_join_facts.proofs.Tries.{Tried, all_tried, differ_tried, held_at, inputs_are, join_tried, last_input, next_input, none_tried, tried_itself, tried_onward}
use Rattle.controller_joining.specs.Conditions.{CanTryJoin, CanTryJoins, EachCanBeTried}

-- *What is left to try*, so that the whole is done
pub record Trying (a b : Acted) (left : List End) (done : Acted) : Type 0 where
  pub tried : Tried a b
  pub differ : AreDifferent b
  pub can : EachCanBeTried b left
  pub acted : fold tries_join b left ≡ done

pub trying_on : (a b done : Acted) (left other : List End) → left ≡ other → Trying a b left done → Trying a b other done
trying_on a b done left other same t = subst (λ (inputs : List End). Trying a b inputs done) same t

-- *The labels of a port*, from a place on
pub port_begins : (a : Acted) (port : PortNo) → AreDifferent a → EachCanBeTried a (inputs_on a.controller port) → Trying a a (inputs_on a.controller port) (fold tries_join a (inputs_on a.controller port))
port_begins a port differ can = record { tried = tried_itself a; differ = differ; can = can; acted = refl }

next_is : (a b : Acted) (port : PortNo) (place : ℕ) (label : Label) → Tried a b → held_at b.controller port place ≡ Some label → drop place (inputs_on a.controller port) ≡ label_end port label.number ∷ drop (place + 1) (inputs_on a.controller port)
next_is a b port place label t held = elim t.either [
  | inl same ↦ ap (drop place) (sym (same port)) ∙ next_input b.controller port place label held ∙ ap (λ (inputs : List End). label_end port label.number ∷ drop (place + 1) inputs) (same port)
  | inr none ↦ absurd (cc (sym (drop_all {X = End} place [] (omega arith)) ∙ ap (drop place) (sym (none port)) ∙ next_input b.controller port place label held))
]

pub label_can : (a b done : Acted) (port : PortNo) (place : ℕ) (label : Label) → Trying a b (drop place (inputs_on a.controller port)) done → held_at b.controller port place ≡ Some label → CanTryJoin b (label_end port label.number)
label_can a b done port place label t held = (subst (EachCanBeTried b) (next_is a b port place label t.tried held) t.can).0

pub label_tried : (a b d done : Acted) (port : PortNo) (place : ℕ) (label : Label) → Trying a b (drop place (inputs_on a.controller port)) done → held_at b.controller port place ≡ Some label → d ≡ tries_join b (label_end port label.number)
    → Trying a d (drop (place + 1) (inputs_on a.controller port)) done
label_tried a b d done port place label t held is =
    let input : End = label_end port label.number in
    let next = next_is a b port place label t.tried held in
    let one = join_tried b input t.differ in
    subst (λ (x : Acted). Trying a x (drop (place + 1) (inputs_on a.controller port)) done) (sym is)
    (record {
      tried = tried_onward a b (tries_join b input) t.tried one;
      differ = differ_tried b (tries_join b input) one t.differ;
      can = (subst (EachCanBeTried b) next t.can).1;
      acted = ap (fold tries_join b) (sym next) ∙ t.acted;
    })

pub none_held : (a b done : Acted) (port : PortNo) (place : ℕ) → Trying a b (drop place (inputs_on a.controller port)) done → held_at b.controller port place ≡ None → b ≡ done
none_held a b done port place t held = elim t.tried.either [
  | inl same ↦ ap (fold tries_join b) (sym (ap (drop place) (sym (same port)) ∙ last_input b.controller port place held)) ∙ t.acted
  | inr none ↦ sym (none_tried (drop place (inputs_on a.controller port)) b none) ∙ t.acted
]

pub all_held : (a b done : Acted) (port : PortNo) (place : ℕ) → Trying a b (drop place (inputs_on a.controller port)) done → length (inputs_on a.controller port) ≤ place → b ≡ done
all_held a b done port place t past = ap (fold tries_join b) (sym (drop_all place (inputs_on a.controller port) past)) ∙ t.acted

-- *Port by port*
front_can : (xs ys : List End) (b : Acted) → EachCanBeTried b (xs ++ ys) → EachCanBeTried b xs
front_can [] ys b can = tt
front_can (x ∷ xs) ys b can = (can.0, front_can xs ys (tries_join b x) can.1)

back_can : (xs ys : List End) (b : Acted) → EachCanBeTried b (xs ++ ys) → EachCanBeTried (fold tries_join b xs) ys
back_can [] ys b can = can
back_can (x ∷ xs) ys b can = back_can xs ys (tries_join b x) can.1

pub port_can : (a b done : Acted) (port : PortNo) (rest : List End) → Trying a b (inputs_on a.controller port ++ rest) done → EachCanBeTried b (inputs_on b.controller port)
port_can a b done port rest t = elim t.tried.either [
  | inl same ↦ subst (EachCanBeTried b) (sym (same port)) (front_can (inputs_on a.controller port) rest b t.can)
  | inr none ↦ subst (EachCanBeTried b) (sym (none port)) tt
]

same_tried : (a b : Acted) (port : PortNo) → Tried a b → fold tries_join b (inputs_on b.controller port) ≡ fold tries_join b (inputs_on a.controller port)
same_tried a b port t = elim t.either [
  | inl same ↦ ap (fold tries_join b) (same port)
  | inr none ↦ none_tried (inputs_on b.controller port) b none ∙ sym (none_tried (inputs_on a.controller port) b none)
]

pub port_tried : (a b d done : Acted) (port : PortNo) (rest : List End) → Trying a b (inputs_on a.controller port ++ rest) done → d ≡ fold tries_join b (inputs_on b.controller port) → Trying a d rest done
port_tried a b d done port rest t is =
    let inputs : List End = inputs_on a.controller port in
    let all = all_tried inputs b t.differ in
    subst (λ (x : Acted). Trying a x rest done) (sym (is ∙ same_tried a b port t.tried))
    (record {
      tried = tried_onward a b (fold tries_join b inputs) t.tried all;
      differ = differ_tried b (fold tries_join b inputs) all t.differ;
      can = back_can inputs rest b t.can;
      acted = sym (fold-append tries_join b inputs rest) ∙ t.acted;
    })

pub joins_begin : (a : Acted) (ports : List PortNo) → AreDifferent a → ports_of a.controller ≡ ports → CanTryJoins a → Trying a a (flat_map (inputs_on a.controller) ports) (tries_joins a)
joins_begin a ports differ are can =
    let inputs : flat_map inputs_at a.controller.ports ≡ flat_map (inputs_on a.controller) ports = inputs_are a.controller differ ∙ ap (flat_map (inputs_on a.controller)) are in
    record { tried = tried_itself a; differ = differ; can = subst (EachCanBeTried a) inputs can.each; acted = ap (fold tries_join a) (sym inputs) }
