-- a node reset makes a controller no heavier: no label, no grant and no request is left

use Rattle.std.proofs.Common.{◌≡◌, ◌≢◌, ◌⊎◌, inl, inr, ℕ, ◌≤◌, Bool, true, false, List, [], ◌∷◌, length, Option, None, Some, refl, sym, ◌∙◌, ap, subst, arith, fold, map}
use Rattle.std.specs.Prelude.{nat_eq, ◌||◌}
use Rattle.std.specs.List.{list_any}
use Rattle.std.proofs.lemmas.Bool.Decides.{nat_tests}
use Rattle.world_model.specs.Words.{NodeId, PortNo, Mark, Frame, payload_of, nothing_taken, at, put, Desk, Action, Say, Ask, Note, CutChain, TakeBack, Withdraw, Session, Work, restarts, Linked, port_key, linked_at, chain_of, chains_with, cuts_of, begins, with_work, closes_by, port_restarts_of, port_restarts, resets_gsmp, node_resets, Topology}
use Rattle.law_controller_facts.specs.ordered_lists.Ordered.{Every, InOrder}
use Rattle.law_controller_facts.proofs.ordered_lists.Every.{every_map}
use Rattle.world_model.specs.port_model.declared.action.Action.TheVariants.{Reset}
use Rattle.law_controller_facts.proofs.law_port_facts.Keyed.{at_key, at_every, put_every, put_order, put_length}
use Rattle.law_controller_facts.proofs.Unmet.{put_each, none_with}
use Rattle.world_model.specs.Controller.{Acted, ports_of}
use Rattle.law_shown_cells.specs.Seen.{Extends, IsUnmade}
use Rattle.law_shown_cells.proofs.Made.{extends_self}
use Rattle.law_shown_cells.proofs.Tested.{cut_frames}
use Rattle.law_frame_weights.specs.claims_model.Costs.{total_weight}
use Rattle.law_frame_weights.specs.claims_model.Weights.{Bound, desk_weight, changes_left}
use Rattle.law_frame_weights.proofs.law_port_weights.Works.{cost_of_label, cost_of_grant, labels_in, spent_cost}
use Rattle.law_action_weights.proofs.Judging.{linked_weight, HaveOwnNumbers, IsOfLink, IsFine, Weighs, down}

-- *Ports* that are in order stay so where one is put back
pub record FinePorts (ports : List Linked) : Type 0 where
  pub apart : InOrder HaveOwnNumbers ports
  pub links : Every IsOfLink ports
  pub few : length ports ≤ 8

pub found_own : (ports : List Linked) (port : PortNo) (linked : Linked) → at port_key port.0 ports ≡ Some linked → at port_key (port_key linked) ports ≡ Some linked
found_own ports port linked found = ap (λ k. at port_key k ports) (at_key port_key port.0 ports linked found) ∙ found

put_fine : (ports : List Linked) (linked new : Linked) → at port_key (port_key new) ports ≡ Some linked → new.setup ≡ linked.setup → FinePorts ports → FinePorts (put port_key new ports)
put_fine ports linked new found same f = record {
  apart = put_order port_key (λ x y. x ≢ y) new ports f.apart;
  links = put_every port_key IsOfLink new ports (subst (λ (s : _). 1 ≤ s.port.0) (sym same) (at_every port_key IsOfLink (port_key new) ports linked f.links found)) f.links;
  few = omega (arith, put_length port_key new ports, f.few);
}

-- *What a restart of ports leaves*
record Leaves (a b : Acted) : Type 0 where
  queue : b.controller.queue ≡ a.controller.queue
  desk : b.controller.desk ≡ a.controller.desk
  frames : b.notes.frames ≡ a.notes.frames
  controls : b.numbers.controls ≡ a.numbers.controls
  waiting : b.controller.waiting ≡ a.controller.waiting
  ports : FinePorts a.controller.ports → FinePorts b.controller.ports

leaves_self : (a : Acted) → Leaves a a
leaves_self a = record { queue = refl; desk = refl; frames = refl; controls = refl; waiting = refl; ports = λ f. f }

leaves_on : (a b c : Acted) → Leaves a b → Leaves b c → Leaves a c
leaves_on a b c p q = record {
  queue = q.queue ∙ p.queue;
  desk = q.desk ∙ p.desk;
  frames = q.frames ∙ p.frames;
  controls = q.controls ∙ p.controls;
  waiting = q.waiting ∙ p.waiting;
  ports = λ f. q.ports (p.ports f);
}

leaves_fold : {A : Type 0} (f : Acted → A → Acted) → ((a : Acted) (x : A) → Leaves a (f a x)) → (xs : List A) (a : Acted) → Leaves a (fold f a xs)
leaves_fold f each [] a = leaves_self a
leaves_fold f each (x ∷ xs) a = leaves_on a (f a x) (fold f (f a x) xs) (each a x) (leaves_fold f each xs (f a x))

cuts_leave : (a : Acted) (port : PortNo) (label : ℕ) (o : Option Linked) → linked_at a.controller port ≡ o → Leaves a (cuts_of a label o)
cuts_leave a port label None found = leaves_self a
cuts_leave a port label (Some linked) found = record {
  queue = refl;
  desk = refl;
  frames = cut_frames a.notes (chain_of linked.chains label);
  controls = refl;
  waiting = refl;
  ports = put_fine a.controller.ports linked (record linked { chains = chains_with linked.chains label nothing_taken }) (found_own a.controller.ports port linked found) refl;
}

closes_leave : (port : PortNo) (a : Acted) (action : Action) → Leaves a (closes_by port a action)
closes_leave port a (Say message) = leaves_self a
closes_leave port a (Ask request needed) = leaves_self a
closes_leave port a (Note item) = record { queue = refl; desk = refl; frames = refl; controls = refl; waiting = refl; ports = λ f. f }
closes_leave port a (CutChain label) = cuts_leave a port label (linked_at a.controller port) refl
closes_leave port a (TakeBack input output) = leaves_self a
closes_leave port a (Withdraw input) = leaves_self a
closes_leave port a Reset = leaves_self a

restart_leaves : (a : Acted) (port : PortNo) (o : Option Linked) → linked_at a.controller port ≡ o → Leaves a (port_restarts_of a o)
restart_leaves a port None found = leaves_self a
restart_leaves a port (Some linked) found =
    let w : Work = restarts linked.setup (begins a linked) in
    leaves_on a (with_work a linked w) (port_restarts_of a (Some linked))
    (record {
      queue = refl;
      desk = refl;
      frames = refl;
      controls = refl;
      waiting = refl;
      ports = put_fine a.controller.ports linked (record linked { port = w.port }) (found_own a.controller.ports port linked found) refl;
    })
    (leaves_fold (closes_by linked.setup.port) (closes_leave linked.setup.port) w.actions (with_work a linked w))

node_leaves : (a : Acted) → Leaves (resets_gsmp a) (node_resets a)
node_leaves a = leaves_fold port_restarts (λ b port. restart_leaves b port (linked_at b.controller port) refl) (ports_of a.controller) (resets_gsmp a)

pub node_waits : (a : Acted) → (node_resets a).controller.waiting ≡ a.controller.waiting
node_waits a = (node_leaves a).waiting

-- *Each port is bare* behind it: it has no session and no grant
abbrev IsBare : Linked → Type 0
IsBare linked = (linked.port.session ≡ None) × (linked.port.grants ≡ [])

abbrev Among : List PortNo → Linked → Type 0
Among rest linked = list_any (λ (port : PortNo). nat_eq port.0 (port_key linked)) rest ≡ true

abbrev LeftOrBare : List PortNo → Linked → Type 0
LeftOrBare rest linked = Among rest linked ⊎ IsBare linked

behind_one : (port : PortNo) (rest : List PortNo) (linked : Linked) → port_key linked ≢ port.0 → LeftOrBare (port ∷ rest) linked → LeftOrBare rest linked
behind_one port rest linked other (inl among) = (let differs : nat_eq port.0 (port_key linked) ≡ false = grind (arith, nat_tests, other) in
    inl (sym (ap (λ (b : Bool). b || list_any (λ (p : PortNo). nat_eq p.0 (port_key linked)) rest) differs) ∙ among))
behind_one port rest linked other (inr bare) = inr bare

cuts_left : (rest : List PortNo) (a : Acted) (label : ℕ) (port : PortNo) (o : Option Linked) → linked_at a.controller port ≡ o → Every (LeftOrBare rest) a.controller.ports → Every (LeftOrBare rest) (cuts_of a label o).controller.ports
cuts_left rest a label port None found all = all
cuts_left rest a label port (Some linked) found all = put_every port_key (LeftOrBare rest) (record linked { chains = chains_with linked.chains label nothing_taken }) a.controller.ports
    (at_every port_key (LeftOrBare rest) port.0 a.controller.ports linked all found) all

closes_left : (rest : List PortNo) (port : PortNo) (a : Acted) (action : Action) → Every (LeftOrBare rest) a.controller.ports → Every (LeftOrBare rest) (closes_by port a action).controller.ports
closes_left rest port a (Say message) all = all
closes_left rest port a (Ask request needed) all = all
closes_left rest port a (Note item) all = all
closes_left rest port a (CutChain label) all = cuts_left rest a label port (linked_at a.controller port) refl all
closes_left rest port a (TakeBack input output) all = all
closes_left rest port a (Withdraw input) all = all
closes_left rest port a Reset all = all

actions_left : (rest : List PortNo) (port : PortNo) (actions : List Action) (a : Acted) → Every (LeftOrBare rest) a.controller.ports → Every (LeftOrBare rest) (fold (closes_by port) a actions).controller.ports
actions_left rest port [] a all = all
actions_left rest port (action ∷ actions) a all = actions_left rest port actions (closes_by port a action) (closes_left rest port a action all)

restarts_left : (port : PortNo) (rest : List PortNo) (a : Acted) (o : Option Linked) → InOrder HaveOwnNumbers a.controller.ports → linked_at a.controller port ≡ o → Every (LeftOrBare (port ∷ rest)) a.controller.ports
    → Every (LeftOrBare rest) (port_restarts_of a o).controller.ports
restarts_left port rest a None apart found all = both a.controller.ports (none_with port_key port.0 a.controller.ports found) all
  where
    both : (ports : List Linked) → Every (λ (x : Linked). port_key x ≢ port.0) ports → Every (LeftOrBare (port ∷ rest)) ports → Every (LeftOrBare rest) ports
    both [] others all = tt
    both (x ∷ ports) others all = (behind_one port rest x others.0 all.0, both ports others.1 all.1)
restarts_left port rest a (Some linked) apart found all =
    let w : Work = restarts linked.setup (begins a linked) in
    let key : port_key linked ≡ port.0 = at_key port_key port.0 a.controller.ports linked found in
    actions_left rest linked.setup.port w.actions (with_work a linked w)
    (put_each port_key (LeftOrBare (port ∷ rest)) (LeftOrBare rest) (record linked { port = w.port }) (inr (refl, refl))
    (λ x other. behind_one port rest x (λ e. other (e ∙ sym key))) a.controller.ports apart all)

all_left : (rest : List PortNo) (a : Acted) → FinePorts a.controller.ports → Every (LeftOrBare rest) a.controller.ports → Every IsBare (fold port_restarts a rest).controller.ports
all_left [] a f all = every_map (LeftOrBare []) IsBare a.controller.ports (λ x left. elim left [ inl among ↦ absurd (no_one among) | inr bare ↦ bare ]) all
  where
    no_one : false ≡ true → ⊥
    no_one e = absurd (cc e)
all_left (port ∷ rest) a f all = all_left rest (port_restarts a port) ((restart_leaves a port (linked_at a.controller port) refl).ports f)
    (restarts_left port rest a (linked_at a.controller port) f.apart refl all)

each_among : (ports : List Linked) → Every (λ (linked : Linked). Among (map (λ (x : Linked). x.setup.port) ports) linked) ports
each_among [] = tt
each_among (linked ∷ ports) = (here (port_key linked) (list_any (λ (p : PortNo). nat_eq p.0 (port_key linked)) (map (λ (x : Linked). x.setup.port) ports)), later ports (each_among ports))
  where
    here : (n : ℕ) (b : Bool) → (nat_eq n n || b) ≡ true
    here n b = (let same : nat_eq n n ≡ true = grind (arith, nat_tests) in ap (λ (t : Bool). t || b) same)

    more : (b c : Bool) → c ≡ true → (b || c) ≡ true
    more true c e = refl
    more false c e = e

    later : (ys : List Linked) → Every (λ (y : Linked). Among (map (λ (x : Linked). x.setup.port) ports) y) ys → Every (λ (y : Linked). Among (map (λ (x : Linked). x.setup.port) (linked ∷ ports)) y) ys
    later [] all = tt
    later (y ∷ ys) all = (more (nat_eq (port_key linked) (port_key y)) (list_any (λ (p : PortNo). nat_eq p.0 (port_key y)) (map (λ (x : Linked). x.setup.port) ports)) all.0, later ys all.1)

node_bare : (a : Acted) → FinePorts a.controller.ports → Every IsBare (node_resets a).controller.ports
node_bare a f = all_left (ports_of a.controller) (resets_gsmp a) f (every_map (Among (ports_of a.controller)) (LeftOrBare (ports_of a.controller)) a.controller.ports (λ x among. inl among) (each_among a.controller.ports))

-- and weighs nothing
bare_weight : (changes : ℕ) (linked : Linked) → IsBare linked → linked_weight changes linked ≡ 0
bare_weight changes linked bare =
    let labels : total_weight cost_of_label (labels_in linked.port.session) ≡ 0 = ap (λ (o : Option Session). total_weight cost_of_label (labels_in o)) bare.0 in
    let grants : total_weight (cost_of_grant changes) linked.port.grants ≡ 0 = ap (total_weight (cost_of_grant changes)) bare.1 in
    let spent : spent_cost linked.port.session ≡ 0 = ap spent_cost bare.0 in
    omega (arith, labels, grants, spent)

bare_total : (changes : ℕ) (ports : List Linked) → Every IsBare ports → total_weight (linked_weight changes) ports ≡ 0
bare_total changes [] all = refl
bare_total changes (x ∷ ports) all = omega (arith, bare_weight changes x all.0, bare_total changes ports all.1)

pub fine_ports : (a : Acted) → IsFine a → FinePorts a.controller.ports
fine_ports a f = record { apart = f.apart; links = f.links; few = f.few }

module _ (topology : Topology) (node : NodeId) (bound : Bound) (final : List Frame) (short : (mark : Mark) (payload : List ℕ) → payload_of final mark ≡ Some payload → length payload ≤ 1528) where
  pub node_cost : (a : Acted) → Weighs topology node bound final short 0 a (node_resets a)
  node_cost a = record {
    fine = λ f. (let p : FinePorts (node_resets a).controller.ports = left.ports (fine_ports a f) in record {
      unmade = subst (λ n. IsUnmade n (node_resets a).notes.frames) (sym left.controls) (subst (IsUnmade a.numbers.controls) (sym left.frames) f.unmade);
      apart = p.apart;
      links = p.links;
      few = p.few;
    });
    extends = λ f. subst (Extends a.notes.frames) (sym left.frames) (extends_self a.notes.frames);
    cost = λ f e. (let ports = bare_total (changes_left (node_resets a).controller) (node_resets a).controller.ports (node_bare a (fine_ports a f)) in
        let queue = ap (total_weight (down topology node bound final short)) left.queue in
        let desk = ap (λ (d : Desk). desk_weight d) left.desk in omega (arith, ports, queue, desk));
  }
    where
      left : Leaves (resets_gsmp a) (node_resets a)
      left = node_leaves a
