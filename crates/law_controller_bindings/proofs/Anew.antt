-- a port whose session ends has its chains cut, and after a node reset no port has labels, grants or chains

use Rattle.std.proofs.Common.{◌≡◌, ◌≢◌, ℕ, Bool, true, false, List, [], ◌∷◌, Option, None, Some, refl, sym, ◌∙◌, ap, subst, arith, if◌then◌else◌, map, fold, inl, inr}
use Rattle.std.specs.Prelude.{◌⊎◌, nat_eq, ◌||◌}
use Rattle.std.specs.Option.{option_map_or}
use Rattle.std.specs.List.{list_any}
use Rattle.std.proofs.lemmas.Bool.Decides.{nat_tests}
use Rattle.law_controller.specs.world_model.Words.{NodeId, PortNo, Record, Closed, noted, at, put, without, CutChain, Setup, Label, label_number, Session, Work, labels_of, closing, restarts, Linked, LabelChain, port_key, chain_key, linked_at, chain_of, begins, with_work, cuts_of, closes_by, port_restarts_of, port_restarts, resets_gsmp, node_resets}
use Rattle.law_controller.specs.ordered_lists.Ordered.{Every, InOrder}
use Rattle.law_controller.proofs.ordered_lists.Every.{every_map}
use Rattle.law_controller.proofs.law_port_facts.Keyed.{by_eq, at_key, at_every, at_put_same, put_every, put_order}
use Rattle.law_controller.specs.world_model.Controller.{Acted, ports_of}
use Rattle.law_controller.proofs.law_controller_facts.Unmet.{put_each, none_with}
use Rattle.law_controller.proofs.Lists.{any_at}
use Rattle.law_controller_bindings.proofs.Lasts.{some_same, Grows, stays_so, grows_then, grows_where, noted_grows, cut_grows}

-- *Lists by keys*
pub put_put : {A : Type 0} (key : A → ℕ) (x y : A) (xs : List A) → key y ≡ key x → put key y (put key x xs) ≡ put key y xs
put_put key x y [] same = refl
put_put key x y (z ∷ xs) same = by_eq (key z) (key x)
    (λ is t. (let now : nat_eq (key x) (key y) ≡ true = grind (arith, nat_tests, same) in let was : nat_eq (key z) (key y) ≡ true = grind (arith, nat_tests, same, is) in
    ap (λ (b : Bool). put key y (if b then x ∷ xs else z ∷ put key x xs)) t ∙ ap (λ (b : Bool). if b then y ∷ xs else x ∷ put key y xs) now ∙ sym (ap (λ (b : Bool). if b then y ∷ xs else z ∷ put key y xs) was)))
    (λ other t. (let was : nat_eq (key z) (key y) ≡ false = grind (arith, nat_tests, same, other) in
    ap (λ (b : Bool). put key y (if b then x ∷ xs else z ∷ put key x xs)) t ∙ ap (λ (b : Bool). if b then y ∷ put key x xs else z ∷ put key y (put key x xs)) was
    ∙ ap (λ zs. z ∷ zs) (put_put key x y xs same) ∙ sym (ap (λ (b : Bool). if b then y ∷ xs else z ∷ put key y xs) was)))

pub put_found : {A : Type 0} (key : A → ℕ) (x : A) (xs : List A) → at key (key x) xs ≡ Some x → put key x xs ≡ xs
put_found key x [] found = refl
put_found key x (z ∷ xs) found = by_eq (key z) (key x)
    (λ is t. (let same : z ≡ x = some_same z x (sym (ap (λ (b : Bool). if b then Some z else at key (key x) xs) t) ∙ found) in
    ap (λ (b : Bool). if b then x ∷ xs else z ∷ put key x xs) t ∙ ap (λ y. y ∷ xs) (sym same)))
    (λ other t. ap (λ (b : Bool). if b then x ∷ xs else z ∷ put key x xs) t ∙ ap (λ zs. z ∷ zs) (put_found key x xs (sym (ap (λ (b : Bool). if b then Some z else at key (key x) xs) t) ∙ found)))

-- of those that are left each has another key
pub without_each : {A : Type 0} (key : A → ℕ) (P Q : A → Type 0) (k : ℕ) (xs : List A) → ((x : A) → key x ≢ k → P x → Q x) → Every P xs → Every Q (without key k xs)
without_each key P Q k [] each h = tt
without_each key P Q k (x ∷ xs) each h = by_eq (key x) k
    (λ is t. subst (λ (b : Bool). Every Q (if b then without key k xs else x ∷ without key k xs)) (sym t) (without_each key P Q k xs each h.1))
    (λ other t. subst (λ (b : Bool). Every Q (if b then without key k xs else x ∷ without key k xs)) (sym t) (each x other h.0, without_each key P Q k xs each h.1))

-- *Chains of labels that are held*
abbrev IsNumbered : List Label → LabelChain → Type 0
IsNumbered labels chain = list_any (λ (label : Label). nat_eq (label_number label) (chain_key chain)) labels ≡ true

pub record IsHeldIn (labels : List Label) (chain : LabelChain) : Type 0 where
  pub label : Label
  pub found : at label_number chain.label labels ≡ Some label

abbrev pub HoldsChains : Linked → Type 0
HoldsChains linked = Every (IsHeldIn (labels_of linked.port)) linked.chains

-- the chains once those of these labels are cut
abbrev pub all_cut : List Label → List LabelChain → List LabelChain
all_cut [] chains = chains
all_cut (label ∷ labels) chains = all_cut labels (without chain_key label.number chains)

cut_none : (labels : List Label) (chains : List LabelChain) → Every (IsNumbered labels) chains → all_cut labels chains ≡ []
cut_none [] [] h = refl
cut_none [] (chain ∷ chains) h = absurd (cc h.0)
cut_none (label ∷ labels) chains h = cut_none labels (without chain_key label.number chains)
    (without_each chain_key (IsNumbered (label ∷ labels)) (IsNumbered labels) label.number chains (λ chain other was. behind (nat_eq label.number chain.label) (grind (arith, nat_tests, other)) was) h)
  where
    behind : (b : Bool) {c : Bool} → b ≡ false → (b || c) ≡ true → c ≡ true
    behind true e f = absurd (cc e)
    behind false e f = f

pub held_cut : (labels : List Label) (chains : List LabelChain) → Every (IsHeldIn labels) chains → all_cut labels chains ≡ []
held_cut labels chains h = cut_none labels chains (every_map (IsHeldIn labels) (IsNumbered labels) chains
    (λ chain is. any_at (λ (label : Label). nat_eq (label_number label) (chain_key chain)) label_number chain.label labels is.label is.found
    (let same : label_number is.label ≡ chain.label = at_key label_number chain.label labels is.label is.found in grind (arith, nat_tests, same))) h)

-- *A node*: a controller of it, and all its ports
pub record IsAt (node named : NodeId) (ports : List Linked) : Type 0 where
  pub own : named ≡ node
  pub each : Every (λ (x : Linked). x.setup.node ≡ node) ports

abbrev pub Here : Acted → NodeId → Type 0
Here a = λ (node : NodeId). IsAt node a.controller.node a.controller.ports

-- *What ends with a session*: the chains of one port are cut, and all else stays
pub record IsClosed (named : NodeId) (q : PortNo) (after : Linked) (labels : List Label) (a b : Acted) : Type 0 where
  pub ports : b.controller.ports ≡ put port_key (record after { chains = all_cut labels after.chains }) a.controller.ports
  pub table : b.controller.table ≡ a.controller.table
  pub adjacency : b.controller.adjacency ≡ a.controller.adjacency
  pub node : b.controller.node ≡ a.controller.node
  pub grows : Grows (λ (node : NodeId). named ≡ node) a.notes.records b.notes.records

cuts_of_closes : (named : NodeId) (q : PortNo) (labels : List Label) (a : Acted) (after : Linked) → linked_at a.controller q ≡ Some after
    → IsClosed named q after labels a (fold (closes_by q) a (map (λ (label : Label). CutChain label.number) labels))
cuts_of_closes named q [] a after found = record {
  ports = sym (put_found port_key after a.controller.ports (subst (λ k. at port_key k a.controller.ports ≡ Some after) (sym (at_key port_key q.0 a.controller.ports after found)) found));
  table = refl;
  adjacency = refl;
  node = refl;
  grows = stays_so a.notes.records;
}
cuts_of_closes named q (label ∷ labels) a after found =
    let key : port_key after ≡ q.0 = at_key port_key q.0 a.controller.ports after found in
    let own : at port_key (port_key after) a.controller.ports ≡ Some after = subst (λ k. at port_key k a.controller.ports ≡ Some after) (sym key) found in
    let next : Linked = record after { chains = without chain_key label.number after.chains } in
    let b : Acted = cuts_of a label.number (Some after) in
    let rest : IsClosed named q next labels b (fold (closes_by q) b (map (λ (label : Label). CutChain label.number) labels)) = cuts_of_closes named q labels b next (subst (λ k. at port_key k b.controller.ports ≡ Some next) key (at_put_same port_key next a.controller.ports after own)) in
    let all : IsClosed named q after (label ∷ labels) a (fold (closes_by q) b (map (λ (label : Label). CutChain label.number) labels)) = record {
      ports = rest.ports ∙ put_put port_key next (record next { chains = all_cut labels next.chains }) a.controller.ports refl;
      table = rest.table;
      adjacency = rest.adjacency;
      node = rest.node;
      grows = grows_then a.notes.records b.notes.records (fold (closes_by q) b (map (λ (label : Label). CutChain label.number) labels)).notes.records (cut_grows a.notes (chain_of after.chains label.number)) rest.grows;
    } in
    subst (λ (o : Option Linked). IsClosed named q after (label ∷ labels) a (fold (closes_by q) (cuts_of a label.number o) (map (λ (label : Label). CutChain label.number) labels))) (sym found) all

pub closes_chains : (setup : Setup) (o : Option Session) (a : Acted) (after : Linked) → linked_at a.controller setup.port ≡ Some after
    → IsClosed setup.node setup.port after (option_map_or (λ (s : Session). s.labels) o []) a (fold (closes_by setup.port) a (closing setup o))
closes_chains setup None a after found = cuts_of_closes setup.node setup.port [] a after found
closes_chains setup (Some s) a after found =
    let item = Closed setup.node setup.port in
    let b : Acted = record a { notes = noted a.notes item } in
    let all : IsClosed setup.node setup.port after s.labels b (fold (closes_by setup.port) b (map (λ (label : Label). CutChain label.number) s.labels)) = cuts_of_closes setup.node setup.port s.labels b after found in
    record {
      ports = all.ports;
      table = all.table;
      adjacency = all.adjacency;
      node = all.node;
      grows = grows_then a.notes.records b.notes.records (fold (closes_by setup.port) b (map (λ (label : Label). CutChain label.number) s.labels)).notes.records (noted_grows a.notes item (λ end label. refl) (λ node own. own)) all.grows;
    }

-- *A port that begins anew*
pub record IsNew (linked : Linked) : Type 0 where
  pub labels : labels_of linked.port ≡ []
  pub grants : linked.port.grants ≡ []
  pub chains : linked.chains ≡ []

abbrev pub Apart : Linked → Linked → Type 0
Apart x y = port_key x ≢ port_key y

-- ports of different numbers, whose chains are of labels that are held
pub record Fit (ports : List Linked) : Type 0 where
  pub apart : InOrder Apart ports
  pub held : Every HoldsChains ports

pub record IsAnew (ports : List Linked) : Type 0 where
  pub apart : InOrder Apart ports
  pub each : Every IsNew ports

-- a restart of a port
record IsRestarted (a : Acted) (new : Linked) (b : Acted) : Type 0 where
  ports : b.controller.ports ≡ put port_key new a.controller.ports
  node : b.controller.node ≡ a.controller.node
  grows : Grows (λ (node : NodeId). new.setup.node ≡ node) a.notes.records b.notes.records

restarted : (a : Acted) (linked : Linked) → linked_at a.controller linked.setup.port ≡ Some linked → HoldsChains linked
    → IsRestarted a (record linked { port = (restarts linked.setup (begins a linked)).port; chains = [] }) (port_restarts_of a (Some linked))
restarted a linked found held =
    let w : Work = restarts linked.setup (begins a linked) in
    let after : Linked = record linked { port = w.port } in
    let closed = closes_chains linked.setup linked.port.session (with_work a linked w) after (at_put_same port_key after a.controller.ports linked found) in
    record {
      ports = closed.ports ∙ put_put port_key after (record after { chains = all_cut (labels_of linked.port) linked.chains }) a.controller.ports refl
          ∙ ap (λ (cs : List LabelChain). put port_key (record after { chains = cs }) a.controller.ports) (held_cut (labels_of linked.port) linked.chains held);
      node = closed.node;
      grows = closed.grows;
    }

-- *A node reset*: each port is still to be reset, or is new
abbrev Among : List PortNo → Linked → Type 0
Among rest linked = list_any (λ (port : PortNo). nat_eq port.0 (port_key linked)) rest ≡ true

abbrev LeftOrNew : List PortNo → Linked → Type 0
LeftOrNew rest linked = (Among rest linked × HoldsChains linked) ⊎ IsNew linked

behind_one : (port : PortNo) (rest : List PortNo) (linked : Linked) → port_key linked ≢ port.0 → LeftOrNew (port ∷ rest) linked → LeftOrNew rest linked
behind_one port rest linked other (inl left) = (let differs : nat_eq port.0 (port_key linked) ≡ false = grind (arith, nat_tests, other) in
    inl (sym (ap (λ (b : Bool). b || list_any (λ (p : PortNo). nat_eq p.0 (port_key linked)) rest) differs) ∙ left.0, left.1))
behind_one port rest linked other (inr new) = inr new

new_holds : (linked : Linked) → IsNew linked → HoldsChains linked
new_holds linked new = subst (Every (IsHeldIn (labels_of linked.port))) (sym new.chains) tt

left_holds : (rest : List PortNo) (linked : Linked) → LeftOrNew rest linked → HoldsChains linked
left_holds rest linked (inl left) = left.1
left_holds rest linked (inr new) = new_holds linked new

record Left (At : NodeId → Type 0) (start : List Record) (rest : List PortNo) (a : Acted) : Type 0 where
  grows : Grows At start a.notes.records
  stays : (node : NodeId) → At node → IsAt node a.controller.node a.controller.ports
  apart : InOrder Apart a.controller.ports
  each : Every (LeftOrNew rest) a.controller.ports

one_left : (At : NodeId → Type 0) (start : List Record) (port : PortNo) (rest : List PortNo) (a : Acted) → Left At start (port ∷ rest) a → Left At start rest (port_restarts a port)
one_left At start port rest a h = by_found (linked_at a.controller port) refl
  where
    both : (ports : List Linked) → Every (λ (x : Linked). port_key x ≢ port.0) ports → Every (LeftOrNew (port ∷ rest)) ports → Every (LeftOrNew rest) ports
    both [] others all = tt
    both (x ∷ ports) others all = (behind_one port rest x others.0 all.0, both ports others.1 all.1)

    by_found : (o : Option Linked) → linked_at a.controller port ≡ o → Left At start rest (port_restarts_of a o)
    by_found None found = record { grows = h.grows; stays = h.stays; apart = h.apart; each = both a.controller.ports (none_with port_key port.0 a.controller.ports found) h.each }
    by_found (Some linked) found =
        let key : port_key linked ≡ port.0 = at_key port_key port.0 a.controller.ports linked found in
        let own : linked_at a.controller linked.setup.port ≡ Some linked = subst (λ k. at port_key k a.controller.ports ≡ Some linked) (sym key) found in
        let new : Linked = record linked { port = (restarts linked.setup (begins a linked)).port; chains = [] } in
        let is : IsRestarted a new (port_restarts_of a (Some linked)) = restarted a linked own (left_holds (port ∷ rest) linked (at_every port_key (LeftOrNew (port ∷ rest)) port.0 a.controller.ports linked h.each found)) in
        let here : (node : NodeId) → At node → linked.setup.node ≡ node = λ node at_node. at_every port_key (λ (x : Linked). x.setup.node ≡ node) port.0 a.controller.ports linked (h.stays node at_node).each found in
        record {
          grows = grows_then start a.notes.records (port_restarts_of a (Some linked)).notes.records h.grows (grows_where a.notes.records (port_restarts_of a (Some linked)).notes.records here is.grows);
          stays = λ node at_node. record {
            own = is.node ∙ (h.stays node at_node).own;
            each = subst (Every (λ (x : Linked). x.setup.node ≡ node)) (sym is.ports) (put_every port_key (λ (x : Linked). x.setup.node ≡ node) new a.controller.ports (here node at_node) (h.stays node at_node).each);
          };
          apart = subst (InOrder Apart) (sym is.ports) (put_order port_key (λ m n. m ≢ n) new a.controller.ports h.apart);
          each = subst (Every (LeftOrNew rest)) (sym is.ports) (put_each port_key (LeftOrNew (port ∷ rest)) (LeftOrNew rest) new (inr (record { labels = refl; grants = refl; chains = refl }))
              (λ x other. behind_one port rest x (λ e. other (e ∙ sym key))) a.controller.ports h.apart h.each);
        }

all_left : (At : NodeId → Type 0) (start : List Record) (rest : List PortNo) (a : Acted) → Left At start rest a → Left At start [] (fold port_restarts a rest)
all_left At start [] a h = h
all_left At start (port ∷ rest) a h = all_left At start rest (port_restarts a port) (one_left At start port rest a h)

-- each is among them
each_among : (ports : List Linked) → Every HoldsChains ports → Every (LeftOrNew (map (λ (x : Linked). x.setup.port) ports)) ports
each_among [] h = tt
each_among (linked ∷ ports) h = (inl (here (port_key linked) (list_any (λ (p : PortNo). nat_eq p.0 (port_key linked)) (map (λ (x : Linked). x.setup.port) ports)), h.0), later ports (each_among ports h.1))
  where
    here : (n : ℕ) (b : Bool) → (nat_eq n n || b) ≡ true
    here n b = (let same : nat_eq n n ≡ true = grind (arith, nat_tests) in ap (λ (t : Bool). t || b) same)

    more : (b c : Bool) → c ≡ true → (b || c) ≡ true
    more true c e = refl
    more false c e = e

    later : (ys : List Linked) → Every (LeftOrNew (map (λ (x : Linked). x.setup.port) ports)) ys → Every (LeftOrNew (map (λ (x : Linked). x.setup.port) (linked ∷ ports))) ys
    later [] all = tt
    later (y ∷ ys) all = (elim all.0 [ inl left ↦ inl (more (nat_eq (port_key linked) (port_key y)) (list_any (λ (p : PortNo). nat_eq p.0 (port_key y)) (map (λ (x : Linked). x.setup.port) ports)) left.0, left.1) | inr new ↦ inr new ], later ys all.1)

node_left : (a : Acted) → Fit a.controller.ports → Left (Here a) a.notes.records [] (node_resets a)
node_left a fit = all_left (Here a) a.notes.records (ports_of a.controller) (resets_gsmp a) (record { grows = stays_so a.notes.records; stays = λ node here. here; apart = fit.apart; each = each_among a.controller.ports fit.held })

pub node_grows : (a : Acted) → Fit a.controller.ports → Grows (Here a) a.notes.records (node_resets a).notes.records
node_grows a fit = (node_left a fit).grows

pub node_stays : (a : Acted) → Fit a.controller.ports → (node : NodeId) → Here a node → Here (node_resets a) node
node_stays a fit = (node_left a fit).stays

pub node_anew : (a : Acted) → Fit a.controller.ports → IsAnew (node_resets a).controller.ports
node_anew a fit =
    let all : Left (Here a) a.notes.records [] (node_resets a) = node_left a fit in
    record { apart = all.apart; each = every_map (LeftOrNew []) IsNew (node_resets a).controller.ports (λ x left. elim left [ inl among ↦ absurd (no_one among.0) | inr new ↦ new ]) all.each }
  where
    no_one : false ≡ true → ⊥
    no_one e = absurd (cc e)
