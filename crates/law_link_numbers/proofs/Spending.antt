-- a controller does one thing after another: how many messages a port says in it, so long as the port isn't reset

use Rattle.std.proofs.Common.{◌≡◌, ℕ, suc, ◌≤◌, List, [], ◌∷◌, fold, length, Option, Some, refl, sym, ap, ◌∙◌, subst, arith}
use Rattle.std.specs.Prelude.{◌+◌}
use Rattle.world_model.specs.Words.{PortNo, Party, Peer, Side, is_estab, at, put, last_number, Setup, Action, Work, Linked, linked_at, port_key, begins, with_work, performs, performs_in_estab, Rule, works, at_port}
use Rattle.world_model.specs.Controller.{Acted}
use Rattle.law_port_facts.specs.ordered_lists.Ordered.{Every}
use Rattle.law_port_facts.proofs.Keyed.{on_both, at_key, at_put_same, at_put_other, by_eq}
use Rattle.law_live_links.specs.Law.{number_of}
use Rattle.law_live_others.specs.Law.{IsAlikeAt, IsUp}
use Rattle.law_live_others.proofs.Leaving.{never, Leaves}
use Rattle.law_live_others.proofs.Working.{IsAct, own_place, act_leaves, other_leaves}
use Rattle.law_live_others.proofs.Settling.{anyhow}
use Rattle.law_link_numbers.proofs.Room.{Room, fewer}

none_more : (n : ℕ) → n ≤ 0 + n
none_more n = omega arith

none_fewer : (n : ℕ) → 0 + n ≤ n
none_fewer n = omega arith

one_more : (n : ℕ) → suc n ≤ 1 + n
one_more n = omega arith

module _ (port : PortNo) (own : Peer) where
  -- *The port is there*, with this party, and has numbers for so many messages more
  pub record Found (k : ℕ) (o : Option Linked) : Type 0 where
    pub linked : Linked
    pub is : o ≡ Some linked
    pub own_party : linked.port.adjacency.own ≡ own
    pub room : number_of linked.port + k ≤ last_number

  abbrev pub At : ℕ → Acted → Type 0
  At k a = Found k (linked_at a.controller port)

  pub fewer_at : {m n : ℕ} (a : Acted) → n ≤ m → At m a → At n a
  fewer_at {m} {n} a low h = record { linked = h.linked; is = h.is; own_party = h.own_party; room = on (number_of h.linked.port) h.room }
    where
      on : (x : ℕ) → x + m ≤ last_number → x + n ≤ last_number
      on x room = omega (arith, low, room)

  -- *It says so many messages at most*, where the node is up in the end
  pub record Costs (c : ℕ) (a b : Acted) : Type 0 where
    pub up : IsUp b → IsUp a
    pub kept : IsUp b → (k : ℕ) → At (c + k) a → At k b

  pub costs_more : (c d : ℕ) (a b : Acted) → c ≤ d → Costs c a b → Costs d a b
  costs_more c d a b low h = record { up = h.up; kept = λ up k is. h.kept up k (fewer_at a (on k) is) }
    where
      on : (k : ℕ) → c + k ≤ d + k
      on k = omega (arith, low)

  pub costs_then : (c d : ℕ) (a b e : Acted) → Costs c a b → Costs d b e → Costs (c + d) a e
  costs_then c d a b e p q = record { up = λ up. p.up (q.up up); kept = λ up k is. q.kept up k (p.kept (q.up up) (d + k) (fewer_at a (on k) is)) }
    where
      on : (k : ℕ) → c + (d + k) ≤ c + d + k
      on k = omega arith

  -- where it says none before, or none behind
  pub costs_behind : (d : ℕ) (a b e : Acted) → Costs 0 a b → Costs d b e → Costs d a e
  costs_behind d a b e p q = costs_more (0 + d) d a e (none_fewer d) (costs_then 0 d a b e p q)

  pub costs_before : (c : ℕ) (a b e : Acted) → Costs c a b → Costs 0 b e → Costs c a e
  costs_before c a b e p q = costs_more (c + 0) c a e (low c) (costs_then c 0 a b e p q)
    where
      low : (n : ℕ) → n + 0 ≤ n
      low n = omega arith

  pub costs_alike : (a b : Acted) → Leaves (anyhow port) a b → Costs 0 a b
  costs_alike a b l = record { up = l.up; kept = on }
    where
      on : IsUp b → (k : ℕ) → At (0 + k) a → At k b
      on up k h =
          let g : At k a = fewer_at a (none_more k) h in
          let like : IsAlikeAt g.linked (linked_at b.controller port) = l.left up tt g.linked g.is tt in
          record {
            linked = like.after;
            is = like.there;
            own_party = ap (λ (s : Side Peer). s.own) like.alike.adjacency ∙ g.own_party;
            room = subst (λ (n : ℕ). n + k ≤ last_number) (sym like.alike.number) g.room;
          }

  pub costs_same : (a b : Acted) → b.controller.ports ≡ a.controller.ports → b.controller.adjacency ≡ a.controller.adjacency → Costs 0 a b
  costs_same a b ports adjacency = record {
    up = λ up. ap (λ (s : Side Party). is_estab s.state) (sym adjacency) ∙ up;
    kept = λ up k h. (let g : At k a = fewer_at a (none_more k) h in record { linked = g.linked; is = ap (at port_key port.0) ports ∙ g.is; own_party = g.own_party; room = g.room });
  }

  pub costs_none : (a : Acted) → Costs 0 a a
  costs_none a = costs_same a a refl refl

  pub costs_fold : {X : Type 0} (f : Acted → X → Acted) → ((a : Acted) (x : X) → Costs 0 a (f a x)) → (xs : List X) (a : Acted) → Costs 0 a (fold f a xs)
  costs_fold f each [] a = costs_none a
  costs_fold f each (x ∷ xs) a = costs_behind 0 a (f a x) (fold f (f a x) xs) (each a x) (costs_fold f each xs (f a x))

  pub costs_each : {X : Type 0} (f : Acted → X → Acted) → ((a : Acted) (x : X) → Costs 1 a (f a x)) → (xs : List X) (a : Acted) → Costs (length xs) a (fold f a xs)
  costs_each f each [] a = costs_none a
  costs_each f each (x ∷ xs) a = costs_more (1 + length xs) (suc (length xs)) a (fold f (f a x) xs) (same (length xs))
      (costs_then 1 (length xs) a (f a x) (fold f (f a x) xs) (each a x) (costs_each f each xs (f a x)))
    where
      same : (n : ℕ) → 1 + n ≤ suc n
      same n = omega arith

  -- *A port is put* in its own place, with the party and the number that it had
  pub costs_put : (a b : Acted) (old new : Linked) → at port_key (port_key old) a.controller.ports ≡ Some old → new.setup ≡ old.setup
      → new.port.adjacency.own ≡ old.port.adjacency.own → number_of new.port ≡ number_of old.port
      → b.controller.ports ≡ put port_key new a.controller.ports → b.controller.adjacency ≡ a.controller.adjacency → Costs 0 a b
  costs_put a b old new there setup party number ports adjacency = record {
    up = λ up. ap (λ (s : Side Party). is_estab s.state) (sym adjacency) ∙ up;
    kept = λ up k h. subst (λ (o : Option Linked). Found k o) (sym (ap (at port_key port.0) ports)) (found k (fewer_at a (none_more k) h));
  }
    where
      key : port_key new ≡ port_key old
      key = ap (λ (s : Setup). s.port.0) setup

      here : at port_key (port_key old) (put port_key new a.controller.ports) ≡ Some new
      here = subst (λ k. at port_key k (put port_key new a.controller.ports) ≡ Some new) key
          (at_put_same port_key new a.controller.ports old (ap (λ k. at port_key k a.controller.ports) key ∙ there))

      one : (x y : Linked) → Some x ≡ Some y → x ≡ y
      one x y e = cc

      found : (k : ℕ) → At k a → Found k (at port_key port.0 (put port_key new a.controller.ports))
      found k h = by_eq (port_key old) port.0
          (λ e t. (let is_it : old ≡ h.linked = one old h.linked (sym there ∙ (ap (λ n. at port_key n a.controller.ports) e ∙ h.is)) in record {
            linked = new;
            is = ap (λ n. at port_key n (put port_key new a.controller.ports)) (sym e) ∙ here;
            own_party = party ∙ (ap (λ (l : Linked). l.port.adjacency.own) is_it ∙ h.own_party);
            room = subst (λ (n : ℕ). n + k ≤ last_number) (sym (number ∙ ap (λ (l : Linked). number_of l.port) is_it)) h.room;
          }))
          (λ differs t. record {
            linked = h.linked;
            is = at_put_other port_key new port.0 a.controller.ports (λ e. differs (sym key ∙ e)) ∙ h.is;
            own_party = h.own_party;
            room = h.room;
          })

  -- *Any act* of a port but its reset
  acts_cost : (q : PortNo) (asked : List Action) → Every IsAct asked → (a : Acted) → Costs 0 a (fold (performs_in_estab q) a asked)
  acts_cost q [] are a = costs_none a
  acts_cost q (action ∷ asked) are a = costs_behind 0 a (performs_in_estab q a action) (fold (performs_in_estab q) (performs_in_estab q a action) asked)
      (on_both (Costs 0 a) (is_estab a.controller.adjacency.state) (performs q a action) a (costs_alike a (performs q a action) (act_leaves (anyhow port) q a action are.0)) (costs_none a))
      (acts_cost q asked are.1 (performs_in_estab q a action))

  -- *A rule* of any port, of which one of the port itself says so many messages at most
  abbrev pub SaysFew : (c : ℕ) (a : Acted) → Rule → Type 0
  SaysFew c a rule = (linked : Linked) → linked_at a.controller port ≡ Some linked → (k : ℕ) → Room own (c + k) (begins a linked)
      → Room own k (rule linked.setup a.controller.desk (begins a linked))

  pub rule_costs : (c : ℕ) (a : Acted) (q : PortNo) (rule : Rule) → SaysFew c a rule → Costs c a (at_port a q rule)
  rule_costs c a q rule few = by_eq q.0 port.0 (λ e t. ours e)
      (λ differs t. costs_more 0 c a (at_port a q rule) (low c) (costs_alike a (at_port a q rule) (other_leaves (anyhow port) a q rule (λ same x is. differs same))))
    where
      low : (n : ℕ) → 0 ≤ n
      low n = omega arith

      ours : q.0 ≡ port.0 → Costs c a (at_port a q rule)
      ours e = record { up = (other_leaves (never (anyhow port)) a q rule (λ same x none. none)).up; kept = kept }
        where
          kept : IsUp (at_port a q rule) → (k : ℕ) → At (c + k) a → At k (at_port a q rule)
          kept up k h = subst (λ (b : Acted). At k b) (sym (ap (works a rule) found)) ((acts_cost h.linked.setup.port w.actions worked.acts put_back).kept (subst IsUp (ap (works a rule) found) up) k (fewer_at put_back (none_fewer k) there))
            where
              found : linked_at a.controller q ≡ Some h.linked
              found = ap (λ n. at port_key n a.controller.ports) e ∙ h.is

              w : Work
              w = rule h.linked.setup a.controller.desk (begins a h.linked)

              put_back : Acted
              put_back = with_work a h.linked w

              worked : Room own k w
              worked = few h.linked h.is k (record { live = refl; own_party = h.own_party; room = h.room; acts = tt })

              key : port_key h.linked ≡ port.0
              key = at_key port_key port.0 a.controller.ports h.linked h.is

              there : At k put_back
              there = record {
                linked = record h.linked { port = w.port };
                is = ap (λ n. at port_key n put_back.controller.ports) (sym key) ∙ at_put_same port_key (record h.linked { port = w.port }) a.controller.ports h.linked (own_place a port h.linked h.is);
                own_party = worked.own_party;
                room = worked.room;
              }

  -- one that says none, and one that says one at most
  pub rule_none : (a : Acted) (q : PortNo) (rule : Rule)
      → ((linked : Linked) → linked_at a.controller port ≡ Some linked → (k : ℕ) → Room own k (begins a linked) → Room own k (rule linked.setup a.controller.desk (begins a linked)))
      → Costs 0 a (at_port a q rule)
  rule_none a q rule few = rule_costs 0 a q rule (λ l is k room. few l is k (fewer own (begins a l) (none_more k) room))

  pub rule_one : (a : Acted) (q : PortNo) (rule : Rule)
      → ((linked : Linked) → linked_at a.controller port ≡ Some linked → (k : ℕ) → Room own (suc k) (begins a linked) → Room own k (rule linked.setup a.controller.desk (begins a linked)))
      → Costs 1 a (at_port a q rule)
  rule_one a q rule few = rule_costs 1 a q rule (λ l is k room. few l is k (fewer own (begins a l) (one_more k) room))
