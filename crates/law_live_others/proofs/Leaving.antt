-- what leaves a port as its peer sees it, one after another

use Rattle.std.proofs.Common.{◌≡◌, List, [], ◌∷◌, Some, refl, sym, ◌∙◌, ap, subst, fold}
use Rattle.world_model.specs.Words.{PortNo, Party, Side, is_estab, at, put, Setup, Linked, linked_at, port_key}
use Rattle.world_model.specs.Controller.{Acted}
use Rattle.world_model.specs.port_model.Port.{Port}
use Rattle.law_port_facts.proofs.Keyed.{at_put_same, at_put_other, by_eq}
use Rattle.law_live_unseen.specs.Law.{AreAlike}
use Rattle.law_live_ports.proofs.Keeping.{alike_itself, alike_then}
use Rattle.law_live_others.specs.Law.{IsAlikeAt, LeavesAlike, IsUp}

-- *Of which port*, what is so of it, and what of all ports
pub record Terms : Type 1 where
  pub port : PortNo
  pub is : Port → Type 0
  pub has : List Linked → Type 0
  pub stays : (one next : Port) → AreAlike one next → is one → is next
  pub placed : (new : Linked) (ports : List Linked) → has ports → has (put port_key new ports)

-- nothing is said of the port
abbrev pub never : Terms → Terms
never t = record { port = t.port; is = λ p. ⊥; has = t.has; stays = λ one next alike none. none; placed = t.placed }

module _ (t : Terms) where
  -- *The port is left so*, where the node is up in the end
  pub record Leaves (a b : Acted) : Type 0 where
    pub address : b.controller.address ≡ a.controller.address
    pub up : IsUp b → IsUp a
    pub has : IsUp b → t.has a.controller.ports → t.has b.controller.ports
    pub left : IsUp b → t.has a.controller.ports → (linked : Linked) → linked_at a.controller t.port ≡ Some linked → t.is linked.port → IsAlikeAt linked (linked_at b.controller t.port)

  still_up : (a b : Acted) → b.controller.adjacency ≡ a.controller.adjacency → IsUp b → IsUp a
  still_up a b adjacency up = ap (λ (s : Side Party). is_estab s.state) (sym adjacency) ∙ up

  pub leaves_same : (a b : Acted) → b.controller.ports ≡ a.controller.ports → b.controller.adjacency ≡ a.controller.adjacency → b.controller.address ≡ a.controller.address → Leaves a b
  leaves_same a b ports adjacency address = record {
    address = address;
    up = still_up a b adjacency;
    has = λ up h. subst t.has (sym ports) h;
    left = λ up h linked found is. record { after = linked; there = ap (at port_key t.port.0) ports ∙ found; setup = refl; alike = alike_itself linked.port };
  }

  pub leaves_then : (a b c : Acted) → Leaves a b → Leaves b c → Leaves a c
  leaves_then a b c p q = record {
    address = q.address ∙ p.address;
    up = λ up. p.up (q.up up);
    has = λ up h. q.has up (p.has (q.up up) h);
    left = λ up h linked found is. further up h linked (p.left (q.up up) h linked found is) is;
  }
    where
      further : IsUp c → t.has a.controller.ports → (linked : Linked) → IsAlikeAt linked (linked_at b.controller t.port) → t.is linked.port → IsAlikeAt linked (linked_at c.controller t.port)
      further up h linked one is = record { after = last.after; there = last.there; setup = last.setup ∙ one.setup; alike = alike_then linked.port one.after.port last.after.port one.alike last.alike }
        where
          last : IsAlikeAt one.after (linked_at c.controller t.port)
          last = q.left up (p.has (q.up up) h) one.after one.there (t.stays linked.port one.after.port one.alike is)

  pub leaves_down : (a b : Acted) → b.controller.address ≡ a.controller.address → (IsUp b → ⊥) → Leaves a b
  leaves_down a b address down = record {
    address = address;
    up = λ up. absurd (down up);
    has = λ up h. absurd (down up);
    left = λ up h linked found is. absurd (down up);
  }

  pub leaves_fold : {X : Type 0} (f : Acted → X → Acted) → ((a : Acted) (x : X) → Leaves a (f a x)) → (xs : List X) (a : Acted) → Leaves a (fold f a xs)
  leaves_fold f each [] a = leaves_same a a refl refl refl
  leaves_fold f each (x ∷ xs) a = leaves_then a (f a x) (fold f (f a x) xs) (each a x) (leaves_fold f each xs (f a x))

  -- *A port is put* in its own place: another's, or one that is alike
  pub leaves_put : (a b : Acted) (old new : Linked) → at port_key (port_key old) a.controller.ports ≡ Some old → new.setup ≡ old.setup
      → (port_key old ≡ t.port.0 → t.is old.port → AreAlike old.port new.port)
      → b.controller.ports ≡ put port_key new a.controller.ports → b.controller.adjacency ≡ a.controller.adjacency → b.controller.address ≡ a.controller.address → Leaves a b
  leaves_put a b old new own setup alike ports adjacency address = record {
    address = address;
    up = still_up a b adjacency;
    has = λ up h. subst t.has (sym ports) (t.placed new a.controller.ports h);
    left = λ up h linked found is. subst (IsAlikeAt linked) (sym (ap (at port_key t.port.0) ports)) (each linked found is);
  }
    where
      key : port_key new ≡ port_key old
      key = ap (λ (s : Setup). s.port.0) setup

      here : at port_key (port_key old) (put port_key new a.controller.ports) ≡ Some new
      here = subst (λ k. at port_key k (put port_key new a.controller.ports) ≡ Some new) key
          (at_put_same port_key new a.controller.ports old (ap (λ k. at port_key k a.controller.ports) key ∙ own))

      one : (x y : Linked) → Some x ≡ Some y → x ≡ y
      one x y e = cc

      own_alike : (linked : Linked) → old ≡ linked → port_key old ≡ t.port.0 → t.is linked.port → IsAlikeAt linked (at port_key t.port.0 (put port_key new a.controller.ports))
      own_alike linked is_it same is = record {
        after = new;
        there = ap (λ k. at port_key k (put port_key new a.controller.ports)) (sym same) ∙ here;
        setup = setup ∙ ap (λ (l : Linked). l.setup) is_it;
        alike = subst (λ (l : Linked). AreAlike l.port new.port) is_it (alike same (subst (λ (l : Linked). t.is l.port) (sym is_it) is));
      }

      each : (linked : Linked) → linked_at a.controller t.port ≡ Some linked → t.is linked.port → IsAlikeAt linked (at port_key t.port.0 (put port_key new a.controller.ports))
      each linked found is = by_eq (port_key old) t.port.0
          (λ same tested. own_alike linked (one old linked (sym own ∙ (ap (λ k. at port_key k a.controller.ports) same ∙ found))) same is)
          (λ differs tested. record {
            after = linked;
            there = at_put_other port_key new t.port.0 a.controller.ports (λ e. differs (sym key ∙ e)) ∙ found;
            setup = refl;
            alike = alike_itself linked.port;
          })

-- *Where more is known* of the port, as it is and once the node is up in the end
pub under : (t : Terms) (a b : Acted) → Leaves (never t) a b
    → (IsUp b → (linked : Linked) → t.has a.controller.ports → linked_at a.controller t.port ≡ Some linked → t.is linked.port → Leaves t a b) → Leaves t a b
under t a b weak known = record {
  address = weak.address;
  up = weak.up;
  has = weak.has;
  left = λ up h linked found is. (known up linked h found is).left up h linked found is;
}

-- *In the end* it is so
pub to_alike : (t : Terms) (a b : Acted) → Leaves t a b → IsUp b → t.has a.controller.ports → ((linked : Linked) → linked_at a.controller t.port ≡ Some linked → t.is linked.port)
    → LeavesAlike t.port a b
to_alike t a b leaves up h is = record {
  left = λ linked found. leaves.left up h linked found (is linked found);
  address = leaves.address;
}
