-- a controller does one thing after another: what becomes of the side of one of its ports, and which messages it sends on that port's
-- default channel, where the node is up in the end

use Rattle.std.proofs.Common.{◌≡◌, ◌≢◌, ℕ, ◌+◌, ◌*◌, ◌≤◌, ◌<◌, ◌&&◌, Bool, true, false, List, [], ◌∷◌, ◌++◌, map, Option, Some, refl, sym, ◌∙◌, ap, subst, arith, fold}
use Rattle.world_model.specs.Words.{PortNo, Channel, Clearing, Peer, Side, Party, fresh, is_estab, at, put, same_channel, default_channel, default_home, Setup, Linked, linked_at, port_key}
use Rattle.world_model.specs.ifmp_wire.declared.message.Message.{Message}
use Rattle.world_model.specs.Controller.{Acted, ports_of}
use Rattle.world_model.proofs.Lists.{by_eq}
use Rattle.law_live_waking_links.specs.law_port_facts.ordered_lists.Ordered.{Every}
use Rattle.law_live_waking_links.proofs.law_port_facts.ordered_lists.Every.{every_join}
use Rattle.law_live_waking_links.proofs.law_port_facts.Keyed.{at_key, at_put_same, at_put_other, map_put}
use Rattle.law_live_sending.proofs.Going.{Goes, goes_same, goes_then}
use Rattle.law_live_tables.proofs.Plain.{IsOther}

-- *A side is as it was*, or began anew under an instance that was drawn since
pub data Change (given : ℕ) (side : Side Peer) : Side Peer → Type 0 where
  same : Change given side side
  anew : (own : Peer) → given < own.instance.0 → Change given side (fresh Clearing own)

pub change_then : (m n : ℕ) (s t u : Side Peer) → m ≤ n → Change m s t → Change n t u → Change m s u
change_then m n s t _ low c same = c
change_then m n s t _ low c (anew own more) = anew own (omega (arith, low, more))

-- *A relation of sides*, by the instances that were given out before
abbrev pub Turning : Type 1
Turning = (given : ℕ) → Side Peer → Side Peer → Type 0

pub record LeftBy (R : Side Peer → Side Peer → Type 0) (linked : Linked) (o : Option Linked) : Type 0 where
  pub now : Linked
  pub is : o ≡ Some now
  pub setup : now.setup ≡ linked.setup
  pub side : R linked.port.adjacency now.port.adjacency

abbrev pub IsUp : Acted → Type 0
IsUp a = is_estab a.controller.adjacency.state ≡ true

still_up : (a b : Acted) → b.controller.adjacency ≡ a.controller.adjacency → IsUp b → IsUp a
still_up a b adjacency up = ap (λ (s : Side Party). is_estab s.state) (sym adjacency) ∙ up

least : (m n : ℕ) → n ≡ m → m ≤ n
least m n e = omega (arith, e)

module _ (port : PortNo) (some : 1 ≤ port.0) where
  abbrev pub home : Channel
  home = (default_home port).channel

  -- *Other channels*
  pub gsmp_apart : same_channel default_channel (default_home port).channel ≡ false
  gsmp_apart = by_eq 0 home.vpi (λ e t. absurd (omega (arith, some, e))) (λ differs t. ap (λ (b : Bool). b && true) t)

  pub other_apart : (other : PortNo) → other.0 ≢ port.0 → same_channel (default_home other).channel (default_home port).channel ≡ false
  other_apart other apart = by_eq (default_home other).channel.vpi home.vpi (λ e t. absurd (apart (less other.0 port.0 e))) (λ differs t. ap (λ (b : Bool). b && true) t)
    where
      less : (m n : ℕ) → 16 * m + 0 ≡ 16 * n + 0 → m ≡ n
      less m n e = omega (arith, e)

  -- *All that is done*, with these messages
  pub record Does (R : Turning) (a b : Acted) (messages : List Message) : Type 0 where
    pub goes : IsUp b → Goes (default_home port).channel a b messages
    pub up : IsUp b → IsUp a
    pub given : IsUp b → a.numbers.instances ≤ b.numbers.instances
    pub ports : ports_of b.controller ≡ ports_of a.controller
    pub left : IsUp b → (linked : Linked) → linked_at a.controller port ≡ Some linked → LeftBy (R a.numbers.instances) linked (linked_at b.controller port)

  pub does_then : (R S T : Turning) → ((m n : ℕ) (s t u : Side Peer) → m ≤ n → R m s t → S n t u → T m s u)
      → (a b c : Acted) (ms ns : List Message) → Does R a b ms → Does S b c ns → Does T a c (ms ++ ns)
  does_then R S T both a b c ms ns p q = record {
    goes = λ up. goes_then home a b c ms ns (p.goes (q.up up)) (q.goes up);
    up = λ up. p.up (q.up up);
    given = λ up. on a.numbers.instances b.numbers.instances c.numbers.instances (p.given (q.up up)) (q.given up);
    ports = q.ports ∙ p.ports;
    left = λ up linked found.
        let one : LeftBy (R a.numbers.instances) linked (linked_at b.controller port) = p.left (q.up up) linked found in
        let two : LeftBy (S b.numbers.instances) one.now (linked_at c.controller port) = q.left up one.now one.is in
        record {
          now = two.now;
          is = two.is;
          setup = two.setup ∙ one.setup;
          side = both a.numbers.instances b.numbers.instances linked.port.adjacency one.now.port.adjacency two.now.port.adjacency (p.given (q.up up)) one.side two.side;
        };
  }
    where
      on : (k m n : ℕ) → k ≤ m → m ≤ n → k ≤ n
      on k m n low more = omega (arith, low, more)

  -- *The port is left so*: its side is as it was, or began anew, and it says no greeting
  pub record Leaves (a b : Acted) : Type 0 where
    pub messages : List Message
    pub others : Every IsOther messages
    pub does : Does Change a b messages

  pub leaves_then : (a b c : Acted) → Leaves a b → Leaves b c → Leaves a c
  leaves_then a b c p q = record {
    messages = p.messages ++ q.messages;
    others = every_join IsOther p.messages q.messages p.others q.others;
    does = does_then Change Change Change change_then a b c p.messages q.messages p.does q.does;
  }

  -- nothing happens to the ports
  pub quietly_up : (a b : Acted) → Goes (default_home port).channel a b [] → b.controller.ports ≡ a.controller.ports → (IsUp b → IsUp a)
      → b.numbers.instances ≡ a.numbers.instances → Leaves a b
  quietly_up a b goes ports up instances = record {
    messages = [];
    others = tt;
    does = record {
      goes = λ is. goes;
      up = up;
      given = λ is. least a.numbers.instances b.numbers.instances instances;
      ports = ap (map (λ (linked : Linked). linked.setup.port)) ports;
      left = λ is linked found. record { now = linked; is = ap (at port_key port.0) ports ∙ found; setup = refl; side = same };
    };
  }

  pub quietly : (a b : Acted) → Goes (default_home port).channel a b [] → b.controller.ports ≡ a.controller.ports → b.controller.adjacency ≡ a.controller.adjacency
      → b.numbers.instances ≡ a.numbers.instances → Leaves a b
  quietly a b goes ports adjacency instances = quietly_up a b goes ports (still_up a b adjacency) instances

  pub leaves_same : (a b : Acted) → b.notes.entries ≡ a.notes.entries → b.notes.frames ≡ a.notes.frames → b.controller.queue ≡ a.controller.queue
      → b.controller.address ≡ a.controller.address → b.numbers.controls ≡ a.numbers.controls → b.controller.ports ≡ a.controller.ports → b.controller.adjacency ≡ a.controller.adjacency
      → b.numbers.instances ≡ a.numbers.instances → Leaves a b
  leaves_same a b entries frames queue address controls ports adjacency instances =
      quietly a b (goes_same home a b entries frames queue address controls) ports adjacency instances

  pub leaves_itself : (a : Acted) → Leaves a a
  leaves_itself a = leaves_same a a refl refl refl refl refl refl refl refl

  -- the node is down behind it
  pub leaves_down : (a b : Acted) → ports_of b.controller ≡ ports_of a.controller → (IsUp b → ⊥) → Leaves a b
  leaves_down a b ports down = record {
    messages = [];
    others = tt;
    does = record {
      goes = λ up. absurd (down up);
      up = λ up. absurd (down up);
      given = λ up. absurd (down up);
      ports = ports;
      left = λ up linked found. absurd (down up);
    };
  }

  pub leaves_fold : {X : Type 0} (f : Acted → X → Acted) → ((a : Acted) (x : X) → Leaves a (f a x)) → (xs : List X) (a : Acted) → Leaves a (fold f a xs)
  leaves_fold f each [] a = leaves_itself a
  leaves_fold f each (x ∷ xs) a = leaves_then a (f a x) (fold f (f a x) xs) (each a x) (leaves_fold f each xs (f a x))

  pub leaves_each : {X : Type 0} (Q : X → Type 0) (f : Acted → X → Acted) → ((a : Acted) (x : X) → Q x → Leaves a (f a x)) → (xs : List X) → Every Q xs → (a : Acted) → Leaves a (fold f a xs)
  leaves_each Q f each [] all a = leaves_itself a
  leaves_each Q f each (x ∷ xs) all a = leaves_then a (f a x) (fold f (f a x) xs) (each a x all.0) (leaves_each Q f each xs all.1 (f a x))

  -- *A port is put* in its own place
  pub does_put : (R : Turning) (a b : Acted) (old new : Linked) → at port_key (port_key old) a.controller.ports ≡ Some old → new.setup ≡ old.setup
      → (port_key old ≡ port.0 → R a.numbers.instances old.port.adjacency new.port.adjacency) → ((side : Side Peer) → port_key old ≢ port.0 → R a.numbers.instances side side)
      → b.controller.ports ≡ put port_key new a.controller.ports → b.controller.adjacency ≡ a.controller.adjacency → a.numbers.instances ≤ b.numbers.instances
      → Goes (default_home port).channel a b [] → Does R a b []
  does_put R a b old new own setup turned itself ports adjacency instances goes = record {
    goes = λ up. goes;
    up = still_up a b adjacency;
    given = λ up. instances;
    ports = ap (map (λ (linked : Linked). linked.setup.port)) ports
        ∙ map_put port_key (λ (linked : Linked). linked.setup.port) new a.controller.ports old (ap (λ k. at port_key k a.controller.ports) key ∙ own) (ap (λ (s : Setup). s.port) setup);
    left = λ up linked found. subst (LeftBy (R a.numbers.instances) linked) (sym (ap (at port_key port.0) ports)) (each linked found);
  }
    where
      key : port_key new ≡ port_key old
      key = ap (λ (s : Setup). s.port.0) setup

      here : at port_key (port_key old) (put port_key new a.controller.ports) ≡ Some new
      here = subst (λ k. at port_key k (put port_key new a.controller.ports) ≡ Some new) key
          (at_put_same port_key new a.controller.ports old (ap (λ k. at port_key k a.controller.ports) key ∙ own))

      one : (x y : Linked) → Some x ≡ Some y → x ≡ y
      one x y e = cc

      own_left : (linked : Linked) → old ≡ linked → port_key old ≡ port.0 → LeftBy (R a.numbers.instances) linked (at port_key port.0 (put port_key new a.controller.ports))
      own_left linked is_it e = record {
        now = new;
        is = ap (λ k. at port_key k (put port_key new a.controller.ports)) (sym e) ∙ here;
        setup = setup ∙ ap (λ (l : Linked). l.setup) is_it;
        side = subst (λ (l : Linked). R a.numbers.instances l.port.adjacency new.port.adjacency) is_it (turned e);
      }

      each : (linked : Linked) → linked_at a.controller port ≡ Some linked → LeftBy (R a.numbers.instances) linked (at port_key port.0 (put port_key new a.controller.ports))
      each linked found = by_eq (port_key old) port.0
          (λ e t. own_left linked (one old linked (sym own ∙ (ap (λ k. at port_key k a.controller.ports) e ∙ found))) e)
          (λ differs t. record {
            now = linked;
            is = at_put_other port_key new port.0 a.controller.ports (λ e. differs (sym key ∙ e)) ∙ found;
            setup = refl;
            side = itself linked.port.adjacency differs;
          })

  pub leaves_put : (a b : Acted) (old new : Linked) → at port_key (port_key old) a.controller.ports ≡ Some old → new.setup ≡ old.setup
      → (port_key old ≡ port.0 → Change a.numbers.instances old.port.adjacency new.port.adjacency)
      → b.controller.ports ≡ put port_key new a.controller.ports → b.controller.adjacency ≡ a.controller.adjacency → a.numbers.instances ≤ b.numbers.instances
      → Goes (default_home port).channel a b [] → Leaves a b
  leaves_put a b old new own setup turned ports adjacency instances goes = record {
    messages = [];
    others = tt;
    does = does_put Change a b old new own setup turned (λ side differs. same) ports adjacency instances goes;
  }

-- *A port found* by a key stands under its own
pub own_place : (a : Acted) (q : PortNo) (linked : Linked) → linked_at a.controller q ≡ Some linked → at port_key (port_key linked) a.controller.ports ≡ Some linked
own_place a q linked found = ap (λ k. at port_key k a.controller.ports) (at_key port_key q.0 a.controller.ports linked found) ∙ found
