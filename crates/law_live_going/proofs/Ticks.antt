-- the ticks that begin a beat, one after another, and what is on its way to one end

use Rattle.std.proofs.Common.{◌≡◌, ◌≢◌, inl, ℕ, suc, ◌<◌, Bool, List, [], ◌∷◌, ◌++◌, Option, None, Some, map, refl, sym, ◌∙◌, ap, subst, arith, if◌then◌else◌}
use Rattle.world_model.specs.Words.{NodeId, Addr, Mark, at, Linked, linked_at, Topology, World, Site, site_key, site_at, controller_acts, AreShaped, IsTopology, put_away, next, tick_of, switch_tick_of, world_after}
use Rattle.world_model.specs.Ticks.{ticks}
use Rattle.world_model.specs.ifmp_wire.declared.message.Message.{Message}
use Rattle.world_model.specs.network_model.declared.link.LinkEnd.{LinkEnd}
use Rattle.world_model.specs.network_model.declared.event.Event.{Event}
use Rattle.world_model.specs.network_model.declared.event.Event.TheVariants.{Inject, Carry, Lose, Tick, TickSwitch, Restart, RestartSwitch, Forge, Route}
use Rattle.world_model.proofs.Lists.{by_eq, at_key, at_put_other}
use Rattle.law_passing.specs.ordered_lists.Ordered.{Every, InOrder}
use Rattle.law_passing.proofs.Controllers.{ticks_adds}
use Rattle.law_causes.proofs.Shown.{peer_back}
use Rattle.law_live_nodes.specs.Law.{IsNodeAtPeace, messages_of}
use Rattle.law_live_saying.specs.Law.{ticking}
use Rattle.law_live_sending.proofs.Sending.{ticks_send_what_ports_say}
use Rattle.law_live_orders.specs.Law.{coming, LosesNone, IsBeside}
use Rattle.law_live_orders.specs.Messages.{AreSaid, none, AreComing}
use Rattle.law_live_orders.proofs.Coming.{all_else_leaves_them, all_else_leaves_messages, messages_sent_come_last}
use Rattle.law_live_going.specs.Beats.{IsCalmTick, AreCalmTicks, TicksSayAll}

abbrev AreApart : List Site → Type 0
AreApart sites = InOrder (λ (a b : Site). site_key a ≢ site_key b) sites

-- *The nodes of a network* are apart
later_apart : (n m : ℕ) (sites : List Site) → n < m → AreShaped m sites → Every (λ (s : Site). n ≢ site_key s) sites
later_apart n m [] below shaped = tt
later_apart n m (s ∷ sites) below shaped = ((λ e. omega (arith, e, shaped.0.node, below)), later_apart n (suc m) sites (omega (arith, below)) shaped.1)

keys_apart : (m : ℕ) (sites : List Site) → AreShaped m sites → AreApart sites
keys_apart m [] shaped = tt
keys_apart m (s ∷ sites) shaped =
    (subst (λ n. Every (λ (b : Site). n ≢ site_key b) sites) (sym shaped.0.node) (later_apart m (suc m) sites (omega arith) shaped.1), keys_apart (suc m) sites shaped.1)

-- *Ticks of others*: of other controllers, and of switches
abbrev IsOther : (k : ℕ) → Event → Type 0
IsOther k (Tick node) = node.0 ≢ k
IsOther k (TickSwitch node) = Unit {0}
IsOther k event = ⊥

joined_others : (k : ℕ) (sites : List Site) (rest : List Event) → Every (λ (s : Site). k ≢ site_key s) sites → Every (IsOther k) rest → Every (IsOther k) (map tick_of sites ++ rest)
joined_others k [] rest apart others = others
joined_others k (s ∷ sites) rest apart others = ((λ e. apart.0 (sym e)), joined_others k sites rest apart.1 others)

switches_are_others : (k : ℕ) (sites : List Site) → Every (IsOther k) (map switch_tick_of sites)
switches_are_others k [] = tt
switches_are_others k (s ∷ sites) = (tt, switches_are_others k sites)

pub after_all : (topology : Topology) (w : World) (xs ys : List Event) → world_after topology w (xs ++ ys) ≡ world_after topology (world_after topology w xs) ys
after_all topology w [] ys = refl
after_all topology w (x ∷ xs) ys = after_all topology (next topology w x) xs ys

module _ (topology : Topology) (is : IsTopology topology) (one far : LinkEnd) where
  beside : (v : World) (event : Event) → IsOther one.node.0 event → LosesNone topology v one far event × IsBeside v one far event
  beside v (Inject node octets) other = absurd other
  beside v (Carry place) other = absurd other
  beside v (Lose place) other = absurd other
  beside v (Tick node) other = (tt, other)
  beside v (TickSwitch node) other = (tt, tt)
  beside v (Restart node) other = absurd other
  beside v (RestartSwitch node) other = absurd other
  beside v (Forge place channel payload) other = absurd other
  beside v (Route node change) other = absurd other

  later_calm : (v : World) (event : Event) (events : List Event) → AreCalmTicks topology v one far (event ∷ events) → AreCalmTicks topology (next topology v event) one far events
  later_calm v event events calm front rest later e = calm (event ∷ front) rest later (ap (λ (es : List Event). event ∷ es) e)

  -- *Behind its own tick* nothing more is said
  others_leave : (address : Addr) (messages : List Message) (events : List Event) (v : World) → Every (IsOther one.node.0) events → AreCalmTicks topology v one far events
      → AreComing address v one far messages → AreComing address (world_after topology v events) one far messages
  others_leave address messages [] v others calm said = said
  others_leave address messages (event ∷ events) v others calm said =
      let c : IsCalmTick topology v one far event = calm [] events event refl in
      let b : LosesNone topology v one far event × IsBeside v one far event = beside v event others.0 in
      others_leave address messages events (next topology v event) others.1 (later_calm v event events calm)
      (all_else_leaves_messages topology v one far event address messages is c.is_open b.0 b.1 said c.stays)

  -- *Before it* its controller stays as it is
  tick_elsewhere : (v : World) (node : NodeId) (k : ℕ) → node.0 ≢ k → at site_key k (next topology v (Tick node)).sites ≡ at site_key k v.sites
  tick_elsewhere v node k other = by (site_at v node) refl
    where
      by : (o : Option Site) → site_at v node ≡ o → at site_key k (controller_acts (put_away v) o ticks).sites ≡ at site_key k v.sites
      by None found = refl
      by (Some site) found = at_put_other site_key (record site { controller = (ticks (ticking v site)).controller }) k v.sites
          (λ e. other (sym (ap (λ (n : NodeId). n.0) (ticks_adds (ticking v site)).node ∙ at_key site_key node.0 v.sites site found) ∙ e))

  module _ (site : Site) (linked : Linked) (of_port : linked_at site.controller one.port ≡ Some linked) where
    same_node : (a b : NodeId) → a.0 ≡ b.0 → b ≡ a
    same_node a b e = λ i. record { 0 = sym e i }

    one_site : (a b : Site) → Some a ≡ Some b → a ≡ b
    one_site a b e = cc

    -- its own tick
    own_tick : (v : World) → site_at v one.node ≡ Some site → IsNodeAtPeace (ticking v site) → coming v one far ≡ [] → IsCalmTick topology v one far (Tick one.node)
        → AreComing site.controller.address (next topology v (Tick one.node)) one far (messages_of linked)
    own_tick v found peace empty c =
        messages_sent_come_last topology v one far (Tick one.node) site.controller.address [] (messages_of linked) is c.is_open (inl refl)
        (subst (λ (marks : List Mark). AreSaid site.controller.address v.notes.frames marks []) (sym empty) none) c.stays
        (ticks_send_what_ports_say topology v one site linked (peer_back topology is one far c.is_open.linked).own found peace of_port c.unlost)

    peace_at : (w v : World) → IsNodeAtPeace (ticking w site) → IsNodeAtPeace (ticking v site)
    peace_at w v p = record { up = p.up; heard = p.heard; nothing_asked = p.nothing_asked; ports = p.ports; ports_apart = p.ports_apart }

    all_tick : (w : World) → IsNodeAtPeace (ticking w site) → (sites : List Site) (v : World) (rest : List Event) → AreApart sites → at site_key one.node.0 sites ≡ Some site
        → site_at v one.node ≡ Some site → coming v one far ≡ [] → Every (IsOther one.node.0) rest → AreCalmTicks topology v one far (map tick_of sites ++ rest)
        → AreComing site.controller.address (world_after topology v (map tick_of sites ++ rest)) one far (messages_of linked)
    all_tick w peace [] v rest apart among found empty others calm = absurd (cc among)
    all_tick w peace (s ∷ sites) v rest apart among found empty others calm = by_eq (site_key s) one.node.0
        (λ same t. mine same)
        (λ differs t. all_tick w peace sites (next topology v (tick_of s)) rest apart.1 (sym (ap (λ (b : Bool). if b then Some s else at site_key one.node.0 sites) t) ∙ among)
        (tick_elsewhere v s.controller.node one.node.0 differs ∙ found)
        (all_else_leaves_them topology v one far (tick_of s) is (calm [] (map tick_of sites ++ rest) (tick_of s) refl).is_open tt differs ∙ empty)
        others (later_calm v (tick_of s) (map tick_of sites ++ rest) calm))
      where
        mine : site_key s ≡ one.node.0 → AreComing site.controller.address (world_after topology (next topology v (tick_of s)) (map tick_of sites ++ rest)) one far (messages_of linked)
        mine same = others_leave site.controller.address (messages_of linked) (map tick_of sites ++ rest) (next topology v (tick_of s))
            (joined_others one.node.0 sites rest (subst (λ (n : ℕ). Every (λ (b : Site). n ≢ site_key b) sites) same apart.0) others)
            (later_calm v (tick_of s) (map tick_of sites ++ rest) calm)
            (subst (λ (n : NodeId). IsCalmTick topology v one far (Tick n) → AreComing site.controller.address (next topology v (Tick n)) one far (messages_of linked))
            (same_node s.controller.node one.node same) (own_tick v found (peace_at w v peace) empty) (calm [] (map tick_of sites ++ rest) (tick_of s) refl))

pub ticks_say_all : TicksSayAll
ticks_say_all topology w one far site linked is shaped found peace of_port empty calm =
    all_tick topology is one far site linked of_port w peace w.sites w (map switch_tick_of w.sites) (keys_apart 1 w.sites shaped) found found empty
    (switches_are_others one.node.0 w.sites) calm
