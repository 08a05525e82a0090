-- at the opening marks and instances are those that were given out, and no two instances are the same

use Rattle.std.proofs.Common.{◌≡◌, ℕ, zero, suc, ◌<◌, ◌≤◌, ◌+◌, Bool, true, false, List, [], ◌∷◌, ◌++◌, length, slice_get, Option, None, Some, refl, sym, ◌∙◌, ap, subst, arith, ◌⊎◌, inl, inr, if◌then◌else◌}
use Rattle.std.specs.Prelude.{nat_eq}
use Rattle.std.specs.Option.{option_map}
use Rattle.law_world_pace.specs.world_model.Words.{NodeId, GivenOut, Next, at, Cell, Policy, Setup, Linked, port_key, default_home, same_channel, setup_of, opens_port, opens_ports, Topology, Node, ranges_of, timers_of, World, Site, site_key, opened_site, numbers_after, with_opened, opens_each, empty_world}
use Rattle.law_controller_bindings.specs.ordered_lists.Ordered.{Every}
use Rattle.law_controller_bindings.proofs.ordered_lists.Every.{every_join}
use Rattle.law_controller_bindings.proofs.law_port_facts.Keyed.{by_eq, at_every}
use Rattle.law_world_pace.specs.world_model.controller_model.declared.range.PortRange.{PortRange}
use Rattle.law_run_facts.specs.Inputs.{IsMarked}
use Rattle.law_run_facts.proofs.Owns.{own_in, port_own}
use Rattle.law_run_facts.proofs.Controllers.{Table}
use Rattle.law_world_pace.specs.world_model.World.{opened}
use Rattle.law_run_facts.specs.Drawn.{Holder, own_at}
use Rattle.law_run_facts.proofs.Marked.{Kind, IsController, IsSwitch, IsPort, own_as, own_found, node_of, kind_of, own_is, same_holder, SiteMarked, WorldMarked, sites_later}

some_number : (x y : ℕ) → Some x ≡ Some y → x ≡ y
some_number x y e = cc e

-- *The ports* are opened under instances that rise
module _ (f : PortRange → Setup) where
  ports_most : (m : ℕ) (ranges : List PortRange) (key n : ℕ) → own_in (opens_ports f m ranges) key ≡ Some n → (m < n) × (n ≤ m + length ranges)
  ports_most m [] key n e = absurd (cc e)
  ports_most m (range ∷ ranges) key n e = by (nat_eq (port_key (opens_port (f range) m)) key) (λ k. ports_most (m + 1) ranges key n k) e
    where
      by : (b : Bool) → (own_in (opens_ports f (m + 1) ranges) key ≡ Some n → (m + 1 < n) × (n ≤ m + 1 + length ranges)) → option_map port_own (if b then Some (opens_port (f range) m) else at port_key key (opens_ports f (m + 1) ranges)) ≡ Some n → (m < n) × (n ≤ m + length (range ∷ ranges))
      by true rest k = (let same : m + 1 ≡ n = some_number (m + 1) n k in (omega (arith, same), omega (arith, same)))
      by false rest k = (let r = rest k in (omega (arith, r.0), omega (arith, r.1)))

  ports_apart : (m : ℕ) (ranges : List PortRange) (key other n : ℕ) → own_in (opens_ports f m ranges) key ≡ Some n → own_in (opens_ports f m ranges) other ≡ Some n → key ≡ other
  ports_apart m [] key other n e g = absurd (cc e)
  ports_apart m (range ∷ ranges) key other n e g = by_eq (port_key (opens_port (f range) m)) key
      (λ a t. by_eq (port_key (opens_port (f range) m)) other
      (λ b u. sym a ∙ b)
      (λ b u. absurd (omega (arith, first key t e, (ports_most (m + 1) ranges other n (rest other u g)).0))))
      (λ a t. by_eq (port_key (opens_port (f range) m)) other
      (λ b u. absurd (omega (arith, first other u g, (ports_most (m + 1) ranges key n (rest key t e)).0)))
      (λ b u. ports_apart (m + 1) ranges key other n (rest key t e) (rest other u g)))
    where
      pick : ℕ → Bool → Option ℕ
      pick key b = option_map port_own (if b then Some (opens_port (f range) m) else at port_key key (opens_ports f (m + 1) ranges))

      first : (key : ℕ) → nat_eq (port_key (opens_port (f range) m)) key ≡ true → own_in (opens_ports f m (range ∷ ranges)) key ≡ Some n → m + 1 ≡ n
      first key t e = some_number (m + 1) n (sym (ap (pick key) t) ∙ e)

      rest : (key : ℕ) → nat_eq (port_key (opens_port (f range) m)) key ≡ false → own_in (opens_ports f m (range ∷ ranges)) key ≡ Some n → own_in (opens_ports f (m + 1) ranges) key ≡ Some n
      rest key t e = sym (ap (pick key) t) ∙ e

  none_taken : (controls m : ℕ) (ranges : List PortRange)
      → Every (λ (linked : Linked). Every (λ (cell : Cell). (same_channel cell.header.channel (default_home linked.setup.port).channel ≡ true) × IsMarked controls cell) linked.reassembly.chain) (opens_ports f m ranges)
  none_taken controls m [] = tt
  none_taken controls m (range ∷ ranges) = (tt, none_taken controls (m + 1) ranges)

-- *A site*
module _ (policy : Policy) (t : Topology) (number : NodeId) (node : Node) (numbers : GivenOut) where
  abbrev site : Site
  site = opened_site policy t number node numbers

  abbrev after : GivenOut
  after = numbers_after t number node numbers

  site_most : (kind : Kind) (n : ℕ) → own_as (opened_site policy t number node numbers) kind ≡ Some n → (numbers.instances < n) × (n ≤ (numbers_after t number node numbers).instances)
  site_most IsController n e = (let same : numbers.instances + 1 ≡ n = some_number (numbers.instances + 1) n e in (omega (arith, same), omega (arith, same)))
  site_most IsSwitch n e = (let same : numbers.instances + (1 + length (ranges_of t number node)) + 1 ≡ n = some_number (numbers.instances + (1 + length (ranges_of t number node)) + 1) n e in (omega (arith, same), omega (arith, same)))
  site_most (IsPort key) n e =
      let r = ports_most (setup_of number node.address (timers_of t) policy) (numbers.instances + 1) (ranges_of t number node) key n e in
      (omega (arith, r.0), omega (arith, r.1))

  site_apart : (one other : Kind) (n : ℕ) → own_as (opened_site policy t number node numbers) one ≡ Some n → own_as (opened_site policy t number node numbers) other ≡ Some n → one ≡ other
  site_apart IsController IsController n e g = refl
  site_apart IsController IsSwitch n e g = absurd (omega (arith, some_number (numbers.instances + 1) n e, some_number (numbers.instances + (1 + length (ranges_of t number node)) + 1) n g))
  site_apart IsController (IsPort key) n e g = absurd (omega (
    arith,
    some_number (numbers.instances + 1) n e,
    (ports_most (setup_of number node.address (timers_of t) policy) (numbers.instances + 1) (ranges_of t number node) key n g).0,
  ))
  site_apart IsSwitch IsController n e g = absurd (omega (arith, some_number (numbers.instances + 1) n g, some_number (numbers.instances + (1 + length (ranges_of t number node)) + 1) n e))
  site_apart IsSwitch IsSwitch n e g = refl
  site_apart IsSwitch (IsPort key) n e g = absurd (omega (
    arith,
    some_number (numbers.instances + (1 + length (ranges_of t number node)) + 1) n e,
    (ports_most (setup_of number node.address (timers_of t) policy) (numbers.instances + 1) (ranges_of t number node) key n g).1,
  ))
  site_apart (IsPort key) IsController n e g = absurd (omega (
    arith,
    some_number (numbers.instances + 1) n g,
    (ports_most (setup_of number node.address (timers_of t) policy) (numbers.instances + 1) (ranges_of t number node) key n e).0,
  ))
  site_apart (IsPort key) IsSwitch n e g = absurd (omega (
    arith,
    some_number (numbers.instances + (1 + length (ranges_of t number node)) + 1) n g,
    (ports_most (setup_of number node.address (timers_of t) policy) (numbers.instances + 1) (ranges_of t number node) key n e).1,
  ))
  site_apart (IsPort key) (IsPort other) n e g = ap IsPort (ports_apart (setup_of number node.address (timers_of t) policy) (numbers.instances + 1) (ranges_of t number node) key other n e g)

-- one more is found at the end
pub found_more : (xs : List Site) (x : Site) (key : ℕ) → (at site_key key (xs ++ x ∷ []) ≡ at site_key key xs) ⊎ ((at site_key key (xs ++ x ∷ []) ≡ Some x) × (site_key x ≡ key))
found_more [] x key = by_eq (site_key x) key (λ e t. inr (ap (λ (b : Bool). if b then Some x else None) t, e)) (λ n t. inl (ap (λ (b : Bool). if b then Some x else None) t))
found_more (y ∷ xs) x key = by (nat_eq (site_key y) key) (found_more xs x key)
  where
    by : (b : Bool) → ((at site_key key (xs ++ x ∷ []) ≡ at site_key key xs) ⊎ ((at site_key key (xs ++ x ∷ []) ≡ Some x) × (site_key x ≡ key))) → ((if b then Some y else at site_key key (xs ++ x ∷ [])) ≡ (if b then Some y else at site_key key xs)) ⊎ (((if b then Some y else at site_key key (xs ++ x ∷ [])) ≡ Some x) × (site_key x ≡ key))
    by true rest = inl refl
    by false rest = rest

-- *No two instances are the same*
abbrev pub AreApart : World → Type 0
AreApart w = (one other : Holder) (n : ℕ) → own_at w one ≡ Some n → own_at w other ≡ Some n → one ≡ other

module _ (Leads : NodeId → Next → Type 0) (policy : Policy) (t : Topology) where
  pub most_of : (w : World) → WorldMarked Leads w → (holder : Holder) (n : ℕ) → own_at w holder ≡ Some n → n ≤ w.numbers.instances
  most_of w h holder n e = by (at site_key (node_of holder) w.sites) refl (sym (own_is w holder) ∙ e)
    where
      by : (o : Option Site) → at site_key (node_of holder) w.sites ≡ o → own_found o (kind_of holder) ≡ Some n → n ≤ w.numbers.instances
      by None f k = absurd (cc k)
      by (Some site) f k = (at_every site_key (SiteMarked Leads w.numbers) (node_of holder) w.sites site h.sites f).most (kind_of holder) n k

  one_marked : (w : World) (place : ℕ) (node : Node) → Table (Leads (record { 0 = place })) node.routes → WorldMarked Leads w → WorldMarked Leads (with_opened policy t w place node)
  one_marked w place node routes h =
      let number : NodeId = record { 0 = place } in
      let after : GivenOut = numbers_after t number node w.numbers in
      record {
        sites = every_join (SiteMarked Leads after) w.sites (opened_site policy t number node w.numbers ∷ []) (sites_later Leads w.numbers after w.sites (omega arith) (omega arith) h.sites) (
          record {
            queue = tt;
            chain = tt;
            taken = none_taken (setup_of number node.address (timers_of t) policy) after.controls (w.numbers.instances + 1) (ranges_of t number node);
            table = routes;
            waiting = tt;
            queues = (tt, (tt, (tt, (tt, (tt, (tt, (tt, (tt, (tt, tt)))))))));
            requests = tt;
            most = λ kind n e. (site_most policy t number node w.numbers kind n e).1;
          },
          tt,
        );
        free = h.free;
      }

  one_apart : (w : World) (place : ℕ) (node : Node) → WorldMarked Leads w → AreApart w → AreApart (with_opened policy t w place node)
  one_apart w place node h apart one other n e f = by (found_more w.sites new (node_of one)) (found_more w.sites new (node_of other))
    where
      number : NodeId
      number = record { 0 = place }

      new : Site
      new = opened_site policy t (record { 0 = place }) node w.numbers

      v : World
      v = with_opened policy t w place node

      before : (holder : Holder) → at site_key (node_of holder) (w.sites ++ new ∷ []) ≡ at site_key (node_of holder) w.sites → own_at v holder ≡ own_at w holder
      before holder is = own_is v holder ∙ ap (λ o. own_found o (kind_of holder)) is ∙ sym (own_is w holder)

      now : (holder : Holder) → at site_key (node_of holder) (w.sites ++ new ∷ []) ≡ Some new → own_at v holder ≡ own_as new (kind_of holder)
      now holder is = own_is v holder ∙ ap (λ o. own_found o (kind_of holder)) is

      clash : (old next : Holder) → at site_key (node_of old) (w.sites ++ new ∷ []) ≡ at site_key (node_of old) w.sites → at site_key (node_of next) (w.sites ++ new ∷ []) ≡ Some new → own_at v old ≡ Some n → own_at v next ≡ Some n → ⊥
      clash old next is there a b = omega (arith, most_of w h old n (sym (before old is) ∙ a), (site_most policy t (record { 0 = place }) node w.numbers (kind_of next) n (sym (now next there) ∙ b)).0)

      by : ((at site_key (node_of one) (w.sites ++ new ∷ []) ≡ at site_key (node_of one) w.sites) ⊎ ((at site_key (node_of one) (w.sites ++ new ∷ []) ≡ Some new) × (site_key new ≡ node_of one)))
          → ((at site_key (node_of other) (w.sites ++ new ∷ []) ≡ at site_key (node_of other) w.sites) ⊎ ((at site_key (node_of other) (w.sites ++ new ∷ []) ≡ Some new) × (site_key new ≡ node_of other))) → one ≡ other
      by (inl a) (inl b) = apart one other n (sym (before one a) ∙ e) (sym (before other b) ∙ f)
      by (inl a) (inr b) = absurd (clash one other a b.0 e f)
      by (inr a) (inl b) = absurd (clash other one b a.0 f e)
      by (inr a) (inr b) = same_holder one other (sym a.1 ∙ b.1) (site_apart policy t (record { 0 = place }) node w.numbers (kind_of one) (kind_of other) n (sym (now one a.0) ∙ e) (sym (now other b.0) ∙ f))

  pub each_marked : (nodes : List Node) (w : World) (place : ℕ) → ((k : ℕ) (node : Node) → slice_get nodes k ≡ Some node → Table (Leads (record { 0 = place + k })) node.routes) → WorldMarked Leads w → WorldMarked Leads (opens_each policy t w place nodes)
  each_marked [] w place routes h = h
  each_marked (node ∷ nodes) w place routes h = each_marked nodes (with_opened policy t w place node) (suc place)
      (λ k x e. subst (λ n. Table (Leads (record { 0 = n })) x.routes) (omega arith) (routes (suc k) x e))
      (one_marked w place node (subst (λ n. Table (Leads (record { 0 = n })) node.routes) (omega arith) (routes zero node refl)) h)

  each_apart : (nodes : List Node) (w : World) (place : ℕ) → ((k : ℕ) (node : Node) → slice_get nodes k ≡ Some node → Table (Leads (record { 0 = place + k })) node.routes) → WorldMarked Leads w → AreApart w
      → AreApart (opens_each policy t w place nodes)
  each_apart [] w place routes h apart = apart
  each_apart (node ∷ nodes) w place routes h apart =
      let own : Table (Leads (record { 0 = place })) node.routes = subst (λ n. Table (Leads (record { 0 = n })) node.routes) (omega arith) (routes zero node refl) in
      each_apart nodes (with_opened policy t w place node) (suc place) (λ k x e. subst (λ n. Table (Leads (record { 0 = n })) x.routes) (omega arith) (routes (suc k) x e))
      (one_marked w place node own h) (one_apart w place node h apart)

  module _ (routes : (k : ℕ) (node : Node) → slice_get t.nodes k ≡ Some node → Table (Leads (record { 0 = 1 + k })) node.routes) where
    empty_marked : WorldMarked Leads empty_world
    empty_marked = record { sites = tt; free = λ k less. refl }

    pub opened_marked : WorldMarked Leads (opened policy t)
    opened_marked = each_marked t.nodes empty_world 1 routes empty_marked

    pub opened_apart : AreApart (opened policy t)
    opened_apart = each_apart t.nodes empty_world 1 routes empty_marked (λ one other n e f. absurd (cc (sym (own_is empty_world one) ∙ e)))
