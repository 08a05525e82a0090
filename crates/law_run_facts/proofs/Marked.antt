-- what is so of the marks and the instances of a world, and what an event leaves of them

use Rattle.std.proofs.Common.{◌≡◌, ◌≢◌, ℕ, ◌<◌, ◌≤◌, true, List, [], ◌∷◌, Option, None, Some, refl, sym, ◌∙◌, ap, subst, arith, ◌⊎◌, inl, inr}
use Rattle.std.specs.Option.{option_map, option_map_or, option_and_then}
use Rattle.law_world_pace.specs.world_model.Words.{NodeId, Place, Down, Up, Out, Peer, GivenOut, Side, Cell, Next, at, put, Linked, linked_at, default_home, same_channel, World, Site, site_key, site_at, with_site, place_node, queue_in, queue_at, with_queue_in, with_queue_of, with_queue}
use Rattle.law_controller_bindings.specs.ordered_lists.Ordered.{Every}
use Rattle.law_controller_bindings.proofs.ordered_lists.Every.{every_map}
use Rattle.law_controller_bindings.proofs.law_port_facts.Keyed.{by_eq, at_key, at_every, at_put_same, at_put_other, put_every}
use Rattle.law_world_pace.proofs.law_actor_pace.Cells.{every_at, every_set}
use Rattle.law_run_facts.specs.Inputs.{IsMarked}
use Rattle.law_run_facts.specs.Frames.{IsFree}
use Rattle.law_run_facts.proofs.Switches.{AreMarked, mark_later, marked_later, queues_later}
use Rattle.law_run_facts.proofs.Owns.{own_of, own_in, port_own, IsDrawn, is_drawn}
use Rattle.law_run_facts.proofs.Controllers.{Table, Change}
use Rattle.law_run_facts.specs.Drawn.{Holder, ByController, BySwitch, ByPort, own_at, IsNew, is_new, Draws}

-- *Who draws*, at a node
pub data Kind : Type 0 where
  IsController : Kind
  IsSwitch : Kind
  IsPort : ℕ → Kind

abbrev pub own_as : Site → Kind → Option ℕ
own_as site IsController = Some (own_of site.controller)
own_as site IsSwitch = Some site.switch.adjacency.own.instance.0
own_as site (IsPort key) = own_in site.controller.ports key

abbrev pub own_found : Option Site → Kind → Option ℕ
own_found None kind = None
own_found (Some site) kind = own_as site kind

abbrev pub node_of : Holder → ℕ
node_of (ByController node) = node.0
node_of (BySwitch node) = node.0
node_of (ByPort end) = end.node.0

abbrev pub kind_of : Holder → Kind
kind_of (ByController node) = IsController
kind_of (BySwitch node) = IsSwitch
kind_of (ByPort end) = IsPort end.port.0

pub own_is : (w : World) (holder : Holder) → own_at w holder ≡ own_found (at site_key (node_of holder) w.sites) (kind_of holder)
own_is w (ByController node) = by (site_at w node)
  where
    by : (o : Option Site) → option_map (λ (site : Site). site.controller.adjacency.own.instance.0) o ≡ own_found o IsController
    by None = refl
    by (Some site) = refl
own_is w (BySwitch node) = by (site_at w node)
  where
    by : (o : Option Site) → option_map (λ (site : Site). site.switch.adjacency.own.instance.0) o ≡ own_found o IsSwitch
    by None = refl
    by (Some site) = refl
own_is w (ByPort end) = by (site_at w end.node)
  where
    linked : (o : Option Linked) → option_map (λ (side : Side Peer). side.own.instance.0) (option_map (λ (linked : Linked). linked.port.adjacency) o) ≡ option_map port_own o
    linked None = refl
    linked (Some x) = refl

    by : (o : Option Site) → option_map (λ (side : Side Peer). side.own.instance.0) (option_map (λ (linked : Linked). linked.port.adjacency) (option_and_then (λ c. linked_at c end.port) (option_map (λ (site : Site). site.controller) o))) ≡ own_found o (IsPort end.port.0)
    by None = refl
    by (Some site) = linked (linked_at site.controller end.port)

-- two of one node and one kind are one
pub same_holder : (one other : Holder) → node_of one ≡ node_of other → kind_of one ≡ kind_of other → one ≡ other
same_holder (ByController a) (ByController b) node kind = ap (λ (n : ℕ). ByController (record { 0 = n })) node
same_holder (ByController a) (BySwitch b) node kind = absurd (cc kind)
same_holder (ByController a) (ByPort b) node kind = absurd (cc kind)
same_holder (BySwitch a) (ByController b) node kind = absurd (cc kind)
same_holder (BySwitch a) (BySwitch b) node kind = ap (λ (n : ℕ). BySwitch (record { 0 = n })) node
same_holder (BySwitch a) (ByPort b) node kind = absurd (cc kind)
same_holder (ByPort a) (ByController b) node kind = absurd (cc kind)
same_holder (ByPort a) (BySwitch b) node kind = absurd (cc kind)
same_holder (ByPort a) (ByPort b) node kind = (let port : a.port.0 ≡ b.port.0 = cc kind in λ i. ByPort (record { node = record { 0 = node i }; port = record { 0 = port i } }))

-- *A site* of a world that gave out so many numbers
module _ (Leads : NodeId → Next → Type 0) where
  pub record SiteMarked (numbers : GivenOut) (site : Site) : Type 0 where
    pub queue : AreMarked numbers.controls site.controller.queue
    pub chain : AreMarked numbers.controls site.controller.reassembly.chain
    pub taken : Every (λ (linked : Linked). Every (λ (cell : Cell). (same_channel cell.header.channel (default_home linked.setup.port).channel ≡ true) × IsMarked numbers.controls cell) linked.reassembly.chain) site.controller.ports
    pub table : Table (Leads site.controller.node) site.controller.table
    pub waiting : Every (Change (Leads site.controller.node)) site.controller.waiting
    pub queues : Every (AreMarked numbers.controls) site.switch.crossbar.queues
    pub requests : AreMarked numbers.controls site.switch.reassembly.chain
    pub most : (kind : Kind) (n : ℕ) → own_as site kind ≡ Some n → n ≤ numbers.instances

  pub record WorldMarked (w : World) : Type 0 where
    pub sites : Every (SiteMarked w.numbers) w.sites
    pub free : IsFree w.numbers.controls w.notes.frames

  -- more are given out
  pub site_later : (less more : GivenOut) (site : Site) → less.controls ≤ more.controls → less.instances ≤ more.instances → SiteMarked less site → SiteMarked more site
  site_later less more site controls instances h = record {
    queue = marked_later less.controls more.controls controls site.controller.queue h.queue;
    chain = marked_later less.controls more.controls controls site.controller.reassembly.chain h.chain;
    taken = every_map (λ (linked : Linked). Every (λ (cell : Cell). (same_channel cell.header.channel (default_home linked.setup.port).channel ≡ true) × IsMarked less.controls cell) linked.reassembly.chain)
        (λ (linked : Linked). Every (λ (cell : Cell). (same_channel cell.header.channel (default_home linked.setup.port).channel ≡ true) × IsMarked more.controls cell) linked.reassembly.chain) site.controller.ports
        (λ linked all. every_map (λ (cell : Cell). (same_channel cell.header.channel (default_home linked.setup.port).channel ≡ true) × IsMarked less.controls cell)
        (λ (cell : Cell). (same_channel cell.header.channel (default_home linked.setup.port).channel ≡ true) × IsMarked more.controls cell) linked.reassembly.chain
        (λ cell t. (t.0, mark_later less.controls more.controls controls cell.mark t.1)) all) h.taken;
    table = h.table;
    waiting = h.waiting;
    queues = queues_later less.controls more.controls controls site.switch.crossbar.queues h.queues;
    requests = marked_later less.controls more.controls controls site.switch.reassembly.chain h.requests;
    most = λ kind n e. omega (arith, h.most kind n e, instances);
  }

  pub sites_later : (less more : GivenOut) (sites : List Site) → less.controls ≤ more.controls → less.instances ≤ more.instances → Every (SiteMarked less) sites → Every (SiteMarked more) sites
  sites_later less more sites controls instances h = every_map (SiteMarked less) (SiteMarked more) sites (λ site. site_later less more site controls instances) h

  -- *The cells of a queue*
  pub queue_in_marked : (numbers : GivenOut) (site : Site) (place : Place) → SiteMarked numbers site → AreMarked numbers.controls (queue_in site place)
  queue_in_marked numbers site (Down node) h = h.queue
  queue_in_marked numbers site (Up node) h = every_at (AreMarked numbers.controls) site.switch.crossbar.queues 0 [] h.queues tt
  queue_in_marked numbers site (Out node port) h = every_at (AreMarked numbers.controls) site.switch.crossbar.queues port.0 [] h.queues tt

  pub queue_marked : (w : World) (place : Place) → WorldMarked w → AreMarked w.numbers.controls (queue_at w place)
  queue_marked w place h = by (site_at w (place_node place)) refl
    where
      by : (o : Option Site) → site_at w (place_node place) ≡ o → AreMarked w.numbers.controls (option_map_or (λ site. queue_in site place) o [])
      by None e = tt
      by (Some site) e = queue_in_marked w.numbers site place (at_every site_key (SiteMarked w.numbers) (place_node place).0 w.sites site h.sites e)

  queue_kept : (numbers : GivenOut) (site : Site) (place : Place) (cells : List Cell) → AreMarked numbers.controls cells → SiteMarked numbers site → SiteMarked numbers (with_queue_in site place cells)
  queue_kept numbers site (Down node) cells is h = record { queue = is; chain = h.chain; taken = h.taken; table = h.table; waiting = h.waiting; queues = h.queues; requests = h.requests; most = same h.most }
    where
      same : ((kind : Kind) (n : ℕ) → own_as site kind ≡ Some n → n ≤ numbers.instances) → (kind : Kind) (n : ℕ) → own_as (with_queue_in site (Down node) cells) kind ≡ Some n → n ≤ numbers.instances
      same m IsController n e = m IsController n e
      same m IsSwitch n e = m IsSwitch n e
      same m (IsPort key) n e = m (IsPort key) n e
  queue_kept numbers site (Up node) cells is h = record {
    queue = h.queue;
    chain = h.chain;
    taken = h.taken;
    table = h.table;
    waiting = h.waiting;
    queues = every_set (AreMarked numbers.controls) site.switch.crossbar.queues 0 cells h.queues is;
    requests = h.requests;
    most = same h.most;
  }
    where
      same : ((kind : Kind) (n : ℕ) → own_as site kind ≡ Some n → n ≤ numbers.instances) → (kind : Kind) (n : ℕ) → own_as (with_queue_in site (Up node) cells) kind ≡ Some n → n ≤ numbers.instances
      same m IsController n e = m IsController n e
      same m IsSwitch n e = m IsSwitch n e
      same m (IsPort key) n e = m (IsPort key) n e
  queue_kept numbers site (Out node port) cells is h = record {
    queue = h.queue;
    chain = h.chain;
    taken = h.taken;
    table = h.table;
    waiting = h.waiting;
    queues = every_set (AreMarked numbers.controls) site.switch.crossbar.queues port.0 cells h.queues is;
    requests = h.requests;
    most = same h.most;
  }
    where
      same : ((kind : Kind) (n : ℕ) → own_as site kind ≡ Some n → n ≤ numbers.instances) → (kind : Kind) (n : ℕ) → own_as (with_queue_in site (Out node port) cells) kind ≡ Some n → n ≤ numbers.instances
      same m IsController n e = m IsController n e
      same m IsSwitch n e = m IsSwitch n e
      same m (IsPort key) n e = m (IsPort key) n e

-- *A site is put back*, and another look-up finds what it did
found_put : (new old : Site) (sites : List Site) (key : ℕ) (kind : Kind) → at site_key (site_key new) sites ≡ Some old → own_as new kind ≡ own_as old kind
    → own_found (at site_key key (put site_key new sites)) kind ≡ own_found (at site_key key sites) kind
found_put new old sites key kind found same = by_eq (site_key new) key
    (λ e t. subst (λ k. own_found (at site_key k (put site_key new sites)) kind ≡ own_found (at site_key k sites) kind) e
    (ap (λ o. own_found o kind) (at_put_same site_key new sites old found) ∙ same ∙ sym (ap (λ o. own_found o kind) found)))
    (λ n t. ap (λ o. own_found o kind) (at_put_other site_key new key sites n))

-- *The head of a queue is taken*
module _ (Leads : NodeId → Next → Type 0) where
  pub record Popped (w u : World) : Type 0 where
    pub numbers : u.numbers ≡ w.numbers
    pub notes : u.notes ≡ w.notes
    pub own : (holder : Holder) → own_at u holder ≡ own_at w holder
    pub marked : WorldMarked Leads u

  pub queue_popped : (w : World) (place : Place) (cell : Cell) (cells : List Cell) → queue_at w place ≡ cell ∷ cells → WorldMarked Leads w → Popped w (with_queue w place cells)
  queue_popped w place cell cells is h = by (site_at w (place_node place)) refl
    where
      low : AreMarked w.numbers.controls cells
      low = (subst (AreMarked w.numbers.controls) is (queue_marked Leads w place h)).1

      same_key : (site : Site) (p : Place) → site_key (with_queue_in site p cells) ≡ site_key site
      same_key site (Down node) = refl
      same_key site (Up node) = refl
      same_key site (Out node port) = refl

      same_own : (site : Site) (p : Place) (kind : Kind) → own_as (with_queue_in site p cells) kind ≡ own_as site kind
      same_own site (Down node) IsController = refl
      same_own site (Down node) IsSwitch = refl
      same_own site (Down node) (IsPort key) = refl
      same_own site (Up node) IsController = refl
      same_own site (Up node) IsSwitch = refl
      same_own site (Up node) (IsPort key) = refl
      same_own site (Out node port) IsController = refl
      same_own site (Out node port) IsSwitch = refl
      same_own site (Out node port) (IsPort key) = refl

      by : (o : Option Site) → site_at w (place_node place) ≡ o → Popped w (with_queue_of w place cells o)
      by None found = record { numbers = refl; notes = refl; own = λ holder. refl; marked = h }
      by (Some site) found =
          let new : Site = with_queue_in site place cells in
          let key : site_key new ≡ (place_node place).0 = same_key site place ∙ at_key site_key (place_node place).0 w.sites site found in
          let at_own : at site_key (site_key new) w.sites ≡ Some site = subst (λ k. at site_key k w.sites ≡ Some site) (sym key) found in
          record {
            numbers = refl;
            notes = refl;
            own = λ holder. own_is (with_site w new) holder ∙ found_put new site w.sites (node_of holder) (kind_of holder) at_own (same_own site place (kind_of holder)) ∙ sym (own_is w holder);
            marked = record {
              sites = put_every site_key (SiteMarked Leads w.numbers) new w.sites
                  (queue_kept Leads w.numbers site place cells low (at_every site_key (SiteMarked Leads w.numbers) (place_node place).0 w.sites site h.sites found)) h.sites;
              free = h.free;
            };
          }

-- *One site acts*, and its controller, its switch and its ports keep their instances or have new ones
pub record SiteDraws (before behind : ℕ) (old new : Site) : Type 0 where
  pub each : (kind : Kind) → (own_as new kind ≡ own_as old kind) ⊎ IsDrawn before behind (own_as new kind)
  pub apart : (one other : Kind) (n : ℕ) → own_as new one ≡ Some n → own_as new other ≡ Some n → before < n → one ≡ other

pub site_draws : (Leads : NodeId → Next → Type 0) (w v : World) (old new : Site) → WorldMarked Leads w → v.sites ≡ put site_key new w.sites → w.numbers.instances ≤ v.numbers.instances
    → at site_key (site_key new) w.sites ≡ Some old → SiteDraws w.numbers.instances v.numbers.instances old new → Draws w v
site_draws Leads w v old new marked is more found s = record { more = more; each = each; apart = apart }
  where
    here : (holder : Holder) → site_key new ≡ node_of holder → own_at v holder ≡ own_as new (kind_of holder)
    here holder e = own_is v holder ∙ ap (λ xs. own_found (at site_key (node_of holder) xs) (kind_of holder)) is
        ∙ subst (λ k. own_found (at site_key k (put site_key new w.sites)) (kind_of holder) ≡ own_as new (kind_of holder)) e (ap (λ o. own_found o (kind_of holder)) (at_put_same site_key new w.sites old found))

    here_old : (holder : Holder) → site_key new ≡ node_of holder → own_at w holder ≡ own_as old (kind_of holder)
    here_old holder e = own_is w holder ∙ ap (λ o. own_found o (kind_of holder)) (subst (λ k. at site_key k w.sites ≡ Some old) e found)

    there : (holder : Holder) → site_key new ≢ node_of holder → own_at v holder ≡ own_at w holder
    there holder n = own_is v holder ∙ ap (λ xs. own_found (at site_key (node_of holder) xs) (kind_of holder)) is ∙ ap (λ o. own_found o (kind_of holder)) (at_put_other site_key new (node_of holder) w.sites n) ∙ sym (own_is w holder)

    as_new : (o : Option ℕ) → IsDrawn w.numbers.instances v.numbers.instances o → IsNew w.numbers.instances v.numbers.instances o
    as_new o (is_drawn n e less few) = is_new n e less few

    each : (holder : Holder) → (own_at v holder ≡ own_at w holder) ⊎ IsNew w.numbers.instances v.numbers.instances (own_at v holder)
    each holder = by_eq (site_key new) (node_of holder)
        (λ e t. elim (s.each (kind_of holder)) [
          | inl same ↦ inl (here holder e ∙ same ∙ sym (here_old holder e))
          | inr drawn ↦ inr (as_new (own_at v holder) (subst (IsDrawn w.numbers.instances v.numbers.instances) (sym (here holder e)) drawn))
        ])
        (λ n t. inl (there holder n))

    -- an instance elsewhere was given out before
    old_most : (holder : Holder) (n : ℕ) → own_at w holder ≡ Some n → n ≤ w.numbers.instances
    old_most holder n e = by (at site_key (node_of holder) w.sites) refl (sym (own_is w holder) ∙ e)
      where
        by : (o : Option Site) → at site_key (node_of holder) w.sites ≡ o → own_found o (kind_of holder) ≡ Some n → n ≤ w.numbers.instances
        by None f k = absurd (cc k)
        by (Some site) f k = (at_every site_key (SiteMarked Leads w.numbers) (node_of holder) w.sites site marked.sites f).most (kind_of holder) n k

    apart : (one other : Holder) (n : ℕ) → own_at v one ≡ Some n → own_at v other ≡ Some n → w.numbers.instances < n → one ≡ other
    apart one other n e f less = by_eq (site_key new) (node_of one)
        (λ a t. by_eq (site_key new) (node_of other)
        (λ b u. same_holder one other (sym a ∙ b) (s.apart (kind_of one) (kind_of other) n (sym (here one a) ∙ e) (sym (here other b) ∙ f) less))
        (λ b u. absurd (omega (arith, old_most other n (sym (there other b) ∙ f), less))))
        (λ a t. absurd (omega (arith, old_most one n (sym (there one a) ∙ e), less)))
