-- what a controller and a switch leave of a world: marks that were given out, and new instances

use Rattle.std.proofs.Common.{◌≡◌, ℕ, ◌<◌, ◌≤◌, ◌+◌, List, length, Option, None, Some, refl, sym, ◌∙◌, ap, subst, arith, ◌⊎◌, inl, inr}
use Rattle.law_world_pace.specs.world_model.Words.{NodeId, Channel, GivenOut, Cell, Next, Loss, noted, at, Setup, Controller, sends_control, Mark, frame_cells, made, PoolFull, setup_of, with_site, World, Site, site_key, site_at, controller_acts, switch_acts}
use Rattle.law_controller_bindings.specs.ordered_lists.Ordered.{Every}
use Rattle.law_controller_bindings.proofs.law_port_facts.Keyed.{on_both, at_key, at_every, put_every}
use Rattle.law_world_pace.specs.world_model.Switch as switches
use Rattle.law_world_pace.specs.world_model.Controller.{Acted, free_slots}
use Rattle.law_world_pace.specs.world_model.Sending.{with_cells}
use Rattle.std.specs.Prelude.{nat_le}
use Rattle.law_world_pace.specs.world_model.frame_model.Sending.{Sender}
use Rattle.law_controller_bindings.specs.law_controller_facts.Inputs.{Input, takes_input}
use Rattle.law_controller_bindings.specs.law_controller_facts.Sound.{IsSound, IsOwn, setups_by}
use Rattle.law_controller_bindings.proofs.law_controller_facts.Laws.{always_sound, input_draws, input_draws_marks}
use Rattle.std.proofs.lemmas.List.{length-map}
use Rattle.law_run_facts.specs.Inputs.{SwitchInput, switch_takes}
use Rattle.law_run_facts.specs.Frames.{IsFree}
use Rattle.law_run_facts.proofs.Switches as switching
use Rattle.law_run_facts.proofs.Switches.{Leaves, switch_leaves}
use Rattle.law_run_facts.proofs.Owns.{own_in, IsDrawn, is_drawn, Owns, input_owns}
use Rattle.law_run_facts.proofs.Controllers as controllers
use Rattle.law_run_facts.proofs.Controllers.{IsLeft, input_leaves}
use Rattle.law_lifetimes.proofs.Opened.{IsFed}
use Rattle.law_world_pace.specs.world_model.World.{at_controller, at_switch}
use Rattle.law_run_facts.specs.Drawn.{Holder, own_at, IsNew, Draws}
use Rattle.law_run_facts.proofs.Marked.{node_of, kind_of, own_is, own_found, Kind, IsController, IsSwitch, IsPort, own_as, SiteMarked, WorldMarked, sites_later, site_later, Popped, site_draws}

-- *A sound controller*, of at most 8 ports
pub record IsWhole (c : Controller) : Type 0 where
  pub setups : List Setup
  pub few : length setups ≤ 8
  pub sound : IsSound setups c

pub fed_whole : (site : Site) → IsFed site → IsWhole site.controller
fed_whole site fed = record {
  setups = setups_by fed.o;
  few = omega (arith, length-map fed.o.ranges (setup_of fed.o.node fed.o.address fed.o.timers fed.o.policy), fed.is.few);
  sound = subst (λ (c : Controller). IsSound (setups_by fed.o) c) fed.now (always_sound fed.o fed.inputs fed.is.differ);
}

-- what a control frame leaves as it is
pub sent_same : {B : Type 0} (f : Controller → B) (a : Acted) (channel : Channel) (payload : List ℕ) → ((cells : List Cell) → f (with_cells a.controller cells) ≡ f a.controller) → f (sends_control a channel payload).controller ≡ f a.controller
sent_same f a channel payload same =
    let mark : Mark = record { packet = 0; frame = a.numbers.controls + 1 } in
    on_both (λ (s : Sender Controller). f s.queues ≡ f a.controller) (nat_le (length (frame_cells channel mark payload)) (free_slots a.controller))
    (record { queues = with_cells a.controller (frame_cells channel mark payload); notes = made a.notes mark payload })
    (record { queues = a.controller; notes = noted (made a.notes mark payload) (Loss mark PoolFull) }) (same (frame_cells channel mark payload)) refl

some_number : (x y : ℕ) → Some x ≡ Some y → x ≡ y
some_number x y e = cc e

module _ (Leads : NodeId → Next → Type 0) where
  -- *What an event leaves*
  pub record Left (w v : World) : Type 0 where
    pub marked : WorldMarked Leads v
    pub draws : Draws w v
    pub controls : (w.numbers.controls ≤ v.numbers.controls) × (v.numbers.controls ≤ w.numbers.controls + 1000000)
    pub few : v.numbers.instances ≤ w.numbers.instances + 20

  -- where no instance changes
  pub still : (w v : World) → WorldMarked Leads w → ((holder : Holder) → own_at v holder ≡ own_at w holder) → v.numbers.instances ≡ w.numbers.instances
      → v.numbers.controls ≡ w.numbers.controls → WorldMarked Leads v → Left w v
  still w v h own instances controls k = record {
    marked = k;
    draws = record { more = omega (arith, instances); each = λ holder. inl (own holder); apart = λ one other n e f less. absurd (omega (arith, most one n (sym (own one) ∙ e), less)) };
    controls = (omega (arith, controls), omega (arith, controls));
    few = omega (arith, instances);
  }
    where
      most : (holder : Holder) (n : ℕ) → own_at w holder ≡ Some n → n ≤ w.numbers.instances
      most holder n e = by (at site_key (node_of holder) w.sites) refl (sym (own_is w holder) ∙ e)
        where
          by : (o : Option Site) → at site_key (node_of holder) w.sites ≡ o → own_found o (kind_of holder) ≡ Some n → n ≤ w.numbers.instances
          by None f k = absurd (cc k)
          by (Some site) f k = (at_every site_key (SiteMarked Leads w.numbers) (node_of holder) w.sites site h.sites f).most (kind_of holder) n k

  -- behind the head of a queue that was taken
  pub then_left : (w u v : World) → Popped Leads w u → Left u v → Left w v
  then_left w u v p l = record {
    marked = l.marked;
    draws = record {
      more = subst (λ (g : GivenOut). g.instances ≤ v.numbers.instances) p.numbers l.draws.more;
      each = λ holder. elim (l.draws.each holder) [ inl same ↦ inl (same ∙ p.own holder) | inr new ↦ inr (subst (λ (g : GivenOut). IsNew g.instances v.numbers.instances (own_at v holder)) p.numbers new) ];
      apart = λ one other n e f less. l.draws.apart one other n e f (subst (λ (g : GivenOut). g.instances < n) (sym p.numbers) less);
    };
    controls = subst (λ (g : GivenOut). (g.controls ≤ v.numbers.controls) × (v.numbers.controls ≤ g.controls + 1000000)) p.numbers l.controls;
    few = subst (λ (g : GivenOut). v.numbers.instances ≤ g.instances + 20) p.numbers l.few;
  }

  -- *A controller acts*
  abbrev pub acting : World → Site → Acted
  acting u site = record { controller = site.controller; notes = u.notes; numbers = u.numbers }

  pub is_left : (u : World) (site : Site) → SiteMarked Leads u.numbers site → IsFree u.numbers.controls u.notes.frames → IsLeft u.numbers.controls (Leads site.controller.node) (acting u site)
  is_left u site s free = (record { least = omega arith; waits = s.queue; gathered = s.chain; free = free }, s.table, s.waiting, s.taken)

  -- what it leaves of its site
  pub site_of : (u : World) (site : Site) (b : Acted) (n : NodeId) → n ≡ site.controller.node → b.controller.node ≡ n → IsLeft u.numbers.controls (Leads site.controller.node) b → u.numbers.controls ≤ b.numbers.controls → u.numbers.instances ≤ b.numbers.instances
      → own_as (record site { controller = b.controller }) IsController ≡ Some b.controller.adjacency.own.instance.0
      → b.controller.adjacency.own.instance.0 ≤ b.numbers.instances → ((key m : ℕ) → own_in b.controller.ports key ≡ Some m → m ≤ b.numbers.instances)
      → SiteMarked Leads u.numbers site → SiteMarked Leads b.numbers (record site { controller = b.controller })
  site_of u site b n is node l controls instances own most each s =
      let late : SiteMarked Leads b.numbers site = site_later Leads u.numbers b.numbers site controls instances s in
      record {
        queue = l.0.waits;
        chain = l.0.gathered;
        taken = l.3;
        table = subst (λ m. controllers.Table (Leads m) b.controller.table) (sym is ∙ sym node) l.1;
        waiting = subst (λ m. Every (controllers.Change (Leads m)) b.controller.waiting) (sym is ∙ sym node) l.2;
        queues = late.queues;
        requests = late.requests;
        most = by;
      }
    where
      by : (kind : Kind) (m : ℕ) → own_as (record site { controller = b.controller }) kind ≡ Some m → m ≤ b.numbers.instances
      by IsController m e = omega (arith, some_number b.controller.adjacency.own.instance.0 m e, most)
      by IsSwitch m e = omega (arith, s.most IsSwitch m e, instances)
      by (IsPort key) m e = each key m e

  pub controller_left : (u : World) (node : NodeId) (act : Acted → Acted) (input : Input) → ((a : Acted) → act a ≡ takes_input a input) → IsOwn input → WorldMarked Leads u
      → ((site : Site) → site_at u node ≡ Some site → IsWhole site.controller) → ((site : Site) → site_at u node ≡ Some site → controllers.IsFair u.numbers.controls (Leads site.controller.node) input)
      → Left u (at_controller u node act)
  controller_left u node act input is own h whole fair = by (site_at u node) refl
    where
      by : (o : Option Site) → site_at u node ≡ o → Left u (controller_acts u o act)
      by None found = still u u h (λ holder. refl) refl refl h
      by (Some site) found =
          let a : Acted = acting u site in
          let b : Acted = takes_input a input in
          let s : SiteMarked Leads u.numbers site = at_every site_key (SiteMarked Leads u.numbers) node.0 u.sites site h.sites found in
          let whole_site : IsWhole site.controller = whole site found in
          let o : Owns whole_site.setups site.controller u.numbers.instances b =
          input_owns whole_site.setups a input own whole_site.sound (s.most IsController site.controller.adjacency.own.instance.0 refl) (λ key n e. s.most (IsPort key) n e) in
          let l : IsLeft u.numbers.controls (Leads site.controller.node) b = input_leaves u.numbers.controls (Leads site.controller.node) a input (fair site found) (is_left u site s h.free) in
          subst (Left u) (ap (placed site) (sym (is a))) (left_by site found b o l
          (input_draws_marks whole_site.setups a input whole_site.few own whole_site.sound) (input_draws whole_site.setups a input whole_site.few own whole_site.sound) s)
        where
          placed : Site → Acted → World
          placed x b = record (with_site u (record x { controller = b.controller })) { notes = b.notes; numbers = b.numbers }

          left_by : (x : Site) → site_at u node ≡ Some x → (b : Acted) → {setups : List Setup} → Owns setups x.controller u.numbers.instances b → IsLeft u.numbers.controls (Leads x.controller.node) b
              → b.numbers.controls ≤ u.numbers.controls + 1000000 → b.numbers.instances ≤ u.numbers.instances + 20 → SiteMarked Leads u.numbers x → Left u (placed x b)
          left_by x there b o l few_controls few s = record {
            marked = record {
              sites = put_every site_key (SiteMarked Leads b.numbers) new u.sites
                  (site_of u x b x.controller.node refl o.node l l.0.least o.least refl o.most o.each_most s)
                  (sites_later Leads u.numbers b.numbers u.sites l.0.least o.least h.sites);
              free = l.0.free;
            };
            draws = site_draws Leads u (placed x b) x new h refl o.least (subst (λ k. at site_key k u.sites ≡ Some x) (sym key) there) (record { each = each; apart = apart });
            controls = (l.0.least, few_controls);
            few = few;
          }
            where
              new : Site
              new = record x { controller = b.controller }

              key : site_key new ≡ node.0
              key = ap (λ (n : NodeId). n.0) o.node ∙ at_key site_key node.0 u.sites x there

              each : (kind : Kind) → (own_as new kind ≡ own_as x kind) ⊎ IsDrawn u.numbers.instances b.numbers.instances (own_as new kind)
              each IsController = elim o.own [ inl same ↦ inl (ap Some same) | inr more ↦ inr (is_drawn b.controller.adjacency.own.instance.0 refl more o.most) ]
              each IsSwitch = inl refl
              each (IsPort k) = o.ports k

              old : (n : ℕ) → Some x.switch.adjacency.own.instance.0 ≡ Some n → u.numbers.instances < n → ⊥
              old n e less = absurd (omega (arith, s.most IsSwitch n e, less))

              apart : (one other : Kind) (n : ℕ) → own_as new one ≡ Some n → own_as new other ≡ Some n → u.numbers.instances < n → one ≡ other
              apart IsController IsController n e f less = refl
              apart IsController IsSwitch n e f less = absurd (old n f less)
              apart IsController (IsPort k) n e f less = absurd (o.apart_own k n f (some_number b.controller.adjacency.own.instance.0 n e) less)
              apart IsSwitch other n e f less = absurd (old n e less)
              apart (IsPort k) IsController n e f less = absurd (o.apart_own k n e (some_number b.controller.adjacency.own.instance.0 n f) less)
              apart (IsPort k) IsSwitch n e f less = absurd (old n f less)
              apart (IsPort k) (IsPort j) n e f less = ap IsPort (o.apart k j n e f less)

  -- *A switch acts*
  abbrev pub turning : World → Site → switches.ActedSwitch
  turning u site = record { switch = site.switch; notes = u.notes; numbers = u.numbers }

  abbrev pub turned : World → Site → switches.ActedSwitch → World
  turned u x b = record (with_site u (record x { switch = b.switch })) { notes = b.notes; numbers = b.numbers }

  pub switch_by : (u : World) (node : NodeId) (x : Site) (b : switches.ActedSwitch) → WorldMarked Leads u → site_at u node ≡ Some x → Leaves 1 (turning u x) b → Left u (turned u x b)
  switch_by u node x b h there l = record {
    marked = record {
      sites = put_every site_key (SiteMarked Leads b.numbers) new u.sites (record {
        queue = late.queue;
        chain = late.chain;
        taken = late.taken;
        table = late.table;
        waiting = late.waiting;
        queues = l.queues s.queues;
        requests = l.chain s.requests;
        most = most;
      }) (sites_later Leads u.numbers b.numbers u.sites l.controls.0 l.instances.0 h.sites);
      free = l.free h.free;
    };
    draws = site_draws Leads u (turned u x b) x new h refl l.instances.0 (subst (λ k. at site_key k u.sites ≡ Some x) (sym (at_key site_key node.0 u.sites x there)) there) (record { each = each; apart = apart });
    controls = (l.controls.0, omega (arith, l.controls.1));
    few = omega (arith, l.instances.1);
  }
    where
      new : Site
      new = record x { switch = b.switch }

      s : SiteMarked Leads u.numbers x
      s = at_every site_key (SiteMarked Leads u.numbers) node.0 u.sites x h.sites there

      late : SiteMarked Leads b.numbers x
      late = site_later Leads u.numbers b.numbers x l.controls.0 l.instances.0 s

      own_most : b.switch.adjacency.own.instance.0 ≤ b.numbers.instances
      own_most = elim l.own [ inl same ↦ omega (arith, same, s.most IsSwitch x.switch.adjacency.own.instance.0 refl, l.instances.0) | inr more ↦ more.1 ]

      most : (kind : Kind) (m : ℕ) → own_as new kind ≡ Some m → m ≤ b.numbers.instances
      most IsController m e = late.most IsController m e
      most IsSwitch m e = omega (arith, some_number b.switch.adjacency.own.instance.0 m e, own_most)
      most (IsPort k) m e = late.most (IsPort k) m e

      each : (kind : Kind) → (own_as new kind ≡ own_as x kind) ⊎ IsDrawn u.numbers.instances b.numbers.instances (own_as new kind)
      each IsController = inl refl
      each IsSwitch = elim l.own [ inl same ↦ inl (ap Some same) | inr more ↦ inr (is_drawn b.switch.adjacency.own.instance.0 refl more.0 more.1) ]
      each (IsPort k) = inl refl

      apart : (one other : Kind) (n : ℕ) → own_as new one ≡ Some n → own_as new other ≡ Some n → u.numbers.instances < n → one ≡ other
      apart IsController other n e f less = absurd (omega (arith, s.most IsController n e, less))
      apart IsSwitch IsController n e f less = absurd (omega (arith, s.most IsController n f, less))
      apart IsSwitch IsSwitch n e f less = refl
      apart IsSwitch (IsPort k) n e f less = absurd (omega (arith, s.most (IsPort k) n f, less))
      apart (IsPort k) other n e f less = absurd (omega (arith, s.most (IsPort k) n e, less))

  pub switch_left : (u : World) (node : NodeId) (input : SwitchInput) → WorldMarked Leads u → switching.IsFair u.numbers.controls input → Left u (at_switch u node (λ a. switch_takes a input))
  switch_left u node input h fair = by (site_at u node) refl
    where
      by : (o : Option Site) → site_at u node ≡ o → Left u (switch_acts u o (λ a. switch_takes a input))
      by None found = still u u h (λ holder. refl) refl refl h
      by (Some site) found = switch_by u node site (switch_takes (turning u site) input) h found (switch_leaves (turning u site) input fair)
