-- so it is in every run, and no instance is drawn twice

use Rattle.std.proofs.Common.{◌≡◌, ℕ, zero, suc, ◌<◌, ◌≤◌, ◌+◌, List, [], ◌∷◌, ◌++◌, length, slice_index_or, Option, None, Some, refl, sym, ◌∙◌, ap, subst, arith, append_assoc, ◌⊎◌, inl, inr}
use Rattle.std.specs.Prelude.{Contains}
use Rattle.law_world_pace.specs.world_model.Words.{NodeId, RouteChange, Next, Policy, Topology, World, site_key, put_away, next, worlds_from, world_after}
use Rattle.law_world_pace.specs.world_model.ipv4_forward.declared.table.Route.{Route}
use Rattle.law_controller_bindings.specs.ordered_lists.Ordered.{Every}
use Rattle.law_controller_bindings.proofs.ordered_lists.Every.{every_all}
use Rattle.law_controller_bindings.proofs.law_port_facts.Keyed.{at_every}
use Rattle.law_run_facts.proofs.Controllers.{May}
use Rattle.law_lifetimes.proofs.Opened.{IsFed, opening_fed}
use Rattle.law_lifetimes.proofs.Runs.{next_fed, run_fed}
use Rattle.law_world_pace.specs.world_model.network_model.declared.event.Event.{Event}
use Rattle.law_world_pace.specs.world_model.network_model.declared.event.Event.TheVariants.{Route as RouteEvent}
use Rattle.law_world_pace.specs.world_model.World.{opened}
use Rattle.law_run_facts.specs.Drawn.{Holder, own_at, IsNew, is_new, Draws, EventsDraw, RunsDrawOnce}
use Rattle.law_run_facts.proofs.Marked.{WorldMarked}
use Rattle.law_run_facts.proofs.Acting.{fed_whole, Left}
use Rattle.law_run_facts.proofs.Worlds.{event_left}
use Rattle.law_run_facts.proofs.Opening.{most_of, opened_marked, opened_apart}

module _ (Leads : NodeId → Next → Type 0) (t : Topology) where
  -- *One event*
  pub next_left : (w : World) (event : Event) → WorldMarked Leads w → Every IsFed w.sites → ((node : NodeId) (change : RouteChange) → event ≡ RouteEvent node change → May (Leads node) change.next)
      → Left Leads w (next t w event)
  next_left w event h fed can =
      let away : WorldMarked Leads (put_away w) = record { sites = h.sites; free = h.free } in
      let l = event_left Leads t (put_away w) away (λ node site found. fed_whole site (at_every site_key IsFed node.0 w.sites site fed found)) event can in
      record {
        marked = record { sites = l.marked.sites; free = l.marked.free };
        draws = record { more = l.draws.more; each = l.draws.each; apart = l.draws.apart };
        controls = l.controls;
        few = l.few;
      }

  -- *A run*
  pub run_marked : (events : List Event) (w : World)
      → ((before after : List Event) (event : Event) → events ≡ before ++ event ∷ after → (node : NodeId) (change : RouteChange) → event ≡ RouteEvent node change → May (Leads node) change.next)
      → WorldMarked Leads w → Every IsFed w.sites → WorldMarked Leads (world_after t w events)
  run_marked [] w can h fed = h
  run_marked (event ∷ events) w can h fed = run_marked events (next t w event) (λ before after e is. can (event ∷ before) after e (ap (λ es. event ∷ es) is))
      (next_left w event h fed (can [] events event refl)).marked (next_fed t w event fed)

-- *Any next hop*
abbrev pub Any : NodeId → Next → Type 0
Any node next = Unit {0}

any_next : (node : NodeId) (o : Option Next) → May (Any node) o
any_next node None = tt
any_next node (Some next) = tt

any_table : (node : NodeId) (table : List Route) → Every (λ (route : Route). Any node route.next) table
any_table node table = every_all (λ (route : Route). Any node route.next) table (λ route. tt)

pub any_marked : (policy : Policy) (t : Topology) (events : List Event) → WorldMarked Any (world_after t (opened policy t) events)
any_marked policy t events = run_marked Any t events (opened policy t) (λ before after event is node change e. any_next node change.next)
    (opened_marked Any policy t (λ k node e. any_table (record { 0 = 1 + k }) node.routes)) (opening_fed policy t)

pub any_left : (policy : Policy) (t : Topology) (events : List Event) (event : Event) → Left Any (world_after t (opened policy t) events) (next t (world_after t (opened policy t) events) event)
any_left policy t events event = next_left Any t (world_after t (opened policy t) events) event (any_marked policy t events) (run_fed t events (opened policy t) (opening_fed policy t)) (λ node change e. any_next node change.next)

pub events_draw : EventsDraw
events_draw policy topology before event = (any_left policy topology before event).draws

-- *Once*
among_more : (xs : List World) (y x : World) → Contains (xs ++ y ∷ []) x → Contains xs x ⊎ (y ≡ x)
among_more [] y x c = by c.0 c.1 c.2
  where
    by : (k : ℕ) → k < 1 → slice_index_or (y ∷ []) k x ≡ x → Contains [] x ⊎ (y ≡ x)
    by zero low e = inr e
    by (suc k) low e = absurd (omega (arith, low))
among_more (z ∷ xs) y x c = by (λ d. among_more xs y x d) c.0 c.1 c.2
  where
    by : (Contains (xs ++ y ∷ []) x → Contains xs x ⊎ (y ≡ x)) → (k : ℕ) → k < length (z ∷ (xs ++ y ∷ [])) → slice_index_or (z ∷ (xs ++ y ∷ [])) k x ≡ x → Contains (z ∷ xs) x ⊎ (y ≡ x)
    by rest zero low e = inl (0, omega arith, e)
    by rest (suc k) low e = elim (rest (k, omega (arith, low), e)) [
      | inl there ↦ inl (suc there.0, omega (arith, there.1), there.2)
      | inr same ↦ inr same
    ]

among_last : (xs : List World) (y : World) → Contains (xs ++ y ∷ []) y
among_last [] y = (0, omega arith, refl)
among_last (z ∷ xs) y = (let c = among_last xs y in (suc c.0, omega (arith, c.1), c.2))

record IsOnce (worlds : List World) (now : World) : Type 0 where
  given : (w : World) (holder : Holder) (n : ℕ) → Contains worlds w → own_at w holder ≡ Some n → n ≤ now.numbers.instances
  once : (w v : World) (one other : Holder) (n : ℕ) → Contains worlds w → Contains worlds v → own_at w one ≡ Some n → own_at v other ≡ Some n → one ≡ other
  there : Contains worlds now

one_more : (worlds : List World) (w v : World) → IsOnce worlds w → Draws w v → IsOnce (worlds ++ v ∷ []) v
one_more worlds w v h d = record {
  given = λ x holder n c e. elim (among_more worlds v x c) [
    | inl old ↦ omega (arith, h.given x holder n old e, d.more)
    | inr same ↦ given_now holder n (subst (λ (y : World). own_at y holder ≡ Some n) (sym same) e)
  ];
  once = λ x y one other n c k e f. elim (among_more worlds v x c) [
    | inl old ↦ elim (among_more worlds v y k) [
      | inl too ↦ h.once x y one other n old too e f
      | inr same ↦ sym (mixed y other one n (subst (λ (z : World). own_at z other ≡ Some n) (sym same) f) x old e)
    ]
    | inr same ↦ elim (among_more worlds v y k) [
      | inl old ↦ mixed x one other n (subst (λ (z : World). own_at z one ≡ Some n) (sym same) e) y old f
      | inr too ↦ both one other n (subst (λ (z : World). own_at z one ≡ Some n) (sym same) e) (subst (λ (z : World). own_at z other ≡ Some n) (sym too) f)
    ]
  ];
  there = among_last worlds v;
}
  where
    some_number : (x y : ℕ) → Some x ≡ Some y → x ≡ y
    some_number x y e = cc e

    -- what is now, was there before, or is new
    now_or_new : (holder : Holder) (n : ℕ) → own_at v holder ≡ Some n → (own_at w holder ≡ Some n) ⊎ ((w.numbers.instances < n) × (n ≤ v.numbers.instances))
    now_or_new holder n e = elim (d.each holder) [ inl same ↦ inl (sym same ∙ e) | inr new ↦ inr (by new) ]
      where
        by : IsNew w.numbers.instances v.numbers.instances (own_at v holder) → (w.numbers.instances < n) × (n ≤ v.numbers.instances)
        by (is_new m is less few) = (let same : m ≡ n = some_number m n (sym is ∙ e) in (omega (arith, same, less), omega (arith, same, few)))

    given_now : (holder : Holder) (n : ℕ) → own_at v holder ≡ Some n → n ≤ v.numbers.instances
    given_now holder n e = elim (now_or_new holder n e) [ inl old ↦ omega (arith, h.given w holder n h.there old, d.more) | inr new ↦ new.1 ]

    mixed : (z : World) (one other : Holder) (n : ℕ) → own_at v one ≡ Some n → (x : World) → Contains worlds x → own_at x other ≡ Some n → one ≡ other
    mixed z one other n e x c f = elim (now_or_new one n e) [
      | inl old ↦ h.once w x one other n h.there c old f
      | inr new ↦ absurd (omega (arith, h.given x other n c f, new.0))
    ]

    both : (one other : Holder) (n : ℕ) → own_at v one ≡ Some n → own_at v other ≡ Some n → one ≡ other
    both one other n e f = elim (now_or_new one n e) [
      | inl old ↦ sym (mixed v other one n f w h.there old)
      | inr new ↦ d.apart one other n e f new.0
    ]

module _ (t : Topology) where
  all_once : (events : List Event) (before : List World) (w : World) → WorldMarked Any w → Every IsFed w.sites → IsOnce (before ++ w ∷ []) w → IsOnce (before ++ worlds_from t w events) (world_after t w events)
  all_once [] before w h fed o = o
  all_once (event ∷ events) before w h fed o =
      let v : World = next t w event in
      let l = next_left Any t w event h fed (λ node change e. any_next node change.next) in
      subst (λ (ws : List World). IsOnce ws (world_after t v events)) (append_assoc before (w ∷ []) (worlds_from t v events))
      (all_once events (before ++ w ∷ []) v l.marked (next_fed t w event fed) (one_more (before ++ w ∷ []) w v o l.draws))

pub runs_draw_once : RunsDrawOnce
runs_draw_once policy topology events = record { given = o.given; once = o.once }
  where
    first : World
    first = opened policy topology

    marked : WorldMarked Any (opened policy topology)
    marked = opened_marked Any policy topology (λ k node e. any_table (record { 0 = 1 + k }) node.routes)

    begin : IsOnce (opened policy topology ∷ []) (opened policy topology)
    begin = record {
      given = λ w holder n c e. elim (among_more [] (opened policy topology) w c) [
        | inl none ↦ absurd (omega (arith, none.1))
        | inr same ↦ most holder n (subst (λ (z : World). own_at z holder ≡ Some n) (sym same) e)
      ];
      once = λ w v one other n c k e f. elim (among_more [] (opened policy topology) w c) [
        | inl none ↦ absurd (omega (arith, none.1))
        | inr same ↦ elim (among_more [] (opened policy topology) v k) [
          | inl none ↦ absurd (omega (arith, none.1))
          | inr too ↦ opened_apart Any policy topology (λ k node e. any_table (record { 0 = 1 + k }) node.routes) one other n
              (subst (λ (z : World). own_at z one ≡ Some n) (sym same) e) (subst (λ (z : World). own_at z other ≡ Some n) (sym too) f)
        ]
      ];
      there = (0, omega arith, refl);
    }
      where
        most : (holder : Holder) (n : ℕ) → own_at (opened policy topology) holder ≡ Some n → n ≤ (opened policy topology).numbers.instances
        most holder n e = most_of Any policy topology (opened policy topology) marked holder n e

    o : IsOnce (worlds_from topology (opened policy topology) events) (world_after topology (opened policy topology) events)
    o = all_once topology events [] (opened policy topology) marked (opening_fed policy topology) begin
