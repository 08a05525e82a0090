-- lifetimes in a run are those of the controllers, which take what the events bring them

use Rattle.std.proofs.Common.{◌≡◌, ℕ, Bool, true, false, List, [], ◌∷◌, ◌++◌, Option, None, Some, refl, sym, ◌∙◌, ap, ap₂, subst, arith, append-nil, if◌then◌else◌}
use Rattle.std.specs.Prelude.{◌+◌, ◌==◌, ◌&&◌}
use Rattle.std.specs.Option.{option_map, option_map_or, option_and_then}
use Rattle.std.proofs.lemmas.Bool.Decides.{nat_tests}
use Rattle.law_controller.specs.world_model.Words.{NodeId, PortNo, Down, Up, Out, GivenOut, Journal, Cell, Policy, control_end, Controller, Topology, World, Site, site_key, site_at, controller_at, queue_in, queue_at, put_away, next, world_after}
use Rattle.law_controller.specs.ordered_lists.Ordered.{Every}
use Rattle.law_controller.proofs.law_port_facts.Keyed.{at_every}
use Rattle.law_controller.specs.world_model.Controller.{Acted}
use Rattle.law_controller.specs.world_model.Ticks.{ticks}
use Rattle.law_controller.specs.law_controller_facts.Inputs.{Input, Ticks, Meanwhile, takes_input, takes_inputs}
use Rattle.law_controller.specs.law_controller_facts.Sound.{Opening, opened_by}
use Rattle.law_controller.specs.Law.{IsOpening}
use Rattle.law_controller.specs.world_model.network_model.declared.event.Event.{Event}
use Rattle.law_controller.specs.world_model.network_model.declared.event.Event.TheVariants.{Inject, Carry, Lose, Tick, TickSwitch, Restart, RestartSwitch, Forge, Route}
use Rattle.law_controller.specs.world_model.World.{opened}
use Rattle.law_lifetimes.specs.Expiry.{Sets}
use Rattle.law_lifetimes.specs.Aging.{one_tick, ticks_among, NotSet, NoneSets, IsCounted}
use Rattle.law_lifetimes.specs.Expiry.{reaches_at, has_switch, grant_at, HasEnded}
use Rattle.law_lifetimes.specs.Expiry.{HasLeft, stays_queued, SendsNone, EndsByReset}
use Rattle.law_lifetimes.specs.Run.{IsSetInRuns, EndsInRuns, SendsNoMoreInRuns, IsLedBackInRuns, IsEndedByResetInRuns}
use Rattle.law_lifetimes.specs.Lifetimes.{acted_in, if_at, head_comes, head_leaves, comes_to, NoneSetsIn, is_tick_of, reaches_in, ticks_reaching, IsCountedIn, grant_in, IsSetIn, stays_queued_in, IsConductIn}
use Rattle.law_lifetimes.proofs.Opened.{IsFed, opening_fed}
use Rattle.law_lifetimes.proofs.Feeding.{inputs_join, after_of, event_steps}
use Rattle.law_lifetimes.proofs.Ending.{is_set, ends_by_lifetime, is_ended_by_reset}
use Rattle.law_lifetimes.proofs.Silence.{sends_no_more}
use Rattle.law_lifetimes.proofs.LedBack.{is_led_back}

-- putting records away changes nothing of what comes
comes_same : (w : World) (node : NodeId) (event : Event) → comes_to (put_away w) node event ≡ comes_to w node event
comes_same w node (Inject here octets) = refl
comes_same w node (Carry (Down here)) = refl
comes_same w node (Carry (Up here)) = refl
comes_same w node (Carry (Out here port)) = refl
comes_same w node (Lose (Down here)) = refl
comes_same w node (Lose (Up here)) = refl
comes_same w node (Lose (Out here port)) = refl
comes_same w node (Tick here) = refl
comes_same w node (TickSwitch here) = refl
comes_same w node (Restart here) = refl
comes_same w node (RestartSwitch here) = refl
comes_same w node (Forge (Down here) channel payload) = refl
comes_same w node (Forge (Up here) channel payload) = refl
comes_same w node (Forge (Out here port) channel payload) = refl
comes_same w node (Route here change) = refl

module _ (topology : Topology) where
  -- *One event*
  pub next_fed : (w : World) (event : Event) → Every IsFed w.sites → Every IsFed (next topology w event).sites
  next_fed w event h = (event_steps topology (put_away w) h event).fed

  pub next_there : (w : World) (event : Event) (node : NodeId) (c : Controller) → Every IsFed w.sites → controller_at w node ≡ Some c
      → controller_at (next topology w event) node ≡ Some (after_of (put_away w).notes w.numbers c (comes_to w node event))
  next_there w event node c h there = subst (λ o. controller_at (next topology w event) node ≡ Some (after_of (put_away w).notes w.numbers c o)) (comes_same w node event)
      ((event_steps topology (put_away w) h event).each node c there)

  -- *A run*
  pub run_fed : (events : List Event) (w : World) → Every IsFed w.sites → Every IsFed (world_after topology w events).sites
  run_fed [] w h = h
  run_fed (event ∷ events) w h = run_fed events (next topology w event) (next_fed w event h)

  module _ (node : NodeId) (port : PortNo) (label : ℕ) where
    -- what comes to the controller in events, each time with the notes and the numbers of then
    abbrev inputs_by : Option Input → List Input → List Input
    inputs_by None rest = rest
    inputs_by (Some input) rest = input ∷ rest

    abbrev inputs_of : World → List Event → List Input
    inputs_of w [] = Meanwhile (put_away w).notes w.numbers ∷ []
    inputs_of w (event ∷ events) = Meanwhile (put_away w).notes w.numbers ∷ inputs_by (comes_to w node event) (inputs_of (next topology w event) events)

    abbrev ticks_by : Acted → Option Input → ℕ
    ticks_by a None = 0
    ticks_by a (Some input) = one_tick a port input

    -- ticks of the controller are ticks of the run
    at_none : (a : Acted) (here : NodeId) (o : Option Input) → ticks_by a o ≡ 0 → ticks_by a (if_at here node o) ≡ 0
    at_none a here o zero = by_test (here.0 == node.0)
      where
        by_test : (b : Bool) → ticks_by a (if b then o else None) ≡ 0
        by_test true = zero
        by_test false = refl

    comes_none : (a : Acted) (queue : List Cell) → ticks_by a (head_comes queue) ≡ 0
    comes_none a [] = refl
    comes_none a (cell ∷ cells) = refl

    leaves_none : (a : Acted) (queue : List Cell) → ticks_by a (head_leaves queue) ≡ 0
    leaves_none a [] = refl
    leaves_none a (cell ∷ cells) = refl

    one_same : (w : World) (c : Controller) (event : Event) → controller_at w node ≡ Some c → ticks_by (acted_in w c) (comes_to w node event) ≡ (if is_tick_of node event && reaches_in w node port then 1 else 0)
    one_same w c (Inject here octets) there = at_none (acted_in w c) here _ refl
    one_same w c (Carry (Down here)) there = at_none (acted_in w c) here (head_leaves (queue_at w (Down here))) (leaves_none (acted_in w c) (queue_at w (Down here)))
    one_same w c (Carry (Up here)) there = at_none (acted_in w c) here (head_comes (queue_at w (Up here))) (comes_none (acted_in w c) (queue_at w (Up here)))
    one_same w c (Carry (Out here q)) there = refl
    one_same w c (Lose (Down here)) there = at_none (acted_in w c) here (head_leaves (queue_at w (Down here))) (leaves_none (acted_in w c) (queue_at w (Down here)))
    one_same w c (Lose (Up here)) there = refl
    one_same w c (Lose (Out here q)) there = refl
    one_same w c (Tick here) there = by_test (here.0 == node.0)
      where
        reach : reaches_at c port ≡ reaches_in w node port
        reach = sym (ap (λ (o : Option Controller). option_map_or (λ (x : Controller). reaches_at x port) o false) there)

        by_test : (b : Bool) → ticks_by (acted_in w c) (if b then Some Ticks else None) ≡ (if b && reaches_in w node port then 1 else 0)
        by_test true = ap (λ (b : Bool). if b then 1 else 0) reach
        by_test false = refl
    one_same w c (TickSwitch here) there = refl
    one_same w c (Restart here) there = at_none (acted_in w c) here _ refl
    one_same w c (RestartSwitch here) there = refl
    one_same w c (Forge (Down here) channel payload) there = at_none (acted_in w c) here _ refl
    one_same w c (Forge (Up here) channel payload) there = refl
    one_same w c (Forge (Out here q) channel payload) there = refl
    one_same w c (Route here change) there = at_none (acted_in w c) here _ refl

    -- *The controller follows the run*
    record Follows (w : World) (events : List Event) (a : Acted) : Type 0 where
      controller : Controller
      there : controller_at (world_after topology w events) node ≡ Some controller
      now : takes_inputs a (inputs_of w events) ≡ acted_in (world_after topology w events) controller
      unset : NoneSetsIn topology w node port label events → NoneSets a port label (inputs_of w events)
      counted : ticks_among a port (inputs_of w events) ≡ ticks_reaching topology w node port events

    none_first : (n : ℕ) → 0 + n ≡ n
    none_first n = omega arith

    meanwhile_unset : (a : Acted) (notes : Journal) (numbers : GivenOut) → NotSet a port label (Meanwhile notes numbers)
    meanwhile_unset a notes numbers lifetime sets = absurd (cc sets.heard.comes)

    follows : (events : List Event) (w : World) (a : Acted) → Every IsFed w.sites → controller_at w node ≡ Some a.controller → Follows w events a
    follows [] w a h there = record {
      controller = a.controller;
      there = there;
      now = refl;
      unset = λ t. (meanwhile_unset a (put_away w).notes w.numbers, tt);
      counted = refl;
    }
    follows (event ∷ events) w a h there = by_input (λ x on. follows events (next topology w event) x (next_fed w event h) on) (comes_to w node event) refl
      where
        by_input : ((x : Acted) → controller_at (next topology w event) node ≡ Some x.controller → Follows (next topology w event) events x) → (o : Option Input) → comes_to w node event ≡ o → Follows w (event ∷ events) a
        by_input goes None e =
            let rest : Follows (next topology w event) events (acted_in w a.controller) = goes (acted_in w a.controller)
            (subst (λ o. controller_at (next topology w event) node ≡ Some (after_of (put_away w).notes w.numbers a.controller o)) e (next_there w event node a.controller h there)) in
            record {
              controller = rest.controller;
              there = rest.there;
              now = ap (λ (o : Option Input). takes_inputs (acted_in w a.controller) (inputs_by o (inputs_of (next topology w event) events))) e ∙ rest.now;
              unset = λ u. (meanwhile_unset a (put_away w).notes w.numbers, subst (λ (o : Option Input). NoneSets (acted_in w a.controller) port label (inputs_by o (inputs_of (next topology w event) events))) (sym e) (rest.unset u.1));
              counted = none_first _ ∙ (ap (λ (o : Option Input). ticks_among (acted_in w a.controller) port (inputs_by o (inputs_of (next topology w event) events))) e ∙ rest.counted
                  ∙ (sym (none_first _) ∙ ap (λ (n : ℕ). n + ticks_reaching topology (next topology w event) node port events) (sym (ap (ticks_by (acted_in w a.controller)) e) ∙ one_same w a.controller event there)));
            }
        by_input goes (Some input) e =
            let taken : Acted = takes_input (acted_in w a.controller) input in
            let rest : Follows (next topology w event) events taken = goes taken
            (subst (λ o. controller_at (next topology w event) node ≡ Some (after_of (put_away w).notes w.numbers a.controller o)) e (next_there w event node a.controller h there)) in
            record {
              controller = rest.controller;
              there = rest.there;
              now = ap (λ (o : Option Input). takes_inputs (acted_in w a.controller) (inputs_by o (inputs_of (next topology w event) events))) e ∙ rest.now;
              unset = λ u. (
                meanwhile_unset a (put_away w).notes w.numbers,
                subst (λ (o : Option Input). NoneSets (acted_in w a.controller) port label (inputs_by o (inputs_of (next topology w event) events))) (sym e)
                    ((λ lifetime sets. u.0 lifetime (record { controller = a.controller; there = there; input = input; comes = e; sets = sets })), rest.unset u.1),
              );
              counted = none_first _ ∙ (ap (λ (o : Option Input). ticks_among (acted_in w a.controller) port (inputs_by o (inputs_of (next topology w event) events))) e
                  ∙ ap₂ (λ (m n : ℕ). m + n) (sym (ap (ticks_by (acted_in w a.controller)) e) ∙ one_same w a.controller event there) rest.counted);
            }

-- *A count of the run* is one of the controller
module _ (policy : Policy) (topology : Topology) (node : NodeId) (port : PortNo) (label lifetime : ℕ) (w : World) (ticks : ℕ) (counted : IsCountedIn policy topology node port label lifetime w ticks) where
  abbrev set_in : World
  set_in = world_after topology (opened policy topology) counted.before

  set_fed : Every IsFed set_in.sites
  set_fed = run_fed topology counted.before (opened policy topology) (opening_fed policy topology)

  pub now_fed : Every IsFed w.sites
  now_fed = subst (λ (u : World). Every IsFed u.sites) counted.now (run_fed topology counted.after (next topology set_in counted.setting) (next_fed topology set_in counted.setting set_fed))

  -- the site where it was set
  record SetAt : Type 0 where
    site : Site
    found : site_at set_in node ≡ Some site
    is : site.controller ≡ counted.sets.controller

  set_at : SetAt
  set_at = by_found (site_at set_in node) refl counted.sets.there
    where
      by_found : (o : Option Site) → site_at set_in node ≡ o → option_map (λ (x : Site). x.controller) o ≡ Some counted.sets.controller → SetAt
      by_found None found there = absurd (cc there)
      by_found (Some site) found there = record { site = site; found = found; is = cc }

  fed : IsFed set_at.site
  fed = at_every site_key IsFed node.0 set_in.sites set_at.site set_fed set_at.found

  abbrev inputs_before : List Input
  inputs_before = fed.inputs ++ Meanwhile (put_away set_in).notes set_in.numbers ∷ []

  before_is : takes_inputs (opened_by fed.o) inputs_before ≡ acted_in set_in counted.sets.controller
  before_is = inputs_join fed.inputs (Meanwhile (put_away set_in).notes set_in.numbers ∷ []) (opened_by fed.o) ∙ ap (λ (c : Controller). acted_in set_in c) (fed.now ∙ set_at.is)

  abbrev set_now : Acted
  set_now = takes_input (acted_in set_in counted.sets.controller) counted.sets.input

  set_there : controller_at (next topology set_in counted.setting) node ≡ Some set_now.controller
  set_there = subst (λ (o : Option Input). controller_at (next topology set_in counted.setting) node ≡ Some (after_of (put_away set_in).notes set_in.numbers counted.sets.controller o)) counted.sets.comes
      (next_there topology set_in counted.setting node counted.sets.controller set_fed counted.sets.there)

  follow : Follows topology node port label (next topology set_in counted.setting) counted.after set_now
  follow = follows topology node port label counted.after (next topology set_in counted.setting) set_now (next_fed topology set_in counted.setting set_fed)
      set_there

  pub set_here : IsSetIn (next topology set_in counted.setting) node port label lifetime
  set_here = record {
    controller = set_now.controller;
    there = set_there;
    set = subst (λ (a : Acted). has_switch (takes_input a counted.sets.input).controller ≡ true → HasLeft (grant_at (takes_input a counted.sets.input).controller port label) lifetime) before_is
        (is_set fed.o inputs_before port label lifetime counted.sets.input fed.is (subst (λ (a : Acted). Sets a counted.sets.input port label lifetime) (sym before_is) counted.sets.sets));
  }

  -- in the controller that stands there now
  pub record CountedAt : Type 0 where
    pub controller : Controller
    pub there : controller_at w node ≡ Some controller
    pub o : Opening
    pub is : IsOpening o
    pub counts : IsCounted o port label lifetime (acted_in w controller) ticks

  pub counted_at : CountedAt
  counted_at = record {
    controller = follow.controller;
    there = subst (λ (u : World). controller_at u node ≡ Some follow.controller) counted.now follow.there;
    o = fed.o;
    is = fed.is;
    counts = record {
      before = inputs_before;
      setting = counted.sets.input;
      sets = subst (λ (a : Acted). Sets a counted.sets.input port label lifetime) (sym before_is) counted.sets.sets;
      after = inputs_of topology node port label (next topology set_in counted.setting) counted.after;
      unset = subst (λ (a : Acted). NoneSets (takes_input a counted.sets.input) port label (inputs_of topology node port label (next topology set_in counted.setting) counted.after)) (sym before_is) (follow.unset counted.unset);
      counted = subst (λ (a : Acted). ticks_among (takes_input a counted.sets.input) port (inputs_of topology node port label (next topology set_in counted.setting) counted.after) ≡ ticks) (sym before_is) (follow.counted ∙ counted.counted);
      now = subst (λ (u : World). takes_inputs (takes_input (takes_inputs (opened_by fed.o) inputs_before) counted.sets.input) (inputs_of topology node port label (next topology set_in counted.setting) counted.after) ≡ acted_in u follow.controller) counted.now
          (ap (λ (a : Acted). takes_inputs (takes_input a counted.sets.input) (inputs_of topology node port label (next topology set_in counted.setting) counted.after)) before_is ∙ follow.now);
    };
  }

-- *The laws*
granted : (w : World) (node : NodeId) (port : PortNo) (label : ℕ) (c : Controller) → controller_at w node ≡ Some c → grant_at c port label ≡ grant_in w node port label
granted w node port label c there = sym (ap (option_and_then (λ (x : Controller). grant_at x port label)) there)

pub ends_in_runs : EndsInRuns
ends_in_runs policy topology node port label lifetime w ticks counted passed =
    let k : CountedAt policy topology node port label lifetime w ticks counted = counted_at policy topology node port label lifetime w ticks counted in
    subst HasEnded (granted w node port label k.controller k.there) (ends_by_lifetime k.o port label lifetime (acted_in w k.controller) ticks k.is k.counts passed)

-- the queue of a controller
queue_there : (w : World) (node : NodeId) (c : Controller) → controller_at w node ≡ Some c → queue_at w (Down node) ≡ c.queue
queue_there w node c there = by_found (site_at w node) there
  where
    by_found : (o : Option Site) → option_map (λ (x : Site). x.controller) o ≡ Some c → option_map_or (λ site. queue_in site (Down node)) o [] ≡ c.queue
    by_found None e = absurd (cc e)
    by_found (Some site) e = (let same : site.controller ≡ c = cc in ap (λ (x : Controller). x.queue) same)

pub sends_no_more_in_runs : SendsNoMoreInRuns
sends_no_more_in_runs policy topology node port label lifetime w ticks counted passed event conduct unset =
    by_input (comes_to w node event) refl conduct (next_there topology w event node k.controller (now_fed policy topology node port label lifetime w ticks counted) k.there)
  where
    k : CountedAt policy topology node port label lifetime w ticks counted
    k = counted_at policy topology node port label lifetime w ticks counted

    by_input : (o : Option Input) → comes_to w node event ≡ o → IsConductIn o → controller_at (next topology w event) node ≡ Some (after_of (put_away w).notes w.numbers k.controller o)
        → SendsNone (control_end port label).channel (stays_queued_in o (queue_at w (Down node))) (queue_at (next topology w event) (Down node))
    by_input None e own there = record { sent = []; joined = queue_there (next topology w event) node k.controller there ∙ (sym (queue_there w node k.controller k.there) ∙ sym (append-nil (queue_at w (Down node)))); others = tt }
    by_input (Some input) e own there =
        let none : SendsNone (control_end port label).channel (stays_queued input k.controller.queue) (takes_input (acted_in w k.controller) input).controller.queue =
        sends_no_more k.o port label lifetime (acted_in w k.controller) ticks k.is k.counts passed input own (λ l sets. unset l (record { controller = k.controller; there = k.there; input = input; comes = e; sets = sets })) in
        subst (λ (q : List Cell). SendsNone (control_end port label).channel (stays_queued input q) (queue_at (next topology w event) (Down node))) (sym (queue_there w node k.controller k.there))
        (subst (λ (q : List Cell). SendsNone (control_end port label).channel (stays_queued input k.controller.queue) q) (sym (queue_there (next topology w event) node (takes_input (acted_in w k.controller) input).controller there)) none)

itself : (n : ℕ) → (n == n) ≡ true
itself n = grind (arith, nat_tests)

pub is_set_in_runs : IsSetInRuns
is_set_in_runs policy topology events event node port label lifetime sets =
    set_here policy topology node port label lifetime (next topology (world_after topology (opened policy topology) events) event) 0
    (record { before = events; setting = event; sets = sets; after = []; unset = tt; counted = refl; now = refl })

pub is_led_back_in_runs : IsLedBackInRuns
is_led_back_in_runs policy topology node port label lifetime w before counted passed reach grant input grants lent =
    let k : CountedAt policy topology node port label lifetime w before counted = counted_at policy topology node port label lifetime w before counted in
    record {
      controller = (ticks (acted_in w k.controller)).controller;
      there = subst (λ (b : Bool). controller_at (next topology w (Tick node)) node ≡ Some (after_of (put_away w).notes w.numbers k.controller (if b then Some Ticks else None))) (itself node.0)
          (next_there topology w (Tick node) node k.controller (now_fed policy topology node port label lifetime w before counted) k.there);
      led = is_led_back k.o port label lifetime (acted_in w k.controller) before k.is k.counts passed
          (subst (λ (o : Option Controller). option_map_or (λ (x : Controller). reaches_at x port) o false ≡ true) k.there reach) grant input (granted w node port label k.controller k.there ∙ grants) lent;
    }

pub is_ended_by_reset_in_runs : IsEndedByResetInRuns
is_ended_by_reset_in_runs policy topology events node port controller there = by_found (site_at w node) refl there
  where
    w : World
    w = world_after topology (opened policy topology) events

    by_found : (o : Option Site) → site_at w node ≡ o → option_map (λ (x : Site). x.controller) o ≡ Some controller → EndsByReset (acted_in w controller) port
    by_found None found e = absurd (cc e)
    by_found (Some site) found e =
        let same : site.controller ≡ controller = cc in
        let fed : IsFed site = at_every site_key IsFed node.0 w.sites site (run_fed topology events (opened policy topology) (opening_fed policy topology)) found in
        subst (λ (a : Acted). EndsByReset a port) (inputs_join fed.inputs (Meanwhile (put_away w).notes w.numbers ∷ []) (opened_by fed.o) ∙ ap (λ (c : Controller). acted_in w c) (fed.now ∙ same))
        (is_ended_by_reset fed.o (fed.inputs ++ Meanwhile (put_away w).notes w.numbers ∷ []) port fed.is)
