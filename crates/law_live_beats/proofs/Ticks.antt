-- ticks of the controllers and of the switches of a network, one after another

use Rattle.std.proofs.Common.{◌≡◌, ◌≢◌, ℕ, suc, ◌<◌, ◌&&◌, Bool, true, false, List, [], ◌∷◌, ◌++◌, Option, None, Some, refl, sym, ◌∙◌, ap, subst, arith, if◌then◌else◌, map}
use Rattle.std.specs.Prelude.{◌||◌}
use Rattle.std.specs.List.{list_all, list_any}
use Rattle.live_model.specs.world_model.Words.{NodeId, Place, at, put, tick_comes, Topology, World, Site, site_key, site_at, controller_acts, switch_acts, AreShaped, put_away, next, tick_of, switch_tick_of, world_after}
use Rattle.live_model.specs.world_model.Switch as switches
use Rattle.live_model.specs.world_model.Controller as controllers
use Rattle.live_model.specs.world_model.Ticks.{ticks}
use Rattle.live_model.specs.world_model.network_model.declared.event.Event.{Event}
use Rattle.live_model.specs.world_model.network_model.declared.event.Event.TheVariants.{Inject, Carry, Lose, Tick, TickSwitch, Restart, RestartSwitch, Forge, Route}
use Rattle.live_model.specs.Beats.{is_sending}
use Rattle.law_actor_pace.proofs.Paces.{follows}
use Rattle.law_actor_pace.proofs.Controllers.{ticks_paces}
use Rattle.law_port_facts.specs.ordered_lists.Ordered.{Every, InOrder}
use Rattle.law_port_facts.proofs.Keyed.{by_eq, at_key, at_put_same, at_put_other, each_found}
use Rattle.law_live_beats.specs.Law.{IsTicked, TicksReachAll, is_tick, TicksComeFirst}

abbrev AreApart : List Site → Type 0
AreApart sites = InOrder (λ (a b : Site). site_key a ≢ site_key b) sites

-- *The nodes of a network* are apart
later_apart : (n m : ℕ) (sites : List Site) → n < m → AreShaped m sites → Every (λ (s : Site). n ≢ site_key s) sites
later_apart n m [] below shaped = tt
later_apart n m (s ∷ sites) below shaped = ((λ e. omega (arith, e, shaped.0.node, below)), later_apart n (suc m) sites (omega (arith, below)) shaped.1)

keys_apart : (m : ℕ) (sites : List Site) → AreShaped m sites → AreApart sites
keys_apart m [] shaped = tt
keys_apart m (s ∷ sites) shaped =
    (subst (λ n. Every (λ (b : Site). n ≢ site_key b) sites) (sym shaped.0.node) (later_apart m (suc m) sites (omega arith) shaped.1), keys_apart (suc m) sites shaped.1)

-- *A node among others*
turned : (k : ℕ) (sites : List Site) (s : Site) → Every (λ (b : Site). site_key s ≢ site_key b) sites → site_key s ≡ k → Every (λ (b : Site). site_key b ≢ k) sites
turned k [] s apart same = tt
turned k (b ∷ sites) s apart same = ((λ e. apart.0 (same ∙ sym e)), turned k sites s apart.1 same)

module _ (topology : Topology) where
  -- *A controller ticks*
  module _ (w : World) (site : Site) (found : at site_key (site_key site) w.sites ≡ Some site) where
    abbrev acted : controllers.Acted
    acted = record { controller = site.controller; notes = (put_away w).notes; numbers = w.numbers }

    abbrev next_site : Site
    next_site = record site { controller = (ticks acted).controller }

    key : site_key next_site ≡ site_key site
    key = ap (λ (n : NodeId). n.0) (follows 0 acted (ticks acted) (ticks_paces 0 acted)).node

    sites_put : (next topology w (Tick site.controller.node)).sites ≡ put site_key next_site w.sites
    sites_put = ap (λ (o : Option Site). (controller_acts (put_away w) o ticks).sites) found

    here : at site_key (site_key site) (next topology w (Tick site.controller.node)).sites ≡ Some next_site
    here = ap (at site_key (site_key site)) sites_put
        ∙ subst (λ k. at site_key k (put site_key next_site w.sites) ≡ Some next_site) key
        (at_put_same site_key next_site w.sites site (subst (λ k. at site_key k w.sites ≡ Some site) (sym key) found))

    elsewhere : (k : ℕ) → site_key site ≢ k → at site_key k (next topology w (Tick site.controller.node)).sites ≡ at site_key k w.sites
    elsewhere k other = ap (at site_key k) sites_put ∙ at_put_other site_key next_site k w.sites (λ e. other (sym key ∙ e))

  abbrev AreIn : World → List Site → Type 0
  AreIn w sites = Every (λ (s : Site). at site_key (site_key s) w.sites ≡ Some s) sites

  still_in : (w : World) (site : Site) (found : at site_key (site_key site) w.sites ≡ Some site) (sites : List Site)
      → Every (λ (b : Site). site_key site ≢ site_key b) sites → AreIn w sites → AreIn (next topology w (Tick site.controller.node)) sites
  still_in w site found [] apart are = tt
  still_in w site found (b ∷ sites) apart are = (elsewhere w site found (site_key b) apart.0 ∙ are.0, still_in w site found sites apart.1 are.1)

  controllers_stay : (sites : List Site) (w : World) (k : ℕ) → AreApart sites → AreIn w sites → Every (λ (b : Site). site_key b ≢ k) sites
      → at site_key k (world_after topology w (map tick_of sites)).sites ≡ at site_key k w.sites
  controllers_stay [] w k apart are others = refl
  controllers_stay (s ∷ sites) w k apart are others =
      controllers_stay sites (next topology w (Tick s.controller.node)) k apart.1 (still_in w s are.0 sites apart.0 are.1) others.1
      ∙ elsewhere w s are.0 k others.0

  record ControllerTicked (before : Site) (now : Option Site) : Type 0 where
    controller : controllers.Acted
    own : controller.controller ≡ before.controller
    there : now ≡ Some (record before { controller = (ticks controller).controller })

  controllers_tick : (sites : List Site) (w : World) (k : ℕ) (site : Site) → AreApart sites → AreIn w sites → at site_key k sites ≡ Some site
      → ControllerTicked site (at site_key k (world_after topology w (map tick_of sites)).sites)
  controllers_tick [] w k site apart are e = absurd (cc e)
  controllers_tick (s ∷ sites) w k site apart are e = by_eq (site_key s) k
      (λ same t. first same (one s site (sym (ap (λ (b : Bool). if b then Some s else at site_key k sites) t) ∙ e)))
      (λ other t. controllers_tick sites (next topology w (Tick s.controller.node)) k site apart.1 (still_in w s are.0 sites apart.0 are.1)
      (sym (ap (λ (b : Bool). if b then Some s else at site_key k sites) t) ∙ e))
    where
      one : (a b : Site) → Some a ≡ Some b → a ≡ b
      one a b e = cc

      first : site_key s ≡ k → s ≡ site → ControllerTicked site (at site_key k (world_after topology w (map tick_of (s ∷ sites))).sites)
      first same is = subst (λ (x : Site). ControllerTicked x (at site_key k (world_after topology w (map tick_of (s ∷ sites))).sites)) is (record {
        controller = acted w s are.0;
        own = refl;
        there = controllers_stay sites (next topology w (Tick s.controller.node)) k apart.1 (still_in w s are.0 sites apart.0 are.1) (turned k sites s apart.0 same)
            ∙ subst (λ n. at site_key n (next topology w (Tick s.controller.node)).sites ≡ Some (next_site w s are.0)) same (here w s are.0);
      })

  -- *A switch ticks*
  module _ (w : World) (node : NodeId) where
    switch_put : (k : ℕ) → node.0 ≢ k → at site_key k (next topology w (TickSwitch node)).sites ≡ at site_key k w.sites
    switch_put k other = by (site_at w node) refl
      where
        by : (o : Option Site) → site_at w node ≡ o → at site_key k (switch_acts (put_away w) o tick_comes).sites ≡ at site_key k w.sites
        by None found = refl
        by (Some site) found = at_put_other site_key (record site { switch = (tick_comes (record { switch = site.switch; notes = (put_away w).notes; numbers = w.numbers })).switch }) k w.sites
            (λ e. other (sym (at_key site_key node.0 w.sites site found) ∙ e))

  switches_stay : (sites : List Site) (w : World) (k : ℕ) → Every (λ (b : Site). site_key b ≢ k) sites
      → at site_key k (world_after topology w (map switch_tick_of sites)).sites ≡ at site_key k w.sites
  switches_stay [] w k others = refl
  switches_stay (s ∷ sites) w k others =
      switches_stay sites (next topology w (TickSwitch s.controller.node)) k others.1 ∙ switch_put w s.controller.node k others.0

  record SwitchTicked (before : Site) (now : Option Site) : Type 0 where
    switch : switches.ActedSwitch
    own : switch.switch ≡ before.switch
    there : now ≡ Some (record before { switch = (tick_comes switch).switch })

  abbrev switched : World → Site → Site
  switched w site = record site { switch = (tick_comes (record { switch = site.switch; notes = (put_away w).notes; numbers = w.numbers })).switch }

  switches_tick : (sites : List Site) (w : World) (k : ℕ) (named site : Site) → AreApart sites → at site_key k sites ≡ Some named → at site_key k w.sites ≡ Some site
      → SwitchTicked site (at site_key k (world_after topology w (map switch_tick_of sites)).sites)
  switches_tick [] w k named site apart e found = absurd (cc e)
  switches_tick (s ∷ sites) w k named site apart e found = by_eq (site_key s) k
      (λ same t. record {
        switch = record { switch = site.switch; notes = (put_away w).notes; numbers = w.numbers };
        own = refl;
        there = switches_stay sites (next topology w (TickSwitch s.controller.node)) k (turned k sites s apart.0 same) ∙ first same;
      })
      (λ other t. switches_tick sites (next topology w (TickSwitch s.controller.node)) k named site apart.1
      (sym (ap (λ (b : Bool). if b then Some s else at site_key k sites) t) ∙ e) (switch_put w s.controller.node k other ∙ found))
    where
      first : site_key s ≡ k → at site_key k (next topology w (TickSwitch s.controller.node)).sites ≡ Some (switched w site)
      first same =
          let there : at site_key (site_key s) w.sites ≡ Some site = subst (λ n. at site_key n w.sites ≡ Some site) (sym same) found in
          let own : site_key site ≡ k = at_key site_key k w.sites site found in
          ap (λ (o : Option Site). at site_key k (switch_acts (put_away w) o tick_comes).sites) there
          ∙ subst (λ n. at site_key n (put site_key (switched w site) w.sites) ≡ Some (switched w site)) own
          (at_put_same site_key (switched w site) w.sites site (subst (λ n. at site_key n w.sites ≡ Some site) (sym own) found))

  -- *All of them*
  then_after : (xs ys : List Event) (w : World) → world_after topology w (xs ++ ys) ≡ world_after topology (world_after topology w xs) ys
  then_after [] ys w = refl
  then_after (x ∷ xs) ys w = then_after xs ys (next topology w x)

  all_tick : (w : World) (k : ℕ) (site : Site) → AreShaped 1 w.sites → at site_key k w.sites ≡ Some site
      → IsTicked site (at site_key k (world_after topology w (map tick_of w.sites ++ map switch_tick_of w.sites)).sites)
  all_tick w k site shaped found =
      let apart : AreApart w.sites = keys_apart 1 w.sites shaped in
      let c : ControllerTicked site (at site_key k (world_after topology w (map tick_of w.sites)).sites) = controllers_tick w.sites w k site apart (each_found site_key w.sites apart) found in
      let between : Site = record site { controller = (ticks c.controller).controller } in
      let s : SwitchTicked between (at site_key k (world_after topology (world_after topology w (map tick_of w.sites)) (map switch_tick_of w.sites)).sites) =
      switches_tick w.sites (world_after topology w (map tick_of w.sites)) k site between apart found c.there in
      record {
        after = record between { switch = (tick_comes s.switch).switch };
        there = ap (λ (v : World). at site_key k v.sites) (then_after (map tick_of w.sites) (map switch_tick_of w.sites) w) ∙ s.there;
        ticked = record {
          controller = c.controller;
          own_controller = c.own;
          controller_ticked = refl;
          switch = s.switch;
          own_switch = s.own;
          switch_ticked = refl;
        };
      }

pub ticks_reach_all : TicksReachAll
ticks_reach_all topology w node site shaped found = all_tick topology w node.0 site shaped found

-- *No other tick*
none_sent : (events : List Event) → list_all is_sending events ≡ true → list_any is_tick events ≡ false
none_sent [] sends = refl
none_sent (event ∷ events) sends =
    ap (λ (b : Bool). b || list_any is_tick events) (one event (front (is_sending event) (list_all is_sending events) sends))
    ∙ none_sent events (rest (is_sending event) (list_all is_sending events) sends)
  where
    front : (a b : Bool) → (a && b) ≡ true → a ≡ true
    front true b h = refl
    front false b h = absurd (cc h)

    rest : (a b : Bool) → (a && b) ≡ true → b ≡ true
    rest true b h = h
    rest false b h = absurd (cc h)

    one : (event : Event) → is_sending event ≡ true → is_tick event ≡ false
    one (Inject node octets) h = refl
    one (Carry place) h = refl
    one (Lose place) h = refl
    one (Tick node) h = absurd (cc h)
    one (TickSwitch node) h = absurd (cc h)
    one (Restart node) h = refl
    one (RestartSwitch node) h = refl
    one (Forge place channel payload) h = refl
    one (Route node change) h = refl

none_carried : (places : List Place) (events : List Event) → list_any is_tick events ≡ false → list_any is_tick (map Carry places ++ events) ≡ false
none_carried [] events none = none
none_carried (place ∷ places) events none = none_carried places events none

pub ticks_come_first : TicksComeFirst
ticks_come_first topology w beat is = none_carried beat.carries beat.sending (none_sent beat.sending is.sends)
