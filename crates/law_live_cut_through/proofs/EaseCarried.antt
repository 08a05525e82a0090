-- who has heard its peer lately has so behind each cell that is carried

use Rattle.std.proofs.Common.{◌≡◌, ℕ, ◌≤◌, ◌<◌, List, [], ◌∷◌, Option, None, Some, refl, sym, ap, subst, arith}
use Rattle.std.specs.Option.{option_map}
use Rattle.world_model.specs.Words.{NodeId, PortNo, Place, Down, Up, Out, Cell, Party, control_port, at, put, Topology, World, Site, site_key, site_at, switch_acts, queue_at, with_queue_in, with_queue, carries_head, arrives_at, put_away, next}
use Rattle.world_model.specs.adjacency_table.Table.{silence_limit}
use Rattle.world_model.specs.Switch.{ActedSwitch}
use Rattle.world_model.specs.Conduct as conduct
use Rattle.world_model.specs.Controller as controllers
use Rattle.world_model.specs.Cells as cells_of
use Rattle.world_model.specs.Topology.{peer_of}
use Rattle.world_model.specs.World.{at_switch}
use Rattle.world_model.specs.network_model.declared.link.LinkEnd.{LinkEnd}
use Rattle.world_model.specs.network_model.declared.event.Event.TheVariants.{Carry}
use Rattle.world_model.proofs.Lists.{by_eq, at_put_same, at_put_other}
use Rattle.law_live_ease.proofs.law_passing.Controllers.{cell_adds}
use Rattle.law_live_ease.specs.law_live_hearing.Law.{acting}
use Rattle.law_live_ease.proofs.law_live_hearing.Sites.{up_site}
use Rattle.law_live_ease.specs.law_live_control.Calm.{IsCalmDown, ControllerGoesOn}
use Rattle.law_live_ease.proofs.law_live_control.Controllers.{Anything, all_calm}
use Rattle.law_live_ease.specs.law_live_control_links.Law.{IsCalmLink, IsSteady, IsTrueEvent, IsUnspentAt}
use Rattle.law_live_ease.proofs.law_live_control_links.Events.{goes_by}
use Rattle.law_live_ease.proofs.law_live_calm_nodes.Parts.{found_own, popped_part, controller_part, down_part, out_part, up_elsewhere}
use Rattle.law_live_ease.proofs.law_live_calm_nodes.Heard as listening
use Rattle.law_live_ease.proofs.law_live_lasting.Silence as switches

-- *Lately*: silent for fewer ticks than the limit, where it is there
abbrev pub HeardLately : Option ℕ → Type 0
HeardLately o = (n : ℕ) → o ≡ Some n → n < silence_limit

one_number : (m n : ℕ) → Some m ≡ Some n → m ≡ n
one_number m n e = cc

lately : (m n : ℕ) → m ≤ n → n < silence_limit → HeardLately (Some m)
lately m n less few k e = subst (λ (x : ℕ). x < silence_limit) (one_number m k e) (omega (arith, less, few))

-- *A controller* hears on
module _ (topology : Topology) (v : World) (node : NodeId) (was_heard : HeardLately (listening.silence_at v node)) where
  abbrev silence_of : Site → ℕ
  silence_of site = site.controller.adjacency.silence

  keeps_queue : (place : Place) (site : Site) (cells : List Cell) → silence_of (with_queue_in site place cells) ≡ silence_of site
  keeps_queue (Down here) site _ = refl
  keeps_queue (Up here) site _ = refl
  keeps_queue (Out here port) site _ = refl

  same : (o : Option ℕ) → o ≡ listening.silence_at v node → HeardLately o
  same o e = subst HeardLately (sym e) was_heard

  module _ (link : IsCalmLink v node) (steady : IsSteady topology v node) where
    own_up : IsTrueEvent topology v (Carry (Up node)) → IsUnspentAt (next topology v (Carry (Up node))) node → HeardLately (listening.silence_at (next topology v (Carry (Up node))) node)
    own_up true_event unspent = by (queue_at v (Up node)) refl
      where
        by : (q : List Cell) → queue_at v (Up node) ≡ q → HeardLately (listening.silence_at (next topology v (Carry (Up node))) node)
        by [] is = same (listening.silence_at (next topology v (Carry (Up node))) node)
            (ap (λ (q : List Cell). listening.silence_at (carries_head topology (put_away v) (Up node) q) node) is)
        by (cell ∷ cells) is =
            let own : Party = link.site.controller.adjacency.own in
            let far : Party = link.site.switch.adjacency.own in
            let heard : controllers.Acted = cells_of.cell_comes (acting v link.site) cell in
            let goes : ControllerGoesOn (IsCalmDown own far) (acting v link.site) heard =
            goes_by topology v node link steady true_event unspent cell cells is (IsCalmDown own far) Anything (all_calm own far) tt in
            subst HeardLately (sym (ap (option_map silence_of) (up_site topology v node link.site link.found cell cells is)))
            (lately heard.controller.adjacency.silence link.site.controller.adjacency.silence goes.side.silence
            (was_heard link.site.controller.adjacency.silence (ap (option_map silence_of) link.found)))

    pub controller_hears_on : (place : Place) → IsTrueEvent topology v (Carry place) → IsUnspentAt (next topology v (Carry place)) node → HeardLately (listening.silence_at (next topology v (Carry place)) node)
    controller_hears_on (Down here) true_event unspent = same (listening.silence_at (next topology v (Carry (Down here))) node) (down_part silence_of keeps_queue (λ site s. refl) topology v node here)
    controller_hears_on (Out here port) true_event unspent = same (listening.silence_at (next topology v (Carry (Out here port))) node) (out_part silence_of keeps_queue (λ site s. refl) topology v node here port)
    controller_hears_on (Up here) true_event unspent = by_eq here.0 node.0
        (λ is t. subst (λ (h : NodeId). IsTrueEvent topology v (Carry (Up h)) → IsUnspentAt (next topology v (Carry (Up h))) node → HeardLately (listening.silence_at (next topology v (Carry (Up h))) node))
        (same_node here is) own_up true_event unspent)
        (λ apart t. same (listening.silence_at (next topology v (Carry (Up here))) node) (up_elsewhere silence_of keeps_queue topology v node here apart))
      where
        same_node : (h : NodeId) → h.0 ≡ node.0 → node ≡ h
        same_node h is = λ i. record { 0 = sym is i }

-- *A switch*, to which a cell comes
comes_heard : (w : World) (node here : NodeId) (port : PortNo) (cell : Cell) → HeardLately (switches.silence_at w node) → HeardLately (switches.silence_at (at_switch w here (λ b. conduct.cell_comes b port cell)) node)
comes_heard w node here port cell was_heard = by (site_at w here) refl
  where
    by : (o : Option Site) → site_at w here ≡ o → HeardLately (switches.silence_at (switch_acts w o (λ b. conduct.cell_comes b port cell)) node)
    by None found = was_heard
    by (Some site) found =
        let b : ActedSwitch = record { switch = site.switch; notes = w.notes; numbers = w.numbers } in
        let now : Site = record site { switch = (conduct.cell_comes b port cell).switch } in
        let own : at site_key (site_key now) w.sites ≡ Some site = found_own w here site found in
        by_eq (site_key now) node.0
        (λ same t. subst (λ (k : ℕ). HeardLately (option_map switches.silence_of (at site_key k w.sites)) → HeardLately (option_map switches.silence_of (at site_key k (put site_key now w.sites)))) same
        (λ was. subst HeardLately (sym (ap (option_map switches.silence_of) (at_put_same site_key now w.sites site own)))
        (lately (switches.silence_of now) (switches.silence_of site) (switches.comes_low (switches.silence_of site) b port cell (omega arith))
        (was (switches.silence_of site) (ap (option_map switches.silence_of) own)))) was_heard)
        (λ apart t. subst HeardLately (sym (ap (option_map switches.silence_of) (at_put_other site_key now node.0 w.sites apart))) was_heard)

module _ (topology : Topology) (v : World) (node : NodeId) (was_heard : HeardLately (switches.silence_at v node)) where
  keeps_switch : (place : Place) (site : Site) (cells : List Cell) → switches.silence_of (with_queue_in site place cells) ≡ switches.silence_of site
  keeps_switch (Down here) site _ = refl
  keeps_switch (Up here) site _ = refl
  keeps_switch (Out here port) site _ = refl

  popped : (place : Place) (cells : List Cell) → HeardLately (switches.silence_at (with_queue (put_away v) place cells) node)
  popped place cells = subst HeardLately (sym (popped_part switches.silence_of keeps_switch (put_away v) node place cells)) was_heard

  pub switch_hears_on : (place : Place) → HeardLately (switches.silence_at (next topology v (Carry place)) node)
  switch_hears_on (Down here) = by (queue_at v (Down here))
    where
      by : (q : List Cell) → HeardLately (switches.silence_at (carries_head topology (put_away v) (Down here) q) node)
      by [] = was_heard
      by (cell ∷ cells) = comes_heard (with_queue (put_away v) (Down here) cells) node here control_port cell (popped (Down here) cells)
  switch_hears_on (Out here port) = by (queue_at v (Out here port))
    where
      arrived : (cell : Cell) (cells : List Cell) (o : Option LinkEnd) → HeardLately (switches.silence_at (arrives_at (with_queue (put_away v) (Out here port) cells) cell o) node)
      arrived cell cells None = popped (Out here port) cells
      arrived cell cells (Some end) = comes_heard (with_queue (put_away v) (Out here port) cells) node end.node end.port cell (popped (Out here port) cells)

      by : (q : List Cell) → HeardLately (switches.silence_at (carries_head topology (put_away v) (Out here port) q) node)
      by [] = was_heard
      by (cell ∷ cells) = arrived cell cells (peer_of topology here port)
  switch_hears_on (Up here) = by (queue_at v (Up here))
    where
      by : (q : List Cell) → HeardLately (switches.silence_at (carries_head topology (put_away v) (Up here) q) node)
      by [] = was_heard
      by (cell ∷ cells) = subst HeardLately (sym (controller_part switches.silence_of (λ site c. refl) (with_queue (put_away v) (Up here) cells) node here (λ b. cells_of.cell_comes b cell) (λ b. (cell_adds b cell).node)))
          (popped (Up here) cells)
