-- an actor of a site acts, or a queue loses its head: the pairs of each site stay within what may be

use Rattle.std.proofs.Common.{◌≡◌, ◌≢◌, ℕ, zero, suc, ◌<◌, ◌≤◌, List, [], ◌∷◌, Option, None, Some, refl, sym, ◌∙◌, ap, subst, arith, Contains, ◌⊎◌, inl, inr}
use Rattle.law_causes.specs.world_model.Words.{End, NodeId, Place, Down, Up, Out, Mark, Cell, Frame, at, put, Setup, Standing, World, Site, site_key, site_at, controller_acts, switch_acts, place_node, queue_in, queue_at, with_queue_in, with_queue_of, with_queue, copy_under, leads}
use Rattle.law_world_views.specs.ordered_lists.Ordered.{Every}
use Rattle.law_causes.specs.world_model.Switch as switches
use Rattle.law_causes.specs.world_model.Controller.{Acted}
use Rattle.law_causes.specs.world_model.World.{at_controller, at_switch}
use Rattle.law_quiet_controllers.specs.Quiet.{AskTheSame, IsQuiet}
use Rattle.law_quiet_controllers.specs.Law.{IsAtWork, Asks, by_desk, by_cell}
use Rattle.law_quiet_controllers.proofs.Beginning.{contained, asked_may, in_tail}
use Rattle.law_world_views.specs.Shown.{acting}
use Rattle.law_world_views.proofs.Put.{put_found}
use Rattle.law_pairs.proofs.SitePairs.{SitePairs, branch, desk, chain, queue, waiting_by}
use Rattle.law_pairs.proofs.Branches.{IsLed}

same_node : (m n : NodeId) → m.0 ≡ n.0 → m ≡ n
same_node m n e = ap (λ (k : ℕ). record { 0 = k }) e

-- *Control marks* of the cells of a site were given out
pub record HasMarks (n : ℕ) (site : Site) : Type 0 where
  pub chains : (cell : Cell) → Contains site.switch.reassembly.chain cell → cell.mark.packet ≡ 0 → cell.mark.frame ≤ n
  pub queues : (cell : Cell) → Contains site.controller.queue cell → cell.mark.packet ≡ 0 → cell.mark.frame ≤ n

abbrev pub Sited : (Site → Type 0) → List Site → Type 0
Sited P sites = (k : ℕ) (site : Site) → at site_key k sites ≡ Some site → P site

pub put_sited : (P : Site → Type 0) (new : Site) (sites : List Site) → P new → Sited P sites → Sited P (put site_key new sites)
put_sited P new sites p all k x e = elim (put_found new sites k x e) [
  | inl same ↦ subst P same p
  | inr before ↦ all k x before
]

pub is_zero : (n : ℕ) → (n ≡ 0) ⊎ (n ≢ 0)
is_zero zero = inl refl
is_zero (suc n) = inr (λ e. absurd (omega (arith, e)))

module _ (Q : NodeId → End → End → Type 0) where
  -- *What may be at a site*
  abbrev pub Fits : List Frame → Site → Type 0
  Fits frames site = (input output : End) → 0 < input.port.0 → 0 < output.port.0 → SitePairs frames site input output → Q site.controller.node input output

  abbrev pub Nothing : List Frame → Type 0
  Nothing frames = (mark : Mark) → mark.packet ≢ 0 → copy_under frames mark ≡ None

  -- what was asked is asked still, of a cell whose mark was given out
  asked_before : (controls : ℕ) (old new : List Frame) → Nothing new → AskTheSame controls old new → (cell : Cell) (s : Standing) → (cell.mark.packet ≡ 0 → cell.mark.frame ≤ controls) → copy_under new cell.mark ≡ Some s → copy_under old cell.mark ≡ Some s
  asked_before controls old new nothing same cell s low copy = elim (is_zero cell.mark.packet) [
    | inl control ↦ same cell.mark s control (low control) copy
    | inr packet ↦ absurd (cc (sym (nothing cell.mark packet) ∙ copy))
  ]

  -- at a site that stays
  stays : (controls : ℕ) (old new : List Frame) → Nothing new → AskTheSame controls old new → (site : Site) → HasMarks controls site → Fits old site → Fits new site
  stays controls old new nothing same site marks fits input output above on (branch e) = fits input output above on (branch e)
  stays controls old new nothing same site marks fits input output above on (desk s k e) = fits input output above on (desk s k e)
  stays controls old new nothing same site marks fits input output above on (chain s cell k copy e) = fits input output above on (chain s cell k (asked_before controls old new nothing same cell s (marks.chains cell k) copy) e)
  stays controls old new nothing same site marks fits input output above on (queue s cell k here copy e) = fits input output above on (queue s cell k here (asked_before controls old new nothing same cell s (marks.queues cell k) copy) e)

  -- *A queue loses its head*
  pub loses : (frames : List Frame) (site : Site) (place : Place) (cell : Cell) (cells : List Cell) → queue_in site place ≡ cell ∷ cells → Fits frames site → Fits frames (with_queue_in site place cells)
  loses frames site (Down node) cell cells is fits input output above on (branch e) = fits input output above on (branch e)
  loses frames site (Down node) cell cells is fits input output above on (desk s k e) = fits input output above on (desk s k e)
  loses frames site (Down node) cell cells is fits input output above on (chain s c k copy e) = fits input output above on (chain s c k copy e)
  loses frames site (Down node) cell cells is fits input output above on (queue s c k here copy e) = fits input output above on (queue s c (subst (λ (xs : List Cell). Contains xs c) (sym is) (in_tail cell c cells k)) here copy e)
  loses frames site (Up node) cell cells is fits input output above on (branch e) = fits input output above on (branch e)
  loses frames site (Up node) cell cells is fits input output above on (desk s k e) = fits input output above on (desk s k e)
  loses frames site (Up node) cell cells is fits input output above on (chain s c k copy e) = fits input output above on (chain s c k copy e)
  loses frames site (Up node) cell cells is fits input output above on (queue s c k here copy e) = fits input output above on (queue s c k here copy e)
  loses frames site (Out node port) cell cells is fits input output above on (branch e) = fits input output above on (branch e)
  loses frames site (Out node port) cell cells is fits input output above on (desk s k e) = fits input output above on (desk s k e)
  loses frames site (Out node port) cell cells is fits input output above on (chain s c k copy e) = fits input output above on (chain s c k copy e)
  loses frames site (Out node port) cell cells is fits input output above on (queue s c k here copy e) = fits input output above on (queue s c k here copy e)

  -- *A controller acts*
  module _ (x : World) (marks : Sited (HasMarks x.numbers.controls) x.sites) (fits : Sited (Fits x.notes.frames) x.sites) where
    controller_fits : (site : Site) (b : Acted) (setups : List Setup) → b.controller.node ≡ site.controller.node → IsAtWork setups (acting x site)
        → IsQuiet setups (Q site.controller.node) x.numbers.controls x.notes.frames site.controller.queue b → Nothing b.notes.frames
        → HasMarks x.numbers.controls site → Fits x.notes.frames site → Fits b.notes.frames (record site { controller = b.controller })
    controller_fits site b setups same work quiet nothing m f input output above on pair = subst (λ (n : NodeId). Q n input output) (sym same) (by pair)
      where
        asks : (input output : End) → 0 < input.port.0 → 0 < output.port.0 → Asks (acting x site) input output → Q site.controller.node input output
        asks i o u v (by_desk s k e) = f i o u v (desk s k e)
        asks i o u v (by_cell s cell k here copy e) = f i o u v (queue s cell k here copy e)

        by : SitePairs b.notes.frames (record site { controller = b.controller }) input output → Q site.controller.node input output
        by (branch e) = f input output above on (branch e)
        by (desk s k e) = asked_may setups (acting x site) work (Q site.controller.node) asks b quiet nothing input output above on (by_desk s k e)
        by (chain s cell k copy e) = f input output above on (chain s cell k (asked_before x.numbers.controls x.notes.frames b.notes.frames nothing quiet.copies cell s (m.chains cell k) copy) e)
        by (queue s cell k here copy e) = asked_may setups (acting x site) work (Q site.controller.node) asks b quiet nothing input output above on (by_cell s cell k here copy e)

    pub controller_sited : (node : NodeId) (act : Acted → Acted) (setups : Site → List Setup)
        → ((site : Site) → site_at x node ≡ Some site → (act (acting x site)).controller.node ≡ site.controller.node)
        → ((site : Site) → site_at x node ≡ Some site → IsAtWork (setups site) (acting x site))
        → ((site : Site) → site_at x node ≡ Some site → IsQuiet (setups site) (Q site.controller.node) x.numbers.controls x.notes.frames site.controller.queue (act (acting x site)))
        → Nothing (at_controller x node act).notes.frames → Sited (Fits (at_controller x node act).notes.frames) (at_controller x node act).sites
    controller_sited node act setups same work quiet = by (site_at x node) refl
      where
        by : (o : Option Site) → site_at x node ≡ o → Nothing (controller_acts x o act).notes.frames → Sited (Fits (controller_acts x o act).notes.frames) (controller_acts x o act).sites
        by None found nothing = fits
        by (Some site) found nothing =
            let b : Acted = act (acting x site) in
            put_sited (Fits b.notes.frames) (record site { controller = b.controller }) x.sites
            (controller_fits site b (setups site) (same site found) (work site found) (quiet site found) nothing (marks node.0 site found) (fits node.0 site found))
            (λ k other there. stays x.numbers.controls x.notes.frames b.notes.frames nothing (quiet site found).copies other (marks k other there) (fits k other there))

    -- at a site that was found
    pub controller_here : (node : NodeId) (act : Acted → Acted) (setups : List Setup) (site : Site) → site_at x node ≡ Some site → (act (acting x site)).controller.node ≡ site.controller.node → IsAtWork setups (acting x site)
        → IsQuiet setups (Q site.controller.node) x.numbers.controls x.notes.frames site.controller.queue (act (acting x site))
        → Nothing (at_controller x node act).notes.frames → Sited (Fits (at_controller x node act).notes.frames) (at_controller x node act).sites
    controller_here node act setups site found same work quiet = subst (λ (o : Option Site). Nothing (controller_acts x o act).notes.frames → Sited (Fits (controller_acts x o act).notes.frames) (controller_acts x o act).sites) (sym found)
        (λ nothing. (let b : Acted = act (acting x site) in
        put_sited (Fits b.notes.frames) (record site { controller = b.controller }) x.sites
        (controller_fits site b setups same work quiet nothing (marks node.0 site found) (fits node.0 site found))
        (λ k other there. stays x.numbers.controls x.notes.frames b.notes.frames nothing quiet.copies other (marks k other there) (fits k other there))))

    -- *A switch acts*
    abbrev pub May : NodeId → End → End → Type 0
    May node input output = 0 < input.port.0 → 0 < output.port.0 → Q node input output

    pub record IsGood (node : NodeId) (cell : Cell) : Type 0 where
      pub low : cell.mark.packet ≡ 0 → cell.mark.frame ≤ x.numbers.controls
      pub asks : (s : Standing) (input output : End) → copy_under x.notes.frames cell.mark ≡ Some s → leads s.request ≡ Some (input, output) → May node input output

    switch_fits : (site : Site) (b : switches.ActedSwitch) → IsLed (May site.controller.node) (IsGood site.controller.node) x.numbers.controls x.notes.frames b → Nothing b.notes.frames
        → HasMarks x.numbers.controls site → Fits x.notes.frames site → Fits b.notes.frames (record site { switch = b.switch })
    switch_fits site b led nothing m f input output above on (branch e) = led.branches input output e above on
    switch_fits site b led nothing m f input output above on (desk s k e) = f input output above on (desk s k e)
    switch_fits site b led nothing m f input output above on (chain s cell k copy e) =
        let good : IsGood site.controller.node cell = contained (IsGood site.controller.node) b.switch.reassembly.chain cell led.chain k in
        good.asks s input output (asked_before x.numbers.controls x.notes.frames b.notes.frames nothing led.asks cell s good.low copy) e above on
    switch_fits site b led nothing m f input output above on (queue s cell k here copy e) =
        f input output above on (queue s cell k here (asked_before x.numbers.controls x.notes.frames b.notes.frames nothing led.asks cell s (m.queues cell k) copy) e)

    pub switch_sited : (node : NodeId) (act : switches.ActedSwitch → switches.ActedSwitch)
        → ((site : Site) → site_at x node ≡ Some site → IsLed (May site.controller.node) (IsGood site.controller.node) x.numbers.controls x.notes.frames (act (record { switch = site.switch; notes = x.notes; numbers = x.numbers })))
        → Nothing (at_switch x node act).notes.frames → Sited (Fits (at_switch x node act).notes.frames) (at_switch x node act).sites
    switch_sited node act led = by (site_at x node) refl
      where
        by : (o : Option Site) → site_at x node ≡ o → Nothing (switch_acts x o act).notes.frames → Sited (Fits (switch_acts x o act).notes.frames) (switch_acts x o act).sites
        by None found nothing = fits
        by (Some site) found nothing =
            let b : switches.ActedSwitch = act (record { switch = site.switch; notes = x.notes; numbers = x.numbers }) in
            put_sited (Fits b.notes.frames) (record site { switch = b.switch }) x.sites
            (switch_fits site b (led site found) nothing (marks node.0 site found) (fits node.0 site found))
            (λ k other there. stays x.numbers.controls x.notes.frames b.notes.frames nothing (led site found).asks other (marks k other there) (fits k other there))

    pub switch_here : (node : NodeId) (act : switches.ActedSwitch → switches.ActedSwitch) (site : Site) → site_at x node ≡ Some site
        → IsLed (May site.controller.node) (IsGood site.controller.node) x.numbers.controls x.notes.frames (act (record { switch = site.switch; notes = x.notes; numbers = x.numbers }))
        → Nothing (at_switch x node act).notes.frames → Sited (Fits (at_switch x node act).notes.frames) (at_switch x node act).sites
    switch_here node act site found led = subst (λ (o : Option Site). Nothing (switch_acts x o act).notes.frames → Sited (Fits (switch_acts x o act).notes.frames) (switch_acts x o act).sites) (sym found)
        (λ nothing. (let b : switches.ActedSwitch = act (record { switch = site.switch; notes = x.notes; numbers = x.numbers }) in
        put_sited (Fits b.notes.frames) (record site { switch = b.switch }) x.sites
        (switch_fits site b led nothing (marks node.0 site found) (fits node.0 site found))
        (λ k other there. stays x.numbers.controls x.notes.frames b.notes.frames nothing led.asks other (marks k other there) (fits k other there))))

    -- as the switch begins
    pub begins_led : (site : Site) → HasMarks x.numbers.controls site → Fits x.notes.frames site → IsLed (May site.controller.node) (IsGood site.controller.node) x.numbers.controls x.notes.frames (record { switch = site.switch; notes = x.notes; numbers = x.numbers })
    begins_led site m f = record {
      branches = λ input output e above on. f input output above on (branch e);
      chain = each site.switch.reassembly.chain (λ cell k. record { low = m.chains cell k; asks = λ s input output copy e above on. f input output above on (chain s cell k copy e) });
      given = self_le x.numbers.controls;
      asks = λ mark s control le e. e;
    }
      where
        self_le : (n : ℕ) → n ≤ n
        self_le n = omega arith

        each : (cells : List Cell) → ((cell : Cell) → Contains cells cell → IsGood site.controller.node cell) → Every (IsGood site.controller.node) cells
        each [] good = tt
        each (cell ∷ cells) good = (good cell (0, omega arith, refl), each cells (λ c k. good c (in_tail cell c cells k)))

  -- *Queues* of a network
  pub queue_sited : (w : World) (place : Place) (cell : Cell) (cells : List Cell) → queue_at w place ≡ cell ∷ cells → Sited (Fits w.notes.frames) w.sites → Sited (Fits w.notes.frames) (with_queue w place cells).sites
  queue_sited w place cell cells is fits = by (site_at w (place_node place)) refl
    where
      by : (o : Option Site) → site_at w (place_node place) ≡ o → Sited (Fits w.notes.frames) (with_queue_of w place cells o).sites
      by None found = fits
      by (Some site) found = put_sited (Fits w.notes.frames) (with_queue_in site place cells) w.sites
          (loses w.notes.frames site place cell cells (sym (ap (waiting_by place) found) ∙ is) (fits (place_node place).0 site found)) fits

pub marks_less : (n : ℕ) (site : Site) (place : Place) (cell : Cell) (cells : List Cell) → queue_in site place ≡ cell ∷ cells → HasMarks n site → HasMarks n (with_queue_in site place cells)
marks_less n site (Down node) cell cells is m = record { chains = m.chains; queues = λ c k. m.queues c (subst (λ (xs : List Cell). Contains xs c) (sym is) (in_tail cell c cells k)) }
marks_less n site (Up node) cell cells is m = record { chains = m.chains; queues = m.queues }
marks_less n site (Out node port) cell cells is m = record { chains = m.chains; queues = m.queues }

pub marks_sited : (n : ℕ) (w : World) (place : Place) (cell : Cell) (cells : List Cell) → queue_at w place ≡ cell ∷ cells → Sited (HasMarks n) w.sites → Sited (HasMarks n) (with_queue w place cells).sites
marks_sited n w place cell cells is marks = by (site_at w (place_node place)) refl
  where
    by : (o : Option Site) → site_at w (place_node place) ≡ o → Sited (HasMarks n) (with_queue_of w place cells o).sites
    by None found = marks
    by (Some site) found = put_sited (HasMarks n) (with_queue_in site place cells) w.sites (marks_less n site place cell cells (sym (ap (waiting_by place) found) ∙ is) (marks (place_node place).0 site found)) marks
