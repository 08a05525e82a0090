-- once its switch is met, each two labels that are joined behind an event, or may be, are a join of the controller; and no two
-- inputs are joined to one output

use Rattle.std.proofs.Common.{◌≡◌, ℕ, ◌<◌, Bool, true, false, List, ◌∷◌, Option, None, Some, Ok, refl, sym, ◌∙◌, ap, subst, arith, ◌⊎◌, inl, inr, if◌then◌else◌}
use Rattle.std.specs.Prelude.{◌==◌, nat_lt, flat_map}
use Rattle.std.specs.Option.{option_and_then}
use Rattle.std.proofs.lemmas.Bool.Decides.{nat_tests}
use Rattle.world_model.specs.Words.{End, NodeId, Up, number_of_channel, Cell, Answer, Quiet, Send, Open, Said, ticked, Party, payload_in, Refusal, Standing, leads_home, Done, answered, Policy, Setup, home_of, Grant, Controller, Linked, default_channel, inputs_at, tries_joins, inject_refusal, same_channel, sends_again, ticks_ports, ticks_by, Topology, World, Site, site_at, put_away, Past, past_of}
use Rattle.world_model.specs.adjacency_table.declared.message.Answer.TheVariants.{Reset}
use Rattle.world_model.specs.gsmp_wire.declared.message.Message.{Message}
use Rattle.world_model.specs.gsmp_wire.Fields.{decoded}
use Rattle.world_model.specs.frame_model.Frame.{octets_of}
use Rattle.world_model.specs.frame_model.Reassembly.{taken}
use Rattle.world_model.specs.port_model.Grants.{lent_input}
use Rattle.world_model.specs.Controller.{Acted, free_slots}
use Rattle.world_model.specs.Gsmp.{steps}
use Rattle.world_model.specs.Cells.{cell_comes}
use Rattle.world_model.specs.Ticks.{ticks}
use Rattle.law_frame_readings.specs.law_controller_facts.Inputs.{Input, CellComes, PacketEnters, Ticks, Restarts, ChangeComes, FrameIsForged, CellLeaves, Meanwhile, takes_input, enters_unless}
use Rattle.law_frame_readings.specs.law_controller_facts.Sound.{IsSound}
use Rattle.law_frame_readings.proofs.law_controller_facts.Laws.{has_ports, moves_sound}
use Rattle.law_frame_readings.proofs.law_controller_facts.Moves.{HasPorts, ages}
use Rattle.law_frame_readings.proofs.law_controller_facts.Events.{steps_goes, sends_again_goes, ticks_ports_goes}
use Rattle.law_fed_worlds.specs.law_controller.Match.{lent_in, lent_at}
use Rattle.world_model.specs.network_model.declared.event.Event.{Event}
use Rattle.world_model.specs.network_model.declared.event.Event.TheVariants.{Inject, Carry, Lose, Tick, TickSwitch, Restart, RestartSwitch, Forge, Route}
use Rattle.world_model.specs.Ways.{ok_of}
use Rattle.law_fed_worlds.specs.law_lifetimes.Lifetimes.{if_at, comes_to}
use Rattle.law_fed_worlds.proofs.law_lifetimes.Feeding.{after_of}
use Rattle.law_running_worlds.specs.law_input_events.Coming.{CanCarry, IsOrdinary}
use Rattle.law_run_facts.specs.Nodes.{IsNodeOfRun}
use Rattle.law_run_facts.proofs.Nodes.{runs_have_nodes}
use Rattle.law_run_facts.proofs.Chains.{runs_have_own_chains}
use Rattle.law_run_facts.proofs.Steps.{runs_have_fronts}
use Rattle.law_running_worlds.specs.Running.{EventsAreOrdinary}
use Rattle.law_lasting_joins.specs.law_quiet_controllers.Law.{TickEnters, before_joins}
use Rattle.law_pairs.specs.Events.{IsEntered, EntersAt}
use Rattle.law_pairs.proofs.SitePairs.{of_pairs}
use Rattle.law_pairs.specs.Past.{RunsMakeNoPairs}
use Rattle.law_joined_worlds.proofs.Freed.{led_home, meeting_ends}
use Rattle.law_joined_worlds.proofs.Settled.{node_is}
use Rattle.law_lasting_joins.proofs.Lasting.{Lasts, lasts_self, same_lasts, sends_last, routes_last, change_lasts}
use Rattle.law_lasting_joins.proofs.Tries.{tries_ends, mid_ports, mid_lasts, ticks_last, cell_lasts, restarts_last}
use Rattle.law_lasting_joins.proofs.Ending.{IsMeetingsEnd, cell_ends}
use Rattle.law_lasting_joins.proofs.Entered.{enters_met, lent_enters, enters_once, enters_lent}
use Rattle.law_frame_readings.specs.law_world_views.Shown.{acting}
use Rattle.law_frame_readings.specs.law_world_views.Pairs.{Pairs, IsJoin}
use Rattle.law_frame_readings.specs.law_world_views.Between.{IsWorld, HasAllJoins, HasAllLedOnce, setups_of}
use Rattle.law_frame_readings.specs.law_world_views.Kept.{Comes, Keeps, behind}
use Rattle.law_joined_worlds.proofs.Stepped.{after_is, IsFirstUp, cell_came, front_up, IsTrueFrame, true_frame}
use Rattle.law_fed_worlds.proofs.law_controller_bindings.Lasts.{some_same}
use Rattle.law_fed_worlds.proofs.Asked.{join_found}

-- *A grant that is lent* is found by its output, and by its number
pub join_lent : (c : Controller) (input output : End) → IsJoin c input output → lent_at c.ports output.port.0 (number_of_channel output.channel) ≡ Some input
join_lent c input output j = ap (option_and_then (λ (x : Linked). lent_in x.port.grants (number_of_channel output.channel))) j.found
    ∙ (ap (option_and_then (λ (g : Grant). lent_input g.state)) j.granted ∙ j.lent)

not_both : {P : Type 0} (b : Bool) → b ≡ true → b ≡ false → P
not_both true t f = absurd (cc f)
not_both false t f = absurd (cc t)

met_or_not : (b : Bool) → {P : Type 0} → (b ≡ true → P) → (b ≡ false → P) → P
met_or_not true first second = first refl
met_or_not false first second = second refl

same_number : (n : ℕ) → (n == n) ≡ true
same_number n = grind (arith, nat_tests)

-- *A tick* that no reset ends tries joins last
tick_is : (a : Acted) → ((ticked a.controller.adjacency).answer ≡ Reset → ⊥) → ticks a ≡ tries_joins (before_joins a)
tick_is a going = by (ticked a.controller.adjacency).answer going
  where
    by : (answer : Answer (Said Party) Party) → (answer ≡ Reset → ⊥) → ticks_by a (ticked a.controller.adjacency) answer ≡ tries_joins (before_joins a)
    by Quiet go = refl
    by (Send message) go = refl
    by (Open message own) go = refl
    by Reset go = absurd (go refl)

mid_sound : (setups : List Setup) (a : Acted) → IsSound setups a.controller → IsSound setups (before_joins a).controller
mid_sound setups a sound =
    let first : Acted = steps a (ticked a.controller.adjacency) in
    let second : Acted = sends_again first in
    let one : IsSound setups first.controller = moves_sound setups a first (steps_goes setups a (ticked a.controller.adjacency) ages (has_ports setups a sound)) sound in
    let two : IsSound setups second.controller = moves_sound setups first second (sends_again_goes setups first (has_ports setups first one)) one in
    moves_sound setups second (ticks_ports second) (ticks_ports_goes setups second (has_ports setups second two)) two

abbrev Any : End → Type 0
Any input = Unit {0}

module _ (running : EventsAreOrdinary) (old : RunsMakeNoPairs) (policy : Policy) (topology : Topology) (before : List Event) (event : Event)
    (comes : Comes policy topology before event) (world : IsWorld (past_of policy topology before)) where
  abbrev past : Past
  past = past_of policy topology before

  abbrev w : World
  w = past.now

  abbrev v : World
  v = (behind policy topology before event).now

  pub of_run : (node : NodeId) (site : Site) → site_at w node ≡ Some site → IsNodeOfRun policy past node site
  of_run node site found = runs_have_nodes policy topology before comes.addresses (runs_have_fronts policy topology before event comes).run node site found

  -- *At a node*
  module _ (node : NodeId) (site : Site) (found : site_at w node ≡ Some site) where
    abbrev a : Acted
    a = acting (put_away w) site

    abbrev setups : List Setup
    setups = setups_of site.controller

    sound : IsSound setups site.controller
    sound = (of_run node site found).conduct.sound

    ports : HasPorts setups a
    ports = has_ports setups a sound

    -- of a pair
    module _ (input output : End) (above : 0 < input.port.0) (on : 0 < output.port.0) (pair : Pairs w node input output) where
      abbrev One : End → Type 0
      One other = other ≡ input

      abbrev L : Acted → Acted → Type 0
      L = Lasts setups output.port.0 (number_of_channel output.channel) One

      -- a cell
      module _ (cell : Cell) (came : IsFirstUp w node event cell) where
        can : CanCarry topology w (Up node)
        can = subst (IsOrdinary topology w) came.is (running policy topology before event comes world).1

        frees : same_channel cell.header.channel default_channel ≡ true → (first : Cell) (rest : List Cell) (payload : List ℕ)
            → (taken a.notes (nat_lt 0 (free_slots a.controller)) a.controller.reassembly cell).ended ≡ first ∷ rest
            → payload_in (octets_of (first ∷ rest)) ≡ Some payload → (message : Message) (s : Standing) → decoded payload ≡ Ok message → answered site.controller.desk message ≡ Done s
            → (other : End) → leads_home other (home_of other) s.request ≡ true → One other → ⊥
        frees here first rest payload ended passes message s read done other leads_it same =
            let f : IsTrueFrame w.notes.frames cell payload = true_frame topology w node site cell came.cells found came.front can here first rest payload ended passes in
            led_home past world (runs_have_own_chains policy topology before) node site found sound (of_run node site found).conduct.order cell came.cells (front_up w node site cell came.cells found came.front) here f.last
            payload f.made message (ap ok_of read) s done input output above on (subst (λ (x : End). leads_home x (home_of x) s.request ≡ true) same leads_it) pair

        none_ends : a.controller.has_met ≡ false → (cell_comes a cell).controller.has_met ≡ true → ⊥
        none_ends unmet met =
            let x : IsMeetingsEnd setups a cell = cell_ends setups a cell sound unmet met in
            let f : IsTrueFrame w.notes.frames cell x.payload = true_frame topology w node site cell came.cells found came.front can x.here x.first x.rest x.payload x.ended x.passes in
            meeting_ends past world (runs_have_own_chains policy topology before) node site found sound (of_run node site found).conduct.order cell came.cells (front_up w node site cell came.cells found came.front) x.here f.last
            x.payload f.made x.message (ap ok_of x.read) x.ends.standing x.ends.done input output above on unmet x.ends.last.0 x.ends.last.1 pair

        cell_keeps : L a (cell_comes a cell)
        cell_keeps = met_or_not a.controller.has_met
            (λ met. cell_lasts setups output.port.0 (number_of_channel output.channel) One a cell ports met
            (λ here first rest payload ended passes message s read done other leads_it same. frees here first rest payload ended passes message s read done other leads_it same))
            (λ unmet. record { met = λ e. absurd (none_ends unmet e); lent = λ e other same lent. absurd (none_ends unmet e) })

      enters_keep : (number : ℕ) (octets : List ℕ) (o : Option Refusal) → L a (enters_unless a number octets o)
      enters_keep number octets (Some name) = lasts_self setups output.port.0 (number_of_channel output.channel) One a
      enters_keep number octets None = routes_last setups output.port.0 (number_of_channel output.channel) One a (record { packet = number; frame = 0 }) octets

      input_keeps : (i : Input) → comes_to w node event ≡ Some i → L a (takes_input a i)
      input_keeps (CellComes cell) e = cell_keeps cell (cell_came w node event cell e)
      input_keeps (PacketEnters number octets) e = enters_keep number octets (inject_refusal octets)
      input_keeps Ticks e = ticks_last setups output.port.0 (number_of_channel output.channel) One a ports
      input_keeps Restarts e = restarts_last setups output.port.0 (number_of_channel output.channel) One a
      input_keeps (ChangeComes change) e = change_lasts setups output.port.0 (number_of_channel output.channel) One a change
      input_keeps (FrameIsForged channel mark payload) e = sends_last setups output.port.0 (number_of_channel output.channel) One a channel mark payload
      input_keeps CellLeaves e = same_lasts setups output.port.0 (number_of_channel output.channel) One a _ refl refl
      input_keeps (Meanwhile notes numbers) e = same_lasts setups output.port.0 (number_of_channel output.channel) One a _ refl refl

      -- *It stays joined*
      pub stays_joined : (after : Site) → site_at v node ≡ Some after → after.controller.has_met ≡ true → IsJoin after.controller input output
      stays_joined after there met = by (comes_to w node event) refl
        where
          is : after.controller ≡ after_of (put_away w).notes w.numbers site.controller (comes_to w node event)
          is = after_is policy topology before event node site after found there

          join_of : site.controller.has_met ≡ true → IsJoin site.controller input output
          join_of e = world.joins node site found e input output above on pair

          by : (o : Option Input) → comes_to w node event ≡ o → IsJoin after.controller input output
          by None e =
              let same : after.controller ≡ site.controller = is ∙ ap (after_of (put_away w).notes w.numbers site.controller) e in
              subst (λ (c : Controller). IsJoin c input output) (sym same) (join_of (ap (λ (c : Controller). c.has_met) (sym same) ∙ met))
          by (Some i) e =
              let same : after.controller ≡ (takes_input a i).controller = is ∙ ap (after_of (put_away w).notes w.numbers site.controller) e in
              let k : L a (takes_input a i) = input_keeps i e in
              let now : (takes_input a i).controller.has_met ≡ true = ap (λ (c : Controller). c.has_met) (sym same) ∙ met in
              subst (λ (c : Controller). IsJoin c input output) (sym same)
              (join_found (takes_input a i).controller input output (k.lent now input refl (join_lent site.controller input output (join_of (k.met now)))))

    -- *One that is entered*
    module _ (ticks_here : comes_to w node event ≡ Some Ticks) (input output : End) (enters : TickEnters a input output) where
      pub enters_joined : (after : Site) → site_at v node ≡ Some after → after.controller.has_met ≡ true → IsJoin after.controller input output
      enters_joined after there met =
          let mid : Acted = before_joins a in
          let is : after.controller ≡ (tries_joins mid).controller = after_is policy topology before event node site after found there ∙ ap (after_of (put_away w).notes w.numbers site.controller) ticks_here
          ∙ ap (λ (x : Acted). x.controller) (tick_is a enters.going) in
          subst (λ (c : Controller). IsJoin c input output) (sym is) (join_found (tries_joins mid).controller input output
          (enters_lent setups input output (flat_map inputs_at mid.controller.ports) mid (mid_sound setups a sound) (tries_ends setups 0 0 Any mid (mid_ports setups 0 0 Any a ports))
          (ap (λ (c : Controller). c.has_met) (sym is) ∙ met) enters.enters))

  -- *Where a tick enters*
  pub record IsEnteredAt (node : NodeId) (input output : End) : Type 0 where
    pub site : Site
    pub found : site_at w node ≡ Some site
    pub ticks_here : comes_to w node event ≡ Some Ticks
    pub enters : TickEnters (acting (put_away w) site) input output

  pub entered_at : (node : NodeId) (input output : End) → EntersAt (put_away w) event node input output → IsEnteredAt node input output
  entered_at node input output = by event refl
    where
      at_tick : (t : NodeId) → event ≡ Tick t → t ≡ node → IsEntered (put_away w) t input output → IsEnteredAt node input output
      at_tick t is same x = record {
        site = x.site;
        found = ap (λ (n : NodeId). site_at w n) (sym same) ∙ x.found;
        ticks_here = ap (comes_to w node) is ∙ (ap (λ (n : NodeId). if_at n node (Some Ticks)) same ∙ ap (λ (b : Bool). if b then Some Ticks else None) (same_number node.0));
        enters = x.enters;
      }

      by : (e : Event) → event ≡ e → EntersAt (put_away w) e node input output → IsEnteredAt node input output
      by (Inject here octets) is x = absurd x
      by (Carry place) is x = absurd x
      by (Lose place) is x = absurd x
      by (Tick here) is x = at_tick here is (node_is here node x.0) x.1
      by (TickSwitch here) is x = absurd x
      by (Restart here) is x = absurd x
      by (RestartSwitch here) is x = absurd x
      by (Forge place channel payload) is x = absurd x
      by (Route here change) is x = absurd x

  abbrev pub Old : NodeId → (input output : End) → Type 0
  Old node input output = Pairs w node input output ⊎ IsEnteredAt node input output

  pub old_or_entered : (node : NodeId) (input output : End) → 0 < input.port.0 → 0 < output.port.0 → Pairs v node input output → Old node input output
  old_or_entered node input output above on pair = elim (old policy topology before event comes world node input output above on pair) [
    | inl was ↦ inl was
    | inr x ↦ inr (entered_at node input output x)
  ]

  joins_kept : HasAllJoins (behind policy topology before event)
  joins_kept node after there met input output above on pair = by (old_or_entered node input output above on pair)
    where
      by : Old node input output → IsJoin after.controller input output
      by (inl was) = (let x = of_pairs w node input output was in stays_joined node x.0 x.1.0 input output above on was after there met)
      by (inr x) = enters_joined node x.site x.found x.ticks_here input output x.enters after there met

  -- *Once*
  clash : (node : NodeId) (one other output : End) → 0 < one.port.0 → 0 < output.port.0 → Pairs w node one output → IsEnteredAt node other output → ⊥
  clash node one other output above on was x =
      let setups : List Setup = setups_of x.site.controller in
      let a : Acted = acting (put_away w) x.site in
      let mid : Acted = before_joins a in
      let sound : IsSound setups x.site.controller = (of_run node x.site x.found).conduct.sound in
      let ports : HasPorts setups a = has_ports setups a sound in
      let lasts : Lasts setups output.port.0 (number_of_channel output.channel) Any a mid = mid_lasts setups output.port.0 (number_of_channel output.channel) Any a ports in
      met_or_not mid.controller.has_met
      (λ met. lent_enters setups other output one (flat_map inputs_at mid.controller.ports) mid (mid_sound setups a sound) (tries_ends setups 0 0 Any mid (mid_ports setups 0 0 Any a ports))
      (lasts.lent met one tt (join_lent x.site.controller one output (world.joins node x.site x.found (lasts.met met) one output above on was))) x.enters.enters)
      (λ unmet. enters_met setups other output (flat_map inputs_at mid.controller.ports) mid (mid_sound setups a sound) unmet x.enters.enters)

  both_entered : (node : NodeId) (one other output : End) → IsEnteredAt node one output → IsEnteredAt node other output → one ≡ other
  both_entered node one other output x y =
      let setups : List Setup = setups_of x.site.controller in
      let a : Acted = acting (put_away w) x.site in
      let mid : Acted = before_joins a in
      let sound : IsSound setups x.site.controller = (of_run node x.site x.found).conduct.sound in
      let ports : HasPorts setups a = has_ports setups a sound in
      let same : y.site ≡ x.site = some_same y.site x.site (sym y.found ∙ x.found) in
      enters_once setups one other output (flat_map inputs_at mid.controller.ports) mid (mid_sound setups a sound) (tries_ends setups 0 0 Any mid (mid_ports setups 0 0 Any a ports)) x.enters.enters
      (subst (λ (s : Site). TickEnters (acting (put_away w) s) other output) same y.enters).enters

  once_kept : HasAllLedOnce (behind policy topology before event)
  once_kept node one other output above above_other on first second =
      by (old_or_entered node one output above on first) (old_or_entered node other output above_other on second)
    where
      by : Old node one output → Old node other output → one ≡ other
      by (inl f) (inl s) = world.once node one other output above above_other on f s
      by (inl f) (inr s) = absurd (clash node one other output above on f s)
      by (inr f) (inl s) = absurd (clash node other one output above_other on s f)
      by (inr f) (inr s) = both_entered node one other output f s

pub joins_are_kept : EventsAreOrdinary → RunsMakeNoPairs → Keeps HasAllJoins
joins_are_kept running old policy topology before event comes world = joins_kept running old policy topology before event comes world

pub once_is_kept : EventsAreOrdinary → RunsMakeNoPairs → Keeps HasAllLedOnce
once_is_kept running old policy topology before event comes world = once_kept running old policy topology before event comes world
