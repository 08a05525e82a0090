-- a tick as moves of the line of a label, at either end of its link: up to its joins, and with them

use Rattle.std.proofs.Common.{◌≡◌, ◌≤◌, ◌<◌, Bool, true, false, List, [], ◌∷◌, ◌++◌, Option, None, Some, refl, sym, ◌∙◌, ap, subst, arith, fold, map, ◌⊎◌, inl, inr}
use Rattle.std.specs.Prelude.{◌^◌, flat_map}
use Rattle.std.specs.Option.{option_map_or}
use Rattle.world_model.specs.Words.{PortNo, End as ChannelEnd, Answer, Quiet, Send, Open, Said, Party, ticked, Setup, label_end, Label, Session, Linked, node_resets, joins, label_on, tries_join, inputs_at, tries_joins, gsmp_answer, sends_again, ticks_port, ticks_ports, ticks_by}
use Rattle.world_model.specs.adjacency_table.declared.message.Answer.TheVariants.{Reset}
use Rattle.world_model.specs.adjacency_table.Side as sides
use Rattle.law_label_events.specs.ordered_lists.Ordered.{Every}
use Rattle.law_label_events.specs.law_port_facts.Port.{IsLabelEnd, IsPort}
use Rattle.law_label_events.specs.law_label_line.Cells.{Role, Upstream}
use Rattle.world_model.specs.port_model.Port.{Port}
use Rattle.world_model.specs.port_model.Ticks as port_ticks
use Rattle.law_label_events.specs.law_port_views.Link.{LinkLabel}
use Rattle.world_model.specs.Controller.{Acted, ports_of}
use Rattle.world_model.specs.Joins.{Join}
use Rattle.world_model.specs.Gsmp.{answers, steps}
use Rattle.world_model.specs.Ticks.{ticks}
use Rattle.law_label_events.proofs.law_controller_facts.Moves.{ages, Found, HasPorts, moves_ports, further}
use Rattle.law_label_events.specs.law_controller_facts.Sound.{IsSound, IsShutLinked}
use Rattle.law_label_events.proofs.law_controller_facts.Laws.{has_ports, moves_sound}
use Rattle.law_run_facts.proofs.law_controller.Holding.{node_unmet}
use Rattle.law_label_events.proofs.law_controller_facts.Joining.{every_flat_map, each_there}
use Rattle.law_label_events.proofs.law_controller_facts.Entering.{tries_join_goes, tries_joins_goes, inputs_of_port}
use Rattle.law_label_events.proofs.law_controller_facts.Events.{steps_goes, sends_again_goes, ticks_ports_goes}
use Rattle.law_label_events.proofs.law_controller_facts.Numbers.{moves_never_fall}
use Rattle.law_label_events.specs.law_controller_views.Ends.{EndLeads}
use Rattle.law_label_events.specs.law_controller_views.Lifted.{IsProper}
use Rattle.law_label_events.proofs.law_controller_views.Parts.{end_stays, end_then}
use Rattle.law_label_events.proofs.law_controller_views.Works.{node_resets_leads}
use Rattle.law_label_events.proofs.law_controller_views.AtPort.{at_port_leads}
use Rattle.law_label_events.specs.law_controller_views.Ready.{IsReady, FitsLink}
use Rattle.law_label_events.proofs.law_controller_lifts.Lifts.{ticks_lifted}
use Rattle.law_label_events.proofs.law_controller_lifts.Kept.{IsClosed, Goes}
use Rattle.law_label_events.proofs.law_controller_lifts.Unspent.{Unspent, unspent_closed}
use Rattle.law_label_events.proofs.law_controller_lifts.Ready.{Fits, fits_closed, Readies, readies_fold, moves_ready, ticks_ready, ticks_ports_ready}
use Rattle.law_label_events.proofs.law_controller_lifts.Follow.{steps_follow, sends_again_follow}
use Rattle.law_label_events.proofs.law_controller_lifts.Ways.{leads_followed, kept_followed}
use Rattle.law_lasting_joins.specs.law_quiet_controllers.Quiet.{entered}
use Rattle.law_lasting_joins.specs.law_quiet_controllers.Law.{before_joins}
use Rattle.law_label_worlds.specs.Enters.{EntersTo, TickEntersTo}
use Rattle.law_lasting_joins.proofs.Lent.{Keeps, keeps_on}
use Rattle.law_label_worlds.proofs.Lent.{again_keeps, ticks_keep}
use Rattle.law_label_worlds.proofs.Joined.{Turns, turns_on, turns_less, tries_is, entering, join_leads, never, tries_turn}

module _ (setups : List Setup) where
  -- *The whole tick*: up to its joins
  module _ (link : LinkLabel) (proper : IsProper link) (fit : FitsLink link) (like : Type 0) (role : Role) where
    ports_lead : (qs : List PortNo) (a : Acted) → IsReady setups a.controller → (fold ticks_port a qs).numbers.instances < 2 ^ 32 → EndLeads link like role a [] (fold ticks_port a qs) []
    ports_lead [] a ready f = end_stays link like role a []
    ports_lead (q ∷ qs) a ready f =
        let next : Acted = ticks_port a q in
        let later : Readies setups next (fold ticks_port next qs) = readies_fold setups ticks_port (ticks_ready setups) qs next in
        end_then link like role a next (fold ticks_port next qs) [] [] [] (at_port_leads link proper like role a q port_ticks.ticks (ticks_lifted setups a ready link proper fit like role q))
        (ports_lead qs next ((ticks_ready setups a q).ready (omega (arith, f, later.rises)) ready) f)

    again_goes : (P : Setup → Port → Type 0) (closed : IsClosed P) (a : Acted) (step : sides.Step Party) → Goes P a (sends_again (steps a step))
    again_goes P closed a step = (kept_followed P closed).further a (steps a step) (sends_again (steps a step)) (steps_follow (Goes P) (kept_followed P closed) a step) (sends_again_follow (Goes P) (kept_followed P closed) (steps a step))

    again_ready : (a : Acted) → Readies setups a (sends_again (steps a (ticked a.controller.adjacency)))
    again_ready a =
        let step : sides.Step Party = ticked a.controller.adjacency in
        moves_ready setups a (sends_again (steps a step)) (λ h. further (steps_goes setups a step ages h) (sends_again_goes setups (steps a step) (moves_ports setups (steps_goes setups a step ages h) h)))
        (again_goes Unspent unspent_closed a step) (again_goes Fits fits_closed a step)

    before_ports : (a : Acted) → HasPorts setups a → HasPorts setups (before_joins a)
    before_ports a h =
        let step : sides.Step Party = ticked a.controller.adjacency in
        let k : HasPorts setups (steps a step) = moves_ports setups (steps_goes setups a step ages h) h in
        let l : HasPorts setups (sends_again (steps a step)) = moves_ports setups (sends_again_goes setups (steps a step) k) k in
        moves_ports setups (ticks_ports_goes setups (sends_again (steps a step)) l) l

    before_leads : (a : Acted) → IsReady setups a.controller → (before_joins a).numbers.instances < 2 ^ 32 → EndLeads link like role a [] (before_joins a) []
    before_leads a ready f =
        let step : sides.Step Party = ticked a.controller.adjacency in
        let again : Acted = sends_again (steps a step) in
        let ticking : again.numbers.instances ≤ (ticks_ports again).numbers.instances = (ticks_ports_ready setups again).rises in
        end_then link like role a again (before_joins a) [] [] []
        (end_then link like role a (steps a step) again [] [] [] (steps_follow (λ x y. EndLeads link like role x [] y []) (leads_followed link proper like role) a step)
        (sends_again_follow (λ x y. EndLeads link like role x [] y []) (leads_followed link proper like role) (steps a step)))
        (ports_lead (ports_of again.controller) again ((again_ready a).ready (omega (arith, f, ticking)) ready) f)

    inputs_ends : (a : Acted) → HasPorts setups a → Every (IsLabelEnd setups) (flat_map inputs_at a.controller.ports)
    inputs_ends a h = every_flat_map (λ (linked : Linked). Found setups a linked × IsPort setups linked.setup linked.port) (IsLabelEnd setups) inputs_at (λ linked p. inputs_of_port setups a linked h p.0 p.1) a.controller.ports (each_there setups a h)

    joining_rises : (a : Acted) → HasPorts setups a → a.numbers.instances ≤ (tries_joins a).numbers.instances
    joining_rises a h = (moves_never_fall setups a (tries_joins a) (tries_joins_goes setups a h)).instances

    -- what may be joined to the label stays: so at the end that hands it out
    tries_lead : (inputs : List ChannelEnd) (a : Acted) → Every (IsLabelEnd setups) inputs → HasPorts setups a → EndLeads link like role a [] (fold tries_join a inputs) []
    tries_lead [] a ends h = end_stays link like role a []
    tries_lead (input ∷ inputs) a ends h = end_then link like role a (tries_join a input) (fold tries_join (tries_join a input) inputs) [] [] [] (by (entered a.controller input) refl)
        (tries_lead inputs (tries_join a input) ends.1 (moves_ports setups (tries_join_goes setups a input h ends.0) h))
      where
        next_is : (o : Option Join) → entered a.controller input ≡ o → joins a o ≡ tries_join a input
        next_is o is = ap (λ (x : Option Join). joins a x) (sym is) ∙ sym (tries_is a input (label_on a.controller input))

        by : (o : Option Join) → entered a.controller input ≡ o → EndLeads link like role a [] (tries_join a input) []
        by None is = subst (λ (b : Acted). EndLeads link like role a [] b []) (next_is None is) (end_stays link like role a [])
        by (Some join) is = subst (λ (b : Acted). EndLeads link like role a [] b []) (next_is (Some join) is) (join_leads setups link proper like role a input join (entering setups a input h join (label_on a.controller input) is))

    on_leads : (a : Acted) → IsReady setups a.controller → (tries_joins (before_joins a)).numbers.instances < 2 ^ 32 → EndLeads link like role a [] (tries_joins (before_joins a)) []
    on_leads a ready f =
        let h : HasPorts setups (before_joins a) = before_ports a (has_ports setups a ready.sound) in
        let joining : (before_joins a).numbers.instances ≤ (tries_joins (before_joins a)).numbers.instances = joining_rises (before_joins a) h in
        end_then link like role a (before_joins a) (tries_joins (before_joins a)) [] [] [] (before_leads a ready (omega (arith, f, joining)))
        (tries_lead (flat_map inputs_at (before_joins a).controller.ports) (before_joins a) (inputs_ends (before_joins a) h) h)

    pub tick_leads : (a : Acted) → IsReady setups a.controller → (ticks a).numbers.instances < 2 ^ 32 → EndLeads link like role a [] (ticks a) []
    tick_leads a ready f = by (ticked a.controller.adjacency).answer f
      where
        by : (answer : Answer (Said Party) Party) → (ticks_by a (ticked a.controller.adjacency) answer).numbers.instances < 2 ^ 32 → EndLeads link like role a [] (ticks_by a (ticked a.controller.adjacency) answer) []
        by Quiet f = on_leads a ready f
        by (Send message) f = on_leads a ready f
        by (Open message own) f = on_leads a ready f
        by Reset f = node_resets_leads link proper like role a []

  -- and at the end that may send under it more may be joined, where a join is entered
  module _ (link : LinkLabel) (proper : IsProper link) (fit : FitsLink link) (like more : Type 0) where
    on_turn : (a : Acted) → IsReady setups a.controller → (tries_joins (before_joins a)).numbers.instances < 2 ^ 32
        → (more → like ⊎ EntersTo (label_end (link.port Upstream) link.label) (before_joins a) (flat_map inputs_at (before_joins a).controller.ports))
        → Turns link like more Upstream a (tries_joins (before_joins a))
    on_turn a ready small f =
        let h : HasPorts setups (before_joins a) = before_ports link proper fit like Upstream a (has_ports setups a ready.sound) in
        let joining : (before_joins a).numbers.instances ≤ (tries_joins (before_joins a)).numbers.instances = joining_rises link proper fit like Upstream (before_joins a) h in
        turns_on link Upstream like like more a (before_joins a) (tries_joins (before_joins a)) (before_leads link proper fit like Upstream a ready (omega (arith, small, joining)))
        (tries_turn setups link proper (flat_map inputs_at (before_joins a).controller.ports) like more (before_joins a) (inputs_ends link proper fit like Upstream (before_joins a) h) h f)

    -- a reset of the adjacency leaves no label to be joined
    no_inputs : (ports : List Linked) → Every IsShutLinked ports → flat_map inputs_at ports ≡ []
    no_inputs [] shut = refl
    no_inputs (x ∷ ports) shut = ap (λ (o : Option Session). map (λ (label : Label). label_end x.setup.port label.number) (option_map_or (λ (s : Session). s.labels) o []) ++ flat_map inputs_at ports) shut.0.session
        ∙ no_inputs ports shut.1

    none_behind : (a : Acted) → IsReady setups a.controller → (ticked a.controller.adjacency).answer ≡ Reset → TickEntersTo (label_end (link.port Upstream) link.label) a → ⊥
    none_behind a ready is e =
        let step : sides.Step Party = ticked a.controller.adjacency in
        let stepped : Acted = steps a step in
        let again : Acted = sends_again stepped in
        let h : HasPorts setups a = has_ports setups a ready.sound in
        let k : HasPorts setups stepped = moves_ports setups (steps_goes setups a step ages h) h in
        let l : HasPorts setups again = moves_ports setups (sends_again_goes setups stepped k) k in
        let kept : Keeps setups 0 0 (λ (x : ChannelEnd). ⊥) stepped (before_joins a) = keeps_on setups 0 0 (λ (x : ChannelEnd). ⊥) stepped again (before_joins a) (again_keeps setups 0 0 (λ (x : ChannelEnd). ⊥) stepped)
        (ticks_keep setups 0 0 (λ (x : ChannelEnd). ⊥) (ports_of again.controller) again (λ x u. u) l) in
        let down : stepped.controller.has_met ≡ false = subst (λ (answer : Answer (Said Party) Party). (answers (record a { controller = record a.controller { adjacency = step.side } }) (gsmp_answer answer)).controller.has_met ≡ false) (sym is)
        (node_unmet setups (record a { controller = record a.controller { adjacency = step.side } })) in
        let sound : IsSound setups (before_joins a).controller = moves_sound setups a (before_joins a)
        (further (steps_goes setups a step ages h) (further (sends_again_goes setups stepped k) (ticks_ports_goes setups again l))) ready.sound in
        never setups link proper (before_joins a) (subst (λ (inputs : List ChannelEnd). EntersTo (label_end (link.port Upstream) link.label) (before_joins a) inputs)
        (no_inputs (before_joins a).controller.ports (sound.unmet (by (before_joins a).controller.has_met refl kept down))) e)
      where
        by : (b : Bool) → (before_joins a).controller.has_met ≡ b → Keeps setups 0 0 (λ (x : ChannelEnd). ⊥) (steps a (ticked a.controller.adjacency)) (before_joins a)
            → (steps a (ticked a.controller.adjacency)).controller.has_met ≡ false → (before_joins a).controller.has_met ≡ false
        by true met kept down = absurd (cc (sym (kept.met met) ∙ down))
        by false met kept down = met

    pub tick_turns : (a : Acted) → IsReady setups a.controller → (ticks a).numbers.instances < 2 ^ 32 → (more → like ⊎ TickEntersTo (label_end (link.port Upstream) link.label) a)
        → Turns link like more Upstream a (ticks a)
    tick_turns a ready small f = by (ticked a.controller.adjacency).answer refl small
      where
        ended : (ticked a.controller.adjacency).answer ≡ Reset → like ⊎ TickEntersTo (label_end (link.port Upstream) link.label) a → like
        ended is (inl l) = l
        ended is (inr e) = absurd (none_behind a ready is e)

        by : (answer : Answer (Said Party) Party) → (ticked a.controller.adjacency).answer ≡ answer → (ticks_by a (ticked a.controller.adjacency) answer).numbers.instances < 2 ^ 32
            → Turns link like more Upstream a (ticks_by a (ticked a.controller.adjacency) answer)
        by Quiet is k = on_turn a ready k f
        by (Send message) is k = on_turn a ready k f
        by (Open message own) is k = on_turn a ready k f
        by Reset is k = turns_on link Upstream like like more a (node_resets a) (node_resets a) (node_resets_leads link proper like Upstream a [])
            (turns_less link Upstream like more (node_resets a) (λ m. ended is (f m)))
