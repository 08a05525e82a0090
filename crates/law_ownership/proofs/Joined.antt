-- a label that is spare leads home: nothing else is led from it, for a join's label is held with that join

use Rattle.std.proofs.Common.{◌≡◌, ℕ, ◌<◌, Bool, true, false, List, [], Option, None, Some, refl, sym, ◌∙◌, ap, subst, arith}
use Rattle.std.specs.Prelude.{is_some}
use Rattle.std.proofs.Common.{inl, inr}
use Rattle.std.specs.Option.{option_map, option_map_or, option_and_then}
use Rattle.law_frame_readings.specs.world_model.Words.{End, is_label_number, label_channel_of, number_of_channel, State, Clearing, SynSent, SynRcvd, Estab, is_estab, IsLinkPort, at, Setup, label_end, home_of, control_end, Label, LabelState, Wiring, Offered, Recalled, Wired, label_number, Grant, Session, labels_of, Controller, Linked, linked_at, port_key, is_clearing, Site, site_at, session_at, output_at, Past, Way, IsWay, IsSpare, IsWiring, held}
use Rattle.law_frame_readings.specs.world_model.crossbar_model.Crossbar.{output_of}
use Rattle.law_frame_readings.specs.world_model.port_model.Grants.{lent_input}
use Rattle.law_frame_readings.specs.law_port_facts.Port.{IsLabelEnd, IsLabel, IsShut, setup_port}
use Rattle.law_frame_readings.proofs.law_port_facts.Keyed.{at_every}
use Rattle.law_frame_readings.specs.law_controller_facts.Sound.{IsLinkedPort, IsShutLinked}
use Rattle.law_run_facts.specs.law_controller.Match.{joined_in, joined_at, lent_in, lent_at, clearing_at, end_at}
use Rattle.law_unused_labels.proofs.law_causes.Shown.{peer_back}
use Rattle.law_frame_readings.specs.law_world_views.Pairs.{by_branch, IsJoin}
use Rattle.law_frame_readings.specs.law_world_views.Between.{IsShapedBranch, setups_of}
use Rattle.law_frame_readings.specs.law_world_views.Between as between
use Rattle.law_ownership.specs.Owning.{IsKept}

number_again : (label : ℕ) → number_of_channel (label_channel_of label) ≡ label
number_again label = omega arith

not_clearing : (s : State) → is_estab s ≡ true → is_clearing s ≡ false
not_clearing Clearing e = absurd (cc e)
not_clearing SynSent e = absurd (cc e)
not_clearing SynRcvd e = absurd (cc e)
not_clearing Estab e = refl

module _ (past : Past) (kept : IsKept past) (way : Way) (on : IsWay past.topology way) (label : ℕ) (number : is_label_number label ≡ true)
    (session : Session) (opened : session_at past.now way.down ≡ Some session) (spare : IsSpare (held session label)) where
  above : 0 < way.down.port.0
  above = omega (arith, (peer_back past.topology kept.topology_is way.down way.up on.upstream).own.0)

  module _ (site : Site) (found : site_at past.now way.down.node ≡ Some site) (linked : Linked) (at_port : linked_at site.controller way.down.port ≡ Some linked)
      (open_there : linked.port.session ≡ Some session) where
    c : Controller
    c = site.controller

    port : IsLinkedPort (setups_of site.controller) linked
    port = at_every port_key (IsLinkedPort (setups_of site.controller)) way.down.port.0 site.controller.ports linked (kept.sound way.down.node site found).ports.each at_port

    estab : is_estab linked.port.adjacency.state ≡ true
    estab = sym port.session ∙ ap (λ (o : Option Session). is_some o) open_there

    labels_are : labels_of linked.port ≡ session.labels
    labels_are = ap (λ (o : Option Session). option_map_or (λ s. s.labels) o []) open_there

    -- *No join* of it is held
    joined_none : (output : End) → joined_in (labels_of linked.port) label ≡ Some output → ⊥
    joined_none output e = by (at label_number label (labels_of linked.port)) refl (subst (λ (ls : List Label). IsSpare (at label_number label ls)) (sym labels_are) spare) e
      where
        by : (o : Option Label) → at label_number label (labels_of linked.port) ≡ o → IsSpare o → option_and_then (λ (l : Label). l.join) o ≡ Some output → ⊥
        by None held_is spare e = cc e
        by (Some l) held_is spare e = none_joined
          where
            wiring : (s : LabelState) → IsWiring s → s ≡ Wiring
            wiring Wiring h = refl
            wiring Offered h = absurd h
            wiring (Recalled last acknowledged) h = absurd h
            wiring Wired h = absurd h

            none_joined : ⊥
            none_joined = cc (sym ((at_every label_number (IsLabel (setups_of site.controller) linked.setup) label (labels_of linked.port) l port.labels held_is).unjoined (wiring l.state spare)) ∙ e)

    joined_nowhere : (output : End) → joined_at site.controller.ports way.down.port.0 (number_of_channel (label_channel_of label)) ≡ Some output → ⊥
    joined_nowhere output e = joined_none output
        (sym (ap (λ (o : Option Linked). option_and_then (λ (x : Linked). joined_in (labels_of x.port) label) o) at_port)
        ∙ (ap (λ (n : ℕ). joined_at site.controller.ports way.down.port.0 n) (sym (number_again label)) ∙ e))

    isnt_clearing : clearing_at site.controller.ports way.down.port.0 ≡ false
    isnt_clearing = ap (λ (o : Option Linked). option_map_or (λ (x : Linked). is_clearing x.port.adjacency.state) o false) at_port ∙ not_clearing linked.port.adjacency.state estab

    -- *The switch is met*, for the port is open
    met : site.controller.has_met ≡ true
    met = by site.controller.has_met refl
      where
        by : (b : Bool) → site.controller.has_met ≡ b → site.controller.has_met ≡ true
        by true e = e
        by false e =
            let shut : IsShut linked.port = at_every port_key IsShutLinked way.down.port.0 site.controller.ports linked ((kept.sound way.down.node site found).unmet e) at_port in
            absurd (cc (sym shut.session ∙ open_there))

    label_above : (end : End) → IsLabelEnd (setups_of site.controller) end → 0 < end.port.0
    label_above end h = subst (λ (x : End). 0 < x.port.0) (sym h.is)
        (omega (arith, (at_every setup_port (λ (setup : Setup). IsLinkPort setup.port) h.setup.port.0 (setups_of site.controller) h.setup (kept.links way.down.node site found) h.linked).0))

    -- *No join leads* from it
    no_join : (output : End) → output_at past.now way.down.node (label_end way.down.port label) ≡ Some output → 0 < output.port.0 → ⊥
    no_join output leads_to far =
        let join : IsJoin site.controller (label_end way.down.port label) output = kept.world.joins way.down.node site found met (label_end way.down.port label) output above far (by_branch leads_to) in
        let lent : lent_at site.controller.ports output.port.0 (number_of_channel output.channel) ≡ Some (label_end way.down.port label) =
        ap (λ (o : Option Linked). option_and_then (λ (x : Linked). lent_in x.port.grants (number_of_channel output.channel)) o) join.found
        ∙ (ap (λ (o : Option Grant). option_and_then (λ (g : Grant). lent_input g.state) o) join.granted ∙ join.lent) in
        elim ((kept.matched way.down.node site found).joined output.port.0 (number_of_channel output.channel) (label_end way.down.port label) lent) [
          | inl clearing ↦ absurd (cc (sym clearing ∙ isnt_clearing))
          | inr joined ↦ joined_nowhere (end_at output.port.0 (number_of_channel output.channel)) joined
        ]

    leads_home : (output : End) → output_at past.now way.down.node (label_end way.down.port label) ≡ Some output → output ≡ control_end way.down.port label
    leads_home output leads_to = by (label_end way.down.port label) output refl leads_to ((kept.world.shapes way.down.node site found).branches (label_end way.down.port label) output
        (sym (ap (λ (o : Option Site). option_and_then (λ (s : Site). output_of s.switch.crossbar.branches (label_end way.down.port label)) o) found) ∙ leads_to))
      where
        by : (input output : End) → input ≡ label_end way.down.port label → output_at past.now way.down.node (label_end way.down.port label) ≡ Some output
            → IsShapedBranch (setups_of site.controller) input output → output ≡ control_end way.down.port label
        by _ _ same leads_to (between.home end is) = ap home_of same
        by _ _ same leads_to (between.out end is) = absurd (omega (arith, above, ap (λ (x : End). x.port.0) same))
        by _ _ same leads_to (between.joined input output one other) = absurd (no_join output leads_to (label_above output other))

  pub spare_leads_home : (output : End) → output_at past.now way.down.node (label_end way.down.port label) ≡ Some output → output ≡ control_end way.down.port label
  spare_leads_home output leads_to = by (site_at past.now way.down.node) refl opened
    where
      by_linked : (site : Site) → site_at past.now way.down.node ≡ Some site → (o : Option Linked) → linked_at site.controller way.down.port ≡ o
          → option_and_then (λ (x : Linked). x.port.session) o ≡ Some session → output ≡ control_end way.down.port label
      by_linked site found None at_port e = absurd (cc e)
      by_linked site found (Some linked) at_port e = leads_home site found linked at_port e output leads_to

      by : (o : Option Site) → site_at past.now way.down.node ≡ o → option_and_then (λ (x : Linked). x.port.session) (option_and_then (λ c. linked_at c way.down.port) (option_map (λ site. site.controller) o)) ≡ Some session
          → output ≡ control_end way.down.port label
      by None found e = absurd (cc e)
      by (Some site) found e = by_linked site found (linked_at site.controller way.down.port) refl e
