-- nothing that stands is on the input of a spare label, nor on that of a label that isn't granted

use Rattle.std.proofs.Common.{◌≡◌, ℕ, Bool, true, false, List, [], ◌∷◌, filter, Option, None, Some, refl, sym, ◌∙◌, ap, subst, if◌then◌else◌}
use Rattle.std.specs.Prelude.{◌&&◌, nat_le}
use Rattle.std.specs.Option.{option_and_then}
use Rattle.world_model.specs.Words.{Policy, NodeId, PortNo, End, Request, is_label_number, number_of_channel, label_channel_of, label_end, control_end, is_in_range, Standing, at, Setup, Label, label_at, labels_of, Grant, grant_label, Controller, Linked, port_key, Topology, Site}
use Rattle.world_model.specs.network_model.declared.event.Event.{Event}
use Rattle.law_live_journeys.specs.law_port_facts.ordered_lists.Ordered.{Every}
use Rattle.law_live_journeys.specs.law_port_facts.Port.{IsGrant}
use Rattle.law_live_journeys.proofs.law_port_facts.ordered_lists.Every.{every_map2}
use Rattle.law_live_journeys.proofs.law_port_facts.Keyed.{at_key, at_every}
use Rattle.law_live_journeys.specs.law_controller.Match.{joined_in, joined_at, end_at, IsOfJoin, MovesJoined}
use Rattle.law_live_journeys.specs.law_input_steps.Asking.{concerns}
use Rattle.law_live_journeys.proofs.law_input_steps.Ends.{same_is}
use Rattle.law_live_journeys.specs.law_run_facts.law_world_views.Between.{setups_of}
use Rattle.law_live_journeys.specs.law_live_mirrors.Mirrors.{other_end}
use Rattle.law_live_journeys.specs.law_live_mirrors.Asking.{IsFree}
use Rattle.law_live_journeys.proofs.law_live_mirrors.Ports.{number_again, other_of_control}
use Rattle.law_live_ease.proofs.ComingOwed.{Owes, IsOf, of_label, of_grant, owed, moves, AreSame, one_end}
use Rattle.law_live_ease.proofs.ComingSteps.{one_linked}
use Rattle.law_live_ease.proofs.ComingNode.{Brought, IsThere, tie, of_run, link_of, port_of, joined_input}

pub first_of : (x y : Bool) → (x && y) ≡ true → x ≡ true
first_of true y e = refl
first_of false y e = absurd (cc e)

pub is_number : (setup : Setup) (number : ℕ) → is_in_range setup number ≡ true → is_label_number number ≡ true
is_number setup number in_range = first_of (is_label_number number) (nat_le setup.least number && nat_le number setup.greatest) in_range

not_true : (b : Bool) → (b ≡ true → ⊥) → b ≡ false
not_true true never = absurd (never refl)
not_true false never = refl

none_passes : {A : Type 0} (test : A → Bool) (xs : List A) → Every (λ (x : A). test x ≡ false) xs → filter test xs ≡ []
none_passes test [] each = refl
none_passes {A} test (x ∷ xs) each = ap (λ (b : Bool). if b then x ∷ filter test xs else filter test xs) each.0 ∙ none_passes test xs each.1

module _ {policy : Policy} {topology : Topology} {before : List Event} {node : NodeId} {site : Site} (m : Brought policy topology before node site) where
  abbrev c : Controller
  c = site.controller

  free_of : (input : End) → ((request : Request) → IsOf c.ports request → MovesJoined c.ports request → concerns input request ≡ true → ⊥) → IsFree c.desk input
  free_of input never = none_passes (λ (s : Standing). concerns input s.request) c.desk.standing
      (every_map2 (λ (s : Standing). IsOf c.ports s.request) (IsOfJoin c.ports) (λ (s : Standing). concerns input s.request ≡ false) c.desk.standing
      (λ s is joined. not_true (concerns input s.request) (never s.request is joined)) (tie m).standing (of_run m).conduct.matched.moving)

  module _ (linked : Linked) (there : IsThere m linked) (number : ℕ) where
    abbrev port : PortNo
    port = linked.setup.port

    -- a port with this number is this one
    is_this : (l : Linked) → IsThere m l → port.0 ≡ l.setup.port.0 → l ≡ linked
    is_this l found same = one_linked l linked (sym found ∙ subst (λ k. at port_key k c.ports ≡ Some linked) same there)

    -- *A spare label*
    module _ (spare : label_at linked.port number ≡ None) where
      label_owed : (l : Linked) → IsThere m l → (request : Request) → Owes l request → concerns (label_end port number) request ≡ true → ⊥
      label_owed l found _ (of_label k has) on = absurd (cc (sym spare ∙ held))
        where
          same : AreSame linked.setup l.setup number k
          same = one_end linked.setup l.setup number k (same_is (label_end port number) (label_end l.setup.port k) on)

          held : label_at linked.port number ≡ Some has.item
          held = subst (λ n. label_at linked.port n ≡ Some has.item) (sym same.number)
              (subst (λ (x : Linked). label_at x.port k ≡ Some has.item) (is_this l found same.port) has.held)
      label_owed l found _ (of_grant k has) on = link_of m linked there (ap (λ (e : End). e.port.0) (same_is (label_end port number) (control_end l.setup.port k) on))

      unjoined : joined_at c.ports port.0 (number_of_channel (label_channel_of number)) ≡ None
      unjoined = ap (λ (o : Option Linked). option_and_then (λ (l : Linked). joined_in (labels_of l.port) (number_of_channel (label_channel_of number))) o) there
          ∙ (ap (joined_in (labels_of linked.port)) (number_again number) ∙ ap (λ (o : Option Label). option_and_then (λ (label : Label). label.join) o) spare)

      label_never : (request : Request) → IsOf c.ports request → MovesJoined c.ports request → concerns (label_end port number) request ≡ true → ⊥
      label_never _ (owed l request found is) joined on = label_owed l found request is on
      label_never _ (moves input from to away) joined on = absurd (cc (sym unjoined
          ∙ subst (λ (e : End). joined_at c.ports e.port.0 (number_of_channel e.channel) ≡ Some (end_at to.port.0 (number_of_channel to.channel))) (sym (same_is (label_end port number) input on))
          (joined_input m input from to away joined)))

      pub spare_is_free : IsFree c.desk (label_end port number)
      spare_is_free = free_of (label_end port number) label_never

    -- *A label that isn't granted*
    module _ (in_range : is_in_range linked.setup number ≡ true) (ungranted : at grant_label number linked.port.grants ≡ None) where
      grant_number : (l : Linked) → IsThere m l → (k : ℕ) (grant : Grant) → at grant_label k l.port.grants ≡ Some grant → is_label_number k ≡ true
      grant_number l found k grant held = subst (λ n. is_label_number n ≡ true) (at_key grant_label k l.port.grants grant held)
          (is_number l.setup grant.label (at_every grant_label (IsGrant (setups_of c) l.setup) k l.port.grants grant (port_of m l found).grants held).in_range)

      grant_owed : (l : Linked) → IsThere m l → (request : Request) → Owes l request → concerns (control_end port number) request ≡ true → ⊥
      grant_owed l found _ (of_label k has) on = link_of m l found (sym (ap (λ (e : End). e.port.0) (same_is (control_end port number) (label_end l.setup.port k) on)))
      grant_owed l found _ (of_grant k has) on = absurd (cc (sym ungranted ∙ held))
        where
          same : AreSame linked.setup l.setup number k
          same = one_end linked.setup l.setup number k (sym (other_of_control port number (is_number linked.setup number in_range))
              ∙ (ap other_end (same_is (control_end port number) (control_end l.setup.port k) on) ∙ other_of_control l.setup.port k (grant_number l found k has.item has.held)))

          held : at grant_label number linked.port.grants ≡ Some has.item
          held = subst (λ n. at grant_label n linked.port.grants ≡ Some has.item) (sym same.number)
              (subst (λ (x : Linked). at grant_label k x.port.grants ≡ Some has.item) (is_this l found same.port) has.held)

      none_home : (number : ℕ) (to : End) → joined_at c.ports 0 number ≡ Some to → ⊥
      none_home number to e = by (at port_key 0 c.ports) refl e
        where
          by : (o : Option Linked) → at port_key 0 c.ports ≡ o → option_and_then (λ (l : Linked). joined_in (labels_of l.port) number) o ≡ Some to → ⊥
          by None found e = cc e
          by (Some l) found e = (let own : l.setup.port.0 ≡ 0 = at_key port_key 0 c.ports l found in
              link_of m l (subst (λ k. at port_key k c.ports ≡ Some l) (sym own) found) own)

      grant_never : (request : Request) → IsOf c.ports request → MovesJoined c.ports request → concerns (control_end port number) request ≡ true → ⊥
      grant_never _ (owed l request found is) joined on = grant_owed l found request is on
      grant_never _ (moves input from to away) joined on = none_home (number_of_channel (control_end port number).channel) (end_at to.port.0 (number_of_channel to.channel))
          (subst (λ (e : End). joined_at c.ports e.port.0 (number_of_channel e.channel) ≡ Some (end_at to.port.0 (number_of_channel to.channel))) (sym (same_is (control_end port number) input on))
          (joined_input m input from to away joined))

      pub ungranted_is_free : IsFree c.desk (control_end port number)
      ungranted_is_free = free_of (control_end port number) grant_never
