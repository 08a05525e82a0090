-- what stands at a node of a network that binds, in which only branches are asked, and what of it concerns an input

use Rattle.std.proofs.Common.{◌≡◌, ◌≢◌, ℕ, ◌≤◌, Bool, true, false, true≢false, List, [], ◌∷◌, filter, Some, refl, sym, ◌∙◌, ap, subst, arith, if◌then◌else◌}
use Rattle.world_model.specs.Words.{Policy, NodeId, PortNo, End, Request, is_label_number, label_end, control_end, Standing, at, Label, Offered, label_number, label_at, labels_of, is_in_range, Grant, grant_label, IsLinkPort, Setup, Controller, Linked, port_key, Topology, World, Site, site_at, IsNode, IsRun, past_of}
use Rattle.world_model.specs.network_model.declared.event.Event.{Event}
use Rattle.live_model.specs.Met.{HaveMet}
use Rattle.law_live_ease.specs.law_port_facts.ordered_lists.Ordered.{Every}
use Rattle.law_live_ease.specs.law_port_facts.Port.{IsLabel, IsGrant}
use Rattle.law_live_ease.proofs.law_port_facts.ordered_lists.Every.{every_map, every_map2, every_unmapped}
use Rattle.law_live_ease.proofs.law_port_facts.Keyed.{at_key, at_every}
use Rattle.law_live_ease.specs.law_controller.law_controller_facts.Sound.{IsLinkedPort}
use Rattle.law_live_ease.specs.law_input_steps.Asking.{concerns}
use Rattle.law_live_ease.proofs.law_input_steps.Ends.{same_is}
use Rattle.law_live_ease.specs.law_run_facts.law_world_views.Between.{IsWorld, setups_of}
use Rattle.law_live_ease.specs.law_run_facts.law_world_views.Fronts.{HasAddresses}
use Rattle.law_live_ease.specs.law_run_facts.Nodes.{IsNodeOfRun}
use Rattle.law_live_ease.proofs.law_run_facts.Nodes.{runs_have_nodes}
use Rattle.law_live_ease.specs.law_live_hearing.Law.{world_at}
use Rattle.law_live_ease.specs.law_live_mirrors.Mirrors.{other_end, is_led_out}
use Rattle.law_live_ease.specs.law_live_mirrors.Asking.{IsFree}
use Rattle.law_live_ease.proofs.law_live_mirrors.Ports.{other_of_control}
use Rattle.law_live_ease.specs.law_live_mirrored_worlds.Way.{IsMirroredSite}
use Rattle.law_live_ease.specs.law_live_mirrored_worlds.Law.{IsCalmlyMirrored}
use Rattle.law_live_ease.proofs.ComingOwed.{Owes, IsOf, of_label, of_grant, owed, moves, Tie, tie_of, AreSame, one_end}
use Rattle.law_live_ease.proofs.ComingSteps.{one_linked}
use Rattle.law_live_ease.proofs.ComingFree.{is_number}
use Rattle.law_live_cut_through.specs.Law.{AddsBranch, BindsAlone}

pub one_site : (x y : Site) → Some x ≡ Some y → x ≡ y
one_site x y e = cc

one_label : (x y : Label) → Some x ≡ Some y → x ≡ y
one_label x y e = cc

one_grant : (x y : Grant) → Some x ≡ Some y → x ≡ y
one_grant x y e = cc

some_is : (n : ℕ) → 1 ≤ n → n ≢ 0
some_is n some zero = omega (arith, some, zero)

not_true : (b : Bool) → (b ≡ true → ⊥) → b ≡ false
not_true true never = absurd (never refl)
not_true false never = refl

none_passes : {A : Type 0} (test : A → Bool) (xs : List A) → Every (λ (x : A). test x ≡ false) xs → filter test xs ≡ []
none_passes test [] each = refl
none_passes {A} test (x ∷ xs) each = ap (λ (b : Bool). if b then x ∷ filter test xs else filter test xs) each.0 ∙ none_passes test xs each.1

-- *A node* of such a network, in a run
pub record IsNodeAlone (policy : Policy) (topology : Topology) (events : List Event) (node : NodeId) (site : Site) : Type 0 where
  pub run : IsRun policy topology events
  pub addresses : HasAddresses topology
  pub world : IsWorld (past_of policy topology events)
  pub alone : BindsAlone topology (world_at policy topology events)
  pub within : IsNode topology node
  pub found : site_at (world_at policy topology events) node ≡ Some site

module _ {policy : Policy} {topology : Topology} {events : List Event} {node : NodeId} {site : Site} (n : IsNodeAlone policy topology events node site) where
  abbrev w : World
  w = world_at policy topology events

  abbrev c : Controller
  c = site.controller

  abbrev pub IsThere : Linked → Type 0
  IsThere linked = at port_key linked.setup.port.0 c.ports ≡ Some linked

  of_run : IsNodeOfRun policy (past_of policy topology events) node site
  of_run = runs_have_nodes policy topology events n.addresses n.run node site n.found

  tie : Tie c.ports c.desk
  tie = tie_of c (n.alone.binds.steady node site n.found).ties

  links : Every (λ (linked : Linked). linked.setup.port.0 ≢ 0) c.ports
  links = every_map (λ (linked : Linked). IsLinkPort linked.setup.port) (λ (linked : Linked). linked.setup.port.0 ≢ 0) c.ports (λ linked is. some_is linked.setup.port.0 is.0)
      (every_unmapped (λ (linked : Linked). linked.setup) (λ (setup : Setup). IsLinkPort setup.port) c.ports of_run.ports.links)

  pub link_of : (linked : Linked) → IsThere linked → linked.setup.port.0 ≢ 0
  link_of linked there = at_every port_key (λ (l : Linked). l.setup.port.0 ≢ 0) linked.setup.port.0 c.ports linked links there

  -- no setup is of the control link's port
  pub setups_link : Every (λ (setup : Setup). setup.port.0 ≢ 0) (setups_of c)
  setups_link = every_map (λ (setup : Setup). IsLinkPort setup.port) (λ (setup : Setup). setup.port.0 ≢ 0) (setups_of c) (λ setup is. some_is setup.port.0 is.0) of_run.ports.links

  port_of : (linked : Linked) → IsThere linked → IsLinkedPort (setups_of c) linked
  port_of linked there = at_every port_key (IsLinkedPort (setups_of c)) linked.setup.port.0 c.ports linked of_run.conduct.sound.ports.each there

  -- *It is mirrored*, and has met its switch
  pub calmly : IsCalmlyMirrored w node
  calmly = n.alone.binds.nodes node n.within

  pub met : HaveMet c.adjacency site.switch.adjacency
  met = subst (λ (s : Site). HaveMet s.controller.adjacency s.switch.adjacency) (one_site calmly.calm.site site (sym calmly.calm.found ∙ n.found)) calmly.calm.calm.met

  pub mirrored : IsMirroredSite w.notes.frames site calmly.mirrored.way
  mirrored = subst (λ (s : Site). IsMirroredSite w.notes.frames s calmly.mirrored.way) (one_site calmly.mirrored.by.site site (sym calmly.mirrored.by.found ∙ n.found)) calmly.mirrored.by.mirrored

  -- *An input is free* that no branch concerns which is owed to a port
  free_of : (input : End) → ((request : Request) → IsOf c.ports request → AddsBranch request → concerns input request ≡ true → ⊥) → IsFree c.desk input
  free_of input never = none_passes (λ (s : Standing). concerns input s.request) c.desk.standing
      (every_map2 (λ (s : Standing). IsOf c.ports s.request) (λ (s : Standing). AddsBranch s.request) (λ (s : Standing). concerns input s.request ≡ false) c.desk.standing
      (λ s is adds. not_true (concerns input s.request) (never s.request is adds)) tie.standing (n.alone.alone node site n.found))

  module _ (linked : Linked) (there : IsThere linked) (number : ℕ) where
    abbrev port : PortNo
    port = linked.setup.port

    -- a port with this number is this one
    is_this : (l : Linked) → IsThere l → port.0 ≡ l.setup.port.0 → l ≡ linked
    is_this l found same = one_linked l linked (sym found ∙ subst (λ k. at port_key k c.ports ≡ Some linked) same there)

    -- *A label that is offered*
    module _ (label : Label) (held : label_at linked.port number ≡ Some label) where
      pub label_number_is : is_label_number number ≡ true
      label_number_is = subst (λ k. is_label_number k ≡ true) (at_key label_number number (labels_of linked.port) label held)
          (is_number linked.setup label.number (at_every label_number (IsLabel (setups_of c) linked.setup) number (labels_of linked.port) label (port_of linked there).labels held).in_range)

      pub label_in_range : is_in_range linked.setup number ≡ true
      label_in_range = subst (λ k. is_in_range linked.setup k ≡ true) (at_key label_number number (labels_of linked.port) label held)
          (at_every label_number (IsLabel (setups_of c) linked.setup) number (labels_of linked.port) label (port_of linked there).labels held).in_range

      module _ (offered : label.state ≡ Offered) where
        label_owed : (l : Linked) → IsThere l → (request : Request) → Owes l request → concerns (label_end port number) request ≡ true → ⊥
        label_owed l found _ (of_label k has) on = absurd (cc (sym has.is ∙ (ap (λ (x : Label). x.state) (one_label has.item label (sym again ∙ held)) ∙ offered)))
          where
            same : AreSame linked.setup l.setup number k
            same = one_end linked.setup l.setup number k (same_is (label_end port number) (label_end l.setup.port k) on)

            again : label_at linked.port number ≡ Some has.item
            again = subst (λ m. label_at linked.port m ≡ Some has.item) (sym same.number)
                (subst (λ (x : Linked). label_at x.port k ≡ Some has.item) (is_this l found same.port) has.held)
        label_owed l found _ (of_grant k has) on = link_of linked there (ap (λ (e : End). e.port.0) (same_is (label_end port number) (control_end l.setup.port k) on))

        label_never : (request : Request) → IsOf c.ports request → AddsBranch request → concerns (label_end port number) request ≡ true → ⊥
        label_never _ (owed l request found is) adds on = label_owed l found request is on
        label_never _ (moves input from to away) adds on = adds

        pub label_is_free : IsFree c.desk (label_end port number)
        label_is_free = free_of (label_end port number) label_never

    -- *A grant that is used*
    module _ (grant : Grant) (held : at grant_label number linked.port.grants ≡ Some grant) where
      grant_number : (l : Linked) → IsThere l → (k : ℕ) (x : Grant) → at grant_label k l.port.grants ≡ Some x → is_label_number k ≡ true
      grant_number l found k x e = subst (λ m. is_label_number m ≡ true) (at_key grant_label k l.port.grants x e)
          (is_number l.setup x.label (at_every grant_label (IsGrant (setups_of c) l.setup) k l.port.grants x (port_of l found).grants e).in_range)

      pub grant_number_is : is_label_number number ≡ true
      grant_number_is = grant_number linked there number grant held

      module _ (out : is_led_out grant.state ≡ true) where
        grant_owed : (l : Linked) → IsThere l → (request : Request) → Owes l request → concerns (control_end port number) request ≡ true → ⊥
        grant_owed l found _ (of_label k has) on = link_of l found (sym (ap (λ (e : End). e.port.0) (same_is (control_end port number) (label_end l.setup.port k) on)))
        grant_owed l found _ (of_grant k has) on = true≢false (sym out ∙ (ap (λ (x : Grant). is_led_out x.state) (one_grant grant has.item (sym held ∙ again)) ∙ ap is_led_out has.is))
          where
            same : AreSame linked.setup l.setup number k
            same = one_end linked.setup l.setup number k (sym (other_of_control port number grant_number_is)
                ∙ (ap other_end (same_is (control_end port number) (control_end l.setup.port k) on) ∙ other_of_control l.setup.port k (grant_number l found k has.item has.held)))

            again : at grant_label number linked.port.grants ≡ Some has.item
            again = subst (λ m. at grant_label m linked.port.grants ≡ Some has.item) (sym same.number)
                (subst (λ (x : Linked). at grant_label k x.port.grants ≡ Some has.item) (is_this l found same.port) has.held)

        grant_never : (request : Request) → IsOf c.ports request → AddsBranch request → concerns (control_end port number) request ≡ true → ⊥
        grant_never _ (owed l request found is) adds on = grant_owed l found request is on
        grant_never _ (moves input from to away) adds on = adds

        pub grant_is_free : IsFree c.desk (control_end port number)
        grant_is_free = free_of (control_end port number) grant_never
