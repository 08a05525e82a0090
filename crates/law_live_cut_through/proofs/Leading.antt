-- the inputs of labels and grants that are held lead where they are to, if they lead anywhere; and so they do where nothing waits for the switch

use Rattle.std.proofs.Common.{◌≡◌, ◌≢◌, inl, inr, ℕ, ◌<◌, Bool, true, false, List, [], ◌∷◌, ◌++◌, Option, None, Some, refl, sym, ◌∙◌, ap, subst, arith}
use Rattle.std.specs.Prelude.{◌==◌, ◌||◌, ◌+◌, ◌*◌, ◌/◌, ◌%◌, is_some, map}
use Rattle.std.specs.List.{list_any}
use Rattle.std.specs.Option.{option_or, option_map, option_map_or, option_and_then}
use Rattle.std.proofs.lemmas.Bool.Decides.{nat_tests}
use Rattle.world_model.specs.Words.{Policy, FlowId, NodeId, PortNo, End, Place, Down, Up, Out, same_queue, IsPlaceOf, site_key, is_label_number, label_channel_of, label_number_of, number_of_channel, label_end, control_end, home_of, default_channel, Standing, at, Label, LabelState, Offered, label_at, Grant, GrantState, Idle, ByController, ByInput, Leaving, grant_label, grant_on, Setup, Controller, Linked, port_key, linked_end, output_at, queue_at, is_empty, Frame, Mark, Topology, IsTopology, World, Site, site_at, IsNode}
use Rattle.world_model.specs.Topology.{peer_of}
use Rattle.world_model.specs.Controller.{ports_of}
use Rattle.world_model.specs.crossbar_model.Crossbar.{output_of}
use Rattle.world_model.specs.network_model.declared.link.LinkEnd.{LinkEnd}
use Rattle.world_model.specs.network_model.declared.event.Event.{Event}
use Rattle.world_model.specs.switch_model.declared.request.Asked.{Asked}
use Rattle.law_live_ease.specs.law_true_runs.Runs.{HoldsInRuns, IsWhole}
use Rattle.law_live_ease.proofs.law_true_runs.Walk.{holds_at}
use Rattle.law_live_ease.specs.law_port_facts.Port.{IsLabelEnd, setup_port}
use Rattle.law_live_ease.proofs.law_port_facts.Keyed.{at_key, at_every, at_map}
use Rattle.law_live_ease.proofs.law_causes.Shown.{peer_back}
use Rattle.law_live_ease.specs.law_run_facts.law_world_views.Between.{IsPortEnd, default, label as of_label, IsShapedBranch, home, out as leads_out, joined, setups_of}
use Rattle.law_live_ease.specs.law_live_hearing.Law.{world_at}
use Rattle.law_live_ease.specs.law_live_orders.Law.{last_marks}
use Rattle.law_live_ease.specs.law_live_mirrors.Mirrors.{other_end, led_in, led_by, label_in, is_led_out, grant_in, grant_leads, IsHeld, IsBelievedBy, IsBelieved, Mirrors}
use Rattle.law_live_ease.specs.law_live_mirrors.Asking.{IsFree}
use Rattle.law_live_ease.proofs.law_live_mirrors.Ports.{number_again, number_in, is_labels_end, other_of_control}
use Rattle.law_live_ease.specs.law_live_mirrored_worlds.Way.{AreAsked, none, asking, passed, requests_of}
use Rattle.law_live_ease.proofs.law_live_carries.Names.{empty_queues_are_empty}
use Rattle.law_live_ease.proofs.law_live_hearing.Places.{number_same, both}
use Rattle.law_live_ease.proofs.law_live_hearing.Sites.{queue_of_site}
use Rattle.law_live_ease.specs.law_live_journeys.Hops.{IsStretch}
use Rattle.law_live_ease.proofs.law_live_journeys.Runs.{begun}
use Rattle.law_live_ease.proofs.ComingFree.{is_number as is_number_of}
use Rattle.law_live_cut_through.specs.Law.{HoldsLabel, HoldsGrant, IsUsed, BindsAlone}
use Rattle.law_live_cut_through.specs.Leading.{led_to, LabelsLead, LabelsLeadThere, GrantsLead, GrantsLeadThere}
use Rattle.law_live_cut_through.proofs.LeadingNodes.{IsNodeAlone, IsThere, link_of, setups_link, calmly, met, mirrored, label_number_is, label_in_range, label_is_free, grant_number_is, grant_is_free}
use Rattle.law_live_cut_through.proofs.LeadingSettled.{LeadsBy, each_leads, LedBy, at_once, behind, led_by_way}

-- *No queue has a cell*, so none waits for the switch
place_of : (node own : NodeId) (others : List Place) → own.0 ≡ node.0 → list_any (same_queue (Down node)) (Down own ∷ others) ≡ true
place_of node own others same = ap (λ (first : Bool). first || list_any (same_queue (Down node)) others)
    (both (node.0 == own.0) true (number_same node.0 own.0 (sym same)) refl)

none_waits : (w : World) (node : NodeId) (site : Site) → is_empty w ≡ true → site_at w node ≡ Some site → queue_at w (Down node) ≡ []
none_waits w node site empty found = empty_queues_are_empty w (Down node) empty (subst (IsPlaceOf (Down node)) (sym found)
    (place_of node site.controller.node (Up site.controller.node ∷ map (λ (port : PortNo). Out site.controller.node port) (ports_of site.controller)) (at_key site_key node.0 w.sites site found)))

-- nothing is asked where nothing waits
none_asked : (frames : List Frame) (marks : List Mark) (way : List Asked) → marks ≡ [] → AreAsked frames marks way → way ≡ []
none_asked frames marks way e none = refl
none_asked frames marks way e (asking mark asked is later) = absurd (cc e)
none_asked frames marks way e (passed mark is later) = absurd (cc e)

one_end : (x y : End) → Some x ≡ Some y → x ≡ y
one_end x y e = cc e

is_zero : (n : ℕ) → n ≡ 0 → (n == 0) ≡ true
is_zero n e = grind (arith, nat_tests)

-- *A label leads* where it is joined to, or home
led_offered : (input : End) (label : Label) → label.state ≡ Offered → led_in input label label.state ≡ option_or label.join (Some (home_of input))
led_offered input label offered = subst (λ (state : LabelState). led_in input label state ≡ option_or label.join (Some (home_of input))) (sym offered) refl

led_or_home : (port : PortNo) (number : ℕ) (join : Option End) → option_or join (Some (control_end port number)) ≡ Some (led_to port number join)
led_or_home port number None = refl
led_or_home port number (Some output) = refl

-- *A grant that is used* leads out
is_out : (state : GrantState) → IsUsed state → is_led_out state ≡ true
is_out Idle used = absurd used
is_out ByController used = refl
is_out (ByInput input) used = refl
is_out (Leaving input owed) used = absurd used

-- *The end of a label* that shows so on the control link
home_is : (a : End) (port : PortNo) (number : ℕ) → a.channel.vpi < 16 → is_label_number number ≡ true → home_of a ≡ control_end port number → a ≡ label_end port number
home_is a port number low is e = sym (other_of_home a low) ∙ (ap other_end e ∙ other_of_control port number is)
  where
    port_back : (p v : ℕ) → v < 16 → (16 * p + v) / 16 ≡ p
    port_back p v less = omega (arith, less)

    path_back : (p v : ℕ) → v < 16 → (16 * p + v) % 16 ≡ v
    path_back p v less = omega (arith, less)

    other_of_home : (x : End) → x.channel.vpi < 16 → other_end (home_of x) ≡ x
    other_of_home x less = λ i. record {
      port = record { 0 = port_back x.port.0 x.channel.vpi less i };
      channel = record { vpi = path_back x.port.0 x.channel.vpi less i; vci = x.channel.vci };
    }

low_path : (number : ℕ) → is_label_number number ≡ true → number / 1024 < 16
low_path number is = grind (arith, nat_tests)

module _ {policy : Policy} {topology : Topology} {events : List Event} {node : NodeId} {site : Site} (n : IsNodeAlone policy topology events node site) where
  abbrev w : World
  w = world_at policy topology events

  abbrev c : Controller
  c = site.controller

  abbrev leads : End → Option End
  leads input = output_of site.switch.crossbar.branches input

  abbrev Ends : End → Option End → Type 0
  Ends input led = IsBelieved c.ports c.desk input led

  -- *An input that is free* is held, where it leads in the end
  held_so : (input : End) (led : Option End) → IsFree c.desk input → Ends input led → IsHeld c.ports input led
  held_so input led free believed = subst (λ (standing : List Standing). IsBelievedBy c.ports input standing led) free believed

  -- where nothing waits for the switch it leads so now
  held_now : (input : End) → IsFree c.desk input → queue_at w (Down node) ≡ [] → IsHeld c.ports input (leads input)
  held_now input free empty = held_so input (leads input) free
      (subst (λ (way : List Asked). Mirrors c.ports c.desk site.switch.crossbar.branches (requests_of way) input) no_way ((mirrored n).mirrors input))
    where
      no_way : (calmly n).mirrored.way ≡ []
      no_way = none_asked w.notes.frames (last_marks default_channel c.queue) (calmly n).mirrored.way
          (ap (last_marks default_channel) (sym (queue_of_site w node site (Down node) n.found) ∙ empty)) (mirrored n).waits

  -- *The ends of shapes* are of links, and show on the control link
  label_link : (end : End) → IsLabelEnd (setups_of c) end → end.port.0 ≢ 0
  label_link end is = subst (λ (e : End). e.port.0 ≢ 0) (sym is.is) (at_every setup_port (λ (setup : Setup). setup.port.0 ≢ 0) is.setup.port.0 (setups_of c) is.setup (setups_link n) is.linked)

  linked_port : (port : PortNo) → is_some (at setup_port port.0 (setups_of c)) ≡ true → port.0 ≢ 0
  linked_port port some = by (at setup_port port.0 (setups_of c)) refl some
    where
      by : (o : Option Setup) → at setup_port port.0 (setups_of c) ≡ o → is_some o ≡ true → port.0 ≢ 0
      by None found e = absurd (cc e)
      by (Some setup) found e = subst (λ k. k ≢ 0) (at_key setup_port port.0 (setups_of c) setup found)
          (at_every setup_port (λ (x : Setup). x.port.0 ≢ 0) port.0 (setups_of c) setup (setups_link n) found)

  end_link : (end : End) → IsPortEnd (setups_of c) end → end.port.0 ≢ 0
  end_link _ (default port some) = linked_port port some
  end_link end (of_label _ is) = label_link end is

  end_low : (end : End) → IsPortEnd (setups_of c) end → end.channel.vpi < 16
  end_low _ (default port some) = omega arith
  end_low end (of_label _ is) = subst (λ (e : End). e.channel.vpi < 16) (sym is.is) (low_path is.number (is_number_of is.setup is.number is.in_range))

  module _ (linked : Linked) (there : IsThere n linked) (number : ℕ) where
    abbrev port : PortNo
    port = linked.setup.port

    link : port.0 ≢ 0
    link = link_of n linked there

    -- *A label*
    module _ (label : Label) (held : label_at linked.port number ≡ Some label) (offered : label.state ≡ Offered) where
      abbrev input : End
      input = label_end port number

      is_number : is_label_number number ≡ true
      is_number = label_number_is n linked there number label held

      label_free : IsFree c.desk input
      label_free = label_is_free n linked there number label held offered

      label_there : label_in c.ports input ≡ Some label
      label_there = ap (λ (o : Option Linked). option_and_then (λ (l : Linked). label_at l.port (number_of_channel (label_channel_of number))) o) there
          ∙ (ap (label_at linked.port) (number_again number) ∙ held)

      label_led : (led : Option End) → IsHeld c.ports input led → led ≡ Some (led_to port number label.join)
      label_led led is = is.label (is_labels_end port number link is_number)
          ∙ (ap (led_by input) label_there ∙ (led_offered input label offered ∙ led_or_home port number label.join))

      pub label_leads_now : queue_at w (Down node) ≡ [] → leads input ≡ Some (led_to port number label.join)
      label_leads_now empty = label_led (leads input) (held_now input label_free empty)

      of_setup : at setup_port port.0 (setups_of c) ≡ Some linked.setup
      of_setup = at_map port_key setup_port (λ (l : Linked). l.setup) (λ l. refl) port.0 c.ports ∙ ap (option_map (λ (l : Linked). l.setup)) there

      pub label_leads_there : (output : End) → leads input ≡ Some output → output ≡ led_to port number label.join
      label_leads_there output is = by (led_by_way (Ends input) (LeadsBy node input (leads input)) input (leads input) (requests_of (calmly n).mirrored.way)
          (each_leads node input site w.notes.frames w.numbers.instances
          (n.world.inputs node site n.found input (record { setup = linked.setup; number = number; linked = of_setup; in_range = label_in_range n linked there number label held; is = refl }))
          (met n).one_is_up label_free (calmly n).mirrored.way (mirrored n).waits) ((mirrored n).mirrors input))
        where
          to : (led : Option End) → Ends input led → led ≡ Some output → output ≡ led_to port number label.join
          to led ends e = one_end output (led_to port number label.join) (sym e ∙ label_led led (held_so input led label_free ends))

          by : LedBy (Ends input) (leads input) (LeadsBy node input (leads input)) → output ≡ led_to port number label.join
          by (at_once ends) = to (leads input) ends is
          by (behind request (inl nowhere) ends) = absurd (cc (sym nowhere ∙ is))
          by (behind request (inr same) ends) = to _ ends (sym same ∙ is)

    -- *A grant*
    module _ (grant : Grant) (held : at grant_label number linked.port.grants ≡ Some grant) (used : is_led_out grant.state ≡ true) where
      abbrev outlet : End
      outlet = control_end port number

      of_number : is_label_number number ≡ true
      of_number = grant_number_is n linked there number grant held

      grant_free : IsFree c.desk outlet
      grant_free = grant_is_free n linked there number grant held used

      grant_there : grant_in c.ports (other_end outlet) ≡ Some grant
      grant_there = ap (grant_in c.ports) (other_of_control port number of_number)
          ∙ (ap (λ (o : Option Linked). option_and_then (λ (l : Linked). grant_on l.port.grants (label_number_of (label_channel_of number))) o) there
          ∙ (ap (grant_on linked.port.grants) (number_in number of_number) ∙ held))

      grant_out : grant_leads c.ports outlet ≡ true
      grant_out = ap (λ (o : Option Grant). option_map_or (λ (g : Grant). is_led_out g.state) o false) grant_there ∙ used

      pub grant_leads_now : queue_at w (Down node) ≡ [] → leads outlet ≡ Some (label_end port number)
      grant_leads_now empty = (held_now outlet grant_free empty).grant grant_out ∙ ap (λ (e : End). Some e) (other_of_control port number of_number)

      -- a branch from the control link leads to the channel's other end
      shaped_out : (x output : End) → IsShapedBranch (setups_of c) x output → x ≡ outlet → output ≡ label_end port number
      shaped_out _ _ (home end is) e = absurd (end_link end is (ap (λ (y : End). y.port.0) e))
      shaped_out _ _ (leads_out end is) e = home_is end port number (end_low end is) of_number e
      shaped_out _ _ (joined x output is also) e = absurd (label_link x is (ap (λ (y : End). y.port.0) e))

      pub grant_leads_there : (output : End) → leads outlet ≡ Some output → output ≡ label_end port number
      grant_leads_there output is = shaped_out outlet output ((n.world.shapes node site n.found).branches outlet output is) refl

-- *An end of a link*, and its port at the node
record IsEndAt (w : World) (end : LinkEnd) (linked : Linked) : Type 0 where
  site : Site
  found : site_at w end.node ≡ Some site
  there : at port_key linked.setup.port.0 site.controller.ports ≡ Some linked
  same : linked.setup.port ≡ end.port

end_at : (w : World) (end : LinkEnd) (linked : Linked) → linked_end w end ≡ Some linked → IsEndAt w end linked
end_at w end linked shown = by (site_at w end.node) refl shown
  where
    by : (o : Option Site) → site_at w end.node ≡ o
        → option_and_then (λ (c : Controller). at port_key end.port.0 c.ports) (option_map (λ (s : Site). s.controller) o) ≡ Some linked → IsEndAt w end linked
    by None found e = absurd (cc e)
    by (Some site) found e =
        let own : linked.setup.port.0 ≡ end.port.0 = at_key port_key end.port.0 site.controller.ports linked e in
        record {
          site = site;
          found = found;
          there = subst (λ k. at port_key k site.controller.ports ≡ Some linked) (sym own) e;
          same = λ i. record { 0 = own i };
        }

module _ (whole : HoldsInRuns IsWhole) (policy : Policy) (topology : Topology) (events rest : List Event) (stretch : IsStretch policy topology events rest)
    (alone : BindsAlone topology (world_at policy topology events)) where
  abbrev v : World
  v = world_at policy topology events

  is_topology : IsTopology topology
  is_topology = stretch.run.topology_is

  far_within : (one far : LinkEnd) → peer_of topology one.node one.port ≡ Some far → IsNode topology far.node
  far_within one far peer = (peer_back topology is_topology one far peer).node

  one_within : (one far : LinkEnd) → peer_of topology one.node one.port ≡ Some far → IsNode topology one.node
  one_within one far peer = far_within far one (peer_back topology is_topology one far peer).back

  node_alone : (node : NodeId) (site : Site) → IsNode topology node → site_at v node ≡ Some site → IsNodeAlone policy topology events node site
  node_alone node site within found = record {
    run = begun whole policy topology events rest stretch events rest refl;
    addresses = stretch.addresses;
    world = (holds_at policy topology stretch.addresses IsWhole whole (events ++ rest) events rest stretch.run stretch.tame refl).world;
    alone = alone;
    within = within;
    found = found;
  }

  output_is : (node : NodeId) (site : Site) (input : End) → site_at v node ≡ Some site → output_at v node input ≡ output_of site.switch.crossbar.branches input
  output_is node site input found = ap (λ (o : Option Site). option_and_then (λ (s : Site). output_of s.switch.crossbar.branches input) o) found

  module _ (one far : LinkEnd) (peer : peer_of topology one.node one.port ≡ Some far) (number : ℕ) (flow : FlowId) where
    module _ (join : Option End) (held : HoldsLabel v far number flow join) where
      at_far : IsEndAt v far held.linked
      at_far = end_at v far held.linked held.shown

      there_far : IsNodeAlone policy topology events far.node at_far.site
      there_far = node_alone far.node at_far.site (far_within one far peer) at_far.found

      to_join : led_to held.linked.setup.port number held.label.join ≡ led_to far.port number join
      to_join = ap (λ (p : PortNo). led_to p number held.label.join) at_far.same ∙ ap (led_to far.port number) held.joined

      label_now : is_empty v ≡ true → output_at v far.node (label_end far.port number) ≡ Some (led_to far.port number join)
      label_now empty = subst (λ (p : PortNo). output_at v far.node (label_end p number) ≡ Some (led_to far.port number join)) at_far.same
          (output_is far.node at_far.site (label_end held.linked.setup.port number) at_far.found
          ∙ (label_leads_now there_far held.linked at_far.there number held.label held.held held.offered (none_waits v far.node at_far.site empty at_far.found)
          ∙ ap (λ (e : End). Some e) to_join))

      label_there_only : (output : End) → output_at v far.node (label_end far.port number) ≡ Some output → output ≡ led_to far.port number join
      label_there_only output is = label_leads_there there_far held.linked at_far.there number held.label held.held held.offered output
          (sym (output_is far.node at_far.site (label_end held.linked.setup.port number) at_far.found)
          ∙ subst (λ (p : PortNo). output_at v far.node (label_end p number) ≡ Some output) (sym at_far.same) is) ∙ to_join

    module _ (state : GrantState) (held : HoldsGrant v one number flow state) where
      at_one : IsEndAt v one held.linked
      at_one = end_at v one held.linked held.shown

      there_one : IsNodeAlone policy topology events one.node at_one.site
      there_one = node_alone one.node at_one.site (one_within one far peer) at_one.found

      led_out : is_led_out held.grant.state ≡ true
      led_out = ap is_led_out held.is ∙ is_out state held.used

      to_label : label_end held.linked.setup.port number ≡ label_end one.port number
      to_label = ap (λ (p : PortNo). label_end p number) at_one.same

      grant_now : is_empty v ≡ true → output_at v one.node (control_end one.port number) ≡ Some (label_end one.port number)
      grant_now empty = subst (λ (p : PortNo). output_at v one.node (control_end p number) ≡ Some (label_end one.port number)) at_one.same
          (output_is one.node at_one.site (control_end held.linked.setup.port number) at_one.found
          ∙ (grant_leads_now there_one held.linked at_one.there number held.grant held.held led_out (none_waits v one.node at_one.site empty at_one.found)
          ∙ ap (λ (e : End). Some e) to_label))

      grant_there_only : (output : End) → output_at v one.node (control_end one.port number) ≡ Some output → output ≡ label_end one.port number
      grant_there_only output is = grant_leads_there there_one held.linked at_one.there number held.grant held.held led_out output
          (sym (output_is one.node at_one.site (control_end held.linked.setup.port number) at_one.found)
          ∙ subst (λ (p : PortNo). output_at v one.node (control_end p number) ≡ Some output) (sym at_one.same) is) ∙ to_label

pub labels_lead : HoldsInRuns IsWhole → LabelsLead
labels_lead whole policy topology events rest stretch alone one far peer number flow join held empty =
    label_now whole policy topology events rest stretch alone one far peer number flow join held empty

pub labels_lead_there : HoldsInRuns IsWhole → LabelsLeadThere
labels_lead_there whole policy topology events rest stretch alone one far peer number flow join held output is =
    label_there_only whole policy topology events rest stretch alone one far peer number flow join held output is

pub grants_lead : HoldsInRuns IsWhole → GrantsLead
grants_lead whole policy topology events rest stretch alone one far peer number flow state held empty =
    grant_now whole policy topology events rest stretch alone one far peer number flow state held empty

pub grants_lead_there : HoldsInRuns IsWhole → GrantsLeadThere
grants_lead_there whole policy topology events rest stretch alone one far peer number flow state held output is =
    grant_there_only whole policy topology events rest stretch alone one far peer number flow state held output is
