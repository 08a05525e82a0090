-- what the tick of a controller at peace leaves of labels and grants

use Rattle.std.proofs.Common.{◌≡◌, ◌≢◌, ℕ, ◌<◌, List, [], fold, map, Option, None, Some, refl, sym, ◌∙◌, ap, subst}
use Rattle.std.specs.Prelude.{flat_map, Contains}
use Rattle.std.specs.Option.{option_map, option_map_or, option_and_then}
use Rattle.world_model.specs.Words.{PortNo, End, FlowId, flow_ttl, flow_destination, best, Local, number_of_channel, at, Label, label_at, GrantState, ByController, ByInput, grant_label, Controller, Linked, port_key, inputs_at, label_on, tries_join}
use Rattle.world_model.specs.Controller.{Acted}
use Rattle.world_model.specs.Ticks.{ticks}
use Rattle.calm_model.specs.Ways.{one_hop}
use Rattle.law_live_ease.specs.law_port_facts.ordered_lists.Ordered.{Every}
use Rattle.law_live_ease.proofs.law_port_facts.Keyed.{at_every, at_map}
use Rattle.law_live_ease.specs.law_live_ticks.Law.{shorter}
use Rattle.law_live_ease.specs.law_live_nodes.Law.{IsPortAtPeace, IsNodeAtPeace, ticked_port}
use Rattle.law_live_ease.proofs.law_live_nodes.Ports.{nodes_tick_on}
use Rattle.law_live_ease.proofs.law_running_worlds.InputKept.{every_of}
use Rattle.law_live_ease.specs.law_live_mirrored_ticks.Law.{MayTick}
use Rattle.law_live_ease.proofs.law_live_joining.Aging.{IsLike, AreLike, none, some, port_labels, port_grants, all_inputs, at_ticked}
use Rattle.law_live_ease.proofs.law_live_joining.Ticking.{t, rest, left, has_turns}
use Rattle.law_live_cut_through.proofs.TicksTurns.{kind, LabelsStay, labels_then, IsHeld, IsGranted, granted, turn_joined, turn_last, turn_lent, tries_keep, tries_labels, BeginsOn, begins_still, tries_own}

-- *A label that is like another*
kinds_like : (o now : Option Label) → AreLike o now → option_map kind now ≡ option_map kind o
kinds_like o now none = refl
kinds_like o now (some label after like) = λ i. Some (like.number i, like.state i, like.flow i)

record After (now : Option Label) (label : Label) : Type 0 where
  after : Label
  there : now ≡ Some after
  like : IsLike label after

one_label : (x y : Label) → Some x ≡ Some y → x ≡ y
one_label x y e = cc

after_of : (o now : Option Label) (label : Label) → AreLike o now → o ≡ Some label → After now label
after_of o now label none e = absurd (cc e)
after_of o now label (some x after like) e = record { after = after; there = refl; like = subst (λ (l : Label). IsLike l after) (one_label x label e) like }

module _ (a : Acted) (may : MayTick a) where
  abbrev is : IsNodeAtPeace a
  is = may.peace

  abbrev c : Controller
  c = a.controller

  -- *Its ports tick*
  abbrev ticked : Acted
  ticked = t a is may.joins

  abbrev inputs : List End
  inputs = flat_map inputs_at ticked.controller.ports

  labels_like : (x : End) → AreLike (label_on c x) (label_on ticked.controller x)
  labels_like x = subst (λ (o : Option Linked). AreLike (label_on c x) (option_and_then (λ (l : Linked). label_at l.port (number_of_channel x.channel)) o))
      (sym (ap (at port_key x.port.0) (left a is may.joins).ports ∙ at_ticked x.port.0 c.ports is.ports)) (by (at port_key x.port.0 c.ports) refl)
    where
      by : (o : Option Linked) → at port_key x.port.0 c.ports ≡ o
          → AreLike (option_and_then (λ (l : Linked). label_at l.port (number_of_channel x.channel)) o) (option_and_then (λ (l : Linked). label_at l.port (number_of_channel x.channel)) (option_map ticked_port o))
      by None there = none
      by (Some linked) there = port_labels linked (at_every port_key IsPortAtPeace x.port.0 c.ports linked is.ports there) (number_of_channel x.channel)

  grants_are : (port : PortNo) → granted ticked.controller port ≡ map shorter (granted c port)
  grants_are port = ap (λ (o : Option Linked). option_map_or (λ (l : Linked). l.port.grants) o []) (ap (at port_key port.0) (left a is may.joins).ports ∙ at_ticked port.0 c.ports is.ports)
      ∙ by (at port_key port.0 c.ports) refl
    where
      by : (o : Option Linked) → at port_key port.0 c.ports ≡ o
          → option_map_or (λ (l : Linked). l.port.grants) (option_map ticked_port o) [] ≡ map shorter (option_map_or (λ (l : Linked). l.port.grants) o [])
      by None there = refl
      by (Some linked) there = port_grants linked (at_every port_key IsPortAtPeace port.0 c.ports linked is.ports there)

  aged_labels : LabelsStay c ticked.controller
  aged_labels x = kinds_like (label_on c x) (label_on ticked.controller x) (labels_like x)

  aged_held : (x : End) (flow : FlowId) (join : Option End) → IsHeld c x flow join → IsHeld ticked.controller x flow join
  aged_held x flow join h = by (after_of (label_on c x) (label_on ticked.controller x) h.label (labels_like x) h.there)
    where
      by : After (label_on ticked.controller x) h.label → IsHeld ticked.controller x flow join
      by r = record { label = r.after; there = r.there; offered = r.like.state ∙ h.offered; of_flow = r.like.flow ∙ h.of_flow; joined = r.like.join ∙ h.joined }

  aged_granted : (port : PortNo) (number : ℕ) (flow : FlowId) (state : GrantState) → IsGranted c port number flow state → IsGranted ticked.controller port number flow state
  aged_granted port number flow state h = record {
    grant = shorter h.grant;
    held = ap (at grant_label number) (grants_are port) ∙ (at_map grant_label grant_label shorter (λ grant. refl) number (granted c port) ∙ ap (option_map shorter) h.held);
    of_flow = h.of_flow;
    is = h.is;
  }

  table_is : ticked.controller.table ≡ c.table
  table_is = (left a is may.joins).table ∙ (rest a is may.joins).table

  -- *Then joins are tried*
  behind : (P : Controller → Type 0) → P (fold tries_join ticked inputs).controller → P (ticks a).controller
  behind P h = subst (λ (b : Acted). P b.controller) (sym (nodes_tick_on a is)) h

  pub tick_labels : LabelsStay c (ticks a).controller
  tick_labels = behind (LabelsStay c) (labels_then c ticked.controller (fold tries_join ticked inputs).controller aged_labels (tries_labels inputs ticked (has_turns a is may.joins)))

  pub tick_joined : (x : End) (flow : FlowId) (output : End) → IsHeld c x flow (Some output) → IsHeld (ticks a).controller x flow (Some output)
  tick_joined x flow output h = (let P : Controller → Type 0 = λ d. IsHeld d x flow (Some output) in
      behind P (tries_keep P (λ b d input e k. turn_joined b d input e x flow output k) inputs ticked (has_turns a is may.joins) (aged_held x flow (Some output) h)))

  -- *A label whose route is local*
  record StaysLast (x : End) (flow : FlowId) (d : Controller) : Type 0 where
    route : best d.table (flow_destination flow) ≡ Some Local
    held : IsHeld d x flow None

  pub tick_last : (x : End) (flow : FlowId) → best c.table (flow_destination flow) ≡ Some Local → IsHeld c x flow None → IsHeld (ticks a).controller x flow None
  tick_last x flow route h = (behind (StaysLast x flow) (tries_keep (StaysLast x flow)
      (λ b d input e k. record { route = ap (λ table. best table (flow_destination flow)) e.entered.table ∙ k.route; held = turn_last b d input e x flow k.route k.held })
      inputs ticked (has_turns a is may.joins)
      (record { route = ap (λ table. best table (flow_destination flow)) table_is ∙ route; held = aged_held x flow None h }))).held

  pub tick_lent : (port : PortNo) (number : ℕ) (flow : FlowId) (input : End) → IsGranted c port number flow (ByInput input) → IsGranted (ticks a).controller port number flow (ByInput input)
  tick_lent port number flow input h = (let P : Controller → Type 0 = λ d. IsGranted d port number flow (ByInput input) in
      behind P (tries_keep P (λ b d x e k. turn_lent b d x e port number flow input k) inputs ticked (has_turns a is may.joins) (aged_granted port number flow (ByInput input) h)))

  -- *A grant of a flow that begins there*
  pub tick_first : (port : PortNo) (number : ℕ) (flow : FlowId) → 1 < flow_ttl flow
      → ((input : End) (label : Label) → Contains (flat_map inputs_at c.ports) input → label_on c input ≡ Some label → label.flow ≢ flow)
      → IsGranted c port number (one_hop flow) ByController → IsGranted (ticks a).controller port number (one_hop flow) ByController
  tick_first port number flow more begins h = behind (λ d. IsGranted d port number (one_hop flow) ByController)
      (tries_own port number flow more inputs ticked (has_turns a is may.joins)
      (begins_still c ticked.controller flow inputs aged_labels (subst (Every (BeginsOn c flow)) (sym inputs_are)
      (every_of (BeginsOn c flow) (flat_map inputs_at c.ports) (λ x among label there. begins x label among there))))
      (aged_granted port number (one_hop flow) ByController h))
    where
      inputs_are : inputs ≡ flat_map inputs_at c.ports
      inputs_are = ap (flat_map inputs_at) (left a is may.joins).ports ∙ all_inputs c.ports is.ports
