-- a label that serves a flow alone at its port does so still, since a label is taken only for a flow that none serves

use Rattle.std.proofs.Common.{◌≡◌, ℕ, true, List, Option, None, Some, refl, sym, ◌∙◌, ap, subst}
use Rattle.std.specs.Option.{option_and_then, option_map}
use Rattle.world_model.specs.Words.{End, FlowId, at, put, key_le, Desk, Label, label_number, label_for, labels_of, serves, Linked, port_key, linked_at, linked_end, Controller, World, Site, site_at, world_after}
use Rattle.world_model.specs.network_model.declared.link.LinkEnd.{LinkEnd}
use Rattle.law_live_ease.specs.law_port_facts.ordered_lists.Ordered.{Every}
use Rattle.law_live_ease.proofs.law_port_facts.Keyed.{by_eq, at_key, at_every, at_put_same, at_put_other, put_every, entered_every}
use Rattle.law_live_ease.specs.law_true_runs.Runs.{HoldsInRuns, IsWhole}
use Rattle.law_live_ease.specs.law_live_hearing.Law.{world_at}
use Rattle.law_live_ease.specs.Binding.{StretchesBindOn}
use Rattle.law_live_ease.proofs.ServedLists.{Serves, put_serves, entered_serves, Found, served_found}
use Rattle.law_live_cut_through.specs.Law.{HoldsLabel, ServesAlone}
use Rattle.law_live_cut_through.specs.Stretches.{StretchesServeAlone}
use Rattle.law_live_cut_through.proofs.RequestsKeeping.{LabelsChange, stay, change, enter, Keeps}
use Rattle.law_live_cut_through.proofs.RequestsEvents.{At}
use Rattle.law_live_cut_through.proofs.RequestsStretches.{stretch_keeps}

one_linked : (x y : Linked) → Some x ≡ Some y → x ≡ y
one_linked x y e = cc

module _ (end : LinkEnd) (number : ℕ) (flow : FlowId) where
  abbrev IsIt : Label → Type 0
  IsIt label = serves label.state ≡ true → label.flow ≡ flow → label.number ≡ number

  -- *It alone serves the flow*, of these labels
  record ServesIt (labels : List Label) : Type 0 where
    alone : Every IsIt labels
    served : Serves flow labels

  -- which it does as they change
  changes_serve : (before after : List Label) → LabelsChange before after → ServesIt before → ServesIt after
  changes_serve before after (stay same) h = subst ServesIt (sym same) h
  changes_serve before after (change label next held of_flow serving is) h = subst ServesIt (sym is) (record {
    alone = put_every label_number IsIt next before
        (λ on of. sym (at_key label_number next.number before label held) ∙ at_every label_number IsIt next.number before label h.alone held (sym serving ∙ on) (sym of_flow ∙ of)) h.alone;
    served = put_serves flow label next before held of_flow (λ on. serving ∙ on) h.served;
  })
  changes_serve before after (enter label spare unserved is) h = subst ServesIt (sym is) (record {
    alone = entered_every label_number IsIt (key_le label_number) label before (λ on of. absurd (none_for of)) h.alone;
    served = entered_serves flow (key_le label_number) label before spare h.served;
  })
    where
      found : Found flow before
      found = served_found flow before h.served

      none_for : label.flow ≡ flow → ⊥
      none_for of = absurd (cc (sym unserved ∙ (ap (λ (f : FlowId). label_for before f) of ∙ found.is)))

  -- *At the port*
  abbrev AtPort : List Linked → Desk → Type 0
  AtPort ports desk = (linked : Linked) → at port_key end.port.0 ports ≡ Some linked → ServesIt (labels_of linked.port)

  put_keeps : (ports : List Linked) (desk : Desk) (linked new : Linked) → at port_key linked.setup.port.0 ports ≡ Some linked → new.setup ≡ linked.setup
      → LabelsChange (labels_of linked.port) (labels_of new.port) → AtPort ports desk → AtPort (put port_key new ports) desk
  put_keeps ports desk linked new there same labels h x found = by_eq (port_key new) end.port.0
      (λ here t. subst (λ (l : Linked). ServesIt (labels_of l.port)) (one_linked new x (sym (subst (λ n. at port_key n (put port_key new ports) ≡ Some new) here now) ∙ found))
      (changes_serve (labels_of linked.port) (labels_of new.port) labels (h linked (subst (λ n. at port_key n ports ≡ Some linked) here own))))
      (λ apart t. h x (sym (at_put_other port_key new end.port.0 ports apart) ∙ found))
    where
      own : at port_key (port_key new) ports ≡ Some linked
      own = ap (λ setup. at port_key setup.port.0 ports) same ∙ there

      now : at port_key (port_key new) (put port_key new ports) ≡ Some new
      now = at_put_same port_key new ports linked own

  keeps : Keeps AtPort
  keeps = record { labels = put_keeps; branch = λ ports desk input output h. h; answer = λ ports desk s h. h }

  -- *In a world*
  module _ (w : World) where
    begins : (join : Option End) → HoldsLabel w end number flow join → ServesAlone w end number flow → At AtPort end.node w
    begins join h alone site found linked there = record {
      alone = alone linked shown;
      served = record {
        label = h.label;
        held = subst (λ n. at label_number n (labels_of linked.port) ≡ Some h.label) (sym (at_key label_number number (labels_of linked.port) h.label its)) its;
        serving = ap serves h.offered;
        of_flow = h.of_flow;
      };
    }
      where
        shown : linked_end w end ≡ Some linked
        shown = ap (λ (o : Option Site). option_and_then (λ (c : Controller). linked_at c end.port) (option_map (λ (s : Site). s.controller) o)) found ∙ there

        its : at label_number number (labels_of linked.port) ≡ Some h.label
        its = subst (λ (l : Linked). at label_number number (labels_of l.port) ≡ Some h.label) (one_linked h.linked linked (sym h.shown ∙ shown)) h.held

    ends : At AtPort end.node w → ServesAlone w end number flow
    ends h linked shown = by (site_at w end.node) refl
      where
        there : (o : Option Site) → site_at w end.node ≡ o → option_and_then (λ (c : Controller). linked_at c end.port) (option_map (λ (s : Site). s.controller) o) ≡ Some linked
        there o found = sym (ap (λ (x : Option Site). option_and_then (λ (c : Controller). linked_at c end.port) (option_map (λ (s : Site). s.controller) x)) found) ∙ shown

        by : (o : Option Site) → site_at w end.node ≡ o → Every IsIt (labels_of linked.port)
        by None found = absurd (cc (there None found))
        by (Some site) found = (h site found linked (there (Some site) found)).alone

pub labels_serve_alone : HoldsInRuns IsWhole → StretchesBindOn → StretchesServeAlone
labels_serve_alone whole stretches policy topology before events s b front rest e end number flow join h alone =
    ends end number flow (world_after topology (world_at policy topology before) front)
    (stretch_keeps whole stretches (AtPort end number flow) (keeps end number flow) end.node policy topology before events s b
    (begins end number flow (world_at policy topology before) join h alone) front rest e)
