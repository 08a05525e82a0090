-- what is held at the ends of a world is held in one where all that they hold stays, and what is joined or lent there was so

use Rattle.std.proofs.Common.{◌≡◌, ℕ, Option, None, Some, refl, sym, ◌∙◌, ap, if◌then◌else◌}
use Rattle.std.specs.Option.{option_map, option_map_or, option_and_then}
use Rattle.world_model.specs.Words.{NodeId, End, FlowId, at, is_offered, LabelState, Label, Wiring, Offered, Recalled, Wired, label_at, Grant, GrantState, Idle, ByController, ByInput, Leaving, grant_label, Controller, Linked, linked_at, linked_end, World, Site, site_at}
use Rattle.world_model.specs.network_model.declared.link.LinkEnd.{LinkEnd}
use Rattle.law_live_ease.specs.law_live_joining.Joins.{joined_label, by_input, lent_grant}
use Rattle.law_live_cut_through.specs.Law.{HoldsLabel, IsUsed, HoldsGrant}
use Rattle.law_live_cut_through.proofs.LabelsKeeping.{held_label, used_as, held_grant, StaysAt, stays_then, port_itself}
use Rattle.law_live_cut_through.proofs.LabelsEvents.{NodeStays}

-- *What is told of a label*, by its state and its join, and of a grant, by its state
abbrev held_in : Label → LabelState → Option (FlowId × Option End)
held_in label state = if is_offered state then Some (label.flow, label.join) else None

abbrev joined_in : Label → LabelState → Option End → Option (FlowId × End)
joined_in label state join = if is_offered state then option_map (λ (x : End). (label.flow, x)) join else None

abbrev used_by : FlowId → GrantState → Option (FlowId × GrantState)
used_by flow state = Some (flow, state)

abbrev used_in : Grant → GrantState → Option (FlowId × GrantState)
used_in grant state = option_map (λ (x : GrantState). (grant.flow, x)) (used_as state)

abbrev lent_in : Grant → GrantState → Option (FlowId × End)
lent_in grant state = option_map (λ (x : End). (grant.flow, x)) (by_input state)

-- so of a label that is held
label_told : (label : Label) (flow : FlowId) (join : Option End) → label.state ≡ Offered → label.flow ≡ flow → label.join ≡ join → held_label label ≡ Some (flow, join)
label_told label flow join offered of_flow joined = λ i. if is_offered (offered i) then Some (of_flow i, joined i) else None

joined_told : (label : Label) (flow : FlowId) (output : End) → label.state ≡ Offered → label.flow ≡ flow → label.join ≡ Some output → joined_label label ≡ Some (flow, output)
joined_told label flow output offered of_flow joined = λ i. if is_offered (offered i) then option_map (λ (x : End). (of_flow i, x)) (joined i) else None

-- and the other way
record IsHeldLabel (o : Option Label) (flow : FlowId) (join : Option End) : Type 0 where
  label : Label
  is : o ≡ Some label
  offered : label.state ≡ Offered
  of_flow : label.flow ≡ flow
  joined : label.join ≡ join

label_back : (o : Option Label) (flow : FlowId) (join : Option End) → option_and_then held_label o ≡ Some (flow, join) → IsHeldLabel o flow join
label_back None flow join e = absurd (cc e)
label_back (Some label) flow join e = by label.state refl e
  where
    by : (state : LabelState) → label.state ≡ state → held_in label state ≡ Some (flow, join) → IsHeldLabel (Some label) flow join
    by Offered is e = record {
      label = label;
      is = refl;
      offered = is;
      of_flow = ap (λ (x : Option (FlowId × Option End)). option_map_or (λ (p : FlowId × Option End). p.0) x label.flow) e;
      joined = ap (λ (x : Option (FlowId × Option End)). option_map_or (λ (p : FlowId × Option End). p.1) x label.join) e;
    }
    by Wiring is e = absurd (cc e)
    by (Recalled last acknowledged) is e = absurd (cc e)
    by Wired is e = absurd (cc e)

joined_back : (o : Option Label) (flow : FlowId) (output : End) → option_and_then joined_label o ≡ Some (flow, output) → IsHeldLabel o flow (Some output)
joined_back None flow output e = absurd (cc e)
joined_back (Some label) flow output e = by label.state refl label.join refl e
  where
    by : (state : LabelState) → label.state ≡ state → (join : Option End) → label.join ≡ join
        → joined_in label state join ≡ Some (flow, output) → IsHeldLabel (Some label) flow (Some output)
    by Offered is (Some other) to e = record {
      label = label;
      is = refl;
      offered = is;
      of_flow = ap (λ (x : Option (FlowId × End)). option_map_or (λ (p : FlowId × End). p.0) x label.flow) e;
      joined = to ∙ ap (λ (x : Option (FlowId × End)). Some (option_map_or (λ (p : FlowId × End). p.1) x other)) e;
    }
    by Offered is None to e = absurd (cc e)
    by Wiring is join to e = absurd (cc e)
    by (Recalled last acknowledged) is join to e = absurd (cc e)
    by Wired is join to e = absurd (cc e)

-- *What is told of a grant* that is held
used_is : (state : GrantState) → IsUsed state → used_as state ≡ Some state
used_is ByController used = refl
used_is (ByInput input) used = refl
used_is Idle used = absurd used
used_is (Leaving input owed) used = absurd used

grant_told : (grant : Grant) (flow : FlowId) (state : GrantState) → grant.flow ≡ flow → grant.state ≡ state → IsUsed state → held_grant grant ≡ Some (flow, state)
grant_told grant flow state of_flow is used = (λ i. option_map (λ (x : GrantState). (of_flow i, x)) (used_as (is i)))
    ∙ ap (λ (o : Option GrantState). option_map (λ (x : GrantState). (flow, x)) o) (used_is state used)

lent_told : (grant : Grant) (flow : FlowId) (input : End) → grant.flow ≡ flow → grant.state ≡ ByInput input → lent_grant grant ≡ Some (flow, input)
lent_told grant flow input of_flow is = λ i. option_map (λ (x : End). (of_flow i, x)) (by_input (is i))

record IsHeldGrant (o : Option Grant) (flow : FlowId) (state : GrantState) : Type 0 where
  grant : Grant
  is : o ≡ Some grant
  of_flow : grant.flow ≡ flow
  in_state : grant.state ≡ state

grant_back : (o : Option Grant) (flow : FlowId) (state : GrantState) → option_and_then held_grant o ≡ Some (flow, state) → IsHeldGrant o flow state
grant_back None flow state e = absurd (cc e)
grant_back (Some grant) flow state e = by grant.state refl e
  where
    held : (own : GrantState) → grant.state ≡ own → used_by grant.flow own ≡ Some (flow, state) → IsHeldGrant (Some grant) flow state
    held own is e = record {
      grant = grant;
      is = refl;
      of_flow = ap (λ (x : Option (FlowId × GrantState)). option_map_or (λ (p : FlowId × GrantState). p.0) x grant.flow) e;
      in_state = is ∙ ap (λ (x : Option (FlowId × GrantState)). option_map_or (λ (p : FlowId × GrantState). p.1) x own) e;
    }

    by : (own : GrantState) → grant.state ≡ own → used_in grant own ≡ Some (flow, state) → IsHeldGrant (Some grant) flow state
    by ByController is e = held ByController is e
    by (ByInput input) is e = held (ByInput input) is e
    by Idle is e = absurd (cc e)
    by (Leaving input owed) is e = absurd (cc e)

lent_back : (o : Option Grant) (flow : FlowId) (input : End) → option_and_then lent_grant o ≡ Some (flow, input) → IsHeldGrant o flow (ByInput input)
lent_back None flow input e = absurd (cc e)
lent_back (Some grant) flow input e = by grant.state refl e
  where
    by : (own : GrantState) → grant.state ≡ own → lent_in grant own ≡ Some (flow, input) → IsHeldGrant (Some grant) flow (ByInput input)
    by (ByInput other) is e = record {
      grant = grant;
      is = refl;
      of_flow = ap (λ (x : Option (FlowId × End)). option_map_or (λ (p : FlowId × End). p.0) x grant.flow) e;
      in_state = is ∙ ap (λ (x : Option (FlowId × End)). ByInput (option_map_or (λ (p : FlowId × End). p.1) x other)) e;
    }
    by ByController is e = absurd (cc e)
    by Idle is e = absurd (cc e)
    by (Leaving other owed) is e = absurd (cc e)

-- *The port at an end*, of its node
pub record IsShown (w : World) (end : LinkEnd) (linked : Linked) : Type 0 where
  pub site : Site
  pub there : site_at w end.node ≡ Some site
  pub of_port : linked_at site.controller end.port ≡ Some linked

pub is_shown : (w : World) (end : LinkEnd) (linked : Linked) → linked_end w end ≡ Some linked → IsShown w end linked
is_shown w end linked e = by (site_at w end.node) refl e
  where
    by : (o : Option Site) → site_at w end.node ≡ o → option_and_then (λ (c : Controller). linked_at c end.port) (option_map (λ (s : Site). s.controller) o) ≡ Some linked → IsShown w end linked
    by None is e = absurd (cc e)
    by (Some site) is e = record { site = site; there = is; of_port = e }

pub shown_by : (w : World) (end : LinkEnd) (linked : Linked) (site : Site) → site_at w end.node ≡ Some site → linked_at site.controller end.port ≡ Some linked → linked_end w end ≡ Some linked
shown_by w end linked site there of_port =
    ap (λ (o : Option Site). option_and_then (λ (c : Controller). linked_at c end.port) (option_map (λ (s : Site). s.controller) o)) there ∙ of_port

-- *At all ends* what is held stays
pub record AllStay (w v : World) : Type 0 where
  pub ends : (end : LinkEnd) (linked : Linked) → linked_end w end ≡ Some linked → StaysAt linked (linked_end v end)

pub all_itself : (w : World) → AllStay w w
all_itself w = record { ends = λ end linked shown. record { after = linked; there = shown; keeps = port_itself linked.port } }

pub all_on : (w v x : World) → AllStay w v → AllStay v x → AllStay w x
all_on w v x one next = record { ends = λ end linked shown. stays_then linked (linked_end v end) (linked_end x end) (one.ends end linked shown) (λ l there. next.ends end l there) }

-- where it does node by node
pub all_nodes : (v x : World) → ((node : NodeId) (site : Site) → site_at v node ≡ Some site → NodeStays x node site) → AllStay v x
all_nodes v x nodes = record { ends = λ end linked shown. by end linked (is_shown v end linked shown) }
  where
    at_node : (end : LinkEnd) (linked : Linked) (now : Site) → site_at x end.node ≡ Some now → StaysAt linked (linked_at now.controller end.port) → StaysAt linked (linked_end x end)
    at_node end linked now there s = record { after = s.after; there = shown_by x end s.after now there s.there; keeps = s.keeps }

    by : (end : LinkEnd) (linked : Linked) → IsShown v end linked → StaysAt linked (linked_end x end)
    by end linked is = (let n : NodeStays x end.node is.site = nodes end.node is.site is.there in at_node end linked n.now n.there (n.keeps.ports end.port linked is.of_port))

one_linked : (x y : Linked) → Some x ≡ Some y → x ≡ y
one_linked x y e = cc

module _ (w v : World) (all : AllStay w v) (end : LinkEnd) (number : ℕ) (flow : FlowId) where
  -- *Labels*
  pub labels_stay : (join : Option End) → HoldsLabel w end number flow join → HoldsLabel v end number flow join
  labels_stay join h = by (all.ends end h.linked h.shown)
    where
      told : option_and_then held_label (label_at h.linked.port number) ≡ Some (flow, join)
      told = ap (option_and_then held_label) h.held ∙ label_told h.label flow join h.offered h.of_flow h.joined

      held : (after : Linked) → linked_end v end ≡ Some after → IsHeldLabel (label_at after.port number) flow join → HoldsLabel v end number flow join
      held after there is = record { linked = after; shown = there; label = is.label; held = is.is; offered = is.offered; of_flow = is.of_flow; joined = is.joined }

      by : StaysAt h.linked (linked_end v end) → HoldsLabel v end number flow join
      by s = held s.after s.there (label_back (label_at s.after.port number) flow join ((s.keeps.labels number).kept (flow, join) told))

  pub labels_were : (output : End) (was : Linked) → linked_end w end ≡ Some was → HoldsLabel v end number flow (Some output) → HoldsLabel w end number flow (Some output)
  labels_were output was shown h = by (all.ends end was shown)
    where
      told : (after : Linked) → linked_end v end ≡ Some after → option_and_then joined_label (label_at after.port number) ≡ Some (flow, output)
      told after there = ap (λ (l : Linked). option_and_then joined_label (label_at l.port number)) (one_linked after h.linked (sym there ∙ h.shown))
          ∙ (ap (option_and_then joined_label) h.held ∙ joined_told h.label flow output h.offered h.of_flow h.joined)

      held : IsHeldLabel (label_at was.port number) flow (Some output) → HoldsLabel w end number flow (Some output)
      held is = record { linked = was; shown = shown; label = is.label; held = is.is; offered = is.offered; of_flow = is.of_flow; joined = is.joined }

      by : StaysAt was (linked_end v end) → HoldsLabel w end number flow (Some output)
      by s = held (joined_back (label_at was.port number) flow output ((s.keeps.labels number).none_new (flow, output) (told s.after s.there)))

  -- *Grants*
  pub grants_stay : (state : GrantState) → HoldsGrant w end number flow state → HoldsGrant v end number flow state
  grants_stay state h = by (all.ends end h.linked h.shown)
    where
      told : option_and_then held_grant (at grant_label number h.linked.port.grants) ≡ Some (flow, state)
      told = ap (option_and_then held_grant) h.held ∙ grant_told h.grant flow state h.of_flow h.is h.used

      held : (after : Linked) → linked_end v end ≡ Some after → IsHeldGrant (at grant_label number after.port.grants) flow state → HoldsGrant v end number flow state
      held after there is = record { linked = after; shown = there; grant = is.grant; held = is.is; of_flow = is.of_flow; is = is.in_state; used = h.used }

      by : StaysAt h.linked (linked_end v end) → HoldsGrant v end number flow state
      by s = held s.after s.there (grant_back (at grant_label number s.after.port.grants) flow state ((s.keeps.grants number).kept (flow, state) told))

  pub grants_were : (input : End) (was : Linked) → linked_end w end ≡ Some was → HoldsGrant v end number flow (ByInput input) → HoldsGrant w end number flow (ByInput input)
  grants_were input was shown h = by (all.ends end was shown)
    where
      told : (after : Linked) → linked_end v end ≡ Some after → option_and_then lent_grant (at grant_label number after.port.grants) ≡ Some (flow, input)
      told after there = ap (λ (l : Linked). option_and_then lent_grant (at grant_label number l.port.grants)) (one_linked after h.linked (sym there ∙ h.shown))
          ∙ (ap (option_and_then lent_grant) h.held ∙ lent_told h.grant flow input h.of_flow h.is)

      held : IsHeldGrant (at grant_label number was.port.grants) flow (ByInput input) → HoldsGrant w end number flow (ByInput input)
      held is = record { linked = was; shown = shown; grant = is.grant; held = is.is; of_flow = is.of_flow; is = is.in_state; used = tt }

      by : StaysAt was (linked_end v end) → HoldsGrant w end number flow (ByInput input)
      by s = held (lent_back (at grant_label number was.port.grants) flow input ((s.keeps.grants number).none_new (flow, input) (told s.after s.there)))
