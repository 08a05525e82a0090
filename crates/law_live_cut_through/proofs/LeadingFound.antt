-- the one grant under which a controller sends a flow, where the other end of the link holds one label of the flow alone

use Rattle.std.proofs.Common.{◌≡◌, inl, inr, ℕ, Bool, true, false, true≢false, List, [], ◌∷◌, Option, None, Some, refl, sym, ◌∙◌, ap, subst, if◌then◌else◌}
use Rattle.std.specs.Prelude.{◌&&◌, is_some, find, nat_eq}
use Rattle.std.specs.Option.{option_map, option_map_or, option_and_then}
use Rattle.world_model.specs.Words.{FlowId, same_flow, at, Label, serves, label_number, labels_of, Grant, GrantState, ByController, is_by_controller, grant_label, grant_for, grants_at, Controller, Linked, linked_at, linked_end, Topology, World, Site}
use Rattle.world_model.specs.network_model.declared.link.LinkEnd.{LinkEnd}
use Rattle.law_live_ease.specs.law_port_facts.ordered_lists.Ordered.{Every}
use Rattle.law_live_ease.proofs.law_port_facts.ordered_lists.Every.{every_map2}
use Rattle.law_live_ease.proofs.law_port_facts.Keyed.{at_key, at_every, each_found}
use Rattle.law_live_ease.specs.law_live_worlds.Law.{Shows, end_of}
use Rattle.law_live_ease.proofs.law_run_facts.law_controller_bindings.Flows.{one_flow}
use Rattle.law_live_ease.specs.law_live_hearing.Law.{world_at}
use Rattle.law_live_ease.specs.law_live_bindings.Law.{IsHeldOrNew, AreBinding}
use Rattle.law_live_ease.specs.law_live_bound.Worlds.{BindIn}
use Rattle.law_live_ease.proofs.law_live_counts.Counted.{same_itself}
use Rattle.law_live_ease.specs.Law.{IsBindingLink}
use Rattle.law_live_ease.proofs.ComingSteps.{one_linked}
use Rattle.law_live_cut_through.specs.Law.{HoldsGrant, ServesAlone}
use Rattle.law_live_cut_through.specs.Leading.{GrantsAreFound}

one_grant : (x y : Grant) → Some x ≡ Some y → x ≡ y
one_grant x y e = cc e

-- *One that alone passes* is found
module _ {A : Type 0} (key : A → ℕ) (test : A → Bool) (x : A) (passes : test x ≡ true) where
  find_one : (xs : List A) (k : ℕ) → Every (λ (y : A). test y ≡ true → y ≡ x) xs → at key k xs ≡ Some x → find test xs ≡ Some x
  find_one [] k alone e = absurd (cc e)
  find_one (y ∷ ys) k alone e = by (test y) refl (nat_eq (key y) k) e (λ there. find_one ys k alone.1 there)
    where
      apart : test y ≡ false → Some y ≡ Some x → ⊥
      apart fails same = (let one : y ≡ x = cc same in true≢false (sym passes ∙ (ap test (sym one) ∙ fails)))

      later : (t : Bool) → test y ≡ false → (if t then Some y else at key k ys) ≡ Some x → at key k ys ≡ Some x
      later true fails same = absurd (apart fails same)
      later false fails same = same

      by : (b : Bool) → test y ≡ b → (t : Bool) → (if t then Some y else at key k ys) ≡ Some x → (at key k ys ≡ Some x → find test ys ≡ Some x)
          → (if b then Some y else find test ys) ≡ Some x
      by true is t f rest = ap (λ (z : A). Some z) (alone.0 is)
      by false is t f rest = rest (later t is f)

-- *What is shown* of an end of a link
end_shown : (w : World) (end : LinkEnd) (linked : Linked) → Shows w end linked → linked_end w end ≡ Some linked
end_shown w end linked shows = ap (λ (o : Option Site). option_and_then (λ (c : Controller). linked_at c end.port) (option_map (λ (s : Site). s.controller) o)) shows.there ∙ shows.of_port

first_of : (x y : Bool) → (x && y) ≡ true → x ≡ true
first_of true y e = refl
first_of false y e = absurd (cc e)

second_of : (x y : Bool) → (x && y) ≡ true → y ≡ true
second_of true y e = e
second_of false y e = absurd (cc e)

record HasLabel (labels : List Label) (number : ℕ) : Type 0 where
  label : Label
  there : at label_number number labels ≡ Some label

has_label : (labels : List Label) (number : ℕ) → is_some (at label_number number labels) ≡ true → HasLabel labels number
has_label labels number some = by (at label_number number labels) refl some
  where
    by : (o : Option Label) → at label_number number labels ≡ o → is_some o ≡ true → HasLabel labels number
    by None found e = absurd (cc e)
    by (Some label) found e = record { label = label; there = found }

module _ (topology : Topology) (w : World) (one far : LinkEnd) (link : IsBindingLink topology w one far) (flow : FlowId) (number : ℕ)
    (alone : ServesAlone w far number flow) (held : HoldsGrant w one number flow ByController) where
  abbrev bind : BindIn w one far link.ends.said link.ends.far_said
  bind = link.ends.bind

  abbrev grants : List Grant
  grants = held.linked.port.grants

  abbrev labels : List Label
  labels = labels_of bind.far_linked.port

  -- the port that holds the grant is the one that binds
  same : bind.linked ≡ held.linked
  same = one_linked bind.linked held.linked (sym (end_shown w one bind.linked bind.shows) ∙ held.shown)

  binding : AreBinding (end_of held.linked link.ends.said) (end_of bind.far_linked link.ends.far_said)
  binding = subst (λ (l : Linked). AreBinding (end_of l link.ends.said) (end_of bind.far_linked link.ends.far_said)) same bind.binding

  own : Every (λ (x : Grant). at grant_label (grant_label x) grants ≡ Some x) grants
  own = each_found grant_label grants binding.one_end.grants_apart

  abbrev Passes : Grant → Bool
  Passes x = is_by_controller x.state && same_flow x.flow flow

  -- *A grant of the flow* is of the label that serves it alone, so it is the one that is held
  module _ (x : Grant) (has : is_some (at label_number x.label labels) ≡ true) (found : at grant_label x.label grants ≡ Some x) (passes : Passes x ≡ true) where
    of_label : HasLabel labels x.label
    of_label = has_label labels x.label has

    number_is : of_label.label.number ≡ x.label
    number_is = at_key label_number x.label labels of_label.label of_label.there

    of_flow : x.flow ≡ flow
    of_flow = one_flow x.flow flow (second_of (is_by_controller x.state) (same_flow x.flow flow) passes)

    found_there : at grant_label of_label.label.number grants ≡ Some x
    found_there = ap (λ k. at grant_label k grants) number_is ∙ found

    by_label : IsHeldOrNew bind.far_linked.setup.timers held.linked.setup grants link.ends.far_said of_label.label → x.label ≡ number
    by_label (inl is) = sym number_is
        ∙ at_every label_number (λ (label : Label). serves label.state ≡ true → label.flow ≡ flow → label.number ≡ number) x.label labels of_label.label
        (alone bind.far_linked (end_shown w far bind.far_linked bind.far_shows)) of_label.there
        (ap serves is.offered)
        (sym is.same_flow ∙ (ap (λ (g : Grant). g.flow) (one_grant is.grant x (sym is.granted ∙ found_there)) ∙ of_flow))
    by_label (inr is) = absurd (cc (sym is.ungranted ∙ found_there))

    pub is_held : x ≡ held.grant
    is_held = one_grant x held.grant (sym found ∙ (ap (λ k. at grant_label k grants) (by_label (at_every label_number
        (IsHeldOrNew bind.far_linked.setup.timers held.linked.setup grants link.ends.far_said) x.label labels of_label.label binding.back.labels of_label.there)) ∙ held.held))

  each_is_held : Every (λ (x : Grant). Passes x ≡ true → x ≡ held.grant) grants
  each_is_held = every_map2 (λ (x : Grant). is_some (at label_number x.label labels) ≡ true) (λ (x : Grant). at grant_label (grant_label x) grants ≡ Some x)
      (λ (x : Grant). Passes x ≡ true → x ≡ held.grant) grants (λ x has found passes. is_held x has found passes) binding.back.grants own

  held_passes : Passes held.grant ≡ true
  held_passes = ap (λ (state : GrantState). is_by_controller state && same_flow held.grant.flow flow) held.is
      ∙ (ap (λ (f : FlowId). same_flow f flow) held.of_flow ∙ same_itself flow)

  pub grant_found : grant_for (grants_at w one) flow ≡ Some held.grant
  grant_found = ap (λ (o : Option Linked). grant_for (option_map_or (λ (l : Linked). l.port.grants) o []) flow) held.shown
      ∙ find_one grant_label Passes held.grant held_passes grants number each_is_held held.held

pub grants_are_found : GrantsAreFound
grants_are_found policy topology events rest stretch alone one far peer number flow serves_alone held =
    grant_found topology (world_at policy topology events) one far (alone.binds.links one far peer) flow number serves_alone held
