-- a grant whose lifetime has passed has ended or is leaving

use Rattle.std.proofs.Common.{◌≡◌, ℕ, zero, suc, ◌≤◌, Bool, true, false, List, [], ◌∷◌, Option, None, Some, refl, subst, arith, if◌then◌else◌, sym, ◌∙◌, ap}
use Rattle.std.specs.Prelude.{◌+◌, ◌-◌}
use Rattle.std.specs.Option.{option_and_then}
use Rattle.law_controller.specs.world_model.Words.{PortNo, at, Setup, Grant, grant_label, is_leaving, Controller, Linked, port_key, linked_at}
use Rattle.law_controller.proofs.ordered_lists.Every.{every_map}
use Rattle.law_controller.specs.law_port_facts.Port.{IsGrant}
use Rattle.law_controller.proofs.law_port_facts.Keyed.{by_eq, at_key, at_every}
use Rattle.law_controller.specs.world_model.Controller.{Acted}
use Rattle.law_controller.specs.world_model.Ticks as controller_ticks
use Rattle.law_controller.specs.law_controller_facts.Inputs.{Input, CellComes, PacketEnters, Ticks, Restarts, ChangeComes, FrameIsForged, CellLeaves, Meanwhile, takes_input, takes_inputs}
use Rattle.law_controller.specs.law_controller_facts.Sound.{IsSound, IsLinkedPort, Opening, opened_by, setups_by}
use Rattle.law_controller.proofs.law_controller_facts.Laws.{input_sound, inputs_sound, always_sound}
use Rattle.law_controller.specs.Law.{IsOpening}
use Rattle.law_lifetimes.specs.Aging.{one_tick, ticks_among, NotSet, NoneSets, IsCounted}
use Rattle.law_lifetimes.specs.Expiry.{reaches_at, grant_at, HasEnded}
use Rattle.law_lifetimes.specs.Law.{IsSet, HadAsMuch, IsSetAlone, EndsByLifetime, IsEndedByReset}
use Rattle.law_lifetimes.proofs.Performing.{frame_fits}
use Rattle.law_lifetimes.proofs.Events.{cell_comes_fits, enters_fits, ticks_fits, restarts_fits, changes_fits}
use Rattle.law_lifetimes.proofs.Ticking.{by_at, other_short, ports_apart, Short, short_fate, AnyQueue, any_control, any_grant, KShort, kept_short, FitsShort, ticks_short}
use Rattle.law_lifetimes.proofs.Setting.{set_short, set_granted, set_resets}
use Rattle.law_lifetimes.proofs.Standing.{tick_resets}

module _ (setups : List Setup) (port : PortNo) (label : ℕ) where
  -- *Each input* that sets no lifetime keeps what is left, but for a tick
  tick_short : (m : ℕ) (a : Acted) → IsSound setups a.controller → FitsShort port label m a → FitsShort port label (m - one_tick a port Ticks) (controller_ticks.ticks a)
  tick_short m a s h = by_reach (reaches_at a.controller port) refl m h
    where
      keeps : (m : ℕ) → FitsShort port label m a → FitsShort port label m (controller_ticks.ticks a)
      keeps m h = ticks_fits port label (Short port.0 label m) AnyQueue (short_fate port.0 label m) any_control (any_grant port label m) a h

      by_reach : (b : Bool) → reaches_at a.controller port ≡ b → (m : ℕ) → FitsShort port label m a → FitsShort port label (m - (if b then 1 else 0)) (controller_ticks.ticks a)
      by_reach false is m h = subst (λ k. FitsShort port label k (controller_ticks.ticks a)) (all m) (keeps m h)
        where
          all : (m : ℕ) → m ≡ m - 0
          all m = omega arith
      by_reach true is zero h = subst (λ k. FitsShort port label k (controller_ticks.ticks a)) none (keeps 0 h)
        where
          none : 0 ≡ 0 - 1
          none = omega arith
      by_reach true is (suc m) h = subst (λ k. FitsShort port label k (controller_ticks.ticks a)) (one m) (ticks_short port label setups m a s is h)
        where
          one : (m : ℕ) → m ≡ suc m - 1
          one m = omega arith

  all_left : (m : ℕ) (a : Acted) → FitsShort port label m a → FitsShort port label (m - 0) a
  all_left m a h = subst (λ k. FitsShort port label k a) (all m) h
    where
      all : (m : ℕ) → m ≡ m - 0
      all m = omega arith

  input_short : (m : ℕ) (a : Acted) (input : Input) → IsSound setups a.controller → NotSet a port label input → FitsShort port label m a → FitsShort port label (m - one_tick a port input) (takes_input a input)
  input_short m a (CellComes cell) s unset h = all_left m (takes_input a (CellComes cell)) (cell_comes_fits port label (Short port.0 label m) AnyQueue (short_fate port.0 label m) any_control (any_grant port label m) a cell unset h)
  input_short m a (PacketEnters number octets) s unset h = all_left m (takes_input a (PacketEnters number octets)) (enters_fits port label (Short port.0 label m) AnyQueue (short_fate port.0 label m) any_control (any_grant port label m) a number octets h)
  input_short m a Ticks s unset h = tick_short m a s h
  input_short m a Restarts s unset h = all_left m (takes_input a Restarts) (restarts_fits port label (Short port.0 label m) AnyQueue (short_fate port.0 label m) any_control (any_grant port label m) a h)
  input_short m a (ChangeComes change) s unset h = all_left m (takes_input a (ChangeComes change)) (changes_fits port label (Short port.0 label m) AnyQueue (short_fate port.0 label m) any_control (any_grant port label m) a change h)
  input_short m a (FrameIsForged channel mark payload) s unset h = all_left m (takes_input a (FrameIsForged channel mark payload)) (frame_fits (KShort port label m) AnyQueue (kept_short port label m) a channel mark payload tt h)
  input_short m a CellLeaves s unset h = all_left m (takes_input a CellLeaves) (record { ports = h.ports; queue = tt })
  input_short m a (Meanwhile notes numbers) s unset h = all_left m (takes_input a (Meanwhile notes numbers)) (record { ports = h.ports; queue = tt })

  inputs_short : (inputs : List Input) (m : ℕ) (a : Acted) → IsSound setups a.controller → NoneSets a port label inputs → FitsShort port label m a → FitsShort port label (m - ticks_among a port inputs) (takes_inputs a inputs)
  inputs_short [] m a s unset h = all_left m a h
  inputs_short (input ∷ inputs) m a s unset h = subst (λ k. FitsShort port label k (takes_inputs (takes_input a input) inputs)) (both m (one_tick a port input) (ticks_among (takes_input a input) port inputs))
      (inputs_short inputs (m - one_tick a port input) (takes_input a input) (input_sound setups a input s) unset.1 (input_short m a input s unset.0 h))
    where
      both : (m k l : ℕ) → (m - k) - l ≡ m - (k + l)
      both m k l = omega arith

-- *A lifetime is counted*: what is left of it
module _ (o : Opening) (port : PortNo) (label lifetime : ℕ) (a : Acted) (ticks : ℕ) (is : IsOpening o) (counted : IsCounted o port label lifetime a ticks) where
  abbrev set_before : Acted
  set_before = takes_inputs (opened_by o) counted.before

  abbrev set_now : Acted
  set_now = takes_input set_before counted.setting

  sound_before : IsSound (setups_by o) set_before.controller
  sound_before = always_sound o counted.before is.differ

  sound_now : IsSound (setups_by o) set_now.controller
  sound_now = input_sound (setups_by o) set_before counted.setting sound_before

  pub counted_sound : IsSound (setups_by o) a.controller
  counted_sound = subst (λ (b : Acted). IsSound (setups_by o) b.controller) counted.now (inputs_sound (setups_by o) counted.after set_now sound_now)

  pub counted_short : FitsShort port label (lifetime - ticks) a
  counted_short = subst (λ k. FitsShort port label (lifetime - k) a) counted.counted
      (subst (λ (b : Acted). FitsShort port label (lifetime - ticks_among set_now port counted.after) b) counted.now
      (inputs_short (setups_by o) port label counted.after lifetime set_now sound_now counted.unset (set_short (setups_by o) port label lifetime set_before counted.setting sound_before counted.sets)))

-- *It has ended* when nothing is left
module _ (setups : List Setup) (port : PortNo) (label : ℕ) where
  pub leaves : (x : Linked) (grant : Grant) → IsLinkedPort setups x → KShort port label 0 x.setup x.port → port_key x ≡ port.0 → at grant_label label x.port.grants ≡ Some grant → is_leaving grant.state ≡ true
  leaves x grant fits short here found = by_state (is_leaving grant.state) refl
    where
      never : 1 ≤ grant.lifetime → grant.lifetime ≤ 0 → ⊥
      never more none = omega (arith, more, none)

      by_state : (b : Bool) → is_leaving grant.state ≡ b → is_leaving grant.state ≡ true
      by_state true e = e
      by_state false e = absurd (never ((at_every grant_label (IsGrant setups x.setup) label x.port.grants grant fits.grants found).lives e)
          (at_every grant_label (Short port.0 label 0 x.setup.port.0) label x.port.grants grant short found here (at_key grant_label label x.port.grants grant found) e))

  pub has_ended : (a : Acted) → IsSound setups a.controller → FitsShort port label 0 a → HasEnded (grant_at a.controller port label)
  has_ended a s h = by_port (linked_at a.controller port) refl
    where
      by_grant : (x : Linked) → linked_at a.controller port ≡ Some x → (g : Option Grant) → at grant_label label x.port.grants ≡ g → HasEnded g
      by_grant x found None e = tt
      by_grant x found (Some grant) e = leaves x grant (at_every port_key (IsLinkedPort setups) port.0 a.controller.ports x s.ports.each found)
          (at_every port_key (λ (y : Linked). KShort port label 0 y.setup y.port) port.0 a.controller.ports x h.ports found) (at_key port_key port.0 a.controller.ports x found) e

      by_port : (p : Option Linked) → linked_at a.controller port ≡ p → HasEnded (option_and_then (λ (x : Linked). at grant_label label x.port.grants) p)
      by_port None found = tt
      by_port (Some x) found = by_grant x found (at grant_label label x.port.grants) refl

pub none_left : (o : Opening) (port : PortNo) (label lifetime : ℕ) (a : Acted) (ticks : ℕ) → IsOpening o → IsCounted o port label lifetime a ticks → lifetime ≤ ticks → FitsShort port label 0 a
none_left o port label lifetime a ticks is counted passed = subst (λ k. FitsShort port label k a) (nothing lifetime ticks passed) (counted_short o port label lifetime a ticks is counted)
  where
    nothing : (l t : ℕ) → l ≤ t → l - t ≡ 0
    nothing l t h = omega (arith, h)

pub ends_by_lifetime : EndsByLifetime
ends_by_lifetime o port label lifetime a ticks is counted passed = has_ended (setups_by o) port label a (counted_sound o port label lifetime a ticks is counted) (none_left o port label lifetime a ticks is counted passed)

-- *It is set*
pub is_set : IsSet
is_set o inputs port label lifetime input is sets stands = set_granted (setups_by o) port label lifetime (takes_inputs (opened_by o) inputs) input (always_sound o inputs is.differ) sets stands

-- *The session with the switch* ends by a node reset alone
pub is_ended_by_reset : IsEndedByReset
is_ended_by_reset o inputs port is = record {
  setting = λ input label lifetime sets. set_resets (setups_by o) port label lifetime (takes_inputs (opened_by o) inputs) input (always_sound o inputs is.differ) sets;
  tick = tick_resets (setups_by o) (takes_inputs (opened_by o) inputs) port (always_sound o inputs is.differ);
}

-- *Nothing else sets it*
module _ (setups : List Setup) (port : PortNo) (label : ℕ) where
  -- what is left of the grant that is found is left of each such one
  short_from : (a : Acted) (m : ℕ) → IsSound setups a.controller
      → ((x : Linked) (grant : Grant) → linked_at a.controller port ≡ Some x → at grant_label label x.port.grants ≡ Some grant → is_leaving grant.state ≡ false → grant.lifetime ≤ m) → FitsShort port label m a
  short_from a m s h = record {
    ports = every_map (λ (x : Linked). port_key x ≡ port.0 → KShort port label m x.setup x.port) (λ (x : Linked). KShort port label m x.setup x.port) a.controller.ports
        (λ x each. by_eq (port_key x) port.0 (λ e t. each e) (λ other t. other_short port label m x other))
        (by_at port_key port.0 (λ (x : Linked). KShort port label m x.setup x.port) a.controller.ports (ports_apart port label setups 0 a s) at_port);
    queue = tt;
  }
    where
      at_port : (x : Linked) → linked_at a.controller port ≡ Some x → KShort port label m x.setup x.port
      at_port x found = every_map (λ (g : Grant). grant_label g ≡ label → is_leaving g.state ≡ false → g.lifetime ≤ m) (Short port.0 label m x.setup.port.0) x.port.grants (λ g each here is live. each is live)
          (by_at grant_label label (λ (g : Grant). is_leaving g.state ≡ false → g.lifetime ≤ m) x.port.grants (at_every port_key (IsLinkedPort setups) port.0 a.controller.ports x s.ports.each found).apart
          (λ g there live. h x g found there live))

  -- a grant that is found
  record IsFoundAt (c : Controller) (grant : Grant) : Type 0 where
    linked : Linked
    found : linked_at c port ≡ Some linked
    granted : at grant_label label linked.port.grants ≡ Some grant

  found_at : (c : Controller) (grant : Grant) → grant_at c port label ≡ Some grant → IsFoundAt c grant
  found_at c grant e = by_port (linked_at c port) refl e
    where
      by_port : (p : Option Linked) → linked_at c port ≡ p → option_and_then (λ (x : Linked). at grant_label label x.port.grants) p ≡ Some grant → IsFoundAt c grant
      by_port None found e = absurd (cc e)
      by_port (Some x) found e = record { linked = x; found = found; granted = e }

  at_before : (c : Controller) (x : Linked) (grant : Grant) → linked_at c port ≡ Some x → at grant_label label x.port.grants ≡ Some grant → grant_at c port label ≡ Some grant
  at_before c x grant found granted = ap (option_and_then (λ (y : Linked). at grant_label label y.port.grants)) found ∙ granted

  module _ (a : Acted) (s : IsSound setups a.controller) (input : Input) (unset : NotSet a port label input) (grant : Grant) (after : grant_at (takes_input a input).controller port label ≡ Some grant) (live : is_leaving grant.state ≡ false) where
    there : IsFoundAt (takes_input a input).controller grant
    there = found_at (takes_input a input).controller grant after

    lives : 1 ≤ grant.lifetime
    lives = (at_every grant_label (IsGrant setups there.linked.setup) label there.linked.port.grants grant
        (at_every port_key (IsLinkedPort setups) port.0 (takes_input a input).controller.ports there.linked (input_sound setups a input s).ports.each there.found).grants there.granted).lives live

    left : (m : ℕ) → FitsShort port label m a → grant.lifetime ≤ m
    left m h = less grant.lifetime m (one_tick a port input) (at_every grant_label (Short port.0 label (m - one_tick a port input) there.linked.setup.port.0) label there.linked.port.grants grant
        (at_every port_key (λ (y : Linked). KShort port label (m - one_tick a port input) y.setup y.port) port.0 (takes_input a input).controller.ports there.linked (input_short setups port label m a input s unset h).ports there.found)
        there.granted (at_key port_key port.0 (takes_input a input).controller.ports there.linked there.found) (at_key grant_label label there.linked.port.grants grant there.granted) live)
      where
        less : (l m k : ℕ) → l ≤ m - k → l ≤ m
        less l m k h = omega (arith, h)

    never : FitsShort port label 0 a → ⊥
    never h = absent grant.lifetime lives (left 0 h)
      where
        absent : (l : ℕ) → 1 ≤ l → l ≤ 0 → ⊥
        absent l more none = omega (arith, more, none)

    some_same : (x y : Grant) → Some x ≡ Some y → x ≡ y
    some_same x y e = cc

    had : (o : Option Grant) → grant_at a.controller port label ≡ o → HadAsMuch (grant_at a.controller port label) grant.lifetime
    had None e = absurd (never (short_from a 0 s (λ x g found granted up. absurd (cc (sym (at_before a.controller x g found granted) ∙ e)))))
    had (Some old) e = by_state (is_leaving old.state) refl
      where
        same : (x : Linked) (g : Grant) → linked_at a.controller port ≡ Some x → at grant_label label x.port.grants ≡ Some g → old ≡ g
        same x g found granted = some_same old g (sym e ∙ at_before a.controller x g found granted)

        by_state : (b : Bool) → is_leaving old.state ≡ b → HadAsMuch (grant_at a.controller port label) grant.lifetime
        by_state true leaving = absurd (never (short_from a 0 s (λ x g found granted up. absurd (cc (sym (ap (λ (k : Grant). is_leaving k.state) (same x g found granted) ∙ up) ∙ leaving)))))
        by_state false up = record {
          grant = old;
          there = e;
          live = up;
          more = left old.lifetime (short_from a old.lifetime s (λ x g found granted t. at_most old.lifetime g.lifetime (ap (λ (k : Grant). k.lifetime) (same x g found granted))));
        }
          where
            at_most : (m n : ℕ) → m ≡ n → n ≤ m
            at_most m n e = omega (arith, e)

pub is_set_alone : IsSetAlone
is_set_alone o inputs port label input is unset grant after live =
    had (setups_by o) port label (takes_inputs (opened_by o) inputs) (always_sound o inputs is.differ) input unset grant after live (grant_at (takes_inputs (opened_by o) inputs).controller port label) refl
