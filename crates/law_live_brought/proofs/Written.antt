-- the REDIRECT of a label that is being wired can be written, in a run; and it isn't among what is on its way yet

use Rattle.std.proofs.Common.{◌≡◌, inl, inr, ℕ, ◌+◌, ◌<◌, ◌^◌, ◌&&◌, Bool, true, false, List, [], ◌∷◌, ◌++◌, Some, refl, sym, ◌∙◌, subst, arith}
use Rattle.std.proofs.lemmas.Bool.Decides.{nat_tests}
use Rattle.world_model.specs.Words.{PortNo, Instance, Channel, Peer, Timers, FlowId, IsFlow, FitsFields, is_label_number, label_channel_of, last_number, Redirect, Setup, Label, label_number, label_at, labels_of, Controller, Linked, linked_at, port_key}
use Rattle.world_model.specs.ifmp_wire.declared.message.Message.{Message}
use Rattle.law_live_binding_beats.specs.law_port_facts.ordered_lists.Ordered.{Every}
use Rattle.law_live_binding_beats.specs.law_port_facts.Port.{HasFlows, IsRanged}
use Rattle.law_live_binding_beats.proofs.law_port_facts.ordered_lists.Every.{every_unmapped}
use Rattle.law_live_binding_beats.proofs.law_port_facts.Keyed.{at_every}
use Rattle.law_live_binding_beats.specs.law_run_facts.law_world_views.Between.{setups_of}
use Rattle.law_live_binding_beats.specs.law_run_facts.law_world_views.law_controller_views.Ready.{IsReady, IsReadyPort}
use Rattle.law_live_binding_beats.specs.law_run_facts.law_world_views.law_port_widths.Widths.{FitsPeer, FitsStored, FitsLabel}
use Rattle.law_live_binding_beats.specs.law_live_links.Law.{EndOfLink, number_of, IsGreeting, IsRefresh, LeadOn}
use Rattle.law_live_binding_beats.specs.law_live_worlds.Law.{end_of}
use Rattle.law_live_binding_beats.specs.law_live_going.Law.{IsWritten}
use Rattle.law_live_binding_beats.specs.law_live_bindings.Law.{IsHeldOrNew, AreBinding, told_of}
use Rattle.law_live_binding_beats.proofs.law_live_bindings.Resting.{in_range_of}

first : (a b : Bool) → (a && b) ≡ true → a ≡ true
first true b e = refl
first false b e = absurd (cc e)

-- *The channel of a label*
low_vpi : (n : ℕ) → is_label_number n ≡ true → (label_channel_of n).vpi < 2 ^ 8
low_vpi n is = grind (arith, nat_tests)

low_vci : (n : ℕ) → is_label_number n ≡ true → (label_channel_of n).vci < 2 ^ 16
low_vci n is = grind (arith, nat_tests)

low_number : (n : ℕ) → n < 4294967295 → n < 2 ^ 32
low_number n low = omega (arith, low)

module _ (setups : List Setup) (c : Controller) (ready : IsReady setups c) (ranged : Every IsRanged (setups_of c)) (port : PortNo) (linked : Linked)
    (found : linked_at c port ≡ Some linked) (said : List Message) (other : EndOfLink) (binding : AreBinding (end_of linked said) other) (label : Label)
    (held : label_at linked.port label.number ≡ Some label) (left : number_of linked.port < last_number) where
  own : IsReadyPort linked
  own = at_every port_key IsReadyPort port.0 c.ports linked ready.ports found

  timed : IsRanged linked.setup
  timed = at_every port_key (λ (l : Linked). IsRanged l.setup) port.0 c.ports linked (every_unmapped (λ (l : Linked). l.setup) IsRanged c.ports ranged) found

  flows : HasFlows linked.port
  flows = at_every port_key (λ (l : Linked). HasFlows l.port) port.0 c.ports linked ready.flows found

  of_flow : IsFlow label.flow
  of_flow = at_every label_number (λ (l : Label). IsFlow l.flow) label.number (labels_of linked.port) label flows.labels held

  fits_flow : FitsFields label.flow
  fits_flow = at_every label_number FitsLabel label.number (labels_of linked.port) label own.fits.labels held

  numbered : is_label_number label.number ≡ true
  numbered = first (is_label_number label.number) _ (in_range_of label
      (at_every label_number (IsHeldOrNew linked.setup.timers other.setup other.port.grants said) label.number (labels_of linked.port) label binding.there.labels held))

  far_fits : FitsPeer other.port.adjacency.own
  far_fits = subst FitsStored binding.met.one_knows own.fits.stored

  pub offer_written : IsWritten (told_of (end_of linked said) other label)
  offer_written = record {
    range = (timed.lifetime, low_vpi label.number numbered, of_flow);
    fits = ((own.fits.own.0, far_fits.0, low_number (number_of linked.port) left), own.setup.lifetime, low_vci label.number numbered, fits_flow);
  }

-- *A REDIRECT more* has another number behind it
module _ (from to : Peer) (timers : Timers) (labels : List Label) (sender peer : Instance) (own lifetime : ℕ) (channel : Channel) (flow : FlowId) where
  abbrev told : Message
  told = Redirect sender peer own lifetime channel flow

  no_greeting : (message : Message) → message ≡ told → IsGreeting from to message → ⊥
  no_greeting message e greets = absurd (cc (sym greets.is ∙ e))

  never_both : (number : ℕ) (message : Message) → IsGreeting from to message → IsRefresh from to timers labels number message → ⊥
  never_both number message greets tells = absurd (cc (sym greets.is ∙ tells.is))

  pub lead_apart : (number next : ℕ) (said : List Message) → LeadOn from to timers labels number next said → LeadOn from to timers labels number next (said ++ told ∷ []) → ⊥
  lead_apart number next [] leads (inl greets) = no_greeting told refl greets.0
  lead_apart number next [] leads (inr tells) = absurd (omega (arith, leads, tells.1))
  lead_apart number next (message ∷ said) (inl greets) (inl again) = lead_apart number next said greets.1 again.1
  lead_apart number next (message ∷ said) (inl greets) (inr tells) = never_both number message greets.0 tells.0
  lead_apart number next (message ∷ said) (inr tells) (inl greets) = never_both number message greets.0 tells.0
  lead_apart number next (message ∷ said) (inr tells) (inr again) = lead_apart (number + 1) next said tells.1 again.1
