-- the entries of flows, as the code's map tells them

use Rattle.std.proofs.Common.{◌≡◌, ℕ, cond, List, [], ◌∷◌, None, Some, refl, sym, ◌∙◌, inl, inr}
use Rattle.std.specs.Map.{lookup}
use Rattle.std.proofs.lemmas.Bool.{cases_Bool}
use Rattle.ipv4_packet.specs.declared.flow.FlowId.{FlowId}
use Rattle.ipv4_packet.specs.contracts.flow.FlowIdPartialEq.TheImpl.{eq-value}
use Rattle.ipv4_packet.specs.Parts.{same_flow}
use Rattle.flow_classifier.proofs.Flows.{flow_from_same, same_turned}
use Rattle.flow_classifier.proofs.Derived.{eq_is}
use Rattle.port_labels.specs.Index.{Entry, IsEntered, IsRemoved, number_of}

looked_up : (f : FlowId) (es : List Entry) → lookup (eq-value.it f) es ≡ number_of es f
looked_up f [] = refl
looked_up f (e ∷ es) = rw (eq_is f e.0, looked_up f es) refl

same_both : (f g : FlowId) → same_flow f g ≡ same_flow g f
same_both f g = elim (cases_Bool (same_flow f g)) [
  | inl same ↦ (let e : f ≡ g = flow_from_same f g same in rw e refl)
  | inr other ↦ other ∙ sym (same_turned f g other)
]

pub entered_is : (es es2 : List Entry) (flow : FlowId) (n : ℕ)
    → ((q : FlowId) → lookup (eq-value.it q) es2 ≡ cond (eq-value.it flow q) (Some n) (lookup (eq-value.it q) es)) → IsEntered es es2 flow n
entered_is es es2 flow n h = λ q. sym (looked_up q es2) ∙ (h q ∙ rw (eq_is flow q, same_both q flow, looked_up q es) refl)

pub removed_is : (es es2 : List Entry) (flow : FlowId)
    → ((q : FlowId) → lookup (eq-value.it q) es2 ≡ cond (eq-value.it flow q) None (lookup (eq-value.it q) es)) → IsRemoved es es2 flow
removed_is es es2 flow h = λ q. sym (looked_up q es2) ∙ (h q ∙ rw (eq_is flow q, same_both q flow, looked_up q es) refl)
