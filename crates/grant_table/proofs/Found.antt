-- the first grant under which the controller sends a flow

use Rattle.std.proofs.Common.{◌≡◌, Bool, List, [], ◌∷◌, map, None, Some, refl, inl, inr}
use Rattle.std.specs.Prelude.{find, option_map, ◌&&◌}
use Rattle.std.proofs.lemmas.Bool.{cases_Bool}
use Rattle.ipv4_packet.specs.declared.flow.FlowId.{FlowId}
use Rattle.ipv4_packet.specs.Parts.{same_flow}
use Rattle.branch_desk.specs.port_model.Grants.{grant_label, grant_for, is_by_controller}
use Rattle.grant_table.specs.declared.held.Held.{Held}
use Rattle.grant_table.specs.Held.{shown}

abbrev pub carries : FlowId → Held → Bool
carries flow h = is_by_controller (shown h).state && same_flow (shown h).flow flow

find_shown : (flow : FlowId) (hs : List Held) → grant_for (map shown hs) flow ≡ option_map shown (find (carries flow) hs)
find_shown flow [] = refl
find_shown flow (h ∷ hs) = elim (cases_Bool (carries flow h)) [
  | inl it ↦ rw it refl
  | inr other ↦ rw other (find_shown flow hs)
]

pub found_label : (flow : FlowId) (hs : List Held) (h : Held) → find (carries flow) hs ≡ Some h → option_map grant_label (grant_for (map shown hs) flow) ≡ Some (shown h).label
found_label flow hs h is = rw (find_shown flow hs, is) refl

pub no_label : (flow : FlowId) (hs : List Held) → find (carries flow) hs ≡ None → option_map grant_label (grant_for (map shown hs) flow) ≡ None
no_label flow hs none = rw (find_shown flow hs, none) refl
