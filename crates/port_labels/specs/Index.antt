-- How the code finds labels: by place through their numbers, and by flow. No claim needs this file.

use Rattle.std.specs.Prelude.{◌≡◌, ℕ, ◌<◌, List, [], ◌∷◌, map, Option, None, Some, option_map, if◌then◌else◌}
use Rattle.std.specs.List.{AllByRecursion}
use Rattle.std.specs.Map.{lookup}
use Rattle.ipv4_packet.specs.declared.flow.FlowId.{FlowId}
use Rattle.ipv4_packet.specs.Parts.{same_flow}
use Rattle.branch_desk.specs.port_model.Labels.{Label, label_number, label_for}
use Rattle.port_labels.specs.Book.{ServesOnce}

-- numbers that rise
abbrev pub AreAscending : List ℕ → Type 0
AreAscending [] = Unit {0}
AreAscending (n ∷ ns) = AllByRecursion (λ m. n < m) ns × AreAscending ns

abbrev pub Entry : Type 0
Entry = FlowId × ℕ

-- the number of a flow
abbrev pub number_of : List Entry → FlowId → Option ℕ
number_of entries flow = lookup (λ other. same_flow other flow) entries

-- a flow has this number now, or none; the others have theirs
abbrev pub IsEntered : (old new : List Entry) → FlowId → (number : ℕ) → Type 0
IsEntered old new flow number =
    (other : FlowId) → number_of new other ≡ (if same_flow flow other then Some number else number_of old other)

abbrev pub IsRemoved : (old new : List Entry) → FlowId → Type 0
IsRemoved old new flow =
    (other : FlowId) → number_of new other ≡ (if same_flow flow other then None else number_of old other)

-- the number of a flow's entry is that of the label that serves it
abbrev pub IsIndexOf : List Label → List Entry → Type 0
IsIndexOf labels entries =
    (flow : FlowId) → number_of entries flow ≡ option_map label_number (label_for labels flow)

pub record AreFound (numbers : List ℕ) (entries : List Entry) (labels : List Label) : Type 0 where
  pub numbered : numbers ≡ map label_number labels
  pub indexed : IsIndexOf labels entries
  pub once : ServesOnce labels
