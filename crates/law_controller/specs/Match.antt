-- That joins of labels and grants that are lent match

use Rattle.std.specs.Prelude.{◌≡◌, ◌≢◌, ℕ, true, false, Bool, List, Option, Some, ◌⊎◌}
use Rattle.std.specs.Option.{option_map_or, option_and_then}
use Rattle.law_controller_facts.specs.world_model.Words.{End, number_of_channel, Request, MoveBranch, at, Desk, Standing, all_on, label_end, home_of, Label, label_number, Grant, grant_label, labels_of, Linked, port_key, is_clearing}
use Rattle.law_controller_facts.specs.ordered_lists.Ordered.{Every}
use Rattle.law_controller_facts.specs.world_model.port_model.Grants as grants

-- where a label is joined to, and the input that a grant is lent to, by their numbers
abbrev pub joined_in : List Label → (number : ℕ) → Option End
joined_in labels number = option_and_then (λ (label : Label). label.join) (at label_number number labels)

abbrev pub lent_in : List Grant → (number : ℕ) → Option End
lent_in gs number = option_and_then (λ (grant : Grant). grants.lent_input grant.state) (at grant_label number gs)

-- at a port
abbrev pub joined_at : List Linked → (port number : ℕ) → Option End
joined_at ports port number = option_and_then (λ (linked : Linked). joined_in (labels_of linked.port) number) (at port_key port ports)

abbrev pub lent_at : List Linked → (port number : ℕ) → Option End
lent_at ports port number = option_and_then (λ (linked : Linked). lent_in linked.port.grants number) (at port_key port ports)

abbrev pub clearing_at : List Linked → (port : ℕ) → Bool
clearing_at ports port = option_map_or (λ (linked : Linked). is_clearing linked.port.adjacency.state) (at port_key port ports) false

-- the channel of a label of a port
abbrev pub end_at : (port number : ℕ) → End
end_at port number = label_end (record { 0 = port }) number

-- *A Move Branch* that leads an input elsewhere than home is of a join: it leads to an output whose grant is lent to
-- the input
abbrev pub MovesJoined : List Linked → Request → Type 0
MovesJoined ports (MoveBranch input from to) = to ≢ home_of input → lent_at ports to.port.0 (number_of_channel to.channel) ≡ Some input
MovesJoined ports request = Unit {0}

abbrev pub IsOfJoin : List Linked → Standing → Type 0
IsOfJoin ports s = MovesJoined ports s.request

-- *A label is joined to an output* exactly where the output's grant is lent to it, but that of a port in Clearing no
-- label is left: then Delete All of it stands. No two grants are lent to one input
pub record IsMatched (ports : List Linked) (desk : Desk) : Type 0 where
  pub granted : (p n : ℕ) (output : End) → joined_at ports p n ≡ Some output → lent_at ports output.port.0 (number_of_channel output.channel) ≡ Some (end_at p n)
  pub joined : (q m : ℕ) (input : End) → lent_at ports q m ≡ Some input
      → (clearing_at ports input.port.0 ≡ true) ⊎ (joined_at ports input.port.0 (number_of_channel input.channel) ≡ Some (end_at q m))
  pub deleting : (q m : ℕ) (input : End) → lent_at ports q m ≡ Some input → clearing_at ports input.port.0 ≡ true → all_on desk input.port ≡ true
  pub once : (q m r k : ℕ) (input : End) → lent_at ports q m ≡ Some input → lent_at ports r k ≡ Some input → (q ≡ r) × (m ≡ k)
  pub moving : Every (IsOfJoin ports) desk.standing
