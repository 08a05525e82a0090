-- What was so before an event of a run, by the ports of a node: the words of law_port_words for it

use Rattle.std.specs.Prelude.{◌≡◌, ℕ, true, ◌<◌, ◌^◌, ◌⊎◌, Contains, Some}
use Rattle.world_model.specs.Words.{NodeId, PortNo, Down, Up, Addr, FlowId, FitsFields, IsFlow, is_label_number, Label, Wiring, Session, default_home, World, queue_at, session_at, side_at, chain_at, on_channel, Past, last_bound, held, WasCleared, WaitsAs}
use Rattle.world_model.specs.network_model.declared.link.LinkEnd.{LinkEnd}
use Rattle.world_model.specs.Topology.{peer_of}
use Rattle.law_port_words.specs.Words.{Terms}

abbrev pub end_at : NodeId → PortNo → LinkEnd
end_at node port = record { node = node; port = port }

-- *A label and a flow* that fit their fields
pub record IsBindable (number : ℕ) (flow : FlowId) : Type 0 where
  pub number_is : is_label_number number ≡ true
  pub fits : FitsFields flow
  pub is_flow : IsFlow flow

-- *A label is being wired* for a flow, in the session of its port
pub record IsWiringAt (w : World) (end : LinkEnd) (number : ℕ) (flow : FlowId) : Type 0 where
  pub session : Session
  pub is_open : session_at w end ≡ Some session
  pub label : Label
  pub is_held : held session number ≡ Some label
  pub wiring : label.state ≡ Wiring
  pub flow_is : label.flow ≡ flow
  pub bindable : IsBindable number flow

-- it was bound last to a flow
abbrev pub IsBoundTo : Past → LinkEnd → (number : ℕ) → FlowId → Type 0
IsBoundTo past end number flow = (last_bound past.records end number ≡ Some flow) × IsBindable number flow

-- an instance of a port under which it was cleared
abbrev pub WasOwn : Past → LinkEnd → ℕ → Type 0
WasOwn past end instance = WasCleared past end instance × (instance < 2 ^ 32)

-- what is so of the other end of a link, where there is one
abbrev pub OfPeer : Past → LinkEnd → (LinkEnd → Type 0) → Type 0
OfPeer past end P = (far : LinkEnd) → peer_of past.topology end.node end.port ≡ Some far → P far

module _ (past : Past) (node : NodeId) (address : Addr) where
  -- what the ports of a node were before, and what they may take up and say
  abbrev pub terms : (wired held offered bindable : PortNo → ℕ → FlowId → Type 0) → Terms
  terms wired held offered bindable = record {
    node = node;
    address = address;
    own = λ port instance. WasOwn past (end_at node port) instance;
    told = λ port instance. WasOwn past (end_at node port) instance;
    known = λ port instance. OfPeer past (end_at node port) (λ far. WasCleared past far instance);
    granted = λ port label flow. OfPeer past (end_at node port) (λ far. last_bound past.records far label ≡ Some flow);
    held = held;
    wired = wired;
    offered = offered;
    bindable = bindable;
    refused = λ code. ⊥;
    framed = λ frame. Contains past.now.notes.frames frame;
    gathered = λ port cell. Contains (chain_at past.now (end_at node port)) cell ⊎ Contains (on_channel (default_home port).channel (queue_at past.now (Up node))) cell;
    waited = λ cell. Contains (queue_at past.now (Down node)) cell;
  }

  abbrev pub is_wiring : PortNo → ℕ → FlowId → Type 0
  is_wiring port label flow = IsWiringAt past.now (end_at node port) label flow

  abbrev pub is_bound_to : PortNo → ℕ → FlowId → Type 0
  is_bound_to port label flow = IsBoundTo past (end_at node port) label flow

  abbrev pub any_label : PortNo → ℕ → FlowId → Type 0
  any_label port label flow = Unit {0}

  abbrev pub no_label : PortNo → ℕ → FlowId → Type 0
  no_label port label flow = ⊥

  abbrev pub is_held_at : PortNo → ℕ → FlowId → Type 0
  is_held_at port label flow = is_bound_to port label flow ⊎ is_wiring port label flow

  -- where GSMP's channel is silent nothing is bound; where its cell comes no REDIRECT is said but of what is bound
  abbrev pub quiet_terms : Terms
  quiet_terms = terms any_label is_bound_to is_bound_to no_label

  abbrev pub gsmp_terms : Terms
  gsmp_terms = terms is_wiring is_held_at no_label is_wiring

  -- and a port may be cleared
  abbrev pub was_own : PortNo → ℕ → Type 0
  was_own port instance = (WasCleared past (end_at node port) instance ⊎ WaitsAs instance (side_at past.now (end_at node port))) × (instance < 2 ^ 32)
