-- where a packet's frame is led: along the labels that are joined, as they stand when it enters, to the last end of the way

use Rattle.std.proofs.Common.{◌≡◌, ◌∙◌, ℕ, ◌-◌, ◌<◌, List, [], ◌∷◌, ◌++◌, append_assoc, length, Option, None, Some, refl, sym, ap, subst, arith}
use Rattle.world_model.specs.Words.{Policy, End, GrantState, FlowId, flow_ttl, flow_destination, onward, best, Local, label_end, control_end, table_in, Carries, Topology, World, world_after}
use Rattle.world_model.specs.World.{opened}
use Rattle.world_model.specs.Topology.{peer_of}
use Rattle.world_model.specs.network_model.declared.link.LinkEnd.{LinkEnd}
use Rattle.world_model.specs.network_model.declared.event.Event.{Event}
use Rattle.calm_model.specs.Ways.{one_hop, last_node}
use Rattle.law_live_ease.specs.law_live_hearing.Law.{world_at}
use Rattle.law_live_ease.proofs.law_live_hearing.Going.{after_all}
use Rattle.law_live_cut_through.specs.Law.{HoldsLabel, HoldsGrant, AreJoinedOn}
use Rattle.law_live_cut_through.specs.Led.{Leads, LeadsAlong, last_end, last_label}
use Rattle.law_live_cut_through.proofs.SwitchedGiven.{Given}
use Rattle.law_live_cut_through.proofs.SwitchedPackets.{less_ttl}
use Rattle.law_live_cut_through.proofs.SwitchedStretches.{IsBoundStretch, behind_front, binds_first}

-- the last end is at the last node
pub at_last_node : (at : LinkEnd) (ends : List LinkEnd) → (last_end at ends).node ≡ last_node at.node ends
at_last_node at [] = refl
at_last_node at (far ∷ ends) = at_last_node far ends

module _ (given : Given) (policy : Policy) (topology : Topology) (past rest : List Event) (event : Event)
    (b : IsBoundStretch policy topology past (event ∷ rest)) where
  abbrev w : World
  w = world_at policy topology past

  abbrev pub then : List Event
  then = past ++ event ∷ []

  pub later_bound : IsBoundStretch policy topology then rest
  later_bound = behind_front policy topology past (event ∷ []) rest b

  front_is : (front : List Event) → world_after topology w (event ∷ front) ≡ world_at policy topology (then ++ front)
  front_is front = sym (after_all topology (opened policy topology) past (event ∷ front)) ∙ ap (world_at policy topology) (sym (append_assoc past (event ∷ []) front))

  -- *What is held as it enters* is so behind each front from there on
  pub label_then : (front after : List Event) → rest ≡ front ++ after → (end : LinkEnd) (number : ℕ) (flow : FlowId) (join : Option End)
      → HoldsLabel w end number flow join → HoldsLabel (world_at policy topology (then ++ front)) end number flow join
  label_then front after e end number flow join held = subst (λ (x : World). HoldsLabel x end number flow join) (front_is front)
      (given.keep_labels policy topology past (event ∷ rest) b.calm (binds_first policy topology past (event ∷ rest) b).binds (event ∷ front) after
      (ap (λ (es : List Event). event ∷ es) e) end number flow join held)

  grant_then : (front after : List Event) → rest ≡ front ++ after → (end : LinkEnd) (number : ℕ) (flow : FlowId) (state : GrantState)
      → HoldsGrant w end number flow state → HoldsGrant (world_at policy topology (then ++ front)) end number flow state
  grant_then front after e end number flow state held = subst (λ (x : World). HoldsGrant x end number flow state) (front_is front)
      (given.keep_grants policy topology past (event ∷ rest) b.calm (binds_first policy topology past (event ∷ rest) b).binds (event ∷ front) after
      (ap (λ (es : List Event). event ∷ es) e) end number flow state held)

  behind : (front after : List Event) → rest ≡ front ++ after → IsBoundStretch policy topology (then ++ front) after
  behind front after e = behind_front policy topology then front after (subst (IsBoundStretch policy topology then) e later_bound)

  -- so their channels lead where they do
  label_leads : (one far : LinkEnd) → peer_of topology one.node one.port ≡ Some far → (number : ℕ) (flow : FlowId) (output : End)
      → HoldsLabel w far number flow (Some output) → Leads policy topology then rest far.node (label_end far.port number) output
  label_leads one far linked number flow output held = λ (front after : List Event) (e : rest ≡ front ++ after).
      let l : IsBoundStretch policy topology (then ++ front) after = behind front after e in
      given.labels_there policy topology (then ++ front) after l.stretch (binds_first policy topology (then ++ front) after l) one far linked number flow (Some output)
      (label_then front after e far number flow (Some output) held)

  last_leads : (one far : LinkEnd) → peer_of topology one.node one.port ≡ Some far → (number : ℕ) (flow : FlowId)
      → HoldsLabel w far number flow None → Leads policy topology then rest far.node (label_end far.port number) (control_end far.port number)
  last_leads one far linked number flow held = λ (front after : List Event) (e : rest ≡ front ++ after).
      let l : IsBoundStretch policy topology (then ++ front) after = behind front after e in
      given.labels_there policy topology (then ++ front) after l.stretch (binds_first policy topology (then ++ front) after l) one far linked number flow None
      (label_then front after e far number flow None held)

  pub grant_leads : (one far : LinkEnd) → peer_of topology one.node one.port ≡ Some far → (number : ℕ) (flow : FlowId) (state : GrantState)
      → HoldsGrant w one number flow state → Leads policy topology then rest one.node (control_end one.port number) (label_end one.port number)
  grant_leads one far linked number flow state held = λ (front after : List Event) (e : rest ≡ front ++ after).
      let l : IsBoundStretch policy topology (then ++ front) after = behind front after e in
      given.grants_there policy topology (then ++ front) after l.stretch (binds_first policy topology (then ++ front) after l) one far linked number flow state
      (grant_then front after e one number flow state held)

  -- *Along the way*
  pub along_of : (one far : LinkEnd) (number : ℕ) (flow : FlowId) (ends : List LinkEnd) → peer_of topology one.node one.port ≡ Some far
      → AreJoinedOn topology w far number flow ends → LeadsAlong policy topology then rest far number ends
  along_of one far number flow [] linked l = last_leads one far linked number flow l.label
  along_of one far number flow (further ∷ ends) linked j = (
    record {
      port = j.0.port;
      linked = j.0.linked;
      label = j.0.next;
      leads = label_leads one far linked number flow (label_end j.0.port j.0.next) j.0.label;
    },
    along_of (record { node = far.node; port = j.0.port }) further j.0.next (one_hop flow) ends j.0.linked j.1,
  )

  -- *At the last end*: the label that is held there, and the packet as it is there
  pub record EndsAt (at : LinkEnd) (number : ℕ) (payload : List ℕ) : Type 0 where
    pub one : LinkEnd
    pub linked : peer_of topology one.node one.port ≡ Some at
    pub flow : FlowId
    pub packet : List ℕ
    pub label : HoldsLabel w at number flow None
    pub route : best (table_in at.node w) (flow_destination flow) ≡ Some Local
    pub carries : Carries flow packet payload

  pub ends_at : (one far : LinkEnd) (number : ℕ) (flow : FlowId) (ends : List LinkEnd) (packet payload : List ℕ) (linked : peer_of topology one.node one.port ≡ Some far)
      (j : AreJoinedOn topology w far number flow ends) → length ends < flow_ttl flow → Carries flow packet payload
      → EndsAt (last_end far ends) (last_label policy topology then rest far number ends (along_of one far number flow ends linked j)) payload
  unfolding along_of
  ends_at one far number flow [] packet payload linked l lives carries = record {
    one = one;
    linked = linked;
    flow = flow;
    packet = packet;
    label = l.label;
    route = l.route;
    carries = carries;
  }
  ends_at one far number flow (further ∷ ends) packet payload linked j lives carries =
      let less : flow_ttl (one_hop flow) ≡ flow_ttl flow - 1 = less_ttl flow in
      let more : 1 < flow_ttl flow = omega (arith, lives) in
      let still : length ends < flow_ttl (one_hop flow) = omega (arith, lives, less) in
      ends_at (record { node = far.node; port = j.0.port }) further j.0.next (one_hop flow) ends (onward packet) payload j.0.linked j.1 still
      (given.carry_on flow packet payload more carries)
