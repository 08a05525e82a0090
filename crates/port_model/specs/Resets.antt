-- The resets of a port. A port is reset by its adjacency's table, by silence, and where its numbers are
-- spent; a node reset or a restart of the node takes every port with it.

use Rattle.std.specs.Prelude.{ℕ, true, false, ◌+◌, List, [], ◌∷◌, ◌++◌, map, flat_map, Option, None, Some}
use Rattle.adjacency_table.specs.declared.State.TheVariants.{Clearing, SynSent}
use Rattle.adjacency_table.specs.Side.{Side, fresh}
use Rattle.gsmp_wire.specs.declared.request.Request.TheVariants.{DeleteAll}
use Rattle.link_model.specs.declared.record.Record.TheVariants.{Closed}
use Rattle.net_types.specs.declared.adjacency.Peer.{Peer}
use Rattle.port_model.specs.declared.action.Action.{Action}
use Rattle.port_model.specs.declared.action.Action.TheVariants.{Ask, Note, CutChain, TakeBack, Withdraw}
use Rattle.port_model.specs.Setup.{Setup, label_end, control_end}
use Rattle.port_model.specs.Grants.{Grant, GrantState, Idle, ByController, ByInput, Leaving}
use Rattle.port_model.specs.Port.{Port, Session, Work}

-- the side begins anew, in Clearing, under the next instance
abbrev pub next_side : Setup → (instances : ℕ) → Side Peer
next_side setup instances =
    fresh Clearing (record { instance = record { 0 = instances + 1 }; address = setup.address })

-- a session ends: its pool is given up, and the chains of its labels' channels are cut
abbrev pub closing : Setup → Option Session → List Action
closing setup None = []
closing setup (Some s) = Note (Closed setup.node setup.port) ∷ map (λ label. CutChain label.number) s.labels

-- a port reset: a grant that no input is joined to ends; one that is lent is to end when its input is
-- released, owing nothing, and its join is taken back
abbrev pub left_in : Grant → GrantState → List Grant
left_in grant Idle = []
left_in grant ByController = []
left_in grant (ByInput input) = record grant { state = Leaving input false } ∷ []
left_in grant (Leaving input owed) = record grant { state = Leaving input false } ∷ []

abbrev pub left_of : Grant → List Grant
left_of grant = left_in grant grant.state

abbrev pub taking_back_in : Setup → Grant → GrantState → List Action
taking_back_in setup grant (ByInput input) = TakeBack input (label_end setup.port grant.label) ∷ []
taking_back_in setup grant state = []

abbrev pub taking_back : Setup → Grant → List Action
taking_back setup grant = taking_back_in setup grant grant.state

-- the requests for branches of the grants that end are withdrawn; one that an ended grant has left standing
-- stays
abbrev pub withdrawing_in : Setup → (label : ℕ) → GrantState → List Action
withdrawing_in setup label Idle = Withdraw (control_end setup.port label) ∷ []
withdrawing_in setup label ByController = Withdraw (control_end setup.port label) ∷ []
withdrawing_in setup label state = []

abbrev pub withdrawing_of : Setup → Grant → List Action
withdrawing_of setup grant = withdrawing_in setup grant.label grant.state

abbrev pub withdrawing : Setup → List Grant → List Action
withdrawing setup grants = flat_map (withdrawing_of setup) grants

-- then Delete All of the port is asked
abbrev pub resets : Setup → Work → Work
resets setup w = record {
  port = record w.port {
    adjacency = next_side setup w.instances;
    session = None;
    grants = flat_map left_of w.port.grants;
  };
  actions = w.actions ++ (closing setup w.port.session ++ (withdrawing setup w.port.grants
      ++ (flat_map (taking_back setup) w.port.grants ++ Ask (DeleteAll setup.port) true ∷ [])));
  halted = w.halted;
  instances = w.instances + 1;
}

-- the port's part of a node reset or restart: no grant is left, and nothing is asked
abbrev pub restarts : Setup → Work → Work
restarts setup w = record {
  port = record w.port { adjacency = next_side setup w.instances; session = None; grants = [] };
  actions = w.actions ++ closing setup w.port.session;
  halted = w.halted;
  instances = w.instances + 1;
}

-- the port is cleared: no branch of the switch is left of what its peer knew, and it may greet its peer
abbrev pub cleared : Port → Port
cleared port = record port { adjacency = record port.adjacency { state = SynSent } }
