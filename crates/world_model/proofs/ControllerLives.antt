-- worked lives of a controller: which joins it makes, and what its last transaction number does

use Rattle.std.proofs.Common.{◌≡◌, ℕ, ◌==◌, true, false, List, [], ◌∷◌, map, None, Some, refl, if◌then◌else◌}
use Rattle.network_model.specs.net_types.declared.prefix.Addr.{Addr}
use Rattle.network_model.specs.net_types.declared.node.PortNo.{PortNo}
use Rattle.network_model.specs.net_types.declared.channel.End.{End}
use Rattle.network_model.specs.ipv4_forward.declared.table.Next.TheVariants.{Local, Via}
use Rattle.network_model.specs.ipv4_forward.declared.table.Route.{Route}
use Rattle.network_model.specs.ipv4_packet.declared.flow.FlowId.{FlowId}
use Rattle.network_model.specs.ipv4_packet.declared.flow.FlowId.TheVariants.{One, Two}
use Rattle.network_model.specs.adjacency_table.declared.State.TheVariants.{SynSent, Estab}
use Rattle.network_model.specs.gsmp_wire.declared.request.Request.TheVariants.{DeleteTree, DeleteAll, MoveBranch}
use Rattle.network_model.specs.link_model.Notes.{Journal}
use Rattle.network_model.specs.port_model.Setup.{Policy, label_end, home_of}
use Rattle.network_model.specs.port_model.Grants.{Grant, GrantState, Idle, ByController, ByInput, Leaving}
use Rattle.world_model.specs.controller_model.declared.range.PortRange.{PortRange}
use Rattle.world_model.specs.Controller.{Controller, Acted, Linked}
use Rattle.world_model.specs.Opening.{opened}
use Rattle.world_model.specs.Asking.{asks}
use Rattle.world_model.specs.Joins.{Join, join_for, joins_of, released_inputs}
use Rattle.world_model.specs.Routes.{differs}

abbrev port : ℕ → PortNo
port n = record { 0 = n }

abbrev address : ℕ → Addr
address n = record { 0 = n }

-- 10.0.3.0/24 by port 2, and 10.0.4.0/24 here
abbrev table : List Route
table =
    record { prefix = record { addr = address 167772928; len = 24 }; next = Via (port 2) }
    ∷ record { prefix = record { addr = address 167773184; len = 24 }; next = Local } ∷ []

abbrev range : ℕ → PortRange
range n = record { port = port n; lo = 32; hi = 95 }

abbrev policy : Policy
policy = record { offers = λ flow packets. false; keeps = λ flow idle. true }

abbrev fresh : Controller
fresh = opened (record { 0 = 1 }) (address 1) table (range 1 ∷ range 2 ∷ []) 16
    (record { lifetime = 60; refresh = 20; window = 10 }) policy (record { instances = 0; controls = 0 })

-- its instance is the first, and its ports' the next ones
instances_are : (fresh.adjacency.own.instance.0 ≡ 1) × (map (λ (x : Linked). x.port.adjacency.own.instance.0) fresh.ports ≡ 2 ∷ 3 ∷ [])
instances_are = (refl, refl)

abbrev grants : List Grant → Linked → Linked
grants gs linked = record linked { port = record linked.port { grants = gs } }

-- port 2 has these grants
abbrev with_grants : List Grant → Controller
with_grants gs = record fresh { ports = map (λ (x : Linked). if x.setup.port.0 == 2 then grants gs x else x) fresh.ports }

-- a flow to 10.0.3.1, of type 1 and of type 2
abbrev connection : (ttl : ℕ) → FlowId
connection ttl = One 0 ttl 17 (address 1) (address 167772929) 5001 5002

abbrev hosts : (ttl : ℕ) → FlowId
hosts ttl = Two ttl (address 1) (address 167772929)

abbrev grant : FlowId → GrantState → Grant
grant flow state = record { label = 40; flow = flow; lifetime = 60; state = state }

abbrev input : End
input = label_end (port 1) 32

-- *Which join*: none at Time To Live 1; none by a grant of the other type, of the same Time To Live, or that is idle;
-- by one of the flow one hop further it is
at_its_end : join_for (with_grants (grant (connection 0) ByController ∷ [])) input (connection 1) ≡ None
at_its_end = refl

of_other_type : join_for (with_grants (grant (hosts 3) ByController ∷ [])) input (connection 4) ≡ None
of_other_type = refl

of_same_ttl : join_for (with_grants (grant (connection 4) ByController ∷ [])) input (connection 4) ≡ None
of_same_ttl = refl

of_idle : join_for (with_grants (grant (connection 3) Idle ∷ [])) input (connection 4) ≡ None
of_idle = refl

of_next_hop : join_for (with_grants (grant (connection 3) ByController ∷ [])) input (connection 4)
    ≡ Some (record { input = input; port = port 2; grant = grant (connection 3) ByController })
of_next_hop = refl

-- *Which inputs an answer releases*: the one that was led back, or all of the port
abbrev joined : Controller
joined = with_grants (record (grant (connection 3) (ByInput (label_end (port 1) 33))) { label = 41 }
    ∷ grant (connection 3) (Leaving input false) ∷ [])

joins_are : map (λ (j : Join). j.input) (joins_of joined) ≡ input ∷ label_end (port 1) 33 ∷ []
joins_are = refl

deleted_releases : released_inputs joined (DeleteTree input) ≡ input ∷ []
deleted_releases = refl

moved_releases : released_inputs joined (MoveBranch input (label_end (port 2) 40) (home_of input)) ≡ input ∷ []
moved_releases = refl

joining_releases : released_inputs joined (MoveBranch input (home_of input) (label_end (port 2) 40)) ≡ []
joining_releases = refl

all_release : released_inputs joined (DeleteAll (port 1)) ≡ input ∷ label_end (port 1) 33 ∷ []
all_release = refl

other_port : released_inputs joined (DeleteAll (port 2)) ≡ []
other_port = refl

-- *A change of routes* leads a flow elsewhere, whatever its Time To Live
removed_differs : differs table (record { prefix = record { addr = address 167772928; len = 24 }; next = None }) (address 167772929) ≡ true
removed_differs = refl

kept_stays : differs table (record { prefix = record { addr = address 167772928; len = 24 }; next = Some (Via (port 2)) }) (address 167772929) ≡ false
kept_stays = refl

-- *The last transaction number* isn't used: the node is reset, under the next instances
abbrev no_notes : Journal
no_notes = record { records = []; entries = []; frames = [] }

abbrev at_end : Acted
at_end = record {
  controller = record fresh {
    adjacency = record fresh.adjacency { state = Estab };
    desk = record fresh.desk { next = 4294967295 };
    has_met = true;
  };
  notes = no_notes;
  numbers = record { instances = 3; controls = 0 };
}

abbrev after_end : Acted
after_end = asks at_end (DeleteTree input)

reset_is : (after_end.controller.adjacency.state ≡ SynSent) × (after_end.controller.adjacency.own.instance.0 ≡ 4)
    × (after_end.controller.has_met ≡ false) × (after_end.controller.queue ≡ []) × (after_end.numbers.instances ≡ 6)
reset_is = (refl, refl, refl, refl, refl)
