-- How the code keeps a grant: its state is a type. No claim needs this file.

use Rattle.branch_desk.specs.port_model.Grants.{Grant, Idle, ByController, ByInput, Leaving}
use Rattle.grant_table.specs.declared.held.Held.{Held}
use Rattle.grant_table.specs.declared.held.Held.TheVariants as held

abbrev pub shown : Held → Grant
shown (held.Idle g) = record { label = g.label; flow = g.flow; lifetime = g.lifetime; state = Idle }
shown (held.ByController g) = record { label = g.label; flow = g.flow; lifetime = g.lifetime; state = ByController }
shown (held.ByInput g) = record { label = g.label; flow = g.flow; lifetime = g.lifetime; state = ByInput g.state.input }
shown (held.Leaving g) = record { label = g.label; flow = g.flow; lifetime = g.lifetime; state = Leaving g.state.input g.state.owed }
