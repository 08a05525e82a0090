use Rattle.topology.proofs.plan.Plan.line.Goals as goal

pub returns-in-Node : goal.returns-in-Node
returns-in-Node c = rw c.in-Node.is (rw c.as_slice.ensures at c.node_line.ensures)

pub returns-in-Ok : goal.returns-in-Ok
returns-in-Ok c = rw c.in-Cells.is (rw c.as_slice-in-Cells.ensures at c.in-Ok.ensures)

pub returns-in-Err : goal.returns-in-Err
returns-in-Err c = rw c.in-Cells.is (rw c.as_slice-in-Cells.ensures at c.in-Err.ensures)

pub returns-in-Labels : goal.returns-in-Labels
returns-in-Labels c = rw c.in-Labels.is (rw c.as_slice-in-Labels.ensures at c.labels_line.ensures)

pub returns-in-Link : goal.returns-in-Link
returns-in-Link c = rw c.in-Link.is (rw (c.as_slice-in-Link.ensures, c.as_slice-in-Link-2.ensures) at c.link_line.ensures)

pub returns-in-RouteVia : goal.returns-in-RouteVia
returns-in-RouteVia c = rw c.in-RouteVia.is (rw c.as_slice-in-RouteVia.ensures at c.route_line.ensures)

pub returns-in-RouteLocal : goal.returns-in-RouteLocal
returns-in-RouteLocal c = rw c.in-RouteLocal.is (rw c.as_slice-in-RouteLocal.ensures at c.route_line-in-RouteLocal.ensures)
