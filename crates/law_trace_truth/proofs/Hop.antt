-- a cell that a switch leads across goes to the flow one hop further

use Rattle.std.proofs.Common.{◌≡◌, ◌⊎◌, inl, inr, ℕ, ◌<◌, ◌≤◌, ◌==◌, ◌&&◌, not, Bool, true, false, nat_lt, List, [], ◌∷◌, map, Option, None, Some, refl, sym, ◌∙◌, ap, ap₂, subst, arith, is_some, eq-eqb, if◌then◌else◌}
use Rattle.std.specs.Prelude.{slice_get}
use Rattle.std.specs.Option.{option_and_then, option_map, option_map_or}
use Rattle.std.proofs.lemmas.Bool.{and_parts, and_from}
use Rattle.std.proofs.lemmas.Bool.Decides.{nat_tests}
use Rattle.world_model.specs.Words.{Channel, End, NodeId, PortNo, Place, Down, Up, Out, Mark, Addr, is_label_channel, number_of_channel, label_channel_of, Cell, FlowId, next_hop_of, same_flow, IsLinkPort, at, Frame, same_mark, Policy, Setup, home_of, label_end, port_on, on_link, control_port, IsTopology, IsNode, IsPlace, IsEvent, is_linked, StandsForLast, Past, last_bound, queue_at, places, next, Topology, Node, node_at, LeadsOn, output_at, World, Site, site_at}
use Rattle.world_model.proofs.net_types.Labels.{label_channel_of-number_of_channel}
use Rattle.world_model.specs.ipv4_packet.declared.flow.FlowId.TheVariants.{One, Two}
use Rattle.world_model.specs.crossbar_model.Crossbar.{output_of, input_of}
use Rattle.law_run_facts.specs.law_label_line.Cells.{Role, Downstream, Upstream}
use Rattle.law_passing.specs.ordered_lists.Ordered.{Every}
use Rattle.law_packet_worlds.proofs.Headings.{port_is, link_is}
use Rattle.law_packet_worlds.proofs.Worlds.{port_above}
use Rattle.law_run_facts.proofs.law_port_facts.Keyed.{at_key, at_every}
use Rattle.law_run_facts.specs.law_port_facts.Port.{setup_port}
use Rattle.law_run_facts.specs.law_port_views.Link.{LinkLabel}
use Rattle.law_running_worlds.proofs.law_causes.Shown.{peer_back}
use Rattle.trace_model.specs.declared.cell.Taken.{Taken}
use Rattle.trace_model.specs.declared.cell.TraceCell.{TraceCell}
use Rattle.trace_model.specs.declared.end.TraceEnd.{TraceEnd}
use Rattle.trace_model.specs.declared.end.TraceLabel.{TraceLabel}
use Rattle.trace_model.specs.declared.line.TraceLine.TheVariants as said
use Rattle.trace_model.specs.Ends.{same_label}
use Rattle.trace_model.specs.Judgement.{misses_hop, misses_hop_from, is_at_node, is_elsewhere, is_flow, flow_from}
use Rattle.trace_model.specs.Known.{known}
use Rattle.trace_model.specs.Trace.{Trace, first_put, taken_last, flow_at}
use Rattle.trace_model.proofs.Same.{same_end-is, same_channel-is}
use Rattle.world_model.specs.network_model.declared.event.Event.{Event}
use Rattle.world_model.specs.network_model.declared.event.Event.TheVariants.{Carry}
use Rattle.world_model.specs.network_model.declared.link.LinkEnd.{LinkEnd}
use Rattle.world_model.specs.Topology.{peer_of}
use Rattle.law_run_facts.specs.law_world_views.Between.{EachSite, HasShapes, IsShapedBranch, home, out, joined, IsPortEnd, default, label, HasAllHops, IsLinkLabel, HasAddress, setups_of}
use Rattle.law_run_facts.specs.law_world_views.Shown.{way_of}
use Rattle.law_run_facts.specs.law_world_views.Pairs.{by_branch}
use Rattle.law_passing.specs.telling_model.declared.standing.Standing.{Standing}
use Rattle.law_passing.specs.telling_model.Passing.{standing, cells_put_at, cell_taken}
use Rattle.tell_trace.specs.Passages.{end_said}
use Rattle.tell_trace.specs.Trace.{port_end, taken_told}
use Rattle.law_trace_truth.specs.Law.{HasNames}
use Rattle.law_trace_truth.proofs.Lines.{queue_is}
use Rattle.law_trace_truth.proofs.Ends.{named}
use Rattle.law_trace_truth.proofs.Knows.{Knows, cell_said, label_said, after_told}
use Rattle.law_trace_truth.proofs.Puts.{Carried, KeepsHop}
use Rattle.law_trace_truth.proofs.Crossing.{PutsOn, still, crosses, IsCrossed, ComesTo}
use Rattle.law_trace_truth.proofs.Taking.{queues_of}
use Rattle.law_trace_truth.proofs.Fitting.{IsOutPlace, all_places, every_flat, every_to}
use Rattle.law_trace_truth.proofs.Event.{IsStepOf, KeepsHops}

-- *Tests*
flow_itself : (flow : FlowId) → same_flow flow flow ≡ true
flow_itself (One tos ttl protocol source destination from to) =
    and_from _ _ (and_from _ _ (itself tos) (and_from _ _ (itself ttl) (itself protocol))) (and_from _ _ (and_from _ _ (itself source.0) (itself destination.0)) (and_from _ _ (itself from) (itself to)))
  where
    itself : (n : ℕ) → (n == n) ≡ true
    itself n = eq-eqb n n refl
flow_itself (Two ttl source destination) = and_from _ _ (itself ttl) (and_from _ _ (itself source.0) (itself destination.0))
  where
    itself : (n : ℕ) → (n == n) ≡ true
    itself n = eq-eqb n n refl

label_itself : (l : TraceLabel) → same_label l l ≡ true
label_itself l = and_from _ _ (same_end-is l.end l.end refl) (same_channel-is l.channel l.channel refl)

off_label : (a b c d : Bool) → b ≡ false → ((a && b) && c) && d ≡ false
off_label true true c d e = absurd (cc e)
off_label true false c d e = refl
off_label false b c d e = refl

not_elsewhere : (a b c d : Bool) → c ≡ false → (a && (b && c)) && d ≡ false
not_elsewhere true true true d e = absurd (cc e)
not_elsewhere true true false d e = refl
not_elsewhere true false c d e = refl
not_elsewhere false b c d e = refl

one_hop : (a b : Bool) → b ≡ true → a && not b ≡ false
one_hop true true e = refl
one_hop true false e = absurd (cc e)
one_hop false b e = refl

-- *A place* of a cell that goes out of a controller, as it will be put on the link
abbrev pub heading_said : Topology → NodeId → Cell → TraceLabel
heading_said topology node cell = label_said topology (port_end node (port_on cell.header.channel)) (on_link cell.header.channel)

-- where cells of the mark were put first is there, if anywhere
abbrev pub IsFirstFrom : Topology → Trace → NodeId → Cell → Type 0
IsFirstFrom topology trace node cell = (first_put trace cell.mark ≡ None) ⊎ (first_put trace cell.mark ≡ Some (heading_said topology node cell))

-- *Branches from the control link* lead from the home of their output
linked_above : (setups : List Setup) (k : ℕ) → Every (λ (setup : Setup). IsLinkPort setup.port) setups → (o : Option Setup) → at setup_port k setups ≡ o → is_some o ≡ true → 1 ≤ k
linked_above setups k all None e some = absurd (cc some)
linked_above setups k all (Some setup) e some =
    let port = at_every setup_port (λ (s : Setup). IsLinkPort s.port) k setups setup all e in
    let key : setup_port setup ≡ k = at_key setup_port k setups setup e in
    omega (arith, port.0, key)

end_above : (setups : List Setup) → Every (λ (setup : Setup). IsLinkPort setup.port) setups → (end : End) → IsPortEnd setups end → 1 ≤ end.port.0
end_above setups all _ (default port linked) = linked_above setups port.0 all (at setup_port port.0 setups) refl linked
end_above setups all end (label _ l) = subst (λ (e : End). 1 ≤ e.port.0) (sym l.is) (linked_above setups l.setup.port.0 all (at setup_port l.setup.port.0 setups) refl (ap is_some l.linked))

pub from_home : (setups : List Setup) → Every (λ (setup : Setup). IsLinkPort setup.port) setups → (input output : End) → IsShapedBranch setups input output → input.port.0 ≡ 0 → input ≡ home_of output
from_home setups all input output (home _ e) none = absurd (omega (arith, none, end_above setups all input e))
from_home setups all input output (out _ e) none = refl
from_home setups all input output (joined _ _ i o) none = absurd (omega (arith, none, end_above setups all input (label input i)))

module _ (topology : Topology) (is : IsTopology topology) (names : HasNames topology) where
  -- *Addresses*
  address_by : Option Node → Addr
  address_by None = record { 0 = 0 }
  address_by (Some node) = node.address

  has_address : (node : NodeId) → IsNode topology node → HasAddress (node_at topology node) (address_by (node_at topology node))
  unfolding address_by
  has_address node there = (let n = named topology is names node.0 there in subst (λ (o : Option Node). HasAddress o (address_by o)) (sym n.1) refl)

  module _ (policy : Policy) (past later : Past) (event : Event) (step : IsStepOf policy topology past later event)
      (shapes : EachSite past.now (HasShapes past.now)) (hops : HasAllHops past) (frames : List Frame) (marks : List Mark) (trace : Trace)
      (k : Knows topology (queues_of past.now) past.records frames marks trace)
      (from : (node : NodeId) (cell : Cell) (cells : List Cell) → IsNode topology node → queue_at past.now (Down node) ≡ cell ∷ cells → is_label_channel (on_link cell.header.channel) ≡ true
      → IsFirstFrom topology trace node cell) where
    abbrev w : World
    w = past.now

    abbrev F : List Frame
    F = (next topology past.now event).notes.frames

    label_of : (channel : Channel) → is_label_channel channel ≡ true → label_channel_of (number_of_channel channel) ≡ channel
    label_of channel e = label_channel_of-number_of_channel channel e

    -- *From a link*
    crossed_hop : (node : NodeId) (port : PortNo) (cell : Cell) → IsNode topology node → 1 ≤ port.0 → is_label_channel cell.header.channel ≡ true
        → (end : LinkEnd) → IsNode topology end.node → (c : Cell) → IsCrossed w node port cell end c → is_label_channel c.header.channel ≡ true → (carried : Carried topology past.records F end c)
        → is_flow carried.flow (option_and_then next_hop_of (last_bound past.records (record { node = node; port = port }) (number_of_channel cell.header.channel))) ≡ true
    crossed_hop node port cell there some came end here c crossed is_label carried =
        let back = peer_back topology is end carried.far carried.peer in
        let number : ℕ = number_of_channel c.header.channel in
        let link : LinkLabel = record {
          node = λ role. by_role role end.node carried.far.node;
          port = λ role. by_port role end.port carried.far.port;
          address = λ role. address_by (node_at topology (by_role role end.node carried.far.node));
          label = number;
        } in
        let own : end.node ≡ node = λ i. record { 0 = crossed.here i } in
        let output : crossed.output ≡ label_end end.port number = ends crossed.output end.port number crossed.to_port (sym crossed.channel ∙ sym (label_of c.header.channel is_label)) in
        let pair : output_at w end.node (input_of port cell) ≡ Some (label_end end.port number) = ap (λ (n : NodeId). output_at w n (input_of port cell)) own ∙ crossed.is_output ∙ ap Some output in
        let good : IsLinkLabel past.topology link = subst (λ (t : Topology). IsLinkLabel t link) (sym step.same_topology) (record {
          way = record { downstream = carried.peer; upstream = back.back };
          address = λ role. by_address role end.node carried.far.node here back.node;
          label = ap is_label_channel (label_of c.header.channel is_label) ∙ is_label;
        }) in
        let stands : StandsForLast past (way_of link) number _ = hops link good (input_of port cell) some (by_branch pair) in
        let leads : LeadsOn past (way_of link) (input_of port cell) stands.flow = stands.stands in
        let same_number : number_of_channel cell.header.channel ≡ leads.label = some_is (sym (ap (λ (b : Bool). if b then Some (number_of_channel cell.header.channel) else None) came) ∙ leads.numbered) in
        let flow : stands.flow ≡ carried.flow = flow_is (sym stands.bound ∙ carried.bound) in
        let bound : last_bound past.records (record { node = node; port = port }) (number_of_channel cell.header.channel) ≡ Some leads.joined =
        ap₂ (λ (n : NodeId) (l : ℕ). last_bound past.records (record { node = n; port = port }) l) (sym own) same_number ∙ leads.bound in
        ap (λ (o : Option FlowId). is_flow carried.flow (option_and_then next_hop_of o)) bound
        ∙ ap (is_flow carried.flow) leads.onward
        ∙ ap (λ (f : FlowId). same_flow f carried.flow) flow
        ∙ flow_itself carried.flow
      where
        by_role : Role → NodeId → NodeId → NodeId
        by_role Upstream up down = up
        by_role Downstream up down = down

        by_port : Role → PortNo → PortNo → PortNo
        by_port Upstream up down = up
        by_port Downstream up down = down

        by_address : (role : Role) (up down : NodeId) → IsNode topology up → IsNode topology down → HasAddress (node_at topology (by_role role up down)) (address_by (node_at topology (by_role role up down)))
        by_address Upstream up down a b = has_address up a
        by_address Downstream up down a b = has_address down b

        ends : (output : End) (port : PortNo) (number : ℕ) → output.port.0 ≡ port.0 → output.channel ≡ label_channel_of number → output ≡ label_end port number
        ends output port number e f = λ i. record { port = record { 0 = e i }; channel = f i }

        some_is : {m n : ℕ} → Some m ≡ Some n → m ≡ n
        some_is e = cc e

        flow_is : {m n : FlowId} → Some m ≡ Some n → m ≡ n
        flow_is e = cc e

    -- the cell that was taken last goes by the label that it came by
    taken_hop : (source : NodeId) (number : PortNo) (node : NodeId) (port : PortNo) (cell : Cell) (cells : List Cell) → IsNode topology source → (is_linked topology source number ≡ true)
        → queue_at w (Out source number) ≡ cell ∷ cells → peer_of topology source number ≡ Some (let far : LinkEnd = record { node = node; port = port } in far)
        → (end : LinkEnd) → IsNode topology end.node → (c : Cell) → IsCrossed w node port cell end c → is_label_channel c.header.channel ≡ true → (carried : Carried topology past.records F end c)
        → misses_hop (known (said.Take (end_said topology (port_end source number)) ∷ trace)) (label_said topology end c.header.channel) c.mark carried.flow ≡ false
    taken_hop source number node port cell cells own linked head peer end here c crossed is_label carried = ap (λ (o : Option Taken). option_map_or (misses_hop_from (known (said.Take (end_said topology (port_end source number)) ∷ trace)) (label_said topology end c.header.channel) c.mark carried.flow) o false) last ∙ by (is_label_channel cell.header.channel) refl
      where
        last : taken_last (said.Take (end_said topology (port_end source number)) ∷ trace) ≡ Some (record { end = end_said topology (port_end source number); cell = cell_said cell })
        last = ap (λ (q : List TraceCell). option_map (λ (x : TraceCell). (let t : Taken = record { end = end_said topology (port_end source number); cell = x } in t)) (slice_get q 0))
            (queue_is trace (end_said topology (port_end source number)) (map cell_said (queue_at w (Out source number))) (k.queue (port_end source number) (own, linked)) ∙ ap (map cell_said) head)

        flow : is_label_channel cell.header.channel ≡ true → flow_from (known (said.Take (end_said topology (port_end source number)) ∷ trace)) (end_said topology (port_end source number)) cell.header.channel
            ≡ last_bound past.records (record { node = node; port = port }) (number_of_channel cell.header.channel)
        flow e = ap (λ (o : Option TraceEnd). option_and_then (λ peer. flow_at trace (record { end = peer; channel = cell.header.channel })) o) (k.peers (port_end source number) (record { node = node; port = port }) own peer)
            ∙ k.flow (record { node = node; port = port }) cell.header.channel (peer_back topology is (port_end source number) (record { node = node; port = port }) peer).node e

        by : (b : Bool) → is_label_channel cell.header.channel ≡ b → misses_hop_from (known (said.Take (end_said topology (port_end source number)) ∷ trace)) (label_said topology end c.header.channel) c.mark carried.flow (record { end = end_said topology (port_end source number); cell = cell_said cell }) ≡ false
        by false e = off_label (same_mark cell.mark c.mark) (is_label_channel cell.header.channel) _ _ e
        by true e = one_hop _ _ (ap (λ (o : Option FlowId). is_flow carried.flow (option_and_then next_hop_of o)) (flow e)
            ∙ crossed_hop node port cell (peer_back topology is (port_end source number) (record { node = node; port = port }) peer).node (peer_back topology is (port_end source number) (record { node = node; port = port }) peer).port.0 e end here c crossed is_label carried)

    -- *From a controller* the first cell of the mark was put there, if any was
    home_hop : (node : NodeId) (cell : Cell) (cells : List Cell) → IsNode topology node → queue_at w (Down node) ≡ cell ∷ cells → (end : LinkEnd) → (c : Cell) → IsCrossed w node control_port cell end c → is_label_channel c.header.channel ≡ true
        → (flow : FlowId) → misses_hop (known trace) (label_said topology end c.header.channel) c.mark flow ≡ false
    home_hop node cell cells there head end c crossed is_label flow = by_taken (taken_last trace)
      where
        shaped : (o : Option Site) → site_at w node ≡ o → option_and_then (λ (s : Site). output_of s.switch.crossbar.branches (input_of control_port cell)) o ≡ Some crossed.output → input_of control_port cell ≡ home_of crossed.output
        shaped None found e = absurd (cc e)
        shaped (Some site) found e =
            from_home (setups_of site.controller) (step.nodes node site found).ports.links (input_of control_port cell) crossed.output
            ((shapes node site found).branches (input_of control_port cell) crossed.output e) refl

        homed : input_of control_port cell ≡ home_of crossed.output
        homed = shaped (site_at w node) refl crossed.is_output

        channel : cell.header.channel ≡ (home_of crossed.output).channel
        channel = ap (λ (e : End). e.channel) homed

        low : crossed.output.channel.vpi < 16
        low = (let parts = and_parts (nat_lt crossed.output.channel.vpi 16) _ (subst (λ (ch : Channel). is_label_channel ch ≡ true) crossed.channel is_label) in (let e = parts.0 in grind (arith, nat_tests, e)))

        on_port : port_on cell.header.channel ≡ crossed.output.port
        on_port = ap port_on channel ∙ port_is crossed.output.port crossed.output.channel low

        link_channel : on_link cell.header.channel ≡ c.header.channel
        link_channel = ap on_link channel ∙ link_is crossed.output.port crossed.output.channel low ∙ sym crossed.channel

        same_end_there : port_end node (port_on cell.header.channel) ≡ end
        same_end_there =
            let p : (port_on cell.header.channel).0 ≡ end.port.0 = ap (λ (q : PortNo). q.0) on_port ∙ crossed.to_port in
            λ i. record { node = record { 0 = sym crossed.here i }; port = record { 0 = p i } }

        place : heading_said topology node cell ≡ label_said topology end c.header.channel
        place = ap₂ (label_said topology) same_end_there link_channel

        elsewhere : is_elsewhere (label_said topology end c.header.channel) (first_put trace c.mark) ≡ false
        elsewhere = by (from node cell cells there head (ap is_label_channel link_channel ∙ is_label))
          where
            by : IsFirstFrom topology trace node cell → is_elsewhere (label_said topology end c.header.channel) (first_put trace c.mark) ≡ false
            by (inl none) = ap (is_elsewhere (label_said topology end c.header.channel)) (ap (first_put trace) crossed.mark ∙ none)
            by (inr own) = ap (is_elsewhere (label_said topology end c.header.channel)) (ap (first_put trace) crossed.mark ∙ own ∙ ap Some place)
                ∙ ap not (label_itself (label_said topology end c.header.channel))

        by_taken : (o : Option Taken) → option_map_or (misses_hop_from (known trace) (label_said topology end c.header.channel) c.mark flow) o false ≡ false
        by_taken None = refl
        by_taken (Some took) = not_elsewhere (same_mark took.cell.mark c.mark && is_label_channel took.cell.channel) (is_at_node (end_said topology end) _) (is_elsewhere (label_said topology end c.header.channel) (first_put trace c.mark)) _ elsewhere

    -- *So no put misses one*
    told_by : Event → Trace
    told_by e = after_told topology trace (taken_told e (cell_taken w e))

    one_keeps : (source : Place) (node : NodeId) (port : PortNo) (cell : Cell) (cells : List Cell) → IsPlace topology source → ComesTo topology source node port → queue_at w source ≡ cell ∷ cells
        → (at_node : NodeId) (number : PortNo) → IsNode topology at_node → (c : Cell) → IsCrossed w node port cell (port_end at_node number) c
        → KeepsHop topology past.records F (told_by (Carry source)) (Out at_node number) c
    unfolding told_by
    one_keeps (Down other) node port cell cells there comes head at_node number here c crossed = λ is_label carried.
        home_hop other cell cells there head (port_end at_node number) c
        (subst (λ (p : PortNo). IsCrossed w other p cell (port_end at_node number) c) comes.1 (subst (λ (n : NodeId). IsCrossed w n port cell (port_end at_node number) c) (sym comes.0) crossed))
        is_label carried.flow
    one_keeps (Up other) node port cell cells there comes head at_node number here c crossed = absurd comes
    one_keeps (Out other link) node port cell cells there comes head at_node number here c crossed = λ is_label carried.
        ap (λ (q : List Cell). misses_hop (known (after_told topology trace (taken_told (Carry (Out other link)) (option_map (standing (Out other link)) (slice_get q 0))))) (label_said topology (port_end at_node number) c.header.channel) c.mark carried.flow) head
        ∙ taken_hop other link node port cell cells there.0 there.1 head comes (port_end at_node number) here c crossed is_label carried

    keep_at : (place : Place) → IsOutPlace topology place → Every (KeepsHop topology past.records F (told_by event) place) (cells_put_at topology w event place)
    keep_at (Down node) there = all_fine (cells_put_at topology w event (Down node))
      where
        all_fine : (cells : List Cell) → Every (KeepsHop topology past.records F (told_by event) (Down node)) cells
        all_fine [] = tt
        all_fine (cell ∷ cells) = (tt, all_fine cells)
    keep_at (Up node) there = all_fine (cells_put_at topology w event (Up node))
      where
        all_fine : (cells : List Cell) → Every (KeepsHop topology past.records F (told_by event) (Up node)) cells
        all_fine [] = tt
        all_fine (cell ∷ cells) = (tt, all_fine cells)
    keep_at (Out node number) there = by step.on
      where
        some : 1 ≤ number.0
        some = (port_above topology is node number there.1).0

        by : PutsOn topology w event → Every (KeepsHop topology past.records F (told_by event) (Out node number)) (cells_put_at topology w event (Out node number))
        by (still nothing) = subst (Every (KeepsHop topology past.records F (told_by event) (Out node number))) (sym (nothing (port_end node number) some)) tt
        by (crosses c) = each (cells_put_at topology w event (Out node number)) (c.puts (port_end node number) some)
          where
            meant : IsPlace topology c.source
            meant = subst (IsEvent topology w) c.carries step.meant

            each : (cells : List Cell) → Every (IsCrossed w c.node c.port c.cell (port_end node number)) cells → Every (KeepsHop topology past.records F (told_by event) (Out node number)) cells
            each [] all = tt
            each (x ∷ cells) all = (
              subst (λ (e : Event). KeepsHop topology past.records F (told_by e) (Out node number) x) (sym c.carries)
                  (one_keeps c.source c.node c.port c.cell c.cells meant c.comes c.head node number there.0 x all.0),
              each cells all.1,
            )

    pub keeps_hops : KeepsHops topology past (next topology past.now event) event trace
    unfolding told_by
    keeps_hops = every_flat (λ (s : Standing). KeepsHop topology past.records F (told_by event) s.place s.cell) (λ place. map (standing place) (cells_put_at topology w event place)) (places w)
        (each (places w) (all_places policy topology is past step.same_topology step.net step.nodes))
      where
        each : (ps : List Place) → Every (IsOutPlace topology) ps
            → Every (λ (place : Place). Every (λ (s : Standing). KeepsHop topology past.records F (told_by event) s.place s.cell) (map (standing place) (cells_put_at topology w event place))) ps
        each [] all = tt
        each (place ∷ ps) all = (
          every_to (KeepsHop topology past.records F (told_by event) place) (λ (s : Standing). KeepsHop topology past.records F (told_by event) s.place s.cell) (standing place) (cells_put_at topology w event place) (λ cell h. h) (keep_at place all.0),
          each ps all.1,
        )
