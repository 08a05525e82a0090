-- each thing that comes to a controller: a cell, a tick, a restart, a packet, a change of routes

use Rattle.std.proofs.Common.{◌≡◌, ◌≢◌, ℕ, ◌≤◌, ◌<◌, Bool, true, false, not, List, [], ◌∷◌, ◌++◌, fold, length, Option, None, Some, Result, Ok, zero, suc, refl, sym, ◌∙◌, ap, subst, arith, if◌then◌else◌}
use Rattle.std.specs.Prelude.{nat_le, nat_lt, take}
use Rattle.std.specs.Option.{option_and_then}
use Rattle.law_branch_shapes.specs.world_model.Words.{Party, Channel, PortNo, Mark, Answer, Quiet, Send, Open, Said, is_estab, ticked, Cell, IsLinkPort, hop_of, onward, Hop, Here, On, kind_of, default_payload, labelled_payload, Frame, PoolFull, Delivered, Dropped, Loss, payload_of, Journal, noted, last_mark, payload_in, next_mark, tested_by, Reassembly, marks_of, most_cells, passed_over, without_slot, too_long, nothing_taken, cut, Standing, last_transaction, sent_again, Setup, control_end, Grant, Linked, linked_at, default_channel, default_home, sends_control, sends_request, begins, cuts_default_of, cuts_default, cuts_gsmp, node_resets, node_restarts, Rule, at_port, tries_joins, is_control, sends_next, goes_by, grant_by, forwards_packet, ForGsmp, port_on, on_link, same_channel, taker_at, takes_cell, sends_again, ticks_port, ticks_ports, ticks_by, gsmp_of, gsmp_under}
use Rattle.law_branch_shapes.specs.world_model.adjacency_table.declared.message.Answer.TheVariants.{Reset}
use Rattle.law_branch_shapes.specs.world_model.adjacency_table.Side as sides
use Rattle.law_branch_shapes.specs.world_model.ipv4_forward.declared.outcome.Hop.TheVariants.{NoRoute, Expired}
use Rattle.law_branch_shapes.specs.world_model.gsmp_wire.declared.fault.Fault.{Fault}
use Rattle.law_branch_shapes.specs.world_model.gsmp_wire.declared.message.Message.{Message}
use Rattle.law_branch_shapes.specs.world_model.gsmp_wire.Fields.{decoded}
use Rattle.law_branch_shapes.specs.world_model.link_model.declared.record.DropCause.TheVariants as drops
use Rattle.law_branch_shapes.specs.world_model.frame_model.Frame.{octets_of}
use Rattle.law_branch_shapes.specs.world_model.frame_model.Reassembly.{Taken, taken, cell_joined}
use Rattle.law_frame_readings.specs.ordered_lists.Ordered.{Every}
use Rattle.law_frame_readings.proofs.ordered_lists.Every.{every_join}
use Rattle.law_branch_shapes.specs.world_model.port_model.Ticks as port_ticks
use Rattle.law_frame_readings.specs.law_port_facts.Port.{IsShaped}
use Rattle.law_frame_readings.proofs.law_port_facts.Hearings.{ticks_goes}
use Rattle.law_frame_readings.proofs.law_port_facts.Keyed.{on_both, on_each}
use Rattle.law_frame_readings.proofs.law_port_facts.Steps.{Goes}
use Rattle.law_frame_readings.proofs.law_port_facts.Turns.{ticked_turns}
use Rattle.law_branch_shapes.specs.world_model.Controller.{Acted, free_slots, ports_of}
use Rattle.law_branch_shapes.specs.world_model.Sending.{sends}
use Rattle.law_branch_shapes.specs.world_model.Packets.{forwarded}
use Rattle.law_branch_shapes.specs.world_model.Gsmp.{steps}
use Rattle.law_branch_shapes.specs.world_model.Cells.{after_test, ends_frame, after_cell, cell_comes}
use Rattle.law_branch_shapes.specs.world_model.Ticks.{ticks}
use Rattle.law_frame_readings.proofs.law_controller_facts.Moves.{ages, by_rule, gathering, moves_to, moves_ports}
use Rattle.law_frame_readings.proofs.law_controller_facts.Laws.{has_ports, moves_sound}
use Rattle.law_frame_readings.proofs.law_controller_facts.Events.{ticks_ports_goes}
use Rattle.law_input_events.proofs.law_controller.Whole.{Whole, numbered_whole}
use Rattle.law_input_events.proofs.law_controller.Events.{steps_holds, sends_again_holds, ticks_port_holds}
use Rattle.law_branch_shapes.specs.world_model.Ways.{ok_of as heard}
use Rattle.law_input_events.specs.law_input_steps.Hearing.{IsEnded, PassesTrue}
use Rattle.law_input_events.proofs.law_input_steps.Resets.{note_still}
use Rattle.law_input_events.specs.Coming.{IsNext, GoesByLinks, IsFromSwitch}
use Rattle.law_input_events.proofs.Cells.{IsKept, other_cell_leads}
use Rattle.law_input_events.proofs.Packets.{control_apart, home_apart}
use Rattle.law_frame_readings.proofs.law_shown_cells.Tested.{broken_frames, cut_frames, frame_is, last_is, passed_frames}
use Rattle.law_running_worlds.specs.Mode.{Mode, Told, Untold}
use Rattle.law_running_worlds.proofs.Asking.{Queued, still_fine, node_fine, request_fine, elsewhere_fine, packet_fine, at_port_fine}
use Rattle.law_running_worlds.proofs.Joining.{Well, tries_joins_well}
use Rattle.law_running_worlds.specs.Calls.{in_mode}
use Rattle.law_running_worlds.proofs.Answers.{Goes as Ends, steps_go, holds_go}
use Rattle.law_running_worlds.proofs.Mild.{rule_allowed}

below_last : (m n : ℕ) → m < n → n ≤ last_transaction → m < last_transaction
below_last m n less le = omega (arith, less, le)

module _ (setups : List Setup) (links : Every (λ (setup : Setup). IsLinkPort setup.port) setups) (Old : Cell → Type 0) (Gathered : Cell → Type 0) (began : List Frame) (marks : ℕ) where
  abbrev In : Mode → Acted → Type 0
  In = Well setups links Old Gathered began marks

  abbrev End : Acted → Type 0
  End = Ends setups links Old Gathered began marks

  unmet_in : (m : Mode) (a : Acted) → In m a → m ≡ Untold → a.controller.has_met ≡ false
  unmet_in Told a h e = absurd (cc e)
  unmet_in Untold a h e = h.knows.0

  -- *A rule of a port*
  ruled : (m : Mode) (a : Acted) (port : PortNo) (rule : Rule)
      → ((linked : Linked) → linked_at a.controller port ≡ Some linked → Goes linked.setup a.controller.desk (begins a linked) (rule linked.setup a.controller.desk (begins a linked)))
      → Whole setups a → In m a → In m (at_port a port rule)
  ruled m a port rule rule_goes whole h = at_port_fine setups links Old Gathered began marks m a port rule (has_ports setups a whole.sound)
      (λ linked found. by_rule (rule linked.setup a.controller.desk (begins a linked)) (rule_goes linked found))
      (λ linked found. rule_allowed setups a whole m (unmet_in m a h) port linked (rule linked.setup a.controller.desk (begins a linked)) found (rule_goes linked found)) h

  -- *A packet* that is sent on
  next_in : (m : Mode) (a : Acted) (came : Mark) (channel : Channel) (payload : List ℕ) → channel ≢ default_channel → IsNext a.notes.frames came → In m a → In m (sends_next a came channel payload)
  next_in m a came channel payload apart next h = on_each (In m) (is_control came) (sends_control a channel payload) (sends a channel (next_mark came) payload)
      (λ t. elsewhere_fine setups links Old Gathered began marks m a channel payload apart h) (λ other. packet_fine setups links Old Gathered began marks m a channel (next_mark came) payload apart (next other).0 h)

  goes_in : (m : Mode) (a : Acted) (came : Mark) (port : PortNo) (packet : List ℕ) (o : Option Grant) → 1 ≤ port.0 → IsNext a.notes.frames came → In m a → In m (goes_by a came port packet o)
  goes_in m a came port packet None above next h = next_in m a came (default_home port).channel (default_payload packet) (home_apart port above) next h
  goes_in m a came port packet (Some grant) above next h = next_in m a came (control_end port grant.label).channel (labelled_payload (kind_of grant.flow) packet) (control_apart port grant.label above) next h

  forwarded_in : (m : Mode) (a : Acted) (came : Mark) (packet : List ℕ) (hop : Hop) → ((port : PortNo) → hop ≡ On port → 1 ≤ port.0) → IsNext a.notes.frames came → In m a → In m (forwarded a came packet hop)
  forwarded_in m a came packet Here above next h = still_fine setups links Old Gathered began marks m a (forwarded a came packet Here) (note_still a (Delivered a.controller.node came.packet packet)) h
  forwarded_in m a came packet NoRoute above next h = still_fine setups links Old Gathered began marks m a (forwarded a came packet NoRoute) (note_still a (Dropped a.controller.node came.packet drops.NoRoute)) h
  forwarded_in m a came packet Expired above next h = still_fine setups links Old Gathered began marks m a (forwarded a came packet Expired) (note_still a (Dropped a.controller.node came.packet drops.Expired)) h
  forwarded_in m a came packet (On port) above next h = goes_in m a came port (onward packet) (grant_by a.controller port (onward packet)) (above port refl) next h

  pub routes_in : (m : Mode) (a : Acted) (came : Mark) (packet : List ℕ) → GoesByLinks a.controller → IsNext a.notes.frames came → In m a → In m (forwards_packet a came packet)
  routes_in m a came packet by_links next h = forwarded_in m a came packet (hop_of a.controller.table packet) (λ port is. by_links packet port is) next h

  -- *A cell of another channel*
  kept : IsKept setups (λ (a : Acted) (b : Acted). (m : Mode) → In m a → In m b)
  kept = record {
    self = λ a m h. h;
    on = λ a b c f g m h. g m (f m h);
    still = λ a b s m h. still_fine setups links Old Gathered began marks m a b s h;
    ruled = λ a port rule rule_goes reads whole m h. ruled m a port rule rule_goes whole h;
    routed = λ a mark packet by_links next m h. routes_in m a mark packet by_links next h;
  }

  pub other_cell_in : (m : Mode) (a : Acted) (cell : Cell) → same_channel cell.header.channel default_channel ≡ false → Whole setups a → (cell.header.last ≡ true → IsNext a.notes.frames cell.mark) → GoesByLinks a.controller
      → In m a → In m (cell_comes a cell)
  other_cell_in m a cell other whole next by_links h = other_cell_leads setups links (λ (x : Acted) (y : Acted). (n : Mode) → In n x → In n y) kept a cell other whole h.reads next by_links m h

  -- *A cell of the GSMP channel*
  with_taken : (m : Mode) (a : Acted) (notes : Journal) (r : Reassembly) → notes.frames ≡ a.notes.frames → Every Gathered r.chain → In m a → In m (record a { controller = record a.controller { reassembly = r }; notes = notes })
  with_taken m a notes r same chain h = by m h
    where
      queued : In m a → Queued setups links Old Gathered began marks (record a { controller = record a.controller { reassembly = r }; notes = notes })
      queued k = subst (λ (f : List Frame). Queued setups links Old Gathered began marks (record a { notes = record a.notes { frames = f } })) (sym same) k.queue

      by : (n : Mode) → In n a → In n (record a { controller = record a.controller { reassembly = r }; notes = notes })
      by Told k = record { queue = queued h; gathered = chain; reads = k.reads; room = k.room; knows = k.knows }
      by Untold k = record { queue = queued h; gathered = chain; reads = k.reads; room = k.room; knows = k.knows }

  module _ (m : Mode) (a : Acted) (cell : Cell) (whole : Whole setups a) (joins : Gathered cell)
      (from : (message : Message) → gsmp_under a.notes.frames cell.mark ≡ Some message → IsFromSwitch a.controller message)
      (passes : IsEnded (nat_lt 0 (free_slots a.controller)) a.controller.reassembly cell → PassesTrue a.notes.frames (a.controller.reassembly.chain ++ cell ∷ [])) (h : In m a) where
    abbrev r : Reassembly
    r = a.controller.reassembly

    whole_with : (notes : Journal) (x : Reassembly) → Whole setups (record a { controller = record a.controller { reassembly = x }; notes = notes })
    whole_with notes x = numbered_whole setups (record a { controller = record a.controller { reassembly = x } }) notes
        (record { sound = moves_sound setups a (record a { controller = record a.controller { reassembly = x } }) (moves_to (gathering a x)) whole.sound; order = whole.order; fits = whole.fits })

    read_under : (payload : List ℕ) (message : Message) → payload_of a.notes.frames cell.mark ≡ Some payload → decoded payload ≡ Ok message → gsmp_under a.notes.frames cell.mark ≡ Some message
    read_under payload message made ok = ap (λ (o : Option (List ℕ)). option_and_then gsmp_of o) made ∙ ap (λ (z : Result Message Fault). heard z) ok

    tested_go : IsEnded (nat_lt 0 (free_slots a.controller)) r cell → (o : Option (List ℕ)) → payload_in (octets_of (r.chain ++ cell ∷ [])) ≡ o
        → End (after_test (record a { controller = record a.controller { reassembly = record r { chain = [] } } }) ForGsmp (last_mark (r.chain ++ cell ∷ [])) (tested_by a.notes (r.chain ++ cell ∷ []) o))
    tested_go ended None is = in_mode m (with_taken m a (tested_by a.notes (r.chain ++ cell ∷ []) None).notes (record r { chain = [] }) (broken_frames (marks_of (r.chain ++ cell ∷ [])) a.notes) tt h)
    tested_go ended (Some payload) is =
        let notes : Journal = (tested_by a.notes (r.chain ++ cell ∷ []) (Some payload)).notes in
        let b : Acted = record a { controller = record a.controller { reassembly = record r { chain = [] } }; notes = notes } in
        let under : payload_of a.notes.frames cell.mark ≡ Some payload = ap (payload_of a.notes.frames) (sym (last_is r.chain cell)) ∙ frame_is a.notes.frames (last_mark (r.chain ++ cell ∷ [])) payload (passes ended payload is) in
        holds_go setups links Old Gathered began marks m b (decoded payload) (λ message ok. from message (read_under payload message under ok)) (whole_with notes (record r { chain = [] }))
        (with_taken m a notes (record r { chain = [] }) (passed_frames a.notes (last_mark (r.chain ++ cell ∷ [])) payload) tt h)

    ends_as : (b : Acted) (chain : List Cell) → ends_frame b ForGsmp (chain ++ cell ∷ []) ≡ after_test b ForGsmp (last_mark (chain ++ cell ∷ [])) (tested_by b.notes (chain ++ cell ∷ []) (payload_in (octets_of (chain ++ cell ∷ []))))
    ends_as b [] = refl
    ends_as b (x ∷ xs) = refl

    abbrev joined_as : Bool → Taken
    joined_as last =
        if last
        then record { reassembly = record r { chain = [] }; notes = a.notes; ended = r.chain ++ cell ∷ [] }
        else record { reassembly = record r { chain = r.chain ++ cell ∷ [] }; notes = a.notes; ended = [] }

    joined_go : (last : Bool) → (last ≡ true → IsEnded (nat_lt 0 (free_slots a.controller)) r cell) → End (after_cell a ForGsmp (joined_as last))
    joined_go false ended = in_mode m (with_taken m a a.notes (record r { chain = r.chain ++ cell ∷ [] }) refl (every_join Gathered r.chain (cell ∷ []) h.gathered (joins, tt)) h)
    joined_go true ended = subst End (sym (ends_as (record a { controller = record a.controller { reassembly = record r { chain = [] } } }) r.chain)) (tested_go (ended refl) (payload_in (octets_of (r.chain ++ cell ∷ []))) refl)

    taken_go : End (after_cell a ForGsmp (taken a.notes (nat_lt 0 (free_slots a.controller)) r cell))
    taken_go =
        let slot : Bool = nat_lt 0 (free_slots a.controller) in
        let to : Taken → Type 0 = λ t. End (after_cell a ForGsmp t) in
        on_each to r.is_skipping (passed_over a.notes r cell) (if not slot then without_slot a.notes r cell else (if nat_le most_cells (length r.chain) then too_long a.notes r cell else cell_joined a.notes r cell))
        (λ skips. in_mode m (with_taken m a (passed_over a.notes r cell).notes (passed_over a.notes r cell).reassembly (broken_frames (cell.mark ∷ []) a.notes) h.gathered h))
        (λ listens. on_each to (not slot) (without_slot a.notes r cell) (if nat_le most_cells (length r.chain) then too_long a.notes r cell else cell_joined a.notes r cell)
        (λ none. in_mode m (with_taken m a (without_slot a.notes r cell).notes (without_slot a.notes r cell).reassembly (broken_frames (marks_of r.chain) (noted a.notes (Loss cell.mark PoolFull))) tt h))
        (λ found. on_each to (nat_le most_cells (length r.chain)) (too_long a.notes r cell) (cell_joined a.notes r cell)
        (λ long. in_mode m (with_taken m a (too_long a.notes r cell).notes (too_long a.notes r cell).reassembly (broken_frames (marks_of (r.chain ++ cell ∷ [])) a.notes) tt h))
        (λ room. joined_go cell.header.last (λ last. record { listens = listens; slot_is = found; short = room; last = last }))))

    pub gsmp_cell_go : same_channel cell.header.channel default_channel ≡ true → End (cell_comes a cell)
    gsmp_cell_go here = subst (λ (t : Bool). End (takes_cell a cell (if t then Some ForGsmp else taker_at (linked_at a.controller (port_on cell.header.channel)) (on_link cell.header.channel)))) (sym here) taken_go

  -- *A tick*
  again_each : (m : Mode) (front : List Standing) (a : Acted) → Every (λ (s : Standing). s.number < last_transaction) front → Every (λ (s : Standing). IsShaped setups s.request) front → In m a → In m (fold sends_request a front)
  again_each m [] a low shaped h = h
  again_each m (s ∷ front) a low shaped h = again_each m front (sends_request a s) low.1 shaped.1 (request_fine setups links Old Gathered began marks m a s low.0 shaped.0 h)

  taken_each : (P : Standing → Type 0) (n : ℕ) (xs : List Standing) → Every P xs → Every P (take n xs)
  taken_each P zero xs all = tt
  taken_each P (suc n) [] all = tt
  taken_each P (suc n) (x ∷ xs) all = (all.0, taken_each P n xs all.1)

  lows : (next : ℕ) → next ≤ last_transaction → (xs : List Standing) → Every (λ (s : Standing). s.number < next) xs → Every (λ (s : Standing). s.number < last_transaction) xs
  lows next le [] all = tt
  lows next le (s ∷ xs) all = (below_last s.number next all.0 le, lows next le xs all.1)

  again_in : (m : Mode) (a : Acted) → Whole setups a → In m a → In m (sends_again a)
  again_in m a whole h = on_both (In m) (is_estab a.controller.adjacency.state) (fold sends_request a (sent_again a.controller.desk)) a
      (again_each m (sent_again a.controller.desk) a
      (taken_each (λ (s : Standing). s.number < last_transaction) 32 a.controller.desk.standing (lows a.controller.desk.next whole.sound.desk.room a.controller.desk.standing whole.sound.desk.below))
      (taken_each (λ (s : Standing). IsShaped setups s.request) 32 a.controller.desk.standing whole.sound.requests) h) h

  ports_in : (m : Mode) (ports : List PortNo) (a : Acted) → Whole setups a → In m a → In m (fold ticks_port a ports)
  ports_in m [] a whole h = h
  ports_in m (port ∷ ports) a whole h = ports_in m ports (ticks_port a port) (ticks_port_holds setups links a port whole)
      (ruled m a port port_ticks.ticks (λ linked found. ticks_goes linked.setup a.controller.desk (begins a linked) refl) whole h)

  on_go : (a : Acted) (step : sides.Step Party) → Whole setups (steps a step) → End (steps a step) → End (tries_joins (ticks_ports (sends_again (steps a step))))
  on_go a step whole (in_mode m h) =
      let again : Acted = sends_again (steps a step) in
      let whole_again : Whole setups again = sends_again_holds setups links (steps a step) whole in
      in_mode m (tries_joins_well setups links Old Gathered began marks m (ticks_ports again) (moves_ports setups (ticks_ports_goes setups again (has_ports setups again whole_again.sound)) (has_ports setups again whole_again.sound))
      (ports_in m (ports_of again.controller) again whole_again (again_in m (steps a step) whole h)))

  by_answer : (m : Mode) (a : Acted) (step : sides.Step Party) (answer : Answer (Said Party) Party) → Whole setups (steps a step) → End (steps a step) → In m a → End (ticks_by a step answer)
  by_answer m a step Quiet whole e h = on_go a step whole e
  by_answer m a step (Send message) whole e h = on_go a step whole e
  by_answer m a step (Open message own) whole e h = on_go a step whole e
  by_answer m a step Reset whole e h = in_mode m (node_fine setups links Old Gathered began marks m a h)

  pub ticks_go : (m : Mode) (a : Acted) → Whole setups a → In m a → End (ticks a)
  ticks_go m a whole h = by_answer m a (ticked a.controller.adjacency) (ticked a.controller.adjacency).answer (steps_holds setups links a (ticked a.controller.adjacency) ages whole)
      (steps_go setups links Old Gathered began marks m a (ticked a.controller.adjacency) (ticked_turns a.controller.adjacency whole.sound.side) whole h) h

  -- *A restart*
  cut_default_in : (m : Mode) (a : Acted) (o : Option Linked) → In m a → In m (cuts_default_of a o)
  cut_default_in m a None h = h
  cut_default_in m a (Some linked) h = still_fine setups links Old Gathered began marks m a (cuts_default_of a (Some linked))
      (record { adjacency = refl; desk = refl; met = refl; gathered = refl; queue = refl; frames = cut_frames a.notes linked.reassembly; controls = refl; instances = omega arith }) h

  cut_each : (m : Mode) (ports : List PortNo) (a : Acted) → In m a → In m (fold cuts_default a ports)
  cut_each m [] a h = h
  cut_each m (port ∷ ports) a h = cut_each m ports (cuts_default a port) (cut_default_in m a (linked_at a.controller port) h)

  pub restarts_in : (m : Mode) (a : Acted) → In m a → In m (node_restarts a)
  restarts_in m a h = (let b : Acted = node_resets a in
      cut_each m (ports_of a.controller) (cuts_gsmp b) (with_taken m b (cut b.notes b.controller.reassembly) nothing_taken (cut_frames b.notes b.controller.reassembly) tt (node_fine setups links Old Gathered began marks m a h)))
