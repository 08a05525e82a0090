-- a cell comes to the switch from its controller, the switch restarts, and a cell goes on to a port

use Rattle.std.proofs.Common.{◌≡◌, ℕ, ◌+◌, Bool, true, false, not, List, [], ◌∷◌, ◌++◌, Option, Some, None, Result, Ok, Err, refl, sym, ◌∙◌, ap, subst, length, map, arith, if◌then◌else◌}
use Rattle.std.specs.Prelude.{nat_le, nat_lt}
use Rattle.std.specs.FinMap as finite
use Rattle.law_input_views.specs.world_model.Words.{End, NodeId, Instance, Party, next_instance, with_instance, SynSent, Side, fresh, Cell, Frame, Loss, Chance, PoolFull, payload_of, is_frame, Journal, noted, last_mark, payload_in, tested, tested_by, Reassembly, marks_of, most_cells, passed_over, without_slot, too_long, Controller, default_channel, same_channel, numbers_of, Changed, all_ended, frame_read, gsmp_cell, restarted, gsmp_of}
use Rattle.law_input_views.specs.world_model.gsmp_wire.declared.fault.Fault.{Fault}
use Rattle.law_input_views.specs.world_model.gsmp_wire.declared.message.Message.{Message}
use Rattle.law_input_views.specs.world_model.gsmp_wire.Fields.{decoded}
use Rattle.law_input_views.specs.world_model.frame_model.Frame.{octets_of, passed_test}
use Rattle.law_input_views.specs.world_model.frame_model.Reassembly.{Taken, cell_joined}
use Rattle.law_input_views.proofs.ordered_lists.Parts.{IsPart, left, part_whole, part_none}
use Rattle.law_input_views.proofs.law_port_facts.Keyed.{on_each}
use Rattle.law_input_views.specs.law_branch_line.Words.{ToSwitch}
use Rattle.law_input_views.specs.law_branch_line.Line.{Line}
use Rattle.law_input_views.specs.law_branch_line.Switch.{restart_switch}
use Rattle.law_input_views.specs.law_branch_line.Moves.{CarryToSwitch, SwitchRestarts, carry_to_switch}
use Rattle.law_input_views.specs.world_model.switch_model.declared.port.PortState.{PortState}
use Rattle.law_input_views.specs.world_model.Switch.{ActedSwitch, begun, free_slots}
use Rattle.law_input_views.specs.world_model.Conduct.{after_test, ends_frame, after_cell}
use Rattle.law_input_views.specs.law_shown_cells.Seen.{Nothing, Word, nothing}
pub use Rattle.law_input_views.proofs.law_shown_cells.Tested.{frame_is}
use Rattle.law_input_views.proofs.law_shown_cells.Tested.{broken_frames, last_is, cut_frames}
use Rattle.law_input_views.proofs.law_shown_cells.Shows.{First, no_word, a_word, first_of}
use Rattle.law_input_views.specs.Words.{erased, seen_request, seen_on_gsmp, seen_cell}
use Rattle.law_input_views.specs.Shown.{controller_of, switch_of, ShowsRequests}
use Rattle.law_input_steps.specs.Part.{Part, part_beside, Stands, Reaches, AnyLine, Leads}
use Rattle.law_input_steps.specs.Hearing.{IsEnded, IsInHand, Comes}
use Rattle.law_input_steps.proofs.Goes.{goes_to, goes_next, by_move, draw_to, lose_at_switch, behind_part}
use Rattle.law_input_steps.proofs.Reach.{reaches_by, reaches_self, reaches_then, reaches_behind}
use Rattle.law_input_steps.proofs.Queues.{queue_loses, chain_loses, queue_carries}
use Rattle.law_input_steps.proofs.Branches.{restarted_is}
use Rattle.law_input_steps.proofs.Switching.{with_chain}
use Rattle.law_input_steps.proofs.Handled.{all_ended_frames, told_word, told_nothing}

ends_is : (a : ActedSwitch) (cells : List Cell) (cell : Cell) → ends_frame a (cells ++ cell ∷ []) ≡ after_test a (tested a.notes (cells ++ cell ∷ []))
ends_is a [] cell = refl
ends_is a (c ∷ cells) cell = refl

-- what a decoder found
abbrev message_in : Result Message Fault → Option Message
message_in (Ok m) = Some m
message_in (Err fault) = None

-- a cell that joins the chain, by whether it is a last one
abbrev joined_as : ActedSwitch → Cell → (last : Bool) → Taken
joined_as a cell last =
    if last
    then record { reassembly = record a.switch.reassembly { chain = [] }; notes = a.notes; ended = a.switch.reassembly.chain ++ cell ∷ [] }
    else record { reassembly = record a.switch.reassembly { chain = a.switch.reassembly.chain ++ cell ∷ [] }; notes = a.notes; ended = [] }

module _ (node : NodeId) (input : End) where
  -- what the switch reads in the payload, as its words tell
  read_word : (c : Controller) (a : ActedSwitch) (payload : List ℕ) (r : Result Message Fault) (line : Line) (w : ToSwitch) → decoded payload ≡ r → IsInHand c a payload
      → seen_request (controller_of node) (switch_of node) input true (gsmp_of payload) ≡ Word (erased w) → Stands node input (part_beside input c a) (with_chain node input line [])
      → Reaches node input (part_beside input c (frame_read a r)) AnyLine (with_chain node input line (w ∷ []))
  read_word c a payload (Err fault) line w is hand seen h =
      absurd (cc (sym (ap (λ (r : Result Message Fault). seen_request (controller_of node) (switch_of node) input true (message_in r)) is) ∙ seen))
  read_word c a payload (Ok m) line w is hand seen h = told_word node input c a m line w hand.some (hand.well m is) (hand.reads m is)
      (sym (ap (λ (r : Result Message Fault). seen_request (controller_of node) (switch_of node) input true (message_in r)) is) ∙ seen) h

  read_nothing : (c : Controller) (a : ActedSwitch) (payload : List ℕ) (r : Result Message Fault) (line : Line) → decoded payload ≡ r
      → seen_request (controller_of node) (switch_of node) input true (gsmp_of payload) ≡ Nothing → Stands node input (part_beside input c a) line
      → Reaches node input (part_beside input c (frame_read a r)) AnyLine line
  read_nothing c a payload (Err fault) line is seen h = reaches_self node input (part_beside input c (frame_read a (Err fault))) line h
  read_nothing c a payload (Ok m) line is seen h =
      subst (λ (b : ActedSwitch). Reaches node input (part_beside input c b) AnyLine line)
      (sym (told_nothing node input a m (sym (ap (λ (r : Result Message Fault). seen_request (controller_of node) (switch_of node) input true (message_in r)) is) ∙ seen)))
      (reaches_self node input (part_beside input c a) line h)

  -- *A last cell* ends the chain: the words in front are lost, its own is in hand
  abbrev on_channel : Cell → Type 0
  on_channel cell = same_channel cell.header.channel default_channel ≡ true

  cell_seen : (frames : List Frame) (cell : Cell) (payload : List ℕ) → on_channel cell → cell.header.last ≡ true → payload_of frames cell.mark ≡ Some payload
      → seen_cell (seen_request (controller_of node) (switch_of node) input) frames cell ≡ seen_request (controller_of node) (switch_of node) input true (gsmp_of payload)
  cell_seen frames cell payload here last made =
      ap (λ (b : Bool). if b then seen_on_gsmp (seen_request (controller_of node) (switch_of node) input) cell.header.last (payload_of frames cell.mark) else Nothing) here
      ∙ (λ i. seen_on_gsmp (seen_request (controller_of node) (switch_of node) input) (last i) (made i))

  emptied : (p : Part) (cells : List Cell) (line : Line) (words : List ToSwitch) → Stands node input p line → ShowsRequests node input p.frames cells words
      → Stands node input (record p { queue = cells; chain = [] }) (record line { at_switch = []; to_switch = words })
  emptied p cells line words h shown = record {
    own = h.own;
    far = h.far;
    to_switch = shown;
    at_switch = nothing;
    to_controller = h.to_controller;
    gathered = h.gathered;
    at_controller = h.at_controller;
    drawn = h.drawn;
    before = h.before;
    behind = h.behind;
    unmade = h.unmade;
    numbered = h.numbered;
  }

  abbrev popped : Controller → List Cell → Controller
  popped c cells = record c { queue = cells }

  ended_line : (c : Controller) (a : ActedSwitch) (cells : List Cell) (cell : Cell) (payload : List ℕ) (line : Line) (words : List ToSwitch) → line.to_switch ≡ words
      → let b : ActedSwitch = record a { switch = record a.switch { reassembly = record a.switch.reassembly { chain = [] } } } in
      IsInHand (popped c cells) b payload → on_channel cell → cell.header.last ≡ true → payload_of a.notes.frames cell.mark ≡ Some payload
      → Stands node input (part_beside input c a) line
      → First erased (seen_cell (seen_request (controller_of node) (switch_of node) input) a.notes.frames) cell cells words
      → Reaches node input (part_beside input (popped c cells) (frame_read b (decoded payload))) AnyLine line
  ended_line c a cells cell payload line words is hand here last made h (no_word e rest) =
      let b : ActedSwitch = record a { switch = record a.switch { reassembly = record a.switch.reassembly { chain = [] } } } in
      let bare : Line = record line { at_switch = []; to_switch = words } in
      reaches_behind node input (part_beside input (popped c cells) (frame_read b (decoded payload))) AnyLine line bare
      (goes_to line (record line { at_switch = [] }) bare (lose_at_switch line (part_none line.at_switch)) (ap (λ (z : List ToSwitch). record line { at_switch = []; to_switch = z }) is))
      (read_nothing (popped c cells) b payload (decoded payload) bare refl (sym (cell_seen a.notes.frames cell payload here last made) ∙ e)
      (emptied (part_beside input c a) cells line words h rest))
  ended_line c a cells cell payload line words is hand here last made h (a_word {t} {ts} e rest) =
      let b : ActedSwitch = record a { switch = record a.switch { reassembly = record a.switch.reassembly { chain = [] } } } in
      let kept : Line = record line { at_switch = line.at_switch ++ t ∷ []; to_switch = ts } in
      let bare : Line = record line { at_switch = []; to_switch = ts } in
      reaches_behind node input (part_beside input (popped c cells) (frame_read b (decoded payload))) AnyLine line (with_chain node input bare (t ∷ []))
      (goes_next line kept (with_chain node input bare (t ∷ [])) (by_move line CarryToSwitch kept (ap (carry_to_switch line) is)) (lose_at_switch kept (behind_part line.at_switch (t ∷ []))))
      (read_word (popped c cells) b payload (decoded payload) bare t refl hand (sym (cell_seen a.notes.frames cell payload here last made) ∙ e)
      (emptied (part_beside input c a) cells line ts h rest))

  abbrev To : Controller → ActedSwitch → Line → Type 0
  To c b line = Reaches node input (part_beside input c b) AnyLine line

  with_frames : (c : Controller) (b : ActedSwitch) (frames : List Frame) (line : Line) → b.notes.frames ≡ frames
      → Reaches node input (record (part_beside input c b) { frames = frames }) AnyLine line → To c b line
  with_frames c b frames line is r = subst (λ (z : List Frame). Reaches node input (record (part_beside input c b) { frames = z }) AnyLine line) (sym is) r

  loses_cell : (c : Controller) (a : ActedSwitch) (cell : Cell) (cells : List Cell) → c.queue ≡ cell ∷ cells → (line : Line) → Stands node input (part_beside input c a) line
      → Reaches node input (record (part_beside input c a) { queue = cells }) AnyLine line
  loses_cell c a cell cells front line h = queue_loses node input (part_beside input c a) cells (subst (IsPart cells) (sym front) (left (part_whole cells))) line h

  loses_all : (c : Controller) (a : ActedSwitch) (cell : Cell) (cells : List Cell) → c.queue ≡ cell ∷ cells → (line : Line) → Stands node input (part_beside input c a) line
      → Reaches node input (record (part_beside input c a) { queue = cells; chain = [] }) AnyLine line
  loses_all c a cell cells front line h = reaches_then node input (record (part_beside input c a) { queue = cells }) (record (part_beside input c a) { queue = cells; chain = [] }) AnyLine AnyLine line
      (loses_cell c a cell cells front line h) (λ z k also. chain_loses node input (record (part_beside input c a) { queue = cells }) [] (part_none a.switch.reassembly.chain) z k)

  tested_line : (c : Controller) (a : ActedSwitch) (cell : Cell) (cells : List Cell) (line : Line) (o : Option (List ℕ)) → Comes c a cell cells → IsEnded (nat_lt 0 (free_slots a.switch)) a.switch.reassembly cell
      → payload_in (octets_of (a.switch.reassembly.chain ++ cell ∷ [])) ≡ o → Stands node input (part_beside input c a) line
      → let b : ActedSwitch = record a { switch = record a.switch { reassembly = record a.switch.reassembly { chain = [] } } } in
      To (popped c cells) (after_test b (tested_by a.notes (a.switch.reassembly.chain ++ cell ∷ []) o)) line
  tested_line c a cell cells line None k last is h =
      let b : ActedSwitch = record a { switch = record a.switch { reassembly = record a.switch.reassembly { chain = [] } } } in
      with_frames (popped c cells) (after_test b (tested_by a.notes (a.switch.reassembly.chain ++ cell ∷ []) None)) a.notes.frames line
      (broken_frames (marks_of (a.switch.reassembly.chain ++ cell ∷ [])) a.notes) (loses_all c a cell cells k.front line h)
  tested_line c a cell cells line (Some payload) k last is h =
      let chain : List Cell = a.switch.reassembly.chain ++ cell ∷ [] in
      let b : ActedSwitch = record a { switch = record a.switch { reassembly = record a.switch.reassembly { chain = [] } } } in
      let true_frame : is_frame a.notes.frames (last_mark chain) payload ≡ true = k.passes last payload is in
      let kept : passed_test a.notes (last_mark chain) payload ≡ a.notes = ap (λ (t : Bool). if t then a.notes else noted a.notes (Chance (last_mark chain))) true_frame in
      let made : payload_of a.notes.frames cell.mark ≡ Some payload = ap (payload_of a.notes.frames) (sym (last_is a.switch.reassembly.chain cell)) ∙ frame_is a.notes.frames (last_mark chain) payload true_frame in
      subst (λ (notes : Journal). To (popped c cells) (frame_read (record b { notes = notes }) (decoded payload)) line) (sym kept)
      (ended_line c a cells cell payload line line.to_switch refl (k.hand payload last is) k.here last.last made h
      (first_of (subst (λ (z : List Cell). ShowsRequests node input a.notes.frames z line.to_switch) k.front h.to_switch)))

  joined_line : (c : Controller) (a : ActedSwitch) (cell : Cell) (cells : List Cell) (line : Line) (last : Bool) → Comes c a cell cells → (last ≡ true → IsEnded (nat_lt 0 (free_slots a.switch)) a.switch.reassembly cell) → cell.header.last ≡ last → Stands node input (part_beside input c a) line
      → To (popped c cells) (after_cell a (joined_as a cell last)) line
  joined_line c a cell cells line false k ended is h = queue_carries node input (part_beside input c a) cell cells k.front line h
  joined_line c a cell cells line true k ended is h =
      let chain : List Cell = a.switch.reassembly.chain in
      let b : ActedSwitch = record a { switch = record a.switch { reassembly = record a.switch.reassembly { chain = [] } } } in
      subst (λ (z : ActedSwitch). To (popped c cells) z line) (sym (ends_is b chain cell)) (tested_line c a cell cells line (payload_in (octets_of (chain ++ cell ∷ []))) k (ended refl) refl h)

  pub gsmp_cell_comes : (c : Controller) (a : ActedSwitch) (cell : Cell) (cells : List Cell) → Comes c a cell cells
      → Leads node input (part_beside input c a) (part_beside input (popped c cells) (gsmp_cell a cell))
  gsmp_cell_comes c a cell cells k line h =
      let r : Reassembly = a.switch.reassembly in
      let slot : Bool = nat_lt 0 (free_slots a.switch) in
      let to : Taken → Type 0 = λ t. To (popped c cells) (after_cell a t) line in
      on_each to r.is_skipping (passed_over a.notes r cell)
      (if not slot then without_slot a.notes r cell else (if nat_le most_cells (length r.chain) then too_long a.notes r cell else cell_joined a.notes r cell))
      (λ e. with_frames (popped c cells) (after_cell a (passed_over a.notes r cell)) a.notes.frames line (broken_frames (cell.mark ∷ []) a.notes) (loses_cell c a cell cells k.front line h))
      (λ listens. on_each to (not slot) (without_slot a.notes r cell) (if nat_le most_cells (length r.chain) then too_long a.notes r cell else cell_joined a.notes r cell)
      (λ e. with_frames (popped c cells) (after_cell a (without_slot a.notes r cell)) a.notes.frames line (broken_frames (marks_of r.chain) (noted a.notes (Loss cell.mark PoolFull))) (loses_all c a cell cells k.front line h))
      (λ found. on_each to (nat_le most_cells (length r.chain)) (too_long a.notes r cell) (cell_joined a.notes r cell)
      (λ e. with_frames (popped c cells) (after_cell a (too_long a.notes r cell)) a.notes.frames line (broken_frames (marks_of (r.chain ++ cell ∷ [])) a.notes) (loses_all c a cell cells k.front line h))
      (λ room. joined_line c a cell cells line cell.header.last k (λ last. record { listens = listens; slot_is = found; short = room; last = last }) refl h)))

  -- *The switch restarts*
  numbers_same : (own : Instance) (ports : List PortState) → numbers_of (map (λ (state : PortState). begun own state.number) ports) ≡ numbers_of ports
  numbers_same own [] = refl
  numbers_same own (port ∷ ports) = λ i. port.number ∷ numbers_same own ports i

  pub switch_restarts_leads : (c : Controller) (a : ActedSwitch) → Leads node input (part_beside input c a) (part_beside input c (restarted a))
  switch_restarts_leads c a line h =
      let p : Part = part_beside input c a in
      let drawn : Line = record line { fresh = a.numbers.instances + 1 } in
      let ended : Changed = all_ended (record { branches = a.switch.crossbar.branches; notes = a.notes }) (finite.keys a.switch.crossbar.branches) in
      let same : part_beside input c (restarted a) ≡ record p { far = fresh SynSent (record a.switch.adjacency.own { instance = next_instance a.numbers }); branch = None; chain = []; numbers = with_instance a.numbers } = λ i. record p {
        far = fresh SynSent (record a.switch.adjacency.own { instance = next_instance a.numbers });
        branch = restarted_is input (record { branches = a.switch.crossbar.branches; notes = a.notes }) i;
        chain = [];
        ports = numbers_same (next_instance a.numbers) a.switch.ports i;
        frames = (cut_frames ended.notes a.switch.reassembly ∙ all_ended_frames (record { branches = a.switch.crossbar.branches; notes = a.notes }) (finite.keys a.switch.crossbar.branches)) i;
        numbers = with_instance a.numbers;
      } in
      subst (λ (q : Part). Reaches node input q AnyLine line) (sym same)
      (reaches_by node input (record p { far = fresh SynSent (record a.switch.adjacency.own { instance = next_instance a.numbers }); branch = None; chain = []; numbers = with_instance a.numbers }) line (restart_switch drawn)
      (goes_next line drawn (restart_switch drawn) (draw_to (a.numbers.instances + 1) line h.drawn) (by_move drawn SwitchRestarts (restart_switch drawn) refl))
      (record {
        own = h.own;
        far = record { side = ap (λ (s : Side Party). fresh SynSent (record s.own { instance = next_instance a.numbers })) h.far.side; branch = refl };
        to_switch = h.to_switch;
        at_switch = nothing;
        to_controller = h.to_controller;
        gathered = h.gathered;
        at_controller = h.at_controller;
        drawn = omega arith;
        before = h.before;
        behind = h.behind;
        unmade = h.unmade;
        numbered = h.numbered;
      }))
