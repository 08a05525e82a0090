-- a cell of the GSMP channel comes to the controller from its switch

use Rattle.std.proofs.Common.{◌≡◌, ℕ, Bool, true, false, not, List, [], ◌∷◌, ◌++◌, Option, Some, None, refl, sym, ◌∙◌, ap, subst, length, drop, slice_set, slice_index_or, if◌then◌else◌}
use Rattle.std.specs.Prelude.{nat_le, nat_lt}
use Rattle.law_input_views.specs.world_model.Words.{End, NodeId, Cell, Frame, Loss, Chance, PoolFull, payload_of, is_frame, Journal, noted, last_mark, payload_in, tested, tested_by, Reassembly, marks_of, most_cells, passed_over, without_slot, too_long, queue_of, popped, Switch, control_port, default_channel, same_channel, ForGsmp, takes_cell, taker_at, port_on, on_link, gsmp_holds, linked_at, gsmp_of}
use Rattle.law_input_views.specs.world_model.gsmp_wire.declared.message.Message.{Message}
use Rattle.law_input_views.specs.world_model.gsmp_wire.declared.message.Message.TheVariants as messages
use Rattle.law_input_views.specs.world_model.gsmp_wire.Fields.{decoded}
use Rattle.law_input_views.specs.world_model.frame_model.Frame.{octets_of, passed_test}
use Rattle.law_input_views.specs.world_model.frame_model.Reassembly.{Taken, taken, cell_joined}
use Rattle.law_input_views.proofs.ordered_lists.Parts.{IsPart, left, part_whole, part_none}
use Rattle.law_input_views.proofs.law_port_facts.Keyed.{on_each}
use Rattle.law_input_views.specs.law_branch_line.Words.{ToController}
use Rattle.law_input_views.specs.law_branch_line.Line.{Line}
use Rattle.law_input_views.specs.law_branch_line.Moves.{CarryToController, carry_to_controller}
use Rattle.law_input_views.specs.world_model.Controller.{Acted, free_slots}
use Rattle.law_input_views.specs.world_model.Cells.{after_test, ends_frame, after_cell, cell_comes}
use Rattle.law_input_views.specs.law_shown_cells.Seen.{Seen, Nothing, Word, nothing}
use Rattle.law_input_views.proofs.law_shown_cells.Shows.{First, no_word, a_word, first_of, one_hidden, shows_behind}
use Rattle.law_input_views.specs.Words.{erased_back, seen_answer, seen_on_gsmp, seen_cell}
use Rattle.law_input_views.specs.Shown.{controller_of, switch_of, ShowsAnswers}
use Rattle.law_input_views.proofs.law_shown_cells.Tested.{broken_frames, frame_is, last_is}
use Rattle.law_input_steps.specs.Part.{Part, part_at, Stands, Reaches, AnyLine, Leads}
use Rattle.law_input_steps.specs.Hearing.{IsEnded, IsHeld, ComesBack}
use Rattle.law_input_steps.proofs.Goes.{stays, goes_to, by_move}
use Rattle.law_input_steps.proofs.Reach.{reaches_self, reaches_then, reaches_behind}
use Rattle.law_input_steps.proofs.Queues.{back_loses, gathered_loses}

-- *The switch gives its first cell*
popped_first : (queues : List (List Cell)) (cell : Cell) (cells : List Cell) → slice_index_or queues 0 [] ≡ cell ∷ cells → slice_index_or (slice_set queues 0 (drop 1 (slice_index_or queues 0 []))) 0 [] ≡ cells
popped_first [] cell cells is = absurd (cc is)
popped_first (q ∷ queues) cell cells is = ap (λ (z : List Cell). drop 1 z) is

abbrev pub without_first : Switch → Switch
without_first s = record s { crossbar = popped s.crossbar control_port }

pub popped_part : (input : End) (s : Switch) (cell : Cell) (cells : List Cell) → queue_of s.crossbar control_port ≡ cell ∷ cells → (a : Acted)
    → part_at input (without_first s) a ≡ record (part_at input s a) { back = cells }
popped_part input s cell cells is a = λ i. record (part_at input s a) { back = popped_first s.crossbar.queues cell cells is i }

ends_is : (a : Acted) (cells : List Cell) (cell : Cell) → ends_frame a ForGsmp (cells ++ cell ∷ []) ≡ after_test a ForGsmp (last_mark (cells ++ cell ∷ [])) (tested a.notes (cells ++ cell ∷ []))
ends_is a [] cell = refl
ends_is a (c ∷ cells) cell = refl

module _ (node : NodeId) (input : End) where
  abbrev seen_answers : (last : Bool) → Option Message → Seen ToController
  seen_answers last m = seen_answer (switch_of node) (controller_of node) input last m

  -- the early cells of a frame show nothing, where they are known
  early_message : (m : Option Message) → seen_answers false m ≡ Nothing
  early_message None = refl
  early_message (Some (messages.Adjacency greeting)) = refl
  early_message (Some (messages.Branch kind r c n s ip i op o br pr)) = refl
  early_message (Some (messages.Move r c n s ip i op o tp t br pr)) = refl
  early_message (Some (messages.Port r c n p s f)) = refl
  early_message (Some (messages.AllPorts r c n rows)) = refl

  early_payload : (o : Option (List ℕ)) (w : ToController) → seen_on_gsmp seen_answers false o ≡ Word w → ⊥
  early_payload None w h = absurd (cc h)
  early_payload (Some payload) w h = absurd (cc (sym (early_message (gsmp_of payload)) ∙ h))

  cell_seen : (frames : List Frame) (cell : Cell) (last : Bool) (o : Option (List ℕ)) → same_channel cell.header.channel default_channel ≡ true → cell.header.last ≡ last
      → payload_of frames cell.mark ≡ o → seen_cell seen_answers frames cell ≡ seen_on_gsmp seen_answers last o
  cell_seen frames cell last o here is made =
      ap (λ (b : Bool). if b then seen_on_gsmp seen_answers cell.header.last (payload_of frames cell.mark) else Nothing) here
      ∙ (λ i. seen_on_gsmp seen_answers (is i) (made i))

  -- *Kept*: an early cell joins the chain
  keeps : (p : Part) (cell : Cell) (cells : List Cell) (line : Line) (words : List ToController) → line.to_controller ≡ words
      → same_channel cell.header.channel default_channel ≡ true → cell.header.last ≡ false → Stands node input p line
      → First erased_back (seen_cell seen_answers p.frames) cell cells words → Reaches node input (record p { back = cells; gathered = p.gathered ++ cell ∷ [] }) AnyLine line
  keeps p cell cells line words is here early h (no_word e rest) = reaches_self node input (record p { back = cells; gathered = p.gathered ++ cell ∷ [] }) line (record {
    own = h.own;
    far = h.far;
    to_switch = h.to_switch;
    at_switch = h.at_switch;
    to_controller = subst (ShowsAnswers node input p.frames cells) (sym is) rest;
    gathered = shows_behind h.gathered (one_hidden e);
    at_controller = h.at_controller;
    drawn = h.drawn;
    before = h.before;
    behind = h.behind;
    unmade = h.unmade;
    numbered = h.numbered;
  })
  keeps p cell cells line words is here early h (a_word {t} {ts} e rest) =
      absurd (early_payload (payload_of p.frames cell.mark) (erased_back t) (sym (cell_seen p.frames cell false (payload_of p.frames cell.mark) here early refl) ∙ e))

  -- *In hand*: the words in front are none, its own is taken
  emptied : (p : Part) (cells : List Cell) (line : Line) (words : List ToController) → Stands node input p line → ShowsAnswers node input p.frames cells words
      → Stands node input (record p { back = cells; gathered = [] }) (record line { to_controller = words; at_controller = [] })
  emptied p cells line words h shown = record {
    own = h.own;
    far = h.far;
    to_switch = h.to_switch;
    at_switch = h.at_switch;
    to_controller = shown;
    gathered = nothing;
    at_controller = refl;
    drawn = h.drawn;
    before = h.before;
    behind = h.behind;
    unmade = h.unmade;
    numbered = h.numbered;
  }

  abbrev bare : Acted → Acted
  bare a = record a { controller = record a.controller { reassembly = record a.controller.reassembly { chain = [] } } }

  held_line : (s : Switch) (a : Acted) (cells : List Cell) (cell : Cell) (payload : List ℕ) (line : Line) (words : List ToController) → line.to_controller ≡ words
      → ((b : Acted) → part_at input (without_first s) b ≡ record (part_at input s b) { back = cells }) → IsHeld node input (without_first s) (bare a) payload
      → same_channel cell.header.channel default_channel ≡ true → cell.header.last ≡ true → payload_of a.notes.frames cell.mark ≡ Some payload → Stands node input (part_at input s a) line
      → First erased_back (seen_cell seen_answers a.notes.frames) cell cells words
      → Reaches node input (part_at input (without_first s) (gsmp_holds (bare a) (decoded payload))) AnyLine line
  held_line s a cells cell payload line words is pops holds here last made h (no_word e rest) =
      let empty : Line = record line { to_controller = words; at_controller = [] } in
      reaches_behind node input (part_at input (without_first s) (gsmp_holds (bare a) (decoded payload))) AnyLine line empty
      (goes_to line line empty (stays line) (λ i. record line { to_controller = is i; at_controller = h.at_controller i }))
      (holds.quiet empty (sym (cell_seen a.notes.frames cell true (Some payload) here last made) ∙ e)
      (subst (λ (p : Part). Stands node input p empty) (sym (pops (bare a))) (emptied (part_at input s a) cells line words h rest)))
  held_line s a cells cell payload line words is pops holds here last made h (a_word {t} {ts} e rest) =
      let empty : Line = record line { to_controller = ts; at_controller = [] } in
      let hand : Line = record line { to_controller = ts; at_controller = t ∷ [] } in
      reaches_behind node input (part_at input (without_first s) (gsmp_holds (bare a) (decoded payload))) AnyLine line hand
      (by_move line CarryToController hand (ap (carry_to_controller line) is ∙ ap (λ (z : List ToController). record line { to_controller = ts; at_controller = z ++ t ∷ [] }) h.at_controller))
      (holds.told empty t (sym (cell_seen a.notes.frames cell true (Some payload) here last made) ∙ e)
      (subst (λ (p : Part). Stands node input p empty) (sym (pops (bare a))) (emptied (part_at input s a) cells line ts h rest)))

  -- *The tests* of a cell that comes
  abbrev Back : Switch → Acted → Line → Type 0
  Back s b line = Reaches node input (part_at input (without_first s) b) AnyLine line

  back_as : (s : Switch) (cells : List Cell) (b : Acted) (frames : List Frame) (line : Line) → part_at input (without_first s) b ≡ record (part_at input s b) { back = cells }
      → b.notes.frames ≡ frames → Reaches node input (record (part_at input s b) { back = cells; frames = frames }) AnyLine line → Back s b line
  back_as s cells b frames line pops is r = subst (λ (p : Part). Reaches node input p AnyLine line) (sym pops)
      (subst (λ (z : List Frame). Reaches node input (record (part_at input s b) { back = cells; frames = z }) AnyLine line) (sym is) r)

  loses_cell : (p : Part) (cell : Cell) (cells : List Cell) → p.back ≡ cell ∷ cells → (line : Line) → Stands node input p line → Reaches node input (record p { back = cells }) AnyLine line
  loses_cell p cell cells front line h = back_loses node input p cells (subst (IsPart cells) (sym front) (left (part_whole cells))) line h

  loses_all : (p : Part) (cell : Cell) (cells : List Cell) → p.back ≡ cell ∷ cells → (line : Line) → Stands node input p line
      → Reaches node input (record p { back = cells; gathered = [] }) AnyLine line
  loses_all p cell cells front line h = reaches_then node input (record p { back = cells }) (record p { back = cells; gathered = [] }) AnyLine AnyLine line
      (loses_cell p cell cells front line h) (λ z k also. gathered_loses node input (record p { back = cells }) [] (part_none p.gathered) z k)

  module _ (s : Switch) (a : Acted) (cell : Cell) (cells : List Cell) (k : ComesBack node input s a cell cells) where
    pops : (b : Acted) → part_at input (without_first s) b ≡ record (part_at input s b) { back = cells }
    pops b = popped_part input s cell cells k.front b

    tested_line : (line : Line) (o : Option (List ℕ)) → IsEnded (nat_lt 0 (free_slots a.controller)) a.controller.reassembly cell → payload_in (octets_of (a.controller.reassembly.chain ++ cell ∷ [])) ≡ o
        → Stands node input (part_at input s a) line
        → Back s (after_test (bare a) ForGsmp (last_mark (a.controller.reassembly.chain ++ cell ∷ [])) (tested_by a.notes (a.controller.reassembly.chain ++ cell ∷ []) o)) line
    tested_line line None last is h =
        let chain : List Cell = a.controller.reassembly.chain ++ cell ∷ [] in
        let b : Acted = after_test (bare a) ForGsmp (last_mark chain) (tested_by a.notes chain None) in
        back_as s cells b a.notes.frames line (pops b) (broken_frames (marks_of chain) a.notes) (loses_all (part_at input s a) cell cells k.front line h)
    tested_line line (Some payload) last is h =
        let chain : List Cell = a.controller.reassembly.chain ++ cell ∷ [] in
        let true_frame : is_frame a.notes.frames (last_mark chain) payload ≡ true = k.passes last payload is in
        let kept : passed_test a.notes (last_mark chain) payload ≡ a.notes = ap (λ (t : Bool). if t then a.notes else noted a.notes (Chance (last_mark chain))) true_frame in
        let made : payload_of a.notes.frames cell.mark ≡ Some payload =
        ap (payload_of a.notes.frames) (sym (last_is a.controller.reassembly.chain cell)) ∙ frame_is a.notes.frames (last_mark chain) payload true_frame in
        subst (λ (notes : Journal). Back s (gsmp_holds (record (bare a) { notes = notes }) (decoded payload)) line) (sym kept)
        (held_line s a cells cell payload line line.to_controller refl pops (k.holds payload last is) k.here last.last made h
        (first_of (subst (λ (z : List Cell). ShowsAnswers node input a.notes.frames z line.to_controller) k.front h.to_controller)))

    abbrev joined_as : (last : Bool) → Taken
    joined_as last =
        if last
        then record { reassembly = record a.controller.reassembly { chain = [] }; notes = a.notes; ended = a.controller.reassembly.chain ++ cell ∷ [] }
        else record { reassembly = record a.controller.reassembly { chain = a.controller.reassembly.chain ++ cell ∷ [] }; notes = a.notes; ended = [] }

    joined_line : (line : Line) (last : Bool) → (last ≡ true → IsEnded (nat_lt 0 (free_slots a.controller)) a.controller.reassembly cell) → cell.header.last ≡ last → Stands node input (part_at input s a) line → Back s (after_cell a ForGsmp (joined_as last)) line
    joined_line line false ended is h =
        let b : Acted = after_cell a ForGsmp (joined_as false) in
        back_as s cells b a.notes.frames line (pops b) refl
        (keeps (part_at input s a) cell cells line line.to_controller refl k.here is h
        (first_of (subst (λ (z : List Cell). ShowsAnswers node input a.notes.frames z line.to_controller) k.front h.to_controller)))
    joined_line line true ended is h =
        let chain : List Cell = a.controller.reassembly.chain in
        subst (λ (z : Acted). Back s z line) (sym (ends_is (bare a) chain cell)) (tested_line line (payload_in (octets_of (chain ++ cell ∷ []))) (ended refl) refl h)

    taken_line : (line : Line) → Stands node input (part_at input s a) line
        → Back s (after_cell a ForGsmp (taken a.notes (nat_lt 0 (free_slots a.controller)) a.controller.reassembly cell)) line
    taken_line line h =
        let r : Reassembly = a.controller.reassembly in
        let p : Part = part_at input s a in
        let slot : Bool = nat_lt 0 (free_slots a.controller) in
        let to : Taken → Type 0 = λ t. Back s (after_cell a ForGsmp t) line in
        on_each to r.is_skipping (passed_over a.notes r cell)
        (if not slot then without_slot a.notes r cell else (if nat_le most_cells (length r.chain) then too_long a.notes r cell else cell_joined a.notes r cell))
        (λ e. back_as s cells (after_cell a ForGsmp (passed_over a.notes r cell)) a.notes.frames line (pops (after_cell a ForGsmp (passed_over a.notes r cell))) (broken_frames (cell.mark ∷ []) a.notes) (loses_cell p cell cells k.front line h))
        (λ listens. on_each to (not slot) (without_slot a.notes r cell) (if nat_le most_cells (length r.chain) then too_long a.notes r cell else cell_joined a.notes r cell)
        (λ e. back_as s cells (after_cell a ForGsmp (without_slot a.notes r cell)) a.notes.frames line (pops (after_cell a ForGsmp (without_slot a.notes r cell)))
        (broken_frames (marks_of r.chain) (noted a.notes (Loss cell.mark PoolFull))) (loses_all p cell cells k.front line h))
        (λ found. on_each to (nat_le most_cells (length r.chain)) (too_long a.notes r cell) (cell_joined a.notes r cell)
        (λ e. back_as s cells (after_cell a ForGsmp (too_long a.notes r cell)) a.notes.frames line (pops (after_cell a ForGsmp (too_long a.notes r cell)))
        (broken_frames (marks_of (r.chain ++ cell ∷ [])) a.notes) (loses_all p cell cells k.front line h))
        (λ room. joined_line line cell.header.last (λ last. record { listens = listens; slot_is = found; short = room; last = last }) refl h)))

  pub cell_comes_back : (s : Switch) (a : Acted) (cell : Cell) (cells : List Cell) → ComesBack node input s a cell cells
      → Leads node input (part_at input s a) (part_at input (without_first s) (cell_comes a cell))
  cell_comes_back s a cell cells k line h =
      subst (λ (t : Bool). Back s (takes_cell a cell (if t then Some ForGsmp else taker_at (linked_at a.controller (port_on cell.header.channel)) (on_link cell.header.channel))) line) (sym k.here)
      (taken_line s a cell cells k line h)
