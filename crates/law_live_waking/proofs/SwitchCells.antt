-- a cell that comes to a switch from its controller ends a greeting that is heard, or leaves the two ends as they are

use Rattle.std.proofs.Common.{◌≡◌, ℕ, ◌+◌, ◌-◌, ◌<◌, Bool, true, false, List, [], ◌∷◌, ◌++◌, length, Option, None, Some, Result, Ok, refl, sym, ◌∙◌, ap, subst, arith, if◌then◌else◌}
use Rattle.std.specs.Prelude.{◌&&◌, ◌==◌, nat_lt, not, ◌≤◌}
use Rattle.std.proofs.lemmas.Bool.Decides.{nat_tests}
use Rattle.world_model.specs.Words.{PortNo, End, Mark, Cell, Journal, has_entry, payload_of, last_mark, payload_in, tested_by, next_instance, Party, Said, Side, Step, fresh, gsmp_received, greeting_of, Reassembly, same_channel, default_channel, gsmp_channel, control_port, is_gsmp, gsmp_cell, switched_cell, frame_read}
use Rattle.world_model.specs.gsmp_wire.declared.fault.Fault.{Fault}
use Rattle.world_model.specs.gsmp_wire.declared.message.Message.{Message}
use Rattle.world_model.specs.gsmp_wire.declared.message.Message.TheVariants.{Adjacency}
use Rattle.world_model.specs.gsmp_wire.Fields.{decoded}
use Rattle.world_model.specs.frame_model.Frame.{octets_of, tested, passed_test}
use Rattle.world_model.specs.frame_model.Reassembly.{Taken, taken}
use Rattle.world_model.specs.crossbar_model.Crossbar.{output_of}
use Rattle.world_model.specs.Switch.{ActedSwitch, free_slots}
use Rattle.world_model.specs.Conduct.{steps, after_cell, after_test, ends_frame, cell_comes}
use Rattle.law_running_worlds.specs.law_input_steps.Hearing.{IsEnded, PassesTrue}
use Rattle.law_running_worlds.specs.law_world_views.Made.{AreMade}
use Rattle.law_running_worlds.specs.law_world_views.Ready.{FitsSide}
use Rattle.law_running_worlds.proofs.MadeTame.{IsWhole, whole_chain}
use Rattle.law_running_worlds.proofs.law_port_facts.Keyed.{on_each}
use Rattle.law_running_worlds.proofs.law_shown_cells.Tested.{frame_is}
use Rattle.law_live_frames.proofs.Coming.{last_is, finish_there, quiet_there, fails_there}
use Rattle.law_live_hearing.proofs.Taking.{Passes, passes}
use Rattle.law_live_meetings.specs.Exchange.{gsmp, side_after, said_in}
use Rattle.law_live_orders.specs.Law.{is_last_on}
use Rattle.law_live_orders.proofs.Switches.{first, second}
use Rattle.law_live_control_links.proofs.Reading.{one_payload, payload_made}
use Rattle.law_live_waking.specs.Greetings.{Greets}
use Rattle.law_live_waking.proofs.Greetings.{IsOther}
use Rattle.law_live_waking.proofs.Switches.{nothing_said, Turns, step_so, read_other, passes_on}
use Rattle.law_live_waking.proofs.Cells.{fits_made, answers_well}

-- fewer cells in the chain, more slots
less_used : (cells queues chain : ℕ) → nat_lt 0 (cells - (queues + chain)) ≡ true → nat_lt 0 (cells - (queues + 0)) ≡ true
less_used cells queues chain some = grind (arith, nat_tests)

module _ (a : ActedSwitch) (cell : Cell)
    (true_chain : same_channel cell.header.channel default_channel ≡ true → IsEnded (nat_lt 0 (free_slots a.switch)) a.switch.reassembly cell
    → PassesTrue a.notes.frames (a.switch.reassembly.chain ++ cell ∷ [])) where
  abbrev slot : Bool
  slot = nat_lt 0 (free_slots a.switch)

  abbrev side : Side Party
  side = a.switch.adjacency

  abbrev r : Reassembly
  r = a.switch.reassembly

  -- *It is heard*
  module _ (last : is_last_on gsmp_channel cell ≡ true) (message : Said Party) (is : Greets a.notes.frames cell.mark message)
      (unlost : has_entry (cell_comes a control_port cell).notes.entries cell.mark ≡ false) (made : AreMade a.notes.frames) (fits : FitsSide side)
      (some : 0 < length a.switch.crossbar.queues) where
    on : is_gsmp control_port cell.header.channel ≡ true
    on = second cell.header.last (same_channel cell.header.channel gsmp_channel) last

    ends : cell.header.last ≡ true
    ends = first cell.header.last (same_channel cell.header.channel gsmp_channel) last

    unlost_taken : has_entry (finish_there a (taken a.notes slot r cell)).entries cell.mark ≡ false
    unlost_taken = ap (λ (b : Bool). has_entry (if b then gsmp_cell a cell else switched_cell a control_port cell).notes.entries cell.mark) (sym on) ∙ unlost

    p : Passes a.notes r cell slot ends (finish_there a) (quiet_there a) (fails_there a cell) unlost_taken
    p = passes a.notes r cell slot ends (finish_there a) (quiet_there a) (fails_there a cell) unlost_taken

    not_false : (b : Bool) → b ≡ true → not b ≡ false
    not_false true e = refl
    not_false false e = absurd (cc e)

    own : payload_of a.notes.frames cell.mark ≡ Some p.payload
    own = ap (payload_of a.notes.frames) (sym (last_is r.chain cell))
        ∙ frame_is a.notes.frames (last_mark (r.chain ++ cell ∷ [])) p.payload
        (true_chain on (record { listens = p.going; slot_is = not_false slot p.slot_is; short = p.short; last = ends }) p.payload p.test)

    read : decoded p.payload ≡ Ok (Adjacency (greeting_of message))
    read = ap decoded (one_payload p.payload is.payload (sym own ∙ is.made)) ∙ is.read

    abbrev emptied : ActedSwitch
    emptied = record a { switch = record a.switch { reassembly = record r { chain = [] } } }

    abbrev noted_there : ActedSwitch
    noted_there = record emptied { notes = passed_test a.notes cell.mark p.payload }

    ends_there : (b : ActedSwitch) (chain : List Cell) → ends_frame b (chain ++ cell ∷ []) ≡ after_test b (tested b.notes (chain ++ cell ∷ []))
    ends_there b [] = refl
    ends_there b (x ∷ chain) = refl

    acted : cell_comes a control_port cell ≡ steps noted_there (gsmp_received side (greeting_of message))
    acted = ap (λ (b : Bool). if b then gsmp_cell a cell else switched_cell a control_port cell) on
        ∙ (ap (λ (u : Taken). after_cell a u) p.left
        ∙ (ends_there emptied r.chain
        ∙ (ap (λ (o : Option (List ℕ)). after_test emptied (tested_by a.notes (r.chain ++ cell ∷ []) o)) p.test
        ∙ (ap (λ (m : Mark). frame_read (record emptied { notes = passed_test a.notes m p.payload }) (decoded p.payload)) (last_is r.chain cell)
        ∙ ap (λ (x : Result Message Fault). frame_read noted_there x) read))))

    abbrev step : Step Party
    step = gsmp_received side (greeting_of message)

    pub heard_so : Turns a (cell_comes a control_port cell) (side_after (fresh gsmp.first (record (gsmp_received side (greeting_of message)).side.own { instance = next_instance a.numbers }))
        (gsmp_received side (greeting_of message)).answer (gsmp_received side (greeting_of message)).side) (said_in (gsmp_received side (greeting_of message)).answer)
    heard_so = subst (λ (b : ActedSwitch). Turns a b (side_after (fresh gsmp.first (record step.side.own { instance = next_instance a.numbers })) step.answer step.side) (said_in step.answer)) (sym acted)
        (let t = step_so noted_there step some (less_used a.switch.cells _ (length r.chain) p.slot_is)
        (answers_well side message fits (fits_made a.notes.frames cell.mark message made is)) in record { adjacency = t.adjacency; acts = t.acts })

  -- *It is no turn*, where it ends no greeting
  abbrev pub Unheard : Type 0
  Unheard = (payload : List ℕ) (message : Message) → is_last_on gsmp_channel cell ≡ true → payload_of a.notes.frames cell.mark ≡ Some payload → decoded payload ≡ Ok message → IsOther message

  abbrev gathered : Journal → Reassembly → ActedSwitch
  gathered notes chain = record a { switch = record a.switch { reassembly = chain }; notes = notes }

  still : (notes : Journal) (chain : Reassembly) → Turns a (gathered notes chain) side []
  still notes chain = record { adjacency = refl; acts = nothing_said notes.frames _ }

  abbrev ReadsOther : List ℕ → Type 0
  ReadsOther payload = (message : Message) → decoded payload ≡ Ok message → IsOther message

  tests : (notes : Journal) (chain : Reassembly) (cells : List Cell) (o : Option (List ℕ)) → ((payload : List ℕ) → o ≡ Some payload → ReadsOther payload)
      → Turns a (after_test (gathered notes chain) (tested_by notes cells o)) side []
  tests notes chain cells None other = still (tested_by notes cells None).notes chain
  tests notes chain cells (Some payload) other =
      let t = read_other (gathered (tested_by notes cells (Some payload)).notes chain) payload (other payload refl) in
      record { adjacency = t.adjacency; acts = t.acts }

  chain_ends : (notes : Journal) (chain : Reassembly) (cells : List Cell)
      → ((head : Cell) (rest : List Cell) (payload : List ℕ) → cells ≡ head ∷ rest → payload_in (octets_of (head ∷ rest)) ≡ Some payload → ReadsOther payload)
      → Turns a (ends_frame (gathered notes chain) cells) side []
  chain_ends notes chain [] other = still notes chain
  chain_ends notes chain (head ∷ rest) other = tests notes chain (head ∷ rest) (payload_in (octets_of (head ∷ rest))) (λ payload passes_so. other head rest payload refl passes_so)

  module _ (apart : (input output : End) → output_of a.switch.crossbar.branches input ≡ Some output → output.port.0 ≡ 0 → same_channel output.channel default_channel ≡ false) where
    pub unheard_so : Unheard → Turns a (cell_comes a control_port cell) side []
    unheard_so quietly = on_each (λ (b : ActedSwitch). Turns a b side []) (is_gsmp control_port cell.header.channel) (gsmp_cell a cell) (switched_cell a control_port cell)
        (λ on. chain_ends (taken a.notes slot r cell).notes (taken a.notes slot r cell).reassembly (taken a.notes slot r cell).ended (reads on))
        (λ off. passes_on a apart control_port cell)
      where
        both : (x y : Bool) → x ≡ true → y ≡ true → (x && y) ≡ true
        both true y e f = f
        both false y e f = absurd (cc e)

        reads : is_gsmp control_port cell.header.channel ≡ true → (head : Cell) (rest : List Cell) (payload : List ℕ) → (taken a.notes slot r cell).ended ≡ head ∷ rest
            → payload_in (octets_of (head ∷ rest)) ≡ Some payload → ReadsOther payload
        reads on head rest payload ended passes_so message is =
            let whole : IsWhole slot r cell (head ∷ rest) = whole_chain a.notes slot r cell head rest ended in
            quietly payload message (both cell.header.last (same_channel cell.header.channel gsmp_channel) whole.is_ended.last on)
            (payload_made a.notes.frames a.notes slot r cell (true_chain on) head rest payload ended passes_so) is

-- *Nor is one that comes over a link*
module _ (a : ActedSwitch) (cell : Cell) (apart : (input output : End) → output_of a.switch.crossbar.branches input ≡ Some output → output.port.0 ≡ 0 → same_channel output.channel default_channel ≡ false) where
  pub passed_so : (port : PortNo) → 1 ≤ port.0 → Turns a (cell_comes a port cell) a.switch.adjacency []
  passed_so port link = on_each (λ (b : ActedSwitch). Turns a b a.switch.adjacency []) (is_gsmp port cell.header.channel) (gsmp_cell a cell) (switched_cell a port cell)
      (λ on. absurd (not_control port.0 link (front (port.0 == 0) ((cell.header.channel.vpi == 0) && (cell.header.channel.vci == 15)) on)))
      (λ off. passes_on a apart port cell)
    where
      front : (x y : Bool) → (x && y) ≡ true → x ≡ true
      front true y e = refl
      front false y e = e

      is_zero : (n : ℕ) → (n == 0) ≡ true → n ≡ 0
      is_zero n e = grind (arith, nat_tests)

      not_control : (n : ℕ) → 1 ≤ n → (n == 0) ≡ true → ⊥
      not_control n link e = absurd (omega (arith, link, is_zero n e))
