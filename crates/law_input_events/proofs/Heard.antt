-- a cell of the GSMP channel comes to a switch: what is asked of it holds of what its controller says

use Rattle.std.proofs.Common.{◌≡◌, ℕ, ◌+◌, ◌<◌, ◌^◌, Bool, true, false, List, [], ◌∷◌, ◌++◌, Option, None, Some, Result, Ok, Err, refl, sym, ◌∙◌, ap, subst, if◌then◌else◌}
use Rattle.std.specs.Prelude.{nat_lt}
use Rattle.std.specs.Option.{option_and_then}
use Rattle.law_input_premises.specs.world_model.Words.{Greeting, HelloKind, Party, End, NodeId, side_of, step_by, gsmp_answer, gsmp_received, SideByInstances, row_for, enters, after_row, Side, Step, Row, Reply, Silent, Says, Resets, Cell, FitsParty, payload_of, last_mark, payload_in, Setup, Controller, default_channel, same_channel, gsmp_of, gsmp_under}
use Rattle.law_input_premises.proofs.world_model.adjacency_table.EndsLemmas.{gsmp_received_by_instances}
use Rattle.law_input_premises.specs.world_model.gsmp_wire.Fields.{decoded}
use Rattle.law_input_premises.specs.world_model.gsmp_wire.declared.fault.Fault.{Fault}
use Rattle.law_input_premises.specs.world_model.gsmp_wire.declared.message.Message.{Message}
use Rattle.law_input_premises.specs.world_model.gsmp_wire.declared.message.Message.TheVariants.{Adjacency}
use Rattle.law_input_premises.specs.world_model.frame_model.Frame.{octets_of as cell_octets}
use Rattle.law_input_premises.specs.ordered_lists.Ordered.{Every}
use Rattle.law_input_premises.proofs.ordered_lists.Every.{every_right}
use Rattle.law_input_premises.specs.law_branch_line.Words.{ToSwitch, ControllerGreets}
use Rattle.law_input_premises.specs.law_branch_line.Line.{Line}
use Rattle.law_input_premises.specs.law_branch_line.Law.{IsDrawn, NamesDrawn, HasDrawn, IsReached}
use Rattle.law_input_premises.proofs.law_branch_line.Drawn.{row_drawn}
use Rattle.law_input_premises.specs.world_model.Switch as switches
use Rattle.law_input_premises.specs.world_model.Ways.{ok_of}
use Rattle.law_input_premises.specs.law_shown_cells.Seen.{Seen, Nothing, Word, Unknown}
use Rattle.law_input_premises.proofs.law_shown_cells.Shows.{First, no_word, a_word, first_of}
use Rattle.law_input_premises.specs.law_input_views.Words.{is_own_greeting, seen_request, seen_on_gsmp, seen_cell, erased}
use Rattle.law_input_premises.specs.law_input_views.Shown.{controller_of, switch_of, ShowsRequests}
use Rattle.law_input_premises.specs.law_input_steps.Hearing.{HasQueue, IsEnded, Reads, Comes, PassesTrue}
use Rattle.law_input_premises.specs.law_input_steps.Part.{Part, part_beside, Stands}
use Rattle.law_input_premises.proofs.law_input_steps.Handled.{greets_is}
use Rattle.law_input_premises.proofs.law_input_steps.Parties.{answer_at, greeting_is}
use Rattle.law_input_premises.proofs.Asking.{shaped_asked}
use Rattle.law_input_premises.proofs.Reading.{controller_fits, switch_fits, greeting_read}
use Rattle.law_input_premises.proofs.law_shown_cells.Tested.{frame_is, last_is}
use Rattle.law_input_events.specs.Coming.{TellsPorts, IsToSwitch}
use Rattle.law_input_events.proofs.Answering.{answer_reads}
use Rattle.law_input_events.proofs.Spoken.{drawn, fits}

-- *What a side answers* to a greeting is read as it was said
module _ (own far : ℕ → Party) (owns : (n : ℕ) → n < 2 ^ 32 → FitsParty (own n)) (fars : (n : ℕ) → n < 2 ^ 32 → FitsParty (far n)) where
  answer_by : (enters : Bool) (key : Party) (side : SideByInstances) (found : Reply) (s r : ℕ) → side.own < 2 ^ 32 → side.stored < 2 ^ 32 → s < 2 ^ 32 → r < 2 ^ 32
      → Reads (answer_at own far enters key side found s r)
  answer_by true key side Silent s r o t x y = tt
  answer_by false key side Silent s r o t x y = tt
  answer_by true key side (Says kind) s r o t x y = greeting_read own far owns fars side kind s r o t x y
  answer_by false key side (Says kind) s r o t x y = greeting_read own far owns fars side kind s r o t x y
  answer_by true key side Resets s r o t x y = tt
  answer_by false key side Resets s r o t x y = tt

  pub step_reads : (side : SideByInstances) (silence : ℕ) (found : Row) (s r : ℕ) → side.own < 2 ^ 32 → side.stored < 2 ^ 32 → s < 2 ^ 32 → r < 2 ^ 32
      → Reads (gsmp_answer (step_by own far side silence found s r).answer)
  step_reads side silence found s r o t x y =
      let d : IsDrawn (2 ^ 32) (after_row side found s) = row_drawn (2 ^ 32) side found s (o, t) x in
      answer_by (enters side found) (own side.own) (after_row side found s) found.reply s r d.0 d.1 x y

module _ (node : NodeId) (input : End) where
  -- *A greeting* is the first word, so it names instances that were drawn
  abbrev Names : Line → Greeting → Type 0
  Names line g = (g.sender.instance.0 < line.fresh) × (g.receiver.instance.0 < line.fresh)

  to_switch_first : (line : Line) (g : Greeting) (cell : Cell) (cells : List Cell) (f : Cell → Seen ToSwitch) (b : Bool) (words : List ToSwitch) → Every (NamesDrawn line.fresh) words → First erased f cell cells words
      → f cell ≡ (if b then Word (ControllerGreets g.kind g.sender.instance.0 g.receiver.instance.0) else Unknown) → (b ≡ true) × Names line g
  to_switch_first line g cell cells f true words all (no_word e rest) is = absurd (cc (sym is ∙ e))
  to_switch_first line g cell cells f false words all (no_word e rest) is = absurd (cc (sym is ∙ e))
  to_switch_first line g cell cells f false words all (a_word {t} {ts} e rest) is = absurd (cc (sym is ∙ e))
  to_switch_first line g cell cells f true words all (a_word {t} {ts} e rest) is =
      (refl, subst (NamesDrawn line.fresh) (greets_is t g.kind g.sender.instance.0 g.receiver.instance.0 (sym e ∙ is)) all.0)

  module _ (c : Controller) (a : switches.ActedSwitch) (cell : Cell) (cells : List Cell) (front : c.queue ≡ cell ∷ cells) (here : same_channel cell.header.channel default_channel ≡ true) where
    abbrev seen : (last : Bool) → Option Message → Seen ToSwitch
    seen last m = seen_request (controller_of node) (switch_of node) input last m

    abbrev message_in : Result Message Fault → Option Message
    message_in (Ok m) = Some m
    message_in (Err fault) = None

    greets_first : (line : Line) (g : Greeting) (payload : List ℕ) → HasDrawn line → Stands node input (part_beside input c a) line → cell.header.last ≡ true → payload_of a.notes.frames cell.mark ≡ Some payload
        → decoded payload ≡ Ok (Adjacency g) → (is_own_greeting (controller_of node) (switch_of node) g ≡ true) × Names line g
    greets_first line g payload d h last made ok = to_switch_first line g cell cells (seen_cell seen a.notes.frames) (is_own_greeting (controller_of node) (switch_of node) g) line.to_switch
        (every_right (NamesDrawn line.fresh) line.at_switch line.to_switch d.to_switch)
        (first_of (subst (λ (z : List Cell). ShowsRequests node input a.notes.frames z line.to_switch) front h.to_switch))
        (ap (λ (b : Bool). if b then seen_on_gsmp seen cell.header.last (payload_of a.notes.frames cell.mark) else Nothing) here
        ∙ ((λ i. seen_on_gsmp seen (last i) (made i)) ∙ ap (λ (r : Result Message Fault). seen true (message_in r)) ok))

    -- *The cell comes*
    pub comes : (setups : List Setup) (line : Line) → node.0 < 256 → a.numbers.instances + 20 < 2 ^ 32 → IsReached line → Stands node input (part_beside input c a) line → HasQueue a.switch → TellsPorts a.switch.ports
        → ((m : Message) → gsmp_under a.notes.frames cell.mark ≡ Some m → IsToSwitch setups m) → (IsEnded (nat_lt 0 (switches.free_slots a.switch)) a.switch.reassembly cell → PassesTrue a.notes.frames (a.switch.reassembly.chain ++ cell ∷ [])) → Comes c a cell cells
    comes setups line small left reached h queue tells said passes = record {
      front = front;
      here = here;
      passes = passes;
      hand = λ payload ended is. (let made : payload_of a.notes.frames cell.mark ≡ Some payload = under ended payload is in record {
        some = queue;
        well = λ m ok s copy. shaped_asked setups s.request ((said m (message payload m made ok)).shaped s copy);
        reads = λ m ok. record {
          greets = λ g e. greets payload ended.last made g (ok ∙ ap (λ (z : Message). Ok z) e);
          answers = λ is. (let k = said m (message payload m made ok) in answer_reads (record a.switch { reassembly = record a.switch.reassembly { chain = [] } }) a.notes tells m k.fits k.said (λ s copy. shaped_asked setups s.request (k.shaped s copy)) is);
        };
      });
    }
      where
        under : IsEnded (nat_lt 0 (switches.free_slots a.switch)) a.switch.reassembly cell → (payload : List ℕ) → payload_in (cell_octets (a.switch.reassembly.chain ++ cell ∷ [])) ≡ Some payload → payload_of a.notes.frames cell.mark ≡ Some payload
        under ended payload is = ap (payload_of a.notes.frames) (sym (last_is a.switch.reassembly.chain cell)) ∙ frame_is a.notes.frames (last_mark (a.switch.reassembly.chain ++ cell ∷ [])) payload (passes ended payload is)

        message : (payload : List ℕ) (m : Message) → payload_of a.notes.frames cell.mark ≡ Some payload → decoded payload ≡ Ok m → gsmp_under a.notes.frames cell.mark ≡ Some m
        message payload m made ok = ap (λ (o : Option (List ℕ)). option_and_then gsmp_of o) made ∙ ap (λ (r : Result Message Fault). ok_of r) ok

        p : Part
        p = part_beside input c a

        own : (x : ℕ) → x < line.fresh → x < 2 ^ 32
        own x less = fits node input p line small left reached h x less

        d : HasDrawn line
        d = drawn node input p line small left reached h

        greets : (payload : List ℕ) → cell.header.last ≡ true → payload_of a.notes.frames cell.mark ≡ Some payload → (g : Greeting) → decoded payload ≡ Ok (Adjacency g) → Reads (gsmp_answer (gsmp_received a.switch.adjacency g).answer)
        greets payload last made g ok =
            let first : (is_own_greeting (controller_of node) (switch_of node) g ≡ true) × Names line g = greets_first line g payload d h last made ok in
            let side : SideByInstances = line.switch.adjacency in
            let kind : HelloKind = g.kind in
            let s : ℕ = g.sender.instance.0 in
            let r : ℕ = g.receiver.instance.0 in
            let received : gsmp_received a.switch.adjacency g ≡ step_by (switch_of node) (controller_of node) side a.switch.adjacency.silence (row_for side kind s r) s r =
            ap (λ (y : Side Party). gsmp_received y g) h.far.side
            ∙ (ap (gsmp_received (side_of (switch_of node) (controller_of node) side a.switch.adjacency.silence)) (greeting_is (controller_of node) (switch_of node) g first.0)
            ∙ gsmp_received_by_instances (switch_of node 0) (controller_of node 0) side a.switch.adjacency.silence kind s r) in
            subst (λ (y : Step Party). Reads (gsmp_answer y.answer)) (sym received)
            (step_reads (switch_of node) (controller_of node) (λ n less. switch_fits node n small less) (λ n less. controller_fits node n small less) side a.switch.adjacency.silence (row_for side kind s r) s r
            (own side.own d.switch.0) (own side.stored d.switch.1) (own s first.1.0) (own r first.1.1))
