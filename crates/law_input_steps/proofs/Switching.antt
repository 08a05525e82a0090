-- the switch hears a greeting, ticks, is reset and restarts

use Rattle.std.proofs.Common.{◌≡◌, ℕ, ◌+◌, ◌≤◌, Bool, true, false, List, [], ◌∷◌, ◌++◌, Option, Some, refl, sym, ◌∙◌, ap, subst, length, append-nil, arith, slice_set, slice_index_or, if◌then◌else◌}
use Rattle.std.specs.Prelude.{nat_le}
use Rattle.law_input_views.specs.world_model.Words.{End, NodeId, Mark, Greeting, HelloKind, Syn, Synack, Rstack, Ack, Party, next_control, with_control, next_instance, with_instance, SynSent, Side, Step, fresh, ticked, Reply, Silent, Says, Resets, Row, tick_reply, SideByInstances, row_for, after_row, enters, is_reset, greeting, side_of, said_by, step_by, tick_by, greeting_of, gsmp_answer, gsmp_received, Cell, Loss, PoolFull, payload_of, noted, frame_cells, made, Crossbar, queue_of, sent, Controller, default_channel, Switch, control_port, gsmp_channel, reset, tick_comes}
use Rattle.law_input_views.specs.world_model.adjacency_table.Side.{counted}
use Rattle.law_input_views.proofs.law_port_facts.port_model.adjacency_table.EndsLemmas.{gsmp_received_by_instances, ticked_by_instances}
use Rattle.law_input_views.specs.world_model.gsmp_wire.declared.message.Message.{Message}
use Rattle.law_input_views.specs.world_model.gsmp_wire.declared.message.Message.TheVariants.{Adjacency}
use Rattle.law_input_views.specs.world_model.gsmp_wire.Layout.{octets_of}
use Rattle.law_input_views.specs.world_model.frame_model.Sending.{Sender}
use Rattle.law_input_views.proofs.law_port_facts.Keyed.{on_both}
use Rattle.law_input_views.specs.law_branch_line.Words.{ToController, SwitchGreets, ControllerGreets}
use Rattle.law_input_views.specs.law_branch_line.Line.{Line, spoken}
use Rattle.law_input_views.specs.law_branch_line.Switch.{reply, reset_switch, tick_switch}
use Rattle.law_input_views.specs.law_branch_line.Moves.{SwitchTakes, SwitchTicks, SwitchResets, LoseAtSwitch}
use Rattle.law_input_views.specs.law_branch_line.Words as lines
use Rattle.law_input_views.specs.world_model.Switch.{ActedSwitch, free_slots}
use Rattle.law_input_views.specs.world_model.Conduct.{with_cells, sends, says, answers, steps, greeted}
use Rattle.law_input_views.specs.law_shown_cells.Seen.{Seen, Nothing, Word}
use Rattle.law_input_views.specs.Words.{is_own_greeting, seen_answer, seen_on_gsmp, erased_back}
use Rattle.law_input_views.specs.Shown.{controller_of, switch_of, ShowsAnswers}
use Rattle.law_input_views.proofs.Cells.{frame_of_answer}
use Rattle.law_input_steps.specs.Part.{Part, part_beside, Stands, Reaches, AnyLine, Leads}
pub use Rattle.law_input_steps.specs.Hearing.{HasQueue}
use Rattle.law_input_steps.proofs.Goes.{stays, goes_next, by_move, draw_to, lose_to_controller}
use Rattle.law_input_steps.proofs.Reach.{reaches_by, reaches_behind, stands_later}
use Rattle.law_input_steps.proofs.Sent.{IsReadable, pool, pool_shows, pool_part, with_made, made_extends, made_unmade, made_under}
use Rattle.law_input_steps.proofs.Parties.{greeting_is, greeting_seen, Reads, answer_at}

-- *A frame of the switch* to its controller
abbrev pub with_back : Part → (payload : List ℕ) → (fits : Bool) → Part
with_back p payload fits = record (with_made p payload) { back = pool fits p.back (frame_cells default_channel (next_control p.numbers) payload) }

pub set_first : (queues : List (List Cell)) (cells : List Cell) → 1 ≤ length queues → slice_index_or (slice_set queues 0 cells) 0 [] ≡ cells
set_first [] cells some = absurd (omega (arith, some))
set_first (q ∷ queues) cells some = refl

queue_sent : (x : Crossbar) (cells : List Cell) → 1 ≤ length x.queues → queue_of (sent x control_port cells) control_port ≡ queue_of x control_port ++ cells
queue_sent x cells some = set_first x.queues (queue_of x control_port ++ cells) some

sent_cases : (P : ActedSwitch → Type 0) (a : ActedSwitch) (mark : Mark) (payload : List ℕ)
    → P (record a { switch = with_cells a.switch control_port (frame_cells gsmp_channel mark payload); notes = made a.notes mark payload })
    → P (record a { notes = noted (made a.notes mark payload) (Loss mark PoolFull) }) → P (sends a control_port gsmp_channel mark payload)
sent_cases P a mark payload p q = on_both (λ (s : Sender Switch). P (record a { switch = s.queues; notes = s.notes }))
    (nat_le (length (frame_cells gsmp_channel mark payload)) (free_slots a.switch))
    (record { queues = with_cells a.switch control_port (frame_cells gsmp_channel mark payload); notes = made a.notes mark payload })
    (record { queues = a.switch; notes = noted (made a.notes mark payload) (Loss mark PoolFull) }) p q

pub switch_said : (input : End) (c : Controller) (P : Part → Type 0) (a : ActedSwitch) (message : Message) → HasQueue a.switch
    → ((fits : Bool) → P (with_back (part_beside input c a) (octets_of message) fits)) → P (part_beside input c (says a message))
switch_said input c P a message some f =
    let b : ActedSwitch = record a { numbers = with_control a.numbers } in
    let cells : List Cell = frame_cells gsmp_channel (next_control a.numbers) (octets_of message) in
    let p : Part = part_beside input c a in
    sent_cases (λ (z : ActedSwitch). P (part_beside input c z)) b (next_control a.numbers) (octets_of message)
    (subst (λ (z : List Cell). P (record (with_made p (octets_of message)) { back = z })) (sym (queue_sent a.switch.crossbar cells some)) (f true)) (f false)

module _ (node : NodeId) (input : End) where
  abbrev pub seen_back : (last : Bool) → Option Message → Seen ToController
  seen_back last m = seen_answer (switch_of node) (controller_of node) input last m

  -- what is said stands behind what waits for the controller, or is lost
  pub said_back : (p : Part) (message : Message) (w : ToController) (fits : Bool) (line : Line) → IsReadable message → seen_back false (Some message) ≡ Nothing
      → seen_back true (Some message) ≡ Word (erased_back w) → Stands node input p line → Reaches node input (with_back p (octets_of message) fits) AnyLine (reply line (w ∷ []))
  said_back p message w fits line reads early last h =
      reaches_by node input (with_back p payload fits) (reply line (w ∷ [])) (record line { to_controller = pool fits line.to_controller (w ∷ []) })
      (lose_to_controller line (pool_part fits line.to_controller (w ∷ [])))
      (record {
        own = h.own;
        far = h.far;
        to_switch = later.to_switch;
        at_switch = later.at_switch;
        to_controller = pool_shows fits later.to_controller
            (frame_of_answer seen_back erased_back (with_made p payload).frames (next_control p.numbers) payload w (seen false ∙ early) (seen true ∙ last));
        gathered = later.gathered;
        at_controller = h.at_controller;
        drawn = h.drawn;
        before = h.before;
        behind = h.behind;
        unmade = later.unmade;
        numbered = h.numbered;
      })
    where
      payload : List ℕ
      payload = octets_of message

      later : Stands node input (with_made p payload) line
      later = stands_later node input p (with_made p payload).frames (with_control p.numbers) line (made_extends p payload h.unmade) (made_unmade p payload h.unmade) (omega arith) h

      seen : (last : Bool) → seen_on_gsmp seen_back last (payload_of (with_made p payload).frames (next_control p.numbers)) ≡ seen_back last (Some message)
      seen last = ap (seen_on_gsmp seen_back last) (made_under p payload) ∙ ap (seen_back last) reads

  -- *The switch is reset*
  abbrev pub switch_reset_part : Part → Part
  switch_reset_part p = record p {
    far = fresh SynSent (record p.far.own { instance = next_instance p.numbers });
    numbers = with_instance p.numbers;
  }

  pub switch_reset_leads : (p : Part) → Leads node input p (switch_reset_part p)
  switch_reset_leads p line h =
      let drawn : Line = record line { fresh = p.numbers.instances + 1 } in
      reaches_by node input (switch_reset_part p) line (reset_switch drawn)
      (goes_next line drawn (reset_switch drawn) (draw_to (p.numbers.instances + 1) line h.drawn) (by_move drawn SwitchResets (reset_switch drawn) refl))
      (record {
        own = h.own;
        far = record { side = ap (λ (s : Side Party). fresh SynSent (record s.own { instance = next_instance p.numbers })) h.far.side; branch = h.far.branch };
        to_switch = h.to_switch;
        at_switch = h.at_switch;
        to_controller = h.to_controller;
        gathered = h.gathered;
        at_controller = h.at_controller;
        drawn = omega arith;
        before = h.before;
        behind = h.behind;
        unmade = h.unmade;
        numbered = h.numbered;
      })

  -- *What a side answers* is said
  early_greeting : (g : Greeting) → seen_back false (Some (Adjacency g)) ≡ Nothing
  early_greeting g = refl

  own_number : (n : ℕ) → (switch_of node n).instance.0 ≡ n
  own_number n = refl

  far_number : (n : ℕ) → (controller_of node n).instance.0 ≡ n
  far_number n = refl

  erased_greeting : (side : SideByInstances) (kind : HelloKind) (s r : ℕ) → erased_back (greeting SwitchGreets side kind s r) ≡ greeting SwitchGreets side kind s r
  erased_greeting side Syn s r = refl
  erased_greeting side Synack s r = refl
  erased_greeting side Rstack s r = refl
  erased_greeting side Ack s r = refl

  speaks_greeting : (c : Controller) (a : ActedSwitch) (side : SideByInstances) (kind : HelloKind) (s r : ℕ) (line : Line) → HasQueue a.switch
      → IsReadable (Adjacency (greeting_of (greeting (said_by (switch_of node) (controller_of node)) side kind s r))) → Stands node input (part_beside input c a) line
      → Reaches node input (part_beside input c (says a (Adjacency (greeting_of (greeting (said_by (switch_of node) (controller_of node)) side kind s r))))) AnyLine
      (reply line (greeting SwitchGreets side kind s r ∷ []))
  speaks_greeting c a side kind s r line some reads h =
      let g : Greeting = greeting_of (greeting (said_by (switch_of node) (controller_of node)) side kind s r) in
      switch_said input c (λ (q : Part). Reaches node input q AnyLine (reply line (greeting SwitchGreets side kind s r ∷ []))) a (Adjacency g) some
      (λ fits. said_back (part_beside input c a) (Adjacency g) (greeting SwitchGreets side kind s r) fits line reads (early_greeting g)
      (greeting_seen (switch_of node) (controller_of node) own_number far_number SwitchGreets side kind s r
      ∙ ap (λ (w : ToController). Word w) (sym (erased_greeting side kind s r))) h)

  silent_line : (p : Part) (line : Line) → Stands node input p line → Reaches node input p AnyLine (reply line [])
  silent_line p line h = reaches_by node input p (reply line []) (reply line []) (stays (reply line [])) (record {
    own = h.own;
    far = h.far;
    to_switch = h.to_switch;
    at_switch = h.at_switch;
    to_controller = subst (ShowsAnswers node input p.frames p.back) (sym (append-nil line.to_controller)) h.to_controller;
    gathered = h.gathered;
    at_controller = h.at_controller;
    drawn = h.drawn;
    before = h.before;
    behind = h.behind;
    unmade = h.unmade;
    numbered = h.numbered;
  })

  answers_line : (c : Controller) (a : ActedSwitch) (enters : Bool) (key : Party) (side : SideByInstances) (found : Reply) (s r : ℕ) (line : Line) → is_reset found ≡ false → HasQueue a.switch
      → Reads (answer_at (switch_of node) (controller_of node) enters key side found s r) → Stands node input (part_beside input c a) line
      → Reaches node input (part_beside input c (answers a (answer_at (switch_of node) (controller_of node) enters key side found s r))) AnyLine (reply line (spoken SwitchGreets found side s r))
  answers_line c a true key side Silent s r line quiet some reads h = silent_line (part_beside input c a) line h
  answers_line c a false key side Silent s r line quiet some reads h = silent_line (part_beside input c a) line h
  answers_line c a true key side (Says kind) s r line quiet some reads h = speaks_greeting c a side kind s r line some reads h
  answers_line c a false key side (Says kind) s r line quiet some reads h = speaks_greeting c a side kind s r line some reads h
  answers_line c a enters key side Resets s r line quiet some reads h = absurd (cc quiet)

  answers_reset : (a : ActedSwitch) (enters : Bool) (key : Party) (side : SideByInstances) (found : Reply) (s r : ℕ) → is_reset found ≡ true
      → answers a (answer_at (switch_of node) (controller_of node) enters key side found s r) ≡ reset a
  answers_reset a true key side Resets s r is = refl
  answers_reset a false key side Resets s r is = refl
  answers_reset a enters key side Silent s r is = absurd (cc is)
  answers_reset a enters key side (Says kind) s r is = absurd (cc is)

  -- *A greeting is heard*: it is the one message in the chain
  abbrev pub with_chain : Line → List lines.ToSwitch → Line
  with_chain line words = record line { at_switch = words }

  with_far : (p : Part) (line : Line) (side : SideByInstances) (silence : ℕ) → Stands node input p line
      → Stands node input (record p { far = side_of (switch_of node) (controller_of node) side silence }) (record line { switch = record line.switch { adjacency = side } })
  with_far p line side silence h = record {
    own = h.own;
    far = record { side = refl; branch = h.far.branch };
    to_switch = h.to_switch;
    at_switch = h.at_switch;
    to_controller = h.to_controller;
    gathered = h.gathered;
    at_controller = h.at_controller;
    drawn = h.drawn;
    before = h.before;
    behind = h.behind;
    unmade = h.unmade;
    numbered = h.numbered;
  }

  stepped : (c : Controller) (a : ActedSwitch) (line : Line) (kind : HelloKind) (s r : ℕ) → HasQueue a.switch
      → let side : SideByInstances = line.switch.adjacency in
      let made : Step Party = step_by (switch_of node) (controller_of node) side a.switch.adjacency.silence (row_for side kind s r) s r in
      Reads (gsmp_answer made.answer) → Stands node input (part_beside input c a) (with_chain line [])
      → Reaches node input (part_beside input c (steps a made)) AnyLine (with_chain line (ControllerGreets kind s r ∷ []))
  stepped c a line kind s r some reads h =
      let side : SideByInstances = line.switch.adjacency in
      let found : Row = row_for side kind s r in
      let after : SideByInstances = after_row side found s in
      let made : Step Party = step_by (switch_of node) (controller_of node) side a.switch.adjacency.silence found s r in
      let b : Line = with_chain line [] in
      let full : Line = with_chain line (ControllerGreets kind s r ∷ []) in
      let z : ActedSwitch = record a { switch = record a.switch { adjacency = made.side } } in
      let sided : Line = record b { switch = record b.switch { adjacency = after } } in
      let shown : Stands node input (part_beside input c z) sided = with_far (part_beside input c a) b after (if found.clears_silence then 0 else a.switch.adjacency.silence) h in
      elim (is_reset found.reply) as (λ t. is_reset found.reply ≡ t → Reaches node input (part_beside input c (steps a made)) AnyLine full) [
        | true ↦ λ t. subst (λ (y : ActedSwitch). Reaches node input (part_beside input c y) AnyLine full) (sym (answers_reset z (enters side found) (switch_of node side.own) after found.reply s r t))
            (reaches_behind node input (part_beside input c (reset z)) AnyLine full b (by_move full (LoseAtSwitch 0) b refl)
            (subst (λ (own : Party). Reaches node input (record (switch_reset_part (part_beside input c a)) { far = fresh SynSent (record own { instance = next_instance a.numbers }) }) AnyLine b)
            (ap (λ (y : Side Party). y.own) h.far.side) (switch_reset_leads (part_beside input c a) b h)))
        | false ↦ λ t. reaches_behind node input (part_beside input c (steps a made)) AnyLine full (reply sided (spoken SwitchGreets found.reply after s r))
            (by_move full (SwitchTakes lines.Success) (reply sided (spoken SwitchGreets found.reply after s r))
            (ap (λ (u : Bool). if u then reset_switch b else reply sided (spoken SwitchGreets found.reply after s r)) t))
            (answers_line c z (enters side found) (switch_of node side.own) after found.reply s r sided t some reads shown)
      ] refl

  pub greeted_line : (c : Controller) (a : ActedSwitch) (line : Line) (g : Greeting) → is_own_greeting (controller_of node) (switch_of node) g ≡ true → HasQueue a.switch
      → Reads (gsmp_answer (gsmp_received a.switch.adjacency g).answer) → Stands node input (part_beside input c a) (with_chain line [])
      → Reaches node input (part_beside input c (greeted a g)) AnyLine (with_chain line (ControllerGreets g.kind g.sender.instance.0 g.receiver.instance.0 ∷ []))
  greeted_line c a line g own some reads h =
      let side : SideByInstances = line.switch.adjacency in
      let kind : HelloKind = g.kind in
      let s : ℕ = g.sender.instance.0 in
      let r : ℕ = g.receiver.instance.0 in
      let made : gsmp_received a.switch.adjacency g ≡ step_by (switch_of node) (controller_of node) side a.switch.adjacency.silence (row_for side kind s r) s r =
      ap (λ (y : Side Party). gsmp_received y g) h.far.side
      ∙ (ap (gsmp_received (side_of (switch_of node) (controller_of node) side a.switch.adjacency.silence)) (greeting_is (controller_of node) (switch_of node) g own)
      ∙ gsmp_received_by_instances (switch_of node 0) (controller_of node 0) side a.switch.adjacency.silence kind s r) in
      subst (λ (y : Step Party). Reaches node input (part_beside input c (steps a y)) AnyLine (with_chain line (ControllerGreets kind s r ∷ []))) (sym made)
      (stepped c a line kind s r some (subst (λ (y : Step Party). Reads (gsmp_answer y.answer)) made reads) h)

  -- *A tick*
  ticks_quietly : (c : Controller) (a : ActedSwitch) (line : Line) (found : Reply) → is_reset found ≡ false → HasQueue a.switch
      → tick_reply line.switch.adjacency.state (counted line.switch.adjacency.state a.switch.adjacency.silence) ≡ found
      → Reads (answer_at (switch_of node) (controller_of node) false (switch_of node 0) line.switch.adjacency found 0 0) → Stands node input (part_beside input c a) line
      → Reaches node input (part_beside input c (answers
      (record a { switch = record a.switch { adjacency = side_of (switch_of node) (controller_of node) line.switch.adjacency (counted line.switch.adjacency.state a.switch.adjacency.silence) } })
      (answer_at (switch_of node) (controller_of node) false (switch_of node 0) line.switch.adjacency found 0 0))) AnyLine line
  ticks_quietly c a line found quiet some is reads h =
      let side : SideByInstances = line.switch.adjacency in
      let silence : ℕ = counted side.state a.switch.adjacency.silence in
      let z : ActedSwitch = record a { switch = record a.switch { adjacency = side_of (switch_of node) (controller_of node) side silence } } in
      let sided : Stands node input (part_beside input c z) line = record {
        own = h.own;
        far = record { side = refl; branch = h.far.branch };
        to_switch = h.to_switch;
        at_switch = h.at_switch;
        to_controller = h.to_controller;
        gathered = h.gathered;
        at_controller = h.at_controller;
        drawn = h.drawn;
        before = h.before;
        behind = h.behind;
        unmade = h.unmade;
        numbered = h.numbered;
      } in
      reaches_behind node input (part_beside input c (answers z (answer_at (switch_of node) (controller_of node) false (switch_of node 0) side found 0 0))) AnyLine line
      (reply line (spoken SwitchGreets found side 0 0))
      (by_move line (SwitchTicks silence) (reply line (spoken SwitchGreets found side 0 0)) (ap (tick_switch line) is ∙ ticks_by line found quiet))
      (answers_line c z false (switch_of node 0) side found 0 0 line quiet some reads sided)
    where
      ticks_by : (line : Line) (found : Reply) → is_reset found ≡ false → tick_switch line found ≡ reply line (spoken SwitchGreets found line.switch.adjacency 0 0)
      ticks_by line Silent q = refl
      ticks_by line (Says kind) q = refl
      ticks_by line Resets q = absurd (cc q)

  ticked_line : (c : Controller) (a : ActedSwitch) (line : Line) (found : Reply) → HasQueue a.switch → tick_reply line.switch.adjacency.state (counted line.switch.adjacency.state a.switch.adjacency.silence) ≡ found
      → Reads (gsmp_answer (tick_by (switch_of node) (controller_of node) line.switch.adjacency a.switch.adjacency.silence found).answer) → Stands node input (part_beside input c a) line
      → Reaches node input (part_beside input c (steps a (tick_by (switch_of node) (controller_of node) line.switch.adjacency a.switch.adjacency.silence found))) AnyLine line
  ticked_line c a line Resets some is reads h =
      subst (λ (own : Party). Reaches node input (record (switch_reset_part (part_beside input c a)) { far = fresh SynSent (record own { instance = next_instance a.numbers }) }) AnyLine line)
      (ap (λ (y : Side Party). y.own) h.far.side) (switch_reset_leads (part_beside input c a) line h)
  ticked_line c a line Silent some is reads h = ticks_quietly c a line Silent refl some is reads h
  ticked_line c a line (Says kind) some is reads h = ticks_quietly c a line (Says kind) refl some is reads h

  pub switch_ticks_leads : (c : Controller) (a : ActedSwitch) → HasQueue a.switch → Reads (gsmp_answer (ticked a.switch.adjacency).answer)
      → Leads node input (part_beside input c a) (part_beside input c (tick_comes a))
  switch_ticks_leads c a some reads line h =
      let side : SideByInstances = line.switch.adjacency in
      let made : ticked a.switch.adjacency ≡ tick_by (switch_of node) (controller_of node) side a.switch.adjacency.silence (tick_reply side.state (counted side.state a.switch.adjacency.silence)) =
      ap (λ (y : Side Party). ticked y) h.far.side ∙ ticked_by_instances (switch_of node) (controller_of node) side a.switch.adjacency.silence in
      subst (λ (y : Step Party). Reaches node input (part_beside input c (steps a y)) AnyLine line) (sym made)
      (ticked_line c a line (tick_reply side.state (counted side.state a.switch.adjacency.silence)) some refl (subst (λ (y : Step Party). Reads (gsmp_answer y.answer)) made reads) h)
