-- the line of an input once its controller took a success of its switch

use Rattle.std.proofs.Common.{◌≡◌, ℕ, Bool, true, false, List, [], ◌∷◌, ◌++◌, Option, None, Some, refl, sym, ◌∙◌, ap, subst, if◌then◌else◌}
use Rattle.std.specs.Prelude.{◌==◌, ◌&&◌, find}
use Rattle.world_model.specs.Words.{End, NodeId, GivenOut, Cell, is_estab, Frame, payload_of, queue_of, Standing, Head, head_of, is_of_type, Unknown, Done, Failed, succeeded, outcome, answered_with, answered, without_request, control_port, asked_in, default_channel, same_channel, Site, gsmp_of, copy_by}
use Rattle.world_model.specs.gsmp_wire.declared.message.Message.{Message}
use Rattle.world_model.specs.gsmp_wire.declared.message.Message.TheVariants as messages
use Rattle.world_model.specs.switch_model.declared.request.Asked.{Asked}
use Rattle.world_model.specs.Controller.{Acted}
use Rattle.law_frame_readings.specs.law_branch_line.Words.{ToController, SwitchGreets, Answer, Success}
use Rattle.law_frame_readings.specs.law_branch_line.Words as words
use Rattle.law_frame_readings.specs.law_branch_line.Line.{Line}
use Rattle.law_frame_readings.specs.law_branch_line.Law.{IsReached}
use Rattle.law_frame_readings.proofs.law_branch_line.Reached.{run_reached, next_reached}
use Rattle.law_frame_readings.specs.law_branch_line.Moves.{CarryToController, carry_to_controller, step}
use Rattle.law_frame_readings.specs.law_shown_cells.Seen.{IsUnmade, Seen, Nothing, Word, nothing}
use Rattle.law_frame_readings.proofs.law_shown_cells.Shows.{First, no_word, a_word, first_of}
use Rattle.law_frame_readings.specs.law_input_views.Words.{erased_back, seen_answer, seen_answer_to, seen_outcome, seen_on_gsmp, seen_cell, word_of}
use Rattle.law_frame_readings.specs.law_input_views.Shown.{controller_of, switch_of, IsAllPorts, ShowsAnswers}
use Rattle.law_frame_readings.specs.law_input_views.Reaching.{ReachedAs, Anything}
use Rattle.law_running_worlds.specs.law_input_steps.Part.{Part, part_of, part_at, IsNumbered, Stands, Reaches}
use Rattle.law_running_worlds.specs.law_input_steps.Meeting.{met_after, AfterAnswer, answered_part}
use Rattle.law_running_worlds.proofs.law_input_steps.ControllerCells.{popped_part, without_first}
use Rattle.law_running_worlds.proofs.law_input_steps.Reach.{stands_of}
use Rattle.law_running_worlds.proofs.law_input_steps.Taken.{done_line}

-- *What a success is to*: its number, and what it was asked
pub record IsSuccess (c_standing : List Standing) (m : Message) (s : Standing) : Type 0 where
  pub head : Head
  pub heads : head_of m ≡ Some head
  pub three : (head.result == 3) ≡ true
  pub found : find (λ (x : Standing). x.number == head.number && is_of_type m x.request) c_standing ≡ Some s
  pub asked : Asked
  pub asks : asked_in m ≡ Some asked

some_standing : (x y : Standing) → Some x ≡ Some y → x ≡ y
some_standing x y e = cc e

asks_so : (m : Message) (head : Head) → head_of m ≡ Some head → (asked : Asked) × (asked_in m ≡ Some asked)
asks_so (messages.Adjacency g) head e = absurd (cc e)
asks_so (messages.Branch kind r c n session ip i op o br pr) head e = (_, refl)
asks_so (messages.Move r c n session ip i op o tp t br pr) head e = (_, refl)
asks_so (messages.Port r c n p session f) head e = (_, refl)
asks_so (messages.AllPorts r c n rows) head e = (_, refl)

is_done : (m : Message) (x s : Standing) → succeeded m x ≡ Done s → x ≡ s
is_done (messages.Adjacency g) x s h = cc h
is_done (messages.Branch kind r c n t ip i op o br pr) x s h = cc h
is_done (messages.Move r c n t ip i op o tp u br pr) x s h = cc h
is_done (messages.Port r c n p t f) x s h = cc h
is_done (messages.AllPorts r c n rows) x s h = absurd (cc h)

pub success_of : (standing : List Standing) (m : Message) (s : Standing) → answered_with standing m (head_of m) ≡ Done s → IsSuccess standing m s
success_of standing m s e = by_head (head_of m) refl e
  where
    by_found : (head : Head) → head_of m ≡ Some head → (o : Option Standing) → find (λ (x : Standing). x.number == head.number && is_of_type m x.request) standing ≡ o → outcome m head o ≡ Done s → IsSuccess standing m s
    by_found head is None found k = absurd (cc k)
    by_found head is (Some x) found k = by (head.result == 3) (head.result == 4) refl k
      where
        by : (t f : Bool) → (head.result == 3) ≡ t → (if t then succeeded m x else (if f then Failed x head.code else Unknown)) ≡ Done s → IsSuccess standing m s
        by true f three l = record { head = head; heads = is; three = three; found = found ∙ ap (λ (z : Standing). Some z) (is_done m x s l); asked = (asks_so m head is).0; asks = (asks_so m head is).1 }
        by false true three l = absurd (cc l)
        by false false three l = absurd (cc l)

    by_head : (o : Option Head) → head_of m ≡ o → answered_with standing m o ≡ Done s → IsSuccess standing m s
    by_head None is k = absurd (cc k)
    by_head (Some head) is k = by_found head is (find (λ (x : Standing). x.number == head.number && is_of_type m x.request) standing) refl k

module _ (node : NodeId) (input : End) where
  abbrev seen_answers : (last : Bool) → Option Message → Seen ToController
  seen_answers last m = seen_answer (switch_of node) (controller_of node) input last m

  -- *Its last cell shows it*
  shows_success : (standing : List Standing) (m : Message) (s : Standing) (k : IsSuccess standing m s) → seen_answers true (Some m) ≡ Word (Answer 0 k.head.number (word_of input k.asked.request) Success)
  shows_success standing m s k = by m k.heads k.asks
    where
      told : seen_answer_to input (Some k.head) (Some (record { number = k.head.number; request = k.asked.request })) ≡ Word (Answer 0 k.head.number (word_of input k.asked.request) Success)
      told = ap (λ (b : Bool). seen_outcome input (record { number = k.head.number; request = k.asked.request }) (if b then Some Success else (if k.head.result == 4 then Some words.Failure else None))) k.three

      both : (h : Option Head) (a : Option Asked) → h ≡ Some k.head → a ≡ Some k.asked → seen_answer_to input h (copy_by h a) ≡ Word (Answer 0 k.head.number (word_of input k.asked.request) Success)
      both h a heads asks = (λ i. seen_answer_to input (heads i) (copy_by (heads i) (asks i))) ∙ told

      by : (x : Message) → head_of x ≡ Some k.head → asked_in x ≡ Some k.asked → seen_answers true (Some x) ≡ Word (Answer 0 k.head.number (word_of input k.asked.request) Success)
      by (messages.Adjacency g) heads asks = absurd (cc heads)
      by (messages.Branch kind r c n session ip i op o br pr) heads asks = both (head_of (messages.Branch kind r c n session ip i op o br pr)) (asked_in (messages.Branch kind r c n session ip i op o br pr)) heads asks
      by (messages.Move r c n session ip i op o tp t br pr) heads asks = both (head_of (messages.Move r c n session ip i op o tp t br pr)) (asked_in (messages.Move r c n session ip i op o tp t br pr)) heads asks
      by (messages.Port r c n p session f) heads asks = both (head_of (messages.Port r c n p session f)) (asked_in (messages.Port r c n p session f)) heads asks
      by (messages.AllPorts r c n rows) heads asks = both (head_of (messages.AllPorts r c n rows)) (asked_in (messages.AllPorts r c n rows)) heads asks

  -- a word that is left of a success is one
  record IsAnswer (n : ℕ) (r : words.Request) (t : ToController) : Type 0 where
    under : ℕ
    is : t ≡ Answer under n r Success

  erased_is : (t : ToController) (n : ℕ) (r : words.Request) → erased_back t ≡ Answer 0 n r Success → IsAnswer n r t
  erased_is (SwitchGreets kind x y) n r e = absurd (cc e)
  erased_is (Answer under number request o) n r e = record { under = under; is = (let all : ◌≡◌ {A = ToController} (Answer 0 number request o) (Answer 0 n r Success) = e in cc) }

  word_is : (x y : ToController) → ◌≡◌ {A = Seen ToController} (Word x) (Word y) → x ≡ y
  word_is x y e = cc e

  -- the controller, whose chain is empty then
  abbrev pub bared : Site → List Frame → GivenOut → Acted
  bared site frames numbers = record { controller = record site.controller { reassembly = record site.controller.reassembly { chain = [] } }; notes = record { records = []; entries = []; frames = frames }; numbers = numbers }

  -- *The line behind it*
  pub record IsBehind (site : Site) (frames : List Frame) (numbers : GivenOut) (cells : List Cell) (s : Standing) : Type 0 where
    pub line : Line
    pub reached : IsReached line
    pub stands : Stands node input (answered_part (part_at input (without_first site.switch) (bared site frames numbers)) s) line
    pub also : AfterAnswer input s site.controller.has_met (met_after site.controller.has_met (without_request site.controller.desk s).standing) line

  module _ (site : Site) (frames : List Frame) (numbers : GivenOut) (unmade : IsUnmade numbers.controls frames) (numbered : IsNumbered site.controller.desk)
      (r : ReachedAs node input site frames numbers.instances Anything) (cell : Cell) (cells : List Cell) (front : queue_of site.switch.crossbar control_port ≡ cell ∷ cells)
      (here : same_channel cell.header.channel default_channel ≡ true) (last : cell.header.last ≡ true) (payload : List ℕ) (made : payload_of frames cell.mark ≡ Some payload)
      (m : Message) (read : gsmp_of payload ≡ Some m) (s : Standing) (done : answered site.controller.desk m ≡ Done s) (unlisted : IsAllPorts s.request → ⊥)
      (estab : is_estab site.controller.adjacency.state ≡ true) where
    h : Stands node input (part_of input site frames numbers) r.line
    h = stands_of node input site frames numbers r.line unmade numbered r.shows

    k : IsSuccess site.controller.desk.standing m s
    k = success_of site.controller.desk.standing m s done

    abbrev bare : Acted
    bare = bared site frames numbers

    pops : part_at input (without_first site.switch) bare ≡ record (part_at input site.switch bare) { back = cells }
    pops = popped_part input site.switch cell cells front bare

    cell_seen : seen_cell seen_answers frames cell ≡ Word (Answer 0 k.head.number (word_of input k.asked.request) Success)
    cell_seen = ap (λ (b : Bool). if b then seen_on_gsmp seen_answers cell.header.last (payload_of frames cell.mark) else Nothing) here
        ∙ (λ i. seen_on_gsmp seen_answers (last i) (made i)) ∙ ap (seen_answers true) read ∙ shows_success site.controller.desk.standing m s k

    pub answer_line : IsBehind site frames numbers cells s
    answer_line = by r.line.to_controller refl (first_of (subst (λ (z : List Cell). ShowsAnswers node input frames z r.line.to_controller) front h.to_controller))
      where
        by : (ws : List ToController) → r.line.to_controller ≡ ws → First erased_back (seen_cell seen_answers frames) cell cells ws → IsBehind site frames numbers cells s
        by _ is (no_word e rest) = absurd (cc (sym e ∙ cell_seen))
        by _ is (a_word {t} {ts} e rest) =
            let empty : Line = record r.line { to_controller = ts; at_controller = [] } in
            let hand : Line = record r.line { to_controller = ts; at_controller = t ∷ [] } in
            let is_answer : IsAnswer k.head.number (word_of input k.asked.request) t = erased_is t k.head.number (word_of input k.asked.request) (word_is (erased_back t) (Answer 0 k.head.number (word_of input k.asked.request) Success) (sym e ∙ cell_seen)) in
            let moved : step r.line CarryToController ≡ hand = ap (carry_to_controller r.line) is ∙ ap (λ (z : List ToController). record r.line { to_controller = ts; at_controller = z ++ t ∷ [] }) h.at_controller in
            let reached : IsReached hand = subst IsReached moved (next_reached r.line CarryToController r.reached) in
            let told : hand ≡ record empty { at_controller = Answer is_answer.under k.head.number (word_of input k.asked.request) Success ∷ [] } = ap (λ (z : ToController). record r.line { to_controller = ts; at_controller = z ∷ [] }) is_answer.is in
            let stood : Stands node input (record (part_at input site.switch bare) { back = cells }) empty = record {
              own = h.own;
              far = h.far;
              to_switch = h.to_switch;
              at_switch = h.at_switch;
              to_controller = rest;
              gathered = nothing;
              at_controller = refl;
              drawn = h.drawn;
              before = h.before;
              behind = h.behind;
              unmade = h.unmade;
              numbered = h.numbered;
            } in
            let goes : Reaches node input (answered_part (part_at input (without_first site.switch) bare) s) (AfterAnswer input s site.controller.has_met (met_after site.controller.has_met (without_request site.controller.desk s).standing)) (record empty { at_controller = Answer is_answer.under k.head.number (word_of input k.asked.request) Success ∷ [] }) =
            done_line node input (without_first site.switch) bare m k.asked k.head s empty is_answer.under k.asks k.found unlisted estab (subst (λ (p : Part). Stands node input p empty) (sym pops) stood) in
            record {
              line = goes.after;
              reached = subst IsReached goes.is (run_reached _ goes.moves (subst IsReached told reached));
              stands = goes.stands;
              also = goes.also;
            }
