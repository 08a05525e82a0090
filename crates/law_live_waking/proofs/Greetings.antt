-- greetings in the frames of a list of cells

use Rattle.std.proofs.Common.{◌≡◌, ℕ, ◌&&◌, Bool, true, false, List, [], ◌∷◌, ◌++◌, Some, Ok, refl, sym, ◌∙◌, ap, subst}
use Rattle.world_model.specs.Words.{Greeting, Party, Said, Mark, Cell, Frame, payload_of, frame_cells, gsmp_channel, same_channel}
use Rattle.world_model.specs.gsmp_wire.declared.message.Message.{Message}
use Rattle.world_model.specs.gsmp_wire.declared.message.Message.TheVariants.{Adjacency, Branch, Move, Port, AllPorts}
use Rattle.world_model.specs.gsmp_wire.Layout.{octets_of}
use Rattle.world_model.specs.gsmp_wire.Fields.{decoded}
use Rattle.law_running_worlds.specs.law_shown_cells.Seen.{Extends}
use Rattle.law_running_worlds.specs.ordered_lists.Ordered.{Every}
use Rattle.law_running_worlds.proofs.law_shown_cells.Frames.{IsOf, IsCut, frame_is_cut}
use Rattle.law_live_orders.specs.Law.{is_last_on, last_marks}
use Rattle.law_live_orders.proofs.Marks.{channel_self, marks_join, marks_here, marks_there}
use Rattle.law_live_orders.proofs.Switches.{second}
use Rattle.law_live_control.specs.Calm.{IsOfCalm, IsCalmCell}
use Rattle.law_live_control.proofs.Reading.{read_as}
use Rattle.law_live_waking.specs.Greetings.{Greets, GreetsNobody, Greet, none, greets, passed}

-- *They stay* while what was made does
pub greet_stays : (old new : List Frame) → Extends old new → (marks : List Mark) (messages : List (Said Party)) → Greet old marks messages → Greet new marks messages
greet_stays old new stays [] messages none = none
greet_stays old new stays (mark ∷ marks) (message ∷ messages) (greets own said is later) =
    greets own said (record { payload = is.payload; made = stays.kept mark is.payload is.made; read = is.read }) (greet_stays old new stays marks messages later)
greet_stays old new stays (mark ∷ marks) messages (passed own is later) =
    passed own (record { payload = is.payload; made = stays.kept mark is.payload is.made; unread = is.unread }) (greet_stays old new stays marks messages later)

-- *One behind another*
pub greet_join : (frames : List Frame) (xs ys : List Mark) (ms ns : List (Said Party)) → Greet frames xs ms → Greet frames ys ns → Greet frames (xs ++ ys) (ms ++ ns)
greet_join frames [] ys ms ns none more = more
greet_join frames (mark ∷ xs) ys (message ∷ ms) ns (greets own said is later) more = greets own said is (greet_join frames xs ys ms ns later more)
greet_join frames (mark ∷ xs) ys ms ns (passed own is later) more = passed own is (greet_join frames xs ys ms ns later more)

-- *Nothing comes* where nothing waits
pub greet_none : (frames : List Frame) (marks : List Mark) (messages : List (Said Party)) → Greet frames marks messages → marks ≡ [] → messages ≡ []
greet_none frames [] messages none e = refl
greet_none frames (mark ∷ marks) messages (greets own said is later) e = absurd (cc e)
greet_none frames (mark ∷ marks) messages (passed own is later) e = absurd (cc e)

-- *Requests and answers* greet nobody
abbrev pub IsOther : Message → Type 0
IsOther (Adjacency greeting) = ⊥
IsOther message = Unit {0}

other_read : (message : Message) → IsOther message → (greeting : Greeting) → decoded (octets_of message) ≡ Ok (Adjacency greeting) → ⊥
other_read (Adjacency own) other greeting is = other
other_read (Branch kind result code number session input_port input output_port output count priority) other greeting is =
    absurd (cc (read_as (Branch kind result code number session input_port input output_port output count priority) (Adjacency greeting) is))
other_read (Move result code number session input_port input output_port output target_port target count priority) other greeting is =
    absurd (cc (read_as (Move result code number session input_port input output_port output target_port target count priority) (Adjacency greeting) is))
other_read (Port result code number port session function) other greeting is =
    absurd (cc (read_as (Port result code number port session function) (Adjacency greeting) is))
other_read (AllPorts result code number rows) other greeting is = absurd (cc (read_as (AllPorts result code number rows) (Adjacency greeting) is))

pub nobody : (frames : List Frame) (mark : Mark) (message : Message) → IsOther message → payload_of frames mark ≡ Some (octets_of message) → GreetsNobody frames mark
nobody frames mark message other made = record { payload = octets_of message; made = made; unread = other_read message other }

pub others_greet_nobody : (frames : List Frame) (cells : List Cell) → Every (IsCalmCell IsOther frames) cells → Greet frames (last_marks gsmp_channel cells) []
others_greet_nobody frames [] each = none
others_greet_nobody frames (cell ∷ cells) each = by (is_last_on gsmp_channel cell) refl (others_greet_nobody frames cells each.1)
  where
    of_other : is_last_on gsmp_channel cell ≡ true → IsOfCalm IsOther frames cell
    of_other e = each.0 (second cell.header.last (same_channel cell.header.channel gsmp_channel) e)

    by : (b : Bool) → is_last_on gsmp_channel cell ≡ b → Greet frames (last_marks gsmp_channel cells) [] → Greet frames (last_marks gsmp_channel (cell ∷ cells)) []
    by true e later = subst (λ (marks : List Mark). Greet frames marks []) (sym (marks_here gsmp_channel cell cells e))
        (passed cell.mark (nobody frames cell.mark (of_other e).message (of_other e).calm (of_other e).made) later)
    by false e later = subst (λ (marks : List Mark). Greet frames marks []) (sym (marks_there gsmp_channel cell cells e)) later

-- *A frame* of the GSMP channel has one last cell
both : (x y : Bool) → x ≡ true → y ≡ true → (x && y) ≡ true
both true y p q = q
both false y p q = absurd (cc p)

not_first : (x y : Bool) → x ≡ false → (x && y) ≡ false
not_first true y p = absurd (cc p)
not_first false y p = refl

early_greet_nobody : (frames : List Frame) (mark : Mark) (cells : List Cell) → Every (IsOf gsmp_channel mark false) cells → Greet frames (last_marks gsmp_channel cells) []
early_greet_nobody frames mark [] each = none
early_greet_nobody frames mark (cell ∷ cells) each = subst (λ (marks : List Mark). Greet frames marks [])
    (sym (marks_there gsmp_channel cell cells (not_first cell.header.last (same_channel cell.header.channel gsmp_channel) each.0.1)))
    (early_greet_nobody frames mark cells each.1)

last_greets : (frames : List Frame) (mark : Mark) (message : Said Party) (cell : Cell) → IsOf gsmp_channel mark true cell → Greets frames mark message
    → Greet frames (last_marks gsmp_channel (cell ∷ [])) (message ∷ [])
last_greets frames mark message cell is says = subst (λ (marks : List Mark). Greet frames marks (message ∷ []))
    (sym (marks_here gsmp_channel cell [] (both cell.header.last (same_channel cell.header.channel gsmp_channel) is.1
    (ap (λ c. same_channel c gsmp_channel) is.0 ∙ channel_self gsmp_channel))))
    (greets cell.mark message (subst (λ (m : Mark). Greets frames m message) (sym is.2) says) none)

pub frame_greets : (frames : List Frame) (mark : Mark) (payload : List ℕ) (message : Said Party) → Greets frames mark message
    → Greet frames (last_marks gsmp_channel (frame_cells gsmp_channel mark payload)) (message ∷ [])
frame_greets frames mark payload message says =
    let c : IsCut gsmp_channel mark (frame_cells gsmp_channel mark payload) = frame_is_cut gsmp_channel mark payload in
    subst (λ (marks : List Mark). Greet frames marks (message ∷ []))
    (sym (ap (last_marks gsmp_channel) c.whole ∙ marks_join gsmp_channel c.front (c.final ∷ [])))
    (greet_join frames (last_marks gsmp_channel c.front) (last_marks gsmp_channel (c.final ∷ [])) [] (message ∷ [])
    (early_greet_nobody frames mark c.front c.early) (last_greets frames mark message c.final c.last says))
