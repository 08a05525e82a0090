-- what a message that is sent leaves

use Rattle.std.proofs.Common.{◌≡◌, ℕ, ◌+◌, ◌<◌, Bool, true, false, List, [], ◌∷◌, ◌++◌, length, refl, sym, subst, arith, length-set, slice_set, slice_index_or, nat_le, if◌then◌else◌}
use Rattle.world_model.specs.Words.{next_control, with_control, Cell, Frame, Loss, PoolFull, noted, frame_cells, made, Switch, control_port, gsmp_channel}
use Rattle.world_model.specs.gsmp_wire.declared.message.Message.{Message}
use Rattle.world_model.specs.gsmp_wire.Layout.{octets_of}
use Rattle.world_model.specs.frame_model.Sending.{Sender}
use Rattle.ordered_lists.specs.Ordered.{Every}
use Rattle.ordered_lists.proofs.Every.{every_map, every_join}
use Rattle.world_model.specs.Switch.{ActedSwitch, free_slots as switch_slots}
use Rattle.world_model.specs.Conduct as switch
use Rattle.console_model.specs.Lab.{Console, Lab, free_slots}
use Rattle.console_model.specs.Asking.{with_cells, says}
use Rattle.law_console.specs.Words.{Stood, IsTold, IsOf, Answers}
use Rattle.law_console.specs.Kept.{View, view, made_in, course, IsKept}
use Rattle.law_console.proofs.Cells.{next_mark, with_frame, one_more, new_of, stays, asks_on, answers_on, MayAsk, sent_behind}

-- either way of a test
pub on_both : {A : Type 0} (P : A → Type 0) (b : Bool) (x y : A) → P x → P y → P (if b then x else y)
on_both P true x y p q = p
on_both P false x y p q = q

pub on_each : {A : Type 0} (P : A → Type 0) (b : Bool) (x y : A) → (b ≡ true → P x) → (b ≡ false → P y) → P (if b then x else y)
on_each P true x y p q = p refl
on_each P false x y p q = q refl

-- what was set to be the first queue is it
pub first_set : (queues : List (List Cell)) (cells : List Cell) → 0 < length queues → slice_index_or (slice_set queues 0 cells) 0 [] ≡ cells
first_set [] cells some = absurd (omega (arith, some))
first_set (first ∷ queues) cells some = refl

-- *A frame is made*, and its cells join a queue or don't
abbrev pub framed : View → (payload : List ℕ) → View
framed v payload = record v { frames = (with_frame (made_in v) payload).frames; controls = v.controls + 1 }

abbrev cells_of : View → (payload : List ℕ) → List Cell
cells_of v payload = frame_cells gsmp_channel (next_mark v.controls) payload

abbrev pub sent_down : View → (payload : List ℕ) → View
sent_down v payload = record (framed v payload) { waiting = v.waiting ++ cells_of v payload }

abbrev pub sent_up : View → (payload : List ℕ) → View
sent_up v payload = record (framed v payload) { queues = slice_set v.queues 0 (slice_index_or v.queues 0 [] ++ cells_of v payload) }

module _ (ports : ℕ) where
  module _ (most carried : ℕ) (stood : Stood) where
    abbrev Is : View → Type 0
    Is v = IsKept ports most carried stood v

    pub framed_kept : (v : View) (payload : List ℕ) → Is v → Is (framed v payload)
    framed_kept v payload h = record {
      requests = h.requests;
      answers = h.answers;
      answered = h.answered;
      next = h.next;
      within = h.within;
      has_ports = h.has_ports;
      paths = h.paths;
      map = h.map;
      has_queue = h.has_queue;
      stands = h.stands;
      known = h.known;
      few = h.few;
      waits = asks_on ports (course carried stood v) (course carried stood v) (made_in v) (made_in (framed v payload)) (stays (course carried stood v)) (one_more (made_in v) payload) v.waiting carried h.waits;
      comes = answers_on ports (course carried stood v) (course carried stood v) (made_in v) (made_in (framed v payload)) (stays (course carried stood v)) (one_more (made_in v) payload) (slice_index_or v.queues 0 []) h.comes;
    }

    pub down_kept : (v : View) (payload : List ℕ) → MayAsk ports (course carried stood v) (made_in v) payload → Is v → Is (sent_down v payload)
    down_kept v payload may h = (let f : Is (framed v payload) = framed_kept v payload h in record {
      requests = h.requests;
      answers = h.answers;
      answered = h.answered;
      next = h.next;
      within = h.within;
      has_ports = h.has_ports;
      paths = h.paths;
      map = h.map;
      has_queue = h.has_queue;
      stands = h.stands;
      known = h.known;
      few = h.few;
      waits = sent_behind ports (course carried stood v) (made_in (framed v payload)) payload may (cells_of v payload) (new_of (made_in v) payload) v.waiting carried h.next f.waits;
      comes = f.comes;
    })

    pub up_kept : (v : View) (payload : List ℕ) → IsTold ports (course carried stood v) payload → Is v → Is (sent_up v payload)
    up_kept v payload told h = (let f : Is (framed v payload) = framed_kept v payload h in record {
      requests = h.requests;
      answers = h.answers;
      answered = h.answered;
      next = h.next;
      within = h.within;
      has_ports = h.has_ports;
      paths = h.paths;
      map = h.map;
      has_queue = omega (arith, h.has_queue, length-set v.queues 0 (slice_index_or v.queues 0 [] ++ cells_of v payload));
      stands = h.stands;
      known = h.known;
      few = h.few;
      waits = f.waits;
      comes = subst (Every (Answers ports (course carried stood v) (made_in (framed v payload)))) (sym (first_set v.queues (slice_index_or v.queues 0 [] ++ cells_of v payload) h.has_queue))
          (every_join (Answers ports (course carried stood v) (made_in (framed v payload))) (slice_index_or v.queues 0 []) (cells_of v payload) f.comes
          (every_map (IsOf (made_in (framed v payload)) payload) (Answers ports (course carried stood v) (made_in (framed v payload))) (cells_of v payload)
          (λ cell of. record { payload = payload; of = of; told = told }) (new_of (made_in v) payload)));
    })

-- *The console says* a message
pub says_view : (P : View → Type 0) (lab : Lab) (message : Message) → P (sent_down (view lab) (octets_of message)) → P (framed (view lab) (octets_of message)) → P (view (says lab message))
says_view P lab message sent unsent = on_both (λ (s : Sender Console). P (view (record lab { console = s.queues; notes = s.notes; numbers = with_control lab.numbers })))
    (nat_le (length cells) (free_slots lab.console))
    (record { queues = with_cells lab.console cells; notes = made lab.notes (next_control lab.numbers) (octets_of message) })
    (record { queues = lab.console; notes = noted (made lab.notes (next_control lab.numbers) (octets_of message)) (Loss (next_control lab.numbers) PoolFull) })
    sent unsent
  where
    cells : List Cell
    cells = cells_of (view lab) (octets_of message)

-- *The lab* where the switch, the notes and the numbers are these
abbrev pub acted_in : Lab → ActedSwitch → Lab
acted_in lab a = record lab { switch = a.switch; notes = a.notes; numbers = a.numbers }

module _ (ports most carried : ℕ) (stood : Stood) where
  pub said : (lab : Lab) (message : Message) → MayAsk ports (course carried stood (view lab)) (made_in (view lab)) (octets_of message) → IsKept ports most carried stood (view lab)
      → IsKept ports most carried stood (view (says lab message))
  said lab message may h = says_view (IsKept ports most carried stood) lab message (down_kept ports most carried stood (view lab) (octets_of message) may h) (framed_kept ports most carried stood (view lab) (octets_of message) h)

  -- *The switch says* a message
  pub told_up : (lab : Lab) (a : ActedSwitch) (message : Message) → IsTold ports (course carried stood (view (acted_in lab a))) (octets_of message)
      → IsKept ports most carried stood (view (acted_in lab a)) → IsKept ports most carried stood (view (acted_in lab (switch.says a message)))
  told_up lab a message told h = on_both (λ (s : Sender Switch). IsKept ports most carried stood (view (acted_in lab (record { switch = s.queues; notes = s.notes; numbers = with_control a.numbers }))))
      (nat_le (length cells) (switch_slots a.switch))
      (record { queues = switch.with_cells a.switch control_port cells; notes = made a.notes (next_control a.numbers) (octets_of message) })
      (record { queues = a.switch; notes = noted (made a.notes (next_control a.numbers) (octets_of message)) (Loss (next_control a.numbers) PoolFull) })
      (up_kept ports most carried stood (view (acted_in lab a)) (octets_of message) told h) (framed_kept ports most carried stood (view (acted_in lab a)) (octets_of message) h)
    where
      cells : List Cell
      cells = frame_cells gsmp_channel (next_control a.numbers) (octets_of message)

  -- other notes with the same frames
  pub renoted : (v : View) (frames : List Frame) → frames ≡ v.frames → IsKept ports most carried stood v → IsKept ports most carried stood (record v { frames = frames })
  renoted v frames same h = subst (λ (f : List Frame). IsKept ports most carried stood (record v { frames = f })) (sym same) h
