-- what a controller does one thing after another, where it isn't reset and no loss is entered: the requests that it sends to its switch
-- are those that come to stand at its desk

use Rattle.std.proofs.Common.{◌≡◌, ℕ, ◌+◌, ◌≤◌, ◌&&◌, Bool, true, false, true≢false, List, [], ◌∷◌, ◌++◌, append_assoc, append-nil, length, length-append, fold, Some, refl, sym, ◌∙◌, ap, subst, arith, if◌then◌else◌}
use Rattle.std.specs.Prelude.{nat_le}
use Rattle.world_model.specs.Words.{Channel, Mark, Cell, Frame, Controller, Entry, Greeting, Loss, PoolFull, noted, payload_of, made, frame_cells, default_channel, same_channel, is_estab, next_control, with_control, PortRow, Desk, Standing, message_of, with_desk, sends_control}
use Rattle.world_model.specs.frame_model.Sending.{Sender}
use Rattle.world_model.specs.gsmp_wire.Layout.{octets_of}
use Rattle.world_model.specs.gsmp_wire.declared.message.Message.TheVariants.{Adjacency}
use Rattle.world_model.specs.Controller.{Acted, free_slots}
use Rattle.world_model.specs.Sending.{with_cells}
use Rattle.law_port_facts.specs.ordered_lists.Ordered.{Every}
use Rattle.law_port_facts.proofs.ordered_lists.Every.{every_join, every_map}
use Rattle.law_shown_cells.proofs.Frames.{IsOf, IsCut, frame_is_cut}
use Rattle.law_shown_cells.proofs.Made.{made_is, made_elsewhere}
use Rattle.law_live_orders.specs.Law.{last_marks}
use Rattle.law_live_orders.proofs.Marks.{channel_self, marks_join, marks_here, marks_there, frame_has_none}
use Rattle.law_live_sending.proofs.Going.{IsGiven, Stays}

-- *The frames of these marks are of these requests*, as they stand at a desk; those of greetings are passed over
pub data AreTold (frames : List Frame) (rows : List PortRow) : List Mark → List Standing → Type 0 where
  none : AreTold frames rows [] []
  tells : {marks : List Mark} {standing : List Standing} (mark : Mark) (s : Standing) → payload_of frames mark ≡ Some (octets_of (message_of rows s.number s.request))
      → AreTold frames rows marks standing → AreTold frames rows (mark ∷ marks) (s ∷ standing)
  greets : {marks : List Mark} {standing : List Standing} (mark : Mark) (greeting : Greeting) → payload_of frames mark ≡ Some (octets_of (Adjacency greeting))
      → AreTold frames rows marks standing → AreTold frames rows (mark ∷ marks) standing

told_later : (controls : ℕ) (before after : List Frame) → Stays controls before after → (rows : List PortRow) (marks : List Mark) (standing : List Standing)
    → Every (IsGiven controls) marks → AreTold before rows marks standing → AreTold after rows marks standing
told_later controls before after stays rows [] standing given none = none
told_later controls before after stays rows (mark ∷ marks) (s ∷ standing) given (tells own one is later) =
    tells own one (stays own (octets_of (message_of rows one.number one.request)) given.0 is) (told_later controls before after stays rows marks standing given.1 later)
told_later controls before after stays rows (mark ∷ marks) standing given (greets own greeting is later) =
    greets own greeting (stays own (octets_of (Adjacency greeting)) given.0 is) (told_later controls before after stays rows marks standing given.1 later)

told_join : (frames : List Frame) (rows : List PortRow) (xs ys : List Mark) (standing more : List Standing) → AreTold frames rows xs standing → AreTold frames rows ys more
    → AreTold frames rows (xs ++ ys) (standing ++ more)
told_join frames rows [] ys standing more none rest = rest
told_join frames rows (mark ∷ xs) ys (s ∷ standing) more (tells own one is later) rest = tells own one is (told_join frames rows xs ys standing more later rest)
told_join frames rows (mark ∷ xs) ys standing more (greets own greeting is later) rest = greets own greeting is (told_join frames rows xs ys standing more later rest)

-- *A frame on the GSMP channel* has one last cell there
both : (p q : Bool) → p ≡ true → q ≡ true → (p && q) ≡ true
both true q e h = h
both false q e h = absurd (true≢false (sym e))

early_none : (mark : Mark) (cells : List Cell) → Every (IsOf default_channel mark false) cells → last_marks default_channel cells ≡ []
early_none mark [] each = refl
early_none mark (cell ∷ cells) each =
    marks_there default_channel cell cells (ap (λ (b : Bool). b && same_channel cell.header.channel default_channel) each.0.1) ∙ early_none mark cells each.1

pub one_mark : (mark : Mark) (payload : List ℕ) → last_marks default_channel (frame_cells default_channel mark payload) ≡ mark ∷ []
one_mark mark payload = by (frame_is_cut default_channel mark payload)
  where
    by : IsCut default_channel mark (frame_cells default_channel mark payload) → last_marks default_channel (frame_cells default_channel mark payload) ≡ mark ∷ []
    by c = ap (last_marks default_channel) c.whole ∙ (marks_join default_channel c.front (c.final ∷ [])
        ∙ ((λ i. early_none mark c.front c.early i ++ marks_here default_channel c.final []
        (both c.final.header.last (same_channel c.final.header.channel default_channel) c.last.1 (ap (λ (x : Channel). same_channel x default_channel) c.last.0 ∙ channel_self default_channel)) i)
        ∙ ap (λ (m : Mark). m ∷ []) c.last.2))

-- *What is sent* on it, and comes to stand
pub record Sends (a b : Acted) : Type 0 where
  pub asked : List Standing
  pub next : b.controller.desk.next ≡ a.controller.desk.next + length asked
  pub standing : b.controller.desk.standing ≡ a.controller.desk.standing ++ asked
  pub rows : b.controller.desk.rows ≡ a.controller.desk.rows
  pub more : List Cell
  pub queue : b.controller.queue ≡ a.controller.queue ++ more
  pub told : AreTold b.notes.frames a.controller.desk.rows (last_marks default_channel more) asked
  pub given : Every (IsGiven b.numbers.controls) (last_marks default_channel more)

-- *All that happens*: losses are added to the ledger, and where none is, these requests are sent
pub record Moves (a b : Acted) : Type 0 where
  pub entries : List Entry
  pub grown : b.notes.entries ≡ a.notes.entries ++ entries
  pub controls : a.numbers.controls ≤ b.numbers.controls
  pub stay : Stays a.numbers.controls a.notes.frames b.notes.frames
  pub sends : entries ≡ [] → Sends a b

-- unless the node is reset
pub record Goes (a b : Acted) : Type 0 where
  pub up : is_estab b.controller.adjacency.state ≡ true → is_estab a.controller.adjacency.state ≡ true
  pub moves : is_estab b.controller.adjacency.state ≡ true → Moves a b

pub goes_quiet : (a b : Acted) → b.notes.entries ≡ a.notes.entries → b.notes.frames ≡ a.notes.frames → b.controller.queue ≡ a.controller.queue → b.controller.desk ≡ a.controller.desk
    → b.controller.adjacency.state ≡ a.controller.adjacency.state → b.numbers.controls ≡ a.numbers.controls → Goes a b
goes_quiet a b entries frames queue desk state controls = record {
  up = λ e. ap is_estab (sym state) ∙ e;
  moves = λ e. record {
    entries = [];
    grown = entries ∙ sym (append-nil a.notes.entries);
    controls = same a.numbers.controls b.numbers.controls controls;
    stay = λ mark payload given is. ap (λ (fs : List Frame). payload_of fs mark) frames ∙ is;
    sends = λ none_lost. record {
      asked = [];
      next = ap (λ (d : Desk). d.next) desk ∙ no_more a.controller.desk.next;
      standing = ap (λ (d : Desk). d.standing) desk ∙ sym (append-nil a.controller.desk.standing);
      rows = ap (λ (d : Desk). d.rows) desk;
      more = [];
      queue = queue ∙ sym (append-nil a.controller.queue);
      told = none;
      given = tt;
    };
  };
}
  where
    same : (m n : ℕ) → n ≡ m → m ≤ n
    same m n e = omega (arith, e)

    no_more : (n : ℕ) → n ≡ n + 0
    no_more n = omega arith

pub goes_itself : (a : Acted) → Goes a a
goes_itself a = goes_quiet a a refl refl refl refl refl refl

-- *One behind another*
both_none : {A : Type 0} (xs ys : List A) → xs ++ ys ≡ [] → (xs ≡ []) × (ys ≡ [])
both_none [] ys e = (refl, e)
both_none (x ∷ xs) ys e = absurd (cc e)

at_most : (k m n : ℕ) → k ≤ m → m ≤ n → k ≤ n
at_most k m n low more = omega (arith, low, more)

module _ (a b c : Acted) where
  sends_both : a.numbers.controls ≤ b.numbers.controls → b.numbers.controls ≤ c.numbers.controls → Stays b.numbers.controls b.notes.frames c.notes.frames → Sends a b → Sends b c → Sends a c
  sends_both low later stay s u = record {
    asked = s.asked ++ u.asked;
    next = sum a.controller.desk.next b.controller.desk.next c.controller.desk.next (length s.asked) (length u.asked) (length (s.asked ++ u.asked)) s.next u.next (length-append s.asked u.asked);
    standing = u.standing ∙ (ap (λ (standing : List Standing). standing ++ u.asked) s.standing ∙ append_assoc a.controller.desk.standing s.asked u.asked);
    rows = u.rows ∙ s.rows;
    more = s.more ++ u.more;
    queue = u.queue ∙ (ap (λ (cells : List Cell). cells ++ u.more) s.queue ∙ append_assoc a.controller.queue s.more u.more);
    told = subst (λ (marks : List Mark). AreTold c.notes.frames a.controller.desk.rows marks (s.asked ++ u.asked)) (sym (marks_join default_channel s.more u.more))
        (told_join c.notes.frames a.controller.desk.rows (last_marks default_channel s.more) (last_marks default_channel u.more) s.asked u.asked
        (told_later b.numbers.controls b.notes.frames c.notes.frames stay a.controller.desk.rows (last_marks default_channel s.more) s.asked s.given s.told)
        (subst (λ (rows : List PortRow). AreTold c.notes.frames rows (last_marks default_channel u.more) u.asked) s.rows u.told));
    given = subst (Every (IsGiven c.numbers.controls)) (sym (marks_join default_channel s.more u.more))
        (every_join (IsGiven c.numbers.controls) (last_marks default_channel s.more) (last_marks default_channel u.more)
        (every_map (IsGiven b.numbers.controls) (IsGiven c.numbers.controls) (last_marks default_channel s.more) (λ mark g. (g.0, at_most mark.frame b.numbers.controls c.numbers.controls g.1 later)) s.given) u.given);
  }
    where
      sum : (x y z m n l : ℕ) → y ≡ x + m → z ≡ y + n → l ≡ m + n → z ≡ x + l
      sum x y z m n l p q r = omega (arith, p, q, r)

  moves_both : Moves a b → Moves b c → Moves a c
  moves_both p q = record {
    entries = p.entries ++ q.entries;
    grown = q.grown ∙ (ap (λ (es : List Entry). es ++ q.entries) p.grown ∙ append_assoc a.notes.entries p.entries q.entries);
    controls = at_most a.numbers.controls b.numbers.controls c.numbers.controls p.controls q.controls;
    stay = λ mark payload given is. q.stay mark payload (given.0, at_most mark.frame a.numbers.controls b.numbers.controls given.1 p.controls) (p.stay mark payload given is);
    sends = λ e. (let parts : (p.entries ≡ []) × (q.entries ≡ []) = both_none p.entries q.entries e in sends_both p.controls q.controls q.stay (p.sends parts.0) (q.sends parts.1));
  }

  pub goes_then : Goes a b → Goes b c → Goes a c
  goes_then p q = record { up = λ e. p.up (q.up e); moves = λ e. moves_both (p.moves (q.up e)) (q.moves e) }

pub goes_fold : {A : Type 0} (f : Acted → A → Acted) → ((a : Acted) (x : A) → Goes a (f a x)) → (xs : List A) (a : Acted) → Goes a (fold f a xs)
goes_fold f each [] a = goes_itself a
goes_fold f each (x ∷ xs) a = goes_then a (f a x) (fold f (f a x) xs) (each a x) (goes_fold f each xs (f a x))

-- *A frame is sent* under the next control mark, and these come to stand
module _ (a : Acted) (desk : Desk) (asked : List Standing) (next : desk.next ≡ a.controller.desk.next + length asked) (standing : desk.standing ≡ a.controller.desk.standing ++ asked)
    (rows : desk.rows ≡ a.controller.desk.rows) (channel : Channel) (payload : List ℕ) where
  abbrev mark : Mark
  mark = next_control a.numbers

  abbrev cells : List Cell
  cells = frame_cells channel mark payload

  abbrev frames : List Frame
  frames = a.notes.frames ++ record { mark = mark; payload = payload } ∷ []

  abbrev now : Acted
  now = with_desk a desk

  abbrev by_sender : Sender Controller → Acted
  by_sender s = record { controller = s.queues; notes = s.notes; numbers = with_control a.numbers }

  frames_stay : Stays a.numbers.controls a.notes.frames frames
  frames_stay other old given is = made_elsewhere a.notes.frames mark other payload (λ same. later other.frame a.numbers.controls given.1 (ap (λ (m : Mark). m.frame) same)) ∙ is
    where
      later : (k n : ℕ) → k ≤ n → n + 1 ≡ k → ⊥
      later k n low same = absurd (omega (arith, low, same))

  one_more : (n : ℕ) → n ≤ n + 1
  one_more n = omega arith

  pub goes_sent : AreTold frames a.controller.desk.rows (last_marks default_channel cells) asked → Every (IsGiven (a.numbers.controls + 1)) (last_marks default_channel cells)
      → Goes a (sends_control now channel payload)
  goes_sent told given = by (nat_le (length cells) (free_slots now.controller))
    where
      by : (b : Bool) → Goes a (by_sender (if b then record { queues = with_cells now.controller cells; notes = made a.notes mark payload }
          else record { queues = now.controller; notes = noted (made a.notes mark payload) (Loss mark PoolFull) }))
      by true = record {
        up = λ e. e;
        moves = λ e. record {
          entries = [];
          grown = sym (append-nil a.notes.entries);
          controls = one_more a.numbers.controls;
          stay = frames_stay;
          sends = λ none_lost. record { asked = asked; next = next; standing = standing; rows = rows; more = cells; queue = refl; told = told; given = given };
        };
      }
      by false = record {
        up = λ e. e;
        moves = λ e. record {
          entries = record { mark = mark; cause = PoolFull } ∷ [];
          grown = refl;
          controls = one_more a.numbers.controls;
          stay = frames_stay;
          sends = λ none_lost. absurd (cc none_lost);
        };
      }

-- a greeting, or a message to a peer: nothing comes to stand
module _ (a : Acted) where
  abbrev Plain : Channel → List ℕ → Type 0
  Plain channel payload = Goes a (sends_control a channel payload)

  no_more : (n : ℕ) → n ≡ n + 0
  no_more n = omega arith

  pub goes_elsewhere : (channel : Channel) (payload : List ℕ) → same_channel channel default_channel ≡ false → Plain channel payload
  goes_elsewhere channel payload apart = by (frame_has_none default_channel channel (next_control a.numbers) payload apart)
    where
      by : last_marks default_channel (frame_cells channel (next_control a.numbers) payload) ≡ [] → Plain channel payload
      by marks = goes_sent a a.controller.desk [] (no_more a.controller.desk.next) (sym (append-nil a.controller.desk.standing)) refl channel payload
          (subst (λ (ms : List Mark). AreTold (a.notes.frames ++ record { mark = next_control a.numbers; payload = payload } ∷ []) a.controller.desk.rows ms []) (sym marks) none)
          (subst (Every (IsGiven (a.numbers.controls + 1))) (sym marks) tt)

  given_now : (payload : List ℕ) → Every (IsGiven (a.numbers.controls + 1)) (last_marks default_channel (frame_cells default_channel (next_control a.numbers) payload))
  given_now payload = subst (Every (IsGiven (a.numbers.controls + 1))) (sym (one_mark (next_control a.numbers) payload)) ((refl, itself (a.numbers.controls + 1)), tt)
    where
      itself : (n : ℕ) → n ≤ n
      itself n = omega arith

  pub goes_greeting : (greeting : Greeting) → Plain default_channel (octets_of (Adjacency greeting))
  goes_greeting greeting = goes_sent a a.controller.desk [] (no_more a.controller.desk.next) (sym (append-nil a.controller.desk.standing)) refl default_channel (octets_of (Adjacency greeting))
      (subst (λ (ms : List Mark). AreTold frames_now a.controller.desk.rows ms []) (sym (one_mark (next_control a.numbers) (octets_of (Adjacency greeting))))
      (greets (next_control a.numbers) greeting (made_is a.notes.frames (next_control a.numbers) (octets_of (Adjacency greeting))) none))
      (given_now (octets_of (Adjacency greeting)))
    where
      frames_now : List Frame
      frames_now = a.notes.frames ++ record { mark = next_control a.numbers; payload = octets_of (Adjacency greeting) } ∷ []

  -- *A request* that comes to stand
  pub goes_asking : (desk : Desk) (s : Standing) → desk.next ≡ a.controller.desk.next + 1 → desk.standing ≡ a.controller.desk.standing ++ s ∷ [] → desk.rows ≡ a.controller.desk.rows
      → Goes a (sends_control (with_desk a desk) default_channel (octets_of (message_of desk.rows s.number s.request)))
  goes_asking desk s next standing rows = goes_sent a desk (s ∷ []) next standing rows default_channel payload
      (subst (λ (ms : List Mark). AreTold frames_now a.controller.desk.rows ms (s ∷ [])) (sym (one_mark (next_control a.numbers) payload))
      (tells (next_control a.numbers) s (made_is a.notes.frames (next_control a.numbers) payload ∙ ap (λ (rs : List PortRow). Some (octets_of (message_of rs s.number s.request))) rows) none))
      (given_now payload)
    where
      payload : List ℕ
      payload = octets_of (message_of desk.rows s.number s.request)

      frames_now : List Frame
      frames_now = a.notes.frames ++ record { mark = next_control a.numbers; payload = payload } ∷ []
