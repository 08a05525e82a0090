-- what a controller does one thing after another: which messages it sends on one channel, and what stays

use Rattle.std.proofs.Common.{◌≡◌, ℕ, ◌+◌, ◌≤◌, Bool, true, false, List, [], ◌∷◌, ◌++◌, append_assoc, append-nil, length, nat_le, Some, refl, sym, ◌∙◌, ap, subst, arith, if◌then◌else◌, fold}
use Rattle.std.proofs.lemmas.List.{append_cancel_left}
use Rattle.world_model.specs.Words.{Addr, Mark, Channel, Cell, Frame, Entry, Loss, PoolFull, noted, payload_of, made, frame_cells, same_channel, next_control, with_control, sends_control, Controller}
use Rattle.world_model.specs.frame_model.Sending.{Sender}
use Rattle.world_model.specs.ifmp_wire.declared.message.Message.{Message}
use Rattle.world_model.specs.Controller.{Acted, free_slots}
use Rattle.world_model.specs.Sending.{with_cells}
use Rattle.law_passing.specs.ordered_lists.Ordered.{Every}
use Rattle.law_live_orders.specs.Law.{last_marks}
use Rattle.law_live_orders.specs.Messages.{AreSaid, none, StayMade}
use Rattle.law_live_orders.proofs.Marks.{marks_join, frame_has_none}
use Rattle.law_live_orders.proofs.Saying.{sayings_stay, said_join}
use Rattle.law_shown_cells.proofs.Made.{made_elsewhere}

-- *A control mark* that was given out
abbrev pub IsGiven : (controls : ℕ) → Mark → Type 0
IsGiven controls mark = (mark.packet ≡ 0) × (mark.frame ≤ controls)

every_join : {A : Type 0} (P : A → Type 0) (xs ys : List A) → Every P xs → Every P ys → Every P (xs ++ ys)
every_join P [] ys p q = q
every_join P (x ∷ xs) ys p q = (p.0, every_join P xs ys p.1 q)

every_more : {A : Type 0} (P Q : A → Type 0) (xs : List A) → ((x : A) → P x → Q x) → Every P xs → Every Q xs
every_more P Q [] each p = tt
every_more P Q (x ∷ xs) each p = (each x p.0, every_more P Q xs each p.1)

front_none : {A : Type 0} (xs ys zs : List A) → xs ++ (ys ++ zs) ≡ xs → (ys ≡ []) × (zs ≡ [])
front_none {A} xs ys zs e = by ys zs (append_cancel_left xs (ys ++ zs) [] (e ∙ sym (append-nil xs)))
  where
    by : (ys zs : List A) → ys ++ zs ≡ [] → (ys ≡ []) × (zs ≡ [])
    by [] zs e = (refl, e)
    by (y ∷ ys) zs e = absurd (cc e)

-- what was made under marks that were given out stays
abbrev pub Stays : (controls : ℕ) → (before after : List Frame) → Type 0
Stays controls before after = (mark : Mark) (payload : List ℕ) → IsGiven controls mark → payload_of before mark ≡ Some payload → payload_of after mark ≡ Some payload

module _ (channel : Channel) where
  -- *What is sent* on the channel
  pub record Sends (a b : Acted) (messages : List Message) : Type 0 where
    pub more : List Cell
    pub queue : b.controller.queue ≡ a.controller.queue ++ more
    pub said : AreSaid a.controller.address b.notes.frames (last_marks channel more) messages
    pub given : Every (IsGiven b.numbers.controls) (last_marks channel more)

  -- *All that happens*: losses are added to the ledger, and where none is, these messages are sent
  pub record Goes (a b : Acted) (messages : List Message) : Type 0 where
    pub entries : List Entry
    pub grown : b.notes.entries ≡ a.notes.entries ++ entries
    pub address : b.controller.address ≡ a.controller.address
    pub controls : a.numbers.controls ≤ b.numbers.controls
    pub stay : Stays a.numbers.controls a.notes.frames b.notes.frames
    pub sends : entries ≡ [] → Sends a b messages

  sends_nothing : (a b : Acted) → b.controller.queue ≡ a.controller.queue → Sends a b []
  sends_nothing a b queue = record { more = []; queue = queue ∙ sym (append-nil a.controller.queue); said = none; given = tt }

  -- nothing is sent, whatever is noted
  pub goes_noting : (a b : Acted) (entries : List Entry) → b.notes.entries ≡ a.notes.entries ++ entries → b.notes.frames ≡ a.notes.frames → b.controller.queue ≡ a.controller.queue
      → b.controller.address ≡ a.controller.address → b.numbers.controls ≡ a.numbers.controls → Goes a b []
  goes_noting a b entries grown frames queue address controls = record {
    entries = entries;
    grown = grown;
    address = address;
    controls = same_least a.numbers.controls b.numbers.controls controls;
    stay = λ mark payload given e. ap (λ (fs : List Frame). payload_of fs mark) frames ∙ e;
    sends = λ e. sends_nothing a b queue;
  }
    where
      same_least : (m n : ℕ) → n ≡ m → m ≤ n
      same_least m n e = omega (arith, e)

  pub goes_same : (a b : Acted) → b.notes.entries ≡ a.notes.entries → b.notes.frames ≡ a.notes.frames → b.controller.queue ≡ a.controller.queue
      → b.controller.address ≡ a.controller.address → b.numbers.controls ≡ a.numbers.controls → Goes a b []
  goes_same a b entries frames queue address controls = goes_noting a b [] (entries ∙ sym (append-nil a.notes.entries)) frames queue address controls

  pub goes_itself : (a : Acted) → Goes a a []
  goes_itself a = goes_same a a refl refl refl refl refl

  -- *One behind another*
  module _ (a b c : Acted) (ms ns : List Message) (p : Goes a b ms) (q : Goes b c ns) where
    module _ (s : Sends a b ms) (u : Sends b c ns) where
      still_made : (marks : List Mark) → Every (IsGiven b.numbers.controls) marks → StayMade b.notes.frames c.notes.frames marks
      still_made [] given = tt
      still_made (mark ∷ marks) given = (λ payload e. q.stay mark payload given.0 e, still_made marks given.1)

      sends_both : Sends a c (ms ++ ns)
      sends_both = record {
        more = s.more ++ u.more;
        queue = u.queue ∙ (ap (λ (cells : List Cell). cells ++ u.more) s.queue ∙ append_assoc a.controller.queue s.more u.more);
        said = subst (λ (marks : List Mark). AreSaid a.controller.address c.notes.frames marks (ms ++ ns)) (sym (marks_join channel s.more u.more))
            (said_join a.controller.address c.notes.frames (last_marks channel s.more) (last_marks channel u.more) ms ns
            (sayings_stay a.controller.address b.notes.frames c.notes.frames (last_marks channel s.more) ms (still_made (last_marks channel s.more) s.given) s.said)
            (subst (λ (from : Addr). AreSaid from c.notes.frames (last_marks channel u.more) ns) p.address u.said));
        given = subst (Every (IsGiven c.numbers.controls)) (sym (marks_join channel s.more u.more))
            (every_join (IsGiven c.numbers.controls) (last_marks channel s.more) (last_marks channel u.more)
            (every_more (IsGiven b.numbers.controls) (IsGiven c.numbers.controls) (last_marks channel s.more) (λ mark g. (g.0, up mark.frame b.numbers.controls c.numbers.controls g.1 q.controls)) s.given)
            u.given);
      }
        where
          up : (k m n : ℕ) → k ≤ m → m ≤ n → k ≤ n
          up k m n low more = omega (arith, low, more)

    pub goes_then : Goes a c (ms ++ ns)
    goes_then = record {
      entries = p.entries ++ q.entries;
      grown = q.grown ∙ (ap (λ (es : List Entry). es ++ q.entries) p.grown ∙ append_assoc a.notes.entries p.entries q.entries);
      address = q.address ∙ p.address;
      controls = both a.numbers.controls b.numbers.controls c.numbers.controls p.controls q.controls;
      stay = λ mark payload given e. q.stay mark payload (given.0, both mark.frame a.numbers.controls b.numbers.controls given.1 p.controls) (p.stay mark payload given e);
      sends = λ e. (let parts : (p.entries ≡ []) × (q.entries ≡ []) = front_none [] p.entries q.entries e in sends_both (p.sends parts.0) (q.sends parts.1));
    }
      where
        both : (k m n : ℕ) → k ≤ m → m ≤ n → k ≤ n
        both k m n low more = omega (arith, low, more)

  -- the same messages, told otherwise
  pub goes_as : (a b : Acted) (ms ns : List Message) → ms ≡ ns → Goes a b ms → Goes a b ns
  goes_as a b ms ns e g = subst (λ (xs : List Message). Goes a b xs) e g

  pub goes_fold : {A : Type 0} (f : Acted → A → Acted) → ((a : Acted) (x : A) → Goes a (f a x) []) → (xs : List A) (a : Acted) → Goes a (fold f a xs) []
  goes_fold f each [] a = goes_itself a
  goes_fold f each (x ∷ xs) a = goes_then a (f a x) (fold f (f a x) xs) [] [] (each a x) (goes_fold f each xs (f a x))

  -- *A frame is sent* under the next control mark
  module _ (a : Acted) (other : Channel) (payload : List ℕ) (messages : List Message) where
    abbrev cells : List Cell
    cells = frame_cells other (next_control a.numbers) payload

    abbrev frames : List Frame
    frames = a.notes.frames ++ record { mark = next_control a.numbers; payload = payload } ∷ []

    abbrev with_all : Sender Controller
    with_all = record { queues = with_cells a.controller cells; notes = made a.notes (next_control a.numbers) payload }

    abbrev without : Sender Controller
    without = record { queues = a.controller; notes = noted (made a.notes (next_control a.numbers) payload) (Loss (next_control a.numbers) PoolFull) }

    abbrev by_sender : Sender Controller → Acted
    by_sender s = record { controller = s.queues; notes = s.notes; numbers = with_control a.numbers }

    frames_stay : Stays a.numbers.controls a.notes.frames frames
    frames_stay mark old given e = made_elsewhere a.notes.frames (next_control a.numbers) mark payload (λ same. later mark.frame a.numbers.controls given.1 (ap (λ (m : Mark). m.frame) same)) ∙ e
      where
        later : (k n : ℕ) → k ≤ n → n + 1 ≡ k → ⊥
        later k n low same = absurd (omega (arith, low, same))

    one_more : (n : ℕ) → n ≤ n + 1
    one_more n = omega arith

    pub goes_sent : AreSaid a.controller.address frames (last_marks channel cells) messages → Every (IsGiven (a.numbers.controls + 1)) (last_marks channel cells) → Goes a (sends_control a other payload) messages
    goes_sent said given = by (nat_le (length cells) (free_slots a.controller))
      where
        by : (b : Bool) → Goes a (by_sender (if b then with_all else without)) messages
        by true = record {
          entries = [];
          grown = sym (append-nil a.notes.entries);
          address = refl;
          controls = one_more a.numbers.controls;
          stay = frames_stay;
          sends = λ e. record { more = cells; queue = refl; said = said; given = given };
        }
        by false = record {
          entries = record { mark = next_control a.numbers; cause = PoolFull } ∷ [];
          grown = refl;
          address = refl;
          controls = one_more a.numbers.controls;
          stay = frames_stay;
          sends = λ e. absurd (cc e);
        }

  -- on another channel nothing is said
  pub goes_elsewhere : (a : Acted) (other : Channel) (payload : List ℕ) → same_channel other channel ≡ false → Goes a (sends_control a other payload) []
  goes_elsewhere a other payload apart =
      let marks : last_marks channel (frame_cells other (next_control a.numbers) payload) ≡ [] = frame_has_none channel other (next_control a.numbers) payload apart in
      goes_sent a other payload [] (subst (λ (ms : List Mark). AreSaid a.controller.address (a.notes.frames ++ record { mark = next_control a.numbers; payload = payload } ∷ []) ms []) (sym marks) none)
      (subst (Every (IsGiven (a.numbers.controls + 1))) (sym marks) tt)
