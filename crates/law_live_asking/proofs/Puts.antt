-- what a controller puts into the queue to its switch, one thing after another

use Rattle.std.proofs.Common.{◌≡◌, ℕ, ◌+◌, ◌≤◌, false, List, [], ◌∷◌, ◌++◌, append_assoc, append-nil, length, length-append, Option, None, Some, refl, sym, ◌∙◌, ap, arith}
use Rattle.std.specs.Prelude.{nat_le}
use Rattle.world_model.specs.Words.{PortNo, Channel, Mark, Cell, Loss, PoolFull, noted, made, frame_cells, same_channel, next_control, next_mark, with_control, hop_of, onward, Hop, Here, On, kind_of, default_payload, labelled_payload, Grant, control_end, Controller, default_channel, default_home, is_control, sends_control, sends_next, goes_by, grant_by, forwards_packet}
use Rattle.world_model.specs.ipv4_forward.declared.outcome.Hop.TheVariants.{NoRoute, Expired}
use Rattle.world_model.specs.frame_model.Sending.{Sender}
use Rattle.world_model.specs.Controller.{Acted, free_slots}
use Rattle.world_model.specs.Packets.{forwarded}
use Rattle.world_model.specs.Sending.{with_cells, sends}
use Rattle.law_live_lasting.proofs.law_port_facts.Keyed.{on_both}
use Rattle.law_live_lasting.proofs.law_shown_cells.Frames.{differ}
use Rattle.law_live_lasting.proofs.law_shown_cells.Made.{made_is}
use Rattle.law_live_lasting.proofs.law_live_control.Since.{apart_label}
use Rattle.law_live_lasting.specs.law_live_control.Calm.{HasLinks}
use Rattle.law_live_lasting.proofs.law_live_orders.Hops.{home_not_gsmp}
use Rattle.law_live_lasting.proofs.law_live_orders.Marks.{marks_join, frame_has_none}
use Rattle.law_live_lasting.proofs.law_live_mirrored_worlds.Sending.{one_mark}
use Rattle.law_live_asking.specs.Law.{PutsNone, PutsOne}

pub puts_same : (a b : Controller) → b.queue ≡ a.queue → PutsNone a b
puts_same a b same = record { put = []; queue = same ∙ sym (append-nil a.queue); none = refl }

pub puts_then : (a b c : Controller) → PutsNone a b → PutsNone b c → PutsNone a c
puts_then a b c p q = record {
  put = p.put ++ q.put;
  queue = q.queue ∙ (ap (λ (cells : List Cell). cells ++ q.put) p.queue ∙ append_assoc a.queue p.put q.put);
  none = marks_join default_channel p.put q.put ∙ (λ i. p.none i ++ q.none i);
}

pub puts_on : (a b : Controller) (c : Acted) (payload : List ℕ) → PutsNone a b → PutsOne b c payload → PutsOne a c payload
puts_on a b c payload p q = record {
  put = p.put ++ q.put;
  queue = q.queue ∙ (ap (λ (cells : List Cell). cells ++ q.put) p.queue ∙ append_assoc a.queue p.put q.put);
  mark = q.mark;
  one = marks_join default_channel p.put q.put ∙ (λ i. p.none i ++ q.one i);
  made = q.made;
}

-- *A frame on another channel*
sent_none : (a : Acted) (channel : Channel) (mark : Mark) (payload : List ℕ) → same_channel channel default_channel ≡ false → PutsNone a.controller (sends a channel mark payload).controller
sent_none a channel mark payload apart = on_both (λ (s : Sender Controller). PutsNone a.controller s.queues) (nat_le (length (frame_cells channel mark payload)) (free_slots a.controller))
    (record { queues = with_cells a.controller (frame_cells channel mark payload); notes = made a.notes mark payload })
    (record { queues = a.controller; notes = noted (made a.notes mark payload) (Loss mark PoolFull) })
    (record { put = frame_cells channel mark payload; queue = refl; none = frame_has_none default_channel channel mark payload apart })
    (puts_same a.controller a.controller refl)

pub control_none : (a : Acted) (channel : Channel) (payload : List ℕ) → same_channel channel default_channel ≡ false → PutsNone a.controller (sends_control a channel payload).controller
control_none a channel payload apart = sent_none (record a { numbers = with_control a.numbers }) channel (next_control a.numbers) payload apart

-- *A frame on the GSMP channel*, where no loss is entered
one_longer : {A : Type 0} (xs : List A) (x : A) → length (xs ++ x ∷ []) ≡ length xs + 1
one_longer xs x = length-append xs (x ∷ [])

too_long : {m n : ℕ} → m ≡ n + 1 → m ≤ n → ⊥
too_long e le = absurd (omega (arith, e, le))

pub control_one : (a : Acted) (payload : List ℕ) → length (sends_control a default_channel payload).notes.entries ≤ length a.notes.entries
    → PutsOne a.controller (sends_control a default_channel payload) payload
control_one a payload = on_both (λ (s : Sender Controller). length s.notes.entries ≤ length a.notes.entries
    → PutsOne a.controller (record { controller = s.queues; notes = s.notes; numbers = with_control a.numbers }) payload) (nat_le (length cells) (free_slots a.controller))
    (record { queues = with_cells a.controller cells; notes = made a.notes mark payload })
    (record { queues = a.controller; notes = noted (made a.notes mark payload) (Loss mark PoolFull) })
    (λ whole. record { put = cells; queue = refl; mark = mark; one = one_mark mark payload; made = made_is a.notes.frames mark payload })
    (λ whole. absurd (too_long (one_longer a.notes.entries (record { mark = mark; cause = PoolFull })) whole))
  where
    mark : Mark
    mark = next_control a.numbers

    cells : List Cell
    cells = frame_cells default_channel mark payload

-- *A packet is sent on*: the ledger has no fewer entries
same_many : (n : ℕ) → n ≤ n
same_many n = omega arith

no_more : {m n : ℕ} → m ≡ n + 0 → n ≤ m
no_more e = omega (arith, e)

one_more : {m n : ℕ} → m ≡ n + 1 → n ≤ m
one_more e = omega (arith, e)

pub record Sent (a b : Acted) : Type 0 where
  pub puts : PutsNone a.controller b.controller
  pub grown : length a.notes.entries ≤ length b.notes.entries

sent_grown : (a : Acted) (channel : Channel) (mark : Mark) (payload : List ℕ) → length a.notes.entries ≤ length (sends a channel mark payload).notes.entries
sent_grown a channel mark payload = on_both (λ (s : Sender Controller). length a.notes.entries ≤ length s.notes.entries) (nat_le (length (frame_cells channel mark payload)) (free_slots a.controller))
    (record { queues = with_cells a.controller (frame_cells channel mark payload); notes = made a.notes mark payload })
    (record { queues = a.controller; notes = noted (made a.notes mark payload) (Loss mark PoolFull) })
    (same_many (length a.notes.entries)) (one_more (one_longer a.notes.entries (record { mark = mark; cause = PoolFull })))

module _ (a : Acted) (came : Mark) where
  next_sent : (channel : Channel) (payload : List ℕ) → same_channel channel default_channel ≡ false → Sent a (sends_next a came channel payload)
  next_sent channel payload apart = on_both (Sent a) (is_control came) (sends_control a channel payload) (sends a channel (next_mark came) payload)
      (record { puts = control_none a channel payload apart; grown = sent_grown (record a { numbers = with_control a.numbers }) channel (next_control a.numbers) payload })
      (record { puts = sent_none a channel (next_mark came) payload apart; grown = sent_grown a channel (next_mark came) payload })

  granted_sent : (port : PortNo) (packet : List ℕ) (o : Option Grant) → 1 ≤ port.0 → Sent a (goes_by a came port packet o)
  granted_sent port packet None link = next_sent (default_home port).channel (default_payload packet) (home_not_gsmp port link)
  granted_sent port packet (Some grant) link = next_sent (control_end port grant.label).channel (labelled_payload (kind_of grant.flow) packet)
      (differ (control_end port grant.label).channel default_channel (apart_label port grant.label link))

  hop_sent : (packet : List ℕ) (hop : Hop) → ((port : PortNo) → hop ≡ On port → 1 ≤ port.0) → Sent a (forwarded a came packet hop)
  hop_sent packet Here links = record { puts = puts_same a.controller a.controller refl; grown = no_more (length-append a.notes.entries []) }
  hop_sent packet NoRoute links = record { puts = puts_same a.controller a.controller refl; grown = no_more (length-append a.notes.entries []) }
  hop_sent packet Expired links = record { puts = puts_same a.controller a.controller refl; grown = no_more (length-append a.notes.entries []) }
  hop_sent packet (On port) links = granted_sent port (onward packet) (grant_by a.controller port (onward packet)) (links port refl)

  pub forwards_sent : HasLinks a.controller → (packet : List ℕ) → Sent a (forwards_packet a came packet)
  forwards_sent links packet = hop_sent packet (hop_of a.controller.table packet) (links.routes packet)
