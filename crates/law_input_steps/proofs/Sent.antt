-- frames are sent: they are made, and stand in a queue or find no slots

use Rattle.std.proofs.Common.{◌≡◌, ◌≢◌, ℕ, ◌+◌, Bool, true, false, List, [], ◌∷◌, ◌++◌, Some, sym, ap, append-nil, append_assoc, arith, length, replicate, zero, suc}
use Rattle.std.specs.Prelude.{nat_le}
use Rattle.law_input_views.specs.world_model.Words.{Channel, End, NodeId, Mark, next_control, with_control, Cell, Loss, PoolFull, payload_of, noted, frame_cells, made, Switch, Controller, default_channel, sends_control}
use Rattle.law_input_views.specs.world_model.frame_model.Sending.{Sender}
use Rattle.law_input_views.proofs.ordered_lists.Parts.{IsPart, part_whole}
use Rattle.law_input_views.proofs.law_port_facts.Keyed.{on_both}
use Rattle.law_input_views.specs.law_branch_line.Words.{ToSwitch}
use Rattle.law_input_views.specs.law_branch_line.Line.{Line}
use Rattle.law_input_views.specs.law_branch_line.Moves.{Move, step}
use Rattle.law_input_views.specs.world_model.Controller.{Acted, free_slots}
use Rattle.law_input_views.specs.world_model.Sending.{with_cells, sends}
use Rattle.law_input_views.specs.law_shown_cells.Seen.{Seen, Shows, Extends, IsUnmade}
use Rattle.law_input_views.proofs.law_shown_cells.Shows.{shows_join, shows_behind}
use Rattle.law_input_views.proofs.law_shown_cells.Made.{extends_made, made_is, unmade_next}
use Rattle.law_input_views.specs.Words.{erased, seen_request}
use Rattle.law_input_views.specs.Shown.{controller_of, switch_of}
use Rattle.law_input_views.proofs.Cells.{frame_elsewhere}
use Rattle.law_input_steps.specs.Part.{Part, part_at, Stands, Leads}
pub use Rattle.law_input_steps.specs.Asking.{IsReadable}
use Rattle.law_input_steps.proofs.Goes.{Goes, stays, goes_to, goes_next, by_move, front_part}
use Rattle.law_input_steps.proofs.Reach.{reaches_self, stands_later}

-- *Slots*, or none
abbrev pub pool : {A : Type 0} → (fits : Bool) → List A → List A → List A
pool true xs ys = xs ++ ys
pool false xs ys = xs

pub pool_shows : {W : Type 0} {drop : W → W} {f : Cell → Seen W} (fits : Bool) {cs ds : List Cell} {ts us : List W} → Shows drop f cs ts → Shows drop f ds us
    → Shows drop f (pool fits cs ds) (pool fits ts us)
pool_shows true h k = shows_join h k
pool_shows false h k = h

pub pool_nothing : {W : Type 0} {drop : W → W} {f : Cell → Seen W} (fits : Bool) {cs ds : List Cell} {ts : List W} → Shows drop f cs ts → Shows drop f ds []
    → Shows drop f (pool fits cs ds) ts
pool_nothing true h k = shows_behind h k
pool_nothing false h k = h

pub pool_part : {A : Type 0} (fits : Bool) (xs ys : List A) → IsPart (pool fits xs ys) (xs ++ ys)
pool_part true xs ys = part_whole (xs ++ ys)
pool_part false xs ys = front_part xs ys

-- *A frame of the controller*
abbrev pub with_made : Part → (payload : List ℕ) → Part
with_made p payload = record p {
  frames = p.frames ++ record { mark = next_control p.numbers; payload = payload } ∷ [];
  numbers = with_control p.numbers;
}

abbrev pub with_sent : Part → Channel → (payload : List ℕ) → (fits : Bool) → Part
with_sent p channel payload fits = record (with_made p payload) { queue = pool fits p.queue (frame_cells channel (next_control p.numbers) payload) }

sent_cases : (P : Acted → Type 0) (a : Acted) (channel : Channel) (mark : Mark) (payload : List ℕ)
    → P (record a { controller = with_cells a.controller (frame_cells channel mark payload); notes = made a.notes mark payload })
    → P (record a { notes = noted (made a.notes mark payload) (Loss mark PoolFull) }) → P (sends a channel mark payload)
sent_cases P a channel mark payload p q = on_both (λ (s : Sender Controller). P (record a { controller = s.queues; notes = s.notes }))
    (nat_le (length (frame_cells channel mark payload)) (free_slots a.controller))
    (record { queues = with_cells a.controller (frame_cells channel mark payload); notes = made a.notes mark payload })
    (record { queues = a.controller; notes = noted (made a.notes mark payload) (Loss mark PoolFull) }) p q

pub control_sent : (input : End) (s : Switch) (P : Part → Type 0) (a : Acted) (channel : Channel) (payload : List ℕ)
    → ((fits : Bool) → P (with_sent (part_at input s a) channel payload fits)) → P (part_at input s (sends_control a channel payload))
control_sent input s P a channel payload f = sent_cases (λ (b : Acted). P (part_at input s b)) (record a { numbers = with_control a.numbers }) channel (next_control a.numbers) payload (f true) (f false)

pub made_extends : (p : Part) (payload : List ℕ) → IsUnmade p.numbers.controls p.frames → Extends p.frames (with_made p payload).frames
made_extends p payload unmade = extends_made p.frames (next_control p.numbers) payload (unmade (p.numbers.controls + 1) (omega arith))

pub made_unmade : (p : Part) (payload : List ℕ) → IsUnmade p.numbers.controls p.frames → IsUnmade (with_made p payload).numbers.controls (with_made p payload).frames
made_unmade p payload unmade = unmade_next p.numbers.controls p.frames payload unmade

pub made_under : (p : Part) (payload : List ℕ) → payload_of (with_made p payload).frames (next_control p.numbers) ≡ Some payload
made_under p payload = made_is p.frames (next_control p.numbers) payload

-- what is sent on another channel is nothing to the line
module _ (node : NodeId) (input : End) where
  pub sent_elsewhere : (p : Part) (channel : Channel) (payload : List ℕ) (fits : Bool) → channel ≢ default_channel → Leads node input p (with_sent p channel payload fits)
  sent_elsewhere p channel payload fits n line h = reaches_self node input (with_sent p channel payload fits) line (record {
    own = h.own;
    far = h.far;
    to_switch = pool_nothing fits later.to_switch (frame_elsewhere (seen_request (controller_of node) (switch_of node) input) erased (with_made p payload).frames channel (next_control p.numbers) payload n);
    at_switch = later.at_switch;
    to_controller = later.to_controller;
    gathered = later.gathered;
    at_controller = h.at_controller;
    drawn = h.drawn;
    before = h.before;
    behind = h.behind;
    unmade = later.unmade;
    numbered = h.numbered;
  })
    where
      later : Stands node input (with_made p payload) line
      later = stands_later node input p (with_made p payload).frames (with_control p.numbers) line (made_extends p payload h.unmade) (made_unmade p payload h.unmade) (omega arith) h

-- *The same word again and again*
pub again_each : (line : Line) (m : Move) (c : ToSwitch)
    → ((q : List ToSwitch) → step (record line { to_switch = q }) m ≡ record line { to_switch = q ++ c ∷ [] })
    → (n : ℕ) (q : List ToSwitch) → Goes (record line { to_switch = q }) (record line { to_switch = q ++ replicate n c })
again_each line m c f zero q = goes_to (record line { to_switch = q }) (record line { to_switch = q }) (record line { to_switch = q ++ [] }) (stays (record line { to_switch = q }))
    (ap (λ (z : List ToSwitch). record line { to_switch = z }) (sym (append-nil q)))
again_each line m c f (suc n) q =
    goes_to (record line { to_switch = q }) (record line { to_switch = (q ++ c ∷ []) ++ replicate n c }) (record line { to_switch = q ++ c ∷ replicate n c })
    (goes_next (record line { to_switch = q }) (record line { to_switch = q ++ c ∷ [] }) (record line { to_switch = (q ++ c ∷ []) ++ replicate n c })
    (by_move (record line { to_switch = q }) m (record line { to_switch = q ++ c ∷ [] }) (f q)) (again_each line m c f n (q ++ c ∷ [])))
    (ap (λ (z : List ToSwitch). record line { to_switch = z }) (append_assoc q (c ∷ []) (replicate n c)))
