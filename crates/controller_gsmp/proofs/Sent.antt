-- What is sent on the control link, the controller sends.

use Rattle.std.proofs.Common.{◌≡◌, ℕ, Bool, true, false, List, ◌++◌, length, refl, ap, subst, sym, ◌∙◌, if◌then◌else◌}
use Rattle.std.specs.Prelude.{nat_le}
use Rattle.net_types.specs.declared.channel.Channel.{Channel}
use Rattle.net_types.specs.declared.number.Mark.{Mark}
use Rattle.net_types.specs.Number.{GivenOut}
use Rattle.atm_cells.specs.declared.cell.Cell.{Cell}
use Rattle.link_model.specs.Notes.{Journal, noted}
use Rattle.link_model.specs.declared.record.Record.TheVariants.{Loss}
use Rattle.link_model.specs.declared.record.Cause.TheVariants.{PoolFull}
use Rattle.frame_model.specs.Frame.{frame_cells, made}
use Rattle.frame_model.specs.Sending.{Sender, sent_frame}
use Rattle.world_model.specs.Controller as model
use Rattle.world_model.specs.Sending.{sends}
use Rattle.controller_link.specs.Cells.{ControlCells, free_slots}
use Rattle.controller_gsmp.specs.Client.{AreOneNode, Client, Router, acted, controller_of}
use Rattle.controller_gsmp.proofs.Sums.{free_is, ports_in}

on_both : {A : Type 0} (P : A → Type 0) (b : Bool) (x y : A) → P x → P y → P (if b then x else y)
on_both P true x y p q = p
on_both P false x y p q = q

-- with cells at the end of the queue
abbrev pub queued_on : ControlCells → List Cell → ControlCells
queued_on x more = record x { queue = x.queue ++ more }

-- what the link and the notes are after a frame
abbrev pub after_frame : ControlCells → Journal → Channel → Mark → (payload : List ℕ) → Sender ControlCells
after_frame x notes channel mark payload =
    sent_frame (free_slots x) (queued_on x) (record { queues = x; notes = notes }) channel mark payload

-- nothing changes but the queue
pub queue_alone : (x after : ControlCells) (notes notes' : Journal) (channel : Channel) (mark : Mark) (payload : List ℕ) → record { queues = after; notes = notes' } ≡ after_frame x notes channel mark payload → after ≡ record x { queue = after.queue }
queue_alone x after notes notes' channel mark payload e =
    subst (λ (s : Sender ControlCells). s.queues ≡ record x { queue = s.queues.queue }) (sym e)
    (on_both (λ (s : Sender ControlCells). s.queues ≡ record x { queue = s.queues.queue }) (nat_le (length (frame_cells channel mark payload)) (free_slots x))
    (record { queues = queued_on x (frame_cells channel mark payload); notes = made notes mark payload })
    (record { queues = x; notes = noted (made notes mark payload) (Loss mark PoolFull) }) refl refl)

-- where so many slots are free
abbrev after_by : (free : ℕ) → Router → Client → Journal → GivenOut → Channel → Mark → (payload : List ℕ) → model.Acted
after_by free r x notes numbers channel mark payload =
    let s : Sender ControlCells = sent_frame free (queued_on x.control) (record { queues = x.control; notes = notes }) channel mark payload in
    acted r (record x { control = s.queues }) s.notes numbers

abbrev sends_by : (free : ℕ) → Router → Client → Journal → GivenOut → Channel → Mark → (payload : List ℕ) → model.Acted
sends_by free r x notes numbers channel mark payload =
    let c = controller_of r x in
    let s : Sender model.Controller = sent_frame free (λ more. record c { queue = c.queue ++ more }) (record { queues = c; notes = notes }) channel mark payload in
    record { controller = s.queues; notes = s.notes; numbers = numbers }

abbrev shown : Router → Client → GivenOut → Sender ControlCells → model.Acted
shown r x numbers s = acted r (record x { control = s.queues }) s.notes numbers

abbrev sending : GivenOut → Sender model.Controller → model.Acted
sending numbers s = record { controller = s.queues; notes = s.notes; numbers = numbers }

same_by : (free : ℕ) (r : Router) (x : Client) (notes : Journal) (numbers : GivenOut) (channel : Channel) (mark : Mark) (payload : List ℕ) → after_by free r x notes numbers channel mark payload ≡ sends_by free r x notes numbers channel mark payload
same_by free r x notes numbers channel mark payload = by (nat_le (length (frame_cells channel mark payload)) free) where
  by : (b : Bool) → shown r x numbers (if b then record { queues = queued_on x.control (frame_cells channel mark payload); notes = made notes mark payload } else record { queues = x.control; notes = noted (made notes mark payload) (Loss mark PoolFull) })
      ≡ sending numbers (if b then record { queues = record (controller_of r x) { queue = x.control.queue ++ frame_cells channel mark payload }; notes = made notes mark payload } else record { queues = controller_of r x; notes = noted (made notes mark payload) (Loss mark PoolFull) })
  by true = refl
  by false = refl

pub sent_is : (r : Router) (x : Client) (after : ControlCells) (notes notes' : Journal) (numbers : GivenOut) (channel : Channel) (mark : Mark) (payload : List ℕ) → AreOneNode r x → record { queues = after; notes = notes' } ≡ after_frame x.control notes channel mark payload
    → acted r (record x { control = after }) notes' numbers ≡ sends (acted r x notes numbers) channel mark payload
sent_is r x after notes notes' numbers channel mark payload node e =
    ap (λ (s : Sender ControlCells). acted r (record x { control = s.queues }) s.notes numbers) e
    ∙ same_by (free_slots x.control) r x notes numbers channel mark payload
    ∙ ap (λ free. sends_by free r x notes numbers channel mark payload) (sym (free_is r x node))

-- the ports stay as they are
pub still_one : (r : Router) (x after : Client) → AreOneNode r x → after ≡ record x { control = record x.control { queue = after.control.queue } } → AreOneNode r after
still_one r x after node e = record { ports = ap (λ (y : Client). ports_in y.control.ports) e ∙ node.ports }

pub rest_on : (x y after : Client) → y ≡ record x { control = record x.control { queue = y.control.queue } } → after ≡ record y { control = record y.control { queue = after.control.queue } } → after ≡ record x { control = record x.control { queue = after.control.queue } }
rest_on x y after first second = second ∙ ap (λ (z : Client). record z { control = record z.control { queue = after.control.queue } }) first
