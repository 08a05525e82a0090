use Rattle.std.proofs.Common.{◌≡◌, ◌∙◌, ℕ, None, Option, Some, ap, sym}
use Rattle.std.specs.List.{position}
use Rattle.frame_packets.specs.declared.queue.Queue.{Queue}
use Rattle.frame_packets.specs.Taps.{queue_of, same_queue}
use Rattle.tell_capture.specs.Capture.{interface_number, number_at}
use Rattle.tell_capture.proofs.interface.interface_number.Goals as goal

pub returns-in-Some : goal.returns-in-Some
unfolding interface_number
returns-in-Some c =
    let found : Some c.in-Some.number ≡ position (λ other. same_queue (queue_of c.args.place) other) c.args.queues.now =
    sym c.in-Some.is ∙ c.place_among.ensures ∙ ap (λ (queue : Queue). position (λ other. same_queue queue other) c.args.queues.now) c.of.ensures in
    ap number_at found

pub returns-in-None : goal.returns-in-None
unfolding interface_number
returns-in-None c =
    let none : None ≡ position (λ other. same_queue (queue_of c.args.place) other) c.args.queues.now =
    sym c.in-None.is ∙ c.place_among.ensures ∙ ap (λ (queue : Queue). position (λ other. same_queue queue other) c.args.queues.now) c.of.ensures in
    ap number_at none
