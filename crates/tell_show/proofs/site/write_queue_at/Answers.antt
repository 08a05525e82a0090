use Rattle.std.proofs.Common.{◌≡◌, ◌++◌, ℕ, subst}
use Rattle.std.specs.Prelude.{OnOk}
use Rattle.show_text.specs.Shown.{queue_line}
use Rattle.tell_show.proofs.site.write_queue_at.Goals as goal

pub returns : goal.returns
returns g c =
    subst (λ (n : ℕ). OnOk c.write_queue.result (c.write_queue.new.out ≡ c.args.out.now ++ queue_line c.args.names.now c.args.place n))
    (c.queued.ensures c.args.names.now c.requires.runs) c.write_queue.ensures.ok
