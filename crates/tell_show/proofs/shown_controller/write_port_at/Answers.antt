use Rattle.std.proofs.Common.{◌≡◌, ◌++◌, List, ℕ, subst}
use Rattle.std.specs.Prelude.{OnOk, slice_get}
use Rattle.controller.specs.Controlling.{controller_of}
use Rattle.tell_show.proofs.Ends.{lines_are}
use Rattle.tell_show.proofs.shown_controller.write_port_at.Goals as goal

pub returns : goal.returns
returns g c = λ linked found.
    let seen = g.E.PortEngine.seen in
    subst (λ (lines : List ℕ). OnOk c.write.result (c.write.new.out ≡ c.args.out.now ++ lines))
    (lines_are c.args.names.now c.args.node (slice_get (controller_of seen c.args.controller.now).ports c.args.place) linked (seen c.link_at.result.now) found c.link_at.ensures)
    c.write.ensures
