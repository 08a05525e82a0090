use Rattle.std.proofs.Common.{◌≡◌, ℕ, Bool, true, false, Some, None, ap, ◌∙◌, if◌then◌else◌}
use Rattle.net_types.specs.declared.channel.Channel.{Channel}
use Rattle.net_types.specs.Label.{is_label_channel, label_number_of, number_of_channel}
use Rattle.link_model.specs.Notes.{noted}
use Rattle.link_model.specs.declared.record.Record.TheVariants.{Part}
use Rattle.port_model.specs.Joins.{parted}
use Rattle.world_model.specs.Performing.{at_port}
use Rattle.controller_router.specs.Node.{Node, acted}
use Rattle.controller_router.proofs.router.Router.part.Goals as goal

number_is : (channel : Channel) (number : ℕ) → Some number ≡ label_number_of channel → number ≡ number_of_channel channel
number_is channel number e = by (is_label_channel channel) e where
  by : (b : Bool) → Some number ≡ (if b then Some (number_of_channel channel) else None) → number ≡ number_of_channel channel
  by true is = cc is
  by false is = absurd (cc is)

pub returns-clause-acted : goal.returns-clause-acted
returns-clause-acted g c = λ numbers.
    let seen = g.E.PortEngine.seen in
    let n = number_is c.args.input.channel c.in-Some.number c.in-Some.ensures in
    let node = ap (λ (x : Node _). x.node) c.self.view_is in
    c.part_label.ensures.acted c.push.new.self numbers
    ∙ (λ i. at_port (acted seen c.args.self.now (c.in_ok-push.ensures.ok i) numbers) c.args.input.port (λ setup desk w. parted w c.in-Some.number))
    ∙ (λ i. at_port (acted seen c.args.self.now (noted c.args.notes.now (Part (node i) c.args.input.port (n i))) numbers) c.args.input.port (λ setup desk w. parted w (n i)))
