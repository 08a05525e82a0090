use Rattle.std.proofs.Common.{◌∙◌, ap, sym, option_map}
use Rattle.port_model.specs.Desk.{Standing}
use Rattle.port_model.specs.Messages.{all_of}
use Rattle.branch_desk.specs.Requests.{deleted_of}
use Rattle.branch_desk.proofs.Apart.{apart_deletes}
use Rattle.branch_desk.proofs.Keys.{deletes_told, told_number}
use Rattle.branch_desk.proofs.requests.Requests.all_on.Goals as goal

pub returns : goal.returns
returns c =
    let xs = c.self.inside.entries.items in
    rw (← c.self.view_is)
    (told_number deleted_of xs c.self.inside.deletes (all_of c.args.port) c.get.result c.self.invariant.deletes (apart_deletes xs c.self.invariant.apart) c.self.invariant.rising (rw (← c.all_of.ensures) c.get.ensures.some) (rw (← c.all_of.ensures) c.get.ensures.none)
    ∙ sym (ap (λ o. option_map (λ (s : Standing). s.number) o) (deletes_told c.args.port xs)))
