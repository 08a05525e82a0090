use Rattle.std.proofs.Common.{◌≡◌, ◌++◌, List, ℕ, subst}
use Rattle.std.specs.Prelude.{OnErr, OnOk}
use Rattle.lab_text.specs.Kept.{BreaksOff}
use Rattle.world_model.specs.Topology.{node_at}
use Rattle.show_text.proofs.Nodes.{address_read}
use Rattle.show_text.proofs.node.write_address_of.Goals as goal

pub returns-clause-ok : goal.returns-clause-ok
returns-clause-ok c =
    subst (λ (text : List ℕ). OnOk c.write_address.result (c.write_address.new.out ≡ c.args.out.now ++ text))
    (address_read (node_at c.args.names.now c.args.node) c.address.result c.address.ensures) c.write_address.ensures.ok

pub returns-clause-err : goal.returns-clause-err
returns-clause-err c =
    subst (λ (text : List ℕ). OnErr c.write_address.result (BreaksOff c.args.out.now (c.args.out.now ++ text) c.write_address.new.out))
    (address_read (node_at c.args.names.now c.args.node) c.address.result c.address.ensures) c.write_address.ensures.err
