use Rattle.std.proofs.Common.{◌≡◌, ◌∙◌, true, sym, rules}
use Rattle.std.specs.Prelude.{IsTrue}
use Rattle.net_types.specs.Label.{is_label_number}
use Rattle.grant_table.specs.Held.{shown}
use Rattle.grant_table.specs.declared.held.Held.TheVariants as held
use Rattle.grant_table.proofs.Apart.{apart_push}
use Rattle.grant_table.proofs.OfLabels.{in_range_label, labels_push}
use Rattle.grant_table.proofs.table.GrantTable.accept.Goals as goal

pub invariant_of-self : goal.invariant_of-self
invariant_of-self c =
    let inside : c.is_in_range.result ≡ true = search rules in
    let label : IsTrue (is_label_number c.args.vci) =
    in_range_label c.args.self.now.least c.args.self.now.greatest c.args.vci (sym c.is_in_range.ensures ∙ inside) in
    rw c.push.ensures (record {
      apart = apart_push (shown (held.Idle c.new.result)) c.self.inside.grants c.self.invariant.apart (rw c.new.ensures c.in_default.ensures.none);
      labels = labels_push (shown (held.Idle c.new.result)) c.self.inside.grants c.self.invariant.labels (rw c.new.ensures label);
    })
