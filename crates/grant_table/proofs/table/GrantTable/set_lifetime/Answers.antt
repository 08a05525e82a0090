use Rattle.std.proofs.Common.{◌≡◌, ◌<◌, ◌∙◌, length, Some, refl}
use Rattle.std.specs.Prelude.{slice_get}
use Rattle.branch_desk.specs.port_model.Grants.{Grant, grant_label}
use Rattle.keyed_lists.specs.Keyed.{put}
use Rattle.grant_table.proofs.Apart.{set_at, apart_put}
use Rattle.grant_table.proofs.OfLabels.{labels_put}
use Rattle.grant_table.proofs.Places.{place_holds}
use Rattle.grant_table.proofs.table.GrantTable.set_lifetime.Goals as goal

pub invariant_of-self : goal.invariant_of-self
invariant_of-self c =
    let inside : c.args.place < length c.self.inside.grants = rw (← c.self.view_is) at c.requires in
    let held = place_holds c.self.inside.grants c.args.place inside in
    let next : Grant = record held.0 { lifetime = c.args.lifetime } in
    let is : c.set_lifetime.new.self ≡ put grant_label next c.self.inside.grants =
    c.set_lifetime.ensures held.0 held.1 ∙ set_at c.self.inside.grants c.args.place held.0 next c.self.invariant.apart held.1 refl in
    rw is (record {
      apart = apart_put next c.self.inside.grants c.self.invariant.apart;
      labels = labels_put next c.self.inside.grants c.self.invariant.labels;
    })

pub returns : goal.returns
returns c = λ grant found.
    let held : slice_get c.self.inside.grants c.args.place ≡ Some grant = rw (← c.self.view_is) at found in
    let next : Grant = record grant { lifetime = c.args.lifetime } in
    let is : c.set_lifetime.new.self ≡ put grant_label next c.self.inside.grants =
    c.set_lifetime.ensures grant held ∙ set_at c.self.inside.grants c.args.place grant next c.self.invariant.apart held refl in
    rw (← c.self.view_is, is) refl
