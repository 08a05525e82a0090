use Rattle.std.proofs.Common.{◌≡◌, ◌∙◌, ◌-◌, length, None, Some, refl, sym, ap, arith}
use Rattle.std.specs.Prelude.{slice_get, option_map}
use Rattle.std.proofs.lemmas.Option.{slice_get_read}
use Rattle.keyed_lists.specs.Keyed.{at}
use Rattle.branch_desk.specs.port_model.Labels.{label_number}
use Rattle.port_labels.specs.Held.{labels_in, shown}
use Rattle.port_labels.proofs.InPlace.{absent_below, absent_past, found_in}
use Rattle.port_labels.proofs.places.Places.find.Goals as goal
use Rattle.port_labels.proofs.places.Places.find.Goals.{then-label-self-via-then-label-self, then-label-self-via-else-label-self+then-label-self-2}

pub returns-then-label-self : goal.returns-then-label-self
returns-then-label-self c =
    let none : at label_number c.args.label (labels_in c.self.inside.held.items) ≡ None =
    elim c.then-label-self.branch [
      | then-label-self-via-then-label-self w ↦
          absent_below c.self.inside.instance c.self.inside.least c.args.label c.self.inside.held.items c.self.invariant.placed (omega (arith, w.if-label-self.true))
      | then-label-self-via-else-label-self+then-label-self-2 w ↦
          absent_past c.self.inside.instance c.self.inside.least c.args.label c.self.inside.held.items c.self.invariant.placed (omega (arith, w.if-label-self-2.true, c.self.invariant.sized))
    ] in
    rw (← c.self.view_is) (sym none)

pub returns-in-Some : goal.returns-in-Some
returns-in-Some c =
    let items = c.self.inside.held.items in
    let place = c.args.label - c.self.inside.least in
    let there : slice_get items place ≡ Some c.index.result.now =
    slice_get_read items (length items) place c.index.result.now refl (omega (arith, c.if-label-self.false, c.if-label-self-2.false, c.self.invariant.sized)) c.index.ensures in
    let found : at label_number c.args.label (labels_in items) ≡ option_map shown c.index.result.now =
    found_in c.self.inside.instance c.self.inside.least c.args.label place items c.index.result.now c.self.invariant.placed (omega (arith, c.if-label-self.false)) there in
    rw (← c.self.view_is) (sym (found ∙ ap (option_map shown) c.in-Some.is))

pub returns-in-None : goal.returns-in-None
returns-in-None c =
    let items = c.self.inside.held.items in
    let place = c.args.label - c.self.inside.least in
    let there : slice_get items place ≡ Some c.index.result.now =
    slice_get_read items (length items) place c.index.result.now refl (omega (arith, c.if-label-self.false, c.if-label-self-2.false, c.self.invariant.sized)) c.index.ensures in
    let found : at label_number c.args.label (labels_in items) ≡ option_map shown c.index.result.now =
    found_in c.self.inside.instance c.self.inside.least c.args.label place items c.index.result.now c.self.invariant.placed (omega (arith, c.if-label-self.false)) there in
    rw (← c.self.view_is) (sym (found ∙ ap (option_map shown) c.in-None.is))
