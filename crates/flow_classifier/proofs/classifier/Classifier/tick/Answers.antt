use Rattle.std.proofs.Common.{◌∙◌, ap}
use Rattle.port_model.specs.Counts.{window_moved}
use Rattle.flow_classifier.proofs.LastTurned.{counts_anew, counts_next, rows_anew, rows_next}
use Rattle.flow_classifier.proofs.classifier.Classifier.tick.Goals as goal
use Rattle.flow_classifier.proofs.classifier.Classifier.tick.Goals.{then-self, else-self}

pub invariant_of-self : goal.invariant_of-self
invariant_of-self c =
    let inside = c.self.inside in
    elim c.if-self.branch [
      | then-self w ↦ rw (w.self-inside-is, w.begin_anew.ensures) (record { some = c.self.invariant.some; rows = rows_next inside.window 0 _ (rows_anew inside.window inside.ticks inside.rows c.self.invariant.rows) })
      | else-self w ↦ rw w.self-inside-is (record { some = c.self.invariant.some; rows = rows_next inside.window inside.ticks inside.rows c.self.invariant.rows })
    ]

pub returns : goal.returns
returns c =
    let inside = c.self.inside in
    elim c.if-self.branch [
      | then-self w ↦
          let anew = rows_anew inside.window inside.ticks inside.rows c.self.invariant.rows in
          let counts = counts_next inside.window 0 _ anew.rings ∙ ap (window_moved inside.window) (counts_anew inside.ticks inside.rows.entries) in
          rw (w.self-inside-is, w.begin_anew.ensures, ← c.self.view_is) (λ i. record { window = inside.window; counts = counts i })
      | else-self w ↦
          let counts = counts_next inside.window inside.ticks inside.rows.entries c.self.invariant.rows.rings in
          rw (w.self-inside-is, ← c.self.view_is) (λ i. record { window = inside.window; counts = counts i })
    ]
