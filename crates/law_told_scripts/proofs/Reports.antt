-- the report of a script is the account of its tale

use Rattle.std.proofs.Common.{◌≡◌, ◌∙◌, ℕ, ◌==◌, Bool, true, false, List, [], ◌∷◌, ◌++◌, ap, arith, refl, sym, if◌then◌else◌}
use Rattle.std.proofs.lemmas.Bool.Decides.{nat_tests}
use Rattle.std.proofs.lemmas.Grind.{flat_map-append}
use Rattle.std.proofs.lemmas.List.Concat.{flat_map-cons}
use Rattle.link_model.specs.declared.record.Record.{Record}
use Rattle.port_model.specs.Setup.{Policy}
use Rattle.tell_report.specs.world_model.network_model.declared.event.Event.{Event}
use Rattle.tell_report.specs.world_model.Run.{next, records_of, worlds_from}
use Rattle.tell_report.specs.world_model.Topology.{Topology}
use Rattle.tell_report.specs.world_model.World.{World, opened}
use Rattle.tell_report.specs.script_model.Records.{record_line}
use Rattle.tell_report.specs.script_model.Reports.{body_under, last_line, record_lines, report_under}
use Rattle.tell_report.specs.script_model.Script.{Script}
use Rattle.tell_report.specs.telling_model.Placed.{Placed, events_in}
use Rattle.tell_report.specs.telling_model.Tale.{account, body, told_at_last, told, told_of}
use Rattle.tell_report.proofs.telling_model.Told.{opened_notes}
use Rattle.tell_report.specs.Report.{report_tale}

lines_both : (t : Topology) (xs ys : List Record) → record_lines t (xs ++ ys) ≡ record_lines t xs ++ record_lines t ys
lines_both t xs ys = flat_map-append (record_line t) xs ys

append_nil : (xs : List ℕ) → xs ++ [] ≡ xs
append_nil [] = refl
append_nil (x ∷ xs) = ap (λ ys. x ∷ ys) (append_nil xs)

-- *The lines of a run's records* are those of its first world, and what the tale tells of its events
records_told : (t : Topology) (w : World) (events : List Placed)
    → record_lines t (records_of (worlds_from t w (events_in events))) ≡ record_lines t w.notes.records ++ (told report_tale tt t w events).octets
records_told t w [] =
    ap (record_lines t) (flat_map-cons (λ (v : World). v.notes.records) w []) ∙ lines_both t w.notes.records []
records_told t w (p ∷ events) =
    let v : World = next t w p.event in
    let rest : List Record = records_of (worlds_from t v (events_in events)) in
    ap (record_lines t) (flat_map-cons (λ (v : World). v.notes.records) w (worlds_from t v (events_in events)))
    ∙ lines_both t w.notes.records rest
    ∙ ap (λ xs. record_lines t w.notes.records ++ xs) (records_told t v events)

module _ (policy : Policy) (script : Script) (placed : List Placed) (same : events_in placed ≡ script.events) where
  -- *From the opening on*
  told_is_body : (told_of report_tale policy script.topology placed).octets ≡ body_under policy script
  told_is_body =
      let t : Topology = script.topology in
      let w : World = opened policy t in
      let none : record_lines t w.notes.records ≡ [] = ap (λ notes. record_lines t notes.records) (opened_notes policy t) in
      sym (records_told t w placed ∙ ap (λ xs. xs ++ (told report_tale tt t w placed).octets) none)
      ∙ ap (λ (events : List Event). record_lines t (records_of (worlds_from t w events))) same

  -- *The account* is the report
  pub account_is_report : account report_tale policy script placed ≡ report_under policy script
  account_is_report = ap (λ xs. xs ++ last_line policy script) told_is_body

  -- without events there is none
  no_body : script.events ≡ [] → body_under policy script ≡ []
  no_body none =
      let t : Topology = script.topology in
      let w : World = opened policy t in
      ap (λ (events : List Event). record_lines t (records_of (worlds_from t w events))) none ∙ records_told t w [] ∙ append_nil (record_lines t w.notes.records)
      ∙ ap (λ notes. record_lines t notes.records) (opened_notes policy t)

  pub nothing_told : script.events ≡ [] → (told_of report_tale policy script.topology placed).octets ≡ []
  nothing_told none = told_is_body ∙ no_body none

  -- *What is told before the end* is its lines but the last
  pub body_is_report : (script.event_lines ≡ 0 → script.events ≡ []) → body report_tale policy script placed ≡ body_under policy script
  body_is_report none = by (script.event_lines == 0) refl
    where
      by : (b : Bool) → script.event_lines == 0 ≡ b → (if b then [] else (told_of report_tale policy script.topology placed).octets) ≡ body_under policy script
      by true e = sym (no_body (none (grind (arith, nat_tests, e))))
      by false e = told_is_body

-- what is told at last is the last line
pub end_is_last : (policy : Policy) (script : Script) → told_at_last report_tale policy script ≡ last_line policy script
end_is_last policy script = refl
