-- A label that is changed and then refreshed or recalled: the later change stays

use Rattle.std.proofs.Common.{◌≡◌, ◌≤◌, ◌<◌, ℕ, Bool, true, false, List, refl, sym, ap, ◌∙◌, Option, None, Some, option_map, is_some, ◌+◌, arith, if◌then◌else◌}
use Rattle.std.specs.Prelude.{min, nat_le, is_none}
use Rattle.std.proofs.lemmas.Bool.Decides.{nat_tests}
use Rattle.port_model.specs.Desk.{Desk}
use Rattle.keyed_lists.specs.Keyed.{put}
use Rattle.port_model.specs.declared.action.Action.{Action}
use Rattle.port_model.specs.Setup.{Setup}
use Rattle.port_model.specs.Labels.{Label, Offered, Recalled, label_number}
use Rattle.port_model.specs.Counts.{greatest_count}
use Rattle.port_model.specs.Port.{Port, Session, Work}
use Rattle.port_model.specs.Saying.{last_number, reclaim, redirect, says}
use Rattle.port_model.specs.Reclaiming.{reclaims, reclaims_in, recalls, unjoins}
use Rattle.port_model.specs.Ticks.{idles, one_idler, one_older, refreshes, ticks_in}
use Rattle.port_state.specs.Parts.{with_label}
use Rattle.port_saying.specs.Rules.{begun}
use Rattle.port_saying.proofs.Sequels.{if_true}
use Rattle.port_saying.proofs.Sessions.{label_twice, same_session}

module _ (setup : Setup) (port : Port) (actions : List Action) (n : ℕ) (x y : Label) (same : x.number ≡ y.number) where
  pub refreshes_later : refreshes setup (begun (with_label port x) actions n) y ≡ refreshes setup (begun port actions n) y
  refreshes_later = by (nat_le setup.timers.refresh y.ticks)
    where
      by : (b : Bool) → (if b then says (begun (with_label (with_label port x) (record y { ticks = 0 })) actions n) (redirect setup y) else begun (with_label (with_label port x) y) actions n)
          ≡ (if b then says (begun (with_label port (record y { ticks = 0 })) actions n) (redirect setup y) else begun (with_label port y) actions n)
      by true = ap (λ (p : Port). says (begun p actions n) (redirect setup y)) (label_twice port x (record y { ticks = 0 }) same)
      by false = ap (λ (p : Port). begun p actions n) (label_twice port x y same)

  reclaims_later : reclaims (begun (with_label port x) actions n) y ≡ reclaims (begun port actions n) y
  reclaims_later = by port.session refl
    where
      by : (o : Option Session) → port.session ≡ o
          → reclaims_in (begun (with_label port x) actions n) y (option_map (λ (s : Session). record s { labels = put label_number x s.labels }) o) ≡ reclaims_in (begun port actions n) y o
      by None is = ap (λ (p : Port). begun p actions n) (ap (λ (o : Option Session). record port { session = option_map (λ (s : Session). record s { labels = put label_number x s.labels }) o }) is ∙ same_session port None is)
      by (Some s) is = ap (λ (p : Port). says (begun p actions n) (reclaim y)) (label_twice port x (record y { state = Recalled (min last_number s.number) false }) same)

  pub recalls_later : recalls setup (begun (with_label port x) actions n) y ≡ recalls setup (begun port actions n) y
  recalls_later = ap (λ w. unjoins setup w y.number y.join) reclaims_later

if_false : {A : Type 0} (b : Bool) (x y : A) → b ≡ false → (if b then x else y) ≡ y
if_false true x y e = absurd (cc e)
if_false false x y e = refl

-- *An offered label that isn't joined* is idle one tick more
none_is : {A : Type 0} (o : Option A) → is_some o ≡ false → is_none o ≡ true
none_is None e = refl
none_is (Some x) e = absurd (cc e)

module _ (setup : Setup) (desk : Desk) (port : Port) (actions : List Action) (n : ℕ) (label idler : Label) (unjoined : is_some label.join ≡ false) (same : one_idler label ≡ idler) where
  abbrev work : Work
  work = begun port actions n

  idles_now : ticks_in setup desk work label Offered ≡ idles setup work idler
  idles_now = if_true (is_none label.join) (idles setup work (one_idler label)) (refreshes setup work (one_older label)) (none_is label.join unjoined) ∙ ap (idles setup work) same

  pub offered_kept : setup.policy.keeps idler.flow idler.idle ≡ true → ticks_in setup desk work label Offered ≡ refreshes setup work (one_older idler)
  offered_kept kept = idles_now ∙ if_true (setup.policy.keeps idler.flow idler.idle) (refreshes setup work (one_older idler)) (recalls setup work idler) kept

  pub offered_recalled : setup.policy.keeps idler.flow idler.idle ≡ false → ticks_in setup desk work label Offered ≡ recalls setup work idler
  offered_recalled left = idles_now ∙ if_false (setup.policy.keeps idler.flow idler.idle) (refreshes setup work (one_older idler)) (recalls setup work idler) left

-- so many ticks
pub idler_is : (label : Label) (idle : ℕ) → idle ≡ min (label.idle + 1) 4294967295 → one_idler label ≡ record label { idle = idle }
idler_is label idle e =
    let same : min greatest_count (label.idle + 1) ≡ idle = omega (arith, e) in
    ap (λ (i : ℕ). record label { idle = i }) same

pub older_is : (label : Label) (ticks : ℕ) → ticks ≡ min (label.ticks + 1) 4294967295 → one_older label ≡ record label { ticks = ticks }
older_is label ticks e =
    let same : min greatest_count (label.ticks + 1) ≡ ticks = omega (arith, e) in
    ap (λ (t : ℕ). record label { ticks = t }) same

-- *An offered label is refreshed* when its time has come, and grows older before
module _ (setup : Setup) (port next : Port) (actions : List Action) (n : ℕ) (label : Label) (ticks : ℕ) (older : ticks ≡ min (label.ticks + 1) 4294967295) where
  pub refresh_waits : ticks < setup.timers.refresh → next ≡ with_label port (record label { ticks = ticks })
      → refreshes setup (begun port actions n) (one_older label) ≡ begun next actions n
  refresh_waits early changed =
      ap (refreshes setup (begun port actions n)) (older_is label ticks older)
      ∙ if_false (nat_le setup.timers.refresh ticks) _ (begun (with_label port (record label { ticks = ticks })) actions n) (grind (arith, nat_tests, early))
      ∙ ap (λ (p : Port). begun p actions n) (sym changed)

  pub refresh_says : setup.timers.refresh ≤ ticks → next ≡ with_label port (record label { ticks = 0 })
      → refreshes setup (begun port actions n) (one_older label) ≡ says (begun next actions n) (redirect setup (record label { ticks = ticks }))
  refresh_says due changed =
      ap (refreshes setup (begun port actions n)) (older_is label ticks older)
      ∙ if_true (nat_le setup.timers.refresh ticks) (says (begun (with_label port (record label { ticks = 0 })) actions n) (redirect setup (record label { ticks = ticks }))) _ (grind (arith, nat_tests, due))
      ∙ ap (λ (p : Port). says (begun p actions n) (redirect setup (record label { ticks = ticks }))) (sym changed)
