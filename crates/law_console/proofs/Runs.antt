-- every run is right

use Rattle.std.proofs.Common.{◌≡◌, ℕ, ◌+◌, ◌≤◌, ◌||◌, Bool, true, false, List, [], ◌∷◌, ◌++◌, length, take, refl, sym, ◌∙◌, ap, subst, arith, inl, inr, ◌⊎◌}
use Rattle.std.specs.Prelude.{All}
use Rattle.std.specs.List.{list_any}
use Rattle.std.proofs.lemmas.List.Elements.{All-head, All-tail}
use Rattle.std.specs.Option.{option_map}
use Rattle.std.specs.FinMap.{get-empty}
use Rattle.world_model.specs.crossbar_model.declared.branch.Branch.{Branch}
use Rattle.world_model.specs.Words.{end_cmp, Record, event_limit}
use Rattle.console_model.specs.declared.event.ConsoleEvent.{ConsoleEvent}
use Rattle.console_model.specs.Lab.{Lab, opened}
use Rattle.console_model.specs.Steps.{next, lab_after, put_away}
use Rattle.console_model.specs.Plain.{map_after}
use Rattle.console_model.specs.Law.{CanCome, records_along, is_chance, HasNoChance, IsMap, MapIsRight, IsRight, EveryRunIsRight}
use Rattle.law_console.specs.Words.{Nothing, Stood}
use Rattle.law_console.specs.Kept.{view, IsKept, Holds}
use Rattle.law_console.proofs.Along.{first_answers}
use Rattle.law_console.proofs.Events.{event_kept}

-- *The opening*
opening : (ports : ℕ) → IsKept ports 1 0 Nothing (view (opened ports))
opening ports = record {
  requests = tt;
  answers = refl;
  answered = omega arith;
  next = omega arith;
  within = omega arith;
  has_ports = refl;
  paths = refl;
  map = λ input. ap (option_map (λ (b : Branch). b.output)) (get-empty end_cmp input) ∙ sym (get-empty end_cmp input);
  has_queue = omega arith;
  stands = refl;
  known = λ e. absurd (cc e);
  few = omega arith;
  waits = tt;
  comes = tt;
}

-- *Chances* of a run are of one of its events
either_free : (a b : Bool) → (a || b) ≡ false → (a ≡ false) × (b ≡ false)
either_free true b e = absurd (cc e)
either_free false b e = (refl, e)

any_free : (xs ys : List Record) → list_any is_chance (xs ++ ys) ≡ false → (list_any is_chance xs ≡ false) × (list_any is_chance ys ≡ false)
any_free [] ys e = (refl, e)
any_free (x ∷ xs) ys e =
    let t = either_free (is_chance x) (list_any is_chance (xs ++ ys)) e in
    let rest = any_free xs ys t.1 in
    (ap (λ (b : Bool). b || list_any is_chance xs) t.0 ∙ rest.0, rest.1)

-- *A run* keeps what is so
run_kept : (ports : ℕ) → ports ≤ 8 → (events : List ConsoleEvent) (lab : Lab) (most : ℕ) → All CanCome events → most + length events ≤ event_limit → HasNoChance lab events → Holds ports most (view lab)
    → Holds ports (most + length events) (view (lab_after lab events))
run_kept ports few [] lab most can low free h = subst (λ (n : ℕ). Holds ports n (view lab)) (omega arith) h
run_kept ports few (event ∷ events) lab most can low free h =
    let t = any_free (next lab event).notes.records (records_along (next lab event) events) free in
    let now : Holds ports (most + 1) (view (next lab event)) =
    event_kept ports most few (omega (arith, low)) (put_away lab) event (All-head CanCome event events can) h t.0 in
    subst (λ (n : ℕ). Holds ports n (view (lab_after (next lab event) events))) (omega arith)
    (run_kept ports few events (next lab event) (most + 1) (All-tail CanCome event events can) (omega (arith, low)) t.1 now)

-- *And so it is right*
so_many : (ports : ℕ) (lab : Lab) (carried : ℕ) (stood : Stood) (most : ℕ) → IsKept ports most carried stood (view lab) → (carried ≡ length lab.answers) ⊎ (carried ≡ length lab.answers + 1) → MapIsRight ports lab
so_many ports lab carried stood most h (inl same) = inl (subst (λ (n : ℕ). IsMap lab.switch (map_after ports (take n lab.commands))) same h.map)
so_many ports lab carried stood most h (inr one) = inr (omega (arith, h.within, one), subst (λ (n : ℕ). IsMap lab.switch (map_after ports (take n lab.commands))) one h.map)

either_way : (carried answered : ℕ) → answered ≤ carried → carried ≤ answered + 1 → (carried ≡ answered) ⊎ (carried ≡ answered + 1)
either_way carried answered least most = grind arith

right_then : (ports most : ℕ) (lab : Lab) → Holds ports most (view lab) → IsRight ports lab
right_then ports most lab h = record {
  answers = h.kept.answers ∙ first_answers ports (length lab.answers) lab.commands;
  map = so_many ports lab h.carried h.stood most h.kept (either_way h.carried (length lab.answers) h.kept.answered h.kept.next);
}

pub every_run : EveryRunIsRight
every_run ports events run = right_then ports (1 + length events) (lab_after (opened ports) events)
    (run_kept ports run.port_range.1 events (opened ports) 1 run.can_come (omega (arith, run.few)) run.no_chance (record { carried = 0; stood = Nothing; kept = opening ports }))
