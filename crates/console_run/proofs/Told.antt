-- where no chance comes, a report has each answer once, in order

use Rattle.std.proofs.Common.{◌≡◌, ℕ, suc, ◌+◌, Bool, true, false, ◌||◌, List, [], ◌∷◌, ◌++◌, append_assoc, drop, length, length-append, Option, Some, option_map, refl, sym, ◌∙◌, ap, arith, true≢false}
use Rattle.std.specs.List.{list_any}
use Rattle.std.proofs.lemmas.List.{drop_all}
use Rattle.std.proofs.lemmas.List.Folds.{list_any-append}
use Rattle.link_model.specs.declared.record.Record.{Record}
use Rattle.link_model.specs.declared.record.Record.TheVariants.{Chance}
use Rattle.console_model.specs.declared.event.ConsoleEvent.{ConsoleEvent}
use Rattle.console_model.specs.declared.reply.Reply.{Reply}
use Rattle.console_model.specs.Lab.{Lab, opened}
use Rattle.console_model.specs.Law.{HasNoChance, is_chance, records_along}
use Rattle.console_model.specs.Steps.{lab_after, next}
use Rattle.console_run.specs.Report.{body_on, chance_line, chance_lines, event_lines, events_lines, reply_line, reply_lines, told}
use Rattle.console_run.specs.Session.{Session}
use Rattle.console_run.proofs.Growing.{HasGrown, event_grows, events_grow}

-- *No chance*, no line of one
either_none : (p q : Bool) → (p || q) ≡ false → (p ≡ false) × (q ≡ false)
either_none true q is = absurd (true≢false is)
either_none false q is = (refl, is)

no_line : (item : Record) → is_chance item ≡ false → chance_line item ≡ []
no_line (Chance mark) none = absurd (true≢false none)
no_line item none = refl

no_lines : (records : List Record) → list_any is_chance records ≡ false → chance_lines records ≡ []
no_lines [] none = refl
no_lines (item ∷ records) none =
    (let both = either_none (is_chance item) (list_any is_chance records) none in
    (λ i. no_line item both.0 i ++ no_lines records both.1 i))

-- *Answers* and others
lines_then : (xs : List Reply) (number : ℕ) (ys : List Reply) → reply_lines number (xs ++ ys) ≡ reply_lines number xs ++ reply_lines (number + length xs) ys
lines_then [] number ys = ap (λ (n : ℕ). reply_lines n ys) (let none : number ≡ number + 0 = omega arith in none)
lines_then (x ∷ xs) number ys =
    (let up : (number + 1) + length xs ≡ number + suc (length xs) = omega arith in
    ap (λ rest. reply_line number x ++ rest) (lines_then xs (number + 1) ys)
    ∙ sym (append_assoc (reply_line number x) (reply_lines (number + 1) xs) (reply_lines ((number + 1) + length xs) ys))
    ∙ ap (λ (n : ℕ). (reply_line number x ++ reply_lines (number + 1) xs) ++ reply_lines n ys) up)

drop_front : (xs ys : List Reply) → drop (length xs) (xs ++ ys) ≡ ys
drop_front [] ys = refl
drop_front (x ∷ xs) ys = drop_front xs ys

-- those of one event, and those of others
lines_of_both : (first second third : List Reply) (p : HasGrown first second) → HasGrown second third
    → reply_lines (length first + 1) (drop (length first) second) ++ reply_lines (length second + 1) (drop (length second) third) ≡ reply_lines (length first + 1) (drop (length first) third)
lines_of_both first second third p q =
    let here : drop (length first) second ≡ p.more = ap (drop (length first)) p.is ∙ drop_front first p.more in
    let there : drop (length second) third ≡ q.more = ap (drop (length second)) q.is ∙ drop_front second q.more in
    let all : drop (length first) third ≡ p.more ++ q.more =
    ap (drop (length first)) (q.is ∙ ap (λ xs. xs ++ q.more) p.is ∙ append_assoc first p.more q.more) ∙ drop_front first (p.more ++ q.more) in
    let size : length second ≡ length first + length p.more = ap length p.is ∙ length-append first p.more in
    let number : length second + 1 ≡ (length first + 1) + length p.more = omega (arith, size) in
    (λ i. reply_lines (length first + 1) (here i) ++ reply_lines (number i) (there i))
    ∙ sym (lines_then p.more (length first + 1) q.more) ∙ ap (reply_lines (length first + 1)) (sym all)

-- *Events*
lines_told : (lab : Lab) (e : ConsoleEvent) → list_any is_chance (next lab e).notes.records ≡ false
    → event_lines lab e ≡ reply_lines (length lab.answers + 1) (drop (length lab.answers) (next lab e).answers)
unfolding event_lines
lines_told lab e none = ap (λ xs. xs ++ reply_lines (length lab.answers + 1) (drop (length lab.answers) (next lab e).answers)) (no_lines (next lab e).notes.records none)

pub answers_told : (events : List ConsoleEvent) (lab : Lab) → HasNoChance lab events
    → events_lines lab events ≡ reply_lines (length lab.answers + 1) (drop (length lab.answers) (lab_after lab events).answers)
answers_told [] lab none = ap (reply_lines (length lab.answers + 1)) (sym (drop_all (length lab.answers) lab.answers (omega arith)))
answers_told (e ∷ events) lab none =
    (let after : Lab = next lab e in
    let both = either_none (list_any is_chance after.notes.records) (list_any is_chance (records_along after events))
    (sym (list_any-append is_chance after.notes.records (records_along after events)) ∙ none) in
    (λ i. lines_told lab e both.0 i ++ answers_told events after both.1 i)
    ∙ lines_of_both lab.answers after.answers (lab_after after events).answers (event_grows lab e) (events_grow events after))

-- *A session*
with_ports : (found : Option ℕ) (ports : ℕ) (events : List ConsoleEvent) → found ≡ Some ports → body_on (option_map opened found) events ≡ events_lines (opened ports) events
with_ports found ports events is = ap (λ (o : Option ℕ). body_on (option_map opened o) events) is

pub session_told : (s : Session) (ports : ℕ) → s.ports ≡ Some ports → HasNoChance (opened ports) s.events
    → (told s).body ≡ reply_lines 1 (lab_after (opened ports) s.events).answers
session_told s ports is none = with_ports s.ports ports s.events is ∙ answers_told s.events (opened ports) none
