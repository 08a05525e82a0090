-- events behind events, and rounds

use Rattle.std.proofs.Common.{◌≡◌, ℕ, suc, ◌+◌, ◌-◌, ◌<◌, List, [], ◌∷◌, ◌++◌, append_assoc, append-nil, length, Option, Result, refl, sym, ◌∙◌, ap, subst, arith}
use Rattle.std.specs.List.{repeat}
use Rattle.std.specs.Result.{IsErrAnd}
use Rattle.lab_io.specs.Report.{IsPut, Writer}
use Rattle.lab_io.specs.declared.stop.Stop.{Stop}
use Rattle.lab_io.specs.Puts.{StopsIn}
use Rattle.lab_io.proofs.Stops.{nothing_put, put_then}
use Rattle.console_model.specs.declared.event.Side.TheVariants.{Console, Switch}
use Rattle.console_model.specs.declared.event.ConsoleEvent.{ConsoleEvent}
use Rattle.console_model.specs.declared.event.ConsoleEvent.TheVariants.{Carry}
use Rattle.console_model.specs.Lab.{Lab}
use Rattle.console_model.specs.Steps.{lab_after, next}
use Rattle.console_run.specs.Session.{round}
use Rattle.console_run.specs.Report.{event_lines, events_lines}
use Rattle.console_run.specs.Task.{Puts, after_event, after_round, round_lines}
use Rattle.console_run.proofs.Putting.{stops_at}

-- *Events behind events*
pub lines_append : (xs : List ConsoleEvent) (lab : Lab) (ys : List ConsoleEvent) → events_lines lab (xs ++ ys) ≡ events_lines lab xs ++ events_lines (lab_after lab xs) ys
lines_append [] lab ys = refl
lines_append (x ∷ xs) lab ys =
    ap (λ zs. event_lines lab x ++ zs) (lines_append xs (next lab x) ys)
    ∙ sym (append_assoc (event_lines lab x) (events_lines (next lab x) xs) (events_lines (lab_after (next lab x) xs) ys))

pub after_append : (xs : List ConsoleEvent) (lab : Lab) (ys : List ConsoleEvent) → lab_after lab (xs ++ ys) ≡ lab_after (lab_after lab xs) ys
after_append [] lab ys = refl
after_append (x ∷ xs) lab ys = after_append xs (next lab x) ys

-- they are counted
pub events_after : (xs : List ConsoleEvent) (lab : Lab) → (lab_after lab xs).events ≡ lab.events + length xs
events_after [] lab = omega arith
events_after (x ∷ xs) lab = (let later : (lab_after (next lab x) xs).events ≡ (lab.events + 1) + length xs = events_after xs (next lab x) in omega (arith, later))

-- *A round*
pub round_lines_are : (lab : Lab) → event_lines lab (Carry Console) ++ event_lines (after_event lab (Carry Console)) (Carry Switch) ≡ round_lines lab
unfolding round_lines after_event
round_lines_are lab = ap (λ xs. event_lines lab (Carry Console) ++ xs) (sym (append-nil (event_lines (next lab (Carry Console)) (Carry Switch))))

pub after_round_is : (lab : Lab) → after_event (after_event lab (Carry Console)) (Carry Switch) ≡ after_round lab
unfolding after_round after_event
after_round_is lab = refl

-- *Rounds*: one, and the others
lines_more : (lab : Lab) (k : ℕ) → events_lines lab (repeat (suc k) round) ≡ round_lines lab ++ events_lines (after_round lab) (repeat k round)
unfolding round_lines after_round
lines_more lab k = lines_append round lab (repeat k round)

after_more : (lab : Lab) (k : ℕ) → lab_after lab (repeat (suc k) round) ≡ lab_after (after_round lab) (repeat k round)
unfolding after_round
after_more lab k = after_append round lab (repeat k round)

one_less : (k n : ℕ) → k < n → n - k ≡ suc (n - (k + 1))
one_less k n low = omega (arith, low)

-- so many of them came: their lines were put, and the others are those from here on
pub record IsAmid (first now : Lab) (k n : ℕ) (old new : Writer) (written_old written_new : Option (List ℕ)) : Type 0 where
  pub octets : List ℕ
  pub lines : events_lines first (repeat n round) ≡ octets ++ events_lines now (repeat (n - k) round)
  pub after : lab_after first (repeat n round) ≡ lab_after now (repeat (n - k) round)
  pub put : IsPut old new written_old written_new octets

module _ (first now : Lab) (k n : ℕ) (low : k < n) (a b c : Writer) (x y z : Option (List ℕ)) (amid : IsAmid first now k n a b x y) where
  lines_here : events_lines first (repeat n round) ≡ amid.octets ++ (round_lines now ++ events_lines (after_round now) (repeat (n - (k + 1)) round))
  lines_here =
      amid.lines ∙ ap (λ (m : ℕ). amid.octets ++ events_lines now (repeat m round)) (one_less k n low)
      ∙ ap (λ xs. amid.octets ++ xs) (lines_more now (n - (k + 1)))

  after_here : lab_after first (repeat n round) ≡ lab_after (after_round now) (repeat (n - (k + 1)) round)
  after_here = amid.after ∙ ap (λ (m : ℕ). lab_after now (repeat m round)) (one_less k n low) ∙ after_more now (n - (k + 1))

  -- one more
  pub amid_more : (then : Lab) → then ≡ after_round now → IsPut b c y z (round_lines now) → IsAmid first then (k + 1) n a c x z
  amid_more then is put = record {
    octets = amid.octets ++ round_lines now;
    lines = lines_here ∙ sym (append_assoc amid.octets (round_lines now) (events_lines (after_round now) (repeat (n - (k + 1)) round)))
        ∙ ap (λ (l : Lab). (amid.octets ++ round_lines now) ++ events_lines l (repeat (n - (k + 1)) round)) (sym is);
    after = after_here ∙ ap (λ (l : Lab). lab_after l (repeat (n - (k + 1)) round)) (sym is);
    put = put_then a b c x y z amid.octets (round_lines now) amid.put put;
  }

  -- an early end in it
  pub amid_stops : {B : Type 0} (r : Result B Stop) (stop : Stop) → IsErrAnd r (λ s. s ≡ stop) → StopsIn stop b c y z (round_lines now) → Puts r a c x z (events_lines first (repeat n round))
  amid_stops r stop is h =
      subst (Puts r a c x z) (sym lines_here)
      (stops_at r stop a b c x y z amid.octets (round_lines now) (events_lines (after_round now) (repeat (n - (k + 1)) round)) is amid.put h)

-- at the end
none_left : (n : ℕ) → n - n ≡ 0
none_left n = omega arith

pub all_lines : (first now : Lab) (n : ℕ) (a b : Writer) (x y : Option (List ℕ)) → IsAmid first now n n a b x y → IsPut a b x y (events_lines first (repeat n round))
all_lines first now n a b x y amid =
    subst (IsPut a b x y)
    (sym (amid.lines ∙ ap (λ (m : ℕ). amid.octets ++ events_lines now (repeat m round)) (none_left n) ∙ append-nil amid.octets)) amid.put

pub all_after : (first now : Lab) (n : ℕ) (a b : Writer) (x y : Option (List ℕ)) → IsAmid first now n n a b x y → now ≡ lab_after first (repeat n round)
all_after first now n a b x y amid = sym (amid.after ∙ ap (λ (m : ℕ). lab_after now (repeat m round)) (none_left n))

-- at the beginning
pub amid_none : (first : Lab) (n : ℕ) (a : Writer) (x : Option (List ℕ)) → IsAmid first first 0 n a a x x
amid_none first n a x =
    let whole : n ≡ n - 0 = omega arith in
    record {
      octets = [];
      lines = ap (λ (m : ℕ). events_lines first (repeat m round)) whole;
      after = ap (λ (m : ℕ). lab_after first (repeat m round)) whole;
      put = nothing_put a x;
    }
