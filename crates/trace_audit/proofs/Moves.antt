-- what a trace tells behind one more good line is what is known behind it

use Rattle.std.proofs.Common.{◌≡◌, ◌≤◌, ◌<◌, ◌∙◌, ℕ, ◌+◌, Bool, true, false, cond, List, [], ◌∷◌, ◌++◌, length, filter, drop, Option, None, Some, Ok, refl, ap, subst, zero, suc, arith}
use Rattle.std.proofs.lemmas.List.{drop-append-le, length-append}
use Rattle.std.specs.Option.{option_or}
use Rattle.link_model.specs.Ledger.{same_mark}
use Rattle.trace_model.specs.declared.cell.TraceCell.{TraceCell}
use Rattle.trace_model.specs.declared.end.TraceEnd.{TraceEnd}
use Rattle.trace_model.specs.declared.line.TraceLine.{TraceLine}
use Rattle.trace_model.specs.declared.line.TraceLine.TheVariants.{Link, Take, Lost, Frame, Put, Bind, End}
use Rattle.trace_model.specs.declared.refusal.TraceRefusal.{TraceRefusal}
use Rattle.trace_model.specs.declared.verdict.Breach.{Breach}
use Rattle.trace_model.specs.declared.verdict.Step.TheVariants.{Good}
use Rattle.trace_model.specs.Ends.{same_end, same_label}
use Rattle.trace_model.specs.Trace.{Trace, peer_of, queue_of, puts_at, put_at, gone_from, leaves, flow_at, payload_at, first_put, taken_last, has_begun, has_ended}
use Rattle.trace_model.specs.Known.{known}
use Rattle.trace_model.specs.Judgement.{judged, judged_by, served_breach}
use Rattle.trace_model.proofs.Same.{is_end}
use Rattle.trace_audit.specs.After.{after_said}

-- a good line has no breach
no_breach : (refusal : Option TraceRefusal) (found : Option Breach) → judged_by refusal found ≡ Ok Good → found ≡ None
no_breach None None e = refl
no_breach None (Some found) e = absurd (cc e)
no_breach (Some refusal) found e = absurd (cc e)

or_none : {A : Type 0} (x : Option A) → option_or x None ≡ x
or_none None = refl
or_none (Some x) = refl

or_cond : {A : Type 0} (b : Bool) (v : A) (rest : Option A) → option_or (cond b (Some v) None) rest ≡ cond b (Some v) rest
or_cond true v rest = refl
or_cond false v rest = refl

or_conds : {A : Type 0} (b c : Bool) (v w : A) (rest : Option A) → option_or (cond b (Some v) (cond c (Some w) None)) rest ≡ cond b (Some v) (cond c (Some w) rest)
or_conds true c v w rest = refl
or_conds false true v w rest = refl
or_conds false false v w rest = refl

one_more : (n : ℕ) → suc n ≡ n + 1
one_more n = omega arith

append_none : {A : Type 0} (xs : List A) → xs ++ [] ≡ xs
append_none [] = refl
append_none (x ∷ xs) = ap (λ ys. x ∷ ys) (append_none xs)

drop_one : {A : Type 0} (n : ℕ) (xs : List A) → drop (suc n) xs ≡ drop 1 (drop n xs)
drop_one zero xs = refl
drop_one (suc n) [] = refl
drop_one (suc n) (x ∷ xs) = drop_one n xs

-- *The queues*
kept : (trace : Trace) (at : TraceEnd) → drop (gone_from trace at) (puts_at trace at ++ []) ≡ queue_of trace at
kept trace at = ap (drop (gone_from trace at)) (append_none (puts_at trace at))

less : (b : Bool) (line : TraceLine) (gone : Trace) (xs : List TraceCell) → drop (length (cond b (line ∷ gone) gone)) (xs ++ []) ≡ cond b (drop 1 (drop (length gone) xs)) (drop (length gone) xs)
less true line gone xs = ap (drop (suc (length gone))) (append_none xs) ∙ drop_one (length gone) xs
less false line gone xs = ap (drop (length gone)) (append_none xs)

more : (b : Bool) (n : ℕ) (xs : List TraceCell) (cell : TraceCell) → n ≤ length xs → drop n (xs ++ cond b (cell ∷ []) []) ≡ cond b (drop n xs ++ cell ∷ []) (drop n xs)
more true n xs cell within = drop-append-le n xs (cell ∷ []) within
more false n xs cell within = ap (drop n) (append_none xs)

abbrev pub IsServed : Trace → Type 0
IsServed trace = (at : TraceEnd) → gone_from trace at ≤ length (puts_at trace at)

-- *What is known*
pub moved : (trace : Trace) (line : TraceLine) → IsServed trace → known (line ∷ trace) ≡ after_said (known trace) line
moved trace (Link first second) within = λ i. record {
  peer = λ at. or_conds (same_end second at) (same_end first at) first second (peer_of trace at) i;
  queue = λ at. kept trace at i;
  flow = flow_at trace;
  payload = payload_at trace;
  first = λ mark. or_none (first_put trace mark) i;
  taken = None;
  begun = has_begun trace;
  ended = has_ended trace;
  links = one_more (known trace).links i;
  puts = (known trace).puts;
  binds = (known trace).binds;
}
moved trace (Take end) within = λ i. record {
  peer = peer_of trace;
  queue = λ at. less (same_end end at) (Take end) (filter (leaves at) trace) (puts_at trace at) i;
  flow = flow_at trace;
  payload = payload_at trace;
  first = λ mark. or_none (first_put trace mark) i;
  taken = taken_last (Take end ∷ trace);
  begun = true;
  ended = has_ended trace;
  links = (known trace).links;
  puts = (known trace).puts;
  binds = (known trace).binds;
}
moved trace (Lost end) within = λ i. record {
  peer = peer_of trace;
  queue = λ at. less (same_end end at) (Lost end) (filter (leaves at) trace) (puts_at trace at) i;
  flow = flow_at trace;
  payload = payload_at trace;
  first = λ mark. or_none (first_put trace mark) i;
  taken = None;
  begun = true;
  ended = has_ended trace;
  links = (known trace).links;
  puts = (known trace).puts;
  binds = (known trace).binds;
}
moved trace (Frame mark payload) within = λ i. record {
  peer = peer_of trace;
  queue = λ at. kept trace at i;
  flow = flow_at trace;
  payload = λ of. or_cond (same_mark mark of) payload (payload_at trace of) i;
  first = λ of. or_none (first_put trace of) i;
  taken = None;
  begun = true;
  ended = has_ended trace;
  links = (known trace).links;
  puts = (known trace).puts;
  binds = (known trace).binds;
}
moved trace (Put place mark) within = λ i. record {
  peer = peer_of trace;
  queue = λ at. more (same_end place.end at) (gone_from trace at) (puts_at trace at) (record { channel = place.channel; mark = mark }) (within at) i;
  flow = flow_at trace;
  payload = payload_at trace;
  first = first_put (Put place mark ∷ trace);
  taken = None;
  begun = true;
  ended = has_ended trace;
  links = (known trace).links;
  puts = one_more (known trace).puts i;
  binds = (known trace).binds;
}
moved trace (Bind label flow) within = λ i. record {
  peer = peer_of trace;
  queue = λ at. kept trace at i;
  flow = λ at. or_cond (same_label label at) flow (flow_at trace at) i;
  payload = payload_at trace;
  first = λ of. or_none (first_put trace of) i;
  taken = None;
  begun = true;
  ended = has_ended trace;
  links = (known trace).links;
  puts = (known trace).puts;
  binds = one_more (known trace).binds i;
}
moved trace End within = λ i. record {
  peer = peer_of trace;
  queue = λ at. kept trace at i;
  flow = flow_at trace;
  payload = payload_at trace;
  first = λ of. or_none (first_put trace of) i;
  taken = None;
  begun = true;
  ended = true;
  links = (known trace).links;
  puts = (known trace).puts;
  binds = (known trace).binds;
}

-- *No queue loses more than was put to it*
stays : (trace : Trace) (at : TraceEnd) (xs : List TraceCell) → gone_from trace at ≤ length (puts_at trace at) → gone_from trace at ≤ length (puts_at trace at ++ xs)
stays trace at xs within = omega (arith, length-append (puts_at trace at) xs)

some_left : (n : ℕ) (xs : List TraceCell) → served_breach (drop n xs) ≡ None → n < length xs
some_left n [] e = absurd (by n e) where
  by : (k : ℕ) → served_breach (drop k []) ≡ None → ⊥
  by zero h = cc h
  by (suc k) h = cc h
some_left zero (x ∷ xs) e = omega arith
some_left (suc n) (x ∷ xs) e = let rest = some_left n xs e in omega arith

lost : (trace : Trace) (line : TraceLine) (end at : TraceEnd) → IsServed trace → served_breach (queue_of trace end) ≡ None
    → length (cond (same_end end at) (line ∷ filter (leaves at) trace) (filter (leaves at) trace)) ≤ length (puts_at trace at ++ [])
lost trace line end at within e = by (same_end end at) refl where
  by : (b : Bool) → same_end end at ≡ b → length (cond b (line ∷ filter (leaves at) trace) (filter (leaves at) trace)) ≤ length (puts_at trace at ++ [])
  by true s =
      let here = is_end end at s in
      let left = some_left (gone_from trace at) (puts_at trace at) (subst (λ (x : TraceEnd). served_breach (queue_of trace x) ≡ None) here e) in
      omega (arith, length-append (puts_at trace at) [])
  by false s = stays trace at [] (within at)

pub still_served : (trace : Trace) (line : TraceLine) → IsServed trace → judged (known trace) line ≡ Ok Good → IsServed (line ∷ trace)
still_served trace (Link first second) within e at = stays trace at [] (within at)
still_served trace (Take end) within e at = lost trace (Take end) end at within (no_breach _ _ e)
still_served trace (Lost end) within e at = lost trace (Lost end) end at within (no_breach _ _ e)
still_served trace (Frame mark payload) within e at = stays trace at [] (within at)
still_served trace (Put place mark) within e at = stays trace at (put_at at (Put place mark)) (within at)
still_served trace (Bind label flow) within e at = stays trace at [] (within at)
still_served trace End within e at = stays trace at [] (within at)
