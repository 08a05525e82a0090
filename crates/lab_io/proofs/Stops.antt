-- what is put one after the other, also where it stopped

use Rattle.std.proofs.Common.{◌≡◌, ℕ, List, [], ◌∷◌, ◌++◌, append_assoc, take, Option, None, Some, refl, sym, ◌∙◌, ap, subst}
use Rattle.std.specs.Prelude.{Result, Ok, Err}
use Rattle.std.specs.Result.{IsErrAnd}
use Rattle.std.specs.Io.KnownBytes.{Appends}
use Rattle.lab_io.specs.Report.{IsPut, IsStuck, Writer}
use Rattle.lab_io.specs.declared.stop.Stop.{Stop}
use Rattle.lab_io.specs.declared.stop.Stop.TheVariants.{Failed, OutOfMemory}
use Rattle.lab_io.specs.Puts.{HasFrontPut, Puts, StaysWithin, StopsIn}

append_nil : (xs : List ℕ) → xs ++ [] ≡ xs
append_nil [] = refl
append_nil (x ∷ xs) = ap (λ ys. x ∷ ys) (append_nil xs)

appends_none : (w : Option (List ℕ)) → Appends w w []
appends_none None = tt
appends_none (Some xs) = sym (append_nil xs)

appends_then : (a b c : Option (List ℕ)) (xs ys : List ℕ) → Appends a b xs → Appends b c ys → Appends a c (xs ++ ys)
appends_then None b c xs ys p q = tt
appends_then (Some a) None c xs ys p q = absurd p
appends_then (Some a) (Some b) None xs ys p q = absurd q
appends_then (Some a) (Some b) (Some c) xs ys p q = q ∙ ap (λ zs. zs ++ ys) p ∙ append_assoc a xs ys

pub nothing_put : (w : Writer) (s : Option (List ℕ)) → IsPut w w s s []
nothing_put w s = record { written = []; appended = appends_none s; all = sym (append_nil w.held) }

pub put_then : (a b c : Writer) (x y z : Option (List ℕ)) (one other : List ℕ) → IsPut a b x y one → IsPut b c y z other → IsPut a c x z (one ++ other)
put_then a b c x y z one other p q = record {
  written = p.written ++ q.written;
  appended = appends_then x y z p.written q.written p.appended q.appended;
  all = append_assoc p.written q.written c.held ∙ ap (λ xs. p.written ++ xs) q.all ∙ sym (append_assoc p.written b.held other) ∙ ap (λ xs. xs ++ other) p.all ∙ append_assoc a.held one other;
}

stuck_then : (a b c : Writer) (x y z : Option (List ℕ)) (one other : List ℕ) → IsPut a b x y one → IsStuck b c y z other → IsStuck a c x z (one ++ other)
stuck_then a b c x y z one other p q = record {
  written = p.written ++ q.written;
  count = q.count;
  rest = q.rest;
  within = q.within;
  appended = subst (Appends x z) (sym (append_assoc p.written q.written (take q.count c.held))) (appends_then x y z p.written (q.written ++ take q.count c.held) p.appended q.appended);
  all = ap (λ xs. xs ++ q.rest) (append_assoc p.written q.written c.held) ∙ append_assoc p.written (q.written ++ c.held) q.rest ∙ ap (λ xs. p.written ++ xs) q.all
      ∙ sym (append_assoc p.written b.held other) ∙ ap (λ xs. xs ++ other) p.all ∙ append_assoc a.held one other;
}

front_then : (a b c : Writer) (x y z : Option (List ℕ)) (one other : List ℕ) → IsPut a b x y one → HasFrontPut b c y z other → HasFrontPut a c x z (one ++ other)
front_then a b c x y z one other p q = record {
  front = one ++ q.front;
  rest = q.rest;
  all = append_assoc one q.front q.rest ∙ ap (λ xs. one ++ xs) q.all;
  put = put_then a b c x y z one q.front p q.put;
}

-- more was to come
stuck_before : (a b : Writer) (x y : Option (List ℕ)) (octets others : List ℕ) → IsStuck a b x y octets → IsStuck a b x y (octets ++ others)
stuck_before a b x y octets others s = record {
  written = s.written;
  count = s.count;
  rest = s.rest ++ others;
  within = s.within;
  appended = s.appended;
  all = sym (append_assoc (s.written ++ b.held) s.rest others) ∙ ap (λ xs. xs ++ others) s.all ∙ append_assoc a.held octets others;
}

front_before : (a b : Writer) (x y : Option (List ℕ)) (octets others : List ℕ) → HasFrontPut a b x y octets → HasFrontPut a b x y (octets ++ others)
front_before a b x y octets others h = record {
  front = h.front;
  rest = h.rest ++ others;
  all = sym (append_assoc h.front h.rest others) ∙ ap (λ xs. xs ++ others) h.all;
  put = h.put;
}

pub stops_before : (stop : Stop) (a b : Writer) (x y : Option (List ℕ)) (octets others : List ℕ) → StopsIn stop a b x y octets → StopsIn stop a b x y (octets ++ others)
stops_before Failed a b x y octets others s = stuck_before a b x y octets others s
stops_before (OutOfMemory error) a b x y octets others h = front_before a b x y octets others h

-- none of it was put
pub none_of : (w : Writer) (s : Option (List ℕ)) (octets : List ℕ) → HasFrontPut w w s s octets
none_of w s octets = record { front = []; rest = octets; all = refl; put = nothing_put w s }

-- *An early end* behind some octets that were put, and before some that were not
pub stops_by : (stop : Stop) (a b c : Writer) (x y z : Option (List ℕ)) (one octets others : List ℕ) → IsPut a b x y one → StopsIn stop b c y z octets
    → StopsIn stop a c x z (one ++ (octets ++ others))
stops_by Failed a b c x y z one octets others p s = stuck_then a b c x y z one (octets ++ others) p (stuck_before b c y z octets others s)
stops_by (OutOfMemory error) a b c x y z one octets others p h = front_then a b c x y z one (octets ++ others) p (front_before b c y z octets others h)

pub stops_at : {B : Type 0} (r : Result B Stop) (stop : Stop) (a b c : Writer) (x y z : Option (List ℕ)) (one octets others : List ℕ) → IsErrAnd r (λ s. s ≡ stop) → IsPut a b x y one
    → StopsIn stop b c y z octets → Puts r a c x z (one ++ (octets ++ others))
stops_at (Ok v) stop a b c x y z one octets others is p h = absurd is
stops_at (Err s) stop a b c x y z one octets others is p h =
    subst (λ (t : Stop). StopsIn t a c x z (one ++ (octets ++ others))) (sym is) (stops_by stop a b c x y z one octets others p h)

-- *One behind the other*, where only the latter can end early
pub stops_then : (stop : Stop) (a b c : Writer) (x y z : Option (List ℕ)) (one other : List ℕ) → IsPut a b x y one → StopsIn stop b c y z other → StopsIn stop a c x z (one ++ other)
stops_then Failed a b c x y z one other p s = stuck_then a b c x y z one other p s
stops_then (OutOfMemory error) a b c x y z one other p h = front_then a b c x y z one other p h

pub puts_then : {B : Type 0} (r : Result B Stop) (a b c : Writer) (x y z : Option (List ℕ)) (one other : List ℕ) → IsPut a b x y one → Puts r b c y z other → Puts r a c x z (one ++ other)
puts_then (Ok v) a b c x y z one other p q = put_then a b c x y z one other p q
puts_then (Err stop) a b c x y z one other p q = stops_then stop a b c x y z one other p q

-- alone
pub passes_on : {B : Type 0} (r : Result B Stop) (stop : Stop) (a b : Writer) (x y : Option (List ℕ)) (octets : List ℕ) → IsErrAnd r (λ s. s ≡ stop) → StopsIn stop a b x y octets
    → Puts r a b x y octets
passes_on r stop a b x y octets is h =
    subst (Puts r a b x y) (append_nil octets) (stops_at r stop a a b x x y [] octets [] is (nothing_put a x) h)

-- *What a writer holds*
pub stays : (a : Writer) → StaysWithin a a
stays a = record { room = refl; bound = λ h. h }

pub stays_then : (a b c : Writer) → StaysWithin a b → StaysWithin b c → StaysWithin a c
stays_then a b c p q = record { room = q.room ∙ p.room; bound = λ h. q.bound (p.bound h) }
