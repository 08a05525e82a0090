-- a search by tags finds the first grant under which the controller sends a flow

use Rattle.std.proofs.Common.{◌≡◌, ◌≢◌, ℕ, zero, suc, ◌+◌, ◌<◌, ◌≤◌, ◌&&◌, nat_eq, Bool, true, false, List, [], ◌∷◌, length, map, drop, None, Some, refl, sym, ap, ◌∙◌, arith, inl, inr}
use Rattle.std.specs.Prelude.{find, slice_get, slice_index_or, slice_set, get_or}
use Rattle.std.specs.List.{remove, insert, position_or_len}
use Rattle.std.proofs.lemmas.Bool.{cases_eq, eq-eqb, ne_eqb, eqb-true, false_from_ne_true}
use Rattle.std.proofs.lemmas.List.Sums.{position_or_len_is}
use Rattle.memchr.specs.Find.{IsFirstByte, is_byte}
use Rattle.ipv4_packet.specs.declared.flow.FlowId.{FlowId}
use Rattle.ipv4_packet.specs.declared.flow.FlowId.TheVariants.{One, Two}
use Rattle.ipv4_packet.specs.Parts.{same_flow}
use Rattle.branch_desk.specs.port_model.Grants.{is_by_controller}
use Rattle.grant_table.specs.declared.held.Held.{Held}
use Rattle.grant_table.specs.Held.{shown}
use Rattle.grant_table.specs.Tags.{flow_tag, held_tag}
use Rattle.grant_table.proofs.Found.{carries}

-- *Flows that are the same have one tag*
left : (a b : Bool) → (a && b) ≡ true → a ≡ true
left true b h = refl
left false b h = h

right : (a b : Bool) → (a && b) ≡ true → b ≡ true
right true b h = h
right false b h = absurd (cc h)

pub same_tag : (f g : FlowId) → same_flow f g ≡ true → flow_tag f ≡ flow_tag g
same_tag (One tos ttl protocol source destination from to) (One tos2 ttl2 protocol2 source2 destination2 from2 to2) h =
    let tail = right (nat_eq tos tos2 && (nat_eq ttl ttl2 && nat_eq protocol protocol2)) _ h in
    let hosts = left (nat_eq source.0 source2.0 && nat_eq destination.0 destination2.0) _ tail in
    let ports = right (nat_eq source.0 source2.0 && nat_eq destination.0 destination2.0) _ tail in
    let e1 = eqb-true source.0 source2.0 (left (nat_eq source.0 source2.0) _ hosts) in
    let e2 = eqb-true destination.0 destination2.0 (right (nat_eq source.0 source2.0) _ hosts) in
    let e3 = eqb-true from from2 (left (nat_eq from from2) _ ports) in
    let e4 = eqb-true to to2 (right (nat_eq from from2) _ ports) in
    rw (e1, e2, e3, e4) refl
same_tag (Two ttl source destination) (Two ttl2 source2 destination2) h =
    let hosts = right (nat_eq ttl ttl2) _ h in
    let e1 = eqb-true source.0 source2.0 (left (nat_eq source.0 source2.0) _ hosts) in
    let e2 = eqb-true destination.0 destination2.0 (right (nat_eq source.0 source2.0) _ hosts) in
    rw (e1, e2) refl
same_tag (One tos ttl protocol source destination from to) (Two ttl2 source2 destination2) h = absurd (cc h)
same_tag (Two ttl source destination) (One tos2 ttl2 protocol2 source2 destination2 from2 to2) h = absurd (cc h)

-- a grant of another tag doesn't carry the flow
other_tag : (flow : FlowId) (h : Held) → held_tag h ≢ flow_tag flow → carries flow h ≡ false
other_tag flow h other = false_from_ne_true (carries flow h) (λ it. other (same_tag (shown h).flow flow (right (is_by_controller (shown h).state) _ it)))

-- *The first place of the tag*: no grant before it carries the flow
abbrev first_tag : FlowId → List Held → ℕ
first_tag flow hs = position_or_len (is_byte (flow_tag flow)) (map held_tag hs)

one_more : (n : ℕ) → 1 + n ≡ suc n
one_more n = omega arith

skipped : (flow : FlowId) (hs : List Held) → find (carries flow) hs ≡ find (carries flow) (drop (first_tag flow hs) hs)
skipped flow [] = refl
skipped flow (h ∷ hs) = elim (cases_eq (held_tag h) (flow_tag flow)) [
  | inl same ↦ rw (eq-eqb (held_tag h) (flow_tag flow) same) refl
  | inr other ↦
      let rest : first_tag flow (h ∷ hs) ≡ suc (first_tag flow hs) = rw (ne_eqb (held_tag h) (flow_tag flow) other) (one_more (first_tag flow hs)) in
      rw (rest, other_tag flow h other) (skipped flow hs)
]

found_place : (test : ℕ → Bool) (octets : List ℕ) (place : ℕ) → IsFirstByte test octets (Some place) → position_or_len test octets ≡ place
found_place test octets place found =
    position_or_len_is test octets place 0 (omega (arith, found.0.high))
    (λ k before. false_from_ne_true _ (found.0.before k (omega arith) before))
    (λ within. found.1)

found_nowhere : (test : ℕ → Bool) (octets : List ℕ) → IsFirstByte test octets None → position_or_len test octets ≡ length octets
found_nowhere test octets none =
    position_or_len_is test octets (length octets) 0 (omega arith)
    (λ k within. false_from_ne_true _ (none k (omega arith) within))
    (λ past. absurd (omega arith))

length_tags : (hs : List Held) → length (map held_tag hs) ≡ length hs
length_tags [] = refl
length_tags (h ∷ hs) = ap suc (length_tags hs)

drop_all : (hs : List Held) (n : ℕ) → length hs ≤ n → drop n hs ≡ []
drop_all [] zero past = refl
drop_all [] (suc n) past = refl
drop_all (h ∷ hs) zero past = absurd (omega arith)
drop_all (h ∷ hs) (suc n) past = drop_all hs n (omega arith)

pub drop_tags : (hs : List Held) (n : ℕ) → drop n (map held_tag hs) ≡ map held_tag (drop n hs)
drop_tags hs zero = refl
drop_tags [] (suc n) = refl
drop_tags (h ∷ hs) (suc n) = drop_tags hs n

drop_drop : (hs : List Held) (i j : ℕ) → drop j (drop i hs) ≡ drop (i + j) hs
drop_drop hs zero j = let e : 0 + j ≡ j = omega arith in rw e refl
drop_drop [] (suc i) zero = let e : suc i + 0 ≡ suc i = omega arith in rw e refl
drop_drop [] (suc i) (suc j) = let e : suc i + suc j ≡ suc (i + suc j) = omega arith in rw e refl
drop_drop (h ∷ hs) (suc i) j = let e : suc i + j ≡ suc (i + j) = omega arith in rw e (drop_drop hs i j)

-- what a step of the search finds behind a place up to which no grant carries the flow
pub none_behind : (flow : FlowId) (hs : List Held) (from : ℕ) → find (carries flow) hs ≡ find (carries flow) (drop from hs)
    → IsFirstByte (is_byte (flow_tag flow)) (drop from (map held_tag hs)) None → find (carries flow) hs ≡ None
none_behind flow hs from before none =
    let it : IsFirstByte (is_byte (flow_tag flow)) (map held_tag (drop from hs)) None = rw (drop_tags hs from) at none in
    let all = found_nowhere (is_byte (flow_tag flow)) (map held_tag (drop from hs)) it ∙ length_tags (drop from hs) in
    let gone : drop (first_tag flow (drop from hs)) (drop from hs) ≡ [] = rw all (drop_all (drop from hs) (length (drop from hs)) (omega arith)) in
    before ∙ (skipped flow (drop from hs) ∙ ap (find (carries flow)) gone)

pub one_behind : (flow : FlowId) (hs : List Held) (from place : ℕ) → find (carries flow) hs ≡ find (carries flow) (drop from hs)
    → IsFirstByte (is_byte (flow_tag flow)) (drop from (map held_tag hs)) (Some place)
    → find (carries flow) hs ≡ find (carries flow) (drop (from + place) hs)
one_behind flow hs from place before found =
    let it : IsFirstByte (is_byte (flow_tag flow)) (map held_tag (drop from hs)) (Some place) = rw (drop_tags hs from) at found in
    let first : first_tag flow (drop from hs) ≡ place = found_place (is_byte (flow_tag flow)) (map held_tag (drop from hs)) place it in
    before ∙ (skipped flow (drop from hs) ∙ (ap (λ (n : ℕ). find (carries flow) (drop n (drop from hs))) first ∙ ap (find (carries flow)) (drop_drop hs from place)))

-- a place that is found is one of the list
pub inside : (test : ℕ → Bool) (hs : List Held) (from place : ℕ) → IsFirstByte test (drop from (map held_tag hs)) (Some place) → from + place < length hs
inside test hs zero place found = omega (arith, found.0.high, length_tags hs)
inside test [] (suc from) place found = absurd (omega (arith, found.0.high))
inside test (h ∷ hs) (suc from) place found = let rest = inside test hs from place found in omega (arith, rest)

-- the grant there carries the flow, or the search goes on behind it
pub here : (flow : FlowId) (hs : List Held) (place : ℕ) (d : Held) → place < length hs → carries flow (slice_index_or hs place d) ≡ true
    → find (carries flow) (drop place hs) ≡ Some (slice_index_or hs place d)
here flow [] place d within on = absurd (omega arith)
here flow (x ∷ xs) zero d within on = rw on refl
here flow (x ∷ xs) (suc place) d within on = here flow xs place d (omega arith) on

pub behind : (flow : FlowId) (hs : List Held) (place : ℕ) (d : Held) → place < length hs → carries flow (slice_index_or hs place d) ≡ false
    → find (carries flow) (drop place hs) ≡ find (carries flow) (drop (suc place) hs)
behind flow [] place d within off = absurd (omega arith)
behind flow (x ∷ xs) zero d within off = rw off refl
behind flow (x ∷ xs) (suc place) d within off = behind flow xs place d (omega arith) off

-- *Tags of a list that is changed*
pub tags_removed : (hs : List Held) (i : ℕ) → map held_tag (remove hs i) ≡ remove (map held_tag hs) i
tags_removed [] zero = refl
tags_removed [] (suc i) = refl
tags_removed (h ∷ hs) zero = refl
tags_removed (h ∷ hs) (suc i) = ap (λ (t : List ℕ). held_tag h ∷ t) (tags_removed hs i)

pub tags_inserted : (hs : List Held) (i : ℕ) (h : Held) → map held_tag (insert hs i h) ≡ insert (map held_tag hs) i (held_tag h)
tags_inserted hs zero h = refl
tags_inserted [] (suc i) h = refl
tags_inserted (g ∷ hs) (suc i) h = ap (λ (t : List ℕ). held_tag g ∷ t) (tags_inserted hs i h)

pub tags_kept : (hs : List Held) (i : ℕ) (h y : Held) → i < length hs → h ≡ get_or hs i h → held_tag y ≡ held_tag h
    → map held_tag (slice_set hs i y) ≡ map held_tag hs
tags_kept [] i h y inside read same = absurd (omega arith)
tags_kept (x ∷ hs) zero h y inside read same = let e : h ≡ x = read in ap (λ (n : ℕ). n ∷ map held_tag hs) (same ∙ ap held_tag e)
tags_kept (x ∷ hs) (suc i) h y inside read same = ap (λ (t : List ℕ). held_tag x ∷ t) (tags_kept hs i h y (omega arith) read same)

-- what is taken out of a place is what is seen there
pub got : (hs : List Held) (i : ℕ) (r : Held) → i < length hs → r ≡ get_or hs i r → slice_get (map shown hs) i ≡ Some (shown r)
got [] i r inside is = absurd (omega arith)
got (x ∷ xs) zero r inside is = let e : r ≡ x = is in ap (λ (h : Held). Some (shown h)) (sym e)
got (x ∷ xs) (suc i) r inside is = got xs i r (omega arith) is
