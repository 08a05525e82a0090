-- the controller takes an answer: the request stands no more, in its desk and in the line of each input

use Rattle.std.proofs.Common.{◌≡◌, ℕ, ◌<◌, Bool, true, false, not, List, [], ◌∷◌, ◌++◌, Some, None, refl, sym, ◌∙◌, ap, subst, filter, map, find, arith, if◌then◌else◌}
use Rattle.std.specs.List.{list_any}
use Rattle.std.specs.Prelude.{◌&&◌, ◌==◌}
use Rattle.std.proofs.lemmas.Bool.Decides.{nat_tests}
use Rattle.law_input_views.specs.world_model.Words.{End, NodeId, is_estab, Request, AddBranch, MoveBranch, DeleteTree, VerifyTree, PortManagement, same_end, Desk, Standing, is_of_type, without_request}
use Rattle.law_input_views.specs.world_model.gsmp_wire.declared.message.BranchKind.TheVariants as kinds
use Rattle.law_input_views.specs.world_model.gsmp_wire.declared.message.Message.{Message}
use Rattle.law_input_views.specs.world_model.gsmp_wire.declared.message.Message.TheVariants as messages
use Rattle.law_input_views.specs.world_model.gsmp_wire.declared.request.Request.TheVariants.{DeleteAll, AllPorts}
use Rattle.law_input_views.specs.ordered_lists.Ordered.{Every, InOrder}
use Rattle.law_input_views.proofs.ordered_lists.Every.{every_map, every_left, every_right, every_join, every_mapped}
use Rattle.law_input_views.proofs.ordered_lists.InOrder.{order_right, order_across}
use Rattle.law_input_views.specs.law_branch_line.Words as lines
use Rattle.law_input_views.specs.law_branch_line.Words.{Request as LineRequest, OnInput, Elsewhere, message_type, Success, ToController, Answer}
use Rattle.law_input_views.specs.law_branch_line.Line.{Asked, Apart, Unasked, Stands as Standing_at, Answered, Other, Meeting, Listing, Emptying, Met, MetAndAsked, Line, Controller}
use Rattle.law_input_views.specs.law_branch_line.Asking.{has_met}
use Rattle.law_input_views.specs.law_branch_line.Controller.{meeting_after, answers_asked, answers_other, answered as asked_answered, input_answered, other_answered, hear_answer}
use Rattle.law_input_views.specs.law_branch_line.Moves.{ControllerTakes}
use Rattle.law_input_views.specs.Words.{own_request, type_of, word_by, word_of, is_own, own_of, other_of, others_of}
use Rattle.law_input_views.specs.Shown.{StandsAs, AskedShows, IsAllPorts, IsDeleteAll, PhaseShows}
use Rattle.law_input_steps.specs.Part.{Part, IsEarlier, IsNumbered, OwnShows, Stands, Reaches}
pub use Rattle.law_input_steps.specs.Meeting.{is_none_left, met_after, AfterAnswer, answered_part}
use Rattle.law_input_steps.proofs.Lists.{filter_all, filter_front, filter_skips, filter_cut, every_filter, any_at, map_cut, IsAlone, one_alone, not_none}
use Rattle.law_input_steps.proofs.Ends.{concerns, on_input, own_is, is_other, own_test}
use Rattle.law_input_steps.proofs.Asks.{filtered_numbered, line_estab}

-- *Types* of messages
abbrev pub type_in : Message → ℕ
type_in (messages.Adjacency greeting) = 0
type_in (messages.Branch kinds.Add r c n s ip i op o br pr) = 16
type_in (messages.Branch kinds.Delete r c n s ip i op o br pr) = 18
type_in (messages.Branch kinds.Verify r c n s ip i op o br pr) = 19
type_in (messages.Branch kinds.DeleteAll r c n s ip i op o br pr) = 20
type_in (messages.Move r c n s ip i op o tp t br pr) = 22
type_in (messages.Port r c n p s f) = 32
type_in (messages.AllPorts r c n rows) = 66

pub type_is : (m : Message) (r : Request) → is_of_type m r ≡ (type_in m == type_of r)
type_is (messages.Adjacency greeting) (AddBranch a b) = refl
type_is (messages.Adjacency greeting) (MoveBranch a b d) = refl
type_is (messages.Adjacency greeting) (DeleteTree a) = refl
type_is (messages.Adjacency greeting) (VerifyTree a) = refl
type_is (messages.Adjacency greeting) (DeleteAll q) = refl
type_is (messages.Adjacency greeting) (PortManagement q g) = refl
type_is (messages.Adjacency greeting) AllPorts = refl
type_is (messages.Branch kinds.Add r c n s ip i op o br pr) (AddBranch a b) = refl
type_is (messages.Branch kinds.Add r c n s ip i op o br pr) (MoveBranch a b d) = refl
type_is (messages.Branch kinds.Add r c n s ip i op o br pr) (DeleteTree a) = refl
type_is (messages.Branch kinds.Add r c n s ip i op o br pr) (VerifyTree a) = refl
type_is (messages.Branch kinds.Add r c n s ip i op o br pr) (DeleteAll q) = refl
type_is (messages.Branch kinds.Add r c n s ip i op o br pr) (PortManagement q g) = refl
type_is (messages.Branch kinds.Add r c n s ip i op o br pr) AllPorts = refl
type_is (messages.Branch kinds.Delete r c n s ip i op o br pr) (AddBranch a b) = refl
type_is (messages.Branch kinds.Delete r c n s ip i op o br pr) (MoveBranch a b d) = refl
type_is (messages.Branch kinds.Delete r c n s ip i op o br pr) (DeleteTree a) = refl
type_is (messages.Branch kinds.Delete r c n s ip i op o br pr) (VerifyTree a) = refl
type_is (messages.Branch kinds.Delete r c n s ip i op o br pr) (DeleteAll q) = refl
type_is (messages.Branch kinds.Delete r c n s ip i op o br pr) (PortManagement q g) = refl
type_is (messages.Branch kinds.Delete r c n s ip i op o br pr) AllPorts = refl
type_is (messages.Branch kinds.Verify r c n s ip i op o br pr) (AddBranch a b) = refl
type_is (messages.Branch kinds.Verify r c n s ip i op o br pr) (MoveBranch a b d) = refl
type_is (messages.Branch kinds.Verify r c n s ip i op o br pr) (DeleteTree a) = refl
type_is (messages.Branch kinds.Verify r c n s ip i op o br pr) (VerifyTree a) = refl
type_is (messages.Branch kinds.Verify r c n s ip i op o br pr) (DeleteAll q) = refl
type_is (messages.Branch kinds.Verify r c n s ip i op o br pr) (PortManagement q g) = refl
type_is (messages.Branch kinds.Verify r c n s ip i op o br pr) AllPorts = refl
type_is (messages.Branch kinds.DeleteAll r c n s ip i op o br pr) (AddBranch a b) = refl
type_is (messages.Branch kinds.DeleteAll r c n s ip i op o br pr) (MoveBranch a b d) = refl
type_is (messages.Branch kinds.DeleteAll r c n s ip i op o br pr) (DeleteTree a) = refl
type_is (messages.Branch kinds.DeleteAll r c n s ip i op o br pr) (VerifyTree a) = refl
type_is (messages.Branch kinds.DeleteAll r c n s ip i op o br pr) (DeleteAll q) = refl
type_is (messages.Branch kinds.DeleteAll r c n s ip i op o br pr) (PortManagement q g) = refl
type_is (messages.Branch kinds.DeleteAll r c n s ip i op o br pr) AllPorts = refl
type_is (messages.Move r c n s ip i op o tp t br pr) (AddBranch a b) = refl
type_is (messages.Move r c n s ip i op o tp t br pr) (MoveBranch a b d) = refl
type_is (messages.Move r c n s ip i op o tp t br pr) (DeleteTree a) = refl
type_is (messages.Move r c n s ip i op o tp t br pr) (VerifyTree a) = refl
type_is (messages.Move r c n s ip i op o tp t br pr) (DeleteAll q) = refl
type_is (messages.Move r c n s ip i op o tp t br pr) (PortManagement q g) = refl
type_is (messages.Move r c n s ip i op o tp t br pr) AllPorts = refl
type_is (messages.Port r c n p s f) (AddBranch a b) = refl
type_is (messages.Port r c n p s f) (MoveBranch a b d) = refl
type_is (messages.Port r c n p s f) (DeleteTree a) = refl
type_is (messages.Port r c n p s f) (VerifyTree a) = refl
type_is (messages.Port r c n p s f) (DeleteAll q) = refl
type_is (messages.Port r c n p s f) (PortManagement q g) = refl
type_is (messages.Port r c n p s f) AllPorts = refl
type_is (messages.AllPorts r c n rows) (AddBranch a b) = refl
type_is (messages.AllPorts r c n rows) (MoveBranch a b d) = refl
type_is (messages.AllPorts r c n rows) (DeleteTree a) = refl
type_is (messages.AllPorts r c n rows) (VerifyTree a) = refl
type_is (messages.AllPorts r c n rows) (DeleteAll q) = refl
type_is (messages.AllPorts r c n rows) (PortManagement q g) = refl
type_is (messages.AllPorts r c n rows) AllPorts = refl

-- a request under this number and of this type
abbrev pub is_it : (n type : ℕ) → Standing → Bool
is_it n type s = (n == s.number) && (type == type_of s.request)

turned : (a b : ℕ) → (a == b) ≡ (b == a)
turned a b = grind (arith, nat_tests)

found_by_type : (n : ℕ) (m : Message) (xs : List Standing) → find (λ (s : Standing). s.number == n && is_of_type m s.request) xs ≡ find (is_it n (type_in m)) xs
found_by_type n m [] = refl
found_by_type n m (x ∷ xs) = λ i. if (turned x.number n i && type_is m x.request i) then Some x else found_by_type n m xs i

both_is : (n m c d : ℕ) → ((n == m) && (c == d)) ≡ true → (n ≡ m) × (c ≡ d)
both_is n m c d h = elim (n == m) as (λ t. (n == m) ≡ t → (t && (c == d)) ≡ true → (n ≡ m) × (c ≡ d)) [
  | true ↦ λ t k. (grind (arith, nat_tests), grind (arith, nat_tests))
  | false ↦ λ t k. absurd (cc k)
] refl h

pub eq_true : (n m c d : ℕ) → n ≡ m → c ≡ d → ((n == m) && (c == d)) ≡ true
eq_true n m c d p q = grind (arith, nat_tests)

-- *The one that is answered*, among those that stand
pub record Found (n type : ℕ) (standing : List Standing) (s : Standing) : Type 0 where
  pub before : List Standing
  pub after : List Standing
  pub is : standing ≡ before ++ s ∷ after
  pub number : n ≡ s.number
  pub code : type ≡ type_of s.request
  pub first : Every (λ (z : Standing). (z.number == s.number) ≡ false) before
  pub rest : Every (λ (z : Standing). (z.number == s.number) ≡ false) after

some_is : {A : Type 0} (a b : A) → Some a ≡ Some b → a ≡ b
some_is a b h = cc h

lower : (m n : ℕ) → m < n → (m == n) ≡ false
lower m n less = grind (arith, nat_tests)

higher : (m n : ℕ) → n < m → (m == n) ≡ false
higher m n less = grind (arith, nat_tests)

record At (n type : ℕ) (standing : List Standing) (s : Standing) : Type 0 where
  before : List Standing
  after : List Standing
  is : standing ≡ before ++ s ∷ after
  number : n ≡ s.number
  code : type ≡ type_of s.request

at : (n type : ℕ) (standing : List Standing) (s : Standing) → find (is_it n type) standing ≡ Some s → At n type standing s
at n type [] s h = absurd (cc h)
at n type (z ∷ zs) s h = elim (is_it n type z) as (λ t. is_it n type z ≡ t → (if t then Some z else find (is_it n type) zs) ≡ Some s → At n type (z ∷ zs) s) [
  | true ↦ λ t k.
      let is : z ≡ s = some_is z s k in
      let tests : (n ≡ z.number) × (type ≡ type_of z.request) = both_is n z.number type (type_of z.request) t in
      record { before = []; after = zs; is = ap (λ (x : Standing). x ∷ zs) is; number = tests.0 ∙ ap (λ (x : Standing). x.number) is; code = tests.1 ∙ ap (λ (x : Standing). type_of x.request) is }
  | false ↦ λ t k.
      let f : At n type zs s = at n type zs s k in
      record { before = z ∷ f.before; after = f.after; is = ap (λ (x : List Standing). z ∷ x) f.is; number = f.number; code = f.code }
] refl h

pub found_at : (n : ℕ) (m : Message) (desk : Desk) (s : Standing) → IsNumbered desk → find (λ (z : Standing). z.number == n && is_of_type m z.request) desk.standing ≡ Some s
    → Found n (type_in m) desk.standing s
found_at n m desk s numbered h =
    let f : At n (type_in m) desk.standing s = at n (type_in m) desk.standing s (sym (found_by_type n m desk.standing) ∙ h) in
    let order : InOrder IsEarlier (f.before ++ s ∷ f.after) = subst (InOrder IsEarlier) f.is numbered.earlier in
    record {
      before = f.before;
      after = f.after;
      is = f.is;
      number = f.number;
      code = f.code;
      first = every_map (λ (z : Standing). Every (IsEarlier z) (s ∷ f.after)) (λ (z : Standing). (z.number == s.number) ≡ false) f.before
          (λ z k. lower z.number s.number k.0) (order_across IsEarlier f.before (s ∷ f.after) order);
      rest = every_map (IsEarlier s) (λ (z : Standing). (z.number == s.number) ≡ false) f.after (λ z k. higher z.number s.number k) (order_right IsEarlier f.before (s ∷ f.after) order).0;
    }

-- what is left
pub left_is : (n type : ℕ) (desk : Desk) (s : Standing) (f : Found n type desk.standing s) → (without_request desk s).standing ≡ f.before ++ f.after
left_is n type desk s f =
    let test : Standing → Bool = λ z. not (z.number == s.number) in
    let kept : (zs : List Standing) → Every (λ (z : Standing). (z.number == s.number) ≡ false) zs → filter test zs ≡ zs = λ zs h.
    filter_all test zs (every_map (λ (z : Standing). (z.number == s.number) ≡ false) (λ (z : Standing). test z ≡ true) zs (λ z k. ap not k) h) in
    let own : test s ≡ false = grind (arith, nat_tests) in
    ap (filter test) f.is ∙ (filter_cut test f.before (s ∷ f.after) ∙ (λ i. kept f.before f.first i ++ (filter_skips test s f.after own ∙ kept f.after f.rest) i))

not_it : (n type : ℕ) (s z : Standing) → n ≡ s.number → (z.number == s.number) ≡ false → is_it n type z ≡ false
not_it n type s z is differ = ap (λ (b : Bool). b && (type == type_of z.request)) (ap (λ (k : ℕ). k == z.number) is ∙ (turned s.number z.number ∙ differ))

each_not : (n type : ℕ) (s : Standing) (zs : List Standing) → n ≡ s.number → Every (λ (z : Standing). (z.number == s.number) ≡ false) zs → Every (λ (z : Standing). is_it n type z ≡ false) zs
each_not n type s zs is h = every_map (λ (z : Standing). (z.number == s.number) ≡ false) (λ (z : Standing). is_it n type z ≡ false) zs (λ z k. not_it n type s z is k) h

-- the types of words
pub word_type : (e : End) (r : Request) → message_type (word_of e r) ≡ type_of r
word_type e (AddBranch i o) = elim (same_end e i) as (λ t. message_type (word_by (if t then Some (lines.AddBranch o) else None) 16) ≡ 16) [ true ↦ refl | false ↦ refl ]
word_type e (MoveBranch i f o) = elim (same_end e i) as (λ t. message_type (word_by (if t then Some (lines.MoveBranch f o) else None) 22) ≡ 22) [ true ↦ refl | false ↦ refl ]
word_type e (DeleteTree i) = elim (same_end e i) as (λ t. message_type (word_by (if t then Some lines.DeleteTree else None) 18) ≡ 18) [ true ↦ refl | false ↦ refl ]
word_type e (VerifyTree i) = refl
word_type e (DeleteAll p) = elim (p.0 == e.port.0) as (λ t. message_type (word_by (if t then Some lines.DeleteAll else None) 20) ≡ 20) [ true ↦ refl | false ↦ refl ]
word_type e (PortManagement p function) = refl
word_type e AllPorts = refl

input_type : (e : End) (r : Request) → concerns e r ≡ true → message_type (OnInput (on_input r)) ≡ type_of r
input_type e (AddBranch i o) h = refl
input_type e (MoveBranch i f o) h = refl
input_type e (DeleteTree i) h = refl
input_type e (VerifyTree i) h = absurd (cc h)
input_type e (DeleteAll p) h = refl
input_type e (PortManagement p function) h = absurd (cc h)
input_type e AllPorts h = absurd (cc h)

-- *Phases of meeting*
abbrev PhaseAllows : Meeting → Request → Type 0
PhaseAllows Listing r = IsAllPorts r
PhaseAllows Emptying r = IsDeleteAll r
PhaseAllows Met r = Unit {0}
PhaseAllows MetAndAsked r = Unit {0}

phase_at : (meeting : Meeting) (xs : List Standing) (s : Standing) (ys : List Standing) → PhaseShows meeting (xs ++ s ∷ ys) → PhaseAllows meeting s.request
phase_at Listing xs s ys h = (every_right (λ (z : Standing). IsAllPorts z.request) xs (s ∷ ys) h).0
phase_at Emptying xs s ys h = (every_right (λ (z : Standing). IsDeleteAll z.request) xs (s ∷ ys) h).0
phase_at Met xs s ys h = tt
phase_at MetAndAsked xs s ys h = tt

without_one : (P : Standing → Type 0) (xs : List Standing) (s : Standing) (ys : List Standing) → Every P (xs ++ s ∷ ys) → Every P (xs ++ ys)
without_one P xs s ys h = every_join P xs ys (every_left P xs (s ∷ ys) h) ((every_right P xs (s ∷ ys) h).1)

phase_left : (meeting : Meeting) (xs : List Standing) (s : Standing) (ys : List Standing) → PhaseShows meeting (xs ++ s ∷ ys) → PhaseShows meeting (xs ++ ys)
phase_left Listing xs s ys h = without_one (λ (z : Standing). IsAllPorts z.request) xs s ys h
phase_left Emptying xs s ys h = without_one (λ (z : Standing). IsDeleteAll z.request) xs s ys h
phase_left Met xs s ys h = tt
phase_left MetAndAsked xs s ys h = tt

phase_after : (meeting : Meeting) (asked : Asked) (others : List Other) (left : List Standing) → PhaseShows meeting left → PhaseShows (meeting_after meeting asked others) left
phase_after Listing a others left h = h
phase_after Emptying (Standing_at n r) others left h = h
phase_after Emptying Apart [] left h = tt
phase_after Emptying Apart (x ∷ xs) left h = h
phase_after Emptying Unasked [] left h = tt
phase_after Emptying Unasked (x ∷ xs) left h = h
phase_after Emptying (Answered n r) [] left h = tt
phase_after Emptying (Answered n r) (x ∷ xs) left h = h
phase_after Met a others left h = tt
phase_after MetAndAsked a others left h = tt

becomes_met : (meeting : Meeting) (asked : Asked) (others : List Other) → has_met meeting ≡ false → has_met (meeting_after meeting asked others) ≡ true → meeting_after meeting asked others ≡ Met
becomes_met Listing a others b h = absurd (cc h)
becomes_met Emptying (Standing_at n r) others b h = absurd (cc h)
becomes_met Emptying Apart [] b h = refl
becomes_met Emptying Apart (x ∷ xs) b h = absurd (cc h)
becomes_met Emptying Unasked [] b h = refl
becomes_met Emptying Unasked (x ∷ xs) b h = absurd (cc h)
becomes_met Emptying (Answered n r) [] b h = refl
becomes_met Emptying (Answered n r) (x ∷ xs) b h = absurd (cc h)
becomes_met Met a others b h = absurd (cc b)
becomes_met MetAndAsked a others b h = absurd (cc b)

module _ (e : End) where
  others_left : (z : Standing) (zs : List Standing) (f : List Other → Bool) → ((x : Other) (xs : List Other) → f (x ∷ xs) ≡ false) → own_of e (z ∷ zs) ≡ [] → f (others_of e (z ∷ zs)) ≡ false
  others_left z zs f h none = elim (is_own e z) as (λ t. (if t then z ∷ own_of e zs else own_of e zs) ≡ [] → f (map other_of (if not t then z ∷ filter (is_other e) zs else filter (is_other e) zs)) ≡ false) [
    | true ↦ λ k. absurd (cc k)
    | false ↦ λ k. h (other_of z) (others_of e zs)
  ] none

  met_emptying : (left : List Standing) (asked : Asked) → AskedShows e true (own_of e left) asked → has_met (meeting_after Emptying asked (others_of e left)) ≡ is_none_left left
  met_emptying left Apart h = absurd h
  met_emptying [] (Standing_at n r) h = absurd (cc h.alone)
  met_emptying [] Unasked h = refl
  met_emptying [] (Answered n r) h = refl
  met_emptying (z ∷ zs) (Standing_at n r) h = refl
  met_emptying (z ∷ zs) Unasked h = others_left z zs (λ others. has_met (meeting_after Emptying Unasked others)) (λ x xs. refl) h
  met_emptying (z ∷ zs) (Answered n r) h = others_left z zs (λ others. has_met (meeting_after Emptying (Answered n r) others)) (λ x xs. refl) h

  met_general : (meeting : Meeting) (r : Request) (left : List Standing) (asked : Asked) → PhaseAllows meeting r → (IsAllPorts r → ⊥)
      → AskedShows e true (own_of e left) asked → has_met (meeting_after meeting asked (others_of e left)) ≡ met_after (has_met meeting) left
  met_general Listing r left asked allows unlisted h = absurd (unlisted allows)
  met_general Emptying r left asked allows unlisted h = met_emptying left asked h
  met_general Met r left asked allows unlisted h = refl
  met_general MetAndAsked r left asked allows unlisted h = refl

  record StandsIn (estab : Bool) (own : List Standing) (asked : Asked) : Type 0 where
    pub n : ℕ
    pub r : lines.InputRequest
    pub is : asked ≡ Standing_at n r
    pub standing : StandsAs e own n r
    pub estab_is : estab ≡ true

  stands_in : (estab : Bool) (own : List Standing) (asked : Asked) → (own ≡ [] → ⊥) → AskedShows e estab own asked → StandsIn estab own asked
  stands_in true own Apart some h = absurd h
  stands_in true own Unasked some h = absurd (some h)
  stands_in true own (Standing_at n r) some h = record { n = n; r = r; is = refl; standing = h; estab_is = refl }
  stands_in true own (Answered n r) some h = absurd (some h)
  stands_in false own asked some h = absurd (some h.1)

module _ (node : NodeId) (input : End) where
  record After (p : Part) (s : Standing) (z : Line) : Type 0 where
    stands : Stands node input (answered_part p s) z
    also : AfterAnswer input s p.met (met_after p.met (without_request p.desk s).standing) z

  stands_as : (p : Part) (s : Standing) (line : Line) (c : Controller) → OwnShows node input p.adjacency (without_request p.desk s) (met_after p.met (without_request p.desk s).standing) c
      → Stands node input p line → Stands node input (answered_part p s) (record line { controller = c })
  stands_as p s line c own h = record {
    own = own;
    far = h.far;
    to_switch = h.to_switch;
    at_switch = h.at_switch;
    to_controller = h.to_controller;
    gathered = h.gathered;
    at_controller = h.at_controller;
    drawn = h.drawn;
    before = h.before;
    behind = h.behind;
    unmade = h.unmade;
    numbered = filtered_numbered p.desk (λ (z : Standing). not (z.number == s.number)) h.numbered;
  }

  own_line : (p : Part) (b : Line) (n type : ℕ) (q : LineRequest) (s : Standing) → message_type q ≡ type → Stands node input p b → (f : Found n type p.desk.standing s)
      → (IsAllPorts s.request → ⊥) → concerns input s.request ≡ true → After p s (hear_answer b n q Success)
  own_line p b n type q s typed h f unlisted here =
      let standing : List Standing = p.desk.standing in
      let estab : Bool = is_estab b.controller.adjacency.state in
      let left : List Standing = (without_request p.desk s).standing in
      let left_same : left ≡ f.before ++ f.after = left_is n type p.desk s f in
      let own_here : is_own input s ≡ true = own_test input s ∙ here in
      let cut : own_of input standing ≡ own_of input f.before ++ s ∷ own_of input f.after = ap (own_of input) f.is ∙ (filter_cut (is_own input) f.before (s ∷ f.after)
      ∙ ap (λ (z : List Standing). own_of input f.before ++ z) (filter_front (is_own input) s f.after own_here)) in
      let st : StandsIn input estab (own_of input standing) b.controller.asked = stands_in input estab (own_of input standing) b.controller.asked
      (λ none. not_none (own_of input f.before) s (own_of input f.after) (sym cut ∙ none)) h.own.asked in
      let alone : IsAlone (own_of input f.before) s (own_of input f.after) st.standing.standing = one_alone (own_of input f.before) s (own_of input f.after) st.standing.standing (sym cut ∙ st.standing.alone) in
      let none : own_of input left ≡ [] = ap (own_of input) left_same ∙ (filter_cut (is_own input) f.before f.after ∙ (λ i. alone.before i ++ alone.after i)) in
      let number : s.number ≡ st.n = ap (λ (z : Standing). z.number) alone.is ∙ st.standing.numbered in
      let request : on_input s.request ≡ st.r = some_is (on_input s.request) st.r (sym (own_is input s.request here) ∙ (ap (λ (z : Standing). own_request input z.request) alone.is ∙ st.standing.is)) in
      let others : b.controller.others ≡ others_of input left = h.own.others
      ∙ ap (map other_of) (ap (filter (is_other input)) f.is ∙ (filter_cut (is_other input) f.before (s ∷ f.after)
      ∙ (ap (λ (z : List Standing). filter (is_other input) f.before ++ z) (filter_skips (is_other input) s f.after (ap not own_here))
      ∙ (sym (filter_cut (is_other input) f.before f.after) ∙ ap (filter (is_other input)) (sym left_same))))) in
      let asked : asked_answered b.controller.asked ≡ Answered s.number (on_input s.request) = ap asked_answered st.is ∙ (λ i. Answered (sym number i) (sym request i)) in
      let shown : AskedShows input true (own_of input left) (asked_answered b.controller.asked) = subst (AskedShows input true (own_of input left)) (sym asked) none in
      let allows : PhaseAllows b.controller.meeting s.request = phase_at b.controller.meeting f.before s f.after (subst (PhaseShows b.controller.meeting) f.is h.own.phase) in
      let phase : PhaseShows b.controller.meeting left = subst (PhaseShows b.controller.meeting) (sym left_same)
      (phase_left b.controller.meeting f.before s f.after (subst (PhaseShows b.controller.meeting) f.is h.own.phase)) in
      let test : answers_asked n q b.controller.asked ≡ true = ap (answers_asked n q) st.is
      ∙ eq_true n st.n (message_type q) (message_type (OnInput st.r)) (f.number ∙ number)
      (typed ∙ (f.code ∙ (sym (input_type input s.request here) ∙ ap (λ (r : lines.InputRequest). message_type (OnInput r)) request))) in
      let met : has_met (meeting_after b.controller.meeting (asked_answered b.controller.asked) b.controller.others) ≡ met_after p.met left =
      ap (λ (o : List Other). has_met (meeting_after b.controller.meeting (asked_answered b.controller.asked) o)) others
      ∙ (met_general input b.controller.meeting s.request left (asked_answered b.controller.asked) allows unlisted shown
      ∙ ap (λ (m : Bool). met_after m left) h.own.met) in
      subst (After p s) (sym (ap (λ (t : Bool). if t then input_answered b else (
      if list_any (answers_other n q) b.controller.others
      then other_answered b b.controller.meeting (filter (λ other. not (answers_other n q other)) b.controller.others)
      else b)) test))
      (record {
        stands = stands_as p s b (input_answered b).controller (record {
          side = h.own.side;
          next = h.own.next;
          asked = subst (λ (t : Bool). AskedShows input t (own_of input left) (asked_answered b.controller.asked)) (sym st.estab_is) shown;
          others = others;
          met = met;
          phase = phase_after b.controller.meeting (asked_answered b.controller.asked) b.controller.others left phase;
        }) h;
        also = record {
          own = λ k. asked;
          met = λ m k. becomes_met b.controller.meeting (asked_answered b.controller.asked) b.controller.others (h.own.met ∙ m) (met ∙ k);
        };
      })

  -- *Another input's*
  own_holds : (xs : List Standing) → Every (λ (z : Standing). concerns input z.request ≡ true) (own_of input xs)
  own_holds [] = tt
  own_holds (x ∷ xs) = elim (is_own input x) as (λ t. is_own input x ≡ t → Every (λ (z : Standing). concerns input z.request ≡ true) (if t then x ∷ own_of input xs else own_of input xs)) [
    | true ↦ λ t. (sym (own_test input x) ∙ t, own_holds xs)
    | false ↦ λ t. own_holds xs
  ] refl

  pub not_asked : (n type : ℕ) (q : LineRequest) (estab : Bool) (own : List Standing) (asked : Asked) → message_type q ≡ type → AskedShows input estab own asked
      → Every (λ (z : Standing). is_it n type z ≡ false) own → Every (λ (z : Standing). concerns input z.request ≡ true) own → answers_asked n q asked ≡ false
  not_asked n type q true own Apart code h unlisted here = refl
  not_asked n type q true own Unasked code h unlisted here = refl
  not_asked n type q true own (Answered m r) code h unlisted here = refl
  not_asked n type q false own asked code h unlisted here = ap (answers_asked n q) h.0
  not_asked n type q true own (Standing_at m r) code h unlisted here =
      let z : Standing = h.standing in
      let t : is_it n type z ≡ false = (subst (Every (λ (z : Standing). is_it n type z ≡ false)) h.alone unlisted).0 in
      let on : concerns input z.request ≡ true = (subst (Every (λ (z : Standing). concerns input z.request ≡ true)) h.alone here).0 in
      let request : r ≡ on_input z.request = some_is r (on_input z.request) (sym h.is ∙ own_is input z.request on) in
      let code_is : message_type (OnInput r) ≡ type_of z.request = ap (λ (p : lines.InputRequest). message_type (OnInput p)) request ∙ input_type input z.request on in
      (λ i. (n == sym h.numbered i) && (code i == code_is i)) ∙ t

  other_is : (b : Line) (meeting : Meeting) (r : Request) (left : List Other) → PhaseAllows meeting r → (IsAllPorts r → ⊥)
      → other_answered b meeting left ≡ record b { controller = record b.controller { others = left; meeting = meeting_after meeting b.controller.asked left } }
  other_is b Listing r left allows unlisted = absurd (unlisted allows)
  other_is b Emptying r left allows unlisted = refl
  other_is b Met r left allows unlisted = refl
  other_is b MetAndAsked r left allows unlisted = refl

  in_estab : (estab : Bool) (own : List Standing) (asked : Asked) → estab ≡ true → AskedShows input estab own asked → AskedShows input true own asked
  in_estab true own asked t h = h
  in_estab false own asked t h = absurd (cc t)

  other_line : (p : Part) (b : Line) (n type : ℕ) (q : LineRequest) (s : Standing) → message_type q ≡ type → Stands node input p b → (f : Found n type p.desk.standing s)
      → (IsAllPorts s.request → ⊥) → is_estab p.adjacency.state ≡ true → concerns input s.request ≡ false → After p s (hear_answer b n q Success)
  other_line p b n type q s typed h f unlisted estab away =
      let standing : List Standing = p.desk.standing in
      let here : Bool = is_estab b.controller.adjacency.state in
      let own_away : is_own input s ≡ false = own_test input s ∙ away in
      let left : List Standing = (without_request p.desk s).standing in
      let left_same : left ≡ f.before ++ f.after = left_is n type p.desk s f in
      let own_same : own_of input left ≡ own_of input standing = ap (own_of input) left_same ∙ (filter_cut (is_own input) f.before f.after
      ∙ (ap (λ (z : List Standing). own_of input f.before ++ z) (sym (filter_skips (is_own input) s f.after own_away))
      ∙ (sym (filter_cut (is_own input) f.before (s ∷ f.after)) ∙ ap (own_of input) (sym f.is)))) in
      let before_not : Every (λ (z : Standing). is_it n type z ≡ false) f.before = each_not n type s f.before f.number f.first in
      let after_not : Every (λ (z : Standing). is_it n type z ≡ false) f.after = each_not n type s f.after f.number f.rest in
      let no_left : Every (λ (z : Standing). is_it n type z ≡ false) left = subst (Every (λ (z : Standing). is_it n type z ≡ false)) (sym left_same) (every_join (λ (z : Standing). is_it n type z ≡ false) f.before f.after before_not after_not) in
      let no_own : Every (λ (z : Standing). is_it n type z ≡ false) (own_of input standing) = subst (Every (λ (z : Standing). is_it n type z ≡ false)) own_same (every_filter (is_own input) (λ (z : Standing). is_it n type z ≡ false) left no_left) in
      let asked_not : answers_asked n q b.controller.asked ≡ false = not_asked n type q here (own_of input standing) b.controller.asked typed h.own.asked no_own (own_holds standing) in
      let xs : List Standing = filter (is_other input) f.before in
      let ys : List Standing = filter (is_other input) f.after in
      let others : b.controller.others ≡ map other_of xs ++ other_of s ∷ map other_of ys = h.own.others
      ∙ (ap (map other_of) (ap (filter (is_other input)) f.is ∙ (filter_cut (is_other input) f.before (s ∷ f.after) ∙ ap (λ (z : List Standing). xs ++ z) (filter_front (is_other input) s f.after (ap not own_away))))
      ∙ map_cut other_of xs (s ∷ ys)) in
      let test_s : answers_other n q (other_of s) ≡ true = eq_true n s.number (message_type q) (type_of s.request) f.number (typed ∙ f.code) in
      let kept : Other → Bool = λ other. not (answers_other n q other) in
      let any : list_any (answers_other n q) b.controller.others ≡ true = ap (list_any (answers_other n q)) others ∙ any_at (answers_other n q) (map other_of xs) (other_of s) (map other_of ys) test_s in
      let keeps : (zs : List Standing) → Every (λ (z : Standing). is_it n type z ≡ false) zs → filter kept (map other_of zs) ≡ map other_of zs = λ zs k.
      filter_all kept (map other_of zs) (every_mapped other_of (λ o. kept o ≡ true) zs (every_map (λ (z : Standing). is_it n type z ≡ false) (λ (z : Standing). kept (other_of z) ≡ true) zs
      (λ z t. ap not ((λ i. (n == z.number) && (typed i == type_of z.request)) ∙ t)) k)) in
      let left_others : filter kept b.controller.others ≡ others_of input left = ap (filter kept) others ∙ (filter_cut kept (map other_of xs) (other_of s ∷ map other_of ys)
      ∙ ((λ i. keeps xs (every_filter (is_other input) (λ (z : Standing). is_it n type z ≡ false) f.before before_not) i
      ++ (filter_skips kept (other_of s) (map other_of ys) (ap not test_s) ∙ keeps ys (every_filter (is_other input) (λ (z : Standing). is_it n type z ≡ false) f.after after_not)) i)
      ∙ (sym (map_cut other_of xs ys) ∙ ap (map other_of) (sym (filter_cut (is_other input) f.before f.after) ∙ ap (filter (is_other input)) (sym left_same))))) in
      let allows : PhaseAllows b.controller.meeting s.request = phase_at b.controller.meeting f.before s f.after (subst (PhaseShows b.controller.meeting) f.is h.own.phase) in
      let phase : PhaseShows b.controller.meeting left = subst (PhaseShows b.controller.meeting) (sym left_same)
      (phase_left b.controller.meeting f.before s f.after (subst (PhaseShows b.controller.meeting) f.is h.own.phase)) in
      let shown : AskedShows input here (own_of input left) b.controller.asked = subst (λ (z : List Standing). AskedShows input here z b.controller.asked) (sym own_same) h.own.asked in
      let met : has_met (meeting_after b.controller.meeting b.controller.asked (filter kept b.controller.others)) ≡ met_after p.met left =
      ap (λ (o : List Other). has_met (meeting_after b.controller.meeting b.controller.asked o)) left_others
      ∙ (met_general input b.controller.meeting s.request left b.controller.asked allows unlisted (in_estab here (own_of input left) b.controller.asked (sym (line_estab h.own) ∙ estab) shown)
      ∙ ap (λ (m : Bool). met_after m left) h.own.met) in
      subst (After p s) (sym (ap (λ (t : Bool). if t then input_answered b else (
      if list_any (answers_other n q) b.controller.others
      then other_answered b b.controller.meeting (filter kept b.controller.others)
      else b)) asked_not
      ∙ (ap (λ (t : Bool). if t then other_answered b b.controller.meeting (filter kept b.controller.others) else b) any
      ∙ other_is b b.controller.meeting s.request (filter kept b.controller.others) allows unlisted)))
      (record {
        stands = stands_as p s b (record b.controller { others = filter kept b.controller.others; meeting = meeting_after b.controller.meeting b.controller.asked (filter kept b.controller.others) }) (record {
          side = h.own.side;
          next = h.own.next;
          asked = shown;
          others = left_others;
          met = met;
          phase = phase_after b.controller.meeting b.controller.asked (filter kept b.controller.others) left phase;
        }) h;
        also = record {
          own = λ k. absurd (cc (sym k ∙ away));
          met = λ m k. becomes_met b.controller.meeting b.controller.asked (filter kept b.controller.others) (h.own.met ∙ m) (met ∙ k);
        };
      })

  -- *A success comes*: it is the one message in hand
  abbrev pub with_hand : Line → List ToController → Line
  with_hand line words = record line { at_controller = words }

  pub success_line : (p : Part) (line : Line) (under n type : ℕ) (q : LineRequest) (s : Standing) → message_type q ≡ type → Found n type p.desk.standing s → (IsAllPorts s.request → ⊥)
      → is_estab p.adjacency.state ≡ true → Stands node input p (with_hand line [])
      → Reaches node input (answered_part p s) (AfterAnswer input s p.met (met_after p.met (without_request p.desk s).standing)) (with_hand line (Answer under n q Success ∷ []))
  success_line p line under n type q s typed f unlisted estab h =
      let b : Line = with_hand line [] in
      let after : After p s (hear_answer b n q Success) = elim (concerns input s.request) as (λ t. concerns input s.request ≡ t → After p s (hear_answer b n q Success)) [
        | true ↦ λ t. own_line p b n type q s typed h f unlisted t
        | false ↦ λ t. other_line p b n type q s typed h f unlisted estab t
      ] refl in
      record { moves = ControllerTakes ∷ []; after = hear_answer b n q Success; is = refl; stands = after.stands; also = after.also }
