-- what a change of one label makes of a book, and of how its labels are found

use Rattle.std.proofs.Common.{◌≡◌, ℕ, true, false, List, Option, None, Some, refl, sym, ap, ◌∙◌}
use Rattle.std.specs.Prelude.{nat_le, map, slice_get, option_map, IsTrue, IsSome, IfSome, if◌then◌else◌}
use Rattle.std.specs.List.{AllByRecursion}
use Rattle.std.specs.Option.{option_map_or}
use Rattle.ipv4_packet.specs.Parts.{same_flow}
use Rattle.keyed_lists.specs.Keyed.{at, put, without, entered}
use Rattle.branch_desk.specs.port_model.Labels.{Label, LabelState, Wiring, Offered, Recalled, Wired, label_number, label_for, serves}
use Rattle.port_labels.specs.Book.{Book, IsInRange, Rises, acknowledged, changed, held, holds_passed, holds_recalled, is_passed, is_recalled, reclaimed, state_of, with_label, with_new_label, without_label}
use Rattle.port_labels.specs.Read.{label_of}
use Rattle.port_labels.specs.declared.view.HeldLabel.{HeldLabel}
use Rattle.port_labels.specs.Index.{AreFound, Entry, IsEntered, IsRemoved}
use Rattle.port_labels.proofs.Numbered.{all_at, number_found, put_same, numbers_entered, numbers_put, numbers_without}
use Rattle.port_labels.proofs.Served.{once_entered, once_put, once_quit, once_without, serving_entered, serving_put, serving_quit, serving_without}

-- a label that was taken out comes back as another
abbrev ComesBack : (old mid : Book) → (number : ℕ) → Type 0
ComesBack old mid number = (label : Label) → label.number ≡ number → with_new_label mid label ≡ with_label old label

pub changed_is : (old mid new : Book) (number : ℕ) (x l : Label) (change : Label → Label) → held old number ≡ Some x → l.number ≡ number
    → ComesBack old mid number → new ≡ with_new_label mid l → l ≡ change x → new ≡ changed old number change
changed_is old mid new number x l change found e back is same =
    is ∙ (back l e ∙ (ap (with_label old) same ∙ rw found refl))

-- what is known of a label by its state
pub state_some : (book : Book) (n : ℕ) (s : LabelState) → state_of book n ≡ Some s → IsSome (held book n)
state_some book n s is = by (held book n) is where
  by : (o : Option Label) → option_map (λ label. label.state) o ≡ Some s → IsSome o
  by None e = absurd (cc e)
  by (Some x) e = refl

pub state_is : (book : Book) (n : ℕ) (x : Label) (s : LabelState) → held book n ≡ Some x → state_of book n ≡ Some s → x.state ≡ s
state_is book n x s found is = let e : Some x.state ≡ Some s = rw found at is in cc

pub recalled_some : (book : Book) (n : ℕ) → IsTrue (holds_recalled book n) → IsSome (held book n)
recalled_some book n is = by (held book n) is where
  by : (o : Option Label) → IsTrue (option_map_or is_recalled (option_map (λ label. label.state) o) false) → IsSome o
  by None e = absurd (cc e)
  by (Some x) e = refl

pub serves_reclaimed : (n : ℕ) (s : LabelState) → serves (reclaimed n s) ≡ serves s
serves_reclaimed n Wiring = refl
serves_reclaimed n Offered = refl
serves_reclaimed n (Recalled last known) = refl
serves_reclaimed n Wired = refl

pub serves_acknowledged : (s : LabelState) → serves (acknowledged s) ≡ serves s
serves_acknowledged Wiring = refl
serves_acknowledged Offered = refl
serves_acknowledged (Recalled last known) = refl
serves_acknowledged Wired = refl

pub passed_serves : (n : ℕ) (s : LabelState) → is_passed n s ≡ true → serves s ≡ true
passed_serves n Wiring is = refl
passed_serves n Offered is = refl
passed_serves n (Recalled last known) is = refl
passed_serves n Wired is = absurd (cc is)

pub passed_is : (book : Book) (n known : ℕ) (x : Label) → held book n ≡ Some x → holds_passed book n known ≡ is_passed known x.state
passed_is book n known x found = rw found refl

pub kept_is : (old mid new : Book) (number : ℕ) (x l : Label) → held old number ≡ Some x → x.number ≡ number
    → ComesBack old mid number → new ≡ with_new_label mid l → l ≡ x → new ≡ old
kept_is old mid new number x l found e back is same =
    let there : at label_number x.number old.labels ≡ Some x = ap (λ (n : ℕ). at label_number n old.labels) e ∙ found in
    is ∙ (ap (with_new_label mid) same ∙ (back x e ∙ rw (put_same x old.labels there) refl))

pub kept : (ns : List ℕ) (es : List Entry) (old mid new : Book) (number : ℕ) (x l : Label) → held old number ≡ Some x → l.number ≡ number
    → ComesBack old mid number → new ≡ with_new_label mid l → serves l.state ≡ serves x.state → l.flow ≡ x.flow
    → AreFound ns es old.labels → AreFound ns es new.labels
kept ns es old mid new number x l found e back is state flow are =
    let new_is : new.labels ≡ put label_number l old.labels = ap (λ (b : Book). b.labels) (is ∙ back l e) in
    let there : at label_number l.number old.labels ≡ Some x = rw e found in
    rw new_is (record {
      numbered = are.numbered ∙ sym (numbers_put l old.labels);
      indexed = λ f. are.indexed f ∙ sym (serving_put l x old.labels f there state flow);
      once = once_put l x old.labels there state flow are.once;
    })

pub quitted : (ns : List ℕ) (es es2 : List Entry) (old mid new : Book) (number : ℕ) (x l : Label) → held old number ≡ Some x → l.number ≡ number
    → ComesBack old mid number → new ≡ with_new_label mid l → serves l.state ≡ false → serves x.state ≡ true → IsRemoved es es2 x.flow
    → AreFound ns es old.labels → AreFound ns es2 new.labels
quitted ns es es2 old mid new number x l found e back is off on removed are =
    let new_is : new.labels ≡ put label_number l old.labels = ap (λ (b : Book). b.labels) (is ∙ back l e) in
    let there : at label_number l.number old.labels ≡ Some x = rw e found in
    rw new_is (record {
      numbered = are.numbered ∙ sym (numbers_put l old.labels);
      indexed = λ f. removed f ∙ (ap (λ (o : Option ℕ). if same_flow x.flow f then None else o) (are.indexed f) ∙ sym (serving_quit l x old.labels f there off on are.once));
      once = once_quit l old.labels off are.once;
    })

pub entered_found : (ns ns2 : List ℕ) (es es2 : List Entry) (old new : Book) (l : Label) → new ≡ with_new_label old l → serves l.state ≡ true
    → label_for old.labels l.flow ≡ None → ns2 ≡ entered nat_le l.number ns → IsEntered es es2 l.flow l.number
    → AreFound ns es old.labels → AreFound ns2 es2 new.labels
entered_found ns ns2 es es2 old new l is on none numbers flows are =
    rw is (record {
      numbered = numbers ∙ (ap (entered nat_le l.number) are.numbered ∙ sym (numbers_entered l old.labels));
      indexed = λ f. flows f ∙ (ap (λ (o : Option ℕ). if same_flow l.flow f then Some l.number else o) (are.indexed f) ∙ sym (serving_entered l old.labels f on none));
      once = once_entered l old.labels on none are.once;
    })

pub freed : (ns ns2 : List ℕ) (es : List Entry) (old new : Book) (number : ℕ) (x : Label) → new ≡ without_label old number → held old number ≡ Some x
    → serves x.state ≡ false → Rises old.labels → ns2 ≡ without (λ n. n) number ns
    → AreFound ns es old.labels → AreFound ns2 es new.labels
freed ns ns2 es old new number x is found off up numbers are =
    rw is (record {
      numbered = numbers ∙ (ap (without (λ n. n) number) are.numbered ∙ sym (numbers_without number old.labels));
      indexed = λ f. are.indexed f ∙ sym (serving_without number x old.labels f up found off);
      once = once_without number old.labels are.once;
    })

-- what is found
pub found_in_range : (book : Book) (n : ℕ) (r : Option HeldLabel) → AllByRecursion (IsInRange book) book.labels → option_map label_of r ≡ held book n
    → IfSome r (λ l. IsInRange book (label_of l))
found_in_range book n None all is = tt
found_in_range book n (Some l) all is = all_at (IsInRange book) n book.labels (label_of l) all (sym is)

pub number_finds : (book : Book) (seen : List ℕ) (place : ℕ) (r : Option ℕ) → Rises book.labels → r ≡ slice_get seen place → seen ≡ map label_number book.labels
    → IfSome r (λ n. held book n ≡ slice_get book.labels place)
number_finds book seen place None up is same = tt
number_finds book seen place (Some n) up is same = number_found book.labels place n up (sym (rw same at is))
