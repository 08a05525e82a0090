-- Labels that are changed in a book.

use Rattle.std.proofs.Common.{◌≡◌, ℕ, Bool, not, List, [], ◌∷◌, filter, refl, sym, ap, ◌∙◌, Option, None, Some, option_map, IfSome}
use Rattle.std.specs.Option.{option_map_or}
use Rattle.keyed_lists.specs.Keyed.{at, put}
use Rattle.port_labels.specs.Book.{Book, held, with_label}
use Rattle.port_labels.specs.Book as book
use Rattle.port_labels.specs.Read.{label_of}
use Rattle.port_labels.specs.declared.view.HeldLabel.{HeldLabel}
use Rattle.label_pool.specs.Pool.{Pool, labels_between}
use Rattle.branch_desk.specs.port_model.Labels.{Label, is_spare, label_number}
use Rattle.port_session.specs.Session.{AreTied, changed}
use Rattle.port_session.proofs.Keyed.{at_key, held_by_keys, keys_put}

pub changed_labels : (b : Book) (number : ℕ) (change : Label → Label) → (book.changed b number change).labels ≡ changed number change b.labels
changed_labels b number change = by (at label_number number b.labels) where
  by : (o : Option Label) → (option_map_or (λ label. with_label b (change label)) o b).labels ≡ option_map_or (λ label. put label_number (change label) b.labels) o b.labels
  by None = refl
  by (Some label) = refl

filter_agree : {X : Type 0} (p q : X → Bool) → ((x : X) → p x ≡ q x) → (xs : List X) → filter p xs ≡ filter q xs
filter_agree p q same [] = refl
filter_agree p q same (x ∷ xs) = rw (same x, filter_agree p q same xs) refl

-- a change of a label leaves the same labels held
pub tied_changed : (pool : Pool) (b : Book) (number : ℕ) (change : Label → Label) → AreTied pool b → AreTied pool (book.changed b number change)
tied_changed pool b number change tied = by (at label_number number b.labels) where
  by : (o : Option Label) → AreTied pool (option_map_or (λ label. with_label b (change label)) o b)
  by None = tied
  by (Some label) = record {
    instance = tied.instance;
    least = tied.least;
    greatest = tied.greatest;
    spare = tied.spare ∙ filter_agree (is_spare b.labels) (is_spare (put label_number (change label) b.labels))
        (λ n. ap not (held_by_keys label_number b.labels (put label_number (change label) b.labels) (sym (keys_put label_number (change label) b.labels)) n)) (labels_between pool.least pool.greatest);
  }

-- a label that is read has its number
pub read_number : (labels : List Label) (number : ℕ) (o : Option HeldLabel) → option_map label_of o ≡ at label_number number labels → IfSome o (λ label. label.number ≡ number)
read_number labels number None h = tt
read_number labels number (Some label) h = at_key label_number number labels (label_of label) (sym h)
