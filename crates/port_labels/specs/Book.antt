-- What a book of labels is seen as, and what its calls make of it

use Rattle.std.specs.Prelude.{◌≡◌, ℕ, Bool, true, false, ◌+◌, ◌<◌, ◌≤◌, ◌&&◌, nat_lt, IsTrue, List, [], ◌∷◌, length, Option, None, option_map}
use Rattle.std.specs.List.{AllByRecursion}
use Rattle.std.specs.Option.{option_map_or}
use Rattle.net_types.specs.declared.number.Instance.{Instance}
use Rattle.net_types.specs.Label.{is_label_number}
use Rattle.ipv4_packet.specs.declared.flow.FlowId.{FlowId}
use Rattle.keyed_lists.specs.Keyed.{at, put, without, entered, key_le}
use Rattle.label_pool.specs.Tag.{Tag}
use Rattle.branch_desk.specs.port_model.Labels.{Label, LabelState, Wiring, Recalled, label_number, label_for, serves}

-- the instance of the adjacency for whose pool it was opened, the range of its labels by their numbers,
-- and the labels that are held, the lowest first
pub record Book : Type 0 where
  pub instance : Instance
  pub least : ℕ
  pub greatest : ℕ
  pub labels : List Label

abbrev pub held : Book → (number : ℕ) → Option Label
held book number = at label_number number book.labels

abbrev pub state_of : Book → (number : ℕ) → Option LabelState
state_of book number = option_map (λ label. label.state) (held book number)

-- *A change*: a label is held; a label that is held is another now; a label isn't held any more
abbrev pub with_new_label : Book → Label → Book
with_new_label book label = record book { labels = entered (key_le label_number) label book.labels }

abbrev pub with_label : Book → Label → Book
with_label book label = record book { labels = put label_number label book.labels }

abbrev pub changed : Book → (number : ℕ) → (Label → Label) → Book
changed book number change = option_map_or (λ label. with_label book (change label)) (held book number) book

abbrev pub in_state : Book → (number : ℕ) → LabelState → Book
in_state book number state = changed book number (λ label. record label { state = state })

abbrev pub without_label : Book → (number : ℕ) → Book
without_label book number = record book { labels = without label_number number book.labels }

-- a label that is being wired for a flow
abbrev pub wiring : (number : ℕ) → FlowId → Label
wiring number flow = record { number = number; state = Wiring; flow = flow; idle = 0; ticks = 0; join = None }

-- *A recalled label*: it is reclaimed again; it is acknowledged; the peer can't use it any more where it is
-- acknowledged and the peer is known to expect a number above that of the last RECLAIM
abbrev pub is_recalled : LabelState → Bool
is_recalled (Recalled last acknowledged) = true
is_recalled state = false

abbrev pub reclaimed : (number : ℕ) → LabelState → LabelState
reclaimed number (Recalled last acknowledged) = Recalled number acknowledged
reclaimed number state = state

abbrev pub acknowledged : LabelState → LabelState
acknowledged (Recalled last known) = Recalled last true
acknowledged state = state

abbrev pub is_passed : (known : ℕ) → LabelState → Bool
is_passed known (Recalled last acknowledged) = acknowledged && nat_lt last known
is_passed known state = false

abbrev pub holds_recalled : Book → (number : ℕ) → Bool
holds_recalled book number = option_map_or is_recalled (state_of book number) false

abbrev pub holds_passed : Book → (number known : ℕ) → Bool
holds_passed book number known = option_map_or (is_passed known) (state_of book number) false

-- *A label of the book's instance and range*
pub record IsOfBook (book : Book) {S : Type 0} (label : Tag S) : Type 0 where
  pub instance : label.instance ≡ book.instance
  pub least : book.least ≤ label.number
  pub greatest : label.number ≤ book.greatest

-- *What holds of every book*: the numbers of its labels rise, and lie in its range; a flow is served by at
-- most one label
abbrev pub Rises : List Label → Type 0
Rises [] = Unit {0}
Rises (label ∷ labels) = AllByRecursion (λ other. label.number < other.number) labels × Rises labels

abbrev pub IsInRange : Book → Label → Type 0
IsInRange book label = (book.least ≤ label.number) × (label.number ≤ book.greatest) × IsTrue (is_label_number label.number)

abbrev pub ServesOnce : List Label → Type 0
ServesOnce [] = Unit {0}
ServesOnce (label ∷ labels) = (serves label.state ≡ true → label_for labels label.flow ≡ None) × ServesOnce labels

pub record IsBook (book : Book) : Type 0 where
  pub rises : Rises book.labels
  pub inside : AllByRecursion (IsInRange book) book.labels
  pub once : ServesOnce book.labels
  pub few : length book.labels + book.least ≤ book.greatest + 1
