-- What a session of a port is seen as, and what its calls make of it

use Rattle.std.specs.Prelude.{◌≡◌, ℕ, ◌+◌, nat_lt, min, List, filter, Option, None, Some, if◌then◌else◌}
use Rattle.std.specs.Option.{option_map_or}
use Rattle.net_types.specs.declared.number.Instance.{Instance}
use Rattle.keyed_lists.specs.Keyed.{at, put}
use Rattle.label_pool.specs.Pool.{Pool, labels_between}
use Rattle.port_labels.specs.Book.{Book}
use Rattle.branch_desk.specs.port_model.Labels.{Label, is_spare, label_number}
use Rattle.branch_desk.specs.port_model.Port.{Session}
use Rattle.branch_desk.specs.port_model.Saying.{last_number, spent_number}

-- the session with the range of the port, the window of its counts and the instance that it was opened for
pub record Opened : Type 0 where
  pub least : ℕ
  pub greatest : ℕ
  pub window : ℕ
  pub instance : Instance
  pub session : Session

abbrev pub with_session : Opened → Session → Opened
with_session opened session = record opened { session = session }

abbrev pub with_labels : Opened → List Label → Opened
with_labels opened labels = with_session opened (record opened.session { labels = labels })

-- a label that is held is changed
abbrev pub changed : (number : ℕ) → (Label → Label) → List Label → List Label
changed number change labels =
    option_map_or (λ label. put label_number (change label) labels) (at label_number number labels) labels

abbrev pub with_change : Opened → (number : ℕ) → (Label → Label) → Opened
with_change opened number change = with_labels opened (changed number change opened.session.labels)

-- the number of the next message, and the next one then
abbrev pub next_number : Session → Option ℕ
next_number s = if nat_lt s.number last_number then Some s.number else None

abbrev pub after_number : Session → Session
after_number s = record s { number = if nat_lt s.number last_number then s.number + 1 else spent_number }

abbrev pub reclaim_number : Session → ℕ
reclaim_number s = min last_number s.number

-- the pool has all labels that aren't held
pub record AreTied (pool : Pool) (book : Book) : Type 0 where
  pub instance : book.instance ≡ pool.instance
  pub least : book.least ≡ pool.least
  pub greatest : book.greatest ≡ pool.greatest
  pub spare : pool.spare ≡ filter (is_spare book.labels) (labels_between pool.least pool.greatest)

-- the pool of a session
pub record IsPoolIn (opened : Opened) (pool : Pool) : Type 0 where
  pub instance : pool.instance ≡ opened.instance
  pub least : pool.least ≡ opened.least
  pub greatest : pool.greatest ≡ opened.greatest
  pub from : pool.from ≡ opened.session.least
  pub to : pool.to ≡ opened.session.greatest
  pub spare : pool.spare ≡ filter (is_spare opened.session.labels) (labels_between opened.least opened.greatest)
