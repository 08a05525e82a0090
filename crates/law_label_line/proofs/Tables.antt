-- what holds of each cell of the line, and of each two in order, given what the downstream end
-- makes of the label

use Rattle.std.proofs.Common.{◌≡◌, ℕ, ◌<◌, ◌≤◌, Bool, true, false, List}
use Rattle.net_types.specs.declared.adjacency.HelloKind.{HelloKind}
use Rattle.net_types.specs.declared.adjacency.HelloKind.TheVariants.{Syn, Synack, Rstack, Ack}
use Rattle.ordered_lists.specs.Ordered.{Holds}
use Rattle.ordered_lists.proofs.Exchange.{Blocks, Heads, Tails}
use Rattle.law_label_line.specs.Cells.{Downstream, Upstream, Message, Hello, Redirect, Reclaim, ReclaimAck, Other, Cell, Labelled, Default}

-- the last cell of a message's frame, and what the upstream end may say in each of its states; in
-- Clearing a message that says nothing stands for it
abbrev pub last_of : Message → Cell
last_of message = Default true message

abbrev pub up_silent : Cell
up_silent = last_of (Hello Upstream Rstack 0 0 0)

abbrev pub up_syn : (own : ℕ) → Cell
up_syn own = last_of (Hello Upstream Syn own 0 0)

abbrev pub up_synack : (own stored expected : ℕ) → Cell
up_synack own stored expected = last_of (Hello Upstream Synack own stored expected)

abbrev pub up_ack : (own stored expected : ℕ) → Cell
up_ack own stored expected = last_of (Hello Upstream Ack own stored expected)

-- what the downstream end makes of the label: its pool is closed, the label has no user, is offered,
-- or is recalled with this last RECLAIM and acknowledged or not
pub data Binding : Type 0 where
  Closed : Binding
  Unused : Binding
  InOffer : Binding
  InRecall : (last : ℕ) → (acknowledged : Bool) → Binding

-- the downstream end as it stands to the label. `late` says that a RECLAIM ACK may stand behind an
-- ACK that passed the last RECLAIM: it was owed when that ACK was said
pub record Side : Type 0 where
  pub own : ℕ
  pub peer : ℕ
  pub number : ℕ
  pub known : ℕ
  pub flow : ℕ
  pub binding : Binding
  pub late : Bool
  -- the instances under which the ports of the two ends were cleared
  pub down : ℕ → Bool
  pub up : ℕ → Bool

-- its pool is open
abbrev pub IsOpened : Binding → Type 0
IsOpened Closed = ⊥
IsOpened Unused = Unit {0}
IsOpened InOffer = Unit {0}
IsOpened (InRecall last acknowledged) = Unit {0}

-- a cell of the label may stand on the line
abbrev pub Usable : Binding → Type 0
Usable Closed = Unit {0}
Usable Unused = ⊥
Usable InOffer = Unit {0}
Usable (InRecall last acknowledged) = acknowledged ≡ false

-- a message of the downstream end with a number: of an older instance while the pool is closed, else
-- of the present ones, and between what the peer is known to expect and the next number
abbrev pub SentIn : Binding → Side → (sender receiver number : ℕ) → Type 0
SentIn Closed a x y n = x < a.own
SentIn Unused a x y n = (x ≡ a.own) × (y ≡ a.peer) × (a.known ≤ n) × (n < a.number)
SentIn InOffer a x y n = (x ≡ a.own) × (y ≡ a.peer) × (a.known ≤ n) × (n < a.number)
SentIn (InRecall last acknowledged) a x y n = (x ≡ a.own) × (y ≡ a.peer) × (a.known ≤ n) × (n < a.number)

abbrev pub Sent : Side → (sender receiver number : ℕ) → Type 0
Sent a x y n = (1 ≤ n) × SentIn a.binding a x y n

abbrev pub Redirecting : Binding → (last : Bool) → (number : ℕ) → Type 0
Redirecting Closed whole n = Unit {0}
Redirecting Unused whole n = ⊥
Redirecting InOffer whole n = Unit {0}
Redirecting (InRecall last acknowledged) whole n = (acknowledged ≡ false) × (whole ≡ true → n < last)

abbrev pub Reclaiming : Binding → (late : Bool) → (number : ℕ) → Type 0
Reclaiming Closed late n = Unit {0}
Reclaiming Unused late n = ⊥
Reclaiming InOffer late n = ⊥
Reclaiming (InRecall last acknowledged) late n = (n ≤ last) × (late ≡ true → acknowledged ≡ false)

abbrev pub Acking : Binding → Side → (sender receiver flow : ℕ) → Type 0
Acking Closed a y x f = x < a.own
Acking Unused a y x f = ⊥
Acking InOffer a y x f = ⊥
Acking (InRecall last acknowledged) a y x f = (x ≡ a.own) × (y ≡ a.peer) × (f ≡ a.flow) ×
    (a.late ≡ true → acknowledged ≡ false) × (a.late ≡ false → a.known ≤ last)

-- the next number that an ACK of the upstream end says
abbrev pub Marks : Binding → Side → (sender receiver next : ℕ) → Type 0
Marks Closed a y x n = x ≡ a.own → n ≡ 1
Marks Unused a y x n = x ≡ a.own → y ≡ a.peer → n ≤ a.number
Marks InOffer a y x n = x ≡ a.own → y ≡ a.peer → n ≤ a.number
Marks (InRecall last acknowledged) a y x n = x ≡ a.own → y ≡ a.peer → n ≤ a.number

abbrev pub HelloUp : HelloKind → Side → (sender receiver next : ℕ) → Type 0
HelloUp Syn a y x n = a.up y ≡ true
HelloUp Synack a y x n = (a.up y ≡ true) × (a.down x ≡ true) × (x ≤ a.own)
HelloUp Rstack a y x n = Unit {0}
HelloUp Ack a y x n = (a.up y ≡ true) × (a.down x ≡ true) × (x ≤ a.own) × Marks a.binding a y x n

abbrev pub HelloDown : HelloKind → Side → (sender receiver : ℕ) → Type 0
HelloDown Syn a x y = (a.down x ≡ true) × (x ≤ a.own)
HelloDown Synack a x y = (a.down x ≡ true) × (x ≤ a.own) × (a.up y ≡ true)
HelloDown Rstack a x y = Unit {0}
HelloDown Ack a x y = (a.down x ≡ true) × (x ≤ a.own) × (a.up y ≡ true)

-- what holds of each cell
abbrev pub Fits : Side → Cell → Type 0
Fits a (Labelled f) = (f ≡ a.flow) × Usable a.binding
Fits a (Default whole (Hello Downstream kind x y n)) = HelloDown kind a x y
Fits a (Default whole (Hello Upstream kind y x n)) = HelloUp kind a y x n
Fits a (Default whole (Redirect x y n f)) = (f ≡ a.flow) × Sent a x y n × Redirecting a.binding whole n
Fits a (Default whole (Reclaim x y n f)) = (f ≡ a.flow) × Sent a x y n × Reclaiming a.binding a.late n
Fits a (Default whole (ReclaimAck y x f)) = Acking a.binding a y x f
Fits a (Default whole (Other x y n)) = Sent a x y n

-- behind a message of the downstream end stand only such messages
abbrev pub IsDown : Cell → Type 0
IsDown (Labelled f) = ⊥
IsDown (Default whole (Hello Downstream kind x y n)) = Unit {0}
IsDown (Default whole (Hello Upstream kind y x n)) = ⊥
IsDown (Default whole (Redirect x y n f)) = Unit {0}
IsDown (Default whole (Reclaim x y n f)) = Unit {0}
IsDown (Default whole (ReclaimAck y x f)) = ⊥
IsDown (Default whole (Other x y n)) = Unit {0}

-- instances of the downstream end don't fall along the line
abbrev pub HelloDownFrom : HelloKind → (least sender : ℕ) → Type 0
HelloDownFrom Syn x' x = x' ≤ x
HelloDownFrom Synack x' x = x' ≤ x
HelloDownFrom Rstack x' x = Unit {0}
HelloDownFrom Ack x' x = x' ≤ x

abbrev pub HelloUpFrom : HelloKind → (least receiver : ℕ) → Type 0
HelloUpFrom Syn x' x = Unit {0}
HelloUpFrom Synack x' x = x' ≤ x
HelloUpFrom Rstack x' x = Unit {0}
HelloUpFrom Ack x' x = x' ≤ x

-- no user of the label stands behind a word that names the instance of a closed pool
abbrev pub UserAfter : Binding → (own named : ℕ) → Type 0
UserAfter Closed own x = x < own
UserAfter Unused own x = Unit {0}
UserAfter InOffer own x = Unit {0}
UserAfter (InRecall last acknowledged) own x = Unit {0}

abbrev pub AfterName : Side → (named : ℕ) → Cell → Type 0
AfterName a x' (Labelled f) = UserAfter a.binding a.own x'
AfterName a x' (Default whole (Hello Downstream kind x y n)) = HelloDownFrom kind x' x
AfterName a x' (Default whole (Hello Upstream kind y x n)) = HelloUpFrom kind x' x
AfterName a x' (Default whole (Redirect x y n f)) = x' ≤ x
AfterName a x' (Default whole (Reclaim x y n f)) = x' ≤ x
AfterName a x' (Default whole (ReclaimAck y x f)) = x' ≤ x
AfterName a x' (Default whole (Other x y n)) = x' ≤ x

-- behind an ACK that said the next number k: no lesser number between its two instances, and no RECLAIM ACK
-- where k passed the last RECLAIM, but a late one
abbrev pub AckAfter : Binding → (late : Bool) → (next : ℕ) → Type 0
AckAfter Closed late k = Unit {0}
AckAfter Unused late k = Unit {0}
AckAfter InOffer late k = Unit {0}
AckAfter (InRecall last acknowledged) late k = late ≡ false → k ≤ last

abbrev pub AfterMark : Side → (sender receiver next : ℕ) → Cell → Type 0
AfterMark a y' x' k (Labelled f) = Unit {0}
AfterMark a y' x' k (Default whole (Hello by kind x y n)) = Unit {0}
AfterMark a y' x' k (Default whole (Redirect x y n f)) = x ≡ x' → y ≡ y' → k ≤ n
AfterMark a y' x' k (Default whole (Reclaim x y n f)) = x ≡ x' → y ≡ y' → k ≤ n
AfterMark a y' x' k (Default whole (ReclaimAck y x f)) = x' ≡ a.own → y' ≡ a.peer → x ≡ a.own → AckAfter a.binding a.late k
AfterMark a y' x' k (Default whole (Other x y n)) = x ≡ x' → y ≡ y' → k ≤ n

-- numbers of one instance rise
abbrev pub AfterNumber : (whole : Bool) → (sender number : ℕ) → Cell → Type 0
AfterNumber whole x' k (Labelled f) = Unit {0}
AfterNumber whole x' k (Default last (Hello by kind x y n)) = Unit {0}
AfterNumber whole x' k (Default last (Redirect x y n f)) = x ≡ x' → (k ≤ n) × (whole ≡ true → k < n)
AfterNumber whole x' k (Default last (Reclaim x y n f)) = x ≡ x' → (k ≤ n) × (whole ≡ true → k < n)
AfterNumber whole x' k (Default last (ReclaimAck y x f)) = Unit {0}
AfterNumber whole x' k (Default last (Other x y n)) = x ≡ x' → (k ≤ n) × (whole ≡ true → k < n)

-- behind a RECLAIM stands no REDIRECT
abbrev pub AfterReclaim : Side → Cell → Type 0
AfterReclaim a (Labelled f) = Unit {0}
AfterReclaim a (Default whole (Hello by kind x y n)) = Unit {0}
AfterReclaim a (Default whole (Redirect x y n f)) = x ≡ a.own → ⊥
AfterReclaim a (Default whole (Reclaim x y n f)) = Unit {0}
AfterReclaim a (Default whole (ReclaimAck y x f)) = Unit {0}
AfterReclaim a (Default whole (Other x y n)) = Unit {0}

-- behind a RECLAIM ACK stands no user, and behind a late one no other
abbrev pub AfterAck : Side → (whole : Bool) → Cell → Type 0
AfterAck a whole (Labelled f) = ⊥
AfterAck a whole (Default last (Hello by kind x y n)) = Unit {0}
AfterAck a whole (Default last (Redirect x y n f)) = x ≡ a.own → ⊥
AfterAck a whole (Default last (Reclaim x y n f)) = Unit {0}
AfterAck a whole (Default last (ReclaimAck y x f)) = x ≡ a.own → whole ≡ true → a.late ≡ false
AfterAck a whole (Default last (Other x y n)) = Unit {0}

abbrev pub BehindUp : HelloKind → Side → (sender receiver next : ℕ) → Cell → Type 0
BehindUp Syn a y x n z = Unit {0}
BehindUp Synack a y x n z = AfterName a x z
BehindUp Rstack a y x n z = Unit {0}
BehindUp Ack a y x n z = AfterName a x z × AfterMark a y x n z

abbrev pub BehindDown : HelloKind → Side → (sender : ℕ) → Cell → Type 0
BehindDown Syn a x z = AfterName a x z
BehindDown Synack a x z = AfterName a x z
BehindDown Rstack a x z = Unit {0}
BehindDown Ack a x z = AfterName a x z

-- what holds of each two cells, the earlier one first
abbrev pub Before : Side → Cell → Cell → Type 0
Before a (Labelled f) z = Unit {0}
Before a (Default whole (Hello Downstream kind x y n)) z = IsDown z × BehindDown kind a x z
Before a (Default whole (Hello Upstream kind y x n)) z = BehindUp kind a y x n z
Before a (Default whole (Redirect x y n f)) z = IsDown z × AfterName a x z × AfterNumber whole x n z
Before a (Default whole (Reclaim x y n f)) z = IsDown z × AfterName a x z × AfterNumber whole x n z ×
    (x ≡ a.own → AfterReclaim a z)
Before a (Default whole (ReclaimAck y x f)) z = x ≡ a.own → AfterAck a whole z
Before a (Default whole (Other x y n)) z = IsDown z × AfterName a x z × AfterNumber whole x n z

abbrev pub Good : Side → List Cell → Type 0
Good a xs = Holds (Fits a) (Before a) xs

abbrev pub Changes : Side → Side → (ys xs : List Cell) → Type 0
Changes a b ys xs = Good a ys → Blocks (Fits a) (Fits b) (Before a) (Before b) ys xs

abbrev pub ChangesHead : Side → Side → (ys xs : List Cell) → Type 0
ChangesHead a b ys xs = Good a ys → Heads (Fits a) (Fits b) (Before a) (Before b) ys xs

abbrev pub ChangesTail : Side → Side → (ys xs : List Cell) → Type 0
ChangesTail a b ys xs = Good a ys → Tails (Fits a) (Fits b) (Before a) (Before b) ys xs
