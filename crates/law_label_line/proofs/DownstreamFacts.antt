-- what the downstream end does, as exchanges at the front and at the end of the line, and as changes
-- of its side alone

use Rattle.std.proofs.Common.{◌≡◌, ℕ, ◌+◌, ◌<◌, ◌≤◌, Bool, true, false, [], ◌∷◌, arith}
use Rattle.net_types.specs.declared.adjacency.HelloKind.TheVariants.{Syn, Synack, Rstack, Ack}
use Rattle.law_label_line.specs.Cells.{Downstream, Upstream, Hello, Redirect, Reclaim, ReclaimAck, Other, Cell}
use Rattle.law_label_line.proofs.Tables.{last_of, Closed, Unused, InOffer, InRecall, IsOpened, Side, Fits, Before, ChangesHead, ChangesTail}

-- a label without a user is bound, and REDIRECT is sent
pub binds : (a : Side) (g : ℕ) → a.binding ≡ Unused → 1 ≤ a.number → a.known ≤ a.number
    → ChangesTail a (record a { number = a.number + 1; flow = g; binding = InOffer }) []
    (last_of (Redirect a.own a.peer a.number g) ∷ [])
binds a g is positive told h = record {
  earlier = λ z p r. grind arith;
  both_earlier = λ z w p q p' q' r s t. grind arith;
  before = λ z p p' r. grind arith;
  inside = record { each = grind arith; order = grind arith };
}

-- REDIRECT is sent again
pub redirects_again : (a : Side) → a.binding ≡ InOffer → 1 ≤ a.number → a.known ≤ a.number
    → ChangesTail a (record a { number = a.number + 1 }) [] (last_of (Redirect a.own a.peer a.number a.flow) ∷ [])
redirects_again a is positive told h = record {
  earlier = λ z p r. grind arith;
  both_earlier = λ z w p q p' q' r s t. grind arith;
  before = λ z p p' r. grind arith;
  inside = record { each = grind arith; order = grind arith };
}

-- RECLAIM is sent
pub recalls : (a : Side) → a.binding ≡ InOffer → 1 ≤ a.number → a.known ≤ a.number
    → ChangesTail a (record a { number = a.number + 1; binding = InRecall a.number false; late = false }) []
    (last_of (Reclaim a.own a.peer a.number a.flow) ∷ [])
recalls a is positive told h = record {
  earlier = λ z p r. grind arith;
  both_earlier = λ z w p q p' q' r s t. grind arith;
  before = λ z p p' r. grind arith;
  inside = record { each = grind arith; order = grind arith };
}

-- RECLAIM is sent again
pub recalls_again : (a : Side) (l : ℕ) → a.binding ≡ InRecall l false → 1 ≤ a.number → a.known ≤ a.number
    → ChangesTail a (record a { number = a.number + 1; binding = InRecall a.number false; late = false }) []
    (last_of (Reclaim a.own a.peer a.number a.flow) ∷ [])
recalls_again a l is positive told h = record {
  earlier = λ z p r. grind arith;
  both_earlier = λ z w p q p' q' r s t. grind arith;
  before = λ z p p' r. grind arith;
  inside = record { each = grind arith; order = grind arith };
}

-- a redirection message that isn't of the label is sent
pub numbers_other : (a : Side) → IsOpened a.binding → 1 ≤ a.number → a.known ≤ a.number
    → ChangesTail a (record a { number = a.number + 1 }) [] (last_of (Other a.own a.peer a.number) ∷ [])
numbers_other a is positive told h = record {
  earlier = λ z p r. grind arith;
  both_earlier = λ z w p q p' q' r s t. grind arith;
  before = λ z p p' r. grind arith;
  inside = record { each = grind arith; order = grind arith };
}

-- SYN is said
pub says_syn : (a : Side) (x y n : ℕ) → a.down x ≡ true → x ≡ a.own
    → ChangesTail a a [] (last_of (Hello Downstream Syn x y n) ∷ [])
says_syn a x y n own_cleared own h = record {
  earlier = λ z p r. grind arith;
  both_earlier = λ z w p q p' q' r s t. grind arith;
  before = λ z p p' r. grind arith;
  inside = record { each = grind arith; order = grind arith };
}

-- SYNACK is said
pub says_synack : (a : Side) (x y n : ℕ) → a.down x ≡ true → x ≡ a.own → a.up y ≡ true
    → ChangesTail a a [] (last_of (Hello Downstream Synack x y n) ∷ [])
says_synack a x y n own_cleared own peer_cleared h = record {
  earlier = λ z p r. grind arith;
  both_earlier = λ z w p q p' q' r s t. grind arith;
  before = λ z p p' r. grind arith;
  inside = record { each = grind arith; order = grind arith };
}

-- ACK is said
pub says_ack : (a : Side) (x y n : ℕ) → a.down x ≡ true → x ≡ a.own → a.up y ≡ true
    → ChangesTail a a [] (last_of (Hello Downstream Ack x y n) ∷ [])
says_ack a x y n own_cleared own peer_cleared h = record {
  earlier = λ z p r. grind arith;
  both_earlier = λ z w p q p' q' r s t. grind arith;
  before = λ z p p' r. grind arith;
  inside = record { each = grind arith; order = grind arith };
}

-- RSTACK is said
pub says_rstack : (a : Side) (x y n : ℕ)
    → ChangesTail a a [] (last_of (Hello Downstream Rstack x y n) ∷ [])
says_rstack a x y n h = record {
  earlier = λ z p r. grind arith;
  both_earlier = λ z w p q p' q' r s t. grind arith;
  before = λ z p p' r. grind arith;
  inside = record { each = grind arith; order = grind arith };
}

-- RECLAIM ACK is taken
pub acknowledges : (a : Side) (y x f l : ℕ) (c : Bool) → a.binding ≡ InRecall l c → y ≡ a.peer → x ≡ a.own
    → ChangesHead a (record a { binding = InRecall l true; late = false }) (last_of (ReclaimAck y x f) ∷ []) []
acknowledges a y x f l c is known meant h = record {
  later = λ z p r. grind arith;
  both_later = λ z w p q p' q' r s t. grind arith;
  after = λ z p p' r. grind arith;
  inside = record { each = grind arith; order = grind arith };
}

-- SYNACK opens the pool
pub opens_by_synack : (a : Side) (y x n : ℕ) → a.binding ≡ Closed → x ≡ a.own
    → ChangesHead a (record a { peer = y; number = 1; known = 1; binding = Unused })
    (last_of (Hello Upstream Synack y x n) ∷ []) []
opens_by_synack a y x n is meant h = record {
  later = λ z p r. grind arith;
  both_later = λ z w p q p' q' r s t. grind arith;
  after = λ z p p' r. grind arith;
  inside = record { each = grind arith; order = grind arith };
}

-- ACK of the stored peer opens the pool
pub opens_by_ack : (a : Side) (y x n : ℕ) → a.binding ≡ Closed → y ≡ a.peer → x ≡ a.own
    → ChangesHead a (record a { number = 1; known = 1; binding = Unused }) (last_of (Hello Upstream Ack y x n) ∷ [])
    []
opens_by_ack a y x n is known meant h = record {
  later = λ z p r. grind arith;
  both_later = λ z w p q p' q' r s t. grind arith;
  after = λ z p p' r. grind arith;
  inside = record { each = grind arith; order = grind arith };
}

-- a good ACK says a next number
pub learns : (a : Side) (y x n : ℕ) → IsOpened a.binding → y ≡ a.peer → x ≡ a.own
    → ChangesHead a (record a { known = n }) (last_of (Hello Upstream Ack y x n) ∷ []) []
learns a y x n is known meant h = record {
  later = λ z p r. grind arith;
  both_later = λ z w p q p' q' r s t. grind arith;
  after = λ z p p' r. grind arith;
  inside = record { each = grind arith; order = grind arith };
}

-- and that isn't above the own one
pub learns_below : (a : Side) (y x n : ℕ) → IsOpened a.binding → y ≡ a.peer → x ≡ a.own
    → Fits a (last_of (Hello Upstream Ack y x n)) → n ≤ a.number
learns_below a y x n is known meant p = grind arith

-- before its pool opens a peer can only have said 1
pub says_one : (a : Side) (y x n : ℕ) → a.binding ≡ Closed → x ≡ a.own
    → Fits a (last_of (Hello Upstream Ack y x n)) → n ≡ 1
says_one a y x n is meant p = grind arith

-- the label is quit
pub quits_fits : (a : Side) (l : ℕ) → a.binding ≡ InRecall l true → l < a.known
    → (z : Cell) → Fits a z → Fits (record a { binding = Unused }) z
quits_fits a l is passed z p = grind arith

pub quits_before : (a : Side) (l : ℕ) → a.binding ≡ InRecall l true → l < a.known
    → (z w : Cell) → Fits a z → Fits a w → Before a z w → Before (record a { binding = Unused }) z w
quits_before a l is passed z w p q r = grind arith

-- a closed pool: its peer changes
pub stores_fits : (a : Side) (y : ℕ) → a.binding ≡ Closed
    → (z : Cell) → Fits a z → Fits (record a { peer = y }) z
stores_fits a y is z p = grind arith

pub stores_before : (a : Side) (y : ℕ) → a.binding ≡ Closed
    → (z w : Cell) → Fits a z → Fits a w → Before a z w → Before (record a { peer = y }) z w
stores_before a y is z w p q r = grind arith

-- a reset: a new instance, and the pool is closed
pub closes_fits : (a : Side) (d : ℕ) → a.own < d
    → (z : Cell) → Fits a z → Fits (record a { own = d; peer = 0; number = 1; known = 1; binding = Closed }) z
closes_fits a d newer z p = grind arith

pub closes_before : (a : Side) (d : ℕ) → a.own < d
    → (z w : Cell) → Fits a z → Fits a w → Before a z w → Before
    (record a { own = d; peer = 0; number = 1; known = 1; binding = Closed }) z w
closes_before a d newer z w p q r = grind arith

-- the downstream port is cleared under one more instance
pub clears_down_fits : (a : Side) (down : ℕ → Bool) → ((i : ℕ) → a.down i ≡ true → down i ≡ true)
    → (z : Cell) → Fits a z → Fits (record a { down = down }) z
clears_down_fits a down more z p = grind arith

pub clears_down_before : (a : Side) (down : ℕ → Bool) → ((i : ℕ) → a.down i ≡ true → down i ≡ true)
    → (z w : Cell) → Fits a z → Fits a w → Before a z w → Before (record a { down = down }) z w
clears_down_before a down more z w p q r = grind arith

-- the upstream port is cleared under one more instance
pub clears_up_fits : (a : Side) (up : ℕ → Bool) → ((i : ℕ) → a.up i ≡ true → up i ≡ true)
    → (z : Cell) → Fits a z → Fits (record a { up = up }) z
clears_up_fits a up more z p = grind arith

pub clears_up_before : (a : Side) (up : ℕ → Bool) → ((i : ℕ) → a.up i ≡ true → up i ≡ true)
    → (z w : Cell) → Fits a z → Fits a w → Before a z w → Before (record a { up = up }) z w
clears_up_before a up more z w p q r = grind arith
