-- what the upstream end does, as exchanges of a stretch of the line: u is its instance, x the one that
-- it stored, and e the number that it expects

use Rattle.std.proofs.Common.{◌≡◌, ℕ, ◌+◌, ◌≤◌, true, false, [], ◌∷◌, arith}
use Rattle.net_types.specs.declared.adjacency.HelloKind.{HelloKind}
use Rattle.net_types.specs.declared.adjacency.HelloKind.TheVariants.{Syn, Synack, Rstack, Ack}
use Rattle.ordered_lists.proofs.Exchange.{steady}
use Rattle.law_label_line.specs.Cells.{Downstream, Upstream, Message, Hello, Redirect, Reclaim, ReclaimAck, Other, Labelled, Default}
use Rattle.law_label_line.proofs.Tables.{last_of, up_silent, up_syn, up_synack, up_ack, Side, Changes}

-- the first cell of a frame joins its last
pub first_cell : (a : Side) (m : Message)
    → Changes a a (last_of m ∷ []) (Default false m ∷ last_of m ∷ [])
first_cell a m h = steady _ _ _ _ (λ z p r. grind arith) (λ z p r. grind arith)
    (record { each = grind arith; order = grind arith })

-- it says what it may say
pub says_again : (a : Side) (k : HelloKind) (u x e : ℕ)
    → Changes a a (last_of (Hello Upstream k u x e) ∷ [])
    (last_of (Hello Upstream k u x e) ∷ last_of (Hello Upstream k u x e) ∷ [])
says_again a k u x e h = steady _ _ _ _ (λ z p r. grind arith) (λ z p r. grind arith)
    (record { each = grind arith; order = grind arith })

-- it answers RSTACK
pub denies : (a : Side) (k : HelloKind) (u x e s r : ℕ)
    → Changes a a (last_of (Hello Upstream k u x e) ∷ [])
    (last_of (Hello Upstream Rstack s r 0) ∷ last_of (Hello Upstream k u x e) ∷ [])
denies a k u x e s r h = steady _ _ _ _ (λ z p r. grind arith) (λ z p r. grind arith)
    (record { each = grind arith; order = grind arith })

-- SYN makes it store its peer
pub stores_first : (a : Side) (u e x y n : ℕ)
    → Changes a a (up_syn u ∷ last_of (Hello Downstream Syn x y n) ∷ []) (up_synack u x e ∷ [])
stores_first a u e x y n h = steady _ _ _ _ (λ z p r. grind arith) (λ z p r. grind arith)
    (record { each = grind arith; order = grind arith })

-- and so does a further one
pub stores_next : (a : Side) (u z e x y n : ℕ)
    → Changes a a (up_synack u z e ∷ last_of (Hello Downstream Syn x y n) ∷ []) (up_synack u x e ∷ [])
stores_next a u z e x y n h = steady _ _ _ _ (λ z p r. grind arith) (λ z p r. grind arith)
    (record { each = grind arith; order = grind arith })

-- SYNACK makes it enter Estab
pub enters_first : (a : Side) (u x y n : ℕ) → 1 ≤ a.number
    → Changes a a (up_syn u ∷ last_of (Hello Downstream Synack x y n) ∷ []) (up_ack u x 1 ∷ [])
enters_first a u x y n positive h = steady _ _ _ _ (λ z p r. grind arith) (λ z p r. grind arith)
    (record { each = grind arith; order = grind arith })

-- also after a SYN
pub enters_next : (a : Side) (u z e x y n : ℕ) → 1 ≤ a.number
    → Changes a a (up_synack u z e ∷ last_of (Hello Downstream Synack x y n) ∷ []) (up_ack u x 1 ∷ [])
enters_next a u z e x y n positive h = steady _ _ _ _ (λ z p r. grind arith) (λ z p r. grind arith)
    (record { each = grind arith; order = grind arith })

-- ACK makes it enter Estab
pub enters_confirmed : (a : Side) (u z e x y n : ℕ) → 1 ≤ a.number
    → Changes a a (up_synack u z e ∷ last_of (Hello Downstream Ack x y n) ∷ []) (up_ack u z 1 ∷ [])
enters_confirmed a u z e x y n positive h = steady _ _ _ _ (λ z p r. grind arith) (λ z p r. grind arith)
    (record { each = grind arith; order = grind arith })

-- a reset makes it silent
pub falls_silent : (a : Side) (k : HelloKind) (u x e : ℕ)
    → Changes a a (last_of (Hello Upstream k u x e) ∷ []) (up_silent ∷ [])
falls_silent a k u x e h = steady _ _ _ _ (λ z p r. grind arith) (λ z p r. grind arith)
    (record { each = grind arith; order = grind arith })

-- its port is cleared
pub greets_first : (a : Side) (u : ℕ) → a.up u ≡ true
    → Changes a a (up_silent ∷ []) (up_syn u ∷ [])
greets_first a u cleared h = steady _ _ _ _ (λ z p r. grind arith) (λ z p r. grind arith)
    (record { each = grind arith; order = grind arith })

-- where only the number of a REDIRECT counts, it is as any other
pub numbers_redirect : (a : Side) (x u n f : ℕ)
    → Changes a a (last_of (Redirect x u n f) ∷ []) (last_of (Other x u n) ∷ [])
numbers_redirect a x u n f h = steady _ _ _ _ (λ z p r. grind arith) (λ z p r. grind arith)
    (record { each = grind arith; order = grind arith })

-- where only the number of a RECLAIM counts, it is as any other
pub numbers_reclaim : (a : Side) (x u n f : ℕ)
    → Changes a a (last_of (Reclaim x u n f) ∷ []) (last_of (Other x u n) ∷ [])
numbers_reclaim a x u n f h = steady _ _ _ _ (λ z p r. grind arith) (λ z p r. grind arith)
    (record { each = grind arith; order = grind arith })

-- it takes the number of a message
pub takes_number : (a : Side) (u x e r w n : ℕ) → w ≡ u → r ≡ x
    → Changes a a (up_ack u x e ∷ last_of (Other r w n) ∷ []) (up_ack u x (n + 1) ∷ [])
takes_number a u x e r w n meant known h = steady _ _ _ _ (λ z p r. grind arith) (λ z p r. grind arith)
    (record { each = grind arith; order = grind arith })

-- beside a grant
pub takes_number_granted : (a : Side) (u x e r w n g : ℕ) → w ≡ u → r ≡ x
    → Changes a a (up_ack u x e ∷ Labelled g ∷ last_of (Other r w n) ∷ []) (up_ack u x (n + 1) ∷ Labelled g ∷ [])
takes_number_granted a u x e r w n g meant known h = steady _ _ _ _ (λ z p r. grind arith) (λ z p r. grind arith)
    (record { each = grind arith; order = grind arith })

-- beside a grant that owes a RECLAIM ACK, which may be late from now on
pub takes_number_owed : (a : Side) (u x e r w n g : ℕ) → w ≡ u → r ≡ x
    → Changes a (record a { late = true })
    (up_ack u x e ∷ Labelled g ∷ last_of (ReclaimAck u x g) ∷ last_of (Other r w n) ∷ [])
    (up_ack u x (n + 1) ∷ Labelled g ∷ last_of (ReclaimAck u x g) ∷ [])
takes_number_owed a u x e r w n g meant known h = record {
  earlier = λ z p r. grind arith;
  later = λ z p r. grind arith;
  both_earlier = λ z w p q p' q' r s t. grind arith;
  around = λ z w p q p' q' r s t. grind arith;
  both_later = λ z w p q p' q' r s t. grind arith;
  before = λ z p p' r. grind arith;
  after = λ z p p' r. grind arith;
  inside = record { each = grind arith; order = grind arith };
}

-- REDIRECT makes a grant
pub accepts : (a : Side) (u x e r w n f : ℕ) → w ≡ u → r ≡ x
    → Changes a a (up_ack u x e ∷ last_of (Redirect r w n f) ∷ []) (up_ack u x (n + 1) ∷ Labelled f ∷ [])
accepts a u x e r w n f meant known h = steady _ _ _ _ (λ z p r. grind arith) (λ z p r. grind arith)
    (record { each = grind arith; order = grind arith })

-- RECLAIM is acknowledged where there is no grant
pub acknowledges_none : (a : Side) (u x e r w n f : ℕ) → w ≡ u → r ≡ x
    → Changes a (record a { late = false }) (up_ack u x e ∷ last_of (Reclaim r w n f) ∷ [])
    (last_of (ReclaimAck u x f) ∷ up_ack u x (n + 1) ∷ [])
acknowledges_none a u x e r w n f meant known h = record {
  earlier = λ z p r. grind arith;
  later = λ z p r. grind arith;
  both_earlier = λ z w p q p' q' r s t. grind arith;
  around = λ z w p q p' q' r s t. grind arith;
  both_later = λ z w p q p' q' r s t. grind arith;
  before = λ z p p' r. grind arith;
  after = λ z p p' r. grind arith;
  inside = record { each = grind arith; order = grind arith };
}

-- RECLAIM ends a grant without a join, and is acknowledged
pub acknowledges_grant : (a : Side) (u x e r w n f g : ℕ) → w ≡ u → r ≡ x
    → Changes a (record a { late = false }) (up_ack u x e ∷ Labelled g ∷ last_of (Reclaim r w n f) ∷ [])
    (last_of (ReclaimAck u x f) ∷ up_ack u x (n + 1) ∷ [])
acknowledges_grant a u x e r w n f g meant known h = record {
  earlier = λ z p r. grind arith;
  later = λ z p r. grind arith;
  both_earlier = λ z w p q p' q' r s t. grind arith;
  around = λ z w p q p' q' r s t. grind arith;
  both_later = λ z w p q p' q' r s t. grind arith;
  before = λ z p p' r. grind arith;
  after = λ z p p' r. grind arith;
  inside = record { each = grind arith; order = grind arith };
}

-- RECLAIM of a grant with a join: RECLAIM ACK is owed
pub owes : (a : Side) (u x e r w n f g : ℕ) → w ≡ u → r ≡ x → f ≡ g
    → Changes a (record a { late = true }) (up_ack u x e ∷ Labelled g ∷ last_of (Reclaim r w n f) ∷ [])
    (up_ack u x (n + 1) ∷ Labelled g ∷ last_of (ReclaimAck u x g) ∷ [])
owes a u x e r w n f g meant known same h = record {
  earlier = λ z p r. grind arith;
  later = λ z p r. grind arith;
  both_earlier = λ z w p q p' q' r s t. grind arith;
  around = λ z w p q p' q' r s t. grind arith;
  both_later = λ z w p q p' q' r s t. grind arith;
  before = λ z p p' r. grind arith;
  after = λ z p p' r. grind arith;
  inside = record { each = grind arith; order = grind arith };
}

-- the join is released, and RECLAIM ACK is sent
pub pays : (a : Side) (u x e g : ℕ)
    → Changes a a (up_ack u x e ∷ Labelled g ∷ last_of (ReclaimAck u x g) ∷ [])
    (last_of (ReclaimAck u x g) ∷ up_ack u x e ∷ [])
pays a u x e g h = steady _ _ _ _ (λ z p r. grind arith) (λ z p r. grind arith)
    (record { each = grind arith; order = grind arith })
