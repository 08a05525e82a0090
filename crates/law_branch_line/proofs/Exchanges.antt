-- the exchanges: each thing that happens, as a change of one short stretch of the trip. They are
-- facts of the two tables alone

use Rattle.std.proofs.Common.{◌≡◌, ℕ, ◌+◌, ◌<◌, Option, None, List, [], ◌∷◌, arith}
use Rattle.net_types.specs.declared.channel.End.{End}
use Rattle.net_types.specs.declared.adjacency.HelloKind.{HelloKind}
use Rattle.net_types.specs.declared.adjacency.HelloKind.TheVariants.{Syn, Synack, Rstack, Ack}
use Rattle.adjacency_table.specs.declared.State.{State}
use Rattle.adjacency_table.specs.declared.State.TheVariants.{SynSent}
use Rattle.ordered_lists.proofs.Exchange.{Blocks, Heads, steady}
use Rattle.law_branch_line.specs.Words.{InputRequest, Request, OnInput, Elsewhere, Success, Failure, ToSwitch, ControllerGreets, Copy, SwitchGreets, Answer}
use Rattle.law_branch_line.specs.Line.{Asked, Apart, Unasked, Stands, Answered}
use Rattle.law_branch_line.specs.Switch.{branch_after}
use Rattle.law_branch_line.proofs.Trip.{Item, Up, Here, Down, Last, Fits, Before, Good, HasStored}
use Rattle.law_branch_line.proofs.Kept.{IsIn, IsNumbered}

-- xs may take the place of ys, while the controller's instance, next number and request change
abbrev pub Changes : (d k : ℕ) → Asked → (d' k' : ℕ) → Asked → (ys xs : List Item) → Type 0
Changes d k a d' k' a' ys xs =
    Good d k a ys → Blocks (Fits d k a) (Fits d' k' a') (Before a) (Before a') ys xs

-- while nothing else changes
abbrev pub Keeps : (d k : ℕ) → Asked → (ys xs : List Item) → Type 0
Keeps d k a ys xs = Changes d k a d k a ys xs

-- what the controller takes is gone, while its request and next number change
abbrev pub Takes : (d k : ℕ) → Asked → (k' : ℕ) → Asked → Item → Type 0
Takes d k a k' a' item =
    Good d k a (item ∷ []) → Heads (Fits d k a) (Fits d k' a') (Before a) (Before a') (item ∷ []) []

-- a request on the input is asked
pub asks : (d k : ℕ) (a : Asked) (p : InputRequest) → IsIn a
    → Changes d k a d (k + 1) (Stands k p) (Last ∷ []) (Down (Copy d k (OnInput p)) ∷ Last ∷ [])
asks d k a p i h = record {
  earlier = λ z p r. grind arith;
  later = λ z p r. grind arith;
  both_earlier = λ z w p q p' q' r s t. grind arith;
  around = λ z w p q p' q' r s t. grind arith;
  both_later = λ z w p q p' q' r s t. grind arith;
  before = λ z p p' r. grind arith;
  after = λ z p p' r. grind arith;
  inside = record { each = grind arith; order = grind arith };
}

-- a request that doesn't concern the input is asked
pub asks_other : (d k : ℕ) (a : Asked) (t : ℕ) → IsIn a → IsNumbered k a
    → Changes d k a d (k + 1) a (Last ∷ []) (Down (Copy d k (Elsewhere t)) ∷ Last ∷ [])
asks_other d k a t i n h = record {
  earlier = λ z p r. grind arith;
  later = λ z p r. grind arith;
  both_earlier = λ z w p q p' q' r s t. grind arith;
  around = λ z w p q p' q' r s t. grind arith;
  both_later = λ z w p q p' q' r s t. grind arith;
  before = λ z p p' r. grind arith;
  after = λ z p p' r. grind arith;
  inside = record { each = grind arith; order = grind arith };
}

-- the standing request is sent again
pub repeats : (d k m : ℕ) (p : InputRequest) → m < k
    → Keeps d k (Stands m p) (Last ∷ []) (Down (Copy d m (OnInput p)) ∷ Last ∷ [])
repeats d k m p b h =
    steady (Fits d k (Stands m p)) (Before (Stands m p)) (Last ∷ [])
    (Down (Copy d m (OnInput p)) ∷ Last ∷ []) (λ z p r. grind arith) (λ z p r. grind arith)
    (record { each = grind arith; order = grind arith })

-- another standing request is
pub repeats_other : (d k : ℕ) (a : Asked) (n t : ℕ) → Fits d k a (Down (Copy d n (Elsewhere t)))
    → Keeps d k a (Last ∷ []) (Down (Copy d n (Elsewhere t)) ∷ Last ∷ [])
repeats_other d k a n t f h =
    steady (Fits d k a) (Before a) (Last ∷ []) (Down (Copy d n (Elsewhere t)) ∷ Last ∷ [])
    (λ z p r. grind arith) (λ z p r. grind arith) (record { each = grind arith; order = grind arith })

-- an end names its own instance, but in an RSTACK
abbrev pub NamesOwn : HelloKind → (own sender : ℕ) → Type 0
NamesOwn Syn own sender = sender ≡ own
NamesOwn Synack own sender = sender ≡ own
NamesOwn Ack own sender = sender ≡ own
NamesOwn Rstack own sender = Unit {0}

-- the controller greets
pub controller_greets : (d k : ℕ) (a : Asked) (kind : HelloKind) (s r : ℕ) → 0 < d → NamesOwn kind d s
    → Keeps d k a (Last ∷ []) (Down (ControllerGreets kind s r) ∷ Last ∷ [])
controller_greets d k a kind s r b o h =
    steady (Fits d k a) (Before a) (Last ∷ []) (Down (ControllerGreets kind s r) ∷ Last ∷ [])
    (λ z p r. grind arith) (λ z p r. grind arith) (record { each = grind arith; order = grind arith })

-- Estab is entered by a greeting that names the own instance
abbrev pub MayOpen : HelloKind → Type 0
MayOpen Syn = ⊥
MayOpen Synack = Unit {0}
MayOpen Rstack = ⊥
MayOpen Ack = Unit {0}

pub enters_by : (d k : ℕ) (kind : HelloKind) (s r : ℕ) → MayOpen kind → r ≡ d
    → Takes d k Apart 1 Unasked (Up (SwitchGreets kind s r))
enters_by d k kind s r o e h = record {
  later = λ z p r. grind arith;
  both_later = λ z w p q p' q' r s t. grind arith;
  after = λ z p p' r. grind arith;
  inside = record { each = grind arith; order = grind arith };
}

-- the standing request of the input is answered
pub input_is_answered : (d k m x n : ℕ) (p : InputRequest) (q : Request) → n ≡ m
    → Takes d k (Stands m p) k (Answered m p) (Up (Answer x n q Success))
input_is_answered d k m x n p q e h = record {
  later = λ z p r. grind arith;
  both_later = λ z w p q p' q' r s t. grind arith;
  after = λ z p p' r. grind arith;
  inside = record { each = grind arith; order = grind arith };
}

-- the node draws a new instance
pub node_resets : (d k d' k' : ℕ) (a : Asked) → d < d' → Changes d k a d' k' Apart (Last ∷ []) (Last ∷ [])
node_resets d k d' k' a b h = record {
  earlier = λ z p r. grind arith;
  later = λ z p r. grind arith;
  both_earlier = λ z w p q p' q' r s t. grind arith;
  around = λ z w p q p' q' r s t. grind arith;
  both_later = λ z w p q p' q' r s t. grind arith;
  before = λ z p p' r. grind arith;
  after = λ z p p' r. grind arith;
  inside = record { each = grind arith; order = grind arith };
}

-- a switch names what it has stored, in a SYNACK and an ACK
abbrev pub NamesStored : HelloKind → (stored receiver : ℕ) → Type 0
NamesStored Syn stored receiver = Unit {0}
NamesStored Synack stored receiver = receiver ≡ stored
NamesStored Ack stored receiver = receiver ≡ stored
NamesStored Rstack stored receiver = Unit {0}

-- the switch greets
pub switch_greets : (d k : ℕ) (a : Asked) (y : ℕ) (st : State) (b : Option End) (kind : HelloKind) (s r : ℕ)
    → NamesStored kind y r → Keeps d k a (Here y st b ∷ []) (Up (SwitchGreets kind s r) ∷ Here y st b ∷ [])
switch_greets d k a y st b kind s r o h =
    steady (Fits d k a) (Before a) (Here y st b ∷ []) (Up (SwitchGreets kind s r) ∷ Here y st b ∷ [])
    (λ z p r. grind arith) (λ z p r. grind arith) (record { each = grind arith; order = grind arith })

-- it stores the sender of a SYN or a SYNACK
abbrev pub MayBeStored : HelloKind → Type 0
MayBeStored Syn = Unit {0}
MayBeStored Synack = Unit {0}
MayBeStored Rstack = ⊥
MayBeStored Ack = ⊥

pub switch_stores : (d k : ℕ) (a : Asked) (y : ℕ) (st st' : State) (b : Option End) (kind : HelloKind)
    (s r : ℕ)
    → MayBeStored kind
    → Keeps d k a (Here y st b ∷ Down (ControllerGreets kind s r) ∷ []) (Here s st' b ∷ [])
switch_stores d k a y st st' b kind s r o h =
    steady (Fits d k a) (Before a) (Here y st b ∷ Down (ControllerGreets kind s r) ∷ []) (Here s st' b ∷ [])
    (λ z p r. grind arith) (λ z p r. grind arith) (record { each = grind arith; order = grind arith })

-- it takes a message, and changes at most its state
pub switch_goes_on : (d k : ℕ) (a : Asked) (y : ℕ) (st st' : State) (b : Option End) (m : ToSwitch)
    → (HasStored st y → HasStored st' y) → Keeps d k a (Here y st b ∷ Down m ∷ []) (Here y st' b ∷ [])
switch_goes_on d k a y st st' b m f h =
    steady (Fits d k a) (Before a) (Here y st b ∷ Down m ∷ []) (Here y st' b ∷ []) (λ z p r. grind arith)
    (λ z p r. grind arith) (let stored : HasStored st' y = f h.each.0.1 in record
    { each = grind arith; order = grind arith })

-- it is reset
pub switch_resets : (d k : ℕ) (a : Asked) (y : ℕ) (st : State) (b : Option End)
    → Keeps d k a (Here y st b ∷ []) (Here 0 SynSent b ∷ [])
switch_resets d k a y st b h =
    steady (Fits d k a) (Before a) (Here y st b ∷ []) (Here 0 SynSent b ∷ []) (λ z p r. grind arith)
    (λ z p r. grind arith) (record { each = grind arith; order = grind arith })

-- the branch ends
pub branch_ends : (d k : ℕ) (a : Asked) (y : ℕ) (st : State) (b : Option End)
    → Keeps d k a (Here y st b ∷ []) (Here y st None ∷ [])
branch_ends d k a y st b h =
    steady (Fits d k a) (Before a) (Here y st b ∷ []) (Here y st None ∷ []) (λ z p r. grind arith)
    (λ z p r. grind arith) (record { each = grind arith; order = grind arith })

-- the switch carries a request out
pub request_succeeds : (d k : ℕ) (a : Asked) (y : ℕ) (st : State) (b : Option End) (x n : ℕ) (q : Request)
    → Keeps d k a (Here y st b ∷ Down (Copy x n q) ∷ [])
    (Up (Answer x n q Success) ∷ Here y st (branch_after q b) ∷ [])
request_succeeds d k a y st b x n q h =
    steady (Fits d k a) (Before a) (Here y st b ∷ Down (Copy x n q) ∷ [])
    (Up (Answer x n q Success) ∷ Here y st (branch_after q b) ∷ []) (λ z p r. grind arith)
    (λ z p r. grind arith) (record { each = grind arith; order = grind arith })

-- it refuses one
pub request_fails : (d k : ℕ) (a : Asked) (y : ℕ) (st : State) (b : Option End) (x n : ℕ) (q : Request)
    → Keeps d k a (Here y st b ∷ Down (Copy x n q) ∷ []) (Up (Answer x n q Failure) ∷ Here y st b ∷ [])
request_fails d k a y st b x n q h =
    steady (Fits d k a) (Before a) (Here y st b ∷ Down (Copy x n q) ∷ [])
    (Up (Answer x n q Failure) ∷ Here y st b ∷ []) (λ z p r. grind arith) (λ z p r. grind arith)
    (record { each = grind arith; order = grind arith })
