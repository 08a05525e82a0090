-- the trip: all that can still matter to the input, in one list, from what the controller takes next
-- to what it said last; and the invariant, as what each item and each two of them must be

use Rattle.std.proofs.Common.{◌≡◌, ℕ, ◌<◌, ◌≤◌, Option, None, List, [], ◌∷◌, ◌++◌, map, ◌⊎◌}
use Rattle.net_types.specs.declared.channel.End.{End}
use Rattle.net_types.specs.declared.adjacency.HelloKind.{HelloKind}
use Rattle.net_types.specs.declared.adjacency.HelloKind.TheVariants.{Syn, Synack, Rstack, Ack}
use Rattle.adjacency_table.specs.declared.State.{State}
use Rattle.adjacency_table.specs.declared.State.TheVariants.{Clearing, SynSent, SynRcvd, Estab}
use Rattle.ordered_lists.specs.Ordered.{Holds}
use Rattle.law_branch_line.specs.Words.{InputRequest, Request, OnInput, Elsewhere, asked_branch, Outcome, Success, Failure, ToSwitch, ControllerGreets, Copy, ToController, SwitchGreets, Answer}
use Rattle.law_branch_line.specs.Line.{Asked, Apart, Unasked, Stands, Answered, Switch, Line, way_to_switch, way_to_controller}

-- an answer or a greeting to the controller, what the switch has stored and its branch, a message to
-- the switch, the end
pub data Item : Type 0 where
  Up : ToController → Item
  Here : (stored : ℕ) → State → Option End → Item
  Down : ToSwitch → Item
  Last : Item

-- d is the controller's own instance, k its next number, a what it has asked on the input

-- a request that concerns the input has a number up to this one
abbrev pub UpTo : Request → (number most : ℕ) → Type 0
UpTo (OnInput request) number most = number ≤ most
UpTo (Elsewhere other) number most = Unit {0}

-- it is this one, under this number
abbrev pub IsThis : Request → ℕ → InputRequest → ℕ → Type 0
IsThis (OnInput request) number this its_number = (number ≡ its_number) × (request ≡ this)
IsThis (Elsewhere other) number this its_number = Unit {0}

abbrev pub IsElsewhere : Request → Type 0
IsElsewhere (OnInput request) = ⊥
IsElsewhere (Elsewhere other) = Unit {0}

-- a copy under x with number n may be on its way to the switch
abbrev pub MayCopy : (d k : ℕ) → Asked → (x n : ℕ) → Request → Type 0
MayCopy d k Apart x n q = x < d
MayCopy d k Unasked x n q = (x ≡ d) × (n < k) × IsElsewhere q
MayCopy d k (Stands m p) x n q = (x ≡ d) × (n < k) × (n ≡ m → q ≡ OnInput p) × UpTo q n m
MayCopy d k (Answered m p) x n q = (x ≡ d) × (n < k) × IsThis q n p m

-- so may an answer
abbrev pub MayAnswer : (d k : ℕ) → Asked → (x n : ℕ) → Request → Type 0
MayAnswer d k Apart x n q = x < d
MayAnswer d k Unasked x n q = (x ≡ d) × (n < k)
MayAnswer d k (Stands m p) x n q = (x ≡ d) × (n < k) × (n ≡ m → q ≡ OnInput p) × UpTo q n m
MayAnswer d k (Answered m p) x n q = (x ≡ d) × (n < k)

-- the switch may have stored y; a greeting of the controller may name its instance y
abbrev pub MayStore : (d : ℕ) → Asked → (y : ℕ) → Type 0
MayStore d Apart y = Unit {0}
MayStore d Unasked y = 0 < y → y ≡ d
MayStore d (Stands m p) y = 0 < y → y ≡ d
MayStore d (Answered m p) y = 0 < y → y ≡ d

abbrev pub HasStored : State → ℕ → Type 0
HasStored Clearing y = Unit {0}
HasStored SynSent y = Unit {0}
HasStored SynRcvd y = 0 < y
HasStored Estab y = 0 < y

abbrev pub MayBranch : Asked → Option End → Type 0
MayBranch Apart b = Unit {0}
MayBranch Unasked b = Unit {0}
MayBranch (Stands m p) b = Unit {0}
MayBranch (Answered m p) b = (b ≡ None) ⊎ (b ≡ asked_branch p)

-- a greeting that names the instance of the controller that its sender knows, or of its sender
abbrev pub MayEcho : HelloKind → (d r : ℕ) → Type 0
MayEcho Syn d r = Unit {0}
MayEcho Synack d r = r ≤ d
MayEcho Ack d r = r ≤ d
MayEcho Rstack d r = Unit {0}

abbrev pub MayGreet : HelloKind → (d : ℕ) → Asked → (s : ℕ) → Type 0
MayGreet Syn d a s = (0 < s) × (s ≤ d) × MayStore d a s
MayGreet Synack d a s = (0 < s) × (s ≤ d) × MayStore d a s
MayGreet Ack d a s = (0 < s) × (s ≤ d) × MayStore d a s
MayGreet Rstack d a s = Unit {0}

abbrev pub Fits : (d k : ℕ) → Asked → Item → Type 0
Fits d k a (Up (SwitchGreets kind s r)) = MayEcho kind d r
Fits d k a (Up (Answer x n q o)) = (x ≤ d) × MayAnswer d k a x n q
Fits d k a (Here y state b) = (y ≤ d) × HasStored state y × MayStore d a y × MayBranch a b
Fits d k a (Down (ControllerGreets kind s r)) = MayGreet kind d a s
Fits d k a (Down (Copy x n q)) = (x ≤ d) × MayCopy d k a x n q
Fits d k a Last = Unit {0}

-- the instance r is named up to what stands behind
abbrev pub Named : (r : ℕ) → Item → Type 0
Named r (Up (SwitchGreets kind s r')) = Unit {0}
Named r (Up (Answer x n q o)) = r ≤ x
Named r (Here y state b) = 0 < y → r ≤ y
Named r (Down (ControllerGreets Syn s r')) = r ≤ s
Named r (Down (ControllerGreets Synack s r')) = r ≤ s
Named r (Down (ControllerGreets Ack s r')) = r ≤ s
Named r (Down (ControllerGreets Rstack s r')) = Unit {0}
Named r (Down (Copy x n q)) = r ≤ x
Named r Last = Unit {0}

-- numbers of requests that concern the input rise
abbrev pub Rises : Request → ℕ → Request → ℕ → Type 0
Rises (OnInput request) n (OnInput later) n' = n ≤ n'
Rises (OnInput request) n (Elsewhere later) n' = Unit {0}
Rises (Elsewhere other) n q' n' = Unit {0}

-- the success of the standing request: the branch is as it asked, or none
abbrev pub Effected : Asked → (n : ℕ) → Outcome → Option End → Type 0
Effected Apart n o b = Unit {0}
Effected Unasked n o b = Unit {0}
Effected (Stands m p) n Success b = n ≡ m → (b ≡ None) ⊎ (b ≡ asked_branch p)
Effected (Stands m p) n Failure b = Unit {0}
Effected (Answered m p) n o b = Unit {0}

abbrev pub AfterAnswer : Asked → (x n : ℕ) → Request → Outcome → Item → Type 0
AfterAnswer a x n q o (Up message) = Unit {0}
AfterAnswer a x n q o (Here y state b) = Effected a n o b
AfterAnswer a x n q o (Down (ControllerGreets kind s r)) = Unit {0}
AfterAnswer a x n q o (Down (Copy x' n' q')) = x ≡ x' → Rises q n q' n'
AfterAnswer a x n q o Last = Unit {0}

-- what stands behind the switch, or behind a greeting of the controller
abbrev pub AfterStored : (y : ℕ) → Item → Type 0
AfterStored y (Up message) = ⊥
AfterStored y (Here y' state b) = ⊥
AfterStored y (Down (ControllerGreets Syn s r)) = y ≤ s
AfterStored y (Down (ControllerGreets Synack s r)) = y ≤ s
AfterStored y (Down (ControllerGreets Ack s r)) = y ≤ s
AfterStored y (Down (ControllerGreets Rstack s r)) = Unit {0}
AfterStored y (Down (Copy x n q)) = 0 < y → y ≡ x
AfterStored y Last = Unit {0}

abbrev pub IsBehind : Item → Type 0
IsBehind (Up message) = ⊥
IsBehind (Here y state b) = ⊥
IsBehind (Down message) = Unit {0}
IsBehind Last = Unit {0}

abbrev pub AfterCopy : (x n : ℕ) → Request → Item → Type 0
AfterCopy x n q (Up message) = ⊥
AfterCopy x n q (Here y state b) = ⊥
AfterCopy x n q (Down (ControllerGreets kind s r)) = Unit {0}
AfterCopy x n q (Down (Copy x' n' q')) = x ≡ x' → Rises q n q' n'
AfterCopy x n q Last = Unit {0}

abbrev pub Before : Asked → Item → Item → Type 0
Before a (Up (SwitchGreets Syn s r)) z = Unit {0}
Before a (Up (SwitchGreets Synack s r)) z = Named r z
Before a (Up (SwitchGreets Ack s r)) z = Named r z
Before a (Up (SwitchGreets Rstack s r)) z = Unit {0}
Before a (Up (Answer x n q o)) z = AfterAnswer a x n q o z
Before a (Here y state b) z = AfterStored y z
Before a (Down (ControllerGreets Syn s r)) z = AfterStored s z
Before a (Down (ControllerGreets Synack s r)) z = AfterStored s z
Before a (Down (ControllerGreets Ack s r)) z = AfterStored s z
Before a (Down (ControllerGreets Rstack s r)) z = IsBehind z
Before a (Down (Copy x n q)) z = AfterCopy x n q z
Before a Last z = ⊥

abbrev pub Good : (d k : ℕ) → Asked → List Item → Type 0
Good d k a items = Holds (Fits d k a) (Before a) items

abbrev pub here : Switch → Item
here s = Here s.adjacency.stored s.adjacency.state s.branch

-- the trip of a line whose switch takes these messages first
abbrev pub trip_after : List ToSwitch → Line → List Item
trip_after first w =
    map Up (way_to_controller w) ++ (here w.switch ∷ (map Down (first ++ way_to_switch w) ++ (Last ∷ [])))

abbrev pub trip : Line → List Item
trip w = trip_after [] w
