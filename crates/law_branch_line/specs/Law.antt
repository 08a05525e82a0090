-- the law of one input of a switch, over a control link that loses

use Rattle.std.specs.Prelude.{◌≡◌, ℕ, ◌<◌, ◌≤◌, true, List, Option, None, ◌⊎◌}
use Rattle.net_types.specs.declared.channel.End.{End}
use Rattle.adjacency_table.specs.declared.State.TheVariants.{Estab}
use Rattle.adjacency_table.specs.Instances.{SideByInstances}
use Rattle.ordered_lists.specs.Ordered.{Every, InOrder}
use Rattle.law_branch_line.specs.Words.{DeleteAll, OnInput, asked_branch, ToSwitch, ControllerGreets, Copy, ToController, SwitchGreets, Answer}
use Rattle.law_branch_line.specs.Line.{Asked, Apart, Unasked, Stands, Answered, Listing, Met, Line, way_to_switch, way_to_controller, start}
use Rattle.law_branch_line.specs.Switch.{takes_requests}
use Rattle.law_branch_line.specs.Moves.{Move, run}

-- P holds after every list of moves from the opening, of every switch, whatever instances both ends
-- drew first
abbrev pub Always : (Line → Type 0) → Type 0
Always P =
    (controller switch fresh ports_before ports_behind : ℕ)
    → 0 < controller → controller < fresh → switch < fresh
    → (moves : List Move) → P (run (start controller switch fresh ports_before ports_behind) moves)

-- a line that moves lead to
pub record IsReached (w : Line) : Type 0 where
  pub controller : ℕ
  pub switch : ℕ
  pub fresh : ℕ
  pub ports_before : ℕ
  pub ports_behind : ℕ
  pub positive : 0 < controller
  pub controller_drawn : controller < fresh
  pub switch_drawn : switch < fresh
  pub moves : List Move
  pub is : run (start controller switch fresh ports_before ports_behind) moves ≡ w

-- where nothing stands that concerns the input, a copy that concerns it is of the one request that
-- was answered last
abbrev pub IsOfTheLast : Asked → ToSwitch → Type 0
IsOfTheLast (Answered number request) (Copy under copied (OnInput repeated)) =
    (copied ≡ number) × (repeated ≡ request)
IsOfTheLast Unasked (Copy under copied (OnInput repeated)) = ⊥
IsOfTheLast asked message = Unit {0}

-- and the branch is none, or what that request asked for
abbrev pub IsAskedFor : Asked → Option End → Type 0
IsAskedFor (Answered number request) branch = (branch ≡ None) ⊎ (branch ≡ asked_branch request)
IsAskedFor Apart branch = ⊥
IsAskedFor asked branch = Unit {0}

pub record IsSettled (w : Line) : Type 0 where
  pub copies : Every (IsOfTheLast w.controller.asked) (way_to_switch w)
  pub branch : IsAskedFor w.controller.asked w.switch.branch

abbrev pub IsSettledInEstab : Line → Type 0
IsSettledInEstab w = w.controller.adjacency.state ≡ Estab → IsSettled w

-- an answer with the number of the standing request was made from a copy of that request
abbrev pub IsOfTheStanding : Asked → ToController → Type 0
IsOfTheStanding (Stands number request) (Answer under answered repeated outcome) =
    answered ≡ number → repeated ≡ OnInput request
IsOfTheStanding asked message = Unit {0}

abbrev pub AnswersTellTrue : Line → Type 0
AnswersTellTrue w = Every (IsOfTheStanding w.controller.asked) (way_to_controller w)

-- what was asked under another instance
abbrev pub IsAskedUnder : (instance : ℕ) → ToSwitch → Type 0
IsAskedUnder instance (ControllerGreets kind sender receiver) = Unit {0}
IsAskedUnder instance (Copy under number request) = under ≡ instance

abbrev pub IsAnsweredUnder : (instance : ℕ) → ToController → Type 0
IsAnsweredUnder instance (SwitchGreets kind sender receiver) = Unit {0}
IsAnsweredUnder instance (Answer under number request outcome) = under ≡ instance

-- no request that the controller sent before it entered Estab is on the way, and no answer to one.
-- (It draws an instance before it enters Estab, and keeps it while it is there.)
pub record HasOnlyNew (w : Line) : Type 0 where
  pub requests : Every (IsAskedUnder w.controller.adjacency.own) (way_to_switch w)
  pub answers : Every (IsAnsweredUnder w.controller.adjacency.own) (way_to_controller w)

abbrev pub HasOnlyNewInEstab : Line → Type 0
HasOnlyNewInEstab w = w.controller.adjacency.state ≡ Estab → HasOnlyNew w

-- Delete All was answered last
abbrev pub IsEmptied : Asked → Type 0
IsEmptied (Answered number DeleteAll) = Unit {0}
IsEmptied asked = ⊥

-- where the switch is met, and nothing was asked since on the input, the input has no branch; what
-- was answered last is Delete All
abbrev pub IsEmptyWhenMet : Line → Type 0
IsEmptyWhenMet w =
    w.controller.meeting ≡ Met
    → (w.switch.branch ≡ None) × IsEmptied w.controller.asked

-- what a switch takes was asked under the instance that it has stored
abbrev pub TakesItsControllers : Line → Type 0
TakesItsControllers w =
    takes_requests w.switch.adjacency.state ≡ true
    → Every (IsAskedUnder w.switch.adjacency.stored) (way_to_switch w)

-- of the copies that concern the input and were asked under one instance the numbers never fall, from what the switch takes
-- next to what was said last: so each copy of a request stands before those of the request that followed it on the input
abbrev pub IsNoLower : (under number : ℕ) → ToSwitch → Type 0
IsNoLower under number (Copy other later (OnInput request)) = other ≡ under → number ≤ later
IsNoLower under number message = Unit {0}

abbrev pub IsBefore : (earlier later : ToSwitch) → Type 0
IsBefore (Copy under number (OnInput request)) later = IsNoLower under number later
IsBefore earlier later = Unit {0}

abbrev pub CopiesAreInOrder : Line → Type 0
CopiesAreInOrder w = InOrder IsBefore (way_to_switch w)

-- *Instances* are drawn in order: each that an end has, has stored or names is below the next one
abbrev pub IsDrawn : (fresh : ℕ) → SideByInstances → Type 0
IsDrawn fresh side = (side.own < fresh) × (side.stored < fresh)

abbrev pub NamesDrawn : (fresh : ℕ) → ToSwitch → Type 0
NamesDrawn fresh (ControllerGreets kind sender receiver) = (sender < fresh) × (receiver < fresh)
NamesDrawn fresh (Copy under number request) = Unit {0}

abbrev pub RepeatsDrawn : (fresh : ℕ) → ToController → Type 0
RepeatsDrawn fresh (SwitchGreets kind sender receiver) = (sender < fresh) × (receiver < fresh)
RepeatsDrawn fresh (Answer under number request outcome) = Unit {0}

pub record HasDrawn (w : Line) : Type 0 where
  pub controller : IsDrawn w.fresh w.controller.adjacency
  pub switch : IsDrawn w.fresh w.switch.adjacency
  pub to_switch : Every (NamesDrawn w.fresh) (way_to_switch w)
  pub to_controller : Every (RepeatsDrawn w.fresh) (way_to_controller w)

-- while All Ports stands, nothing was asked behind it
abbrev pub AsksFirst : Line → Type 0
AsksFirst w = w.controller.meeting ≡ Listing → w.controller.adjacency.state ≡ Estab → w.controller.next ≡ 2
