-- When a request may be asked, as the line of an input tells, and when a controller may do what a port asks

use Rattle.std.specs.Prelude.{◌≡◌, ◌≤◌, ◌==◌, Bool, true, false, List, [], ◌∷◌, ◌++◌, Option, None, Some}
use Rattle.law_input_views.specs.world_model.Words.{End, PortNo, is_estab, Request, AddBranch, MoveBranch, DeleteTree, VerifyTree, PortManagement, same_end, Desk, Standing, is_led_home, last_transaction, message_of, Action, Say, Ask, Note, CutChain, TakeBack, Withdraw, home_of, Work, resets, Linked, linked_at, begins, with_work, does_in_estab, performs_in_estab, Rule, gsmp_of}
use Rattle.law_input_views.specs.world_model.gsmp_wire.declared.message.Message.{Message}
use Rattle.law_input_views.specs.world_model.gsmp_wire.Layout.{octets_of}
use Rattle.law_input_views.specs.world_model.gsmp_wire.declared.request.Request.TheVariants.{DeleteAll, AllPorts}
use Rattle.law_input_views.specs.ordered_lists.Ordered.{Every}
use Rattle.law_input_views.specs.world_model.port_model.Desk.{message_at}
use Rattle.law_input_views.specs.world_model.port_model.declared.action.Action.TheVariants.{Reset}
use Rattle.law_input_views.specs.law_branch_line.Words as lines
use Rattle.law_input_views.specs.world_model.Controller.{Acted}

-- what a receiver reads in the octets of a message is the message
abbrev pub IsReadable : Message → Type 0
IsReadable message = gsmp_of (octets_of message) ≡ Some message

-- *Requests* that a controller asks: it neither verifies a tree nor manages a port
abbrev pub IsAsked : Request → Type 0
IsAsked (VerifyTree input) = ⊥
IsAsked (PortManagement port function) = ⊥
IsAsked request = Unit {0}

-- one that concerns the input, as its line sees it
abbrev pub concerns : End → Request → Bool
concerns e (AddBranch i o) = same_end e i
concerns e (MoveBranch i from to) = same_end e i
concerns e (DeleteTree i) = same_end e i
concerns e (VerifyTree i) = false
concerns e (DeleteAll p) = p.0 == e.port.0
concerns e (PortManagement p function) = false
concerns e AllPorts = false

abbrev pub on_input : Request → lines.InputRequest
on_input (AddBranch i o) = lines.AddBranch o
on_input (MoveBranch i from to) = lines.MoveBranch from to
on_input (DeleteTree i) = lines.DeleteTree
on_input (VerifyTree i) = lines.DeleteTree
on_input (DeleteAll p) = lines.DeleteAll
on_input (PortManagement p function) = lines.DeleteAll
on_input AllPorts = lines.DeleteAll

-- Delete All of the input's port
abbrev pub deletes_port : End → Request → Bool
deletes_port e (DeleteAll p) = p.0 == e.port.0
deletes_port e r = false

abbrev pub NoDeleteAll : End → List Standing → Type 0
NoDeleteAll e standing = Every (λ (s : Standing). deletes_port e s.request ≡ false) standing

-- *Asking*: the switch is met, the message is read as it is written, and no Delete All of the input's port stands beside a
-- request of the input
pub record CanAsk (input : End) (a : Acted) (r : Request) : Type 0 where
  pub met : a.controller.has_met ≡ true
  pub shape : IsAsked r
  pub reads : IsReadable (message_of a.controller.desk.rows a.controller.desk.next r)
  pub away : concerns input r ≡ true → NoDeleteAll input a.controller.desk.standing

-- where it is asked: in Estab, where a number is left
abbrev pub MayAsk : (input : End) → Acted → Request → Type 0
MayAsk input a r = is_estab a.controller.adjacency.state ≡ true → (a.controller.desk.next == last_transaction) ≡ false → CanAsk input a r

-- *Each of several*, where each may be done once those before it are
abbrev pub CanEach : {A : Type 0} → (Acted → A → Acted) → (Acted → A → Type 0) → Acted → List A → Type 0
CanEach f Can a [] = Unit {0}
CanEach f Can a (x ∷ xs) = Can a x × CanEach f Can (f a x) xs

-- *One action* of a port
abbrev pub CanDo : (input : End) → PortNo → Acted → Action → Type 0
CanDo input port a (Say message) = 1 ≤ port.0
CanDo input port a (Ask r needed) = MayAsk input a r
CanDo input port a (Note item) = Unit {0}
CanDo input port a (CutChain label) = Unit {0}
CanDo input port a (TakeBack i o) = is_led_home a.controller.desk i (home_of i) ≡ false → MayAsk input a (MoveBranch i o (home_of i))
CanDo input port a (Withdraw i) = same_end input i ≡ false
CanDo input port a Reset = Unit {0}

abbrev pub CanDoInEstab : (input : End) → PortNo → Acted → Action → Type 0
CanDoInEstab input port a action = is_estab a.controller.adjacency.state ≡ true → CanDo input port a action

-- *A port is reset*
abbrev pub CanReset : (input : End) → Acted → Option Linked → Type 0
CanReset input a None = Unit {0}
CanReset input a (Some linked) =
    let w : Work = resets linked.setup (begins a linked) in
    CanEach (does_in_estab linked.setup.port) (CanDoInEstab input linked.setup.port) (with_work a linked w) w.actions

-- *A rule of a port*
abbrev pub CanPerform : (input : End) → PortNo → Acted → Action → Type 0
CanPerform input port a Reset = CanReset input a (linked_at a.controller port)
CanPerform input port a action = CanDo input port a action

abbrev pub CanPerformInEstab : (input : End) → PortNo → Acted → Action → Type 0
CanPerformInEstab input port a action = is_estab a.controller.adjacency.state ≡ true → CanPerform input port a action

pub record CanWork (input : End) (a : Acted) (linked : Linked) (w : Work) : Type 0 where
  pub instances : a.numbers.instances ≤ w.instances
  pub each : CanEach (performs_in_estab linked.setup.port) (CanPerformInEstab input linked.setup.port) (with_work a linked w) w.actions

abbrev pub CanApply : (input : End) → Acted → Rule → Option Linked → Type 0
CanApply input a rule None = Unit {0}
CanApply input a rule (Some linked) = CanWork input a linked (rule linked.setup a.controller.desk (begins a linked))

-- *Sent again*: one of those that stand
pub record Cut (xs : List Standing) (s : Standing) : Type 0 where
  pub before : List Standing
  pub after : List Standing
  pub is : xs ≡ before ++ s ∷ after

pub record IsReady (desk : Desk) (s : Standing) : Type 0 where
  pub stands : Cut desk.standing s
  pub shape : IsAsked s.request
  pub reads : IsReadable (message_at desk s)
