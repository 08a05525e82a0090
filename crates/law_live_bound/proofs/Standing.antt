-- what the success of a branch leaves of a node that is up

use Rattle.std.proofs.Common.{◌≡◌, ℕ, ◌<◌, Bool, true, false, List, [], ◌∷◌, length, Option, None, Some, refl, sym, ◌∙◌, ap, subst, arith, fold, if◌then◌else◌}
use Rattle.std.specs.Prelude.{nat_le}
use Rattle.world_model.specs.Words.{PortNo, End, Channel, Mark, Loss, PoolFull, Action, Note, Say, Request, AddBranch, is_estab, frame_cells, made, noted, next_control, with_control, label_number_of, label_end, control_end, default_home, default_payload, ifmp_packet_of, last_number, Done, after_answer, Grant, GrantState, Idle, ByController, ByInput, Leaving, grant_on, Work, started, started_in, Controller, Linked, linked_at, port_key, with_desk, begins, with_work, works, at_port, performs, performs_in_estab, Rule, causes_in_estab, causes, clears, takes_changes}
use Rattle.world_model.specs.Controller.{Acted, ports_of, free_slots}
use Rattle.world_model.specs.Meeting.{takes_success}
use Rattle.world_model.specs.Sending.{with_cells, sends}
use Rattle.world_model.specs.frame_model.Sending.{Sender}
use Rattle.world_model.specs.ifmp_wire.Message.{octets_of as ifmp_octets}
use Rattle.world_model.specs.port_model.Answers.{done}
use Rattle.world_model.specs.port_model.declared.action.Action.TheVariants as actions
use Rattle.law_port_facts.specs.ordered_lists.Ordered.{Every}
use Rattle.law_port_facts.proofs.Keyed.{on_both, at_key}
use Rattle.law_live_ports.proofs.Joining.{sent_rest}
use Rattle.law_live_worlds.specs.Law.{end_of}
use Rattle.law_live_others.specs.Law.{IsAlikeAt, IsUp}
use Rattle.law_live_numbers.proofs.Standing.{IsCalmNow, IsIdle, all_calm, all_cleared, changes_up}
use Rattle.law_live_bindings.specs.Law.{label_branch, grant_branch}
use Rattle.law_live_bound.specs.Law.{BindsAt, LabelBranchesKeepNodesUp, GrantBranchesKeepNodesUp}
use Rattle.law_live_bound.proofs.Ports.{alike_binds}
use Rattle.law_live_bound.proofs.Successes.{spent_reset, releases_none, spent_left, told_success, offer_every, told_label, still, still_held, same_state, same_branch}

-- *What is sent* leaves the node up, and no change waiting
sent_idle : (a : Acted) (channel : Channel) (mark : Mark) (payload : List ℕ) → IsIdle a → IsIdle (sends a channel mark payload)
sent_idle a channel mark payload idle = record {
  up = ap (λ side. is_estab side.state) (sent_rest a channel mark payload).adjacency ∙ idle.up;
  none_waits = by (nat_le (length (frame_cells channel mark payload)) (free_slots a.controller)) ∙ idle.none_waits;
}
  where
    by : (b : Bool) → (let s : Sender Controller = if b then record { queues = with_cells a.controller (frame_cells channel mark payload); notes = made a.notes mark payload }
        else record { queues = a.controller; notes = noted (made a.notes mark payload) (Loss mark PoolFull) } in s.queues.waiting ≡ a.controller.waiting)
    by true = refl
    by false = refl

-- *A port that only says and notes*
abbrev IsMild : Action → Type 0
IsMild (Note item) = Unit {0}
IsMild (Say message) = Unit {0}
IsMild action = ⊥

mild_idle : (q : PortNo) (a : Acted) (action : Action) → IsMild action → IsIdle a → IsIdle (performs q a action)
mild_idle q a (Note item) is idle = record { up = idle.up; none_waits = idle.none_waits }
mild_idle q a (Say message) is idle = sent_idle (record a { numbers = with_control a.numbers }) (default_home q).channel (next_control a.numbers)
    (default_payload (ifmp_packet_of a.controller.address (ifmp_octets message))) (record { up = idle.up; none_waits = idle.none_waits })
mild_idle q a (actions.Ask request needed) is idle = absurd is
mild_idle q a (actions.CutChain label) is idle = absurd is
mild_idle q a (actions.TakeBack input output) is idle = absurd is
mild_idle q a (actions.Withdraw input) is idle = absurd is
mild_idle q a actions.Reset is idle = absurd is

acts_idle : (q : PortNo) (asked : List Action) → Every IsMild asked → (a : Acted) → IsIdle a → IsIdle (fold (performs_in_estab q) a asked)
acts_idle q [] are a idle = idle
acts_idle q (action ∷ asked) are a idle = acts_idle q asked are.1 (performs_in_estab q a action)
    (on_both IsIdle (is_estab a.controller.adjacency.state) (performs q a action) a (mild_idle q a action are.0 idle) idle)

rule_idle : (a : Acted) (q : PortNo) (rule : Rule) → IsIdle a
    → ((linked : Linked) → linked_at a.controller q ≡ Some linked → Every IsMild (rule linked.setup a.controller.desk (begins a linked)).actions) → IsIdle (at_port a q rule)
rule_idle a q rule idle mild = by (linked_at a.controller q) refl
  where
    by : (o : Option Linked) → linked_at a.controller q ≡ o → IsIdle (works a rule o)
    by None found = idle
    by (Some linked) found =
        let w : Work = rule linked.setup a.controller.desk (begins a linked) in
        acts_idle linked.setup.port w.actions (mild linked found) (with_work a linked w) (record { up = idle.up; none_waits = idle.none_waits })

-- *A success of Add Branch*, by what it makes the port do
module _ (a : Acted) (port : PortNo) (input output : End) (calm : IsCalmNow a) where
  abbrev request : Request
  request = AddBranch input output

  abbrev ready : Acted
  ready = spent_reset port input output a

  pub ready_calm : IsCalmNow ready
  ready_calm = all_calm (ports_of a.controller) a calm

  ready_idle : IsIdle ready
  ready_idle = record { up = ready_calm.up; none_waits = ready_calm.none_waits }

  pub success_up : (IsIdle ready → IsIdle (causes_in_estab ready request)) → IsUp (takes_success a request)
  success_up on = subst (λ (r : Acted). IsUp (takes_changes (clears (causes r request)))) (sym (releases_none port input output a))
      (changes_up (clears caused) (all_cleared (ports_of caused.controller) caused
      (on_both IsIdle (is_estab ready.controller.adjacency.state) (causes_in_estab ready request) ready (on ready_idle) ready_idle)))
    where
      caused : Acted
      caused = causes ready request

-- *That of a grant*
starts_none : (r : Acted) (linked : Linked) (o : Option Grant) → (started (begins r linked) o).actions ≡ []
starts_none r linked None = refl
starts_none r linked (Some grant) = by grant.state
  where
    by : (state : GrantState) → (started_in (begins r linked) grant state).actions ≡ []
    by Idle = refl
    by ByController = refl
    by (ByInput input) = refl
    by (Leaving input owed) = refl

pub grant_branches_keep_nodes_up : GrantBranchesKeepNodesUp
grant_branches_keep_nodes_up a message setup number success quiet =
    subst IsUp (sym (told_success a message (grant_branch setup number) success))
    (success_up behind setup.port (control_end setup.port number) (label_end setup.port number) (record { up = quiet.up; none_waits = quiet.none_waits; unspent = quiet.unspent })
    (λ idle. rule_idle r setup.port (λ s desk v. done s v (grant_branch setup number)) idle
    (λ l found. subst (Every IsMild) (sym (starts_none r l (grant_on l.port.grants (label_number_of (label_end setup.port number).channel)))) tt)))
  where
    behind : Acted
    behind = with_desk a (after_answer a.controller.desk (Done success.standing))

    r : Acted
    r = spent_reset setup.port (control_end setup.port number) (label_end setup.port number) behind

-- *That of a label*
pub label_branches_keep_nodes_up : LabelBranchesKeepNodesUp
label_branches_keep_nodes_up a port message label said other bind success held wiring left quiet =
    subst IsUp (sym (told_success a message request success))
    (success_up behind port input output calm
    (λ idle. subst IsIdle (sym (told_label r port bind.linked label.number (at_key port_key port.0 a.controller.ports bind.linked bind.of_port) bind.binding.one_end.of_link))
    (rule_idle r port (λ s desk v. done s v request) idle mild)))
  where
    input : End
    input = label_end bind.linked.setup.port label.number

    output : End
    output = control_end bind.linked.setup.port label.number

    request : Request
    request = label_branch bind.linked.setup label.number

    behind : Acted
    behind = with_desk a (after_answer a.controller.desk (Done success.standing))

    calm : IsCalmNow behind
    calm = record { up = quiet.up; none_waits = quiet.none_waits; unspent = quiet.unspent }

    r : Acted
    r = spent_reset port input output behind

    now : IsAlikeAt bind.linked (linked_at r.controller port)
    now = (spent_left port input output behind).left (ready_calm behind port input output calm).up tt bind.linked bind.of_port (omega (arith, left))

    here : BindsAt r port said other
    here = alike_binds bind.linked r port said other bind.binding (bind.address ∙ sym (spent_left port input output behind).address) now

    one_linked : (x y : Linked) → Some x ≡ Some y → x ≡ y
    one_linked x y e = cc

    mild_now : Every IsMild (done now.after.setup (begins r now.after) request).actions
    mild_now = subst (λ (q : Request). Every IsMild (done now.after.setup (begins r now.after) q).actions) (same_branch bind.linked now.after now.setup now.alike label held)
        (offer_every IsMild (λ item. tt) (λ m. tt) r.numbers.instances (end_of now.after said) other (still bind.linked now.after now.setup now.alike label held).found here.binding
        (still_held bind.linked now.after now.setup now.alike label held) (same_state bind.linked now.after now.setup now.alike label held ∙ wiring)
        (subst (λ n. n < last_number) (sym now.alike.number) left))

    mild : (l : Linked) → linked_at r.controller port ≡ Some l → Every IsMild (done l.setup (begins r l) request).actions
    mild l found = subst (λ (x : Linked). Every IsMild (done x.setup (begins r x) request).actions) (one_linked now.after l (sym now.there ∙ found)) mild_now
