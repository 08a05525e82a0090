-- the ways in which a controller follows another: it leads the line at an end of the link, frames are made and numbers
-- given out, and what holds of each port stays so

use Rattle.std.proofs.Common.{◌≡◌, ℕ, List, [], ◌∷◌, Option, None, Some, refl, ◌∙◌, ap, arith, fold, if◌then◌else◌}
use Rattle.std.specs.Prelude.{◌==◌}
use Rattle.law_arrival_views.specs.world_model.Words.{PortNo, End, Channel, next_control, with_control, is_estab, Request, MoveBranch, is_led_home, last_transaction, Say, Ask, Note, CutChain, TakeBack, Withdraw, resets, restarts, sends_control, cuts_of, begins, with_work, closes_by, port_restarts_of, port_restarts, resets_gsmp, node_resets, asks_next, asks, takes_back, does, does_in_estab, resets_of, performs, performs_in_estab, Rule, works, at_port, GivenOut, at, Action, Setup, home_of, Linked, port_key, linked_at, with_desk, default_channel}
use Rattle.law_label_steps.proofs.law_port_facts.Keyed.{on_both}
use Rattle.law_arrival_views.specs.world_model.port_model.Desk.{asked}
use Rattle.law_arrival_views.specs.world_model.port_model.declared.action.Action.TheVariants.{Reset}
use Rattle.law_arrival_views.proofs.law_controller_views.Sends.{sent_cases}
use Rattle.law_label_steps.specs.law_label_line.Cells.{Role}
use Rattle.law_arrival_views.specs.world_model.port_model.Port.{Port}
use Rattle.law_arrival_views.specs.world_model.Controller.{Acted, ports_of}
use Rattle.law_label_steps.specs.law_port_views.Link.{LinkLabel}
use Rattle.law_arrival_views.specs.law_controller_views.Ends.{EndLeads}
use Rattle.law_arrival_views.specs.law_controller_views.Lifted.{IsProper, Growing}
use Rattle.law_arrival_views.proofs.law_controller_views.Parts.{end_stays, end_then, quiet_leads}
use Rattle.law_arrival_views.proofs.law_controller_views.Works.{quiet_same, quiet_gsmp, node_resets_leads, asks_leads, takes_back_leads}
use Rattle.law_arrival_views.proofs.law_controller_views.Growing.{grow_self, grow_on, grow_same, sends_grow, node_resets_grow, asks_grow, takes_back_grow}
use Rattle.law_controller_lifts.proofs.Kept.{IsClosed, Goes, stays, goes_on, same_ports, control_goes, node_resets_goes, asks_goes, takes_back_goes}
use Rattle.law_controller_lifts.proofs.Follow.{IsFollowed}

pub leads_followed : (link : LinkLabel) (proper : IsProper link) (like : Type 0) (role : Role) → IsFollowed (λ a b. EndLeads link like role a [] b [])
leads_followed link proper like role = record {
  itself = λ a. end_stays link like role a [];
  further = λ a b c f g. end_then link like role a b c [] [] [] f g;
  alike = λ a b frames numbers ports address node queue. quiet_leads link like role a b []
      (quiet_same link proper like role a b frames (omega (arith, ap (λ (n : GivenOut). n.instances) numbers)) (ap (λ (n : GivenOut). n.controls) numbers)
      (ap (λ (xs : List Linked). at port_key (link.port role).0 xs) ports) address queue);
  says = λ a message. quiet_leads link like role a _ [] (quiet_gsmp link proper like role a message);
  resets = λ a. node_resets_leads link proper like role a [];
  asked = λ a request. asks_leads link proper like role a request [];
  led_back = λ a input output. takes_back_leads link proper like role a input output [];
}

pub growing_followed : IsFollowed Growing
growing_followed = record {
  itself = grow_self;
  further = grow_on;
  alike = λ a b frames numbers ports address node queue. grow_same a b frames (omega (arith, ap (λ (n : GivenOut). n.instances) numbers)) (ap (λ (n : GivenOut). n.controls) numbers);
  says = λ a message. sends_grow a _ _;
  resets = node_resets_grow;
  asked = asks_grow;
  led_back = takes_back_grow;
}

pub kept_followed : (P : Setup → Port → Type 0) (closed : IsClosed P) → IsFollowed (Goes P)
kept_followed P closed = record {
  itself = stays P closed;
  further = goes_on P closed;
  alike = λ a b frames numbers ports address node queue. same_ports P closed a b ports (ap (λ (n : GivenOut). n.instances) numbers);
  says = λ a message. control_goes P closed a _ _;
  resets = node_resets_goes P closed;
  asked = asks_goes P closed;
  led_back = takes_back_goes P closed;
}

-- *The node* of a controller stays
abbrev pub SameNode : Acted → Acted → Type 0
SameNode a b = b.controller.node ≡ a.controller.node

same_put : (a : Acted) (label : ℕ) (o : Option Linked) → SameNode a (cuts_of a label o)
same_put a label None = refl
same_put a label (Some linked) = refl

same_closes : (q : PortNo) (a : Acted) (action : Action) → SameNode a (closes_by q a action)
same_closes q a (Say message) = refl
same_closes q a (Ask request needed) = refl
same_closes q a (Note item) = refl
same_closes q a (CutChain label) = same_put a label (linked_at a.controller q)
same_closes q a (TakeBack input output) = refl
same_closes q a (Withdraw input) = refl
same_closes q a Reset = refl

same_fold : {A : Type 0} (f : Acted → A → Acted) → ((a : Acted) (x : A) → SameNode a (f a x)) → (xs : List A) (a : Acted) → SameNode a (fold f a xs)
same_fold f each [] a = refl
same_fold f each (x ∷ xs) a = same_fold f each xs (f a x) ∙ each a x

same_restart : (a : Acted) (o : Option Linked) → SameNode a (port_restarts_of a o)
same_restart a None = refl
same_restart a (Some linked) = same_fold (closes_by linked.setup.port) (same_closes linked.setup.port) (restarts linked.setup (begins a linked)).actions (with_work a linked (restarts linked.setup (begins a linked)))

same_resets : (a : Acted) → SameNode a (node_resets a)
same_resets a = same_fold port_restarts (λ b q. same_restart b (linked_at b.controller q)) (ports_of a.controller) (resets_gsmp a)

same_sends : (a : Acted) (channel : Channel) (payload : List ℕ) → SameNode a (sends_control a channel payload)
same_sends a channel payload = sent_cases (SameNode a) (record a { numbers = with_control a.numbers }) channel (next_control a.numbers) payload refl refl

same_asks : (a : Acted) (request : Request) → SameNode a (asks a request)
same_asks a request = on_both (SameNode a) (is_estab a.controller.adjacency.state) (if a.controller.desk.next == last_transaction then node_resets a else asks_next a request) a
    (on_both (SameNode a) (a.controller.desk.next == last_transaction) (node_resets a) (asks_next a request) (same_resets a) (same_sends (with_desk a (asked a.controller.desk request)) default_channel _)) refl

same_back : (a : Acted) (input output : End) → SameNode a (takes_back a input output)
same_back a input output = on_both (SameNode a) (is_led_home a.controller.desk input (home_of input)) a (asks a (MoveBranch input output (home_of input))) refl (same_asks a (MoveBranch input output (home_of input)))

pub node_followed : IsFollowed SameNode
node_followed = record {
  itself = λ a. refl;
  further = λ a b c f g. g ∙ f;
  alike = λ a b frames numbers ports address node queue. node;
  says = λ a message. same_sends a _ _;
  resets = same_resets;
  asked = same_asks;
  led_back = same_back;
}

same_does : (q : PortNo) (a : Acted) (action : Action) → SameNode a (does q a action)
same_does q a (Say message) = same_sends a _ _
same_does q a (Ask request needed) = same_asks a request
same_does q a (Note item) = refl
same_does q a (CutChain label) = same_put a label (linked_at a.controller q)
same_does q a (TakeBack input output) = same_back a input output
same_does q a (Withdraw input) = refl
same_does q a Reset = refl

same_reset : (a : Acted) (o : Option Linked) → SameNode a (resets_of a o)
same_reset a None = refl
same_reset a (Some linked) = same_fold (does_in_estab linked.setup.port)
    (λ b action. on_both (SameNode b) (is_estab b.controller.adjacency.state) (does linked.setup.port b action) b (same_does linked.setup.port b action) refl)
    (resets linked.setup (begins a linked)).actions (with_work a linked (resets linked.setup (begins a linked)))

same_performs : (q : PortNo) (a : Acted) (action : Action) → SameNode a (performs q a action)
same_performs q a (Say message) = same_does q a (Say message)
same_performs q a (Ask request needed) = same_does q a (Ask request needed)
same_performs q a (Note item) = refl
same_performs q a (CutChain label) = same_does q a (CutChain label)
same_performs q a (TakeBack input output) = same_does q a (TakeBack input output)
same_performs q a (Withdraw input) = refl
same_performs q a Reset = same_reset a (linked_at a.controller q)

pub same_at_port : (a : Acted) (q : PortNo) (rule : Rule) → SameNode a (at_port a q rule)
same_at_port a q rule = by (linked_at a.controller q)
  where
    by : (o : Option Linked) → SameNode a (works a rule o)
    by None = refl
    by (Some linked) = same_fold (performs_in_estab linked.setup.port)
        (λ b action. on_both (SameNode b) (is_estab b.controller.adjacency.state) (performs linked.setup.port b action) b (same_performs linked.setup.port b action) refl)
        (rule linked.setup a.controller.desk (begins a linked)).actions (with_work a linked (rule linked.setup a.controller.desk (begins a linked)))
