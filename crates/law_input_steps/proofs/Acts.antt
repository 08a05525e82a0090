-- what a port has asked is done by its controller: each action, a port's reset, a rule of a port

use Rattle.std.proofs.Common.{◌≡◌, ◌≢◌, ◌≤◌, Bool, true, false, not, List, [], ◌∷◌, Option, Some, None, refl, sym, ◌∙◌, ap, subst, filter, fold, arith, if◌then◌else◌}
use Rattle.std.specs.Prelude.{◌==◌}
use Rattle.law_input_views.specs.world_model.Words.{Channel, End, NodeId, PortNo, is_estab, Request, AddBranch, MoveBranch, DeleteTree, VerifyTree, PortManagement, same_end, is_on, Standing, is_led_home, last_transaction, message_of, Action, Say, Ask, Note, CutChain, TakeBack, Withdraw, home_of, Work, resets, Switch, Linked, linked_at, with_desk, default_channel, default_home, asks_next, asks, takes_back, withdraws_input, begins, with_work, node_resets, does, does_in_estab, resets_as, resets_of, performs, performs_in_estab, Rule, works_as, works, at_port}
use Rattle.law_input_views.specs.world_model.gsmp_wire.declared.request.Request.TheVariants.{DeleteAll, AllPorts}
use Rattle.law_input_views.specs.world_model.gsmp_wire.Layout.{octets_of}
use Rattle.law_input_views.specs.ordered_lists.Ordered.{Every, InOrder}
use Rattle.law_input_views.proofs.ordered_lists.Every.{every_map}
use Rattle.law_input_views.proofs.ordered_lists.Parts.{IsPart, part_mapped}
use Rattle.law_input_views.specs.world_model.port_model.Desk.{asked}
use Rattle.law_input_views.specs.world_model.port_model.declared.action.Action.TheVariants.{Reset}
use Rattle.law_input_views.specs.law_branch_line.Line.{Other, Meeting, Listing, Emptying, Met, MetAndAsked, Line}
use Rattle.law_input_views.specs.law_branch_line.Asking.{has_met}
use Rattle.law_input_views.specs.world_model.Controller.{Acted}
use Rattle.law_input_views.specs.Words.{is_own, own_of, other_of, others_of}
use Rattle.law_input_views.specs.Shown.{AskedShows, IsAllPorts, IsDeleteAll, PhaseShows}
use Rattle.law_input_steps.specs.Part.{Part, part_at, Stands, Reaches, AnyLine, Leads}
use Rattle.law_input_steps.specs.Asking.{CanEach, CanAsk, MayAsk, CanDo, CanDoInEstab, CanReset, CanPerform, CanPerformInEstab, CanWork, CanApply}
use Rattle.law_input_steps.proofs.Lists.{filter_all, filter_within, filter_part}
use Rattle.law_input_steps.proofs.Ends.{is_other, own_test, on_other}
use Rattle.law_input_steps.proofs.Goes.{Rise, with_others, withdraw_part}
use Rattle.law_input_steps.proofs.Reach.{reaches_by, reaches_self, leads_self, leads_then}
use Rattle.law_input_steps.proofs.Sent.{control_sent, sent_elsewhere}
use Rattle.law_input_steps.proofs.Asks.{asks_leads, filtered_numbered, others_rise, met_phase}
use Rattle.law_input_steps.proofs.Resets.{still_leads, cuts_still, note_still, work_still, node_resets_leads}

module _ (node : NodeId) (input : End) (switch : Switch) where
  abbrev pub From : Acted → Acted → Type 0
  From a b = Leads node input (part_at input switch a) (part_at input switch b)

  pub each_leads : {A : Type 0} (f : Acted → A → Acted) (Can : Acted → A → Type 0) → ((a : Acted) (x : A) → Can a x → From a (f a x))
      → (xs : List A) (a : Acted) → CanEach f Can a xs → From a (fold f a xs)
  each_leads f Can step [] a can = leads_self node input (part_at input switch a)
  each_leads f Can step (x ∷ xs) a can =
      leads_then node input (part_at input switch a) (part_at input switch (f a x)) (part_at input switch (fold f (f a x) xs)) (step a x can.0) (each_leads f Can step xs (f a x) can.1)

  -- *Asking*: where the switch is met, and no Delete All of the input's port stands beside a request of the input
  next_leads : (a : Acted) (r : Request) → is_estab a.controller.adjacency.state ≡ true → CanAsk input a r → From a (asks_next a r)
  next_leads a r estab can = control_sent input switch (λ (q : Part). Leads node input (part_at input switch a) q) (with_desk a (asked a.controller.desk r)) default_channel
      (octets_of (message_of a.controller.desk.rows a.controller.desk.next r))
      (λ fits. asks_leads node input (part_at input switch a) r fits estab can.met can.shape can.reads can.away)

  pub asks_acted : (a : Acted) (r : Request) → MayAsk input a r → From a (asks a r)
  asks_acted a r can = by (is_estab a.controller.adjacency.state) refl
    where
      in_estab : (t : Bool) → (a.controller.desk.next == last_transaction) ≡ t → is_estab a.controller.adjacency.state ≡ true → From a (if t then node_resets a else asks_next a r)
      in_estab true spent estab = node_resets_leads node input switch a
      in_estab false room estab = next_leads a r estab (can estab room)

      by : (t : Bool) → is_estab a.controller.adjacency.state ≡ t
          → From a (if t then (if a.controller.desk.next == last_transaction then node_resets a else asks_next a r) else a)
      by true estab = in_estab (a.controller.desk.next == last_transaction) refl estab
      by false estab = leads_self node input (part_at input switch a)

  -- *Taking back*
  pub takes_back_leads : (a : Acted) (i o : End)
      → (is_led_home a.controller.desk i (home_of i) ≡ false → MayAsk input a (MoveBranch i o (home_of i))) → From a (takes_back a i o)
  takes_back_leads a i o can = by (is_led_home a.controller.desk i (home_of i)) refl
    where
      by : (t : Bool) → is_led_home a.controller.desk i (home_of i) ≡ t → From a (if t then a else asks a (MoveBranch i o (home_of i)))
      by true t = leads_self node input (part_at input switch a)
      by false t = asks_acted a (MoveBranch i o (home_of i)) (can t)

  -- *Withdrawing* what stands on another input
  abbrev kept_on : End → Standing → Bool
  kept_on i s = not (is_on i s.request)

  all_off : (i : End) (r : Request) → IsAllPorts r → not (is_on i r) ≡ true
  all_off i AllPorts h = refl
  all_off i (AddBranch j o) h = absurd h
  all_off i (MoveBranch j f o) h = absurd h
  all_off i (DeleteTree j) h = absurd h
  all_off i (VerifyTree j) h = absurd h
  all_off i (DeleteAll p) h = absurd h
  all_off i (PortManagement p function) h = absurd h

  delete_off : (i : End) (r : Request) → IsDeleteAll r → not (is_on i r) ≡ true
  delete_off i (DeleteAll p) h = refl
  delete_off i AllPorts h = absurd h
  delete_off i (AddBranch j o) h = absurd h
  delete_off i (MoveBranch j f o) h = absurd h
  delete_off i (DeleteTree j) h = absurd h
  delete_off i (VerifyTree j) h = absurd h
  delete_off i (PortManagement p function) h = absurd h

  withdrawn_line : (a : Acted) (i : End) (line : Line) → same_end input i ≡ false → has_met line.controller.meeting ≡ true → Stands node input (part_at input switch a) line
      → Reaches node input (part_at input switch (withdraws_input a i)) AnyLine line
  withdrawn_line a i line away met h =
      let standing : List Standing = a.controller.desk.standing in
      let left : List Standing = filter (kept_on i) standing in
      let own : own_of input left ≡ own_of input standing = filter_within (is_own input) (kept_on i) standing (λ s on. ap not (on_other input i s.request away (sym (own_test input s) ∙ on))) in
      let part : IsPart (others_of input left) (others_of input standing) = part_mapped other_of (filter_part (is_other input) (kept_on i) standing) in
      reaches_by node input (part_at input switch (withdraws_input a i)) line (with_others line (others_of input left))
      (withdraw_part line (others_of input left) met (subst (InOrder Rise) (sym h.own.others) (others_rise input a.controller.desk h.numbered)) (subst (λ (z : List Other). IsPart (others_of input left) z) (sym h.own.others) part))
      (record {
        own = record {
          side = h.own.side;
          next = h.own.next;
          asked = subst (λ (z : List Standing). AskedShows input (is_estab line.controller.adjacency.state) z line.controller.asked) (sym own) h.own.asked;
          others = refl;
          met = h.own.met;
          phase = met_phase line.controller.meeting left met;
        };
        far = h.far;
        to_switch = h.to_switch;
        at_switch = h.at_switch;
        to_controller = h.to_controller;
        gathered = h.gathered;
        at_controller = h.at_controller;
        drawn = h.drawn;
        before = h.before;
        behind = h.behind;
        unmade = h.unmade;
        numbered = filtered_numbered a.controller.desk (kept_on i) h.numbered;
      })

  unmet_line : (a : Acted) (i : End) (line : Line) → Every (λ (s : Standing). kept_on i s ≡ true) a.controller.desk.standing → Stands node input (part_at input switch a) line
      → Reaches node input (part_at input switch (withdraws_input a i)) AnyLine line
  unmet_line a i line all h = subst (λ (z : List Standing). Reaches node input (record (part_at input switch a) { desk = record a.controller.desk { standing = z } }) AnyLine line)
      (sym (filter_all (kept_on i) a.controller.desk.standing all)) (reaches_self node input (part_at input switch a) line h)

  by_meeting : (a : Acted) (i : End) (line : Line) (meeting : Meeting) → line.controller.meeting ≡ meeting → PhaseShows meeting a.controller.desk.standing → same_end input i ≡ false
      → Stands node input (part_at input switch a) line → Reaches node input (part_at input switch (withdraws_input a i)) AnyLine line
  by_meeting a i line Listing is phase away h = unmet_line a i line
      (every_map (λ (s : Standing). IsAllPorts s.request) (λ (s : Standing). kept_on i s ≡ true) a.controller.desk.standing (λ s k. all_off i s.request k) phase) h
  by_meeting a i line Emptying is phase away h = unmet_line a i line
      (every_map (λ (s : Standing). IsDeleteAll s.request) (λ (s : Standing). kept_on i s ≡ true) a.controller.desk.standing (λ s k. delete_off i s.request k) phase) h
  by_meeting a i line Met is phase away h = withdrawn_line a i line away (ap has_met is) h
  by_meeting a i line MetAndAsked is phase away h = withdrawn_line a i line away (ap has_met is) h

  pub withdraws_leads : (a : Acted) (i : End) → same_end input i ≡ false → From a (withdraws_input a i)
  withdraws_leads a i away line h = by_meeting a i line line.controller.meeting refl h.own.phase away h

  -- *A message of IFMP* goes on its port's default channel
  default_apart : (port : PortNo) → 1 ≤ port.0 → (default_home port).channel ≢ default_channel
  default_apart port above e = apart (ap (λ (c : Channel). c.vpi) e)
    where
      apart : (default_home port).channel.vpi ≡ 0 → ⊥
      apart e = absurd (omega (arith, e, above))

  -- *One action*
  pub does_leads : (port : PortNo) (a : Acted) (action : Action) → CanDo input port a action → From a (does port a action)
  does_leads port a (Say message) can = control_sent input switch (λ (q : Part). Leads node input (part_at input switch a) q) a (default_home port).channel _
      (λ fits. sent_elsewhere node input (part_at input switch a) (default_home port).channel _ fits (default_apart port can))
  does_leads port a (Ask r needed) can = asks_acted a r can
  does_leads port a (Note item) can = still_leads node input switch a (does port a (Note item)) (note_still a item)
  does_leads port a (CutChain label) can = still_leads node input switch a (does port a (CutChain label)) (cuts_still a label (linked_at a.controller port))
  does_leads port a (TakeBack i o) can = takes_back_leads a i o can
  does_leads port a (Withdraw i) can = withdraws_leads a i can
  does_leads port a Reset can = leads_self node input (part_at input switch a)

  -- *A port is reset*
  in_estab_leads : (port : PortNo) (a : Acted) (action : Action) → CanDoInEstab input port a action → From a (does_in_estab port a action)
  in_estab_leads port a action can = by (is_estab a.controller.adjacency.state) refl
    where
      by : (t : Bool) → is_estab a.controller.adjacency.state ≡ t → From a (if t then does port a action else a)
      by true t = does_leads port a action (can t)
      by false t = leads_self node input (part_at input switch a)

  pub port_reset_leads : (a : Acted) (o : Option Linked) → CanReset input a o → From a (resets_of a o)
  port_reset_leads a None can = leads_self node input (part_at input switch a)
  port_reset_leads a (Some linked) can =
      let w : Work = resets linked.setup (begins a linked) in
      leads_then node input (part_at input switch a) (part_at input switch (with_work a linked w)) (part_at input switch (resets_as a linked w))
      (still_leads node input switch a (with_work a linked w) (work_still a linked w (omega arith)))
      (each_leads (does_in_estab linked.setup.port) (CanDoInEstab input linked.setup.port) (in_estab_leads linked.setup.port) w.actions (with_work a linked w) can)

  -- *A rule of a port*: its work is put back, and what it asks is done
  performs_leads : (port : PortNo) (a : Acted) (action : Action) → CanPerform input port a action → From a (performs port a action)
  performs_leads port a Reset can = port_reset_leads a (linked_at a.controller port) can
  performs_leads port a (Say message) can = does_leads port a (Say message) can
  performs_leads port a (Ask r needed) can = does_leads port a (Ask r needed) can
  performs_leads port a (Note item) can = does_leads port a (Note item) can
  performs_leads port a (CutChain label) can = does_leads port a (CutChain label) can
  performs_leads port a (TakeBack i o) can = does_leads port a (TakeBack i o) can
  performs_leads port a (Withdraw i) can = does_leads port a (Withdraw i) can

  performs_in_leads : (port : PortNo) (a : Acted) (action : Action) → CanPerformInEstab input port a action → From a (performs_in_estab port a action)
  performs_in_leads port a action can = by (is_estab a.controller.adjacency.state) refl
    where
      by : (t : Bool) → is_estab a.controller.adjacency.state ≡ t → From a (if t then performs port a action else a)
      by true t = performs_leads port a action (can t)
      by false t = leads_self node input (part_at input switch a)

  pub works_leads : (a : Acted) (linked : Linked) (w : Work) → CanWork input a linked w → From a (works_as a linked w)
  works_leads a linked w can = leads_then node input (part_at input switch a) (part_at input switch (with_work a linked w)) (part_at input switch (works_as a linked w))
      (still_leads node input switch a (with_work a linked w) (work_still a linked w can.instances))
      (each_leads (performs_in_estab linked.setup.port) (CanPerformInEstab input linked.setup.port) (performs_in_leads linked.setup.port) w.actions (with_work a linked w) can.each)

  rule_leads : (a : Acted) (rule : Rule) (o : Option Linked) → CanApply input a rule o → From a (works a rule o)
  rule_leads a rule None can = leads_self node input (part_at input switch a)
  rule_leads a rule (Some linked) can = works_leads a linked (rule linked.setup a.controller.desk (begins a linked)) can

  pub at_port_leads : (a : Acted) (port : PortNo) (rule : Rule) → CanApply input a rule (linked_at a.controller port) → From a (at_port a port rule)
  at_port_leads a port rule can = rule_leads a rule (linked_at a.controller port) can
