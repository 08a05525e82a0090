-- what the controller does at a success, once the switch is met: releases, what the answer causes, clearings, changes of routes

use Rattle.std.proofs.Common.{◌≡◌, ℕ, Bool, true, false, List, [], ◌∷◌, fold, flat_map, Option, None, Some, refl, sym, ◌∙◌, ap, subst, arith, if◌then◌else◌}
use Rattle.law_input_views.specs.world_model.Words.{End, NodeId, PortNo, number_of_channel, RouteChange, is_estab, Request, AddBranch, MoveBranch, DeleteTree, VerifyTree, PortManagement, Part as Parted, halts_if_spent, Switch, Linked, linked_at, with_linked, with_desk, default_end, default_home, join_of, parts, releases_join, releases_input, released_inputs, resets_spent, releases, tells_port, has_emptied, ends_meeting, behind_delete_all, causes_in_estab, causes, may_clear, clears_of, clears_port, clears, default_branches, up_ports, takes_answer, answer_comes, asks, changed_joins, takes_join_back, begins_change, takes_change, may_take, takes_each, takes_changes, Standing, Head, Answered, Done, answered, without_request, asked_in}
use Rattle.law_input_views.specs.world_model.gsmp_wire.declared.request.Request.TheVariants.{DeleteAll, AllPorts}
use Rattle.law_input_views.specs.world_model.port_model.Joins as port_joins
use Rattle.law_input_views.specs.world_model.port_model.Answers as port_answers
use Rattle.law_input_views.specs.world_model.port_model.Resets.{cleared}
use Rattle.law_input_views.specs.world_model.Controller.{Acted, ports_of, note}
use Rattle.law_input_views.specs.world_model.Joins.{Join, output_joined}
use Rattle.law_input_views.specs.world_model.Meeting.{request_port, takes_success}
use Rattle.law_input_views.specs.world_model.gsmp_wire.declared.message.Message.{Message}
use Rattle.law_input_views.specs.law_branch_line.Words.{Answer, Success}
use Rattle.law_input_views.specs.law_branch_line.Line.{Line}
use Rattle.law_input_views.specs.world_model.switch_model.declared.request.Asked.{Asked}
use Rattle.law_input_views.specs.Words.{word_of}
use Rattle.law_input_views.specs.Shown.{IsAllPorts}
use Rattle.law_input_steps.specs.Asking.{CanEach, MayAsk}
use Rattle.law_input_steps.specs.Meeting.{in_desk, met_after, AfterAnswer, answered_part}
use Rattle.law_input_steps.proofs.Taken.{done_line}
use Rattle.law_input_steps.specs.Part.{part_at, Stands, Reaches, AnyLine, Leads}
use Rattle.law_input_steps.specs.Done.{CanRelease, CanReleaseInput, released, CanSpend, CanTell, CanGiveBranch, CanCause, CanTakeBack, begun, CanBegin, CanTakeEach, CanFinish}
use Rattle.law_input_steps.proofs.Reach.{leads_self, leads_then, reaches_then}
use Rattle.law_input_steps.proofs.Resets.{IsStill, still_self, still_fold, note_still, still_leads}
use Rattle.law_input_steps.proofs.Acts.{each_leads, asks_acted, at_port_leads, takes_back_leads}

-- *Clearing* is nothing to the line
clear_still : (a : Acted) (o : Option Linked) → IsStill a (clears_of a o)
clear_still a None = still_self a
clear_still a (Some linked) = by (may_clear a.controller linked)
  where
    by : (t : Bool) → IsStill a (if t then with_linked a (record linked { port = cleared linked.port }) else a)
    by true = record { adjacency = refl; desk = refl; met = refl; gathered = refl; queue = refl; frames = refl; controls = refl; instances = omega arith }
    by false = still_self a

pub clears_still : (a : Acted) → IsStill a (clears a)
clears_still a = still_fold clears_port (λ b port. clear_still b (linked_at b.controller port)) (ports_of a.controller) a

module _ (node : NodeId) (input : End) (switch : Switch) where
  abbrev Goes : Acted → Acted → Type 0
  Goes a b = Leads node input (part_at input switch a) (part_at input switch b)

  follow : (a b c : Acted) → Goes a b → Goes b c → Goes a c
  follow a b c f g = leads_then node input (part_at input switch a) (part_at input switch b) (part_at input switch c) f g

  stay : (a : Acted) → Goes a a
  stay a = leads_self node input (part_at input switch a)

  still : (a b : Acted) → IsStill a b → Goes a b
  still a b s = still_leads node input switch a b s

  -- *Releases*
  release_leads : (a : Acted) (o : Option Join) → CanRelease input a o → Goes a (releases_join a o)
  release_leads a None can = stay a
  release_leads a (Some join) can =
      let b : Acted = note a (Parted a.controller.node join.input.port (number_of_channel join.input.channel)) in
      follow a b (releases_join a (Some join)) (still a b (note_still a (Parted a.controller.node join.input.port (number_of_channel join.input.channel))))
      (follow b (parts a join.input) (releases_join a (Some join))
      (at_port_leads node input switch b join.input.port (λ setup desk w. port_joins.parted w (number_of_channel join.input.channel)) can.label)
      (at_port_leads node input switch (parts a join.input) join.port (λ setup desk w. port_joins.given_back w join.grant) can.grant))

  -- *What the answer causes*
  tells_leads : (a : Acted) (request : Request) (o : Option PortNo) → CanTell input a request o → Goes a (tells_port a request o)
  tells_leads a request None can = stay a
  tells_leads a request (Some port) can = at_port_leads node input switch a port (λ setup desk w. port_answers.done setup w request) can

  gives_leads : (a : Acted) (port : PortNo) → CanGiveBranch input a port → Goes a (behind_delete_all a port)
  gives_leads a port can = subst (λ (t : Bool). Goes a (if t then asks a (AddBranch (default_end port) (default_home port)) else (if has_emptied a.controller then ends_meeting a else a)))
      (sym can.met) (asks_acted node input switch a (AddBranch (default_end port) (default_home port)) can.asks)

  cause_leads : (a : Acted) (request : Request) → CanCause input a request → Goes a (causes_in_estab a request)
  cause_leads a (DeleteAll port) can = gives_leads a port can
  cause_leads a (AddBranch i o) can = tells_leads a (AddBranch i o) (request_port (AddBranch i o)) can
  cause_leads a (MoveBranch i from to) can = tells_leads a (MoveBranch i from to) (request_port (MoveBranch i from to)) can
  cause_leads a (DeleteTree i) can = tells_leads a (DeleteTree i) (request_port (DeleteTree i)) can
  cause_leads a (VerifyTree i) can = tells_leads a (VerifyTree i) (request_port (VerifyTree i)) can
  cause_leads a (PortManagement port function) can = tells_leads a (PortManagement port function) (request_port (PortManagement port function)) can
  cause_leads a AllPorts can = stay a

  causes_leads : (a : Acted) (request : Request) → (is_estab a.controller.adjacency.state ≡ true → CanCause input a request) → Goes a (causes a request)
  causes_leads a request can = by (is_estab a.controller.adjacency.state) refl
    where
      by : (t : Bool) → is_estab a.controller.adjacency.state ≡ t → Goes a (if t then causes_in_estab a request else a)
      by true t = cause_leads a request (can t)
      by false t = stay a

  -- *Changes of routes*
  begin_still : (a : Acted) → IsStill a (begun a)
  begin_still a = record { adjacency = refl; desk = refl; met = refl; gathered = refl; queue = refl; frames = refl; controls = refl; instances = omega arith }

  begins_leads : (a : Acted) (change : RouteChange) → CanBegin input a change → Goes a (begins_change a change)
  begins_leads a change can = by a.controller.is_begun refl
    where
      by : (t : Bool) → a.controller.is_begun ≡ t → Goes a (if t then a else fold takes_join_back (begun a) (changed_joins a.controller change))
      by true t = stay a
      by false t = follow a (begun a) (fold takes_join_back (begun a) (changed_joins a.controller change)) (still a (begun a) (begin_still a))
          (each_leads node input switch takes_join_back (CanTakeBack input) (λ b join can. takes_back_leads node input switch b join.input (output_joined join) can)
          (changed_joins a.controller change) (begun a) (can t))

  take_still : (a : Acted) (change : RouteChange) (later : List RouteChange) → IsStill a (takes_change a change later)
  take_still a change later = record { adjacency = refl; desk = refl; met = refl; gathered = refl; queue = refl; frames = refl; controls = refl; instances = omega arith }

  taken_by : (a : Acted) (change : RouteChange) (later : List RouteChange) (t : Bool) → may_take (begins_change a change).controller change ≡ t → CanTakeEach input a (change ∷ later)
      → (CanTakeEach input (takes_change (begins_change a change) change later) later
      → Goes (takes_change (begins_change a change) change later) (takes_each (takes_change (begins_change a change) change later) later))
      → Goes a (if t then takes_each (takes_change (begins_change a change) change later) later else begins_change a change)
  taken_by a change later true t can rest =
      let b : Acted = begins_change a change in
      follow a b (takes_each (takes_change b change later) later) (begins_leads a change can.0)
      (follow b (takes_change b change later) (takes_each (takes_change b change later) later) (still b (takes_change b change later) (take_still b change later)) (rest (can.1 t)))
  taken_by a change later false t can rest = begins_leads a change can.0

  takes_leads : (changes : List RouteChange) (a : Acted) → CanTakeEach input a changes → Goes a (takes_each a changes)
  takes_leads [] a can = stay a
  takes_leads (change ∷ later) a can = taken_by a change later (may_take (begins_change a change).controller change) refl can
      (λ k. takes_leads later (takes_change (begins_change a change) change later) k)

  pub changes_leads : (a : Acted) → (a.controller.has_met ≡ true → CanTakeEach input a a.controller.waiting) → Goes a (takes_changes a)
  changes_leads a can = by a.controller.has_met refl
    where
      by : (t : Bool) → a.controller.has_met ≡ t → Goes a (if t then takes_each a a.controller.waiting else a)
      by true t = takes_leads a.controller.waiting a (can t)
      by false t = stay a

  -- *A success*
  pub done_leads : (a : Acted) (request : Request) → CanFinish input a request → Goes a (takes_success a request)
  done_leads a request can =
      let b : Acted = released a request in
      let c : Acted = releases a request in
      let d : Acted = causes c request in
      let e : Acted = clears d in
      follow a b (takes_success a request)
      (each_leads node input switch releases_input (CanReleaseInput input) (λ z joined k. release_leads z (join_of z.controller joined) k) (released_inputs a.controller request) a can.releases_each)
      (follow b c (takes_success a request)
      (each_leads node input switch resets_spent (CanSpend input) (λ z port k. at_port_leads node input switch z port (λ setup desk w. halts_if_spent w) k) (ports_of b.controller) b can.spent)
      (follow c d (takes_success a request) (causes_leads c request can.causes_it)
      (follow d e (takes_success a request) (still d e (clears_still d)) (changes_leads e can.changes))))

  -- so it comes, where the switch is met
  pub comes_line : (a : Acted) (m : Message) (asked : Asked) (head : Head) (s : Standing) (line : Line) (under : ℕ) → asked_in m ≡ Some asked
      → in_desk m head a.controller.desk ≡ Some s → answered a.controller.desk m ≡ Done s → (IsAllPorts s.request → ⊥) → is_estab a.controller.adjacency.state ≡ true
      → a.controller.has_met ≡ true → CanFinish input (with_desk a (without_request a.controller.desk s)) s.request
      → Stands node input (part_at input switch a) (record line { at_controller = [] })
      → Reaches node input (part_at input switch (answer_comes a m)) AnyLine (record line { at_controller = Answer under head.number (word_of input asked.request) Success ∷ [] })
  comes_line a m asked head s line under asks found is unlisted estab met can h =
      let left : List Standing = (without_request a.controller.desk s).standing in
      let b : Acted = with_desk a (without_request a.controller.desk s) in
      let same : met_after a.controller.has_met left ≡ a.controller.has_met = ap (λ (t : Bool). met_after t left) met ∙ sym met in
      let hand : Line = record line { at_controller = Answer under head.number (word_of input asked.request) Success ∷ [] } in
      subst (λ (z : Answered). Reaches node input (part_at input switch (takes_answer a z)) AnyLine hand) (sym is)
      (reaches_then node input (answered_part (part_at input switch a) s) (part_at input switch (takes_success b s.request)) (AfterAnswer input s a.controller.has_met (met_after a.controller.has_met left)) AnyLine hand
      (done_line node input switch a m asked head s line under asks found unlisted estab h)
      (λ z k also. done_leads b s.request can z (subst (λ (t : Bool). Stands node input (record (part_at input switch b) { met = t }) z) same k)))

  -- *The meeting ends*: the default channels of the ports are asked
  pub ends_leads : (a : Acted) → CanEach asks (MayAsk input)
      (record a { controller = record a.controller { has_met = true } }) (flat_map default_branches (up_ports a.controller))
      → Goes (record a { controller = record a.controller { has_met = true } }) (ends_meeting a)
  ends_leads a can = each_leads node input switch asks (MayAsk input) (λ b r k. asks_acted node input switch b r k)
      (flat_map default_branches (up_ports a.controller)) (record a { controller = record a.controller { has_met = true } }) can
