-- what the switch says makes a port say nothing that has no label or grant to speak of

use Rattle.std.proofs.Common.{◌≡◌, ℕ, ◌≤◌, Bool, true, false, List, [], ◌∷◌, map, Option, None, Some, Result, refl, sym, ◌∙◌, ap, subst, fold, if◌then◌else◌}
use Rattle.std.specs.Prelude.{◌==◌, Ok, Err, flat_map}
use Rattle.std.specs.Option.{option_map, option_map_or}
use Rattle.world_model.specs.Words.{PortNo, End, Cell, Party, Said, Answer, Quiet, Send, Open, greeting_of, gsmp_answer, gsmp_received, number_of_channel, label_number_of, RouteChange, Request, AddBranch, MoveBranch, DeleteTree, VerifyTree, PortManagement, Part, is_estab, put, same_end, empty_desk, Setup, Label, LabelState, Offered, label_number, label_at, label_by, labels_of, Session, is_spent, Grant, GrantState, Idle, ByController, ByInput, Leaving, grant_label, grant_on, is_leaving, Work, halts, halts_if_spent, joins_label, bound, bound_in, freed, freed_in, started, given_back_in, Linked, port_key, linked_at, with_linked, with_desk, asks, says_gsmp, join_to, joins_at, end_le, joins_of, join_of, parts, releases_join, releases_input, released_inputs, resets_spent, releases, up_ports, default_branches, ends_meeting, has_emptied, tells_port, behind_delete_all, causes_in_estab, causes, may_clear, clears_of, clears_port, clears, changed_joins, takes_join_back, begins_change, takes_change, may_take, takes_each, takes_changes, default_end, default_home, Answered, Unknown, Done, Ports, Failed, answered, after_answer, answer_comes, meets, gsmp_holds}
use Rattle.world_model.specs.Controller.{Acted, ports_of, note}
use Rattle.world_model.specs.Joins.{Join, output_joined}
use Rattle.world_model.specs.Meeting.{request_port, takes_success, answers_desk}
use Rattle.world_model.specs.Gsmp.{answers, steps, message_comes}
use Rattle.world_model.specs.adjacency_table.Side as sides
use Rattle.world_model.specs.adjacency_table.declared.message.Answer.TheVariants.{Reset}
use Rattle.world_model.specs.gsmp_wire.declared.fault.Fault.{Fault}
use Rattle.world_model.specs.gsmp_wire.declared.message.Message.{Message}
use Rattle.world_model.specs.gsmp_wire.declared.message.Message.TheVariants as messages
use Rattle.world_model.specs.gsmp_wire.declared.request.Request.TheVariants.{DeleteAll, AllPorts}
use Rattle.world_model.specs.link_model.declared.record.Record.TheVariants as records
use Rattle.world_model.specs.port_model.declared.action.Action.TheVariants as actions
use Rattle.world_model.specs.port_model.Answers as port_answers
use Rattle.world_model.specs.port_model.Grants.{lent_input}
use Rattle.world_model.specs.port_model.Joins as port_joins
use Rattle.world_model.specs.port_model.Port.{Port}
use Rattle.world_model.specs.port_model.Resets.{cleared}
use Rattle.law_port_facts.specs.ordered_lists.Ordered.{Every}
use Rattle.law_port_facts.proofs.ordered_lists.Every.{every_all}
use Rattle.law_port_facts.proofs.Keyed.{on_both, at_key, at_every, put_every, by_eq}
use Rattle.law_port_facts.proofs.Found.{find_every}
use Rattle.law_controller_facts.proofs.Joining.{every_flat_map, every_filter_map, every_in_order}
use Rattle.law_live_unsaid.proofs.Walks.{Terms, IsStill, Kept, IsMute, fold_kept, told_kept, back_kept, reset_kept, asks_kept, asks_each_kept, takes_back_kept, rule_kept}

-- *A port is silent*: its numbers aren't spent, each label that it gives is offered, and no grant is leaving
abbrev IsOffered : Label → Type 0
IsOffered label = label.state ≡ Offered

abbrev Stays : Grant → Type 0
Stays grant = is_leaving grant.state ≡ false

pub record IsSilent (p : Port) : Type 0 where
  pub unspent : is_spent p.session ≡ false
  pub labels : Every IsOffered (labels_of p)
  pub grants : Every Stays p.grants

-- so is one without a session and grants
pub silent_anew : (p : Port) → p.session ≡ None → p.grants ≡ [] → IsSilent p
silent_anew p session grants = record {
  unspent = ap is_spent session;
  labels = subst (λ (o : Option Session). Every IsOffered (option_map_or (λ (s : Session). s.labels) o [])) (sym session) tt;
  grants = subst (Every Stays) (sym grants) tt;
}

-- and one of which a label or a grant is put that is so
relabelled : (p : Port) (label : Label) → IsOffered label → IsSilent p → IsSilent (record p { session = option_map (λ (s : Session). record s { labels = put label_number label s.labels }) p.session })
relabelled p label offered is = record { unspent = spent p.session ∙ is.unspent; labels = by p.session is.labels; grants = is.grants }
  where
    changed : Option Session → Option Session
    changed o = option_map (λ (s : Session). record s { labels = put label_number label s.labels }) o

    spent : (o : Option Session) → is_spent (changed o) ≡ is_spent o
    spent None = refl
    spent (Some s) = refl

    by : (o : Option Session) → Every IsOffered (option_map_or (λ (s : Session). s.labels) o []) → Every IsOffered (option_map_or (λ (s : Session). s.labels) (changed o) [])
    by None each = tt
    by (Some s) each = put_every label_number IsOffered label s.labels offered each

regranted : (p : Port) (grant : Grant) → Stays grant → IsSilent p → IsSilent (record p { grants = put grant_label grant p.grants })
regranted p grant stays is = record { unspent = is.unspent; labels = is.labels; grants = put_every grant_label Stays grant p.grants stays is.grants }

-- *A silent port at work*
abbrev pub silent : (port : PortNo) → 1 ≤ port.0 → (began : List Cell) → Terms
silent port link began = record { port = port; link = link; is = IsSilent; anew = silent_anew; began = began }

module _ (port : PortNo) (link : 1 ≤ port.0) (began : List Cell) where
  abbrev t : Terms
  t = silent port link began

  abbrev Mute : Work → Type 0
  Mute w = IsMute t w

  abbrev pub Goes : Acted → Type 0
  Goes a = Kept t a

  module _ (setup : Setup) (p : Port) (instances : ℕ) (is : IsSilent p) where
    abbrev w : Work
    w = record { port = p; actions = []; halted = false; instances = instances }

    idle : Mute w
    idle = record { still = is; hushed = tt }

    label_offered : (number : ℕ) (label : Label) → label_at p number ≡ Some label → IsOffered label
    label_offered number label found = at_every label_number IsOffered number (labels_of p) label is.labels found

    -- a label is parted, and a grant given back
    parted_mute : (number : ℕ) → Mute (port_joins.parted w number)
    parted_mute number = by (label_at p number) refl
      where
        by : (o : Option Label) → label_at p number ≡ o → Mute (joins_label w None o)
        by None found = idle
        by (Some label) found = record { still = relabelled p (record label { join = None }) (label_offered number label found) is; hushed = tt }

    given_mute : (grant : Grant) → Stays grant → Mute (port_joins.given_back w grant)
    given_mute grant stays = in_state grant.state refl
      where
        in_state : (state : GrantState) → grant.state ≡ state → Mute (given_back_in w grant state)
        in_state Idle e = idle
        in_state ByController e = idle
        in_state (ByInput input) e = record { still = regranted p (record grant { state = ByController }) refl is; hushed = tt }
        in_state (Leaving input owed) e = absurd (cc (sym (ap is_leaving e) ∙ stays))

    -- its numbers aren't spent
    unspent_mute : Mute (halts_if_spent w)
    unspent_mute = subst (λ (b : Bool). Mute (if b then halts w else w)) (sym is.unspent) idle

    -- *A success*
    bound_mute : (number : Option ℕ) → Mute (bound setup w (label_by p number))
    bound_mute None = idle
    bound_mute (Some number) = by (label_at p number) refl
      where
        by : (o : Option Label) → label_at p number ≡ o → Mute (bound setup w o)
        by None found = idle
        by (Some label) found = subst (λ (s : LabelState). Mute (bound_in setup w label s)) (sym (label_offered number label found)) idle

    freed_mute : (number : Option ℕ) → Mute (freed setup w (label_by p number))
    freed_mute None = idle
    freed_mute (Some number) = by (label_at p number) refl
      where
        by : (o : Option Label) → label_at p number ≡ o → Mute (freed setup w o)
        by None found = idle
        by (Some label) found = subst (λ (s : LabelState). Mute (freed_in setup w label s)) (sym (label_offered number label found)) idle

    started_mute : (number : Option ℕ) → Mute (started w (grant_on p.grants number))
    started_mute number = by (grant_on p.grants number)
      where
        in_state : (grant : Grant) (state : GrantState) → Mute (port_answers.started_in w grant state)
        in_state grant Idle = record { still = regranted p (record grant { state = ByController }) refl is; hushed = tt }
        in_state grant ByController = idle
        in_state grant (ByInput input) = idle
        in_state grant (Leaving input owed) = idle

        by : (o : Option Grant) → Mute (started w o)
        by None = idle
        by (Some grant) = in_state grant grant.state

    done_mute : (request : Request) → Mute (port_answers.done setup w request)
    done_mute (AddBranch input output) = on_both Mute (input.port.0 == 0) (started w (grant_on p.grants (label_number_of output.channel))) (bound setup w (label_by p (label_number_of input.channel)))
        (started_mute (label_number_of output.channel)) (bound_mute (label_number_of input.channel))
    done_mute (MoveBranch input from to) = by (to.port.0 == 0)
      where
        by : (b : Bool) → Mute (if b then w else record w { actions = actions.Note (records.Join setup.node setup.port (number_of_channel input.channel) to.port (number_of_channel to.channel)) ∷ [] })
        by true = idle
        by false = record { still = is; hushed = (tt, tt) }
    done_mute (DeleteTree input) = freed_mute (label_number_of input.channel)
    done_mute (VerifyTree input) = idle
    done_mute (DeleteAll q) = idle
    done_mute (PortManagement q function) = idle
    done_mute AllPorts = idle

  -- *A join to the port* is under a grant that stays
  abbrev JoinStays : Join → Type 0
  JoinStays join = join.port.0 ≡ port.0 → Stays join.grant

  join_to_stays : (q : PortNo) (grant : Grant) (join : Join) → (q.0 ≡ port.0 → Stays grant) → join_to q grant ≡ Some join → JoinStays join
  join_to_stays q grant join stays e = by (lent_input grant.state) e
    where
      one : (x y : Join) → Some x ≡ Some y → x ≡ y
      one x y e = cc

      led : End → Join
      led input = record { input = input; port = q; grant = grant }

      by : (o : Option End) → option_map led o ≡ Some join → JoinStays join
      by None e = absurd (cc e)
      by (Some input) e = subst JoinStays (one (led input) join e) stays

  joins_stay : (linked : Linked) → IsStill t linked → Every JoinStays (joins_at linked)
  joins_stay linked still = by_eq (port_key linked) port.0
      (λ same b. every_filter_map Stays JoinStays (join_to linked.setup.port) (λ grant stays join e. join_to_stays linked.setup.port grant join (λ own. stays) e) linked.port.grants (still same).grants)
      (λ apart b. every_filter_map (λ (g : Grant). Unit {0}) JoinStays (join_to linked.setup.port) (λ grant any join e. join_to_stays linked.setup.port grant join (λ own. absurd (apart own)) e)
      linked.port.grants (every_all (λ (g : Grant). Unit {0}) linked.port.grants (λ g. tt)))

  join_stays : (a : Acted) (input : End) (join : Join) → join_of a.controller input ≡ Some join → Goes a → JoinStays join
  join_stays a input join e h = find_every JoinStays (λ (j : Join). same_end j.input input) (joins_of a.controller) join
      (every_in_order JoinStays (λ (x : Join) (y : Join). end_le x.input y.input) (flat_map joins_at a.controller.ports)
      (every_flat_map (IsStill t) JoinStays joins_at joins_stay a.controller.ports h.still)) e

  -- *Joins are released*
  parts_kept : (a : Acted) (input : End) → Goes a → Goes (parts a input)
  parts_kept a input h =
      let b : Acted = note a (Part a.controller.node input.port (number_of_channel input.channel)) in
      rule_kept t b input.port (λ setup desk v. port_joins.parted v (number_of_channel input.channel))
      (λ l found own still. parted_mute l.setup l.port b.numbers.instances still (number_of_channel input.channel)) (record { still = h.still; since = h.since })

  input_kept : (a : Acted) (input : End) → Goes a → Goes (releases_input a input)
  input_kept a input h = by (join_of a.controller input) refl
    where
      by : (o : Option Join) → join_of a.controller input ≡ o → Goes (releases_join a o)
      by None is = h
      by (Some join) is =
          let b : Acted = parts a join.input in
          rule_kept t b join.port (λ setup desk v. port_joins.given_back v join.grant)
          (λ l found own still. given_mute l.setup l.port b.numbers.instances still join.grant (join_stays a input join is h (sym (at_key port_key join.port.0 b.controller.ports l found) ∙ own)))
          (parts_kept a join.input h)

  spent_kept : (a : Acted) (q : PortNo) → Goes a → Goes (resets_spent a q)
  spent_kept a q h = rule_kept t a q (λ setup desk v. halts_if_spent v) (λ l found own still. unspent_mute l.setup l.port a.numbers.instances still) h

  all_kept : {X : Type 0} (f : Acted → X → Acted) → ((a : Acted) (x : X) → Goes a → Goes (f a x)) → (xs : List X) (a : Acted) → Goes a → Goes (fold f a xs)
  all_kept f each xs a h = fold_kept t f each xs a h

  releases_kept : (a : Acted) (request : Request) → Goes a → Goes (releases a request)
  releases_kept a request h =
      let released : Acted = fold releases_input a (released_inputs a.controller request) in
      all_kept resets_spent spent_kept (ports_of released.controller) released (all_kept releases_input input_kept (released_inputs a.controller request) a h)

  -- *What a success causes*
  asked_kept : (a : Acted) (request : Request) → Goes a → Goes (asks a request)
  asked_kept a request h = asks_kept t a request h

  all_asked : (requests : List Request) (a : Acted) → Goes a → Goes (fold asks a requests)
  all_asked requests a h = asks_each_kept t requests a h

  meeting_kept : (a : Acted) → Goes a → Goes (ends_meeting a)
  meeting_kept a h = all_asked (flat_map default_branches (up_ports a.controller)) (record a { controller = record a.controller { has_met = true } }) (record { still = h.still; since = h.since })

  behind_kept : (a : Acted) (q : PortNo) → Goes a → Goes (behind_delete_all a q)
  behind_kept a q h = on_both Goes a.controller.has_met (asks a (AddBranch (default_end q) (default_home q))) (if has_emptied a.controller then ends_meeting a else a)
      (asked_kept a (AddBranch (default_end q) (default_home q)) h)
      (on_both Goes (has_emptied a.controller) (ends_meeting a) a (meeting_kept a h) h)

  tells_kept : (a : Acted) (request : Request) (o : Option PortNo) → Goes a → Goes (tells_port a request o)
  tells_kept a request None h = h
  tells_kept a request (Some q) h = rule_kept t a q (λ setup desk v. port_answers.done setup v request) (λ l found own still. done_mute l.setup l.port a.numbers.instances still request) h

  caused_kept : (a : Acted) (request : Request) → Goes a → Goes (causes_in_estab a request)
  caused_kept a (DeleteAll q) h = behind_kept a q h
  caused_kept a (AddBranch input output) h = tells_kept a (AddBranch input output) (request_port (AddBranch input output)) h
  caused_kept a (MoveBranch input from to) h = tells_kept a (MoveBranch input from to) (request_port (MoveBranch input from to)) h
  caused_kept a (DeleteTree input) h = tells_kept a (DeleteTree input) (request_port (DeleteTree input)) h
  caused_kept a (VerifyTree input) h = tells_kept a (VerifyTree input) (request_port (VerifyTree input)) h
  caused_kept a (PortManagement q function) h = tells_kept a (PortManagement q function) (request_port (PortManagement q function)) h
  caused_kept a AllPorts h = h

  causes_kept : (a : Acted) (request : Request) → Goes a → Goes (causes a request)
  causes_kept a request h = on_both Goes (is_estab a.controller.adjacency.state) (causes_in_estab a request) a (caused_kept a request h) h

  -- *A port is cleared*, and says nothing
  clear_kept : (a : Acted) (q : PortNo) → Goes a → Goes (clears_port a q)
  clear_kept a q h = by (linked_at a.controller q) refl
    where
      by : (o : Option Linked) → linked_at a.controller q ≡ o → Goes (clears_of a o)
      by None found = h
      by (Some linked) found = on_both Goes (may_clear a.controller linked) (with_linked a (record linked { port = cleared linked.port })) a
          (back_kept t a (record linked { port = cleared linked.port }) (λ own. still (at_every port_key (IsStill t) q.0 a.controller.ports linked h.still found own)) h) h
        where
          still : IsSilent linked.port → IsSilent (cleared linked.port)
          still is = record { unspent = is.unspent; labels = is.labels; grants = is.grants }

  -- *Changes of routes*
  begins_kept : (a : Acted) (change : RouteChange) → Goes a → Goes (begins_change a change)
  begins_kept a change h =
      let begun : Acted = record a { controller = record a.controller { is_begun = true } } in
      on_both Goes a.controller.is_begun a (fold takes_join_back begun (changed_joins a.controller change)) h
      (all_kept takes_join_back (λ b join k. takes_back_kept t b join.input (output_joined join) k) (changed_joins a.controller change) begun
      (record { still = h.still; since = h.since }))

  each_kept : (changes : List RouteChange) (a : Acted) → Goes a → Goes (takes_each a changes)
  each_kept [] a h = h
  each_kept (change ∷ later) a h =
      let begun : Acted = begins_change a change in
      let k : Goes begun = begins_kept a change h in
      on_both Goes (may_take begun.controller change) (takes_each (takes_change begun change later) later) begun
      (each_kept later (takes_change begun change later) (record { still = k.still; since = k.since })) k

  changes_kept : (a : Acted) → Goes a → Goes (takes_changes a)
  changes_kept a h = on_both Goes a.controller.has_met (takes_each a a.controller.waiting) a (each_kept a.controller.waiting a h) h

  -- *An answer*
  success_kept : (a : Acted) (request : Request) → Goes a → Goes (takes_success a request)
  success_kept a request h =
      let caused : Acted = causes (releases a request) request in
      changes_kept (clears caused) (all_kept clears_port clear_kept (ports_of caused.controller) caused (causes_kept (releases a request) request (releases_kept a request h)))

  answered_kept : (a : Acted) (answer : Answered) → Goes a → Goes (answers_desk a answer)
  answered_kept a Unknown h = h
  answered_kept a (Done s) h = success_kept a s.request h
  answered_kept a (Ports s rows) h = all_asked (map DeleteAll (record { 0 = 0 } ∷ up_ports a.controller)) a h
  answered_kept a (Failed s code) h = reset_kept t a h

  answer_kept : (a : Acted) (message : Message) → Goes a → Goes (answer_comes a message)
  answer_kept a message h =
      let answer : Answered = answered a.controller.desk message in
      answered_kept (with_desk a (after_answer a.controller.desk answer)) answer (record { still = h.still; since = h.since })

  -- *The adjacency with the switch* answers
  meets_kept : (a : Acted) → Goes a → Goes (meets a)
  meets_kept a h = asked_kept (with_desk a empty_desk) AllPorts (record { still = h.still; since = h.since })

  turns_kept : (a : Acted) (answer : Answer (Said Party) Party) → Goes a → Goes (answers a (gsmp_answer answer))
  turns_kept a Quiet h = h
  turns_kept a (Send m) h = told_kept t a (messages.Adjacency (greeting_of m)) h
  turns_kept a (Open None own) h = meets_kept a h
  turns_kept a (Open (Some m) own) h = meets_kept (says_gsmp a (messages.Adjacency (greeting_of m))) (told_kept t a (messages.Adjacency (greeting_of m)) h)
  turns_kept a Reset h = reset_kept t a h

  steps_kept : (a : Acted) (step : sides.Step Party) → Goes a → Goes (steps a step)
  steps_kept a step h = turns_kept (record a { controller = record a.controller { adjacency = step.side } }) step.answer (record { still = h.still; since = h.since })

  message_kept : (a : Acted) (message : Message) → Goes a → Goes (message_comes a message)
  message_kept a (messages.Adjacency greeting) h = steps_kept a (gsmp_received a.controller.adjacency greeting) h
  message_kept a (messages.Branch kind result code number session input_port input output_port output branches priority) h =
      answer_kept a (messages.Branch kind result code number session input_port input output_port output branches priority) h
  message_kept a (messages.Move result code number session input_port input output_port output target_port target branches priority) h =
      answer_kept a (messages.Move result code number session input_port input output_port output target_port target branches priority) h
  message_kept a (messages.Port result code number port_named session function) h = answer_kept a (messages.Port result code number port_named session function) h
  message_kept a (messages.AllPorts result code number rows) h = answer_kept a (messages.AllPorts result code number rows) h

  pub gsmp_kept : (a : Acted) (r : Result Message Fault) → Goes a → Goes (gsmp_holds a r)
  gsmp_kept a (Ok message) h = message_kept a message h
  gsmp_kept a (Err fault) h = record { still = h.still; since = h.since }
