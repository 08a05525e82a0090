-- What a few changes of a controller keep, each of its rules keeps, but for what it makes of cells and packets: until an
-- answer of the switch or a change of routes has changes taken, which is `Changes`'

use Rattle.std.proofs.Common.{◌≡◌, ℕ, List, [], ◌∷◌, flat_map, Option, None, Some, true, false, refl, sym, subst, if◌then◌else◌, fold}
use Rattle.std.specs.Prelude.{◌==◌, Ok}
use Rattle.world_model.specs.Words.{PortNo, End, Party, number_of_channel, source_of, RouteChange, Request, AddBranch, MoveBranch, DeleteTree, VerifyTree, PortManagement, Answer, Quiet, Send, Open, Said, is_estab, ticked, greeting_of, gsmp_answer, Record, Part, at, Desk, Standing, is_led_home, last_transaction, empty_desk, sent_again, Action, Setup, home_of, Label, Work, counts, used, hears, resets, restarts, halts_if_spent, Linked, port_key, linked_at, with_linked, with_desk, default_end, default_home, says_gsmp, says_ifmp, sends_request, asks_next, asks, takes_back, withdraws_input, cuts_of, cuts_label, cuts_default_of, cuts_default, cuts_gsmp, begins, with_work, closes_by, port_restarts_of, port_restarts, resets_gsmp, node_resets, node_restarts, does, does_in_estab, resets_of, resets_port, performs, performs_in_estab, works, at_port, join_of, parts, gives_back, releases_join, releases_input, released_inputs, resets_spent, releases, join_for, may_join, enters_grant, enters_label, joins, tries_label, label_on, tries_join, inputs_at, tries_joins, changed_joins, takes_join_back, begins_change, meets, up_ports, default_branches, ends_meeting, has_emptied, tells_port, behind_delete_all, causes_in_estab, may_clear, clears_of, clears_port, ifmp_holds, counted_at, sends_again, ticks_port, ticks_ports, ticks_by}
use Rattle.world_model.specs.ifmp_wire.declared.message.Message.{Message as IfmpMessage}
use Rattle.world_model.specs.gsmp_wire.declared.message.Message.{Message}
use Rattle.world_model.specs.gsmp_wire.declared.message.Message.TheVariants as messages
use Rattle.world_model.specs.gsmp_wire.declared.request.Request.TheVariants.{DeleteAll, AllPorts}
use Rattle.world_model.specs.adjacency_table.declared.message.Answer.TheVariants.{Reset}
use Rattle.world_model.specs.adjacency_table.Side as sides
use Rattle.law_port_facts.specs.ordered_lists.Ordered.{Every}
use Rattle.world_model.specs.port_model.Desk.{asked, message_at}
use Rattle.world_model.specs.port_model.declared.action.Action.TheVariants as actions
use Rattle.world_model.specs.port_model.Answers as port_answers
use Rattle.world_model.specs.port_model.Joins as port_joins
use Rattle.world_model.specs.port_model.Resets.{cleared}
use Rattle.world_model.specs.port_model.Ticks as port_ticks
use Rattle.law_port_facts.specs.Port.{Lives}
use Rattle.law_port_facts.proofs.Keyed.{on_both, on_each, at_key}
use Rattle.law_port_facts.proofs.Rules.{done_goes}
use Rattle.law_port_facts.proofs.Hearings.{hears_goes, ticks_goes}
use Rattle.world_model.specs.Controller.{Acted, ports_of, note}
use Rattle.world_model.specs.Performing as performing
use Rattle.world_model.specs.Joins.{Join, output_joined}
use Rattle.world_model.specs.Meeting.{request_port}
use Rattle.world_model.specs.Gsmp.{answers, steps}
use Rattle.world_model.specs.Ticks.{ticks}
use Rattle.law_rule_walks.proofs.Ports.{AsksOnly, asks_only, Draws, draws, draws_more, Rule, by_steps, by_using, by_counting, by_closing, by_parting, by_joining, by_lending, by_giving_back, Worked, by_rule, by_reset, by_restart, worked_kept}

-- *A linked port* of a controller
abbrev pub Found : Acted → Linked → Type 0
Found a linked = linked_at a.controller linked.setup.port ≡ Some linked

-- *What a few changes keep* of a controller in a run, where K holds of its ports at work and A of what these ask; a label
-- is bound only where labels may be bound
pub record Keeps (Binds : Type 0) (P : Acted → Type 0) (K : Setup → Desk → Work → Type 0) (A : Setup → Action → Type 0) : Type 0 where
  -- a port begins its work, works, has asked, and is put back; a port is cleared
  pub beginning : (a : Acted) (linked : Linked) → Found a linked → P a → K linked.setup a.controller.desk (begins a linked)
  pub working : (setup : Setup) (desk : Desk) (w v : Work) → Worked Binds setup desk w v → K setup desk w → K setup desk v
  pub asking : (setup : Setup) (desk : Desk) (w : Work) → K setup desk w → Every (A setup) w.actions
  pub placing : (a : Acted) (linked : Linked) (w : Work) → Found a linked → K linked.setup a.controller.desk w → P a → P (with_work a linked w)
  pub clearing : (a : Acted) (linked : Linked) → Found a linked → may_clear a.controller linked ≡ true → P a → P (with_linked a (record linked { port = cleared linked.port }))
  -- what it asked is said, noted, and withdrawn; an input's join is noted to end
  pub saying : (setup : Setup) (a : Acted) (message : IfmpMessage) → A setup (actions.Say message) → P a → P (says_ifmp setup.port a message)
  pub noting : (setup : Setup) (a : Acted) (item : Record) → A setup (actions.Note item) → P a → P (note a item)
  pub withdrawing : (setup : Setup) (a : Acted) (input : End) → A setup (actions.Withdraw input) → P a → P (withdraws_input a input)
  pub parting : (a : Acted) (input : End) → P a → P (note a (Part a.controller.node input.port (number_of_channel input.channel)))
  -- the switch is told, and asked under the next number; its adjacency begins anew; it is met, from an empty desk on
  pub telling : (a : Acted) (message : Message) → P a → P (says_gsmp a message)
  pub requesting : (a : Acted) (request : Request) → is_estab a.controller.adjacency.state ≡ true → (a.controller.desk.next == last_transaction) ≡ false → P a → P (with_desk a (asked a.controller.desk request))
  pub resetting : (a : Acted) → P a → P (resets_gsmp a)
  pub emptying : (a : Acted) → P a → P (with_desk a empty_desk)
  pub meeting : (a : Acted) → P a → P (record a { controller = record a.controller { has_met = true } })
  -- a chain is cut: of a label, of a default channel, of the channel of GSMP
  pub cutting_label : (a : Acted) (linked : Linked) (label : ℕ) → Found a linked → P a → P (cuts_of a label (Some linked))
  pub cutting_default : (a : Acted) (linked : Linked) → Found a linked → P a → P (cuts_default_of a (Some linked))
  pub cutting_gsmp : (a : Acted) → P a → P (cuts_gsmp a)
  -- a change of routes is begun
  pub changing : (a : Acted) → P a → P (record a { controller = record a.controller { is_begun = true } })

-- *Ports that ask what any port asks*
abbrev pub AsksOnlyAt : Type 0 → Setup → Desk → Work → Type 0
AsksOnlyAt Binds setup desk w = AsksOnly Binds setup w

pub asks_only_works : {Binds : Type 0} (setup : Setup) (desk : Desk) (w v : Work) → Worked Binds setup desk w v → AsksOnly Binds setup w → AsksOnly Binds setup v
asks_only_works {Binds} setup desk w v worked h = worked_kept (asks_only Binds setup) (λ u q. q) worked h

-- *Ports that give no instance back*
abbrev pub DrawsAt : ℕ → Setup → Desk → Work → Type 0
DrawsAt least setup desk w = Draws least w

pub draws_works : {Binds : Type 0} (least : ℕ) (setup : Setup) (desk : Desk) (w v : Work) → Worked Binds setup desk w v → Draws least w → Draws least v
draws_works least setup desk w v worked h = worked_kept (draws setup least) (λ u q. draws_more least u.instances q) worked h

pub fold_kept : {X : Type 0} (P : Acted → Type 0) (f : Acted → X → Acted) → ((a : Acted) (x : X) → P a → P (f a x)) → (xs : List X) (a : Acted) → P a → P (fold f a xs)
fold_kept P f each [] a h = h
fold_kept P f each (x ∷ xs) a h = fold_kept P f each xs (f a x) (each a x h)

fold_each : {X : Type 0} (P : Acted → Type 0) (Q : X → Type 0) (f : Acted → X → Acted) → ((a : Acted) (x : X) → Q x → P a → P (f a x)) → (xs : List X) → Every Q xs → (a : Acted) → P a → P (fold f a xs)
fold_each P Q f each [] all a h = h
fold_each P Q f each (x ∷ xs) all a h = fold_each P Q f each xs all.1 (f a x) (each a x all.0 h)

module _ {Binds : Type 0} {P : Acted → Type 0} {K : Setup → Desk → Work → Type 0} {A : Setup → Action → Type 0} (k : Keeps Binds P K A) where
  -- *What is done at a port*, where it is linked
  at_linked_as : (f : Option Linked → Acted) (a : Acted) (port : PortNo) → P (f None) → ((linked : Linked) → linked_at a.controller port ≡ Some linked → Found a linked → P (f (Some linked))) → P (f (linked_at a.controller port))
  at_linked_as f a port none some = by (linked_at a.controller port) refl
    where
      by : (o : Option Linked) → linked_at a.controller port ≡ o → P (f o)
      by None e = none
      by (Some linked) e = some linked e (subst (λ n. at port_key n a.controller.ports ≡ Some linked) (sym (at_key port_key port.0 a.controller.ports linked e)) e)

  at_linked : (f : Option Linked → Acted) (a : Acted) (port : PortNo) → P (f None) → ((linked : Linked) → Found a linked → P (f (Some linked))) → P (f (linked_at a.controller port))
  at_linked f a port none some = at_linked_as f a port none (λ linked is found. some linked found)

  -- a port is put back as it was left, and what it asked is done
  placed : (f : PortNo → Acted → Action → Acted) → ((setup : Setup) (a : Acted) (action : Action) → A setup action → P a → P (f setup.port a action))
      → (a : Acted) (linked : Linked) (w : Work) → Found a linked → K linked.setup a.controller.desk w → P a → P (fold (f linked.setup.port) (with_work a linked w) w.actions)
  placed f each a linked w found kept h = fold_each P (A linked.setup) (f linked.setup.port) (each linked.setup) w.actions (k.asking linked.setup a.controller.desk w kept) (with_work a linked w) (k.placing a linked w found kept h)

  -- as one of its rules left it
  worked : (f : PortNo → Acted → Action → Acted) → ((setup : Setup) (a : Acted) (action : Action) → A setup action → P a → P (f setup.port a action))
      → (a : Acted) (linked : Linked) (w : Work) → Found a linked → Worked Binds linked.setup a.controller.desk (begins a linked) w → P a → P (fold (f linked.setup.port) (with_work a linked w) w.actions)
  worked f each a linked w found by_port h = placed f each a linked w found (k.working linked.setup a.controller.desk (begins a linked) w by_port (k.beginning a linked found h)) h

  cut_label_kept : (port : PortNo) (a : Acted) (label : ℕ) → P a → P (cuts_label port a label)
  cut_label_kept port a label h = at_linked (cuts_of a label) a port h (λ linked found. k.cutting_label a linked label found h)

  cut_default_kept : (a : Acted) (port : PortNo) → P a → P (cuts_default a port)
  cut_default_kept a port h = at_linked (cuts_default_of a) a port h (λ linked found. k.cutting_default a linked found h)

  -- *Node reset*
  closes_by_kept : (setup : Setup) (a : Acted) (action : Action) → A setup action → P a → P (closes_by setup.port a action)
  closes_by_kept setup a (actions.Say message) is h = h
  closes_by_kept setup a (actions.Ask request needed) is h = h
  closes_by_kept setup a (actions.Note item) is h = k.noting setup a item is h
  closes_by_kept setup a (actions.CutChain label) is h = cut_label_kept setup.port a label h
  closes_by_kept setup a (actions.TakeBack input output) is h = h
  closes_by_kept setup a (actions.Withdraw input) is h = h
  closes_by_kept setup a actions.Reset is h = h

  port_restarts_kept : (a : Acted) (port : PortNo) → P a → P (port_restarts a port)
  port_restarts_kept a port h = at_linked (port_restarts_of a) a port h (λ linked found. worked closes_by closes_by_kept a linked (restarts linked.setup (begins a linked)) found by_restart h)

  pub node_resets_kept : (a : Acted) → P a → P (node_resets a)
  node_resets_kept a h = fold_kept P port_restarts port_restarts_kept (ports_of a.controller) (resets_gsmp a) (k.resetting a h)

  pub node_restarts_kept : (a : Acted) → P a → P (node_restarts a)
  node_restarts_kept a h = fold_kept P cuts_default cut_default_kept (ports_of a.controller) (cuts_gsmp (node_resets a)) (k.cutting_gsmp (node_resets a) (node_resets_kept a h))

  -- *Asking*
  pub request_kept : (a : Acted) (s : Standing) → P a → P (sends_request a s)
  request_kept a s h = k.telling a (message_at a.controller.desk s) h

  pub asks_kept : (a : Acted) (request : Request) → P a → P (asks a request)
  asks_kept a request h = on_each P (is_estab a.controller.adjacency.state) (if a.controller.desk.next == last_transaction then node_resets a else asks_next a request) a
      (λ estab. on_each P (a.controller.desk.next == last_transaction) (node_resets a) (asks_next a request) (λ spent. node_resets_kept a h)
      (λ room. request_kept (with_desk a (asked a.controller.desk request)) (record { number = a.controller.desk.next; request = request }) (k.requesting a request estab room h))) (λ closed. h)

  pub asks_each_kept : (requests : List Request) (a : Acted) → P a → P (fold asks a requests)
  asks_each_kept requests a h = fold_kept P asks asks_kept requests a h

  pub takes_back_kept : (a : Acted) (input output : End) → P a → P (takes_back a input output)
  takes_back_kept a input output h = on_both P (is_led_home a.controller.desk input (home_of input)) a (asks a (MoveBranch input output (home_of input))) h (asks_kept a (MoveBranch input output (home_of input)) h)

  -- *What a port asked*
  does_kept : (setup : Setup) (a : Acted) (action : Action) → A setup action → P a → P (does setup.port a action)
  does_kept setup a (actions.Say message) is h = k.saying setup a message is h
  does_kept setup a (actions.Ask request needed) is h = asks_kept a request h
  does_kept setup a (actions.Note item) is h = k.noting setup a item is h
  does_kept setup a (actions.CutChain label) is h = cut_label_kept setup.port a label h
  does_kept setup a (actions.TakeBack input output) is h = takes_back_kept a input output h
  does_kept setup a (actions.Withdraw input) is h = k.withdrawing setup a input is h
  does_kept setup a actions.Reset is h = h

  does_in_kept : (setup : Setup) (a : Acted) (action : Action) → A setup action → P a → P (does_in_estab setup.port a action)
  does_in_kept setup a action is h = on_both P (is_estab a.controller.adjacency.state) (does setup.port a action) a (does_kept setup a action is h) h

  resets_kept : (a : Acted) (port : PortNo) → P a → P (resets_port a port)
  resets_kept a port h = at_linked (resets_of a) a port h (λ linked found. worked does_in_estab does_in_kept a linked (resets linked.setup (begins a linked)) found by_reset h)

  performs_kept : (setup : Setup) (a : Acted) (action : Action) → A setup action → P a → P (performs setup.port a action)
  performs_kept setup a (actions.Say message) is h = does_kept setup a (actions.Say message) is h
  performs_kept setup a (actions.Ask request needed) is h = does_kept setup a (actions.Ask request needed) is h
  performs_kept setup a (actions.Note item) is h = does_kept setup a (actions.Note item) is h
  performs_kept setup a (actions.CutChain label) is h = does_kept setup a (actions.CutChain label) is h
  performs_kept setup a (actions.TakeBack input output) is h = does_kept setup a (actions.TakeBack input output) is h
  performs_kept setup a (actions.Withdraw input) is h = does_kept setup a (actions.Withdraw input) is h
  performs_kept setup a actions.Reset is h = resets_kept a setup.port h

  pub performs_in_kept : (setup : Setup) (a : Acted) (action : Action) → A setup action → P a → P (performs_in_estab setup.port a action)
  performs_in_kept setup a action is h = on_both P (is_estab a.controller.adjacency.state) (performs setup.port a action) a (performs_kept setup a action is h) h

  -- what any rule makes of a port, where it leaves it at work as it must be
  pub any_kept : (a : Acted) (port : PortNo) (rule : performing.Rule)
      → ((linked : Linked) → linked_at a.controller port ≡ Some linked → Found a linked → K linked.setup a.controller.desk (rule linked.setup a.controller.desk (begins a linked))) → P a → P (at_port a port rule)
  any_kept a port rule is h = at_linked_as (works a rule) a port h
      (λ linked at_it found. placed performs_in_estab performs_in_kept a linked (rule linked.setup a.controller.desk (begins a linked)) found (is linked at_it found) h)

  pub at_port_kept : (a : Acted) (port : PortNo) (rule : performing.Rule) → ((setup : Setup) (desk : Desk) (w : Work) → Rule Binds setup desk w (rule setup desk w)) → P a → P (at_port a port rule)
  at_port_kept a port rule is h = at_linked (works a rule) a port h
      (λ linked found. (let w : Work = rule linked.setup a.controller.desk (begins a linked) in worked performs_in_estab performs_in_kept a linked w found (by_rule w (is linked.setup a.controller.desk (begins a linked))) h))

  -- a rule of a port that hasn't asked to be reset
  live_kept : (a : Acted) (port : PortNo) (rule : performing.Rule) → ((setup : Setup) (desk : Desk) (w : Work) → w.halted ≡ false → Rule Binds setup desk w (rule setup desk w)) → P a → P (at_port a port rule)
  live_kept a port rule is h = at_linked (works a rule) a port h
      (λ linked found. (let w : Work = rule linked.setup a.controller.desk (begins a linked) in worked performs_in_estab performs_in_kept a linked w found (by_rule w (is linked.setup a.controller.desk (begins a linked) refl)) h))

  -- *Joins*
  parts_kept : (a : Acted) (input : End) → P a → P (parts a input)
  parts_kept a input h = at_port_kept (note a (Part a.controller.node input.port (number_of_channel input.channel))) input.port (λ setup desk w. port_joins.parted w (number_of_channel input.channel))
      (λ setup desk w. by_parting (number_of_channel input.channel)) (k.parting a input h)

  gives_back_kept : (a : Acted) (join : Join) → P a → P (gives_back a join)
  gives_back_kept a join h = at_port_kept a join.port (λ setup desk w. port_joins.given_back w join.grant) (λ setup desk w. by_giving_back join.grant) h

  releases_input_kept : (a : Acted) (input : End) → P a → P (releases_input a input)
  releases_input_kept a input h = by_join (join_of a.controller input)
    where
      by_join : (o : Option Join) → P (releases_join a o)
      by_join None = h
      by_join (Some join) = gives_back_kept (parts a join.input) join (parts_kept a join.input h)

  resets_spent_kept : (a : Acted) (port : PortNo) → P a → P (resets_spent a port)
  resets_spent_kept a port h = at_port_kept a port (λ setup desk w. halts_if_spent w) (λ setup desk w. by_closing) h

  pub releases_kept : (a : Acted) (request : Request) → P a → P (releases a request)
  releases_kept a request h =
      let released : Acted = fold releases_input a (released_inputs a.controller request) in
      fold_kept P resets_spent resets_spent_kept (ports_of released.controller) released (fold_kept P releases_input releases_input_kept (released_inputs a.controller request) a h)

  enters_grant_kept : (a : Acted) (join : Join) → P a → P (enters_grant a join)
  enters_grant_kept a join h = at_port_kept a join.port (λ setup desk w. port_joins.lent w join.grant join.input) (λ setup desk w. by_lending join.grant join.input) h

  enters_label_kept : (a : Acted) (join : Join) → P a → P (enters_label a join)
  enters_label_kept a join h = at_port_kept a join.input.port (λ setup desk w. port_joins.joined w (number_of_channel join.input.channel) (output_joined join))
      (λ setup desk w. by_joining (number_of_channel join.input.channel) (output_joined join)) h

  joins_kept : (a : Acted) (o : Option Join) → P a → P (joins a o)
  joins_kept a None h = h
  joins_kept a (Some join) h = asks_kept (enters_label (enters_grant a join) join) (MoveBranch join.input (home_of join.input) (output_joined join)) (enters_label_kept (enters_grant a join) join (enters_grant_kept a join h))

  tries_join_kept : (a : Acted) (input : End) → P a → P (tries_join a input)
  tries_join_kept a input h = by_label (label_on a.controller input)
    where
      by_label : (o : Option Label) → P (tries_label a input o)
      by_label None = h
      by_label (Some label) = on_both P (may_join a.controller input label) (joins a (join_for a.controller input label.flow)) a (joins_kept a (join_for a.controller input label.flow) h) h

  tries_joins_kept : (a : Acted) → P a → P (tries_joins a)
  tries_joins_kept a h = fold_kept P tries_join tries_join_kept (flat_map inputs_at a.controller.ports) a h

  -- *Changes of routes*
  pub begins_change_kept : (a : Acted) (change : RouteChange) → P a → P (begins_change a change)
  begins_change_kept a change h =
      let begun : Acted = record a { controller = record a.controller { is_begun = true } } in
      on_both P a.controller.is_begun a (fold takes_join_back begun (changed_joins a.controller change)) h
      (fold_kept P takes_join_back (λ b join q. takes_back_kept b join.input (output_joined join) q) (changed_joins a.controller change) begun (k.changing a h))

  -- *The adjacency with the switch*, and meeting it
  meets_kept : (a : Acted) → P a → P (meets a)
  meets_kept a h = asks_kept (with_desk a empty_desk) AllPorts (k.emptying a h)

  ends_meeting_kept : (a : Acted) → P a → P (ends_meeting a)
  ends_meeting_kept a h = asks_each_kept (flat_map default_branches (up_ports a.controller)) (record a { controller = record a.controller { has_met = true } }) (k.meeting a h)

  answers_kept : (a : Acted) (answer : Answer (Said Party) Party) → P a → P (answers a (gsmp_answer answer))
  answers_kept a Quiet h = h
  answers_kept a (Send m) h = k.telling a (messages.Adjacency (greeting_of m)) h
  answers_kept a (Open None own) h = meets_kept a h
  answers_kept a (Open (Some m) own) h = meets_kept (says_gsmp a (messages.Adjacency (greeting_of m))) (k.telling a (messages.Adjacency (greeting_of m)) h)
  answers_kept a Reset h = node_resets_kept a h

  pub steps_kept : (a : Acted) (step : sides.Step Party) → P (record a { controller = record a.controller { adjacency = step.side } }) → P (steps a step)
  steps_kept a step turned = answers_kept (record a { controller = record a.controller { adjacency = step.side } }) step.answer turned

  -- *Answers of the switch*
  behind_kept : (a : Acted) (port : PortNo) → P a → P (behind_delete_all a port)
  behind_kept a port h = on_both P a.controller.has_met (asks a (AddBranch (default_end port) (default_home port))) (if has_emptied a.controller then ends_meeting a else a)
      (asks_kept a (AddBranch (default_end port) (default_home port)) h)
      (on_both P (has_emptied a.controller) (ends_meeting a) a (ends_meeting_kept a h) h)

  pub clears_kept : (a : Acted) (port : PortNo) → P a → P (clears_port a port)
  clears_kept a port h = at_linked (clears_of a) a port h
      (λ linked found. on_each P (may_clear a.controller linked) (with_linked a (record linked { port = cleared linked.port })) a (λ may. k.clearing a linked found may h) (λ may. h))

  -- *Packets*: those of a label's channel are counted as its use, and others by their flows
  pub used_kept : (a : Acted) (port : PortNo) (label : ℕ) → P a → P (at_port a port (λ setup desk w. used w label))
  used_kept a port label h = at_port_kept a port (λ setup desk w. used w label) (λ setup desk w. by_using label) h

  pub counted_kept : (a : Acted) (port : PortNo) (packet : List ℕ) → P a → P (counted_at a port packet)
  counted_kept a port packet h = at_port_kept a port (λ setup desk w. counts setup desk w packet) (λ setup desk w. by_counting packet) h

  -- *Tick*
  again_kept : (a : Acted) → P a → P (sends_again a)
  again_kept a h = on_both P (is_estab a.controller.adjacency.state) (fold sends_request a (sent_again a.controller.desk)) a (fold_kept P sends_request request_kept (sent_again a.controller.desk) a h) h

  -- *Where labels may be bound*
  module _ (binds : Binds) where
    -- what a port makes of an answer
    tells_kept : (a : Acted) (request : Request) (o : Option PortNo) → P a → P (tells_port a request o)
    tells_kept a request None h = h
    tells_kept a request (Some port) h = at_port_kept a port (λ setup desk w. port_answers.done setup w request) (λ setup desk w. by_steps binds _ (done_goes setup desk w request (λ tree. tt))) h

    pub causes_in_kept : (a : Acted) (request : Request) → P a → P (causes_in_estab a request)
    causes_in_kept a (DeleteAll port) h = behind_kept a port h
    causes_in_kept a (AddBranch input output) h = tells_kept a (AddBranch input output) (request_port (AddBranch input output)) h
    causes_in_kept a (MoveBranch input from to) h = tells_kept a (MoveBranch input from to) (request_port (MoveBranch input from to)) h
    causes_in_kept a (DeleteTree input) h = tells_kept a (DeleteTree input) (request_port (DeleteTree input)) h
    causes_in_kept a (VerifyTree input) h = tells_kept a (VerifyTree input) (request_port (VerifyTree input)) h
    causes_in_kept a (PortManagement port function) h = tells_kept a (PortManagement port function) (request_port (PortManagement port function)) h
    causes_in_kept a AllPorts h = h

    -- *What is read* of a peer
    pub ifmp_kept : (a : Acted) (port : PortNo) (packet : List ℕ) (message : IfmpMessage) → Lives message → P a → P (ifmp_holds a port packet (Ok message))
    ifmp_kept a port packet message lives h = live_kept a port (λ setup desk w. hears setup desk w (source_of packet) message)
        (λ setup desk w live. by_steps binds _ (hears_goes setup desk w (source_of packet) message live lives)) h

    ticks_port_kept : (a : Acted) (port : PortNo) → P a → P (ticks_port a port)
    ticks_port_kept a port h = live_kept a port port_ticks.ticks (λ setup desk w live. by_steps binds _ (ticks_goes setup desk w live)) h

    ticks_on_kept : (a : Acted) (step : sides.Step Party) → P (record a { controller = record a.controller { adjacency = step.side } }) → P (tries_joins (ticks_ports (sends_again (steps a step))))
    ticks_on_kept a step turned =
        let again : Acted = sends_again (steps a step) in
        tries_joins_kept (ticks_ports again) (fold_kept P ticks_port ticks_port_kept (ports_of again.controller) again (again_kept (steps a step) (steps_kept a step turned)))

    ticks_by_kept : (a : Acted) (step : sides.Step Party) (answer : Answer (Said Party) Party) → P (record a { controller = record a.controller { adjacency = step.side } }) → P a → P (ticks_by a step answer)
    ticks_by_kept a step Quiet turned h = ticks_on_kept a step turned
    ticks_by_kept a step (Send m) turned h = ticks_on_kept a step turned
    ticks_by_kept a step (Open m own) turned h = ticks_on_kept a step turned
    ticks_by_kept a step Reset turned h = node_resets_kept a h

    -- a tick, once the adjacency with the switch has aged
    pub ticks_kept : (a : Acted) → P (record a { controller = record a.controller { adjacency = (ticked a.controller.adjacency).side } }) → P a → P (ticks a)
    ticks_kept a turned h = ticks_by_kept a (ticked a.controller.adjacency) (ticked a.controller.adjacency).answer turned h
