-- what an answer of the switch does to its controller, as moves of the line of a label: releases, what the answer causes,
-- ports that are cleared, and changes of routes

use Rattle.std.proofs.Common.{◌≡◌, ℕ, suc, ◌≤◌, ◌<◌, ◌+◌, Bool, true, false, List, [], ◌∷◌, length, Option, None, Some, Result, Ok, Err, refl, sym, ◌∙◌, ap, subst, arith, fold, if◌then◌else◌}
use Rattle.std.specs.Prelude.{◌^◌, ◌==◌, ◌&&◌}
use Rattle.std.specs.Option.{option_and_then}
use Rattle.std.proofs.lemmas.Bool.Decides.{nat_tests}
use Rattle.world_model.specs.Words.{PortNo, End, Clearing, is_estab, gsmp_received, Request, AddBranch, MoveBranch, DeleteTree, VerifyTree, PortManagement, Bad, Gsmp, gsmp_refusal, at, Desk, Standing, Answered, Unknown, Done, Ports, Failed, answered, after_answer, Setup, Grant, Controller, Linked, port_key, linked_at, with_linked, with_desk, default_end, default_home, begins, node_resets, asks, ends_meeting, is_deleting, has_emptied, port_of_input, tells_port, behind_delete_all, causes_in_estab, causes, is_clearing, awaits_nothing, may_clear, clears_of, clears_port, clears, takes_answer, answer_comes, releases, gsmp_holds}
use Rattle.world_model.specs.gsmp_wire.declared.fault.Fault.{Fault}
use Rattle.world_model.specs.gsmp_wire.declared.message.Message.{Message}
use Rattle.world_model.specs.gsmp_wire.declared.message.Message.TheVariants as messages
use Rattle.world_model.specs.gsmp_wire.declared.request.Request.TheVariants.{DeleteAll, AllPorts}
use Rattle.world_model.specs.port_model.Messages.{is_up}
use Rattle.law_label_events.proofs.law_port_facts.Keyed.{on_both, on_each, by_eq, at_key}
use Rattle.law_label_events.proofs.law_port_facts.Rules.{and_first, and_second}
use Rattle.law_label_events.specs.law_label_line.Cells.{Role}
use Rattle.law_label_events.specs.law_port_views.Link.{LinkLabel}
use Rattle.law_label_events.specs.law_port_views.Reaching.{Reaches}
use Rattle.law_label_events.proofs.law_port_views.Resets.{clears_reach}
use Rattle.world_model.specs.port_model.Answers as port_answers
use Rattle.world_model.specs.port_model.Resets.{cleared}
use Rattle.world_model.specs.Controller.{Acted, ports_of}
use Rattle.world_model.specs.Meeting.{takes_success}
use Rattle.world_model.specs.Gsmp.{message_comes}
use Rattle.law_label_events.proofs.law_controller_facts.Moves.{HasPorts, moves_to, answering}
use Rattle.law_label_events.proofs.law_controller_facts.Laws.{has_ports}
use Rattle.law_run_facts.specs.law_controller.Match.{lent_in, lent_at}
use Rattle.law_run_facts.proofs.law_controller.Pairing.{clearing_of}
use Rattle.law_label_events.specs.law_controller_views.Ends.{EndGoes}
use Rattle.law_label_events.specs.law_controller_views.Lifted.{IsProper}
use Rattle.law_label_events.proofs.law_controller_views.Parts.{kept_chain, end_stays, end_then, quiet_leads}
use Rattle.law_label_events.proofs.law_controller_views.Works.{linked_is, own_put, own_grows, quiet_put, quiet_same, quiet_note, node_resets_leads}
use Rattle.law_label_events.proofs.law_controller_views.AtPort.{at_port_leads}
use Rattle.law_label_events.specs.law_controller_views.Ready.{IsReady, FitsLink}
use Rattle.law_label_events.proofs.law_controller_lifts.Lifts.{done_lifted}
use Rattle.law_label_events.proofs.law_controller_lifts.Kept.{same_ports}
use Rattle.law_label_events.proofs.law_controller_lifts.Unspent.{Unspent, unspent_closed}
use Rattle.law_label_events.proofs.law_controller_lifts.Ready.{Fits, fits_closed, Readies, moves_ready}
use Rattle.law_label_events.proofs.law_controller_lifts.Follow.{steps_follow, empties_follow, behind_follow, changes_follow}
use Rattle.law_label_events.proofs.law_controller_lifts.Ways.{leads_followed}
use Rattle.law_lasting_joins.proofs.Lent.{Keeps, asks_keep, tells_keep, clears_keep}
use Rattle.law_lasting_joins.proofs.Unmet.{unmet_desk}
use Rattle.law_label_worlds.proofs.Released.{To, Unled, Lends, Tied, tied_on, Kept, AreReleased, releases_lead}

-- *A port that may be cleared* is in Clearing, and has no grant
none_left : (grants : List Grant) → (length grants == 0) ≡ true → grants ≡ []
none_left [] e = refl
none_left (grant ∷ grants) e = absurd (not_empty (length grants) e)
  where
    not_empty : (n : ℕ) → (suc n == 0) ≡ true → ⊥
    not_empty n e = grind (arith, nat_tests)

record MayClear (c : Controller) (linked : Linked) : Type 0 where
  clearing : linked.port.adjacency.state ≡ Clearing
  none : linked.port.grants ≡ []
  met : c.has_met ≡ true

may_be : (c : Controller) (linked : Linked) → may_clear c linked ≡ true → MayClear c linked
may_be c linked may =
    let port : (is_clearing linked.port.adjacency.state && length linked.port.grants == 0) ≡ true = and_first (is_clearing linked.port.adjacency.state && length linked.port.grants == 0)
    ((c.has_met && is_up c.desk.rows linked.setup.port) && awaits_nothing c linked.setup.port) may in
    let switch : (c.has_met && is_up c.desk.rows linked.setup.port) ≡ true = and_first (c.has_met && is_up c.desk.rows linked.setup.port) (awaits_nothing c linked.setup.port)
    (and_second (is_clearing linked.port.adjacency.state && length linked.port.grants == 0) ((c.has_met && is_up c.desk.rows linked.setup.port) && awaits_nothing c linked.setup.port) may) in
    record {
      clearing = clearing_of linked.port.adjacency.state (and_first (is_clearing linked.port.adjacency.state) (length linked.port.grants == 0) port);
      none = none_left linked.port.grants (and_second (is_clearing linked.port.adjacency.state) (length linked.port.grants == 0) port);
      met = and_first c.has_met (is_up c.desk.rows linked.setup.port) switch;
    }

module _ (setups : List Setup) (link : LinkLabel) (proper : IsProper link) (fit : FitsLink link) (like : Type 0) (role : Role) where
  abbrev pub Leads : Acted → Acted → Type 0
  Leads a b = To setups link proper fit like role a b

  -- *What the answer causes*
  tells_lead : (a : Acted) (request : Request) (port : PortNo) → IsReady setups a.controller → Leads a (tells_port a request (Some port))
  tells_lead a request port ready = at_port_leads link proper like role a port (λ setup desk w. port_answers.done setup w request) (done_lifted setups a ready link proper fit like role port request)

  causes_in : (a : Acted) (request : Request) → IsReady setups a.controller → Leads a (causes_in_estab a request)
  causes_in a (AddBranch input output) ready = tells_lead a (AddBranch input output) (port_of_input input output) ready
  causes_in a (MoveBranch input from to) ready = tells_lead a (MoveBranch input from to) (port_of_input input to) ready
  causes_in a (DeleteTree input) ready = tells_lead a (DeleteTree input) input.port ready
  causes_in a (VerifyTree input) ready = tells_lead a (VerifyTree input) input.port ready
  causes_in a (DeleteAll port) ready = behind_follow Leads (leads_followed link proper like role) a port
  causes_in a (PortManagement port function) ready = tells_lead a (PortManagement port function) port ready
  causes_in a AllPorts ready = end_stays link like role a []

  causes_lead : (a : Acted) (request : Request) → IsReady setups a.controller → Leads a (causes a request)
  causes_lead a request ready = on_both (Leads a) (is_estab a.controller.adjacency.state) (causes_in_estab a request) a (causes_in a request ready) (end_stays link like role a [])

  -- *Ports are cleared*
  cleared_leads : (a : Acted) (q : PortNo) (linked : Linked) → linked_at a.controller q ≡ Some linked → (q.0 ≡ (link.port role).0 → like → ⊥) → linked.port.grants ≡ [] → linked.port.adjacency.state ≡ Clearing
      → Leads a (with_linked a (record linked { port = cleared linked.port }))
  cleared_leads a q linked found unlike none clearing unmade line e =
      by_eq q.0 (link.port role).0
      (λ same t.
      let is : linked ≡ e.linked = linked_is linked e.linked (sym found ∙ (ap (λ (n : ℕ). at port_key n a.controller.ports) same ∙ e.found)) in
      let r : Reaches role link like e.queued (record (begins a e.linked) { port = cleared e.linked.port }) line = clears_reach link like e.queued role (begins a e.linked) line (unlike same)
      (ap (λ (x : Linked). x.port.grants) (sym is) ∙ none) (ap (λ (x : Linked). x.port.adjacency.state) (sym is) ∙ clearing) e.shown in
      subst (λ (z : Linked). EndGoes link like role a (with_linked a (record z { port = cleared z.port })) [] line) (sym is)
      (record {
        moves = r.moves;
        after = r.after;
        is = r.is;
        end = own_put link proper like role a (record e.linked { port = cleared e.linked.port }) a.notes a.numbers.instances [] [] line refl (omega arith) e refl refl
            (r.after, r.shown, r.rest, kept_chain role role r.after line r.rest);
        rest = r.rest;
        grows = own_grows link proper like role a (record e.linked { port = cleared e.linked.port }) a.notes a.numbers.instances refl (omega arith);
      }))
      (λ differ t. quiet_leads link like role a (with_linked a (record linked { port = cleared linked.port })) []
      (quiet_put link proper like role a (record linked { port = cleared linked.port }) a.notes a.numbers.instances refl (omega arith)
      (λ k. differ (sym (at_key port_key q.0 a.controller.ports linked found) ∙ k))) unmade line e)

  module _ (request : Request) where
    abbrev pub IsTied : Acted → Type 0
    IsTied a = Tied setups link proper fit like role request a

    on_tied : (a b : Acted) → Keeps setups (link.port role).0 link.label (Unled setups link proper fit like role request) a b → IsTied a → IsTied b
    on_tied a b k t = tied_on setups link proper fit like role request a b k t

    clear_leads : (a : Acted) (q : PortNo) → IsTied a → Leads a (clears_port a q)
    clear_leads a q t = by (linked_at a.controller q) refl
      where
        none_some : (x : End) → None ≡ Some x → ⊥
        none_some x e = absurd (cc e)

        unlike : (linked : Linked) → linked_at a.controller q ≡ Some linked → MayClear a.controller linked → q.0 ≡ (link.port role).0 → like → ⊥
        unlike linked found may same l =
            let x : Lends setups link proper fit like role request a.controller = t may.met l in
            none_some x.input (sym (ap (λ (n : ℕ). lent_at a.controller.ports n link.label) (sym same)
            ∙ (ap (option_and_then (λ (y : Linked). lent_in y.port.grants link.label)) found ∙ ap (λ (gs : List Grant). lent_in gs link.label) may.none)) ∙ x.lent)

        by : (o : Option Linked) → linked_at a.controller q ≡ o → Leads a (clears_of a o)
        by None found = end_stays link like role a []
        by (Some linked) found = on_each (Leads a) (may_clear a.controller linked) (with_linked a (record linked { port = cleared linked.port })) a
            (λ may. (let m : MayClear a.controller linked = may_be a.controller linked may in cleared_leads a q linked found (unlike linked found m) m.none m.clearing))
            (λ no. end_stays link like role a [])

    ports_lead : (ports : List PortNo) (a : Acted) → IsTied a → Leads a (fold clears_port a ports)
    ports_lead [] a t = end_stays link like role a []
    ports_lead (q ∷ ports) a t = end_then link like role a (clears_port a q) (fold clears_port (clears_port a q) ports) [] [] [] (clear_leads a q t)
        (ports_lead ports (clears_port a q) (on_tied a (clears_port a q) (clears_keep setups (link.port role).0 link.label (Unled setups link proper fit like role request) a q) t))

    clears_lead : (a : Acted) → IsTied a → Leads a (clears a)
    clears_lead a t = ports_lead (ports_of a.controller) a t

    -- *Tied* behind what the answer causes
    abbrev Emptied : Acted → Type 0
    Emptied a = a.controller.has_met ≡ false → is_deleting request ≡ true → has_emptied a.controller ≡ true → like → ⊥

  told_tied : (request : Request) (a : Acted) (port : PortNo) → HasPorts setups a → IsTied request a → IsTied request (tells_port a request (Some port))
  told_tied request a port h t = on_tied request a (tells_port a request (Some port)) (tells_keep setups (link.port role).0 link.label (Unled setups link proper fit like role request) a request port h) t

  behind_tied : (a : Acted) (port : PortNo) → Emptied (DeleteAll port) a → IsTied (DeleteAll port) a → IsTied (DeleteAll port) (behind_delete_all a port)
  behind_tied a port emptied t = on_each (IsTied (DeleteAll port)) a.controller.has_met (asks a (AddBranch (default_end port) (default_home port))) (if has_emptied a.controller then ends_meeting a else a)
      (λ met. on_tied (DeleteAll port) a (asks a (AddBranch (default_end port) (default_home port)))
      (asks_keep setups (link.port role).0 link.label (Unled setups link proper fit like role (DeleteAll port)) a (AddBranch (default_end port) (default_home port))) t)
      (λ unmet. on_each (IsTied (DeleteAll port)) (has_emptied a.controller) (ends_meeting a) a (λ none met l. absurd (emptied unmet refl none l)) (λ some. t))

  causes_in_tied : (request : Request) (a : Acted) → HasPorts setups a → Emptied request a → IsTied request a → IsTied request (causes_in_estab a request)
  causes_in_tied (AddBranch input output) a h emptied t = told_tied (AddBranch input output) a (port_of_input input output) h t
  causes_in_tied (MoveBranch input from to) a h emptied t = told_tied (MoveBranch input from to) a (port_of_input input to) h t
  causes_in_tied (DeleteTree input) a h emptied t = told_tied (DeleteTree input) a input.port h t
  causes_in_tied (VerifyTree input) a h emptied t = told_tied (VerifyTree input) a input.port h t
  causes_in_tied (DeleteAll port) a h emptied t = behind_tied a port emptied t
  causes_in_tied (PortManagement port function) a h emptied t = told_tied (PortManagement port function) a port h t
  causes_in_tied AllPorts a h emptied t = t

  -- *A success*: joins first, then what it causes, ports, and changes of routes
  done_leads : (request : Request) (a : Acted) → IsReady setups a.controller → length a.controller.ports ≤ 8 → a.numbers.instances + 20 < 2 ^ 32 → Emptied request a → IsTied request a → Leads a (takes_success a request)
  done_leads request a ready few left emptied t =
      let released : Acted = releases a request in
      let caused : Acted = causes released request in
      let clear : Acted = clears caused in
      let r : AreReleased setups link proper fit like role request a = releases_lead setups link proper fit like role request a ready few left t in
      let still : IsTied request released = on_tied request a released r.kept t in
      end_then link like role a released (takes_success a request) [] [] [] r.leads
      (end_then link like role released caused (takes_success a request) [] [] [] (causes_lead released request r.ready)
      (end_then link like role caused clear (takes_success a request) [] [] [] (clears_lead request caused
      (on_each (IsTied request) (is_estab released.controller.adjacency.state) (causes_in_estab released request) released
      (λ up. causes_in_tied request released (has_ports setups released r.ready.sound) (λ unmet deleting none l. behind a.controller.has_met refl r.kept up unmet deleting none l) still)
      (λ down. still)))
      (changes_follow Leads (leads_followed link proper like role) clear)))
    where
      released_emptied : Desk → Bool
      released_emptied desk = has_emptied (record a.controller { desk = desk })

      behind : (b : Bool) → a.controller.has_met ≡ b → Kept setups link proper fit like role request a (releases a request) → is_estab (releases a request).controller.adjacency.state ≡ true → (releases a request).controller.has_met ≡ false
          → is_deleting request ≡ true → has_emptied (releases a request).controller ≡ true → like → ⊥
      behind true met kept up unmet deleting none l = absurd (cc (sym (kept.stays_met up met) ∙ unmet))
      behind false met kept up unmet deleting none l = emptied met deleting (ap released_emptied (sym (unmet_desk setups a request ready.sound met)) ∙ none) l

  -- *An answer*, by what it answers
  same_leads : (a b : Acted) → b.notes.frames ≡ a.notes.frames → a.numbers.instances ≤ b.numbers.instances → b.numbers.controls ≡ a.numbers.controls
      → linked_at b.controller (link.port role) ≡ linked_at a.controller (link.port role) → b.controller.address ≡ a.controller.address → b.controller.queue ≡ a.controller.queue → Leads a b
  same_leads a b frames drawn controls found address queue = quiet_leads link like role a b [] (quiet_same link proper like role a b frames drawn controls found address queue)

  taken_ready : (a : Acted) (answer : Answered) → IsReady setups a.controller → a.numbers.instances + 20 < 2 ^ 32 → IsReady setups (with_desk a (after_answer a.controller.desk answer)).controller
  taken_ready a answer ready left =
      let b : Acted = with_desk a (after_answer a.controller.desk answer) in
      let r : Readies setups a b = moves_ready setups a b (λ h. moves_to (answering a answer)) (same_ports Unspent unspent_closed a b refl refl) (same_ports Fits fits_closed a b refl refl) in
      r.ready (omega (arith, left)) ready

  pub record Settled (a : Acted) (s : Standing) : Type 0 where
    pub tied : IsTied s.request a
    pub emptied : a.controller.has_met ≡ false → is_deleting s.request ≡ true → has_emptied (record a.controller { desk = after_answer a.controller.desk (Done s) }) ≡ true → like → ⊥

  answer_leads : (a : Acted) (message : Message) → IsReady setups a.controller → length a.controller.ports ≤ 8 → a.numbers.instances + 20 < 2 ^ 32
      → ((s : Standing) → answered a.controller.desk message ≡ Done s → Settled a s) → Leads a (answer_comes a message)
  answer_leads a message ready few left settled = by (answered a.controller.desk message) refl
    where
      desk_leads : (answer : Answered) → Leads a (with_desk a (after_answer a.controller.desk answer))
      desk_leads answer = same_leads a (with_desk a (after_answer a.controller.desk answer)) refl (omega arith) refl refl refl refl

      by : (answer : Answered) → answered a.controller.desk message ≡ answer → Leads a (takes_answer a answer)
      by Unknown is = desk_leads Unknown
      by (Done s) is =
          let b : Acted = with_desk a (after_answer a.controller.desk (Done s)) in
          let k : Settled a s = settled s is in
          end_then link like role a b (takes_success b s.request) [] [] [] (desk_leads (Done s))
          (done_leads s.request b (taken_ready a (Done s) ready left) few left k.emptied (λ met l. (let x = k.tied met l in record { input = x.input; lent = x.lent; unled = x.unled })))
      by (Ports s rows) is = (let b : Acted = with_desk a (after_answer a.controller.desk (Ports s rows)) in
          end_then link like role a b (takes_answer a (Ports s rows)) [] [] [] (desk_leads (Ports s rows)) (empties_follow Leads (leads_followed link proper like role) b))
      by (Failed s code) is = (let b : Acted = with_desk a (after_answer a.controller.desk (Failed s code)) in
          end_then link like role a b (node_resets b) [] [] [] (desk_leads (Failed s code)) (node_resets_leads link proper like role b []))

  -- *A message of the GSMP channel*
  told_leads : (a : Acted) (message : Message) → IsReady setups a.controller → length a.controller.ports ≤ 8 → a.numbers.instances + 20 < 2 ^ 32
      → ((s : Standing) → answered a.controller.desk message ≡ Done s → Settled a s) → Leads a (message_comes a message)
  told_leads a (messages.Adjacency greeting) ready few left settled = steps_follow Leads (leads_followed link proper like role) a (gsmp_received a.controller.adjacency greeting)
  told_leads a (messages.Branch kind result code number session input_port input output_port output branches priority) ready few left settled =
      answer_leads a (messages.Branch kind result code number session input_port input output_port output branches priority) ready few left settled
  told_leads a (messages.Move result code number session input_port input output_port output target_port target branches priority) ready few left settled =
      answer_leads a (messages.Move result code number session input_port input output_port output target_port target branches priority) ready few left settled
  told_leads a (messages.Port result code number port session function) ready few left settled = answer_leads a (messages.Port result code number port session function) ready few left settled
  told_leads a (messages.AllPorts result code number rows) ready few left settled = answer_leads a (messages.AllPorts result code number rows) ready few left settled

  pub gsmp_leads : (a : Acted) (r : Result Message Fault) → IsReady setups a.controller → length a.controller.ports ≤ 8 → a.numbers.instances + 20 < 2 ^ 32
      → ((message : Message) (s : Standing) → r ≡ Ok message → answered a.controller.desk message ≡ Done s → Settled a s) → Leads a (gsmp_holds a r)
  gsmp_leads a (Ok message) ready few left settled = told_leads a message ready few left (λ s is. settled message s refl is)
  gsmp_leads a (Err fault) ready few left settled = quiet_leads link like role a (gsmp_holds a (Err fault)) [] (quiet_note link proper like role a (Bad a.controller.node Gsmp (gsmp_refusal fault)))
