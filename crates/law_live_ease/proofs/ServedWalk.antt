-- what is so of a port by its session stays so as a controller goes on

use Rattle.std.proofs.Common.{◌≡◌, ℕ, true, List, [], ◌∷◌, map, flat_map, fold, Option, None, Some, refl, sym, ◌∙◌, ap, subst, if◌then◌else◌}
use Rattle.std.specs.Prelude.{◌==◌}
use Rattle.world_model.specs.Words.{PortNo, Channel, Mark, End, is_estab, next_control, with_control, RouteChange, Request, AddBranch, MoveBranch, at, put, is_led_home, last_transaction, empty_desk, Action, Setup, home_of, Session, Work, resets, restarts, Controller, Linked, linked_at, port_key, with_linked, with_desk, default_channel, default_end, default_home, default_payload, ifmp_packet_of, nothing_taken, chains_with, sends_control, asks_next, asks, takes_back, cuts_of, cuts_label, begins, with_work, closes_by, port_restarts_of, port_restarts, resets_gsmp, node_resets, does, does_in_estab, resets_of, resets_port, performs, performs_in_estab, Rule, works, at_port, takes_join_back, changed_joins, begins_change, takes_change, takes_each, takes_changes, may_take, meets, up_ports, default_branches, empties, ends_meeting, has_emptied, behind_delete_all, may_clear, clears_of, clears_port, clears}
use Rattle.world_model.specs.Controller.{Acted, ports_of}
use Rattle.world_model.specs.Joins.{output_joined}
use Rattle.world_model.specs.Sending.{sends}
use Rattle.world_model.specs.gsmp_wire.Layout.{octets_of as gsmp_octets}
use Rattle.world_model.specs.ifmp_wire.Message.{octets_of as ifmp_octets}
use Rattle.world_model.specs.gsmp_wire.declared.request.Request.TheVariants.{DeleteAll, AllPorts}
use Rattle.world_model.specs.port_model.Desk.{asked, message_at}
use Rattle.world_model.specs.port_model.Resets.{cleared}
use Rattle.world_model.specs.port_model.declared.action.Action.TheVariants as actions
use Rattle.law_live_journeys.proofs.law_run_facts.law_port_facts.Keyed.{on_both, at_key, at_put_same, at_put_other, by_eq}
use Rattle.law_live_journeys.proofs.law_live_ports.Joining.{sent_rest}
use Rattle.law_live_journeys.proofs.law_live_others.Working.{own_place}

one_linked : (x y : Linked) → Some x ≡ Some y → x ≡ y
one_linked x y e = cc

module _ (port : PortNo) (setup : Setup) (In : Option Session → Type 0) where
  -- *A port* of this setup, by its session
  abbrev pub Fits : Linked → Type 0
  Fits linked = (linked.setup ≡ setup) × In linked.port.session

  abbrev pub Has : Controller → Type 0
  Has c = (linked : Linked) → linked_at c port ≡ Some linked → Fits linked

  -- the same ports, and a port in its own place
  pub same_h : (b c : Controller) → c.ports ≡ b.ports → Has b → Has c
  same_h b c ports h linked found = h linked (sym (ap (at port_key port.0) ports) ∙ found)

  pub place_h : (b c : Controller) (old new : Linked) → at port_key (port_key old) b.ports ≡ Some old → new.setup ≡ old.setup → c.ports ≡ put port_key new b.ports
      → port_key old ≡ port.0 → Fits new → Has c
  place_h b c old new own same ports here fits linked found = subst Fits (one_linked new linked (sym now ∙ found)) fits
    where
      key : port_key new ≡ port_key old
      key = ap (λ (s : Setup). s.port.0) same

      now : linked_at c port ≡ Some new
      now = ap (at port_key port.0) ports ∙ subst (λ k. at port_key k (put port_key new b.ports) ≡ Some new) (key ∙ here)
          (at_put_same port_key new b.ports old (ap (λ k. at port_key k b.ports) key ∙ own))

  pub put_h : (b c : Controller) (old new : Linked) → at port_key (port_key old) b.ports ≡ Some old → new.setup ≡ old.setup → c.ports ≡ put port_key new b.ports
      → (port_key old ≡ port.0 → Fits old → In new.port.session) → Has b → Has c
  put_h b c old new own same ports keeps h = by_eq (port_key old) port.0
      (λ here t. place_h b c old new own same ports here (was here))
      (λ differs t linked found. h linked (sym (ap (at port_key port.0) ports ∙ at_put_other port_key new port.0 b.ports (λ e. differs (sym key ∙ e))) ∙ found))
    where
      key : port_key new ≡ port_key old
      key = ap (λ (s : Setup). s.port.0) same

      was : port_key old ≡ port.0 → Fits new
      was here = (let fits : Fits old = h old (ap (λ k. at port_key k b.ports) (sym here) ∙ own) in (same ∙ fits.0, keeps here fits))

  abbrev pub H : Acted → Type 0
  H a = Has a.controller

  pub fold_h : {X : Type 0} (f : Acted → X → Acted) → ((a : Acted) (x : X) → H a → H (f a x)) → (xs : List X) (a : Acted) → H a → H (fold f a xs)
  fold_h f each [] a h = h
  fold_h f each (x ∷ xs) a h = fold_h f each xs (f a x) (each a x h)

  -- *What is sent*
  pub sends_h : (a : Acted) (channel : Channel) (mark : Mark) (payload : List ℕ) → H a → H (sends a channel mark payload)
  sends_h a channel mark payload h = same_h a.controller (sends a channel mark payload).controller (sent_rest a channel mark payload).ports h

  pub control_h : (a : Acted) (channel : Channel) (payload : List ℕ) → H a → H (sends_control a channel payload)
  control_h a channel payload h = sends_h (record a { numbers = with_control a.numbers }) channel (next_control a.numbers) payload h

  cuts_h : (q : PortNo) (a : Acted) (label : ℕ) → H a → H (cuts_label q a label)
  cuts_h q a label h = by (linked_at a.controller q) refl
    where
      by : (o : Option Linked) → linked_at a.controller q ≡ o → H (cuts_of a label o)
      by None found = h
      by (Some linked) found = put_h a.controller (cuts_of a label (Some linked)).controller linked (record linked { chains = chains_with linked.chains label nothing_taken }) (own_place a q linked found) refl refl
          (λ here fits. fits.1) h

  -- *A session that is closed* fits
  module _ (closed : In None) where
    work_h : (a : Acted) (linked : Linked) (w : Work) → at port_key (port_key linked) a.controller.ports ≡ Some linked → (port_key linked ≡ port.0 → Fits linked → In w.port.session)
        → H a → H (with_work a linked w)
    work_h a linked w own keeps h = put_h a.controller (with_work a linked w).controller linked (record linked { port = w.port }) own refl refl keeps h

    -- *Node reset*
    closes_h : (q : PortNo) (a : Acted) (action : Action) → H a → H (closes_by q a action)
    closes_h q a (actions.Say message) h = h
    closes_h q a (actions.Ask request needed) h = h
    closes_h q a (actions.Note item) h = h
    closes_h q a (actions.CutChain label) h = cuts_h q a label h
    closes_h q a (actions.TakeBack input output) h = h
    closes_h q a (actions.Withdraw input) h = h
    closes_h q a actions.Reset h = h

    restarts_h : (a : Acted) (q : PortNo) → H a → H (port_restarts a q)
    restarts_h a q h = by (linked_at a.controller q) refl
      where
        by : (o : Option Linked) → linked_at a.controller q ≡ o → H (port_restarts_of a o)
        by None found = h
        by (Some linked) found =
            let w : Work = restarts linked.setup (begins a linked) in
            fold_h (closes_by linked.setup.port) (closes_h linked.setup.port) w.actions (with_work a linked w) (work_h a linked w (own_place a q linked found) (λ here fits. closed) h)

    pub node_h : (a : Acted) → H a → H (node_resets a)
    node_h a h = fold_h port_restarts restarts_h (ports_of a.controller) (resets_gsmp a) h

    -- *Asking*
    pub asks_h : (a : Acted) (request : Request) → H a → H (asks a request)
    asks_h a request h = on_both H (is_estab a.controller.adjacency.state) (if a.controller.desk.next == last_transaction then node_resets a else asks_next a request) a
        (on_both H (a.controller.desk.next == last_transaction) (node_resets a) (asks_next a request) (node_h a h) next) h
      where
        with_it : Acted
        with_it = with_desk a (asked a.controller.desk request)

        next : H (asks_next a request)
        next = control_h with_it default_channel (gsmp_octets (message_at with_it.controller.desk (record { number = a.controller.desk.next; request = request }))) h

    back_h : (a : Acted) (input output : End) → H a → H (takes_back a input output)
    back_h a input output h = on_both H (is_led_home a.controller.desk input (home_of input)) a (asks a (MoveBranch input output (home_of input))) h (asks_h a (MoveBranch input output (home_of input)) h)

    -- *What a port asks*
    does_h : (q : PortNo) (a : Acted) (action : Action) → H a → H (does q a action)
    does_h q a (actions.Say message) h = control_h a (default_home q).channel (default_payload (ifmp_packet_of a.controller.address (ifmp_octets message))) h
    does_h q a (actions.Ask request needed) h = asks_h a request h
    does_h q a (actions.Note item) h = h
    does_h q a (actions.CutChain label) h = cuts_h q a label h
    does_h q a (actions.TakeBack input output) h = back_h a input output h
    does_h q a (actions.Withdraw input) h = h
    does_h q a actions.Reset h = h

    does_in_h : (q : PortNo) (a : Acted) (action : Action) → H a → H (does_in_estab q a action)
    does_in_h q a action h = on_both H (is_estab a.controller.adjacency.state) (does q a action) a (does_h q a action h) h

    resets_h : (a : Acted) (q : PortNo) → H a → H (resets_port a q)
    resets_h a q h = by (linked_at a.controller q) refl
      where
        by : (o : Option Linked) → linked_at a.controller q ≡ o → H (resets_of a o)
        by None found = h
        by (Some linked) found =
            let w : Work = resets linked.setup (begins a linked) in
            fold_h (does_in_estab linked.setup.port) (does_in_h linked.setup.port) w.actions (with_work a linked w) (work_h a linked w (own_place a q linked found) (λ here fits. closed) h)

    performs_h : (q : PortNo) (a : Acted) (action : Action) → H a → H (performs q a action)
    performs_h q a (actions.Say message) h = does_h q a (actions.Say message) h
    performs_h q a (actions.Ask request needed) h = does_h q a (actions.Ask request needed) h
    performs_h q a (actions.Note item) h = does_h q a (actions.Note item) h
    performs_h q a (actions.CutChain label) h = does_h q a (actions.CutChain label) h
    performs_h q a (actions.TakeBack input output) h = does_h q a (actions.TakeBack input output) h
    performs_h q a (actions.Withdraw input) h = does_h q a (actions.Withdraw input) h
    performs_h q a actions.Reset h = resets_h a q h

    pub performed_h : (q : PortNo) (asked_for : List Action) (a : Acted) → H a → H (fold (performs_in_estab q) a asked_for)
    performed_h q asked_for a h = fold_h (performs_in_estab q) (λ b action k. on_both H (is_estab b.controller.adjacency.state) (performs q b action) b (performs_h q b action k) k) asked_for a h

    -- *A rule of any port*, which leaves the session of this one fitting
    pub at_port_h : (a : Acted) (q : PortNo) (rule : Rule)
        → ((linked : Linked) → linked_at a.controller q ≡ Some linked → port_key linked ≡ port.0 → Fits linked → In (rule linked.setup a.controller.desk (begins a linked)).port.session)
        → H a → H (at_port a q rule)
    at_port_h a q rule keeps h = by (linked_at a.controller q) refl
      where
        by : (o : Option Linked) → linked_at a.controller q ≡ o → H (works a rule o)
        by None found = h
        by (Some linked) found =
            let w : Work = rule linked.setup a.controller.desk (begins a linked) in
            performed_h linked.setup.port w.actions (with_work a linked w) (work_h a linked w (own_place a q linked found) (λ here fits. keeps linked found here fits) h)

    -- of this port itself, which makes it fit
    pub at_own_h : (a : Acted) (q : PortNo) (rule : Rule) (linked : Linked) → linked_at a.controller q ≡ Some linked → q.0 ≡ port.0 → linked.setup ≡ setup
        → In (rule linked.setup a.controller.desk (begins a linked)).port.session → H (at_port a q rule)
    at_own_h a q rule linked found here same fits = subst H (sym (ap (works a rule) found))
        (performed_h linked.setup.port w.actions (with_work a linked w)
        (place_h a.controller (with_work a linked w).controller linked (record linked { port = w.port }) (own_place a q linked found) refl refl (at_key port_key q.0 a.controller.ports linked found ∙ here) (same, fits)))
      where
        w : Work
        w = rule linked.setup a.controller.desk (begins a linked)

    -- *Changes of routes*
    begins_h : (a : Acted) (change : RouteChange) → H a → H (begins_change a change)
    begins_h a change h =
        let begun : Acted = record a { controller = record a.controller { is_begun = true } } in
        on_both H a.controller.is_begun a (fold takes_join_back begun (changed_joins a.controller change)) h
        (fold_h takes_join_back (λ b join k. back_h b join.input (output_joined join) k) (changed_joins a.controller change) begun h)

    each_h : (changes : List RouteChange) (a : Acted) → H a → H (takes_each a changes)
    each_h [] a h = h
    each_h (change ∷ later) a h =
        let begun : Acted = begins_change a change in
        let k : H begun = begins_h a change h in
        on_both H (may_take begun.controller change) (takes_each (takes_change begun change later) later) begun (each_h later (takes_change begun change later) k) k

    pub changes_h : (a : Acted) → H a → H (takes_changes a)
    changes_h a h = on_both H a.controller.has_met (takes_each a a.controller.waiting) a (each_h a.controller.waiting a h) h

    -- *Meeting the switch*
    pub meets_h : (a : Acted) → H a → H (meets a)
    meets_h a h = asks_h (with_desk a empty_desk) AllPorts h

    pub empties_h : (a : Acted) → H a → H (empties a)
    empties_h a h = fold_h asks asks_h (map DeleteAll (record { 0 = 0 } ∷ up_ports a.controller)) a h

    ends_meeting_h : (a : Acted) → H a → H (ends_meeting a)
    ends_meeting_h a h = fold_h asks asks_h (flat_map default_branches (up_ports a.controller)) (record a { controller = record a.controller { has_met = true } }) h

    pub behind_h : (a : Acted) (q : PortNo) → H a → H (behind_delete_all a q)
    behind_h a q h = on_both H a.controller.has_met (asks a (AddBranch (default_end q) (default_home q))) (if has_emptied a.controller then ends_meeting a else a)
        (asks_h a (AddBranch (default_end q) (default_home q)) h) (on_both H (has_emptied a.controller) (ends_meeting a) a (ends_meeting_h a h) h)

    -- *Clearing*
    clear_h : (a : Acted) (q : PortNo) → H a → H (clears_port a q)
    clear_h a q h = by (linked_at a.controller q) refl
      where
        by : (o : Option Linked) → linked_at a.controller q ≡ o → H (clears_of a o)
        by None found = h
        by (Some linked) found = on_both H (may_clear a.controller linked) (with_linked a (record linked { port = cleared linked.port })) a
            (put_h a.controller (with_linked a (record linked { port = cleared linked.port })).controller linked (record linked { port = cleared linked.port }) (own_place a q linked found) refl refl (λ here fits. fits.1) h) h

    pub clears_h : (a : Acted) → H a → H (clears a)
    clears_h a h = fold_h clears_port clear_h (ports_of a.controller) a h
