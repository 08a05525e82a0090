-- a grant that is lent to an input stays lent to it while the switch is met, but where a join of the input is released

use Rattle.std.proofs.Common.{◌≡◌, ◌≢◌, ℕ, true, false, List, [], ◌∷◌, ◌++◌, Option, None, Some, refl, sym, ◌∙◌, ap, subst, fold, if◌then◌else◌}
use Rattle.std.specs.Prelude.{◌==◌, ◌+◌, nat_lt, nat_le, length}
use Rattle.std.specs.Option.{option_and_then}
use Rattle.law_controller.specs.world_model.Words.{PortNo, Channel, End, Mark, label_channel_of, label_number_of, number_of_channel, next_control, with_control, Side, is_estab, Party, Request, AddBranch, MoveBranch, DeleteTree, VerifyTree, PortManagement, same_end, Part, nothing_taken, at, put, is_led_home, last_transaction, Action, Say, Ask, Note, CutChain, TakeBack, Withdraw, Setup, home_of, Label, LabelState, Wiring, Offered, Recalled, Wired, Grant, GrantState, Idle, ByController, ByInput, Leaving, grant_label, Session, Work, without_grant, label_at, Unnumbered, last_number, spent_number, tells_in, tells, halts_if_spent, reclaim_ack, label_by, joins_label, parted, given_back_in, given_back, resets, Loss, PoolFull, noted, frame_cells, made, Controller, Linked, port_key, linked_at, with_linked, with_desk, chains_with, default_channel, sends_control, asks_next, asks, takes_back, begins, with_work, cuts_of, node_resets, does, does_in_estab, resets_of, resets_port, performs, performs_in_estab, Rule, works, at_port, join_of, joins_of, parts, gives_back, releases_join, releases_input, resets_spent, tells_port, may_clear, clears_of, clears_port}
use Rattle.law_controller.specs.world_model.gsmp_wire.declared.request.Request.TheVariants.{DeleteAll, AllPorts}
use Rattle.law_controller.specs.ordered_lists.Ordered.{Every}
use Rattle.law_controller.specs.world_model.port_model.Desk.{asked}
use Rattle.law_controller.specs.world_model.port_model.declared.action.Action.TheVariants.{Reset}
use Rattle.law_controller.specs.world_model.port_model.Grants as grants
use Rattle.law_controller.specs.world_model.port_model.Port.{with_action}
use Rattle.law_controller.specs.world_model.port_model.Saying.{with_number}
use Rattle.law_controller.specs.world_model.port_model.Answers as answers
use Rattle.law_controller.specs.world_model.port_model.Resets.{cleared}
use Rattle.law_controller.specs.law_port_facts.Port.{IsAction}
use Rattle.law_controller.proofs.law_port_facts.Keyed.{on_both, by_eq, at_put_other}
use Rattle.law_controller.proofs.law_port_facts.Found.{find_passes, session_grants, closes_port}
use Rattle.law_controller.proofs.law_port_facts.Rules.{IsTree, done_goes}
use Rattle.law_controller.specs.world_model.frame_model.Sending.{Sender}
use Rattle.law_controller.specs.world_model.Controller.{free_slots, Acted, note}
use Rattle.law_controller.specs.world_model.Sending.{with_cells, sends}
use Rattle.law_controller.specs.world_model.Joins.{Join}
use Rattle.law_controller.proofs.law_controller_facts.Moves.{Worked, worked_kept, by_rule, by_closing, by_parting, by_giving_back, Found, placing, moves_to, HasPorts, found_setup, found_at_own, found_port, begun, moves_ports, noting}
use Rattle.law_controller.proofs.law_controller_facts.Performing.{performs_in_estab_goes}
use Rattle.law_controller.proofs.law_controller_facts.Joining.{IsJoin, joins_are, granted_there, parts_grants, parts_goes}
use Rattle.law_controller.proofs.law_port_facts.Found.{find_every}
use Rattle.law_controller.specs.Match.{lent_in, lent_at}
use Rattle.law_controller.proofs.Pairing.{SamePairs, same_pairs, goes_pairs, without_other}
use Rattle.law_controller.proofs.Matched.{end_is, there_now, here_before, lent_put}
use Rattle.law_controller.proofs.Holding.{node_unmet, node_closed}
use Rattle.law_controller.proofs.Matching.{left_lent}

-- *A frame is sent* or finds no slots
pub sent_cases : (P : Acted → Type 0) (a : Acted) (channel : Channel) (mark : Mark) (payload : List ℕ)
    → P (record a { controller = with_cells a.controller (frame_cells channel mark payload); notes = made a.notes mark payload })
    → P (record a { notes = noted (made a.notes mark payload) (Loss mark PoolFull) }) → P (sends a channel mark payload)
sent_cases P a channel mark payload p q = on_both (λ (s : Sender Controller). P (record a { controller = s.queues; notes = s.notes }))
    (nat_le (length (frame_cells channel mark payload)) (free_slots a.controller))
    (record { queues = with_cells a.controller (frame_cells channel mark payload); notes = made a.notes mark payload })
    (record { queues = a.controller; notes = noted (made a.notes mark payload) (Loss mark PoolFull) }) p q

-- *A port's grants*
abbrev pub lent_by : Grant → Option End
lent_by grant = grants.lent_input grant.state

tells_grants : (w : Work) (message : Unnumbered) → (tells w message).port.grants ≡ w.port.grants
tells_grants w message = by w.port.session
  where
    by : (o : Option Session) → (tells_in w message o).port.grants ≡ w.port.grants
    by None = refl
    by (Some s) = on_both (λ (v : Work). v.port.grants ≡ w.port.grants) (nat_lt s.number last_number) _ (with_number spent_number w)
        (acts_grants (with_number (s.number + 1) w) _ ∙ session_grants w _) (session_grants w _)
      where
        acts_grants : (v : Work) (action : Action) → (with_action v action).port.grants ≡ v.port.grants
        acts_grants v action = on_both (λ (x : Work). x.port.grants ≡ v.port.grants) v.halted v (record v { actions = v.actions ++ action ∷ [] }) refl refl

parted_grants : (w : Work) (join : Option End) (o : Option Label) → (joins_label w join o).port.grants ≡ w.port.grants
parted_grants w join None = refl
parted_grants w join (Some label) = session_grants w _

-- another grant than the one that is given back
given_other : (a : Acted) (linked : Linked) (g : Grant) (state : GrantState) (m : ℕ) → g.label ≢ m → lent_in (given_back_in (begins a linked) g state).port.grants m ≡ lent_in linked.port.grants m
given_other a linked g Idle m other = refl
given_other a linked g ByController m other = refl
given_other a linked g (ByInput input) m other = ap (option_and_then lent_by) (at_put_other grant_label (record g { state = ByController }) m linked.port.grants other)
given_other a linked g (Leaving input true) m other = ap (λ (gs : List Grant). lent_in gs m) (tells_grants (without_grant (begins a linked) g.label) (reclaim_ack (label_channel_of g.label) g.flow))
    ∙ without_other grant_label lent_by g.label m linked.port.grants other
given_other a linked g (Leaving input false) m other = without_other grant_label lent_by g.label m linked.port.grants other

freed_grants : (a : Acted) (linked : Linked) (o : Option Label) → (answers.freed linked.setup (begins a linked) o).port.grants ≡ linked.port.grants
freed_grants a linked None = refl
freed_grants a linked (Some label) = by label.state
  where
    by : (state : LabelState) → (answers.freed_in linked.setup (begins a linked) label state).port.grants ≡ linked.port.grants
    by Wiring = refl
    by Offered = refl
    by (Recalled last acknowledged) = refl
    by Wired = refl

module _ (setups : List Setup) (q m : ℕ) (Unled : End → Type 0) where
  -- *Kept*: a grant at this port, of this label, that is lent to an input which isn't released
  pub record Keeps (a b : Acted) : Type 0 where
    pub met : b.controller.has_met ≡ true → a.controller.has_met ≡ true
    pub lent : b.controller.has_met ≡ true → (input : End) → Unled input → lent_at a.controller.ports q m ≡ Some input → lent_at b.controller.ports q m ≡ Some input
    -- the switch stays met, but where the node is reset
    pub up : is_estab b.controller.adjacency.state ≡ true → is_estab a.controller.adjacency.state ≡ true
    pub stays_met : is_estab b.controller.adjacency.state ≡ true → a.controller.has_met ≡ true → b.controller.has_met ≡ true

  pub itself : (a : Acted) → Keeps a a
  itself a = record { met = λ e. e; lent = λ e input u h. h; up = λ e. e; stays_met = λ e h. h }

  pub keeps_on : (a b c : Acted) → Keeps a b → Keeps b c → Keeps a c
  keeps_on a b c f g = record {
    met = λ e. f.met (g.met e);
    lent = λ e input u h. g.lent e input u (f.lent (g.met e) input u h);
    up = λ e. f.up (g.up e);
    stays_met = λ e h. g.stays_met e (f.stays_met (g.up e) h);
  }

  pub keeps_fold : {A : Type 0} (f : Acted → A → Acted) → ((a : Acted) (x : A) → Keeps a (f a x)) → (xs : List A) (a : Acted) → Keeps a (fold f a xs)
  keeps_fold f each [] a = itself a
  keeps_fold f each (x ∷ xs) a = keeps_on a (f a x) (fold f (f a x) xs) (each a x) (keeps_fold f each xs (f a x))

  still_up : (a b : Acted) → b.controller.adjacency ≡ a.controller.adjacency → is_estab b.controller.adjacency.state ≡ true → is_estab a.controller.adjacency.state ≡ true
  still_up a b side e = sym (ap (λ (x : Side Party). is_estab x.state) side) ∙ e

  pub same_keeps : (a b : Acted) → b.controller.has_met ≡ a.controller.has_met → b.controller.adjacency ≡ a.controller.adjacency → b.controller.ports ≡ a.controller.ports → Keeps a b
  same_keeps a b met side ports = record {
    met = λ e. sym met ∙ e;
    lent = λ e input u h. ap (λ (xs : List Linked). lent_at xs q m) ports ∙ h;
    up = still_up a b side;
    stays_met = λ e h. met ∙ h;
  }

  pub put_keeps : (a b : Acted) (linked after : Linked) → Found setups a linked → port_key after ≡ port_key linked → lent_in after.port.grants m ≡ lent_in linked.port.grants m
      → b.controller.ports ≡ put port_key after a.controller.ports → b.controller.has_met ≡ a.controller.has_met → b.controller.adjacency ≡ a.controller.adjacency → Keeps a b
  put_keeps a b linked after found key same ports met side = record {
    met = λ e. sym met ∙ e;
    lent = λ e input u h. ap (λ (xs : List Linked). lent_at xs q m) ports ∙ (lent_put a.controller.ports linked after found key m same q ∙ h);
    up = still_up a b side;
    stays_met = λ e h. met ∙ h;
  }

  unmet_keeps : (a b : Acted) → b.controller.has_met ≡ false → is_estab b.controller.adjacency.state ≡ false → Keeps a b
  unmet_keeps a b unmet down = record {
    met = λ e. absurd (cc (sym unmet ∙ e));
    lent = λ e input u h. absurd (cc (sym unmet ∙ e));
    up = λ e. absurd (cc (sym down ∙ e));
    stays_met = λ e h. absurd (cc (sym down ∙ e));
  }

  pub node_keeps : (a : Acted) → Keeps a (node_resets a)
  node_keeps a = unmet_keeps a (node_resets a) (node_unmet setups a) (node_closed setups a)

  pub control_keeps : (a : Acted) (channel : Channel) (payload : List ℕ) → Keeps a (sends_control a channel payload)
  control_keeps a channel payload = sent_cases (Keeps a) (record a { numbers = with_control a.numbers }) channel (next_control a.numbers) payload (same_keeps a _ refl refl refl) (same_keeps a _ refl refl refl)

  -- *What is asked and done*
  pub asks_keep : (a : Acted) (request : Request) → Keeps a (asks a request)
  asks_keep a request = on_both (Keeps a) (is_estab a.controller.adjacency.state) (if a.controller.desk.next == last_transaction then node_resets a else asks_next a request) a
      (on_both (Keeps a) (a.controller.desk.next == last_transaction) (node_resets a) (asks_next a request) (node_keeps a)
      (keeps_on a (with_desk a (asked a.controller.desk request)) (asks_next a request) (same_keeps a (with_desk a (asked a.controller.desk request)) refl refl refl)
      (control_keeps (with_desk a (asked a.controller.desk request)) default_channel _))) (itself a)

  back_keeps : (a : Acted) (input output : End) → Keeps a (takes_back a input output)
  back_keeps a input output = on_both (Keeps a) (is_led_home a.controller.desk input (home_of input)) a (asks a (MoveBranch input output (home_of input))) (itself a) (asks_keep a (MoveBranch input output (home_of input)))

  cuts_keep : (a : Acted) (port : PortNo) (label : ℕ) (o : Option Linked) → linked_at a.controller port ≡ o → Keeps a (cuts_of a label o)
  cuts_keep a port label None found = itself a
  cuts_keep a port label (Some linked) found = put_keeps a (cuts_of a label (Some linked)) linked (record linked { chains = chains_with linked.chains label nothing_taken }) (found_at_own setups a linked port found) refl refl refl refl refl

  does_keep : (port : PortNo) (a : Acted) (action : Action) → Keeps a (does port a action)
  does_keep port a (Say message) = control_keeps a _ _
  does_keep port a (Ask request needed) = asks_keep a request
  does_keep port a (Note item) = same_keeps a (note a item) refl refl refl
  does_keep port a (CutChain label) = cuts_keep a port label (linked_at a.controller port) refl
  does_keep port a (TakeBack input output) = back_keeps a input output
  does_keep port a (Withdraw input) = same_keeps a (does port a (Withdraw input)) refl refl refl
  does_keep port a Reset = itself a

  reset_keeps : (a : Acted) (port : PortNo) → HasPorts setups a → Keeps a (resets_port a port)
  reset_keeps a port h = by (linked_at a.controller port) refl
    where
      by : (o : Option Linked) → linked_at a.controller port ≡ o → Keeps a (resets_of a o)
      by None found = itself a
      by (Some linked) found =
          let w : Work = resets linked.setup (begins a linked) in
          keeps_on a (with_work a linked w) (resets_of a (Some linked))
          (put_keeps a (with_work a linked w) linked (record linked { port = w.port }) (found_at_own setups a linked port found) refl (left_lent linked.port.grants (found_port setups a linked port h found).apart m) refl refl refl)
          (keeps_fold (does_in_estab linked.setup.port) (λ b action. on_both (Keeps b) (is_estab b.controller.adjacency.state) (does linked.setup.port b action) b (does_keep linked.setup.port b action) (itself b))
          w.actions (with_work a linked w))

  performs_keep : (port : PortNo) (a : Acted) (action : Action) → HasPorts setups a → Keeps a (performs port a action)
  performs_keep port a (Say message) h = does_keep port a (Say message)
  performs_keep port a (Ask request needed) h = does_keep port a (Ask request needed)
  performs_keep port a (Note item) h = does_keep port a (Note item)
  performs_keep port a (CutChain label) h = does_keep port a (CutChain label)
  performs_keep port a (TakeBack input output) h = does_keep port a (TakeBack input output)
  performs_keep port a (Withdraw input) h = does_keep port a (Withdraw input)
  performs_keep port a Reset h = reset_keeps a port h

  performed_keep : (port : PortNo) (actions : List Action) (a : Acted) → Every (IsAction setups) actions → HasPorts setups a → Keeps a (fold (performs_in_estab port) a actions)
  performed_keep port [] a fits h = itself a
  performed_keep port (action ∷ actions) a fits h =
      let next : Acted = performs_in_estab port a action in
      keeps_on a next (fold (performs_in_estab port) next actions)
      (on_both (Keeps a) (is_estab a.controller.adjacency.state) (performs port a action) a (performs_keep port a action h) (itself a))
      (performed_keep port actions next fits.1 (moves_ports setups (performs_in_estab_goes setups port a action h fits.0) h))

  -- *A rule of a port*, by what it makes of the grant of this label there
  pub rule_keeps : (a : Acted) (port : PortNo) (rule : Rule) → HasPorts setups a
      → ((linked : Linked) → linked_at a.controller port ≡ Some linked → Worked setups linked.setup a.controller.desk (begins a linked) (rule linked.setup a.controller.desk (begins a linked)))
      → ((linked : Linked) → linked_at a.controller port ≡ Some linked
      → Keeps a (with_work a linked (rule linked.setup a.controller.desk (begins a linked))))
      → Keeps a (at_port a port rule)
  rule_keeps a port rule h worked put_back = by (linked_at a.controller port) refl
    where
      by : (o : Option Linked) → linked_at a.controller port ≡ o → Keeps a (works a rule o)
      by None found = itself a
      by (Some linked) found =
          let w : Work = rule linked.setup a.controller.desk (begins a linked) in
          let own : Found setups a linked = found_at_own setups a linked port found in
          keeps_on a (with_work a linked w) (works a rule (Some linked)) (put_back linked found)
          (performed_keep linked.setup.port w.actions (with_work a linked w)
          (worked_kept setups linked.setup a.controller.desk (found_setup setups a linked linked.setup.port h own) (begins a linked) w (worked linked found) (begun setups a linked linked.setup.port h own)).actions
          (moves_ports setups (moves_to (placing a linked w own (worked linked found))) h))

  pub worked_keeps : (a : Acted) (port : PortNo) (rule : Rule) → HasPorts setups a
      → ((linked : Linked) → linked_at a.controller port ≡ Some linked → Worked setups linked.setup a.controller.desk (begins a linked) (rule linked.setup a.controller.desk (begins a linked)))
      → ((linked : Linked) → linked_at a.controller port ≡ Some linked
      → lent_in (rule linked.setup a.controller.desk (begins a linked)).port.grants m ≡ lent_in linked.port.grants m)
      → Keeps a (at_port a port rule)
  worked_keeps a port rule h worked same = rule_keeps a port rule h worked
      (λ linked found. (let w : Work = rule linked.setup a.controller.desk (begins a linked) in
      put_keeps a (with_work a linked w) linked (record linked { port = w.port }) (found_at_own setups a linked port found) refl (same linked found) refl refl refl))

  -- *The answer is told* to a port
  done_lends : (a : Acted) (port : PortNo) (linked : Linked) (request : Request) → HasPorts setups a → linked_at a.controller port ≡ Some linked → (IsTree request → ⊥)
      → lent_in (answers.done linked.setup (begins a linked) request).port.grants m ≡ lent_in linked.port.grants m
  done_lends a port linked request h found other =
      let own : Found setups a linked = found_at_own setups a linked port found in
      let same : SamePairs linked.port (answers.done linked.setup (begins a linked) request).port = goes_pairs linked.port setups linked.setup (found_setup setups a linked linked.setup.port h own) a.controller.desk
      (begins a linked) (answers.done linked.setup (begins a linked) request) (done_goes linked.setup a.controller.desk (begins a linked) request other) (begun setups a linked linked.setup.port h own) (same_pairs linked.port) in
      same.lends m

  tells_lends : (a : Acted) (port : PortNo) (linked : Linked) (request : Request) → HasPorts setups a → linked_at a.controller port ≡ Some linked
      → lent_in (answers.done linked.setup (begins a linked) request).port.grants m ≡ lent_in linked.port.grants m
  tells_lends a port linked (AddBranch input output) h found = done_lends a port linked (AddBranch input output) h found (λ t. t)
  tells_lends a port linked (MoveBranch input from to) h found = done_lends a port linked (MoveBranch input from to) h found (λ t. t)
  tells_lends a port linked (DeleteTree input) h found = ap (λ (gs : List Grant). lent_in gs m) (freed_grants a linked (label_by linked.port (label_number_of input.channel)))
  tells_lends a port linked (VerifyTree input) h found = refl
  tells_lends a port linked (DeleteAll other) h found = refl
  tells_lends a port linked (PortManagement other function) h found = refl
  tells_lends a port linked AllPorts h found = refl

  pub tells_keep : (a : Acted) (request : Request) (port : PortNo) → HasPorts setups a → Keeps a (tells_port a request (Some port))
  tells_keep a request port h = worked_keeps a port (λ setup desk w. answers.done setup w request) h
      (λ linked found. by_rule (answers.done linked.setup (begins a linked) request) (done_goes linked.setup a.controller.desk (begins a linked) request (λ t. tt)))
      (λ linked found. tells_lends a port linked request h found)

  -- *Joins are released*, and ports whose numbers are spent are reset
  pub spent_keeps : (a : Acted) (port : PortNo) → HasPorts setups a → Keeps a (resets_spent a port)
  spent_keeps a port h = worked_keeps a port (λ setup desk w. halts_if_spent w) h (λ linked found. by_closing)
      (λ linked found. ap (λ p. lent_in p.grants m) (closes_port (begins a linked)))

  pub parts_keep : (a : Acted) (e : End) → HasPorts setups a → Keeps a (parts a e)
  parts_keep a e h =
      let noted : Acted = note a (Part a.controller.node e.port (number_of_channel e.channel)) in
      keeps_on a noted (parts a e) (same_keeps a noted refl refl refl)
      (worked_keeps noted e.port (λ setup desk w. parted w (number_of_channel e.channel)) (moves_ports setups (moves_to (noting a (Part a.controller.node e.port (number_of_channel e.channel)))) h)
      (λ linked found. by_parting (number_of_channel e.channel))
      (λ linked found. ap (λ (gs : List Grant). lent_in gs m) (parted_grants (begins noted linked) None (label_at linked.port (number_of_channel e.channel)))))

  gives_keep : (b : Acted) (join : Join) → HasPorts setups b → grants.lent_input join.grant.state ≡ Some join.input → (Unled join.input → ⊥)
      → ((linked : Linked) → linked_at b.controller join.port ≡ Some linked → at grant_label join.grant.label linked.port.grants ≡ Some join.grant) → Keeps b (gives_back b join)
  gives_keep b join h to led granted = rule_keeps b join.port (λ setup desk w. given_back w join.grant) h (λ linked found. by_giving_back join.grant (granted linked found)) put_back
    where
      put_back : (linked : Linked) → linked_at b.controller join.port ≡ Some linked → Keeps b (with_work b linked (given_back (begins b linked) join.grant))
      put_back linked found =
          let after : Linked = record linked { port = (given_back (begins b linked) join.grant).port } in
          let own : Found setups b linked = found_at_own setups b linked join.port found in
          by_eq join.grant.label m
          (λ same t. record {
            met = λ e. e;
            lent = λ e input u lent. by_eq (port_key linked) q
                (λ is s. (let was : lent_at b.controller.ports q m ≡ Some join.input = ap (option_and_then (λ (x : Linked). lent_in x.port.grants m)) (here_before b.controller.ports linked after own refl q is)
                ∙ (ap (λ (k : ℕ). lent_in linked.port.grants k) (sym same) ∙ (ap (option_and_then lent_by) (granted linked found) ∙ to)) in
                let both : Some input ≡ Some join.input = sym lent ∙ was in
                let one : input ≡ join.input = cc in
                absurd (led (subst Unled one u))))
                (λ away s. ap (option_and_then (λ (x : Linked). lent_in x.port.grants m)) (there_now b.controller.ports linked after own refl q away) ∙ lent);
            up = λ e. e;
            stays_met = λ e x. x;
          })
          (λ other t. put_keeps b (with_work b linked (given_back (begins b linked) join.grant)) linked after own refl (given_other b linked join.grant join.grant.state m other) refl refl refl)

  join_keeps : (a : Acted) (o : Option Join) → ((join : Join) → o ≡ Some join → IsJoin setups a join × (Unled join.input → ⊥)) → HasPorts setups a → Keeps a (releases_join a o)
  join_keeps a None is h = itself a
  join_keeps a (Some join) is h =
      let found_is : IsJoin setups a join = (is join refl).0 in
      keeps_on a (parts a join.input) (releases_join a (Some join)) (parts_keep a join.input h)
      (gives_keep (parts a join.input) join (moves_ports setups (parts_goes setups a join.input h) h) found_is.input (is join refl).1
      (λ linked found. granted_there setups a (parts a join.input) join linked found_is (parts_grants setups a join.input join.port.0 h) found))

  -- the input of a join that is found is the one that it is looked for by
  pub found_input : (a : Acted) (e : End) (join : Join) → join_of a.controller e ≡ Some join → join.input ≡ e
  found_input a e join found = end_is join.input e (find_passes (λ (x : Join). same_end x.input e) (joins_of a.controller) join found)

  pub input_keeps : (a : Acted) (e : End) → (Unled e → ⊥) → HasPorts setups a → Keeps a (releases_input a e)
  input_keeps a e led h = join_keeps a (join_of a.controller e)
      (λ join found. (find_every (IsJoin setups a) (λ (x : Join). same_end x.input e) (joins_of a.controller) join (joins_are setups a h) found, λ u. led (subst Unled (found_input a e join found) u))) h

  -- *A port is cleared*
  pub clears_keep : (a : Acted) (port : PortNo) → Keeps a (clears_port a port)
  clears_keep a port = by (linked_at a.controller port) refl
    where
      by : (o : Option Linked) → linked_at a.controller port ≡ o → Keeps a (clears_of a o)
      by None found = itself a
      by (Some linked) found = on_both (Keeps a) (may_clear a.controller linked) (with_linked a (record linked { port = cleared linked.port })) a
          (put_keeps a (with_linked a (record linked { port = cleared linked.port })) linked (record linked { port = cleared linked.port }) (found_at_own setups a linked port found) refl refl refl refl refl) (itself a)
