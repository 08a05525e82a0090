-- all that holds of requests and joins, and what keeps it: what is sent and asked, a rule of a port, a join that is
-- entered, a label that is freed

use Rattle.std.proofs.Common.{◌≡◌, ◌≢◌, ℕ, Bool, true, false, List, [], Option, None, Some, refl, sym, ◌∙◌, ap, subst, if◌then◌else◌}
use Rattle.std.specs.Prelude.{◌&&◌, not}
use Rattle.std.specs.Option.{option_map, option_map_or, option_and_then}
use Rattle.law_controller_facts.specs.world_model.Words.{PortNo, Channel, End, Mark, number_of_channel, label_number_of, State, Clearing, SynSent, SynRcvd, Estab, is_estab, Request, MoveBranch, DeleteTree, Record, Free, Journal, at, put, Desk, Standing, all_on, Note, Setup, home_of, Label, LabelState, Wiring, Offered, Recalled, Wired, label_number, Grant, ByController, ByInput, grant_label, Session, label_at, labels_of, label_by, joins_label, freed_in, freed, Linked, port_key, linked_at, with_linked, default_channel, sends_control, sends_request, asks, takes_back, begins, node_resets, performs, performs_in_estab, Rule, works, works_as, at_port, enters_grant, enters_label, joins, label_on, is_clearing, awaits_nothing, may_clear, tells_port}
use Rattle.law_controller_facts.proofs.world_model.net_types.Labels.{number_of_channel-label_channel_of}
use Rattle.law_controller_facts.specs.world_model.gsmp_wire.Layout.{octets_of as gsmp_octets}
use Rattle.law_controller_facts.specs.world_model.port_model.Desk.{message_at}
use Rattle.law_controller_facts.specs.world_model.port_model.Grants as grants
use Rattle.law_controller_facts.specs.world_model.port_model.Port.{Port}
use Rattle.law_controller_facts.specs.world_model.port_model.Joins as port_joins
use Rattle.law_controller_facts.specs.world_model.port_model.Answers as port_answers
use Rattle.law_controller_facts.specs.world_model.port_model.Resets.{cleared}
use Rattle.law_controller_facts.specs.law_port_facts.Port.{IsLabelEnd, IsShaped, AnyChannel}
use Rattle.law_controller_facts.proofs.law_port_facts.Keyed.{on_both, by_eq, at_key, at_put_same, at_put_other}
use Rattle.law_controller_facts.proofs.law_port_facts.Steps.{GoesOn}
use Rattle.law_controller_facts.proofs.law_port_facts.Rules.{IsTree, done_goes}
use Rattle.law_controller_facts.proofs.law_port_facts.Found.{by_number}
use Rattle.law_controller_facts.specs.world_model.Controller.{Acted}
use Rattle.law_controller_facts.specs.world_model.Sending.{sends}
use Rattle.law_controller_facts.specs.world_model.Joins.{Join, output_joined}
use Rattle.law_controller_facts.specs.Sound.{IsSound}
use Rattle.law_controller_facts.proofs.Moves.{Found, HasPorts, found_at_own}
use Rattle.law_controller_facts.proofs.Joining.{image_is}
use Rattle.law_controller_facts.proofs.Entering.{granted_end, OnPort, on_port, lends_labels}
use Rattle.law_controller_facts.proofs.Conditions.{of_label}
use Rattle.law_controller_facts.proofs.Laws.{has_ports}
use Rattle.law_controller.specs.Match.{MovesJoined, joined_in, lent_in, joined_at, lent_at, clearing_at}
use Rattle.law_controller.specs.Order.{is_lent, IsOrderly}
use Rattle.law_controller.proofs.Pairing.{same_pairs}
use Rattle.law_controller.proofs.Matched.{But, Never, here_now, there_now, joined_put, lent_put, clearing_put, pairs_but, cleared_but, entered_but}
use Rattle.law_controller.proofs.Ordering.{MayAsk, same_number}
use Rattle.law_controller.proofs.Holding.{Holds, sends_holds, sends_control_holds, chained_holds, cleared_holds, node_holds}
use Rattle.law_controller.proofs.Performing.{asks_holds, takes_back_holds, at_port_holds}
use Rattle.law_controller.proofs.Entering.{IsHeldAt, held_at, IsLentNow, lent_at_port, enters_label_lent, joins_holds}
use Rattle.law_controller.proofs.Matching.{any_goes, Fits, node_fits, sent_fits, sent_control_fits, asks_fits, takes_back_fits, at_port_fits}
use Rattle.law_controller.proofs.Parting.{end_of}
use Rattle.law_controller.proofs.Settling.{freed_done}

module _ (setups : List Setup) where
  pub record Whole (a : Acted) : Type 0 where
    pub sound : IsSound setups a.controller
    pub order : IsOrderly a.controller
    pub fits : Fits setups Never a

  pub holds_of : (a : Acted) → Whole a → Holds setups a
  holds_of a h = record { sound = h.sound; order = h.order }

  pub whole_of : (a : Acted) → Holds setups a → Fits setups Never a → Whole a
  whole_of a h f = record { sound = h.sound; order = h.order; fits = f }

  -- *The notes, and what is sent*
  pub numbered_whole : (a : Acted) (notes : Journal) → Whole a → Whole (record a { notes = notes })
  numbered_whole a notes h = record { sound = h.sound; order = h.order; fits = h.fits }

  pub sends_whole : (a : Acted) (channel : Channel) (mark : Mark) (payload : List ℕ) → Whole a → Whole (sends a channel mark payload)
  sends_whole a channel mark payload h = whole_of (sends a channel mark payload) (sends_holds setups a channel mark payload (holds_of a h)) (sent_fits setups Never a channel mark payload h.fits)

  pub sends_control_whole : (a : Acted) (channel : Channel) (payload : List ℕ) → Whole a → Whole (sends_control a channel payload)
  sends_control_whole a channel payload h = whole_of (sends_control a channel payload) (sends_control_holds setups a channel payload (holds_of a h)) (sent_control_fits setups Never a channel payload h.fits)

  pub sends_request_whole : (a : Acted) (s : Standing) → Whole a → Whole (sends_request a s)
  sends_request_whole a s h = sends_control_whole a default_channel (gsmp_octets (message_at a.controller.desk s)) h

  -- *Asking*
  pub asks_whole : (a : Acted) (request : Request) → IsShaped setups request → MovesJoined a.controller.ports request → (is_estab a.controller.adjacency.state ≡ true → MayAsk a.controller.ports a.controller.has_met a.controller.desk request) → Whole a → Whole (asks a request)
  asks_whole a request shaped joined may h = whole_of (asks a request) (asks_holds setups a request shaped may (holds_of a h)) (asks_fits setups Never a request joined h.sound h.fits)

  pub takes_back_whole : (a : Acted) (input output : End) → IsShaped setups (MoveBranch input output (home_of input)) → (is_estab a.controller.adjacency.state ≡ true → is_lent a.controller.ports input ≡ true) → Whole a → Whole (takes_back a input output)
  takes_back_whole a input output shaped lent h = whole_of (takes_back a input output) (takes_back_holds setups a input output shaped lent (holds_of a h)) (takes_back_fits setups Never a input output h.sound h.fits)

  pub node_whole : (a : Acted) → Whole a → Whole (node_resets a)
  node_whole a h = whole_of (node_resets a) (node_holds setups a (holds_of a h)) (node_fits setups Never a h.sound)

  -- *Ports*
  pub chained_whole : (a : Acted) (linked after : Linked) → Found setups a linked → after.setup ≡ linked.setup → after.port ≡ linked.port → Whole a → Whole (with_linked a after)
  chained_whole a linked after found same port h = whole_of (with_linked a after) (chained_holds setups a linked after found same port (holds_of a h))
      (pairs_but a.controller.ports linked after found (ap (λ (s : Setup). s.port.0) same) Never a.controller.has_met a.controller.desk (record {
        joins = λ n. ap (λ (p : Port). joined_in (labels_of p) n) port;
        lends = λ n. ap (λ (p : Port). lent_in p.grants n) port;
        clearing = ap (λ (p : Port). is_clearing p.adjacency.state) port;
      }) h.fits)

  first_part : (a b c : Bool) → ((a && b) && c) ≡ true → a ≡ true
  first_part true b c e = refl
  first_part false b c e = absurd (cc e)

  last_part : (a b c : Bool) → (a && (b && c)) ≡ true → c ≡ true
  last_part true true c e = e
  last_part true false c e = absurd (cc e)
  last_part false b c e = absurd (cc e)

  not_first : (a b : Bool) → (not a && b) ≡ true → a ≡ false
  not_first true b e = absurd (cc e)
  not_first false b e = refl

  pub cleared_whole : (a : Acted) (linked : Linked) → Found setups a linked → may_clear a.controller linked ≡ true → Whole a → Whole (with_linked a (record linked { port = cleared linked.port }))
  cleared_whole a linked found may h =
      let nothing : awaits_nothing a.controller linked.setup.port ≡ true = last_part _ _ (awaits_nothing a.controller linked.setup.port) may in
      whole_of (with_linked a (record linked { port = cleared linked.port })) (cleared_holds setups a linked found may (holds_of a h))
      (cleared_but a.controller.ports linked (record linked { port = cleared linked.port }) found refl a.controller.has_met a.controller.desk refl refl (first_part (is_clearing linked.port.adjacency.state) _ _ may) refl
      (λ port same. ap (λ (p : PortNo). all_on a.controller.desk p) (same_number port linked.setup.port same) ∙ not_first (all_on a.controller.desk linked.setup.port) _ nothing) h.fits)

  pub at_port_whole : (a : Acted) (port : PortNo) (rule : Rule)
      → ((linked : Linked) → linked_at a.controller port ≡ Some linked → GoesOn AnyChannel ⊥ linked.setup a.controller.desk (begins a linked) (rule linked.setup a.controller.desk (begins a linked)))
      → Whole a → Whole (at_port a port rule)
  at_port_whole a port rule goes h = whole_of (at_port a port rule)
      (at_port_holds setups a port rule (λ linked found. any_goes ⊥ linked.setup a.controller.desk (begins a linked) (rule linked.setup a.controller.desk (begins a linked)) (goes linked found)) (holds_of a h))
      (at_port_fits setups a port rule goes h.sound h.fits)

  -- *An answer at a port*: a label is freed, to whose channel nothing is lent
  none_worked : (a : Acted) (linked : Linked) → Found setups a linked → Fits setups Never a → Fits setups Never (works_as a linked (begins a linked))
  none_worked a linked found f = pairs_but a.controller.ports linked (record linked { port = linked.port }) found refl Never a.controller.has_met a.controller.desk (same_pairs linked.port) f

  noted_fits : (port : PortNo) (a : Acted) (item : Record) → Fits setups Never a → Fits setups Never (performs_in_estab port a (Note item))
  noted_fits port a item f = on_both (Fits setups Never) (is_estab a.controller.adjacency.state) (performs port a (Note item)) a f f

  tree_state : (a : Acted) (linked : Linked) (e : End) (label : Label) (state : LabelState) → Found setups a linked → port_key linked ≡ e.port.0 → IsLabelEnd setups e → ((r k : ℕ) → lent_at a.controller.ports r k ≡ Some e → ⊥)
      → label_at linked.port label.number ≡ Some label → label.number ≡ number_of_channel e.channel → IsSound setups a.controller → Fits setups Never a → Fits setups Never (works_as a linked (freed_in linked.setup (begins a linked) label state))
  tree_state a linked e label Wiring found key end never there number s f = none_worked a linked found f
  tree_state a linked e label Offered found key end never there number s f = none_worked a linked found f
  tree_state a linked e label (Recalled last acknowledged) found key end never there number s f = none_worked a linked found f
  tree_state a linked e label Wired found key end never there number s f = noted_fits linked.setup.port _ (Free linked.setup.node linked.setup.port label.number)
      (freed_done setups a linked e found key end never s f label there number)

  tree_fits : (a : Acted) (e : End) → IsLabelEnd setups e → ((r k : ℕ) → lent_at a.controller.ports r k ≡ Some e → ⊥) → IsSound setups a.controller → Fits setups Never a → Fits setups Never (tells_port a (DeleteTree e) (Some e.port))
  tree_fits a e end never s f = by_found (linked_at a.controller e.port) refl
    where
      number_is : label_number_of e.channel ≡ Some (number_of_channel e.channel)
      number_is = ap (λ (b : Bool). if b then Some (number_of_channel e.channel) else None) (of_label setups e end)

      by_label : (linked : Linked) → linked_at a.controller e.port ≡ Some linked → (o : Option Label) → label_at linked.port (number_of_channel e.channel) ≡ o → Fits setups Never (works_as a linked (freed linked.setup (begins a linked) o))
      by_label linked found None there = none_worked a linked (found_at_own setups a linked e.port found) f
      by_label linked found (Some label) there = tree_state a linked e label label.state (found_at_own setups a linked e.port found) (at_key port_key e.port.0 a.controller.ports linked found) end never
          (by_number linked.port (number_of_channel e.channel) label there) (at_key label_number (number_of_channel e.channel) (labels_of linked.port) label there) s f

      by_found : (o : Option Linked) → linked_at a.controller e.port ≡ o → Fits setups Never (works a (λ setup desk w. port_answers.done setup w (DeleteTree e)) o)
      by_found None found = f
      by_found (Some linked) found = subst (λ (n : Option ℕ). Fits setups Never (works_as a linked (freed linked.setup (begins a linked) (label_by linked.port n)))) (sym number_is)
          (by_label linked found (label_at linked.port (number_of_channel e.channel)) refl)

  -- any other answer frees none
  tells_goes : (a : Acted) (request : Request) (port : PortNo) → (IsTree request → ⊥) → Whole a → Fits setups Never (tells_port a request (Some port))
  tells_goes a request port other h = at_port_fits setups a port (λ setup desk w. port_answers.done setup w request) (λ linked found. done_goes linked.setup a.controller.desk (begins a linked) request other) h.sound h.fits

  pub tells_whole : (a : Acted) (request : Request) (port : PortNo) → (IsTree request → ⊥) → Whole a → Whole (tells_port a request (Some port))
  tells_whole a request port other h = whole_of (tells_port a request (Some port))
      (at_port_holds setups a port (λ setup desk w. port_answers.done setup w request) (λ linked found. done_goes linked.setup a.controller.desk (begins a linked) request (λ t. tt)) (holds_of a h)) (tells_goes a request port other h)

  pub tree_whole : (a : Acted) (e : End) → IsLabelEnd setups e → ((r k : ℕ) → lent_at a.controller.ports r k ≡ Some e → ⊥) → Whole a → Whole (tells_port a (DeleteTree e) (Some e.port))
  tree_whole a e end never h = whole_of (tells_port a (DeleteTree e) (Some e.port))
      (at_port_holds setups a e.port (λ setup desk w. port_answers.done setup w (DeleteTree e)) (λ linked found. done_goes linked.setup a.controller.desk (begins a linked) (DeleteTree e) (λ t. tt)) (holds_of a h)) (tree_fits a e end never h.sound h.fits)

  -- *A join is entered*
  record Shows (number : ℕ) (output : End) (before after : List Label) : Type 0 where
    other : (k : ℕ) → number ≢ k → joined_in after k ≡ joined_in before k
    this : joined_in after number ≡ Some output

  record IsEntered (p n q m : ℕ) (input output : End) (ports now : List Linked) : Type 0 where
    joins_this : joined_at now p n ≡ Some output
    joins_other : (r k : ℕ) → (p ≡ r → n ≡ k → ⊥) → joined_at now r k ≡ joined_at ports r k
    lends_this : lent_at now q m ≡ Some input
    lends_other : (r k : ℕ) → (q ≡ r → m ≡ k → ⊥) → lent_at now r k ≡ lent_at ports r k
    clears : (r : ℕ) → clearing_at now r ≡ clearing_at ports r

  -- the grant
  record IsLending (q m : ℕ) (input : End) (ports now : List Linked) : Type 0 where
    joins : (p n : ℕ) → joined_at now p n ≡ joined_at ports p n
    this : lent_at now q m ≡ Some input
    other : (r k : ℕ) → (q ≡ r → m ≡ k → ⊥) → lent_at now r k ≡ lent_at ports r k
    clears : (r : ℕ) → clearing_at now r ≡ clearing_at ports r

  lending : (a : Acted) (linked : Linked) (grant : Grant) (input : End) → Found setups a linked → at grant_label grant.label linked.port.grants ≡ Some grant
      → IsLending (port_key linked) grant.label input a.controller.ports (works_as a linked (port_joins.lent (begins a linked) grant input)).controller.ports
  lending a linked grant input found granted =
      let new : Grant = record grant { state = ByInput input } in
      let after : Linked = record linked { port = (port_joins.lent (begins a linked) grant input).port } in
      let ports : List Linked = a.controller.ports in
      record {
        joins = λ p n. joined_put ports linked after found refl n refl p;
        this = ap (option_and_then (λ (x : Linked). lent_in x.port.grants grant.label)) (here_now ports linked after found refl (port_key linked) refl)
            ∙ ap (option_and_then (λ (g : Grant). grants.lent_input g.state)) (at_put_same grant_label new linked.port.grants grant granted);
        other = λ r k apart. by_eq (port_key linked) r
            (λ is t. lent_put ports linked after found refl k (ap (option_and_then (λ (g : Grant). grants.lent_input g.state)) (at_put_other grant_label new k linked.port.grants (λ same. apart is same))) r)
            (λ away t. ap (option_and_then (λ (x : Linked). lent_in x.port.grants k)) (there_now ports linked after found refl r away));
        clears = λ r. clearing_put ports linked after found refl refl r;
      }

  -- the label
  record IsJoining (p n : ℕ) (output : End) (ports now : List Linked) : Type 0 where
    this : joined_at now p n ≡ Some output
    other : (r k : ℕ) → (p ≡ r → n ≡ k → ⊥) → joined_at now r k ≡ joined_at ports r k
    lends : (r k : ℕ) → lent_at now r k ≡ lent_at ports r k
    clears : (r : ℕ) → clearing_at now r ≡ clearing_at ports r

  shows : (number : ℕ) (output : End) (linked : Linked) (label : Label) → label_at linked.port number ≡ Some label
      → Shows number output (labels_of linked.port) (labels_of (record linked.port { session = option_map (λ (s : Session). record s { labels = put label_number (record label { join = Some output }) s.labels }) linked.port.session }))
  shows number output linked label found = by_session linked.port.session refl
    where
      is_number : label.number ≡ number
      is_number = at_key label_number number (labels_of linked.port) label found

      by_session : (o : Option Session) → linked.port.session ≡ o
          → Shows number output (labels_of linked.port) (option_map_or (λ (s : Session). s.labels) (option_map (λ (s : Session). record s { labels = put label_number (record label { join = Some output }) s.labels }) o) [])
      by_session None is = (let nothing : None ≡ Some label = sym (ap (λ (o : Option Session). at label_number number (option_map_or (λ (x : Session). x.labels) o [])) is) ∙ found in absurd (cc nothing))
      by_session (Some s) is =
          let same : labels_of linked.port ≡ s.labels = ap (λ (o : Option Session). option_map_or (λ (x : Session). x.labels) o []) is in
          let there : at label_number label.number s.labels ≡ Some label = subst (λ (ls : List Label). at label_number label.number ls ≡ Some label) same (subst (λ n. label_at linked.port n ≡ Some label) (sym is_number) found) in
          record {
            other = λ k differs. ap (option_and_then (λ (x : Label). x.join)) (at_put_other label_number (record label { join = Some output }) k s.labels (λ e. differs (sym is_number ∙ e))) ∙ ap (λ (ls : List Label). joined_in ls k) (sym same);
            this = subst (λ n. joined_in (put label_number (record label { join = Some output }) s.labels) n ≡ Some output) is_number
                (ap (option_and_then (λ (x : Label). x.join)) (at_put_same label_number (record label { join = Some output }) s.labels label there));
          }

  joining : (b : Acted) (x : Linked) (input output : End) (label : Label) → linked_at b.controller input.port ≡ Some x → label_at x.port (number_of_channel input.channel) ≡ Some label
      → IsJoining input.port.0 (number_of_channel input.channel) output b.controller.ports (works_as b x (joins_label (begins b x) (Some output) (Some label))).controller.ports
  joining b x input output label found there =
      let own : Found setups b x = found_at_own setups b x input.port found in
      let key : port_key x ≡ input.port.0 = at_key port_key input.port.0 b.controller.ports x found in
      let after : Linked = record x { port = (joins_label (begins b x) (Some output) (Some label)).port } in
      let s : Shows (number_of_channel input.channel) output (labels_of x.port) (labels_of after.port) = shows (number_of_channel input.channel) output x label there in
      let ports : List Linked = b.controller.ports in
      record {
        this = ap (option_and_then (λ (y : Linked). joined_in (labels_of y.port) (number_of_channel input.channel))) (here_now ports x after own refl input.port.0 key) ∙ s.this;
        other = λ r k apart. by_eq (port_key x) r
            (λ is t. joined_put ports x after own refl k (s.other k (λ same. apart (sym key ∙ is) same)) r)
            (λ away t. ap (option_and_then (λ (y : Linked). joined_in (labels_of y.port) k)) (there_now ports x after own refl r away));
        lends = λ r k. lent_put ports x after own refl k refl r;
        clears = λ r. clearing_put ports x after own refl refl r;
      }

  pub estab_open : (s : State) → is_estab s ≡ true → is_clearing s ≡ false
  estab_open Clearing e = absurd (cc e)
  estab_open SynSent e = refl
  estab_open SynRcvd e = refl
  estab_open Estab e = refl

  pub joins_whole : (a : Acted) (input : End) (label : Label) (linked : Linked) (grant : Grant) → IsLabelEnd setups input → label_on a.controller input ≡ Some label → label.state ≡ Offered → label.join ≡ None
      → Found setups a linked → at grant_label grant.label linked.port.grants ≡ Some grant → grant.state ≡ ByController → Whole a
      → Whole (joins a (Some (record { input = input; port = linked.setup.port; grant = grant })))
  joins_whole a input label linked grant end on offered free found granted sending h = whole_of (joins a (Some join)) (joins_holds setups a input label linked grant end on offered found granted sending (holds_of a h))
      (asks_fits setups Never last (MoveBranch input (home_of input) (output_joined join)) (λ other. lent_last) second.holds.sound last_fits)
    where
      join : Join
      join = record { input = input; port = linked.setup.port; grant = grant }

      has : HasPorts setups a
      has = has_ports setups a h.sound

      out : IsLabelEnd setups (output_joined join)
      out = granted_end setups a linked grant has found granted

      held : IsHeldAt setups a input
      held = held_at setups a input label on (holds_of a h)

      before : OnPort a.controller.ports input label
      before = on_port a.controller input label on

      lends : Acted
      lends = enters_grant a join

      last : Acted
      last = enters_label lends join

      first : IsLentNow setups a lends input
      first = lent_at_port setups a linked grant input end found granted sending (holds_of a h)

      labels_there : (x : Linked) → linked_at lends.controller input.port ≡ Some x → labels_of x.port ≡ before.labels
      labels_there x there = image_is (λ (y : Linked). labels_of y.port) (linked_at lends.controller input.port) x before.labels (lends_labels setups a join input.port.0 ∙ before.there) there

      label_there : (x : Linked) → linked_at lends.controller input.port ≡ Some x → label_at x.port (number_of_channel input.channel) ≡ Some label
      label_there x there = ap (at label_number (number_of_channel input.channel)) (labels_there x there) ∙ before.found

      some_same : (x y : Label) → Some x ≡ Some y → x ≡ y
      some_same x y e = cc

      second : IsLentNow setups lends last input
      second = enters_label_lent setups lends join end out (λ x there held_label is. ap (λ (y : Label). y.state) (some_same held_label label (sym is ∙ label_there x there)) ∙ offered) first.lent first.holds

      lent_now : IsLending (port_key linked) grant.label input a.controller.ports lends.controller.ports
      lent_now = subst (λ (o : Option Linked). IsLending (port_key linked) grant.label input a.controller.ports (works a (λ setup desk w. port_joins.lent w grant input) o).controller.ports) (sym found) (lending a linked grant input found granted)

      joined_now : IsJoining input.port.0 (number_of_channel input.channel) (output_joined join) lends.controller.ports last.controller.ports
      joined_now = by_found (linked_at lends.controller input.port) refl
        where
          by_found : (o : Option Linked) → linked_at lends.controller input.port ≡ o
              → IsJoining input.port.0 (number_of_channel input.channel) (output_joined join) lends.controller.ports (works lends (λ setup desk w. port_joins.joined w (number_of_channel input.channel) (output_joined join)) o).controller.ports
          by_found None there = (let nothing : None ≡ Some before.labels = ap (option_map (λ (x : Linked). labels_of x.port)) (sym there) ∙ lends_labels setups a join input.port.0 ∙ before.there in absurd (cc nothing))
          by_found (Some x) there = subst (λ (o : Option Label). IsJoining input.port.0 (number_of_channel input.channel) (output_joined join) lends.controller.ports (works_as lends x (joins_label (begins lends x) (Some (output_joined join)) o)).controller.ports)
              (sym (label_there x there)) (joining lends x input (output_joined join) label there (label_there x there))

      unjoined : joined_at a.controller.ports input.port.0 (number_of_channel input.channel) ≡ None
      unjoined = by_port (linked_at a.controller input.port) refl on
        where
          by_port : (o : Option Linked) → linked_at a.controller input.port ≡ o → option_and_then (λ (x : Linked). label_at x.port (number_of_channel input.channel)) o ≡ Some label
              → option_and_then (λ (x : Linked). joined_in (labels_of x.port) (number_of_channel input.channel)) o ≡ None
          by_port None there e = refl
          by_port (Some x) there e = ap (option_and_then (λ (y : Label). y.join)) e ∙ free

      unlent : lent_at a.controller.ports (port_key linked) grant.label ≡ None
      unlent = ap (option_and_then (λ (x : Linked). lent_in x.port.grants grant.label)) found ∙ ap (option_and_then (λ (g : Grant). grants.lent_input g.state)) granted ∙ ap grants.lent_input sending

      open_port : clearing_at a.controller.ports input.port.0 ≡ false
      open_port = ap (λ (o : Option Linked). option_map_or (λ (x : Linked). is_clearing x.port.adjacency.state) o false) held.found ∙ estab_open held.linked.port.adjacency.state held.estab

      -- its output's grant is lent to it
      lent_last : lent_at last.controller.ports (port_key linked) (number_of_channel (output_joined join).channel) ≡ Some input
      lent_last = joined_now.lends (port_key linked) (number_of_channel (output_joined join).channel) ∙ ap (lent_at lends.controller.ports (port_key linked)) (number_of_channel-label_channel_of grant.label) ∙ lent_now.this

      same_met : last.controller.has_met ≡ a.controller.has_met
      same_met = label_met ∙ grant_met
        where
          grant_met : lends.controller.has_met ≡ a.controller.has_met
          grant_met = by_port (linked_at a.controller linked.setup.port)
            where
              by_port : (o : Option Linked) → (works a (λ setup desk w. port_joins.lent w grant input) o).controller.has_met ≡ a.controller.has_met
              by_port None = refl
              by_port (Some x) = refl

          label_met : last.controller.has_met ≡ lends.controller.has_met
          label_met = by_port (linked_at lends.controller input.port)
            where
              by_label : (x : Linked) (o : Option Label) → (works_as lends x (joins_label (begins lends x) (Some (output_joined join)) o)).controller.has_met ≡ lends.controller.has_met
              by_label x None = refl
              by_label x (Some y) = refl

              by_port : (o : Option Linked) → (works lends (λ setup desk w. port_joins.joined w (number_of_channel input.channel) (output_joined join)) o).controller.has_met ≡ lends.controller.has_met
              by_port None = refl
              by_port (Some x) = by_label x (label_at x.port (number_of_channel input.channel))

      last_fits : Fits setups Never last
      last_fits = subst (λ (t : Bool). But Never last.controller.ports t last.controller.desk) (sym same_met)
          (subst (λ (d : Desk). But Never last.controller.ports a.controller.has_met d) (sym (second.desk ∙ first.desk)) (entered_but Never a.controller.ports last.controller.ports a.controller.has_met a.controller.desk input.port.0 (number_of_channel input.channel) (port_key linked) grant.label (output_joined join)
          refl (number_of_channel-label_channel_of grant.label) refl unjoined unlent open_port joined_now.this (λ r k apart. joined_now.other r k apart ∙ lent_now.joins r k)
          (joined_now.lends (port_key linked) grant.label ∙ lent_now.this ∙ ap (λ (x : End). Some x) (sym (end_of setups input end))) (λ r k apart. joined_now.lends r k ∙ lent_now.other r k apart)
          (λ r. joined_now.clears r ∙ lent_now.clears r) (number_of_channel-label_channel_of (number_of_channel input.channel)) h.fits))
