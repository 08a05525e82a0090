-- what is asked of the switch, and what a port at work has asked: the widths are kept, and what is made is a message's

use Rattle.std.proofs.Common.{◌≡◌, ◌<◌, false, List, [], ◌∷◌, Option, None, Some, refl, arith, fold, if◌then◌else◌}
use Rattle.std.specs.Prelude.{◌^◌, ◌==◌, map, flat_map}
use Rattle.law_branch_shapes.specs.world_model.Words.{End, PortNo, is_estab, Request, MoveBranch, Standing, is_led_home, last_transaction, Action, Say, Ask, Note, CutChain, TakeBack, Withdraw, Setup, home_of, Label, Grant, GrantState, Idle, ByController, ByInput, Leaving, Session, Work, is_spent, closing, taking_back_in, taking_back, withdrawing_in, withdrawing_of, withdrawing, resets, Linked, port_key, linked_at, with_desk, sends_request, asks_next, asks, takes_back, begins, with_work, node_resets, does, does_in_estab, resets_as, resets_of, resets_port, performs, performs_in_estab, Rule, works_as, works, at_port}
use Rattle.law_frame_readings.specs.ordered_lists.Ordered.{Every}
use Rattle.law_frame_readings.proofs.ordered_lists.Every.{every_join}
use Rattle.law_branch_shapes.specs.world_model.port_model.Desk.{asked, message_at}
use Rattle.law_branch_shapes.specs.world_model.port_model.declared.action.Action.TheVariants.{Reset}
use Rattle.law_frame_readings.specs.law_port_facts.Port.{IsShaped, parts_label, IsAction, IsSayable, IsWork}
use Rattle.law_frame_readings.proofs.law_port_facts.Keyed.{on_both, on_each, at_every}
use Rattle.law_frame_readings.proofs.law_port_facts.Joins.{resets_kept}
use Rattle.law_frame_readings.specs.law_port_widths.Widths.{FitsAction, FitsWork}
use Rattle.law_frame_readings.proofs.law_port_widths.Rules.{resets_fit}
use Rattle.law_branch_shapes.specs.world_model.Controller.{Acted}
use Rattle.law_frame_readings.proofs.law_controller_facts.Moves.{Worked, by_reset, Found, asking, placing, Moves, moves_to, HasPorts, found_setup, found_at_own, begun, moves_ports, worked_kept}
use Rattle.law_frame_readings.proofs.law_controller_facts.Performing.{resets_port_goes, works_as_goes}
use Rattle.law_frame_readings.proofs.law_controller_facts.Joining.{every_flat_map}
use Rattle.law_frame_readings.proofs.law_controller_lifts.Halted.{HasReset}
use Rattle.law_frame_readings.proofs.law_controller_lifts.Kept.{Of, Goes, goes_fold, done_goes, performs_goes}
use Rattle.law_frame_readings.proofs.law_controller_lifts.Unspent.{Unspent, unspent_closed, works_unspent}
use Rattle.law_frame_readings.specs.law_label_steps.Follows.{IsUnspent}
use Rattle.law_input_events.proofs.law_input_premises.Written.{are_written}
use Rattle.law_running_worlds.proofs.Walk.{Base, base_moves, Carried, Loose, To, loosely, stays, goes_on, to_fold, alike_to, note_to, cuts_to, withdraws_to, node_to, says_gsmp_to, says_ifmp_to, worked_carried, fits_at, begins_fit}

-- *What a reset asks* is said to nobody
abbrev IsMute : Action → Type 0
IsMute (Say message) = ⊥
IsMute action = Unit {0}

mute_says : (actions : List Action) → Every IsMute actions → Every IsSayable actions
mute_says [] h = tt
mute_says (Say message ∷ actions) h = absurd h.0
mute_says (Ask request needed ∷ actions) h = (tt, mute_says actions h.1)
mute_says (Note item ∷ actions) h = (tt, mute_says actions h.1)
mute_says (CutChain label ∷ actions) h = (tt, mute_says actions h.1)
mute_says (TakeBack input output ∷ actions) h = (tt, mute_says actions h.1)
mute_says (Withdraw input ∷ actions) h = (tt, mute_says actions h.1)
mute_says (Reset ∷ actions) h = (tt, mute_says actions h.1)

abbrev Any : Grant → Type 0
Any grant = Unit {0}

any_grants : (grants : List Grant) → Every Any grants
any_grants [] = tt
any_grants (grant ∷ grants) = (tt, any_grants grants)

closing_mute : (setup : Setup) (o : Option Session) → Every IsMute (closing setup o)
closing_mute setup None = tt
closing_mute setup (Some s) = (tt, cuts s.labels)
  where
    cuts : (labels : List Label) → Every IsMute (map (λ (label : Label). CutChain label.number) labels)
    cuts [] = tt
    cuts (label ∷ labels) = (tt, cuts labels)

withdrawing_mute : (setup : Setup) (grant : Grant) → Every IsMute (withdrawing_of setup grant)
withdrawing_mute setup grant = by grant.state
  where
    by : (state : GrantState) → Every IsMute (withdrawing_in setup grant.label state)
    by Idle = (tt, tt)
    by ByController = (tt, tt)
    by (ByInput input) = tt
    by (Leaving input owed) = tt

taking_mute : (setup : Setup) (grant : Grant) → Every IsMute (taking_back setup grant)
taking_mute setup grant = by grant.state
  where
    by : (state : GrantState) → Every IsMute (taking_back_in setup grant state)
    by Idle = tt
    by ByController = tt
    by (ByInput input) = (tt, tt)
    by (Leaving input owed) = tt

resets_mute : (a : Acted) (linked : Linked) → Every IsSayable (resets linked.setup (begins a linked)).actions
resets_mute a linked = mute_says (resets linked.setup (begins a linked)).actions
    (every_join IsMute (closing linked.setup linked.port.session) _ (closing_mute linked.setup linked.port.session)
    (every_join IsMute (withdrawing linked.setup linked.port.grants) _ (every_flat_map Any IsMute (withdrawing_of linked.setup) (λ grant any. withdrawing_mute linked.setup grant) linked.port.grants (any_grants linked.port.grants))
    (every_join IsMute (flat_map (taking_back linked.setup) linked.port.grants) _ (every_flat_map Any IsMute (taking_back linked.setup) (λ grant any. taking_mute linked.setup grant) linked.port.grants (any_grants linked.port.grants)) (tt, tt))))

module _ (setups : List Setup) where
  abbrev pub Steps : Acted → Acted → Type 0
  Steps = To setups

  -- *Asking*
  sends_request_to : (a : Acted) (s : Standing) → (Base setups a → s.number < 2 ^ 32) → IsShaped setups s.request → Steps a (sends_request a s)
  sends_request_to a s less shaped = says_gsmp_to setups a (message_at a.controller.desk s) (λ base c. are_written setups base.links a.controller.desk.rows s.number s.request c.rows (less base) shaped)

  pub asks_to : (a : Acted) (request : Request) → HasPorts setups a → IsShaped setups request → Steps a (asks a request)
  asks_to a request h shaped = on_each (Steps a) (is_estab a.controller.adjacency.state) (if a.controller.desk.next == last_transaction then node_resets a else asks_next a request) a
      (λ estab. on_each (Steps a) (a.controller.desk.next == last_transaction) (node_resets a) (asks_next a request)
      (λ spent. node_to setups a h)
      (λ room. goes_on setups h (alike_to setups a next (moves_to (asking a request estab room shaped)) refl refl refl refl)
      (λ k. sends_request_to next (record { number = a.controller.desk.next; request = request }) (λ base. omega (arith, base.sound.desk.room)) shaped)))
      (λ t. stays setups a)
    where
      next : Acted
      next = with_desk a (asked a.controller.desk request)

  pub asks_each_to : (requests : List Request) → Every (IsShaped setups) requests → (a : Acted) → HasPorts setups a → Steps a (fold asks a requests)
  asks_each_to requests all a h = to_fold setups (IsShaped setups) asks (λ b request k shaped. asks_to b request k shaped) requests all a h

  pub takes_back_to : (a : Acted) (input output : End) → HasPorts setups a → IsShaped setups (MoveBranch input output (home_of input)) → Steps a (takes_back a input output)
  takes_back_to a input output h shaped = on_both (Steps a) (is_led_home a.controller.desk input (home_of input)) a (asks a (MoveBranch input output (home_of input)))
      (stays setups a) (asks_to a (MoveBranch input output (home_of input)) h shaped)

  -- a request is sent again
  pub sent_again_to : (a : Acted) (s : Standing) → s.number < 2 ^ 32 → IsShaped setups s.request → Steps a (sends_request a s)
  sent_again_to a s less shaped = sends_request_to a s (λ base. less) shaped

  -- *One action*
  pub record IsDone (action : Action) : Type 0 where
    pub asks : IsAction setups action
    pub says : IsSayable action
    pub fits : FitsAction action

  pub all_done : (actions : List Action) → Every (IsAction setups) actions → Every IsSayable actions → Every FitsAction actions → Every IsDone actions
  all_done [] h k l = tt
  all_done (action ∷ actions) h k l = (record { asks = h.0; says = k.0; fits = l.0 }, all_done actions h.1 k.1 l.1)

  does_to : (port : PortNo) (a : Acted) (action : Action) → HasPorts setups a → IsDone action → Steps a (does port a action)
  does_to port a (Say message) h d = says_ifmp_to setups port a message d.says d.fits
  does_to port a (Ask request needed) h d = asks_to a request h d.asks.0
  does_to port a (Note item) h d = note_to setups a item
  does_to port a (CutChain label) h d = cuts_to setups port a label
  does_to port a (TakeBack input output) h d = takes_back_to a input output h (parts_label input output d.asks.0 d.asks.1)
  does_to port a (Withdraw input) h d = withdraws_to setups a input
  does_to port a Reset h d = stays setups a

  does_in_estab_to : (port : PortNo) (a : Acted) (action : Action) → HasPorts setups a → IsDone action → Steps a (does_in_estab port a action)
  does_in_estab_to port a action h d = on_both (Steps a) (is_estab a.controller.adjacency.state) (does port a action) a (does_to port a action h d) (stays setups a)

  -- *Port reset*
  resets_carried : (a : Acted) (port : PortNo) (o : Option Linked) → HasPorts setups a → linked_at a.controller port ≡ o → (resets_of a o).numbers.instances < 2 ^ 32 → Base setups a → Carried setups a → Carried setups (resets_of a o)
  resets_carried a port None h found small base c = c
  resets_carried a port (Some linked) h found small base c =
      let w : Work = resets linked.setup (begins a linked) in
      let b : Acted = with_work a linked w in
      let m : Moves setups a b = moves_to (placing a linked w (found_at_own setups a linked port found) by_reset) in
      let rises : Goes Unspent b (resets_as a linked w) = goes_fold Unspent unspent_closed (does_in_estab linked.setup.port) (done_goes Unspent unspent_closed linked.setup.port) w.actions b in
      let fits : FitsWork w = resets_fit linked.setup (begins a linked) (fits_at setups a port linked c found).0 (omega (arith, small, rises.rises)) (begins_fit setups a port linked c found) in
      let kept : IsWork setups linked.setup w = resets_kept setups linked.setup (found_setup setups a linked linked.setup.port h (found_at_own setups a linked port found)) (begins a linked) (begun setups a linked port h found) in
      (to_fold setups IsDone (does_in_estab linked.setup.port) (does_in_estab_to linked.setup.port) w.actions (all_done w.actions kept.actions (resets_mute a linked) fits.said) b (moves_ports setups m h)).carried
      small (base_moves setups a b m base) (worked_carried setups a linked w c (fits_at setups a port linked c found).0 fits)

  pub resets_port_to : (a : Acted) (port : PortNo) → HasPorts setups a → Steps a (resets_port a port)
  resets_port_to a port h = record {
    moves = resets_port_goes setups a port h;
    carried = λ small base c. resets_carried a port (linked_at a.controller port) h refl small base c;
    unspent = λ small sound u. (performs_goes Unspent unspent_closed port a Reset).keeps small u;
  }

  -- *Each action*
  performs_to : (port : PortNo) (a : Acted) (action : Action) → HasPorts setups a → IsDone action → Steps a (performs port a action)
  performs_to port a (Say message) h d = does_to port a (Say message) h d
  performs_to port a (Ask request needed) h d = does_to port a (Ask request needed) h d
  performs_to port a (Note item) h d = does_to port a (Note item) h d
  performs_to port a (CutChain label) h d = does_to port a (CutChain label) h d
  performs_to port a (TakeBack input output) h d = does_to port a (TakeBack input output) h d
  performs_to port a (Withdraw input) h d = does_to port a (Withdraw input) h d
  performs_to port a Reset h d = resets_port_to a port h

  pub performs_in_estab_to : (port : PortNo) (a : Acted) (action : Action) → HasPorts setups a → IsDone action → Steps a (performs_in_estab port a action)
  performs_in_estab_to port a action h d = on_both (Steps a) (is_estab a.controller.adjacency.state) (performs port a action) a (performs_to port a action h d) (stays setups a)

  -- *A rule of a port*: what it makes of a port at work is in range and fits
  pub record IsSaying (w : Work) : Type 0 where
    pub fits : FitsWork w
    pub says : Every IsSayable w.actions

  pub works_loose : (a : Acted) (q : PortNo) (linked : Linked) (w : Work) → HasPorts setups a → linked_at a.controller q ≡ Some linked → Worked setups linked.setup a.controller.desk (begins a linked) w
      → (Base setups a → Carried setups a → IsSaying w) → Loose setups a (works_as a linked w)
  works_loose a q linked w h found worked says =
      let own : Found setups a linked = found_at_own setups a linked q found in
      let b : Acted = with_work a linked w in
      let m : Moves setups a b = moves_to (placing a linked w own worked) in
      let kept : IsWork setups linked.setup w = worked_kept setups linked.setup a.controller.desk (found_setup setups a linked linked.setup.port h own) (begins a linked) w worked (begun setups a linked q h found) in
      record {
        moves = works_as_goes setups a linked w h own worked;
        carried = λ small base c. (let s : IsSaying w = says base c in
            (to_fold setups IsDone (performs_in_estab linked.setup.port) (performs_in_estab_to linked.setup.port) w.actions (all_done w.actions kept.actions s.says s.fits.said) b (moves_ports setups m h)).carried
            small (base_moves setups a b m base) (worked_carried setups a linked w c (fits_at setups a q linked c found).0 s.fits));
      }

  -- and its numbers aren't spent, or its reset is asked
  pub record IsFree (w : Work) : Type 0 where
    pub unspent : IsUnspent w
    pub asked : HasReset w

  pub works_to : (a : Acted) (q : PortNo) (linked : Linked) (w : Work) → HasPorts setups a → linked_at a.controller q ≡ Some linked → Worked setups linked.setup a.controller.desk (begins a linked) w
      → (Base setups a → Carried setups a → IsSaying w) → (is_spent linked.port.session ≡ false → IsFree w) → Steps a (works_as a linked w)
  works_to a q linked w h found worked says free =
      let l : Loose setups a (works_as a linked w) = works_loose a q linked w h found worked says in
      record {
        moves = l.moves;
        carried = l.carried;
        unspent = λ small sound u. (let f : IsFree w = free (at_every port_key (Of Unspent) q.0 a.controller.ports linked u found) in
            works_unspent setups a q linked w sound found worked f.unspent f.asked small u);
      }

  -- at a port, by what is found there
  pub record Ruled (a : Acted) (linked : Linked) (w : Work) : Type 0 where
    pub worked : Worked setups linked.setup a.controller.desk (begins a linked) w
    pub says : Base setups a → Carried setups a → IsSaying w

  pub at_port_loose : (a : Acted) (q : PortNo) (rule : Rule) → HasPorts setups a
      → ((linked : Linked) → linked_at a.controller q ≡ Some linked → Ruled a linked (rule linked.setup a.controller.desk (begins a linked))) → Loose setups a (at_port a q rule)
  at_port_loose a q rule h each = by (linked_at a.controller q) refl
    where
      by : (o : Option Linked) → linked_at a.controller q ≡ o → Loose setups a (works a rule o)
      by None found = loosely setups (stays setups a)
      by (Some linked) found = works_loose a q linked (rule linked.setup a.controller.desk (begins a linked)) h found (each linked found).worked (each linked found).says

  pub at_port_to : (a : Acted) (q : PortNo) (rule : Rule) → HasPorts setups a
      → ((linked : Linked) → linked_at a.controller q ≡ Some linked → Ruled a linked (rule linked.setup a.controller.desk (begins a linked)))
      → ((linked : Linked) → linked_at a.controller q ≡ Some linked → is_spent linked.port.session ≡ false → IsFree (rule linked.setup a.controller.desk (begins a linked))) → Steps a (at_port a q rule)
  at_port_to a q rule h each free = by (linked_at a.controller q) refl
    where
      by : (o : Option Linked) → linked_at a.controller q ≡ o → Steps a (works a rule o)
      by None found = stays setups a
      by (Some linked) found = works_to a q linked (rule linked.setup a.controller.desk (begins a linked)) h found (each linked found).worked (each linked found).says (free linked found)
