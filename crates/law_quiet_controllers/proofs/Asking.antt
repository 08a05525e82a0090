-- what is asked, a reset of a node or a port, and what a port at work asks are quiet

use Rattle.std.proofs.Common.{◌≡◌, ℕ, ◌+◌, ◌<◌, ◌≤◌, true, false, List, [], ◌∷◌, length, drop, Option, None, Some, refl, sym, ◌∙◌, ap, subst, arith, fold, map, if◌then◌else◌}
use Rattle.std.specs.Prelude.{◌==◌, not, nat_lt, filter, slice_index}
use Rattle.std.specs.Option.{option_and_then}
use Rattle.std.specs.Str.{bytes_eq}
use Rattle.std.specs.Prelude.{take}
use Rattle.std.proofs.lemmas.Bool.Decides.{nat_tests}
use Rattle.law_controller_facts.specs.world_model.Words.{End, PortNo, Mark, Cell, is_estab, default_payload, Request, AddBranch, MoveBranch, DeleteTree, VerifyTree, PortManagement, PortRow, snap_header, type_of, refusal_by, Frame, Journal, noted, Reassembly, cut, noted_all, distinct, marks_of, Record, Loss, Cut, Desk, Standing, is_led_home, last_transaction, message_of, withdraws, is_on, Action, Say, Ask, Note, CutChain, TakeBack, Withdraw, Setup, home_of, Work, resets, restarts, Linked, linked_at, with_desk, chain_of, sends_request, asks_next, asks, takes_back, withdraws_input, cuts_of, cuts_label, begins, with_work, closes_by, port_restarts_of, port_restarts, port_restarts_as, resets_gsmp, node_resets, does, does_in_estab, resets_of, performs, performs_in_estab, Rule, works_as, works, at_port, gsmp_of, copy_of}
use Rattle.law_controller_facts.specs.world_model.gsmp_wire.declared.fault.Fault.{Fault}
use Rattle.law_controller_facts.specs.world_model.gsmp_wire.declared.fault.Fault.TheVariants as faults
use Rattle.law_controller_facts.specs.world_model.gsmp_wire.declared.request.Request.TheVariants.{DeleteAll, AllPorts}
use Rattle.law_controller_facts.specs.world_model.gsmp_wire.Fields.{decoded, decoded_by}
use Rattle.law_controller_facts.specs.world_model.gsmp_wire.Layout.{octets_of as gsmp_octets}
use Rattle.law_controller_facts.specs.ordered_lists.Ordered.{Every}
use Rattle.law_controller_facts.proofs.ordered_lists.Every.{every_join, every_map}
use Rattle.law_controller_facts.specs.world_model.port_model.Desk.{asked, message_at}
use Rattle.law_controller_facts.specs.world_model.port_model.declared.action.Action.TheVariants.{Reset}
use Rattle.law_controller_facts.specs.law_port_facts.Port.{IsShaped, IsAction, parts_label}
use Rattle.law_controller_facts.proofs.law_port_facts.Keyed.{on_both, on_each}
use Rattle.law_controller_facts.proofs.law_port_facts.Joins.{resets_kept}
use Rattle.law_controller_facts.specs.world_model.Controller.{Acted, ports_of}
use Rattle.law_controller_facts.proofs.Moves.{HasPorts, Found, Worked, by_reset, asking, withdrawing, placing, moves_to, moves_ports, found_setup, found_at_own, begun, worked_kept}
use Rattle.law_controller_facts.proofs.Performing.{node_resets_goes, cuts_label_goes}
use Rattle.law_controller_facts.proofs.Joining.{every_filter}
use Rattle.law_controller_facts.specs.world_model.Ways.{ok_of}
use Rattle.law_quiet_controllers.specs.Quiet.{May, asked_by, AreRead, IsFine}
use Rattle.law_quiet_controllers.proofs.Sending.{Holds, On, Says, ports_of_quiet, same_on, control_on, moves_home, stays_home}

-- *A packet's encapsulation* asks nothing
pub default_asks : (packet : List ℕ) → gsmp_of (default_payload packet) ≡ None
unfolding decoded
default_asks packet =
    let octets : List ℕ = default_payload packet in
    on_both (λ (o : Option Fault). ok_of (decoded_by o (type_of (slice_index octets 9)) (drop 8 octets)) ≡ None) (nat_lt (length octets) 12) (Some faults.Short)
    (if not (bytes_eq (take 8 octets) snap_header) then Some faults.Snap
    else (if not (slice_index octets 8 == 1) then Some faults.Version else refusal_by (type_of (slice_index octets 9)) (drop 8 octets))) refl refl

-- *A request's message* asks the request
pub message_asks : (rows : List PortRow) (number : ℕ) (request : Request) → copy_of (message_of rows number request) ≡ Some (record { number = number; request = request })
message_asks rows number (AddBranch input output) = refl
message_asks rows number (MoveBranch input from to) = refl
message_asks rows number (DeleteTree input) = refl
message_asks rows number (VerifyTree input) = refl
message_asks rows number (DeleteAll port) = refl
message_asks rows number (PortManagement port function) = refl
message_asks rows number AllPorts = refl

some_is : {A : Type 0} (x y : A) → Some x ≡ Some y → x ≡ y
some_is x y e = cc e

-- *Nothing is asked or sent*
pub record IsSilent (a b : Acted) : Type 0 where
  pub desk : b.controller.desk ≡ a.controller.desk
  pub queue : b.controller.queue ≡ a.controller.queue
  pub frames : b.notes.frames ≡ a.notes.frames
  pub controls : b.numbers.controls ≡ a.numbers.controls

pub silent_self : (a : Acted) → IsSilent a a
silent_self a = record { desk = refl; queue = refl; frames = refl; controls = refl }

pub silent_on : (a b c : Acted) → IsSilent a b → IsSilent b c → IsSilent a c
silent_on a b c h k = record { desk = k.desk ∙ h.desk; queue = k.queue ∙ h.queue; frames = k.frames ∙ h.frames; controls = k.controls ∙ h.controls }

pub silent_fold : {A : Type 0} (f : Acted → A → Acted) → ((a : Acted) (x : A) → IsSilent a (f a x)) → (xs : List A) (a : Acted) → IsSilent a (fold f a xs)
silent_fold f each [] a = silent_self a
silent_fold f each (x ∷ xs) a = silent_on a (f a x) (fold f (f a x) xs) (each a x) (silent_fold f each xs (f a x))

noted_frames : (items : List Record) (notes : Journal) → (noted_all notes items).frames ≡ notes.frames
noted_frames [] notes = refl
noted_frames (item ∷ items) notes = noted_frames items (noted notes item)

pub cut_frames : (notes : Journal) (r : Reassembly) → (cut notes r).frames ≡ notes.frames
cut_frames notes r = noted_frames (map (λ (mark : Mark). Loss mark Cut) (distinct (marks_of r.chain))) notes

cuts_silent : (a : Acted) (label : ℕ) (o : Option Linked) → IsSilent a (cuts_of a label o)
cuts_silent a label None = silent_self a
cuts_silent a label (Some linked) = record { desk = refl; queue = refl; frames = cut_frames a.notes (chain_of linked.chains label); controls = refl }

closes_silent : (port : PortNo) (a : Acted) (action : Action) → IsSilent a (closes_by port a action)
closes_silent port a (Say message) = silent_self a
closes_silent port a (Ask request needed) = silent_self a
closes_silent port a (Note item) = record { desk = refl; queue = refl; frames = refl; controls = refl }
closes_silent port a (CutChain label) = cuts_silent a label (linked_at a.controller port)
closes_silent port a (TakeBack input output) = silent_self a
closes_silent port a (Withdraw input) = silent_self a
closes_silent port a Reset = silent_self a

restarts_silent : (a : Acted) (o : Option Linked) → IsSilent a (port_restarts_of a o)
restarts_silent a None = silent_self a
restarts_silent a (Some linked) =
    let w : Work = restarts linked.setup (begins a linked) in
    silent_on a (with_work a linked w) (port_restarts_as a linked w) (record { desk = refl; queue = refl; frames = refl; controls = refl })
    (silent_fold (closes_by linked.setup.port) (closes_silent linked.setup.port) w.actions (with_work a linked w))

pub resets_silent : (a : Acted) → IsSilent (resets_gsmp a) (node_resets a)
resets_silent a = silent_fold port_restarts (λ b port. restarts_silent b (linked_at b.controller port)) (ports_of a.controller) (resets_gsmp a)

module _ (setups : List Setup) (Allowed : End → End → Type 0) (controls : ℕ) (frames : List Frame) (queue : List Cell) where
  abbrev Still : Acted → Type 0
  Still a = Holds setups Allowed controls frames queue a

  abbrev Goes : Acted → Acted → Type 0
  Goes a b = On setups Allowed controls frames queue a b

  abbrev same : (a b : Acted) → b.controller.desk ≡ a.controller.desk → b.controller.queue ≡ a.controller.queue → b.notes.frames ≡ a.notes.frames → b.numbers.controls ≡ a.numbers.controls → HasPorts setups b → Goes a b
  same = same_on setups Allowed controls frames queue

  abbrev parts : (a : Acted) → Still a → HasPorts setups a
  parts = ports_of_quiet setups Allowed controls frames queue

  pub silent_still : (a b : Acted) → IsSilent a b → HasPorts setups b → Goes a b
  silent_still a b s ports h = same a b s.desk s.queue s.frames s.controls ports h

  -- *Folds*
  pub quiet_fold : {A : Type 0} (Q : A → Type 0) (f : Acted → A → Acted) → ((a : Acted) (x : A) → Q x → Goes a (f a x)) → (xs : List A) → Every Q xs → (a : Acted) → Goes a (fold f a xs)
  quiet_fold Q f each [] all a h = h
  quiet_fold Q f each (x ∷ xs) all a h = quiet_fold Q f each xs all.1 (f a x) (each a x all.0 h)

  -- *The desk*
  one_later : (m n : ℕ) → m < n → m < n + 1
  one_later m n less = omega (arith, less)

  room_left : (n most : ℕ) → n ≤ most → (n == most) ≡ false → n + 1 ≤ most
  room_left n most le t = grind (arith, nat_tests)

  later : (n : ℕ) (xs : List Standing) → Every (IsFine Allowed n) xs → Every (IsFine Allowed (n + 1)) xs
  later n xs all = every_map (IsFine Allowed n) (IsFine Allowed (n + 1)) xs (λ s fine. record { below = one_later s.number n fine.below; may = fine.may }) all

  -- a request is sent, or sent again
  request_says : (rows : List PortRow) (s : Standing) → AreRead setups rows → s.number < last_transaction → IsShaped setups s.request → May Allowed s.request → Says setups Allowed controls frames queue (gsmp_octets (message_of rows s.number s.request))
  request_says rows s reads less shaped may other e =
      let read : asked_by (gsmp_octets (message_of rows s.number s.request)) ≡ Some (record { number = s.number; request = s.request }) =
      ap (option_and_then copy_of) (reads s.number s.request less shaped) ∙ message_asks rows s.number s.request in
      subst (λ (x : Standing). May Allowed x.request) (some_is (record { number = s.number; request = s.request }) other (sym read ∙ e)) may

  pub sends_request_on : (a : Acted) (s : Standing) → s.number < last_transaction → IsShaped setups s.request → May Allowed s.request → Goes a (sends_request a s)
  sends_request_on a s less shaped may h = control_on setups Allowed controls frames queue a _ (gsmp_octets (message_at a.controller.desk s)) (request_says a.controller.desk.rows s h.reads less shaped may) h

  asking_on : (a : Acted) (request : Request) → is_estab a.controller.adjacency.state ≡ true → (a.controller.desk.next == last_transaction) ≡ false → IsShaped setups request → May Allowed request
      → Goes a (with_desk a (asked a.controller.desk request))
  asking_on a request estab room shaped may h =
      let desk : Desk = a.controller.desk in
      record {
        ports = h.ports;
        shaped = (moves_ports setups (moves_to (asking a request estab room shaped)) (parts a h)).shaped;
        reads = h.reads;
        room = room_left desk.next last_transaction h.room room;
        fine = every_join (IsFine Allowed (desk.next + 1)) (filter (λ (s : Standing). not (withdraws request s.request)) desk.standing) (record { number = desk.next; request = request } ∷ [])
            (later desk.next (filter (λ (s : Standing). not (withdraws request s.request)) desk.standing) (every_filter (IsFine Allowed desk.next) (λ (s : Standing). not (withdraws request s.request)) desk.standing h.fine))
            (record { below = omega arith; may = may }, tt);
        given = h.given;
        copies = h.copies;
        waits = h.waits;
      }

  less_than : (n most : ℕ) → n ≤ most → (n == most) ≡ false → n < most
  less_than n most le t = grind (arith, nat_tests)

  -- *A node reset* leaves nothing standing
  emptied_on : (a : Acted) → Goes a (resets_gsmp a)
  emptied_on a h = record { ports = h.ports; shaped = tt; reads = h.reads; room = h.room; fine = tt; given = h.given; copies = h.copies; waits = h.waits }

  pub node_resets_on : (a : Acted) → Goes a (node_resets a)
  node_resets_on a h = silent_still (resets_gsmp a) (node_resets a) (resets_silent a) (moves_ports setups (node_resets_goes setups a (parts a h)) (parts a h)) (emptied_on a h)

  pub asks_on : (a : Acted) (request : Request) → IsShaped setups request → May Allowed request → Goes a (asks a request)
  asks_on a request shaped may h = on_each Still (is_estab a.controller.adjacency.state) (if a.controller.desk.next == last_transaction then node_resets a else asks_next a request) a
      (λ estab. on_each Still (a.controller.desk.next == last_transaction) (node_resets a) (asks_next a request) (λ spent. node_resets_on a h)
      (λ room. sends_request_on (with_desk a (asked a.controller.desk request)) (record { number = a.controller.desk.next; request = request })
      (less_than a.controller.desk.next last_transaction h.room room) shaped may (asking_on a request estab room shaped may h)))
      (λ t. h)

  pub takes_back_on : (a : Acted) (input output : End) → IsShaped setups (MoveBranch input output (home_of input)) → Goes a (takes_back a input output)
  takes_back_on a input output shaped h = on_both Still (is_led_home a.controller.desk input (home_of input)) a (asks a (MoveBranch input output (home_of input))) h
      (asks_on a (MoveBranch input output (home_of input)) shaped (moves_home setups Allowed controls frames queue input output) h)

  withdraws_on : (a : Acted) (input : End) → Goes a (withdraws_input a input)
  withdraws_on a input h = record {
    ports = h.ports;
    shaped = (moves_ports setups (moves_to (withdrawing a input)) (parts a h)).shaped;
    reads = h.reads;
    room = h.room;
    fine = every_filter (IsFine Allowed a.controller.desk.next) (λ (s : Standing). not (is_on input s.request)) a.controller.desk.standing h.fine;
    given = h.given;
    copies = h.copies;
    waits = h.waits;
  }

  -- *One action* of a port
  default_says : (packet : List ℕ) → Says setups Allowed controls frames queue (default_payload packet)
  default_says packet s e = absurd (cc (sym (ap (option_and_then copy_of) (default_asks packet)) ∙ e))

  does_on : (port : PortNo) (a : Acted) (action : Action) → IsAction setups action → Goes a (does port a action)
  does_on port a (Say message) fits h = control_on setups Allowed controls frames queue a _ _ (default_says _) h
  does_on port a (Ask request needed) fits h = asks_on a request fits.0 (stays_home setups Allowed controls frames queue request fits.0 fits.1) h
  does_on port a (Note item) fits h = same a (does port a (Note item)) refl refl refl refl (record { ports = h.ports; shaped = h.shaped }) h
  does_on port a (CutChain label) fits h = silent_still a (cuts_label port a label) (cuts_silent a label (linked_at a.controller port)) (moves_ports setups (cuts_label_goes setups port a label) (parts a h)) h
  does_on port a (TakeBack input output) fits h = takes_back_on a input output (parts_label input output fits.0 fits.1) h
  does_on port a (Withdraw input) fits h = withdraws_on a input h
  does_on port a Reset fits h = h

  does_in_on : (port : PortNo) (a : Acted) (action : Action) → IsAction setups action → Goes a (does_in_estab port a action)
  does_in_on port a action fits h = on_both Still (is_estab a.controller.adjacency.state) (does port a action) a (does_on port a action fits h) h

  -- *A port is reset*
  resets_of_on : (a : Acted) (port : PortNo) (o : Option Linked) → linked_at a.controller port ≡ o → Goes a (resets_of a o)
  resets_of_on a port None found h = h
  resets_of_on a port (Some linked) found h =
      let w : Work = resets linked.setup (begins a linked) in
      let own : Found setups a linked = found_at_own setups a linked port found in
      quiet_fold (IsAction setups) (does_in_estab linked.setup.port) (λ b action fits. does_in_on linked.setup.port b action fits) w.actions
      (resets_kept setups linked.setup (found_setup setups a linked linked.setup.port (parts a h) own) (begins a linked) (begun setups a linked port (parts a h) found)).actions (with_work a linked w)
      (same a (with_work a linked w) refl refl refl refl (moves_ports setups (moves_to (placing a linked w own by_reset)) (parts a h)) h)

  performs_on : (port : PortNo) (a : Acted) (action : Action) → IsAction setups action → Goes a (performs port a action)
  performs_on port a (Say message) fits h = does_on port a (Say message) fits h
  performs_on port a (Ask request needed) fits h = does_on port a (Ask request needed) fits h
  performs_on port a (Note item) fits h = does_on port a (Note item) fits h
  performs_on port a (CutChain label) fits h = does_on port a (CutChain label) fits h
  performs_on port a (TakeBack input output) fits h = does_on port a (TakeBack input output) fits h
  performs_on port a (Withdraw input) fits h = does_on port a (Withdraw input) fits h
  performs_on port a Reset fits h = resets_of_on a port (linked_at a.controller port) refl h

  performs_in_on : (port : PortNo) (a : Acted) (action : Action) → IsAction setups action → Goes a (performs_in_estab port a action)
  performs_in_on port a action fits h = on_both Still (is_estab a.controller.adjacency.state) (performs port a action) a (performs_on port a action fits h) h

  -- *A rule of a port*
  works_as_on : (a : Acted) (linked : Linked) (w : Work) → Found setups a linked → Worked setups linked.setup a.controller.desk (begins a linked) w → Goes a (works_as a linked w)
  works_as_on a linked w found worked h =
      quiet_fold (IsAction setups) (performs_in_estab linked.setup.port) (λ b action fits. performs_in_on linked.setup.port b action fits) w.actions
      (worked_kept setups linked.setup a.controller.desk (found_setup setups a linked linked.setup.port (parts a h) found) (begins a linked) w worked (begun setups a linked linked.setup.port (parts a h) found)).actions (with_work a linked w)
      (same a (with_work a linked w) refl refl refl refl (moves_ports setups (moves_to (placing a linked w found worked)) (parts a h)) h)

  pub at_port_on : (a : Acted) (port : PortNo) (rule : Rule)
      → (Still a → (linked : Linked) → linked_at a.controller port ≡ Some linked → Worked setups linked.setup a.controller.desk (begins a linked) (rule linked.setup a.controller.desk (begins a linked)))
      → Goes a (at_port a port rule)
  at_port_on a port rule worked h = by_found (linked_at a.controller port) refl
    where
      by_found : (o : Option Linked) → linked_at a.controller port ≡ o → Still (works a rule o)
      by_found None found = h
      by_found (Some linked) found = works_as_on a linked (rule linked.setup a.controller.desk (begins a linked)) (found_at_own setups a linked port found) (worked h linked found) h
