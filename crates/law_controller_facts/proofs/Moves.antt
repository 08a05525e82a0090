-- the smallest moves of which every rule of a controller is made, and that they keep its ports

use Rattle.std.proofs.Common.{◌≡◌, ℕ, suc, Bool, true, false, List, [], ◌∷◌, length, Some, refl, sym, ◌∙◌, ap, subst, arith, fold}
use Rattle.std.specs.Prelude.{not, ◌==◌, ◌&&◌, nat_le, filter}
use Rattle.std.specs.Option.{option_map}
use Rattle.std.proofs.lemmas.Bool.Decides.{nat_tests}
use Rattle.claims_model.specs.world_model.Words.{PortNo, Channel, End, Mark, Greeting, Party, RouteChange, Cell, next_control, with_control, State, Clearing, SynSent, SynRcvd, Estab, Side, is_estab, ticked, gsmp_received, Record, Loss, PoolFull, Journal, noted, frame_cells, made, Reassembly, Request, at, put, is_on, withdraws, Desk, Standing, empty_desk, last_transaction, Answered, Unknown, Done, Ports, Failed, after_answer, Setup, Label, Offered, Grant, ByController, grant_label, Work, label_at, halts_if_spent, parted, lent, given_back, resets, restarts, Controller, Linked, port_key, linked_at, with_linked, with_desk, sends_control, withdraws_input, begins, with_work, resets_gsmp, node_resets, may_clear, is_clearing, awaits_nothing}
use Rattle.claims_model.specs.world_model.ipv4_forward.declared.table.Route.{Route}
use Rattle.claims_model.specs.world_model.adjacency_table.Side as sides
use Rattle.claims_model.specs.world_model.frame_model.Sending.{Sender}
use Rattle.law_port_facts.specs.ordered_lists.Ordered.{Every}
use Rattle.claims_model.specs.world_model.port_model.Messages.{is_up}
use Rattle.claims_model.specs.world_model.port_model.Desk.{asked}
use Rattle.claims_model.specs.world_model.port_model.Port.{Port}
use Rattle.claims_model.specs.world_model.port_model.Joins.{joined}
use Rattle.claims_model.specs.world_model.port_model.Resets.{cleared}
use Rattle.law_port_facts.specs.Port.{setup_port, IsLabelEnd, IsPort, IsShaped, IsWork}
use Rattle.law_port_facts.proofs.Keyed.{on_both, at_key, at_every, at_map, map_put, put_every, every_more}
use Rattle.law_port_facts.proofs.Steps.{Goes}
use Rattle.law_port_facts.proofs.Kept.{closes_kept, goes_kept}
use Rattle.law_port_facts.proofs.Joins.{parted_kept, joined_kept, lent_kept, given_back_kept, resets_kept, restarts_kept, cleared_kept}
use Rattle.claims_model.specs.world_model.Controller.{Acted, free_slots, note}
use Rattle.claims_model.specs.world_model.Sending.{with_cells, sends}
use Rattle.law_controller_facts.specs.Sound.{linked_setup, IsLinkedPort, ArePorts}

-- what a message or a tick makes of the side of the adjacency with the switch
pub data IsGsmpTurn (side : Side Party) : sides.Step Party → Type 0 where
  hears : (greeting : Greeting) → IsGsmpTurn side (gsmp_received side greeting)
  ages : IsGsmpTurn side (ticked side)

-- what a rule makes of a port at work
pub data Worked (setups : List Setup) (setup : Setup) (desk : Desk) (w : Work) : Work → Type 0 where
  by_rule : (v : Work) → Goes setup desk w v → Worked setups setup desk w v
  by_closing : Worked setups setup desk w (halts_if_spent w)
  by_reset : Worked setups setup desk w (resets setup w)
  by_restart : Worked setups setup desk w (restarts setup w)
  by_parting : (number : ℕ) → Worked setups setup desk w (parted w number)
  by_joining : (number : ℕ) (output : End) → IsLabelEnd setups output → ((label : Label) → label_at w.port number ≡ Some label → label.state ≡ Offered)
      → Worked setups setup desk w (joined w number output)
  by_lending : (grant : Grant) (input : End) → at grant_label grant.label w.port.grants ≡ Some grant → grant.state ≡ ByController → IsLabelEnd setups input
      → Worked setups setup desk w (lent w grant input)
  by_giving_back : (grant : Grant) → at grant_label grant.label w.port.grants ≡ Some grant → Worked setups setup desk w (given_back w grant)

pub worked_kept : (setups : List Setup) (setup : Setup) (desk : Desk) → at setup_port setup.port.0 setups ≡ Some setup → (w v : Work) → Worked setups setup desk w v
    → IsWork setups setup w → IsWork setups setup v
worked_kept setups setup desk linked w v (by_rule u goes) h = goes_kept setups setup linked desk w u goes h
worked_kept setups setup desk linked w v by_closing h = closes_kept setups setup linked w h
worked_kept setups setup desk linked w v by_reset h = resets_kept setups setup linked w h
worked_kept setups setup desk linked w v by_restart h = restarts_kept setups setup linked w h
worked_kept setups setup desk linked w v (by_parting number) h = parted_kept setups setup linked w number h
worked_kept setups setup desk linked w v (by_joining number output end offered) h = joined_kept setups setup linked w number output end offered h
worked_kept setups setup desk linked w v (by_lending grant input found is end) h = lent_kept setups setup linked w grant input found is end h
worked_kept setups setup desk linked w v (by_giving_back grant found) h = given_back_kept setups setup linked w grant found h

module _ (setups : List Setup) where
  abbrev pub Found : Acted → Linked → Type 0
  Found a linked = linked_at a.controller linked.setup.port ≡ Some linked

  pub data Move : Acted → Acted → Type 0 where
    -- *The notes, and what is sent*
    noting : (a : Acted) (item : Record) → Move a (note a item)
    taking_notes : (a : Acted) (notes : Journal) → Move a (record a { notes = notes })
    sending : (a : Acted) (channel : Channel) (mark : Mark) (payload : List ℕ) → Move a (sends a channel mark payload)
    sending_control : (a : Acted) (channel : Channel) (payload : List ℕ) → Move a (sends_control a channel payload)
    -- *The desk*
    asking : (a : Acted) (request : Request) → is_estab a.controller.adjacency.state ≡ true → (a.controller.desk.next == last_transaction) ≡ false
        → IsShaped setups request → Move a (with_desk a (asked a.controller.desk request))
    withdrawing : (a : Acted) (input : End) → Move a (withdraws_input a input)
    answering : (a : Acted) (answer : Answered) → Move a (with_desk a (after_answer a.controller.desk answer))
    meeting : (a : Acted) → Move a (with_desk a empty_desk)
    ending_meeting : (a : Acted) → is_estab a.controller.adjacency.state ≡ true → Move a (record a { controller = record a.controller { has_met = true } })
    -- *The adjacency with the switch*
    turning : (a : Acted) (step : sides.Step Party) → IsGsmpTurn a.controller.adjacency step → Move a (record a { controller = record a.controller { adjacency = step.side } })
    -- *A port*
    placing : (a : Acted) (linked : Linked) (w : Work) → Found a linked → Worked setups linked.setup a.controller.desk (begins a linked) w → Move a (with_work a linked w)
    clearing : (a : Acted) (linked : Linked) → Found a linked → may_clear a.controller linked ≡ true → Move a (with_linked a (record linked { port = cleared linked.port }))
    -- *What the channels make of their cells*
    gathering : (a : Acted) (r : Reassembly) → Move a (record a { controller = record a.controller { reassembly = r } })
    chaining : (a : Acted) (linked after : Linked) → Found a linked → after.setup ≡ linked.setup → after.port ≡ linked.port → Move a (with_linked a after)
    -- *Routes, and the cells that wait for the switch*
    routing : (a : Acted) (table : List Route) (waiting : List RouteChange) (begun : Bool) (changes : ℕ)
        → Move a (record a { controller = record a.controller { table = table; waiting = waiting; is_begun = begun; changes = changes } })
    popping : (a : Acted) (queue : List Cell) → Move a (record a { controller = record a.controller { queue = queue } })

  abbrev pub IsShapedStanding : Standing → Type 0
  IsShapedStanding s = IsShaped setups s.request

  -- any number of moves
  pub data Fine : Acted → Acted → Type 0 where
    rests : (a : Acted) → Fine a a
    goes_to : {a b : Acted} → Move a b → Fine a b
    and_on : {a b c : Acted} → Fine a b → Fine b c → Fine a c

  pub fine_keep : (P : Acted → Type 0) → ((a b : Acted) → Move a b → P a → P b) → {a b : Acted} → Fine a b → P a → P b
  fine_keep P each (rests a) p = p
  fine_keep P each (goes_to {a = x} {b = y} m) p = each x y m p
  fine_keep P each (and_on m n) p = fine_keep P each n (fine_keep P each m p)

  -- and node resets: the adjacency's side and the desk begin anew, and moves do the same to each port
  pub data Moves : Acted → Acted → Type 0 where
    stays : (a : Acted) → Moves a a
    moves_to : {a b : Acted} → Move a b → Moves a b
    further : {a b c : Acted} → Moves a b → Moves b c → Moves a c
    resets_node : (a : Acted) → Fine (resets_gsmp a) (node_resets a) → Moves a (node_resets a)

  pub fine_moves : {a b : Acted} → Fine a b → Moves a b
  fine_moves (rests a) = stays a
  fine_moves (goes_to m) = moves_to m
  fine_moves (and_on m n) = further (fine_moves m) (fine_moves n)

  -- what moves keep, and the beginning of a node reset
  pub moves_keep : (P : Acted → Type 0) → ((a b : Acted) → Move a b → P a → P b) → ((a : Acted) → P a → P (resets_gsmp a)) → {a b : Acted} → Moves a b → P a → P b
  moves_keep P each reset (stays a) p = p
  moves_keep P each reset (moves_to {a = x} {b = y} m) p = each x y m p
  moves_keep P each reset (further m n) p = moves_keep P each reset n (moves_keep P each reset m p)
  moves_keep P each reset (resets_node a fine) p = fine_keep P each fine (reset a p)

  -- what moves keep, and a node reset as a whole
  pub moves_keep_whole : (P : Acted → Type 0) → ((a b : Acted) → Move a b → P a → P b) → ((a : Acted) → P a → P (node_resets a)) → {a b : Acted} → Moves a b → P a → P b
  moves_keep_whole P each node (stays a) p = p
  moves_keep_whole P each node (moves_to {a = x} {b = y} m) p = each x y m p
  moves_keep_whole P each node (further m n) p = moves_keep_whole P each node n (moves_keep_whole P each node m p)
  moves_keep_whole P each node (resets_node a fine) p = node a p

  -- *The ports, and the shapes of what stands*
  pub record HasPorts (a : Acted) : Type 0 where
    pub ports : ArePorts setups a.controller.ports
    pub shaped : Every IsShapedStanding a.controller.desk.standing

  pub found_setup : (a : Acted) (linked : Linked) (port : PortNo) → HasPorts a → linked_at a.controller port ≡ Some linked → at setup_port port.0 setups ≡ Some linked.setup
  found_setup a linked port h found =
      subst (λ (s : List Setup). at setup_port port.0 s ≡ Some linked.setup) h.ports.same
      (at_map port_key setup_port linked_setup (λ x. refl) port.0 a.controller.ports ∙ ap (option_map linked_setup) found)

  -- what is found at a port is found at its own
  pub found_at_own : (a : Acted) (linked : Linked) (port : PortNo) → linked_at a.controller port ≡ Some linked → Found a linked
  found_at_own a linked port found = subst (λ k. at port_key k a.controller.ports ≡ Some linked) (sym (at_key port_key port.0 a.controller.ports linked found)) found

  pub found_port : (a : Acted) (linked : Linked) (port : PortNo) → HasPorts a → linked_at a.controller port ≡ Some linked → IsPort setups linked.setup linked.port
  found_port a linked port h found = at_every port_key (IsLinkedPort setups) port.0 a.controller.ports linked h.ports.each found

  pub begun : (a : Acted) (linked : Linked) (port : PortNo) → HasPorts a → linked_at a.controller port ≡ Some linked → IsWork setups linked.setup (begins a linked)
  begun a linked port h found = record { port = found_port a linked port h found; actions = tt }

  placed : (a : Acted) (linked after : Linked) → Found a linked → after.setup ≡ linked.setup → IsPort setups after.setup after.port → HasPorts a → ArePorts setups (put port_key after a.controller.ports)
  placed a linked after found same fits h = record {
    same = map_put port_key linked_setup after a.controller.ports linked
        (subst (λ (s : Setup). at port_key s.port.0 a.controller.ports ≡ Some linked) (sym same) found) same ∙ h.ports.same;
    apart = h.ports.apart;
    each = put_every port_key (IsLinkedPort setups) after a.controller.ports fits h.ports.each;
  }

  clear_parts : (state grants met : Bool) (nothing : Bool) → ((state && grants) && (met && nothing)) ≡ true → (state ≡ true) × (grants ≡ true)
  clear_parts true true met nothing e = (refl, refl)
  clear_parts true false met nothing e = absurd (cc e)
  clear_parts false grants met nothing e = absurd (cc e)

  -- what is sent changes no port, and no request
  sent_ports : (a : Acted) (channel : Channel) (mark : Mark) (payload : List ℕ) → HasPorts a → HasPorts (sends a channel mark payload)
  sent_ports a channel mark payload h = on_both (λ (s : Sender Controller). HasPorts (record a { controller = s.queues; notes = s.notes })) (nat_le (length (frame_cells channel mark payload)) (free_slots a.controller))
      (record { queues = with_cells a.controller (frame_cells channel mark payload); notes = made a.notes mark payload })
      (record { queues = a.controller; notes = noted (made a.notes mark payload) (Loss mark PoolFull) }) (record { ports = h.ports; shaped = h.shaped }) (record { ports = h.ports; shaped = h.shaped })

  -- fewer requests stand
  fewer : (test : Standing → Bool) (standing : List Standing) → Every IsShapedStanding standing → Every IsShapedStanding (filter test standing)
  fewer test [] h = tt
  fewer test (s ∷ standing) h = on_both (Every IsShapedStanding) (test s) (s ∷ filter test standing) (filter test standing) (h.0, fewer test standing h.1) (fewer test standing h.1)

  answered_shaped : (desk : Desk) (answer : Answered) → Every IsShapedStanding desk.standing → Every IsShapedStanding (after_answer desk answer).standing
  answered_shaped desk Unknown h = h
  answered_shaped desk (Done s) h = fewer (λ (other : Standing). not (other.number == s.number)) desk.standing h
  answered_shaped desk (Ports s rows) h = fewer (λ (other : Standing). not (other.number == s.number)) desk.standing h
  answered_shaped desk (Failed s code) h = fewer (λ (other : Standing). not (other.number == s.number)) desk.standing h

  same_port : (linked after : Linked) → after.setup ≡ linked.setup → after.port ≡ linked.port → IsPort setups linked.setup linked.port → IsPort setups after.setup after.port
  same_port linked after setup port h = subst (λ (s : Setup). IsPort setups s after.port) (sym setup) (subst (λ (p : Port). IsPort setups linked.setup p) (sym port) h)

  not_empty : (n : ℕ) → (suc n == 0) ≡ true → ⊥
  not_empty n e = grind (arith, nat_tests)

  none_left : (grants : List Grant) → (length grants == 0) ≡ true → grants ≡ []
  none_left [] e = refl
  none_left (grant ∷ grants) e = absurd (not_empty (length grants) e)

  clearing_is : (state : State) → is_clearing state ≡ true → state ≡ Clearing
  clearing_is Clearing e = refl
  clearing_is SynSent e = absurd (cc e)
  clearing_is SynRcvd e = absurd (cc e)
  clearing_is Estab e = absurd (cc e)

  cleared_port : (a : Acted) (linked : Linked) → HasPorts a → Found a linked → may_clear a.controller linked ≡ true → IsPort setups linked.setup (cleared linked.port)
  cleared_port a linked hs found may =
      let both = clear_parts (is_clearing linked.port.adjacency.state) (length linked.port.grants == 0) (a.controller.has_met && is_up a.controller.desk.rows linked.setup.port)
      (awaits_nothing a.controller linked.setup.port) may in
      cleared_kept setups linked.setup (found_setup a linked linked.setup.port hs found) linked.port (clearing_is linked.port.adjacency.state both.0) (none_left linked.port.grants both.1) (found_port a linked linked.setup.port hs found)

  with_ports : (a b : Acted) → b.controller.desk.standing ≡ a.controller.desk.standing → ArePorts setups b.controller.ports → HasPorts a → HasPorts b
  with_ports a b same ports h = record { ports = ports; shaped = subst (Every IsShapedStanding) (sym same) h.shaped }

  pub move_ports : (a b : Acted) → Move a b → HasPorts a → HasPorts b
  move_ports a b (noting x item) h = record { ports = h.ports; shaped = h.shaped }
  move_ports a b (taking_notes x notes) h = record { ports = h.ports; shaped = h.shaped }
  move_ports a b (sending x channel mark payload) h = sent_ports x channel mark payload h
  move_ports a b (sending_control x channel payload) h = sent_ports (record x { numbers = with_control x.numbers }) channel (next_control x.numbers) payload (record { ports = h.ports; shaped = h.shaped })
  move_ports a b (asking x request estab room shaped) h = record {
    ports = h.ports;
    shaped = every_more IsShapedStanding _ (record { number = x.controller.desk.next; request = request }) (fewer (λ (s : Standing). not (withdraws request s.request)) x.controller.desk.standing h.shaped) shaped;
  }
  move_ports a b (withdrawing x input) h = record { ports = h.ports; shaped = fewer (λ (s : Standing). not (is_on input s.request)) x.controller.desk.standing h.shaped }
  move_ports a b (answering x answer) h = record { ports = h.ports; shaped = answered_shaped x.controller.desk answer h.shaped }
  move_ports a b (meeting x) h = record { ports = h.ports; shaped = tt }
  move_ports a b (ending_meeting x estab) h = record { ports = h.ports; shaped = h.shaped }
  move_ports a b (turning x step turn) h = record { ports = h.ports; shaped = h.shaped }
  move_ports a b (placing x linked w found worked) h = with_ports x (with_work x linked w) refl (
      placed x linked (record linked { port = w.port }) found refl
      (worked_kept setups linked.setup x.controller.desk (found_setup x linked linked.setup.port h found) (begins x linked) w worked (begun x linked linked.setup.port h found)).port h) h
  move_ports a b (clearing x linked found may) h = with_ports x (with_linked x (record linked { port = cleared linked.port })) refl (
      placed x linked (record linked { port = cleared linked.port }) found refl (cleared_port x linked h found may) h) h
  move_ports a b (gathering x r) h = record { ports = h.ports; shaped = h.shaped }
  move_ports a b (chaining x linked after found same port) h = with_ports x (with_linked x after) refl (
      placed x linked after found same (same_port linked after same port (found_port x linked linked.setup.port h found)) h) h
  move_ports a b (routing x table waiting is_begun changes) h = record { ports = h.ports; shaped = h.shaped }
  move_ports a b (popping x queue) h = record { ports = h.ports; shaped = h.shaped }

  pub reset_ports : (a : Acted) → HasPorts a → HasPorts (resets_gsmp a)
  reset_ports a h = record { ports = h.ports; shaped = tt }

  pub fine_ports : {a b : Acted} → Fine a b → HasPorts a → HasPorts b
  fine_ports fine h = fine_keep HasPorts move_ports fine h

  pub moves_ports : {a b : Acted} → Moves a b → HasPorts a → HasPorts b
  moves_ports moves h = moves_keep HasPorts move_ports reset_ports moves h

  -- *Folds*
  pub moves_fold : {A : Type 0} (Q : A → Type 0) (f : Acted → A → Acted) → ((a : Acted) (x : A) → HasPorts a → Q x → Moves a (f a x)) → (xs : List A) → Every Q xs
      → (a : Acted) → HasPorts a → Moves a (fold f a xs)
  moves_fold Q f each [] all a h = stays a
  moves_fold Q f each (x ∷ xs) all a h = (let m : Moves a (f a x) = each a x h all.0 in further m (moves_fold Q f each xs all.1 (f a x) (moves_ports m h)))

  pub fine_fold : {A : Type 0} (Q : A → Type 0) (f : Acted → A → Acted) → ((a : Acted) (x : A) → HasPorts a → Q x → Fine a (f a x)) → (xs : List A) → Every Q xs
      → (a : Acted) → HasPorts a → Fine a (fold f a xs)
  fine_fold Q f each [] all a h = rests a
  fine_fold Q f each (x ∷ xs) all a h = (let m : Fine a (f a x) = each a x h all.0 in and_on m (fine_fold Q f each xs all.1 (f a x) (fine_ports m h)))

  -- moves that go on from where moves led
  pub goes_on : {a b c : Acted} → HasPorts a → Moves a b → (HasPorts b → Moves b c) → Moves a c
  goes_on h m n = further m (n (moves_ports m h))
