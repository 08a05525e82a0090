-- a Delete All is answered while the switch isn't met: nothing is released, and the last one ends the meeting

use Rattle.std.proofs.Common.{◌≡◌, ◌≤◌, Bool, true, false, not, ◌||◌, List, [], ◌∷◌, ◌++◌, fold, flat_map, map, filter, find, Option, None, Some, refl, sym, ◌∙◌, ap, subst, arith, inr, if◌then◌else◌}
use Rattle.std.specs.Prelude.{◌==◌, filter_map}
use Rattle.std.specs.List.{list_any}
use Rattle.law_input_premises.specs.world_model.Words.{End, NodeId, PortNo, with_control, next_control, Side, is_estab, IsLinkPort, Request, AddBranch, MoveBranch, DeleteTree, VerifyTree, PortManagement, Desk, Standing, last_transaction, withdraws, is_delete_all, leads_home, Done, without_request, after_answer, in_order, Setup, home_of, Grant, Session, Work, halts, is_spent, halts_if_spent, Linked, port_key, linked_at, with_desk, default_channel, default_end, default_home, asks, asks_next, begins, node_resets, works, works_as, end_le, join_to, joins_at, released_inputs, releases_input, resets_spent, releases, is_deleting, has_emptied, up_ports, default_branches, ends_meeting, causes_in_estab, causes, clears, takes_changes, Switch}
use Rattle.law_input_premises.specs.world_model.gsmp_wire.Layout.{octets_of as gsmp_octets}
use Rattle.law_input_premises.specs.world_model.gsmp_wire.declared.request.Request.TheVariants.{DeleteAll, AllPorts}
use Rattle.law_input_premises.specs.ordered_lists.Ordered.{Every}
use Rattle.law_input_premises.proofs.ordered_lists.Every.{every_join, every_map}
use Rattle.law_input_premises.proofs.ordered_lists.Parts.{every_part, part_filtered}
use Rattle.law_input_premises.specs.world_model.port_model.Desk.{asked, message_at}
use Rattle.law_input_premises.specs.world_model.port_model.Messages.{is_up}
use Rattle.law_input_premises.specs.world_model.port_model.Requests.{request_input}
use Rattle.law_input_premises.specs.law_port_facts.Port.{IsLinked, IsShaped, IsDefaultEnd, opens_input, opens_output}
use Rattle.law_input_premises.proofs.law_port_facts.Keyed.{at_every, on_both, on_each}
use Rattle.law_input_premises.specs.world_model.Controller.{Acted, ports_of}
use Rattle.law_input_premises.specs.world_model.Joins.{Join}
use Rattle.law_input_premises.specs.world_model.Meeting.{takes_success}
use Rattle.law_input_premises.specs.law_controller_facts.Sound.{IsShutLinked}
use Rattle.law_input_premises.proofs.law_controller_facts.Laws.{has_ports, moves_sound}
use Rattle.law_input_premises.proofs.law_controller_facts.Performing.{ports_linked}
use Rattle.law_input_premises.proofs.law_controller_facts.Joining.{every_filter}
use Rattle.law_input_premises.proofs.law_controller_facts.Moves.{ending_meeting, moves_to}
use Rattle.law_input_premises.specs.law_controller.Match.{MovesJoined, IsOfJoin}
use Rattle.law_input_premises.specs.law_controller.Order.{IsDeleting, IsLentMove, is_default}
use Rattle.law_input_premises.proofs.law_controller.Entering.{both_not}
use Rattle.law_input_premises.proofs.law_controller.Holding.{Holds, answered_holds, node_closed}
use Rattle.law_input_premises.proofs.law_controller.Lists.{each_any}
use Rattle.law_input_premises.proofs.law_controller.Meeting.{left_deleting, freed_by}
use Rattle.law_input_premises.proofs.law_controller.Ordering.{of_input, for_default, empty_order, of_input_deletes}
use Rattle.law_input_premises.proofs.law_controller.Releasing.{IsFree, releases_holds, spent_holds}
use Rattle.law_input_premises.proofs.law_controller.Settling.{answered_fits, releases_fits}
use Rattle.law_input_premises.proofs.law_controller.Saying.{sent_desk}
use Rattle.law_input_premises.proofs.law_controller.Steady.{Steady, asks_steady}
use Rattle.law_input_premises.proofs.law_controller.Whole.{Whole, holds_of, whole_of, asks_whole}
use Rattle.law_input_premises.specs.law_input_steps.Asking.{CanEach, MayAsk}
use Rattle.law_input_premises.specs.law_input_steps.Meeting.{is_none_left, met_after, answered_part}
use Rattle.law_input_premises.specs.law_input_steps.Part.{Part, part_at, Leads}
use Rattle.law_input_premises.proofs.law_input_steps.Done.{changes_leads, ends_leads, clears_still}
use Rattle.law_input_premises.proofs.law_input_steps.Reach.{leads_then}
use Rattle.law_input_premises.proofs.law_input_steps.Resets.{IsStill, still_self, still_then, still_leads}
use Rattle.law_input_premises.specs.Read.{AreRead}
use Rattle.law_input_premises.proofs.Asking.{asks_can}
use Rattle.law_input_premises.proofs.Changing.{can_take_each}
use Rattle.law_input_premises.proofs.Finishing.{clears_hold}
use Rattle.law_input_premises.proofs.Releasing.{read_on}
use Rattle.law_input_premises.proofs.Rows.{fold_rows, asks_rows, clears_rows, releases_rows}

-- *Shut ports* have no join, and no numbers to spend
shut_joins : (ports : List Linked) → Every IsShutLinked ports → flat_map joins_at ports ≡ []
shut_joins [] all = refl
shut_joins (x ∷ ports) all = ap (λ (gs : List Grant). filter_map (join_to x.setup.port) gs ++ flat_map joins_at ports) all.0.grants ∙ shut_joins ports all.1

deleting_is : (request : Request) → IsDeleting request → is_deleting request ≡ true
deleting_is (DeleteAll port) d = refl
deleting_is (AddBranch input output) d = absurd d
deleting_is (MoveBranch input from to) d = absurd d
deleting_is (DeleteTree input) d = absurd d
deleting_is (VerifyTree input) d = absurd d
deleting_is (PortManagement port function) d = absurd d
deleting_is AllPorts d = absurd d

module _ (setups : List Setup) where
  spent_still : (a : Acted) (port : PortNo) → a.controller.has_met ≡ false → Holds setups a → (o : Option Linked) → linked_at a.controller port ≡ o → IsStill a (works a (λ setup desk w. halts_if_spent w) o)
  spent_still a port unmet h None found = still_self a
  spent_still a port unmet h (Some linked) found =
      let shut = at_every port_key IsShutLinked port.0 a.controller.ports linked (h.sound.unmet unmet) found in
      let w : Work = begins a linked in
      subst (λ (o : Option Session). IsStill a (works_as a linked (if is_spent o then halts w else w))) (sym shut.session)
      (record { adjacency = refl; desk = refl; met = refl; gathered = refl; queue = refl; frames = refl; controls = refl; instances = omega arith })

  each_still : (ports : List PortNo) (a b : Acted) → IsStill a b → b.controller.has_met ≡ false → Holds setups b → IsStill a (fold resets_spent b ports)
  each_still [] a b s unmet h = s
  each_still (port ∷ ports) a b s unmet h =
      let k : IsStill b (resets_spent b port) = spent_still b port unmet h (linked_at b.controller port) refl in
      each_still ports a (resets_spent b port) (still_then a b (resets_spent b port) s k) (k.met ∙ unmet) (spent_holds setups b port h)

  releases_still : (a : Acted) (request : Request) → a.controller.has_met ≡ false → Holds setups a → IsStill a (releases a request)
  releases_still a request unmet h =
      let none : released_inputs a.controller request ≡ [] = ap (λ (js : List Join). released_of js) (shut_joins a.controller.ports (h.sound.unmet unmet)) in
      subst (λ (inputs : List End). IsStill a (fold resets_spent (fold releases_input a inputs) (ports_of (fold releases_input a inputs).controller))) (sym none)
      (each_still (ports_of a.controller) a a (still_self a) unmet h)
    where
      released_of : List Join → List End
      released_of js = filter (λ (input : End). leads_home input (home_of input) request) (map (λ (join : Join). join.input) (in_order (λ (x : Join) (y : Join). end_le x.input y.input) js))

-- *Default channels* are asked, one after the other
record ForDefault (setups : List Setup) (request : Request) : Type 0 where
  input : End
  on : request_input request ≡ Some input
  default : is_default input ≡ true
  shaped : IsShaped setups request
  joined : (ports : List Linked) → MovesJoined ports request
  other : (ports : List Linked) → IsLentMove ports request

abbrev DeletesNone : Standing → Type 0
DeletesNone s = (port : PortNo) → is_delete_all port s.request ≡ false

module _ (setups : List Setup) (links : Every (λ (setup : Setup). IsLinkPort setup.port) setups) (node : NodeId) (input : End) (above : 1 ≤ input.port.0) where
  asked_desk : (b : Acted) (request : Request) → is_estab (asks b request).controller.adjacency.state ≡ true → (asks b request).controller.desk ≡ asked b.controller.desk request
  asked_desk b request = on_each (λ (v : Acted). is_estab v.controller.adjacency.state ≡ true → v.controller.desk ≡ asked b.controller.desk request) (is_estab b.controller.adjacency.state)
      (if b.controller.desk.next == last_transaction then node_resets b else asks_next b request) b
      (λ estab. on_both (λ (v : Acted). is_estab v.controller.adjacency.state ≡ true → v.controller.desk ≡ asked b.controller.desk request) (b.controller.desk.next == last_transaction) (node_resets b) (asks_next b request)
      (λ e. absurd (both_not (is_estab (node_resets b).controller.adjacency.state) e (node_closed setups b)))
      (λ e. sent_desk setups (record (with_desk b (asked b.controller.desk request)) { numbers = with_control b.numbers }) default_channel (next_control b.numbers)
      (gsmp_octets (message_at (asked b.controller.desk request) (record { number = b.controller.desk.next; request = request })))))
      (λ closed e. absurd (both_not (is_estab b.controller.adjacency.state) e closed))

  alone_on : (standing : List Standing) (port : PortNo) → Every DeletesNone standing → list_any (λ (s : Standing). is_delete_all port s.request) standing ≡ false
  alone_on standing port all = each_any (λ (s : Standing). is_delete_all port s.request) standing (every_map DeletesNone (λ (s : Standing). is_delete_all port s.request ≡ false) standing (λ s none. none port) all)

  record Asked (b : Acted) (requests : List Request) : Type 0 where
    can : CanEach asks (MayAsk input) b requests
    whole : Whole setups (fold asks b requests)

  defaults_each : (requests : List Request) (b : Acted) → Every (ForDefault setups) requests → AreRead setups b.controller.desk.rows
      → (is_estab b.controller.adjacency.state ≡ true → (b.controller.has_met ≡ true) × Every DeletesNone b.controller.desk.standing) → Whole setups b → Asked b requests
  defaults_each [] b all reads now h = record { can = tt; whole = h }
  defaults_each (request ∷ requests) b all reads now h =
      let next : Acted = asks b request in
      let k : Steady setups b next = asks_steady setups b request in
      let d : ForDefault setups request = all.0 in
      let after : Whole setups next = asks_whole setups b request d.shaped (d.joined b.controller.ports)
      (λ e. of_input request d.input d.on (now e).0 (λ link. alone_on b.controller.desk.standing d.input.port (now e).1) (for_default d.default) (d.other b.controller.ports)) h in
      let rest : Asked next requests = defaults_each requests next all.1 (read_on setups b next (asks_rows b request) reads)
      (λ e. (
        k.met e ∙ (now (k.before e)).0,
        subst (λ (desk : Desk). Every DeletesNone desk.standing) (sym (asked_desk b request e))
            (every_join DeletesNone (filter (λ (s : Standing). not (withdraws request s.request)) b.controller.desk.standing) (record { number = b.controller.desk.next; request = request } ∷ [])
            (every_part DeletesNone (part_filtered (λ (s : Standing). not (withdraws request s.request)) b.controller.desk.standing) (now (k.before e)).1) ((λ port. of_input_deletes request d.input port d.on), tt)),
      )) after in
      record {
        can = (asks_can setups input above b request d.input d.on d.shaped reads (λ e. (now e).0) (holds_of setups b h) (holds_of setups next after), rest.can);
        whole = rest.whole;
      }

  default_of : (port : PortNo) → IsLinked setups port → IsDefaultEnd setups (default_end port)
  default_of port linked = record { port = inr linked; vpi = refl; vci = refl }

  branches : (ports : List PortNo) → Every (IsLinked setups) ports → Every (ForDefault setups) (flat_map default_branches ports)
  branches [] all = tt
  branches (port ∷ ports) all = (
    record { input = default_end port; on = refl; default = refl; shaped = opens_input (default_end port) (default_of port all.0); joined = λ ports. tt; other = λ ports. tt },
    (record { input = default_home port; on = refl; default = refl; shaped = opens_output (default_end port) (default_of port all.0); joined = λ ports. tt; other = λ ports. tt }, branches ports all.1),
  )

  abbrev met_now : Acted → Acted
  met_now a = record a { controller = record a.controller { has_met = true } }

  ends_asked : (a : Acted) → is_estab a.controller.adjacency.state ≡ true → a.controller.desk.standing ≡ [] → AreRead setups a.controller.desk.rows → Whole setups a → Asked (met_now a) (flat_map default_branches (up_ports a.controller))
  ends_asked a estab none reads h = defaults_each (flat_map default_branches (up_ports a.controller)) (met_now a)
      (branches (up_ports a.controller) (every_filter (IsLinked setups) (is_up a.controller.desk.rows) (ports_of a.controller) (ports_linked setups a (has_ports setups a h.sound)))) reads
      (λ e. (refl, subst (Every DeletesNone) (sym none) tt)) (record {
        sound = moves_sound setups a (met_now a) (moves_to (ending_meeting a estab)) h.sound;
        order = empty_order a.controller.ports true a.controller.desk none h.order.joined;
        fits = record {
          granted = h.fits.granted;
          joined = h.fits.joined;
          deleting = h.fits.deleting;
          once = h.fits.once;
          moving = λ t. subst (Every (IsOfJoin a.controller.ports)) (sym none) tt;
        };
      })

  -- *The answer*
  module _ (switch : Switch) (a : Acted) (whole : Whole setups a) (reads : AreRead setups a.controller.desk.rows) (unmet : a.controller.has_met ≡ false) (s : Standing) (test : Standing → Bool)
      (found : find test a.controller.desk.standing ≡ Some s) (deletes : IsDeleting s.request) where
    abbrev left : List Standing
    left = (without_request a.controller.desk s).standing

    abbrev b : Acted
    b = with_desk a (after_answer a.controller.desk (Done s))

    abbrev c : Acted
    c = releases b s.request

    pub estab : is_estab a.controller.adjacency.state ≡ true
    estab = by (is_estab a.controller.adjacency.state) refl
      where
        by : (t : Bool) → is_estab a.controller.adjacency.state ≡ t → is_estab a.controller.adjacency.state ≡ true
        by true e = e
        by false e = absurd (cc (sym (ap (find test) (whole.sound.desk.waits e)) ∙ found))

    b_holds : Holds setups b
    b_holds = answered_holds setups a (Done s) (holds_of setups a whole)

    free : IsFree setups b s.request
    free = freed_by setups links a s test found (holds_of setups a whole)

    c_whole : Whole setups c
    c_whole = whole_of setups c (releases_holds setups b s.request free b_holds) (releases_fits setups b s.request free b_holds (answered_fits setups a s test found whole.sound whole.fits)).fits

    c_still : IsStill b c
    c_still = releases_still setups b s.request unmet b_holds

    c_reads : AreRead setups c.controller.desk.rows
    c_reads = read_on setups b c (releases_rows b s.request) reads

    c_unmet : c.controller.has_met ≡ false
    c_unmet = c_still.met ∙ unmet

    c_estab : is_estab c.controller.adjacency.state ≡ true
    c_estab = ap (λ (x : Side _). is_estab x.state) c_still.adjacency ∙ estab

    behind : (r : Request) → IsDeleting r → causes_in_estab c r ≡ (if has_emptied c.controller then ends_meeting c else c)
    behind (DeleteAll port) d = ap (λ (t : Bool). if t then asks c (AddBranch (default_end port) (default_home port)) else (if has_emptied c.controller then ends_meeting c else c)) c_unmet
    behind (AddBranch i o) d = absurd d
    behind (MoveBranch i from to) d = absurd d
    behind (DeleteTree i) d = absurd d
    behind (VerifyTree i) d = absurd d
    behind (PortManagement port function) d = absurd d
    behind AllPorts d = absurd d

    caused_is : causes c s.request ≡ (if has_emptied c.controller then ends_meeting c else c)
    caused_is = ap (λ (t : Bool). if t then causes_in_estab c s.request else c) c_estab ∙ behind s.request deletes

    emptied_is : (xs : List Standing) → left ≡ xs → has_emptied c.controller ≡ not (list_any (λ (x : Standing). is_deleting x.request) xs)
    emptied_is xs is = ap (λ (d : Desk). not (list_any (λ (x : Standing). is_deleting x.request) d.standing)) c_still.desk ∙ ap (λ (l : List Standing). not (list_any (λ (x : Standing). is_deleting x.request) l)) is

    abbrev Goes : Part → Part → Type 0
    Goes p q = Leads node input p q

    -- some stand still
    some_left : causes c s.request ≡ c → Goes (part_at input switch b) (part_at input switch (takes_success b s.request))
    some_left same = subst (λ (d : Acted). Goes (part_at input switch b) (part_at input switch (takes_changes (clears d)))) (sym same)
        (leads_then node input (part_at input switch b) (part_at input switch c) (part_at input switch (takes_changes (clears c))) (still_leads node input switch b c c_still)
        (leads_then node input (part_at input switch c) (part_at input switch (clears c)) (part_at input switch (takes_changes (clears c))) (still_leads node input switch c (clears c) (clears_still c))
        (changes_leads node input switch (clears c) (λ met. absurd (cc (sym met ∙ ((clears_still c).met ∙ c_unmet)))))))

    -- none does
    none_left : left ≡ [] → causes c s.request ≡ ends_meeting c → Goes (part_at input switch (met_now b)) (part_at input switch (takes_success b s.request))
    none_left none same =
        let standing : c.controller.desk.standing ≡ [] = ap (λ (d : Desk). d.standing) c_still.desk ∙ none in
        let k : Asked (met_now c) (flat_map default_branches (up_ports c.controller)) = ends_asked c c_estab standing c_reads c_whole in
        let e : Acted = ends_meeting c in
        let d : Acted = clears e in
        let still : IsStill (met_now b) (met_now c) = record { adjacency = c_still.adjacency; desk = c_still.desk; met = refl; gathered = c_still.gathered; queue = c_still.queue; frames = c_still.frames; controls = c_still.controls; instances = c_still.instances } in
        subst (λ (z : Acted). Goes (part_at input switch (met_now b)) (part_at input switch (takes_changes (clears z)))) (sym same)
        (leads_then node input (part_at input switch (met_now b)) (part_at input switch (met_now c)) (part_at input switch (takes_changes d)) (still_leads node input switch (met_now b) (met_now c) still)
        (leads_then node input (part_at input switch (met_now c)) (part_at input switch e) (part_at input switch (takes_changes d)) (ends_leads node input switch c k.can)
        (leads_then node input (part_at input switch e) (part_at input switch d) (part_at input switch (takes_changes d)) (still_leads node input switch e d (clears_still e))
        (changes_leads node input switch d (λ met. can_take_each setups input above d.controller.waiting d (clears_hold setups e (holds_of setups e k.whole))
        (read_on setups e d (clears_rows e) (read_on setups (met_now c) e (fold_rows asks asks_rows (flat_map default_branches (up_ports c.controller)) (met_now c)) c_reads)))))))

    pub unmet_leads : Goes (answered_part (part_at input switch a) s) (part_at input switch (takes_success b s.request))
    unmet_leads = by left refl (left_deleting s test a.controller.desk.standing (whole.order.meeting unmet) found)
      where
        met_is : (xs : List Standing) → left ≡ xs → met_after a.controller.has_met left ≡ is_none_left xs
        met_is xs is = ap (λ (t : Bool). met_after t left) unmet ∙ ap is_none_left is

        by : (xs : List Standing) → left ≡ xs → Every (λ (x : Standing). IsDeleting x.request) xs → Goes (answered_part (part_at input switch a) s) (part_at input switch (takes_success b s.request))
        by [] is all = subst (λ (t : Bool). Goes (record (part_at input switch b) { met = t }) (part_at input switch (takes_success b s.request))) (sym (met_is [] is))
            (none_left is (caused_is ∙ ap (λ (t : Bool). if t then ends_meeting c else c) (emptied_is [] is)))
        by (x ∷ xs) is all = subst (λ (t : Bool). Goes (record (part_at input switch b) { met = t }) (part_at input switch (takes_success b s.request))) (unmet ∙ sym (met_is (x ∷ xs) is))
            (some_left (caused_is ∙ ap (λ (t : Bool). if t then ends_meeting c else c) (emptied_is (x ∷ xs) is
            ∙ ap (λ (t : Bool). not (t || list_any (λ (y : Standing). is_deleting y.request) xs)) (deleting_is x.request all.0))))
