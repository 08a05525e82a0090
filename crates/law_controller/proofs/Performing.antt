-- what a port at work has asked is done, and each rule of a port keeps requests and joins in order

use Rattle.std.proofs.Common.{◌≡◌, ℕ, Bool, true, false, List, [], ◌∷◌, length, Option, None, Some, refl, sym, ◌∙◌, ap, subst, if◌then◌else◌, inl, inr, fold}
use Rattle.std.specs.Prelude.{◌==◌, ◌||◌, nat_le, nat_lt, ◌⊎◌}
use Rattle.std.specs.List.{list_any}
use Rattle.law_controller_facts.specs.world_model.Words.{PortNo, Channel, End, Mark, next_control, with_control, Clearing, is_estab, Request, AddBranch, MoveBranch, DeleteTree, VerifyTree, PortManagement, ifmp_packet_of, default_payload, Loss, PoolFull, noted, frame_cells, made, nothing_taken, at, put, is_delete_all, leads_home, Desk, Standing, all_on, on_input, is_led_home, last_transaction, most_asked, Action, Say, Ask, Note, CutChain, TakeBack, Withdraw, Setup, home_of, Work, desk_with, resets, Controller, Linked, port_key, linked_at, with_desk, chains_with, default_channel, default_home, sends_control, sends_request, asks_next, asks, takes_back, begins, with_work, cuts_of, node_resets, does, does_in_estab, resets_as, resets_of, resets_port, performs, performs_in_estab, Rule, works_as, works, at_port}
use Rattle.law_controller_facts.specs.world_model.gsmp_wire.Layout.{octets_of as gsmp_octets}
use Rattle.law_controller_facts.specs.world_model.gsmp_wire.declared.request.Request.TheVariants.{DeleteAll, AllPorts}
use Rattle.law_controller_facts.specs.world_model.ifmp_wire.Message.{octets_of as ifmp_octets}
use Rattle.law_controller_facts.specs.world_model.frame_model.Sending.{Sender}
use Rattle.law_controller_facts.specs.ordered_lists.Ordered.{Every}
use Rattle.law_controller_facts.proofs.ordered_lists.Every.{every_map, every_map2}
use Rattle.law_controller_facts.specs.world_model.port_model.Desk.{asked, message_at}
use Rattle.law_controller_facts.specs.world_model.port_model.declared.action.Action.TheVariants as actions
use Rattle.law_controller_facts.specs.world_model.port_model.Port.{Port}
use Rattle.law_controller_facts.specs.law_port_facts.Port.{setup_port, IsShaped, IsAction, parts_label}
use Rattle.law_controller_facts.proofs.law_port_facts.Keyed.{on_both, on_each, at_key, at_every, at_put_same}
use Rattle.law_controller_facts.proofs.law_port_facts.Steps.{Goes}
use Rattle.law_controller_facts.proofs.law_port_facts.Joins.{resets_kept}
use Rattle.law_controller_facts.specs.world_model.Controller.{Acted, free_slots}
use Rattle.law_controller_facts.specs.world_model.Sending.{with_cells, sends}
use Rattle.law_controller_facts.specs.Sound.{IsShutLinked}
use Rattle.law_controller_facts.proofs.Moves.{by_rule, by_reset, Found, HasPorts, found_setup, found_at_own, found_port, begun}
use Rattle.law_controller_facts.proofs.Laws.{has_ports}
use Rattle.law_controller.specs.Order.{lends, lends_at, is_lent, IsLinkInput}
use Rattle.law_controller.proofs.Lists.{any_put, any_put_leads, any_at, any_each, each_any}
use Rattle.law_controller.proofs.Asked.{HasPort, MayAct, IsLast, MayActs, IsNoReset, AsksNoBranch, IsAsking, Both, goes_asks}
use Rattle.law_controller.proofs.Resetting.{MayAlways, may_each, resets_may, goes_silent, left_lends}
use Rattle.law_controller.proofs.Ordering.{with_room, to_free, MayAsk, of_reset, of_input, in_place}
use Rattle.law_controller.proofs.Holding.{Holds, sends_holds, sends_control_holds, numbered_holds, asked_holds, withdraws_holds, placed_holds, joined_at, cut_holds, node_holds, node_closed, lent_met, live_met, none_deleting}

differs : (b : Bool) → b ≡ true → b ≡ false → ⊥
differs b t f = absurd (cc (sym t ∙ f))

pub every_given : {A : Type 0} (C : Type 0) (Q : A → Type 0) (xs : List A) → (C → Every Q xs) → Every (λ x. C → Q x) xs
every_given C Q [] h = tt
every_given C Q (x ∷ xs) h = ((λ c. (h c).0), every_given C Q xs (λ c. (h c).1))

module _ (setups : List Setup) where
  -- *Asking*
  pub sends_request_holds : (a : Acted) (s : Standing) → Holds setups a → Holds setups (sends_request a s)
  sends_request_holds a s h = sends_control_holds setups a default_channel (gsmp_octets (message_at a.controller.desk s)) h

  pub asks_holds : (a : Acted) (request : Request) → IsShaped setups request → (is_estab a.controller.adjacency.state ≡ true → MayAsk a.controller.ports a.controller.has_met a.controller.desk request)
      → Holds setups a → Holds setups (asks a request)
  asks_holds a request shaped may h = on_each (Holds setups) (is_estab a.controller.adjacency.state) (if a.controller.desk.next == last_transaction then node_resets a else asks_next a request) a
      (λ estab. on_each (Holds setups) (a.controller.desk.next == last_transaction) (node_resets a) (asks_next a request) (λ spent. node_holds setups a h)
      (λ room. sends_request_holds (with_desk a (asked a.controller.desk request)) (record { number = a.controller.desk.next; request = request }) (asked_holds setups a request estab room shaped (may estab) h)))
      (λ closed. h)

  -- nothing that stands leads an input home: so no Delete All of its port stands
  not_led : (input home : End) (request : Request) → leads_home input home request ≡ false → is_delete_all input.port request ≡ false
  not_led input home (AddBranch i output) e = refl
  not_led input home (MoveBranch i from to) e = refl
  not_led input home (DeleteTree i) e = refl
  not_led input home (VerifyTree i) e = refl
  not_led input home (DeleteAll port) e = e
  not_led input home (PortManagement port function) e = refl
  not_led input home AllPorts e = refl

  -- *A join is taken back*
  may_free : (a : Acted) (input output : End) → is_lent a.controller.ports input ≡ true → is_led_home a.controller.desk input (home_of input) ≡ false → Holds setups a
      → MayAsk a.controller.ports a.controller.has_met a.controller.desk (MoveBranch input output (home_of input))
  may_free a input output lent led h = of_input (MoveBranch input output (home_of input)) input refl (lent_met setups a input lent h)
      (λ label. each_any (λ (s : Standing). is_delete_all input.port s.request) a.controller.desk.standing
      (every_map (λ (s : Standing). leads_home input (home_of input) s.request ≡ false) (λ (s : Standing). is_delete_all input.port s.request ≡ false) a.controller.desk.standing
      (λ s e. not_led input (home_of input) s.request e) (any_each (λ (s : Standing). leads_home input (home_of input) s.request) a.controller.desk.standing led)))
      (to_free lent) lent

  pub takes_back_holds : (a : Acted) (input output : End) → IsShaped setups (MoveBranch input output (home_of input)) → (is_estab a.controller.adjacency.state ≡ true → is_lent a.controller.ports input ≡ true) → Holds setups a → Holds setups (takes_back a input output)
  takes_back_holds a input output shaped lent h = on_each (Holds setups) (is_led_home a.controller.desk input (home_of input)) a (asks a (MoveBranch input output (home_of input)))
      (λ led. h) (λ led. asks_holds a (MoveBranch input output (home_of input)) shaped (λ estab. may_free a input output (lent estab) led h) h)

  -- *A port at work*: it is put back, and what it asked is done; a is the controller before, w what the rule left
  module _ (a : Acted) (linked : Linked) (w : Work) (Emptied : PortNo → Type 0)
      (clears : (port : PortNo) → Emptied port → (port ≡ linked.setup.port) × (a.controller.has_met ≡ true) × (w.port.adjacency.state ≡ Clearing)) where
    abbrev pub Lent : End → Type 0
    Lent input = is_lent a.controller.ports input ≡ true

    -- while its actions are done the port stands as the rule left it, and what was lent still is
    pub record Stands (c : Controller) : Type 0 where
      pub there : Linked
      pub found : linked_at c linked.setup.port ≡ Some there
      pub port : there.port ≡ w.port
      pub met : c.has_met ≡ a.controller.has_met
      pub lent : (input : End) → Lent input → is_lent c.ports input ≡ true

    record Left (b : Acted) (desk : Desk) : Type 0 where
      holds : Holds setups b
      stands : is_estab b.controller.adjacency.state ≡ true → Stands b.controller
      same : is_estab b.controller.adjacency.state ≡ true → b.controller.desk ≡ desk

    -- what is sent changes none of it
    sent_left : (b : Acted) (channel : Channel) (mark : Mark) (payload : List ℕ) → Holds setups b → Stands b.controller → Left (sends b channel mark payload) b.controller.desk
    sent_left b channel mark payload h s = record {
      holds = sends_holds setups b channel mark payload h;
      stands = λ e. on_both (λ (x : Sender Controller). Stands x.queues) (nat_le (length (frame_cells channel mark payload)) (free_slots b.controller))
          (record { queues = with_cells b.controller (frame_cells channel mark payload); notes = made b.notes mark payload })
          (record { queues = b.controller; notes = noted (made b.notes mark payload) (Loss mark PoolFull) })
          (record { there = s.there; found = s.found; port = s.port; met = s.met; lent = s.lent }) s;
      same = λ e. on_both (λ (x : Sender Controller). x.queues.desk ≡ b.controller.desk) (nat_le (length (frame_cells channel mark payload)) (free_slots b.controller))
          (record { queues = with_cells b.controller (frame_cells channel mark payload); notes = made b.notes mark payload })
          (record { queues = b.controller; notes = noted (made b.notes mark payload) (Loss mark PoolFull) }) refl refl;
    }

    sent_control_left : (b : Acted) (channel : Channel) (payload : List ℕ) → Holds setups b → Stands b.controller → Left (sends_control b channel payload) b.controller.desk
    sent_control_left b channel payload h s = sent_left (record b { numbers = with_control b.numbers }) channel (next_control b.numbers) payload (record { sound = h.sound; order = h.order }) s

    -- a chain of a label of the port is cut
    cut_stands : (b : Acted) (label : ℕ) (o : Option Linked) → linked_at b.controller linked.setup.port ≡ o → Stands b.controller → Stands (cuts_of b label o).controller
    cut_stands b label None found s = s
    cut_stands b label (Some x) found s =
        let both : Some s.there ≡ Some x = sym s.found ∙ found in
        let is : s.there ≡ x = cc in
        let key : port_key x ≡ linked.setup.port.0 = at_key port_key linked.setup.port.0 b.controller.ports x found in
        let after : Linked = record x { chains = chains_with x.chains label nothing_taken } in
        let own : at port_key (port_key x) b.controller.ports ≡ Some x = subst (λ n. at port_key n b.controller.ports ≡ Some x) (sym key) found in
        record {
          there = after;
          found = subst (λ n. at port_key n (put port_key after b.controller.ports) ≡ Some after) key (at_put_same port_key after b.controller.ports x own);
          port = sym (ap (λ (y : Linked). y.port) is) ∙ s.port;
          met = s.met;
          lent = λ input l. any_put (lends_at input) port_key after b.controller.ports x own refl ∙ s.lent input l;
        }

    cut_desk : (b : Acted) (label : ℕ) (o : Option Linked) → (cuts_of b label o).controller.desk ≡ b.controller.desk
    cut_desk b label None = refl
    cut_desk b label (Some x) = refl

    -- a request
    asked_left : (b : Acted) (request : Request) → IsShaped setups request → is_estab b.controller.adjacency.state ≡ true → MayAsk b.controller.ports b.controller.has_met b.controller.desk request
        → Holds setups b → Stands b.controller → Left (asks b request) (asked b.controller.desk request)
    asked_left b request shaped estab may h s = on_each (λ (v : Acted). Left v (asked b.controller.desk request)) (is_estab b.controller.adjacency.state)
        (if b.controller.desk.next == last_transaction then node_resets b else asks_next b request) b
        (λ t. on_each (λ (v : Acted). Left v (asked b.controller.desk request)) (b.controller.desk.next == last_transaction) (node_resets b) (asks_next b request)
        (λ spent. record {
          holds = node_holds setups b h;
          stands = λ e. absurd (differs (is_estab (node_resets b).controller.adjacency.state) e (node_closed setups b));
          same = λ e. absurd (differs (is_estab (node_resets b).controller.adjacency.state) e (node_closed setups b));
        })
        (λ room. (let next : Acted = with_desk b (asked b.controller.desk request) in
        sent_control_left next default_channel (gsmp_octets (message_at next.controller.desk (record { number = b.controller.desk.next; request = request })))
        (asked_holds setups b request estab room shaped may h) (record { there = s.there; found = s.found; port = s.port; met = s.met; lent = s.lent }))))
        (λ f. absurd (differs (is_estab b.controller.adjacency.state) estab f))

    in_estab : (request : Request) (needed : Bool) → (is_estab w.port.adjacency.state ≡ false → AsksNoBranch linked.setup Lent Emptied (Ask request needed)) → (AsksNoBranch linked.setup Lent Emptied (Ask request needed) → ⊥)
        → is_estab w.port.adjacency.state ≡ true
    in_estab request needed idle never = by_estab (is_estab w.port.adjacency.state) refl
      where
        by_estab : (b : Bool) → is_estab w.port.adjacency.state ≡ b → is_estab w.port.adjacency.state ≡ true
        by_estab true e = e
        by_estab false e = absurd (never (idle e))

    module _ (b : Acted) (h : Holds setups b) (s : Stands b.controller) where
      there_estab : is_estab w.port.adjacency.state ≡ true → is_estab s.there.port.adjacency.state ≡ true
      there_estab e = ap (λ (p : Port). is_estab p.adjacency.state) s.port ∙ e

      met_now : is_estab w.port.adjacency.state ≡ true → b.controller.has_met ≡ true
      met_now e = live_met setups b s.there linked.setup.port s.found (λ shut. differs (is_estab s.there.port.adjacency.state) (there_estab e) (ap is_estab shut.clearing)) h

      none_on : (input : End) → HasPort linked.setup Lent Emptied input → is_estab w.port.adjacency.state ≡ true → IsLinkInput input → all_on b.controller.desk input.port ≡ false
      none_on input (inl zero) e label = absurd (label zero)
      none_on input (inr same) e label = subst (λ (p : PortNo). all_on b.controller.desk p ≡ false) (sym same) (none_deleting setups b s.there linked.setup.port s.found (there_estab e) h)

      tree_may : (input : End) (t : Bool) → on_input b.controller.desk input ≡ t → (t || nat_lt (length b.controller.desk.standing) most_asked) ≡ true → HasPort linked.setup Lent Emptied input → is_estab w.port.adjacency.state ≡ true
          → MayAsk b.controller.ports b.controller.has_met b.controller.desk (DeleteTree input)
      tree_may input true on e port estab = in_place input (met_now estab) (none_on input port estab) on
      tree_may input false on e port estab = of_input (DeleteTree input) input refl (met_now estab) (none_on input port estab) (with_room e) tt

      ask_may : (request : Request) (needed : Bool) → MayAct linked.setup Lent Emptied b.controller.desk (Ask request needed) → (is_estab w.port.adjacency.state ≡ false → AsksNoBranch linked.setup Lent Emptied (Ask request needed))
          → MayAsk b.controller.ports b.controller.has_met b.controller.desk request
      ask_may (AddBranch input output) needed may idle = (let e : is_estab w.port.adjacency.state ≡ true = in_estab (AddBranch input output) needed idle (λ x. x) in
          of_input (AddBranch input output) input refl (met_now e) (none_on input may.0 e) (with_room may.1) tt)
      ask_may (DeleteTree input) needed may idle = tree_may input (on_input b.controller.desk input) refl may.1 may.0 (in_estab (DeleteTree input) needed idle (λ x. x))
      ask_may (DeleteAll port) needed may idle = (let c = clears port may in
          of_reset port (s.met ∙ c.1) (record { linked = s.there; found = subst (λ (p : PortNo). linked_at b.controller p ≡ Some s.there) (sym c.0) s.found; clearing = ap (λ (p : Port). p.adjacency.state) s.port ∙ c.2 }))
      ask_may (MoveBranch input from to) needed may idle = absurd may
      ask_may (VerifyTree input) needed may idle = absurd may
      ask_may (PortManagement port function) needed may idle = absurd may
      ask_may AllPorts needed may idle = absurd may

      taken_left : (input output : End) → IsShaped setups (MoveBranch input output (home_of input)) → Lent input → is_estab b.controller.adjacency.state ≡ true
          → (t : Bool) → is_led_home b.controller.desk input (home_of input) ≡ t
          → Left (if t then b else asks b (MoveBranch input output (home_of input))) (if t then b.controller.desk else asked b.controller.desk (MoveBranch input output (home_of input)))
      taken_left input output shaped lent estab true led = record { holds = h; stands = λ e. s; same = λ e. refl }
      taken_left input output shaped lent estab false led = asked_left b (MoveBranch input output (home_of input)) shaped estab (may_free b input output (s.lent input lent) led h) h s

      -- *One action*, but a reset
      does_left : (x : Action) → MayAct linked.setup Lent Emptied b.controller.desk x → IsNoReset linked.setup Lent Emptied x → (is_estab w.port.adjacency.state ≡ false → AsksNoBranch linked.setup Lent Emptied x)
          → IsAction setups x → is_estab b.controller.adjacency.state ≡ true → Left (does linked.setup.port b x) (desk_with b.controller.desk x)
      does_left (Say message) may other idle fits estab = sent_control_left b (default_home linked.setup.port).channel (default_payload (ifmp_packet_of b.controller.address (ifmp_octets message))) h s
      does_left (Ask request needed) may other idle fits estab = asked_left b request fits.0 estab (ask_may request needed may idle) h s
      does_left (Note item) may other idle fits estab = record { holds = numbered_holds setups b (noted b.notes item) h; stands = λ e. s; same = λ e. refl }
      does_left (CutChain label) may other idle fits estab = record {
        holds = cut_holds setups b label (linked_at b.controller linked.setup.port) (λ x found. found_at_own setups b x linked.setup.port found) h;
        stands = λ e. cut_stands b label (linked_at b.controller linked.setup.port) refl s;
        same = λ e. cut_desk b label (linked_at b.controller linked.setup.port);
      }
      does_left (TakeBack input output) may other idle fits estab = taken_left input output (parts_label input output fits.0 fits.1) may estab (is_led_home b.controller.desk input (home_of input)) refl
      does_left (Withdraw input) may other idle fits estab = record {
        holds = withdraws_holds setups b input h;
        stands = λ e. record { there = s.there; found = s.found; port = s.port; met = s.met; lent = s.lent };
        same = λ e. refl;
      }
      does_left actions.Reset may other idle fits estab = absurd other

    -- *All of them*
    pub record Fits (x : Action) : Type 0 where
      pub idle : is_estab w.port.adjacency.state ≡ false → AsksNoBranch linked.setup Lent Emptied x
      pub action : IsAction setups x
      pub quiet : a.controller.has_met ≡ false → IsNoReset linked.setup Lent Emptied x

    pub does_each : (xs : List Action) (b : Acted) → Holds setups b → (is_estab b.controller.adjacency.state ≡ true → Stands b.controller) → (is_estab b.controller.adjacency.state ≡ true → MayActs linked.setup Lent Emptied b.controller.desk xs)
        → Every (IsNoReset linked.setup Lent Emptied) xs → Every Fits xs → Holds setups (fold (does_in_estab linked.setup.port) b xs)
    does_each [] b h s may other fits = h
    does_each (x ∷ xs) b h s may other fits = on_each (λ (v : Acted). Holds setups (fold (does_in_estab linked.setup.port) v xs)) (is_estab b.controller.adjacency.state) (does linked.setup.port b x) b
        (λ estab. (let left : Left (does linked.setup.port b x) (desk_with b.controller.desk x) = does_left b h (s estab) x (may estab).0 other.0 fits.0.idle fits.0.action estab in
        does_each xs (does linked.setup.port b x) left.holds left.stands (λ e. subst (λ (d : Desk). MayActs linked.setup Lent Emptied d xs) (sym (left.same e)) (may estab).2) other.1 fits.1))
        (λ closed. does_each xs b h (λ e. absurd (differs (is_estab b.controller.adjacency.state) e closed)) (λ e. absurd (differs (is_estab b.controller.adjacency.state) e closed)) other.1 fits.1)

  -- *A port reset*
  resets_as_holds : (a : Acted) (linked : Linked) → Found setups a linked → a.controller.has_met ≡ true → Holds setups a → Holds setups (resets_as a linked (resets linked.setup (begins a linked)))
  resets_as_holds a linked found met h =
      let w : Work = resets linked.setup (begins a linked) in
      let Emptied : PortNo → Type 0 = λ (port : PortNo). port ≡ linked.setup.port in
      let after : Linked = record linked { port = w.port } in
      let may : Every (MayAlways linked.setup (λ (input : End). is_lent a.controller.ports input ≡ true) Emptied) w.actions = resets_may linked.setup (λ (input : End). is_lent a.controller.ports input ≡ true) Emptied setups linked.port a.numbers.instances
      (found_port setups a linked linked.setup.port (has_ports setups a h.sound) found)
      (λ input some. any_at (lends_at input) port_key (port_key linked) a.controller.ports linked found some) refl in
      let fits : Every (IsAction setups) w.actions = (resets_kept setups linked.setup (found_setup setups a linked linked.setup.port (has_ports setups a h.sound) found) (begins a linked) (begun setups a linked linked.setup.port (has_ports setups a h.sound) found)).actions in
      does_each a linked w Emptied (λ port is. (is, met, refl)) w.actions (with_work a linked w)
      (placed_holds setups a linked w found by_reset (λ input is. left_lends input linked.port.grants ∙ is) tt (λ e. refl) h)
      (λ e. record {
        there = after;
        found = at_put_same port_key after a.controller.ports linked found;
        port = refl;
        met = refl;
        lent = λ input is. any_put_leads (lends_at input) port_key after a.controller.ports linked found (λ l. left_lends input linked.port.grants ∙ l) is;
      })
      (λ e. may_each linked.setup (λ (input : End). is_lent a.controller.ports input ≡ true) Emptied w.actions a.controller.desk may)
      (every_map (MayAlways linked.setup (λ (input : End). is_lent a.controller.ports input ≡ true) Emptied) _ w.actions (λ x m. m.goes_on) may)
      (every_map2 (MayAlways linked.setup (λ (input : End). is_lent a.controller.ports input ≡ true) Emptied) (IsAction setups) _ w.actions (λ x m f. record { idle = λ e. m.no_branch; action = f; quiet = λ e. m.goes_on }) may fits)

  pub resets_port_holds : (a : Acted) (port : PortNo) → a.controller.has_met ≡ true → Holds setups a → Holds setups (resets_port a port)
  resets_port_holds a port met h = by_found (linked_at a.controller port) refl
    where
      by_found : (o : Option Linked) → linked_at a.controller port ≡ o → Holds setups (resets_of a o)
      by_found None found = h
      by_found (Some linked) found = resets_as_holds a linked (found_at_own setups a linked port found) met h

  -- *A rule of a port*
  module _ (a : Acted) (linked : Linked) (w : Work) where
    abbrev Never : PortNo → Type 0
    Never port = ⊥

    abbrev LentNow : End → Type 0
    LentNow input = is_lent a.controller.ports input ≡ true

    never : (port : PortNo) → Never port → (port ≡ linked.setup.port) × (a.controller.has_met ≡ true) × (w.port.adjacency.state ≡ Clearing)
    never port none = absurd none

    is_reset : (x : Action) → (x ≡ actions.Reset) ⊎ IsNoReset linked.setup LentNow Never x
    is_reset (Say message) = inr tt
    is_reset (Ask request needed) = inr tt
    is_reset (Note item) = inr tt
    is_reset (CutChain label) = inr tt
    is_reset (TakeBack input output) = inr tt
    is_reset (Withdraw input) = inr tt
    is_reset actions.Reset = inl refl

    performs_does : (b : Acted) (x : Action) → IsNoReset linked.setup LentNow Never x → does linked.setup.port b x ≡ performs linked.setup.port b x
    performs_does b (Say message) other = refl
    performs_does b (Ask request needed) other = refl
    performs_does b (Note item) other = refl
    performs_does b (CutChain label) other = refl
    performs_does b (TakeBack input output) other = refl
    performs_does b (Withdraw input) other = refl
    performs_does b actions.Reset other = absurd other

    met_before : (x : Action) → x ≡ actions.Reset → (a.controller.has_met ≡ false → IsNoReset linked.setup LentNow Never x) → a.controller.has_met ≡ true
    met_before x is quiet = by_met a.controller.has_met refl
      where
        by_met : (b : Bool) → a.controller.has_met ≡ b → a.controller.has_met ≡ true
        by_met true e = e
        by_met false e = absurd (subst (IsNoReset linked.setup LentNow Never) is (quiet e))

    -- a reset is the last thing
    reset_last : (x : Action) (xs : List Action) (b : Acted) → x ≡ actions.Reset → IsLast linked.setup LentNow Never x xs → b.controller.has_met ≡ true → Holds setups b
        → Holds setups (fold (performs_in_estab linked.setup.port) (performs linked.setup.port b x) xs)
    reset_last x xs b is last met h = subst (λ (y : Action). IsLast linked.setup LentNow Never y xs → Holds setups (fold (performs_in_estab linked.setup.port) (performs linked.setup.port b y) xs)) (sym is)
        (λ l. subst (λ (ys : List Action). Holds setups (fold (performs_in_estab linked.setup.port) (resets_port b linked.setup.port) ys)) (sym l) (resets_port_holds b linked.setup.port met h)) last

    performs_each : (xs : List Action) (b : Acted) → Holds setups b → (is_estab b.controller.adjacency.state ≡ true → Stands a linked w Never never b.controller)
        → (is_estab b.controller.adjacency.state ≡ true → MayActs linked.setup LentNow Never b.controller.desk xs) → Every (Fits a linked w Never never) xs → Holds setups (fold (performs_in_estab linked.setup.port) b xs)
    performs_each [] b h s may fits = h
    performs_each (x ∷ xs) b h s may fits = on_each (λ (v : Acted). Holds setups (fold (performs_in_estab linked.setup.port) v xs)) (is_estab b.controller.adjacency.state) (performs linked.setup.port b x) b
        (λ estab. elim (is_reset x) as (λ z. Holds setups (fold (performs_in_estab linked.setup.port) (performs linked.setup.port b x) xs)) [
          | inl is ↦ reset_last x xs b is (may estab).1 ((s estab).met ∙ met_before x is fits.0.quiet) h
          | inr other ↦ subst (λ (v : Acted). Holds setups (fold (performs_in_estab linked.setup.port) v xs)) (performs_does b x other)
              (let left : Left a linked w Never never (does linked.setup.port b x) (desk_with b.controller.desk x) = does_left a linked w Never never b h (s estab) x (may estab).0 other fits.0.idle fits.0.action estab in
              performs_each xs (does linked.setup.port b x) left.holds left.stands (λ e. subst (λ (d : Desk). MayActs linked.setup LentNow Never d xs) (sym (left.same e)) (may estab).2) fits.1)
        ])
        (λ closed. performs_each xs b h (λ e. absurd (differs (is_estab b.controller.adjacency.state) e closed)) (λ e. absurd (differs (is_estab b.controller.adjacency.state) e closed)) fits.1)

    pub works_as_holds : Found setups a linked → Goes linked.setup a.controller.desk (begins a linked) w → Holds setups a → Holds setups (works_as a linked w)
    works_as_holds found goes h =
        let has : HasPorts setups a = has_ports setups a h.sound in
        let there : at setup_port linked.setup.port.0 setups ≡ Some linked.setup = found_setup setups a linked linked.setup.port has found in
        let lent_by : (input : End) → list_any (lends input) linked.port.grants ≡ true → LentNow input = λ (input : End) (some : list_any (lends input) linked.port.grants ≡ true). any_at (lends_at input) port_key (port_key linked) a.controller.ports linked found some in
        let first : IsAsking setups linked.setup there a.controller.desk LentNow Never linked.port lent_by (begins a linked) = record {
          labels = joined_at setups a linked found h;
          lent = λ input. refl;
          clearing = λ e. e;
          acts = tt;
          last = λ e. tt;
          idle = λ e. tt;
        } in
        let both : Both setups linked.setup there a.controller.desk LentNow Never linked.port lent_by w = goes_asks setups linked.setup there a.controller.desk LentNow Never linked.port lent_by (begins a linked) w goes
        (record { kept = begun setups a linked linked.setup.port has found; asks = first }) in
        let after : Linked = record linked { port = w.port } in
        performs_each w.actions (with_work a linked w)
        (placed_holds setups a linked w found (by_rule w goes) (λ input is. both.asks.lent input ∙ is) both.asks.labels both.asks.clearing h)
        (λ e. record {
          there = after;
          found = at_put_same port_key after a.controller.ports linked found;
          port = refl;
          met = refl;
          lent = λ input is. any_put_leads (lends_at input) port_key after a.controller.ports linked found (λ l. both.asks.lent input ∙ l) is;
        })
        (λ e. both.asks.acts)
        (fits_each w.actions (every_given (is_estab w.port.adjacency.state ≡ false) (AsksNoBranch linked.setup LentNow Never) w.actions both.asks.idle) both.kept.actions
        (every_given (a.controller.has_met ≡ false) (IsNoReset linked.setup LentNow Never) w.actions
        (λ unmet. goes_silent linked.setup LentNow Never a.controller.desk (begins a linked) w goes (at_every port_key IsShutLinked (port_key linked) a.controller.ports linked (h.sound.unmet unmet) found) tt)))
      where
        fits_each : (xs : List Action) → Every (λ (x : Action). is_estab w.port.adjacency.state ≡ false → AsksNoBranch linked.setup LentNow Never x) xs → Every (IsAction setups) xs
            → Every (λ (x : Action). a.controller.has_met ≡ false → IsNoReset linked.setup LentNow Never x) xs → Every (Fits a linked w Never never) xs
        fits_each [] idle fits quiet = tt
        fits_each (x ∷ xs) idle fits quiet = (record { idle = idle.0; action = fits.0; quiet = quiet.0 }, fits_each xs idle.1 fits.1 quiet.1)

  pub at_port_holds : (a : Acted) (port : PortNo) (rule : Rule) → ((linked : Linked) → linked_at a.controller port ≡ Some linked → Goes linked.setup a.controller.desk (begins a linked) (rule linked.setup a.controller.desk (begins a linked)))
      → Holds setups a → Holds setups (at_port a port rule)
  at_port_holds a port rule goes h = by_found (linked_at a.controller port) refl
    where
      by_found : (o : Option Linked) → linked_at a.controller port ≡ o → Holds setups (works a rule o)
      by_found None found = h
      by_found (Some linked) found = works_as_holds a linked (rule linked.setup a.controller.desk (begins a linked)) (found_at_own setups a linked port found) (goes linked found) h
