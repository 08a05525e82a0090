-- each rule of a port, a reset and what is asked keep joins and lent grants matched

use Rattle.std.proofs.Common.{◌≡◌, ◌≢◌, ℕ, Bool, true, false, List, [], ◌∷◌, ◌++◌, length, Option, None, Some, refl, sym, ◌∙◌, ap, subst, inl, inr, if◌then◌else◌, fold, append_assoc}
use Rattle.std.specs.Prelude.{◌⊎◌, ◌==◌, not, nat_le, nat_eq, flat_map}
use Rattle.std.specs.Option.{option_and_then}
use Rattle.law_controller_facts.specs.world_model.Words.{PortNo, Channel, End, Mark, next_control, with_control, is_estab, Request, MoveBranch, ifmp_packet_of, default_payload, Loss, PoolFull, noted, frame_cells, made, nothing_taken, at, is_on, Desk, Standing, all_on, is_led_home, last_transaction, Action, Say, Ask, Note, CutChain, TakeBack, Withdraw, Setup, home_of, Grant, GrantState, Idle, ByController, ByInput, Leaving, grant_label, Work, closing, withdrawing, taking_back, left_in, left_of, resets, Controller, Linked, linked_at, with_desk, chains_with, default_channel, default_home, sends_control, asks_next, asks, takes_back, withdraws_input, begins, with_work, cuts_of, node_resets, does, does_in_estab, resets_as, resets_of, resets_port, performs, performs_in_estab, Rule, works_as, works, at_port}
use Rattle.law_controller_facts.specs.world_model.gsmp_wire.Layout.{octets_of as gsmp_octets}
use Rattle.law_controller_facts.specs.world_model.gsmp_wire.declared.request.Request.TheVariants.{DeleteAll}
use Rattle.law_controller_facts.specs.world_model.ifmp_wire.Message.{octets_of as ifmp_octets}
use Rattle.law_controller_facts.specs.world_model.frame_model.Sending.{Sender}
use Rattle.law_controller_facts.specs.ordered_lists.Ordered.{Every, InOrder}
use Rattle.law_controller_facts.proofs.ordered_lists.Every.{every_left, every_right}
use Rattle.law_controller_facts.specs.world_model.port_model.Desk.{asked, message_at}
use Rattle.law_controller_facts.specs.world_model.port_model.declared.action.Action.TheVariants as actions
use Rattle.law_controller_facts.specs.world_model.port_model.Grants.{lent_input}
use Rattle.law_controller_facts.specs.law_port_facts.Port.{IsAction, AnyChannel}
use Rattle.law_controller_facts.proofs.law_port_facts.Keyed.{on_both, on_each, by_eq}
use Rattle.law_controller_facts.proofs.law_port_facts.Steps.{GoesOn, Goes, stays, steps_to, further}
use Rattle.law_controller_facts.proofs.law_port_facts.Said.{any_step}
use Rattle.law_controller_facts.proofs.law_port_facts.Joins.{resets_kept}
use Rattle.law_controller_facts.specs.world_model.Controller.{Acted, free_slots}
use Rattle.law_controller_facts.specs.world_model.Sending.{with_cells, sends}
use Rattle.law_controller_facts.specs.Sound.{IsSound}
use Rattle.law_controller_facts.proofs.Moves.{Worked, worked_kept, by_rule, by_reset, Found, placing, moves_to, HasPorts, found_setup, found_at_own, found_port, begun}
use Rattle.law_controller_facts.proofs.Performing.{does_in_estab_goes}
use Rattle.law_controller_facts.proofs.Laws.{has_ports, moves_sound}
use Rattle.law_controller_facts.proofs.Each.{performs_keeps, node_resets_keeps}
use Rattle.law_controller_facts.proofs.Joining.{every_filter}
use Rattle.law_controller.specs.Match.{MovesJoined, IsOfJoin, lent_in}
use Rattle.law_controller.proofs.Pairing.{SamePairs, same_pairs, goes_pairs}
use Rattle.law_controller.proofs.Matched.{But, Never, OrPort, alike_but, shut_but, pairs_but, reset_but}
use Rattle.law_controller.proofs.Desk.{asked_moving, none_moving, asked_all, withdrawn_all, asked_of}
use Rattle.law_controller.proofs.Holding.{node_closed}
use Rattle.law_controller.proofs.Ordering.{same_number}

both_ways : (b : Bool) → b ≡ true → b ≡ false → ⊥
both_ways b t f = absurd (cc (sym t ∙ f))

-- *What is left of the grants* is lent as it was
none_at : (k : ℕ) (gs : List Grant) → Every (λ (g : Grant). grant_label g ≢ k) gs → at grant_label k gs ≡ None
none_at k [] h = refl
none_at k (g ∷ gs) h = by_eq (grant_label g) k (λ is t. absurd (h.0 is)) (λ other t. ap (λ (b : Bool). if b then Some g else at grant_label k gs) t ∙ none_at k gs h.1)

away : (g : Grant) (k : ℕ) (gs : List Grant) → grant_label g ≡ k → Every (λ (y : Grant). grant_label g ≢ grant_label y) gs → Every (λ (y : Grant). grant_label y ≢ k) gs
away g k [] is h = tt
away g k (y ∷ gs) is h = ((λ e. h.0 (is ∙ sym e)), away g k gs is h.1)

pub left_lent : (gs : List Grant) → InOrder (λ (x : Grant) (y : Grant). grant_label x ≢ grant_label y) gs → (m : ℕ) → lent_in (flat_map left_of gs) m ≡ lent_in gs m
left_lent [] apart m = refl
left_lent (g ∷ gs) apart m = by_state g.state refl (left_lent gs apart.1 m)
  where
    shown : (x : Grant) (rest : List Grant) → grant_label x ≡ grant_label g → (b : Bool) → nat_eq (grant_label g) m ≡ b → lent_in (x ∷ rest) m ≡ option_and_then (λ (y : Grant). lent_input y.state) (if b then Some x else at grant_label m rest)
    shown x rest same b t = ap (λ (c : Bool). option_and_then (λ (y : Grant). lent_input y.state) (if c then Some x else at grant_label m rest)) (ap (λ (n : ℕ). nat_eq n m) same ∙ t)

    -- it ends
    ends : lent_input g.state ≡ None → lent_in (flat_map left_of gs) m ≡ lent_in gs m → lent_in (flat_map left_of gs) m ≡ lent_in (g ∷ gs) m
    ends none rest = by_eq (grant_label g) m
        (λ is t. rest ∙ ap (option_and_then (λ (y : Grant). lent_input y.state)) (none_at m gs (away g m gs is apart.0)) ∙ sym none ∙ sym (shown g gs refl true t))
        (λ other t. rest ∙ sym (shown g gs refl false t))

    -- it leaves
    leaves : (input : End) → lent_input g.state ≡ Some input → lent_in (flat_map left_of gs) m ≡ lent_in gs m
        → lent_in (record g { state = Leaving input false } ∷ flat_map left_of gs) m ≡ lent_in (g ∷ gs) m
    leaves input is rest = by_eq (grant_label g) m
        (λ e t. shown (record g { state = Leaving input false }) (flat_map left_of gs) refl true t ∙ sym is ∙ sym (shown g gs refl true t))
        (λ e t. shown (record g { state = Leaving input false }) (flat_map left_of gs) refl false t ∙ rest ∙ sym (shown g gs refl false t))

    by_state : (state : GrantState) → g.state ≡ state → lent_in (flat_map left_of gs) m ≡ lent_in gs m → lent_in (left_in g state ++ flat_map left_of gs) m ≡ lent_in (g ∷ gs) m
    by_state Idle is rest = ends (ap lent_input is) rest
    by_state ByController is rest = ends (ap lent_input is) rest
    by_state (ByInput input) is rest = leaves input (ap lent_input is) rest
    by_state (Leaving input owed) is rest = leaves input (ap lent_input is) rest

pub any_goes : (Frees : Type 0) (setup : Setup) (desk : Desk) (v w : Work) → GoesOn AnyChannel Frees setup desk v w → Goes setup desk v w
any_goes Frees setup desk v w (stays u) = stays u
any_goes Frees setup desk v w (steps_to {v = a} {w = b} step) = steps_to (any_step AnyChannel Frees setup desk a b step)
any_goes Frees setup desk v w (further {u = a} {v = b} {w = c} g h) = further (any_goes Frees setup desk a b g) (any_goes Frees setup desk b c h)

module _ (setups : List Setup) where
  abbrev pub Fits : (PortNo → Type 0) → Acted → Type 0
  Fits Out a = But Out a.controller.ports a.controller.has_met a.controller.desk

  -- *Outside Estab* every port is shut
  pub closed_fits : (Out : PortNo → Type 0) (a : Acted) → IsSound setups a.controller → is_estab a.controller.adjacency.state ≡ false → Fits Out a
  closed_fits Out a s closed = shut_but Out a.controller.ports a.controller.has_met a.controller.desk (unmet a.controller.has_met refl) (s.unmet (unmet a.controller.has_met refl))
    where
      unmet : (b : Bool) → a.controller.has_met ≡ b → a.controller.has_met ≡ false
      unmet true e = absurd (both_ways (is_estab a.controller.adjacency.state) (s.desk.met e) closed)
      unmet false e = e

  pub node_fits : (Out : PortNo → Type 0) (a : Acted) → IsSound setups a.controller → Fits Out (node_resets a)
  node_fits Out a s = closed_fits Out (node_resets a) (node_resets_keeps setups a s).sound (node_closed setups a)

  -- *What is sent and asked*
  pub sent_fits : (Out : PortNo → Type 0) (a : Acted) (channel : Channel) (mark : Mark) (payload : List ℕ) → Fits Out a → Fits Out (sends a channel mark payload)
  sent_fits Out a channel mark payload h = on_both (λ (x : Sender Controller). But Out x.queues.ports x.queues.has_met x.queues.desk) (nat_le (length (frame_cells channel mark payload)) (free_slots a.controller))
      (record { queues = with_cells a.controller (frame_cells channel mark payload); notes = made a.notes mark payload })
      (record { queues = a.controller; notes = noted (made a.notes mark payload) (Loss mark PoolFull) }) h h

  pub sent_control_fits : (Out : PortNo → Type 0) (a : Acted) (channel : Channel) (payload : List ℕ) → Fits Out a → Fits Out (sends_control a channel payload)
  sent_control_fits Out a channel payload h = sent_fits Out (record a { numbers = with_control a.numbers }) channel (next_control a.numbers) payload h

  still_all : (Out : PortNo → Type 0) (before after : Desk) → ((port : PortNo) → all_on before port ≡ true → all_on after port ≡ true) → (port : PortNo) → Out port ⊎ (all_on before port ≡ true) → Out port ⊎ (all_on after port ≡ true)
  still_all Out before after keeps port (inl out) = inl out
  still_all Out before after keeps port (inr on) = inr (keeps port on)

  asked_fits : (Out : PortNo → Type 0) (a : Acted) (request : Request) → MovesJoined a.controller.ports request → Fits Out a → Fits Out (with_desk a (asked a.controller.desk request))
  asked_fits Out a request joined h = alike_but Out Out a.controller.ports a.controller.ports a.controller.has_met a.controller.desk (asked a.controller.desk request) (λ p n. refl) (λ q m. refl) (λ p. refl)
      (still_all Out a.controller.desk (asked a.controller.desk request) (λ port on. asked_all a.controller.desk request port on)) (asked_moving a.controller.ports a.controller.desk request joined) h

  pub asks_fits : (Out : PortNo → Type 0) (a : Acted) (request : Request) → MovesJoined a.controller.ports request → IsSound setups a.controller → Fits Out a → Fits Out (asks a request)
  asks_fits Out a request joined s h = on_both (Fits Out) (is_estab a.controller.adjacency.state) (if a.controller.desk.next == last_transaction then node_resets a else asks_next a request) a
      (on_both (Fits Out) (a.controller.desk.next == last_transaction) (node_resets a) (asks_next a request) (node_fits Out a s)
      (sent_control_fits Out (with_desk a (asked a.controller.desk request)) default_channel
      (gsmp_octets (message_at (asked a.controller.desk request) (record { number = a.controller.desk.next; request = request }))) (asked_fits Out a request joined h))) h

  pub takes_back_fits : (Out : PortNo → Type 0) (a : Acted) (input output : End) → IsSound setups a.controller → Fits Out a → Fits Out (takes_back a input output)
  takes_back_fits Out a input output s h = on_both (Fits Out) (is_led_home a.controller.desk input (home_of input)) a (asks a (MoveBranch input output (home_of input))) h (asks_fits Out a (MoveBranch input output (home_of input)) (λ other. absurd (other refl)) s h)

  pub withdraws_fits : (Out : PortNo → Type 0) (a : Acted) (input : End) → Fits Out a → Fits Out (withdraws_input a input)
  withdraws_fits Out a input h = alike_but Out Out a.controller.ports a.controller.ports a.controller.has_met a.controller.desk (withdraws_input a input).controller.desk (λ p n. refl) (λ q m. refl) (λ p. refl)
      (still_all Out a.controller.desk (withdraws_input a input).controller.desk (λ port on. withdrawn_all a.controller.desk input port on))
      (λ moving. every_filter (IsOfJoin a.controller.ports) (λ (t : Standing). not (is_on input t.request)) a.controller.desk.standing moving) h

  pub cut_fits : (Out : PortNo → Type 0) (a : Acted) (label : ℕ) (o : Option Linked) → ((linked : Linked) → o ≡ Some linked → Found setups a linked) → Fits Out a → Fits Out (cuts_of a label o)
  cut_fits Out a label None found h = h
  cut_fits Out a label (Some linked) found h = pairs_but a.controller.ports linked (record linked { chains = chains_with linked.chains label nothing_taken }) (found linked refl) refl Out a.controller.has_met a.controller.desk (same_pairs linked.port) h

  -- *One action*, but a reset
  does_fits : (Out : PortNo → Type 0) (port : PortNo) (a : Acted) (x : Action) → IsAction setups x → IsSound setups a.controller → Fits Out a → Fits Out (does port a x)
  does_fits Out port a (Say message) fits s h = sent_control_fits Out a (default_home port).channel (default_payload (ifmp_packet_of a.controller.address (ifmp_octets message))) h
  does_fits Out port a (Ask request needed) fits s h = asks_fits Out a request (none_moving a.controller.ports request fits.1) s h
  does_fits Out port a (Note item) fits s h = h
  does_fits Out port a (CutChain label) fits s h = cut_fits Out a label (linked_at a.controller port) (λ linked found. found_at_own setups a linked port found) h
  does_fits Out port a (TakeBack input output) fits s h = takes_back_fits Out a input output s h
  does_fits Out port a (Withdraw input) fits s h = withdraws_fits Out a input h
  does_fits Out port a actions.Reset fits s h = h

  does_in_fits : (Out : PortNo → Type 0) (port : PortNo) (a : Acted) (x : Action) → IsAction setups x → IsSound setups a.controller → Fits Out a → Fits Out (does_in_estab port a x)
  does_in_fits Out port a x fits s h = on_both (Fits Out) (is_estab a.controller.adjacency.state) (does port a x) a (does_fits Out port a x fits s h) h

  record Doing (Out : PortNo → Type 0) (a : Acted) : Type 0 where
    sound : IsSound setups a.controller
    fits : Fits Out a

  does_sound : (port : PortNo) (a : Acted) (x : Action) → IsAction setups x → IsSound setups a.controller → IsSound setups (does_in_estab port a x).controller
  does_sound port a x fits s = moves_sound setups a (does_in_estab port a x) (does_in_estab_goes setups port a x (has_ports setups a s) fits) s

  does_each_fits : (Out : PortNo → Type 0) (port : PortNo) (xs : List Action) (a : Acted) → Every (IsAction setups) xs → Doing Out a → Doing Out (fold (does_in_estab port) a xs)
  does_each_fits Out port [] a all d = d
  does_each_fits Out port (x ∷ xs) a all d = does_each_fits Out port xs (does_in_estab port a x) all.1 (record { sound = does_sound port a x all.0 d.sound; fits = does_in_fits Out port a x all.0 d.sound d.fits })

  -- *A port reset*: in the end Delete All of it stands
  fold_more : {A B : Type 0} (f : B → A → B) (b : B) (xs ys : List A) → fold f b (xs ++ ys) ≡ fold f (fold f b xs) ys
  fold_more f b [] ys = refl
  fold_more f b (x ∷ xs) ys = fold_more f (f b x) xs ys

  asked_now : (a : Acted) (request : Request) → is_estab (asks a request).controller.adjacency.state ≡ true → (asks a request).controller.desk ≡ asked a.controller.desk request
  asked_now a request = on_each (λ (v : Acted). is_estab v.controller.adjacency.state ≡ true → v.controller.desk ≡ asked a.controller.desk request) (is_estab a.controller.adjacency.state)
      (if a.controller.desk.next == last_transaction then node_resets a else asks_next a request) a
      (λ estab. on_both (λ (v : Acted). is_estab v.controller.adjacency.state ≡ true → v.controller.desk ≡ asked a.controller.desk request) (a.controller.desk.next == last_transaction) (node_resets a) (asks_next a request)
      (λ e. absurd (both_ways (is_estab (node_resets a).controller.adjacency.state) e (node_closed setups a)))
      (λ e. on_both (λ (x : Sender Controller). x.queues.desk ≡ asked a.controller.desk request) (nat_le (length (frame_cells default_channel (next_control a.numbers) (gsmp_octets (message_at (asked a.controller.desk request) (record { number = a.controller.desk.next; request = request })))))
      (free_slots (with_desk a (asked a.controller.desk request)).controller))
      (record { queues = with_cells (with_desk a (asked a.controller.desk request)).controller (frame_cells default_channel (next_control a.numbers) (gsmp_octets (message_at (asked a.controller.desk request) (record { number = a.controller.desk.next; request = request })))); notes = made a.notes (next_control a.numbers) (gsmp_octets (message_at (asked a.controller.desk request) (record { number = a.controller.desk.next; request = request }))) })
      (record { queues = (with_desk a (asked a.controller.desk request)).controller; notes = noted (made a.notes (next_control a.numbers) (gsmp_octets (message_at (asked a.controller.desk request) (record { number = a.controller.desk.next; request = request })))) (Loss (next_control a.numbers) PoolFull) }) refl refl))
      (λ closed e. absurd (both_ways (is_estab a.controller.adjacency.state) e closed))

  -- the last is Delete All
  ends_fits : (port : PortNo) (a : Acted) → Doing (OrPort port.0 Never) a → IsAction setups (Ask (DeleteAll port) true) → Fits Never (does_in_estab port a (Ask (DeleteAll port) true))
  ends_fits port a d fits = by_side (is_estab next.controller.adjacency.state) refl
    where
      next : Acted
      next = does_in_estab port a (Ask (DeleteAll port) true)

      next_fits : Fits (OrPort port.0 Never) next
      next_fits = does_in_fits (OrPort port.0 Never) port a (Ask (DeleteAll port) true) fits d.sound d.fits

      stands : is_estab next.controller.adjacency.state ≡ true → all_on next.controller.desk port ≡ true
      stands = on_each (λ (v : Acted). is_estab v.controller.adjacency.state ≡ true → all_on v.controller.desk port ≡ true) (is_estab a.controller.adjacency.state) (asks a (DeleteAll port)) a
          (λ estab e. ap (λ (d : Desk). all_on d port) (asked_now a (DeleteAll port) e) ∙ asked_of a.controller.desk port)
          (λ closed e. absurd (both_ways (is_estab a.controller.adjacency.state) e closed))

      by_side : (b : Bool) → is_estab next.controller.adjacency.state ≡ b → Fits Never next
      by_side true e = alike_but (OrPort port.0 Never) Never next.controller.ports next.controller.ports next.controller.has_met next.controller.desk next.controller.desk (λ p n. refl) (λ q m. refl) (λ p. refl)
          (λ other. restores other) (λ moving. moving) next_fits
        where
          restores : (other : PortNo) → OrPort port.0 Never other ⊎ (all_on next.controller.desk other ≡ true) → Never other ⊎ (all_on next.controller.desk other ≡ true)
          restores other (inl (inl never)) = absurd never
          restores other (inl (inr same)) = inr (subst (λ (p : PortNo). all_on next.controller.desk p ≡ true) (sym (same_number other port same)) (stands e))
          restores other (inr on) = inr on
      by_side false e = closed_fits Never next (does_sound port a (Ask (DeleteAll port) true) fits d.sound) e

  resets_as_fits : (a : Acted) (linked : Linked) → Found setups a linked → IsSound setups a.controller → Fits Never a → Fits Never (resets_as a linked (resets linked.setup (begins a linked)))
  resets_as_fits a linked found s h =
      let has : HasPorts setups a = has_ports setups a s in
      let w : Work = resets linked.setup (begins a linked) in
      let port : PortNo = linked.setup.port in
      let after : Linked = record linked { port = w.port } in
      let first : List Action = closing linked.setup linked.port.session ++ (withdrawing linked.setup linked.port.grants ++ flat_map (taking_back linked.setup) linked.port.grants) in
      let last : List Action = Ask (DeleteAll port) true ∷ [] in
      let all : Every (IsAction setups) w.actions = (resets_kept setups linked.setup (found_setup setups a linked port has found) (begins a linked) (begun setups a linked port has found)).actions in
      let order : w.actions ≡ first ++ last = sym (append_assoc (closing linked.setup linked.port.session) (withdrawing linked.setup linked.port.grants ++ flat_map (taking_back linked.setup) linked.port.grants) last
      ∙ ap (λ (ys : List Action). closing linked.setup linked.port.session ++ ys) (append_assoc (withdrawing linked.setup linked.port.grants) (flat_map (taking_back linked.setup) linked.port.grants) last)) in
      let each : Every (IsAction setups) (first ++ last) = subst (Every (IsAction setups)) order all in
      let begin : Doing (OrPort port.0 Never) (with_work a linked w) = record {
        sound = moves_sound setups a (with_work a linked w) (moves_to (placing a linked w found by_reset)) s;
        fits = reset_but a.controller.ports linked after found refl Never a.controller.has_met a.controller.desk refl (left_lent linked.port.grants (found_port setups a linked port has found).apart) refl h;
      } in
      let done : Doing (OrPort port.0 Never) (fold (does_in_estab port) (with_work a linked w) first) = does_each_fits (OrPort port.0 Never) port first (with_work a linked w) (every_left (IsAction setups) first last each) begin in
      subst (λ (xs : List Action). Fits Never (fold (does_in_estab port) (with_work a linked w) xs)) (sym order)
      (subst (λ (v : Acted). Fits Never v) (sym (fold_more (does_in_estab port) (with_work a linked w) first last))
      (ends_fits port (fold (does_in_estab port) (with_work a linked w) first) done (every_right (IsAction setups) first last each).0))

  pub resets_port_fits : (a : Acted) (port : PortNo) → IsSound setups a.controller → Fits Never a → Fits Never (resets_port a port)
  resets_port_fits a port s h = by_found (linked_at a.controller port) refl
    where
      by_found : (o : Option Linked) → linked_at a.controller port ≡ o → Fits Never (resets_of a o)
      by_found None found = h
      by_found (Some linked) found = resets_as_fits a linked (found_at_own setups a linked port found) s h

  -- *A rule of a port* that frees no label
  performs_fits : (port : PortNo) (a : Acted) (x : Action) → IsAction setups x → IsSound setups a.controller → Fits Never a → Fits Never (performs port a x)
  performs_fits port a (Say message) fits s h = does_fits Never port a (Say message) fits s h
  performs_fits port a (Ask request needed) fits s h = does_fits Never port a (Ask request needed) fits s h
  performs_fits port a (Note item) fits s h = does_fits Never port a (Note item) fits s h
  performs_fits port a (CutChain label) fits s h = does_fits Never port a (CutChain label) fits s h
  performs_fits port a (TakeBack input output) fits s h = does_fits Never port a (TakeBack input output) fits s h
  performs_fits port a (Withdraw input) fits s h = does_fits Never port a (Withdraw input) fits s h
  performs_fits port a actions.Reset fits s h = resets_port_fits a port s h

  pub performs_each_fits : (port : PortNo) (xs : List Action) (a : Acted) → Every (IsAction setups) xs → IsSound setups a.controller → Fits Never a → Fits Never (fold (performs_in_estab port) a xs)
  performs_each_fits port [] a all s h = h
  performs_each_fits port (x ∷ xs) a all s h = performs_each_fits port xs (performs_in_estab port a x) all.1 (performs_keeps setups a s port x all.0).sound
      (on_both (Fits Never) (is_estab a.controller.adjacency.state) (performs port a x) a (performs_fits port a x all.0 s h) h)

  pub works_as_fits : (a : Acted) (linked : Linked) (w : Work) → Found setups a linked → Worked setups linked.setup a.controller.desk (begins a linked) w → SamePairs linked.port w.port → IsSound setups a.controller → Fits Never a → Fits Never (works_as a linked w)
  works_as_fits a linked w found worked same s h =
      let has : HasPorts setups a = has_ports setups a s in
      performs_each_fits linked.setup.port w.actions (with_work a linked w)
      (worked_kept setups linked.setup a.controller.desk (found_setup setups a linked linked.setup.port has found) (begins a linked) w worked (begun setups a linked linked.setup.port has found)).actions
      (moves_sound setups a (with_work a linked w) (moves_to (placing a linked w found worked)) s)
      (pairs_but a.controller.ports linked (record linked { port = w.port }) found refl Never a.controller.has_met a.controller.desk same h)

  pub at_port_fits : (a : Acted) (port : PortNo) (rule : Rule)
      → ((linked : Linked) → linked_at a.controller port ≡ Some linked → GoesOn AnyChannel ⊥ linked.setup a.controller.desk (begins a linked) (rule linked.setup a.controller.desk (begins a linked)))
      → IsSound setups a.controller → Fits Never a → Fits Never (at_port a port rule)
  at_port_fits a port rule goes s h = by_found (linked_at a.controller port) refl
    where
      by_found : (o : Option Linked) → linked_at a.controller port ≡ o → Fits Never (works a rule o)
      by_found None found = h
      by_found (Some linked) found =
          let own : Found setups a linked = found_at_own setups a linked port found in
          let has : HasPorts setups a = has_ports setups a s in
          let g = goes linked found in
          works_as_fits a linked (rule linked.setup a.controller.desk (begins a linked)) own (by_rule (rule linked.setup a.controller.desk (begins a linked)) (any_goes ⊥ linked.setup a.controller.desk (begins a linked) (rule linked.setup a.controller.desk (begins a linked)) g))
          (goes_pairs linked.port setups linked.setup (found_setup setups a linked linked.setup.port has own) a.controller.desk (begins a linked) (rule linked.setup a.controller.desk (begins a linked)) g (begun setups a linked linked.setup.port has own) (same_pairs linked.port)) s h
