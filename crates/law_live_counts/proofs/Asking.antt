-- packets of a flow are counted until the policy offers it a label, which then serves it

use Rattle.std.proofs.Common.{◌≡◌, ℕ, suc, ◌≤◌, ◌<◌, ◌+◌, ◌&&◌, Bool, true, false, List, [], ◌∷◌, ◌++◌, length, Option, None, Some, refl, sym, ◌∙◌, ap, subst, arith, if◌then◌else◌, fold}
use Rattle.std.specs.Prelude.{find, nat_eq, nat_lt, nat_le, min, is_some, not}
use Rattle.std.specs.Option.{option_map_or}
use Rattle.std.proofs.lemmas.Bool.Decides.{nat_tests}
use Rattle.port_model.specs.Words.{Channel, label_channel_of, FlowId, same_flow, AddBranch, at, put, entered, key_le, Desk, most_asked, Setup, is_between, label_numbers, label_end, control_end, Label, label_number, is_spare, label_for, lowest_spare, serves, counted_once, packets_in, Session, Work, with_session, with_label, with_new_label, has_room, desk_with, packet_flow, wires, offers, counts_flow, counts_by, counts}
use Rattle.port_model.specs.Port.{with_action}
use Rattle.port_model.specs.Counts.{Counted, greatest_count, packets_of, packet_total}
use Rattle.port_model.specs.declared.action.Action.{Action}
use Rattle.port_model.specs.declared.action.Action.TheVariants.{Ask}
use Rattle.law_port_facts.proofs.Keyed.{on_both, by_eq}
use Rattle.law_port_facts.proofs.Found.{find_passes}
use Rattle.law_live_counts.specs.Law.{OffersFrom, IsReady, AreOf, counts_each, wiring_for, takes_label, AsksOnce, FlowsAskOnce}
use Rattle.law_live_counts.proofs.Works.{changed_going, changed_actions, changed_session, acts_going, acts_more, in_session, open_in, changes_in, acts_in}
use Rattle.law_live_counts.proofs.Counted.{same_itself, one_counted}

-- *A new label* is found by its number, and by its flow where no other serves it
entered_at : (y : Label) (xs : List Label) → at label_number y.number xs ≡ None → at label_number y.number (entered (key_le label_number) y xs) ≡ Some y
entered_at y [] none = ap (λ (b : Bool). if b then Some y else None) (itself y.number)
  where
    itself : (n : ℕ) → nat_eq n n ≡ true
    itself n = grind (arith, nat_tests)
entered_at y (x ∷ xs) none = on_both (λ (ys : List Label). at label_number y.number ys ≡ Some y) (nat_le y.number x.number) (y ∷ x ∷ xs) (x ∷ entered (key_le label_number) y xs)
    (ap (λ (b : Bool). if b then Some y else at label_number y.number (x ∷ xs)) (itself y.number))
    (by_eq x.number y.number
    (λ same t. absurd (cc (sym (ap (λ (b : Bool). if b then Some x else at label_number y.number xs) t) ∙ none)))
    (λ other t. ap (λ (b : Bool). if b then Some x else at label_number y.number (entered (key_le label_number) y xs)) t
    ∙ entered_at y xs (sym (ap (λ (b : Bool). if b then Some x else at label_number y.number xs) t) ∙ none)))
  where
    itself : (n : ℕ) → nat_eq n n ≡ true
    itself n = grind (arith, nat_tests)

entered_found : (test : Label → Bool) (y : Label) (xs : List Label) → test y ≡ true → find test xs ≡ None → find test (entered (key_le label_number) y xs) ≡ Some y
entered_found test y [] it none = ap (λ (b : Bool). if b then Some y else None) it
entered_found test y (x ∷ xs) it none = on_both (λ (ys : List Label). find test ys ≡ Some y) (nat_le y.number x.number) (y ∷ x ∷ xs) (x ∷ entered (key_le label_number) y xs)
    (ap (λ (b : Bool). if b then Some y else find test (x ∷ xs)) it) (later (test x) refl none (entered_found test y xs it))
  where
    later : (b : Bool) → test x ≡ b → (if b then Some x else find test xs) ≡ None → (find test xs ≡ None → find test (entered (key_le label_number) y xs) ≡ Some y)
        → find test (x ∷ entered (key_le label_number) y xs) ≡ Some y
    later true t none more = absurd (cc none)
    later false t none more = ap (λ (b : Bool). if b then Some x else find test (entered (key_le label_number) y xs)) t ∙ more none

-- a label that is put in its own place changes nothing
put_itself : (y : Label) (xs : List Label) → at label_number y.number xs ≡ Some y → put label_number y xs ≡ xs
put_itself y [] found = refl
put_itself y (x ∷ xs) found = by_eq x.number y.number
    (λ same t. (let own : x ≡ y = one x y (sym (ap (λ (b : Bool). if b then Some x else at label_number y.number xs) t) ∙ found) in
    ap (λ (b : Bool). if b then y ∷ xs else x ∷ put label_number y xs) t ∙ ap (λ (z : Label). z ∷ xs) (sym own)))
    (λ other t. ap (λ (b : Bool). if b then y ∷ xs else x ∷ put label_number y xs) t
    ∙ ap (λ (ys : List Label). x ∷ ys) (put_itself y xs (sym (ap (λ (b : Bool). if b then Some x else at label_number y.number xs) t) ∙ found)))
  where
    one : (a b : Label) → Some a ≡ Some b → a ≡ b
    one a b e = cc

-- what is found spare isn't held
pub spare_at : (setup : Setup) (least greatest : Channel) (labels : List Label) (number : ℕ) → lowest_spare setup least greatest labels ≡ Some number
    → at label_number number labels ≡ None
spare_at setup least greatest labels number found =
    none (at label_number number labels) (second (is_between least greatest (label_channel_of number)) (is_spare labels number)
    (find_passes (λ n. is_between least greatest (label_channel_of n) && is_spare labels n) (label_numbers setup) number found))
  where
    second : (a b : Bool) → (a && b) ≡ true → b ≡ true
    second true b h = h
    second false b h = absurd (cc h)

    none : (o : Option Label) → not (is_some o) ≡ true → o ≡ None
    none None h = refl
    none (Some label) h = absurd (cc h)

module _ (setup : Setup) (desk : Desk) (w : Work) (flow : FlowId) (wanted number : ℕ) (policy : OffersFrom setup.policy flow wanted)
    (ready : IsReady setup desk w flow number) where
  abbrev wiring : Label
  wiring = wiring_for flow number

  abbrev branch : Action
  branch = Ask (AddBranch (label_end setup.port number) (control_end setup.port number)) false

  -- *So far* so many are counted
  record Counting (packets : ℕ) (v : Work) : Type 0 where
    going : v.halted ≡ false
    actions : v.actions ≡ w.actions
    session : Session
    is_open : v.port.session ≡ Some session
    unserved : label_for session.labels flow ≡ None
    spare : lowest_spare setup session.least session.greatest session.labels ≡ Some number
    counted : packets_in session.counted flow ≡ packets
    same : session ≡ record ready.session { counted = session.counted }
    left : v ≡ in_session w ready.going session w.actions

  -- *or the label* is being wired
  record Wires (v : Work) : Type 0 where
    going : v.halted ≡ false
    actions : v.actions ≡ w.actions ++ branch ∷ []
    session : Session
    is_open : v.port.session ≡ Some session
    held : at label_number number session.labels ≡ Some wiring
    serving : label_for session.labels flow ≡ Some wiring
    counts_so_far : List Counted
    left : v ≡ takes_label setup w ready.session flow number counts_so_far

  begins : Counting 0 w
  begins = record {
    going = ready.going;
    actions = refl;
    session = ready.session;
    is_open = ready.is_open;
    unserved = ready.unserved;
    spare = ready.spare;
    counted = ap (λ o. packet_total (packets_of o)) ready.uncounted;
    same = refl;
    left = open_in w ready.going ready.session ready.is_open;
  }

  module _ (packets : ℕ) (v : Work) (c : Counting packets v) (low : packets < wanted) (packet : List ℕ) (is : packet_flow packet ≡ Some flow) where
    abbrev now : Session
    now = record c.session { counted = counted_once c.session.counted flow }

    abbrev next : Work
    next = with_session v (λ old. now)

    comes : counts setup desk v packet ≡ offers setup desk next now flow
    comes = ap (λ o. counts_by setup desk v o (packet_flow packet)) c.is_open ∙ ap (counts_by setup desk v (Some c.session)) is
        ∙ ap (counts_flow setup desk v c.session flow) c.unserved

    one_more_counted : packets_in now.counted flow ≡ suc packets
    one_more_counted = one_counted c.session.counted flow ∙ ap (λ n. min greatest_count (n + 1)) c.counted ∙ within packets greatest_count wanted low policy.few
      where
        within : (n most wanted : ℕ) → n < wanted → wanted ≤ most → min most (n + 1) ≡ suc n
        within n most wanted low few = omega (arith, low, few)

    next_open : next.port.session ≡ Some now
    next_open = changed_session v c.going (λ old. now) c.session c.is_open

    now_same : now ≡ record ready.session { counted = now.counted }
    now_same = ap (λ (s : Session). record s { counted = now.counted }) c.same

    next_left : next ≡ in_session w ready.going now w.actions
    next_left = ap (λ (u : Work). with_session u (λ old. now)) c.left ∙ changes_in w ready.going c.session w.actions (λ old. now)

    next_counting : Counting (suc packets) next
    next_counting = record {
      going = changed_going v c.going (λ old. now);
      actions = changed_actions v c.going (λ old. now) ∙ c.actions;
      session = now;
      is_open = next_open;
      unserved = c.unserved;
      spare = c.spare;
      counted = one_more_counted;
      same = now_same;
      left = next_left;
    }

    -- the policy doesn't offer yet
    counts_on : suc packets < wanted → Counting (suc packets) (counts setup desk v packet)
    counts_on yet = subst (Counting (suc packets)) (sym (comes ∙ stays)) next_counting
      where
        stays : offers setup desk next now flow ≡ next
        stays = ap (λ (b : Bool). if b && has_room desk next then wires setup next flow (lowest_spare setup now.least now.greatest now.labels) else next)
            (ap (setup.policy.offers flow) one_more_counted ∙ policy.not_yet (suc packets) yet)

    -- or it does
    abbrev enters : Session → Session
    enters s = record s { labels = entered (key_le label_number) wiring s.labels }

    abbrev held_now : Work
    held_now = with_new_label next wiring

    wires_now : wanted ≤ suc packets → Wires (counts setup desk v packet)
    wires_now enough = subst Wires (sym (comes ∙ offered)) (record {
      going = acts_going held_now held_going branch;
      actions = acts_more held_now held_going branch ∙ ap (λ actions. actions ++ branch ∷ []) (changed_actions next next_counting.going enters ∙ next_counting.actions);
      session = enters now;
      is_open = acts_port_session ∙ changed_session next next_counting.going enters now next_open;
      held = entered_at wiring now.labels free;
      serving = entered_found (λ label. serves label.state && same_flow label.flow flow) wiring now.labels (same_itself flow) c.unserved;
      counts_so_far = now.counted;
      left = ap (λ (u : Work). with_action (with_new_label u wiring) branch) next_left
          ∙ (ap (λ (u : Work). with_action u branch) (changes_in w ready.going now w.actions enters)
          ∙ (acts_in w ready.going (enters now) w.actions branch
          ∙ ap (λ (s : Session). in_session w ready.going (enters s) (w.actions ++ branch ∷ [])) now_same));
    })
      where
        held_going : held_now.halted ≡ false
        held_going = changed_going next next_counting.going enters

        free : at label_number number now.labels ≡ None
        free = spare_at setup now.least now.greatest now.labels number c.spare

        acts_port_session : (with_action held_now branch).port.session ≡ held_now.port.session
        acts_port_session = on_both (λ (u : Work). u.port.session ≡ held_now.port.session) held_now.halted held_now (record held_now { actions = held_now.actions ++ branch ∷ [] }) refl refl

        room : has_room desk next ≡ true
        room = ap (λ (actions : List Action). nat_lt (length (fold desk_with desk actions).standing) most_asked) next_counting.actions ∙ ready.room

        offered : offers setup desk next now flow ≡ wires setup next flow (Some number)
        offered = ap (λ (b : Bool). if b && has_room desk next then wires setup next flow (lowest_spare setup now.least now.greatest now.labels) else next)
            (ap (setup.policy.offers flow) one_more_counted ∙ policy.from_then_on (suc packets) enough)
            ∙ ap (λ (b : Bool). if b then wires setup next flow (lowest_spare setup now.least now.greatest now.labels) else next) room
            ∙ ap (wires setup next flow) c.spare

  -- a packet more finds the label
  abbrev puts : Session → Session
  puts s = record s { labels = put label_number wiring s.labels }

  abbrev labels_then : List Label
  labels_then = entered (key_le label_number) wiring ready.session.labels

  wires_on : (v : Work) → Wires v → (packet : List ℕ) → packet_flow packet ≡ Some flow → Wires (counts setup desk v packet)
  wires_on v h packet is = subst Wires (sym comes) (record {
    going = changed_going v h.going puts;
    actions = changed_actions v h.going puts ∙ h.actions;
    session = puts h.session;
    is_open = changed_session v h.going puts h.session h.is_open;
    held = ap (at label_number number) same ∙ h.held;
    serving = ap (λ labels. label_for labels flow) same ∙ h.serving;
    counts_so_far = h.counts_so_far;
    left = ap (λ (u : Work). with_session u puts) h.left
        ∙ (changes_in w ready.going (record ready.session { counted = h.counts_so_far; labels = labels_then }) (w.actions ++ branch ∷ []) puts
        ∙ ap (λ labels. in_session w ready.going (record ready.session { counted = h.counts_so_far; labels = labels }) (w.actions ++ branch ∷ []))
        (put_itself wiring labels_then (entered_at wiring ready.session.labels (spare_at setup ready.session.least ready.session.greatest ready.session.labels number ready.spare))));
  })
    where
      same : put label_number wiring h.session.labels ≡ h.session.labels
      same = put_itself wiring h.session.labels h.held

      comes : counts setup desk v packet ≡ with_label v wiring
      comes = ap (λ o. counts_by setup desk v o (packet_flow packet)) h.is_open ∙ ap (counts_by setup desk v (Some h.session)) is
          ∙ ap (counts_flow setup desk v h.session flow) h.serving

  wires_all : (v : Work) → Wires v → (packets : List (List ℕ)) → AreOf flow packets → Wires (counts_each setup desk v packets)
  wires_all v h [] are = h
  wires_all v h (packet ∷ packets) are = wires_all (counts setup desk v packet) (wires_on v h packet are.0) packets are.1

  -- *All packets*
  few_all : (packets : List (List ℕ)) (k : ℕ) (v : Work) → Counting k v → AreOf flow packets → length packets + k < wanted → Counting (length packets + k) (counts_each setup desk v packets)
  few_all [] k v c are low = subst (λ n. Counting n v) (none_more k) c
    where
      none_more : (n : ℕ) → n ≡ 0 + n
      none_more n = omega arith
  few_all (packet ∷ packets) k v c are low = subst (λ n. Counting n (counts_each setup desk v (packet ∷ packets))) (moved (length packets) k)
      (few_all packets (suc k) (counts setup desk v packet) (counts_on k v c (omega (arith, low)) packet are.0 (omega (arith, low))) are.1 (omega (arith, low)))
    where
      moved : (n k : ℕ) → n + suc k ≡ suc n + k
      moved n k = omega arith

  enough_all : (packets : List (List ℕ)) (k : ℕ) (v : Work) → Counting k v → k < wanted → AreOf flow packets → wanted ≤ length packets + k → Wires (counts_each setup desk v packets)
  enough_all [] k v c low are enough = absurd (omega (arith, low, enough))
  enough_all (packet ∷ packets) k v c low are enough = by (nat_lt (suc k) wanted) refl
      (λ d below. enough_all packets (suc k) (counts setup desk v packet) d below are.1 (omega (arith, enough)))
    where
      by : (b : Bool) → nat_lt (suc k) wanted ≡ b → (Counting (suc k) (counts setup desk v packet) → suc k < wanted → Wires (counts_each setup desk v (packet ∷ packets)))
          → Wires (counts_each setup desk v (packet ∷ packets))
      by true t more = more (counts_on k v c low packet are.0 (below (suc k) wanted t)) (below (suc k) wanted t)
        where
          below : (a b : ℕ) → nat_lt a b ≡ true → a < b
          below a b t = grind (arith, nat_tests)
      by false t more = wires_all (counts setup desk v packet) (wires_now k v c low packet are.0 (above (suc k) wanted t)) packets are.1
        where
          above : (a b : ℕ) → nat_lt a b ≡ false → b ≤ a
          above a b t = grind (arith, nat_tests)

  asks_once : AsksOnce setup desk w ready.session flow wanted number
  asks_once = record {
    too_few = λ packets are low. (let c = few_all packets 0 w begins are (omega (arith, low)) in
        record { session = c.session; is_open = c.is_open; counted = c.counted ∙ nothing_more (length packets); unserved = c.unserved; nothing_asked = c.actions });
    enough = λ packets are low. (let h = enough_all packets 0 w begins policy.some are (omega (arith, low)) in
        record {
          asked_once = h.actions;
          wired = ap (λ o. at label_number number (option_map_or (λ (s : Session). s.labels) o [])) h.is_open ∙ h.held;
          counts = h.counts_so_far;
          left = h.left;
        });
  }
    where
      nothing_more : (n : ℕ) → n + 0 ≡ n
      nothing_more n = omega arith

pub flows_ask_once : FlowsAskOnce
flows_ask_once setup desk w flow wanted number policy ready = asks_once setup desk w flow wanted number policy ready
