-- how many transaction numbers what is asked takes

use Rattle.std.proofs.Common.{◌≡◌, ℕ, ◌≤◌, ◌<◌, ◌+◌, Bool, true, false, List, [], ◌∷◌, ◌++◌, length, Option, None, Some, refl, sym, ◌∙◌, ap, subst, arith, if◌then◌else◌, fold, sum_by, map, suc, length-append}
use Rattle.std.specs.Prelude.{◌==◌, flat_map}
use Rattle.std.proofs.lemmas.Bool.Decides.{nat_tests}
use Rattle.std.proofs.lemmas.List.{length-map}
use Rattle.std.proofs.lemmas.List.Concat.{flat_map-cons}
use Rattle.std.proofs.lemmas.List.Sums.{sum_by-cons, sum_by-append}
use Rattle.world_model.specs.Words.{PortNo, Channel, End, Mark, Party, Side, is_estab, at, Request, MoveBranch, is_led_home, last_transaction, Action, Closed, Setup, home_of, Grant, GrantState, Idle, ByController, ByInput, Leaving, Label, Session, Work, resets, closing, withdrawing, withdrawing_of, withdrawing_in, taking_back, taking_back_in, left_of, left_in, Linked, linked_at, port_key, with_desk, default_channel, default_home, default_payload, ifmp_packet_of, next_control, with_control, sends_control, node_resets, asks_next, asks, takes_back, cuts_of, cuts_label, begins, with_work, does, does_in_estab, resets_of, resets_port, performs, performs_in_estab, Rule, works, works_as, at_port}
use Rattle.world_model.specs.Controller.{Acted}
use Rattle.world_model.specs.Sending.{sends}
use Rattle.world_model.specs.port_model.Desk.{Desk, Standing, asked, message_at}
use Rattle.world_model.specs.port_model.declared.action.Action.TheVariants as actions
use Rattle.world_model.specs.gsmp_wire.declared.request.Request.TheVariants.{DeleteAll}
use Rattle.world_model.specs.gsmp_wire.Layout.{octets_of as gsmp_octets}
use Rattle.world_model.specs.ifmp_wire.Message.{octets_of as ifmp_octets}
use Rattle.law_port_facts.proofs.Keyed.{on_both, at_key, at_put_same}
use Rattle.law_live_unseen.specs.Law.{seen_grant, AreAlike}
use Rattle.law_live_ports.proofs.Joining.{SameRest, sent_rest}
use Rattle.law_live_others.specs.Law.{IsAlikeAt, IsUp}
use Rattle.law_live_others.proofs.Leaving.{Terms, Leaves, leaves_same, leaves_fold}
use Rattle.law_live_others.proofs.Working.{own_place, does_in_leaves, act_leaves}
use Rattle.law_live_others.proofs.Settling.{anyhow}
use Rattle.law_live_numbers.specs.Law.{numbers_of, numbers_for}

-- *So many numbers at most* are taken of those that are left, and the node stays up
pub record Takes (n : ℕ) (a b : Acted) : Type 0 where
  pub up : IsUp a → a.controller.desk.next + n ≤ last_transaction → IsUp b
  pub next : IsUp a → a.controller.desk.next + n ≤ last_transaction → b.controller.desk.next ≤ a.controller.desk.next + n

pub same_up : (a b : Acted) → b.controller.adjacency ≡ a.controller.adjacency → IsUp a → IsUp b
same_up a b adjacency up = ap (λ (s : Side Party). is_estab s.state) adjacency ∙ up

pub takes_same : (n : ℕ) (a b : Acted) → b.controller.adjacency ≡ a.controller.adjacency → b.controller.desk.next ≡ a.controller.desk.next → Takes n a b
takes_same n a b adjacency next = record { up = λ up low. same_up a b adjacency up; next = λ up low. within b.controller.desk.next a.controller.desk.next n next }
  where
    within : (x y n : ℕ) → x ≡ y → x ≤ y + n
    within x y n same = omega (arith, same)

pub takes_then : (m n : ℕ) (a b c : Acted) → Takes m a b → (IsUp b → Takes n b c) → Takes (m + n) a c
takes_then m n a b c p q = record {
  up = λ up low. (q (first up low)).up (first up low) (later up low);
  next = λ up low. all b.controller.desk.next a.controller.desk.next c.controller.desk.next (p.next up (less a.controller.desk.next low)) ((q (first up low)).next (first up low) (later up low));
}
  where
    less : (x : ℕ) → x + (m + n) ≤ last_transaction → x + m ≤ last_transaction
    less x low = below x m n last_transaction low
      where
        below : (x m n last : ℕ) → x + (m + n) ≤ last → x + m ≤ last
        below x m n last low = omega (arith, low)

    first : IsUp a → a.controller.desk.next + (m + n) ≤ last_transaction → IsUp b
    first up low = p.up up (less a.controller.desk.next low)

    rest : (x y m n last : ℕ) → y ≤ x + m → x + (m + n) ≤ last → y + n ≤ last
    rest x y m n last one low = omega (arith, one, low)

    later : IsUp a → a.controller.desk.next + (m + n) ≤ last_transaction → b.controller.desk.next + n ≤ last_transaction
    later up low = rest a.controller.desk.next b.controller.desk.next m n last_transaction (p.next up (less a.controller.desk.next low)) low

    all : (y x z : ℕ) → y ≤ x + m → z ≤ y + n → z ≤ x + (m + n)
    all y x z one two = sums y x z m n one two
      where
        sums : (y x z m n : ℕ) → y ≤ x + m → z ≤ y + n → z ≤ x + (m + n)
        sums y x z m n one two = omega (arith, one, two)

pub takes_more : (m n : ℕ) (a b : Acted) → m ≤ n → Takes m a b → Takes n a b
takes_more m n a b more p = record {
  up = λ up low. p.up up (less a.controller.desk.next m n last_transaction more low);
  next = λ up low. within b.controller.desk.next a.controller.desk.next m n more (p.next up (less a.controller.desk.next m n last_transaction more low));
}
  where
    less : (x m n last : ℕ) → m ≤ n → x + n ≤ last → x + m ≤ last
    less x m n last more low = omega (arith, more, low)

    within : (y x m n : ℕ) → m ≤ n → y ≤ x + m → y ≤ x + n
    within y x m n more one = omega (arith, more, one)

-- behind something that takes none
pub takes_from : (n : ℕ) (a b c : Acted) → Takes 0 a b → (IsUp b → Takes n b c) → Takes n a c
takes_from n a b c p q = takes_more (0 + n) n a c (itself n) (takes_then 0 n a b c p q)
  where
    itself : (n : ℕ) → 0 + n ≤ n
    itself n = omega arith

pub takes_fold : {X : Type 0} (cost : X → ℕ) (f : Acted → X → Acted) → ((a : Acted) (x : X) → Takes (cost x) a (f a x)) → (xs : List X) (a : Acted) → Takes (sum_by cost xs) a (fold f a xs)
takes_fold cost f each [] a = takes_same (sum_by cost []) a a refl refl
takes_fold cost f each (x ∷ xs) a = subst (λ n. Takes n a (fold f (f a x) xs)) (sym (sum_by-cons cost x xs))
    (takes_then (cost x) (sum_by cost xs) a (f a x) (fold f (f a x) xs) (each a x) (λ up. takes_fold cost f each xs (f a x)))

-- *What is sent* takes none, what is asked one
pub sent_takes : (n : ℕ) (a : Acted) (channel : Channel) (payload : List ℕ) → Takes n a (sends_control a channel payload)
sent_takes n a channel payload =
    let rest : SameRest a.controller (sends_control a channel payload).controller = sent_rest (record a { numbers = with_control a.numbers }) channel (next_control a.numbers) payload in
    takes_same n a (sends_control a channel payload) rest.adjacency (ap (λ (d : Desk). d.next) rest.desk)

pub asks_take : (a : Acted) (request : Request) → Takes 1 a (asks a request)
asks_take a request = record {
  up = λ up low. subst IsUp (sym (whole up low)) (same_up a (asks_next a request) rest.adjacency up);
  next = λ up low. subst (λ (b : Acted). b.controller.desk.next ≤ a.controller.desk.next + 1) (sym (whole up low))
      (within (asks_next a request).controller.desk.next (a.controller.desk.next + 1) (ap (λ (d : Desk). d.next) rest.desk));
}
  where
    with_it : Acted
    with_it = with_desk a (asked a.controller.desk request)

    standing : Standing
    standing = record { number = a.controller.desk.next; request = request }

    rest : SameRest with_it.controller (asks_next a request).controller
    rest = sent_rest (record with_it { numbers = with_control with_it.numbers }) default_channel (next_control with_it.numbers) (gsmp_octets (message_at with_it.controller.desk standing))

    below : (n last : ℕ) → n + 1 ≤ last → (n == last) ≡ false
    below n last less = grind (arith, nat_tests)

    within : (x y : ℕ) → x ≡ y → x ≤ y
    within x y same = omega (arith, same)

    whole : IsUp a → a.controller.desk.next + 1 ≤ last_transaction → asks a request ≡ asks_next a request
    whole up low = ap (λ (t : Bool). if t then (if a.controller.desk.next == last_transaction then node_resets a else asks_next a request) else a) up
        ∙ ap (λ (t : Bool). if t then node_resets a else asks_next a request) (below a.controller.desk.next last_transaction low)

pub back_takes : (a : Acted) (input output : End) → Takes 1 a (takes_back a input output)
back_takes a input output = on_both (Takes 1 a) (is_led_home a.controller.desk input (home_of input)) a (asks a (MoveBranch input output (home_of input)))
    (takes_same 1 a a refl refl) (asks_take a (MoveBranch input output (home_of input)))

-- *What a port asks*, but a reset
module _ (g : ℕ) (q : PortNo) where
  does_take : (a : Acted) (action : Action) → Takes (numbers_of g action) a (does q a action)
  does_take a (actions.Say message) = sent_takes 0 a (default_home q).channel (default_payload (ifmp_packet_of a.controller.address (ifmp_octets message)))
  does_take a (actions.Ask request needed) = asks_take a request
  does_take a (actions.Note item) = takes_same 0 a (does q a (actions.Note item)) refl refl
  does_take a (actions.CutChain label) = by (linked_at a.controller q)
    where
      by : (o : Option Linked) → Takes 0 a (cuts_of a label o)
      by None = takes_same 0 a a refl refl
      by (Some linked) = takes_same 0 a (cuts_of a label (Some linked)) refl refl
  does_take a (actions.TakeBack input output) = back_takes a input output
  does_take a (actions.Withdraw input) = takes_same 0 a (does q a (actions.Withdraw input)) refl refl
  does_take a actions.Reset = takes_same (g + 1) a a refl refl

  does_in_take : (a : Acted) (action : Action) → Takes (numbers_of g action) a (does_in_estab q a action)
  does_in_take a action = on_both (Takes (numbers_of g action) a) (is_estab a.controller.adjacency.state) (does q a action) a (does_take a action) (takes_same (numbers_of g action) a a refl refl)

-- *A port's reset* takes one for each grant, and one more
module _ (g : ℕ) (setup : Setup) where
  zero_then : (x y : ℕ) → x ≡ 0 + y → y ≡ 0 → x ≡ 0
  zero_then x y p q = omega (arith, p, q)

  closing_takes : (o : Option Session) → sum_by (numbers_of g) (closing setup o) ≡ 0
  closing_takes None = refl
  closing_takes (Some s) = zero_then (sum_by (numbers_of g) (actions.Note (Closed setup.node setup.port) ∷ cuts s.labels)) (sum_by (numbers_of g) (cuts s.labels))
      (sum_by-cons (numbers_of g) (actions.Note (Closed setup.node setup.port)) (cuts s.labels)) (cut s.labels)
    where
      cuts : List Label → List Action
      cuts labels = map (λ (label : Label). actions.CutChain label.number) labels

      cut : (labels : List Label) → sum_by (numbers_of g) (cuts labels) ≡ 0
      cut [] = refl
      cut (label ∷ labels) = zero_then (sum_by (numbers_of g) (cuts (label ∷ labels))) (sum_by (numbers_of g) (cuts labels))
          (sum_by-cons (numbers_of g) (actions.CutChain label.number) (cuts labels)) (cut labels)

  withdrawing_takes : (grants : List Grant) → sum_by (numbers_of g) (withdrawing setup grants) ≡ 0
  withdrawing_takes [] = refl
  withdrawing_takes (grant ∷ grants) = ap (sum_by (numbers_of g)) (flat_map-cons (withdrawing_of setup) grant grants)
      ∙ (sum_by-append (numbers_of g) (withdrawing_of setup grant) (withdrawing setup grants) ∙ both (sum_by (numbers_of g) (withdrawing_of setup grant)) (sum_by (numbers_of g) (withdrawing setup grants)) (one grant.state) (withdrawing_takes grants))
    where
      both : (x y : ℕ) → x ≡ 0 → y ≡ 0 → x + y ≡ 0
      both x y p q = omega (arith, p, q)

      one : (state : GrantState) → sum_by (numbers_of g) (withdrawing_in setup grant.label state) ≡ 0
      one Idle = refl
      one ByController = refl
      one (ByInput input) = refl
      one (Leaving input owed) = refl

  back_each : (grants : List Grant) → sum_by (numbers_of g) (flat_map (taking_back setup) grants) ≤ length grants
  back_each [] = omega arith
  back_each (grant ∷ grants) = within (sum_by (numbers_of g) (flat_map (taking_back setup) (grant ∷ grants))) (sum_by (numbers_of g) (taking_back setup grant)) (sum_by (numbers_of g) (flat_map (taking_back setup) grants)) (length grants)
      (ap (sum_by (numbers_of g)) (flat_map-cons (taking_back setup) grant grants) ∙ sum_by-append (numbers_of g) (taking_back setup grant) (flat_map (taking_back setup) grants))
      (one grant.state) (back_each grants)
    where
      within : (x m n l : ℕ) → x ≡ m + n → m ≤ 1 → n ≤ l → x ≤ suc l
      within x m n l e p r = omega (arith, e, p, r)

      one : (state : GrantState) → sum_by (numbers_of g) (taking_back_in setup grant state) ≤ 1
      one Idle = omega arith
      one ByController = omega arith
      one (ByInput input) = omega arith
      one (Leaving input owed) = omega arith

  reset_takes : (a : Acted) (linked : Linked) → sum_by (numbers_of g) (resets setup (begins a linked)).actions ≤ length linked.port.grants + 1
  reset_takes a linked = within (sum_by (numbers_of g) (closed ++ (drawn ++ (back ++ asked_last)))) (sum_by (numbers_of g) closed) (sum_by (numbers_of g) (drawn ++ (back ++ asked_last)))
      (sum_by (numbers_of g) drawn) (sum_by (numbers_of g) (back ++ asked_last)) (sum_by (numbers_of g) back) (length linked.port.grants)
      (sum_by-append (numbers_of g) closed (drawn ++ (back ++ asked_last))) (closing_takes linked.port.session)
      (sum_by-append (numbers_of g) drawn (back ++ asked_last)) (withdrawing_takes linked.port.grants)
      (sum_by-append (numbers_of g) back asked_last) (back_each linked.port.grants)
    where
      closed : List Action
      closed = closing setup linked.port.session

      drawn : List Action
      drawn = withdrawing setup linked.port.grants

      back : List Action
      back = flat_map (taking_back setup) linked.port.grants

      asked_last : List Action
      asked_last = actions.Ask (DeleteAll setup.port) true ∷ []

      within : (all c r d s b l : ℕ) → all ≡ c + r → c ≡ 0 → r ≡ d + s → d ≡ 0 → s ≡ b + 1 → b ≤ l → all ≤ l + 1
      within all c r d s b l one two three four five six = omega (arith, one, two, three, four, five, six)

-- and leaves no more grants than there were
left_few : (grants : List Grant) → length (flat_map left_of grants) ≤ length grants
left_few [] = omega arith
left_few (grant ∷ grants) = within (length (flat_map left_of (grant ∷ grants))) (length (left_of grant)) (length (flat_map left_of grants)) (length grants)
    (ap length (flat_map-cons left_of grant grants) ∙ length-append (left_of grant) (flat_map left_of grants)) (one grant.state) (left_few grants)
  where
    within : (x m n l : ℕ) → x ≡ m + n → m ≤ 1 → n ≤ l → x ≤ suc l
    within x m n l e p r = omega (arith, e, p, r)

    one : (state : GrantState) → length (left_in grant state) ≤ 1
    one Idle = omega arith
    one ByController = omega arith
    one (ByInput input) = omega arith
    one (Leaving input owed) = omega arith

-- *A port with so many grants* at most
pub record HasFew (g : ℕ) (q : PortNo) (a : Acted) : Type 0 where
  pub linked : Linked
  pub there : linked_at a.controller q ≡ Some linked
  pub few : length linked.port.grants ≤ g

few_alike : (g : ℕ) (q : PortNo) (a b : Acted) → Leaves (anyhow q) a b → IsUp b → HasFew g q a → HasFew g q b
few_alike g q a b leaves up has = record {
  linked = like.after;
  there = like.there;
  few = subst (λ n. n ≤ g) (sym same) has.few;
}
  where
    like : IsAlikeAt has.linked (linked_at b.controller q)
    like = leaves.left up tt has.linked has.there tt

    same : length like.after.port.grants ≡ length has.linked.port.grants
    same = sym (length-map like.after.port.grants seen_grant) ∙ (ap length like.alike.grants ∙ length-map has.linked.port.grants seen_grant)

module _ (g : ℕ) (q : PortNo) where
  -- what an action takes, and that there are still so few grants
  pub record Performed (a : Acted) (action : Action) (b : Acted) : Type 0 where
    pub takes : Takes (numbers_of g action) a b
    pub few : IsUp b → HasFew g q b

  done_few : (a : Acted) (action : Action) → Leaves (anyhow q) a (does q a action) → HasFew g q a → Performed a action (does q a action)
  done_few a action leaves has = record { takes = does_take g q a action; few = λ up. few_alike g q a (does q a action) leaves up has }

  reset_few : (a : Acted) → HasFew g q a → Performed a actions.Reset (resets_port a q)
  reset_few a has = subst (Performed a actions.Reset) (sym (ap (resets_of a) has.there)) (record {
    takes = takes_more (sum_by (numbers_of g) w.actions) (g + 1) a last (within (sum_by (numbers_of g) w.actions) (length has.linked.port.grants) g (reset_takes g has.linked.setup a has.linked) has.few)
        (takes_from (sum_by (numbers_of g) w.actions) a put_back last (takes_same 0 a put_back refl refl) (λ up. takes_fold (numbers_of g) (does_in_estab own_port) (does_in_take g own_port) w.actions put_back));
    few = λ up. few_alike g q put_back last (leaves_fold (anyhow q) (does_in_estab own_port) (does_in_leaves (anyhow q) own_port) w.actions put_back) up (record {
      linked = record has.linked { port = w.port };
      there = ap (λ k. at port_key k put_back.controller.ports) (sym key) ∙ at_put_same port_key (record has.linked { port = w.port }) a.controller.ports has.linked (own_place a q has.linked has.there);
      few = under (length (flat_map left_of has.linked.port.grants)) (length has.linked.port.grants) g (left_few has.linked.port.grants) has.few;
    });
  })
    where
      w : Work
      w = resets has.linked.setup (begins a has.linked)

      own_port : PortNo
      own_port = has.linked.setup.port

      put_back : Acted
      put_back = with_work a has.linked w

      last : Acted
      last = fold (does_in_estab own_port) put_back w.actions

      key : port_key has.linked ≡ q.0
      key = at_key port_key q.0 a.controller.ports has.linked has.there

      within : (x l g : ℕ) → x ≤ l + 1 → l ≤ g → x ≤ g + 1
      within x l g p r = omega (arith, p, r)

      under : (x l g : ℕ) → x ≤ l → l ≤ g → x ≤ g
      under x l g p r = omega (arith, p, r)

  performed : (a : Acted) (action : Action) → HasFew g q a → Performed a action (performs q a action)
  performed a (actions.Say message) has = done_few a (actions.Say message) (act_leaves (anyhow q) q a (actions.Say message) tt) has
  performed a (actions.Ask request needed) has = done_few a (actions.Ask request needed) (act_leaves (anyhow q) q a (actions.Ask request needed) tt) has
  performed a (actions.Note item) has = done_few a (actions.Note item) (act_leaves (anyhow q) q a (actions.Note item) tt) has
  performed a (actions.CutChain label) has = done_few a (actions.CutChain label) (act_leaves (anyhow q) q a (actions.CutChain label) tt) has
  performed a (actions.TakeBack input output) has = done_few a (actions.TakeBack input output) (act_leaves (anyhow q) q a (actions.TakeBack input output) tt) has
  performed a (actions.Withdraw input) has = done_few a (actions.Withdraw input) (act_leaves (anyhow q) q a (actions.Withdraw input) tt) has
  performed a actions.Reset has = reset_few a has

  performed_in : (a : Acted) (action : Action) → HasFew g q a → Performed a action (performs_in_estab q a action)
  performed_in a action has = on_both (Performed a action) (is_estab a.controller.adjacency.state) (performs q a action) a (performed a action has)
      (record { takes = takes_same (numbers_of g action) a a refl refl; few = λ up. has })

  all_performed : (list : List Action) (a : Acted) → HasFew g q a → Takes (sum_by (numbers_of g) list) a (fold (performs_in_estab q) a list)
  all_performed [] a has = takes_same (sum_by (numbers_of g) []) a a refl refl
  all_performed (action ∷ list) a has = subst (λ n. Takes n a (fold (performs_in_estab q) (performs_in_estab q a action) list)) (sym (sum_by-cons (numbers_of g) action list))
      (takes_then (numbers_of g action) (sum_by (numbers_of g) list) a (performs_in_estab q a action) (fold (performs_in_estab q) (performs_in_estab q a action) list) one.takes
      (λ up. all_performed list (performs_in_estab q a action) (one.few up)))
    where
      one : Performed a action (performs_in_estab q a action)
      one = performed_in a action has

-- *A port that worked* takes as many numbers as it asks for
pub work_takes : (a : Acted) (q : PortNo) (linked : Linked) (w : Work) → linked_at a.controller q ≡ Some linked → Takes (numbers_for w) a (works_as a linked w)
work_takes a q linked w found = takes_from (numbers_for w) a put_back (works_as a linked w) (takes_same 0 a put_back refl refl)
    (λ up. all_performed (length w.port.grants) linked.setup.port w.actions put_back (record {
      linked = record linked { port = w.port };
      there = at_put_same port_key (record linked { port = w.port }) a.controller.ports linked (own_place a q linked found);
      few = itself (length w.port.grants);
    }))
  where
    put_back : Acted
    put_back = with_work a linked w

    itself : (n : ℕ) → n ≤ n
    itself n = omega arith

pub rule_up : (a : Acted) (q : PortNo) (rule : Rule) → IsUp a
    → ((linked : Linked) → linked_at a.controller q ≡ Some linked → a.controller.desk.next + numbers_for (rule linked.setup a.controller.desk (begins a linked)) ≤ last_transaction)
    → IsUp (at_port a q rule)
rule_up a q rule up low = by (linked_at a.controller q) refl
  where
    by : (o : Option Linked) → linked_at a.controller q ≡ o → IsUp (works a rule o)
    by None found = up
    by (Some linked) found = (work_takes a q linked (rule linked.setup a.controller.desk (begins a linked)) found).up up (low linked found)
