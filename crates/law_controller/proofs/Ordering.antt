-- what keeps requests and joins in order: a request is asked or ends, a port changes, the switch is met

use Rattle.std.proofs.Common.{◌≡◌, ℕ, ◌≤◌, Bool, true, false, List, [], ◌∷◌, ◌++◌, length, Option, None, Some, refl, sym, ◌∙◌, ap, subst, arith, inl, inr}
use Rattle.std.specs.Prelude.{not, ◌+◌, ◌==◌, ◌||◌, ◌&&◌, nat_lt, filter, ◌⊎◌}
use Rattle.std.specs.Option.{option_map_or}
use Rattle.std.proofs.lemmas.Bool.Decides.{nat_tests}
use Rattle.law_controller_facts.specs.world_model.Words.{PortNo, End, Clearing, Request, AddBranch, MoveBranch, DeleteTree, VerifyTree, PortManagement, same_end, at, put, is_on, is_delete_all, withdraws, Desk, Standing, all_on, on_input, most_asked, Answered, Unknown, Done, Ports, Failed, after_answer, label_end, Label, labels_of, Linked, port_key}
use Rattle.law_controller_facts.specs.world_model.gsmp_wire.declared.request.Request.TheVariants.{DeleteAll, AllPorts}
use Rattle.law_controller_facts.specs.ordered_lists.Ordered.{Every}
use Rattle.law_controller_facts.proofs.ordered_lists.Every.{every_map, every_map2, every_join}
use Rattle.law_controller_facts.proofs.ordered_lists.Parts.{every_part, part_filtered}
use Rattle.law_controller_facts.specs.world_model.port_model.Requests.{request_input}
use Rattle.law_controller_facts.specs.world_model.port_model.Desk.{asked}
use Rattle.law_controller_facts.proofs.law_port_facts.Keyed.{on_both, by_eq, at_put_same, at_put_other, put_every}
use Rattle.law_controller_facts.proofs.law_port_facts.Found.{filter_passes}
use Rattle.law_controller.specs.Order.{is_lent, IsLentTo, HasLentLabels, IsDeleting, IsMeeting, listing, emptying, IsOther, IsClearingAt, IsOfClearing, is_default, IsLinkInput, IsApart, IsLentMove, MovesLent, is_unlent, stands_unlent, is_listing, is_all_ports, count_of, IsOrder}
use Rattle.law_controller.proofs.Lists.{one_most, one_leads, one_none, count_most, count_filter, length_filter, count_more, count_within, count_replaced, any_more, any_filter, any_each}

-- *Requests*
pub of_input_other : (request : Request) (input : End) → request_input request ≡ Some input → IsOther request
of_input_other (AddBranch i output) input e = tt
of_input_other (MoveBranch i from to) input e = tt
of_input_other (DeleteTree i) input e = tt
of_input_other (VerifyTree i) input e = tt
of_input_other (DeleteAll port) input e = tt
of_input_other (PortManagement port function) input e = tt
of_input_other AllPorts input e = absurd (cc e)

pub of_input_deletes : (request : Request) (input : End) (port : PortNo) → request_input request ≡ Some input → is_delete_all port request ≡ false
of_input_deletes (AddBranch i output) input port e = refl
of_input_deletes (MoveBranch i from to) input port e = refl
of_input_deletes (DeleteTree i) input port e = refl
of_input_deletes (VerifyTree i) input port e = refl
of_input_deletes (DeleteAll other) input port e = absurd (cc e)
of_input_deletes (PortManagement other function) input port e = refl
of_input_deletes AllPorts input port e = refl

of_input_listing : (s : Standing) (input : End) → request_input s.request ≡ Some input → is_all_ports s ≡ false
of_input_listing s input e = by_request s.request refl
  where
    none_is : (request : Request) → s.request ≡ request → request_input request ≡ None → ⊥
    none_is request is none = absurd (cc (sym e ∙ ap request_input is ∙ none))

    by_request : (request : Request) → s.request ≡ request → is_listing request ≡ false
    by_request (AddBranch i output) is = refl
    by_request (MoveBranch i from to) is = refl
    by_request (DeleteTree i) is = refl
    by_request (VerifyTree i) is = refl
    by_request (DeleteAll port) is = refl
    by_request (PortManagement port function) is = refl
    by_request AllPorts is = absurd (none_is AllPorts is refl)

-- a Delete All of a port withdraws what is on its inputs
withdrawn_on : (request standing : Request) (input : End) → request_input standing ≡ Some input → is_delete_all input.port request ≡ true → withdraws request standing ≡ true
withdrawn_on (DeleteAll port) standing input on is = (let there : (input.port.0 == port.0) ≡ true = turn port.0 input.port.0 is in
    ap (λ (o : Option End). option_map_or (λ (i : End). i.port.0 == port.0) o false || is_delete_all port standing) on ∙ ap (λ t. t || is_delete_all port standing) there)
  where
    turn : (a b : ℕ) → (a == b) ≡ true → (b == a) ≡ true
    turn a b e = grind (arith, nat_tests)
withdrawn_on (AddBranch i output) standing input on is = absurd (cc is)
withdrawn_on (MoveBranch i from to) standing input on is = absurd (cc is)
withdrawn_on (DeleteTree i) standing input on is = absurd (cc is)
withdrawn_on (VerifyTree i) standing input on is = absurd (cc is)
withdrawn_on (PortManagement port function) standing input on is = absurd (cc is)
withdrawn_on AllPorts standing input on is = absurd (cc is)

pub same_number : (x y : PortNo) → x.0 ≡ y.0 → x ≡ y
same_number x y e = ap (λ (n : ℕ). record { 0 = n }) e

same_deletes : (x y : PortNo) (request : Request) → x.0 ≡ y.0 → is_delete_all x request ≡ is_delete_all y request
same_deletes x y request e = ap (λ (p : PortNo). is_delete_all p request) (same_number x y e)

-- *Why a request may be asked*
module _ (ports : List Linked) (has_met : Bool) (desk : Desk) where
  pub data HasPlace (input : End) : Type 0 where
    for_default : is_default input ≡ true → HasPlace input
    with_room : nat_lt (length desk.standing) most_asked ≡ true → HasPlace input
    to_free : is_lent ports input ≡ true → HasPlace input

  pub data MayAsk : Request → Type 0 where
    of_all : desk.standing ≡ [] → has_met ≡ false → MayAsk AllPorts
    of_meeting : (port : PortNo) → has_met ≡ false → Every (λ (s : Standing). IsDeleting s.request) desk.standing → MayAsk (DeleteAll port)
    of_reset : (port : PortNo) → has_met ≡ true → IsClearingAt ports port → MayAsk (DeleteAll port)
    of_input : (request : Request) (input : End) → request_input request ≡ Some input → has_met ≡ true → (IsLinkInput input → all_on desk input.port ≡ false) → HasPlace input → IsLentMove ports request → MayAsk request
    in_place : (input : End) → has_met ≡ true → (IsLinkInput input → all_on desk input.port ≡ false) → on_input desk input ≡ true → MayAsk (DeleteTree input)

  not_both : (b : Bool) → b ≡ true → b ≡ false → ⊥
  not_both b t f = absurd (cc (sym t ∙ f))

  stays_false : (b : Bool) → not b ≡ true → b ≡ true → ⊥
  stays_false true e t = absurd (cc e)
  stays_false false e t = absurd (cc t)

  -- *One is asked*
  module _ (request : Request) (h : IsOrder ports has_met desk) where
    abbrev one : Standing
    one = record { number = desk.next; request = request }

    abbrev stay : List Standing
    stay = filter (λ (s : Standing). not (withdraws request s.request)) desk.standing

    staying : (P : Standing → Type 0) → Every P desk.standing → Every P stay
    staying P all = every_part P (part_filtered (λ (s : Standing). not (withdraws request s.request)) desk.standing) all

    more : (P : Standing → Type 0) → Every P desk.standing → P one → Every P (stay ++ one ∷ [])
    more P all p = every_join P stay (one ∷ []) (staying P all) (p, tt)

    none_on : (port : PortNo) → all_on desk port ≡ false → is_delete_all port request ≡ false → all_on (asked desk request) port ≡ false
    none_on port none other = any_more (λ (s : Standing). is_delete_all port s.request) stay one other
        ∙ any_filter (λ (s : Standing). is_delete_all port s.request) (λ (s : Standing). not (withdraws request s.request)) desk.standing none

    stay_apart : Every (IsApart (asked desk request)) stay
    stay_apart = every_map2 (λ (s : Standing). not (withdraws request s.request) ≡ true) (IsApart desk) (IsApart (asked desk request)) stay
        (λ s stays apart input on label. none_on input.port (apart input on label) (other s stays input on (is_delete_all input.port request) refl))
        (filter_passes (λ (s : Standing). not (withdraws request s.request)) desk.standing) (staying (IsApart desk) h.apart)
      where
        other : (s : Standing) → not (withdraws request s.request) ≡ true → (input : End) → request_input s.request ≡ Some input → (b : Bool) → is_delete_all input.port request ≡ b → is_delete_all input.port request ≡ false
        other s stays input on true is = absurd (stays_false (withdraws request s.request) stays (withdrawn_on request s.request input on is))
        other s stays input on false is = is

    all_apart : ((input : End) → request_input request ≡ Some input → IsLinkInput input → all_on desk input.port ≡ false) → Every (IsApart (asked desk request)) (stay ++ one ∷ [])
    all_apart own = every_join (IsApart (asked desk request)) stay (one ∷ []) stay_apart
        ((λ input on label. none_on input.port (own input on label) (of_input_deletes request input input.port on)), tt)

    unlent_more : stands_unlent ports one ≡ false → count_of (stands_unlent ports) (stay ++ one ∷ []) ≤ most_asked
    unlent_more none = omega (arith, count_more (stands_unlent ports) stay one, count_filter (stands_unlent ports) (λ (s : Standing). not (withdraws request s.request)) desk.standing, one_none (stands_unlent ports one) none, h.unlent)

    one_more : is_all_ports one ≡ false → count_of is_all_ports (stay ++ one ∷ []) ≤ 1
    one_more none = omega (arith, count_more is_all_ports stay one, count_filter is_all_ports (λ (s : Standing). not (withdraws request s.request)) desk.standing, one_none (is_all_ports one) none, h.one)

  unlent_on : (request : Request) (input : End) → request_input request ≡ Some input → (b : Bool) → is_unlent ports input ≡ b → stands_unlent ports (record { number = desk.next; request = request }) ≡ b
  unlent_on request input on b is = ap (λ (o : Option End). option_map_or (is_unlent ports) o false) on ∙ is

  unlent_default : (input : End) → is_default input ≡ true → is_unlent ports input ≡ false
  unlent_default input is = ap (λ (t : Bool). not t && not (is_lent ports input)) is

  and_false : (a b : Bool) → b ≡ false → (a && b) ≡ false
  and_false true b e = e
  and_false false b e = refl

  unlent_lent : (input : End) → is_lent ports input ≡ true → is_unlent ports input ≡ false
  unlent_lent input is = and_false (not (is_default input)) (not (is_lent ports input)) (ap not is)

  room_count : (n : ℕ) → nat_lt n most_asked ≡ true → n + 1 ≤ most_asked
  room_count n e = grind (arith, nat_tests)

  asked_unlent : (request : Request) (input : End) → request_input request ≡ Some input → HasPlace input → IsOrder ports has_met desk
      → count_of (stands_unlent ports) (asked desk request).standing ≤ most_asked
  asked_unlent request input on (for_default is) h = unlent_more request h (unlent_on request input on false (unlent_default input is))
  asked_unlent request input on (with_room room) h =
      let rest : List Standing = filter (λ (s : Standing). not (withdraws request s.request)) desk.standing in
      let one : Standing = record { number = desk.next; request = request } in
      omega (
        arith,
        count_more (stands_unlent ports) rest one,
        count_most (stands_unlent ports) rest,
        length_filter (λ (s : Standing). not (withdraws request s.request)) desk.standing,
        one_most (stands_unlent ports one),
        room_count (length desk.standing) room,
      )
  asked_unlent request input on (to_free is) h = unlent_more request h (unlent_on request input on false (unlent_lent input is))

  same_end_is : (a b : End) → same_end a b ≡ true → a ≡ b
  same_end_is a b e = grind (arith, nat_tests)

  placed_unlent : (input : End) → on_input desk input ≡ true → IsOrder ports has_met desk → count_of (stands_unlent ports) (asked desk (DeleteTree input)).standing ≤ most_asked
  placed_unlent input on h =
      let rest : List Standing = filter (λ (s : Standing). not (is_on input s.request)) desk.standing in
      omega (
        arith,
        count_more (stands_unlent ports) rest (record { number = desk.next; request = DeleteTree input }),
        count_replaced (stands_unlent ports) (λ (s : Standing). is_on input s.request) (is_unlent ports input) (λ s is. same s (request_input s.request) refl is) desk.standing on,
        h.unlent,
      )
    where
      same : (s : Standing) (o : Option End) → request_input s.request ≡ o → option_map_or (same_end input) o false ≡ true → stands_unlent ports s ≡ is_unlent ports input
      same s None is e = absurd (cc e)
      same s (Some other) is e = ap (λ (o : Option End). option_map_or (is_unlent ports) o false) is ∙ ap (is_unlent ports) (sym (same_end_is input other e))

  pub asked_order : (request : Request) → MayAsk request → IsOrder ports has_met desk → IsOrder ports has_met (asked desk request)
  asked_order request (of_all none unmet) h = record {
    joined = h.joined;
    meeting = λ e. subst (λ (xs : List Standing). IsMeeting (filter (λ (s : Standing). not (withdraws AllPorts s.request)) xs ++ record { number = desk.next; request = AllPorts } ∷ [])) (sym none)
        (listing (record { number = desk.next; request = AllPorts }) refl);
    met = λ e. absurd (not_both has_met e unmet);
    clearing = λ e. absurd (not_both has_met e unmet);
    apart = all_apart AllPorts h (λ input on. absurd (cc on));
    moves = more AllPorts h (MovesLent ports) h.moves tt;
    unlent = unlent_more AllPorts h refl;
    one = subst (λ (xs : List Standing). count_of is_all_ports (filter (λ (s : Standing). not (withdraws AllPorts s.request)) xs ++ record { number = desk.next; request = AllPorts } ∷ []) ≤ 1) (sym none) (omega arith);
  }
  asked_order request (of_meeting port unmet deleting) h = record {
    joined = h.joined;
    meeting = λ e. emptying _ (more (DeleteAll port) h (λ (s : Standing). IsDeleting s.request) deleting tt);
    met = λ e. absurd (not_both has_met e unmet);
    clearing = λ e. absurd (not_both has_met e unmet);
    apart = all_apart (DeleteAll port) h (λ input on. absurd (cc on));
    moves = more (DeleteAll port) h (MovesLent ports) h.moves tt;
    unlent = unlent_more (DeleteAll port) h refl;
    one = one_more (DeleteAll port) h refl;
  }
  asked_order request (of_reset port is at_port) h = record {
    joined = h.joined;
    meeting = λ e. absurd (not_both has_met is e);
    met = λ e. more (DeleteAll port) h (λ (s : Standing). IsOther s.request) (h.met e) tt;
    clearing = λ e. more (DeleteAll port) h (IsOfClearing ports) (h.clearing e) (λ other deletes. subst (IsClearingAt ports) (same_number port other (number_is port.0 other.0 deletes)) at_port);
    apart = all_apart (DeleteAll port) h (λ input on. absurd (cc on));
    moves = more (DeleteAll port) h (MovesLent ports) h.moves tt;
    unlent = unlent_more (DeleteAll port) h refl;
    one = one_more (DeleteAll port) h refl;
  }
    where
      number_is : (a b : ℕ) → (a == b) ≡ true → a ≡ b
      number_is a b e = grind (arith, nat_tests)
  asked_order request (of_input other input on is apart place lent) h = record {
    joined = h.joined;
    meeting = λ e. absurd (not_both has_met is e);
    met = λ e. more other h (λ (s : Standing). IsOther s.request) (h.met e) (of_input_other other input on);
    clearing = λ e. more other h (IsOfClearing ports) (h.clearing e) (λ port deletes. absurd (not_both (is_delete_all port other) deletes (of_input_deletes other input port on)));
    apart = all_apart other h (λ i there label. (let both : Some i ≡ Some input = sym there ∙ on in let same : i ≡ input = cc in
        subst (λ (x : End). all_on desk x.port ≡ false) (sym same) (apart (subst IsLinkInput same label))));
    moves = more other h (MovesLent ports) h.moves lent;
    unlent = asked_unlent other input on place h;
    one = one_more other h (of_input_listing (record { number = desk.next; request = other }) input on);
  }
  asked_order request (in_place input is apart on) h = record {
    joined = h.joined;
    meeting = λ e. absurd (not_both has_met is e);
    met = λ e. more (DeleteTree input) h (λ (s : Standing). IsOther s.request) (h.met e) tt;
    clearing = λ e. more (DeleteTree input) h (IsOfClearing ports) (h.clearing e) (λ port deletes. absurd (cc deletes));
    apart = all_apart (DeleteTree input) h (λ i there label. (let both : Some i ≡ Some input = sym there in let same : i ≡ input = cc in
        subst (λ (x : End). all_on desk x.port ≡ false) (sym same) (apart (subst IsLinkInput same label))));
    moves = more (DeleteTree input) h (MovesLent ports) h.moves tt;
    unlent = placed_unlent input on h;
    one = one_more (DeleteTree input) h refl;
  }

  -- *Some end*
  part_meeting : (test : Standing → Bool) (standing : List Standing) → IsMeeting standing → IsMeeting (filter test standing)
  part_meeting test _ (listing s is) = on_both IsMeeting (test s) (s ∷ []) [] (listing s is) (emptying [] tt)
  part_meeting test standing (emptying _ deleting) = emptying (filter test standing) (every_part (λ (s : Standing). IsDeleting s.request) (part_filtered test standing) deleting)

  pub fewer_order : (test : Standing → Bool) → IsOrder ports has_met desk → IsOrder ports has_met (record desk { standing = filter test desk.standing })
  fewer_order test h = record {
    joined = h.joined;
    meeting = λ e. part_meeting test desk.standing (h.meeting e);
    met = λ e. every_part (λ (s : Standing). IsOther s.request) (part_filtered test desk.standing) (h.met e);
    clearing = λ e. every_part (IsOfClearing ports) (part_filtered test desk.standing) (h.clearing e);
    apart = every_map (IsApart desk) (IsApart (record desk { standing = filter test desk.standing })) (filter test desk.standing)
        (λ s apart input on label. any_filter (λ (x : Standing). is_delete_all input.port x.request) test desk.standing (apart input on label))
        (every_part (IsApart desk) (part_filtered test desk.standing) h.apart);
    moves = every_part (MovesLent ports) (part_filtered test desk.standing) h.moves;
    unlent = omega (arith, count_filter (stands_unlent ports) test desk.standing, h.unlent);
    one = omega (arith, count_filter is_all_ports test desk.standing, h.one);
  }

  pub answered_order : (answer : Answered) → IsOrder ports has_met desk → IsOrder ports has_met (after_answer desk answer)
  answered_order Unknown h = h
  answered_order (Done s) h = fewer_order (λ (other : Standing). not (other.number == s.number)) h
  answered_order (Ports s rows) h = (let k : IsOrder ports has_met (record desk { standing = filter (λ (other : Standing). not (other.number == s.number)) desk.standing }) = fewer_order (λ (other : Standing). not (other.number == s.number)) h in
      record { joined = k.joined; meeting = k.meeting; met = k.met; clearing = k.clearing; apart = k.apart; moves = k.moves; unlent = k.unlent; one = k.one })
  answered_order (Failed s code) h = fewer_order (λ (other : Standing). not (other.number == s.number)) h

-- *Nothing stands*
pub empty_order : (ports : List Linked) (has_met : Bool) (desk : Desk) → desk.standing ≡ [] → Every (HasLentLabels ports) ports → IsOrder ports has_met desk
empty_order ports has_met desk none joined = record {
  joined = joined;
  meeting = λ e. subst IsMeeting (sym none) (emptying [] tt);
  met = λ e. subst (Every (λ (s : Standing). IsOther s.request)) (sym none) tt;
  clearing = λ e. subst (Every (IsOfClearing ports)) (sym none) tt;
  apart = subst (Every (IsApart desk)) (sym none) tt;
  moves = subst (Every (MovesLent ports)) (sym none) tt;
  unlent = subst (λ (xs : List Standing). count_of (stands_unlent ports) xs ≤ most_asked) (sym none) (omega arith);
  one = subst (λ (xs : List Standing). count_of is_all_ports xs ≤ 1) (sym none) (omega arith);
}

-- *A port changes*: what is lent to an input that is kept stays lent, and each label that is joined, and each
-- request that stands, is on an input that is kept
module _ (ports : List Linked) (has_met : Bool) (desk : Desk) (linked after : Linked) (found : at port_key (port_key linked) ports ≡ Some linked) (same : port_key after ≡ port_key linked)
    (IsKept : End → Type 0) where
  abbrev now : List Linked
  now = put port_key after ports

  abbrev pub HasKeptLabels : Linked → Type 0
  HasKeptLabels x = Every (λ (label : Label). (output : End) → label.join ≡ Some output → IsKept (label_end x.setup.port label.number)) (labels_of x.port)

  abbrev pub IsKeptStanding : Standing → Type 0
  IsKeptStanding s = (input : End) → request_input s.request ≡ Some input → IsKept input

  pub placed_order : ((input : End) → IsKept input → is_lent ports input ≡ true → is_lent now input ≡ true) → HasLentLabels now after
      → Every HasKeptLabels ports → Every IsKeptStanding desk.standing
      → ((linked.port.adjacency.state ≡ Clearing → after.port.adjacency.state ≡ Clearing) ⊎ (all_on desk after.setup.port ≡ false))
      → IsOrder ports has_met desk → IsOrder now has_met desk
  placed_order keeps own kept standing clears h = record {
    joined = put_every port_key (HasLentLabels now) after ports own (every_map2 HasKeptLabels (HasLentLabels ports) (HasLentLabels now) ports still kept h.joined);
    meeting = h.meeting;
    met = h.met;
    clearing = λ e. clearing_now clears (h.clearing e);
    apart = h.apart;
    moves = every_map2 IsKeptStanding (MovesLent ports) (MovesLent now) desk.standing (λ s k l. moved_lent s k s.request refl l) standing h.moves;
    unlent = omega (arith, count_within IsKeptStanding (stands_unlent now) (stands_unlent ports) (λ s k. one_leads (stands_unlent now s) (stands_unlent ports s) (unlent_before s k (request_input s.request) refl)) desk.standing standing, h.unlent);
    one = h.one;
  }
    where
      still : (x : Linked) → HasKeptLabels x → HasLentLabels ports x → HasLentLabels now x
      still x k l = every_map2 (λ (label : Label). (output : End) → label.join ≡ Some output → IsKept (label_end x.setup.port label.number)) (IsLentTo ports x) (IsLentTo now x) (labels_of x.port)
          (λ label kept lent output joined. keeps (label_end x.setup.port label.number) (kept output joined) (lent output joined)) k l

      moved_lent : (s : Standing) → IsKeptStanding s → (request : Request) → s.request ≡ request → IsLentMove ports request → IsLentMove now request
      moved_lent s k (AddBranch i output) is l = tt
      moved_lent s k (MoveBranch i from to) is l = keeps i (k i (ap request_input is)) l
      moved_lent s k (DeleteTree i) is l = tt
      moved_lent s k (VerifyTree i) is l = tt
      moved_lent s k (DeleteAll port) is l = tt
      moved_lent s k (PortManagement port function) is l = tt
      moved_lent s k AllPorts is l = tt

      unlent_both : (default was is : Bool) → (was ≡ true → is ≡ true) → (not default && not is) ≡ true → (not default && not was) ≡ true
      unlent_both true was is leads e = e
      unlent_both false true is leads e = absurd (cc (sym (ap not (leads refl)) ∙ e))
      unlent_both false false is leads e = refl

      unlent_before : (s : Standing) → IsKeptStanding s → (o : Option End) → request_input s.request ≡ o → stands_unlent now s ≡ true → stands_unlent ports s ≡ true
      unlent_before s k None on e = absurd (cc (sym (ap (λ (o : Option End). option_map_or (is_unlent now) o false) on) ∙ e))
      unlent_before s k (Some input) on e = ap (λ (o : Option End). option_map_or (is_unlent ports) o false) on
          ∙ unlent_both (is_default input) (is_lent ports input) (is_lent now input) (keeps input (k input on)) (sym (ap (λ (o : Option End). option_map_or (is_unlent now) o false) on) ∙ e)

      at_after : at port_key (port_key after) ports ≡ Some linked
      at_after = subst (λ n. at port_key n ports ≡ Some linked) (sym same) found

      moved : (port : PortNo) → (port_key after ≡ port.0 → after.port.adjacency.state ≡ Clearing) → IsClearingAt ports port → IsClearingAt now port
      moved port own c = by_eq (port_key after) port.0
          (λ is t. record { linked = after; found = subst (λ n. at port_key n now ≡ Some after) is (at_put_same port_key after ports linked at_after); clearing = own is })
          (λ other t. record { linked = c.linked; found = at_put_other port_key after port.0 ports other ∙ c.found; clearing = c.clearing })

      was_clearing : (port : PortNo) → port_key after ≡ port.0 → IsClearingAt ports port → linked.port.adjacency.state ≡ Clearing
      was_clearing port is c = (let both : Some c.linked ≡ Some linked = sym c.found ∙ subst (λ n. at port_key n ports ≡ Some linked) is at_after in let one : c.linked ≡ linked = cc in
          subst (λ (x : Linked). x.port.adjacency.state ≡ Clearing) one c.clearing)

      differs : (b : Bool) → b ≡ true → b ≡ false → ⊥
      differs b t f = absurd (cc (sym t ∙ f))

      clearing_now : ((linked.port.adjacency.state ≡ Clearing → after.port.adjacency.state ≡ Clearing) ⊎ (all_on desk after.setup.port ≡ false)) → Every (IsOfClearing ports) desk.standing → Every (IsOfClearing now) desk.standing
      clearing_now (inl stays) all = every_map (IsOfClearing ports) (IsOfClearing now) desk.standing (λ s c port deletes. moved port (λ is. stays (was_clearing port is (c port deletes))) (c port deletes)) all
      clearing_now (inr none) all = every_map2 (λ (s : Standing). is_delete_all after.setup.port s.request ≡ false) (IsOfClearing ports) (IsOfClearing now) desk.standing
          (λ s never c port deletes. moved port (λ is. absurd (differs (is_delete_all port s.request) deletes (sym (same_deletes after.setup.port port s.request is) ∙ never))) (c port deletes))
          (any_each (λ (s : Standing). is_delete_all after.setup.port s.request) desk.standing none) all
