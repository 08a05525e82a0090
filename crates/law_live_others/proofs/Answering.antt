-- what answers of the switch leave of a settled port

use Rattle.std.proofs.Common.{◌≡◌, ◌≢◌, ℕ, ◌<◌, Bool, true, false, List, [], ◌∷◌, Option, None, Some, refl, sym, ◌∙◌, ap, subst, arith, if◌then◌else◌, fold, map, length}
use Rattle.std.specs.Prelude.{◌==◌, ◌&&◌, nat_eq, flat_map}
use Rattle.std.specs.Option.{option_map}
use Rattle.std.proofs.lemmas.Bool.Decides.{nat_tests}
use Rattle.world_model.specs.Words.{PortNo, End, number_of_channel, label_number_of, is_clearing, RouteChange, Routes, Request, AddBranch, MoveBranch, DeleteTree, VerifyTree, PortManagement, Part, is_estab, changed, at, put, same_end, empty_desk, Setup, Label, LabelState, Offered, Wiring, Wired, Recalled, label_number, label_at, label_by, labels_of, Grant, GrantState, Idle, ByController, ByInput, Leaving, grant_label, grant_on, is_leaving, Work, halts, halts_if_spent, with_grant, joins_label, bound, bound_in, freed, freed_in, started, started_in, joined_to, given_back_in, Linked, linked_at, port_key, with_linked, with_desk, asks, begins, at_port, join_to, joins_at, end_le, joins_of, join_of, parts, gives_back, releases_join, releases_input, released_inputs, resets_spent, releases, up_ports, empties, meets, default_branches, ends_meeting, has_emptied, tells_port, behind_delete_all, causes_in_estab, causes, may_clear, awaits_nothing, clears_of, clears_port, clears, changed_joins, takes_join_back, begins_change, takes_change, may_take, takes_each, takes_changes, default_end, default_home, Desk, Answered, Unknown, Done, Ports, Failed, answered, after_answer, takes_answer, answer_comes}
use Rattle.world_model.specs.Controller.{Acted, Controller, ports_of, note}
use Rattle.world_model.specs.Joins.{Join, output_joined}
use Rattle.world_model.specs.Meeting.{request_port, takes_success, answers_desk}
use Rattle.world_model.specs.gsmp_wire.declared.message.Message.{Message}
use Rattle.world_model.specs.gsmp_wire.declared.request.Request.TheVariants.{DeleteAll, AllPorts}
use Rattle.world_model.specs.link_model.declared.record.Record.TheVariants as records
use Rattle.world_model.specs.port_model.declared.action.Action.TheVariants as actions
use Rattle.world_model.specs.port_model.Answers as port_answers
use Rattle.world_model.specs.port_model.Grants.{lent_input}
use Rattle.world_model.specs.port_model.Joins as port_joins
use Rattle.world_model.specs.port_model.Messages.{is_up}
use Rattle.world_model.specs.port_model.Port.{Port}
use Rattle.world_model.specs.port_model.Resets.{cleared}
use Rattle.law_port_facts.specs.ordered_lists.Ordered.{Every, InOrder}
use Rattle.law_port_facts.proofs.ordered_lists.Every.{every_all, every_map}
use Rattle.law_port_facts.proofs.ordered_lists.InOrder.{order_map}
use Rattle.law_port_facts.proofs.Keyed.{on_both, on_each, at_key, at_every, by_eq, each_found, map_put}
use Rattle.law_port_facts.proofs.Found.{find_every}
use Rattle.law_controller_facts.proofs.Joining.{every_flat_map, every_filter_map, every_in_order}
use Rattle.law_live_links.specs.Law.{EndOfLink}
use Rattle.law_live_unseen.specs.Law.{SeenGrant, seen_grant, AreAlike}
use Rattle.law_live_unseen.proofs.Rules.{labels_are_parted_unseen, grants_are_started_unseen}
use Rattle.law_live_ports.proofs.Keeping.{alike_itself}
use Rattle.law_live_others.specs.Law.{IsAlikeAt, IsUp, IsSettled}
use Rattle.law_live_others.proofs.Leaving.{Terms, never, Leaves, leaves_same, leaves_then, leaves_fold, leaves_put, under}
use Rattle.law_live_others.proofs.Working.{IsAct, IsUnseen, own_place, node_leaves, asks_leaves, back_leaves, other_leaves, rule_leaves}
use Rattle.law_live_others.proofs.Settling.{ArePlaced, settled, settled_alike}

-- *A grant is put* in the place of one that is seen alike, among grants that are
puts_seen : (after : Grant) (grants : List Grant) → map seen_grant (put grant_label after grants) ≡ put (λ (s : SeenGrant). s.label) (seen_grant after) (map seen_grant grants)
puts_seen after [] = refl
puts_seen after (grant ∷ grants) = by (nat_eq grant.label after.label) (puts_seen after grants)
  where
    by : (b : Bool) → map seen_grant (put grant_label after grants) ≡ put (λ (s : SeenGrant). s.label) (seen_grant after) (map seen_grant grants)
        → map seen_grant (if b then after ∷ grants else grant ∷ put grant_label after grants)
        ≡ (if b then seen_grant after ∷ map seen_grant grants else seen_grant grant ∷ put (λ (s : SeenGrant). s.label) (seen_grant after) (map seen_grant grants))
    by true e = refl
    by false e = ap (λ seen. seen_grant grant ∷ seen) e

grant_put_alike : (before grants : List Grant) (grant after : Grant) → map seen_grant grants ≡ map seen_grant before → at grant_label after.label before ≡ Some grant → seen_grant after ≡ seen_grant grant
    → map seen_grant (put grant_label after grants) ≡ map seen_grant grants
grant_put_alike before grants grant after same there seen =
    puts_seen after grants ∙ (ap (put (λ (s : SeenGrant). s.label) (seen_grant after)) same
    ∙ (sym (puts_seen after before) ∙ (map_put grant_label seen_grant after before grant there seen ∙ sym same)))

-- *A join to the port* is to a grant that it has
abbrev IsOurs : PortNo → Port → Join → Type 0
IsOurs port p join = join.port.0 ≡ port.0 → at grant_label join.grant.label p.grants ≡ Some join.grant

-- what a join is made of
pub record IsMadeOf (port : PortNo) (grant : Grant) (join : Join) : Type 0 where
  pub own_port : join.port ≡ port
  pub own_grant : join.grant ≡ grant

join_made : (port : PortNo) (grant : Grant) (join : Join) → join_to port grant ≡ Some join → IsMadeOf port grant join
join_made port grant join e = by (lent_input grant.state) e
  where
    one : (x y : Join) → Some x ≡ Some y → x ≡ y
    one x y e = cc

    led : End → Join
    led input = record { input = input; port = port; grant = grant }

    by : (o : Option End) → option_map led o ≡ Some join → IsMadeOf port grant join
    by None e = absurd (cc e)
    by (Some input) e = record {
      own_port = ap (λ (x : Join). x.port) (sym (one (led input) join e));
      own_grant = ap (λ (x : Join). x.grant) (sym (one (led input) join e));
    }

module _ (c : Controller) (port : PortNo) (linked : Linked) (placed : ArePlaced c.ports) (found : linked_at c port ≡ Some linked) (is : IsSettled linked.port) where
  one_linked : (x y : Linked) → Some x ≡ Some y → x ≡ y
  one_linked x y e = cc

  -- there is one port of its number
  abbrev IsItself : Linked → Type 0
  IsItself x = port_key x ≡ port.0 → x ≡ linked

  each_itself : Every IsItself c.ports
  each_itself = every_map (λ (x : Linked). at port_key (port_key x) c.ports ≡ Some x) IsItself c.ports
      (λ x there same. one_linked x linked (sym there ∙ (ap (λ k. at port_key k c.ports) same ∙ found)))
      (each_found port_key c.ports (order_map (λ (x y : Linked). port_key x < port_key y) (λ (x y : Linked). port_key x ≢ port_key y) (λ (x : Linked). Unit {0}) c.ports
      (λ x y here there less. differ (port_key x) (port_key y) less) (every_all (λ (x : Linked). Unit {0}) c.ports (λ x. tt)) placed))
    where
      differ : (m n : ℕ) → m < n → m ≢ n
      differ m n less same = omega (arith, less, same)

  own_joins : Every (IsOurs port linked.port) (joins_at linked)
  own_joins = every_filter_map (λ (g : Grant). at grant_label (grant_label g) linked.port.grants ≡ Some g) (IsOurs port linked.port) (join_to linked.setup.port)
      (λ grant there join e same. subst (λ (g : Grant). at grant_label g.label linked.port.grants ≡ Some g) (sym (join_made linked.setup.port grant join e).own_grant) there)
      linked.port.grants (each_found grant_label linked.port.grants is.apart)

  joins_here : (x : Linked) → IsItself x → Every (IsOurs port linked.port) (joins_at x)
  joins_here x itself = by_eq (port_key x) port.0
      (λ same tested. subst (λ (l : Linked). Every (IsOurs port linked.port) (joins_at l)) (sym (itself same)) own_joins)
      (λ differs tested. every_filter_map (λ (g : Grant). Unit {0}) (IsOurs port linked.port) (join_to x.setup.port)
      (λ grant there join e same. absurd (differs (ap (λ (p : PortNo). p.0) (sym (join_made x.setup.port grant join e).own_port) ∙ same)))
      x.port.grants (every_all (λ (g : Grant). Unit {0}) x.port.grants (λ g. tt)))

  pub join_ours : (input : End) (join : Join) → join_of c input ≡ Some join → IsOurs port linked.port join
  join_ours input join e = find_every (IsOurs port linked.port) (λ (j : Join). same_end j.input input) (joins_of c) join
      (every_in_order (IsOurs port linked.port) (λ (x : Join) (y : Join). end_le x.input y.input) (flat_map joins_at c.ports)
      (every_flat_map IsItself (IsOurs port linked.port) joins_at joins_here c.ports each_itself)) e

-- *A port at work*
module _ (setup : Setup) (p : Port) (instances : ℕ) where
  abbrev w : Work
  w = record { port = p; actions = []; halted = false; instances = instances }

  abbrev one_end : EndOfLink
  one_end = record { setup = setup; port = p; said = [] }

  idle_unseen : IsUnseen p w
  idle_unseen = record { alike = alike_itself p; acts = tt }

  -- a label is parted
  parted_unseen : (number : ℕ) → IsUnseen p (port_joins.parted w number)
  parted_unseen number = record { alike = labels_are_parted_unseen instances one_end number; acts = by (label_at p number) }
    where
      by : (o : Option Label) → Every IsAct (joins_label w None o).actions
      by None = tt
      by (Some label) = tt

  -- a grant is given back, that the port had as one that wasn't leaving
  given_unseen : (before : Port) → AreAlike before p → IsSettled before → (grant : Grant) → at grant_label grant.label before.grants ≡ Some grant → IsUnseen p (port_joins.given_back w grant)
  given_unseen before alike is grant there = in_state grant.state refl
    where
      stays : is_leaving grant.state ≡ false
      stays = at_every grant_label (λ (g : Grant). is_leaving g.state ≡ false) grant.label before.grants grant is.grants there

      in_state : (state : GrantState) → grant.state ≡ state → IsUnseen p (given_back_in w grant state)
      in_state Idle e = idle_unseen
      in_state ByController e = idle_unseen
      in_state (ByInput input) e = record {
        alike = record {
          adjacency = refl;
          in_session = refl;
          number = refl;
          expected = refl;
          labels = refl;
          grants = grant_put_alike before.grants p.grants grant (record grant { state = ByController }) alike.grants there
              (λ i. record { label = grant.label; flow = grant.flow; lifetime = grant.lifetime; leaving = sym stays i });
        };
        acts = tt;
      }
      in_state (Leaving input owed) e = absurd (cc (sym (ap is_leaving e) ∙ stays))

  -- its numbers aren't spent
  spent_unseen : IsSettled p → IsUnseen p (halts_if_spent w)
  spent_unseen is = subst (λ (b : Bool). IsUnseen p (if b then halts w else w)) (sym is.unspent) idle_unseen

  -- *A success*: a label is offered already; a grant is started
  label_offered : IsSettled p → (number : ℕ) (label : Label) → label_at p number ≡ Some label → label.state ≡ Offered
  label_offered is number label found = at_every label_number (λ (l : Label). l.state ≡ Offered) number (labels_of p) label is.labels found

  bound_unseen : IsSettled p → (number : Option ℕ) → IsUnseen p (bound setup w (label_by p number))
  bound_unseen is None = idle_unseen
  bound_unseen is (Some number) = by (label_at p number) refl
    where
      by : (o : Option Label) → label_at p number ≡ o → IsUnseen p (bound setup w o)
      by None found = idle_unseen
      by (Some label) found = subst (λ (s : LabelState). IsUnseen p (bound_in setup w label s)) (sym (label_offered is number label found)) idle_unseen

  freed_unseen : IsSettled p → (number : Option ℕ) → IsUnseen p (freed setup w (label_by p number))
  freed_unseen is None = idle_unseen
  freed_unseen is (Some number) = by (label_at p number) refl
    where
      by : (o : Option Label) → label_at p number ≡ o → IsUnseen p (freed setup w o)
      by None found = idle_unseen
      by (Some label) found = subst (λ (s : LabelState). IsUnseen p (freed_in setup w label s)) (sym (label_offered is number label found)) idle_unseen

  started_unseen : (number : Option ℕ) → IsUnseen p (started w (grant_on p.grants number))
  started_unseen None = idle_unseen
  started_unseen (Some number) = record { alike = grants_are_started_unseen instances one_end number; acts = by (at grant_label number p.grants) }
    where
      in_state : (grant : Grant) (state : GrantState) → Every IsAct (started_in w grant state).actions
      in_state grant Idle = tt
      in_state grant ByController = tt
      in_state grant (ByInput input) = tt
      in_state grant (Leaving input owed) = tt

      by : (o : Option Grant) → Every IsAct (started w o).actions
      by None = tt
      by (Some grant) = in_state grant grant.state

  done_unseen : IsSettled p → (request : Request) → IsUnseen p (port_answers.done setup w request)
  done_unseen is (AddBranch input output) = on_both (IsUnseen p) (input.port.0 == 0) (started w (grant_on p.grants (label_number_of output.channel))) (bound setup w (label_by p (label_number_of input.channel)))
      (started_unseen (label_number_of output.channel)) (bound_unseen is (label_number_of input.channel))
  done_unseen is (MoveBranch input from to) = by (to.port.0 == 0)
    where
      by : (b : Bool) → IsUnseen p (if b then w else record w { actions = actions.Note (records.Join setup.node setup.port (number_of_channel input.channel) to.port (number_of_channel to.channel)) ∷ [] })
      by true = idle_unseen
      by false = record { alike = alike_itself p; acts = (tt, tt) }
  done_unseen is (DeleteTree input) = freed_unseen is (label_number_of input.channel)
  done_unseen is (VerifyTree input) = idle_unseen
  done_unseen is (DeleteAll q) = idle_unseen
  done_unseen is (PortManagement q function) = idle_unseen
  done_unseen is AllPorts = idle_unseen

-- *A join is parted*
parts_leaves : (t : Terms) (a : Acted) (input : End) → Leaves t a (parts a input)
parts_leaves t a input =
    let b : Acted = note a (Part a.controller.node input.port (number_of_channel input.channel)) in
    leaves_then t a b (parts a input) (leaves_same t a b refl refl refl)
    (rule_leaves t b input.port (λ setup desk v. port_joins.parted v (number_of_channel input.channel)) (λ l found key is. parted_unseen l.setup l.port b.numbers.instances (number_of_channel input.channel)))

module _ (port : PortNo) where
  abbrev t : Terms
  t = settled port

  abbrev gives : Join → Setup → Desk → Work → Work
  gives join setup desk v = port_joins.given_back v join.grant

  -- *A join is released*
  given_leaves : (a : Acted) (input : End) (join : Join) → join_of a.controller input ≡ Some join → Leaves t a (gives_back (parts a join.input) join)
  given_leaves a input join is = under t a (gives_back b join)
      (leaves_then (never t) a b (gives_back b join) (parts_leaves (never t) a join.input) any)
      (λ up linked placed found settled_here. leaves_then t a b (gives_back b join) (parts_leaves t a join.input)
      (rule_leaves t b join.port (gives join) (unseen linked placed found settled_here ((parts_leaves t a join.input).left (any.up up) placed linked found settled_here))))
    where
      b : Acted
      b = parts a join.input

      any : Leaves (never t) b (gives_back b join)
      any = other_leaves (never t) b join.port (gives join) (λ same x none. none)

      one : (x y : Linked) → Some x ≡ Some y → x ≡ y
      one x y e = cc

      unseen : (linked : Linked) → ArePlaced a.controller.ports → linked_at a.controller port ≡ Some linked → IsSettled linked.port → IsAlikeAt linked (linked_at b.controller port)
          → (l : Linked) → linked_at b.controller join.port ≡ Some l → port_key l ≡ port.0 → IsSettled l.port → IsUnseen l.port (gives join l.setup b.controller.desk (begins b l))
      unseen linked placed found settled_here like l here key settled_now =
          given_unseen l.setup l.port b.numbers.instances linked.port (subst (λ (x : Linked). AreAlike linked.port x.port) same like.alike) settled_here join.grant
          (join_ours a.controller port linked placed found settled_here input join is number)
        where
          number : join.port.0 ≡ port.0
          number = sym (at_key port_key join.port.0 b.controller.ports l here) ∙ key

          same : like.after ≡ l
          same = one like.after l (sym like.there ∙ (ap (λ k. at port_key k b.controller.ports) (sym number) ∙ here))

  input_leaves : (a : Acted) (input : End) → Leaves t a (releases_input a input)
  input_leaves a input = by (join_of a.controller input) refl
    where
      by : (o : Option Join) → join_of a.controller input ≡ o → Leaves t a (releases_join a o)
      by None is = leaves_same t a a refl refl refl
      by (Some join) is = given_leaves a input join is

  spent_leaves : (a : Acted) (q : PortNo) → Leaves t a (resets_spent a q)
  spent_leaves a q = rule_leaves t a q (λ setup desk v. halts_if_spent v) (λ l found key is. spent_unseen l.setup l.port a.numbers.instances is)

  releases_leaves : (a : Acted) (request : Request) → Leaves t a (releases a request)
  releases_leaves a request =
      let released : Acted = fold releases_input a (released_inputs a.controller request) in
      leaves_then t a released (releases a request) (leaves_fold t releases_input input_leaves (released_inputs a.controller request) a)
      (leaves_fold t resets_spent spent_leaves (ports_of released.controller) released)

  -- *What a success causes*
  all_asked : (requests : List Request) (a : Acted) → Leaves t a (fold asks a requests)
  all_asked requests a = leaves_fold t asks (asks_leaves t) requests a

  meeting_ends : (a : Acted) → Leaves t a (ends_meeting a)
  meeting_ends a =
      let met : Acted = record a { controller = record a.controller { has_met = true } } in
      leaves_then t a met (ends_meeting a) (leaves_same t a met refl refl refl) (all_asked (flat_map default_branches (up_ports a.controller)) met)

  behind_leaves : (a : Acted) (q : PortNo) → Leaves t a (behind_delete_all a q)
  behind_leaves a q = on_both (Leaves t a) a.controller.has_met (asks a (AddBranch (default_end q) (default_home q))) (if has_emptied a.controller then ends_meeting a else a)
      (asks_leaves t a (AddBranch (default_end q) (default_home q)))
      (on_both (Leaves t a) (has_emptied a.controller) (ends_meeting a) a (meeting_ends a) (leaves_same t a a refl refl refl))

  tells_leaves : (a : Acted) (request : Request) (o : Option PortNo) → Leaves t a (tells_port a request o)
  tells_leaves a request None = leaves_same t a a refl refl refl
  tells_leaves a request (Some q) = rule_leaves t a q (λ setup desk v. port_answers.done setup v request) (λ l found key is. done_unseen l.setup l.port a.numbers.instances is request)

  caused_leaves : (a : Acted) (request : Request) → Leaves t a (causes_in_estab a request)
  caused_leaves a (DeleteAll q) = behind_leaves a q
  caused_leaves a (AddBranch input output) = tells_leaves a (AddBranch input output) (request_port (AddBranch input output))
  caused_leaves a (MoveBranch input from to) = tells_leaves a (MoveBranch input from to) (request_port (MoveBranch input from to))
  caused_leaves a (DeleteTree input) = tells_leaves a (DeleteTree input) (request_port (DeleteTree input))
  caused_leaves a (VerifyTree input) = tells_leaves a (VerifyTree input) (request_port (VerifyTree input))
  caused_leaves a (PortManagement q function) = tells_leaves a (PortManagement q function) (request_port (PortManagement q function))
  caused_leaves a AllPorts = leaves_same t a a refl refl refl

  causes_leaves : (a : Acted) (request : Request) → Leaves t a (causes a request)
  causes_leaves a request = on_both (Leaves t a) (is_estab a.controller.adjacency.state) (causes_in_estab a request) a (caused_leaves a request) (leaves_same t a a refl refl refl)

  -- *A port is cleared* that waits for it, and so not a settled one
  clear_leaves : (a : Acted) (q : PortNo) → Leaves t a (clears_port a q)
  clear_leaves a q = by (linked_at a.controller q) refl
    where
      first : (x y z : Bool) → ((x && y) && z) ≡ true → x ≡ true
      first true y z e = refl
      first false y z e = absurd (cc e)

      by : (o : Option Linked) → linked_at a.controller q ≡ o → Leaves t a (clears_of a o)
      by None found = leaves_same t a a refl refl refl
      by (Some linked) found = on_each (Leaves t a) (may_clear a.controller linked) (with_linked a (record linked { port = cleared linked.port })) a
          (λ may. leaves_put t a (with_linked a (record linked { port = cleared linked.port })) linked (record linked { port = cleared linked.port }) (own_place a q linked found) refl
          (λ same is. absurd (cc (sym (first (is_clearing linked.port.adjacency.state) (length linked.port.grants == 0)
          ((a.controller.has_met && is_up a.controller.desk.rows linked.setup.port) && awaits_nothing a.controller linked.setup.port) may) ∙ is.clear))) refl refl refl)
          (λ no. leaves_same t a a refl refl refl)

  clears_leaves : (a : Acted) → Leaves t a (clears a)
  clears_leaves a = leaves_fold t clears_port clear_leaves (ports_of a.controller) a

  -- *Changes of routes* are begun and taken
  begins_leaves : (a : Acted) (change : RouteChange) → Leaves t a (begins_change a change)
  begins_leaves a change =
      let begun : Acted = record a { controller = record a.controller { is_begun = true } } in
      on_both (Leaves t a) a.controller.is_begun a (fold takes_join_back begun (changed_joins a.controller change)) (leaves_same t a a refl refl refl)
      (leaves_then t a begun (fold takes_join_back begun (changed_joins a.controller change)) (leaves_same t a begun refl refl refl)
      (leaves_fold t takes_join_back (λ b join. back_leaves t b join.input (output_joined join)) (changed_joins a.controller change) begun))

  each_leaves : (changes : List RouteChange) (a : Acted) → Leaves t a (takes_each a changes)
  each_leaves [] a = leaves_same t a a refl refl refl
  each_leaves (change ∷ later) a =
      let begun : Acted = begins_change a change in
      on_both (Leaves t a) (may_take begun.controller change) (takes_each (takes_change begun change later) later) begun
      (leaves_then t a begun (takes_each (takes_change begun change later) later) (begins_leaves a change)
      (leaves_then t begun (takes_change begun change later) (takes_each (takes_change begun change later) later) (leaves_same t begun (takes_change begun change later) refl refl refl)
      (each_leaves later (takes_change begun change later))))
      (begins_leaves a change)

  changes_leaves : (a : Acted) → Leaves t a (takes_changes a)
  changes_leaves a = on_both (Leaves t a) a.controller.has_met (takes_each a a.controller.waiting) a (each_leaves a.controller.waiting a) (leaves_same t a a refl refl refl)

  -- *An answer*
  success_leaves : (a : Acted) (request : Request) → Leaves t a (takes_success a request)
  success_leaves a request =
      let released : Acted = releases a request in
      let caused : Acted = causes released request in
      leaves_then t a released (takes_success a request) (releases_leaves a request)
      (leaves_then t released caused (takes_success a request) (causes_leaves released request)
      (leaves_then t caused (clears caused) (takes_success a request) (clears_leaves caused) (changes_leaves (clears caused))))

  answered_leaves : (a : Acted) (answer : Answered) → Leaves t a (answers_desk a answer)
  answered_leaves a Unknown = leaves_same t a a refl refl refl
  answered_leaves a (Done s) = success_leaves a s.request
  answered_leaves a (Ports s rows) = all_asked (map DeleteAll (record { 0 = 0 } ∷ up_ports a.controller)) a
  answered_leaves a (Failed s code) = node_leaves t a

  pub answer_leaves : (a : Acted) (message : Message) → Leaves t a (answer_comes a message)
  answer_leaves a message =
      let answer : Answered = answered a.controller.desk message in
      let b : Acted = with_desk a (after_answer a.controller.desk answer) in
      leaves_then t a b (answers_desk b answer) (leaves_same t a b refl refl refl) (answered_leaves b answer)
