-- a node that goes on quietly hears a success of a branch or a join: what it makes of it, and what it leaves of a port

use Rattle.std.proofs.Common.{◌≡◌, ◌≢◌, ℕ, ◌≤◌, ◌<◌, ◌==◌, ◌&&◌, Bool, true, false, List, [], ◌∷◌, ◌++◌, append-nil, Option, None, Some, refl, sym, ◌∙◌, ap, subst, arith, if◌then◌else◌, fold, filter, map}
use Rattle.std.specs.Prelude.{nat_eq}
use Rattle.std.proofs.lemmas.Bool.Decides.{nat_tests}
use Rattle.world_model.specs.Words.{PortNo, Peer, Side, End, Request, MoveBranch, is_clearing, is_spent, last_number, at, Done, after_answer, home_of, same_end, halts, halts_if_spent, Linked, linked_at, port_key, with_desk, begins, works, works_as, Rule, at_port, IsLinkPort, default_home, joins_of, releases_input, resets_spent, releases, leads_home, causes_in_estab, causes, clears, takes_changes}
use Rattle.world_model.specs.Controller.{Acted, ports_of}
use Rattle.world_model.specs.Gsmp.{message_comes}
use Rattle.world_model.specs.Joins.{Join}
use Rattle.world_model.specs.Meeting.{takes_success}
use Rattle.world_model.specs.gsmp_wire.declared.message.Message.{Message as GsmpMessage}
use Rattle.world_model.specs.ifmp_wire.declared.message.Message.{Message}
use Rattle.world_model.specs.port_model.Answers as port_answers
use Rattle.law_live_binding_beats.specs.law_port_facts.ordered_lists.Ordered.{Every}
use Rattle.law_live_binding_beats.proofs.law_port_facts.Keyed.{at_key, at_every, put_every, by_eq}
use Rattle.law_live_binding_beats.specs.law_live_nodes.Law.{told_by}
use Rattle.law_live_binding_beats.specs.law_live_links.Law.{number_of}
use Rattle.law_live_binding_beats.proofs.law_live_ports.Keeping.{alike_then}
use Rattle.law_live_binding_beats.specs.law_live_others.Law.{IsAlikeAt, IsUp, LeavesAlike}
use Rattle.law_live_binding_beats.proofs.law_live_others.Leaving.{Leaves}
use Rattle.law_live_binding_beats.proofs.law_live_others.Settling.{anyhow}
use Rattle.law_live_binding_beats.proofs.law_live_others.Working.{IsUnseen, rule_leaves}
use Rattle.law_live_binding_beats.proofs.law_live_numbers.Standing.{IsCalmNow, all_calm}
use Rattle.law_live_binding_beats.specs.law_live_bound.Law.{IsSuccess}
use Rattle.law_live_binding_beats.proofs.law_live_bound.Successes.{spent_left, behind_leaves, told_success}
use Rattle.law_live_brought.specs.Law.{IsQuietNode, IsBranchOrJoin, branch, join, WiresNone, SuccessesAreForOthers}
use Rattle.law_live_brought.proofs.Saying.{Runs, runs_then, runs_same, runs_as, still_up, own_rule, other_rule, all_spent_run, clears_run, changes_none}
use Rattle.law_live_brought.proofs.Doing.{calm_now, done_mild, IsUnheard, told_port, caused_at, none_alike, done_unheard}

-- *No input is released* by it
none_led : (request : Request) → IsBranchOrJoin request → (inputs : List End) → filter (λ (x : End). leads_home x (home_of x) request) inputs ≡ []
none_led request (branch input output) [] = refl
none_led request (branch input output) (x ∷ inputs) = none_led request (branch input output) inputs
none_led request (join input from to away) [] = refl
none_led request (join input from to away) (x ∷ inputs) =
    ap (λ (b : Bool). if b then x ∷ rest else rest) (elsewhere (same_end input x) (to.port.0 == 0) (nat_eq to.channel.vpi (home_of x).channel.vpi && nat_eq to.channel.vci (home_of x).channel.vci) apart)
    ∙ none_led request (join input from to away) inputs
  where
    rest : List End
    rest = filter (λ (y : End). leads_home y (home_of y) (MoveBranch input from to)) inputs

    apart : (to.port.0 == 0) ≡ false
    apart = grind (arith, nat_tests, away)

    elsewhere : (x y z : Bool) → y ≡ false → (x && (y && z)) ≡ false
    elsewhere true true z e = absurd (cc e)
    elsewhere true false z e = refl
    elsewhere false y z e = refl

-- *Numbers are left* at each port still where none was spent
abbrev IsLow : Linked → Type 0
IsLow linked = number_of linked.port < last_number

spent_low : (a : Acted) (q : PortNo) → IsCalmNow a → Every IsLow a.controller.ports → Every IsLow (resets_spent a q).controller.ports
spent_low a q calm low = by (linked_at a.controller q) refl
  where
    by : (o : Option Linked) → linked_at a.controller q ≡ o → Every IsLow (works a (λ setup desk w. halts_if_spent w) o).controller.ports
    by None found = low
    by (Some linked) found = subst (λ (b : Bool). Every IsLow (works_as a linked (if b then halts (begins a linked) else begins a linked)).controller.ports) (sym fresh)
        (put_every port_key IsLow (record linked { port = linked.port }) a.controller.ports (at_every port_key IsLow q.0 a.controller.ports linked low found) low)
      where
        fresh : is_spent linked.port.session ≡ false
        fresh = at_every port_key (λ (x : Linked). is_spent x.port.session ≡ false) q.0 a.controller.ports linked calm.unspent found

all_low : (qs : List PortNo) (a : Acted) → IsCalmNow a → Every IsLow a.controller.ports → Every IsLow (fold resets_spent a qs).controller.ports
all_low [] a calm low = low
all_low (q ∷ qs) a calm low = all_low qs (resets_spent a q) (all_calm (q ∷ []) a calm) (spent_low a q calm low)

module _ (a : Acted) (request : Request) (is : IsBranchOrJoin request) (quiet : IsQuietNode a) where
  abbrev pub ready : Acted
  ready = fold resets_spent a (ports_of a.controller)

  abbrev pub caused : Acted
  caused = causes_in_estab ready request

  abbrev rule : Rule
  rule = λ setup desk v. port_answers.done setup v request

  abbrev told : PortNo
  told = told_port request is

  low : Every IsLow ready.controller.ports
  low = all_low (ports_of a.controller) a (calm_now a quiet) quiet.numbers

  released : releases a request ≡ ready
  released = ap (λ (inputs : List End). fold resets_spent (fold releases_input a inputs) (ports_of (fold releases_input a inputs).controller))
      (none_led request is (map (λ (join : Join). join.input) (joins_of a.controller)))

  module _ (port : PortNo) (link : IsLinkPort port) where
    ready_runs : Runs port link.0 a ready []
    ready_runs = all_spent_run port link.0 (ports_of a.controller) a (calm_now a quiet)

    pub ready_up : IsUp ready
    ready_up = still_up port link.0 a ready [] ready_runs quiet.up

    success_as : takes_success a request ≡ takes_changes (clears caused)
    success_as = ap (λ (r : Acted). takes_changes (clears (causes r request))) released
        ∙ ap (λ (b : Bool). takes_changes (clears (if b then caused else ready))) ready_up

    -- *What it makes of it*, where this is what it causes
    module _ (messages : List Message) (causing : Runs port link.0 ready caused messages) where
      caused_runs : Runs port link.0 a (clears caused) messages
      caused_runs = runs_as port link.0 a (clears caused) (messages ++ []) messages (append-nil messages)
          (runs_then port link.0 a caused (clears caused) messages [] (runs_then port link.0 a ready caused [] messages ready_runs causing) (clears_run port link.0 caused))

      pub success_runs : Runs port link.0 a (takes_success a request) messages
      success_runs = subst (λ (b : Acted). Runs port link.0 a b messages)
          (sym (success_as ∙ changes_none (clears caused) (caused_runs.same.waiting ∙ quiet.none_waits))) caused_runs

    -- *It is told to another port*
    other_caused : told.0 ≢ port.0 → Runs port link.0 ready caused []
    other_caused apart = subst (λ (b : Acted). Runs port link.0 ready b []) (sym (caused_at ready request is))
        (other_rule port link.0 ready told rule apart ready_up (λ l found. at_key port_key told.0 ready.controller.ports l found)
        (λ l found. done_mild l.setup l.port ready.numbers.instances (at_every port_key IsLow told.0 ready.controller.ports l low found) request is))

    -- *A port that is found*
    module _ (linked : Linked) (found : linked_at a.controller port ≡ Some linked) where
      number_is : number_of linked.port < last_number
      number_is = at_every port_key IsLow port.0 a.controller.ports linked quiet.numbers found

      pub now : IsAlikeAt linked (linked_at ready.controller port)
      now = (spent_left port (default_home port) (default_home port) a).left ready_up tt linked found (no_more (number_of linked.port) last_number number_is)
        where
          no_more : (n last : ℕ) → n < last → n ≤ last
          no_more n last less = omega (arith, less)

      own_port : now.after.setup.port ≡ port
      own_port = λ i. record { 0 = at_key port_key port.0 ready.controller.ports now.after now.there i }

      -- it is told to this port
      pub own_caused : told.0 ≡ port.0 → Runs port link.0 ready caused (told_by (port_answers.done now.after.setup (begins ready now.after) request).actions)
      own_caused same = subst (λ (b : Acted). Runs port link.0 ready b (told_by (port_answers.done now.after.setup (begins ready now.after) request).actions))
          (sym (caused_at ready request is ∙ ap (λ (q : PortNo). at_port ready q rule) same_port))
          (own_rule port link.0 ready rule now.after now.there own_port ready_up
          (done_mild now.after.setup now.after.port ready.numbers.instances (at_every port_key IsLow port.0 ready.controller.ports now.after low now.there) request is))
        where
          same_port : told ≡ port
          same_port = λ i. record { 0 = same i }

      module _ (clear : is_clearing linked.port.adjacency.state ≡ false) (none : WiresNone linked request) where
        -- what the port itself does then
        here : told.0 ≡ port.0 → IsUnheard now.after.setup now.after.port ready.numbers.instances (port_answers.done now.after.setup (begins ready now.after) request)
        here same = done_unheard now.after ready.numbers.instances request is (same ∙ sym (ap (λ (q : PortNo). q.0) own_port))
            (none_alike linked now.after now.setup now.alike request is none)

        pub none_caused : Runs port link.0 ready caused []
        none_caused = by_eq told.0 port.0
            (λ same t. runs_as port link.0 ready caused (told_by (port_answers.done now.after.setup (begins ready now.after) request).actions) [] (here same).none (own_caused same))
            (λ apart t. other_caused apart)

        one_linked : (x y : Linked) → Some x ≡ Some y → x ≡ y
        one_linked x y e = cc

        causes_leave : Leaves (anyhow port) ready caused
        causes_leave = subst (Leaves (anyhow port) ready) (sym (caused_at ready request is)) (rule_leaves (anyhow port) ready told rule unseen)
          where
            unseen : (l : Linked) → linked_at ready.controller told ≡ Some l → port_key l ≡ port.0 → Unit {0} → IsUnseen l.port (rule l.setup ready.controller.desk (begins ready l))
            unseen l there key any = subst (λ (x : Linked). IsUnseen x.port (rule x.setup ready.controller.desk (begins ready x)))
                (one_linked now.after l (sym now.there ∙ (ap (λ k. at port_key k ready.controller.ports) (sym same) ∙ there))) (here same).unseen
              where
                same : told.0 ≡ port.0
                same = sym (at_key port_key told.0 ready.controller.ports l there) ∙ key

        -- *and so the port is left*
        abbrev later : Acted
        later = takes_changes (clears caused)

        later_up : IsUp later
        later_up = subst IsUp success_as (still_up port link.0 a (takes_success a request) [] (success_runs [] none_caused) quiet.up)

        caused_up : IsUp caused
        caused_up = still_up port link.0 ready caused [] none_caused ready_up

        further : IsAlikeAt now.after (linked_at caused.controller port)
        further = causes_leave.left caused_up tt now.after now.there tt

        still_clear : is_clearing further.after.port.adjacency.state ≡ false
        still_clear = ap (λ (side : Side Peer). is_clearing side.state) (further.alike.adjacency ∙ now.alike.adjacency) ∙ clear

        last : IsAlikeAt further.after (linked_at later.controller port)
        last = (behind_leaves port caused).left later_up tt further.after further.there still_clear

        left : IsAlikeAt linked (linked_at later.controller port)
        left = record {
          after = last.after;
          there = last.there;
          setup = last.setup ∙ (further.setup ∙ now.setup);
          alike = alike_then linked.port further.after.port last.after.port (alike_then linked.port now.after.port further.after.port now.alike further.alike) last.alike;
        }

        pub success_leaves : LeavesAlike port a (takes_success a request)
        success_leaves = subst (LeavesAlike port a) (sym success_as) (record {
          left = λ l there. subst (λ (x : Linked). IsAlikeAt x (linked_at later.controller port)) (one_linked linked l (sym found ∙ there)) left;
          address = (behind_leaves port caused).address ∙ (causes_leave.address ∙ (spent_left port (default_home port) (default_home port) a).address);
        })

-- *A success* that the switch says
module _ (a : Acted) (message : GsmpMessage) (request : Request) (success : IsSuccess a message request) where
  abbrev pub behind : Acted
  behind = with_desk a (after_answer a.controller.desk (Done success.standing))

  pub quiet_behind : IsQuietNode a → IsQuietNode behind
  quiet_behind quiet = record { up = quiet.up; none_waits = quiet.none_waits; numbers = quiet.numbers }

pub successes_are_for_others : SuccessesAreForOthers
successes_are_for_others a port linked message request link quiet found clear success is none =
    subst (LeavesAlike port a) (sym (told_success a message request success)) (record { left = left.left; address = left.address })
  where
    left : LeavesAlike port (behind a message request success) (takes_success (behind a message request success) request)
    left = success_leaves (behind a message request success) request is (quiet_behind a message request success quiet) port link linked found clear none

-- *and nothing is said* on the port's default channel
pub successes_say_none : (a : Acted) (port : PortNo) (link : IsLinkPort port) (linked : Linked) (message : GsmpMessage) (request : Request) → IsQuietNode a
    → linked_at a.controller port ≡ Some linked → is_clearing linked.port.adjacency.state ≡ false
    → IsSuccess a message request → IsBranchOrJoin request → WiresNone linked request → Runs port link.0 a (message_comes a message) []
successes_say_none a port link linked message request quiet found clear success is none =
    let b : Acted = behind a message request success in
    let still_quiet : IsQuietNode b = quiet_behind a message request success quiet in
    subst (λ (c : Acted). Runs port link.0 a c []) (sym (told_success a message request success))
    (runs_then port link.0 a b (takes_success b request) [] [] (runs_same port link.0 a b refl refl refl refl refl (record { state = refl; waiting = refl }))
    (success_runs b request is still_quiet port link [] (none_caused b request is still_quiet port link linked found clear none)))
