-- a controller hears that its switch has done what it asked

use Rattle.std.proofs.Common.{◌≡◌, ℕ, Bool, true, false, List, [], ◌∷◌, map, filter, fold, Option, None, Some, refl, sym, ◌∙◌, ap, subst, if◌then◌else◌}
use Rattle.std.specs.Prelude.{nat_eq}
use Rattle.world_model.specs.Words.{PortNo, End, RouteChange, Request, at, put, Desk, Standing, Done, answered, without_request, leads_home, home_of, is_spent, halts, halts_if_spent, Linked, port_key, linked_at, with_linked, with_desk, begins, works, works_as, joins_of, releases, releases_input, resets_spent, causes, may_clear, clears, clears_of, clears_port, takes_changes, takes_each, takes_answer}
use Rattle.world_model.specs.gsmp_wire.declared.message.Message.{Message}
use Rattle.world_model.specs.gsmp_wire.declared.message.Message.TheVariants.{Adjacency, Branch, Move, Port, AllPorts}
use Rattle.world_model.specs.port_model.Resets.{cleared}
use Rattle.world_model.specs.Controller.{Acted, ports_of}
use Rattle.world_model.specs.Gsmp.{message_comes}
use Rattle.world_model.specs.Joins.{Join}
use Rattle.world_model.specs.Meeting.{takes_success}
use Rattle.law_port_facts.specs.ordered_lists.Ordered.{Every}
use Rattle.law_port_facts.proofs.Keyed.{on_both, at_key, at_every}
use Rattle.law_input_steps.specs.Asking.{concerns}
use Rattle.law_live_mirrors.specs.Mirrors.{leads_to, IsHeld, Mirrors}
use Rattle.law_live_mirrors.specs.Standing.{LeadAlike}
use Rattle.law_live_mirrors.specs.Answers.{IsDone, HearsMirrored}
use Rattle.law_live_mirrors.proofs.Desks.{held_alike, answers_keep_mirrors}
use Rattle.law_live_mirrors.proofs.Ports.{alike_itself, alike_then, put_alike}

-- *A port in its own place*
put_same : {A : Type 0} (key : A → ℕ) (x : A) (xs : List A) → at key (key x) xs ≡ Some x → put key x xs ≡ xs
put_same key x [] e = refl
put_same {A} key x (y ∷ ys) e = by (nat_eq (key y) (key x)) (put_same key x ys) e
  where
    by : (b : Bool) → (at key (key x) ys ≡ Some x → put key x ys ≡ ys) → (if b then Some y else at key (key x) ys) ≡ Some x → (if b then x ∷ ys else y ∷ put key x ys) ≡ y ∷ ys
    by true rest e = (let same : y ≡ x = cc in ap (λ (z : A). z ∷ ys) (sym same))
    by false rest e = ap (λ (zs : List A). y ∷ zs) (rest e)

abbrev IsUnspent : Linked → Type 0
IsUnspent linked = is_spent linked.port.session ≡ false

-- *Nothing is released*, and no port is reset
module _ (b : Acted) (unspent : Every IsUnspent b.controller.ports) where
  spent_none : (q : PortNo) → resets_spent b q ≡ b
  spent_none q = by (linked_at b.controller q) refl
    where
      by : (o : Option Linked) → linked_at b.controller q ≡ o → works b (λ setup desk w. halts_if_spent w) o ≡ b
      by None found = refl
      by (Some l) found = ap (λ (t : Bool). works_as b l (if t then halts (begins b l) else begins b l)) (at_every port_key IsUnspent q.0 b.controller.ports l unspent found)
          ∙ (λ i. record b {
            controller = record b.controller {
              ports = put_same port_key l b.controller.ports
                  (subst (λ n. at port_key n b.controller.ports ≡ Some l) (sym (at_key port_key q.0 b.controller.ports l found)) found) i;
            };
          })

  all_spent_none : (qs : List PortNo) → fold resets_spent b qs ≡ b
  all_spent_none [] = refl
  all_spent_none (q ∷ qs) = ap (λ (x : Acted). fold resets_spent x qs) (spent_none q) ∙ all_spent_none qs

  pub released_none : (request : Request) → ((input : End) → leads_home input (home_of input) request ≡ false) → releases b request ≡ b
  released_none request never = ap (λ (inputs : List End). fold resets_spent (fold releases_input b inputs) (ports_of (fold releases_input b inputs).controller))
      (none (map (λ (join : Join). join.input) (joins_of b.controller))) ∙ all_spent_none (ports_of b.controller)
    where
      none : (inputs : List End) → filter (λ (x : End). leads_home x (home_of x) request) inputs ≡ []
      none [] = refl
      none (x ∷ inputs) = ap (λ (t : Bool). if t then x ∷ filter (λ (y : End). leads_home y (home_of y) request) inputs else filter (λ (y : End). leads_home y (home_of y) request) inputs) (never x) ∙ none inputs

-- *Ports are cleared*, and lead alike
record LeadsOn (a b : Acted) : Type 0 where
  desk : b.controller.desk ≡ a.controller.desk
  waiting : b.controller.waiting ≡ a.controller.waiting
  alike : (input : End) → LeadAlike a.controller.ports b.controller.ports input

on_itself : (a : Acted) → LeadsOn a a
on_itself a = record { desk = refl; waiting = refl; alike = λ input. alike_itself a.controller.ports input }

on_then : (a b c : Acted) → LeadsOn a b → LeadsOn b c → LeadsOn a c
on_then a b c p q = record {
  desk = q.desk ∙ p.desk;
  waiting = q.waiting ∙ p.waiting;
  alike = λ input. alike_then a.controller.ports b.controller.ports c.controller.ports input (p.alike input) (q.alike input);
}

clear_on : (a : Acted) (q : PortNo) → LeadsOn a (clears_port a q)
clear_on a q = by (linked_at a.controller q) refl
  where
    by : (o : Option Linked) → linked_at a.controller q ≡ o → LeadsOn a (clears_of a o)
    by None found = on_itself a
    by (Some l) found = on_both (LeadsOn a) (may_clear a.controller l) (with_linked a (record l { port = cleared l.port })) a
        (record {
          desk = refl;
          waiting = refl;
          alike = λ input. put_alike a.controller.ports l (subst (λ n. at port_key n a.controller.ports ≡ Some l) (sym (at_key port_key q.0 a.controller.ports l found)) found)
              (cleared l.port) input (λ same labels. refl) (λ same. refl);
        }) (on_itself a)

all_clear : (qs : List PortNo) (a : Acted) → LeadsOn a (fold clears_port a qs)
all_clear [] a = on_itself a
all_clear (q ∷ qs) a = on_then a (clears_port a q) (fold clears_port (clears_port a q) qs) (clear_on a q) (all_clear qs (clears_port a q))

-- no change of routes waits
changes_none : (x : Acted) → x.controller.waiting ≡ [] → takes_changes x ≡ x
changes_none x none = by x.controller.has_met
  where
    by : (t : Bool) → (if t then takes_each x x.controller.waiting else x) ≡ x
    by true = ap (λ (changes : List RouteChange). takes_each x changes) none
    by false = refl

-- *The whole*: the request is answered, and what that causes at its port leads so
module _ (a : Acted) (message : Message) (s : Standing) (h : IsDone a message s) where
  abbrev pub relieved : Acted
  relieved = with_desk a (without_request a.controller.desk s)

  comes_is : (m : Message) → answered a.controller.desk m ≡ Done s → message_comes a m ≡ takes_success relieved s.request
  comes_is (Adjacency greeting) is = absurd (cc is)
  comes_is (Branch kind result code transaction session input_port input output_port output branches priority) is = ap (takes_answer a) is
  comes_is (Move result code transaction session input_port input output_port output target_port target branches priority) is = ap (takes_answer a) is
  comes_is (Port result code transaction port session function) is = ap (takes_answer a) is
  comes_is (AllPorts result code transaction rows) is = ap (takes_answer a) is

  module _ (request : Request) (asks : s.request ≡ request) (never : (input : End) → leads_home input (home_of input) request ≡ false)
      (caused : Acted) (is_caused : causes relieved request ≡ caused) (desk : caused.controller.desk ≡ relieved.controller.desk) (waiting : caused.controller.waiting ≡ a.controller.waiting)
      (held : (input : End) → concerns input request ≡ true → IsHeld caused.controller.ports input (leads_to request))
      (alike : (input : End) → concerns input request ≡ false → LeadAlike a.controller.ports caused.controller.ports input) where
    abbrev cleared_all : Acted
    cleared_all = clears caused

    clear : LeadsOn caused cleared_all
    clear = all_clear (ports_of caused.controller) caused

    whole : message_comes a message ≡ cleared_all
    whole = comes_is message h.answers
        ∙ (ap (takes_success relieved) asks
        ∙ (ap (λ (x : Acted). takes_changes (clears (causes x request))) (released_none relieved h.unspent request never)
        ∙ (ap (λ (x : Acted). takes_changes (clears x)) is_caused
        ∙ changes_none cleared_all (clear.waiting ∙ (waiting ∙ h.none_waits)))))

    cleared_mirrors : HearsMirrored a cleared_all s
    cleared_mirrors = record {
      desk = clear.desk ∙ desk;
      mirrors = λ branches way input before. subst (λ (d : Desk). Mirrors cleared_all.controller.ports d branches way input) (sym (clear.desk ∙ desk))
          (answers_keep_mirrors a.controller.ports cleared_all.controller.ports a.controller.desk branches way s input h.alone
          (λ on. held_alike caused.controller.ports cleared_all.controller.ports input (leads_to s.request) (clear.alike input)
          (subst (λ (r : Request). IsHeld caused.controller.ports input (leads_to r)) (sym asks) (held input (sym (ap (concerns input) asks) ∙ on))))
          (λ away. alike_then a.controller.ports caused.controller.ports cleared_all.controller.ports input (alike input (sym (ap (concerns input) asks) ∙ away)) (clear.alike input)) before);
    }

    pub success_mirrors : HearsMirrored a (message_comes a message) s
    success_mirrors = subst (λ (x : Acted). HearsMirrored a x s) (sym whole) cleared_mirrors
