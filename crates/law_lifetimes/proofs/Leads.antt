-- a request that leads an input to the control link stays while no other leads it elsewhere

use Rattle.std.proofs.Common.{◌≡◌, ℕ, ◌≤◌, Bool, true, false, List, [], ◌∷◌, ◌++◌, refl, sym, ◌∙◌, ap, subst, arith}
use Rattle.std.specs.Prelude.{◌&&◌, ◌||◌, ◌==◌, not, filter}
use Rattle.std.specs.List.{list_any}
use Rattle.std.proofs.lemmas.Bool.Decides.{nat_tests}
use Rattle.law_controller.specs.world_model.Words.{End, PortNo, same_end, Request, AddBranch, MoveBranch, DeleteTree, VerifyTree, PortManagement, is_on, is_on_port, is_delete_all, withdraws, leads_home, Desk, Standing, withdrawn, is_led_home, on_input, all_on, home_of}
use Rattle.law_controller.specs.world_model.gsmp_wire.declared.request.Request.TheVariants.{DeleteAll, AllPorts}
use Rattle.law_controller.specs.world_model.port_model.Desk.{asked}
use Rattle.law_controller.proofs.law_port_facts.Keyed.{on_each}
use Rattle.law_controller.proofs.law_port_facts.Rules.{and_first}
use Rattle.law_controller.proofs.Lists.{either}
use Rattle.law_lifetimes.proofs.Calm.{LeadsBack}

pub end_is : (a b : End) → same_end a b ≡ true → a ≡ b
end_is a b e = grind (arith, nat_tests)

pub same_as_itself : (a : End) → same_end a a ≡ true
same_as_itself a = grind (arith, nat_tests)

port_is : (m n : ℕ) → (m == n) ≡ true → m ≡ n
port_is m n e = grind (arith, nat_tests)

port_same : (m n : ℕ) → m ≡ n → (m == n) ≡ true
port_same m n e = grind (arith, nat_tests)

-- *One of a list*
either_or : {P : Type 0} (a b : Bool) → (a ≡ true → P) → (b ≡ true → P) → (a || b) ≡ true → P
either_or true b p q e = p refl
either_or false b p q e = q e

on_left : (a b : Bool) → a ≡ true → (a || b) ≡ true
on_left true b e = refl
on_left false b e = absurd (cc e)

on_right : (a b : Bool) → b ≡ true → (a || b) ≡ true
on_right true b e = refl
on_right false b e = e

module _ {A : Type 0} (f : A → Bool) where
  any_last : (xs : List A) (y : A) → f y ≡ true → list_any f (xs ++ y ∷ []) ≡ true
  any_last [] y e = on_left (f y) false e
  any_last (x ∷ xs) y e = on_right (f x) (list_any f (xs ++ y ∷ [])) (any_last xs y e)

  any_first : (xs : List A) (y : A) → list_any f xs ≡ true → list_any f (xs ++ y ∷ []) ≡ true
  any_first [] y e = absurd (cc e)
  any_first (x ∷ xs) y e = either (f x) (f x) (list_any f xs) (list_any f (xs ++ y ∷ [])) (λ p. p) (λ p. any_first xs y p) e

  -- where all that it left out are others
  any_others : (g : A → Bool) → ((x : A) → f x ≡ true → g x ≡ true) → (xs : List A) → list_any f xs ≡ true → list_any f (filter g xs) ≡ true
  any_others g keeps [] e = e
  any_others g keeps (x ∷ xs) e = on_each (λ ys. list_any f ys ≡ true) (g x) (x ∷ filter g xs) (filter g xs)
      (λ t. either (f x) (f x) (list_any f xs) (list_any f (filter g xs)) (λ p. p) (λ p. any_others g keeps xs p) e)
      (λ t. either_or (f x) (list_any f xs) (λ p. absurd (cc (sym (keeps x p) ∙ t))) (λ p. any_others g keeps xs p) e)

  -- or the new one takes the place of what was left out
  any_placed : (g : A → Bool) (y : A) → ((x : A) → f x ≡ true → g x ≡ false → f y ≡ true) → (xs : List A) → list_any f xs ≡ true → list_any f (filter g xs ++ y ∷ []) ≡ true
  any_placed g y leads [] e = absurd (cc e)
  any_placed g y leads (x ∷ xs) e = on_each (λ ys. list_any f (ys ++ y ∷ []) ≡ true) (g x) (x ∷ filter g xs) (filter g xs)
      (λ t. either (f x) (f x) (list_any f xs) (list_any f (filter g xs ++ y ∷ [])) (λ p. p) (λ p. any_placed g y leads xs p) e)
      (λ t. either_or (f x) (list_any f xs) (λ p. any_last (filter g xs) y (leads x p t)) (λ p. any_placed g y leads xs p) e)

module _ (e : End) where
  abbrev pub Leads : Request → Type 0
  Leads request = leads_home e (home_of e) request ≡ true

  abbrev pub IsLed : Desk → Type 0
  IsLed desk = is_led_home desk e (home_of e) ≡ true

  -- such a request is on the input, or is Delete All of its port
  pub leads_by : (request : Request) → Leads request → (is_on e request || is_delete_all e.port request) ≡ true
  leads_by (MoveBranch moved from to) l = (let same : moved ≡ e = end_is moved e (and_first (same_end moved e) (same_end to (home_of e)) l) in on_left (same_end e moved) false (subst (λ (x : End). same_end e x ≡ true) (sym same) (same_as_itself e)))
  leads_by (DeleteTree deleted) l = (let same : deleted ≡ e = end_is deleted e l in on_left (same_end e deleted) false (subst (λ (x : End). same_end e x ≡ true) (sym same) (same_as_itself e)))
  leads_by (DeleteAll port) l = l
  leads_by (AddBranch input output) l = absurd (cc l)
  leads_by (VerifyTree input) l = absurd (cc l)
  leads_by (PortManagement port function) l = absurd (cc l)
  leads_by AllPorts l = absurd (cc l)

  -- where one leads it, one of those stands
  pub led_by : (desk : Desk) → IsLed desk → on_input desk e ≡ false → all_on desk e.port ≡ false → ⊥
  led_by desk led on all = by_each desk.standing led on all
    where
      by_each : (standing : List Standing) → list_any (λ s. leads_home e (home_of e) s.request) standing ≡ true → list_any (λ s. is_on e s.request) standing ≡ false → list_any (λ s. is_delete_all e.port s.request) standing ≡ false → ⊥
      by_each [] led on all = absurd (cc led)
      by_each (s ∷ standing) led on all = either_or (leads_home e (home_of e) s.request) (list_any (λ s. leads_home e (home_of e) s.request) standing)
          (λ l. either_or (is_on e s.request) (is_delete_all e.port s.request) (λ t. absurd (cc (sym (on_left (is_on e s.request) (list_any (λ s. is_on e s.request) standing) t) ∙ on)))
          (λ t. absurd (cc (sym (on_left (is_delete_all e.port s.request) (list_any (λ s. is_delete_all e.port s.request) standing) t) ∙ all))) (leads_by s.request l))
          (λ rest. by_each standing rest (none_behind (is_on e s.request) (list_any (λ s. is_on e s.request) standing) on) (none_behind (is_delete_all e.port s.request) (list_any (λ s. is_delete_all e.port s.request) standing) all)) led
        where
          none_behind : (a b : Bool) → (a || b) ≡ false → b ≡ false
          none_behind true b h = absurd (cc h)
          none_behind false b h = h

  -- *What is on the input* that it leads
  on_same : (d : End) (request : Request) → Leads request → is_on d request ≡ true → d ≡ e
  on_same d (MoveBranch moved from to) l on = end_is d moved on ∙ end_is moved e (and_first (same_end moved e) (same_end to (home_of e)) l)
  on_same d (DeleteTree deleted) l on = end_is d deleted on ∙ end_is deleted e l
  on_same d (DeleteAll port) l on = absurd (cc on)
  on_same d (AddBranch input output) l on = absurd (cc l)
  on_same d (VerifyTree input) l on = absurd (cc l)
  on_same d (PortManagement port function) l on = absurd (cc l)
  on_same d AllPorts l on = absurd (cc l)

  port_of : (p : PortNo) (request : Request) → Leads request → (is_on_port p request || is_delete_all p request) ≡ true → (p.0 == e.port.0) ≡ true
  port_of p (MoveBranch moved from to) l on = either_or (moved.port.0 == p.0) false
      (λ t. port_same p.0 e.port.0 (sym (port_is moved.port.0 p.0 t) ∙ ap (λ (x : End). x.port.0) (end_is moved e (and_first (same_end moved e) (same_end to (home_of e)) l)))) (λ t. absurd (cc t)) on
  port_of p (DeleteTree deleted) l on = either_or (deleted.port.0 == p.0) false (λ t. port_same p.0 e.port.0 (sym (port_is deleted.port.0 p.0 t) ∙ ap (λ (x : End). x.port.0) (end_is deleted e l))) (λ t. absurd (cc t)) on
  port_of p (DeleteAll other) l on = port_same p.0 e.port.0 (sym (port_is other.0 p.0 on) ∙ port_is other.0 e.port.0 l)
  port_of p (AddBranch input output) l on = absurd (cc l)
  port_of p (VerifyTree input) l on = absurd (cc l)
  port_of p (PortManagement port function) l on = absurd (cc l)
  port_of p AllPorts l on = absurd (cc l)

  -- *A request that leads back* takes the place of one that did
  tame_leads : (request : Request) → LeadsBack request → (s : Request) → Leads s → withdraws request s ≡ true → Leads request
  tame_leads (DeleteTree d) tame s l w = subst (λ (x : End). same_end x e ≡ true) (sym (on_same d s l w)) (same_as_itself e)
  tame_leads (DeleteAll p) tame s l w = port_of p s l w
  tame_leads (AddBranch input output) tame s l w = absurd tame
  tame_leads (MoveBranch input from to) tame s l w = absurd tame
  tame_leads (VerifyTree input) tame s l w = absurd tame
  tame_leads (PortManagement port function) tame s l w = absurd tame
  tame_leads AllPorts tame s l w = absurd tame

  pub back_leads : (output : End) → Leads (MoveBranch e output (home_of e))
  back_leads output = both (same_end e e) (same_end (home_of e) (home_of e)) (same_as_itself e) (same_as_itself (home_of e))
    where
      both : (a b : Bool) → a ≡ true → b ≡ true → (a && b) ≡ true
      both true b p q = q
      both false b p q = absurd (cc p)

  move_leads : (input output : End) (s : Request) → Leads s → is_on input s ≡ true → Leads (MoveBranch input output (home_of input))
  move_leads input output s l on = subst (λ (x : End). Leads (MoveBranch x output (home_of x))) (sym (on_same input s l on)) (back_leads output)

  kept_out : (b : Bool) → not b ≡ false → b ≡ true
  kept_out true e = refl
  kept_out false e = absurd (cc e)

  asked_led : (desk : Desk) (request : Request) → ((s : Request) → Leads s → withdraws request s ≡ true → Leads request) → IsLed desk → IsLed (asked desk request)
  asked_led desk request leads led = any_placed (λ (s : Standing). leads_home e (home_of e) s.request) (λ (s : Standing). not (withdraws request s.request)) (record { number = desk.next; request = request })
      (λ s l out. leads s.request l (kept_out (withdraws request s.request) out)) desk.standing led

  pub tame_led : (desk : Desk) (request : Request) → LeadsBack request → IsLed desk → IsLed (asked desk request)
  tame_led desk request tame led = asked_led desk request (tame_leads request tame) led

  pub back_led : (desk : Desk) (input output : End) → IsLed desk → IsLed (asked desk (MoveBranch input output (home_of input)))
  back_led desk input output led = asked_led desk (MoveBranch input output (home_of input)) (λ s l w. move_leads input output s l w) led

  -- one of another input leaves it
  pub other_led : (desk : Desk) (input from to : End) → same_end input e ≡ false → IsLed desk → IsLed (asked desk (MoveBranch input from to))
  other_led desk input from to other led = asked_led desk (MoveBranch input from to)
      (λ s l w. absurd (cc (sym (subst (λ (x : End). same_end x e ≡ true) (sym (on_same input s l w)) (same_as_itself e)) ∙ other))) led

  -- and the one that leads it back does
  pub taken_led : (desk : Desk) (output : End) → IsLed (asked desk (MoveBranch e output (home_of e)))
  taken_led desk output = any_last (λ (s : Standing). leads_home e (home_of e) s.request) (filter (λ (s : Standing). not (withdraws (MoveBranch e output (home_of e)) s.request)) desk.standing) (record { number = desk.next; request = MoveBranch e output (home_of e) }) (back_leads output)

  -- what is withdrawn on the control link is on no input of a link
  pub withdrawn_led : (desk : Desk) (input : End) → 1 ≤ e.port.0 → input.port.0 ≡ 0 → IsLed desk → IsLed (withdrawn desk input)
  withdrawn_led desk input link zero led = any_others (λ (s : Standing). leads_home e (home_of e) s.request) (λ (s : Standing). not (is_on input s.request)) (λ s l. stays (is_on input s.request) (λ on. never (ap (λ (x : End). x.port.0) (on_same input s.request l on)))) desk.standing led
    where
      never : input.port.0 ≡ e.port.0 → ⊥
      never same = omega (arith, link, zero, same)

      stays : (b : Bool) → (b ≡ true → ⊥) → not b ≡ true
      stays true none = absurd (none refl)
      stays false none = refl
