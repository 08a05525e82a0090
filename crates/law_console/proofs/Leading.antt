-- the branches of the switch after a command that doesn't fail are those of the plain machine

use Rattle.std.proofs.Common.{◌≡◌, ◌≢◌, ◌==◌, ◌||◌, Bool, true, false, cond, not, List, [], ◌∷◌, Option, None, Some, is_some, filter, refl, sym, ◌∙◌, ap, inl, inr}
use Rattle.std.specs.List.{list_any}
use Rattle.std.specs.Option.{option_map, option_map_or}
use Rattle.std.specs.Ordering.{eq_by_cmp, is_eq}
use Rattle.std.specs.declared.cmp.Ordering.{Ordering}
use Rattle.std.specs.declared.cmp.Ordering.TheVariants.{Less, Equal, Greater}
use Rattle.std.specs.FinMap.{get, insert, remove, retain_keys, keys, contains_key-keys}
use Rattle.world_model.specs.Words.{PortNo, End, end_cmp, Branches, new_branch, same_end, Request, AddBranch, MoveBranch, DeleteTree, VerifyTree, PortManagement, is_busy, lacks_branch, Changed, added_by, moved_by, ended_by, all_ended, inputs_on, branches_after}
use Rattle.world_model.specs.crossbar_model.declared.branch.Branch.{Branch}
use Rattle.world_model.specs.crossbar_model.Crossbar.{output_of}
use Rattle.world_model.specs.gsmp_wire.declared.request.Request.TheVariants.{DeleteAll, AllPorts}
use Rattle.ordered_lists.specs.Ordered.{Every}
use Rattle.world_model.specs.Requests.{branch_ended, deleted_all}
use Rattle.console_model.specs.Plain.{Links, changed}
use Rattle.law_console.specs.Words.{IsCommand}
use Rattle.law_console.specs.Kept.{Leads}
use Rattle.law_console.proofs.Ports.{held}
use Rattle.law_console.proofs.Maps.{end_from_tie, same_input, same_is, insert_here, insert_away, remove_here, remove_away, retained}

abbrev led : Option Branch → Option End
led found = option_map (λ (b : Branch). b.output) found

-- *One branch*
put_leads : (b : Branches) (m : Links) (k v : End) → Leads b m → Leads (insert b k (new_branch v)) (insert m k v)
put_leads b m k v h e = elim (same_input e k) [
  | inl same ↦ ap (output_of (insert b k (new_branch v))) same ∙ ap led (insert_here b k (new_branch v)) ∙ sym (insert_here m k v) ∙ ap (get (insert m k v)) (sym same)
  | inr other ↦ ap led (insert_away b k e (new_branch v) other) ∙ h e ∙ sym (insert_away m k e v other)
]

-- one that leads there already
stays_leads : (b : Branches) (m : Links) (k v : End) → output_of b k ≡ Some v → Leads b m → Leads b (insert m k v)
stays_leads b m k v is h e = elim (same_input e k) [
  | inl same ↦ ap (output_of b) same ∙ is ∙ sym (insert_here m k v) ∙ ap (get (insert m k v)) (sym same)
  | inr other ↦ h e ∙ sym (insert_away m k e v other)
]

add_leads : (b : Branches) (m : Links) (k v : End) (o : Option Branch) → get b k ≡ o → is_busy b (AddBranch k v) ≡ false → Leads b m → Leads (added_by b k v o) (insert m k v)
add_leads b m k v None is free h = put_leads b m k v h
add_leads b m k v (Some branch) is free h =
    let same : same_end branch.output v ≡ true = held (same_end branch.output v) (sym (ap (λ (o : Option Branch). option_map_or (λ other. not (same_end other v)) (led o) false) is) ∙ free) in
    stays_leads b m k v (ap led is ∙ ap (λ (x : End). Some x) (same_is branch.output v same)) h

move_leads : (c : Changed) (m : Links) (k from to : End) (o : Option Branch) → get c.branches k ≡ o → lacks_branch c.branches (MoveBranch k from to) ≡ false → Leads c.branches m
    → Leads (moved_by c k to o).branches (insert m k to)
move_leads c m k from to None is leads h =
    absurd (cc (sym (ap (λ (o : Option Branch). not (option_map_or (λ output. same_end output from || same_end output to) (led o) false)) is) ∙ leads))
move_leads c m k from to (Some branch) is leads h = by (same_end branch.output to) refl
  where
    by : (t : Bool) → same_end branch.output to ≡ t → Leads (cond t c.branches (insert c.branches k (new_branch to))) (insert m k to)
    by true t = stays_leads c.branches m k to (ap led is ∙ ap (λ (x : End). Some x) (same_is branch.output to t)) h
    by false t = put_leads c.branches m k to h

-- *A branch ends*
ended_here : (c : Changed) (k : End) (o : Option Branch) → get c.branches k ≡ o → output_of (ended_by c k o).branches k ≡ None
ended_here c k None is = ap led is
ended_here c k (Some branch) is = ap led (remove_here c.branches k)

ended_away : (c : Changed) (k e : End) (o : Option Branch) → e ≢ k → output_of (ended_by c k o).branches e ≡ output_of c.branches e
ended_away c k e None other = refl
ended_away c k e (Some branch) other = ap led (remove_away c.branches k e other)

end_leads : (c : Changed) (m : Links) (k : End) → Leads c.branches m → Leads (branch_ended c k).branches (remove m k)
end_leads c m k h e = elim (same_input e k) [
  | inl same ↦ ap (output_of (branch_ended c k).branches) same ∙ ended_here c k (get c.branches k) refl ∙ sym (remove_here m k) ∙ ap (get (remove m k)) (sym same)
  | inr other ↦ ended_away c k e (get c.branches k) other ∙ h e ∙ sym (remove_away m k e other)
]

-- *Several end*
none_stays : (inputs : List End) (c : Changed) (e : End) → output_of c.branches e ≡ None → output_of (all_ended c inputs).branches e ≡ None
none_stays [] c e none = none
none_stays (k ∷ inputs) c e none = none_stays inputs (branch_ended c k) e (elim (same_input e k) [
  | inl same ↦ ap (output_of (branch_ended c k).branches) same ∙ ended_here c k (get c.branches k) refl
  | inr other ↦ ended_away c k e (get c.branches k) other ∙ none
])

others_stay : (inputs : List End) (c : Changed) (e : End) → Every (λ k. e ≢ k) inputs → output_of (all_ended c inputs).branches e ≡ output_of c.branches e
others_stay [] c e others = refl
others_stay (k ∷ inputs) c e others = others_stay inputs (branch_ended c k) e others.1 ∙ ended_away c k e (get c.branches k) others.0

untied : (r : Ordering) → is_eq r ≡ true → r ≡ Equal
untied Less e = absurd (cc e)
untied Equal e = refl
untied Greater e = absurd (cc e)

all_gone : (inputs : List End) (c : Changed) (e : End) → list_any (eq_by_cmp end_cmp e) inputs ≡ true → output_of (all_ended c inputs).branches e ≡ None
all_gone [] c e any = absurd (cc any)
all_gone (k ∷ inputs) c e any = by (eq_by_cmp end_cmp e k) refl (all_gone inputs (branch_ended c k) e)
  where
    rest : (t : Bool) → t ≡ false → (t || list_any (eq_by_cmp end_cmp e) inputs) ≡ true → list_any (eq_by_cmp end_cmp e) inputs ≡ true
    rest true f h = absurd (cc f)
    rest false f h = h

    by : (t : Bool) → eq_by_cmp end_cmp e k ≡ t → (list_any (eq_by_cmp end_cmp e) inputs ≡ true → output_of (all_ended (branch_ended c k) inputs).branches e ≡ None)
        → output_of (all_ended (branch_ended c k) inputs).branches e ≡ None
    by true t later = (let same : e ≡ k = end_from_tie e k (untied (end_cmp e k) t) in
        none_stays inputs (branch_ended c k) e (ap (output_of (branch_ended c k).branches) same ∙ ended_here c k (get c.branches k) refl))
    by false t later = later (rest (eq_by_cmp end_cmp e k) t any)

away : (p : End → Bool) (e : End) (ks : List End) → p e ≡ false → Every (λ k. e ≢ k) (filter p ks)
away p e [] off = tt
away p e (k ∷ ks) off = by (p k) refl (away p e ks off)
  where
    by : (t : Bool) → p k ≡ t → Every (λ x. e ≢ x) (filter p ks) → Every (λ x. e ≢ x) (cond t (k ∷ filter p ks) (filter p ks))
    by true t rest = (λ same. (let clash : true ≡ false = sym t ∙ ap p (sym same) ∙ off in cc clash), rest)
    by false t rest = rest

among : (p : End → Bool) (e : End) (ks : List End) → p e ≡ true → list_any (eq_by_cmp end_cmp e) ks ≡ true → list_any (eq_by_cmp end_cmp e) (filter p ks) ≡ true
among p e [] on any = any
among p e (k ∷ ks) on any = by (eq_by_cmp end_cmp e k) (p k) refl refl any (among p e ks on)
  where
    any_more : (t : Bool) (x : End) → list_any (eq_by_cmp end_cmp e) (filter p ks) ≡ true → list_any (eq_by_cmp end_cmp e) (cond t (x ∷ filter p ks) (filter p ks)) ≡ true
    any_more true x h = by_or (eq_by_cmp end_cmp e x) h
      where
        by_or : (s : Bool) → list_any (eq_by_cmp end_cmp e) (filter p ks) ≡ true → (s || list_any (eq_by_cmp end_cmp e) (filter p ks)) ≡ true
        by_or true h = refl
        by_or false h = h
    any_more false x h = h

    by : (s t : Bool) → eq_by_cmp end_cmp e k ≡ s → p k ≡ t → (s || list_any (eq_by_cmp end_cmp e) ks) ≡ true
        → (list_any (eq_by_cmp end_cmp e) ks ≡ true → list_any (eq_by_cmp end_cmp e) (filter p ks) ≡ true)
        → list_any (eq_by_cmp end_cmp e) (cond t (k ∷ filter p ks) (filter p ks)) ≡ true
    by true true s t h later = ap (λ (b : Bool). b || list_any (eq_by_cmp end_cmp e) (filter p ks)) s
    by true false s t h later = (let clash : true ≡ false = sym on ∙ ap p (end_from_tie e k (untied (end_cmp e k) s)) ∙ t in absurd (cc clash))
    by false t s q h later = any_more t k (later h)

clear_leads : (c : Changed) (m : Links) (port : PortNo) → Leads c.branches m → Leads (deleted_all c port).branches (retain_keys m (λ input. not (input.port.0 == port.0)))
clear_leads c m port h e = by (e.port.0 == port.0) refl ∙ sym (retained m (λ input. not (input.port.0 == port.0)) e)
  where
    by_branch : (e.port.0 == port.0) ≡ true → (o : Option Branch) → get c.branches e ≡ o → output_of (deleted_all c port).branches e ≡ None
    by_branch on None is = none_stays (inputs_on c.branches port) c e (ap led is)
    by_branch on (Some branch) is = all_gone (inputs_on c.branches port) c e
        (among (λ input. input.port.0 == port.0) e (keys c.branches) on (sym (contains_key-keys c.branches e) ∙ ap is_some is))

    by : (t : Bool) → (e.port.0 == port.0) ≡ t → output_of (deleted_all c port).branches e ≡ cond (not (e.port.0 == port.0)) (get m e) None
    by true t = by_branch t (get c.branches e) refl ∙ sym (ap (λ (x : Bool). cond (not x) (get m e) None) t)
    by false t = others_stay (inputs_on c.branches port) c e (away (λ input. input.port.0 == port.0) e (keys c.branches) t) ∙ h e ∙ sym (ap (λ (x : Bool). cond (not x) (get m e) None) t)

-- *A command* that doesn't fail
pub command_leads : (c : Changed) (m : Links) (q : Request) → IsCommand q → is_busy c.branches q ≡ false → lacks_branch c.branches q ≡ false → Leads c.branches m
    → Leads (branches_after c q).branches (changed m q)
command_leads c m (AddBranch input output) is free leads h = add_leads c.branches m input output (get c.branches input) refl free h
command_leads c m (MoveBranch input from to) is free leads h = move_leads c m input from to (get c.branches input) refl leads h
command_leads c m (DeleteTree input) is free leads h = end_leads c m input h
command_leads c m (VerifyTree input) is free leads h = h
command_leads c m (DeleteAll port) is free leads h = clear_leads c m port h
command_leads c m (PortManagement port function) is free leads h = absurd is
command_leads c m AllPorts is free leads h = absurd is
