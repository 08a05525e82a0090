-- the branches of a switch without marks: what requests make of them, and how they are answered

use Rattle.std.proofs.Common.{◌≡◌, ℕ, Bool, true, false, cond, not, T, List, [], ◌∷◌, map, Option, None, Some, refl, sym, ◌∙◌, ap, subst, ◌&&◌, ◌||◌, if◌then◌else◌}
use Rattle.std.specs.Prelude.{◌==◌, find, filter, is_none}
use Rattle.std.specs.Option.{option_map, option_map_or}
use Rattle.std.specs.declared.cmp.Ordering.{Ordering}
use Rattle.std.specs.declared.cmp.Ordering.TheVariants.{Less, Equal, Greater}
use Rattle.std.specs.Ordering.{nat_cmp, ordering_then, eq_by_cmp, is_lt}
use Rattle.std.specs.Cmp.{IsTotalOrder, then_total, on_total, nat_cmp_total}
use Rattle.std.specs.FinMap.{get, insert, remove, keys, entries, entries_sorted, same_entries_map, same_map, get-entries, get-insert, get-remove, entries-from_sorted, nat_cmp-IsAntisymmetric, is_sorted}
use Rattle.std.specs.FinMap.Entries.{find as find_key, below_all}
use Rattle.world_model.specs.Words.{PortNo, End, Request, AddBranch, MoveBranch, DeleteTree, VerifyTree, PortManagement, Mark, Loss, Cut, Journal, end_cmp, Branches, new_branch, same_end, cut_by_move, Changed, noted_cut, moved_to, end_at, added_by, moved_by, ended_by, all_ended, inputs_on, branches_after, leads_elsewhere, is_busy, lacks_branch, applies, failure_of, branch_of, branch_answer, told_output, count_of, success_answer}
use Rattle.world_model.specs.gsmp_wire.declared.request.Request.TheVariants.{DeleteAll, AllPorts}
use Rattle.world_model.specs.gsmp_wire.declared.message.Message.{Message}
use Rattle.world_model.specs.gsmp_wire.declared.message.Message.TheVariants as messages
use Rattle.world_model.specs.crossbar_model.declared.branch.Branch.{Branch}
use Rattle.world_model.specs.crossbar_model.Crossbar.{output_of}
use Rattle.world_model.specs.switch_model.declared.port.PortState.{PortState}
use Rattle.world_model.specs.switch_model.declared.request.Asked.{Asked}
use Rattle.world_model.specs.gsmp_wire.declared.failure.Failure.{Failure}
use Rattle.world_model.specs.gsmp_wire.declared.failure.Failure.TheVariants.{NoPort, BadSession, PortDown, OutOfRange, Busy, NoConnection, SessionsSpent}
use Rattle.world_model.specs.Requests.{branch_ended, deleted_all}
use Rattle.law_unmarked_controllers.specs.Unmarked.{unmarked_branch, unmarked_branches, shown}
use Rattle.law_unmarked_controllers.proofs.Notes.{entered_shown}
use Rattle.law_unmarked_controllers.proofs.Lists.{map_then}

-- *The order of ends* tells them apart
end_cmp_total : IsTotalOrder end_cmp
end_cmp_total =
    then_total (on_total (λ (e : End). e.port.0) nat_cmp_total) (then_total (on_total (λ (e : End). e.channel.vpi) nat_cmp_total) (on_total (λ (e : End). e.channel.vci) nat_cmp_total))

first_tied : (r s : Ordering) → ordering_then r s ≡ Equal → r ≡ Equal
first_tied Less s e = absurd (cc e)
first_tied Equal s e = refl
first_tied Greater s e = absurd (cc e)

then_tied : (r s : Ordering) → ordering_then r s ≡ Equal → s ≡ Equal
then_tied Less s e = absurd (cc e)
then_tied Equal s e = e
then_tied Greater s e = absurd (cc e)

end_from_tie : (x y : End) → end_cmp x y ≡ Equal → x ≡ y
end_from_tie x y e =
    let rest : ordering_then (nat_cmp x.channel.vpi y.channel.vpi) (nat_cmp x.channel.vci y.channel.vci) ≡ Equal = then_tied _ _ e in
    λ i. record {
      port = record { 0 = nat_cmp-IsAntisymmetric x.port.0 y.port.0 (first_tied _ _ e) i };
      channel = record { vpi = nat_cmp-IsAntisymmetric x.channel.vpi y.channel.vpi (first_tied _ _ rest) i; vci = nat_cmp-IsAntisymmetric x.channel.vci y.channel.vci (then_tied _ _ rest) i };
    }

-- *A map* whose branches have no marks
abbrev bare_entry : End × Branch → End × Branch
bare_entry e = (e.0, unmarked_branch e.1)

below_same : (x : End) (es : List (End × Branch)) → below_all end_cmp x (map bare_entry es) ≡ below_all end_cmp x es
below_same x [] = refl
below_same x (e ∷ es) = ap (λ (b : Bool). is_lt (end_cmp x e.0) && b) (below_same x es)

sorted_same : (es : List (End × Branch)) → is_sorted end_cmp (map bare_entry es) ≡ is_sorted end_cmp es
sorted_same [] = refl
sorted_same (e ∷ es) = λ i. below_same e.0 es i && sorted_same es i

entries_same : (m : Branches) → entries (unmarked_branches m) ≡ map bare_entry (entries m)
entries_same m = entries-from_sorted end_cmp (map bare_entry (entries m)) (subst T (sym (sorted_same (entries m))) (entries_sorted m))

pub branches_twice : (m : Branches) → unmarked_branches (unmarked_branches m) ≡ unmarked_branches m
branches_twice m = same_entries_map (unmarked_branches (unmarked_branches m)) (unmarked_branches m)
    (entries_same (unmarked_branches m) ∙ ap (map bare_entry) (entries_same m) ∙ map_then bare_entry bare_entry bare_entry (λ e. refl) (entries m) ∙ sym (entries_same m))

pub keys_same : (m : Branches) → keys (unmarked_branches m) ≡ keys m
keys_same m = ap (map (λ e. e.0)) (entries_same m) ∙ map_then bare_entry (λ e. e.0) (λ e. e.0) (λ e. refl) (entries m)

found_same : (q : End) (es : List (End × Branch)) → find_key end_cmp q (map bare_entry es) ≡ option_map unmarked_branch (find_key end_cmp q es)
found_same q [] = refl
found_same q (e ∷ es) =
    elim (eq_by_cmp end_cmp q e.0) as (λ t. cond t (Some (unmarked_branch e.1)) (find_key end_cmp q (map bare_entry es)) ≡ option_map unmarked_branch (cond t (Some e.1) (find_key end_cmp q es))) [
      | true ↦ refl
      | false ↦ found_same q es
    ]

pub get_same : (m : Branches) (q : End) → get (unmarked_branches m) q ≡ option_map unmarked_branch (get m q)
get_same m q = get-entries (unmarked_branches m) q ∙ ap (find_key end_cmp q) (entries_same m) ∙ found_same q (entries m) ∙ ap (option_map unmarked_branch) (sym (get-entries m q))

pub insert_same : (m : Branches) (k : End) (v : Branch) → unmarked_branches (insert m k v) ≡ insert (unmarked_branches m) k (unmarked_branch v)
insert_same m k v = same_map end_cmp_total end_from_tie _ _ (λ q.
    get_same (insert m k v) q ∙ ap (option_map unmarked_branch) (get-insert end_cmp_total m k v q) ∙ by q (eq_by_cmp end_cmp q k)
    ∙ ap (cond (eq_by_cmp end_cmp q k) (Some (unmarked_branch v))) (sym (get_same m q)) ∙ sym (get-insert end_cmp_total (unmarked_branches m) k (unmarked_branch v) q))
  where
    by : (q : End) (t : Bool) → option_map unmarked_branch (cond t (Some v) (get m q)) ≡ cond t (Some (unmarked_branch v)) (option_map unmarked_branch (get m q))
    by q true = refl
    by q false = refl

remove_same : (m : Branches) (k : End) → unmarked_branches (remove m k) ≡ remove (unmarked_branches m) k
remove_same m k = same_map end_cmp_total end_from_tie _ _ (λ q.
    get_same (remove m k) q ∙ ap (option_map unmarked_branch) (get-remove end_cmp_total m k q) ∙ by q (eq_by_cmp end_cmp q k)
    ∙ ap (cond (eq_by_cmp end_cmp q k) None) (sym (get_same m q)) ∙ sym (get-remove end_cmp_total (unmarked_branches m) k q))
  where
    by : (q : End) (t : Bool) → option_map unmarked_branch (cond t None (get m q)) ≡ cond t None (option_map unmarked_branch (get m q))
    by q true = refl
    by q false = refl

pub output_same : (m : Branches) (input : End) → output_of (unmarked_branches m) input ≡ output_of m input
output_same m input = ap (option_map (λ (b : Branch). b.output)) (get_same m input) ∙ by (get m input)
  where
    by : (o : Option Branch) → option_map (λ (b : Branch). b.output) (option_map unmarked_branch o) ≡ option_map (λ (b : Branch). b.output) o
    by None = refl
    by (Some b) = refl

-- *Branches end, or are moved*
abbrev pub AreSame : (one other : Changed) → Type 0
AreSame one other = other.branches ≡ unmarked_branches one.branches

-- what is done by the branch that is found, with whichever notes
by_branch : (change : Changed → Option Branch → Changed) (input : End) → ((c : Changed) (notes : Journal) (o : Option Branch) → AreSame (change c o) (change (record { branches = unmarked_branches c.branches; notes = notes }) (option_map unmarked_branch o)))
    → (one other : Changed) → AreSame one other → AreSame (change one (get one.branches input)) (change other (get other.branches input))
by_branch change input each one other same =
    ap (λ (m : Branches). (change (record { branches = m; notes = other.notes }) (get m input)).branches) same
    ∙ ap (λ (o : Option Branch). (change (record { branches = unmarked_branches one.branches; notes = other.notes }) o).branches) (get_same one.branches input)
    ∙ each one other.notes (get one.branches input)

add_same : (input output : End) (c : Changed) (notes : Journal) (o : Option Branch)
    → added_by (unmarked_branches c.branches) input output (option_map unmarked_branch o) ≡ unmarked_branches (added_by c.branches input output o)
add_same input output c notes None = sym (insert_same c.branches input (new_branch output))
add_same input output c notes (Some b) = refl

move_same : (input to : End) (c : Changed) (notes : Journal) (o : Option Branch) → AreSame (moved_by c input to o) (moved_by (record { branches = unmarked_branches c.branches; notes = notes }) input to (option_map unmarked_branch o))
move_same input to c notes None = refl
move_same input to c notes (Some b) = by (same_end b.output to)
  where
    by : (t : Bool) → (if t then unmarked_branches c.branches else insert (unmarked_branches c.branches) input (new_branch to)) ≡ unmarked_branches (if t then c.branches else insert c.branches input (new_branch to))
    by true = refl
    by false = sym (insert_same c.branches input (new_branch to))

end_same : (input : End) (c : Changed) (notes : Journal) (o : Option Branch) → AreSame (ended_by c input o) (ended_by (record { branches = unmarked_branches c.branches; notes = notes }) input (option_map unmarked_branch o))
end_same input c notes None = refl
end_same input c notes (Some b) = sym (remove_same c.branches input)

ended_same : (input : End) (one other : Changed) → AreSame one other → AreSame (branch_ended one input) (branch_ended other input)
ended_same input = by_branch (λ c o. ended_by c input o) input (end_same input)

pub all_same : (inputs : List End) (one other : Changed) → AreSame one other → AreSame (all_ended one inputs) (all_ended other inputs)
all_same [] one other same = same
all_same (input ∷ inputs) one other same = all_same inputs (branch_ended one input) (branch_ended other input) (ended_same input one other same)

cleared_same : (port : PortNo) (one other : Changed) → AreSame one other → AreSame (deleted_all one port) (deleted_all other port)
cleared_same port one other same =
    ap (λ (inputs : List End). (all_ended other (filter (λ input. input.port.0 == port.0) inputs)).branches) (ap (λ (m : Branches). keys m) same ∙ keys_same one.branches)
    ∙ all_same (inputs_on one.branches port) one other same

pub after_same : (request : Request) (one other : Changed) → AreSame one other → AreSame (branches_after one request) (branches_after other request)
after_same (AddBranch input output) one other same =
    by_branch (λ c o. record c { branches = added_by c.branches input output o }) input (λ c notes o. add_same input output c notes o) one other same
after_same (MoveBranch input from to) one other same = by_branch (λ c o. moved_by c input to o) input (move_same input to) one other same
after_same (DeleteTree input) one other same = ended_same input one other same
after_same (DeleteAll port) one other same = cleared_same port one other same
after_same (PortManagement port function) one other same = by (function == 2)
  where
    by : (t : Bool) → AreSame (if t then deleted_all one port else one) (if t then deleted_all other port else other)
    by true = cleared_same port one other same
    by false = same
after_same (VerifyTree input) one other same = same
after_same AllPorts one other same = same

-- *What is noted of it* is the ledger's
cut_shown : (notes : Journal) (o : Option Mark) → shown (noted_cut notes o) ≡ shown notes
cut_shown notes None = refl
cut_shown notes (Some mark) = entered_shown notes (Loss mark Cut) refl

ended_shown : (c : Changed) (input : End) → shown (branch_ended c input).notes ≡ shown c.notes
ended_shown c input = by (get c.branches input)
  where
    by : (o : Option Branch) → shown (ended_by c input o).notes ≡ shown c.notes
    by None = refl
    by (Some b) = cut_shown c.notes b.unfinished

moved_shown : (c : Changed) (input to : End) → shown (moved_to c input to).notes ≡ shown c.notes
moved_shown c input to = by (get c.branches input)
  where
    by : (o : Option Branch) → shown (moved_by c input to o).notes ≡ shown c.notes
    by None = refl
    by (Some b) = cut_shown c.notes (cut_by_move b to)

pub all_shown : (inputs : List End) (c : Changed) → shown (all_ended c inputs).notes ≡ shown c.notes
all_shown [] c = refl
all_shown (input ∷ inputs) c = all_shown inputs (branch_ended c input) ∙ ended_shown c input

pub after_shown : (request : Request) (c : Changed) → shown (branches_after c request).notes ≡ shown c.notes
after_shown (AddBranch input output) c = refl
after_shown (MoveBranch input from to) c = moved_shown c input to
after_shown (DeleteTree input) c = ended_shown c input
after_shown (DeleteAll port) c = all_shown (inputs_on c.branches port) c
after_shown (PortManagement port function) c = by (function == 2)
  where
    by : (t : Bool) → shown (if t then deleted_all c port else c).notes ≡ shown c.notes
    by true = all_shown (inputs_on c.branches port) c
    by false = refl
after_shown (VerifyTree input) c = refl
after_shown AllPorts c = refl

-- *Why a request fails*
busy_same : (m : Branches) (request : Request) → is_busy (unmarked_branches m) request ≡ is_busy m request
busy_same m (AddBranch input output) = ap (leads_elsewhere output) (output_same m input)
busy_same m (MoveBranch input from to) = refl
busy_same m (DeleteTree input) = refl
busy_same m (VerifyTree input) = refl
busy_same m (DeleteAll port) = refl
busy_same m (PortManagement port function) = refl
busy_same m AllPorts = refl

lacks_same : (m : Branches) (request : Request) → lacks_branch (unmarked_branches m) request ≡ lacks_branch m request
lacks_same m (AddBranch input output) = refl
lacks_same m (MoveBranch input from to) = ap (λ (o : Option End). not (option_map_or (λ output. same_end output from || same_end output to) o false)) (output_same m input)
lacks_same m (DeleteTree input) = refl
lacks_same m (VerifyTree input) = ap is_none (output_same m input)
lacks_same m (DeleteAll port) = refl
lacks_same m (PortManagement port function) = refl
lacks_same m AllPorts = refl

pub failure_same : (ports : List PortState) (vpis : ℕ) (m : Branches) (asked : Asked) → failure_of ports vpis (unmarked_branches m) asked ≡ failure_of ports vpis m asked
failure_same ports vpis m asked = ap (λ (test : Failure → Bool). find test (NoPort ∷ BadSession ∷ PortDown ∷ OutOfRange ∷ Busy ∷ NoConnection ∷ SessionsSpent ∷ [])) (λ i failure. each failure i)
  where
    each : (failure : Failure) → applies ports vpis (unmarked_branches m) asked failure ≡ applies ports vpis m asked failure
    each NoPort = refl
    each BadSession = refl
    each PortDown = refl
    each OutOfRange = refl
    each Busy = busy_same m asked.request
    each NoConnection = lacks_same m asked.request
    each SessionsSpent = refl

-- *How it is answered*
branch_same : (m : Branches) (request : Request) → branch_of (unmarked_branches m) request ≡ branch_of m request
branch_same m (AddBranch input output) = output_same m input
branch_same m (MoveBranch input from to) = output_same m input
branch_same m (DeleteTree input) = output_same m input
branch_same m (VerifyTree input) = output_same m input
branch_same m (DeleteAll port) = refl
branch_same m (PortManagement port function) = refl
branch_same m AllPorts = refl

pub answer_same : (ports : List PortState) (m : Branches) (request : Request) (message : Message) → success_answer ports (unmarked_branches m) request message ≡ success_answer ports m request message
answer_same ports m request (messages.Adjacency greeting) = refl
answer_same ports m request (messages.Branch kind result code number session input_port input output_port output branches priority) =
    ap (λ (o : Option End). branch_answer kind number session input_port input (told_output kind (end_at output_port output) o) (count_of o) priority) (branch_same m request)
answer_same ports m request (messages.Move result code number session input_port input output_port output target_port target branches priority) =
    ap (λ (o : Option End). messages.Move 3 0 number session input_port input output_port output target_port target (count_of o) priority) (branch_same m request)
answer_same ports m request (messages.Port result code number port session function) = refl
answer_same ports m request (messages.AllPorts result code number rows) = refl
