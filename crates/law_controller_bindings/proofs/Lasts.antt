-- which flow a label was bound to last, once more is noted

use Rattle.std.proofs.Common.{◌≡◌, ℕ, Bool, true, false, List, [], ◌∷◌, ◌++◌, Option, None, Some, refl, sym, ◌∙◌, ap, subst, arith, if◌then◌else◌, map, append_assoc}
use Rattle.std.specs.Prelude.{flat_map, nat_le, length, not, nat_eq, ◌&&◌, ◌||◌}
use Rattle.std.specs.Option.{option_or}
use Rattle.std.specs.List.{list_any}
use Rattle.std.proofs.lemmas.Grind.{flat_map-append}
use Rattle.std.proofs.lemmas.List.{append-nil}
use Rattle.std.proofs.lemmas.Bool.Decides.{nat_tests}
use Rattle.std.proofs.lemmas.List.Folds.{list_any-append}
use Rattle.law_controller.specs.world_model.Words.{NodeId, PortNo, Mark, FlowId, Cell, Record, Loss, Bind, Chance, PoolFull, Broken, Cut, has_entry, is_frame, Journal, noted, Reassembly, broken, noted_all, cut, distinct, marks_of, passed_over, without_slot, too_long, most_cells, tested, tested_by, payload_in, last_mark, Action, Note, CutChain, bound_by, last_bound}
use Rattle.law_controller.specs.world_model.frame_model.Reassembly.{Taken, taken, cell_joined}
use Rattle.law_controller.specs.world_model.frame_model.Frame.{octets_of}
use Rattle.law_controller.specs.ordered_lists.Ordered.{Every}
use Rattle.law_controller.proofs.ordered_lists.Every.{every_join}
use Rattle.law_controller.proofs.law_port_facts.Keyed.{on_both}
use Rattle.law_controller.specs.world_model.network_model.declared.link.LinkEnd.{LinkEnd}
use Rattle.law_controller_bindings.specs.Bindings.{site, IsOfNode}

-- *Options*
pub some_same : {A : Type 0} (x y : A) → Some x ≡ Some y → x ≡ y
some_same x y e = cc

pub none_some : {A : Type 0} (x : A) → None ≡ Some x → ⊥
none_some x e = absurd (cc e)

-- *Records that are added*
or_none : (o : Option FlowId) → o ≡ option_or o None
or_none None = refl
or_none (Some flow) = refl

or_or : (a b c : Option FlowId) → option_or (option_or a b) c ≡ option_or a (option_or b c)
or_or None b c = refl
or_or (Some flow) b c = refl

module _ (end : LinkEnd) (label : ℕ) where
  abbrev last : List Record → Option FlowId
  last records = last_bound records end label

  pub last_more : (xs ys : List Record) → last (xs ++ ys) ≡ option_or (last ys) (last xs)
  last_more [] ys = or_none (last ys)
  last_more (x ∷ xs) ys = ap (λ (o : Option FlowId). option_or o (bound_by end label x)) (last_more xs ys) ∙ or_or (last ys) (last xs) (bound_by end label x)

  pub quiet_more : (xs ys : List Record) → last ys ≡ None → last (xs ++ ys) ≡ last xs
  quiet_more xs ys none = last_more xs ys ∙ ap (λ (o : Option FlowId). option_or o (last xs)) none

-- every label was bound last to what it was
abbrev pub SameLast : List Record → List Record → Type 0
SameLast xs ys = (end : LinkEnd) (label : ℕ) → last_bound ys end label ≡ last_bound xs end label

pub same_behind : (xs ys zs : List Record) → SameLast xs ys → SameLast (xs ++ zs) (ys ++ zs)
same_behind xs ys zs same end label = last_more end label ys zs ∙ ap (λ (o : Option FlowId). option_or (last_bound zs end label) o) (same end label) ∙ sym (last_more end label xs zs)

-- *More is noted*, none of it binds, and all of it is of the node here
abbrev pub BindNothing : List Record → Type 0
BindNothing records = (end : LinkEnd) (label : ℕ) → last_bound records end label ≡ None

pub record Grows (Here : NodeId → Type 0) (xs ys : List Record) : Type 0 where
  pub more : List Record
  pub is : ys ≡ xs ++ more
  pub quiet : BindNothing more
  pub own : (node : NodeId) → Here node → Every (IsOfNode node) more

pub stays_so : {Here : NodeId → Type 0} (xs : List Record) → Grows Here xs xs
stays_so xs = record { more = []; is = sym (append-nil xs); quiet = λ end label. refl; own = λ node here. tt }

pub grows_then : {Here : NodeId → Type 0} (xs ys zs : List Record) → Grows Here xs ys → Grows Here ys zs → Grows Here xs zs
grows_then xs ys zs first second = record {
  more = first.more ++ second.more;
  is = second.is ∙ ap (λ (rs : List Record). rs ++ second.more) first.is ∙ append_assoc xs first.more second.more;
  quiet = λ end label. quiet_more end label first.more second.more (second.quiet end label) ∙ first.quiet end label;
  own = λ node here. every_join (IsOfNode node) first.more second.more (first.own node here) (second.own node here);
}

pub grows_where : {Here Later : NodeId → Type 0} (xs ys : List Record) → ((node : NodeId) → Here node → Later node) → Grows Later xs ys → Grows Here xs ys
grows_where xs ys later g = record { more = g.more; is = g.is; quiet = g.quiet; own = λ node here. g.own node (later node here) }

-- behind what was told before
pub grows_behind : (earlier more : List Record) → BindNothing more → SameLast earlier (earlier ++ more)
grows_behind earlier more quiet end label = quiet_more end label earlier more (quiet end label)

pub noted_grows : {Here : NodeId → Type 0} (notes : Journal) (item : Record) → BindNothing (item ∷ []) → ((node : NodeId) → Here node → IsOfNode node item) → Grows Here notes.records (noted notes item).records
noted_grows notes item nothing own = record { more = item ∷ []; is = refl; quiet = nothing; own = λ node here. (own node here, tt) }

-- *Chains that are broken, cut or tested*
pub broken_grows : {Here : NodeId → Type 0} (marks : List Mark) (notes : Journal) → Grows Here notes.records (broken notes marks).records
broken_grows [] notes = stays_so notes.records
broken_grows {Here} (mark ∷ marks) notes =
    let next : Journal = if has_entry notes.entries mark then notes else noted notes (Loss mark Broken) in
    grows_then notes.records next.records (broken notes (mark ∷ marks)).records
    (on_both (λ (j : Journal). Grows Here notes.records j.records) (has_entry notes.entries mark) notes (noted notes (Loss mark Broken)) (stays_so notes.records) (noted_grows notes (Loss mark Broken) (λ end label. refl) (λ node here. tt)))
    (broken_grows marks next)

cut_each : {Here : NodeId → Type 0} (marks : List Mark) (notes : Journal) → Grows Here notes.records (noted_all notes (map (λ (mark : Mark). Loss mark Cut) marks)).records
cut_each [] notes = stays_so notes.records
cut_each (mark ∷ marks) notes = grows_then notes.records (noted notes (Loss mark Cut)).records (noted_all notes (map (λ (mark : Mark). Loss mark Cut) (mark ∷ marks))).records
    (noted_grows notes (Loss mark Cut) (λ end label. refl) (λ node here. tt)) (cut_each marks (noted notes (Loss mark Cut)))

pub cut_grows : {Here : NodeId → Type 0} (notes : Journal) (r : Reassembly) → Grows Here notes.records (cut notes r).records
cut_grows notes r = cut_each (distinct (marks_of r.chain)) notes

pub taken_grows : {Here : NodeId → Type 0} (notes : Journal) (has_slot : Bool) (r : Reassembly) (cell : Cell) → Grows Here notes.records (taken notes has_slot r cell).notes.records
taken_grows {Here} notes has_slot r cell = on_both More r.is_skipping (passed_over notes r cell) (if not has_slot then without_slot notes r cell else (if nat_le most_cells (length r.chain) then too_long notes r cell else cell_joined notes r cell))
    (broken_grows (cell.mark ∷ []) notes)
    (on_both More (not has_slot) (without_slot notes r cell) (if nat_le most_cells (length r.chain) then too_long notes r cell else cell_joined notes r cell)
    (grows_then notes.records (noted notes (Loss cell.mark PoolFull)).records (without_slot notes r cell).notes.records (noted_grows notes (Loss cell.mark PoolFull) (λ end label. refl) (λ node here. tt)) (broken_grows (marks_of r.chain) (noted notes (Loss cell.mark PoolFull))))
    (on_both More (nat_le most_cells (length r.chain)) (too_long notes r cell) (cell_joined notes r cell) (broken_grows (marks_of (r.chain ++ cell ∷ [])) notes)
    (on_both More cell.header.last (record { reassembly = record r { chain = [] }; notes = notes; ended = r.chain ++ cell ∷ [] }) (record { reassembly = record r { chain = r.chain ++ cell ∷ [] }; notes = notes; ended = [] })
    (stays_so notes.records) (stays_so notes.records))))
  where
    More : Taken → Type 0
    More t = Grows Here notes.records t.notes.records

pub tested_grows : {Here : NodeId → Type 0} (notes : Journal) (cells : List Cell) → Grows Here notes.records (tested notes cells).notes.records
tested_grows {Here} notes cells = by_payload (payload_in (octets_of cells))
  where
    by_payload : (o : Option (List ℕ)) → Grows Here notes.records (tested_by notes cells o).notes.records
    by_payload None = broken_grows (marks_of cells) notes
    by_payload (Some payload) = on_both (λ (j : Journal). Grows Here notes.records j.records) (is_frame notes.frames (last_mark cells) payload) notes (noted notes (Chance (last_mark cells)))
        (stays_so notes.records) (noted_grows notes (Chance (last_mark cells)) (λ end label. refl) (λ node here. tt))

-- *What a port at work has still to note, and to cut*
abbrev pub notes_by : Action → List Record
notes_by (Note item) = item ∷ []
notes_by action = []

abbrev pub noted_in : List Action → List Record
noted_in xs = flat_map notes_by xs

abbrev cuts_by : Action → List ℕ
cuts_by (CutChain label) = label ∷ []
cuts_by action = []

abbrev pub cuts_in : List Action → List ℕ
cuts_in xs = flat_map cuts_by xs

abbrev pub Has : List ℕ → ℕ → Type 0
Has numbers n = list_any (λ (k : ℕ). nat_eq k n) numbers ≡ true

-- an action that binds nothing
abbrev pub IsQuiet : Action → Type 0
IsQuiet x = (end : LinkEnd) (label : ℕ) → last_bound (noted_in (x ∷ [])) end label ≡ None

pub more_noted : (records : List Record) (xs : List Action) (x : Action) → records ++ noted_in (xs ++ x ∷ []) ≡ (records ++ noted_in xs) ++ noted_in (x ∷ [])
more_noted records xs x = ap (λ (ys : List Record). records ++ ys) (flat_map-append notes_by xs (x ∷ [])) ∙ sym (append_assoc records (noted_in xs) (noted_in (x ∷ [])))

pub more_last : (records : List Record) (xs : List Action) (x : Action) → IsQuiet x → SameLast (records ++ noted_in xs) (records ++ noted_in (xs ++ x ∷ []))
more_last records xs x quiet end label = ap (λ (ys : List Record). last_bound ys end label) (more_noted records xs x) ∙ quiet_more end label (records ++ noted_in xs) (noted_in (x ∷ [])) (quiet end label)

-- what is noted is of this node, with one more
pub more_own : (node : NodeId) (xs : List Action) (x : Action) → Every (IsOfNode node) (noted_in xs) → Every (IsOfNode node) (noted_in (x ∷ [])) → Every (IsOfNode node) (noted_in (xs ++ x ∷ []))
more_own node xs x all one = subst (Every (IsOfNode node)) (sym (flat_map-append notes_by xs (x ∷ []))) (every_join (IsOfNode node) (noted_in xs) (noted_in (x ∷ [])) all one)

either_left : (a b : Bool) → a ≡ true → (a || b) ≡ true
either_left true b e = refl
either_left false b e = absurd (cc e)

either_right : (a b : Bool) → b ≡ true → (a || b) ≡ true
either_right true b e = refl
either_right false b e = e

pub more_cuts : (xs : List Action) (x : Action) (n : ℕ) → Has (cuts_in xs) n → Has (cuts_in (xs ++ x ∷ [])) n
more_cuts xs x n has = subst (λ (ks : List ℕ). Has ks n) (sym (flat_map-append cuts_by xs (x ∷ []))) (list_any-append (λ (k : ℕ). nat_eq k n) (cuts_in xs) (cuts_in (x ∷ [])) ∙ either_left _ _ has)

pub new_cut : (xs : List Action) (n : ℕ) → Has (cuts_in (xs ++ CutChain n ∷ [])) n
new_cut xs n = (let same : nat_eq n n ≡ true = grind (arith, nat_tests) in
    subst (λ (ks : List ℕ). Has ks n) (sym (flat_map-append cuts_by xs (CutChain n ∷ []))) (list_any-append (λ (k : ℕ). nat_eq k n) (cuts_in xs) (n ∷ []) ∙ either_right (list_any (λ (k : ℕ). nat_eq k n) (cuts_in xs)) (nat_eq n n || false) (ap (λ (b : Bool). b || false) same)))

-- *A binding that is noted*
nat_same : (n : ℕ) → nat_eq n n ≡ true
nat_same n = grind (arith, nat_tests)

pub bound_now : (records : List Record) (node : NodeId) (port : PortNo) (label : ℕ) (flow : FlowId) → last_bound (records ++ Bind node port label flow ∷ []) (site node port) label ≡ Some flow
bound_now records node port label flow = last_more (site node port) label records (Bind node port label flow ∷ [])
    ∙ ap (λ (b : Bool). option_or (if b then Some flow else None) (last_bound records (site node port) label))
    (ap (λ (b : Bool). b && (nat_eq port.0 port.0 && nat_eq label label)) (nat_same node.0) ∙ ap (λ (b : Bool). b && nat_eq label label) (nat_same port.0) ∙ nat_same label)

-- of another port's label, or of another label, it is not
pub bound_elsewhere : (records : List Record) (node : NodeId) (port : PortNo) (label : ℕ) (flow : FlowId) (end : LinkEnd) (other : ℕ) → (port.0 ≡ end.port.0 → label ≡ other → ⊥)
    → last_bound (records ++ Bind node port label flow ∷ []) end other ≡ last_bound records end other
bound_elsewhere records node port label flow end other apart = quiet_more end other records (Bind node port label flow ∷ []) (ap (λ (b : Bool). if b then Some flow else None) fails)
  where
    both_fail : (a b c : Bool) → (b ≡ true → c ≡ true → ⊥) → (a && (b && c)) ≡ false
    both_fail false b c n = refl
    both_fail true false c n = refl
    both_fail true true false n = refl
    both_fail true true true n = absurd (n refl refl)

    fails : (nat_eq node.0 end.node.0 && (nat_eq port.0 end.port.0 && nat_eq label other)) ≡ false
    fails = both_fail (nat_eq node.0 end.node.0) (nat_eq port.0 end.port.0) (nat_eq label other) (λ p l. apart (grind (arith, nat_tests)) (grind (arith, nat_tests)))
