-- chains that are given up, one after the other: each is entered once

use Rattle.std.proofs.Common.{◌≡◌, ◌≢◌, ◌==◌, ◌&&◌, ℕ, Bool, true, false, List, [], ◌∷◌, ◌++◌, map, filter, flat_map, append-nil, append_assoc, refl, sym, ◌∙◌, ap, subst, arith, if◌then◌else◌}
use Rattle.std.specs.Prelude.{not, count_by, Option, None, Some}
use Rattle.std.specs.Option.{option_map_or}
use Rattle.std.proofs.lemmas.List.Concat.{flat_map-cons}
use Rattle.std.proofs.lemmas.Grind.{flat_map-append}
use Rattle.std.proofs.lemmas.List.Elements.{filter-append}
use Rattle.std.proofs.lemmas.Bool.Decides.{nat_tests}
use Rattle.world_model.specs.Words.{Mark, PortNo, End, Cell, same_end, Entry, Record, Loss, Chance, Cut, Broken, PoolFull, same_mark, Journal, losses_of, noted, Reassembly, marks_of, distinct, noted_all, cut, tested}
use Rattle.world_model.specs.frame_model.Reassembly.{taken}
use Rattle.world_model.proofs.Lists.{count_append, count_here, count_there}
use Rattle.law_true_losses.specs.Cut.{Holder, OfBranch, OfSwitch, OfGsmp, OfDefault, OfLabel, same_holder, is_empty_list, each_once, marks_in, is_of_cut, cut_entry}
use Rattle.law_true_losses.proofs.Notes.{losses_more, tested_each, taken_each}

-- *The entries Cut* of an event
abbrev pub cuts_in : Journal → List Entry
cuts_in notes = filter is_of_cut (losses_of notes.records)

pub cuts_noted : (notes : Journal) (item : Record) → cuts_in (noted notes item) ≡ cuts_in notes ++ filter is_of_cut (losses_of (item ∷ []))
cuts_noted notes item = ap (filter is_of_cut) (losses_more notes.records (item ∷ [])) ∙ filter-append is_of_cut (losses_of notes.records) (losses_of (item ∷ []))

pub cuts_other : (notes : Journal) (item : Record) → filter is_of_cut (losses_of (item ∷ [])) ≡ [] → cuts_in (noted notes item) ≡ cuts_in notes
cuts_other notes item other = cuts_noted notes item ∙ ap (λ (more : List Entry). cuts_in notes ++ more) other ∙ append-nil (cuts_in notes)

pub tested_cuts : (notes : Journal) (cells : List Cell) → cuts_in (tested notes cells).notes ≡ cuts_in notes
tested_cuts notes cells = tested_each (λ (more : Journal). cuts_in more ≡ cuts_in notes) (λ more mark none h. cuts_other more (Loss mark Broken) refl ∙ h) (λ more mark h. cuts_other more (Chance mark) refl ∙ h) notes cells refl

pub taken_cuts : (notes : Journal) (has_slot : Bool) (r : Reassembly) (cell : Cell) → cuts_in (taken notes has_slot r cell).notes ≡ cuts_in notes
taken_cuts notes has_slot r cell = taken_each (λ (more : Journal). cuts_in more ≡ cuts_in notes) (λ more mark none h. cuts_other more (Loss mark Broken) refl ∙ h)
    (λ more mark h. cuts_other more (Loss mark PoolFull) refl ∙ h) notes has_slot r cell refl

cuts_all : (notes : Journal) (marks : List Mark) → cuts_in (noted_all notes (map (λ (mark : Mark). Loss mark Cut) marks)) ≡ cuts_in notes ++ map cut_entry marks
cuts_all notes [] = sym (append-nil (cuts_in notes))
cuts_all notes (mark ∷ marks) = cuts_all (noted notes (Loss mark Cut)) marks
    ∙ ap (λ (more : List Entry). more ++ map cut_entry marks) (cuts_noted notes (Loss mark Cut))
    ∙ append_assoc (cuts_in notes) (cut_entry mark ∷ []) (map cut_entry marks)

once_is : (marks : List Mark) → distinct marks ≡ each_once marks
once_is [] = refl
once_is (mark ∷ marks) = ap (λ (more : List Mark). mark ∷ filter (λ other. not (same_mark mark other)) more) (once_is marks)

abbrev pub chain_entries : List Cell → List Entry
chain_entries cells = map cut_entry (each_once (marks_in cells))

pub cuts_chain : (notes : Journal) (r : Reassembly) → cuts_in (cut notes r) ≡ cuts_in notes ++ chain_entries r.chain
cuts_chain notes r = cuts_all notes (distinct (marks_of r.chain)) ∙ ap (λ (marks : List Mark). cuts_in notes ++ map cut_entry marks) (once_is (marks_of r.chain))

-- *The same holder*
pub same_ends : (one other : End) → same_end one other ≡ true → one ≡ other
same_ends one other t =
    let port : one.port.0 ≡ other.port.0 = grind (arith, nat_tests) in
    let vpi : one.channel.vpi ≡ other.channel.vpi = grind (arith, nat_tests) in
    let vci : one.channel.vci ≡ other.channel.vci = grind (arith, nat_tests) in
    λ i. record { port = record { 0 = port i }; channel = record { vpi = vpi i; vci = vci i } }

same_ports : (one other : PortNo) → (one.0 == other.0) ≡ true → one ≡ other
same_ports one other t = (let e : one.0 ≡ other.0 = grind (arith, nat_tests) in ap (λ (n : ℕ). record { 0 = n }) e)

pub are_same : (one other : Holder) → same_holder one other ≡ true → one ≡ other
are_same (OfBranch input) (OfBranch far) t = ap OfBranch (same_ends input far t)
are_same (OfBranch input) OfSwitch t = absurd (cc t)
are_same (OfBranch input) OfGsmp t = absurd (cc t)
are_same (OfBranch input) (OfDefault p) t = absurd (cc t)
are_same (OfBranch input) (OfLabel p l) t = absurd (cc t)
are_same OfSwitch (OfBranch far) t = absurd (cc t)
are_same OfSwitch OfSwitch t = refl
are_same OfSwitch OfGsmp t = absurd (cc t)
are_same OfSwitch (OfDefault p) t = absurd (cc t)
are_same OfSwitch (OfLabel p l) t = absurd (cc t)
are_same OfGsmp (OfBranch far) t = absurd (cc t)
are_same OfGsmp OfSwitch t = absurd (cc t)
are_same OfGsmp OfGsmp t = refl
are_same OfGsmp (OfDefault p) t = absurd (cc t)
are_same OfGsmp (OfLabel p l) t = absurd (cc t)
are_same (OfDefault port) (OfBranch far) t = absurd (cc t)
are_same (OfDefault port) OfSwitch t = absurd (cc t)
are_same (OfDefault port) OfGsmp t = absurd (cc t)
are_same (OfDefault port) (OfDefault p) t = ap OfDefault (same_ports port p t)
are_same (OfDefault port) (OfLabel p l) t = absurd (cc t)
are_same (OfLabel port label) (OfBranch far) t = absurd (cc t)
are_same (OfLabel port label) OfSwitch t = absurd (cc t)
are_same (OfLabel port label) OfGsmp t = absurd (cc t)
are_same (OfLabel port label) (OfDefault p) t = absurd (cc t)
are_same (OfLabel port label) (OfLabel p l) t =
    let q : (port.0 == p.0) ≡ true = grind (arith, nat_tests) in
    let number : label ≡ l = grind (arith, nat_tests) in
    λ i. OfLabel (same_ports port p q i) (number i)

-- *What became of a chain*: it is as it was, or it is over, and stands once in the list
pub data Fares (n : ℕ) (before now : List Cell) : Type 0 where
  stays : n ≡ 0 → now ≡ before → Fares n before now
  over : n ≡ 1 → now ≡ [] → is_empty_list before ≡ false → Fares n before now

pub record Cuts (before now : Holder → List Cell) (notes : Journal) : Type 0 where
  pub cuts : List Holder
  pub entries : cuts_in notes ≡ flat_map (λ (h : Holder). chain_entries (before h)) cuts
  pub fares : (h : Holder) → Fares (count_by (same_holder h) cuts) (before h) (now h)

-- none yet
pub cuts_none : (before : Holder → List Cell) (notes : Journal) → cuts_in notes ≡ [] → Cuts before before notes
cuts_none before notes none = record { cuts = []; entries = none; fares = λ h. stays refl refl }

-- nothing is cut
pub cuts_as : (before now after : Holder → List Cell) (notes more : Journal) → cuts_in more ≡ cuts_in notes → ((h : Holder) → after h ≡ now h)
    → Cuts before now notes → Cuts before after more
cuts_as before now after notes more same alike h = record {
  cuts = h.cuts;
  entries = same ∙ h.entries;
  fares = λ k. subst (Fares (count_by (same_holder k) h.cuts) (before k)) (sym (alike k)) (h.fares k);
}

-- *One more chain is cut*
module _ (before now after : Holder → List Cell) (notes : Journal) (r : Reassembly) (k : Holder) (holds : now k ≡ r.chain)
    (goes : (h : Holder) → after h ≡ (if same_holder h k then [] else now h)) (c : Cuts before now notes) where
  -- which held nothing
  emptied : r.chain ≡ [] → Cuts before after (cut notes r)
  emptied none = cuts_as before now after notes (cut notes r)
      (cuts_chain notes r ∙ ap (λ (cells : List Cell). cuts_in notes ++ chain_entries cells) none ∙ append-nil (cuts_in notes))
      (λ h. goes h ∙ by h (same_holder h k) refl) c
    where
      by : (h : Holder) (b : Bool) → same_holder h k ≡ b → (if b then [] else now h) ≡ now h
      by h true t = sym (ap now (are_same h k t) ∙ holds ∙ none)
      by h false t = refl

  -- which held cells: it stood as it was before
  was_there : (cell : Cell) (cells : List Cell) → r.chain ≡ cell ∷ cells → (n : ℕ) → Fares n (before k) (now k) → (n ≡ 0) × (now k ≡ before k)
  was_there cell cells is n (stays none same) = (none, same)
  was_there cell cells is n (over one gone held) = (let clash : [] ≡ cell ∷ cells = sym gone ∙ holds ∙ is in absurd (cc clash))

  cut_one : (cell : Cell) (cells : List Cell) → r.chain ≡ cell ∷ cells → Cuts before after (cut notes r)
  cut_one cell cells is = record {
    cuts = c.cuts ++ k ∷ [];
    entries = cuts_chain notes r ∙ ap (λ (more : List Entry). more ++ chain_entries r.chain) c.entries
        ∙ ap (λ (chain : List Cell). flat_map (λ (h : Holder). chain_entries (before h)) c.cuts ++ chain_entries chain) (sym holds ∙ there.1)
        ∙ ap (λ (more : List Entry). flat_map (λ (h : Holder). chain_entries (before h)) c.cuts ++ more) (sym (append-nil (chain_entries (before k))))
        ∙ sym (flat_map-append (λ (h : Holder). chain_entries (before h)) c.cuts (k ∷ []));
    fares = λ h. by h (same_holder h k) refl;
  }
    where
      there : (count_by (same_holder k) c.cuts ≡ 0) × (now k ≡ before k)
      there = was_there cell cells is (count_by (same_holder k) c.cuts) (c.fares k)

      held : is_empty_list (before k) ≡ false
      held = ap (is_empty_list {A = Cell}) (sym there.1 ∙ holds ∙ is)

      by : (h : Holder) (b : Bool) → same_holder h k ≡ b → Fares (count_by (same_holder h) (c.cuts ++ k ∷ [])) (before h) (after h)
      by h true t =
          let same : h ≡ k = are_same h k t in
          let none : count_by (same_holder h) c.cuts ≡ 0 = ap (λ (x : Holder). count_by (same_holder x) c.cuts) same ∙ there.0 in
          let one : count_by (same_holder h) (k ∷ []) ≡ 1 = count_here (same_holder h) k [] t in
          over (omega (arith, count_append (same_holder h) c.cuts (k ∷ []), none, one))
          (goes h ∙ ap (λ (b : Bool). if b then [] else now h) t) (ap (λ (x : Holder). is_empty_list (before x)) same ∙ held)
      by h false t =
          let none : count_by (same_holder h) (k ∷ []) ≡ 0 = count_there (same_holder h) k [] t in
          let alike : after h ≡ now h = goes h ∙ ap (λ (b : Bool). if b then [] else now h) t in
          let more : count_by (same_holder h) (c.cuts ++ k ∷ []) ≡ count_by (same_holder h) c.cuts = omega (arith, count_append (same_holder h) c.cuts (k ∷ []), none) in
          subst (λ (n : ℕ). Fares n (before h) (after h)) (sym more) (subst (Fares (count_by (same_holder h) c.cuts) (before h)) (sym alike) (c.fares h))

  pub cuts_more : Cuts before after (cut notes r)
  cuts_more = by r.chain refl
    where
      by : (cells : List Cell) → r.chain ≡ cells → Cuts before after (cut notes r)
      by [] is = emptied is
      by (cell ∷ cells) is = cut_one cell cells is

-- *So each stands there once* that held cells and holds none
pub once_given_up : (n : ℕ) (before now : List Cell) → Fares n before now → n ≡ (if not (is_empty_list (each_once (marks_in before))) && is_empty_list now then 1 else 0)
once_given_up n [] now (stays none same) = none
once_given_up n (cell ∷ cells) now (stays none same) = none ∙ ap (λ (chain : List Cell). if is_empty_list chain then 1 else 0) (sym same)
once_given_up n [] now (over one gone held) = absurd (cc held)
once_given_up n (cell ∷ cells) now (over one gone held) = one ∙ ap (λ (chain : List Cell). if is_empty_list chain then 1 else 0) (sym gone)

-- *What an actor cut*, of the chains that were there; that which a cell came to is ended by the cell, where it ends
pub record CutsOf (fed : Option Holder) (before after : Holder → List Cell) (notes : Journal) : Type 0 where
  pub cuts : List Holder
  pub entries : cuts_in notes ≡ flat_map (λ (h : Holder). chain_entries (before h)) cuts
  pub each : (h : Holder) → count_by (same_holder h) cuts
      ≡ (if not (option_map_or (same_holder h) fed false) && (not (is_empty_list (each_once (marks_in (before h)))) && is_empty_list (after h)) then 1 else 0)

pub cuts_of : (before after : Holder → List Cell) (notes : Journal) → Cuts before after notes → CutsOf None before after notes
cuts_of before after notes c = record { cuts = c.cuts; entries = c.entries; each = λ h. once_given_up (count_by (same_holder h) c.cuts) (before h) (after h) (c.fares h) }

-- lists of what is the same where it stands in the list
pub same_itself : (h : Holder) → same_holder h h ≡ true
same_itself (OfBranch input) = grind (arith, nat_tests)
same_itself OfSwitch = refl
same_itself OfGsmp = refl
same_itself (OfDefault port) = grind (arith, nat_tests)
same_itself (OfLabel port label) = grind (arith, nat_tests)

pub same_on : (f g : Holder → List Entry) (cuts : List Holder) → ((h : Holder) → count_by (same_holder h) cuts ≢ 0 → f h ≡ g h) → flat_map f cuts ≡ flat_map g cuts
same_on f g [] each = refl
same_on f g (h ∷ hs) each = flat_map-cons f h hs ∙ ap (λ (more : List Entry). more ++ flat_map f hs) (each h (λ none. absurd (omega (arith, none, count_here (same_holder h) h hs (same_itself h)))))
    ∙ ap (λ (more : List Entry). g h ++ more) (same_on f g hs (λ k some. each k (λ none. some (later k none)))) ∙ sym (flat_map-cons g h hs)
  where
    later : (k : Holder) → count_by (same_holder k) (h ∷ hs) ≡ 0 → count_by (same_holder k) hs ≡ 0
    later k none = by (same_holder k h) refl
      where
        by : (b : Bool) → same_holder k h ≡ b → count_by (same_holder k) hs ≡ 0
        by true t = absurd (omega (arith, none, count_here (same_holder k) h hs t))
        by false t = sym (count_there (same_holder k) h hs t) ∙ none

-- *A cell came* to a chain, which ended with it
module _ (k : Holder) (before begun after : Holder → List Cell) (notes : Journal) (ended : (h : Holder) → begun h ≡ (if same_holder h k then [] else before h)) (c : Cuts begun after notes) where
  none_of : (n : ℕ) (now : List Cell) → Fares n [] now → n ≡ 0
  none_of n now (stays none same) = none
  none_of n now (over one gone held) = absurd (cc held)

  not_fed : (h : Holder) → same_holder h k ≡ true → count_by (same_holder h) c.cuts ≡ 0
  not_fed h t = none_of (count_by (same_holder h) c.cuts) (after h)
      (subst (λ (chain : List Cell). Fares (count_by (same_holder h) c.cuts) chain (after h)) (ended h ∙ ap (λ (b : Bool). if b then [] else before h) t) (c.fares h))

  elsewhere : (h : Holder) → same_holder h k ≡ false → begun h ≡ before h
  elsewhere h t = ended h ∙ ap (λ (b : Bool). if b then [] else before h) t

  pub ended_cuts : CutsOf (Some k) before after notes
  ended_cuts = record {
    cuts = c.cuts;
    entries = c.entries ∙ same_on (λ (h : Holder). chain_entries (begun h)) (λ (h : Holder). chain_entries (before h)) c.cuts (λ h some. there h some (same_holder h k) refl);
    each = λ h. by h (same_holder h k) refl;
  }
    where
      there : (h : Holder) → count_by (same_holder h) c.cuts ≢ 0 → (b : Bool) → same_holder h k ≡ b → chain_entries (begun h) ≡ chain_entries (before h)
      there h some true t = absurd (some (not_fed h t))
      there h some false t = ap (λ (chain : List Cell). chain_entries chain) (elsewhere h t)

      by : (h : Holder) (b : Bool) → same_holder h k ≡ b
          → count_by (same_holder h) c.cuts ≡ (if not (same_holder h k) && (not (is_empty_list (each_once (marks_in (before h)))) && is_empty_list (after h)) then 1 else 0)
      by h true t = not_fed h t ∙ sym (ap {B = ℕ} (λ (b : Bool). if not b && (not (is_empty_list (each_once (marks_in (before h)))) && is_empty_list (after h)) then 1 else 0) t)
      by h false t = once_given_up (count_by (same_holder h) c.cuts) (before h) (after h)
          (subst (λ (chain : List Cell). Fares (count_by (same_holder h) c.cuts) chain (after h)) (elsewhere h t) (c.fares h))
          ∙ sym (ap {B = ℕ} (λ (b : Bool). if not b && (not (is_empty_list (each_once (marks_in (before h)))) && is_empty_list (after h)) then 1 else 0) t)

-- or went on
pub kept_cuts : (k : Holder) (before after : Holder → List Cell) (notes : Journal) (now : List Cell) → cuts_in notes ≡ [] → ((h : Holder) → after h ≡ (if same_holder h k then now else before h)) → CutsOf (Some k) before after notes
kept_cuts k before after notes now none kept = record {
  cuts = [];
  entries = none;
  each = λ h. by h (same_holder h k) refl;
}
  where
    by : (h : Holder) (b : Bool) → same_holder h k ≡ b → ◌≡◌ {A = ℕ} 0 (if not (same_holder h k) && (not (is_empty_list (each_once (marks_in (before h)))) && is_empty_list (after h)) then 1 else 0)
    by h true t = sym (ap {B = ℕ} (λ (b : Bool). if not b && (not (is_empty_list (each_once (marks_in (before h)))) && is_empty_list (after h)) then 1 else 0) t)
    by h false t = once_given_up 0 (before h) (after h) (stays refl (kept h ∙ ap (λ (b : Bool). if b then now else before h) t))
        ∙ sym (ap {B = ℕ} (λ (b : Bool). if not b && (not (is_empty_list (each_once (marks_in (before h)))) && is_empty_list (after h)) then 1 else 0) t)
