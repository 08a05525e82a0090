-- what an actor cut, of its site: the branches of a switch and its chain, and the chains of a controller

use Rattle.std.proofs.Common.{◌≡◌, ◌≢◌, ◌&&◌, ℕ, Bool, true, false, true≢false, List, [], ◌∷◌, ◌++◌, map, flat_map, append-nil, Option, None, Some, refl, sym, ◌∙◌, ap, arith, if◌then◌else◌}
use Rattle.std.specs.Prelude.{not, count_by, suc}
use Rattle.std.specs.Option.{option_map_or}
use Rattle.std.specs.FinMap.{get}
use Rattle.std.proofs.lemmas.Grind.{flat_map-append}
use Rattle.std.proofs.lemmas.List.Folds.{flat_map-map}
use Rattle.world_model.specs.Words.{End, Cell, Reassembly, cut, Entry, Journal, Controller, Switch, Site}
use Rattle.world_model.proofs.Lists.{count_append, count_here, count_there}
use Rattle.law_true_losses.specs.Cut.{Holder, OfBranch, OfSwitch, OfGsmp, OfDefault, OfLabel, same_holder, chain_in, held_in, is_empty_list, each_once, marks_in, is_given_up, cut_entry}
use Rattle.law_true_losses.proofs.Cutting.{CutsOf, chain_entries, cuts_in, cuts_chain, same_on, same_itself}
use Rattle.law_true_losses.proofs.Chains.{chains}
use Rattle.law_true_losses.proofs.Branches.{BranchCuts, not_left, open_by}

-- *What was cut of a site*, in order, each once
pub record SiteCuts (fed : Option Holder) (before after : Site) (notes : Journal) : Type 0 where
  pub cuts : List Holder
  pub entries : cuts_in notes ≡ flat_map (λ (h : Holder). map cut_entry (held_in before h)) cuts
  pub each : (h : Holder) → count_by (same_holder h) cuts ≡ (if not (option_map_or (same_holder h) fed false) && is_given_up (Some before) (Some after) h then 1 else 0)

-- a chain that is as it was isn't given up
full : (cells : List Cell) → (not (is_empty_list (each_once (marks_in cells))) && is_empty_list cells) ≡ false
full [] = refl
full (cell ∷ cells) = refl

pub none_if : (b c : Bool) → c ≡ false → ◌≡◌ {A = ℕ} (if b && c then 1 else 0) 0
none_if true c is = ap {B = ℕ} (λ (t : Bool). if t then 1 else 0) is
none_if false c is = refl

-- *Nothing is over* of what is the same
pub all_same : (site : Site) (h : Holder) → is_given_up (Some site) (Some site) h ≡ false
all_same site (OfBranch input) = not_left (get site.switch.crossbar.branches input) (get site.switch.crossbar.branches input) refl
all_same site OfSwitch = full site.switch.reassembly.chain
all_same site OfGsmp = full site.controller.reassembly.chain
all_same site (OfDefault port) = full (chain_in site (OfDefault port))
all_same site (OfLabel port label) = full (chain_in site (OfLabel port label))

-- *Of a controller*
module _ (site : Site) (c : Controller) (fed : Option Holder) (notes : Journal)
    (k : CutsOf fed (chains site.controller.reassembly site.controller.ports) (chains c.reassembly c.ports) notes) where
  abbrev acted : Site
  acted = record site { controller = c }

  abbrev before : Holder → List Cell
  before = chains site.controller.reassembly site.controller.ports

  -- nothing of the switch is cut
  none_of : (h : Holder) → before h ≡ [] → count_by (same_holder h) k.cuts ≡ 0
  none_of h is = k.each h ∙ none_if (not (option_map_or (same_holder h) fed false)) _ (ap (λ (cells : List Cell). not (is_empty_list (each_once (marks_in cells))) && is_empty_list (chains c.reassembly c.ports h)) is)

  entries_same : (h : Holder) → count_by (same_holder h) k.cuts ≢ 0 → chain_entries (before h) ≡ map cut_entry (held_in site h)
  entries_same (OfBranch input) some = absurd (some (none_of (OfBranch input) refl))
  entries_same OfSwitch some = absurd (some (none_of OfSwitch refl))
  entries_same OfGsmp some = refl
  entries_same (OfDefault port) some = refl
  entries_same (OfLabel port label) some = refl

  each_same : (h : Holder) → count_by (same_holder h) k.cuts ≡ (if not (option_map_or (same_holder h) fed false) && is_given_up (Some site) (Some acted) h then 1 else 0)
  each_same (OfBranch input) = none_of (OfBranch input) refl ∙ sym (none_if (not (option_map_or (same_holder (OfBranch input)) fed false)) _ (all_same site (OfBranch input)))
  each_same OfSwitch = none_of OfSwitch refl ∙ sym (none_if (not (option_map_or (same_holder OfSwitch) fed false)) _ (all_same site OfSwitch))
  each_same OfGsmp = k.each OfGsmp
  each_same (OfDefault port) = k.each (OfDefault port)
  each_same (OfLabel port label) = k.each (OfLabel port label)

  pub controller_cuts : SiteCuts fed site acted notes
  controller_cuts = record {
    cuts = k.cuts;
    entries = k.entries ∙ same_on (λ (h : Holder). chain_entries (before h)) (λ (h : Holder). map cut_entry (held_in site h)) k.cuts entries_same;
    each = each_same;
  }

-- *Of a switch*: what is counted of branches
count_one : (p : Holder → Bool) (input : End) (inputs : List End) → count_by p (map OfBranch inputs) ≡ count_by (λ (i : End). p (OfBranch i)) inputs → (b : Bool) → p (OfBranch input) ≡ b
    → count_by p (OfBranch input ∷ map OfBranch inputs) ≡ count_by (λ (i : End). p (OfBranch i)) (input ∷ inputs)
count_one p input inputs rest true t = count_here p (OfBranch input) (map OfBranch inputs) t ∙ ap suc rest ∙ sym (count_here (λ (i : End). p (OfBranch i)) input inputs t)
count_one p input inputs rest false t = count_there p (OfBranch input) (map OfBranch inputs) t ∙ rest ∙ sym (count_there (λ (i : End). p (OfBranch i)) input inputs t)

count_branches : (p : Holder → Bool) (inputs : List End) → count_by p (map OfBranch inputs) ≡ count_by (λ (input : End). p (OfBranch input)) inputs
count_branches p [] = refl
count_branches p (input ∷ inputs) = count_one p input inputs (count_branches p inputs) (p (OfBranch input)) refl

count_never : (p : End → Bool) → ((input : End) → p input ≡ false) → (inputs : List End) → count_by p inputs ≡ 0
count_never p never [] = refl
count_never p never (input ∷ inputs) = count_there p input inputs (never input) ∙ count_never p never inputs

no_branch : (h : Holder) → ((input : End) → same_holder h (OfBranch input) ≡ false) → (inputs : List End) → count_by (same_holder h) (map OfBranch inputs) ≡ 0
no_branch h never inputs = count_branches (same_holder h) inputs ∙ count_never (λ (input : End). same_holder h (OfBranch input)) never inputs

branch_entries : (site : Site) (inputs : List End)
    → flat_map (λ (input : End). map cut_entry (open_by (get site.switch.crossbar.branches input))) inputs ≡ flat_map (λ (h : Holder). map cut_entry (held_in site h)) (map OfBranch inputs)
branch_entries site inputs = sym (flat_map-map (λ (h : Holder). map cut_entry (held_in site h)) OfBranch inputs)

module _ (site : Site) (s : Switch) where
  abbrev switched : Site
  switched = record site { switch = s }

  -- its chain is as it was, or a cell came to it
  module _ (fed : Option Holder) (notes : Journal) (k : BranchCuts site.switch.crossbar.branches s.crossbar.branches notes)
      (others : (h : Holder) → ((input : End) → same_holder h (OfBranch input) ≡ false) → ◌≡◌ {A = ℕ} (if not (option_map_or (same_holder h) fed false) && is_given_up (Some site) (Some switched) h then 1 else 0) 0)
      (away : (input : End) → option_map_or (same_holder (OfBranch input)) fed false ≡ false) where
    pub switch_cuts : SiteCuts fed site switched notes
    switch_cuts = record { cuts = map OfBranch k.inputs; entries = k.entries ∙ branch_entries site k.inputs; each = each }
      where
        each : (h : Holder) → count_by (same_holder h) (map OfBranch k.inputs) ≡ (if not (option_map_or (same_holder h) fed false) && is_given_up (Some site) (Some switched) h then 1 else 0)
        each (OfBranch input) = count_branches (same_holder (OfBranch input)) k.inputs ∙ k.each input
            ∙ sym (ap {B = ℕ} (λ (b : Bool). if not b && is_given_up (Some site) (Some switched) (OfBranch input) then 1 else 0) (away input))
        each OfSwitch = no_branch OfSwitch (λ input. refl) k.inputs ∙ sym (others OfSwitch (λ input. refl))
        each OfGsmp = no_branch OfGsmp (λ input. refl) k.inputs ∙ sym (others OfGsmp (λ input. refl))
        each (OfDefault port) = no_branch (OfDefault port) (λ input. refl) k.inputs ∙ sym (others (OfDefault port) (λ input. refl))
        each (OfLabel port label) = no_branch (OfLabel port label) (λ input. refl) k.inputs ∙ sym (others (OfLabel port label) (λ input. refl))

  controller_stays : (fed : Option Holder) (h : Holder) → is_given_up (Some site) (Some site) h ≡ is_given_up (Some site) (Some switched) h
      → ◌≡◌ {A = ℕ} (if not (option_map_or (same_holder h) fed false) && is_given_up (Some site) (Some switched) h then 1 else 0) 0
  controller_stays fed h same = none_if (not (option_map_or (same_holder h) fed false)) _ (sym same ∙ all_same site h)

  pub fed_cuts : (notes : Journal) → BranchCuts site.switch.crossbar.branches s.crossbar.branches notes → SiteCuts (Some OfSwitch) site switched notes
  fed_cuts notes k = switch_cuts (Some OfSwitch) notes k others (λ input. refl)
    where
      others : (h : Holder) → ((input : End) → same_holder h (OfBranch input) ≡ false) → ◌≡◌ {A = ℕ} (if not (option_map_or (same_holder h) (Some OfSwitch) false) && is_given_up (Some site) (Some switched) h then 1 else 0) 0
      others (OfBranch input) never = absurd (true≢false (sym (same_itself (OfBranch input)) ∙ never input))
      others OfSwitch never = refl
      others OfGsmp never = controller_stays (Some OfSwitch) OfGsmp refl
      others (OfDefault port) never = controller_stays (Some OfSwitch) (OfDefault port) refl
      others (OfLabel port label) never = controller_stays (Some OfSwitch) (OfLabel port label) refl

  pub plain_cuts : (notes : Journal) → s.reassembly ≡ site.switch.reassembly → BranchCuts site.switch.crossbar.branches s.crossbar.branches notes → SiteCuts None site switched notes
  plain_cuts notes same k = switch_cuts None notes k others (λ input. refl)
    where
      others : (h : Holder) → ((input : End) → same_holder h (OfBranch input) ≡ false) → ◌≡◌ {A = ℕ} (if not (option_map_or (same_holder h) None false) && is_given_up (Some site) (Some switched) h then 1 else 0) 0
      others (OfBranch input) never = absurd (true≢false (sym (same_itself (OfBranch input)) ∙ never input))
      others OfSwitch never = ap {B = ℕ} (λ (b : Bool). if b then 1 else 0)
          (ap (λ (r : Reassembly). not (is_empty_list (each_once (marks_in site.switch.reassembly.chain))) && is_empty_list r.chain) same ∙ full site.switch.reassembly.chain)
      others OfGsmp never = controller_stays None OfGsmp refl
      others (OfDefault port) never = controller_stays None (OfDefault port) refl
      others (OfLabel port label) never = controller_stays None (OfLabel port label) refl

  -- *It restarts*: all its branches end, and then its chain is cut
  module _ (notes : Journal) (empty : s.reassembly.chain ≡ []) (k : BranchCuts site.switch.crossbar.branches s.crossbar.branches notes) where
    abbrev r : Reassembly
    r = site.switch.reassembly

    given : is_given_up (Some site) (Some switched) OfSwitch ≡ not (is_empty_list (each_once (marks_in r.chain)))
    given = ap (λ (cells : List Cell). not (is_empty_list (each_once (marks_in r.chain))) && is_empty_list cells) empty ∙ and_true (not (is_empty_list (each_once (marks_in r.chain))))
      where
        and_true : (b : Bool) → (b && true) ≡ b
        and_true true = refl
        and_true false = refl

    restart_on : (cells : List Cell) → r.chain ≡ cells → SiteCuts None site switched (cut notes r)
    restart_on [] is = record {
      cuts = map OfBranch k.inputs;
      entries = cuts_chain notes r ∙ ap (λ (cells : List Cell). cuts_in notes ++ chain_entries cells) is ∙ append-nil (cuts_in notes) ∙ k.entries ∙ branch_entries site k.inputs;
      each = each;
    }
      where
        each : (h : Holder) → count_by (same_holder h) (map OfBranch k.inputs) ≡ (if not (option_map_or (same_holder h) None false) && is_given_up (Some site) (Some switched) h then 1 else 0)
        each (OfBranch input) = count_branches (same_holder (OfBranch input)) k.inputs ∙ k.each input
        each OfSwitch = no_branch OfSwitch (λ input. refl) k.inputs
            ∙ sym (ap {B = ℕ} (λ (b : Bool). if b then 1 else 0) (given ∙ ap (λ (cells : List Cell). not (is_empty_list (each_once (marks_in cells)))) is))
        each OfGsmp = no_branch OfGsmp (λ input. refl) k.inputs ∙ sym (controller_stays None OfGsmp refl)
        each (OfDefault port) = no_branch (OfDefault port) (λ input. refl) k.inputs ∙ sym (controller_stays None (OfDefault port) refl)
        each (OfLabel port label) = no_branch (OfLabel port label) (λ input. refl) k.inputs ∙ sym (controller_stays None (OfLabel port label) refl)
    restart_on (cell ∷ cells) is = record {
      cuts = map OfBranch k.inputs ++ OfSwitch ∷ [];
      entries = cuts_chain notes r ∙ ap (λ (more : List Entry). more ++ chain_entries r.chain) (k.entries ∙ branch_entries site k.inputs)
          ∙ ap (λ (more : List Entry). flat_map entries_of (map OfBranch k.inputs) ++ more) (sym (append-nil (chain_entries r.chain)))
          ∙ sym (flat_map-append entries_of (map OfBranch k.inputs) (OfSwitch ∷ []));
      each = each;
    }
      where
        entries_of : Holder → List Entry
        entries_of h = map cut_entry (held_in site h)

        last : (h : Holder) → same_holder h OfSwitch ≡ false → count_by (same_holder h) (map OfBranch k.inputs ++ OfSwitch ∷ []) ≡ count_by (same_holder h) (map OfBranch k.inputs)
        last h away = (let none : count_by (same_holder h) (OfSwitch ∷ []) ≡ 0 = count_there (same_holder h) OfSwitch [] away in
            omega (arith, count_append (same_holder h) (map OfBranch k.inputs) (OfSwitch ∷ []), none))

        each : (h : Holder) → count_by (same_holder h) (map OfBranch k.inputs ++ OfSwitch ∷ []) ≡ (if not (option_map_or (same_holder h) None false) && is_given_up (Some site) (Some switched) h then 1 else 0)
        each (OfBranch input) = last (OfBranch input) refl ∙ count_branches (same_holder (OfBranch input)) k.inputs ∙ k.each input
        each OfSwitch =
            let none : count_by (same_holder OfSwitch) (map OfBranch k.inputs) ≡ 0 = no_branch OfSwitch (λ input. refl) k.inputs in
            let one : count_by (same_holder OfSwitch) (OfSwitch ∷ []) ≡ 1 = count_here (same_holder OfSwitch) OfSwitch [] refl in
            let sum : count_by (same_holder OfSwitch) (map OfBranch k.inputs ++ OfSwitch ∷ []) ≡ 1 = omega (arith, count_append (same_holder OfSwitch) (map OfBranch k.inputs) (OfSwitch ∷ []), none, one) in
            sum ∙ sym (ap {B = ℕ} (λ (b : Bool). if b then 1 else 0) (given ∙ ap (λ (cells : List Cell). not (is_empty_list (each_once (marks_in cells)))) is))
        each OfGsmp = last OfGsmp refl ∙ no_branch OfGsmp (λ input. refl) k.inputs ∙ sym (controller_stays None OfGsmp refl)
        each (OfDefault port) = last (OfDefault port) refl ∙ no_branch (OfDefault port) (λ input. refl) k.inputs ∙ sym (controller_stays None (OfDefault port) refl)
        each (OfLabel port label) = last (OfLabel port label) refl ∙ no_branch (OfLabel port label) (λ input. refl) k.inputs ∙ sym (controller_stays None (OfLabel port label) refl)

    pub restart_site : SiteCuts None site switched (cut notes r)
    restart_site = restart_on r.chain refl
