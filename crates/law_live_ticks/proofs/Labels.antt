-- a tick of labels that are kept, one after another

use Rattle.std.proofs.Common.{◌≡◌, ◌≢◌, ℕ, suc, ◌≤◌, ◌<◌, ◌+◌, ◌||◌, Bool, true, false, not, List, [], ◌∷◌, ◌++◌, length, append_assoc, append-nil, refl, sym, ◌∙◌, ap, subst, arith, if◌then◌else◌, map, fold}
use Rattle.std.specs.Prelude.{nat_le, nat_lt, is_none}
use Rattle.std.proofs.lemmas.Bool.Decides.{nat_tests}
use Rattle.port_model.specs.Words.{Instance, Peer, Side, put, Desk, Setup, Label, label_number, Grant, Session, Work, with_label, last_number, own_instance, redirect, halts_if_spent, halts, spent_number, recalls, refreshes, idles, one_idler, one_older, ticks_in, ticks_found, ticks_label}
use Rattle.port_model.specs.declared.action.Action.{Action}
use Rattle.port_model.specs.declared.action.Action.TheVariants.{Say}
use Rattle.port_model.specs.Port.{with_action}
use Rattle.port_model.specs.Saying.{peer_instance, says, with_number}
use Rattle.law_port_facts.specs.ordered_lists.Ordered.{Every, InOrder}
use Rattle.law_live_ticks.specs.Law.{IsKept, aged, is_due, told_anew, redirects}
use Rattle.law_live_ticks.proofs.Places.{at_place, put_place, one_before}
use Rattle.law_live_ticks.proofs.Grants.{at_work}

module _ (setup : Setup) (desk : Desk) (side : Side Peer) (told instances : ℕ) (grants : List Grant) (s : Session) where
  -- with these labels, the next number and the actions so far
  abbrev holding : List Label → (number : ℕ) → List Action → Work
  holding labels number actions = at_work side told instances (record s { labels = labels; number = number }) grants actions

  abbrev message : Label → (number : ℕ) → Action
  message label number = Say (redirect setup label (own_instance side) (peer_instance side) number)

  -- a numbered message is said while numbers are left
  said_now : (labels : List Label) (number : ℕ) (actions : List Action) (label : Label) → number < last_number
      → says (holding labels number actions) (redirect setup label) ≡ holding labels (number + 1) (actions ++ message label number ∷ [])
  said_now labels number actions label low =
      ap (λ (b : Bool). halts_if_spent (if b then with_action (with_number (number + 1) (holding labels number actions)) (message label number) else with_number spent_number (holding labels number actions))) (below number last_number low)
      ∙ ap (λ (b : Bool). if b then halts (holding labels (number + 1) (actions ++ message label number ∷ [])) else holding labels (number + 1) (actions ++ message label number ∷ [])) (left number last_number low)
    where
      below : (n m : ℕ) → n < m → nat_lt n m ≡ true
      below n m h = grind (arith, nat_tests)

      left : (n m : ℕ) → n < m → nat_lt m (n + 1) ≡ false
      left n m h = grind (arith, nat_tests)

  -- *What is said and counted* of one label
  abbrev said_of : Label → (number : ℕ) → List Action
  said_of label number = if is_due setup label then message label number ∷ [] else []

  abbrev number_after : Label → (number : ℕ) → ℕ
  number_after label number = if is_due setup label then number + 1 else number

  module _ (before : List Label) (label : Label) (after : List Label) (number : ℕ) (actions : List Action) (low : number < last_number)
      (apart : Every (λ (b : Label). label_number b ≢ label_number label) before) where
    abbrev now : Work
    now = holding (before ++ label ∷ after) number actions

    put_here : (next : Label) → next.number ≡ label.number → put label_number next (before ++ label ∷ after) ≡ before ++ next ∷ after
    put_here next same = put_place label_number before label next after (sym same) (subst (λ k. Every (λ (b : Label). label_number b ≢ k) before) (sym same) apart)

    -- a label that is one tick older is told anew where that is due
    refreshed : (older : Label) → older.number ≡ label.number → (due : Bool) → nat_le setup.timers.refresh older.ticks ≡ due
        → ((own peer : Instance) (n : ℕ) → redirect setup older own peer n ≡ redirect setup label own peer n)
        → refreshes setup now older ≡ holding (before ++ (if due then record older { ticks = 0 } else older) ∷ after) (if due then number + 1 else number)
        (actions ++ (if due then message label number ∷ [] else []))
    refreshed older same true due alike =
        ap (λ (b : Bool). if b then says (with_label now (record older { ticks = 0 })) (redirect setup older) else with_label now older) due
        ∙ (ap (λ labels. says (holding labels number actions) (redirect setup older)) (put_here (record older { ticks = 0 }) same)
        ∙ (said_now (before ++ record older { ticks = 0 } ∷ after) number actions older low
        ∙ ap (λ m. holding (before ++ record older { ticks = 0 } ∷ after) (number + 1) (actions ++ Say m ∷ [])) (alike (own_instance side) (peer_instance side) number)))
    refreshed older same false due alike =
        ap (λ (b : Bool). if b then says (with_label now (record older { ticks = 0 })) (redirect setup older) else with_label now older) due
        ∙ (ap (λ labels. holding labels number actions) (put_here older same)
        ∙ ap (λ actions. holding (before ++ older ∷ after) number actions) (sym (append-nil actions)))

    -- *Its turn*
    label_ticks : IsKept setup label → ticks_label setup desk now label.number
        ≡ holding (before ++ told_anew setup label ∷ after) (number_after label number) (actions ++ said_of label number)
    label_ticks kept = ap (ticks_found setup desk now) (at_place label_number before label after apart)
        ∙ (ap (ticks_in setup desk now label) kept.offered ∙ by_join (is_none label.join) refl)
      where
        turn : (none : Bool) → is_none label.join ≡ none
            → refreshes setup now (one_older (if none then one_idler label else label)) ≡ holding (before ++ told_anew setup label ∷ after) (number_after label number) (actions ++ said_of label number)
        turn none is = subst (λ (b : Bool). refreshes setup now (one_older (if b then one_idler label else label))
            ≡ holding (before ++ told_anew setup label ∷ after) (number_after label number) (actions ++ said_of label number)) is
            (refreshed (aged label) (same_number (is_none label.join)) (is_due setup label) refl (λ own peer n. alike (is_none label.join) own peer n))
          where
            same_number : (b : Bool) → (one_older (if b then one_idler label else label)).number ≡ label.number
            same_number true = refl
            same_number false = refl

            alike : (b : Bool) (own peer : Instance) (n : ℕ) → redirect setup (one_older (if b then one_idler label else label)) own peer n ≡ redirect setup label own peer n
            alike true own peer n = refl
            alike false own peer n = refl

        by_join : (none : Bool) → is_none label.join ≡ none
            → (if none then idles setup now (one_idler label) else refreshes setup now (one_older label))
            ≡ holding (before ++ told_anew setup label ∷ after) (number_after label number) (actions ++ said_of label number)
        by_join false is = turn false is
        by_join true is =
            ap (λ (b : Bool). if b then refreshes setup now (one_older (one_idler label)) else recalls setup now (one_idler label))
            (sym (ap (λ (b : Bool). not b || setup.policy.keeps label.flow (one_idler label).idle) is) ∙ kept.kept)
            ∙ turn true is

  -- *All of them*
  abbrev AreApart : List Label → List Label → Type 0
  AreApart before after = Every (λ (a : Label). Every (λ (b : Label). label_number b ≢ label_number a) before) after

  same_number : (label : Label) → (told_anew setup label).number ≡ label.number
  same_number label = by (is_none label.join) (is_due setup label)
    where
      by : (none due : Bool) → (let older = one_older (if none then one_idler label else label) in if due then record older { ticks = 0 } else older).number ≡ label.number
      by true true = refl
      by true false = refl
      by false true = refl
      by false false = refl

  more_apart : (before : List Label) (label : Label) (after : List Label) → AreApart before after → Every (λ (a : Label). label_number label < label_number a) after
      → AreApart (before ++ told_anew setup label ∷ []) after
  more_apart before label [] apart other = tt
  more_apart before label (a ∷ after) apart other =
      (one_before label_number before label (told_anew setup label) (label_number a) (below (label_number label) (label_number a) other.0) apart.0 (same_number label), more_apart before label after apart.1 other.1)
    where
      below : (m n : ℕ) → m < n → m ≢ n
      below m n less same = omega (arith, less, same)

  abbrev said_all : (number : ℕ) → List Label → List Action
  said_all number labels = redirects setup (own_instance side) (peer_instance side) number labels

  pub each_ticks : (before after : List Label) (number : ℕ) (actions : List Action) → AreApart before after → InOrder (λ (a b : Label). label_number a < label_number b) after
      → Every (IsKept setup) after → number + length after ≤ last_number
      → fold (ticks_label setup desk) (holding (before ++ after) number actions) (map label_number after)
      ≡ holding (before ++ map (told_anew setup) after) (number + length (said_all number after)) (actions ++ said_all number after)
  each_ticks before [] number actions apart order kept low =
      ap (λ n. holding (before ++ []) n actions) (nothing_more number) ∙ ap (λ actions. holding (before ++ []) (number + 0) actions) (sym (append-nil actions))
    where
      nothing_more : (n : ℕ) → n ≡ n + 0
      nothing_more n = omega arith
  each_ticks before (label ∷ after) number actions apart order kept low =
      ap (λ (w : Work). fold (ticks_label setup desk) w (map label_number after))
      (label_ticks before label after number actions (some number (length after) last_number low) apart.0 kept.0
      ∙ ap (λ labels. holding labels (number_after label number) (actions ++ said_of label number)) (sym (append_assoc before (told_anew setup label ∷ []) after)))
      ∙ (each_ticks (before ++ told_anew setup label ∷ []) after (number_after label number) (actions ++ said_of label number)
      (more_apart before label after apart.1 order.0) order.1 kept.1 (later (is_due setup label) number (length after) last_number low)
      ∙ (ap (λ labels. holding labels (number_after label number + length (said_all (number_after label number) after)) ((actions ++ said_of label number) ++ said_all (number_after label number) after))
      (append_assoc before (told_anew setup label ∷ []) (map (told_anew setup) after))
      ∙ joined (is_due setup label)))
    where
      some : (n k most : ℕ) → n + suc k ≤ most → n < most
      some n k most low = omega (arith, low)

      later : (due : Bool) (n k most : ℕ) → n + suc k ≤ most → (if due then n + 1 else n) + k ≤ most
      later true n k most low = omega (arith, low)
      later false n k most low = omega (arith, low)

      joined : (due : Bool) → (let next = if due then number + 1 else number in let one : List Action = if due then message label number ∷ [] else [] in
          holding (before ++ told_anew setup label ∷ map (told_anew setup) after) (next + length (said_all next after)) ((actions ++ one) ++ said_all next after)
          ≡ holding (before ++ told_anew setup label ∷ map (told_anew setup) after)
          (number + length (if due then message label number ∷ said_all (number + 1) after else said_all number after))
          (actions ++ (if due then message label number ∷ said_all (number + 1) after else said_all number after)))
      joined true =
          ap (λ n. holding (before ++ told_anew setup label ∷ map (told_anew setup) after) n ((actions ++ message label number ∷ []) ++ said_all (number + 1) after)) (one_later number (length (said_all (number + 1) after)))
          ∙ ap (λ said. holding (before ++ told_anew setup label ∷ map (told_anew setup) after) (number + suc (length (said_all (number + 1) after))) said) (append_assoc actions (message label number ∷ []) (said_all (number + 1) after))
        where
          one_later : (n k : ℕ) → (n + 1) + k ≡ n + suc k
          one_later n k = omega arith
      joined false =
          ap (λ said. holding (before ++ told_anew setup label ∷ map (told_anew setup) after) (number + length (said_all number after)) said)
          (append_assoc actions [] (said_all number after))
