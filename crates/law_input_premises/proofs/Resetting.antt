-- what a port's reset asks may be done, one thing after the other

use Rattle.std.proofs.Common.{◌≡◌, ℕ, ◌≤◌, Bool, true, false, List, [], ◌∷◌, ◌++◌, Option, None, Some, refl, sym, ◌∙◌, subst, arith, fold, flat_map, map, if◌then◌else◌, inl, inr}
use Rattle.std.specs.Prelude.{◌⊎◌}
use Rattle.std.proofs.lemmas.Bool.Decides.{nat_tests}
use Rattle.law_controller.specs.world_model.Words.{PortNo, End, Clearing, is_estab, same_end, IsLinkPort, at, all_on, Action, Say, Ask, Note, CutChain, TakeBack, Withdraw, Setup, Label, Grant, GrantState, Idle, ByController, ByInput, Leaving, Session, Work, closing, withdrawing_in, withdrawing_of, withdrawing, taking_back_in, taking_back, resets, Linked, port_key, linked_at, begins, with_work, does, does_in_estab}
use Rattle.law_controller.specs.world_model.gsmp_wire.declared.request.Request.TheVariants.{DeleteAll}
use Rattle.law_controller.specs.ordered_lists.Ordered.{Every}
use Rattle.law_controller.proofs.ordered_lists.Every.{every_map, every_map2}
use Rattle.law_controller.specs.world_model.port_model.declared.action.Action.TheVariants as actions
use Rattle.law_controller.specs.law_port_facts.Port.{setup_port, IsAction, parts_label}
use Rattle.law_controller.proofs.law_port_facts.Keyed.{at_key, at_every, at_put_same, every_more}
use Rattle.law_controller.proofs.law_port_facts.Joins.{resets_kept}
use Rattle.law_controller.specs.world_model.Controller.{Acted}
use Rattle.law_controller.proofs.law_controller_facts.Moves.{by_reset, Found, HasPorts, found_setup, found_at_own, found_port, begun}
use Rattle.law_controller.proofs.law_controller_facts.Laws.{has_ports}
use Rattle.law_controller.specs.Order.{lends_at, is_lent}
use Rattle.law_controller.proofs.Lists.{any_at, any_put_leads}
use Rattle.law_controller.proofs.Asked.{IsNoReset}
use Rattle.law_controller.proofs.Resetting.{MayAlways, may_each, resets_may, left_lends}
use Rattle.law_controller.proofs.Ordering.{same_number}
use Rattle.law_controller.proofs.Holding.{Holds, placed_holds}
use Rattle.law_controller.proofs.Performing.{Fits, does_each}
use Rattle.law_input_steps.specs.Asking.{CanEach, CanDo, CanDoInEstab, CanReset}
use Rattle.law_input_premises.specs.Read.{AreRead}
use Rattle.law_input_premises.proofs.Rows.{fold_rows, in_estab_rows}
use Rattle.law_input_premises.proofs.Asking.{deletes_can, takes_can}
use Rattle.law_input_premises.proofs.Free.{AsksOther, IsFree, in_estab_free}

pub fold_last : {A B : Type 0} (f : A → B → A) (a : A) (ys : List B) (x : B) → fold f a (ys ++ x ∷ []) ≡ f (fold f a ys) x
fold_last f a [] x = refl
fold_last f a (y ∷ ys) x = fold_last f (f a y) ys x

-- an input above the control port isn't one of its channels
pub away_of : (input other : End) → 1 ≤ input.port.0 → other.port.0 ≡ 0 → same_end input other ≡ false
away_of input other above zero = by_test (same_end input other) refl
  where
    same_ports : same_end input other ≡ true → input.port.0 ≡ other.port.0
    same_ports e = grind (arith, nat_tests)

    by_test : (b : Bool) → same_end input other ≡ b → same_end input other ≡ false
    by_test true e = absurd (omega (arith, above, zero, same_ports e))
    by_test false e = e

-- *A reset* asks nothing but, in the end, Delete All
abbrev IsPlain : Action → Type 0
IsPlain (Ask request needed) = ⊥
IsPlain (Withdraw input) = input.port.0 ≡ 0
IsPlain actions.Reset = ⊥
IsPlain action = Unit {0}

plain_other : (port : PortNo) (x : Action) → IsPlain x → AsksOther port x
plain_other port (Say message) p = tt
plain_other port (Ask request needed) p = absurd p
plain_other port (Note item) p = tt
plain_other port (CutChain label) p = tt
plain_other port (TakeBack input output) p = tt
plain_other port (Withdraw input) p = tt
plain_other port actions.Reset p = absurd p

abbrev EndsWith : PortNo → List Action → Type 0
EndsWith port [] = Unit {0}
EndsWith port (x ∷ xs) = (IsPlain x × EndsWith port xs) ⊎ ((x ≡ Ask (DeleteAll port) true) × (xs ≡ []))

ends_join : (port : PortNo) (xs ys : List Action) → Every IsPlain xs → EndsWith port ys → EndsWith port (xs ++ ys)
ends_join port [] ys all e = e
ends_join port (x ∷ xs) ys all e = inl (all.0, ends_join port xs ys all.1 e)

closing_plain : (setup : Setup) (o : Option Session) → Every IsPlain (closing setup o)
closing_plain setup None = tt
closing_plain setup (Some s) = (tt, cuts s.labels)
  where
    cuts : (labels : List Label) → Every IsPlain (map (λ (label : Label). CutChain label.number) labels)
    cuts [] = tt
    cuts (label ∷ labels) = (tt, cuts labels)

plain_join : (xs ys : List Action) → Every IsPlain xs → Every IsPlain ys → Every IsPlain (xs ++ ys)
plain_join [] ys h k = k
plain_join (x ∷ xs) ys h k = (h.0, plain_join xs ys h.1 k)

withdrawing_in_plain : (setup : Setup) (label : ℕ) (state : GrantState) → Every IsPlain (withdrawing_in setup label state)
withdrawing_in_plain setup label Idle = (refl, tt)
withdrawing_in_plain setup label ByController = (refl, tt)
withdrawing_in_plain setup label (ByInput input) = tt
withdrawing_in_plain setup label (Leaving input owed) = tt

withdrawing_plain : (setup : Setup) (grants : List Grant) → Every IsPlain (withdrawing setup grants)
withdrawing_plain setup [] = tt
withdrawing_plain setup (grant ∷ grants) = plain_join (withdrawing_of setup grant) (withdrawing setup grants) (withdrawing_in_plain setup grant.label grant.state) (withdrawing_plain setup grants)

taking_in_plain : (setup : Setup) (grant : Grant) (state : GrantState) → Every IsPlain (taking_back_in setup grant state)
taking_in_plain setup grant Idle = tt
taking_in_plain setup grant ByController = tt
taking_in_plain setup grant (ByInput input) = (tt, tt)
taking_in_plain setup grant (Leaving input owed) = tt

taking_plain : (setup : Setup) (grants : List Grant) → Every IsPlain (flat_map (taking_back setup) grants)
taking_plain setup [] = tt
taking_plain setup (grant ∷ grants) = plain_join (taking_back setup grant) (flat_map (taking_back setup) grants) (taking_in_plain setup grant grant.state) (taking_plain setup grants)

module _ (setups : List Setup) (links : Every (λ (setup : Setup). IsLinkPort setup.port) setups) (input : End) (above : 1 ≤ input.port.0) where
  pub link_above : (port : PortNo) (setup : Setup) → at setup_port port.0 setups ≡ Some setup → 1 ≤ port.0
  link_above port setup there = (subst IsLinkPort (same_number setup.port port (at_key setup_port port.0 setups setup there))
      (at_every setup_port (λ (s : Setup). IsLinkPort s.port) port.0 setups setup links there)).0

  module _ (a : Acted) (linked : Linked) (own : Found setups a linked) (reads : AreRead setups a.controller.desk.rows) (met : a.controller.has_met ≡ true)
      (none : all_on a.controller.desk linked.setup.port ≡ false) (h : Holds setups a) where
    abbrev p : PortNo
    p = linked.setup.port

    abbrev w : Work
    w = resets linked.setup (begins a linked)

    abbrev Emptied : PortNo → Type 0
    Emptied other = other ≡ p

    abbrev LentNow : End → Type 0
    LentNow i = is_lent a.controller.ports i ≡ true

    abbrev After : List Action → Acted
    After ys = fold (does_in_estab p) (with_work a linked w) ys

    has : HasPorts setups a
    has = has_ports setups a h.sound

    there : at setup_port p.0 setups ≡ Some linked.setup
    there = found_setup setups a linked p has own

    clears : (other : PortNo) → Emptied other → (other ≡ p) × (a.controller.has_met ≡ true) × (w.port.adjacency.state ≡ Clearing)
    clears other is = (is, met, refl)

    abbrev May : Action → Type 0
    May x = MayAlways linked.setup LentNow Emptied x

    placed : Holds setups (with_work a linked w)
    placed = placed_holds setups a linked w own by_reset (λ i is. left_lends i linked.port.grants ∙ is) tt (λ e. refl) h

    -- what holds once some of it is done
    holds_after : (ys : List Action) → Every May ys → Every (IsAction setups) ys → Holds setups (After ys)
    holds_after ys may fits = does_each setups a linked w Emptied clears ys (with_work a linked w) placed
        (λ e. record {
          there = record linked { port = w.port };
          found = at_put_same port_key (record linked { port = w.port }) a.controller.ports linked own;
          port = refl;
          met = refl;
          lent = λ i is. any_put_leads (lends_at i) port_key (record linked { port = w.port }) a.controller.ports linked own (λ l. left_lends i linked.port.grants ∙ l) is;
        })
        (λ e. may_each linked.setup LentNow Emptied ys a.controller.desk may)
        (every_map May (IsNoReset linked.setup LentNow Emptied) ys (λ x m. m.goes_on) may)
        (every_map2 May (IsAction setups) (Fits setups a linked w Emptied clears) ys (λ x m f. record { idle = λ e. m.no_branch; action = f; quiet = λ e. m.goes_on }) may fits)

    rows_after : (ys : List Action) → AreRead setups (After ys).controller.desk.rows
    rows_after ys = subst (AreRead setups) (sym (fold_rows (does_in_estab p) (in_estab_rows p) ys (with_work a linked w))) reads

    -- in Estab an action is done
    done_now : (b : Acted) (x : Action) → is_estab b.controller.adjacency.state ≡ true → Holds setups (does_in_estab p b x) → Holds setups (does p b x)
    done_now b x estab k = subst (λ (t : Bool). Holds setups (if t then does p b x else b)) estab k

    can_plain : (b : Acted) (x : Action) → IsPlain x → IsAction setups x → AreRead setups b.controller.desk.rows → Holds setups b → IsFree setups p (Unit {0}) b.controller → Holds setups (does_in_estab p b x)
        → CanDoInEstab input p b x
    can_plain b (Say message) plain fits rows k free behind estab = link_above p linked.setup there
    can_plain b (Ask request needed) plain fits rows k free behind estab = absurd plain
    can_plain b (Note item) plain fits rows k free behind estab = tt
    can_plain b (CutChain label) plain fits rows k free behind estab = tt
    can_plain b (TakeBack i o) plain fits rows k free behind estab = λ led. takes_can setups input above b i o (parts_label i o fits.0 fits.1) rows free.met k (done_now b (TakeBack i o) estab behind) led
    can_plain b (Withdraw i) plain fits rows k free behind estab = away_of input i above plain
    can_plain b actions.Reset plain fits rows k free behind estab = absurd plain

    walk : (ys zs : List Action) → Every May ys → Every (IsAction setups) ys → Every May zs → Every (IsAction setups) zs → EndsWith p zs → IsFree setups p (Unit {0}) (After ys).controller
        → CanEach (does_in_estab p) (CanDoInEstab input p) (After ys) zs
    walk ys [] may fits mays all ends free = tt
    walk ys (x ∷ zs) may fits mays all ends free =
        elim ends as (λ z. CanDoInEstab input p (After ys) x × CanEach (does_in_estab p) (CanDoInEstab input p) (does_in_estab p (After ys) x) zs) [
          | inl (plain, rest) ↦ (
            can_plain (After ys) x plain all.0 (rows_after ys) (holds_after ys may fits) free (subst (Holds setups) same (holds_after (ys ++ x ∷ []) more_may more_fits)),
            subst (λ (b : Acted). CanEach (does_in_estab p) (CanDoInEstab input p) b zs) same
                (walk (ys ++ x ∷ []) zs more_may more_fits mays.1 all.1 rest (subst (λ (b : Acted). IsFree setups p (Unit {0}) b.controller) (sym same) (in_estab_free setups p (Unit {0}) p (After ys) x (plain_other p x plain) free))),
          )
          | inr (is, last) ↦ (
            (λ estab. subst (CanDo input p (After ys)) (sym is)
                (deletes_can setups input above (After ys) p (subst (λ (y : Action). IsAction setups y) is all.0).0 (rows_after ys) free.met (free.none tt) (holds_after ys may fits))),
            subst (CanEach (does_in_estab p) (CanDoInEstab input p) (does_in_estab p (After ys) x)) (sym last) tt,
          )
        ]
      where
        same : After (ys ++ x ∷ []) ≡ does_in_estab p (After ys) x
        same = fold_last (does_in_estab p) (with_work a linked w) ys x

        more_may : Every May (ys ++ x ∷ [])
        more_may = every_more May ys x may mays.0

        more_fits : Every (IsAction setups) (ys ++ x ∷ [])
        more_fits = every_more (IsAction setups) ys x fits all.0

    pub can_reset_as : CanReset input a (Some linked)
    can_reset_as = walk [] w.actions tt tt
        (resets_may linked.setup LentNow Emptied setups linked.port a.numbers.instances (found_port setups a linked p has own) (λ i some. any_at (lends_at i) port_key (port_key linked) a.controller.ports linked own some) refl)
        (resets_kept setups linked.setup there (begins a linked) (begun setups a linked p has own)).actions
        (ends_join p (closing linked.setup linked.port.session) _ (closing_plain linked.setup linked.port.session)
        (ends_join p (withdrawing linked.setup linked.port.grants) _ (withdrawing_plain linked.setup linked.port.grants)
        (ends_join p (flat_map (taking_back linked.setup) linked.port.grants) _ (taking_plain linked.setup linked.port.grants) (inr (refl, refl)))))
        (record { met = λ e. met; none = λ k e. none })

  pub can_reset_port : (a : Acted) (port : PortNo) → AreRead setups a.controller.desk.rows → a.controller.has_met ≡ true → all_on a.controller.desk port ≡ false → Holds setups a
      → CanReset input a (linked_at a.controller port)
  can_reset_port a port reads met none h = by_found (linked_at a.controller port) refl
    where
      by_found : (o : Option Linked) → linked_at a.controller port ≡ o → CanReset input a o
      by_found None found = tt
      by_found (Some linked) found = can_reset_as a linked (found_at_own setups a linked port found) reads met
          (subst (λ (q : PortNo). all_on a.controller.desk q ≡ false) (sym (same_number linked.setup.port port (at_key port_key port.0 a.controller.ports linked found))) none) h
