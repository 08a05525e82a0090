-- what a rule of a port asks may be done, one thing after the other

use Rattle.std.proofs.Common.{◌≡◌, ◌≤◌, Bool, true, false, List, [], ◌∷◌, ◌++◌, Option, None, Some, refl, sym, ◌∙◌, ap, subst, fold, if◌then◌else◌, inl, inr}
use Rattle.std.specs.Prelude.{◌⊎◌}
use Rattle.std.specs.List.{list_any}
use Rattle.law_controller.specs.world_model.Words.{PortNo, End, Clearing, is_estab, Request, AddBranch, MoveBranch, DeleteTree, VerifyTree, PortManagement, IsLinkPort, at, put, is_delete_all, Desk, Standing, all_on, Action, Say, Ask, Note, CutChain, TakeBack, Withdraw, Setup, Work, desk_with, Linked, port_key, linked_at, begins, with_work, does, does_in_estab, performs, performs_in_estab, Rule}
use Rattle.law_controller.specs.world_model.gsmp_wire.declared.request.Request.TheVariants.{DeleteAll, AllPorts}
use Rattle.law_controller.specs.ordered_lists.Ordered.{Every}
use Rattle.law_controller.proofs.ordered_lists.Every.{every_map}
use Rattle.law_controller.specs.world_model.port_model.declared.action.Action.TheVariants as actions
use Rattle.law_controller.specs.law_port_facts.Port.{setup_port, IsAction, parts_label}
use Rattle.law_controller.proofs.law_port_facts.Keyed.{at_every, at_put_same, every_more}
use Rattle.law_controller.proofs.law_port_facts.Steps.{Goes}
use Rattle.law_controller.specs.world_model.Controller.{Acted}
use Rattle.law_controller.specs.law_controller_facts.Sound.{IsShutLinked}
use Rattle.law_controller.proofs.law_controller_facts.Moves.{by_rule, Found, HasPorts, found_setup, found_at_own, begun}
use Rattle.law_controller.proofs.law_controller_facts.Numbers.{worked_draws}
use Rattle.law_controller.proofs.law_controller_facts.Laws.{has_ports}
use Rattle.law_controller.specs.Order.{lends, lends_at, is_lent, IsClearingAt, IsOfClearing}
use Rattle.law_controller.proofs.Lists.{any_at, any_put_leads, each_any}
use Rattle.law_controller.proofs.Asked.{MayAct, MayActs, IsLast, IsNoReset, AsksNoBranch, may_more, Both, goes_asks}
use Rattle.law_controller.proofs.Resetting.{goes_silent}
use Rattle.law_controller.proofs.Holding.{Holds, placed_holds, joined_at, lent_met, live_met}
use Rattle.law_controller.proofs.Performing.{Fits, does_each, every_given}
use Rattle.law_input_steps.specs.Asking.{CanEach, CanPerform, CanPerformInEstab, CanApply}
use Rattle.law_input_premises.specs.Read.{AreRead}
use Rattle.law_input_premises.proofs.Unhalted.{WithdrawsNone, IsUnhalted, goes_unhalted}
use Rattle.law_input_premises.proofs.Rows.{fold_rows, in_estab_rows}
use Rattle.law_input_premises.proofs.Asking.{asks_can, takes_can}
use Rattle.law_input_premises.proofs.Free.{AsksOther, IsFree, in_estab_free}
use Rattle.law_input_premises.proofs.Resetting.{fold_last, link_above, can_reset_port}

abbrev Never : PortNo → Type 0
Never port = ⊥

-- *No Delete All* stands of a port that isn't in Clearing
none_open : (setups : List Setup) (a : Acted) (linked : Linked) → Found setups a linked → (linked.port.adjacency.state ≡ Clearing → ⊥) → a.controller.has_met ≡ true → Holds setups a
    → all_on a.controller.desk linked.setup.port ≡ false
none_open setups a linked own apart met h = each_any (λ (s : Standing). is_delete_all linked.setup.port s.request) a.controller.desk.standing
    (every_map (IsOfClearing a.controller.ports) (λ (s : Standing). is_delete_all linked.setup.port s.request ≡ false) a.controller.desk.standing
    (λ s c. by_test s c (is_delete_all linked.setup.port s.request) refl) (h.order.clearing met))
  where
    by_test : (s : Standing) → IsOfClearing a.controller.ports s → (b : Bool) → is_delete_all linked.setup.port s.request ≡ b → is_delete_all linked.setup.port s.request ≡ false
    by_test s c true is =
        let k : IsClearingAt a.controller.ports linked.setup.port = c linked.setup.port is in
        let both : Some k.linked ≡ Some linked = sym k.found ∙ own in
        let same : k.linked ≡ linked = cc in
        absurd (apart (subst (λ (x : Linked). x.port.adjacency.state ≡ Clearing) same k.clearing))
    by_test s c false is = is

module _ (setups : List Setup) (links : Every (λ (setup : Setup). IsLinkPort setup.port) setups) (input : End) (above : 1 ≤ input.port.0) where
  module _ (a : Acted) (linked : Linked) (w : Work) (own : Found setups a linked) (h : Holds setups a) (reads : AreRead setups a.controller.desk.rows)
      (goes : Goes linked.setup a.controller.desk (begins a linked) w) where
    abbrev p : PortNo
    p = linked.setup.port

    abbrev LentNow : End → Type 0
    LentNow i = is_lent a.controller.ports i ≡ true

    abbrev IsOther : Action → Type 0
    IsOther x = IsNoReset linked.setup LentNow Never x

    abbrev MayNow : List Action → List Action → Type 0
    MayNow ys zs = MayActs linked.setup LentNow Never (fold desk_with a.controller.desk ys) zs

    abbrev After : List Action → Acted
    After ys = fold (does_in_estab p) (with_work a linked w) ys

    never : (port : PortNo) → Never port → (port ≡ p) × (a.controller.has_met ≡ true) × (w.port.adjacency.state ≡ Clearing)
    never port none = absurd none

    abbrev IsFit : Action → Type 0
    IsFit x = Fits setups a linked w Never never x

    has : HasPorts setups a
    has = has_ports setups a h.sound

    there : at setup_port p.0 setups ≡ Some linked.setup
    there = found_setup setups a linked p has own

    lent_by : (i : End) → list_any (lends i) linked.port.grants ≡ true → LentNow i
    lent_by i some = any_at (lends_at i) port_key (port_key linked) a.controller.ports linked own some

    both : Both setups linked.setup there a.controller.desk LentNow Never linked.port lent_by w
    both = goes_asks setups linked.setup there a.controller.desk LentNow Never linked.port lent_by (begins a linked) w goes
        (record {
          kept = begun setups a linked p has own;
          asks = record {
            labels = joined_at setups a linked own h;
            lent = λ i. refl;
            clearing = λ e. e;
            acts = tt;
            last = λ e. tt;
            idle = λ e. tt;
          };
        })

    unhalted : IsUnhalted w
    unhalted = goes_unhalted setups linked.setup there a.controller.desk (begins a linked) w goes (begun setups a linked p has own) (record { apart = λ e. absurd (cc e); keeps = tt })

    placed : Holds setups (with_work a linked w)
    placed = placed_holds setups a linked w own (by_rule w goes) (λ i is. both.asks.lent i ∙ is) both.asks.labels both.asks.clearing h

    abbrev after : Linked
    after = record linked { port = w.port }

    found_after : at port_key (port_key linked) (put port_key after a.controller.ports) ≡ Some after
    found_after = at_put_same port_key after a.controller.ports linked own

    -- what holds once some of it is done
    record Done (ys : List Action) : Type 0 where
      may : MayActs linked.setup LentNow Never a.controller.desk ys
      other : Every IsOther ys
      fits : Every IsFit ys

    one_more : (ys : List Action) (x : Action) → Done ys → MayAct linked.setup LentNow Never (fold desk_with a.controller.desk ys) x → IsOther x → IsFit x → Done (ys ++ x ∷ [])
    one_more ys x d may other fits = record {
      may = may_more linked.setup LentNow Never ys a.controller.desk x d.other d.may may;
      other = every_more IsOther ys x d.other other;
      fits = every_more IsFit ys x d.fits fits;
    }

    holds_after : (ys : List Action) → Done ys → Holds setups (After ys)
    holds_after ys d = does_each setups a linked w Never never ys (with_work a linked w) placed
        (λ e. record {
          there = after;
          found = found_after;
          port = refl;
          met = refl;
          lent = λ i is. any_put_leads (lends_at i) port_key after a.controller.ports linked own (λ l. both.asks.lent i ∙ l) is;
        }) (λ e. d.may) d.other d.fits

    rows_after : (ys : List Action) → AreRead setups (After ys).controller.desk.rows
    rows_after ys = subst (AreRead setups) (sym (fold_rows (does_in_estab p) (in_estab_rows p) ys (with_work a linked w))) reads

    -- *A reset*, or something else
    is_reset : (x : Action) → (x ≡ actions.Reset) ⊎ IsOther x
    is_reset (Say message) = inr tt
    is_reset (Ask request needed) = inr tt
    is_reset (Note item) = inr tt
    is_reset (CutChain label) = inr tt
    is_reset (TakeBack i o) = inr tt
    is_reset (Withdraw i) = inr tt
    is_reset actions.Reset = inl refl

    performs_does : (b : Acted) (x : Action) → IsOther x → performs p b x ≡ does p b x
    performs_does b (Say message) other = refl
    performs_does b (Ask request needed) other = refl
    performs_does b (Note item) other = refl
    performs_does b (CutChain label) other = refl
    performs_does b (TakeBack i o) other = refl
    performs_does b (Withdraw i) other = refl
    performs_does b actions.Reset other = absurd other

    same_one : (b : Acted) (x : Action) → IsOther x → performs_in_estab p b x ≡ does_in_estab p b x
    same_one b x other = ap (λ (v : Acted). if is_estab b.controller.adjacency.state then v else b) (performs_does b x other)

    may_other : (d : Desk) (x : Action) → MayAct linked.setup LentNow Never d x → AsksOther p x
    may_other d (Say message) may = tt
    may_other d (Ask (AddBranch i o) needed) may = refl
    may_other d (Ask (DeleteTree i) needed) may = refl
    may_other d (Ask (MoveBranch i from to) needed) may = absurd may
    may_other d (Ask (VerifyTree i) needed) may = absurd may
    may_other d (Ask (DeleteAll q) needed) may = absurd may
    may_other d (Ask (PortManagement q function) needed) may = absurd may
    may_other d (Ask AllPorts needed) may = absurd may
    may_other d (Note item) may = tt
    may_other d (CutChain label) may = tt
    may_other d (TakeBack i o) may = tt
    may_other d (Withdraw i) may = tt
    may_other d actions.Reset may = tt

    -- *Where the switch is met*
    done_now : (b : Acted) (x : Action) → is_estab b.controller.adjacency.state ≡ true → Holds setups (does_in_estab p b x) → Holds setups (does p b x)
    done_now b x estab k = subst (λ (t : Bool). Holds setups (if t then does p b x else b)) estab k

    abbrev Free : Acted → Type 0
    Free b = IsFree setups p (w.halted ≡ true) b.controller

    can_other : (b : Acted) (d : Desk) (x : Action) → IsOther x → MayAct linked.setup LentNow Never d x → IsAction setups x → WithdrawsNone x → AreRead setups b.controller.desk.rows → Holds setups b → Free b
        → Holds setups (does_in_estab p b x) → CanPerformInEstab input p b x
    can_other b d (Say message) other may fits none rows k free behind estab = link_above setups links input above p linked.setup there
    can_other b d (Ask (AddBranch i o) needed) other may fits none rows k free behind estab =
        asks_can setups input above b (AddBranch i o) i refl fits.0 rows free.met k (done_now b (Ask (AddBranch i o) needed) estab behind)
    can_other b d (Ask (DeleteTree i) needed) other may fits none rows k free behind estab =
        asks_can setups input above b (DeleteTree i) i refl fits.0 rows free.met k (done_now b (Ask (DeleteTree i) needed) estab behind)
    can_other b d (Ask (MoveBranch i from to) needed) other may fits none rows k free behind estab = absurd may
    can_other b d (Ask (VerifyTree i) needed) other may fits none rows k free behind estab = absurd may
    can_other b d (Ask (DeleteAll q) needed) other may fits none rows k free behind estab = absurd may
    can_other b d (Ask (PortManagement q function) needed) other may fits none rows k free behind estab = absurd may
    can_other b d (Ask AllPorts needed) other may fits none rows k free behind estab = absurd may
    can_other b d (Note item) other may fits none rows k free behind estab = tt
    can_other b d (CutChain label) other may fits none rows k free behind estab = tt
    can_other b d (TakeBack i o) other may fits none rows k free behind estab =
        λ led. takes_can setups input above b i o (parts_label i o fits.0 fits.1) rows free.met k (done_now b (TakeBack i o) estab behind) led
    can_other b d (Withdraw i) other may fits none rows k free behind estab = absurd none
    can_other b d actions.Reset other may fits none rows k free behind estab = absurd other

    none_behind : (x : Action) (xs : List Action) → x ≡ actions.Reset → IsLast linked.setup LentNow Never x xs → xs ≡ []
    none_behind x xs is last = subst (λ (y : Action). IsLast linked.setup LentNow Never y xs) is last

    -- a port that asks for a reset is halted
    halted_by : (x : Action) → x ≡ actions.Reset → (w.halted ≡ false → IsOther x) → w.halted ≡ true
    halted_by x is live = by_test w.halted refl
      where
        by_test : (b : Bool) → w.halted ≡ b → w.halted ≡ true
        by_test true e = e
        by_test false e = absurd (subst IsOther is (live e))

    walk : (ys zs : List Action) → Done ys → MayNow ys zs → Every IsFit zs → Every WithdrawsNone zs → Every (λ (x : Action). w.halted ≡ false → IsOther x) zs → Free (After ys)
        → CanEach (performs_in_estab p) (CanPerformInEstab input p) (After ys) zs
    walk ys [] d may fits none live free = tt
    walk ys (x ∷ zs) d may fits none live free =
        elim (is_reset x) as (λ z. CanPerformInEstab input p (After ys) x × CanEach (performs_in_estab p) (CanPerformInEstab input p) (performs_in_estab p (After ys) x) zs) [
          | inl is ↦ (
            (λ estab. subst (CanPerform input p (After ys)) (sym is)
                (can_reset_port setups links input above (After ys) p (rows_after ys) (free.met estab) (free.none (halted_by x is live.0) estab) (holds_after ys d))),
            subst (CanEach (performs_in_estab p) (CanPerformInEstab input p) (performs_in_estab p (After ys) x)) (sym (none_behind x zs is may.1)) tt,
          )
          | inr other ↦ (
              let more : Done (ys ++ x ∷ []) = one_more ys x d may.0 other fits.0 in
              let same : After (ys ++ x ∷ []) ≡ does_in_estab p (After ys) x = fold_last (does_in_estab p) (with_work a linked w) ys x in (
                can_other (After ys) (fold desk_with a.controller.desk ys) x other may.0 fits.0.action none.0 (rows_after ys) (holds_after ys d) free (subst (Holds setups) same (holds_after (ys ++ x ∷ []) more)),
                subst (λ (b : Acted). CanEach (performs_in_estab p) (CanPerformInEstab input p) b zs) (same ∙ sym (same_one (After ys) x other))
                    (walk (ys ++ x ∷ []) zs more (subst (λ (k : Desk). MayActs linked.setup LentNow Never k zs) (sym (fold_last desk_with a.controller.desk ys x)) may.2) fits.1 none.1 live.1
                    (subst (λ (b : Acted). IsFree setups p (w.halted ≡ true) b.controller) (sym same)
                    (in_estab_free setups p (w.halted ≡ true) p (After ys) x (may_other (fold desk_with a.controller.desk ys) x may.0) free))),
              )
              )
        ]

    free_first : a.controller.has_met ≡ true → Free (with_work a linked w)
    free_first met = record {
      met = λ e. met;
      none = λ halted e. none_open setups a linked own (λ clearing. unhalted.apart halted (both.asks.clearing clearing)) met h;
    }

    -- *Where it isn't*, the port is shut and asks for nothing
    abbrev IsHarmless : Action → Type 0
    IsHarmless (Ask request needed) = ⊥
    IsHarmless (TakeBack i o) = ⊥
    IsHarmless (Withdraw i) = ⊥
    IsHarmless actions.Reset = ⊥
    IsHarmless action = Unit {0}

    harmless : (d : Desk) (x : Action) → a.controller.has_met ≡ false → MayAct linked.setup LentNow Never d x → IsFit x → WithdrawsNone x → IsHarmless x
    harmless d (Say message) unmet may fits none = tt
    harmless d (Ask request needed) unmet may fits none = in_estab request needed d may fits
      where
        closed : is_estab w.port.adjacency.state ≡ true → ⊥
        closed e = cc (sym unmet ∙ live_met setups (with_work a linked w) after p found_after (λ shut. absurd (cc (sym e ∙ ap is_estab shut.clearing))) placed)

        by_estab : (b : Bool) → is_estab w.port.adjacency.state ≡ b → (is_estab w.port.adjacency.state ≡ false → ⊥) → ⊥
        by_estab true e never = closed e
        by_estab false e never = never e

        in_estab : (request : Request) (needed : Bool) (d : Desk) → MayAct linked.setup LentNow Never d (Ask request needed) → IsFit (Ask request needed) → ⊥
        in_estab (AddBranch i o) needed d may fits = by_estab (is_estab w.port.adjacency.state) refl fits.idle
        in_estab (DeleteTree i) needed d may fits = by_estab (is_estab w.port.adjacency.state) refl fits.idle
        in_estab (MoveBranch i from to) needed d may fits = may
        in_estab (VerifyTree i) needed d may fits = may
        in_estab (DeleteAll q) needed d may fits = may
        in_estab (PortManagement q function) needed d may fits = may
        in_estab AllPorts needed d may fits = may
    harmless d (Note item) unmet may fits none = tt
    harmless d (CutChain label) unmet may fits none = tt
    harmless d (TakeBack i o) unmet may fits none = absurd (cc (sym unmet ∙ lent_met setups a i may h))
    harmless d (Withdraw i) unmet may fits none = absurd none
    harmless d actions.Reset unmet may fits none = absurd (fits.quiet unmet)

    can_harmless : (b : Acted) (x : Action) → IsHarmless x → CanPerformInEstab input p b x
    can_harmless b (Say message) none estab = link_above setups links input above p linked.setup there
    can_harmless b (Ask request needed) none estab = absurd none
    can_harmless b (Note item) none estab = tt
    can_harmless b (CutChain label) none estab = tt
    can_harmless b (TakeBack i o) none estab = absurd none
    can_harmless b (Withdraw i) none estab = absurd none
    can_harmless b actions.Reset none estab = absurd none

    unmet_walk : (zs : List Action) (d : Desk) (b : Acted) → a.controller.has_met ≡ false → MayActs linked.setup LentNow Never d zs → Every IsFit zs → Every WithdrawsNone zs
        → CanEach (performs_in_estab p) (CanPerformInEstab input p) b zs
    unmet_walk [] d b unmet may fits none = tt
    unmet_walk (x ∷ zs) d b unmet may fits none = (can_harmless b x (harmless d x unmet may.0 fits.0 none.0), unmet_walk zs (desk_with d x) (performs_in_estab p b x) unmet may.2 fits.1 none.1)

    fits_each : (xs : List Action) → Every (λ (x : Action). is_estab w.port.adjacency.state ≡ false → AsksNoBranch linked.setup LentNow Never x) xs → Every (IsAction setups) xs
        → Every (λ (x : Action). a.controller.has_met ≡ false → IsOther x) xs → Every IsFit xs
    fits_each [] idle fits quiet = tt
    fits_each (x ∷ xs) idle fits quiet = (record { idle = idle.0; action = fits.0; quiet = quiet.0 }, fits_each xs idle.1 fits.1 quiet.1)

    all_fit : Every IsFit w.actions
    all_fit = fits_each w.actions (every_given (is_estab w.port.adjacency.state ≡ false) (AsksNoBranch linked.setup LentNow Never) w.actions both.asks.idle) both.kept.actions
        (every_given (a.controller.has_met ≡ false) IsOther w.actions
        (λ unmet. goes_silent linked.setup LentNow Never a.controller.desk (begins a linked) w goes (at_every port_key IsShutLinked (port_key linked) a.controller.ports linked (h.sound.unmet unmet) own) tt))

    pub can_work_as : CanEach (performs_in_estab p) (CanPerformInEstab input p) (with_work a linked w) w.actions
    can_work_as = by_met a.controller.has_met refl
      where
        by_met : (b : Bool) → a.controller.has_met ≡ b → CanEach (performs_in_estab p) (CanPerformInEstab input p) (with_work a linked w) w.actions
        by_met true met = walk [] w.actions (record { may = tt; other = tt; fits = tt }) both.asks.acts all_fit unhalted.keeps
            (every_given (w.halted ≡ false) IsOther w.actions both.asks.last) (free_first met)
        by_met false unmet = unmet_walk w.actions a.controller.desk (with_work a linked w) unmet both.asks.acts all_fit unhalted.keeps

  -- *A rule of a port*
  pub can_work : (a : Acted) (port : PortNo) (rule : Rule)
      → ((linked : Linked) → linked_at a.controller port ≡ Some linked → Goes linked.setup a.controller.desk (begins a linked) (rule linked.setup a.controller.desk (begins a linked)))
      → AreRead setups a.controller.desk.rows → Holds setups a → CanApply input a rule (linked_at a.controller port)
  can_work a port rule goes reads h = by_found (linked_at a.controller port) refl
    where
      by_found : (o : Option Linked) → linked_at a.controller port ≡ o → CanApply input a rule o
      by_found None found = tt
      by_found (Some linked) found =
          let w : Work = rule linked.setup a.controller.desk (begins a linked) in
          record {
            instances = (worked_draws setups linked.setup a.controller.desk (begins a linked) w (by_rule w (goes linked found))).0;
            each = can_work_as a linked w (found_at_own setups a linked port found) h reads (goes linked found);
          }
