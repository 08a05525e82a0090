-- what a rule of a port asks can be done, one thing after the other

use Rattle.std.proofs.Common.{◌≡◌, Bool, true, false, List, [], ◌∷◌, ◌++◌, Option, Some, refl, sym, ◌∙◌, ap, subst, if◌then◌else◌, inl, inr, fold}
use Rattle.std.specs.Prelude.{◌⊎◌}
use Rattle.std.specs.List.{list_any}
use Rattle.law_controller.specs.world_model.Words.{PortNo, End, Clearing, is_estab, at, Desk, Action, Say, Ask, Note, CutChain, TakeBack, Withdraw, Setup, Work, desk_with, Linked, port_key, linked_at, begins, with_work, does, does_in_estab, performs, performs_in_estab, Rule, works, works_as, at_port}
use Rattle.law_controller.specs.ordered_lists.Ordered.{Every}
use Rattle.law_controller.proofs.ordered_lists.Every.{every_map}
use Rattle.law_controller.specs.world_model.port_model.declared.action.Action.TheVariants as actions
use Rattle.law_controller.specs.law_port_facts.Port.{setup_port, IsAction}
use Rattle.law_controller.proofs.law_port_facts.Keyed.{at_key, at_every, at_put_same}
use Rattle.law_controller.proofs.law_port_facts.Steps.{Goes}
use Rattle.law_controller.specs.world_model.Controller.{Acted}
use Rattle.law_controller.specs.law_controller_facts.Sound.{IsShutLinked}
use Rattle.law_controller.proofs.law_controller_facts.Moves.{by_rule, placing, Found, Moves, moves_to, moves_fold, moves_ports, HasPorts, found_setup, found_at_own, begun}
use Rattle.law_controller.proofs.law_controller_facts.Performing.{performs_in_estab_goes}
use Rattle.law_controller.specs.Actions as law
use Rattle.law_controller.specs.Order.{lends, lends_at, is_lent}
use Rattle.law_controller.proofs.Lists.{any_at, any_put_leads}
use Rattle.law_controller.proofs.Asked.{MayActs, IsLast, IsNoReset, AsksNoBranch, IsAsking, Both, goes_asks}
use Rattle.law_controller.proofs.Resetting.{goes_silent}
use Rattle.law_controller.proofs.Ordering.{same_number}
use Rattle.law_controller.proofs.Holding.{placed_holds, joined_at}
use Rattle.law_controller.proofs.Performing.{Fits, every_given}
use Rattle.law_controller.proofs.Steady.{Steady, at_port_steady}
use Rattle.controller_router.specs.Conditions.{CanDo, CanPerform, EachCanBePerformed, CanWork}
use Rattle.law_controller_conditions.specs.Kept.{AreLinks, AreIn}
use Rattle.law_controller_conditions.proofs.Ready.{in_before, Ready, ready_by, ready_ports}
use Rattle.law_controller_conditions.proofs.Doing.{fold_last, can_do, Begun, After, MayNow, Done, nothing_done, one_done, ready_after, can_reset_port}

abbrev Never : PortNo → Type 0
Never port = ⊥

module _ (setups : List Setup) (links : AreLinks setups) where
  module _ (a : Acted) (linked : Linked) (w : Work) (own : Found setups a linked) where
    abbrev LentNow : End → Type 0
    LentNow input = is_lent a.controller.ports input ≡ true

    never : (port : PortNo) → Never port → (port ≡ linked.setup.port) × (a.controller.has_met ≡ true) × (w.port.adjacency.state ≡ Clearing)
    never port none = absurd none

    abbrev IsOther : Action → Type 0
    IsOther x = IsNoReset linked.setup LentNow Never x

    is_reset : (x : Action) → (x ≡ actions.Reset) ⊎ IsOther x
    is_reset (Say message) = inr tt
    is_reset (Ask request needed) = inr tt
    is_reset (Note item) = inr tt
    is_reset (CutChain label) = inr tt
    is_reset (TakeBack input output) = inr tt
    is_reset (Withdraw input) = inr tt
    is_reset actions.Reset = inl refl

    performs_does : (b : Acted) (x : Action) → IsOther x → performs linked.setup.port b x ≡ does linked.setup.port b x
    performs_does b (Say message) other = refl
    performs_does b (Ask request needed) other = refl
    performs_does b (Note item) other = refl
    performs_does b (CutChain label) other = refl
    performs_does b (TakeBack input output) other = refl
    performs_does b (Withdraw input) other = refl
    performs_does b actions.Reset other = absurd other

    can_perform : (b : Acted) (x : Action) → IsOther x → CanDo b linked.setup.port x → CanPerform b linked.setup.port x
    can_perform b (Say message) other can = can
    can_perform b (Ask request needed) other can = can
    can_perform b (Note item) other can = can
    can_perform b (CutChain label) other can = can
    can_perform b (TakeBack input output) other can = can
    can_perform b (Withdraw input) other can = can
    can_perform b actions.Reset other can = absurd other

    same_one : (b : Acted) (x : Action) → IsOther x → performs_in_estab linked.setup.port b x ≡ does_in_estab linked.setup.port b x
    same_one b x other = ap (λ (v : Acted). if is_estab b.controller.adjacency.state then v else b) (performs_does b x other)

    same_all : (xs : List Action) (b : Acted) → Every IsOther xs → fold (performs_in_estab linked.setup.port) b xs ≡ fold (does_in_estab linked.setup.port) b xs
    same_all [] b other = refl
    same_all (x ∷ xs) b other = ap (λ (v : Acted). fold (performs_in_estab linked.setup.port) v xs) (same_one b x other.0) ∙ same_all xs (does_in_estab linked.setup.port b x) other.1

    -- the switch is met or not as before, while it is spoken to
    steady_after : (ys : List Action) → Every IsOther ys → Steady setups a (After setups links a linked w Never never ys)
    steady_after ys other =
        let rule : Rule = λ setup desk v. record w { actions = ys } in
        subst (Steady setups a) (same_all ys (with_work a linked w) other) (subst (λ (o : Option Linked). Steady setups a (works a rule o)) own (at_port_steady setups a linked.setup.port rule))

    met_before : (x : Action) → x ≡ actions.Reset → (a.controller.has_met ≡ false → IsOther x) → a.controller.has_met ≡ true
    met_before x is quiet = by_met a.controller.has_met refl
      where
        by_met : (b : Bool) → a.controller.has_met ≡ b → a.controller.has_met ≡ true
        by_met true e = e
        by_met false e = absurd (subst IsOther is (quiet e))

    none_behind : (x : Action) (xs : List Action) → x ≡ actions.Reset → IsLast linked.setup LentNow Never x xs → xs ≡ []
    none_behind x xs is last = subst (λ (y : Action). IsLast linked.setup LentNow Never y xs) is last

    performs_moves : (xs : List Action) (b : Acted) → Every (Fits setups a linked w Never never) xs → HasPorts setups b → Moves setups b (fold (performs_in_estab linked.setup.port) b xs)
    performs_moves xs b fits h = moves_fold setups (IsAction setups) (performs_in_estab linked.setup.port) (λ c x k f. performs_in_estab_goes setups linked.setup.port c x k f) xs
        (every_map (Fits setups a linked w Never never) (IsAction setups) xs (λ x f. f.action) fits) b h

    performed_each : (ys zs : List Action) → Begun setups links a linked w Never never → Done setups links a linked w Never never ys → MayNow setups links a linked w Never never ys zs → Every (Fits setups a linked w Never never) zs
        → Every (law.CanDo setups linked.setup) zs → AreIn (fold (performs_in_estab linked.setup.port) (After setups links a linked w Never never ys) zs).numbers
        → EachCanBePerformed linked.setup.port (After setups links a linked w Never never ys) zs
    performed_each ys [] g d may fits can n = tt
    performed_each ys (x ∷ zs) g d may fits can n =
        elim (is_reset x) as (λ z. (is_estab b.controller.adjacency.state ≡ true → CanPerform b p x) × EachCanBePerformed p next zs) [
          | inl is ↦ (
            (λ estab. subst (CanPerform b p) (sym is) (can_reset_port setups links b p ((steady_after ys d.other).met estab ∙ met_before x is fits.0.quiet) r
                (subst (λ (y : Action). AreIn (performs p b y).numbers) is (now estab)))),
            subst (EachCanBePerformed p next) (sym (none_behind x zs is may.1)) tt,
          )
          | inr other ↦ (
            (λ estab. can_perform b x other (can_do setups links b p linked.setup x r g.there can.0 fits.0.action (subst (λ (v : Acted). AreIn v.numbers) (performs_does b x other) (now estab)))),
            (let same : After setups links a linked w Never never (ys ++ x ∷ []) ≡ next = fold_last (does_in_estab p) (with_work a linked w) ys x ∙ sym (same_one b x other) in
                subst (λ (v : Acted). EachCanBePerformed p v zs) same (performed_each (ys ++ x ∷ []) zs g (one_done setups links a linked w Never never ys x d may.0 other fits.0)
                (subst (λ (k : Desk). MayActs linked.setup LentNow Never k zs) (sym (fold_last desk_with a.controller.desk ys x)) may.2) fits.1 can.1
                (subst (λ (v : Acted). AreIn (fold (performs_in_estab p) v zs).numbers) (sym same) n))),
          )
        ]
      where
        p : PortNo
        p = linked.setup.port

        b : Acted
        b = After setups links a linked w Never never ys

        next : Acted
        next = performs_in_estab p b x

        r : Ready setups b
        r = ready_after setups links a linked w Never never ys g d

        now : is_estab b.controller.adjacency.state ≡ true → AreIn (performs p b x).numbers
        now estab = subst (λ (t : Bool). AreIn (if t then performs p b x else b).numbers) estab
            (in_before setups next (fold (performs_in_estab p) next zs) (performs_moves zs next fits.1 (moves_ports setups (performs_in_estab_goes setups p b x (ready_ports setups b r) fits.0.action) (ready_ports setups b r))) n)

    -- *A rule of a port*
    pub can_work_as : Goes linked.setup a.controller.desk (begins a linked) w → law.CanAllBeDone setups linked.setup w → Ready setups a → AreIn (works_as a linked w).numbers
        → EachCanBePerformed linked.setup.port (with_work a linked w) w.actions
    can_work_as goes can r n =
        let has : HasPorts setups a = ready_ports setups a r in
        let there : at setup_port linked.setup.port.0 setups ≡ Some linked.setup = found_setup setups a linked linked.setup.port has own in
        let lent_by : (input : End) → list_any (lends input) linked.port.grants ≡ true → LentNow input = λ (input : End) (some : list_any (lends input) linked.port.grants ≡ true). any_at (lends_at input) port_key (port_key linked) a.controller.ports linked own some in
        let first : IsAsking setups linked.setup there a.controller.desk LentNow Never linked.port lent_by (begins a linked) = record {
          labels = joined_at setups a linked own r.holds;
          lent = λ input. refl;
          clearing = λ e. e;
          acts = tt;
          last = λ e. tt;
          idle = λ e. tt;
        } in
        let both : Both setups linked.setup there a.controller.desk LentNow Never linked.port lent_by w = goes_asks setups linked.setup there a.controller.desk LentNow Never linked.port lent_by (begins a linked) w goes
        (record { kept = begun setups a linked linked.setup.port has own; asks = first }) in
        let after : Linked = record linked { port = w.port } in
        performed_each [] w.actions (record {
          there = there;
          ready = ready_by setups a (with_work a linked w) (moves_to (placing a linked w own (by_rule w goes)))
              (placed_holds setups a linked w own (by_rule w goes) (λ input is. both.asks.lent input ∙ is) both.asks.labels both.asks.clearing r.holds) r;
          stands = λ e. record {
            there = after;
            found = at_put_same port_key after a.controller.ports linked own;
            port = refl;
            met = refl;
            lent = λ input is. any_put_leads (lends_at input) port_key after a.controller.ports linked own (λ l. both.asks.lent input ∙ l) is;
          };
        }) (nothing_done setups links a linked w Never never) both.asks.acts
        (fits_each w.actions (every_given (is_estab w.port.adjacency.state ≡ false) (AsksNoBranch linked.setup LentNow Never) w.actions both.asks.idle) both.kept.actions
        (every_given (a.controller.has_met ≡ false) IsOther w.actions
        (λ unmet. goes_silent linked.setup LentNow Never a.controller.desk (begins a linked) w goes (at_every port_key IsShutLinked (port_key linked) a.controller.ports linked (r.holds.sound.unmet unmet) own) tt))) can n
      where
        fits_each : (xs : List Action) → Every (λ (x : Action). is_estab w.port.adjacency.state ≡ false → AsksNoBranch linked.setup LentNow Never x) xs → Every (IsAction setups) xs
            → Every (λ (x : Action). a.controller.has_met ≡ false → IsOther x) xs → Every (Fits setups a linked w Never never) xs
        fits_each [] idle fits quiet = tt
        fits_each (x ∷ xs) idle fits quiet = (record { idle = idle.0; action = fits.0; quiet = quiet.0 }, fits_each xs idle.1 fits.1 quiet.1)

  pub can_work : (a : Acted) (port : PortNo) (rule : Rule)
      → ((linked : Linked) → linked_at a.controller port ≡ Some linked → Goes linked.setup a.controller.desk (begins a linked) (rule linked.setup a.controller.desk (begins a linked)))
      → ((linked : Linked) → linked_at a.controller port ≡ Some linked → law.CanAllBeDone setups linked.setup (rule linked.setup a.controller.desk (begins a linked)))
      → Ready setups a → AreIn (at_port a port rule).numbers → CanWork a port rule
  can_work a port rule goes can r n linked found =
      let w : Work = rule linked.setup a.controller.desk (begins a linked) in
      subst (λ (p : PortNo). EachCanBePerformed p (with_work a linked w) w.actions) (same_number linked.setup.port port (at_key port_key port.0 a.controller.ports linked found))
      (can_work_as a linked w (found_at_own setups a linked port found) (goes linked found) (can linked found) r (subst (λ (o : Option Linked). AreIn (works a rule o).numbers) found n))
