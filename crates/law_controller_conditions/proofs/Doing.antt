-- what a port's reset asks can be done, one thing after the other

use Rattle.std.proofs.Common.{◌≡◌, Bool, true, List, [], ◌∷◌, ◌++◌, Option, Some, refl, sym, ◌∙◌, subst, if◌then◌else◌, fold}
use Rattle.law_controller.specs.world_model.Words.{PortNo, End, Clearing, is_estab, IsLinkPort, at, Desk, Action, Say, Ask, Note, CutChain, TakeBack, Withdraw, Setup, Work, desk_with, resets, Linked, port_key, linked_at, begins, with_work, does, does_in_estab, resets_of, resets_port}
use Rattle.law_controller.specs.ordered_lists.Ordered.{Every}
use Rattle.law_controller.proofs.ordered_lists.Every.{every_map, every_map2}
use Rattle.law_controller.specs.world_model.port_model.declared.action.Action.TheVariants as actions
use Rattle.law_controller.specs.law_port_facts.Port.{setup_port, IsAction}
use Rattle.law_controller.proofs.law_port_facts.Keyed.{at_key, at_every, at_put_same, every_more}
use Rattle.law_controller.proofs.law_port_facts.Joins.{resets_kept}
use Rattle.law_controller.specs.world_model.Controller.{Acted}
use Rattle.law_controller.proofs.law_controller_facts.Moves.{by_reset, placing, Moves, moves_to, moves_fold, HasPorts, found_setup, found_at_own, found_port, begun}
use Rattle.law_controller.proofs.law_controller_facts.Performing.{does_in_estab_goes}
use Rattle.law_controller.specs.Actions as law
use Rattle.law_controller.specs.Order.{lends_at, is_lent}
use Rattle.law_controller.proofs.Actions.{asks_what_can_be_done}
use Rattle.law_controller.proofs.Lists.{any_at, any_put_leads}
use Rattle.law_controller.proofs.Asked.{MayAct, MayActs, IsNoReset, may_more}
use Rattle.law_controller.proofs.Resetting.{MayAlways, may_each, resets_may, left_lends}
use Rattle.law_controller.proofs.Ordering.{same_number}
use Rattle.law_controller.proofs.Holding.{placed_holds}
use Rattle.law_controller.proofs.Performing.{Lent, Stands, Fits, does_each}
use Rattle.controller_router.specs.Conditions.{CanDo, EachCanBeDone, CanReset, CanResetPort}
use Rattle.law_controller_conditions.specs.Kept.{AreLinks, AreIn}
use Rattle.law_controller_conditions.proofs.Ready.{in_before, Ready, ready_by, ready_ports, fresh_port}
use Rattle.law_controller_conditions.proofs.Channels.{label_channel}
use Rattle.law_controller_conditions.proofs.Asking.{can_ask, can_take_back}

pub fold_last : {A B : Type 0} (f : A → B → A) (a : A) (ys : List B) (x : B) → fold f a (ys ++ x ∷ []) ≡ f (fold f a ys) x
fold_last f a [] x = refl
fold_last f a (y ∷ ys) x = fold_last f (f a y) ys x

module _ (setups : List Setup) (links : AreLinks setups) where
  pub link_port : (port : PortNo) (setup : Setup) → at setup_port port.0 setups ≡ Some setup → IsLinkPort port
  link_port port setup there = subst IsLinkPort (same_number setup.port port (at_key setup_port port.0 setups setup there))
      (at_every setup_port (λ (s : Setup). IsLinkPort s.port) port.0 setups setup links.links there)

  -- *One action*
  pub can_do : (a : Acted) (port : PortNo) (setup : Setup) (x : Action) → Ready setups a → at setup_port port.0 setups ≡ Some setup → law.CanDo setups setup x → IsAction setups x → AreIn (does port a x).numbers → CanDo a port x
  can_do a port setup (Say message) r there can fits n = (let link : IsLinkPort port = link_port port setup there in (can, record { least = link.0; most = link.1; mark = n.controls }))
  can_do a port setup (Ask request needed) r there can fits n = can_ask setups links a request r can n
  can_do a port setup (Note item) r there can fits n = tt
  can_do a port setup (CutChain label) r there can fits n = label_channel setups a.controller.ports port setup label r.holds.sound.ports.same there can
  can_do a port setup (TakeBack input output) r there can fits n = can_take_back setups links a input output r fits.0 fits.1 n
  can_do a port setup (Withdraw input) r there can fits n = tt
  can_do a port setup actions.Reset r there can fits n = tt

  -- *What a port at work has asked*: a is the controller before, w what the rule left
  module _ (a : Acted) (linked : Linked) (w : Work) (Emptied : PortNo → Type 0)
      (clears : (port : PortNo) → Emptied port → (port ≡ linked.setup.port) × (a.controller.has_met ≡ true) × (w.port.adjacency.state ≡ Clearing)) where
    pub record Begun : Type 0 where
      pub there : at setup_port linked.setup.port.0 setups ≡ Some linked.setup
      pub ready : Ready setups (with_work a linked w)
      pub stands : is_estab a.controller.adjacency.state ≡ true → Stands setups a linked w Emptied clears (with_work a linked w).controller

    -- what is done already
    abbrev pub After : List Action → Acted
    After ys = fold (does_in_estab linked.setup.port) (with_work a linked w) ys

    abbrev pub MayNow : List Action → List Action → Type 0
    MayNow ys zs = MayActs linked.setup (Lent setups a linked w Emptied clears) Emptied (fold desk_with a.controller.desk ys) zs

    pub record Done (ys : List Action) : Type 0 where
      pub may : MayActs linked.setup (Lent setups a linked w Emptied clears) Emptied a.controller.desk ys
      pub other : Every (IsNoReset linked.setup (Lent setups a linked w Emptied clears) Emptied) ys
      pub fits : Every (Fits setups a linked w Emptied clears) ys

    pub nothing_done : Done []
    nothing_done = record { may = tt; other = tt; fits = tt }

    pub one_done : (ys : List Action) (x : Action) → Done ys → MayAct linked.setup (Lent setups a linked w Emptied clears) Emptied (fold desk_with a.controller.desk ys) x
        → IsNoReset linked.setup (Lent setups a linked w Emptied clears) Emptied x → Fits setups a linked w Emptied clears x → Done (ys ++ x ∷ [])
    one_done ys x d may other fits = record {
      may = may_more linked.setup (Lent setups a linked w Emptied clears) Emptied ys a.controller.desk x d.other d.may may;
      other = every_more (IsNoReset linked.setup (Lent setups a linked w Emptied clears) Emptied) ys x d.other other;
      fits = every_more (Fits setups a linked w Emptied clears) ys x d.fits fits;
    }

    are_actions : (xs : List Action) → Every (Fits setups a linked w Emptied clears) xs → Every (IsAction setups) xs
    are_actions xs fits = every_map (Fits setups a linked w Emptied clears) (IsAction setups) xs (λ x f. f.action) fits

    does_moves : (xs : List Action) (b : Acted) → Every (Fits setups a linked w Emptied clears) xs → HasPorts setups b → Moves setups b (fold (does_in_estab linked.setup.port) b xs)
    does_moves xs b fits h = moves_fold setups (IsAction setups) (does_in_estab linked.setup.port) (λ c x k f. does_in_estab_goes setups linked.setup.port c x k f) xs (are_actions xs fits) b h

    pub ready_after : (ys : List Action) → Begun → Done ys → Ready setups (After ys)
    ready_after ys g d = ready_by setups (with_work a linked w) (After ys) (does_moves ys (with_work a linked w) d.fits (ready_ports setups (with_work a linked w) g.ready))
        (does_each setups a linked w Emptied clears ys (with_work a linked w) g.ready.holds g.stands (λ e. d.may) d.other d.fits) g.ready

    pub done_each : (ys zs : List Action) → Begun → Done ys → MayNow ys zs → Every (IsNoReset linked.setup (Lent setups a linked w Emptied clears) Emptied) zs → Every (Fits setups a linked w Emptied clears) zs
        → Every (law.CanDo setups linked.setup) zs → AreIn (fold (does_in_estab linked.setup.port) (After ys) zs).numbers → EachCanBeDone linked.setup.port (After ys) zs
    done_each ys [] g d may other fits can n = tt
    done_each ys (x ∷ zs) g d may other fits can n =
        let p : PortNo = linked.setup.port in
        let b : Acted = After ys in
        let next : Acted = does_in_estab p b x in
        let r : Ready setups b = ready_after ys g d in
        let more : Done (ys ++ x ∷ []) = one_done ys x d may.0 other.0 fits.0 in
        let same : After (ys ++ x ∷ []) ≡ next = fold_last (does_in_estab p) (with_work a linked w) ys x in (
          λ estab. can_do b p linked.setup x r g.there can.0 fits.0.action (subst (λ (t : Bool). AreIn (if t then does p b x else b).numbers) estab
              (in_before setups next (fold (does_in_estab p) next zs) (does_moves zs next fits.1 (subst (HasPorts setups) same (ready_ports setups (After (ys ++ x ∷ [])) (ready_after (ys ++ x ∷ []) g more)))) n)),
          subst (λ (v : Acted). EachCanBeDone p v zs) same (done_each (ys ++ x ∷ []) zs g more
              (subst (λ (k : Desk). MayActs linked.setup (Lent setups a linked w Emptied clears) Emptied k zs) (sym (fold_last desk_with a.controller.desk ys x)) may.2) other.1 fits.1 can.1
              (subst (λ (v : Acted). AreIn (fold (does_in_estab p) v zs).numbers) (sym same) n)),
        )

  -- *A port's reset*
  module _ (a : Acted) (linked : Linked) (port : PortNo) (found : linked_at a.controller port ≡ Some linked) (met : a.controller.has_met ≡ true) (r : Ready setups a) where
    own : linked_at a.controller linked.setup.port ≡ Some linked
    own = found_at_own setups a linked port found

    has : HasPorts setups a
    has = ready_ports setups a r

    abbrev w : Work
    w = resets linked.setup (begins a linked)

    abbrev Emptied : PortNo → Type 0
    Emptied other = other ≡ linked.setup.port

    abbrev LentNow : End → Type 0
    LentNow input = is_lent a.controller.ports input ≡ true

    clears : (other : PortNo) → Emptied other → (other ≡ linked.setup.port) × (a.controller.has_met ≡ true) × (w.port.adjacency.state ≡ Clearing)
    clears other is = (is, met, refl)

    may : Every (MayAlways linked.setup LentNow Emptied) w.actions
    may = resets_may linked.setup LentNow Emptied setups linked.port a.numbers.instances (found_port setups a linked port has found) (λ input some. any_at (lends_at input) port_key (port_key linked) a.controller.ports linked own some) refl

    fits : Every (Fits setups a linked w Emptied clears) w.actions
    fits = every_map2 (MayAlways linked.setup LentNow Emptied) (IsAction setups) (Fits setups a linked w Emptied clears) w.actions (λ x m f. record { idle = λ e. m.no_branch; action = f; quiet = λ e. m.goes_on }) may
        (resets_kept setups linked.setup (found_setup setups a linked linked.setup.port has own) (begins a linked) (begun setups a linked port has found)).actions

    placed_moves : Moves setups a (with_work a linked w)
    placed_moves = moves_to (placing a linked w own by_reset)

    begins_reset : Begun a linked w Emptied clears
    begins_reset = record {
      there = found_setup setups a linked linked.setup.port has own;
      ready = ready_by setups a (with_work a linked w) placed_moves (placed_holds setups a linked w own by_reset (λ input is. left_lends input linked.port.grants ∙ is) tt (λ e. refl) r.holds) r;
      stands = λ e. record {
        there = record linked { port = w.port };
        found = at_put_same port_key (record linked { port = w.port }) a.controller.ports linked own;
        port = refl;
        met = refl;
        lent = λ input is. any_put_leads (lends_at input) port_key (record linked { port = w.port }) a.controller.ports linked own (λ l. left_lends input linked.port.grants ∙ l) is;
      };
    }

    pub can_reset : AreIn (resets_of a (Some linked)).numbers → CanReset a port linked
    can_reset n = record {
      instance = (in_before setups (with_work a linked w) (resets_of a (Some linked))
          (does_moves a linked w Emptied clears w.actions (with_work a linked w) fits (ready_ports setups (with_work a linked w) begins_reset.ready)) n).instances;
      actions = subst (λ (p : PortNo). EachCanBeDone p (with_work a linked w) w.actions) (same_number linked.setup.port port (at_key port_key port.0 a.controller.ports linked found))
          (done_each a linked w Emptied clears [] w.actions begins_reset (nothing_done a linked w Emptied clears) (may_each linked.setup LentNow Emptied w.actions a.controller.desk may)
          (every_map (MayAlways linked.setup LentNow Emptied) (IsNoReset linked.setup LentNow Emptied) w.actions (λ x m. m.goes_on) may) fits
          (asks_what_can_be_done.resets setups linked.setup (begins a linked) (fresh_port setups links a linked port found has r.flows)) n);
    }

  pub can_reset_port : (a : Acted) (port : PortNo) → a.controller.has_met ≡ true → Ready setups a → AreIn (resets_port a port).numbers → CanResetPort a port
  can_reset_port a port met r n linked found = can_reset a linked port found met r (subst (λ (o : Option Linked). AreIn (resets_of a o).numbers) found n)
