-- what a port asks of its controller can be done

use Rattle.std.proofs.Common.{◌≡◌, true, false, List, [], ◌∷◌, ◌++◌, Option, None, Some, refl, sym, subst, arith}
use Rattle.std.specs.Prelude.{◌+◌, nat_lt}
use Rattle.std.specs.Option.{option_map}
use Rattle.law_controller_facts.specs.world_model.Words.{label_channel_of, PortNo, End, Redirect, Reclaim, ReclaimAck, LabelRange, Error, InRange, put, without, Desk, empty_desk, Action, Say, Ask, Note, CutChain, TakeBack, Withdraw, Setup, is_in_range, Grant, GrantState, Idle, ByController, ByInput, Leaving, grant_label, Session, Work, with_session, with_grants, without_grant, desk_with, labels_of, given_back_in, Unnumbered, last_number, spent_number, own_instance, tells_in, tells, reclaim_ack, closing, resets, restarts}
use Rattle.law_controller_facts.specs.world_model.ifmp_wire.declared.message.Message.{Message}
use Rattle.law_controller_facts.specs.world_model.ifmp_wire.declared.message.Message.TheVariants.{Adjacency}
use Rattle.law_controller_facts.specs.ordered_lists.Ordered.{Every}
use Rattle.law_controller_facts.proofs.ordered_lists.Every.{every_all, every_map, every_right}
use Rattle.law_controller_facts.specs.world_model.port_model.declared.action.Action.TheVariants as actions
use Rattle.law_controller_facts.specs.world_model.port_model.Port.{with_action}
use Rattle.law_controller_facts.specs.world_model.port_model.Saying.{peer_instance}
use Rattle.law_controller_facts.specs.law_port_facts.Port.{IsAction, IsWork, IsSayable, IsLabelEnd, Lives}
use Rattle.law_controller_facts.proofs.law_port_facts.Keyed.{on_both, every_more}
use Rattle.law_controller_facts.proofs.law_port_facts.Steps.{Goes}
use Rattle.law_controller_facts.proofs.law_port_facts.Rules.{counts_goes, done_goes}
use Rattle.law_controller_facts.proofs.law_port_facts.Hearings.{hears_goes, ticks_goes}
use Rattle.law_controller_facts.proofs.law_port_facts.Joins.{given_back_kept, resets_kept, restarts_kept}
use Rattle.law_controller_facts.proofs.Conditions.{label_has_home}
use Rattle.law_controller_facts.proofs.Flows.{says_in_range}
use Rattle.law_controller.specs.Actions.{CanDo, CanAllBeDone, IsFresh, AsksWhatCanBeDone}
use Rattle.law_controller.proofs.Asked.{MayAct, MayActs, IsNoReset, AsksNoBranch, IsTo, IsAsking, Both, goes_asks}
use Rattle.law_controller.proofs.Resetting.{MayAlways, closing_may, resets_may}

-- a chain that is cut is of a label of the port
abbrev IsCut : Setup → Action → Type 0
IsCut setup (CutChain label) = is_in_range setup label ≡ true
IsCut setup action = Unit {0}

abbrev AnyEnd : End → Type 0
AnyEnd input = Unit {0}

abbrev AnyPort : PortNo → Type 0
AnyPort port = Unit {0}

may_cut : (setup : Setup) (d : Desk) (x : Action) → MayAct setup AnyEnd AnyPort d x → IsCut setup x
may_cut setup d (Say message) may = tt
may_cut setup d (Ask request needed) may = tt
may_cut setup d (Note item) may = tt
may_cut setup d (CutChain label) may = may
may_cut setup d (TakeBack input output) may = tt
may_cut setup d (Withdraw input) may = tt
may_cut setup d actions.Reset may = tt

may_cut_each : (setup : Setup) (d : Desk) (xs : List Action) → MayActs setup AnyEnd AnyPort d xs → Every (IsCut setup) xs
may_cut_each setup d [] may = tt
may_cut_each setup d (x ∷ xs) may = (may_cut setup d x may.0, may_cut_each setup (desk_with d x) xs may.2)

can_do : (setups : List Setup) (setup : Setup) (x : Action) → ((input : End) → IsLabelEnd setups input → CanDo setups setup (TakeBack input input)) → IsAction setups x → IsSayable x → IsCut setup x → CanDo setups setup x
can_do setups setup (Say message) home fits said cut = said
can_do setups setup (Ask request needed) home fits said cut = fits.0
can_do setups setup (Note item) home fits said cut = tt
can_do setups setup (CutChain label) home fits said cut = cut
can_do setups setup (TakeBack input output) home fits said cut = home input fits.0
can_do setups setup (Withdraw input) home fits said cut = tt
can_do setups setup actions.Reset home fits said cut = tt

can_each : (setups : List Setup) (setup : Setup) (xs : List Action) → ((input : End) → IsLabelEnd setups input → CanDo setups setup (TakeBack input input))
    → Every (IsAction setups) xs → Every IsSayable xs → Every (IsCut setup) xs → Every (CanDo setups setup) xs
can_each setups setup [] home fits said cut = tt
can_each setups setup (x ∷ xs) home fits said cut = (can_do setups setup x home fits.0 said.0 cut.0, can_each setups setup xs home fits.1 said.1 cut.1)

module _ (setups : List Setup) (setup : Setup) (w : Work) (fresh : IsFresh setups setup w) where
  pub home_is : (input : End) → IsLabelEnd setups input → CanDo setups setup (TakeBack input input)
  home_is input end = label_has_home setups input fresh.links end

  -- whatever its rules make of it
  pub goes_can : (desk : Desk) (v : Work) → Goes setup desk w v → Every IsSayable v.actions → CanAllBeDone setups setup v
  goes_can desk v goes said =
      let k : IsWork setups setup w = fresh.work.kept in
      let begin : IsAsking setups setup fresh.work.linked desk AnyEnd AnyPort w.port (λ input some. tt) w = record {
        labels = every_all (IsTo setups setup fresh.work.linked desk AnyEnd AnyPort w.port (λ input some. tt)) (labels_of w.port) (λ label output e. tt);
        lent = λ input. refl;
        clearing = λ e. e;
        acts = subst (MayActs setup AnyEnd AnyPort desk) (sym fresh.nothing) tt;
        last = λ e. subst (Every (IsNoReset setup AnyEnd AnyPort)) (sym fresh.nothing) tt;
        idle = λ e. subst (Every (AsksNoBranch setup AnyEnd AnyPort)) (sym fresh.nothing) tt;
      } in
      let both : Both setups setup fresh.work.linked desk AnyEnd AnyPort w.port (λ input some. tt) v = goes_asks setups setup fresh.work.linked desk AnyEnd AnyPort w.port (λ input some. tt) w v goes (record { kept = k; asks = begin }) in
      can_each setups setup v.actions home_is both.kept.actions said (may_cut_each setup desk v.actions both.asks.acts)

always_cut : (x : Action) (setup : Setup) → MayAlways setup AnyEnd AnyPort x → IsCut setup x
always_cut x setup may = may_cut setup empty_desk x (may.may empty_desk)

-- *A grant that is given back* cuts no chain
abbrev CutsOwn : Setup → Work → Type 0
CutsOwn setup w = Every (IsCut setup) w.actions

tells_cut : (setup : Setup) (w : Work) (message : Unnumbered) → CutsOwn setup w → CutsOwn setup (tells w message)
tells_cut setup w message h = told w.port.session
  where
    numbered_cut : (change : Session → Session) → CutsOwn setup (with_session w change)
    numbered_cut change = on_both (CutsOwn setup) w.halted w (record w { port = record w.port { session = option_map change w.port.session } }) h h

    told : (o : Option Session) → CutsOwn setup (tells_in w message o)
    told None = h
    told (Some s) =
        let next : Work = with_session w (λ session. record session { number = s.number + 1 }) in
        let said : Action = Say (message (own_instance w.port.adjacency) (peer_instance w.port.adjacency) s.number) in
        on_both (CutsOwn setup) (nat_lt s.number last_number) (with_action next said) (with_session w (λ session. record session { number = spent_number }))
        (on_both (CutsOwn setup) next.halted next (record next { actions = next.actions ++ said ∷ [] }) (numbered_cut (λ session. record session { number = s.number + 1 }))
        (every_more (IsCut setup) next.actions said (numbered_cut (λ session. record session { number = s.number + 1 })) tt))
        (numbered_cut (λ session. record session { number = spent_number }))

grants_cut : (setup : Setup) (w : Work) (gs : List Grant) → CutsOwn setup w → CutsOwn setup (with_grants w gs)
grants_cut setup w gs h = on_both (CutsOwn setup) w.halted w (record w { port = record w.port { grants = gs } }) h h

given_cut : (setup : Setup) (w : Work) (grant : Grant) (state : GrantState) → CutsOwn setup w → CutsOwn setup (given_back_in w grant state)
given_cut setup w grant Idle h = h
given_cut setup w grant ByController h = h
given_cut setup w grant (ByInput input) h = grants_cut setup w (put grant_label (record grant { state = ByController }) w.port.grants) h
given_cut setup w grant (Leaving input true) h = tells_cut setup (without_grant w grant.label) (reclaim_ack (label_channel_of grant.label) grant.flow) (grants_cut setup w (without grant_label grant.label w.port.grants) h)
given_cut setup w grant (Leaving input false) h = grants_cut setup w (without grant_label grant.label w.port.grants) h

-- *A reset, and a restart*
every_from : (P : Action → Type 0) (xs ys : List Action) → xs ≡ [] → Every P ys → Every P (xs ++ ys)
every_from P xs ys none all = subst (λ (zs : List Action). Every P (zs ++ ys)) (sym none) all

module _ (setups : List Setup) (setup : Setup) (w : Work) (fresh : IsFresh setups setup w) where
  all_can : (xs : List Action) → Every (IsAction setups) (w.actions ++ xs) → Every (MayAlways setup AnyEnd AnyPort) xs → Every (CanDo setups setup) (w.actions ++ xs)
  all_can xs fits may = every_from (CanDo setups setup) w.actions xs fresh.nothing (can_each setups setup xs (home_is setups setup w fresh) (every_right (IsAction setups) w.actions xs fits)
      (every_map (MayAlways setup AnyEnd AnyPort) IsSayable xs (λ x m. m.sayable) may) (every_map (MayAlways setup AnyEnd AnyPort) (IsCut setup) xs (λ x m. always_cut x setup m) may))

  resets_can : CanAllBeDone setups setup (resets setup w)
  resets_can = all_can _ (resets_kept setups setup fresh.work.linked w fresh.work.kept).actions (resets_may setup AnyEnd AnyPort setups w.port 0 fresh.work.kept.port (λ input some. tt) tt)

  restarts_can : CanAllBeDone setups setup (restarts setup w)
  restarts_can = all_can (closing setup w.port.session) (restarts_kept setups setup fresh.work.linked w fresh.work.kept).actions (closing_may setup AnyEnd AnyPort setups w.port.session fresh.work.kept.port.labels)

-- a message in range, of any channel
pub heard_anyway : (message : Message) → InRange message → Lives message
heard_anyway (Adjacency hello) r = tt
heard_anyway (Redirect sender peer number lifetime channel flow) r = (omega (arith, r.0), tt, r.2)
heard_anyway (Reclaim sender peer number channel flow) r = (tt, r.1)
heard_anyway (ReclaimAck sender peer number channel flow) r = tt
heard_anyway (LabelRange sender peer number least greatest) r = tt
heard_anyway (Error sender peer number code channel) r = tt

-- *Each rule*
pub asks_what_can_be_done : AsksWhatCanBeDone
asks_what_can_be_done = record {
  hears = λ setups setup desk w source message f r. goes_can setups setup w f desk _ (hears_goes setup desk w source message f.work.live (heard_anyway message r)) (says_in_range.hears setups setup desk w source message f.work r);
  ticks = λ setups setup desk w f. goes_can setups setup w f desk _ (ticks_goes setup desk w f.work.live) (says_in_range.ticks setups setup desk w f.work);
  counts = λ setups setup desk w packet f. goes_can setups setup w f desk _ (counts_goes setup desk w packet f.work.kept.port.ascend) (says_in_range.counts setups setup desk w packet f.work);
  done = λ setups setup w request f. goes_can setups setup w f empty_desk _ (done_goes setup empty_desk w request (λ t. tt)) (says_in_range.done setups setup w request f.work);
  given_back = λ setups setup w grant found f. can_each setups setup _ (home_is setups setup w f) (given_back_kept setups setup f.work.linked w grant found f.work.kept).actions (says_in_range.given_back setups setup w grant found f.work)
      (given_cut setup w grant grant.state (subst (Every (IsCut setup)) (sym f.nothing) tt));
  resets = λ setups setup w f. resets_can setups setup w f;
  restarts = λ setups setup w f. restarts_can setups setup w f;
}
