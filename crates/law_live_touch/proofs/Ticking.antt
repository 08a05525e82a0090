-- a tick comes to a label

use Rattle.std.proofs.Common.{◌≡◌, ◌≢◌, ℕ, ◌≤◌, ◌<◌, ◌+◌, Bool, false, true, List, [], ◌∷◌, ◌++◌, Option, None, Some, refl, sym, ◌∙◌, ap, subst, arith, if◌then◌else◌}
use Rattle.std.specs.Prelude.{◌||◌, is_none, nat_le}
use Rattle.std.proofs.lemmas.Bool.Decides.{nat_tests}
use Rattle.live_model.specs.world_model.Words.{DeleteTree, End, Side, Peer, label_channel_of, label_number_of, at, put, Desk, on_input, Setup, label_end, Label, LabelState, Wiring, Offered, Recalled, Wired, label_number, Grant, grant_label, Session, Work, last_number, has_room, redirect, reclaim, one_idler, one_older, idles, refreshes, recalls, ticks_in, ticks_found, ticks_label, with_label}
use Rattle.live_model.specs.world_model.ifmp_wire.declared.message.Message.{Message}
use Rattle.live_model.specs.world_model.port_model.Adjacency.{unwires}
use Rattle.live_model.specs.world_model.port_model.Port.{with_action}
use Rattle.live_model.specs.world_model.port_model.Saying.{says}
use Rattle.live_model.specs.world_model.port_model.declared.action.Action.TheVariants.{Ask, Say}
use Rattle.law_port_facts.proofs.Keyed.{on_both, on_each, at_key}
use Rattle.law_port_facts.proofs.ordered_lists.Every.{every_map}
use Rattle.law_live_labels.proofs.Agreed.{at_work}
use Rattle.law_live_links.specs.Law.{EndOfLink, expected_of, IsToldAnew}
use Rattle.law_live_links.proofs.Resting.{end_in}
use Rattle.law_live_recalls.proofs.Rules.{says_it, label_recalled, label_told_again}
use Rattle.law_live_touch.specs.Touch.{IsNumbered, a_redirect, a_reclaim, IsReclaim, Reclaims, NamesAtMost, AnswersNothing, SaysNothing, Between, between, IsInState, Stands, IsInRanges, AreInTouch}
use Rattle.law_live_touch.specs.Law.{deletes, TouchOn}
use Rattle.law_live_touch.specs.Law as law
use Rattle.law_live_touch.proofs.Moves.{is_refreshed, is_older, is_recalled, is_told_again}
use Rattle.law_live_touch.proofs.Ends.{of_another, known_channel, apart_now, ranges_now, all_now, stood, on_silent, on_saying}
use Rattle.law_live_touch.proofs.Saying.{with_labels, as_before, stands_saying, stands_back, says_with}

whole : (n : ℕ) → n ≤ n
whole n = omega arith

module _ (desk : Desk) (instances : ℕ) (setup : Setup) (side : Side Peer) (tally : ℕ) (s : Session) (grants : List Grant) (said : List Message) (other : EndOfLink)
    (t : AreInTouch (end_in setup side tally s grants said) other) where
  abbrev one : EndOfLink
  one = end_in setup side tally s grants said

  abbrev now_at : Work
  now_at = at_work side tally instances s grants []

  module _ (label : Label) (held : at label_number label.number s.labels ≡ Some label) (left : s.number < last_number) where
    abbrev k : ℕ
    k = label.number

    known : label_number_of (label_channel_of k) ≡ Some k
    known = known_channel setup side tally s grants said other t label held

    -- *It says a message* of the label, which is another now
    module _ (now : Label) (same : now.number ≡ k) (message : Message) (is : IsNumbered side.own other.port.adjacency.own setup s.number message) (names : NamesAtMost s.expected message)
        (of_it : (n : ℕ) → k ≢ n → SaysNothing n message) (silent : (n : ℕ) → AnswersNothing n message) where
      abbrev telling : Session
      telling = record s { labels = put label_number now s.labels; number = s.number + 1 }

      telling_on : Stands setup.timers now.number (record (between one other now.number) { there = said ++ message ∷ [] }) (Some now)
          → TouchOn one other (at_work side tally instances telling grants (Say message ∷ []))
      telling_on here = on_saying setup side tally s grants said other t instances telling grants (Say message ∷ []) message (law.says message, tt) refl
          (says_with setup side tally s grants said other t message is left telling.labels grants names
          (apart_now setup side tally s grants said other t label now held same) t.one_end.grants_apart (ranges_now setup side tally s grants said other t label now held same)
          (all_now setup side tally s grants said other t label now held same (λ n. record (between one other n) { there = said ++ message ∷ [] }) here
          (λ n differs. stands_saying setup side tally s grants said other t message n (of_it n (λ e. differs (same ∙ e)))))
          (λ n. stands_back setup side tally s grants said other t message n (silent n)))

    abbrev b : Between
    b = between one other k

    in_state : (state : LabelState) → label.state ≡ state → IsInState setup.timers k label.flow label.ticks b state
    in_state state is = subst (IsInState setup.timers k label.flow label.ticks b) is (stood setup side tally s grants said other t label label held refl)

    -- *It is offered*, and idle for so long
    module _ (offered : label.state ≡ Offered) (idle : ℕ) where
      abbrev older : Label
      older = one_older (record label { idle = idle })

      abbrev told : Message
      told = redirect setup label side.own.instance other.port.adjacency.own.instance s.number

      -- it isn't due yet
      older_on : nat_le setup.timers.refresh older.ticks ≡ false → TouchOn one other (with_label now_at older)
      older_on early = on_silent setup side tally s grants said other t instances aging grants [] tt refl
          (with_labels setup side tally s grants said other t aging refl refl refl (apart_now setup side tally s grants said other t label older held refl)
          (every_map (IsInRanges other.setup (Some s)) (IsInRanges other.setup (Some aging)) aging.labels (λ l r. record { in_range = r.in_range; inside = r.inside })
          (ranges_now setup side tally s grants said other t label older held refl))
          (all_now setup side tally s grants said other t label older held refl (between one other)
          (subst (IsInState setup.timers k label.flow older.ticks b) (sym offered)
          (is_older setup.timers k said other.said (expected_of other.port) s.known label.flow label.ticks t.one_end.counted (sooner older.ticks setup.timers.refresh early)
          (at grant_label k other.port.grants) (in_state Offered offered)))
          (λ n differs. t.there.labels n)))
        where
          aging : Session
          aging = record s { labels = put label_number older s.labels }

          sooner : (m n : ℕ) → nat_le n m ≡ false → m < n
          sooner m n h = grind (arith, nat_tests)

      -- it is due
      abbrev anew : Label
      anew = record older { ticks = 0 }

      anew_on : TouchOn one other (says (with_label now_at anew) (redirect setup older))
      anew_on = subst (TouchOn one other)
          (sym (says_it setup desk side tally instances grants other.port.adjacency t.met (record s { labels = put label_number anew s.labels }) grants (redirect setup older) left side t.met.one_knows))
          (telling_on anew refl told (a_redirect k label.flow known) tt (λ n differs. of_another k n known differs) (λ n. tt)
          (subst (IsInState setup.timers k label.flow 0 (record b { there = said ++ told ∷ [] })) (sym offered)
          (is_refreshed setup.timers k said other.said (expected_of other.port) s.known label.flow label.ticks told t.one_end.refreshes known (λ of_it. refl)
          (at grant_label k other.port.grants) (in_state Offered offered))))

      refresh_on : TouchOn one other (refreshes setup now_at older)
      refresh_on = on_each (TouchOn one other) (nat_le setup.timers.refresh older.ticks) (says (with_label now_at anew) (redirect setup older)) (with_label now_at older) (λ due. anew_on) older_on

    -- *It is recalled*
    abbrev reclaiming : Message
    reclaiming = reclaim label side.own.instance other.port.adjacency.own.instance s.number

    of_this : IsReclaim k s.number reclaiming
    of_this = (known, refl)

    its_last : Reclaims k label.flow s.number reclaiming
    its_last of_it = (refl, whole s.number)

    module _ (offered : label.state ≡ Offered) (untold : IsToldAnew k said → ⊥) (unjoined : label.join ≡ None) (unused : setup.policy.keeps label.flow (one_idler label).idle ≡ false) where
      abbrev recalled : Label
      recalled = record (one_idler label) { state = Recalled s.number false }

      recall_on : TouchOn one other (ticks_label setup desk now_at k)
      recall_on = subst (TouchOn one other) (sym (label_recalled setup desk side tally instances grants other.port.adjacency t.met s label held offered unjoined unused left))
          (telling_on recalled refl reclaiming (a_reclaim k label.flow known) tt (λ n differs. of_another k n known differs) (λ n. tt)
          (is_recalled setup.timers k said other.said (expected_of other.port) s.known label.flow label.ticks s.number reclaiming of_this its_last untold
          (at grant_label k other.port.grants) (in_state Offered offered)))

    module _ (last : ℕ) (waits : label.state ≡ Recalled last false) where
      abbrev again : Label
      again = record label { state = Recalled s.number false }

      again_on : TouchOn one other (ticks_label setup desk now_at k)
      again_on = subst (TouchOn one other) (sym (label_told_again setup desk side tally instances grants other.port.adjacency t.met s label held last waits left))
          (telling_on again refl reclaiming (a_reclaim k label.flow known) tt (λ n differs. of_another k n known differs) (λ n. tt)
          (is_told_again setup.timers k said other.said (expected_of other.port) s.known side.own other.port.adjacency.own setup s.number t.there.numbers t.there.named t.there.known
          label.flow last reclaiming of_this its_last (at grant_label k other.port.grants) (in_state (Recalled last false) waits)))

    -- *Its branch* is asked to be deleted, or nothing is
    unwire_on : TouchOn one other (unwires setup desk now_at k)
    unwire_on = on_both (TouchOn one other) (on_input desk (label_end setup.port k) || has_room desk now_at)
        (with_action now_at (Ask (DeleteTree (label_end setup.port k)) (on_input desk (label_end setup.port k)))) now_at
        (on_silent setup side tally s grants said other t instances s grants (Ask (DeleteTree (label_end setup.port k)) (on_input desk (label_end setup.port k)) ∷ [])
        (deletes k (on_input desk (label_end setup.port k)), tt) refl t)
        (as_before setup side tally s grants said other t instances)

    pub tick_on : (IsToldAnew k said → ⊥) → TouchOn one other (ticks_label setup desk now_at k)
    tick_on untold = subst (TouchOn one other) (sym (ap (ticks_found setup desk now_at) held)) (by label.state refl)
      where
        whole_way : TouchOn one other (ticks_label setup desk now_at k) → TouchOn one other (ticks_in setup desk now_at label label.state)
        whole_way on = subst (TouchOn one other) (ap (ticks_found setup desk now_at) held) on

        unkept : (offered : label.state ≡ Offered) → label.join ≡ None → setup.policy.keeps label.flow (one_idler label).idle ≡ false → TouchOn one other (recalls setup now_at (one_idler label))
        unkept offered unjoined unused = subst (TouchOn one other)
            (ap (ticks_found setup desk now_at) held ∙ (ap (ticks_in setup desk now_at label) offered
            ∙ (ap (λ (o : Option End). if is_none o then idles setup now_at (one_idler label) else refreshes setup now_at (one_older label)) unjoined
            ∙ ap (λ (b : Bool). if b then refreshes setup now_at (one_older (one_idler label)) else recalls setup now_at (one_idler label)) unused)))
            (recall_on offered untold unjoined unused)

        by_join : (offered : label.state ≡ Offered) (o : Option End) → label.join ≡ o
            → TouchOn one other (if is_none o then idles setup now_at (one_idler label) else refreshes setup now_at (one_older label))
        by_join offered None unjoined = on_each (TouchOn one other) (setup.policy.keeps label.flow (one_idler label).idle) (refreshes setup now_at (one_older (one_idler label))) (recalls setup now_at (one_idler label))
            (λ kept. refresh_on offered (one_idler label).idle) (unkept offered unjoined)
        by_join offered (Some output) joined = refresh_on offered label.idle

        by : (state : LabelState) → label.state ≡ state → TouchOn one other (ticks_in setup desk now_at label label.state)
        by Wiring is = subst (TouchOn one other) (sym (ap (ticks_in setup desk now_at label) is)) (as_before setup side tally s grants said other t instances)
        by Offered is = subst (TouchOn one other) (sym (ap (ticks_in setup desk now_at label) is)) (by_join is label.join refl)
        by (Recalled last false) is = whole_way (again_on last is)
        by (Recalled last true) is = subst (TouchOn one other) (sym (ap (ticks_in setup desk now_at label) is)) (as_before setup side tally s grants said other t instances)
        by Wired is = subst (TouchOn one other) (sym (ap (ticks_in setup desk now_at label) is))
            (on_both (TouchOn one other) (on_input desk (label_end setup.port k)) now_at (unwires setup desk now_at k) (as_before setup side tally s grants said other t instances) unwire_on)

  pub ticks_on : (number : ℕ) → (IsToldAnew number said → ⊥) → s.number < last_number → TouchOn one other (ticks_label setup desk now_at number)
  ticks_on number untold left = by (at label_number number s.labels) refl
    where
      by : (o : Option Label) → at label_number number s.labels ≡ o → TouchOn one other (ticks_label setup desk now_at number)
      by None none = subst (TouchOn one other) (sym (ap (ticks_found setup desk now_at) none)) (as_before setup side tally s grants said other t instances)
      by (Some label) found = (let same : label.number ≡ number = at_key label_number number s.labels label found
          in subst (λ n. TouchOn one other (ticks_label setup desk now_at n)) same
          (tick_on label (ap (λ n. at label_number n s.labels) same ∙ found) left (λ told. untold (subst (λ n. IsToldAnew n said) same told))))
