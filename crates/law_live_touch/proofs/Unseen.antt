-- what the other end doesn't see

use Rattle.std.proofs.Common.{◌≡◌, ℕ, false, List, [], Option, None, Some, refl, ◌∙◌, ap}
use Rattle.live_model.specs.world_model.Words.{End, Peer, Side, at, put, Setup, Label, label_number, Grant, ByInput, grant_label, is_leaving, Session, Work, empty_desk, lent, used_label}
use Rattle.live_model.specs.world_model.ifmp_wire.declared.message.Message.{Message}
use Rattle.live_model.specs.world_model.port_model.Counts.{window_moved}
use Rattle.live_model.specs.world_model.port_model.Joins.{joins_label}
use Rattle.live_model.specs.world_model.port_model.Ticks.{moves_windows}
use Rattle.law_port_facts.proofs.Keyed.{at_key}
use Rattle.law_live_labels.proofs.Agreed.{at_work}
use Rattle.law_live_links.specs.Law.{EndOfLink, working}
use Rattle.law_live_links.proofs.Resting.{end_in, by_session}
use Rattle.law_live_touch.specs.Touch.{AreInTouch}
use Rattle.law_live_touch.specs.Law.{TouchOn, LendingKeepsTouch, JoinedOn, JoinsKeepTouch, WindowsKeepTouch, SilenceKeepsTouch}
use Rattle.law_live_touch.proofs.Ends.{touches, on_silent}
use Rattle.law_live_touch.proofs.Saying.{as_before, counted_with, regrants, unseen_on}

module _ (instances : ℕ) (setup : Setup) (side : Side Peer) (tally : ℕ) (s : Session) (grants : List Grant) (said : List Message) (other : EndOfLink)
    (t : AreInTouch (end_in setup side tally s grants said) other) where
  abbrev one : EndOfLink
  one = end_in setup side tally s grants said

  abbrev now_at : Work
  now_at = at_work side tally instances s grants []

  lent_on : (grant : Grant) (input : End) → at grant_label grant.label grants ≡ Some grant → is_leaving grant.state ≡ false → TouchOn one other (lent now_at grant input)
  lent_on grant input found stays = on_silent setup side tally s grants said other t instances s (put grant_label (record grant { state = ByInput input }) grants) [] tt refl
      (regrants setup side tally s grants said other t grant (ByInput input) found stays refl)

  -- *A label* by its number, if it is held
  module _ (number : ℕ) where
    found_so : (label : Label) → at label_number number s.labels ≡ Some label → at label_number label.number s.labels ≡ Some label
    found_so label found = ap (λ k. at label_number k s.labels) (at_key label_number number s.labels label found) ∙ found

    join_on : (join : Option End) (o : Option Label) → at label_number number s.labels ≡ o → TouchOn one other (joins_label now_at join o)
    join_on join None none = as_before setup side tally s grants said other t instances
    join_on join (Some label) found = unseen_on setup side tally s grants said other t empty_desk instances label label.idle join (found_so label found)

    use_on : (o : Option Label) → at label_number number s.labels ≡ o → TouchOn one other (used_label now_at o)
    use_on None none = as_before setup side tally s grants said other t instances
    use_on (Some label) found = unseen_on setup side tally s grants said other t empty_desk instances label 0 label.join (found_so label found)

    joined_on : JoinedOn instances one other number
    joined_on = record {
      joins = λ output. join_on (Some output) (at label_number number s.labels) refl;
      parts = join_on None (at label_number number s.labels) refl;
      is_used = use_on (at label_number number s.labels) refl;
    }

  silent_for : (silence : ℕ) → AreInTouch (record one { port = record one.port { adjacency = record side { silence = silence } } }) other
  silent_for silence = touches setup side tally s grants said other t (record side { silence = silence }) tally s grants said other.said
      (record { one_is_up = t.met.one_is_up; other_is_up = t.met.other_is_up; one_knows = t.met.one_knows; other_knows = t.met.other_knows }) t.one_end.labels_apart t.one_end.grants_apart
      (record { numbers = t.there.numbers; named = t.there.named; known = t.there.known; ranges = t.there.ranges; labels = t.there.labels })
      (record { numbers = t.back.numbers; named = t.back.named; known = t.back.known; ranges = t.back.ranges; labels = t.back.labels })

pub lending_keeps_touch : LendingKeepsTouch
lending_keeps_touch instances one other grant input touch found stays =
    by_session (λ (x : EndOfLink). AreInTouch x other → at grant_label grant.label x.port.grants ≡ Some grant → TouchOn x other (lent (working instances x) grant input))
    (λ setup side tally s grants said t f. lent_on instances setup side tally s grants said other t grant input f stays) one touch.one_end.in_session touch found

pub joins_keep_touch : JoinsKeepTouch
joins_keep_touch instances one other number touch =
    by_session (λ (x : EndOfLink). AreInTouch x other → JoinedOn instances x other number)
    (λ setup side tally s grants said t. joined_on instances setup side tally s grants said other t number) one touch.one_end.in_session touch

pub windows_keep_touch : WindowsKeepTouch
windows_keep_touch instances one other touch =
    by_session (λ (x : EndOfLink). AreInTouch x other → TouchOn x other (moves_windows x.setup (working instances x)))
    (λ setup side tally s grants said t. counted_with setup side tally s grants said other t empty_desk instances (window_moved setup.timers.window s.counted)) one touch.one_end.in_session touch

pub silence_keeps_touch : SilenceKeepsTouch
silence_keeps_touch one other silence touch =
    by_session (λ (x : EndOfLink). AreInTouch x other → AreInTouch (record x { port = record x.port { adjacency = record x.port.adjacency { silence = silence } } }) other)
    (λ setup side tally s grants said t. silent_for 0 setup side tally s grants said other t silence) one touch.one_end.in_session touch
