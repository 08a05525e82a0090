-- rules of a port that the other end of its link doesn't see

use Rattle.std.proofs.Common.{◌≡◌, ℕ, false, [], Option, None, Some, refl, sym, ◌∙◌, ap, subst}
use Rattle.std.specs.Option.{option_map, option_map_or}
use Rattle.live_model.specs.world_model.Words.{End, at, put, Label, label_number, label_at, labels_of, Grant, GrantState, Idle, ByController, ByInput, Leaving, grant_label, is_leaving, Session, with_label, with_grant, lent, started, started_in, used, used_label}
use Rattle.live_model.specs.world_model.port_model.Joins.{joins_label}
use Rattle.law_port_facts.proofs.Keyed.{at_key, map_put}
use Rattle.law_live_links.specs.Law.{EndOfLink, working}
use Rattle.law_live_unseen.specs.Law.{seen_label, seen_grant, AreAlike, GrantsAreLentUnseen, LabelsAreJoinedUnseen, LabelsArePartedUnseen, GrantsAreStartedUnseen, LabelsAreUsedUnseen}

module _ (instances : ℕ) (e : EndOfLink) where
  unchanged : AreAlike e.port e.port
  unchanged = record { adjacency = refl; in_session = refl; number = refl; expected = refl; labels = refl; grants = refl }

  -- *A grant* is put in its own place
  grant_put : (grant after : Grant) → at grant_label after.label e.port.grants ≡ Some grant → seen_grant after ≡ seen_grant grant
      → AreAlike e.port (with_grant (working instances e) after).port
  grant_put grant after there same = record {
    adjacency = refl;
    in_session = refl;
    number = refl;
    expected = refl;
    labels = refl;
    grants = map_put grant_label seen_grant after e.port.grants grant there same;
  }

  -- *A label* is put in its own place
  label_put : (label after : Label) → label_at e.port after.number ≡ Some label → seen_label after ≡ seen_label label → AreAlike e.port (with_label (working instances e) after).port
  label_put label after there same = by e.port.session refl there
    where
      by : (o : Option Session) → e.port.session ≡ o → at label_number after.number (option_map_or (λ (s : Session). s.labels) o []) ≡ Some label → AreAlike e.port (with_label (working instances e) after).port
      by None is found = absurd (cc found)
      by (Some s) is found = subst (λ (o : Option Session). AreAlike (record e.port { session = o }) (record e.port { session = option_map (λ (t : Session). record t { labels = put label_number after t.labels }) o })) (sym is)
          (record {
            adjacency = refl;
            in_session = refl;
            number = refl;
            expected = refl;
            labels = map_put label_number seen_label after s.labels label found same;
            grants = refl;
          })

  lends : (grant : Grant) (input : End) → at grant_label grant.label e.port.grants ≡ Some grant → is_leaving grant.state ≡ false → AreAlike e.port (lent (working instances e) grant input).port
  lends grant input there stays = grant_put grant (record grant { state = ByInput input }) there (λ i. record { label = grant.label; flow = grant.flow; lifetime = grant.lifetime; leaving = sym stays i })

  joins_it : (join : Option End) (number : ℕ) → AreAlike e.port (joins_label (working instances e) join (label_at e.port number)).port
  joins_it join number = by (label_at e.port number) refl
    where
      by : (o : Option Label) → label_at e.port number ≡ o → AreAlike e.port (joins_label (working instances e) join o).port
      by None is = unchanged
      by (Some label) is = label_put label (record label { join = join }) (ap (label_at e.port) (at_key label_number number (labels_of e.port) label is) ∙ is) refl

  uses_it : (number : ℕ) → AreAlike e.port (used (working instances e) number).port
  uses_it number = by (label_at e.port number) refl
    where
      by : (o : Option Label) → label_at e.port number ≡ o → AreAlike e.port (used_label (working instances e) o).port
      by None is = unchanged
      by (Some label) is = label_put label (record label { idle = 0 }) (ap (label_at e.port) (at_key label_number number (labels_of e.port) label is) ∙ is) refl

  starts_it : (label : ℕ) → AreAlike e.port (started (working instances e) (at grant_label label e.port.grants)).port
  starts_it label = by (at grant_label label e.port.grants) refl
    where
      by : (o : Option Grant) → at grant_label label e.port.grants ≡ o → AreAlike e.port (started (working instances e) o).port
      by None is = unchanged
      by (Some grant) is = in_state grant.state refl
        where
          there : at grant_label grant.label e.port.grants ≡ Some grant
          there = ap (λ k. at grant_label k e.port.grants) (at_key grant_label label e.port.grants grant is) ∙ is

          in_state : (state : GrantState) → grant.state ≡ state → AreAlike e.port (started_in (working instances e) grant state).port
          in_state Idle now = grant_put grant (record grant { state = ByController }) there (λ i. record { label = grant.label; flow = grant.flow; lifetime = grant.lifetime; leaving = is_leaving (sym now i) })
          in_state ByController now = unchanged
          in_state (ByInput input) now = unchanged
          in_state (Leaving input owed) now = unchanged

pub grants_are_lent_unseen : GrantsAreLentUnseen
grants_are_lent_unseen instances e grant input there stays = lends instances e grant input there stays

pub labels_are_joined_unseen : LabelsAreJoinedUnseen
labels_are_joined_unseen instances e number output = joins_it instances e (Some output) number

pub labels_are_parted_unseen : LabelsArePartedUnseen
labels_are_parted_unseen instances e number = joins_it instances e None number

pub grants_are_started_unseen : GrantsAreStartedUnseen
grants_are_started_unseen instances e label = starts_it instances e label

pub labels_are_used_unseen : LabelsAreUsedUnseen
labels_are_used_unseen instances e number = uses_it instances e number
