-- a packet is counted, and a label may be taken for its flow

use Rattle.std.proofs.Common.{◌≡◌, ◌≢◌, ℕ, ◌<◌, Bool, false, true, true≢false, List, [], append-nil, Option, None, Some, refl, sym, ◌∙◌, ap, subst, arith, inl, inr, if◌then◌else◌}
use Rattle.std.specs.Prelude.{◌&&◌, is_some, ◌≤◌}
use Rattle.live_model.specs.world_model.Words.{Peer, Side, FlowId, label_channel_of, label_number_of, at, put, entered, key_le, same_flow, Desk, Setup, is_in_range, Label, label_number, label_for, lowest_spare, serves, counted_once, packets_in, Grant, grant_label, Session, Work, has_room, wires, counts_flow, counts_by, counts, packet_flow}
use Rattle.live_model.specs.world_model.ifmp_wire.declared.message.Message.{Message}
use Rattle.live_model.specs.world_model.port_model.Counts.{Counted}
use Rattle.live_model.specs.world_model.port_model.declared.action.Action.{Action}
use Rattle.law_port_facts.proofs.Keyed.{at_key, at_every, map_put, find_at, entered_every, entered_order}
use Rattle.law_port_facts.proofs.ordered_lists.Every.{every_map}
use Rattle.law_live_labels.proofs.Agreed.{in_range_number}
use Rattle.law_live_counts.specs.Law.{wiring_for}
use Rattle.law_live_counts.proofs.Asking.{spare_at}
use Rattle.law_live_links.specs.Law.{EndOfLink, expected_of, working}
use Rattle.law_live_links.proofs.Resting.{end_in, by_session}
use Rattle.law_live_unseen.specs.Law.{seen_label, AreAlike}
use Rattle.law_live_bindings.specs.Law.{IsNew, IsHeldOrNew, AreBinding, BindOn, label_branch, AskAtMost, none, some, TakesInRange, CountingKeepsBinding}
use Rattle.law_live_bindings.proofs.Places.{at_entered_other, entered_some}
use Rattle.law_live_bindings.proofs.Leading.{FindsSame, lead_found, none_told}
use Rattle.law_live_bindings.proofs.Resting.{in_range_of}
use Rattle.law_live_bindings.proofs.Alike.{port_binds}

module _ (setup : Setup) (side : Side Peer) (tally : ℕ) (s : Session) (grants : List Grant) (said : List Message) (other : EndOfLink) where
  abbrev one : EndOfLink
  one = end_in setup side tally s grants said

  module _ (binding : AreBinding one other) where
    abbrev IsSo : Label → Type 0
    IsSo = IsHeldOrNew setup.timers other.setup other.port.grants said

    -- a label that is held goes by its channel
    pub known : (label : Label) → at label_number label.number s.labels ≡ Some label → label_number_of (label_channel_of label.number) ≡ Some label.number
    known label found = in_range_number other.setup label.number (in_range_of label (at_every label_number IsSo label.number s.labels label binding.there.labels found))

    -- *A label is taken*, of which there is no grant
    module _ (flow : FlowId) (number : ℕ) (counted_now : List Counted) (spare : at label_number number s.labels ≡ None) (in_range : is_in_range other.setup number ≡ true) where
      abbrev wiring : Label
      wiring = wiring_for flow number

      abbrev taking : Session
      taking = record s { counted = counted_now; labels = entered (key_le label_number) wiring s.labels }

      pub ungranted : at grant_label number other.port.grants ≡ None
      ungranted = by (at grant_label number other.port.grants) refl
        where
          by : (o : Option Grant) → at grant_label number other.port.grants ≡ o → o ≡ None
          by None is = refl
          by (Some grant) is = absurd (true≢false (sym given ∙ ap (λ (o : Option Label). is_some o) spare))
            where
              given : is_some (at label_number number s.labels) ≡ true
              given = ap (λ k. is_some (at label_number k s.labels)) (sym (at_key grant_label number other.port.grants grant is))
                  ∙ at_every grant_label (λ (g : Grant). is_some (at label_number g.label s.labels) ≡ true) number other.port.grants grant binding.there.grants is

      is_new : IsNew setup.timers other.setup other.port.grants said wiring
      is_new = record {
        young = some_ticks setup.timers.refresh binding.one_end.refreshes;
        in_range = in_range;
        ungranted = ungranted;
        comes = inl (refl, none_told side.own other.port.adjacency.own setup.timers s.labels known number spare (expected_of other.port) s.number said binding.there.numbers);
      }
        where
          some_ticks : (n : ℕ) → 1 ≤ n → 0 < n
          some_ticks n one = omega (arith, one)

      finds : (label : Label) → at label_number label.number s.labels ≡ Some label → FindsSame taking.labels label
      finds label found = record { found = label; there = at_entered_other label_number (key_le label_number) wiring label.number s.labels differs ∙ found; same_flow = refl }
        where
          differs : number ≢ label.number
          differs same = absurd (cc (sym spare ∙ (ap (λ k. at label_number k s.labels) same ∙ found)))

      pub taken_binding : AreBinding (end_in setup side tally taking grants said) other
      taken_binding = record {
        met = binding.met;
        one_end = record {
          of_link = binding.one_end.of_link;
          in_session = refl;
          labels_apart = entered_order label_number wiring s.labels spare binding.one_end.labels_apart;
          grants_apart = binding.one_end.grants_apart;
          refreshes = binding.one_end.refreshes;
          in_time = binding.one_end.in_time;
          counted = binding.one_end.counted;
        };
        other_end = binding.other_end;
        there = record {
          numbers = lead_found side.own other.port.adjacency.own setup.timers s.labels taking.labels finds (expected_of other.port) s.number said binding.there.numbers;
          labels = entered_every label_number IsSo (key_le label_number) wiring s.labels (inr is_new) binding.there.labels;
          grants = every_map (λ (grant : Grant). is_some (at label_number grant.label s.labels) ≡ true) (λ (grant : Grant). is_some (at label_number grant.label taking.labels) ≡ true) other.port.grants
              (λ grant given. entered_some label_number (key_le label_number) wiring grant.label s.labels spare given) binding.there.grants;
          heard = binding.there.heard;
        };
        back = record { numbers = binding.back.numbers; labels = binding.back.labels; grants = binding.back.grants; heard = binding.back.heard };
      }

    -- *A packet is counted*
    module _ (desk : Desk) (instances : ℕ) where
      abbrev at_work : Session → List Action → Work
      at_work session actions = record {
        port = record { adjacency = side; session = Some session; grants = grants; redirects = tally };
        actions = actions;
        halted = false;
        instances = instances;
      }

      abbrev BindsOn : Work → Type 0
      BindsOn w = BindOn one other w (AskAtMost (label_branch setup))

      alike_on : (next : Session) → AreAlike one.port (at_work next []).port → BindsOn (at_work next [])
      alike_on next alike = record {
        going = refl;
        acts = none;
        binding = subst (λ (messages : List Message). AreBinding (record { setup = setup; port = (at_work next []).port; said = messages }) other) (sym (append-nil said))
            (port_binds one other (at_work next []).port binding alike);
      }

      served_on : (flow : FlowId) (label : Label) → label_for s.labels flow ≡ Some label → BindsOn (counts_flow setup desk (at_work s []) s flow (Some label))
      served_on flow label found = alike_on (record s { labels = put label_number (record label { idle = 0 }) s.labels }) (record {
        adjacency = refl;
        in_session = refl;
        number = refl;
        expected = refl;
        labels = map_put label_number seen_label (record label { idle = 0 }) s.labels label
            (find_at label_number (λ (l : Label). serves l.state && same_flow l.flow flow) s.labels label binding.one_end.labels_apart found) refl;
        grants = refl;
      })

      module _ (in_range : TakesInRange one other.setup) (flow : FlowId) where
        abbrev counting : Session
        counting = record s { counted = counted_once s.counted flow }

        counted_on : BindsOn (at_work counting [])
        counted_on = alike_on counting (record { adjacency = refl; in_session = refl; number = refl; expected = refl; labels = refl; grants = refl })

        offered_on : (b : Bool) → BindsOn (if b then wires setup (at_work counting []) flow (lowest_spare setup s.least s.greatest s.labels) else at_work counting [])
        offered_on false = counted_on
        offered_on true = by (lowest_spare setup s.least s.greatest s.labels) refl
          where
            by : (o : Option ℕ) → lowest_spare setup s.least s.greatest s.labels ≡ o → BindsOn (wires setup (at_work counting []) flow o)
            by None is = counted_on
            by (Some number) is = record {
              going = refl;
              acts = some number;
              binding = subst (λ (messages : List Message). AreBinding (record { setup = setup; port = (wires setup (at_work counting []) flow (Some number)).port; said = messages }) other) (sym (append-nil said))
                  (taken_binding flow number (counted_once s.counted flow) (spare_at setup s.least s.greatest s.labels number is) (in_range s number refl is));
            }

        flow_on : (o : Option Label) → label_for s.labels flow ≡ o → BindsOn (counts_flow setup desk (at_work s []) s flow o)
        flow_on None found = offered_on (setup.policy.offers flow (packets_in counting.counted flow) && has_room desk (at_work counting []))
        flow_on (Some label) found = served_on flow label found

      pub packet_on : TakesInRange one other.setup → (packet : List ℕ) → BindsOn (counts setup desk (at_work s []) packet)
      packet_on in_range packet = by (packet_flow packet)
        where
          by : (o : Option FlowId) → BindsOn (counts_by setup desk (at_work s []) (Some s) o)
          by None = alike_on s (record { adjacency = refl; in_session = refl; number = refl; expected = refl; labels = refl; grants = refl })
          by (Some flow) = flow_on in_range flow (label_for s.labels flow) refl

pub counting_keeps_binding : CountingKeepsBinding
counting_keeps_binding desk instances one other packet binding in_range =
    by_session (λ (x : EndOfLink). AreBinding x other → TakesInRange x other.setup → BindOn x other (counts x.setup desk (working instances x) packet) (AskAtMost (label_branch x.setup)))
    (λ setup side tally s grants said b r. packet_on setup side tally s grants said other b desk instances r packet)
    one binding.one_end.in_session binding in_range
