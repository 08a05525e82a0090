-- a numbered message is heard

use Rattle.std.proofs.Common.{◌≡◌, ℕ, ◌≤◌, ◌<◌, ◌+◌, List, [], ◌∷◌, ◌++◌, Some, sym, ◌∙◌, ap, subst, arith}
use Rattle.std.specs.Prelude.{not}
use Rattle.live_model.specs.world_model.Words.{Peer, Side, label_channel_of, at, Desk, Setup, Label, label_number, label_at, Grant, grant_label, Session, known_of}
use Rattle.live_model.specs.world_model.ifmp_wire.declared.message.Message.{Message}
use Rattle.live_model.specs.world_model.port_model.Port.{Port}
use Rattle.live_model.specs.world_model.port_model.Setup.{is_between}
use Rattle.law_port_facts.specs.ordered_lists.Ordered.{Every, InOrder}
use Rattle.law_port_facts.proofs.ordered_lists.Every.{every_map}
use Rattle.law_live_links.specs.Law.{EndOfLink, number_of, expected_of}
use Rattle.law_live_links.proofs.Resting.{end_in}
use Rattle.law_live_touch.specs.Touch.{LeadFrom, SaysNothing, AnswersNothing, NamesAtMost, Between, Stands, IsInRanges, AreInTouch}
use Rattle.law_live_touch.proofs.Lists.{names_more}
use Rattle.law_live_touch.proofs.Labels.{there_heard, there_said, there_same, back_heard, back_said, back_same, stands_on}
use Rattle.law_live_touch.proofs.Ends.{touches, still_met}

whole : (n : ℕ) → n ≤ n
whole n = omega arith

more : (n : ℕ) → n ≤ n + 1
more n = omega arith

module _ (desk : Desk) (instances : ℕ) (setup : Setup) (side : Side Peer) (tally : ℕ) (s : Session) (grants : List Grant) (said : List Message)
    (far_setup : Setup) (far_port : Port) (message : Message) (rest : List Message) where
  abbrev one : EndOfLink
  one = end_in setup side tally s grants said

  abbrev other : EndOfLink
  other = record { setup = far_setup; port = far_port; said = message ∷ rest }

  abbrev other_then : EndOfLink
  other_then = record { setup = far_setup; port = far_port; said = rest }

  abbrev calm : Side Peer
  calm = record side { silence = 0 }

  -- *A label that one gives*, and one that the other gives, as each is between them then
  abbrev ours : (messages : List Message) → (k : ℕ) → Between
  ours messages k = record { granted = at grant_label k far_port.grants; there = messages; back = rest; expected = expected_of far_port; known = s.known }

  abbrev theirs : List Grant → (messages : List Message) → (k : ℕ) → Between
  theirs held messages k = record { granted = at grant_label k held; there = rest; back = messages; expected = s.expected + 1; known = known_of far_port }

  module _ (t : AreInTouch one other) (leads : LeadFrom far_port.adjacency.own side.own far_setup (s.expected + 1) (number_of far_port) rest) where
    -- *It was heard*
    pub heard : (tally_then : ℕ) (session : Session) (held : List Grant) (messages : List Message) → session.expected ≡ s.expected + 1 → session.known ≡ s.known
        → InOrder (λ (a b : Label). label_number a < label_number b) session.labels → InOrder (λ (a b : Grant). grant_label a ≡ grant_label b → ⊥) held
        → LeadFrom side.own far_port.adjacency.own setup (expected_of far_port) session.number messages → Every (NamesAtMost s.expected) messages
        → Every (IsInRanges far_setup (Some session)) session.labels
        → ((k : ℕ) → Stands setup.timers k (ours messages k) (at label_number k session.labels))
        → ((k : ℕ) → Stands far_setup.timers k (theirs held messages k) (label_at far_port k))
        → AreInTouch (end_in setup calm tally_then session held messages) other_then
    heard tally_then session held messages is_expected is_known apart grants_apart numbers named ranges stand stand_back =
        touches setup side tally s grants said other t calm tally_then session held messages rest (still_met setup side tally s grants said other t) apart grants_apart
        (record {
          numbers = numbers;
          named = t.there.named.1;
          known = subst (λ n. n ≤ expected_of far_port) (sym is_known) t.there.known;
          ranges = ranges;
          labels = λ k. subst (λ n. Stands setup.timers k (record (ours messages k) { known = n }) (at label_number k session.labels)) (sym is_known) (stand k);
        })
        (record {
          numbers = subst (λ n. LeadFrom far_port.adjacency.own side.own far_setup n (number_of far_port) rest) (sym is_expected) leads;
          named = subst (λ n. Every (NamesAtMost n) messages) (sym is_expected) (every_map (NamesAtMost s.expected) (NamesAtMost (s.expected + 1)) messages (names_more s.expected (s.expected + 1) (more s.expected)) named);
          known = subst (λ n. known_of far_port ≤ n) (sym is_expected) (later (known_of far_port) s.expected t.back.known);
          ranges = t.back.ranges;
          labels = λ k. subst (λ n. Stands far_setup.timers k (record (theirs held messages k) { expected = n }) (label_at far_port k)) (sym is_expected) (stand_back k);
        })
      where
        later : (m n : ℕ) → m ≤ n → m ≤ n + 1
        later m n low = omega (arith, low)

    -- *What isn't about a label* leaves it
    pub ours_stand : (k : ℕ) → AnswersNothing k message → Stands setup.timers k (ours said k) (at label_number k s.labels)
    ours_stand k silent = stands_on setup.timers k (at grant_label k far_port.grants) s.known said said (message ∷ rest) rest (expected_of far_port) (expected_of far_port)
        (there_same k said) (back_heard k rest message silent) (whole (expected_of far_port)) (at label_number k s.labels) (t.there.labels k)

    pub ours_saying : (answer : Message) (k : ℕ) → AnswersNothing k message → SaysNothing k answer → Stands setup.timers k (ours (said ++ answer ∷ []) k) (at label_number k s.labels)
    ours_saying answer k silent none = stands_on setup.timers k (at grant_label k far_port.grants) s.known said (said ++ answer ∷ []) (message ∷ rest) rest (expected_of far_port) (expected_of far_port)
        (there_said k said answer none) (back_heard k rest message silent) (whole (expected_of far_port)) (at label_number k s.labels) (t.there.labels k)

    pub theirs_stand : (k : ℕ) → SaysNothing k message → Stands far_setup.timers k (theirs grants said k) (label_at far_port k)
    theirs_stand k silent = stands_on far_setup.timers k (at grant_label k grants) (known_of far_port) (message ∷ rest) rest said said s.expected (s.expected + 1)
        (there_heard k rest message silent) (back_same k said) (more s.expected) (label_at far_port k) (t.back.labels k)

    pub theirs_saying : (answer : Message) (k : ℕ) → SaysNothing k message → AnswersNothing k answer → Stands far_setup.timers k (theirs grants (said ++ answer ∷ []) k) (label_at far_port k)
    theirs_saying answer k silent none = stands_on far_setup.timers k (at grant_label k grants) (known_of far_port) (message ∷ rest) rest said (said ++ answer ∷ []) s.expected (s.expected + 1)
        (there_heard k rest message silent) (back_said k said answer none) (more s.expected) (label_at far_port k) (t.back.labels k)

    pub same_ranges : (session : Session) → session.least ≡ s.least → session.greatest ≡ s.greatest → (labels : List Label) → Every (IsInRanges far_setup (Some s)) labels → Every (IsInRanges far_setup (Some session)) labels
    same_ranges session low high labels h = every_map (IsInRanges far_setup (Some s)) (IsInRanges far_setup (Some session)) labels (λ label r. record {
      in_range = r.in_range;
      inside = ap (λ c. not (is_between c session.greatest (label_channel_of label.number))) low ∙ (ap (λ c. not (is_between s.least c (label_channel_of label.number))) high ∙ r.inside);
    }) h
