-- what a port in its parts does as it hears a RECLAIM of a label without a grant, a RECLAIM ACK of one that is recalled, and a LABEL RANGE

use Rattle.std.proofs.Common.{◌≡◌, ℕ, ◌≤◌, ◌<◌, ◌+◌, Bool, false, true, List, [], ◌∷◌, None, Some, refl, ◌∙◌, ap, arith, if◌then◌else◌}
use Rattle.std.specs.Prelude.{◌&&◌, not, nat_lt, nat_le}
use Rattle.std.proofs.lemmas.Bool.Decides.{nat_tests}
use Rattle.live_model.specs.world_model.Words.{Channel, FlowId, Peer, Reclaim, ReclaimAck, Side, label_channel_of, label_number_of, same_flow, at, put, Desk, Setup, is_in_range, is_label_number, Label, Recalled, label_number, Grant, grant_label, grant_on, Session, Work, last_number, own_instance, reclaim_ack, expects, reclaimed, acknowledged, acknowledged_in, quits_found, quits_label, label_by, hears}
use Rattle.live_model.specs.world_model.link_model.ipv4_packet.declared.flow.FlowId.TheVariants.{One, Two}
use Rattle.live_model.specs.world_model.port_model.Reclaiming.{greater_of, lesser_of}
use Rattle.live_model.specs.world_model.port_model.Setup.{channel_le, is_between}
use Rattle.live_model.specs.world_model.port_model.declared.action.Action.TheVariants.{Say}
use Rattle.live_model.specs.Met.{HaveMet}
use Rattle.law_port_facts.proofs.Keyed.{on_both, at_put_same}
use Rattle.law_live_labels.proofs.Agreed.{at_work, same}
use Rattle.law_live_recalls.proofs.Rules.{says_it, taken}

same_itself : (f : FlowId) → same_flow f f ≡ true
same_itself (One tos ttl protocol source destination from to) = rw (same tos, same ttl, same protocol, same source.0, same destination.0, same from, same to) refl
same_itself (Two ttl source destination) = rw (same ttl, same source.0, same destination.0) refl

module _ (setup : Setup) (desk : Desk) (side : Side Peer) (tally instances : ℕ) (grants : List Grant) (far_side : Side Peer) (met : HaveMet side far_side) (s : Session) (due : s.expected < last_number) where
  abbrev calm : Side Peer
  calm = record side { silence = 0 }

  abbrev now : Work
  now = at_work side tally instances s grants []

  abbrev expecting : Session
  expecting = record s { expected = s.expected + 1 }

  abbrev heard_now : Work
  heard_now = at_work calm tally instances expecting grants []

  -- *RECLAIM ACK is said* of a label that isn't granted
  pub reclaim_answered : (label : ℕ) (flow : FlowId) → label_number_of (label_channel_of label) ≡ Some label → at grant_label label grants ≡ None → s.number < last_number
      → hears setup desk now far_side.own.address (Reclaim far_side.own.instance side.own.instance s.expected (label_channel_of label) flow)
      ≡ at_work calm tally instances (record s { expected = s.expected + 1; number = s.number + 1 }) grants (Say (reclaim_ack (label_channel_of label) flow (own_instance side) far_side.own.instance s.number) ∷ [])
  reclaim_answered label flow known none left =
      ap (λ (b : Bool). if b then reclaimed setup (expects now s.expected) (label_channel_of label) flow (grant_on grants (label_number_of (label_channel_of label))) else now) (taken setup desk side tally instances grants far_side met s due)
      ∙ ap (λ o. reclaimed setup heard_now (label_channel_of label) flow (grant_on grants o)) known
      ∙ ap (reclaimed setup heard_now (label_channel_of label) flow) none
      ∙ says_it setup desk side tally instances grants far_side met expecting grants (reclaim_ack (label_channel_of label) flow) left calm met.one_knows

  -- *RECLAIM ACK is heard* of a label that is recalled
  module _ (label : Label) (held : at label_number label.number s.labels ≡ Some label) (last : ℕ) (before : Bool) (recalled : label.state ≡ Recalled last before) where
    abbrev pub acked : Label
    acked = record label { state = Recalled last true }

    abbrev pub keeping : Work
    keeping = at_work calm tally instances (record s { expected = s.expected + 1; labels = put label_number acked s.labels }) grants []

    pub answer_comes : label_number_of (label_channel_of label.number) ≡ Some label.number
        → hears setup desk now far_side.own.address (ReclaimAck far_side.own.instance side.own.instance s.expected (label_channel_of label.number) label.flow)
        ≡ (if nat_lt last s.known then quits_label setup desk keeping acked else keeping)
    answer_comes known =
        ap (λ (b : Bool). if b then acknowledged setup desk (expects now s.expected) label.flow (label_by now.port (label_number_of (label_channel_of label.number))) else now) (taken setup desk side tally instances grants far_side met s due)
        ∙ ap (λ o. acknowledged setup desk heard_now label.flow (label_by now.port o)) known
        ∙ ap (acknowledged setup desk heard_now label.flow) held
        ∙ ap (λ (b : Bool). if b then acknowledged_in setup desk heard_now label label.state else heard_now) (same_itself label.flow)
        ∙ ap (acknowledged_in setup desk heard_now label) recalled
        ∙ ap (quits_found setup desk keeping) (at_put_same label_number acked s.labels label held)

-- *A range* that is narrowed to one that has the label
ordered : (m n : ℕ) → m ≤ n → channel_le (label_channel_of m) (label_channel_of n) ≡ true
ordered m n most = grind (arith, nat_tests)

both : (a b : Bool) → a ≡ true → b ≡ true → (a && b) ≡ true
both true b p q = q
both false b p q = absurd (cc p)

first : (a b : Bool) → (a && b) ≡ true → a ≡ true
first true b h = refl
first false b h = absurd (cc h)

second : (a b : Bool) → (a && b) ≡ true → b ≡ true
second true b h = h
second false b h = absurd (cc h)

at_most : (m n : ℕ) → nat_le m n ≡ true → m ≤ n
at_most m n h = grind (arith, nat_tests)

positive : (b : Bool) → not b ≡ false → b ≡ true
positive true h = refl
positive false h = absurd (cc h)

pub narrower : (least greatest : Channel) (taker : Setup) (label : ℕ) → not (is_between least greatest (label_channel_of label)) ≡ false → is_in_range taker label ≡ true
    → is_between (greater_of least (label_channel_of taker.least)) (lesser_of greatest (label_channel_of taker.greatest)) (label_channel_of label) ≡ true
narrower least greatest taker label inside in_range =
    both (channel_le (greater_of least (label_channel_of taker.least)) (label_channel_of label)) (channel_le (label_channel_of label) (lesser_of greatest (label_channel_of taker.greatest)))
    (on_both (λ c. channel_le c (label_channel_of label) ≡ true) (channel_le least (label_channel_of taker.least)) (label_channel_of taker.least) least
    (ordered taker.least label (at_most taker.least label (first (nat_le taker.least label) (nat_le label taker.greatest) (second (is_label_number label) (nat_le taker.least label && nat_le label taker.greatest) in_range))))
    (first (channel_le least (label_channel_of label)) (channel_le (label_channel_of label) greatest) (positive (is_between least greatest (label_channel_of label)) inside)))
    (on_both (λ c. channel_le (label_channel_of label) c ≡ true) (channel_le greatest (label_channel_of taker.greatest)) greatest (label_channel_of taker.greatest)
    (second (channel_le least (label_channel_of label)) (channel_le (label_channel_of label) greatest) (positive (is_between least greatest (label_channel_of label)) inside))
    (ordered label taker.greatest (at_most label taker.greatest (second (nat_le taker.least label) (nat_le label taker.greatest) (second (is_label_number label) (nat_le taker.least label && nat_le label taker.greatest) in_range)))))
