-- what the downstream end makes of a message keeps the line

use Rattle.std.proofs.Common.{◌≡◌, ℕ, Bool, true, false, List, [], ◌∷◌, refl, arith}
use Rattle.std.specs.Prelude.{nat_eq, nat_lt, ◌&&◌, if◌then◌else◌}
use Rattle.std.proofs.lemmas.Bool.{eqb-true}
use Rattle.std.proofs.lemmas.Bool.Decides.{nat_tests}
use Rattle.net_types.specs.declared.adjacency.HelloKind.{HelloKind}
use Rattle.net_types.specs.declared.adjacency.HelloKind.TheVariants.{Syn, Synack, Rstack, Ack}
use Rattle.adjacency_table.specs.declared.State.{State}
use Rattle.adjacency_table.specs.declared.State.TheVariants.{Clearing, SynSent, SynRcvd, Estab}
use Rattle.adjacency_table.specs.Table.{Silent, Says, Resets, Row, stays, stores_and, enters_by_synack, enters_by_ack}
use Rattle.adjacency_table.specs.Instances.{row_for}
use Rattle.adjacency_table.proofs.Rows.{by_row}
use Rattle.ordered_lists.proofs.Exchange.{exchange_head, change}
use Rattle.law_label_line.specs.Cells.{Upstream, Message, Hello, ReclaimAck, Cell, Default}
use Rattle.law_label_line.specs.Line.{Label, Spare, Recalled, Line}
use Rattle.law_label_line.specs.Downstream.{acknowledge, learns, greeted_downstream, downstream_hears, hears_downstream}
use Rattle.law_label_line.proofs.Tables.{last_of, Side, Fits, Before, Good, ChangesHead}
use Rattle.law_label_line.proofs.DownstreamFacts.{acknowledges, opens_by_synack, opens_by_ack, learns_below, says_one, stores_fits, stores_before}
use Rattle.law_label_line.proofs.DownstreamFacts as facts
use Rattle.law_label_line.proofs.Trip.{trip, side_of, IsKept, down_at, chain_down}
use Rattle.law_label_line.proofs.WaySteps.{dropped_down}
use Rattle.law_label_line.proofs.DownstreamSteps.{opened, synack_down, ack_down, denies_down, reset_down}

-- the message at the front of the line is taken, and the side changes
taken_first : (a b : Side) (m : Message) (rest : List Cell) → ChangesHead a b (last_of m ∷ []) []
    → Good a (last_of m ∷ rest) → Good b rest
taken_first a b m rest f h = exchange_head (Fits a) (Fits b) (Before a) (Before b) (last_of m ∷ []) rest [] f h

-- what the message at the front says
front_fits : (line : Line) (m : Message) (rest : List Cell) → (k : IsKept (chain_down line (last_of m ∷ rest)))
    → Fits (side_of line k.late) (last_of m)
front_fits line m rest k = k.good.each.0

nothing_less : (n : ℕ) → n ≡ 1 → nat_lt 1 n ≡ true → ⊥
nothing_less n e t = grind (arith, nat_tests)

-- an ACK that says 1 says nothing new
learns_nothing : (line : Line) (n : ℕ) → n ≡ 1 → IsKept (record line { known = 1 })
    → IsKept (learns (record line { known = 1 }) true n)
learns_nothing line n e k = elim (nat_lt 1 n)
    as (λ b. nat_lt 1 n ≡ b → IsKept (if b then record line { known = n } else record line { known = 1 })) [
      | true ↦ λ t. absurd (nothing_less n e t)
      | false ↦ λ t. k
    ] refl

-- the downstream end stored x; a message of sender s for receiver r stands at the front of its chain
module _ (line : Line) (x : ℕ) (label : Label) (rest : List Cell) (s r n drawn : ℕ) where
  -- what follows for a kind of row
  abbrev Greeted : State → HelloKind → Bool → Bool → Row → Type 0
  Greeted state kind meant known row = nat_eq r line.downstream.own ≡ meant → nat_eq s x ≡ known → IsKept
      (chain_down (down_at line state x label) (last_of (Hello Upstream kind s r n) ∷ rest)) → IsKept
      (greeted_downstream (chain_down (down_at line state x label) rest) row kind s r n drawn)

  dropped : (state : State) (kind : HelloKind)
      → IsKept (chain_down (down_at line state x label) (last_of (Hello Upstream kind s r n) ∷ rest))
      → IsKept (chain_down (down_at line state x label) rest)
  dropped state kind k = dropped_down (down_at line state x label) (last_of (Hello Upstream kind s r n)) rest k

  quiet : (state : State) (kind : HelloKind) (meant known : Bool)
      → Greeted state kind meant known (stays state Silent)
  quiet Clearing kind meant known t v k = dropped Clearing kind k
  quiet SynSent kind meant known t v k = dropped SynSent kind k
  quiet SynRcvd kind meant known t v k = dropped SynRcvd kind k
  quiet Estab kind meant known t v k = dropped Estab kind k

  denied : (state : State) (kind : HelloKind) (meant known : Bool)
      → Greeted state kind meant known (stays state (Says Rstack))
  denied Clearing kind meant known t v k = denies_down (chain_down (down_at line Clearing x label) rest) s r
      (dropped Clearing kind k)
  denied SynSent kind meant known t v k = denies_down (chain_down (down_at line SynSent x label) rest) s r
      (dropped SynSent kind k)
  denied SynRcvd kind meant known t v k = denies_down (chain_down (down_at line SynRcvd x label) rest) s r
      (dropped SynRcvd kind k)
  denied Estab kind meant known t v k = denies_down (chain_down (down_at line Estab x label) rest) s r
      (dropped Estab kind k)

  confirmed : (kind : HelloKind) (meant known : Bool) → Greeted Estab kind meant known (stays Estab (Says Ack))
  confirmed kind meant known t v k = ack_down (chain_down line rest) x label (dropped Estab kind k)

  -- a closed pool stores a peer, whose port was cleared
  stored_first : (meant known : Bool) → Greeted SynSent Syn meant known (stores_and SynRcvd Synack)
  stored_first meant known t v k =
      let less : IsKept (chain_down (down_at line SynSent x label) rest) = dropped SynSent Syn k in
      let a : Side = side_of (down_at line SynSent x label) less.late in
      let b : Side = side_of (down_at line SynRcvd s label) less.late in
      synack_down (chain_down line rest) s label (record {
        late = less.late;
        good = change (Fits a) (Fits b) (Before a) (Before b) (trip (chain_down line rest)) (stores_fits a s refl)
            (stores_before a s refl) less.good;
        end = record {
          drawn = k.end.drawn;
          positive = k.end.positive;
          told = k.end.told;
          names = (k.end.names, front_fits (down_at line SynSent x label) (Hello Upstream Syn s r n) rest k);
          label_fits = k.end.label_fits;
          reassembled = k.end.reassembled;
        };
        grant = k.grant;
      })

  stored_next : (meant known : Bool) → Greeted SynRcvd Syn meant known (stores_and SynRcvd Synack)
  stored_next meant known t v k =
      let less : IsKept (chain_down (down_at line SynRcvd x label) rest) = dropped SynRcvd Syn k in
      let a : Side = side_of (down_at line SynRcvd x label) less.late in
      let b : Side = side_of (down_at line SynRcvd s label) less.late in
      synack_down (chain_down line rest) s label (record {
        late = less.late;
        good = change (Fits a) (Fits b) (Before a) (Before b) (trip (chain_down line rest)) (stores_fits a s refl)
            (stores_before a s refl) less.good;
        end = record {
          drawn = k.end.drawn;
          positive = k.end.positive;
          told = k.end.told;
          names = (k.end.names.0, front_fits (down_at line SynRcvd x label) (Hello Upstream Syn s r n) rest k);
          label_fits = k.end.label_fits;
          reassembled = k.end.reassembled;
        };
        grant = k.grant;
      })

  -- the pool opens
  abbrev entering : (stored : ℕ) → Line
  entering stored = record (chain_down line rest) {
    downstream = record (line.downstream) { state = Estab; stored = stored };
    label = Spare;
    number = 1;
    known = 1;
    reassembly = [];
  }

  entered_first : (known : Bool) → Greeted SynSent Synack true known enters_by_synack
  entered_first known t v k =
      let a : Side = side_of (down_at line SynSent x label) k.late in
      ack_down (entering s) s Spare (record {
        late = k.late;
        good = taken_first a (side_of (entering s) k.late) (Hello Upstream Synack s r n)
            (trip (chain_down line rest)) (opens_by_synack a s r n refl (eqb-true r line.downstream.own t)) k.good;
        end = record {
          drawn = k.end.drawn;
          positive = omega arith;
          told = omega arith;
          names = (
            k.end.names,
            (front_fits (down_at line SynSent x label) (Hello Upstream Synack s r n) rest k).0,
          );
          label_fits = tt;
          reassembled = refl;
        };
        grant = k.grant;
      })

  entered_next : (known : Bool) → Greeted SynRcvd Synack true known enters_by_synack
  entered_next known t v k =
      let a : Side = side_of (down_at line SynRcvd x label) k.late in
      ack_down (entering s) s Spare (record {
        late = k.late;
        good = taken_first a (side_of (entering s) k.late) (Hello Upstream Synack s r n)
            (trip (chain_down line rest)) (opens_by_synack a s r n refl (eqb-true r line.downstream.own t)) k.good;
        end = record {
          drawn = k.end.drawn;
          positive = omega arith;
          told = omega arith;
          names = (
            k.end.names.0,
            (front_fits (down_at line SynRcvd x label) (Hello Upstream Synack s r n) rest k).0,
          );
          label_fits = tt;
          reassembled = refl;
        };
        grant = k.grant;
      })

  entered_confirmed : Greeted SynRcvd Ack true true enters_by_ack
  entered_confirmed t v k =
      let a : Side = side_of (down_at line SynRcvd x label) k.late in
      let first : n ≡ 1 = says_one a s r n refl (eqb-true r line.downstream.own t)
      (front_fits (down_at line SynRcvd x label) (Hello Upstream Ack s r n) rest k) in
      learns_nothing (entering x) n first (record {
        late = k.late;
        good = taken_first a (side_of (entering x) k.late) (Hello Upstream Ack s r n) (trip (chain_down line rest))
            (opens_by_ack a s r n refl (eqb-true s x v) (eqb-true r line.downstream.own t)) k.good;
        end = record {
          drawn = k.end.drawn;
          positive = omega arith;
          told = omega arith;
          names = k.end.names;
          label_fits = tt;
          reassembled = refl;
        };
        grant = k.grant;
      })

  -- a good ACK says a next number
  heard_good : Greeted Estab Ack true true enters_by_ack
  heard_good t v k =
      let a : Side = side_of (down_at line Estab x label) k.late in
      elim (nat_lt line.known n) as (λ b. IsKept (if b then record (chain_down (down_at line Estab x label) rest)
      { known = n } else chain_down (down_at line Estab x label) rest)) [
        | true ↦ record {
          late = k.late;
          good = taken_first a (record a { known = n }) (Hello Upstream Ack s r n) (trip (chain_down line rest))
              (facts.learns a s r n (opened label) (eqb-true s x v) (eqb-true r line.downstream.own t)) k.good;
          end = record {
            drawn = k.end.drawn;
            positive = k.end.positive;
            told = learns_below a s r n (opened label)
                (eqb-true s x v) (eqb-true r line.downstream.own t)
                (front_fits (down_at line Estab x label) (Hello Upstream Ack s r n) rest k);
            names = k.end.names;
            label_fits = k.end.label_fits;
            reassembled = k.end.reassembled;
          };
          grant = k.grant;
        }
        | false ↦ dropped Estab Ack k
      ]

  reset : (state : State) (kind : HelloKind) (meant known : Bool)
      → Greeted state kind meant known (stays state Resets)
  reset state kind meant known t v k = reset_down (chain_down (down_at line state x label) rest) drawn
      (dropped state kind k)

  greeted_down : (state : State) (kind : HelloKind)
      → IsKept (chain_down (down_at line state x label) (last_of (Hello Upstream kind s r n) ∷ rest))
      → IsKept (greeted_downstream (chain_down (down_at line state x label) rest)
      (row_for (down_at line state x label).downstream kind s r) kind s r n drawn)
  greeted_down state kind k = by_row Greeted (record {
    quiet = quiet;
    denies = denied;
    confirms = confirmed;
    stores_first = stored_first;
    stores_next = stored_next;
    enters_first = entered_first;
    enters_next = entered_next;
    enters_confirmed = entered_confirmed;
    hears_good = heard_good;
    resets = reset;
  }) state kind (nat_eq r line.downstream.own) (nat_eq s x) refl refl k

both_right : (s x r d : ℕ) → nat_eq s x && nat_eq r d ≡ true → (s ≡ x) × (r ≡ d)
both_right s x r d h = grind (arith, nat_tests)

module _ (line : Line) (x : ℕ) (rest : List Cell) where
  -- RECLAIM ACK is taken
  acknowledged : (label : Label) (s r f : ℕ) → s ≡ x → r ≡ line.downstream.own
      → IsKept (chain_down (down_at line Estab x label) (last_of (ReclaimAck s r f) ∷ rest))
      → IsKept (acknowledge (chain_down (down_at line Estab x label) rest) label f)
  acknowledged (Recalled last c) s r f known meant k =
      let a : Side = side_of (down_at line Estab x (Recalled last c)) k.late in
      elim (nat_eq f line.flow) as (λ b. IsKept (if b then
      record (chain_down (down_at line Estab x (Recalled last c)) rest) { label = Recalled last true } else
      chain_down (down_at line Estab x (Recalled last c)) rest)) [
        | true ↦ record {
          late = false;
          good = taken_first a (side_of (down_at line Estab x (Recalled last true)) false) (ReclaimAck s r f)
              (trip (chain_down line rest)) (acknowledges a s r f last c refl known meant) k.good;
          end = record {
            drawn = k.end.drawn;
            positive = k.end.positive;
            told = k.end.told;
            names = k.end.names;
            label_fits = tt;
            reassembled = k.end.reassembled;
          };
          grant = k.grant;
        }
        | false ↦ dropped_down (down_at line Estab x (Recalled last c)) (last_of (ReclaimAck s r f)) rest k
      ]
  acknowledged label s r f known meant k = dropped_down (down_at line Estab x label) (last_of (ReclaimAck s r f))
      rest k

  -- a message comes
  heard_down : (state : State) (label : Label) (m : Message) (drawn : ℕ)
      → IsKept (chain_down (down_at line state x label) (last_of m ∷ rest))
      → IsKept (downstream_hears (chain_down (down_at line state x label) rest) m drawn)
  heard_down state label (Hello Upstream kind s r n) drawn k = greeted_down line x label rest s r n drawn state kind
      k
  heard_down Estab label (ReclaimAck s r f) drawn k = elim (nat_eq s x && nat_eq r line.downstream.own) as (λ b.
      nat_eq s x && nat_eq r line.downstream.own ≡ b → IsKept (if b then acknowledge
      (chain_down (down_at line Estab x label) rest) label f else chain_down (down_at line Estab x label) rest)) [
        | true ↦ λ t. acknowledged label s r f (both_right s x r line.downstream.own t).0
            (both_right s x r line.downstream.own t).1 k
        | false ↦ λ t. dropped_down (down_at line Estab x label) (last_of (ReclaimAck s r f)) rest k
      ] refl
  heard_down state label m drawn k = dropped_down (down_at line state x label) (last_of m) rest k

pub hears_down : (line : Line) (chain : List Cell) (drawn : ℕ) → IsKept line → IsKept (chain_down line chain)
    → IsKept (hears_downstream line chain drawn)
hears_down line (Default true m ∷ rest) drawn k l = heard_down line line.downstream.stored rest
    line.downstream.state line.label m drawn l
hears_down line chain drawn k l = k
