-- what the downstream end does of itself keeps the line

use Rattle.std.proofs.Common.{◌≡◌, ℕ, ◌+◌, ◌<◌, Bool, true, false, List, [], ◌∷◌, refl, arith}
use Rattle.std.specs.Prelude.{nat_eq, nat_lt, ◌||◌, if◌then◌else◌}
use Rattle.std.proofs.lemmas.Bool.Decides.{nat_tests}
use Rattle.net_types.specs.declared.adjacency.HelloKind.TheVariants.{Syn, Synack, Rstack, Ack}
use Rattle.adjacency_table.specs.declared.State.{State}
use Rattle.adjacency_table.specs.declared.State.TheVariants.{Clearing, SynSent, SynRcvd, Estab}
use Rattle.adjacency_table.specs.Table.{Says, Resets, silence_limit, tick_reply}
use Rattle.ordered_lists.proofs.Exchange.{change}
use Rattle.law_label_line.specs.Cells.{Downstream, Message, Hello, Redirect, Reclaim, Other, frame, put}
use Rattle.law_label_line.specs.Line.{Label, Spare, Wiring, Offered, Recalled, Wired, Line}
use Rattle.law_label_line.specs.Downstream.{sends_numbered, sends_other, wire, bind, refresh, recall, recall_again, quit, free, resets_downstream, ticks_downstream, clears_downstream}
use Rattle.law_label_line.proofs.Tables.{last_of, Binding, Closed, Unused, InOffer, InRecall, IsOpened, Side, Fits, Before, ChangesTail}
use Rattle.law_label_line.proofs.DownstreamFacts.{binds, redirects_again, recalls, recalls_again, numbers_other, says_syn, says_synack, says_ack, says_rstack, quits_fits, quits_before, closes_fits, closes_before, clears_down_fits, clears_down_before}
use Rattle.law_label_line.proofs.Trip.{trip, made_of, binding_of, side_of, ReassemblyFits, IsKept, sent_down, down_at}

-- an adjacency message is said
pub says_down : (line : Line) (m : Message) → (k : IsKept line)
    → ChangesTail (side_of line k.late) (side_of line k.late) [] (last_of m ∷ [])
    → IsKept (record line { to_upstream = put line.to_upstream (frame m) })
says_down line m k f = record {
  late = k.late;
  good = sent_down (side_of line k.late) (side_of line k.late) line m f
      k.good;
  end = k.end;
  grant = k.grant;
}

pub denies_down : (line : Line) (s r : ℕ) → IsKept line
    → IsKept (record line { to_upstream = put line.to_upstream (frame (Hello Downstream Rstack r s 0)) })
denies_down line s r k = says_down line (Hello Downstream Rstack r s 0) k (says_rstack (side_of line k.late) r s 0)

module _ (line : Line) (s : ℕ) (label : Label) where
  pub syn_down : IsKept (down_at line SynSent s label)
      → IsKept (record (down_at line SynSent s label)
      { to_upstream = put line.to_upstream (frame (Hello Downstream Syn line.downstream.own 0 0)) })
  syn_down k = says_down (down_at line SynSent s label) (Hello Downstream Syn line.downstream.own 0 0) k
      (says_syn (side_of (down_at line SynSent s label) k.late) line.downstream.own 0 0 k.end.names refl)

  pub synack_down : IsKept (down_at line SynRcvd s label)
      → IsKept (record (down_at line SynRcvd s label) {
        to_upstream = put line.to_upstream (frame (Hello Downstream Synack line.downstream.own s 1));
      })
  synack_down k = says_down (down_at line SynRcvd s label) (Hello Downstream Synack line.downstream.own s 1) k
      (says_synack (side_of (down_at line SynRcvd s label) k.late) line.downstream.own s 1 k.end.names.0 refl
      k.end.names.1)

  pub ack_down : IsKept (down_at line Estab s label)
      → IsKept (record (down_at line Estab s label) {
        to_upstream = put line.to_upstream (frame (Hello Downstream Ack line.downstream.own s 1));
      })
  ack_down k = says_down (down_at line Estab s label) (Hello Downstream Ack line.downstream.own s 1) k
      (says_ack (side_of (down_at line Estab s label) k.late) line.downstream.own s 1 k.end.names.0 refl
      k.end.names.1)

-- a reset or a restart
pub reset_down : (line : Line) (drawn : ℕ) → IsKept line → IsKept (resets_downstream line drawn)
reset_down line drawn k =
    let a : Side = side_of line k.late in
    let b : Side = side_of (resets_downstream line drawn) k.late in
    let newer : line.downstream.own < line.fresh + drawn = omega (arith, k.end.drawn) in
    record {
      late = k.late;
      good = change (Fits a) (Fits b) (Before a) (Before b) (trip line) (closes_fits a (line.fresh + drawn) newer)
          (closes_before a (line.fresh + drawn) newer) k.good;
      end = record {
        drawn = omega arith;
        positive = omega arith;
        told = omega arith;
        names = tt;
        label_fits = refl;
        reassembled = refl;
      };
      grant = k.grant;
    }

pub or_right : (a b : Bool) → b ≡ true → (a || b) ≡ true
or_right true b h = refl
or_right false b h = h

pub eq_self : (n : ℕ) (b : Bool) → (nat_eq n n || b) ≡ true
eq_self n b = grind (arith, nat_tests)

-- its port is cleared
pub cleared_down : (line : Line) (state : State) → IsKept (down_at line state line.downstream.stored line.label)
    → IsKept (clears_downstream (down_at line state line.downstream.stored line.label))
cleared_down line Clearing k =
    let a : Side = side_of (down_at line Clearing line.downstream.stored line.label) k.late in
    let b : Side = side_of (clears_downstream (down_at line Clearing line.downstream.stored line.label)) k.late in
    let more : (i : ℕ) → line.downstream_cleared i ≡ true →
    (nat_eq i line.downstream.own || line.downstream_cleared i) ≡ true = λ i h. or_right
    (nat_eq i line.downstream.own) (line.downstream_cleared i) h in
    record {
      late = k.late;
      good = change (Fits a) (Fits b) (Before a) (Before b) (trip line) (clears_down_fits a b.down more)
          (clears_down_before a b.down more) k.good;
      end = record {
        drawn = k.end.drawn;
        positive = k.end.positive;
        told = k.end.told;
        names = eq_self line.downstream.own (line.downstream_cleared line.downstream.own);
        label_fits = k.end.label_fits;
        reassembled = k.end.reassembled;
      };
      grant = k.grant;
    }
cleared_down line SynSent k = k
cleared_down line SynRcvd k = k
cleared_down line Estab k = k

-- a tick
pub ticked_down : (line : Line) (state : State) (silence drawn : ℕ)
    → IsKept (down_at line state line.downstream.stored line.label)
    → IsKept
    (ticks_downstream (down_at line state line.downstream.stored line.label) (tick_reply state silence) drawn)
ticked_down line Clearing silence drawn k = k
ticked_down line SynSent silence drawn k = syn_down line line.downstream.stored line.label k
ticked_down line SynRcvd silence drawn k = synack_down line line.downstream.stored line.label k
ticked_down line Estab silence drawn k = elim (nat_lt silence_limit silence) as (λ b. IsKept (ticks_downstream
    (down_at line Estab line.downstream.stored line.label) (if b then Resets else Says Ack) drawn)) [
      | true ↦ reset_down (down_at line Estab line.downstream.stored line.label) drawn k
      | false ↦ ack_down line line.downstream.stored line.label k
    ]

-- what was reassembled of the label's channel is taken or given up
none_fits : (binding : Binding) (flow : ℕ) → ReassemblyFits binding flow []
none_fits Closed flow = refl
none_fits Unused flow = refl
none_fits InOffer flow = tt
none_fits (InRecall last acknowledged) flow = tt

pub frame_taken : (line : Line) → IsKept line → IsKept (record line { reassembly = [] })
frame_taken line k = record {
  late = k.late;
  good = k.good;
  end = record {
    drawn = k.end.drawn;
    positive = k.end.positive;
    told = k.end.told;
    names = k.end.names;
    label_fits = k.end.label_fits;
    reassembled = none_fits (binding_of line.downstream.state line.label) line.flow;
  };
  grant = k.grant;
}

-- the line in Estab, with this label
abbrev estab : Line → Label → Line
estab line label = down_at line Estab line.downstream.stored label

abbrev at : Line → State → Label → Line
at line state label = down_at line state line.downstream.stored label

-- a message with a number is sent, and perhaps the label's state and flow change with it
numbered : (line : Line) (label label' : Label) (flow : ℕ) (m : Message) (late : Bool)
    → (k : IsKept (estab line label))
    → ChangesTail (side_of (estab line label) k.late)
    (side_of (sends_numbered (record (estab line label') { flow = flow }) m) late) [] (last_of m ∷ [])
    → ReassemblyFits (binding_of Estab label') flow line.reassembly
    → IsKept (sends_numbered (record (estab line label') { flow = flow }) m)
numbered line label label' flow m late k f taken = record {
  late = late;
  good = sent_down (side_of (estab line label) k.late)
      (side_of (sends_numbered (record (estab line label') { flow = flow }) m) late) line m f k.good;
  end = record {
    drawn = k.end.drawn;
    positive = omega (arith, k.end.positive);
    told = omega (arith, k.end.told);
    names = k.end.names;
    label_fits = tt;
    reassembled = taken;
  };
  grant = k.grant;
}

pub opened : (label : Label) → IsOpened (made_of label)
opened Spare = tt
opened (Wiring flow) = tt
opened Offered = tt
opened (Recalled last acknowledged) = tt
opened Wired = tt

pub sent_other : (line : Line) (state : State) (label : Label) → IsKept (at line state label)
    → IsKept (sends_other (at line state label))
sent_other line Estab label k = numbered line label label line.flow
    (Other line.downstream.own line.downstream.stored line.number) k.late k
    (numbers_other (side_of (estab line label) k.late) (opened label) k.end.positive k.end.told) k.end.reassembled
sent_other line Clearing label k = k
sent_other line SynSent label k = k
sent_other line SynRcvd label k = k

-- another label without a user
relabelled : (line : Line) (label label' : Label) → made_of label ≡ Unused → made_of label' ≡ Unused
    → IsKept (estab line label) → IsKept (estab line label')
relabelled line label label' e f k = record {
  late = k.late;
  good = rw f (rw e at k.good);
  end = record {
    drawn = k.end.drawn;
    positive = k.end.positive;
    told = k.end.told;
    names = k.end.names;
    label_fits = tt;
    reassembled = rw f (rw e at k.end.reassembled);
  };
  grant = k.grant;
}

pub wired_down : (line : Line) (state : State) (label : Label) (flow : ℕ) → IsKept (at line state label)
    → IsKept (wire (at line state label) label flow)
wired_down line Estab Spare flow k = relabelled line Spare (Wiring flow) refl refl k
wired_down line state Spare flow k = k
wired_down line state label flow k = k

none_taken : (flow : ℕ) (taken : List ℕ) → taken ≡ [] → ReassemblyFits InOffer flow taken
none_taken flow taken e = rw e tt

pub bound_down : (line : Line) (state : State) (label : Label) → IsKept (at line state label)
    → IsKept (bind (at line state label) label)
bound_down line Estab (Wiring flow) k = numbered line (Wiring flow) Offered flow
    (Redirect line.downstream.own line.downstream.stored line.number flow) k.late k
    (binds (side_of (estab line (Wiring flow)) k.late) flow refl k.end.positive k.end.told)
    (none_taken flow line.reassembly k.end.reassembled)
bound_down line state (Wiring flow) k = absurd (let e : Wiring flow ≡ Spare = k.end.label_fits in cc)
bound_down line state label k = k

pub refreshed_down : (line : Line) (state : State) (label : Label) → IsKept (at line state label)
    → IsKept (refresh (at line state label) label)
refreshed_down line Estab Offered k = numbered line Offered Offered line.flow
    (Redirect line.downstream.own line.downstream.stored line.number line.flow) k.late k
    (redirects_again (side_of (estab line Offered) k.late) refl k.end.positive k.end.told) k.end.reassembled
refreshed_down line state Offered k = absurd (let e : Offered ≡ Spare = k.end.label_fits in cc)
refreshed_down line state label k = k

pub recalled_down : (line : Line) (state : State) (label : Label) → IsKept (at line state label)
    → IsKept (recall (at line state label) label)
recalled_down line Estab Offered k = numbered line Offered (Recalled line.number false) line.flow
    (Reclaim line.downstream.own line.downstream.stored line.number line.flow) false k
    (recalls (side_of (estab line Offered) k.late) refl k.end.positive k.end.told) k.end.reassembled
recalled_down line state Offered k = absurd (let e : Offered ≡ Spare = k.end.label_fits in cc)
recalled_down line state label k = k

pub recalled_again_down : (line : Line) (state : State) (label : Label) → IsKept (at line state label)
    → IsKept (recall_again (at line state label) label)
recalled_again_down line Estab (Recalled last false) k = numbered line (Recalled last false)
    (Recalled line.number false) line.flow
    (Reclaim line.downstream.own line.downstream.stored line.number line.flow) false k
    (recalls_again (side_of (estab line (Recalled last false)) k.late) last refl k.end.positive k.end.told)
    k.end.reassembled
recalled_again_down line state (Recalled last false)
    k = absurd (let e : Recalled last false ≡ Spare = k.end.label_fits in cc)
recalled_again_down line state label k = k

quit_passed : (line : Line) (last : ℕ) → last < line.known → IsKept (estab line (Recalled last true))
    → IsKept (record (estab line Wired) { reassembly = [] })
quit_passed line last passed k =
    let a : Side = side_of (estab line (Recalled last true)) k.late in
    let b : Side = side_of (estab line Wired) k.late in
    record {
      late = k.late;
      good = change (Fits a) (Fits b) (Before a) (Before b) (trip line) (quits_fits a last refl passed)
          (quits_before a last refl passed) k.good;
      end = record {
        drawn = k.end.drawn;
        positive = k.end.positive;
        told = k.end.told;
        names = k.end.names;
        label_fits = tt;
        reassembled = refl;
      };
      grant = k.grant;
    }

is_less : (m n : ℕ) → nat_lt m n ≡ true → m < n
is_less m n e = grind (arith, nat_tests)

pub quit_down : (line : Line) (state : State) (label : Label) → IsKept (at line state label)
    → IsKept (quit (at line state label) label)
quit_down line Estab (Recalled last true) k = elim (nat_lt last line.known) as (λ b. nat_lt last line.known ≡ b →
    IsKept (if b then record (estab line Wired) { reassembly = [] } else estab line (Recalled last true))) [
      | true ↦ λ e. quit_passed line last (is_less last line.known e) k
      | false ↦ λ e. k
    ] refl
quit_down line state (Recalled last true) k = absurd (let e : Recalled last true ≡ Spare = k.end.label_fits in cc)
quit_down line state label k = k

pub freed_down : (line : Line) (state : State) (label : Label) → IsKept (at line state label)
    → IsKept (free (at line state label) label)
freed_down line Estab Wired k = relabelled line Wired Spare refl refl k
freed_down line state Wired k = absurd (let e : Wired ≡ Spare = k.end.label_fits in cc)
freed_down line state label k = k
