-- what the upstream end does of itself keeps the line

use Rattle.std.proofs.Common.{◌≡◌, ℕ, ◌+◌, Bool, true, false, List, [], ◌∷◌, ◌++◌, append_assoc, refl, sym, subst, arith}
use Rattle.std.specs.Prelude.{nat_eq, nat_lt, ◌||◌, if◌then◌else◌}
use Rattle.net_types.specs.declared.adjacency.HelloKind.TheVariants.{Syn, Synack, Rstack, Ack}
use Rattle.adjacency_table.specs.declared.State.{State}
use Rattle.adjacency_table.specs.declared.State.TheVariants.{Clearing, SynSent, SynRcvd, Estab}
use Rattle.adjacency_table.specs.Table.{Says, Resets, silence_limit, tick_reply}
use Rattle.adjacency_table.specs.Instances.{SideByInstances}
use Rattle.ordered_lists.proofs.Every.{every_all}
use Rattle.ordered_lists.proofs.Exchange.{change}
use Rattle.ordered_lists.proofs.Parts.{IsPart, none, kept, left, part_whole, part_join, holds_part}
use Rattle.ordered_lists.proofs.Copies.{copy_back}
use Rattle.law_label_line.specs.Cells.{Upstream, Message, Hello, ReclaimAck, Cell, Labelled, Way, cells, frame, put}
use Rattle.law_label_line.specs.Line.{Grant, NoGrant, Idle, ByController, ByInput, Leaving, Line}
use Rattle.law_label_line.specs.Upstream.{started, lent, released, expired, sends_labelled, switches_labelled, joins, left_of, resets_upstream, ticks_upstream, clears_upstream}
use Rattle.law_label_line.proofs.Tables.{last_of, up_silent, up_syn, Side, Fits, Before, Good, Changes}
use Rattle.law_label_line.proofs.UpstreamFacts.{says_again, denies, falls_silent, greets_first, pays}
use Rattle.law_label_line.proofs.DownstreamFacts.{clears_up_fits, clears_up_before}
use Rattle.law_label_line.proofs.Trip.{standing, granted, hello_of, grant_of, trip, side_of, Names, GrantFits, IsKept, turned_up, sent_up, up_at}
use Rattle.law_label_line.proofs.DownstreamSteps.{or_right, eq_self}

-- a message is said
pub says_up : (line : Line) (m : Message) → (k : IsKept line)
    → Changes (side_of line k.late) (side_of line k.late) (hello_of line ∷ []) (last_of m ∷ hello_of line ∷ [])
    → IsKept (record line { to_downstream = put line.to_downstream (frame m) })
says_up line m k f = record {
  late = k.late;
  good = sent_up (side_of line k.late) (side_of line k.late) line.to_downstream m (hello_of line ∷ [])
      (hello_of line ∷ []) (grant_of line ++ cells line.to_upstream) f k.good;
  end = k.end;
  grant = k.grant;
}

module _ (line : Line) (x e : ℕ) (grant : Grant) where
  pub syn_up : IsKept (up_at line SynSent x e grant)
      → IsKept (record (up_at line SynSent x e grant)
      { to_downstream = put line.to_downstream (frame (Hello Upstream Syn line.upstream.own 0 0)) })
  syn_up k = says_up (up_at line SynSent x e grant) (Hello Upstream Syn line.upstream.own 0 0) k
      (says_again (side_of line k.late) Syn line.upstream.own 0 0)

  pub synack_up : IsKept (up_at line SynRcvd x e grant)
      → IsKept (record (up_at line SynRcvd x e grant)
      { to_downstream = put line.to_downstream (frame (Hello Upstream Synack line.upstream.own x e)) })
  synack_up k = says_up (up_at line SynRcvd x e grant) (Hello Upstream Synack line.upstream.own x e) k
      (says_again (side_of line k.late) Synack line.upstream.own x e)

  pub ack_up : IsKept (up_at line Estab x e grant)
      → IsKept (record (up_at line Estab x e grant)
      { to_downstream = put line.to_downstream (frame (Hello Upstream Ack line.upstream.own x e)) })
  ack_up k = says_up (up_at line Estab x e grant) (Hello Upstream Ack line.upstream.own x e) k
      (says_again (side_of line k.late) Ack line.upstream.own x e)

denies_at : (a : Side) (state : State) (u x e s r : ℕ)
    → Changes a a (standing state u x e ∷ []) (last_of (Hello Upstream Rstack s r 0) ∷ standing state u x e ∷ [])
denies_at a Clearing u x e s r = denies a Rstack 0 0 0 s r
denies_at a SynSent u x e s r = denies a Syn u 0 0 s r
denies_at a SynRcvd u x e s r = denies a Synack u x e s r
denies_at a Estab u x e s r = denies a Ack u x e s r

pub denies_up : (line : Line) (s r : ℕ) → IsKept line
    → IsKept (record line { to_downstream = put line.to_downstream (frame (Hello Upstream Rstack r s 0)) })
denies_up line s r k = says_up line (Hello Upstream Rstack r s 0) k (denies_at (side_of line k.late)
    line.upstream.state line.upstream.own line.upstream.stored line.expected r s)

-- a reset or a restart
part_left_of : (grant : Grant) (own stored own' stored' : ℕ)
    → IsPart (granted (left_of grant) own' stored') (granted grant own stored)
part_left_of NoGrant own stored own' stored' = none
part_left_of (Idle flow) own stored own' stored' = left none
part_left_of (ByController flow) own stored own' stored' = left none
part_left_of (ByInput flow) own stored own' stored' = kept none
part_left_of (Leaving flow false) own stored own' stored' = kept none
part_left_of (Leaving flow true) own stored own' stored' = kept (left none)

left_fits : (grant : Grant) → GrantFits Clearing (left_of grant)
left_fits NoGrant = tt
left_fits (Idle flow) = tt
left_fits (ByController flow) = tt
left_fits (ByInput flow) = tt
left_fits (Leaving flow owed) = tt

silences : (a : Side) (state : State) (u x e : ℕ) → Changes a a (standing state u x e ∷ []) (up_silent ∷ [])
silences a Clearing u x e = falls_silent a Rstack 0 0 0
silences a SynSent u x e = falls_silent a Syn u 0 0
silences a SynRcvd u x e = falls_silent a Synack u x e
silences a Estab u x e = falls_silent a Ack u x e

pub reset_up : (line : Line) (drawn : ℕ) → IsKept line → IsKept (resets_upstream line drawn)
reset_up line drawn k =
    let a : Side = side_of line k.late in
    let rest : List Cell = granted (left_of line.grant) (line.fresh + drawn) 0 ++ cells line.to_upstream in
    let less : Good a (cells line.to_downstream ++ (hello_of line ∷ rest)) = holds_part (Fits a) (Before a)
    (part_join (part_whole (cells line.to_downstream)) (kept (part_join
    (part_left_of line.grant line.upstream.own line.upstream.stored (line.fresh + drawn) 0)
    (part_whole (cells line.to_upstream))))) k.good in
    record {
      late = k.late;
      good = turned_up a a line.to_downstream (hello_of line ∷ []) (up_silent ∷ []) rest
          (silences a line.upstream.state line.upstream.own line.upstream.stored line.expected) less;
      end = record {
        drawn = omega (arith, k.end.drawn);
        positive = k.end.positive;
        told = k.end.told;
        names = k.end.names;
        label_fits = k.end.label_fits;
        reassembled = k.end.reassembled;
      };
      grant = left_fits line.grant;
    }

-- a tick
pub ticked_up : (line : Line) (state : State) (silence drawn : ℕ)
    → IsKept (up_at line state line.upstream.stored line.expected line.grant)
    → IsKept (ticks_upstream (up_at line state line.upstream.stored line.expected line.grant)
    (tick_reply state silence) drawn)
ticked_up line Clearing silence drawn k = k
ticked_up line SynSent silence drawn k = syn_up line line.upstream.stored line.expected line.grant k
ticked_up line SynRcvd silence drawn k = synack_up line line.upstream.stored line.expected line.grant k
ticked_up line Estab silence drawn k = elim (nat_lt silence_limit silence) as (λ b. IsKept (ticks_upstream
    (up_at line Estab line.upstream.stored line.expected line.grant) (if b then Resets else Says Ack)
    drawn)) [
      | true ↦ reset_up (up_at line Estab line.upstream.stored line.expected line.grant) drawn k
      | false ↦ ack_up line line.upstream.stored line.expected line.grant k
    ]

-- its port is cleared
names_more : (state : State) (end : SideByInstances) (down up up' : ℕ → Bool)
    → ((i : ℕ) → up i ≡ true → up' i ≡ true) → Names state end down up → Names state end down up'
names_more Clearing end down up up' more h = tt
names_more SynSent end down up up' more h = h
names_more SynRcvd end down up up' more h = (h.0, more end.stored h.1)
names_more Estab end down up up' more h = (h.0, more end.stored h.1)

abbrev at : Line → State → Grant → Line
at line state grant = up_at line state line.upstream.stored line.expected grant

pub cleared_up : (line : Line) (state : State) (grant : Grant) → IsKept (at line state grant)
    → IsKept (clears_upstream (at line state grant) grant)
cleared_up line Clearing NoGrant k =
    let a : Side = side_of (at line Clearing NoGrant) k.late in
    let b : Side = side_of (clears_upstream (at line Clearing NoGrant) NoGrant) k.late in
    let more : (i : ℕ) → line.upstream_cleared i ≡ true → (nat_eq i line.upstream.own || line.upstream_cleared i) ≡
    true = λ i h. or_right (nat_eq i line.upstream.own) (line.upstream_cleared i) h in
    let wider : Good b (trip (at line Clearing NoGrant)) = change (Fits a) (Fits b) (Before a) (Before b)
    (trip (at line Clearing NoGrant)) (clears_up_fits a b.up more) (clears_up_before a b.up more) k.good in
    record {
      late = k.late;
      good = turned_up b b line.to_downstream (up_silent ∷ []) (up_syn line.upstream.own ∷ [])
          (cells line.to_upstream)
          (greets_first b line.upstream.own (eq_self line.upstream.own (line.upstream_cleared line.upstream.own)))
          wider;
      end = record {
        drawn = k.end.drawn;
        positive = k.end.positive;
        told = k.end.told;
        names = names_more line.downstream.state line.downstream line.downstream_cleared line.upstream_cleared b.up
            more k.end.names;
        label_fits = k.end.label_fits;
        reassembled = k.end.reassembled;
      };
      grant = tt;
    }
cleared_up line SynSent NoGrant k = k
cleared_up line SynRcvd NoGrant k = k
cleared_up line Estab NoGrant k = k
cleared_up line state grant k = k

-- another grant that lets it send no more
regranted : (line : Line) (state : State) (grant grant' : Grant)
    → IsPart (granted grant' line.upstream.own line.upstream.stored)
    (granted grant line.upstream.own line.upstream.stored)
    → GrantFits state grant' → IsKept (at line state grant) → IsKept (at line state grant')
regranted line state grant grant' p fits k = record {
  late = k.late;
  good = holds_part (Fits (side_of line k.late)) (Before (side_of line k.late))
      (part_join (part_whole (cells line.to_downstream)) (kept (part_join p (part_whole (cells line.to_upstream)))))
      k.good;
  end = k.end;
  grant = fits;
}

pub started_up : (line : Line) (state : State) (grant : Grant) → IsKept (at line state grant)
    → IsKept (started (at line state grant) grant)
started_up line Estab (Idle flow) k = regranted line Estab (Idle flow) (ByController flow) (kept none) tt k
started_up line state (Idle flow) k = absurd k.grant
started_up line state grant k = k

pub lent_up : (line : Line) (state : State) (grant : Grant) → IsKept (at line state grant)
    → IsKept (lent (at line state grant) grant)
lent_up line Estab (ByController flow) k = regranted line Estab (ByController flow) (ByInput flow) (kept none) tt k
lent_up line state (ByController flow) k = absurd k.grant
lent_up line state grant k = k

pub expired_up : (line : Line) (state : State) (grant : Grant) → IsKept (at line state grant)
    → IsKept (expired (at line state grant) grant)
expired_up line Estab (Idle flow) k = regranted line Estab (Idle flow) NoGrant (left none) tt k
expired_up line Estab (ByController flow) k = regranted line Estab (ByController flow) NoGrant (left none) tt k
expired_up line Estab (ByInput flow) k = regranted line Estab (ByInput flow) (Leaving flow false) (kept none) tt k
expired_up line state NoGrant k = k
expired_up line state (Leaving flow owed) k = k
expired_up line state grant k = absurd k.grant

pub released_up : (line : Line) (state : State) (grant : Grant) → IsKept (at line state grant)
    → IsKept (released (at line state grant) grant)
released_up line Estab (ByInput flow) k = regranted line Estab (ByInput flow) (ByController flow) (kept none) tt k
released_up line Estab (Leaving flow false) k = regranted line Estab (Leaving flow false) NoGrant (left none) tt k
released_up line Clearing (Leaving flow false) k = regranted line Clearing (Leaving flow false) NoGrant (left none)
    tt k
released_up line Estab (Leaving flow true) k = record {
  late = k.late;
  good = sent_up (side_of line k.late) (side_of line k.late) line.to_downstream
      (ReclaimAck line.upstream.own line.upstream.stored flow) _ (hello_of (at line Estab NoGrant) ∷ [])
      (cells line.to_upstream)
      (pays (side_of line k.late) line.upstream.own line.upstream.stored line.expected flow) k.good;
  end = k.end;
  grant = tt;
}
released_up line state NoGrant k = k
released_up line state (Idle flow) k = k
released_up line state (ByController flow) k = k
released_up line state grant k = absurd k.grant

-- a cell of the label is copied from what stands at the upstream end to its queue
put_labelled : (a : Side) (way : Way) (hello : Cell) (f : ℕ) (rest : List Cell)
    → Good a (cells way ++ (hello ∷ (Labelled f ∷ rest)))
    → Good a (cells (put way (Labelled f ∷ [])) ++ (hello ∷ (Labelled f ∷ rest)))
put_labelled a way hello f rest h =
    let k : Good a (cells way ++ (Labelled f ∷ (hello ∷ (Labelled f ∷ rest)))) = copy_back (Fits a) (Before a)
    (cells way) (Labelled f) (hello ∷ []) rest tt (tt, tt) h in
    simp append_assoc (simp append_assoc at k)

pub sent_labelled : (line : Line) (state : State) (grant : Grant) → IsKept (at line state grant)
    → IsKept (sends_labelled (at line state grant) grant)
sent_labelled line state (ByController flow) k = record {
  late = k.late;
  good = put_labelled (side_of line k.late) line.to_downstream (hello_of (at line state (ByController flow))) flow
      (cells line.to_upstream) k.good;
  end = k.end;
  grant = k.grant;
}
sent_labelled line state grant k = k

-- and to the output queue of its switch
join_labelled : (a : Side) (way : Way) (hello : Cell) (f : ℕ) (rest : List Cell)
    → Good a (cells way ++ (hello ∷ (Labelled f ∷ rest)))
    → Good a (cells (record way { output = way.output ++ (Labelled f ∷ []) }) ++ (hello ∷ (Labelled f ∷ rest)))
join_labelled a way hello f rest h =
    let j : Good a ((way.chain ++ (way.to_controller ++ way.output)) ++
    ((way.to_switch ++ (hello ∷ [])) ++ (Labelled f ∷ rest))) = simp append_assoc (simp append_assoc at h) in
    let k : Good a ((way.chain ++ (way.to_controller ++ way.output)) ++
    (Labelled f ∷ ((way.to_switch ++ (hello ∷ [])) ++ (Labelled f ∷ rest)))) = copy_back (Fits a) (Before a)
    (way.chain ++ (way.to_controller ++ way.output)) (Labelled f) (way.to_switch ++ (hello ∷ [])) rest tt
    (every_all (Before a (Labelled f)) (way.to_switch ++ (hello ∷ [])) (λ z. tt)) j in
    simp append_assoc (simp append_assoc at k)

joined : (line : Line) (flow : ℕ) (rest : List Cell) → grant_of line ≡ Labelled flow ∷ rest → IsKept line
    → IsKept (joins line flow)
joined line flow rest e k =
    let a : Side = side_of line k.late in
    let h : Good a
    (cells line.to_downstream ++ (hello_of line ∷ ((Labelled flow ∷ rest) ++ cells line.to_upstream))) = subst
    (λ (z : List Cell). Good a (cells line.to_downstream ++ (hello_of line ∷ (z ++ cells line.to_upstream)))) e
    k.good in
    record {
      late = k.late;
      good = subst (λ (z : List Cell). Good a
          (cells (joins line flow).to_downstream ++ (hello_of line ∷ (z ++ cells line.to_upstream)))) (sym e)
          (join_labelled a line.to_downstream (hello_of line) flow (rest ++ cells line.to_upstream) h);
      end = k.end;
      grant = k.grant;
    }

pub switched_labelled : (line : Line) (state : State) (grant : Grant) → IsKept (at line state grant)
    → IsKept (switches_labelled (at line state grant) grant)
switched_labelled line state (ByInput flow) k = joined (at line state (ByInput flow)) flow [] refl k
switched_labelled line state (Leaving flow false) k = joined (at line state (Leaving flow false)) flow [] refl k
switched_labelled line state (Leaving flow true) k = joined (at line state (Leaving flow true)) flow
    (last_of (ReclaimAck line.upstream.own line.upstream.stored flow) ∷ []) refl k
switched_labelled line state grant k = k
