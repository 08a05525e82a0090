-- from what is so of a run before an event: the world in which its actors begin is good

use Rattle.std.proofs.Common.{◌≡◌, ◌≢◌, ◌⊎◌, inl, inr, ℕ, suc, ◌<◌, ◌≤◌, ◌+◌, ◌==◌, Bool, true, false, cond, List, [], ◌∷◌, ◌++◌, length, None, Some, refl, sym, ◌∙◌, ap, arith, count_by}
use Rattle.std.specs.Prelude.{slice_get}
use Rattle.std.proofs.lemmas.Bool.Decides.{nat_tests}
use Rattle.std.proofs.lemmas.List.{length-append}
use Rattle.law_arrival_views.specs.world_model.Words.{NodeId, Place, Mark, Frame, Policy, is_fate_of, has_loss_of, inject_refusal, Topology, IsPlace, World, queue_at, put_away, sent_by, Past, past_of, frames_of, WasAccepted}
use Rattle.law_arrival_views.specs.world_model.link_model.declared.record.Record.TheVariants as records
use Rattle.law_arrival_views.specs.ordered_lists.Ordered.{Every}
use Rattle.law_arrival_views.specs.world_model.network_model.declared.event.Event.{Event}
use Rattle.law_arrival_views.specs.world_model.Reached.{Sent}
use Rattle.law_run_facts.specs.law_world_views.Marks.{Heading, heading_at, HasCome, Means, early, control, local, plain, labelled, last_cells}
use Rattle.law_run_facts.specs.law_world_views.Between.{IsWorld}
use Rattle.law_run_facts.specs.law_world_views.Kept.{behind}
use Rattle.law_run_facts.specs.Steps.{IsPast, IsStep, Stays}
use Rattle.law_packet_worlds.proofs.Cut.{one}
use Rattle.law_packet_worlds.proofs.Meant.{in_frames, MeansAt}
use Rattle.law_packet_worlds.proofs.Good.{nothing}
use Rattle.law_packet_worlds.specs.Channels.{HasChannels}
use Rattle.law_packet_worlds.proofs.Bound.{got_split, got_within}
use Rattle.law_packet_worlds.proofs.Fated.{none_fated}
use Rattle.law_packet_worlds.proofs.Turns.{every_of}
use Rattle.law_packet_worlds.proofs.Worlds.{IsGoodWorld}
use Rattle.law_packet_worlds.proofs.Sites.{IsBase}

module _ (policy : Policy) (topology : Topology) (before : List Event) (event : Event) (is : IsWorld (past_of policy topology before)) (channels : HasChannels (past_of policy topology before))
    (whole : IsPast (past_of policy topology before)) (steps : IsStep (past_of policy topology before) (behind policy topology before event) event)
    (stay : Stays (past_of policy topology before) (behind policy topology before event)) where
  abbrev P : Past
  P = past_of policy topology before

  abbrev pub base : Past
  base = record (behind policy topology before event) { records = (past_of policy topology before).records }

  abbrev pub time : ℕ
  time = length before

  pub timed : length (before ++ event ∷ []) ≡ suc time
  timed = omega (arith, length-append before (event ∷ []))

  pub is_base : IsBase P base time
  is_base = record {
    topology = refl;
    records = refl;
    timed = timed;
    held = λ node. steps.held node time (omega (arith, whole.worlds)) ∙ whole.held node;
  }

  -- *What cells meant* they mean
  come_over : (frames : List Frame) (k : ℕ) (node : NodeId) (packet : List ℕ) → HasCome P k node packet → HasCome (in_frames base frames) k node packet
  come_over frames k node packet c =
      let d : HasCome (behind policy topology before event) k node packet = stay.has_come k node packet c in
      record { counted = d.counted; fit = d.fit; time = d.time; so_far = d.so_far; reached = d.reached }

  means_over : (to : Heading) (last : Bool) (mark : Mark) → Means P to last mark → Means (in_frames base (frames_of P)) to last mark
  means_over to last mark (early d e other) = early d e other
  means_over to last mark (control d z source message made) = control d z source message made
  means_over to last mark (local d e z) = local d e z
  means_over to last mark (plain d e far led packet made come newest) = plain d e far led packet made (come_over (frames_of P) mark.packet far.node packet come) newest
  means_over to last mark (labelled d far led flow bound payload packet made carried come newest) =
      labelled d far led flow bound payload packet made carried (come_over (frames_of P) mark.packet far.node packet come) newest

  meant : (place : Place) → IsPlace topology place → Every (MeansAt base (frames_of P) place) (queue_at P.now place)
  meant place there = every_of (MeansAt base (frames_of P) place) (queue_at P.now place)
      (λ cell c. (means_over (heading_at topology place cell.header.channel) cell.header.last cell.mark (is.meanings place cell there c), λ other. channels place cell there c other))

  -- *Fates*
  not_sent : (k : ℕ) → P.now.sent < k → WasAccepted P k → ⊥
  not_sent k above was = omega (arith, above, was.numbered, whole.sent, got_within P.history.sent was.place was.sent was.is_sent)

  pub no_fates : (k : ℕ) → P.now.sent < k → count_by (is_fate_of k) P.records ≡ 0
  no_fates k above = none_fated policy topology before is.packets.true_fates k (not_sent k above)

  -- *The world in which the actors begin*
  abbrev pub start : World
  start = put_away (past_of policy topology before).now

  no_records : (k : ℕ) → count_by (is_fate_of k) [] ≡ 0
  no_records k = refl

  -- an accepted packet was so before, or is sent now
  pub accepted_before : (k : ℕ) → WasAccepted base k → WasAccepted P k ⊎ ((j : ℕ) × (k ≡ suc (length P.history.sent + j)) × ((s : Sent) × (slice_get (sent_by (length before) (event ∷ [])) j ≡ Some s) × (inject_refusal s.packet ≡ None)))
  accepted_before k was = by (got_split P.history.sent (sent_by (length before) (event ∷ [])) was.place was.sent (sym (ap (λ (ss : List Sent). slice_get ss was.place) steps.sent) ∙ was.is_sent))
    where
      by : (slice_get P.history.sent was.place ≡ Some was.sent) ⊎ ((j : ℕ) × (was.place ≡ length P.history.sent + j) × (slice_get (sent_by (length before) (event ∷ [])) j ≡ Some was.sent))
          → WasAccepted P k ⊎ ((j : ℕ) × (k ≡ suc (length P.history.sent + j)) × ((s : Sent) × (slice_get (sent_by (length before) (event ∷ [])) j ≡ Some s) × (inject_refusal s.packet ≡ None)))
      by (inl old) = inl (record { place = was.place; numbered = was.numbered; sent = was.sent; is_sent = old; accepted = was.accepted })
      by (inr new) = inr (new.0, omega (arith, was.numbered, new.1), (was.sent, new.2, was.accepted))

  -- no packet enters
  pub starts_good : ((k : ℕ) → WasAccepted base k → WasAccepted P k) → IsGoodWorld base time nothing start
  starts_good old = record {
    meant = meant;
    unmade = λ k i above. is.packets.unsent k i above;
    unused = is.numbers.unmade;
    once = λ k some. omega (arith, is.packets.once k some, no_records k);
    later = λ k above. omega (arith, is.packets.later k above, no_fates k above, no_records k);
    kept = λ k was free. omega (arith, is.packets.kept k (old k was) free, no_records k);
    truths = tt;
  }

  -- one does
  pub enters_good : ((k : ℕ) → WasAccepted base k → WasAccepted P k ⊎ (k ≡ P.now.sent + 1)) → IsGoodWorld base time (one (P.now.sent + 1)) (record start { sent = P.now.sent + 1 })
  enters_good old = record {
    meant = meant;
    unmade = λ k i above. is.packets.unsent k i (omega (arith, above));
    unused = is.numbers.unmade;
    once = λ k some. once_by k some (P.now.sent + 1 == k) refl;
    later = λ k above. omega (arith, is.packets.later k (omega (arith, above)), no_fates k (omega (arith, above)), no_records k, other k (λ e. omega (arith, e, above)));
    kept = λ k was free. by k free (old k was);
    truths = tt;
  }
    where
      same_one : (k : ℕ) → P.now.sent + 1 ≡ k → one (P.now.sent + 1) k ≡ 1
      same_one k e = (let test : (P.now.sent + 1 == k) ≡ true = grind (arith, nat_tests, e) in ap {B = ℕ} (λ (b : Bool). cond b 1 0) test)

      other : (k : ℕ) → P.now.sent + 1 ≢ k → one (P.now.sent + 1) k ≡ 0
      other k away = by_test (P.now.sent + 1 == k) refl
        where
          by_test : (b : Bool) → (P.now.sent + 1 == k) ≡ b → ◌≡◌ {A = ℕ} (cond b 1 0) 0
          by_test true e = absurd (away (grind (arith, nat_tests, e)))
          by_test false e = refl

      once_by : (k : ℕ) → 0 < k → (b : Bool) → (P.now.sent + 1 == k) ≡ b
          → last_cells start k + (count_by (is_fate_of k) P.records + count_by (is_fate_of k) []) + one (P.now.sent + 1) k ≤ 1
      once_by k some true e =
          let same : P.now.sent + 1 ≡ k = grind (arith, nat_tests, e) in
          omega (arith, is.packets.later k (omega (arith, same)), no_fates k (omega (arith, same)), no_records k, same_one k same)
      once_by k some false e =
          let away : P.now.sent + 1 ≢ k = λ same. (let test : (P.now.sent + 1 == k) ≡ true = grind (arith, nat_tests, same) in let clash : true ≡ false = sym test ∙ e in cc clash) in
          omega (arith, is.packets.once k some, no_records k, other k away)

      by : (k : ℕ) → has_loss_of k P.now.notes.entries ≡ false → WasAccepted P k ⊎ (k ≡ P.now.sent + 1)
          → 1 ≤ last_cells start k + (count_by (is_fate_of k) P.records + count_by (is_fate_of k) []) + one (P.now.sent + 1) k
      by k free (inl was) = omega (arith, is.packets.kept k was free)
      by k free (inr new) = omega (arith, same_one k (sym new))

  -- one is refused
  pub refused_good : ((k : ℕ) → WasAccepted base k → WasAccepted P k) → IsGoodWorld base time nothing (record start { sent = P.now.sent + 1 })
  refused_good old = record {
    meant = meant;
    unmade = λ k i above. is.packets.unsent k i (omega (arith, above));
    unused = is.numbers.unmade;
    once = λ k some. omega (arith, is.packets.once k some, no_records k);
    later = λ k above. omega (arith, is.packets.later k (omega (arith, above)), no_fates k (omega (arith, above)), no_records k);
    kept = λ k was free. omega (arith, is.packets.kept k (old k was) free, no_records k);
    truths = tt;
  }
