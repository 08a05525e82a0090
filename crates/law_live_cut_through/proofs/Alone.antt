-- along a run: once a packet has its fate nothing of it waits in a queue, and so no frame of it is made

use Rattle.std.proofs.Common.{◌≡◌, ◌≢◌, ◌⊎◌, inl, inr, ℕ, zero, suc, ◌+◌, ◌<◌, ◌≤◌, ◌==◌, ◌&&◌, Bool, true, false, true≢false, cond, map, List, [], ◌∷◌, ◌++◌, append_assoc, append-nil, length, count_by, Option, None, Some, refl, sym, ◌∙◌, ap, subst, arith, if◌then◌else◌}
use Rattle.std.specs.Prelude.{Contains, nat_eq}
use Rattle.std.specs.List.{sum_by, flat_map, list_any}
use Rattle.std.specs.Option.{option_map_or}
use Rattle.std.proofs.lemmas.Bool.{cases_lt}
use Rattle.std.proofs.lemmas.Bool.Decides.{nat_tests}
use Rattle.std.proofs.lemmas.List.{length-append}
use Rattle.std.proofs.lemmas.List.Sums.{sum_by-cons, sum_by-append}
use Rattle.world_model.specs.Words.{NodeId, PortNo, Place, Down, Up, Out, Delivered, Policy, Mark, next_mark, Cell, payload_of, at, is_fate_of, fates_of, Topology, IsNode, World, Site, site_key, site_at, places_of, queue_at, queue_in, next, Past, past_of, frames_of, sent_by}
use Rattle.world_model.specs.Controller.{ports_of}
use Rattle.world_model.specs.Reached.{Sent}
use Rattle.world_model.specs.World.{opened}
use Rattle.world_model.specs.network_model.declared.event.Event.{Event}
use Rattle.world_model.specs.network_model.declared.event.Event.TheVariants.{Carry}
use Rattle.law_live_ease.proofs.law_port_facts.Keyed.{at_key}
use Rattle.law_live_ease.specs.law_run_facts.Steps.{IsPast, IsStep}
use Rattle.law_live_ease.specs.law_run_facts.law_world_views.Between.{IsWorld}
use Rattle.law_live_ease.specs.law_run_facts.law_world_views.Kept.{behind}
use Rattle.law_live_ease.specs.law_run_facts.law_world_views.Marks.{Heading, Means, early, control, local, plain, labelled, heading_at, ends, ends_in, last_cells}
use Rattle.law_live_ease.proofs.law_run_facts.Steps.{after_one, pasts_are_whole, events_are_steps}
use Rattle.law_live_ease.proofs.law_packet_worlds.Ledger.{other_packet}
use Rattle.law_live_ease.proofs.law_packet_worlds.Lists.{count_by-append, count_by-cons, or_left, or_right}
use Rattle.law_live_ease.proofs.law_packet_worlds.Quiet.{is_fate}
use Rattle.law_live_ease.specs.law_true_runs.Runs.{HoldsInRuns, IsWhole}
use Rattle.law_live_ease.proofs.law_true_runs.Walk.{holds_at}
use Rattle.law_live_ease.specs.law_live_hearing.Law.{world_at}
use Rattle.law_live_ease.specs.law_live_journeys.Hops.{IsStretch}
use Rattle.law_live_cut_through.specs.Led.{DeliveredAreAlone}
use Rattle.law_live_cut_through.proofs.AloneClear.{event_clear}
use Rattle.law_live_cut_through.proofs.AloneEither.{AreFateless, carry_either}

-- *What is there is counted*, and found
counted : {X : Type 0} (p : X → Bool) (xs : List X) (x : X) → Contains xs x → p x ≡ true → 1 ≤ count_by p xs
counted p [] x has passes = absurd (omega (arith, has.1))
counted {X} p (y ∷ xs) x (zero, less, is) passes =
    let own : p y ≡ true = subst (λ (z : X). p z ≡ true) (sym is) passes in
    let one : ◌≡◌ {A = ℕ} (cond (p y) 1 0) 1 = ap {B = ℕ} (λ (b : Bool). cond b 1 0) own in
    omega (arith, count_by-cons p y xs, one)
counted p (y ∷ xs) x (suc n, less, is) passes = omega (arith, count_by-cons p y xs, counted p xs x (n, omega (arith, less), is) passes)

none_counted : {X : Type 0} (p : X → Bool) (xs : List X) (x : X) → Contains xs x → p x ≡ true → list_any p xs ≡ false → ⊥
none_counted p [] x has passes none = absurd (omega (arith, has.1))
none_counted {X} p (y ∷ xs) x (zero, less, is) passes none = absurd (true≢false (sym (subst (λ (z : X). p z ≡ true) (sym is) passes) ∙ or_left (p y) (list_any p xs) none))
none_counted p (y ∷ xs) x (suc n, less, is) passes none = none_counted p xs x (n, omega (arith, less), is) passes (or_right (p y) (list_any p xs) none)

-- *A last cell in front of a controller* is one of those in all queues
module _ (w : World) (k : ℕ) where
  abbrev here : Place → ℕ
  here place = ends_in k (queue_at w place)

  in_site : (site : Site) → here (Up site.controller.node) ≤ sum_by here (places_of site)
  in_site site =
      let outs : List Place = map (λ (port : PortNo). Out site.controller.node port) (ports_of site.controller) in
      omega (arith, sum_by-cons here (Down site.controller.node) (Up site.controller.node ∷ outs), sum_by-cons here (Up site.controller.node) outs)

  in_sites : (key : ℕ) (sites : List Site) (site : Site) → at site_key key sites ≡ Some site → here (Up site.controller.node) ≤ sum_by here (flat_map places_of sites)
  in_sites key [] site found = absurd (cc found)
  in_sites key (x ∷ sites) site found = by (nat_eq (site_key x) key) found (λ e. in_sites key sites site e)
    where
      sum : sum_by here (flat_map places_of (x ∷ sites)) ≡ sum_by here (places_of x) + sum_by here (flat_map places_of sites)
      sum = sum_by-append here (places_of x) (flat_map places_of sites)

      by : (b : Bool) → (if b then Some x else at site_key key sites) ≡ Some site → (at site_key key sites ≡ Some site → here (Up site.controller.node) ≤ sum_by here (flat_map places_of sites))
          → here (Up site.controller.node) ≤ sum_by here (flat_map places_of (x ∷ sites))
      by true e later =
          let same : x ≡ site = cc e in
          let one : here (Up site.controller.node) ≤ sum_by here (places_of x) = subst (λ (s : Site). here (Up s.controller.node) ≤ sum_by here (places_of x)) same (in_site x) in
          omega (arith, sum, one)
      by false e later = omega (arith, sum, later e)

  pub last_counts : (node : NodeId) (cell : Cell) (cells : List Cell) → queue_at w (Up node) ≡ cell ∷ cells → cell.header.last ≡ true → cell.mark.packet ≡ k → 1 ≤ last_cells w k
  last_counts node cell cells is last own = by (site_at w node) refl is
    where
      both : (a b : Bool) → a ≡ true → b ≡ true → a && b ≡ true
      both true true e f = refl
      both true false e f = absurd (cc f)
      both false b e f = absurd (cc e)

      ended : ends k cell ≡ true
      ended = both cell.header.last (cell.mark.packet == k) last (grind (arith, nat_tests, own))

      one : ◌≡◌ {A = ℕ} (cond (ends k cell) 1 0) 1
      one = ap {B = ℕ} (λ (b : Bool). cond b 1 0) ended

      waits : 1 ≤ here (Up node)
      waits = subst (λ (q : List Cell). 1 ≤ ends_in k q) (sym is) (omega (arith, count_by-cons (ends k) cell cells, one))

      by : (o : Option Site) → site_at w node ≡ o → option_map_or (λ (site : Site). queue_in site (Up node)) o [] ≡ cell ∷ cells → 1 ≤ last_cells w k
      by None found e = absurd (cc e)
      by (Some site) found e =
          let key : site.controller.node.0 ≡ node.0 = at_key site_key node.0 w.sites site found in
          let there : 1 ≤ here (Up site.controller.node) = subst (λ (n : ℕ). 1 ≤ here (Up (record { 0 = n }))) (sym key) waits in
          omega (arith, there, in_sites node.0 w.sites site found)

-- a last cell of a packet that means something is of its newest frame
newest : (past : Past) (to : Heading) (last : Bool) (mark : Mark) → last ≡ true → 0 < mark.packet → Means past to last mark → payload_of (frames_of past) (next_mark mark) ≡ None
newest past to last mark is some (early default other any) = absurd (cc (sym is ∙ other))
newest past to last mark is some (control default none source message made) = absurd (omega (arith, some, none))
newest past to last mark is some (local default own none) = absurd (omega (arith, some, none))
newest past to last mark is some (plain default also far at packet made come n) = n (mark.frame + 1) (omega arith)
newest past to last mark is some (labelled other far at flow bound payload packet made carries come n) = n is (mark.frame + 1) (omega arith)

module _ (whole : HoldsInRuns IsWhole) (policy : Policy) (topology : Topology) (past events : List Event) (stretch : IsStretch policy topology past events) where
  abbrev all : List Event
  all = past ++ events

  is_world : (before after : List Event) → all ≡ before ++ after → IsWorld (past_of policy topology before)
  is_world before after split = (holds_at policy topology stretch.addresses IsWhole whole all before after stretch.run stretch.tame split).world

  module _ (came : Mark) (some : 0 < came.packet) where
    of_packet : came.packet ≢ 0
    of_packet e = absurd (omega (arith, some, e))

    -- *Alone*: no further frame was made of the packet, it has its fate, and was sent
    record IsAlone (before : List Event) : Type 0 where
      none : payload_of (world_at policy topology before).notes.frames (next_mark came) ≡ None
      fated : 1 ≤ fates_of (past_of policy topology before) came.packet
      sent : came.packet ≤ (world_at policy topology before).sent

    more_sent : (before : List Event) (event : Event) → (world_at policy topology before).sent ≤ (world_at policy topology (before ++ event ∷ [])).sent
    more_sent before event =
        let old : IsPast (past_of policy topology before) = pasts_are_whole policy topology before in
        let new : IsPast (behind policy topology before event) = pasts_are_whole policy topology (before ++ event ∷ []) in
        let step : IsStep (past_of policy topology before) (behind policy topology before event) event = events_are_steps policy topology before event in
        omega (arith, old.sent, new.sent, ap (λ (ss : List Sent). length ss) step.sent, length-append (past_of policy topology before).history.sent (sent_by (length before) (event ∷ [])))

    more_fates : (before : List Event) (event : Event) → fates_of (behind policy topology before event) came.packet
        ≡ fates_of (past_of policy topology before) came.packet + count_by (is_fate_of came.packet) (world_at policy topology (before ++ event ∷ [])).notes.records
    more_fates before event = ap (count_by (is_fate_of came.packet)) (events_are_steps policy topology before event).records
        ∙ count_by-append (is_fate_of came.packet) (past_of policy topology before).records (world_at policy topology (before ++ event ∷ [])).notes.records

    stays_alone : (before after : List Event) (event : Event) → all ≡ before ++ event ∷ after → IsAlone before → IsAlone (before ++ event ∷ [])
    stays_alone before after event split h =
        let w : World = world_at policy topology before in
        let is : IsWorld (past_of policy topology before) = is_world before (event ∷ after) split in
        let idle : last_cells w came.packet ≡ 0 = omega (arith, is.packets.once came.packet some, h.fated) in
        let clear : payload_of (next topology w event).notes.frames (next_mark came) ≡ None =
        event_clear (next_mark came) of_packet topology w h.none event
        (λ node cell cells queue last. other_packet (next_mark cell.mark) (next_mark came) (λ same. absurd (omega (arith, idle, last_counts w came.packet node cell cells queue last same))))
        (other_packet (record { packet = w.sent + 1; frame = 0 + 1 }) (next_mark came) (λ same. absurd (omega (arith, same, h.sent)))) in
        record {
          none = subst (λ (v : World). payload_of v.notes.frames (next_mark came) ≡ None) (sym (after_one topology (opened policy topology) before event)) clear;
          fated = omega (arith, h.fated, more_fates before event);
          sent = omega (arith, h.sent, more_sent before event);
        }

    alone_along : (after before : List Event) → all ≡ before ++ after → IsAlone before → IsAlone (before ++ after)
    alone_along [] before split h = subst IsAlone (sym (append-nil before)) h
    alone_along (event ∷ after) before split h = subst IsAlone (append_assoc before (event ∷ []) after)
        (alone_along after (before ++ event ∷ []) (split ∙ sym (append_assoc before (event ∷ []) after)) (stays_alone before after event split h))

  -- *As it is delivered*
  module _ (front rest : List Event) (node : NodeId) (cell : Cell) (cells : List Cell) (packet : List ℕ) (are : events ≡ front ++ Carry (Up node) ∷ rest)
      (queue : queue_at (world_at policy topology (past ++ front)) (Up node) ≡ cell ∷ cells) (last : cell.header.last ≡ true) (some : 0 < cell.mark.packet)
      (delivers : Contains (next topology (world_at policy topology (past ++ front)) (Carry (Up node))).notes.records (Delivered node cell.mark.packet packet)) where
    abbrev before : List Event
    before = past ++ front

    abbrev w : World
    w = world_at policy topology (past ++ front)

    split : all ≡ before ++ Carry (Up node) ∷ rest
    split = ap (λ (es : List Event). past ++ es) are ∙ sym (append_assoc past front (Carry (Up node) ∷ rest))

    is : IsWorld (past_of policy topology before)
    is = is_world before (Carry (Up node) ∷ rest) split

    within : IsNode topology node
    within = (stretch.run.each before rest (Carry (Up node)) split).meant

    first : payload_of w.notes.frames (next_mark cell.mark) ≡ None
    first = newest (past_of policy topology before) (heading_at topology (Up node) cell.header.channel) cell.header.last cell.mark last some
        (is.meanings (Up node) cell within (subst (λ (q : List Cell). Contains q cell) (sym queue) (0, omega arith, refl)))

    now_is : world_at policy topology (before ++ Carry (Up node) ∷ []) ≡ next topology w (Carry (Up node))
    now_is = after_one topology (opened policy topology) before (Carry (Up node))

    delivered : IsAlone cell.mark some (before ++ Carry (Up node) ∷ [])
    delivered = record {
      none = subst (λ (v : World). payload_of v.notes.frames (next_mark cell.mark) ≡ None) (sym now_is)
          (by (carry_either cell.mark (of_packet cell.mark some) cell refl topology w node cells queue first));
      fated = omega (arith, more_fates cell.mark some before (Carry (Up node)), fate);
      sent = omega (arith, more_sent cell.mark some before (Carry (Up node)), was_sent);
    }
      where
        by : (payload_of (next topology w (Carry (Up node))).notes.frames (next_mark cell.mark) ≡ None) ⊎ AreFateless (next topology w (Carry (Up node))).notes.records
            → payload_of (next topology w (Carry (Up node))).notes.frames (next_mark cell.mark) ≡ None
        by (inl none) = none
        by (inr fateless) = absurd (none_counted is_fate (next topology w (Carry (Up node))).notes.records (Delivered node cell.mark.packet packet) delivers refl fateless)

        own : (cell.mark.packet == cell.mark.packet) ≡ true
        own = grind (arith, nat_tests)

        fate : 1 ≤ count_by (is_fate_of cell.mark.packet) (world_at policy topology (before ++ Carry (Up node) ∷ [])).notes.records
        fate = subst (λ (v : World). 1 ≤ count_by (is_fate_of cell.mark.packet) v.notes.records) (sym now_is)
            (counted (is_fate_of cell.mark.packet) (next topology w (Carry (Up node))).notes.records (Delivered node cell.mark.packet packet) delivers own)

        was_sent : cell.mark.packet ≤ w.sent
        was_sent = at_most cell.mark.packet w.sent (λ above. omega (arith, is.packets.later cell.mark.packet above, last_counts w cell.mark.packet node cell cells queue last refl))
          where
            at_most : (n m : ℕ) → (m < n → ⊥) → n ≤ m
            at_most n m not_above = elim (cases_lt m n) [ inl above ↦ absurd (not_above above) | inr low ↦ omega (arith, low) ]

    alone : payload_of (world_at policy topology all).notes.frames (next_mark cell.mark) ≡ None
    alone = subst (λ (es : List Event). payload_of (world_at policy topology es).notes.frames (next_mark cell.mark) ≡ None)
        (append_assoc before (Carry (Up node) ∷ []) rest ∙ sym split)
        (alone_along cell.mark some rest (before ++ Carry (Up node) ∷ []) (split ∙ sym (append_assoc before (Carry (Up node) ∷ []) rest)) delivered).none

pub delivered_are_alone : HoldsInRuns IsWhole → DeliveredAreAlone
delivered_are_alone whole policy topology past events front rest node cell cells packet stretch are queue last some delivers =
    alone whole policy topology past events stretch front rest node cell cells packet are queue last some delivers
