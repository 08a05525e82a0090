-- a tick of both ends of a link at rest

use Rattle.std.proofs.Common.{◌≡◌, ℕ, suc, ◌≤◌, ◌<◌, ◌+◌, ◌-◌, Bool, true, false, true≢false, List, [], ◌∷◌, length, Option, None, Some, refl, sym, ◌∙◌, ap, subst, arith, ◌⊎◌, inl, inr, if◌then◌else◌, map}
use Rattle.std.specs.Prelude.{nat_le, min, is_none, is_some}
use Rattle.std.specs.Option.{option_map}
use Rattle.std.proofs.lemmas.Bool.Decides.{nat_tests}
use Rattle.live_model.specs.world_model.Words.{Instance, Peer, Side, Ack, label_channel_of, label_number_of, at, hello_of, said, Desk, Setup, is_in_range, Label, label_number, Grant, grant_label, Session, Work, last_number, redirect, one_idler, one_older}
use Rattle.live_model.specs.world_model.ifmp_wire.declared.message.Message.{Message}
use Rattle.live_model.specs.world_model.ifmp_wire.declared.message.Message.TheVariants.{Adjacency}
use Rattle.live_model.specs.world_model.port_model.Counts.{greatest_count}
use Rattle.live_model.specs.world_model.port_model.Saying.{peer_instance}
use Rattle.live_model.specs.world_model.port_model.Ticks.{ticks}
use Rattle.live_model.specs.world_model.port_model.declared.action.Action.{Action}
use Rattle.live_model.specs.world_model.port_model.declared.action.Action.TheVariants.{Say}
use Rattle.law_port_facts.specs.ordered_lists.Ordered.{Every}
use Rattle.law_port_facts.proofs.ordered_lists.Every.{every_all, every_map, every_map2, every_mapped}
use Rattle.law_port_facts.proofs.ordered_lists.InOrder.{order_map, order_mapped}
use Rattle.law_port_facts.proofs.Keyed.{at_map, each_found}
use Rattle.law_live_labels.proofs.Agreed.{in_range_number}
use Rattle.law_live_ticks.specs.Law.{IsAtPeace, shorter, aged, is_due, told_anew, redirects, redirects_of, ticked_on}
use Rattle.law_live_ticks.proofs.Ticking.{ports_tick_on}
use Rattle.law_live_nodes.specs.Law.{told_by}
use Rattle.law_live_links.specs.Law.{EndOfLink, IsRefresh, LeadOn, IsToldAnew, IsHeld, Agree, IsEnd, AreAgreed, AreAtRest, working, left_by, MayTick, ticked, TicksKeepAgreement}
use Rattle.law_live_links.proofs.Resting.{end_in, by_rest, nothing_told, rest_swapped, peace}

module _ (setup : Setup) where
  -- *A label that ticked* has its number, its flow and its state, and the ticks since its last REDIRECT
  same_number : (label : Label) → (told_anew setup label).number ≡ label.number
  same_number label = by (is_none label.join) (is_due setup label)
    where
      by : (none due : Bool) → (let older = one_older (if none then one_idler label else label) in if due then record older { ticks = 0 } else older).number ≡ label.number
      by true true = refl
      by true false = refl
      by false true = refl
      by false false = refl

  same_flow : (label : Label) → (told_anew setup label).flow ≡ label.flow
  same_flow label = by (is_none label.join) (is_due setup label)
    where
      by : (none due : Bool) → (let older = one_older (if none then one_idler label else label) in if due then record older { ticks = 0 } else older).flow ≡ label.flow
      by true true = refl
      by true false = refl
      by false true = refl
      by false false = refl

  same_state : (label : Label) → (told_anew setup label).state ≡ label.state
  same_state label = by (is_none label.join) (is_due setup label)
    where
      by : (none due : Bool) → (let older = one_older (if none then one_idler label else label) in if due then record older { ticks = 0 } else older).state ≡ label.state
      by true true = refl
      by true false = refl
      by false true = refl
      by false false = refl

  aged_ticks : (label : Label) → (aged label).ticks ≡ min greatest_count (label.ticks + 1)
  aged_ticks label = by (is_none label.join)
    where
      by : (none : Bool) → (one_older (if none then one_idler label else label)).ticks ≡ min greatest_count (label.ticks + 1)
      by true = refl
      by false = refl

  ticks_when : (label : Label) (due : Bool) → is_due setup label ≡ due → (told_anew setup label).ticks ≡ (if due then 0 else (aged label).ticks)
  ticks_when label true is = ap (λ (b : Bool). (if b then record (aged label) { ticks = 0 } else aged label).ticks) is
  ticks_when label false is = ap (λ (b : Bool). (if b then record (aged label) { ticks = 0 } else aged label).ticks) is

  module _ (label : Label) (told : label.ticks < setup.timers.refresh) (counted : setup.timers.refresh ≤ greatest_count) where
    one_more : (aged label).ticks ≡ label.ticks + 1
    one_more = aged_ticks label ∙ least label.ticks setup.timers.refresh greatest_count told counted
      where
        least : (n m most : ℕ) → n < m → m ≤ most → min most (n + 1) ≡ n + 1
        least n m most low few = omega (arith, low, few)

    told_lately : 1 ≤ setup.timers.refresh → (told_anew setup label).ticks < setup.timers.refresh
    told_lately some = by (is_due setup label) refl
      where
        by : (due : Bool) → is_due setup label ≡ due → (told_anew setup label).ticks < setup.timers.refresh
        by true is = subst (λ n. n < setup.timers.refresh) (sym (ticks_when label true is)) (positive setup.timers.refresh some)
          where
            positive : (n : ℕ) → 1 ≤ n → 0 < n
            positive n one = omega (arith, one)
        by false is = subst (λ n. n < setup.timers.refresh) (sym (ticks_when label false is)) (below setup.timers.refresh (aged label).ticks is)
          where
            below : (m n : ℕ) → nat_le m n ≡ false → n < m
            below m n test = grind (arith, nat_tests)

  -- *REDIRECTs* that are due lead on, and each label that is due has one
  module _ (from to : Peer) (peer : Instance) (names : peer ≡ to.instance) (whole : List Label) where
    abbrev told_labels : List Label
    told_labels = map (told_anew setup) whole

    abbrev messages : (number : ℕ) → List Label → List Message
    messages number labels = told_by (redirects setup from.instance peer number labels)

    refresh_of : (number : ℕ) (label : Label) → at label_number label.number whole ≡ Some label → number < last_number
        → IsRefresh from to setup.timers told_labels number (redirect setup label from.instance peer number)
    refresh_of number label found low = record {
      label = told_anew setup label;
      held = ap (λ k. at label_number k told_labels) (same_number label)
          ∙ (at_map label_number label_number (told_anew setup) same_number label.number whole ∙ ap (option_map (told_anew setup)) found);
      number_left = low;
      is = ap (λ p. redirect setup label from.instance p number) names
          ∙ (ap (λ n. redirect setup (record label { number = n }) from.instance to.instance number) (sym (same_number label))
          ∙ ap (λ f. redirect setup (record label { number = (told_anew setup label).number; flow = f }) from.instance to.instance number) (sym (same_flow label)));
    }

    pub lead : (number : ℕ) (labels : List Label) → Every (λ (label : Label). at label_number label.number whole ≡ Some label) labels → number + length labels ≤ last_number
        → LeadOn from to setup.timers told_labels number (number + length (redirects setup from.instance peer number labels)) (messages number labels)
    lead number [] found low = nothing_more number
      where
        nothing_more : (n : ℕ) → n ≡ n + 0
        nothing_more n = omega arith
    lead number (label ∷ labels) found low = by (is_due setup label)
        (lead (number + 1) labels found.1 (later number (length labels) last_number low)) (lead number labels found.1 (fewer number (length labels) last_number low))
      where
        later : (n k most : ℕ) → n + suc k ≤ most → (n + 1) + k ≤ most
        later n k most few = omega (arith, few)

        fewer : (n k most : ℕ) → n + suc k ≤ most → n + k ≤ most
        fewer n k most few = omega (arith, few)

        some : (n k most : ℕ) → n + suc k ≤ most → n < most
        some n k most few = omega (arith, few)

        one_later : (n k : ℕ) → (n + 1) + k ≡ n + suc k
        one_later n k = omega arith

        by : (due : Bool) → LeadOn from to setup.timers told_labels (number + 1) ((number + 1) + length (redirects setup from.instance peer (number + 1) labels)) (messages (number + 1) labels)
            → LeadOn from to setup.timers told_labels number (number + length (redirects setup from.instance peer number labels)) (messages number labels)
            → (let actions : List Action = if due then Say (redirect setup label from.instance peer number) ∷ redirects setup from.instance peer (number + 1) labels else redirects setup from.instance peer number labels in
            LeadOn from to setup.timers told_labels number (number + length actions) (told_by actions))
        by true behind same = inr (
          refresh_of number label found.0 (some number (length labels) last_number low),
          subst (λ next. LeadOn from to setup.timers told_labels (number + 1) next (messages (number + 1) labels)) (one_later number (length (redirects setup from.instance peer (number + 1) labels))) behind,
        )
        by false behind same = same

    abbrev TellsIfDue : List Message → Label → Type 0
    TellsIfDue said label = label_number_of (label_channel_of label.number) ≡ Some label.number → is_due setup label ≡ true → IsToldAnew label.number said

    pub each_told : (number : ℕ) (labels : List Label) → Every (TellsIfDue (messages number labels)) labels
    each_told number [] = tt
    each_told number (label ∷ labels) = by (is_due setup label) refl (each_told (number + 1) labels) (each_told number labels)
      where
        by : (due : Bool) → is_due setup label ≡ due → Every (TellsIfDue (messages (number + 1) labels)) labels → Every (TellsIfDue (messages number labels)) labels
            → (let actions : List Action = if due then Say (redirect setup label from.instance peer number) ∷ redirects setup from.instance peer (number + 1) labels else redirects setup from.instance peer number labels in
            Every (TellsIfDue (told_by actions)) (label ∷ labels))
        by true is behind same = (
          (λ known due. inl known),
          every_map (TellsIfDue (messages (number + 1) labels)) (TellsIfDue (redirect setup label from.instance peer number ∷ messages (number + 1) labels)) labels
              (λ x told known due. inr (told known due)) behind,
        )
        by false is behind same = ((λ known due. absurd (true≢false (sym due ∙ is))), same)

-- *One way*, behind a tick of both
module _ (desk : Desk) (instances : ℕ) (setup : Setup) (side : Side Peer) (tally : ℕ) (s : Session) (grants : List Grant)
    (far_instances : ℕ) (far_setup : Setup) (far_side : Side Peer) (far_tally : ℕ) (t : Session) (far_grants : List Grant) where
  abbrev giver : EndOfLink
  giver = end_in setup side tally s grants []

  abbrev taker : EndOfLink
  taker = end_in far_setup far_side far_tally t far_grants []

  abbrev giver_then : EndOfLink
  giver_then = left_by giver (ticked_on setup (working instances giver) s)

  abbrev taker_then : EndOfLink
  taker_then = left_by taker (ticked_on far_setup (working far_instances taker) t)

  abbrev told_messages : List Message
  told_messages = told_by (redirects_of setup (working instances giver) s)

  pub agree_then : (knows : side.stored ≡ Some far_side.own) → IsEnd giver → Agree giver taker → MayTick giver → Agree giver_then taker_then
  agree_then knows is agree may = record {
    numbers = inl (
      record { expected = s.expected; is = ap (λ stored. Adjacency (hello_of s.expected (record { kind = Ack; sender = side.own; receiver = stored }))) knows },
      subst (λ n. LeadOn side.own far_side.own setup.timers (map (told_anew setup) s.labels) n (s.number + length (redirects_of setup (working instances giver) s)) told_messages) (sym agree.numbers)
          (lead setup side.own far_side.own (peer_instance side) names s.labels s.number s.labels found may.numbers),
    );
    labels = every_mapped (told_anew setup) (IsHeld setup.timers far_setup (map shorter far_grants) giver_then.said) s.labels
        (every_map2 (IsHeld setup.timers far_setup far_grants []) (TellsIfDue setup side.own far_side.own (peer_instance side) names s.labels told_messages)
        (λ (label : Label). IsHeld setup.timers far_setup (map shorter far_grants) giver_then.said (told_anew setup label)) s.labels
        held_then agree.labels (each_told setup side.own far_side.own (peer_instance side) names s.labels s.number s.labels));
    grants = every_mapped shorter (λ (grant : Grant). is_some (at label_number grant.label (map (told_anew setup) s.labels)) ≡ true) far_grants
        (every_map (λ (grant : Grant). is_some (at label_number grant.label s.labels) ≡ true) (λ (grant : Grant). is_some (at label_number grant.label (map (told_anew setup) s.labels)) ≡ true) far_grants
        (λ grant given. ap (λ (o : Option Label). is_some o) (at_map label_number label_number (told_anew setup) (same_number setup) grant.label s.labels)
        ∙ (some_map (at label_number grant.label s.labels) ∙ given)) agree.grants);
    heard = inr (λ e. absurd (cc e));
  }
    where
      names : peer_instance side ≡ far_side.own.instance
      names = ap (λ stored. peer_instance (record side { stored = stored })) knows

      found : Every (λ (label : Label). at label_number label.number s.labels ≡ Some label) s.labels
      found = each_found label_number s.labels
          (order_map (λ (a b : Label). label_number a < label_number b) (λ (a b : Label). label_number a ≡ label_number b → ⊥) (λ (a : Label). Unit {0}) s.labels
          (λ a b p q below same. differ (label_number a) (label_number b) below same) (every_all (λ (a : Label). Unit {0}) s.labels (λ a. tt)) is.labels_apart)
        where
          differ : (m n : ℕ) → m < n → m ≡ n → ⊥
          differ m n below same = omega (arith, below, same)

      some_map : (o : Option Label) → is_some (option_map (told_anew setup) o) ≡ is_some o
      some_map None = refl
      some_map (Some label) = refl

      held_then : (label : Label) → IsHeld setup.timers far_setup far_grants [] label → TellsIfDue setup side.own far_side.own (peer_instance side) names s.labels told_messages label
          → IsHeld setup.timers far_setup (map shorter far_grants) giver_then.said (told_anew setup label)
      held_then label held tells = record {
        offered = same_state setup label ∙ held.offered;
        told = told_lately setup label held.told is.counted is.refreshes;
        in_range = ap (is_in_range far_setup) (same_number setup label) ∙ held.in_range;
        grant = shorter held.grant;
        granted = ap (λ k. at grant_label k (map shorter far_grants)) (same_number setup label)
            ∙ (at_map grant_label grant_label shorter (λ grant. refl) label.number far_grants ∙ ap (option_map shorter) held.granted);
        same_flow = held.same_flow ∙ sym (same_flow setup label);
        stays = held.stays;
        lives = by (is_due setup label) refl;
      }
        where
          still : (lifetime refresh ticks left : ℕ) → lifetime ≤ left + ticks → ticks < refresh → refresh < lifetime → lifetime ≤ (left - 1) + (ticks + 1)
          still lifetime refresh ticks left lives told sooner = omega (arith, lives, told, sooner)

          by : (due : Bool) → is_due setup label ≡ due
              → (setup.timers.lifetime ≤ (held.grant.lifetime - 1) + (told_anew setup label).ticks) ⊎ IsToldAnew (told_anew setup label).number giver_then.said
          by true due = inr (subst (λ n. IsToldAnew n giver_then.said) (sym (same_number setup label)) (inr (tells (in_range_number far_setup label.number held.in_range) due)))
          by false due = inl (subst (λ n. setup.timers.lifetime ≤ (held.grant.lifetime - 1) + n) (sym (ticks_when setup label false due ∙ one_more setup label held.told is.counted))
              (still setup.timers.lifetime setup.timers.refresh label.ticks held.grant.lifetime
              (nothing_told (setup.timers.lifetime ≤ held.grant.lifetime + label.ticks) label.number [] refl held.lives) held.told is.in_time))

  pub is_end_then : IsEnd giver → IsEnd giver_then
  is_end_then is = record {
    of_link = is.of_link;
    in_session = refl;
    labels_apart = order_mapped (told_anew setup) (λ (a b : Label). label_number a < label_number b) s.labels
        (order_map (λ (a b : Label). label_number a < label_number b) (λ (a b : Label). label_number (told_anew setup a) < label_number (told_anew setup b)) (λ (a : Label). Unit {0}) s.labels
        (λ a b p q below. subst (λ n. n < label_number (told_anew setup b)) (sym (same_number setup a)) (subst (λ n. label_number a < n) (sym (same_number setup b)) below))
        (every_all (λ (a : Label). Unit {0}) s.labels (λ a. tt)) is.labels_apart);
    grants_apart = order_mapped shorter (λ (a b : Grant). grant_label a ≡ grant_label b → ⊥) grants is.grants_apart;
    refreshes = is.refreshes;
    in_time = is.in_time;
    counted = is.counted;
  }

-- *Both*
module _ (desk far_desk : Desk) (instances : ℕ) (setup : Setup) (side : Side Peer) (tally : ℕ) (s : Session) (grants : List Grant)
    (far_instances : ℕ) (far_setup : Setup) (far_side : Side Peer) (far_tally : ℕ) (t : Session) (far_grants : List Grant) where
  abbrev one : EndOfLink
  one = end_in setup side tally s grants []

  abbrev other : EndOfLink
  other = end_in far_setup far_side far_tally t far_grants []

  module _ (rest : AreAtRest one other) (may : MayTick one) (far_may : MayTick other) where
    one_peace : IsAtPeace setup (working instances one) s
    one_peace = peace instances setup side tally s grants other rest may

    other_peace : IsAtPeace far_setup (working far_instances other) t
    other_peace = peace far_instances far_setup far_side far_tally t far_grants one (rest_swapped rest) far_may

    agreed_then : AreAgreed (left_by one (ticked_on setup (working instances one) s)) (left_by other (ticked_on far_setup (working far_instances other) t))
    agreed_then = record {
      met = record { one_is_up = rest.agreed.met.one_is_up; other_is_up = rest.agreed.met.other_is_up; one_knows = rest.agreed.met.one_knows; other_knows = rest.agreed.met.other_knows };
      one_end = is_end_then desk instances setup side tally s grants far_instances far_setup far_side far_tally t far_grants rest.agreed.one_end;
      other_end = is_end_then far_desk far_instances far_setup far_side far_tally t far_grants instances setup side tally s grants rest.agreed.other_end;
      there = agree_then desk instances setup side tally s grants far_instances far_setup far_side far_tally t far_grants rest.agreed.met.one_knows rest.agreed.one_end rest.agreed.there may;
      back = agree_then far_desk far_instances far_setup far_side far_tally t far_grants instances setup side tally s grants rest.agreed.met.other_knows rest.agreed.other_end rest.agreed.back far_may;
    }

    pub both_tick : AreAgreed (ticked desk instances one) (ticked far_desk far_instances other)
    both_tick = subst (λ (w : Work). AreAgreed (left_by one w) (ticked far_desk far_instances other)) (sym (ports_tick_on setup desk (working instances one) s one_peace))
        (subst (λ (w : Work). AreAgreed (left_by one (ticked_on setup (working instances one) s)) (left_by other w)) (sym (ports_tick_on far_setup far_desk (working far_instances other) t other_peace))
        agreed_then)

pub ticks_keep_agreement : TicksKeepAgreement
ticks_keep_agreement desk far_desk instances far_instances one other rest may far_may =
    by_rest (λ (x : EndOfLink). AreAtRest x other → MayTick x → MayTick other → AreAgreed (ticked desk instances x) (ticked far_desk far_instances other))
    (λ setup side tally s grants. by_rest
    (λ (y : EndOfLink). AreAtRest (end_in setup side tally s grants []) y → MayTick (end_in setup side tally s grants []) → MayTick y
    → AreAgreed (ticked desk instances (end_in setup side tally s grants [])) (ticked far_desk far_instances y))
    (λ far_setup far_side far_tally t far_grants. both_tick desk far_desk instances setup side tally s grants far_instances far_setup far_side far_tally t far_grants)
    other rest.agreed.other_end.in_session rest.other_is_heard)
    one rest.agreed.one_end.in_session rest.one_is_heard rest may far_may
