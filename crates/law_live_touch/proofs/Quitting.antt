-- an ACK is heard, by which labels may be quit

use Rattle.std.proofs.Common.{◌≡◌, ◌≢◌, ℕ, ◌≤◌, ◌<◌, Bool, false, true, true≢false, List, [], ◌∷◌, ◌++◌, Option, None, Some, refl, sym, ◌∙◌, ap, subst, arith, ◌⊎◌, inl, inr, if◌then◌else◌, map, fold}
use Rattle.std.specs.Prelude.{◌||◌, max, nat_lt}
use Rattle.std.proofs.lemmas.Bool.Decides.{nat_tests}
use Rattle.live_model.specs.world_model.Words.{Ack, DeleteTree, FlowId, Peer, Side, hello_of, at, put, Desk, on_input, Setup, label_end, Label, LabelState, Wiring, Offered, Recalled, Wired, label_number, label_at, Grant, grant_label, Session, Work, known_of, has_room, quits, quits_found, quits_in, quits_label}
use Rattle.live_model.specs.world_model.ifmp_wire.declared.message.Message.{Message}
use Rattle.live_model.specs.world_model.ifmp_wire.declared.message.Message.TheVariants.{Adjacency}
use Rattle.live_model.specs.world_model.port_model.Adjacency.{unwires}
use Rattle.live_model.specs.world_model.port_model.Port.{Port, desk_after, with_action}
use Rattle.live_model.specs.world_model.port_model.declared.action.Action.{Action}
use Rattle.live_model.specs.world_model.port_model.declared.action.Action.TheVariants.{Ask, CutChain, Note, Reset, Say, TakeBack, Withdraw}
use Rattle.law_port_facts.specs.ordered_lists.Ordered.{Every, InOrder}
use Rattle.law_port_facts.proofs.ordered_lists.Every.{every_map}
use Rattle.law_port_facts.proofs.Keyed.{on_both, on_each, at_key, at_every, at_put_same, at_put_other, by_eq, put_every, put_order, every_more}
use Rattle.law_live_labels.proofs.Agreed.{at_work}
use Rattle.law_live_nodes.specs.Law.{told_by}
use Rattle.law_live_links.specs.Law.{EndOfLink, number_of, expected_of, hearing}
use Rattle.law_live_links.proofs.Resting.{end_in}
use Rattle.law_live_recalls.proofs.Rules.{hello_learns}
use Rattle.law_live_touch.specs.Touch.{LeadFrom, Between, between, IsGone, IsEnding, IsLate, IsAnswered, IsReturning, IsInState, Stands, IsInRanges, AreInTouch}
use Rattle.law_live_touch.specs.Law.{MayDo, cuts, deletes, TouchOn}
use Rattle.law_live_touch.proofs.Labels.{there_heard, back_same, stands_on}
use Rattle.law_live_touch.proofs.Heard.{is_passed, is_settled}
use Rattle.law_live_touch.proofs.Ends.{one_label, touches, still_met, on_hearing_silent}

-- a number is below another, or it isn't
pub below : (m k : ℕ) → nat_lt m k ≡ true → m < k
below m k h = grind (arith, nat_tests)

pub above : (m k : ℕ) → nat_lt m k ≡ false → k ≤ m
above m k h = grind (arith, nat_tests)

-- *What is said* by more actions
pub told_last : (actions : List Action) (last : Action) → told_by (last ∷ []) ≡ [] → told_by actions ≡ [] → told_by (actions ++ last ∷ []) ≡ []
told_last [] last silent none = silent
told_last (Say message ∷ actions) last silent none = absurd (cc none)
told_last (Ask request needed ∷ actions) last silent none = told_last actions last silent none
told_last (Note entry ∷ actions) last silent none = told_last actions last silent none
told_last (CutChain number ∷ actions) last silent none = told_last actions last silent none
told_last (TakeBack input output ∷ actions) last silent none = told_last actions last silent none
told_last (Withdraw input ∷ actions) last silent none = told_last actions last silent none
told_last (Reset ∷ actions) last silent none = told_last actions last silent none

abbrev pub IsIn : ℕ → List ℕ → Type 0
IsIn k [] = ⊥
IsIn k (n ∷ numbers) = (n ≡ k) ⊎ IsIn k numbers

is_in : (k : ℕ) (labels : List Label) (label : Label) → at label_number k labels ≡ Some label → IsIn k (map label_number labels)
is_in k [] label found = absurd (cc found)
is_in k (x ∷ labels) label found = by_eq x.number k
    (λ same t. inl same)
    (λ differs t. inr (is_in k labels label (sym (ap (λ (b : Bool). if b then Some x else at label_number k labels) t) ∙ found)))

-- an acknowledged label isn't known to be passed
unpassed : (label : ℕ) (flow : FlowId) (last : ℕ) (b : Between) → IsReturning label flow last true b → b.known ≤ last
unpassed label flow last b r = by r.stands
  where
    by : IsEnding label flow last true b ⊎ (IsLate label last true b ⊎ IsAnswered label last true b) → b.known ≤ last
    by (inl e) = absurd (true≢false e.unacknowledged)
    by (inr (inl l)) = absurd (true≢false l.unacknowledged)
    by (inr (inr a)) = a.unpassed

-- *Its branch is asked to be deleted*, or nothing is
pub unwired_either : (setup : Setup) (desk : Desk) (P : Work → Type 0) (w : Work) (number : ℕ) → ((in_place : Bool) → P (with_action w (Ask (DeleteTree (label_end setup.port number)) in_place))) → P w
    → P (unwires setup desk w number)
unwired_either setup desk P w number asked same = on_both P (on_input (desk_after desk w) (label_end setup.port number) || has_room desk w)
    (with_action w (Ask (DeleteTree (label_end setup.port number)) (on_input (desk_after desk w) (label_end setup.port number)))) w
    (asked (on_input (desk_after desk w) (label_end setup.port number))) same

module _ (desk : Desk) (instances : ℕ) (setup : Setup) (side : Side Peer) (tally : ℕ) (s : Session) (grants : List Grant) (said : List Message)
    (far_setup : Setup) (far_port : Port) (next : ℕ) (rest : List Message) where
  abbrev pub ack : Message
  ack = Adjacency (hello_of next (record { kind = Ack; sender = far_port.adjacency.own; receiver = Some side.own }))

  abbrev one : EndOfLink
  one = end_in setup side tally s grants said

  abbrev other : EndOfLink
  other = record { setup = far_setup; port = far_port; said = ack ∷ rest }

  abbrev other_then : EndOfLink
  other_then = record { setup = far_setup; port = far_port; said = rest }

  module _ (t : AreInTouch one other) where
    abbrev known : ℕ
    known = max s.known next

    abbrev told : Session
    told = record s { known = known }

    abbrev Before : ℕ → Option Label → Type 0
    Before k o = Stands setup.timers k (between one other k) o

    abbrev Behind : ℕ → Option Label → Type 0
    Behind k o = Stands setup.timers k (record (between one other k) { back = rest; known = known }) o

    settled : (k : ℕ) (o : Option Label) → ((held : Label) (last : ℕ) → o ≡ Some held → held.state ≡ Recalled last true → known ≤ last) → Before k o → Behind k o
    settled k o = is_settled setup.timers k (at grant_label k far_port.grants) said ack rest (expected_of far_port) s.known side.own far_port.adjacency.own setup s.number t.there.numbers t.there.known
        next (λ most h. h) (λ is. is) t.there.named.0 o

    abbrev quitting : List Label → List Action → Work
    quitting labels actions = at_work (record side { silence = 0 }) tally instances (record told { labels = labels }) grants actions

    -- *So far*, while these numbers are left
    pub record Quitting (numbers : List ℕ) (w : Work) : Type 0 where
      pub labels : List Label
      pub actions : List Action
      pub is : w ≡ quitting labels actions
      pub may : Every (MayDo setup) actions
      pub silent : told_by actions ≡ []
      pub apart : InOrder (λ (a b : Label). label_number a < label_number b) labels
      pub ranges : Every (IsInRanges far_setup (Some s)) labels
      pub stand : (k : ℕ) → (IsIn k numbers × Before k (at label_number k labels)) ⊎ Behind k (at label_number k labels)

    module _ (n : ℕ) (numbers : List ℕ) (w : Work) (q : Quitting (n ∷ numbers) w) where
      abbrev now : Work
      now = quitting q.labels q.actions

      -- it isn't quit
      keeps : ((held : Label) (last : ℕ) → at label_number n q.labels ≡ Some held → held.state ≡ Recalled last true → known ≤ last) → Quitting numbers now
      keeps short = record { labels = q.labels; actions = q.actions; is = refl; may = q.may; silent = q.silent; apart = q.apart; ranges = q.ranges; stand = λ k. by k (q.stand k) }
        where
          by : (k : ℕ) → (IsIn k (n ∷ numbers) × Before k (at label_number k q.labels)) ⊎ Behind k (at label_number k q.labels) → (IsIn k numbers × Before k (at label_number k q.labels)) ⊎ Behind k (at label_number k q.labels)
          by k (inr behind) = inr behind
          by k (inl (inr later, before)) = inl (later, before)
          by k (inl (inl same, before)) = inr (settled k (at label_number k q.labels) (λ held last found. short held last (ap (λ m. at label_number m q.labels) same ∙ found)) before)

      -- it is
      module _ (label : Label) (found : at label_number n q.labels ≡ Some label) (last : ℕ) (acknowledged : label.state ≡ Recalled last true) (passed : last < known) where
        abbrev wired : Label
        wired = record label { state = Wired }

        abbrev labels_then : List Label
        labels_then = put label_number wired q.labels

        same : label.number ≡ n
        same = at_key label_number n q.labels label found

        held : at label_number label.number q.labels ≡ Some label
        held = ap (λ m. at label_number m q.labels) same ∙ found

        its_ranges : IsInRanges far_setup (Some s) label
        its_ranges = at_every label_number (IsInRanges far_setup (Some s)) label.number q.labels label q.ranges held

        its_own : Behind label.number (at label_number label.number labels_then)
        its_own = subst (Behind label.number) (sym (at_put_same label_number wired q.labels label held)) (by (q.stand label.number))
          where
            returning : (b : Between) → Stands setup.timers label.number b (at label_number label.number q.labels) → IsReturning label.number label.flow last true b
            returning b stands = subst (IsInState setup.timers label.number label.flow label.ticks b) acknowledged (subst (Stands setup.timers label.number b) held stands)

            by : (IsIn label.number (n ∷ numbers) × Before label.number (at label_number label.number q.labels)) ⊎ Behind label.number (at label_number label.number q.labels)
                → IsGone label.number (record (between one other label.number) { back = rest; known = known })
            by (inl before) = is_passed setup.timers label.number (at grant_label label.number far_port.grants) said ack rest (expected_of far_port) s.known side.own far_port.adjacency.own setup s.number t.there.numbers t.there.known
                next (λ most h. h) (λ is. is) t.there.named.0 label.flow last passed (returning (between one other label.number) before.1)
            by (inr behind) = absurd (not_both (unpassed label.number label.flow last (record (between one other label.number) { back = rest; known = known })
                (returning (record (between one other label.number) { back = rest; known = known }) behind)))
              where
                not_both : known ≤ last → ⊥
                not_both most = omega (arith, most, passed)

        others : (k : ℕ) → label.number ≢ k → (IsIn k (n ∷ numbers) × Before k (at label_number k q.labels)) ⊎ Behind k (at label_number k q.labels)
            → (IsIn k numbers × Before k (at label_number k labels_then)) ⊎ Behind k (at label_number k labels_then)
        others k differs (inr behind) = inr (subst (Behind k) (sym (at_put_other label_number wired k q.labels differs)) behind)
        others k differs (inl (inl is, before)) = absurd (differs (same ∙ is))
        others k differs (inl (inr later, before)) = inl (later, subst (Before k) (sym (at_put_other label_number wired k q.labels differs)) before)

        quits_so : (actions : List Action) → Every (MayDo setup) actions → told_by actions ≡ [] → Quitting numbers (quitting labels_then actions)
        quits_so actions may silent = record {
          labels = labels_then;
          actions = actions;
          is = refl;
          may = may;
          silent = silent;
          apart = put_order label_number (λ a b. a < b) wired q.labels q.apart;
          ranges = put_every label_number (IsInRanges far_setup (Some s)) wired q.labels (record { in_range = its_ranges.in_range; inside = its_ranges.inside }) q.ranges;
          stand = λ k. by_eq label.number k (λ is t. inr (subst (λ m. Behind m (at label_number m labels_then)) is its_own)) (λ differs t. others k differs (q.stand k));
        }

        abbrev cut : List Action
        cut = q.actions ++ CutChain label.number ∷ []

        may_cut : Every (MayDo setup) cut
        may_cut = every_more (MayDo setup) q.actions (CutChain label.number) q.may (cuts label.number)

        cut_silent : told_by cut ≡ []
        cut_silent = told_last q.actions (CutChain label.number) refl q.silent

        quits_it : Quitting numbers (quits_label setup desk now label)
        quits_it = unwired_either setup desk (Quitting numbers) (quitting labels_then (q.actions ++ CutChain label.number ∷ [])) label.number
            (λ in_place. quits_so (cut ++ Ask (DeleteTree (label_end setup.port label.number)) in_place ∷ [])
            (every_more (MayDo setup) cut (Ask (DeleteTree (label_end setup.port label.number)) in_place) may_cut (deletes label.number in_place))
            (told_last cut (Ask (DeleteTree (label_end setup.port label.number)) in_place) refl cut_silent))
            (quits_so cut may_cut cut_silent)

      one_quits : Quitting numbers (quits setup desk w n)
      one_quits = subst (λ (v : Work). Quitting numbers (quits setup desk v n)) (sym q.is) (by (at label_number n q.labels) refl)
        where
          by : (o : Option Label) → at label_number n q.labels ≡ o → Quitting numbers (quits_found setup desk now o)
          by None none = keeps (λ held last found. absurd (cc (sym none ∙ found)))
          by (Some label) found = by_state label.state refl
            where
              other_state : (held : Label) → at label_number n q.labels ≡ Some held → held ≡ label
              other_state held is = one_label held label (sym is ∙ found)

              not_so : (state : LabelState) → label.state ≡ state → ((last : ℕ) → state ≡ Recalled last true → ⊥) → Quitting numbers now
              not_so state is differs = keeps (λ held last there so. absurd (differs last (sym is ∙ (ap (λ (l : Label). l.state) (sym (other_state held there)) ∙ so))))

              one_last : (m k : ℕ) → Recalled m true ≡ Recalled k true → m ≡ k
              one_last m k e = cc

              by_state : (state : LabelState) → label.state ≡ state → Quitting numbers (quits_in setup desk now label state)
              by_state Wiring is = not_so Wiring is (λ last e. absurd (cc e))
              by_state Offered is = not_so Offered is (λ last e. absurd (cc e))
              by_state Wired is = not_so Wired is (λ last e. absurd (cc e))
              by_state (Recalled last false) is = not_so (Recalled last false) is (λ other e. absurd (cc e))
              by_state (Recalled last true) is = on_each (Quitting numbers) (nat_lt last known) (quits_label setup desk now label) now
                  (λ passed. quits_it label found last is (below last known passed))
                  (λ not. keeps (λ held other there so. subst (λ m. known ≤ m)
                  (one_last last other (sym is ∙ (ap (λ (l : Label). l.state) (sym (other_state held there)) ∙ so))) (above last known not)))

    all_quit : (numbers : List ℕ) (w : Work) → Quitting numbers w → Quitting [] (fold (quits setup desk) w numbers)
    all_quit [] w q = q
    all_quit (n ∷ numbers) w q = all_quit numbers (quits setup desk w n) (one_quits n numbers w q)

    at_first : Quitting (map label_number s.labels) (quitting s.labels [])
    at_first = record { labels = s.labels; actions = []; is = refl; may = tt; silent = refl; apart = t.one_end.labels_apart; ranges = t.there.ranges; stand = λ k. by k (at label_number k s.labels) refl }
      where
        by : (k : ℕ) (o : Option Label) → at label_number k s.labels ≡ o → (IsIn k (map label_number s.labels) × Before k (at label_number k s.labels)) ⊎ Behind k (at label_number k s.labels)
        by k None none = inr (subst (Behind k) (sym none) (settled k None (λ held last found. absurd (cc found)) (subst (Before k) none (t.there.labels k))))
        by k (Some label) found = inl (is_in k s.labels label found, t.there.labels k)

    -- *It is heard*, with this on its way behind it
    module _ (leads : LeadFrom far_port.adjacency.own side.own far_setup s.expected (number_of far_port) rest) where
      after : (w : Work) → Quitting [] w → TouchOn one other_then w
      after w q = subst (TouchOn one other_then) (sym q.is)
          (on_hearing_silent setup side tally s grants said other t (record side { silence = 0 }) tally instances (record told { labels = q.labels }) grants q.actions rest q.may q.silent
          (touches setup side tally s grants said other t (record side { silence = 0 }) tally (record told { labels = q.labels }) grants said rest (still_met setup side tally s grants said other t) q.apart t.one_end.grants_apart
          (record {
            numbers = t.there.numbers;
            named = t.there.named.1;
            known = most s.known next (expected_of far_port) t.there.known t.there.named.0;
            ranges = every_map (IsInRanges far_setup (Some s)) (IsInRanges far_setup (Some (record told { labels = q.labels }))) q.labels (λ label r. record { in_range = r.in_range; inside = r.inside }) q.ranges;
            labels = λ k. behind k (q.stand k);
          })
          (record {
            numbers = leads;
            named = t.back.named;
            known = t.back.known;
            ranges = t.back.ranges;
            labels = λ k. stands_on far_setup.timers k (at grant_label k grants) (known_of far_port) (ack ∷ rest) rest said said s.expected s.expected (there_heard k rest ack tt) (back_same k said) (whole s.expected) (label_at far_port k) (t.back.labels k);
          })))
        where
          whole : (m : ℕ) → m ≤ m
          whole m = omega arith

          most : (a b c : ℕ) → a ≤ c → b ≤ c → max a b ≤ c
          most a b c low high = omega (arith, low, high)

          behind : (k : ℕ) → (IsIn k [] × Before k (at label_number k q.labels)) ⊎ Behind k (at label_number k q.labels) → Behind k (at label_number k q.labels)
          behind k (inl none) = absurd none.0
          behind k (inr is) = is

      pub ack_heard : TouchOn one other_then (hearing desk instances far_port.adjacency.own.address one ack)
      ack_heard = subst (TouchOn one other_then) (sym (hello_learns setup desk side tally instances grants far_port.adjacency t.met s next))
          (after (fold (quits setup desk) (quitting s.labels []) (map label_number s.labels)) (all_quit (map label_number s.labels) (quitting s.labels []) at_first))
