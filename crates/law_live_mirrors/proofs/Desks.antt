-- what stands at a desk, and what is on its way, as requests are asked, sent again and answered

use Rattle.std.proofs.Common.{◌≡◌, ℕ, Bool, true, false, true≢false, not, List, [], ◌∷◌, ◌++◌, append-nil, Option, None, Some, refl, sym, ◌∙◌, ap, subst, filter, inl, inr, arith, if◌then◌else◌}
use Rattle.std.specs.Prelude.{◌==◌, ◌&&◌, find}
use Rattle.std.specs.Option.{option_map_or, option_and_then}
use Rattle.std.proofs.lemmas.Bool.Decides.{nat_tests}
use Rattle.world_model.specs.Words.{End, Branches, Request, AddBranch, MoveBranch, DeleteTree, VerifyTree, PortManagement, withdraws, at, label_number_of, number_of_channel, Desk, Standing, without_request, label_number, label_at, Grant, grant_on, Session, Linked, port_key}
use Rattle.world_model.specs.crossbar_model.Crossbar.{output_of}
use Rattle.world_model.specs.gsmp_wire.declared.request.Request.TheVariants.{DeleteAll, AllPorts}
use Rattle.world_model.specs.port_model.Desk.{asked}
use Rattle.law_port_facts.specs.ordered_lists.Ordered.{Every}
use Rattle.law_port_facts.proofs.ordered_lists.Every.{every_map}
use Rattle.law_port_facts.specs.Port.{IsShut}
use Rattle.law_port_facts.proofs.Keyed.{at_every}
use Rattle.law_input_steps.specs.Asking.{IsAsked, concerns, NoDeleteAll}
use Rattle.law_input_steps.proofs.Lists.{filter_within, filter_none, filter_front, filter_skips, filter_cut}
use Rattle.law_input_steps.proofs.Ends.{own_withdrawn, own_stays}
use Rattle.law_live_mirrors.specs.Mirrors.{leads_to, MayFollow, LeadOn, label_in, led_by, is_led_out, grant_in, other_end, IsHeld, standing_on, IsBelievedBy, IsBelieved, Mirrors}
use Rattle.law_live_mirrors.specs.Standing.{LeadAlike, LikePortsMirror, MayAsk, AskingKeepsMirrors, SendingAgainKeepsMirrors, StandsAlone, AnswersKeepMirrors, ShutPortsMirror, DeletesMirror}

-- *A way* leads to another end, or has one request more
lead_same : (led : Option End) (way : List Request) (Ends After : Option End → Type 0) → LeadOn led way Ends → ((x : Option End) → Ends x → After x) → LeadOn led way After
lead_same led [] Ends After h each = each led h
lead_same led (request ∷ way) Ends After h each = (h.0, lead_same (leads_to request) way Ends After h.1 each)

lead_more : (led : Option End) (way : List Request) (request : Request) (Ends After : Option End → Type 0) → LeadOn led way Ends
    → ((x : Option End) → Ends x → MayFollow request x) → After (leads_to request) → LeadOn led (way ++ request ∷ []) After
lead_more led [] request Ends After h follows ends = (follows led h, ends)
lead_more led (r ∷ way) request Ends After h follows ends = (h.0, lead_more (leads_to r) way request Ends After h.1 follows ends)

-- *The same stand*, and the ports hold alike
pub held_alike : (before after : List Linked) (input : End) (led : Option End) → LeadAlike before after input → IsHeld before input led → IsHeld after input led
held_alike before after input led alike h = record {
  label = λ is. h.label is ∙ sym (alike.label is);
  other = h.other;
  grant = λ is. h.grant (sym alike.grant ∙ is);
}

believed_alike : (before after : List Linked) (input : End) (standing : List Standing) (led : Option End) → LeadAlike before after input
    → IsBelievedBy before input standing led → IsBelievedBy after input standing led
believed_alike before after input [] led alike h = held_alike before after input led alike h
believed_alike before after input (s ∷ others) led alike h = h

pub like_ports_mirror : LikePortsMirror
like_ports_mirror before after desk branches way input alike h =
    lead_same (output_of branches input) (filter (concerns input) way) (IsBelieved before desk input) (IsBelieved after desk input) h
    (λ led is. believed_alike before after input (standing_on desk input) led alike is)

-- *Asked*
module _ (before after : List Linked) (desk : Desk) (branches : Branches) (way : List Request) (request : Request) (input : End) (shape : IsAsked request) where
  abbrev on : Standing → Bool
  on s = concerns input s.request

  abbrev keeps : Standing → Bool
  keeps s = not (withdraws request s.request)

  abbrev new : Standing
  new = record { number = desk.next; request = request }

  stands_last : concerns input request ≡ true → NoDeleteAll input desk.standing → standing_on (asked desk request) input ≡ new ∷ []
  stands_last here apart = filter_cut on (filter keeps desk.standing) (new ∷ [])
      ∙ (ap (λ (kept : List Standing). kept ++ filter on (new ∷ [])) (filter_none on keeps desk.standing (each desk.standing apart))
      ∙ filter_front on new [] here)
    where
      each : (xs : List Standing) → NoDeleteAll input xs → Every (λ (s : Standing). on s ≡ true → keeps s ≡ false) xs
      each [] h = tt
      each (x ∷ xs) h = ((λ is. ap not (own_withdrawn input request x.request here h.0 is)), each xs h.1)

  stand_still : concerns input request ≡ false → standing_on (asked desk request) input ≡ standing_on desk input
  stand_still away = filter_cut on (filter keeps desk.standing) (new ∷ [])
      ∙ (ap (λ (last : List Standing). filter on (filter keeps desk.standing) ++ last) (filter_skips on new [] away)
      ∙ (append-nil (filter on (filter keeps desk.standing))
      ∙ filter_within on keeps desk.standing (λ s is. ap not (own_stays input request s.request shape away is))))

  asking_mirrors : (concerns input request ≡ true → MayAsk before desk request input) → (concerns input request ≡ false → LeadAlike before after input)
      → Mirrors before desk branches way input → Mirrors after (asked desk request) branches (way ++ request ∷ []) input
  asking_mirrors may alike h = elim (concerns input request) as (λ t. concerns input request ≡ t → Mirrors after (asked desk request) branches (way ++ request ∷ []) input) [
    | true ↦ λ here. subst (λ (on_way : List Request). LeadOn (output_of branches input) on_way (IsBelieved after (asked desk request) input))
        (sym (filter_cut (concerns input) way (request ∷ []) ∙ ap (λ (last : List Request). filter (concerns input) way ++ last) (filter_front (concerns input) request [] here)))
        (lead_more (output_of branches input) (filter (concerns input) way) request (IsBelieved before desk input) (IsBelieved after (asked desk request) input) h (may here).follows
        (subst (λ (standing : List Standing). IsBelievedBy after input standing (leads_to request)) (sym (stands_last here (may here).apart)) refl))
    | false ↦ λ away. subst (λ (on_way : List Request). LeadOn (output_of branches input) on_way (IsBelieved after (asked desk request) input))
        (sym (filter_cut (concerns input) way (request ∷ []) ∙ (ap (λ (last : List Request). filter (concerns input) way ++ last) (filter_skips (concerns input) request [] away)
        ∙ append-nil (filter (concerns input) way))))
        (lead_same (output_of branches input) (filter (concerns input) way) (IsBelieved before desk input) (IsBelieved after (asked desk request) input) h
        (λ led is. subst (λ (standing : List Standing). IsBelievedBy after input standing led) (sym (stand_still away)) (believed_alike before after input (standing_on desk input) led (alike away) is)))
  ] refl

pub asking_keeps_mirrors : AskingKeepsMirrors
asking_keeps_mirrors before after desk branches way request input shape may alike h = asking_mirrors before after desk branches way request input shape may alike h

-- *Sent again*: it may follow on where it leads
again_follows : (request : Request) → MayFollow request (leads_to request)
again_follows (AddBranch input output) = inr refl
again_follows (MoveBranch input from to) = inr refl
again_follows (DeleteTree input) = tt
again_follows (VerifyTree input) = tt
again_follows (DeleteAll port) = tt
again_follows (PortManagement port function) = tt
again_follows AllPorts = tt

pub sending_again_keeps_mirrors : SendingAgainKeepsMirrors
sending_again_keeps_mirrors ports desk branches way s input alone h = elim (concerns input s.request) as (λ t. concerns input s.request ≡ t → Mirrors ports desk branches (way ++ s.request ∷ []) input) [
  | true ↦ λ here. subst (λ (on_way : List Request). LeadOn (output_of branches input) on_way (IsBelieved ports desk input))
      (sym (filter_cut (concerns input) way (s.request ∷ []) ∙ ap (λ (last : List Request). filter (concerns input) way ++ last) (filter_front (concerns input) s.request [] here)))
      (lead_more (output_of branches input) (filter (concerns input) way) s.request (IsBelieved ports desk input) (IsBelieved ports desk input) h
      (λ led is. subst (MayFollow s.request) (sym (subst (λ (standing : List Standing). IsBelievedBy ports input standing led) (alone here) is)) (again_follows s.request))
      (subst (λ (standing : List Standing). IsBelievedBy ports input standing (leads_to s.request)) (sym (alone here)) refl))
  | false ↦ λ away. subst (λ (on_way : List Request). LeadOn (output_of branches input) on_way (IsBelieved ports desk input))
      (sym (filter_cut (concerns input) way (s.request ∷ []) ∙ (ap (λ (last : List Request). filter (concerns input) way ++ last) (filter_skips (concerns input) s.request [] away)
      ∙ append-nil (filter (concerns input) way)))) h
] refl

-- *Answered*
filter_other : {A : Type 0} (first second : A → Bool) (xs : List A) → Every (λ x. first x ≡ true → second x ≡ true) xs → filter first (filter second xs) ≡ filter first xs
filter_other first second [] h = refl
filter_other first second (x ∷ xs) h = elim (first x) as (λ t. first x ≡ t → filter first (filter second (x ∷ xs)) ≡ (if t then x ∷ filter first xs else filter first xs)) [
  | true ↦ λ t. ap (λ (b : Bool). filter first (if b then x ∷ filter second xs else filter second xs)) (h.0 t)
      ∙ (ap (λ (b : Bool). if b then x ∷ filter first (filter second xs) else filter first (filter second xs)) t ∙ ap (λ (l : List _). x ∷ l) (filter_other first second xs h.1))
  | false ↦ λ t. elim (second x) as (λ s. filter first (if s then x ∷ filter second xs else filter second xs) ≡ filter first xs) [
    | true ↦ ap (λ (b : Bool). if b then x ∷ filter first (filter second xs) else filter first (filter second xs)) t ∙ filter_other first second xs h.1
    | false ↦ filter_other first second xs h.1
  ]
] refl

-- what is found first is kept first by a filter that it passes, where nothing else passes that
record IsKept {A : Type 0} (x : A) (xs : List A) : Type 0 where
  others : List A
  is : xs ≡ x ∷ others

kept_first : {A : Type 0} (test kept : A → Bool) (x : A) (xs : List A) → find test xs ≡ Some x → kept x ≡ true → Every (λ y. kept y ≡ true → y ≡ x) xs → IsKept x (filter kept xs)
kept_first test kept x [] e passes alone = absurd (cc e)
kept_first {A} test kept x (y ∷ xs) e passes alone = elim (kept y) as (λ t. kept y ≡ t → IsKept x (if t then y ∷ filter kept xs else filter kept xs)) [
  | true ↦ λ t. record { others = filter kept xs; is = ap (λ (z : A). z ∷ filter kept xs) (alone.0 t) }
  | false ↦ λ t. kept_first test kept x xs (behind (test y) refl t e) passes alone.1
] refl
  where
    behind : (b : Bool) → test y ≡ b → kept y ≡ false → (if b then Some y else find test xs) ≡ Some x → find test xs ≡ Some x
    behind false is away e = e
    behind true is away e = (let same : y ≡ x = cc in absurd (true≢false (sym passes ∙ (ap kept (sym same) ∙ away))))

module _ (before after : List Linked) (desk : Desk) (branches : Branches) (way : List Request) (s : Standing) (input : End) (alone : StandsAlone desk s) where
  abbrev passes : Standing → Bool
  passes other = concerns input other.request

  abbrev stays : Standing → Bool
  stays other = not (other.number == s.number)

  same_number : (a b : ℕ) → a ≡ b → not (a == b) ≡ false
  same_number a b e = grind (arith, nat_tests)

  is_number : (a b : ℕ) → (a == b) ≡ true → a ≡ b
  is_number a b e = grind (arith, nat_tests)

  stands_no_more : concerns input s.request ≡ true → standing_on (without_request desk s) input ≡ []
  stands_no_more here = filter_none passes stays desk.standing
      (every_map (λ (other : Standing). passes other ≡ true → other ≡ s) (λ (other : Standing). passes other ≡ true → stays other ≡ false) desk.standing
      (λ other only on. same_number other.number s.number (ap (λ (x : Standing). x.number) (only on))) (alone.inputs input here))

  stood_so : concerns input s.request ≡ true → IsKept s (standing_on desk input)
  stood_so here = kept_first (λ (other : Standing). other.number == s.number) passes s desk.standing alone.stands here (alone.inputs input here)

  others_stand : concerns input s.request ≡ false → standing_on (without_request desk s) input ≡ standing_on desk input
  others_stand away = filter_other passes stays desk.standing
      (every_map (λ (other : Standing). other.number ≡ s.number → other ≡ s) (λ (other : Standing). passes other ≡ true → stays other ≡ true) desk.standing each alone.number)
    where
      each : (other : Standing) → (other.number ≡ s.number → other ≡ s) → passes other ≡ true → stays other ≡ true
      each other only on = elim (other.number == s.number) as (λ t. (other.number == s.number) ≡ t → not t ≡ true) [
        | true ↦ λ t. absurd (true≢false (sym on ∙ (ap passes (only (is_number other.number s.number t)) ∙ away)))
        | false ↦ λ t. refl
      ] refl

  answer_mirrors : (concerns input s.request ≡ true → IsHeld after input (leads_to s.request)) → (concerns input s.request ≡ false → LeadAlike before after input)
      → Mirrors before desk branches way input → Mirrors after (without_request desk s) branches way input
  answer_mirrors held alike h = elim (concerns input s.request) as (λ t. concerns input s.request ≡ t → Mirrors after (without_request desk s) branches way input) [
    | true ↦ λ here. lead_same (output_of branches input) (filter (concerns input) way) (IsBelieved before desk input) (IsBelieved after (without_request desk s) input) h
        (λ led is. subst (λ (standing : List Standing). IsBelievedBy after input standing led) (sym (stands_no_more here))
        (subst (IsHeld after input) (sym (subst (λ (standing : List Standing). IsBelievedBy before input standing led) (stood_so here).is is)) (held here)))
    | false ↦ λ away. lead_same (output_of branches input) (filter (concerns input) way) (IsBelieved before desk input) (IsBelieved after (without_request desk s) input) h
        (λ led is. subst (λ (standing : List Standing). IsBelievedBy after input standing led) (sym (others_stand away)) (believed_alike before after input (standing_on desk input) led (alike away) is))
  ] refl

pub answers_keep_mirrors : AnswersKeepMirrors
answers_keep_mirrors before after desk branches way s input alone held alike h = answer_mirrors before after desk branches way s input alone held alike h

-- *It begins*
module _ (ports : List Linked) (input : End) (shut : Every (λ (linked : Linked). IsShut linked.port) ports) where
  no_label : label_in ports input ≡ None
  no_label = by (at port_key input.port.0 ports) refl
    where
      by : (o : Option Linked) → at port_key input.port.0 ports ≡ o → option_and_then (λ (linked : Linked). label_at linked.port (number_of_channel input.channel)) o ≡ None
      by None found = refl
      by (Some l) found = ap (λ (o : Option Session). at label_number (number_of_channel input.channel) (option_map_or (λ (s : Session). s.labels) o []))
          (at_every port_key (λ (linked : Linked). IsShut linked.port) input.port.0 ports l shut found).session

  no_grant : (output : End) → grant_in ports output ≡ None
  no_grant output = by (at port_key output.port.0 ports) refl
    where
      none : (number : Option ℕ) → grant_on [] number ≡ None
      none None = refl
      none (Some number) = refl

      by : (o : Option Linked) → at port_key output.port.0 ports ≡ o → option_and_then (λ (linked : Linked). grant_on linked.port.grants (label_number_of output.channel)) o ≡ None
      by None found = refl
      by (Some l) found = ap (λ (gs : List Grant). grant_on gs (label_number_of output.channel)) (at_every port_key (λ (linked : Linked). IsShut linked.port) output.port.0 ports l shut found).grants
          ∙ none (label_number_of output.channel)

  held_shut : IsHeld ports input None
  held_shut = record {
    label = λ is. sym (ap (led_by input) no_label);
    other = λ is. inl refl;
    grant = λ is. absurd (true≢false (sym is ∙ (ap (λ (o : Option Grant). (input.port.0 == 0) && option_map_or (λ (g : Grant). is_led_out g.state) o false) (no_grant (other_end input)) ∙ never (input.port.0 == 0))));
  }
    where
      never : (b : Bool) → (b && false) ≡ false
      never true = refl
      never false = refl

pub shut_ports_mirror : ShutPortsMirror
shut_ports_mirror ports desk branches input shut none nowhere =
    subst (λ (led : Option End). IsBelieved ports desk input led) (sym nowhere)
    (subst (λ (standing : List Standing). IsBelievedBy ports input (filter (λ (s : Standing). concerns input s.request) standing) None) (sym none) (held_shut ports input shut))

pub deletes_mirror : DeletesMirror
deletes_mirror ports desk branches way s input is stands alone =
    subst (λ (on_way : List Request). LeadOn (output_of branches input) on_way (IsBelieved ports desk input)) (sym (alone ∙ ap (λ (r : Request). r ∷ []) is))
    (tt, subst (λ (standing : List Standing). IsBelievedBy ports input standing None) (sym stands) (sym (ap leads_to is)))
