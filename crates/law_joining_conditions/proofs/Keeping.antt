-- a rule of a port keeps which of its grants are lent, and to which inputs, in their order

use Rattle.std.proofs.Common.{◌≡◌, ◌≢◌, ℕ, Bool, true, false, List, [], ◌∷◌, ◌++◌, Option, None, Some, refl, sym, ◌∙◌, ap, if◌then◌else◌, map}
use Rattle.std.specs.Prelude.{◌||◌, nat_eq}
use Rattle.std.specs.List.{filter_map, cons_option}
use Rattle.std.specs.Option.{option_map, option_map_or}
use Rattle.controller_joining.specs.world_model.Words.{PortNo, End, Peer, number_of_channel, Said, Answer, Quiet, Send, Open, hello_of, ifmp_answer, AddBranch, DeleteTree, Bind, Free, Opened, at, put, without, entered, key_le, Desk, on_input, Action, Say, Ask, Note, CutChain, TakeBack, Setup, label_end, control_end, Label, Wiring, Offered, Wired, label_number, Grant, Idle, ByController, grant_label, Session, Work, halts, with_session, with_label, with_new_label, without_label, with_grants, desk_after, has_room, is_spent, first_session, accepts, Linked, linked_at, begins, Rule, join_to}
use Rattle.controller_joining.specs.world_model.adjacency_table.declared.message.Answer.TheVariants.{Reset}
use Rattle.controller_joining.specs.world_model.ifmp_wire.declared.message.Message.TheVariants.{Adjacency}
use Rattle.controller_joining.specs.world_model.link_model.declared.record.Record.TheVariants.{Join as JoinRecord}
use Rattle.law_controller_conditions.specs.ordered_lists.Ordered.{Every, InOrder}
use Rattle.controller_joining.specs.world_model.port_model.declared.action.Action.TheVariants as actions
use Rattle.controller_joining.specs.world_model.port_model.Grants as grants
use Rattle.controller_joining.specs.world_model.port_model.Port.{with_action}
use Rattle.controller_joining.specs.world_model.port_model.Adjacency.{answers}
use Rattle.law_controller_conditions.specs.law_port_facts.Port.{setup_port, IsWork}
use Rattle.law_controller_conditions.proofs.law_port_facts.Keyed.{on_both, by_eq, at_key}
use Rattle.law_controller_conditions.proofs.law_port_facts.Steps.{Step, Goes, greeting, telling, closing, noting, turning, heard, minding, relabelling, wiring, binding, quitting, unwiring, freeing, accepting, granting, regranting, starting, ending, taking_back, goes_keeps}
use Rattle.law_controller_conditions.proofs.law_port_facts.Kept.{step_kept}
use Rattle.controller_joining.specs.world_model.Controller.{Acted}
use Rattle.controller_joining.specs.world_model.Joins.{Join}
use Rattle.law_controller_conditions.proofs.law_controller_facts.Moves.{found_setup, found_at_own, begun}
use Rattle.law_controller_conditions.proofs.law_controller.Releasing.{tells_parts}
use Rattle.law_controller_conditions.proofs.Ready.{Ready, ready_ports}
use Rattle.controller_joining.specs.controller_joins.Joined.{joined_of}
use Rattle.controller_joining.specs.controller_joins.declared.places.Joined.{Joined}
use Rattle.controller_joining.specs.Conditions.{KeepsJoins}

-- *Lists*: what a list gives of the elements with a key
module _ {A B : Type 0} (key : A → ℕ) (f : A → Option B) where
  put_gives : (y : A) (xs : List A) (x : A) → at key (key y) xs ≡ Some x → f y ≡ f x → filter_map f (put key y xs) ≡ filter_map f xs
  put_gives y [] x found same = refl
  put_gives y (z ∷ zs) x found same = by_test (nat_eq (key z) (key y)) found (λ later. put_gives y zs x later same)
    where
      by_test : (b : Bool) → (if b then Some z else at key (key y) zs) ≡ Some x → (at key (key y) zs ≡ Some x → filter_map f (put key y zs) ≡ filter_map f zs)
          → filter_map f (if b then y ∷ zs else z ∷ put key y zs) ≡ filter_map f (z ∷ zs)
      by_test true e later = (let is : z ≡ x = cc in ap (λ o. cons_option o (filter_map f zs)) (same ∙ ap f (sym is)))
      by_test false e later = ap (cons_option (f z)) (later e)

  gone_gives : (k : ℕ) (xs : List A) → Every (λ x. key x ≢ k) xs → filter_map f (without key k xs) ≡ filter_map f xs
  gone_gives k [] all = refl
  gone_gives k (x ∷ xs) all = by_eq (key x) k (λ is t. absurd (all.0 is))
      (λ other t. ap (λ (b : Bool). filter_map f (if b then without key k xs else x ∷ without key k xs)) t ∙ ap (cons_option (f x)) (gone_gives k xs all.1))

  apart_key : (x : A) (k : ℕ) (ys : List A) → key x ≡ k → Every (λ y. key x ≢ key y) ys → Every (λ y. key y ≢ k) ys
  apart_key x k [] same h = tt
  apart_key x k (y ∷ ys) same h = ((λ e. h.0 (same ∙ sym e)), apart_key x k ys same h.1)

  without_gives : (k : ℕ) (xs : List A) (x : A) → InOrder (λ a b. key a ≢ key b) xs → at key k xs ≡ Some x → f x ≡ None → filter_map f (without key k xs) ≡ filter_map f xs
  without_gives k [] x apart found none = refl
  without_gives k (z ∷ zs) x apart found none = by_eq (key z) k
      (λ is t. (let same : Some z ≡ Some x = sym (ap (λ (b : Bool). if b then Some z else at key k zs) t) ∙ found in
      ap (λ (b : Bool). filter_map f (if b then without key k zs else z ∷ without key k zs)) t ∙ gone_gives k zs (apart_key z k zs is apart.0) ∙ ap (λ o. cons_option o (filter_map f zs)) (sym (first z x same ∙ none))))
      (λ other t. ap (λ (b : Bool). filter_map f (if b then without key k zs else z ∷ without key k zs)) t
      ∙ ap (cons_option (f z)) (without_gives k zs x apart.1 (sym (ap (λ (b : Bool). if b then Some z else at key k zs) t) ∙ found) none))
    where
      first : (a b : A) → Some a ≡ Some b → f a ≡ f b
      first a b e = (let is : a ≡ b = cc in ap f is)

  more_gives : (xs : List A) (y : A) → f y ≡ None → filter_map f (xs ++ y ∷ []) ≡ filter_map f xs
  more_gives [] y none = ap (λ o. cons_option o []) none
  more_gives (x ∷ xs) y none = ap (cons_option (f x)) (more_gives xs y none)

-- *A join of a grant*, by its input, its port and its label
abbrev one_joined : PortNo → Grant → Option Joined
one_joined port grant = option_map (λ input. record { input = input; port = port; label = grant.label }) (grants.lent_input grant.state)

joined_one : (port : PortNo) (grant : Grant) (js : List Join) → map joined_of (cons_option (join_to port grant) js) ≡ cons_option (one_joined port grant) (map joined_of js)
joined_one port grant js = by_input (grants.lent_input grant.state)
  where
    by_input : (o : Option End) → map joined_of (cons_option (option_map (λ input. record { input = input; port = port; grant = grant }) o) js)
        ≡ cons_option (option_map (λ input. record { input = input; port = port; label = grant.label }) o) (map joined_of js)
    by_input None = refl
    by_input (Some input) = refl

joined_grants : (port : PortNo) (gs : List Grant) → map joined_of (filter_map (join_to port) gs) ≡ filter_map (one_joined port) gs
joined_grants port [] = refl
joined_grants port (grant ∷ gs) = joined_one port grant (filter_map (join_to port) gs) ∙ ap (cons_option (one_joined port grant)) (joined_grants port gs)

-- *Each step of a port*
module _ (port : PortNo) (list : List Joined) where
  abbrev Gives : Work → Type 0
  Gives w = filter_map (one_joined port) w.port.grants ≡ list

  acts_gives : (w : Work) (action : Action) → Gives w → Gives (with_action w action)
  acts_gives w action h = on_both Gives w.halted w (record w { actions = w.actions ++ action ∷ [] }) h h

  halts_gives : (w : Work) → Gives w → Gives (halts w)
  halts_gives w h = acts_gives w actions.Reset h

  session_gives : (w : Work) (change : Session → Session) → Gives w → Gives (with_session w change)
  session_gives w change h = on_both Gives w.halted w (record w { port = record w.port { session = option_map change w.port.session } }) h h

  grants_give : (w : Work) (gs : List Grant) → filter_map (one_joined port) gs ≡ filter_map (one_joined port) w.port.grants → Gives w → Gives (with_grants w gs)
  grants_give w gs same h = on_both Gives w.halted w (record w { port = record w.port { grants = gs } }) h (same ∙ h)

  answers_give : (setup : Setup) (w : Work) (next : ℕ) (answer : Answer (Said Peer) Peer) → Gives w → Gives (answers setup w (ifmp_answer next answer))
  answers_give setup w next Quiet h = h
  answers_give setup w next (Send message) h = acts_gives w (Say (Adjacency (hello_of next message))) h
  answers_give setup w next (Open None own) h = acts_gives (record w { port = record w.port { session = Some (first_session setup) } }) (Note (Opened setup.node setup.port)) h
  answers_give setup w next (Open (Some message) own) h =
      let said : Work = with_action w (Say (Adjacency (hello_of next message))) in
      acts_gives (record said { port = record said.port { session = Some (first_session setup) } }) (Note (Opened setup.node setup.port)) (acts_gives w (Say (Adjacency (hello_of next message))) h)
  answers_give setup w next Reset h = halts_gives w h

  put_same : (w : Work) (before after : Grant) → at grant_label after.label w.port.grants ≡ Some before → grants.lent_input after.state ≡ grants.lent_input before.state → Gives w → Gives (with_grants w (put grant_label after w.port.grants))
  put_same w before after found same h = grants_give w (put grant_label after w.port.grants) (put_gives grant_label (one_joined port) after w.port.grants before found
      (ap (option_map (λ input. record { input = input; port = port; label = after.label })) same
      ∙ ap (λ (n : ℕ). option_map (λ input. record { input = input; port = port; label = n }) (grants.lent_input before.state)) (sym (at_key grant_label after.label w.port.grants before found)))) h

  none_joined : (grant : Grant) → grants.lent_input grant.state ≡ None → one_joined port grant ≡ None
  none_joined grant none = ap (option_map (λ input. record { input = input; port = port; label = grant.label })) none

  module _ (setups : List Setup) (setup : Setup) (linked : at setup_port setup.port.0 setups ≡ Some setup) (desk : Desk) where
    step_gives : (v w : Work) → Step setup desk v w → IsWork setups setup v → Gives v → Gives w
    step_gives v w (greeting u hello) k h = acts_gives u (Say (Adjacency hello)) h
    step_gives v w (telling u message told) k h = ap (filter_map (one_joined port)) (tells_parts setups u message).0 ∙ h
    step_gives v w (closing u) k h = on_both Gives (is_spent u.port.session) (halts u) u (halts_gives u h) h
    step_gives v w (noting u input output) k h = acts_gives u (Note (JoinRecord setup.node setup.port (number_of_channel input.channel) output.port (number_of_channel output.channel))) h
    step_gives v w (turning u step live turn) k h = answers_give setup (record u { port = record u.port { adjacency = step.side } }) (option_map_or (λ (s : Session). s.expected) u.port.session 1) step.answer h
    step_gives v w (heard u) k h = h
    step_gives v w (minding u change keeps) k h = session_gives u change h
    step_gives v w (relabelling u before after found keeps) k h = session_gives u (λ s. record s { labels = put label_number after s.labels }) h
    step_gives v w (wiring u s flow number session spare inside room alive) k h =
        let label : Label = record { number = number; state = Wiring; flow = flow; idle = 0; ticks = 0; join = None } in
        acts_gives (with_new_label u label) (Ask (AddBranch (label_end setup.port number) (control_end setup.port number)) false)
        (session_gives u (λ s. record s { labels = entered (key_le label_number) label s.labels }) h)
    step_gives v w (binding u label found is) k h = acts_gives (with_label u (record label { state = Offered })) (Note (Bind setup.node setup.port label.number label.flow))
        (session_gives u (λ s. record s { labels = put label_number (record label { state = Offered }) s.labels }) h)
    step_gives v w (quitting u label last found is) k h = acts_gives (with_label u (record label { state = Wired })) (CutChain label.number) (session_gives u (λ s. record s { labels = put label_number (record label { state = Wired }) s.labels }) h)
    step_gives v w (unwiring u number label found) k h =
        let input : End = label_end setup.port number in
        on_both Gives (on_input (desk_after desk u) input || has_room desk u) (with_action u (Ask (DeleteTree input) (on_input (desk_after desk u) input))) u
        (acts_gives u (Ask (DeleteTree input) (on_input (desk_after desk u) input)) h) h
    step_gives v w (freeing u label found is frees) k h = acts_gives (without_label u label.number) (Note (Free setup.node setup.port label.number)) (session_gives u (λ s. record s { labels = without label_number label.number s.labels }) h)
    step_gives v w (accepting u) k h = h
    step_gives v w (granting u s label flow lifetime session inside none few lives room alive) k h =
        let grant : Grant = record { label = label; flow = flow; lifetime = lifetime; state = Idle } in
        acts_gives (with_grants (accepts u) (u.port.grants ++ grant ∷ [])) (Ask (AddBranch (control_end setup.port label) (label_end setup.port label)) false)
        (grants_give (accepts u) (u.port.grants ++ grant ∷ []) (more_gives grant_label (one_joined port) u.port.grants grant refl) h)
    step_gives v w (regranting u before after found keeps owes) k h = put_same u before after found keeps.input h
    step_gives v w (starting u grant found is) k h = put_same u grant (record grant { state = ByController }) found (sym (ap grants.lent_input is)) h
    step_gives v w (ending u grant found none) k h = grants_give u (without grant_label grant.label u.port.grants)
        (without_gives grant_label (one_joined port) grant.label u.port.grants grant k.port.apart found (none_joined grant none)) h
    step_gives v w (taking_back u input output joined) k h = acts_gives u (TakeBack input output) h

    record Giving (w : Work) : Type 0 where
      kept : IsWork setups setup w
      gives : Gives w

    goes_give : (v w : Work) → Goes setup desk v w → IsWork setups setup v → Gives v → Gives w
    goes_give v w goes k h = (let all : Giving w = goes_keeps setup desk Giving (λ x y step p. record { kept = step_kept setups setup linked desk x y step p.kept; gives = step_gives x y step p.kept p.gives }) goes (record { kept = k; gives = h }) in all.gives)

-- *A rule at a port*
pub keeps_joins : (setups : List Setup) (a : Acted) (port : PortNo) (rule : Rule)
    → ((linked : Linked) → linked_at a.controller port ≡ Some linked → Goes linked.setup a.controller.desk (begins a linked) (rule linked.setup a.controller.desk (begins a linked)))
    → Ready setups a → KeepsJoins a port rule
keeps_joins setups a port rule goes r linked found =
    let w : Work = rule linked.setup a.controller.desk (begins a linked) in
    joined_grants linked.setup.port w.port.grants
    ∙ goes_give linked.setup.port (filter_map (one_joined linked.setup.port) linked.port.grants) setups linked.setup
    (found_setup setups a linked linked.setup.port (ready_ports setups a r) (found_at_own setups a linked port found)) a.controller.desk (begins a linked) w (goes linked found) (begun setups a linked port (ready_ports setups a r) found) refl
    ∙ sym (joined_grants linked.setup.port linked.port.grants)
