-- a tick of the controller that reaches the lifetimes of a port takes one tick of each

use Rattle.std.proofs.Common.{◌≡◌, ◌≢◌, ℕ, suc, ◌≤◌, Bool, true, false, List, [], ◌∷◌, ◌++◌, Option, None, Some, refl, sym, ◌∙◌, ap, subst, arith, if◌then◌else◌, inl, inr, map, fold}
use Rattle.std.specs.Prelude.{◌&&◌, ◌⊎◌, not, nat_eq, is_some}
use Rattle.std.specs.Option.{option_map_or}
use Rattle.std.proofs.lemmas.Bool.Decides.{nat_tests}
use Rattle.law_controller.specs.world_model.Words.{PortNo, Channel, Mark, Greeting, Party, Cell, Answer, Quiet, Send, Open, Said, is_estab, ticked, gsmp_answer, frame_cells, at, put, empty_desk, sent_again, Setup, control_end, Grant, GrantState, Idle, ByController, ByInput, Leaving, grant_label, is_leaving, is_by_controller, Work, left_in, left_of, Linked, port_key, linked_at, with_desk, default_channel, says_gsmp, sends_request, begins, with_work, performs, performs_in_estab, works, works_as, tries_joins, meets, sends_again, ticks_port, ticks_ports, ticks_by}
use Rattle.law_controller.specs.world_model.adjacency_table.declared.message.Answer.TheVariants.{Reset}
use Rattle.law_controller.specs.world_model.adjacency_table.Side as sides
use Rattle.law_controller.specs.world_model.gsmp_wire.Layout.{octets_of as gsmp_octets}
use Rattle.law_controller.specs.world_model.gsmp_wire.declared.message.Message.{Message}
use Rattle.law_controller.specs.world_model.gsmp_wire.declared.message.Message.TheVariants as messages
use Rattle.law_controller.specs.world_model.gsmp_wire.declared.request.Request.TheVariants.{AllPorts}
use Rattle.law_controller.specs.ordered_lists.Ordered.{Every, InOrder}
use Rattle.law_controller.proofs.ordered_lists.Every.{every_all, every_map, every_map2}
use Rattle.law_controller.proofs.ordered_lists.InOrder.{order_unmapped}
use Rattle.law_controller.specs.world_model.port_model.Port.{Port}
use Rattle.law_controller.specs.world_model.port_model.Ticks as port_ticks
use Rattle.law_controller.specs.law_port_facts.Port.{IsWork}
use Rattle.law_controller.proofs.law_port_facts.Keyed.{on_both, by_eq, at_key, at_every, each_found}
use Rattle.law_controller.proofs.law_port_facts.Hearings.{ticks_goes}
use Rattle.law_controller.proofs.law_port_facts.Kept.{goes_kept}
use Rattle.law_controller.specs.world_model.Controller.{Acted, ports_of}
use Rattle.law_controller.specs.world_model.Gsmp.{answers, steps}
use Rattle.law_controller.specs.world_model.Ticks.{ticks}
use Rattle.law_controller.specs.law_controller_facts.Sound.{IsSound, linked_setup, AreApart}
use Rattle.law_controller.proofs.law_controller_facts.Moves.{ages, found_setup, found_at_own, begun}
use Rattle.law_controller.proofs.law_controller_facts.Joining.{every_flat_map}
use Rattle.law_controller.proofs.law_controller_facts.Laws.{has_ports}
use Rattle.law_controller.proofs.law_controller_facts.Each.{steps_keeps, sends_again_keeps, ticks_port_keeps}
use Rattle.law_lifetimes.specs.Expiry.{is_reset_answer, reaches, reaches_at}
use Rattle.law_lifetimes.proofs.Grants.{IsFate, ticks_all}
use Rattle.law_lifetimes.proofs.Ages.{AtMost, ticks_left}
use Rattle.law_lifetimes.proofs.Performing.{IsKept, Fits as FitsIn, found_fits, fold_fits, sends_control_fits, sends_request_fits, node_fits, asks_fits, performs_fits, at_port_fits}
use Rattle.law_lifetimes.proofs.Joining.{K as KIn, kept as kept_in, tries_joins_fits}
use Rattle.law_lifetimes.proofs.Events.{ticks_port_fits}

-- *Lists by keys that differ*: what is said of the one that is found is said of each with its key
pub by_at : {A : Type 0} (key : A → ℕ) (k : ℕ) (P : A → Type 0) (xs : List A) → InOrder (λ a b. key a ≢ key b) xs → ((x : A) → at key k xs ≡ Some x → P x) → Every (λ x. key x ≡ k → P x) xs
by_at key k P xs apart h = every_map (λ x. at key (key x) xs ≡ Some x) (λ x. key x ≡ k → P x) xs (λ x found same. h x (subst (λ n. at key n xs ≡ Some x) same found)) (each_found key xs apart)

pub put_apart : {A : Type 0} (key : A → ℕ) (P : A → Type 0) (y : A) (xs : List A) → InOrder (λ a b. key a ≢ key b) xs → P y → ((z : A) → key z ≢ key y → P z) → Every P (put key y xs)
put_apart key P y [] apart p others = tt
put_apart {A} key P y (z ∷ xs) apart p others = elim (nat_eq (key z) (key y)) as (λ t. nat_eq (key z) (key y) ≡ t → Every P (if t then y ∷ xs else z ∷ put key y xs)) [
  | true ↦ λ t. (p, every_map (λ (x : A). key z ≢ key x) P xs (λ x other. others x (λ e. other (same t ∙ sym e))) apart.0)
  | false ↦ λ t. (others z (λ e. differ t e), put_apart key P y xs apart.1 p others)
] refl
  where
    same : nat_eq (key z) (key y) ≡ true → key z ≡ key y
    same t = grind (arith, nat_tests)

    differ : nat_eq (key z) (key y) ≡ false → key z ≡ key y → ⊥
    differ t e = grind (arith, nat_tests)

-- *What a grant has left* of its lifetime
abbrev pub Short : (port label n q : ℕ) → Grant → Type 0
Short port label n q grant = q ≡ port → grant.label ≡ label → is_leaving grant.state ≡ false → grant.lifetime ≤ n

differs : (b : Bool) → b ≡ true → b ≡ false → ⊥
differs b t f = absurd (cc (sym t ∙ f))

pub short_fate : (port label n : ℕ) → IsFate port label (Short port label n)
short_fate port label n = record {
  leaves = λ q grant state leaving h here is live. absurd (differs (is_leaving state) leaving live);
  moves = λ q grant state up h here is live. h here is up;
  shortens = λ q grant lifetime less h here is live. at_most lifetime grant.lifetime less (h here is live);
  begins = λ q new flow lifetime number other here is live. absurd (other here is);
  renews = λ q grant lifetime other h here is live. absurd (other here is);
}
  where
    at_most : (a b : ℕ) → a ≤ b → b ≤ n → a ≤ n
    at_most a b x y = omega (arith, x, y)

abbrev pub AnyQueue : List Cell → Type 0
AnyQueue queue = Unit {0}

pub any_control : (queue : List Cell) (channel : Channel) (mark : Mark) (payload : List ℕ) → channel.vci ≡ 15 → AnyQueue queue → AnyQueue (queue ++ frame_cells channel mark payload)
any_control queue channel mark payload default h = tt

module _ (port : PortNo) (label : ℕ) where
  pub any_grant : (n : ℕ) (queue : List Cell) (q : PortNo) (grant : Grant) (mark : Mark) (payload : List ℕ) → Short port.0 label n q.0 grant → is_by_controller grant.state ≡ true → AnyQueue queue → AnyQueue (queue ++ frame_cells (control_end q grant.label).channel mark payload)
  any_grant n queue q grant mark payload g used h = tt

  abbrev pub KShort : ℕ → Setup → Port → Type 0
  KShort n = KIn port.0 label (Short port.0 label n) AnyQueue (short_fate port.0 label n) any_control

  abbrev pub kept_short : (n : ℕ) → IsKept (KShort n) AnyQueue
  kept_short n = kept_in port.0 label (Short port.0 label n) AnyQueue (short_fate port.0 label n) any_control

  abbrev pub FitsShort : ℕ → Acted → Type 0
  FitsShort n a = FitsIn (KShort n) AnyQueue (kept_short n) a

  -- of another port nothing is said
  pub other_short : (n : ℕ) (x : Linked) → port_key x ≢ port.0 → KShort n x.setup x.port
  other_short n x other = every_all (Short port.0 label n x.setup.port.0) x.port.grants (λ grant here is live. absurd (other here))

  module _ (setups : List Setup) (n : ℕ) where
    pub ports_apart : (a : Acted) → IsSound setups a.controller → InOrder (λ (x : Linked) (y : Linked). port_key x ≢ port_key y) a.controller.ports
    ports_apart a s = order_unmapped linked_setup AreApart a.controller.ports (subst (InOrder AreApart) (sym s.ports.same) s.ports.apart)

    -- *Before its turn* a port has one tick more, where the tick is to reach its lifetimes
    abbrev up : Port → Bool
    up p = is_some p.session && not (is_reset_answer (ticked p.adjacency).answer)

    abbrev KTurn : Setup → Port → Type 0
    KTurn setup p = Every (Short port.0 label (if up p then suc n else n) setup.port.0) p.grants

    left_short : (q : ℕ) (grant : Grant) (state : GrantState) → Every (Short port.0 label n q) (left_in grant state)
    left_short q grant Idle = tt
    left_short q grant ByController = tt
    left_short q grant (ByInput input) = ((λ here is live. absurd (cc live)), tt)
    left_short q grant (Leaving input owed) = ((λ here is live. absurd (cc live)), tt)

    any_of : (grants : List Grant) → Every (λ (g : Grant). Unit {0}) grants
    any_of [] = tt
    any_of (g ∷ grants) = (tt, any_of grants)

    kept_turn : IsKept KTurn AnyQueue
    kept_turn = record {
      resets = λ setup w h. every_flat_map (λ (g : Grant). Unit {0}) (Short port.0 label n setup.port.0) left_of (λ grant t. left_short setup.port.0 grant grant.state) w.port.grants (any_of w.port.grants);
      restarts = λ setup w. tt;
      control = any_control;
    }

    abbrev FitsTurn : Acted → Type 0
    FitsTurn a = FitsIn KTurn AnyQueue kept_turn a

    -- *The adjacency with the switch*, and what is sent again
    says_turn : (a : Acted) (message : Message) → FitsTurn a → FitsTurn (says_gsmp a message)
    says_turn a message h = sends_control_fits KTurn AnyQueue kept_turn a default_channel (gsmp_octets message) refl h

    meets_turn : (a : Acted) → FitsTurn a → FitsTurn (meets a)
    meets_turn a h = asks_fits KTurn AnyQueue kept_turn (with_desk a empty_desk) AllPorts (record { ports = h.ports; queue = h.queue })

    answers_turn : (a : Acted) (answer : Answer Greeting Party) → FitsTurn a → FitsTurn (answers a answer)
    answers_turn a Quiet h = h
    answers_turn a (Send greeting) h = says_turn a (messages.Adjacency greeting) h
    answers_turn a (Open None own) h = meets_turn a h
    answers_turn a (Open (Some greeting) own) h = meets_turn (says_gsmp a (messages.Adjacency greeting)) (says_turn a (messages.Adjacency greeting) h)
    answers_turn a Reset h = node_fits KTurn AnyQueue kept_turn a h

    steps_turn : (a : Acted) (step : sides.Step Party) → FitsTurn a → FitsTurn (steps a step)
    steps_turn a step h = answers_turn (record a { controller = record a.controller { adjacency = step.side } }) (gsmp_answer step.answer) (record { ports = h.ports; queue = h.queue })

    again_turn : (a : Acted) → FitsTurn a → FitsTurn (sends_again a)
    again_turn a h = on_both FitsTurn (is_estab a.controller.adjacency.state) (fold sends_request a (sent_again a.controller.desk)) a
        (fold_fits KTurn AnyQueue kept_turn sends_request (sends_request_fits KTurn AnyQueue kept_turn) (sent_again a.controller.desk) a h) h

    -- *Another port's turn*
    other_turn : (a : Acted) (q : PortNo) → q.0 ≢ port.0 → FitsTurn a → FitsTurn (ticks_port a q)
    other_turn a q other h = at_port_fits KTurn AnyQueue kept_turn a q port_ticks.ticks
        (λ x found k. every_all (Short port.0 label _ x.setup.port.0) (port_ticks.ticks x.setup a.controller.desk (begins a x)).port.grants
        (λ grant here is live. absurd (other (sym (at_key port_key q.0 a.controller.ports x found) ∙ here)))) h

    -- *Its own turn*
    module _ (a : Acted) (s : IsSound setups a.controller) (x : Linked) (found : linked_at a.controller port ≡ Some x) (k : KTurn x.setup x.port) where
      abbrev pub ticked_work : Work
      ticked_work = port_ticks.ticks x.setup a.controller.desk (begins a x)

      work_kept : IsWork setups x.setup ticked_work
      work_kept = goes_kept setups x.setup (found_setup setups a x x.setup.port (has_ports setups a s) (found_at_own setups a x port found)) a.controller.desk (begins a x) ticked_work (ticks_goes x.setup a.controller.desk (begins a x) refl)
          (begun setups a x port (has_ports setups a s) found)

      here : x.setup.port.0 ≡ port.0
      here = at_key port_key port.0 a.controller.ports x found

      to_each : AtMost x.setup label n (at grant_label label ticked_work.port.grants) → KShort n x.setup ticked_work.port
      to_each h = every_map (λ (g : Grant). grant_label g ≡ label → is_leaving g.state ≡ false → g.lifetime ≤ n) (Short port.0 label n x.setup.port.0) ticked_work.port.grants (λ g each is_here is live. each is live)
          (by_at grant_label label (λ (g : Grant). is_leaving g.state ≡ false → g.lifetime ≤ n) ticked_work.port.grants work_kept.port.apart h)

      own_short : (b : Bool) → up x.port ≡ b → KShort n x.setup ticked_work.port
      own_short true is = to_each (ticks_left x.setup a.controller.desk label n (begins a x) refl (first _ _ is) (not_so _ (second _ _ is))
          (λ grant at_label live. at_every grant_label (Short port.0 label (suc n) x.setup.port.0) label x.port.grants grant
          (subst (λ b. Every (Short port.0 label (if b then suc n else n) x.setup.port.0) x.port.grants) is k) at_label here (at_key grant_label label x.port.grants grant at_label) live))
        where
          first : (a b : Bool) → (a && b) ≡ true → a ≡ true
          first true b e = refl
          first false b e = absurd (cc e)

          second : (a b : Bool) → (a && b) ≡ true → b ≡ true
          second true b e = e
          second false b e = absurd (cc e)

          not_so : (a : Bool) → not a ≡ true → a ≡ false
          not_so true e = absurd (cc e)
          not_so false e = refl
      own_short false is = ticks_all port.0 label (Short port.0 label n) (short_fate port.0 label n) x.setup.port.0 x.setup a.controller.desk (begins a x)
          (subst (λ b. Every (Short port.0 label (if b then suc n else n) x.setup.port.0) x.port.grants) is k)

      placed : FitsShort n (with_work a x ticked_work)
      placed = record {
        ports = put_apart port_key (λ (y : Linked). KShort n y.setup y.port) (record x { port = ticked_work.port }) a.controller.ports (ports_apart a s) (own_short (up x.port) refl)
            (λ z other. other_short n z (λ e. other (e ∙ sym here)));
        queue = tt;
      }

      pub works_turn : FitsShort n (works_as a x ticked_work)
      works_turn = fold_fits (KShort n) AnyQueue (kept_short n) (performs_in_estab x.setup.port)
          (λ b action l. on_both (FitsShort n) (is_estab b.controller.adjacency.state) (performs x.setup.port b action) b (performs_fits (KShort n) AnyQueue (kept_short n) x.setup.port b action l) l) ticked_work.actions (with_work a x ticked_work) placed

    own_turn : (a : Acted) (q : PortNo) → IsSound setups a.controller → q.0 ≡ port.0 → FitsTurn a → FitsShort n (ticks_port a q)
    own_turn a q s same h = by_found (linked_at a.controller q) refl
      where
        at_own : (o : Option Linked) → linked_at a.controller q ≡ o → linked_at a.controller port ≡ o
        at_own o e = subst (λ m. at port_key m a.controller.ports ≡ o) same e

        by_found : (o : Option Linked) → linked_at a.controller q ≡ o → FitsShort n (works a port_ticks.ticks o)
        by_found None found = record {
          ports = every_map (λ (x : Linked). port_key x ≡ port.0 → KShort n x.setup x.port) (λ (x : Linked). KShort n x.setup x.port) a.controller.ports
              (λ x each. by_eq (port_key x) port.0 (λ e t. each e) (λ other t. other_short n x other))
              (by_at port_key port.0 (λ (x : Linked). KShort n x.setup x.port) a.controller.ports (ports_apart a s) (λ x there. absurd (cc (sym (at_own None found) ∙ there))));
          queue = tt;
        }
        by_found (Some x) found = works_turn a s x (at_own (Some x) found) (found_fits KTurn AnyQueue kept_turn a q x found h)

    -- *Each port's turn*
    abbrev InPorts : List PortNo → Type 0
    InPorts [] = ⊥
    InPorts (q ∷ qs) = (q.0 ≡ port.0) ⊎ InPorts qs

    past_each : (qs : List PortNo) (a : Acted) → FitsShort n a → FitsShort n (fold ticks_port a qs)
    past_each qs a h = fold_fits (KShort n) AnyQueue (kept_short n) ticks_port
        (λ b q k. ticks_port_fits port label (Short port.0 label n) AnyQueue (short_fate port.0 label n) any_control (any_grant n) b q k) qs a h

    each_turn : (qs : List PortNo) (a : Acted) → IsSound setups a.controller → InPorts qs → FitsTurn a → FitsShort n (fold ticks_port a qs)
    each_turn [] a s among h = absurd among
    each_turn (q ∷ qs) a s among h = by_eq q.0 port.0 (λ same t. past_each qs (ticks_port a q) (own_turn a q s same h))
        (λ other t. each_turn qs (ticks_port a q) (ticks_port_keeps setups a s q).sound (later other among) (other_turn a q other h))
      where
        later : q.0 ≢ port.0 → InPorts (q ∷ qs) → InPorts qs
        later other (inl same) = absurd (other same)
        later other (inr rest) = rest

    in_ports : (ports : List Linked) (x : Linked) → at port_key port.0 ports ≡ Some x → InPorts (map (λ (y : Linked). y.setup.port) ports)
    in_ports [] x e = absurd (cc e)
    in_ports (y ∷ ports) x e = by_eq (port_key y) port.0 (λ same t. inl same) (λ other t. inr (in_ports ports x (sym (ap (λ b. if b then Some y else at port_key port.0 ports) t) ∙ e)))

    ports_turn : (a : Acted) → IsSound setups a.controller → FitsTurn a → FitsShort n (ticks_ports a)
    ports_turn a s h = by_found (linked_at a.controller port) refl
      where
        by_found : (o : Option Linked) → linked_at a.controller port ≡ o → FitsShort n (ticks_ports a)
        by_found None found = past_each (ports_of a.controller) a (record {
          ports = every_map (λ (x : Linked). port_key x ≡ port.0 → KShort n x.setup x.port) (λ (x : Linked). KShort n x.setup x.port) a.controller.ports
              (λ x each. by_eq (port_key x) port.0 (λ e t. each e) (λ other t. other_short n x other))
              (by_at port_key port.0 (λ (x : Linked). KShort n x.setup x.port) a.controller.ports (ports_apart a s) (λ x there. absurd (cc (sym found ∙ there))));
          queue = tt;
        })
        by_found (Some x) found = each_turn (ports_of a.controller) a s (in_ports a.controller.ports x found) h

    -- *The tick*
    at_start : (a : Acted) → IsSound setups a.controller → (x : Linked) → linked_at a.controller port ≡ Some x → up x.port ≡ true → FitsShort (suc n) a → FitsTurn a
    at_start a s x found is h = record {
      ports = every_map2 (λ (y : Linked). port_key y ≡ port.0 → up y.port ≡ true) (λ (y : Linked). KShort (suc n) y.setup y.port) (λ (y : Linked). KTurn y.setup y.port) a.controller.ports
          (λ y each k. by_eq (port_key y) port.0
          (λ e t. subst (λ b. Every (Short port.0 label (if b then suc n else n) y.setup.port.0) y.port.grants) (sym (each e)) k)
          (λ other t. every_all (Short port.0 label (if up y.port then suc n else n) y.setup.port.0) y.port.grants (λ grant here is live. absurd (other here))))
          (by_at port_key port.0 (λ (y : Linked). up y.port ≡ true) a.controller.ports (ports_apart a s)
          (λ y there. (let both : Some x ≡ Some y = sym found ∙ there in let same : x ≡ y = cc in subst (λ (z : Linked). up z.port ≡ true) same is))) h.ports;
      queue = tt;
    }

    ticks_on : (a : Acted) → IsSound setups a.controller → FitsTurn a → FitsShort n (tries_joins (ticks_ports (sends_again (steps a (ticked a.controller.adjacency)))))
    ticks_on a s h =
        let stepped : Acted = steps a (ticked a.controller.adjacency) in
        let sound : IsSound setups stepped.controller = (steps_keeps setups a s (ticked a.controller.adjacency) ages).sound in
        let again : Acted = sends_again stepped in
        tries_joins_fits port.0 label (Short port.0 label n) AnyQueue (short_fate port.0 label n) any_control (ticks_ports again)
        (ports_turn again (sends_again_keeps setups stepped sound).sound (again_turn stepped (steps_turn a (ticked a.controller.adjacency) h)))

    ticks_by_turn : (a : Acted) (answer : Answer (Said Party) Party) → is_reset_answer answer ≡ false → IsSound setups a.controller → FitsTurn a → FitsShort n (ticks_by a (ticked a.controller.adjacency) answer)
    ticks_by_turn a Quiet over s h = ticks_on a s h
    ticks_by_turn a (Send message) over s h = ticks_on a s h
    ticks_by_turn a (Open message own) over s h = ticks_on a s h
    ticks_by_turn a Reset over s h = absurd (cc over)

    pub ticks_short : (a : Acted) → IsSound setups a.controller → reaches_at a.controller port ≡ true → FitsShort (suc n) a → FitsShort n (ticks a)
    ticks_short a s is h = by_found (linked_at a.controller port) refl is
      where
        both : (b c : Bool) → (not b && c) ≡ true → (b ≡ false) × (c ≡ true)
        both true c e = absurd (cc e)
        both false c e = (refl, e)

        by_found : (o : Option Linked) → linked_at a.controller port ≡ o → option_map_or (reaches a.controller) o false ≡ true → FitsShort n (ticks a)
        by_found None found e = absurd (cc e)
        by_found (Some x) found e = (let parts = both (is_reset_answer (ticked a.controller.adjacency).answer) (up x.port) e in
            ticks_by_turn a (ticked a.controller.adjacency).answer parts.0 s (at_start a s x found parts.1 h))
