-- ports whose numbers are spent while joins are released are reset behind it: then the numbers of none are

use Rattle.std.proofs.Common.{◌≡◌, ◌≢◌, ℕ, ◌≤◌, ◌<◌, Bool, true, false, List, [], ◌∷◌, Option, None, Some, refl, sym, ◌∙◌, ap, subst, arith, fold, ◌⊎◌, inl, inr, if◌then◌else◌}
use Rattle.std.specs.Prelude.{◌^◌, map}
use Rattle.law_branch_shapes.specs.world_model.Words.{PortNo, is_estab, Setup, Session, Work, halts, is_spent, halts_if_spent, resets, Linked, port_key, linked_at, begins, with_work, does_in_estab, resets_as, resets_of, resets_port, works_as, works, resets_spent}
use Rattle.law_frame_readings.specs.ordered_lists.Ordered.{Every}
use Rattle.law_branch_shapes.specs.world_model.port_model.Port.{Port}
use Rattle.law_frame_readings.proofs.law_port_facts.Keyed.{on_each, at_key}
use Rattle.law_branch_shapes.specs.world_model.Controller.{Acted, ports_of}
use Rattle.law_frame_readings.specs.law_controller_facts.Sound.{IsSound, IsShutLinked}
use Rattle.law_frame_readings.proofs.law_controller_facts.Moves.{by_closing, placing, Moves, moves_to, found_at_own}
use Rattle.law_frame_readings.proofs.law_controller_facts.Joining.{resets_spent_goes}
use Rattle.law_frame_readings.proofs.law_controller_facts.Laws.{has_ports, moves_sound}
use Rattle.law_frame_readings.proofs.law_controller_facts.Numbers.{moves_never_fall}
use Rattle.law_frame_readings.proofs.law_controller_facts.Unmet.{put_each, none_with, ports_apart}
use Rattle.law_frame_readings.proofs.law_controller_lifts.Kept.{IsClosed, Of, Each, Goes, goes_fold, done_goes}
use Rattle.law_frame_readings.proofs.law_controller_lifts.Unspent.{Unspent, each_more}

-- the numbers of a port aren't spent, or it is one of these
pub data IsAmong (key : ℕ) : List PortNo → Type 0 where
  here : (port : PortNo) (ports : List PortNo) → port.0 ≡ key → IsAmong key (port ∷ ports)
  later : (port : PortNo) (ports : List PortNo) → IsAmong key ports → IsAmong key (port ∷ ports)

abbrev pub UnspentBut : List PortNo → Setup → Port → Type 0
UnspentBut ports setup port = (is_spent port.session ≡ false) ⊎ IsAmong setup.port.0 ports

but_closed : (ports : List PortNo) → IsClosed (UnspentBut ports)
but_closed ports = record { reset = λ setup port n f h. inl refl; restart = λ setup port n f h. inl refl }

-- where the adjacency with the switch isn't in Estab every port is shut
down_unspent : (setups : List Setup) (ports : List PortNo) (a : Acted) → IsSound setups a.controller → is_estab a.controller.adjacency.state ≡ false → Each (UnspentBut ports) a
down_unspent setups ports a sound down = by a.controller.has_met refl
  where
    by : (b : Bool) → a.controller.has_met ≡ b → Each (UnspentBut ports) a
    by true e = absurd (cc (sound.desk.met e, down))
    by false e = each_more IsShutLinked (Of (UnspentBut ports)) (λ x shut. inl (ap (λ (o : Option Session). is_spent o) shut.session ∙ refl)) a.controller.ports (sound.unmet e)

-- another port than the first of these
not_first : (q : PortNo) (ports : List PortNo) (x : Linked) → port_key x ≢ q.0 → Of (UnspentBut (q ∷ ports)) x → Of (UnspentBut ports) x
not_first q ports x n (inl h) = inl h
not_first q ports x n (inr (here port rest is)) = absurd (n (sym is))
not_first q ports x n (inr (later port rest among)) = inr among

without_first : (q : PortNo) (ports : List PortNo) (xs : List Linked) → Every (λ (x : Linked). port_key x ≢ q.0) xs → Every (Of (UnspentBut (q ∷ ports))) xs → Every (Of (UnspentBut ports)) xs
without_first q ports [] n h = tt
without_first q ports (x ∷ xs) n h = (not_first q ports x n.0 h.0, without_first q ports xs n.1 h.1)

module _ (setups : List Setup) where
  -- *A port is reset*
  reset_first : (a : Acted) (q : PortNo) (ports : List PortNo) → IsSound setups a.controller → (resets_port a q).numbers.instances < 2 ^ 32 → Each (UnspentBut (q ∷ ports)) a → Each (UnspentBut ports) (resets_port a q)
  reset_first a q ports sound = by (linked_at a.controller q) refl
    where
      by : (o : Option Linked) → linked_at a.controller q ≡ o → (resets_of a o).numbers.instances < 2 ^ 32 → Each (UnspentBut (q ∷ ports)) a → Each (UnspentBut ports) (resets_of a o)
      by None found f h = without_first q ports a.controller.ports (none_with port_key q.0 a.controller.ports found) h
      by (Some linked) found f h =
          let w : Work = resets linked.setup (begins a linked) in
          let key : port_key linked ≡ q.0 = at_key port_key q.0 a.controller.ports linked found in
          let goes : Goes (UnspentBut ports) (with_work a linked w) (resets_as a linked w) =
          goes_fold (UnspentBut ports) (but_closed ports) (does_in_estab linked.setup.port) (done_goes (UnspentBut ports) (but_closed ports) linked.setup.port) w.actions (with_work a linked w) in
          goes.keeps f (put_each port_key (Of (UnspentBut (q ∷ ports))) (Of (UnspentBut ports)) (record linked { port = w.port }) (inl refl) (λ x n. not_first q ports x (λ e. n (e ∙ sym key))) a.controller.ports
          (ports_apart setups a (has_ports setups a sound)) h)

  -- *It closes*: spent it is reset, and else it stays
  first_unspent : (a : Acted) (q : PortNo) (ports : List PortNo) (linked : Linked) → IsSound setups a.controller → linked_at a.controller q ≡ Some linked → is_spent linked.port.session ≡ false
      → Each (UnspentBut (q ∷ ports)) a → Each (UnspentBut ports) (with_work a linked (begins a linked))
  first_unspent a q ports linked sound found free h = put_each port_key (Of (UnspentBut (q ∷ ports))) (Of (UnspentBut ports)) (record linked { port = linked.port }) (inl free)
      (λ x n. not_first q ports x (λ e. n (e ∙ sym (at_key port_key q.0 a.controller.ports linked found)))) a.controller.ports (ports_apart setups a (has_ports setups a sound)) h

  spent_stays : (a : Acted) (q : PortNo) (ports : List PortNo) (linked : Linked) → IsSound setups a.controller → linked_at a.controller q ≡ Some linked
      → Each (UnspentBut (q ∷ ports)) a → Each (UnspentBut (linked.setup.port ∷ ports)) (with_work a linked (halts (begins a linked)))
  spent_stays a q ports linked sound found h = put_each port_key (Of (UnspentBut (q ∷ ports))) (Of (UnspentBut (linked.setup.port ∷ ports))) (record linked { port = linked.port })
      (inr (here linked.setup.port ports refl)) (λ x n k. by x (not_first q ports x (λ e. n (e ∙ sym (at_key port_key q.0 a.controller.ports linked found))) k)) a.controller.ports (ports_apart setups a (has_ports setups a sound)) h
    where
      by : (x : Linked) → Of (UnspentBut ports) x → Of (UnspentBut (linked.setup.port ∷ ports)) x
      by x (inl free) = inl free
      by x (inr among) = inr (later linked.setup.port ports among)

  halted_first : (a : Acted) (q : PortNo) (ports : List PortNo) (linked : Linked) → IsSound setups a.controller → linked_at a.controller q ≡ Some linked
      → (works_as a linked (halts (begins a linked))).numbers.instances < 2 ^ 32 → IsSound setups (with_work a linked (halts (begins a linked))).controller
      → Each (UnspentBut (q ∷ ports)) a → Each (UnspentBut ports) (works_as a linked (halts (begins a linked)))
  halted_first a q ports linked sound found small kept h =
      let b : Acted = with_work a linked (halts (begins a linked)) in
      on_each (λ (c : Acted). c.numbers.instances < 2 ^ 32 → Each (UnspentBut ports) c) (is_estab b.controller.adjacency.state) (resets_port b linked.setup.port) b
      (λ up f. reset_first b linked.setup.port ports kept f (spent_stays a q ports linked sound found h)) (λ down f. down_unspent setups ports b kept down) small

  closes_first : (a : Acted) (q : PortNo) (ports : List PortNo) → IsSound setups a.controller → (resets_spent a q).numbers.instances < 2 ^ 32 → Each (UnspentBut (q ∷ ports)) a → Each (UnspentBut ports) (resets_spent a q)
  closes_first a q ports sound = by (linked_at a.controller q) refl
    where
      by : (o : Option Linked) → linked_at a.controller q ≡ o → (works a (λ setup desk w. halts_if_spent w) o).numbers.instances < 2 ^ 32 → Each (UnspentBut (q ∷ ports)) a → Each (UnspentBut ports) (works a (λ setup desk w. halts_if_spent w) o)
      by None found small h = without_first q ports a.controller.ports (none_with port_key q.0 a.controller.ports found) h
      by (Some linked) found small h = on_test (is_spent linked.port.session) refl small
        where
          kept : IsSound setups (with_work a linked (halts_if_spent (begins a linked))).controller
          kept = moves_sound setups a (with_work a linked (halts_if_spent (begins a linked))) (moves_to (placing a linked (halts_if_spent (begins a linked)) (found_at_own setups a linked q found) by_closing)) sound

          on_test : (b : Bool) → is_spent linked.port.session ≡ b → (works_as a linked (if b then halts (begins a linked) else begins a linked)).numbers.instances < 2 ^ 32
              → Each (UnspentBut ports) (works_as a linked (if b then halts (begins a linked) else begins a linked))
          on_test false free f = first_unspent a q ports linked sound found free h
          on_test true spent f = halted_first a q ports linked sound found f
              (subst (λ (b : Bool). IsSound setups (with_work a linked (if b then halts (begins a linked) else begins a linked)).controller) spent kept) h

  all_first : (ports : List PortNo) (a : Acted) → IsSound setups a.controller → (fold resets_spent a ports).numbers.instances < 2 ^ 32 → Each (UnspentBut ports) a → Each (UnspentBut []) (fold resets_spent a ports)
  all_first [] a sound small h = h
  all_first (q ∷ ports) a sound small h =
      let b : Acted = resets_spent a q in
      let m : Moves setups a b = resets_spent_goes setups a q (has_ports setups a sound) in
      let kept : IsSound setups b.controller = moves_sound setups a b m sound in
      all_first ports b kept small (closes_first a q ports sound (omega (arith, small, rises ports b kept)) h)
    where
      rises : (ports : List PortNo) (a : Acted) → IsSound setups a.controller → a.numbers.instances ≤ (fold resets_spent a ports).numbers.instances
      rises [] a sound = omega arith
      rises (q ∷ ports) a sound =
          let b : Acted = resets_spent a q in
          let m : Moves setups a b = resets_spent_goes setups a q (has_ports setups a sound) in
          omega (arith, (moves_never_fall setups a b m).instances, rises ports b (moves_sound setups a b m sound))

  -- each port is one of all
  all_among : (xs : List Linked) → Every (Of (UnspentBut (map (λ (linked : Linked). linked.setup.port) xs))) xs
  all_among [] = tt
  all_among (x ∷ xs) = (
    inr (here x.setup.port _ refl),
    each_more (Of (UnspentBut (map (λ (linked : Linked). linked.setup.port) xs))) (Of (UnspentBut (x.setup.port ∷ map (λ (linked : Linked). linked.setup.port) xs)))
        (λ y h. by y h) xs (all_among xs),
  )
    where
      by : (y : Linked) → Of (UnspentBut (map (λ (linked : Linked). linked.setup.port) xs)) y → Of (UnspentBut (x.setup.port ∷ map (λ (linked : Linked). linked.setup.port) xs)) y
      by y (inl free) = inl free
      by y (inr among) = inr (later x.setup.port _ among)

  none_among : (setup : Setup) (port : Port) → UnspentBut [] setup port → is_spent port.session ≡ false
  none_among setup port (inl free) = free
  none_among setup port (inr among) = elim among as (λ ports _. ports ≡ [] → is_spent port.session ≡ false) [
    | here p ps is ↦ λ e. absurd (cc e)
    | later p ps rest ↦ λ e. absurd (cc e)
  ] refl

  pub spent_reset : (a : Acted) → IsSound setups a.controller → (fold resets_spent a (ports_of a.controller)).numbers.instances < 2 ^ 32 → Each Unspent (fold resets_spent a (ports_of a.controller))
  spent_reset a sound small = each_more (Of (UnspentBut [])) (Of Unspent) (λ x h. none_among x.setup x.port h) (fold resets_spent a (ports_of a.controller)).controller.ports
      (all_first (ports_of a.controller) a sound small (all_among a.controller.ports))
