-- joins that an answer releases: until all of them are, the numbers of a port may be spent; then such a port is reset

use Rattle.std.proofs.Common.{◌≡◌, ◌≢◌, ℕ, ◌<◌, Bool, true, false, List, [], ◌∷◌, Option, None, Some, refl, sym, ◌∙◌, ap, subst, arith, fold, map, ◌⊎◌, inl, inr, if◌then◌else◌}
use Rattle.std.specs.Prelude.{◌^◌, ◌||◌, nat_eq}
use Rattle.std.specs.List.{list_any}
use Rattle.std.proofs.lemmas.Bool.Decides.{nat_tests}
use Rattle.law_arrival_views.specs.world_model.Words.{PortNo, End, number_of_channel, is_estab, Request, same_end, Part, at, Setup, Grant, grant_label, Work, halts, is_spent, halts_if_spent, parted, given_back, Controller, Linked, port_key, linked_at, begins, with_work, resets_as, resets_of, resets_port, does_in_estab, works_as, works, at_port, join_of, joins_of, parts, releases_join, releases_input, released_inputs, resets_spent, releases, resets}
use Rattle.law_label_steps.specs.ordered_lists.Ordered.{Every}
use Rattle.law_label_steps.specs.law_port_facts.Port.{setup_port, IsRanged}
use Rattle.law_label_steps.proofs.law_port_facts.Keyed.{on_each, at_key, at_every, put_every}
use Rattle.law_label_steps.proofs.law_port_facts.Found.{find_every}
use Rattle.law_label_steps.proofs.law_port_facts.Instances.{closes_gave, parted_gave, given_back_gave}
use Rattle.law_arrival_views.specs.world_model.port_model.Port.{Port}
use Rattle.law_arrival_views.specs.law_port_widths.Widths.{FitsWork, FitsSetup}
use Rattle.law_arrival_views.proofs.law_port_widths.Keeping.{found_grant, closes_fit}
use Rattle.law_arrival_views.proofs.law_port_widths.Rules.{parted_fit, given_back_fit}
use Rattle.law_arrival_views.specs.world_model.Controller.{Acted, ports_of, note}
use Rattle.law_arrival_views.specs.world_model.Joins.{Join}
use Rattle.law_arrival_views.specs.law_controller_facts.Sound.{IsSound}
use Rattle.law_arrival_views.specs.law_controller_facts.Said.{HasFlowsAt, HasFlowingPorts, IsAtWork}
use Rattle.law_arrival_views.proofs.law_controller_facts.Moves.{by_closing, Moves, moves_to, placing, HasPorts, found_setup, found_at_own, begun, moves_ports}
use Rattle.law_arrival_views.proofs.law_controller_facts.Laws.{has_ports, moves_sound}
use Rattle.law_arrival_views.proofs.law_controller_facts.Flows.{moves_flow}
use Rattle.law_arrival_views.proofs.law_controller_facts.Unmet.{put_each, none_with, ports_apart}
use Rattle.law_arrival_views.proofs.law_controller_facts.Joining.{IsJoin, joins_are, granted_there, parts_grants, releases_input_goes, resets_spent_goes, releases_goes}
use Rattle.law_arrival_views.proofs.law_controller_views.Works.{port_is}
use Rattle.law_arrival_views.specs.law_controller_views.Ready.{IsReady}
use Rattle.law_controller_lifts.proofs.Kept.{IsClosed, Of, Each, Goes, stays, goes_on, goes_fold, same_ports, done_goes, rule_goes}
use Rattle.law_controller_lifts.proofs.Unspent.{Unspent, each_more, down_unspent}
use Rattle.law_controller_lifts.proofs.Ready.{Fits, fits_closed, split_fits, both_ready, Readies}

module _ (setups : List Setup) where
  -- *All that a controller that is ready is*, but for the numbers that its ports have left
  pub record IsSteady (c : Controller) : Type 0 where
    pub sound : IsSound setups c
    pub flows : HasFlowingPorts setups c
    pub ranged : Every IsRanged setups
    pub fits : Every (Of Fits) c.ports

  pub ready_steady : (c : Controller) → IsReady setups c → IsSteady c
  ready_steady c h = record { sound = h.sound; flows = h.flows; ranged = h.ranged; fits = split_fits c.ports h.ports }

  pub steady_on : (a b : Acted) → Moves setups a b → Goes Fits a b → b.numbers.instances < 2 ^ 32 → IsSteady a.controller → IsSteady b.controller
  steady_on a b m g f h = record { sound = moves_sound setups a b m h.sound; flows = moves_flow setups a b m h.flows; ranged = h.ranged; fits = g.keeps f h.fits }

  -- a port of it at work
  module _ (a : Acted) (h : IsSteady a.controller) (q : PortNo) (linked : Linked) (found : linked_at a.controller q ≡ Some linked) where
    setup_there : at setup_port linked.setup.port.0 setups ≡ Some linked.setup
    setup_there = found_setup setups a linked linked.setup.port (has_ports setups a h.sound) (found_at_own setups a linked q found)

    pub steady_work : IsAtWork setups linked.setup (begins a linked)
    steady_work = record {
      linked = setup_there;
      ranged = at_every setup_port IsRanged linked.setup.port.0 setups linked.setup h.ranged setup_there;
      kept = begun setups a linked q (has_ports setups a h.sound) found;
      flows = at_every port_key HasFlowsAt q.0 a.controller.ports linked h.flows found;
      live = refl;
      said = tt;
    }

    pub steady_fits : FitsSetup linked.setup × FitsWork (begins a linked)
    steady_fits = (let f : Of Fits linked = at_every port_key (Of Fits) q.0 a.controller.ports linked h.fits found in (f.0, record { port = f.1; said = tt }))

  -- *Widths*
  pub parted_fits : (a : Acted) (q : PortNo) (number : ℕ) → Goes Fits a (at_port a q (λ setup desk w. parted w number))
  parted_fits a q number = rule_goes Fits fits_closed a q (λ setup desk w. parted w number)
      (λ linked found. (let same = parted_gave a.numbers.instances (begins a linked) number refl in omega (arith, same)))
      (λ linked found f h. (h.0, (parted_fit (begins a linked) number (record { port = h.1; said = tt })).port))

  pub given_back_fits : (a : Acted) (q : PortNo) (grant : Grant) → ((linked : Linked) → linked_at a.controller q ≡ Some linked → at grant_label grant.label linked.port.grants ≡ Some grant)
      → Goes Fits a (at_port a q (λ setup desk w. given_back w grant))
  given_back_fits a q grant granted = rule_goes Fits fits_closed a q (λ setup desk w. given_back w grant)
      (λ linked found. (let same = given_back_gave a.numbers.instances (begins a linked) grant refl in omega (arith, same)))
      (λ linked found f h. (let fit : FitsWork (begins a linked) = record { port = h.1; said = tt } in
      (h.0, (given_back_fit (begins a linked) grant (found_grant (begins a linked) grant.label grant (granted linked found) fit) fit).port)))

  pub closes_fits : (a : Acted) (q : PortNo) → Goes Fits a (resets_spent a q)
  closes_fits a q = rule_goes Fits fits_closed a q (λ setup desk w. halts_if_spent w)
      (λ linked found. (let same = closes_gave a.numbers.instances (begins a linked) refl in omega (arith, same)))
      (λ linked found f h. (h.0, (closes_fit (begins a linked) (record { port = h.1; said = tt })).port))

  -- a join that is found is the controller's
  pub found_join : (a : Acted) (input : End) (join : Join) → HasPorts setups a → join_of a.controller input ≡ Some join → IsJoin setups a join
  found_join a input join h e = find_every (IsJoin setups a) (λ (x : Join). same_end x.input input) (joins_of a.controller) join (joins_are setups a h) e

  pub parts_fit : (a : Acted) (e : End) → Goes Fits a (parts a e)
  parts_fit a e =
      let noted : Acted = note a (Part a.controller.node e.port (number_of_channel e.channel)) in
      goes_on Fits fits_closed a noted (parts a e) (same_ports Fits fits_closed a noted refl refl) (parted_fits noted e.port (number_of_channel e.channel))

  join_fits : (a : Acted) (o : Option Join) → ((join : Join) → o ≡ Some join → IsJoin setups a join) → HasPorts setups a → Goes Fits a (releases_join a o)
  join_fits a None is h = stays Fits fits_closed a
  join_fits a (Some join) is h =
      let b : Acted = parts a join.input in
      goes_on Fits fits_closed a b (releases_join a (Some join)) (parts_fit a join.input)
      (given_back_fits b join.port join.grant (λ linked found. granted_there setups a b join linked (is join refl) (parts_grants setups a join.input join.port.0 h) found))

  pub input_fits : (a : Acted) (input : End) → HasPorts setups a → Goes Fits a (releases_input a input)
  input_fits a input h = join_fits a (join_of a.controller input) (λ join e. found_join a input join h e) h

  pub inputs_fit : (inputs : List End) (a : Acted) → HasPorts setups a → Goes Fits a (fold releases_input a inputs)
  inputs_fit [] a h = stays Fits fits_closed a
  inputs_fit (input ∷ inputs) a h =
      let next : Acted = releases_input a input in
      goes_on Fits fits_closed a next (fold releases_input next inputs) (input_fits a input h)
      (inputs_fit inputs next (moves_ports setups (releases_input_goes setups a input h) h))

  pub ports_fit : (ports : List PortNo) (a : Acted) → Goes Fits a (fold resets_spent a ports)
  ports_fit ports a = goes_fold Fits fits_closed resets_spent closes_fits ports a

  pub releases_fits : (a : Acted) (request : Request) → HasPorts setups a → Goes Fits a (releases a request)
  releases_fits a request h =
      let released : Acted = fold releases_input a (released_inputs a.controller request) in
      goes_on Fits fits_closed a released (releases a request) (inputs_fit (released_inputs a.controller request) a h) (ports_fit (ports_of released.controller) released)

  -- *The numbers*: each port has some left, or is still to be seen to
  abbrev Left : List PortNo → Setup → Port → Type 0
  Left rest setup port = (is_spent port.session ≡ false) ⊎ (list_any (λ (p : PortNo). nat_eq p.0 setup.port.0) rest ≡ true)

  left_closed : (rest : List PortNo) → IsClosed (Left rest)
  left_closed rest = record { reset = λ setup port n f h. inl refl; restart = λ setup port n f h. inl refl }

  behind : (q : PortNo) (rest : List PortNo) (x : Linked) → port_key x ≢ q.0 → Of (Left (q ∷ rest)) x → Of (Left rest) x
  behind q rest x other (inl h) = inl h
  behind q rest x other (inr among) = (let differs : nat_eq q.0 (port_key x) ≡ false = grind (arith, nat_tests, other) in
      inr (sym (ap (λ (b : Bool). b || list_any (λ (p : PortNo). nat_eq p.0 (port_key x)) rest) differs) ∙ among))

  all_behind : (q : PortNo) (rest : List PortNo) (xs : List Linked) → Every (λ (x : Linked). port_key x ≢ q.0) xs → Every (Of (Left (q ∷ rest))) xs → Every (Of (Left rest)) xs
  all_behind q rest [] others all = tt
  all_behind q rest (x ∷ xs) others all = (behind q rest x others.0 all.0, all_behind q rest xs others.1 all.1)

  reset_left : (a : Acted) (q : PortNo) (rest : List PortNo) → HasPorts setups a → (resets_port a q).numbers.instances < 2 ^ 32 → Each (Left (q ∷ rest)) a → Each (Left rest) (resets_port a q)
  reset_left a q rest h = by (linked_at a.controller q) refl
    where
      by : (o : Option Linked) → linked_at a.controller q ≡ o → (resets_of a o).numbers.instances < 2 ^ 32 → Each (Left (q ∷ rest)) a → Each (Left rest) (resets_of a o)
      by None found f all = all_behind q rest a.controller.ports (none_with port_key q.0 a.controller.ports found) all
      by (Some linked) found f all =
          let w : Work = resets linked.setup (begins a linked) in
          let key : port_key linked ≡ q.0 = at_key port_key q.0 a.controller.ports linked found in
          let goes : Goes (Left rest) (with_work a linked w) (resets_as a linked w) =
          goes_fold (Left rest) (left_closed rest) (does_in_estab linked.setup.port) (done_goes (Left rest) (left_closed rest) linked.setup.port) w.actions (with_work a linked w) in
          goes.keeps f (put_each port_key (Of (Left (q ∷ rest))) (Of (Left rest)) (record linked { port = w.port }) (inl refl) (λ x n. behind q rest x (λ e. n (e ∙ sym key))) a.controller.ports (ports_apart setups a h) all)

  halted_left : (a : Acted) (q : PortNo) (rest : List PortNo) (linked : Linked) → linked_at a.controller q ≡ Some linked → IsSound setups a.controller → is_spent linked.port.session ≡ true
      → Each (Left (q ∷ rest)) a → (works_as a linked (halts (begins a linked))).numbers.instances < 2 ^ 32 → Each (Left rest) (works_as a linked (halts (begins a linked)))
  halted_left a q rest linked found sound spent all f =
      let w : Work = halts (begins a linked) in
      let b : Acted = with_work a linked w in
      let own : PortNo = linked.setup.port in
      let is : q ≡ own = sym (port_is own q (at_key port_key q.0 a.controller.ports linked found)) in
      let still : IsSound setups b.controller = subst (λ (v : Work). IsSound setups (with_work a linked v).controller) (ap (λ (t : Bool). if t then halts (begins a linked) else begins a linked) spent)
      (moves_sound setups a (with_work a linked (halts_if_spent (begins a linked))) (moves_to (placing a linked (halts_if_spent (begins a linked)) (found_at_own setups a linked q found) by_closing)) sound) in
      let placed : Each (Left (own ∷ rest)) b = subst (λ (p : PortNo). Each (Left (p ∷ rest)) b) is
      (put_every port_key (Of (Left (q ∷ rest))) (record linked { port = w.port }) a.controller.ports (at_every port_key (Of (Left (q ∷ rest))) q.0 a.controller.ports linked all found) all) in
      on_each (λ (c : Acted). c.numbers.instances < 2 ^ 32 → Each (Left rest) c) (is_estab a.controller.adjacency.state) (resets_port b own) b
      (λ up g. reset_left b own rest (has_ports setups b still) g placed)
      (λ down g. each_more (Of Unspent) (Of (Left rest)) (λ x u. inl u) b.controller.ports (down_unspent setups b still down)) f

  spent_left : (a : Acted) (q : PortNo) (rest : List PortNo) → IsSound setups a.controller → (resets_spent a q).numbers.instances < 2 ^ 32 → Each (Left (q ∷ rest)) a → Each (Left rest) (resets_spent a q)
  spent_left a q rest sound = by (linked_at a.controller q) refl
    where
      by : (o : Option Linked) → linked_at a.controller q ≡ o → (works a (λ setup desk w. halts_if_spent w) o).numbers.instances < 2 ^ 32 → Each (Left (q ∷ rest)) a → Each (Left rest) (works a (λ setup desk w. halts_if_spent w) o)
      by None found f all = all_behind q rest a.controller.ports (none_with port_key q.0 a.controller.ports found) all
      by (Some linked) found f all =
          let key : port_key linked ≡ q.0 = at_key port_key q.0 a.controller.ports linked found in
          on_each (λ (w : Work). (works_as a linked w).numbers.instances < 2 ^ 32 → Each (Left rest) (works_as a linked w)) (is_spent linked.port.session) (halts (begins a linked)) (begins a linked)
          (λ spent g. halted_left a q rest linked found sound spent all g)
          (λ left g. put_each port_key (Of (Left (q ∷ rest))) (Of (Left rest)) (record linked { port = linked.port }) (inl left) (λ x n. behind q rest x (λ e. n (e ∙ sym key))) a.controller.ports
          (ports_apart setups a (has_ports setups a sound)) all) f

  all_left : (rest : List PortNo) (a : Acted) → IsSound setups a.controller → (fold resets_spent a rest).numbers.instances < 2 ^ 32 → Each (Left rest) a → Each Unspent (fold resets_spent a rest)
  all_left [] a sound f all = each_more (Of (Left [])) (Of Unspent) none_left a.controller.ports all
    where
      none_left : (x : Linked) → Of (Left []) x → Of Unspent x
      none_left x (inl h) = h
      none_left x (inr among) = absurd (cc among)
  all_left (q ∷ rest) a sound f all =
      let next : Acted = resets_spent a q in
      let later : Goes Fits next (fold resets_spent next rest) = ports_fit rest next in
      all_left rest next (moves_sound setups a next (resets_spent_goes setups a q (has_ports setups a sound)) sound) f (spent_left a q rest sound (omega (arith, f, later.rises)) all)

  -- each port is among them
  each_among : (ports : List Linked) → Every (Of (Left (map (λ (x : Linked). x.setup.port) ports))) ports
  each_among [] = tt
  each_among (linked ∷ ports) = (inr (here (port_key linked) (list_any (λ (p : PortNo). nat_eq p.0 (port_key linked)) (map (λ (x : Linked). x.setup.port) ports))), later ports (each_among ports))
    where
      here : (n : ℕ) (b : Bool) → (nat_eq n n || b) ≡ true
      here n b = (let same : nat_eq n n ≡ true = grind (arith, nat_tests) in ap (λ (t : Bool). t || b) same)

      more : (b c : Bool) → c ≡ true → (b || c) ≡ true
      more true c e = refl
      more false c e = e

      one : (y : Linked) → Of (Left (map (λ (x : Linked). x.setup.port) ports)) y → Of (Left (map (λ (x : Linked). x.setup.port) (linked ∷ ports))) y
      one y (inl h) = inl h
      one y (inr among) = inr (more (nat_eq (port_key linked) (port_key y)) (list_any (λ (p : PortNo). nat_eq p.0 (port_key y)) (map (λ (x : Linked). x.setup.port) ports)) among)

      later : (ys : List Linked) → Every (Of (Left (map (λ (x : Linked). x.setup.port) ports))) ys → Every (Of (Left (map (λ (x : Linked). x.setup.port) (linked ∷ ports)))) ys
      later [] all = tt
      later (y ∷ ys) all = (one y all.0, later ys all.1)

  -- *All of an answer's joins are released*, and the controller is ready
  pub released_ready : (a : Acted) (request : Request) → (releases a request).numbers.instances < 2 ^ 32 → IsSteady a.controller → IsReady setups (releases a request).controller
  released_ready a request f h =
      let inputs : List End = released_inputs a.controller request in
      let has : HasPorts setups a = has_ports setups a h.sound in
      let released : Acted = fold releases_input a inputs in
      let end : Acted = releases a request in
      let s : IsSteady end.controller = steady_on a end (releases_goes setups a request has) (releases_fits a request has) f h in
      record {
        sound = s.sound;
        flows = s.flows;
        ranged = s.ranged;
        ports = both_ready end.controller.ports (all_left (ports_of released.controller) released (inputs_sound inputs a h.sound) f (each_among released.controller.ports)) s.fits;
      }
    where
      inputs_sound : (inputs : List End) (b : Acted) → IsSound setups b.controller → IsSound setups (fold releases_input b inputs).controller
      inputs_sound [] b sound = sound
      inputs_sound (input ∷ inputs) b sound = inputs_sound inputs (releases_input b input) (moves_sound setups b (releases_input b input) (releases_input_goes setups b input (has_ports setups b sound)) sound)

  pub releases_ready : (a : Acted) (request : Request) → HasPorts setups a → Readies setups a (releases a request)
  releases_ready a request h = record { rises = (releases_fits a request h).rises; ready = λ f r. released_ready a request f (ready_steady a.controller r) }
