-- the branches of a switch change as requests ask

use Rattle.std.proofs.Common.{◌≡◌, ◌≢◌, ℕ, Bool, true, false, List, [], ◌∷◌, Option, None, Some, refl, sym, ◌∙◌, ap, subst, arith, append-nil, inl, inr, if◌then◌else◌}
use Rattle.std.specs.Prelude.{◌==◌}
use Rattle.std.specs.Option.{option_map_or, option_and_then}
use Rattle.law_cell_lists.specs.world_model.Words.{home_of, NodeId, Down, End as PortEnd, Mark, Cell, Entry, Cut, same_mark, Journal, Reassembly, Request, AddBranch, MoveBranch, DeleteTree, VerifyTree, PortManagement, Crossbar, Branches, same_end, new_branch, Changed, noted_cut, added_by, added, moved_by, moved_to, ended_by, all_ended, inputs_on, branches_after, Topology, IsTopology, World, Site, site_at, queue_in, queue_at, on_channel}
use Rattle.std.specs.FinMap.{get, insert, remove}
use Rattle.std.proofs.lemmas.Bool.Decides.{nat_tests}
use Rattle.law_cell_lists.specs.world_model.gsmp_wire.declared.request.Request.TheVariants.{DeleteAll, AllPorts}
use Rattle.law_cell_lists.specs.world_model.crossbar_model.declared.branch.Branch.{Branch}
use Rattle.law_cell_lists.specs.world_model.Requests.{branch_ended, deleted_all}
use Rattle.law_controller_bindings.proofs.law_port_facts.Keyed.{by_eq}
use Rattle.law_cell_lists.specs.Causes.{is_cause_of}
use Rattle.law_cell_lists.proofs.Lists.{any_back}
use Rattle.law_cell_lists.proofs.Net.{HasCut}
use Rattle.law_cell_lists.proofs.Real.{AreApart, AreQuiet, IsReal, real_grown, real_alike, real_ends, real_leads}
use Rattle.law_causes.specs.Feeding.{Found, IsLed, branch_at}
use Rattle.law_causes.proofs.Spots.{Spot, same_spot, yields, home}
use Rattle.law_causes.proofs.Phase.{GrownBy, grown_by}
use Rattle.law_causes.proofs.Shown.{Inlet, inlet_of, spot_of, spot_is, inlet_is, out_spot, led}
use Rattle.law_causes.proofs.Parts.{shown, shown_apart, shown_quiet, parts_of}
use Rattle.law_causes.proofs.Maps.{same_input, insert_here, insert_away, remove_here, remove_away}
use Rattle.law_causes.proofs.Switching.{end_by_inlet, world_with, here_with, away_with, look_here, end_like, end_but, cells_like}

-- *Fewer branches* lead as well, and the same ones
pub led_less : (found less : Found) (queue other : List Cell) → ((e : PortEnd) (b : Branch) → less e ≡ Some b → found e ≡ Some b) → other ≡ queue → IsLed found queue → IsLed less other
led_less found less queue other sub same l = record {
  down = λ e b at none. l.down e b (sub e b at) none;
  up = λ e b at some none. l.up e b (sub e b at) some none;
  across = λ e b at some out. ((l.across e b (sub e b at) some out).0, ap (on_channel (home_of b.output).channel) same ∙ (l.across e b (sub e b at) some out).1);
  once = λ e f b c at to some others same. l.once e f b c (sub e b at) (sub f c to) some others same;
}

pub grown_more : (old middle new : List Entry) → GrownBy old middle → GrownBy middle new → GrownBy old new
grown_more old middle new g h = subst (GrownBy old) (sym h.is) (grown_by old middle h.more g h.others)

pub grown_none : (entries : List Entry) → GrownBy entries entries
grown_none entries = record { more = []; is = sym (append-nil entries); others = tt }

pub cut_noted : (notes : Journal) (u : Option Mark) → GrownBy notes.entries (noted_cut notes u).entries
cut_noted notes None = grown_none notes.entries
cut_noted notes (Some mark) = record { more = record { mark = mark; cause = Cut } ∷ []; is = refl; others = ((λ e. cc e), tt) }

cut_stands : (notes : Journal) (u : Option Mark) → HasCut (noted_cut notes u).entries u
cut_stands notes None = tt
cut_stands notes (Some mark) =
    let same : same_mark mark mark ≡ true = grind (arith, nat_tests) in
    any_back (is_cause_of mark) notes.entries (record { mark = mark; cause = Cut } ∷ []) (rw same refl)

module _ (t : Topology) (is : IsTopology t) (w : World) (n : NodeId) (old : Site) (found : site_at w n ≡ Some old) (others : (m : NodeId) → n.0 ≢ m.0 → IsLed (branch_at w m) (queue_at w (Down m))) (r : Reassembly) (begun : Spot → List Cell) where
  abbrev pub State : Crossbar → List Entry → Type 0
  State x entries = IsReal same_spot yields home entries begun (shown t (parts_of (world_with t is w n old found x r)))

  abbrev pub Leading : Branches → Type 0
  Leading m = IsLed (get m) old.controller.queue

  pub all_led : (x : Crossbar) → Leading x.branches → (m : NodeId) → IsLed (branch_at (world_with t is w n old found x r) m) (queue_at (world_with t is w n old found x r) (Down m))
  all_led x l m = by_eq n.0 m.0
      (λ e u. led_less (get x.branches) (branch_at (world_with t is w n old found x r) m) old.controller.queue (queue_at (world_with t is w n old found x r) (Down m))
      (λ input b at. sym (ap (λ (q : ℕ). branch_at (world_with t is w n old found x r) (record { 0 = q }) input) (sym e) ∙ look_here t is w n old found x r input) ∙ at)
      (ap (λ (o : Option Site). option_map_or (λ (s : Site). queue_in s (Down m)) o []) (here_with t is w n old found x r m e)) l)
      (λ d u. led_less (branch_at w m) (branch_at (world_with t is w n old found x r) m) (queue_at w (Down m)) (queue_at (world_with t is w n old found x r) (Down m))
      (λ input b at. sym (ap (λ (o : Option Site). option_and_then (λ (y : Site). get y.switch.crossbar.branches input) o) (away_with t is w n old found x r m d)) ∙ at)
      (ap (λ (o : Option Site). option_map_or (λ (s : Site). queue_in s (Down m)) o []) (away_with t is w n old found x r m d)) (others m d))

  apart : (x : Crossbar) → Leading x.branches → AreApart same_spot yields home (shown t (parts_of (world_with t is w n old found x r)))
  apart x l = shown_apart t is (parts_of (world_with t is w n old found x r)) (all_led x l)

  quiet : (x : Crossbar) → Leading x.branches → AreQuiet same_spot yields home (shown t (parts_of (world_with t is w n old found x r)))
  quiet x l = shown_quiet t is (parts_of (world_with t is w n old found x r)) (all_led x l)

  pub state_alike : (x y : Crossbar) (entries : List Entry) → y.queues ≡ x.queues → ((e : PortEnd) → get y.branches e ≡ get x.branches e) → State x entries → State y entries
  state_alike x y entries queues same s = real_alike same_spot yields home entries begun begun (shown t (parts_of (world_with t is w n old found x r))) (shown t (parts_of (world_with t is w n old found y r)))
      (λ k. cells_like t is w n old found x y r r k queues) (λ k. end_like t is w n old found x y r r k same (inr refl)) (λ k. refl) s

  state_grown : (x : Crossbar) (old new : List Entry) → GrownBy old new → State x old → State x new
  state_grown x was new g s = real_grown same_spot yields home was new begun (shown t (parts_of (world_with t is w n old found x r))) (record { more = g.more; is = g.is }) s

  -- the list whose cells come in on an input, if there is one
  abbrev inlet : PortEnd → Inlet
  inlet input = record { node = n; input = input }

  -- *One branch ends*
  module _ (x : Crossbar) (notes : Journal) (input : PortEnd) (b : Branch) (has : get x.branches input ≡ Some b) (leading : Leading x.branches) (s : State x notes.entries) where
    abbrev without_it : Crossbar
    without_it = record x { branches = remove x.branches input }

    at_input : (z : Crossbar) (k : Spot) → inlet_of t k ≡ Some (inlet input) → (shown t (parts_of (world_with t is w n old found z r)) k).end ≡ led n (get z.branches input)
    at_input z k e = end_by_inlet t (world_with t is w n old found z r) k (inlet input) e ∙ ap (led n) (look_here t is w n old found z r input)

    pub ended_state : State (record x { branches = remove x.branches input }) (noted_cut notes b.unfinished).entries
    ended_state = by (spot_of t (inlet input)) refl
      where
        grown : State x (noted_cut notes b.unfinished).entries
        grown = state_grown x notes.entries (noted_cut notes b.unfinished).entries (cut_noted notes b.unfinished) s

        by : (o : Option Spot) → spot_of t (inlet input) ≡ o → State without_it (noted_cut notes b.unfinished).entries
        by None e = real_alike same_spot yields home (noted_cut notes b.unfinished).entries begun begun (shown t (parts_of (world_with t is w n old found x r))) (shown t (parts_of (world_with t is w n old found without_it r)))
            (λ k. cells_like t is w n old found x without_it r r k refl)
            (λ k. end_but t is w n old found x without_it r input k (λ q d. remove_away x.branches input q d) (λ h. (let clash : None ≡ Some k = sym e ∙ spot_is t is k (inlet input) h in cc clash)))
            (λ k. refl) grown
        by (Some k) e = real_ends same_spot yields home (noted_cut notes b.unfinished).entries begun (shown t (parts_of (world_with t is w n old found x r))) (shown t (parts_of (world_with t is w n old found without_it r)))
            k (out_spot n b.output) b.unfinished grown (apart x leading) (at_input x k (inlet_is t is k (inlet input) e) ∙ ap (led n) has)
            (cells_like t is w n old found x without_it r r k refl) (at_input without_it k (inlet_is t is k (inlet input) e) ∙ ap (led n) (remove_here x.branches input))
            (λ j d. (
              cells_like t is w n old found x without_it r r j refl,
              end_but t is w n old found x without_it r input j (λ q f. remove_away x.branches input q f)
                  (λ h. (let both : Some j ≡ Some k = sym (spot_is t is j (inlet input) h) ∙ e in let at : j ≡ k = cc in d (sym at))),
            ))
            (cut_stands notes b.unfinished)

  -- *One branch is made*
  module _ (x : Crossbar) (entries : List Entry) (input output : PortEnd) (has : get x.branches input ≡ None) (leading : Leading (insert x.branches input (new_branch output))) (s : State x entries) where
    abbrev with_it : Crossbar
    with_it = record x { branches = insert x.branches input (new_branch output) }

    pub made_state : State (record x { branches = insert x.branches input (new_branch output) }) entries
    made_state = by (spot_of t (inlet input)) refl
      where
        by : (o : Option Spot) → spot_of t (inlet input) ≡ o → State with_it entries
        by None e = real_alike same_spot yields home entries begun begun (shown t (parts_of (world_with t is w n old found x r))) (shown t (parts_of (world_with t is w n old found with_it r)))
            (λ k. cells_like t is w n old found x with_it r r k refl)
            (λ k. end_but t is w n old found x with_it r input k (λ q d. insert_away x.branches input q (new_branch output) d) (λ h. (let clash : None ≡ Some k = sym e ∙ spot_is t is k (inlet input) h in cc clash)))
            (λ k. refl) s
        by (Some k) e = real_leads same_spot yields home entries begun (shown t (parts_of (world_with t is w n old found x r))) (shown t (parts_of (world_with t is w n old found with_it r)))
            k (out_spot n output) s (apart with_it leading) (quiet with_it leading)
            (end_by_inlet t (world_with t is w n old found x r) k (inlet input) (inlet_is t is k (inlet input) e) ∙ ap (led n) (look_here t is w n old found x r input ∙ has))
            (cells_like t is w n old found x with_it r r k refl)
            (end_by_inlet t (world_with t is w n old found with_it r) k (inlet input) (inlet_is t is k (inlet input) e) ∙ ap (led n) (look_here t is w n old found with_it r input ∙ insert_here x.branches input (new_branch output)))
            (λ j d. (
              cells_like t is w n old found x with_it r r j refl,
              end_but t is w n old found x with_it r input j (λ q f. insert_away x.branches input q (new_branch output) f)
                  (λ h. (let both : Some j ≡ Some k = sym (spot_is t is j (inlet input) h) ∙ e in let at : j ≡ k = cc in d (sym at))),
            ))

  -- *Requests*
  pub record Changes (x : Crossbar) (notes : Journal) (c : Changed) : Type 0 where
    pub state : State (record x { branches = c.branches }) c.notes.entries
    pub grown : GrownBy notes.entries c.notes.entries

  Sub : Branches → Branches → Type 0
  Sub m less = (e : PortEnd) (b : Branch) → get less e ≡ Some b → get m e ≡ Some b

  removed_sub : (m : Branches) (input : PortEnd) → Sub m (remove m input)
  unfolding Sub
  removed_sub m input e b at = elim (same_input e input) [
    | inl same ↦ absurd (let clash : None ≡ Some b = sym (remove_here m input) ∙ ap (get (remove m input)) (sym same) ∙ at in cc clash)
    | inr d ↦ sym (remove_away m input e d) ∙ at
  ]

  leading_less : (m less : Branches) → Sub m less → Leading m → Leading less
  unfolding Sub
  leading_less m less sub l = led_less (get m) (get less) old.controller.queue old.controller.queue sub refl l

  ends_one : (x : Crossbar) (notes : Journal) (input : PortEnd) → Leading x.branches → State x notes.entries → Changes x notes (branch_ended (record { branches = x.branches; notes = notes }) input) × Leading (branch_ended (record { branches = x.branches; notes = notes }) input).branches
  ends_one x notes input leading s = by (get x.branches input) refl
    where
      by : (o : Option Branch) → get x.branches input ≡ o → Changes x notes (ended_by (record { branches = x.branches; notes = notes }) input o) × Leading (ended_by (record { branches = x.branches; notes = notes }) input o).branches
      by None e = (record { state = s; grown = grown_none notes.entries }, leading)
      by (Some b) e = (record { state = ended_state x notes input b e leading s; grown = cut_noted notes b.unfinished }, leading_less x.branches (remove x.branches input) (removed_sub x.branches input) leading)

  pub ends_all : (x : Crossbar) (notes : Journal) (inputs : List PortEnd) → Leading x.branches → State x notes.entries → Changes x notes (all_ended (record { branches = x.branches; notes = notes }) inputs)
  ends_all x notes [] leading s = record { state = s; grown = grown_none notes.entries }
  ends_all x notes (input ∷ inputs) leading s =
      let one = ends_one x notes input leading s in
      let c : Changed = branch_ended (record { branches = x.branches; notes = notes }) input in
      let rest = ends_all (record x { branches = c.branches }) c.notes inputs one.1 one.0.state in
      record { state = rest.state; grown = grown_more notes.entries c.notes.entries (all_ended c inputs).notes.entries one.0.grown rest.grown }

  adds_one : (x : Crossbar) (notes : Journal) (input output : PortEnd) → Leading (added x.branches input output) → State x notes.entries → State (record x { branches = added x.branches input output }) notes.entries
  adds_one x notes input output leading s = by (get x.branches input) refl leading
    where
      by : (o : Option Branch) → get x.branches input ≡ o → Leading (added_by x.branches input output o) → State (record x { branches = added_by x.branches input output o }) notes.entries
      by None e l = made_state x notes.entries input output e l s
      by (Some b) e l = s

  moves_one : (x : Crossbar) (notes : Journal) (input to : PortEnd) → Leading x.branches → Leading (moved_to (record { branches = x.branches; notes = notes }) input to).branches → State x notes.entries
      → Changes x notes (moved_to (record { branches = x.branches; notes = notes }) input to)
  moves_one x notes input to before after s = by (get x.branches input) refl after
    where
      again : (b : Branch) (e : PortEnd) → get (insert (remove x.branches input) input (new_branch to)) e ≡ get (insert x.branches input (new_branch to)) e
      again b e = elim (same_input e input) [
        | inl same ↦ ap (get (insert (remove x.branches input) input (new_branch to))) same ∙ insert_here (remove x.branches input) input (new_branch to) ∙ sym (ap (get (insert x.branches input (new_branch to))) same ∙ insert_here x.branches input (new_branch to))
        | inr d ↦ insert_away (remove x.branches input) input e (new_branch to) d ∙ remove_away x.branches input e d ∙ sym (insert_away x.branches input e (new_branch to) d)
      ]

      by_same : (b : Branch) → get x.branches input ≡ Some b → (v : Bool) → Leading (if v then x.branches else insert x.branches input (new_branch to))
          → Changes x notes (record { branches = if v then x.branches else insert x.branches input (new_branch to); notes = noted_cut notes (if v then None else b.unfinished) })
      by_same b e true l = record { state = s; grown = grown_none notes.entries }
      by_same b e false l = record {
        state = state_alike (record x { branches = insert (remove x.branches input) input (new_branch to) }) (record x { branches = insert x.branches input (new_branch to) }) (noted_cut notes b.unfinished).entries refl (λ q. sym (again b q))
            (made_state (record x { branches = remove x.branches input }) (noted_cut notes b.unfinished).entries input to (remove_here x.branches input)
            (led_less (get (insert x.branches input (new_branch to))) (get (insert (remove x.branches input) input (new_branch to))) old.controller.queue old.controller.queue (λ q c at. sym (again b q) ∙ at) refl l)
            (ended_state x notes input b e before s));
        grown = cut_noted notes b.unfinished;
      }

      by : (o : Option Branch) → get x.branches input ≡ o → Leading (moved_by (record { branches = x.branches; notes = notes }) input to o).branches → Changes x notes (moved_by (record { branches = x.branches; notes = notes }) input to o)
      by None e l = record { state = s; grown = grown_none notes.entries }
      by (Some b) e l = by_same b e (same_end b.output to) l

  pub requested_state : (x : Crossbar) (notes : Journal) (request : Request) → Leading x.branches → Leading (branches_after (record { branches = x.branches; notes = notes }) request).branches → State x notes.entries
      → Changes x notes (branches_after (record { branches = x.branches; notes = notes }) request)
  requested_state x notes (AddBranch input output) before after s = record { state = adds_one x notes input output after s; grown = grown_none notes.entries }
  requested_state x notes (MoveBranch input from to) before after s = moves_one x notes input to before after s
  requested_state x notes (DeleteTree input) before after s = (ends_one x notes input before s).0
  requested_state x notes (DeleteAll port) before after s = ends_all x notes (inputs_on x.branches port) before s
  requested_state x notes (PortManagement port function) before after s = by (function == 2)
    where
      by : (v : Bool) → Changes x notes (if v then deleted_all (record { branches = x.branches; notes = notes }) port else record { branches = x.branches; notes = notes })
      by true = ends_all x notes (inputs_on x.branches port) before s
      by false = record { state = s; grown = grown_none notes.entries }
  requested_state x notes (VerifyTree input) before after s = record { state = s; grown = grown_none notes.entries }
  requested_state x notes AllPorts before after s = record { state = s; grown = grown_none notes.entries }
