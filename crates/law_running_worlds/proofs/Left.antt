-- sites are put, queues lose their heads: what is left stays

use Rattle.std.proofs.Common.{◌≡◌, ◌≢◌, ℕ, ◌≤◌, zero, suc, List, [], ◌∷◌, length, Some, refl, sym, ◌∙◌, ap, subst, arith, slice_set, slice_index_or}
use Rattle.law_branch_shapes.specs.world_model.Words.{NodeId, Place, Down, Up, Out, Cell, Frame, payload_of, queue_of, control_port, Setup, World, Site, site_at, with_site, queue_in, with_queue_in}
use Rattle.law_frame_readings.specs.ordered_lists.Ordered.{Every}
use Rattle.law_frame_readings.proofs.law_port_facts.Keyed.{by_eq}
use Rattle.law_input_events.specs.Coming.{CanLose}
use Rattle.law_input_events.proofs.Sites.{put_at}
use Rattle.law_running_worlds.specs.New.{AsksShaped, TellsUp, SinceThen, control_mark}
use Rattle.law_running_worlds.proofs.Cells.{IsEither, since_more}
use Rattle.law_running_worlds.specs.Mode.{Told, Untold}
use Rattle.law_running_worlds.specs.Left.{OldAsks, OldTells, port_list, Left, IsKnown, known}

-- *A site is put* in the place of one
same_node : (a b : NodeId) → a.0 ≡ b.0 → a ≡ b
same_node a b e = ap (λ (n : ℕ). record { 0 = n }) e

pub each_put : (P : Site → Type 0) (w : World) (node : NodeId) (site after : Site) → site_at w node ≡ Some site → after.controller.node ≡ site.controller.node → P after → ((n : NodeId) (x : Site) → site_at w n ≡ Some x → P x)
    → (n : NodeId) (x : Site) → site_at (with_site w after) n ≡ Some x → P x
each_put P w node site after found same here others n x there = by_eq n.0 node.0
    (λ e t. (let own : site_at (with_site w after) n ≡ Some after = subst (λ (m : NodeId). site_at (with_site w after) m ≡ Some after) (sym (same_node n node e)) put.0 in
    let both : Some after ≡ Some x = sym own ∙ there in
    let is : after ≡ x = cc both in
    subst P is here))
    (λ apart t. others n x (sym (put.1 n apart) ∙ there))
  where
    put : (site_at (with_site w after) node ≡ Some after) × ((other : NodeId) → other.0 ≢ node.0 → site_at (with_site w after) other ≡ site_at w other)
    put = put_at w node site after found same

module _ (began : List Frame) (marks : ℕ) where
  -- *More frames* are made elsewhere
  pub left_more : (old new : List Frame) (m n : ℕ) (setups : List Setup) (site : Site) → m ≤ n → ((k : ℕ) → k ≤ m → payload_of new (control_mark k) ≡ payload_of old (control_mark k)) → Left began marks old m setups site → Left began marks new n setups site
  left_more old new m n setups site le same h = record {
    to_switch = since_more (OldAsks setups began marks) (AsksShaped setups) began marks site.controller.queue old new m n le same h.to_switch;
    chain = h.chain;
    to_controller = since_more (OldTells (port_list setups) began marks) (TellsUp (port_list setups)) began marks (queue_of site.switch.crossbar control_port) old new m n le same h.to_controller;
    gathered = h.gathered;
    up = h.up;
    knows = h.knows;
  }

  -- *A queue loses its head*
  fewer : (Old : Cell → Type 0) (Good : List ℕ → Type 0) (frames : List Frame) (controls : ℕ) (queue : List Cell) (cell : Cell) (cells : List Cell) → queue ≡ cell ∷ cells → SinceThen Old Good began marks queue frames controls
      → SinceThen Old Good began marks cells frames controls
  fewer Old Good frames controls queue cell cells is h = record { given = h.given; same = h.same; cells = (subst (Every (IsEither Old Good began marks frames controls)) is h.cells).1 }

  -- and its head is an old cell or a new one
  pub head_of : (Old : Cell → Type 0) (Good : List ℕ → Type 0) (frames : List Frame) (controls : ℕ) (queue : List Cell) (cell : Cell) (cells : List Cell) → queue ≡ cell ∷ cells → SinceThen Old Good began marks queue frames controls
      → IsEither Old Good began marks frames controls cell
  head_of Old Good frames controls queue cell cells is h = (subst (Every (IsEither Old Good began marks frames controls)) is h.cells).0

  set_first : (queues : List (List Cell)) (cells : List Cell) → 1 ≤ length queues → slice_index_or (slice_set queues 0 cells) 0 [] ≡ cells
  set_first [] cells some = absurd (omega (arith, some))
  set_first (q ∷ queues) cells some = refl

  set_behind : (queues : List (List Cell)) (k : ℕ) (cells : List Cell) → slice_index_or (slice_set queues (suc k) cells) 0 [] ≡ slice_index_or queues 0 []
  set_behind [] k cells = refl
  set_behind (q ∷ queues) k cells = refl

  set_other : (queues : List (List Cell)) (k : ℕ) (cells : List Cell) → 1 ≤ k → slice_index_or (slice_set queues k cells) 0 [] ≡ slice_index_or queues 0 []
  set_other queues zero cells above = absurd (omega (arith, above))
  set_other queues (suc k) cells above = set_behind queues k cells

  pub left_shorter : (frames : List Frame) (controls : ℕ) (setups : List Setup) (place : Place) (site : Site) (cell : Cell) (cells : List Cell) → CanLose place → queue_in site place ≡ cell ∷ cells → 1 ≤ length site.switch.crossbar.queues
      → Left began marks frames controls setups site → Left began marks frames controls setups (with_queue_in site place cells)
  left_shorter frames controls setups (Down node) site cell cells may is some h = record {
    to_switch = fewer (OldAsks setups began marks) (AsksShaped setups) frames controls site.controller.queue cell cells is h.to_switch;
    chain = h.chain;
    to_controller = h.to_controller;
    gathered = h.gathered;
    up = h.up;
    knows = known_by h.knows;
  }
    where
      known_by : IsKnown setups site.controller → IsKnown setups (with_queue_in site (Down node) cells).controller
      known_by (known Told k) = known Told k
      known_by (known Untold k) = known Untold k
  left_shorter frames controls setups (Up node) site cell cells may is some h = record {
    to_switch = h.to_switch;
    chain = h.chain;
    to_controller = subst (λ (q : List Cell). SinceThen (OldTells (port_list setups) began marks) (TellsUp (port_list setups)) began marks q frames controls) (sym (set_first site.switch.crossbar.queues cells some))
        (fewer (OldTells (port_list setups) began marks) (TellsUp (port_list setups)) frames controls (queue_of site.switch.crossbar control_port) cell cells is h.to_controller);
    gathered = h.gathered;
    up = h.up;
    knows = h.knows;
  }
  left_shorter frames controls setups (Out node port) site cell cells may is some h = record {
    to_switch = h.to_switch;
    chain = h.chain;
    to_controller = subst (λ (q : List Cell). SinceThen (OldTells (port_list setups) began marks) (TellsUp (port_list setups)) began marks q frames controls) (sym (set_other site.switch.crossbar.queues port.0 cells may)) h.to_controller;
    gathered = h.gathered;
    up = h.up;
    knows = h.knows;
  }
