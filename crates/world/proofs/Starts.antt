-- where the queues of each node stand in a round, and the first one there that holds a cell

use Rattle.std.proofs.Common.{◌≡◌, ℕ, zero, suc, ◌+◌, ◌≤◌, List, [], ◌∷◌, ◌++◌, length, length-append, slice_get, slice_set, slice_index_or, Some, max, refl, sym, ◌∙◌, ap, subst, arith}
use Rattle.std.specs.Prelude.{◌<◌}
use Rattle.std.proofs.lemmas.Option.{slice_get_within}
use Rattle.net_types.specs.declared.node.Place.{Place}
use Rattle.world_model.specs.Controller.{Controller}
use Rattle.world_model.specs.Places.{queue_at}
use Rattle.world_model.proofs.Lists.{by_eq, index_here, index_set, length_set}
use Rattle.world.specs.declared.site.Site.{Site as Node}
use Rattle.world.specs.declared.world.World.{World as Network}
use Rattle.world.specs.Network.{no_notes, sites_of, world_of}
use Rattle.world.specs.NodeSet.{HasNoneIn, IsRemoved}
use Rattle.world.specs.Waiting.{AreMarked, HaveStarts, IsEmptyIn, Stands, node_place}

pub by_less : {P : Type 0} (a b : ℕ) → (a < b → P) → (b ≤ a → P) → P
by_less a zero less most = most (omega arith)
by_less zero (suc b) less most = less (omega arith)
by_less (suc a) (suc b) less most = by_less a b (λ h. less (omega (arith, h))) (λ h. most (omega (arith, h)))

get_append : {P : Type 0} (some others : List Place) (i : ℕ) (place : Place) → slice_get (some ++ others) i ≡ Some place → (slice_get some i ≡ Some place → P)
    → ((j : ℕ) → i ≡ length some + j → slice_get others j ≡ Some place → P) → P
get_append [] others i place e first second = second i (omega arith) e
get_append (p ∷ some) others zero place e first second = first e
get_append (p ∷ some) others (suc i) place e first second = get_append some others i place e first (λ j at there. second j (omega (arith, at)) there)

pub have_same : (one round : List Place) (was starts : List ℕ) (few nodes : ℕ) → HaveStarts one was few → round ≡ one → starts ≡ was → nodes ≡ few → HaveStarts round starts nodes
have_same one round was starts few nodes h rounds same count =
    subst (λ (k : ℕ). HaveStarts round starts k) (sym count) (subst (λ (ss : List ℕ). HaveStarts round ss few) (sym same) (subst (λ (ps : List Place). HaveStarts ps was few) (sym rounds) h))

-- *One node more*
pub have_more : (round ps : List Place) (starts : List ℕ) (nodes : ℕ) → HaveStarts round starts nodes → nodes < 64
    → ((j : ℕ) (place : Place) → slice_get ps j ≡ Some place → node_place place ≡ nodes)
    → HaveStarts (round ++ ps) (slice_set starts (nodes + 1) (length (round ++ ps))) (nodes + 1)
have_more round ps starts nodes h low own =
    let all : ℕ = length (round ++ ps) in
    let more : List ℕ = slice_set starts (nodes + 1) all in
    let sum : all ≡ length round + length ps = length-append round ps in
    let end : slice_index_or more (nodes + 1) 0 ≡ all = index_here starts (nodes + 1) all 0 (omega (arith, low, h.size)) in
    let kept : (k : ℕ) → k ≤ nodes → slice_index_or more k 0 ≡ slice_index_or starts k 0 = λ k le. index_set starts (nodes + 1) k all 0 (λ e. absurd (omega (arith, e, le))) in
    record {
      size = length_set starts (nodes + 1) all ∙ h.size;
      last = end;
      order = λ one other le few. by_eq other (nodes + 1)
          (λ is t. by_eq one (nodes + 1)
          (λ same u. (let both : slice_index_or more one 0 ≡ slice_index_or more other 0 = ap (λ (k : ℕ). slice_index_or more k 0) (same ∙ sym is) in omega (arith, both)))
          (λ less u. (let there : slice_index_or more other 0 ≡ all = ap (λ (k : ℕ). slice_index_or more k 0) is ∙ end in
          let below : one ≤ nodes = omega (arith, le, is, less) in
          omega (arith, there, kept one below, h.order one nodes below (omega arith), h.last, sum))))
          (λ less t. (let top : other ≤ nodes = omega (arith, few, less) in
          omega (arith, kept one (omega (arith, le, top)), kept other top, h.order one other le top)));
      stand = λ i place e. get_append round ps i place e
          (λ here. (let s : Stands starts nodes (node_place place) i = h.stand i place here in
          record {
            node = omega (arith, s.node);
            start = omega (arith, kept (node_place place) (omega (arith, s.node)), s.start);
            end = omega (arith, kept (node_place place + 1) (omega (arith, s.node)), s.end);
          }))
          (λ j at here. (let is : node_place place ≡ nodes = own j place here in
          record {
            node = omega (arith, is);
            start = omega (arith, ap (λ (k : ℕ). slice_index_or more k 0) is, kept nodes (omega arith), h.last, at);
            end = omega (arith, ap (λ (k : ℕ). slice_index_or more (k + 1) 0) is, end, at, sum, slice_get_within ps j place here);
          }));
    }

-- *Nodes that are passed*: from a place of the round on, the queues of the first so many are empty
abbrev pub ArePassed : {C : Type 0} → (C → Controller) → Network C → (from nodes : ℕ) → Type 0
ArePassed seen n from nodes = (i : ℕ) (place : Place) → from ≤ i → slice_get n.round.items i ≡ Some place → node_place place < nodes
    → queue_at (world_of seen n no_notes) place ≡ []

module _ {C : Type 0} (seen : C → Controller) (n : Network C) (starts : HaveStarts n.round.items n.starts (length n.sites.items)) (marked : AreMarked seen n) (from : ℕ) where
  pub passed_first : (place : Place) → slice_get n.round.items from ≡ Some place → ArePassed seen n from (node_place place)
  passed_first place here = λ i other low e less.
      (let s : Stands n.starts (length n.sites.items) (node_place other) i = starts.stand i other e in
      let t : Stands n.starts (length n.sites.items) (node_place place) from = starts.stand from place here in
      absurd (omega (arith, s.end, starts.order (node_place other + 1) (node_place place) (omega (arith, less)) (omega (arith, t.node)), t.start, low)))

  pub none_left : (node : ℕ) → ArePassed seen n from node → HasNoneIn n.waiting node (length n.sites.items) → IsEmptyIn seen n from (length n.round.items)
  none_left node passed none = λ i place low high e. by_less (node_place place) node
      (λ less. passed i place low e less)
      (λ most. marked i place e (none (node_place place) most (starts.stand i place e).node))

  pub all_passed : ArePassed seen n from (length n.sites.items) → IsEmptyIn seen n from (length n.round.items)
  all_passed passed = λ i place low high e. passed i place low e (starts.stand i place e).node

  -- the next node that is marked
  module _ (node next : ℕ) (passed : ArePassed seen n from node) (none : HasNoneIn n.waiting node next) (within : next < length n.sites.items) where
    pub found_there : (i : ℕ) → IsEmptyIn seen n (max from (slice_index_or n.starts next 0)) i → IsEmptyIn seen n from i
    found_there i empty = λ j place low high e. by_less (node_place place) node
        (λ less. passed j place low e less)
        (λ most. by_less (node_place place) next
        (λ less. marked j place e (none (node_place place) most less))
        (λ at. (let s : Stands n.starts (length n.sites.items) (node_place place) j = starts.stand j place e in
        empty j place (omega (arith, low, s.start, starts.order next (node_place place) at (omega (arith, s.node)))) high e)))

    pub passed_next : IsEmptyIn seen n (max from (slice_index_or n.starts next 0)) (slice_index_or n.starts (next + 1) 0) → ArePassed seen n from (next + 1)
    passed_next empty = λ i place low e few. by_less (node_place place) node
        (λ less. passed i place low e less)
        (λ most. by_less (node_place place) next
        (λ less. marked i place e (none (node_place place) most less))
        (λ at. (let s : Stands n.starts (length n.sites.items) (node_place place) i = starts.stand i place e in
        let is : node_place place ≡ next = omega (arith, few, at) in
        empty i place
        (omega (arith, low, s.start, ap (λ (k : ℕ). slice_index_or n.starts k 0) is))
        (omega (arith, s.end, ap (λ (k : ℕ). slice_index_or n.starts (k + 1) 0) is)) e)))

    -- all queues of the node are empty
    pub mark_taken : (new : Network C) → new.sites.items ≡ n.sites.items → new.round.items ≡ n.round.items → IsRemoved n.waiting new.waiting next → from ≤ slice_index_or n.starts next 0
        → IsEmptyIn seen n (max from (slice_index_or n.starts next 0)) (slice_index_or n.starts (next + 1) 0) → AreMarked seen new
    mark_taken new sites round gone low empty = λ i place e no.
        (let there : slice_get n.round.items i ≡ Some place = ap (λ (ps : List Place). slice_get ps i) (sym round) ∙ e in
        let was : queue_at (world_of seen n no_notes) place ≡ [] = by_eq (node_place place) next
        (λ is t. (let s : Stands n.starts (length n.sites.items) (node_place place) i = starts.stand i place there in
        empty i place
        (omega (arith, low, s.start, ap (λ (k : ℕ). slice_index_or n.starts k 0) is))
        (omega (arith, s.end, ap (λ (k : ℕ). slice_index_or n.starts (k + 1) 0) is)) there))
        (λ away t. marked i place there (sym (gone.others (node_place place) away) ∙ no)) in
        ap (λ (xs : List (Node C)). queue_at (record (world_of seen n no_notes) { sites = sites_of seen xs }) place) sites ∙ was)

    pub starts_within : slice_index_or n.starts (next + 1) 0 ≤ length n.round.items
    starts_within = omega (arith, starts.order (next + 1) (length n.sites.items) (omega (arith, within)) (omega arith), starts.last)

-- *One queue more* is empty
pub no_cells : {A : Type 0} (xs : List A) → length xs ≡ 0 → xs ≡ []
no_cells [] e = refl
no_cells (x ∷ xs) e = absurd (omega (arith, e))

pub empty_more : {C : Type 0} (seen : C → Controller) (n : Network C) (from i : ℕ) (queue : Place) → IsEmptyIn seen n from i → slice_get n.round.items i ≡ Some queue
    → queue_at (world_of seen n no_notes) queue ≡ [] → IsEmptyIn seen n from (i + 1)
empty_more seen n from i queue empty here none = λ k place low high e. by_less k i
    (λ less. empty k place low less e)
    (λ most. (let is : i ≡ k = omega (arith, high, most) in
    let found : slice_get n.round.items i ≡ Some place = ap (slice_get n.round.items) is ∙ e in
    let same : queue ≡ place = cc in
    subst (λ (p : Place). queue_at (world_of seen n no_notes) p ≡ []) same none))
