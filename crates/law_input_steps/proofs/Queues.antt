-- cells leave the queues and the chains of the control link: they are lost, or go on

use Rattle.std.proofs.Common.{◌≡◌, List, [], ◌∷◌, ◌++◌, refl, sym, ap, subst}
use Rattle.law_input_views.specs.world_model.Words.{End, NodeId, Cell}
use Rattle.law_input_views.proofs.ordered_lists.Parts.{IsPart, none, kept, left}
use Rattle.law_input_views.specs.law_branch_line.Words.{ToSwitch}
use Rattle.law_input_views.specs.law_branch_line.Line.{Line}
use Rattle.law_input_views.specs.law_branch_line.Moves.{CarryToSwitch, carry_to_switch}
use Rattle.law_input_views.specs.law_shown_cells.Seen.{Seen, Shows, nothing, hidden, word}
use Rattle.law_input_views.proofs.law_shown_cells.Shows.{First, no_word, a_word, first_of, shows_join, one_word, one_hidden, shows_behind}
use Rattle.law_input_views.specs.Words.{erased, erased_back, seen_request, seen_answer, seen_cell}
use Rattle.law_input_views.specs.Shown.{controller_of, switch_of, ShowsRequests, ShowsAnswers}
use Rattle.law_input_steps.specs.Part.{Part, Stands, Reaches, AnyLine, Leads}
use Rattle.law_input_steps.proofs.Goes.{stays, by_move, lose_to_switch, lose_at_switch, lose_to_controller}
use Rattle.law_input_steps.proofs.Reach.{reaches_by}

-- *Fewer cells* show fewer words
pub record Fewer {W : Type 0} (drop : W → W) (f : Cell → Seen W) (cells : List Cell) (words : List W) : Type 0 where
  pub left : List W
  pub shows : Shows drop f cells left
  pub part : IsPart left words

pub fewer : {W : Type 0} {drop : W → W} {f : Cell → Seen W} {cs ds : List Cell} {ts : List W} → IsPart ds cs → Shows drop f cs ts → Fewer drop f ds ts
fewer none nothing = record { left = []; shows = nothing; part = none }
fewer (kept p) (hidden e h) =
    let k = fewer p h in
    record { left = k.left; shows = hidden e k.shows; part = k.part }
fewer (kept p) (word {cell} {cells} {w} e h) =
    let k = fewer p h in
    record { left = w ∷ k.left; shows = word e k.shows; part = kept k.part }
fewer (left p) (hidden e h) = fewer p h
fewer (left p) (word e h) =
    let k = fewer p h in
    record { left = k.left; shows = k.shows; part = left k.part }

part_of_none : {A : Type 0} {xs : List A} → IsPart xs [] → xs ≡ []
part_of_none none = refl

module _ (node : NodeId) (input : End) where
  -- *Lost* from the queue to the switch, from its chain, from what waits for the controller and from its chain
  pub queue_loses : (p : Part) (cells : List Cell) → IsPart cells p.queue → Leads node input p (record p { queue = cells })
  queue_loses p cells part line h =
      let k : Fewer erased (seen_cell (seen_request (controller_of node) (switch_of node) input) p.frames) cells line.to_switch = fewer part h.to_switch in
      reaches_by node input (record p { queue = cells }) line (record line { to_switch = k.left }) (lose_to_switch line k.part)
      (record {
        own = h.own;
        far = h.far;
        to_switch = k.shows;
        at_switch = h.at_switch;
        to_controller = h.to_controller;
        gathered = h.gathered;
        at_controller = h.at_controller;
        drawn = h.drawn;
        before = h.before;
        behind = h.behind;
        unmade = h.unmade;
        numbered = h.numbered;
      })

  pub chain_loses : (p : Part) (cells : List Cell) → IsPart cells p.chain → Leads node input p (record p { chain = cells })
  chain_loses p cells part line h =
      let k : Fewer erased (seen_cell (seen_request (controller_of node) (switch_of node) input) p.frames) cells line.at_switch = fewer part h.at_switch in
      reaches_by node input (record p { chain = cells }) line (record line { at_switch = k.left }) (lose_at_switch line k.part)
      (record {
        own = h.own;
        far = h.far;
        to_switch = h.to_switch;
        at_switch = k.shows;
        to_controller = h.to_controller;
        gathered = h.gathered;
        at_controller = h.at_controller;
        drawn = h.drawn;
        before = h.before;
        behind = h.behind;
        unmade = h.unmade;
        numbered = h.numbered;
      })

  pub back_loses : (p : Part) (cells : List Cell) → IsPart cells p.back → Leads node input p (record p { back = cells })
  back_loses p cells part line h =
      let k : Fewer erased_back (seen_cell (seen_answer (switch_of node) (controller_of node) input) p.frames) cells line.to_controller = fewer part h.to_controller in
      reaches_by node input (record p { back = cells }) line (record line { to_controller = k.left }) (lose_to_controller line k.part)
      (record {
        own = h.own;
        far = h.far;
        to_switch = h.to_switch;
        at_switch = h.at_switch;
        to_controller = k.shows;
        gathered = h.gathered;
        at_controller = h.at_controller;
        drawn = h.drawn;
        before = h.before;
        behind = h.behind;
        unmade = h.unmade;
        numbered = h.numbered;
      })

  pub gathered_loses : (p : Part) (cells : List Cell) → IsPart cells p.gathered → Leads node input p (record p { gathered = cells })
  gathered_loses p cells part line h =
      let k : Fewer erased_back (seen_cell (seen_answer (switch_of node) (controller_of node) input) p.frames) cells [] = fewer part h.gathered in
      reaches_by node input (record p { gathered = cells }) line line (stays line)
      (record {
        own = h.own;
        far = h.far;
        to_switch = h.to_switch;
        at_switch = h.at_switch;
        to_controller = h.to_controller;
        gathered = subst (ShowsAnswers node input p.frames cells) (part_of_none k.part) k.shows;
        at_controller = h.at_controller;
        drawn = h.drawn;
        before = h.before;
        behind = h.behind;
        unmade = h.unmade;
        numbered = h.numbered;
      })

  -- *Kept*: the first cell joins the chain of the switch
  carried : (p : Part) (cell : Cell) (cells : List Cell) (line : Line) (words : List ToSwitch) → line.to_switch ≡ words → Stands node input p line
      → First erased (seen_cell (seen_request (controller_of node) (switch_of node) input) p.frames) cell cells words
      → Reaches node input (record p { queue = cells; chain = p.chain ++ cell ∷ [] }) AnyLine line
  carried p cell cells line words is h (no_word e rest) = reaches_by node input (record p { queue = cells; chain = p.chain ++ cell ∷ [] }) line line (stays line)
      (record {
        own = h.own;
        far = h.far;
        to_switch = subst (ShowsRequests node input p.frames cells) (sym is) rest;
        at_switch = shows_behind h.at_switch (one_hidden e);
        to_controller = h.to_controller;
        gathered = h.gathered;
        at_controller = h.at_controller;
        drawn = h.drawn;
        before = h.before;
        behind = h.behind;
        unmade = h.unmade;
        numbered = h.numbered;
      })
  carried p cell cells line words is h (a_word {t} {ts} e rest) =
      reaches_by node input (record p { queue = cells; chain = p.chain ++ cell ∷ [] }) line (record line { at_switch = line.at_switch ++ t ∷ []; to_switch = ts })
      (by_move line CarryToSwitch (record line { at_switch = line.at_switch ++ t ∷ []; to_switch = ts }) (ap (carry_to_switch line) is))
      (record {
        own = h.own;
        far = h.far;
        to_switch = rest;
        at_switch = shows_join h.at_switch (one_word e);
        to_controller = h.to_controller;
        gathered = h.gathered;
        at_controller = h.at_controller;
        drawn = h.drawn;
        before = h.before;
        behind = h.behind;
        unmade = h.unmade;
        numbered = h.numbered;
      })

  pub queue_carries : (p : Part) (cell : Cell) (cells : List Cell) → p.queue ≡ cell ∷ cells → Leads node input p (record p { queue = cells; chain = p.chain ++ cell ∷ [] })
  queue_carries p cell cells is line h = carried p cell cells line line.to_switch refl h (first_of (subst (λ (z : List Cell). ShowsRequests node input p.frames z line.to_switch) is h.to_switch))
