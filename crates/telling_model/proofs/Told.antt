-- what is told of some events, and of those behind them

use Rattle.std.proofs.Common.{◌≡◌, ℕ, suc, List, [], ◌∷◌, ◌++◌, append_assoc, refl, sym, ◌∙◌, ap}
use Rattle.script_model.specs.port_model.Setup.{Policy}
use Rattle.script_model.specs.world_model.network_model.declared.event.Event.{Event}
use Rattle.script_model.specs.world_model.Run.{next, put_away, world_after}
use Rattle.script_model.specs.world_model.Topology.{Node, Topology}
use Rattle.script_model.specs.world_model.World.{World, empty_world, opened, opens_each, with_opened}
use Rattle.telling_model.specs.Placed.{Placed, events_in, placed, placed_events}
use Rattle.telling_model.specs.Tale.{Tale, Telling, told}

-- *Events with the numbers of their lines*
pub events_placed : (line : ℕ) (events : List Event) → events_in (placed_events line events) ≡ events
events_placed line [] = refl
events_placed line (event ∷ events) = ap (λ es. event ∷ es) (events_placed line events)

pub events_append : (some others : List Placed) → events_in (some ++ others) ≡ events_in some ++ events_in others
events_append [] others = refl
events_append (p ∷ some) others = ap (λ es. p.event ∷ es) (events_append some others)

pub after_append : (t : Topology) (w : World) (some others : List Event) → world_after t w (some ++ others) ≡ world_after t (world_after t w some) others
after_append t w [] others = refl
after_append t w (event ∷ some) others = after_append t (next t w event) some others

module _ {S : Type 0} (tale : Tale S) (t : Topology) where
  -- *Of events and those behind them*
  pub octets_append : (state : S) (w : World) (some others : List Placed)
      → (told tale state t w (some ++ others)).octets
      ≡ (told tale state t w some).octets ++ (told tale (told tale state t w some).state t (world_after t w (events_in some)) others).octets
  octets_append state w [] others = refl
  octets_append state w (p ∷ some) others =
      let first : Telling S = tale.tells state t (put_away w) p in
      let v : World = next t w p.event in
      ap (λ xs. first.octets ++ xs) (octets_append first.state v some others)
      ∙ sym (append_assoc first.octets (told tale first.state t v some).octets (told tale (told tale first.state t v some).state t (world_after t v (events_in some)) others).octets)

  pub state_append : (state : S) (w : World) (some others : List Placed)
      → (told tale state t w (some ++ others)).state ≡ (told tale (told tale state t w some).state t (world_after t w (events_in some)) others).state
  state_append state w [] others = refl
  state_append state w (p ∷ some) others = state_append (tale.tells state t (put_away w) p).state (next t w p.event) some others

  -- *Records that were put away* have no part in it
  pub told_away : (state : S) (w : World) (events : List Placed) → told tale state t (put_away w) events ≡ told tale state t w events
  told_away state w [] = refl
  told_away state w (p ∷ events) = refl

  -- *Of the events of a line*
  module _ (line : ℕ) where
    pub line_octets : (state : S) (w : World) (some others : List Event)
        → (told tale state t w (placed_events line (some ++ others))).octets
        ≡ (told tale state t w (placed_events line some)).octets
        ++ (told tale (told tale state t w (placed_events line some)).state t (world_after t w some) (placed_events line others)).octets
    line_octets state w [] others = refl
    line_octets state w (event ∷ some) others =
        let first : Telling S = tale.tells state t (put_away w) (placed line event) in
        let v : World = next t w event in
        ap (λ xs. first.octets ++ xs) (line_octets first.state v some others)
        ∙ sym (append_assoc first.octets (told tale first.state t v (placed_events line some)).octets
        (told tale (told tale first.state t v (placed_events line some)).state t (world_after t v some) (placed_events line others)).octets)

    pub line_state : (state : S) (w : World) (some others : List Event)
        → (told tale state t w (placed_events line (some ++ others))).state
        ≡ (told tale (told tale state t w (placed_events line some)).state t (world_after t w some) (placed_events line others)).state
    line_state state w [] others = refl
    line_state state w (event ∷ some) others = line_state (tale.tells state t (put_away w) (placed line event)).state (next t w event) some others

-- *A network opens* without notes
opens_notes : (policy : Policy) (t : Topology) (w : World) (place : ℕ) (nodes : List Node) → (opens_each policy t w place nodes).notes ≡ w.notes
opens_notes policy t w place [] = refl
opens_notes policy t w place (node ∷ nodes) = opens_notes policy t (with_opened policy t w place node) (suc place) nodes

pub opened_notes : (policy : Policy) (t : Topology) → (opened policy t).notes ≡ record { records = []; entries = []; frames = [] }
opened_notes policy t = opens_notes policy t empty_world 1 t.nodes
