-- what an end does at an event, as acts of an exchange

use Rattle.std.proofs.Common.{◌≡◌, List, [], ◌∷◌, ◌++◌, append-nil, append_assoc, map, fold, refl, sym, ◌∙◌, ap}
use Rattle.world_model.specs.Words.{Peer, Said, Side, fresh, received}
use Rattle.law_live_waking.specs.law_live_meetings.Exchange.{ifmp, heard, side_after, said_in, Ends, swapped, Act, Hears, IsCleared, HearsElse, acts, Turn, AtOne, AtOther, turns}
use Rattle.law_live_waking_links.specs.Law.{IsLeftBy, stays, is_cleared, hears_else}

-- *Ends* by their sides and by what comes to them
abbrev pub ends_as : (side far_side : Side Peer) (comes far_comes : List (Said Peer)) → Ends Peer
ends_as side far_side comes far_comes = record { one = record { side = side; comes = comes }; other = record { side = far_side; comes = far_comes } }

-- *An end acts*: it hears these first, has this side then, and says these
pub record EndActs (side : Side Peer) (hears : List (Said Peer)) (after : Side Peer) (said : List (Said Peer)) : Type 0 where
  pub done : List (Act Peer)
  pub goes : (far_side : Side Peer) (later far_comes : List (Said Peer))
      → fold (acts ifmp) (ends_as side far_side (hears ++ later) far_comes) done ≡ ends_as after far_side later (far_comes ++ said)

nothing_more : (side far_side : Side Peer) (later far_comes : List (Said Peer)) → ends_as side far_side later far_comes ≡ ends_as side far_side later (far_comes ++ [])
nothing_more side far_side later far_comes = ap (ends_as side far_side later) (sym (append-nil far_comes))

pub left_acts : (side after : Side Peer) → IsLeftBy side after → EndActs side [] after []
left_acts side _ stays = record { done = []; goes = λ far_side later far_comes. nothing_more side far_side later far_comes }
left_acts side _ is_cleared = record { done = IsCleared ∷ []; goes = λ far_side later far_comes. nothing_more _ far_side later far_comes }
left_acts side _ hears_else = record { done = HearsElse ∷ []; goes = λ far_side later far_comes. nothing_more _ far_side later far_comes }

pub heard_acts : (side : Side Peer) (message : Said Peer) (drawn : Peer)
    → EndActs side (message ∷ []) (side_after (fresh ifmp.first drawn) (received ifmp.same side (heard ifmp message)).answer (received ifmp.same side (heard ifmp message)).side)
    (said_in (received ifmp.same side (heard ifmp message)).answer)
heard_acts side message drawn = record { done = Hears drawn ∷ []; goes = λ far_side later far_comes. refl }

-- *Both ends act*
at_one : (done : List (Act Peer)) (ends : Ends Peer) → fold (turns ifmp) ends (map AtOne done) ≡ fold (acts ifmp) ends done
at_one [] ends = refl
at_one (act ∷ done) ends = at_one done (acts ifmp ends act)

at_other : (done : List (Act Peer)) (ends : Ends Peer) → fold (turns ifmp) ends (map AtOther done) ≡ swapped (fold (acts ifmp) (swapped ends) done)
at_other [] ends = refl
at_other (act ∷ done) ends = at_other done (swapped (acts ifmp (swapped ends) act))

pub fold_join : (xs ys : List (Turn Peer)) (ends : Ends Peer) → fold (turns ifmp) ends (xs ++ ys) ≡ fold (turns ifmp) (fold (turns ifmp) ends xs) ys
fold_join [] ys ends = refl
fold_join (x ∷ xs) ys ends = fold_join xs ys (turns ifmp ends x)

module _ (side far_side after far_after : Side Peer) (hears far_hears said far_said : List (Said Peer)) (near : EndActs side hears after said) (far_end : EndActs far_side far_hears far_after far_said) where
  abbrev pub both_done : List (Turn Peer)
  both_done = map AtOne near.done ++ map AtOther far_end.done

  pub both_act : (later far_later : List (Said Peer))
      → fold (turns ifmp) (ends_as side far_side (hears ++ later) (far_hears ++ far_later)) both_done ≡ ends_as after far_after (later ++ far_said) (far_later ++ said)
  both_act later far_later =
      let first : Ends Peer = ends_as side far_side (hears ++ later) (far_hears ++ far_later) in
      fold_join (map AtOne near.done) (map AtOther far_end.done) first
      ∙ (ap (λ (e : Ends Peer). fold (turns ifmp) e (map AtOther far_end.done))
      (at_one near.done first ∙ (near.goes far_side later (far_hears ++ far_later) ∙ ap (ends_as after far_side later) (append_assoc far_hears far_later said)))
      ∙ (at_other far_end.done (ends_as after far_side later (far_hears ++ (far_later ++ said)))
      ∙ ap (λ (e : Ends Peer). swapped e) (far_end.goes after (far_later ++ said) later)))
