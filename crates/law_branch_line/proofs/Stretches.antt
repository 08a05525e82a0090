-- the exchanges at the places of a trip where things happen: at its end, where the controller
-- speaks; at its head, where it takes; at the switch; and anywhere, where messages are lost

use Rattle.std.proofs.Common.{ℕ, List, [], ◌∷◌, ◌++◌, map, append_assoc}
use Rattle.std.proofs.lemmas.List.{map-append}
use Rattle.ordered_lists.proofs.Exchange.{exchange_head, exchange_block}
use Rattle.ordered_lists.proofs.Parts.{IsPart, part_whole, part_join, part_mapped, holds_part}
use Rattle.law_branch_line.specs.Words.{ToSwitch, ToController}
use Rattle.law_branch_line.specs.Line.{Asked, Controller, Switch, Line, way_to_switch, way_to_controller}
use Rattle.law_branch_line.specs.Asking.{say}
use Rattle.law_branch_line.specs.Switch.{reply}
use Rattle.law_branch_line.proofs.Trip.{Item, Up, Down, Last, Fits, Before, Good, here, trip_after, trip}
use Rattle.law_branch_line.proofs.Kept.{FitsFor, BeforeFor, GoodFor}
use Rattle.law_branch_line.proofs.Exchanges.{Changes, Keeps, Takes}

abbrev pub ChangesFor : (before after : Controller) → (ys xs : List Item) → Type 0
ChangesFor c c' ys xs =
    Changes c.adjacency.own c.next c.asked c'.adjacency.own c'.next c'.asked ys xs

abbrev pub KeepsFor : Controller → (ys xs : List Item) → Type 0
KeepsFor c ys xs = Keeps c.adjacency.own c.next c.asked ys xs

-- the controller says something
pub at_end : (c c' : Controller) (w : Line) (m : ToSwitch)
    → ChangesFor c c' (Last ∷ []) (Down m ∷ Last ∷ []) → GoodFor c (trip w)
    → GoodFor c' (trip (say w (m ∷ [])))
at_end c c' w m change good =
    let front : List Item = map Up (way_to_controller w) ++ (here w.switch ∷ map Down (way_to_switch w)) in
    let before : GoodFor c (front ++ ((Last ∷ []) ++ [])) =
    simp (map-append, append_assoc) (simp (map-append, append_assoc) at good) in
    let after : GoodFor c' (front ++ ((Down m ∷ Last ∷ []) ++ [])) =
    exchange_block (FitsFor c) (FitsFor c') (BeforeFor c) (BeforeFor c') front (Last ∷ []) []
    (Down m ∷ Last ∷ []) change before in
    simp (map-append, append_assoc) (simp (map-append, append_assoc) at after)

-- it says nothing, but its record changes
pub at_rest : (c c' : Controller) (w : Line) → ChangesFor c c' (Last ∷ []) (Last ∷ []) → GoodFor c (trip w)
    → GoodFor c' (trip w)
at_rest c c' w change good =
    let front : List Item = map Up (way_to_controller w) ++ (here w.switch ∷ map Down (way_to_switch w)) in
    let before : GoodFor c (front ++ ((Last ∷ []) ++ [])) = simp append_assoc good in
    let after : GoodFor c' (front ++ ((Last ∷ []) ++ [])) =
    exchange_block (FitsFor c) (FitsFor c') (BeforeFor c) (BeforeFor c') front (Last ∷ []) []
    (Last ∷ []) change before in
    simp append_assoc at after

-- it takes a message, and its record changes
pub at_head : (d k : ℕ) (a : Asked) (k' : ℕ) (a' : Asked) (m : ToController) (rest : List Item)
    → Takes d k a k' a' (Up m) → Good d k a (Up m ∷ rest) → Good d k' a' rest
at_head d k a k' a' m rest change good =
    exchange_head (Fits d k a) (Fits d k' a') (Before a) (Before a') (Up m ∷ []) rest [] change good

-- the switch changes
pub at_switch : (c : Controller) (w : Line) (s : Switch) (taken : List ToSwitch)
    → KeepsFor c (here w.switch ∷ map Down taken) (here s ∷ []) → GoodFor c (trip_after taken w)
    → GoodFor c (trip (record w { switch = s }))
at_switch c w s taken change good =
    let rest : List Item = map Down (way_to_switch w) ++ (Last ∷ []) in
    let before : GoodFor c (map Up (way_to_controller w) ++ ((here w.switch ∷ map Down taken) ++ rest)) =
    simp (map-append, append_assoc) (simp (map-append, append_assoc) at good) in
    exchange_block (FitsFor c) (FitsFor c) (BeforeFor c) (BeforeFor c) (map Up (way_to_controller w))
    (here w.switch ∷ map Down taken) rest (here s ∷ []) change before

-- it changes, and says something
pub from_switch : (c : Controller) (w : Line) (s : Switch) (taken : List ToSwitch) (m : ToController)
    → KeepsFor c (here w.switch ∷ map Down taken) (Up m ∷ here s ∷ []) → GoodFor c (trip_after taken w)
    → GoodFor c (trip (reply (record w { switch = s }) (m ∷ [])))
from_switch c w s taken m change good =
    let front : List Item = map Up (way_to_controller w) in
    let rest : List Item = map Down (way_to_switch w) ++ (Last ∷ []) in
    let before : GoodFor c (front ++ ((here w.switch ∷ map Down taken) ++ rest)) =
    simp (map-append, append_assoc) (simp (map-append, append_assoc) at good) in
    let after : GoodFor c (front ++ ((Up m ∷ here s ∷ []) ++ rest)) =
    exchange_block (FitsFor c) (FitsFor c) (BeforeFor c) (BeforeFor c) front
    (here w.switch ∷ map Down taken) rest (Up m ∷ here s ∷ []) change before in
    simp (map-append, append_assoc) (simp (map-append, append_assoc) at after)

-- less is on the way
pub on_the_way : (c : Controller) (w : Line) (up : List ToController) (down : List ToSwitch)
    → IsPart up (way_to_controller w) → IsPart down (way_to_switch w) → GoodFor c (trip w)
    → GoodFor c (map Up up ++ (here w.switch ∷ (map Down down ++ (Last ∷ []))))
on_the_way c w up down p q good =
    holds_part (FitsFor c) (BeforeFor c) (part_join (part_mapped Up p)
    (part_join (part_whole (here w.switch ∷ [])) (part_join (part_mapped Down q) (part_whole (Last ∷ []))))) good
