-- where chains are cut and ports restart no frame is made, and the adjacency with the switch and the desk stay

use Rattle.std.proofs.Common.{◌≡◌, ℕ, ◌≤◌, List, [], ◌∷◌, Option, Some, None, refl, ◌∙◌, fold, arith}
use Rattle.law_branch_shapes.specs.world_model.Words.{PortNo, Action, Say, Ask, Note, CutChain, TakeBack, Withdraw, Work, restarts, Linked, linked_at, chain_of, cuts_of, begins, with_work, closes_by, port_restarts_as, port_restarts_of, port_restarts, resets_gsmp, node_resets}
use Rattle.law_branch_shapes.specs.world_model.port_model.declared.action.Action.TheVariants.{Reset}
use Rattle.law_branch_shapes.specs.world_model.Controller.{Acted, ports_of}
use Rattle.law_frame_readings.proofs.law_shown_cells.Tested.{cut_frames}

-- *Still*
pub record IsStill (a b : Acted) : Type 0 where
  pub adjacency : b.controller.adjacency ≡ a.controller.adjacency
  pub desk : b.controller.desk ≡ a.controller.desk
  pub frames : b.notes.frames ≡ a.notes.frames
  pub instances : a.numbers.instances ≤ b.numbers.instances

still_self : (a : Acted) → IsStill a a
still_self a = record { adjacency = refl; desk = refl; frames = refl; instances = omega arith }

still_then : (a b c : Acted) → IsStill a b → IsStill b c → IsStill a c
still_then a b c h k = record {
  adjacency = k.adjacency ∙ h.adjacency;
  desk = k.desk ∙ h.desk;
  frames = k.frames ∙ h.frames;
  instances = omega (arith, h.instances, k.instances);
}

still_fold : {A : Type 0} (f : Acted → A → Acted) → ((a : Acted) (x : A) → IsStill a (f a x)) → (xs : List A) (a : Acted) → IsStill a (fold f a xs)
still_fold f each [] a = still_self a
still_fold f each (x ∷ xs) a = still_then a (f a x) (fold f (f a x) xs) (each a x) (still_fold f each xs (f a x))

pub cuts_still : (a : Acted) (label : ℕ) (o : Option Linked) → IsStill a (cuts_of a label o)
cuts_still a label None = still_self a
cuts_still a label (Some linked) = record { adjacency = refl; desk = refl; frames = cut_frames a.notes (chain_of linked.chains label); instances = omega arith }

closes_still : (port : PortNo) (a : Acted) (action : Action) → IsStill a (closes_by port a action)
closes_still port a (Say message) = still_self a
closes_still port a (Ask request needed) = still_self a
closes_still port a (Note item) = record { adjacency = refl; desk = refl; frames = refl; instances = omega arith }
closes_still port a (CutChain label) = cuts_still a label (linked_at a.controller port)
closes_still port a (TakeBack from to) = still_self a
closes_still port a (Withdraw from) = still_self a
closes_still port a Reset = still_self a

restarts_still : (a : Acted) (o : Option Linked) → IsStill a (port_restarts_of a o)
restarts_still a None = still_self a
restarts_still a (Some linked) =
    let w : Work = restarts linked.setup (begins a linked) in
    still_then a (with_work a linked w) (port_restarts_as a linked w) (record { adjacency = refl; desk = refl; frames = refl; instances = omega arith })
    (still_fold (closes_by linked.setup.port) (closes_still linked.setup.port) w.actions (with_work a linked w))

-- a node reset, but for the adjacency and the desk, which begin anew
pub node_still : (a : Acted) → IsStill (resets_gsmp a) (node_resets a)
node_still a = still_fold port_restarts (λ b port. restarts_still b (linked_at b.controller port)) (ports_of a.controller) (resets_gsmp a)
