-- the node of a controller is reset or restarts

use Rattle.std.proofs.Common.{◌≡◌, ℕ, ◌+◌, ◌≤◌, false, List, [], ◌∷◌, Option, Some, None, refl, sym, ◌∙◌, ap, subst, fold, arith}
use Rattle.law_input_views.specs.world_model.Words.{End, NodeId, PortNo, Party, next_instance, with_instance, SynSent, Side, fresh, Frame, Record, noted, Desk, emptied, Action, Say, Ask, Note, CutChain, TakeBack, Withdraw, Work, restarts, Switch, Linked, linked_at, chain_of, cuts_of, cuts_default_of, cuts_default, cuts_gsmp, begins, with_work, closes_by, port_restarts_as, port_restarts_of, port_restarts, resets_gsmp, node_resets, node_restarts}
use Rattle.law_input_views.proofs.ordered_lists.Parts.{part_none}
use Rattle.law_input_views.specs.world_model.port_model.declared.action.Action.TheVariants.{Reset}
use Rattle.law_input_views.specs.law_branch_line.Line.{Line}
use Rattle.law_input_views.specs.law_branch_line.Controller.{reset_node}
use Rattle.law_input_views.specs.law_branch_line.Moves.{ControllerResets}
use Rattle.law_input_views.specs.world_model.Controller.{Acted, ports_of}
use Rattle.law_input_views.specs.law_shown_cells.Seen.{IsUnmade}
use Rattle.law_input_views.proofs.law_shown_cells.Made.{extends_self}
use Rattle.law_input_views.proofs.law_shown_cells.Tested.{cut_frames}
use Rattle.law_input_steps.specs.Part.{Part, part_at, Stands, Reaches, AnyLine, Leads}
use Rattle.law_input_steps.proofs.Goes.{goes_next, by_move, draw_to}
use Rattle.law_input_steps.proofs.Reach.{reaches_by, reaches_self, reaches_then, leads_then, stands_later}
use Rattle.law_input_steps.proofs.Queues.{gathered_loses}

-- *Still*: nothing that bears on an input changes at the controller, and no frame is made; but instances may be drawn
pub record IsStill (a b : Acted) : Type 0 where
  pub adjacency : b.controller.adjacency ≡ a.controller.adjacency
  pub desk : b.controller.desk ≡ a.controller.desk
  pub met : b.controller.has_met ≡ a.controller.has_met
  pub gathered : b.controller.reassembly ≡ a.controller.reassembly
  pub queue : b.controller.queue ≡ a.controller.queue
  pub frames : b.notes.frames ≡ a.notes.frames
  pub controls : b.numbers.controls ≡ a.numbers.controls
  pub instances : a.numbers.instances ≤ b.numbers.instances

pub still_self : (a : Acted) → IsStill a a
still_self a = record { adjacency = refl; desk = refl; met = refl; gathered = refl; queue = refl; frames = refl; controls = refl; instances = omega arith }

pub still_then : (a b c : Acted) → IsStill a b → IsStill b c → IsStill a c
still_then a b c h k = record {
  adjacency = k.adjacency ∙ h.adjacency;
  desk = k.desk ∙ h.desk;
  met = k.met ∙ h.met;
  gathered = k.gathered ∙ h.gathered;
  queue = k.queue ∙ h.queue;
  frames = k.frames ∙ h.frames;
  controls = k.controls ∙ h.controls;
  instances = omega (arith, h.instances, k.instances);
}

pub still_fold : {A : Type 0} (f : Acted → A → Acted) → ((a : Acted) (x : A) → IsStill a (f a x)) → (xs : List A) (a : Acted) → IsStill a (fold f a xs)
still_fold f each [] a = still_self a
still_fold f each (x ∷ xs) a = still_then a (f a x) (fold f (f a x) xs) (each a x) (still_fold f each xs (f a x))

module _ (node : NodeId) (input : End) where
  pub still_leads : (switch : Switch) (a b : Acted) → IsStill a b → Leads node input (part_at input switch a) (part_at input switch b)
  still_leads switch a b s line h =
      let p : Part = part_at input switch a in
      let same : part_at input switch b ≡ record p { numbers = b.numbers } = λ i. record p {
        adjacency = s.adjacency i;
        desk = s.desk i;
        met = s.met i;
        gathered = (s.gathered i).chain;
        queue = s.queue i;
        frames = s.frames i;
        numbers = b.numbers;
      } in
      reaches_self node input (part_at input switch b) line
      (subst (λ (q : Part). Stands node input q line) (sym same)
      (stands_later node input p p.frames b.numbers line (extends_self p.frames) (subst (λ (n : ℕ). IsUnmade n p.frames) (sym s.controls) h.unmade) s.instances h))

-- *Chains are cut*
pub cuts_still : (a : Acted) (label : ℕ) (o : Option Linked) → IsStill a (cuts_of a label o)
cuts_still a label None = still_self a
cuts_still a label (Some linked) = record {
  adjacency = refl;
  desk = refl;
  met = refl;
  gathered = refl;
  queue = refl;
  frames = cut_frames a.notes (chain_of linked.chains label);
  controls = refl;
  instances = omega arith;
}

default_still : (a : Acted) (o : Option Linked) → IsStill a (cuts_default_of a o)
default_still a None = still_self a
default_still a (Some linked) = record {
  adjacency = refl;
  desk = refl;
  met = refl;
  gathered = refl;
  queue = refl;
  frames = cut_frames a.notes linked.reassembly;
  controls = refl;
  instances = omega arith;
}

-- *A port restarts*
pub note_still : (a : Acted) (item : Record) → IsStill a (record a { notes = noted a.notes item })
note_still a item = record { adjacency = refl; desk = refl; met = refl; gathered = refl; queue = refl; frames = refl; controls = refl; instances = omega arith }

pub work_still : (a : Acted) (linked : Linked) (w : Work) → a.numbers.instances ≤ w.instances → IsStill a (with_work a linked w)
work_still a linked w less = record { adjacency = refl; desk = refl; met = refl; gathered = refl; queue = refl; frames = refl; controls = refl; instances = less }

closes_still : (port : PortNo) (a : Acted) (action : Action) → IsStill a (closes_by port a action)
closes_still port a (Say message) = still_self a
closes_still port a (Ask request needed) = still_self a
closes_still port a (Note item) = note_still a item
closes_still port a (CutChain label) = cuts_still a label (linked_at a.controller port)
closes_still port a (TakeBack from to) = still_self a
closes_still port a (Withdraw from) = still_self a
closes_still port a Reset = still_self a

pub restarts_still : (a : Acted) (o : Option Linked) → IsStill a (port_restarts_of a o)
restarts_still a None = still_self a
restarts_still a (Some linked) =
    let w : Work = restarts linked.setup (begins a linked) in
    still_then a (with_work a linked w) (port_restarts_as a linked w) (work_still a linked w (omega arith))
    (still_fold (closes_by linked.setup.port) (closes_still linked.setup.port) w.actions (with_work a linked w))

-- *The node is reset*
module _ (node : NodeId) (input : End) where
  abbrev pub reset_part : Part → Part
  reset_part p = record p {
    adjacency = fresh SynSent (record p.adjacency.own { instance = next_instance p.numbers });
    desk = emptied p.desk;
    met = false;
    numbers = with_instance p.numbers;
  }

  pub reset_leads : (p : Part) → Leads node input p (reset_part p)
  reset_leads p line h =
      let drawn : Line = record line { fresh = p.numbers.instances + 1 } in
      reaches_by node input (reset_part p) line (reset_node drawn)
      (goes_next line drawn (reset_node drawn) (draw_to (p.numbers.instances + 1) line h.drawn) (by_move drawn ControllerResets (reset_node drawn) refl))
      (record {
        own = record {
          side = ap (λ (s : Side Party). fresh SynSent (record s.own { instance = next_instance p.numbers })) h.own.side;
          next = λ e. absurd (cc e);
          asked = (refl, refl);
          others = refl;
          met = refl;
          phase = tt;
        };
        far = h.far;
        to_switch = h.to_switch;
        at_switch = h.at_switch;
        to_controller = h.to_controller;
        gathered = h.gathered;
        at_controller = h.at_controller;
        drawn = omega arith;
        before = h.before;
        behind = h.behind;
        unmade = h.unmade;
        numbered = record { below = tt; earlier = tt };
      })

  pub node_resets_leads : (switch : Switch) (a : Acted) → Leads node input (part_at input switch a) (part_at input switch (node_resets a))
  node_resets_leads switch a = leads_then node input (part_at input switch a) (part_at input switch (resets_gsmp a)) (part_at input switch (node_resets a))
      (reset_leads (part_at input switch a))
      (still_leads node input switch (resets_gsmp a) (node_resets a)
      (still_fold port_restarts (λ b port. restarts_still b (linked_at b.controller port)) (ports_of a.controller) (resets_gsmp a)))

  -- also from where another side was put in the place of the adjacency's
  pub reset_any : (switch : Switch) (a b : Acted) → b.controller.adjacency.own ≡ a.controller.adjacency.own
      → part_at input switch b ≡ record (part_at input switch a) { adjacency = b.controller.adjacency }
      → Leads node input (part_at input switch a) (part_at input switch (node_resets b))
  reset_any switch a b own same line h =
      reaches_then node input (part_at input switch (resets_gsmp b)) (part_at input switch (node_resets b)) AnyLine AnyLine line
      (subst (λ (p : Part). Reaches node input (reset_part p) AnyLine line) (sym same)
      (subst (λ (o : Party). Reaches node input (record (reset_part (part_at input switch a)) { adjacency = fresh SynSent (record o { instance = next_instance a.numbers }) }) AnyLine line)
      (sym own) (reset_leads (part_at input switch a) line h)))
      (λ z k also. still_leads node input switch (resets_gsmp b) (node_resets b)
      (still_fold port_restarts (λ c port. restarts_still c (linked_at c.controller port)) (ports_of b.controller) (resets_gsmp b)) z k)

  -- and from where another desk was put in the place of its own
  pub node_resets_from : (switch : Switch) (a : Acted) (desk : Desk) → desk.next ≡ a.controller.desk.next → desk.rows ≡ a.controller.desk.rows
      → Leads node input (part_at input switch a) (part_at input switch (node_resets (record a { controller = record a.controller { desk = desk } })))
  node_resets_from switch a desk next rows =
      let b : Acted = record a { controller = record a.controller { desk = desk } } in
      leads_then node input (part_at input switch a) (part_at input switch (resets_gsmp b)) (part_at input switch (node_resets b))
      (subst (λ (d : Desk). Leads node input (part_at input switch a) (record (reset_part (part_at input switch a)) { desk = d })) (λ i. record { next = sym next i; standing = []; rows = sym rows i })
      (reset_leads (part_at input switch a)))
      (still_leads node input switch (resets_gsmp b) (node_resets b)
      (still_fold port_restarts (λ c port. restarts_still c (linked_at c.controller port)) (ports_of b.controller) (resets_gsmp b)))

  -- *It restarts*: what its chain has gathered is cut too
  cuts_leads : (switch : Switch) (a : Acted) → Leads node input (part_at input switch a) (part_at input switch (cuts_gsmp a))
  cuts_leads switch a line h = subst (λ (frames : List Frame). Reaches node input (record (part_at input switch (cuts_gsmp a)) { frames = frames }) AnyLine line)
      (sym (cut_frames a.notes a.controller.reassembly))
      (gathered_loses node input (part_at input switch a) [] (part_none a.controller.reassembly.chain) line h)

  pub node_restarts_leads : (switch : Switch) (a : Acted) → Leads node input (part_at input switch a) (part_at input switch (node_restarts a))
  node_restarts_leads switch a =
      let b : Acted = node_resets a in
      leads_then node input (part_at input switch a) (part_at input switch b) (part_at input switch (node_restarts a)) (node_resets_leads switch a)
      (leads_then node input (part_at input switch b) (part_at input switch (cuts_gsmp b)) (part_at input switch (node_restarts a)) (cuts_leads switch b)
      (still_leads node input switch (cuts_gsmp b) (node_restarts a)
      (still_fold cuts_default (λ c port. default_still c (linked_at c.controller port)) (ports_of a.controller) (cuts_gsmp b))))
