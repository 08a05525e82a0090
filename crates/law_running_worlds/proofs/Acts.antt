-- an actor acts: what is said between a controller and its switch is what may be said

use Rattle.std.proofs.Common.{◌≡◌, ℕ, ◌≤◌, List, ◌∷◌, length, Option, None, Some, refl, sym, ◌∙◌, ap, subst, arith, inr}
use Rattle.std.specs.FinMap.{get}
use Rattle.law_branch_shapes.specs.world_model.Words.{End, NodeId, PortNo, GivenOut, IsLinkPort, queue_of, Frame, payload_of, Journal, control_port, numbers_of, Setup, World, Site, site_at, with_site, controller_acts, switch_acts, FitsRows}
use Rattle.law_frame_readings.specs.ordered_lists.Ordered.{Every}
use Rattle.law_branch_shapes.specs.world_model.Switch as switches
use Rattle.law_branch_shapes.specs.world_model.Controller.{Acted, ports_of}
use Rattle.law_frame_readings.specs.law_controller_facts.Sound.{IsSound}
use Rattle.law_input_events.specs.law_controller.Order.{IsOrderly}
use Rattle.law_input_events.specs.law_controller.Match.{IsMatched}
use Rattle.law_input_events.proofs.law_controller.Whole.{Whole}
use Rattle.law_branch_shapes.specs.world_model.World.{at_controller, at_switch}
use Rattle.law_input_events.specs.law_input_steps.Hearing.{LeadsAway}
use Rattle.law_input_events.proofs.law_input_premises.Reading.{are_read}
use Rattle.law_input_events.specs.Coming.{GoesByLinks, TellsPorts}
use Rattle.law_frame_readings.specs.law_world_views.Between.{EachSite, setups_of}
use Rattle.law_frame_readings.specs.law_world_views.Shown.{acting}
use Rattle.law_running_worlds.specs.Mode.{Mode, Knows}
use Rattle.law_running_worlds.specs.New.{AsksShaped, TellsUp, control_mark}
use Rattle.law_running_worlds.proofs.Asking as asking
use Rattle.law_running_worlds.proofs.Answers as answers
use Rattle.law_running_worlds.specs.Calls.{in_mode}
use Rattle.law_running_worlds.proofs.Answers.{ports_are}
use Rattle.law_running_worlds.proofs.Switches as switching
use Rattle.law_running_worlds.proofs.Cells.{since_more}
use Rattle.law_running_worlds.specs.Left.{OldAsks, OldTells, port_list, Left, IsKnown, known, IsLeft}
use Rattle.law_running_worlds.proofs.Left.{each_put, left_more}

-- *What is so of a site* before it acts
pub record IsFirm (site : Site) : Type 0 where
  pub links : Every (λ (setup : Setup). IsLinkPort setup.port) (setups_of site.controller)
  pub sound : IsSound (setups_of site.controller) site.controller
  pub order : IsOrderly site.controller
  pub matched : IsMatched site.controller.ports site.controller.desk
  pub rows : FitsRows site.controller.desk.rows
  pub by_links : GoesByLinks site.controller
  pub queues : length site.switch.crossbar.queues ≡ 9
  pub tells : TellsPorts site.switch.ports
  pub same_ports : numbers_of site.switch.ports ≡ control_port ∷ ports_of site.controller
  pub away : (input : End) → LeadsAway (get site.switch.crossbar.branches input)

pub whole_of : (site : Site) (notes : Journal) (given : GivenOut) → IsFirm site → Whole (setups_of site.controller) (record { controller = site.controller; notes = notes; numbers = given })
whole_of site notes given f = record {
  sound = f.sound;
  order = f.order;
  fits = record {
    granted = f.matched.granted;
    joined = f.matched.joined;
    deleting = λ q m input e t. inr (f.matched.deleting q m input e t);
    once = f.matched.once;
    moving = λ t. f.matched.moving;
  };
}

module _ (began : List Frame) (marks : ℕ) where
  abbrev pub Fine : (setups : List Setup) → Every (λ (setup : Setup). IsLinkPort setup.port) setups → Mode → Acted → Type 0
  Fine setups links = asking.Fine setups links (OldAsks setups began marks) (OldTells (port_list setups) began marks) began marks

  abbrev pub Ends : (setups : List Setup) → Every (λ (setup : Setup). IsLinkPort setup.port) setups → Acted → Type 0
  Ends setups links = answers.Goes setups links (OldAsks setups began marks) (OldTells (port_list setups) began marks) began marks

  abbrev pub FineSwitch : List Setup → switches.ActedSwitch → Type 0
  FineSwitch setups = switching.Fine setups (OldTells (port_list setups) began marks) (OldAsks setups began marks) began marks

  -- *A world* in which nothing was made yet
  pub record Begins (w : World) : Type 0 where
    pub frames : w.notes.frames ≡ began
    pub controls : w.numbers.controls ≡ marks
    pub left : EachSite w (λ node site. IsLeft began marks w.notes.frames w.numbers.controls site)

  abbrev pub AllLeft : World → Type 0
  AllLeft w = EachSite w (λ node site. IsLeft began marks w.notes.frames w.numbers.controls site)

  -- what was made since: the frames under the marks that were given out stay
  same_since : (frames : List Frame) (controls : ℕ) (new : List Frame) → frames ≡ began → controls ≡ marks → ((k : ℕ) → k ≤ marks → payload_of new (control_mark k) ≡ payload_of began (control_mark k))
      → (k : ℕ) → k ≤ controls → payload_of new (control_mark k) ≡ payload_of frames (control_mark k)
  same_since frames controls new is given same k low = subst (λ (f : List Frame). payload_of new (control_mark k) ≡ payload_of f (control_mark k)) (sym is) (same k (subst (λ (m : ℕ). k ≤ m) given low))

  more_than : (m n k : ℕ) → m ≡ n → n ≤ k → m ≤ k
  more_than m n k e le = omega (arith, e, le)

  -- *A controller acts*
  pub fine_known : (w : World) (node : NodeId) (site : Site) (found : site_at w node ≡ Some site) → Begins w → (f : IsFirm site) (m : Mode) → Knows (setups_of site.controller) m site.controller → Fine (setups_of site.controller) f.links m (acting w site)
  fine_known w node site found b f m k = record {
    queue = (b.left node site found).to_switch;
    gathered = (b.left node site found).gathered;
    reads = are_read (setups_of site.controller) f.links site.controller.desk.rows f.rows;
    room = f.sound.desk.room;
    knows = k;
  }

  controller_left : (w : World) (node : NodeId) (site : Site) (found : site_at w node ≡ Some site) → Begins w → (f : IsFirm site) (a : Acted) → a.controller.node ≡ site.controller.node → setups_of a.controller ≡ setups_of site.controller
      → Ends (setups_of site.controller) f.links a → AllLeft (record (with_site w (record site { controller = a.controller })) { notes = a.notes; numbers = a.numbers })
  controller_left w node site found b f a node_same setups_same (in_mode m fine) =
      let setups : List Setup = setups_of site.controller in
      let since = same_since w.notes.frames w.numbers.controls a.notes.frames b.frames b.controls fine.queue.same in
      let le : w.numbers.controls ≤ a.numbers.controls = more_than w.numbers.controls marks a.numbers.controls b.controls fine.queue.given in
      let old : Left began marks w.notes.frames w.numbers.controls setups site = b.left node site found in
      let after : Site = record site { controller = a.controller } in
      let here : Left began marks a.notes.frames a.numbers.controls setups after = record {
        to_switch = fine.queue;
        chain = old.chain;
        to_controller = since_more (OldTells (port_list setups) began marks) (TellsUp (port_list setups)) began marks (queue_of site.switch.crossbar control_port) w.notes.frames a.notes.frames w.numbers.controls a.numbers.controls le since old.to_controller;
        gathered = fine.gathered;
        up = old.up;
        knows = known m fine.knows;
      } in
      each_put (IsLeft began marks a.notes.frames a.numbers.controls) w node site after found node_same
      (subst (λ (s : List Setup). Left began marks a.notes.frames a.numbers.controls s after) (sym setups_same) here)
      (λ n x there. left_more began marks w.notes.frames a.notes.frames w.numbers.controls a.numbers.controls (setups_of x.controller) x le since (b.left n x there))

  -- nobody acts
  pub none_left : (w : World) → Begins w → AllLeft w
  none_left w b = b.left

  pub controller_acts_left : (w : World) (node : NodeId) (act : Acted → Acted) → Begins w
      → ((site : Site) (found : site_at w node ≡ Some site) → (f : IsFirm site) × (((act (acting w site)).controller.node ≡ site.controller.node) × ((setups_of (act (acting w site)).controller ≡ setups_of site.controller)
      × ((m : Mode) → Fine (setups_of site.controller) f.links m (acting w site) → Ends (setups_of site.controller) f.links (act (acting w site))))))
      → AllLeft (at_controller w node act)
  controller_acts_left w node act b does = by (site_at w node) refl
    where
      by_known : (site : Site) (found : site_at w node ≡ Some site) → IsKnown (setups_of site.controller) site.controller → AllLeft (controller_acts w (Some site) act)
      by_known site found (known m k) = (let d = does site found in
          controller_left w node site found b d.0 (act (acting w site)) d.1.0 d.1.1.0 (d.1.1.1 m (fine_known w node site found b d.0 m k)))

      by : (o : Option Site) → site_at w node ≡ o → AllLeft (controller_acts w o act)
      by None found = b.left
      by (Some site) found = by_known site found (b.left node site found).knows

  -- *A switch acts*
  some_queue : (n : ℕ) → n ≡ 9 → 1 ≤ n
  some_queue n e = omega (arith, e)

  pub switch_begins : (w : World) (node : NodeId) (site : Site) → site_at w node ≡ Some site → Begins w → IsFirm site → FineSwitch (setups_of site.controller) (record { switch = site.switch; notes = w.notes; numbers = w.numbers })
  switch_begins w node site found b f = record {
    queue = (b.left node site found).to_controller;
    chain = (b.left node site found).chain;
    up = (b.left node site found).up;
    same = f.same_ports ∙ ap (λ (l : List PortNo). control_port ∷ l) (ports_are (setups_of site.controller) (record { controller = site.controller; notes = w.notes; numbers = w.numbers }) (whole_of site w.notes w.numbers f));
    some = some_queue (length site.switch.crossbar.queues) f.queues;
  }

  pub switch_acts_left : (w : World) (node : NodeId) (act : switches.ActedSwitch → switches.ActedSwitch) → Begins w
      → ((site : Site) → site_at w node ≡ Some site → IsFirm site × (FineSwitch (setups_of site.controller) (record { switch = site.switch; notes = w.notes; numbers = w.numbers })
      → FineSwitch (setups_of site.controller) (act (record { switch = site.switch; notes = w.notes; numbers = w.numbers })))) → AllLeft (at_switch w node act)
  switch_acts_left w node act b does = by (site_at w node) refl
    where
      by : (o : Option Site) → site_at w node ≡ o → AllLeft (switch_acts w o act)
      by None found = b.left
      by (Some site) found =
          let d = does site found in
          let setups : List Setup = setups_of site.controller in
          let a : switches.ActedSwitch = act (record { switch = site.switch; notes = w.notes; numbers = w.numbers }) in
          let fine : FineSwitch setups a = d.1 (switch_begins w node site found b d.0) in
          let since = same_since w.notes.frames w.numbers.controls a.notes.frames b.frames b.controls fine.queue.same in
          let le : w.numbers.controls ≤ a.numbers.controls = more_than w.numbers.controls marks a.numbers.controls b.controls fine.queue.given in
          let old : Left began marks w.notes.frames w.numbers.controls setups site = b.left node site found in
          each_put (IsLeft began marks a.notes.frames a.numbers.controls) w node site (record site { switch = a.switch }) found refl
          (record {
            to_switch = since_more (OldAsks setups began marks) (AsksShaped setups) began marks site.controller.queue w.notes.frames a.notes.frames w.numbers.controls a.numbers.controls le since old.to_switch;
            chain = fine.chain;
            to_controller = fine.queue;
            gathered = old.gathered;
            up = fine.up;
            knows = old.knows;
          })
          (λ n x there. left_more began marks w.notes.frames a.notes.frames w.numbers.controls a.numbers.controls (setups_of x.controller) x le since (b.left n x there))
