-- an actor acts: what it sends stands behind what waited in its queues, and all other queues are as they were

use Rattle.std.proofs.Common.{◌≡◌, ◌≢◌, ◌<◌, ◌==◌, ◌&&◌, ℕ, suc, Bool, true, false, List, [], ◌++◌, length, append-nil, Option, None, Some, refl, sym, ◌∙◌, ap, subst, arith, if◌then◌else◌}
use Rattle.std.specs.Prelude.{nat_lt}
use Rattle.std.specs.Option.{option_map_or}
use Rattle.std.proofs.lemmas.Bool.Decides.{nat_tests}
use Rattle.world_model.specs.Words.{NodeId, PortNo, Place, Down, Up, Out, Cell, Entry, at, control_port, World, Site, site_key, site_at, controller_acts, switch_acts, place_node, queue_in, queue_at, same_queue, Journal}
use Rattle.world_model.specs.Switch as switches
use Rattle.world_model.specs.Controller as controllers
use Rattle.world_model.specs.World.{at_controller, at_switch}
use Rattle.world_model.proofs.Lists.{by_eq, at_key}
use Rattle.law_passing.proofs.Queues.{now_at, then_at, elsewhere}
use Rattle.law_true_losses.specs.Sent.{put_in, rooms_in, rooms_at, has_queue_in, has_queue}
use Rattle.law_true_losses.proofs.Notes.{Counts}
use Rattle.law_true_losses.proofs.Sent.{Sends, sends_as}
use Rattle.law_true_losses.proofs.Steps as steps
use Rattle.law_true_losses.proofs.Switches.{Grown, put_on}
use Rattle.law_passing.proofs.Queues.{waits}
use Rattle.law_true_losses.specs.Cut.{Holder, Held, at_node}
use Rattle.law_true_losses.proofs.Cutting.{cuts_in}
use Rattle.law_true_losses.proofs.Arriving.{Ends}
use Rattle.law_true_losses.proofs.Branches.{and_false}
use Rattle.law_true_losses.proofs.Sites.{SiteCuts, controller_cuts}
use Rattle.law_true_losses.proofs.Held.{test_same, test_other, CutAt, cut_nothing, put_alike, site_cuts}

-- *In each queue* that there is stands what went through, and what was put, behind what waited
abbrev pub HasPut : World → World → (went : Place → List Cell) → Option Place → (cells : List Cell) → Type 0
HasPut v w went queue cells = (place : Place) → has_queue v place ≡ true → queue_at w place ≡ queue_at v place ++ (went place ++ put_in queue place cells)

pub record Told (e lost : List Entry) (v w : World) (went : Place → List Cell) (queue : Option Place) (fed : Option Held) : Type 0 where
  pub sends : Sends e lost v.notes.frames w.notes (HasPut v w went queue)
  pub nowhere : queue ≡ None → sends.sendings ≡ []
  pub cuts : CutAt v w fed
  pub rooms : (node : NodeId) → rooms_at w node ≡ rooms_at v node

-- *Notes of which an event begins*: their ledger, and no record yet
pub record Begins (e : List Entry) (notes : Journal) : Type 0 where
  pub counts : Counts e [] notes
  pub uncut : cuts_in notes ≡ []

pub put_nothing : (queue : Option Place) (place : Place) → put_in queue place [] ≡ []
put_nothing None place = refl
put_nothing (Some queue) place = by (same_queue queue place)
  where
    by : (b : Bool) → ◌≡◌ {A = List Cell} (if b then [] else []) []
    by true = refl
    by false = refl

-- *Nothing is sent*, and the queues are as they were
pub told_nothing : (e lost : List Entry) (v w : World) (queue : Option Place) (fed : Option Held) → Counts e lost w.notes → cuts_in w.notes ≡ [] → w.notes.frames ≡ v.notes.frames
    → w.sites ≡ v.sites → Told e lost v w (λ place. []) queue fed
told_nothing e lost v w queue fed counts uncut frames same = record {
  sends = record {
    sendings = [];
    counts = subst (λ (told : List Entry). Counts e told w.notes) (sym (append-nil lost)) counts;
    frames = frames ∙ sym (append-nil v.notes.frames);
    cells = λ place there. ap (λ (sites : List Site). waits sites place) same ∙ sym (append-nil (queue_at v place)) ∙ ap (λ (cells : List Cell). queue_at v place ++ cells) (sym (put_nothing queue place));
  };
  nowhere = λ is. refl;
  cuts = cut_nothing v w fed uncut same;
  rooms = λ node. ap (λ (sites : List Site). rooms_in (at site_key node.0 sites)) same;
}

-- *Tests*
suc_test : (i j : ℕ) → (suc i == suc j) ≡ (i == j)
suc_test i j = by_eq i j (λ same t. test_same (suc i) (suc j) (ap suc same) ∙ sym t) (λ away t. test_other (suc i) (suc j) (λ e. away (omega (arith, e))) ∙ sym t)

apart_then : (a b : ℕ) (c : Bool) → a ≢ b → ((a == b) && c) ≡ false
apart_then a b c apart = ap (λ (t : Bool). t && c) (test_other a b apart)

same_then : (a b : ℕ) (c : Bool) → a ≡ b → ((a == b) && c) ≡ c
same_then a b c same = ap (λ (t : Bool). t && c) (test_same a b same)

gets : (cells : List Cell) (b c : Bool) → b ≡ c → (if b then cells else []) ≡ (if c then cells else [])
gets cells b c e = ap (λ (t : Bool). if t then cells else []) e

-- *A controller acts*
module _ (e : List Entry) (w : World) (node : NodeId) (h : Begins e w.notes) where
  abbrev at_site : Site → controllers.Acted
  at_site site = record { controller = site.controller; notes = w.notes; numbers = w.numbers }

  pub controller_told : (act : controllers.Acted → controllers.Acted) (lost : Option Site → List Entry) (fed : Option Site → Option Holder) → lost None ≡ []
      → ((site : Site) → Ends e (lost (Some site)) (fed (Some site)) (at_site site) (act (at_site site)))
      → ((a : controllers.Acted) → (act a).controller.node ≡ a.controller.node)
      → Told e (lost (site_at w node)) w (at_controller w node act) (λ place. []) (Some (Down node)) (at_node node (fed (site_at w node)))
  controller_told act lost fed none ends node_is = by (site_at w node) refl
    where
      by : (o : Option Site) → site_at w node ≡ o → Told e (lost o) w (controller_acts w o act) (λ place. []) (Some (Down node)) (at_node node (fed o))
      by None found = told_nothing e (lost None) w w (Some (Down node)) (at_node node (fed None)) (subst (λ (told : List Entry). Counts e told w.notes) (sym none) h.counts) h.uncut refl refl
      by (Some site) found = record {
        sends = sends_as e (lost (Some site)) w.notes.frames (act a).notes (steps.Holds (steps.base_of a) (act a).controller.queue) (HasPut w (controller_acts w (Some site) act) (λ place. []) (Some (Down node))) puts (ends site).sends;
        nowhere = λ is. absurd (cc is);
        cuts = site_cuts w (controller_acts w (Some site) act) node site new found key refl (fed (Some site)) (controller_cuts site (act a).controller (fed (Some site)) (act a).notes (ends site).cuts);
        rooms = put_alike rooms_in w.sites site new here refl;
      }
        where
          a : controllers.Acted
          a = at_site site

          new : Site
          new = record site { controller = (act a).controller }

          key : site_key new ≡ node.0
          key = ap (λ (n : NodeId). n.0) (node_is a) ∙ at_key site_key node.0 w.sites site found

          here : at site_key (site_key new) w.sites ≡ Some site
          here = subst (λ (j : ℕ). at site_key j w.sites ≡ Some site) (sym key) found

          puts : (cells : List Cell) → (act a).controller.queue ≡ site.controller.queue ++ cells → HasPut w (controller_acts w (Some site) act) (λ place. []) (Some (Down node)) cells
          puts cells is place there = by_eq (site_key new) (place_node place).0
              (λ same t. now_at w.sites site new here place same ∙ in_it place (sym key ∙ same) ∙ ap (λ (waiting : List Cell). waiting ++ put_in (Some (Down node)) place cells) (sym (then_at w.sites site new here place same)))
              (λ away t. elsewhere w.sites site new here place away ∙ nothing_more (queue_at w place) (put_in (Some (Down node)) place cells)
              (gets cells _ false (apart_then node.0 (place_node place).0 _ (λ same. away (key ∙ same)))))
            where
              nothing_more : (waiting more : List Cell) → more ≡ [] → waiting ≡ waiting ++ more
              nothing_more waiting more none = sym (append-nil waiting) ∙ ap (λ (cells : List Cell). waiting ++ cells) (sym none)

              in_it : (place : Place) → node.0 ≡ (place_node place).0 → queue_in new place ≡ queue_in site place ++ put_in (Some (Down node)) place cells
              in_it (Down n) same = is ∙ ap (λ (more : List Cell). site.controller.queue ++ more) (sym (gets cells _ true (same_then node.0 n.0 true same)))
              in_it (Up n) same = nothing_more (queue_in site (Up n)) (put_in (Some (Down node)) (Up n) cells) (gets cells _ false (and_false (node.0 == n.0)))
              in_it (Out n q) same = nothing_more (queue_in site (Out n q)) (put_in (Some (Down node)) (Out n q) cells)
                  (gets cells _ false (ap (λ (c : Bool). (node.0 == n.0) && c) (test_other 0 (suc q.0) (λ e. omega (arith, e))) ∙ and_false (node.0 == n.0)))

-- *What a switch's queues get*, by places and by the numbers of its ports
pub record IsOf (node : NodeId) (by_place : Place → List Cell) (by_port : ℕ → List Cell) : Type 0 where
  pub down : (n : NodeId) → by_place (Down n) ≡ []
  pub up : (n : NodeId) → node.0 ≡ n.0 → by_place (Up n) ≡ by_port 0
  pub out : (n : NodeId) (q : PortNo) → node.0 ≡ n.0 → by_place (Out n q) ≡ by_port q.0
  pub away : (place : Place) → node.0 ≢ (place_node place).0 → by_place place ≡ []

pub nothing_of : (node : NodeId) → IsOf node (λ place. []) (λ i. [])
nothing_of node = record { down = λ n. refl; up = λ n same. refl; out = λ n q same. refl; away = λ place apart. refl }

pub put_out : (node : NodeId) (port : PortNo) (cells : List Cell) → IsOf node (λ place. put_in (Some (Out node port)) place cells) (λ i. put_on port i cells)
put_out node port cells = record {
  down = λ n. gets cells _ false (ap (λ (c : Bool). (node.0 == n.0) && c) (test_other (suc port.0) 0 (λ e. omega (arith, e))) ∙ and_false (node.0 == n.0));
  up = λ n same. gets cells _ (port.0 == 0) (same_then node.0 n.0 _ same ∙ suc_test port.0 0);
  out = λ n q same. gets cells _ (port.0 == q.0) (same_then node.0 n.0 _ same ∙ suc_test port.0 q.0);
  away = λ place apart. gets cells _ false (apart_then node.0 (place_node place).0 _ apart);
}

pub put_up : (node : NodeId) (cells : List Cell) → IsOf node (λ place. put_in (Some (Up node)) place cells) (λ i. put_on control_port i cells)
put_up node cells = record {
  down = λ n. gets cells _ false (and_false (node.0 == n.0));
  up = λ n same. gets cells _ true (same_then node.0 n.0 true same);
  out = λ n q same. gets cells _ (0 == q.0) (same_then node.0 n.0 _ same ∙ suc_test 0 q.0);
  away = λ place apart. gets cells _ false (apart_then node.0 (place_node place).0 _ apart);
}

below : (i n : ℕ) → nat_lt i n ≡ true → i < n
below i n e = grind (arith, nat_tests, e)

-- *A switch acts*
module _ (e : List Entry) (w : World) (node : NodeId) (h : Begins e w.notes) (queue : Place) (port : PortNo)
    (is_of : (cells : List Cell) → IsOf node (λ place. put_in (Some queue) place cells) (λ i. put_on port i cells)) where
  abbrev at_its : Site → switches.ActedSwitch
  at_its site = record { switch = site.switch; notes = w.notes; numbers = w.numbers }

  pub switch_told : (act : switches.ActedSwitch → switches.ActedSwitch) (lost : Option Site → List Entry) (went : Option Site → Place → List Cell) (through : Site → ℕ → List Cell) (fed : Option Holder)
      → lost None ≡ [] → ((place : Place) → went None place ≡ []) → ((site : Site) → IsOf node (went (Some site)) (through site))
      → ((site : Site) → Sends e (lost (Some site)) w.notes.frames (act (at_its site)).notes (Grown site.switch.crossbar.queues (through site) port (act (at_its site)).switch.crossbar.queues))
      → ((site : Site) → SiteCuts fed site (record site { switch = (act (at_its site)).switch }) (act (at_its site)).notes)
      → Told e (lost (site_at w node)) w (at_switch w node act) (went (site_at w node)) (Some queue) (at_node node fed)
  switch_told act lost went through fed none none_went went_of sends cuts = by (site_at w node) refl
    where
      by : (o : Option Site) → site_at w node ≡ o → Told e (lost o) w (switch_acts w o act) (went o) (Some queue) (at_node node fed)
      by None found = record {
        sends = sends_as e (lost None) w.notes.frames w.notes (HasPut w w (λ place. []) (Some queue)) (HasPut w w (went None) (Some queue))
            (λ cells is place there. is place there ∙ ap (λ (more : List Cell). queue_at w place ++ (more ++ put_in (Some queue) place cells)) (sym (none_went place)))
            (told_nothing e (lost None) w w (Some queue) (at_node node fed) (subst (λ (told : List Entry). Counts e told w.notes) (sym none) h.counts) h.uncut refl refl).sends;
        nowhere = λ is. absurd (cc is);
        cuts = cut_nothing w w (at_node node fed) h.uncut refl;
        rooms = λ other. refl;
      }
      by (Some site) found = record {
        sends = sends_as e (lost (Some site)) w.notes.frames (act a).notes (Grown old (through site) port now) (HasPut w (switch_acts w (Some site) act) (went (Some site)) (Some queue)) puts (sends site);
        nowhere = λ is. absurd (cc is);
        cuts = site_cuts w (switch_acts w (Some site) act) node site new found key refl fed (cuts site);
        rooms = put_alike rooms_in w.sites site new here ((sends site).cells.rooms);
      }
        where
          a : switches.ActedSwitch
          a = at_its site

          new : Site
          new = record site { switch = (act a).switch }

          old : List (List Cell)
          old = site.switch.crossbar.queues

          now : List (List Cell)
          now = (act a).switch.crossbar.queues

          key : site_key new ≡ node.0
          key = at_key site_key node.0 w.sites site found

          here : at site_key (site_key new) w.sites ≡ Some site
          here = subst (λ (j : ℕ). at site_key j w.sites ≡ Some site) (sym key) found

          puts : (cells : List Cell) → Grown old (through site) port now cells → HasPut w (switch_acts w (Some site) act) (went (Some site)) (Some queue) cells
          puts cells is place there = by_eq (site_key new) (place_node place).0
              (λ same t. now_at w.sites site new here place same
              ∙ in_it place (sym key ∙ same) (sym (ap (λ (o : Option Site). option_map_or (λ site. has_queue_in site place) o false) (subst (λ (j : ℕ). at site_key j w.sites ≡ Some site) same here)) ∙ there)
              ∙ ap (λ (waiting : List Cell). waiting ++ (went (Some site) place ++ put_in (Some queue) place cells)) (sym (then_at w.sites site new here place same)))
              (λ away t. elsewhere w.sites site new here place away ∙ sym (append-nil (queue_at w place))
              ∙ ap (λ (more : List Cell). queue_at w place ++ (more ++ [])) (sym ((went_of site).away place (λ same. away (key ∙ same))))
              ∙ ap (λ (more : List Cell). queue_at w place ++ (went (Some site) place ++ more)) (sym ((is_of cells).away place (λ same. away (key ∙ same)))))
            where
              both : (waiting : List Cell) (one other more put : List Cell) → other ≡ one → put ≡ more → waiting ++ (one ++ more) ≡ waiting ++ (other ++ put)
              both waiting one other more put e f = ap (λ (cells : List Cell). waiting ++ (cells ++ more)) (sym e) ∙ ap (λ (cells : List Cell). waiting ++ (other ++ cells)) (sym f)

              in_it : (place : Place) → node.0 ≡ (place_node place).0 → has_queue_in site place ≡ true → queue_in new place ≡ queue_in site place ++ (went (Some site) place ++ put_in (Some queue) place cells)
              in_it (Down n) same low = sym (append-nil site.controller.queue) ∙ both site.controller.queue [] (went (Some site) (Down n)) [] (put_in (Some queue) (Down n) cells) ((went_of site).down n) ((is_of cells).down n)
              in_it (Up n) same low = is.each 0 (below 0 (length old) low)
                  ∙ both (queue_in site (Up n)) (through site 0) (went (Some site) (Up n)) (put_on port 0 cells) (put_in (Some queue) (Up n) cells) ((went_of site).up n same) ((is_of cells).up n same)
              in_it (Out n q) same low = is.each q.0 (below q.0 (length old) low)
                  ∙ both (queue_in site (Out n q)) (through site q.0) (went (Some site) (Out n q)) (put_on port q.0 cells) (put_in (Some queue) (Out n q) cells) ((went_of site).out n q same) ((is_of cells).out n q same)
