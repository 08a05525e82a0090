-- a node's controller and its switch act, and the two ends of its control link with them

use Rattle.std.proofs.Common.{◌≡◌, ◌≢◌, ℕ, zero, suc, Bool, true, false, List, [], ◌∷◌, ◌++◌, slice_set, slice_index_or, Some, refl, sym, ◌∙◌, ap, subst}
use Rattle.world_model.specs.Words.{NodeId, PortNo, Down, Up, Out, Party, Said, Mark, Cell, Frame, queue_of, gsmp_channel, control_port, Controller, Switch, World, Site, site_at, with_queue_in}
use Rattle.law_running_worlds.specs.law_shown_cells.Seen.{Extends}
use Rattle.law_live_meetings.specs.Exchange.{Ends}
use Rattle.law_live_hearing.proofs.Sites.{queue_of_site}
use Rattle.law_live_orders.specs.Law.{is_last_on, last_marks}
use Rattle.law_live_orders.proofs.Marks.{marks_join, marks_here, marks_there}
use Rattle.law_live_waking.specs.Greetings.{Greets, GreetsNobody, Greet, none, greets, passed, ShowsEnds}
use Rattle.law_live_waking.proofs.Greetings.{greet_stays, greet_join}

-- *The ends of a site*, with what comes to its controller and to its switch
abbrev pub ends_of : Site → (up down : List (Said Party)) → Ends Party
ends_of site up down = record {
  one = record { side = site.controller.adjacency; comes = up };
  other = record { side = site.switch.adjacency; comes = down };
}

pub record Shown (frames : List Frame) (site : Site) (up down : List (Said Party)) : Type 0 where
  pub goes_down : Greet frames (last_marks gsmp_channel site.controller.queue) down
  pub goes_up : Greet frames (last_marks gsmp_channel (queue_of site.switch.crossbar control_port)) up

pub ends_are : (w : World) (node : NodeId) (ends : Ends Party) → (s : ShowsEnds w node ends) → ends ≡ ends_of s.site ends.one.comes ends.other.comes
ends_are w node ends s = λ i. record {
  one = record { side = s.controller i; comes = ends.one.comes };
  other = record { side = s.switch i; comes = ends.other.comes };
}

pub shown_at : (w : World) (node : NodeId) (ends : Ends Party) → (s : ShowsEnds w node ends) → Shown w.notes.frames s.site ends.one.comes ends.other.comes
shown_at w node ends s = record {
  goes_down = subst (λ (q : List Cell). Greet w.notes.frames (last_marks gsmp_channel q) ends.other.comes) (queue_of_site w node s.site (Down node) s.found) s.down;
  goes_up = subst (λ (q : List Cell). Greet w.notes.frames (last_marks gsmp_channel q) ends.one.comes) (queue_of_site w node s.site (Up node) s.found) s.up;
}

-- the world shows what its site does
pub shows_there : (v : World) (node : NodeId) (site : Site) (frames : List Frame) (up down : List (Said Party)) → site_at v node ≡ Some site → v.notes.frames ≡ frames
    → Shown frames site up down → ShowsEnds v node (ends_of site up down)
shows_there v node site frames up down found same s = record {
  site = site;
  found = found;
  controller = refl;
  switch = refl;
  down = subst (λ (q : List Cell). Greet v.notes.frames (last_marks gsmp_channel q) down) (sym (queue_of_site v node site (Down node) found))
      (subst (λ (f : List Frame). Greet f (last_marks gsmp_channel site.controller.queue) down) (sym same) s.goes_down);
  up = subst (λ (q : List Cell). Greet v.notes.frames (last_marks gsmp_channel q) up) (sym (queue_of_site v node site (Up node) found))
      (subst (λ (f : List Frame). Greet f (last_marks gsmp_channel (queue_of site.switch.crossbar control_port)) up) (sym same) s.goes_up);
}

-- *What was made stays*
pub shown_later : (old new : List Frame) (site : Site) (up down : List (Said Party)) → Extends old new → Shown old site up down → Shown new site up down
shown_later old new site up down stays s = record {
  goes_down = greet_stays old new stays (last_marks gsmp_channel site.controller.queue) down s.goes_down;
  goes_up = greet_stays old new stays (last_marks gsmp_channel (queue_of site.switch.crossbar control_port)) up s.goes_up;
}

-- *An actor acts*: its side is this one then, and behind what waited stand cells in whose frames it says this
pub record Acts (frames : List Frame) (before after : List Cell) (said : List (Said Party)) : Type 0 where
  pub later : List Cell
  pub queue : after ≡ before ++ later
  pub says : Greet frames (last_marks gsmp_channel later) said

greet_more : (frames : List Frame) (before after : List Cell) (comes said : List (Said Party)) → Greet frames (last_marks gsmp_channel before) comes
    → Acts frames before after said → Greet frames (last_marks gsmp_channel after) (comes ++ said)
greet_more frames before after comes said came a = subst (λ (marks : List Mark). Greet frames marks (comes ++ said))
    (sym (ap (last_marks gsmp_channel) a.queue ∙ marks_join gsmp_channel before a.later))
    (greet_join frames (last_marks gsmp_channel before) (last_marks gsmp_channel a.later) comes said came a.says)

module _ (frames : List Frame) (site : Site) (up down said : List (Said Party)) (s : Shown frames site up down) where
  pub controller_shown : (c : Controller) → Acts frames site.controller.queue c.queue said → Shown frames (record site { controller = c }) up (down ++ said)
  controller_shown c a = record { goes_down = greet_more frames site.controller.queue c.queue down said s.goes_down a; goes_up = s.goes_up }

  pub switch_shown : (x : Switch) → Acts frames (queue_of site.switch.crossbar control_port) (queue_of x.crossbar control_port) said
      → Shown frames (record site { switch = x }) (up ++ said) down
  switch_shown x a = record {
    goes_down = s.goes_down;
    goes_up = greet_more frames (queue_of site.switch.crossbar control_port) (queue_of x.crossbar control_port) up said s.goes_up a;
  }

-- *A cell is taken* from a queue: the last one of a frame that greets, or of one that greets nobody, or no such cell
pub data Taken (frames : List Frame) (cell : Cell) (before : List (Said Party)) : (after : List (Said Party)) → Type 0 where
  heard : (message : Said Party) (after : List (Said Party)) → is_last_on gsmp_channel cell ≡ true → Greets frames cell.mark message → before ≡ message ∷ after
      → Taken frames cell before after
  unheard : is_last_on gsmp_channel cell ≡ true → GreetsNobody frames cell.mark → Taken frames cell before before
  early : is_last_on gsmp_channel cell ≡ false → Taken frames cell before before

pub record Left (frames : List Frame) (cell : Cell) (cells : List Cell) (before : List (Said Party)) : Type 0 where
  pub after : List (Said Party)
  pub taken : Taken frames cell before after
  pub comes : Greet frames (last_marks gsmp_channel cells) after

module _ (frames : List Frame) (cell : Cell) (cells : List Cell) where
  by_mark : is_last_on gsmp_channel cell ≡ true → (marks : List Mark) (before : List (Said Party)) → marks ≡ cell.mark ∷ last_marks gsmp_channel cells
      → Greet frames marks before → Left frames cell cells before
  by_mark e [] before is none = absurd (cc is)
  by_mark e (mark ∷ marks) (message ∷ before) is (greets own said says later) =
      let first : mark ≡ cell.mark = cc is in
      let rest : marks ≡ last_marks gsmp_channel cells = cc is in
      record {
        after = before;
        taken = heard message before e (subst (λ (m : Mark). Greets frames m message) first says) refl;
        comes = subst (λ (ms : List Mark). Greet frames ms before) rest later;
      }
  by_mark e (mark ∷ marks) before is (passed own nobody later) =
      let first : mark ≡ cell.mark = cc is in
      let rest : marks ≡ last_marks gsmp_channel cells = cc is in
      record {
        after = before;
        taken = unheard e (subst (λ (m : Mark). GreetsNobody frames m) first nobody);
        comes = subst (λ (ms : List Mark). Greet frames ms before) rest later;
      }

  pub taken_from : (queue : List Cell) (before : List (Said Party)) → queue ≡ cell ∷ cells → Greet frames (last_marks gsmp_channel queue) before → Left frames cell cells before
  taken_from queue before is came = by (is_last_on gsmp_channel cell) refl
    where
      by : (b : Bool) → is_last_on gsmp_channel cell ≡ b → Left frames cell cells before
      by true e = by_mark e (last_marks gsmp_channel queue) before (ap (last_marks gsmp_channel) is ∙ marks_here gsmp_channel cell cells e) came
      by false e = record {
        after = before;
        taken = early e;
        comes = subst (λ (ms : List Mark). Greet frames ms before) (ap (last_marks gsmp_channel) is ∙ marks_there gsmp_channel cell cells e) came;
      }

-- the queue that is left
pub set_there : (queues : List (List Cell)) (cell : Cell) (cells now : List Cell) → slice_index_or queues 0 [] ≡ cell ∷ cells → slice_index_or (slice_set queues 0 now) 0 [] ≡ now
set_there [] cell cells now is = absurd (cc is)
set_there (queue ∷ queues) cell cells now is = refl

pub set_apart : (queues : List (List Cell)) (i : ℕ) (now : List Cell) → i ≢ 0 → slice_index_or (slice_set queues i now) 0 [] ≡ slice_index_or queues 0 []
set_apart [] i now apart = refl
set_apart (queue ∷ queues) zero now apart = absurd (apart refl)
set_apart (queue ∷ queues) (suc i) now apart = refl

module _ (frames : List Frame) (site : Site) (node : NodeId) (up down after : List (Said Party)) (s : Shown frames site up down) (cells : List Cell) where
  pub down_left : Greet frames (last_marks gsmp_channel cells) after → Shown frames (with_queue_in site (Down node) cells) up after
  down_left comes = record { goes_down = comes; goes_up = s.goes_up }

  pub up_left : (cell : Cell) → queue_of site.switch.crossbar control_port ≡ cell ∷ cells → Greet frames (last_marks gsmp_channel cells) after
      → Shown frames (with_queue_in site (Up node) cells) after down
  up_left cell is comes = record {
    goes_down = s.goes_down;
    goes_up = subst (λ (q : List Cell). Greet frames (last_marks gsmp_channel q) after) (sym (set_there site.switch.crossbar.queues cell cells cells is)) comes;
  }

  pub out_left : (port : PortNo) → port.0 ≢ 0 → Shown frames (with_queue_in site (Out node port) cells) up down
  out_left port apart = record {
    goes_down = s.goes_down;
    goes_up = subst (λ (q : List Cell). Greet frames (last_marks gsmp_channel q) up) (sym (set_apart site.switch.crossbar.queues port.0 cells apart)) s.goes_up;
  }
