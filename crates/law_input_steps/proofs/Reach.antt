-- what a site shows, taken apart and put together; moves lead on

use Rattle.std.proofs.Common.{◌≤◌, List, [], ◌++◌, refl, ◌∙◌, ap, arith}
use Rattle.law_input_views.specs.world_model.Words.{End, NodeId, GivenOut, Frame, Site}
use Rattle.law_input_views.specs.law_branch_line.Line.{Line}
use Rattle.law_input_views.specs.law_branch_line.Moves.{run}
use Rattle.law_input_views.specs.law_shown_cells.Seen.{IsUnmade, Extends}
use Rattle.law_input_views.specs.Shown.{InputShows}
use Rattle.law_input_views.specs.Reaching.{Follows, Anything}
use Rattle.law_input_views.proofs.Follow.{run_join}
use Rattle.law_input_views.proofs.Cells.{requests_more, answers_more}
use Rattle.law_input_steps.specs.Part.{Part, part_of, IsNumbered, Stands, Reaches, AnyLine, Leads}
use Rattle.law_input_steps.proofs.Goes.{Goes}

module _ (node : NodeId) (input : End) where
  -- *Taken apart, put together*
  pub stands_of : (site : Site) (frames : List Frame) (numbers : GivenOut) (line : Line) → IsUnmade numbers.controls frames → IsNumbered site.controller.desk
      → InputShows node input site frames numbers.instances line → Stands node input (part_of input site frames numbers) line
  stands_of site frames numbers line unmade numbered h = record {
    own = record { side = h.controller; next = h.next; asked = h.asked; others = h.others; met = h.met; phase = h.phase };
    far = record { side = h.switch; branch = h.branch };
    to_switch = h.to_switch;
    at_switch = h.at_switch;
    to_controller = h.to_controller;
    gathered = h.gathered;
    at_controller = h.at_controller;
    drawn = h.drawn;
    before = h.before;
    behind = h.behind;
    unmade = unmade;
    numbered = numbered;
  }

  pub shows_of : (site : Site) (frames : List Frame) (numbers : GivenOut) (line : Line) → Stands node input (part_of input site frames numbers) line
      → InputShows node input site frames numbers.instances line
  shows_of site frames numbers line h = record {
    controller = h.own.side;
    switch = h.far.side;
    next = h.own.next;
    asked = h.own.asked;
    others = h.own.others;
    met = h.own.met;
    phase = h.own.phase;
    branch = h.far.branch;
    at_switch = h.at_switch;
    to_switch = h.to_switch;
    at_controller = h.at_controller;
    gathered = h.gathered;
    to_controller = h.to_controller;
    drawn = h.drawn;
    before = h.before;
    behind = h.behind;
  }

  pub follows_of : (site : Site) (frames : List Frame) (numbers : GivenOut) (line : Line) → Reaches node input (part_of input site frames numbers) AnyLine line
      → Follows node input site frames numbers.instances Anything line
  follows_of site frames numbers line r = record { moves = r.moves; after = r.after; is = r.is; shows = shows_of site frames numbers r.after r.stands; also = tt }

  -- *Moves lead on*
  pub reaches_by : (p : Part) (line after : Line) → Goes line after → Stands node input p after → Reaches node input p AnyLine line
  reaches_by p line after g h = record { moves = g.moves; after = after; is = g.is; stands = h; also = tt }

  pub reaches_self : (p : Part) (line : Line) → Stands node input p line → Reaches node input p AnyLine line
  reaches_self p line h = record { moves = []; after = line; is = refl; stands = h; also = tt }

  pub reaches_then : (p q : Part) (P Q : Line → Type 0) (line : Line) → Reaches node input p P line
      → ((z : Line) → Stands node input p z → P z → Reaches node input q Q z) → Reaches node input q Q line
  reaches_then p q P Q line r f =
      let s : Reaches node input q Q r.after = f r.after r.stands r.also in
      record { moves = r.moves ++ s.moves; after = s.after; is = run_join line r.moves s.moves ∙ (ap (λ (z : Line). run z s.moves) r.is ∙ s.is); stands = s.stands; also = s.also }

  -- behind some moves of the line
  pub reaches_behind : (q : Part) (Q : Line → Type 0) (line after : Line) → Goes line after → Reaches node input q Q after → Reaches node input q Q line
  reaches_behind q Q line after g s = record {
    moves = g.moves ++ s.moves;
    after = s.after;
    is = run_join line g.moves s.moves ∙ (ap (λ (z : Line). run z s.moves) g.is ∙ s.is);
    stands = s.stands;
    also = s.also;
  }

  pub leads_self : (p : Part) → Leads node input p p
  leads_self p line h = reaches_self p line h

  pub leads_then : (p q r : Part) → Leads node input p q → Leads node input q r → Leads node input p r
  leads_then p q r f g line h = reaches_then q r AnyLine AnyLine line (f line h) (λ z k also. g z k)

  -- *Frames are made*, numbers are given out
  pub stands_later : (p : Part) (frames : List Frame) (numbers : GivenOut) (line : Line) → Extends p.frames frames → IsUnmade numbers.controls frames
      → p.numbers.instances ≤ numbers.instances → Stands node input p line → Stands node input (record p { frames = frames; numbers = numbers }) line
  stands_later p frames numbers line extends unmade less h = record {
    own = h.own;
    far = h.far;
    to_switch = requests_more node input p.frames frames p.queue line.to_switch extends h.to_switch;
    at_switch = requests_more node input p.frames frames p.chain line.at_switch extends h.at_switch;
    to_controller = answers_more node input p.frames frames p.back line.to_controller extends h.to_controller;
    gathered = answers_more node input p.frames frames p.gathered [] extends h.gathered;
    at_controller = h.at_controller;
    drawn = omega (arith, less, h.drawn);
    before = h.before;
    behind = h.behind;
    unmade = unmade;
    numbered = h.numbered;
  }
