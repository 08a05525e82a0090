-- what becomes of a mirrored node

use Rattle.std.proofs.Common.{◌≡◌, List, ◌++◌, Some, refl, sym, ◌∙◌, ap, subst}
use Rattle.std.proofs.lemmas.List.{map-append}
use Rattle.world_model.specs.Words.{NodeId, Down, Mark, Cell, Frame, Request, default_channel, Controller, World, Site, site_at, with_queue_in}
use Rattle.world_model.specs.switch_model.declared.request.Asked.{Asked}
use Rattle.law_port_facts.specs.ordered_lists.Ordered.{Every}
use Rattle.law_port_facts.proofs.ordered_lists.Every.{every_map, every_join}
use Rattle.law_running_worlds.specs.law_shown_cells.Seen.{Extends}
use Rattle.law_live_orders.specs.Law.{last_marks}
use Rattle.law_live_orders.proofs.Marks.{marks_join}
use Rattle.law_live_mirrors.specs.Mirrors.{Mirrors}
use Rattle.law_live_mirrors.specs.Fit.{IsFit}
use Rattle.law_live_mirrors.specs.Law.{LeadsSame}
use Rattle.law_live_mirrored_worlds.specs.Way.{AreAsked, requests_of, IsMirroredSite, IsMirroredBy}
use Rattle.law_live_mirrored_worlds.specs.Law.{Keeps}
use Rattle.law_live_mirrored_worlds.proofs.Asking.{asked_later, asked_join}
use Rattle.law_live_mirrored_worlds.proofs.Switches.{parts_lead}

pub one_site : (x y : Site) → Some x ≡ Some y → x ≡ y
one_site x y e = cc

-- *Told of the site* that is there
pub at_site : (w : World) (node : NodeId) (site : Site) (way : List Asked) → site_at w node ≡ Some site → IsMirroredBy w node way → IsMirroredSite w.notes.frames site way
at_site w node site way found by = subst (λ (s : Site). IsMirroredSite w.notes.frames s way) (one_site by.site site (sym by.found ∙ found)) by.mirrored

-- *Its queue* loses a cell of which nothing is on the way
pub popped_mirrored : (frames : List Frame) (node : NodeId) (site : Site) (way : List Asked) (cells : List Cell) → last_marks default_channel site.controller.queue ≡ last_marks default_channel cells
    → IsMirroredSite frames site way → IsMirroredSite frames (with_queue_in site (Down node) cells) way
popped_mirrored frames node site way cells same h = record { waits = subst (λ (marks : List Mark). AreAsked frames marks way) same h.waits; fit = h.fit; mirrors = h.mirrors }

module _ (w v : World) (node : NodeId) (site now : Site) (stays : Extends w.notes.frames v.notes.frames) (found : site_at v node ≡ Some now) (leads : LeadsSame site.switch now.switch) where
  -- *Its controller* stays as it is, and its switch leads its inputs the same
  pub stays_mirrored : (way : List Asked) → now.controller ≡ site.controller → IsMirroredSite w.notes.frames site way → IsMirroredBy v node way
  stays_mirrored way same h = record {
    site = now;
    found = found;
    mirrored = record {
      waits = subst (λ (c : Controller). AreAsked v.notes.frames (last_marks default_channel c.queue) way) (sym same)
          (asked_later w.notes.frames v.notes.frames stays (last_marks default_channel site.controller.queue) way h.waits);
      fit = every_map (IsFit site.switch) (IsFit now.switch) way (λ asked fit. leads.fit asked fit) h.fit;
      mirrors = λ input. subst (λ (c : Controller). Mirrors c.ports c.desk now.switch.crossbar.branches (requests_of way) input) (sym same)
          (leads.mirrors site.controller.ports site.controller.desk (requests_of way) input (h.mirrors input));
    };
  }

  -- *It asks* more, behind what waits
  pub asks_mirrored : (way asked : List Asked) (put : List Cell) → now.controller.queue ≡ site.controller.queue ++ put → AreAsked v.notes.frames (last_marks default_channel put) asked
      → Every (IsFit site.switch) asked → Keeps site.controller now.controller (requests_of asked) → IsMirroredSite w.notes.frames site way → IsMirroredBy v node (way ++ asked)
  asks_mirrored way asked put queue puts fit keeps h = record {
    site = now;
    found = found;
    mirrored = record {
      waits = subst (λ (marks : List Mark). AreAsked v.notes.frames marks (way ++ asked)) (sym (ap (last_marks default_channel) queue ∙ marks_join default_channel site.controller.queue put))
          (asked_join v.notes.frames (last_marks default_channel site.controller.queue) (last_marks default_channel put) way asked
          (asked_later w.notes.frames v.notes.frames stays (last_marks default_channel site.controller.queue) way h.waits) puts);
      fit = every_map (IsFit site.switch) (IsFit now.switch) (way ++ asked) (λ one fit. leads.fit one fit) (every_join (IsFit site.switch) way asked h.fit fit);
      mirrors = λ input. subst (λ (on_way : List Request). Mirrors now.controller.ports now.controller.desk now.switch.crossbar.branches on_way input)
          (sym (map-append (λ (one : Asked). one.request) way asked))
          (keeps now.switch.crossbar.branches (requests_of way) input (leads.mirrors site.controller.ports site.controller.desk (requests_of way) input (h.mirrors input)));
    };
  }

-- and where all of it stays
pub unchanged : (w v : World) (node : NodeId) (way : List Asked) → Extends w.notes.frames v.notes.frames → site_at v node ≡ site_at w node → IsMirroredBy w node way → IsMirroredBy v node way
unchanged w v node way stays same by = stays_mirrored w v node by.site by.site stays (same ∙ by.found) (parts_lead by.site.switch by.site.switch refl refl refl) way refl by.mirrored
