-- a network whose site at one node changes: lines of its inputs follow, and those of other nodes stay

use Rattle.std.proofs.Common.{◌≡◌, ◌≢◌, ℕ, ◌≤◌, List, Some, refl, sym, ◌∙◌, ap, subst}
use Rattle.law_input_premises.specs.world_model.Words.{End, NodeId, GivenOut, Frame, at, put, Site, World, site_key, site_at, with_site}
use Rattle.law_input_premises.proofs.law_port_facts.Keyed.{at_key, at_put_same, at_put_other, by_eq}
use Rattle.law_input_premises.specs.law_branch_line.Line.{Line}
use Rattle.law_input_premises.specs.law_branch_line.Law.{IsReached}
use Rattle.law_input_premises.proofs.law_branch_line.Reached.{run_reached}
use Rattle.law_input_premises.specs.law_shown_cells.Seen.{IsUnmade, Extends}
use Rattle.law_input_premises.specs.law_input_views.Reaching.{ReachedAs, Anything}
use Rattle.law_input_premises.proofs.law_input_views.Cells.{requests_more, answers_more}
use Rattle.law_input_premises.proofs.law_input_views.Quiet.{quiet_input}
use Rattle.law_input_premises.specs.law_input_steps.Part.{Part, part_of, IsNumbered, Stands, Reaches, AnyLine}
use Rattle.law_input_premises.proofs.law_input_steps.Reach.{stands_of, shows_of}
use Rattle.law_world_views.specs.Between.{IsInput, HasInputLine}
use Rattle.law_input_events.specs.Coming.{HasLines}

-- *At a site*: from each line that is reached
abbrev pub ReachesOn : NodeId → (input : End) → (before after : Part) → Type 0
ReachesOn node input before after = (line : Line) → IsReached line → Stands node input before line → Reaches node input after AnyLine line

pub reached_by : (node : NodeId) (input : End) (site after : Site) (old new : List Frame) (m n : GivenOut) → IsUnmade m.controls old → IsNumbered site.controller.desk
    → ReachesOn node input (part_of input site old m) (part_of input after new n) → ReachedAs node input site old m.instances Anything → ReachedAs node input after new n.instances Anything
reached_by node input site after old new m n unmade numbered leads r =
    let s : Reaches node input (part_of input after new n) AnyLine r.line = leads r.line r.reached (stands_of node input site old m r.line unmade numbered r.shows) in
    record { line = s.after; reached = subst IsReached s.is (run_reached r.line s.moves r.reached); shows = shows_of node input after new n s.after s.stands; also = tt }

-- *Elsewhere* frames are made and instances drawn
quiet_by : (node : NodeId) (input : End) (site : Site) (old new : List Frame) (m n : ℕ) → Extends old new → m ≤ n → ReachedAs node input site old m Anything → ReachedAs node input site new n Anything
quiet_by node input site old new m n extends less r = record {
  line = r.line;
  reached = r.reached;
  shows = quiet_input node input site site old new m n r.line (record {
    extends = extends;
    drawn = less;
    controller = refl;
    desk = refl;
    met = refl;
    gathered = refl;
    switch = refl;
    branch = refl;
    chain = refl;
    ports = refl;
    requests = λ words s. requests_more node input old new site.controller.queue words extends s;
    answers = λ words s. answers_more node input old new _ words extends s;
  }) r.shows;
  also = tt;
}

same_node : (m n : NodeId) → m.0 ≡ n.0 → m ≡ n
same_node m n e = ap (λ (k : ℕ). record { 0 = k }) e

-- a network once its site at a node is another
pub record IsAt (v w : World) (node : NodeId) (site after : Site) : Type 0 where
  pub found : site_at v node ≡ Some site
  pub there : site_at w node ≡ Some after
  pub others : (other : NodeId) → other.0 ≢ node.0 → site_at w other ≡ site_at v other
  pub extends : Extends v.notes.frames w.notes.frames
  pub drawn : v.numbers.instances ≤ w.numbers.instances

pub lines_on : (v w : World) (node : NodeId) (site after : Site) → IsAt v w node site after → ((input : End) → IsInput after.controller input → IsInput site.controller input)
    → ((input : End) → IsInput site.controller input → ReachedAs node input site v.notes.frames v.numbers.instances Anything → ReachedAs node input after w.notes.frames w.numbers.instances Anything)
    → HasLines v → HasLines w
lines_on v w node site after k inputs leads lines other other_site found input is = by_eq other.0 node.0 (λ same t. at_node same) (λ apart t. elsewhere apart)
  where
    at_node : other.0 ≡ node.0 → HasInputLine w other other_site input
    at_node same =
        let same_id : other ≡ node = same_node other node same in
        let both : Some after ≡ Some other_site = sym k.there ∙ (ap (site_at w) (sym same_id) ∙ found) in
        let one : after ≡ other_site = cc both in
        subst (λ (z : Site). HasInputLine w other z input) one (subst (λ (z : NodeId). HasInputLine w z after input) (sym same_id)
        (leads input (inputs input (subst (λ (z : Site). IsInput z.controller input) (sym one) is)) (lines node site k.found input (inputs input (subst (λ (z : Site). IsInput z.controller input) (sym one) is)))))

    elsewhere : other.0 ≢ node.0 → HasInputLine w other other_site input
    elsewhere apart = quiet_by other input other_site v.notes.frames w.notes.frames v.numbers.instances w.numbers.instances k.extends k.drawn
        (lines other other_site (sym (k.others other apart) ∙ found) input is)

-- *A site is put* in the place of one
pub put_at : (v : World) (node : NodeId) (site after : Site) → site_at v node ≡ Some site → after.controller.node ≡ site.controller.node
    → (site_at (with_site v after) node ≡ Some after) × ((other : NodeId) → other.0 ≢ node.0 → site_at (with_site v after) other ≡ site_at v other)
put_at v node site after found same =
    let key : site_key site ≡ node.0 = at_key site_key node.0 v.sites site found in
    let after_key : site_key after ≡ node.0 = ap (λ (n : NodeId). n.0) same ∙ key in (
      subst (λ (k : ℕ). at site_key k (put site_key after v.sites) ≡ Some after) after_key
          (at_put_same site_key after v.sites site (subst (λ (k : ℕ). at site_key k v.sites ≡ Some site) (sym after_key) found)),
      λ other apart. at_put_other site_key after other.0 v.sites (λ e. apart (sym e ∙ after_key)),
    )
