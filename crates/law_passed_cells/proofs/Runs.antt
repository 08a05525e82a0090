-- from sites to networks, and what leads one label to another there

use Rattle.std.proofs.Common.{◌≡◌, ℕ, ◌<◌, List, [], ◌∷◌, ◌++◌, Option, None, Some, refl, sym, ◌∙◌, ap, subst, arith, Contains}
use Rattle.std.specs.Prelude.{◌&&◌, Bool, true, false}
use Rattle.world_model.specs.Words.{End, NodeId, Down, is_label_number, Cell, Request, Standing, Setup, home_of, label_end, default_channel, same_channel, World, Site, site_at, queue_at, requests_chain_at, on_channel, copy_under, leads}
use Rattle.law_fed_worlds.specs.law_port_facts.Port.{IsLabelEnd, IsShaped, asks_ports, empties_control, empties_port, opens_input, opens_output, leads_label, leads_grant, joins_label, parts_label, frees_label}
use Rattle.law_fed_worlds.specs.law_world_views.Between.{IsShapedBranch, home, out, joined, EachSite, HasShapes, setups_of}
use Rattle.law_fed_worlds.specs.law_world_views.Pairs.{Pairs}
use Rattle.law_fed_worlds.specs.law_world_views.Tied.{HasPassed, waiting_on}
use Rattle.law_pairs.proofs.SitePairs.{SitePairs, branch, desk, chain, queue, in_left, in_right, in_filter, of_pairs, led_by, gathered_by, waiting_by}
use Rattle.law_pairs.proofs.Acts.{Sited}
use Rattle.law_passed_cells.proofs.Sites.{SitePassed, contained}
use Rattle.law_passed_cells.proofs.Events.{IsLabelled}

none : {A : Type 0} {P : Type 0} (x : A) → Contains [] x → P
none x h = absurd (omega (arith, h.1))

pub split : {A : Type 0} (before after : List A) (x : A) → [] ≡ before ++ x ∷ after → ⊥
split [] after x e = cc e
split (y ∷ before) after x e = cc e

-- *From sites to a network*, and back
pub to_passed : (v : World) → Sited (SitePassed v.notes.frames) v.sites → (node : NodeId) → HasPassed v node
to_passed v all node = by (site_at v node) refl
  where
    by : (o : Option Site) → site_at v node ≡ o → HasPassed v node
    by None found = record {
      branch = λ input output above on e. absurd (cc (sym (ap (led_by input) found) ∙ e));
      chain = λ input output s cell above on k copy e. none cell (subst (λ (xs : List Cell). Contains xs cell) (ap gathered_by found) k);
      behind = λ input output s before after cell above on is copy e. absurd (split before after cell (sym (ap (waiting_by (Down node)) found) ∙ is));
    }
    by (Some site) found = record {
      branch = λ input output above on e. subst (λ (xs : List Cell). waiting_on output xs ≡ []) (sym (ap (waiting_by (Down node)) found)) ((all node.0 site found).on_branch input output above on (sym (ap (led_by input) found) ∙ e));
      chain = λ input output s cell above on k copy e. subst (λ (xs : List Cell). waiting_on output xs ≡ []) (sym (ap (waiting_by (Down node)) found))
          ((all node.0 site found).in_chain input output s cell above on (subst (λ (xs : List Cell). Contains xs cell) (ap gathered_by found) k) copy e);
      behind = λ input output s before after cell above on is copy e. (all node.0 site found).behind input output s before after cell above on (sym (ap (waiting_by (Down node)) found) ∙ is) copy e;
    }

abbrev pub AsksOnGsmp : World → Type 0
AsksOnGsmp w = (node : NodeId) (cell : Cell) (s : Standing) → Contains (queue_at w (Down node)) cell → copy_under w.notes.frames cell.mark ≡ Some s → same_channel cell.header.channel default_channel ≡ true

pub to_requests : (v : World) → Sited (SitePassed v.notes.frames) v.sites → AsksOnGsmp v
to_requests v all node cell s k copy = by (site_at v node) refl
  where
    by : (o : Option Site) → site_at v node ≡ o → same_channel cell.header.channel default_channel ≡ true
    by None found = none cell (subst (λ (xs : List Cell). Contains xs cell) (ap (waiting_by (Down node)) found) k)
    by (Some site) found = (all node.0 site found).asked cell s (subst (λ (xs : List Cell). Contains xs cell) (ap (waiting_by (Down node)) found) k) copy

pub from_passed : (w : World) → ((node : NodeId) → HasPassed w node) → AsksOnGsmp w → Sited (SitePassed w.notes.frames) w.sites
from_passed w passed asked k site is = record {
  on_branch = λ input output above on e. subst (λ (xs : List Cell). waiting_on output xs ≡ []) waits ((passed node).branch input output above on (ap (led_by input) found ∙ e));
  in_chain = λ input output s cell above on there copy e. subst (λ (xs : List Cell). waiting_on output xs ≡ []) waits
      ((passed node).chain input output s cell above on (subst (λ (xs : List Cell). Contains xs cell) (sym (ap gathered_by found)) there) copy e);
  behind = λ input output s before after cell above on e copy led. (passed node).behind input output s before after cell above on (waits ∙ e) copy led;
  asked = λ cell s there copy. asked node cell s (subst (λ (xs : List Cell). Contains xs cell) (sym waits) there) copy;
}
  where
    node : NodeId
    node = record { 0 = k }

    found : site_at w node ≡ Some site
    found = is

    waits : queue_at w (Down node) ≡ site.controller.queue
    waits = ap (waiting_by (Down node)) found

-- *What leads one label to another* leads to a label
labelled_end : (setups : List Setup) (output : End) → IsLabelEnd setups output → IsLabelled output
labelled_end setups output l = record {
  number = l.number;
  is = l.is ∙ ap (λ (e : End). label_end e.port l.number) (sym l.is);
  number_is = first_and (is_label_number l.number) _ l.in_range;
}
  where
    first_and : (a b : Bool) → (a && b) ≡ true → a ≡ true
    first_and true b e = refl
    first_and false b e = e

no_home : {P : Type 0} (n : ℕ) → n ≡ 0 → 0 < n → P
no_home n e some = absurd (omega (arith, e, some))

shaped_branch : (setups : List Setup) (input output : End) → 0 < input.port.0 → 0 < output.port.0 → IsShapedBranch setups input output → IsLabelled output
shaped_branch setups input output above on (home end it) = absurd (omega (arith, on))
shaped_branch setups input output above on (out end it) = absurd (omega (arith, above))
shaped_branch setups input output above on (joined one two first second) = labelled_end setups output second

abbrev first_of : End → Option (End × End) → End
first_of other None = other
first_of other (Some pair) = pair.0

abbrev second_of : End → Option (End × End) → End
second_of other None = other
second_of other (Some pair) = pair.1

pair_of : (a x b y : End) → ◌≡◌ {A = Option (End × End)} (Some (a, b)) (Some (x, y)) → (a ≡ x) × (b ≡ y)
pair_of a x b y e = (ap (first_of a) e, ap (second_of b) e)

shaped_request : (setups : List Setup) (request : Request) (input output : End) → 0 < input.port.0 → 0 < output.port.0 → IsShaped setups request → leads request ≡ Some (input, output) → IsLabelled output
shaped_request setups request input output above on asks_ports e = absurd (cc e)
shaped_request setups request input output above on (empties_control port is) e = absurd (cc e)
shaped_request setups request input output above on (empties_port port is) e = absurd (cc e)
shaped_request setups request input output above on (opens_input end is) e = no_home output.port.0 (sym (ap (λ (x : End). x.port.0) (pair_of end input (home_of end) output e).1)) on
shaped_request setups request input output above on (opens_output end is) e = no_home input.port.0 (sym (ap (λ (x : End). x.port.0) (pair_of (home_of end) input end output e).0)) above
shaped_request setups request input output above on (leads_label end is) e = no_home output.port.0 (sym (ap (λ (x : End). x.port.0) (pair_of end input (home_of end) output e).1)) on
shaped_request setups request input output above on (leads_grant end is) e = no_home input.port.0 (sym (ap (λ (x : End). x.port.0) (pair_of (home_of end) input end output e).0)) above
shaped_request setups request input output above on (joins_label one two first second) e = subst IsLabelled (pair_of one input two output e).1 (labelled_end setups two second)
shaped_request setups request input output above on (parts_label one two first second) e = no_home output.port.0 (sym (ap (λ (x : End). x.port.0) (pair_of one input (home_of one) output e).1)) on
shaped_request setups request input output above on (frees_label end is) e = absurd (cc e)

pub pairs_labelled : (v : World) → EachSite v (HasShapes v) → (node : NodeId) (input output : End) → 0 < input.port.0 → 0 < output.port.0 → Pairs v node input output → IsLabelled output
pairs_labelled v shapes node input output above on pair = (let f = of_pairs v node input output pair in by f.0 f.1.0 f.1.1)
  where
    by : (site : Site) → site_at v node ≡ Some site → SitePairs v.notes.frames site input output → IsLabelled output
    by site found (branch e) = shaped_branch (setups_of site.controller) input output above on ((shapes node site found).branches input output e)
    by site found (desk s k e) = shaped_request (setups_of site.controller) s.request input output above on
        (contained (λ (x : Standing). IsShaped (setups_of site.controller) x.request) site.controller.desk.standing s (shapes node site found).standing k) e
    by site found (chain s cell k copy e) = shaped_request (setups_of site.controller) s.request input output above on
        ((shapes node site found).copies s cell (in_left cell (requests_chain_at v node) (on_channel default_channel (queue_at v (Down node))) (subst (λ (xs : List Cell). Contains xs cell) (sym (ap gathered_by found)) k)) copy) e
    by site found (queue s cell k here copy e) = shaped_request (setups_of site.controller) s.request input output above on
        ((shapes node site found).copies s cell (in_right cell (requests_chain_at v node) (on_channel default_channel (queue_at v (Down node)))
        (in_filter (λ (c : Cell). same_channel c.header.channel default_channel) cell (queue_at v (Down node)) (subst (λ (xs : List Cell). Contains xs cell) (sym (ap (waiting_by (Down node)) found)) k) here)) copy) e
