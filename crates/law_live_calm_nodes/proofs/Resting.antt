-- a node at rest is at peace

use Rattle.std.proofs.Common.{◌≡◌, ℕ, zero, suc, ◌<◌, List, [], ◌∷◌, length, get_or, map, Some, sym, ◌∙◌, ap, subst, arith}
use Rattle.std.proofs.lemmas.List.Kept.{AllPairs-from_increasing}
use Rattle.world_model.specs.Words.{PortNo, at, ArePorts, Controller, Linked, linked_at, port_key, World, Site, site_at, past_of}
use Rattle.world_model.specs.Controller.{ports_of}
use Rattle.law_live_peace.specs.law_run_facts.ordered_lists.Ordered.{Every, InOrder}
use Rattle.law_live_peace.specs.law_run_facts.law_world_views.Between.{setups_of}
use Rattle.law_live_peace.specs.law_run_facts.Nodes.{IsNodeOfRun}
use Rattle.law_live_peace.proofs.law_run_facts.ordered_lists.Every.{every_map}
use Rattle.law_live_peace.proofs.law_run_facts.ordered_lists.InOrder.{order_unmapped}
use Rattle.law_live_peace.proofs.law_run_facts.Nodes.{runs_have_nodes}
use Rattle.law_live_peace.specs.law_live_nodes.Law.{IsPortAtPeace}
use Rattle.law_live_peace.proofs.law_live_worlds.Staying.{ends_agree_in_rest}
use Rattle.law_live_peace.specs.law_live_hearing.Law.{world_at}
use Rattle.law_live_calm_nodes.specs.Nodes.{IsPortAtRest, NodesAtRestAreCalm}
use Rattle.law_live_calm_nodes.proofs.Ports.{ports_found}

-- *Numbers that rise*
abbrev Rises : ℕ → ℕ → Type 0
Rises x y = x < y

all_above : (x : ℕ) (ys : List ℕ) → ((j : ℕ) → j < length ys → x < get_or ys j 0) → Every (Rises x) ys
all_above x [] h = tt
all_above x (y ∷ ys) h = (h zero (omega arith), all_above x ys (λ j low. h (suc j) (omega (arith, low))))

all_rise : (xs : List ℕ) → ((i j : ℕ) → i < j → j < length xs → get_or xs i 0 < get_or xs j 0) → InOrder Rises xs
all_rise [] h = tt
all_rise (x ∷ xs) h = (all_above x xs (λ j low. h zero (suc j) (omega arith) (omega (arith, low))), all_rise xs (λ i j less low. h (suc i) (suc j) (omega (arith, less)) (omega (arith, low))))

ports_rise : (c : Controller) → ArePorts (ports_of c) → InOrder (λ (x y : Linked). port_key x < port_key y) c.ports
ports_rise c are = order_unmapped (λ (x : Linked). x.setup.port) (λ (a b : PortNo). a.0 < b.0) c.ports
    (order_unmapped (λ (p : PortNo). p.0) Rises (ports_of c)
    (all_rise (map (λ (p : PortNo). p.0) (ports_of c)) (λ i j less low. AllPairs-from_increasing (map (λ (p : PortNo). p.0) (ports_of c)) are.ascending i j 0 less low)))

one_site : (a b : Site) → Some a ≡ Some b → a ≡ b
one_site a b e = cc

one_linked : (a b : Linked) → Some a ≡ Some b → a ≡ b
one_linked a b e = cc

pub nodes_at_rest_are_calm : NodesAtRestAreCalm
nodes_at_rest_are_calm policy topology events node addresses run rest listens = record {
  site = site;
  there = found;
  peace = record {
    up = rest.link.calm.met.one_is_up;
    heard = listens site found;
    nothing_asked = rest.nothing_asked;
    ports = every_map (λ (x : Linked). at port_key (port_key x) site.controller.ports ≡ Some x) IsPortAtPeace site.controller.ports at_peace
        (ports_found (setups_of site.controller) site.controller is.conduct.sound.ports);
    ports_apart = ports_rise site.controller is.ports.ascending;
  };
  may_join = rest.may_join;
}
  where
    w : World
    w = world_at policy topology events

    site : Site
    site = rest.link.site

    found : site_at w node ≡ Some site
    found = rest.link.found

    is : IsNodeOfRun policy (past_of policy topology events) node site
    is = runs_have_nodes policy topology events addresses run node site found

    at_peace : (linked : Linked) → at port_key (port_key linked) site.controller.ports ≡ Some linked → IsPortAtPeace linked
    at_peace linked own =
        let r : IsPortAtRest w (record { node = node; port = linked.setup.port }) = rest.ports linked.setup.port (is.ports.linked linked.setup.port linked own) in
        let same : r.agree.shows.site ≡ site = one_site r.agree.shows.site site (sym r.agree.shows.there ∙ found) in
        let it : r.agree.linked ≡ linked = one_linked r.agree.linked linked (sym r.agree.shows.of_port ∙ (ap (λ (s : Site). linked_at s.controller linked.setup.port) same ∙ own)) in
        subst IsPortAtPeace it ((ends_agree_in_rest w (record { node = node; port = linked.setup.port }) r.far r.agree).peace r.may_tick)
