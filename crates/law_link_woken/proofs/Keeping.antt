-- where numbers are left nothing but its table resets a port, at a tick in a run

use Rattle.std.proofs.Common.{◌≡◌, ℕ, zero, suc, ◌<◌, List, [], ◌∷◌, length, get_or, map, Option, Some, sym, ◌∙◌, ap, subst, arith}
use Rattle.std.specs.Option.{option_map}
use Rattle.std.proofs.lemmas.List.Kept.{AllPairs-from_increasing}
use Rattle.world_model.specs.Words.{NodeId, PortNo, at, ArePorts, Controller, Linked, linked_at, port_key, controller_acts, put_away, Topology, World, Site, site_key, site_at, next, past_of, IsRun}
use Rattle.world_model.specs.Controller.{Acted, ports_of}
use Rattle.world_model.specs.Ticks.{ticks}
use Rattle.world_model.specs.network_model.declared.event.Event.TheVariants.{Tick}
use Rattle.world_model.proofs.Lists.{at_key, at_put_same}
use Rattle.law_link_nodes.specs.law_port_facts.ordered_lists.Ordered.{Every, InOrder}
use Rattle.law_link_nodes.proofs.law_port_facts.ordered_lists.InOrder.{order_unmapped}
use Rattle.law_link_nodes.specs.law_run_facts.Nodes.{IsNodeOfRun}
use Rattle.law_link_nodes.proofs.law_run_facts.Nodes.{runs_have_nodes}
use Rattle.law_link_nodes.proofs.law_run_facts.Steps.{runs_have_fronts}
use Rattle.law_link_nodes.proofs.law_passing.Controllers.{ticks_adds}
use Rattle.law_link_nodes.specs.law_live_hearing.Law.{world_at}
use Rattle.law_link_nodes.specs.law_live_saying.Law.{ticking}
use Rattle.law_link_numbers.specs.Law.{TicksKeepParties}
use Rattle.law_link_numbers.specs.Law as parties
use Rattle.law_link_woken.specs.Given.{TicksKeepTheirs}

-- *Ports rise* by their numbers
abbrev Rises : ℕ → ℕ → Type 0
Rises x y = x < y

all_above : (x : ℕ) (ys : List ℕ) → ((j : ℕ) → j < length ys → x < get_or ys j 0) → Every (Rises x) ys
all_above x [] h = tt
all_above x (y ∷ ys) h = (h zero (omega arith), all_above x ys (λ j low. h (suc j) (omega (arith, low))))

all_rise : (xs : List ℕ) → ((i j : ℕ) → i < j → j < length xs → get_or xs i 0 < get_or xs j 0) → InOrder Rises xs
all_rise [] h = tt
all_rise (x ∷ xs) h = (all_above x xs (λ j low. h zero (suc j) (omega arith) (omega (arith, low))), all_rise xs (λ i j less low. h (suc i) (suc j) (omega (arith, less)) (omega (arith, low))))

ports_rise : (c : Controller) → ArePorts (ports_of c) → InOrder (λ (x y : Linked). port_key x < port_key y) c.ports
ports_rise c are = order_unmapped (λ (x : Linked). x.setup.port) (λ (a b : PortNo). a.0 < b.0) c.ports
    (order_unmapped (λ (p : PortNo). p.0) Rises (ports_of c)
    (all_rise (map (λ (p : PortNo). p.0) (ports_of c)) (λ i j less low. AllPairs-from_increasing (map (λ (p : PortNo). p.0) (ports_of c)) are.ascending i j 0 less low)))

one_site : (x y : Site) → Some x ≡ Some y → x ≡ y
one_site x y e = cc e

-- *A site behind its tick*
abbrev ticked_site : World → Site → Site
ticked_site w site = record site { controller = (ticks (ticking w site)).controller }

ticked_there : (topology : Topology) (w : World) (node : NodeId) (site : Site) → site_at w node ≡ Some site → site_at (next topology w (Tick node)) node ≡ Some (ticked_site w site)
ticked_there topology w node site there = ap (λ (o : Option Site). at site_key node.0 (controller_acts (put_away w) o ticks).sites) there ∙ found
  where
    key : site_key (ticked_site w site) ≡ node.0
    key = ap (λ (n : NodeId). n.0) (ticks_adds (ticking w site)).node ∙ at_key site_key node.0 w.sites site there

    found : at site_key node.0 (controller_acts (put_away w) (Some site) ticks).sites ≡ Some (ticked_site w site)
    found = subst (λ (k : ℕ). at site_key k (controller_acts (put_away w) (Some site) ticks).sites ≡ Some (ticked_site w site)) key
        (at_put_same site_key (ticked_site w site) w.sites site (subst (λ (k : ℕ). at site_key k w.sites ≡ Some site) (sym key) there))

pub ticks_keep_theirs : TicksKeepParties → TicksKeepTheirs
ticks_keep_theirs keep policy topology before end peer c numbers up linked now site shows other found of_port =
    let w : World = world_at policy topology before in
    let a : Acted = ticking w shows.site in
    let run : IsRun policy topology before = (runs_have_fronts policy topology before (Tick end.node) c.comes).run in
    let is : IsNodeOfRun policy (past_of policy topology before) end.node shows.site = runs_have_nodes policy topology before c.comes.addresses run end.node shows.site shows.there in
    let there : site_at (next topology w (Tick end.node)) end.node ≡ Some (ticked_site w shows.site) = ticked_there topology w end.node shows.site shows.there in
    let left : parties.HasNumbers end.port a = λ l e. numbers shows.site.controller l (ap (λ (o : Option Site). option_map (λ (s : Site). s.controller) o) shows.there) e in
    keep end.port a linked (ports_rise shows.site.controller is.ports.ascending) shows.of_port left other (up (ticked_site w shows.site) there) now
    (subst (λ (s : Site). linked_at s.controller end.port ≡ Some now) (one_site site (ticked_site w shows.site) (sym found ∙ there)) of_port)
