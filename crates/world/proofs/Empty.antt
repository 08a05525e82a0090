-- a carry of an empty queue counts, and so do many

use Rattle.std.proofs.Common.{◌≡◌, ℕ, zero, suc, ◌+◌, List, [], ◌∷◌, length, refl, ◌∙◌, ap, subst, arith}
use Rattle.std.specs.Prelude.{drop, fold}
use Rattle.atm_cells.specs.declared.cell.Cell.{Cell}
use Rattle.link_model.specs.declared.record.Record.{Record}
use Rattle.world_model.specs.Controller.{Controller}
use Rattle.world_model.specs.Step.{carries_head, tallied}
use Rattle.world_model.specs.Topology.{Topology}
use Rattle.world_model.specs.World.{Site, one_tallied}
use Rattle.world.specs.declared.world.World.{World as Network}
use Rattle.world.specs.Empty.{EmptyCarriesCount}
use Rattle.law_world_pace.specs.Running.{AreRunning}
use Rattle.law_world_pace.proofs.Running.{all_later}
use Rattle.world.specs.Network.{sites_of}
use Rattle.world.specs.Running.{Runs}

drop_whole : {A : Type 0} (xs : List A) → drop (length xs) xs ≡ []
drop_whole [] = refl
drop_whole (x ∷ xs) = drop_whole xs

pub empty_carry : EmptyCarriesCount
empty_carry = λ t w place e.
    ap (λ (cells : List Cell). tallied w (carries_head t w place cells)) e
    ∙ ap (λ (records : List Record). record w { events = w.events + 1; tally = fold one_tallied w.tally records }) (drop_whole w.notes.records)

-- *A network runs on* behind so many of them
later_by : (t : Topology) (events count number : ℕ) (sites : List Site) → AreRunning t events number sites → AreRunning t (events + count) number sites
later_by t events zero number sites h = subst (λ (k : ℕ). AreRunning t k number sites) (omega arith) h
later_by t events (suc count) number sites h =
    let up : (events + count) + 1 ≡ events + suc count = omega arith in
    subst (λ (k : ℕ). AreRunning t k number sites) up (all_later t (events + count) number sites (later_by t events count number sites h))

pub runs_later : {C : Type 0} (seen : C → Controller) (t : Topology) (n : Network C) (count : ℕ) → Runs seen t n → Runs seen t (record n { events = n.events + count })
runs_later seen t n count r = record {
  world = record {
    topology_is = r.world.topology_is;
    nodes = r.world.nodes;
    sites = later_by t n.events count 1 (sites_of seen n.sites.items) r.world.sites;
    instances = omega (arith, r.world.instances);
    controls = omega (arith, r.world.controls);
    sent = omega (arith, r.world.sent);
  };
  peers = r.peers;
  round = r.round;
  starts = r.starts;
  marked = r.marked;
  redirects = r.redirects;
  switched = r.switched;
  few_redirects = omega (arith, r.few_redirects);
  few_switched = omega (arith, r.few_switched);
}
