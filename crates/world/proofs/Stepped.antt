-- a network runs on behind an event

use Rattle.std.proofs.Common.{◌≡◌, ◌+◌, ◌*◌, ◌≤◌, length, map, sym, ◌∙◌, ap, subst, arith}
use Rattle.link_model.specs.Notes.{Journal}
use Rattle.world_model.specs.Controller.{Controller}
use Rattle.world_model.specs.network_model.declared.event.Event.{Event}
use Rattle.world_model.specs.Conditions.{CanCome}
use Rattle.world_model.specs.Step.{acts}
use Rattle.world_model.specs.Topology.{Topology}
use Rattle.world_model.specs.World.{World}
use Rattle.world.specs.declared.world.World.{World as Network}
use Rattle.world.specs.Coming.{HasCome}
use Rattle.world.specs.Network.{site_of, sites_of, world_of}
use Rattle.law_world_pace.specs.Running.{AreRunning, HavePeers}
use Rattle.world.specs.Running.{Runs}
use Rattle.world.proofs.Acting.{map_length, marked_same}
use Rattle.world.proofs.Starts.{have_same}
use Rattle.law_world_pace.proofs.Events.{Goes, acts_go}
use Rattle.law_world_pace.proofs.Running.{places_are, places_from}

module _ {C : Type 0} (seen : C → Controller) (t : Topology) (old acted : Network C) (notes after : Journal) (event : Event) (r : Runs seen t old)
    (can : CanCome t (world_of seen old notes) event) (h : HasCome seen old acted after (acts t (world_of seen old notes) event)) where
  goes : Goes t (world_of seen old notes) (acts t (world_of seen old notes) event)
  goes = acts_go t (world_of seen old notes) r.world.sites event
      (subst (λ (w : World). w.numbers.controls ≤ 1000000 * (old.events + 1)) h.world (omega (arith, h.drawn.controls.1, r.world.controls)))

  events_are : acted.events ≡ old.events
  events_are = ap (λ (w : World). w.events) h.world ∙ goes.stepped

  pub runs_on : (new : Network C) → new.sites.items ≡ acted.sites.items → new.round.items ≡ acted.round.items → new.numbers ≡ acted.numbers → new.events ≡ acted.events + 1 → new.sent ≡ acted.sent
      → new.redirects ≡ acted.redirects → new.switched ≡ acted.switched → new.starts ≡ acted.starts → new.waiting ≡ acted.waiting → Runs seen t new
  runs_on new items round numbers events sent redirects switched starts waiting =
      let one_more : new.events ≡ old.events + 1 = omega (arith, events, events_are) in
      let sites : sites_of seen new.sites.items ≡ (acts t (world_of seen old notes) event).sites = ap (sites_of seen) items ∙ ap (λ (w : World). w.sites) h.world in
      let running : AreRunning t new.events 1 (sites_of seen new.sites.items) = subst (λ n. AreRunning t n 1 (sites_of seen new.sites.items)) (sym one_more) (subst (AreRunning t (old.events + 1) 1) (sym sites) goes.sites) in
      let size : length (sites_of seen new.sites.items) ≡ length (sites_of seen old.sites.items) = ap length sites ∙ goes.size in
      record {
        world = record {
          topology_is = r.world.topology_is;
          nodes = size ∙ r.world.nodes;
          sites = running;
          instances = omega (arith, numbers, h.drawn.instances.1, r.world.instances, one_more, ap (λ (g : Rattle.net_types.specs.Number.GivenOut). g.instances) numbers);
          controls = omega (arith, h.drawn.controls.1, r.world.controls, one_more, ap (λ (g : Rattle.net_types.specs.Number.GivenOut). g.controls) numbers);
          sent = omega (arith, sent, ap (λ (w : World). w.sent) h.world, goes.sent, r.world.sent, one_more);
        };
        peers = subst (HavePeers t 1) (sym (ap (map Rattle.world.specs.Network.peers_in) items ∙ h.peers)) r.peers;
        round = round ∙ h.round ∙ r.round ∙ places_are t old.events 1 (sites_of seen old.sites.items) r.world.sites
            ∙ ap (places_from t 1) (sym size) ∙ sym (places_are t new.events 1 (sites_of seen new.sites.items) running);
        starts = have_same old.round.items new.round.items old.starts new.starts (length old.sites.items) (length new.sites.items) r.starts (round ∙ h.round) (starts ∙ h.starts)
            (sym (map_length (site_of seen) new.sites.items) ∙ size ∙ map_length (site_of seen) old.sites.items);
        marked = marked_same seen acted new h.marked items round waiting;
        redirects = redirects ∙ h.redirects ∙ ap (λ xs. Rattle.std.specs.List.sum_by Rattle.world_model.specs.World.redirects_at (sites_of seen xs)) (sym items);
        switched = switched ∙ h.switched ∙ ap (λ xs. Rattle.std.specs.List.sum_by Rattle.world_model.specs.World.switched_count (sites_of seen xs)) (sym items);
        few_redirects = omega (arith, redirects, h.few_redirects, r.few_redirects, one_more);
        few_switched = omega (arith, switched, h.few_switched, r.few_switched, one_more);
      }
