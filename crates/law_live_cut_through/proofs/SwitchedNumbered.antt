-- the number of a label that is held at an end of a link

use Rattle.std.proofs.Common.{◌≡◌, ℕ, true, List, Option, Some, sym, ◌∙◌, ap, subst}
use Rattle.std.specs.Option.{option_map, option_and_then}
use Rattle.world_model.specs.Words.{Policy, is_label_number, Label, label_number, label_at, labels_of, Controller, Linked, port_key, linked_at, linked_end, Topology, World, Site, site_at, IsRun, past_of}
use Rattle.world_model.specs.network_model.declared.link.LinkEnd.{LinkEnd}
use Rattle.world_model.specs.network_model.declared.event.Event.{Event}
use Rattle.law_live_ease.specs.law_port_facts.Port.{IsLabel}
use Rattle.law_live_ease.proofs.law_port_facts.Keyed.{at_key, at_every}
use Rattle.law_live_ease.specs.law_controller.law_controller_facts.Sound.{IsLinkedPort}
use Rattle.law_live_ease.specs.law_run_facts.law_world_views.Between.{setups_of}
use Rattle.law_live_ease.specs.law_run_facts.law_world_views.Fronts.{HasAddresses}
use Rattle.law_live_ease.specs.law_run_facts.Nodes.{IsNodeOfRun}
use Rattle.law_live_ease.proofs.law_run_facts.Nodes.{runs_have_nodes}
use Rattle.law_live_ease.specs.law_live_hearing.Law.{world_at}
use Rattle.law_live_ease.proofs.ComingFree.{is_number}

-- what is shown at an end is at a port of its controller
pub at_port : (w : World) (end : LinkEnd) (site : Site) (linked : Linked) → site_at w end.node ≡ Some site → linked_end w end ≡ Some linked
    → linked_at site.controller end.port ≡ Some linked
at_port w end site linked found shown =
    sym (ap (λ (o : Option Site). option_and_then (λ (c : Controller). linked_at c end.port) (option_map (λ (s : Site). s.controller) o)) found) ∙ shown

pub numbered : (policy : Policy) (topology : Topology) (events : List Event) (end : LinkEnd) (site : Site) (linked : Linked) (number : ℕ) (label : Label)
    → IsRun policy topology events → HasAddresses topology → site_at (world_at policy topology events) end.node ≡ Some site
    → linked_at site.controller end.port ≡ Some linked → label_at linked.port number ≡ Some label → is_label_number number ≡ true
numbered policy topology events end site linked number label run addresses found there held =
    let of_run : IsNodeOfRun policy (past_of policy topology events) end.node site = runs_have_nodes policy topology events addresses run end.node site found in
    let port : IsLinkedPort (setups_of site.controller) linked =
    at_every port_key (IsLinkedPort (setups_of site.controller)) end.port.0 site.controller.ports linked of_run.conduct.sound.ports.each there in
    subst (λ (k : ℕ). is_label_number k ≡ true) (at_key label_number number (labels_of linked.port) label held)
    (is_number linked.setup label.number (at_every label_number (IsLabel (setups_of site.controller) linked.setup) number (labels_of linked.port) label port.labels held).in_range)
