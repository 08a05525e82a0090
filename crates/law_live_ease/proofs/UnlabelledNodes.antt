-- an unlabelled node mirrors its controller, its switch is as it knows it, and its desk and its ports are tied

use Rattle.std.proofs.Common.{◌≡◌, ◌≢◌, ℕ, ◌*◌, ◌≤◌, ◌<◌, ◌&&◌, ◌⊎◌, inl, inr, Bool, true, false, true≢false, List, [], ◌∷◌, map, Option, None, Some, refl, sym, ◌∙◌, ap, subst, arith, if◌then◌else◌}
use Rattle.std.specs.Prelude.{◌==◌, nat_le}
use Rattle.std.specs.Option.{option_map_or, option_and_then}
use Rattle.std.proofs.lemmas.Bool.Decides.{nat_tests}
use Rattle.world_model.specs.Words.{NodeId, Down, PortNo, End, Branches, is_label_number, label_channel_of, label_number_of, number_of_channel, IsLinkPort, at, Desk, Standing, home_of, Setup, Label, Wiring, label_at, label_number, labels_of, Grant, Idle, grant_on, control_port, Switch, port_on, on_link, Linked, port_key, Policy, Site, site_at, queue_at, Past}
use Rattle.world_model.specs.crossbar_model.Crossbar.{output_of}
use Rattle.law_live_journeys.proofs.law_causes.Ends.{parts_of_control}
use Rattle.law_live_journeys.specs.law_run_facts.ordered_lists.Ordered.{Every}
use Rattle.law_live_journeys.specs.law_run_facts.law_port_facts.Port.{setup_port, IsLabelEnd}
use Rattle.law_live_journeys.specs.law_run_facts.law_world_views.Between.{IsPortEnd, default, label, IsShapedBranch, home, out, joined, HasShapes, HasPortsUp, setups_of}
use Rattle.law_live_journeys.specs.law_run_facts.Nodes.{IsNodeOfRun}
use Rattle.law_live_journeys.proofs.law_run_facts.ordered_lists.Every.{every_map, every_mapped}
use Rattle.law_live_journeys.proofs.law_run_facts.law_port_facts.Keyed.{at_every}
use Rattle.law_live_journeys.proofs.law_run_facts.law_controller_views.Sends.{label_vpi}
use Rattle.law_live_journeys.proofs.law_live_hearing.Shapes.{port_some}
use Rattle.law_live_journeys.specs.law_live_bindings.Law.{label_branch, grant_branch}
use Rattle.law_live_journeys.specs.law_live_mirrors.Mirrors.{other_end, is_labels, label_in, led_by, is_led_out, grant_in, IsHeld, standing_on, IsBelievedBy, Mirrors}
use Rattle.law_live_journeys.specs.law_live_mirrors.Fit.{IsKnown}
use Rattle.law_live_journeys.proofs.law_live_mirrors.Ports.{is_labels_end}
use Rattle.law_live_journeys.specs.law_live_mirrored_worlds.Way.{IsMirroredIn}
use Rattle.law_live_journeys.proofs.law_live_mirrored_worlds.Carries.{rests_mirror}
use Rattle.law_live_ease.specs.Law.{IsTied, IsAsked, AreTied, IsSteadyNode}
use Rattle.calm_model.specs.Unlabelled.{IsUnlabelledPort, IsUnlabelledNode}

-- *No label and no grant* is found at unlabelled ports, so an input is held that leads home or nowhere
module _ (s : Switch) (ports : List Linked) (fresh : Every (IsUnlabelledPort s) ports) (input : End) where
  no_label : label_in ports input ≡ None
  no_label = by (at port_key input.port.0 ports) refl
    where
      by : (o : Option Linked) → at port_key input.port.0 ports ≡ o → option_and_then (λ (l : Linked). label_at l.port (number_of_channel input.channel)) o ≡ None
      by None found = refl
      by (Some l) found = ap (λ (labels : List Label). at label_number (number_of_channel input.channel) labels)
          (at_every port_key (IsUnlabelledPort s) input.port.0 ports l fresh found).no_label

  no_grant : (output : End) → grant_in ports output ≡ None
  no_grant output = by (at port_key output.port.0 ports) refl
    where
      none : (number : Option ℕ) → grant_on [] number ≡ None
      none None = refl
      none (Some number) = refl

      by : (o : Option Linked) → at port_key output.port.0 ports ≡ o → option_and_then (λ (l : Linked). grant_on l.port.grants (label_number_of output.channel)) o ≡ None
      by None found = refl
      by (Some l) found = ap (λ (grants : List Grant). grant_on grants (label_number_of output.channel)) (at_every port_key (IsUnlabelledPort s) output.port.0 ports l fresh found).no_grant
          ∙ none (label_number_of output.channel)

  held : (led : Option End) → (is_labels input ≡ true → led ≡ None) → (is_labels input ≡ false → (led ≡ None) ⊎ (led ≡ Some (other_end input))) → IsHeld ports input led
  held led nowhere others = record {
    label = λ is. nowhere is ∙ sym (ap (led_by input) no_label);
    other = others;
    grant = λ is. absurd (true≢false (sym is ∙ (ap (λ (o : Option Grant). (input.port.0 == 0) && option_map_or (λ (g : Grant). is_led_out g.state) o false) (no_grant (other_end input)) ∙ never (input.port.0 == 0))));
  }
    where
      never : (b : Bool) → (b && false) ≡ false
      never true = refl
      never false = refl

-- where nothing stands, it is mirrored so
held_mirrors : (ports : List Linked) (desk : Desk) (branches : Branches) (input : End) → desk.standing ≡ [] → IsHeld ports input (output_of branches input) → Mirrors ports desk branches [] input
held_mirrors ports desk branches input none held = subst (λ (standing : List Standing). IsBelievedBy ports input standing (output_of branches input))
    (sym (ap (λ (standing : List Standing). standing_on (record desk { standing = standing }) input) none)) held

-- *By their shapes* branches lead to the other end, but those of labels
first_of : (x y : Bool) → (x && y) ≡ true → x ≡ true
first_of true y e = refl
first_of false y e = absurd (cc e)

some_is : (n : ℕ) → 1 ≤ n → n ≢ 0
some_is n some zero = omega (arith, some, zero)

not_zero : (n : ℕ) → 1 ≤ n → (n == 0) ≡ false
not_zero n some = grind (arith, nat_tests)

module _ (setups : List Setup) (links : Every (λ (setup : Setup). IsLinkPort setup.port) setups) where
  number_is : (end : End) → (is : IsLabelEnd setups end) → is_label_number is.number ≡ true
  number_is end is = first_of (is_label_number is.number) (nat_le is.setup.least is.number && nat_le is.number is.setup.greatest) is.in_range

  labels_input : (input : End) → IsLabelEnd setups input → is_labels input ≡ true
  labels_input input is = ap is_labels is.is ∙ is_labels_end is.setup.port is.number
      (some_is is.setup.port.0 (at_every setup_port (λ (setup : Setup). IsLinkPort setup.port) is.setup.port.0 setups is.setup links is.linked).0) (number_is input is)

  low_path : (end : End) → IsPortEnd setups end → end.channel.vpi < 16
  low_path _ (default port is) = omega arith
  low_path _ (label end is) = subst (λ (e : End). e.channel.vpi < 16) (sym is.is) (label_vpi (label_channel_of is.number) (number_is end is))

  leads_other : (input output : End) → IsShapedBranch setups input output → is_labels input ≡ false → output ≡ other_end input
  leads_other _ _ (home end is) none = sym (ap (λ (b : Bool). if b then record { port = port_on end.channel; channel = on_link end.channel } else home_of end)
      (not_zero end.port.0 (port_some setups links end is)))
  leads_other _ _ (out end is) none = (let parts = parts_of_control end.port end.channel (low_path end is) in sym (λ i. record { port = record { 0 = parts.0 i }; channel = parts.1 i }))
  leads_other _ _ (joined input output from to) none = absurd (true≢false (sym (labels_input input from) ∙ none))

  leads_nowhere_else : (branches : Branches) → ((input output : End) → output_of branches input ≡ Some output → IsShapedBranch setups input output) → (input : End) → is_labels input ≡ false
      → (output_of branches input ≡ None) ⊎ (output_of branches input ≡ Some (other_end input))
  leads_nowhere_else branches shaped input none = by (output_of branches input) refl
    where
      by : (led : Option End) → output_of branches input ≡ led → (led ≡ None) ⊎ (led ≡ Some (other_end input))
      by None is = inl refl
      by (Some output) is = inr (ap Some (leads_other input output (shaped input output is) none))

-- *An unlabelled node* in a run, whose switch has branches of these shapes and whose ports are up
module _ (policy : Policy) (past : Past) (node : NodeId) (site : Site) (found : site_at past.now node ≡ Some site) (is : IsNodeOfRun policy past node site) (fresh : IsUnlabelledNode site) where
  pub mirrored : HasShapes past.now node site → queue_at past.now (Down node) ≡ [] → IsMirroredIn past.now node
  mirrored shapes empty = record {
    way = [];
    by = rests_mirror past.now node site found empty (λ input. held_mirrors site.controller.ports site.controller.desk site.switch.crossbar.branches input fresh.nothing_stands
        (held site.switch site.controller.ports fresh.ports input (output_of site.switch.crossbar.branches input) (fresh.leads_no_label input)
        (leads_nowhere_else (setups_of site.controller) is.ports.links site.switch.crossbar.branches shapes.branches input)));
  }

  numbers_same : (ports : List Linked) → map (λ (l : Linked). l.setup.port) ports ≡ map (λ (setup : Setup). setup.port) (map (λ (l : Linked). l.setup) ports)
  numbers_same [] = refl
  numbers_same (l ∷ ports) = ap (λ (ps : List PortNo). l.setup.port ∷ ps) (numbers_same ports)

  known : HasPortsUp past.now node site → IsKnown (setups_of site.controller) site.controller.desk.rows site.switch
  known up = record {
    numbers = is.is_node.switch_ports ∙ ap (λ (ps : List PortNo). control_port ∷ ps) (numbers_same site.controller.ports);
    links = is.ports.links;
    up = up.up;
    sessions = fresh.sessions;
    paths = every_mapped (λ (l : Linked). l.setup) (λ (setup : Setup). setup.greatest < 1024 * site.switch.vpis) site.controller.ports
        (every_map (IsUnlabelledPort site.switch) (λ (l : Linked). l.setup.greatest < 1024 * site.switch.vpis) site.controller.ports (λ l f. f.paths) fresh.ports);
  }

  abbrev Wires : Linked → Label → Type 0
  Wires l x = x.state ≡ Wiring → IsAsked site.controller.desk (label_branch l.setup x.number)

  abbrev Starts : Linked → Grant → Type 0
  Starts l x = x.state ≡ Idle → IsAsked site.controller.desk (grant_branch l.setup x.label)

  ties : AreTied site.controller
  ties = record {
    standing = subst (Every (λ (s : Standing). IsTied site.controller s.request)) (sym fresh.nothing_stands) tt;
    wiring = every_map (IsUnlabelledPort site.switch) (λ (l : Linked). Every (Wires l) (labels_of l.port)) site.controller.ports (λ l f. subst (Every (Wires l)) (sym f.no_label) tt) fresh.ports;
    idle = every_map (IsUnlabelledPort site.switch) (λ (l : Linked). Every (Starts l) l.port.grants) site.controller.ports (λ l f. subst (Every (Starts l)) (sym f.no_grant) tt) fresh.ports;
  }

  pub steady : HasPortsUp past.now node site → IsSteadyNode site
  steady up = record { known = known up; none_waits = fresh.none_waits; ties = ties }
