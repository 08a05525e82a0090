-- how the branches of a switch lead, by their shapes and by the joins of its controller

use Rattle.std.proofs.Common.{◌≡◌, ◌≢◌, ℕ, ◌≤◌, ◌<◌, ◌+◌, ◌*◌, true, true≢false, List, Option, None, Some, refl, sym, ◌∙◌, ap, ap₂, subst, arith}
use Rattle.std.specs.Prelude.{is_some}
use Rattle.std.specs.FinMap.{get}
use Rattle.std.specs.Option.{option_map, option_and_then}
use Rattle.law_branch_shapes.specs.world_model.Words.{NodeId, PortNo, Down, Channel, End, number_of_channel, IsLinkPort, at, Setup, home_of, Grant, grant_label, Controller, Linked, default_end, World, Site, site_at, queue_at, output_at}
use Rattle.law_branch_shapes.specs.world_model.crossbar_model.declared.branch.Branch.{Branch}
use Rattle.law_branch_shapes.specs.ordered_lists.Ordered.{Every}
use Rattle.law_branch_shapes.specs.world_model.port_model.Grants.{lent_input}
use Rattle.law_branch_shapes.specs.law_port_facts.Port.{setup_port, IsLinked}
use Rattle.law_branch_shapes.proofs.law_port_facts.Keyed.{by_eq, at_key, at_every}
use Rattle.law_branch_shapes.specs.law_controller_facts.Conditions.{HasHome}
use Rattle.law_branch_shapes.proofs.law_controller_facts.Conditions.{label_has_home}
use Rattle.law_branch_shapes.specs.law_world_views.Pairs.{by_branch, IsJoin}
use Rattle.law_branch_shapes.specs.law_world_views.Between.{IsPortEnd, IsShapedBranch, default, label, home, out, joined, HasShapes, setups_of}
use Rattle.law_branch_shapes.specs.law_causes.Feeding.{IsLed, branch_at}
use Rattle.law_fed_worlds.specs.Feeding.{HasOneFeeder, JoinsLeadOnce}

abbrev pub AreLinks : List Setup → Type 0
AreLinks setups = Every (λ (setup : Setup). IsLinkPort setup.port) setups

-- *The channel of a port* has a home on the control link, and homes tell channels apart
module _ (setups : List Setup) (links : AreLinks setups) where
  default_has_home : (port : PortNo) → IsLinked setups port → HasHome (default_end port)
  default_has_home port linked = by (at setup_port port.0 setups) refl linked
    where
      by : (o : Option Setup) → at setup_port port.0 setups ≡ o → is_some o ≡ true → HasHome (default_end port)
      by None found e = absurd (true≢false (sym e))
      by (Some setup) found e =
          let link : IsLinkPort setup.port = at_every setup_port (λ (x : Setup). IsLinkPort x.port) port.0 setups setup links found in
          let key : setup.port.0 ≡ port.0 = at_key setup_port port.0 setups setup found in
          record { least = omega (arith, link.0, key); most = omega (arith, link.1, key); vpi = omega arith }

  end_has_home : (end : End) → IsPortEnd setups end → HasHome end
  end_has_home _ (default port linked) = default_has_home port linked
  end_has_home _ (label end is) = label_has_home setups end links is

  -- *Shapes*
  above : (n : ℕ) → 1 ≤ n → n ≢ 0
  above n some e = omega (arith, some, e)

  shaped_down : (input output : End) → IsShapedBranch setups input output → input.port.0 ≡ 0 → (output.port.0 ≢ 0) × ((output.port.0 ≤ 8) × (input ≡ home_of output))
  shaped_down _ _ (home end is) zero = absurd (above end.port.0 (end_has_home end is).least zero)
  shaped_down _ _ (out end is) zero = (above end.port.0 (end_has_home end is).least, ((end_has_home end is).most, refl))
  shaped_down _ _ (joined input output i o) zero = absurd (above input.port.0 (label_has_home setups input links i).least zero)

  shaped_up : (input output : End) → IsShapedBranch setups input output → input.port.0 ≢ 0 → output.port.0 ≡ 0 → output ≡ home_of input
  shaped_up _ _ (home end is) some zero = refl
  shaped_up _ _ (out end is) some zero = absurd (some refl)
  shaped_up _ _ (joined input output i o) some zero = absurd (above output.port.0 (label_has_home setups output links o).least zero)

  shaped_across : (input output : End) → IsShapedBranch setups input output → input.port.0 ≢ 0 → output.port.0 ≢ 0 → output.port.0 ≤ 8
  shaped_across _ _ (home end is) some other = absurd (other refl)
  shaped_across _ _ (out end is) some other = absurd (some refl)
  shaped_across _ _ (joined input output i o) some other = (label_has_home setups output links o).most

  -- an input of a link has a VPI below 16
  shaped_input : (input output : End) → IsShapedBranch setups input output → input.port.0 ≢ 0 → HasHome input
  shaped_input _ _ (home end is) some = end_has_home end is
  shaped_input _ _ (out end is) some = absurd (some refl)
  shaped_input _ _ (joined input output i o) some = label_has_home setups input links i

one_home : (one other : End) → HasHome one → HasHome other → home_of one ≡ home_of other → one ≡ other
one_home one other a b e =
    let vpi : 16 * one.port.0 + one.channel.vpi ≡ 16 * other.port.0 + other.channel.vpi = ap (λ (x : End). x.channel.vpi) e in
    ap₂ (λ (p : ℕ) (c : Channel). record { port = record { 0 = p }; channel = c })
    (high one.port.0 other.port.0 one.channel.vpi other.channel.vpi a.vpi b.vpi vpi)
    (ap₂ (λ (v u : ℕ). record { vpi = v; vci = u }) (low one.port.0 other.port.0 one.channel.vpi other.channel.vpi a.vpi b.vpi vpi) (ap (λ (x : End). x.channel.vci) e))
  where
    low : (p q a b : ℕ) → a < 16 → b < 16 → 16 * p + a ≡ 16 * q + b → a ≡ b
    low p q a b x y e = omega (arith, x, y, e)

    high : (p q a b : ℕ) → a < 16 → b < 16 → 16 * p + a ≡ 16 * q + b → p ≡ q
    high p q a b x y e = omega (arith, x, y, e)

-- *Joins*: no grant is lent to two inputs
one_input : (c : Controller) (one other output : End) → IsJoin c one output → IsJoin c other output → one ≡ other
one_input c one other output a b =
    let linked : a.linked ≡ b.linked = (let both : Some a.linked ≡ Some b.linked = sym a.found ∙ b.found in cc both) in
    let found : at grant_label (number_of_channel output.channel) b.linked.port.grants ≡ Some a.grant = subst (λ (x : Linked). at grant_label (number_of_channel output.channel) x.port.grants ≡ Some a.grant) linked a.granted in
    let grant : a.grant ≡ b.grant = (let both : Some a.grant ≡ Some b.grant = sym found ∙ b.granted in cc both) in
    let both : Some one ≡ Some other = sym a.lent ∙ ap (λ (x : Grant). lent_input x.state) grant ∙ b.lent in
    cc both

pub joins_lead_once : JoinsLeadOnce
joins_lead_once w node site joins met one other output some more up here there =
    one_input site.controller one other output (joins met one output some up (by_branch here)) (joins met other output more up (by_branch there))

-- *A node*
module _ (w : World) (node : NodeId) (site : Site) (found : site_at w node ≡ Some site) (links : AreLinks (setups_of site.controller)) (shapes : HasShapes w node site) (feeder : HasOneFeeder w node) where
  some_above : (n : ℕ) → n ≢ 0 → 0 < n
  some_above n some = by_eq n 0 (λ zero t. absurd (some zero)) (λ other t. omega (arith, other))

  here : (input : End) (b : Branch) → branch_at w node input ≡ Some b → get site.switch.crossbar.branches input ≡ Some b
  here input b e = sym (ap (option_and_then (λ (x : Site). get x.switch.crossbar.branches input)) found) ∙ e

  shape : (input : End) (b : Branch) → branch_at w node input ≡ Some b → IsShapedBranch (setups_of site.controller) input b.output
  shape input b e = shapes.branches input b.output (ap (option_map (λ (x : Branch). x.output)) (here input b e))

  leads : (input : End) (b : Branch) → branch_at w node input ≡ Some b → output_at w node input ≡ Some b.output
  leads input b e = ap (option_and_then (λ (x : Site). option_map (λ (y : Branch). y.output) (get x.switch.crossbar.branches input))) found ∙ ap (option_map (λ (x : Branch). x.output)) (here input b e)

  led_once : (one other : End) (first second : Branch) → branch_at w node one ≡ Some first → branch_at w node other ≡ Some second
      → one.port.0 ≢ 0 → other.port.0 ≢ 0 → first.output ≡ second.output → one ≡ other
  led_once one other first second f s some more same = by_eq first.output.port.0 0
      (λ zero t. one_home one other (shaped_input (setups_of site.controller) links one first.output (shape one first f) some)
      (shaped_input (setups_of site.controller) links other second.output (shape other second s) more)
      (sym (shaped_up (setups_of site.controller) links one first.output (shape one first f) some zero) ∙ same
      ∙ shaped_up (setups_of site.controller) links other second.output (shape other second s) more (sym (ap (λ (x : End). x.port.0) same) ∙ zero)))
      (λ away t. feeder.once one other first.output (some_above one.port.0 some) (some_above other.port.0 more) (some_above first.output.port.0 away) (leads one first f)
      (leads other second s ∙ ap (λ (x : End). Some x) (sym same)))

  pub node_led : IsLed (branch_at w node) (queue_at w (Down node))
  node_led = record {
    down = λ input b e zero. shaped_down (setups_of site.controller) links input b.output (shape input b e) zero;
    up = λ input b e some zero. shaped_up (setups_of site.controller) links input b.output (shape input b e) some zero;
    across = λ input b e some other. (
      shaped_across (setups_of site.controller) links input b.output (shape input b e) some other,
      feeder.passed input b.output (some_above input.port.0 some) (some_above b.output.port.0 other) (leads input b e),
    );
    once = led_once;
  }
