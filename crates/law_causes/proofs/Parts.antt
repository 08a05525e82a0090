-- the lists of a world by its parts: queues, branches, and what takes the control link's channels

use Rattle.std.proofs.Common.{◌≡◌, ◌≢◌, ℕ, Bool, true, false, true≢false, List, [], Option, None, Some, refl, sym, ◌∙◌, ap, ap₂, subst, arith, if◌then◌else◌}
use Rattle.std.specs.Prelude.{◌==◌, ◌||◌}
use Rattle.std.specs.Option.{option_map}
use Rattle.std.proofs.lemmas.Bool.Decides.{nat_tests}
use Rattle.law_cell_lists.specs.world_model.Words.{NodeId, PortNo, Place, Down, Up, Out, Channel, End as PortEnd, Mark, Cell, Reassembly, home_of, Controller, Linked, default_channel, same_channel, Topology, IsTopology, World, Site, site_at, controller_at, queue_at, on_channel}
use Rattle.law_cell_lists.specs.world_model.crossbar_model.declared.branch.Branch.{Branch}
use Rattle.law_cell_lists.specs.world_model.network_model.declared.link.LinkEnd.{LinkEnd}
use Rattle.law_cell_lists.specs.world_model.Topology.{peer_of}
use Rattle.law_cell_lists.proofs.Net.{End, Takes, Leads, Nowhere}
use Rattle.law_cell_lists.proofs.Real.{AreApart, AreQuiet}
use Rattle.law_causes.specs.Feeding.{IsLed, branch_at}
use Rattle.law_causes.proofs.Spots.{Spot, same_spot, yields, home, down, up, out, channels_are}
use Rattle.law_causes.proofs.Ends.{end_in, open_in, chain_in, has_cells}
use Rattle.law_causes.proofs.Phase.{Seen, end_or}
use Rattle.law_causes.proofs.Shown.{Inlet, far_inlet, inlet_at, inlet_of, out_spot, Look, led, led_by, spot_is, peer_back}

pub record Takers : Type 0 where
  pub reassembly : Reassembly
  pub ports : List Linked

pub record Parts : Type 0 where
  pub queues : Place → List Cell
  pub look : Look
  pub gsmp : NodeId → Option Reassembly
  pub takers : NodeId → Option Takers

abbrev pub switch_end : Option Reassembly → End same_spot
switch_end None = Nowhere
switch_end (Some r) = Takes r

abbrev pub controller_end : Option Takers → Channel → End same_spot
controller_end None channel = Nowhere
controller_end (Some takers) channel = end_in takers.reassembly takers.ports channel

abbrev pub shown_at : Topology → Parts → Place → Channel → Seen
shown_at t p (Down m) channel = record {
  cells = on_channel channel (p.queues (Down m));
  end = if same_channel channel default_channel then switch_end (p.gsmp m) else led_by p.look (inlet_at t (Down m) channel);
}
shown_at t p (Up m) channel = record { cells = on_channel channel (p.queues (Up m)); end = controller_end (p.takers m) channel }
shown_at t p (Out m port) channel = record {
  cells = if port.0 == 0 then [] else on_channel channel (p.queues (Out m port));
  end = led_by p.look (inlet_at t (Out m port) channel);
}

abbrev pub shown : Topology → Parts → Spot → Seen
shown t p s = shown_at t p s.place s.channel

-- *Alike*
pub shown_cells : (t : Topology) (p o : Parts) (s : Spot) → on_channel s.channel (o.queues s.place) ≡ on_channel s.channel (p.queues s.place) → (shown t o s).cells ≡ (shown t p s).cells
shown_cells t p o s same = by s.place same
  where
    by : (place : Place) → on_channel s.channel (o.queues place) ≡ on_channel s.channel (p.queues place) → (shown_at t o place s.channel).cells ≡ (shown_at t p place s.channel).cells
    by (Down m) same = same
    by (Up m) same = same
    by (Out m port) same = ap (λ (l : List Cell). if port.0 == 0 then [] else l) same

pub led_alike : (look other : Look) (i : Option Inlet) → ((x : Inlet) → i ≡ Some x → other x.node x.input ≡ look x.node x.input) → led_by other i ≡ led_by look i
led_alike look other None same = refl
led_alike look other (Some x) same = ap (led x.node) (same x refl)

pub shown_end : (t : Topology) (p o : Parts) (s : Spot) → ((m : NodeId) → s ≡ down m default_channel → o.gsmp m ≡ p.gsmp m) → ((m : NodeId) → s.place ≡ Up m → controller_end (o.takers m) s.channel ≡ controller_end (p.takers m) s.channel)
    → ((x : Inlet) → inlet_of t s ≡ Some x → o.look x.node x.input ≡ p.look x.node x.input) → (shown t o s).end ≡ (shown t p s).end
shown_end t p o s gsmp takers look = by s.place refl
  where
    by_gsmp : (m : NodeId) → s.place ≡ Down m → (v : Bool) → same_channel s.channel default_channel ≡ v
        → (if v then switch_end (o.gsmp m) else led_by o.look (inlet_of t s)) ≡ (if v then switch_end (p.gsmp m) else led_by p.look (inlet_of t s))
    by_gsmp m is true e = ap switch_end (gsmp m (ap₂ (λ (x : Place) (y : Channel). record { place = x; channel = y }) is (channels_are s.channel default_channel e)))
    by_gsmp m is false e = led_alike p.look o.look (inlet_of t s) look

    by : (place : Place) → s.place ≡ place → (shown_at t o place s.channel).end ≡ (shown_at t p place s.channel).end
    by (Down m) is = subst (λ (x : Option Inlet). (if same_channel s.channel default_channel then switch_end (o.gsmp m) else led_by o.look x) ≡ (if same_channel s.channel default_channel then switch_end (p.gsmp m) else led_by p.look x))
        (ap (λ (x : Place). inlet_at t x s.channel) is) (by_gsmp m is (same_channel s.channel default_channel) refl)
    by (Up m) is = takers m is
    by (Out m port) is = led_alike p.look o.look (inlet_at t (Out m port) s.channel) (λ x e. look x (ap (λ (y : Place). inlet_at t y s.channel) is ∙ e))

-- *What leads anywhere* is a branch
pub record LedBy (t : Topology) (look : Look) (s o : Spot) : Type 0 where
  pub inlet : Inlet
  pub comes : inlet_of t s ≡ Some inlet
  pub branch : Branch
  pub found : look inlet.node inlet.input ≡ Some branch
  pub leads : o ≡ out_spot inlet.node branch.output

led_from : (t : Topology) (look : Look) (s o : Spot) (u : Option Mark) (i : Option Inlet) → inlet_of t s ≡ i → led_by look i ≡ Leads o u → LedBy t look s o
led_from t look s o u None is e = absurd (cc e)
led_from t look s o u (Some x) is e = by (look x.node x.input) refl e
  where
    by : (b : Option Branch) → look x.node x.input ≡ b → led x.node b ≡ Leads o u → LedBy t look s o
    by None found e = absurd (cc e)
    by (Some b) found e = record { inlet = x; comes = is; branch = b; found = found; leads = (let same : out_spot x.node b.output ≡ o = cc in sym same) }

pub leads_from : (t : Topology) (p : Parts) (s o : Spot) (u : Option Mark) → (shown t p s).end ≡ Leads o u → LedBy t p.look s o
leads_from t p s o u e = by s.place refl e
  where
    by_taker : (r : Option Reassembly) → switch_end r ≡ Leads o u → LedBy t p.look s o
    by_taker None e = absurd (cc e)
    by_taker (Some r) e = absurd (cc e)

    by_takers : (r : Option Takers) → controller_end r s.channel ≡ Leads o u → LedBy t p.look s o
    by_takers None e = absurd (cc e)
    by_takers (Some r) e = absurd (end_or (open_in r.ports s.channel || has_cells (chain_in r.reassembly r.ports s.channel)) (chain_in r.reassembly r.ports s.channel) o u e)

    by_gsmp : (m : NodeId) (v : Bool) → (if v then switch_end (p.gsmp m) else led_by p.look (inlet_of t s)) ≡ Leads o u → LedBy t p.look s o
    by_gsmp m true e = by_taker (p.gsmp m) e
    by_gsmp m false e = led_from t p.look s o u (inlet_of t s) refl e

    by : (place : Place) → s.place ≡ place → (shown_at t p place s.channel).end ≡ Leads o u → LedBy t p.look s o
    by (Down m) is e = by_gsmp m (same_channel s.channel default_channel)
        (ap (λ (x : Option Inlet). if same_channel s.channel default_channel then switch_end (p.gsmp m) else led_by p.look x) (ap (λ (x : Place). inlet_at t x s.channel) is) ∙ e)
    by (Up m) is e = by_takers (p.takers m) e
    by (Out m port) is e = led_from t p.look s o u (inlet_of t s) refl (ap (λ (x : Place). led_by p.look (inlet_at t x s.channel)) is ∙ e)

-- *Outputs* by node and end
pub not_zero_is : (q : ℕ) → (q == 0) ≡ false → q ≢ 0
not_zero_is q e z = grind (arith, nat_tests)

pub zero_is : (q : ℕ) → (q == 0) ≡ true → q ≡ 0
zero_is q e = grind (arith, nat_tests)

pub one_output : (m n : NodeId) (e f : PortEnd) → out_spot m e ≡ out_spot n f → (m ≡ n) × (e ≡ f)
one_output m n e f is = by (e.port.0 == 0) (f.port.0 == 0) refl refl is
  where
    by : (v w : Bool) → (e.port.0 == 0) ≡ v → (f.port.0 == 0) ≡ w → (if v then up m e.channel else out m e.port e.channel) ≡ (if w then up n f.channel else out n f.port f.channel) → (m ≡ n) × (e ≡ f)
    by true true a c is =
        let place : Up m ≡ Up n = ap (λ (s : Spot). s.place) is in
        let node : m ≡ n = cc in
        (node, ap₂ (λ (q : ℕ) (x : Channel). record { port = record { 0 = q }; channel = x }) (zero_is e.port.0 a ∙ sym (zero_is f.port.0 c)) (ap (λ (s : Spot). s.channel) is))
    by true false a c is = absurd (let place : Up m ≡ Out n f.port = ap (λ (s : Spot). s.place) is in cc place)
    by false true a c is = absurd (let place : Out m e.port ≡ Up n = ap (λ (s : Spot). s.place) is in cc place)
    by false false a c is =
        let place : Out m e.port ≡ Out n f.port = ap (λ (s : Spot). s.place) is in
        let node : m ≡ n = cc in
        let port : e.port ≡ f.port = cc in
        (node, ap₂ (λ (q : PortNo) (x : Channel). record { port = q; channel = x }) port (ap (λ (s : Spot). s.channel) is))

pub out_of : (m : NodeId) (e : PortEnd) → e.port.0 ≢ 0 → out_spot m e ≡ out m e.port e.channel
out_of m e some = by (e.port.0 == 0) refl
  where
    by : (v : Bool) → (e.port.0 == 0) ≡ v → (if v then up m e.channel else out m e.port e.channel) ≡ out m e.port e.channel
    by true z = absurd (some (zero_is e.port.0 z))
    by false z = refl

pub up_of : (m : NodeId) (e : PortEnd) → e.port.0 ≡ 0 → out_spot m e ≡ up m e.channel
up_of m e none = ap (λ (v : Bool). if v then up m e.channel else out m e.port e.channel) (is_zero e.port.0 none)
  where
    is_zero : (q : ℕ) → q ≡ 0 → (q == 0) ≡ true
    is_zero q z = grind (arith, nat_tests)

-- a list that yields comes in from the control link, and any other that leads from a link
module _ (t : Topology) (is : IsTopology t) where
  from_control : (s : Spot) (i : Inlet) → yields s ≡ true → inlet_of t s ≡ Some i → (i.input.port.0 ≡ 0) × (s ≡ down i.node i.input.channel)
  from_control s i y e = by s.place s.channel y e
    where
      by_gsmp : (m : NodeId) (channel : Channel) (v : Bool) → (if v then None else Some (record { node = m; input = record { port = record { 0 = 0 }; channel = channel } })) ≡ Some i → (i.input.port.0 ≡ 0) × (down m channel ≡ down i.node i.input.channel)
      by_gsmp m channel true e = absurd (cc e)
      by_gsmp m channel false e =
          let at : record { node = m; input = record { port = record { 0 = 0 }; channel = channel } } ≡ i = cc in
          (ap (λ (x : Inlet). x.input.port.0) (sym at), ap (λ (x : Inlet). down x.node x.input.channel) at)

      by : (place : Place) (channel : Channel) → yields (record { place = place; channel = channel }) ≡ true → inlet_at t place channel ≡ Some i → (i.input.port.0 ≡ 0) × (record { place = place; channel = channel } ≡ down i.node i.input.channel)
      by (Down m) channel y e = by_gsmp m channel (same_channel channel default_channel) e
      by (Up m) channel y e = absurd (cc y)
      by (Out m port) channel y e = absurd (cc y)

  from_link : (s : Spot) (i : Inlet) → yields s ≡ false → inlet_of t s ≡ Some i → i.input.port.0 ≢ 0
  from_link s i y e = by s.place s.channel y e
    where
      by_peer : (m : NodeId) (port : PortNo) (channel : Channel) (o : Option LinkEnd) → peer_of t m port ≡ o → option_map (far_inlet channel) o ≡ Some i → i.input.port.0 ≢ 0
      by_peer m port channel None peer e = λ z. cc e
      by_peer m port channel (Some far) peer e = λ z.
          (let at : far_inlet channel far ≡ i = cc in
          let some = (peer_back t is (record { node = m; port = port }) far peer).port in
          omega (arith, some.0, ap (λ (x : Inlet). x.input.port.0) at, z))

      by : (place : Place) (channel : Channel) → yields (record { place = place; channel = channel }) ≡ false → inlet_at t place channel ≡ Some i → i.input.port.0 ≢ 0
      by (Down m) channel y e = absurd (cc y)
      by (Up m) channel y e = λ z. cc e
      by (Out m port) channel y e = by_peer m port channel (peer_of t m port) refl e

  one_spot : (j k : Spot) (i : Inlet) → inlet_of t j ≡ Some i → inlet_of t k ≡ Some i → j ≡ k
  one_spot j k i e f = (let both : Some j ≡ Some k = sym (spot_is t is j i e) ∙ spot_is t is k i f in cc)

  module _ (p : Parts) (all : (n : NodeId) → IsLed (p.look n) (p.queues (Down n))) where
    pub shown_apart : AreApart same_spot yields home (shown t p)
    shown_apart = record {
      once = λ j k o u v y z e f. (
          let a : LedBy t p.look j o = leads_from t p j o u e in
          let c : LedBy t p.look k o = leads_from t p k o v f in
          let both = one_output a.inlet.node c.inlet.node a.branch.output c.branch.output (sym a.leads ∙ c.leads) in
          let input : a.inlet.input ≡ c.inlet.input = (all a.inlet.node).once a.inlet.input c.inlet.input a.branch c.branch a.found
          (ap (λ (n : NodeId). p.look n c.inlet.input) both.0 ∙ c.found) (from_link j a.inlet y a.comes) (from_link k c.inlet z c.comes) both.1 in
          let inlet : a.inlet ≡ c.inlet = ap₂ (λ (n : NodeId) (x : PortEnd). record { node = n; input = x }) both.0 input in
          one_spot j k a.inlet a.comes (c.comes ∙ ap Some (sym inlet)));
      at_home = λ k o u y e. (
          let a : LedBy t p.look k o = leads_from t p k o u e in
          let own = from_control k a.inlet y a.comes in
          let d = (all a.inlet.node).down a.inlet.input a.branch a.found own.0 in
          own.1 ∙ ap (λ (x : PortEnd). down a.inlet.node x.channel) d.1.1 ∙ sym (ap home (a.leads ∙ out_of a.inlet.node a.branch.output d.0)));
      unled = λ j k u y e. (
          let a : LedBy t p.look j k = leads_from t p j k u e in
          never a.inlet.node a.branch.output k y a.leads);
    }
      where
        never : (m : NodeId) (e : PortEnd) (k : Spot) → yields k ≡ true → k ≢ out_spot m e
        never m e k y is = by (e.port.0 == 0) is
          where
            by : (v : Bool) → k ≢ (if v then up m e.channel else out m e.port e.channel)
            by true is = true≢false (sym y ∙ ap yields is)
            by false is = true≢false (sym y ∙ ap yields is)

    pub shown_quiet : AreQuiet same_spot yields home (shown t p)
    shown_quiet j k o u v y z e f =
        let a : LedBy t p.look j o = leads_from t p j o u e in
        let c : LedBy t p.look k o = leads_from t p k o v f in
        let own = from_control k c.inlet z c.comes in
        let d = (all c.inlet.node).down c.inlet.input c.branch c.found own.0 in
        let both = one_output a.inlet.node c.inlet.node a.branch.output c.branch.output (sym a.leads ∙ c.leads) in
        let across = (all a.inlet.node).across a.inlet.input a.branch a.found (from_link j a.inlet y a.comes) (λ x. d.0 (ap (λ (x : PortEnd). x.port.0) (sym both.1) ∙ x)) in
        let at : k ≡ down c.inlet.node (home_of c.branch.output).channel = own.1 ∙ ap (λ (x : PortEnd). down c.inlet.node x.channel) d.1.1 in
        ap (λ (s : Spot). (shown t p s).cells) at
        ∙ ap₂ (λ (n : NodeId) (x : PortEnd). on_channel (home_of x).channel (p.queues (Down n))) (sym both.0) (sym both.1)
        ∙ across.1

-- *The parts of a world*
abbrev pub takers_of : Controller → Takers
takers_of c = record { reassembly = c.reassembly; ports = c.ports }

abbrev pub parts_of : World → Parts
parts_of w = record {
  queues = queue_at w;
  look = branch_at w;
  gsmp = λ n. option_map (λ (site : Site). site.switch.reassembly) (site_at w n);
  takers = λ n. option_map takers_of (controller_at w n);
}
