-- what a world shows of its lists

use Rattle.std.proofs.Common.{◌≡◌, ◌≢◌, ℕ, suc, ◌≤◌, Bool, true, false, true≢false, List, [], ◌∷◌, Option, None, Some, All, refl, sym, ◌∙◌, ap, ap₂, subst, arith, if◌then◌else◌}
use Rattle.std.specs.Prelude.{◌==◌}
use Rattle.std.specs.Option.{option_map, option_or}
use Rattle.std.proofs.lemmas.Bool.Decides.{nat_tests}
use Rattle.law_cell_lists.specs.world_model.Words.{NodeId, PortNo, Place, Down, Up, Out, Channel, End as PortEnd, default_channel, same_channel, Topology, Link, same_link_end, peer_on, peer_among, IsTopology, IsLink, IsPort, IsNode}
use Rattle.law_cell_lists.specs.world_model.crossbar_model.declared.branch.Branch.{Branch}
use Rattle.law_cell_lists.specs.world_model.network_model.declared.link.LinkEnd.{LinkEnd}
use Rattle.law_cell_lists.specs.world_model.Topology.{peer_of}
use Rattle.law_controller_bindings.proofs.law_port_facts.Keyed.{by_eq}
use Rattle.law_cell_lists.proofs.Net.{End, Leads, Nowhere}
use Rattle.law_causes.proofs.Spots.{Spot, same_spot, down, up, out}

-- *The other end of a link* leads back
ends_are : (a b : LinkEnd) → same_link_end a b ≡ true → a ≡ b
ends_are a b e = by_eq a.node.0 b.node.0 (λ n t. by_eq a.port.0 b.port.0 (λ p s. ap₂ (λ (x y : ℕ). record { node = record { 0 = x }; port = record { 0 = y } }) n p) (λ d s. absurd (true≢false (sym e ∙ both t s)))) (λ d t. absurd (true≢false (sym e ∙ one t)))
  where
    both : (a.node.0 == b.node.0) ≡ true → (a.port.0 == b.port.0) ≡ false → same_link_end a b ≡ false
    both t s = grind (arith, nat_tests)

    one : (a.node.0 == b.node.0) ≡ false → same_link_end a b ≡ false
    one t = grind (arith, nat_tests)

pub record IsPeer (t : Topology) (here there : LinkEnd) : Type 0 where
  pub node : IsNode t there.node
  pub back : peer_of t there.node there.port ≡ Some here
  pub port : IsPort there.port
  pub own : IsPort here.port
  pub apart : there.node.0 ≢ here.node.0

module _ (t : Topology) (is : IsTopology t) where
  on_link_peer : (here there : LinkEnd) (link : Link) → IsLink t link → peer_on here link ≡ Some there → IsPeer t here there
  on_link_peer here there link l e = by_first (same_link_end link.first here) refl e
    where
      not_same : (a b : ℕ) → (a == b) ≡ false → a ≢ b
      not_same a b t e = grind (arith, nat_tests)

      by_second : (v : Bool) → same_link_end link.second here ≡ v → (if v then Some link.first else None) ≡ Some there → IsPeer t here there
      by_second true s e = (let at : link.first ≡ there = cc in
          record { node = subst (λ (x : LinkEnd). IsNode t x.node) at l.first.0; back = subst (λ (x : LinkEnd). peer_of t x.node x.port ≡ Some here) at (l.there ∙ ap Some (ends_are link.second here s)); port = subst (λ (x : LinkEnd). IsPort x.port) at l.first.1; own = subst (λ (x : LinkEnd). IsPort x.port) (ends_are link.second here s) l.second.1; apart = λ f. not_same link.first.node.0 link.second.node.0 l.apart (ap (λ (x : LinkEnd). x.node.0) at ∙ f ∙ sym (ap (λ (x : LinkEnd). x.node.0) (ends_are link.second here s))) })
      by_second false s e = absurd (cc e)

      by_first : (v : Bool) → same_link_end link.first here ≡ v → (if v then Some link.second else (if same_link_end link.second here then Some link.first else None)) ≡ Some there → IsPeer t here there
      by_first true s e = (let at : link.second ≡ there = cc in
          record { node = subst (λ (x : LinkEnd). IsNode t x.node) at l.second.0; back = subst (λ (x : LinkEnd). peer_of t x.node x.port ≡ Some here) at (l.back ∙ ap Some (ends_are link.first here s)); port = subst (λ (x : LinkEnd). IsPort x.port) at l.second.1; own = subst (λ (x : LinkEnd). IsPort x.port) (ends_are link.first here s) l.first.1; apart = λ f. not_same link.first.node.0 link.second.node.0 l.apart (sym (ap (λ (x : LinkEnd). x.node.0) at ∙ f ∙ sym (ap (λ (x : LinkEnd). x.node.0) (ends_are link.first here s)))) })
      by_first false s e = by_second (same_link_end link.second here) refl e

  among_peer : (here there : LinkEnd) (links : List Link) → All (IsLink t) links → peer_among here links ≡ Some there → IsPeer t here there
  among_peer here there [] all e = absurd (cc e)
  among_peer here there (link ∷ links) all e = by_one (peer_on here link) refl e (among_peer here there links (λ k d low. all (suc k) d (omega (arith, low))))
    where
      by_one : (o : Option LinkEnd) → peer_on here link ≡ o → option_or o (peer_among here links) ≡ Some there → (peer_among here links ≡ Some there → IsPeer t here there) → IsPeer t here there
      by_one None is e later = later e
      by_one (Some x) is e later = (let at : x ≡ there = cc in on_link_peer here there link (all 0 link (omega arith)) (is ∙ ap Some at))

  pub peer_back : (here there : LinkEnd) → peer_of t here.node here.port ≡ Some there → IsPeer t here there
  peer_back here there e = among_peer here there t.links is.links e

-- *Where the cells of a list come in*: at a switch, on a port and a channel
pub record Inlet : Type 0 where
  pub node : NodeId
  pub input : PortEnd

abbrev pub far_inlet : Channel → LinkEnd → Inlet
far_inlet channel far = record { node = far.node; input = record { port = far.port; channel = channel } }

abbrev pub inlet_at : Topology → Place → Channel → Option Inlet
inlet_at t (Down m) channel = if same_channel channel default_channel then None else Some (record { node = m; input = record { port = record { 0 = 0 }; channel = channel } })
inlet_at t (Up m) channel = None
inlet_at t (Out m p) channel = option_map (far_inlet channel) (peer_of t m p)

abbrev pub inlet_of : Topology → Spot → Option Inlet
inlet_of t s = inlet_at t s.place s.channel

-- which list comes in there
abbrev pub spot_by : Channel → Option LinkEnd → Option Spot
spot_by channel None = None
spot_by channel (Some far) = Some (out far.node far.port channel)

abbrev pub spot_of : Topology → Inlet → Option Spot
spot_of t i =
    if i.input.port.0 == 0
    then (if same_channel i.input.channel default_channel then None else Some (down i.node i.input.channel))
    else spot_by i.input.channel (peer_of t i.node i.input.port)

-- where a branch leads
abbrev pub out_spot : NodeId → PortEnd → Spot
out_spot n e = if e.port.0 == 0 then up n e.channel else out n e.port e.channel

abbrev pub led : NodeId → Option Branch → End same_spot
led n None = Nowhere
led n (Some b) = Leads (out_spot n b.output) b.unfinished

-- *What is shown*, by what is found on the inputs of the switches
abbrev pub Look : Type 0
Look = NodeId → PortEnd → Option Branch

abbrev pub led_by : Look → Option Inlet → End same_spot
led_by look None = Nowhere
led_by look (Some i) = led i.node (look i.node i.input)

-- the same port and channel, the same list
module _ (t : Topology) (is : IsTopology t) where
  pub spot_is : (s : Spot) (i : Inlet) → inlet_of t s ≡ Some i → spot_of t i ≡ Some s
  spot_is s i e = by_place s.place s.channel e
    where
      by_gsmp : (m : NodeId) (channel : Channel) (v : Bool) → same_channel channel default_channel ≡ v → (if v then None else Some (record { node = m; input = record { port = record { 0 = 0 }; channel = channel } })) ≡ Some i → spot_of t i ≡ Some (down m channel)
      by_gsmp m channel true g e = absurd (cc e)
      by_gsmp m channel false g e =
          let at : record { node = m; input = record { port = record { 0 = 0 }; channel = channel } } ≡ i = cc in
          ap (spot_of t) (sym at) ∙ ap (λ (v : Bool). if v then None else Some (down m channel)) g

      by_peer : (m : NodeId) (p : PortNo) (channel : Channel) (o : Option LinkEnd) → peer_of t m p ≡ o → option_map (far_inlet channel) o ≡ Some i → spot_of t i ≡ Some (out m p channel)
      by_peer m p channel None is_peer e = absurd (cc e)
      by_peer m p channel (Some far) is_peer e =
          let at : far_inlet channel far ≡ i = cc in
          let back = peer_back t is (record { node = m; port = p }) far is_peer in
          ap (spot_of t) (sym at)
          ∙ ap (λ (v : Bool). if v then (if same_channel channel default_channel then None else Some (down far.node channel)) else spot_by channel (peer_of t far.node far.port)) (not_zero far.port.0 back.port.0)
          ∙ ap (spot_by channel) back.back
        where
          not_zero : (q : ℕ) → 1 ≤ q → (q == 0) ≡ false
          not_zero q some = grind (arith, nat_tests)

      by_place : (place : Place) (channel : Channel) → inlet_at t place channel ≡ Some i → spot_of t i ≡ Some (record { place = place; channel = channel })
      by_place (Down m) channel e = by_gsmp m channel (same_channel channel default_channel) refl e
      by_place (Up m) channel e = absurd (cc e)
      by_place (Out m p) channel e = by_peer m p channel (peer_of t m p) refl e

  pub inlet_is : (s : Spot) (i : Inlet) → spot_of t i ≡ Some s → inlet_of t s ≡ Some i
  inlet_is s i e = by_port (i.input.port.0 == 0) refl e
    where
      by_gsmp : (v : Bool) → same_channel i.input.channel default_channel ≡ v → i.input.port.0 ≡ 0 → (if v then None else Some (down i.node i.input.channel)) ≡ Some s → inlet_of t s ≡ Some i
      by_gsmp true g zero_port e = absurd (cc e)
      by_gsmp false g zero_port e =
          let at : down i.node i.input.channel ≡ s = cc in
          ap (inlet_of t) (sym at)
          ∙ ap (λ (v : Bool). if v then None else Some (record { node = i.node; input = record { port = record { 0 = 0 }; channel = i.input.channel } })) g
          ∙ ap (λ (n : ℕ). Some (record { node = i.node; input = record { port = record { 0 = n }; channel = i.input.channel } })) (sym zero_port)

      by_peer : (o : Option LinkEnd) → peer_of t i.node i.input.port ≡ o → spot_by i.input.channel o ≡ Some s → inlet_of t s ≡ Some i
      by_peer None is_peer e = absurd (cc e)
      by_peer (Some far) is_peer e =
          let at : out far.node far.port i.input.channel ≡ s = cc in
          let back = peer_back t is (record { node = i.node; port = i.input.port }) far is_peer in
          ap (inlet_of t) (sym at) ∙ ap (option_map (far_inlet i.input.channel)) back.back

      by_port : (v : Bool) → (i.input.port.0 == 0) ≡ v → (if v then (if same_channel i.input.channel default_channel then None else Some (down i.node i.input.channel)) else spot_by i.input.channel (peer_of t i.node i.input.port)) ≡ Some s → inlet_of t s ≡ Some i
      by_port true z e = by_gsmp (same_channel i.input.channel default_channel) refl (zero_is i.input.port.0 z) e
        where
          zero_is : (q : ℕ) → (q == 0) ≡ true → q ≡ 0
          zero_is q z = grind (arith, nat_tests)
      by_port false z e = by_peer (peer_of t i.node i.input.port) refl e
