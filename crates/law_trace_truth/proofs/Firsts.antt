-- where the cells of a mark were put first: it is kept by each event

use Rattle.std.proofs.Common.{◌≡◌, ◌≢◌, ◌⊎◌, inl, inr, ℕ, ◌<◌, ◌≤◌, ◌==◌, ◌&&◌, Bool, true, false, nat_lt, nat_le, List, [], ◌∷◌, ◌++◌, map, flat_map, Option, None, Some, refl, sym, ◌∙◌, ap, ap₂, subst, arith, is_some, eqb-true, if◌then◌else◌}
use Rattle.std.specs.Prelude.{Contains}
use Rattle.std.specs.Option.{option_and_then}
use Rattle.std.proofs.lemmas.Bool.{and_parts}
use Rattle.std.proofs.lemmas.Bool.Decides.{nat_tests}
use Rattle.std.proofs.lemmas.List.Elements.{Contains-append_cases}
use Rattle.world_model.specs.Words.{Channel, End, NodeId, PortNo, Place, Down, Up, Out, Mark, is_label_channel, Cell, payload_of, Policy, home_of, port_on, on_link, same_channel, default_channel, control_port, IsTopology, IsNode, IsPlace, IsEvent, is_linked, Past, queue_at, places, next, Topology, same_link_end, World, Site, site_at}
use Rattle.world_model.specs.crossbar_model.Crossbar.{output_of, input_of}
use Rattle.law_passing.specs.ordered_lists.Ordered.{Every}
use Rattle.law_passing.proofs.ordered_lists.Every.{every_join, every_right, every_map, every_map2}
use Rattle.law_packet_worlds.proofs.Headings.{port_is, link_is}
use Rattle.law_packet_worlds.proofs.Worlds.{port_above}
use Rattle.law_packet_worlds.specs.Channels.{HasChannels}
use Rattle.law_run_facts.proofs.law_port_facts.Keyed.{by_eq}
use Rattle.law_label_worlds.proofs.law_quiet_controllers.Beginning.{every_contained, contained}
use Rattle.trace_model.specs.declared.end.TraceLabel.{TraceLabel}
use Rattle.trace_model.specs.Trace.{Trace, first_put}
use Rattle.world_model.specs.network_model.declared.event.Event.{Event}
use Rattle.world_model.specs.network_model.declared.link.LinkEnd.{LinkEnd}
use Rattle.law_run_facts.specs.law_world_views.Between.{EachSite, HasShapes, HasMeanings, setups_of}
use Rattle.law_run_facts.specs.law_world_views.Marks.{Means, heading_at, early, control, local, plain, labelled}
use Rattle.law_passing.specs.telling_model.declared.standing.Standing.{Standing}
use Rattle.law_passing.specs.telling_model.Passing.{standing, left, cells_put, cells_put_at, cell_taken}
use Rattle.law_passing.specs.Law.{QueuesChangeByPassing}
use Rattle.tell_trace.specs.Passages.{Passage}
use Rattle.tell_trace.specs.Trace.{Told, port_end, taken_told, cells_told, bind_told, event_told}
use Rattle.law_trace_truth.specs.Law.{HasNames}
use Rattle.law_trace_truth.proofs.Knows.{IsPortEnd, label_said, after_told, on_end, all_on}
use Rattle.law_trace_truth.proofs.Placed.{placed_once}
use Rattle.law_trace_truth.proofs.Crossing.{PutsOn, still, crosses, Crosses, IsCrossed, ComesTo}
use Rattle.law_trace_truth.proofs.Taking.{queues_of}
use Rattle.law_trace_truth.proofs.Fitting.{IsOutPlace, all_places, every_flat, every_to, not_default, left_every}
use Rattle.law_trace_truth.proofs.Event.{IsStepOf}
use Rattle.law_trace_truth.proofs.Hop.{IsFirstFrom, heading_said, from_home}
use Rattle.law_trace_truth.proofs.Sending.{IsNew, IsOf, IsMade}
use Rattle.law_trace_truth.proofs.Grown.{Grows}
use Rattle.law_trace_truth.proofs.Placing.{Changes, same, placed_now, PutsAs, AllowedAt, HasPut, all_changes, still_put, after_join, takes_as, binds_as, puts_as, all_put, every_put}

abbrev pub IsLabelHome : Cell → Type 0
IsLabelHome cell = is_label_channel (on_link cell.header.channel) ≡ true

-- *Marks* that were put are made, and so are those of cells; each cell on a link was put; those that come from a controller
-- on a label were put nowhere else, and no other cell of their mark comes from elsewhere
pub record HasFirsts (topology : Topology) (w : World) (trace : Trace) : Type 0 where
  pub made : (mark : Mark) → (first_put trace mark ≡ None) ⊎ IsMade w.notes.frames mark
  pub links : (end : LinkEnd) → IsPortEnd topology end → Every (λ (c : Cell). (first_put trace c.mark ≢ None) × IsMade w.notes.frames c.mark) (queues_of w end)
  pub homes : (node : NodeId) → IsNode topology node → Every (λ (c : Cell). IsMade w.notes.frames c.mark) (queue_at w (Down node))
  pub from : (node : NodeId) → IsNode topology node → (c : Cell) → Contains (queue_at w (Down node)) c → IsLabelHome c → IsFirstFrom topology trace node c
  pub alike : (one other : NodeId) → IsNode topology one → IsNode topology other → (c d : Cell) → Contains (queue_at w (Down one)) c → Contains (queue_at w (Down other)) d → IsLabelHome c → c.mark ≡ d.mark
      → (one.0 ≡ other.0) × (c.header.channel ≡ d.header.channel)

-- a cell on a label is of a packet
counted_home : (topology : Topology) (past : Past) → past.topology ≡ topology → HasMeanings past → (node : NodeId) → IsNode topology node → (c : Cell) → Contains (queue_at past.now (Down node)) c → IsLabelHome c → 0 < c.mark.packet
counted_home topology past same_topology meanings node there c has home =
    by c.header.last (meanings (Down node) c (subst (λ (t : Topology). IsNode t node) (sym same_topology) there) has)
  where
    by : (last : Bool) → Means past (heading_at past.topology (Down node) c.header.channel) last c.mark → 0 < c.mark.packet
    by last (early default no_last some) = absurd (not_default (on_link c.header.channel) home default)
    by last (control default none source message made) = absurd (not_default (on_link c.header.channel) home default)
    by last (local default own none) = absurd (not_default (on_link c.header.channel) home default)
    by last (plain default is_last far to packet made come newest) = absurd (not_default (on_link c.header.channel) home default)
    by last (labelled other far to flow bound payload packet made carries come newest) = come.counted

module _ (topology : Topology) (is : IsTopology topology) (names : HasNames topology) (change : QueuesChangeByPassing)
    (policy : Policy) (past later : Past) (event : Event) (step : IsStepOf policy topology past later event) (grows : Grows topology past.now event)
    (shapes : EachSite past.now (HasShapes past.now)) (old_meanings : HasMeanings past) (channels : HasChannels later) (trace : Trace) (h : HasFirsts topology past.now trace) where
  abbrev w : World
  w = past.now

  abbrev behind : World
  behind = next topology past.now event

  stays_made : (mark : Mark) → IsMade w.notes.frames mark → IsMade behind.notes.frames mark
  stays_made mark is = by (payload_of w.notes.frames mark) refl is
    where
      by : (o : Option (List ℕ)) → payload_of w.notes.frames mark ≡ o → is_some o ≡ true → IsMade behind.notes.frames mark
      by None e some = absurd (cc some)
      by (Some payload) e some = ap is_some (ap (λ (v : World). payload_of v.notes.frames mark) (sym step.now) ∙ step.frames.kept mark payload e)

  -- *What may be put first*: a mark that was made, where its cells come from
  pub record IsNewPut (trace_then : Trace) (mark : Mark) : Type 0 where
    pub none : first_put trace mark ≡ None
    pub place : TraceLabel
    pub found : first_put trace_then mark ≡ Some place
    pub made : IsMade w.notes.frames mark
    pub home : (node : NodeId) (d : Cell) → IsNode topology node → Contains (queue_at w (Down node)) d → IsLabelHome d → d.mark ≡ mark → place ≡ heading_said topology node d

  -- *Cells of a controller's queue* behind the event
  in_left : (place : Place) (c : Cell) → Contains (left w event place) c → Contains (queue_at w place) c
  in_left place c has = contained (Contains (queue_at w place)) (left w event place) c
      (left_every topology is names change past later event step.of_topology step.now step.records step.on (Contains (queue_at w place)) place (every_contained (Contains (queue_at w place)) (queue_at w place) (λ x has. has))) has

  record IsSentNow (node : NodeId) (c : Cell) : Type 0 where
    pub here : node.0 ≡ grows.node.0
    pub new : IsNew grows.kept w.notes.frames c
    pub made : IsMade behind.notes.frames c.mark

  sent_now : (node : NodeId) (c : Cell) → Contains (cells_put_at topology w event (Down node)) c → IsSentNow node c
  sent_now node c has = by_eq grows.node.0 node.0
      (λ here t. (
      let own : Contains (cells_put_at topology w event (Down grows.node)) c = subst (λ (n : NodeId). Contains (cells_put_at topology w event (Down n)) c) (numbers_are node grows.node (sym here)) has in
      record {
        here = sym here;
        new = contained (IsNew grows.kept w.notes.frames) (cells_put_at topology w event (Down grows.node)) c grows.each own;
        made = contained (λ (x : Cell). IsMade behind.notes.frames x.mark) (cells_put_at topology w event (Down grows.node)) c grows.made own;
      }))
      (λ away t. absurd (nothing c (subst (λ (q : List Cell). Contains q c) (grows.elsewhere node away) has)))
    where
      numbers_are : (m n : NodeId) → m.0 ≡ n.0 → m ≡ n
      numbers_are m n e = λ i. record { 0 = e i }

      nothing : (c : Cell) → Contains [] c → ⊥
      nothing c has = absurd (omega (arith, has.1))

  came_from : (node : NodeId) (c : Cell) → Contains (queue_at behind (Down node)) c → Contains (queue_at w (Down node)) c ⊎ IsSentNow node c
  came_from node c has = elim (Contains-append_cases (left w event (Down node)) (cells_put_at topology w event (Down node)) c (subst (λ (q : List Cell). Contains q c) (change topology w event (Down node)) has)) [
    | inl was ↦ inl (in_left (Down node) c was)
    | inr now ↦ inr (sent_now node c now)
  ]

  unmade : (mark : Mark) → IsMade w.notes.frames mark → payload_of w.notes.frames mark ≡ None → ⊥
  unmade mark made none = cc (sym made ∙ ap is_some none)

  not_control : (c : Cell) → IsLabelHome c → c.header.channel.vci ≡ 15 → ⊥
  not_control c home vci =
      let low = (and_parts (nat_le 32 c.header.channel.vci) (nat_lt c.header.channel.vci 1024) (and_parts (nat_lt (on_link c.header.channel).vpi 16) (nat_le 32 c.header.channel.vci && nat_lt c.header.channel.vci 1024) home).1).0 in
      differs c.header.channel.vci low vci
    where
      differs : (n : ℕ) → nat_le 32 n ≡ true → n ≡ 15 → ⊥
      differs n low e = (let more : 32 ≤ n = grind (arith, nat_tests, low) in absurd (omega (arith, more, e)))

  fresh : (node : NodeId) (c : Cell) → IsSentNow node c → IsLabelHome c → IsOf grows.kept w.notes.frames c
  fresh node c s home = by s.new
    where
      by : IsNew grows.kept w.notes.frames c → IsOf grows.kept w.notes.frames c
      by (inl said) = absurd (not_control c home said.0)
      by (inr one) = one

  old_made : (node : NodeId) → IsNode topology node → (c : Cell) → Contains (queue_at w (Down node)) c → IsMade w.notes.frames c.mark
  old_made node there c has = contained (λ (x : Cell). IsMade w.notes.frames x.mark) (queue_at w (Down node)) c (h.homes node there) has

  -- *It is so behind the event*
  module _ (trace_then : Trace) (changes : (mark : Mark) → (first_put trace_then mark ≡ first_put trace mark) ⊎ IsNewPut trace_then mark)
      (more : (mark : Mark) → first_put trace mark ≢ None → first_put trace_then mark ≢ None)
      (puts : (end : LinkEnd) → IsPortEnd topology end → Every (λ (c : Cell). (first_put trace_then c.mark ≢ None) × IsMade w.notes.frames c.mark) (cells_put_at topology w event (Out end.node end.port))) where
    made_then : (mark : Mark) → (first_put trace_then mark ≡ None) ⊎ IsMade behind.notes.frames mark
    made_then mark = elim (h.made mark) [
      | inr is ↦ inr (stays_made mark is)
      | inl none ↦ elim (changes mark) [ inl e ↦ inl (e ∙ none) | inr new ↦ inr (stays_made mark new.made) ]
    ]

    links_then : (end : LinkEnd) → IsPortEnd topology end → Every (λ (c : Cell). (first_put trace_then c.mark ≢ None) × IsMade behind.notes.frames c.mark) (queues_of behind end)
    links_then end there =
        subst (Every (λ (c : Cell). (first_put trace_then c.mark ≢ None) × IsMade behind.notes.frames c.mark)) (sym (change topology w event (Out end.node end.port)))
        (every_join (λ (c : Cell). (first_put trace_then c.mark ≢ None) × IsMade behind.notes.frames c.mark) (left w event (Out end.node end.port)) (cells_put_at topology w event (Out end.node end.port))
        (left_every topology is names change past later event step.of_topology step.now step.records step.on (λ (c : Cell). (first_put trace_then c.mark ≢ None) × IsMade behind.notes.frames c.mark) (Out end.node end.port)
        (every_map (λ (c : Cell). (first_put trace c.mark ≢ None) × IsMade w.notes.frames c.mark) (λ (c : Cell). (first_put trace_then c.mark ≢ None) × IsMade behind.notes.frames c.mark) (queues_of w end)
        (λ c was. (more c.mark was.0, stays_made c.mark was.1)) (h.links end there)))
        (every_map (λ (c : Cell). (first_put trace_then c.mark ≢ None) × IsMade w.notes.frames c.mark) (λ (c : Cell). (first_put trace_then c.mark ≢ None) × IsMade behind.notes.frames c.mark) (cells_put_at topology w event (Out end.node end.port))
        (λ c new. (new.0, stays_made c.mark new.1)) (puts end there)))

    homes_then : (node : NodeId) → IsNode topology node → Every (λ (c : Cell). IsMade behind.notes.frames c.mark) (queue_at behind (Down node))
    homes_then node there = every_contained (λ (c : Cell). IsMade behind.notes.frames c.mark) (queue_at behind (Down node)) (λ c has. elim (came_from node c has) [
      | inl was ↦ stays_made c.mark (old_made node there c was)
      | inr new ↦ new.made
    ])

    from_then : (node : NodeId) → IsNode topology node → (c : Cell) → Contains (queue_at behind (Down node)) c → IsLabelHome c → IsFirstFrom topology trace_then node c
    from_then node there c has home = elim (came_from node c has) [
      | inl was ↦ old was (h.from node there c was home) (changes c.mark)
      | inr new ↦ newly (fresh node c new home) (h.made c.mark) (changes c.mark)
    ]
      where
        old : Contains (queue_at w (Down node)) c → IsFirstFrom topology trace node c → (first_put trace_then c.mark ≡ first_put trace c.mark) ⊎ IsNewPut trace_then c.mark → IsFirstFrom topology trace_then node c
        old was (inl none) (inl e) = inl (e ∙ none)
        old was (inr own) (inl e) = inr (e ∙ own)
        old was (inl none) (inr new) = inr (new.found ∙ ap Some (new.home node c there was home refl))
        old was (inr own) (inr new) = absurd (cc (sym own ∙ new.none))

        newly : IsOf grows.kept w.notes.frames c → (first_put trace c.mark ≡ None) ⊎ IsMade w.notes.frames c.mark → (first_put trace_then c.mark ≡ first_put trace c.mark) ⊎ IsNewPut trace_then c.mark → IsFirstFrom topology trace_then node c
        newly one (inr made) any = absurd (unmade c.mark made one.new)
        newly one (inl none) (inl e) = inl (e ∙ none)
        newly one (inl none) (inr new) = absurd (unmade c.mark new.made one.new)

    alike_then : (one other : NodeId) → IsNode topology one → IsNode topology other → (c d : Cell) → Contains (queue_at behind (Down one)) c → Contains (queue_at behind (Down other)) d → IsLabelHome c → c.mark ≡ d.mark
        → (one.0 ≡ other.0) × (c.header.channel ≡ d.header.channel)
    alike_then one other here there c d has_c has_d home marks = by (came_from one c has_c) (came_from other d has_d)
      where
        counted : 0 < c.mark.packet
        counted = counted_home topology later step.of_topology step.meanings one here c (subst (λ (v : World). Contains (queue_at v (Down one)) c) (sym step.now) has_c) home

        not_zero : d.mark.packet ≡ 0 → ⊥
        not_zero e = (let z : c.mark.packet ≡ 0 = ap (λ (m : Mark). m.packet) marks ∙ e in absurd (omega (arith, z, counted)))

        by : Contains (queue_at w (Down one)) c ⊎ IsSentNow one c → Contains (queue_at w (Down other)) d ⊎ IsSentNow other d → (one.0 ≡ other.0) × (c.header.channel ≡ d.header.channel)
        by (inl c_was) (inl d_was) = h.alike one other here there c d c_was d_was home marks
        by (inr c_new) (inl d_was) = absurd (unmade c.mark (subst (IsMade w.notes.frames) (sym marks) (old_made other there d d_was)) (fresh one c c_new home).new)
        by (inl c_was) (inr d_new) = of_new d_new.new
          where
            of_new : IsNew grows.kept w.notes.frames d → (one.0 ≡ other.0) × (c.header.channel ≡ d.header.channel)
            of_new (inl said) = absurd (not_zero said.1)
            of_new (inr is_one) = absurd (unmade d.mark (subst (IsMade w.notes.frames) marks (old_made one here c c_was)) is_one.new)
        by (inr c_new) (inr d_new) = of_new d_new.new
          where
            of_new : IsNew grows.kept w.notes.frames d → (one.0 ≡ other.0) × (c.header.channel ≡ d.header.channel)
            of_new (inl said) = absurd (not_zero said.1)
            of_new (inr is_one) = (c_new.here ∙ sym d_new.here, channel_of (sym (fresh one c c_new home).frame ∙ is_one.frame))
              where
                channel_of : ◌≡◌ {A = Option (Channel × Mark)} (Some (c.header.channel, c.mark)) (Some (d.header.channel, d.mark)) → c.header.channel ≡ d.header.channel
                channel_of e = ap (λ (o : Option (Channel × Mark)). first_or o) e
                  where
                    first_or : Option (Channel × Mark) → Channel
                    first_or None = default_channel
                    first_or (Some p) = p.0

    pub firsts_then : HasFirsts topology behind trace_then
    firsts_then = record { made = made_then; links = links_then; homes = homes_then; from = from_then; alike = alike_then }

  -- *What is put now* are cells of one mark at one place
  pub record IsCrossing (allowed : TraceLabel → Mark → Type 0) : Type 0 where
    pub new : (trace_then : Trace) (mark : Mark) → first_put trace mark ≡ None → (place : TraceLabel) → first_put trace_then mark ≡ Some place → allowed place mark → IsNewPut trace_then mark
    pub allows : (place : Place) → IsOutPlace topology place → Every (AllowedAt topology allowed place) (cells_put_at topology w event place)
    pub makes : (end : LinkEnd) → IsPortEnd topology end → Every (λ (c : Cell). IsMade w.notes.frames c.mark) (cells_put_at topology w event (Out end.node end.port))

  all_fine : (P : Cell → Type 0) (cells : List Cell) → ((c : Cell) → P c) → Every P cells
  all_fine P [] f = tt
  all_fine P (c ∷ cells) f = (f c, all_fine P cells f)

  above : (node : NodeId) (port : PortNo) → IsPortEnd topology (port_end node port) → 1 ≤ port.0
  above node port there = (port_above topology is node port there.1).0

  -- nothing is put
  nothing_put : ((end : LinkEnd) → 1 ≤ end.port.0 → cells_put_at topology w event (Out end.node end.port) ≡ []) → IsCrossing (λ place mark. ⊥)
  nothing_put nothing = record {
    new = λ trace_then mark none place found never. absurd never;
    allows = allows;
    makes = λ end there. subst (Every (λ (c : Cell). IsMade w.notes.frames c.mark)) (sym (nothing end (above end.node end.port there))) tt;
  }
    where
      allows : (place : Place) → IsOutPlace topology place → Every (AllowedAt topology (λ place mark. ⊥) place) (cells_put_at topology w event place)
      allows (Down node) there = all_fine (AllowedAt topology (λ place mark. ⊥) (Down node)) (cells_put_at topology w event (Down node)) (λ c. tt)
      allows (Up node) there = all_fine (AllowedAt topology (λ place mark. ⊥) (Up node)) (cells_put_at topology w event (Up node)) (λ c. tt)
      allows (Out node port) there = subst (Every (AllowedAt topology (λ place mark. ⊥) (Out node port))) (sym (nothing (port_end node port) (above node port there))) tt

  -- cells are led across
  low_channels : (node : NodeId) (port : PortNo) → IsPortEnd topology (port_end node port) → Every (λ (c : Cell). c.header.channel.vpi < 16) (cells_put_at topology w event (Out node port))
  low_channels node port there =
      every_right (λ (c : Cell). c.header.channel.vpi < 16) (left w event (Out node port)) (cells_put_at topology w event (Out node port))
      (subst (Every (λ (c : Cell). c.header.channel.vpi < 16)) (ap (λ (v : World). queue_at v (Out node port)) step.now ∙ change topology w event (Out node port))
      (every_contained (λ (c : Cell). c.header.channel.vpi < 16) (queue_at later.now (Out node port)) (λ c has. by c has (same_channel c.header.channel default_channel) refl)))
    where
      on_default : (n : ℕ) → (n == 0) ≡ true → n < 16
      on_default n e = (let z : n ≡ 0 = eqb-true n 0 e in omega (arith, z))

      by : (c : Cell) → Contains (queue_at later.now (Out node port)) c → (b : Bool) → same_channel c.header.channel default_channel ≡ b → c.header.channel.vpi < 16
      by c has true e = on_default c.header.channel.vpi (and_parts (c.header.channel.vpi == 0) (c.header.channel.vci == 15) e).0
      by c has false e =
          let label = (channels (Out node port) c (subst (λ (t : Topology). IsNode t node × (is_linked t node port ≡ true)) (sym step.of_topology) there) has e).0 in
          let vpi = (and_parts (nat_lt c.header.channel.vpi 16) (nat_le 32 c.header.channel.vci && nat_lt c.header.channel.vci 1024) label).0 in
          grind (arith, nat_tests, vpi)

  -- out of a controller, to where its channel leads
  led_home : (node : NodeId) (cell : Cell) (end : LinkEnd) (c : Cell) → IsCrossed w node control_port cell end c → c.header.channel.vpi < 16 → heading_said topology node cell ≡ label_said topology end c.header.channel
  led_home node cell end c crossed low = ap₂ (label_said topology) same_end_there link_channel
    where
      shaped : (o : Option Site) → site_at w node ≡ o → option_and_then (λ (s : Site). output_of s.switch.crossbar.branches (input_of control_port cell)) o ≡ Some crossed.output → input_of control_port cell ≡ home_of crossed.output
      shaped None found e = absurd (cc e)
      shaped (Some site) found e =
          from_home (setups_of site.controller) (step.nodes node site found).ports.links (input_of control_port cell) crossed.output
          ((shapes node site found).branches (input_of control_port cell) crossed.output e) refl

      channel : cell.header.channel ≡ (home_of crossed.output).channel
      channel = ap (λ (e : End). e.channel) (shaped (site_at w node) refl crossed.is_output)

      low_output : crossed.output.channel.vpi < 16
      low_output = subst (λ (ch : Channel). ch.vpi < 16) crossed.channel low

      on_port : port_on cell.header.channel ≡ crossed.output.port
      on_port = ap port_on channel ∙ port_is crossed.output.port crossed.output.channel low_output

      link_channel : on_link cell.header.channel ≡ c.header.channel
      link_channel = ap on_link channel ∙ link_is crossed.output.port crossed.output.channel low_output ∙ sym crossed.channel

      same_end_there : port_end node (port_on cell.header.channel) ≡ end
      same_end_there =
          let p : (port_on cell.header.channel).0 ≡ end.port.0 = ap (λ (q : PortNo). q.0) on_port ∙ crossed.to_port in
          λ i. record { node = record { 0 = sym crossed.here i }; port = record { 0 = p i } }

  abbrev Led : Crosses topology w event → TraceLabel → Mark → Type 0
  Led c place mark = (mark ≡ c.cell.mark) × ((from : NodeId) → c.source ≡ Down from → place ≡ heading_said topology from c.cell)

  crossing_put : (c : Crosses topology w event) → IsCrossing (Led c)
  crossing_put c = record {
    new = new;
    allows = allows;
    makes = λ end there. makes end (cells_put_at topology w event (Out end.node end.port)) (c.puts end (above end.node end.port there));
  }
    where
      meant : IsPlace topology c.source
      meant = subst (IsEvent topology w) c.carries step.meant

      head_of : (source : Place) → queue_at w source ≡ c.cell ∷ c.cells → Contains (queue_at w source) c.cell
      head_of source head = subst (λ (q : List Cell). Contains q c.cell) (sym head) (0, omega arith, refl)

      source_made : (source : Place) → IsPlace topology source → queue_at w source ≡ c.cell ∷ c.cells → ComesTo topology source c.node c.port → IsMade w.notes.frames c.cell.mark
      source_made (Down node) there head comes = contained (λ (x : Cell). IsMade w.notes.frames x.mark) (queue_at w (Down node)) c.cell (h.homes node there) (head_of (Down node) head)
      source_made (Up node) there head comes = absurd comes
      source_made (Out node port) there head comes = (contained (λ (x : Cell). (first_put trace x.mark ≢ None) × IsMade w.notes.frames x.mark) (queue_at w (Out node port)) c.cell (h.links (port_end node port) there) (head_of (Out node port) head)).1

      cell_made : IsMade w.notes.frames c.cell.mark
      cell_made = source_made c.source meant c.head c.comes

      makes : (end : LinkEnd) (cells : List Cell) → Every (IsCrossed w c.node c.port c.cell end) cells → Every (λ (x : Cell). IsMade w.notes.frames x.mark) cells
      makes end [] all = tt
      makes end (x ∷ cells) all = (subst (IsMade w.notes.frames) (sym all.0.mark) cell_made, makes end cells all.1)

      -- of another cell of the mark that comes from a controller on a label
      homed : (source : Place) → IsPlace topology source → queue_at w source ≡ c.cell ∷ c.cells → ComesTo topology source c.node c.port → c.source ≡ source
          → (mark : Mark) → first_put trace mark ≡ None → (place : TraceLabel) → Led c place mark → (node : NodeId) (d : Cell) → IsNode topology node → Contains (queue_at w (Down node)) d → IsLabelHome d → d.mark ≡ mark
          → place ≡ heading_said topology node d
      homed (Down from) there head comes own mark none place led node d here has home e =
          let like = h.alike node from here there d c.cell has (head_of (Down from) head) home (e ∙ led.0) in
          let n : from ≡ node = λ i. record { 0 = sym like.0 i } in
          led.1 from own ∙ ap₂ (λ (m : NodeId) (ch : Channel). label_said topology (port_end m (port_on ch)) (on_link ch)) n (sym like.1)
      homed (Up from) there head comes own mark none place led node d here has home e = absurd comes
      homed (Out from port) there head comes own mark none place led node d here has home e =
          absurd ((contained (λ (x : Cell). (first_put trace x.mark ≢ None) × IsMade w.notes.frames x.mark) (queue_at w (Out from port)) c.cell (h.links (port_end from port) there) (head_of (Out from port) head)).0
          (ap (first_put trace) (sym led.0) ∙ none))

      new : (trace_then : Trace) (mark : Mark) → first_put trace mark ≡ None → (place : TraceLabel) → first_put trace_then mark ≡ Some place → Led c place mark → IsNewPut trace_then mark
      new trace_then mark none place found led = record {
        none = none;
        place = place;
        found = found;
        made = subst (IsMade w.notes.frames) (sym led.0) cell_made;
        home = homed c.source meant c.head c.comes refl mark none place led;
      }

      led_by : (source : Place) → c.source ≡ source → ComesTo topology source c.node c.port → (end : LinkEnd) (x : Cell) → IsCrossed w c.node c.port c.cell end x → x.header.channel.vpi < 16
          → (from : NodeId) → source ≡ Down from → label_said topology end x.header.channel ≡ heading_said topology from c.cell
      led_by (Down other) own comes end x crossed low from e =
          let n : other ≡ from = node_of e in
          let crossed_there : IsCrossed w other control_port c.cell end x =
          subst (λ (p : PortNo). IsCrossed w other p c.cell end x) comes.1 (subst (λ (m : NodeId). IsCrossed w m c.port c.cell end x) (sym comes.0) crossed) in
          sym (led_home other c.cell end x crossed_there low) ∙ ap (λ (m : NodeId). heading_said topology m c.cell) n
        where
          node_of : Down other ≡ Down from → other ≡ from
          node_of e = ap node_or e
            where
              node_or : Place → NodeId
              node_or (Down n) = n
              node_or (Up n) = n
              node_or (Out n p) = n
      led_by (Up other) own comes end x crossed low from e = absurd comes
      led_by (Out other port) own comes end x crossed low from e = absurd (cc e)

      at_port : (node : NodeId) (port : PortNo) (cells : List Cell) → Every (IsCrossed w c.node c.port c.cell (port_end node port)) cells → Every (λ (x : Cell). x.header.channel.vpi < 16) cells → Every (AllowedAt topology (Led c) (Out node port)) cells
      at_port node port [] all low = tt
      at_port node port (x ∷ cells) all low = ((all.0.mark, led_by c.source refl c.comes (port_end node port) x all.0 low.0), at_port node port cells all.1 low.1)

      allows : (place : Place) → IsOutPlace topology place → Every (AllowedAt topology (Led c) place) (cells_put_at topology w event place)
      allows (Down node) there = all_fine (AllowedAt topology (Led c) (Down node)) (cells_put_at topology w event (Down node)) (λ x. tt)
      allows (Up node) there = all_fine (AllowedAt topology (Led c) (Up node)) (cells_put_at topology w event (Up node)) (λ x. tt)
      allows (Out node port) there = at_port node port (cells_put_at topology w event (Out node port)) (c.puts (port_end node port) (above node port there)) (low_channels node port there)

  -- *The lines of the event*
  on_ports : (trace_then : Trace) (end : LinkEnd) (cells : List Standing) → Every (λ (s : Standing). HasPut topology trace_then s.place s.cell) cells → Every (λ (c : Cell). first_put trace_then c.mark ≢ None) (all_on end cells)
  on_ports trace_then end [] all = tt
  on_ports trace_then end (s ∷ cells) all = every_join (λ (c : Cell). first_put trace_then c.mark ≢ None) (on_end end s.place s.cell) (all_on end cells) (one s.place s.cell all.0) (on_ports trace_then end cells all.1)
    where
      one : (place : Place) (cell : Cell) → HasPut topology trace_then place cell → Every (λ (c : Cell). first_put trace_then c.mark ≢ None) (on_end end place cell)
      one (Down node) cell is_put = tt
      one (Up node) cell is_put = tt
      one (Out node port) cell is_put = by (same_link_end (port_end node port) end)
        where
          by : (b : Bool) → Every (λ (c : Cell). first_put trace_then c.mark ≢ None) (if b then cell ∷ [] else [])
          by true = (is_put, tt)
          by false = tt

  firsts_by : (allowed : TraceLabel → Mark → Type 0) → IsCrossing allowed → (marks : List Mark) → HasFirsts topology behind (after_told topology trace (event_told marks topology w event).passages)
  firsts_by allowed x marks = firsts_then trace_then changes more puts
    where
      taken_lines : List Passage
      taken_lines = taken_told event (cell_taken w event)

      told : Told
      told = cells_told behind.notes.frames marks (cells_put topology w event)

      trace_then : Trace
      trace_then = after_told topology trace (event_told marks topology w event).passages

      allowed_cells : Every (λ (s : Standing). AllowedAt topology allowed s.place s.cell) (cells_put topology w event)
      allowed_cells = every_flat (λ (s : Standing). AllowedAt topology allowed s.place s.cell) (λ place. map (standing place) (cells_put_at topology w event place)) (places w)
          (each (places w) (all_places policy topology is past step.same_topology step.net step.nodes))
        where
          each : (ps : List Place) → Every (IsOutPlace topology) ps
              → Every (λ (place : Place). Every (λ (s : Standing). AllowedAt topology allowed s.place s.cell) (map (standing place) (cells_put_at topology w event place))) ps
          each [] all = tt
          each (place ∷ ps) all = (
            every_to (AllowedAt topology allowed place) (λ (s : Standing). AllowedAt topology allowed s.place s.cell) (standing place) (cells_put_at topology w event place) (λ cell is_fine. is_fine) (x.allows place all.0),
            each ps all.1,
          )

      lines : Every (PutsAs topology allowed) (event_told marks topology w event).passages
      lines = every_join (PutsAs topology allowed) (taken_told event (cell_taken w event)) _ (takes_as topology allowed event (cell_taken w event))
          (every_join (PutsAs topology allowed) (cells_told behind.notes.frames marks (cells_put topology w event)).passages (flat_map bind_told behind.notes.records)
          (puts_as topology allowed behind.notes.frames marks (cells_put topology w event) allowed_cells) (binds_as topology allowed behind.notes.records))

      changes : (mark : Mark) → (first_put trace_then mark ≡ first_put trace mark) ⊎ IsNewPut trace_then mark
      changes mark = by (all_changes topology allowed trace (event_told marks topology w event).passages lines mark)
        where
          by : Changes allowed trace trace_then mark → (first_put trace_then mark ≡ first_put trace mark) ⊎ IsNewPut trace_then mark
          by (same e) = inl e
          by (placed_now none place found is_allowed) = inr (x.new trace_then mark none place found is_allowed)

      more : (mark : Mark) → first_put trace mark ≢ None → first_put trace_then mark ≢ None
      more = still_put topology trace (event_told marks topology w event).passages

      all_there : Every (λ (s : Standing). HasPut topology trace_then s.place s.cell) (cells_put topology w event)
      all_there =
          let first : Trace = after_told topology trace (taken_told event (cell_taken w event)) in
          let second : Trace = after_told topology first (cells_told behind.notes.frames marks (cells_put topology w event)).passages in
          let joined : trace_then ≡ after_told topology second (flat_map bind_told behind.notes.records) =
          after_join topology trace (taken_told event (cell_taken w event)) ((cells_told behind.notes.frames marks (cells_put topology w event)).passages ++ flat_map bind_told behind.notes.records)
          ∙ after_join topology first (cells_told behind.notes.frames marks (cells_put topology w event)).passages (flat_map bind_told behind.notes.records) in
          subst (λ (t : Trace). Every (λ (s : Standing). HasPut topology t s.place s.cell) (cells_put topology w event)) (sym joined)
          (every_put topology second (flat_map bind_told behind.notes.records) (cells_put topology w event) (all_put topology behind.notes.frames marks first (cells_put topology w event)))

      puts : (end : LinkEnd) → IsPortEnd topology end → Every (λ (c : Cell). (first_put trace_then c.mark ≢ None) × IsMade w.notes.frames c.mark) (cells_put_at topology w event (Out end.node end.port))
      puts end there = every_map2 (λ (c : Cell). first_put trace_then c.mark ≢ None) (λ (c : Cell). IsMade w.notes.frames c.mark) (λ (c : Cell). (first_put trace_then c.mark ≢ None) × IsMade w.notes.frames c.mark)
          (cells_put_at topology w event (Out end.node end.port)) (λ c a b. (a, b))
          (subst (Every (λ (c : Cell). first_put trace_then c.mark ≢ None)) (placed_once end (cells_put_at topology w event) w (above end.node end.port there) step.net.shaped (step.net.within (Out end.node end.port) there))
          (on_ports trace_then end (cells_put topology w event) all_there))
          (x.makes end there)

  pub firsts_kept : (marks : List Mark) → HasFirsts topology behind (after_told topology trace (event_told marks topology w event).passages)
  firsts_kept marks = by step.on
    where
      by : PutsOn topology w event → HasFirsts topology behind (after_told topology trace (event_told marks topology w event).passages)
      by (still nothing) = firsts_by (λ place mark. ⊥) (nothing_put nothing) marks
      by (crosses c) = firsts_by (Led c) (crossing_put c) marks
