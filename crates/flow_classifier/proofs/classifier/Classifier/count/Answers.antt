use Rattle.std.proofs.Common.{◌≡◌, ◌≤◌, [], length, ◌∙◌, sym, ap, arith, is_some, None}
use Rattle.port_model.specs.Counts.{counted_of, most_flows, one_more_packet, packet_total}
use Rattle.flow_classifier.specs.Counting.{Counting}
use Rattle.flow_classifier.specs.Rows.{standing}
use Rattle.flow_classifier.proofs.Derived.{eq_is}
use Rattle.flow_classifier.proofs.Orders.{found, not_counted, put_once, put_packets}
use Rattle.flow_classifier.proofs.Tallies.{counted_up, up_to_date}
use Rattle.flow_classifier.proofs.Turning.{new_is_put, ring_of, rows_put, set_is_put}
use Rattle.flow_classifier.proofs.classifier.Classifier.count.Goals as goal

pub count-requires : goal.count-requires
count-requires c =
    let inside = c.self.inside in
    let wide = ring_of _ eq_is inside.window inside.ticks c.args.flow c.in-Some.tally.now inside.rows.entries (sym c.in-Some.ensures.value) c.self.invariant.rows.rings in
    omega (arith, wide, c.self.invariant.some)

pub invariant_of-self : goal.invariant_of-self
invariant_of-self c =
    let inside = c.self.inside in
    let there = sym c.in-Some.ensures.value in
    let few : length inside.rows.entries ≤ most_flows = omega (arith, c.len-len.ensures.valid.1, c.self.invariant.rows.most) in
    let wide = ring_of _ eq_is inside.window inside.ticks c.args.flow c.in-Some.tally.now inside.rows.entries there c.self.invariant.rows.rings in
    let until : c.count.new.self.until ≡ inside.ticks = ap (λ t. t.until) c.count.ensures.tally in
    rw (set_is_put _ eq_is c.args.flow c.in-Some.tally.now c.count.new.self inside.rows.entries there few) (record {
      some = c.self.invariant.some;
      rows = rows_put _ eq_is inside.window inside.ticks c.args.flow c.count.new.self inside.rows c.self.invariant.rows (ap (λ t. t.packets.capacity) c.count.ensures.tally ∙ wide) (omega (arith, until));
    })

pub invariant_of-self-in-None : goal.invariant_of-self-in-None
invariant_of-self-in-None c =
    let inside = c.self.inside in
    let tally = c.count-packets.new.self in
    let until : tally.until ≡ inside.ticks = ap (λ t. t.until) c.count-packets.ensures.tally in
    let wide = ap (λ t. t.packets.capacity) c.count-packets.ensures.tally ∙ ap (λ t. t.packets.capacity) c.in_ok-tally-in-None.ensures in
    rw (c.in_ok-put-in-None.ensures.entries, new_is_put _ eq_is c.args.flow tally inside.rows (sym c.in-None.ensures.value) c.self.invariant.rows.most) (record {
      some = c.self.invariant.some;
      rows = rows_put _ eq_is inside.window inside.ticks c.args.flow tally inside.rows c.self.invariant.rows wide (omega (arith, until));
    })

pub returns-in-Some-clause-packets : goal.returns-in-Some-clause-packets
returns-in-Some-clause-packets c =
    let inside = c.self.inside in
    let before = c.in-Some.tally.now in
    let there = sym c.in-Some.ensures.value in
    let few : length inside.rows.entries ≤ most_flows = omega (arith, c.len-len.ensures.valid.1, c.self.invariant.rows.most) in
    let wide = ring_of _ eq_is inside.window inside.ticks c.args.flow before inside.rows.entries there c.self.invariant.rows.rings in
    let up = counted_up inside.ticks before c.count.new.self (omega (arith, wide, c.self.invariant.some)) c.count.ensures.tally in
    rw (set_is_put _ eq_is c.args.flow before c.count.new.self inside.rows.entries there few)
    (c.count.ensures.total ∙ ap packet_total (sym up) ∙ sym (put_packets _ eq_is inside.ticks c.args.flow c.count.new.self inside.rows.entries c.len-len.ensures.valid.0))

pub returns-in-Some-clause-ok : goal.returns-in-Some-clause-ok
returns-in-Some-clause-ok c =
    let inside = c.self.inside in
    let before = c.in-Some.tally.now in
    let there = sym c.in-Some.ensures.value in
    let few : length inside.rows.entries ≤ most_flows = omega (arith, c.len-len.ensures.valid.1, c.self.invariant.rows.most) in
    let wide = ring_of _ eq_is inside.window inside.ticks c.args.flow before inside.rows.entries there c.self.invariant.rows.rings in
    let up = counted_up inside.ticks before c.count.new.self (omega (arith, wide, c.self.invariant.some)) c.count.ensures.tally in
    let more = up ∙ ap (λ o. one_more_packet (found inside.ticks o)) c.in-Some.ensures.value in
    let once = put_once _ eq_is inside.ticks c.args.flow c.count.new.self inside.rows.entries c.len-len.ensures.valid.0 more in
    rw (set_is_put _ eq_is c.args.flow before c.count.new.self inside.rows.entries there few, ← c.self.view_is) (λ i. record { window = inside.window; counts = once i })

pub returns-in_ok-put-in-None-clause-packets : goal.returns-in_ok-put-in-None-clause-packets
returns-in_ok-put-in-None-clause-packets c =
    let inside = c.self.inside in
    let tally = c.count-packets.new.self in
    let fresh = c.in_ok-tally-in-None.tally in
    let wide = ap (λ t. t.packets.capacity) c.in_ok-tally-in-None.ensures in
    let up = counted_up inside.ticks fresh tally (omega (arith, wide, c.self.invariant.some)) c.count-packets.ensures.tally in
    rw (c.in_ok-put-in-None.ensures.entries, new_is_put _ eq_is c.args.flow tally inside.rows (sym c.in-None.ensures.value) c.self.invariant.rows.most)
    (c.count-packets.ensures.total ∙ ap packet_total (sym up) ∙ sym (put_packets _ eq_is inside.ticks c.args.flow tally inside.rows.entries c.len-len.ensures.valid.0))

pub returns-in_ok-put-in-None-clause-ok : goal.returns-in_ok-put-in-None-clause-ok
returns-in_ok-put-in-None-clause-ok c =
    let inside = c.self.inside in
    let tally = c.count-packets.new.self in
    let fresh = c.in_ok-tally-in-None.tally in
    let wide = ap (λ t. t.packets.capacity) c.in_ok-tally-in-None.ensures in
    let up = counted_up inside.ticks fresh tally (omega (arith, wide, c.self.invariant.some)) c.count-packets.ensures.tally in
    let none = ap (standing inside.ticks) c.in_ok-tally-in-None.ensures ∙ up_to_date inside.ticks inside.window [] (omega arith) in
    let more = up ∙ ap one_more_packet none ∙ ap (λ o. one_more_packet (found inside.ticks o)) c.in-None.ensures.value in
    let once = put_once _ eq_is inside.ticks c.args.flow tally inside.rows.entries c.len-len.ensures.valid.0 more in
    rw (c.in_ok-put-in-None.ensures.entries, new_is_put _ eq_is c.args.flow tally inside.rows (sym c.in-None.ensures.value) c.self.invariant.rows.most, ← c.self.view_is) (λ i. record { window = inside.window; counts = once i })

pub returns-in_err-tally-in-None-clause-memory : goal.returns-in_err-tally-in-None-clause-memory
returns-in_err-tally-in-None-clause-memory c =
    let none : counted_of c.args.self.now.counts c.args.flow ≡ None = ap (λ (k : Counting). counted_of k.counts c.args.flow) (sym c.self.view_is) ∙ not_counted _ eq_is c.self.inside.ticks c.args.flow c.self.inside.rows.entries (sym c.in-None.ensures.value) in
    λ there. absurd (cc (sym (ap is_some none) ∙ there))

pub returns-in_err-put-in-None-clause-memory : goal.returns-in_err-put-in-None-clause-memory
returns-in_err-put-in-None-clause-memory c =
    let none : counted_of c.args.self.now.counts c.args.flow ≡ None = ap (λ (k : Counting). counted_of k.counts c.args.flow) (sym c.self.view_is) ∙ not_counted _ eq_is c.self.inside.ticks c.args.flow c.self.inside.rows.entries (sym c.in-None.ensures.value) in
    λ there. absurd (cc (sym (ap is_some none) ∙ there))
