use Rattle.std.proofs.Common.{◌≡◌, ◌∙◌, false, ap, length, refl, rules, sym}
use Rattle.std.specs.List.{list_any}
use Rattle.frame_packets.specs.Taps.{Tap, keys_of, same_key}
use Rattle.frame_packets.proofs.Joining.{absent_in, joined_new, keys_more, read_new}
use Rattle.frame_packets.proofs.taps.Taps.add.Goals as goal

pub invariant_of-self-2 : goal.invariant_of-self-2
invariant_of-self-2 c =
    let taps = c.self.inside.list.items in
    let absent : list_any (same_key c.args.key) (keys_of taps) ≡ false = absent_in (keys_of taps) taps c.args.key refl (rw (← c.self.view_is) at c.requires.absent) in
    rw (c.push_reserved.ensures.items, c.in_ok-reserve.ensures.items)
    (keys_more c.self.inside.keys.keys c.insert.new.self.keys taps c.args.key c.push.new.self c.self.invariant absent c.in_ok-insert.ensures.keys
    (ap (λ (tap : Tap). tap.key) c.push.ensures ∙ ap (λ (tap : Tap). tap.key) c.new-tap.ensures))

pub returns-clause-joined : goal.returns-clause-joined
returns-clause-joined c =
    let taps = c.self.inside.list.items in
    let absent : list_any (same_key c.args.key) (keys_of taps) ≡ false = absent_in (keys_of taps) taps c.args.key refl (rw (← c.self.view_is) at c.requires.absent) in
    rw (← c.self.view_is, c.push_reserved.ensures.items, c.in_ok-reserve.ensures.items, c.push.ensures, c.new-tap.ensures)
    (sym (joined_new taps c.args.key c.args.cell.now absent))

pub returns-clause-place : goal.returns-clause-place
returns-clause-place c =
    let taps = c.self.inside.list.items in
    let absent : list_any (same_key c.args.key) (keys_of taps) ≡ false = absent_in (keys_of taps) taps c.args.key refl (rw (← c.self.view_is) at c.requires.absent) in
    let size : c.len-place.result ≡ length taps = search rules in
    rw (size, c.push_reserved.ensures.items, c.in_ok-reserve.ensures.items, c.push.ensures, c.new-tap.ensures)
    (read_new taps c.args.key c.args.cell.now absent)
