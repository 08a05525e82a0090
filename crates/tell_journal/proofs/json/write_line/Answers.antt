use Rattle.std.proofs.Common.{◌≡◌, ◌-◌, ◌++◌, ℕ, List, length, take, ap, ◌∙◌, arith}
use Rattle.tell_journal.proofs.Lists.{line_front, on_ok, string_put}
use Rattle.tell_journal.proofs.json.write_line.Goals as goal

pub returns : goal.returns
returns c words is =
    let line : List ℕ = c.args.line.now in
    let less : c.saturating_sub.result ≡ length line - 1 = omega (arith, c.saturating_sub.ensures) in
    let puts : c.octets.new.self ≡ c.text.new.self ++ take (length line - 1) line = c.in_ok-octets.ensures.ok ∙ ap (λ (n : ℕ). c.text.new.self ++ take n line) less in
    on_ok c.text-2.result _ _ (λ last. string_put c.args.out.now c.text.new.self c.octets.new.self c.text-2.new.self (take (length line - 1) line) _ c.in_ok-text.ensures.ok puts last (line_front line words is)) c.text-2.ensures.ok
